-- The contents that a line's words spell.
use Rattle.std.proofs.Common.{◌≡◌, ◌≤◌, ◌∷◌, [], ◌++◌, ◌==◌, ◌&&◌, ℕ, List, Bool, true, false, cond, take, drop, length, Result, Ok, Err, refl, subst, ◌∙◌, ap, codes}
use Rattle.std.specs.List.{AllByRecursion}
use Rattle.script_terms.specs.declared.cause.Cause.{Cause}
use Rattle.script_terms.specs.declared.cause.Cause.TheVariants as causes
use Rattle.script_terms.specs.declared.item.Item.{Item}
use Rattle.script_terms.specs.declared.item.Item.TheVariants.{Event}
use Rattle.script_terms.specs.declared.line.Line.TheVariants.{Submit, ForgeRaw}
use Rattle.script_terms.specs.declared.verb.Verb.{Verb}
use Rattle.script_terms.specs.declared.verb.Verb.TheVariants as verbs
use Rattle.script_grammar.specs.Classes.{number_at, party_at, data_at}
use Rattle.script_grammar.specs.Words.{data_of}
use Rattle.script_grammar.specs.Forms.{Fixed, Number, PartyWord, Data, Form, forms, made, has_fixed, said, said_by}
use Rattle.script_grammar.proofs.Steps.{bind_ok, or_ok, AllForms, by_form, submit_says}
use Rattle.script_laws.proofs.Contents.{IsContent, data_fits}
use Rattle.script_laws.proofs.Groups.{ClauseActs, update_acts}

-- what holds of the contents of a submit's clauses, and of that of raw bytes
abbrev pub Acts : Item → Type 0
Acts (Event (Submit client label clauses)) = AllByRecursion ClauseActs clauses × (1 ≤ length clauses)
Acts (Event (ForgeRaw member to content)) = IsContent content
Acts item = Unit {0}

-- either of two ways to an item has a property
either : (b : Bool) (x y : Result Item Cause) (item : Item) (P : Type 0) → (b ≡ true → x ≡ Ok item → P) → (y ≡ Ok item → P) → cond b x y ≡ Ok item → P
either true x y item P f g e = f refl e
either false x y item P f g e = g e

failed : (cause : Cause) (item : Item) (P : Type 0) → ◌≡◌ {A = Result Item Cause} (Err cause) (Ok item) → P
failed cause item P e = absurd (cc)

-- an item by some forms, or by others behind them
by_either : (P : Item → Type 0) (fs gs : List Form) (words : List (List ℕ)) (item : Item) → AllForms P fs → (said_by gs words ≡ Ok item → P item) → said_by (fs ++ gs) words ≡ Ok item → P item
by_either P [] gs words item h last e = last e
by_either P (form ∷ fs) gs words item h last e =
    let fits = length words == length form.slots && has_fixed form.slots words in
    let here = made form.slots form.make words in
    either fits here (said_by (fs ++ gs) words) item (P item)
    (λ t x. by_form P (form ∷ []) words item (h.0, tt) (ap (λ b. cond b here (Err causes.Words)) t ∙ x))
    (λ x. by_either P fs gs words item h.1 last x) e

-- raw bytes are a content
raw_made : (words : List (List ℕ)) (item : Item) → made (Number ∷ PartyWord ∷ Fixed (codes "raw") ∷ Data ∷ []) (λ member to content. Event (ForgeRaw (record { 0 = member }) to content)) words ≡ Ok item → Acts item
raw_made [] item e = absurd (cc)
raw_made (a ∷ []) item e =
    let m = bind_ok (number_at a) (λ member. made (PartyWord ∷ Fixed (codes "raw") ∷ Data ∷ []) (λ to content. Event (ForgeRaw (record { 0 = member }) to content)) []) item e in
    failed causes.Words item (Acts item) m.2
raw_made (a ∷ b ∷ []) item e =
    let m = bind_ok (number_at a) (λ member. made (PartyWord ∷ Fixed (codes "raw") ∷ Data ∷ []) (λ to content. Event (ForgeRaw (record { 0 = member }) to content)) (b ∷ [])) item e in
    let p = bind_ok (party_at b) (λ to. made (Fixed (codes "raw") ∷ Data ∷ []) (λ content. Event (ForgeRaw (record { 0 = m.0 }) to content)) []) item m.2 in
    failed causes.Words item (Acts item) p.2
raw_made (a ∷ b ∷ c ∷ []) item e =
    let m = bind_ok (number_at a) (λ member. made (PartyWord ∷ Fixed (codes "raw") ∷ Data ∷ []) (λ to content. Event (ForgeRaw (record { 0 = member }) to content)) (b ∷ c ∷ [])) item e in
    let p = bind_ok (party_at b) (λ to. made (Fixed (codes "raw") ∷ Data ∷ []) (λ content. Event (ForgeRaw (record { 0 = m.0 }) to content)) (c ∷ [])) item m.2 in
    failed causes.Words item (Acts item) p.2
raw_made (a ∷ b ∷ c ∷ d ∷ rest) item e =
    let m = bind_ok (number_at a) (λ member. made (PartyWord ∷ Fixed (codes "raw") ∷ Data ∷ []) (λ to content. Event (ForgeRaw (record { 0 = member }) to content)) (b ∷ c ∷ d ∷ rest)) item e in
    let p = bind_ok (party_at b) (λ to. made (Fixed (codes "raw") ∷ Data ∷ []) (λ content. Event (ForgeRaw (record { 0 = m.0 }) to content)) (c ∷ d ∷ rest)) item m.2 in
    let bytes = bind_ok (data_at d) (λ content. Ok (Event (ForgeRaw (record { 0 = m.0 }) p.0 content))) item p.2 in
    let same : Event (ForgeRaw (record { 0 = m.0 }) p.0 bytes.0) ≡ item = made_is (Event (ForgeRaw (record { 0 = m.0 }) p.0 bytes.0)) item bytes.2 in
    subst Acts same (data_fits d bytes.0 (or_ok causes.Word (data_of d) bytes.0 bytes.1))
  where
    made_is : (x y : Item) → ◌≡◌ {A = Result Item Cause} (Ok x) (Ok y) → x ≡ y
    made_is x y e = cc

raw_said : (words : List (List ℕ)) (item : Item) → said_by (drop 4 (forms verbs.Forge)) words ≡ Ok item → Acts item
raw_said words item e =
    either (length words == 4 && has_fixed (Number ∷ PartyWord ∷ Fixed (codes "raw") ∷ Data ∷ []) words)
    (made (Number ∷ PartyWord ∷ Fixed (codes "raw") ∷ Data ∷ []) (λ member to content. Event (ForgeRaw (record { 0 = member }) to content)) words) (Err causes.Words) item (Acts item)
    (λ _ x. raw_made words item x) (λ x. failed causes.Words item (Acts item) x) e

-- an item that a verb's words give has its contents
pub said_acts : (verb : Verb) (words : List (List ℕ)) (item : Item) → said verb words ≡ Ok item → Acts item
said_acts verbs.Submit words item e = let s = submit_says words item e in subst Acts s.item_is (update_acts s.rest s.groups s.clauses s.grouped s.read)
said_acts verbs.Forge words item e = by_either Acts (take 4 (forms verbs.Forge)) (drop 4 (forms verbs.Forge)) words item (search) (raw_said words item) e
said_acts verb words item e = by_form Acts (forms verb) words item (search) e
