-- An item that a line gives passed each step.
use Rattle.std.proofs.Common.{◌≡◌, ◌∷◌, [], ℕ, List, Bool, true, false, cond, ◌&&◌, ◌==◌, length, Option, Some, None, Result, Ok, Err, refl, sym, subst, ◌∙◌, ap}
use Rattle.script_terms.specs.declared.cause.Cause.{Cause}
use Rattle.script_terms.specs.declared.cause.Cause.TheVariants as causes
use Rattle.script_terms.specs.declared.item.Item.{Item}
use Rattle.script_terms.specs.declared.item.Item.TheVariants.{Event}
use Rattle.script_terms.specs.declared.line.Line.TheVariants.{Submit}
use Rattle.script_terms.specs.declared.line.LineClause.{LineClause}
use Rattle.pond_base.specs.declared.numbers.Party.{Party}
use Rattle.script_terms.specs.declared.verb.Verb.{Verb}
use Rattle.script_terms.specs.declared.verb.Verb.TheVariants as verbs
use Rattle.script_grammar.specs.Results.{◌>>=◌, or_cause, where_holds}
use Rattle.script_grammar.specs.Classes.{number_at, label_at, party_at, name_at, data_at}
use Rattle.script_grammar.specs.Forms.{Slot, Fixed, Number, Label, PartyWord, Name, Data, Makes, Form, forms, made, has_fixed, said_by, submit_of, said, verb_of}
use Rattle.script_grammar.specs.Update.{groups_of, clauses_of}
use Rattle.script_grammar.specs.Known.{known, rank}
use Rattle.script_grammar.specs.Steps.{rank_of, in_order, in_range, in_size, item_of, Fits}

pub bind_ok : {A B : Type 0} (r : Result A Cause) (f : A → Result B Cause) (y : B) → (r >>= f) ≡ Ok y → (x : A) × (r ≡ Ok x) × (f x ≡ Ok y)
bind_ok (Ok x) f y e = (x, refl, e)
bind_ok (Err c) f y e = absurd (cc)

pub holds_ok : {A : Type 0} (b : Bool) (c : Cause) (x y : A) → where_holds b c x ≡ Ok y → (b ≡ true) × (x ≡ y)
holds_ok true c x y e = (refl, cc)
holds_ok false c x y e = absurd (cc)

pub or_ok : {A : Type 0} (cause : Cause) (x : Option A) (y : A) → or_cause cause x ≡ Ok y → x ≡ Some y
or_ok cause (Some x) y e = cc
or_ok cause None y e = absurd (cc)

-- what makes items of a kind
abbrev pub AllMake : (Item → Type 0) → (slots : List Slot) → Makes slots → Type 0
AllMake P [] item = P item
AllMake P (Fixed fixed ∷ slots) make = AllMake P slots make
AllMake P (Number ∷ slots) make = (n : ℕ) → AllMake P slots (make n)
AllMake P (Label ∷ slots) make = (l : List ℕ) → AllMake P slots (make l)
AllMake P (PartyWord ∷ slots) make = (p : Party) → AllMake P slots (make p)
AllMake P (Name ∷ slots) make = (n : List ℕ) → AllMake P slots (make n)
AllMake P (Data ∷ slots) make = (d : List ℕ) → AllMake P slots (make d)

made_holds : (P : Item → Type 0) (slots : List Slot) (make : Makes slots) (words : List (List ℕ)) (item : Item) → AllMake P slots make → made slots make words ≡ Ok item → P item
made_holds P [] make words item h e = let same : make ≡ item = cc in subst P same h
made_holds P (Fixed fixed ∷ slots) make (word ∷ words) item h e = made_holds P slots make words item h e
made_holds P (Number ∷ slots) make (word ∷ words) item h e = let b = bind_ok (number_at word) (λ n. made slots (make n) words) item e in made_holds P slots (make b.0) words item (h b.0) b.2
made_holds P (Label ∷ slots) make (word ∷ words) item h e = let b = bind_ok (label_at word) (λ n. made slots (make n) words) item e in made_holds P slots (make b.0) words item (h b.0) b.2
made_holds P (PartyWord ∷ slots) make (word ∷ words) item h e = let b = bind_ok (party_at word) (λ n. made slots (make n) words) item e in made_holds P slots (make b.0) words item (h b.0) b.2
made_holds P (Name ∷ slots) make (word ∷ words) item h e = let b = bind_ok (name_at word) (λ n. made slots (make n) words) item e in made_holds P slots (make b.0) words item (h b.0) b.2
made_holds P (Data ∷ slots) make (word ∷ words) item h e = let b = bind_ok (data_at word) (λ n. made slots (make n) words) item e in made_holds P slots (make b.0) words item (h b.0) b.2
made_holds P (Fixed fixed ∷ slots) make [] item h e = absurd (cc)
made_holds P (Number ∷ slots) make [] item h e = absurd (cc)
made_holds P (Label ∷ slots) make [] item h e = absurd (cc)
made_holds P (PartyWord ∷ slots) make [] item h e = absurd (cc)
made_holds P (Name ∷ slots) make [] item h e = absurd (cc)
made_holds P (Data ∷ slots) make [] item h e = absurd (cc)

abbrev pub AllForms : (Item → Type 0) → List Form → Type 0
AllForms P [] = Unit {0}
AllForms P (form ∷ forms) = AllMake P form.slots form.make × AllForms P forms

chosen : (b : Bool) (x y : Result Item Cause) (item : Item) (P : Type 0) → (x ≡ Ok item → P) → (y ≡ Ok item → P) → cond b x y ≡ Ok item → P
chosen true x y item P f g e = f e
chosen false x y item P f g e = g e

-- an item that words make by one of some forms is of the kind that the forms make
pub by_form : (P : Item → Type 0) (fs : List Form) (words : List (List ℕ)) (item : Item) → AllForms P fs → said_by fs words ≡ Ok item → P item
by_form P [] words item h e = absurd (cc)
by_form P (form ∷ fs) words item h e =
    chosen (length words == length form.slots && has_fixed form.slots words) (made form.slots form.make words) (said_by fs words) item (P item)
    (λ x. made_holds P form.slots form.make words item h.0 x) (λ y. by_form P fs words item h.1 y) e

-- what a submit's words give: groups, a client, a label and the clauses
pub record Submits (words : List (List ℕ)) (item : Item) : Type 0 where
  pub rest : List (List ℕ)
  pub groups : List (List (List ℕ))
  pub client : ℕ
  pub label : List ℕ
  pub clauses : List LineClause
  pub grouped : groups_of rest ≡ Some groups
  pub read : clauses_of groups ≡ Ok clauses
  pub item_is : Event (Submit (record { 0 = client }) label clauses) ≡ item

pub submit_says : (words : List (List ℕ)) (item : Item) → submit_of words ≡ Ok item → Submits words item
submit_says [] item e = absurd (cc)
submit_says (w ∷ []) item e = absurd (cc)
submit_says (client ∷ label ∷ words) item e =
    let a = bind_ok (or_cause causes.Words (groups_of words)) (λ g. number_at client >>= λ c. label_at label >>= λ l. clauses_of g >>= λ u. Ok (Event (Submit (record { 0 = c }) l u))) item e in
    let b = bind_ok (number_at client) (λ c. label_at label >>= λ l. clauses_of a.0 >>= λ u. Ok (Event (Submit (record { 0 = c }) l u))) item a.2 in
    let c = bind_ok (label_at label) (λ l. clauses_of a.0 >>= λ u. Ok (Event (Submit (record { 0 = b.0 }) l u))) item b.2 in
    let d = bind_ok (clauses_of a.0) (λ u. Ok (Event (Submit (record { 0 = b.0 }) c.0 u))) item c.2 in
    record { rest = words; groups = a.0; client = b.0; label = c.0; clauses = d.0; grouped = or_ok causes.Words (groups_of words) a.0 a.1; read = d.1; item_is = cc }

-- what a verb's words give has its rank
said_rank : (verb : Verb) (words : List (List ℕ)) (item : Item) → said verb words ≡ Ok item → rank item ≡ rank_of verb
said_rank verbs.Submit words item e = ap rank (sym (submit_says words item e).item_is)
said_rank verb words item e = by_form (λ x. rank x ≡ rank_of verb) (forms verb) words item (search) e

-- an item that words give behind earlier lines: what a verb's words say, and it passed each step
pub record Passed (earlier : List Item) (words : List (List ℕ)) (item : Item) : Type 0 where
  pub verb : Verb
  pub said : said verb words ≡ Ok item
  pub fits : Fits earlier item

pub item_passed : (earlier : List Item) (word : List ℕ) (words : List (List ℕ)) (item : Item) → item_of earlier word words ≡ Ok item → Passed earlier words item
item_passed earlier word words item e =
    let sized = λ (x : Item). where_holds (in_size x) causes.Size x in
    let ranged = λ (x : Item). where_holds (in_range (known earlier) x) causes.Range x >>= sized in
    let spoken = λ (v : Verb). said v words >>= ranged in
    let ordered = λ (v : Verb). where_holds (in_order (known earlier).last (rank_of v)) causes.Order v >>= spoken in
    let a = bind_ok (or_cause causes.Verb (verb_of word)) ordered item e in
    let b = bind_ok (where_holds (in_order (known earlier).last (rank_of a.0)) causes.Order a.0) spoken item a.2 in
    let o = holds_ok (in_order (known earlier).last (rank_of a.0)) causes.Order a.0 b.0 b.1 in
    let c = bind_ok (said b.0 words) ranged item b.2 in
    let d = bind_ok (where_holds (in_range (known earlier) c.0) causes.Range c.0) sized item c.2 in
    let r = holds_ok (in_range (known earlier) c.0) causes.Range c.0 d.0 d.1 in
    let s = holds_ok (in_size d.0) causes.Size d.0 item d.2 in
    let rank_is : rank c.0 ≡ rank_of a.0 = said_rank b.0 words c.0 c.1 ∙ ap rank_of (sym o.1) in
    let same : c.0 ≡ item = r.1 ∙ s.1 in
    record {
      verb = b.0;
      said = c.1 ∙ ap Ok same;
      fits = record {
        order = ap (λ x. in_order (known earlier).last (rank x)) (sym same) ∙ ap (in_order (known earlier).last) rank_is ∙ o.0;
        range = ap (in_range (known earlier)) (sym same) ∙ r.0;
        size = ap in_size (sym s.1) ∙ s.0;
      };
    }

-- an item that a line gives fits
pub item_fits : (earlier : List Item) (word : List ℕ) (words : List (List ℕ)) (item : Item) → item_of earlier word words ≡ Ok item → Fits earlier item
item_fits earlier word words item e = (item_passed earlier word words item e).fits
