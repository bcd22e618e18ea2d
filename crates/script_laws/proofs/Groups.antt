-- Each clause of an update has an action, and each action its content.
use Rattle.std.proofs.Common.{◌≡◌, ◌∷◌, [], ◌++◌, ℕ, zero, suc, ◌≤◌, List, Bool, true, false, cond, ◌||◌, ◌⊎◌, inl, inr, nat_le, take, drop, length, Result, Ok, Option, Some, None, refl, sym, subst, ◌∙◌, ap, arith, length-append, codes}
use Rattle.std.specs.List.{slice_split, onto_first, list_all, AllByRecursion}
use Rattle.std.specs.Option.{option_map, option_and_then}
use Rattle.std.specs.Str.{bytes_eq}
use Rattle.std.proofs.lemmas.Bool.{leb-true, le-leb}
use Rattle.std.proofs.lemmas.Slice.Eq.{bytes_eq-Decides}
use Rattle.std.proofs.lemmas.List.Splits.{slice_split-cons_no, slice_split-cons_yes}
use Rattle.guarded_update.specs.declared.update.Action.{Action}
use Rattle.guarded_update.specs.declared.update.Action.TheVariants.{Replace, Append, Truncate, Splice}
use Rattle.script_terms.specs.declared.cause.Cause.{Cause}
use Rattle.script_terms.specs.declared.cause.Cause.TheVariants as causes
use Rattle.script_terms.specs.declared.line.LineClause.{LineClause}
use Rattle.script_terms.specs.declared.line.LineGuard.{LineGuard}
use Rattle.script_terms.specs.declared.line.LineGuard.TheVariants.{VersionIs, SizeIs, BlockIs}
use Rattle.script_grammar.specs.Results.{◌>>=◌}
use Rattle.script_grammar.specs.Classes.{number_at, data_at}
use Rattle.script_grammar.specs.Words.{data_of}
use Rattle.script_grammar.specs.Update.{Place, AtClause, AtGuard, AfterGuard, AtAction, AfterAction, action_role, guard_role, role, is_end, groups, groups_of, is_or, guard_of, action_of, gathered, clause_of, clauses_of}
use Rattle.script_grammar.proofs.Steps.{bind_ok, or_ok}
use Rattle.script_laws.proofs.Gathered.{and_true, Gives, SomeGives, all_gathered, some_gathered}
use Rattle.script_laws.proofs.Contents.{data_long, cond_some}

-- what an action puts in has a byte; a splice may put in nothing
abbrev pub has_content : Action → Bool
has_content (Replace offset content) = nat_le 1 (length content)
has_content (Append content) = nat_le 1 (length content)
has_content (Truncate kept) = true
has_content (Splice offset remove content) = true

at_long : (word content : List ℕ) → data_at word ≡ Ok content → nat_le 1 (length content) ≡ true
at_long word content e = le-leb 1 (length content) (data_long word content (or_ok causes.Word (data_of word) content e))

-- either of two ways to an answer has a property
either : {A : Type 0} (b : Bool) (x y : Result A Cause) (z : A) (P : Type 0) → (b ≡ true → x ≡ Ok z → P) → (b ≡ false → y ≡ Ok z → P) → cond b x y ≡ Ok z → P
either true x y z P f g e = f refl e
either false x y z P f g e = g refl e

single : {Y : Type 0} (p : Y → Bool) (y : Y) (ys : List Y) → p y ≡ true → ◌≡◌ {A = Result (List Y) Cause} (Ok (y ∷ [])) (Ok ys) → list_all p ys ≡ true
single p y ys h e = let same : y ∷ [] ≡ ys = cc in ap (list_all p) (sym same) ∙ and_true (p y) true h refl

nothing : {Y : Type 0} (p : Y → Bool) (ys : List Y) → ◌≡◌ {A = Result (List Y) Cause} (Ok []) (Ok ys) → list_all p ys ≡ true
nothing p ys e = let same : [] ≡ ys = cc in ap (list_all p) (sym same)

-- an action that a group spells has its content
pub action_content : (group : List (List ℕ)) (actions : List Action) → action_of group ≡ Ok actions → list_all has_content actions ≡ true
action_content [] actions e = nothing has_content actions e
action_content (keyword ∷ []) actions e = nothing has_content actions e
action_content (keyword ∷ word ∷ []) actions e =
    either (bytes_eq keyword (codes "append")) (data_at word >>= λ d. Ok (Append d ∷ [])) (cond (bytes_eq keyword (codes "truncate")) (number_at word >>= λ n. Ok (Truncate n ∷ [])) (Ok [])) actions (list_all has_content actions ≡ true)
    (λ _ x. let d = bind_ok (data_at word) (λ d. Ok (Append d ∷ [])) actions x in single has_content (Append d.0) actions (at_long word d.0 d.1) d.2)
    (λ _ x. either (bytes_eq keyword (codes "truncate")) (number_at word >>= λ n. Ok (Truncate n ∷ [])) (Ok []) actions (list_all has_content actions ≡ true)
    (λ _ y. let n = bind_ok (number_at word) (λ n. Ok (Truncate n ∷ [])) actions y in single has_content (Truncate n.0) actions refl n.2)
    (λ _ y. nothing has_content actions y) x)
    e
action_content (keyword ∷ offset ∷ word ∷ []) actions e =
    either (bytes_eq keyword (codes "replace")) (number_at offset >>= λ o. data_at word >>= λ d. Ok (Replace o d ∷ []))
    (cond (bytes_eq keyword (codes "delete")) (number_at offset >>= λ o. number_at word >>= λ n. Ok (Splice o n [] ∷ [])) (Ok [])) actions (list_all has_content actions ≡ true)
    (λ _ x. let o = bind_ok (number_at offset) (λ o. data_at word >>= λ d. Ok (Replace o d ∷ [])) actions x in
    let d = bind_ok (data_at word) (λ d. Ok (Replace o.0 d ∷ [])) actions o.2 in single has_content (Replace o.0 d.0) actions (at_long word d.0 d.1) d.2)
    (λ _ x. either (bytes_eq keyword (codes "delete")) (number_at offset >>= λ o. number_at word >>= λ n. Ok (Splice o n [] ∷ [])) (Ok []) actions (list_all has_content actions ≡ true)
    (λ _ y. let o = bind_ok (number_at offset) (λ o. number_at word >>= λ n. Ok (Splice o n [] ∷ [])) actions y in
    let n = bind_ok (number_at word) (λ n. Ok (Splice o.0 n [] ∷ [])) actions o.2 in single has_content (Splice o.0 n.0 []) actions refl n.2)
    (λ _ y. nothing has_content actions y) x)
    e
action_content (keyword ∷ offset ∷ remove ∷ content ∷ []) actions e =
    either (bytes_eq keyword (codes "splice")) (number_at offset >>= λ o. number_at remove >>= λ n. data_at content >>= λ d. Ok (Splice o n d ∷ [])) (Ok []) actions (list_all has_content actions ≡ true)
    (λ _ x. let o = bind_ok (number_at offset) (λ o. number_at remove >>= λ n. data_at content >>= λ d. Ok (Splice o n d ∷ [])) actions x in
    let n = bind_ok (number_at remove) (λ n. data_at content >>= λ d. Ok (Splice o.0 n d ∷ [])) actions o.2 in
    let d = bind_ok (data_at content) (λ d. Ok (Splice o.0 n.0 d ∷ [])) actions n.2 in single has_content (Splice o.0 n.0 d.0) actions refl d.2)
    (λ _ x. nothing has_content actions x)
    e
action_content (a ∷ b ∷ c ∷ d ∷ f ∷ rest) actions e = nothing has_content actions e

-- what a guard names has a byte
abbrev pub has_byte : LineGuard → Bool
has_byte (VersionIs version) = true
has_byte (SizeIs size) = true
has_byte (BlockIs place content) = nat_le 1 (length content)

-- the content of a guard that a group spells has a byte
guard_content : (group : List (List ℕ)) (guards : List LineGuard) → guard_of group ≡ Ok guards → list_all has_byte guards ≡ true
guard_content [] guards e = nothing has_byte guards e
guard_content (keyword ∷ []) guards e = nothing has_byte guards e
guard_content (keyword ∷ number ∷ []) guards e =
    either (bytes_eq keyword (codes "version")) (number_at number >>= λ n. Ok (VersionIs (record { 0 = n }) ∷ []))
    (cond (bytes_eq keyword (codes "size")) (number_at number >>= λ n. Ok (SizeIs n ∷ [])) (Ok [])) guards (list_all has_byte guards ≡ true)
    (λ _ x. let n = bind_ok (number_at number) (λ n. Ok (VersionIs (record { 0 = n }) ∷ [])) guards x in single has_byte (VersionIs (record { 0 = n.0 })) guards refl n.2)
    (λ _ x. either (bytes_eq keyword (codes "size")) (number_at number >>= λ n. Ok (SizeIs n ∷ [])) (Ok []) guards (list_all has_byte guards ≡ true)
    (λ _ y. let n = bind_ok (number_at number) (λ n. Ok (SizeIs n ∷ [])) guards y in single has_byte (SizeIs n.0) guards refl n.2)
    (λ _ y. nothing has_byte guards y) x)
    e
guard_content (keyword ∷ place ∷ content ∷ []) guards e =
    either (bytes_eq keyword (codes "block")) (number_at place >>= λ p. data_at content >>= λ d. Ok (BlockIs p d ∷ [])) (Ok []) guards (list_all has_byte guards ≡ true)
    (λ _ x. let p = bind_ok (number_at place) (λ p. data_at content >>= λ d. Ok (BlockIs p d ∷ [])) guards x in
    let d = bind_ok (data_at content) (λ d. Ok (BlockIs p.0 d ∷ [])) guards p.2 in single has_byte (BlockIs p.0 d.0) guards (at_long content d.0 d.1) d.2)
    (λ _ x. nothing has_byte guards x)
    e
guard_content (a ∷ b ∷ c ∷ d ∷ rest) guards e = nothing has_byte guards e

-- a group gives an action
abbrev Acts : List (List ℕ) → Type 0
Acts group = Gives action_of group

one_long : (action : Action) (actions : List Action) → ◌≡◌ {A = Result (List Action) Cause} (Ok (action ∷ [])) (Ok actions) → 1 ≤ length actions
one_long action actions e = let same : action ∷ [] ≡ actions = cc in omega (arith, ap length same)

-- where a test holds, its first branch is taken
first_of : {A : Type 0} (b : Bool) (x y z : A) → b ≡ true → cond b x y ≡ z → x ≡ z
first_of true x y z h e = e
first_of false x y z h e = absurd (cc)

second_of : {A : Type 0} (b : Bool) (x y z : A) → b ≡ false → cond b x y ≡ z → y ≡ z
second_of true x y z h e = absurd (cc)
second_of false x y z h e = e

acts_one : (keyword word : List ℕ) → (bytes_eq keyword (codes "append") || bytes_eq keyword (codes "truncate")) ≡ true → Acts (keyword ∷ word ∷ [])
acts_one keyword word t actions e =
    either (bytes_eq keyword (codes "append")) (data_at word >>= λ d. Ok (Append d ∷ [])) (cond (bytes_eq keyword (codes "truncate")) (number_at word >>= λ n. Ok (Truncate n ∷ [])) (Ok [])) actions (1 ≤ length actions)
    (λ _ x. let d = bind_ok (data_at word) (λ d. Ok (Append d ∷ [])) actions x in one_long (Append d.0) actions d.2)
    (λ no x. let n = bind_ok (number_at word) (λ n. Ok (Truncate n ∷ [])) actions
    (first_of (bytes_eq keyword (codes "truncate")) (number_at word >>= λ n. Ok (Truncate n ∷ [])) (Ok []) (Ok actions) (right_of (bytes_eq keyword (codes "append")) (bytes_eq keyword (codes "truncate")) no t) x) in
    one_long (Truncate n.0) actions n.2)
    e
  where
    right_of : (a b : Bool) → a ≡ false → (a || b) ≡ true → b ≡ true
    right_of true b n t = absurd (cc)
    right_of false b n t = t

acts_two : (keyword offset word : List ℕ) → (bytes_eq keyword (codes "replace") || bytes_eq keyword (codes "delete")) ≡ true → Acts (keyword ∷ offset ∷ word ∷ [])
acts_two keyword offset word t actions e =
    either (bytes_eq keyword (codes "replace")) (number_at offset >>= λ o. data_at word >>= λ d. Ok (Replace o d ∷ []))
    (cond (bytes_eq keyword (codes "delete")) (number_at offset >>= λ o. number_at word >>= λ n. Ok (Splice o n [] ∷ [])) (Ok [])) actions (1 ≤ length actions)
    (λ _ x. let o = bind_ok (number_at offset) (λ o. data_at word >>= λ d. Ok (Replace o d ∷ [])) actions x in
    let d = bind_ok (data_at word) (λ d. Ok (Replace o.0 d ∷ [])) actions o.2 in one_long (Replace o.0 d.0) actions d.2)
    (λ no x. let o = bind_ok (number_at offset) (λ o. number_at word >>= λ n. Ok (Splice o n [] ∷ [])) actions
    (first_of (bytes_eq keyword (codes "delete")) (number_at offset >>= λ o. number_at word >>= λ n. Ok (Splice o n [] ∷ [])) (Ok []) (Ok actions) (right_of (bytes_eq keyword (codes "replace")) (bytes_eq keyword (codes "delete")) no t) x) in
    let n = bind_ok (number_at word) (λ n. Ok (Splice o.0 n [] ∷ [])) actions o.2 in one_long (Splice o.0 n.0 []) actions n.2)
    e
  where
    right_of : (a b : Bool) → a ≡ false → (a || b) ≡ true → b ≡ true
    right_of true b n t = absurd (cc)
    right_of false b n t = t

acts_three : (keyword offset remove content : List ℕ) → bytes_eq keyword (codes "splice") ≡ true → Acts (keyword ∷ offset ∷ remove ∷ content ∷ [])
acts_three keyword offset remove content t actions e =
    let x = first_of (bytes_eq keyword (codes "splice")) (number_at offset >>= λ o. number_at remove >>= λ n. data_at content >>= λ d. Ok (Splice o n d ∷ [])) (Ok []) (Ok actions) t e in
    let o = bind_ok (number_at offset) (λ o. number_at remove >>= λ n. data_at content >>= λ d. Ok (Splice o n d ∷ [])) actions x in
    let n = bind_ok (number_at remove) (λ n. data_at content >>= λ d. Ok (Splice o.0 n d ∷ [])) actions o.2 in
    let d = bind_ok (data_at content) (λ d. Ok (Splice o.0 n.0 d ∷ [])) actions n.2 in
    one_long (Splice o.0 n.0 d.0) actions d.2

-- an action's group: it acts, it is no `or`, and the keyword behind it stands after an action
abbrev IsActing : List ℕ → List (List ℕ) → ℕ × Place → Type 0
IsActing keyword words r = Acts (keyword ∷ take r.0 words) × (is_or (keyword ∷ take r.0 words) ≡ false) × (r.1 ≡ AfterAction)

acting_one : (keyword : List ℕ) (words : List (List ℕ)) → (bytes_eq keyword (codes "append") || bytes_eq keyword (codes "truncate")) ≡ true → 1 ≤ length words → IsActing keyword words (1, AfterAction)
acting_one keyword [] t l = absurd (omega arith)
acting_one keyword (word ∷ words) t l = (acts_one keyword word t, refl, refl)

acting_two : (keyword : List ℕ) (words : List (List ℕ)) → (bytes_eq keyword (codes "replace") || bytes_eq keyword (codes "delete")) ≡ true → 2 ≤ length words → IsActing keyword words (2, AfterAction)
acting_two keyword [] t l = absurd (omega arith)
acting_two keyword (word ∷ []) t l = absurd (omega arith)
acting_two keyword (offset ∷ word ∷ words) t l = (acts_two keyword offset word t, refl, refl)

acting_three : (keyword : List ℕ) (words : List (List ℕ)) → bytes_eq keyword (codes "splice") ≡ true → 3 ≤ length words → IsActing keyword words (3, AfterAction)
acting_three keyword [] t l = absurd (omega arith)
acting_three keyword (word ∷ []) t l = absurd (omega arith)
acting_three keyword (offset ∷ word ∷ []) t l = absurd (omega arith)
acting_three keyword (offset ∷ remove ∷ content ∷ words) t l = (acts_three keyword offset remove content t, refl, refl)

choose : {A : Type 0} (b : Bool) (x y : Option A) (z : A) (P : Type 0) → (b ≡ true → x ≡ Some z → P) → (b ≡ false → y ≡ Some z → P) → cond b x y ≡ Some z → P
choose true x y z P f g e = f refl e
choose false x y z P f g e = g refl e

acting : (keyword : List ℕ) (words : List (List ℕ)) (r : ℕ × Place) → action_role keyword ≡ Some r → r.0 ≤ length words → IsActing keyword words r
acting keyword words r e l =
    choose (bytes_eq keyword (codes "append") || bytes_eq keyword (codes "truncate")) (Some (1, AfterAction))
    (cond (bytes_eq keyword (codes "replace") || bytes_eq keyword (codes "delete")) (Some (2, AfterAction)) (cond (bytes_eq keyword (codes "splice")) (Some (3, AfterAction)) None)) r (IsActing keyword words r)
    (λ t x. let same : (1, AfterAction) ≡ r = cc in moved same (λ k. acting_one keyword words t k) l)
    (λ _ y. choose (bytes_eq keyword (codes "replace") || bytes_eq keyword (codes "delete")) (Some (2, AfterAction)) (cond (bytes_eq keyword (codes "splice")) (Some (3, AfterAction)) None) r (IsActing keyword words r)
    (λ t x. let same : (2, AfterAction) ≡ r = cc in moved same (λ k. acting_two keyword words t k) l)
    (λ _ z. choose (bytes_eq keyword (codes "splice")) (Some (3, AfterAction)) None r (IsActing keyword words r)
    (λ t x. let same : (3, AfterAction) ≡ r = cc in moved same (λ k. acting_three keyword words t k) l)
    (λ _ x. absurd (cc)) z) y)
    e
  where
    moved : {a b : ℕ × Place} → a ≡ b → (a.0 ≤ length words → IsActing keyword words a) → b.0 ≤ length words → IsActing keyword words b
    moved e f k = rw (← e) (f (rw e k))

-- words that are equal to a keyword are no `or`, unless it is one
not_or : (word keyword : List ℕ) → bytes_eq word keyword ≡ true → bytes_eq keyword (codes "or") ≡ false → bytes_eq word (codes "or") ≡ false
not_or word keyword t d = rw ((bytes_eq-Decides word keyword).0 t) d

-- a keyword's group that does not end a part, and behind which an action is still to come
abbrev IsQuiet : List ℕ → List (List ℕ) → ℕ × Place → Type 0
IsQuiet keyword words r = (is_or (keyword ∷ take r.0 words) ≡ false) × (is_end r.1 ≡ false)

guarding : (keyword : List ℕ) (words : List (List ℕ)) (r : ℕ × Place) → guard_role keyword ≡ Some r → r.0 ≤ length words → IsQuiet keyword words r
guarding keyword words r e l =
    choose (bytes_eq keyword (codes "version") || bytes_eq keyword (codes "size")) (Some (1, AfterGuard)) (cond (bytes_eq keyword (codes "block")) (Some (2, AfterGuard)) None) r (IsQuiet keyword words r)
    (λ t x. let same : (1, AfterGuard) ≡ r = cc in moved same (λ k. (one words k, refl)) l)
    (λ _ y. choose (bytes_eq keyword (codes "block")) (Some (2, AfterGuard)) None r (IsQuiet keyword words r)
    (λ t x. let same : (2, AfterGuard) ≡ r = cc in moved same (λ k. (two words k, refl)) l)
    (λ _ x. absurd (cc)) y)
    e
  where
    moved : {a b : ℕ × Place} → a ≡ b → (a.0 ≤ length words → IsQuiet keyword words a) → b.0 ≤ length words → IsQuiet keyword words b
    moved e f k = rw (← e) (f (rw e k))

    one : (words : List (List ℕ)) → 1 ≤ length words → is_or (keyword ∷ take 1 words) ≡ false
    one [] k = absurd (omega arith)
    one (word ∷ words) k = refl

    two : (words : List (List ℕ)) → 2 ≤ length words → is_or (keyword ∷ take 2 words) ≡ false
    two [] k = absurd (omega arith)
    two (a ∷ []) k = absurd (omega arith)
    two (a ∷ b ∷ words) k = refl

-- the parts between two words `or`, behind a place: each has an action, the first unless one stands before it
abbrev pub Parts : Place → List (List (List (List ℕ))) → Type 0
Parts place [] = ⊥
Parts place (part ∷ parts) = (is_end place ≡ false → SomeGives action_of part) × AllByRecursion (SomeGives action_of) parts

-- a group more in the first part
in_first : (place next : Place) (group : List (List ℕ)) (parts : List (List (List (List ℕ)))) → (is_end place ≡ false → Acts group ⊎ (is_end next ≡ false)) → Parts next parts → Parts place (onto_first group parts)
in_first place next group [] f h = absurd h
in_first place next group (part ∷ parts) f h = ((λ more. elim (f more) [ inl acts ↦ inl acts | inr still ↦ inr (h.0 still) ]), h.1)

in_part : (place next : Place) (group : List (List ℕ)) (rest : List (List (List ℕ))) → is_or group ≡ false → (is_end place ≡ false → Acts group ⊎ (is_end next ≡ false))
    → Parts next (slice_split is_or rest) → Parts place (slice_split is_or (group ∷ rest))
in_part place next group rest quiet f h = rw (slice_split-cons_no is_or group rest quiet) (in_first place next group (slice_split is_or rest) f h)

-- an `or` begins a part
new_part : (next : Place) (parts : List (List (List (List ℕ)))) → is_end next ≡ false → Parts next parts → Parts AfterAction ([] ∷ parts)
new_part next [] more h = absurd h
new_part next (part ∷ parts) more h = ((λ e. absurd (cc)), (h.0 more, h.1))

acted : (place : Place) (keyword : List ℕ) (words : List (List ℕ)) (r : ℕ × Place) (rest : List (List (List ℕ))) → IsActing keyword words r
    → Parts r.1 (slice_split is_or rest) → Parts place (slice_split is_or ((keyword ∷ take r.0 words) ∷ rest))
acted place keyword words r rest a h = in_part place r.1 (keyword ∷ take r.0 words) rest a.1 (λ _. inl a.0) h

quieted : (place : Place) (keyword : List ℕ) (words : List (List ℕ)) (r : ℕ × Place) (rest : List (List (List ℕ))) → IsQuiet keyword words r
    → Parts r.1 (slice_split is_or rest) → Parts place (slice_split is_or ((keyword ∷ take r.0 words) ∷ rest))
quieted place keyword words r rest q h = in_part place r.1 (keyword ∷ take r.0 words) rest q.0 (λ _. inr q.1) h

-- a word alone that is no `or`
plain : (keyword wanted : List ℕ) (words : List (List ℕ)) (next : Place) (r : ℕ × Place) → bytes_eq keyword wanted ≡ true → bytes_eq wanted (codes "or") ≡ false → is_end next ≡ false → (0, next) ≡ r → IsQuiet keyword words r
plain keyword wanted words next r t d more e = rw (← e) (not_or keyword wanted t d, more)

behind : (place : Place) (keyword : List ℕ) (words : List (List ℕ)) (r : ℕ × Place) (rest : List (List (List ℕ))) → role place keyword ≡ Some r → r.0 ≤ length words
    → Parts r.1 (slice_split is_or rest) → Parts place (slice_split is_or ((keyword ∷ take r.0 words) ∷ rest))
behind AtClause keyword words r rest e l h =
    choose (bytes_eq keyword (codes "if")) (Some (0, AtGuard)) (action_role keyword) r (Parts AtClause (slice_split is_or ((keyword ∷ take r.0 words) ∷ rest)))
    (λ t x. quieted AtClause keyword words r rest (plain keyword (codes "if") words AtGuard r t refl refl (cc)) h)
    (λ _ x. acted AtClause keyword words r rest (acting keyword words r x l) h) e
behind AtGuard keyword words r rest e l h = quieted AtGuard keyword words r rest (guarding keyword words r e l) h
behind AfterGuard keyword words r rest e l h =
    choose (bytes_eq keyword (codes "and")) (Some (0, AtGuard)) (cond (bytes_eq keyword (codes "then")) (Some (0, AtAction)) None) r (Parts AfterGuard (slice_split is_or ((keyword ∷ take r.0 words) ∷ rest)))
    (λ t x. quieted AfterGuard keyword words r rest (plain keyword (codes "and") words AtGuard r t refl refl (cc)) h)
    (λ _ y. choose (bytes_eq keyword (codes "then")) (Some (0, AtAction)) None r (Parts AfterGuard (slice_split is_or ((keyword ∷ take r.0 words) ∷ rest)))
    (λ t x. quieted AfterGuard keyword words r rest (plain keyword (codes "then") words AtAction r t refl refl (cc)) h)
    (λ _ x. absurd (cc)) y) e
behind AtAction keyword words r rest e l h = acted AtAction keyword words r rest (acting keyword words r e l) h
behind AfterAction keyword words r rest e l h =
    choose (bytes_eq keyword (codes "+")) (Some (0, AtAction)) (cond (bytes_eq keyword (codes "or")) (Some (0, AtClause)) None) r (Parts AfterAction (slice_split is_or ((keyword ∷ take r.0 words) ∷ rest)))
    (λ t x. quieted AfterAction keyword words r rest (plain keyword (codes "+") words AtAction r t refl refl (cc)) h)
    (λ _ y. choose (bytes_eq keyword (codes "or")) (Some (0, AtClause)) None r (Parts AfterAction (slice_split is_or ((keyword ∷ take r.0 words) ∷ rest)))
    (λ t x. let same : (0, AtClause) ≡ r = cc in
    rw (← same) (rw (slice_split-cons_yes is_or (keyword ∷ []) rest t) (new_part AtClause (slice_split is_or rest) refl (subst (λ (x : ℕ × Place). Parts x.1 (slice_split is_or rest)) (sym same) h))))
    (λ _ x. absurd (cc)) y) e

some_then : {A B : Type 0} (f : A → Option B) (x : Option A) (y : B) → option_and_then f x ≡ Some y → (a : A) × (x ≡ Some a) × (f a ≡ Some y)
some_then f (Some a) y e = (a, refl, e)
some_then f None y e = absurd (cc)

some_map : {A B : Type 0} (f : A → B) (x : Option A) (y : B) → option_map f x ≡ Some y → (a : A) × (x ≡ Some a) × (f a ≡ y)
some_map f (Some a) y e = (a, refl, cc)
some_map f None y e = absurd (cc)

ended : (place : Place) (b : Bool) (gs : List (List (List ℕ))) → is_end place ≡ b → cond b (Some []) None ≡ Some gs → Parts place (slice_split is_or gs)
ended place true gs e f = let same : [] ≡ gs = cc in rw (← same) ((λ more. absurd (cc)), tt)
ended place false gs e f = absurd (cc)

parts_of : (most : ℕ) (place : Place) (words : List (List ℕ)) (gs : List (List (List ℕ))) → groups most place words ≡ Some gs → Parts place (slice_split is_or gs)
parts_of zero place [] gs e = ended place (is_end place) gs refl e
parts_of (suc most) place [] gs e = ended place (is_end place) gs refl e
parts_of zero place (keyword ∷ words) gs e = absurd (cc)
parts_of (suc most) place (keyword ∷ words) gs e =
    let a = some_then (λ (r : ℕ × Place). cond (nat_le r.0 (length words)) (option_map (λ rest. (keyword ∷ take r.0 words) ∷ rest) (groups most r.1 (drop r.0 words))) None) (role place keyword) gs e in
    let b = cond_some (nat_le (a.0).0 (length words)) (option_map (λ rest. (keyword ∷ take (a.0).0 words) ∷ rest) (groups most (a.0).1 (drop (a.0).0 words))) gs a.2 in
    let c = some_map (λ rest. (keyword ∷ take (a.0).0 words) ∷ rest) (groups most (a.0).1 (drop (a.0).0 words)) gs b.1 in
    rw (← c.2) (behind place keyword words a.0 c.0 a.1 (leb-true (a.0).0 (length words) b.0) (parts_of most (a.0).1 (drop (a.0).0 words) c.0 c.1))

-- a clause has an action, and its actions and guards their content
abbrev pub ClauseActs : LineClause → Type 0
ClauseActs c = (1 ≤ length c.actions) × (list_all has_content c.actions ≡ true) × (list_all has_byte c.guards ≡ true)

clause_acts : (part : List (List (List ℕ))) (clauses : List LineClause) → SomeGives action_of part → clause_of part ≡ Ok clauses → AllByRecursion ClauseActs clauses × (length clauses ≡ 1)
clause_acts part clauses h e =
    let a = bind_ok (gathered guard_of part) (λ guards. gathered action_of part >>= λ actions. Ok (record { guards = guards; actions = actions } ∷ [])) clauses e in
    let b = bind_ok (gathered action_of part) (λ actions. Ok (record { guards = a.0; actions = actions } ∷ [])) clauses a.2 in
    let same : record { guards = a.0; actions = b.0 } ∷ [] ≡ clauses = cc in
    rw (← same) (((some_gathered action_of part b.0 h b.1, all_gathered action_of has_content action_content part b.0 b.1, all_gathered guard_of has_byte guard_content part a.0 a.1), tt), refl)

each_append : {X : Type 0} (P : X → Type 0) (xs ys : List X) → AllByRecursion P xs → AllByRecursion P ys → AllByRecursion P (xs ++ ys)
each_append P [] ys h k = k
each_append P (x ∷ xs) ys h k = (h.0, each_append P xs ys h.1 k)

each_clause : (parts : List (List (List (List ℕ)))) (clauses : List LineClause) → AllByRecursion (SomeGives action_of) parts → gathered clause_of parts ≡ Ok clauses
    → AllByRecursion ClauseActs clauses × (length clauses ≡ length parts)
each_clause [] clauses h e = let same : [] ≡ clauses = cc in rw (← same) (tt, refl)
each_clause (part ∷ parts) clauses h e =
    let a = bind_ok (clause_of part) (λ y. gathered clause_of parts >>= λ rest. Ok (y ++ rest)) clauses e in
    let b = bind_ok (gathered clause_of parts) (λ rest. Ok (a.0 ++ rest)) clauses a.2 in
    let same : a.0 ++ b.0 ≡ clauses = cc in
    let first = clause_acts part a.0 h.0 a.1 in
    let rest = each_clause parts b.0 h.1 b.1 in
    rw (← same) (each_append ClauseActs a.0 b.0 first.0 rest.0, omega (arith, length-append a.0 b.0, first.1, rest.1))

each_part : (parts : List (List (List (List ℕ)))) → Parts AtClause parts → AllByRecursion (SomeGives action_of) parts × (1 ≤ length parts)
each_part [] h = absurd h
each_part (part ∷ parts) h = ((h.0 refl, h.1), omega arith)

-- an update that words spell has a clause, and each clause an action
pub update_acts : (words : List (List ℕ)) (gs : List (List (List ℕ))) (clauses : List LineClause) → groups_of words ≡ Some gs → clauses_of gs ≡ Ok clauses
    → AllByRecursion ClauseActs clauses × (1 ≤ length clauses)
update_acts words gs clauses e f =
    let p = each_part (slice_split is_or gs) (parts_of (length words) AtClause words gs e) in
    let c = each_clause (slice_split is_or gs) clauses p.0 f in
    (c.0, omega (arith, c.1, p.1))
