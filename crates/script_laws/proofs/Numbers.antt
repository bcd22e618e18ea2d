-- The numbers of a submit that words spell have four bytes, and its label is one.
use Rattle.std.proofs.Common.{◌≡◌, ◌∷◌, [], ◌++◌, ◌&&◌, ℕ, ◌+◌, List, Bool, true, false, cond, nat_le, reverse, map, Result, Ok, Err, refl, sym, subst, ◌∙◌, ap, codes}
use Rattle.std.specs.List.{list_all, flat_map, slice_split, AllByRecursion as Each}
use Rattle.std.specs.Str.{bytes_eq}
use Rattle.guarded_update.specs.declared.update.Action.{Action}
use Rattle.guarded_update.specs.declared.update.Action.TheVariants.{Replace, Append, Truncate, Splice}
use Rattle.pond_base.specs.Label.{is_label}
use Rattle.ring_model.proofs.History.{Each-append}
use Rattle.ring_model.proofs.Lists.{Each-there, Each-from_there}
use Rattle.script_laws.proofs.Elements.{in_reverse}
use Rattle.script_terms.specs.declared.cause.Cause.{Cause}
use Rattle.script_terms.specs.declared.cause.Cause.TheVariants as causes
use Rattle.script_terms.specs.declared.item.Item.{Item}
use Rattle.script_terms.specs.declared.item.Item.TheVariants.{Declared, Event}
use Rattle.script_terms.specs.declared.item.Placed.{Placed}
use Rattle.script_terms.specs.declared.line.Line.TheVariants.{Submit}
use Rattle.script_terms.specs.declared.line.LineClause.{LineClause}
use Rattle.script_terms.specs.declared.line.LineGuard.{LineGuard}
use Rattle.script_terms.specs.declared.line.LineGuard.TheVariants.{VersionIs, SizeIs, BlockIs}
use Rattle.script_terms.specs.declared.script.Script.{Script}
use Rattle.script_terms.specs.declared.verb.Verb.{Verb}
use Rattle.script_terms.specs.declared.verb.Verb.TheVariants as verbs
use Rattle.script_grammar.specs.Classes.{number_at, label_at, data_at}
use Rattle.script_grammar.specs.Forms.{forms, said, submit_of}
use Rattle.script_grammar.specs.Known.{known}
use Rattle.script_grammar.specs.Results.{◌>>=◌, or_cause, where_holds}
use Rattle.script_grammar.specs.Script as script
use Rattle.script_grammar.specs.Script.{items, line_after, at_line, event_in, script_by, script_from, script_of}
use Rattle.script_grammar.specs.Steps.{item_of, counted, spoken, line_of, is_within}
use Rattle.script_grammar.specs.Update.{groups_of, is_or, guard_of, action_of, gathered, clause_of, clauses_of}
use Rattle.script_grammar.specs.Words.{number_of, number_after, is_numeral, label_of, is_comment, is_plain, words_of, lines_of}
use Rattle.script_grammar.proofs.Steps.{bind_ok, holds_ok, or_ok, by_form, item_passed}
use Rattle.script_laws.proofs.Contents.{cond_some}
use Rattle.script_laws.proofs.Gathered.{and_true, and_second, all_gathered}
use Rattle.text_model.specs.Requests.{Numbered}

-- ---- words

-- a number has four bytes
abbrev pub is_short : ℕ → Bool
is_short n = nat_le n 4294967295

number_short : (word : List ℕ) (n : ℕ) → number_at word ≡ Ok n → is_short n ≡ true
number_short word n e =
    let c = cond_some (is_numeral word && nat_le (number_after 0 word) 4294967295) _ n (or_ok causes.Word (number_of word) n e) in
    let same : number_after 0 word ≡ n = cc in
    ap is_short (sym same) ∙ and_second (is_numeral word) (nat_le (number_after 0 word) 4294967295) c.0

label_is : (word label : List ℕ) → label_at word ≡ Ok label → is_label label ≡ true
label_is word label e =
    let c = cond_some (is_label word) _ label (or_ok causes.Word (label_of word) label e) in
    let same : word ≡ label = cc in
    ap is_label (sym same) ∙ c.0

-- ---- the parts of an update

-- the numbers of an action
abbrev pub action_short : Action → Bool
action_short (Replace offset content) = is_short offset
action_short (Append content) = true
action_short (Truncate kept) = is_short kept
action_short (Splice offset remove content) = is_short offset && is_short remove

-- the number of a guard
abbrev pub guard_short : LineGuard → Bool
guard_short (VersionIs version) = is_short version.0
guard_short (SizeIs size) = is_short size
guard_short (BlockIs place content) = is_short place

-- the numbers of a clause
abbrev pub clause_short : LineClause → Bool
clause_short c = list_all guard_short c.guards && list_all action_short c.actions

-- either of two ways to an answer has a property
either : {A : Type 0} (b : Bool) (x y : Result A Cause) (z : A) (P : Type 0) → (x ≡ Ok z → P) → (y ≡ Ok z → P) → cond b x y ≡ Ok z → P
either true x y z P f g e = f e
either false x y z P f g e = g e

single : {Y : Type 0} (p : Y → Bool) (y : Y) (ys : List Y) → p y ≡ true → ◌≡◌ {A = Result (List Y) Cause} (Ok (y ∷ [])) (Ok ys) → list_all p ys ≡ true
single p y ys h e = let same : y ∷ [] ≡ ys = cc in ap (list_all p) (sym same) ∙ and_true (p y) true h refl

nothing : {Y : Type 0} (p : Y → Bool) (ys : List Y) → ◌≡◌ {A = Result (List Y) Cause} (Ok []) (Ok ys) → list_all p ys ≡ true
nothing p ys e = let same : [] ≡ ys = cc in ap (list_all p) (sym same)

action_spelled : (group : List (List ℕ)) (actions : List Action) → action_of group ≡ Ok actions → list_all action_short actions ≡ true
action_spelled [] actions e = nothing action_short actions e
action_spelled (keyword ∷ []) actions e = nothing action_short actions e
action_spelled (keyword ∷ word ∷ []) actions e =
    either (bytes_eq keyword (codes "append")) (data_at word >>= λ d. Ok (Append d ∷ [])) (cond (bytes_eq keyword (codes "truncate")) (number_at word >>= λ n. Ok (Truncate n ∷ [])) (Ok [])) actions (list_all action_short actions ≡ true)
    (λ x. let d = bind_ok (data_at word) (λ d. Ok (Append d ∷ [])) actions x in single action_short (Append d.0) actions refl d.2)
    (λ x. either (bytes_eq keyword (codes "truncate")) (number_at word >>= λ n. Ok (Truncate n ∷ [])) (Ok []) actions (list_all action_short actions ≡ true)
    (λ y. let n = bind_ok (number_at word) (λ n. Ok (Truncate n ∷ [])) actions y in single action_short (Truncate n.0) actions (number_short word n.0 n.1) n.2)
    (λ y. nothing action_short actions y) x)
    e
action_spelled (keyword ∷ offset ∷ word ∷ []) actions e =
    either (bytes_eq keyword (codes "replace")) (number_at offset >>= λ o. data_at word >>= λ d. Ok (Replace o d ∷ []))
    (cond (bytes_eq keyword (codes "delete")) (number_at offset >>= λ o. number_at word >>= λ n. Ok (Splice o n [] ∷ [])) (Ok [])) actions (list_all action_short actions ≡ true)
    (λ x. let o = bind_ok (number_at offset) (λ o. data_at word >>= λ d. Ok (Replace o d ∷ [])) actions x in
    let d = bind_ok (data_at word) (λ d. Ok (Replace o.0 d ∷ [])) actions o.2 in single action_short (Replace o.0 d.0) actions (number_short offset o.0 o.1) d.2)
    (λ x. either (bytes_eq keyword (codes "delete")) (number_at offset >>= λ o. number_at word >>= λ n. Ok (Splice o n [] ∷ [])) (Ok []) actions (list_all action_short actions ≡ true)
    (λ y. let o = bind_ok (number_at offset) (λ o. number_at word >>= λ n. Ok (Splice o n [] ∷ [])) actions y in
    let n = bind_ok (number_at word) (λ n. Ok (Splice o.0 n [] ∷ [])) actions o.2 in
    single action_short (Splice o.0 n.0 []) actions (and_true (is_short o.0) (is_short n.0) (number_short offset o.0 o.1) (number_short word n.0 n.1)) n.2)
    (λ y. nothing action_short actions y) x)
    e
action_spelled (keyword ∷ offset ∷ remove ∷ content ∷ []) actions e =
    either (bytes_eq keyword (codes "splice")) (number_at offset >>= λ o. number_at remove >>= λ n. data_at content >>= λ d. Ok (Splice o n d ∷ [])) (Ok []) actions (list_all action_short actions ≡ true)
    (λ x. let o = bind_ok (number_at offset) (λ o. number_at remove >>= λ n. data_at content >>= λ d. Ok (Splice o n d ∷ [])) actions x in
    let n = bind_ok (number_at remove) (λ n. data_at content >>= λ d. Ok (Splice o.0 n d ∷ [])) actions o.2 in
    let d = bind_ok (data_at content) (λ d. Ok (Splice o.0 n.0 d ∷ [])) actions n.2 in
    single action_short (Splice o.0 n.0 d.0) actions (and_true (is_short o.0) (is_short n.0) (number_short offset o.0 o.1) (number_short remove n.0 n.1)) d.2)
    (λ x. nothing action_short actions x)
    e
action_spelled (a ∷ b ∷ c ∷ d ∷ f ∷ rest) actions e = nothing action_short actions e

guard_spelled : (group : List (List ℕ)) (guards : List LineGuard) → guard_of group ≡ Ok guards → list_all guard_short guards ≡ true
guard_spelled [] guards e = nothing guard_short guards e
guard_spelled (keyword ∷ []) guards e = nothing guard_short guards e
guard_spelled (keyword ∷ number ∷ []) guards e =
    either (bytes_eq keyword (codes "version")) (number_at number >>= λ n. Ok (VersionIs (record { 0 = n }) ∷ []))
    (cond (bytes_eq keyword (codes "size")) (number_at number >>= λ n. Ok (SizeIs n ∷ [])) (Ok [])) guards (list_all guard_short guards ≡ true)
    (λ x. let n = bind_ok (number_at number) (λ n. Ok (VersionIs (record { 0 = n }) ∷ [])) guards x in single guard_short (VersionIs (record { 0 = n.0 })) guards (number_short number n.0 n.1) n.2)
    (λ x. either (bytes_eq keyword (codes "size")) (number_at number >>= λ n. Ok (SizeIs n ∷ [])) (Ok []) guards (list_all guard_short guards ≡ true)
    (λ y. let n = bind_ok (number_at number) (λ n. Ok (SizeIs n ∷ [])) guards y in single guard_short (SizeIs n.0) guards (number_short number n.0 n.1) n.2)
    (λ y. nothing guard_short guards y) x)
    e
guard_spelled (keyword ∷ place ∷ content ∷ []) guards e =
    either (bytes_eq keyword (codes "block")) (number_at place >>= λ p. data_at content >>= λ d. Ok (BlockIs p d ∷ [])) (Ok []) guards (list_all guard_short guards ≡ true)
    (λ x. let p = bind_ok (number_at place) (λ p. data_at content >>= λ d. Ok (BlockIs p d ∷ [])) guards x in
    let d = bind_ok (data_at content) (λ d. Ok (BlockIs p.0 d ∷ [])) guards p.2 in single guard_short (BlockIs p.0 d.0) guards (number_short place p.0 p.1) d.2)
    (λ x. nothing guard_short guards x)
    e
guard_spelled (a ∷ b ∷ c ∷ d ∷ rest) guards e = nothing guard_short guards e

clause_spelled : (part : List (List (List ℕ))) (clauses : List LineClause) → clause_of part ≡ Ok clauses → list_all clause_short clauses ≡ true
clause_spelled part clauses e =
    let a = bind_ok (gathered guard_of part) (λ guards. gathered action_of part >>= λ actions. Ok (record { guards = guards; actions = actions } ∷ [])) clauses e in
    let b = bind_ok (gathered action_of part) (λ actions. Ok (record { guards = a.0; actions = actions } ∷ [])) clauses a.2 in
    single clause_short (record { guards = a.0; actions = b.0 }) clauses
    (and_true (list_all guard_short a.0) (list_all action_short b.0) (all_gathered guard_of guard_short guard_spelled part a.0 a.1) (all_gathered action_of action_short action_spelled part b.0 b.1))
    b.2

-- ---- lines

-- a submit's label is one, and its numbers have four bytes
abbrev pub Spelled : Item → Type 0
Spelled (Event (Submit client label clauses)) = (is_label label ≡ true) × (list_all clause_short clauses ≡ true)
Spelled item = Unit {0}

submit_spelled : (words : List (List ℕ)) (item : Item) → submit_of words ≡ Ok item → Spelled item
submit_spelled [] item e = absurd (cc)
submit_spelled (w ∷ []) item e = absurd (cc)
submit_spelled (client ∷ label ∷ words) item e =
    let a = bind_ok (or_cause causes.Words (groups_of words)) (λ g. number_at client >>= λ c. label_at label >>= λ l. clauses_of g >>= λ u. Ok (Event (Submit (record { 0 = c }) l u))) item e in
    let b = bind_ok (number_at client) (λ c. label_at label >>= λ l. clauses_of a.0 >>= λ u. Ok (Event (Submit (record { 0 = c }) l u))) item a.2 in
    let c = bind_ok (label_at label) (λ l. clauses_of a.0 >>= λ u. Ok (Event (Submit (record { 0 = b.0 }) l u))) item b.2 in
    let d = bind_ok (clauses_of a.0) (λ u. Ok (Event (Submit (record { 0 = b.0 }) c.0 u))) item c.2 in
    let same : Event (Submit (record { 0 = b.0 }) c.0 d.0) ≡ item = cc in
    rw (← same) (label_is label c.0 c.1, all_gathered clause_of clause_short clause_spelled (slice_split is_or a.0) d.0 d.1)

-- so is what the words of a verb give
said_spelled : (verb : Verb) (words : List (List ℕ)) (item : Item) → said verb words ≡ Ok item → Spelled item
said_spelled verbs.Submit words item e = submit_spelled words item e
said_spelled verb words item e = by_form Spelled (forms verb) words item (search) e

spoken_spelled : (earlier : List Item) (words : List (List ℕ)) (found : List Item) → spoken earlier words ≡ Ok found → Each Spelled found
spoken_spelled earlier [] found e = let same : [] ≡ found = cc in subst (Each Spelled) same tt
spoken_spelled earlier (word ∷ words) found e =
    either (is_comment word) (Ok []) (item_of earlier word words >>= counted earlier >>= λ item. Ok (item ∷ [])) found (Each Spelled found)
    (λ x. let same : [] ≡ found = cc in subst (Each Spelled) same tt)
    (λ x. let a = bind_ok (item_of earlier word words >>= counted earlier) (λ item. Ok (item ∷ [])) found x in
    let b = bind_ok (item_of earlier word words) (counted earlier) a.0 a.1 in
    let c = holds_ok (is_within (b.0 ∷ earlier)) causes.Full b.0 a.0 b.2 in
    let p = item_passed earlier word words b.0 b.1 in
    let same : a.0 ∷ [] ≡ found = cc in
    subst (Each Spelled) same (subst Spelled c.1 (said_spelled p.verb words b.0 p.said), tt))
    e

line_spelled : (earlier : List Item) (line : List ℕ) (found : List Item) → line_of earlier line ≡ Ok found → Each Spelled found
line_spelled earlier line found e = spoken_spelled earlier (words_of line) found (plain_first (list_all is_plain line) (spoken earlier (words_of line)) found e)
  where
    plain_first : (b : Bool) (x : Result (List Item) Cause) (z : List Item) → cond b x (Err causes.Byte) ≡ Ok z → x ≡ Ok z
    plain_first true x z e = e
    plain_first false x z e = absurd (cc)

-- ---- scripts

abbrev IsSpelt : Placed → Type 0
IsSpelt p = Spelled p.item

with_spelled : (number : ℕ) (found : List Item) (earlier : List Placed) → Each Spelled found → Each IsSpelt earlier → Each IsSpelt (map (λ item. record { line = number; item = item }) found ++ earlier)
with_spelled number [] earlier h k = k
with_spelled number (item ∷ found) earlier h k = (h.0, with_spelled number found earlier h.1 k)

at_ok : {A B : Type 0} (number : ℕ) (r : Result A Cause) (f : A → Result B script.Refusal) (y : B) → at_line number r f ≡ Ok y → (x : A) × (r ≡ Ok x) × (f x ≡ Ok y)
at_ok number (Ok x) f y e = (x, refl, e)
at_ok number (Err cause) f y e = absurd (cc)

-- the label and the numbers of a line
abbrev pub LineSpelled : Numbered → Type 0
LineSpelled line = Spelled (Event line.1)

events_spelled : (placed : List Placed) → Each IsSpelt placed → Each LineSpelled (flat_map event_in placed)
events_spelled [] h = tt
events_spelled (p ∷ placed) h = Each-append LineSpelled (event_in p) (flat_map event_in placed) (one p.line p.item h.0) (events_spelled placed h.1)
  where
    one : (number : ℕ) (item : Item) → Spelled item → Each LineSpelled (event_in (record { line = number; item = item }))
    one number (Declared declaration) h = tt
    one number (Event line) h = (h, tt)

from_spelled : (lines : List (List ℕ)) (number : ℕ) (earlier : List Placed) (read : Script) → Each IsSpelt earlier → script_from number earlier lines ≡ Ok read → Each LineSpelled read.lines
from_spelled [] number earlier read h e =
    let a = at_ok number (where_holds (nat_le 2 (known (items earlier)).last) causes.Order earlier) (λ all. Ok (script_by all)) read e in
    let b = holds_ok (nat_le 2 (known (items earlier)).last) causes.Order earlier a.0 a.1 in
    let same : script_by a.0 ≡ read = cc in
    let turned : Each IsSpelt (reverse earlier) = Each-from_there IsSpelt (reverse earlier) (λ p c. Each-there IsSpelt earlier p h (in_reverse earlier p c)) in
    subst (λ (s : Script). Each LineSpelled s.lines) (ap script_by b.1 ∙ same) (events_spelled (reverse earlier) turned)
from_spelled (line ∷ lines) number earlier read h e =
    let a = at_ok number (line_after number earlier line) (λ all. script_from (number + 1) all lines) read e in
    let b = bind_ok (line_of (items earlier) line) (λ found. Ok (map (λ item. record { line = number; item = item }) found ++ earlier)) a.0 a.1 in
    let same : map (λ item. record { line = number; item = item }) b.0 ++ earlier ≡ a.0 = cc in
    from_spelled lines (number + 1) a.0 read (subst (Each IsSpelt) same (with_spelled number b.0 earlier (line_spelled (items earlier) line b.0 b.1) h)) a.2

-- the labels and the numbers of the lines of a script
pub lines_spelled : (text : List ℕ) (read : Script) → script_of text ≡ Ok read → Each LineSpelled read.lines
lines_spelled text read e = from_spelled (lines_of text) 1 [] read tt e
