-- A script is within its limits, line by line.
use Rattle.std.proofs.Common.{◌≡◌, ◌≤◌, ◌<◌, ◌∷◌, [], ◌++◌, ℕ, ◌+◌, List, Bool, true, false, cond, nat_le, map, reverse, length, Result, Ok, Err, refl, sym, subst, ◌∙◌, ap, arith, length-append}
use Rattle.std.specs.List.{list_all, flat_map, filter}
use Rattle.std.proofs.lemmas.Bool.{leb-true}
use Rattle.std.proofs.lemmas.List.{reverse-append, append-nil}
use Rattle.std.proofs.lemmas.Grind.{flat_map-append}
use Rattle.script_terms.specs.declared.cause.Cause.{Cause}
use Rattle.script_terms.specs.declared.cause.Cause.TheVariants as causes
use Rattle.script_terms.specs.declared.declaration.Declaration.{Declaration}
use Rattle.script_terms.specs.declared.declaration.Declaration.TheVariants.{Pond, Ring, Faulty, Block, Clients, Home}
use Rattle.script_terms.specs.declared.item.Item.{Item}
use Rattle.script_terms.specs.declared.item.Item.TheVariants.{Declared, Event}
use Rattle.script_terms.specs.declared.item.Placed.{Placed}
use Rattle.script_terms.specs.declared.script.Script.{Script}
use Rattle.script_grammar.specs.Results.{◌>>=◌, where_holds}
use Rattle.script_grammar.specs.Known.{known, rank, last_rank, is_event, is_request}
use Rattle.script_grammar.specs.Load.{is_borne, sent}
use Rattle.script_grammar.specs.Steps.{in_order, item_of, counted, spoken, line_of, is_within, has_room, Fits}
use Rattle.script_grammar.specs.Words.{is_comment, is_plain, words_of, lines_of}
use Rattle.script_grammar.specs.Script as script
use Rattle.script_grammar.specs.Script.{items, line_after, at_line, event_in, script_by, setup_by, script_from, script_of}
use Rattle.script_grammar.proofs.Steps.{bind_ok, holds_ok, item_passed}
use Rattle.text_model.specs.Requests.{Numbered}
use Rattle.script_laws.specs.Limits.{LinesFit, IsWithin}
use Rattle.script_laws.proofs.Gathered.{and_first, and_three}
use Rattle.script_laws.proofs.Spoken.{Acts, said_acts}
use Rattle.script_laws.proofs.Setups.{order_rises, setup_same, Declares, declares_none, declares_more}
use Rattle.script_laws.proofs.Fitting.{told, line_fits}

-- some lines are within limits, one by one and together
record AreFit (placed : List Placed) : Type 0 where
  pub declares : Declares (items placed)
  pub few : length (filter is_event (items placed)) ≤ 16384
  pub quiet : last_rank (items placed) < 9 → told placed ≡ []
  pub lines : LinesFit (setup_by (known (items placed))) (told placed)

-- what a line adds: nothing, or an item that fits
record Adds (earlier : List Item) (item : Item) : Type 0 where
  pub word : List ℕ
  pub words : List (List ℕ)
  pub is : item_of earlier word words ≡ Ok item
  pub room : is_within (item ∷ earlier) ≡ true

-- what counted limits leave room for
record HasRoom (lines : List Item) : Type 0 where
  pub faulty : length (known lines).faulty ≤ (known lines).ring
  pub requests : length (filter is_request lines) ≤ 1024
  pub events : length (filter is_event lines) ≤ 16384

room_of : (lines : List Item) → is_within lines ≡ true → HasRoom lines
room_of lines e =
    let k = known lines in
    let room = and_three (nat_le (length k.faulty) k.ring) (nat_le k.requests 1024) (nat_le k.events 16384) (and_first (has_room k) (is_borne k.block (sent lines)) e) in
    record { faulty = leb-true (length k.faulty) k.ring room.0; requests = leb-true k.requests 1024 room.1; events = leb-true k.events 16384 room.2 }

rank_low : (declaration : Declaration) → rank (Declared declaration) ≤ 8
rank_low Pond = omega arith
rank_low (Ring f) = omega arith
rank_low (Faulty member) = omega arith
rank_low (Block size) = omega arith
rank_low (Clients count) = omega arith
rank_low (Home client member) = omega arith

-- a line with its number
abbrev at : ℕ → Item → Placed
at number item = record { line = number; item = item }

-- no event stands before a declaration
quiet_before : (placed : List Placed) (declaration : Declaration) → AreFit placed → in_order (last_rank (items placed)) (rank (Declared declaration)) ≡ true → told placed ≡ []
quiet_before placed declaration f o = f.quiet (omega (arith, order_rises (last_rank (items placed)) (rank (Declared declaration)) o, rank_low declaration))

quiet_more : (number : ℕ) (item : Item) (placed : List Placed) → AreFit placed → Fits (items placed) item → rank item < 9 → told (at number item ∷ placed) ≡ []
quiet_more number (Declared declaration) placed f p low = quiet_before placed declaration f p.order
quiet_more number (Event line) placed f p low = absurd (omega (arith, low))

lines_more : (number : ℕ) (item : Item) (placed : List Placed) → AreFit placed → Acts item → Fits (items placed) item → HasRoom (item ∷ items placed)
    → LinesFit (setup_by (known (item ∷ items placed))) (told (at number item ∷ placed))
lines_more number (Declared declaration) placed f a p room =
    subst (LinesFit (setup_by (known (Declared declaration ∷ items placed)))) (sym (quiet_before placed declaration f p.order)) tt
lines_more number (Event line) placed f a p room =
    subst (λ setup. LinesFit setup ((number, line) ∷ told placed)) (sym (setup_same (items placed) (Event line) refl refl refl refl))
    (line_fits placed line a p.range p.size room.requests, f.lines)

fit_one : (number : ℕ) (item : Item) (placed : List Placed) → AreFit placed → Adds (items placed) item → AreFit (at number item ∷ placed)
fit_one number item placed f a =
    let p = item_passed (items placed) a.word a.words item a.is in
    let room = room_of (item ∷ items placed) a.room in
    record {
      declares = declares_more (items placed) item f.declares p.fits room.faulty;
      few = room.events;
      quiet = quiet_more number item placed f p.fits;
      lines = lines_more number item placed f (said_acts p.verb a.words item p.said) p.fits room;
    }

-- items behind lines, each at a number
abbrev with_items : ℕ → List Item → List Placed → List Placed
with_items number found earlier = map (λ item. record { line = number; item = item }) found ++ earlier

spoken_adds : (number : ℕ) (placed : List Placed) (words : List (List ℕ)) (found : List Item) → spoken (items placed) words ≡ Ok found → AreFit placed → AreFit (with_items number found placed)
spoken_adds number placed [] found e f = let same : [] ≡ found = cc in rw (← same) f
spoken_adds number placed (word ∷ words) found e f =
    let earlier = items placed in
    either (is_comment word) (Ok []) (item_of earlier word words >>= counted earlier >>= λ item. Ok (item ∷ [])) found (AreFit (with_items number found placed))
    (λ x. let same : [] ≡ found = cc in rw (← same) f)
    (λ x. let a = bind_ok (item_of earlier word words >>= counted earlier) (λ item. Ok (item ∷ [])) found x in
    let b = bind_ok (item_of earlier word words) (counted earlier) a.0 a.1 in
    let c = holds_ok (is_within (b.0 ∷ earlier)) causes.Full b.0 a.0 b.2 in
    let same : a.0 ∷ [] ≡ found = cc in
    rw (← same) (fit_one number a.0 placed f (record { word = word; words = words; is = b.1 ∙ ap Ok c.1; room = ap (λ x. is_within (x ∷ earlier)) (sym c.1) ∙ c.0 })))
    e
  where
    either : (b : Bool) (x y : Result (List Item) Cause) (z : List Item) (P : Type 0) → (x ≡ Ok z → P) → (y ≡ Ok z → P) → cond b x y ≡ Ok z → P
    either true x y z P f g e = f e
    either false x y z P f g e = g e

line_adds : (number : ℕ) (earlier all : List Placed) (line : List ℕ) → line_after number earlier line ≡ Ok all → AreFit earlier → AreFit all
line_adds number earlier all line e f =
    let a = bind_ok (line_of (items earlier) line) (λ found. Ok (map (λ item. record { line = number; item = item }) found ++ earlier)) all e in
    let same : map (λ item. record { line = number; item = item }) a.0 ++ earlier ≡ all = cc in
    subst AreFit same (spoken_adds number earlier (words_of line) a.0 (plain_first (list_all is_plain line) (spoken (items earlier) (words_of line)) a.0 a.1) f)
  where
    plain_first : (b : Bool) (x : Result (List Item) Cause) (z : List Item) → cond b x (Err causes.Byte) ≡ Ok z → x ≡ Ok z
    plain_first true x z e = e
    plain_first false x z e = absurd (cc)

at_ok : {A B : Type 0} (number : ℕ) (r : Result A Cause) (f : A → Result B script.Refusal) (y : B) → at_line number r f ≡ Ok y → (x : A) × (r ≡ Ok x) × (f x ≡ Ok y)
at_ok number (Ok x) f y e = (x, refl, e)
at_ok number (Err cause) f y e = absurd (cc)

-- the events of lines, the first one first
abbrev events_of : List Placed → List Numbered
events_of placed = flat_map event_in (reverse placed)

events_more : (p : Placed) (placed : List Placed) → events_of (p ∷ placed) ≡ events_of placed ++ event_in p
events_more p placed =
    ap (flat_map event_in) (reverse-append (p ∷ []) placed) ∙ (flat_map-append event_in (reverse placed) (p ∷ []) ∙ ap (λ rest. events_of placed ++ rest) (append-nil (event_in p)))

counted_event : (number : ℕ) (item : Item) (rest : List Item) → length (event_in (at number item)) + length (filter is_event rest) ≡ length (filter is_event (item ∷ rest))
counted_event number (Declared declaration) rest = omega arith
counted_event number (Event line) rest = omega arith

events_count : (placed : List Placed) → length (events_of placed) ≡ length (filter is_event (items placed))
events_count [] = refl
events_count (p ∷ placed) =
    omega (arith, ap length (events_more p placed), length-append (events_of placed) (event_in p), counted_event p.line p.item (items placed), events_count placed)

one_reversed : (number : ℕ) (item : Item) → reverse (event_in (at number item)) ≡ event_in (at number item)
one_reversed number (Declared declaration) = refl
one_reversed number (Event line) = refl

-- the events the newest first are those that the lines tell
told_is : (placed : List Placed) → reverse (events_of placed) ≡ told placed
told_is [] = refl
told_is (p ∷ placed) =
    ap reverse (events_more p placed) ∙ (reverse-append (events_of placed) (event_in p)
    ∙ (ap (λ first. first ++ reverse (events_of placed)) (one_reversed p.line p.item) ∙ ap (λ rest. event_in p ++ rest) (told_is placed)))

within_by : (placed : List Placed) → AreFit placed → IsWithin (script_by placed)
within_by placed f = record {
  setup = f.declares.fits;
  few = omega (arith, events_count placed, f.few);
  lines = subst (LinesFit (setup_by (known (items placed)))) (sym (told_is placed)) f.lines;
}

from_within : (lines : List (List ℕ)) (number : ℕ) (earlier : List Placed) (read : Script) → AreFit earlier → script_from number earlier lines ≡ Ok read → IsWithin read
from_within [] number earlier read f e =
    let a = at_ok number (where_holds (nat_le 2 (known (items earlier)).last) causes.Order earlier) (λ all. Ok (script_by all)) read e in
    let b = holds_ok (nat_le 2 (known (items earlier)).last) causes.Order earlier a.0 a.1 in
    let same : script_by a.0 ≡ read = cc in
    subst IsWithin (ap script_by b.1 ∙ same) (within_by earlier f)
from_within (line ∷ lines) number earlier read f e =
    let a = at_ok number (line_after number earlier line) (λ all. script_from (number + 1) all lines) read e in
    from_within lines (number + 1) a.0 read (line_adds number earlier a.0 line a.1 f) a.2

pub within : (text : List ℕ) (read : Script) → script_of text ≡ Ok read → IsWithin read
within text read e = from_within (lines_of text) 1 [] read (record { declares = declares_none; few = omega arith; quiet = λ _. refl; lines = tt }) e
