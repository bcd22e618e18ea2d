-- A line that passed its steps is within its limits behind earlier ones.
use Rattle.std.proofs.Common.{◌≡◌, ◌≤◌, ◌<◌, ◌*◌, ◌∷◌, [], ◌++◌, ◌&&◌, ℕ, suc, List, Bool, true, false, cond, nat_le, nat_lt, get_or, map, length, refl, ◌∙◌, ap, arith}
use Rattle.std.specs.List.{AllByRecursion, list_all, filter, range_with_len}
use Rattle.std.proofs.lemmas.Bool.{leb-true, ltb-true, ltb-false}
use Rattle.std.proofs.lemmas.List.{get_or_past}
use Rattle.std.proofs.lemmas.List.FromFn.{get_or-map-range_with_len}
use Rattle.pond_base.specs.declared.numbers.Party.{Party}
use Rattle.pond_base.specs.declared.numbers.Party.TheVariants.{Member, Client}
use Rattle.script_terms.specs.declared.declaration.Declaration.{Declaration}
use Rattle.script_terms.specs.declared.item.Item.{Item}
use Rattle.script_terms.specs.declared.item.Item.TheVariants.{Declared, Event}
use Rattle.script_terms.specs.declared.item.Placed.{Placed}
use Rattle.script_terms.specs.declared.line.Line.{Line}
use Rattle.script_terms.specs.declared.line.Line.TheVariants.{Submit, ForgeRaw}
use Rattle.script_terms.specs.declared.line.LineClause.{LineClause}
use Rattle.script_grammar.specs.Known.{Known, known, is_request, is_submit_of, submits_of}
use Rattle.script_grammar.specs.Asks.{Ask, OfMember, OfClient, OfParty, OfFaulty, OfRequest, OfSlot, FromOne, Changing, changes, is_client, is_party, has_sent, is_met, met_with, all_met, asks}
use Rattle.script_grammar.specs.Steps.{in_size, line_in_range}
use Rattle.script_grammar.specs.Script.{items, event_in, setup_by}
use Rattle.text_model.specs.Requests.{Numbered}
use Rattle.script_laws.specs.Limits.{IsParty, Meets, IsLight, LineFits, SetupFits, items_of, requests_in}
use Rattle.script_laws.proofs.Gathered.{and_first, and_second}
use Rattle.script_laws.proofs.Spoken.{Acts}
use Rattle.script_laws.proofs.Updates.{submit_fits, clauses_fit, sizes_of}

-- the events of lines, the newest first
abbrev pub told : List Placed → List Numbered
told [] = []
told (p ∷ placed) = event_in p ++ told placed

-- a count of events, by all lines and by the events
pub counts_same : (test : Item → Bool) → ((d : Declaration) → test (Declared d) ≡ false) → (placed : List Placed) → length (filter test (items placed)) ≡ length (filter test (items_of (told placed)))
counts_same test none [] = refl
counts_same test none (p ∷ placed) = one p.line p.item (items placed) (told placed) (counts_same test none placed)
  where
    grown : (b : Bool) (x : Item) (xs ys : List Item) → length xs ≡ length ys → length (cond b (x ∷ xs) xs) ≡ length (cond b (x ∷ ys) ys)
    grown true x xs ys e = ap suc e
    grown false x xs ys e = e

    one : (number : ℕ) (item : Item) (xs : List Item) (lines : List Numbered) → length (filter test xs) ≡ length (filter test (items_of lines))
        → length (filter test (item ∷ xs)) ≡ length (filter test (items_of (event_in (record { line = number; item = item }) ++ lines)))
    one number (Declared d) xs lines e = rw (none d) e
    one number (Event line) xs lines e = grown (test (Event line)) (Event line) (filter test xs) (filter test (items_of lines)) e

-- what is known of some lines
abbrev pub known_of : List Placed → Known
known_of placed = known (items placed)

party_is : (placed : List Placed) (party : Party) → is_party (known_of placed) party ≡ true → IsParty (setup_by (known_of placed)) party
party_is placed (Member member) e = leb-true member.0 (3 * (known_of placed).ring) e
party_is placed (Client client) e = ltb-true client.0 (known_of placed).clients e

-- how many requests of a client are known to be sent
sent_count : (placed : List Placed) (client : ℕ) → client < 16 → get_or (map (submits_of (items placed)) (range_with_len 0 16)) client 0 ≡ submits_of (items_of (told placed)) client
sent_count placed client low =
    get_or-map-range_with_len (submits_of (items placed)) 0 16 client client 0 low (omega arith) ∙ counts_same (is_submit_of client) (λ d. refl) placed

-- of a client that is none of the sixteen no request is
sent_low : (placed : List Placed) (client number : ℕ) → has_sent (known_of placed) client number ≡ true → client < 16
sent_low placed client number e =
    elim (nat_lt client 16) as (λ b. nat_lt client 16 ≡ b → client < 16) [
      | true ↦ λ is. ltb-true client 16 is
      | false ↦ λ is.
          let count = get_or (map (submits_of (items placed)) (range_with_len 0 16)) client 0 in
          let long : length (map (submits_of (items placed)) (range_with_len 0 16)) ≡ 16 = refl in
          let none : count ≡ 0 = get_or_past (map (submits_of (items placed)) (range_with_len 0 16)) client 0 (omega (arith, long, ltb-false client 16 is)) in
          absurd (omega (arith, none, leb-true 1 number (and_first (nat_le 1 number) (nat_le number count) e), leb-true number count (and_second (nat_le 1 number) (nat_le number count) e)))
    ] refl

sent_is : (placed : List Placed) (client number : ℕ) → has_sent (known_of placed) client number ≡ true → (1 ≤ number) × (number ≤ submits_of (items_of (told placed)) client)
sent_is placed client number e =
    let count = get_or (map (submits_of (items placed)) (range_with_len 0 16)) client 0 in (
      leb-true 1 number (and_first (nat_le 1 number) (nat_le number count) e),
      omega (arith, leb-true number count (and_second (nat_le 1 number) (nat_le number count) e), sent_count placed client (sent_low placed client number e)),
    )

-- what is met by what is known is there
meets_is : (placed : List Placed) (ask : Ask) → is_met (known_of placed) ask ≡ true → Meets (setup_by (known_of placed)) (told placed) ask
meets_is placed (OfMember member) e = leb-true member (3 * (known_of placed).ring) e
meets_is placed (OfClient client) e = ltb-true client (known_of placed).clients e
meets_is placed (OfParty party) e = party_is placed party e
meets_is placed (OfFaulty member) e = e
meets_is placed (OfRequest client number) e = sent_is placed client number e
meets_is placed (OfSlot seq) e = (leb-true 1 seq (and_first (nat_le 1 seq) (nat_le seq 65536) e), leb-true seq 65536 (and_second (nat_le 1 seq) (nat_le seq 65536) e))
meets_is placed (FromOne number) e = leb-true 1 number e
meets_is placed (Changing clauses) e = tt

with_all : (placed : List Placed) (before : Bool) (some : List Ask) → met_with before (known_of placed) some ≡ true
    → (before ≡ true) × AllByRecursion (Meets (setup_by (known_of placed)) (told placed)) some
with_all placed before [] e = (e, tt)
with_all placed before (ask ∷ some) e =
    let rest = with_all placed (before && is_met (known_of placed) ask) some e in
    (and_first before (is_met (known_of placed) ask) rest.0, (meets_is placed ask (and_second before (is_met (known_of placed) ask) rest.0), rest.1))

all_meet : (placed : List Placed) (some : List Ask) → all_met (known_of placed) some ≡ true → AllByRecursion (Meets (setup_by (known_of placed)) (told placed)) some
all_meet placed [] e = tt
all_meet placed (ask ∷ some) e =
    let rest = with_all placed (is_met (known_of placed) ask) some e in
    (meets_is placed ask rest.0, rest.1)

-- what a line says is light
is_light : (placed : List Placed) (line : Line) → Acts (Event line) → line_in_range (known_of placed) line ≡ true → in_size (Event line) ≡ true
    → length (filter is_request (Event line ∷ items placed)) ≤ 1024 → IsLight (told placed) line
is_light placed (Submit client label clauses) a r z few =
    let changed = list_all (λ (c : LineClause). list_all changes c.actions) clauses in
    let change = and_second (is_client (known_of placed) client.0) changed r in
    let same : length (filter is_request (items placed)) ≡ requests_in (told placed) = counts_same is_request (λ d. refl) placed in
    (((λ h. submit_fits h clauses a.0 a.1 change z), clauses_fit clauses a.0 (sizes_of clauses z).small), omega (arith, few, same))
is_light placed (ForgeRaw member to content) a r z few = a
is_light placed line a r z few = tt

-- a line behind earlier ones
pub line_fits : (placed : List Placed) (line : Line) → Acts (Event line) → line_in_range (known_of placed) line ≡ true → in_size (Event line) ≡ true
    → length (filter is_request (Event line ∷ items placed)) ≤ 1024 → LineFits (setup_by (known_of placed)) (told placed) line
line_fits placed line a r z few = record { meets = all_meet placed (asks line) r; light = is_light placed line a r z few }
