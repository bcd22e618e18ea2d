-- What is known of the lines stays so with one more.
use Rattle.std.proofs.Common.{◌≡◌, ◌<◌, ◌≤◌, ◌*◌, ◌∷◌, [], ◌++◌, ℕ, List, Bool, true, false, ◌&&◌, nat_le, slice_index, length, arith, refl, sym, ◌∙◌, ap, subst, Ok, Err}
use Rattle.std.specs.List.{sum_by}
use Rattle.std.proofs.lemmas.Bool.Decides.{nat_tests}
use Rattle.std.proofs.lemmas.List.{length-map}
use Rattle.std.proofs.lemmas.List.Concat.{flat_map-cons}
use Rattle.std.proofs.lemmas.List.Sums.{sum_by-cons}
use Rattle.script_terms.specs.declared.cause.Cause.TheVariants.{Full}
use Rattle.script_terms.specs.declared.item.Item.{Item}
use Rattle.script_terms.specs.declared.item.Item.TheVariants.{Declared, Event}
use Rattle.script_terms.specs.declared.declaration.Declaration.TheVariants.{Pond, Ring, Faulty, Block, Clients, Home}
use Rattle.script_terms.specs.declared.item.Placed.{Placed}
use Rattle.script_grammar.specs.Known.{Known, known, rank}
use Rattle.script_grammar.specs.Load.{Sent, sent_in, sent, load, is_borne, blocks, weighed, reach}
use Rattle.script_grammar.specs.Script.{items}
use Rattle.script_grammar.specs.Steps.{in_order, in_range, has_room, Fits}
use Rattle.script_grammar.specs.Results.{◌>>=◌, where_holds}
use Rattle.script_checks.specs.Loads.{Loaded, Stands, entry_of}
use Rattle.script_checks.specs.Next.{next}
use Rattle.script_text.specs.Lines.{placed_after}
use Rattle.script_text.specs.Stands.{StandsFor}
use Rattle.script_text.proofs.Counting.{known_next, few_submits}

order_rises : (last r : ℕ) → in_order last r ≡ true → last ≤ r
order_rises last r e = grind (arith, nat_tests)

block_stays : (item : Item) (k : Known) (loaded : Loaded) (before : List Sent) → in_order k.last (rank item) ≡ true → (k.last < 9 → before ≡ []) → Stands loaded k.block before → Stands loaded (next item k).block before
block_stays (Event line) k loaded before order quiet st = st
block_stays (Declared Pond) k loaded before order quiet st = st
block_stays (Declared (Ring f)) k loaded before order quiet st = st
block_stays (Declared (Faulty member)) k loaded before order quiet st = st
block_stays (Declared (Clients n)) k loaded before order quiet st = st
block_stays (Declared (Home client member)) k loaded before order quiet st = st
block_stays (Declared (Block b)) k loaded before order quiet st =
    let none : before ≡ [] = quiet (omega (arith, order_rises k.last 4 order)) in
    record { entries = st.entries; blocks = st.blocks ∙ ap (load k.block) none ∙ ap (load b) (sym none) }

-- what stands for the lines with one more
pub loads_next : (k : Known) (old new : Loaded) (lines : List Placed) (item : Item) → StandsFor k old lines → Fits (items lines) item
    → ((before : List Sent) → Stands old (next item k).block before → Stands new (next item k).block (sent_in item ++ before)) → Stands new (next item k).block (sent (item ∷ items lines))
loads_next k old new lines item s f add =
    let order : in_order k.last (rank item) ≡ true = ap (λ (x : Known). in_order x.last (rank item)) s.known ∙ f.order in
    rw (flat_map-cons sent_in item (items lines)) (add (sent (items lines)) (block_stays item k old (sent (items lines)) order s.quiet s.loads))

-- what is known of the lines with one more
pub known_is : (k : Known) (loaded : Loaded) (lines : List Placed) (item : Item) → StandsFor k loaded lines → Fits (items lines) item → next item k ≡ known (item ∷ items lines)
known_is k loaded lines item s f = ap (next item) s.known ∙ known_next item (items lines) (subst (λ (x : Known). x.clients ≤ 16) s.known s.clients) f.range

full_by : (a b : Bool) (number : ℕ) (lines : List Placed) (item : Item) → b ≡ false → (where_holds (a && b) Full item >>= λ same. Ok (record { line = number; item = same } ∷ lines)) ≡ Err Full
full_by true b number lines item e = rw e refl
full_by false b number lines item e = refl

full_not : (a b : Bool) (number : ℕ) (lines : List Placed) (item : Item) → a ≡ true → b ≡ true → (where_holds (a && b) Full item >>= λ same. Ok (record { line = number; item = same } ∷ lines)) ≡ Ok (record { line = number; item = item } ∷ lines)
full_not a b number lines item f e = rw (f, e) refl

first_holds : (n m : ℕ) (b : Bool) → nat_le n m && b ≡ true → n ≤ m
first_holds n m b e = grind (arith, nat_tests)

-- a limit that is passed
pub passes : (k : Known) (loaded : Loaded) (lines : List Placed) (number : ℕ) (item : Item) → StandsFor k loaded lines → Fits (items lines) item → is_borne (next item k).block (sent (item ∷ items lines)) ≡ false
    → placed_after number lines item ≡ Err Full
passes k loaded lines number item s f e =
    let b : is_borne (known (item ∷ items lines)).block (sent (item ∷ items lines)) ≡ false = ap (λ (x : Known). is_borne x.block (sent (item ∷ items lines))) (sym (known_is k loaded lines item s f)) ∙ e in
    full_by (has_room (known (item ∷ items lines))) _ number lines item b

pub fills : (k : Known) (loaded : Loaded) (lines : List Placed) (number : ℕ) (item : Item) → StandsFor k loaded lines → Fits (items lines) item → has_room (next item k) ≡ true → is_borne (next item k).block (sent (item ∷ items lines)) ≡ true
    → placed_after number lines item ≡ Ok (record { line = number; item = item } ∷ lines)
fills k loaded lines number item s f r e =
    let b : is_borne (known (item ∷ items lines)).block (sent (item ∷ items lines)) ≡ true = ap (λ (x : Known). is_borne x.block (sent (item ∷ items lines))) (sym (known_is k loaded lines item s f)) ∙ e in
    let h : has_room (known (item ∷ items lines)) ≡ true = ap has_room (sym (known_is k loaded lines item s f)) ∙ r in
    full_not (has_room (known (item ∷ items lines))) _ number lines item h b

quiet_next : (item : Item) (k : Known) (before : List Sent) → in_order k.last (rank item) ≡ true → (k.last < 9 → before ≡ []) → rank item < 9 → sent_in item ++ before ≡ []
quiet_next (Event line) k before order quiet low = absurd (omega arith)
quiet_next (Declared d) k before order quiet low = quiet (omega (arith, order_rises k.last (rank (Declared d)) order))

block_range : (item : Item) (k : Known) (x : Known) → in_range x item ≡ true → 64 ≤ k.block → k.block ≤ 8192 → (64 ≤ (next item k).block) × ((next item k).block ≤ 8192)
block_range (Event line) k x r low high = (low, high)
block_range (Declared Pond) k x r low high = (low, high)
block_range (Declared (Ring f)) k x r low high = (low, high)
block_range (Declared (Faulty member)) k x r low high = (low, high)
block_range (Declared (Clients n)) k x r low high = (low, high)
block_range (Declared (Home client member)) k x r low high = (low, high)
block_range (Declared (Block b)) k x r low high = grind (arith, nat_tests)

clients_range : (item : Item) (k : Known) (x : Known) → in_range x item ≡ true → k.clients ≤ 16 → (next item k).clients ≤ 16
clients_range (Event line) k x r high = high
clients_range (Declared Pond) k x r high = high
clients_range (Declared (Ring f)) k x r high = high
clients_range (Declared (Faulty member)) k x r high = high
clients_range (Declared (Block b)) k x r high = high
clients_range (Declared (Home client member)) k x r high = high
clients_range (Declared (Clients n)) k x r high = grind (arith, nat_tests)

-- all that is known, with one more line
pub stands_next : (k : Known) (old new : Loaded) (lines : List Placed) (number : ℕ) (item : Item) → StandsFor k old lines → Fits (items lines) item
    → Stands new (next item k).block (sent (item ∷ items lines)) → has_room (next item k) ≡ true → is_borne (next item k).block (sent (item ∷ items lines)) ≡ true
    → StandsFor (next item k) new (record { line = number; item = item } ∷ lines)
stands_next k old new lines number item s f loads room borne =
    let order : in_order k.last (rank item) ≡ true = ap (λ (x : Known). in_order x.last (rank item)) s.known ∙ f.order in
    let range = block_range item k (known (items lines)) f.range s.least s.most in
    record {
      known = known_is k old lines item s f;
      least = range.0;
      most = range.1;
      clients = clients_range item k (known (items lines)) f.range s.clients;
      loads = loads;
      room = room;
      borne = borne;
      quiet = λ low. flat_map-cons sent_in item (items lines) ∙ quiet_next item k (sent (items lines)) order s.quiet low;
    }

least_sum : (f : Sent → ℕ) (xs : List Sent) → ((x : Sent) → 2 ≤ f x) → 2 * length xs ≤ sum_by f xs
least_sum f [] h = omega arith
least_sum f (x ∷ xs) h = omega (arith, sum_by-cons f x xs, h x, least_sum f xs h)

-- there are no more actions than half the blocks
pub few_entries : (loaded : Loaded) (block : ℕ) (before : List Sent) → Stands loaded block before → is_borne block before ≡ true → length loaded.entries ≤ 4096
few_entries loaded block before st b =
    let l : load block before ≤ 8192 = first_holds _ _ _ b in
    omega (arith, least_sum (λ s. blocks block (weighed (reach before) s)) before (λ s. omega arith), l, ap length st.entries, length-map before entry_of)

-- what the taking in of a line requires
pub range_is : (k : Known) (loaded : Loaded) (lines : List Placed) (item : Item) → StandsFor k loaded lines → Fits (items lines) item → in_range k item ≡ true
range_is k loaded lines item s f = ap (λ (x : Known). in_range x item) s.known ∙ f.range

pub few_are_sent : (k : Known) (loaded : Loaded) (lines : List Placed) (client : ℕ) → StandsFor k loaded lines → slice_index k.submits client ≤ k.requests
few_are_sent k loaded lines client s = subst (λ (x : Known). slice_index x.submits client ≤ x.requests) (sym s.known) (few_submits (items lines) client)

-- the last step, in the terms of the code: what is known before and after, the block, and the two answers
pub record Counted (k after : Known) (old new : Loaded) (lines : List Placed) (number block : ℕ) (item : Item) (room borne : Bool) : Type 0 where
  pub stands : StandsFor k old lines
  pub fits : Fits (items lines) item
  pub next_is : after ≡ next item k
  pub block_is : block ≡ after.block
  pub adds : (before : List Sent) → Stands old block before → Stands new block (sent_in item ++ before)
  pub room_is : room ≡ has_room after
  pub room_holds : room ≡ true
  pub borne_is : (before : List Sent) → Stands new block before → borne ≡ is_borne block before
  pub borne_holds : borne ≡ true

loaded_so : (k after : Known) (old new : Loaded) (lines : List Placed) (number block : ℕ) (item : Item) (room borne : Bool) → Counted k after old new lines number block item room borne
    → Stands new (next item k).block (sent (item ∷ items lines)) × (has_room (next item k) ≡ true) × (is_borne (next item k).block (sent (item ∷ items lines)) ≡ true)
loaded_so k after old new lines number block item room borne c =
    let b : block ≡ (next item k).block = c.block_is ∙ ap (λ (x : Known). x.block) c.next_is in
    let adds = subst (λ (x : ℕ). (before : List Sent) → Stands old x before → Stands new x (sent_in item ++ before)) b c.adds in
    let loads = loads_next k old new lines item c.stands c.fits adds in
    let here = subst (λ (x : ℕ). Stands new x (sent (item ∷ items lines))) (sym b) loads in
    (loads, ap has_room (sym c.next_is) ∙ sym c.room_is ∙ c.room_holds, ap (λ x. is_borne x (sent (item ∷ items lines))) (sym b) ∙ sym (c.borne_is (sent (item ∷ items lines)) here) ∙ c.borne_holds)

pub keeps : (k after : Known) (old new : Loaded) (lines more : List Placed) (number block : ℕ) (item : Item) (room borne : Bool) → Counted k after old new lines number block item room borne
    → more ≡ record { line = number; item = item } ∷ lines → StandsFor after new more
keeps k after old new lines more number block item room borne c m =
    let l = loaded_so k after old new lines number block item room borne c in
    rw (c.next_is, m) (stands_next k old new lines number item c.stands c.fits l.0 l.1 l.2)

pub gives : (k after : Known) (old new : Loaded) (lines more : List Placed) (number block : ℕ) (item : Item) (room borne : Bool) → Counted k after old new lines number block item room borne
    → more ≡ record { line = number; item = item } ∷ lines → placed_after number lines item ≡ Ok more
gives k after old new lines more number block item room borne c m =
    let l = loaded_so k after old new lines number block item room borne c in
    fills k old lines number item c.stands c.fits l.1 l.2 ∙ ap Ok (sym m)

-- the last step where the load is passed
pub overfull : (k after : Known) (old new : Loaded) (lines : List Placed) (number block : ℕ) (item : Item) (borne : Bool) → StandsFor k old lines → Fits (items lines) item → after ≡ next item k → block ≡ after.block
    → ((before : List Sent) → Stands old block before → Stands new block (sent_in item ++ before)) → ((before : List Sent) → Stands new block before → borne ≡ is_borne block before) → borne ≡ false
    → placed_after number lines item ≡ Err Full
overfull k after old new lines number block item borne s f n b add is e =
    let same : block ≡ (next item k).block = b ∙ ap (λ (x : Known). x.block) n in
    let adds = subst (λ (x : ℕ). (before : List Sent) → Stands old x before → Stands new x (sent_in item ++ before)) same add in
    let loads = loads_next k old new lines item s f adds in
    let here = subst (λ (x : ℕ). Stands new x (sent (item ∷ items lines))) (sym same) loads in
    passes k old lines number item s f (ap (λ x. is_borne x (sent (item ∷ items lines))) (sym same) ∙ sym (is (sent (item ∷ items lines)) here) ∙ e)
