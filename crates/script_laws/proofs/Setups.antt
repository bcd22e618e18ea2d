-- What lines declare is a setup within its limits.
use Rattle.std.proofs.Common.{◌≡◌, ◌≢◌, ◌≤◌, ◌<◌, ◌*◌, ◌∷◌, [], ◌++◌, ◌==◌, ◌&&◌, ◌||◌, not, ℕ, List, Bool, true, false, nat_le, reverse, length, refl, sym, subst, ◌∙◌, ap, arith}
use Rattle.std.specs.List.{flat_map, list_any, AllByRecursion}
use Rattle.std.proofs.lemmas.Bool.{leb-true, eqb-false}
use Rattle.std.proofs.lemmas.Bool.Decides.{nat_tests}
use Rattle.std.proofs.lemmas.Grind.{flat_map-append}
use Rattle.std.proofs.lemmas.List.{reverse-append, append-nil}
use Rattle.pond_base.specs.declared.numbers.MemberId.{MemberId}
use Rattle.script_terms.specs.declared.declaration.Declaration.TheVariants.{Pond, Ring, Faulty, Block, Clients, Home}
use Rattle.script_terms.specs.declared.item.Item.{Item}
use Rattle.script_terms.specs.declared.item.Item.TheVariants.{Declared, Event}
use Rattle.script_grammar.specs.Known.{known, rank, last_rank, declared_or, ring_in, block_in, clients_in, faulty_in, all_declared}
use Rattle.script_grammar.specs.Steps.{in_order, in_range, Fits}
use Rattle.script_grammar.specs.Script.{setup_by}
use Rattle.script_laws.specs.Limits.{AreDifferent, SetupFits}
use Rattle.script_laws.proofs.Gathered.{and_first, and_second}

-- ranks do not fall
pub order_rises : (last r : ℕ) → in_order last r ≡ true → last ≤ r
order_rises last r e = grind (arith, nat_tests)

pub each_append : {X : Type 0} (P : X → Type 0) (xs ys : List X) → AllByRecursion P xs → AllByRecursion P ys → AllByRecursion P (xs ++ ys)
each_append P [] ys h k = k
each_append P (x ∷ xs) ys h k = (h.0, each_append P xs ys h.1 k)

-- what lines declare, with one more
all_more : {X : Type 0} (f : Item → List X) (item : Item) (earlier : List Item) → all_declared f (item ∷ earlier) ≡ all_declared f earlier ++ f item
all_more f item earlier =
    ap (flat_map f) (reverse-append (item ∷ []) earlier) ∙ (flat_map-append f (reverse earlier) (item ∷ []) ∙ ap (λ x. all_declared f earlier ++ x) (append-nil (f item)))

-- a line that declares nothing of a kind
pub all_same : {X : Type 0} (f : Item → List X) (item : Item) (earlier : List Item) → f item ≡ [] → all_declared f (item ∷ earlier) ≡ all_declared f earlier
all_same f item earlier none = all_more f item earlier ∙ (ap (λ x. all_declared f earlier ++ x) none ∙ append-nil (all_declared f earlier))

ring_fits : (earlier : List Item) (item : Item) → declared_or 0 ring_in earlier ≤ 3 → in_range (known earlier) item ≡ true → declared_or 0 ring_in (item ∷ earlier) ≤ 3
ring_fits earlier (Declared Pond) l r = l
ring_fits earlier (Declared (Ring f)) l r = leb-true f 3 r
ring_fits earlier (Declared (Faulty member)) l r = l
ring_fits earlier (Declared (Block size)) l r = l
ring_fits earlier (Declared (Clients count)) l r = l
ring_fits earlier (Declared (Home client member)) l r = l
ring_fits earlier (Event line) l r = l

-- two bounds of a number
abbrev IsBetween : ℕ → ℕ → ℕ → Type 0
IsBetween least most n = (least ≤ n) × (n ≤ most)

between : (least most n : ℕ) → (nat_le least n && nat_le n most) ≡ true → IsBetween least most n
between least most n e = (leb-true least n (and_first (nat_le least n) (nat_le n most) e), leb-true n most (and_second (nat_le least n) (nat_le n most) e))

clients_fit : (earlier : List Item) (item : Item) → IsBetween 1 16 (declared_or 1 clients_in earlier) → in_range (known earlier) item ≡ true → IsBetween 1 16 (declared_or 1 clients_in (item ∷ earlier))
clients_fit earlier (Declared Pond) l r = l
clients_fit earlier (Declared (Ring f)) l r = l
clients_fit earlier (Declared (Faulty member)) l r = l
clients_fit earlier (Declared (Block size)) l r = l
clients_fit earlier (Declared (Clients count)) l r = between 1 16 count r
clients_fit earlier (Declared (Home client member)) l r = l
clients_fit earlier (Event line) l r = l

block_fits : (earlier : List Item) (item : Item) → IsBetween 64 8192 (declared_or 8192 block_in earlier) → in_range (known earlier) item ≡ true → IsBetween 64 8192 (declared_or 8192 block_in (item ∷ earlier))
block_fits earlier (Declared Pond) l r = l
block_fits earlier (Declared (Ring f)) l r = l
block_fits earlier (Declared (Faulty member)) l r = l
block_fits earlier (Declared (Block size)) l r = between 64 8192 size r
block_fits earlier (Declared (Clients count)) l r = l
block_fits earlier (Declared (Home client member)) l r = l
block_fits earlier (Event line) l r = l

-- members of a ring, each once
record AreFaulty (f : ℕ) (members : List MemberId) : Type 0 where
  pub small : AllByRecursion (λ (member : MemberId). member.0 ≤ 3 * f) members
  pub differ : AreDifferent members

-- a member that is not among some, behind them
differ_more : (members : List MemberId) (one : MemberId) → AreDifferent members → list_any (λ (member : MemberId). member.0 == one.0) members ≡ false → AreDifferent (members ++ one ∷ [])
differ_more [] one d e = (tt, tt)
differ_more (member ∷ members) one d e =
    let p = none (member.0 == one.0) (list_any (λ (other : MemberId). other.0 == one.0) members) e in
    (each_append (λ (other : MemberId). other.0 ≢ member.0) members (one ∷ []) d.0 ((λ same. eqb-false member.0 one.0 p.0 (sym same)), tt), differ_more members one d.1 p.1)
  where
    none : (a b : Bool) → (a || b) ≡ false → (a ≡ false) × (b ≡ false)
    none false false e = (refl, refl)
    none true b e = absurd (cc)
    none false true e = absurd (cc)

not_true : (b : Bool) → not b ≡ true → b ≡ false
not_true false e = refl
not_true true e = absurd (cc)

faulty_more : (f : ℕ) (members : List MemberId) (one : MemberId) → AreFaulty f members → (nat_le one.0 (3 * f) && not (list_any (λ (member : MemberId). member.0 == one.0) members)) ≡ true → AreFaulty f (members ++ one ∷ [])
faulty_more f members one a e =
    let here = nat_le one.0 (3 * f) in
    let among = list_any (λ (member : MemberId). member.0 == one.0) members in
    record {
      small = each_append (λ (member : MemberId). member.0 ≤ 3 * f) members (one ∷ []) a.small (leb-true one.0 (3 * f) (and_first here (not among) e), tt);
      differ = differ_more members one a.differ (not_true among (and_second here (not among) e));
    }

-- the members that lines declare faulty fit their ring
abbrev FaultyFit : List Item → Type 0
FaultyFit lines = AreFaulty (declared_or 0 ring_in lines) (all_declared faulty_in lines)

faulty_same : (f : ℕ) (earlier : List Item) (item : Item) → AreFaulty f (all_declared faulty_in earlier) → faulty_in item ≡ [] → AreFaulty f (all_declared faulty_in (item ∷ earlier))
faulty_same f earlier item a none = subst (AreFaulty f) (sym (all_same faulty_in item earlier none)) a

faulty_fit : (earlier : List Item) (item : Item) → FaultyFit earlier → (last_rank earlier < 3 → all_declared faulty_in earlier ≡ []) → Fits earlier item → FaultyFit (item ∷ earlier)
faulty_fit earlier (Declared Pond) a none p = faulty_same (declared_or 0 ring_in earlier) earlier (Declared Pond) a refl
faulty_fit earlier (Declared (Ring f)) a none p =
    faulty_same f earlier (Declared (Ring f)) (subst (AreFaulty f) (sym (none (omega (arith, order_rises (last_rank earlier) 2 p.order)))) (record { small = tt; differ = tt })) refl
faulty_fit earlier (Declared (Faulty member)) a none p =
    subst (AreFaulty (declared_or 0 ring_in earlier)) (sym (all_more faulty_in (Declared (Faulty member)) earlier)) (faulty_more (declared_or 0 ring_in earlier) (all_declared faulty_in earlier) member a p.range)
faulty_fit earlier (Declared (Block size)) a none p = faulty_same (declared_or 0 ring_in earlier) earlier (Declared (Block size)) a refl
faulty_fit earlier (Declared (Clients count)) a none p = faulty_same (declared_or 0 ring_in earlier) earlier (Declared (Clients count)) a refl
faulty_fit earlier (Declared (Home client member)) a none p = faulty_same (declared_or 0 ring_in earlier) earlier (Declared (Home client member)) a refl
faulty_fit earlier (Event line) a none p = faulty_same (declared_or 0 ring_in earlier) earlier (Event line) a refl

-- no member is declared faulty before the ring is
unnamed_next : (earlier : List Item) (item : Item) → (last_rank earlier < 3 → all_declared faulty_in earlier ≡ []) → in_order (last_rank earlier) (rank item) ≡ true → rank item < 3 → all_declared faulty_in (item ∷ earlier) ≡ []
unnamed_next earlier (Declared Pond) none o l = all_same faulty_in (Declared Pond) earlier refl ∙ none (omega (arith, order_rises (last_rank earlier) 1 o))
unnamed_next earlier (Declared (Ring f)) none o l = all_same faulty_in (Declared (Ring f)) earlier refl ∙ none (omega (arith, order_rises (last_rank earlier) 2 o))
unnamed_next earlier (Declared (Faulty member)) none o l = absurd (omega (arith, l))
unnamed_next earlier (Declared (Block size)) none o l = absurd (omega (arith, l))
unnamed_next earlier (Declared (Clients count)) none o l = absurd (omega (arith, l))
unnamed_next earlier (Declared (Home client member)) none o l = absurd (omega (arith, l))
unnamed_next earlier (Event line) none o l = absurd (omega (arith, l))

-- what lines declare fits, and the ring stands before faulty members
pub record Declares (lines : List Item) : Type 0 where
  pub fits : SetupFits (setup_by (known lines))
  pub unnamed : last_rank lines < 3 → all_declared faulty_in lines ≡ []

pub declares_none : Declares []
declares_none = record {
  fits = record { small = omega arith; some_client = omega arith; few_clients = omega arith; few_faulty = omega arith; members = tt; differ = tt; least = omega arith; most = omega arith };
  unnamed = λ _. refl;
}

pub declares_more : (earlier : List Item) (item : Item) → Declares earlier → Fits earlier item → length (all_declared faulty_in (item ∷ earlier)) ≤ declared_or 0 ring_in (item ∷ earlier) → Declares (item ∷ earlier)
declares_more earlier item d p few =
    let clients = clients_fit earlier item (d.fits.some_client, d.fits.few_clients) p.range in
    let block = block_fits earlier item (d.fits.least, d.fits.most) p.range in
    let faulty = faulty_fit earlier item (record { small = d.fits.members; differ = d.fits.differ }) d.unnamed p in
    record {
      fits = record {
        small = ring_fits earlier item d.fits.small p.range;
        some_client = clients.0;
        few_clients = clients.1;
        few_faulty = few;
        members = faulty.small;
        differ = faulty.differ;
        least = block.0;
        most = block.1;
      };
      unnamed = unnamed_next earlier item d.unnamed p.order;
    }

-- a line that is an event declares nothing
pub setup_same : (lines : List Item) (item : Item) → declared_or 0 ring_in (item ∷ lines) ≡ declared_or 0 ring_in lines → declared_or 8192 block_in (item ∷ lines) ≡ declared_or 8192 block_in lines
    → declared_or 1 clients_in (item ∷ lines) ≡ declared_or 1 clients_in lines → faulty_in item ≡ [] → setup_by (known (item ∷ lines)) ≡ setup_by (known lines)
setup_same lines item ring block clients none = rw (ring, block, clients, all_same faulty_in item lines none) refl
