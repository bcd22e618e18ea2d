-- What the tests of the grammar say, part by part.
use Rattle.std.proofs.Common.{◌≡◌, ℕ, ◌^◌, ◌<◌, ◌≤◌, ◌&&◌, ◌==◌, Bool, true, false, IsTrue, List, length, nat_le, nat_lt, refl, arith}
use Rattle.std.specs.List.{list_all}
use Rattle.manifest.specs.declared.manifest.Entry.{Entry}
use Rattle.manifest.specs.declared.manifest.Head.{Head}
use Rattle.manifest.specs.declared.manifest.Manifest.{Manifest}
use Rattle.manifest.specs.Grammar.{is_name, is_entry, is_head, is_manifest}
use Rattle.manifest.specs.Spelling.{head_of}

pub and_parts : (a b : Bool) → (a && b) ≡ true → (a ≡ true) × (b ≡ true)
and_parts true b h = (refl, h)
and_parts false b h = absurd (cc)

pub both : (a b : Bool) → a ≡ true → b ≡ true → (a && b) ≡ true
both a b p q = rw p q

pub is_le : (n k : ℕ) → n ≤ k → nat_le n k ≡ true
is_le n k p = grind arith

pub le_of : (n k : ℕ) → nat_le n k ≡ true → n ≤ k
le_of n k p = grind arith

pub is_lt : (n k : ℕ) → n < k → nat_lt n k ≡ true
is_lt n k p = grind arith

pub lt_of : (n k : ℕ) → nat_lt n k ≡ true → n < k
lt_of n k p = grind arith

pub is_same : (n k : ℕ) → n ≡ k → (n == k) ≡ true
is_same n k p = grind arith

pub same_of : (n k : ℕ) → (n == k) ≡ true → n ≡ k
same_of n k p = grind arith

pub long : (name : List ℕ) → IsTrue (is_name name) → length name ≡ 20
long name is = same_of (length name) 20 is

pub record IsEntry (n : ℕ) (e : Entry) : Type 0 where
  pub name : length e.name ≡ 20
  pub some : 1 ≤ e.length
  pub small : e.length < 2 ^ 32
  pub count : length e.fragments ≡ n
  pub fragments : IsTrue (list_all is_name e.fragments)

pub entry_parts : (n : ℕ) (e : Entry) → IsTrue (is_entry n e) → IsEntry n e
entry_parts n e is =
    let a = and_parts (is_name e.name && nat_le 1 e.length && nat_lt e.length (2 ^ 32) && length e.fragments == n) (list_all is_name e.fragments) is in
    let b = and_parts (is_name e.name && nat_le 1 e.length && nat_lt e.length (2 ^ 32)) (length e.fragments == n) a.0 in
    let c = and_parts (is_name e.name && nat_le 1 e.length) (nat_lt e.length (2 ^ 32)) b.0 in
    let d = and_parts (is_name e.name) (nat_le 1 e.length) c.0 in
    record { name = long e.name d.0; some = le_of 1 e.length d.1; small = lt_of e.length (2 ^ 32) c.1; count = same_of (length e.fragments) n b.1; fragments = a.1 }

pub entry_whole : (n : ℕ) (e : Entry) → IsEntry n e → IsTrue (is_entry n e)
entry_whole n e is =
    let d = both (is_name e.name) (nat_le 1 e.length) (is_same (length e.name) 20 is.name) (is_le 1 e.length is.some) in
    let c = both (is_name e.name && nat_le 1 e.length) (nat_lt e.length (2 ^ 32)) d (is_lt e.length (2 ^ 32) is.small) in
    let b = both (is_name e.name && nat_le 1 e.length && nat_lt e.length (2 ^ 32)) (length e.fragments == n) c (is_same (length e.fragments) n is.count) in
    both (is_name e.name && nat_le 1 e.length && nat_lt e.length (2 ^ 32) && length e.fragments == n) (list_all is_name e.fragments) b is.fragments

pub record IsHead (h : Head) : Type 0 where
  pub least : 1 ≤ h.m
  pub most : h.m ≤ 32
  pub rows : h.m ≤ h.n
  pub high : h.n ≤ 64
  pub first : 1 ≤ h.version.0
  pub version : h.version.0 < 2 ^ 32
  pub object : length h.object ≡ 20
  pub count : h.count < 2 ^ 32

abbrev ranges : Head → Bool
ranges h = nat_le 1 h.m && nat_le h.m 32 && nat_le h.m h.n && nat_le h.n 64

pub head_parts : (h : Head) → IsTrue (is_head h) → IsHead h
head_parts h is =
    let a = and_parts (ranges h && nat_le 1 h.version.0 && nat_lt h.version.0 (2 ^ 32) && is_name h.object) (nat_lt h.count (2 ^ 32)) is in
    let b = and_parts (ranges h && nat_le 1 h.version.0 && nat_lt h.version.0 (2 ^ 32)) (is_name h.object) a.0 in
    let c = and_parts (ranges h && nat_le 1 h.version.0) (nat_lt h.version.0 (2 ^ 32)) b.0 in
    let d = and_parts (ranges h) (nat_le 1 h.version.0) c.0 in
    let e = and_parts (nat_le 1 h.m && nat_le h.m 32 && nat_le h.m h.n) (nat_le h.n 64) d.0 in
    let f = and_parts (nat_le 1 h.m && nat_le h.m 32) (nat_le h.m h.n) e.0 in
    let g = and_parts (nat_le 1 h.m) (nat_le h.m 32) f.0 in
    record {
      least = le_of 1 h.m g.0;
      most = le_of h.m 32 g.1;
      rows = le_of h.m h.n f.1;
      high = le_of h.n 64 e.1;
      first = le_of 1 h.version.0 d.1;
      version = lt_of h.version.0 (2 ^ 32) c.1;
      object = long h.object b.1;
      count = lt_of h.count (2 ^ 32) a.1;
    }

pub head_whole : (h : Head) → IsHead h → IsTrue (is_head h)
head_whole h is =
    let g = both (nat_le 1 h.m) (nat_le h.m 32) (is_le 1 h.m is.least) (is_le h.m 32 is.most) in
    let f = both (nat_le 1 h.m && nat_le h.m 32) (nat_le h.m h.n) g (is_le h.m h.n is.rows) in
    let e = both (nat_le 1 h.m && nat_le h.m 32 && nat_le h.m h.n) (nat_le h.n 64) f (is_le h.n 64 is.high) in
    let d = both (ranges h) (nat_le 1 h.version.0) e (is_le 1 h.version.0 is.first) in
    let c = both (ranges h && nat_le 1 h.version.0) (nat_lt h.version.0 (2 ^ 32)) d (is_lt h.version.0 (2 ^ 32) is.version) in
    let b = both (ranges h && nat_le 1 h.version.0 && nat_lt h.version.0 (2 ^ 32)) (is_name h.object) c (is_same (length h.object) 20 is.object) in
    both (ranges h && nat_le 1 h.version.0 && nat_lt h.version.0 (2 ^ 32) && is_name h.object) (nat_lt h.count (2 ^ 32)) b (is_lt h.count (2 ^ 32) is.count)

-- a manifest is in the grammar where its head is, and its entries are
pub manifest_parts : (m : Manifest) → IsTrue (is_manifest m) → IsTrue (is_head (head_of m)) × IsTrue (list_all (is_entry m.n) m.entries)
manifest_parts m is = and_parts (is_head (head_of m)) (list_all (is_entry m.n) m.entries) is

pub manifest_whole : (m : Manifest) → IsTrue (is_head (head_of m)) → IsTrue (list_all (is_entry m.n) m.entries) → IsTrue (is_manifest m)
manifest_whole m head entries = both (is_head (head_of m)) (list_all (is_entry m.n) m.entries) head entries
