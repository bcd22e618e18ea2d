-- The one root of a root string.
use Rattle.std.proofs.Common.{◌≡◌, ℕ, List, ◌∷◌, ◌++◌, refl, ap, sym, ◌∙◌, arith}
use Rattle.std.specs.Int.{w32, to_be_bytes}
use Rattle.pond_base.specs.declared.numbers.Version.{Version}
use Rattle.tree_format.specs.declared.root.Root.{Root}
use Rattle.tree_format.specs.Strings.{root_string}
use Rattle.tree_format.specs.Grammar.{IsRoot, HasWidths}
use Rattle.tree_format.proofs.Parts.{same_parts, same_number}

same_tail : (x y : ℕ) (xs ys : List ℕ) → x ∷ xs ≡ y ∷ ys → (x ≡ y) × (xs ≡ ys)
same_tail x y xs ys e = (cc, cc)

abbrev tops : Root → List ℕ
tops r = r.height ∷ r.top ++ r.previous

abbrev blocks : Root → List ℕ
blocks r = to_be_bytes w32 r.block ++ tops r

abbrev lengths : Root → List ℕ
lengths r = to_be_bytes w32 r.length ++ blocks r

abbrev version_of : ℕ → Version
version_of n = record { 0 = n }

abbrev root_of : Version → ℕ → ℕ → ℕ → List ℕ → List ℕ → Root
root_of v l b h t p = record { version = v; length = l; block = b; height = h; top = t; previous = p }

same_root : (r s : Root) → r.version.0 ≡ s.version.0 → r.length ≡ s.length → r.block ≡ s.block → r.height ≡ s.height → r.top ≡ s.top → r.previous ≡ s.previous → r ≡ s
same_root r s a b c d e f =
    ap (λ n. root_of (version_of n) r.length r.block r.height r.top r.previous) a
    ∙ ap (λ n. root_of s.version n r.block r.height r.top r.previous) b
    ∙ ap (λ n. root_of s.version s.length n r.height r.top r.previous) c
    ∙ ap (λ n. root_of s.version s.length s.block n r.top r.previous) d
    ∙ ap (λ xs. root_of s.version s.length s.block s.height xs r.previous) e
    ∙ ap (λ xs. root_of s.version s.length s.block s.height s.top xs) f

-- a root string has one root
pub root_string-injective : (r s : Root) → HasWidths r → HasWidths s → root_string r ≡ root_string s → r ≡ s
root_string-injective r s p q e =
    let kind = same_tail 3 3 (to_be_bytes w32 r.version.0 ++ lengths r) (to_be_bytes w32 s.version.0 ++ lengths s) e in
    let version = same_parts (to_be_bytes w32 r.version.0) (to_be_bytes w32 s.version.0) (lengths r) (lengths s) refl kind.1 in
    let count = same_parts (to_be_bytes w32 r.length) (to_be_bytes w32 s.length) (blocks r) (blocks s) refl version.1 in
    let block = same_parts (to_be_bytes w32 r.block) (to_be_bytes w32 s.block) (tops r) (tops s) refl count.1 in
    let height = same_tail r.height s.height (r.top ++ r.previous) (s.top ++ s.previous) block.1 in
    let names = same_parts r.top s.top r.previous s.previous (p.top ∙ sym q.top) height.1 in
    same_root r s (same_number _ _ p.version q.version version.0) (same_number _ _ p.bytes q.bytes count.0)
    (same_number _ _ p.block q.block block.0) height.0 names.0 names.1

pub widths_of : (r : Root) → IsRoot r → HasWidths r
widths_of r is = record {
  version = is.version;
  bytes = omega (arith, is.small);
  block = omega (arith, is.most);
  top = is.top;
  previous = is.previous;
}
