use Rattle.std.proofs.Common.{◌≡◌, ◌++◌, ◌∷◌, [], ◌∙◌, sym, ap, bit_xor, rules, List, ℕ}
use Rattle.fragment_store.specs.Pairs.{spoiled}
use Rattle.fragment_store.proofs.Spoiling.{spoiled_last}
use Rattle.fragment_store.proofs.store.spoiled_copy.Goals as goal

pub returns : goal.returns
returns c =
    let front : List ℕ = c.in-Some.front.now in
    let last : ℕ = c.in-Some.last.now in
    let whole : c.args.bytes.now ≡ front ++ last ∷ [] = search rules in
    let made : c.in_ok-from_vec.field-0 ≡ front ++ bit_xor last 1 ∷ [] = search rules in
    made ∙ sym (ap spoiled whole ∙ spoiled_last front last)
