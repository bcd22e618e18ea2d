-- Lines that are skipped.
use Rattle.std.proofs.Common.{◌≡◌, ◌∷◌, [], ◌&&◌, ℕ, List, Bool, true, false, refl, Ok}
use Rattle.std.specs.List.{list_all}
use Rattle.script_terms.specs.declared.item.Item.{Item}
use Rattle.script_terms.specs.declared.item.Placed.{Placed}
use Rattle.script_grammar.specs.Words.{is_plain, words_of}
use Rattle.script_grammar.specs.Script.{items, line_after}
use Rattle.script_grammar.specs.Steps.{spoken, line_of}
use Rattle.script_text.specs.Skipping.{say_nothing}

silent : (earlier : List Item) (words : List (List ℕ)) → say_nothing words ≡ true → spoken earlier words ≡ Ok []
silent earlier [] e = refl
silent earlier (word ∷ words) e = rw e refl

both : (a b : Bool) → a && b ≡ true → (a ≡ true) × (b ≡ true)
both true true e = (refl, refl)
both true false e = absurd (cc)
both false b e = absurd (cc)

quiet_line : (earlier : List Item) (line : List ℕ) → say_nothing (words_of line) && list_all is_plain line ≡ true → line_of earlier line ≡ Ok []
quiet_line earlier line e =
    let parts = both (say_nothing (words_of line)) (list_all is_plain line) e in
    rw parts.1 (silent earlier (words_of line) parts.0)

-- a line that is skipped adds nothing
pub skips : (number : ℕ) (earlier : List Placed) (line : List ℕ) → say_nothing (words_of line) && list_all is_plain line ≡ true → line_after number earlier line ≡ Ok earlier
skips number earlier line e = rw (quiet_line (items earlier) line e) refl
