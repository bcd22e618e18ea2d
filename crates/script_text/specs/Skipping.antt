-- Words of lines that are skipped.
use Rattle.std.specs.Prelude.{ℕ, Bool, true, List, [], ◌∷◌}
use Rattle.script_grammar.specs.Words.{is_comment}

-- there is no word, or the first makes the line a comment
abbrev pub say_nothing : List (List ℕ) → Bool
say_nothing [] = true
say_nothing (word ∷ words) = is_comment word
