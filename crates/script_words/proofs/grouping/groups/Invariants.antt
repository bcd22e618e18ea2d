use Rattle.std.proofs.Common.{length, ◌-◌, ◌+◌, ◌≤◌, ◌≡◌, ℕ, ◌++◌, drop}
use Rattle.std.specs.Option.{option_map}
use Rattle.script_grammar.specs.Update.{groups, groups_of}
use Rattle.script_words.specs.Views.{place_view}
use Rattle.script_words.specs.Groups.{texts, groups_in}
use Rattle.script_words.proofs.grouping.groups.Given as goal

abbrev pub invariant-loop-at : goal.invariant-loop-at
invariant-loop-at l =
    (l.at ≤ length l.words) × (most : ℕ) × (length l.words ≤ most + l.at) × (option_map (λ more. groups_in l.groups.items ++ more) (groups most (place_view l.place) (drop l.at (texts l.words))) ≡ groups_of (texts l.words))

abbrev pub decreases-loop-at : goal.decreases-loop-at
decreases-loop-at l = length l.words - l.at
