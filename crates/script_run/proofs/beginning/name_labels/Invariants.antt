use Rattle.std.proofs.Common.{◌≡◌, ◌++◌, ℕ, List, take, reverse}
use Rattle.std.specs.List.{flat_map}
use Rattle.script_requests.specs.Holding.{HoldsJust}
use Rattle.text_model.specs.Named.{label_strings}
use Rattle.script_run.specs.Labels.{AreLabels}
use Rattle.script_run.proofs.beginning.name_labels.Given as goal

abbrev pub invariant-loop-line : goal.invariant-loop-line
invariant-loop-line g l = record {
  world : l.site.world ≡ l.initial.site.world;
  holds : (strings : List (List ℕ)) → HoldsJust g.H.Hash160.naming l.initial.site.held strings → HoldsJust g.H.Hash160.naming l.site.held (strings ++ flat_map label_strings (take l.line-index l.lines));
  labels : AreLabels g.H.Hash160.naming l.labels.entries (reverse (take l.line-index l.lines));
}
