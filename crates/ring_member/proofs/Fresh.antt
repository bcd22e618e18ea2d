-- A member that nothing was delivered to.
use Rattle.std.proofs.Common.{◌≡◌, ℕ, ◌≤◌, List, [], length, None, is_some, refl, sym, ap, ◌∙◌}
use Rattle.quorum.specs.declared.phase.Phase.{Phase}
use Rattle.quorum.specs.Windows.{first}
use Rattle.ring_model.specs.Messages.{Ring}
use Rattle.ring_model.specs.Member.{committed}
use Rattle.ring_model.proofs.Lists.{run_none}
use Rattle.ring_member.specs.Views.{View, inner}
use Rattle.ring_member.specs.Standing.{Stands}

pub fresh_stands : (g : Ring) (f : ℕ) (v : View) → g.f ≡ f → f ≤ 3 → g.slots ≡ 65536 → v.votes.floor ≡ 0 → ((p : Phase) (s j : ℕ) → first v.votes p s j ≡ None)
    → ((s : ℕ) → v.slot s ≡ None) → ((r : List ℕ) → v.name r ≡ None) → v.done ≡ [] → Stands g f v []
fresh_stands g f v faults few limit floor votes slots names done = record {
  live = record {
    faults = faults;
    few = few;
    limit = limit;
    declared = tt;
    floor_is = floor ∙ ap length (sym done);
    voted = λ p s j h. each p s j;
    proposed = λ s h. ap inner (slots s);
    named = names;
    kept = λ s h. ap is_some (slots s);
    dropped = λ s h. slots s;
    beyond = λ s h. slots s;
  };
  ran = done ∙ sym (run_none (committed g []) g.slots 1 refl);
} where
  each : (p : Phase) (s j : ℕ) → first v.votes p s j ≡ None
  each p s j = votes p s j
