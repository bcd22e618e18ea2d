use Rattle.std.proofs.Common.{◌≡◌, ℕ, List, string_bytes}
use Rattle.ring_model.specs.Messages.{Ring, Letter}
use Rattle.ring_model.specs.Belief.{believed, replied}
use Rattle.client_core.specs.Clients.{ClientStands}
use Rattle.text_model.specs.Blocks as model
use Rattle.script_printing.proofs.clients.requests_text.Given as goal

abbrev pub invariant-loop-earlier : goal.invariant-loop-earlier
invariant-loop-earlier l = (g : Ring) (c : ℕ) (submits : List (List ℕ)) (got : List Letter) → ClientStands l.client g c submits got
    → string_bytes l.text ≡ model.request_lines (λ n. believed g (replied n) got) l.earlier
