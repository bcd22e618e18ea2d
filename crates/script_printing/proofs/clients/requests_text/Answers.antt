use Rattle.std.proofs.Common.{ℕ, Option, List, ◌++◌, string_bytes, ◌∙◌, ap}
use Rattle.ring_model.specs.Belief.{believed, replied}
use Rattle.text_model.specs.Blocks as model
use Rattle.script_printing.proofs.Believed.{line_more}
use Rattle.script_printing.proofs.clients.requests_text.Goals as goal

pub loop-earlier-preserved : goal.loop-earlier-preserved
loop-earlier-preserved c = λ g k submits got stands.
    let outcomes : ℕ → Option (List ℕ) = λ n. believed g (replied n) got in
    c.in_ok-push_str.ensures.bytes ∙ ap (λ t. t ++ c.deref.result.now) (c.loop-earlier.invariant g k submits got stands)
    ∙ ap (λ line. model.request_lines outcomes c.loop-earlier.earlier ++ line) c.deref.ensures
    ∙ line_more outcomes c.loop-earlier.earlier _ (string_bytes c.in_ok-line.line) (c.outcome.ensures g k submits got stands) c.in_ok-line.ensures
