use Rattle.std.proofs.Common.{◌≡◌, ◌+◌, ◌++◌, string_bytes, ◌∙◌, ap}
use Rattle.ring_model.specs.Belief.{heart_of}
use Rattle.heartbeat.specs.Joins.{heart_told, votes_in, marked}
use Rattle.text_model.specs.Blocks as model
use Rattle.script_printing.proofs.Believed.{heart_lines, heart_more, hearts_all, lines_of_labels}
use Rattle.script_printing.proofs.clients.hearts_text.Goals as goal

pub loop-label-preserved : goal.loop-label-preserved
loop-label-preserved c = λ g got hearts.
    let label = c.in-Some.label.now in
    let object = c.in-Some.object.now in
    let line : string_bytes c.in_ok-line.line ≡ model.heart_line label (heart_of g object got) =
    c.in_ok-line.ensures object ∙ ap (λ found. model.heart_line label (marked object found)) (c.newest.ensures (g.f + 1) (votes_in heart_told got) hearts.stands) ∙ ap (model.heart_line label) (hearts.newest object) in
    ap (λ t. t ++ heart_lines g got c.next.new.self) (c.in_ok-push_str.ensures.bytes ∙ ap (λ t. string_bytes c.loop-label.text ++ t) c.deref.ensures)
    ∙ heart_more g got (label, object) c.loop-label.label-iterator c.next.new.self (string_bytes c.loop-label.text) (string_bytes c.in_ok-line.line) (heart_lines g got c.args.labels.now.entries) c.in-Some.ensures.steps line
    (c.loop-label.invariant g got hearts)

pub returns : goal.returns
returns c = λ g got h names hearts are.
    hearts_all g got c.loop-label.label-iterator (string_bytes c.loop-label.text) (heart_lines g got c.args.labels.now.entries) c.in-None.ensures.steps.0 (c.loop-label.invariant g got hearts)
    ∙ ap (heart_lines g got) are ∙ lines_of_labels g got h names
