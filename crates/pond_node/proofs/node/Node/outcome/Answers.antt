use Rattle.std.proofs.Common.{ap, ◌∙◌, arith}
use Rattle.ring_member.specs.Members.{entry}
use Rattle.pond_node.proofs.Served.{by_block, entry_at}
use Rattle.pond_node.proofs.node.Node.outcome.Goals as goal

pub returns : goal.returns
returns c = λ g i got archived st block small folds.
    c.get.ensures.value ∙ entry_at c.args.self.now.outcomes c.args.seq.0 (omega (arith, c.if-seq-eq0.false))
    ∙ ap (λ os. entry os c.args.seq.0) (by_block c.args.self.now g i got st.done block small folds).outcomes_are
