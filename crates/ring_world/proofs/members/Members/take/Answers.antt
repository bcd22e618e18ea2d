use Rattle.std.proofs.Common.{Ok, cond, ℕ, [], refl, sym, subst}
use Rattle.ring_model.specs.Messages.{Member as member}
use Rattle.message_model.specs.Meaning.{letter}
use Rattle.client_core.specs.Naming.{Names}
use Rattle.message_model.specs.Naming.{strings_for}
use Rattle.ring_world.proofs.Standing.{correct_at, stands_at}
use Rattle.ring_world.proofs.Taken.{took}
use Rattle.ring_world.proofs.members.Members.take.Goals as goal

pub returns-clause-members : goal.returns-clause-members
returns-clause-members g c = λ r got archived ring from to are.
    let i = c.args.to.0 in
    let correct = correct_at g.N.Node.stands r c.args.self.now got archived i c.index_mut.result.now c.in-Some.node are to c.index_mut.ensures.value c.in-Some.is in
    let stood = stands_at g.N.Node.stands r c.args.self.now got archived i c.index_mut.result.now c.in-Some.node are to c.index_mut.ensures.value c.in-Some.is in
    took g.N.Node.stands r c.args.self.now _ got archived i (letter c.args.from c.args.bytes.now) c.take.new.self are to correct (c.in_ok-out.ensures.stands r i (got (member i)) (archived i) ring from stood) refl

pub returns-clause-names : goal.returns-clause-names
returns-clause-names g c = λ r got archived ring from to are.
    let i = c.args.to.0 in
    let correct = correct_at g.N.Node.stands r c.args.self.now got archived i c.index_mut.result.now c.in-Some.node are to c.index_mut.ensures.value c.in-Some.is in
    let stood = stands_at g.N.Node.stands r c.args.self.now got archived i c.index_mut.result.now c.in-Some.node are to c.index_mut.ensures.value c.in-Some.is in
    subst (λ b. Names {X = ℕ} g.H.Hash160.naming (cond b [] (strings_for r (got (member i)) (letter c.args.from c.args.bytes.now))) c.args.book.now.held c.take.new.book.held (Ok 0)) (sym correct) (
      c.in_ok-out.ensures.held r i (got (member i)) (archived i) ring from stood,
      c.take.ensures.grew r i (got (member i)) (archived i) ring from stood,
      c.in_ok-out.ensures.all r i (got (member i)) (archived i) ring from stood,
    )
