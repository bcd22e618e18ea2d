use Rattle.std.proofs.Common.{◌∙◌, arith}
use Rattle.ring_member.specs.Views.{view_of}
use Rattle.ring_member.proofs.Counted.{kept_fits, kept_are}
use Rattle.std.proofs.Common.{refl}
use Rattle.ring_member.proofs.member.Member.kept_slots.Goals as goal

pub overflow_cast-result : goal.overflow_cast-result
overflow_cast-result c =
    let p = c.args.self.now.progress in
    omega (arith, c.len.ensures.len, kept_fits p.slots.entries c.len.ensures.ordered c.args.self.now.whole.numbered)

pub returns : goal.returns
returns c = λ g i got st.
    let p = c.args.self.now.progress in
    c.len.ensures.len ∙ kept_are g p.f (view_of p) got p.slots.entries st.progress_stands (λ s. refl) c.len.ensures.ordered c.args.self.now.whole.numbered c.args.self.now.whole.within
