use Rattle.std.proofs.Common.{rules, ap, sym, ◌∙◌, ◌≡◌, Some, None}
use Rattle.quorum.specs.Slots.{kept_at}
use Rattle.quorum.proofs.Keeping.{count_blank, count_is}
use Rattle.quorum.proofs.window.Window.count_of.Goals as goal

pub returns-in-Some-clause-value : goal.returns-in-Some-clause-value
returns-in-Some-clause-value c =
    let found : kept_at c.self.inside.slots.entries c.args.seq.0 ≡ Some c.in-Some.slot.now = search rules in
    c.count_of.ensures ∙ sym (count_is c.args.self.now c.self.inside.slots.entries (ap (λ v. v.slots) c.self.view_is) c.args.phase c.args.seq.0 _ found c.args.name)

pub returns-in-None-clause-value : goal.returns-in-None-clause-value
returns-in-None-clause-value c =
    let found : kept_at c.self.inside.slots.entries c.args.seq.0 ≡ None = search rules in
    sym (count_is c.args.self.now c.self.inside.slots.entries (ap (λ v. v.slots) c.self.view_is) c.args.phase c.args.seq.0 _ found c.args.name ∙ count_blank c.args.phase c.args.name)
