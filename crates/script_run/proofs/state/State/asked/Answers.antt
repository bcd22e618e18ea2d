use Rattle.std.proofs.Common.{◌≡◌, [], None, Some, unwrap_or, ◌∙◌, ap}
use Rattle.script_run.specs.States.{lines_before}
use Rattle.script_run.proofs.Forgeries.{answered, string_at}
use Rattle.ring_world.specs.Skipping.{skips as skips_of}
use Rattle.script_run.proofs.state.State.asked.Goals as goal

pub unreachable-requires : goal.unreachable-requires
unreachable-requires g c =
    let h = g.H.Hash160.naming in
    let a = c.args in
    let lines = lines_before a.script.now a.at in
    let there : None ≡ Some (string_at h a.script.now lines a.client a.number) =
    answered c.asked_is_there.ensures h a.script.now lines a.self.now.site (skips_of a.self.now.site.world) a.client a.number c.world.result.now None c.requires.stands c.requires.sent c.world.ensures.world c.in-None.ensures.found in
    absurd (cc)

pub returns : goal.returns
returns g c =
    let h = g.H.Hash160.naming in
    let a = c.args in
    let lines = lines_before a.script.now a.at in
    let there : Some c.in-Some.text.now ≡ Some (string_at h a.script.now lines a.client a.number) =
    answered c.asked_is_there.ensures h a.script.now lines a.self.now.site (skips_of a.self.now.site.world) a.client a.number c.world.result.now (Some c.in-Some.text.now) c.requires.stands c.requires.sent c.world.ensures.world c.in-Some.ensures.found in
    c.in_ok-clone-in-Some.ensures.cases ∙ ap (λ text. unwrap_or text []) there
