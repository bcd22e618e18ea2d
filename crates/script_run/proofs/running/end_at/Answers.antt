use Rattle.std.proofs.Common.{refl, sym, ◌∙◌, subst}
use Rattle.std.specs.Io.KnownBytes.{Appends}
use Rattle.pond_base.specs.Outside.{AppendsPrefix}
use Rattle.script_requests.specs.Holding.{IsClashOf}
use Rattle.script_requests.proofs.Holds.{clash_found}
use Rattle.text_model.specs.Clashes.{IsClash}
use Rattle.script_run.proofs.running.end_at.Goals as goal

pub returns-in_default-write_whole : goal.returns-in_default-write_whole
returns-in_default-write_whole g c = λ h strings text clash is.
    let here : IsClash h strings c.in-Clash.old c.in-Clash.new = subst (IsClashOf h strings) c.in-Clash.is clash in
    let same = (c.as_bytes.ensures.value ∙ c.in-Ok.ensures) ∙ sym (is (clash_found h strings c.in-Clash.old c.in-Clash.new here)) in
    (subst (AppendsPrefix (g.K.Sink.taken c.args.sink.now) (g.K.Sink.taken c.write_whole.new.sink)) same c.write_whole.ensures.prefix, c.in_default-write_whole.ensures.counted.failed)

pub returns-in-Ok-write_whole : goal.returns-in-Ok-write_whole
returns-in-Ok-write_whole g c = λ h strings text clash is.
    let here : IsClash h strings c.in-Clash.old c.in-Clash.new = subst (IsClashOf h strings) c.in-Clash.is clash in
    let same = (c.as_bytes.ensures.value ∙ c.in-Ok.ensures) ∙ sym (is (clash_found h strings c.in-Clash.old c.in-Clash.new here)) in
    ((subst (Appends (g.K.Sink.taken c.args.sink.now) (g.K.Sink.taken c.write_whole.new.sink)) same c.in-Ok-write_whole.ensures.whole, c.in-Ok-write_whole.ensures.counted.kept), refl, here)
