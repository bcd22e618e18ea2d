use Rattle.std.proofs.Common.{◌≡◌, ◌∷◌, length, get_or, refl, sym, ◌∙◌, ap, subst, arith}
use Rattle.std.specs.Io.KnownBytes.{Appends}
use Rattle.pond_base.specs.Outside.{AppendsPrefix}
use Rattle.ring_model.proofs.History.{same_some}
use Rattle.script_requests.specs.Holding.{IsClashOf}
use Rattle.text_model.specs.Named.{named}
use Rattle.text_model.specs.Outside.{cut, cut_by}
use Rattle.text_model.specs.Requests.{Numbered}
use Rattle.text_model.specs.Text.{line_text}
use Rattle.script_run.specs.Ends.{written_at}
use Rattle.script_run.specs.States.{StandsFor, lines_before}
use Rattle.script_run.proofs.Stepping.{ends_here, line_written}
use Rattle.script_run.proofs.Shown.{line_here}
use Rattle.script_run.proofs.Turns.{lines_more}
use Rattle.ring_world.specs.Skipping.{skips as skips_of}
use Rattle.script_run.proofs.running.after_line.Goals as goal

pub bounds-as_slice-at : goal.bounds-as_slice-at
bounds-as_slice-at g c = omega (arith, ap length c.as_slice.ensures, c.requires.here)

pub returns-in-Err-clause-ends : goal.returns-in-Err-clause-ends
returns-in-Err-clause-ends g c = λ line here.
    let h = g.H.Hash160.naming in
    let script = c.args.script.now in
    let before = lines_before script c.args.at in
    let fault : IsClashOf h (named h script (line ∷ before)) c.in-Err.fault = subst (λ lines. IsClashOf h (named h script lines) c.in-Err.fault) (lines_more script c.args.at line here) c.in-Err.ensures.fault in
    let there = line_here script c.as_slice.result.now c.args.at c.index-as_slice-at.result c.index-as_slice-at.result.1 c.as_slice.ensures c.requires.here c.index-as_slice-at.is refl in
    let number : c.index-as_slice-at.result.0 ≡ line.0 = ap (λ (l : Numbered). l.0) (same_some (c.index-as_slice-at.result.0, c.index-as_slice-at.result.1) line (sym there ∙ here)) in
    ends_here h script before line c.index-as_slice-at.result.0 _ c.end_at.result c.in-Err.fault number c.end_at.ensures fault

pub returns-in_default-write_whole-clause-ends : goal.returns-in_default-write_whole-clause-ends
returns-in_default-write_whole-clause-ends g c = λ line here.
    let h = g.H.Hash160.naming in
    let script = c.args.script.now in
    let before = lines_before script c.args.at in
    let next : StandsFor h script (line ∷ before) c.in-Ok-after.state.site (skips_of c.in-Ok-after.state.site.world) =
    subst (λ lines. StandsFor h script lines c.in-Ok-after.state.site (skips_of c.in-Ok-after.state.site.world)) (lines_more script c.args.at line here) c.in-Ok-after.ensures.stands in
    let text : c.as_bytes.result.now ≡ line_text h script before line.1 = c.as_bytes.ensures.value ∙ c.in-Ok.ensures line here in
    let same : c.as_bytes.result.now ≡ written_at h script before line = text ∙ sym (line_written h script before line c.in-Ok-after.state.site (skips_of c.in-Ok-after.state.site.world) next) in
    (subst (AppendsPrefix (g.K.Sink.taken c.args.sink.now) (g.K.Sink.taken c.write_whole.new.sink)) same c.write_whole.ensures.prefix, c.in_default-write_whole.ensures.counted.failed)

pub returns-clause-takes : goal.returns-clause-takes
returns-clause-takes g c = λ line here.
    let h = g.H.Hash160.naming in
    let script = c.args.script.now in
    let before = lines_before script c.args.at in
    let text : c.as_bytes.result.now ≡ line_text h script before line.1 = c.as_bytes.ensures.value ∙ c.in-Ok.ensures line here in
    (subst (Appends (g.K.Sink.taken c.args.sink.now) (g.K.Sink.taken c.write_whole.new.sink)) text c.in-Ok-write_whole.ensures.whole, c.in-Ok-write_whole.ensures.counted.kept)

pub returns-clause-outside : goal.returns-clause-outside
returns-clause-outside g c =
    let script = c.args.script.now in
    let at = c.args.at in
    let line : Numbered = c.index-as_slice-at.result in
    let there = line_here script c.as_slice.result.now at line line.1 c.as_slice.ensures c.requires.here c.index-as_slice-at.is refl in
    c.in-Ok-change.ensures.ok ∙ ap (λ spots. cut_by spots line.1) c.requires.outside ∙ ap cut (sym (lines_more script at (line.0, line.1) there))
