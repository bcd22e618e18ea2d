use Rattle.std.proofs.Common.{◌≡◌, ◌∙◌, Some, length, slice_get, string_bytes, refl, ap, arith}
use Rattle.std.proofs.lemmas.Result.{IfOk-weaker}
use Rattle.script_terms.specs.declared.line.Line.{Line}
use Rattle.script_terms.specs.declared.line.Line.TheVariants.{Read, ShowMember, ShowClient, ShowVersion, ShowRecent}
use Rattle.text_model.specs.Requests.{Numbered}
use Rattle.script_run.specs.States.{lines_before}
use Rattle.script_run.proofs.Shown.{line_here, prints_it, nothing_printed}
use Rattle.script_run.proofs.printing.line_text.Goals as goal

pub bounds-as_slice-at : goal.bounds-as_slice-at
bounds-as_slice-at g c =
    let lent : c.as_slice.result.now ≡ c.args.script.now.lines = c.as_slice.ensures in
    omega (arith, ap length lent, c.requires.here)

pub read_text-requires-clause-turn : goal.read_text-requires-clause-turn
read_text-requires-clause-turn g c = record {
  within = c.requires.within;
  number = c.index-as_slice-at.result.0;
  here = line_here c.args.script.now c.as_slice.result.now c.args.at c.index-as_slice-at.result (Read c.in-Read.client c.in-Read.label) c.as_slice.ensures c.requires.here c.index-as_slice-at.is c.in-Read.is;
  stands = c.requires.stands;
}

pub client_text-requires-clause-turn : goal.client_text-requires-clause-turn
client_text-requires-clause-turn g c = record {
  within = c.requires.within;
  number = c.index-as_slice-at.result.0;
  here = line_here c.args.script.now c.as_slice.result.now c.args.at c.index-as_slice-at.result (ShowClient c.in-ShowClient.client) c.as_slice.ensures c.requires.here c.index-as_slice-at.is c.in-ShowClient.is;
  stands = c.requires.stands;
}

pub member_text-requires : goal.member_text-requires
member_text-requires g c = record {
  within = c.requires.within;
  number = c.index-as_slice-at.result.0;
  here = line_here c.args.script.now c.as_slice.result.now c.args.at c.index-as_slice-at.result (ShowMember c.in-ShowMember.member) c.as_slice.ensures c.requires.here c.index-as_slice-at.is c.in-ShowMember.is;
  stands = c.requires.stands;
}

pub shape_text-requires : goal.shape_text-requires
shape_text-requires g c = record {
  within = c.requires.within;
  number = c.index-as_slice-at.result.0;
  here = line_here c.args.script.now c.as_slice.result.now c.args.at c.index-as_slice-at.result (ShowVersion c.in-ShowVersion.member c.in-ShowVersion.label c.in-ShowVersion.version) c.as_slice.ensures c.requires.here c.index-as_slice-at.is
      c.in-ShowVersion.is;
  stands = c.requires.stands;
}

pub returns-in-Read : goal.returns-in-Read
returns-in-Read g c =
    let script = c.args.script.now in
    let at = c.args.at in
    let line : Line = Read c.in-Read.client c.in-Read.label in
    let here : slice_get script.lines at ≡ Some (c.index-as_slice-at.result.0, line) =
    line_here script c.as_slice.result.now at c.index-as_slice-at.result line c.as_slice.ensures c.requires.here c.index-as_slice-at.is c.in-Read.is in
    IfOk-weaker c.read_text.result _ _ (λ printed p. prints_it g.H.Hash160.naming script at c.index-as_slice-at.result.0 line (string_bytes printed) here p) c.read_text.ensures

pub returns-in-ShowMember : goal.returns-in-ShowMember
returns-in-ShowMember g c =
    let script = c.args.script.now in
    let at = c.args.at in
    let line : Line = ShowMember c.in-ShowMember.member in
    let here : slice_get script.lines at ≡ Some (c.index-as_slice-at.result.0, line) =
    line_here script c.as_slice.result.now at c.index-as_slice-at.result line c.as_slice.ensures c.requires.here c.index-as_slice-at.is c.in-ShowMember.is in
    IfOk-weaker c.member_text.result _ _ (λ printed p. prints_it g.H.Hash160.naming script at c.index-as_slice-at.result.0 line (string_bytes printed) here p) c.member_text.ensures

pub returns-in-ShowClient : goal.returns-in-ShowClient
returns-in-ShowClient g c =
    let script = c.args.script.now in
    let at = c.args.at in
    let line : Line = ShowClient c.in-ShowClient.client in
    let here : slice_get script.lines at ≡ Some (c.index-as_slice-at.result.0, line) =
    line_here script c.as_slice.result.now at c.index-as_slice-at.result line c.as_slice.ensures c.requires.here c.index-as_slice-at.is c.in-ShowClient.is in
    IfOk-weaker c.client_text.result _ _ (λ printed p. prints_it g.H.Hash160.naming script at c.index-as_slice-at.result.0 line (string_bytes printed) here p) c.client_text.ensures

pub returns-in-ShowVersion : goal.returns-in-ShowVersion
returns-in-ShowVersion g c =
    let script = c.args.script.now in
    let at = c.args.at in
    let line : Line = ShowVersion c.in-ShowVersion.member c.in-ShowVersion.label c.in-ShowVersion.version in
    let here : slice_get script.lines at ≡ Some (c.index-as_slice-at.result.0, line) =
    line_here script c.as_slice.result.now at c.index-as_slice-at.result line c.as_slice.ensures c.requires.here c.index-as_slice-at.is c.in-ShowVersion.is in
    IfOk-weaker c.shape_text.result _ _ (λ printed p. prints_it g.H.Hash160.naming script at c.index-as_slice-at.result.0 line (string_bytes printed) here p) c.shape_text.ensures

pub returns-in-ShowRecent : goal.returns-in-ShowRecent
returns-in-ShowRecent g c =
    let script = c.args.script.now in
    let at = c.args.at in
    let here : slice_get script.lines at ≡ Some (c.index-as_slice-at.result.0, ShowRecent) =
    line_here script c.as_slice.result.now at c.index-as_slice-at.result ShowRecent c.as_slice.ensures c.requires.here c.index-as_slice-at.is c.in-ShowRecent.is in
    IfOk-weaker c.recent_text.result _ _ (λ printed p. prints_it g.H.Hash160.naming script at c.index-as_slice-at.result.0 ShowRecent (string_bytes printed) here p) c.recent_text.ensures

pub returns-in_default : goal.returns-in_default
returns-in_default g c =
    let h = g.H.Hash160.naming in
    let script = c.args.script.now in
    let at = c.args.at in
    let line : Numbered = c.index-as_slice-at.result in
    let here : slice_get script.lines at ≡ Some (line.0, line.1) = line_here script c.as_slice.result.now at line line.1 c.as_slice.ensures c.requires.here c.index-as_slice-at.is refl in
    let none = nothing_printed h script (lines_before script at) line.1 c.in_default.not-Read c.in_default.not-ShowMember c.in_default.not-ShowClient c.in_default.not-ShowVersion c.in_default.not-ShowRecent in
    prints_it h script at line.0 line.1 (string_bytes c.new.result) here (c.new.ensures.bytes ∙ none)
