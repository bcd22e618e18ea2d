use Rattle.std.proofs.Common.{◌≡◌, List, Some, length, slice_get, refl, sym, ap, subst, arith}
use Rattle.script_terms.specs.declared.line.Line.{Line}
use Rattle.script_terms.specs.declared.line.LineClause.{LineClause}
use Rattle.script_terms.specs.declared.line.Line.TheVariants.{Submit, Resubmit, Deliver, Lose, Settle, Mute, Unmute, ForgeOrder, ForgePrepare, ForgeCommit, ForgeHeart, ForgeRaw}
use Rattle.script_run.proofs.Shown.{line_here}
use Rattle.script_run.proofs.Passed.{IsApart, apart_next}
use Rattle.ring_world.specs.Skipping.{skips as skips_of}
use Rattle.script_run.proofs.state.State.after.Goals as goal

pub bounds-as_slice-at : goal.bounds-as_slice-at
bounds-as_slice-at g c = omega (arith, ap length c.as_slice.ensures, c.requires.here)

pub submitted-requires : goal.submitted-requires
submitted-requires g c = record {
  within = c.requires.within;
  number = c.index-as_slice-at.result.0;
  here = subst (λ (cs : List LineClause). slice_get c.args.script.now.lines c.args.at ≡ Some (c.index-as_slice-at.result.0, Submit c.in-Submit.client c.in-Submit.label cs)) (sym c.as_slice-in-Submit.ensures)
      (line_here c.args.script.now c.as_slice.result.now c.args.at c.index-as_slice-at.result (Submit c.in-Submit.client c.in-Submit.label c.in-Submit.clauses) c.as_slice.ensures c.requires.here c.index-as_slice-at.is c.in-Submit.is);
  stands = c.requires.stands;
}

pub resubmitted-requires : goal.resubmitted-requires
resubmitted-requires g c = record {
  within = c.requires.within;
  number = c.index-as_slice-at.result.0;
  here = line_here c.args.script.now c.as_slice.result.now c.args.at c.index-as_slice-at.result (Resubmit c.in-Resubmit.client c.in-Resubmit.number) c.as_slice.ensures c.requires.here c.index-as_slice-at.is c.in-Resubmit.is;
  stands = c.requires.stands;
}

pub delivered-requires : goal.delivered-requires
delivered-requires g c = record {
  within = c.requires.within;
  number = c.index-as_slice-at.result.0;
  here = line_here c.args.script.now c.as_slice.result.now c.args.at c.index-as_slice-at.result (Deliver c.in-Deliver.from c.in-Deliver.to c.in-Deliver.place) c.as_slice.ensures c.requires.here c.index-as_slice-at.is c.in-Deliver.is;
  stands = c.requires.stands;
}

pub lost-requires : goal.lost-requires
lost-requires g c = record {
  within = c.requires.within;
  number = c.index-as_slice-at.result.0;
  here = line_here c.args.script.now c.as_slice.result.now c.args.at c.index-as_slice-at.result (Lose c.in-Lose.from c.in-Lose.to c.in-Lose.place) c.as_slice.ensures c.requires.here c.index-as_slice-at.is c.in-Lose.is;
  stands = c.requires.stands;
}

pub settled-requires : goal.settled-requires
settled-requires g c = record {
  within = c.requires.within;
  number = c.index-as_slice-at.result.0;
  here = line_here c.args.script.now c.as_slice.result.now c.args.at c.index-as_slice-at.result (Settle) c.as_slice.ensures c.requires.here c.index-as_slice-at.is c.in-Settle.is;
  stands = c.requires.stands;
}

pub muted-requires : goal.muted-requires
muted-requires g c = record {
  within = c.requires.within;
  number = c.index-as_slice-at.result.0;
  here = line_here c.args.script.now c.as_slice.result.now c.args.at c.index-as_slice-at.result (Mute c.in-Mute.party) c.as_slice.ensures c.requires.here c.index-as_slice-at.is c.in-Mute.is;
  stands = c.requires.stands;
}

pub unmuted-requires : goal.unmuted-requires
unmuted-requires g c = record {
  within = c.requires.within;
  number = c.index-as_slice-at.result.0;
  here = line_here c.args.script.now c.as_slice.result.now c.args.at c.index-as_slice-at.result (Unmute c.in-Unmute.party) c.as_slice.ensures c.requires.here c.index-as_slice-at.is c.in-Unmute.is;
  stands = c.requires.stands;
}

pub forged_order-requires : goal.forged_order-requires
forged_order-requires g c = record {
  within = c.requires.within;
  number = c.index-as_slice-at.result.0;
  here = line_here c.args.script.now c.as_slice.result.now c.args.at c.index-as_slice-at.result (ForgeOrder c.in-ForgeOrder.member c.in-ForgeOrder.to c.in-ForgeOrder.seq c.in-ForgeOrder.client c.in-ForgeOrder.number) c.as_slice.ensures c.requires.here c.index-as_slice-at.is c.in-ForgeOrder.is;
  stands = c.requires.stands;
}

pub forged_prepare-requires : goal.forged_prepare-requires
forged_prepare-requires g c = record {
  within = c.requires.within;
  number = c.index-as_slice-at.result.0;
  here = line_here c.args.script.now c.as_slice.result.now c.args.at c.index-as_slice-at.result (ForgePrepare c.in-ForgePrepare.member c.in-ForgePrepare.to c.in-ForgePrepare.seq c.in-ForgePrepare.client c.in-ForgePrepare.number) c.as_slice.ensures c.requires.here c.index-as_slice-at.is c.in-ForgePrepare.is;
  stands = c.requires.stands;
}

pub forged_commit-requires : goal.forged_commit-requires
forged_commit-requires g c = record {
  within = c.requires.within;
  number = c.index-as_slice-at.result.0;
  here = line_here c.args.script.now c.as_slice.result.now c.args.at c.index-as_slice-at.result (ForgeCommit c.in-ForgeCommit.member c.in-ForgeCommit.to c.in-ForgeCommit.seq c.in-ForgeCommit.client c.in-ForgeCommit.number) c.as_slice.ensures c.requires.here c.index-as_slice-at.is c.in-ForgeCommit.is;
  stands = c.requires.stands;
}

pub forged_heart-requires-clause-turn : goal.forged_heart-requires-clause-turn
forged_heart-requires-clause-turn g c = record {
  within = c.requires.within;
  number = c.index-as_slice-at.result.0;
  here = line_here c.args.script.now c.as_slice.result.now c.args.at c.index-as_slice-at.result (ForgeHeart c.in-ForgeHeart.member c.in-ForgeHeart.to c.in-ForgeHeart.label c.in-ForgeHeart.version c.in-ForgeHeart.name) c.as_slice.ensures c.requires.here c.index-as_slice-at.is c.in-ForgeHeart.is;
  stands = c.requires.stands;
}

pub forged_raw-requires : goal.forged_raw-requires
forged_raw-requires g c = record {
  within = c.requires.within;
  number = c.index-as_slice-at.result.0;
  here = line_here c.args.script.now c.as_slice.result.now c.args.at c.index-as_slice-at.result (ForgeRaw c.in-ForgeRaw.member c.in-ForgeRaw.to c.in-ForgeRaw.bytes) c.as_slice.ensures c.requires.here c.index-as_slice-at.is c.in-ForgeRaw.is;
  stands = c.requires.stands;
}

pub returns-in_default-clause-stands : goal.returns-in_default-clause-stands
returns-in_default-clause-stands g c =
    let line : Line = c.index-as_slice-at.result.1 in
    let apart : IsApart line = record {
      submit = c.in_default.not-Submit;
      resubmit = c.in_default.not-Resubmit;
      deliver = c.in_default.not-Deliver;
      lose = c.in_default.not-Lose;
      settle = c.in_default.not-Settle;
      mute = c.in_default.not-Mute;
      unmute = c.in_default.not-Unmute;
      order = c.in_default.not-ForgeOrder;
      prepare = c.in_default.not-ForgePrepare;
      commit = c.in_default.not-ForgeCommit;
      heart = c.in_default.not-ForgeHeart;
      raw = c.in_default.not-ForgeRaw;
    } in
    apart_next g.H.Hash160.naming c.args.script.now c.args.at line c.args.self.site (skips_of c.args.self.site.world) apart (record {
      within = c.requires.within;
      number = c.index-as_slice-at.result.0;
      here = line_here c.args.script.now c.as_slice.result.now c.args.at c.index-as_slice-at.result line c.as_slice.ensures c.requires.here c.index-as_slice-at.is refl;
      stands = c.requires.stands;
    })
