use Rattle.std.proofs.Common.{ap, ◌∙◌, arith}
use Rattle.vote_words_model.specs.declared.View.{View}
use Rattle.vote_board.proofs.Changed.{Remembers-trans, loaded_remembers}
use Rattle.vote_board.proofs.Shown.{shown_step, loads_step}
use Rattle.vote_board.proofs.board.VoteBoard.load_row.Goals as goal

pub loop-k-preserved : goal.loop-k-preserved
loop-k-preserved c =
    let first = c.args.seat.now.seat.me.0 in
    let before = c.loop-k.seat.seat.me.0 in
    let after = c.load.new.seat.seat.me.0 in
    record {
      board = c.load.ensures.seat;
      shown = shown_step before after c.args.from c.loop-k.found c.loop-k.k c.load.result c.load.ensures.view (omega arith) c.loop-k.invariant.shown c.load.ensures.shown;
      loads = loads_step first before after c.args.from c.loop-k.k c.load.result c.loop-k.invariant.loads c.load.ensures.view;
      sets = ap (λ (v : View). v.sets) c.load.ensures.view ∙ c.loop-k.invariant.sets;
      kept = Remembers-trans first before after c.loop-k.invariant.kept (loaded_remembers before after _ c.load.result c.load.ensures.view);
    }
