use Rattle.std.proofs.Common.{◌≡◌, true, false, ap, sym, ◌∙◌, arith, None}
use Rattle.std.specs.Option.{option_map}
use Rattle.ring_model.specs.History.{is_name}
use Rattle.ring_message.specs.Spelling.{outcome_string}
use Rattle.client_core.specs.Replies.{vote_of}
use Rattle.client_core.proofs.Counting.{count_next, index_same}
use Rattle.client_core.proofs.entry.count_of.Goals.{then-is_for, else-is_for}
use Rattle.client_core.proofs.entry.count_of.Goals as goal

pub loop-seat-preserved : goal.loop-seat-preserved
loop-seat-preserved c = elim c.if-is_for.branch [
  | then-is_for w ↦ (
    omega (arith, w.count-is, c.loop-seat.invariant.0),
    count_next c.loop-seat.seat (λ j. option_map outcome_string (vote_of c.args.votes.now j)) (outcome_string c.args.outcome.now) c.loop-seat.count c.if-is_for.count true c.loop-seat.invariant.1 (says ∙ w.if-is_for.true) w.count-is,
  )
  | else-is_for w ↦ (
    omega (arith, w.count-is, c.loop-seat.invariant.0),
    count_next c.loop-seat.seat (λ j. option_map outcome_string (vote_of c.args.votes.now j)) (outcome_string c.args.outcome.now) c.loop-seat.count c.if-is_for.count false c.loop-seat.invariant.1 (says ∙ w.if-is_for.false) (omega (arith, w.count-is)),
  )
] where
  says : is_name (outcome_string c.args.outcome.now) (option_map outcome_string (vote_of c.args.votes.now c.loop-seat.seat)) ≡ c.is_for.result
  says =
      let seen : vote_of c.args.votes.now c.loop-seat.seat ≡ c.index-votes-seat.result
      = index_same c.args.votes.now c.loop-seat.seat None c.index-votes-seat.result (omega (arith, c.requires, c.loop-seat-test.true)) ∙ sym c.index-votes-seat.is in
      ap (λ v. is_name (outcome_string c.args.outcome.now) (option_map outcome_string v)) seen ∙ sym c.is_for.ensures
