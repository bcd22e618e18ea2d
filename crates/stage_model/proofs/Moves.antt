-- Each move of a pass keeps the rule, and what the rule tells.
use Rattle.std.proofs.Common.{◌≡◌, ℕ, ◌+◌, List, [], ◌∷◌, ◌++◌, set, sym, refl, ap, ◌∙◌, subst, append_assoc, arith}
use Rattle.std.specs.List.{flat_map, sum_by}
use Rattle.std.proofs.lemmas.List.Sums.{sum_by-append, sum_by_push}
use Rattle.std.proofs.lemmas.Grind.{flat_map-append}
use mathlib.Core.Option.{some}
use lib.ListN.{get_elem?}
use Rattle.stage_model.specs.Lines.{StandIn}
use Rattle.stage_model.specs.Passes.{Handled, Known, handled, all_put, all_taken, unused, with_put, with_taken, less_one, both}
use Rattle.stage_model.specs.Rules.{IsInOrder, IsIdle, Rule}
use Rattle.stage_model.specs.Laws.{BeginsInOrder, PutKeeps, TakeKeeps, SplitKeeps, JoinKeeps, IsLearned, AllIsTaken}
use Rattle.stage_model.proofs.Lists.{all_at, all_set, all_append, all_map, at_else}
use Rattle.stage_model.proofs.Weights.{sum_set, sum_flat, sum_flat_set, one_whole, sum_none}
use Rattle.stage_model.proofs.Orders.{stand_push, stand_longer}

pub begins_in_order : (Job : Type 0) → BeginsInOrder Job
begins_in_order Job = record {
  taken = [];
  put_once = λ weight. refl;
  taken_once = λ weight. refl;
  in_order = (((tt, tt), tt), tt);
  parts = refl;
  idle = ((λ none. absurd (omega (arith, none))), tt);
}

and_none : (n : ℕ) → n + 0 ≡ n
and_none n = omega arith

module _ {Job : Type 0} where
  -- a pass that has put and taken nothing weighs nothing
  none_weigh : (weight : Job → ℕ) → sum_by weight [] ≡ 0
  none_weigh weight = refl

  -- what stands in a line stands in each longer one
  longer_line : (line longer taken : List Job) → ((jobs : Handled Job) → StandIn jobs.put line → StandIn jobs.put longer) → (known : Known Job) → IsInOrder line taken known → IsInOrder longer taken known
  longer_line line longer taken stays known order =
      all_map (λ jobs. StandIn jobs.put line × StandIn jobs.taken taken) (λ jobs. StandIn jobs.put longer × StandIn jobs.taken taken) (λ jobs is. (stays jobs is.0, is.1)) (handled known) order

  same_line : (line moved taken more : List Job) → line ≡ moved → (known : Known Job) → IsInOrder line taken known → IsInOrder moved (taken ++ more) known
  same_line line moved taken more same known order =
      all_map (λ jobs. StandIn jobs.put line × StandIn jobs.taken taken) (λ jobs. StandIn jobs.put moved × StandIn jobs.taken (taken ++ more))
      (λ jobs is. (subst (StandIn jobs.put) same is.0, stand_longer jobs.taken taken more is.1)) (handled known) order

  put_weighs : (weight : Job → ℕ) (known : Known Job) (job : Job) → sum_by weight (all_put (with_put known job)) ≡ sum_by weight (all_put known) + weight job
  put_weighs weight known job =
      let rest = flat_map (λ (jobs : Handled Job). jobs.put) known.joined in
      omega (arith, sum_by-append weight (known.own.put ++ job ∷ []) rest, sum_by_push weight known.own.put job, sum_by-append weight known.own.put rest)

  take_weighs : (weight : Job → ℕ) (known : Known Job) (job : Job) → sum_by weight (all_taken (with_taken known (job ∷ []))) ≡ sum_by weight (all_taken known) + weight job
  take_weighs weight known job =
      let rest = flat_map (λ (jobs : Handled Job). jobs.taken) known.joined in
      omega (arith, sum_by-append weight (known.own.taken ++ job ∷ []) rest, sum_by_push weight known.own.taken job, sum_by-append weight known.own.taken rest)

  both_weigh : (f : Handled Job → List Job) (weight : Job → ℕ) (known other : Known Job)
      → sum_by weight (flat_map f (handled (both known other))) ≡ sum_by weight (flat_map f (handled known)) + sum_by weight (flat_map f (handled other))
  both_weigh f weight known other =
      ap (sum_by weight) (flat_map-append f (handled known) (handled other)) ∙ sum_by-append weight (flat_map f (handled known)) (flat_map f (handled other))

  pub put_keeps : PutKeeps Job
  put_keeps items passes at known job some_part rule there =
      let new = with_put known job in
      let line : (rule.taken ++ items) ++ job ∷ [] ≡ rule.taken ++ (items ++ job ∷ []) = append_assoc rule.taken items (job ∷ []) in
      let grown = longer_line (rule.taken ++ items) (rule.taken ++ (items ++ job ∷ [])) rule.taken (λ jobs is. subst (StandIn jobs.put) line (stand_longer jobs.put (rule.taken ++ items) (job ∷ []) is)) in
      let mine = all_at (IsInOrder (rule.taken ++ items) rule.taken) passes at known there rule.in_order in
      record {
        taken = rule.taken;
        put_once = λ weight.
            let s = sum_flat_set weight all_put passes at known new there in
            let p = rule.put_once weight in
            omega (arith, s, p, put_weighs weight known job, ap (sum_by weight) line, sum_by_push weight (rule.taken ++ items) job);
        taken_once = λ weight. let s = sum_flat_set weight all_taken passes at known new there in let p = rule.taken_once weight in omega (arith, s, p);
        in_order = all_set (IsInOrder (rule.taken ++ (items ++ job ∷ [])) rule.taken) passes at new
            (all_map (IsInOrder (rule.taken ++ items) rule.taken) (IsInOrder (rule.taken ++ (items ++ job ∷ [])) rule.taken) grown passes rule.in_order)
            ((subst (StandIn (known.own.put ++ job ∷ [])) line (stand_push known.own.put (rule.taken ++ items) job mine.0.0), mine.0.1), (grown known mine).1);
        parts = let s = sum_set (λ (k : Known Job). k.parts) passes at known new there in let p = rule.parts in omega (arith, s, p);
        idle = all_set IsIdle passes at new rule.idle (λ none. absurd (omega (arith, none, some_part)));
      }

  pub take_keeps : TakeKeeps Job
  take_keeps items passes at known job some_part rule there =
      let new = with_taken known (job ∷ []) in
      let taken = rule.taken ++ job ∷ [] in
      let line : rule.taken ++ (job ∷ items) ≡ taken ++ items = sym (append_assoc rule.taken (job ∷ []) items) in
      let grown = same_line (rule.taken ++ (job ∷ items)) (taken ++ items) rule.taken (job ∷ []) line in
      let mine = all_at (IsInOrder (rule.taken ++ (job ∷ items)) rule.taken) passes at known there rule.in_order in
      record {
        taken = taken;
        put_once = λ weight. let s = sum_flat_set weight all_put passes at known new there in let p = rule.put_once weight in omega (arith, s, p, ap (sum_by weight) line);
        taken_once = λ weight.
            let s = sum_flat_set weight all_taken passes at known new there in
            let p = rule.taken_once weight in
            omega (arith, s, p, take_weighs weight known job, sum_by_push weight rule.taken job);
        in_order = all_set (IsInOrder (taken ++ items) taken) passes at new
            (all_map (IsInOrder (rule.taken ++ (job ∷ items)) rule.taken) (IsInOrder (taken ++ items) taken) grown passes rule.in_order)
            ((subst (StandIn known.own.put) line mine.0.0, stand_push known.own.taken rule.taken job mine.0.1), (grown known mine).1);
        parts = let s = sum_set (λ (k : Known Job). k.parts) passes at known new there in let p = rule.parts in omega (arith, s, p);
        idle = all_set IsIdle passes at new rule.idle (λ none. absurd (omega (arith, none, some_part)));
      }

  -- a pass that gives what it has in two, of which one is a new pass
  recut : (items : List Job) (passes : List (Known Job)) (at : ℕ) (known left right : Known Job) (rule : Rule items passes) → get_elem? passes at ≡ some known
      → left.parts + right.parts ≡ known.parts
      → ((weight : Job → ℕ) → sum_by weight (all_put left) + sum_by weight (all_put right) ≡ sum_by weight (all_put known))
      → ((weight : Job → ℕ) → sum_by weight (all_taken left) + sum_by weight (all_taken right) ≡ sum_by weight (all_taken known))
      → (IsInOrder (rule.taken ++ items) rule.taken known → IsInOrder (rule.taken ++ items) rule.taken left × IsInOrder (rule.taken ++ items) rule.taken right)
      → IsIdle left → (IsIdle known → IsIdle right) → Rule items (set passes at left ++ right ∷ [])
  recut items passes at known left right rule there parts put taken order left_idle right_idle =
      let orders = order (all_at (IsInOrder (rule.taken ++ items) rule.taken) passes at known there rule.in_order) in
      record {
        taken = rule.taken;
        put_once = λ weight.
            let s = sum_flat_set weight all_put passes at known left there in
            let p = rule.put_once weight in
            let more = ap (sum_by weight) (flat_map-append all_put (set passes at left) (right ∷ [])) ∙ sum_by-append weight (flat_map all_put (set passes at left)) (flat_map all_put (right ∷ [])) in
            omega (arith, s, p, put weight, more, sum_by-append weight (all_put right) []);
        taken_once = λ weight.
            let s = sum_flat_set weight all_taken passes at known left there in
            let p = rule.taken_once weight in
            let more = ap (sum_by weight) (flat_map-append all_taken (set passes at left) (right ∷ [])) ∙ sum_by-append weight (flat_map all_taken (set passes at left)) (flat_map all_taken (right ∷ [])) in
            omega (arith, s, p, taken weight, more, sum_by-append weight (all_taken right) []);
        in_order = all_append (IsInOrder (rule.taken ++ items) rule.taken) (set passes at left) (right ∷ [])
            (all_set (IsInOrder (rule.taken ++ items) rule.taken) passes at left rule.in_order orders.0) (orders.1, tt);
        parts = let s = sum_set (λ (k : Known Job). k.parts) passes at known left there in let p = rule.parts in
            omega (arith, s, p, parts, sum_by_push (λ (k : Known Job). k.parts) (set passes at left) right);
        idle = all_append IsIdle (set passes at left) (right ∷ []) (all_set IsIdle passes at left rule.idle left_idle) (right_idle (all_at IsIdle passes at known there rule.idle), tt);
      }

  pub split_keeps : SplitKeeps Job
  split_keeps items passes at known two_parts rule there =
      recut items passes at known (less_one known) (unused 1) rule there (omega (arith, two_parts)) (λ weight. and_none (sum_by weight (all_put known))) (λ weight. and_none (sum_by weight (all_taken known)))
      (λ order. (order, ((tt, tt), tt))) (λ none. absurd (omega (arith, none, two_parts))) (λ is none. absurd (omega (arith, none)))

  pub join_keeps : JoinKeeps Job
  join_keeps items passes at seat known other some_part rule there apart beside =
      let new = both known other in
      let middle = set passes at new in
      let mine = all_at (IsInOrder (rule.taken ++ items) rule.taken) passes at known there rule.in_order in
      let theirs = all_at (IsInOrder (rule.taken ++ items) rule.taken) passes seat other (sym (at_else passes at seat new apart) ∙ beside) rule.in_order in
      let middle_order = all_set (IsInOrder (rule.taken ++ items) rule.taken) passes at new rule.in_order
      (mine.0, all_append (λ jobs. StandIn jobs.put (rule.taken ++ items) × StandIn jobs.taken rule.taken) known.joined (handled other) mine.1 theirs) in
      let middle_idle = all_set IsIdle passes at new rule.idle (λ none. absurd (omega (arith, none, some_part))) in
      record {
        taken = rule.taken;
        put_once = λ weight.
            let s = sum_flat_set weight all_put passes at known new there in
            let t = sum_flat_set weight all_put middle seat other (unused 0) beside in
            let p = rule.put_once weight in
            omega (arith, s, t, p, both_weigh (λ jobs. jobs.put) weight known other, none_weigh weight);
        taken_once = λ weight.
            let s = sum_flat_set weight all_taken passes at known new there in
            let t = sum_flat_set weight all_taken middle seat other (unused 0) beside in
            let p = rule.taken_once weight in
            omega (arith, s, t, p, both_weigh (λ jobs. jobs.taken) weight known other, none_weigh weight);
        in_order = all_set (IsInOrder (rule.taken ++ items) rule.taken) middle seat (unused 0) middle_order ((tt, tt), tt);
        parts = let s = sum_set (λ (k : Known Job). k.parts) passes at known new there in
            let t = sum_set (λ (k : Known Job). k.parts) middle seat other (unused 0) beside in
            let p = rule.parts in omega (arith, s, t, p);
        idle = all_set IsIdle middle seat (unused 0) middle_idle (λ none. refl);
      }

  pub is_learned : IsLearned Job
  is_learned items passes at known rule there =
      record {
        taken = rule.taken;
        in_order = all_at (IsInOrder (rule.taken ++ items) rule.taken) passes at known there rule.in_order;
        put_once = λ whole weight.
            let p = rule.put_once weight in
            let one = one_whole (λ k. sum_by weight (all_put k)) (λ (k : Known Job). k.parts) passes at known there (rule.parts ∙ sym whole)
            (all_map IsIdle (λ k. k.parts ≡ 0 → sum_by weight (all_put k) ≡ 0) (λ k is none. ap (λ u. sum_by weight (all_put u)) (is none)) passes rule.idle) in
            omega (arith, p, one, sum_flat weight all_put passes);
        taken_once = λ whole weight.
            let p = rule.taken_once weight in
            let one = one_whole (λ k. sum_by weight (all_taken k)) (λ (k : Known Job). k.parts) passes at known there (rule.parts ∙ sym whole)
            (all_map IsIdle (λ k. k.parts ≡ 0 → sum_by weight (all_taken k) ≡ 0) (λ k is none. ap (λ u. sum_by weight (all_taken u)) (is none)) passes rule.idle) in
            omega (arith, p, one, sum_flat weight all_taken passes);
      }

  pub all_is_taken : AllIsTaken Job
  all_is_taken known held whole weight =
      let moment = held.2 in
      let p = moment.put_once whole weight in
      let t = moment.taken_once whole weight in
      omega (arith, p, t, sum_by-append weight moment.taken held.0, sum_none weight held.0 held.1)
