use Rattle.std.proofs.Common.{◌≡◌, ◌∷◌, map, ap, subst, ◌∙◌, arith}
use Rattle.quorum.specs.declared.phase.Phase.{Phase}
use Rattle.quorum.specs.declared.phase.Phase.TheVariants as phase
use Rattle.ring_model.specs.Messages.{Letter, Member}
use Rattle.std.proofs.Common.{ℕ, List, refl}
use Rattle.message_model.specs.Meaning.{said}
use Rattle.vote_model.specs.Joins.{letter}
use Rattle.ring_member.specs.Views.{view_of}
use Rattle.ring_member.specs.Standing.{Stands}
use Rattle.ring_member.specs.Told.{votes_told}
use Rattle.ring_member.specs.Members.{vote_of}
use Rattle.member_orders.proofs.Owed.{quiet_stands}
use Rattle.ring_member.proofs.Quiets.{vote_orders, votes_alone}
use Rattle.ring_member.proofs.member.Member.count_vote.Goals as goal

same_letter : (p : Phase) (k t : ℕ) (d : List ℕ) → letter p k t d ≡ record { from = Member k; message = vote_of p t d }
same_letter phase.Prepare k t d = refl
same_letter phase.Commit k t d = refl

pub returns-then-sender-ge-MOST_MEMBERS-clause-stands : goal.returns-then-sender-ge-MOST_MEMBERS-clause-stands
returns-then-sender-ge-MOST_MEMBERS-clause-stands c = λ g i got party st.
    let live = st.progress_stands.live in
    absurd (omega (arith, party, c.if-sender-ge-MOST_MEMBERS.true, live.faults, live.few))

pub returns-then-sender-ge-MOST_MEMBERS-clause-told : goal.returns-then-sender-ge-MOST_MEMBERS-clause-told
returns-then-sender-ge-MOST_MEMBERS-clause-told c = λ g i got party st.
    let live = st.progress_stands.live in
    absurd (omega (arith, party, c.if-sender-ge-MOST_MEMBERS.true, live.faults, live.few))

pub returns-clause-stands : goal.returns-clause-stands
returns-clause-stands c = λ g i got party st.
    let m = c.args.self.now in
    let p = c.take_vote.new.self in
    let same = same_letter c.args.phase c.args.sender.0 c.args.seq.0 c.args.name in
    record {
      is = st.is;
      progress_stands = subst (λ (l : Letter). Stands g p.f (view_of p) (l ∷ got)) same (c.in_ok-messages.ensures.stands g got party st.progress_stands);
      orders_stand = λ z. quiet_stands g _ (record { from = Member c.args.sender.0; message = vote_of c.args.phase c.args.seq.0 c.args.name }) got (vote_orders g c.args.phase c.args.sender.0 c.args.seq.0 c.args.name) (st.orders_stand z);
    }

pub returns-clause-told : goal.returns-clause-told
returns-clause-told c = λ g i got party st.
    let m = c.args.self.now in
    let l : Letter = record { from = Member c.args.sender.0; message = vote_of c.args.phase c.args.seq.0 c.args.name } in
    let same = same_letter c.args.phase c.args.sender.0 c.args.seq.0 c.args.name in
    votes_alone g i m got l (map said c.in_ok-messages.messages.items) st (vote_orders g c.args.phase c.args.sender.0 c.args.seq.0 c.args.name)
    (c.in_ok-messages.ensures.told g got party st.progress_stands ∙ ap (λ (l : Letter). votes_told g got (l ∷ got)) same)
