use Rattle.std.proofs.Common.{◌++◌, ◌∷◌, [], ℕ, map, ap, sym, subst, ◌∙◌, arith, append_assoc}
use Rattle.std.specs.List.{range_with_len}
use Rattle.std.proofs.lemmas.List.{map-append}
use Rattle.std.proofs.lemmas.List.FromFn.{map-range_with_len_more}
use Rattle.ring_message.specs.declared.message.Out.{Out}
use Rattle.ring_model.specs.Messages.{Packet, Member}
use Rattle.ring_model.proofs.History.{Each-append}
use Rattle.message_model.specs.Meaning.{who, packet, meaning}
use Rattle.message_model.specs.Members.{IsMember, AreToMembers}
use Rattle.ring_member.proofs.broadcast.send_to_all.Goals as goal

pub loop-member-preserved : goal.loop-member-preserved
loop-member-preserved c = (
  λ i.
      let j = c.loop-member.member in
      let send : ℕ → Packet = λ j. record { from = Member i; to = Member j; message = meaning c.args.bytes.now } in
      let before = map (packet i) c.args.out.now.items in
      ap (map (packet i)) c.in_ok-push.ensures.items ∙ map-append (packet i) c.loop-member.out.items _
      ∙ ap (λ b. map (packet i) c.loop-member.out.items ++ record { from = Member i; to = Member j; message = meaning b } ∷ []) c.in_ok-clone.ensures.cases
      ∙ ap (λ xs. xs ++ send j ∷ []) (c.loop-member.invariant.0 i)
      ∙ append_assoc before (map send (range_with_len 0 j)) (send j ∷ [])
      ∙ ap (λ xs. before ++ xs) (sym (map-range_with_len_more send 0 j j (omega arith))),
  λ seats.
      subst AreToMembers (sym c.in_ok-push.ensures.items)
      (Each-append (λ (o : Out). IsMember (who o.to)) c.loop-member.out.items _ (c.loop-member.invariant.1 seats) (omega arith, tt)),
)

pub returns-clause-sent : goal.returns-clause-sent
returns-clause-sent c = λ g i faults.
    c.loop-member.invariant.0 i
    ∙ ap (λ n. map (packet i) c.args.out.now.items ++ map (λ j. record { from = Member i; to = Member j; message = meaning c.args.bytes.now }) (range_with_len 0 n)) (omega (arith, faults))
