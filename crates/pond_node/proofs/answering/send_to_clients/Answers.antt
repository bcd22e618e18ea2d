use Rattle.std.proofs.Common.{◌++◌, ◌∷◌, [], ℕ, map, ap, sym, subst, ◌∙◌, arith, append_assoc}
use Rattle.std.specs.List.{range_with_len}
use Rattle.std.proofs.lemmas.List.{map-append}
use Rattle.std.proofs.lemmas.List.FromFn.{map-range_with_len_more}
use Rattle.ring_message.specs.declared.message.Out.{Out}
use Rattle.ring_model.specs.Messages.{Packet, Member, Client}
use Rattle.ring_model.proofs.History.{Each-append}
use Rattle.message_model.specs.Meaning.{who, packet, meaning}
use Rattle.ring_model.specs.Seats.{IsSeat}
use Rattle.pond_node.specs.Answers.{AreSeated}
use Rattle.pond_node.proofs.answering.send_to_clients.Goals as goal

pub loop-client-preserved : goal.loop-client-preserved
loop-client-preserved c = (
  λ i.
      let k = c.loop-client.client in
      let send : ℕ → Packet = λ k. record { from = Member i; to = Client k; message = meaning c.args.bytes.now } in
      let before = map (packet i) c.args.out.now.items in
      ap (map (packet i)) c.in_ok-push.ensures.items ∙ map-append (packet i) c.loop-client.out.items _
      ∙ ap (λ b. map (packet i) c.loop-client.out.items ++ record { from = Member i; to = Client k; message = meaning b } ∷ []) c.in_ok-clone.ensures.cases
      ∙ ap (λ xs. xs ++ send k ∷ []) (c.loop-client.invariant.0 i)
      ∙ append_assoc before (map send (range_with_len 0 k)) (send k ∷ [])
      ∙ ap (λ xs. before ++ xs) (sym (map-range_with_len_more send 0 k k (omega arith))),
  λ seats.
      subst AreSeated (sym c.in_ok-push.ensures.items)
      (Each-append (λ (o : Out). IsSeat (who o.to)) c.loop-client.out.items _ (c.loop-client.invariant.1 seats) (omega arith, tt)),
)

pub returns-clause-sent : goal.returns-clause-sent
returns-clause-sent c = λ g i clients.
    c.loop-client.invariant.0 i
    ∙ ap (λ n. map (packet i) c.args.out.now.items ++ map (λ k. record { from = Member i; to = Client k; message = meaning c.args.bytes.now }) (range_with_len 0 n)) (omega (arith, clients))
