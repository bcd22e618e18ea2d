-- Messages to members.
use Rattle.std.proofs.Common.{◌≡◌, ℕ, zero, suc, ◌+◌, ◌≤◌, List, [], ◌∷◌, ◌++◌, map, sym, ap, subst, ◌∙◌, arith}
use Rattle.std.specs.List.{AllByRecursion, range_with_len}
use Rattle.std.proofs.lemmas.List.{map-append}
use Rattle.std.proofs.lemmas.List.FromFn.{map-range_with_len_more}
use Rattle.ring_message.specs.declared.message.Out.{Out}
use Rattle.ring_model.specs.Messages.{Packet, Client, Member}
use Rattle.message_model.specs.Meaning.{meaning}
use Rattle.client_core.specs.Sending.{sent, asks}
use Rattle.message_model.specs.Members.{IsMember, AreToMembers}

-- a message from a client to a member
abbrev pub packet : ℕ → ℕ → List ℕ → Packet
packet c n bytes = record { from = Client c; to = Member n; message = meaning bytes }

pub sent_more : (c n : ℕ) (bytes : List ℕ) (outs news : List Out) (out : Out) → news ≡ outs ++ out ∷ [] → sent c out ≡ packet c n bytes
    → map (sent c) outs ≡ asks n c bytes → map (sent c) news ≡ asks (n + 1) c bytes
sent_more c n bytes outs news out more one before =
    ap (map (sent c)) more
    ∙ map-append (sent c) outs (out ∷ [])
    ∙ ap (λ (x : Packet). map (sent c) outs ++ x ∷ []) one
    ∙ ap (λ xs. xs ++ record { from = Client c; to = Member n; message = meaning bytes } ∷ []) before
    ∙ sym (map-range_with_len_more (λ j. record { from = Client c; to = Member j; message = meaning bytes }) 0 n n (omega arith))

-- what n members are sent from a on is for one of ten, where a + n is at most ten
range_low : (a n : ℕ) (bytes : List ℕ) → a + n ≤ 10 → AllByRecursion (λ (x : Packet). IsMember x.to) (map (λ j. packet 0 j bytes) (range_with_len a n))
range_low a zero bytes few = tt
range_low a (suc n) bytes few = (omega (arith, few), range_low (a + 1) n bytes (omega (arith, few)))

all_sent : (outs : List Out) → AllByRecursion (λ (x : Packet). IsMember x.to) (map (sent 0) outs) → AreToMembers outs
all_sent [] all = tt
all_sent (out ∷ outs) all = (all.0, all_sent outs all.1)

-- the receivers of a message to each of at most ten members
pub all_low : (n : ℕ) (bytes : List ℕ) (outs : List Out) → n ≤ 10 → map (sent 0) outs ≡ asks n 0 bytes → AreToMembers outs
all_low n bytes outs few are = all_sent outs (subst (AllByRecursion (λ (x : Packet). IsMember x.to)) (sym are) (range_low 0 n bytes (omega (arith, few))))
