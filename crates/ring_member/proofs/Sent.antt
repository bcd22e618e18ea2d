-- What is told to all members is what the model has a member send them.
use Rattle.std.proofs.Common.{◌≡◌, ℕ, ◌==◌, Bool, true, false, cond, List, [], ◌∷◌, ◌++◌, map, flat_map, Option, Some, None, refl, sym, ap, ap₂, ◌∙◌, append-nil, append_assoc}
use Rattle.std.specs.List.{range_with_len}
use Rattle.std.proofs.lemmas.Grind.{flat_map-append}
use Rattle.ring_message.specs.declared.message.Message.{Message as Spelled}
use Rattle.ring_model.specs.Messages.{Ring, Letter, Message, Packet, PrePrepare, Prepare, Commit, Member, to_members}
use Rattle.ring_model.specs.Member.{order_at, endorsed, prepared, news, newly}
use Rattle.message_model.specs.Meaning.{said}
use Rattle.member_orders.specs.Told.{news_of, orders_told}
use Rattle.ring_member.specs.Told.{prepares_told, commits_told, votes_told}
use Rattle.ring_member.specs.Members.{told, sent_to_members}

flat_flat : {X Y Z : Type 0} (f : Y → List Z) (h : X → List Y) (xs : List X) → flat_map f (flat_map h xs) ≡ flat_map (λ x. flat_map f (h x)) xs
flat_flat f h [] = refl
flat_flat f h (x ∷ xs) = flat_map-append f (h x) (flat_map h xs) ∙ ap (λ ys. flat_map f (h x) ++ ys) (flat_flat f h xs)

flat_each : {X Y : Type 0} (f h : X → List Y) (xs : List X) → ((x : X) → f x ≡ h x) → flat_map f xs ≡ flat_map h xs
flat_each f h [] e = refl
flat_each f h (x ∷ xs) e = ap₂ (λ ys zs. ys ++ zs) (e x) (flat_each f h xs e)

pub flat_said : (f : Message → List Packet) (ms : List Spelled) → flat_map (λ m. f (said m)) ms ≡ flat_map f (map said ms)
flat_said f [] = refl
flat_said f (m ∷ ms) = ap (λ xs. f (said m) ++ xs) (flat_said f ms)

one_sent : {Y : Type 0} (send : Message → List Packet) (o u : Option Y) (tell : Y → Message) → flat_map send (news_of o u tell) ≡ news o u (λ y. send (tell y))
one_sent send None None tell = refl
one_sent send None (Some y) tell = append-nil (send (tell y))
one_sent send (Some x) u tell = refl

-- for each slot
each_sent : {Y : Type 0} (g : Ring) (send : Message → List Packet) (before after : ℕ → Option Y) (tell : ℕ → Y → Message)
    → flat_map send (flat_map (λ s. news_of (before s) (after s) (tell s)) (range_with_len 1 g.slots)) ≡ newly g before after (λ s y. send (tell s y))
each_sent g send before after tell =
    flat_flat send (λ s. news_of (before s) (after s) (tell s)) (range_with_len 1 g.slots)
    ∙ flat_each (λ s. flat_map send (news_of (before s) (after s) (tell s))) (λ s. news (before s) (after s) (λ y. send (tell s y))) (range_with_len 1 g.slots) (λ s. one_sent send (before s) (after s) (tell s))

pub all_sent : (g : Ring) (i : ℕ) (older got : List Letter) → flat_map (to_members g (Member i)) (told g i older got) ≡ sent_to_members g i older got
all_sent g i older got =
    let send = to_members g (Member i) in
    flat_map-append send (cond (i == 0) (orders_told g older got) []) (votes_told g older got)
    ∙ ap₂ (λ xs ys. xs ++ ys)
    (first (i == 0))
    (flat_map-append send (prepares_told g older got) (commits_told g older got)
    ∙ ap₂ (λ xs ys. xs ++ ys) (each_sent g send (endorsed g older) (endorsed g got) (λ s r. Prepare s (g.h r))) (each_sent g send (prepared g older) (prepared g got) (λ s r. Commit s (g.h r))))
    ∙ together
  where
    P : List Packet
    P = newly g (endorsed g older) (endorsed g got) (λ s r. to_members g (Member i) (Prepare s (g.h r)))

    C : List Packet
    C = newly g (prepared g older) (prepared g got) (λ s r. to_members g (Member i) (Commit s (g.h r)))

    first : (b : Bool) → flat_map (to_members g (Member i)) (cond b (orders_told g older got) []) ≡ cond b (newly g (order_at g older) (order_at g got) (λ k r. to_members g (Member i) (PrePrepare k r))) []
    first true = each_sent g (to_members g (Member i)) (order_at g older) (order_at g got) (λ k r. PrePrepare k r)
    first false = refl

    together : cond (i == 0) (newly g (order_at g older) (order_at g got) (λ k r. to_members g (Member i) (PrePrepare k r))) []
        ++ (newly g (endorsed g older) (endorsed g got) (λ s r. to_members g (Member i) (Prepare s (g.h r))) ++ newly g (prepared g older) (prepared g got) (λ s r. to_members g (Member i) (Commit s (g.h r))))
        ≡ sent_to_members g i older got
    together = sym (append_assoc (cond (i == 0) (newly g (order_at g older) (order_at g got) (λ k r. to_members g (Member i) (PrePrepare k r))) []) P C)
