-- The clients of a world, one of which changes.
use Rattle.std.proofs.Common.{◌≡◌, ℕ, ◌+◌, ◌*◌, ◌<◌, Bool, true, false, cond, ◌==◌, List, [], ◌∷◌, ◌++◌, ⊎_elim, length, filter, map, get_or, set, Some, refl, sym, ap, subst, ◌∙◌, arith, append-nil}
use Rattle.std.specs.Vec.{with_item}
use Rattle.std.specs.List.{AllByRecursion as Each}
use Rattle.std.proofs.lemmas.Bool.{eqb-true, eq-eqb, cases_lt}
use Rattle.std.proofs.lemmas.List.{length-set, get_or-set_same, get_or-set_other, get_or_append_left, get_or_push}
use Rattle.circular_buffer.specs.Buffer.{Buffer, buffer}
use Rattle.ring_model.specs.Messages.{Ring, Letter, Party as Who, Member as member, Client as client}
use Rattle.ring_model.specs.World.{World as Model, came}
use Rattle.ring_model.proofs.History.{Each-weaker}
use Rattle.ring_message.specs.declared.message.Out.{Out}
use Rattle.message_model.specs.Meaning.{who, meaning}
use Rattle.client_core.specs.declared.client.Client.{Client}
use Rattle.client_core.specs.Clients.{ClientStands}
use Rattle.message_model.specs.Members.{IsMember}
use Rattle.ring_model.specs.Places.{Place}
use Rattle.ring_mail.specs.Places.{packet_of}
use Rattle.ring_mail.specs.Mails.{IsMail}
use Rattle.ring_model.specs.Seats.{IsSeat}
use Rattle.ring_world.specs.declared.state.World.{World}
use Rattle.ring_world.specs.Standing.{Standing}
use Rattle.message_model.specs.Told.{Told, told}
use Rattle.ring_world.specs.Worlds.{IsWorld, WorldStands, IsStart}

-- whether the request is of this client
abbrev pub of : Ring → ℕ → List ℕ → Bool
of g c r = g.owner r == c

-- where one item is replaced, a fact holds of each if it holds of the new one and follows for the others
pub each_set : {X : Type 0} (P Q : ℕ → X → Type 0) (xs : List X) (c n : ℕ) (new : X) → c < length xs → Q c new → ((k : ℕ) (x : X) → (c == k) ≡ false → P k x → Q k x)
    → ((k : ℕ) (d : X) → k < n → P k (get_or xs k d)) → (k : ℕ) (d : X) → k < n → Q k (get_or (set xs c new) k d)
each_set P Q xs c n new low here others all k d less =
    elim (c == k) as (λ b. (c == k) ≡ b → Q k (get_or (set xs c new) k d)) [
      | true ↦ λ t. subst (λ k. Q k (get_or (set xs c new) k d)) (eqb-true c k t) (subst (Q c) (sym (get_or-set_same xs c new d low)) here)
      | false ↦ λ t. subst (Q k) (sym (get_or-set_other xs c k new d (λ at. absurd (cc (t, eq-eqb c k (sym at)))))) (others k (get_or xs k d) t (all k d less))
    ] refl

-- a fact holds of each item of a list with one more, if it holds of that one and of those before it
pub each_push : {X : Type 0} (P : ℕ → X → Type 0) (xs all : List X) (new : X) (n : ℕ) → length xs ≡ n → all ≡ xs ++ new ∷ [] → P n new → ((k : ℕ) (d : X) → k < n → P k (get_or xs k d))
    → (k : ℕ) (d : X) → k < n + 1 → P k (get_or all k d)
each_push P xs all new n size is here before k d low =
    subst (λ ys. P k (get_or ys k d)) (sym is)
    (⊎_elim
    (λ less. subst (P k) (sym (get_or_append_left xs (new ∷ []) d k (omega (arith, less, size)))) (before k d less))
    (λ more. let same : length xs ≡ k = omega (arith, low, more, size) in subst (P k) (sym (get_or_push xs new d k same)) (subst (λ j. P j new) (sym size ∙ same) here))
    (cases_lt k n))

-- what members are sent has a seat
pub all_seats : (outs : List Out) → Each (λ (out : Out). IsMember (who out.to)) outs → Each (λ (out : Out). IsSeat (who out.to)) outs
all_seats outs all = Each-weaker (λ (out : Out). IsMember (who out.to)) (λ (out : Out). IsSeat (who out.to)) (λ out low. seat (who out.to) low) outs all
  where
    seat : (p : Who) → IsMember p → IsSeat p
    seat (member i) low = low
    seat (client c) low = absurd low

-- a client of the world stands for its requests and letters
pub client_at : {N : Type 0} (stands : Standing N) (g : Ring) (w : World N) (v : Model) (done : List Place) (c : ℕ) (d one : Client) → c < length w.clients.items → one ≡ get_or w.clients.items c d
    → IsWorld stands g w v done → ClientStands one g c (filter (of g c) v.submits) (v.got (client c))
client_at stands g w v done c d one low is h = subst (λ (k : Client). ClientStands k g c (filter (of g c) v.submits) (v.got (client c))) (sym is) (h.clients_stand c d (omega (arith, low, h.client_count)))

-- a client was handed a letter, which sends nothing
pub told_client : {N : Type 0} (stands : Standing N) (g : Ring) (w : World N) (v : Model) (done : List Place) (from : Who) (c : ℕ) (bytes : List ℕ) (new : Client) → c < length w.clients.items
    → ClientStands new g c (filter (of g c) v.submits) (record { from = from; message = meaning bytes } ∷ v.got (client c)) → IsWorld stands g w v done
    → IsWorld stands g (record w { clients = with_item w.clients c new }) (came g v (Some (packet_of from (client c) bytes))) done
told_client stands g w v done from c bytes new low is h =
    record {
      small = h.small;
      mail_is = subst (λ xs. IsMail w.mail xs done) (sym (append-nil v.sent)) h.mail_is;
      members_are = record { count = h.members_are.count; there_are = h.members_are.there_are; nodes_stand = h.members_are.nodes_stand };
      client_count = omega (arith, length-set w.clients.items c new, h.client_count);
      clients_stand = each_set (λ k x. ClientStands x g k (filter (of g k) v.submits) (v.got (client k))) (λ k x. ClientStands x g k (filter (of g k) v.submits) (got k (c == k))) w.clients.items c g.clients new low
          (subst (λ b. ClientStands new g c (filter (of g c) v.submits) (got c b)) (sym (eq-eqb c c refl)) is)
          (λ k x other stood. subst (λ b. ClientStands x g k (filter (of g k) v.submits) (got k b)) (sym other) stood)
          h.clients_stand;
      recent_is = h.recent_is;
      eight = h.eight;
      going = h.going;
    }
  where
    got : ℕ → Bool → List Letter
    got k mine = cond mine (record { from = from; message = meaning bytes } ∷ v.got (client k)) (v.got (client k))

-- no client submitted anything, and nothing happened
pub starts : {N : Type 0} (stands : Standing N) (g : Ring) (w : World N) (f count : ℕ) → IsStart stands g w.members.nodes.items count → length w.members.nodes.items ≡ 3 * f + 1
    → ((r : Ring) → r.f ≡ f → (c : ℕ) (d : Client) → c < count → ClientStands (get_or w.clients.items c d) r c [] []) → length w.clients.items ≡ count → IsMail w.mail [] [] → w.recent ≡ buffer [] 8 → w.ended ≡ false
    → WorldStands stands g w []
starts stands g w f count s size stand clients mail recent going = record {
  is = record {
    small = s.small;
    mail_is = mail;
    members_are = record { count = s.count; there_are = s.there_are; nodes_stand = s.nodes_stand };
    client_count = clients ∙ s.clients_are;
    clients_stand = λ c d low. stand g (omega (arith, size, s.count)) c d (omega (arith, low, s.clients_are));
    recent_is = ap (λ (b : Buffer Told). map told b.items) recent;
    eight = ap (λ (b : Buffer Told). b.capacity) recent;
    going = going;
  };
  legal = tt;
}
