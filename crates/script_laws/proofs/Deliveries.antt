-- A delivery names what was submitted, and what is named for heads of the committed list.
use Rattle.std.proofs.Common.{◌≡◌, ℕ, zero, suc, ◌-◌, Bool, true, false, cond, ◌&&◌, ◌==◌, List, [], ◌∷◌, ◌++◌, length, take, drop, slice_get, Contains, Option, Some, None, ◌⊎◌, inl, inr, ⊎_elim, refl, sym, ap, ◌∙◌, subst, subst₂, append_assoc}
use Rattle.std.specs.List.{AllByRecursion as Each, range_with_len}
use Rattle.std.proofs.lemmas.List.{take-append-drop}
use Rattle.std.proofs.lemmas.List.Elements.{Contains-append_cases}
use Rattle.ring_model.specs.Messages.{Ring, Letter, Packet, Message, Request, Party, Member, Client, FewFaulty, same_party}
use Rattle.ring_model.specs.Member.{executed}
use Rattle.ring_model.specs.World.{World, Event, Submit, Resubmit, Deliver, Forge, Archive, between, came, world, IsParty, IsLegal, chosen}
use Rattle.ring_model.specs.Places.{Place}
use Rattle.ring_model.specs.Deliveries.{pending, then_deliver, settled}
use Rattle.ring_model.specs.Laws.{IsPrefix, NoClash, IsCorrect, Right}
use Rattle.ring_model.proofs.History.{prefix_trans, Each-weaker}
use Rattle.ring_model.proofs.Owed.{all_owed, same_party_refl}
use Rattle.ring_model.proofs.Agreement.{only_submitted}
use Rattle.ring_model.proofs.Declared.{sent_declared}
use Rattle.ring_model.proofs.Lists.{there_cases, there_none, Each-there, filter_there, at_in}
use Rattle.message_model.specs.Requests.{request_at}
use Rattle.message_model.specs.Reading.{asked_in}
use Rattle.message_model.specs.Naming.{newly_executed, strings_executed, strings_for, named_for, named_of, named_by, named_along}
use Rattle.script_laws.proofs.Elements.{in_flat, in_map, Each-take}
use Rattle.script_laws.proofs.Worlds.{all_stay, legal_behind, executed_chosen}

-- named for a head of the committed list, whose requests were submitted
abbrev pub IsOfHead : Ring → World → List ℕ → Type 0
IsOfHead g w string = (strings : List (List ℕ)) × IsPrefix strings (chosen g w) × Each (Contains w.submits) strings × Contains (g.namings strings) string

-- submitted, or named for a head of the committed list
abbrev pub IsForeseen : Ring → World → List ℕ → Type 0
IsForeseen g w string = Contains w.submits string ⊎ IsOfHead g w string

-- a message that asks for something is a client's request for it
asked_is : (p : Party) (m : Message) (s : List ℕ) → Contains (asked_in p m) s → (c : ℕ) × (p ≡ Client c) × (m ≡ Request s)
asked_is (Client c) (Request r) s there =
    elim ((request_at r).client.0 == c) as (λ b. Contains (cond b (r ∷ []) []) s → (d : ℕ) × (Client c ≡ Client d) × (Request r ≡ Request s)) [
      | true ↦ λ h. (c, refl, ⊎_elim (λ e. ap Request e) (λ none. absurd (there_none s none)) (there_cases r [] s h))
      | false ↦ λ h. absurd (there_none s h)
    ] there
asked_is p m s there = absurd (there_none s there)

-- the strings of newly executed requests are named for heads of what was executed
newly_named : (g : Ring) (older got : List Letter) (s : List ℕ) → Contains (strings_executed g older got) s → (count : ℕ) × Contains (g.namings (take count (executed g got))) s
newly_named g older got s there =
    let named = in_flat g.namings (newly_executed g older got) s there in
    let head = in_map (λ count. take count (executed g got)) (range_with_len (suc (length (executed g older))) (length (executed g got) - length (executed g older))) named.0 named.1 in
    (head.0, subst (λ strings. Contains (g.namings strings) s) (sym head.2) named.2)

-- a message as it is given to its receiver
abbrev letter : Packet → Letter
letter x = record { from = x.from; message = x.message }

-- a message gives its receiver a letter more
got_more : (g : Ring) (w : World) (x : Packet) (o : Option Packet) (i : ℕ) → o ≡ Some x → x.to ≡ Member i → (came g w o).got (Member i) ≡ letter x ∷ w.got (Member i)
got_more g w x o i is to =
    ap (λ o. (came g w o).got (Member i)) is
    ∙ ap (λ p. cond (same_party p (Member i)) (letter x ∷ w.got (Member i)) (w.got (Member i))) to
    ∙ ap (λ b. cond b (letter x ∷ w.got (Member i)) (w.got (Member i))) (same_party_refl (Member i))

-- what is named for a head of what a correct member executed
head_foreseen : (g : Ring) → FewFaulty g → (late events : List Event) → IsLegal g (late ++ events) → NoClash g (world g (late ++ events)).submits → (i : ℕ) → IsCorrect g i
    → (s : List ℕ) (count : ℕ) → Contains (g.namings (take count (executed g ((world g events).got (Member i))))) s → IsForeseen g (world g (late ++ events)) s
head_foreseen g few late events legal clear i ok s count there =
    let strings = executed g ((world g events).got (Member i)) in
    inr (
      take count strings,
      prefix_trans (take count strings) strings (chosen g (world g (late ++ events))) (drop count strings, take-append-drop count strings) (executed_chosen g few late events legal clear i ok),
      Each-take (Contains (world g (late ++ events)).submits) count strings
          (Each-weaker (Contains (world g events).submits) (Contains (world g (late ++ events)).submits) (all_stay g late events) strings (only_submitted g events (legal_behind g late events legal) (Member i))),
      there,
    )

-- what a delivered message names
message_foreseen : (g : Ring) → FewFaulty g → (late events : List Event) (p q : Party) (k : ℕ) → IsLegal g (late ++ Deliver p q k ∷ events) → NoClash g (world g (late ++ Deliver p q k ∷ events)).submits
    → (x : Packet) → slice_get (between p q (world g events).sent) k ≡ Some x → (s : List ℕ)
    → Contains (named_for g x.to ((world g events).got x.to) (letter x)) s → IsForeseen g (world g (late ++ Deliver p q k ∷ events)) s
message_foreseen g few late events p q k legal clear x is s there = by x.to refl there
  where
    now : IsLegal g (Deliver p q k ∷ events)
    now = legal_behind g late (Deliver p q k ∷ events) legal

    was_sent : Contains (world g events).sent x
    was_sent = filter_there (λ y. same_party y.from p && same_party y.to q) (world g events).sent x (at_in (between p q (world g events).sent) k x is)

    asked : (c : ℕ) × (x.from ≡ Client c) × (x.message ≡ Request s) → IsForeseen g (world g (late ++ Deliver p q k ∷ events)) s
    asked a =
        let right = Each-there (λ y. Right g (world g events) y.from y.to y.message) (world g events).sent x (all_owed g events now.1).sent was_sent in
        let own = subst₂ (λ from m. Right g (world g events) from x.to m) a.1 a.2 right in
        inl (all_stay g late (Deliver p q k ∷ events) s (all_stay g (Deliver p q k ∷ []) events s own.0))

    by : (to : Party) → x.to ≡ to → Contains (named_for g to ((world g events).got to) (letter x)) s → IsForeseen g (world g (late ++ Deliver p q k ∷ events)) s
    by (Client c) to named = absurd (there_none s named)
    by (Member i) to named =
        elim (g.is_faulty i) as (λ b. g.is_faulty i ≡ b → Contains (cond b [] (strings_for g ((world g events).got (Member i)) (letter x))) s → IsForeseen g (world g (late ++ Deliver p q k ∷ events)) s) [
          | true ↦ λ _ h. absurd (there_none s h)
          | false ↦ λ ok h.
              let party = Each-there (λ y. IsParty g y.from × IsParty g y.to) (world g events).sent x (sent_declared g events now.1) was_sent in
              let low = subst (IsParty g) to party.1 in
              ⊎_elim (λ a. asked (asked_is x.from x.message s a))
              (λ e.
              let head = newly_named g ((world g events).got (Member i)) (letter x ∷ (world g events).got (Member i)) s e in
              head_foreseen g few late (Deliver p q k ∷ events) legal clear i (low, ok) s head.0
              (subst (λ got. Contains (g.namings (take head.0 (executed g got))) s) (sym (got_more g (world g events) x (slice_get (between p q (world g events).sent) k) i is to)) head.1))
              (Contains-append_cases (asked_in x.from x.message) (strings_executed g ((world g events).got (Member i)) (letter x ∷ (world g events).got (Member i))) s h)
        ] refl named

-- an event is a delivery
abbrev pub IsDelivery : Event → Type 0
IsDelivery (Deliver p q k) = Unit {0}
IsDelivery (Submit r) = ⊥
IsDelivery (Resubmit c n) = ⊥
IsDelivery (Forge i q m) = ⊥
IsDelivery (Archive i) = ⊥

-- what a delivery names, which may be followed by other events
event_foreseen : (g : Ring) → FewFaulty g → (late events : List Event) (e : Event) → IsDelivery e → IsLegal g (late ++ e ∷ events) → NoClash g (world g (late ++ e ∷ events)).submits
    → (s : List ℕ) → Contains (named_by g (world g events) e) s → IsForeseen g (world g (late ++ e ∷ events)) s
event_foreseen g few late events (Deliver p q k) is legal clear s there =
    elim (slice_get (between p q (world g events).sent) k) as
    (λ o. slice_get (between p q (world g events).sent) k ≡ o → Contains (named_of g (world g events) o) s → IsForeseen g (world g (late ++ Deliver p q k ∷ events)) s) [
      | None ↦ λ _ h. absurd (there_none s h)
      | Some x ↦ λ found h. message_foreseen g few late events p q k legal clear x found s h
    ] refl there
event_foreseen g few late events (Submit r) is legal clear s there = absurd is
event_foreseen g few late events (Resubmit c n) is legal clear s there = absurd is
event_foreseen g few late events (Forge i q m) is legal clear s there = absurd is
event_foreseen g few late events (Archive i) is legal clear s there = absurd is

-- what deliveries name, one after the other, which may be followed by other events
pub all_foreseen : (g : Ring) → FewFaulty g → (all more late events : List Event) → Each IsDelivery late → more ++ (late ++ events) ≡ all → IsLegal g all → NoClash g (world g all).submits
    → (s : List ℕ) → Contains (named_along g events late) s → IsForeseen g (world g all) s
all_foreseen g few all more [] events are is legal clear s there = absurd (there_none s there)
all_foreseen g few all more (e ∷ late) events are is legal clear s there =
    ⊎_elim
    (λ before. all_foreseen g few all (more ++ e ∷ []) late events are.1 (append_assoc more (e ∷ []) (late ++ events) ∙ is) legal clear s before)
    (λ now.
    subst (λ es. IsForeseen g (world g es) s) is
    (event_foreseen g few more (late ++ events) e are.0 (subst (IsLegal g) (sym is) legal) (subst (λ es. NoClash g (world g es).submits) (sym is) clear) s now))
    (Contains-append_cases (named_along g events late) (named_by g (world g (late ++ events)) e) s there)

one : (o : Option Place) (late : List Event) → Each IsDelivery late → Each IsDelivery (then_deliver o late)
one None late are = are
one (Some a) late are = (tt, are)

-- what a settle does is deliveries
pub settled_delivers : (g : Ring) (passed : Place → Bool) (events : List Event) (n : ℕ) → Each IsDelivery (settled g passed events n)
settled_delivers g passed events zero = tt
settled_delivers g passed events (suc n) = one (pending g passed (settled g passed events n ++ events)) (settled g passed events n) (settled_delivers g passed events n)
