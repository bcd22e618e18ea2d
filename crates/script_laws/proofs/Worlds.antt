-- What later events leave as it is.
use Rattle.std.proofs.Common.{ℕ, List, [], ◌∷◌, ◌++◌, slice_get, Contains, sym, subst}
use Rattle.std.proofs.lemmas.List.Elements.{Contains-append_left}
use Rattle.ring_model.specs.Messages.{Ring, Member, FewFaulty}
use Rattle.ring_model.specs.Member.{executed}
use Rattle.ring_model.specs.World.{World, Event, Submit, Resubmit, Deliver, Forge, Archive, between, happens, world, IsLegal, chosen}
use Rattle.ring_model.specs.Laws.{IsPrefix, NoClash, IsCorrect}
use Rattle.ring_model.proofs.History.{prefix_trans}
use Rattle.ring_model.proofs.Chosen.{agrees, world_grows}
use Rattle.ring_world.proofs.Order.{came_submits, turned_submits}

-- what was submitted stays submitted
submits_stay : (g : Ring) (w : World) (e : Event) (s : List ℕ) → Contains w.submits s → Contains (happens g w e).submits s
submits_stay g w (Submit r) s c = Contains-append_left w.submits (r ∷ []) s c
submits_stay g w (Resubmit client n) s c = c
submits_stay g w (Deliver p q k) s c = subst (λ xs. Contains xs s) (sym (came_submits g w (slice_get (between p q w.sent) k))) c
submits_stay g w (Forge i q m) s c = c
submits_stay g w (Archive i) s c = subst (λ xs. Contains xs s) (sym (turned_submits g w i (slice_get (g.seals (executed g (w.got (Member i)))) (w.archived i)))) c

pub all_stay : (g : Ring) (late events : List Event) (s : List ℕ) → Contains (world g events).submits s → Contains (world g (late ++ events)).submits s
all_stay g [] events s c = c
all_stay g (e ∷ late) events s c = submits_stay g (world g (late ++ events)) e s (all_stay g late events s c)

-- what stands behind legal events is legal
pub legal_behind : (g : Ring) (late events : List Event) → IsLegal g (late ++ events) → IsLegal g events
legal_behind g [] events legal = legal
legal_behind g (e ∷ late) events legal = legal_behind g late events legal.1

-- what a correct member has executed stands at the head of the later committed list
pub executed_chosen : (g : Ring) → FewFaulty g → (late events : List Event) → IsLegal g (late ++ events) → NoClash g (world g (late ++ events)).submits → (i : ℕ) → IsCorrect g i
    → IsPrefix (executed g ((world g events).got (Member i))) (chosen g (world g (late ++ events)))
executed_chosen g few late events legal clear i ok =
    prefix_trans (executed g ((world g events).got (Member i))) (executed g ((world g (late ++ events)).got (Member i))) (chosen g (world g (late ++ events)))
    (world_grows g late events (Member i)) (agrees g few (late ++ events) legal clear i ok.0 ok.1)
