-- The lists of a script's members, by the agreement of the ring.
use Rattle.std.proofs.Common.{◌≡◌, ◌<◌, ◌*◌, ◌+◌, ℕ, List, [], ◌∷◌, ◌++◌, map, Contains, sym, ap, ◌∙◌, subst, arith}
use Rattle.std.specs.List.{AllByRecursion as Each}
use Rattle.guarded_update.specs.declared.request.Request.{Request}
use Rattle.guarded_update.specs.Fitting.{IsRequest}
use Rattle.message_model.specs.Requests.{request_at}
use Rattle.message_model.proofs.Fields.{request_seam}
use Rattle.ring_model.specs.Messages.{Ring, Member, FewFaulty}
use Rattle.ring_model.specs.Member.{executed}
use Rattle.ring_model.specs.World.{Event, world, IsLegal, chosen}
use Rattle.ring_model.specs.Laws.{IsPrefix, NoClash, IsCorrect}
use Rattle.ring_model.proofs.Lists.{Each-there}
use Rattle.ring_model.proofs.Chosen.{grows}
use Rattle.fold_model.specs.Folds.{requests_of}
use Rattle.fold_model.specs.Growing.{requests-append}
use Rattle.script_terms.specs.declared.script.Script.{Script}
use Rattle.text_model.specs.Requests.{Numbered, submitted}
use Rattle.text_model.specs.Events.{ring_for, events_of, world_of}
use Rattle.text_model.specs.Executed.{committed_requests}
use Rattle.script_laws.proofs.Elements.{in_map, in_reverse}
use Rattle.script_laws.proofs.Worlds.{legal_behind, executed_chosen}
use Rattle.script_laws.proofs.Joined.{few_faulty}
use Rattle.ring_world.proofs.Looking.{chosen_asked}
use Rattle.script_laws.specs.OneList.{EndsWith}
use Rattle.script_laws.specs.AgreementLaws.{ListsAreOne}
use Rattle.script_laws.proofs.Adding.{lines_add, lines_submit, lines_ask}

-- ---- the ring

-- the requests of a head are how those of the whole list began
head_ends : (head strings : List (List ℕ)) → IsPrefix head strings → EndsWith (requests_of strings) (requests_of head)
head_ends head strings is = (requests_of is.0, ap requests_of (sym is.1) ∙ requests-append head is.0)

-- what a correct member had executed before some of the events
executed_ends : (g : Ring) → FewFaulty g → (all events : List Event) → EndsWith all events → IsLegal g all → NoClash g (world g all).submits → (i : ℕ) → IsCorrect g i
    → EndsWith (requests_of (chosen g (world g all))) (requests_of (executed g ((world g events).got (Member i))))
executed_ends g few all events is legal clear i ok =
    let head = executed_chosen g few is.0 events (subst (IsLegal g) is.1 legal) (subst (λ es. NoClash g (world g es).submits) is.1 clear) i ok in
    head_ends (executed g ((world g events).got (Member i))) (chosen g (world g all)) (subst (λ es. IsPrefix (executed g ((world g events).got (Member i))) (chosen g (world g es))) (sym is.1) head)

-- what was committed before some of the events
chosen_ends : (g : Ring) → FewFaulty g → (all events : List Event) → EndsWith all events → IsLegal g all → NoClash g (world g all).submits
    → EndsWith (requests_of (chosen g (world g all))) (requests_of (chosen g (world g events)))
chosen_ends g few all events is legal clear =
    let head = grows g few is.0 events (subst (IsLegal g) is.1 legal) (subst (λ es. NoClash g (world g es).submits) is.1 clear) in
    head_ends (chosen g (world g events)) (chosen g (world g all)) (subst (λ es. IsPrefix (chosen g (world g events)) (chosen g (world g es))) (sym is.1) head)

-- ---- the lines

-- a committed request was submitted, where those that are submitted can be read
pub committed_asked : (h : List ℕ → List ℕ) (script : Script) (lines : List Numbered) → IsLegal (ring_for h script) (events_of h script lines) → Each IsRequest (submitted h lines)
    → (request : Request) → Contains (committed_requests h script lines) request → Contains (submitted h lines) request
committed_asked h script lines legal are request there =
    let strings = chosen (ring_for h script) (world_of h script lines) in
    let spelled = in_map request_at strings request (in_reverse (map request_at strings) request there) in
    let own = lines_ask h script lines spelled.0 (chosen_asked (ring_for h script) (events_of h script lines) legal spelled.0 spelled.1) in
    let read : own.0 ≡ request = sym (request_seam own.0 (Each-there IsRequest (submitted h lines) own.0 are own.1).places) ∙ ap request_at own.2 ∙ spelled.2 in
    subst (Contains (submitted h lines)) read own.1

-- the events of some of the lines
events_end : (h : List ℕ → List ℕ) (script : Script) (lines later earlier : List Numbered) → lines ≡ later ++ earlier → EndsWith (events_of h script lines) (events_of h script earlier)
events_end h script lines later earlier is = subst (λ all. EndsWith (events_of h script all) (events_of h script earlier)) (sym is) (lines_add h script later earlier)

-- they are legal where all are
pub legal_before : (h : List ℕ → List ℕ) (script : Script) (lines later earlier : List Numbered) → lines ≡ later ++ earlier → IsLegal (ring_for h script) (events_of h script lines)
    → IsLegal (ring_for h script) (events_of h script earlier)
legal_before h script lines later earlier is legal =
    let before = events_end h script lines later earlier is in
    legal_behind (ring_for h script) before.0 (events_of h script earlier) (subst (IsLegal (ring_for h script)) before.1 legal)

-- what is so of each of a list is so of those behind the first ones
pub Each-behind : {X : Type 0} (P : X → Type 0) (xs ys : List X) → Each P (xs ++ ys) → Each P ys
Each-behind P [] ys all = all
Each-behind P (x ∷ xs) ys all = Each-behind P xs ys all.1

-- what some of the lines submit can be read where all that is submitted can be
pub requests_before : (h : List ℕ → List ℕ) (lines later earlier : List Numbered) → lines ≡ later ++ earlier → Each IsRequest (submitted h lines) → Each IsRequest (submitted h earlier)
requests_before h lines later earlier is are =
    let more = lines_submit h later earlier in
    Each-behind IsRequest more.0 (submitted h earlier) (subst (Each IsRequest) more.1 (subst (λ all. Each IsRequest (submitted h all)) is are))

pub lists_are_one : ListsAreOne
lists_are_one h script lines fits legal clear are = record {
  members = λ later earlier is member low ok.
      let below : member.0 < 3 * script.setup.f + 1 = omega (arith, low) in
      executed_ends g few (events_of h script lines) (events_of h script earlier) (events_end h script lines later earlier is) legal clear member.0 (below, ok);
  grows = λ later earlier is. chosen_ends g few (events_of h script lines) (events_of h script earlier) (events_end h script lines later earlier is) legal clear;
  asked = λ later earlier is. committed_asked h script earlier (legal_before h script lines later earlier is legal) (requests_before h lines later earlier is are);
}
  where
    g : Ring
    g = ring_for h script

    few : FewFaulty g
    few = few_faulty h script fits
