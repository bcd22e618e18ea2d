-- What deliveries name, the text names.
use Rattle.std.proofs.Common.{◌≡◌, ◌≤◌, ◌+◌, ◌*◌, ◌-◌, ◌||◌, ℕ, zero, suc, Bool, List, [], ◌∷◌, ◌++◌, slice_get, Contains, ⊎_elim, true, false, refl, sym, ap, ap₂, ◌∙◌, subst, arith}
use Rattle.std.proofs.Math.Path.{fun_ext}
use Rattle.std.proofs.lemmas.List.Elements.{Contains-append_left, Contains-append_right}
use Rattle.pond_base.specs.declared.numbers.Party.{Party}
use Rattle.ring_model.specs.Messages.{Party as Who, Member, FewFaulty, same_party}
use Rattle.ring_model.specs.Member.{executed}
use Rattle.ring_model.specs.World.{World, Event, between, world, IsLegal, chosen}
use Rattle.ring_model.specs.World as model
use Rattle.ring_model.specs.Laws.{NoClash}
use Rattle.ring_model.proofs.Chosen.{agrees}
use Rattle.ring_model.proofs.Lists.{there_none}
use Rattle.message_model.specs.Meaning.{who}
use Rattle.fold_model.specs.Folds.{requests_of}
use Rattle.ring_model.specs.Places.{Place}
use Rattle.ring_world.specs.declared.event.Event.TheVariants as happening
use Rattle.ring_model.specs.Deliveries.{settled}
use Rattle.message_model.specs.Naming.{named_along, named_of}
use Rattle.message_model.specs.Told.{touches}
use Rattle.ring_world.specs.Worlds.{strings_of}
use Rattle.ring_world.proofs.Order.{came_submits}
use Rattle.ring_world.proofs.Stepping.{nothing_there, place_less}
use Rattle.pond_world.proofs.Faulty.{few_among}
use Rattle.script_terms.specs.declared.line.Line.{Line}
use Rattle.script_terms.specs.declared.line.Line.TheVariants.{Deliver}
use Rattle.script_terms.specs.declared.script.Script.{Script}
use Rattle.script_laws.specs.Limits.{SetupFits}
use Rattle.text_model.specs.Requests.{Numbered}
use Rattle.text_model.specs.Events.{ring_for, muted, lost, is_passed, settled_by, most_messages, events_of, world_of}
use Rattle.text_model.specs.Named.{executed_strings, named}
use Rattle.script_laws.specs.NamingLaws.{SettledIsReached, SettledJoins, SkipsJoin, muted_in, lost_in, AreOfLines, DeliveriesAreNamed, SettlesAreNamed, ExecutedAreNamed}
use Rattle.script_laws.proofs.Settled.{reached, joins, settle_legal, settle_submits}
use Rattle.script_laws.proofs.Deliveries.{IsForeseen, all_foreseen, settled_delivers}
use Rattle.script_laws.proofs.Folds.{IsSubmittedLabel, executed_head, accounted}
use Rattle.script_laws.proofs.Requested.{submit_named, submitted_label_named}

-- ---- settles

pub settled_is_reached : SettledIsReached
settled_is_reached g passed events n low = reached g passed events n most_messages low

pub settled_joins : SettledJoins
settled_joins g passed events n low none = joins g passed events n most_messages low none

or_pairs : (a b c d : Bool) → ((a || b) || (c || d)) ≡ ((a || c) || (b || d))
or_pairs true b true d = refl
or_pairs true b false d = refl
or_pairs false true true d = refl
or_pairs false true false d = refl
or_pairs false false true d = refl
or_pairs false false false d = refl

-- one of the ends is among the parties, where one of the parties is an end
ends_touch : (parties : List Party) (a : Place) → (muted_in parties a.from || muted_in parties a.to) ≡ touches parties a
ends_touch [] a = refl
ends_touch (p ∷ parties) a =
    or_pairs (same_party (who p) a.from) (muted_in parties a.from) (same_party (who p) a.to) (muted_in parties a.to) ∙ ap (λ b. (same_party (who p) a.from || same_party (who p) a.to) || b) (ends_touch parties a)

pub skips_join : SkipsJoin
skips_join skips lines m l =
    fun_ext
    (λ (a : Place).
    ap₂ (λ (is : Who → Bool) (lost : Place → Bool). (is a.from || is a.to) || lost a) m l ∙ ap (λ b. b || lost_in (lost lines) a) (ends_touch (muted lines) a))

-- ---- strings

pub executed_are_named : ExecutedAreNamed
executed_are_named h block g few events legal clear i ok string there =
    executed_head h block (executed g ((world g events).got (Member i))) (chosen g (world g events)) (agrees g few events legal clear i ok.0 ok.1) string there

-- few members of a script's ring are faulty
pub few_faulty : (h : List ℕ → List ℕ) (script : Script) → SetupFits script.setup → FewFaulty (ring_for h script)
few_faulty h script fits = omega (arith, few_among script.setup.faulty (3 * script.setup.f + 1), fits.few_faulty)

-- what deliveries after some lines name is named by these, or of a version that the committed list makes then
foreseen_named : (h : List ℕ → List ℕ) (script : Script) (earlier : List Numbered) (w : World) → AreOfLines h script earlier → w.submits ≡ (world_of h script earlier).submits
    → (s : List ℕ) → IsForeseen (ring_for h script) w s
    → Contains (named h script earlier ++ executed_strings h script.setup.block (requests_of (chosen (ring_for h script) w))) s
foreseen_named h script earlier w are same s foreseen =
    let made = executed_strings h script.setup.block (requests_of (chosen (ring_for h script) w)) in
    ⊎_elim
    (λ submit. Contains-append_left (named h script earlier) made s (submit_named h script earlier are s (subst (λ texts. Contains texts s) same submit)))
    (λ others.
    ⊎_elim (λ now. Contains-append_right (named h script earlier) made s now)
    (λ (label : IsSubmittedLabel w s).
    Contains-append_left (named h script earlier) made s
    (submitted_label_named h script earlier are s (label.0, subst (λ texts. Contains texts label.0) same label.1, label.2)))
    others)
    (accounted h script.setup.block (ring_for h script) w s (λ strings. refl) foreseen)

-- what a delivery after some lines names
delivery_named : (h : List ℕ → List ℕ) (script : Script) (earlier : List Numbered) (number : ℕ) (sender to : Party) (place : ℕ) (s : List ℕ) → SetupFits script.setup → AreOfLines h script earlier
    → IsLegal (ring_for h script) (events_of h script ((number, Deliver sender to place) ∷ earlier)) → NoClash (ring_for h script) (world_of h script ((number, Deliver sender to place) ∷ earlier)).submits
    → Contains (strings_of (ring_for h script) (world_of h script earlier) (happening.Deliver sender to place)) s
    → Contains (named h script ((number, Deliver sender to place) ∷ earlier)) s
delivery_named h script earlier number sender to zero s fits are legal clear there =
    absurd (there_none s (subst (λ o. Contains (named_of (ring_for h script) (world_of h script earlier) o) s) (nothing_there (world_of h script earlier).sent (who sender) (who to) 0 refl) there))
delivery_named h script earlier number sender to (suc place) s fits are legal clear there =
    let g = ring_for h script in
    let events = events_of h script earlier in
    let event = model.Deliver (who sender) (who to) (suc place - 1) in
    let here = subst (λ k. Contains (named_of g (world g events) (slice_get (between (who sender) (who to) (world g events).sent) k)) s)
    (place_less (world g events).sent (suc place) (λ none. absurd (omega (arith, none)))) there in
    foreseen_named h script earlier (world g (event ∷ events)) are (came_submits g (world g events) (slice_get (between (who sender) (who to) (world g events).sent) (suc place - 1))) s
    (all_foreseen g (few_faulty h script fits) (event ∷ events) [] (event ∷ []) events (tt, tt) refl legal clear s here)

pub deliveries_are_named : DeliveriesAreNamed
deliveries_are_named h script earlier line sender to place string is fits are legal clear there =
    subst (λ (event : Line).
    IsLegal (ring_for h script) (events_of h script ((line.0, event) ∷ earlier)) → NoClash (ring_for h script) (world_of h script ((line.0, event) ∷ earlier)).submits → Contains (named h script ((line.0, event) ∷ earlier)) string)
    (sym is) (λ lawful apart. delivery_named h script earlier line.0 sender to place string fits are lawful apart there) legal clear

-- what a settle of at most so many deliveries names after some lines
settle_named : (h : List ℕ → List ℕ) (script : Script) (earlier : List Numbered) (passed : Place → Bool) (n most : ℕ) (s : List ℕ) → n ≤ most → SetupFits script.setup → AreOfLines h script earlier
    → IsLegal (ring_for h script) (events_of h script earlier) → NoClash (ring_for h script) (world_of h script earlier).submits
    → Contains (named_along (ring_for h script) (events_of h script earlier) (settled (ring_for h script) passed (events_of h script earlier) n)) s
    → Contains (named h script earlier ++ executed_strings h script.setup.block (requests_of (chosen (ring_for h script) (world (ring_for h script) (settled_by (ring_for h script) passed most (events_of h script earlier)))))) s
settle_named h script earlier passed n most s low fits are legal clear there =
    let g = ring_for h script in
    let events = events_of h script earlier in
    let all = settled_by g passed most events in
    let same = settle_submits g passed most events in
    let reach = reached g passed events n most low in
    foreseen_named h script earlier (world g all) are same s
    (all_foreseen g (few_faulty h script fits) all reach.0 (settled g passed events n) events (settled_delivers g passed events n) (sym reach.1) (settle_legal g passed most events legal)
    (subst (NoClash g) (sym same) clear) s there)

pub settles_are_named : SettlesAreNamed
settles_are_named h script earlier line n string is low fits are legal clear there =
    subst (λ (event : Line). Contains (named h script ((line.0, event) ∷ earlier)) string) (sym is)
    (settle_named h script earlier (is_passed earlier) n most_messages string low fits are legal clear there)
