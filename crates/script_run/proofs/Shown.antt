-- What lines show of the world after earlier ones.
use Rattle.std.proofs.Common.{◌≡◌, ◌<◌, ◌+◌, ◌*◌, ◌^◌, ℕ, Bool, true, false, not, cond, List, [], get_or, length, slice_get, Some, Contains, Result, IfOk, refl, sym, ◌∙◌, ap, subst, arith}
use Rattle.std.specs.List.{AllByRecursion}
use Rattle.std.proofs.lemmas.Option.{slice_get_read}
use Rattle.std.proofs.lemmas.Result.{IfOk-weaker}
use Rattle.pond_base.specs.declared.numbers.ClientId.{ClientId}
use Rattle.pond_base.specs.declared.numbers.MemberId.{MemberId}
use Rattle.pond_base.specs.declared.numbers.Version.{Version}
use Rattle.guarded_update.specs.Fitting.{IsRequest}
use Rattle.ring_model.specs.Messages.{Ring, Letter, Member}
use Rattle.ring_model.specs.Member.{executed}
use Rattle.ring_model.specs.World.{chosen}
use Rattle.ring_model.specs.Laws.{IsCorrect}
use Rattle.ring_model.proofs.History.{same_some}
use Rattle.ring_model.proofs.Lists.{Each-there}
use Rattle.fold_model.specs.Folds.{requests_of}
use Rattle.fold_model.specs.Rings.{FoldsAs}
use Rattle.fold_model.specs.Laws.{RingFolds}
use Rattle.object_fold.specs.Views.{ObjectsView}
use Rattle.object_model.specs.Folds.{versions_after}
use Rattle.object_fold.specs.Executed.{AreAfter, ForAfter}
use Rattle.pond_node.specs.declared.node.Node.{Node}
use Rattle.pond_node.specs.Standing.{NodeStands}
use Rattle.pond_world.specs.Sites.{SiteView}
use Rattle.ring_mail.specs.Skips.{Skips}
use Rattle.ring_world.specs.declared.state.World.{World}
use Rattle.ring_world.specs.Worlds.{WorldStands}
use Rattle.script_terms.specs.declared.line.Line.{Line}
use Rattle.script_terms.specs.declared.line.Line.TheVariants.{Read, ShowMember, ShowClient, ShowVersion, ShowRecent}
use Rattle.script_terms.specs.declared.script.Script.{Script}
use Rattle.script_laws.specs.Limits.{IsWithin, LineFits}
use Rattle.script_laws.specs.Turns.{LinesFitInTurn}
use Rattle.script_laws.specs.Events.{IsSpelled}
use Rattle.script_laws.specs.EventLaws.{SubmitsAreRequests}
use Rattle.script_laws.proofs.Spelled.{spelled, each_spelled}
use Rattle.script_printing.specs.Executed.{AreRequestStrings, ForExecuted}
use Rattle.text_model.specs.Blocks.{faulty_text, member_text, shape_text, up_to}
use Rattle.text_model.specs.Events.{ring_for, events_of, world_of, is_declared_faulty, no_archives}
use Rattle.text_model.specs.Executed.{committed_requests, member_requests}
use Rattle.text_model.specs.Requests.{Numbered, submitted}
use Rattle.text_model.specs.Text.{of_member, line_text}
use Rattle.script_run.specs.States.{StandsFor, IsTurn, PrintsAt, lines_before}
use Rattle.script_run.proofs.Turns.{turn_fits}

-- ---- the ring of a script

-- its members fold what they execute
pub folds_here : RingFolds → (h : List ℕ → List ℕ) (script : Script) → FoldsAs h script.setup.block (ring_for h script)
folds_here folds h script = folds script.setup.f script.setup.clients (is_declared_faulty script) h script.setup.block no_archives

-- the number of bytes of a whole leaf has four bytes
pub block_small : (script : Script) → IsWithin script → script.setup.block < 2 ^ 32
block_small script within = omega (arith, within.setup.most)

-- the world of a state
pub world_is : (h : List ℕ → List ℕ) (script : Script) (lines : List Numbered) (site : SiteView) (skips : Skips) (w : World Node) → StandsFor h script lines site skips → w ≡ site.world
    → WorldStands NodeStands (ring_for h script) w (events_of h script lines)
world_is h script lines site skips w is same = subst (λ v. WorldStands NodeStands (ring_for h script) v (events_of h script lines)) (sym same) is.stands

-- ---- objects

-- the objects of a node are those after what it executed
abbrev pub ShowsObjects : Node → ObjectsView → Type 0
ShowsObjects node objects =
    (g : Ring) (i : ℕ) (got : List Letter) (archived : ℕ) → NodeStands node g i got archived → (block : ℕ) → block < 2 ^ 32 → FoldsAs g.h block g
    → AreAfter g.h block (requests_of (executed g got)) objects

-- the objects of a member
pub member_after : RingFolds → (h : List ℕ → List ℕ) (script : Script) (lines : List Numbered) (member : MemberId) (node : Node) (objects : ObjectsView) → IsWithin script → ShowsObjects node objects
    → NodeStands node (ring_for h script) member.0 ((world_of h script lines).got (Member member.0)) ((world_of h script lines).archived member.0)
    → AreAfter h script.setup.block (member_requests h script lines member) objects
member_after folds h script lines member node objects within shows stands =
    shows (ring_for h script) member.0 ((world_of h script lines).got (Member member.0)) ((world_of h script lines).archived member.0) stands script.setup.block (block_small script within) (folds_here folds h script)

-- a node has executed the committed list
abbrev pub HasChosen : (List ℕ → List ℕ) → Script → List Numbered → Node → Type 0
HasChosen h script lines node =
    (i : ℕ) × IsCorrect (ring_for h script) i × NodeStands node (ring_for h script) i ((world_of h script lines).got (Member i)) ((world_of h script lines).archived i)
    × (executed (ring_for h script) ((world_of h script lines).got (Member i)) ≡ chosen (ring_for h script) (world_of h script lines))

-- its objects
pub committed_after : RingFolds → (h : List ℕ → List ℕ) (script : Script) (lines : List Numbered) (node : Node) (objects : ObjectsView) → IsWithin script → ShowsObjects node objects → HasChosen h script lines node
    → AreAfter h script.setup.block (committed_requests h script lines) objects
committed_after folds h script lines node objects within shows found =
    subst (λ strings. AreAfter h script.setup.block (requests_of strings) objects) found.3
    (shows (ring_for h script) found.0 ((world_of h script lines).got (Member found.0)) ((world_of h script lines).archived found.0) found.2 script.setup.block (block_small script within) (folds_here folds h script))

-- ---- members

-- strings that were submitted are those of requests
pub all_spelled : SubmitsAreRequests → (h : List ℕ → List ℕ) (script : Script) (lines : List Numbered) (strings : List (List ℕ)) → AllByRecursion IsRequest (submitted h lines)
    → AllByRecursion (Contains (world_of h script lines).submits) strings → AreRequestStrings strings
all_spelled are h script lines strings requests among = λ string c.
    let there : Contains (spelled (submitted h lines)) string = subst (λ ss. Contains ss string) (are h script lines) (Each-there (Contains (world_of h script lines).submits) strings string among c) in
    let is : IsSpelled string = Each-there IsSpelled (spelled (submitted h lines)) string (each_spelled (submitted h lines) requests) there in
    (is.request, is.is, is.spelled)

-- a member that is shown is one of the ring
pub member_here : LinesFitInTurn → (h : List ℕ → List ℕ) (script : Script) (at : ℕ) (member : MemberId) (site : SiteView) (skips : Skips) → IsTurn h script at (ShowMember member) site skips → member.0 < 3 * script.setup.f + 1
member_here fit h script at member site skips turn =
    let fits : LineFits script.setup (lines_before script at) (ShowMember member) = turn_fits fit h script at (ShowMember member) site skips turn in
    omega (arith, fits.meets.0)

pub version_here : LinesFitInTurn → (h : List ℕ → List ℕ) (script : Script) (at : ℕ) (member : MemberId) (label : List ℕ) (version : Version) (site : SiteView) (skips : Skips) → IsTurn h script at (ShowVersion member label version) site skips
    → member.0 < 3 * script.setup.f + 1
version_here fit h script at member label version site skips turn =
    let fits : LineFits script.setup (lines_before script at) (ShowVersion member label version) = turn_fits fit h script at (ShowVersion member label version) site skips turn in
    omega (arith, fits.meets.0)

-- a member that has a node is correct, and one that has none is faulty
not_false : (b : Bool) → true ≡ not b → b ≡ false
not_false true e = absurd (cc)
not_false false e = refl

not_true : (b : Bool) → false ≡ not b → b ≡ true
not_true true e = refl
not_true false e = absurd (cc)

correct_shown : (script : Script) (member : MemberId) (text : List ℕ) → true ≡ not (is_declared_faulty script member.0) → text ≡ of_member script member text
correct_shown script member text e = sym (ap (λ b. cond b (faulty_text member) text) (not_false (is_declared_faulty script member.0) e))

faulty_shown : (script : Script) (member : MemberId) (text : List ℕ) → false ≡ not (is_declared_faulty script member.0) → faulty_text member ≡ of_member script member text
faulty_shown script member text e = sym (ap (λ b. cond b (faulty_text member) text) (not_true (is_declared_faulty script member.0) e))

-- what a line shows of a correct member
member_line : (h : List ℕ → List ℕ) (script : Script) (lines : List Numbered) (member : MemberId) (printed : List ℕ) → true ≡ not (is_declared_faulty script member.0)
    → printed ≡ member_text h script.setup.block member (member_requests h script lines member) → printed ≡ line_text h script lines (ShowMember member)
member_line h script lines member printed correct is =
    let text : List ℕ = member_text h script.setup.block member (member_requests h script lines member) in
    let shown : text ≡ of_member script member text = correct_shown script member text correct in
    is ∙ shown

pub member_told : {S E : Type 0} (bytes : S → List ℕ) (r : Result S E) (h : List ℕ → List ℕ) (script : Script) (lines : List Numbered) (member : MemberId) (node : Node) → RingFolds → IsWithin script → true ≡ not (is_declared_faulty script member.0)
    → NodeStands node (ring_for h script) member.0 ((world_of h script lines).got (Member member.0)) ((world_of h script lines).archived member.0) → AreRequestStrings (executed (ring_for h script) ((world_of h script lines).got (Member member.0)))
    → IfOk r (λ printed. ForExecuted node (λ k block strings. bytes printed ≡ member_text k block member (requests_of strings))) → IfOk r (λ printed. bytes printed ≡ line_text h script lines (ShowMember member))
member_told bytes r h script lines member node folds within correct stands spelled told =
    IfOk-weaker r (λ printed. ForExecuted node (λ k block strings. bytes printed ≡ member_text k block member (requests_of strings))) (λ printed. bytes printed ≡ line_text h script lines (ShowMember member))
    (λ printed p.
    let is : bytes printed ≡ member_text h script.setup.block member (member_requests h script lines member) =
    p (ring_for h script) member.0 ((world_of h script lines).got (Member member.0)) ((world_of h script lines).archived member.0) stands script.setup.block (block_small script within) (folds_here folds h script) spelled in
    member_line h script lines member (bytes printed) correct is)
    told

-- what a line shows of a faulty one
pub faulty_told : {S E : Type 0} (bytes : S → List ℕ) (r : Result S E) (script : Script) (member : MemberId) (text : List ℕ) → false ≡ not (is_declared_faulty script member.0) → IfOk r (λ printed. bytes printed ≡ faulty_text member)
    → IfOk r (λ printed. bytes printed ≡ of_member script member text)
faulty_told bytes r script member text faulty told =
    IfOk-weaker r (λ printed. bytes printed ≡ faulty_text member) (λ printed. bytes printed ≡ of_member script member text) (λ printed p. p ∙ faulty_shown script member text faulty) told

pub member_faulty : {S E : Type 0} (bytes : S → List ℕ) (r : Result S E) (h : List ℕ → List ℕ) (script : Script) (lines : List Numbered) (member : MemberId) → false ≡ not (is_declared_faulty script member.0) → IfOk r (λ printed. bytes printed ≡ faulty_text member)
    → IfOk r (λ printed. bytes printed ≡ line_text h script lines (ShowMember member))
member_faulty bytes r h script lines member faulty told = faulty_told bytes r script member (member_text h script.setup.block member (member_requests h script lines member)) faulty told

-- what a line shows of a version that a correct member holds
version_line : (h : List ℕ → List ℕ) (script : Script) (lines : List Numbered) (member : MemberId) (label : List ℕ) (version : Version) (printed : List ℕ) → true ≡ not (is_declared_faulty script member.0)
    → printed ≡ shape_text h script.setup.block (up_to version.0 (versions_after h script.setup.block label (member_requests h script lines member))) → printed ≡ line_text h script lines (ShowVersion member label version)
version_line h script lines member label version printed correct is =
    let text : List ℕ = shape_text h script.setup.block (up_to version.0 (versions_after h script.setup.block label (member_requests h script lines member))) in
    let shown : text ≡ of_member script member text = correct_shown script member text correct in
    is ∙ shown

pub version_told : {S E : Type 0} (bytes : S → List ℕ) (r : Result S E) (h : List ℕ → List ℕ) (script : Script) (lines : List Numbered) (member : MemberId) (label : List ℕ) (version : Version) (objects : ObjectsView) → true ≡ not (is_declared_faulty script member.0)
    → AreAfter h script.setup.block (member_requests h script lines member) objects
    → IfOk r (λ printed. (k : List ℕ → List ℕ) → ForAfter k objects (λ block done. bytes printed ≡ shape_text k block (up_to version.0 (versions_after k block label done))))
    → IfOk r (λ printed. bytes printed ≡ line_text h script lines (ShowVersion member label version))
version_told bytes r h script lines member label version objects correct after told =
    IfOk-weaker r (λ printed. (k : List ℕ → List ℕ) → ForAfter k objects (λ block done. bytes printed ≡ shape_text k block (up_to version.0 (versions_after k block label done))))
    (λ printed. bytes printed ≡ line_text h script lines (ShowVersion member label version))
    (λ printed p. version_line h script lines member label version (bytes printed) correct (p h script.setup.block (member_requests h script lines member) after)) told

pub version_faulty : {S E : Type 0} (bytes : S → List ℕ) (r : Result S E) (h : List ℕ → List ℕ) (script : Script) (lines : List Numbered) (member : MemberId) (label : List ℕ) (version : Version) → false ≡ not (is_declared_faulty script member.0)
    → IfOk r (λ printed. bytes printed ≡ faulty_text member) → IfOk r (λ printed. bytes printed ≡ line_text h script lines (ShowVersion member label version))
version_faulty bytes r h script lines member label version faulty told =
    faulty_told bytes r script member (shape_text h script.setup.block (up_to version.0 (versions_after h script.setup.block label (member_requests h script lines member)))) faulty told

-- ---- lines

-- the line at a place of a script
pub line_here : (script : Script) (lent : List Numbered) (at : ℕ) (found : Numbered) (line : Line) → lent ≡ script.lines → at < length script.lines → found ≡ get_or lent at found → found.1 ≡ line
    → slice_get script.lines at ≡ Some (found.0, line)
line_here script lent at found line same below is kind =
    slice_get_read script.lines (length script.lines) at found refl below (is ∙ ap (λ ls. get_or ls at found) same) ∙ ap (λ (l : Line). Some (found.0, l)) kind

-- it prints what is printed of it
pub prints_it : (h : List ℕ → List ℕ) (script : Script) (at number : ℕ) (line : Line) (printed : List ℕ) → slice_get script.lines at ≡ Some (number, line) → printed ≡ line_text h script (lines_before script at) line → PrintsAt h script at printed
prints_it h script at number line printed here is = λ other there.
    let same : (number, line) ≡ other = same_some (number, line) other (sym here ∙ there) in
    is ∙ ap (λ (l : Numbered). line_text h script (lines_before script at) l.1) same

-- a line that shows nothing prints nothing
pub nothing_printed : (h : List ℕ → List ℕ) (script : Script) (earlier : List Numbered) (line : Line) → ((client : ClientId) (label : List ℕ) → line ≡ Read client label → ⊥) → ((member : MemberId) → line ≡ ShowMember member → ⊥)
    → ((client : ClientId) → line ≡ ShowClient client → ⊥)
    → ((member : MemberId) (label : List ℕ) (version : Version) → line ≡ ShowVersion member label version → ⊥) → (line ≡ ShowRecent → ⊥) → [] ≡ line_text h script earlier line
nothing_printed h script earlier (Read reader label) read member client version recent = absurd (read reader label refl)
nothing_printed h script earlier (ShowMember shown) read member client version recent = absurd (member shown refl)
nothing_printed h script earlier (ShowClient shown) read member client version recent = absurd (client shown refl)
nothing_printed h script earlier (ShowVersion shown label number) read member client version recent = absurd (version shown label number refl)
nothing_printed h script earlier ShowRecent read member client version recent = absurd (recent refl)
nothing_printed h script earlier line read member client version recent = refl
