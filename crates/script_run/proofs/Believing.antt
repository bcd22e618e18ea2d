-- What clients believe after some lines, as a state has it.
use Rattle.std.proofs.Common.{◌≡◌, ◌<◌, ◌+◌, ◌==◌, ℕ, List, Option, Result, IfOk, filter, map, length, reverse, ◌∙◌, ap, arith}
use Rattle.std.proofs.lemmas.List.Sums.{length-filter}
use Rattle.std.proofs.lemmas.Result.{IfOk-weaker}
use Rattle.pond_base.specs.declared.numbers.ClientId.{ClientId}
use Rattle.pond_base.specs.declared.numbers.Version.{Version}
use Rattle.ring_model.specs.Messages.{Ring, Letter}
use Rattle.ring_model.specs.Belief.{believed, replied, heart_of}
use Rattle.object_model.specs.Trees.{object_name}
use Rattle.object_model.specs.Folds.{versions_after}
use Rattle.object_fold.specs.Views.{ObjectsView}
use Rattle.object_fold.specs.Executed.{AreAfter, ForAfter}
use Rattle.heartbeat.specs.Boards.{Board, StandsFor as BoardStands}
use Rattle.heartbeat.specs.Joins.{marked, votes_in, heart_told}
use Rattle.heartbeat.specs.Votes.{Vote, newest_of}
use Rattle.client_core.specs.Beliefs.{HeartsBelieved}
use Rattle.client_core.specs.Clients.{ClientStands}
use Rattle.client_core.specs.declared.client.Client.{Client as Kept}
use Rattle.pond_world.specs.Sites.{SiteView}
use Rattle.ring_mail.specs.Skips.{Skips}
use Rattle.script_terms.specs.declared.script.Script.{Script}
use Rattle.script_terms.specs.declared.line.Line.TheVariants.{Read, ShowClient}
use Rattle.script_laws.specs.Limits.{IsClient as IsDeclared}
use Rattle.script_laws.specs.EventLaws.{CountsJoin}
use Rattle.text_model.specs.Requests.{Numbered, count_of, submitted}
use Rattle.text_model.specs.Events.{ring_for, world_of}
use Rattle.text_model.specs.Believed.{believed_heart, believed_outcome, letters_of}
use Rattle.text_model.specs.Blocks.{read_text, client_text, up_to_heart}
use Rattle.text_model.specs.Executed.{committed_requests}
use Rattle.text_model.specs.Labels.{script_labels}
use Rattle.text_model.specs.Text.{line_text}
use Rattle.script_run.specs.Labels.{AreLabels}
use Rattle.script_run.specs.States.{StandsFor}

-- a declared client is one of the world
pub client_here : (h : List ℕ → List ℕ) (script : Script) (lines : List Numbered) (site : SiteView) (skips : Skips) (client : ClientId) → StandsFor h script lines site skips → IsDeclared script.setup client → client.0 < length site.world.clients.items
client_here h script lines site skips client stands declared = omega (arith, declared, stands.stands.is.client_count)

-- so many of its requests were submitted
pub requests_counted : CountsJoin → (h : List ℕ → List ℕ) (script : Script) (lines : List Numbered) (site : SiteView) (skips : Skips) (client : ClientId) → StandsFor h script lines site skips
    → length (filter (λ text. (ring_for h script).owner text == client.0) (world_of h script lines).submits) ≡ count_of client (submitted h lines)
requests_counted counts h script lines site skips client stands =
    length-filter (λ text. (ring_for h script).owner text == client.0) (world_of h script lines).submits ∙ counts h script lines stands.requests client

-- the newest of the votes that it was told is its heart
pub heart_is : (h : List ℕ → List ℕ) (script : Script) (lines : List Numbered) (client : ClientId) (label object : List ℕ) (board : Board) (found : Option (Version × List ℕ)) → object ≡ object_name h label
    → HeartsBelieved board (ring_for h script) (letters_of h script lines client)
    → ((need : ℕ) (votes : List Vote) → BoardStands need board votes → found ≡ newest_of need object votes) → marked (object_name h label) found ≡ believed_heart h script lines client label
heart_is h script lines client label object board found same believed newest =
    let got = letters_of h script lines client in
    let g = ring_for h script in
    let there : found ≡ newest_of (g.f + 1) (object_name h label) (votes_in heart_told got) = newest (g.f + 1) (votes_in heart_told got) believed.stands ∙ ap (λ o. newest_of (g.f + 1) o (votes_in heart_told got)) same in
    ap (marked (object_name h label)) there ∙ believed.newest (object_name h label)

-- ---- lines

-- what a read of a label prints of some objects, for a heart that was found
abbrev pub ReadsAs : ObjectsView → List ℕ → Option (Version × List ℕ) → List ℕ → Type 0
ReadsAs objects label found text = (k : List ℕ → List ℕ) → ForAfter k objects (λ block done. (object : List ℕ) → text ≡ read_text (up_to_heart (marked object found) (versions_after k block label done)))

pub read_told : {S E : Type 0} (bytes : S → List ℕ) (r : Result S E) (h : List ℕ → List ℕ) (script : Script) (lines : List Numbered) (client : ClientId) (label : List ℕ) (objects : ObjectsView) (found : Option (Version × List ℕ))
    → AreAfter h script.setup.block (committed_requests h script lines) objects → marked (object_name h label) found ≡ believed_heart h script lines client label
    → IfOk r (λ printed. ReadsAs objects label found (bytes printed)) → IfOk r (λ printed. bytes printed ≡ line_text h script lines (Read client label))
read_told bytes r h script lines client label objects found after heart told =
    IfOk-weaker r (λ printed. ReadsAs objects label found (bytes printed)) (λ printed. bytes printed ≡ line_text h script lines (Read client label))
    (λ printed p. p h script.setup.block (committed_requests h script lines) after (object_name h label)
    ∙ ap (λ m. read_text (up_to_heart m (versions_after h script.setup.block label (committed_requests h script lines)))) heart)
    told

-- what is shown of a client, beside the labels in a table
abbrev pub ShowsAs : Kept → List (List ℕ × List ℕ) → ClientId → List ℕ → Type 0
ShowsAs client entries id text =
    (g : Ring) (c : ℕ) (submits : List (List ℕ)) (got : List Letter) (k : List ℕ → List ℕ) (names : List (List ℕ)) → ClientStands client g c submits got → entries ≡ map (λ label. (label, object_name k label)) names
    → text ≡ client_text id (length submits) (λ n. believed g (replied n) got) names (λ label. heart_of g (object_name k label) got)

pub client_told : {S E : Type 0} (bytes : S → List ℕ) (r : Result S E) (h : List ℕ → List ℕ) (script : Script) (lines : List Numbered) (id : ClientId) (client : Kept) (entries : List (List ℕ × List ℕ)) (submits : List (List ℕ))
    → ClientStands client (ring_for h script) id.0 submits (letters_of h script lines id) → AreLabels h entries (reverse script.lines) → length submits ≡ count_of id (submitted h lines)
    → IfOk r (λ printed. ShowsAs client entries id (bytes printed)) → IfOk r (λ printed. bytes printed ≡ line_text h script lines (ShowClient id))
client_told {S = S} bytes r h script lines id client entries submits stands are count told =
    IfOk-weaker r (λ printed. ShowsAs client entries id (bytes printed)) (λ printed. bytes printed ≡ line_text h script lines (ShowClient id))
    (λ printed p. shown printed (p (ring_for h script) id.0 submits (letters_of h script lines id) h (script_labels script) stands are))
    told
  where
    shown : (printed : S) → bytes printed ≡ client_text id (length submits) (believed_outcome h script lines id) (script_labels script) (believed_heart h script lines id) → bytes printed ≡ line_text h script lines (ShowClient id)
    shown printed is = is ∙ ap (λ n. client_text id n (believed_outcome h script lines id) (script_labels script) (believed_heart h script lines id)) count
