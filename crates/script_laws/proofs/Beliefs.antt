-- What clients of a script's ring believe, by the laws of belief of the ring.
use Rattle.std.proofs.Common.{◌≡◌, ◌<◌, ℕ, List, [], ◌++◌, length, if◌then◌else◌, Contains, Some, sym, ap, ◌∙◌, subst}
use Rattle.std.specs.List.{AllByRecursion as Each}
use Rattle.pond_base.specs.declared.numbers.ClientId.{ClientId}
use Rattle.guarded_update.specs.Fitting.{IsRequest}
use Rattle.message_model.proofs.Places.{is_lt}
use Rattle.tree_format.specs.Strings.{label_string}
use Rattle.object_model.specs.Trees.{version_name}
use Rattle.ring_model.specs.Messages.{Client, Mark, FewFaulty}
use Rattle.ring_model.specs.World.{IsLegal, chosen}
use Rattle.fold_model.specs.Laws.{IsAnswered}
use Rattle.fold_model.proofs.Joined.{reply_is_outcome}
use Rattle.fold_model.specs.LabelLaws.{LabelsApartWith, IsVersionOf, versions_to}
use Rattle.fold_model.proofs.Labels.{heart_is_of_label}
use Rattle.script_terms.specs.declared.script.Script.{Script}
use Rattle.text_model.specs.Requests.{Numbered, submitted}
use Rattle.text_model.specs.Blocks.{up_to}
use Rattle.text_model.specs.Events.{ring_for, is_declared_faulty, no_archives, events_of, world_of}
use Rattle.text_model.specs.Believed.{believed_heart, believed_outcome}
use Rattle.text_model.specs.Clashes as text
use Rattle.text_model.specs.Named.{named}
use Rattle.script_laws.proofs.Joined.{few_faulty}
use Rattle.script_laws.proofs.Requested.{label_named}
use Rattle.script_laws.specs.Beliefs.{IsVersion}
use Rattle.script_laws.specs.AgreementLaws.{BeliefsHold}
use Rattle.script_laws.proofs.Lists.{committed_asked, legal_before, requests_before, Each-behind}
use Rattle.script_laws.proofs.Names.{clear_before, asked_clear, standing_named, labels_apart}

-- lines of a script that were run: legal events, whose requests can be read, and of whose strings no two have one name
record AreRun (h : List ℕ → List ℕ) (script : Script) (lines : List Numbered) : Type 0 where
  among : Each (Contains script.lines) lines
  legal : IsLegal (ring_for h script) (events_of h script lines)
  clear : text.NoClash h (named h script lines)
  requests : Each IsRequest (submitted h lines)

-- so are some of them
run_before : (h : List ℕ → List ℕ) (script : Script) (lines later earlier : List Numbered) → lines ≡ later ++ earlier → AreRun h script lines → AreRun h script earlier
run_before h script lines later earlier is run = record {
  among = Each-behind (Contains script.lines) later earlier (subst (Each (Contains script.lines)) is run.among);
  legal = legal_before h script lines later earlier is run.legal;
  clear = clear_before h script lines later earlier is run.clear;
  requests = requests_before h lines later earlier is run.requests;
}

-- ---- hearts

-- versions up to one that is there
up_to_there : (version : ℕ) (versions : List (List ℕ)) → version < length versions → up_to version versions ≡ versions_to version versions
up_to_there version versions low = ap (λ there. if there then versions_to version versions else []) (is_lt version (length versions) low)

-- a version in the words of the script's text
version_told : (h : List ℕ → List ℕ) (script : Script) (lines : List Numbered) (label : List ℕ) (heart : Mark)
    → IsVersionOf h script.setup.block label (chosen (ring_for h script) (world_of h script lines)) heart → IsVersion h script lines label heart
version_told h script lines label heart is = record {
  made = is.0;
  above = is.1;
  name = is.2 ∙ ap (version_name h script.setup.block) (sym (up_to_there heart.version _ is.0));
}

-- a label that is named has an object of its own among those of committed requests
apart_there : (h : List ℕ → List ℕ) (script : Script) (lines : List Numbered) (label : List ℕ) → AreRun h script lines → Contains (named h script lines) (label_string label)
    → LabelsApartWith h label (chosen (ring_for h script) (world_of h script lines))
apart_there h script lines label run own =
    labels_apart h (named h script lines) (chosen (ring_for h script) (world_of h script lines)) label run.clear
    (λ request there. label_named h script lines request run.among (committed_asked h script lines run.legal run.requests request there)) own

-- a believed heart of a label that is named is a version
heart_told : (h : List ℕ → List ℕ) (script : Script) (lines : List Numbered) → FewFaulty (ring_for h script) → AreRun h script lines
    → (client : ClientId) (label : List ℕ) → Contains (named h script lines) (label_string label) → (heart : Mark) → believed_heart h script lines client label ≡ Some heart → IsVersion h script lines label heart
heart_told h script lines few run client label own heart e =
    version_told h script lines label heart
    (heart_is_of_label script.setup.f script.setup.clients (is_declared_faulty script) h script.setup.block no_archives few (events_of h script lines) run.legal (asked_clear h script lines run.clear)
    (Client client.0) label (apart_there h script lines label run own) heart e)

-- ---- outcomes

-- a believed outcome of a request is that at one of its slots
outcome_told : (h : List ℕ → List ℕ) (script : Script) (lines : List Numbered) → FewFaulty (ring_for h script) → AreRun h script lines
    → (client : ClientId) (number : ℕ) (outcome : List ℕ) → believed_outcome h script lines client number ≡ Some outcome
    → IsAnswered h script.setup.block (chosen (ring_for h script) (world_of h script lines)) client.0 number outcome
outcome_told h script lines few run client number outcome e =
    reply_is_outcome script.setup.f script.setup.clients (is_declared_faulty script) h script.setup.block no_archives few (events_of h script lines) run.legal (asked_clear h script lines run.clear)
    client.0 number outcome e

pub beliefs_hold : BeliefsHold
beliefs_hold h script lines fits among legal clear requests = record {
  hearts = λ later earlier is client line there label stands heart e.
      heart_told h script earlier (few_faulty h script fits) (before later earlier is) client label (standing_named h script earlier line label there stands) heart e;
  outcomes = λ later earlier is client number outcome e. outcome_told h script earlier (few_faulty h script fits) (before later earlier is) client number outcome e;
}
  where
    before : (later earlier : List Numbered) → lines ≡ later ++ earlier → AreRun h script earlier
    before later earlier is = run_before h script lines later earlier is (record { among = among; legal = legal; clear = clear; requests = requests })
