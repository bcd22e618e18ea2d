-- What members have executed in a run is one list, and what clients believed is so.
use Rattle.std.proofs.Common.{ℕ, List, Contains, reverse, subst}
use Rattle.std.specs.List.{AllByRecursion}
use Rattle.guarded_update.specs.Spelling.{request_string}
use Rattle.pond_world.specs.Sites.{SiteView}
use Rattle.ring_model.specs.Laws.{NoClash}
use Rattle.ring_mail.specs.Skips.{Skips}
use Rattle.script_laws.specs.AgreementLaws.{ListsAreOne, BeliefsHold}
use Rattle.script_laws.specs.OneList.{IsOneList}
use Rattle.script_laws.specs.Beliefs.{BeliefsAreTrue}
use Rattle.script_laws.specs.EventLaws.{SubmitsAreRequests}
use Rattle.script_laws.specs.Limits.{SetupFits}
use Rattle.script_laws.proofs.Elements.{in_map, in_reverse}
use Rattle.script_laws.proofs.Requested.{request_named}
use Rattle.script_requests.proofs.Holds.{held_clear}
use Rattle.script_terms.specs.declared.script.Script.{Script}
use Rattle.text_model.specs.Events.{ring_for, world_of}
use Rattle.text_model.specs.Named.{named}
use Rattle.text_model.specs.Requests.{Numbered, submitted}
use Rattle.script_run.specs.States.{StandsFor}

-- what is submitted was named
submit_named : SubmitsAreRequests → (h : List ℕ → List ℕ) (script : Script) (lines : List Numbered) (string : List ℕ) → Contains (world_of h script lines).submits string → Contains (named h script lines) string
submit_named submits h script lines string c =
    let found = in_map request_string (reverse (submitted h lines)) string (subst (λ strings. Contains strings string) (submits h script lines) c) in
    subst (Contains (named h script lines)) found.2 (request_named h script lines found.0 (in_reverse (submitted h lines) found.0 found.1))

pub one_list : SubmitsAreRequests → ListsAreOne → (h : List ℕ → List ℕ) (script : Script) (lines : List Numbered) (site : SiteView) (skips : Skips) → SetupFits script.setup → StandsFor h script lines site skips → IsOneList h script lines
one_list submits law h script lines site skips setup is =
    let clear = held_clear h site.held (named h script lines) is.holds.all in
    let apart : NoClash (ring_for h script) (world_of h script lines).submits =
    λ a b ca cb same. clear a b (submit_named submits h script lines a ca) (submit_named submits h script lines b cb) same in
    law h script lines setup is.stands.legal apart is.requests

pub beliefs_true : BeliefsHold → (h : List ℕ → List ℕ) (script : Script) (lines : List Numbered) (site : SiteView) (skips : Skips) → SetupFits script.setup → AllByRecursion (Contains script.lines) lines → StandsFor h script lines site skips
    → BeliefsAreTrue h script lines
beliefs_true law h script lines site skips setup among is = law h script lines setup among is.stands.legal (held_clear h site.held (named h script lines) is.holds.all) is.requests
