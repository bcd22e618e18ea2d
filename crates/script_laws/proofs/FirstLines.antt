-- The first lines of a script that a text is: legal events, after which members and clients agree.
use Rattle.std.proofs.Common.{◌≡◌, ◌∷◌, [], ◌++◌, ℕ, List, true, take, drop, reverse, Contains, refl, sym, subst, ap, ◌∙◌, arith, take-append-drop}
use Rattle.std.specs.List.{AllByRecursion as Each}
use Rattle.std.proofs.lemmas.List.{reverse-append}
use Rattle.std.proofs.lemmas.List.Elements.{Contains-append_left}
use Rattle.guarded_update.specs.Fitting.{IsRequest}
use Rattle.guarded_update.specs.declared.setup.Setup.{Setup}
use Rattle.pond_base.specs.declared.numbers.MemberId.{MemberId}
use Rattle.pond_base.specs.declared.numbers.Party.{Party}
use Rattle.pond_base.specs.declared.numbers.Party.TheVariants.{Member, Client}
use Rattle.message_model.specs.Meaning.{who}
use Rattle.ring_model.specs.Messages.{Member as by_number}
use Rattle.ring_model.specs.World.{IsLegal, IsParty}
use Rattle.ring_model.proofs.Lists.{Each-there, Each-from_there}
use Rattle.ring_world.specs.declared.event.Event.{Event}
use Rattle.ring_world.specs.declared.event.Event.TheVariants as event
use Rattle.pond_world.proofs.Coming.{events_may_come}
use Rattle.script_terms.specs.declared.line.Line.{Line}
use Rattle.script_terms.specs.declared.line.Line.TheVariants.{Submit, Resubmit, Deliver, Settle, ForgeOrder, ForgePrepare, ForgeCommit, ForgeHeart, ForgeRaw}
use Rattle.script_terms.specs.declared.script.Script.{Script}
use Rattle.script_laws.specs.Events.{IsEventOf}
use Rattle.script_laws.proofs.Coming.{ring_is_sound, events_come_of_lines}
use Rattle.script_laws.specs.Limits.{IsFaulty, LineFits, LinesFit, SetupFits, update_of}
use Rattle.script_laws.specs.Limits as limits
use Rattle.script_laws.proofs.Turns.{faulty_are_members}
use Rattle.script_laws.proofs.Within.{within}
use Rattle.script_laws.proofs.Elements.{in_reverse}
use Rattle.script_laws.proofs.Settled.{settle_legal}
use Rattle.text_model.specs.Events.{ring_for, is_declared_faulty, events_of, with_events, is_passed, most_messages}
use Rattle.text_model.specs.Requests.{Numbered, submitted, with_line}
use Rattle.script_laws.specs.FirstLines.{FirstLinesAreLegal, ScriptsAgree, first_lines}
use Rattle.script_laws.proofs.Beliefs.{beliefs_hold}
use Rattle.script_laws.proofs.Lists.{lists_are_one}
use Rattle.script_laws.proofs.Names.{asked_clear}
use Rattle.script_laws.proofs.Numbers.{LineSpelled, lines_spelled}
use Rattle.script_laws.proofs.SubmitsSpelled.{lines_submit}

-- ---- a line more

-- legal events of lines, with which requests came
record IsBehind (h : List ℕ → List ℕ) (script : Script) (earlier : List Numbered) : Type 0 where
  pub setup : SetupFits script.setup
  pub requests : Each IsRequest (submitted h earlier)
  pub legal : IsLegal (ring_for h script) (events_of h script earlier)

-- an event of the world that a line is
by_event : (h : List ℕ → List ℕ) (script : Script) (earlier : List Numbered) (line : Line) (e : Event) → IsBehind h script earlier → LineFits script.setup earlier line → IsEventOf h script earlier line e
    → IsLegal (ring_for h script) (with_events h (ring_for h script) earlier (events_of h script earlier) line)
by_event h script earlier line e behind fits is =
    let g = ring_for h script in
    let ring = ring_is_sound h script behind.setup in
    let comes = events_come_of_lines h script earlier (0, line) e behind.setup fits behind.requests is in
    let may = events_may_come h g (events_of h script earlier) e ring.0 ring.2 behind.legal comes.0 in
    subst (IsLegal g) (sym comes.1) (may.1, behind.legal)

party_in : (h : List ℕ → List ℕ) (script : Script) (party : Party) → limits.IsParty script.setup party → IsParty (ring_for h script) (who party)
party_in h script (Member member) is = omega (arith, is)
party_in h script (Client client) is = is

-- a faulty member may send anything
may_forge : (h : List ℕ → List ℕ) (script : Script) (member : MemberId) (to : Party) → SetupFits script.setup → IsFaulty script.setup member → limits.IsParty script.setup to
    → (is_declared_faulty script member.0 ≡ true) × IsParty (ring_for h script) (by_number member.0) × IsParty (ring_for h script) (who to)
may_forge h script member to setup faulty party = (faulty, omega (arith, faulty_are_members script.setup member setup faulty), party_in h script to party)

line_legal : (h : List ℕ → List ℕ) (script : Script) (earlier : List Numbered) (line : Line) → IsBehind h script earlier → LineFits script.setup earlier line → Each IsRequest (with_line h (submitted h earlier) line)
    → IsLegal (ring_for h script) (with_events h (ring_for h script) earlier (events_of h script earlier) line)
line_legal h script earlier (Submit client label clauses) behind fits are =
    by_event h script earlier (Submit client label clauses) (event.Submit client label (update_of h clauses)) behind fits (refl, are.0)
line_legal h script earlier (Resubmit client number) behind fits are = by_event h script earlier (Resubmit client number) (event.Resubmit client number) behind fits refl
line_legal h script earlier (Deliver sender to place) behind fits are = ((party_in h script sender fits.meets.0, party_in h script to fits.meets.1.0), behind.legal)
line_legal h script earlier Settle behind fits are = settle_legal (ring_for h script) (is_passed earlier) most_messages (events_of h script earlier) behind.legal
line_legal h script earlier (ForgeOrder member to seq client number) behind fits are = (may_forge h script member to behind.setup fits.meets.0 fits.meets.1.0, behind.legal)
line_legal h script earlier (ForgePrepare member to seq client number) behind fits are = (may_forge h script member to behind.setup fits.meets.0 fits.meets.1.0, behind.legal)
line_legal h script earlier (ForgeCommit member to seq client number) behind fits are = (may_forge h script member to behind.setup fits.meets.0 fits.meets.1.0, behind.legal)
line_legal h script earlier (ForgeHeart member to label version name) behind fits are = (may_forge h script member to behind.setup fits.meets.0 fits.meets.1.0, behind.legal)
line_legal h script earlier (ForgeRaw member to content) behind fits are = (may_forge h script member to behind.setup fits.meets.0 fits.meets.1.0, behind.legal)
line_legal h script earlier line behind fits are = behind.legal

-- what lines submit, behind all but the first of them
requests_behind : (h : List ℕ → List ℕ) (earlier : List Numbered) (line : Line) → Each IsRequest (with_line h (submitted h earlier) line) → Each IsRequest (submitted h earlier)
requests_behind h earlier (Submit client label clauses) are = are.1
requests_behind h earlier line are = are

lines_legal : (h : List ℕ → List ℕ) (script : Script) (lines : List Numbered) → SetupFits script.setup → LinesFit script.setup lines → Each IsRequest (submitted h lines) → IsLegal (ring_for h script) (events_of h script lines)
lines_legal h script [] setup fits are = tt
lines_legal h script (line ∷ earlier) setup fits are =
    let before = requests_behind h earlier line.1 are in
    line_legal h script earlier line.1 (record { setup = setup; requests = before; legal = lines_legal h script earlier setup fits.1 before }) fits.0 are

-- ---- the first lines

-- what is so of each line is so of the first ones
first_are : (P : Numbered → Type 0) (lines : List Numbered) (count : ℕ) → Each P lines → Each P (reverse (take count lines))
first_are P lines count all =
    Each-from_there P (reverse (take count lines)) (λ line there. Each-there P lines line all
    (subst (λ ls. Contains ls line) (take-append-drop count lines) (Contains-append_left (take count lines) (drop count lines) line (in_reverse (take count lines) line there))))

behind : (setup : Setup) (later earlier : List Numbered) → LinesFit setup (later ++ earlier) → LinesFit setup earlier
behind setup [] earlier fits = fits
behind setup (line ∷ later) earlier fits = behind setup later earlier fits.1

first_fit : (setup : Setup) (lines : List Numbered) (count : ℕ) → LinesFit setup (reverse lines) → LinesFit setup (reverse (take count lines))
first_fit setup lines count fits =
    behind setup (reverse (drop count lines)) (reverse (take count lines)) (subst (LinesFit setup) (ap reverse (sym (take-append-drop count lines)) ∙ reverse-append (take count lines) (drop count lines)) fits)

pub first_lines_are_legal : FirstLinesAreLegal
first_lines_are_legal h long text script is count =
    let limits = within text script is in
    let fits = first_fit script.setup script.lines count limits.lines in
    let are = lines_submit h long script.setup (first_lines script count) limits.setup fits (first_are LineSpelled script.lines count (lines_spelled text script is)) in
    (lines_legal h script (first_lines script count) limits.setup fits are, are)

pub scripts_agree : ScriptsAgree
scripts_agree h long text script is count clear =
    let lines = first_lines script count in
    let setup = (within text script is).setup in
    let first = first_lines_are_legal h long text script is count in
    let among = first_are (Contains script.lines) script.lines count (Each-from_there (Contains script.lines) script.lines (λ line there. there)) in (
      lists_are_one h script lines setup first.0 (asked_clear h script lines clear) first.1,
      beliefs_hold h script lines setup among first.0 clear first.1,
    )
