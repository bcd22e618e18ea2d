-- What faulty members send, and the requests that they take for it.
use Rattle.std.proofs.Common.{◌≡◌, ◌<◌, ◌-◌, ◌==◌, ℕ, Option, List, ◌++◌, filter, reverse, Contains, ◌+◌, slice_get, Some, refl, sym, ◌∙◌, ap, subst}
use Rattle.std.specs.FinMap as map
use Rattle.std.specs.List.{AllByRecursion as Each}
use Rattle.std.proofs.lemmas.List.Elements.{Contains-append_left}
use Rattle.block_names.specs.Held.{Held}
use Rattle.block_names.specs.Growth.{Grew, IsClashIn}
use Rattle.block_names.proofs.Grown.{held_same}
use Rattle.block_names.specs.declared.fault.NameFault.{NameFault}
use Rattle.guarded_update.specs.Spelling.{request_string}
use Rattle.guarded_update.specs.declared.setup.Setup.{Setup}
use Rattle.message_model.specs.Laws.{MessagesAreMeant}
use Rattle.message_model.specs.Meaning.{meaning, said}
use Rattle.pond_base.specs.declared.numbers.ClientId.{ClientId}
use Rattle.pond_base.specs.declared.numbers.MemberId.{MemberId}
use Rattle.pond_base.specs.declared.numbers.Party.{Party}
use Rattle.pond_base.specs.declared.numbers.Seq.{Seq}
use Rattle.pond_base.specs.declared.numbers.Version.{Version}
use Rattle.object_model.specs.Trees.{object_name}
use Rattle.pond_node.specs.Standing.{NodeStands}
use Rattle.pond_node.specs.declared.node.Node.{Node}
use Rattle.pond_world.specs.Sites.{SiteView}
use Rattle.ring_message.specs.Grammar.{IsMessage, IsRequestString}
use Rattle.ring_message.specs.Spelling.{message_string}
use Rattle.ring_message.specs.declared.message.Message.{Message}
use Rattle.ring_message.specs.declared.message.Message.TheVariants as message
use Rattle.ring_model.specs.Messages as model
use Rattle.ring_model.specs.Messages.{Ring}
use Rattle.ring_model.specs.World.{Event, world}
use Rattle.ring_world.specs.declared.event.Event.TheVariants as event
use Rattle.ring_mail.specs.Skips.{Skips}
use Rattle.ring_world.specs.Worlds.{WorldStands}
use Rattle.ring_world.specs.declared.state.World.{World}
use Rattle.script_laws.specs.Events.{IsEventOf}
use Rattle.script_laws.specs.EventLaws.{AskedIsThere}
use Rattle.script_laws.proofs.Submits.{submits_are_requests}
use Rattle.script_laws.specs.Limits.{HasSent, LineFits, Meets}
use Rattle.script_laws.specs.Turns.{LinesFitInTurn}
use Rattle.script_laws.proofs.Elements.{in_map, in_reverse}
use Rattle.script_laws.proofs.Requested.{request_named}
use Rattle.script_grammar.specs.Asks.{slot_asks}
use Rattle.script_requests.specs.Holding.{HoldsJust, IsClashOf}
use Rattle.script_requests.proofs.Holds.{clash_more}
use Rattle.script_terms.specs.declared.line.Line.{Line}
use Rattle.script_terms.specs.declared.line.Line.TheVariants.{ForgeOrder, ForgePrepare, ForgeCommit, ForgeHeart, ForgeRaw}
use Rattle.script_terms.specs.declared.script.Script.{Script}
use Rattle.text_model.specs.Events.{ring_for, world_of, events_of, asked_string}
use Rattle.text_model.specs.Named.{named, line_strings}
use Rattle.text_model.specs.Requests.{Numbered, submitted}
use Rattle.script_run.specs.States.{StandsFor, IsTurn, IsComing, IsForgery, Forges, lines_before}
use Rattle.script_run.proofs.Turns.{lines_more, turn_fits}
use Rattle.script_run.proofs.Widening.{clash_among}

-- the string of a client's request of a number, after some lines of a script
abbrev pub string_at : (List ℕ → List ℕ) → Script → List Numbered → ClientId → ℕ → List ℕ
string_at h script lines client number = asked_string (ring_for h script) (world_of h script lines) client number

-- it is named by the line that submits it
pub asked_named : AskedIsThere → (h : List ℕ → List ℕ) (script : Script) (lines : List Numbered) (site : SiteView) (skips : Skips) (client : ClientId) (number : ℕ) (text : List ℕ) → StandsFor h script lines site skips → HasSent script.setup lines client number
    → text ≡ string_at h script lines client number → Contains (named h script lines) text
asked_named there h script lines site skips client number text stands sent is =
    let found = there h script lines client number sent stands.requests in
    let request = in_map request_string (reverse (submitted h lines)) found.0 (subst (λ texts. Contains texts found.0) (submits_are_requests h script lines) found.1.among) in
    subst (Contains (named h script lines)) (request.2 ∙ sym (is ∙ found.1.asked)) (request_named h script lines request.0 (in_reverse (submitted h lines) request.0 request.1))

-- it is that of a request
pub asked_spelled : AskedIsThere → (h : List ℕ → List ℕ) (script : Script) (lines : List Numbered) (site : SiteView) (skips : Skips) (client : ClientId) (number : ℕ) → StandsFor h script lines site skips → HasSent script.setup lines client number
    → IsRequestString (string_at h script lines client number)
asked_spelled there h script lines site skips client number stands sent =
    let found = there h script lines client number sent stands.requests in
    (found.1.spelled.request, found.1.spelled.is, found.1.asked ∙ found.1.spelled.spelled)

-- what a world answers for it
pub answered : AskedIsThere → (h : List ℕ → List ℕ) (script : Script) (lines : List Numbered) (site : SiteView) (skips : Skips) (client : ClientId) (number : ℕ) (w : World Node) (found : Option (List ℕ)) → StandsFor h script lines site skips
    → HasSent script.setup lines client number → w ≡ site.world
    → ((g : Ring) (events : List Event) → WorldStands NodeStands g w events → client.0 < g.clients → 0 < number
    → found ≡ slice_get (filter (λ r. g.owner r == client.0) (world g events).submits) (number - 1))
    → found ≡ Some (string_at h script lines client number)
answered there h script lines site skips client number w found stands sent same tells =
    let string = there h script lines client number sent stands.requests in
    let stood = subst (λ v. WorldStands NodeStands (ring_for h script) v (events_of h script lines)) (sym same) stands.stands in
    tells (ring_for h script) (events_of h script lines) stood sent.0 sent.1 ∙ string.1.at ∙ ap Some (sym string.1.asked)

-- a string that is named once more changes nothing
pub named_again : (h : List ℕ → List ℕ) (script : Script) (lines : List Numbered) (site now : SiteView) (skips : Skips) (text : List ℕ) → StandsFor h script lines site skips → Contains (named h script lines) text
    → now.world ≡ site.world → now.held ≡ map.insert site.held (h text) text → StandsFor h script lines now skips
named_again h script lines site now skips text stands there same held = record {
  holds = subst (λ book. HoldsJust h book (named h script lines)) (sym (held ∙ held_same h site.held text (stands.holds.all text there))) stands.holds;
  stands = subst (λ world. WorldStands NodeStands (ring_for h script) world (events_of h script lines)) (sym same) stands.stands;
  muted_are = stands.muted_are;
  lost_are = stands.lost_are;
  requests = stands.requests;
}

-- a clash of it is one of what is named
pub again_clash : (h : List ℕ → List ℕ) (script : Script) (lines : List Numbered) (site : SiteView) (skips : Skips) (text : List ℕ) (now : Held) (fault : NameFault) → StandsFor h script lines site skips → Contains (named h script lines) text
    → Grew h site.held (λ string. string ≡ text) now → IsClashIn h now (λ string. string ≡ text) fault → IsClashOf h (named h script lines) fault
again_clash h script lines site skips text now fault stands there grew clash =
    clash_among h site.held (named h script lines) (named h script lines) (λ string. string ≡ text) fault stands.holds (λ s c. c) (λ s e. subst (Contains (named h script lines)) (sym e) there) (now, grew, clash)

-- a clash before a line is one up to it
pub clash_next : (h : List ℕ → List ℕ) (script : Script) (at number : ℕ) (line : Line) (fault : NameFault) → slice_get script.lines at ≡ Some (number, line) → IsClashOf h (named h script (lines_before script at)) fault
    → IsClashOf h (named h script (lines_before script (at + 1))) fault
clash_next h script at number line fault here clash =
    let earlier = lines_before script at in
    subst (λ lines. IsClashOf h (named h script lines) fault) (sym (lines_more script at (number, line) here))
    (clash_more h (named h script earlier) (named h script earlier ++ line_strings h script earlier (number, line)) fault (λ s c. Contains-append_left (named h script earlier) (line_strings h script earlier (number, line)) s c) clash)

-- bytes that mean the message of a line are its event
forgery_event : (h : List ℕ → List ℕ) (script : Script) (earlier : List Numbered) (line : Line) (member : MemberId) (to : Party) (sent : model.Message) (bytes : List ℕ)
    → Forges h (ring_for h script) (world_of h script earlier) line member to sent → meaning bytes ≡ sent → IsEventOf h script earlier line (event.Forge member to bytes)
forgery_event h script earlier (ForgeOrder by whom seq client number) member to sent bytes f means =
    (bytes, ap (λ b. event.Forge b to bytes) (sym f.0) ∙ ap (λ w. event.Forge by w bytes) (sym f.1), means ∙ f.2)
forgery_event h script earlier (ForgePrepare by whom seq client number) member to sent bytes f means =
    (bytes, ap (λ b. event.Forge b to bytes) (sym f.0) ∙ ap (λ w. event.Forge by w bytes) (sym f.1), means ∙ f.2)
forgery_event h script earlier (ForgeCommit by whom seq client number) member to sent bytes f means =
    (bytes, ap (λ b. event.Forge b to bytes) (sym f.0) ∙ ap (λ w. event.Forge by w bytes) (sym f.1), means ∙ f.2)
forgery_event h script earlier (ForgeHeart by whom label version name) member to sent bytes f means =
    (bytes, ap (λ b. event.Forge b to bytes) (sym f.0) ∙ ap (λ w. event.Forge by w bytes) (sym f.1), means ∙ f.2)
forgery_event h script earlier line member to sent bytes f means = absurd f

pub forgery_comes : MessagesAreMeant → (h : List ℕ → List ℕ) (script : Script) (at : ℕ) (member : MemberId) (to : Party) (sent : Message) (bytes : List ℕ) (site : SiteView) (skips : Skips) → IsForgery h script at member to sent site skips
    → IsMessage sent → bytes ≡ message_string sent → IsComing h script at (event.Forge member to bytes) site skips
forgery_comes meant h script at member to sent bytes site skips forgery is spelled = record {
  line = forgery.line;
  turn = forgery.turn;
  is_event = forgery_event h script (lines_before script at) forgery.line member to (said sent) bytes forgery.forges (ap meaning spelled ∙ meant sent is);
}

-- any bytes
pub raw_comes : (h : List ℕ → List ℕ) (script : Script) (at : ℕ) (member : MemberId) (to : Party) (content bytes : List ℕ) (site : SiteView) (skips : Skips) → IsTurn h script at (ForgeRaw member to content) site skips
    → bytes ≡ content → IsComing h script at (event.Forge member to bytes) site skips
raw_comes h script at member to content bytes site skips turn same = record { line = ForgeRaw member to content; turn = turn; is_event = ap (λ b. event.Forge member to b) same }

-- where the book holds the same, it is still the turn of a line
pub turn_again : (h : List ℕ → List ℕ) (script : Script) (at : ℕ) (line : Line) (site now : SiteView) (skips left : Skips) → IsTurn h script at line site skips → StandsFor h script (lines_before script at) now left
    → IsTurn h script at line now left
turn_again h script at line site now skips left turn stands = record { within = turn.within; number = turn.number; here = turn.here; stands = stands }

-- a forgery for a slot has a request that was sent
was_sent : (setup : Setup) (earlier : List Numbered) (member : MemberId) (to : Party) (seq : Seq) (client : ClientId) (number : ℕ) → Each (Meets setup earlier) (slot_asks member.0 to seq.0 client.0 number) → HasSent setup earlier client number
was_sent setup earlier member to seq client number meets = let sent = meets.1.1.1.1.0 in (meets.1.1.1.0, sent.0, sent.1)

-- a line that orders a request
pub order_sent : LinesFitInTurn → (h : List ℕ → List ℕ) (script : Script) (at : ℕ) (member : MemberId) (to : Party) (seq : Seq) (client : ClientId) (number : ℕ) (site : SiteView) (skips : Skips)
    → IsTurn h script at (ForgeOrder member to seq client number) site skips → HasSent script.setup (lines_before script at) client number
order_sent fit h script at member to seq client number site skips turn = was_sent script.setup (lines_before script at) member to seq client number (turn_fits fit h script at (ForgeOrder member to seq client number) site skips turn).meets

pub order_forged : LinesFitInTurn → AskedIsThere → (h : List ℕ → List ℕ) (script : Script) (at : ℕ) (member : MemberId) (to : Party) (seq : Seq) (client : ClientId) (number : ℕ) (request : List ℕ) (site : SiteView) (skips : Skips)
    → IsTurn h script at (ForgeOrder member to seq client number) site skips → request ≡ string_at h script (lines_before script at) client number
    → IsForgery h script at member to (message.PrePrepare seq request) site skips
order_forged fit there h script at member to seq client number request site skips turn is =
    let line : Line = ForgeOrder member to seq client number in
    let fits : LineFits script.setup (lines_before script at) (ForgeOrder member to seq client number) = turn_fits fit h script at line site skips turn in
    record {
      line = line;
      turn = turn;
      forges = (refl, refl, ap (λ text. model.PrePrepare seq.0 text) is);
      fits = (fits.meets.1.1.0, subst IsRequestString (sym is) (asked_spelled there h script (lines_before script at) site skips client number turn.stands (was_sent script.setup (lines_before script at) member to seq client number fits.meets)));
    }

-- a line that votes for a request
pub prepare_sent : LinesFitInTurn → (h : List ℕ → List ℕ) (script : Script) (at : ℕ) (member : MemberId) (to : Party) (seq : Seq) (client : ClientId) (number : ℕ) (site : SiteView) (skips : Skips)
    → IsTurn h script at (ForgePrepare member to seq client number) site skips → HasSent script.setup (lines_before script at) client number
prepare_sent fit h script at member to seq client number site skips turn = was_sent script.setup (lines_before script at) member to seq client number (turn_fits fit h script at (ForgePrepare member to seq client number) site skips turn).meets

pub prepare_forged : LinesFitInTurn → (h : List ℕ → List ℕ) (script : Script) (at : ℕ) (member : MemberId) (to : Party) (seq : Seq) (client : ClientId) (number : ℕ) (name : List ℕ) (site now : SiteView) (skips left : Skips)
    → IsTurn h script at (ForgePrepare member to seq client number) site skips → StandsFor h script (lines_before script at) now left → name ≡ h (string_at h script (lines_before script at) client number)
    → IsForgery h script at member to (message.Prepare seq name) now left
prepare_forged fit h script at member to seq client number name site now skips left turn stands is =
    let line : Line = ForgePrepare member to seq client number in
    let fits : LineFits script.setup (lines_before script at) (ForgePrepare member to seq client number) = turn_fits fit h script at line site skips turn in
    record { line = line; turn = turn_again h script at line site now skips left turn stands; forges = (refl, refl, ap (λ text. model.Prepare seq.0 text) is); fits = fits.meets.1.1.0 }

pub commit_sent : LinesFitInTurn → (h : List ℕ → List ℕ) (script : Script) (at : ℕ) (member : MemberId) (to : Party) (seq : Seq) (client : ClientId) (number : ℕ) (site : SiteView) (skips : Skips)
    → IsTurn h script at (ForgeCommit member to seq client number) site skips → HasSent script.setup (lines_before script at) client number
commit_sent fit h script at member to seq client number site skips turn = was_sent script.setup (lines_before script at) member to seq client number (turn_fits fit h script at (ForgeCommit member to seq client number) site skips turn).meets

pub commit_forged : LinesFitInTurn → (h : List ℕ → List ℕ) (script : Script) (at : ℕ) (member : MemberId) (to : Party) (seq : Seq) (client : ClientId) (number : ℕ) (name : List ℕ) (site now : SiteView) (skips left : Skips)
    → IsTurn h script at (ForgeCommit member to seq client number) site skips → StandsFor h script (lines_before script at) now left → name ≡ h (string_at h script (lines_before script at) client number)
    → IsForgery h script at member to (message.Commit seq name) now left
commit_forged fit h script at member to seq client number name site now skips left turn stands is =
    let line : Line = ForgeCommit member to seq client number in
    let fits : LineFits script.setup (lines_before script at) (ForgeCommit member to seq client number) = turn_fits fit h script at line site skips turn in
    record { line = line; turn = turn_again h script at line site now skips left turn stands; forges = (refl, refl, ap (λ text. model.Commit seq.0 text) is); fits = fits.meets.1.1.0 }

-- a line that sends a heart
pub heart_forged : LinesFitInTurn → (h : List ℕ → List ℕ) (script : Script) (at : ℕ) (member : MemberId) (to : Party) (label : List ℕ) (version : Version) (name object : List ℕ) (site : SiteView) (skips : Skips)
    → IsTurn h script at (ForgeHeart member to label version name) site skips → object ≡ object_name h label → IsForgery h script at member to (message.Heart object version name) site skips
heart_forged fit h script at member to label version name object site skips turn is =
    let line : Line = ForgeHeart member to label version name in
    let fits : LineFits script.setup (lines_before script at) (ForgeHeart member to label version name) = turn_fits fit h script at line site skips turn in
    record { line = line; turn = turn; forges = (refl, refl, ap (λ o. model.Heart o version.0 name) is); fits = fits.meets.1.1.0 }
