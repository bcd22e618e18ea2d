-- What is passed over from a line on.
use Rattle.std.proofs.Common.{◌≡◌, ℕ, Bool, true, false, cond, ◌&&◌, ◌||◌, List, [], ◌∷◌, ◌++◌, filter, not, refl, sym, ap, ◌∙◌, subst, arith}
use Rattle.std.proofs.Math.Path.{fun_ext}
use Rattle.std.specs.List.{list_any}
use Rattle.guarded_update.specs.declared.setup.Setup.{Setup}
use Rattle.pond_base.specs.declared.numbers.ClientId.{ClientId}
use Rattle.pond_base.specs.declared.numbers.MemberId.{MemberId}
use Rattle.pond_base.specs.declared.numbers.Party.{Party}
use Rattle.pond_base.specs.declared.numbers.Party.TheVariants.{Member, Client}
use Rattle.pond_base.specs.declared.numbers.Seq.{Seq}
use Rattle.pond_base.specs.declared.numbers.Version.{Version}
use Rattle.pond_node.specs.Standing.{NodeStands}
use Rattle.pond_world.specs.Sites.{SiteView}
use Rattle.ring_model.specs.Places.{Place}
use Rattle.ring_model.specs.Seats.{IsSeat}
use Rattle.ring_model.specs.Messages.{Party as Who, same_party}
use Rattle.ring_model.proofs.Owed.{same_party_true, same_party_refl}
use Rattle.message_model.specs.Told.{Told, stands_at}
use Rattle.ring_world.specs.Worlds.{WorldStands}
use Rattle.message_model.specs.Meaning.{who}
use Rattle.script_laws.specs.Limits.{SetupFits, IsParty}
use Rattle.script_laws.specs.NamingLaws.{muted_in, lost_in}
use Rattle.text_model.specs.Events.{ring_for, events_of, with_events, muted, muted_by, lost, lost_by}
use Rattle.text_model.specs.Named.{line_strings}
use Rattle.text_model.specs.Requests.{Numbered, submitted, with_line}
use Rattle.ring_mail.specs.Skips.{Skips}
use Rattle.script_terms.specs.declared.line.Line.{Line}
use Rattle.script_terms.specs.declared.line.Line.TheVariants.{Submit, Resubmit, Deliver, Lose, Settle, Mute, Unmute, ForgeOrder, ForgePrepare, ForgeCommit, ForgeHeart, ForgeRaw}
use Rattle.script_terms.specs.declared.line.LineClause.{LineClause}
use Rattle.script_terms.specs.declared.script.Script.{Script}
use Rattle.script_run.specs.States.{StandsNext, IsTurn, lines_before}
use Rattle.script_run.proofs.Turns.{next_same}

-- ---- muted parties and lost messages, one more or fewer

or_none : (b : Bool) → (b || false) ≡ b
or_none true = refl
or_none false = refl

or_twice : (a b c : Bool) → ((a || b) || c) ≡ (a || (b || c))
or_twice true b c = refl
or_twice false b c = refl

any_more : {X : Type 0} (t : X → Bool) (xs : List X) (x : X) → list_any t (xs ++ x ∷ []) ≡ (list_any t xs || t x)
any_more t [] x = or_none (t x)
any_more t (y ∷ ys) x = ap (λ b. t y || b) (any_more t ys x) ∙ sym (or_twice (t y) (list_any t ys) (t x))

muted_more : (party : Party) (parties : List Party) (old new : Who → Bool) → old ≡ muted_in parties → ((p : Who) → new p ≡ (old p || same_party (who party) p)) → new ≡ muted_in (parties ++ party ∷ [])
muted_more party parties old new is more = fun_ext (λ (p : Who). more p ∙ ap (λ (f : Who → Bool). f p || same_party (who party) p) is ∙ sym (any_more (λ (q : Party). same_party (who q) p) parties party))

lost_more : (told : Told) (messages : List Told) (old new : Place → Bool) → old ≡ lost_in messages → ((a : Place) → new a ≡ (old a || stands_at a told)) → new ≡ lost_in (messages ++ told ∷ [])
lost_more told messages old new is more = fun_ext (λ (a : Place). more a ∙ ap (λ (f : Place → Bool). f a || stands_at a told) is ∙ sym (any_more (stands_at a) messages told))

dropped : (m rest : Bool) → (rest && not m) ≡ ((m || rest) && not m)
dropped true true = refl
dropped true false = refl
dropped false true = refl
dropped false false = refl

kept_on : (b m rest : Bool) → (b ≡ true → m ≡ false) → (b || (rest && not m)) ≡ ((b || rest) && not m)
kept_on true true rest apart = absurd (cc (apart refl))
kept_on true false rest apart = refl
kept_on false m rest apart = refl

same_back : (p q : Who) → same_party p q ≡ false → same_party q p ≡ false
same_back p q apart =
    elim (same_party q p) as (λ b. same_party q p ≡ b → b ≡ false) [
      | true ↦ λ e. absurd (cc (sym (subst (λ x. same_party x q ≡ true) (same_party_true q p e) (same_party_refl q)) ∙ apart))
      | false ↦ λ e. refl
    ] refl

-- without a party, whoever it is
any_fewer : (party : Who) (p : Who) (parties : List Party) → muted_in (filter (λ other. not (same_party (who other) party)) parties) p ≡ (muted_in parties p && not (same_party party p))
any_fewer party p [] = refl
any_fewer party p (q ∷ parties) =
    let keep : Party → Bool = λ other. not (same_party (who other) party) in
    let rest : Bool = muted_in (filter keep parties) p in
    let all : Bool = muted_in parties p in
    let next : rest ≡ (all && not (same_party party p)) = any_fewer party p parties in
    elim (same_party (who q) party) as
    (λ b. same_party (who q) party ≡ b → muted_in (cond (not b) (q ∷ filter keep parties) (filter keep parties)) p ≡ ((same_party (who q) p || all) && not (same_party party p))) [
      | true ↦ λ e.
          let is : same_party (who q) p ≡ same_party party p = ap (λ x. same_party x p) (same_party_true (who q) party e) in
          next ∙ dropped (same_party party p) all ∙ ap (λ b. (b || all) && not (same_party party p)) (sym is)
      | false ↦ λ e.
          let apart : same_party (who q) p ≡ true → same_party party p ≡ false = λ h. subst (λ x. same_party party x ≡ false) (same_party_true (who q) p h) (same_back (who q) party e) in
          ap (λ b. same_party (who q) p || b) next ∙ kept_on (same_party (who q) p) (same_party party p) all apart
    ] refl

muted_fewer : (party : Party) (parties : List Party) (old new : Who → Bool) → old ≡ muted_in parties → ((p : Who) → new p ≡ (old p && not (same_party (who party) p))) → new ≡ muted_in (filter (λ other. not (same_party (who other) (who party))) parties)
muted_fewer party parties old new is fewer =
    fun_ext (λ (p : Who). fewer p ∙ ap (λ (f : Who → Bool). f p && not (same_party (who party) p)) is ∙ sym (any_fewer (who party) p parties))

-- a declared party has a seat
pub declared_seat : (setup : Setup) (party : Party) → SetupFits setup → IsParty setup party → IsSeat (who party)
declared_seat setup (Member member) fits is = omega (arith, fits.small, is)
declared_seat setup (Client client) fits is = omega (arith, fits.few_clients, is)

-- ---- lines that change what is passed over

pub muted_next : (h : List ℕ → List ℕ) (script : Script) (at : ℕ) (party : Party) (site now : SiteView) (skips left : Skips) → (turn : IsTurn h script at (Mute party) site skips) → now.held ≡ site.held
    → WorldStands NodeStands (ring_for h script) now.world (events_of h script (lines_before script at)) → ((p : Who) → left.muted p ≡ (skips.muted p || same_party (who party) p)) → left.lost ≡ skips.lost
    → StandsNext h script at now left
muted_next h script at party site now skips left turn held stands more same =
    next_same h script at (Mute party) site now skips left turn refl refl refl held stands (muted_more party (muted (lines_before script at)) skips.muted left.muted turn.stands.muted_are more) (same ∙ turn.stands.lost_are)

pub unmuted_next : (h : List ℕ → List ℕ) (script : Script) (at : ℕ) (party : Party) (site now : SiteView) (skips left : Skips) → (turn : IsTurn h script at (Unmute party) site skips) → now.held ≡ site.held
    → WorldStands NodeStands (ring_for h script) now.world (events_of h script (lines_before script at)) → ((p : Who) → left.muted p ≡ (skips.muted p && not (same_party (who party) p))) → left.lost ≡ skips.lost
    → StandsNext h script at now left
unmuted_next h script at party site now skips left turn held stands fewer same =
    next_same h script at (Unmute party) site now skips left turn refl refl refl held stands (muted_fewer party (muted (lines_before script at)) skips.muted left.muted turn.stands.muted_are fewer) (same ∙ turn.stands.lost_are)

pub lost_next : (h : List ℕ → List ℕ) (script : Script) (at : ℕ) (sender to : Party) (place : ℕ) (site now : SiteView) (skips left : Skips) → (turn : IsTurn h script at (Lose sender to place) site skips) → now.held ≡ site.held
    → WorldStands NodeStands (ring_for h script) now.world (events_of h script (lines_before script at)) → left.muted ≡ skips.muted → ((a : Place) → left.lost a ≡ (skips.lost a || stands_at a (sender, to, place)))
    → StandsNext h script at now left
lost_next h script at sender to place site now skips left turn held stands same more =
    next_same h script at (Lose sender to place) site now skips left turn refl refl refl held stands (same ∙ turn.stands.muted_are) (lost_more (sender, to, place) (lost (lines_before script at)) skips.lost left.lost turn.stands.lost_are more)

-- a line that leaves the ring as it is: it is no event of it, and changes nothing that is passed over
pub record IsApart (line : Line) : Type 0 where
  pub submit : (client : ClientId) (label : List ℕ) (clauses : List LineClause) → line ≡ Submit client label clauses → ⊥
  pub resubmit : (client : ClientId) (number : ℕ) → line ≡ Resubmit client number → ⊥
  pub deliver : (sender : Party) (to : Party) (place : ℕ) → line ≡ Deliver sender to place → ⊥
  pub lose : (sender : Party) (to : Party) (place : ℕ) → line ≡ Lose sender to place → ⊥
  pub settle : line ≡ Settle → ⊥
  pub mute : (party : Party) → line ≡ Mute party → ⊥
  pub unmute : (party : Party) → line ≡ Unmute party → ⊥
  pub order : (member : MemberId) (to : Party) (seq : Seq) (client : ClientId) (number : ℕ) → line ≡ ForgeOrder member to seq client number → ⊥
  pub prepare : (member : MemberId) (to : Party) (seq : Seq) (client : ClientId) (number : ℕ) → line ≡ ForgePrepare member to seq client number → ⊥
  pub commit : (member : MemberId) (to : Party) (seq : Seq) (client : ClientId) (number : ℕ) → line ≡ ForgeCommit member to seq client number → ⊥
  pub heart : (member : MemberId) (to : Party) (label : List ℕ) (version : Version) (name : List ℕ) → line ≡ ForgeHeart member to label version name → ⊥
  pub raw : (member : MemberId) (to : Party) (content : List ℕ) → line ≡ ForgeRaw member to content → ⊥

-- what such a line leaves as it is
record Leaves (h : List ℕ → List ℕ) (script : Script) (earlier : List Numbered) (number : ℕ) (line : Line) : Type 0 where
  pub strings : line_strings h script earlier (number, line) ≡ []
  pub events : with_events h (ring_for h script) earlier (events_of h script earlier) line ≡ events_of h script earlier
  pub requests : with_line h (submitted h earlier) line ≡ submitted h earlier
  pub muted_stay : muted_by (muted earlier) line ≡ muted earlier
  pub lost_stay : lost_by (lost earlier) line ≡ lost earlier

apart_leaves : (h : List ℕ → List ℕ) (script : Script) (earlier : List Numbered) (number : ℕ) (line : Line) → IsApart line → Leaves h script earlier number line
apart_leaves h script earlier number (Submit client label clauses) is = absurd (is.submit client label clauses refl)
apart_leaves h script earlier number (Resubmit client n) is = absurd (is.resubmit client n refl)
apart_leaves h script earlier number (Deliver sender to place) is = absurd (is.deliver sender to place refl)
apart_leaves h script earlier number (Lose sender to place) is = absurd (is.lose sender to place refl)
apart_leaves h script earlier number Settle is = absurd (is.settle refl)
apart_leaves h script earlier number (Mute party) is = absurd (is.mute party refl)
apart_leaves h script earlier number (Unmute party) is = absurd (is.unmute party refl)
apart_leaves h script earlier number (ForgeOrder member to seq client n) is = absurd (is.order member to seq client n refl)
apart_leaves h script earlier number (ForgePrepare member to seq client n) is = absurd (is.prepare member to seq client n refl)
apart_leaves h script earlier number (ForgeCommit member to seq client n) is = absurd (is.commit member to seq client n refl)
apart_leaves h script earlier number (ForgeHeart member to label version name) is = absurd (is.heart member to label version name refl)
apart_leaves h script earlier number (ForgeRaw member to content) is = absurd (is.raw member to content refl)
apart_leaves h script earlier number line is = record { strings = refl; events = refl; requests = refl; muted_stay = refl; lost_stay = refl }

-- after it all is as it was
pub apart_next : (h : List ℕ → List ℕ) (script : Script) (at : ℕ) (line : Line) (site : SiteView) (skips : Skips) → IsApart line → IsTurn h script at line site skips → StandsNext h script at site skips
apart_next h script at line site skips is turn =
    let leaves = apart_leaves h script (lines_before script at) turn.number line is in
    next_same h script at line site site skips skips turn leaves.strings leaves.events leaves.requests refl turn.stands.stands
    (turn.stands.muted_are ∙ ap muted_in (sym leaves.muted_stay)) (turn.stands.lost_are ∙ ap lost_in (sym leaves.lost_stay))
