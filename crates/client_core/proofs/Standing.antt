-- A client that stands for letters stands for one letter more.
use Rattle.std.proofs.Common.{◌≡◌, ℕ, zero, suc, ◌+◌, ◌*◌, inl, inr, List, [], ◌∷◌, ◌++◌, Option, Some, None, map, length, slice_get, slice_index_or, arith, ◌<◌, Result, Ok, Err, IfOk, OnOk, refl, sym, ap, subst, ◌∙◌}
use Rattle.std.proofs.lemmas.List.{map-append}
use Rattle.std.specs.List.{AllByRecursion, cons_option, range_with_len}
use Rattle.ring_model.specs.Messages.{Party, Member, Client as client, Message, Request, Letter, Ring, Mark, Packet, to_members}
use Rattle.ring_model.specs.World.{IsParty}
use Rattle.ring_model.specs.Belief.{replied}
use Rattle.message_model.specs.Meaning.{meaning, who, said, letter}
use Rattle.message_model.specs.Laws.{OthersAreForeign}
use Rattle.pond_base.specs.declared.numbers.Party.{Party as Who}
use Rattle.ring_message.specs.declared.message.Message.{Message as Told}
use Rattle.ring_message.specs.Grammar.{IsMessage}
use Rattle.ring_message.specs.Spelling.{message_string}
use Rattle.std.proofs.lemmas.Option.{slice_get-map}
use Rattle.std.specs.Option.{option_map}
use Rattle.heartbeat.specs.Votes.{Vote}
use Rattle.heartbeat.specs.Boards.{StandsFor}
use Rattle.heartbeat.specs.Joins.{heart_told, seal_told, vote_from, votes_in}
use Rattle.client_core.specs.declared.asking.Asked.{Asked}
use Rattle.client_core.specs.declared.client.Client.{Client}
use Rattle.client_core.specs.Replies.{RepliesStand}
use Rattle.client_core.specs.Sending.{asks}
use Rattle.client_core.specs.Clients.{Carries, ClientStands}
use Rattle.client_core.proofs.Silent.{replies_client, replies_unsaid}

-- what a letter changes is what is kept of the members' words
pub told_more : (old new : Client) (g : Ring) (c : ℕ) (submits : List (List ℕ)) (got : List Letter) (l : Letter) → old.f ≡ new.f → old.id.0 ≡ new.id.0 → old.requests.items ≡ new.requests.items
    → IsParty g l.from → RepliesStand g new.replies.entries (l ∷ got) → StandsFor (g.f + 1) new.hearts (votes_in heart_told (l ∷ got)) → StandsFor (g.f + 1) new.seals (votes_in seal_told (l ∷ got))
    → ClientStands old g c submits got → ClientStands new g c submits (l ∷ got)
told_more old new g c submits got l faulty number items party replies hearts seals stands = record {
  faulty = stands.faulty ∙ faulty;
  number = sym number ∙ stands.number;
  requests = ap (map (λ asked. asked.text)) (sym items) ∙ stands.requests;
  messages = subst (AllByRecursion Carries) items stands.messages;
  parties = (party, stands.parties);
  replies = replies;
  hearts = hearts;
  seals = seals;
}

-- the same for what a member says
pub told_said : (old new : Client) (g : Ring) (c : ℕ) (submits : List (List ℕ)) (got : List Letter) (i : ℕ) (m : Told) (x : Message) → said m ≡ x → old.f ≡ new.f → old.id.0 ≡ new.id.0
    → old.requests.items ≡ new.requests.items → IsParty g (Member i) → RepliesStand g new.replies.entries (record { from = Member i; message = x } ∷ got)
    → StandsFor (g.f + 1) new.hearts (votes_in heart_told (record { from = Member i; message = x } ∷ got)) → StandsFor (g.f + 1) new.seals (votes_in seal_told (record { from = Member i; message = x } ∷ got))
    → ClientStands old g c submits got → ClientStands new g c submits (record { from = Member i; message = said m } ∷ got)
told_said old new g c submits got i m x is faulty number items party replies hearts seals stands =
    subst (λ y. ClientStands new g c submits (record { from = Member i; message = y } ∷ got)) (sym is)
    (told_more old new g c submits got (record { from = Member i; message = x }) faulty number items party replies hearts seals stands)

unvoted : (p : Party) → vote_from p None ≡ None
unvoted (Member i) = refl
unvoted (client k) = refl

-- a board after a letter that is no vote
board_still : (told : Message → Option Mark) (need : ℕ) (l : Letter) (got : List Letter) (vote : Option Vote) → vote_from l.from (told l.message) ≡ vote → vote ≡ None
    → votes_in told got ≡ votes_in told (l ∷ got)
board_still told need l got vote is none = sym (ap (λ v. cons_option v (votes_in told got)) (is ∙ none))

-- a letter that tells nothing
pub told_nothing : (k : Client) (g : Ring) (c : ℕ) (submits : List (List ℕ)) (got : List Letter) (l : Letter) → IsParty g l.from
    → ((n : ℕ) → replied n l.message ≡ None) → heart_told l.message ≡ None → seal_told l.message ≡ None
    → ClientStands k g c submits got → ClientStands k g c submits (l ∷ got)
told_nothing k g c submits got l party none heart seal stands =
    told_more k k g c submits got l refl refl refl party (replies_unsaid g k.replies.entries l got none stands.replies)
    (subst (StandsFor (g.f + 1) k.hearts) (board_still heart_told (g.f + 1) l got (vote_from l.from None) (ap (vote_from l.from) heart) (unvoted l.from)) stands.hearts)
    (subst (StandsFor (g.f + 1) k.seals) (board_still seal_told (g.f + 1) l got (vote_from l.from None) (ap (vote_from l.from) seal) (unvoted l.from)) stands.seals)
    stands

-- a letter of a client
pub told_by_client : (k : Client) (g : Ring) (c : ℕ) (submits : List (List ℕ)) (got : List Letter) (other : ℕ) (m : Message) → IsParty g (client other)
    → ClientStands k g c submits got → ClientStands k g c submits (record { from = client other; message = m } ∷ got)
told_by_client k g c submits got other m party stands =
    told_more k k g c submits got (record { from = client other; message = m }) refl refl refl party (replies_client g k.replies.entries other m got stands.replies) stands.hearts stands.seals stands

-- bytes that are no message
pub told_foreign : (k : Client) (g : Ring) (c : ℕ) (submits : List (List ℕ)) (got : List Letter) (from : Who) (bytes : List ℕ) → OthersAreForeign
    → ((m : Told) → IsMessage m → bytes ≡ message_string m → ⊥) → IsParty g (who from) → ClientStands k g c submits got → ClientStands k g c submits (letter from bytes ∷ got)
told_foreign k g c submits got from bytes foreign none party stands = elim (foreign bytes) [
  | inl one ↦ absurd (none one.message one.is one.spelled)
  | inr is ↦ told_nothing k g c submits got (letter from bytes) party (λ n. ap (replied n) is) (ap heart_told is) (ap seal_told is) stands
]

-- ---- results

pub on_ok : {T E P Q : Type 0} (r : Result T E) → OnOk r P → (P → Q) → OnOk r Q
on_ok (Ok x) p f = f p
on_ok (Err e) p f = tt

pub on_both : {T E P Q R : Type 0} (r : Result T E) → OnOk r P → OnOk r Q → (P → Q → R) → OnOk r R
on_both (Ok x) p q f = f p q
on_both (Err e) p q f = tt

pub on_value : {T E : Type 0} {P Q : T → Type 0} (r : Result T E) → IfOk r P → ((x : T) → P x → Q x) → IfOk r Q
on_value (Ok x) p f = f x p
on_value (Err e) p f = tt

-- ---- requests

carries_at : (xs : List Asked) (k : ℕ) (x : Asked) → slice_get xs k ≡ Some x → AllByRecursion Carries xs → Carries x
carries_at [] k x e all = absurd (cc e)
carries_at (y ∷ xs) zero x e all = subst Carries (same_one e) all.0
  where
    same_one : ◌≡◌ {A = Option Asked} (Some y) (Some x) → y ≡ x
    same_one e = cc e
carries_at (y ∷ xs) (suc k) x e all = carries_at xs k x e all.1

pub place_of : (xs : List Asked) (k : ℕ) (x : Asked) → k < length xs → x ≡ slice_index_or xs k x → slice_get xs k ≡ Some x
place_of [] k x low e = absurd (omega (arith, low))
place_of (y ∷ xs) zero x low e = ap Some (sym e)
place_of (y ∷ xs) (suc k) x low e = place_of xs k x (omega (arith, low)) e

-- the message of a request that was submitted carries it
pub carried : (xs : List Asked) (submits : List (List ℕ)) (k : ℕ) (x : Asked) (text : List ℕ) → map (λ asked. asked.text) xs ≡ submits → AllByRecursion Carries xs → slice_get xs k ≡ Some x
    → slice_get submits k ≡ Some text → meaning x.message ≡ Request text
carried xs submits k x text kept all there asked = carries_at xs k x there all ∙ ap Request (same_text both)
  where
    both : Some x.text ≡ Some text
    both = ap (option_map (λ a. a.text)) (sym there) ∙ sym (slice_get-map (λ a. a.text) xs k) ∙ ap (λ ts. slice_get ts k) kept ∙ asked

    same_text : Some x.text ≡ Some text → x.text ≡ text
    same_text e = cc e

all_more : (xs : List Asked) (x : Asked) → AllByRecursion Carries xs → Carries x → AllByRecursion Carries (xs ++ x ∷ [])
all_more [] x all one = (one, tt)
all_more (y ∷ xs) x all one = (all.0, all_more xs x all.1 one)

-- a request more
pub asked_more : (old new : Client) (g : Ring) (c : ℕ) (submits : List (List ℕ)) (got : List Letter) (x : Asked) (text : List ℕ) → old.f ≡ new.f → old.id.0 ≡ new.id.0
    → new.requests.items ≡ old.requests.items ++ x ∷ [] → Carries x → x.text ≡ text → old.replies.entries ≡ new.replies.entries → old.hearts ≡ new.hearts → old.seals ≡ new.seals
    → ClientStands old g c submits got → ClientStands new g c (submits ++ text ∷ []) got
asked_more old new g c submits got x text faulty number items carries is replies hearts seals stands = record {
  faulty = stands.faulty ∙ faulty;
  number = sym number ∙ stands.number;
  requests =
      ap (map (λ asked. asked.text)) items
      ∙ map-append (λ asked. asked.text) old.requests.items (x ∷ [])
      ∙ ap (λ texts. texts ++ x.text ∷ []) stands.requests
      ∙ ap (λ t. submits ++ t ∷ []) is;
  messages = subst (AllByRecursion Carries) (sym items) (all_more old.requests.items x stands.messages carries);
  parties = stands.parties;
  replies = subst (λ es. RepliesStand g es got) replies stands.replies;
  hearts = subst (λ b. StandsFor (g.f + 1) b (votes_in heart_told got)) hearts stands.hearts;
  seals = subst (λ b. StandsFor (g.f + 1) b (votes_in seal_told got)) seals stands.seals;
}

-- the same client with the same requests
pub kept_still : (old new : Client) (g : Ring) (c : ℕ) (submits : List (List ℕ)) (got : List Letter) → old.f ≡ new.f → old.id.0 ≡ new.id.0 → old.requests.items ≡ new.requests.items
    → old.replies.entries ≡ new.replies.entries → old.hearts ≡ new.hearts → old.seals ≡ new.seals → ClientStands old g c submits got → ClientStands new g c submits got
kept_still old new g c submits got faulty number items replies hearts seals stands = record {
  faulty = stands.faulty ∙ faulty;
  number = sym number ∙ stands.number;
  requests = ap (map (λ asked. asked.text)) (sym items) ∙ stands.requests;
  messages = subst (AllByRecursion Carries) items stands.messages;
  parties = stands.parties;
  replies = subst (λ es. RepliesStand g es got) replies stands.replies;
  hearts = subst (λ b. StandsFor (g.f + 1) b (votes_in heart_told got)) hearts stands.hearts;
  seals = subst (λ b. StandsFor (g.f + 1) b (votes_in seal_told got)) seals stands.seals;
}

-- a request's message to each of 3f+1 members is one to each member of the ring
pub asks_are : (g : Ring) (f c owner : ℕ) (bytes text : List ℕ) → g.f ≡ f → owner ≡ c → meaning bytes ≡ Request text → asks (3 * f + 1) c bytes ≡ to_members g (client owner) (Request text)
asks_are g f c owner bytes text faulty from means =
    ap (λ m. map (packet c m) (range_with_len 0 (3 * f + 1))) means
    ∙ ap (λ n. map (packet n (Request text)) (range_with_len 0 (3 * f + 1))) (sym from)
    ∙ ap (λ n. map (packet owner (Request text)) (range_with_len 0 (3 * n + 1))) (sym faulty)
  where
    packet : ℕ → Message → ℕ → Packet
    packet n m j = record { from = client n; to = Member j; message = m }
