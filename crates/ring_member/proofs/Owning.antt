-- Requests and their own clients.
use Rattle.std.proofs.Common.{◌≡◌, ℕ, ◌<◌, cond, ◌&&◌, nat_lt, nat_le, List, [], ◌∷◌, Contains, Some, None, Option, sym, ap, ◌∙◌, subst}
use Rattle.std.specs.FinMap.{insert}
use Rattle.std.proofs.lemmas.Bool.{eq-eqb}
use Rattle.block_names.specs.Held.{Held}
use Rattle.block_names.specs.Growth.{Grew, keep_all}
use Rattle.block_names.specs.Clashes.{AreHeld}
use Rattle.block_names.proofs.Grown.{grew_none, grew_then}
use Rattle.block_names.proofs.Clashed.{held_one}
use Rattle.guarded_update.specs.declared.request.Request.{Request as Asked}
use Rattle.guarded_update.specs.Fitting.{IsRequest, update_fits}
use Rattle.guarded_update.specs.Spelling.{request_string}
use Rattle.guarded_update.proofs.Sizes.{and_parts}
use Rattle.message_model.specs.Requests.{request_at}
use Rattle.message_model.proofs.Fields.{request_seam}
use Rattle.message_model.proofs.Places.{lt_of}
use Rattle.ring_model.specs.Messages.{Ring, Client, Request}
use Rattle.ring_model.proofs.Lists.{there_first}
use Rattle.message_model.specs.Reading.{IsRingOf, asked_in}
use Rattle.ring_member.specs.Members.{IsOwn}

pub own_few : (r : List ℕ) (c n : ℕ) → IsOwn r c n → c < 16
own_few r c n own =
    let q = own.request in
    let front = and_parts (nat_lt q.client.0 16 && nat_le 1 q.number) (update_fits q.update) own.is.fits in
    let low = lt_of q.client.0 16 (and_parts (nat_lt q.client.0 16) (nat_le 1 q.number) front.0).0 in
    subst (λ k. k < 16) own.client_is low

pub own_owner : (h : List ℕ → List ℕ) (g : Ring) (r : List ℕ) (c n : ℕ) → IsRingOf h g → IsOwn r c n → g.owner r ≡ c
own_owner h g r c n ring own = ap g.owner own.spelled ∙ ring.owners own.request own.is ∙ own.client_is

pub own_number : (h : List ℕ → List ℕ) (g : Ring) (r : List ℕ) (c n : ℕ) → IsRingOf h g → IsOwn r c n → g.number r ≡ n
own_number h g r c n ring own = ap g.number own.spelled ∙ ring.numbers own.request own.is ∙ own.number_is

pub own_asked : (r : List ℕ) (c n : ℕ) → IsOwn r c n → asked_in (Client c) (Request r) ≡ r ∷ []
own_asked r c n own =
    let read : (request_at r).client.0 ≡ c = ap (λ b. (request_at b).client.0) own.spelled ∙ ap (λ (q : Asked). q.client.0) (request_seam own.request own.is.places) ∙ own.client_is in
    ap (λ b. cond b (r ∷ []) []) (eq-eqb ((request_at r).client.0) c read)

pub own_kept : (h : List ℕ → List ℕ) (r : List ℕ) (c n : ℕ) (old new : Held) → IsOwn r c n → new ≡ insert old (h r) r → new ≡ keep_all h (asked_in (Client c) (Request r)) old
own_kept h r c n old new own e = e ∙ ap (λ ss. keep_all h ss old) (sym (own_asked r c n own))

pub own_held : (h : List ℕ → List ℕ) (r : List ℕ) (c n : ℕ) (old new : Held) → IsOwn r c n → new ≡ insert old (h r) r → AreHeld h new (asked_in (Client c) (Request r))
own_held h r c n old new own e = subst (AreHeld h new) (sym (own_asked r c n own)) (held_one h old new r e)

pub own_contains : (r : List ℕ) (c n : ℕ) → IsOwn r c n → (s : List ℕ) → s ≡ r → Contains (asked_in (Client c) (Request r)) s
own_contains r c n own s e = subst (λ ss. Contains ss s) (sym (own_asked r c n own)) (subst (λ x. Contains (r ∷ []) x) (sym e) (there_first r []))

pub own_grew : (h : List ℕ → List ℕ) (r : List ℕ) (c n : ℕ) (old new : Held) → IsOwn r c n → Grew h old (λ s. s ≡ r) new → Grew h old (λ s. Contains (asked_in (Client c) (Request r)) s) new
own_grew h r c n old new own grew =
    grew_then h old new new (λ s. s ≡ r) (λ s. s ≡ r) (λ s. Contains (asked_in (Client c) (Request r)) s) (own_contains r c n own) (own_contains r c n own) grew (grew_none h new (λ s. s ≡ r))

-- what the fields of a request's spelling are
abbrev left : Option (ℕ × ℕ) → ℕ
left None = 0
left (Some p) = p.0

abbrev right : Option (ℕ × ℕ) → ℕ
right None = 0
right (Some p) = p.1

pub fields_own : (r : List ℕ) (c n : ℕ) (q : Asked) → IsRequest q → r ≡ request_string q → ◌≡◌ {A = Option (ℕ × ℕ)} (Some (c, n)) (Some (q.client.0, q.number)) → IsOwn r c n
fields_own r c n q is e same = record { request = q; is = is; spelled = e; client_is = sym (ap left same); number_is = sym (ap right same) }
