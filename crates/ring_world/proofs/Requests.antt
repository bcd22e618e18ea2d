-- What clients and faulty members send.
use Rattle.std.proofs.Common.{◌≡◌, ℕ, zero, suc, ◌+◌, ◌<◌, Bool, true, false, cond, ◌&&◌, ◌==◌, List, [], ◌∷◌, ◌++◌, length, filter, count_by, find, slice_get, get_or, Option, Some, None, IfSome, Vec, Contains, refl, sym, ap, ap₂, ◌∙◌, subst, arith, append-nil}
use Rattle.std.specs.List.{AllByRecursion as Each}
use Rattle.std.specs.Vec.{with_item}
use Rattle.std.specs.declared.alloc.Global.{Global}
use Rattle.std.specs.FinMap as finmap
use Rattle.std.proofs.lemmas.Bool.{eqb-true, eq-eqb, ne_eqb}
use Rattle.std.proofs.lemmas.List.{length-set, length-map}
use Rattle.std.proofs.lemmas.List.Elements.{filter-append}
use Rattle.std.proofs.lemmas.List.Sums.{length-filter}
use Rattle.block_names.specs.Held.{Held}
use Rattle.block_names.specs.Growth.{Holds, Keeps}
use Rattle.tree_format.specs.Strings.{label_string}
use Rattle.guarded_update.specs.declared.update.Update.{Update}
use Rattle.guarded_update.specs.declared.request.Request.{Request as Asking}
use Rattle.guarded_update.specs.Fitting.{IsRequest}
use Rattle.guarded_update.specs.Spelling.{request_string}
use Rattle.ring_model.specs.Messages.{Ring, Party as Who, Request, Member as member, Client as client, to_members}
use Rattle.ring_model.specs.World.{World as Model, Event, Submit, Resubmit, Forge, asking, happens, world}
use Rattle.ring_model.specs.Laws.{NoClash}
use Rattle.ring_model.proofs.History.{Each-append, Each-at, Each-weaker, same_some}
use Rattle.ring_model.proofs.Lists.{Each-there, there_filter}
use Rattle.ring_model.proofs.Ordered.{all_numbered}
use Rattle.message_model.specs.Meaning.{meaning}
use Rattle.message_model.specs.Reading.{IsRingOf}
use Rattle.message_model.specs.Requests.{request_at}
use Rattle.message_model.proofs.Fields.{request_seam}
use Rattle.client_core.specs.declared.client.Client.{Client}
use Rattle.client_core.specs.Clients as core
use Rattle.client_core.specs.Clients.{ClientStands, texts_of}
use Rattle.ring_mail.specs.declared.kept.Mail.{Mail}
use Rattle.ring_model.specs.Places.{Place}
use Rattle.ring_mail.specs.Places.{packet_of}
use Rattle.ring_mail.specs.Mails.{IsMail}
use Rattle.ring_world.specs.declared.state.World.{World}
use Rattle.ring_world.specs.Standing.{Standing, Knowing}
use Rattle.ring_world.specs.Crew.{NodesKnown}
use Rattle.ring_world.specs.Worlds.{IsWorld, WorldStands, IsKnown, IsNamed, LabelsHeld, next_request}
use Rattle.ring_world.specs.Steps.{InOrder}
use Rattle.ring_world.proofs.Telling.{of, each_set, client_at}

-- a request more of its client
submitted : {N : Type 0} (stands : Standing N) (g : Ring) (w : World N) (v : Model) (done : List Place) (c : ℕ) (text : List ℕ) (new : Client) (mail : Mail) → g.owner text ≡ c → c < length w.clients.items
    → ClientStands new g c (filter (of g c) v.submits ++ text ∷ []) (v.got (client c)) → IsMail mail (v.sent ++ asking g (Some text)) done → IsWorld stands g w v done
    → IsWorld stands g (record w { clients = with_item w.clients c new; mail = mail }) (happens g v (Submit text)) done
submitted stands g w v done c text new mail owner low is posted h =
    record {
      small = h.small;
      mail_is = posted;
      members_are = h.members_are;
      client_count = omega (arith, length-set w.clients.items c new, h.client_count);
      clients_stand = each_set (λ k x. ClientStands x g k (filter (of g k) v.submits) (v.got (client k))) (λ k x. ClientStands x g k (filter (of g k) (v.submits ++ text ∷ [])) (v.got (client k))) w.clients.items c g.clients new low
          (subst (λ texts. ClientStands new g c texts (v.got (client c)))
          (sym (filter-append (of g c) v.submits (text ∷ []) ∙ ap (λ b. filter (of g c) v.submits ++ cond b (text ∷ []) []) (eq-eqb (g.owner text) c owner))) is)
          (λ k x other stood. subst (λ texts. ClientStands x g k texts (v.got (client k)))
          (sym (filter-append (of g k) v.submits (text ∷ []) ∙ ap (λ b. filter (of g k) v.submits ++ cond b (text ∷ []) []) (ap (λ o. o == k) owner ∙ other) ∙ append-nil (filter (of g k) v.submits))) stood)
          h.clients_stand;
      recent_is = h.recent_is;
      eight = h.eight;
      going = h.going;
    }

-- how many requests a client submitted
pub numbered_next : {N : Type 0} (stands : Standing N) (g : Ring) (w : World N) (v : Model) (done : List Place) (c : ℕ) (d : Client) → c < length w.clients.items → IsWorld stands g w v done
    → length (get_or w.clients.items c d).requests.items ≡ count_by (of g c) v.submits
numbered_next stands g w v done c d low h =
    sym (length-map (get_or w.clients.items c d).requests.items (λ asked. asked.text)) ∙ ap length (client_at stands g w v done c d (get_or w.clients.items c d) low refl h).requests ∙ length-filter (of g c) v.submits

-- a client's next request is the model's
pub next_is : {N : Type 0} (stands : Standing N) (g : Ring) (w : World N) (v : Model) (done : List Place) (c : ℕ) (label : List ℕ) (update : Update) (d one : Client)
    → c < length w.clients.items → one ≡ get_or w.clients.items c d → IsWorld stands g w v done → core.next_request one label update ≡ next_request g v c label update
next_is stands g w v done c label update d one low is h =
    ap₂ (λ i n. record { client = record { 0 = i }; number = n + 1; label = label; update = update }) (client_at stands g w v done c d one low is h).number
    (ap (λ (k : Client). length k.requests.items) is ∙ numbered_next stands g w v done c d low h)

-- a client submitted the request that the model has next
pub submitted_as : {N : Type 0} (stands : Standing N) (h : List ℕ → List ℕ) (g : Ring) (w : World N) (v : Model) (done : List Place) (c : ℕ) (r next : Asking) (new : Client) (mail : Mail)
    → r ≡ next → r.client.0 ≡ c → IsRingOf h g → IsRequest r → c < length w.clients.items → ClientStands new g c (filter (of g c) v.submits ++ request_string r ∷ []) (v.got (client c))
    → IsMail mail (v.sent ++ asking g (Some (request_string r))) done → IsWorld stands g w v done
    → IsWorld stands g (record w { clients = with_item w.clients c new; mail = mail }) (happens g v (Submit (request_string next))) done
submitted_as {N} stands h g w v done c r next new mail same mine ring allowed low is posted old =
    subst (λ (t : Asking). IsWorld stands g made (happens g v (Submit (request_string t))) done) same
    (submitted stands g w v done c (request_string r) new mail (ring.owners r allowed ∙ mine) low is posted old)
  where
    made : World N
    made = record w { clients = with_item w.clients c new; mail = mail }

-- a faulty member sent bytes
pub forged : {N : Type 0} (stands : Standing N) (g : Ring) (w : World N) (v : Model) (done : List Place) (i : ℕ) (q : Who) (bytes : List ℕ) (mail : Mail)
    → IsMail mail (v.sent ++ packet_of (member i) q bytes ∷ []) done → IsWorld stands g w v done
    → IsWorld stands g (record w { mail = mail }) (happens g v (Forge i q (meaning bytes))) done
forged stands g w v done i q bytes mail posted h =
    record {
      small = h.small;
      mail_is = posted;
      members_are = h.members_are;
      client_count = h.client_count;
      clients_stand = h.clients_stand;
      recent_is = h.recent_is;
      eight = h.eight;
      going = h.going;
    }

-- ---- a request once more

find_both : {X : Type 0} (p q : X → Bool) (xs : List X) → find (λ x. p x && q x) xs ≡ find q (filter p xs)
find_both p q [] = refl
find_both p q (x ∷ xs) =
    elim (p x) as (λ b. cond (b && q x) (Some x) (find (λ x. p x && q x) xs) ≡ find q (cond b (x ∷ filter p xs) (filter p xs))) [
      | true ↦ ap (λ o. cond (q x) (Some x) o) (find_both p q xs)
      | false ↦ find_both p q xs
    ]

-- in a list that is numbered from a number on, the number leads to its place
find_number : {X : Type 0} (f : X → ℕ) (xs : List X) (a k n : ℕ) (x : X) → ((j : ℕ) (y : X) → slice_get xs j ≡ Some y → f y ≡ a + j + 1) → n ≡ a + k + 1 → slice_get xs k ≡ Some x → find (λ y. f y == n) xs ≡ Some x
find_number f [] a k n x each is e = absurd (cc e)
find_number f (y ∷ xs) a zero n x each is e =
    let here : f y ≡ a + 0 + 1 = each 0 y refl in
    ap (λ b. cond b (Some y) (find (λ y. f y == n) xs)) (eq-eqb (f y) n (here ∙ sym is)) ∙ e
find_number f (y ∷ xs) a (suc k) n x each is e =
    let here : f y ≡ a + 0 + 1 = each 0 y refl in
    ap (λ b. cond b (Some y) (find (λ y. f y == n) xs)) (ne_eqb (f y) n (λ same. absurd (omega (arith, same, here, is))))
    ∙ find_number f xs (a + 1) k n x (λ j z h. let g : f z ≡ a + suc j + 1 = each (suc j) z h in omega (arith, g)) (omega (arith, is)) e

-- those that pass a test hold what follows from it
filter_holds : {X : Type 0} (t : X → Bool) (P : X → Type 0) → ((x : X) → t x ≡ true → P x) → (xs : List X) → Each P (filter t xs)
filter_holds t P f [] = tt
filter_holds t P f (x ∷ xs) =
    elim (t x) as (λ b. t x ≡ b → Each P (cond b (x ∷ filter t xs) (filter t xs))) [
      | true ↦ λ y. (f x y, filter_holds t P f xs)
      | false ↦ λ _. filter_holds t P f xs
    ] refl

-- the request of a number is the one that the client submitted with it
pub asked_again : (g : Ring) (submits : List (List ℕ)) (c n k : ℕ) (text : List ℕ) → n ≡ k + 1 → slice_get (filter (of g c) submits) k ≡ Some text → InOrder g submits
    → (find (λ r. g.owner r == c && g.number r == n) submits ≡ Some text) × (g.owner text ≡ c)
asked_again g submits c n k text next there order = (
  find_both (of g c) (λ r. g.number r == n) submits ∙ find_number g.number (filter (of g c) submits) 0 k n text (λ j y e. let f = order c j y e in omega (arith, f)) (omega (arith, next)) there,
  Each-at (λ r. g.owner r ≡ c) (filter (of g c) submits) k text (filter_holds (of g c) (λ r. g.owner r ≡ c) (λ r t. eqb-true (g.owner r) c t) submits) there,
)

pub resubmitted : {N : Type 0} (stands : Standing N) (g : Ring) (w : World N) (v : Model) (done : List Place) (c n : ℕ) (text : List ℕ) (mail : Mail)
    → (find (λ r. g.owner r == c && g.number r == n) v.submits ≡ Some text) × (g.owner text ≡ c) → IsMail mail (v.sent ++ to_members g (client c) (Request text)) done → IsWorld stands g w v done
    → IsWorld stands g (record w { mail = mail }) (happens g v (Resubmit c n)) done
resubmitted stands g w v done c n text mail again posted h =
    record {
      small = h.small;
      mail_is = subst (λ xs. IsMail mail (v.sent ++ xs) done) (ap (λ k. to_members g (client k) (Request text)) (sym again.1) ∙ ap (asking g) (sym again.0)) posted;
      members_are = h.members_are;
      client_count = h.client_count;
      clients_stand = h.clients_stand;
      recent_is = h.recent_is;
      eight = h.eight;
      going = h.going;
    }

-- ---- what a book knows

-- strings that are held stay so
held_still : (h : List ℕ → List ℕ) (held now : Held) → Keeps held now → (texts : List (List ℕ)) → Each (IsNamed h held) texts → Each (IsNamed h now) texts
held_still h held now keeps texts is =
    Each-weaker (IsNamed h held) (IsNamed h now) (λ text e. (keeps (h text) text e.0, keeps (h (label_string (request_at text).label)) (label_string (request_at text).label) e.1)) texts is

-- a book that grew knows a world with the same clients, and nodes that it knows
pub known_still : {N : Type 0} (knows : Knowing N) (h : List ℕ → List ℕ) (held now : Held) (w new : World N) → new.clients ≡ w.clients → NodesKnown knows h now new.members → Keeps held now
    → IsKnown knows h held w → IsKnown knows h now new
known_still knows h held now w new same nodes keeps k =
    record {
      nodes = nodes;
      requests = subst (λ (clients : Vec Client Global). (c : ℕ) (d : Client) → c < length clients.items → Each (IsNamed h now) (texts_of (get_or clients.items c d))) (sym same)
          (λ c d low. held_still h held now keeps (texts_of (get_or w.clients.items c d)) (k.requests c d low));
    }

-- and one with a client in another state, whose requests it holds
pub known_more : {N : Type 0} (knows : Knowing N) (h : List ℕ → List ℕ) (held now : Held) (w : World N) (c : ℕ) (new : Client) (mail : Mail)
    → ((node : N) → knows h held node → knows h now node) → Keeps held now → c < length w.clients.items → Each (IsNamed h now) (texts_of new)
    → IsKnown knows h held w → IsKnown knows h now (record w { clients = with_item w.clients c new; mail = mail })
known_more {N = N} knows h held now w c new mail stays keeps low holds k =
    record {
      nodes = λ i n less. if_some (get_or w.members.nodes.items i n) (k.nodes i n less);
      requests = λ j e less.
          each_set (λ i x. Each (IsNamed h held) (texts_of x)) (λ i x. Each (IsNamed h now) (texts_of x)) w.clients.items c (length w.clients.items) new low holds
          (λ i x other is. held_still h held now keeps (texts_of x) is) k.requests j e (omega (arith, less, length-set w.clients.items c new));
    }
  where
    if_some : (node : Option N) → IfSome node (knows h held) → IfSome node (knows h now)
    if_some None is = tt
    if_some (Some one) is = stays one is

-- a request that is held, with its label's string
named_so : (h : List ℕ → List ℕ) (now : Held) (r : Asking) → IsRequest r → Holds h now (request_string r) → Holds h now (label_string r.label) → IsNamed h now (request_string r)
named_so h now r is text label = (text, subst (λ (q : Asking). Holds h now (label_string q.label)) (sym (request_seam r is.places)) label)

-- the strings of a client after one request more
pub texts_more : (h : List ℕ → List ℕ) (held now : Held) (old new : Client) (r : Asking) → texts_of new ≡ texts_of old ++ request_string r ∷ [] → Keeps held now → IsRequest r → Holds h now (request_string r) → Holds h now (label_string r.label)
    → Each (IsNamed h held) (texts_of old) → Each (IsNamed h now) (texts_of new)
texts_more h held now old new r is keeps allowed text label old_held =
    subst (Each (IsNamed h now)) (sym is) (Each-append (IsNamed h now) (texts_of old) (request_string r ∷ []) (held_still h held now keeps (texts_of old) old_held) (named_so h now r allowed text label, tt))

-- a client that submitted nothing has no strings
pub none_held : (h : List ℕ → List ℕ) (held : Held) (one : Client) → length one.requests.items ≡ 0 → Each (IsNamed h held) (texts_of one)
none_held h held one none = empty (texts_of one) (length-map one.requests.items (λ asked. asked.text) ∙ none)
  where
    empty : (texts : List (List ℕ)) → length texts ≡ 0 → Each (IsNamed h held) texts
    empty [] e = tt
    empty (text ∷ texts) e = absurd (omega (arith, e))

-- an item of a list that has one
pub some_item : {X : Type 0} (xs : List X) → 0 < length xs → X
some_item [] low = absurd (omega (arith, low))
some_item (x ∷ xs) low = x

-- each submitted request is held, with its label's string
submits_held : {N : Type 0} (stands : Standing N) (knows : Knowing N) (h : List ℕ → List ℕ) (held : Held) (g : Ring) (w : World N) (events : List Event)
    → IsKnown knows h held w → WorldStands stands g w events → (r : List ℕ) → Contains (world g events).submits r → IsNamed h held r
submits_held stands knows h held g w events k s r there =
    let low : g.owner r < g.clients = Each-there (λ r. g.owner r < g.clients) (world g events).submits r (all_numbered g events s.legal).owners there in
    let mine = there_filter (of g (g.owner r)) (world g events).submits r there (eq-eqb (g.owner r) (g.owner r) refl) in
    let d : Client = some_item w.clients.items (omega (arith, low, s.is.client_count)) in
    Each-there (IsNamed h held) (filter (of g (g.owner r)) (world g events).submits) r
    (subst (Each (IsNamed h held)) (s.is.clients_stand (g.owner r) d low).requests (k.requests (g.owner r) d (omega (arith, low, s.is.client_count)))) mine

-- no two of them have one name
pub submits_apart : {N : Type 0} (stands : Standing N) (knows : Knowing N) (h : List ℕ → List ℕ) (held : Held) (g : Ring) (w : World N) (events : List Event)
    → IsRingOf h g → IsKnown knows h held w → WorldStands stands g w events → NoClash g (world g events).submits
submits_apart stands knows h held g w events ring k s a b one two same =
    let x = submits_held stands knows h held g w events k s a one in
    let y = submits_held stands knows h held g w events k s b two in
    let names : h a ≡ h b = sym (ring.names a) ∙ same ∙ ring.names b in
    same_some a b (sym x.0 ∙ ap (finmap.get held) names ∙ y.0)

-- and the strings of their labels are held
pub labels_held : {N : Type 0} (stands : Standing N) (knows : Knowing N) (h : List ℕ → List ℕ) (held : Held) (g : Ring) (w : World N) (events : List Event)
    → IsKnown knows h held w → WorldStands stands g w events → LabelsHeld h held (world g events).submits
labels_held stands knows h held g w events k s text there = (submits_held stands knows h held g w events k s text there).1
