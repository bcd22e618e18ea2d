-- Places, links and marks as messages come.
use Rattle.std.proofs.Common.{◌≡◌, ℕ, zero, suc, ◌+◌, ◌<◌, ◌≤◌, Bool, true, false, cond, not, ◌&&◌, ◌||◌, nat_eq, List, [], ◌∷◌, ◌++◌, length, map, take, slice_get, get_or, set, Some, None, option_map, ◌⊎◌, inl, inr, Vec, refl, sym, ap, ap₂, ◌∙◌, subst, subst₂, ⊎_elim, arith, filter, find, drop, append-nil, append_assoc}
use Rattle.std.specs.List.{AllByRecursion as Each}
use Rattle.std.specs.declared.alloc.Global.{Global}
use Rattle.bytes.specs.declared.shared.Bytes.{Bytes}
use Rattle.std.proofs.lemmas.Bool.{eqb-true, eq-eqb, and_from, and_parts}
use Rattle.std.proofs.lemmas.Bool.Decides.{nat_tests}
use Rattle.std.proofs.lemmas.List.{length-map, length-set, get_or-set_same, get_or-set_other, map-append}
use Rattle.std.proofs.lemmas.List.Elements.{filter-append}
use Rattle.std.proofs.lemmas.List.Folds.{list_any-append}
use Rattle.std.proofs.Math.Seq.{map-set_same}
use Rattle.std.proofs.lemmas.Option.{slice_get_past, slice_get-get_or, slice_get-map}
use Rattle.ring_model.specs.Messages.{Party as Who, Member as member, Client as client, Packet as Sent, same_party}
use Rattle.ring_model.specs.World.{between}
use Rattle.ring_model.proofs.History.{Each-append, Each-at, same_some}
use Rattle.ring_mail.specs.declared.kept.Kept.{Kept}
use Rattle.ring_mail.specs.declared.kept.Note.{Note}
use Rattle.ring_mail.specs.declared.kept.Mail.{Mail}
use Rattle.ring_model.specs.Seats.{IsSeat}
use Rattle.ring_mail.specs.Places.{seat, link_of, place_of, packet_of}
use Rattle.ring_model.specs.Places.{Place, placed, places, is_done, same_place, delivery}
use Rattle.ring_mail.specs.Mails.{is_marked, number_of, IsLink, AreKept, IsMail}

-- ---- lists

pub slice_left : {X : Type 0} (xs ys : List X) (n : ℕ) (a : X) → slice_get xs n ≡ Some a → slice_get (xs ++ ys) n ≡ Some a
slice_left [] ys n a e = absurd (cc e)
slice_left (x ∷ xs) ys zero a e = e
slice_left (x ∷ xs) ys (suc n) a e = slice_left xs ys n a e

-- the last one of a list, or one before
pub slice_pushed : {X : Type 0} (xs : List X) (y : X) (n : ℕ)
    → ((n ≡ length xs) × (slice_get (xs ++ y ∷ []) n ≡ Some y) × (slice_get xs n ≡ None)) ⊎ ((n ≡ length xs → ⊥) × (slice_get (xs ++ y ∷ []) n ≡ slice_get xs n))
slice_pushed [] y zero = inl (refl, refl, refl)
slice_pushed [] y (suc n) = inr (λ e. absurd (omega arith), refl)
slice_pushed (x ∷ xs) y zero = inr (λ e. absurd (omega arith), refl)
slice_pushed (x ∷ xs) y (suc n) = ⊎_elim (λ h. inl (ap suc h.0, h.1, h.2)) (λ h. inr (λ e. h.0 (omega arith), h.1)) (slice_pushed xs y n)

-- ---- places

pub length-placed : (before xs : List Sent) → length (placed before xs) ≡ length xs
length-placed before [] = refl
length-placed before (x ∷ xs) = ap suc (length-placed (before ++ x ∷ []) xs)

pub placed-append : (before xs ys : List Sent) → placed before (xs ++ ys) ≡ placed before xs ++ placed (before ++ xs) ys
placed-append before [] ys = ap (λ b. placed b ys) (sym (append-nil before))
placed-append before (x ∷ xs) ys =
    ap (λ zs. record { from = x.from; to = x.to; place = length (between x.from x.to before) } ∷ zs)
    (placed-append (before ++ x ∷ []) xs ys ∙ ap (λ b. placed (before ++ x ∷ []) xs ++ placed b ys) (append_assoc before (x ∷ []) xs))

pub filter-short : {X : Type 0} (t : X → Bool) (xs : List X) → length (filter t xs) ≤ length xs
filter-short t [] = omega arith
filter-short t (x ∷ xs) =
    elim (t x) as (λ b. length (cond b (x ∷ filter t xs) (filter t xs)) ≤ suc (length xs)) [
      | true ↦ let h = filter-short t xs in omega arith
      | false ↦ let h = filter-short t xs in omega arith
    ]

-- ---- parties and links

pub same_party-refl : (p : Who) → same_party p p ≡ true
same_party-refl (member i) = eq-eqb i i refl
same_party-refl (client c) = eq-eqb c c refl

pub same_party-true : (p q : Who) → same_party p q ≡ true → p ≡ q
same_party-true (member i) (member j) t = ap member (eqb-true i j t)
same_party-true (client i) (client j) t = ap client (eqb-true i j t)
same_party-true (member i) (client j) t = absurd (cc t)
same_party-true (client i) (member j) t = absurd (cc t)

pub seat-injective : (p q : Who) → IsSeat p → IsSeat q → seat p ≡ seat q → p ≡ q
seat-injective (member i) (member j) a b e = ap member e
seat-injective (client i) (client j) a b e = let f : i ≡ j = omega arith in ap client f
seat-injective (member i) (client j) a b e = absurd (omega arith)
seat-injective (client i) (member j) a b e = absurd (omega arith)

pub seat-low : (p : Who) → IsSeat p → seat p < 26
seat-low (member i) a = omega arith
seat-low (client c) a = omega arith

pub link-injective : (p q u v : Who) → IsSeat p → IsSeat q → IsSeat u → IsSeat v → link_of p q ≡ link_of u v → (p ≡ u) × (q ≡ v)
link-injective p q u v a b c d e =
    let l : seat q < 26 = seat-low q b in
    let m : seat v < 26 = seat-low v d in
    let f : seat p ≡ seat u = omega arith in
    let g : seat q ≡ seat v = omega arith in
    (seat-injective p u a c f, seat-injective q v b d g)

pub link-low : (p q : Who) → IsSeat p → IsSeat q → link_of p q < 676
link-low p q a b =
    let l : seat q < 26 = seat-low q b in
    let m : seat p < 26 = seat-low p a in
    omega arith

abbrev pub Links : Type 0
Links = List (Vec Kept Global)

-- what a link has once another, or this one, is replaced
pub link_set : (links : Links) (v d : Vec Kept Global) (p q u w : Who) → IsSeat p → IsSeat q → IsSeat u → IsSeat w → length links ≡ 676
    → ((p ≡ u) × (q ≡ w) × (get_or (set links (link_of p q) v) (link_of u w) d ≡ v))
    ⊎ (((same_party p u && same_party q w) ≡ false) × (get_or (set links (link_of p q) v) (link_of u w) d ≡ get_or links (link_of u w) d))
link_set links v d p q u w a b e f n =
    elim (same_party p u && same_party q w) as (λ t. (same_party p u && same_party q w) ≡ t
    → ((p ≡ u) × (q ≡ w) × (get_or (set links (link_of p q) v) (link_of u w) d ≡ v)) ⊎ ((t ≡ false) × (get_or (set links (link_of p q) v) (link_of u w) d ≡ get_or links (link_of u w) d))) [
      | true ↦ λ t.
          let parts = and_parts (same_party p u) (same_party q w) t in
          let pu = same_party-true p u parts.0 in
          let qw = same_party-true q w parts.1 in
          let low : link_of p q < length links = omega (arith, link-low p q a b, n) in
          inl (pu, qw, ap₂ (λ x y. get_or (set links (link_of p q) v) (link_of x y) d) (sym pu) (sym qw) ∙ get_or-set_same links (link_of p q) v d low)
      | false ↦ λ t.
          inr (
            refl,
            get_or-set_other links (link_of p q) (link_of u w) v d
                (λ same.
                let parts = link-injective p q u w a b e f (sym same) in
                let t' : (same_party p u && same_party q w) ≡ true =
                and_from (same_party p u) (same_party q w) (subst (λ x. same_party p x ≡ true) parts.0 (same_party-refl p)) (subst (λ x. same_party q x ≡ true) parts.1 (same_party-refl q)) in
                absurd (cc (t, t'))),
          )
    ] refl

-- ---- a link as a message comes

pub marked_push : (kept : List Kept) (e : Kept) (k : ℕ) → e.delivered ≡ false → is_marked (slice_get (kept ++ e ∷ []) k) ≡ is_marked (slice_get kept k)
marked_push [] e zero n = n
marked_push [] e (suc k) n = refl
marked_push (x ∷ kept) e zero n = refl
marked_push (x ∷ kept) e (suc k) n = marked_push kept e k n

-- the places of all messages with one more
pub places_more : (sent : List Sent) (x : Sent) → places (sent ++ x ∷ []) ≡ places sent ++ record { from = x.from; to = x.to; place = length (between x.from x.to sent) } ∷ []
places_more sent x = placed-append [] sent (x ∷ [])

pub link_size : (kept : List Kept) (p q : Who) (sent : List Sent) (done : List Place) → IsLink kept p q sent done → length kept ≡ length (between p q sent)
link_size kept p q sent done h = sym (length-map kept (λ (e : Kept). packet_of p q e.bytes)) ∙ ap length h.messages

numbers_more : (kept : List Kept) (p q : Who) (sent : List Sent) (done : List Place) (x : Sent) (k n : ℕ) → IsLink kept p q sent done → number_of (slice_get kept k) ≡ Some n
    → slice_get (places (sent ++ x ∷ [])) n ≡ Some (record { from = p; to = q; place = k })
numbers_more kept p q sent done x k n h e = ap (λ ps. slice_get ps n) (places_more sent x) ∙ slice_left (places sent) _ n _ (h.numbers k n e)

number_pushed : (kept : List Kept) (e : Kept) (p q : Who) (sent : List Sent) (done : List Place) → e.number ≡ length sent → IsLink kept p q sent done
    → (k n : ℕ) → number_of (slice_get (kept ++ e ∷ []) k) ≡ Some n → slice_get (places (sent ++ packet_of p q e.bytes ∷ [])) n ≡ Some (record { from = p; to = q; place = k })
number_pushed kept e p q sent done last h k n is =
    ⊎_elim
    (λ (s : (k ≡ length kept) × (slice_get (kept ++ e ∷ []) k ≡ Some e) × (slice_get kept k ≡ None)).
    let at : n ≡ length (places sent) = sym (same_some e.number n (sym (ap number_of s.1) ∙ is)) ∙ last ∙ sym (length-placed [] sent) in
    let here : k ≡ length (between p q sent) = s.0 ∙ link_size kept p q sent done h in
    ap (λ ps. slice_get ps n) (places_more sent (packet_of p q e.bytes)) ∙ ap (slice_get (places sent ++ record { from = p; to = q; place = length (between p q sent) } ∷ [])) at
    ∙ slice_end (places sent) (record { from = p; to = q; place = length (between p q sent) }) ∙ ap (λ k. Some (record { from = p; to = q; place = k })) (sym here))
    (λ s. numbers_more kept p q sent done (packet_of p q e.bytes) k n h (sym (ap number_of s.1) ∙ is))
    (slice_pushed kept e k)
  where
    slice_end : {X : Type 0} (xs : List X) (y : X) → slice_get (xs ++ y ∷ []) (length xs) ≡ Some y
    slice_end [] y = refl
    slice_end (x ∷ xs) y = slice_end xs y

pub link_pushed : (kept : List Kept) (e : Kept) (p q : Who) (sent : List Sent) (done : List Place) → e.delivered ≡ false → e.number ≡ length sent → IsLink kept p q sent done
    → IsLink (kept ++ e ∷ []) p q (sent ++ packet_of p q e.bytes ∷ []) done
link_pushed kept e p q sent done n last h =
    record {
      messages =
          map-append (λ (e : Kept). packet_of p q e.bytes) kept (e ∷ [])
          ∙ ap (λ xs. xs ++ packet_of p q e.bytes ∷ []) h.messages
          ∙ sym
          (filter-append (λ (x : Sent). same_party x.from p && same_party x.to q) sent (packet_of p q e.bytes ∷ [])
          ∙ ap (λ b. between p q sent ++ cond b (packet_of p q e.bytes ∷ []) []) (and_from (same_party p p) (same_party q q) (same_party-refl p) (same_party-refl q)));
      marks = λ k. marked_push kept e k n ∙ h.marks k;
      numbers = number_pushed kept e p q sent done last h;
    }

pub link_passed : (kept : List Kept) (x : Sent) (p q : Who) (sent : List Sent) (done : List Place) → (same_party x.from p && same_party x.to q) ≡ false → IsLink kept p q sent done
    → IsLink kept p q (sent ++ x ∷ []) done
link_passed kept x p q sent done t h =
    record {
      messages =
          h.messages ∙ sym
          (filter-append (λ (x : Sent). same_party x.from p && same_party x.to q) sent (x ∷ [])
          ∙ ap (λ b. between p q sent ++ cond b (x ∷ []) []) t ∙ append-nil (between p q sent));
      marks = h.marks;
      numbers = λ k n e. numbers_more kept p q sent done x k n h e;
    }

-- ---- a link as a message is delivered

or_true : (b : Bool) → (b || true) ≡ true
or_true true = refl
or_true false = refl

or_false : (b : Bool) → (b || false) ≡ b
or_false true = refl
or_false false = refl

first_apart : (k : ℕ) → nat_eq 0 (suc k) ≡ false
first_apart k = grind (arith, nat_tests)

apart_first : (k : ℕ) → nat_eq (suc k) 0 ≡ false
apart_first k = grind (arith, nat_tests)

both_later : (at k : ℕ) → nat_eq at k ≡ nat_eq (suc at) (suc k)
both_later at k = grind (arith, nat_tests)

or_no : (b t : Bool) → t ≡ false → b ≡ (b || t)
or_no b t e = sym (or_false b) ∙ ap (λ t. b || t) (sym e)

pub marked_set : (kept : List Kept) (at : ℕ) (e : Kept) (k : ℕ) → at < length kept → e.delivered ≡ true
    → is_marked (slice_get (set kept at e) k) ≡ (is_marked (slice_get kept k) || nat_eq at k)
marked_set [] at e k low is = absurd (omega arith)
marked_set (x ∷ kept) zero e zero low is = is ∙ sym (or_true x.delivered)
marked_set (x ∷ kept) zero e (suc k) low is = or_no (is_marked (slice_get kept k)) (nat_eq 0 (suc k)) (first_apart k)
marked_set (x ∷ kept) (suc at) e zero low is = or_no x.delivered (nat_eq (suc at) 0) (apart_first at)
marked_set (x ∷ kept) (suc at) e (suc k) low is =
    let less : at < length kept = omega arith in
    marked_set kept at e k less is ∙ ap (λ b. is_marked (slice_get kept k) || b) (both_later at k)

pub bytes_set : (p q : Who) (kept : List Kept) (at : ℕ) (e d : Kept) → e.bytes ≡ (get_or kept at d).bytes → map (λ (e : Kept). packet_of p q e.bytes) (set kept at e) ≡ map (λ (e : Kept). packet_of p q e.bytes) kept
bytes_set p q kept at e d same = map-set_same (λ (e : Kept). packet_of p q e.bytes) kept at e d (ap (packet_of p q) same)

numbers_set : (kept : List Kept) (at : ℕ) (e d : Kept) (k : ℕ) → e.number ≡ (get_or kept at d).number → number_of (slice_get (set kept at e) k) ≡ number_of (slice_get kept k)
numbers_set [] at e d k same = refl
numbers_set (x ∷ kept) zero e d zero same = ap Some same
numbers_set (x ∷ kept) zero e d (suc k) same = refl
numbers_set (x ∷ kept) (suc at) e d zero same = refl
numbers_set (x ∷ kept) (suc at) e d (suc k) same = numbers_set kept at e d k same

pub link_marked : (kept : List Kept) (at : ℕ) (e d : Kept) (p q : Who) (sent : List Sent) (done : List Place) → at < length kept → e.delivered ≡ true → e.bytes ≡ (get_or kept at d).bytes → e.number ≡ (get_or kept at d).number → IsLink kept p q sent done
    → IsLink (set kept at e) p q sent (done ++ record { from = p; to = q; place = at } ∷ [])
link_marked kept at e d p q sent done low is same number h =
    record { messages = bytes_set p q kept at e d same ∙ h.messages; marks = marks; numbers = λ k n e'. h.numbers k n (sym (numbers_set kept at e d k number) ∙ e') }
  where
    a : Place
    a = record { from = p; to = q; place = at }

    marks : (k : ℕ) → is_marked (slice_get (set kept at e) k) ≡ is_done (done ++ a ∷ []) (record { from = p; to = q; place = k })
    marks k =
        marked_set kept at e k low is
        ∙ ap (λ b. b || nat_eq at k) (h.marks k)
        ∙ ap (λ b. is_done done (record { from = p; to = q; place = k }) || b) (sym (or_false (nat_eq at k)))
        ∙ ap (λ b. is_done done (record { from = p; to = q; place = k }) || ((b && nat_eq at k) || false)) (sym (and_from (same_party p p) (same_party q q) (same_party-refl p) (same_party-refl q)))
        ∙ sym (list_any-append (λ b. same_place b (record { from = p; to = q; place = k })) done (a ∷ []))

pub link_other : (kept : List Kept) (a : Place) (p q : Who) (sent : List Sent) (done : List Place) → (same_party a.from p && same_party a.to q) ≡ false → IsLink kept p q sent done
    → IsLink kept p q sent (done ++ a ∷ [])
link_other kept a p q sent done t h =
    record {
      messages = h.messages;
      marks = λ k.
          h.marks k
          ∙ sym (or_false (is_done done (record { from = p; to = q; place = k })))
          ∙ ap (λ b. is_done done (record { from = p; to = q; place = k }) || ((b && nat_eq a.place k) || false)) (sym t)
          ∙ sym (list_any-append (λ b. same_place b (record { from = p; to = q; place = k })) done (a ∷ []));
      numbers = h.numbers;
    }

-- ---- the first places

-- what stands further on is not looked at
pub take_front : {X : Type 0} (P : X → Type 0) (xs ys : List X) (i : ℕ) → i ≤ length xs → Each P (take i xs) → Each P (take i (xs ++ ys))
take_front P xs ys zero low h = tt
take_front P [] ys (suc i) low h = absurd (omega arith)
take_front P (z ∷ xs) ys (suc i) low h = (h.0, take_front P xs ys i (omega arith) h.1)

pub take_weaker : {X : Type 0} (P Q : X → Type 0) (xs : List X) (i : ℕ) → ((x : X) → P x → Q x) → Each P (take i xs) → Each Q (take i xs)
take_weaker P Q [] zero f h = tt
take_weaker P Q [] (suc i) f h = tt
take_weaker P Q (z ∷ xs) zero f h = tt
take_weaker P Q (z ∷ xs) (suc i) f h = (f z h.0, take_weaker P Q xs i f h.1)

-- one place more
pub take_then : {X : Type 0} (P : X → Type 0) (xs : List X) (i : ℕ) (x : X) → Each P (take i xs) → slice_get xs i ≡ Some x → P x → Each P (take (suc i) xs)
take_then P [] i x h e p = tt
take_then P (z ∷ xs) zero x h e p = (subst P (sym (same_some z x e)) p, tt)
take_then P (z ∷ xs) (suc i) x h e p = (h.0, take_then P xs i x h.1 e p)

-- what was delivered stays so
pub done_still : (done more : List Place) (a : Place) → is_done done a ≡ true → is_done (done ++ more) a ≡ true
done_still done more a e = list_any-append (λ b. same_place b a) done more ∙ ap (λ b. b || is_done more a) e

pub front_within : (m : Mail) (sent : List Sent) (done : List Place) → IsMail m sent done → m.front ≤ length (places sent)
front_within m sent done h =
    let size : length m.order.items ≡ length (places sent) = sym (length-map m.order.items place_of) ∙ ap length h.kept.order_is in
    omega (arith, size, m.within)

-- the notes are as many as the messages
pub all_sent : (m : Mail) (sent : List Sent) (done : List Place) → IsMail m sent done → length m.order.items ≡ length sent
all_sent m sent done h = sym (length-map m.order.items place_of) ∙ ap length h.kept.order_is ∙ length-placed [] sent

-- ---- all links

pub mail_pushed : (m : Mail) (n : ℕ) (v d e : Vec Kept Global) (o : Vec Note Global) (p q : Who) (bytes : Bytes Global) (number : ℕ) (note : Note) (sent : List Sent) (done : List Place)
    → IsSeat p → IsSeat q → n ≡ link_of p q → v.items ≡ (get_or m.links.items n d).items ++ record { bytes = bytes; number = number; delivered = false } ∷ []
    → number ≡ length m.order.items → o.items ≡ m.order.items ++ note ∷ [] → place_of note ≡ record { from = p; to = q; place = length (get_or m.links.items n e).items } → IsMail m sent done
    → AreKept (set m.links.items n v) o.items m.front (sent ++ packet_of p q bytes ∷ []) done
mail_pushed m n v d e o p q bytes number note sent done a b at is last more place h =
    record {
      count = length-set m.links.items n v ∙ h.kept.count;
      links_are = λ u w x c f.
          subst (λ n. IsLink (get_or (set m.links.items n v) (link_of u w) x).items u w (sent ++ packet_of p q bytes ∷ []) done) (sym at)
          (⊎_elim
          (λ (s : (p ≡ u) × (q ≡ w) × (get_or (set m.links.items (link_of p q) v) (link_of u w) x ≡ v)).
          subst (λ xs. IsLink xs u w (sent ++ packet_of p q bytes ∷ []) done) (sym (ap (λ (v : Vec Kept Global). v.items) s.2 ∙ is))
          (subst₂ (λ u w. IsLink ((get_or m.links.items n d).items ++ record { bytes = bytes; number = number; delivered = false } ∷ []) u w (sent ++ packet_of p q bytes ∷ []) done) s.0 s.1
          (link_pushed (get_or m.links.items n d).items (record { bytes = bytes; number = number; delivered = false }) p q sent done refl (last ∙ all_sent m sent done h)
          (subst (λ n. IsLink (get_or m.links.items n d).items p q sent done) (sym at) (h.kept.links_are p q d a b)))))
          (λ s.
          subst (λ (v : Vec Kept Global). IsLink v.items u w (sent ++ packet_of p q bytes ∷ []) done) (sym s.1)
          (link_passed (get_or m.links.items (link_of u w) x).items (packet_of p q bytes) u w sent done s.0 (h.kept.links_are u w x c f)))
          (link_set m.links.items v x p q u w a b c f h.kept.count));
      order_is =
          ap (map place_of) more ∙ map-append place_of m.order.items (note ∷ []) ∙ ap (λ xs. xs ++ place_of note ∷ []) h.kept.order_is
          ∙ ap (λ x. places sent ++ x ∷ []) (place ∙ ap (λ k. record { from = p; to = q; place = k }) size)
          ∙ sym (placed-append [] sent (packet_of p q bytes ∷ []));
      seats = Each-append (λ x. IsSeat x.from × IsSeat x.to) sent (packet_of p q bytes ∷ []) h.kept.seats ((a, b), tt);
      front_done =
          subst (λ xs. Each (λ a. is_done done a ≡ true) (take m.front xs)) (sym (placed-append [] sent (packet_of p q bytes ∷ [])))
          (take_front (λ a. is_done done a ≡ true) (places sent) (placed sent (packet_of p q bytes ∷ [])) m.front (front_within m sent done h) h.kept.front_done);
    }
  where
    size : length (get_or m.links.items n e).items ≡ length (between p q sent)
    size = ap (λ n. length (get_or m.links.items n e).items) at ∙ sym (length-map (get_or m.links.items (link_of p q) e).items (λ (e : Kept). packet_of p q e.bytes)) ∙ ap length (h.kept.links_are p q e a b).messages

-- where there is a message, the delivery counts
pub delivery_there : (sent : List Sent) (a : Place) (x : Sent) → slice_get (between a.from a.to sent) a.place ≡ Some x → delivery sent a ≡ a ∷ []
delivery_there sent a x e = rw e refl

pub delivery_none : (sent : List Sent) (a : Place) → slice_get (between a.from a.to sent) a.place ≡ None → delivery sent a ≡ []
delivery_none sent a e = rw e refl

pub link_elsewhere : (kept : List Kept) (a : Place) (p q : Who) (sent : List Sent) (done : List Place) → (same_party a.from p && same_party a.to q) ≡ false → IsLink kept p q sent done
    → IsLink kept p q sent (done ++ delivery sent a)
link_elsewhere kept a p q sent done t h =
    elim (slice_get (between a.from a.to sent) a.place) as (λ o. slice_get (between a.from a.to sent) a.place ≡ o → IsLink kept p q sent (done ++ delivery sent a)) [
      | None ↦ λ e. subst (λ ds. IsLink kept p q sent (done ++ ds)) (sym (delivery_none sent a e)) (subst (IsLink kept p q sent) (sym (append-nil done)) h)
      | Some x ↦ λ e. subst (λ ds. IsLink kept p q sent (done ++ ds)) (sym (delivery_there sent a x e)) (link_other kept a p q sent done t h)
    ] refl

pub link_value : (kept : List Kept) (at : ℕ) (d : Kept) (p q : Who) (sent : List Sent) (done : List Place) → at < length kept → IsLink kept p q sent done
    → slice_get (between p q sent) at ≡ Some (packet_of p q (get_or kept at d).bytes)
link_value kept at d p q sent done low h =
    sym (ap (λ xs. slice_get xs at) h.messages) ∙ slice_get-map (λ (e : Kept). packet_of p q e.bytes) kept at ∙ ap (option_map (λ (e : Kept). packet_of p q e.bytes)) (slice_get-get_or kept at d low)

pub link_past : (kept : List Kept) (at : ℕ) (p q : Who) (sent : List Sent) (done : List Place) → length kept ≤ at → IsLink kept p q sent done → slice_get (between p q sent) at ≡ None
link_past kept at p q sent done past h =
    let size : length kept ≡ length (between p q sent) = sym (length-map kept (λ (e : Kept). packet_of p q e.bytes)) ∙ ap length h.messages in
    slice_get_past (between p q sent) at (omega (arith, size, past))

pub link_left : (kept : List Kept) (at : ℕ) (p q : Who) (sent : List Sent) (done : List Place) → length kept ≤ at → IsLink kept p q sent done
    → IsLink kept p q sent (done ++ delivery sent (record { from = p; to = q; place = at }))
link_left kept at p q sent done past h =
    subst (λ ds. IsLink kept p q sent (done ++ ds)) (sym (delivery_none sent (record { from = p; to = q; place = at }) (link_past kept at p q sent done past h))) (subst (IsLink kept p q sent) (sym (append-nil done)) h)

pub mail_delivered : (m : Mail) (n : ℕ) (v d : Vec Kept Global) (p q : Who) (k : ℕ) (sent : List Sent) (done : List Place)
    → IsSeat p → IsSeat q → n ≡ link_of p q
    → ((sent : List Sent) → (done : List Place) → IsLink (get_or m.links.items n d).items p q sent done → IsLink v.items p q sent (done ++ delivery sent (record { from = p; to = q; place = k })))
    → IsMail m sent done
    → AreKept (set m.links.items n v) m.order.items m.front sent (done ++ delivery sent (record { from = p; to = q; place = k }))
mail_delivered m n v d p q k sent done a b at is h =
    record {
      count = length-set m.links.items n v ∙ h.kept.count;
      links_are = λ u w e c f.
          subst (λ n. IsLink (get_or (set m.links.items n v) (link_of u w) e).items u w sent (done ++ delivery sent (record { from = p; to = q; place = k }))) (sym at)
          (⊎_elim
          (λ (s : (p ≡ u) × (q ≡ w) × (get_or (set m.links.items (link_of p q) v) (link_of u w) e ≡ v)).
          subst (λ (v : Vec Kept Global). IsLink v.items u w sent (done ++ delivery sent (record { from = p; to = q; place = k }))) (sym s.2)
          (subst₂ (λ u w. IsLink v.items u w sent (done ++ delivery sent (record { from = p; to = q; place = k }))) s.0 s.1
          (is sent done (subst (λ n. IsLink (get_or m.links.items n d).items p q sent done) (sym at) (h.kept.links_are p q d a b)))))
          (λ s.
          subst (λ (v : Vec Kept Global). IsLink v.items u w sent (done ++ delivery sent (record { from = p; to = q; place = k }))) (sym s.1)
          (link_elsewhere (get_or m.links.items (link_of u w) e).items (record { from = p; to = q; place = k }) u w sent done s.0 (h.kept.links_are u w e c f)))
          (link_set m.links.items v e p q u w a b c f h.kept.count));
      order_is = h.kept.order_is;
      seats = h.kept.seats;
      front_done = take_weaker (λ a. is_done done a ≡ true) (λ a. is_done (done ++ delivery sent (record { from = p; to = q; place = k })) a ≡ true) (places sent) m.front
          (λ a. done_still done (delivery sent (record { from = p; to = q; place = k })) a) h.kept.front_done;
    }

-- a link is not longer than the list
pub link_short : (m : Mail) (n : ℕ) (d : Vec Kept Global) (p q : Who) (sent : List Sent) (done : List Place) → IsSeat p → IsSeat q → n ≡ link_of p q → IsMail m sent done → length (get_or m.links.items n d).items ≤ length sent
link_short m n d p q sent done a b at h =
    let size : length (get_or m.links.items n d).items ≡ length (between p q sent) =
    ap (λ n. length (get_or m.links.items n d).items) at ∙ sym (length-map (get_or m.links.items (link_of p q) d).items (λ (e : Kept). packet_of p q e.bytes)) ∙ ap length (h.kept.links_are p q d a b).messages in
    let short = filter-short (λ (x : Sent). same_party x.from p && same_party x.to q) sent in
    omega arith

pub link_found : (m : Mail) (n : ℕ) (v d : Vec Kept Global) (p q : Who) (sent : List Sent) (done : List Place) → IsSeat p → IsSeat q → n ≡ link_of p q → v ≡ get_or m.links.items n d → IsMail m sent done → IsLink v.items p q sent done
link_found m n v d p q sent done a b at is h =
    subst (λ (v : Vec Kept Global). IsLink v.items p q sent done) (sym is) (subst (λ n. IsLink (get_or m.links.items n d).items p q sent done) (sym at) (h.kept.links_are p q d a b))

-- ---- the first place that passes a test

pub find_here : {X : Type 0} (t : X → Bool) (xs : List X) (i : ℕ) (x : X) → slice_get xs i ≡ Some x → t x ≡ true → find t (drop i xs) ≡ Some x
find_here t [] i x e y = absurd (cc e)
find_here t (z ∷ xs) zero x e y = let same : z ≡ x = cc e in ap (λ b. cond b (Some z) (find t xs)) (ap t same ∙ y) ∙ ap Some same
find_here t (z ∷ xs) (suc i) x e y = find_here t xs i x e y

pub find_later : {X : Type 0} (t : X → Bool) (xs : List X) (i : ℕ) (x : X) → slice_get xs i ≡ Some x → t x ≡ false → find t (drop i xs) ≡ find t (drop (i + 1) xs)
find_later t [] i x e n = absurd (cc e)
find_later t (z ∷ xs) zero x e n = let same : z ≡ x = cc e in ap (λ b. cond b (Some z) (find t xs)) (ap t same ∙ n)
find_later t (z ∷ xs) (suc i) x e n = find_later t xs i x e n ∙ ap (λ k. find t (drop k (z ∷ xs))) next
  where
    next : suc (i + 1) ≡ suc i + 1
    next = omega arith

-- the first places do not pass
pub find_behind : {X : Type 0} (t : X → Bool) (xs : List X) (i : ℕ) → Each (λ x. t x ≡ false) (take i xs) → find t xs ≡ find t (drop i xs)
find_behind t [] zero h = refl
find_behind t [] (suc i) h = refl
find_behind t (z ∷ xs) zero h = refl
find_behind t (z ∷ xs) (suc i) h = ap (λ b. cond b (Some z) (find t xs)) h.0 ∙ find_behind t xs i h.1

pub find_past : {X : Type 0} (t : X → Bool) (xs : List X) (i : ℕ) → length xs ≤ i → find t (drop i xs) ≡ None
find_past t [] zero low = refl
find_past t [] (suc i) low = refl
find_past t (z ∷ xs) zero low = absurd (omega arith)
find_past t (z ∷ xs) (suc i) low = find_past t xs i (omega arith)

-- the parties of a place are those of its message
pub placed_seats : (before xs : List Sent) → Each (λ x. IsSeat x.from × IsSeat x.to) xs → Each (λ (a : Place). IsSeat a.from × IsSeat a.to) (placed before xs)
placed_seats before [] h = tt
placed_seats before (x ∷ xs) h = (h.0, placed_seats (before ++ x ∷ []) xs h.1)

pub noted : (m : Mail) (i : ℕ) (d : Note) (sent : List Sent) (done : List Place) → i < length m.order.items → IsMail m sent done → slice_get (places sent) i ≡ Some (place_of (get_or m.order.items i d))
noted m i d sent done low h = sym (ap (λ xs. slice_get xs i) h.kept.order_is) ∙ slice_get-map place_of m.order.items i ∙ ap (option_map place_of) (slice_get-get_or m.order.items i d low)

pub noted_seats : (m : Mail) (i : ℕ) (d : Note) (sent : List Sent) (done : List Place) → i < length m.order.items → IsMail m sent done
    → IsSeat (place_of (get_or m.order.items i d)).from × IsSeat (place_of (get_or m.order.items i d)).to
noted_seats m i d sent done low h =
    Each-at (λ (a : Place). IsSeat a.from × IsSeat a.to) (places sent) i (place_of (get_or m.order.items i d)) (placed_seats [] sent h.kept.seats) (noted m i d sent done low h)

abbrev pub undone : List Place → Place → Bool
undone done a = not (is_done done a)

-- what `is_delivered` answers of a note
abbrev pub Tells : Mail → Bool → Note → Type 0
Tells m b n = (sent : List Sent) (done : List Place) → IsMail m sent done → IsSeat (place_of n).from → IsSeat (place_of n).to → b ≡ is_done done (place_of n)

pub pending_front : (m : Mail) (sent : List Sent) (done : List Place) → IsMail m sent done → find (undone done) (places sent) ≡ find (undone done) (drop m.front (places sent))
pending_front m sent done h =
    find_behind (undone done) (places sent) m.front (take_weaker (λ a. is_done done a ≡ true) (λ a. undone done a ≡ false) (places sent) m.front (λ a e. ap not e) h.kept.front_done)

pub pending_here : (m : Mail) (i : ℕ) (n : Note) (b : Bool) (sent : List Sent) (done : List Place) → i < length m.order.items → n ≡ get_or m.order.items i n → Tells m b n → b ≡ false → IsMail m sent done
    → find (undone done) (drop i (places sent)) ≡ Some (place_of n)
pending_here m i n b sent done low is tells not_yet h =
    let seats = noted_seats m i n sent done low h in
    let there = noted m i n sent done low h ∙ ap (λ n. Some (place_of n)) (sym is) in
    find_here (undone done) (places sent) i (place_of n) there
    (ap not (sym (tells sent done h (subst (λ n. IsSeat (place_of n).from) (sym is) seats.0) (subst (λ n. IsSeat (place_of n).to) (sym is) seats.1)) ∙ not_yet))

pub pending_later : (m : Mail) (i : ℕ) (n : Note) (b : Bool) (sent : List Sent) (done : List Place) → i < length m.order.items → n ≡ get_or m.order.items i n → Tells m b n → b ≡ true → IsMail m sent done
    → find (undone done) (drop i (places sent)) ≡ find (undone done) (drop (i + 1) (places sent))
pending_later m i n b sent done low is tells was h =
    let seats = noted_seats m i n sent done low h in
    let there = noted m i n sent done low h ∙ ap (λ n. Some (place_of n)) (sym is) in
    find_later (undone done) (places sent) i (place_of n) there
    (ap not (sym (tells sent done h (subst (λ n. IsSeat (place_of n).from) (sym is) seats.0) (subst (λ n. IsSeat (place_of n).to) (sym is) seats.1)) ∙ was))

pub pending_past : (m : Mail) (i : ℕ) (sent : List Sent) (done : List Place) → length m.order.items ≤ i → IsMail m sent done → find (undone done) (drop i (places sent)) ≡ None
pending_past m i sent done past h =
    let size : length m.order.items ≡ length (places sent) = sym (length-map m.order.items place_of) ∙ ap length h.kept.order_is in
    find_past (undone done) (places sent) i (omega (arith, size, past))

-- one more of the first messages was delivered
pub front_more : (m : Mail) (n : Note) (b : Bool) (sent : List Sent) (done : List Place) → m.front < length m.order.items → n ≡ get_or m.order.items m.front n → Tells m b n → b ≡ true → IsMail m sent done
    → AreKept m.links.items m.order.items (m.front + 1) sent done
front_more m n b sent done low is tells was h =
    let seats = noted_seats m m.front n sent done low h in
    let there = noted m m.front n sent done low h ∙ ap (λ n. Some (place_of n)) (sym is) in
    let given = sym (tells sent done h (subst (λ n. IsSeat (place_of n).from) (sym is) seats.0) (subst (λ n. IsSeat (place_of n).to) (sym is) seats.1)) ∙ was in
    let next : suc m.front ≡ m.front + 1 = omega arith in
    record {
      count = h.kept.count;
      links_are = h.kept.links_are;
      order_is = h.kept.order_is;
      seats = h.kept.seats;
      front_done = subst (λ k. Each (λ a. is_done done a ≡ true) (take k (places sent))) next (take_then (λ a. is_done done a ≡ true) (places sent) m.front (place_of n) h.kept.front_done there given);
    }
