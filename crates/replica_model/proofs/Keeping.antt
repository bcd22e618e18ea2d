-- What stands in caches after offers and walks: what stood there before, and what was named and had the right name.
use Rattle.std.proofs.Common.{◌≡◌, ◌<◌, ℕ, zero, suc, Bool, true, false, List, [], ◌∷◌, Option, Some, None, Contains, cond, length, nat_le, ◌||◌, take, slice_get, slice_set, if◌then◌else◌, refl, ap, sym, subst, ◌∙◌, arith}
use Rattle.std.proofs.lemmas.List.Elements.{Contains-append_left, Contains-append_right}
use Rattle.std.specs.FinMap as map_of
use Rattle.std.specs.Option.{option_map}
use Rattle.std.specs.Str.{bytes_eq}
use Rattle.replica_model.specs.Caches.{Entries, kept_as, without, touched}
use Rattle.replica_model.specs.Replicas.{Replica, with_entries, with_last, changed_at, CachesHold, parents_of, above}
use Rattle.replica_model.specs.Offers.{Answers, Offer, given, after_names, own, put_front, taken_in, unless_cut, taken_from, own_or, offered_up, offered, fetched}
use Rattle.replica_model.specs.Pushes.{Pushed, last_at, taking, refused, taken_if_newer, pushed}
use Rattle.replica_model.specs.declared.places.Last.{Last}
use Rattle.replica_model.specs.declared.places.Push.TheVariants.{Behind, Cut}
use Rattle.replica_model.proofs.Chaining.{chain_begins}
use Rattle.replica_model.specs.Walks.{tree_depth, Walk, Step, unmoved, then_walked, counted, cached_at, stepped, in_order, walked, below}
use Rattle.replica_model.specs.declared.places.Place.{Place}
use Rattle.replica_model.specs.declared.places.Place.TheVariants.{Member, Replica as At}
use Rattle.replica_model.proofs.Caching.{same_name, found_without, touched_finds}

found_in_take : (other : List ℕ) (n : ℕ) (entries : Entries) (bytes : List ℕ) → kept_as (take n entries) other ≡ Some bytes → kept_as entries other ≡ Some bytes
found_in_take other zero entries bytes e = cc
found_in_take other (suc n) [] bytes e = cc
found_in_take other (suc n) (x ∷ xs) bytes e = by (bytes_eq other x.0) e (found_in_take other n xs bytes) where
  by : (b : Bool) → cond b (Some x.1) (kept_as (take n xs) other) ≡ Some bytes → (kept_as (take n xs) other ≡ Some bytes → kept_as xs other ≡ Some bytes) → cond b (Some x.1) (kept_as xs other) ≡ Some bytes
  by true e more = e
  by false e more = more e

some_is : (a b : List ℕ) → Some a ≡ Some b → a ≡ b
some_is a b e = cc

none_some : (b : List ℕ) → None ≡ Some b → ⊥
none_some b e = cc

second_is : (a b : List ℕ × Replica) → Some a ≡ Some b → a.1 ≡ b.1
second_is a b e = let same : a ≡ b = cc in ap (λ (x : List ℕ × Replica). x.1) same

no_pair : (b : List ℕ × Replica) → None ≡ Some b → ⊥
no_pair b e = cc

some_parents : (replicas : List Replica) (r : ℕ) (it : Replica) → slice_get replicas r ≡ Some it → 0 < length (parents_of replicas)
some_parents [] r it e = cc
some_parents (x ∷ xs) r it e = omega arith

first_there : (x : List ℕ) (xs : List (List ℕ)) → Contains (x ∷ xs) x
first_there x xs = (0, omega arith, refl)

module _ (IsSo : List ℕ → List ℕ → Type 0) where
  abbrev KeptIn : Replica → Type 0
  KeptIn it = (name bytes : List ℕ) → kept_as it.cache.entries name ≡ Some bytes → IsSo name bytes

  put_keeps : (it : Replica) (name bytes : List ℕ) → KeptIn it → IsSo name bytes → KeptIn (put_front name bytes it)
  put_keeps it name bytes kept so other found e =
      let there = found_in_take other it.cache.size ((name, bytes) ∷ without it.cache.entries name) found e in
      by (bytes_eq other name) refl there where
        by : (b : Bool) → bytes_eq other name ≡ b → cond b (Some bytes) (kept_as (without it.cache.entries name) other) ≡ Some found → IsSo other found
        by true same is = subst (λ n. IsSo n found) (sym (same_name other name same)) (subst (IsSo name) (some_is bytes found is) so)
        by false apart is = kept other found (sym (found_without name other apart it.cache.entries) ∙ is)

  touch_keeps : (it : Replica) (name : List ℕ) → KeptIn it → KeptIn (with_entries it (touched it.cache.entries name))
  touch_keeps it name kept other found e = kept other found (sym (touched_finds it.cache.entries name other) ∙ e)

  set_keeps : (replicas : List Replica) (r : ℕ) (it : Replica) → CachesHold IsSo replicas → KeptIn it → CachesHold IsSo (slice_set replicas r it)
  set_keeps [] r it all kept = all
  set_keeps (x ∷ xs) zero it all kept = (kept, all.1)
  set_keeps (x ∷ xs) (suc r) it all kept = (all.0, set_keeps xs r it all.1 kept)

  pub at_keeps : (replicas : List Replica) (r : ℕ) (it : Replica) → CachesHold IsSo replicas → slice_get replicas r ≡ Some it → KeptIn it
  at_keeps [] r it all e = cc
  at_keeps (x ∷ xs) zero it all e = let same : x ≡ it = cc in subst KeptIn same all.0
  at_keeps (x ∷ xs) (suc r) it all e = at_keeps xs r it all.1 e

  pub changed_keeps : (replicas : List Replica) (r : ℕ) (change : Replica → Replica) → CachesHold IsSo replicas → ((it : Replica) → KeptIn it → KeptIn (change it)) → CachesHold IsSo (changed_at replicas r change)
  changed_keeps replicas r change all keeps = by (slice_get replicas r) refl where
    by : (o : Option Replica) → slice_get replicas r ≡ o → CachesHold IsSo (elim o as (λ _. List Replica) [ None ↦ replicas | Some it ↦ slice_set replicas r (change it) ])
    by None e = all
    by (Some it) e = set_keeps replicas r (change it) all (keeps it (at_keeps replicas r it all e))

  cached_so : (replicas : List Replica) (r : ℕ) (name bytes : List ℕ) → CachesHold IsSo replicas → cached_at replicas r name ≡ Some bytes → IsSo name bytes
  cached_so replicas r name bytes all e = by (slice_get replicas r) refl e where
    by : (o : Option Replica) → slice_get replicas r ≡ o → (elim o as (λ _. Option (List ℕ)) [ None ↦ None | Some it ↦ kept_as it.cache.entries name ]) ≡ Some bytes → IsSo name bytes
    by None at is = absurd (none_some bytes is)
    by (Some it) at is = at_keeps replicas r it all at name bytes is

module _ (h : List ℕ → List ℕ) (Known : List ℕ → Type 0) (answers : Answers) where
  -- a known string of the name
  abbrev pub IsRight : List ℕ → List ℕ → Type 0
  IsRight name bytes = (h bytes ≡ name) × Known bytes

  abbrev pub AllKnown : List (List ℕ) → Type 0
  AllKnown strings = (s : List ℕ) → Contains strings s → Known s

  -- where all that is named is known, caches hold known strings still, and so does what is taken in
  pub record Right (name : List ℕ) (offer : Offer) : Type 0 where
    pub held : CachesHold IsRight offer.replicas
    pub came : (bytes : List ℕ) → offer.string ≡ Some bytes → IsRight name bytes

  taken_right : (name : List ℕ) (r : ℕ) (came : Option (List ℕ)) (replicas : List Replica) → CachesHold IsRight replicas → AllKnown (taken_in h name r came replicas).named → Right name (taken_in h name r came replicas)
  taken_right name r None replicas all known = record { held = all; came = λ bytes e. absurd (none_some bytes e) }
  taken_right name r (Some string) replicas all known = by (bytes_eq (h string) name) refl where
    by : (b : Bool) → bytes_eq (h string) name ≡ b → Right name (after_names (string ∷ []) (if b then given (Some string) (changed_at replicas r (put_front name string)) else given None replicas))
    by true e =
        let right : IsRight name string = (same_name (h string) name e, known string (first_there string (if bytes_eq (h string) name then given (Some string) (changed_at replicas r (put_front name string)) else given None replicas).named)) in
        record {
          held = changed_keeps IsRight replicas r (put_front name string) all (λ it kept. put_keeps IsRight it name string kept right);
          came = λ bytes is. subst (IsRight name) (some_is string bytes is) right;
        }
    by false e = record { held = all; came = λ bytes is. absurd (none_some bytes is) }

  from_right : (name : List ℕ) (r : ℕ) (came : Offer) → (AllKnown came.named → CachesHold IsRight came.replicas)
      → AllKnown (after_names came.named (taken_in h name r came.string came.replicas)).named → Right name (after_names came.named (taken_in h name r came.string came.replicas))
  from_right name r came keeps known =
      let t : Offer = taken_in h name r came.string came.replicas in
      let right = taken_right name r came.string came.replicas (keeps (λ s c. known s (Contains-append_left came.named t.named s c))) (λ s c. known s (Contains-append_right came.named t.named s c)) in
      record { held = right.held; came = right.came }

  unless_keeps : (places : List Place) (replicas : List Replica) (offer : Offer) → CachesHold IsRight replicas → (AllKnown offer.named → CachesHold IsRight offer.replicas)
      → AllKnown (unless_cut answers places replicas offer).named → CachesHold IsRight (unless_cut answers places replicas offer).replicas
  unless_keeps [] replicas offer all keeps = λ known. all
  unless_keeps (place ∷ places) replicas offer all keeps = by (answers.cut place) where
    by : (b : Bool) → AllKnown (if b then given None replicas else offer).named → CachesHold IsRight (if b then given None replicas else offer).replicas
    by true known = all
    by false known = keeps known

  own_kept : (it : Replica) (name : List ℕ) (found : List ℕ × Replica) → KeptIn IsRight it → own it name ≡ Some found → KeptIn IsRight found.1
  own_kept it name found kept e = by (map_of.get it.lies name) (kept_as it.cache.entries name) e where
    by : (l k : Option (List ℕ)) → (elim l as (λ _. Option (List ℕ × Replica)) [ Some bytes ↦ Some (bytes, it) | None ↦ option_map (λ (bytes : List ℕ). (bytes, with_entries it (touched it.cache.entries name))) k ]) ≡ Some found → KeptIn IsRight found.1
    by (Some bytes) k is = subst (KeptIn IsRight) (second_is (bytes, it) found is) kept
    by None (Some bytes) is = subst (KeptIn IsRight) (second_is (bytes, with_entries it (touched it.cache.entries name)) found is) (touch_keeps IsRight it name kept)
    by None None is = absurd (no_pair found is)

  own_keeps : (name : List ℕ) (r : ℕ) (replicas : List Replica) (otherwise : Offer) → CachesHold IsRight replicas → (AllKnown otherwise.named → CachesHold IsRight otherwise.replicas)
      → AllKnown (own_or replicas name r otherwise).named → CachesHold IsRight (own_or replicas name r otherwise).replicas
  own_keeps name r replicas otherwise all keeps = by (slice_get replicas r) refl where
    inner : (it : Replica) → KeptIn IsRight it → (w : Option (List ℕ × Replica)) → own it name ≡ w
        → AllKnown (elim w as (λ _. Offer) [ Some found ↦ given (Some found.0) (slice_set replicas r found.1) | None ↦ otherwise ]).named
        → CachesHold IsRight (elim w as (λ _. Offer) [ Some found ↦ given (Some found.0) (slice_set replicas r found.1) | None ↦ otherwise ]).replicas
    inner it kept (Some found) e known = set_keeps IsRight replicas r found.1 all (own_kept it name found kept e)
    inner it kept None e known = keeps known

    by : (o : Option Replica) → slice_get replicas r ≡ o
        → AllKnown (elim o as (λ _. Offer) [ None ↦ given None replicas | Some it ↦ elim (own it name) [ Some found ↦ given (Some found.0) (slice_set replicas r found.1) | None ↦ otherwise ] ]).named
        → CachesHold IsRight (elim o as (λ _. Offer) [ None ↦ given None replicas | Some it ↦ elim (own it name) [ Some found ↦ given (Some found.0) (slice_set replicas r found.1) | None ↦ otherwise ] ]).replicas
    by None e known = all
    by (Some it) e known = inner it (at_keeps IsRight replicas r it all e) (own it name) refl known

  pub up_keeps : (name : List ℕ) (places : List Place) (replicas : List Replica) → CachesHold IsRight replicas → AllKnown (offered_up h answers name places replicas).named → CachesHold IsRight (offered_up h answers name places replicas).replicas
  unfolding offered_up
  up_keeps name [] replicas all = λ known. all
  up_keeps name (Member member ∷ places) replicas all = λ known. all
  up_keeps name (At r ∷ places) replicas all =
      let offer : Offer = offered_up h answers name places replicas in
      own_keeps name r replicas (taken_from h answers name r places replicas offer) all
      (λ known. (from_right name r (unless_cut answers places replicas offer) (unless_keeps places replicas offer all (up_keeps name places replicas all)) known).held)

  pub fetched_right : (places : List Place) (r : ℕ) (name : List ℕ) (replicas : List Replica) → CachesHold IsRight replicas → AllKnown (fetched h answers places r name replicas).named → Right name (fetched h answers places r name replicas)
  unfolding fetched
  fetched_right places r name replicas all known =
      let offer : Offer = offered_up h answers name places replicas in
      from_right name r (unless_cut answers places replicas offer) (unless_keeps places replicas offer all (up_keeps name places replicas all)) known

  -- the same of a walk
  pub record StepIsRight (name : List ℕ) (step : Step) : Type 0 where
    pub held : CachesHold IsRight step.walk.replicas
    pub came : (bytes : List ℕ) → step.string ≡ Some bytes → IsRight name bytes

  pub stepped_right : (places : List Place) (r : ℕ) (name : List ℕ) (replicas : List Replica) → CachesHold IsRight replicas → AllKnown (stepped h answers places r name replicas).walk.named → StepIsRight name (stepped h answers places r name replicas)
  unfolding stepped
  stepped_right places r name replicas all = by (cached_at replicas r name) refl where
    offer : Offer
    offer = fetched h answers places r name replicas

    by : (o : Option (List ℕ)) → cached_at replicas r name ≡ o
        → AllKnown (elim o as (λ _. Step) [ Some bytes ↦ record { string = Some bytes; walk = unmoved replicas } | None ↦ record { string = (fetched h answers places r name replicas).string; walk = counted (fetched h answers places r name replicas) } ]).walk.named
        → StepIsRight name (elim o as (λ _. Step) [ Some bytes ↦ record { string = Some bytes; walk = unmoved replicas } | None ↦ record { string = (fetched h answers places r name replicas).string; walk = counted (fetched h answers places r name replicas) } ])
    by (Some bytes) e known = record { held = all; came = λ found is. subst (IsRight name) (some_is bytes found is) (cached_so IsRight replicas r name bytes all e) }
    by None e known = let right = fetched_right places r name replicas all known in record { held = right.held; came = right.came }

  pub in_order_keeps : (walk : List ℕ → List Replica → Walk) → ((name : List ℕ) (replicas : List Replica) → CachesHold IsRight replicas → AllKnown (walk name replicas).named → CachesHold IsRight (walk name replicas).replicas)
      → (names : List (List ℕ)) (replicas : List Replica) → CachesHold IsRight replicas → AllKnown (in_order walk names replicas).named → CachesHold IsRight (in_order walk names replicas).replicas
  in_order_keeps walk each [] replicas all known = all
  in_order_keeps walk each (name ∷ names) replicas all known =
      let first : Walk = walk name replicas in
      let more : Walk = in_order walk names first.replicas in
      in_order_keeps walk each names first.replicas (each name replicas all (λ s c. known s (Contains-append_left first.named more.named s c))) (λ s c. known s (Contains-append_right first.named more.named s c))

  pub walked_keeps : (places : List Place) (r depth : ℕ) (name : List ℕ) (replicas : List Replica) → CachesHold IsRight replicas → AllKnown (walked h answers places r depth name replicas).named
      → CachesHold IsRight (walked h answers places r depth name replicas).replicas
  unfolding walked
  walked_keeps places r zero name replicas all = λ known. all
  walked_keeps places r (suc depth) name replicas all = by (stepped h answers places r name replicas) (λ k. (stepped_right places r name replicas all k).held) (walked_keeps places r depth) where
    by : (step : Step) → (AllKnown step.walk.named → CachesHold IsRight step.walk.replicas)
        → ((name : List ℕ) (replicas : List Replica) → CachesHold IsRight replicas → AllKnown (walked h answers places r depth name replicas).named → CachesHold IsRight (walked h answers places r depth name replicas).replicas)
        → AllKnown (elim step.string as (λ _. Walk) [ None ↦ step.walk | Some bytes ↦ then_walked step.walk (in_order (walked h answers places r depth) (below bytes)) ]).named
        → CachesHold IsRight (elim step.string as (λ _. Walk) [ None ↦ step.walk | Some bytes ↦ then_walked step.walk (in_order (walked h answers places r depth) (below bytes)) ]).replicas
    by step keeps each = cases step.string where
      cases : (o : Option (List ℕ)) → AllKnown (elim o as (λ _. Walk) [ None ↦ step.walk | Some bytes ↦ then_walked step.walk (in_order (walked h answers places r depth) (below bytes)) ]).named
          → CachesHold IsRight (elim o as (λ _. Walk) [ None ↦ step.walk | Some bytes ↦ then_walked step.walk (in_order (walked h answers places r depth) (below bytes)) ]).replicas
      cases None known = keeps known
      cases (Some bytes) known =
          let more : Walk = in_order (walked h answers places r depth) (below bytes) step.walk.replicas in
          in_order_keeps (walked h answers places r depth) each (below bytes) step.walk.replicas (keeps (λ s c. known s (Contains-append_left step.walk.named more.named s c))) (λ s c. known s (Contains-append_right step.walk.named more.named s c))

  pub pushed_keeps : (replicas : List Replica) (r : ℕ) (label : List ℕ) → CachesHold IsRight replicas → AllKnown (pushed h answers replicas r label).named → CachesHold IsRight (pushed h answers replicas r label).replicas
  unfolding pushed
  pushed_keeps replicas r label all = by (slice_get (parents_of replicas) r) where
    newer : (mine theirs : Last) (b : Bool) → AllKnown (if b then refused (Behind mine.version theirs.version) replicas else taking h answers replicas r label theirs).named
        → CachesHold IsRight (if b then refused (Behind mine.version theirs.version) replicas else taking h answers replicas r label theirs).replicas
    newer mine theirs true known = all
    newer mine theirs false known =
        let walk : Walk = walked h answers (above replicas r) r tree_depth theirs.name replicas in
        changed_keeps IsRight walk.replicas r (with_last label theirs) (walked_keeps (above replicas r) r tree_depth theirs.name replicas all known) (λ it kept. kept)

    uncut : (parent : Place) (b : Bool) → AllKnown (if b then refused Cut replicas else taken_if_newer h answers replicas r label (last_at answers replicas (At r) label) (last_at answers replicas parent label)).named
        → CachesHold IsRight (if b then refused Cut replicas else taken_if_newer h answers replicas r label (last_at answers replicas (At r) label) (last_at answers replicas parent label)).replicas
    uncut parent true known = all
    uncut parent false known =
        newer (last_at answers replicas (At r) label) (last_at answers replicas parent label) (nat_le (last_at answers replicas parent label).version.0 (last_at answers replicas (At r) label).version.0) known

    by : (o : Option Place) → AllKnown (elim o as (λ _. Pushed) [
      | None ↦ refused Cut replicas
      | Some parent ↦
          if answers.cut (At r) || answers.cut parent then refused Cut replicas
          else taken_if_newer h answers replicas r label (last_at answers replicas (At r) label) (last_at answers replicas parent label)
    ]).named → CachesHold IsRight (elim o as (λ _. Pushed) [
      | None ↦ refused Cut replicas
      | Some parent ↦
          if answers.cut (At r) || answers.cut parent then refused Cut replicas
          else taken_if_newer h answers replicas r label (last_at answers replicas (At r) label) (last_at answers replicas parent label)
    ]).replicas
    by None known = all
    by (Some parent) known = uncut parent (answers.cut (At r) || answers.cut parent) known

  own_right : (name : List ℕ) (r : ℕ) (replicas : List Replica) (it : Replica) (otherwise : Offer) → slice_get replicas r ≡ Some it → map_of.get it.lies name ≡ None → KeptIn IsRight it
      → ((bytes : List ℕ) → otherwise.string ≡ Some bytes → IsRight name bytes) → (bytes : List ℕ) → (own_or replicas name r otherwise).string ≡ Some bytes → IsRight name bytes
  own_right name r replicas it otherwise at lie kept other bytes e = by (kept_as it.cache.entries name) refl (sym opened ∙ e) where
    opened : (own_or replicas name r otherwise).string ≡ (elim (option_map {U = List ℕ × Replica} (λ (b : List ℕ). (b, with_entries it (touched it.cache.entries name))) (kept_as it.cache.entries name)) as (λ _. Offer) [ Some found ↦ given (Some found.0) (slice_set replicas r found.1) | None ↦ otherwise ]).string
    opened = rw (at, own_or) (rw (lie, own) refl)

    by : (k : Option (List ℕ)) → kept_as it.cache.entries name ≡ k → (elim (option_map {U = List ℕ × Replica} (λ (b : List ℕ). (b, with_entries it (touched it.cache.entries name))) k) as (λ _. Offer) [ Some found ↦ given (Some found.0) (slice_set replicas r found.1) | None ↦ otherwise ]).string ≡ Some bytes → IsRight name bytes
    by (Some found) is e = kept name bytes (is ∙ e)
    by None is e = other bytes e

  pub offered_right : (replicas : List Replica) (r : ℕ) (it : Replica) (name bytes : List ℕ) → CachesHold IsRight replicas → slice_get replicas r ≡ Some it → map_of.get it.lies name ≡ None
      → AllKnown (fetched h answers (above replicas r) r name replicas).named → (offered h answers replicas r name).string ≡ Some bytes → IsRight name bytes
  unfolding offered_up fetched
  offered_right replicas r it name bytes all at lie known e =
      let places : List Place = above replicas r in
      let begins = chain_begins (parents_of replicas) (At r) (some_parents replicas r it at) in
      own_right name r replicas it (fetched h answers places r name replicas) at lie (at_keeps IsRight replicas r it all at) (fetched_right places r name replicas all known).came bytes
      (ap (λ (ps : List Place). (offered_up h answers name ps replicas).string) (sym begins) ∙ e)

-- of a wider kind
pub holds_wider : (P Q : List ℕ → List ℕ → Type 0) (replicas : List Replica) → ((name bytes : List ℕ) → P name bytes → Q name bytes) → CachesHold P replicas → CachesHold Q replicas
holds_wider P Q [] more all = all
holds_wider P Q (it ∷ replicas) more all = ((λ name bytes e. more name bytes (all.0 name bytes e)), holds_wider P Q replicas more all.1)
