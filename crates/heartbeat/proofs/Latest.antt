-- The greatest version that has a value, found along votes and along entries.
use Rattle.std.proofs.Common.{◌≡◌, ℕ, ◌≤◌, Bool, true, false, cond, ◌==◌, ◌&&◌, ◌||◌, nat_le, List, [], ◌∷◌, Option, Some, None, is_some, refl, ap, sym, subst, ◌∙◌, arith, bytes_eq}
use Rattle.std.specs.Option.{option_or}
use Rattle.std.specs.List.{All, AllByRecursion}
use Rattle.std.proofs.lemmas.Bool.Decides.{nat_tests}
use Rattle.std.proofs.lemmas.List.Elements.{recursion_from_All}
use Rattle.std.proofs.lemmas.Slice.Eq.{bytes_eq-Decides}
use Rattle.ring_model.proofs.History.{same_some}
use Rattle.pond_base.specs.declared.numbers.Version.{Version}
use Rattle.heartbeat.specs.declared.entry.Entry.{Entry}
use Rattle.heartbeat.specs.Votes.{Vote, first_of, believed_then, believed_of, later_value, latest_of, newest_of}
use Rattle.heartbeat.specs.Boards.{Key, key_of, kept_at, value_at}
use Rattle.heartbeat.specs.Newest.{later_of, newest_among}
use Rattle.heartbeat.proofs.Keys.{key_ties}
use Rattle.heartbeat.proofs.Standing.{Holds}

-- the greatest of the versions of a set that have a value
abbrev pub IsTop : (ℕ → Option (List ℕ)) → (ℕ → Bool) → Option (Version × List ℕ) → Type 0
IsTop values set None = (v : ℕ) → set v ≡ true → is_some (values v) ≡ false
IsTop values set (Some p) = (values p.0.0 ≡ Some p.1) × ((v : ℕ) → set v ≡ true → is_some (values v) ≡ true → v ≤ p.0.0)

module _ (values : ℕ → Option (List ℕ)) where
  -- it is so of a smaller set that has all versions with a value
  pub smaller : (set less : ℕ → Bool) → ((v : ℕ) → less v ≡ true → set v ≡ true) → (o : Option (Version × List ℕ)) → IsTop values set o → IsTop values less o
  smaller set less within None top = λ v e. top v (within v e)
  smaller set less within (Some p) top = (top.0, λ v e. top.1 v (within v e))

  -- two that are the greatest of all are one
  pub one_top : (o p : Option (Version × List ℕ)) → IsTop values (λ v. is_some (values v)) o → IsTop values (λ v. is_some (values v)) p → o ≡ p
  one_top None None a b = refl
  one_top None (Some q) a b = let there = ap is_some b.0 in absurd (cc (sym there ∙ a q.0.0 there))
  one_top (Some p) None a b = let there = ap is_some a.0 in absurd (cc (sym there ∙ b p.0.0 there))
  one_top (Some p) (Some q) a b =
      let low : q.0.0 ≤ p.0.0 = a.1 q.0.0 (ap is_some b.0) (ap is_some b.0) in
      let high : p.0.0 ≤ q.0.0 = b.1 p.0.0 (ap is_some a.0) (ap is_some a.0) in
      let numbers : p.0.0 ≡ q.0.0 = omega (arith, low, high) in
      let both : p.1 ≡ q.1 = same_some p.1 q.1 (sym a.0 ∙ ap values numbers ∙ b.0) in
      ap (λ n. one (record { 0 = n }) p.1) numbers ∙ ap (one q.0) both
    where
      one : Version → List ℕ → Option (Version × List ℕ)
      one n x = Some (n, x)

  -- one version more
  module _ (set own : ℕ → Bool) (n : Version) where
    abbrev More : ℕ → Bool
    More v = own v || set v

    either : (P : Type 0) (v : ℕ) → (own v ≡ true → P) → (set v ≡ true → P) → More v ≡ true → P
    either P v a b e = each (own v) refl e
      where
        each : (c : Bool) → own v ≡ c → (c || set v) ≡ true → P
        each true t e = a t
        each false t e = b e

    top_step : (before : Option (Version × List ℕ)) (x : Option (List ℕ)) → ((v : ℕ) → own v ≡ true → (v ≡ n.0) × (x ≡ values n.0)) → ((y : List ℕ) → x ≡ Some y → values n.0 ≡ Some y)
        → IsTop values set before → IsTop values More (later_value before n x)
    top_step None None here sound top = λ v. either _ v (λ t. ap (λ m. is_some (values m)) (here v t).0 ∙ sym (ap is_some (here v t).1)) (top v)
    top_step (Some p) None here sound top =
        (top.0, λ v e s. either _ v (λ t. absurd (cc (sym s ∙ ap (λ m. is_some (values m)) (here v t).0 ∙ sym (ap is_some (here v t).1)))) (λ t. top.1 v t s) e)
    top_step None (Some y) here sound top =
        (sound y refl, λ v e s. either _ v (λ t. let same = (here v t).0 in omega (arith, same)) (λ t. absurd (cc (sym s ∙ top v t))) e)
    top_step (Some p) (Some y) here sound top = each (nat_le p.0.0 n.0) refl
      where
        each : (b : Bool) → nat_le p.0.0 n.0 ≡ b → IsTop values More (cond b (Some (n, y)) (Some p))
        each true t =
            let low : p.0.0 ≤ n.0 = grind (arith, nat_tests, t) in
            (sound y refl, λ v e s. either _ v (λ t. let same = (here v t).0 in omega (arith, same)) (λ t. omega (arith, low, top.1 v t s)) e)
        each false t =
            let low : n.0 ≤ p.0.0 = grind (arith, nat_tests, t) in
            (top.0, λ v e s. either _ v (λ t. let same = (here v t).0 in omega (arith, same, low)) (λ t. top.1 v t s) e)

-- whether some vote is for a version of an object
abbrev heard : List ℕ → List Vote → ℕ → Bool
heard o [] v = false
heard o (vote ∷ votes) v = (bytes_eq vote.object o && vote.version == v) || heard o votes v

-- a version with a believed value was heard of
believed_heard : (need : ℕ) (o : List ℕ) (v : ℕ) (votes : List Vote) → is_some (believed_of need o v votes) ≡ true → heard o votes v ≡ true
believed_heard need o v [] e = absurd (cc e)
believed_heard need o v (vote ∷ votes) e = each (bytes_eq vote.object o && vote.version == v) (believed_heard need o v votes) e
  where
    older : (x : Option (List ℕ)) → is_some (option_or x None) ≡ true → is_some x ≡ true
    older None e = e
    older (Some x) e = refl

    each : (b : Bool) → (is_some (believed_of need o v votes) ≡ true → heard o votes v ≡ true) → is_some (believed_then need (believed_of need o v votes) (λ j. first_of o v j (vote ∷ votes)) (cond b (Some vote.value) None)) ≡ true → (b || heard o votes v) ≡ true
    each true rest e = refl
    each false rest e = rest (older (believed_of need o v votes) e)

both_true : (a b : Bool) → (a && b) ≡ true → (a ≡ true) × (b ≡ true)
both_true true true e = (refl, refl)
both_true true false e = absurd (cc e)
both_true false b e = absurd (cc e)

top_of : (need : ℕ) (o : List ℕ) (all votes : List Vote) → IsTop (λ v. believed_of need o v all) (heard o votes) (latest_of need o all votes)
top_of need o all [] = λ v e. absurd (cc e)
top_of need o all (vote ∷ votes) =
    top_step (λ v. believed_of need o v all) (heard o votes) (λ v. bytes_eq vote.object o && vote.version == v) (record { 0 = vote.version }) (latest_of need o all votes) _
    (λ v t. let own = both_true (bytes_eq vote.object o) (vote.version == v) t in (grind (arith, nat_tests, own.1), ap (λ b. cond b (believed_of need o vote.version all) None) own.0))
    (λ y. each (bytes_eq vote.object o) y) (top_of need o all votes)
  where
    each : (b : Bool) (y : List ℕ) → cond b (believed_of need o vote.version all) None ≡ Some y → believed_of need o vote.version all ≡ Some y
    each true y e = e
    each false y e = absurd (cc e)

-- the newest of votes is the greatest version with a believed value
pub newest_top : (need : ℕ) (o : List ℕ) (votes : List Vote) → IsTop (λ v. believed_of need o v votes) (λ v. is_some (believed_of need o v votes)) (newest_of need o votes)
newest_top need o votes = smaller (λ v. believed_of need o v votes) (heard o votes) _ (λ v. believed_heard need o v votes) (newest_of need o votes) (top_of need o votes votes)

-- whether some entry is for a version of an object
abbrev stored : List ℕ → List (Key × Entry) → ℕ → Bool
stored o [] v = false
stored o (e ∷ es) v = (bytes_eq o e.0.0 && v == e.0.1.0) || stored o es v

-- a version with a value has an entry
valued_stored : (o : List ℕ) (v : ℕ) (es : List (Key × Entry)) → is_some (value_at (kept_at es (key_of o v))) ≡ true → stored o es v ≡ true
valued_stored o v [] t = absurd (cc t)
valued_stored o v (e ∷ es) t = each (bytes_eq o e.0.0 && v == e.0.1.0) (valued_stored o v es) (sym (ap (λ b. is_some (value_at (cond b (Some e.1) (kept_at es (key_of o v))))) (key_ties o e.0.0 v e.0.1.0)) ∙ t)
  where
    each : (b : Bool) → (is_some (value_at (kept_at es (key_of o v))) ≡ true → stored o es v ≡ true) → is_some (value_at (cond b (Some e.1) (kept_at es (key_of o v)))) ≡ true → (b || stored o es v) ≡ true
    each true rest t = refl
    each false rest t = rest t

module _ (o : List ℕ) (all : List (Key × Entry)) where
  abbrev kept_value : ℕ → Option (List ℕ)
  kept_value v = value_at (kept_at all (key_of o v))

  top_among : (es : List (Key × Entry)) (set : ℕ → Bool) (before : Option (Version × List ℕ)) → AllByRecursion (λ e. kept_at all e.0 ≡ Some e.1) es
      → IsTop kept_value set before → IsTop kept_value (λ v. stored o es v || set v) (newest_among o before es)
  top_among [] set before found top = top
  top_among (e ∷ es) set before found top =
      smaller kept_value _ _ (λ v. turn (bytes_eq o e.0.0 && v == e.0.1.0) (stored o es v) (set v)) (newest_among o (later_of o before e) es)
      (top_among es (λ v. (bytes_eq o e.0.0 && v == e.0.1.0) || set v) (later_of o before e) found.1
      (top_step kept_value set (λ v. bytes_eq o e.0.0 && v == e.0.1.0) e.0.1 before _ here sound top))
    where
      turn : (a b c : Bool) → ((a || b) || c) ≡ true → (b || (a || c)) ≡ true
      turn a true c t = refl
      turn true false c t = refl
      turn false false c t = t

      own : e.0.0 ≡ o → kept_value e.0.1.0 ≡ e.1.accepted
      own same = ap (λ x. value_at (kept_at all (key_of x e.0.1.0))) (sym same) ∙ ap value_at found.0

      here : (v : ℕ) → (bytes_eq o e.0.0 && v == e.0.1.0) ≡ true → (v ≡ e.0.1.0) × (cond (bytes_eq e.0.0 o) e.1.accepted None ≡ kept_value e.0.1.0)
      here v t =
          let both = both_true (bytes_eq o e.0.0) (v == e.0.1.0) t in
          let same = sym ((bytes_eq-Decides o e.0.0).0 both.0) in
          (grind (arith, nat_tests, both.1), ap (λ b. cond b e.1.accepted None) ((bytes_eq-Decides e.0.0 o).1 same) ∙ sym (own same))

      sound : (y : List ℕ) → cond (bytes_eq e.0.0 o) e.1.accepted None ≡ Some y → kept_value e.0.1.0 ≡ Some y
      sound y = each (bytes_eq e.0.0 o) refl
        where
          each : (b : Bool) → bytes_eq e.0.0 o ≡ b → cond b e.1.accepted None ≡ Some y → kept_value e.0.1.0 ≡ Some y
          each true t s = own ((bytes_eq-Decides e.0.0 o).0 t) ∙ s
          each false t s = absurd (cc s)

or_no : (a : Bool) → a ≡ true → (a || false) ≡ true
or_no true e = refl
or_no false e = e

-- what is found along entries that stand for votes is the newest of these
pub newest_is : (need : ℕ) (o : List ℕ) (es : List (Key × Entry)) (votes : List Vote) → All (λ e. kept_at es e.0 ≡ Some e.1) es → Holds need es votes
    → newest_among o None es ≡ newest_of need o votes
newest_is need o es votes found holds =
    one_top (λ v. believed_of need o v votes) (newest_among o None es) (newest_of need o votes)
    (subst (λ f. IsTop f (λ v. is_some (f v)) (newest_among o None es)) (λ i v. holds.values o v i)
    (smaller (kept_value o es) (λ v. stored o es v || false) _ (λ v t. or_no (stored o es v) (valued_stored o v es t)) (newest_among o None es) (top_among o es es (λ v. false) None (recursion_from_All (λ e. kept_at es e.0 ≡ Some e.1) es found) (λ v t. absurd (cc t)))))
    (newest_top need o votes)
