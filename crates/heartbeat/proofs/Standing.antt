-- Entries that stand for votes, and the votes after one more.
use Rattle.std.proofs.Common.{◌≡◌, ℕ, Bool, true, false, cond, ◌==◌, ◌&&◌, List, [], ◌∷◌, Option, Some, None, refl, ap, sym, subst, ◌∙◌, bytes_eq}
use Rattle.std.specs.Option.{option_or}
use Rattle.std.specs.BTreeMap.{is_at}
use Rattle.std.specs.FinMap.{from_entries}
use Rattle.quorum.specs.Tallies.{said_by}
use Rattle.heartbeat.specs.declared.entry.Entry.{Entry}
use Rattle.heartbeat.specs.Votes.{Vote, value_for, said_of, first_of, believed_then, believed_of}
use Rattle.heartbeat.specs.Boards.{Key, key_cmp, key_of, kept_at, Board, StandsFor, first_at, value_at}
use Rattle.heartbeat.proofs.Keys.{key_ties, same_key, get_kept, kept_is}

-- what a board stands for, read from its entries
pub record Holds (need : ℕ) (es : List (Key × Entry)) (votes : List Vote) : Type 0 where
  pub firsts : (o : List ℕ) (v j : ℕ) → first_at (kept_at es (key_of o v)) j ≡ first_of o v j votes
  pub values : (o : List ℕ) (v : ℕ) → value_at (kept_at es (key_of o v)) ≡ believed_of need o v votes

pub held : (need : ℕ) (b : Board) (es : List (Key × Entry)) (votes : List Vote) → from_entries es ≡ b.entries → StandsFor need b votes → Holds need es votes
held need b es votes same stands = record {
  firsts = λ o v j. ap (λ k. first_at k j) (sym (kept_is b es same o v)) ∙ stands.firsts o v j;
  values = λ o v. ap value_at (sym (kept_is b es same o v)) ∙ stands.values o v;
}

pub standing : (need n : ℕ) (es : List (Key × Entry)) (votes : List Vote) → n ≡ need → Holds need es votes → StandsFor need (record { need = n; entries = from_entries es }) votes
standing need n es votes number holds = record {
  needs = number;
  firsts = λ o v j. ap (λ k. first_at k j) (get_kept es (key_of o v)) ∙ holds.firsts o v j;
  values = λ o v. ap value_at (get_kept es (key_of o v)) ∙ holds.values o v;
}

pub nothing_held : (need : ℕ) (es : List (Key × Entry)) → es ≡ [] → Holds need es []
nothing_held need es empty = record {
  firsts = λ o v j. ap (λ (fs : List (Key × Entry)). first_at (kept_at fs (key_of o v)) j) empty;
  values = λ o v. ap (λ (fs : List (Key × Entry)). value_at (kept_at fs (key_of o v))) empty;
}

-- the votes after one more
pub held_then : (n need : ℕ) (es fs : List (Key × Entry)) (vote : Vote) (votes : List Vote) → n ≡ need
    → ((o : List ℕ) (v j : ℕ) → first_at (kept_at fs (key_of o v)) j ≡ option_or (first_at (kept_at es (key_of o v)) j) (said_of o v j vote))
    → ((o : List ℕ) (v : ℕ) → value_at (kept_at fs (key_of o v)) ≡ believed_then n (value_at (kept_at es (key_of o v))) (first_at (kept_at fs (key_of o v))) (value_for o v vote))
    → Holds need es votes → Holds need fs (vote ∷ votes)
held_then n need es fs vote votes same firsts values holds = record {
  firsts = first;
  values = λ o v.
      values o v
      ∙ ap (λ m. believed_then m (value_at (kept_at es (key_of o v))) (first_at (kept_at fs (key_of o v))) (value_for o v vote)) same
      ∙ ap (λ x. believed_then need x (first_at (kept_at fs (key_of o v))) (value_for o v vote)) (holds.values o v)
      ∙ ap (λ f. believed_then need (believed_of need o v votes) f (value_for o v vote)) (λ i j. first o v j i);
} where
  first : (o : List ℕ) (v j : ℕ) → first_at (kept_at fs (key_of o v)) j ≡ first_of o v j (vote ∷ votes)
  first o v j = firsts o v j ∙ ap (λ x. option_or x (said_of o v j vote)) (holds.firsts o v j)

pub cond_none : {X : Type 0} (b : Bool) → ◌≡◌ {A = Option X} None (cond b None None)
cond_none true = refl
cond_none false = refl

pub or_none : {X : Type 0} (x : Option X) → option_or x None ≡ x
or_none None = refl
or_none (Some x) = refl

-- entries after one is put for a key
module _ (need member : ℕ) (o : List ℕ) (v : ℕ) (value : List ℕ) (es fs : List (Key × Entry)) (new : Entry)
    (put : (k : Key) → kept_at fs k ≡ cond (is_at (key_cmp (key_of o v)) k) (Some new) (kept_at es k)) where
  put_at : (p : List ℕ) (w : ℕ) → kept_at fs (key_of p w) ≡ cond (bytes_eq o p && v == w) (Some new) (kept_at es (key_of p w))
  put_at p w = put (key_of p w) ∙ ap (λ b. cond b (Some new) (kept_at es (key_of p w))) (key_ties o p v w)

  pub put_firsts : ((j : ℕ) → first_at (Some new) j ≡ option_or (first_at (kept_at es (key_of o v)) j) (said_by member value j))
      → (p : List ℕ) (w j : ℕ) → first_at (kept_at fs (key_of p w)) j ≡ option_or (first_at (kept_at es (key_of p w)) j) (said_of p w j (record { member = member; object = o; version = v; value = value }))
  put_firsts firsts p w j = ap (λ k. first_at k j) (put_at p w) ∙ each (bytes_eq o p && v == w) refl
    where
      each : (b : Bool) → (bytes_eq o p && v == w) ≡ b → first_at (cond b (Some new) (kept_at es (key_of p w))) j ≡ option_or (first_at (kept_at es (key_of p w)) j) (cond (member == j) (cond b (Some value) None) None)
      each true e = firsts j ∙ ap (λ k. option_or (first_at (kept_at es k) j) (said_by member value j)) (same_key o p v w e)
      each false e = sym (ap (option_or (first_at (kept_at es (key_of p w)) j)) (sym (cond_none (member == j))) ∙ or_none (first_at (kept_at es (key_of p w)) j))

  pub put_values : value_at (Some new) ≡ believed_then need (value_at (kept_at es (key_of o v))) (first_at (Some new)) (Some value)
      → (p : List ℕ) (w : ℕ) → value_at (kept_at fs (key_of p w)) ≡ believed_then need (value_at (kept_at es (key_of p w))) (first_at (kept_at fs (key_of p w))) (value_for p w (record { member = member; object = o; version = v; value = value }))
  put_values values p w =
      subst (λ k. value_at k ≡ believed_then need (value_at (kept_at es (key_of p w))) (first_at k) (value_for p w (record { member = member; object = o; version = v; value = value })))
      (sym (put_at p w)) (each (bytes_eq o p && v == w) refl)
    where
      each : (b : Bool) → (bytes_eq o p && v == w) ≡ b
          → value_at (cond b (Some new) (kept_at es (key_of p w))) ≡ believed_then need (value_at (kept_at es (key_of p w))) (first_at (cond b (Some new) (kept_at es (key_of p w)))) (cond b (Some value) None)
      each true e = values ∙ ap (λ k. believed_then need (value_at (kept_at es k)) (first_at (Some new)) (Some value)) (same_key o p v w e)
      each false e = sym (or_none (value_at (kept_at es (key_of p w))))
