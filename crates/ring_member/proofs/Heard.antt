-- What is owed for a request from its client.
use Rattle.std.proofs.Common.{◌≡◌, ℕ, ◌+◌, ◌<◌, ◌≤◌, Bool, true, false, cond, ◌==◌, List, [], ◌∷◌, ◌++◌, flat_map, Option, Some, None, is_some, bytes_eq, nat_cmp, refl, sym, ap, ap₂, ◌∙◌, arith}
use Rattle.std.specs.List.{list_any}
use Rattle.std.specs.List.Sorted.{IsStrictlySortedBy}
use Rattle.std.specs.Map.{lookup, keys_of}
use Rattle.std.specs.BTreeMap.{is_at}
use Rattle.std.proofs.lemmas.Slice.Eq.{bytes_eq-Decides}
use Rattle.quorum.specs.declared.phase.Phase.TheVariants as phase
use Rattle.ring_model.specs.Messages.{Ring, Letter, Prepare, Commit}
use Rattle.ring_model.specs.History.{is_name}
use Rattle.ring_model.specs.Member.{asks}
use Rattle.ring_member.specs.Views.{View, inner, is_order, is_voted, Hears}
use Rattle.ring_member.specs.Standing.{request_of, Live, Stands}
use Rattle.ring_member.specs.Told.{votes_told, prepare_heard, commit_heard}
use Rattle.ring_member.proofs.Letters.{hear_live}
use Rattle.ring_member.proofs.Telling.{told_is, flat_same, prepare_new, commit_new, prepare_heard_is, commit_heard_is}
use Rattle.ring_member.proofs.Rising.{not_there, rising, flat_rising, edges_from}

-- a request that was heard before has its name already
pub heard_again : (g : Ring) (f : ℕ) (v : View) (got : List Letter) (r n : List ℕ) → Live g f v got → is_some (v.name r) ≡ true → n ≡ g.h r → Hears v r n v
heard_again g f v got r n live there name = record {
  votes_are = refl;
  slots = λ s. refl;
  names = λ q. same q (bytes_eq r q) refl;
  done_is = refl;
} where
  there_name : (b : Bool) → v.name r ≡ cond b (Some (g.h r)) None → v.name r ≡ Some n
  there_name true e = e ∙ ap Some (sym name)
  there_name false e = absurd (cc (sym there ∙ ap is_some e))

  same : (q : List ℕ) (b : Bool) → bytes_eq r q ≡ b → v.name q ≡ cond (bytes_eq r q) (Some n) (v.name q)
  same q true e = ap v.name (sym ((bytes_eq-Decides r q).0 e)) ∙ there_name (list_any (asks g r) got) (live.named r) ∙ sym (ap (λ b. cond b (Some n) (v.name q)) e)
  same q false e = sym (ap (λ b. cond b (Some n) (v.name q)) e)

pub request_told : (g : Ring) (f : ℕ) (v w : View) (got : List Letter) (r n : List ℕ) (es : List (ℕ × Option (List ℕ))) → Stands g f v got → v.name r ≡ None → Hears v r n w → n ≡ g.h r → g.owner r < g.clients
    → ((s : ℕ) → v.slot s ≡ lookup (is_at (nat_cmp s)) es) → IsStrictlySortedBy nat_cmp (keys_of es)
    → flat_map (prepare_heard w r n) (keys_of es) ++ flat_map (commit_heard f w r n) (keys_of es) ≡ votes_told g got (request_of g r ∷ got)
request_told g f v w got r n es st new does name party slots sorted =
    let ks = keys_of es in
    let none : (s : ℕ) → w.slot s ≡ None → is_order w r s ≡ false = λ s e. ap (λ o. is_name r (inner o)) e in
    let prepare_none : (s : ℕ) → w.slot s ≡ None → prepare_heard w r n s ≡ [] = λ s e. ap (λ b. cond b (Prepare s n ∷ []) []) (none s e) in
    let commit_none : (s : ℕ) → w.slot s ≡ None → commit_heard f w r n s ≡ [] = λ s e. ap (λ b. cond b (cond (is_voted f phase.Prepare w s n) (Commit s n ∷ []) []) []) (none s e) in
    let low : (s : ℕ) → s < 1 → w.slot s ≡ None = λ s h. does.slots s ∙ st.live.dropped s (omega arith) in
    let high : (s : ℕ) → 1 + 65536 ≤ s → w.slot s ≡ None = λ s h. does.slots s ∙ st.live.beyond s (omega arith) in
    let absent : (s : ℕ) → list_any (λ k. k == s) ks ≡ false → w.slot s ≡ None = λ s e. does.slots s ∙ slots s ∙ not_there es s e in
    sym (told_is g f v w got (request_of g r ∷ got) st (hear_live g f v w got r n st.live does name party) does.done_is
    ∙ ap₂ (λ xs ys. xs ++ ys)
    (flat_same (prepare_new v w) (prepare_heard w r n) 65536 1 (λ s h. prepare_heard_is v w r n new does s)
    ∙ flat_rising (prepare_heard w r n) ks 1 65536 (rising ks sorted) (λ s h e. prepare_none s (absent s e)) (edges_from (prepare_heard w r n) 1 65536 (λ s h. prepare_none s (low s h)) (λ s h. prepare_none s (high s h)) ks))
    (flat_same (commit_new f v w) (commit_heard f w r n) 65536 1 (λ s h. commit_heard_is v w r n new does f s)
    ∙ flat_rising (commit_heard f w r n) ks 1 65536 (rising ks sorted) (λ s h e. commit_none s (absent s e)) (edges_from (commit_heard f w r n) 1 65536 (λ s h. commit_none s (low s h)) (λ s h. commit_none s (high s h)) ks)))
