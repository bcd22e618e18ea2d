-- One action more.
use Rattle.std.proofs.Common.{◌≡◌, ◌+◌, ◌-◌, ◌*◌, ◌/◌, ◌<◌, ◌≤◌, ◌∷◌, [], ◌++◌, ℕ, List, Bool, true, false, cond, ◌&&◌, min, map, reverse, arith, refl, sym, ◌∙◌, ap}
use Rattle.std.specs.List.{sum_by, count_by}
use Rattle.std.specs.Str.{bytes_eq}
use Rattle.std.proofs.lemmas.List.Sums.{sum_by-cons}
use Rattle.std.proofs.Math.Nat.{div-mul-le_self}
use Rattle.std.proofs.lemmas.Nat.{le-div}
use Rattle.std.proofs.lemmas.List.{reverse-append}
use Rattle.std.proofs.lemmas.List.Sorted.{sum_by-IsPermutation, IsPermutation-reverse}
use Rattle.std.proofs.lemmas.Slice.Eq.{bytes_eq-Decides}
use Rattle.guarded_update.specs.declared.update.Action.{Action}
use Rattle.guarded_update.specs.declared.update.Action.TheVariants.{Replace, Append, Truncate, Splice}
use Rattle.script_grammar.specs.Load.{Sent, reach_in, reach_of, reach, weighed, blocks, load}
use Rattle.script_checks.specs.declared.load.Entry.{Entry}
use Rattle.script_checks.specs.Loads.{Stands, entry_of, adds_of, is_splice_of, is_splice, weight}

-- sums over entries are sums over what they stand for
pub sum_entries : (f : Entry → ℕ) (sent : List Sent) → sum_by f (map entry_of sent) ≡ sum_by (λ s. f (entry_of s)) sent
sum_entries f [] = refl
sum_entries f (s ∷ sent) = sum_by-cons f (entry_of s) (map entry_of sent) ∙ ap (λ n. f (entry_of s) + n) (sum_entries f sent) ∙ sym (sum_by-cons (λ t. f (entry_of t)) s sent)

abbrev pub splices_on : List ℕ → List Sent → ℕ
splices_on label sent = sum_by (λ s. cond (is_splice_of label (entry_of s)) 1 0) sent

-- what an action weighs, by the reach of its label
weighs : (g : List ℕ → ℕ) (label : List ℕ) (a : Action) → weighed g (record { label = label; action = a }) ≡ weight a (g label)
weighs g label (Replace o c) = refl
weighs g label (Append c) = refl
weighs g label (Truncate n) = refl
weighs g label (Splice o n c) = refl

-- one action, weighed by two reaches that differ at one label
one_other : (b : Bool) (x d : ℕ) → x ≡ x + cond (b && false) 1 0 * d
one_other true x d = omega arith
one_other false x d = omega arith

one_splice : (block : ℕ) (label m : List ℕ) (g h : List ℕ → ℕ) (b : Bool) → (b ≡ false → h m ≡ g m) → (b ≡ true → m ≡ label) → blocks block (g label) ≤ blocks block (h label)
    → blocks block (h m) ≡ blocks block (g m) + cond (b && true) 1 0 * (blocks block (h label) - blocks block (g label))
one_splice block label m g h true other same grows =
    let e = same refl in
    rw e (omega arith)
one_splice block label m g h false other same grows = ap (blocks block) (other refl) ∙ omega arith

is_same : (m label : List ℕ) → bytes_eq m label ≡ true → m ≡ label
is_same m label e = (bytes_eq-Decides m label).0 e

one : (block : ℕ) (label : List ℕ) (g h : List ℕ → ℕ) (m : List ℕ) (a : Action) → ((n : List ℕ) → bytes_eq n label ≡ false → h n ≡ g n) → blocks block (g label) ≤ blocks block (h label)
    → blocks block (weighed h (record { label = m; action = a })) ≡ blocks block (weighed g (record { label = m; action = a })) + cond (bytes_eq m label && is_splice a) 1 0 * (blocks block (h label) - blocks block (g label))
one block label g h m (Replace o c) other grows = one_other (bytes_eq m label) _ _
one block label g h m (Append c) other grows = one_other (bytes_eq m label) _ _
one block label g h m (Truncate n) other grows = one_other (bytes_eq m label) _ _
one block label g h m (Splice o n c) other grows = one_splice block label m g h (bytes_eq m label) (other m) (is_same m label) grows

added : (x y z hx hy gx gy cx cy d : ℕ) → x ≡ hx + hy → y ≡ gx + gy → z ≡ cx + cy → hx ≡ gx + cx * d → hy ≡ gy + cy * d → x ≡ y + z * d
added x y z hx hy gx gy cx cy d a b c e i = let m : (cx + cy) * d ≡ cx * d + cy * d = grind arith in rw (a, b, c, e, i, m) (omega arith)

pub shift : (block : ℕ) (label : List ℕ) (g h : List ℕ → ℕ) (sent : List Sent) → ((n : List ℕ) → bytes_eq n label ≡ false → h n ≡ g n) → blocks block (g label) ≤ blocks block (h label)
    → sum_by (λ t. blocks block (weighed h t)) sent ≡ sum_by (λ t. blocks block (weighed g t)) sent + splices_on label sent * (blocks block (h label) - blocks block (g label))
shift block label g h [] other grows = omega arith
shift block label g h (s ∷ sent) other grows =
    let a = sum_by-cons (λ t. blocks block (weighed h t)) s sent in
    let b = sum_by-cons (λ t. blocks block (weighed g t)) s sent in
    let c = sum_by-cons (λ t. cond (is_splice_of label (entry_of t)) 1 0) s sent in
    let e = one block label g h s.label s.action other grows in
    let i = shift block label g h sent other grows in
    added _ _ _ _ _ _ _ _ _ _ a b c e i

-- the reach of other labels stays
turned : (label n : List ℕ) (b : Bool) → bytes_eq n label ≡ false → bytes_eq label n ≡ b → b ≡ false
turned label n false e f = refl
turned label n true e f =
    let same : label ≡ n = is_same label n f in
    let here : bytes_eq label label ≡ true = ap (bytes_eq label) same ∙ f in
    let there : bytes_eq label label ≡ false = ap (λ x. bytes_eq x label) same ∙ e in
    absurd (cc)

adds_none : (b : Bool) (x y : ℕ) → b ≡ false → cond b x 0 + y ≡ y
adds_none b x y e = rw e (omega arith)

stays : (label n : List ℕ) (a : Action) (sent : List Sent) → bytes_eq n label ≡ false → reach (record { label = label; action = a } ∷ sent) n ≡ reach sent n
stays label n a sent e =
    ap (min 1048576) (sum_by-cons (reach_of n) (record { label = label; action = a }) sent ∙ adds_none (bytes_eq label n) _ _ (turned label n _ e refl))

-- the reach of the label itself
self_same : (label : List ℕ) → bytes_eq label label ≡ true
self_same label = (bytes_eq-Decides label label).1 refl

goes_on : (label : List ℕ) (a : Action) (sent : List Sent) → reach (record { label = label; action = a } ∷ sent) label ≡ min (reach sent label + reach_in a) 1048576
goes_on label a sent =
    let m : min 1048576 (reach_in a + sum_by (reach_of label) sent) ≡ min (min 1048576 (sum_by (reach_of label) sent) + reach_in a) 1048576 = omega arith in
    let b : cond (bytes_eq label label) (reach_in a) 0 ≡ reach_in a = rw (self_same label) refl in
    ap (min 1048576) (sum_by-cons (reach_of label) (record { label = label; action = a }) sent ∙ ap (λ x. x + sum_by (reach_of label) sent) b) ∙ m

joined : (x f r own y z : ℕ) → x ≡ f + r → f ≡ own → r ≡ y + z → x ≡ y + z + own
joined x f r own y z a b c = omega arith

-- the load with one action more
pub load_more : (block : ℕ) (label : List ℕ) (a : Action) (sent : List Sent) → blocks block (reach sent label) ≤ blocks block (min (reach sent label + reach_in a) 1048576)
    → load block (record { label = label; action = a } ∷ sent)
    ≡ load block sent + splices_on label sent * (blocks block (min (reach sent label + reach_in a) 1048576) - blocks block (reach sent label)) + blocks block (weight a (min (reach sent label + reach_in a) 1048576))
load_more block label a sent grows =
    let h = λ (n : List ℕ). reach (record { label = label; action = a } ∷ sent) n in
    let at_label : h label ≡ min (reach sent label + reach_in a) 1048576 = goes_on label a sent in
    let first = sum_by-cons (λ t. blocks block (weighed h t)) (record { label = label; action = a }) sent in
    let rest = shift block label (reach sent) h sent (λ n e. stays label n a sent e) (rw at_label grows) in
    let own : blocks block (weighed h (record { label = label; action = a })) ≡ blocks block (weight a (h label)) = ap (blocks block) (weighs h label a) in
    joined _ _ _ _ _ _ first own rest ∙ rw at_label refl

turned_sum : (f : Entry → ℕ) (items : List Entry) (sent : List Sent) → reverse items ≡ map entry_of sent → sum_by f items ≡ sum_by (λ s. f (entry_of s)) sent
turned_sum f items sent e = sym (sum_by-IsPermutation f items (reverse items) (IsPermutation-reverse items)) ∙ ap (sum_by f) e ∙ sum_entries f sent

-- what stands for the actions with one more
pub stands_more : (block : ℕ) (label : List ℕ) (a : Action) (items more : List Entry) (count before after splices growth own total : ℕ) (e : Entry) (sent : List Sent)
    → before ≡ min 1048576 (sum_by (adds_of label) items) → after ≡ min (before + reach_in a) 1048576 → splices ≡ count_by (is_splice_of label) items
    → growth ≡ blocks block after - blocks block before → own ≡ blocks block (weight a after) → blocks block before ≤ blocks block after → e ≡ entry_of (record { label = label; action = a })
    → more ≡ items ++ e ∷ [] → total ≡ count + splices * growth + own
    → Stands (record { blocks = count; entries = reverse items }) block sent → Stands (record { blocks = total; entries = reverse more }) block (record { label = label; action = a } ∷ sent)
stands_more block label a items more count before after splices growth own total e sent b f s g o grows is pushed t st =
    let before_is : before ≡ reach sent label = b ∙ ap (min 1048576) (turned_sum (adds_of label) items sent st.entries) in
    let after_is : after ≡ min (reach sent label + reach_in a) 1048576 = f ∙ ap (λ x. min (x + reach_in a) 1048576) before_is in
    let splices_is : splices ≡ splices_on label sent = s ∙ turned_sum (λ x. cond (is_splice_of label x) 1 0) items sent st.entries in
    let grows_is : blocks block (reach sent label) ≤ blocks block (min (reach sent label + reach_in a) 1048576) = rw (before_is, after_is) at grows in
    let lm = load_more block label a sent grows_is in
    let entries_is : reverse more ≡ entry_of (record { label = label; action = a }) ∷ map entry_of sent = rw (pushed, reverse-append, is) (ap (λ x. entry_of (record { label = label; action = a }) ∷ x) st.entries) in
    record { entries = entries_is; blocks = t ∙ rw (g, o, before_is, after_is, splices_is, st.blocks) (sym lm) }

-- more bytes load no fewer blocks
pub blocks_grow : (block a b : ℕ) → 0 < block → a ≤ b → blocks block a ≤ blocks block b
blocks_grow block a b pos le =
    let h : (a + block - 1) / block ≤ (b + block - 1) / block = le-div _ _ block pos (omega (arith, div-mul-le_self (a + block - 1) block)) in
    omega arith
