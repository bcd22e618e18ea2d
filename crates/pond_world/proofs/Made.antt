-- The nodes of a setup, while they are made, each at the place of its member.
use Rattle.std.proofs.Common.{◌≡◌, ℕ, zero, suc, ◌+◌, ◌<◌, Bool, true, false, not, cond, ◌||◌, List, [], ◌∷◌, ◌++◌, length, get_or, map, Option, Some, None, is_some, IfSome, IsTrue, Contains, ⊎_elim, refl, sym, ap, ◌∙◌, subst, arith, length-append}
use Rattle.std.specs.FinMap as finite
use Rattle.std.specs.List.{AllByRecursion as Each, flat_map, list_any}
use Rattle.std.proofs.lemmas.Bool.{cases_lt}
use Rattle.std.proofs.lemmas.List.{get_or_append_left, get_or_push}
use Rattle.block_names.specs.Held.{Held}
use Rattle.block_names.specs.Growth.{keep_all, Grew, Keeps}
use Rattle.block_names.specs.Clashes.{AreHeld}
use Rattle.block_names.proofs.Grown.{grew_none, grew_then, now_held, held_same}
use Rattle.guarded_update.specs.declared.setup.Setup.{Setup}
use Rattle.pond_base.specs.declared.numbers.MemberId.{MemberId}
use Rattle.tree_format.specs.Strings.{root_string, leaf_string, height_over}
use Rattle.object_model.specs.Trees.{version_strings, root_of, rows_from}
use Rattle.object_model.proofs.PieceLemmas.{pieces_nil}
use Rattle.object_fold.proofs.Kept.{known_still}
use Rattle.ring_model.proofs.History.{Each-weaker, Each-append}
use Rattle.fold_model.specs.Folds.{Archiving}
use Rattle.pond_node.specs.declared.node.Node.{Node}
use Rattle.pond_node.specs.Standing.{NodeStands, IsKnown}
use Rattle.pond_world.specs.Setups.{ring_by, is_among}

-- the strings of the empty version
abbrev pub first_strings : (List ℕ → List ℕ) → Setup → List (List ℕ)
first_strings h setup = version_strings h setup.block [] []

-- the one string of the empty version is that of its root
one_string : (h : List ℕ → List ℕ) (block : ℕ) → 0 < block → version_strings h block [] [] ≡ root_string (root_of h block [] []) ∷ []
one_string h block some =
    ap (λ row. flat_map (λ strings. strings) (rows_from h (height_over (length row)) row) ++ root_string (root_of h block [] []) ∷ []) (ap (map leaf_string) (pieces_nil block some))

-- to keep it again changes nothing
kept_again : (h : List ℕ → List ℕ) (block : ℕ) (held : Held) → 0 < block
    → keep_all h (version_strings h block [] []) (keep_all h (version_strings h block [] []) held) ≡ keep_all h (version_strings h block [] []) held
kept_again h block held some =
    let root = root_string (root_of h block [] []) in
    subst (λ strings. keep_all h strings (keep_all h strings held) ≡ keep_all h strings held) (sym (one_string h block some)) (held_same h (finite.insert held (h root) root) root (now_held h held root))

-- there is a node for each member that is not faulty
abbrev pub AreThere : List MemberId → List (Option Node) → Type 0
AreThere faulty nodes = (i : ℕ) (d : Option Node) → i < length nodes → is_some (get_or nodes i d) ≡ not (is_among faulty i)

-- some nodes stand, each as the member of its number, before any letter
abbrev pub AllStand : (List ℕ → List ℕ) → Setup → List (Option Node) → Type 0
AllStand h setup nodes =
    (archiving : Archiving) (i : ℕ) (d : Option Node) → i < length nodes → IfSome (get_or nodes i d) (λ node. NodeStands node (ring_by h setup archiving) i [] 0)

-- the places of so many members are made, and nothing but the strings of the empty version was named for their nodes
pub record AreMade (h : List ℕ → List ℕ) (setup : Setup) (faulty : List MemberId) (first : Held) (nodes : List (Option Node)) (now : Held) (count : ℕ) : Type 0 where
  pub size : length nodes ≡ count
  pub there : AreThere faulty nodes
  pub stand : AllStand h setup nodes
  pub known : Each (λ node. IfSome node (IsKnown h now)) nodes
  pub again : keep_all h (first_strings h setup) now ≡ keep_all h (first_strings h setup) first
  pub held : IsTrue (list_any is_some nodes) → now ≡ keep_all h (first_strings h setup) first
  pub all : IsTrue (list_any is_some nodes) → AreHeld h now (first_strings h setup)
  pub grew : Grew h first (Contains (first_strings h setup)) now

pub none_made : (h : List ℕ → List ℕ) (setup : Setup) (faulty : List MemberId) (held : Held) (nodes : List (Option Node)) → nodes ≡ [] → AreMade h setup faulty held nodes held 0
none_made h setup faulty held nodes none = record {
  size = ap length none;
  there = λ i d low. absurd (omega (arith, low, ap length none));
  stand = λ archiving i d low. absurd (omega (arith, low, ap length none));
  known = subst (Each (λ node. IfSome node (IsKnown h held))) (sym none) tt;
  again = refl;
  held = λ some. refl_of some;
  all = λ some. absurd (nobody some);
  grew = grew_none h held (Contains (first_strings h setup));
}
  where
    nobody : IsTrue (list_any is_some nodes) → ⊥
    nobody some = absurd (cc (some, ap (list_any is_some) none))

    refl_of : IsTrue (list_any is_some nodes) → held ≡ keep_all h (first_strings h setup) held
    refl_of some = absurd (nobody some)

-- strings of one kind are named, and then more of that kind
pub grew_on : (h : List ℕ → List ℕ) (a b c : Held) (Of : List ℕ → Type 0) → Grew h a Of b → Grew h b Of c → Grew h a Of c
grew_on h a b c Of f g = grew_then h a b c Of Of Of (λ s e. e) (λ s e. e) f g

-- what a node named stays known
pub node_known : (h : List ℕ → List ℕ) (held now : Held) (node : Node) → Keeps held now → IsKnown h held node → IsKnown h now node
node_known h held now node keeps is = record { objects_known = known_still h held now node.objects keeps is.objects_known; few = is.few }

-- where there is a node
pub place_known : (h : List ℕ → List ℕ) (held now : Held) (node : Option Node) → Keeps held now → IfSome node (IsKnown h held) → IfSome node (IsKnown h now)
place_known h held now None keeps is = tt
place_known h held now (Some node) keeps is = node_known h held now node keeps is

-- one that is there among some and one more
any_more : (nodes : List (Option Node)) (node : Option Node) → list_any is_some (nodes ++ node ∷ []) ≡ (list_any is_some nodes || is_some node)
any_more [] node = or_false (is_some node)
  where
    or_false : (b : Bool) → (b || false) ≡ b
    or_false true = refl
    or_false false = refl
any_more (one ∷ nodes) node = ap (λ b. is_some one || b) (any_more nodes node) ∙ or_or (is_some one) (list_any is_some nodes) (is_some node)
  where
    or_or : (a b c : Bool) → (a || (b || c)) ≡ ((a || b) || c)
    or_or true b c = refl
    or_or false b c = refl

-- what is at each place of a longer list
at_each : (P : ℕ → Option Node → Type 0) (nodes : List (Option Node)) (node : Option Node) → ((i : ℕ) (d : Option Node) → i < length nodes → P i (get_or nodes i d)) → P (length nodes) node
    → (i : ℕ) (d : Option Node) → i < length (nodes ++ node ∷ []) → P i (get_or (nodes ++ node ∷ []) i d)
at_each P nodes node each last i d low =
    ⊎_elim
    (λ less. subst (P i) (sym (get_or_append_left nodes (node ∷ []) d i less)) (each i d less))
    (λ more. let same : length nodes ≡ i = omega (arith, low, more, length-append nodes (node ∷ [])) in
    subst (P i) (sym (get_or_push nodes node d i same)) (subst (λ k. P k node) same last))
    (cases_lt i (length nodes))

-- what the nodes named stays known
places_known : (h : List ℕ → List ℕ) (old new : Held) (nodes : List (Option Node)) → Keeps old new → Each (λ node. IfSome node (IsKnown h old)) nodes → Each (λ node. IfSome node (IsKnown h new)) nodes
places_known h old new nodes keeps known = Each-weaker (λ node. IfSome node (IsKnown h old)) (λ node. IfSome node (IsKnown h new)) (λ node k. place_known h old new node keeps k) nodes known

-- the place of one member more, whose node is there or not
pub one_made : (h : List ℕ → List ℕ) (setup : Setup) (faulty : List MemberId) (first old new : Held) (nodes all : List (Option Node)) (node : Option Node) (count : ℕ) → 0 < setup.block → AreMade h setup faulty first nodes old count
    → all ≡ nodes ++ node ∷ [] → is_some node ≡ not (is_among faulty count) → IfSome node (λ one. (archiving : Archiving) → NodeStands one (ring_by h setup archiving) count [] 0) → IfSome node (IsKnown h new)
    → new ≡ cond (is_some node) (keep_all h (first_strings h setup) old) old → IfSome node (λ _. AreHeld h new (first_strings h setup)) → Grew h old (Contains (first_strings h setup)) new
    → AreMade h setup faulty first all new (count + 1)
one_made h setup faulty first old new nodes all node count some m is there stands known held names grew = record {
  size = omega (arith, ap length is, length-append nodes (node ∷ []), m.size);
  there = subst (AreThere faulty) (sym is) (at_each (λ i one. is_some one ≡ not (is_among faulty i)) nodes node m.there (subst (λ k. is_some node ≡ not (is_among faulty k)) (sym m.size) there));
  stand = subst (AllStand h setup) (sym is) (λ archiving. at_each (λ i one. IfSome one (λ one. NodeStands one (ring_by h setup archiving) i [] 0)) nodes node (m.stand archiving)
      (subst (λ k. IfSome node (λ one. NodeStands one (ring_by h setup archiving) k [] 0)) (sym m.size) (standing node stands archiving)));
  known = subst (Each (λ one. IfSome one (IsKnown h new))) (sym is) (Each-append (λ one. IfSome one (IsKnown h new)) nodes (node ∷ []) (places_known h old new nodes grew.kept m.known) (known, tt));
  again = again node held;
  held = λ any. named node held (any_there any);
  all = λ any. held_all node held names (any_there any);
  grew = grew_on h first old new (Contains (first_strings h setup)) m.grew grew;
}
  where
    standing : (one : Option Node) → IfSome one (λ one. (archiving : Archiving) → NodeStands one (ring_by h setup archiving) count [] 0) → (archiving : Archiving) → IfSome one (λ one. NodeStands one (ring_by h setup archiving) count [] 0)
    standing None s archiving = tt
    standing (Some one) s archiving = s archiving

    any_there : IsTrue (list_any is_some all) → IsTrue (list_any is_some nodes || is_some node)
    any_there any = subst IsTrue (ap (list_any is_some) is ∙ any_more nodes node) any

    again : (one : Option Node) → new ≡ cond (is_some one) (keep_all h (first_strings h setup) old) old → keep_all h (first_strings h setup) new ≡ keep_all h (first_strings h setup) first
    again None e = ap (keep_all h (first_strings h setup)) e ∙ m.again
    again (Some one) e = ap (keep_all h (first_strings h setup)) e ∙ kept_again h setup.block old some ∙ m.again

    left : (b : Bool) → IsTrue (b || false) → IsTrue b
    left true t = t
    left false t = absurd (cc t)

    named : (one : Option Node) → new ≡ cond (is_some one) (keep_all h (first_strings h setup) old) old → IsTrue (list_any is_some nodes || is_some one) → new ≡ keep_all h (first_strings h setup) first
    named None e any = e ∙ m.held (left (list_any is_some nodes) any)
    named (Some one) e any = e ∙ m.again

    held_all : (one : Option Node) → new ≡ cond (is_some one) (keep_all h (first_strings h setup) old) old → IfSome one (λ _. AreHeld h new (first_strings h setup)) → IsTrue (list_any is_some nodes || is_some one)
        → AreHeld h new (first_strings h setup)
    held_all None e n any = subst (λ held. AreHeld h held (first_strings h setup)) (sym e) (m.all (left (list_any is_some nodes) any))
    held_all (Some one) e n any = n

-- what holds of each item holds at each place
pub each_at : {X : Type 0} (P : X → Type 0) (xs : List X) → Each P xs → (i : ℕ) (d : X) → i < length xs → P (get_or xs i d)
each_at P [] all i d low = absurd (omega arith)
each_at P (x ∷ xs) all zero d low = all.0
each_at P (x ∷ xs) all (suc i) d low = each_at P xs all.1 i d (omega arith)
