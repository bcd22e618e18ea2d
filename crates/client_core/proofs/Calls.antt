-- What calls name, one after another.
use Rattle.std.proofs.Common.{◌≡◌, List, [], ◌∷◌, ℕ, Contains, Result, Err, sym, ap, ◌∙◌, subst}
use Rattle.std.specs.FinMap as map
use Rattle.block_names.specs.Held.{Held}
use Rattle.std.proofs.lemmas.List.Elements.{All-cons, All-nil}
use Rattle.block_names.specs.Growth.{keep_all, Grew, IsClashIn, Holds}
use Rattle.block_names.specs.Clashes.{AreHeld}
use Rattle.block_names.specs.declared.fault.NameFault.{NameFault}
use Rattle.block_names.specs.declared.fault.NameFault.TheVariants.{Memory}
use Rattle.block_names.proofs.Grown.{grew_none, grew_then, clash_wider, now_held, still_held}
use Rattle.ring_model.proofs.Lists.{there_first, there_later}
use Rattle.client_core.specs.Naming.{Names}

-- a call that fails at a fault
pub names_err : {X : Type 0} (h : List ℕ → List ℕ) (strings : List (List ℕ)) (old new : Held) (r : Result X NameFault) (y fault : NameFault) → r ≡ Err y → y ≡ fault
    → Grew h old (Contains strings) new → IsClashIn h new (Contains strings) fault → Names h strings old new r
names_err h strings old new r y fault is same grew clash =
    subst (Names h strings old new) (sym is) (grew, subst (IsClashIn h new (Contains strings)) (sym same) clash)

-- a call that ends for want of memory
pub names_spent : {X : Type 0} (h : List ℕ → List ℕ) (strings : List (List ℕ)) (old new : Held) (r : Result X NameFault) (y : NameFault) → r ≡ Err y → y ≡ Memory
    → Grew h old (Contains strings) new → Names h strings old new r
names_spent h strings old new r y is same grew = names_err h strings old new r y Memory is same grew tt

-- two strings, one named after the other
pub grew_first : (h : List ℕ → List ℕ) (a b : Held) (x s t : List ℕ) → x ≡ s → Grew h a (λ z. z ≡ x) b → Grew h a (Contains (s ∷ t ∷ [])) b
grew_first h a b x s t is grew =
    grew_then h a b b (λ z. z ≡ x) (Contains (s ∷ t ∷ [])) (Contains (s ∷ t ∷ [])) (λ z e. subst (Contains (s ∷ t ∷ [])) (sym (e ∙ is)) (there_first s (t ∷ []))) (λ z m. m) grew (grew_none h b (Contains (s ∷ t ∷ [])))

pub grew_both : (h : List ℕ → List ℕ) (a b c : Held) (x y s t : List ℕ) → x ≡ s → y ≡ t → Grew h a (λ z. z ≡ x) b → Grew h b (λ z. z ≡ y) c → Grew h a (Contains (s ∷ t ∷ [])) c
grew_both h a b c x y s t is at one two =
    grew_then h a b c (λ z. z ≡ x) (λ z. z ≡ y) (Contains (s ∷ t ∷ [])) (λ z e. subst (Contains (s ∷ t ∷ [])) (sym (e ∙ is)) (there_first s (t ∷ [])))
    (λ z e. subst (Contains (s ∷ t ∷ [])) (sym (e ∙ at)) (there_later s (t ∷ []) t (there_first t []))) one two

pub clash_first : (h : List ℕ → List ℕ) (now : Held) (x s t : List ℕ) (f : NameFault) → x ≡ s → IsClashIn h now (λ z. z ≡ x) f → IsClashIn h now (Contains (s ∷ t ∷ [])) f
clash_first h now x s t f is clash = clash_wider h now (λ z. z ≡ x) (Contains (s ∷ t ∷ [])) f (λ z e. subst (Contains (s ∷ t ∷ [])) (sym (e ∙ is)) (there_first s (t ∷ []))) clash

pub clash_second : (h : List ℕ → List ℕ) (now : Held) (y s t : List ℕ) (f : NameFault) → y ≡ t → IsClashIn h now (λ z. z ≡ y) f → IsClashIn h now (Contains (s ∷ t ∷ [])) f
clash_second h now y s t f at clash =
    clash_wider h now (λ z. z ≡ y) (Contains (s ∷ t ∷ [])) f (λ z e. subst (Contains (s ∷ t ∷ [])) (sym (e ∙ at)) (there_later s (t ∷ []) t (there_first t []))) clash

pub both_held : (h : List ℕ → List ℕ) (a b c : Held) (x y s t : List ℕ) → x ≡ s → y ≡ t → b ≡ map.insert a (h x) x → c ≡ map.insert b (h y) y → c ≡ keep_all h (s ∷ t ∷ []) a
both_held h a b c x y s t is at one two =
    two ∙ ap (λ z. map.insert b (h z) z) at ∙ ap (λ m. map.insert m (h t) t) (one ∙ ap (λ z. map.insert a (h z) z) is)

-- each of the two is held then
pub both_known : (h : List ℕ → List ℕ) (a b c : Held) (x y s t : List ℕ) → x ≡ s → y ≡ t → b ≡ map.insert a (h x) x → c ≡ map.insert b (h y) y → Grew h b (λ z. z ≡ y) c → AreHeld h c (s ∷ t ∷ [])
both_known h a b c x y s t is at one two grew =
    All-cons (Holds h c) s (t ∷ []) (still_held h b c (λ z. z ≡ y) s grew (subst (Holds h b) is (subst (λ m. Holds h m x) (sym one) (now_held h a x))))
    (All-cons (Holds h c) t [] (subst (Holds h c) at (subst (λ m. Holds h m y) (sym two) (now_held h b y))) (All-nil (Holds h c)))
