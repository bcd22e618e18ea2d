-- Where labels are apart, versions rise, and what is believed of a label's object is of that label.
use Rattle.std.proofs.Common.{◌≡◌, ℕ, ◌-◌, ◌≤◌, List, length, take, drop, Option, Some, None, refl, sym, ap, ◌∙◌, subst, arith, length-append}
use Rattle.std.specs.Option.{option_map}
use Rattle.std.proofs.Math.Seq.{take-append_seam, drop-append_seam}
use Rattle.guarded_update.specs.declared.request.Request.{Request}
use Rattle.object_model.specs.Trees.{version_name, object_name}
use Rattle.object_model.specs.Folds.{made_by, versions_after}
use Rattle.object_model.proofs.VersionLemmas.{split}
use Rattle.ring_model.specs.Messages.{Ring, Letter, Mark}
use Rattle.ring_model.specs.World.{world, chosen}
use Rattle.ring_model.specs.Belief.{believed, beating, newest, named}
use Rattle.ring_model.specs.Laws.{IsPrefix}
use Rattle.ring_model.proofs.History.{same_some}
use Rattle.ring_model.proofs.Believed.{believed_heart}
use Rattle.fold_model.specs.Folds.{requests_of, heart_by}
use Rattle.fold_model.specs.Rings.{ring_of}
use Rattle.fold_model.proofs.Versions.{versions_stay}
use Rattle.fold_model.specs.LabelLaws.{LabelsApartWith, MadeVersionsRise, HeartIsOfLabel, IsVersionOf, versions_to}
use Rattle.fold_model.proofs.Made.{IsMade, made_at, made_last, taken_prefix}

-- ---- rising

-- there are no fewer versions after more requests
more_versions : (h : List ℕ → List ℕ) (block : ℕ) (label : List ℕ) (xs ys : List (List ℕ)) → IsPrefix xs ys
    → length (versions_after h block label (requests_of xs)) ≤ length (versions_after h block label (requests_of ys))
more_versions h block label xs ys prefix =
    let stay = versions_stay h block label xs ys prefix in
    omega (arith, ap length stay.1, length-append stay.0 (versions_after h block label (requests_of xs)))

pub made_versions_rise : MadeVersionsRise
made_versions_rise faults clients are_faulty h block archiving strings apart a b m n less low first second one =
    let older = made_at h block strings a m (omega arith) first in
    let newer = made_at h block strings b n low second in
    let same : older.1.label ≡ newer.1.label = apart older.1 newer.1 older.3 newer.3 (sym older.4.is_object ∙ one ∙ newer.4.is_object) in
    let made = subst (λ label. IsMade h block label (requests_of (take older.0 strings)) (requests_of (take a strings)) m) same older.4 in
    let last = made_last h block newer.1.label (requests_of (take older.0 strings)) (requests_of (take a strings)) m made in
    let grown = more_versions h block newer.1.label (take a strings) (take newer.0 strings) (taken_prefix a newer.0 strings (omega (arith, less, newer.2))) in
    omega (arith, last, grown, newer.4.number)

-- ---- hearts

-- a heart is believed at its version
named_parts : (g : Ring) (object : List ℕ) (got : List Letter) (version : Option ℕ) (m : Mark) → named g object got version ≡ Some m
    → (m.object ≡ object) × (believed g (beating object m.version) got ≡ Some m.name)
named_parts g object got None m e = absurd (cc e)
named_parts g object got (Some version) m e = by (believed g (beating object version) got) refl e
  where
    by : (o : Option (List ℕ)) → believed g (beating object version) got ≡ o → option_map (λ n. record { object = object; version = version; name = n }) o ≡ Some m
        → (m.object ≡ object) × (believed g (beating object m.version) got ≡ Some m.name)
    by None is e = absurd (cc e)
    by (Some name) is e =
        subst (λ (k : Mark). (k.object ≡ object) × (believed g (beating object k.version) got ≡ Some k.name)) (same_some (record { object = object; version = version; name = name }) m e) (refl, is)

-- a mark that a prefix of a list makes for a label is that of a version which the whole list makes of it
version_made : (h : List ℕ → List ℕ) (block : ℕ) (label : List ℕ) (earlier : List Request) (xs all : List (List ℕ)) (m : Mark) → IsMade h block label earlier (requests_of xs) m → IsPrefix xs all → IsVersionOf h block label all m
version_made h block label earlier xs all m made prefix =
    let here : List (List ℕ) = versions_after h block label (requests_of xs) in
    let now : List (List ℕ) = versions_after h block label (requests_of all) in
    let stay = versions_stay h block label xs all prefix in
    let last = made_last h block label earlier (requests_of xs) m made in
    let count = length-append stay.0 here in
    let newer : length now - 1 - m.version ≡ length stay.0 = omega (arith, ap length stay.1, count, last) in
    let up_to : versions_to m.version now ≡ here = ap (λ n. drop n now) newer ∙ ap (drop (length stay.0)) (sym stay.1) ∙ drop-append_seam stay.0 here in (
      omega (arith, ap length stay.1, count, last),
      omega (arith, ap length (split label (made_by h block earlier)), made.number),
      made.is_name ∙ ap (version_name h block) (sym up_to),
    )

-- so is one that a prefix makes of the label's object, where the object is no other label's
version_of : (h : List ℕ → List ℕ) (block : ℕ) (label : List ℕ) (xs all : List (List ℕ)) (m : Mark) → LabelsApartWith h label all → m.object ≡ object_name h label
    → IsPrefix xs all → heart_by h block xs ≡ Some m → IsVersionOf h block label all m
version_of h block label xs all m apart object prefix e =
    let cut : take (length xs) all ≡ xs = ap (take (length xs)) (sym prefix.1) ∙ take-append_seam xs prefix.0 in
    let low : length xs ≤ length all = omega (arith, ap length prefix.1, length-append xs prefix.0) in
    let there = made_at h block all (length xs) m low (ap (heart_by h block) cut ∙ e) in
    let earlier : List Request = requests_of (take there.0 all) in
    let same : there.1.label ≡ label = apart.1 there.1 there.3 (sym there.4.is_object ∙ object) in
    let own = subst (λ l. IsMade h block l earlier (requests_of (take (length xs) all)) m) same there.4 in
    version_made h block label earlier xs all m (subst (λ zs. IsMade h block label earlier (requests_of zs) m) cut own) prefix

pub heart_is_of_label : HeartIsOfLabel
heart_is_of_label faults clients are_faulty h block archiving few events legal clash c label apart m e =
    let g = ring_of faults clients are_faulty h block archiving in
    let got : List Letter = (world g events).got c in
    let object : List ℕ = object_name h label in
    let heart = named_parts g object got (newest g object got got) m e in
    let b = believed_heart g few events legal clash c object m.version m.name heart.1 in
    version_of h block label b.0 (chosen g (world g events)) (record { object = object; version = m.version; name = m.name }) apart refl b.1 b.2
