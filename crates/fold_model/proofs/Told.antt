-- The last mark that a list makes of an object is that of its label's newest version.
use Rattle.std.proofs.Common.{◌≡◌, ℕ, zero, suc, ◌≤◌, Bool, true, false, cond, List, ◌∷◌, length, take, drop, Option, Some, None, bytes_eq, refl, sym, ap, ◌∙◌, subst, arith}
use Rattle.std.specs.Option.{option_or}
use Rattle.std.proofs.Math.Seq.{take-length}
use Rattle.std.proofs.lemmas.Bool.{false≢true}
use Rattle.std.proofs.lemmas.Slice.Eq.{bytes_eq-Decides}
use Rattle.guarded_update.specs.declared.request.Request.{Request}
use Rattle.object_model.specs.Trees.{version_name, object_name}
use Rattle.object_model.specs.Updates.{newest, NoClause, OutOfRange, TooLong}
use Rattle.object_model.specs.Folds.{Made, Effect, Makes, Refuses, Repeats, with_effect, made_by, versions_of, versions_after}
use Rattle.object_model.specs.Outcomes.{effect_after, outcome_of}
use Rattle.object_model.proofs.VersionLemmas.{split, one_more as one_version_more}
use Rattle.ring_model.specs.Messages.{Mark}
use Rattle.ring_model.specs.History.{passing}
use Rattle.ring_model.specs.World.{world, chosen}
use Rattle.ring_model.specs.Laws.{last_made}
use Rattle.ring_model.proofs.Answered.{all_told}
use Rattle.fold_model.specs.Folds.{requests_of, of_newest, mark_of, heart_after}
use Rattle.fold_model.specs.Rings.{ring_of}
use Rattle.fold_model.proofs.Versions.{own_label, version_first}
use Rattle.fold_model.specs.LabelLaws.{LabelsApartWith, LastIsTold, mark_of_newest, newest_mark}
use Rattle.fold_model.proofs.Made.{one_more}
use Rattle.fold_model.proofs.Labels.{made_versions_rise}

-- the mark of a version over older ones
abbrev mark_over : (List ℕ → List ℕ) → ℕ → List ℕ → List ℕ → List (List ℕ) → Mark
mark_over h block label content older = record { object = object_name h label; version = length older; name = version_name h block (content ∷ older) }

-- a version over some first one is not the empty one
mark_of_first : (h : List ℕ → List ℕ) (block : ℕ) (label content first : List ℕ) (older rest : List (List ℕ)) → older ≡ first ∷ rest
    → mark_of_newest h block label (content ∷ older) ≡ Some (mark_over h block label content older)
mark_of_first h block label content first older rest e = subst (λ vs. mark_of_newest h block label (content ∷ vs) ≡ Some (mark_over h block label content vs)) (sym e) refl

-- the newest mark of an object after one more that may be its own
abbrev told_next : (List ℕ → List ℕ) → List ℕ → Option Mark → Option Mark → Option Mark
told_next h label next before = option_or (passing (λ m. bytes_eq m.object (object_name h label)) next) before

-- where labels are apart, so are the names of their objects
names_differ : (h : List ℕ → List ℕ) (label own : List ℕ) → (object_name h own ≡ object_name h label → own ≡ label) → bytes_eq own label ≡ false → bytes_eq (object_name h own) (object_name h label) ≡ false
names_differ h label own apart differ = by (bytes_eq (object_name h own) (object_name h label)) refl
  where
    by : (b : Bool) → bytes_eq (object_name h own) (object_name h label) ≡ b → bytes_eq (object_name h own) (object_name h label) ≡ false
    by false e = e
    by true e = absurd (false≢true (sym differ ∙ (bytes_eq-Decides own label).1 (apart ((bytes_eq-Decides (object_name h own) (object_name h label)).0 e))))

-- a version of this label is its newest, and that of another leaves the newest
made_next : (h : List ℕ → List ℕ) (block : ℕ) (label own content : List ℕ) (made : List Made) → (object_name h own ≡ object_name h label → own ≡ label)
    → told_next h label (Some (mark_over h block own content (versions_of own made))) (mark_of_newest h block label (versions_of label made))
    ≡ mark_of_newest h block label (versions_of label (record { label = own; content = content } ∷ made))
made_next h block label own content made apart = by (bytes_eq own label) refl
  where
    before : Option Mark
    before = mark_of_newest h block label (versions_of label made)

    by : (b : Bool) → bytes_eq own label ≡ b
        → told_next h label (Some (mark_over h block own content (versions_of own made))) (mark_of_newest h block label (versions_of label made))
        ≡ mark_of_newest h block label (versions_of label (record { label = own; content = content } ∷ made))
    by true is =
        subst
        (λ l. told_next h label (Some (mark_over h block l content (versions_of l made))) (mark_of_newest h block label (versions_of label made))
        ≡ mark_of_newest h block label (versions_of label (record { label = l; content = content } ∷ made)))
        (sym ((bytes_eq-Decides own label).0 is))
        (ap (λ b. option_or (cond b (Some (mark_over h block label content (versions_of label made))) None) before) (own_label (object_name h label))
        ∙ sym (mark_of_first h block label content (newest (versions_of label made)) (versions_of label made) (drop 1 (versions_of label made)) (split label made))
        ∙ ap (mark_of_newest h block label) (sym (version_first (record { label = label; content = content }) made)))
    by false is =
        ap (λ b. option_or (cond b (Some (mark_over h block own content (versions_of own made))) None) before) (names_differ h label own apart is)
        ∙ ap (mark_of_newest h block label) (sym (one_version_more label own content made ∙ ap (λ b. cond b (content ∷ versions_of label made) (versions_of label made)) is))

-- the newest mark after one more request
request_next : (h : List ℕ → List ℕ) (block : ℕ) (label : List ℕ) (r : Request) (earlier : List Request) → (object_name h r.label ≡ object_name h label → r.label ≡ label)
    → told_next h label (heart_after h block r earlier) (mark_of_newest h block label (versions_after h block label earlier))
    ≡ mark_of_newest h block label (versions_after h block label (r ∷ earlier))
request_next h block label r earlier apart = by (effect_after h block r earlier)
  where
    made : List Made
    made = made_by h block earlier

    by : (x : Effect) → told_next h label (mark_of (object_name h r.label) (outcome_of h block x (versions_of r.label made))) (mark_of_newest h block label (versions_of label made))
        ≡ mark_of_newest h block label (versions_of label (with_effect r.label x made))
    by (Makes content) = made_next h block label r.label content made apart
    by (Refuses NoClause) = refl
    by (Refuses OutOfRange) = refl
    by (Refuses TooLong) = refl
    by Repeats = refl

pub last_is_told : LastIsTold
last_is_told faults clients are_faulty h block archiving few lead events legal delivered c known label apart =
    let g = ring_of faults clients are_faulty h block archiving in
    let all : List (List ℕ) = chosen g (world g events) in
    all_told g few lead events legal delivered (made_versions_rise faults clients are_faulty h block archiving all apart.0) c known (object_name h label)
    ∙ last all apart (length all) (omega arith)
    ∙ ap (newest_mark h block label) (take-length all)
  where
    last : (strings : List (List ℕ)) → LabelsApartWith h label strings → (n : ℕ) → n ≤ length strings
        → last_made (ring_of faults clients are_faulty h block archiving) (object_name h label) strings n ≡ newest_mark h block label (take n strings)
    last strings apart zero low = refl
    last strings apart (suc n) low =
        let next = one_more strings n (omega arith) in
        let earlier : List Request = requests_of (take n strings) in
        ap (λ q. told_next h label (of_newest None (heart_after h block) q) (last_made (ring_of faults clients are_faulty h block archiving) (object_name h label) strings n)) next.2
        ∙ ap (told_next h label (heart_after h block next.0 earlier)) (last strings apart n (omega arith))
        ∙ request_next h block label next.0 earlier (apart.1 next.0 next.1)
        ∙ ap (λ q. mark_of_newest h block label (versions_after h block label q)) (sym next.2)
