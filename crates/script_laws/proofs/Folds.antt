-- What is named for a head of a list of requests is of a version that the list makes, or a label's string.
use Rattle.std.proofs.Common.{◌≡◌, ℕ, List, [], ◌∷◌, ◌++◌, map, Contains, ◌⊎◌, inl, inr, ⊎_elim, refl, sym, subst}
use Rattle.std.proofs.lemmas.List.Elements.{Contains-append_left, Contains-append_right, Contains-append_cases}
use Rattle.guarded_update.specs.declared.request.Request.{Request}
use Rattle.tree_format.specs.Strings.{label_string}
use Rattle.object_model.specs.Folds.{Effect, Makes, Refuses, Repeats, effect, made_by, versions_after}
use Rattle.object_model.specs.Outcomes.{strings_of_effect, strings_named, outcome_after}
use Rattle.ring_message.specs.declared.outcome.Outcome.{Outcome}
use Rattle.ring_message.specs.declared.outcome.Outcome.TheVariants as told
use Rattle.ring_model.specs.Messages.{Ring}
use Rattle.ring_model.specs.World.{World, chosen}
use Rattle.ring_model.specs.Laws.{IsPrefix}
use Rattle.ring_model.proofs.Lists.{there_first, there_cases, there_none, Each-there}
use Rattle.message_model.specs.Requests.{request_at}
use Rattle.fold_model.specs.Folds.{requests_of, of_newest, label_named, named_after, namings_by}
use Rattle.fold_model.specs.Growing.{requests-append}
use Rattle.text_model.specs.Named.{effect_strings, made_strings, executed_strings}
use Rattle.script_laws.proofs.Elements.{in_map, in_reverse}
use Rattle.script_laws.proofs.Deliveries.{IsForeseen, IsOfHead}

-- the strings that a request names are those of its text
same_strings : (h : List ℕ → List ℕ) (block : ℕ) (e : Effect) (versions : List (List ℕ)) → strings_of_effect h block e versions ≡ effect_strings h block versions e
same_strings h block (Makes content) versions = refl
same_strings h block (Refuses refusal) versions = refl
same_strings h block Repeats versions = refl

pub strings_same : (h : List ℕ → List ℕ) (block : ℕ) (request : Request) (earlier : List Request) → strings_named h block request earlier ≡ made_strings h block request earlier
strings_same h block request earlier = same_strings h block (effect h block request earlier (made_by h block earlier)) (versions_after h block request.label earlier)

-- later requests name more strings
executed_more : (h : List ℕ → List ℕ) (block : ℕ) (late earlier : List Request) (s : List ℕ) → Contains (executed_strings h block earlier) s → Contains (executed_strings h block (late ++ earlier)) s
executed_more h block [] earlier s there = there
executed_more h block (request ∷ late) earlier s there =
    Contains-append_left (executed_strings h block (late ++ earlier)) (made_strings h block request (late ++ earlier)) s (executed_more h block late earlier s there)

-- the strings of a head of a list are strings of the list
pub executed_head : (h : List ℕ → List ℕ) (block : ℕ) (strings all : List (List ℕ)) → IsPrefix strings all → (s : List ℕ)
    → Contains (executed_strings h block (requests_of strings)) s → Contains (executed_strings h block (requests_of all)) s
executed_head h block strings all head s there =
    subst (λ texts. Contains (executed_strings h block (requests_of texts)) s) head.1
    (subst (λ requests. Contains (executed_strings h block requests) s) (sym (requests-append strings head.0)) (executed_more h block (requests_of head.0) (requests_of strings) s there))

-- where a label is named, its string is
label_is : (label : List ℕ) (o : Outcome) (s : List ℕ) → Contains (label_named label o) s → label_string label ≡ s
label_is label (told.Made version name) s there = ⊎_elim (λ e. e) (λ none. absurd (there_none s none)) (there_cases (label_string label) [] s there)
label_is label told.NoClause s there = absurd (there_none s there)
label_is label told.OutOfRange s there = absurd (there_none s there)
label_is label told.TooLong s there = absurd (there_none s there)
label_is label told.Repeat s there = absurd (there_none s there)

-- the label string of one of the requests
abbrev pub IsLabelOf : List Request → List ℕ → Type 0
IsLabelOf requests s = (request : Request) × Contains requests request × (label_string request.label ≡ s)

named_parts : (h : List ℕ → List ℕ) (block : ℕ) (requests : List Request) (s : List ℕ) → Contains (of_newest [] (named_after h block) requests) s → Contains (executed_strings h block requests) s ⊎ IsLabelOf requests s
named_parts h block [] s there = absurd (there_none s there)
named_parts h block (request ∷ earlier) s there =
    ⊎_elim
    (λ made. inl (Contains-append_right (executed_strings h block earlier) (made_strings h block request earlier) s (subst (λ strings. Contains strings s) (strings_same h block request earlier) made)))
    (λ label. inr (request, there_first request earlier, label_is request.label (outcome_after h block request earlier) s label))
    (Contains-append_cases (strings_named h block request earlier) (label_named request.label (outcome_after h block request earlier)) s there)

-- the label string of a request that was submitted
abbrev pub IsSubmittedLabel : World → List ℕ → Type 0
IsSubmittedLabel w s = (text : List ℕ) × Contains w.submits text × (label_string (request_at text).label ≡ s)

-- submitted, of a version of the committed list, or the label string of a submitted request
abbrev pub IsAccounted : (List ℕ → List ℕ) → ℕ → Ring → World → List ℕ → Type 0
IsAccounted h block g w s = Contains w.submits s ⊎ (Contains (executed_strings h block (requests_of (chosen g w))) s ⊎ IsSubmittedLabel w s)

head_accounted : (h : List ℕ → List ℕ) (block : ℕ) (g : Ring) (w : World) (s : List ℕ) → ((strings : List (List ℕ)) → g.namings strings ≡ namings_by h block strings) → IsOfHead g w s → Contains (executed_strings h block (requests_of (chosen g w))) s ⊎ IsSubmittedLabel w s
head_accounted h block g w s same head =
    ⊎_elim
    (λ made. inl (executed_head h block head.0 (chosen g w) head.1 s made))
    (λ label.
    let text = in_map request_at head.0 label.0 (in_reverse (map request_at head.0) label.0 label.1) in
    inr (text.0, Each-there (Contains w.submits) head.0 text.0 head.2 text.1, subst (λ (request : Request). label_string request.label ≡ s) (sym text.2) label.2))
    (named_parts h block (requests_of head.0) s (subst (λ named. Contains named s) (same head.0) head.3))

pub accounted : (h : List ℕ → List ℕ) (block : ℕ) (g : Ring) (w : World) (s : List ℕ) → ((strings : List (List ℕ)) → g.namings strings ≡ namings_by h block strings) → IsForeseen g w s → IsAccounted h block g w s
accounted h block g w s same foreseen = ⊎_elim (λ submitted. inl submitted) (λ head. inr (head_accounted h block g w s same head)) foreseen
