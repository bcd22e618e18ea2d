-- The strings that one request more names.
use Rattle.std.proofs.Common.{◌≡◌, ℕ, List, [], ◌∷◌, ◌++◌, Contains, Option, Some, IfSome, refl, sym, ap, ◌∙◌, subst}
use Rattle.std.proofs.lemmas.List.Elements.{Contains-append_left, Contains-append_right}
use Rattle.block_names.specs.Held.{Held}
use Rattle.block_names.specs.Growth.{keep_all, Grew, IsClashIn, Keeps}
use Rattle.block_names.specs.Clashes.{AreHeld}
use Rattle.block_names.specs.declared.fault.NameFault.{NameFault}
use Rattle.block_names.proofs.Grown.{grew_none, grew_then, clash_wider, keep_append}
use Rattle.block_names.proofs.Clashed.{held_then}
use Rattle.guarded_update.specs.declared.request.Request.{Request}
use Rattle.guarded_update.specs.Fitting.{IsRequest}
use Rattle.guarded_update.specs.Spelling.{request_string}
use Rattle.ring_message.specs.declared.outcome.Outcome.{Outcome}
use Rattle.object_model.specs.Outcomes.{outcome_after, strings_named}
use Rattle.fold_model.specs.Folds.{requests_of, label_named, namings_by}
use Rattle.pond_node.proofs.Steps.{named_is}

-- what was read is spelled
pub spelled_by : (string : List ℕ) (found : Option Request) (r : Request) → found ≡ Some r → IfSome found (λ r. (string ≡ request_string r) × IsRequest r) → (string ≡ request_string r) × IsRequest r
spelled_by string found r some read = subst (λ (o : Option Request). IfSome o (λ r. (string ≡ request_string r) × IsRequest r)) some read

-- a kind of strings may be wider
pub grew_wider : (h : List ℕ → List ℕ) (held now : Held) (Xs Zs : List ℕ → Type 0) → ((s : List ℕ) → Xs s → Zs s) → Grew h held Xs now → Grew h held Zs now
grew_wider h held now Xs Zs more grew = grew_then h held now now Xs Xs Zs more more grew (grew_none h now Xs)

module _ (h : List ℕ → List ℕ) (block : ℕ) (before : List (List ℕ)) (string : List ℕ) (r : Request) (spelled : string ≡ request_string r) (is : IsRequest r) where
  abbrev versions : List (List ℕ)
  versions = strings_named h block r (requests_of before)

  abbrev named : List (List ℕ)
  named = namings_by h block (before ++ string ∷ [])

  of_version : (s : List ℕ) → Contains versions s → Contains named s
  of_version s c =
      let outcome = outcome_after h block r (requests_of before) in
      subst (λ ss. Contains ss s) (sym (named_is h block before string r spelled is outcome refl)) (Contains-append_left versions (label_named r.label outcome) s c)

  of_label : (outcome : Outcome) → outcome ≡ outcome_after h block r (requests_of before) → (s : List ℕ) → Contains (label_named r.label outcome) s → Contains named s
  of_label outcome e s c = subst (λ ss. Contains ss s) (sym (named_is h block before string r spelled is outcome e)) (Contains-append_right versions (label_named r.label outcome) s c)

  -- the strings of the version
  pub version_grew : (held now : Held) → Grew h held (Contains versions) now → Grew h held (Contains named) now
  version_grew held now grew = grew_wider h held now (Contains versions) (Contains named) of_version grew

  pub version_clash : (now : Held) (fault : NameFault) → IsClashIn h now (Contains versions) fault → IsClashIn h now (Contains named) fault
  version_clash now fault clash = clash_wider h now (Contains versions) (Contains named) fault of_version clash

  -- and then the string of the label
  pub label_grew : (outcome : Outcome) → outcome ≡ outcome_after h block r (requests_of before) → (held between now : Held)
      → Grew h held (Contains versions) between → Grew h between (Contains (label_named r.label outcome)) now → Grew h held (Contains named) now
  label_grew outcome e held between now first then = grew_then h held between now (Contains versions) (Contains (label_named r.label outcome)) (Contains named) of_version (of_label outcome e) first then

  pub label_clash : (outcome : Outcome) → outcome ≡ outcome_after h block r (requests_of before) → (now : Held) (fault : NameFault)
      → IsClashIn h now (Contains (label_named r.label outcome)) fault → IsClashIn h now (Contains named) fault
  label_clash outcome e now fault clash = clash_wider h now (Contains (label_named r.label outcome)) (Contains named) fault (of_label outcome e) clash

  pub all_held : (outcome : Outcome) → outcome ≡ outcome_after h block r (requests_of before) → (held between now : Held)
      → between ≡ keep_all h versions held → now ≡ keep_all h (label_named r.label outcome) between → now ≡ keep_all h named held
  all_held outcome e held between now first then =
      then ∙ ap (keep_all h (label_named r.label outcome)) first ∙ sym (keep_append h versions (label_named r.label outcome) held)
      ∙ ap (λ ss. keep_all h ss held) (sym (named_is h block before string r spelled is outcome e))

  pub all_known : (outcome : Outcome) → outcome ≡ outcome_after h block r (requests_of before) → (between now : Held) → Keeps between now
      → AreHeld h between versions → AreHeld h now (label_named r.label outcome) → AreHeld h now named
  all_known outcome e between now keeps first then =
      subst (AreHeld h now) (sym (named_is h block before string r spelled is outcome e)) (held_then h between now versions (label_named r.label outcome) keeps first then)
