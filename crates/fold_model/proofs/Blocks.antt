-- The strings that one request names tell how many bytes a whole leaf has.
use Rattle.std.proofs.Common.{◌≡◌, ℕ, ◌<◌, ◌^◌, List, [], ◌∷◌, ◌++◌, drop, reverse, slice_get, Some, refl, sym, ap, ◌∙◌, arith}
use Rattle.std.proofs.lemmas.List.{reverse-append}
use Rattle.guarded_update.specs.declared.request.Request.{Request}
use Rattle.guarded_update.specs.declared.update.Action.TheVariants.{Append}
use Rattle.guarded_update.specs.Fitting.{HasPlaces}
use Rattle.guarded_update.specs.Spelling.{request_string}
use Rattle.tree_format.specs.Strings.{root_string, label_string}
use Rattle.object_model.specs.Trees.{strings_of, root_of}
use Rattle.message_model.specs.Requests.{number_at}
use Rattle.message_model.proofs.Fields.{request_seam, number_seam}
use Rattle.ring_model.proofs.History.{same_some}
use Rattle.fold_model.specs.Folds.{of_newest, named_after, namings_by}
use Rattle.fold_model.specs.Laws.{OneBlock}

-- the first request of a client, which appends a byte to the object of the label a
sample : Request
sample = record {
  client = record { 0 = 0 };
  number = 1;
  label = 97 ∷ [];
  update = record { clauses = record { guards = []; actions = Append (0 ∷ []) ∷ [] } ∷ [] };
}

abbrev root_by : (List ℕ → List ℕ) → ℕ → List ℕ
root_by h block = root_string (root_of h block (0 ∷ []) ([] ∷ []))

sample_places : HasPlaces sample
unfolding sample
sample_places = record {
  number = omega arith;
  label = refl;
  few = omega arith;
  clauses = (record { few_guards = omega arith; few_actions = omega arith; guards = tt; actions = (omega arith, tt) }, tt);
}

-- it names the strings of its version, the root's last, and then its label's
sample_named : (h : List ℕ → List ℕ) (block : ℕ) → namings_by h block (request_string sample ∷ []) ≡ strings_of h block (0 ∷ []) ++ root_by h block ∷ [] ++ label_string (97 ∷ []) ∷ []
unfolding sample
sample_named h block = ap (λ r. of_newest [] (named_after h block) (r ∷ [])) (request_seam sample sample_places)

-- the last but one of a list
second_last : (xs : List (List ℕ)) (x y : List ℕ) → slice_get (reverse (xs ++ x ∷ [] ++ y ∷ [])) 1 ≡ Some x
second_last xs x y = ap (λ zs. slice_get zs 1) (reverse-append (xs ++ x ∷ []) (y ∷ []) ∙ ap (λ zs. y ∷ zs) (reverse-append xs (x ∷ [])))

block_in : (h : List ℕ → List ℕ) (block : ℕ) → block < 2 ^ 32 → number_at (drop 9 (root_by h block)) ≡ block
block_in h block small = number_seam block (drop 13 (root_by h block)) small

pub one_block : OneBlock
one_block h g a b low high one other =
    let asked = request_string sample ∷ [] in
    let same : namings_by h a asked ≡ namings_by h b asked = sym (one.named asked) ∙ other.named asked in
    let roots : root_by h a ≡ root_by h b
    = same_some (root_by h a) (root_by h b)
    (sym (second_last (strings_of h a (0 ∷ [])) (root_by h a) (label_string (97 ∷ [])))
    ∙ ap (λ ss. slice_get (reverse ss) 1) (sym (sample_named h a) ∙ same ∙ sample_named h b)
    ∙ second_last (strings_of h b (0 ∷ [])) (root_by h b) (label_string (97 ∷ []))) in
    sym (block_in h a low) ∙ ap (λ s. number_at (drop 9 s)) roots ∙ block_in h b high
