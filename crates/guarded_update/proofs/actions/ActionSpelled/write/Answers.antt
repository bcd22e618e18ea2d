use Rattle.std.proofs.Common.{◌≡◌, ◌∷◌, ◌++◌, List, [], ℕ, ap, sym, ◌∙◌, append_assoc}
use Rattle.std.proofs.lemmas.Result.{on_ok_weaker}
use Rattle.guarded_update.specs.declared.update.Action.TheVariants.{Splice}
use Rattle.guarded_update.specs.Spelling.{action_string, number, counted}
use Rattle.guarded_update.proofs.actions.ActionSpelled.write.Goals as goal

joined : (out a b c d : List ℕ) → (((out ++ a) ++ b) ++ c) ++ d ≡ out ++ (a ++ (b ++ (c ++ d)))
joined out a b c d = simp append_assoc

splice_added : (out kind numbers new : List ℕ) (offset remove : ℕ) (content : List ℕ) → kind ≡ out ++ 4 ∷ [] → numbers ≡ (kind ++ number offset) ++ number remove → new ≡ numbers ++ counted content
    → new ≡ out ++ action_string (Splice offset remove content)
splice_added out kind numbers new offset remove content p q r =
    r ∙ ap (λ xs. xs ++ counted content) (q ∙ ap (λ xs. (xs ++ number offset) ++ number remove) p) ∙ joined out (4 ∷ []) (number offset) (number remove) (counted content)

pub returns-in_ok-write_numbers-in-Splice-clause-added : goal.returns-in_ok-write_numbers-in-Splice-clause-added
returns-in_ok-write_numbers-in-Splice-clause-added c =
    on_ok_weaker c.write_content-in-Splice.result (λ added. splice_added _ _ _ _ _ _ _ c.in_ok-push-in-Splice.ensures.items c.in_ok-write_numbers-in-Splice.ensures added
    ∙ ap (λ action. c.args.out.now.items ++ action_string action) (sym c.in-Splice.is)) c.write_content-in-Splice.ensures
