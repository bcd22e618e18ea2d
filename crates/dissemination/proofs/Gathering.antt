-- Strings that are named, and then others.
use Rattle.std.proofs.Common.{◌++◌, ℕ, List, [], Contains, refl, ap, sym, ◌∙◌}
use Rattle.std.proofs.lemmas.List.Elements.{Contains-append_left, Contains-append_right}
use Rattle.block_names.specs.Held.{Held}
use Rattle.block_names.specs.Growth.{Grew, keep_all}
use Rattle.block_names.proofs.Grown.{grew_none, grew_then, keep_append}
use Rattle.block_names.proofs.Clashed.{held_none, held_then}
use Rattle.dissemination.specs.Namings.{Names}

module _ (h : List ℕ → List ℕ) where
  pub names_none : (held : Held) → Names h [] held held
  names_none held = record { held = refl; all = held_none h held }

  pub names_then : (a b c : Held) (xs ys : List (List ℕ)) → Names h xs a b → Grew h b (Contains ys) c → Names h ys b c → Names h (xs ++ ys) a c
  names_then a b c xs ys first grew second = record {
    held = second.held ∙ ap (keep_all h ys) first.held ∙ sym (keep_append h xs ys a);
    all = held_then h b c xs ys grew.kept first.all second.all;
  }

  pub grew_both : (a b c : Held) (xs ys : List (List ℕ)) → Grew h a (Contains xs) b → Grew h b (Contains ys) c → Grew h a (Contains (xs ++ ys)) c
  grew_both a b c xs ys = grew_then h a b c (Contains xs) (Contains ys) (Contains (xs ++ ys)) (Contains-append_left xs ys) (Contains-append_right xs ys)

  -- the strings that were named first are among all
  pub grew_first : (a b : Held) (xs ys : List (List ℕ)) → Grew h a (Contains xs) b → Grew h a (Contains (xs ++ ys)) b
  grew_first a b xs ys grew = grew_then h a b b (Contains xs) (Contains ys) (Contains (xs ++ ys)) (Contains-append_left xs ys) (Contains-append_right xs ys) grew (grew_none h b (Contains ys))

  -- of a wider kind
  pub grew_wider : (a b : Held) (Xs Zs : List ℕ → Type 0) → ((s : List ℕ) → Xs s → Zs s) → Grew h a Xs b → Grew h a Zs b
  grew_wider a b Xs Zs more grew = grew_then h a b b Xs Xs Zs more more grew (grew_none h b Xs)
