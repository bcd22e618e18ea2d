use Rattle.std.proofs.Common.{◌≡◌, ℕ, List, [], reverse, sym, ◌∙◌, ap}
use Rattle.std.specs.List.{flat_map}
use Rattle.std.proofs.lemmas.List.{reverse-reverse}
use Rattle.guarded_update.specs.declared.setup.Place.{Place}
use Rattle.guarded_update.specs.declared.setup.Setup.{Setup}
use Rattle.script_terms.specs.declared.item.Placed.{Placed}
use Rattle.script_terms.specs.declared.line.Line.{Line}
use Rattle.script_terms.specs.declared.script.Script.{Script}
use Rattle.script_grammar.specs.Known.{Known, known}
use Rattle.script_grammar.specs.Script.{items, event_in, setup_by, homes_by, script_by}
use Rattle.script_text.proofs.state.State.into_script.Goals as goal

same_parts : (s t : Setup) (r q : List (Place × ℕ)) (h i : List Place) (l m : List (ℕ × Line)) → s ≡ t → r ≡ q → h ≡ i → l ≡ m
    → let left : Script = record { setup = s; replicas = r; homes = h; lines = l } in let right : Script = record { setup = t; replicas = q; homes = i; lines = m } in left ≡ right
same_parts s t r q h i l m a b d e = cc

-- the script of lines that were kept the oldest first
whole : (k : Known) (setup : Setup) (replicas : List (Place × ℕ)) (homes : List Place) (lines : List (ℕ × Line)) (kept all : List Placed) → setup ≡ setup_by k → replicas ≡ [] → homes ≡ homes_by k
    → lines ≡ flat_map event_in kept → k ≡ known (items (reverse kept)) → reverse kept ≡ all → let left : Script = record { setup = setup; replicas = replicas; homes = homes; lines = lines } in left ≡ script_by all
whole k setup replicas homes lines kept all s r h l is turned =
    same_parts _ _ _ _ _ _ _ _ (s ∙ ap setup_by is ∙ ap (λ x. setup_by (known (items x))) turned) r (h ∙ ap homes_by is ∙ ap (λ x. homes_by (known (items x))) turned)
    (l ∙ ap (flat_map event_in) (sym (reverse-reverse kept) ∙ ap reverse turned))

pub returns : goal.returns
returns c =
    whole c.self.inside.known c.into_setup.result c.new.result c.in_ok-homes.homes c.in_ok-lines.lines c.self.inside.placed.items c.args.self c.into_setup.ensures c.new.ensures c.in_ok-homes.ensures
    c.in_ok-lines.ensures c.self.invariant.known c.self.view_is
