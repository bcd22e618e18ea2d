-- Labels whose strings are held have objects of their own.
use Rattle.std.proofs.Common.{◌≡◌, ℕ, List, map, Contains, sym, ap, ◌∙◌, subst}
use Rattle.std.specs.FinMap as finmap
use Rattle.block_names.specs.Held.{Held}
use Rattle.block_names.specs.Growth.{Holds}
use Rattle.tree_format.specs.Strings.{label_string}
use Rattle.guarded_update.specs.declared.request.Request.{Request}
use Rattle.object_model.specs.Trees.{object_name}
use Rattle.message_model.specs.Requests.{request_at}
use Rattle.ring_model.specs.Messages.{Ring}
use Rattle.ring_model.specs.World.{Event, world, IsLegal, chosen}
use Rattle.ring_model.proofs.History.{same_some}
use Rattle.fold_model.specs.Folds.{requests_of}
use Rattle.fold_model.specs.LabelLaws.{LabelsApartWith}
use Rattle.ring_world.specs.Worlds.{LabelsHeld}
use Rattle.ring_world.proofs.Looking.{chosen_asked}
use Rattle.pond_world.proofs.Elements.{in_map, in_reverse}

-- strings that are held under one name are the same
same_held : (h : List ℕ → List ℕ) (held : Held) (a b : List ℕ) → Holds h held a → Holds h held b → h a ≡ h b → a ≡ b
same_held h held a b one two same = same_some a b (sym one ∙ ap (finmap.get held) same ∙ two)

-- labels whose strings are held have names of their own
one_label : (h : List ℕ → List ℕ) (held : Held) (a b : List ℕ) → Holds h held (label_string a) → Holds h held (label_string b) → object_name h a ≡ object_name h b → a ≡ b
one_label h held a b one two same = let strings = same_held h held (label_string a) (label_string b) one two same in cc strings

-- so no label that is held has the name of another among those of committed requests
pub labels_apart : (h : List ℕ → List ℕ) (held : Held) (g : Ring) (events : List Event) (label : List ℕ) → IsLegal g events → LabelsHeld h held (world g events).submits → Holds h held (label_string label)
    → LabelsApartWith h label (chosen g (world g events))
labels_apart h held g events label legal are own = (λ a b one two. one_label h held a.label b.label (of_request a one) (of_request b two), λ r there. one_label h held r.label label (of_request r there) own)
  where
    of_request : (r : Request) → Contains (requests_of (chosen g (world g events))) r → Holds h held (label_string r.label)
    of_request r there =
        let strings = chosen g (world g events) in
        let spelled = in_map request_at strings r (in_reverse (map request_at strings) r there) in
        subst (λ (q : Request). Holds h held (label_string q.label)) spelled.2 (are spelled.0 (chosen_asked g events legal spelled.0 spelled.1))
