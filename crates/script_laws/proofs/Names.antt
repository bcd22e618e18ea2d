-- Where no two strings that lines name have one name, neither have their requests, and labels have objects of their own.
use Rattle.std.proofs.Common.{◌≡◌, ℕ, List, [], ◌∷◌, ◌++◌, Contains, subst, append-nil}
use Rattle.std.specs.List.{flat_map}
use Rattle.std.proofs.lemmas.List.Elements.{Contains-append_left, Contains-append_right}
use Rattle.guarded_update.specs.declared.request.Request.{Request}
use Rattle.tree_format.specs.Strings.{label_string}
use Rattle.object_model.specs.Trees.{version_strings}
use Rattle.ring_model.specs.Laws.{NoClash}
use Rattle.ring_model.proofs.Lists.{there_map, there_flat}
use Rattle.fold_model.specs.Folds.{requests_of}
use Rattle.fold_model.specs.LabelLaws.{LabelsApartWith}
use Rattle.script_terms.specs.declared.script.Script.{Script}
use Rattle.text_model.specs.Requests.{Numbered}
use Rattle.text_model.specs.Events.{ring_for, world_of}
use Rattle.text_model.specs.Clashes as text
use Rattle.text_model.specs.Labels.{labels_in}
use Rattle.text_model.specs.Named.{label_strings, line_strings, named}
use Rattle.script_laws.proofs.Requested.{request_named}
use Rattle.script_laws.proofs.Adding.{lines_ask}

-- what some of the lines name, all of them name
named_more : (h : List ℕ → List ℕ) (script : Script) (later earlier : List Numbered) (string : List ℕ) → Contains (named h script earlier) string → Contains (named h script (later ++ earlier)) string
named_more h script [] earlier string there = there
named_more h script (line ∷ later) earlier string there =
    Contains-append_left (named h script (later ++ earlier)) (line_strings h script (later ++ earlier) line) string (named_more h script later earlier string there)

-- so of what some of the lines name no two have one name
pub clear_before : (h : List ℕ → List ℕ) (script : Script) (lines later earlier : List Numbered) → lines ≡ later ++ earlier → text.NoClash h (named h script lines) → text.NoClash h (named h script earlier)
clear_before h script lines later earlier is clear a b first second =
    let all = subst (λ all. text.NoClash h (named h script all)) is clear in
    all a b (named_more h script later earlier a first) (named_more h script later earlier b second)

-- nor of what the ring was asked for
pub asked_clear : (h : List ℕ → List ℕ) (script : Script) (lines : List Numbered) → text.NoClash h (named h script lines) → NoClash (ring_for h script) (world_of h script lines).submits
asked_clear h script lines clear a b first second = clear a b (asked_named a first) (asked_named b second)
  where
    asked_named : (string : List ℕ) → Contains (world_of h script lines).submits string → Contains (named h script lines) string
    asked_named string there =
        let request = lines_ask h script lines string there in
        subst (Contains (named h script lines)) request.2 (request_named h script lines request.0 request.1)

-- a label that stands in the script is named
pub standing_named : (h : List ℕ → List ℕ) (script : Script) (lines : List Numbered) (line : Numbered) (label : List ℕ) → Contains script.lines line → Contains (labels_in line.1) label
    → Contains (named h script lines) (label_string label)
standing_named h script lines line label there stands =
    let own = there_flat label_strings script.lines line (label_string label) there (there_map label_string (labels_in line.1) label stands) in
    let start = Contains-append_right (version_strings h script.setup.block [] []) (flat_map label_strings script.lines) (label_string label) own in
    subst (λ all. Contains (named h script all) (label_string label)) (append-nil lines) (named_more h script lines [] (label_string label) start)

-- a label's string tells which it is
same_label : (a b : List ℕ) → label_string a ≡ label_string b → a ≡ b
same_label a b same = cc same

-- labels that are named have objects of their own, where no two strings that are named have one name
pub labels_apart : (h : List ℕ → List ℕ) (names strings : List (List ℕ)) (label : List ℕ) → text.NoClash h names
    → ((request : Request) → Contains (requests_of strings) request → Contains names (label_string request.label)) → Contains names (label_string label) → LabelsApartWith h label strings
labels_apart h names strings label clear are own = (
  λ a b first second same. same_label a.label b.label (clear (label_string a.label) (label_string b.label) (are a first) (are b second) same),
  λ request there same. same_label request.label label (clear (label_string request.label) (label_string label) (are request there) own same),
)
