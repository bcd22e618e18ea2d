-- The lines of a client: of its requests, one after the other, and of the labels with its hearts.
use Rattle.std.proofs.Common.{◌≡◌, ◌+◌, ℕ, suc, Option, Some, List, [], ◌∷◌, ◌++◌, map, codes, refl, sym, ◌∙◌, ap, append_assoc, append-nil, add-one}
use Rattle.std.specs.Fmt.{decimal}
use Rattle.std.specs.List.{flat_map}
use Rattle.pond_base.specs.declared.numbers.Version.{Version}
use Rattle.object_model.specs.Trees.{object_name}
use Rattle.ring_model.specs.Messages.{Ring, Letter}
use Rattle.ring_model.specs.Belief.{heart_of}
use Rattle.heartbeat.specs.Joins.{marked}
use Rattle.text_model.specs.Blocks as model
use Rattle.script_printing.specs.Clients.{request_line}

-- ---- requests

-- a line more
pub line_more : (believed : ℕ → Option (List ℕ)) (earlier : ℕ) (outcome : Option (List ℕ)) (line : List ℕ) → believed (earlier + 1) ≡ outcome → line ≡ request_line (earlier + 1) outcome
    → model.request_lines believed earlier ++ line ≡ model.request_lines believed (earlier + 1)
line_more believed earlier outcome line of is =
    let before = model.request_lines believed earlier in
    ap (λ more. before ++ more) (is ∙ sym (ap (request_line (earlier + 1)) of) ∙ ap (λ n. request_line n (believed n)) (add-one earlier))
    ∙ five before (decimal (suc earlier)) (codes " ") (model.belief_text (believed (suc earlier))) model.line_feed
    ∙ sym (ap (model.request_lines believed) (add-one earlier))
  where
    five : (a b c d e : List ℕ) → a ++ (b ++ c ++ d ++ e) ≡ a ++ b ++ c ++ d ++ e
    five a b c d e = simp append_assoc

-- ---- hearts

-- the line of a label with a heart
pub heart_line_is : (label text object : List ℕ) (heart : Option (Version × List ℕ)) (found : Version × List ℕ) (printed : List ℕ) → heart ≡ Some found → text ≡ label
    → printed ≡ codes "heart " ++ (text ++ (codes " " ++ (decimal found.0.0 ++ 10 ∷ []))) → printed ≡ model.heart_line label (marked object heart)
heart_line_is label text object heart found printed there same is =
    is ∙ five (codes "heart ") text (codes " ") (decimal found.0.0) (10 ∷ [])
    ∙ ap (λ name. codes "heart " ++ name ++ codes " " ++ decimal found.0.0 ++ model.line_feed) same
    ∙ sym (ap (λ mark. model.heart_line label (marked object mark)) there)
  where
    five : (a b c d e : List ℕ) → a ++ (b ++ (c ++ (d ++ e))) ≡ a ++ b ++ c ++ d ++ e
    five a b c d e = simp append_assoc

-- the lines of labels, each beside the name of its object
abbrev pub heart_lines : Ring → List Letter → List (List ℕ × List ℕ) → List ℕ
heart_lines g got entries = flat_map (λ (e : List ℕ × List ℕ). model.heart_line e.0 (heart_of g e.1 got)) entries

-- a line more is printed, and the rest is left
pub heart_more : (g : Ring) (got : List Letter) (entry : List ℕ × List ℕ) (left rest : List (List ℕ × List ℕ)) (text line all : List ℕ) → left ≡ entry ∷ rest → line ≡ model.heart_line entry.0 (heart_of g entry.1 got)
    → text ++ heart_lines g got left ≡ all → (text ++ line) ++ heart_lines g got rest ≡ all
heart_more g got entry left rest text line all next is before =
    append_assoc text line (heart_lines g got rest) ∙ ap (λ l. text ++ (l ++ heart_lines g got rest)) is ∙ sym (ap (λ es. text ++ heart_lines g got es) next) ∙ before

-- at the end all are
pub hearts_all : (g : Ring) (got : List Letter) (left : List (List ℕ × List ℕ)) (text all : List ℕ) → left ≡ [] → text ++ heart_lines g got left ≡ all → text ≡ all
hearts_all g got left text all none before = sym (append-nil text) ∙ sym (ap (λ es. text ++ heart_lines g got es) none) ∙ before

-- the lines of labels alone
pub lines_of_labels : (g : Ring) (got : List Letter) (h : List ℕ → List ℕ) (labels : List (List ℕ))
    → heart_lines g got (map (λ label. (label, object_name h label)) labels) ≡ flat_map (λ label. model.heart_line label (heart_of g (object_name h label) got)) labels
lines_of_labels g got h [] = refl
lines_of_labels g got h (label ∷ labels) = ap (λ lines. model.heart_line label (heart_of g (object_name h label) got) ++ lines) (lines_of_labels g got h labels)

-- ---- all lines

-- what a client shows, with some lines
abbrev pub with_lines : ℕ → ℕ → List ℕ → List ℕ → List ℕ
with_lines client count requests hearts = codes "client " ++ decimal client ++ codes " requests " ++ decimal count ++ model.line_feed ++ requests ++ hearts

pub lines_are : (client count : ℕ) (requests hearts printed : List ℕ) → printed ≡ codes "client " ++ (decimal client ++ (codes " requests " ++ (decimal count ++ (10 ∷ (requests ++ hearts))))) → printed ≡ with_lines client count requests hearts
lines_are client count requests hearts printed is = is ∙ seven (codes "client ") (decimal client) (codes " requests ") (decimal count) (10 ∷ []) requests hearts
  where
    seven : (a b c d e f g : List ℕ) → a ++ (b ++ (c ++ (d ++ (e ++ (f ++ g))))) ≡ a ++ b ++ c ++ d ++ e ++ f ++ g
    seven a b c d e f g = simp append_assoc
