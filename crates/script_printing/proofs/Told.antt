-- The lines of deliveries, as a world tells of them.
use Rattle.std.proofs.Common.{◌≡◌, ℕ, List, [], ◌∷◌, ◌++◌, length, map, codes, refl, sym, ◌∙◌, ap, ap₂, append_assoc, append-nil}
use Rattle.std.specs.Fmt.{decimal}
use Rattle.std.specs.List.{flat_map}
use Rattle.std.proofs.lemmas.List.{length-map}
use Rattle.std.proofs.lemmas.Grind.{flat_map-append}
use Rattle.ring_model.specs.Messages.{Party}
use Rattle.ring_model.specs.Places.{Place}
use Rattle.message_model.specs.Told.{Told, told, counted}
use Rattle.text_model.specs.Blocks as model
use Rattle.script_printing.specs.Deliveries.{told_line}

-- the text of some lines
abbrev pub with_lines : ℕ → List ℕ → List ℕ
with_lines count lines = codes "recent " ++ decimal count ++ model.line_feed ++ lines

-- with no line
pub header : (count all : ℕ) (printed : List ℕ) → printed ≡ codes "recent " ++ (decimal count ++ 10 ∷ []) → count ≡ all → printed ≡ with_lines all []
header count all printed is same = is ∙ three (codes "recent ") (decimal count) (10 ∷ []) ∙ ap (λ n. with_lines n []) same
  where
    three : (a b c : List ℕ) → a ++ (b ++ c) ≡ a ++ b ++ c ++ []
    three a b c = simp (append_assoc, append-nil)

-- a line more
pub line_more : (count : ℕ) (deliveries : List Told) (delivery : Told) (line : List ℕ) → line ≡ told_line delivery
    → with_lines count (flat_map told_line deliveries) ++ line ≡ with_lines count (flat_map told_line (deliveries ++ delivery ∷ []))
line_more count deliveries delivery line is =
    append_assoc (codes "recent " ++ decimal count ++ model.line_feed) (flat_map told_line deliveries) line
    ∙ ap (λ more. with_lines count (flat_map told_line deliveries ++ more)) (is ∙ sym (append-nil (told_line delivery)))
    ∙ sym (ap (with_lines count) (flat_map-append told_line deliveries (delivery ∷ [])))

-- a delivery's line is that of its place
line_of : Party × Party × ℕ → List ℕ
line_of d = model.party_text d.0 ++ codes " " ++ model.party_text d.1 ++ codes " " ++ decimal d.2 ++ model.line_feed

lines_are : (deliveries : List Told) (done : List Place) → map told deliveries ≡ map counted done → flat_map told_line deliveries ≡ flat_map model.delivery_line done
unfolding line_of
lines_are [] [] same = refl
lines_are [] (place ∷ done) same = absurd (cc)
lines_are (delivery ∷ deliveries) [] same = absurd (cc)
lines_are (delivery ∷ deliveries) (place ∷ done) same =
    let first : told delivery ≡ counted place = cc in
    let rest : map told deliveries ≡ map counted done = cc in
    ap₂ (λ line lines. line ++ lines) (ap line_of first) (lines_are deliveries done rest)

counts_are : (deliveries : List Told) (done : List Place) → map told deliveries ≡ map counted done → length deliveries ≡ length done
counts_are deliveries done same = sym (length-map deliveries told) ∙ ap length same ∙ length-map done counted

-- all of them
pub all_lines : (deliveries : List Told) (done : List Place) (printed : List ℕ) → map told deliveries ≡ map counted done → printed ≡ with_lines (length deliveries) (flat_map told_line deliveries) → printed ≡ model.recent_text done
all_lines deliveries done printed same is = is ∙ ap₂ with_lines (counts_are deliveries done same) (lines_are deliveries done same)
