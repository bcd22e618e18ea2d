-- What a reader has seen.
use Rattle.std.proofs.Common.{◌≡◌, ℕ, List, length, Option, Some, None, refl, ap, sym, ◌∙◌, subst}
use Rattle.std.specs.Option.{option_map_or}
use mathlib.Core.List.{IsPrefix}
use Rattle.board_model.specs.Boards.{Entry, last_of}
use Rattle.board_model.specs.Rule.{Published, GoesOn, IsSeen}
use Rattle.board_model.proofs.Kept.{goes_trans}
use Rattle.board_model.proofs.Lasts.{last_is}
use Rattle.version_board.specs.Copies.{Copy, Looks}
use Rattle.version_board.specs.Ends.{ReaderView, DoorView}
use Rattle.version_board.specs.Kept.{HasSeen}
use Rattle.version_board.specs.Reads.{Answers, SawMore}
use Rattle.version_board.specs.declared.read.BoardRead.{BoardRead}

-- what goes on from all that was seen goes on from the list that was told
pub goes_on : (sight : Option Published) (seen front : Published) → HasSeen sight seen → IsSeen front sight → GoesOn front seen
goes_on None seen front h k = absurd h
goes_on (Some s) seen front h k = goes_trans front s seen k h

-- the copy that is looked at goes on from the list that was told
pub looked_at : (before now : Option Published) (copy : Copy) (seen : Published) → HasSeen before seen → Looks before copy copy now → GoesOn copy.front seen
looked_at before now copy seen h looks = goes_on before seen copy.front h looks.1.later

-- what was seen goes on from each list from which the copy does
pub has_seen : (before now : Option Published) (copy : Copy) (list : Published) → GoesOn copy.front list → Looks before copy copy now → HasSeen now list
has_seen before now copy list more looks = subst (λ s. HasSeen s list) (sym looks.1.found) more

-- what is read of the last entry of a label is the answer
pub answers : (label : List ℕ) (list : List Entry) (entry : Entry) (read : BoardRead) → Some entry ≡ last_of label list
    → read.version.0 ≡ entry.version → read.bytes.items ≡ entry.bytes → read.seen ≡ length list → Answers label list (Some read)
answers label list entry read last version bytes seen =
    let has = ((last_is label list entry).0 (sym last)).3 in
    (sym last ∙ λ i. Some (record { label = has i; version = (sym version) i; bytes = (sym bytes) i }), seen)

-- a reader, by its door and its lists
abbrev pub reader_of : Option DoorView → Published → Published → ReaderView
reader_of door seen told = record { board = seen.board; seen = seen.list; told = told.list; shut = option_map_or (λ (d : DoorView). d.shut) door 0 }

-- a reader that leaves the copy has seen more
pub saw_more : (door now : DoorView) (copy : Copy) (seen told front : Published) → front ≡ copy.front → GoesOn copy.front seen → IsPrefix told.list front.list → now.shut ≡ door.shut
    → SawMore (reader_of (Some door) seen told) (reader_of (Some now) front told)
saw_more door now copy seen told front is more begins shut = record {
  board = ap (λ (p : Published). p.board) is ∙ more.0;
  seen = subst (λ (p : Published). IsPrefix seen.list p.list) (sym is) more.1;
  told = begins;
  kept = refl;
  shut = shut;
}
