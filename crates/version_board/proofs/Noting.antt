-- What the history has after an entry was noted.
use Rattle.std.proofs.Common.{◌≡◌, ℕ, ◌+◌, ◌≤◌, Bool, true, false, List, [], ◌∷◌, ◌++◌, length, MatchBool, Option, Some, refl, ap, sym, ◌∙◌, subst, arith, append_assoc, length-append}
use Rattle.std.specs.Option.{option_map_or}
use mathlib.Core.List.{IsPrefix}
use Rattle.board_model.specs.Boards.{Entry}
use Rattle.board_model.specs.Rule.{Published}
use Rattle.board_model.proofs.Prefixes.{prefix_self, prefix_trans, prefix_whole}
use Rattle.logbook.specs.Pages.{Named}
use Rattle.version_board.specs.Changes.{added}
use Rattle.version_board.specs.declared.change.Change.TheVariants.{Add}
use Rattle.version_board.specs.Ends.{PenView, WriterView}
use Rattle.version_board.specs.Histories.{word_of}
use Rattle.version_board.specs.Kept.{IsWritten}
use Rattle.version_board.proofs.ChangeLemmas.{added_entry}

-- a beginning of a list begins it with one entry more
pub longer : (list all : List Entry) (e : Entry) → IsPrefix list all → IsPrefix list (all ++ e ∷ [])
longer list all e p = prefix_trans list all (all ++ e ∷ []) p (e ∷ [], refl)

pub noted : (old new : Published) (all : List Entry) (e : Entry) (b : Bool) → MatchBool b (new ≡ record old { list = old.list ++ e ∷ [] }) (new ≡ old)
    → length all ≤ length old.list → IsPrefix old.list all → IsPrefix new.list (all ++ e ∷ [])
noted old new all e true is le p =
    let same : old.list ≡ all = prefix_whole old.list all p le in
    subst (λ (l : List Entry). IsPrefix l (all ++ e ∷ [])) (sym (ap (λ (q : Published). q.list) is ∙ ap (λ l. l ++ e ∷ []) same)) (prefix_self (all ++ e ∷ []))
noted old new all e false is le p = subst (λ (q : Published). IsPrefix q.list (all ++ e ∷ [])) (sym is) (longer old.list all e p)

-- a pen with one entry more pending
abbrev pub with_entry : PenView → Entry → PenView
with_entry pen entry = record pen { changes = pen.changes ++ Add entry ∷ [] }

-- what a writer's type keeps is kept with an entry more
pub written_more : (old new : PenView) (word : Named) (log more : Published) (count : ℕ) (entry : Entry) → IsWritten old word log count → new ≡ with_entry old entry → more.board ≡ log.board
    → ((all : List Entry) → count ≡ length all → IsPrefix log.list all → IsPrefix more.list (all ++ entry ∷ [])) → IsWritten new word more (count + 1)
written_more old new word log more count entry is e board begins =
    let all : List Entry = old.copy.list ++ added old.changes in
    let now : old.copy.list ++ added (old.changes ++ Add entry ∷ []) ≡ all ++ entry ∷ [] =
    ap (λ (l : List Entry). old.copy.list ++ l) (added_entry old.changes entry) ∙ sym (append_assoc old.copy.list (added old.changes) (entry ∷ [])) in
    let total : count ≡ length all = is.total in
    subst (λ (p : PenView). IsWritten p word more (count + 1)) (sym e) (record {
      front = is.front ∙ λ i. record { board = sym board i; list = old.copy.list };
      counter = is.counter ∙ ap word_of (sym board);
      history = subst (IsPrefix more.list) (sym now) (begins all total is.history);
      total = omega (arith, total, ap length now, length-append all (entry ∷ []));
    })

-- a writer, by its pen and its history
abbrev pub writer_of : Option PenView → Published → WriterView
writer_of pen log = record { board = log.board; published = option_map_or (λ (p : PenView). p.copy.list) pen []; pending = option_map_or (λ (p : PenView). added p.changes) pen [] }

pub view_more : (old new : PenView) (log more : Published) (entry : Entry) → new ≡ with_entry old entry → more.board ≡ log.board
    → writer_of (Some new) more ≡ record { board = log.board; published = old.copy.list; pending = added old.changes ++ entry ∷ [] }
view_more old new log more entry e board = λ i. record { board = board i; published = (e i).copy.list; pending = (ap (λ (p : PenView). added p.changes) e ∙ added_entry old.changes entry) i }
