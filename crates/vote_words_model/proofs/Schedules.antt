-- What holds along a schedule.
use Rattle.std.proofs.Common.{◌≢◌, ℕ, ◌<◌, ◌≤◌, List, [], ◌∷◌, ◌++◌, length, refl, sym, ◌∙◌, arith}
use Rattle.vote_words_model.specs.declared.Terms.{Terms}
use Rattle.vote_words_model.specs.Places.{quorum, commit_word, commit_words}
use Rattle.vote_words_model.specs.Views.{IsDecided}
use Rattle.vote_words_model.specs.Steps.{IsKept, count_standing, view_at, Event, board, IsSchedule}
use Rattle.vote_words_model.specs.Laws.{AllDecideOne}
use Rattle.vote_words_model.proofs.Standing.{Stays, standing_stays}
use Rattle.vote_words_model.proofs.Knowing.{IsSound-standing, known_stands}
use Rattle.vote_words_model.proofs.Deciding.{decided_full, stands_one}
use Rattle.vote_words_model.proofs.Keeping.{opening_is_kept, steps_keep, words_stay, seat_stands}

-- a schedule keeps the rule
pub schedule_keeps : (t : Terms) (events : List Event) → IsSchedule t events → IsKept t (board t events)
schedule_keeps t [] h = opening_is_kept t
schedule_keeps t (e ∷ older) h = steps_keep t (board t older) e.seat e.kind (schedule_keeps t older h.2) h.0 h.1

-- the part that came first is a schedule
pub IsSchedule-append : (t : Terms) (newer older : List Event) → IsSchedule t (newer ++ older) → IsSchedule t older
IsSchedule-append t [] older h = h
IsSchedule-append t (e ∷ newer) older h = IsSchedule-append t newer older h.2

-- words that are not 0 stay along it
pub schedule_stays : (t : Terms) (newer older : List Event) → IsSchedule t (newer ++ older) → Stays (board t older).words (board t (newer ++ older)).words
schedule_stays t [] older h i full = refl
schedule_stays t (e ∷ newer) older h i full =
    let before = schedule_stays t newer older h.2 i full in
    words_stay t (board t (newer ++ older)) e.seat e.kind (schedule_keeps t (newer ++ older) h.2) h.0 h.1 i (λ none. full (sym before ∙ none)) ∙ before

-- what a seat has decided is not 0, and stands in a quorum of commit words
decided_stands : (t : Terms) (events : List Event) (seat slot x : ℕ) → IsSchedule t events → seat < length (board t events).views → IsDecided t (view_at (board t events) seat) slot x
    → (x ≢ 0) × (quorum t ≤ count_standing (board t events).words (commit_words t slot) x)
decided_stands t events seat slot x h there decided =
    let stands = seat_stands t (board t events) seat (schedule_keeps t events h) there in
    let v = view_at (board t events) seat in
    let often = known_stands (board t events).words v stands x (commit_words t slot) in
    (decided_full t v (IsSound-standing (board t events).words v stands) slot x decided, omega arith)

pub all_decide_one : AllDecideOne
all_decide_one t newer older h p q slot x y there_p decided_p there_q decided_q =
    let a = decided_stands t older p slot x (IsSchedule-append t newer older h) there_p decided_p in
    let b = decided_stands t (newer ++ older) q slot y h there_q decided_q in
    let later = standing_stays (board t older).words (board t (newer ++ older)).words (schedule_stays t newer older h) x a.0 (commit_words t slot) in
    stands_one t.f (commit_word t slot 0) (board t (newer ++ older)).words x y (omega arith) b.1
