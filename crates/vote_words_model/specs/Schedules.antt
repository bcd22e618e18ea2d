-- Boards that guard the definitions: what can happen does, and what must not cannot.
use Rattle.std.specs.Prelude.{List, [], ◌∷◌}
use Rattle.vote_words_model.specs.declared.Terms.{Terms}
use Rattle.vote_words_model.specs.declared.View.{View}
use Rattle.vote_words_model.specs.Places.{terms_of}
use Rattle.vote_words_model.specs.Views.{IsPrepared, IsDecided}
use Rattle.vote_words_model.specs.Steps.{Kind, LoadsPrepare, LoadsCommit, Prepares, Commits, Event, board, view_at, IsSchedule}

-- one member and one slot, where any value may be prepared
abbrev pub one_member : Terms
one_member = terms_of 0 1 (0 ∷ [])

-- a step of the first seat
abbrev pub by_first : Kind → Event
by_first kind = record { seat = 0; kind = kind }

-- the member prepares 9, looks, commits 9, and looks
abbrev pub nine_voted : List Event
nine_voted = by_first (LoadsCommit 1 0) ∷ by_first (Commits 1 0 9) ∷ by_first (LoadsPrepare 1 0) ∷ by_first (Prepares 1 0 9) ∷ []

-- That is a schedule, after which the seat has decided 9.
abbrev pub OneMemberDecides : Type 0
OneMemberDecides = IsSchedule one_member nine_voted × IsDecided one_member (view_at (board one_member nine_voted) 0) 1 9

-- four members and one slot
abbrev pub four_members : Terms
four_members = terms_of 1 1 (0 ∷ 0 ∷ 0 ∷ 0 ∷ [])

-- two prepare words are known with 9, one of them twice, and so are all commit words
abbrev pub two_known : View
two_known = record { known = (1, 9) ∷ (2, 9) ∷ (1, 9) ∷ (5, 9) ∷ (6, 9) ∷ (7, 9) ∷ (8, 9) ∷ []; loads = []; sets = [] }

-- With them nothing is prepared; 9 is decided.
abbrev pub TwoWordsAreNoQuorum : Type 0
TwoWordsAreNoQuorum = (¬ IsPrepared four_members two_known 1 9) × IsDecided four_members two_known 1 9
