-- Places and roles of words, as the grammar has them.
use Rattle.std.specs.Prelude.{ℕ}
use Rattle.script_grammar.specs.Update as spec
use Rattle.script_words.specs.declared.place.Place.{Place}
use Rattle.script_words.specs.declared.place.Place.TheVariants.{AtClause, AtGuard, AfterGuard, AtAction, AfterAction}

-- a place
abbrev pub place_view : Place → spec.Place
place_view AtClause = spec.AtClause
place_view AtGuard = spec.AtGuard
place_view AfterGuard = spec.AfterGuard
place_view AtAction = spec.AtAction
place_view AfterAction = spec.AfterAction

-- a role: how many words, and the next place
abbrev pub role_view : ℕ × Place → ℕ × spec.Place
role_view r = (r.0, place_view r.1)
