use Rattle.std.proofs.Common.{◌≡◌, ◌++◌, Contains, List, ℕ}
use Rattle.block_names.specs.Clashes.{AreHeld}
use Rattle.block_names.specs.Growth.{Grew, keep_all}
use Rattle.fragment_store.specs.Pairs.{spoil_all, strings_of, spoiled_strings}
use Rattle.fragment_store.proofs.store.Store.spoiled.Given as goal

abbrev pub invariant-loop-name : goal.invariant-loop-name
invariant-loop-name g l =
    record {
      can : (goal.iterator-loop-name g).can_next l.name-iterator;
      finite : (goal.iterator-loop-name g).is_finite l.name-iterator;
      pairs : l.store ++ spoil_all l.name-iterator ≡ spoil_all l.self;
      within : (s : List ℕ) → Contains (spoiled_strings l.name-iterator) s → Contains (spoiled_strings l.self) s;
      held : keep_all g.H.Hash160.naming (spoiled_strings l.name-iterator) l.book.held ≡ keep_all g.H.Hash160.naming (spoiled_strings l.self) l.fn.book.held;
      all : AreHeld g.H.Hash160.naming l.book.held (strings_of l.store);
      grew : Grew g.H.Hash160.naming l.fn.book.held (Contains (spoiled_strings l.self)) l.book.held;
    }
