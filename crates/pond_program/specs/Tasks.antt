-- What words ask for.
use Rattle.std.specs.Prelude.{ℕ, List, [], ◌∷◌, codes, if◌then◌else◌}
use Rattle.std.specs.Str.{bytes_eq}
use Rattle.pond_program.specs.declared.task.Task.{Task}
use Rattle.pond_program.specs.declared.task.Task.TheVariants.{Run, Usage}

-- the task of some words: `run` alone runs a script, and no other words are known
abbrev pub task_of : List (List ℕ) → Task
task_of (word ∷ []) = if bytes_eq word (codes "run") then Run else Usage
task_of words = Usage
