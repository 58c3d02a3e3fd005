-- Words, items and tasks as the code holds them.
use Rattle.std.specs.Prelude.{ℕ, ◌≤◌, List, map}
use Rattle.std.specs.Borrow.{Bor}
use Rattle.pl_wiring.specs.Labels.{IsArity}
use Rattle.pl_inputs.specs.declared.words.Generation.{Generation}
use Rattle.pl_inputs.specs.declared.words.Files.{Files}
use Rattle.pl_inputs.specs.declared.words.Task.{Task as Told}
use Rattle.pl_inputs.specs.declared.words.Task.TheVariants as told
use Rattle.pl_inputs.specs.declared.words.items.Item.{Item}
use Rattle.pl_inputs.specs.Words.{Asked, Given, Task, Run, Check, Generate, Verify}

abbrev pub texts : List (Bor (List ℕ)) → List (List ℕ)
texts words = map (λ w. w.now) words

abbrev pub asked : Files → Asked
asked files =
    record { network = files.network; topology = files.topology.now; script = files.script.now; captures = files.captures.now; out = files.out.now }

abbrev pub task : Told → Task
task (told.Run files) = Run (asked files)
task (told.Check topology) = Check topology.now
task (told.Generate generation) = Generate generation
task (told.Verify topology journal) = Verify topology.now journal.now

abbrev pub given : Item → Given
given item = (item.name.now, item.value.now)

-- what may be made
pub record MayBeMade (g : Generation) : Type 0 where
  pub arity : IsArity g.k
  pub some_frames : 1 ≤ g.frames
  pub few_frames : g.frames ≤ 100000

abbrev pub IsWithinLimits : Told → Type 0
IsWithinLimits (told.Generate generation) = MayBeMade generation
IsWithinLimits _ = Unit {0}
