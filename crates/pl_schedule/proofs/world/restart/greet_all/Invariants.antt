use Rattle.std.proofs.Common.{◌≡◌, ℕ, [], length, replicate}
use Rattle.pl_node.specs.declared.messages.ToSwitch.TheVariants.{Hello}
use Rattle.pl_schedule.proofs.Greeting.{AreGreeted}
use Rattle.pl_schedule.proofs.world.restart.greet_all.Given as goal

-- those before this one were greeted
abbrev pub invariant-loop-s : goal.invariant-loop-s
invariant-loop-s l =
    record {
      many : length l.from_manager ≡ length l.fn.from_manager;
      greeted : (n : ℕ) → l.fn.from_manager ≡ replicate n [] → AreGreeted (Hello l.epoch) n l.s l.from_manager;
    }
