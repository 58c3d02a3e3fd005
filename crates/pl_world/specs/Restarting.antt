-- The fabric manager begins anew.
use Rattle.std.specs.Prelude.{◌≡◌, ℕ, ◌+◌, [], ◌∷◌, replicate, reverse}
use Rattle.pl_wiring.specs.Labels.{switch_count}
use Rattle.pl_journal.specs.declared.entry.Entry.TheVariants.{Restarted}
use Rattle.pl_journal.specs.Places.{restarts}
use Rattle.pl_node.specs.declared.messages.ToSwitch.TheVariants.{Hello}
use Rattle.pl_node.specs.ManagerViews.{restarted_manager}
use Rattle.pl_world.specs.Changes.{noted}
use Rattle.pl_world.specs.Worlds.{WorldView}

-- All that waits to the manager and from it vanishes, it knows nothing, and each switch is told that this epoch begins. No frame is touched.
abbrev pub in_epoch : WorldView → ℕ → WorldView
in_epoch w epoch = record w {
  manager = restarted_manager w.manager.k epoch;
  to_manager = replicate (switch_count w.plan.k) [];
  from_manager = replicate (switch_count w.plan.k) (Hello epoch ∷ []);
}

-- the next epoch begins
abbrev pub manager_restarted : WorldView → WorldView
manager_restarted w = noted (in_epoch w (w.manager.epoch + 1)) (Restarted (w.manager.epoch + 1))

-- the manager knows how often the journal says that it began anew
abbrev pub CountsRestarts : WorldView → Type 0
CountsRestarts w = w.manager.epoch ≡ restarts (reverse w.journal)
