-- What is said of a journal that a run saved, once it is checked.
use Rattle.std.specs.Prelude.{◌≡◌}
use Rattle.pl_shelf.specs.Held.{IsLonger, ShelfMoment}
use Rattle.pl_inputs.specs.declared.status.Status.TheVariants as status
use Rattle.pl_inputs.specs.declared.words.Network.TheVariants.{Fabric}
use Rattle.pl_inputs.specs.Inputs.{journal_limit}
use Rattle.pl_inputs.specs.Words.{Asked}
use Rattle.pl_output.specs.Receipts.{journal_name}
use Rattle.pl_run.specs.Answers.{Answers}
use Rattle.pl_run.specs.Complete.{IsShown}

-- a run on the fabric saved all, and not over its topology; the shelf tells what its journal is, which is short enough to be read
pub record HasSaved (old new : ShelfMoment) (asked : Asked) : Type 0 where
  pub fabric : asked.network ≡ Fabric
  pub done : Answers old new asked status.Done
  pub topology : new.held asked.topology ≡ old.held asked.topology
  pub told : IsShown old.held asked.topology
  pub shown : IsShown new.held (journal_name asked.out)
  pub short : IsLonger (new.held (journal_name asked.out)) journal_limit → ⊥
