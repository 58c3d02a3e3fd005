use Rattle.pl_law_records.proofs.EntryRuns.{run_written, written_at_first}
use Rattle.pl_world.specs.Booting.{booted}
use Rattle.pl_law_records.proofs.entry_laws.places_are_what_was_written_last_in_every_run.Goals as goal

pub returns : goal.returns
returns g c = λ plan limits moments new run.
    run_written g.S.SwitchLogic.rule g.M.ManagerLogic.rule g.H.HostLogic.rule (booted plan limits) moments new (written_at_first plan limits) run
