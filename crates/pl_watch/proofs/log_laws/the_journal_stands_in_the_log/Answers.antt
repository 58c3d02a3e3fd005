use Rattle.std.proofs.Common.{refl}
use Rattle.pl_world.specs.Booting.{booted}
use Rattle.pl_watch.proofs.Entries.{entries_of_log}
use Rattle.pl_watch.proofs.Growing.{journal_grows}
use Rattle.pl_watch.proofs.log_laws.the_journal_stands_in_the_log.Goals as goal

pub returns : goal.returns
returns g c = λ look plan limits moments new lines begins all log.
    entries_of_log look all g.S.SwitchLogic.rule g.M.ManagerLogic.rule g.H.HostLogic.rule
    (journal_grows g.S.SwitchLogic.rule g.M.ManagerLogic.rule g.H.HostLogic.rule) (booted plan limits) moments new lines refl log
