use Rattle.pl_law_members.proofs.Exports.{lawful_hosts_keep}
use Rattle.pl_law_theorem.proofs.Grouping.{groups_are_well}
use Rattle.pl_law_theorem.proofs.JournalInRuns.{journaled_in_run}
use Rattle.pl_law_theorem.proofs.run_laws.the_journal_says_what_is_so_in_every_run.Goals as goal

pub returns : goal.returns
returns g c = λ plan limits moments new can run few.
    journaled_in_run g.H.HostLogic.rule g.met.H.HostLogic.sends g.met.H.HostLogic.owns g.met.H.HostLogic.keeps plan limits can
    (groups_are_well g.H.HostLogic.rule g.met.H.HostLogic.sends g.met.H.HostLogic.owns g.met.H.HostLogic.joins
    (lawful_hosts_keep g.H.HostLogic.rule g.met.H.LawfulHost.lawful) plan limits can) moments new run few
