use Rattle.std.proofs.Common.{subst}
use Rattle.pl_wiring.specs.Plan.{Plan}
use Rattle.pl_world.specs.Booting.{booted}
use Rattle.pl_world.specs.Runs.{WorldRun}
use Rattle.pl_world.specs.Changes.{host_no}
use Rattle.pl_journal.specs.declared.entry.Entry.TheVariants.{Arrived}
use Rattle.pl_node.proofs.Exports.{among_of_Contains, Contains-of_among}
use Rattle.pl_law_invariant.proofs.Exports.{run_lawful}
use Rattle.pl_law_arrival.proofs.Exports.{stays_written}
use Rattle.pl_law_theorem.proofs.theorem.sure_frames_arrive.Goals as goal

pub returns : goal.returns
returns g c = λ plan limit moments new can run limits before during after old ended id h k start sure over went.
    let same = c.each_run_keeps_the_wiring.ensures plan limit moments new can run in
    let from : Plan → Type 0 = λ p. WorldRun g.S.SwitchLogic.rule g.M.ManagerLogic.rule g.H.HostLogic.rule (booted p limits) before old in
    let began = subst from same start in
    let come = c.a_sure_frame_that_ends_has_arrived.ensures plan limits before during old ended id h k can began sure over in
    let no_other = c.a_sure_frame_has_no_other_end.ensures in
    let loose = run_lawful g.S.SwitchLogic.rule g.M.ManagerLogic.rule g.H.HostLogic.rule g.met.S.LooseSwitch.obeys g.met.M.LawfulManager.lawful ended after new went in
    record {
      frame = come.0;
      arrived = Contains-of_among (Arrived id (host_no k) come.0) new.journal
          (stays_written g.H.HostLogic.rule ended after new loose (Arrived id (host_no k) come.0)
          (among_of_Contains (Arrived id (host_no k) come.0) ended.journal come.1));
      not_dropped = λ cause there. no_other.dropped plan limits before during after old ended new id h k cause can began sure over went there;
      not_taken = λ switch there. no_other.taken plan limits before during after old ended new id h k switch can began sure over went there;
      nowhere_else = λ other copy differ there. no_other.elsewhere plan limits before during after old ended new id h k other copy can began sure over went differ there;
    }
