use Rattle.std.proofs.Common.{refl, ap, eq-eqb}
use Rattle.pl_journal.specs.declared.entry.Entry.TheVariants.{Arrived, Dropped, Taken}
use Rattle.pl_world.specs.Booting.{booted}
use Rattle.pl_world.specs.Changes.{host_no}
use Rattle.pl_law_invariant.proofs.Exports.{run_lawful}
use Rattle.pl_law_arrival.proofs.Arriving.{no_other_end, receiver_of}
use Rattle.pl_law_arrival.proofs.Cores.{sure_lawful}
use Rattle.pl_law_arrival.proofs.arrival_laws.a_sure_frame_has_no_other_end.Goals as goal

pub returns-clause-dropped : goal.returns-clause-dropped
returns-clause-dropped g c = λ plan limits before moments more old new last id h k cause can run sure over rest.
    no_other_end g.H.HostLogic.rule g.met.H.HostLogic.sends g.met.H.HostLogic.owns g.met.H.HostLogic.keeps plan limits can before old
    (run_lawful g.S.SwitchLogic.rule g.M.ManagerLogic.rule g.H.HostLogic.rule g.met.S.LooseSwitch.obeys g.met.M.LawfulManager.lawful (booted plan limits) before old run)
    id h k moments new (sure_lawful g.S.SwitchLogic.rule g.M.ManagerLogic.rule g.H.HostLogic.rule g.met.S.LooseSwitch.obeys g.met.M.LawfulManager.lawful old moments new id h k sure) more last
    (run_lawful g.S.SwitchLogic.rule g.M.ManagerLogic.rule g.H.HostLogic.rule g.met.S.LooseSwitch.obeys g.met.M.LawfulManager.lawful new more last rest) over
    (Dropped id cause) (eq-eqb id id refl) (λ f e. cc e)

pub returns-clause-taken : goal.returns-clause-taken
returns-clause-taken g c = λ plan limits before moments more old new last id h k switch can run sure over rest.
    no_other_end g.H.HostLogic.rule g.met.H.HostLogic.sends g.met.H.HostLogic.owns g.met.H.HostLogic.keeps plan limits can before old
    (run_lawful g.S.SwitchLogic.rule g.M.ManagerLogic.rule g.H.HostLogic.rule g.met.S.LooseSwitch.obeys g.met.M.LawfulManager.lawful (booted plan limits) before old run)
    id h k moments new (sure_lawful g.S.SwitchLogic.rule g.M.ManagerLogic.rule g.H.HostLogic.rule g.met.S.LooseSwitch.obeys g.met.M.LawfulManager.lawful old moments new id h k sure) more last
    (run_lawful g.S.SwitchLogic.rule g.M.ManagerLogic.rule g.H.HostLogic.rule g.met.S.LooseSwitch.obeys g.met.M.LawfulManager.lawful new more last rest) over
    (Taken id switch) (eq-eqb id id refl) (λ f e. cc e)

pub returns-clause-elsewhere : goal.returns-clause-elsewhere
returns-clause-elsewhere g c = λ plan limits before moments more old new last id h k other frame can run sure over rest differ.
    no_other_end g.H.HostLogic.rule g.met.H.HostLogic.sends g.met.H.HostLogic.owns g.met.H.HostLogic.keeps plan limits can before old
    (run_lawful g.S.SwitchLogic.rule g.M.ManagerLogic.rule g.H.HostLogic.rule g.met.S.LooseSwitch.obeys g.met.M.LawfulManager.lawful (booted plan limits) before old run)
    id h k moments new (sure_lawful g.S.SwitchLogic.rule g.M.ManagerLogic.rule g.H.HostLogic.rule g.met.S.LooseSwitch.obeys g.met.M.LawfulManager.lawful old moments new id h k sure) more last
    (run_lawful g.S.SwitchLogic.rule g.M.ManagerLogic.rule g.H.HostLogic.rule g.met.S.LooseSwitch.obeys g.met.M.LawfulManager.lawful new more last rest) over
    (Arrived id (host_no other) frame) (eq-eqb id id refl) (λ f e. differ (ap receiver_of e))
