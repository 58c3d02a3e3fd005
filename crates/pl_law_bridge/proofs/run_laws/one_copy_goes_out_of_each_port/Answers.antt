use Rattle.std.proofs.Common.{arith}
use Rattle.pl_law_bridge.proofs.Keeping.{goes_out_once}
use Rattle.pl_law_bridge.proofs.run_laws.one_copy_goes_out_of_each_port.Goals as goal

pub returns : goal.returns
returns g c = record {
  gone = λ old moments new r there none run is.
      let most = goes_out_once g.M.ManagerLogic.rule g.H.HostLogic.rule g.met.H.HostLogic.sends old moments new none run is r there in omega (arith, most);
  waiting = λ old moments new r there none run is. goes_out_once g.M.ManagerLogic.rule g.H.HostLogic.rule g.met.H.HostLogic.sends old moments new none run is r there;
}
