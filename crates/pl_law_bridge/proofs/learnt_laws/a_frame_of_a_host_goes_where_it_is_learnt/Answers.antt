use Rattle.pl_law_bridge.proofs.GoingAlone.{from_host_alone}
use Rattle.pl_law_bridge.proofs.learnt_laws.a_frame_of_a_host_goes_where_it_is_learnt.Goals as goal

pub returns : goal.returns
returns g c = λ old new h attachment p id frame items counted head found step has on fine.
    from_host_alone g.M.ManagerLogic.rule g.H.HostLogic.rule old new counted h.0 attachment id frame items p head found step has on fine
