use Rattle.pl_law_bridge.proofs.GoingAlone.{over_link_alone}
use Rattle.pl_law_bridge.proofs.learnt_laws.a_frame_from_a_link_goes_where_it_is_learnt.Goals as goal

pub returns : goal.returns
returns g c = λ old new s t port q p id frame items counted head peer step has on fine.
    over_link_alone g.M.ManagerLogic.rule g.H.HostLogic.rule old new counted s port t q id frame items p head peer step has on fine
