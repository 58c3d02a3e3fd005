use Rattle.pl_node.specs.SwitchFacts.{switch_at_boot}
use Rattle.pl_switch_state.proofs.proposing.has_granted.Goals as goal

pub returns : goal.returns
returns c = c.granted.ensures (switch_at_boot (record { 0 = 0 }) 0)
