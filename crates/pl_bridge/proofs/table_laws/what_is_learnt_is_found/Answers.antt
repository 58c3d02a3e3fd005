use Rattle.pl_bridge_rule.proofs.Exports.{learnt_is_found}
use Rattle.pl_bridge.proofs.Entries.{learnt_stands}
use Rattle.pl_bridge.proofs.table_laws.what_is_learnt_is_found.Goals as goal

pub returns : goal.returns
returns c = λ k port mac members sound is_mac within. learnt_is_found k port mac members within (learnt_stands port mac members is_mac sound.at_ports)
