use Rattle.std.proofs.Common.{sym, ◌∙◌}
use Rattle.pl_lists.proofs.PortBits.{has_port_is}
use Rattle.pl_lists.proofs.port_set.PortSet.contains.Goals as goal

pub returns : goal.returns
returns c = c.has.ensures ∙ sym (has_port_is _ _ c.requires)
