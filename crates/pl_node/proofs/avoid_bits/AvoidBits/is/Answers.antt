use Rattle.std.proofs.Common.{None, ◌∙◌, ap, sym}
use Rattle.pl_node.specs.Hidden.{shown}
use Rattle.pl_node.proofs.Shown.{all_shown}
use Rattle.pl_node.proofs.avoid_bits.AvoidBits.is.Goals as goal

pub returns : goal.returns
returns c = (
  λ h. sym (all_shown c.args.self.now) ∙ c.is_but.ensures.0 h ∙ all_shown c.args.other.now,
  λ same. c.is_but.ensures.1 (ap (shown None) same),
)
