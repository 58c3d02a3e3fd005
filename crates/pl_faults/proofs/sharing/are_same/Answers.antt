use Rattle.std.proofs.Common.{◌∙◌, sym}
use Rattle.pl_manager_rule.proofs.Exports.{ids_alike}
use Rattle.pl_faults.proofs.sharing.are_same.Goals as goal

pub returns : goal.returns
returns c h = (ids_alike c.args.a.now c.args.b.now).0 (sym c.eq.ensures ∙ h)
