use Rattle.std.proofs.Common.{refl}
use Rattle.pl_manager.proofs.Anew.{known_anew}
use Rattle.pl_manager.proofs.known.Known.new.Goals as goal

pub returns : goal.returns
returns c = known_anew _ c.args.k c.args.epoch refl c.in_ok-routing.ensures c.new-2.ensures c.new-3.ensures
