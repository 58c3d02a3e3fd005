use Rattle.std.proofs.Common.{◌≡◌, List, sym, ◌∙◌}
use Rattle.pl_pmac.specs.declared.pmac.Pmac.{Pmac}
use Rattle.pl_manager.proofs.Turns.{released_both}
use Rattle.pl_manager.proofs.known.Known.release_all.Goals as goal

pub returns-clause-released : goal.returns-clause-released
returns-clause-released c =
    released_both c.release_each-2.result c.args.self.now c.release_each.new.self c.release_each-2.new.self c.args.aged.now c.deref.result.now c.args.out.now
    c.release_each.new.out c.release_each-2.new.out (c.deref.ensures.value ∙ c.in_ok-led.ensures) c.in_ok-release_each.ensures.released c.release_each-2.ensures.released
