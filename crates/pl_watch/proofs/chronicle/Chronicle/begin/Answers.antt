use Rattle.std.proofs.Common.{[], refl, sym, subst}
use Rattle.pl_log_lines.specs.Pages.{HoldsText}
use Rattle.pl_watch.proofs.Writing.{begun_seen}
use Rattle.pl_watch.proofs.chronicle.Chronicle.begin.Goals as goal

pub returns : goal.returns
returns g c = λ limits.
    begun_seen g.S.SwitchLogic.rule g.M.ManagerLogic.rule g.H.HostLogic.rule _ c.args.wiring.now limits c.in_ok-boot.ensures.switches
    c.in_ok-boot.ensures.manager refl refl c.in_ok-new.ensures.form (subst (λ held. HoldsText held []) (sym c.in_ok-new.ensures.text) c.requires)
