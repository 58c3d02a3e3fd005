use Rattle.std.proofs.Common.{List, map, true, sym, ap, ◌∙◌}
use Rattle.pl_pmac.specs.declared.pmac.Pmac.{Pmac}
use Rattle.pl_gathering.specs.Gathering.{in_turn}
use Rattle.pl_gatherer.specs.Gatherers.{heard_of}
use Rattle.pl_manager_rule.specs.Treating.{waits_for_places}
use Rattle.pl_manager.specs.Manager.{done_so_far, put, treated_of}
use Rattle.pl_manager.proofs.Turns.{both_turns, heard_ok}
use Rattle.pl_manager.proofs.known.Known.hear_all.Goals as goal

pub returns-clause-heard : goal.returns-clause-heard
returns-clause-heard c =
    heard_ok c.release_all.result c.args.self.now c.treat_those-2.new.self c.release_all.new.self c.args.epoch (in_turn waits_for_places (map heard_of c.args.kept.now))
    c.new-aged.result.items c.deref.result.now c.args.out.now c.treat_those-2.new.out c.release_all.new.out c.new-aged.ensures.items
    (λ v first. sym (both_turns c.args.kept.now (done_so_far (put c.args.self.now v) c.new-aged.result.items c.args.out.now))
    ∙ ap (treated_of true c.args.kept.now) (c.in_ok-treat_those.ensures.treated v first) ∙ c.in_ok-treat_those-2.ensures.treated v first
    ∙ ap (λ (xs : List Pmac). done_so_far (put c.treat_those-2.new.self v) xs c.treat_those-2.new.out) (sym c.deref.ensures.value))
    c.release_all.ensures.released
