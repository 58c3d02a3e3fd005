use Rattle.std.proofs.Common.{sym, ◌∙◌}
use Rattle.std.proofs.lemmas.Bool.{or_right}
use Rattle.pl_layouts.specs.Equality.{same_switch}
use Rattle.pl_node.specs.ManagerViews.{is_heard, restarted_manager}
use Rattle.pl_manager.specs.Manager.{put}
use Rattle.pl_manager.proofs.Turns.{passed_turn, turn_speaks, turn_treated}
use Rattle.pl_manager.proofs.known.Known.treat_if.Goals as goal

pub returns-then-is_turn-clause-treated : goal.returns-then-is_turn-clause-treated
returns-then-is_turn-clause-treated c =
    turn_treated c.args.self.now c.treat.new.self c.args.epoch c.args.kept.now c.args.wishes c.args.aged.now.items c.treat.new.aged.items c.args.out.now c.treat.new.out c.treat.result
    (sym c.is_turn.ensures ∙ c.if-is_turn.true) c.treat.ensures.treated

pub returns-then-is_turn-clause-speak : goal.returns-then-is_turn-clause-speak
returns-then-is_turn-clause-speak c =
    turn_speaks c.args.self.now c.treat.new.self c.args.epoch c.args.kept.now c.args.wishes c.args.aged.now.items c.treat.new.aged.items c.args.out.now c.treat.new.out c.treat.result
    c.treat.ensures.k c.treat.ensures.treated

pub returns-else-is_turn-clause-treated : goal.returns-else-is_turn-clause-treated
returns-else-is_turn-clause-treated c = λ v first.
    passed_turn c.args.self.now c.args.kept.now c.args.wishes c.args.aged.now.items c.args.out.now (sym c.is_turn.ensures ∙ c.if-is_turn.false) v

pub returns-else-is_turn-clause-speak : goal.returns-else-is_turn-clause-speak
returns-else-is_turn-clause-speak c = λ t h. or_right (same_switch c.args.kept.now.switch t) (is_heard (put c.args.self.now (restarted_manager c.args.self.now.k 0)) t) h
