use Rattle.std.proofs.Common.{◌<◌, ◌∙◌, length, refl, arith}
use Rattle.pl_manager.proofs.Turns.{can_still, can_turn, one_more_turn}
use Rattle.pl_manager.proofs.known.Known.treat_those.Goals as goal

pub treat_if-requires : goal.treat_if-requires
treat_if-requires c =
    let within : c.loop-one.one-index < length c.args.kept.now = omega arith in
    can_turn c.args.self.now c.loop-one.self c.loop-one.self c.args.epoch c.args.kept.now c.loop-one.one-index _ c.args.wishes c.args.aged.now.items c.loop-one.aged.items c.loop-one.aged.items
    c.args.out.now c.loop-one.out c.loop-one.out within c.loop-one.invariant.1

pub loop-one-init : goal.loop-one-init
loop-one-init c = (λ v first. refl, c.requires, refl)

pub loop-one-preserved : goal.loop-one-preserved
loop-one-preserved c =
    let within : c.loop-one.one-index < length c.args.kept.now = omega arith in
    let so = one_more_turn c.args.self.now c.loop-one.self c.treat_if.new.self c.args.epoch c.args.kept.now c.loop-one.one-index _ c.args.wishes c.args.aged.now.items c.loop-one.aged.items
    c.treat_if.new.aged.items c.args.out.now c.loop-one.out c.treat_if.new.out within c.loop-one.invariant.0 c.in_ok-treat_if.ensures.treated in
    let can = can_still c.args.self.now c.loop-one.self c.treat_if.new.self c.args.epoch c.args.kept.now c.loop-one.one-index _ c.args.wishes c.args.aged.now.items c.loop-one.aged.items
    c.treat_if.new.aged.items c.args.out.now c.loop-one.out c.treat_if.new.out within c.treat_if.ensures.k c.loop-one.invariant.1 c.in_ok-treat_if.ensures.speak in
    (so, can, c.treat_if.ensures.k ∙ c.loop-one.invariant.2)
