use Rattle.std.proofs.Common.{◌≡◌, arith, ◌∙◌, ap, set}
use Rattle.pl_world.specs.OtherActs.{one_more_tick}
use Rattle.pl_schedule.proofs.Ticking.{counted_after, heard_first, nobody_counts, one_counts}
use Rattle.pl_schedule.proofs.world.happen.count_ticks.Goals.{in-Some, in_default}
use Rattle.pl_schedule.proofs.world.happen.count_ticks.Goals as goal

pub loop-port-init : goal.loop-port-init
loop-port-init c = heard_first c.args.s.0 c.args.attachments.now c.args.heard.now.items

pub loop-port-preserved : goal.loop-port-preserved
loop-port-preserved c = elim c.match-host_at.branch [
  | in-Some w ↦
      one_counts c.args.s.0 c.loop-port.port c.args.attachments.now c.args.heard.now.items c.loop-port.heard.items c.host_at.result c.loop-port.invariant
      c.host_at.ensures.is c.host_at.ensures.alone w.in-Some.h w.index.result.now c.match-host_at.heard.items c.requires.many w.in-Some.is
      (ap (λ v. v.items) w.heard-is ∙ ap (λ t. set c.loop-port.heard.items w.in-Some.h.0 t) (w.one_more_tick-ticks.ensures ∙ ap one_more_tick w.index.ensures))
  | in_default w ↦
      ap (λ v. v.items) w.heard-is
      ∙ nobody_counts c.args.s.0 c.loop-port.port c.args.attachments.now c.args.heard.now.items c.loop-port.heard.items c.host_at.result c.loop-port.invariant
      c.host_at.ensures.is c.host_at.ensures.alone w.in_default.is
]

pub returns : goal.returns
returns c =
    let end : c.loop-port.port ≡ c.args.k = let a = c.loop-port.auto.port-end in let b = c.loop-port-test.false in omega arith in
    c.loop-port.invariant ∙ counted_after c.args.s.0 c.loop-port.port c.args.k c.args.attachments.now c.args.heard.now.items end c.requires.at_ports
