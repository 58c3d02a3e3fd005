use Rattle.std.proofs.Common.{◌≡◌, sym, ap, ◌∙◌, length, arith}
use Rattle.pl_lists.proofs.PortBits.{ports_from, ports_from-zero, ports_from-end, ports_from-there, ports_from-other}
use Rattle.pl_lists.proofs.port_set.PortSet.len.Goals.{then-has, else-has}
use Rattle.pl_lists.proofs.port_set.PortSet.len.Goals as goal

pub loop-port-init : goal.loop-port-init
loop-port-init c = (omega arith, omega (arith, ap length (ports_from-zero c.args.self.now)))

pub loop-port-preserved : goal.loop-port-preserved
loop-port-preserved c =
    let before = c.loop-port.invariant in
    elim c.if-has.branch [
      | then-has w ↦
          let next = ports_from-there c.args.self.now c.loop-port.port (omega arith) (sym c.has.ensures ∙ w.if-has.true) in
          (omega (arith, w.count-is, before.0), omega (arith, w.count-is, before.1, ap length next))
      | else-has w ↦
          let next = ports_from-other c.args.self.now c.loop-port.port (omega arith) (sym c.has.ensures ∙ w.if-has.false) in
          (omega (arith, w.count-is, before.0), omega (arith, w.count-is, before.1, ap length next))
    ]

pub returns : goal.returns
returns c =
    let at_end : c.loop-port.port ≡ 32 = omega arith in
    let none = ap (ports_from c.args.self.now) at_end ∙ ports_from-end c.args.self.now in
    omega (arith, c.loop-port.invariant.1, ap length none)
