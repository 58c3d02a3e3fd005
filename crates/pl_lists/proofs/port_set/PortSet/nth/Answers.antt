use Rattle.std.proofs.Common.{◌≡◌, sym, ap, ◌∙◌, slice_get, arith}
use Rattle.pl_lists.proofs.PortBits.{ports_from, ports_from-zero, ports_from-end, ports_from-there, ports_from-other, slice_get-next}
use Rattle.pl_lists.proofs.port_set.PortSet.nth.Goals.{then-has+else-left-eq0, else-has}
use Rattle.pl_lists.proofs.port_set.PortSet.nth.Goals as goal

pub loop-port-init : goal.loop-port-init
loop-port-init c = ap (λ xs. slice_get xs c.args.n) (ports_from-zero c.args.self.now)

pub loop-port-preserved : goal.loop-port-preserved
loop-port-preserved c =
    elim c.if-has.branch [
      | then-has+else-left-eq0 w ↦
          let next = ports_from-there c.args.self.now c.loop-port.port (omega arith) (sym c.has.ensures ∙ w.if-has.true) in
          ap (slice_get _) w.left-is ∙ sym (slice_get-next _ _ c.loop-port.left w.if-left-eq0.false)
          ∙ sym (ap (λ xs. slice_get xs c.loop-port.left) next) ∙ c.loop-port.invariant
      | else-has w ↦
          let next = ports_from-other c.args.self.now c.loop-port.port (omega arith) (sym c.has.ensures ∙ w.if-has.false) in
          ap (slice_get _) w.left-is ∙ sym (ap (λ xs. slice_get xs c.loop-port.left) next) ∙ c.loop-port.invariant
    ]

pub returns-then-left-eq0 : goal.returns-then-left-eq0
returns-then-left-eq0 c =
    let next = ports_from-there c.args.self.now c.loop-port.port (omega arith) (sym c.has.ensures ∙ c.if-has.true) in
    sym (ap (λ xs. slice_get xs 0) next) ∙ sym (ap (slice_get _) c.if-left-eq0.true) ∙ c.loop-port.invariant

pub returns : goal.returns
returns c =
    let at_end : c.loop-port.port ≡ 32 = omega arith in
    let none = ap (ports_from c.args.self.now) at_end ∙ ports_from-end c.args.self.now in
    sym (ap (λ xs. slice_get xs c.loop-port.left) none) ∙ c.loop-port.invariant
