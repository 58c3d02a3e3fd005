use Rattle.std.proofs.Common.{◌≡◌, ◌∙◌, ap, Err, length, refl, arith}
use Rattle.pl_frame.specs.declared.ethernet.FrameError.TheVariants.{Short, Long}
use Rattle.pl_host.proofs.carried.Carried.view.Goals as goal

pub unreachable-requires : goal.unreachable-requires
unreachable-requires c =
    elim c.in-Err.field-0 as (λ e. c.in-Err.field-0 ≡ e → ⊥) [
      | Short ↦ λ h.
          let short = c.view.ensures.short.0 (c.in-Err.is ∙ ap Err h) in
          let long = c.self.invariant.low in
          omega (arith, short, long, ap length c.bytes.ensures)
      | Long ↦ λ h.
          let long = c.view.ensures.long.0 (c.in-Err.is ∙ ap Err h) in
          let short = c.self.invariant.high in
          omega (arith, short, long, ap length c.bytes.ensures)
    ] refl
