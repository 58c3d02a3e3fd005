use Rattle.std.proofs.Common.{◌<◌, ◌∙◌, length, None, sym, arith}
use Rattle.pl_position.specs.Holding.{hold_in}
use Rattle.pl_position.proofs.Freeing.{freed_is_none, freed_itself, freed_keeps_other, freed_more, freed_on}
use Rattle.pl_position.proofs.holds.free_others.Goals as goal
use Rattle.pl_position.proofs.holds.free_others.Goals.{then-n-position+then-is_held_for, else-n-position, else-n-position-via-then-n-position+else-is_held_for, else-n-position-via-else-n-position}

pub loop-n-preserved : goal.loop-n-preserved
loop-n-preserved c =
    let holds = c.loop-n.holds in
    let n = c.loop-n.n in
    let position = c.args.position in
    let edge = c.args.edge in
    let within : n < length holds = omega arith in
    elim c.if-n-position.branch [
      | then-n-position+then-is_held_for w ↦
          rw w.holds-is
          (freed_more position edge n holds None within
          (freed_is_none position edge n (hold_in holds n) w.if-n-position.true (sym w.is_held_for.ensures ∙ w.if-is_held_for.true))
          ∙ c.loop-n.invariant)
      | else-n-position w ↦
          rw w.holds-is
          (elim w.else-n-position.branch [
            | else-n-position-via-then-n-position+else-is_held_for x ↦
                freed_on position edge n holds within
                (freed_keeps_other position edge n (hold_in holds n) (sym x.is_held_for.ensures ∙ x.if-is_held_for.false))
                ∙ c.loop-n.invariant
            | else-n-position-via-else-n-position x ↦
                freed_on position edge n holds within (sym (freed_itself position edge n (hold_in holds n) x.if-n-position.false))
                ∙ c.loop-n.invariant
          ])
    ]
