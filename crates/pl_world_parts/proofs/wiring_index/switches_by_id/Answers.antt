use Rattle.std.proofs.Common.{refl, ◌∙◌, ap, cond, Some, None}
use Rattle.std.specs.Option.{option_or}
use Rattle.std.specs.Map.{lookup}
use Rattle.pl_layouts.specs.Equality.{same_switch}
use Rattle.pl_world.specs.Changes.{switch_no}
use Rattle.pl_world_parts.proofs.FirstIndices.{finds_there, same_either_way}
use Rattle.pl_world_parts.proofs.wiring_index.switches_by_id.Goals as goal

pub loop-n-preserved : goal.loop-n-preserved
loop-n-preserved c =
    finds_there (λ s. s.0) same_switch same_switch c.args.wiring.now.ids c.loop-n.by_id.entries c.add_switch.new.by_id.entries c.loop-n.n
    c.id.result (switch_no c.loop-n.n) c.id.ensures refl c.loop-n.invariant
    (λ key. c.in_ok-add_switch.ensures key
    ∙ ap (λ b. option_or (lookup (same_switch key) c.loop-n.by_id.entries) (cond b (Some (switch_no c.loop-n.n)) None)) (same_either_way c.id.result.0 key.0))
