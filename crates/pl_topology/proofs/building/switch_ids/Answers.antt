use Rattle.std.proofs.Common.{◌++◌, ◌∷◌, [], map, sym, ap, ◌∙◌}
use Rattle.std.specs.List.{range_with_len}
use Rattle.pl_topology.specs.Meaning.{id_of}
use Rattle.pl_topology.proofs.Steps.{push_next}
use Rattle.pl_topology.proofs.building.switch_ids.Goals as goal

pub loop-number-preserved : goal.loop-number-preserved
loop-number-preserved c = λ entries finds.
    let n = c.loop-number.number in
    c.in_ok-push.ensures.items ∙ ap (λ xs. xs ++ c.switch_id.result ∷ []) (c.loop-number.invariant entries finds)
    ∙ ap (λ x. map (id_of entries) (range_with_len 0 n) ++ x ∷ []) (c.switch_id.ensures entries finds) ∙ sym (push_next (id_of entries) n)
