use Rattle.std.proofs.Common.{◌<◌, ◌∙◌, ap, arith, get_or, length, set}
use Rattle.std.proofs.lemmas.List.{get_or_default}
use Rattle.std.proofs.lemmas.List.Edits.{map_over_more}
use Rattle.pl_node.specs.PortRecords.{aged, new_port}
use Rattle.pl_ports.proofs.ports.age_all.Goals as goal

pub loop-i-preserved : goal.loop-i-preserved
loop-i-preserved c =
    let old = c.args.records.now in
    let records = c.loop-i.records in
    let i = c.loop-i.i in
    let r = get_or records i new_port in
    let within : i < length old = omega arith in
    let there : i < length records = omega arith in
    ap (λ x. set records i x) c.aged.ensures
    ∙ map_over_more aged old records i r within c.loop-i.invariant (get_or_default records i new_port r there)
