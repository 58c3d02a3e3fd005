use Rattle.std.proofs.Common.{◌≤◌, ◌/◌, List, replicate, take, Option, None, ap, ◌∙◌, arith}
use Rattle.std.proofs.lemmas.List.{take-replicate}
use Rattle.pl_node.specs.declared.switch_records.Hold.{Hold}
use Rattle.pl_position.proofs.holder.Holder.new.Goals as goal

pub returns : goal.returns
returns c =
    let few : c.args.k / 2 ≤ 12 = omega arith in
    let free : List (Option Hold) = replicate 12 None in
    ap (λ n. take n free) c.from.ensures ∙ take-replicate (c.args.k / 2) 12 None few
