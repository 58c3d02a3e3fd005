use Rattle.std.proofs.Common.{ap, length, unwrap_or, option_map, arith}
use Rattle.std.specs.List.{sum_by}
use Rattle.std.specs.Map.{values_of}
use Rattle.std.specs.BTreeMap.{is_at}
use Rattle.std.proofs.lemmas.Map.Entries.{sum_by-remove_entry}
use Rattle.pl_node.specs.HostViews.{HeldFrames, ip_cmp}
use Rattle.pl_host.proofs.waiting.Waiting.take.Goals as goal

pub overflow_sub-self : goal.overflow_sub-self
overflow_sub-self c =
    let total = sum_by-remove_entry length (is_at (ip_cmp c.args.ip)) c.self.inside.by_address.entries in
    let found = ap (λ o. unwrap_or (option_map length o) 0) c.in-Some.ensures.value in
    let kept = c.self.invariant.count in
    omega (arith, total, found, kept, c.len.ensures)

pub invariant_of-self : goal.invariant_of-self
invariant_of-self c = record {
  count =
      let total = sum_by-remove_entry length (is_at (ip_cmp c.args.ip)) c.self.inside.by_address.entries in
      let found = ap (λ o. unwrap_or (option_map length o) 0) c.in-Some.ensures.value in
      let kept = c.self.invariant.count in
      let left = ap (λ (es : HeldFrames). sum_by length (values_of es)) c.in-Some.ensures.entries in
      omega (arith, total, found, kept, left, c.len.ensures);
  rising = c.in-Some.ensures.ordered;
}
