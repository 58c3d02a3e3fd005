use Rattle.std.proofs.Common.{◌∙◌, ap}
use Rattle.std.specs.BTreeMap.Range.{range_contains}
use Rattle.std.specs.declared.ops.Bound.TheVariants.{Included, Excluded}
use Rattle.std.specs.List.{filter}
use Rattle.std.specs.Map.Iter.{deref}
use Rattle.pl_switch_rule.specs.Intake.{has_member_of, member_cmp}
use Rattle.pl_members.specs.Reached.{start_of}
use Rattle.pl_members.proofs.Reaching.{first_in_range}
use Rattle.pl_members.proofs.members.Members.has_members.Goals as goal

pub returns : goal.returns
returns c =
    let keys = c.self.inside.members.keys in
    c.is_some.ensures
    ∙ first_in_range deref c.args.group c.range.result c.next.new.self keys c.next.result c.next.ensures.steps
    (c.range.ensures.between tt
    ∙ ap (λ m. filter (range_contains member_cmp (Included m) (Excluded c.end_of.result)) keys) c.start_of.ensures
    ∙ ap (λ m. filter (range_contains member_cmp (Included (start_of c.args.group)) (Excluded m)) keys) c.end_of.ensures)
    c.self.invariant.at_ports
    ∙ ap (λ members. has_member_of members c.args.group) c.self.view_is
