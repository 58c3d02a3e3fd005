use Rattle.std.proofs.Common.{◌∙◌, ◌==◌, ◌||◌, ap, subst, sym, arith, nat_cmp}
use Rattle.std.proofs.Math.Bool.{or-false}
use Rattle.std.proofs.lemmas.List.Elements.{All-head, All-rest}
use Rattle.std.specs.BTreeMap.Range.{range_contains}
use Rattle.std.specs.BTreeSet.{insert_key}
use Rattle.std.specs.declared.ops.Bound.TheVariants.{Included, Excluded}
use Rattle.std.specs.List.{All, filter, list_any}
use Rattle.pl_lists.specs.Ports.{ports_of}
use Rattle.pl_switch_rule.specs.Intake.{member_cmp}
use Rattle.pl_members.specs.Reached.{MemberIsAtPort, has_member_at, start_of}
use Rattle.pl_members.proofs.Reaching.{ports_are, reached_in_range, reached_more}
use Rattle.pl_members.proofs.members.Members.ports_for.Goals as goal

pub insert-requires : goal.insert-requires
insert-requires c =
    let m : MemberIsAtPort c.in-Some.member.now =
    All-head MemberIsAtPort c.in-Some.member.now c.next.new.self (subst (All MemberIsAtPort) c.in-Some.ensures.steps c.loop-member.invariant.at_ports) in
    omega (arith, c.port.ensures, m.port)

pub loop-member-preserved : goal.loop-member-preserved
loop-member-preserved c = record {
  at_ports = All-rest MemberIsAtPort c.in-Some.member.now c.next.new.self c.loop-member.member-iterator c.in-Some.ensures.steps c.loop-member.invariant.at_ports;
  ports = λ q.
      ap (λ ports. list_any (λ p. p == q) ports || list_any (λ m. m.port == q) c.next.new.self)
      (c.insert.ensures ∙ ap (insert_key nat_cmp (ports_of c.loop-member.ports)) c.port.ensures)
      ∙ reached_more q (ports_of c.loop-member.ports) c.in-Some.member.now c.next.new.self
      ∙ ap (λ members. list_any (λ p. p == q) (ports_of c.loop-member.ports) || list_any (λ m. m.port == q) members) (sym c.in-Some.ensures.steps)
      ∙ c.loop-member.invariant.ports q;
}

pub returns-clause-reached : goal.returns-clause-reached
returns-clause-reached c = λ port.
    let keys = c.self.inside.members.keys in
    sym (or-false (list_any (λ p. p == port) (ports_of c.loop-member.ports)))
    ∙ ap (λ members. list_any (λ p. p == port) (ports_of c.loop-member.ports) || list_any (λ m. m.port == port) members) (sym c.in-None.ensures.steps.0)
    ∙ c.loop-member.invariant.ports port
    ∙ ap (list_any (λ m. m.port == port)) (c.into_iter-member-iterator.ensures.into_iter_gives ∙ c.range-member-items.ensures.between tt
    ∙ ap (λ m. filter (range_contains member_cmp (Included m) (Excluded c.end_of.result)) keys) c.start_of.ensures
    ∙ ap (λ m. filter (range_contains member_cmp (Included (start_of c.args.group)) (Excluded m)) keys) c.end_of.ensures)
    ∙ reached_in_range c.args.group port keys c.self.invariant.at_ports
    ∙ ap (λ members. has_member_at members c.args.group port) c.self.view_is

pub returns-clause-ports : goal.returns-clause-ports
returns-clause-ports c = ports_are c.loop-member.ports c.args.self.now c.args.group (returns-clause-reached c)
