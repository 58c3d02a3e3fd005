use Rattle.std.proofs.Common.{◌≡◌, ◌∙◌, sym, ap, arith, length, take}
use Rattle.pl_switch_rule.specs.Intake.{groups_of}
use Rattle.pl_edge.proofs.Listing.{listed_all, listed_more}
use Rattle.pl_edge.proofs.membership.groups_in.Goals as goal

pub loop-group-smaller : goal.loop-group-smaller
loop-group-smaller c =
    let many : c.len.result ≡ length c.loop-group.groups.items = omega (arith, c.len.ensures, c.loop-group.groups.ok.0) in
    (listed_more (groups_of c.args.members.now) c.loop-group.groups.items c.push.new.self.items c.len.result c.in-Some.group c.loop-group.invariant many
    (sym c.in-Some.is ∙ c.nth_group.ensures) c.in_ok-push.ensures.items).1

pub loop-group-preserved : goal.loop-group-preserved
loop-group-preserved c =
    let many : c.len.result ≡ length c.loop-group.groups.items = omega (arith, c.len.ensures, c.loop-group.groups.ok.0) in
    (listed_more (groups_of c.args.members.now) c.loop-group.groups.items c.push.new.self.items c.len.result c.in-Some.group c.loop-group.invariant many
    (sym c.in-Some.is ∙ c.nth_group.ensures) c.in_ok-push.ensures.items).0

pub returns : goal.returns
returns c =
    let many : c.len.result ≡ length c.loop-group.groups.items = omega (arith, c.len.ensures, c.loop-group.groups.ok.0) in
    c.loop-group.invariant ∙ ap (λ n. take n (groups_of c.args.members.now)) (sym many)
    ∙ listed_all (groups_of c.args.members.now) c.len.result (sym c.nth_group.ensures ∙ c.in_default.is)
