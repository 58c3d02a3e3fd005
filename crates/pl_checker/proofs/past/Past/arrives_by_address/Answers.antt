use Rattle.std.proofs.Common.{sym, subst}
use Rattle.pl_layouts.specs.Frames.{HasSixBytes}
use Rattle.pl_past.specs.Kept.{kept}
use Rattle.pl_checker.proofs.Arrives.{by_address, elsewhere, host_has_six_bytes, not_held, not_reached}
use Rattle.pl_checker.proofs.past.Past.arrives_by_address.Goals as goal

pub returns-then-not-is_host : goal.returns-then-not-is_host
returns-then-not-is_host c = λ past id keeps is.
    not_held c.args.wiring.now c.args.text.now past id c.args.host c.args.frame.now c.args.row.now is c.addressee-addressee.result c.is_host.result
    (c.addressee-addressee.ensures c.args.text.now past id keeps is) c.is_host.ensures c.if-not-is_host.true

pub returns-then-not-same_point : goal.returns-then-not-same_point
returns-then-not-same_point c = λ past id keeps is.
    elsewhere c.args.wiring.now c.args.text.now past id c.args.host c.args.frame.now c.args.row.now is _ _ c.same_point.result
    (c.point_of-stands.ensures past keeps.hosts) (c.point_of-granted.ensures past keeps.addresses) c.same_point.ensures c.if-not-same_point.true

pub returns-then-not-ends_at : goal.returns-then-not-ends_at
returns-then-not-ends_at c = λ past id keeps is.
    not_reached c.args.wiring.now c.args.text.now past id c.args.host c.args.frame.now c.args.row.now is _ c.ends_at.result
    (c.point_of-stands.ensures past keeps.hosts) c.ends_at.ensures c.if-not-ends_at.true

pub returns : goal.returns
returns c = λ past id keeps is.
    let w = c.args.wiring.now in
    by_address w c.args.text.now past id c.args.host c.args.frame.now c.args.row.now is c.addressee-addressee.result _ _ c.is_host.result c.same_point.result
    c.ends_at.result
    c.mac_of-to.result c.in_ok-unaltered.unaltered (c.addressee-addressee.ensures c.args.text.now past id keeps is)
    (c.point_of-stands.ensures past keeps.hosts) (c.point_of-granted.ensures past keeps.addresses)
    c.is_host.ensures c.same_point.ensures c.ends_at.ensures c.if-not-is_host.false c.if-not-same_point.false c.if-not-ends_at.false c.mac_of-to.ensures
    (c.in_ok-unaltered.ensures (kept w past id) is (subst HasSixBytes (sym c.mac_of-to.ensures) (host_has_six_bytes w c.args.host.0 c.k-k.ensures.plan)))
