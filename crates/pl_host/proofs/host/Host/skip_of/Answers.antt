use Rattle.std.proofs.Common.{◌≡◌, ◌∙◌, sym, ap, Option, length, le-ltb}
use Rattle.pl_frame.specs.declared.address.Mac.{Mac}
use Rattle.pl_frame.specs.Ethernet.{destination_of}
use Rattle.pl_arp.specs.declared.cache.Me.{Me}
use Rattle.pl_layouts.specs.Memberships.{is_group}
use Rattle.pl_node.specs.HostViews.{HostView}
use Rattle.pl_host_rule.specs.HostRule.{is_foreign, other_host, skip_of, unicast_skip}
use Rattle.pl_host.specs.Host.{host_view}
use Rattle.pl_host.proofs.Stepping.{skip_of-last}
use Rattle.pl_host.proofs.host.Host.skip_of.Goals as goal

pub returns-clause-skip : goal.returns-clause-skip
returns-clause-skip c =
    let view : HostView = host_view c.args.self.now in
    let frame = c.args.frame.now in
    let dst : c.read_at-dst.result ≡ destination_of frame = c.read_at-dst.ensures in
    c.unicast_skip.ensures
    ∙ ap (λ (host : Option Me). unicast_skip view host) (c.other_host-host.ensures.found ∙ ap (λ (mac : Mac). other_host view mac) dst)
    ∙ sym (skip_of-last view frame c.args.original (le-ltb (length frame) c.args.original c.if-frame-original.false)
    (le-ltb (length frame) 14 c.if-frame-lt-SHORTEST.false) (le-ltb 65553 (length frame) c.if-frame-gt-LONGEST.false)
    (ap (λ raw. is_foreign c.args.self.now.me raw frame) (sym c.if-raw.false) ∙ sym c.is_foreign.ensures ∙ c.if-is_foreign.false)
    (sym c.is_control.ensures ∙ c.if-is_control.false)
    (sym c.is_arp.ensures ∙ c.if-is_arp.false)
    (ap (λ (mac : Mac). is_group mac) (sym dst) ∙ sym c.is_group.ensures ∙ c.if-is_group.false))
    ∙ ap (λ raw. skip_of view raw frame c.args.original) (sym c.if-raw.false)
