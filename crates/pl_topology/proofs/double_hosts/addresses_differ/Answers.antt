use Rattle.std.proofs.Common.{◌≡◌, ◌<◌, ◌||◌, true, false, [], length, take, Err, sym, ap, ◌∙◌, arith}
use Rattle.std.specs.List.{list_any}
use Rattle.std.proofs.lemmas.Bool.{or_left, or_right}
use Rattle.pl_topology.specs.declared.error.TopologyError.TheVariants.{DoubleAddress}
use Rattle.pl_topology.specs.Checks.{addresses_are_new, has_mac, has_ip}
use Rattle.pl_topology.proofs.FoundLemmas.{addresses_are_new-passes, addresses_are_new-refuses, not_there, was_there, sees_last}
use Rattle.pl_topology.proofs.RefusalLemmas.{each_beside-next, each_beside-refused, front_more}
use Rattle.pl_topology.proofs.double_hosts.addresses_differ.Goals as goal
use Rattle.pl_topology.proofs.double_hosts.addresses_differ.Goals.{then-not-mac_is_new-via-then-not-mac_is_new, then-not-mac_is_new-via-else-not-mac_is_new+then-not-ip_is_new}

pub returns-then-not-mac_is_new : goal.returns-then-not-mac_is_new
returns-then-not-mac_is_new c =
    let hosts = c.args.hosts.now in
    let i = c.loop-host.host-index in
    let within : i < length hosts = omega arith in
    let host = c.host-item.result in
    let macs = c.loop-host.invariant.macs host.mac.0 in
    let ips = c.loop-host.invariant.ips host.ip.0 in
    let old : (list_any (has_mac host.mac.0) (take i hosts) || list_any (has_ip host.ip.0) (take i hosts)) ≡ true =
    elim c.then-not-mac_is_new.branch [
      | then-not-mac_is_new-via-then-not-mac_is_new w ↦
          or_left _ _ (sym macs ∙ was_there _ _ c.in_ok-mac_is_new.ensures.added w.if-not-mac_is_new.true)
      | then-not-mac_is_new-via-else-not-mac_is_new+then-not-ip_is_new w ↦
          or_right _ _ (sym ips ∙ was_there _ _ c.in_ok-ip_is_new.ensures.added w.if-not-ip_is_new.true)
    ] in
    let named = sym c.text.ensures ∙ sym c.in_ok-copy.ensures in
    sym c.loop-host.invariant.rest
    ∙ each_beside-refused addresses_are_new [] hosts i host host (DoubleAddress host.name) within c.host-item.is (addresses_are_new-refuses (take i hosts) host old)
    ∙ ap (λ name. Err (DoubleAddress name)) named

pub loop-host-preserved : goal.loop-host-preserved
loop-host-preserved c =
    let hosts = c.args.hosts.now in
    let i = c.loop-host.host-index in
    let within : i < length hosts = omega arith in
    let host = c.host-item.result in
    let more = front_more [] hosts i host host within c.host-item.is in
    let no_mac : list_any (has_mac host.mac.0) (take i hosts) ≡ false =
    sym (c.loop-host.invariant.macs host.mac.0) ∙ not_there _ _ c.in_ok-mac_is_new.ensures.added c.if-not-mac_is_new.false in
    let no_ip : list_any (has_ip host.ip.0) (take i hosts) ≡ false =
    sym (c.loop-host.invariant.ips host.ip.0) ∙ not_there _ _ c.in_ok-ip_is_new.ensures.added c.if-not-ip_is_new.false in
    record {
      macs = λ mac. rw more (sees_last (has_mac mac) (take i hosts) host _ _ (c.in_ok-mac_is_new.ensures.updates.0 mac) (c.loop-host.invariant.macs mac));
      ips = λ ip. rw more (sees_last (has_ip ip) (take i hosts) host _ _ (c.in_ok-ip_is_new.ensures.updates.0 ip) (c.loop-host.invariant.ips ip));
      rest = each_beside-next addresses_are_new [] hosts i host host within c.host-item.is (addresses_are_new-passes (take i hosts) host no_mac no_ip) ∙ c.loop-host.invariant.rest;
    }
