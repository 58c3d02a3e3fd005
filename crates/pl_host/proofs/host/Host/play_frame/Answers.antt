use Rattle.std.proofs.Common.{◌≡◌, ◌∙◌, List, sym, ap, [], None}
use Rattle.std.proofs.lemmas.List.{append-nil}
use Rattle.pl_frame.specs.declared.address.Mac.{Mac}
use Rattle.pl_frame.specs.Ethernet.{destination_of}
use Rattle.pl_layouts.specs.Memberships.{is_group}
use Rattle.pl_node.specs.HostViews.{HostView}
use Rattle.pl_arp.specs.declared.cache.Me.{Me}
use Rattle.pl_journal.specs.declared.cause.Skip.TheVariants.{NoOwner}
use Rattle.pl_host_rule.specs.HostRule.{other_host, skipping}
use Rattle.pl_host.specs.Host.{host_view}
use Rattle.pl_host.proofs.Stepping.{plays_single}
use Rattle.pl_host.proofs.host.Host.play_frame.Goals as goal

pub returns-in_default-clause-step : goal.returns-in_default-clause-step
returns-in_default-clause-step c = record {
  items = [];
  gained = sym (append-nil c.args.out.now);
  holds =
      let view : HostView = host_view c.args.self.now in
      let dst : c.read_at-dst.result ≡ destination_of c.args.frame.now = c.read_at-dst.ensures in
      plays_single view c.args.frame.now None (ap (λ (mac : Mac). is_group mac) (sym dst) ∙ sym c.is_group.ensures ∙ c.if-is_group.false)
      (sym c.in_default.is ∙ c.other_host.ensures.found ∙ ap (λ (mac : Mac). other_host view mac) dst)
      ∙ ap (λ (hosts : List Me). skipping (record { me = view.me; table = hosts; cache = view.cache; joined = view.joined; held = view.held }) NoOwner)
      (sym c.other_host.ensures.stays);
}
