use Rattle.std.proofs.Common.{◌≡◌, ◌∙◌, false, sym, ap, subst}
use Rattle.pl_node.specs.SwitchViews.{SwitchView}
use Rattle.pl_layouts.specs.Frames.{packet_in}
use Rattle.pl_switch_rule.specs.Intake.{sends_in}
use Rattle.pl_migrate.specs.AddressTables.{address_table_in}
use Rattle.pl_edge.specs.Begun.{left_to_do}
use Rattle.pl_edge.specs.EdgeViews.{EdgeView, edge_in}
use Rattle.pl_edge.proofs.Taking.{begun_own, begun_rewritten, begun_unplaced, read_asked, read_bad, read_own}
use Rattle.pl_edge.proofs.edge_table.EdgeTable.take_in.Goals as goal

pub returns-then-is_for_switch-clause-begun : goal.returns-then-is_for_switch-clause-begun
returns-then-is_for_switch-clause-begun c = λ choose v may.
    let frame = c.args.frame.now in
    let w : SwitchView = edge_in c.args.self.now v in
    let packet = c.packet_in-packet.ensures ∙ ap packet_in c.bytes.ensures in
    begun_own choose c.args.port frame w c.args.out.now c.ask_for.new.out
    (read_bad frame c.bytes-2.result.now c.packet_in-packet.result false c.bytes-2.ensures packet (sym c.if-is_bad_arp.false ∙ c.is_bad_arp.ensures))
    (read_own w frame c.bytes-3.result.now c.destination_of.result c.packet_in-packet.result c.is_for_switch.result c.bytes-3.ensures packet c.destination_of.ensures (c.is_for_switch.ensures v may)
    ∙ c.if-is_for_switch.true)
    (read_asked w c.args.port frame c.bytes-then-is_for_switch.result.now c.packet_in-packet.result c.args.out.now c.ask_for.new.out c.bytes-then-is_for_switch.ensures packet (c.in_ok-ask_for.ensures v may))

pub returns-in_default-clause-begun : goal.returns-in_default-clause-begun
returns-in_default-clause-begun c = λ choose v may.
    let frame = c.args.frame.now in
    let w : SwitchView = edge_in c.args.self.now v in
    let packet = c.packet_in-packet.ensures ∙ ap packet_in c.bytes.ensures in
    begun_unplaced choose c.args.port frame c.args.self.now v c.args.out.now
    (ap (λ (e : EdgeView). e.address_table) (sym c.self.view_is) ∙ c.in_default.is) may
    (read_bad frame c.bytes-2.result.now c.packet_in-packet.result false c.bytes-2.ensures packet (sym c.if-is_bad_arp.false ∙ c.is_bad_arp.ensures))
    (read_own w frame c.bytes-3.result.now c.destination_of.result c.packet_in-packet.result c.is_for_switch.result c.bytes-3.ensures packet c.destination_of.ensures (c.is_for_switch.ensures v may)
    ∙ c.if-is_for_switch.false)
    c.requires.other

pub returns-clause-begun : goal.returns-clause-begun
returns-clause-begun c = λ choose v may.
    let frame = c.args.frame.now in
    let w : SwitchView = edge_in c.args.self.now v in
    let packet = c.packet_in-packet.ensures ∙ ap packet_in c.bytes.ensures in
    begun_rewritten choose c.args.port frame c.rewrite_source.new.frame c.direction.result c.args.self.now c.in-Some.address_table v c.args.out.now
    (ap (λ (e : EdgeView). e.address_table) (sym c.self.view_is) ∙ c.in-Some.is)
    (read_bad frame c.bytes-2.result.now c.packet_in-packet.result false c.bytes-2.ensures packet (sym c.if-is_bad_arp.false ∙ c.is_bad_arp.ensures))
    (read_own w frame c.bytes-3.result.now c.destination_of.result c.packet_in-packet.result c.is_for_switch.result c.bytes-3.ensures packet c.destination_of.ensures (c.is_for_switch.ensures v may)
    ∙ c.if-is_for_switch.false)
    c.requires.other c.rewrite_source.ensures.frame
    (λ u. subst (λ f. left_to_do choose c.direction.result f (address_table_in c.in-Some.address_table u) ≡ sends_in choose f (address_table_in c.in-Some.address_table u)) c.bytes-4.ensures (c.direction.ensures.sent choose u))
