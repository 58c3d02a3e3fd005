use Rattle.std.proofs.Common.{◌∙◌, ◌||◌, ap₂, Option}
use Rattle.pl_arp.specs.declared.packet.Arp.{Arp}
use Rattle.pl_frame.specs.declared.address.Mac.{Mac}
use Rattle.pl_layouts.specs.Frames.{is_taken_packet}
use Rattle.pl_past_tables.proofs.Said.{or_else, or_then}
use Rattle.pl_past_tables.proofs.row.is_takeable.Goals as goal

pub returns-then-taken : goal.returns-then-taken
returns-then-taken c = λ at.
    or_then c.is_taken_packet-taken.result c.has_membership-member.result _ c.if-taken.true
    (ap₂ (λ a b. a || b) (c.is_taken_packet-taken.ensures ∙ ap₂ (λ (m : Mac) (o : Option Arp). is_taken_packet m o) at c.packet_in.ensures)
    c.has_membership-member.ensures)

pub returns-else-taken : goal.returns-else-taken
returns-else-taken c = λ at.
    or_else c.is_taken_packet-taken.result c.has_membership-member.result _ c.if-taken.false
    (ap₂ (λ a b. a || b) (c.is_taken_packet-taken.ensures ∙ ap₂ (λ (m : Mac) (o : Option Arp). is_taken_packet m o) at c.packet_in.ensures)
    c.has_membership-member.ensures)
