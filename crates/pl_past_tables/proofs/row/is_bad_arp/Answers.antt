use Rattle.std.proofs.Common.{◌∙◌, ◌&&◌, ap, ap₂, is_none, Option}
use Rattle.pl_arp.specs.declared.packet.Arp.{Arp}
use Rattle.pl_past_tables.proofs.Said.{and_else, and_then, none_by}
use Rattle.pl_past_tables.proofs.row.is_bad_arp.Goals as goal

pub returns-then-arp : goal.returns-then-arp
returns-then-arp c =
    and_then c.is_arp-arp.result c.is_none-unread.result _ c.if-arp.true
    (ap₂ (λ a b. a && b) c.is_arp-arp.ensures (none_by c.packet_in.result c.is_none-unread.result c.is_none-unread.ensures
    ∙ ap (λ (o : Option Arp). is_none o) c.packet_in.ensures))

pub returns-else-arp : goal.returns-else-arp
returns-else-arp c =
    and_else c.is_arp-arp.result c.is_none-unread.result _ c.if-arp.false
    (ap₂ (λ a b. a && b) c.is_arp-arp.ensures (none_by c.packet_in.result c.is_none-unread.result c.is_none-unread.ensures
    ∙ ap (λ (o : Option Arp). is_none o) c.packet_in.ensures))
