use Rattle.std.proofs.Common.{◌∙◌, ◌&&◌, ap, sym, not, ℕ, Option}
use Rattle.pl_frame.specs.Ethernet.{destination_of}
use Rattle.pl_layouts.specs.Frames.{mac_number}
use Rattle.pl_layouts.specs.Memberships.{group_of}
use Rattle.pl_journal.specs.Places.{EdgePort, edge_port, is_at}
use Rattle.pl_journal.specs.Lossy.{is_member}
use Rattle.pl_past_tables.specs.Keys.{edge_port_at}
use Rattle.pl_checker.proofs.past.Past.may_receive.Goals as goal

pub returns-then-is_at : goal.returns-then-is_at
returns-then-is_at c = λ text past keeps.
    ap (λ b. not b && is_member past c.args.host.0 (group_of (destination_of c.args.frame.now)))
    (sym c.if-is_at.true ∙ c.is_at.ensures ∙ ap (λ (o : Option EdgePort). is_at o (edge_port_at c.args.stands))
    (c.point_of.ensures past keeps.addresses ∙ ap (edge_port past) (c.mac_number-from.ensures ∙ ap mac_number c.source.ensures)))

pub returns : goal.returns
returns c = λ text past keeps.
    c.is_member.ensures c.args.wiring.now past keeps.groups
    ∙ ap (λ (o : Option ℕ). is_member past c.args.host.0 o) (c.group_of.ensures.number ∙ ap group_of c.destination-to.ensures)
    ∙ ap (λ b. not b && is_member past c.args.host.0 (group_of (destination_of c.args.frame.now)))
    (sym c.if-is_at.false ∙ c.is_at.ensures ∙ ap (λ (o : Option EdgePort). is_at o (edge_port_at c.args.stands))
    (c.point_of.ensures past keeps.addresses ∙ ap (edge_port past) (c.mac_number-from.ensures ∙ ap mac_number c.source.ensures)))
