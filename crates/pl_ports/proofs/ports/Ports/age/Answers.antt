use Rattle.std.proofs.Common.{ap, ◌∙◌, map, take, subst, sym}
use Rattle.std.proofs.lemmas.List.{take-map}
use Rattle.pl_node.specs.PortRecords.{aged}
use Rattle.pl_ports.specs.PortsViews.{PortsView}
use Rattle.pl_ports.specs.SoundPorts.{AreSound}
use Rattle.pl_ports.proofs.Tables.{sound_aged}
use Rattle.pl_ports.proofs.ports.Ports.age.Goals as goal

pub invariant_of-self : goal.invariant_of-self
invariant_of-self c = record {
  named = c.self.invariant.named;
  size = c.self.invariant.size;
  placed = c.self.invariant.placed;
  heard = subst AreSound (sym c.age_all.ensures) (sound_aged c.self.inside.records c.self.invariant.heard);
}

pub returns : goal.returns
returns c =
    ap {B = PortsView} (λ ports. record { id = c.self.inside.id; k = c.self.inside.k; place = c.self.inside.place; ports = ports })
    (ap (λ records. take c.self.inside.k records) c.age_all.ensures ∙ take-map aged c.self.inside.k c.self.inside.records)
    ∙ ap {A = PortsView} {B = PortsView} (λ p. record p { ports = map aged p.ports }) c.self.view_is
