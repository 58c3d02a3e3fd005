-- The ports age.
use Rattle.std.proofs.Common.{◌≡◌, map, sym, ap, ◌∙◌}
use Rattle.pl_node.specs.PortRecords.{aged, ports_where}
use Rattle.pl_node.proofs.Exports.{aged_at}
use Rattle.pl_ports.specs.Changes.{ceased, ceases}
use Rattle.pl_ports.specs.PortsViews.{PortsView, ports_alone}

abbrev pub aged_ports : PortsView → PortsView
aged_ports p = record p { ports = map aged p.ports }

alike : (old : PortsView) → ports_where (ports_alone old) (ceases (ports_alone old)) ≡ ceased (ports_alone old) (ports_alone (aged_ports old))
alike old = simp aged_at

-- the ports that cease to be usable have ceased
pub ceasing_have_ceased : (old new : PortsView) → new ≡ aged_ports old → ports_where (ports_alone old) (ceases (ports_alone old)) ≡ ceased (ports_alone old) (ports_alone new)
ceasing_have_ceased old new is =
    alike old ∙ ap (λ p. ceased (ports_alone old) (ports_alone p)) (sym is)
