-- A frame of a host has come.
use Rattle.std.proofs.Common.{◌≡◌, ℕ, ◌<◌, true, length, sym, ap, ◌∙◌}
use Rattle.std.specs.Prelude.{◌&&◌, not, if◌then◌else◌, slice_index_or, slice_set}
use Rattle.std.proofs.Math.Bool.{and-true}
use Rattle.std.proofs.lemmas.List.{get_or-set_same}
use Rattle.pl_node.specs.declared.neighbour.PortRecord.{PortRecord}
use Rattle.pl_node.specs.PortRecords.{new_port, port_of}
use Rattle.pl_node.specs.SwitchViews.{SwitchView}
use Rattle.pl_switch_rule.specs.Levels.{becomes_edge}
use Rattle.pl_ports.specs.Changes.{becomes_host_port, takes_host, with_host}
use Rattle.pl_ports.specs.PortsViews.{PortsView, ports_alone, put_ports}

abbrev with_host_at : PortsView → ℕ → PortRecord → PortsView
with_host_at p port r = record p { ports = slice_set p.ports port (record r { host = true }) }

module _ (old between new : PortsView) (port : ℕ) (r : PortRecord) (is : r ≡ port_of (ports_alone old) port) (found : between ≡ with_host_at old port r)
    (edge : (v : SwitchView) → put_ports new v ≡ becomes_edge (put_ports between v)) where
  pub edge_found : takes_host (ports_alone old) port ≡ true → (v : SwitchView) →
      put_ports new v ≡ (if takes_host (put_ports old v) port then becomes_edge (with_host (put_ports old v) port) else put_ports old v)
  edge_found takes v =
      edge v ∙ ap (λ p. becomes_edge (put_ports p v)) (found ∙ ap (λ x. with_host_at old port x) is)
      ∙ ap (λ b. if b then becomes_edge (with_host (put_ports old v) port) else put_ports old v) (sym takes)

  host_there : port < length old.ports → (port_of (ports_alone new) port).host ≡ true
  host_there within =
      ap (λ v. (port_of v port).host) (edge (ports_alone new)) ∙ ap (λ p. (slice_index_or p.ports port new_port).host) found
      ∙ ap (λ x. x.host) (get_or-set_same old.ports port (record r { host = true }) new_port within)

  pub host_found : port < length old.ports → not r.host ≡ becomes_host_port (ports_alone old) (ports_alone new) port
  host_found within =
      sym (and-true (not r.host)) ∙ ap (λ b. not r.host && b) (sym (host_there within))
      ∙ ap (λ x. not x.host && (port_of (ports_alone new) port).host) is
