-- What a switch has told the fabric manager of itself, and what is told of a change.
use Rattle.std.specs.Prelude.{◌≡◌, ℕ, ◌==◌, if◌then◌else◌, List, []}
use Rattle.std.specs.List.{list_any}
use Rattle.pl_lists.specs.declared.port_set.PortSet.{PortSet}
use Rattle.pl_lists.specs.Ports.{ports_of}
use Rattle.pl_node.specs.declared.acts.Act.{Act}
use Rattle.pl_node.specs.PortRecords.{id_at, is_usable, ports_where}
use Rattle.pl_node.specs.SwitchViews.{SwitchView}
use Rattle.pl_journal.specs.Places.{are_alike}
use Rattle.pl_switch_rule.specs.Telling.{link_to}
use Rattle.pl_ports.specs.declared.standing.Standing.{Standing}

-- the place, and the usable ports, rising
pub record IsStandingOf (standing : Standing) (v : SwitchView) : Type 0 where
  pub place : standing.place ≡ v.place
  pub usable : ports_of standing.usable ≡ ports_where v (is_usable v)

-- the link at a port, where these ports were usable before
abbrev pub link_told_since : PortSet → SwitchView → ℕ → List Act
link_told_since usable new port =
    if are_alike (list_any (λ p. p == port) (ports_of usable)) (is_usable new port) then [] else link_to (id_at new port) (is_usable new port)

-- the link at a port, whatever was told of it before
abbrev pub link_known : SwitchView → ℕ → List Act
link_known v port = link_to (id_at v port) (is_usable v port)
