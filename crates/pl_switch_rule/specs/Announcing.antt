-- What a switch does at a tick.
use Rattle.std.specs.Prelude.{ℕ, ◌&&◌, not, Bool, List, ◌++◌, is_none, map}
use Rattle.pl_node.specs.declared.acts.Act.{Act}
use Rattle.pl_node.specs.declared.acts.Act.TheVariants.{Control}
use Rattle.pl_layouts.specs.declared.control.Control.TheVariants as control
use Rattle.pl_layouts.specs.Control.{control_frame}
use Rattle.pl_node.specs.PortRecords.{is_usable_to, port_of, ports_where, aged}
use Rattle.pl_layouts.specs.Placement.{is_known}
use Rattle.pl_steps.specs.Steps.{SwitchStep, does, ◌▹◌}
use Rattle.pl_node.specs.SwitchFacts.{has_granted}
use Rattle.pl_node.specs.SwitchViews.{SwitchView}
use Rattle.pl_switch_rule.specs.Aging.{ages}
use Rattle.pl_switch_rule.specs.Telling.{changes_told}
use Rattle.pl_node.specs.Announcements.{announcement}

abbrev pub announces_at : SwitchView → ℕ → Bool
announces_at v port = not (port_of v port).host

-- an edge switch without a position asks those above it that have not granted its present attempt
abbrev pub proposes_at : SwitchView → ℕ → Bool
proposes_at v port =
    is_known v.place.level 0 && is_none v.place.position && is_usable_to v 1 port && not (has_granted v port)

abbrev pub proposal : SwitchView → List ℕ
proposal v = control_frame (control.Proposal v.id (record { attempt = v.attempt; position = v.proposed }))

abbrev pub with_aged_ports : SwitchView → SwitchView
with_aged_ports v = record v { ports = map aged v.ports }

-- A message out of each port that is no host port, then a proposal out of each port that is to be asked.
abbrev pub announcements : SwitchView → List Act
announcements v =
    map (λ port. Control port (announcement v port)) (ports_where v (announces_at v))
    ++ map (λ port. Control port (proposal v)) (ports_where v (proposes_at v))

-- the ports age, and the neighbours are told
abbrev pub tells_neighbours : SwitchView → SwitchStep
tells_neighbours v = does (with_aged_ports v) (changes_told v (with_aged_ports v) ++ announcements (with_aged_ports v))

-- A tick: then the addresses age, of which none but a placed edge switch has any.
abbrev pub ticks : SwitchView → SwitchStep
ticks v = tells_neighbours v ▹ ages
