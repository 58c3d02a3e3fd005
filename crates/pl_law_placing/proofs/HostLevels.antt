-- A frame of a host gives an edge switch its level.
use Rattle.std.proofs.Common.{◌≡◌, ◌⊎◌, ◌<◌, ℕ, ◌||◌, Bool, true, false, if◌then◌else◌, List, [], ◌∷◌, length, Option, Some, None, is_none, get_or, refl, sym, ap, ◌∙◌, inl, inr, get_or-set_same}
use Rattle.pl_layouts.specs.declared.place.Place.{Place}
use Rattle.pl_layouts.specs.Placement.{is_known}
use Rattle.pl_journal.specs.declared.cause.Cause.TheVariants.{NotPlaced}
use Rattle.pl_node.specs.declared.acts.Act.TheVariants as act
use Rattle.pl_node.specs.declared.neighbour.Neighbour.{Neighbour}
use Rattle.pl_node.specs.declared.neighbour.PortRecord.{PortRecord}
use Rattle.pl_node.specs.PortRecords.{is_open_to_hosts, new_port, port_of, with_port}
use Rattle.pl_node.specs.SwitchViews.{SwitchView}
use Rattle.pl_steps.specs.Steps.{SwitchStep, does, ◌▹◌}
use Rattle.pl_switch_rule.specs.Forwarding.{Choice}
use Rattle.pl_switch_rule.specs.Granting.{learns_source}
use Rattle.pl_switch_rule.specs.Intake.{comes_from_host, takes_in_or_spent}
use Rattle.pl_switch_rule.specs.Levels.{becomes_edge, changes_to, finds_host}
use Rattle.pl_switch_rule.specs.SwitchRule.{IsChoice, comes_from_switch, data_comes}
use Rattle.pl_law_control_plane.specs.Homes.{HasHomes}
use Rattle.pl_law_control_plane.proofs.Exports.{changes_to_silent, IsSilent, learns_source_silent, silent_then, takes_in_or_spent_silent}
use Rattle.pl_law_places.proofs.Exports.{homes_same, set_or_old}

-- nothing was heard at the port, the switch is not known to be another than an edge switch, and it knows hosts at host ports alone
module _ (choose : Choice) (v : SwitchView) (port : ℕ) (frame : List ℕ) (chooses : IsChoice choose) (nothing : (port_of v port).heard ≡ None)
    (edge : (v.place.level ≡ None) ⊎ (v.place.level ≡ Some 0)) (within : port < length v.ports) (homes : HasHomes v) where
  abbrev found : SwitchView
  found = with_port v port (record (port_of v port) { host = true })

  at_port : (p : ℕ) → ((p ≡ port) × (get_or found.ports p new_port ≡ record (port_of v port) { host = true })) ⊎ (get_or found.ports p new_port ≡ get_or v.ports p new_port)
  at_port p = set_or_old v.ports port p (record (port_of v port) { host = true }) new_port

  more : (p : ℕ) → (port_of v p).host ≡ true → (get_or found.ports p new_port).host ≡ true
  more p h = elim (at_port p) [ inl new ↦ ap (λ (x : PortRecord). x.host) new.1 | inr same ↦ ap (λ (x : PortRecord). x.host) same ∙ h ]

  less : (p : ℕ) → (get_or found.ports p new_port).host ≡ false → (port_of v p).host ≡ false
  less p h = elim (at_port p) [
    | inl new ↦ absurd (let e = ap (λ (x : PortRecord). x.host) new.1 in cc (e, h))
    | inr same ↦ ap (λ (x : PortRecord). x.host) (sym same) ∙ h
  ]

  host_found : (port_of (becomes_edge found) port).host ≡ true
  host_found = ap (λ (x : PortRecord). x.host) (get_or-set_same v.ports port (record (port_of v port) { host = true }) new_port within)

  found_homes : HasHomes (becomes_edge found)
  found_homes = homes_same v (becomes_edge found) more less refl refl refl homes

  whole : IsSilent (becomes_edge found) (changes_to v (becomes_edge found) ▹ (λ w. learns_source w port frame) ▹ takes_in_or_spent choose port frame)
  whole =
      silent_then (becomes_edge found) (changes_to v (becomes_edge found) ▹ (λ w. learns_source w port frame)) (takes_in_or_spent choose port frame)
      (silent_then (becomes_edge found) (changes_to v (becomes_edge found)) (λ w. learns_source w port frame)
      (changes_to_silent v (becomes_edge found) found_homes)
      (λ w seen has. learns_source_silent w port frame (rw seen.ports host_found) has))
      (λ w seen has. takes_in_or_spent_silent choose port frame w chooses (rw seen.ports host_found) has)

  open_port : is_open_to_hosts (port_of v port) ≡ true
  open_port = by (port_of v port).host (port_of v port).heard nothing
    where
      by : (b : Bool) (o : Option Neighbour) → o ≡ None → (b || is_none o) ≡ true
      by true o e = refl
      by false o e = rw e refl

  no_other : (is_known v.place.level 1 || is_known v.place.level 2) ≡ false
  no_other = elim edge [ inl none ↦ rw none refl | inr zero ↦ rw zero refl ]

  pub host_gives_level : (data_comes choose v port frame).view.place.level ≡ Some 0
  host_gives_level =
      ap (λ b. (if◌then◌else◌ {A = SwitchStep} b (comes_from_host choose v port frame) (comes_from_switch choose v port frame)).view.place.level) open_port
      ∙ ap (λ b. (if◌then◌else◌ {A = SwitchStep} b (does v (act.Drop NotPlaced ∷ [])) (finds_host v port ▹ (λ w. learns_source w port frame) ▹ takes_in_or_spent choose port frame)).view.place.level) no_other
      ∙ ap (λ (p : Place). p.level) whole.seen.place
