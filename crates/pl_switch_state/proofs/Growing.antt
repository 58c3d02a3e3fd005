-- What a switch knows of its place stays known, whatever it learns.
use Rattle.std.proofs.Common.{◌≡◌, ℕ, ◌<◌, ◌&&◌, ◌||◌, not, true, false, if◌then◌else◌, Option, Some, None, is_none, refl, ap, ◌∙◌, arith}
use Rattle.std.proofs.lemmas.Bool.{and_right, and_parts, not-true, or_parts, eqb-false}
use Rattle.std.specs.Prelude.{is_some, IfSome}
use Rattle.std.specs.List.{list_any}
use Rattle.pl_node.specs.PortRecords.{is_open_to_hosts, port_of}
use Rattle.pl_node.specs.SwitchViews.{SwitchView}
use Rattle.pl_layouts.specs.declared.place.Place.{Place}
use Rattle.pl_layouts.specs.Placement.{is_known}
use Rattle.pl_switch_rule.specs.Levels.{becomes_edge, is_of_other_pod, learns_level, learns_pod, level_after, pod_after, pod_told_before, share_a_pod}
use Rattle.pl_ports.specs.Changes.{takes_host, with_host}
use Rattle.pl_ports.specs.SoundPorts.{IsSoundPlace}
use Rattle.pl_switch_state.specs.Settling.{StaysKnown, PlaceGrows}

pub grows_none : (place : Place) → PlaceGrows place place
grows_none place = record { level = λ n is. is; position = λ n is. is; pod = λ n is. is }

level_stays : (v : SwitchView) (told : Place) → StaysKnown v.place.level (level_after v told)
level_stays v told n is =
    ap (λ l. if is_some l then l else (if is_known told.level 0 then Some 1 else (if is_known told.level 1 && list_any (is_of_other_pod told.pod) v.ports then Some 2 else None))) is

pod_stays : (place told : Place) → StaysKnown place.pod (pod_after place told)
pod_stays place told n is = ap (λ o. if is_none o && share_a_pod place.level told.level then told.pod else o) is

-- by a message
pub grows_by_message : (v : SwitchView) (told : Place) → PlaceGrows v.place (learns_pod (learns_level v told) told).place
grows_by_message v told = record {
  level = level_stays v told;
  position = λ n is. is;
  pod = pod_stays (learns_level v told).place told;
}

open_to_edges : (level : Option ℕ) (n : ℕ) → IfSome level (λ l. l < 3) → level ≡ Some n → not (is_known level 1 || is_known level 2) ≡ true → Some 0 ≡ Some n
open_to_edges None n within is not_above = let other : None ≡ Some n = is in absurd cc
open_to_edges (Some l) n within is not_above =
    let apart = or_parts (is_known (Some l) 1) (is_known (Some l) 2) (not-true (is_known (Some l) 1 || is_known (Some l) 2) not_above) in
    let not_one = eqb-false l 1 apart.0 in
    let not_two = eqb-false l 2 apart.1 in
    let edge : 0 ≡ l = omega arith in
    ap (λ x. Some x) edge ∙ is

-- by a host
pub grows_by_host : (v : SwitchView) (port : ℕ) → IsSoundPlace v.place → takes_host v port ≡ true → PlaceGrows v.place (becomes_edge (with_host v port)).place
grows_by_host v port sound takes = record {
  level = λ n is. open_to_edges v.place.level n sound.level is (and_parts (is_open_to_hosts (port_of v port)) (not (is_known v.place.level 1 || is_known v.place.level 2)) takes).1;
  position = λ n is. is;
  pod = λ n is.
      ap (λ o. if is_none v.place.level && is_none o then pod_told_before (with_host v port) else o) is
      ∙ ap (λ b. if◌then◌else◌ {A = Option ℕ} b (pod_told_before (with_host v port)) (Some n)) (and_right (is_none v.place.level) false refl);
}
