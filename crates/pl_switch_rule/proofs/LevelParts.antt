-- What a switch tells the manager of its place, and how it learns it, is quiet.
use Rattle.std.proofs.Common.{◌&&◌, ℕ, true, if◌then◌else◌, Option, Some, is_none, arith}
use Rattle.pl_frame.specs.declared.address.SwitchId.{SwitchId}
use Rattle.pl_layouts.specs.declared.control.Ldm.{Ldm}
use Rattle.pl_layouts.specs.declared.place.Place.{Place}
use Rattle.pl_switch_rule.specs.Granting.{grants_remembered}
use Rattle.pl_node.specs.Accounting.{IsShaped}
use Rattle.pl_switch_rule.specs.Levels.{after_message, becomes_edge, changes_to, finds_host, has_become_placed, hears_message, learns_level, learns_pod, level_after, notes_edge, pod_after, pod_told_before, settles_in, with_level, with_message, with_pod}
use Rattle.pl_switch_rule.specs.Positions.{notes_position}
use Rattle.pl_node.specs.PortRecords.{port_of, ports_of_switch, with_port}
use Rattle.pl_layouts.specs.Placement.{is_known}
use Rattle.pl_steps.specs.Steps.{does, rests}
use Rattle.pl_node.specs.SwitchViews.{SwitchView}
use Rattle.pl_switch_rule.specs.Telling.{changes_told}
use Rattle.pl_switch_rule.proofs.StepParts.{IsQuiet, IsSame, quiet_then_quiet, same_then}
use Rattle.pl_switch_rule.proofs.Shapes.{all_range, same_self, same_with_port}
use Rattle.pl_switch_rule.proofs.RowActs.{told_acts}
use Rattle.pl_switch_rule.proofs.QuietActs.{AreQuiet, IsQuietAct, quiet_either, quiet_self, quiet_step, same_either}
use Rattle.pl_switch_rule.proofs.GrantingParts.{quiet_grants_remembered}
use Rattle.pl_switch_rule.proofs.PositionParts.{same_notes_position, same_with_place}

-- Telling.

pub quiet_changes_told : (k : ℕ) (old new : SwitchView) → AreQuiet k (changes_told old new)
quiet_changes_told k old new = told_acts (IsQuietAct k) old new (record { placed = tt; linked = λ neighbour usable. tt; wanted = λ position. tt })

-- What has changed.

pub quiet_settles_in : (old : Place) (v : SwitchView) → IsShaped v → IsQuiet v (settles_in old v)
quiet_settles_in old v s =
    quiet_either v (has_become_placed old v.place) (grants_remembered (ports_of_switch v.k) v) (rests v)
    (λ h. quiet_grants_remembered (ports_of_switch v.k) v s (all_range v.k 0 v.k (omega arith))) (λ h. quiet_self v s)

pub quiet_changes_to : (old new : SwitchView) → IsSame old new → IsQuiet old (changes_to old new)
quiet_changes_to old new same =
    quiet_then_quiet old (does new (changes_told old new)) (settles_in old.place)
    (quiet_step old new (changes_told old new) same (quiet_changes_told old.k old new)) (λ w next. quiet_settles_in old.place w next.shaped)

-- A message.

same_with_level : (v : SwitchView) (level : Option ℕ) → IsShaped v → IsSame v (with_level v level)
same_with_level v level s = same_with_place v (record v.place { level = level }) s

pub same_with_pod : (v : SwitchView) (pod : Option ℕ) → IsShaped v → IsSame v (with_pod v pod)
same_with_pod v pod s = same_with_place v (record v.place { pod = pod }) s

same_notes_edge : (v : SwitchView) (id : SwitchId) (told : Place) → IsShaped v → IsSame v (notes_edge v id told)
same_notes_edge v id told s =
    same_either v (is_known v.place.level 1 && is_known told.level 0) (notes_position v id told.position) v (same_notes_position v id told.position s) (same_self v s)

pub same_after_message : (v : SwitchView) (port : ℕ) (id : SwitchId) (m : Ldm) → IsShaped v → IsSame v (after_message v port id m)
same_after_message v port id m s =
    let heard = with_message v port id m in
    let level = learns_level heard m.place in
    let pod = learns_pod level m.place in
    let a = same_with_port v port (record {
      host = (port_of v port).host;
      heard = Some (record { id = id; place = m.place; echo = m.echo });
      silent = 0;
    }) s in
    let b = same_with_level heard (level_after heard m.place) a.shaped in
    let c = same_with_pod level (pod_after level.place m.place) b.shaped in
    let d = same_notes_edge pod id m.place c.shaped in
    same_then v heard (notes_edge pod id m.place) a (same_then heard level (notes_edge pod id m.place) b (same_then level pod (notes_edge pod id m.place) c d))

pub quiet_hears_message : (v : SwitchView) (port : ℕ) (id : SwitchId) (m : Ldm) → IsShaped v → IsQuiet v (hears_message v port id m)
quiet_hears_message v port id m s = quiet_changes_to v (after_message v port id m) (same_after_message v port id m s)

-- A host.

same_becomes_edge : (v : SwitchView) → IsShaped v → IsSame v (becomes_edge v)
same_becomes_edge v s =
    let pod = if◌then◌else◌ {A = Option ℕ} (is_none v.place.level && is_none v.place.pod) (pod_told_before v) v.place.pod in
    let edge = with_level v (Some 0) in
    let first = same_with_level v (Some 0) s in
    same_then v edge (with_pod edge pod) first (same_with_pod edge pod first.shaped)

pub quiet_finds_host : (v : SwitchView) (port : ℕ) → IsShaped v → IsQuiet v (finds_host v port)
quiet_finds_host v port s =
    let marked = with_port v port (record (port_of v port) { host = true }) in
    let first = same_with_port v port (record (port_of v port) { host = true }) s in
    quiet_changes_to v (becomes_edge marked) (same_then v marked (becomes_edge marked) first (same_becomes_edge marked first.shaped))
