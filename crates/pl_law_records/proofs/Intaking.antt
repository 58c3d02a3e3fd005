-- What a switch tells the manager where a data frame comes, and where the manager is heard.
use Rattle.std.proofs.Common.{◌≡◌, ℕ, ◌||◌, nat_lt, Bool, true, false, List, [], ◌∷◌, ◌++◌, Option, Some, None, refl, ◌∙◌, ap, sym}
use Rattle.pl_pmac.specs.declared.pmac.Pmac.{Pmac}
use Rattle.pl_node.specs.declared.acts.Act.TheVariants.{Drop}
use Rattle.pl_node.specs.declared.messages.ToSwitch.{ToSwitch}
use Rattle.pl_node.specs.declared.messages.ToSwitch.TheVariants.{Answer, Avoid, Flood, Hello, Invalidate, Pod, Release, Tree}
use Rattle.pl_node.specs.AddressUses.{standing_trap}
use Rattle.pl_node.specs.declared.switch_records.Grant.{Grant}
use Rattle.pl_node.specs.declared.switch_records.Member.{Member}
use Rattle.pl_node.specs.declared.trap.Trap.{Trap}
use Rattle.pl_node.specs.PortRecords.{is_open_to_hosts, port_of, with_port}
use Rattle.pl_node.specs.SwitchViews.{SwitchView}
use Rattle.pl_journal.specs.declared.cause.Cause.TheVariants.{NotPlaced}
use Rattle.pl_layouts.specs.Placement.{is_known}
use Rattle.pl_steps.specs.Steps.{SwitchStep, does, rests, ◌▹◌}
use Rattle.pl_switch_rule.specs.Delivering.{makes}
use Rattle.pl_switch_rule.specs.Forwarding.{Choice}
use Rattle.pl_switch_rule.specs.Granting.{granted, held_here, is_granted, learns_source}
use Rattle.pl_switch_rule.specs.Intake.{comes_from_host, groups_of, has_member_of, hears_members, members_become, takes, takes_in_or_spent, with_pmac}
use Rattle.pl_switch_rule.specs.Levels.{becomes_edge, changes_to, finds_host, with_pod}
use Rattle.pl_switch_rule.specs.Messages.{answer_frame, flood_frame, floods, forgets_members, hears_manager, invalidates, probes, sets_trap, sets_trap_over, takes_pod, hears_pod, with_trap}
use Rattle.pl_switch_rule.specs.SwitchRule.{comes_from_switch, data_comes}
use Rattle.std.specs.Prelude.{unwrap_or}
use Rattle.pl_node.specs.declared.messages.TreePart.{TreePart}
use Rattle.pl_manager_rule.specs.Histories.{link_said, members_said, place_said}
use Rattle.pl_switch_rule.specs.Messages.{with_part}
use Rattle.pl_law_control_plane.specs.ControlPlanes.{tells}
use Rattle.pl_law_records.specs.Words.{avoid_said, last_said}
use Rattle.std.proofs.Common.{length, inl, inr, get_or-set_same, get_or-set_other}
use Rattle.std.proofs.lemmas.Bool.{cases_eq, cases_lt, cond_both}
use Rattle.std.proofs.lemmas.List.{get_or_past}
use Rattle.pl_frame.specs.declared.address.SwitchId.{SwitchId}
use Rattle.pl_node.specs.declared.neighbour.Neighbour.{Neighbour}
use Rattle.pl_node.specs.declared.neighbour.PortRecord.{PortRecord}
use Rattle.pl_node.specs.PortRecords.{heard_id, id_at, is_usable, new_port}
use Rattle.pl_law_records.proofs.Linking.{IsOnlyAt, LinksAreTold, either_told, still_told, then_told, unheard}
use Rattle.pl_law_records.proofs.Reports.{report_says_links, report_says_members, report_says_no_other, report_says_place}
use Rattle.pl_law_records.proofs.TellingLinks.{IsStill, does_still, either_still, groups_are_told, groups_no_link, groups_no_place, rests_still, step_still, then_still}
use Rattle.pl_law_records.proofs.DataTellsNoPlace.{changes_right, floods_still, frees_still, learns_source_still, makes_still, packet_still, probes_still, sends_in_still, switch_frame_still}
use Rattle.pl_switch_rule.proofs.Exports.{taken_in}

-- Frames of hosts.

members_become_still : (v : SwitchView) (members : List Member) → IsStill v (members_become v members)
members_become_still v members = record {
  telling = record {
    place = groups_no_place v.members members v.place (groups_of (v.members ++ members));
    members = λ group. groups_are_told v.members members group;
    avoid = refl;
    parts = refl;
  };
  id = refl;
  k = refl;
  ports = refl;
  links = λ u before. groups_no_link v.members members u before (groups_of (v.members ++ members));
}

takes_in_or_spent_still : (choose : Choice) (port : ℕ) (frame : List ℕ) (v : SwitchView) → IsStill v (takes_in_or_spent choose port frame v)
takes_in_or_spent_still choose port frame v =
    taken_in choose port frame v (IsStill v) (λ cause. does_still v _ (tt, tt)) (packet_still v port frame)
    (then_still v (hears_members v port frame) takes (members_become_still v _) (λ w. does_still w _ (tt, tt)))
    (sends_in_still choose (with_pmac v port frame) v)

-- a port with another record, in which is heard what was heard
pub silent_with : (v : SwitchView) (port : ℕ) (r : PortRecord) → (r.heard ≡ None → (port_of v port).heard ≡ None) → (p : ℕ) → id_at (with_port v port r) p ≡ None →
    is_usable v p ≡ false
silent_with v port r keeps p none = elim (cases_eq p port) [
  | inl here ↦ elim (cases_lt port (length v.ports)) [
    | inl within ↦
        let at : (port_of (with_port v port r) p).heard ≡ r.heard =
        ap (λ x. (port_of (with_port v port r) x).heard) here ∙ ap (λ (y : PortRecord). y.heard) (get_or-set_same v.ports port r new_port within) in
        unheard v p (ap heard_id (ap (λ x. (port_of v x).heard) here ∙ keeps (no_id r.heard (ap heard_id (sym at) ∙ none))))
    | inr past ↦
        unheard v p (ap (λ x. id_at v x) here ∙ ap (λ (y : PortRecord). heard_id y.heard) (get_or_past v.ports port new_port past))
  ]
  | inr other ↦ unheard v p (ap (λ (y : PortRecord). heard_id y.heard) (sym (get_or-set_other v.ports port p r new_port other)) ∙ none)
]
  where
    no_id : (o : Option Neighbour) → heard_id o ≡ None → o ≡ None
    no_id None e = refl
    no_id (Some n) e = absurd (cc)

finds_host_told : (v : SwitchView) (port : ℕ) → LinksAreTold v (finds_host v port)
finds_host_told v port =
    let r : PortRecord = record (port_of v port) { host = true } in
    changes_right v (becomes_edge (with_port v port r)) refl refl refl (silent_with v port r (λ h. h))

comes_from_host_told : (choose : Choice) (v : SwitchView) (port : ℕ) (frame : List ℕ) → LinksAreTold v (comes_from_host choose v port frame)
comes_from_host_told choose v port frame =
    either_told v (is_known v.place.level 1 || is_known v.place.level 2) (does v (Drop NotPlaced ∷ []))
    (finds_host v port ▹ (λ w. learns_source w port frame) ▹ takes_in_or_spent choose port frame) (still_told v _ (does_still v _ (tt, tt)))
    (then_told v (finds_host v port ▹ (λ w. learns_source w port frame)) (takes_in_or_spent choose port frame)
    (then_told v (finds_host v port) (λ w. learns_source w port frame) (finds_host_told v port) (λ w. learns_source_still w port frame))
    (takes_in_or_spent_still choose port frame))

-- a data frame comes
pub data_right : (choose : Choice) (v : SwitchView) (port : ℕ) (frame : List ℕ) → LinksAreTold v (data_comes choose v port frame)
data_right choose v port frame =
    either_told v (is_open_to_hosts (port_of v port)) (comes_from_host choose v port frame) (comes_from_switch choose v port frame)
    (comes_from_host_told choose v port frame) (still_told v _ (switch_frame_still choose v port frame))

-- The manager is heard.

set_still : (v : SwitchView) (old : Pmac) (grant : Grant) (trap : Trap) (standing : Option Trap) → IsStill v (does (sets_trap_over standing v old grant trap) [])
set_still v old grant trap None = step_still v _ _ refl refl refl refl refl refl refl tt
set_still v old grant trap (Some standing) =
    cond_both (nat_lt trap.number standing.number) v (with_trap v old grant trap) (λ (w : SwitchView). IsStill v (does w [])) (λ smaller. rests_still v)
    (λ larger. step_still v _ _ refl refl refl refl refl refl refl tt)

invalidates_still : (v : SwitchView) (old : Pmac) (trap : Trap) (grant : Option Grant) → IsStill v (invalidates v old trap grant)
invalidates_still v old trap None = rests_still v
invalidates_still v old trap (Some grant) =
    let first = does (sets_trap v old grant trap) [] in
    then_still v (first ▹ forgets_members old.port grant.amac) (probes old grant)
    (then_still v first (forgets_members old.port grant.amac) (set_still v old grant trap (standing_trap grant.held)) (λ w. members_become_still w _))
    (probes_still old grant)

-- the parts of a switch once the manager said this
abbrev pub parts_after : ToSwitch → List (ℕ × TreePart) → List (ℕ × TreePart)
parts_after (Tree group part) parts = with_part group part parts
parts_after (Hello epoch) parts = []
parts_after says parts = parts

-- what the manager says replaces a list or a part, or leaves both
pub record IsObeying (says : ToSwitch) (v : SwitchView) (s : SwitchStep) : Type 0 where
  pub place : last_said place_said v.place (tells s.acts) ≡ s.view.place
  pub members : (group : ℕ) → last_said (members_said group) (has_member_of v.members group) (tells s.acts) ≡ has_member_of s.view.members group
  pub links : (u : SwitchId) (p : ℕ) → IsOnlyAt s.view u p → last_said (link_said u) (is_usable v p) (tells s.acts) ≡ is_usable s.view p
  pub others : (u : SwitchId) → ((p : ℕ) → id_at s.view p ≡ Some u → ⊥) → (before : Bool) → last_said (link_said u) before (tells s.acts) ≡ before
  pub avoid : s.view.avoid ≡ unwrap_or (avoid_said says) v.avoid
  pub parts : s.view.parts ≡ parts_after says v.parts

pod_told : (v : SwitchView) (pod : ℕ) → LinksAreTold v (hears_pod v pod)
pod_told v pod =
    either_told v (takes_pod v pod) (changes_to v (with_pod v (Some pod))) (rests v)
    (changes_right v (with_pod v (Some pod)) refl refl refl (λ p none. unheard v p none)) (still_told v _ (rests_still v))

pub manager_obeyed : (choose : Choice) (v : SwitchView) (says : ToSwitch) → IsObeying says v (hears_manager choose v says)
manager_obeyed choose v (Avoid list) = record { place = refl; members = λ group. refl; links = λ u p at. refl; others = λ u nowhere before. refl; avoid = refl; parts = refl }
manager_obeyed choose v (Tree group part) = record { place = refl; members = λ group. refl; links = λ u p at. refl; others = λ u nowhere before. refl; avoid = refl; parts = refl }
manager_obeyed choose v (Hello epoch) = record {
  place = report_says_place v epoch;
  members = report_says_members v epoch;
  links = λ u p at. report_says_links v epoch u p (record { within = at.within; only = at.only; named = at.named });
  others = λ u nowhere before. report_says_no_other v epoch u nowhere before;
  avoid = refl;
  parts = refl;
}
manager_obeyed choose v (Pod pod) =
    let a = pod_told v pod in record { place = a.telling.place; members = a.telling.members; links = a.links; others = a.others; avoid = a.telling.avoid; parts = a.telling.parts }
manager_obeyed choose v (Answer asker asker_ip ip pmac) =
    let a = still_told v _ (either_still v (is_granted v asker) (makes choose (answer_frame asker asker_ip ip pmac) v) (rests v)
    (makes_still choose (answer_frame asker asker_ip ip pmac) v) (rests_still v)) in
    record { place = a.telling.place; members = a.telling.members; links = a.links; others = a.others; avoid = a.telling.avoid; parts = a.telling.parts }
manager_obeyed choose v (Flood asker asker_ip ip) =
    let a = still_told v _ (either_still v (is_granted v asker) (floods v (flood_frame asker asker_ip ip)) (rests v)
    (floods_still (flood_frame asker asker_ip ip) v) (rests_still v)) in
    record { place = a.telling.place; members = a.telling.members; links = a.links; others = a.others; avoid = a.telling.avoid; parts = a.telling.parts }
manager_obeyed choose v (Invalidate old new number ip) =
    let a = still_told v _ (invalidates_still v old (record { new = new; number = number; ip = ip }) (held_here v old)) in
    record { place = a.telling.place; members = a.telling.members; links = a.links; others = a.others; avoid = a.telling.avoid; parts = a.telling.parts }
manager_obeyed choose v (Release address) =
    let a = still_told v _ (frees_still v address (granted v address)) in
    record { place = a.telling.place; members = a.telling.members; links = a.links; others = a.others; avoid = a.telling.avoid; parts = a.telling.parts }
