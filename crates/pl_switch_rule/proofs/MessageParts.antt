-- Messages of the manager, and of hosts, that let no frame out are quiet.
use Rattle.std.proofs.Common.{not, nat_lt, ℕ, List, [], ◌∷◌, map, None, Option, Some, fold, refl}
use Rattle.std.specs.List.{filter}
use Rattle.pl_frame.specs.declared.address.Mac.{Mac}
use Rattle.pl_frame.specs.declared.address.SwitchId.{SwitchId}
use Rattle.pl_frame.specs.Ethernet.{source_of}
use Rattle.pl_arp.specs.declared.packet.Arp.{Arp}
use Rattle.pl_pmac.specs.declared.pmac.Pmac.{Pmac}
use Rattle.pl_node.specs.declared.acts.Act.TheVariants.{Tell}
use Rattle.pl_node.specs.declared.messages.ToManager.{ToManager}
use Rattle.pl_node.specs.declared.messages.TreePart.{TreePart}
use Rattle.pl_node.specs.declared.trap.Trap.{Trap}
use Rattle.pl_switch_rule.specs.Intake.{changes_member, groups_told, hears_members, is_member, members_become, packet_acts, with_members}
use Rattle.pl_node.specs.Accounting.{HasMac, IsShaped}
use Rattle.pl_switch_rule.specs.Levels.{changes_to, with_pod}
use Rattle.pl_layouts.specs.Memberships.{changes_in}
use Rattle.pl_switch_rule.specs.Messages.{forgets_members, hears_pod, sets_trap, sets_trap_over, takes_pod, with_part, with_trap}
use Rattle.pl_switch_rule.specs.Granting.{behind, without}
use Rattle.pl_switch_rule.specs.Reporting.{hears_hello, report_for}
use Rattle.pl_steps.specs.Steps.{does, rests}
use Rattle.pl_node.specs.AddressUses.{standing_trap}
use Rattle.pl_node.specs.declared.address_use.AddressUse.TheVariants.{Trapped}
use Rattle.pl_node.specs.declared.switch_records.Grant.{Grant}
use Rattle.pl_node.specs.declared.switch_records.Member.{Member}
use Rattle.pl_node.specs.SwitchViews.{SwitchView}
use Rattle.pl_switch_rule.proofs.StepParts.{IsQuiet, IsSame}
use Rattle.pl_switch_rule.proofs.Shapes.{same_but, same_self, same_shape}
use Rattle.pl_switch_rule.proofs.RowActs.{arp_acts, groups_acts}
use Rattle.pl_switch_rule.proofs.QuietActs.{AreQuiet, IsQuietAct, quiet_either, quiet_rests, quiet_self, quiet_step, same_either}
use Rattle.pl_switch_rule.proofs.GrantingParts.{same_in_order}
use Rattle.pl_switch_rule.proofs.LevelParts.{quiet_changes_to}
use Rattle.pl_switch_rule.proofs.PositionParts.{same_with_place}

pub quiet_hears_pod : (v : SwitchView) (pod : ℕ) → IsShaped v → IsQuiet v (hears_pod v pod)
quiet_hears_pod v pod s =
    let new = with_pod v (Some pod) in
    quiet_either v (takes_pod v pod) (changes_to v new) (rests v)
    (λ h. quiet_changes_to v new (same_with_place v (record v.place { pod = Some pod }) s)) (λ h. quiet_self v s)

pub same_with_avoid : (v : SwitchView) (list : List (SwitchId × ℕ × ℕ)) → IsShaped v → IsSame v (record v { avoid = list })
same_with_avoid v list s = same_shape v (record v { avoid = list }) s refl refl refl refl refl refl refl s.granted s.free s.sources

pub same_with_parts : (v : SwitchView) (parts : List (ℕ × TreePart)) → IsShaped v → IsSame v (record v { parts = parts })
same_with_parts v parts s = same_shape v (record v { parts = parts }) s refl refl refl refl refl refl refl s.granted s.free s.sources

pub quiet_with_avoid : (v : SwitchView) (list : List (SwitchId × ℕ × ℕ)) → IsShaped v → IsQuiet v (rests (record v { avoid = list }))
quiet_with_avoid v list s = quiet_rests v (record v { avoid = list }) (same_with_avoid v list s)

pub quiet_with_part : (v : SwitchView) (group : ℕ) (part : Option TreePart) → IsShaped v → IsQuiet v (rests (record v { parts = with_part group part v.parts }))
quiet_with_part v group part s = quiet_rests v (record v { parts = with_part group part v.parts }) (same_with_parts v (with_part group part v.parts) s)

-- A manager that began anew is told all; what it said of lists and trees before is forgotten.

quiet_words : (k : ℕ) (words : List ToManager) → AreQuiet k (map (λ word. Tell word) words)
quiet_words k [] = tt
quiet_words k (word ∷ words) = (tt, quiet_words k words)

pub quiet_hears_hello : (v : SwitchView) (epoch : ℕ) → IsShaped v → IsQuiet v (hears_hello v epoch)
quiet_hears_hello v epoch s =
    let after : SwitchView = record v { epoch = epoch; avoid = []; parts = [] } in
    quiet_step v after (map (λ word. Tell word) (report_for epoch v)) (same_shape v after s refl refl refl refl refl refl refl s.granted s.free s.sources)
    (quiet_words v.k (report_for epoch v))

-- Members.

pub same_with_members : (v : SwitchView) (members : List Member) → IsShaped v → IsSame v (with_members v members)
same_with_members v members s = same_but v v.place v.attempt v.proposed v.granted members s

pub quiet_members_become : (v : SwitchView) (members : List Member) → IsShaped v → IsQuiet v (members_become v members)
quiet_members_become v members s =
    quiet_step v (with_members v members) (groups_told v.members members) (same_with_members v members s)
    (groups_acts (IsQuietAct v.k) v.members members (λ group other. tt))

pub quiet_hears_members : (v : SwitchView) (port : ℕ) (frame : List ℕ) → IsShaped v → IsQuiet v (hears_members v port frame)
quiet_hears_members v port frame s = quiet_members_become v (fold (changes_member port (source_of frame)) v.members (changes_in frame)) s

pub quiet_forgets_members : (v : SwitchView) (port : ℕ) (amac : Mac) → IsShaped v → IsQuiet v (forgets_members port amac v)
quiet_forgets_members v port amac s = quiet_members_become v (filter (λ m. not (is_member port amac m)) v.members) s

-- ARP.

pub are_quiet_packet_acts : (k : ℕ) (v : SwitchView) (port : ℕ) (frame : List ℕ) (arp : Option Arp) → AreQuiet k (packet_acts v port frame arp)
are_quiet_packet_acts k = arp_acts (IsQuietAct k) (λ asker asker_ip ip. tt)

pub quiet_packet_acts : (v : SwitchView) (port : ℕ) (frame : List ℕ) (arp : Option Arp) → IsShaped v → IsQuiet v (does v (packet_acts v port frame arp))
quiet_packet_acts v port frame arp s = quiet_step v v (packet_acts v port frame arp) (same_self v s) (are_quiet_packet_acts v.k v port frame arp)

-- A trap.

pub same_with_trap : (v : SwitchView) (old : Pmac) (grant : Grant) (trap : Trap) → IsShaped v → HasMac grant → IsSame v (with_trap v old grant trap)
same_with_trap v old grant trap s mac = same_in_order v old (record grant { held = Trapped trap 0 }) (without old v.used) (behind old v.trapped) s mac

same_sets_over : (v : SwitchView) (old : Pmac) (grant : Grant) (trap : Trap) (o : Option Trap) → IsShaped v → HasMac grant → IsSame v (sets_trap_over o v old grant trap)
same_sets_over v old grant trap None s mac = same_with_trap v old grant trap s mac
same_sets_over v old grant trap (Some standing) s mac =
    same_either v (nat_lt trap.number standing.number) v (with_trap v old grant trap) (same_self v s) (same_with_trap v old grant trap s mac)

pub same_sets_trap : (v : SwitchView) (old : Pmac) (grant : Grant) (trap : Trap) → IsShaped v → HasMac grant → IsSame v (sets_trap v old grant trap)
same_sets_trap v old grant trap s mac = same_sets_over v old grant trap (standing_trap grant.held) s mac

pub quiet_sets_trap : (v : SwitchView) (old : Pmac) (grant : Grant) (trap : Trap) → IsShaped v → HasMac grant → IsQuiet v (does (sets_trap v old grant trap) [])
quiet_sets_trap v old grant trap s mac = quiet_rests v (sets_trap v old grant trap) (same_sets_trap v old grant trap s mac)
