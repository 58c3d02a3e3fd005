-- What a switch does with a host's frame, and with most messages of the manager, is not seen by discovery.
use Rattle.std.proofs.Common.{◌≡◌, ℕ, ◌-◌, ◌==◌, nat_lt, slice_set, ◌&&◌, not, Bool, true, false, if◌then◌else◌, List, [], ◌∷◌, Option, Some, None, refl, fold, Ordering, Less, Equal, Greater, filter}
use Rattle.std.specs.List.{AllByRecursion}
use Rattle.std.proofs.lemmas.Bool.{cond_both}
use Rattle.std.specs.BTreeSet.{insert_key}
use Rattle.std.specs.Ordering.{match_ordering}
use Rattle.pl_lemmas.proofs.Exports.{all_filter}
use Rattle.pl_frame.specs.declared.address.Mac.{Mac}
use Rattle.pl_frame.specs.Ethernet.{source_of}
use Rattle.pl_pmac.specs.declared.pmac.Pmac.{Pmac}
use Rattle.pl_layouts.specs.declared.membership.Change.{Change}
use Rattle.pl_layouts.specs.Memberships.{changes_in, group_number}
use Rattle.pl_node.specs.declared.acts.Act.TheVariants as act
use Rattle.pl_node.specs.AddressUses.{standing_trap}
use Rattle.pl_node.specs.declared.address_use.AddressUse.TheVariants.{Trapped}
use Rattle.pl_node.specs.declared.switch_records.Grant.{Grant}
use Rattle.pl_node.specs.declared.switch_records.Member.{Member}
use Rattle.pl_node.specs.declared.trap.Trap.{Trap}
use Rattle.pl_node.specs.PortRecords.{port_of}
use Rattle.pl_node.specs.SwitchViews.{SwitchView}
use Rattle.pl_steps.specs.Steps.{SwitchStep, does, rests, ◌▹◌}
use Rattle.pl_switch_rule.specs.Delivering.{makes}
use Rattle.pl_switch_rule.specs.Forwarding.{Choice}
use Rattle.pl_switch_rule.specs.Granting.{behind, grants_at, held_here, without}
use Rattle.pl_switch_rule.specs.Intake.{changes_member, groups_told, hears_members, is_member, joins, leaves, member_cmp, members_become, takes, takes_in_or_spent, with_members, with_pmac}
use Rattle.pl_switch_rule.specs.Messages.{floods, forgets_members, invalidates, probes, sets_trap, sets_trap_over, with_trap}
use Rattle.pl_switch_rule.specs.SwitchRule.{IsChoice}
use Rattle.pl_switch_rule.proofs.Exports.{groups_acts, held_parts, taken_in}
use Rattle.pl_law_control_plane.specs.Homes.{HasHomes}
use Rattle.pl_law_control_plane.proofs.SilentFrames.{floods_frame_silent, granted_host, makes_silent, packet_silent, probes_silent, sends_in_silent}
use Rattle.pl_law_control_plane.proofs.Silent.{IsSilent, IsStill, addresses_silent, silent_if, silent_then, still_does, still_step}

-- Members.

members_step : (v : SwitchView) (members : List Member) → HasHomes v → AllByRecursion (λ m. (port_of v m.port).host ≡ true) members → IsSilent v (members_become v members)
members_step v members homes all =
    still_step v (with_members v members) (groups_told v.members members)
    (record { id = refl; k = refl; place = refl; ports = refl; attempt = refl; proposed = refl; granted = refl; holds = refl })
    (record { grants = homes.grants; remembered = homes.remembered; members = all })
    (groups_acts IsStill v.members members (λ group other. tt))

inserted : (v : SwitchView) (x : Member) (xs : List Member) → (port_of v x.port).host ≡ true → AllByRecursion (λ m. (port_of v m.port).host ≡ true) xs →
    AllByRecursion (λ m. (port_of v m.port).host ≡ true) (insert_key member_cmp xs x)
inserted v x [] here all = (here, tt)
inserted v x (y ∷ xs) here all = by (member_cmp x y) (inserted v x xs here all.1)
  where
    by : (o : Ordering) → AllByRecursion (λ m. (port_of v m.port).host ≡ true) (insert_key member_cmp xs x) →
        AllByRecursion (λ m. (port_of v m.port).host ≡ true) (match_ordering o (x ∷ y ∷ xs) (y ∷ xs) (y ∷ insert_key member_cmp xs x))
    by Less rest = (here, all)
    by Equal rest = all
    by Greater rest = (all.0, rest)

changed : (v : SwitchView) (port : ℕ) (amac : Mac) (members : List Member) (changes : List Change) → (port_of v port).host ≡ true →
    AllByRecursion (λ m. (port_of v m.port).host ≡ true) members → AllByRecursion (λ m. (port_of v m.port).host ≡ true) (fold (changes_member port amac) members changes)
changed v port amac members [] host all = all
changed v port amac members (change ∷ changes) host all =
    changed v port amac (changes_member port amac members change) changes host (by change.join)
  where
    by : (b : Bool) → AllByRecursion (λ m. (port_of v m.port).host ≡ true)
        (if b then joins port amac (group_number change.group) members else leaves port amac (group_number change.group) members)
    by true = inserted v (record { group = group_number change.group; port = port; amac = amac }) members host all
    by false = all_filter (λ m. (port_of v m.port).host ≡ true) (λ m. not ((m.group == group_number change.group) && is_member port amac m)) members all

-- Intake.

pub takes_in_or_spent_silent : (choose : Choice) (port : ℕ) (frame : List ℕ) (v : SwitchView) → IsChoice choose → (port_of v port).host ≡ true → HasHomes v →
    IsSilent v (takes_in_or_spent choose port frame v)
takes_in_or_spent_silent choose port frame v is host homes =
    taken_in choose port frame v (IsSilent v) (λ cause. still_does v (act.Drop cause ∷ []) homes (tt, tt)) (packet_silent v port frame homes)
    (silent_then v (hears_members v port frame) takes
    (members_step v (fold (changes_member port (source_of frame)) v.members (changes_in frame)) homes
    (changed v port (source_of frame) v.members (changes_in frame) host homes.members)) (λ w seen at. still_does w (act.Take ∷ []) at (tt, tt)))
    (sends_in_silent choose (with_pmac v port frame) v is homes)

-- Messages of the manager.

pub answers_silent : (choose : Choice) (frame : List ℕ) (v : SwitchView) (b : Bool) → IsChoice choose → HasHomes v →
    IsSilent v (if b then makes choose frame v else rests v)
answers_silent choose frame v b is homes =
    silent_if v b (makes choose frame v) (rests v) (λ e. makes_silent choose frame v is homes) (λ e. still_does v [] homes tt)

pub floods_silent : (frame : List ℕ) (v : SwitchView) (b : Bool) → HasHomes v → IsSilent v (if b then floods v frame else rests v)
floods_silent frame v b homes =
    silent_if v b (floods v frame) (rests v) (λ e. floods_frame_silent frame v homes) (λ e. still_does v [] homes tt)

set_silent : (v : SwitchView) (old : Pmac) (grant : Grant) (trap : Trap) → (port_of v old.port).host ≡ true → HasHomes v →
    IsSilent v (does (with_trap v old grant trap) [])
set_silent v old grant trap host homes =
    addresses_silent v old.port (slice_set (grants_at v old.port) (old.vmid - 1) (record grant { held = Trapped trap 0 })) (without old v.used) (behind old v.trapped) v.freed
    [] host homes tt

trap_silent : (v : SwitchView) (old : Pmac) (grant : Grant) (trap : Trap) (standing : Option Trap) → (port_of v old.port).host ≡ true → HasHomes v →
    IsSilent v (does (sets_trap_over standing v old grant trap) [])
trap_silent v old grant trap None host homes = set_silent v old grant trap host homes
trap_silent v old grant trap (Some standing) host homes =
    cond_both (nat_lt trap.number standing.number) v (with_trap v old grant trap) (λ (w : SwitchView). IsSilent v (does w [])) (λ smaller. still_does v [] homes tt)
    (λ larger. set_silent v old grant trap host homes)

pub invalidates_silent : (v : SwitchView) (old : Pmac) (trap : Trap) (grant : Option Grant) → held_here v old ≡ grant → HasHomes v → IsSilent v (invalidates v old trap grant)
invalidates_silent v old trap None is homes = still_does v [] homes tt
invalidates_silent v old trap (Some grant) is homes =
    let host = granted_host v old grant (held_parts v old grant is) homes in
    let first : SwitchStep = does (sets_trap v old grant trap) [] in
    silent_then v (first ▹ forgets_members old.port grant.amac) (probes old grant)
    (silent_then v first (forgets_members old.port grant.amac) (trap_silent v old grant trap (standing_trap grant.held) host homes)
    (λ w seen at. members_step w (filter (λ m. not (is_member old.port grant.amac m)) w.members) at
    (all_filter (λ m. (port_of w m.port).host ≡ true) (λ m. not (is_member old.port grant.amac m)) w.members at.members)))
    (λ w seen at. probes_silent old grant w (rw seen.ports host) at)
