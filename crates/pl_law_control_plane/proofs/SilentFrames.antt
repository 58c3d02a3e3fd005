-- What a switch does with data frames is not seen by discovery.
use Rattle.std.proofs.Common.{◌≡◌, ℕ, zero, suc, ◌<◌, ◌==◌, ◌&&◌, ◌||◌, ◌⊎◌, not, Bool, true, false, if◌then◌else◌, cond, List, [], ◌∷◌, length, Option, Some, None, get_or, refl, sym, ◌∙◌, subst, arith, inl, inr, filter}
use Rattle.std.specs.List.{AllByRecursion, list_any}
use Rattle.std.proofs.lemmas.Bool.{and_parts, eqb-true}
use Rattle.std.proofs.lemmas.Option.{same_Some}
use Rattle.pl_pmac.specs.declared.pmac.Pmac.{Pmac}
use Rattle.pl_layouts.specs.Frames.{packet_in}
use Rattle.pl_layouts.specs.Memberships.{flood}
use Rattle.pl_node.specs.declared.acts.Act.{Act}
use Rattle.pl_node.specs.declared.acts.Act.TheVariants as act
use Rattle.pl_node.specs.declared.switch_records.Grant.{Grant}
use Rattle.pl_node.specs.declared.switch_records.Member.{Member}
use Rattle.pl_node.specs.PortRecords.{id_at, is_usable, port_of, ports_of_switch}
use Rattle.pl_node.specs.SwitchFacts.{part_of}
use Rattle.pl_node.specs.SwitchViews.{SwitchView}
use Rattle.pl_steps.specs.Steps.{SwitchStep, does, ◌▹◌}
use Rattle.pl_switch_rule.specs.declared.came.Came.{Came}
use Rattle.pl_switch_rule.specs.declared.came.Way.{Way}
use Rattle.pl_switch_rule.specs.declared.came.Way.TheVariants.{Down, Nowhere, ToHosts, Up}
use Rattle.pl_switch_rule.specs.Delivering.{makes}
use Rattle.pl_switch_rule.specs.Forwarding.{Choice, candidates, candidates_by, is_candidate}
use Rattle.pl_switch_rule.specs.Granting.{grant_number, granted, grants_at, is_local}
use Rattle.pl_switch_rule.specs.GroupForwarding.{at_most_one, group_ports, is_down, is_reached, is_source, is_up}
use Rattle.pl_switch_rule.specs.SwitchRule.{IsChoice, comes_from_switch}
use Rattle.pl_switch_rule.specs.Intake.{packet_acts, sends_in, takes}
use Rattle.pl_switch_rule.specs.Messages.{floods, probes}
use Rattle.pl_switch_rule.proofs.Exports.{AreWays, begins_stays, candidate_usable, floods_acts, FrameActs, makes_acts, none_of_empty, packet_taken_acts, probes_acts, probes_stay, sends_in_acts, sends_in_stays, switch_frame_acts, switch_frame_stays}
use Rattle.pl_law_control_plane.specs.Homes.{HasHomes}
use Rattle.pl_law_control_plane.proofs.Silent.{GoesWell, IsMute, IsSeen, IsSilent, seen_self}

-- a port by which a frame may leave
abbrev pub IsWay : SwitchView → ℕ → Type 0
IsWay v port = (is_usable v port ≡ true) ⊎ ((port_of v port).host ≡ true)

passed_filter : {T : Type 0} (P : T → Type 0) (test : T → Bool) (xs : List T) → ((x : T) → test x ≡ true → P x) → AllByRecursion P (filter test xs)
passed_filter P test [] each = tt
passed_filter P test (x ∷ xs) each = by (test x) refl (passed_filter P test xs each)
  where
    by : (b : Bool) → test x ≡ b → AllByRecursion P (filter test xs) → AllByRecursion P (cond b (x ∷ filter test xs) (filter test xs))
    by true e rest = (each x e, rest)
    by false e rest = rest

-- Unicast.

candidates_usable : (v : SwitchView) (to : Pmac) (came : Option Came) → AllByRecursion (λ port. is_usable v port ≡ true) (candidates_by v to came)
unfolding candidates
candidates_usable v to None = tt
candidates_usable v to (Some came) = passed_filter (λ port. is_usable v port ≡ true) (is_candidate v to came) (ports_of_switch v.k) (candidate_usable v to came)

at_usable : (v : SwitchView) (ports : List ℕ) (i d : ℕ) → AllByRecursion (λ port. is_usable v port ≡ true) ports → i < length ports →
    is_usable v (get_or ports i d) ≡ true
at_usable v [] i d all within = absurd (omega arith)
at_usable v (p ∷ ports) zero d all within = all.0
at_usable v (p ∷ ports) (suc i) d all within = at_usable v ports i d all.1 (omega arith)

chosen_usable : (choose : Choice) (v : SwitchView) (ports frame : List ℕ) (n : ℕ) → IsChoice choose → AllByRecursion (λ port. is_usable v port ≡ true) ports →
    choose ports frame ≡ Some n → is_usable v n ≡ true
chosen_usable choose v [] frame n is all found = let none = is.empty frame in absurd (cc)
chosen_usable choose v (p ∷ ports) frame n is all found =
    let some = is.chosen p ports frame in
    let same : some.0 ≡ n = same_Some some.0 n (sym some.1 ∙ found) in
    subst (λ port. is_usable v port ≡ true) (sym some.2.1.1 ∙ same) (at_usable v (p ∷ ports) some.2.0 some.0 all some.2.1.0)

-- Groups.

member_way : (v : SwitchView) (group port : ℕ) (members : List Member) → AllByRecursion (λ m. (port_of v m.port).host ≡ true) members →
    list_any (λ m. (m.group == group) && (m.port == port)) members ≡ true → (port_of v port).host ≡ true
member_way v group port [] all h = absurd (cc)
member_way v group port (m ∷ members) all h =
    by ((m.group == group) && (m.port == port)) refl (λ e. member_way v group port members all.1 e) h
  where
    by : (b : Bool) → ((m.group == group) && (m.port == port)) ≡ b → (list_any (λ m. (m.group == group) && (m.port == port)) members ≡ true → (port_of v port).host ≡ true) →
        (b || list_any (λ m. (m.group == group) && (m.port == port)) members) ≡ true → (port_of v port).host ≡ true
    by true e rest h = subst (λ x. (port_of v x).host ≡ true) (eqb-true m.port port (and_parts (m.group == group) (m.port == port) e).1) all.0
    by false e rest h = rest h

reached_way : (v : SwitchView) (group port : ℕ) → HasHomes v → is_reached v group port ≡ true → (port_of v port).host ≡ true
reached_way v group port homes h = by (group == flood) h
  where
    by : (b : Bool) → (if b then (port_of v port).host else list_any (λ m. (m.group == group) && (m.port == port)) v.members) ≡ true → (port_of v port).host ≡ true
    by true h = h
    by false h = member_way v group port v.members homes.members h

one_way : (v : SwitchView) (ports : List ℕ) → AllByRecursion (IsWay v) ports → AllByRecursion (IsWay v) (at_most_one ports)
one_way v [] all = tt
one_way v (p ∷ ports) all = (all.0, tt)

group_ways : (v : SwitchView) (way : Way) (group : ℕ) (source : Pmac) → HasHomes v → AllByRecursion (IsWay v) (group_ports v way group source)
group_ways v Up group source homes =
    one_way v _ (passed_filter (IsWay v) _ (ports_of_switch v.k) (λ port h. inl (and_parts (is_usable v port) (is_up (part_of v group) (id_at v port)) h).0))
group_ways v Down group source homes =
    passed_filter (IsWay v) _ (ports_of_switch v.k) (λ port h. inl (and_parts (is_usable v port) (is_down (part_of v group) (id_at v port)) h).0)
group_ways v ToHosts group source homes =
    passed_filter (IsWay v) _ (ports_of_switch v.k) (λ port h. inr (reached_way v group port homes (and_parts (is_reached v group port) (not (is_source v source port)) h).0))
group_ways v Nowhere group source homes = tt

-- Home.

pub granted_host : (v : SwitchView) (address : Pmac) (grant : Grant) → granted v address ≡ Some grant → HasHomes v → (port_of v address.port).host ≡ true
granted_host v address grant is homes = by (port_of v address.port).host refl
  where
    none_granted : (b : Bool) → grants_at v address.port ≡ [] → (if b then grant_number (grants_at v address.port) address.vmid else None) ≡ None
    none_granted true e = none_of_empty (grants_at v address.port) address.vmid e
    none_granted false e = refl

    by : (b : Bool) → (port_of v address.port).host ≡ b → b ≡ true
    by true e = refl
    by false e = absurd (let none = none_granted (is_local v address) (homes.grants address.port e) in cc)

-- Rows that leave the view.

ways : (choose : Choice) (v : SwitchView) → IsChoice choose → HasHomes v → AreWays choose v (IsWay v)
ways choose v is homes = record {
  chosen = λ to came frame port found. inl (chosen_usable choose v (candidates_by v to came) frame port is (candidates_usable v to came) found);
  grouped = λ way group source. group_ways v way group source homes;
  delivered = λ address grant found. inr (granted_host v address grant found homes);
}

-- by ways alone frames are passed on, whatever is asked of acts
abbrev pub PassesWell : SwitchView → SwitchStep → Type 1
PassesWell v s = (P : Act → Type 0) → FrameActs (IsWay v) P → ((frame : List ℕ) → P (act.Make frame)) → AllByRecursion P s.acts

pub row_silent : (v : SwitchView) (s : SwitchStep) → s.view ≡ v → HasHomes v → PassesWell v s → IsSilent v s
row_silent v s stays homes passes = record {
  seen = subst (IsSeen v) (sym stays) (seen_self v);
  homes = subst HasHomes (sym stays) homes;
  mute = passes IsMute (record { passed = λ port frame way. tt; redirected = λ old new. tt; dropped = λ cause. tt; taken = tt; asked = λ asker asker_ip ip. tt }) (λ frame. tt);
  well = passes (GoesWell v) (record { passed = λ port frame way. way; redirected = λ old new. tt; dropped = λ cause. tt; taken = tt; asked = λ asker asker_ip ip. tt }) (λ frame. tt);
}

pub makes_silent : (choose : Choice) (frame : List ℕ) (v : SwitchView) → IsChoice choose → HasHomes v → IsSilent v (makes choose frame v)
makes_silent choose frame v is homes =
    row_silent v (makes choose frame v) (begins_stays choose v frame) homes
    (λ P may made. makes_acts P (IsWay v) may choose v (ways choose v is homes) frame (made frame))

pub floods_frame_silent : (frame : List ℕ) (v : SwitchView) → HasHomes v → IsSilent v (floods v frame)
floods_frame_silent frame v homes =
    row_silent v (floods v frame) refl homes (λ P may made. floods_acts P (IsWay v) may v
    (λ way group source. group_ways v way group source homes) frame (made frame))

pub probes_silent : (old : Pmac) (grant : Grant) (v : SwitchView) → (port_of v old.port).host ≡ true → HasHomes v → IsSilent v (probes old grant v)
probes_silent old grant v host homes =
    row_silent v (probes old grant v) (probes_stay old grant v) homes (λ P may made. probes_acts P (IsWay v) may.passed old grant v (inr host) (λ ip. made _))

pub packet_silent : (v : SwitchView) (port : ℕ) (frame : List ℕ) → HasHomes v → IsSilent v (does v (packet_acts v port frame (packet_in frame)) ▹ takes)
packet_silent v port frame homes =
    row_silent v (does v (packet_acts v port frame (packet_in frame)) ▹ takes) refl homes (λ P may made. packet_taken_acts P (IsWay v) may v port frame)

pub sends_in_silent : (choose : Choice) (frame : List ℕ) (v : SwitchView) → IsChoice choose → HasHomes v → IsSilent v (sends_in choose frame v)
sends_in_silent choose frame v is homes =
    row_silent v (sends_in choose frame v) (sends_in_stays choose frame v) homes
    (λ P may made. sends_in_acts P (IsWay v) may choose v (ways choose v is homes) frame (λ trap met ip. made _))

-- a frame of another switch
pub comes_from_switch_silent : (choose : Choice) (v : SwitchView) (port : ℕ) (frame : List ℕ) → IsChoice choose → HasHomes v →
    IsSilent v (comes_from_switch choose v port frame)
comes_from_switch_silent choose v port frame is homes =
    row_silent v (comes_from_switch choose v port frame) (switch_frame_stays choose v port frame) homes
    (λ P may made. switch_frame_acts P (IsWay v) may choose v (ways choose v is homes) port frame (λ trap met ip. made _))
