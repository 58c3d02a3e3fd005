-- The first cause of a frame for this pod and position, of one that begins here, and of the reply to a sender.
use Rattle.std.proofs.Common.{◌≡◌, ◌≤◌, ◌&&◌, not, ℕ, Bool, true, false, if◌then◌else◌, List, [], ◌∷◌, ◌++◌, length, Option, Some, None, is_some, refl, sym, ap, subst, ◌∙◌, inl}
use Rattle.std.proofs.lemmas.Bool.{cond_both}
use Rattle.byteorder.specs.Endian.{big_bytes}
use Rattle.pl_frame.specs.declared.address.Ip4.{Ip4}
use Rattle.pl_frame.specs.declared.address.Mac.{Mac}
use Rattle.pl_frame.specs.Ethernet.{destination_of, source_of, with_destination}
use Rattle.pl_frame.proofs.Exports.{front_of}
use Rattle.pl_arp.specs.declared.packet.Arp.{Arp}
use Rattle.pl_arp.specs.Packet.{layout}
use Rattle.pl_pmac.specs.declared.pmac.Pmac.{Pmac}
use Rattle.pl_pmac.specs.Pmac.{mac_of, pmac_of}
use Rattle.pl_node.specs.declared.acts.Act.{Act}
use Rattle.pl_node.specs.declared.acts.Act.TheVariants.{Redirect}
use Rattle.pl_node.specs.declared.trap.Trap.{Trap}
use Rattle.pl_node.specs.declared.switch_records.Grant.{Grant}
use Rattle.pl_node.specs.SwitchViews.{SwitchView}
use Rattle.pl_journal.specs.declared.cause.Cause.{Cause}
use Rattle.pl_journal.specs.declared.cause.Cause.TheVariants.{NoAddress, NoNextHop}
use Rattle.pl_layouts.specs.ArpFrames.{arp_frame}
use Rattle.pl_layouts.specs.Frames.{is_arp}
use Rattle.pl_switch_rule.specs.declared.came.Came.{Came}
use Rattle.pl_switch_rule.specs.declared.came.Came.TheVariants.{FromHost}
use Rattle.pl_switch_rule.specs.CauseOf.{DropsFor, cause_at, cause_from_here, if_nowhere, is_told}
use Rattle.pl_switch_rule.specs.Delivering.{addresses, arrives_home, begins, comes_home, delivers, delivers_or_redirects, delivers_to, destination, goes_on, grant_trap, last_trap, makes, redirects, tells_newer, tells_sender, trap_for}
use Rattle.pl_switch_rule.specs.DropCauses.{address_after, first_drop}
use Rattle.pl_switch_rule.specs.Forwarding.{Choice, candidates_by, forwards, leaves_by}
use Rattle.pl_switch_rule.specs.Granting.{grant_number, grants_at, held_here, is_local}
use Rattle.pl_steps.specs.Steps.{SwitchStep, does}
use Rattle.pl_switch_rule.specs.SwitchRule.{IsChoice}
use Rattle.pl_switch_rule.proofs.Redirects.{new_destination, redirects_go_on}
use Rattle.pl_switch_rule.proofs.FirstCauses.{MakesNone, drops_before, drops_made, either_first}
use Rattle.pl_switch_rule.proofs.FirstDrops.{first_behind}
use Rattle.pl_switch_rule.proofs.GrantingParts.{source_has_six}
use Rattle.pl_switch_rule.proofs.RowActs.{FrameActs, IsAnyPort, any_way, begins_acts, home_acts}
use Rattle.pl_switch_rule.proofs.RowViews.{home_stays}

-- no row but that of a frame that the switch makes begins one
pub makes_none : FrameActs IsAnyPort MakesNone
makes_none = record { passed = λ port frame way. tt; redirected = λ old new. tt; dropped = λ cause. tt; taken = tt; asked = λ asker asker_ip ip. tt }

-- Delivery, and leaving.

delivers_cause : (v : SwitchView) (address : Pmac) (sent : List ℕ) (o : Option Grant) →
    first_drop (delivers_to v address sent o).acts ≡ (if is_some o then None else Some NoAddress)
delivers_cause v address sent None = refl
delivers_cause v address sent (Some grant) = refl

leaves_cause : (choose : Choice) (v : SwitchView) (sent ports : List ℕ) → IsChoice choose →
    first_drop (leaves_by v sent (choose ports sent)).acts ≡ if_nowhere ports NoNextHop
leaves_cause choose v sent [] is_choice = ap (λ o. first_drop (leaves_by v sent o).acts) (is_choice.empty sent)
leaves_cause choose v sent (port ∷ ports) is_choice =
    let some = is_choice.chosen port ports sent in ap (λ o. first_drop (leaves_by v sent o).acts) some.1

pub forwards_cause : (choose : Choice) (v : SwitchView) (came : Option Came) (sent : List ℕ) → IsChoice choose →
    first_drop (forwards choose v came sent).acts ≡ if_nowhere (candidates_by v (destination sent) came) NoNextHop
forwards_cause choose v came sent is_choice = leaves_cause choose v sent (candidates_by v (destination sent) came) is_choice

-- Behind the traps.

goes_on_cause : (choose : Choice) (v : SwitchView) (sent : List ℕ) → IsChoice choose →
    first_drop (goes_on choose v sent).acts ≡ cause_at v (destination sent)
goes_on_cause choose v sent is_choice =
    either_first (is_local v (destination sent)) (delivers v sent) (forwards choose v (Some FromHost) sent)
    (if is_some (held_here v (destination sent)) then None else Some NoAddress)
    (if_nowhere (candidates_by v (destination sent) (Some FromHost)) NoNextHop)
    (delivers_cause v (destination sent) sent (held_here v (destination sent))) (forwards_cause choose v (Some FromHost) sent is_choice)

home_cause : (choose : Choice) (v : SwitchView) (sent : List ℕ) (o : Option Trap) → IsChoice choose → is_local v (destination sent) ≡ true →
    first_drop (delivers_or_redirects choose v sent o).acts ≡ cause_at v (address_after v (destination sent) o)
home_cause choose v sent None is_choice here =
    let to_host : Option Cause = if is_some (held_here v (destination sent)) then None else Some NoAddress in
    let away : Option Cause = if_nowhere (candidates_by v (destination sent) (Some FromHost)) NoNextHop in
    delivers_cause v (destination sent) sent (held_here v (destination sent))
    ∙ sym (ap (λ b. if◌then◌else◌ {A = Option Cause} b to_host away) here)
home_cause choose v sent (Some trap) is_choice here =
    let last : Pmac = (last_trap (addresses v) v trap).new in
    let turned : List ℕ = with_destination sent (mac_of last) in
    let before : List Act = Redirect (destination sent) trap.new ∷ redirects (addresses v) v trap in
    first_behind before (goes_on choose v turned).acts (tt, redirects_go_on (addresses v) v trap)
    ∙ goes_on_cause choose v turned is_choice ∙ ap (cause_at v) (new_destination sent last)

-- A frame that begins here.

-- no trap stands for an address of another edge switch
pub no_trap_elsewhere : (v : SwitchView) (address : Pmac) → is_local v address ≡ false → trap_for v address ≡ None
no_trap_elsewhere v address other =
    ap (λ b. grant_trap (if◌then◌else◌ {A = Option Grant} b (grant_number (grants_at v address.port) address.vmid) None)) other

cause_elsewhere : (v : SwitchView) (address : Pmac) → is_local v address ≡ false →
    if_nowhere (candidates_by v address (Some FromHost)) NoNextHop ≡ cause_from_here v address
cause_elsewhere v address other =
    let to_host : Option Cause = if is_some (held_here v address) then None else Some NoAddress in
    let away : Option Cause = if_nowhere (candidates_by v address (Some FromHost)) NoNextHop in
    sym (ap (λ b. if◌then◌else◌ {A = Option Cause} b to_host away) other)
    ∙ sym (ap (λ o. cause_at v (address_after v address o)) (no_trap_elsewhere v address other))

begins_cause : (choose : Choice) (v : SwitchView) (sent : List ℕ) → IsChoice choose →
    first_drop (begins choose v sent).acts ≡ cause_from_here v (destination sent)
begins_cause choose v sent is_choice =
    cond_both (is_local v (destination sent)) (comes_home choose v sent) (forwards choose v (Some FromHost) sent)
    (λ s. first_drop s.acts ≡ cause_from_here v (destination sent))
    (λ here. home_cause choose v sent (trap_for v (destination sent)) is_choice here)
    (λ other. forwards_cause choose v (Some FromHost) sent is_choice ∙ cause_elsewhere v (destination sent) other)

-- an ARP packet goes to its destination
pub destination_of-arp_frame : (to : Mac) (a : Arp) → length to.0 ≡ 6 → destination_of (arp_frame to a) ≡ to
unfolding arp_frame
destination_of-arp_frame to a six =
    let mac : List ℕ → Mac = λ front. record { 0 = front } in
    ap mac (front_of 6 to.0 (a.sha.0 ++ (big_bytes 2 0x0806 ++ layout a)) six)

-- a packet that the switch makes
pub makes_drops_for : (choose : Choice) (v : SwitchView) (to : Mac) (a : Arp) → IsChoice choose → length to.0 ≡ 6 →
    DropsFor (makes choose (arp_frame to a) v).acts None (cause_from_here v (pmac_of to))
makes_drops_for choose v to a is_choice six =
    let frame : List ℕ = arp_frame to a in
    subst (λ m. DropsFor (makes choose frame v).acts None (cause_from_here v (pmac_of m))) (destination_of-arp_frame to a six)
    (drops_made frame (begins choose v frame).acts (cause_from_here v (destination frame))
    (begins_acts MakesNone IsAnyPort makes_none choose v (any_way choose v) frame)
    (begins_cause choose v frame is_choice))

-- The reply to the sender.

newer_drops_for : (choose : Choice) (sent : List ℕ) (new : Pmac) (v : SwitchView) (arp : Bool) (o : Option Ip4) → IsChoice choose → 14 ≤ length sent →
    DropsFor (if arp then does v [] else tells_newer choose sent new o v).acts None
    (if not arp && is_some o then cause_from_here v (pmac_of (source_of sent)) else None)
newer_drops_for choose sent new v true o is_choice long = record { came = refl; made = refl; others = inl refl }
newer_drops_for choose sent new v false None is_choice long = record { came = refl; made = refl; others = inl refl }
newer_drops_for choose sent new v false (Some ip) is_choice long =
    makes_drops_for choose v (source_of sent) (record { op = 2; sha = mac_of new; spa = ip; tha = source_of sent; tpa = ip }) is_choice
    (source_has_six sent long)

sender_drops_for : (choose : Choice) (sent : List ℕ) (o : Option Trap) (v : SwitchView) → IsChoice choose → 14 ≤ length sent →
    DropsFor (tells_sender choose sent o v).acts None (if is_told v (is_arp sent) o then cause_from_here v (pmac_of (source_of sent)) else None)
sender_drops_for choose sent None v is_choice long = record { came = refl; made = refl; others = inl refl }
sender_drops_for choose sent (Some trap) v is_choice long =
    let last : Trap = last_trap (addresses v) v trap in newer_drops_for choose sent last.new v (is_arp sent) last.ip is_choice long

-- Both.

pub home_drops_for : (choose : Choice) (v : SwitchView) (sent : List ℕ) → IsChoice choose → 14 ≤ length sent → is_local v (destination sent) ≡ true →
    DropsFor (arrives_home choose v sent).acts (cause_from_here v (destination sent))
    (if is_told v (is_arp sent) (trap_for v (destination sent)) then cause_from_here v (pmac_of (source_of sent)) else None)
home_drops_for choose v sent is_choice long here =
    let trap : Option Trap = trap_for v (destination sent) in
    let home : SwitchStep = comes_home choose v sent in
    let reply : Option Cause = if is_told v (is_arp sent) trap then cause_from_here v (pmac_of (source_of sent)) else None in
    drops_before home.acts (tells_sender choose sent trap home.view).acts (cause_from_here v (destination sent)) reply
    (home_acts MakesNone IsAnyPort makes_none choose v (any_way choose v) sent trap) (home_cause choose v sent trap is_choice here)
    (subst (λ w. DropsFor (tells_sender choose sent trap w).acts None reply) (sym (home_stays choose v sent trap))
    (sender_drops_for choose sent trap v is_choice long))
