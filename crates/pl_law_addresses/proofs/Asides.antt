-- The rows of a switch that leave addresses alone: forwarding, delivering, groups, members, positions, what is announced.
use Rattle.std.proofs.Common.{◌≡◌, ℕ, not, List, refl, ap}
use Rattle.std.specs.List.{filter}
use Rattle.pl_lemmas.proofs.Exports.{all_append}
use Rattle.pl_frame.specs.declared.address.Mac.{Mac}
use Rattle.pl_frame.specs.declared.address.SwitchId.{SwitchId}
use Rattle.pl_pmac.specs.declared.pmac.Pmac.{Pmac}
use Rattle.pl_layouts.specs.declared.control.Proposal.{Proposal}
use Rattle.pl_layouts.specs.declared.place.Place.{Place}
use Rattle.pl_layouts.specs.Frames.{packet_in}
use Rattle.pl_node.specs.declared.switch_records.Grant.{Grant}
use Rattle.pl_node.specs.declared.switch_records.Member.{Member}
use Rattle.pl_node.specs.SwitchViews.{SwitchView}
use Rattle.pl_steps.specs.Steps.{SwitchStep, does, ◌▹◌}
use Rattle.pl_switch_rule.specs.Announcing.{announcements, tells_neighbours, with_aged_ports}
use Rattle.pl_switch_rule.specs.Delivering.{makes}
use Rattle.pl_switch_rule.specs.Forwarding.{Choice}
use Rattle.pl_switch_rule.specs.Intake.{hears_members, is_member, members_become, packet_acts, sends_in, takes, takes_in_or_spent, with_pmac}
use Rattle.pl_switch_rule.specs.Messages.{floods, forgets_members, probes}
use Rattle.pl_switch_rule.specs.Positions.{hears_proposal}
use Rattle.pl_switch_rule.specs.SwitchRule.{comes_from_switch}
use Rattle.pl_switch_rule.specs.Telling.{changes_told}
use Rattle.pl_switch_rule.proofs.Exports.{announced_acts, any_group, any_way, begins_stays, ChangeActs, floods_acts, FrameActs, groups_acts, IsAnyPort, makes_acts, packet_taken_acts, probes_acts, probes_stay, proposal_acts, proposal_holds, sends_in_acts, sends_in_stays, switch_frame_acts, switch_frame_stays, taken_in, told_acts}
use Rattle.pl_law_addresses.proofs.RowsLeaveAddresses.{AreSilent, LeavesAddresses, IsSilent, aside_does, aside_then}

silent_frames : FrameActs IsAnyPort IsSilent
silent_frames = record { passed = λ port frame way. tt; redirected = λ old new. tt; dropped = λ cause. tt; taken = tt; asked = λ asker asker_ip ip. tt }

silent_change : (place : Place) → ChangeActs place IsSilent
silent_change place = record { placed = tt; linked = λ neighbour usable. tt; wanted = λ position. tt }

-- what leaves the view leaves addresses
stays_aside : (v : SwitchView) (s : SwitchStep) → s.view ≡ v → AreSilent s.acts → LeavesAddresses v s
stays_aside v s stays silent = record {
  place = ap (λ (w : SwitchView). w.place) stays;
  k = ap (λ (w : SwitchView). w.k) stays;
  grants = ap (λ (w : SwitchView). w.grants) stays;
  freed = ap (λ (w : SwitchView). w.freed) stays;
  remembered = ap (λ (w : SwitchView). w.remembered) stays;
  silent = silent;
}

-- ---- what is told
pub changes_silent : (old new : SwitchView) → AreSilent (changes_told old new)
changes_silent old new = told_acts IsSilent old new (silent_change new.place)

-- what a tick tells the neighbours
pub tells_aside : (v : SwitchView) → LeavesAddresses v (tells_neighbours v)
tells_aside v = let aged : SwitchView = with_aged_ports v in record {
  place = refl;
  k = refl;
  grants = refl;
  freed = refl;
  remembered = refl;
  silent = all_append IsSilent (changes_told v aged) (announcements aged) (changes_silent v aged) (announced_acts IsSilent (λ port frame. tt) aged);
}

pub proposal_aside : (v : SwitchView) (port : ℕ) (edge : SwitchId) (p : Proposal) → LeavesAddresses v (hears_proposal v port edge p)
proposal_aside v port edge p = let holds = proposal_holds v port edge p in record {
  place = ap (λ (w : SwitchView). w.place) holds;
  k = ap (λ (w : SwitchView). w.k) holds;
  grants = ap (λ (w : SwitchView). w.grants) holds;
  freed = ap (λ (w : SwitchView). w.freed) holds;
  remembered = ap (λ (w : SwitchView). w.remembered) holds;
  silent = proposal_acts IsSilent (λ at told. tt) v port edge p;
}

-- ---- frames
pub makes_aside : (choose : Choice) (frame : List ℕ) (v : SwitchView) → LeavesAddresses v (makes choose frame v)
makes_aside choose frame v =
    stays_aside v (makes choose frame v) (begins_stays choose v frame) (makes_acts IsSilent IsAnyPort silent_frames choose v (any_way choose v) frame tt)

pub switch_frame_aside : (choose : Choice) (v : SwitchView) (port : ℕ) (frame : List ℕ) → LeavesAddresses v (comes_from_switch choose v port frame)
switch_frame_aside choose v port frame =
    stays_aside v (comes_from_switch choose v port frame) (switch_frame_stays choose v port frame)
    (switch_frame_acts IsSilent IsAnyPort silent_frames choose v (any_way choose v) port frame (λ trap is ip. tt))

members_aside : (v : SwitchView) (members : List Member) → LeavesAddresses v (members_become v members)
members_aside v members =
    record { place = refl; k = refl; grants = refl; freed = refl; remembered = refl; silent = groups_acts IsSilent v.members members (λ group other. tt) }

-- of a host, once its source is learnt
pub takes_in_aside : (choose : Choice) (port : ℕ) (frame : List ℕ) (v : SwitchView) → LeavesAddresses v (takes_in_or_spent choose port frame v)
takes_in_aside choose port frame v =
    let sent : List ℕ = with_pmac v port frame in
    taken_in choose port frame v (LeavesAddresses v) (λ cause. aside_does v _ (tt, tt))
    (stays_aside v (does v (packet_acts v port frame (packet_in frame)) ▹ takes) refl
    (packet_taken_acts IsSilent IsAnyPort silent_frames v port frame))
    (aside_then v (hears_members v port frame) takes (members_aside v _) (λ w. aside_does w _ (tt, tt)))
    (stays_aside v (sends_in choose sent v) (sends_in_stays choose sent v)
    (sends_in_acts IsSilent IsAnyPort silent_frames choose v (any_way choose v) sent (λ trap is ip. tt)))

-- ---- messages of the manager
pub floods_aside : (v : SwitchView) (frame : List ℕ) → LeavesAddresses v (floods v frame)
floods_aside v frame =
    stays_aside v (floods v frame) refl (floods_acts IsSilent IsAnyPort silent_frames v (any_group v) frame tt)

pub forgets_members_aside : (port : ℕ) (mac : Mac) (v : SwitchView) → LeavesAddresses v (forgets_members port mac v)
forgets_members_aside port mac v = members_aside v (filter (λ m. not (is_member port mac m)) v.members)

pub probes_aside : (old : Pmac) (g : Grant) (v : SwitchView) → LeavesAddresses v (probes old g v)
probes_aside old g v = stays_aside v (probes old g v) (probes_stay old g v) (probes_acts IsSilent IsAnyPort (λ port frame way. tt) old g v tt (λ ip. tt))
