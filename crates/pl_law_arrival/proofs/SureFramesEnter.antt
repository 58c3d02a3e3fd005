-- What an edge switch does with a frame of a host that is served there: it learns what is new, and sends the frame in.
use Rattle.std.proofs.Common.{◌≡◌, ℕ, zero, suc, ◌+◌, ◌-◌, ◌≤◌, ◌==◌, ◌&&◌, ◌||◌, not, Bool, true, false, cond, if◌then◌else◌, List, [], ◌∷◌, ◌++◌, length, Option, Some, None, is_none, is_some, slice_get, refl, sym, ap, ◌∙◌, subst}
use Rattle.std.specs.List.{position_from}
use Rattle.std.proofs.lemmas.Slice.Eq.{bytes_eq-Decides}
use Rattle.std.proofs.lemmas.Bool.{and_from, and_parts, and_right, cond-false, cond-true, cond_both, or_from, or_parts}
use Rattle.pl_lemmas.proofs.Exports.{all_append}
use Rattle.pl_frame.specs.declared.address.Mac.{Mac}
use Rattle.pl_frame.specs.Ethernet.{destination_of, source_of}
use Rattle.pl_arp.specs.declared.packet.Arp.{Arp}
use Rattle.pl_pmac.specs.declared.pmac.Pmac.{Pmac}
use Rattle.pl_pmac.specs.Pmac.{pmac_of}
use Rattle.pl_layouts.specs.Control.{is_control}
use Rattle.pl_layouts.specs.Equality.{same_mac}
use Rattle.pl_layouts.specs.Frames.{arriving, is_arp, is_takeable, is_taken_packet, packet_in}
use Rattle.pl_layouts.specs.Memberships.{is_group, membership_in}
use Rattle.pl_layouts.specs.Placement.{is_known, is_placed}
use Rattle.pl_layouts.proofs.Exports.{destination_of-arriving, known_is, length-arriving}
use Rattle.pl_journal.specs.declared.cause.Cause.TheVariants.{BadArp, NotPlaced, Spent}
use Rattle.pl_node.specs.declared.acts.Act.{Act}
use Rattle.pl_node.specs.declared.acts.Act.TheVariants.{Drop, Pass}
use Rattle.pl_node.specs.AddressUses.{is_in_use}
use Rattle.pl_node.specs.declared.switch_records.Grant.{Grant}
use Rattle.pl_node.specs.PortRecords.{is_open_to_hosts, port_of}
use Rattle.pl_node.specs.SwitchInputs.SwitchInput.{Comes}
use Rattle.pl_node.specs.SwitchViews.{SwitchView}
use Rattle.pl_steps.specs.Steps.{SwitchStep, does, ◌▹◌}
use Rattle.pl_switch_rule.specs.declared.came.Came.TheVariants.{FromHost}
use Rattle.pl_switch_rule.specs.Delivering.{arrives_home, destination}
use Rattle.pl_switch_rule.specs.Forwarding.{Choice, candidates_by, forwards, leaves_by}
use Rattle.pl_switch_rule.specs.Granting.{granted, grants_at, has_no_address, in_use, is_local, learns_source}
use Rattle.pl_switch_rule.specs.GroupForwarding.{forwards_group}
use Rattle.pl_switch_rule.specs.Intake.{comes_from_host, hears_members, is_for_switch, mac_of_pmac, packet_acts, sends_in, source_pmac, takes, takes_in, takes_in_or_spent, with_pmac}
use Rattle.pl_switch_rule.specs.Levels.{finds_host}
use Rattle.pl_switch_rule.specs.SwitchRule.{comes_from_switch, control_comes, data_comes, switch_step}
use Rattle.pl_switch_rule.proofs.Exports.{ChangeActs, changes_acts, GrantActs, granted_parts, learns_source_acts, numbered_at, sends_in_stays, six_of_mac, Stays, with_host}
use Rattle.pl_law_arrival.proofs.Landing.{AreOfNoFrame, IsOfNoFrame}
use Rattle.pl_law_arrival.proofs.SureFramesPassedOn.{arrives}

-- ---- a host that has an address in use at the port
pub record HasInUse (v : SwitchView) (port : ℕ) (amac : Mac) : Type 0 where
  pub address : Pmac
  pub grant : Grant
  pub found : granted v address ≡ Some grant
  pub at_port : address.port ≡ port
  pub used : is_in_use grant.held ≡ true
  pub to : grant.amac ≡ amac

pub local_is_placed : (v : SwitchView) (x : Pmac) → is_local v x ≡ true → is_placed v.place ≡ true
local_is_placed v x own =
    let first = and_parts (is_known v.place.level 0) (is_known v.place.pod x.pod && is_known v.place.position x.position) own in
    let second = and_parts (is_known v.place.pod x.pod) (is_known v.place.position x.position) first.1 in
    let level = known_is v.place.level 0 first.0 in
    let pod = known_is v.place.pod x.pod second.0 in
    let position = known_is v.place.position x.position second.1 in
    rw (level, pod, position) refl

found_in : (test : Grant → Bool) (i n : ℕ) (gs : List Grant) (g : Grant) → slice_get gs n ≡ Some g → test g ≡ true → is_some (position_from test i gs) ≡ true
found_in test i n [] g found passes = absurd (let none : ◌≡◌ {A = Option Grant} None (Some g) = found in cc none)
found_in test i zero (x ∷ gs) g found passes =
    let same : x ≡ g = cc found in
    subst (λ b. is_some (cond b (Some i) (position_from test (i + 1) gs)) ≡ true) (sym (ap test same ∙ passes)) refl
found_in test i (suc n) (x ∷ gs) g found passes = by (found_in test (i + 1) n gs g found passes) (test x)
  where
    by : is_some (position_from test (i + 1) gs) ≡ true → (b : Bool) → is_some (cond b (Some i) (position_from test (i + 1) gs)) ≡ true
    by rest true = refl
    by rest false = rest

has_address : (v : SwitchView) (port : ℕ) (amac : Mac) → HasInUse v port amac → has_no_address v port amac ≡ false
has_address v port amac is =
    let number = (granted_parts v is.address is.grant is.found).1 in
    let there = numbered_at (grants_at v is.address.port) is.address.vmid is.grant number in
    let same = (bytes_eq-Decides is.grant.amac.0 amac.0).1 (ap (λ (m : Mac). m.0) is.to) in
    let some = found_in (λ g. is_in_use g.held && same_mac g.amac amac) 1 (is.address.vmid - 1) (grants_at v is.address.port) is.grant there
    (and_from (is_in_use is.grant.held) (same_mac is.grant.amac amac) is.used same) in
    and_right (is_placed v.place) (not (is_some (in_use (grants_at v port) amac)))
    (ap not (subst (λ p. is_some (in_use (grants_at v p) amac) ≡ true) is.at_port some))

-- ---- the frame is not taken
not_for_switch : (v : SwitchView) (dst : Mac) (packet : Option Arp) → is_taken_packet dst packet ≡ false → is_for_switch v dst packet ≡ false
not_for_switch v dst None h = refl
not_for_switch v dst (Some arp) h =
    let two = or_parts ((arp.op == 1) || is_group dst) ((pmac_of dst).vmid == 0) h in
    or_from ((arp.op == 1) || is_group dst) (is_local v (pmac_of dst) && ((pmac_of dst).vmid == 0)) two.0
    (and_right (is_local v (pmac_of dst)) ((pmac_of dst).vmid == 0) two.1)

module _ (choose : Choice) (port : ℕ) (frame : List ℕ) (readable : (is_arp frame && is_none (packet_in frame)) ≡ false) (not_taken : is_takeable frame ≡ false) where
  abbrev parts : (is_taken_packet (destination_of frame) (packet_in frame) ≡ false) × (is_some (membership_in frame) ≡ false)
  parts = or_parts (is_taken_packet (destination_of frame) (packet_in frame)) (is_some (membership_in frame)) not_taken

  abbrev if_placed : SwitchView → SwitchStep
  if_placed v = if not (is_placed v.place) then does v (Drop NotPlaced ∷ []) else sends_in choose (with_pmac v port frame) v

  taken_in : (v : SwitchView) → takes_in choose port frame v ≡ if_placed v
  taken_in v =
      cond-false (is_arp frame && is_none (packet_in frame)) (does v (Drop BadArp ∷ []))
      (if is_for_switch v (destination_of frame) (packet_in frame) then does v (packet_acts v port frame (packet_in frame)) ▹ takes
      else if is_some (membership_in frame) then hears_members v port frame ▹ takes else if_placed v) readable
      ∙ cond-false (is_for_switch v (destination_of frame) (packet_in frame)) (does v (packet_acts v port frame (packet_in frame)) ▹ takes)
      (if is_some (membership_in frame) then hears_members v port frame ▹ takes else if_placed v) (not_for_switch v (destination_of frame) (packet_in frame) parts.0)
      ∙ cond-false (is_some (membership_in frame)) (hears_members v port frame ▹ takes) (if_placed v) parts.1

  takes_view : (v : SwitchView) → (takes_in_or_spent choose port frame v).view ≡ v
  takes_view v =
      cond_both (has_no_address v port (source_of frame)) (does v (Drop Spent ∷ [])) (takes_in choose port frame v) (Stays v) (λ spent. refl)
      (λ has. ap (λ (s : SwitchStep). s.view) (taken_in v)
      ∙ cond_both (not (is_placed v.place)) (does v (Drop NotPlaced ∷ [])) (sends_in choose (with_pmac v port frame) v) (Stays v) (λ unplaced. refl)
      (λ placed. sends_in_stays choose (with_pmac v port frame) v))

  sent_in : (v : SwitchView) → HasInUse v port (source_of frame) → takes_in_or_spent choose port frame v ≡ sends_in choose (with_pmac v port frame) v
  sent_in v is =
      let local = (granted_parts v is.address is.grant is.found).0 in
      cond-false (has_no_address v port (source_of frame)) (does v (Drop Spent ∷ [])) (takes_in choose port frame v) (has_address v port (source_of frame) is)
      ∙ taken_in v
      ∙ cond-false (not (is_placed v.place)) (does v (Drop NotPlaced ∷ [])) (sends_in choose (with_pmac v port frame) v) (ap not (local_is_placed v is.address local))

  abbrev hears : SwitchView → SwitchStep
  hears v = finds_host v port ▹ (λ w. learns_source w port frame)

  -- what it learns says nothing of the frame
  pub record IsEntered (v : SwitchView) : Type 0 where
    pub frameless : List Act
    pub all : AreOfNoFrame frameless
    pub acts : (switch_step choose v (Comes port frame)).acts
        ≡ frameless ++ (sends_in choose (with_pmac (switch_step choose v (Comes port frame)).view port frame) (switch_step choose v (Comes port frame)).view).acts

  pub enters : (v : SwitchView) → is_control frame ≡ false → is_open_to_hosts (port_of v port) ≡ true →
      (is_known v.place.level 1 || is_known v.place.level 2) ≡ false → HasInUse (switch_step choose v (Comes port frame)).view port (source_of frame) → IsEntered v
  enters v data_frame accepts edge is = record {
    frameless = (hears v).acts;
    all = all_append IsOfNoFrame (finds_host v port).acts (learns_source (finds_host v port).view port frame).acts
        (changes_acts IsOfNoFrame frameless_grants v (with_host v port) frameless_change) (learns_source_acts IsOfNoFrame frameless_grants (finds_host v port).view port frame);
    acts = ap (λ (s : SwitchStep). s.acts) step ∙ ap (λ (s : SwitchStep). (hears v).acts ++ s.acts) (sent_in (hears v).view is_learnt)
        ∙ ap (λ w. (hears v).acts ++ (sends_in choose (with_pmac w port frame) w).acts) (sym view);
  }
    where
      frameless_grants : GrantActs IsOfNoFrame
      frameless_grants = record { granted = λ address amac. tt; learnt = λ address amac ip. tt }

      frameless_change : ChangeActs (with_host v port).place IsOfNoFrame
      frameless_change = record { placed = tt; linked = λ neighbour usable. tt; wanted = λ position. tt }

      step : switch_step choose v (Comes port frame) ≡ (hears v) ▹ takes_in_or_spent choose port frame
      step =
          cond-false (is_control frame) (control_comes v port frame) (data_comes choose v port frame) data_frame
          ∙ cond-true (is_open_to_hosts (port_of v port)) (comes_from_host choose v port frame) (comes_from_switch choose v port frame) accepts
          ∙ cond-false (is_known v.place.level 1 || is_known v.place.level 2) (does v (Drop NotPlaced ∷ []))
          (finds_host v port ▹ (λ w. learns_source w port frame) ▹ takes_in_or_spent choose port frame) edge

      view : (switch_step choose v (Comes port frame)).view ≡ (hears v).view
      view = ap (λ (s : SwitchStep). s.view) step ∙ takes_view (hears v).view

      is_learnt : HasInUse (hears v).view port (source_of frame)
      is_learnt = subst (λ w. HasInUse w port (source_of frame)) view is

-- ---- the frame with the host's pseudo address

pub destination_kept : (v : SwitchView) (port : ℕ) (frame : List ℕ) → 14 ≤ length frame → destination_of (with_pmac v port frame) ≡ destination_of frame
destination_kept v port frame long = destination_of-arriving frame (mac_of_pmac (source_pmac v port frame)) None long (six_of_mac (source_pmac v port frame)) tt

pub length_kept : (v : SwitchView) (port : ℕ) (frame : List ℕ) → 14 ≤ length frame → length (with_pmac v port frame) ≡ length frame
length_kept v port frame long = length-arriving frame (mac_of_pmac (source_pmac v port frame)) None long (six_of_mac (source_pmac v port frame)) tt

module _ (choose : Choice) (v : SwitchView) (frame : List ℕ) (unicast : is_group (destination_of frame) ≡ false) where
  abbrev where_to : SwitchStep
  where_to = if is_local v (destination frame) then arrives_home choose v frame else forwards choose v (Some FromHost) frame

  pub sends_home : (grant : Grant) → is_local v (destination frame) ≡ true → granted v (destination frame) ≡ Some grant → is_in_use grant.held ≡ true →
      sends_in choose frame v ≡ does v (Pass (destination frame).port (arriving frame None (Some grant.amac)) ∷ [])
  sends_home grant own found used =
      cond-false (is_group (destination_of frame)) (forwards_group v (Some FromHost) frame) where_to unicast
      ∙ cond-true (is_local v (destination frame)) (arrives_home choose v frame) (forwards choose v (Some FromHost) frame) own ∙ arrives choose v frame grant found used

  pub sends_on : (n : ℕ) → is_local v (destination frame) ≡ false → choose (candidates_by v (destination frame) (Some FromHost)) frame ≡ Some n →
      sends_in choose frame v ≡ does v (Pass n frame ∷ [])
  sends_on n away found =
      cond-false (is_group (destination_of frame)) (forwards_group v (Some FromHost) frame) where_to unicast
      ∙ cond-false (is_local v (destination frame)) (arrives_home choose v frame) (forwards choose v (Some FromHost) frame) away ∙ ap (leaves_by v frame) found
