-- What each act of a row has: a property of acts that is given of the few kinds of acts that rows do.
use Rattle.std.proofs.Common.{◌≡◌, ℕ, zero, suc, ◌==◌, ◌&&◌, ◌||◌, not, nat_lt, Bool, true, false, if◌then◌else◌, List, [], ◌∷◌, ◌++◌, map, Option, Some, None, is_none, refl, sym, ap, subst, eqb-true}
use Rattle.std.specs.List.{AllByRecursion, flat_map}
use Rattle.std.proofs.lemmas.Bool.{and_parts, cond_both}
use Rattle.pl_lemmas.proofs.Exports.{all_append}
use Rattle.pl_frame.specs.declared.address.Ip4.{Ip4}
use Rattle.pl_frame.specs.declared.address.Mac.{Mac}
use Rattle.pl_frame.specs.declared.address.SwitchId.{SwitchId}
use Rattle.pl_frame.specs.Ethernet.{destination_of, source_of, with_destination}
use Rattle.pl_arp.specs.declared.packet.Arp.{Arp}
use Rattle.pl_pmac.specs.declared.pmac.Pmac.{Pmac}
use Rattle.pl_pmac.specs.Pmac.{mac_of, pmac_of}
use Rattle.pl_journal.specs.declared.cause.Cause.{Cause}
use Rattle.pl_journal.specs.declared.cause.Cause.TheVariants.{NoAddress, NoNextHop, NotPlaced}
use Rattle.pl_journal.specs.Places.{are_alike}
use Rattle.pl_layouts.specs.declared.control.Control.{Control}
use Rattle.pl_layouts.specs.declared.place.Place.{Place}
use Rattle.pl_layouts.specs.Equality.{is_ip}
use Rattle.pl_layouts.specs.Frames.{arriving, is_arp, packet_in}
use Rattle.pl_layouts.specs.Memberships.{is_group}
use Rattle.pl_layouts.specs.Placement.{is_known, is_placed, same_place}
use Rattle.pl_node.specs.declared.acts.Act.{Act}
use Rattle.pl_node.specs.declared.acts.Act.TheVariants as act
use Rattle.pl_node.specs.declared.messages.ToManager.TheVariants as tell
use Rattle.pl_node.specs.AddressUses.{is_in_use}
use Rattle.pl_node.specs.declared.address_use.AddressUse.{AddressUse}
use Rattle.pl_node.specs.declared.address_use.AddressUse.TheVariants.{Free, InUse, Resting, Trapped}
use Rattle.pl_node.specs.declared.switch_records.Grant.{Grant}
use Rattle.pl_node.specs.declared.switch_records.Member.{Member}
use Rattle.pl_node.specs.declared.switch_records.Source.{Source}
use Rattle.pl_node.specs.declared.trap.Trap.{Trap}
use Rattle.pl_node.specs.Announcements.{announcement}
use Rattle.pl_node.specs.PortRecords.{id_at, is_usable, place_at, ports_of_switch, ports_where}
use Rattle.pl_node.specs.SwitchViews.{SwitchView}
use Rattle.pl_steps.specs.Steps.{SwitchStep, does, rests, ◌▹◌}
use Rattle.pl_switch_rule.specs.Aging.{ages, ages_out, ages_out_of, all_age_out, probe_of, probes_idle, to_probe, to_rest, with_older}
use Rattle.pl_switch_rule.specs.Announcing.{announcements, announces_at, proposal, proposes_at}
use Rattle.pl_switch_rule.specs.declared.came.Came.{Came}
use Rattle.pl_switch_rule.specs.declared.came.Came.TheVariants.{FromHost}
use Rattle.pl_switch_rule.specs.declared.came.Way.{Way}
use Rattle.pl_switch_rule.specs.Delivering.{addresses, arrives_home, begins, comes_home, delivers, delivers_or_redirects, delivers_to, destination, goes_on, if_newer, last_trap, makes, newer_address, redirects, redirects_on, tells_newer, tells_sender, trap_for}
use Rattle.pl_switch_rule.specs.Forwarding.{Choice, came_by, candidates_by, forwards, leaves_by}
use Rattle.pl_switch_rule.specs.Granting.{address_at_port, forgets, freed_at, grant_number, granted, grants_at, grants_next, grants_or_learns, grants_remembered, grants_source, held_here, in_use, is_local, learns_ip, learns_source, next_vmid, remembered_at, remembers, sender_ip, uses}
use Rattle.pl_switch_rule.specs.GroupForwarding.{destination_group, forwards_group, group_ports, no_way, passes_or_drops, way_of}
use Rattle.pl_switch_rule.specs.Intake.{group_told, groups_of, groups_told, has_member_of, hears_members, packet_acts, query, sends_in, source_pmac, takes, takes_in_or_spent, with_pmac}
use Rattle.pl_switch_rule.specs.Levels.{changes_to, has_become_placed, settles_in}
use Rattle.pl_switch_rule.specs.Messages.{floods, frees, frees_at, probe_acts, probe_frame, probes, probes_at}
use Rattle.pl_switch_rule.specs.Positions.{answers_proposal, frees_others, half, hears_proposal}
use Rattle.pl_switch_rule.specs.SwitchRule.{comes_from_switch}
use Rattle.pl_switch_rule.specs.Telling.{changes_told, link_to, link_told, place_told, pod_wanted}
use Rattle.pl_switch_rule.proofs.Grants.{held_parts}
use Rattle.pl_switch_rule.proofs.RowViews.{home_stays, taken_in}

-- The kinds of acts.

-- the ports by which a frame may leave
pub record AreWays (choose : Choice) (v : SwitchView) (W : ℕ → Type 0) : Type 0 where
  pub chosen : (to : Pmac) (came : Option Came) (frame : List ℕ) (port : ℕ) → choose (candidates_by v to came) frame ≡ Some port → W port
  pub grouped : (way : Way) (group : ℕ) (source : Pmac) → AllByRecursion W (group_ports v way group source)
  pub delivered : (address : Pmac) (grant : Grant) → granted v address ≡ Some grant → W address.port

abbrev pub IsAnyPort : ℕ → Type 0
IsAnyPort port = Unit {0}

-- of a frame that came, or that the switch made
pub record FrameActs (W : ℕ → Type 0) (P : Act → Type 0) : Type 0 where
  pub passed : (port : ℕ) (frame : List ℕ) → W port → P (act.Pass port frame)
  pub redirected : (old new : Pmac) → P (act.Redirect old new)
  pub dropped : (cause : Cause) → P (act.Drop cause)
  pub taken : P act.Take
  pub asked : (asker : Pmac) (asker_ip ip : Ip4) → P (act.Tell (tell.Query asker asker_ip ip))

-- of a source that is learnt
pub record GrantActs (P : Act → Type 0) : Type 0 where
  pub granted : (address : Pmac) (amac : Mac) → P (act.Grant address amac)
  pub learnt : (address : Pmac) (amac : Mac) (ip : Option Ip4) → P (act.Tell (tell.Learned address amac ip))

-- of a change to this place; a pod is asked for at position 0 alone
pub record ChangeActs (place : Place) (P : Act → Type 0) : Type 0 where
  pub placed : P (act.Tell (tell.Place place))
  pub linked : (neighbour : SwitchId) (usable : Bool) → P (act.Tell (tell.Link neighbour usable))
  pub wanted : place.position ≡ Some 0 → P (act.Tell tell.PodWanted)

-- of a report, beside what other rows do
pub record ReportActs (P : Act → Type 0) : Type 0 where
  pub begun : (epoch : ℕ) → P (act.Tell (tell.Begin epoch))
  pub ended : (epoch : ℕ) → P (act.Tell (tell.End epoch))
  pub trapped : (old new : Pmac) (number : ℕ) → P (act.Tell (tell.Trapped old new number))

-- Lists and branches.

all_of : {X : Type 0} (P Q : X → Type 0) (xs : List X) → ((x : X) → P x → Q x) → AllByRecursion P xs → AllByRecursion Q xs
all_of P Q [] each all = tt
all_of P Q (x ∷ xs) each all = (each x all.0, all_of P Q xs each all.1)

pub all_any : {X : Type 0} (P : X → Type 0) (xs : List X) → ((x : X) → P x) → AllByRecursion P xs
all_any P [] each = tt
all_any P (x ∷ xs) each = (each x, all_any P xs each)

pub all_map : {X Y : Type 0} (P : Y → Type 0) (f : X → Y) (xs : List X) → AllByRecursion (λ x. P (f x)) xs → AllByRecursion P (map f xs)
all_map P f [] all = tt
all_map P f (x ∷ xs) all = (all.0, all_map P f xs all.1)

pub all_flat : {X Y : Type 0} (P : Y → Type 0) (f : X → List Y) (xs : List X) → ((x : X) → AllByRecursion P (f x)) → AllByRecursion P (flat_map f xs)
all_flat P f [] each = tt
all_flat P f (x ∷ xs) each = all_append P (f x) (flat_map f xs) (each x) (all_flat P f xs each)

pub any_group : (v : SwitchView) (way : Way) (group : ℕ) (source : Pmac) → AllByRecursion IsAnyPort (group_ports v way group source)
any_group v way group source = all_any IsAnyPort (group_ports v way group source) (λ port. tt)

pub any_way : (choose : Choice) (v : SwitchView) → AreWays choose v IsAnyPort
any_way choose v = record {
  chosen = λ to came frame port is. tt;
  grouped = any_group v;
  delivered = λ address grant is. tt;
}

module _ (P : Act → Type 0) where
  abbrev pub Each : SwitchStep → Type 0
  Each step = AllByRecursion P step.acts

  -- A change is told.

  link_acts : (place : Place) → ChangeActs place P → (o : Option SwitchId) (usable : Bool) → AllByRecursion P (link_to o usable)
  link_acts place may None usable = tt
  link_acts place may (Some neighbour) usable = (may.linked neighbour usable, tt)

  known_is : (o : Option ℕ) → is_known o 0 ≡ true → o ≡ Some 0
  known_is None h = absurd (cc h)
  known_is (Some n) h = ap Some (eqb-true n 0 h)

  pub told_acts : (old new : SwitchView) → ChangeActs new.place P → AllByRecursion P (changes_told old new)
  told_acts old new may =
      let place : List Act = place_told old.place new.place in
      let links : List Act = flat_map (link_told old new) (ports_of_switch new.k) in
      all_append P (place ++ links) (pod_wanted old.place new.place)
      (all_append P place links
      (cond_both (same_place old.place new.place) [] (act.Tell (tell.Place new.place) ∷ []) (AllByRecursion P) (λ same. tt) (λ other. (may.placed, tt)))
      (all_flat P (link_told old new) (ports_of_switch new.k) (λ port.
      cond_both (are_alike (is_usable old port) (is_usable new port)) [] (link_to (id_at new port) (is_usable new port)) (AllByRecursion P) (λ same. tt)
      (λ other. link_acts new.place may (id_at new port) (is_usable new port)))))
      (cond_both (is_known new.place.level 0 && is_known new.place.position 0 && not (is_known old.place.position 0)) (act.Tell tell.PodWanted ∷ []) []
      (AllByRecursion P) (λ wants. (may.wanted (known_is new.place.position (position wants)), tt)) (λ other. tt))
    where
      position : (is_known new.place.level 0 && is_known new.place.position 0 && not (is_known old.place.position 0)) ≡ true →
          is_known new.place.position 0 ≡ true
      position wants =
          let both = and_parts (is_known new.place.level 0 && is_known new.place.position 0) (not (is_known old.place.position 0)) wants in
          (and_parts (is_known new.place.level 0) (is_known new.place.position 0) both.0).1

  -- Addresses are granted.

  module _ (may : GrantActs P) where
    learns_ip_acts : (v : SwitchView) (address : Pmac) (grant : Option Grant) (ip : Option Ip4) → Each (learns_ip v address grant ip)
    learns_ip_acts v address None ip = tt
    learns_ip_acts v address (Some grant) None = tt
    learns_ip_acts v address (Some grant) (Some ip) =
        cond_both (is_ip grant.ip ip) (rests (uses v address grant))
        (record { view = uses v address (record grant { ip = Some ip }); acts = act.Tell (tell.Learned address grant.amac (Some ip)) ∷ [] })
        Each (λ same. tt) (λ new. (may.learnt address grant.amac (Some ip), tt))

    next_acts : (v : SwitchView) (port : ℕ) (amac : Mac) (ip : Option Ip4) (vmid : Option ℕ) → Each (grants_next v port amac ip vmid)
    next_acts v port amac ip None = tt
    next_acts v port amac ip (Some vmid) = (may.granted (address_at_port v port vmid) amac, (may.learnt (address_at_port v port vmid) amac ip, tt))

    grants_acts : (v : SwitchView) (port : ℕ) (amac : Mac) (ip : Option Ip4) (vmid : Option ℕ) → Each (grants_or_learns v port amac ip vmid)
    grants_acts v port amac ip (Some vmid) = learns_ip_acts v (address_at_port v port vmid) (grant_number (grants_at v port) vmid) ip
    grants_acts v port amac ip None = next_acts v port amac ip (next_vmid (freed_at v port) (grants_at v port))

    source_acts : (v : SwitchView) (port : ℕ) (source : Option Source) → Each (grants_source v port source)
    source_acts v port None = tt
    source_acts v port (Some source) = grants_acts v port source.amac source.ip (in_use (grants_at v port) source.amac)

    remembered_acts : (ports : List ℕ) (v : SwitchView) → Each (grants_remembered ports v)
    unfolding grants_remembered
    remembered_acts [] v = tt
    remembered_acts (port ∷ ports) v =
        let first : SwitchStep = grants_source v port (remembered_at v port) in
        let second : SwitchStep = first ▹ forgets port in
        all_append P second.acts (grants_remembered ports second.view).acts (all_append P first.acts [] (source_acts v port (remembered_at v port)) tt)
        (remembered_acts ports second.view)

    pub settles_in_acts : (old : Place) (v : SwitchView) → Each (settles_in old v)
    settles_in_acts old v =
        cond_both (has_become_placed old v.place) (grants_remembered (ports_of_switch v.k) v) (rests v) Each
        (λ placed. remembered_acts (ports_of_switch v.k) v) (λ other. tt)

    pub learns_source_acts : (v : SwitchView) (port : ℕ) (frame : List ℕ) → Each (learns_source v port frame)
    learns_source_acts v port frame =
        cond_both (is_placed v.place) (grants_or_learns v port (source_of frame) (sender_ip frame) (in_use (grants_at v port) (source_of frame)))
        (remembers v port (source_of frame) (sender_ip frame)) Each
        (λ placed. grants_acts v port (source_of frame) (sender_ip frame) (in_use (grants_at v port) (source_of frame))) (λ unplaced. tt)

    pub changes_acts : (old new : SwitchView) → ChangeActs new.place P → Each (changes_to old new)
    changes_acts old new told = all_append P (changes_told old new) (settles_in old.place new).acts (told_acts old new told) (settles_in_acts old.place new)

  -- Neighbours are told, at a tick and where they propose a position.

  module _ (sent : (port : ℕ) (frame : List ℕ) → P (act.Control port frame)) where
    pub announced_acts : (v : SwitchView) → AllByRecursion P (announcements v)
    announced_acts v =
        all_append P (map (λ port. act.Control port (announcement v port)) (ports_where v (announces_at v)))
        (map (λ port. act.Control port (proposal v)) (ports_where v (proposes_at v)))
        (all_map P (λ port. act.Control port (announcement v port)) (ports_where v (announces_at v))
        (all_any _ (ports_where v (announces_at v)) (λ port. sent port (announcement v port))))
        (all_map P (λ port. act.Control port (proposal v)) (ports_where v (proposes_at v))
        (all_any _ (ports_where v (proposes_at v)) (λ port. sent port (proposal v))))

    pub proposal_acts : (v : SwitchView) (port : ℕ) (edge : SwitchId) (p : _) → Each (hears_proposal v port edge p)
    proposal_acts v port edge p =
        cond_both (is_known v.place.level 1 && is_known (place_at v port).level 0 && nat_lt p.position (half v.k))
        (answers_proposal (frees_others v edge p.position) port edge p) (rests v)
        Each (λ answers. (sent port _, tt)) (λ other. tt)

  -- Members are told of.

  pub groups_acts : (old new : List Member) →
      ((group : ℕ) → are_alike (has_member_of old group) (has_member_of new group) ≡ false → P (act.Tell (tell.Members group (has_member_of new group)))) →
      AllByRecursion P (groups_told old new)
  groups_acts old new each = all_flat P (group_told old new) (groups_of (old ++ new)) (λ group.
      cond_both (are_alike (has_member_of old group) (has_member_of new group)) [] (act.Tell (tell.Members group (has_member_of new group)) ∷ [])
      (AllByRecursion P)
      (λ same. tt) (λ other. (each group other, tt)))

  -- The manager is asked for an address.

  module _ (asked : (asker : Pmac) (asker_ip ip : Ip4) → P (act.Tell (tell.Query asker asker_ip ip))) where
    query_acts : (o : Option Pmac) (arp : Arp) → AllByRecursion P (query o arp)
    query_acts None arp = tt
    query_acts (Some asker) arp = (asked asker arp.spa arp.tpa, tt)

    pub arp_acts : (v : SwitchView) (port : ℕ) (frame : List ℕ) (o : Option Arp) → AllByRecursion P (packet_acts v port frame o)
    arp_acts v port frame None = tt
    arp_acts v port frame (Some arp) =
        cond_both (is_placed v.place && (arp.op == 1) && not (arp.spa.0 == arp.tpa.0)) (query (source_pmac v port frame) arp) [] (AllByRecursion P)
        (λ asks. query_acts (source_pmac v port frame) arp) (λ other. tt)

  -- Traps are followed.

  module _ (turned : (old new : Pmac) → P (act.Redirect old new)) where
    pub redirects_acts : (n : ℕ) (v : SwitchView) (trap : Trap) → AllByRecursion P (redirects n v trap)
    unfolding redirects
    redirects_acts zero v trap = tt
    redirects_acts (suc n) v trap = on (λ next. redirects_acts n v next) (if_newer trap (trap_for v trap.new))
      where
        on : ((next : Trap) → AllByRecursion P (redirects n v next)) → (o : Option Trap) → AllByRecursion P (redirects_on (redirects n v) trap.new o)
        on rest None = tt
        on rest (Some next) = (turned trap.new next.new, rest next)

  -- A frame is passed on.

  module _ (W : ℕ → Type 0) (may : FrameActs W P) where
    leaves_acts : (v : SwitchView) (frame : List ℕ) (o : Option ℕ) → ((port : ℕ) → o ≡ Some port → W port) → Each (leaves_by v frame o)
    leaves_acts v frame None way = (may.dropped NoNextHop, tt)
    leaves_acts v frame (Some port) way = (may.passed port frame (way port refl), tt)

    delivers_acts : (v : SwitchView) (address : Pmac) (frame : List ℕ) (o : Option Grant) → ((grant : Grant) → o ≡ Some grant → W address.port) →
        Each (delivers_to v address frame o)
    delivers_acts v address frame None way = (may.dropped NoAddress, tt)
    delivers_acts v address frame (Some grant) way = (may.passed address.port (arriving frame None (Some grant.amac)) (way grant refl), tt)

    pub passes_acts : (ports frame : List ℕ) (cause : Cause) → AllByRecursion W ports → AllByRecursion P (passes_or_drops ports frame cause)
    passes_acts [] frame cause ways = (may.dropped cause, tt)
    passes_acts (port ∷ ports) frame cause ways =
        all_map P (λ p. act.Pass p frame) (port ∷ ports) (all_of W (λ p. P (act.Pass p frame)) (port ∷ ports) (λ p way. may.passed p frame way) ways)

    pub packet_taken_acts : (v : SwitchView) (port : ℕ) (frame : List ℕ) → Each (does v (packet_acts v port frame (packet_in frame)) ▹ takes)
    packet_taken_acts v port frame =
        all_append P (packet_acts v port frame (packet_in frame)) (act.Take ∷ []) (arp_acts may.asked v port frame (packet_in frame)) (may.taken, tt)

    module _ (v : SwitchView) (grouped : (way : Way) (group : ℕ) (source : Pmac) → AllByRecursion W (group_ports v way group source)) where
      pub group_acts : (came : Option Came) (frame : List ℕ) → Each (forwards_group v came frame)
      group_acts came frame =
          let group : ℕ = destination_group frame in
          passes_acts (group_ports v (way_of v.place came) group (pmac_of (source_of frame))) frame (no_way v came group)
          (grouped (way_of v.place came) group (pmac_of (source_of frame)))

      pub floods_acts : (frame : List ℕ) → P (act.Make frame) → Each (floods v frame)
      floods_acts frame made = (made, group_acts (Some FromHost) frame)

    module _ (choose : Choice) (v : SwitchView) (ways : AreWays choose v W) where
      pub forwards_acts : (came : Option Came) (frame : List ℕ) → Each (forwards choose v came frame)
      forwards_acts came frame =
          let to : Pmac = pmac_of (destination_of frame) in leaves_acts v frame (choose (candidates_by v to came) frame)
          (λ port is. ways.chosen to came frame port is)

      delivery_acts : (frame : List ℕ) → Each (delivers v frame)
      delivery_acts frame =
          delivers_acts v (destination frame) frame (held_here v (destination frame))
          (λ grant is. ways.delivered (destination frame) grant (held_parts v (destination frame) grant is))

      goes_on_acts : (frame : List ℕ) → Each (goes_on choose v frame)
      goes_on_acts frame =
          cond_both (is_local v (destination frame)) (delivers v frame) (forwards choose v (Some FromHost) frame) Each
          (λ here. delivery_acts frame) (λ other. forwards_acts (Some FromHost) frame)

      pub home_acts : (frame : List ℕ) (o : Option Trap) → Each (delivers_or_redirects choose v frame o)
      home_acts frame None = delivery_acts frame
      home_acts frame (Some trap) =
          let turned : List ℕ = with_destination frame (mac_of (last_trap (addresses v) v trap).new) in
          all_append P (act.Redirect (destination frame) trap.new ∷ redirects (addresses v) v trap) (goes_on choose v turned).acts
          (may.redirected (destination frame) trap.new, redirects_acts may.redirected (addresses v) v trap) (goes_on_acts turned)

      pub begins_acts : (frame : List ℕ) → Each (begins choose v frame)
      begins_acts frame =
          cond_both (is_local v (destination frame)) (comes_home choose v frame) (forwards choose v (Some FromHost) frame) Each
          (λ here. home_acts frame (trap_for v (destination frame))) (λ other. forwards_acts (Some FromHost) frame)

      -- the reply to a sender whose frame met a trap
      abbrev MayTellNewer : List ℕ → Option Trap → Type 0
      MayTellNewer frame o = (trap : Trap) → o ≡ Some trap → (ip : Ip4) → P (act.Make (newer_address frame (last_trap (addresses v) v trap).new ip))

      newer_acts : (frame : List ℕ) (new : Pmac) (o : Option Ip4) → ((ip : Ip4) → P (act.Make (newer_address frame new ip))) →
          Each (tells_newer choose frame new o v)
      newer_acts frame new None made = tt
      newer_acts frame new (Some ip) made = (made ip, begins_acts (newer_address frame new ip))

      sender_acts : (frame : List ℕ) (o : Option Trap) → MayTellNewer frame o → Each (tells_sender choose frame o v)
      sender_acts frame None made = tt
      sender_acts frame (Some trap) made =
          let last : Trap = last_trap (addresses v) v trap in
          cond_both (is_arp frame) (does v []) (tells_newer choose frame last.new last.ip v) Each (λ arp. tt)
          (λ other. newer_acts frame last.new last.ip (made trap refl))

      arrives_acts : (frame : List ℕ) → MayTellNewer frame (trap_for v (destination frame)) → Each (arrives_home choose v frame)
      arrives_acts frame made =
          let trap : Option Trap = trap_for v (destination frame) in
          all_append P (comes_home choose v frame).acts (tells_sender choose frame trap (comes_home choose v frame).view).acts (home_acts frame trap)
          (subst (λ (w : SwitchView). Each (tells_sender choose frame trap w)) (sym (home_stays choose v frame trap)) (sender_acts frame trap made))

      -- to a group, to hosts of this switch, or on to another one
      sent_acts : (came : Option Came) (frame : List ℕ) → MayTellNewer frame (trap_for v (destination frame)) →
          Each (if is_group (destination_of frame) then forwards_group v came frame
          else if is_local v (destination frame) then arrives_home choose v frame else forwards choose v came frame)
      sent_acts came frame made =
          cond_both (is_group (destination_of frame)) (forwards_group v came frame) _ Each (λ group. group_acts v ways.grouped came frame)
          (λ unicast. cond_both (is_local v (destination frame)) (arrives_home choose v frame) (forwards choose v came frame) Each
          (λ here. arrives_acts frame made) (λ other. forwards_acts came frame))

      pub sends_in_acts : (frame : List ℕ) → MayTellNewer frame (trap_for v (destination frame)) → Each (sends_in choose frame v)
      sends_in_acts frame made = sent_acts (Some FromHost) frame made

      pub switch_frame_acts : (port : ℕ) (frame : List ℕ) → MayTellNewer frame (trap_for v (destination frame)) → Each (comes_from_switch choose v port frame)
      switch_frame_acts port frame made =
          cond_both (not (is_placed v.place) || is_none (place_at v port).level) (does v (act.Drop NotPlaced ∷ [])) _ Each
          (λ unplaced. (may.dropped NotPlaced, tt))
          (λ placed. sent_acts (came_by v port) frame made)

      -- a frame that is taken in
      pub taken_in_acts : (port : ℕ) (frame : List ℕ) → AllByRecursion P (hears_members v port frame).acts →
          MayTellNewer (with_pmac v port frame) (trap_for v (destination (with_pmac v port frame))) → Each (takes_in_or_spent choose port frame v)
      taken_in_acts port frame members made =
          taken_in choose port frame v Each (λ cause. (may.dropped cause, tt)) (packet_taken_acts v port frame)
          (all_append P (hears_members v port frame).acts (act.Take ∷ []) members (may.taken, tt)) (sends_in_acts (with_pmac v port frame) made)

      pub makes_acts : (frame : List ℕ) → P (act.Make frame) → Each (makes choose frame v)
      makes_acts frame made = (made, begins_acts frame)

  -- Hosts are probed.

  module _ (W : ℕ → Type 0) (passed : (port : ℕ) (frame : List ℕ) → W port → P (act.Pass port frame)) where
    asks_acts : (old : Pmac) (amac : Mac) (ip : Option Ip4) → W old.port → ((i : Ip4) → P (act.Make (probe_frame old i))) → AllByRecursion P (probe_acts old amac ip)
    asks_acts old amac None way made = tt
    asks_acts old amac (Some ip) way made = (made ip, (passed old.port (arriving (probe_frame old ip) None (Some amac)) way, tt))

    pub probes_acts : (old : Pmac) (grant : Grant) (v : SwitchView) → W old.port → ((i : Ip4) → P (act.Make (probe_frame old i))) → Each (probes old grant v)
    probes_acts old grant v way made =
        cond_both (is_in_use grant.held) (probes_at old grant.amac grant.ip v) (rests v) Each (λ used. asks_acts old grant.amac grant.ip way made) (λ unused. tt)

    -- at a tick
    probed_acts : (x : Pmac) (o : Option Grant) → ((grant : Grant) → o ≡ Some grant → W x.port) → ((i : Ip4) → P (act.Make (probe_frame x i))) →
        AllByRecursion P (probe_of x o)
    probed_acts x None way made = tt
    probed_acts x (Some grant) way made = asks_acts x grant.amac grant.ip (way grant refl) made

    pub idle_acts : (v : SwitchView) → ((x : Pmac) (grant : Grant) → granted v x ≡ Some grant → W x.port) → ((x : Pmac) (i : Ip4) → P (act.Make (probe_frame x i))) →
        AllByRecursion P (probes_idle v)
    idle_acts v way made = all_flat P (λ x. probe_of x (granted v x)) (to_probe v) (λ x. probed_acts x (granted v x) (way x) (made x))

  -- Addresses rest, and the manager is told.

  module _ (aged : (x : Pmac) (number : ℕ) → P (act.Tell (tell.Aged x number))) where
    ages_out_of_acts : (v : SwitchView) (x : Pmac) (grant : Grant) (held : AddressUse) → Each (ages_out_of v x grant held)
    ages_out_of_acts v x grant (InUse idle) = (aged x 0, tt)
    ages_out_of_acts v x grant (Trapped trap age) = (aged x trap.number, tt)
    ages_out_of_acts v x grant (Resting number) = tt
    ages_out_of_acts v x grant Free = tt

    ages_out_acts : (v : SwitchView) (x : Pmac) (o : Option Grant) → Each (ages_out x o v)
    ages_out_acts v x None = tt
    ages_out_acts v x (Some grant) = ages_out_of_acts v x grant grant.held

    pub all_age_out_acts : (xs : List Pmac) (v : SwitchView) → Each (all_age_out xs v)
    unfolding all_age_out
    all_age_out_acts [] v = tt
    all_age_out_acts (x ∷ xs) v =
        let first : SwitchStep = ages_out x (granted v x) v in
        all_append P first.acts (all_age_out xs first.view).acts (ages_out_acts v x (granted v x)) (all_age_out_acts xs first.view)

    -- and what a tick makes of them
    pub ages_acts : (v : SwitchView) → AllByRecursion P (probes_idle (with_older v)) → Each (ages v)
    ages_acts v probed =
        let older = with_older v in
        all_append P (probes_idle older) (all_age_out (to_rest older) older).acts probed (all_age_out_acts (to_rest older) older)

  -- An address is freed.

  module _ (freed : (x : Pmac) → P (act.Free x)) where
    frees_at_acts : (v : SwitchView) (x : Pmac) (grant : Grant) (held : AddressUse) → Each (frees_at v x grant held)
    frees_at_acts v x grant (InUse idle) = tt
    frees_at_acts v x grant (Trapped trap age) = tt
    frees_at_acts v x grant (Resting number) = (freed x, tt)
    frees_at_acts v x grant Free = tt

    pub frees_acts : (v : SwitchView) (x : Pmac) (o : Option Grant) → Each (frees v x o)
    frees_acts v x None = tt
    frees_acts v x (Some grant) = frees_at_acts v x grant grant.held
