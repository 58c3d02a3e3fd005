-- A data frame comes out of a port for hosts.
use Rattle.std.proofs.Common.{◌≡◌, ◌≢◌, ℕ, zero, suc, ◌<◌, ◌==◌, ◌||◌, not, nat_lt, Bool, true, false, AllPairs, IsSome, MatchBool, List, [], ◌∷◌, length, Option, None, Some, reverse, get_or, slice_get, refl, sym, ◌∙◌, ap, subst, arith, inl, inr}
use Rattle.std.specs.List.{position_or_len}
use Rattle.std.specs.Option.{option_map}
use Rattle.std.proofs.lemmas.Bool.{and_from, and_parts, both_ways, cases_Bool, cases_eq, cases_lt, cond-false, cond-true, eq-eqb, eqb-true, false≢true, lt-ltb, or_right}
use Rattle.std.proofs.lemmas.List.Quantifiers.{position-Some}
use Rattle.std.proofs.lemmas.Option.{slice_get-get_or}
use Rattle.pl_frame.specs.declared.address.Mac.{Mac}
use Rattle.pl_frame.specs.Ethernet.{destination_of, source_of}
use Rattle.pl_layouts.specs.Frames.{mac_number}
use Rattle.pl_layouts.specs.Memberships.{group_of, is_group}
use Rattle.pl_layouts.proofs.Exports.{mac_is, mac_itself}
use Rattle.pl_wiring.specs.declared.host.Host.{Host}
use Rattle.pl_wiring.specs.declared.link.Peer.{Peer}
use Rattle.pl_wiring.specs.declared.link.Peer.TheVariants.{HostPort}
use Rattle.pl_wiring.specs.Peers.{peer_of}
use Rattle.pl_wiring.specs.Plan.{IsPlan, Plan}
use Rattle.pl_journal.specs.declared.cause.Cause.TheVariants as cause
use Rattle.pl_journal.specs.declared.entry.Entry.{Entry}
use Rattle.pl_journal.specs.declared.entry.Entry.TheVariants.{Arrived, Dropped}
use Rattle.pl_journal.specs.Causes.{CauseShows, goes_to_group, has_left, is_routed}
use Rattle.pl_journal.specs.Flights.{address, addressee, first_of, flight_of, leg, root}
use Rattle.pl_journal.specs.Lossy.{ArrivesByAddress, ArrivesByGroup, EndsAt, Needs, UnalteredFrom, is_member, is_root_there, is_same_place, mac_of_host}
use Rattle.pl_journal.specs.Places.{EdgePort, at_port, is_at, edge_port, edge_port_of}
use Rattle.pl_journal.proofs.Exports.{hosts_apart, unicast_is_not_routed}
use Rattle.pl_node.specs.declared.reception.Reception.{Reception}
use Rattle.pl_node.specs.declared.reception.Reception.TheVariants.{Kept, NotMember}
use Rattle.pl_node.specs.HostDuties.{HostsKeepFrames, HostsSendData}
use Rattle.pl_node.specs.HostInputs.{HostRule}
use Rattle.pl_node.specs.HostInputs.HostAnswer.{Received}
use Rattle.pl_node.specs.HostInputs.HostInput.{Receives}
use Rattle.pl_world.specs.declared.item.Item.{Item}
use Rattle.pl_world.specs.declared.item.Item.TheVariants.{Data}
use Rattle.pl_world.specs.declared.attachment.AttachmentPoint.{AttachmentPoint}
use Rattle.pl_world.specs.Changes.{host_at, host_no, if_for, is_address_of, out_of, receiver, stands_at}
use Rattle.pl_world.specs.Flying.{IsCounted, times_in}
use Rattle.pl_world.specs.OtherActs.{reception_noted}
use Rattle.pl_world.specs.WorldRule.{ComesAtHost}
use Rattle.pl_world.specs.Worlds.{WorldView}
use Rattle.pl_world.proofs.Exports.{noted_owes, Sound, sound, times_in-data}
use Rattle.pl_law_flights.specs.Given.{AreMembersByThePast, ComesFirst}
use Rattle.pl_law_flights.specs.OnTheWay.{IsGoing, IsLeaving, IsJournaled, AttachmentsAgree, JournalSays, history_of, place_in, edge_port_of_attachment}
use Rattle.pl_law_flights.proofs.HostTurns.{host_journaled}
use Rattle.pl_law_flights.proofs.KeepingFlights.{kept, same_history}
use Rattle.pl_law_flights.proofs.EntriesOfFlights.{note, note_drop, reverse_noted}
use Rattle.pl_law_flights.proofs.OverLinks.{taken, taken_out}

pub some_passes : {T : Type 0} (p : T → Bool) (xs : List T) (h : ℕ) (x : T) → slice_get xs h ≡ Some x → p x ≡ true → position_or_len p xs < length xs
some_passes p [] h x is passes = absurd (cc)
some_passes p (y ∷ xs) zero x is passes = let same : y ≡ x = cc in let here : p y ≡ true = ap p same ∙ passes in rw here (omega arith)
some_passes p (y ∷ xs) (suc h) x is passes =
    let rest = some_passes p xs h x is passes in
    elim (cases_Bool (p y)) [
      | inl here ↦ rw here (omega arith)
      | inr later ↦ rw later (omega arith)
    ]

no_attachment : AttachmentPoint
no_attachment = record { edge = record { 0 = 0 }; port = 0 }

edge_port_there : (attachment : AttachmentPoint) (s port : ℕ) → stands_at s port attachment ≡ true → edge_port_of_attachment attachment ≡ at_port s port
edge_port_there attachment s port is =
    let parts = and_parts (attachment.edge.0 == s) (attachment.port == port) is in
    ap (λ a. at_port a attachment.port) (eqb-true attachment.edge.0 s parts.0) ∙ ap (λ b. at_port s b) (eqb-true attachment.port port parts.1)

-- the host at a port stands there, as the journal has it
pub stands_there : (w : WorldView) (past : List Entry) (s port h : ℕ) → AttachmentsAgree w.plan past w.attachments → host_at w s port ≡ Some h →
    edge_port_of w.plan past h ≡ Some (at_port s port)
stands_there w past s port h agree found =
    let all = position-Some (stands_at s port) w.attachments h no_attachment found in
    sym (agree h) ∙ ap (option_map edge_port_of_attachment) (slice_get-get_or w.attachments h no_attachment all.0)
    ∙ ap Some (edge_port_there (get_or w.attachments h no_attachment) s port all.1)

-- and where a host stands one is found
pub found_at : (w : WorldView) (past : List Entry) (s port h : ℕ) → AttachmentsAgree w.plan past w.attachments → edge_port_of w.plan past h ≡ Some (at_port s port) →
    (g : ℕ) × (host_at w s port ≡ Some g)
found_at w past s port h agree at = by_attachment (slice_get w.attachments h) refl (agree h ∙ at)
  where
    by_attachment : (o : Option AttachmentPoint) → slice_get w.attachments h ≡ o → option_map edge_port_of_attachment (slice_get w.attachments h) ≡ Some (at_port s port) →
        (g : ℕ) × (host_at w s port ≡ Some g)
    by_attachment None is e = (let none : option_map edge_port_of_attachment (slice_get w.attachments h) ≡ None = ap (option_map edge_port_of_attachment) is in absurd (cc))
    by_attachment (Some attachment) is e =
        let there : option_map edge_port_of_attachment (slice_get w.attachments h) ≡ Some (edge_port_of_attachment attachment) = ap (option_map edge_port_of_attachment) is in
        let same : edge_port_of_attachment attachment ≡ at_port s port = cc in
        let passes : stands_at s port attachment ≡ true = and_from (attachment.edge.0 == s) (attachment.port == port)
        (eq-eqb attachment.edge.0 s (ap (λ (x : EdgePort). x.edge) same)) (eq-eqb attachment.port port (ap (λ (x : EdgePort). x.port) same)) in (
          position_or_len (stands_at s port) w.attachments,
          cond-true (nat_lt (position_or_len (stands_at s port) w.attachments) (length w.attachments)) _ None
              (lt-ltb _ _ (some_passes (stands_at s port) w.attachments h attachment is passes)),
        )

-- the host that gets a frame stands at the port, and the frame goes to a group or to its address
record Gets (w : WorldView) (s port h : ℕ) (frame : List ℕ) : Type 0 where
  found : host_at w s port ≡ Some h
  for : (is_group (destination_of frame) || is_address_of (mac_of_host w.plan h) (destination_of frame)) ≡ true

gets : (w : WorldView) (s port h : ℕ) (frame : List ℕ) → receiver w s port frame ≡ Some h → Gets w s port h frame
gets w s port h frame is = by_host (host_at w s port) refl is
  where
    by_host : (o : Option ℕ) → host_at w s port ≡ o → if_for w.plan frame o ≡ Some h → Gets w s port h frame
    by_host None at e = absurd (cc)
    by_host (Some g) at e = elim (cases_Bool (is_group (destination_of frame) || is_address_of (mac_of_host w.plan g) (destination_of frame))) [
      | inl yes_for ↦
          let is_g : if_for w.plan frame (Some g) ≡ Some g = cond-true (is_group (destination_of frame) || is_address_of (mac_of_host w.plan g) (destination_of frame)) (Some g) None yes_for in
          let same : g ≡ h = cc in
          subst (λ n. Gets w s port n frame) same (record { found = at; for = yes_for })
      | inr not_for ↦
          let none : if_for w.plan frame (Some g) ≡ None = cond-false (is_group (destination_of frame) || is_address_of (mac_of_host w.plan g) (destination_of frame)) (Some g) None not_for in
          absurd (cc)
    ]

its_address : (o : Option Mac) (dst : Mac) → is_address_of o dst ≡ true → o ≡ Some dst
its_address None dst is = absurd (false≢true is)
its_address (Some m) dst is = ap Some (mac_is m dst is)

-- two hosts have two addresses
pub host_is : (plan : Plan) (g h : ℕ) (m : Mac) → IsPlan plan → mac_of_host plan g ≡ Some m → mac_of_host plan h ≡ Some m → g ≡ h
host_is plan g h m is at_g at_h = elim (cases_eq g h) [
  | inl same ↦ same
  | inr differ ↦ absurd (elim (cases_lt g h) [
    | inl less ↦ apart plan.hosts is.macs_apart g h m less at_g at_h
    | inr more ↦ apart plan.hosts is.macs_apart h g m (omega arith) at_h at_g
  ])
]
  where
    host_there : (hosts : List Host) (n : ℕ) (m : Mac) → option_map (λ (h : Host). h.mac) (slice_get hosts n) ≡ Some m →
        (d : Host) → (n < length hosts) × ((get_or hosts n d).mac ≡ m)
    host_there [] n m at d = absurd (cc)
    host_there (x ∷ hosts) zero m at d = (omega arith, cc)
    host_there (x ∷ hosts) (suc n) m at d = let rest = host_there hosts n m at d in (omega (arith, rest.0), rest.1)

    any_host : (hosts : List Host) (n : ℕ) (m : Mac) → option_map (λ (h : Host). h.mac) (slice_get hosts n) ≡ Some m → Host
    any_host [] n m at = absurd (cc)
    any_host (x ∷ hosts) n m at = x

    apart : (hosts : List Host) → AllPairs (λ (a b : Host). a.mac ≢ b.mac) hosts → (a b : ℕ) (m : Mac) → a < b →
        option_map (λ (h : Host). h.mac) (slice_get hosts a) ≡ Some m → option_map (λ (h : Host). h.mac) (slice_get hosts b) ≡ Some m → ⊥
    apart hosts all a b m less at_a at_b =
        let d = any_host hosts a m at_a in
        let first = host_there hosts a m at_a d in
        let second = host_there hosts b m at_b d in
        all a b d less second.0 (first.1 ∙ sym second.1)

by_kind : (b : Bool) {P Q : Type 0} → (b ≡ true → P) → (b ≡ false → Q) → MatchBool b P Q
by_kind true p q = p refl
by_kind false p q = q refl

module _ (w : WorldView) (counted : IsCounted w) (told : IsJournaled w) (s port id : ℕ) (frame : List ℕ) (items : List Item)
    (within : port < w.plan.k) (head : out_of w s port ≡ Data id frame ∷ items) (peer : peer_of w.plan s port ≡ HostPort) where
  leaving : IsLeaving w.plan (place_in w.switches) (addressee (reverse w.journal) id) (history_of (reverse w.journal)) (flight_of w.plan (reverse w.journal) id) frame s port
  leaving = subst (λ (p : Peer). IsGoing w.plan (place_in w.switches) (reverse w.journal) s port p id frame) peer
      (taken w counted told s port id frame items within head).going

  is_plan : IsPlan w.plan
  is_plan = (sound w counted).rest.is_plan

  -- a frame to one host that comes to a host comes to that one
  arrives : (h : ℕ) → is_group (destination_of frame) ≡ false → receiver w s port frame ≡ Some h →
      ArrivesByAddress w.plan (reverse w.journal) id h frame
  arrives h unicast is =
      let past : List Entry = reverse w.journal in
      let g = gets w s port h frame is in
      let one = leaving.one unicast in
      let here : edge_port_of w.plan past h ≡ Some (at_port s port) = stands_there w past s port h told.attachments_agree g.found in
      let for = subst (λ b. (b || is_address_of (mac_of_host w.plan h) (destination_of frame)) ≡ true) unicast g.for in
      let same : one.host ≡ h = host_is w.plan one.host h (destination_of frame) is_plan one.mac (its_address (mac_of_host w.plan h) (destination_of frame) for) in
      let some : (o : Option EdgePort) → o ≡ Some (at_port s port) → IsSome o × (first_of (leg past id) ≡ option_map (λ (x : EdgePort). x.edge) o) =
      λ o e. subst (λ (p : Option EdgePort). IsSome p × (first_of (leg past id) ≡ option_map (λ (x : EdgePort). x.edge) p)) (sym e) (refl, one.reached) in
      record {
        held = one.held ∙ ap Some same;
        stands_there = here ∙ sym one.there;
        reached = some (edge_port_of w.plan past h) here;
        unaltered = subst (λ n. UnalteredFrom (flight_of w.plan past id).sender (flight_of w.plan past id).source (flight_of w.plan past id).beginning
            (mac_of_host w.plan n) frame) same one.unaltered;
      }

  -- a frame of a group may arrive at a member, where it is the first of its root
  arrives_for_many : (h : ℕ) → is_group (destination_of frame) ≡ true → receiver w s port frame ≡ Some h →
      is_member (reverse w.journal) h (group_of (destination_of frame)) ≡ true → ComesFirst w s port id → ArrivesByGroup w.plan (reverse w.journal) id h frame
  arrives_for_many h group is member first =
      let past : List Entry = reverse w.journal in
      let g = gets w s port h frame is in
      let m = leaving.many group in
      let here : edge_port_of w.plan past h ≡ Some (at_port s port) = stands_there w past s port h told.attachments_agree g.found in
      let last : first_of (leg past id) ≡ Some s = ap first_of m.leg ∙ leaving.last in
      record {
        reached = subst (λ (p : Option EdgePort). EndsAt (leg past id) p) (sym here) (refl, last);
        unaltered = m.unaltered;
        first = ap (is_root_there w.plan past (root past id)) here ∙ first;
        not_back = ap (is_same_place (edge_port past (mac_number (source_of frame)))) here ∙ leaving.not_back group;
        member = member;
      }

  -- where nobody gets it the host has left
  nobody_there : receiver w s port frame ≡ None → CauseShows w.plan (reverse w.journal) id cause.HostGone
  nobody_there is = elim (cases_Bool (is_group (destination_of frame))) [
    | inl group ↦ inl (leaving.group ∙ group)
    | inr unicast ↦
        let past : List Entry = reverse w.journal in
        let one = leaving.one unicast in
        let gone : is_at (edge_port_of w.plan past one.host) (at_port s port) ≡ false = elim (cases_Bool (is_at (edge_port_of w.plan past one.host) (at_port s port))) [
          | inl at ↦ absurd (not_gone one.host one.mac (at_is (edge_port_of w.plan past one.host) at))
          | inr away ↦ away
        ] in
        inr (inl (left_is (addressee past id) (edge_port past (address past id)) one.host one.held one.there gone))
  ]
    where
      at_is : (o : Option EdgePort) → is_at o (at_port s port) ≡ true → o ≡ Some (at_port s port)
      at_is None at = absurd (false≢true at)
      at_is (Some there) at =
          let parts = and_parts (there.edge == s) (there.port == port) at in
          ap Some (ap (λ a. at_port a there.port) (eqb-true there.edge s parts.0) ∙ ap (λ b. at_port s b) (eqb-true there.port port parts.1))

      not_gone : (h : ℕ) → mac_of_host w.plan h ≡ Some (destination_of frame) → edge_port_of w.plan (reverse w.journal) h ≡ Some (at_port s port) → ⊥
      not_gone h address at =
          let past : List Entry = reverse w.journal in
          let found = found_at w past s port h told.attachments_agree at in
          let there = stands_there w past s port found.0 told.attachments_agree found.1 in
          let same : found.0 ≡ h = hosts_apart w.plan past found.0 h (at_port s port) is_plan told.run there at in
          let mine : is_address_of (mac_of_host w.plan found.0) (destination_of frame) ≡ true =
          ap (λ o. is_address_of o (destination_of frame)) (ap (mac_of_host w.plan) same ∙ address) ∙ mac_itself (destination_of frame) in
          let gets_it : receiver w s port frame ≡ Some found.0 = ap (if_for w.plan frame) (found.1)
          ∙ cond-true (is_group (destination_of frame) || is_address_of (mac_of_host w.plan found.0) (destination_of frame)) (Some found.0) None
          (or_right (is_group (destination_of frame)) _ mine) in
          absurd (cc)

      left_is : (o : Option ℕ) (there : Option EdgePort) (h : ℕ) → o ≡ Some h → there ≡ Some (at_port s port) →
          is_at (edge_port_of w.plan (reverse w.journal) h) (at_port s port) ≡ false → has_left w.plan (reverse w.journal) o there ≡ true
      left_is o there h is at gone = rw (is, at) (ap not gone)

  -- it arrives, or is refused by a host that is no member of its group
  reception_journaled : (rule : HostRule) → HostsKeepFrames rule → (is_group (destination_of frame) ≡ true → ComesFirst w s port id) → (h : ℕ) → receiver w s port frame ≡ Some h →
      (reception : Reception) → (is_routed (group_of (destination_of frame)) ≡ false → reception ≡ Kept) →
      (reception ≡ Kept → is_group (destination_of frame) ≡ true → is_member (reverse w.journal) h (group_of (destination_of frame)) ≡ true) →
      IsJournaled (reception_noted (taken_out w s port items) h id frame reception)
  reception_journaled rule keeps groups h is Kept so members =
      let past : List Entry = reverse w.journal in
      let took = taken w counted told s port id frame items within head in
      let e : Entry = Arrived id (host_no h) frame in
      let group_is : goes_to_group past id ≡ is_group (destination_of frame) = leaving.group in
      let needs : Needs w.plan past e = (
        took.flies.flies,
        by_kind (goes_to_group past id)
            (λ group. arrives_for_many h (sym group_is ∙ group) is (members refl (sym group_is ∙ group)) (groups (sym group_is ∙ group))) (λ unicast. arrives h (sym group_is ∙ unicast) is),
      ) in
      subst (λ p. JournalSays w.plan (place_in w.switches) p w.links w.attachments w.from_hosts (taken_out w s port items).out) (sym (reverse_noted w.journal past e refl))
      (note w.plan (place_in w.switches) past w.links w.attachments w.from_hosts (taken_out w s port items).out e id
      (record { not_at_hosts = took.flies.not_at_hosts; not_out = took.flies.not_out }) (λ g other. kept w.plan past e g tt) (same_history (history_of past)) needs tt
      took.tells.links_agree took.tells.attachments_agree took.tells)
  reception_journaled rule keeps groups h is NotMember so members =
      let past : List Entry = reverse w.journal in
      let took = taken w counted told s port id frame items within head in
      let routed : is_routed (group_of (destination_of frame)) ≡ true = elim (cases_Bool (is_routed (group_of (destination_of frame)))) [
        | inl yes_routed ↦ yes_routed
        | inr not_routed ↦ (let same = so not_routed in absurd (cc))
      ] in
      let group : is_group (destination_of frame) ≡ true = elim (cases_Bool (is_group (destination_of frame))) [
        | inl yes_group ↦ yes_group
        | inr unicast ↦ absurd (both_ways (is_routed (group_of (destination_of frame))) (unicast_is_not_routed (destination_of frame) unicast) routed)
      ] in
      let shows : CauseShows w.plan past id cause.NoMember = ap (λ d. is_routed (group_of d)) (leaving.kept group) ∙ routed in
      subst (λ p. JournalSays w.plan (place_in w.switches) p w.links w.attachments w.from_hosts (taken_out w s port items).out)
      (sym (reverse_noted w.journal past (Dropped id cause.NoMember) refl))
      (note_drop w.plan (place_in w.switches) past w.links w.attachments w.from_hosts (taken_out w s port items).out id cause.NoMember
      (record { not_at_hosts = took.flies.not_at_hosts; not_out = took.flies.not_out }) took.flies.flies shows took.tells)

  same_hosts : (h : ℕ) (reception : Reception) → (reception_noted (taken_out w s port items) h id frame reception).hosts ≡ w.hosts
  same_hosts h Kept = refl
  same_hosts h NotMember = refl

  reception_sound : (h : ℕ) (reception : Reception) → Sound (reception_noted (taken_out w s port items) h id frame reception)
  reception_sound h Kept = record {
    balance = noted_owes (taken_out w s port items) (λ i. times_in i (Data id frame ∷ [])) (λ i. 0) (Arrived id (host_no h) frame ∷ []) refl
        (λ i. omega (arith, times_in-data i id frame [])) (taken w counted told s port id frame items within head).owes;
    rest = (sound w counted).rest;
  }
  reception_sound h NotMember = record {
    balance = noted_owes (taken_out w s port items) (λ i. times_in i (Data id frame ∷ [])) (λ i. 0) (Dropped id cause.NoMember ∷ []) refl
        (λ i. omega (arith, times_in-data i id frame [])) (taken w counted told s port id frame items within head).owes;
    rest = (sound w counted).rest;
  }

  -- whatever becomes of it there
  pub comes_out_journaled : (rule : HostRule) → HostsKeepFrames rule → HostsSendData rule → (is_group (destination_of frame) ≡ true → ComesFirst w s port id) → AreMembersByThePast rule w → (to : Option ℕ) →
      receiver w s port frame ≡ to → (new : WorldView) → ComesAtHost rule (taken_out w s port items) id frame to new → IsJournaled new
  comes_out_journaled rule keeps sends groups members None nobody new is =
      let past : List Entry = reverse w.journal in
      let took = taken w counted told s port id frame items within head in
      subst IsJournaled (sym is)
      (subst (λ p. JournalSays w.plan (place_in w.switches) p w.links w.attachments w.from_hosts (taken_out w s port items).out)
      (sym (reverse_noted w.journal past (Dropped id cause.HostGone) refl))
      (note_drop w.plan (place_in w.switches) past w.links w.attachments w.from_hosts (taken_out w s port items).out id cause.HostGone
      (record { not_at_hosts = took.flies.not_at_hosts; not_out = took.flies.not_out }) took.flies.flies (nobody_there nobody) took.tells))
  comes_out_journaled rule keeps sends groups members (Some h) found new receives =
      host_journaled rule sends _ h _ _ new (reception_sound h receives.reception)
      (reception_journaled rule keeps groups h found receives.reception
      (λ fine. keeps receives.turn.before frame receives.turn.after receives.turn.acts receives.reception fine receives.turn.ruled)
      (λ kept group. members h receives.turn.before receives.turn.after receives.turn.acts frame
      (sym (ap (λ hosts. slice_get hosts h) (same_hosts h receives.reception)) ∙ receives.turn.found)
      (subst (λ r. rule receives.turn.before (Receives frame) receives.turn.after receives.turn.acts (Received r)) kept receives.turn.ruled) group))
      receives.turn
