-- The head of a queue out of a port is delivered: to a switch, or to the host that stands there, which answers a probe.
use Rattle.std.proofs.Common.{◌≡◌, ◌⊎◌, ◌<◌, ℕ, true, false, get_or, set, Contains, List, [], ◌∷◌, length, length-set, Option, Some, None, slice_get, refl, sym, ap, subst, ◌∙◌, inl, inr, get_or-set_same, get_or-set_other}
use Rattle.std.specs.List.{AllByRecursion, list_any}
use Rattle.std.proofs.lemmas.Bool.{cases_Bool, cases_eq, false≢true}
use Rattle.std.proofs.lemmas.List.Elements.{Contains-append_left, Contains-push}
use Rattle.std.proofs.lemmas.Nat.{same_from_place}
use Rattle.std.proofs.lemmas.Option.{none-some, same_Some, slice_get_within}
use Rattle.pl_wiring.specs.declared.host.Host.{Host}
use Rattle.pl_wiring.specs.declared.label.SwitchNo.{SwitchNo}
use Rattle.pl_wiring.specs.declared.link.Peer.{Peer}
use Rattle.pl_wiring.specs.declared.link.Peer.TheVariants.{HostPort, Switch}
use Rattle.pl_wiring.specs.Index.{port_index}
use Rattle.pl_wiring.specs.Plan.{Plan}
use Rattle.pl_wiring.specs.Peers.{peer_of}
use Rattle.pl_layouts.specs.Control.{is_control}
use Rattle.pl_node.specs.declared.acts.HostAct.{HostAct}
use Rattle.pl_node.specs.declared.reception.Reception.{Reception}
use Rattle.pl_node.specs.declared.reception.Reception.TheVariants.{Kept, NotMember}
use Rattle.pl_node.specs.HostInputs.{HostAnswer, HostInput, HostRule}
use Rattle.pl_node.specs.HostInputs.HostInput.{Receives}
use Rattle.pl_node.specs.HostViews.{HostView}
use Rattle.pl_node.specs.SwitchInputs.SwitchInput.{Comes}
use Rattle.pl_node.specs.SwitchViews.{SwitchView}
use Rattle.pl_host_rule.specs.HostRule.{host_rule}
use Rattle.pl_journal.specs.declared.cause.Cause.TheVariants.{HostGone}
use Rattle.pl_journal.specs.declared.entry.Entry.{Entry}
use Rattle.pl_journal.specs.declared.entry.Entry.TheVariants.{Crossed, Dropped}
use Rattle.pl_queues.specs.Queues.{items_at}
use Rattle.pl_switch_rule.specs.Forwarding.{Choice}
use Rattle.pl_switch_rule.specs.SwitchRule.{Loose, switch_step}
use Rattle.pl_switch_rule.proofs.Exports.{all_or}
use Rattle.pl_world.specs.declared.item.Item.{Item}
use Rattle.pl_world.specs.declared.item.Item.TheVariants.{Control, Data}
use Rattle.pl_world.specs.declared.spoken_frame.SpokenFrame.TheVariants.{Silent, Waiting}
use Rattle.pl_world.specs.declared.attachment.AttachmentPoint.{AttachmentPoint}
use Rattle.pl_world.specs.Booting.{me_of}
use Rattle.pl_world.specs.Changes.{noted, out_of, receiver, switch_no}
use Rattle.pl_world.specs.Flying.{IsItem}
use Rattle.pl_world.specs.OtherActs.{reception_noted}
use Rattle.pl_world.specs.WorldRule.{ComesAtHost, ComesAtSwitch, ComesOut, ComesOver, HostTurn}
use Rattle.pl_world.specs.Worlds.{WorldView}
use Rattle.pl_law_addresses.proofs.Exports.{any_rest}
use Rattle.pl_world.proofs.Exports.{by_host}
use Rattle.pl_law_registration.specs.BeingRegistered.{AreAttachedApart, heard_at}
use Rattle.pl_law_registration.specs.Probes.{is_packet, is_probe}
use Rattle.pl_law_registration.proofs.Facts.{Facts}
use Rattle.pl_law_registration.proofs.Hosts.{answers, asked, host_follows}
use Rattle.pl_law_registration.proofs.Places.{Attends, it_receives, place_of, single_of, six_of, edge_port_of}
use Rattle.pl_law_registration.proofs.RowsAttendHosts.{KnowsOrProbes, comes_still}
use Rattle.pl_law_registration.proofs.Sending.{Keeps, kept_places}
use Rattle.pl_law_registration.proofs.Sources.{KnowsAt}
use Rattle.pl_law_registration.proofs.TurnsOfAKnownHost.{EdgePort, Follows, IsPlace, NoticedIn, Waits, noticed_on, queue_to, turn_keeps}

-- one thing that waits may take the place of another
record Goes (at : EdgePort) (w new : WorldView) : Type 0 where
  switches : new.switches ≡ w.switches
  heard : heard_at new at.h ≡ heard_at w at.h
  waits : Waits at (queue_to at w) (items_at w.from_hosts at.h) → Waits at (queue_to at new) (items_at new.from_hosts at.h)

noticed_by : (at : EdgePort) (w new : WorldView) → Goes at w new → NoticedIn at w → NoticedIn at new
noticed_by at w new goes noticed = λ v found ticks heard.
    elim (noticed v (ap (λ (vs : List SwitchView). slice_get vs at.edge) (sym goes.switches) ∙ found) ticks (sym goes.heard ∙ heard)) [ inl knows ↦ inl knows | inr waits ↦ inr (waits.0, goes.waits waits.1) ]

-- an entry is written
pub noted_follows : (at : EdgePort) (w : WorldView) (e : Entry) → Follows at w (noted w e)
noted_follows at w e = record { switches = refl; heard = refl; out = λ x. x; mine = λ x. x }

-- a reception changes nothing else
record IsNoted (w u : WorldView) : Type 0 where
  plan : u.plan ≡ w.plan
  attachments : u.attachments ≡ w.attachments
  switches : u.switches ≡ w.switches
  out : u.out ≡ w.out
  hosts : u.hosts ≡ w.hosts
  from_hosts : u.from_hosts ≡ w.from_hosts
  heard : u.heard ≡ w.heard

reception_is : (w : WorldView) (g id : ℕ) (frame : List ℕ) (what : Reception) → IsNoted w (reception_noted w g id frame what)
reception_is w g id frame Kept = record { plan = refl; attachments = refl; switches = refl; out = refl; hosts = refl; from_hosts = refl; heard = refl }
reception_is w g id frame NotMember = record { plan = refl; attachments = refl; switches = refl; out = refl; hosts = refl; from_hosts = refl; heard = refl }

module _ (h : ℕ) (w : WorldView) (f : Facts w) (apart : AreAttachedApart w.attachments) (a : Attends h w) (s port : ℕ) (item : Item) (rest : List Item) (head : out_of w s port ≡ item ∷ rest)
    (within : port < w.plan.k) where
  abbrev pub popped : WorldView
  popped = record w { out = set w.out (port_index w.plan.k s port) rest }

  is_item : IsItem item
  is_item = (subst (λ (xs : List Item). AllByRecursion IsItem xs) head (all_or (AllByRecursion IsItem) w.out (port_index w.plan.k s port) [] f.port_items tt)).0

  -- the host stands at this port, and a probe leaves for it
  pub record IsAsked (host : Host) (attachment : AttachmentPoint) : Type 0 where
    pub edge : attachment.edge.0 ≡ s
    pub at_port : attachment.port ≡ port
    pub probe : is_probe (me_of host) item ≡ true

  queue_popped : (host : Host) (attachment : AttachmentPoint) → slice_get w.plan.hosts h ≡ Some host → slice_get w.attachments h ≡ Some attachment → list_any (is_probe (me_of host)) (queue_to (edge_port_of h host attachment) w) ≡ true →
      (list_any (is_probe (me_of host)) (queue_to (edge_port_of h host attachment) popped) ≡ true) ⊎ IsAsked host attachment
  queue_popped host attachment at_host at_attachment waits =
      let k = w.plan.k in
      let mine = port_index k attachment.edge.0 attachment.port in
      let place = place_of w f h host attachment at_host at_attachment in
      elim (cases_eq mine (port_index k s port)) [
        | inr other ↦ inl (ap (λ (xs : List Item). list_any (is_probe (me_of host)) xs) (get_or-set_other w.out (port_index k s port) mine rest [] other) ∙ waits)
        | inl same ↦ elim (cases_Bool (is_probe (me_of host) item)) [
          | inl probe ↦
              let two = same_from_place attachment.edge.0 attachment.port s port k (f.at_edges h attachment at_attachment).port within same in
              inr (record { edge = two.0; at_port = two.1; probe = probe })
          | inr none ↦
              let now : items_at (set w.out (port_index k s port) rest) mine ≡ rest =
              ap (λ n. items_at (set w.out (port_index k s port) rest) n) same ∙ get_or-set_same w.out (port_index k s port) rest [] (subst (λ n. n < length w.out) same place.within) in
              inl (ap (λ (xs : List Item). list_any (is_probe (me_of host)) xs) now
              ∙ any_rest (is_probe (me_of host)) item rest none (ap (λ (xs : List Item). list_any (is_probe (me_of host)) xs) (sym (ap (λ n. items_at w.out n) same ∙ head)) ∙ waits))
        ]
      ]

  -- where no probe leaves for it, all is as it was
  pub noticed_popped : (host : Host) (attachment : AttachmentPoint) → slice_get w.plan.hosts h ≡ Some host → slice_get w.attachments h ≡ Some attachment → (IsAsked host attachment → ⊥) → NoticedIn (edge_port_of h host attachment) popped
  noticed_popped host attachment at_host at_attachment never =
      noticed_on (edge_port_of h host attachment) w popped (record {
        switches = refl;
        heard = refl;
        out = λ waits. elim (queue_popped host attachment at_host at_attachment waits) [ inl still ↦ still | inr is ↦ absurd (never is) ];
        mine = λ is. is;
      }) (a.noticed host attachment at_host at_attachment)

  place_popped : (host : Host) (attachment : AttachmentPoint) → slice_get w.plan.hosts h ≡ Some host → slice_get w.attachments h ≡ Some attachment → IsPlace (edge_port_of h host attachment) popped
  place_popped host attachment at_host at_attachment =
      let p = place_of w f h host attachment at_host at_attachment in
      record { free = p.free; within = subst (λ n. port_index w.plan.k attachment.edge.0 attachment.port < n) (sym (length-set w.out (port_index w.plan.k s port) rest)) p.within; six = p.six; small = p.small }

  -- ---- over a link
  module _ (t : SwitchNo) (q : ℕ) (leads : peer_of w.plan s port ≡ Switch t q) where
    not_here : (host : Host) (attachment : AttachmentPoint) → slice_get w.attachments h ≡ Some attachment → IsAsked host attachment → ⊥
    not_here host attachment at_attachment is =
        let free = (f.at_edges h attachment at_attachment).free in
        absurd (cc (sym leads ∙ ap (λ n. peer_of w.plan n port) (sym is.edge) ∙ ap (λ n. peer_of w.plan attachment.edge.0 n) (sym is.at_port) ∙ free))

    -- what comes over a link is taken for no host's
    still_known : (id : ℕ) (frame : List ℕ) → (is_control frame ≡ false → item ≡ Data id frame) → (host : Host) (attachment : AttachmentPoint) → slice_get w.attachments h ≡ Some attachment → (v : SwitchView) → attachment.edge.0 ≡ t.0 →
        slice_get w.switches attachment.edge.0 ≡ Some v → (choose : Choice) → (ticks : ℕ) → KnowsAt (me_of host) ticks v attachment.port →
        KnowsOrProbes (me_of host) attachment.port ticks (switch_step choose v (Comes q frame))
    still_known id frame is host attachment at_attachment v same found choose ticks knows =
        let edge = f.at_edges h attachment at_attachment in
        let home = f.homes attachment.edge.0 attachment.port v edge.edge edge.port edge.free found in
        inl (comes_still (me_of host) attachment.port v home.ready choose q frame (λ no_control takes.
        absurd (false≢true (sym (f.neighbours s port t q id frame v leads
        (subst (λ (xs : List Item). Contains xs (Data id frame)) (sym head) (subst (λ (i : Item). Contains (item ∷ rest) i) (is no_control) (Contains-append_left (item ∷ []) rest item (Contains-push [] item))))
        (ap (λ n. slice_get w.switches n) (sym same) ∙ found)) ∙ takes))) ticks knows)

  over : (t : SwitchNo) (q : ℕ) (new : WorldView) → peer_of w.plan s port ≡ Switch t q → (i : Item) → item ≡ i → ComesAtSwitch Loose popped t.0 q i new → Keeps h w new
  over t q new leads (Control frame) is turn = record {
    rest = kept_places w popped t.0 (Comes q frame) Silent new turn refl refl;
    noticed = λ host attachment at_host at_attachment.
        turn_keeps (edge_port_of h host attachment) popped t.0 (Comes q frame) Silent new turn (place_popped host attachment at_host at_attachment)
        (noticed_popped host attachment at_host at_attachment (not_here t q leads host attachment at_attachment))
        (λ v same found choose ticks knows. still_known t q leads 0 frame (λ no_control. absurd (false≢true (sym no_control ∙ (subst IsItem is is_item).kind))) host attachment at_attachment v same found choose ticks knows);
  }
  over t q new leads (Data id frame) is turn =
      let mid : WorldView = noted popped (Crossed id (switch_no t.0)) in
      record {
        rest = kept_places w mid t.0 (Comes q frame) (Waiting id false) new turn refl refl;
        noticed = λ host attachment at_host at_attachment.
            let p = place_popped host attachment at_host at_attachment in
            turn_keeps (edge_port_of h host attachment) mid t.0 (Comes q frame) (Waiting id false) new turn (record { free = p.free; within = p.within; six = p.six; small = p.small })
            (noticed_on (edge_port_of h host attachment) popped mid (noted_follows (edge_port_of h host attachment) popped (Crossed id (switch_no t.0)))
            (noticed_popped host attachment at_host at_attachment (not_here t q leads host attachment at_attachment)))
            (λ v same found choose ticks knows. still_known t q leads id frame (λ no_control. is) host attachment at_attachment v same found choose ticks knows);
      }

  -- ---- to the host that stands there
  module _ (rule : HostRule) (lawful : (view : HostView) (input : HostInput) (after : HostView) (acts : List HostAct) (answer : HostAnswer) → rule view input after acts answer → host_rule view input after acts answer) where
    same_places : (g : ℕ) (u : WorldView) (input : HostInput) (answer : HostAnswer) (new : WorldView) → HostTurn rule u g input answer new → u.plan ≡ w.plan → u.attachments ≡ w.attachments →
        (new.plan ≡ w.plan) × (new.attachments ≡ w.attachments)
    same_places g u input answer new turn plan attachments =
        let same = by_host rule u g input answer new turn in (ap (λ (x : WorldView). x.plan) same ∙ plan, ap (λ (x : WorldView). x.attachments) same ∙ attachments)

    -- it answers
    probe_answered : (id : ℕ) (frame : List ℕ) → item ≡ Data id frame → (g : ℕ) (what : Reception) (answer : HostAnswer) (new : WorldView) → g ≡ h →
        HostTurn rule (reception_noted popped g id frame what) g (Receives frame) answer new → (host : Host) (attachment : AttachmentPoint) → slice_get w.plan.hosts h ≡ Some host →
        is_probe (me_of host) item ≡ true → list_any is_packet (items_at new.from_hosts h) ≡ true
    probe_answered id frame is g what answer new same turn host attachment at_host probe =
        by (subst (λ (n : ℕ). HostTurn rule (reception_noted popped n id frame what) n (Receives frame) answer new) same turn)
      where
        by : HostTurn rule (reception_noted popped h id frame what) h (Receives frame) answer new → list_any is_packet (items_at new.from_hosts h) ≡ true
        by turned =
            let u = reception_noted popped h id frame what in
            let noted_is = reception_is popped h id frame what in
            let found : slice_get w.hosts h ≡ Some turned.before = ap (λ (hs : List HostView). slice_get hs h) (sym noted_is.hosts) ∙ turned.found in
            let within_hosts : h < length w.from_hosts = subst (λ n. h < n) (sym f.many_from) (slice_get_within w.hosts h turned.before found) in
            answers (edge_port_of h host attachment) rule lawful u frame answer new turned
            (six_of w.plan f.plan h host at_host) (single_of w.plan f.plan h host at_host) (f.own h host turned.before at_host found).is
            (asked (me_of host) id frame (subst (λ (i : Item). is_probe (me_of host) i ≡ true) is probe))
            (subst (λ (xs : List (List Item)). h < length xs) (sym noted_is.from_hosts) within_hosts)

    -- it goes to a host
    module _ (id : ℕ) (frame : List ℕ) (is : item ≡ Data id frame) (g : ℕ) (to : receiver popped s port frame ≡ Some g) (what : Reception) (answer : HostAnswer) (new : WorldView)
        (turn : HostTurn rule (reception_noted popped g id frame what) g (Receives frame) answer new) where
      received : Keeps h w new
      received = record {
        rest = let n = reception_is popped g id frame what in same_places g (reception_noted popped g id frame what) (Receives frame) answer new turn n.plan n.attachments;
        noticed = λ host attachment at_host at_attachment.
            let at = edge_port_of h host attachment in
            let u = reception_noted popped g id frame what in
            let n = reception_is popped g id frame what in
            let follows = host_follows at rule u g (Receives frame) answer new turn in
            let probed : IsAsked host attachment → list_any is_packet (items_at new.from_hosts h) ≡ true = (λ asks.
            let goes_to = (asked (me_of host) id frame (subst (λ (i : Item). is_probe (me_of host) i ≡ true) is asks.probe)).to in
            let mine : receiver w s port frame ≡ Some h =
            (λ i. receiver w (sym asks.edge i) (sym asks.at_port i) frame) ∙ it_receives w apart h host attachment at_host at_attachment frame goes_to in
            probe_answered id frame is g what answer new (same_Some g h (sym to ∙ mine)) turn host attachment at_host asks.probe) in
            let still : list_any (is_probe (me_of host)) (queue_to at popped) ≡ true → list_any (is_probe (me_of host)) (queue_to at new) ≡ true = (λ waits.
            follows.out (ap (λ (p : Plan). list_any (is_probe (me_of host)) (items_at u.out (port_index p.k at.edge at.port))) n.plan
            ∙ ap (λ (out : List (List Item)). list_any (is_probe (me_of host)) (items_at out (port_index w.plan.k at.edge at.port))) n.out ∙ waits)) in
            let packet_still : list_any is_packet (items_at w.from_hosts h) ≡ true → list_any is_packet (items_at new.from_hosts h) ≡ true = (λ packet.
            follows.mine (ap (λ (xs : List (List Item)). list_any is_packet (items_at xs h)) n.from_hosts ∙ packet)) in
            noticed_by at w new (record {
              switches = follows.switches ∙ n.switches;
              heard = follows.heard ∙ ap (λ (xs : List (Option ℕ)). get_or xs h None) n.heard;
              waits = λ waits. elim waits [
                | inr packet ↦ inr (packet_still packet)
                | inl probe ↦ elim (queue_popped host attachment at_host at_attachment probe) [
                  | inl there ↦ inl (still there)
                  | inr asks ↦ inr (probed asks)
                ]
              ];
            }) (a.noticed host attachment at_host at_attachment);
      }

    -- nobody gets it
    lost_there : (id : ℕ) (frame : List ℕ) → item ≡ Data id frame → receiver popped s port frame ≡ None → (new : WorldView) → new ≡ noted popped (Dropped id HostGone) → Keeps h w new
    lost_there id frame is nobody new same =
        subst (λ (x : WorldView). Keeps h w x) (sym same) (record {
          rest = (refl, refl);
          noticed = λ host attachment at_host at_attachment.
              noticed_on (edge_port_of h host attachment) popped (noted popped (Dropped id HostGone))
              (noted_follows (edge_port_of h host attachment) popped (Dropped id HostGone))
              (noticed_popped host attachment at_host at_attachment (λ asks.
              let goes_to = (asked (me_of host) id frame (subst (λ (i : Item). is_probe (me_of host) i ≡ true) is asks.probe)).to in
              none-some h (sym nobody ∙ (λ i. receiver w (sym asks.edge i) (sym asks.at_port i) frame) ∙ it_receives w apart h host attachment at_host at_attachment frame goes_to)));
        })

    at_host_end : (id : ℕ) (frame : List ℕ) → item ≡ Data id frame → (to : Option ℕ) → receiver popped s port frame ≡ to → (new : WorldView) → ComesAtHost rule popped id frame to new → Keeps h w new
    at_host_end id frame is None nobody new same = lost_there id frame is nobody new same
    at_host_end id frame is (Some g) to new receives = received id frame is g to receives.reception _ new receives.turn

    out_there : (i : Item) → item ≡ i → (new : WorldView) → ComesOut rule popped s port i new → Keeps h w new
    out_there (Control frame) is new same =
        subst (λ (x : WorldView). Keeps h w x) (sym same) (record {
          rest = (refl, refl);
          noticed = λ host attachment at_host at_attachment.
              noticed_popped host attachment at_host at_attachment (λ asks. false≢true (subst (λ (i : Item). is_probe (me_of host) i ≡ true) is asks.probe));
        })
    out_there (Data id frame) is new comes = at_host_end id frame is (receiver popped s port frame) refl new comes

    pub over_there : (peer : Peer) → peer_of w.plan s port ≡ peer → (new : WorldView) → ComesOver Loose rule popped s port item peer new → Keeps h w new
    over_there (Switch t q) leads new comes = over t q new leads item refl comes
    over_there HostPort leads new comes = out_there item refl new comes
