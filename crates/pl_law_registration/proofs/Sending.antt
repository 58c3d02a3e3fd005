-- A frame of a host comes at its edge switch.
use Rattle.std.proofs.Common.{◌≡◌, ◌≢◌, ◌⊎◌, ◌<◌, ℕ, zero, suc, Bool, true, false, if◌then◌else◌, get_or, set, List, [], ◌∷◌, length, Option, Some, None, slice_get, slice_set, refl, sym, ap, subst, ◌∙◌, inl, inr, get_or-set_same, get_or-set_other}
use Rattle.std.specs.List.{AllByRecursion, list_any}
use Rattle.std.proofs.lemmas.Bool.{cases_eq, false≢true}
use Rattle.std.proofs.lemmas.Option.{none-some, same_Some}
use Rattle.pl_wiring.specs.declared.host.Host.{Host}
use Rattle.pl_frame.specs.Ethernet.{source_of}
use Rattle.pl_layouts.specs.Control.{is_control}
use Rattle.pl_node.specs.HostDuties.{is_own}
use Rattle.pl_node.specs.PortRecords.{is_open_to_hosts, port_of}
use Rattle.pl_node.specs.SwitchInputs.{SwitchInput}
use Rattle.pl_node.specs.SwitchInputs.SwitchInput.{Comes}
use Rattle.pl_node.specs.SwitchViews.{SwitchView}
use Rattle.pl_journal.specs.declared.entry.Entry.TheVariants.{Crossed}
use Rattle.pl_queues.specs.Queues.{items_at}
use Rattle.pl_switch_rule.specs.Forwarding.{Choice}
use Rattle.pl_switch_rule.specs.Granting.{sender_ip}
use Rattle.pl_switch_rule.specs.SwitchRule.{Loose, switch_step}
use Rattle.pl_world.specs.declared.item.Item.{Item}
use Rattle.pl_world.specs.declared.item.Item.TheVariants.{Control, Data}
use Rattle.pl_world.specs.declared.spoken_frame.SpokenFrame.{SpokenFrame}
use Rattle.pl_world.specs.declared.spoken_frame.SpokenFrame.TheVariants.{Waiting}
use Rattle.pl_world.specs.declared.attachment.AttachmentPoint.{AttachmentPoint}
use Rattle.pl_world.specs.Booting.{me_of}
use Rattle.pl_world.specs.Changes.{noted, switch_no}
use Rattle.pl_world.specs.Flying.{IsDataItem}
use Rattle.pl_world.specs.OtherActs.{heard_with}
use Rattle.pl_world.specs.WorldRule.{ComesIn, DeliversFromHost, SwitchTurn, heard_item}
use Rattle.pl_world.specs.Worlds.{WorldView}
use Rattle.pl_law_addresses.specs.OwnFrames.{IsOwnItem}
use Rattle.pl_switch_rule.proofs.Exports.{all_or}
use Rattle.pl_law_addresses.proofs.Exports.{any_rest, exists_at, filled_within}
use Rattle.pl_law_addresses.specs.EdgeAddresses.{is_settled}
use Rattle.pl_law_registration.specs.BeingRegistered.{AreAttachedApart}
use Rattle.pl_law_registration.specs.Probes.{is_packet, is_readable}
use Rattle.pl_law_registration.proofs.Acts.{Rest}
use Rattle.pl_law_registration.proofs.Facts.{Facts, IsHome}
use Rattle.pl_law_registration.proofs.Places.{Attends, own_is, place_of, edge_port_of}
use Rattle.pl_law_registration.proofs.RowsAttendHosts.{KnowsOrProbes, comes_still, frame_known}
use Rattle.pl_law_registration.proofs.Sources.{KnowsAt}
use Rattle.pl_law_registration.proofs.TurnsOfAKnownHost.{IsPlace, NoticedIn, EdgePort, Waits, noticed_on, queue_to, turn_keeps, turn_noticed, turn_rest}

-- what an event leaves of the wiring and of where hosts stand, and what is kept of one host
pub record Keeps (h : ℕ) (w new : WorldView) : Type 0 where
  pub rest : (new.plan ≡ w.plan) × (new.attachments ≡ w.attachments)
  pub noticed : (host : Host) (attachment : AttachmentPoint) → slice_get w.plan.hosts h ≡ Some host → slice_get w.attachments h ≡ Some attachment → NoticedIn (edge_port_of h host attachment) new

-- where it does not matter where the host stands
any_edge_port : ℕ → EdgePort
any_edge_port h = record { h = h; me = record { mac = record { 0 = [] }; ip = record { 0 = 0 } }; edge = 0; port = 0 }

-- of a turn of a switch in a world that has the wiring and the stands of an earlier one
pub kept_places : (w mid : WorldView) (s : ℕ) (input : SwitchInput) (speech : SpokenFrame) (new : WorldView) → (turn : SwitchTurn Loose mid s input speech new) →
    mid.plan ≡ w.plan → mid.attachments ≡ w.attachments → (new.plan ≡ w.plan) × (new.attachments ≡ w.attachments)
kept_places w mid s input speech new turn plan attachments =
    let rest = turn_rest (any_edge_port 0) mid s input speech new turn in
    (ap (λ (r : Rest). r.plan) rest ∙ plan, ap (λ (r : Rest). r.attachments) rest ∙ attachments)

-- ---- how long ago a host was heard, where one sent a frame
heard_other : (heard : List (Option ℕ)) (g h : ℕ) (now : Option ℕ) → h ≢ g → get_or (set heard g now) h None ≡ get_or heard h None
heard_other heard g h now other = get_or-set_other heard g h now None other

-- it was not heard longer ago than now; where it was not heard at all, the frame can be read
record WasHeard (before : Option ℕ) (frame : List ℕ) : Type 0 where
  known : (before ≡ None) → is_readable frame ≡ true

heard_now : (heard : List (Option ℕ)) (h : ℕ) (frame : List ℕ) (ticks : ℕ) → get_or (set heard h (heard_with frame (get_or heard h None))) h None ≡ Some ticks →
    (ticks ≡ 0) × WasHeard (get_or heard h None) frame
heard_now [] h frame ticks is = absurd (none-some ticks is)
heard_now (o ∷ heard) zero frame ticks is = by o is
  where
    by : (o : Option ℕ) → heard_with frame o ≡ Some ticks → (ticks ≡ 0) × WasHeard o frame
    by None e = reads (is_readable frame) refl e
      where
        reads : (b : Bool) → is_readable frame ≡ b → if◌then◌else◌ {A = Option ℕ} b (Some 0) None ≡ Some ticks → (ticks ≡ 0) × WasHeard None frame
        reads true readable some = (sym (same_Some 0 ticks some), record { known = λ none. readable })
        reads false readable none = absurd (none-some ticks none)
    by (Some before) e = (sym (same_Some 0 ticks e), record { known = λ none. absurd (none-some before (sym none)) })
heard_now (o ∷ heard) (suc h) frame ticks is = heard_now heard h frame ticks is

module _ (h : ℕ) (w : WorldView) (f : Facts w) (apart : AreAttachedApart w.attachments) (a : Attends h w) (g id : ℕ) (frame : List ℕ) (rest : List Item) (head : items_at w.from_hosts g ≡ Data id frame ∷ rest)
    (gs : AttachmentPoint) (at_gs : slice_get w.attachments g ≡ Some gs) where
  -- the frame left its queue and crosses the switch
  abbrev mid : WorldView
  mid = noted (heard_item (record w { from_hosts = set w.from_hosts g rest }) g (Data id frame)) (Crossed id (switch_no gs.edge.0))

  module _ (new : WorldView) (turn : SwitchTurn Loose mid gs.edge.0 (Comes gs.port frame) (Waiting id false) new) (host : Host) (attachment : AttachmentPoint)
      (at_host : slice_get w.plan.hosts h ≡ Some host) (at_attachment : slice_get w.attachments h ≡ Some attachment) (data_frame : is_control frame ≡ false) (own : g ≡ h → is_own (me_of host) frame ≡ true) where
    place_mid : IsPlace (edge_port_of h host attachment) mid
    place_mid = let p = place_of w f h host attachment at_host at_attachment in record { free = p.free; within = p.within; six = p.six; small = p.small }

    -- a frame of another host
    others : g ≢ h → NoticedIn (edge_port_of h host attachment) new
    others other =
        turn_keeps (edge_port_of h host attachment) mid gs.edge.0 (Comes gs.port frame) (Waiting id false) new turn place_mid
        (noticed_on (edge_port_of h host attachment) w mid (record {
          switches = refl;
          heard = heard_other w.heard g h (heard_with frame (get_or w.heard g None)) (λ e. other (sym e));
          out = λ is. is;
          mine = λ is. ap (λ (xs : List Item). list_any is_packet xs) (get_or-set_other w.from_hosts g h rest [] (λ e. other (sym e))) ∙ is;
        }) (a.noticed host attachment at_host at_attachment))
        (λ v same found choose ticks knows.
        let edge = f.at_edges h attachment at_attachment in
        let home = f.homes attachment.edge.0 attachment.port v edge.edge edge.port edge.free found in
        inl (comes_still (me_of host) attachment.port v home.ready choose gs.port frame
        (λ no_control takes ports. other (sym (apart h g attachment gs at_attachment at_gs same ports))) ticks knows))

    -- a frame of this one
    its : g ≡ h → NoticedIn (edge_port_of h host attachment) new
    its same =
        let attachment_is : attachment ≡ gs = same_Some attachment gs (sym at_attachment ∙ ap (λ n. slice_get w.attachments n) (sym same) ∙ at_gs) in
        let mine = own_is (me_of host) frame (own same) in
        let edge = f.at_edges h attachment at_attachment in
        turn_noticed (edge_port_of h host attachment) mid gs.edge.0 (Comes gs.port frame) (Waiting id false) new turn place_mid
        (λ v edges found choose ticks heard.
        let here : slice_get w.switches attachment.edge.0 ≡ Some v = ap (λ n. slice_get w.switches n) edges ∙ found in
        let home = f.homes attachment.edge.0 attachment.port v edge.edge edge.port edge.free here in
        let ports : attachment.port ≡ gs.port = ap (λ (x : AttachmentPoint). x.port) attachment_is in
        let takes : is_open_to_hosts (port_of v gs.port) ≡ true = subst (λ n. is_open_to_hosts (port_of v n) ≡ true) ports home.takes in
        let now = heard_now w.heard h frame ticks
        (ap (λ n. get_or (set w.heard n (heard_with frame (get_or w.heard n None))) h None) (sym same) ∙ heard) in
        let known : KnowsAt (me_of host) 0 (switch_step choose v (Comes gs.port frame)).view attachment.port → KnowsOrProbes (me_of host) attachment.port ticks (switch_step choose v (Comes gs.port frame)) =
        (λ k. inl (subst (λ n. KnowsAt (me_of host) n (switch_step choose v (Comes gs.port frame)).view attachment.port) (sym now.0) k)) in
        elim mine.said [
          | inl said ↦ inl (known (frame_known (me_of host) attachment.port v home.ready choose 0 gs.port frame ports data_frame takes mine.source (inl said.1)))
          | inr silent ↦ by_heard (get_or w.heard h None) refl v here choose ticks home takes ports mine.source silent now.1 known
        ])
        (λ other. absurd (other (ap (λ (x : AttachmentPoint). x.edge.0) attachment_is)))
      where
        here_is : items_at w.from_hosts h ≡ Data id frame ∷ rest
        here_is = ap (λ n. items_at w.from_hosts n) (sym same) ∙ head

        still_packet : is_readable frame ≡ false → list_any is_packet (items_at w.from_hosts h) ≡ true → list_any is_packet (items_at (set w.from_hosts g rest) h) ≡ true
        still_packet silent packet =
            ap (λ n. list_any is_packet (items_at (set w.from_hosts g rest) n)) (sym same)
            ∙ ap (λ (xs : List Item). list_any is_packet xs) (get_or-set_same w.from_hosts g rest [] (filled_within w.from_hosts g (Data id frame) rest head))
            ∙ any_rest is_packet (Data id frame) rest silent (ap (λ (xs : List Item). list_any is_packet xs) (sym here_is) ∙ packet)

        -- it was heard before, and what was known of it stays known
        by_heard : (before : Option ℕ) → get_or w.heard h None ≡ before → (v : SwitchView) → slice_get w.switches attachment.edge.0 ≡ Some v → (choose : Choice) → (ticks : ℕ) → IsHome v attachment.port →
            is_open_to_hosts (port_of v gs.port) ≡ true → attachment.port ≡ gs.port → source_of frame ≡ host.mac → (is_readable frame ≡ false) × (sender_ip frame ≡ None) → WasHeard (get_or w.heard h None) frame →
            (KnowsAt (me_of host) 0 (switch_step choose v (Comes gs.port frame)).view attachment.port → KnowsOrProbes (me_of host) attachment.port ticks (switch_step choose v (Comes gs.port frame))) →
            KnowsOrProbes (me_of host) attachment.port ticks (switch_step choose v (Comes gs.port frame))
            ⊎ ((is_settled v.place ≡ true) × Waits (edge_port_of h host attachment) (queue_to (edge_port_of h host attachment) mid) (items_at mid.from_hosts h))
        by_heard None was v here choose ticks home takes ports source silent heard known = absurd (false≢true (sym silent.0 ∙ heard.known was))
        by_heard (Some before) was v here choose ticks home takes ports source silent heard known = elim (a.noticed host attachment at_host at_attachment v here before was) [
          | inl knows ↦ inl (known (frame_known (me_of host) attachment.port v home.ready choose before gs.port frame ports data_frame takes source (inr (silent.1, knows))))
          | inr waits ↦ inr (
            waits.0,
            elim waits.1 [
              | inl probe ↦ inl probe
              | inr packet ↦ inr (still_packet silent.0 packet)
            ],
          )
        ]

    pub frame_noticed : NoticedIn (edge_port_of h host attachment) new
    frame_noticed = elim (cases_eq g h) [ inl same ↦ its same | inr other ↦ others other ]

-- ---- the head of a host's queue is delivered
data_only : (queues : List (List Item)) (g : ℕ) (item : Item) (rest : List Item) → AllByRecursion (AllByRecursion IsDataItem) queues → items_at queues g ≡ item ∷ rest → IsDataItem item
data_only queues g item rest all head = (subst (λ (xs : List Item). AllByRecursion IsDataItem xs) head (all_or (AllByRecursion IsDataItem) queues g [] all tt)).0

module _ (h : ℕ) (w : WorldView) (f : Facts w) (apart : AreAttachedApart w.attachments) (a : Attends h w) where
  comes_in : (g : ℕ) (item : Item) (rest : List Item) (new : WorldView) → items_at w.from_hosts g ≡ item ∷ rest → (place : Option AttachmentPoint) → slice_get w.attachments g ≡ place →
      ComesIn Loose (record w { from_hosts = slice_set w.from_hosts g rest }) g item place new → Keeps h w new
  comes_in g item rest new head None at_gs comes = absurd comes
  comes_in g (Control frame) rest new head (Some gs) at_gs comes = absurd (data_only w.from_hosts g (Control frame) rest f.host_items head)
  comes_in g (Data id frame) rest new head (Some gs) at_gs turn =
      let u = mid h w f apart a g id frame rest head gs at_gs in
      let is_data = data_only w.from_hosts g (Data id frame) rest f.host_items head in
      record {
        rest = kept_places w u gs.edge.0 (Comes gs.port frame) (Waiting id false) new turn refl refl;
        noticed = λ host attachment at_host at_attachment.
            frame_noticed h w f apart a g id frame rest head gs at_gs new turn host attachment at_host at_attachment is_data.kind
            (λ same. own_item host at_host (subst (λ (n : ℕ). items_at w.from_hosts n ≡ Data id frame ∷ rest) same head));
      }
    where
      own_item : (host : Host) → slice_get w.plan.hosts h ≡ Some host → items_at w.from_hosts h ≡ Data id frame ∷ rest → is_own (me_of host) frame ≡ true
      own_item host at_host here =
          let within : h < length w.from_hosts = filled_within w.from_hosts h (Data id frame) rest here in
          let view = exists_at w.hosts h (subst (λ n. h < n) f.many_from within) in
          (subst (λ (xs : List Item). AllByRecursion (IsOwnItem (me_of host)) xs) here (f.own h host view.0 at_host view.1).sends).0

  pub from_host : (g : ℕ) (items : List Item) (new : WorldView) → items_at w.from_hosts g ≡ items → DeliversFromHost Loose w g items new → Keeps h w new
  from_host g [] new is comes = absurd comes
  from_host g (item ∷ rest) new is comes = comes_in g item rest new is (slice_get w.attachments g) refl comes
