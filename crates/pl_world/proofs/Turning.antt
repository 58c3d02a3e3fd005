-- Each event is something that leaves the rest alone, and then at most one turn; a move and the links have cases of their own.
use Rattle.std.proofs.Common.{◌≡◌, ℕ, ◌+◌, false, List, [], Option, Some, None, set, slice_get, sym, subst}
use Rattle.pl_layouts.specs.declared.place.Place.{Place}
use Rattle.pl_pmac.specs.declared.pmac.Pmac.{Pmac}
use Rattle.pl_wiring.specs.declared.host.HostNo.{HostNo}
use Rattle.pl_wiring.specs.declared.label.SwitchNo.{SwitchNo}
use Rattle.pl_wiring.specs.declared.link.Link.{Link}
use Rattle.pl_wiring.specs.Index.{port_index}
use Rattle.pl_wiring.specs.LiveLinks.{LivePorts}
use Rattle.pl_journal.specs.declared.cause.Cause.TheVariants as cause
use Rattle.pl_journal.specs.declared.cause.Skip.{Skip}
use Rattle.pl_journal.specs.declared.entry.Entry.{Entry}
use Rattle.pl_journal.specs.declared.entry.Entry.TheVariants.{Arrived, Crossed, Dropped, LinkDown, LinkUp, Moved, Placed, Registered, Restarted, Skipped}
use Rattle.pl_node.specs.declared.messages.ToManager.{ToManager}
use Rattle.pl_node.specs.declared.messages.ToSwitch.{ToSwitch}
use Rattle.pl_node.specs.declared.reception.Reception.{Reception}
use Rattle.pl_node.specs.declared.reception.Reception.TheVariants.{Kept, NotMember}
use Rattle.pl_node.specs.HostInputs.{HostAnswer, HostInput, HostRule}
use Rattle.pl_node.specs.HostInputs.HostAnswer.{Nothing, Played, Received}
use Rattle.pl_node.specs.HostInputs.HostInput.{HasMoved, Receives}
use Rattle.pl_node.specs.HostViews.{HostView}
use Rattle.pl_node.specs.ManagerDuties.{ManagerRule}
use Rattle.pl_node.specs.ManagerViews.{ManagerView}
use Rattle.pl_node.specs.SwitchInputs.{SwitchInput, SwitchRule}
use Rattle.pl_node.specs.SwitchInputs.SwitchInput.{Comes, Says, Tick}
use Rattle.pl_node.specs.SwitchViews.{SwitchView}
use Rattle.pl_queues.specs.Queues.{put_at}
use Rattle.pl_world.specs.declared.event.Event.{Event}
use Rattle.pl_world.specs.declared.event.Event.TheVariants as event
use Rattle.pl_world.specs.declared.item.Item.{Item}
use Rattle.pl_world.specs.declared.item.Item.TheVariants.{Control, Data}
use Rattle.pl_world.specs.declared.spoken_frame.SpokenFrame.{SpokenFrame}
use Rattle.pl_world.specs.declared.spoken_frame.SpokenFrame.TheVariants.{Silent, Waiting}
use Rattle.pl_world.specs.declared.attachment.AttachmentPoint.{AttachmentPoint}
use Rattle.pl_world.specs.Changes.{host_no, noted, receiver, sent_by_host, switch_no}
use Rattle.pl_world.specs.LinksAndMoves.{host_moved, item_lost, link_between, link_failed, link_repaired}
use Rattle.pl_world.specs.Restarting.{in_epoch, manager_restarted}
use Rattle.pl_world.specs.OtherActs.{heard_after_tick, reception_noted, skip_noted}
use Rattle.pl_world.specs.WorldRule.{ComesAtHost, ComesAtSwitch, ComesOut, Happens, HostPlays, HostReceives, HostTurn, ManagerTurn, SwitchTurn, heard_item}
use Rattle.pl_world.specs.Worlds.{WorldView}
use Rattle.pl_world.proofs.Happenings.{Happened, happened}
use Rattle.pl_world.proofs.Happenings.Happened.{Asked, BeganAnew, Departed, Failed, FromHost, Lost, Ordered, OutOfPort, OverLink, PlayedFrame, Repaired, Reported, Ticked}
use Rattle.pl_world.proofs.Leaving.{SwitchesWrite, Takes, Writes, anew_left, empties_of, failed_left, host_acts_left, manager_acts_left, moved_left, repaired_left, switch_acts_left}

-- Something that R allows, and then a turn or nothing. A host moves and then turns; a link fails, or is repaired.
pub data Turned (R : WorldView → WorldView → Type 0) (switch : SwitchRule) (manager : ManagerRule) (host : HostRule) (w : WorldView) (e : Event)
    (new : WorldView) : Type 0 where
  NoTurn : R w new → Turned R switch manager host w e new
  OfSwitch : (mid : WorldView) (s : ℕ) (input : SwitchInput) (speech : SpokenFrame) → R w mid → SwitchTurn switch mid s input speech new →
      Turned R switch manager host w e new
  OfHost : (mid : WorldView) (h : ℕ) (input : HostInput) (answer : HostAnswer) → R w mid → HostTurn host mid h input answer new →
      Turned R switch manager host w e new
  OfManager : (mid : WorldView) (s : ℕ) (told : ToManager) → R w mid → ManagerTurn manager mid s told new → Turned R switch manager host w e new
  OfMoved : (h : HostNo) (s : SwitchNo) (port : ℕ) (from : AttachmentPoint) → e ≡ event.Move h s port → slice_get w.attachments h.0 ≡ Some from →
      HostTurn host (host_moved w h.0 from (record { edge = s; port = port })) h.0 HasMoved Nothing new → Turned R switch manager host w e new
  OfFailed : (a b : SwitchNo) (link : Link) → e ≡ event.Fail a b → link_between w.plan a.0 b.0 ≡ Some link → new ≡ link_failed w link →
      Turned R switch manager host w e new
  OfRepaired : (a b : SwitchNo) (link : Link) → e ≡ event.Repair a b → link_between w.plan a.0 b.0 ≡ Some link → new ≡ link_repaired w link →
      Turned R switch manager host w e new
  OfRestarted : e ≡ event.Restart → new ≡ manager_restarted w → Turned R switch manager host w e new

-- R holds, or behind a move, or it was a link, or the manager began anew
pub data Left (R : WorldView → WorldView → Type 0) (w : WorldView) (e : Event) (new : WorldView) : Type 0 where
  Stays : R w new → Left R w e new
  Moves : (h : HostNo) (s : SwitchNo) (port : ℕ) (from : AttachmentPoint) → e ≡ event.Move h s port → slice_get w.attachments h.0 ≡ Some from →
      R (host_moved w h.0 from (record { edge = s; port = port })) new → Left R w e new
  LinkFails : (a b : SwitchNo) (link : Link) → e ≡ event.Fail a b → link_between w.plan a.0 b.0 ≡ Some link → new ≡ link_failed w link → Left R w e new
  Repairs : (a b : SwitchNo) (link : Link) → e ≡ event.Repair a b → link_between w.plan a.0 b.0 ≡ Some link → new ≡ link_repaired w link → Left R w e new
  Restarts : e ≡ event.Restart → new ≡ manager_restarted w → Left R w e new

-- what turns put and write, and the views that they set
pub record Turns (R : WorldView → WorldView → Type 0) (May : Entry → Type 0) : Type 0 where
  pub switches_write : SwitchesWrite R May
  pub placed : (s : SwitchNo) (place : Place) → May (Placed s place)
  pub registered : (pmac : Pmac) (n : ℕ) → May (Registered pmac n)
  pub out : (w : WorldView) (i : ℕ) (item : Item) → R w (record w { out = put_at w.out i item })
  pub reports : (w : WorldView) (s : ℕ) (told : ToManager) → R w (record w { to_manager = put_at w.to_manager s told })
  pub sends : (w : WorldView) (h : ℕ) (frame : List ℕ) → R w (sent_by_host w h frame)
  pub orders : (w : WorldView) (s : ℕ) (says : ToSwitch) → R w (record w { from_manager = put_at w.from_manager s says })
  pub switches : (w : WorldView) (s : ℕ) (view : SwitchView) → R w (record w { switches = set w.switches s view })
  pub hosts : (w : WorldView) (h : ℕ) (view : HostView) → R w (record w { hosts = set w.hosts h view })
  pub manager : (w : WorldView) (view : ManagerView) → R w (record w { manager = view })

-- what moves, links and a manager that begins anew change and write
pub record MovesAndLinks (R : WorldView → WorldView → Type 0) (May : Entry → Type 0) : Type 0 where
  pub moved : (h : HostNo) (s : SwitchNo) (port : ℕ) → May (Moved h s port)
  pub down : (lower upper : SwitchNo) → May (LinkDown lower upper)
  pub up : (lower upper : SwitchNo) → May (LinkUp lower upper)
  pub attachments : (w : WorldView) (h : ℕ) (to : AttachmentPoint) → R w (record w { attachments = set w.attachments h to; heard = set w.heard h None })
  pub links : (w : WorldView) (links : LivePorts) → R w (record w { links = links })
  pub restarted : (n : ℕ) → May (Restarted n)
  pub anew : (w : WorldView) (epoch : ℕ) → R w (in_epoch w epoch)

module _ (R : WorldView → WorldView → Type 0) (May : Entry → Type 0) (writes : Writes R May) where
  -- ---- whole turns
  module _ (turns : Turns R May) where
    pub switch_left : (rule : SwitchRule) (w : WorldView) (s : ℕ) (input : SwitchInput) (speech : SpokenFrame) (new : WorldView) →
        SwitchTurn rule w s input speech new → R w new
    switch_left rule w s input speech new turn =
        writes.on w (record w { switches = set w.switches s turn.after }) new (turns.switches w s turn.after)
        (switch_acts_left R May writes turns.switches_write turns.out turns.reports s rule w input speech new (turns.placed (switch_no s)) turn)

    pub host_left : (rule : HostRule) (w : WorldView) (h : ℕ) (input : HostInput) (answer : HostAnswer) (new : WorldView) →
        HostTurn rule w h input answer new → R w new
    host_left rule w h input answer new turn =
        writes.on w (record w { hosts = set w.hosts h turn.after }) new (turns.hosts w h turn.after)
        (host_acts_left R May writes h (λ u frame. turns.sends u h frame) rule w input answer new turn)

    pub manager_left : (rule : ManagerRule) (w : WorldView) (s : ℕ) (told : ToManager) (new : WorldView) → ManagerTurn rule w s told new → R w new
    manager_left rule w s told new turn =
        writes.on w (record w { manager = turn.after }) new (turns.manager w turn.after)
        (manager_acts_left R May writes turns.registered turns.orders rule w s told new turn)

  -- ---- what comes before them
  pub heard_left : ((w : WorldView) (heard : List (Option ℕ)) → R w (record w { heard = heard })) → (w : WorldView) (h : ℕ) (item : Item) →
      R w (heard_item w h item)
  heard_left heard w h (Control frame) = writes.same w
  heard_left heard w h (Data id frame) = heard w _

  pub skip_left : ((h : HostNo) (skip : Skip) → May (Skipped h skip)) → (w : WorldView) (h : ℕ) (skip : Option Skip) → R w (skip_noted w h skip)
  skip_left skipped w h None = writes.same w
  skip_left skipped w h (Some skip) = writes.entry w (Skipped (host_no h) skip) (skipped (host_no h) skip)

  pub reception_left : ((id : ℕ) (h : HostNo) (frame : List ℕ) → May (Arrived id h frame)) →
      (w : WorldView) (h id : ℕ) (frame : List ℕ) (reception : Reception) →
      R w (reception_noted w h id frame reception)
  reception_left arrived w h id frame Kept = writes.entry w (Arrived id (host_no h) frame) (arrived id (host_no h) frame)
  reception_left arrived w h id frame NotMember = writes.entry w (Dropped id cause.NoMember) (writes.dropped id cause.NoMember)

  pub lost_left : (w : WorldView) (item : Item) → R w (item_lost w item)
  lost_left w (Control frame) = writes.same w
  lost_left w (Data id frame) = writes.entry w (Dropped id cause.Lost) (writes.dropped id cause.Lost)

  -- ---- turns with what comes just before them
  pub at_switch_left : (rule : SwitchRule) → ((id : ℕ) (s : SwitchNo) → May (Crossed id s)) →
      ((w : WorldView) (s : ℕ) (input : SwitchInput) (speech : SpokenFrame) (new : WorldView) → SwitchTurn rule w s input speech new → R w new) →
      (w : WorldView) (s port : ℕ) (item : Item) (new : WorldView) → ComesAtSwitch rule w s port item new → R w new
  at_switch_left rule crossed turns w s port (Control frame) new turn = turns w s (Comes port frame) Silent new turn
  at_switch_left rule crossed turns w s port (Data id frame) new turn =
      let said = noted w (Crossed id (switch_no s)) in
      writes.on w said new (writes.entry w (Crossed id (switch_no s)) (crossed id (switch_no s))) (turns said s (Comes port frame) (Waiting id false) new turn)

  module _ (rule : HostRule) (turns : (w : WorldView) (h : ℕ) (input : HostInput) (answer : HostAnswer)
      (new : WorldView) → HostTurn rule w h input answer new → R w new) where
    pub plays_left : ((h : HostNo) (skip : Skip) → May (Skipped h skip)) → (w : WorldView) (h : ℕ) (input : HostInput) (new : WorldView) →
        HostPlays rule w h input new → R w new
    plays_left skipped w h input new plays =
        writes.on w (skip_noted w h plays.skip) new (skip_left skipped w h plays.skip)
        (turns (skip_noted w h plays.skip) h input (Played plays.skip) new plays.turn)

    module _ (arrived : (id : ℕ) (h : HostNo) (frame : List ℕ) → May (Arrived id h frame)) where
      pub receives_left : (w : WorldView) (h id : ℕ) (frame : List ℕ) (new : WorldView) → HostReceives rule w h id frame new → R w new
      receives_left w h id frame new receives =
          let got = reception_noted w h id frame receives.reception in
          writes.on w got new (reception_left arrived w h id frame receives.reception)
          (turns got h (Receives frame) (Received receives.reception) new receives.turn)

      pub at_host_left : (w : WorldView) (id : ℕ) (frame : List ℕ) (to : Option ℕ) (new : WorldView) → ComesAtHost rule w id frame to new → R w new
      at_host_left w id frame None new is =
          subst (λ (x : WorldView). R w x) (sym is) (writes.entry w (Dropped id cause.HostGone) (writes.dropped id cause.HostGone))
      at_host_left w id frame (Some h) new receives = receives_left w h id frame new receives

      pub out_left : (w : WorldView) (s port : ℕ) (item : Item) (new : WorldView) → ComesOut rule w s port item new → R w new
      out_left w s port (Control frame) new is = subst (λ (x : WorldView). R w x) (sym is) (writes.same w)
      out_left w s port (Data id frame) new comes = at_host_left w id frame (receiver w s port frame) new comes

  -- ---- events
  module _ (takes : Takes R) (crossed : (id : ℕ) (s : SwitchNo) → May (Crossed id s))
      (arrived : (id : ℕ) (h : HostNo) (frame : List ℕ) → May (Arrived id h frame))
      (skipped : (h : HostNo) (skip : Skip) → May (Skipped h skip)) where
    module _ (switch : SwitchRule) (manager : ManagerRule) (host : HostRule) (w : WorldView) (e : Event) (new : WorldView) where
      abbrev This : Type 0
      This = Turned R switch manager host w e new

      still : (mid : WorldView) → R w mid → new ≡ mid → This
      still mid r is = NoTurn (subst (λ (x : WorldView). R w x) (sym is) r)

      at_switch : (mid : WorldView) (s port : ℕ) (item : Item) → R w mid → ComesAtSwitch switch mid s port item new → This
      at_switch mid s port (Control frame) r turn = OfSwitch mid s (Comes port frame) Silent r turn
      at_switch mid s port (Data id frame) r turn =
          let said = noted mid (Crossed id (switch_no s)) in
          OfSwitch said s (Comes port frame) (Waiting id false)
          (writes.on w mid said r (writes.entry mid (Crossed id (switch_no s)) (crossed id (switch_no s)))) turn

      at_host : (mid : WorldView) (id : ℕ) (frame : List ℕ) (to : Option ℕ) → R w mid → ComesAtHost host mid id frame to new → This
      at_host mid id frame None r is =
          still (noted mid (Dropped id cause.HostGone)) (writes.on w mid _ r
          (writes.entry mid (Dropped id cause.HostGone) (writes.dropped id cause.HostGone))) is
      at_host mid id frame (Some h) r receives =
          let got = reception_noted mid h id frame receives.reception in
          OfHost got h (Receives frame) (Received receives.reception)
          (writes.on w mid got r (reception_left arrived mid h id frame receives.reception)) receives.turn

      out_of_port : (mid : WorldView) (s port : ℕ) (item : Item) → R w mid → ComesOut host mid s port item new → This
      out_of_port mid s port (Control frame) r is = still mid r is
      out_of_port mid s port (Data id frame) r comes = at_host mid id frame (receiver mid s port frame) r comes

      by_case : Happened switch manager host w e new → This
      by_case (FromHost h item items attachment is head at comes) =
          let mid : WorldView = record w { from_hosts = set w.from_hosts h.0 items } in
          at_switch (heard_item mid h.0 item) attachment.edge.0 attachment.port item
          (writes.on w mid (heard_item mid h.0 item) (takes.from_hosts w h.0 items) (heard_left takes.heard mid h.0 item)) comes
      by_case (OverLink s port item items t q is head joined comes) =
          at_switch (record w { out = set w.out (port_index w.plan.k s.0 port) items }) t.0 q item (takes.out w (port_index w.plan.k s.0 port) items) comes
      by_case (OutOfPort s port item items is head joined comes) =
          out_of_port (record w { out = set w.out (port_index w.plan.k s.0 port) items }) s.0 port item (takes.out w (port_index w.plan.k s.0 port) items) comes
      by_case (Reported s told items is head turn) =
          OfManager (record w { to_manager = set w.to_manager s.0 items }) s.0 told (takes.to_manager w s.0 items) turn
      by_case (Ordered s says items is head turn) =
          OfSwitch (record w { from_manager = set w.from_manager s.0 items }) s.0 (Says says) Silent (takes.from_manager w s.0 items) turn
      by_case (Ticked s is turn) =
          OfSwitch (record w { heard = heard_after_tick s.0 w.attachments w.heard }) s.0 Tick Silent (takes.heard w (heard_after_tick s.0 w.attachments w.heard)) turn
      by_case (Failed a b link is found fails) = OfFailed a b link is found fails
      by_case (Repaired a b link is found repairs) = OfRepaired a b link is found repairs
      by_case (Lost s port item items is head loses) =
          let mid : WorldView = record w { out = set w.out (port_index w.plan.k s.0 port) items } in
          still (item_lost mid item) (writes.on w mid (item_lost mid item) (takes.out w (port_index w.plan.k s.0 port) items) (lost_left mid item)) loses
      by_case (Departed h s port from is at turn) = OfMoved h s port from is at turn
      by_case (PlayedFrame h input skip is turn) = OfHost (skip_noted w h.0 skip) h.0 input (Played skip) (skip_left skipped w h.0 skip) turn
      by_case (Asked h input is turn) = OfHost w h.0 input Nothing (writes.same w) turn
      by_case (BeganAnew is restarts) = OfRestarted is restarts

      pub turned : Happens switch manager host w e new → This
      turned does = by_case (happened switch manager host w e new does)

      -- ---- whole events
      module _ (turns : Turns R May) where
        left_of : This → Left R w e new
        left_of (NoTurn r) = Stays r
        left_of (OfSwitch mid s input speech r turn) = Stays (writes.on w mid new r (switch_left turns switch mid s input speech new turn))
        left_of (OfHost mid h input answer r turn) = Stays (writes.on w mid new r (host_left turns host mid h input answer new turn))
        left_of (OfManager mid s told r turn) = Stays (writes.on w mid new r (manager_left turns manager mid s told new turn))
        left_of (OfMoved h s port from is at turn) =
            Moves h s port from is at (host_left turns host (host_moved w h.0 from (record { edge = s; port = port })) h.0 HasMoved Nothing new turn)
        left_of (OfFailed a b link is found fails) = LinkFails a b link is found fails
        left_of (OfRepaired a b link is found repairs) = Repairs a b link is found repairs
        left_of (OfRestarted is restarts) = Restarts is restarts

        -- but for moves, links and a manager that begins anew
        pub event_left_but : Happens switch manager host w e new → Left R w e new
        event_left_but does = left_of (turned does)

        module _ (rest : MovesAndLinks R May) where
          all_left : Left R w e new → R w new
          all_left (Stays r) = r
          all_left (Moves h s port from is at r) =
              let to : AttachmentPoint = record { edge = s; port = port } in
              writes.on w (host_moved w h.0 from to) new
              (moved_left R May writes (empties_of R takes) w h.0 from to (rest.moved (host_no h.0) s port) (λ u. rest.attachments u h.0 to)) r
          all_left (LinkFails a b link is found fails) =
              subst (λ (x : WorldView). R w x) (sym fails) (failed_left R May writes (λ u i. takes.out u i []) w link
              (rest.down link.lower link.upper) rest.links)
          all_left (Repairs a b link is found repairs) =
              subst (λ (x : WorldView). R w x) (sym repairs) (repaired_left R May writes w link (rest.up link.lower link.upper) rest.links)
          all_left (Restarts is restarts) =
              subst (λ (x : WorldView). R w x) (sym restarts) (anew_left R May writes w (rest.restarted (w.manager.epoch + 1)) rest.anew)

          -- over each event
          pub event_left : Happens switch manager host w e new → R w new
          event_left does = all_left (event_left_but does)
