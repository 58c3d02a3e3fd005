-- What each event does to the frames behind ports, and to what was received of hosts.
use Rattle.std.proofs.Common.{◌≡◌, ◌≤◌, ◌+◌, ℕ, ◌&&◌, Bool, true, false, true≢false, if◌then◌else◌, List, [], ◌∷◌, reverse, set, slice_get, Some, is_some, refl, sym, ap, ◌∙◌, subst, arith, inl, nat_le, eq-eqb, leb-true}
use Rattle.std.specs.List.{AllByRecursion}
use Rattle.std.proofs.lemmas.Bool.{and_parts}
use Rattle.pl_pmac.specs.declared.pmac.Pmac.{Pmac}
use Rattle.pl_wiring.specs.declared.host.HostNo.{HostNo}
use Rattle.pl_wiring.specs.declared.label.SwitchNo.{SwitchNo}
use Rattle.pl_wiring.specs.Index.{port_index}
use Rattle.pl_node.specs.HostInputs.{HostAnswer, HostInput, HostRule}
use Rattle.pl_node.specs.ManagerDuties.{ManagerRule}
use Rattle.pl_node.specs.SwitchInputs.{SwitchInput, SwitchRule}
use Rattle.pl_node.specs.SwitchInputs.SwitchInput.{Comes, Says, Tick}
use Rattle.pl_journal.specs.declared.cause.Skip.{Skip}
use Rattle.pl_journal.specs.declared.entry.Entry.{Entry}
use Rattle.pl_journal.specs.declared.entry.Entry.TheVariants.{Arrived, Copied, Crossed, Dropped, Freed, Granted, Line, LinkDown, LinkUp, Made, Moved, Placed, Redirected, Registered, Restarted, Sent, Settled, Skipped, Taken, Unsettled}
use Rattle.pl_journal.specs.Flights.{is_empty, sender, trail}
use Rattle.pl_queues.specs.Queues.{items_at}
use Rattle.pl_world.specs.declared.event.Event.{Event}
use Rattle.pl_world.specs.declared.event.Event.TheVariants as event
use Rattle.pl_world.specs.declared.event.QueueName.TheVariants as queue
use Rattle.pl_world.specs.declared.item.Item.{Item}
use Rattle.pl_world.specs.declared.item.Item.TheVariants.{Control, Data}
use Rattle.pl_world.specs.declared.spoken_frame.SpokenFrame.{SpokenFrame}
use Rattle.pl_world.specs.declared.spoken_frame.SpokenFrame.TheVariants.{Silent, Waiting}
use Rattle.pl_world.specs.declared.attachment.AttachmentPoint.{AttachmentPoint}
use Rattle.pl_world.specs.Changes.{host_no, noted, out_of, switch_no}
use Rattle.pl_world.specs.LinksAndMoves.{host_moved}
use Rattle.pl_world.specs.OtherActs.{heard_after_tick, skip_noted}
use Rattle.pl_world.specs.Runs.{IsMark}
use Rattle.pl_world.specs.WorldRule.{ComesAtSwitch, HostTurn, SwitchTurn, WorldStep, heard_item}
use Rattle.pl_world.specs.Worlds.{WorldView}
use Rattle.pl_world.proofs.Exports.{all_at, anew_left, failed_left, Happened, happened, host_acts_left, lost_left, manager_acts_left, moved_left, one, out_left, repaired_left, skip_left, times_in-data, times_in_all-set, within_queue, Writes}
use Rattle.pl_world.proofs.Exports.Happened.{Asked, BeganAnew, Departed, Failed, FromHost, Lost, Ordered, OutOfPort, OverLink, PlayedFrame, Repaired, Reported, Ticked}
use Rattle.pl_world.specs.Flying.{IsCounted, born, times_in}
use Rattle.pl_law_placing.specs.Receiving.{HasCrossed, HaveCrossed, ItemHasCrossed, comes_from_host}
use Rattle.pl_law_placing.proofs.Crossing.{GoesIn, HasLeft, IsStill, goes_entry, goes_noted, goes_on, goes_sent, goes_set, one_more, stepped_goes, still_dropped}

still_arrived : (id h : ℕ) (frame : List ℕ) → IsStill (Arrived id (host_no h) frame)
still_arrived id h frame = record { same_trail = λ past x. refl; same_sender = λ past x. refl; same_received = λ past x. refl }

still_skipped : (h : ℕ) (skip : Skip) → IsStill (Skipped (host_no h) skip)
still_skipped h skip = record { same_trail = λ past x. refl; same_sender = λ past x. refl; same_received = λ past x. refl }

still_registered : (pmac : Pmac) (n : ℕ) → IsStill (Registered pmac n)
still_registered pmac n = record { same_trail = λ past x. refl; same_sender = λ past x. refl; same_received = λ past x. refl }

still_down : (a b : SwitchNo) → IsStill (LinkDown a b)
still_down a b = record { same_trail = λ past x. refl; same_sender = λ past x. refl; same_received = λ past x. refl }

still_up : (a b : SwitchNo) → IsStill (LinkUp a b)
still_up a b = record { same_trail = λ past x. refl; same_sender = λ past x. refl; same_received = λ past x. refl }

still_restarted : (n : ℕ) → IsStill (Restarted n)
still_restarted n = record { same_trail = λ past x. refl; same_sender = λ past x. refl; same_received = λ past x. refl }

still_moved : (h : HostNo) (s : SwitchNo) (port : ℕ) → IsStill (Moved h s port)
still_moved h s port = record { same_trail = λ past x. refl; same_sender = λ past x. refl; same_received = λ past x. refl }

-- the event lets a frame of a host come at this switch
abbrev pub HostComesAt : WorldView → Event → ℕ → Type 0
HostComesAt w (event.Deliver (queue.FromHost h)) s = (attachment : AttachmentPoint) × (slice_get w.attachments h.0 ≡ Some attachment) × (attachment.edge.0 ≡ s)
HostComesAt w happens s = ⊥

module _ (old : List Entry) (may : ℕ → Type 0) where
  abbrev GoesOn : WorldView → Type 0
  GoesOn w = GoesIn old may w

  abbrev Keeps : WorldView → WorldView → Type 0
  Keeps a b = GoesOn a → GoesOn b

  keeps_writes : Writes Keeps IsStill
  keeps_writes = record { same = λ w g. g; on = λ a b c one next g. next (one g); entry = λ w e is g. goes_entry old may w e is g; dropped = still_dropped }

  empties_out : (w : WorldView) (i : ℕ) → Keeps w (record w { out = set w.out i [] })
  empties_out w i g = goes_set old may (reverse w.journal) w.out w.begun i [] tt g

  turn_goes : (rule : HostRule) (w : WorldView) (h : ℕ) (input : HostInput) (answer : HostAnswer) (new : WorldView) → HostTurn rule w h input answer new →
      Keeps w new
  turn_goes rule w h input answer new turn g =
      host_acts_left Keeps IsStill keeps_writes h
      (λ u frame on. goes_noted old may u.journal (Sent (u.begun + 1) (host_no h) frame) u.out (u.begun + 1)
      (goes_sent old may (reverse u.journal) u.out u.begun (host_no h) frame on))
      rule w input answer new turn g

  -- a switch steps
  switch_goes : (rule : SwitchRule) (w : WorldView) (s : ℕ) (input : SwitchInput) (speech : SpokenFrame) (new : WorldView) →
      HasLeft old may (reverse w.journal) w.begun speech → SwitchTurn rule w s input speech new → GoesOn w → GoesOn new
  switch_goes rule w s input speech new said turn g =
      subst GoesOn (sym turn.changed) (stepped_goes old may w s turn.before turn.after speech turn.acts said g)

  -- a frame of a number that was given comes at a switch, and that may receive it
  frame_goes : (rule : SwitchRule) (w : WorldView) (s port id : ℕ) (frame : List ℕ) (new : WorldView) → id ≤ w.begun →
      (comes_from_host (reverse w.journal) id ≡ true → may s) → ComesAtSwitch rule w s port (Data id frame) new → GoesOn w → GoesOn new
  frame_goes rule w s port id frame new begun allowed turn g =
      let e = Crossed id (switch_no s) in
      let past = reverse w.journal in
      let on = goes_noted old may w.journal e w.out w.begun (goes_on old may past w.out w.begun id (switch_no s) allowed g) in
      switch_goes rule (noted w e) s (Comes port frame) (Waiting id false) new
      (subst (λ p. HasCrossed p w.begun id) (sym (one_more old may w.journal e)) (record {
        begun = begun;
        some = ap (λ b. is_empty (if b then s ∷ trail past id else trail past id)) (eq-eqb id id refl);
      })) turn on

  -- the first item of a queue is taken
  behind : (w : WorldView) (s port : ℕ) (item : Item) (items : List Item) → out_of w s port ≡ item ∷ items → GoesOn w →
      ItemHasCrossed (reverse w.journal) w.begun item × GoesOn (record w { out = set w.out (port_index w.plan.k s port) items })
  behind w s port item items found g =
      let at = port_index w.plan.k s port in
      let all : AllByRecursion (ItemHasCrossed (reverse w.journal) w.begun) (item ∷ items) =
      subst (AllByRecursion (ItemHasCrossed (reverse w.journal) w.begun)) found
      (all_at (AllByRecursion (ItemHasCrossed (reverse w.journal) w.begun)) w.out at [] tt g.crossed.items) in
      (all.0, goes_set old may (reverse w.journal) w.out w.begun at items all.1 g)

  module _ (switch : SwitchRule) (manager : ManagerRule) (host : HostRule) (w : WorldView) (happens : Event) (new : WorldView)
      (numbers : (h id : ℕ) (frame : List ℕ) (items : List Item) → items_at w.from_hosts h ≡ Data id frame ∷ items → id ≤ w.begun)
      (allowed : (s : ℕ) → HostComesAt w happens s → may s) (g : GoesOn w) where
    -- a frame of a host comes where the host stands
    entered : (h : HostNo) (item : Item) (items : List Item) (attachment : AttachmentPoint) → items_at w.from_hosts h.0 ≡ item ∷ items → may attachment.edge.0 →
        ComesAtSwitch switch (heard_item (record w { from_hosts = set w.from_hosts h.0 items }) h.0 item) attachment.edge.0 attachment.port item new → GoesOn new
    entered h (Control frame) items attachment head at comes =
        switch_goes switch (record w { from_hosts = set w.from_hosts h.0 items }) attachment.edge.0 (Comes attachment.port frame) Silent new tt comes g
    entered h (Data id frame) items attachment head at comes =
        frame_goes switch (heard_item (record w { from_hosts = set w.from_hosts h.0 items }) h.0 (Data id frame)) attachment.edge.0 attachment.port id frame new
        (numbers h.0 id frame items head) (λ first. at) comes g

    over_goes : (mid : WorldView) (t q : ℕ) (item : Item) → ItemHasCrossed (reverse mid.journal) mid.begun item → ComesAtSwitch switch mid t q item new →
        GoesOn mid → GoesOn new
    over_goes mid t q (Control frame) has comes on = switch_goes switch mid t (Comes q frame) Silent new tt comes on
    over_goes mid t q (Data id frame) has comes on =
        frame_goes switch mid t q id frame new has.begun
        (λ first. absurd (true≢false (sym (and_parts (is_some (sender (reverse mid.journal) id))
        (is_empty (trail (reverse mid.journal) id)) first).1 ∙ has.some))) comes on

    by_case : Happened switch manager host w happens new → GoesOn new
    by_case (FromHost h item items attachment is head at comes) =
        entered h item items attachment head (allowed attachment.edge.0 (subst (λ e. HostComesAt w e attachment.edge.0) (sym is) (attachment, at, refl))) comes
    by_case (OverLink s port item items t q is head adjacent comes) =
        let rest = behind w s.0 port item items head g in over_goes
        (record w { out = set w.out (port_index w.plan.k s.0 port) items }) t.0 q item rest.0 comes rest.1
    by_case (OutOfPort s port item items is head adjacent comes) =
        out_left Keeps IsStill keeps_writes host (turn_goes host) (λ id h frame. still_arrived id h.0 frame)
        (record w { out = set w.out (port_index w.plan.k s.0 port) items }) s.0 port item new comes
        (behind w s.0 port item items head g).1
    by_case (Reported s told items is head turn) =
        manager_acts_left Keeps IsStill keeps_writes still_registered (λ u t says on. on) manager
        (record w { to_manager = set w.to_manager s.0 items }) s.0 told new turn g
    by_case (Ordered s says items is head turn) =
        switch_goes switch (record w { from_manager = set w.from_manager s.0 items }) s.0 (Says says) Silent new tt turn g
    by_case (Ticked s is turn) = switch_goes switch (record w { heard = heard_after_tick s.0 w.attachments w.heard }) s.0 Tick Silent new tt turn g
    by_case (Failed a b link is found fails) =
        subst GoesOn (sym fails) (failed_left Keeps IsStill keeps_writes empties_out w link (still_down link.lower link.upper) (λ u links on. on) g)
    by_case (Repaired a b link is found repairs) =
        subst GoesOn (sym repairs) (repaired_left Keeps IsStill keeps_writes w link (still_up link.lower link.upper) (λ u links on. on) g)
    by_case (Lost s port item items is head loses) =
        subst GoesOn (sym loses) (lost_left Keeps IsStill keeps_writes (record w { out = set w.out (port_index w.plan.k s.0 port) items }) item
        (behind w s.0 port item items head g).1)
    by_case (Departed h s port from is at turn) =
        let to : AttachmentPoint = record { edge = s; port = port } in
        turn_goes host (host_moved w h.0 from to) h.0 _ _ new turn
        (moved_left Keeps IsStill keeps_writes (record { from_hosts = λ u n on. on; out = empties_out }) w h.0 from to (still_moved (host_no h.0) s port)
        (λ u on. on) g)
    by_case (PlayedFrame h input skip is turn) =
        turn_goes host (skip_noted w h.0 skip) h.0 _ _ new turn (skip_left Keeps IsStill keeps_writes (λ n why. still_skipped n.0 why) w h.0 skip g)
    by_case (Asked h input is turn) = turn_goes host w h.0 _ _ new turn g
    by_case (BeganAnew is anew) =
        subst GoesOn (sym anew) (anew_left Keeps IsStill keeps_writes w (still_restarted (w.manager.epoch + 1)) (λ u n on. on) g)

-- A frame that waits at a host has a number that was given.
given : (id many : ℕ) → 1 ≤ born id many → id ≤ many
given id many some = by (nat_le 1 id && nat_le id many) refl some
  where
    by : (b : Bool) → (nat_le 1 id && nat_le id many) ≡ b → 1 ≤ (if b then 1 else 0) → id ≤ many
    by true is some = leb-true id many (and_parts (nat_le 1 id) (nat_le id many) is).1
    by false is some = absurd (omega (arith, some))

pub number_given : (w : WorldView) → IsCounted w → (h id : ℕ) (frame : List ℕ) (items : List Item) → items_at w.from_hosts h ≡ Data id frame ∷ items → id ≤ w.begun
number_given w is h id frame items found =
    let within = within_queue w.from_hosts h (Data id frame) items found in
    let set_out = times_in_all-set id w.from_hosts h [] within in
    let head : times_in id (items_at w.from_hosts h) ≡ one id id + times_in id items = ap (times_in id) found ∙ times_in-data id id frame items in
    let itself : one id id ≡ 1 = ap (λ b. if b then 1 else 0) (eq-eqb id id refl) in
    let all = is.flights id in
    given id w.begun (omega (arith, set_out, head, itself, all))

module _ (switch : SwitchRule) (manager : ManagerRule) (host : HostRule) where
  -- a step: only the switch where the sender stands of a frame that comes from a host receives one
  pub step_goes : (w : WorldView) (happens : Event) (new : WorldView) → IsCounted w → HaveCrossed (reverse w.journal) w.out w.begun →
      WorldStep switch manager host w happens new → GoesIn (reverse w.journal) (HostComesAt w happens) new
  step_goes w happens new is crossed step =
      let stepped : WorldView = record w { steps = w.steps + 1 } in
      by_case (reverse w.journal) (HostComesAt w happens) switch manager host stepped happens new (number_given w is) (λ s at. same happens s at)
      (record { crossed = crossed; received = λ s h. inl h }) (happened switch manager host stepped happens new step)
    where
      same : (happens : Event) (s : ℕ) → HostComesAt (record w { steps = w.steps + 1 }) happens s → HostComesAt w happens s
      same (event.Deliver (queue.FromHost h)) s at = at
      same happens s at = at

-- what a script writes of itself
still_mark : (e : Entry) → IsMark e → IsStill e
still_mark (Line n) is = record { same_trail = λ past x. refl; same_sender = λ past x. refl; same_received = λ past x. refl }
still_mark (Settled n) is = record { same_trail = λ past x. refl; same_sender = λ past x. refl; same_received = λ past x. refl }
still_mark (Unsettled n) is = record { same_trail = λ past x. refl; same_sender = λ past x. refl; same_received = λ past x. refl }
still_mark (Sent id h frame) is = absurd is
still_mark (Skipped h skip) is = absurd is
still_mark (Made id s frame) is = absurd is
still_mark (Crossed id s) is = absurd is
still_mark (Redirected id x y) is = absurd is
still_mark (Copied id copy) is = absurd is
still_mark (Arrived id h frame) is = absurd is
still_mark (Taken id s) is = absurd is
still_mark (Dropped id c) is = absurd is
still_mark (Granted x h s port) is = absurd is
still_mark (Registered x n) is = absurd is
still_mark (Freed x) is = absurd is
still_mark (Placed s place) is = absurd is
still_mark (LinkDown a b) is = absurd is
still_mark (LinkUp a b) is = absurd is
still_mark (Moved h s port) is = absurd is
still_mark (Restarted number) is = absurd is

pub marked_goes : (w : WorldView) (e : Entry) → IsMark e → HaveCrossed (reverse w.journal) w.out w.begun → GoesIn (reverse w.journal) (λ s. ⊥) (noted w e)
marked_goes w e is crossed = goes_entry (reverse w.journal) (λ s. ⊥) w e (still_mark e is) (record { crossed = crossed; received = λ s h. inl h })
