-- What holds over each small change of a world, over nothing and over one thing behind another, holds over the acts of each turn, over all that comes
-- before a turn, and over each event.
use Rattle.std.proofs.Common.{◌≡◌, ℕ, ◌+◌, Bool, true, false, if◌then◌else◌, List, [], ◌∷◌, ◌++◌, fold, Option, Some, None, set, sym, ap, subst, append-nil, append_assoc}
use Rattle.std.specs.List.{AllByRecursion, position}
use Rattle.pl_layouts.specs.Equality.{same_switch}
use Rattle.pl_layouts.specs.declared.place.Place.{Place}
use Rattle.pl_layouts.specs.Placement.{same_place}
use Rattle.pl_pmac.specs.declared.pmac.Pmac.{Pmac}
use Rattle.pl_wiring.specs.declared.host.HostNo.{HostNo}
use Rattle.pl_wiring.specs.declared.label.SwitchNo.{SwitchNo}
use Rattle.pl_wiring.specs.declared.link.Link.{Link}
use Rattle.pl_wiring.specs.Index.{port_index}
use Rattle.pl_wiring.specs.LiveLinks.{LivePorts}
use Rattle.pl_journal.specs.declared.cause.Cause.{Cause}
use Rattle.pl_journal.specs.declared.cause.Cause.TheVariants as cause
use Rattle.pl_journal.specs.declared.entry.Entry.{Entry}
use Rattle.pl_journal.specs.declared.entry.Entry.TheVariants.{Copied, Crossed, Dropped, Freed, Granted, LinkDown, LinkUp, Made, Moved, Placed, Redirected, Registered, Restarted, Taken}
use Rattle.pl_node.specs.declared.acts.Act.{Act}
use Rattle.pl_node.specs.declared.acts.Act.TheVariants as act
use Rattle.pl_node.specs.declared.acts.HostAct.{HostAct}
use Rattle.pl_node.specs.declared.acts.HostAct.TheVariants.{Send}
use Rattle.pl_node.specs.declared.acts.ManagerAct.{ManagerAct}
use Rattle.pl_node.specs.declared.acts.ManagerAct.TheVariants.{Number, Say}
use Rattle.pl_node.specs.declared.messages.ToManager.{ToManager}
use Rattle.pl_node.specs.declared.messages.ToSwitch.{ToSwitch}
use Rattle.pl_node.specs.HostInputs.{HostAnswer, HostInput, HostRule}
use Rattle.pl_node.specs.ManagerDuties.{ManagerRule}
use Rattle.pl_node.specs.SwitchInputs.{SwitchInput, SwitchRule}
use Rattle.pl_queues.specs.Queues.{items_at, put_at}
use Rattle.pl_world.specs.declared.item.Item.{Item}
use Rattle.pl_world.specs.declared.item.Item.TheVariants.{Control, Data}
use Rattle.pl_world.specs.declared.spoken_frame.SpokenFrame.{SpokenFrame}
use Rattle.pl_world.specs.declared.spoken_frame.SpokenFrame.TheVariants.{Over, Passed, Silent, Waiting}
use Rattle.pl_world.specs.declared.attachment.AttachmentPoint.{AttachmentPoint}
use Rattle.pl_world.specs.Changes.{all_noted, begun_by, emptied_from_host, emptied_out, ends_of, host_no, host_of, is_failed_at, noted, said_to, sent_by_host, switch_no}
use Rattle.pl_world.specs.LinksAndMoves.{host_moved, link_failed, link_repaired, with_link}
use Rattle.pl_world.specs.OtherActs.{host_act_done, manager_act_done}
use Rattle.pl_world.specs.SwitchActs.{DuringActs, act_done, acts_done, begins, crossed_again, goes_out, granted, made, place_noted, with_late}
use Rattle.pl_world.specs.Restarting.{in_epoch, manager_restarted}
use Rattle.pl_world.specs.WorldRule.{HostTurn, ManagerTurn, SwitchTurn}
use Rattle.pl_world.specs.Worlds.{WorldView}

-- what holds over nothing and over one thing behind another, and over each entry that says what it may
pub record Writes (R : WorldView → WorldView → Type 0) (May : Entry → Type 0) : Type 0 where
  pub same : (w : WorldView) → R w w
  pub on : (a b c : WorldView) → R a b → R b c → R a c
  pub entry : (w : WorldView) (e : Entry) → May e → R w (noted w e)
  pub dropped : (id : ℕ) (cause : Cause) → May (Dropped id cause)

-- what the acts of a switch write besides, and with what a frame begins
pub record SwitchesWrite (R : WorldView → WorldView → Type 0) (May : Entry → Type 0) : Type 0 where
  pub begun : (w : WorldView) (e : Entry) → May e → R w (begun_by w e)
  pub crossed : (id : ℕ) (s : SwitchNo) → May (Crossed id s)
  pub copied : (id copy : ℕ) → May (Copied id copy)
  pub made : (id : ℕ) (s : SwitchNo) (frame : List ℕ) → May (Made id s frame)
  pub granted : (pmac : Pmac) (h : HostNo) (s : SwitchNo) (port : ℕ) → May (Granted pmac h s port)
  pub freed : (pmac : Pmac) → May (Freed pmac)
  pub redirected : (id : ℕ) (old new : Pmac) → May (Redirected id old new)
  pub taken : (id : ℕ) (s : SwitchNo) → May (Taken id s)

-- a queue is emptied
pub record Empties (R : WorldView → WorldView → Type 0) : Type 0 where
  pub from_hosts : (w : WorldView) (h : ℕ) → R w (record w { from_hosts = set w.from_hosts h [] })
  pub out : (w : WorldView) (i : ℕ) → R w (record w { out = set w.out i [] })

-- a head is taken from a queue, or it is noted who was heard
pub record Takes (R : WorldView → WorldView → Type 0) : Type 0 where
  pub from_hosts : (w : WorldView) (h : ℕ) (items : List Item) → R w (record w { from_hosts = set w.from_hosts h items })
  pub out : (w : WorldView) (i : ℕ) (items : List Item) → R w (record w { out = set w.out i items })
  pub to_manager : (w : WorldView) (s : ℕ) (items : List ToManager) → R w (record w { to_manager = set w.to_manager s items })
  pub from_manager : (w : WorldView) (s : ℕ) (items : List ToSwitch) → R w (record w { from_manager = set w.from_manager s items })
  pub heard : (w : WorldView) (heard : List (Option ℕ)) → R w (record w { heard = heard })

pub empties_of : (R : WorldView → WorldView → Type 0) → Takes R → Empties R
empties_of R takes = record { from_hosts = λ w h. takes.from_hosts w h []; out = λ w i. takes.out w i [] }

module _ (R : WorldView → WorldView → Type 0) (May : Entry → Type 0) (writes : Writes R May) where
  then_is : (a b c : WorldView) → c ≡ b → R a b → R a c
  then_is a b c is r = subst (λ (x : WorldView). R a x) (sym is) r

  -- ---- entries
  pub entries_left : (w : WorldView) (entries : List Entry) → AllByRecursion May entries → R w (all_noted w entries)
  entries_left w [] all = then_is w w (all_noted w []) (ap (λ (j : List Entry). record w { journal = j }) (append-nil w.journal)) (writes.same w)
  entries_left w (e ∷ entries) all =
      then_is w (all_noted (noted w e) entries) (all_noted w (e ∷ entries))
      (ap (λ (j : List Entry). record w { journal = j }) (sym (append_assoc w.journal (e ∷ []) entries)))
      (writes.on w (noted w e) (all_noted (noted w e) entries) (writes.entry w e all.0) (entries_left (noted w e) entries all.1))

  ends_may : (cause : Cause) (items : List Item) → AllByRecursion May (ends_of cause items)
  ends_may cause [] = tt
  ends_may cause (Control frame ∷ items) = ends_may cause items
  ends_may cause (Data id frame ∷ items) = (writes.dropped id cause, ends_may cause items)

  one_more_may : (entries : List Entry) (e : Entry) → AllByRecursion May entries → May e → AllByRecursion May (entries ++ e ∷ [])
  one_more_may [] e all may = (may, tt)
  one_more_may (x ∷ entries) e all may = (all.0, one_more_may entries e all.1 may)

  -- ---- the acts of a switch
  -- a world amid the acts, behind another, and what is to be written of it yet
  pub record Amid (w : WorldView) (d : DuringActs) : Type 0 where
    pub left : R w d.world
    pub late : AllByRecursion May d.late

  module _ (say : SwitchesWrite R May) (out : (w : WorldView) (i : ℕ) (item : Item) → R w (record w { out = put_at w.out i item }))
      (reports : (w : WorldView) (s : ℕ) (told : ToManager) → R w (record w { to_manager = put_at w.to_manager s told })) (s : ℕ) where
    again_left : (w : WorldView) (id : ℕ) (again : Bool) → R w (crossed_again w s id again)
    again_left w id true = entries_left w (Crossed id (switch_no s) ∷ []) (say.crossed id (switch_no s), tt)
    again_left w id false = entries_left w [] tt

    put_left : (w : WorldView) (port : ℕ) (item : Item) (b : Bool) →
        R w (record w { out = if b then w.out else put_at w.out (port_index w.plan.k s port) item })
    put_left w port item true = writes.same w
    put_left w port item false = out w (port_index w.plan.k s port) item

    late_may : (late : List Entry) (id : ℕ) (b : Bool) → AllByRecursion May late →
        AllByRecursion May (if b then late ++ Dropped id cause.LinkDown ∷ [] else late)
    late_may late id true all = one_more_may late (Dropped id cause.LinkDown) all (writes.dropped id cause.LinkDown)
    late_may late id false all = all

    grant_left : (w : WorldView) (pmac : Pmac) (h : Option ℕ) → R w (granted w s pmac h)
    grant_left w pmac None = writes.same w
    grant_left w pmac (Some h) = writes.entry w (Granted pmac (host_no h) (switch_no s) pmac.port) (say.granted pmac (host_no h) (switch_no s) pmac.port)

    goes_out_left : (d : DuringActs) (id port : ℕ) (frame : List ℕ) → AllByRecursion May d.late → Amid d.world (goes_out s d id port frame)
    goes_out_left d id port frame all = record {
      left = put_left d.world port (Data id frame) (is_failed_at d.world s port);
      late = late_may d.late id (is_failed_at d.world s port) all;
    }

    behind : (a b : WorldView) (d : DuringActs) → R a b → Amid b d → Amid a d
    behind a b d r amid = record { left = writes.on a b d.world r amid.left; late = amid.late }

    passed_left : (w : WorldView) (late : List Entry) (port : ℕ) (frame : List ℕ) (speech : SpokenFrame) → AllByRecursion May late →
        Amid w (act_done s (record { world = w; speech = speech; late = late }) (act.Pass port frame))
    passed_left w late port frame Silent all = record { left = writes.same w; late = all }
    passed_left w late port frame (Waiting id again) all =
        let mid = crossed_again w s id again in
        behind w mid (goes_out s (record { world = mid; speech = Waiting id again; late = late }) id port frame) (again_left w id again)
        (goes_out_left (record { world = mid; speech = Waiting id again; late = late }) id port frame all)
    passed_left w late port frame (Passed id) all =
        let mid = begun_by w (Copied id (w.begun + 1)) in
        let amid = goes_out_left (record { world = mid; speech = Passed id; late = late }) (w.begun + 1) port frame all in
        let first = say.begun w (Copied id (w.begun + 1)) (say.copied id (w.begun + 1)) in
        record { left = writes.on w mid _ first amid.left; late = amid.late }
    passed_left w late port frame Over all = record { left = writes.same w; late = all }

    redirected_left : (w : WorldView) (late : List Entry) (old new : Pmac) (speech : SpokenFrame) → AllByRecursion May late →
        Amid w (act_done s (record { world = w; speech = speech; late = late }) (act.Redirect old new))
    redirected_left w late old new Silent all = record { left = writes.same w; late = all }
    redirected_left w late old new (Waiting id again) all =
        record { left = writes.entry w (Redirected id old new) (say.redirected id old new); late = all }
    redirected_left w late old new (Passed id) all = record { left = writes.same w; late = all }
    redirected_left w late old new Over all = record { left = writes.same w; late = all }

    ended_left : (w : WorldView) (id : ℕ) (again : Bool) (e : Entry) → May e → R w (noted (crossed_again w s id again) e)
    ended_left w id again e may =
        let mid = crossed_again w s id again in writes.on w mid (noted mid e) (again_left w id again) (writes.entry mid e may)

    taken_left : (w : WorldView) (late : List Entry) (speech : SpokenFrame) → AllByRecursion May late →
        Amid w (act_done s (record { world = w; speech = speech; late = late }) act.Take)
    taken_left w late Silent all = record { left = writes.same w; late = all }
    taken_left w late (Waiting id again) all = record { left = ended_left w id again (Taken id (switch_no s)) (say.taken id (switch_no s)); late = all }
    taken_left w late (Passed id) all = record { left = writes.same w; late = all }
    taken_left w late Over all = record { left = writes.same w; late = all }

    dropped_left : (w : WorldView) (late : List Entry) (cause : Cause) (speech : SpokenFrame) → AllByRecursion May late →
        Amid w (act_done s (record { world = w; speech = speech; late = late }) (act.Drop cause))
    dropped_left w late cause Silent all = record { left = writes.same w; late = all }
    dropped_left w late cause (Waiting id again) all = record { left = ended_left w id again (Dropped id cause) (writes.dropped id cause); late = all }
    dropped_left w late cause (Passed id) all = record { left = writes.same w; late = all }
    dropped_left w late cause Over all = record { left = writes.same w; late = all }

    made_left : (w : WorldView) (late : List Entry) (speech : SpokenFrame) (frame : List ℕ) → AllByRecursion May late →
        Amid w (made s (record { world = w; speech = speech; late = late }) frame)
    made_left w late speech frame all =
        let written = all_noted w late in
        let first = begun_by written (Made (w.begun + 1) (switch_no s) frame) in
        record {
          left = writes.on w first (noted first (Crossed (w.begun + 1) (switch_no s)))
              (writes.on w written first (entries_left w late all)
              (say.begun written (Made (w.begun + 1) (switch_no s) frame) (say.made (w.begun + 1) (switch_no s) frame)))
              (writes.entry first (Crossed (w.begun + 1) (switch_no s)) (say.crossed (w.begun + 1) (switch_no s)));
          late = tt;
        }

    act_left : (d : DuringActs) (a : Act) → AllByRecursion May d.late → Amid d.world (act_done s d a)
    act_left d (act.Control port frame) all = record { left = put_left d.world port (Control frame) (is_failed_at d.world s port); late = all }
    act_left d (act.Tell told) all = record { left = reports d.world s told; late = all }
    act_left d (act.Grant pmac amac) all = record { left = grant_left d.world pmac (host_of d.world.plan amac); late = all }
    act_left d (act.Free pmac) all = record { left = writes.entry d.world (Freed pmac) (say.freed pmac); late = all }
    act_left d (act.Make frame) all = made_left d.world d.late d.speech frame all
    act_left d (act.Redirect old new) all = redirected_left d.world d.late old new d.speech all
    act_left d (act.Pass port frame) all = passed_left d.world d.late port frame d.speech all
    act_left d act.Take all = taken_left d.world d.late d.speech all
    act_left d (act.Drop cause) all = dropped_left d.world d.late cause d.speech all

    pub acts_left : (d : DuringActs) (acts : List Act) → AllByRecursion May d.late → Amid d.world (acts_done s d acts)
    acts_left d [] all = record { left = writes.same d.world; late = all }
    acts_left d (a ∷ acts) all =
        let first = act_left d a all in behind d.world (act_done s d a).world (acts_done s (act_done s d a) acts) first.left
        (acts_left (act_done s d a) acts first.late)

    place_left : (w : WorldView) (old now : Place) → ((place : Place) → May (Placed (switch_no s) place)) → R w (place_noted s old now w)
    place_left w old now placed = by (same_place old now)
      where
        by : (b : Bool) → R w (all_noted w (if b then [] else Placed (switch_no s) now ∷ []))
        by true = entries_left w [] tt
        by false = entries_left w (Placed (switch_no s) now ∷ []) (placed now, tt)

    -- over all that a switch does behind its new view
    pub switch_acts_left : (rule : SwitchRule) (w : WorldView) (input : SwitchInput) (speech : SpokenFrame) (new : WorldView) →
        ((place : Place) → May (Placed (switch_no s) place)) →
        (turn : SwitchTurn rule w s input speech new) → R (record w { switches = set w.switches s turn.after }) new
    switch_acts_left rule w input speech new placed turn =
        let start : WorldView = record w { switches = set w.switches s turn.after } in
        let done = acts_done s (begins start speech) turn.acts in
        let amid = acts_left (begins start speech) turn.acts tt in
        then_is start (place_noted s turn.before.place turn.after.place (with_late done)) new turn.changed
        (writes.on start (with_late done) (place_noted s turn.before.place turn.after.place (with_late done))
        (writes.on start done.world (with_late done) amid.left (entries_left done.world done.late amid.late))
        (place_left (with_late done) turn.before.place turn.after.place placed))

  -- ---- the acts of a host
  module _ (h : ℕ) (sends : (w : WorldView) (frame : List ℕ) → R w (sent_by_host w h frame)) where
    pub host_sends_left : (w : WorldView) (acts : List HostAct) → R w (fold (host_act_done h) w acts)
    host_sends_left w [] = writes.same w
    host_sends_left w (Send frame ∷ acts) =
        writes.on w (sent_by_host w h frame) (fold (host_act_done h) (sent_by_host w h frame) acts) (sends w frame)
        (host_sends_left (sent_by_host w h frame) acts)

    pub host_acts_left : (rule : HostRule) (w : WorldView) (input : HostInput) (answer : HostAnswer) (new : WorldView) →
        (turn : HostTurn rule w h input answer new) → R (record w { hosts = set w.hosts h turn.after }) new
    host_acts_left rule w input answer new turn =
        let start : WorldView = record w { hosts = set w.hosts h turn.after } in
        then_is start (fold (host_act_done h) start turn.acts) new turn.changed (host_sends_left start turn.acts)

  -- ---- the acts of the manager
  module _ (registered : (pmac : Pmac) (n : ℕ) → May (Registered pmac n))
      (from_manager : (w : WorldView) (s : ℕ) (says : ToSwitch) → R w (record w { from_manager = put_at w.from_manager s says })) where
    said_left : (w : WorldView) (says : ToSwitch) (to : Option ℕ) → R w (said_to w says to)
    said_left w says None = writes.same w
    said_left w says (Some s) = from_manager w s says

    manager_act_left : (w : WorldView) (a : ManagerAct) → R w (manager_act_done w a)
    manager_act_left w (Say to says) = said_left w says (position (same_switch to) w.plan.ids)
    manager_act_left w (Number pmac n) = writes.entry w (Registered pmac n) (registered pmac n)

    manager_does_left : (w : WorldView) (acts : List ManagerAct) → R w (fold manager_act_done w acts)
    manager_does_left w [] = writes.same w
    manager_does_left w (a ∷ acts) =
        writes.on w (manager_act_done w a) (fold manager_act_done (manager_act_done w a) acts) (manager_act_left w a)
        (manager_does_left (manager_act_done w a) acts)

    pub manager_acts_left : (rule : ManagerRule) (w : WorldView) (s : ℕ) (told : ToManager) (new : WorldView) → (turn : ManagerTurn rule w s told new) →
        R (record w { manager = turn.after }) new
    manager_acts_left rule w s told new turn =
        let start : WorldView = record w { manager = turn.after } in
        then_is start (fold manager_act_done start turn.acts) new turn.changed (manager_does_left start turn.acts)

  -- ---- what comes before a turn
  module _ (out : (w : WorldView) (i : ℕ) → R w (record w { out = set w.out i [] })) where
    pub emptied_out_left : (w : WorldView) (s port : ℕ) (cause : Cause) → R w (emptied_out w s port cause)
    emptied_out_left w s port cause =
        let gone = ends_of cause (items_at w.out (port_index w.plan.k s port)) in
        let mid : WorldView = record w { out = set w.out (port_index w.plan.k s port) [] } in
        writes.on w mid (emptied_out w s port cause) (out w (port_index w.plan.k s port))
        (entries_left mid gone (ends_may cause (items_at w.out (port_index w.plan.k s port))))

    pub failed_left : (w : WorldView) (link : Link) → May (LinkDown link.lower link.upper) →
        ((u : WorldView) (links : LivePorts) → R u (record u { links = links })) → R w (link_failed w link)
    failed_left w link may links =
        let dead : WorldView = record w { links = with_link w.links link false } in
        let said = noted dead (LinkDown link.lower link.upper) in
        let lower = emptied_out said link.lower.0 link.lower_port cause.LinkDown in
        writes.on w lower (link_failed w link)
        (writes.on w said lower (writes.on w dead said (links w (with_link w.links link false)) (writes.entry dead (LinkDown link.lower link.upper) may))
        (emptied_out_left said link.lower.0 link.lower_port cause.LinkDown))
        (emptied_out_left lower link.upper.0 link.upper_port cause.LinkDown)

  module _ (empties : Empties R) where
    emptied_from_host_left : (w : WorldView) (h : ℕ) (cause : Cause) → R w (emptied_from_host w h cause)
    emptied_from_host_left w h cause =
        let mid : WorldView = record w { from_hosts = set w.from_hosts h [] } in
        writes.on w mid (emptied_from_host w h cause) (empties.from_hosts w h)
        (entries_left mid (ends_of cause (items_at w.from_hosts h)) (ends_may cause (items_at w.from_hosts h)))

    pub moved_left : (w : WorldView) (h : ℕ) (from to : AttachmentPoint) → May (Moved (host_no h) to.edge to.port) →
        ((u : WorldView) → R u (record u { attachments = set u.attachments h to; heard = set u.heard h None })) → R w (host_moved w h from to)
    moved_left w h from to may attachments =
        let stood : WorldView = record w { attachments = set w.attachments h to; heard = set w.heard h None } in
        let said = noted stood (Moved (host_no h) to.edge to.port) in
        let gone = emptied_from_host said h cause.HostGone in
        writes.on w gone (host_moved w h from to)
        (writes.on w said gone (writes.on w stood said (attachments w) (writes.entry stood (Moved (host_no h) to.edge to.port) may))
        (emptied_from_host_left said h cause.HostGone))
        (emptied_out_left empties.out gone from.edge.0 from.port cause.HostGone)

  pub repaired_left : (w : WorldView) (link : Link) → May (LinkUp link.lower link.upper) →
      ((u : WorldView) (links : LivePorts) → R u (record u { links = links })) → R w (link_repaired w link)
  repaired_left w link may links =
      let live : WorldView = record w { links = with_link w.links link true } in
      writes.on w live (link_repaired w link) (links w (with_link w.links link true)) (writes.entry live (LinkUp link.lower link.upper) may)

  -- the manager begins anew
  pub anew_left : (w : WorldView) → May (Restarted (w.manager.epoch + 1)) → ((u : WorldView) (n : ℕ) → R u (in_epoch u n)) → R w (manager_restarted w)
  anew_left w may anew =
      let n : ℕ = w.manager.epoch + 1 in
      writes.on w (in_epoch w n) (manager_restarted w) (anew w n) (writes.entry (in_epoch w n) (Restarted n) may)
