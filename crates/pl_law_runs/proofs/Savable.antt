-- Each entry that a run writes can be saved.
use Rattle.std.proofs.Common.{ap, ◌≡◌, ℕ, IsTrue, fold, map, slice_get, zero, suc, ◌+◌, ◌<◌, ◌&&◌, nat_lt, Bool, true, false, if◌then◌else◌, All, Contains, List, [], ◌∷◌, ◌++◌, length, Option, Some, None, set, refl, sym, ◌∙◌, subst, arith}
use Rattle.std.specs.List.{AllByRecursion, find}
use Rattle.std.proofs.lemmas.Bool.{and_parts, ltb-true}
use Rattle.std.proofs.lemmas.List.Elements.{All-append, All-cons, All-nil, All-push}
use Rattle.std.proofs.lemmas.Option.{slice_get_within}
use Rattle.pl_lemmas.proofs.Exports.{found_within}
use Rattle.pl_pmac.specs.declared.pmac.Pmac.{Pmac}
use Rattle.pl_wiring.specs.declared.link.Link.{Link}
use Rattle.pl_wiring.specs.FatTree.{IsTreeLink}
use Rattle.pl_wiring.specs.Index.{port_index}
use Rattle.pl_wiring.specs.Labels.{switch_count}
use Rattle.pl_wiring.specs.declared.link.Peer.TheVariants.{Switch}
use Rattle.pl_wiring.specs.declared.label.SwitchNo.{SwitchNo}
use Rattle.pl_wiring.specs.Peers.{IsPort, peer_of}
use Rattle.pl_wiring.specs.Plan.{IsPlan, Plan}
use Rattle.pl_wiring.proofs.Exports.{at_contained, tree_ends}
use Rattle.pl_layouts.specs.declared.place.Place.{Place}
use Rattle.pl_layouts.specs.Equality.{same_mac}
use Rattle.pl_layouts.specs.Placement.{same_place}
use Rattle.pl_journal.specs.declared.cause.Cause.TheVariants as cause
use Rattle.pl_journal.specs.declared.cause.Skip.{Skip}
use Rattle.pl_journal.specs.declared.entry.Entry.{Entry}
use Rattle.pl_journal.specs.declared.entry.Entry.TheVariants.{Arrived, Copied, Crossed, Dropped, Freed, Granted, Line, LinkDown, LinkUp, Made, Moved, Placed, Redirected, Registered, Restarted, Sent, Settled, Skipped, Taken, Unsettled}
use Rattle.pl_journal.specs.Places.{is_host_port}
use Rattle.pl_journal.specs.Savable.{IsSavable, IsWhole}
use Rattle.pl_journal.specs.Text.{IsHost, IsSwitch}
use Rattle.pl_node.specs.declared.acts.Act.{Act}
use Rattle.pl_node.specs.declared.acts.Act.TheVariants as act
use Rattle.pl_node.specs.declared.messages.ToManager.{ToManager}
use Rattle.pl_node.specs.declared.reception.Reception.{Reception}
use Rattle.pl_node.specs.declared.reception.Reception.TheVariants.{Kept, NotMember}
use Rattle.pl_node.specs.Accounting.{AccountsForFrames, CanCome, IsFit, IsMade, IsShaped, IsWholeFrame}
use Rattle.pl_node.specs.declared.acts.HostAct.{HostAct}
use Rattle.pl_node.specs.declared.acts.HostAct.TheVariants.{Send}
use Rattle.pl_node.specs.HostDuties.{HoldsData, HostsSendData, are_data, is_data, sent_by}
use Rattle.pl_node.specs.HostInputs.{HostAnswer, HostInput, HostRule}
use Rattle.pl_node.specs.ManagerDuties.{ManagerRule}
use Rattle.pl_node.specs.SwitchInputs.{SwitchInput, SwitchRule}
use Rattle.pl_node.specs.SwitchInputs.SwitchInput.{Comes}
use Rattle.pl_node.specs.HostViews.{HostView}
use Rattle.pl_node.specs.SwitchViews.{SwitchView}
use Rattle.pl_world.specs.declared.error.StepError.TheVariants.{NoSuch}
use Rattle.pl_world.specs.declared.event.Event.{Event}
use Rattle.pl_world.specs.declared.item.Item.{Item}
use Rattle.pl_world.specs.declared.item.Item.TheVariants.{Control, Data}
use Rattle.pl_world.specs.declared.spoken_frame.SpokenFrame.{SpokenFrame}
use Rattle.pl_world.specs.declared.spoken_frame.SpokenFrame.TheVariants.{Over, Passed, Silent, Waiting}
use Rattle.pl_world.specs.declared.attachment.AttachmentPoint.{AttachmentPoint}
use Rattle.pl_world.specs.declared.limits.Limits.{Limits}
use Rattle.pl_world.specs.Booting.{booted}
use Rattle.pl_world.specs.Changes.{all_noted, host_no, host_of, is_failed_at, noted, receiver, switch_no}
use Rattle.pl_world.specs.Flying.{IsCounted, IsDataItem, IsItem, IsTreePort}
use Rattle.pl_world.specs.LinksAndMoves.{host_moved, joins, link_between}
use Rattle.pl_world.specs.OtherActs.{heard_after_tick, host_act_done, reception_noted, skip_noted}
use Rattle.pl_world.specs.Refusals.{has_host, has_port, has_switch, is_for_hosts, refusal, refusal_of_event, refusal_of_move}
use Rattle.pl_world.specs.Runs.{IsMark, Moment, WorldRun}
use Rattle.pl_world.specs.Runs.Moment.{Mark, Step}
use Rattle.pl_world.specs.SwitchActs.{DuringActs, act_done, acts_done, begins, crossed_again, ended, goes_out, granted, in_world, passed, place_noted, redirected, with_late}
use Rattle.pl_world.specs.WorldRule.{ComesAtHost, ComesAtSwitch, ComesOut, HostTurn, ManagerTurn, SwitchTurn, WorldStep, heard_item}
use Rattle.pl_world.specs.Worlds.{WorldView}
use Rattle.pl_world.proofs.Exports.{all_found, anew_left, data_is_frame, event_is_not_refused, failed_left, Happened, happened, head_is_item, lost_left, manager_acts_left, marked_counted, moved_left, peer_is_port, repaired_left, same_refusal, sent_is_item, step_is_counted, tested, Writes}
use Rattle.pl_world.proofs.Exports.Happened.{Asked, BeganAnew, Departed, Failed, FromHost, Lost, Ordered, OutOfPort, OverLink, PlayedFrame, Repaired, Reported, Ticked}

-- a world of this wiring, and each entry of its journal can be saved
pub record Keeps (plan of : Plan) (journal : List Entry) : Type 0 where
  pub same : of ≡ plan
  pub all : All (IsSavable plan) journal

abbrev pub Saves : Plan → WorldView → Type 0
Saves plan w = Keeps plan w.plan w.journal

-- a frame that may be carried
is_whole : (frame : List ℕ) → IsWholeFrame frame → IsWhole frame
is_whole frame whole = record { low = whole.low; high = whole.high }

-- switches with so many ports, all that they keep in order
record AreSwitches (k : ℕ) (switches : List SwitchView) : Type 0 where
  ports : AllByRecursion (λ v. v.k ≡ k) switches
  shaped : AllByRecursion IsShaped switches

module _ (plan : Plan) where
  notes : (w : WorldView) (e : Entry) → IsSavable plan e → Saves plan w → Saves plan (noted w e)
  notes w e is s = record { same = s.same; all = All-push (IsSavable plan) w.journal e s.all is }

  notes_all : (w : WorldView) (entries : List Entry) → All (IsSavable plan) entries → Saves plan w → Saves plan (all_noted w entries)
  notes_all w entries are s = record { same = s.same; all = All-append (IsSavable plan) w.journal entries s.all are }

  -- one entry, or none
  one_or_none : (b : Bool) (e : Entry) → IsSavable plan e → All (IsSavable plan) (if b then e ∷ [] else [])
  one_or_none true e is = All-cons (IsSavable plan) e [] is (All-nil (IsSavable plan))
  one_or_none false e is = All-nil (IsSavable plan)

  none_or_one : (b : Bool) (e : Entry) → IsSavable plan e → All (IsSavable plan) (if b then [] else e ∷ [])
  none_or_one true e is = All-nil (IsSavable plan)
  none_or_one false e is = All-cons (IsSavable plan) e [] is (All-nil (IsSavable plan))

  -- ---- switches
  record Going (d : DuringActs) : Type 0 where
    world : Saves plan d.world
    late : All (IsSavable plan) d.late

  module _ (s : ℕ) (there : IsSwitch plan s) where
    crosses : (w : WorldView) (id : ℕ) (again : Bool) → Saves plan w → Saves plan (crossed_again w s id again)
    crosses w id again saves =
        notes_all w (if again then Crossed id (switch_no s) ∷ [] else []) (one_or_none again (Crossed id (switch_no s)) (record { named = there; carried = tt })) saves

    grants : (w : WorldView) (pmac : Pmac) (h : Option ℕ) → ((n : ℕ) → h ≡ Some n → IsHost plan n) → Saves plan w → Saves plan (granted w s pmac h)
    grants w pmac None found saves = saves
    grants w pmac (Some h) found saves =
        notes w (Granted pmac (host_no h) (switch_no s) pmac.port) (record { named = (found h refl, there); carried = tt }) saves

    makes : (d : DuringActs) (frame : List ℕ) → IsMade frame → Going d → Going (act_done s d (act.Make frame))
    makes d frame is g =
        let late : Saves plan (with_late d) = notes_all d.world d.late g.late g.world in
        let made : Saves plan (noted (with_late d) (Made (d.world.begun + 1) (switch_no s) frame)) =
        notes (with_late d) (Made (d.world.begun + 1) (switch_no s) frame) (record { named = there; carried = is_whole frame is.whole }) late in
        record {
          world = notes (noted (with_late d) (Made (d.world.begun + 1) (switch_no s) frame)) (Crossed (d.world.begun + 1) (switch_no s))
              (record { named = there; carried = tt }) made;
          late = All-nil (IsSavable plan);
        }

    redirects : (d : DuringActs) (old new : Pmac) (speech : SpokenFrame) → Going d → Going (redirected d old new speech)
    redirects d old new Silent g = g
    redirects d old new (Waiting id again) g =
        record { world = notes d.world (Redirected id old new) (record { named = tt; carried = tt }) g.world; late = g.late }
    redirects d old new (Passed id) g = g
    redirects d old new Over g = g

    late_or_more : (b : Bool) (late : List Entry) (e : Entry) → IsSavable plan e → All (IsSavable plan) late → All (IsSavable plan) (if b then late ++ e ∷ [] else late)
    late_or_more true late e is all = All-push (IsSavable plan) late e all is
    late_or_more false late e is all = all

    goes : (d : DuringActs) (id port : ℕ) (frame : List ℕ) → Going d → Going (goes_out s d id port frame)
    goes d id port frame g = record {
      world = record { same = g.world.same; all = g.world.all };
      late = late_or_more (is_failed_at d.world s port) d.late (Dropped id cause.LinkDown) (record { named = tt; carried = tt }) g.late;
    }

    passes : (d : DuringActs) (port : ℕ) (frame : List ℕ) (speech : SpokenFrame) → Going d → Going (passed s d port frame speech)
    passes d port frame Silent g = g
    passes d port frame (Waiting id again) g =
        goes (in_world d (crossed_again d.world s id again)) id port frame (record { world = crosses d.world id again g.world; late = g.late })
    passes d port frame (Passed id) g =
        let copied : Saves plan (noted d.world (Copied id (d.world.begun + 1))) =
        notes d.world (Copied id (d.world.begun + 1)) (record { named = tt; carried = tt }) g.world in
        record {
          world = record { same = copied.same; all = copied.all };
          late = late_or_more (is_failed_at d.world s port) d.late (Dropped (d.world.begun + 1) cause.LinkDown) (record { named = tt; carried = tt }) g.late;
        }
    passes d port frame Over g = g

    finishes : (d : DuringActs) (end : ℕ → Entry) (speech : SpokenFrame) → ((id : ℕ) → IsSavable plan (end id)) → Going d → Going (ended s d end speech)
    finishes d end Silent is g = g
    finishes d end (Waiting id again) is g =
        record { world = notes (crossed_again d.world s id again) (end id) (is id) (crosses d.world id again g.world); late = g.late }
    finishes d end (Passed id) is g = g
    finishes d end Over is g = g

    act_saves : (d : DuringActs) (k : ℕ) (a : Act) → IsFit k a → Going d → Going (act_done s d a)
    act_saves d k (act.Control port frame) fits g = record { world = record { same = g.world.same; all = g.world.all }; late = g.late }
    act_saves d k (act.Tell told) fits g = record { world = record { same = g.world.same; all = g.world.all }; late = g.late }
    act_saves d k (act.Grant pmac amac) fits g = record {
      world = grants d.world pmac (host_of d.world.plan amac)
          (λ n is. subst (λ (p : Plan). IsHost p n) g.world.same (found_within (λ host. same_mac host.mac amac) d.world.plan.hosts n is)) g.world;
      late = g.late;
    }
    act_saves d k (act.Free pmac) fits g = record { world = notes d.world (Freed pmac) (record { named = tt; carried = tt }) g.world; late = g.late }
    act_saves d k (act.Make frame) fits g = makes d frame fits g
    act_saves d k (act.Redirect old new) fits g = redirects d old new d.speech g
    act_saves d k (act.Pass port frame) fits g = passes d port frame d.speech g
    act_saves d k act.Take fits g = finishes d (λ id. Taken id (switch_no s)) d.speech (λ id. record { named = there; carried = tt }) g
    act_saves d k (act.Drop cause) fits g = finishes d (λ id. Dropped id cause) d.speech (λ id. record { named = tt; carried = tt }) g

    acts_save : (d : DuringActs) (k : ℕ) (acts : List Act) → AllByRecursion (IsFit k) acts → Going d → Going (acts_done s d acts)
    acts_save d k [] fits g = g
    acts_save d k (a ∷ acts) fits g = acts_save (act_done s d a) k acts fits.1 (act_saves d k a fits.0 g)

    stepped : (w : WorldView) (speech : SpokenFrame) (old new : Place) (k : ℕ) (acts : List Act) → AllByRecursion (IsFit k) acts → Saves plan w →
        Saves plan (place_noted s old new (with_late (acts_done s (begins w speech) acts)))
    stepped w speech old new k acts fits saves =
        let done : Going (acts_done s (begins w speech) acts) = acts_save (begins w speech) k acts fits (record { world = saves; late = All-nil (IsSavable plan) }) in
        notes_all (with_late (acts_done s (begins w speech) acts)) (if same_place old new then [] else Placed (switch_no s) new ∷ [])
        (none_or_one (same_place old new) (Placed (switch_no s) new) (record { named = there; carried = tt }))
        (notes_all (acts_done s (begins w speech) acts).world (acts_done s (begins w speech) acts).late done.late done.world)

  -- a switch of a world, and what it can be given
  switch_saves : (rule : SwitchRule) → AccountsForFrames rule → (w : WorldView) (s : ℕ) (input : SwitchInput) (speech : SpokenFrame) (new : WorldView) →
      AreSwitches plan.k w.switches → ((v : SwitchView) → v.k ≡ plan.k → CanCome v input) → IsSwitch plan s → Saves plan w →
      SwitchTurn rule w s input speech new → Saves plan new
  switch_saves rule accounts w s input speech new are can there saves turn =
      let size : turn.before.k ≡ plan.k = all_found (λ (v : SwitchView). v.k ≡ plan.k) w.switches s turn.before turn.found are.ports in
      let shaped : IsShaped turn.before = all_found IsShaped w.switches s turn.before turn.found are.shaped in
      let kept = accounts turn.before input turn.after turn.acts shaped (can turn.before size) turn.ruled in
      subst (λ (x : WorldView). Saves plan x) (sym turn.changed)
      (stepped s there (record w { switches = set w.switches s turn.after }) speech turn.before.place turn.after.place turn.before.k turn.acts kept.fit
      (record { same = saves.same; all = saves.all }))

  -- ---- what a world is made of
  abbrev pub KeepsSavable : WorldView → WorldView → Type 0
  KeepsSavable a b = Saves plan a → Saves plan b

  pub saves_writes : Writes KeepsSavable (IsSavable plan)
  saves_writes =
      record {
        same = λ w saves. saves;
        on = λ a b c one next saves. next (one saves);
        entry = notes;
        dropped = λ id cause. record { named = tt; carried = tt };
      }

  -- ---- hosts and the manager
  host_act_saves : (w : WorldView) (h : ℕ) (a : HostAct) → IsHost plan h → IsTrue (is_data (sent_by a)) → Saves plan w → Saves plan (host_act_done h w a)
  host_act_saves w h (Send frame) there is saves =
      let noted_so = notes w (Sent (w.begun + 1) (host_no h) frame) (record { named = there; carried = is_whole frame (data_is_frame frame is).whole }) saves in
      record { same = noted_so.same; all = noted_so.all }

  host_acts_save : (w : WorldView) (h : ℕ) (acts : List HostAct) → IsHost plan h → IsTrue (are_data (map sent_by acts)) → Saves plan w →
      Saves plan (fold (host_act_done h) w acts)
  host_acts_save w h [] there are saves = saves
  host_acts_save w h (a ∷ acts) there are saves =
      let both = and_parts (is_data (sent_by a)) (are_data (map sent_by acts)) are in
      host_acts_save (host_act_done h w a) h acts there both.1 (host_act_saves w h a there both.0 saves)

  host_saves : (rule : HostRule) → HostsSendData rule → (w : WorldView) (h : ℕ) (input : HostInput) (answer : HostAnswer) (new : WorldView) →
      AllByRecursion HoldsData w.hosts → IsHost plan h → Saves plan w → HostTurn rule w h input answer new → Saves plan new
  host_saves rule sends w h input answer new are there saves turn =
      let holds : HoldsData turn.before = all_found HoldsData w.hosts h turn.before turn.found are in
      let owed = sends turn.before input turn.after turn.acts answer holds turn.ruled in
      subst (λ (x : WorldView). Saves plan x) (sym turn.changed)
      (host_acts_save (record w { hosts = set w.hosts h turn.after }) h turn.acts there owed.sends (record { same = saves.same; all = saves.all }))

  manager_saves : (rule : ManagerRule) (w : WorldView) (s : ℕ) (told : ToManager) (new : WorldView) → Saves plan w → ManagerTurn rule w s told new → Saves plan new
  manager_saves rule w s told new saves turn =
      manager_acts_left KeepsSavable (IsSavable plan) saves_writes (λ pmac n. record { named = tt; carried = tt })
      (λ u t says more. more) rule w s told new turn saves

  -- ---- what comes
  -- as many switches and hosts as the wiring has, each in order
  record Many (w : WorldView) : Type 0 where
    switches : length w.switches ≡ switch_count plan.k
    hosts : length w.hosts ≡ length plan.hosts
    are : AreSwitches plan.k w.switches
    hold : AllByRecursion HoldsData w.hosts

  host_there : (rule : HostRule) (w : WorldView) (h : ℕ) (input : HostInput) (answer : HostAnswer) (new : WorldView) → Many w →
      HostTurn rule w h input answer new → IsHost plan h
  host_there rule w h input answer new many turn =
      let within : h < length w.hosts = slice_get_within w.hosts h turn.before turn.found in let e = many.hosts in omega arith

  switch_there : (rule : SwitchRule) (w : WorldView) (s : ℕ) (input : SwitchInput) (speech : SpokenFrame) (new : WorldView) → Many w →
      SwitchTurn rule w s input speech new → IsSwitch plan s
  switch_there rule w s input speech new many turn =
      let within : s < length w.switches = slice_get_within w.switches s turn.before turn.found in let e = many.switches in omega arith

  same_many : (w mid : WorldView) → mid.switches ≡ w.switches → mid.hosts ≡ w.hosts → Many w → Many mid
  same_many w mid switches hosts many = record {
    switches = ap (λ (xs : List SwitchView). length xs) switches ∙ many.switches;
    hosts = ap (λ (xs : List HostView). length xs) hosts ∙ many.hosts;
    are = subst (λ (xs : List SwitchView). AreSwitches plan.k xs) (sym switches) many.are;
    hold = subst (λ (xs : List HostView). AllByRecursion HoldsData xs) (sym hosts) many.hold;
  }

  whole_item : (v : SwitchView) (port : ℕ) (frame : List ℕ) → port < plan.k → IsWholeFrame frame → v.k ≡ plan.k → CanCome v (Comes port frame)
  whole_item v port frame within whole size = record { within = rw size within; whole = whole }

  at_switch : (rule : SwitchRule) → AccountsForFrames rule → (w : WorldView) (s port : ℕ) (item : Item) (new : WorldView) → port < plan.k → IsItem item → Many w →
      Saves plan w → ComesAtSwitch rule w s port item new → Saves plan new
  at_switch rule accounts w s port (Control frame) new within is many saves turn =
      switch_saves rule accounts w s _ _ new many.are (λ v size. whole_item v port frame within is.whole size) (switch_there rule w s _ _ new many turn) saves turn
  at_switch rule accounts w s port (Data id frame) new within is many saves turn =
      let mid : WorldView = noted w (Crossed id (switch_no s)) in
      let there : IsSwitch plan s = switch_there rule mid s _ _ new (same_many w mid refl refl many) turn in
      switch_saves rule accounts mid s _ _ new many.are (λ v size. whole_item v port frame within is.whole size) there
      (notes w (Crossed id (switch_no s)) (record { named = there; carried = tt }) saves) turn

  -- a host turns behind something that leaves all as they were
  turn_saves : (rule : HostRule) → HostsSendData rule → (w mid : WorldView) (h : ℕ) (input : HostInput) (answer : HostAnswer) (new : WorldView) →
      mid.hosts ≡ w.hosts → Many w → (IsHost plan h → Saves plan mid) → HostTurn rule mid h input answer new → Saves plan new
  turn_saves rule sends w mid h input answer new same many saves turn =
      let within : h < length mid.hosts = slice_get_within mid.hosts h turn.before turn.found in
      let there : IsHost plan h = let e = ap (λ (xs : List HostView). length xs) same ∙ many.hosts in omega arith in
      host_saves rule sends mid h input answer new (subst (λ (xs : List HostView). AllByRecursion HoldsData xs) (sym same) many.hold) there (saves there) turn

  reception_hosts : (w : WorldView) (h id : ℕ) (frame : List ℕ) (reception : Reception) → (reception_noted w h id frame reception).hosts ≡ w.hosts
  reception_hosts w h id frame Kept = refl
  reception_hosts w h id frame NotMember = refl

  received : (w : WorldView) (h id : ℕ) (frame : List ℕ) (reception : Reception) → IsWholeFrame frame → Saves plan w → IsHost plan h →
      Saves plan (reception_noted w h id frame reception)
  received w h id frame Kept whole saves there = notes w (Arrived id (host_no h) frame) (record { named = there; carried = is_whole frame whole }) saves
  received w h id frame NotMember whole saves there = notes w (Dropped id cause.NoMember) (record { named = tt; carried = tt }) saves

  skip_hosts : (w : WorldView) (h : ℕ) (skip : Option Skip) → (skip_noted w h skip).hosts ≡ w.hosts
  skip_hosts w h None = refl
  skip_hosts w h (Some skip) = refl

  skipped : (w : WorldView) (h : ℕ) (skip : Option Skip) → Saves plan w → IsHost plan h → Saves plan (skip_noted w h skip)
  skipped w h None saves there = saves
  skipped w h (Some skip) saves there = notes w (Skipped (host_no h) skip) (record { named = there; carried = tt }) saves

  at_host : (rule : HostRule) → HostsSendData rule → (w : WorldView) (id : ℕ) (frame : List ℕ) (to : Option ℕ) (new : WorldView) → IsWholeFrame frame → Many w →
      Saves plan w → ComesAtHost rule w id frame to new → Saves plan new
  at_host rule sends w id frame None new whole many saves is =
      subst (λ (x : WorldView). Saves plan x) (sym is) (notes w (Dropped id cause.HostGone) (record { named = tt; carried = tt }) saves)
  at_host rule sends w id frame (Some h) new whole many saves receives =
      turn_saves rule sends w (reception_noted w h id frame receives.reception) h _ _ new (reception_hosts w h id frame receives.reception) many
      (received w h id frame receives.reception whole saves) receives.turn

  comes_out : (rule : HostRule) → HostsSendData rule → (w : WorldView) (s port : ℕ) (item : Item) (new : WorldView) → IsItem item → Many w → Saves plan w →
      ComesOut rule w s port item new → Saves plan new
  comes_out rule sends w s port (Control frame) new is many saves same = subst (λ (x : WorldView). Saves plan x) (sym same) saves
  comes_out rule sends w s port (Data id frame) new is many saves comes =
      at_host rule sends w id frame (receiver w s port frame) new is.whole many saves comes

  -- ---- links and moves
  found_contained : (p : Link → Bool) (links : List Link) (link : Link) → find p links ≡ Some link → Contains links link
  found_contained p [] link is = absurd (cc)
  found_contained p (l ∷ links) link is = by_first (p l) (found_contained p links link) is
    where
      by_first : (b : Bool) → (find p links ≡ Some link → Contains links link) → (if b then Some l else find p links) ≡ Some link → Contains (l ∷ links) link
      by_first true later e = (zero, omega arith, cc)
      by_first false later e = let there = later e in (suc there.0, omega (arith, there.1), there.2)

  ends_there : (w : WorldView) (a b : ℕ) (link : Link) → IsPlan w.plan → w.plan ≡ plan → link_between w.plan a b ≡ Some link →
      IsSwitch plan link.lower.0 × IsSwitch plan link.upper.0
  ends_there w a b link is same found = subst (λ (p : Plan). IsSwitch p link.lower.0 × IsSwitch p link.upper.0) same
      (tree_ends w.plan.k link (at_contained (IsTreeLink w.plan.k) w.plan.links link is.tree.no_other (found_contained (joins a b) w.plan.links link found)))

  marks : (w : WorldView) (e : Entry) → IsMark e → Saves plan w → Saves plan (noted w e)
  marks w (Line n) is saves = notes w (Line n) (record { named = tt; carried = tt }) saves
  marks w (Settled rounds) is saves = notes w (Settled rounds) (record { named = tt; carried = tt }) saves
  marks w (Unsettled pending) is saves = notes w (Unsettled pending) (record { named = tt; carried = tt }) saves
  marks w (Sent id host frame) is saves = absurd is
  marks w (Skipped host skip) is saves = absurd is
  marks w (Made id switch frame) is saves = absurd is
  marks w (Crossed id switch) is saves = absurd is
  marks w (Redirected id old new) is saves = absurd is
  marks w (Copied id new) is saves = absurd is
  marks w (Arrived id host frame) is saves = absurd is
  marks w (Taken id switch) is saves = absurd is
  marks w (Dropped id cause) is saves = absurd is
  marks w (Granted pmac host switch port) is saves = absurd is
  marks w (Registered pmac number) is saves = absurd is
  marks w (Placed switch place) is saves = absurd is
  marks w (Freed pmac) is saves = absurd is
  marks w (LinkDown x y) is saves = absurd is
  marks w (LinkUp x y) is saves = absurd is
  marks w (Moved host edge port) is saves = absurd is
  marks w (Restarted number) is saves = absurd is

moves_to_a_switch : (w : WorldView) (h s port : ℕ) → refusal_of_move w h s port ≡ None → s < switch_count w.plan.k
moves_to_a_switch w h s port none =
    let both = and_parts (has_host w.plan h) (is_for_hosts w.plan s port) (tested (has_host w.plan h && is_for_hosts w.plan s port) _ _ NoSuch refl none) in
    let there = and_parts (has_port w.plan s port) (is_host_port (peer_of w.plan s port)) both.1 in
    let parts = and_parts (has_switch w.plan s) (nat_lt port w.plan.k) there.0 in
    ltb-true s (switch_count w.plan.k) parts.0

module _ (plan : Plan) (switch : SwitchRule) (manager : ManagerRule) (host : HostRule) (accounts : AccountsForFrames switch) (sends : HostsSendData host) where
  heard_many : (w : WorldView) (h : ℕ) (item : Item) → Many plan w → Many plan (heard_item w h item)
  heard_many w h (Control frame) many = many
  heard_many w h (Data id frame) many = same_many plan w (heard_item w h (Data id frame)) refl refl many

  heard_saves : (w : WorldView) (h : ℕ) (item : Item) → Saves plan w → Saves plan (heard_item w h item)
  heard_saves w h (Control frame) saves = saves
  heard_saves w h (Data id frame) saves = saves

  turns : (w mid : WorldView) (s : ℕ) (input : SwitchInput) (speech : SpokenFrame) (new : WorldView) → mid.switches ≡ w.switches → mid.hosts ≡ w.hosts →
      ((v : SwitchView) → v.k ≡ plan.k → CanCome v input) → Many plan w → Saves plan mid → SwitchTurn switch mid s input speech new → Saves plan new
  turns w mid s input speech new switches hosts can many saves turn =
      let same = same_many plan w mid switches hosts many in
      switch_saves plan switch accounts mid s input speech new same.are can (switch_there plan switch mid s input speech new same turn) saves turn

  -- a host stands at a port that is there, and so is the other end of a link
  stands_at_port : (w : WorldView) (h : ℕ) (attachment : AttachmentPoint) → w.plan ≡ plan → AllByRecursion (IsTreePort w.plan.k) w.attachments →
      slice_get w.attachments h ≡ Some attachment → attachment.port < plan.k
  stands_at_port w h attachment same are at =
      subst (λ (p : Plan). attachment.port < p.k) same (all_found (IsTreePort w.plan.k) w.attachments h attachment at are).port

  leads_to_port : (w : WorldView) (s port : ℕ) (t : SwitchNo) (q : ℕ) → w.plan ≡ plan → IsPlan w.plan → peer_of w.plan s port ≡ Switch t q → q < plan.k
  leads_to_port w s port t q same is joined =
      subst (λ (p : Plan). q < p.k) same (subst (IsPort w.plan.k) joined (peer_is_port w.plan s port is)).1

  -- what the walk needs of a world
  record Holding (w : WorldView) : Type 0 where
    is_plan : IsPlan w.plan
    at_ports : AllByRecursion (IsTreePort w.plan.k) w.attachments
    host_items : AllByRecursion (AllByRecursion IsDataItem) w.from_hosts
    port_items : AllByRecursion (AllByRecursion IsItem) w.out

  by_case : (w : WorldView) (happens : Event) (new : WorldView) → refusal_of_event w happens ≡ None → Holding w → Many plan w → Saves plan w →
      Happened switch manager host w happens new → Saves plan new
  by_case w happens new none has many saves (FromHost h item items attachment is head at comes) =
      let mid : WorldView = record w { from_hosts = set w.from_hosts h.0 items } in
      at_switch plan switch accounts (heard_item mid h.0 item) attachment.edge.0 attachment.port item new
      (stands_at_port w h.0 attachment saves.same has.at_ports at) (sent_is_item w.from_hosts h.0 item items head has.host_items) (heard_many mid h.0 item (same_many plan w mid refl refl many))
      (heard_saves mid h.0 item saves) comes
  by_case w happens new none has many saves (OverLink s port item items t q is head joined comes) =
      let mid : WorldView = record w { out = set w.out (port_index w.plan.k s.0 port) items } in
      at_switch plan switch accounts mid t.0 q item new (leads_to_port w s.0 port t q saves.same has.is_plan joined)
      (head_is_item w.out (port_index w.plan.k s.0 port) item items head has.port_items) (same_many plan w mid refl refl many) saves comes
  by_case w happens new none has many saves (OutOfPort s port item items is head joined comes) =
      let mid : WorldView = record w { out = set w.out (port_index w.plan.k s.0 port) items } in
      comes_out plan host sends mid s.0 port item new (head_is_item w.out (port_index w.plan.k s.0 port) item items head has.port_items)
      (same_many plan w mid refl refl many) saves comes
  by_case w happens new none has many saves (Reported s told items is head turn) =
      manager_saves plan manager (record w { to_manager = set w.to_manager s.0 items }) s.0 told new saves turn
  by_case w happens new none has many saves (Ordered s says items is head turn) =
      turns w (record w { from_manager = set w.from_manager s.0 items }) s.0 _ _ new refl refl (λ v size. tt) many saves turn
  by_case w happens new none has many saves (Ticked s is turn) =
      turns w (record w { heard = heard_after_tick s.0 w.attachments w.heard }) s.0 _ _ new refl refl (λ v size. tt) many saves turn
  by_case w happens new none has many saves (Failed a b link is found fails) =
      let there = ends_there plan w a.0 b.0 link has.is_plan saves.same found in
      subst (λ (x : WorldView). Saves plan x) (sym fails)
      (failed_left (KeepsSavable plan) (IsSavable plan) (saves_writes plan) (λ u i more. more) w link (record { named = there; carried = tt })
      (λ u links more. more) saves)
  by_case w happens new none has many saves (Repaired a b link is found repairs) =
      let there = ends_there plan w a.0 b.0 link has.is_plan saves.same found in
      subst (λ (x : WorldView). Saves plan x) (sym repairs)
      (repaired_left (KeepsSavable plan) (IsSavable plan) (saves_writes plan) w link (record { named = there; carried = tt }) (λ u links more. more) saves)
  by_case w happens new none has many saves (Lost s port item items is head loses) =
      subst (λ (x : WorldView). Saves plan x) (sym loses)
      (lost_left (KeepsSavable plan) (IsSavable plan) (saves_writes plan) (record w { out = set w.out (port_index w.plan.k s.0 port) items }) item saves)
  by_case w happens new none has many saves (Departed h s port from is at turn) =
      let to : AttachmentPoint = record { edge = s; port = port } in
      let free = subst (λ (x : Event). refusal_of_event w x ≡ None) is none in
      let edge : IsSwitch plan s.0 = subst (λ (p : Plan). IsSwitch p s.0) saves.same (moves_to_a_switch w h.0 s.0 port free) in
      turn_saves plan host sends w (host_moved w h.0 from to) h.0 _ _ new refl many
      (λ there. moved_left (KeepsSavable plan) (IsSavable plan) (saves_writes plan)
      (record { from_hosts = λ u n more. more; out = λ u i more. more }) w h.0 from to
      (record { named = (there, edge); carried = tt }) (λ u more. more) saves) turn
  by_case w happens new none has many saves (PlayedFrame h input skip is turn) =
      turn_saves plan host sends w (skip_noted w h.0 skip) h.0 _ _ new (skip_hosts plan w h.0 skip) many (skipped plan w h.0 skip saves) turn
  by_case w happens new none has many saves (Asked h input is turn) = turn_saves plan host sends w w h.0 _ _ new refl many (λ there. saves) turn
  by_case w happens new none has many saves (BeganAnew is anew) =
      subst (λ (x : WorldView). Saves plan x) (sym anew)
      (anew_left (KeepsSavable plan) (IsSavable plan) (saves_writes plan) w (record { named = tt; carried = tt }) (λ u n more. more) saves)

  -- the entries of a step can be saved
  pub step_saves : (old : WorldView) (happens : Event) (new : WorldView) → IsCounted old → refusal old happens ≡ None →
      WorldStep switch manager host old happens new → Saves plan old → Saves plan new
  step_saves old happens new is none step saves =
      let many : Many plan (record old { steps = old.steps + 1 }) = record {
        switches = subst (λ (p : Plan). length old.switches ≡ switch_count p.k) saves.same is.formed.switches;
        hosts = subst (λ (p : Plan). length old.hosts ≡ length p.hosts) saves.same is.formed.hosts;
        are = record { ports = subst (λ (p : Plan). AllByRecursion (λ (v : SwitchView). v.k ≡ p.k) old.switches) saves.same is.formed.ports; shaped = is.shaped };
        hold = is.holding;
      } in
      by_case (record old { steps = old.steps + 1 }) happens new (same_refusal old happens ∙ event_is_not_refused old happens none)
      (record { is_plan = is.formed.plan; at_ports = is.formed.at_ports; host_items = is.in_host_queues; port_items = is.in_port_queues }) many (record { same = saves.same; all = saves.all })
      (happened switch manager host (record old { steps = old.steps + 1 }) happens new step)

  -- and so can those of a run
  pub run_saves : (old : WorldView) (moments : List Moment) (new : WorldView) → IsCounted old → Saves plan old →
      WorldRun switch manager host old moments new → Saves plan new
  run_saves old [] new is saves same = subst (λ (x : WorldView). Saves plan x) (sym same) saves
  run_saves old (Step e ∷ moments) new is saves run =
      run_saves run.0 moments new (step_is_counted switch manager host accounts sends old e run.0 is run.1.0 run.1.1)
      (step_saves old e run.0 is run.1.0 run.1.1 saves) run.2
  run_saves old (Mark e ∷ moments) new is saves run =
      run_saves run.0 moments new (marked_counted old run.0 e run.1.0 run.1.1 is)
      (subst (λ (x : WorldView). Saves plan x) (sym run.1.1) (marks plan old e run.1.0 saves)) run.2

-- nothing was written at the beginning
pub begins_savable : (plan : Plan) (limits : Limits) → Saves plan (booted plan limits)
begins_savable plan limits = record { same = refl; all = All-nil (IsSavable plan) }
