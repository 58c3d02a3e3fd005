-- What a step changes of switches and of the manager: what comes at a switch changes that one, as its rule has it, what comes at the manager the
-- manager, and nothing else does.
use Rattle.std.proofs.Common.{◌≡◌, ◌∙◌, false, ℕ, ◌+◌, List, [], ◌∷◌, fold, Option, None, Some, option_map, set, slice_get, refl, ap, subst}
use Rattle.std.specs.List.{position}
use Rattle.std.proofs.lemmas.Option.{same_Some}
use Rattle.pl_frame.specs.declared.address.SwitchId.{SwitchId}
use Rattle.pl_pmac.specs.declared.pmac.Pmac.{Pmac}
use Rattle.pl_layouts.specs.Equality.{same_switch}
use Rattle.pl_wiring.specs.declared.link.Link.{Link}
use Rattle.pl_wiring.specs.declared.link.Peer.{Peer}
use Rattle.pl_wiring.specs.declared.link.Peer.TheVariants.{HostPort, Switch}
use Rattle.pl_wiring.specs.Index.{port_index}
use Rattle.pl_wiring.specs.Peers.{peer_of}
use Rattle.pl_journal.specs.declared.cause.Cause.TheVariants.{HostGone}
use Rattle.pl_journal.specs.declared.cause.Skip.{Skip}
use Rattle.pl_journal.specs.declared.entry.Entry.{Entry}
use Rattle.pl_journal.specs.declared.entry.Entry.TheVariants.{Crossed, Dropped, Registered}
use Rattle.pl_node.specs.declared.acts.Act.{Act}
use Rattle.pl_node.specs.declared.acts.Act.TheVariants as act
use Rattle.pl_node.specs.declared.acts.HostAct.{HostAct}
use Rattle.pl_node.specs.declared.acts.HostAct.TheVariants.{Send}
use Rattle.pl_node.specs.declared.acts.ManagerAct.{ManagerAct}
use Rattle.pl_node.specs.declared.acts.ManagerAct.TheVariants.{Number, Say}
use Rattle.pl_node.specs.declared.messages.ToManager.{ToManager}
use Rattle.pl_node.specs.declared.messages.ToSwitch.{ToSwitch}
use Rattle.pl_node.specs.declared.reception.Reception.{Reception}
use Rattle.pl_node.specs.declared.reception.Reception.TheVariants.{Kept, NotMember}
use Rattle.pl_node.specs.HostInputs.{HostAnswer, HostInput, HostRule}
use Rattle.pl_node.specs.HostInputs.HostAnswer.{Nothing, Played, Received}
use Rattle.pl_node.specs.HostInputs.HostInput.{HasMoved, Joins, Leaves, Receives, Retries, Starts}
use Rattle.pl_node.specs.ManagerDuties.{ManagerRule}
use Rattle.pl_node.specs.ManagerViews.{ManagerView}
use Rattle.pl_node.specs.SwitchInputs.{SwitchRule}
use Rattle.pl_node.specs.SwitchInputs.SwitchInput.{Says, Tick}
use Rattle.pl_node.specs.SwitchViews.{SwitchView}
use Rattle.pl_queues.specs.Queues.{items_at}
use Rattle.pl_world.specs.declared.attachment.AttachmentPoint.{AttachmentPoint}
use Rattle.pl_world.specs.declared.event.Event.{Event}
use Rattle.pl_world.specs.declared.event.Event.TheVariants as event
use Rattle.pl_world.specs.declared.event.QueueName.TheVariants as queue
use Rattle.pl_world.specs.declared.item.Item.{Item}
use Rattle.pl_world.specs.declared.item.Item.TheVariants.{Control, Data}
use Rattle.pl_world.specs.declared.spoken_frame.SpokenFrame.{SpokenFrame}
use Rattle.pl_world.specs.declared.spoken_frame.SpokenFrame.TheVariants.{Over, Passed, Silent, Waiting}
use Rattle.pl_world.specs.Changes.{host_of, noted, out_of, receiver, said_to as said_to_one, said_to_switch, sent_by_host, switch_no}
use Rattle.pl_world.specs.Drops.{Coming, Turn, coming, coming_at, coming_from_manager, coming_in, coming_over, turn_at_switch, turn_from_host, turn_from_manager, turn_in, turn_of, turn_out, turn_over}
use Rattle.pl_world.specs.Drops.Turn.{OfSwitch}
use Rattle.pl_world.specs.LinksAndMoves.{host_moved, item_lost, link_between, link_failed, link_repaired}
use Rattle.pl_world.specs.OtherActs.{heard_after_tick, host_act_done, host_stepped, manager_act_done, reception_noted, skip_noted}
use Rattle.pl_world.specs.SwitchActs.{DuringActs, act_done, acts_done, begins, ended, granted, passed, redirected, switch_stepped}
use Rattle.pl_world.specs.WorldRule.{ComesAtHost, ComesAtSwitch, ComesIn, ComesOut, ComesOver, DeliversFromHost, DeliversFromManager, DeliversOut, DeliversToManager, HostMoves, HostTurn, LinkFails, LinkIsRepaired, Loses, SwitchTurn, WorldStep, heard_item, played_as}
use Rattle.pl_world.specs.Worlds.{WorldView}
use Rattle.pl_schedule.specs.Coming.{telling}
use Rattle.pl_watch.specs.Events.{manager_of}
use Rattle.pl_watch.specs.Logs.{said_in, said_to}

-- where it does not begin anew, it is to know what it knows
pub manager_stays : (w : WorldView) (e : Event) → (e ≡ event.Restart → ⊥) → manager_of w e ≡ w.manager
manager_stays w event.Restart other = absurd (other refl)
manager_stays w e other = refl

-- the switches and the manager are as they were
pub record AreSame (w v : WorldView) : Type 0 where
  pub switches : v.switches ≡ w.switches
  pub manager : v.manager ≡ w.manager

same : (w : WorldView) → AreSame w w
same w = record { switches = refl; manager = refl }

then_same : (u v w : WorldView) → AreSame u v → AreSame v w → AreSame u w
then_same u v w a b = record { switches = b.switches ∙ a.switches; manager = b.manager ∙ a.manager }

by_path : (w v u : WorldView) → u ≡ v → AreSame w v → AreSame w u
by_path w v u is a = record {
  switches = ap (λ (x : WorldView). x.switches) is ∙ a.switches;
  manager = ap (λ (x : WorldView). x.manager) is ∙ a.manager;
}

-- ---- the acts of a switch

granted_same : (w : WorldView) (s : ℕ) (pmac : Pmac) (h : Option ℕ) → AreSame w (granted w s pmac h)
granted_same w s pmac None = record { switches = refl; manager = refl }
granted_same w s pmac (Some h) = record { switches = refl; manager = refl }

redirected_same : (d : DuringActs) (old new : Pmac) (speech : SpokenFrame) → AreSame d.world (redirected d old new speech).world
redirected_same d old new Silent = record { switches = refl; manager = refl }
redirected_same d old new (Waiting id again) = record { switches = refl; manager = refl }
redirected_same d old new (Passed id) = record { switches = refl; manager = refl }
redirected_same d old new Over = record { switches = refl; manager = refl }

passed_same : (s : ℕ) (d : DuringActs) (port : ℕ) (frame : List ℕ) (speech : SpokenFrame) → AreSame d.world (passed s d port frame speech).world
passed_same s d port frame Silent = record { switches = refl; manager = refl }
passed_same s d port frame (Waiting id again) = record { switches = refl; manager = refl }
passed_same s d port frame (Passed id) = record { switches = refl; manager = refl }
passed_same s d port frame Over = record { switches = refl; manager = refl }

ended_same : (s : ℕ) (d : DuringActs) (end : ℕ → Entry) (speech : SpokenFrame) → AreSame d.world (ended s d end speech).world
ended_same s d end Silent = record { switches = refl; manager = refl }
ended_same s d end (Waiting id again) = record { switches = refl; manager = refl }
ended_same s d end (Passed id) = record { switches = refl; manager = refl }
ended_same s d end Over = record { switches = refl; manager = refl }

act_same : (s : ℕ) (d : DuringActs) (a : Act) → AreSame d.world (act_done s d a).world
act_same s d (act.Control port frame) = record { switches = refl; manager = refl }
act_same s d (act.Tell told) = record { switches = refl; manager = refl }
act_same s d (act.Grant pmac amac) = granted_same d.world s pmac (host_of d.world.plan amac)
act_same s d (act.Free pmac) = record { switches = refl; manager = refl }
act_same s d (act.Make frame) = record { switches = refl; manager = refl }
act_same s d (act.Redirect old new) = redirected_same d old new d.speech
act_same s d (act.Pass port frame) = passed_same s d port frame d.speech
act_same s d act.Take = ended_same s d _ d.speech
act_same s d (act.Drop cause) = ended_same s d _ d.speech

acts_same : (s : ℕ) (d : DuringActs) (acts : List Act) → AreSame d.world (acts_done s d acts).world
acts_same s d [] = same d.world
acts_same s d (a ∷ acts) = then_same d.world (act_done s d a).world _ (act_same s d a) (acts_same s (act_done s d a) acts)

stepped : (w : WorldView) (s : ℕ) (before after : SwitchView) (speech : SpokenFrame) (acts : List Act) →
    AreSame (record w { switches = set w.switches s after }) (switch_stepped w s before after speech acts)
stepped w s before after speech acts =
    let a = acts_same s (begins (record w { switches = set w.switches s after }) speech) acts in
    record { switches = a.switches; manager = a.manager }

-- ---- those of hosts and of the manager

host_acts_same : (h : ℕ) (w : WorldView) (acts : List HostAct) → AreSame w (fold (host_act_done h) w acts)
host_acts_same h w [] = same w
host_acts_same h w (Send frame ∷ acts) =
    then_same w (sent_by_host w h frame) _ (record { switches = refl; manager = refl }) (host_acts_same h (sent_by_host w h frame) acts)

host_turn_same : (rule : HostRule) (w : WorldView) (h : ℕ) (input : HostInput) (answer : HostAnswer) (new : WorldView) → HostTurn rule w h input answer new → AreSame w new
host_turn_same rule w h input answer new turn =
    let a = host_acts_same h (record w { hosts = set w.hosts h turn.after }) turn.acts in
    by_path w (host_stepped w h turn.after turn.acts) new turn.changed (record { switches = a.switches; manager = a.manager })

said_same : (w : WorldView) (says : ToSwitch) (s : Option ℕ) → AreSame w (said_to_one w says s)
said_same w says None = record { switches = refl; manager = refl }
said_same w says (Some s) = record { switches = refl; manager = refl }

manager_acts_same : (w : WorldView) (acts : List ManagerAct) → AreSame w (fold manager_act_done w acts)
manager_acts_same w [] = same w
manager_acts_same w (Say to says ∷ acts) =
    then_same w (said_to_switch w to says) _ (said_same w says (position (same_switch to) w.plan.ids)) (manager_acts_same (said_to_switch w to says) acts)
manager_acts_same w (Number pmac n ∷ acts) =
    then_same w (noted w (Registered pmac n)) _ (record { switches = refl; manager = refl }) (manager_acts_same (noted w (Registered pmac n)) acts)

-- ---- a switch takes what comes at it

pub record SwitchTakes (rule : SwitchRule) (w : WorldView) (c : Coming) (turn : Turn) (new : WorldView) : Type 0 where
  pub before : SwitchView
  pub after : SwitchView
  pub acts : List Act
  pub found : slice_get w.switches c.switch ≡ Some before
  pub ruled : rule before c.input after acts
  pub is : turn ≡ OfSwitch acts
  pub switches : new.switches ≡ set w.switches c.switch after
  pub manager : new.manager ≡ w.manager

takes : (rule : SwitchRule) (w v : WorldView) → AreSame w v → (c : Coming) (speech : SpokenFrame) (new : WorldView) (m : SwitchTurn rule v c.switch c.input speech new) →
    SwitchTakes rule w c (OfSwitch m.acts) new
takes rule w v first c speech new m =
    let step = stepped v c.switch m.before m.after speech m.acts in
    record {
      before = m.before;
      after = m.after;
      acts = m.acts;
      found = subst (λ (xs : List SwitchView). slice_get xs c.switch ≡ Some m.before) first.switches m.found;
      ruled = m.ruled;
      is = refl;
      switches = ap (λ (x : WorldView). x.switches) m.changed ∙ step.switches ∙ ap (λ (xs : List SwitchView). set xs c.switch m.after) first.switches;
      manager = ap (λ (x : WorldView). x.manager) m.changed ∙ step.manager ∙ first.manager;
    }

pub record ManagerTakes (rule : ManagerRule) (w : WorldView) (s : ℕ) (told : ToManager) (acts : List ManagerAct) (new : WorldView) : Type 0 where
  pub id : SwitchId
  pub after : ManagerView
  pub found : slice_get w.plan.ids s ≡ Some id
  pub ruled : rule w.manager id told after acts
  pub switches : new.switches ≡ w.switches
  pub manager : new.manager ≡ after

module _ (switch : SwitchRule) (manager : ManagerRule) (host : HostRule) where
  -- in whatever was to come
  abbrev TakesIt : WorldView → Option Coming → Turn → WorldView → Type 0
  TakesIt w o turn new = (c : Coming) → o ≡ Some c → SwitchTakes switch w c turn new

  takes_one : (w : WorldView) (x c : Coming) (turn : Turn) (new : WorldView) → Some x ≡ Some c → SwitchTakes switch w x turn new → SwitchTakes switch w c turn new
  takes_one w x c turn new is took = subst (λ y. SwitchTakes switch w y turn new) (same_Some x c is) took

  takes_at : (w v : WorldView) → AreSame w v → (s port : ℕ) (item : Item) (new : WorldView) (turn : ComesAtSwitch switch v s port item new) →
      TakesIt w (Some (coming_at s port item)) (turn_at_switch switch manager host v s port item new turn) new
  takes_at w v first s port (Control frame) new turn c is = takes_one w _ c _ new is (takes switch w v first (coming_at s port (Control frame)) Silent new turn)
  takes_at w v first s port (Data id frame) new turn c is =
      takes_one w _ c _ new is
      (takes switch w (noted v (Crossed id (switch_no s))) (record { switches = first.switches; manager = first.manager }) (coming_at s port (Data id frame)) (Waiting id false) new turn)

  takes_in : (w v : WorldView) → AreSame w v → (h : ℕ) (item : Item) (items : List Item) (attachment : Option AttachmentPoint) (new : WorldView)
      (turn : ComesIn switch v h item attachment new) → TakesIt w (coming_in (item ∷ items) attachment) (turn_in switch manager host v h item attachment new turn) new
  takes_in w v first h item items None new turn = absurd turn
  takes_in w v first h (Control frame) items (Some attachment) new turn = takes_at w v first attachment.edge.0 attachment.port (Control frame) new turn
  takes_in w v first h (Data id frame) items (Some attachment) new turn =
      takes_at w (heard_item v h (Data id frame)) (record { switches = first.switches; manager = first.manager }) attachment.edge.0 attachment.port (Data id frame) new turn

  module _ (old : WorldView) (n : ℕ) where
    takes_from_host : (h : ℕ) (items : List Item) (new : WorldView) (turn : DeliversFromHost switch (record old { steps = n }) h items new) →
        TakesIt old (coming_in items (slice_get old.attachments h)) (turn_from_host switch manager host (record old { steps = n }) h items new turn) new
    takes_from_host h [] new turn = absurd turn
    takes_from_host h (item ∷ items) new turn =
        takes_in old (record old { steps = n; from_hosts = set old.from_hosts h items }) (record { switches = refl; manager = refl }) h item items (slice_get old.attachments h) new turn

    takes_from_manager : (s : ℕ) (items : List ToSwitch) (new : WorldView) (turn : DeliversFromManager switch (record old { steps = n }) s items new) →
        TakesIt old (coming_from_manager s items) (turn_from_manager switch manager host (record old { steps = n }) s items new turn) new
    takes_from_manager s [] new turn = absurd turn
    takes_from_manager s (says ∷ items) new turn = λ c is.
        takes_one old (record { switch = s; input = Says says; frame = None }) c _ new is
        (takes switch old (record old { steps = n; from_manager = set old.from_manager s items }) (record { switches = refl; manager = refl })
        (record { switch = s; input = Says says; frame = None }) Silent new turn)

    takes_over : (s port : ℕ) (item : Item) (items : List Item) (peer : Peer) (new : WorldView)
        (turn : ComesOver switch host (record old { steps = n; out = set old.out (port_index old.plan.k s port) items }) s port item peer new) →
        TakesIt old (coming_over (item ∷ items) peer)
        (turn_over switch manager host (record old { steps = n; out = set old.out (port_index old.plan.k s port) items }) s port item peer new turn) new
    takes_over s port item items (Switch t q) new turn =
        takes_at old (record old { steps = n; out = set old.out (port_index old.plan.k s port) items }) (record { switches = refl; manager = refl }) t.0 q item new turn
    takes_over s port item items HostPort new turn = λ c is. absurd (cc)

    takes_out : (s port : ℕ) (items : List Item) (new : WorldView) (turn : DeliversOut switch host (record old { steps = n }) s port items new) →
        TakesIt old (coming_over items (peer_of old.plan s port)) (turn_out switch manager host (record old { steps = n }) s port items new turn) new
    takes_out s port [] new turn = absurd turn
    takes_out s port (item ∷ items) new turn = takes_over s port item items (peer_of old.plan s port) new turn

  pub step_turns : (old : WorldView) (happens : Event) (new : WorldView) (step : WorldStep switch manager host old happens new) →
      (c : Coming) → coming old happens ≡ Some c → SwitchTakes switch old c (turn_of switch manager host old happens new step) new
  step_turns old (event.Deliver (queue.FromHost h)) new step = takes_from_host old (old.steps + 1) h.0 (items_at old.from_hosts h.0) new step
  step_turns old (event.Deliver (queue.Port s port)) new step = takes_out old (old.steps + 1) s.0 port (out_of old s.0 port) new step
  step_turns old (event.Deliver (queue.FromManager s)) new step = takes_from_manager old (old.steps + 1) s.0 (items_at old.from_manager s.0) new step
  step_turns old (event.Tick s) new step = λ c is.
      takes_one old (record { switch = s.0; input = Tick; frame = None }) c _ new is
      (takes switch old (record old { steps = old.steps + 1; heard = heard_after_tick s.0 old.attachments old.heard }) (record { switches = refl; manager = refl })
      (record { switch = s.0; input = Tick; frame = None }) Silent new step)
  step_turns old happens new step = λ c is. absurd (cc)

  -- ---- no switch hears anything

  reception_same : (w : WorldView) (h id : ℕ) (frame : List ℕ) (reception : Reception) → AreSame w (reception_noted w h id frame reception)
  reception_same w h id frame Kept = record { switches = refl; manager = refl }
  reception_same w h id frame NotMember = record { switches = refl; manager = refl }

  at_host_same : (w : WorldView) (id : ℕ) (frame : List ℕ) (h : Option ℕ) (new : WorldView) → ComesAtHost host w id frame h new → AreSame w new
  at_host_same w id frame None new is = by_path w (noted w (Dropped id HostGone)) new is (record { switches = refl; manager = refl })
  at_host_same w id frame (Some h) new turn =
      then_same w (reception_noted w h id frame turn.reception) new (reception_same w h id frame turn.reception)
      (host_turn_same host (reception_noted w h id frame turn.reception) h (Receives frame) (Received turn.reception) new turn.turn)

  out_same : (w : WorldView) (s port : ℕ) (item : Item) (new : WorldView) → ComesOut host w s port item new → AreSame w new
  out_same w s port (Control frame) new is = by_path w w new is (same w)
  out_same w s port (Data id frame) new turn = at_host_same w id frame (receiver w s port frame) new turn

  unheard_over : (w : WorldView) (s port : ℕ) (item : Item) (items : List Item) (peer : Peer) (new : WorldView) → ComesOver switch host w s port item peer new →
      coming_over (item ∷ items) peer ≡ None → AreSame w new
  unheard_over w s port item items (Switch t q) new turn none = absurd (cc)
  unheard_over w s port item items HostPort new turn none = out_same w s port item new turn

  unheard_out : (w : WorldView) (s port : ℕ) (items : List Item) (new : WorldView) → DeliversOut switch host w s port items new →
      coming_over items (peer_of w.plan s port) ≡ None → AreSame w new
  unheard_out w s port [] new turn none = absurd turn
  unheard_out w s port (item ∷ items) new turn none =
      let a = unheard_over (record w { out = set w.out (port_index w.plan.k s port) items }) s port item items (peer_of w.plan s port) new turn none in
      record { switches = a.switches; manager = a.manager }

  unheard_in : (w : WorldView) (h : ℕ) (item : Item) (items : List Item) (attachment : Option AttachmentPoint) (new : WorldView) → ComesIn switch w h item attachment new →
      coming_in (item ∷ items) attachment ≡ None → AreSame w new
  unheard_in w h item items None new turn none = absurd turn
  unheard_in w h item items (Some attachment) new turn none = absurd (cc)

  unheard_from_host : (w : WorldView) (h : ℕ) (items : List Item) (new : WorldView) → DeliversFromHost switch w h items new →
      coming_in items (slice_get w.attachments h) ≡ None → AreSame w new
  unheard_from_host w h [] new turn none = absurd turn
  unheard_from_host w h (item ∷ items) new turn none =
      let a = unheard_in (record w { from_hosts = set w.from_hosts h items }) h item items (slice_get w.attachments h) new turn none in
      record { switches = a.switches; manager = a.manager }

  unheard_from_manager : (w : WorldView) (s : ℕ) (items : List ToSwitch) (new : WorldView) → DeliversFromManager switch w s items new → coming_from_manager s items ≡ None →
      AreSame w new
  unheard_from_manager w s [] new turn none = absurd turn
  unheard_from_manager w s (says ∷ items) new turn none = absurd (cc)

  fails_same : (w : WorldView) (link : Option Link) (new : WorldView) → LinkFails w link new → AreSame w new
  fails_same w None new fails = absurd fails
  fails_same w (Some link) new is = by_path w (link_failed w link) new is (record { switches = refl; manager = refl })

  repairs_same : (w : WorldView) (link : Option Link) (new : WorldView) → LinkIsRepaired w link new → AreSame w new
  repairs_same w None new repairs = absurd repairs
  repairs_same w (Some link) new is = by_path w (link_repaired w link) new is (record { switches = refl; manager = refl })

  lost_same : (w : WorldView) (item : Item) → AreSame w (item_lost w item)
  lost_same w (Control frame) = same w
  lost_same w (Data id frame) = record { switches = refl; manager = refl }

  loses_same : (w : WorldView) (s port : ℕ) (items : List Item) (new : WorldView) → Loses w s port items new → AreSame w new
  loses_same w s port [] new loses = absurd loses
  loses_same w s port (item ∷ items) new is =
      let v = record w { out = set w.out (port_index w.plan.k s port) items } in
      let a = lost_same v item in
      by_path w (item_lost v item) new is (record { switches = a.switches; manager = a.manager })

  moves_same : (w : WorldView) (h : ℕ) (to : AttachmentPoint) (from : Option AttachmentPoint) (new : WorldView) → HostMoves host w h to from new → AreSame w new
  moves_same w h to None new moves = absurd moves
  moves_same w h to (Some from) new turn =
      then_same w (host_moved w h from to) new (record { switches = refl; manager = refl }) (host_turn_same host (host_moved w h from to) h HasMoved Nothing new turn)

  skip_same : (w : WorldView) (h : ℕ) (skip : Option Skip) → AreSame w (skip_noted w h skip)
  skip_same w h None = same w
  skip_same w h (Some skip) = record { switches = refl; manager = refl }

  -- ---- the manager takes what it is told

  abbrev first_told : ℕ → List ToManager → Option (ℕ × ToManager)
  first_told s items = option_map (λ (told : ToManager). (s, told)) (slice_get items 0)

  untold_same : (w : WorldView) (s : ℕ) (items : List ToManager) (new : WorldView) → DeliversToManager manager w s items new → first_told s items ≡ None → AreSame w new
  untold_same w s [] new turn untold = absurd turn
  untold_same w s (told ∷ items) new turn untold = absurd (cc)

  told_takes : (w : WorldView) (s : ℕ) (items : List ToManager) (new : WorldView) (turn : DeliversToManager manager w s items new) (t : ℕ × ToManager) →
      first_told s items ≡ Some t → ManagerTakes manager w t.0 t.1 (said_to switch manager host w s items new turn) new
  told_takes w s [] new turn t is = absurd turn
  told_takes w s (told ∷ items) new turn t is =
      let a = manager_acts_same (record w { to_manager = set w.to_manager s items; manager = turn.after }) turn.acts in
      subst (λ (y : ℕ × ToManager). ManagerTakes manager w y.0 y.1 turn.acts new) (same_Some (s, told) t is) (record {
        id = turn.id;
        after = turn.after;
        found = turn.found;
        ruled = turn.ruled;
        switches = ap (λ (x : WorldView). x.switches) turn.changed ∙ a.switches;
        manager = ap (λ (x : WorldView). x.manager) turn.changed ∙ a.manager;
      })

  pub step_told : (old : WorldView) (happens : Event) (new : WorldView) (step : WorldStep switch manager host old happens new) (t : ℕ × ToManager) →
      telling old happens ≡ Some t → ManagerTakes manager old t.0 t.1 (said_in switch manager host old happens new step) new
  step_told old (event.Deliver (queue.ToManager s)) new step t is =
      let a = told_takes (record old { steps = old.steps + 1 }) s.0 (items_at old.to_manager s.0) new step t is in
      record { id = a.id; after = a.after; found = a.found; ruled = a.ruled; switches = a.switches; manager = a.manager }
  step_told old happens new step t is = absurd (cc)

  -- ---- nothing is heard

  -- the step is counted before it is made
  counted : (old new : WorldView) → AreSame (record old { steps = old.steps + 1 }) new → AreSame (record old { manager = old.manager }) new
  counted old new a = record { switches = a.switches; manager = a.manager }

  pub step_unheard : (old : WorldView) (happens : Event) (new : WorldView) → WorldStep switch manager host old happens new → coming old happens ≡ None →
      telling old happens ≡ None → AreSame (record old { manager = manager_of old happens }) new
  step_unheard old (event.Deliver (queue.FromHost h)) new step none untold =
      counted old new (unheard_from_host (record old { steps = old.steps + 1 }) h.0 (items_at old.from_hosts h.0) new step none)
  step_unheard old (event.Deliver (queue.Port s port)) new step none untold =
      counted old new (unheard_out (record old { steps = old.steps + 1 }) s.0 port (out_of old s.0 port) new step none)
  step_unheard old (event.Deliver (queue.ToManager s)) new step none untold =
      counted old new (untold_same (record old { steps = old.steps + 1 }) s.0 (items_at old.to_manager s.0) new step untold)
  step_unheard old (event.Deliver (queue.FromManager s)) new step none untold =
      counted old new (unheard_from_manager (record old { steps = old.steps + 1 }) s.0 (items_at old.from_manager s.0) new step none)
  step_unheard old (event.Tick s) new step none untold = absurd (cc)
  step_unheard old (event.Fail a b) new step none untold = counted old new (fails_same (record old { steps = old.steps + 1 }) (link_between old.plan a.0 b.0) new step)
  step_unheard old (event.Repair a b) new step none untold = counted old new (repairs_same (record old { steps = old.steps + 1 }) (link_between old.plan a.0 b.0) new step)
  step_unheard old (event.Lose s port) new step none untold = counted old new (loses_same (record old { steps = old.steps + 1 }) s.0 port (out_of old s.0 port) new step)
  step_unheard old (event.Move h s port) new step none untold =
      counted old new (moves_same (record old { steps = old.steps + 1 }) h.0 (record { edge = s; port = port }) (slice_get old.attachments h.0) new step)
  step_unheard old (event.Start h) new step none untold = counted old new (host_turn_same host (record old { steps = old.steps + 1 }) h.0 Starts Nothing new step)
  step_unheard old (event.Play h frame original raw) new step none untold =
      let w = record old { steps = old.steps + 1 } in
      counted old new (then_same w (skip_noted w h.0 step.skip) new (skip_same w h.0 step.skip)
      (host_turn_same host (skip_noted w h.0 step.skip) h.0 (played_as raw frame original) (Played step.skip) new step.turn))
  step_unheard old (event.Retry h) new step none untold = counted old new (host_turn_same host (record old { steps = old.steps + 1 }) h.0 Retries Nothing new step)
  step_unheard old (event.Join h group) new step none untold = counted old new (host_turn_same host (record old { steps = old.steps + 1 }) h.0 (Joins group) Nothing new step)
  step_unheard old (event.Leave h group) new step none untold = counted old new (host_turn_same host (record old { steps = old.steps + 1 }) h.0 (Leaves group) Nothing new step)
  step_unheard old event.Restart new step none untold = record { switches = ap (λ (x : WorldView). x.switches) step; manager = ap (λ (x : WorldView). x.manager) step }
