-- Rules that leave no choice determine each step of the world.
use Rattle.std.proofs.Common.{◌≡◌, ℕ, ◌+◌, List, [], ◌∷◌, Option, Some, None, set, slice_get, refl, sym, ◌∙◌, ap, subst}
use Rattle.pl_lemmas.proofs.Exports.{found_once}
use Rattle.pl_frame.specs.declared.address.SwitchId.{SwitchId}
use Rattle.pl_wiring.specs.declared.link.Link.{Link}
use Rattle.pl_wiring.specs.declared.link.Peer.{Peer}
use Rattle.pl_wiring.specs.declared.link.Peer.TheVariants.{HostPort, Switch}
use Rattle.pl_wiring.specs.Index.{port_index}
use Rattle.pl_wiring.specs.Peers.{peer_of}
use Rattle.pl_journal.specs.declared.cause.Skip.{Skip}
use Rattle.pl_node.specs.declared.acts.Act.{Act}
use Rattle.pl_node.specs.declared.acts.HostAct.{HostAct}
use Rattle.pl_node.specs.declared.acts.ManagerAct.{ManagerAct}
use Rattle.pl_node.specs.declared.messages.ToManager.{ToManager}
use Rattle.pl_node.specs.declared.messages.ToSwitch.{ToSwitch}
use Rattle.pl_node.specs.declared.reception.Reception.{Reception}
use Rattle.pl_node.specs.declared.reception.Reception.TheVariants.{Kept, NotMember}
use Rattle.pl_node.specs.HostInputs.{HostAnswer, HostInput, HostRule}
use Rattle.pl_node.specs.HostInputs.HostAnswer.{Played, Received}
use Rattle.pl_node.specs.HostInputs.HostInput.{Receives}
use Rattle.pl_node.specs.HostViews.{HostView}
use Rattle.pl_node.specs.ManagerDuties.{ManagerRule}
use Rattle.pl_node.specs.ManagerViews.{ManagerView}
use Rattle.pl_node.specs.SwitchInputs.{SwitchInput, SwitchRule}
use Rattle.pl_node.specs.SwitchViews.{SwitchView}
use Rattle.pl_queues.specs.Queues.{items_at}
use Rattle.pl_world.specs.declared.event.Event.{Event}
use Rattle.pl_world.specs.declared.event.Event.TheVariants as event
use Rattle.pl_world.specs.declared.event.QueueName.{QueueName}
use Rattle.pl_world.specs.declared.event.QueueName.TheVariants as queue
use Rattle.pl_world.specs.declared.item.Item.{Item}
use Rattle.pl_world.specs.declared.item.Item.TheVariants.{Control, Data}
use Rattle.pl_world.specs.declared.spoken_frame.SpokenFrame.{SpokenFrame}
use Rattle.pl_world.specs.declared.attachment.AttachmentPoint.{AttachmentPoint}
use Rattle.pl_world.specs.Changes.{out_of, receiver}
use Rattle.pl_world.specs.LinksAndMoves.{host_moved, link_between}
use Rattle.pl_world.specs.OtherActs.{host_stepped, manager_stepped, reception_noted, skip_noted}
use Rattle.pl_world.specs.Runs.{Moment, WorldRun}
use Rattle.pl_world.specs.Runs.Moment.{Mark, Step}
use Rattle.pl_world.specs.SwitchActs.{switch_stepped}
use Rattle.pl_world.specs.WorldRule.{ComesAtHost, ComesAtSwitch, ComesIn, ComesOut, ComesOver, Delivers, DeliversFromHost, DeliversFromManager, DeliversOut, DeliversToManager, LinkFails, HostMoves, Happens, HostTurn, HostPlays, HostReceives, LinkIsRepaired, Loses, ManagerTurn, SwitchTurn, WorldStep, heard_item}
use Rattle.pl_world.specs.Worlds.{WorldView}
use Rattle.pl_law_runs.specs.NoChoice.{LeavesHostNoChoice, LeavesManagerNoChoice, LeavesSwitchNoChoice}

module _ (rule : SwitchRule) (one_way : LeavesSwitchNoChoice rule) where
  switch_turns : (w : WorldView) (s : ℕ) (input : SwitchInput) (speech : SpokenFrame) (a b : WorldView) →
      SwitchTurn rule w s input speech a → SwitchTurn rule w s input speech b → a ≡ b
  switch_turns w s input speech a b one other =
      let same : other.before ≡ one.before = found_once w.switches s other.before one.before other.found one.found in
      let both = one_way one.before input one.after other.after one.acts other.acts one.ruled
      (subst (λ (v : SwitchView). rule v input other.after other.acts) same other.ruled) in
      one.changed
      ∙ ap (λ (v : SwitchView). switch_stepped w s v one.after speech one.acts) (sym same)
      ∙ ap (λ (v : SwitchView). switch_stepped w s other.before v speech one.acts) both.0
      ∙ ap (λ (acts : List Act). switch_stepped w s other.before other.after speech acts) both.1
      ∙ sym other.changed

  at_switch : (w : WorldView) (s port : ℕ) (item : Item) (a b : WorldView) → ComesAtSwitch rule w s port item a → ComesAtSwitch rule w s port item b → a ≡ b
  at_switch w s port (Control frame) a b one other = switch_turns w s _ _ a b one other
  at_switch w s port (Data id frame) a b one other = switch_turns _ s _ _ a b one other

  come_in : (w : WorldView) (h : ℕ) (item : Item) (attachment : Option AttachmentPoint) (a b : WorldView) → ComesIn rule w h item attachment a → ComesIn rule w h item attachment b → a ≡ b
  come_in w h item None a b one other = absurd one
  come_in w h item (Some attachment) a b one other = at_switch (heard_item w h item) attachment.edge.0 attachment.port item a b one other

  from_host : (w : WorldView) (h : ℕ) (items : List Item) (a b : WorldView) → DeliversFromHost rule w h items a → DeliversFromHost rule w h items b → a ≡ b
  from_host w h [] a b one other = absurd one
  from_host w h (item ∷ items) a b one other = come_in (record w { from_hosts = set w.from_hosts h items }) h item (slice_get w.attachments h) a b one other

  from_manager : (w : WorldView) (s : ℕ) (items : List ToSwitch) (a b : WorldView) → DeliversFromManager rule w s items a → DeliversFromManager rule w s items b → a ≡ b
  from_manager w s [] a b one other = absurd one
  from_manager w s (says ∷ items) a b one other = switch_turns _ s _ _ a b one other

module _ (rule : HostRule) (one_way : LeavesHostNoChoice rule) where
  -- the same host answers the same, also in worlds that differ elsewhere
  same_answers : (v w : WorldView) (h : ℕ) (input : HostInput) (p q : HostAnswer) (a b : WorldView) → v.hosts ≡ w.hosts →
      HostTurn rule v h input p a → HostTurn rule w h input q b → p ≡ q
  same_answers v w h input p q a b hosts one other =
      let found : slice_get w.hosts h ≡ Some one.before = subst (λ (hosts : List HostView). slice_get hosts h ≡ Some one.before) hosts one.found in
      let same : other.before ≡ one.before = found_once w.hosts h other.before one.before other.found found in
      (one_way one.before input one.after other.after one.acts other.acts p q one.ruled
      (subst (λ (view : HostView). rule view input other.after other.acts q) same other.ruled)).2

  host_turns : (w : WorldView) (h : ℕ) (input : HostInput) (answer : HostAnswer) (a b : WorldView) →
      HostTurn rule w h input answer a → HostTurn rule w h input answer b → a ≡ b
  host_turns w h input answer a b one other =
      let same : other.before ≡ one.before = found_once w.hosts h other.before one.before other.found one.found in
      let both = one_way one.before input one.after other.after one.acts other.acts answer answer one.ruled
      (subst (λ (view : HostView). rule view input other.after other.acts answer) same other.ruled) in
      one.changed
      ∙ ap (λ (view : HostView). host_stepped w h view one.acts) both.0
      ∙ ap (λ (acts : List HostAct). host_stepped w h other.after acts) both.1
      ∙ sym other.changed

  skip_hosts : (w : WorldView) (h : ℕ) (skip : Option Skip) → (skip_noted w h skip).hosts ≡ w.hosts
  skip_hosts w h None = refl
  skip_hosts w h (Some skip) = refl

  plays : (w : WorldView) (h : ℕ) (input : HostInput) (a b : WorldView) → HostPlays rule w h input a → HostPlays rule w h input b → a ≡ b
  plays w h input a b one other =
      let answers : Played one.skip ≡ Played other.skip =
      same_answers (skip_noted w h one.skip) (skip_noted w h other.skip) h input (Played one.skip) (Played other.skip) a b
      (skip_hosts w h one.skip ∙ sym (skip_hosts w h other.skip)) one.turn other.turn in
      let same : other.skip ≡ one.skip = cc in
      host_turns (skip_noted w h one.skip) h input (Played one.skip) a b one.turn
      (subst (λ (skip : Option Skip). HostTurn rule (skip_noted w h skip) h input (Played skip) b) same other.turn)

  reception_hosts : (w : WorldView) (h id : ℕ) (frame : List ℕ) (reception : Reception) → (reception_noted w h id frame reception).hosts ≡ w.hosts
  reception_hosts w h id frame Kept = refl
  reception_hosts w h id frame NotMember = refl

  receives : (w : WorldView) (h id : ℕ) (frame : List ℕ) (a b : WorldView) → HostReceives rule w h id frame a → HostReceives rule w h id frame b → a ≡ b
  receives w h id frame a b one other =
      let answers : Received one.reception ≡ Received other.reception =
      same_answers (reception_noted w h id frame one.reception) (reception_noted w h id frame other.reception) h (Receives frame)
      (Received one.reception) (Received other.reception) a b
      (reception_hosts w h id frame one.reception ∙ sym (reception_hosts w h id frame other.reception)) one.turn other.turn in
      let same : other.reception ≡ one.reception = cc in
      host_turns (reception_noted w h id frame one.reception) h (Receives frame) (Received one.reception) a b one.turn
      (subst (λ (reception : Reception). HostTurn rule (reception_noted w h id frame reception) h (Receives frame) (Received reception) b) same other.turn)

  at_host : (w : WorldView) (id : ℕ) (frame : List ℕ) (to : Option ℕ) (a b : WorldView) → ComesAtHost rule w id frame to a → ComesAtHost rule w id frame to b → a ≡ b
  at_host w id frame None a b one other = one ∙ sym other
  at_host w id frame (Some h) a b one other = receives w h id frame a b one other

  comes_out : (w : WorldView) (s port : ℕ) (item : Item) (a b : WorldView) → ComesOut rule w s port item a → ComesOut rule w s port item b → a ≡ b
  comes_out w s port (Control frame) a b one other = one ∙ sym other
  comes_out w s port (Data id frame) a b one other = at_host w id frame (receiver w s port frame) a b one other

  goes : (w : WorldView) (h : ℕ) (to : AttachmentPoint) (from : Option AttachmentPoint) (a b : WorldView) → HostMoves rule w h to from a → HostMoves rule w h to from b → a ≡ b
  goes w h to None a b one other = absurd one
  goes w h to (Some from) a b one other = host_turns (host_moved w h from to) h _ _ a b one other

module _ (rule : ManagerRule) (one_way : LeavesManagerNoChoice rule) where
  manager_turns : (w : WorldView) (s : ℕ) (told : ToManager) (a b : WorldView) → ManagerTurn rule w s told a → ManagerTurn rule w s told b → a ≡ b
  manager_turns w s told a b one other =
      let same : other.id ≡ one.id = found_once w.plan.ids s other.id one.id other.found one.found in
      let both = one_way w.manager one.id told one.after other.after one.acts other.acts one.ruled
      (subst (λ (id : SwitchId). rule w.manager id told other.after other.acts) same other.ruled) in
      one.changed
      ∙ ap (λ (view : ManagerView). manager_stepped w view one.acts) both.0
      ∙ ap (λ (acts : List ManagerAct). manager_stepped w other.after acts) both.1
      ∙ sym other.changed

  to_manager : (w : WorldView) (s : ℕ) (items : List ToManager) (a b : WorldView) → DeliversToManager rule w s items a → DeliversToManager rule w s items b → a ≡ b
  to_manager w s [] a b one other = absurd one
  to_manager w s (told ∷ items) a b one other = manager_turns (record w { to_manager = set w.to_manager s items }) s told a b one other

fails : (w : WorldView) (link : Option Link) (a b : WorldView) → LinkFails w link a → LinkFails w link b → a ≡ b
fails w None a b one other = absurd one
fails w (Some link) a b one other = one ∙ sym other

repaired : (w : WorldView) (link : Option Link) (a b : WorldView) → LinkIsRepaired w link a → LinkIsRepaired w link b → a ≡ b
repaired w None a b one other = absurd one
repaired w (Some link) a b one other = one ∙ sym other

loses : (w : WorldView) (s port : ℕ) (items : List Item) (a b : WorldView) → Loses w s port items a → Loses w s port items b → a ≡ b
loses w s port [] a b one other = absurd one
loses w s port (item ∷ items) a b one other = one ∙ sym other

module _ (switch : SwitchRule) (manager : ManagerRule) (host : HostRule) (switches : LeavesSwitchNoChoice switch) (managers : LeavesManagerNoChoice manager) (hosts : LeavesHostNoChoice host) where
  over : (w : WorldView) (s port : ℕ) (item : Item) (peer : Peer) (a b : WorldView) → ComesOver switch host w s port item peer a →
      ComesOver switch host w s port item peer b → a ≡ b
  over w s port item (Switch t q) a b one other = at_switch switch switches w t.0 q item a b one other
  over w s port item HostPort a b one other = comes_out host hosts w s port item a b one other

  delivers_out : (w : WorldView) (s port : ℕ) (items : List Item) (a b : WorldView) → DeliversOut switch host w s port items a →
      DeliversOut switch host w s port items b → a ≡ b
  delivers_out w s port [] a b one other = absurd one
  delivers_out w s port (item ∷ items) a b one other =
      over (record w { out = set w.out (port_index w.plan.k s port) items }) s port item (peer_of w.plan s port) a b one other

  delivers : (w : WorldView) (name : QueueName) (a b : WorldView) → Delivers switch manager host w name a → Delivers switch manager host w name b → a ≡ b
  delivers w (queue.FromHost h) a b one other = from_host switch switches w h.0 (items_at w.from_hosts h.0) a b one other
  delivers w (queue.Port s port) a b one other = delivers_out w s.0 port (out_of w s.0 port) a b one other
  delivers w (queue.ToManager s) a b one other = to_manager manager managers w s.0 (items_at w.to_manager s.0) a b one other
  delivers w (queue.FromManager s) a b one other = from_manager switch switches w s.0 (items_at w.from_manager s.0) a b one other

  happens : (w : WorldView) (e : Event) (a b : WorldView) → Happens switch manager host w e a → Happens switch manager host w e b → a ≡ b
  happens w (event.Deliver name) a b one other = delivers w name a b one other
  happens w (event.Tick s) a b one other = switch_turns switch switches _ s.0 _ _ a b one other
  happens w (event.Fail x y) a b one other = fails w (link_between w.plan x.0 y.0) a b one other
  happens w (event.Repair x y) a b one other = repaired w (link_between w.plan x.0 y.0) a b one other
  happens w (event.Lose s port) a b one other = loses w s.0 port (out_of w s.0 port) a b one other
  happens w (event.Move h s port) a b one other = goes host hosts w h.0 _ (slice_get w.attachments h.0) a b one other
  happens w (event.Start h) a b one other = host_turns host hosts w h.0 _ _ a b one other
  happens w (event.Play h frame original raw) a b one other = plays host hosts w h.0 _ a b one other
  happens w (event.Retry h) a b one other = host_turns host hosts w h.0 _ _ a b one other
  happens w (event.Join h group) a b one other = host_turns host hosts w h.0 _ _ a b one other
  happens w (event.Leave h group) a b one other = host_turns host hosts w h.0 _ _ a b one other
  happens w event.Restart a b one other = one ∙ sym other

  -- two steps of one world by one event end in one world
  pub steps_agree : (old : WorldView) (e : Event) (a b : WorldView) → WorldStep switch manager host old e a → WorldStep switch manager host old e b → a ≡ b
  steps_agree old e a b one other = happens (record old { steps = old.steps + 1 }) e a b one other

  -- and so do two runs by the same moments
  pub runs_agree : (old : WorldView) (moments : List Moment) (a b : WorldView) → WorldRun switch manager host old moments a →
      WorldRun switch manager host old moments b → a ≡ b
  runs_agree old [] a b one other = one ∙ sym other
  runs_agree old (Step e ∷ moments) a b one other =
      let same : other.0 ≡ one.0 = steps_agree old e other.0 one.0 other.1.1 one.1.1 in
      runs_agree one.0 moments a b one.2 (subst (λ (w : WorldView). WorldRun switch manager host w moments b) same other.2)
  runs_agree old (Mark entry ∷ moments) a b one other =
      let same : other.0 ≡ one.0 = other.1.1 ∙ sym one.1.1 in
      runs_agree one.0 moments a b one.2 (subst (λ (w : WorldView). WorldRun switch manager host w moments b) same other.2)
