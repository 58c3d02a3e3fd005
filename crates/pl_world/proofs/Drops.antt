-- What a step writes of dropped frames.
use Rattle.std.proofs.Common.{◌≡◌, ◌≢◌, ◌<◌, ℕ, ◌+◌, List, [], ◌∷◌, ◌++◌, Contains, drop, filter_map, fold, length, map, take, Option, None, Some, set, slice_get, refl, sym, ◌∙◌, ap, subst, append-nil, arith}
use Rattle.std.proofs.Math.Seq.{drop-append_seam}
use Rattle.std.proofs.lemmas.List.{get_or-set_other, map-append}
use Rattle.std.proofs.lemmas.List.Elements.{filter_map-append}
use Rattle.std.proofs.lemmas.Nat.{same_from_place}
use Rattle.std.proofs.lemmas.Option.{same_Some}
use Rattle.pl_wiring.specs.declared.host.HostNo.{HostNo}
use Rattle.pl_wiring.specs.declared.label.SwitchNo.{SwitchNo}
use Rattle.pl_wiring.specs.declared.link.Link.{Link}
use Rattle.pl_wiring.specs.declared.link.Peer.{Peer}
use Rattle.pl_wiring.specs.declared.link.Peer.TheVariants.{HostPort, Switch}
use Rattle.pl_wiring.specs.FatTree.{IsTreeLink}
use Rattle.pl_wiring.specs.Index.{port_index}
use Rattle.pl_wiring.specs.Peers.{peer_of}
use Rattle.pl_wiring.specs.Plan.{IsPlan, Plan}
use Rattle.pl_wiring.proofs.Exports.{at_contained, link_rises}
use Rattle.pl_node.specs.declared.acts.Act.{Act}
use Rattle.pl_node.specs.declared.acts.HostAct.{HostAct}
use Rattle.pl_node.specs.declared.acts.HostAct.TheVariants.{Send}
use Rattle.pl_node.specs.declared.acts.ManagerAct.{ManagerAct}
use Rattle.pl_node.specs.declared.acts.ManagerAct.TheVariants.{Number, Say}
use Rattle.pl_node.specs.declared.messages.ToManager.{ToManager}
use Rattle.pl_node.specs.declared.messages.ToSwitch.{ToSwitch}
use Rattle.pl_node.specs.declared.reception.Reception.{Reception}
use Rattle.pl_node.specs.declared.reception.Reception.TheVariants.{Kept, NotMember}
use Rattle.pl_node.specs.HostInputs.{HostAnswer, HostInput, HostRule}
use Rattle.pl_node.specs.ManagerDuties.{ManagerRule}
use Rattle.pl_node.specs.SwitchInputs.{SwitchRule}
use Rattle.pl_node.specs.SwitchInputs.SwitchInput.{Says, Tick}
use Rattle.pl_node.specs.SwitchViews.{SwitchView}
use Rattle.pl_journal.specs.declared.cause.Cause.{Cause}
use Rattle.pl_journal.specs.declared.cause.Cause.TheVariants.{HostGone, LinkDown, Lost, NoMember}
use Rattle.pl_journal.specs.declared.cause.Skip.{Skip}
use Rattle.pl_journal.specs.declared.entry.Entry.{Entry}
use Rattle.pl_journal.specs.declared.entry.Entry.TheVariants.{Arrived, LinkDown as WentDown, LinkUp, Moved, Registered, Restarted, Sent, Skipped}
use Rattle.pl_queues.specs.Queues.{items_at}
use Rattle.pl_world.specs.declared.event.Event.{Event}
use Rattle.pl_world.specs.declared.event.Event.TheVariants as event
use Rattle.pl_world.specs.declared.event.QueueName.TheVariants as queue
use Rattle.pl_world.specs.declared.item.Item.{Item}
use Rattle.pl_world.specs.declared.item.Item.TheVariants.{Control, Data}
use Rattle.pl_world.specs.declared.spoken_frame.SpokenFrame.{SpokenFrame}
use Rattle.pl_world.specs.declared.spoken_frame.SpokenFrame.TheVariants.{Silent}
use Rattle.pl_world.specs.declared.attachment.AttachmentPoint.{AttachmentPoint}
use Rattle.pl_world.specs.Changes.{ends_of, host_no, out_of, receiver, said_to}
use Rattle.pl_world.specs.Drops.{Coming, Turn, at_port, coming, coming_at, coming_from_manager, coming_in, coming_over, dropped, dropped_at, dropped_from, drops_in, made, made_at, made_in, number_in, on_link, turn_at_host, turn_at_switch, turn_from_host, turn_from_manager, turn_in, turn_of, turn_out, turn_over, written}
use Rattle.pl_world.specs.Drops.Turn.{OfHost, OfSwitch, Other}
use Rattle.pl_world.specs.LinksAndMoves.{joins, link_between}
use Rattle.pl_world.specs.Restarting.{manager_restarted}
use Rattle.pl_world.specs.OtherActs.{host_act_done, manager_act_done, reception_noted, skip_noted}
use Rattle.pl_world.specs.WorldRule.{ComesAtHost, ComesAtSwitch, ComesIn, ComesOver, DeliversFromHost, DeliversFromManager, DeliversOut, DeliversToManager, LinkFails, HostMoves, HostTurn, HostPlays, LinkIsRepaired, Loses, SwitchTurn, WorldStep, heard_item}
use Rattle.pl_world.specs.Worlds.{WorldView}
use Rattle.pl_world.proofs.StepBalances.{found_contained}
use Rattle.pl_world.proofs.SwitchDrops.{Adds, adds_drop, adds_is, adds_listed, adds_nothing, adds_quiet, adds_then, none_came, one_came}

-- ---- hosts and the manager drop and make nothing
adds_host_acts : (w : WorldView) (h : ℕ) (acts : List HostAct) → Adds w.journal (fold (host_act_done h) w acts).journal [] []
adds_host_acts w h [] = adds_nothing w.journal
adds_host_acts w h (Send frame ∷ acts) =
    adds_then (adds_quiet w.journal (Sent (w.begun + 1) (host_no h) frame) refl refl) (adds_host_acts (host_act_done h w (Send frame)) h acts)

adds_turn : (rule : HostRule) (w : WorldView) (h : ℕ) (input : HostInput) (answer : HostAnswer) (new : WorldView) → HostTurn rule w h input answer new →
    Adds w.journal new.journal [] []
adds_turn rule w h input answer new moves = subst (λ (x : WorldView). Adds w.journal x.journal [] []) (sym moves.changed)
    (adds_host_acts (record w { hosts = set w.hosts h moves.after }) h moves.acts)

-- what was dropped before a host's acts is all that was
adds_before : {drops : List (ℕ × Cause)} (rule : HostRule) (before : List Entry) (w : WorldView) (h : ℕ) (input : HostInput) (answer : HostAnswer) (new : WorldView) →
    HostTurn rule w h input answer new → Adds before w.journal drops [] → Adds before new.journal drops []
adds_before {drops} rule before w h input answer new moves x = adds_is (append-nil drops) refl (adds_then x (adds_turn rule w h input answer new moves))

said_journal : (w : WorldView) (says : ToSwitch) (to : Option ℕ) → (said_to w says to).journal ≡ w.journal
said_journal w says None = refl
said_journal w says (Some s) = refl

adds_manager_acts : (w : WorldView) (acts : List ManagerAct) → Adds w.journal (fold manager_act_done w acts).journal [] []
adds_manager_acts w [] = adds_nothing w.journal
adds_manager_acts w (Say to says ∷ acts) =
    subst (λ j. Adds j (fold manager_act_done (manager_act_done w (Say to says)) acts).journal [] []) (said_journal w says _)
    (adds_manager_acts (manager_act_done w (Say to says)) acts)
adds_manager_acts w (Number pmac n ∷ acts) =
    adds_then (adds_quiet w.journal (Registered pmac n) refl refl) (adds_manager_acts (manager_act_done w (Number pmac n)) acts)

adds_played : (rule : HostRule) (w : WorldView) (h : ℕ) (input : HostInput) (new : WorldView) → HostPlays rule w h input new → Adds w.journal new.journal [] []
adds_played rule w h input new plays = adds_before rule w.journal (skip_noted w h plays.skip) h input _ new plays.turn (skipped plays.skip)
  where
    skipped : (skip : Option Skip) → Adds w.journal (skip_noted w h skip).journal [] []
    skipped None = adds_nothing w.journal
    skipped (Some skip) = adds_quiet w.journal (Skipped (host_no h) skip) refl refl

-- ---- queues that are emptied
ends_drop : (cause : Cause) (items : List Item) → drops_in (ends_of cause items) ≡ dropped_from items cause
ends_drop cause [] = refl
ends_drop cause (Control frame ∷ items) = ends_drop cause items
ends_drop cause (Data id frame ∷ items) = ap (λ ds. (id, cause) ∷ ds) (ends_drop cause items)

ends_make : (cause : Cause) (items : List Item) → made_in (ends_of cause items) ≡ []
ends_make cause [] = refl
ends_make cause (Control frame ∷ items) = ends_make cause items
ends_make cause (Data id frame ∷ items) = ends_make cause items

adds_ends : (j : List Entry) (cause : Cause) (items : List Item) → Adds j (j ++ ends_of cause items) (dropped_from items cause) []
adds_ends j cause items = adds_is (ends_drop cause items) (ends_make cause items) (adds_listed j (ends_of cause items))

from_both : (one other : List Item) (cause : Cause) → dropped_from one cause ++ dropped_from other cause ≡ dropped_from (one ++ other) cause
from_both one other cause =
    sym (ap (map (λ id. (id, cause))) (filter_map-append number_in one other) ∙ map-append (λ id. (id, cause)) (filter_map number_in one) (filter_map number_in other))

-- the two ends of a link have queues of their own
ends_apart : (plan : Plan) (a b : ℕ) (link : Link) → IsPlan plan → link_between plan a b ≡ Some link →
    port_index plan.k link.lower.0 link.lower_port ≢ port_index plan.k link.upper.0 link.upper_port
ends_apart plan a b link is found same =
    let there : Contains plan.links link = found_contained (joins a b) plan.links link found in
    let rises = link_rises plan.k link (at_contained (IsTreeLink plan.k) plan.links link is.tree.no_other there) in
    let ports = at_contained (λ l. (l.lower_port < plan.k) × (l.upper_port < plan.k)) plan.links link is.tree.ports_in_range there in
    let alike = same_from_place link.lower.0 link.lower_port link.upper.0 link.upper_port plan.k ports.0 ports.1 same in
    absurd (omega (arith, rises, alike.0))

module _ (w : WorldView) (n : ℕ) where
  adds_lost : (s port : ℕ) (items : List Item) (new : WorldView) → Loses (record w { steps = n }) s port items new →
      Adds w.journal new.journal (dropped_from (take 1 items) Lost) []
  adds_lost s port [] new gone = absurd gone
  adds_lost s port (Control frame ∷ items) new gone = subst (λ (x : WorldView). Adds w.journal x.journal [] []) (sym gone) (adds_nothing w.journal)
  adds_lost s port (Data id frame ∷ items) new gone = subst (λ (x : WorldView). Adds w.journal x.journal ((id, Lost) ∷ []) []) (sym gone) (adds_drop w.journal id Lost)

  adds_failed : (a b : ℕ) (link : Option Link) (new : WorldView) → IsPlan w.plan → link_between w.plan a b ≡ link → LinkFails (record w { steps = n }) link new →
      Adds w.journal new.journal (dropped_from (on_link w link) LinkDown) []
  adds_failed a b None new plan found is = absurd is
  adds_failed a b (Some link) new plan found is =
      let up : List Item = out_of w link.lower.0 link.lower_port in
      let down : List Item = out_of w link.upper.0 link.upper_port in
      let one : ℕ = port_index w.plan.k link.lower.0 link.lower_port in
      let other : ℕ = port_index w.plan.k link.upper.0 link.upper_port in
      let kept : items_at (set w.out one []) other ≡ down = get_or-set_other w.out one other [] [] (λ e. ends_apart w.plan a b link plan found (sym e)) in
      subst (λ (x : WorldView). Adds w.journal x.journal (dropped_from (up ++ down) LinkDown) []) (sym is)
      (adds_is (ap (λ items. dropped_from up LinkDown ++ dropped_from items LinkDown) kept ∙ from_both up down LinkDown) refl
      (adds_then (adds_quiet w.journal (WentDown link.lower link.upper) refl refl)
      (adds_then (adds_ends (w.journal ++ WentDown link.lower link.upper ∷ []) LinkDown up) (adds_ends _ LinkDown (items_at (set w.out one []) other)))))

  adds_gone : (host : HostRule) (h : ℕ) (to : AttachmentPoint) (from : Option AttachmentPoint) (new : WorldView) → HostMoves host (record w { steps = n }) h to from new →
      Adds w.journal new.journal (dropped_from (items_at w.from_hosts h ++ at_port w from) HostGone) []
  adds_gone host h to None new goes = absurd goes
  adds_gone host h to (Some from) new goes =
      adds_before host w.journal _ h _ _ new goes
      (adds_is (from_both (items_at w.from_hosts h) (out_of w from.edge.0 from.port) HostGone) refl
      (adds_then (adds_quiet w.journal (Moved (host_no h) to.edge to.port) refl refl)
      (adds_then (adds_ends (w.journal ++ Moved (host_no h) to.edge to.port ∷ []) HostGone (items_at w.from_hosts h))
      (adds_ends _ HostGone (out_of w from.edge.0 from.port)))))

  repaired : (link : Option Link) (new : WorldView) → LinkIsRepaired (record w { steps = n }) link new → Adds w.journal new.journal [] []
  repaired None new is = absurd is
  repaired (Some link) new is = subst (λ (x : WorldView). Adds w.journal x.journal [] []) (sym is) (adds_quiet w.journal (LinkUp link.lower link.upper) refl refl)

  anew : (new : WorldView) → new ≡ manager_restarted (record w { steps = n }) → Adds w.journal new.journal [] []
  anew new is = subst (λ (x : WorldView). Adds w.journal x.journal [] []) (sym is) (adds_quiet w.journal (Restarted (w.manager.epoch + 1)) refl refl)

  told : (manager : ManagerRule) (s : ℕ) (items : List ToManager) (new : WorldView) → DeliversToManager manager (record w { steps = n }) s items new → Adds w.journal new.journal [] []
  told manager s [] new moves = absurd moves
  told manager s (message ∷ items) new moves = subst (λ (x : WorldView). Adds w.journal x.journal [] []) (sym moves.changed)
      (adds_manager_acts (record w { steps = n; to_manager = set w.to_manager s items; manager = moves.after }) moves.acts)

-- ---- whose turn it is
abbrev by_switch : WorldView → Option Coming → Turn → List (ℕ × Cause)
by_switch w c (OfSwitch acts) = dropped_at w c acts
by_switch w c turn = []

abbrev by_port : WorldView → Option Coming → List Item → Turn → List (ℕ × Cause)
by_port w c items (OfSwitch acts) = dropped_at w c acts
by_port w c items (OfHost Kept) = []
by_port w c items (OfHost NotMember) = dropped_from (take 1 items) NoMember
by_port w c items Other = dropped_from (take 1 items) HostGone

abbrev made_by : WorldView → Option Coming → Turn → List ℕ
made_by w c (OfSwitch acts) = made_at w c acts
made_by w c turn = []

abbrev AddsBySwitch : WorldView → WorldView → Option Coming → Turn → Type 0
AddsBySwitch w new c turn = Adds w.journal new.journal (by_switch w c turn) (made_by w c turn)

abbrev AddsByPort : WorldView → WorldView → Option Coming → List Item → Turn → Type 0
AddsByPort w new c items turn = Adds w.journal new.journal (by_port w c items turn) (made_by w c turn)

module _ (switch : SwitchRule) (manager : ManagerRule) (host : HostRule) where
  at_switch : (w : WorldView) (s port : ℕ) (item : Item) (new : WorldView) (turn : ComesAtSwitch switch w s port item new) →
      AddsBySwitch w new (Some (coming_at s port item)) (turn_at_switch switch manager host w s port item new turn)
  at_switch w s port (Control frame) new turn = none_came switch w s _ new turn
  at_switch w s port (Data id frame) new turn = one_came switch w s _ id new turn

  comes_in : (w : WorldView) (h : ℕ) (item : Item) (items : List Item) (attachment : Option AttachmentPoint) (new : WorldView) (turn : ComesIn switch w h item attachment new) →
      AddsBySwitch w new (coming_in (item ∷ items) attachment) (turn_in switch manager host w h item attachment new turn)
  comes_in w h item items None new turn = absurd turn
  comes_in w h (Control frame) items (Some attachment) new turn = at_switch w attachment.edge.0 attachment.port (Control frame) new turn
  comes_in w h (Data id frame) items (Some attachment) new turn = at_switch (heard_item w h (Data id frame)) attachment.edge.0 attachment.port (Data id frame) new turn

  module _ (old : WorldView) (n : ℕ) where
    from_host : (h : ℕ) (items : List Item) (new : WorldView) (turn : DeliversFromHost switch (record old { steps = n }) h items new) →
        AddsBySwitch old new (coming_in items (slice_get old.attachments h)) (turn_from_host switch manager host (record old { steps = n }) h items new turn)
    from_host h [] new turn = absurd turn
    from_host h (item ∷ items) new turn =
        comes_in (record old { steps = n; from_hosts = set old.from_hosts h items }) h item items (slice_get old.attachments h) new turn

    from_manager : (s : ℕ) (items : List ToSwitch) (new : WorldView) (turn : DeliversFromManager switch (record old { steps = n }) s items new) →
        AddsBySwitch old new (coming_from_manager s items) (turn_from_manager switch manager host (record old { steps = n }) s items new turn)
    from_manager s [] new turn = absurd turn
    from_manager s (says ∷ items) new turn = none_came switch (record old { steps = n; from_manager = set old.from_manager s items }) s _ new turn

    reception_adds : (w : WorldView) (h id : ℕ) (frame : List ℕ) (items : List Item) (c : Option Coming) (reception : Reception) →
        Adds w.journal (reception_noted w h id frame reception).journal (by_port old c (Data id frame ∷ items) (OfHost reception)) []
    reception_adds w h id frame items c Kept = adds_quiet w.journal (Arrived id (host_no h) frame) refl refl
    reception_adds w h id frame items c NotMember = adds_drop w.journal id NoMember

    at_host : (w : WorldView) (id : ℕ) (frame : List ℕ) (items : List Item) (c : Option Coming) (to : Option ℕ) (new : WorldView)
        (turn : ComesAtHost host w id frame to new) →
        Adds w.journal new.journal (by_port old c (Data id frame ∷ items) (turn_at_host switch manager host w id frame to new turn))
        (made_by old c (turn_at_host switch manager host w id frame to new turn))
    at_host w id frame items c None new turn = subst (λ (x : WorldView). Adds w.journal x.journal ((id, HostGone) ∷ []) []) (sym turn) (adds_drop w.journal id HostGone)
    at_host w id frame items c (Some h) new turn = adds_before host w.journal _ h _ _ new turn.turn (reception_adds w h id frame items c turn.reception)

    over : (s port : ℕ) (item : Item) (items : List Item) (peer : Peer) (new : WorldView)
        (turn : ComesOver switch host (record old { steps = n; out = set old.out (port_index old.plan.k s port) items }) s port item peer new) →
        AddsByPort old new (coming_over (item ∷ items) peer) (item ∷ items)
        (turn_over switch manager host (record old { steps = n; out = set old.out (port_index old.plan.k s port) items }) s port item peer new turn)
    over s port (Control frame) items (Switch t q) new turn =
        none_came switch (record old { steps = n; out = set old.out (port_index old.plan.k s port) items }) t.0 _ new turn
    over s port (Data id frame) items (Switch t q) new turn =
        one_came switch (record old { steps = n; out = set old.out (port_index old.plan.k s port) items }) t.0 _ id new turn
    over s port (Control frame) items HostPort new turn = subst (λ (x : WorldView). Adds old.journal x.journal [] []) (sym turn) (adds_nothing old.journal)
    over s port (Data id frame) items HostPort new turn =
        let w : WorldView = record old { steps = n; out = set old.out (port_index old.plan.k s port) items } in
        at_host w id frame items None (receiver w s port frame) new turn

    out : (s port : ℕ) (items : List Item) (new : WorldView) (turn : DeliversOut switch host (record old { steps = n }) s port items new) →
        AddsByPort old new (coming_over items (peer_of old.plan s port)) items (turn_out switch manager host (record old { steps = n }) s port items new turn)
    out s port [] new turn = absurd turn
    out s port (item ∷ items) new turn = over s port item items (peer_of old.plan s port) new turn

    is_by_host : (h : HostNo) (turn : Turn) → by_switch old (coming old (event.Deliver (queue.FromHost h))) turn ≡ dropped old (event.Deliver (queue.FromHost h)) turn
    is_by_host h (OfSwitch acts) = refl
    is_by_host h (OfHost reception) = refl
    is_by_host h Other = refl

    is_by_manager : (s : SwitchNo) (turn : Turn) →
        by_switch old (coming old (event.Deliver (queue.FromManager s))) turn ≡ dropped old (event.Deliver (queue.FromManager s)) turn
    is_by_manager s (OfSwitch acts) = refl
    is_by_manager s (OfHost reception) = refl
    is_by_manager s Other = refl

    is_by_port : (s : SwitchNo) (port : ℕ) (turn : Turn) →
        by_port old (coming old (event.Deliver (queue.Port s port))) (out_of old s.0 port) turn ≡ dropped old (event.Deliver (queue.Port s port)) turn
    is_by_port s port (OfSwitch acts) = refl
    is_by_port s port (OfHost Kept) = refl
    is_by_port s port (OfHost NotMember) = refl
    is_by_port s port Other = refl

    is_made : (happens : Event) (turn : Turn) → made_by old (coming old happens) turn ≡ made old happens turn
    is_made happens (OfSwitch acts) = refl
    is_made happens (OfHost reception) = refl
    is_made happens Other = refl

  adds : (old : WorldView) (happens : Event) (new : WorldView) (step : WorldStep switch manager host old happens new) → IsPlan old.plan →
      Adds old.journal new.journal (dropped old happens (turn_of switch manager host old happens new step)) (made old happens (turn_of switch manager host old happens new step))
  adds old (event.Deliver (queue.FromHost h)) new step plan =
      let n : ℕ = old.steps + 1 in
      adds_is (is_by_host old n h _) (is_made old n (event.Deliver (queue.FromHost h)) _) (from_host old n h.0 (items_at old.from_hosts h.0) new step)
  adds old (event.Deliver (queue.Port s port)) new step plan =
      let n : ℕ = old.steps + 1 in
      adds_is (is_by_port old n s port _) (is_made old n (event.Deliver (queue.Port s port)) _) (out old n s.0 port (out_of old s.0 port) new step)
  adds old (event.Deliver (queue.ToManager s)) new step plan = told old (old.steps + 1) manager s.0 (items_at old.to_manager s.0) new step
  adds old (event.Deliver (queue.FromManager s)) new step plan =
      let n : ℕ = old.steps + 1 in
      adds_is (is_by_manager old n s _) (is_made old n (event.Deliver (queue.FromManager s)) _) (from_manager old n s.0 (items_at old.from_manager s.0) new step)
  adds old (event.Tick s) new step plan = none_came switch _ s.0 _ new step
  adds old (event.Fail a b) new step plan = adds_failed old (old.steps + 1) a.0 b.0 (link_between old.plan a.0 b.0) new plan refl step
  adds old (event.Repair a b) new step plan = repaired old (old.steps + 1) (link_between old.plan a.0 b.0) new step
  adds old (event.Lose s port) new step plan = adds_lost old (old.steps + 1) s.0 port (out_of old s.0 port) new step
  adds old (event.Move h s port) new step plan = adds_gone old (old.steps + 1) host h.0 _ (slice_get old.attachments h.0) new step
  adds old (event.Start h) new step plan = adds_turn host _ h.0 _ _ new step
  adds old (event.Play h frame original raw) new step plan = adds_played host _ h.0 _ new step
  adds old (event.Retry h) new step plan = adds_turn host _ h.0 _ _ new step
  adds old (event.Join h group) new step plan = adds_turn host _ h.0 _ _ new step
  adds old (event.Leave h group) new step plan = adds_turn host _ h.0 _ _ new step
  adds old event.Restart new step plan = anew old (old.steps + 1) new step

  pub step_drops : (old : WorldView) (happens : Event) (new : WorldView) (step : WorldStep switch manager host old happens new) → IsPlan old.plan →
      (drops_in (written old new) ≡ dropped old happens (turn_of switch manager host old happens new step))
      × (made_in (written old new) ≡ made old happens (turn_of switch manager host old happens new step))
  step_drops old happens new step plan =
      let x = adds old happens new step plan in
      let same : written old new ≡ x.entries = ap (drop (length old.journal)) x.added ∙ drop-append_seam old.journal x.entries in
      (ap drops_in same ∙ x.dropped, ap made_in same ∙ x.made)

-- ---- a switch takes what comes at it, by its rule
pub record Took (rule : SwitchRule) (switches : List SwitchView) (c : Coming) (turn : Turn) : Type 0 where
  pub before : SwitchView
  pub after : SwitchView
  pub acts : List Act
  pub found : slice_get switches c.switch ≡ Some before
  pub ruled : rule before c.input after acts
  pub is : turn ≡ OfSwitch acts

module _ (switch : SwitchRule) (manager : ManagerRule) (host : HostRule) where
  -- in whatever was to come
  abbrev TookIt : WorldView → Option Coming → Turn → Type 0
  TookIt w o turn = (c : Coming) → o ≡ Some c → Took switch w.switches c turn

  took_one : (switches : List SwitchView) (x c : Coming) (turn : Turn) → Some x ≡ Some c → Took switch switches x turn → Took switch switches c turn
  took_one switches x c turn same took = subst (λ y. Took switch switches y turn) (same_Some x c same) took

  took_turn : (w : WorldView) (c : Coming) (first : SpokenFrame) (new : WorldView) (m : SwitchTurn switch w c.switch c.input first new) →
      Took switch w.switches c (OfSwitch m.acts)
  took_turn w c first new m = record { before = m.before; after = m.after; acts = m.acts; found = m.found; ruled = m.ruled; is = refl }

  took_at : (w : WorldView) (s port : ℕ) (item : Item) (new : WorldView) (turn : ComesAtSwitch switch w s port item new) →
      TookIt w (Some (coming_at s port item)) (turn_at_switch switch manager host w s port item new turn)
  took_at w s port (Control frame) new turn c is = took_one w.switches _ c _ is (took_turn w (coming_at s port (Control frame)) _ new turn)
  took_at w s port (Data id frame) new turn c is = took_one w.switches _ c _ is (took_turn _ (coming_at s port (Data id frame)) _ new turn)

  took_in : (w : WorldView) (h : ℕ) (item : Item) (items : List Item) (attachment : Option AttachmentPoint) (new : WorldView) (turn : ComesIn switch w h item attachment new) →
      TookIt w (coming_in (item ∷ items) attachment) (turn_in switch manager host w h item attachment new turn)
  took_in w h item items None new turn = absurd turn
  took_in w h (Control frame) items (Some attachment) new turn = took_at w attachment.edge.0 attachment.port (Control frame) new turn
  took_in w h (Data id frame) items (Some attachment) new turn = took_at (heard_item w h (Data id frame)) attachment.edge.0 attachment.port (Data id frame) new turn

  module _ (old : WorldView) (n : ℕ) where
    took_from_host : (h : ℕ) (items : List Item) (new : WorldView) (turn : DeliversFromHost switch (record old { steps = n }) h items new) →
        TookIt old (coming_in items (slice_get old.attachments h)) (turn_from_host switch manager host (record old { steps = n }) h items new turn)
    took_from_host h [] new turn = absurd turn
    took_from_host h (item ∷ items) new turn =
        took_in (record old { steps = n; from_hosts = set old.from_hosts h items }) h item items (slice_get old.attachments h) new turn

    took_from_manager : (s : ℕ) (items : List ToSwitch) (new : WorldView) (turn : DeliversFromManager switch (record old { steps = n }) s items new) →
        TookIt old (coming_from_manager s items) (turn_from_manager switch manager host (record old { steps = n }) s items new turn)
    took_from_manager s [] new turn = absurd turn
    took_from_manager s (says ∷ items) new turn = λ c is.
        took_one old.switches (record { switch = s; input = Says says; frame = None }) c _ is
        (took_turn (record old { steps = n; from_manager = set old.from_manager s items }) (record { switch = s; input = Says says; frame = None }) Silent new turn)

    took_over : (s port : ℕ) (item : Item) (items : List Item) (peer : Peer) (new : WorldView)
        (turn : ComesOver switch host (record old { steps = n; out = set old.out (port_index old.plan.k s port) items }) s port item peer new) →
        TookIt old (coming_over (item ∷ items) peer)
        (turn_over switch manager host (record old { steps = n; out = set old.out (port_index old.plan.k s port) items }) s port item peer new turn)
    took_over s port item items (Switch t q) new turn = took_at (record old { steps = n; out = set old.out (port_index old.plan.k s port) items }) t.0 q item new turn
    took_over s port item items HostPort new turn = λ c is. absurd (cc)

    took_out : (s port : ℕ) (items : List Item) (new : WorldView) (turn : DeliversOut switch host (record old { steps = n }) s port items new) →
        TookIt old (coming_over items (peer_of old.plan s port)) (turn_out switch manager host (record old { steps = n }) s port items new turn)
    took_out s port [] new turn = absurd turn
    took_out s port (item ∷ items) new turn = took_over s port item items (peer_of old.plan s port) new turn

  pub step_takes : (old : WorldView) (happens : Event) (new : WorldView) (step : WorldStep switch manager host old happens new) →
      (c : Coming) → coming old happens ≡ Some c → Took switch old.switches c (turn_of switch manager host old happens new step)
  step_takes old (event.Deliver (queue.FromHost h)) new step = took_from_host old (old.steps + 1) h.0 (items_at old.from_hosts h.0) new step
  step_takes old (event.Deliver (queue.Port s port)) new step = took_out old (old.steps + 1) s.0 port (out_of old s.0 port) new step
  step_takes old (event.Deliver (queue.FromManager s)) new step = took_from_manager old (old.steps + 1) s.0 (items_at old.from_manager s.0) new step
  step_takes old (event.Tick s) new step = λ c is.
      took_one old.switches (record { switch = s.0; input = Tick; frame = None }) c _ is (took_turn _ (record { switch = s.0; input = Tick; frame = None }) Silent new step)
  step_takes old happens new step = λ c is. absurd (cc)
