-- Each event grants addresses to hosts that stand there, or have stood there.
use Rattle.std.proofs.Common.{◌≡◌, ◌<◌, ◌==◌, ◌&&◌, ◌||◌, ℕ, Bool, true, set, Contains, List, [], ◌∷◌, ◌++◌, reverse, length, Option, Some, None, slice_get, slice_set, refl, sym, ap, subst, ◌∙◌, inl, inr, eq-eqb}
use Rattle.std.specs.List.{AllByRecursion}
use Rattle.std.proofs.lemmas.Bool.{and_from, cases_eq, false≢true}
use Rattle.std.proofs.lemmas.List.Elements.{Contains-append_left, Contains-push}
use Rattle.std.proofs.lemmas.Option.{same_Some, slice_get_within}
use Rattle.pl_wiring.specs.declared.link.Peer.TheVariants.{Switch}
use Rattle.pl_wiring.specs.Index.{port_index}
use Rattle.pl_wiring.specs.Peers.{peer_of}
use Rattle.pl_wiring.specs.Plan.{IsPlan, Plan}
use Rattle.pl_node.specs.declared.switch_records.Source.{Source}
use Rattle.pl_node.specs.HostDuties.{is_own}
use Rattle.pl_node.specs.HostInputs.{HostAnswer, HostInput, HostRule}
use Rattle.pl_node.specs.ManagerDuties.{ManagerRule}
use Rattle.pl_node.specs.SwitchInputs.{SwitchInput}
use Rattle.pl_node.specs.SwitchInputs.SwitchInput.{Comes, Says, Tick}
use Rattle.pl_node.specs.SwitchViews.{SwitchView}
use Rattle.pl_journal.specs.declared.cause.Cause.TheVariants as cause
use Rattle.pl_journal.specs.declared.entry.Entry.{Entry}
use Rattle.pl_journal.specs.declared.entry.Entry.TheVariants.{Crossed, Moved}
use Rattle.pl_journal.specs.Places.{at_port, has_stood, same_edge_port}
use Rattle.pl_journal.proofs.Exports.{past_more}
use Rattle.pl_queues.specs.Queues.{items_at}
use Rattle.pl_switch_rule.specs.Forwarding.{Choice}
use Rattle.pl_switch_rule.specs.Granting.{remembered_at}
use Rattle.pl_switch_rule.specs.SwitchRule.{Loose, switch_step}
use Rattle.pl_switch_rule.proofs.Exports.{all_or}
use Rattle.pl_world.specs.declared.event.Event.{Event}
use Rattle.pl_world.specs.declared.item.Item.{Item}
use Rattle.pl_world.specs.declared.item.Item.TheVariants.{Control, Data}
use Rattle.pl_world.specs.declared.spoken_frame.SpokenFrame.{SpokenFrame}
use Rattle.pl_world.specs.declared.attachment.AttachmentPoint.{AttachmentPoint}
use Rattle.pl_world.specs.Booting.{me_of}
use Rattle.pl_world.specs.Changes.{ends_of, host_at, host_no, noted, out_of, switch_no}
use Rattle.pl_wiring.specs.declared.label.SwitchNo.{SwitchNo}
use Rattle.pl_world.specs.Flying.{IsDataItem, IsItem}
use Rattle.pl_world.specs.LinksAndMoves.{host_moved}
use Rattle.pl_world.specs.OtherActs.{heard_after_tick, skip_noted}
use Rattle.pl_world.specs.Refusals.{refusal_of_event}
use Rattle.pl_world.specs.WorldRule.{ComesAtSwitch, Happens, HostTurn, SwitchTurn, heard_item}
use Rattle.pl_world.specs.Worlds.{WorldView}
use Rattle.pl_world.proofs.Exports.{anew_left, by_host, failed_left, Happened, happened, lost_left, manager_acts_left, out_left, place_is_free, repaired_left, skip_left, Writes}
use Rattle.pl_world.proofs.Exports.Happened.{Asked, BeganAnew, Departed, Failed, FromHost, Lost, Ordered, OutOfPort, OverLink, PlayedFrame, Repaired, Reported, Ticked}
use Rattle.pl_law_addresses.specs.OwnFrames.{IsOwnItem}
use Rattle.pl_law_addresses.proofs.Exports.{exists_at, filled_within, get-set_other, get-set_same}
use Rattle.pl_law_registration.specs.BeingRegistered.{AreAttachedApart}
use Rattle.pl_law_registration.specs.Stood.{AreStoodFor}
use Rattle.pl_law_registration.proofs.Acts.{Rest}
use Rattle.pl_law_registration.proofs.Facts.{Facts}
use Rattle.pl_node.specs.declared.acts.Act.{Act}
use Rattle.pl_node.specs.declared.acts.Act.TheVariants as act
use Rattle.pl_law_registration.proofs.GrantRows.{Fits, IsFine, IsGrantFor, Remembers, fits_frame, fits_order, fits_tick}
use Rattle.pl_law_registration.proofs.Places.{moved_apart, own_is}
use Rattle.pl_law_registration.proofs.StoodActs.{IsGrantThere, IsNoGrant, StepWrote, StoodThere, Wrote, host_wrote, none_of_ends, step_wrote, stood_later, wrote_all, wrote_quiet, wrote_then}

-- Hosts have stood where they stand, and so have those that switches remember; and each address was granted to one that had.
pub record Stood (plan : Plan) (attachments : List AttachmentPoint) (switches : List SwitchView) (journal : List Entry) : Type 0 where
  -- no two hosts stand at one place
  pub apart : AreAttachedApart attachments
  pub attachment : (g : ℕ) (attachment : AttachmentPoint) → slice_get attachments g ≡ Some attachment → has_stood plan (reverse journal) g (at_port attachment.edge.0 attachment.port) ≡ true
  pub remembered : (s : ℕ) (v : SwitchView) → slice_get switches s ≡ Some v → Remembers (λ port mac. StoodThere plan (reverse journal) mac s port) v
  pub granted : AreStoodFor plan (reverse journal)

abbrev pub IsStood : WorldView → Type 0
IsStood w = Stood w.plan w.attachments w.switches w.journal

fine_later : (plan : Plan) (before after : List Entry) → Wrote plan before after → (s : ℕ) (v : SwitchView) → Remembers (λ port mac. StoodThere plan (reverse before) mac s port) v →
    Remembers (λ port mac. StoodThere plan (reverse after) mac s port) v
fine_later plan before after wrote s v r port = by (remembered_at v port) (r port)
  where
    by : (o : Option Source) → IsFine (λ q mac. StoodThere plan (reverse before) mac s q) port o → IsFine (λ q mac. StoodThere plan (reverse after) mac s q) port o
    by None is = tt
    by (Some source) is = stood_later plan before after wrote source.amac s port is

pub stood_on : (plan : Plan) (attachments : List AttachmentPoint) (switches : List SwitchView) (before after : List Entry) → Wrote plan before after → Stood plan attachments switches before → Stood plan attachments switches after
stood_on plan attachments switches before after wrote st = record {
  apart = st.apart;
  attachment = λ g attachment at. wrote.later g (at_port attachment.edge.0 attachment.port) (st.attachment g attachment at);
  remembered = λ s v at. fine_later plan before after wrote s v (st.remembered s v at);
  granted = wrote.good st.granted;
}

-- the same wiring, stands and switches, and a later journal
pub record Quietly (w new : WorldView) : Type 0 where
  pub plan : new.plan ≡ w.plan
  pub attachments : new.attachments ≡ w.attachments
  pub switches : new.switches ≡ w.switches
  pub wrote : Wrote w.plan w.journal new.journal

quiet_stood : (w new : WorldView) → Quietly w new → IsStood w → IsStood new
quiet_stood w new q st =
    subst (λ (p : Plan). Stood p new.attachments new.switches new.journal) (sym q.plan)
    (subst (λ (xs : List AttachmentPoint). Stood w.plan xs new.switches new.journal) (sym q.attachments)
    (subst (λ (vs : List SwitchView). Stood w.plan w.attachments vs new.journal) (sym q.switches) (stood_on w.plan w.attachments w.switches w.journal new.journal q.wrote st)))

-- ---- a switch
switch_stood : (w : WorldView) → IsPlan w.plan → IsStood w → (s : ℕ) (input : SwitchInput) (speech : SpokenFrame) (new : WorldView) → SwitchTurn Loose w s input speech new →
    ((v : SwitchView) → slice_get w.switches s ≡ Some v → (choose : Choice) → Fits (λ port mac. StoodThere w.plan (reverse w.journal) mac s port) v (switch_step choose v input)) → IsStood new
switch_stood w is_plan st s input speech new turn fits =
    let steps = turn.ruled.steps in
    let f = fits turn.before turn.found turn.ruled.choose in
    let r = st.remembered s turn.before turn.found in
    let grants : AllByRecursion (IsGrantThere w.plan (reverse w.journal) s) turn.acts =
    subst (λ (acts : List Act). AllByRecursion (IsGrantThere w.plan (reverse w.journal) s) acts) (sym steps.done) (same_grants _ (f.grants r)) in
    let wrote : StepWrote w.plan w new (set w.switches s turn.after) =
    subst (λ (x : WorldView). StepWrote w.plan w x (set w.switches s turn.after)) (sym turn.changed) (step_wrote w.plan is_plan w s turn.before turn.after speech turn.acts refl grants) in
    let mid : Stood w.plan w.attachments (set w.switches s turn.after) new.journal = record {
      apart = st.apart;
      attachment = λ g attachment at. wrote.wrote.later g (at_port attachment.edge.0 attachment.port) (st.attachment g attachment at);
      remembered = λ t v at. elim (cases_eq t s) [
        | inr other ↦ fine_later w.plan w.journal new.journal wrote.wrote t v (st.remembered t v (sym (get-set_other w.switches s t turn.after other) ∙ at))
        | inl same ↦
            let view : turn.after ≡ v = same_Some turn.after v (sym (get-set_same w.switches s turn.after (slice_get_within w.switches s turn.before turn.found)) ∙ ap (λ n. slice_get (set w.switches s turn.after) n) (sym same) ∙ at) in
            subst (λ (n : ℕ). Remembers (λ port mac. StoodThere w.plan (reverse new.journal) mac n port) v) (sym same)
            (fine_later w.plan w.journal new.journal wrote.wrote s v
            (subst (λ (u : SwitchView). Remembers (λ port mac. StoodThere w.plan (reverse w.journal) mac s port) u) (sym steps.view ∙ view) (f.holds r)))
      ];
      granted = wrote.wrote.good st.granted;
    } in
    subst (λ (x : Rest). Stood x.plan x.attachments x.switches new.journal) (sym wrote.rest) mid
  where
    same_grants : (acts : List Act) → AllByRecursion (IsGrantFor (λ port mac. StoodThere w.plan (reverse w.journal) mac s port)) acts → AllByRecursion (IsGrantThere w.plan (reverse w.journal) s) acts
    same_grants [] all = tt
    same_grants (act.Grant x mac ∷ acts) all = (all.0, same_grants acts all.1)
    same_grants (act.Tell told ∷ acts) all = (tt, same_grants acts all.1)
    same_grants (act.Control port frame ∷ acts) all = (tt, same_grants acts all.1)
    same_grants (act.Free x ∷ acts) all = (tt, same_grants acts all.1)
    same_grants (act.Make frame ∷ acts) all = (tt, same_grants acts all.1)
    same_grants (act.Redirect old new' ∷ acts) all = (tt, same_grants acts all.1)
    same_grants (act.Pass port frame ∷ acts) all = (tt, same_grants acts all.1)
    same_grants (act.Take ∷ acts) all = (tt, same_grants acts all.1)
    same_grants (act.Drop cause ∷ acts) all = (tt, same_grants acts all.1)

-- ---- a host
host_stood : (rule : HostRule) (w : WorldView) → IsStood w → (g : ℕ) (input : HostInput) (answer : HostAnswer) (new : WorldView) → HostTurn rule w g input answer new → IsStood new
host_stood rule w st g input answer new turn =
    let same = by_host rule w g input answer new turn in
    let first : WorldView = record w { hosts = set w.hosts g turn.after } in
    quiet_stood w new (record {
      plan = ap (λ (x : WorldView). x.plan) same;
      attachments = ap (λ (x : WorldView). x.attachments) same;
      switches = ap (λ (x : WorldView). x.switches) same;
      wrote = subst (λ (x : WorldView). Wrote w.plan w.journal x.journal) (sym turn.changed) (host_wrote w.plan g first turn.acts);
    }) st

entry_stood : (w : WorldView) (e : Entry) → IsNoGrant e → IsStood w → IsStood (noted w e)
entry_stood w e none st = stood_on w.plan w.attachments w.switches w.journal (w.journal ++ e ∷ []) (wrote_quiet w.plan w.journal e none) st

abbrev Keeps : WorldView → WorldView → Type 0
Keeps a b = IsStood a → IsStood b

keeps_writes : Writes Keeps IsNoGrant
keeps_writes = record { same = λ w st. st; on = λ a b c one next st. next (one st); entry = entry_stood; dropped = λ id cause. tt }

module _ (w : WorldView) (f : Facts w) (st : IsStood w) where
  -- ---- a frame of a host
  host_frame : (g : ℕ) (item : Item) (rest : List Item) (new : WorldView) → items_at w.from_hosts g ≡ item ∷ rest → (gs : AttachmentPoint) →
      slice_get w.attachments g ≡ Some gs →
      ComesAtSwitch Loose (heard_item (record w { from_hosts = slice_set w.from_hosts g rest }) g item) gs.edge.0 gs.port item new → IsStood new
  host_frame g (Control frame) rest new head gs at turn =
      absurd (subst (λ (xs : List Item). AllByRecursion IsDataItem xs) head (all_or (AllByRecursion IsDataItem) w.from_hosts g [] f.host_items tt)).0
  host_frame g (Data id frame) rest new head gs at turn =
      let mid : WorldView = noted (heard_item (record w { from_hosts = slice_set w.from_hosts g rest }) g (Data id frame)) (Crossed id (switch_no gs.edge.0)) in
      let there : IsStood mid = stood_on w.plan w.attachments w.switches w.journal mid.journal (wrote_quiet w.plan w.journal (Crossed id (switch_no gs.edge.0)) tt) st in
      let within : g < length w.from_hosts = filled_within w.from_hosts g (Data id frame) rest head in
      let view = exists_at w.hosts g (subst (λ n. g < n) f.many_from within) in
      let host = exists_at w.plan.hosts g (subst (λ n. g < n) (f.many_from ∙ f.many_hosts) within) in
      let own : is_own (me_of host.0) frame ≡ true = (subst (λ (xs : List Item). AllByRecursion (IsOwnItem (me_of host.0)) xs) head (f.own g host.0 view.0 host.1 view.1).sends).0 in
      switch_stood mid f.plan there gs.edge.0 (Comes gs.port frame) _ new turn
      (λ v found choose. fits_frame (λ port mac. StoodThere w.plan (reverse mid.journal) mac gs.edge.0 port) choose v gs.port frame (λ no_control takes. record {
        number = g;
        host = host.0;
        is = host.1;
        mac_is = sym (own_is (me_of host.0) frame own).source;
        stood = there.attachment g gs at;
      }))

  -- ---- out of a port
  module _ (rule : HostRule) where
    over_link : (s port : ℕ) (item : Item) (rest : List Item) → out_of w s port ≡ item ∷ rest → (t : SwitchNo) (q : ℕ) → peer_of w.plan s port ≡ Switch t q → (i : Item) → item ≡ i → (new : WorldView) →
        ComesAtSwitch Loose (record w { out = set w.out (port_index w.plan.k s port) rest }) t.0 q i new → IsStood new
    over_link s port item rest head t q leads (Control frame) is new turn =
        let fine : IsItem (Control frame) = subst IsItem is (subst (λ (xs : List Item). AllByRecursion IsItem xs) head (all_or (AllByRecursion IsItem) w.out (port_index w.plan.k s port) [] f.port_items tt)).0 in
        switch_stood (record w { out = set w.out (port_index w.plan.k s port) rest }) f.plan (record { apart = st.apart; attachment = st.attachment; remembered = st.remembered; granted = st.granted }) t.0 (Comes q frame) _ new turn
        (λ v found choose. fits_frame (λ at mac. StoodThere w.plan (reverse w.journal) mac t.0 at) choose v q frame (λ no_control takes. absurd (false≢true (sym no_control ∙ fine.kind))))
    over_link s port item rest head t q leads (Data id frame) is new turn =
        let mid : WorldView = noted (record w { out = set w.out (port_index w.plan.k s port) rest }) (Crossed id (switch_no t.0)) in
        let there : IsStood mid = stood_on w.plan w.attachments w.switches w.journal mid.journal (wrote_quiet w.plan w.journal (Crossed id (switch_no t.0)) tt) st in
        switch_stood mid f.plan there t.0 (Comes q frame) _ new turn
        (λ v found choose. fits_frame (λ at mac. StoodThere w.plan (reverse mid.journal) mac t.0 at) choose v q frame (λ no_control takes.
        absurd (false≢true (sym (f.neighbours s port t q id frame v leads
        (subst (λ (xs : List Item). Contains xs (Data id frame)) (sym head) (subst (λ (j : Item). Contains (item ∷ rest) j) is (Contains-append_left (item ∷ []) rest item (Contains-push [] item)))) found) ∙ takes))))

    -- ---- links and moves
    moved : (g : ℕ) (from to : AttachmentPoint) → slice_get w.attachments g ≡ Some from → host_at w to.edge.0 to.port ≡ None → IsStood (host_moved w g from to)
    moved g from to was free =
        let e = Moved (host_no g) to.edge to.port in
        let j1 : List Entry = w.journal ++ e ∷ [] in
        let one = ends_of cause.HostGone (items_at w.from_hosts g) in
        let two = ends_of cause.HostGone (items_at w.out (port_index w.plan.k from.edge.0 from.port)) in
        let wrote = wrote_then w.plan w.journal j1 ((j1 ++ one) ++ two) (wrote_quiet w.plan w.journal e tt)
        (wrote_then w.plan j1 (j1 ++ one) ((j1 ++ one) ++ two) (wrote_all w.plan j1 one (none_of_ends w.plan cause.HostGone (items_at w.from_hosts g)))
        (wrote_all w.plan (j1 ++ one) two (none_of_ends w.plan cause.HostGone (items_at w.out (port_index w.plan.k from.edge.0 from.port))))) in
        let after = wrote_then w.plan j1 (j1 ++ one) ((j1 ++ one) ++ two) (wrote_all w.plan j1 one (none_of_ends w.plan cause.HostGone (items_at w.from_hosts g)))
        (wrote_all w.plan (j1 ++ one) two (none_of_ends w.plan cause.HostGone (items_at w.out (port_index w.plan.k from.edge.0 from.port)))) in
        record {
          apart = moved_apart w.attachments g to st.apart free;
          attachment = λ h attachment at. elim (cases_eq h g) [
            | inr other ↦ wrote.later h (at_port attachment.edge.0 attachment.port) (st.attachment h attachment (sym (get-set_other w.attachments g h to other) ∙ at))
            | inl same ↦
                let is_to : to ≡ attachment = same_Some to attachment (sym (get-set_same w.attachments g to (slice_get_within w.attachments g from was)) ∙ ap (λ n. slice_get (set w.attachments g to) n) (sym same) ∙ at) in
                after.later h (at_port attachment.edge.0 attachment.port)
                (subst (λ (p : List Entry). has_stood w.plan p h (at_port attachment.edge.0 attachment.port) ≡ true) (sym (past_more w.journal e))
                (or_first ((g == h) && same_edge_port (at_port to.edge.0 to.port) (at_port attachment.edge.0 attachment.port)) (has_stood w.plan (reverse w.journal) h (at_port attachment.edge.0 attachment.port))
                (and_from (g == h) (same_edge_port (at_port to.edge.0 to.port) (at_port attachment.edge.0 attachment.port)) (eq-eqb g h (sym same))
                (and_from (to.edge.0 == attachment.edge.0) (to.port == attachment.port) (eq-eqb to.edge.0 attachment.edge.0 (ap (λ (x : AttachmentPoint). x.edge.0) is_to)) (eq-eqb to.port attachment.port (ap (λ (x : AttachmentPoint). x.port) is_to))))))
          ];
          remembered = λ s v at. fine_later w.plan w.journal ((j1 ++ one) ++ two) wrote s v (st.remembered s v at);
          granted = wrote.good st.granted;
        }
      where
        or_first : (a b : Bool) → a ≡ true → (a || b) ≡ true
        or_first a b is = ap (λ c. c || b) is

    module _ (manager : ManagerRule) (e : Event) (new : WorldView) (none : refusal_of_event w e ≡ None) where
      by_case : Happened Loose manager rule w e new → IsStood new
      by_case (FromHost g item items attachment is head at comes) = host_frame g.0 item items new head attachment at comes
      by_case (OverLink s port item items t q is head joined comes) = over_link s.0 port item items head t q joined item refl new comes
      by_case (OutOfPort s port item items is head joined comes) =
          out_left Keeps IsNoGrant keeps_writes rule (λ u g input answer x turn su. host_stood rule u su g input answer x turn) (λ id g frame. tt)
          (record w { out = set w.out (port_index w.plan.k s.0 port) items }) s.0 port item new comes st
      by_case (Reported s told items is head turn) =
          manager_acts_left Keeps IsNoGrant keeps_writes (λ pmac n. tt) (λ u t says su. su) manager
          (record w { to_manager = set w.to_manager s.0 items }) s.0 told new turn st
      by_case (Ordered s says items is head turn) =
          switch_stood (record w { from_manager = set w.from_manager s.0 items }) f.plan st s.0 (Says says) _ new turn
          (λ v found choose. fits_order (λ port mac. StoodThere w.plan (reverse w.journal) mac s.0 port) choose v says)
      by_case (Ticked s is turn) =
          switch_stood (record w { heard = heard_after_tick s.0 w.attachments w.heard }) f.plan st s.0 Tick _ new turn
          (λ v found choose. fits_tick (λ port mac. StoodThere w.plan (reverse w.journal) mac s.0 port) choose v)
      by_case (Failed a b link is found fails) =
          subst (λ (x : WorldView). IsStood x) (sym fails) (failed_left Keeps IsNoGrant keeps_writes (λ u i su. su) w link tt (λ u links su. su) st)
      by_case (Repaired a b link is found repairs) =
          subst (λ (x : WorldView). IsStood x) (sym repairs) (repaired_left Keeps IsNoGrant keeps_writes w link tt (λ u links su. su) st)
      by_case (Lost s port item items is head loses) =
          subst (λ (x : WorldView). IsStood x) (sym loses) (lost_left Keeps IsNoGrant keeps_writes
          (record w { out = set w.out (port_index w.plan.k s.0 port) items }) item st)
      by_case (Departed g s port from is at turn) =
          let to : AttachmentPoint = record { edge = s; port = port } in
          let free = place_is_free w g.0 s.0 port (subst (λ (x : Event). refusal_of_event w x ≡ None) is none) in
          host_stood rule (host_moved w g.0 from to) (moved g.0 from to at free) g.0 _ _ new turn
      by_case (PlayedFrame g input skip is turn) =
          host_stood rule (skip_noted w g.0 skip) (skip_left Keeps IsNoGrant keeps_writes (λ n why. tt) w g.0 skip st) g.0 _ _ new turn
      by_case (Asked g input is turn) = host_stood rule w st g.0 _ _ new turn
      by_case (BeganAnew is anew) =
          subst (λ (x : WorldView). IsStood x) (sym anew) (anew_left Keeps IsNoGrant keeps_writes w tt (λ u n su. su) st)

      pub event_stood : Happens Loose manager rule w e new → IsStood new
      event_stood does = by_case (happened Loose manager rule w e new does)
