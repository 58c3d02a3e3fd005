-- Each event keeps grants in order, whatever the manager's rule is.
use Rattle.std.proofs.Common.{◌≡◌, ◌<◌, ◌+◌, ℕ, true, set, Contains, List, [], ◌∷◌, length, Option, Some, None, slice_get, refl, sym, ap, subst, ◌∙◌, length-set}
use Rattle.std.specs.List.{AllByRecursion}
use Rattle.std.proofs.lemmas.Bool.{false≢true}
use Rattle.std.proofs.lemmas.List.Elements.{Contains-append_left, Contains-push}
use Rattle.std.proofs.lemmas.Option.{slice_get_within}
use Rattle.pl_lemmas.proofs.Exports.{all_found}
use Rattle.pl_wiring.specs.declared.label.SwitchNo.{SwitchNo}
use Rattle.pl_wiring.specs.declared.link.Peer.TheVariants.{Switch}
use Rattle.pl_wiring.specs.Index.{port_index}
use Rattle.pl_wiring.specs.Peers.{peer_of}
use Rattle.pl_wiring.specs.Plan.{IsPlan}
use Rattle.pl_node.specs.declared.messages.ToSwitch.{ToSwitch}
use Rattle.pl_node.specs.HostDuties.{HoldsData, HostsSendData, HostsSendOwn}
use Rattle.pl_node.specs.HostInputs.{HostAnswer, HostInput, HostRule}
use Rattle.pl_node.specs.HostInputs.HostAnswer.{Nothing}
use Rattle.pl_node.specs.HostInputs.HostInput.{HasMoved}
use Rattle.pl_node.specs.ManagerDuties.{ManagerRule}
use Rattle.pl_node.specs.PortRecords.{is_open_to_hosts, port_of}
use Rattle.pl_node.specs.SwitchInputs.SwitchInput.{Comes, Says, Tick}
use Rattle.pl_node.specs.SwitchViews.{SwitchView}
use Rattle.pl_frame.specs.Ethernet.{source_of}
use Rattle.pl_journal.specs.declared.entry.Entry.TheVariants.{Crossed, Dropped, Moved}
use Rattle.pl_journal.specs.declared.cause.Cause.{Cause}
use Rattle.pl_journal.specs.declared.cause.Cause.TheVariants as cause
use Rattle.pl_queues.specs.Queues.{items_at}
use Rattle.pl_queues.proofs.Exports.{all_items_at}
use Rattle.pl_switch_rule.specs.Granting.{sender_ip}
use Rattle.pl_switch_rule.specs.SwitchRule.{Loose}
use Rattle.pl_world.specs.declared.event.Event.{Event}
use Rattle.pl_world.specs.declared.item.Item.{Item}
use Rattle.pl_world.specs.declared.item.Item.TheVariants.{Control, Data}
use Rattle.pl_world.specs.declared.spoken_frame.SpokenFrame.TheVariants.{Silent}
use Rattle.pl_world.specs.declared.attachment.AttachmentPoint.{AttachmentPoint}
use Rattle.pl_world.specs.Booting.{me_of}
use Rattle.pl_world.specs.Changes.{emptied_from_host, ends_of, host_no, noted, out_of, receiver, switch_no}
use Rattle.pl_world.specs.Flying.{IsTreePort, IsCounted, IsDataItem, IsItem}
use Rattle.pl_world.specs.LinksAndMoves.{host_moved}
use Rattle.pl_world.specs.OtherActs.{heard_after_tick, reception_noted, skip_noted}
use Rattle.pl_world.specs.WorldRule.{ComesAtHost, ComesAtSwitch, ComesOut, Happens, HostTurn, SwitchTurn, heard_item}
use Rattle.pl_world.specs.Worlds.{WorldView}
use Rattle.pl_world.proofs.Exports.{anew_left, emptied_out_left, failed_left, Happened, happened, lost_left, manager_acts_left, reception_left, repaired_left, skip_left, Writes}
use Rattle.pl_world.proofs.Exports.Happened.{Asked, BeganAnew, Departed, Failed, FromHost, Lost, Ordered, OutOfPort, OverLink, PlayedFrame, Repaired, Reported, Ticked}
use Rattle.pl_law_addresses.specs.OwnAddresses.{IsOwnIp, own_ip}
use Rattle.pl_law_addresses.specs.OwnFrames.{IsOwnItem}
use Rattle.pl_law_addresses.specs.Addressed.{AreApart, KnowNeighbours}
use Rattle.pl_law_addresses.proofs.OwnHosts.{own_frame, shorter_own}
use Rattle.pl_law_addresses.proofs.SwitchSteps.{IsOfHost, brings_frame, brings_order, brings_tick}
use Rattle.pl_law_addresses.proofs.TurnQueues.{Parts, one_quiet, parts_of}
use Rattle.pl_law_addresses.proofs.Entries.{IsNoAddressEntry, quiet_ends, quiet_freed, quiet_times}
use Rattle.pl_law_addresses.proofs.TurnsKeepAddresses.{Earlier, InOrder, exists_at, filled_within, host_turn, switch_turn}

-- what is known of the forms of a world
pub record Facts (w : WorldView) : Type 0 where
  pub plan : IsPlan w.plan
  pub ids : length w.switches ≡ length w.plan.ids
  pub froms : length w.from_hosts ≡ length w.hosts
  pub hosts : length w.hosts ≡ length w.plan.hosts
  pub ports : AllByRecursion (λ v. v.k ≡ w.plan.k) w.switches
  pub at_ports : AllByRecursion (IsTreePort w.plan.k) w.attachments
  pub holding : AllByRecursion HoldsData w.hosts
  pub host_items : AllByRecursion (AllByRecursion IsDataItem) w.from_hosts
  pub port_items : AllByRecursion (AllByRecursion IsItem) w.out

pub facts_of : (w : WorldView) → IsCounted w → Facts (record w { steps = w.steps + 1 })
facts_of w is = record {
  plan = is.formed.plan;
  ids = is.formed.switches ∙ sym is.formed.plan.ids_many;
  froms = is.formed.from_hosts ∙ sym is.formed.hosts;
  hosts = is.formed.hosts;
  ports = is.formed.ports;
  at_ports = is.formed.at_ports;
  holding = is.holding;
  host_items = is.in_host_queues;
  port_items = is.in_port_queues;
}

-- ---- what is written besides
abbrev SameParts : WorldView → WorldView → Type 0
SameParts a b = parts_of b ≡ parts_of a

same_writes : Writes SameParts IsNoAddressEntry
same_writes = record { same = λ w. refl; on = λ a b c one next. next ∙ one; entry = λ w e quiet. one_quiet w e quiet; dropped = λ id c x. refl }

emptied_host_same : (u : WorldView) (h : ℕ) (c : Cause) → parts_of (emptied_from_host u h c) ≡ record (parts_of u) { from_hosts = set u.from_hosts h [] }
emptied_host_same u h c = λ i. record (parts_of u) {
  from_hosts = set u.from_hosts h [];
  times = λ x. quiet_times u.journal (ends_of c (items_at u.from_hosts h)) (quiet_ends c (items_at u.from_hosts h)) x i;
  freed = λ x. quiet_freed u.journal (ends_of c (items_at u.from_hosts h)) (quiet_ends c (items_at u.from_hosts h)) x i;
}

moved_same : (u : WorldView) (h : ℕ) (from to : AttachmentPoint) → parts_of (host_moved u h from to) ≡ record (parts_of u) { from_hosts = set u.from_hosts h [] }
moved_same u h from to =
    let noted_move : WorldView = noted (record u { attachments = set u.attachments h to; heard = set u.heard h None }) (Moved (host_no h) to.edge to.port) in
    emptied_out_left SameParts IsNoAddressEntry same_writes (λ v i. refl) (emptied_from_host noted_move h cause.HostGone) from.edge.0 from.port cause.HostGone
    ∙ emptied_host_same noted_move h cause.HostGone
    ∙ ap (λ (p : Parts). record p { from_hosts = set p.from_hosts h [] })
    (one_quiet (record u { attachments = set u.attachments h to; heard = set u.heard h None }) (Moved (host_no h) to.edge to.port) (λ x. refl))

module _ (first : Earlier) where
  -- ---- an item comes at a switch
  comes_at : (w : WorldView) (s port : ℕ) (item : Item) (new : WorldView) → InOrder first (parts_of w) → AreApart new.switches → IsItem item →
      ((id : ℕ) (frame : List ℕ) → item ≡ Data id frame → (v : SwitchView) → slice_get w.switches s ≡ Some v → is_open_to_hosts (port_of v port) ≡ true →
      IsOfHost (λ mac. own_ip w.plan mac) v port frame) →
      ComesAtSwitch Loose w s port item new → InOrder first (parts_of new)
  comes_at w s port (Control frame) new o apart is fair turn =
      switch_turn first w s (Comes port frame) _ new o apart
      (λ v found choose. brings_frame (λ mac. own_ip w.plan mac) choose v port frame (λ control host. absurd (false≢true (sym control ∙ is.kind)))) turn
  comes_at w s port (Data id frame) new o apart is fair turn =
      switch_turn first (noted w (Crossed id (switch_no s))) s (Comes port frame) _ new
      (subst (λ (p : Parts). InOrder first p) (sym (one_quiet w (Crossed id (switch_no s)) (λ x. refl))) o) apart
      (λ v found choose. brings_frame (λ mac. own_ip w.plan mac) choose v port frame (λ control host. fair id frame refl v found host)) turn

  data_is_item : (item : Item) → IsDataItem item → IsItem item
  data_is_item (Control frame) is = absurd is
  data_is_item (Data id frame) is = is

  -- ---- from a host
  module _ (w : WorldView) (f : Facts w) (o : InOrder first (parts_of w)) where
    from_host : (h : ℕ) (item : Item) (items : List Item) (attachment : AttachmentPoint) (new : WorldView) → items_at w.from_hosts h ≡ item ∷ items → AreApart new.switches →
        slice_get w.attachments h ≡ Some attachment →
        ComesAtSwitch Loose (heard_item (record w { from_hosts = set w.from_hosts h items }) h item) attachment.edge.0 attachment.port item new →
        InOrder first (parts_of new)
    from_host h (Control frame) items attachment new head apart is comes =
        absurd (subst (λ (xs : List Item). AllByRecursion IsDataItem xs) head (all_items_at IsDataItem w.from_hosts h f.host_items)).0
    from_host h (Data id frame) items attachment new head apart is comes =
        let within : h < length w.from_hosts = filled_within w.from_hosts h (Data id frame) items head in
        let view = exists_at w.hosts h (subst (λ n. h < n) f.froms within) in
        let host = exists_at w.plan.hosts h (subst (λ n. h < n) (f.froms ∙ f.hosts) within) in
        let those = o.own h host.0 view.0 host.1 view.1 in
        let mine = (subst (λ (xs : List Item). AllByRecursion (IsOwnItem (me_of host.0)) xs) head those.sends).0 in
        let frames = (subst (λ (xs : List Item). AllByRecursion IsDataItem xs) head (all_items_at IsDataItem w.from_hosts h f.host_items)).0 in
        let popped : WorldView = record w { from_hosts = set w.from_hosts h items } in
        let order : InOrder first (parts_of popped) = record {
          tables = o.tables;
          own = shorter_own w.plan w.hosts w.from_hosts h items (λ P all. (subst (λ (xs : List Item). AllByRecursion P xs) head all).1) within o.own;
          since = o.since;
          rises = o.rises;
          given = o.given;
          once = o.once;
        } in
        comes_at (heard_item popped h (Data id frame)) attachment.edge.0 attachment.port (Data id frame) new order apart frames
        (λ n bytes same v found host_port. record {
          within = subst (λ n. attachment.port < n) (sym (all_found (λ (v : SwitchView). v.k ≡ w.plan.k) w.switches attachment.edge.0 v f.ports found))
              (all_found (IsTreePort w.plan.k) w.attachments h attachment f.at_ports is).port;
          own_ip = subst (λ (b : List ℕ). IsOwnIp (λ mac. own_ip w.plan mac) (source_of b) (sender_ip b)) (ap bytes_of same)
              (own_frame w.plan f.plan h host.0 host.1 frame mine);
        }) comes
      where
        bytes_of : Item → List ℕ
        bytes_of (Control bytes) = bytes
        bytes_of (Data n bytes) = bytes

    -- ---- out of a port
    module _ (rule : HostRule) (sends : HostsSendData rule) (owns : HostsSendOwn rule) where
      a_host : (u : WorldView) (h : ℕ) (input : HostInput) (answer : HostAnswer) (new : WorldView) → parts_of u ≡ parts_of w → HostTurn rule u h input answer new → InOrder first (parts_of new)
      a_host u h input answer new same turn =
          host_turn first rule sends owns u h input answer new (subst (λ (p : Parts). InOrder first p) (sym same) o)
          (subst (λ (p : Parts). AllByRecursion HoldsData p.hosts) (sym same) f.holding)
          (subst (λ (p : Parts). length p.from_hosts ≡ length p.hosts) (sym same) f.froms) turn

      at_host : (u : WorldView) (id : ℕ) (frame : List ℕ) (h : Option ℕ) (new : WorldView) → parts_of u ≡ parts_of w → ComesAtHost rule u id frame h new → InOrder first (parts_of new)
      at_host u id frame None new same is =
          subst (λ (p : Parts). InOrder first p) (sym (ap parts_of is ∙ one_quiet u (Dropped id cause.HostGone) (λ x. refl) ∙ same)) o
      at_host u id frame (Some h) new same is =
          a_host (reception_noted u h id frame is.reception) h _ _ new
          (reception_left SameParts IsNoAddressEntry same_writes (λ n g f x. refl) u h id frame is.reception ∙ same) is.turn

      comes_out : (u : WorldView) (s port : ℕ) (item : Item) (new : WorldView) → parts_of u ≡ parts_of w → ComesOut rule u s port item new → InOrder first (parts_of new)
      comes_out u s port (Control frame) new same is = subst (λ (p : Parts). InOrder first p) (sym (ap parts_of is ∙ same)) o
      comes_out u s port (Data id frame) new same is = at_host u id frame (receiver u s port frame) new same is

      over_link : (s port q : ℕ) (item : Item) (items : List Item) (to : SwitchNo) (new : WorldView) → out_of w s port ≡ item ∷ items → KnowNeighbours w →
          AreApart new.switches →
          peer_of w.plan s port ≡ Switch to q → ComesAtSwitch Loose (record w { out = set w.out (port_index w.plan.k s port) items }) to.0 q item new →
          InOrder first (parts_of new)
      over_link s port q item items to new head know apart peer comes =
          let all = (subst (λ (xs : List Item). AllByRecursion IsItem xs) head (all_items_at IsItem w.out (port_index w.plan.k s port) f.port_items)).0 in
          comes_at (record w { out = set w.out (port_index w.plan.k s port) items }) to.0 q item new
          (record { tables = o.tables; own = o.own; since = o.since; rises = o.rises; given = o.given; once = o.once }) apart all
          (λ id frame same v found host_port.
          absurd (false≢true (sym (know s port to q id frame v peer
          (subst (λ (xs : List Item). Contains xs (Data id frame)) (sym head) (subst (λ (i : Item). Contains (item ∷ items) i) same (Contains-append_left (item ∷ []) items item (Contains-push [] item)))) found) ∙ host_port))) comes

      -- ---- from the manager
      from_manager : (s : ℕ) (says : ToSwitch) (items : List ToSwitch) (new : WorldView) → AreApart new.switches →
          SwitchTurn Loose (record w { from_manager = set w.from_manager s items }) s (Says says) Silent new → InOrder first (parts_of new)
      from_manager s says items new apart turn =
          switch_turn first (record w { from_manager = set w.from_manager s items }) s (Says says) _ new
          (record { tables = o.tables; own = o.own; since = o.since; rises = o.rises; given = o.given; once = o.once }) apart
          (λ v found choose. brings_order (λ mac. own_ip w.plan mac) choose v says) turn

      -- ---- all else
      ticks_on : (s : ℕ) (new : WorldView) → AreApart new.switches → SwitchTurn Loose (record w { heard = heard_after_tick s w.attachments w.heard }) s Tick Silent new → InOrder first (parts_of new)
      ticks_on s new apart turn =
          switch_turn first (record w { heard = heard_after_tick s w.attachments w.heard }) s Tick _ new
          (record { tables = o.tables; own = o.own; since = o.since; rises = o.rises; given = o.given; once = o.once }) apart
          (λ v found choose. brings_tick (λ mac. own_ip w.plan mac) choose v) turn

      -- where these parts are the same
      still : (u : WorldView) → parts_of u ≡ parts_of w → InOrder first (parts_of u)
      still u same = subst (λ (p : Parts). InOrder first p) (sym same) o

      goes : (h : ℕ) (to from : AttachmentPoint) (new : WorldView) → HostTurn rule (host_moved w h from to) h HasMoved Nothing new → InOrder first (parts_of new)
      goes h to from new turn =
          let within : h < length w.from_hosts = subst (λ n. h < n) (sym f.froms) (slice_get_within w.hosts h turn.before turn.found) in
          host_turn first rule sends owns (host_moved w h from to) h _ _ new
          (subst (λ (p : Parts). InOrder first p) (sym (moved_same w h from to))
          (record {
            tables = o.tables;
            own = shorter_own w.plan w.hosts w.from_hosts h [] (λ P all. tt) within o.own;
            since = o.since;
            rises = o.rises;
            given = o.given;
            once = o.once;
          })) f.holding
          (length-set w.from_hosts h [] ∙ f.froms) turn

      module _ (manager : ManagerRule) (e : Event) (new : WorldView) (know : KnowNeighbours w) (apart : AreApart new.switches) where
        by_case : Happened Loose manager rule w e new → InOrder first (parts_of new)
        by_case (FromHost h item items attachment is head at comes) = from_host h.0 item items attachment new head apart at comes
        by_case (OverLink s port item items t q is head joined comes) = over_link s.0 port q item items t new head know apart joined comes
        by_case (OutOfPort s port item items is head joined comes) =
            comes_out (record w { out = set w.out (port_index w.plan.k s.0 port) items }) s.0 port item new refl comes
        by_case (Reported s told items is head turn) =
            still new (manager_acts_left SameParts IsNoAddressEntry same_writes (λ pmac n x. refl) (λ u t says. refl) manager
            (record w { to_manager = set w.to_manager s.0 items }) s.0 told new turn)
        by_case (Ordered s says items is head turn) = from_manager s.0 says items new apart turn
        by_case (Ticked s is turn) = ticks_on s.0 new apart turn
        by_case (Failed a b link is found fails) =
            still new (ap parts_of fails ∙ failed_left SameParts IsNoAddressEntry same_writes (λ u i. refl) w link (λ x. refl) (λ u links. refl))
        by_case (Repaired a b link is found repairs) =
            still new (ap parts_of repairs ∙ repaired_left SameParts IsNoAddressEntry same_writes w link (λ x. refl) (λ u links. refl))
        by_case (Lost s port item items is head loses) =
            still new (ap parts_of loses ∙ lost_left SameParts IsNoAddressEntry same_writes
            (record w { out = set w.out (port_index w.plan.k s.0 port) items }) item)
        by_case (Departed h s port from is at turn) = goes h.0 (record { edge = s; port = port }) from new turn
        by_case (PlayedFrame h input skip is turn) =
            a_host (skip_noted w h.0 skip) h.0 _ _ new (skip_left SameParts IsNoAddressEntry same_writes (λ g why x. refl) w h.0 skip) turn
        by_case (Asked h input is turn) = a_host w h.0 _ _ new refl turn
        by_case (BeganAnew is anew) = still new (ap parts_of anew ∙ anew_left SameParts IsNoAddressEntry same_writes w (λ x. refl) (λ u n. refl))

        pub happens_in_order : Happens Loose manager rule w e new → InOrder first (parts_of new)
        happens_in_order does = by_case (happened Loose manager rule w e new does)
