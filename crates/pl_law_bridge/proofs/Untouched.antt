-- What an event does to a frame: it takes it from its queue, or leaves it where it is.
use Rattle.std.proofs.Common.{◌≡◌, ◌⊎◌, ℕ, ◌+◌, ◌≤◌, ◌==◌, false, true, List, [], ◌∷◌, Some, set, slice_get, refl, sym, ap, ◌∙◌, subst, arith, inl, inr}
use Rattle.std.specs.List.{AllByRecursion}
use Rattle.std.proofs.lemmas.Bool.{ne_eqb}
use Rattle.pl_wiring.specs.declared.host.HostNo.{HostNo}
use Rattle.pl_wiring.specs.declared.label.SwitchNo.{SwitchNo}
use Rattle.pl_wiring.specs.declared.link.Link.{Link}
use Rattle.pl_wiring.specs.Index.{port_index}
use Rattle.pl_journal.specs.declared.entry.Entry.TheVariants.{Crossed, LinkDown}
use Rattle.pl_journal.specs.declared.cause.Cause.TheVariants as cause
use Rattle.pl_node.specs.HostInputs.{HostRule}
use Rattle.pl_node.specs.ManagerDuties.{ManagerRule}
use Rattle.pl_node.specs.SwitchInputs.SwitchInput.{Comes, Says, Tick}
use Rattle.pl_queues.specs.Queues.{items_at}
use Rattle.pl_world.specs.declared.attachment.AttachmentPoint.{AttachmentPoint}
use Rattle.pl_world.specs.declared.event.Event.{Event}
use Rattle.pl_world.specs.declared.event.Event.TheVariants as event
use Rattle.pl_world.specs.declared.event.QueueName.TheVariants as queue
use Rattle.pl_world.specs.declared.item.Item.{Item}
use Rattle.pl_world.specs.declared.item.Item.TheVariants.{Control, Data}
use Rattle.pl_world.specs.declared.spoken_frame.SpokenFrame.TheVariants.{Silent, Waiting}
use Rattle.pl_world.specs.Changes.{emptied_out, ends_of, host_no, noted, out_of, switch_no}
use Rattle.pl_world.specs.Drops.{IsTakenAway}
use Rattle.pl_world.specs.Flying.{IsCounted, IsDataItem, times_in, times_in_all}
use Rattle.pl_world.specs.LinksAndMoves.{host_moved, item_lost, link_between, link_failed, with_link}
use Rattle.pl_world.specs.OtherActs.{heard_after_tick, skip_noted}
use Rattle.pl_world.specs.WorldRule.{ComesAtSwitch, ComesOut, Happens, heard_item}
use Rattle.pl_world.specs.Worlds.{WorldView}
use Rattle.pl_world.proofs.Exports.{all_at, anew_left, born_once, Happened, happened, head_is_item, lost_left, moved_left, out_left, repaired_left, sent_is_item, skip_left, Sound, sound, took_host_balance, took_out_balance}
use Rattle.pl_world.proofs.Exports.Happened.{Asked, BeganAnew, Departed, Failed, FromHost, Lost, Ordered, OutOfPort, OverLink, PlayedFrame, Repaired, Reported, Ticked}
use Rattle.pl_node.proofs.Exports.{IsAmong}
use Rattle.pl_node.specs.declared.acts.Act.{Act}
use Rattle.pl_bridge_rule.specs.BridgeRule.{Bridges, port_for, with_source}
use Rattle.pl_frame.specs.Ethernet.{destination_of}
use Rattle.pl_layouts.specs.Control.{is_control}
use Rattle.pl_law_bridge.proofs.Acting.{IsOnward}
use Rattle.pl_law_counts.proofs.Exports.{taken_out}
use Rattle.pl_law_bridge.proofs.Happening.{all_onward, comes_acts, control_acts, IsNowhere, owed_is_nowhere}
use Rattle.pl_law_bridge.proofs.Sparing.{host_spares, IsAside, IsThere, manager_spares, Spares, spares_beside, spares_entries, spares_noted, spares_writes, ends_aside, turn_spares, Whereabouts}
use Rattle.pl_law_bridge.proofs.Sparing.Whereabouts.{AtEnd, AtHost, AtPlace}
use Rattle.pl_law_bridge.proofs.Waiting.{arrived_ends, emptied, left_over, waits_in_all}

-- a frame has arrived
abbrev pub IsOver : Whereabouts → Type 0
IsOver (AtHost h) = ⊥
IsOver (AtPlace n) = ⊥
IsOver (AtEnd g) = Unit {0}

-- where it waits, it is not taken away: it is not lost, nobody moves, and its link does not fail
pub record IsLeftAlone (x : Whereabouts) (id : ℕ) (w : WorldView) (e : Event) : Type 0 where
  pub not_lost : (s : SwitchNo) (port : ℕ) → e ≡ event.Lose s port → IsTakenAway w s.0 port id → IsOver x
  pub nobody_moves : (h : HostNo) (s : SwitchNo) (port : ℕ) → e ≡ event.Move h s port → IsOver x
  pub low : (a b : SwitchNo) (link : Link) → e ≡ event.Fail a b → link_between w.plan a.0 b.0 ≡ Some link → x ≡ AtPlace (port_index w.plan.k link.lower.0 link.lower_port) → ⊥
  pub high : (a b : SwitchNo) (link : Link) → e ≡ event.Fail a b → link_between w.plan a.0 b.0 ≡ Some link → x ≡ AtPlace (port_index w.plan.k link.upper.0 link.upper_port) → ⊥

pub data Befell (x : Whereabouts) (id : ℕ) (frame : List ℕ) (w : WorldView) (e : Event) (new : WorldView) : Type 0 where
  Spared : Spares x id frame w new → Befell x id frame w e new
  LeavesHost : (h : HostNo) (items : List Item) → x ≡ AtHost h.0 → e ≡ event.Deliver (queue.FromHost h) → items_at w.from_hosts h.0 ≡ Data id frame ∷ items →
      Befell x id frame w e new
  LeavesPort : (s : SwitchNo) (port : ℕ) (items : List Item) → x ≡ AtPlace (port_index w.plan.k s.0 port) → e ≡ event.Deliver (queue.Port s port) →
      out_of w s.0 port ≡ Data id frame ∷ items → Befell x id frame w e new

module _ (x : Whereabouts) (id : ℕ) (frame : List ℕ) where
  -- a queue is emptied where the frame does not wait
  empties_out : (w : WorldView) (i : ℕ) → (x ≡ AtPlace i → ⊥) → Spares x id frame w (record w { out = set w.out i [] })
  empties_out w i other = record {
    there = by x other;
    begun = omega arith;
    line = λ le. refl;
    single = λ le. refl;
  }
    where
      by : (y : Whereabouts) → (y ≡ AtPlace i → ⊥) → IsThere y id frame w → IsThere y id frame (record w { out = set w.out i [] })
      by (AtHost h) apart there = there
      by (AtPlace n) apart there = emptied w.out i n (Data id frame) (λ same. apart (ap AtPlace same)) there
      by (AtEnd g) apart there = there

  over_is_no_place : (i : ℕ) → IsOver x → x ≡ AtPlace i → ⊥
  over_is_no_place i over is = subst IsOver is over

  empties_host : (w : WorldView) (h : ℕ) → IsOver x → Spares x id frame w (record w { from_hosts = set w.from_hosts h [] })
  empties_host w h over = record {
    there = by x over;
    begun = omega arith;
    line = λ le. refl;
    single = λ le. refl;
  }
    where
      by : (y : Whereabouts) → IsOver y → IsThere y id frame w → IsThere y id frame (record w { from_hosts = set w.from_hosts h [] })
      by (AtHost m) over there = absurd over
      by (AtPlace n) over there = absurd over
      by (AtEnd g) over there = there

  emptied_spares : (w : WorldView) (s port : ℕ) → (x ≡ AtPlace (port_index w.plan.k s port) → ⊥) → Spares x id frame w (emptied_out w s port cause.LinkDown)
  emptied_spares w s port other =
      let mid : WorldView = record w { out = set w.out (port_index w.plan.k s port) [] } in
      (spares_writes x id frame).on w mid _ (empties_out w (port_index w.plan.k s port) other)
      (spares_entries x id frame mid (ends_of cause.LinkDown (items_at w.out (port_index w.plan.k s port))) (ends_aside x id frame cause.LinkDown (items_at w.out (port_index w.plan.k s port))))

  fails_spare : (w : WorldView) (link : Link) → (x ≡ AtPlace (port_index w.plan.k link.lower.0 link.lower_port) → ⊥) → (x ≡ AtPlace (port_index w.plan.k link.upper.0 link.upper_port) → ⊥) →
      Spares x id frame w (link_failed w link)
  fails_spare w link low high =
      let on = (spares_writes x id frame).on in
      let dead : WorldView = record w { links = with_link w.links link false } in
      let said = noted dead (LinkDown link.lower link.upper) in
      let lower = emptied_out said link.lower.0 link.lower_port cause.LinkDown in
      on w lower (link_failed w link)
      (on w said lower (on w dead said (spares_beside x id frame w dead refl refl refl refl) (spares_noted x id frame dead (LinkDown link.lower link.upper) tt))
      (emptied_spares said link.lower.0 link.lower_port low))
      (emptied_spares lower link.upper.0 link.upper_port high)

  module _ (manager : ManagerRule) (host : HostRule) (w : WorldView) (counted : IsCounted w) (is_there : IsThere x id frame w) (new : WorldView) where
    so : Sound w
    so = sound w counted

    abbrev Spare : WorldView → WorldView → Type 0
    Spare = Spares x id frame

    on : (a b c : WorldView) → Spare a b → Spare b c → Spare a c
    on = (spares_writes x id frame).on

    -- the frame waits still, or has ended
    over_not_flying : (c : ℕ) → 1 ≤ times_in_all c w.from_hosts + times_in_all c w.out → IsOver x → c ≡ id → ⊥
    over_not_flying c some over same = by x over is_there
      where
        by : (y : Whereabouts) → IsOver y → IsThere y id frame w → ⊥
        by (AtHost h) over there = over
        by (AtPlace n) over there = over
        by (AtEnd g) over there =
            let ended = arrived_ends id (host_no g) frame w.journal there in
            let count = counted.flights id in
            let few = born_once id w.begun in
            let flies : 1 ≤ times_in_all id w.from_hosts + times_in_all id w.out = subst (λ n. 1 ≤ times_in_all n w.from_hosts + times_in_all n w.out) same some in
            omega (arith, ended, count, few, flies)

    -- a head that was taken is another frame, where this one is still there
    is_other : (c : ℕ) (w1 : WorldView) → IsNowhere c w1.from_hosts w1.out → 1 ≤ times_in_all c w.from_hosts + times_in_all c w.out → IsThere x id frame w1 → (c == id) ≡ false
    is_other c w1 nowhere some there = ne_eqb c id (λ same. by x refl same there)
      where
        by : (y : Whereabouts) → x ≡ y → c ≡ id → IsThere y id frame w1 → ⊥
        by (AtHost h) is same there =
            let waits = waits_in_all id frame w1.from_hosts h there in
            let none : times_in_all id w1.from_hosts ≡ 0 = subst (λ n. times_in_all n w1.from_hosts ≡ 0) same nowhere.at_hosts in
            omega (arith, waits, none)
        by (AtPlace n) is same there =
            let waits = waits_in_all id frame w1.out n there in
            let none : times_in_all id w1.out ≡ 0 = subst (λ n. times_in_all n w1.out ≡ 0) same nowhere.at_ports in
            omega (arith, waits, none)
        by (AtEnd g) is same there = over_not_flying c some (subst IsOver (sym is) tt) same

    -- the frame itself is taken from the queue of a host, or is still there
    taken_host : (h : ℕ) (item : Item) (items : List Item) → items_at w.from_hosts h ≡ item ∷ items →
        ((x ≡ AtHost h) × (item ≡ Data id frame)) ⊎ IsThere x id frame (record w { from_hosts = set w.from_hosts h items })
    taken_host h item items head = by x is_there
      where
        by : (y : Whereabouts) → IsThere y id frame w → ((y ≡ AtHost h) × (item ≡ Data id frame)) ⊎ IsThere y id frame (record w { from_hosts = set w.from_hosts h items })
        by (AtHost m) there = elim (left_over w.from_hosts h m (Data id frame) item items head there) [ inl both ↦ inl (ap AtHost both.0, both.1) | inr rest ↦ inr rest ]
        by (AtPlace n) there = inr there
        by (AtEnd g) there = inr there

    taken_place : (n : ℕ) (item : Item) (items : List Item) → items_at w.out n ≡ item ∷ items →
        ((x ≡ AtPlace n) × (item ≡ Data id frame)) ⊎ IsThere x id frame (record w { out = set w.out n items })
    taken_place n item items head = by x is_there
      where
        by : (y : Whereabouts) → IsThere y id frame w → ((y ≡ AtPlace n) × (item ≡ Data id frame)) ⊎ IsThere y id frame (record w { out = set w.out n items })
        by (AtHost m) there = inr there
        by (AtPlace m) there = elim (left_over w.out n m (Data id frame) item items head there) [ inl both ↦ inl (ap AtPlace both.0, both.1) | inr rest ↦ inr rest ]
        by (AtEnd g) there = inr there

    -- what is taken leaves the rest
    from : (w1 : WorldView) → w1.journal ≡ w.journal → w1.begun ≡ w.begun → IsThere x id frame w1 → Spare w w1
    from w1 journal begun there = record {
      there = λ h. there;
      begun = omega (arith, begun);
      line = λ le. (spares_beside x id frame w (record w { journal = w1.journal }) refl refl journal refl).line le;
      single = λ le. (spares_beside x id frame w (record w { journal = w1.journal }) refl refl journal refl).single le;
    }

    -- ---- an item comes at a switch
    none_onward : (acts : List Act) → acts ≡ [] → AllByRecursion (IsOnward []) acts
    none_onward acts none = subst (AllByRecursion (IsOnward [])) (sym none) tt

    control_spares : (u : WorldView) (t q : ℕ) (f : List ℕ) → is_control f ≡ true → ComesAtSwitch Bridges u t q (Control f) new → Spare u new
    control_spares u t q f kind turn =
        turn_spares x id frame Bridges u t (Comes q f) Silent new [] turn (none_onward turn.acts (turn.ruled.done ∙ control_acts turn.before q f kind)) tt

    data_spares : (u : WorldView) (t q c : ℕ) (f : List ℕ) → (c == id) ≡ false → is_control f ≡ false → ComesAtSwitch Bridges u t q (Data c f) new → Spare u new
    data_spares u t q c f apart kind turn =
        let said = noted u (Crossed c (switch_no t)) in
        on u said new (spares_noted x id frame u (Crossed c (switch_no t)) apart)
        (turn_spares x id frame Bridges said t (Comes q f) (Waiting c false) new f turn
        (subst (AllByRecursion (IsOnward f)) (sym (turn.ruled.done ∙ comes_acts turn.before q f kind))
        (all_onward turn.before.k q f (port_for (with_source turn.before q f) (destination_of f)))) (apart, refl))

    abbrev One : Event → Type 0
    One e = Befell x id frame w e new

    heard_spares : (u : WorldView) (h : ℕ) (item : Item) → Spare u (heard_item u h item)
    heard_spares u h (Control f) = (spares_writes x id frame).same u
    heard_spares u h (Data c f) = spares_beside x id frame u _ refl refl refl refl

    some_at_host : (h c : ℕ) (f : List ℕ) (items : List Item) → items_at w.from_hosts h ≡ Data c f ∷ items → 1 ≤ times_in_all c w.from_hosts + times_in_all c w.out
    some_at_host h c f items head =
        let waits = waits_in_all c f w.from_hosts h (subst (IsAmong (Data c f)) (sym head) (inl refl)) in omega (arith, waits)

    some_at_place : (n c : ℕ) (f : List ℕ) (items : List Item) → items_at w.out n ≡ Data c f ∷ items → 1 ≤ times_in_all c w.from_hosts + times_in_all c w.out
    some_at_place n c f items head =
        let waits = waits_in_all c f w.out n (subst (IsAmong (Data c f)) (sym head) (inl refl)) in omega (arith, waits)

    from_host : (e : Event) (h : HostNo) (item : Item) (items : List Item) (attachment : AttachmentPoint) → e ≡ event.Deliver (queue.FromHost h) → items_at w.from_hosts h.0 ≡ item ∷ items →
        ComesAtSwitch Bridges (heard_item (record w { from_hosts = set w.from_hosts h.0 items }) h.0 item) attachment.edge.0 attachment.port item new → One e
    from_host e h (Control f) items attachment is head comes =
        let all : AllByRecursion IsDataItem (Control f ∷ items) = subst (AllByRecursion IsDataItem) head
        (all_at (AllByRecursion IsDataItem) w.from_hosts h.0 [] tt so.balance.host_items) in
        absurd all.0
    from_host e h (Data c f) items attachment is head comes = elim (taken_host h.0 (Data c f) items head) [
      | inl itself ↦ LeavesHost h items itself.0 is (head ∙ ap (λ y. y ∷ items) itself.1)
      | inr there ↦
          let w0 : WorldView = record w { from_hosts = set w.from_hosts h.0 items } in
          let owes = took_host_balance w.plan w.from_hosts w.out w.journal w.begun (λ i. 0) (λ i. times_in i (Data c f ∷ [])) h.0 (Data c f) items head
          (λ i. omega arith) so.balance in
          let apart = is_other c w0 (owed_is_nowhere w0 c f owes) (some_at_host h.0 c f items head) there in
          let w1 = heard_item w0 h.0 (Data c f) in
          Spared (on w w1 new (on w w0 w1 (from w0 refl refl there) (heard_spares w0 h.0 (Data c f)))
          (data_spares w1 attachment.edge.0 attachment.port c f apart (sent_is_item w.from_hosts h.0 (Data c f) items head so.balance.host_items).kind comes))
    ]

    over_link : (e : Event) (s : SwitchNo) (port : ℕ) (item : Item) (items : List Item) (t : SwitchNo) (q : ℕ) → e ≡ event.Deliver (queue.Port s port) → out_of w s.0 port ≡ item ∷ items →
        ComesAtSwitch Bridges (taken_out w s.0 port items) t.0 q item new → One e
    over_link e s port (Control f) items t q is head comes = elim (taken_place (port_index w.plan.k s.0 port) (Control f) items head) [
      | inl itself ↦ absurd (cc itself.1)
      | inr there ↦
          Spared (on w (taken_out w s.0 port items) new (from (taken_out w s.0 port items) refl refl there)
          (control_spares (taken_out w s.0 port items) t.0 q f (head_is_item w.out (port_index w.plan.k s.0 port) (Control f) items head so.balance.port_items).kind comes))
    ]
    over_link e s port (Data c f) items t q is head comes = elim (taken_place (port_index w.plan.k s.0 port) (Data c f) items head) [
      | inl itself ↦ LeavesPort s port items itself.0 is (head ∙ ap (λ y. y ∷ items) itself.1)
      | inr there ↦
          let w1 = taken_out w s.0 port items in
          let n = port_index w.plan.k s.0 port in
          let owes = took_out_balance w.plan w.from_hosts w.out w.journal w.begun (λ i. 0) (λ i. times_in i (Data c f ∷ [])) n (Data c f) items head (λ i. omega arith) so.balance in
          let apart = is_other c w1 (owed_is_nowhere w1 c f owes) (some_at_place n c f items head) there in
          Spared (on w w1 new (from w1 refl refl there) (data_spares w1 t.0 q c f apart (head_is_item w.out n (Data c f) items head so.balance.port_items).kind comes))
    ]

    -- ---- an item comes out of a port for hosts
    out_of_port : (e : Event) (s : SwitchNo) (port : ℕ) (item : Item) (items : List Item) → e ≡ event.Deliver (queue.Port s port) → out_of w s.0 port ≡ item ∷ items →
        ComesOut host (taken_out w s.0 port items) s.0 port item new → One e
    out_of_port e s port item items is head comes = elim (taken_place (port_index w.plan.k s.0 port) item items head) [
      | inl itself ↦ LeavesPort s port items itself.0 is (head ∙ ap (λ y. y ∷ items) itself.1)
      | inr there ↦
          let w1 = taken_out w s.0 port items in
          Spared (on w w1 new (from w1 refl refl there)
          (out_left Spare (IsAside x id frame) (spares_writes x id frame) host (host_spares x id frame host) (λ n h f. tt) w1 s.0 port item new comes))
    ]

    lost : (e : Event) (s : SwitchNo) (port : ℕ) (item : Item) (items : List Item) → IsLeftAlone x id w e → e ≡ event.Lose s port → out_of w s.0 port ≡ item ∷ items →
        new ≡ item_lost (taken_out w s.0 port items) item → One e
    lost e s port item items alone is head loses = elim (taken_place (port_index w.plan.k s.0 port) item items head) [
      | inl itself ↦ absurd (over_is_no_place (port_index w.plan.k s.0 port) (alone.not_lost s port is (record { frame = frame; first = ap (λ l. slice_get l 0) head ∙ ap Some itself.1 })) itself.0)
      | inr there ↦
          let w1 = taken_out w s.0 port items in
          Spared (on w w1 new (from w1 refl refl there) (subst (Spare w1) (sym loses) (lost_left Spare (IsAside x id frame) (spares_writes x id frame) w1 item)))
    ]

    by_case : (e : Event) → IsLeftAlone x id w e → Happened Bridges manager host w e new → One e
    by_case e alone (FromHost h item items attachment is head found comes) = from_host e h item items attachment is head comes
    by_case e alone (OverLink s port item items t q is head adjacent comes) = over_link e s port item items t q is head comes
    by_case e alone (OutOfPort s port item items is head adjacent comes) = out_of_port e s port item items is head comes
    by_case e alone (Reported s told items is head turn) =
        let w1 : WorldView = record w { to_manager = set w.to_manager s.0 items } in
        Spared (on w w1 new (spares_beside x id frame w w1 refl refl refl refl) (manager_spares x id frame manager w1 s.0 told new turn))
    by_case e alone (Ordered s says items is head turn) =
        let w1 : WorldView = record w { from_manager = set w.from_manager s.0 items } in
        Spared (on w w1 new (spares_beside x id frame w w1 refl refl refl refl) (turn_spares x id frame Bridges w1 s.0 (Says says) Silent new [] turn (none_onward turn.acts turn.ruled.done) tt))
    by_case e alone (Ticked s is turn) =
        let w1 : WorldView = record w { heard = heard_after_tick s.0 w.attachments w.heard } in
        Spared (on w w1 new (spares_beside x id frame w w1 refl refl refl refl) (turn_spares x id frame Bridges w1 s.0 Tick Silent new [] turn (none_onward turn.acts turn.ruled.done) tt))
    by_case e alone (Failed a b link is found fails) = Spared (subst (Spare w) (sym fails) (fails_spare w link (alone.low a b link is found) (alone.high a b link is found)))
    by_case e alone (Repaired a b link is found repairs) =
        Spared (subst (Spare w) (sym repairs) (repaired_left Spare (IsAside x id frame) (spares_writes x id frame) w link tt (λ u links. spares_beside x id frame u _ refl refl refl refl)))
    by_case e alone (Lost s port item items is head loses) = lost e s port item items alone is head loses
    by_case e alone (Departed h s port from_where is found turn) =
        let over = alone.nobody_moves h s port is in
        let to : AttachmentPoint = record { edge = s; port = port } in
        Spared (on w (host_moved w h.0 from_where to) new
        (moved_left Spare (IsAside x id frame) (spares_writes x id frame)
        (record { from_hosts = λ u i. empties_host u i over; out = λ u i. empties_out u i (over_is_no_place i over) })
        w h.0 from_where to tt (λ u. spares_beside x id frame u _ refl refl refl refl))
        (host_spares x id frame host (host_moved w h.0 from_where to) h.0 _ _ new turn))
    by_case e alone (PlayedFrame h input skip is turn) =
        Spared (on w (skip_noted w h.0 skip) new (skip_left Spare (IsAside x id frame) (spares_writes x id frame) (λ g why. tt) w h.0 skip)
        (host_spares x id frame host (skip_noted w h.0 skip) h.0 input _ new turn))
    by_case e alone (Asked h input is turn) = Spared (host_spares x id frame host w h.0 _ _ new turn)
    by_case e alone (BeganAnew is anew) =
        Spared (subst (Spare w) (sym anew) (anew_left Spare (IsAside x id frame) (spares_writes x id frame) w tt (λ u n. spares_beside x id frame u _ refl refl refl refl)))

    pub befell : (e : Event) → IsLeftAlone x id w e → Happens Bridges manager host w e new → One e
    befell e alone does = by_case e alone (happened Bridges manager host w e new does)
