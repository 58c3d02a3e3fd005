-- A frame of a host is delivered to the switch where the host stands: whatever is done with it keeps what is told.
use Rattle.std.proofs.Common.{◌≡◌, ℕ, zero, ◌+◌, ◌<◌, ◌==◌, true, false, Contains, List, [], ◌∷◌, Option, None, Some, reverse, set, slice_get, refl, sym, ◌∙◌, ap, subst, arith}
use Rattle.std.proofs.Math.ListN.{length-set}
use Rattle.std.specs.List.{AllByRecursion}
use Rattle.std.proofs.lemmas.Bool.{cond-false, cond-true, eq-eqb}
use Rattle.std.specs.Option.{option_map}
use Rattle.pl_layouts.specs.declared.place.Place.{Place}
use Rattle.pl_layouts.specs.Control.{is_control}
use Rattle.pl_journal.specs.declared.entry.Entry.{Entry}
use Rattle.pl_journal.specs.declared.entry.Entry.TheVariants.{Crossed, Granted}
use Rattle.pl_journal.specs.Flights.{Flight, has_just_come_in, is_empty, trail}
use Rattle.pl_journal.specs.Places.{at_port, edge_port_of}
use Rattle.pl_node.specs.Accounting.{AccountsForFrames, IsShaped}
use Rattle.pl_node.specs.PortRecords.{is_open_to_hosts, port_of}
use Rattle.pl_node.specs.SwitchInputs.SwitchInput.{Comes}
use Rattle.pl_node.specs.SwitchViews.{SwitchView}
use Rattle.pl_steps.specs.Steps.{SwitchStep}
use Rattle.pl_queues.specs.Queues.{items_at}
use Rattle.pl_switch_rule.specs.Intake.{comes_from_host}
use Rattle.pl_switch_rule.specs.SwitchRule.{Loose, comes_from_switch, control_comes, data_comes, switch_step}
use Rattle.pl_world.specs.declared.item.Item.{Item}
use Rattle.pl_world.specs.declared.item.Item.TheVariants.{Control, Data}
use Rattle.pl_world.specs.declared.spoken_frame.SpokenFrame.TheVariants.{Waiting}
use Rattle.pl_world.specs.declared.attachment.AttachmentPoint.{AttachmentPoint}
use Rattle.pl_world.specs.Changes.{host_no, noted, switch_no}
use Rattle.pl_world.specs.Flying.{IsCounted, IsDataItem, IsFrame, times_in}
use Rattle.pl_world.specs.WorldRule.{ComesIn, DeliversFromHost, SwitchTurn, heard_item}
use Rattle.pl_world.specs.Worlds.{WorldView}
use Rattle.pl_world.proofs.Exports.{all_at, all_found, HasRest, heard_rest, noted_owes, one, Owes, sound, times_in-data, took_host_balance}
use Rattle.pl_law_flights.specs.OnTheWay.{IsJournaled, IsWaiting, history_of, place_in, edge_port_of_attachment}
use Rattle.pl_law_flights.specs.Standing.{IsMore, StandsOn, StandsOnHosts}
use Rattle.pl_law_flights.proofs.ComingIn.{Coming, comes_good}
use Rattle.pl_law_flights.proofs.ComingIn.Coming.{Grants, NoGrant}
use Rattle.pl_law_flights.proofs.HostFramesCross.{come_in, enters, taken_from}
use Rattle.pl_law_flights.proofs.FromManager.{good_grown}
use Rattle.pl_law_flights.proofs.GrantingAmid.{GoodBehind, entering_turn, sourced}
use Rattle.pl_law_flights.proofs.RoutesStay.{tells_grown}
use Rattle.pl_law_flights.proofs.Hands.{IsAmid}
use Rattle.pl_law_flights.proofs.Hands.Hand.{Waits}
use Rattle.pl_law_flights.proofs.Hosts.{host_by_mac}
use Rattle.pl_law_flights.proofs.SwitchTurns.{turn_journaled}

-- a frame that crosses its first switch has just come in, and no other one
just_itself : (past : List Entry) (id s : ℕ) → is_empty (trail past id) ≡ true → has_just_come_in (Crossed id (switch_no s) ∷ past) id ≡ true
just_itself past id s none = rw (eq-eqb id id refl) none

no_other : (past : List Entry) (id s g : ℕ) → (id == g) ≡ false → has_just_come_in (Crossed id (switch_no s) ∷ past) g ≡ false
no_other past id s g other = rw other refl

module _ (w : WorldView) (counted : IsCounted w) (told : IsJournaled w) (on : StandsOn w) (hosts : StandsOnHosts w) (accounts : AccountsForFrames Loose)
    (h id : ℕ) (frame : List ℕ) (items : List Item) (head : items_at w.from_hosts h ≡ Data id frame ∷ items) (attachment : AttachmentPoint)
    (found : slice_get w.attachments h ≡ Some attachment) where
  -- amid the step, where more may be known of places
  amid_later : (place : ℕ → Place) → IsMore (place_in w.switches) place →
      IsAmid place attachment.edge.0 (Waits (come_in (reverse w.journal) id h frame attachment.edge.0 attachment.port) false) (Crossed id (switch_no attachment.edge.0) ∷ reverse w.journal)
      (noted (taken_from w h items) (Crossed id (switch_no attachment.edge.0))) (Waiting id false) []
  amid_later place more =
      let a = enters w counted told h id frame items head attachment found in
      record {
        is = a.is;
        tells = tells_grown (place_in w.switches) place more w.plan (Crossed id (switch_no attachment.edge.0) ∷ reverse w.journal) w.links w.attachments
            (taken_from w h items).from_hosts w.out a.tells;
        holds = a.holds;
        puts_off = tt;
      }

  pub enters_journaled : (new : WorldView) → IsMore (place_in w.switches) (place_in new.switches) →
      SwitchTurn Loose (noted (heard_item (taken_from w h items) h (Data id frame)) (Crossed id (switch_no attachment.edge.0))) attachment.edge.0 (Comes attachment.port frame)
      (Waiting id false) new → IsJournaled new
  enters_journaled new more turn =
      let s : ℕ = attachment.edge.0 in
      let past : List Entry = reverse w.journal in
      let now : List Entry = Crossed id (switch_no s) ∷ past in
      let w1 : WorldView = noted (heard_item (taken_from w h items) h (Data id frame)) (Crossed id (switch_no s)) in
      let so = sound w counted in
      let item : IsFrame false frame =
      (subst (λ l. AllByRecursion IsDataItem l) head (all_at (AllByRecursion IsDataItem) w.from_hosts h [] tt so.balance.host_items)).0 in
      let v : SwitchView = turn.before in
      let size : v.k ≡ w.plan.k = all_found (λ (x : SwitchView). x.k ≡ w.plan.k) w.switches s v turn.found so.rest.ports in
      let shaped : IsShaped v = all_found IsShaped w.switches s v turn.found so.rest.shaped in
      let there = hosts.at_ports h attachment found in
      let knows = hosts.hosts s v turn.found in
      let loose = turn.ruled in
      let step : switch_step loose.choose v (Comes attachment.port frame) ≡ comes_from_host loose.choose v attachment.port frame =
      cond-false (is_control frame) (control_comes v attachment.port frame) (data_comes loose.choose v attachment.port frame) item.kind
      ∙ cond-true (is_open_to_hosts (port_of v attachment.port)) (comes_from_host loose.choose v attachment.port frame) (comes_from_switch loose.choose v attachment.port frame)
      (knows.unheard attachment.port there.0) in
      let acts : turn.acts ≡ (comes_from_host loose.choose v attachment.port frame).acts = loose.steps.done ∙ ap (λ (x : SwitchStep). x.acts) step in
      let at : edge_port_of w.plan past h ≡ Some (at_port s attachment.port) = sym (told.attachments_agree h) ∙ ap (option_map edge_port_of_attachment) found in
      let waits : Contains (items_at w.from_hosts h) (Data id frame) = subst (λ l. Contains l (Data id frame)) (sym head) (zero, omega arith, refl) in
      let coming : Coming w.plan (place_in w.switches) now s h (come_in past id h frame s attachment.port) turn.acts =
      subst (λ a. Coming w.plan (place_in w.switches) now s h (come_in past id h frame s attachment.port) a) (sym acts)
      (comes_good w.plan (place_in w.switches) past s v attachment.port h id frame so.rest.is_plan on.places (on.neighbours s v turn.found) (on.addresses s v turn.found)
      knows loose.choose loose.is_choice there.0 there.1 size (shaped.free attachment.port) at (hosts.own h id frame waits) item.whole.low) in
      let owes : Owes w1 (λ i. one id i + 0) =
      noted_owes (heard_item (taken_from w h items) h (Data id frame)) (λ i. times_in i (Data id frame ∷ [])) (λ i. one id i + 0) (Crossed id (switch_no s) ∷ []) refl
      (λ i. omega (arith, times_in-data i id frame []))
      (took_host_balance w.plan w.from_hosts w.out w.journal w.begun (λ i. 0) (λ i. times_in i (Data id frame ∷ [])) h (Data id frame) items head (λ i. omega arith) so.balance) in
      let rest : HasRest w1 = heard_rest w _ (length-set w.heard h _) so.rest in
      let later : ℕ → Place = place_in new.switches in
      let f : Flight = come_in past id h frame s attachment.port in
      let amid = amid_later later more in
      let none : trail past id ≡ [] =
      ap (λ (x : Flight). x.trail) (subst (λ l. AllByRecursion (IsWaiting w.plan past h) l) head (told.flying.waiting h)).0 in
      elim coming [
        | NoGrant good ↦ turn_journaled Loose accounts w1 s (Comes attachment.port frame) (Waiting id false) new turn (rw (item.kind) refl)
            (λ x same. record { within = subst (λ n. attachment.port < n) (sym same) there.1; whole = item.whole }) owes rest (Waits f false) now amid
            (good_grown w.plan (place_in w.switches) later more (history_of now) s turn.acts (Waits f false) good)
        | Grants silent pmac amac others is are of_host may good ↦
            let behind : GoodBehind later s turn.before.k id f pmac amac others w1 now (Some h) = (
              may,
              good_grown w.plan (place_in w.switches) later more (history_of (Granted pmac (host_no h) (switch_no s) pmac.port ∷ now)) s others
                  (Waits (sourced (Granted pmac (host_no h) (switch_no s) pmac.port ∷ now) f) false) good,
            ) in
            entering_turn Loose accounts w1 s (Comes attachment.port frame) new (rw (item.kind) refl)
            (λ x same. record { within = subst (λ n. attachment.port < n) (sym same) there.1; whole = item.whole }) id f now owes rest turn silent pmac amac others
            is are amid (just_itself past id s (ap is_empty none)) (λ g other. no_other past id s g other)
            (subst (λ o. GoodBehind later s turn.before.k id f pmac amac others w1 now o) (sym (host_by_mac w.plan h amac so.rest.is_plan of_host)) behind)
      ]

-- the head of a host's queue is delivered
pub from_host_journaled : (w : WorldView) → IsCounted w → IsJournaled w → StandsOn w → StandsOnHosts w → AccountsForFrames Loose → (h : ℕ) (new : WorldView) →
    IsMore (place_in w.switches) (place_in new.switches) → DeliversFromHost Loose w h (items_at w.from_hosts h) new → IsJournaled new
from_host_journaled w counted told on hosts accounts h new more = by_items (items_at w.from_hosts h) refl
  where
    by_attachment : (id : ℕ) (frame : List ℕ) (items : List Item) → items_at w.from_hosts h ≡ Data id frame ∷ items → (o : Option AttachmentPoint) → slice_get w.attachments h ≡ o →
        ComesIn Loose (record w { from_hosts = set w.from_hosts h items }) h (Data id frame) o new → IsJournaled new
    by_attachment id frame items head None found comes = absurd comes
    by_attachment id frame items head (Some attachment) found turn = enters_journaled w counted told on hosts accounts h id frame items head attachment found new more turn

    by_items : (items : List Item) → items_at w.from_hosts h ≡ items → DeliversFromHost Loose w h items new → IsJournaled new
    by_items [] head comes = absurd comes
    by_items (Control frame ∷ items) head comes =
        absurd (subst (λ l. AllByRecursion IsDataItem l) head (all_at (AllByRecursion IsDataItem) w.from_hosts h [] tt (sound w counted).balance.host_items)).0
    by_items (Data id frame ∷ items) head comes = by_attachment id frame items head (slice_get w.attachments h) refl comes
