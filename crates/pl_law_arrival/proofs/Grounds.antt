-- In a settled fabric links, views and the manager's records agree.
use Rattle.std.proofs.Common.{◌≡◌, ℕ, ◌<◌, true, Some, slice_get, sym, ap, ◌∙◌, subst, inl, inr, arith}
use Rattle.std.proofs.lemmas.Bool.{cases_eq}
use Rattle.std.proofs.lemmas.List.{get_or_default}
use Rattle.std.proofs.lemmas.Option.{same_Some, slice_get-get_or}
use Rattle.pl_lemmas.proofs.Exports.{all_at, all_contained}
use Rattle.pl_frame.specs.declared.address.SwitchId.{SwitchId}
use Rattle.pl_layouts.specs.Equality.{same_switch}
use Rattle.pl_layouts.proofs.Exports.{switch_itself}
use Rattle.pl_wiring.specs.declared.link.Peer.{Peer}
use Rattle.pl_wiring.specs.Labels.{switch_count}
use Rattle.pl_wiring.specs.LiveLinks.{is_live, is_live_at}
use Rattle.pl_wiring.specs.Plan.{IsPlan}
use Rattle.pl_wiring.proofs.Exports.{at_contained, peer_is_switch}
use Rattle.pl_node.specs.ManagerViews.{is_told_usable, place_of, speakers, tellers}
use Rattle.pl_node.specs.PortRecords.{heard_id, heard_place}
use Rattle.pl_node.specs.SwitchViews.{SwitchView}
use Rattle.pl_node.proofs.Exports.{among_left, any_among}
use Rattle.pl_manager_rule.proofs.Exports.{teller_of_level}
use Rattle.pl_queues.specs.Queues.{items_at}
use Rattle.pl_world.specs.Worlds.{WorldView}
use Rattle.pl_fabric.specs.Settled.{IsSettled, IsSettledEnd, IsSettledTowards}
use Rattle.pl_law_control_plane.specs.ControlPlanes.{AreAdjacent, control_plane, no_switch}
use Rattle.pl_law_control_plane.proofs.Exports.{adjacent_there, adjacent_turned}
use Rattle.pl_law_places.proofs.Exports.{one_number}
use Rattle.pl_law_votes.proofs.Exports.{fixed_are_apart, ids_differ}
use Rattle.pl_law_pods.proofs.Exports.{one_pod}
use Rattle.pl_law_invariant.specs.ControlInvariant.{ControlInvariant}
use Rattle.pl_law_invariant.proofs.Exports.{grounded}
use Rattle.pl_law_due.specs.Gathering.{IsNoEnd}
use Rattle.pl_law_records.specs.Records.{NoReportWaits}
use Rattle.pl_law_records.specs.Words.{IsNoOrder, IsNoReport}
use Rattle.pl_law_records.proofs.Exports.{neighbours_at_rest, question_ends_none, question_reports_nothing, reply_orders_nothing}
use Rattle.pl_law_arrival.specs.Orderly.{IsOrderlyWorld}
use Rattle.pl_law_arrival.proofs.Calm.{Calm}
use Rattle.pl_law_arrival.proofs.Ready.{Ready, net}

module _ (w : WorldView) (order : IsOrderlyWorld w) (is : IsSettled w) where
  abbrev kept : ControlInvariant w
  kept = order.kept

  abbrev view : ℕ → SwitchView
  view = (control_plane w).view

  plan_is : IsPlan w.plan
  plan_is = kept.counted.formed.plan

  there : (s : ℕ) → s < switch_count w.plan.k → slice_get w.switches s ≡ Some (view s)
  there s within = let many = kept.counted.formed.switches in slice_get-get_or w.switches s no_switch (omega (arith, within, many))

  named : (s : ℕ) → s < switch_count w.plan.k → slice_get w.plan.ids s ≡ Some (view s).id
  named s within = let many = plan_is.ids_many in
      slice_get-get_or w.plan.ids s (record { 0 = 0 }) (omega (arith, many, within)) ∙ ap Some (sym (kept.voting.ids s))

  end_of : (s p t q : ℕ) → AreAdjacent w.plan s p t q → IsSettledEnd w.manager (is_live_at w.links s p) (view s) p (view t) q
  end_of s p t q adjacent =
      let here = adjacent_there w.plan s p t q plan_is adjacent in
      let beyond = adjacent_there w.plan t q s p plan_is (adjacent_turned w.plan s p t q plan_is adjacent) in
      subst (λ (peer : Peer). IsSettledTowards w s (view s) p peer) adjacent ((is.switches s (view s) (there s here.0)).links p here.1) (view t) (there t beyond.0)

  moved : (a b c d : ℕ) → a ≡ c → b ≡ d → is_live_at w.links a b ≡ true → is_live_at w.links c d ≡ true
  moved a b c d switch port live = subst (λ n. is_live_at w.links c n ≡ true) port (subst (λ n. is_live_at w.links n b ≡ true) switch live)

  both : (s p t q : ℕ) → AreAdjacent w.plan s p t q → is_live_at w.links s p ≡ true → is_live_at w.links t q ≡ true
  both s p t q adjacent live =
      let any = (peer_is_switch w.plan s p (record { 0 = t }) q plan_is).0 adjacent in
      let link = any.1 in
      let same : is_live_at w.links link.upper.0 link.upper_port ≡ is_live_at w.links link.lower.0 link.lower_port =
      at_contained (λ l. is_live_at w.links l.upper.0 l.upper_port ≡ is_live w.links l) w.plan.links link kept.counted.formed.links.agree (any.0, any.2, any.3) in
      elim any.4 [
        | inl e ↦ moved _ _ t q e.2 e.3 (same ∙ moved s p _ _ (sym e.0) (sym e.1) live)
        | inr e ↦ moved _ _ t q e.2 e.3 (sym same ∙ moved s p _ _ (sym e.0) (sym e.1) live)
      ]

  known : (i : SwitchId) (x : ℕ) → (place_of w.manager.told i).level ≡ Some x → (s : ℕ) × (s < switch_count w.plan.k) × ((view s).id ≡ i)
  known i x level =
      let teller = teller_of_level w.manager.told i x level in
      let speaks = among_left i (tellers w.manager.told) _ teller in
      let at = order.heard i (any_among (λ t. same_switch t i) i (speakers w.manager) speaks (switch_itself i)) in
      let many = plan_is.ids_many in
      (at.0, omega (arith, at.1, many), kept.voting.ids at.0 ∙ sym (get_or_default w.plan.ids at.0 i (record { 0 = 0 }) at.1) ∙ at.2)

  linked : (s : ℕ) (u : SwitchId) → s < switch_count w.plan.k → is_told_usable w.manager.told (view s).id u ≡ true → (p t q : ℕ) × AreAdjacent w.plan s p t q × ((view t).id ≡ u)
  linked s u within usable =
      let rests : NoReportWaits (control_plane w) = record {
        reports = λ n. all_contained IsNoReport (items_at w.to_manager n) (λ t waits. question_reports_nothing t (is.queues.to_manager n t waits));
        ends = λ n. all_contained IsNoEnd (items_at w.to_manager n) (λ t waits. question_ends_none t (is.queues.to_manager n t waits));
        orders = λ n. all_contained IsNoOrder (items_at w.from_manager n) (λ t waits. reply_orders_nothing t (is.queues.from_manager n t waits));
      } in
      let at = neighbours_at_rest (control_plane w) plan_is kept.gathered order.told rests s (view s).id u (named s within) usable in
      let beyond = adjacent_there w.plan at.1 at.2 s at.0 plan_is (adjacent_turned w.plan s at.0 at.1 at.2 plan_is at.3) in
      (at.0, at.1, at.2, at.3, same_Some (view at.1).id u (sym (named at.1 beyond.0) ∙ at.4))

  ids : (s t : ℕ) → s < switch_count w.plan.k → t < switch_count w.plan.k → (view s).id ≡ (view t).id → s ≡ t
  ids s t here also same = elim (cases_eq s t) [
    | inl is ↦ is
    | inr differ ↦ absurd (ids_differ w.plan plan_is s t here also differ (ap (λ (x : SwitchId). x.0) (sym (kept.voting.ids s) ∙ same ∙ kept.voting.ids t)))
  ]

  calm : Calm (net w)
  calm = record {
    is = plan_is;
    both = both;
    size = λ s within. let many = kept.counted.formed.switches in
        all_at (λ (v : SwitchView). v.k ≡ w.plan.k) w.switches s no_switch (omega (arith, within, many)) kept.counted.formed.ports;
    usable = λ s p t q adjacent. (end_of s p t q adjacent).usable;
    place_there = λ s p t q adjacent live. ap heard_place ((end_of s p t q adjacent).current live);
    id_there = λ s p t q adjacent live. ap heard_id ((end_of s p t q adjacent).current live);
    strangers = kept.placed.strangers;
    alive = λ s p t q adjacent. (end_of s p t q adjacent).told;
    places = λ s within. (is.switches s (view s) (there s within)).place;
    avoids = λ s within. (is.switches s (view s) (there s within)).avoids;
    known = known;
    linked = linked;
    own = kept.placed.own;
    full = λ s within. (kept.placed.sound s within).full;
    named = kept.voting.ids;
    ids = ids;
    positions = fixed_are_apart w.plan view (control_plane w).says plan_is kept.voting;
    one_number = λ s t x y same here also.
        one_number w.plan (control_plane w) s t x y (fixed_are_apart w.plan view (control_plane w).says plan_is kept.voting) same (kept.placed.pods s x here) (kept.placed.pods t y also);
    one_pod = one_pod (control_plane w) kept.placed kept.numbered;
  }

  pub ready : Ready w
  ready = record {
    calm = calm;
    counted = kept.counted;
    hosts = kept.hosts;
    grounded = grounded w kept.counted kept.placed kept.voting kept.numbered;
    own = kept.own;
    apart = order.apart;
  }
