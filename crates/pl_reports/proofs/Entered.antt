-- A switch of which nothing is known, and what one more word makes of what each switch told of itself.
use Rattle.std.proofs.Common.{◌≡◌, Bool, true, false, cond, List, [], ◌∷◌, map, Option, Some, None, refl, sym, ap, ◌∙◌, subst, inl, inr, ℕ, slice_get, slice_set}
use Rattle.std.specs.Prelude.{unwrap_or}
use Rattle.std.specs.List.{filter, list_any}
use Rattle.std.specs.Option.{option_map}
use Rattle.std.specs.List.Sorted.{IsStrictlySortedBy}
use Rattle.std.specs.Ordering.{is_eq}
use Rattle.std.specs.Map.{keys_of}
use Rattle.std.specs.BTreeMap.{is_at}
use Rattle.std.specs.BTreeSet.{insert_key}
use Rattle.std.proofs.lemmas.Bool.{false≢true}
use Rattle.std.proofs.lemmas.Option.{slice_get-map}
use Rattle.pl_frame.specs.declared.address.SwitchId.{SwitchId}
use Rattle.pl_layouts.specs.declared.place.Place.{Place}
use Rattle.pl_layouts.specs.Placement.{nowhere}
use Rattle.pl_node.specs.ManagerViews.{Told, alive_neighbours, id_cmp, in_order, is_alive, neighbours, place_of, switches, tellers, value_at}
use Rattle.pl_node.proofs.Exports.{among_in_order, among_left, among_right, any_among, id_total, IsAmong}
use Rattle.pl_manager_rule.specs.ManagerRule.{with_link, with_place}
use Rattle.pl_manager_rule.proofs.Exports.{found_key, id_exact, id_is, id_itself, switches_rise, value_after}
use Rattle.pl_reports.specs.declared.switch_report.SwitchReport.{SwitchReport}
use Rattle.pl_reports.specs.Kept.{Enters, RenewedAt, RenewedBeside, is_living, no_report, report_of}
use Rattle.pl_reports.proofs.Liveness.{alive_elsewhere}
use Rattle.pl_reports.proofs.Standing.{changed_at, changed_nowhere, got_set, set_again}
use Rattle.pl_reports.proofs.Telling.{key_of_first, key_of_near, near_in, other_neighbours, own_neighbours, switches_linked, switches_placed}

-- ---- a switch that told nothing
module _ (told : Told) (s : SwitchId) (silent : list_any (is_at (id_cmp s)) (switches told) ≡ false) where
  not_there : IsAmong s (switches told) → ⊥
  not_there h = false≢true (sym silent ∙ any_among (is_at (id_cmp s)) s (switches told) h (id_itself s))

  no_place : place_of told s ≡ nowhere
  no_place = by (value_at id_cmp told.places s) refl
    where
      by : (o : Option Place) → value_at id_cmp told.places s ≡ o → unwrap_or o nowhere ≡ nowhere
      by None e = refl
      by (Some place) e =
          absurd (not_there (among_in_order id_cmp id_exact s (tellers told)
          (among_left s (keys_of told.places) (map (λ l. l.0.0) told.links) (found_key id_cmp id_exact told.places s place e))))

  no_neighbours : neighbours told s ≡ []
  no_neighbours = by (near_in told.links s) (λ u h. h)
    where
      by : (us : List SwitchId) → ((u : SwitchId) → IsAmong u us → IsAmong u (near_in told.links s)) → in_order id_cmp us ≡ []
      by [] within = refl
      by (u ∷ us) within =
          absurd (not_there (among_in_order id_cmp id_exact s (tellers told)
          (among_right s (keys_of told.places) (map (λ l. l.0.0) told.links) (key_of_first told.links s u (key_of_near told.links s u (within u (inl refl)))))))

  pub nothing_known : report_of told s ≡ no_report
  nothing_known = λ i. record { place = no_place i; neighbours = no_neighbours i; alive = filter (is_alive told s) (no_neighbours i) }

-- what is known of each, once it is among those that told something
module _ (told : Told) (s : SwitchId) (olds news : List SwitchId) (old entered : List SwitchReport) (are : olds ≡ switches told)
    (kept : old ≡ map (report_of told) (switches told)) (enters : Enters olds old s news entered) where
  pub known_now : entered ≡ map (report_of told) news
  known_now =
      enters (report_of told) (λ none. nothing_known told s (ap (list_any (is_at (id_cmp s))) (sym are) ∙ none)) (kept ∙ ap (map (report_of told)) (sym are))

  pub own_report : (at : ℕ) → slice_get news at ≡ Some s → slice_get entered at ≡ Some (report_of told s)
  own_report at there =
      ap (λ xs. slice_get xs at) known_now ∙ slice_get-map (report_of told) news at ∙ ap (option_map (report_of told)) there

-- ---- a word on a place
module _ (told : Told) (s : SwitchId) (place : Place) where
  abbrev now : Told
  now = with_place told s place

  placed_now : report_of now s ≡ record (report_of told s) { place = place }
  placed_now = λ i. record {
    place = unwrap_or (own i) nowhere;
    neighbours = neighbours told s;
    alive = alive_neighbours told s;
  }
    where
      own : value_at id_cmp now.places s ≡ Some place
      own = value_after id_cmp id_total id_exact told.places s s place ∙ ap (λ b. cond b (Some place) (value_at id_cmp told.places s)) (id_itself s)

  placed_others : (t : SwitchId) → (s ≡ t → ⊥) → report_of now t ≡ report_of told t
  placed_others t apart = λ i. record {
    place = unwrap_or (other i) nowhere;
    neighbours = neighbours told t;
    alive = alive_neighbours told t;
  }
    where
      other : value_at id_cmp now.places t ≡ value_at id_cmp told.places t
      other =
          value_after id_cmp id_total id_exact told.places s t place
          ∙ by (is_eq (id_cmp t s)) refl
        where
          by : (b : Bool) → is_eq (id_cmp t s) ≡ b → cond b (Some place) (value_at id_cmp told.places t) ≡ value_at id_cmp told.places t
          by false e = refl
          by true e = absurd (apart (sym (id_is t s e)))

  -- its report stands where it stands
  pub report_placed : (olds news : List SwitchId) (old entered after : List SwitchReport) (at : ℕ) → olds ≡ switches told →
      old ≡ map (report_of told) (switches told) → news ≡ insert_key id_cmp olds s → Enters olds old s news entered → slice_get news at ≡ Some s →
      ((report : SwitchReport) → slice_get entered at ≡ Some report → after ≡ slice_set entered at (record report { place = place })) →
      after ≡ map (report_of now) (switches now)
  report_placed olds news old entered after at are kept one enters there put =
      let all : news ≡ switches now = one ∙ ap (λ xs. insert_key id_cmp xs s) are ∙ sym (switches_placed told s place) in
      put (report_of told s) (own_report told s olds news old entered are kept enters at there)
      ∙ ap (λ xs. slice_set xs at (record (report_of told s) { place = place })) (known_now told s olds news old entered are kept enters)
      ∙ changed_at (report_of told) (report_of now) s placed_others news at (record (report_of told s) { place = place })
      (subst (IsStrictlySortedBy id_cmp) (sym all) (switches_rise now)) there placed_now
      ∙ ap (map (report_of now)) all

-- ---- a word on a link
module _ (told : Told) (s u : SwitchId) (usable : Bool) where
  abbrev linked : Told
  linked = with_link told s u usable

  -- of the switch itself
  own_linked : report_of linked s ≡ record {
    place = place_of told s;
    neighbours = insert_key id_cmp (neighbours told s) u;
    alive = filter (is_living linked.links s) (insert_key id_cmp (neighbours told s) u);
  }
  own_linked = λ i. record {
    place = place_of told s;
    neighbours = own_neighbours told s u usable i;
    alive = filter (is_living linked.links s) (own_neighbours told s u usable i);
  }

  -- of its neighbour, if that is another one
  beside_linked : (s ≡ u → ⊥) → report_of linked u
      ≡ record { place = place_of told u; neighbours = neighbours told u; alive = filter (is_living linked.links u) (neighbours told u) }
  beside_linked apart = λ i. record {
    place = place_of told u;
    neighbours = other_neighbours told s u usable u apart i;
    alive = filter (is_living linked.links u) (other_neighbours told s u usable u apart i);
  }

  others_linked : (t : SwitchId) → (s ≡ t → ⊥) → (u ≡ t → ⊥) → report_of linked t ≡ report_of told t
  others_linked t own other = λ i. record {
    place = place_of told t;
    neighbours = other_neighbours told s u usable t own i;
    alive = sym (alive_elsewhere told s u usable t own other) i;
  }

  -- once its own report is renewed
  abbrev middle : SwitchId → SwitchReport
  middle t = cond (is_at (id_cmp s) t) (report_of linked t) (report_of told t)

  middle_own : middle s ≡ report_of linked s
  middle_own = ap (λ b. cond b (report_of linked s) (report_of told s)) (id_itself s)

  middle_others : (t : SwitchId) → (s ≡ t → ⊥) → middle t ≡ report_of told t
  middle_others t apart = by (is_at (id_cmp s) t) refl
    where
      by : (b : Bool) → is_at (id_cmp s) t ≡ b → cond b (report_of linked t) (report_of told t) ≡ report_of told t
      by true e = absurd (apart (id_is s t e))
      by false e = refl

  last_others : (t : SwitchId) → (u ≡ t → ⊥) → report_of linked t ≡ middle t
  last_others t apart = by (is_at (id_cmp s) t) refl
    where
      by : (b : Bool) → is_at (id_cmp s) t ≡ b → report_of linked t ≡ cond b (report_of linked t) (report_of told t)
      by true e = refl
      by false e = others_linked t (λ is. false≢true (sym e ∙ subst (λ z. is_at (id_cmp s) z ≡ true) is (id_itself s))) apart

  last_beside : report_of linked u ≡ record (middle u) { alive = filter (is_living linked.links u) (middle u).neighbours }
  last_beside = by (is_at (id_cmp s) u) refl
    where
      by : (b : Bool) → is_at (id_cmp s) u ≡ b → report_of linked u
          ≡ (let r = cond b (report_of linked u) (report_of told u) in record r { alive = filter (is_living linked.links u) r.neighbours })
      by true e = refl
      by false e = beside_linked (λ is. false≢true (sym e ∙ subst (λ z. is_at (id_cmp s) z ≡ true) is (id_itself s)))

  module _ (olds news : List SwitchId) (old entered added own last : List SwitchReport) (at : ℕ) (are : olds ≡ switches told)
      (kept : old ≡ map (report_of told) (switches told)) (one : news ≡ insert_key id_cmp olds s) (enters : Enters olds old s news entered)
      (there : slice_get news at ≡ Some s)
      (add : (report : SwitchReport) → slice_get entered at ≡ Some report →
      added ≡ slice_set entered at (record report { neighbours = insert_key id_cmp report.neighbours u }))
      (renew : RenewedAt linked.links added at s own) where
    all : news ≡ switches linked
    all = one ∙ ap (λ xs. insert_key id_cmp xs s) are ∙ sym (switches_linked told s u usable)

    rising : IsStrictlySortedBy id_cmp news
    rising = subst (IsStrictlySortedBy id_cmp) (sym all) (switches_rise linked)

    renewed_own : own ≡ map middle news
    renewed_own =
        let known = known_now told s olds news old entered are kept enters in
        let here = own_report told s olds news old entered are kept enters at there in
        let r = report_of told s in
        let more = record r { neighbours = insert_key id_cmp r.neighbours u } in
        let full = record more { alive = filter (is_living linked.links s) more.neighbours } in
        let put : added ≡ slice_set entered at more = add r here in
        renew more (ap (λ xs. slice_get xs at) put ∙ got_set entered at r more here)
        ∙ ap (λ xs. slice_set xs at full) put ∙ set_again entered at more full ∙ ap (λ xs. slice_set xs at full) known
        ∙ changed_at (report_of told) middle s middle_others news at full rising there (middle_own ∙ own_linked)

    pub reports_linked : RenewedBeside linked.links news own u last → last ≡ map (report_of linked) (switches linked)
    reports_linked beside = elim beside [
      | inl found ↦
          let full = record (middle u) { alive = filter (is_living linked.links u) (middle u).neighbours } in
          found.2 (middle u) (ap (λ xs. slice_get xs found.0) renewed_own ∙ slice_get-map middle news found.0 ∙ ap (option_map middle) found.1)
          ∙ ap (λ xs. slice_set xs found.0 full) renewed_own
          ∙ changed_at middle (report_of linked) u last_others news found.0 full rising found.1 last_beside
          ∙ ap (map (report_of linked)) all
      | inr gone ↦
          gone.1 ∙ renewed_own
          ∙ changed_nowhere middle (report_of linked) u last_others news
          (λ h. false≢true (sym gone.0 ∙ any_among (is_at (id_cmp u)) u news h (id_itself u)))
          ∙ ap (map (report_of linked)) all
    ]
