-- Of a world and the one after a step: what was known of places is known, first addresses could be granted, and the manager numbers well.
use Rattle.std.proofs.Common.{◌≡◌, ◌≤◌, ◌+◌, ◌==◌, ◌&&◌, max, ℕ, true, false, List, [], ◌∷◌, length, map, reverse, Option, Some, None, slice_get, refl, sym, ap, subst, subst₂, ◌∙◌, inl, inr, arith}
use Rattle.std.specs.List.{AllByRecursion, range_with_len}
use Rattle.std.proofs.lemmas.Bool.{and_parts, cases_Bool, eqb-true, false≢true}
use Rattle.std.proofs.lemmas.Option.{same_Some}
use Rattle.pl_lemmas.proofs.Exports.{all_weaker}
use Rattle.pl_pmac.specs.declared.pmac.Pmac.{Pmac}
use Rattle.pl_pmac.specs.Pmac.{PmacFits, pmac_number}
use Rattle.pl_pmac.proofs.Exports.{same_pmac_number}
use Rattle.pl_layouts.specs.declared.place.Place.{Place}
use Rattle.pl_layouts.specs.Placement.{is_known}
use Rattle.pl_journal.specs.declared.entry.Entry.{Entry}
use Rattle.pl_journal.specs.declared.entry.Entry.TheVariants.{Granted, Registered}
use Rattle.pl_journal.specs.Places.{highest, holder, is_live, same_pod_and_position}
use Rattle.pl_journal.proofs.Exports.{not_held_not_live, not_held_nowhere}
use Rattle.pl_node.specs.declared.acts.ManagerAct.{ManagerAct}
use Rattle.pl_node.specs.declared.acts.ManagerAct.TheVariants.{Number, Say}
use Rattle.pl_node.specs.HostInputs.{HostRule}
use Rattle.pl_node.specs.SwitchViews.{SwitchView}
use Rattle.pl_manager_rule.specs.WholeRule.{whole_rule}
use Rattle.pl_manager_rule.proofs.Exports.{whole_answers}
use Rattle.pl_switch_rule.specs.Granting.{address_at_port, is_local}
use Rattle.pl_switch_rule.specs.SwitchRule.{Loose}
use Rattle.pl_switch_rule.proofs.Exports.{granted_parts}
use Rattle.pl_wiring.specs.Plan.{Plan}
use Rattle.pl_world.specs.declared.event.Event.{Event}
use Rattle.pl_world.specs.Refusals.{refusal}
use Rattle.pl_world.specs.WorldRule.{WorldStep}
use Rattle.pl_world.specs.Worlds.{WorldView}
use Rattle.pl_law_control_plane.specs.ControlPlanes.{control_plane}
use Rattle.pl_law_addresses.specs.EdgeAddresses.{is_settled}
use Rattle.pl_law_addresses.specs.GrantedOnce.{StayUnlessFreed}
use Rattle.pl_law_addresses.proofs.Exports.{local_here, local_settled}
use Rattle.pl_law_invariant.specs.ControlInvariant.{ControlInvariant}
use Rattle.pl_law_ledger.specs.Leading.{HoldsLedger}
use Rattle.pl_law_ledger.specs.Ledgers.{IsBacked, IsGrantedThere, IsLedger, ledger}
use Rattle.pl_law_ledger.proofs.Exports.{behind_first, due_is_hosts, first_or, formed, grounds, held_somewhere, in_bounds, IsAlike, IsDue, IsNumberOf, numberings, numbers_due, of_edge, places_grow, same_says, Says}
use Rattle.pl_law_flights.specs.Given.{ManagerNumbersWell, NumbersWell}
use Rattle.pl_law_flights.specs.OnTheWay.{place_in}
use Rattle.pl_law_flights.specs.Standing.{FirstAddresses, IsMore}
use Rattle.pl_law_theorem.proofs.Addressing.{both_false, each_entry, fits_at, pmac_unicast}
use Rattle.pl_law_theorem.proofs.Knowing.{place_is}

-- what was known of places is known later
pub is_more : (host : HostRule) (old : WorldView) (event : Event) (new : WorldView) → ControlInvariant old → refusal old event ≡ None →
    WorldStep Loose whole_rule host old event new →
    IsMore (place_in old.switches) (place_in new.switches)
is_more host old event new kept none step =
    let grown = places_grow host old event new kept none step in
    record {
      level = λ s n is. ap (λ (p : Place). p.level) (place_is new s) ∙ (grown s).level n (ap (λ (p : Place). p.level) (sym (place_is old s)) ∙ is);
      position = λ s n is. ap (λ (p : Place). p.position) (place_is new s) ∙ (grown s).position n (ap (λ (p : Place). p.position) (sym (place_is old s)) ∙ is);
      pod = λ s n is. ap (λ (p : Place). p.pod) (place_is new s) ∙ (grown s).pod n (ap (λ (p : Place). p.pod) (sym (place_is old s)) ∙ is);
    }

-- ---- first addresses
module _ (old new : WorldView) (kept : ControlInvariant old) (kept_then : ControlInvariant new) (entered : IsLedger old)
    (still : StayUnlessFreed old.switches old.journal new.switches new.journal) where
  module _ (t : ℕ) (before after : SwitchView) (found : slice_get old.switches t ≡ Some before) (found_then : slice_get new.switches t ≡ Some after)
      (unsettled : is_settled before.place ≡ false) (x : Pmac) (local : is_local after x ≡ true) (fits : PmacFits x) where
    -- an address of this pod and position is granted at no switch
    nowhere : (e : ℕ) (y : Pmac) (p : ℕ) → IsGrantedThere old.switches y e p → y.pod ≡ x.pod → y.position ≡ x.position → ⊥
    nowhere e y p there pod position =
        let home = (granted_parts there.view y there.grant there.is).0 in
        let now = still e there.view there.found in
        let place = now.place (local_settled there.view y home) in
        let there_now : is_local now.view y ≡ true = ap (λ (q : Place). is_known q.level 0 && (is_known q.pod y.pod && is_known q.position y.position)) place
        ∙ home in
        let here_now : is_local after y ≡ true =
        subst₂ (λ (a b : ℕ). (is_known after.place.level 0 && (is_known after.place.pod a && is_known after.place.position b)) ≡ true) (sym pod)
        (sym position) local in
        let one : e ≡ t = (grounds new kept_then).apart e t now.view after y now.found found_then there_now here_now in
        let view : there.view ≡ before = same_Some there.view before (sym there.found ∙ ap (slice_get old.switches) one ∙ found) in
        false≢true (sym unsettled ∙ local_settled before y (subst (λ (u : SwitchView). is_local u y ≡ true) view home))

    held_by_none : holder (reverse old.journal) (pmac_number x) ≡ None
    held_by_none = by (holder (reverse old.journal) (pmac_number x)) refl
      where
        by : (o : Option ℕ) → holder (reverse old.journal) (pmac_number x) ≡ o → o ≡ None
        by None is = refl
        by (Some h) is =
            let at = held_somewhere old.switches (ledger (reverse old.journal)) (pmac_number x) h entered.backed
            (ap (λ (f : Says). f.hold (pmac_number x)) (same_says old.plan (reverse old.journal)) ∙ is) in
            let same : at.pmac ≡ x = same_pmac_number at.pmac x (fits_at old kept entered at.switch at.there.view at.pmac at.there.grant at.there.found at.there.is) fits at.same in
            absurd (nowhere at.switch at.pmac at.port at.there (ap (λ (z : Pmac). z.pod) same) (ap (λ (z : Pmac). z.position) same))

    alike_none : AllByRecursion (IsAlike x t) (ledger (reverse old.journal))
    alike_none = each_entry (IsBacked old.switches) (IsAlike x t) one (ledger (reverse old.journal)) entered.backed
      where
        one : (entry : Entry) → IsBacked old.switches entry → IsAlike x t entry
        one (Granted y h e p) there = both_false (same_pod_and_position x y) (e.0 == t)
            (elim (cases_Bool (same_pod_and_position x y)) [
              | inr apart ↦ apart
              | inl same ↦
                  let parts = and_parts (x.pod == y.pod) (x.position == y.position) same in
                  absurd (nowhere e.0 y p there (sym (eqb-true x.pod y.pod parts.0)) (sym (eqb-true x.position y.position parts.1)))
            ])
            (elim (cases_Bool (e.0 == t)) [
              | inr other ↦ other
              | inl same ↦
                  let view : there.view ≡ before = same_Some there.view before (sym there.found ∙ ap (slice_get old.switches) (eqb-true e.0 t same) ∙ found) in
                  absurd (false≢true (sym unsettled ∙ local_settled before y (subst (λ (u : SwitchView). is_local u y ≡ true) view
                  (granted_parts there.view y there.grant there.is).0)))
            ])
        one entry there = tt

  pub first_addresses : old.plan.k ≡ new.plan.k → FirstAddresses old new
  first_addresses same t before after found found_then unsettled settled port within =
      let x : Pmac = address_at_port after port 1 in
      let local = local_here after port 1 settled in
      let low = in_bounds new kept_then t after x found_then local in
      let pod = low.pod in
      let position = low.position in
      let few = kept.counted.formed.plan.arity.most in
      let fits : PmacFits x = record { pod = omega (arith, pod); position = omega (arith, position); port = omega (arith, within, few); vmid = omega arith } in
      record {
        fresh = not_held_not_live (reverse old.journal) (pmac_number x) (held_by_none t before after found found_then unsettled x local fits);
        again = λ at is. absurd (not_held_nowhere (reverse old.journal) (pmac_number x) at
            (held_by_none t before after found found_then unsettled x local fits) is);
        edge = ap (λ (f : Says). f.of_edge x t) (sym (same_says old.plan (reverse old.journal)))
            ∙ of_edge (ledger (reverse old.journal)) x t (alike_none t before after found found_then unsettled x local fits);
        fits = fits;
        own = pmac_unicast x fits low.pod;
      }

-- ---- the manager
-- addresses that are live may be numbered by the next numbers in turn
numbered_so : (plan : Plan) (acts : List ManagerAct) (past : List Entry) (n : ℕ) → AllByRecursion (IsNumberOf (λ x. is_live past (pmac_number x) ≡ true)) acts →
    map (λ (g : Pmac × ℕ). g.1) (numberings acts) ≡ range_with_len (n + 1) (length (numberings acts)) → highest past ≤ n → NumbersWell plan past acts
numbered_so plan [] past n live are most = tt
numbered_so plan (Say to says ∷ acts) past n live are most = numbered_so plan acts past n live.1 are most
numbered_so plan (Number x m ∷ acts) past n live are most =
    let first : m ≡ n + 1 = ap (first_or 0) are in (
      (live.0, omega (arith, most, first)),
      numbered_so plan acts (Registered x m ∷ past) (n + 1) live.1 (ap behind_first are) (raised (highest past) m n most first),
    )
  where
    raised : (top m n : ℕ) → top ≤ n → m ≡ n + 1 → max top m ≤ n + 1
    raised top m n most is = omega (arith, most, is)

-- what the manager numbers is somebody's, and its number is above all before
pub numbers_well : (w : WorldView) → ControlInvariant w → HoldsLedger w → ManagerNumbersWell whole_rule w
numbers_well w kept holds s says items id after acts head there ruled =
    let past : List Entry = reverse w.journal in
    let numbered = whole_answers.numbered w.manager id says after acts ruled in
    let due = subst (λ all. AllByRecursion (IsNumberOf (λ x. IsDue (control_plane w) x)) all) (sym ruled.1)
    (numbers_due (control_plane w) kept.gathered s id there says items head) in
    numbered_so w.plan acts past w.manager.learnt.count
    (all_weaker (IsNumberOf (λ x. IsDue (control_plane w) x)) (IsNumberOf (λ x. is_live past (pmac_number x) ≡ true)) (λ act is. live_so act is) acts due)
    numbered.numbers
    (subst (λ n. n ≤ w.manager.learnt.count) (ap (λ (f : Says). f.top) (same_says w.plan past)) holds.entered.most)
  where
    live_so : (act : ManagerAct) → IsNumberOf (λ x. IsDue (control_plane w) x) act → IsNumberOf (λ x. is_live (reverse w.journal) (pmac_number x) ≡ true) act
    live_so (Say to said) is = tt
    live_so (Number x n) is =
        ap (λ (f : Says). f.live (pmac_number x)) (sym (same_says w.plan (reverse w.journal)))
        ∙ (due_is_hosts w (formed w kept) (kept.counted.formed.switches ∙ sym kept.counted.formed.plan.ids_many) kept.addresses holds.entered x is).live
