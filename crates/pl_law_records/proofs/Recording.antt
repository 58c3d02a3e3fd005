-- What the manager records of a report, and the ids of switches.
use Rattle.std.proofs.Common.{◌≡◌, ℕ, ◌==◌, ◌&&◌, Bool, true, false, cond, Option, Some, None, unwrap_or, slice_get, refl, sym, ap, ◌∙◌, subst, inl, inr, arith, eq-eqb, eqb-true}
use Rattle.std.specs.Option.{option_or}
use Rattle.std.proofs.lemmas.Bool.{and_from, and_parts, cases_eq, cases_lt}
use Rattle.std.proofs.lemmas.Option.{get_or_from_slice_get, slice_get_within}
use Rattle.pl_lemmas.proofs.Exports.{cond_and}
use Rattle.pl_frame.specs.declared.address.SwitchId.{SwitchId}
use Rattle.pl_layouts.specs.Equality.{same_switch}
use Rattle.pl_layouts.specs.Placement.{nowhere}
use Rattle.pl_layouts.proofs.Exports.{switch_itself}
use Rattle.pl_wiring.specs.Plan.{IsPlan, Plan}
use Rattle.pl_node.specs.declared.messages.ToManager.{ToManager}
use Rattle.pl_node.specs.declared.messages.ToManager.TheVariants as tell
use Rattle.pl_node.specs.ManagerViews.{ManagerView, id_cmp, is_told_usable, link_cmp, members_cmp, place_of, value_at}
use Rattle.pl_node.proofs.Exports.{id_total}
use Rattle.pl_manager_rule.specs.Histories.{link_said, members_said, place_said}
use Rattle.pl_manager_rule.specs.ManagerRule.{view_after}
use Rattle.pl_manager_rule.proofs.Exports.{id_exact, link_exact, link_total, members_exact, members_total, same_is, word_after}
use Rattle.pl_law_records.specs.Records.{has_told_members}

-- what a word says, if it is of the one that is asked for
abbrev pub if_of : {X : Type 0} → Bool → Option X → Option X
if_of b said = cond b said None

quiet : {X : Type 0} (b : Bool) (x : X) → x ≡ unwrap_or (if_of {X = X} b None) x
quiet true x = refl
quiet false x = refl

said_or : {X : Type 0} (o rest : Option X) (x : X) → unwrap_or (option_or o rest) x ≡ unwrap_or o (unwrap_or rest x)
said_or None rest x = refl
said_or (Some y) rest x = refl

module _ (view : ManagerView) (s t : SwitchId) where
  pub place_heard : (told : ToManager) →
      place_of (view_after view s told).told t ≡ unwrap_or (if_of (same_switch s t) (place_said told)) (place_of view.told t)
  place_heard (tell.Place place) =
      ap (λ o. unwrap_or o nowhere) (word_after id_cmp id_total id_exact view.told.places s t place (same_switch s t)
      (λ h. sym (same_is s t h)) (λ e. subst (λ x. same_switch x t ≡ true) e (switch_itself t)))
      ∙ said_or (cond (same_switch s t) (Some place) None) (value_at id_cmp view.told.places t) nowhere
  place_heard (tell.Link u usable) = quiet (same_switch s t) (place_of view.told t)
  place_heard tell.PodWanted = quiet (same_switch s t) (place_of view.told t)
  place_heard (tell.Learned a b c) = quiet (same_switch s t) (place_of view.told t)
  place_heard (tell.Aged a b) = quiet (same_switch s t) (place_of view.told t)
  place_heard (tell.Begin epoch) = quiet (same_switch s t) (place_of view.told t)
  place_heard (tell.End epoch) = quiet (same_switch s t) (place_of view.told t)
  place_heard (tell.Trapped trapped toward numbered) = quiet (same_switch s t) (place_of view.told t)
  place_heard (tell.Query a b c) = quiet (same_switch s t) (place_of view.told t)
  place_heard (tell.Members g any) = quiet (same_switch s t) (place_of view.told t)

  pub members_heard : (group : ℕ) (told : ToManager) →
      has_told_members (view_after view s told).members t group ≡ unwrap_or (if_of (same_switch s t) (members_said group told)) (has_told_members view.members t group)
  members_heard group (tell.Members g any) =
      ap (λ o. unwrap_or o false) (word_after members_cmp members_total members_exact view.members (s, g) (t, group) any (same_switch s t && (g == group))
      (λ h. let two = and_parts (same_switch s t) (g == group) h in λ i. (sym (same_is s t two.0) i, sym (eqb-true g group two.1) i))
      (λ e. and_from (same_switch s t) (g == group)
      (subst (λ x. same_switch x t ≡ true) (ap (λ (p : SwitchId × ℕ). p.0) e) (switch_itself t))
      (eq-eqb g group (sym (ap (λ (p : SwitchId × ℕ). p.1) e)))))
      ∙ said_or (cond (same_switch s t && (g == group)) (Some any) None) (value_at members_cmp view.members (t, group)) false
      ∙ ap (λ o. unwrap_or o (has_told_members view.members t group)) (cond_and (same_switch s t) (g == group) (Some any))
  members_heard group (tell.Place place) = quiet (same_switch s t) (has_told_members view.members t group)
  members_heard group (tell.Link u usable) = quiet (same_switch s t) (has_told_members view.members t group)
  members_heard group tell.PodWanted = quiet (same_switch s t) (has_told_members view.members t group)
  members_heard group (tell.Learned a b c) = quiet (same_switch s t) (has_told_members view.members t group)
  members_heard group (tell.Aged a b) = quiet (same_switch s t) (has_told_members view.members t group)
  members_heard group (tell.Begin epoch) = quiet (same_switch s t) (has_told_members view.members t group)
  members_heard group (tell.End epoch) = quiet (same_switch s t) (has_told_members view.members t group)
  members_heard group (tell.Trapped trapped toward numbered) = quiet (same_switch s t) (has_told_members view.members t group)
  members_heard group (tell.Query a b c) = quiet (same_switch s t) (has_told_members view.members t group)

module _ (view : ManagerView) (s t u : SwitchId) where
  pub link_heard : (told : ToManager) →
      is_told_usable (view_after view s told).told t u ≡ unwrap_or (if_of (same_switch s t) (link_said u told)) (is_told_usable view.told t u)
  link_heard (tell.Link x usable) =
      ap (λ o. unwrap_or o false) (word_after link_cmp link_total link_exact view.told.links (s, x) (t, u) usable (same_switch s t && same_switch x u)
      (λ h. let two = and_parts (same_switch s t) (same_switch x u) h in λ i. (sym (same_is s t two.0) i, sym (same_is x u two.1) i))
      (λ e. and_from (same_switch s t) (same_switch x u)
      (subst (λ y. same_switch y t ≡ true) (ap (λ (p : SwitchId × SwitchId). p.0) e) (switch_itself t))
      (subst (λ y. same_switch y u ≡ true) (ap (λ (p : SwitchId × SwitchId). p.1) e) (switch_itself u))))
      ∙ said_or (cond (same_switch s t && same_switch x u) (Some usable) None) (value_at link_cmp view.told.links (t, u)) false
      ∙ ap (λ o. unwrap_or o (is_told_usable view.told t u)) (cond_and (same_switch s t) (same_switch x u) (Some usable))
  link_heard (tell.Place place) = quiet (same_switch s t) (is_told_usable view.told t u)
  link_heard tell.PodWanted = quiet (same_switch s t) (is_told_usable view.told t u)
  link_heard (tell.Learned a b c) = quiet (same_switch s t) (is_told_usable view.told t u)
  link_heard (tell.Aged a b) = quiet (same_switch s t) (is_told_usable view.told t u)
  link_heard (tell.Begin epoch) = quiet (same_switch s t) (is_told_usable view.told t u)
  link_heard (tell.End epoch) = quiet (same_switch s t) (is_told_usable view.told t u)
  link_heard (tell.Trapped trapped toward numbered) = quiet (same_switch s t) (is_told_usable view.told t u)
  link_heard (tell.Query a b c) = quiet (same_switch s t) (is_told_usable view.told t u)
  link_heard (tell.Members g any) = quiet (same_switch s t) (is_told_usable view.told t u)

-- two switches have two ids
pub one_switch : (plan : Plan) → IsPlan plan → (s t : ℕ) (a b : SwitchId) → slice_get plan.ids s ≡ Some a → slice_get plan.ids t ≡ Some b → a.0 ≡ b.0 → s ≡ t
one_switch plan is s t a b first second same = elim (cases_eq s t) [
  | inl e ↦ e
  | inr differ ↦
      let nobody : SwitchId = record { 0 = 0 } in
      let there = slice_get_within plan.ids s a first in
      let also = slice_get_within plan.ids t b second in
      let at = ap (λ (x : SwitchId). x.0) (get_or_from_slice_get plan.ids s a nobody first) in
      let at_t = ap (λ (x : SwitchId). x.0) (get_or_from_slice_get plan.ids t b nobody second) in
      elim (cases_lt s t) [
        | inl less ↦ absurd (is.ids_apart s t nobody less also (at ∙ same ∙ sym at_t))
        | inr more ↦ absurd (is.ids_apart t s nobody (omega (arith, more, differ)) there (at_t ∙ sym same ∙ sym at))
      ]
]
