-- Words that are treated in turn, as parts of what the manager does.
use Rattle.std.proofs.Common.{◌≡◌, ◌<◌, ℕ, true, if◌then◌else◌, List, [], ◌∷◌, ◌++◌, Option, Some, None, slice_get, fold, refl, sym, ap, subst, ◌∙◌, inl, inr, arith, append_assoc}
use Rattle.std.specs.List.{AllByRecursion}
use Rattle.std.proofs.lemmas.Bool.{cases_Bool, cases_eq}
use Rattle.std.proofs.lemmas.Grind.{flat_map-append}
use Rattle.std.proofs.lemmas.Option.{slice_get_within}
use Rattle.pl_frame.specs.declared.address.SwitchId.{SwitchId}
use Rattle.pl_layouts.specs.Equality.{same_switch}
use Rattle.pl_layouts.proofs.Exports.{switch_itself}
use Rattle.pl_wiring.specs.Labels.{switch_count}
use Rattle.pl_wiring.specs.Plan.{IsPlan, Plan}
use Rattle.pl_gathering.specs.Acting.{Done, then_treats}
use Rattle.pl_gathering.specs.Gathering.{Heard, kept_of, words}
use Rattle.pl_gathering.specs.Orderly.{has}
use Rattle.pl_node.specs.declared.acts.ManagerAct.{ManagerAct}
use Rattle.pl_node.specs.declared.messages.ToManager.{ToManager}
use Rattle.pl_node.specs.declared.messages.ToSwitch.{ToSwitch}
use Rattle.pl_manager_rule.specs.Treating.{Treating, treats}
use Rattle.pl_law_control_plane.specs.ControlPlanes.{ControlPlane}
use Rattle.pl_law_control_plane.specs.PlaneSteps.{IsReportTaken, LeftOver, ManagerTurns, ordered, ordered_by}
use Rattle.pl_law_due.specs.Due.{read, treated}
use Rattle.pl_law_control_plane.specs.Restarts.{IsAlike}
use Rattle.pl_law_due.specs.DueSteps.{AllReleaseWhere, ManagerPart, Parts, ReleasesWhere, treats_one}
use Rattle.pl_law_due.specs.DueSteps.ManagerPart.{Treated}
use Rattle.pl_law_due.proofs.Ids.{ids_apart, switch_is, there_named}
use Rattle.pl_law_due.proofs.Treating.{alike_treated}

-- of a switch: what is left of the words that are treated in turn, and then what waits
abbrev pub left_of : List (Heard ToManager) → Option SwitchId → List ToManager → List ToManager
left_of rest None queue = []
left_of rest (Some id) queue = kept_of id rest ++ words (read queue)

module _ (b : ControlPlane) (is : IsPlan b.plan) (waiting : ℕ → List ToSwitch) (q : ℕ → List ToManager) where
  -- these words are left, and so much is done; these orders waited before
  abbrev pub plane_at : List (Heard ToManager) → Done Treating ManagerAct → ControlPlane
  plane_at rest done = record b {
    reports = λ s. left_of rest (slice_get b.plan.ids s) (q s);
    orders = λ s. waiting s ++ ordered b.plan s done.acts;
    manager = treated done.known.view;
  }

  pub record IsAt (f : ControlPlane) (rest : List (Heard ToManager)) (done : Done Treating ManagerAct) : Type 0 where
    pub alike : IsAlike f b
    pub reports : (s : ℕ) → f.reports s ≡ left_of rest (slice_get b.plan.ids s) (q s)
    pub orders : (s : ℕ) → f.orders s ≡ waiting s ++ ordered b.plan s done.acts
    pub manager : f.manager ≡ treated done.known.view

  pub at_itself : (rest : List (Heard ToManager)) (done : Done Treating ManagerAct) → IsAt (plane_at rest done) rest done
  at_itself rest done = record {
    alike = record { plan = refl; view = λ s. refl; says = λ s port. refl; carries = λ s port h. h };
    reports = λ s. refl;
    orders = λ s. refl;
    manager = refl;
  }

  module _ (f : ControlPlane) (h : Heard ToManager) (rest : List (Heard ToManager)) (done : Done Treating ManagerAct) (at : IsAt f (h ∷ rest) done)
      (s : ℕ) (named : slice_get b.plan.ids s ≡ Some h.switch) where
    here : f.reports s ≡ h.word ∷ left_of rest (slice_get b.plan.ids s) (q s)
    here =
        at.reports s ∙ ap (λ o. left_of (h ∷ rest) o (q s)) named
        ∙ ap (λ c. (if c then h.word ∷ kept_of h.switch rest else kept_of h.switch rest) ++ words (read (q s))) (switch_itself h.switch)
        ∙ sym (ap (λ o. h.word ∷ left_of rest o (q s)) named)

    elsewhere : (t : ℕ) → (t ≡ s → ⊥) → left_of rest (slice_get b.plan.ids t) (q t) ≡ f.reports t
    elsewhere t differ = by (slice_get b.plan.ids t) refl ∙ sym (at.reports t)
      where
        by : (o : Option SwitchId) → slice_get b.plan.ids t ≡ o → left_of rest o (q t) ≡ left_of (h ∷ rest) o (q t)
        by None there = refl
        by (Some id) there = elim (cases_Bool (same_switch h.switch id)) [
          | inl same ↦ absurd (differ (ids_apart b.plan is t s h.switch (there ∙ ap Some (sym (switch_is h.switch id same))) named))
          | inr other ↦ sym (ap (λ c. (if c then h.word ∷ kept_of id rest else kept_of id rest) ++ words (read (q t))) other)
        ]

    taken : IsReportTaken f s h.word (plane_at rest done)
    taken = record {
      left = record {
        plan = at.alike.plan;
        view = at.alike.view;
        says = λ t port. record { gone = []; split = sym (at.alike.says t port) };
        carries = at.alike.carries;
        reports = λ t. elim (cases_eq t s) [
          | inl same ↦ subst (λ x. LeftOver (f.reports x) (left_of rest (slice_get b.plan.ids x) (q x))) (sym same) (record { gone = h.word ∷ []; split = here })
          | inr differ ↦ record { gone = []; split = sym (elsewhere t differ) }
        ];
        orders = λ t. record { gone = []; split = at.orders t };
        manager = sym at.manager;
      };
      first = here;
      others = elsewhere;
      messages = at.alike.says;
      orders = λ t. sym (at.orders t);
    }

    turns : ManagerTurns treats_one (plane_at rest done) h.switch h.word (plane_at rest (then_treats treats done h))
    turns =
        let more = treats done.known h in
        let alike = alike_treated done.known.view done.known.aged h.switch h.word in
        record {
          after = treated more.known.view;
          acts = more.acts;
          ruled = (alike.view, alike.acts);
          plan = refl;
          view = λ t. refl;
          says = λ t port. refl;
          carries = λ t port. refl;
          reports = λ t. refl;
          orders = λ t.
              ap (λ os. waiting t ++ os) (flat_map-append (ordered_by b.plan t) done.acts more.acts)
              ∙ sym (append_assoc (waiting t) (ordered b.plan t done.acts) (ordered b.plan t more.acts));
          manager = refl;
        }

    within : s < switch_count f.plan.k
    within =
        let less = slice_get_within b.plan.ids s h.switch named in
        let many = is.ids_many in
        subst (λ (p : Plan). s < switch_count p.k) at.alike.plan (omega (arith, less, many))

    pub one_treated : ManagerPart f (plane_at rest (then_treats treats done h))
    one_treated = Treated s h.switch h.word (plane_at rest done) within (ap (λ (p : Plan). slice_get p.ids s) (sym at.alike.plan) ∙ named) taken turns

  -- all of them, and then the last part
  pub all_treated : (P : ControlPlane → Type 0) (f last : ControlPlane) (heard : List (Heard ToManager)) (done : Done Treating ManagerAct) → IsAt f heard done →
      AllByRecursion (λ h. has b.plan.ids h.switch ≡ true) heard →
      ((m : ControlPlane) → IsAt m [] (fold (then_treats treats) done heard) → (part : ManagerPart m last) × ReleasesWhere P m last part) →
      (mids : List ControlPlane) × ((parts : Parts mids f last) × AllReleaseWhere P mids f last parts)
  unfolding one_treated
  all_treated P f last [] done at named final = ([], final f at)
  all_treated P f last (h ∷ heard) done at named final =
      let there = there_named b.plan.ids h.switch named.0 in
      let next = plane_at heard (then_treats treats done h) in
      let more = all_treated P next last heard (then_treats treats done h) (at_itself heard (then_treats treats done h)) named.1 final in
      (next ∷ more.0, ((one_treated f h heard done at there.0 there.1, more.1.0), (tt, more.1.1)))
