-- Each step to what is due keeps it that the last words say what the switches would tell now.
use Rattle.std.proofs.Common.{◌≡◌, ℕ, Bool, true, false, List, [], ◌∷◌, ◌++◌, Some, None, slice_get, refl, sym, ap, ◌∙◌, subst, inl, inr}
use Rattle.std.specs.List.{list_any}
use Rattle.std.proofs.lemmas.Bool.{cases_Bool, cases_eq, false≢true}
use Rattle.pl_frame.specs.declared.address.SwitchId.{SwitchId}
use Rattle.pl_wiring.specs.Plan.{IsPlan, Plan}
use Rattle.pl_layouts.specs.declared.place.Place.{Place}
use Rattle.pl_node.specs.declared.messages.ToManager.{ToManager}
use Rattle.pl_node.specs.declared.messages.ToManager.TheVariants as tell
use Rattle.pl_node.specs.declared.messages.ToSwitch.{ToSwitch}
use Rattle.pl_node.specs.declared.messages.ToSwitch.TheVariants.{Hello}
use Rattle.pl_node.specs.ManagerViews.{ManagerView, place_of}
use Rattle.pl_node.specs.SwitchInputs.SwitchInput.{Comes, Says, Tick}
use Rattle.pl_node.specs.SwitchInputs.{SwitchInput}
use Rattle.pl_node.specs.SwitchViews.{SwitchView}
use Rattle.pl_manager_rule.specs.Histories.{members_said, place_said}
use Rattle.pl_switch_rule.specs.Intake.{has_member_of}
use Rattle.pl_switch_rule.specs.Reporting.{hears_hello}
use Rattle.pl_switch_rule.specs.SwitchRule.{Loose, switch_step}
use Rattle.pl_law_control_plane.specs.ControlPlanes.{ControlPlane, tells}
use Rattle.pl_law_control_plane.specs.PlaneSteps.{IsOrderTaken, IsReportTaken, LosesNoWord, ManagerTurns, PlaneStep, SwitchTurns, WholeStep}
use Rattle.pl_law_control_plane.specs.PlaneSteps.PlaneStep.{Carried, Entered, Heard, Left, Managed, Ordered, Ticked}
use Rattle.pl_law_due.specs.Due.{is_hello, is_silent}
use Rattle.pl_law_control_plane.specs.Restarts.{Restarts}
use Rattle.pl_law_due.specs.DueSteps.{DueStep, IsSifted, Parts, treats_one}
use Rattle.pl_law_due.specs.DueSteps.DueStep.{Managed as ManagedBy, Stepped}
use Rattle.pl_law_due.specs.DueSteps.ManagerPart.{Treated}
use Rattle.pl_law_due.specs.Gathering.{AreUnheard, IsUnheard}
use Rattle.pl_law_due.proofs.Exports.{none_loud, parts_alike, parts_loud}
use Rattle.pl_law_records.specs.Records.{HasReported, HaveReported, has_told_members}
use Rattle.pl_law_records.specs.Words.{last_said}
use Rattle.pl_law_records.proofs.Greeting.{members_anew, place_anew}
use Rattle.pl_law_records.proofs.Last.{last_append}
use Rattle.pl_law_records.proofs.Recording.{members_heard, place_heard}
use Rattle.pl_law_records.proofs.SaysLast.{is_quiet, parts_say, sifted_says, treated_says}
use Rattle.pl_law_records.proofs.ToldInTurns.{tells_right}

-- the wiring, the views, the reports and the manager are the same
pub record IsSameTo (f g : ControlPlane) : Type 0 where
  pub plan : g.plan ≡ f.plan
  pub view : (s : ℕ) → g.view s ≡ f.view s
  pub reports : (s : ℕ) → g.reports s ≡ f.reports s
  pub manager : g.manager ≡ f.manager

one_same : (f g : ControlPlane) (s : ℕ) (id : SwitchId) → IsSameTo f g → HasReported f s id → HasReported g s id
one_same f g s id same told = record {
  place = rw (same.manager, same.reports s, same.view s) told.place;
  members = λ group. rw (same.manager, same.reports s, same.view s) (told.members group);
}

-- a switch acts
one_turn : (f g : ControlPlane) (s : ℕ) (input : SwitchInput) → SwitchTurns Loose f s input g → (t : ℕ) (id : SwitchId) → HasReported f t id → HasReported g t id
one_turn f g s input turns t id before = elim (cases_eq t s) [
  | inl here ↦ at_home here
  | inr other ↦
      let same_view = turns.acted.others t other in
      let same_reports = turns.acted.other_reports t other in
      record {
        place = rw (turns.acted.manager, same_reports, same_view) before.place;
        members = λ group. rw (turns.acted.manager, same_reports, same_view) (before.members group);
      }
]
  where
    at_home : t ≡ s → HasReported g t id
    at_home here =
        let right = tells_right turns.ruled.choose (f.view s) input in
        let grown : g.reports t ≡ f.reports t ++ tells turns.acts = ap g.reports here ∙ turns.acted.reports ∙ ap (λ x. f.reports x ++ tells turns.acts) (sym here) in
        let acts = turns.ruled.steps.done in
        let view : (switch_step turns.ruled.choose (f.view s) input).view ≡ g.view t =
        sym turns.ruled.steps.view ∙ sym turns.acted.here ∙ ap g.view (sym here) in
        record {
          place =
              rw (turns.acted.manager, grown)
              (last_append place_said (place_of f.manager.told id) (f.reports t) (tells turns.acts)
              ∙ ap (λ x. last_said place_said x (tells turns.acts)) (before.place ∙ ap (λ x. (f.view x).place) here)
              ∙ ap (λ a. last_said place_said (f.view s).place (tells a)) acts
              ∙ right.place ∙ ap (λ v. v.place) view);
          members = λ group.
              rw (turns.acted.manager, grown)
              (last_append (members_said group) (has_told_members f.manager.members id group) (f.reports t) (tells turns.acts)
              ∙ ap (λ x. last_said (members_said group) x (tells turns.acts)) (before.members group ∙ ap (λ x. has_member_of (f.view x).members group) here)
              ∙ ap (λ a. last_said (members_said group) (has_member_of (f.view s).members group) (tells a)) acts
              ∙ right.members group ∙ ap (λ v. has_member_of v.members group) view);
        }

-- a switch hears that the manager began anew, which knows nothing
one_greeted : (f m g : ControlPlane) (s : ℕ) (says : ToSwitch) (id : SwitchId) (epoch : ℕ) → IsOrderTaken f s says m → SwitchTurns Loose m s (Says says) g →
    says ≡ Hello epoch → IsUnheard f s → HasReported g s id
one_greeted f m g s says id epoch taken turns greets unheard =
    let v = m.view s in
    let step : turns.acts ≡ (hears_hello v epoch).acts = turns.ruled.steps.done ∙ ap (λ x. (switch_step turns.ruled.choose v (Says x)).acts) greets in
    let view : g.view s ≡ (hears_hello v epoch).view = turns.acted.here ∙ turns.ruled.steps.view ∙ ap (λ x. (switch_step turns.ruled.choose v (Says x)).view) greets in
    let words : g.reports s ≡ tells (hears_hello v epoch).acts =
    turns.acted.reports ∙ ap (λ q. q ++ tells turns.acts) (taken.reports s ∙ unheard.nothing) ∙ ap (λ a. tells a) step in
    let manager : g.manager ≡ f.manager = turns.acted.manager ∙ taken.left.manager in
    record {
      place =
          ap (λ q. last_said place_said (place_of g.manager.told id) q) words ∙ place_anew v epoch (place_of g.manager.told id)
          ∙ sym (ap (λ (w : SwitchView). w.place) view);
      members = λ group.
          ap (λ q. last_said (members_said group) (has_told_members g.manager.members id group) q) words
          ∙ ap (λ (w : ManagerView). last_said (members_said group) (has_told_members w.members id group) (tells (hears_hello v epoch).acts)) (manager ∙ unheard.anew)
          ∙ members_anew v epoch group
          ∙ sym (ap (λ (w : SwitchView). has_member_of w.members group) view);
    }

place_quiet : (told : ToManager) → is_quiet told ≡ true → place_said told ≡ None
place_quiet (tell.Place place) is = absurd (false≢true is)
place_quiet (tell.Link u usable) is = refl
place_quiet tell.PodWanted is = refl
place_quiet (tell.Learned a b c) is = refl
place_quiet (tell.Aged a b) is = refl
place_quiet (tell.Begin n) is = refl
place_quiet (tell.End n) is = refl
place_quiet (tell.Trapped a b c) is = refl
place_quiet (tell.Query a b c) is = refl
place_quiet (tell.Members group any) is = refl

members_quiet : (group : ℕ) (told : ToManager) → is_quiet told ≡ true → members_said group told ≡ None
members_quiet group (tell.Members g any) is = absurd (false≢true is)
members_quiet group (tell.Place place) is = refl
members_quiet group (tell.Link u usable) is = refl
members_quiet group tell.PodWanted is = refl
members_quiet group (tell.Learned a b c) is = refl
members_quiet group (tell.Aged a b) is = refl
members_quiet group (tell.Begin n) is = refl
members_quiet group (tell.End n) is = refl
members_quiet group (tell.Trapped a b c) is = refl
members_quiet group (tell.Query a b c) is = refl

abbrev place_known : ManagerView → SwitchId → Place
place_known v id = place_of v.told id

abbrev members_known : ℕ → ManagerView → SwitchId → Bool
members_known group v id = has_told_members v.members id group

-- the same is said last of each thing, and the switch is as it was
says_same : (f g : ControlPlane) (s : ℕ) (id : SwitchId) → g.view s ≡ f.view s →
    last_said place_said (place_known g.manager id) (g.reports s) ≡ last_said place_said (place_known f.manager id) (f.reports s) →
    ((group : ℕ) → last_said (members_said group) (members_known group g.manager id) (g.reports s) ≡ last_said (members_said group) (members_known group f.manager id) (f.reports s)) →
    HasReported f s id → HasReported g s id
says_same f g s id view place members before = record {
  place = place ∙ before.place ∙ sym (ap (λ (v : SwitchView). v.place) view);
  members = λ group. members group ∙ before.members group ∙ sym (ap (λ (v : SwitchView). has_member_of v.members group) view);
}

-- the manager treats a word
one_treated : (f m g : ControlPlane) (s : ℕ) (id : SwitchId) (told : ToManager) → IsPlan f.plan → slice_get f.plan.ids s ≡ Some id → IsReportTaken f s told m →
    ManagerTurns treats_one m id told g → (t : ℕ) (id_t : SwitchId) → slice_get f.plan.ids t ≡ Some id_t → HasReported f t id_t → HasReported g t id_t
one_treated f m g s id told is named taken turns t id_t named_t before =
    says_same f g t id_t (turns.view t ∙ taken.left.view t)
    (treated_says place_said place_quiet place_known (λ v learnt x. refl) (λ v x y w. place_heard v x y w) f m g s id told is named taken turns t id_t named_t)
    (λ group. treated_says (members_said group) (members_quiet group) (members_known group) (λ v learnt x. refl) (λ v x y w. members_heard v x y group w) f m g s id told is named taken turns t id_t named_t)
    before

-- a step of the control plane
module _ (f g : ControlPlane) (is : IsPlan f.plan) (unheard : AreUnheard f) (told : HaveReported f) where
  module _ (m : ControlPlane) (plan : m.plan ≡ f.plan) (view : (s : ℕ) → m.view s ≡ f.view s) (reports : (s : ℕ) → m.reports s ≡ f.reports s) (manager : m.manager ≡ f.manager)
      (s : ℕ) (input : SwitchInput) (turns : SwitchTurns Loose m s input g) where
    acts_at : (t : ℕ) (id : SwitchId) → HasReported f t id → HasReported g t id
    acts_at t id before = one_turn m g s input turns t id (one_same f m t id (record { plan = plan; view = view; reports = reports; manager = manager }) before)

    -- where no order is heard
    acts : ((t : ℕ) → m.orders t ≡ f.orders t) → HaveReported g
    acts orders t id named loud =
        acts_at t id (told t id (ap (λ (p : Plan). slice_get p.ids t) (sym (turns.acted.plan ∙ plan)) ∙ named) (ap (list_any is_hello) (sym (turns.acted.orders t ∙ orders t)) ∙ loud))

  obeys : (m : ControlPlane) (s : ℕ) (says : ToSwitch) → IsOrderTaken f s says m → SwitchTurns Loose m s (Says says) g → HaveReported g
  obeys m s says taken turns t id named loud = elim (cases_Bool (is_silent f.orders t)) [
    | inr before ↦ acts_at m taken.left.plan taken.left.view taken.reports taken.left.manager s (Says says) turns t id (told t id named_f before)
    | inl silent ↦ elim (cases_eq t s) [
      | inl here ↦ subst (λ x. HasReported g x id) (sym here) (greeted (subst (λ x. IsUnheard f x) here (unheard t id named_f silent)))
      | inr other ↦ absurd (false≢true (sym loud ∙ ap (list_any is_hello) (turns.acted.orders t ∙ taken.others t other) ∙ silent))
    ]
  ]
    where
      named_f : slice_get f.plan.ids t ≡ Some id
      named_f = ap (λ (p : Plan). slice_get p.ids t) (sym (turns.acted.plan ∙ taken.left.plan)) ∙ named

      greeted : IsUnheard f s → HasReported g s id
      greeted so = one_greeted f m g s says id f.manager.epoch taken turns (first says (Hello f.manager.epoch) (m.orders s) [] (sym taken.first ∙ so.alone)) so
        where
          first : (a b : ToSwitch) (xs ys : List ToSwitch) → a ∷ xs ≡ b ∷ ys → a ≡ b
          first a b xs ys same = cc same

  step_reported : WholeStep Loose treats_one f g → HaveReported g
  step_reported step = by step.0 step.1
    where
      by : (step : PlaneStep Loose treats_one f g) → LosesNoWord Loose treats_one f g step → HaveReported g
      by (Left left) kept = λ t id named loud.
          one_same f g t id (record { plan = left.plan; view = left.view; reports = kept.reports; manager = left.manager })
          (told t id (ap (λ (p : Plan). slice_get p.ids t) (sym left.plan) ∙ named) (ap (list_any is_hello) (sym (kept.orders t)) ∙ loud))
      by (Ticked s turns) kept = acts f refl (λ t. refl) (λ t. refl) refl s Tick turns (λ t. refl)
      by (Heard t q s port frame mid adjacent control taken turns) kept =
          acts mid taken.left.plan taken.left.view taken.reports taken.left.manager s (Comes port frame) turns taken.orders
      by (Carried t q s port frame mid adjacent control carries taken turns) kept =
          acts mid taken.left.plan taken.left.view taken.reports taken.left.manager s (Comes port frame) turns taken.orders
      by (Entered s port frame edge within free control turns) kept = acts f refl (λ t. refl) (λ t. refl) refl s (Comes port frame) turns (λ t. refl)
      by (Ordered s says mid taken turns) kept = obeys mid s says taken turns
      by (Managed s id word mid there named taken turns) kept = λ t id_t named_t loud.
          let named_f = ap (λ (p : Plan). slice_get p.ids t) (sym (turns.plan ∙ taken.left.plan)) ∙ named_t in
          one_treated f mid g s id word is named taken turns t id_t named_f
          (told t id_t named_f (parts_loud [] f g (Treated s id word mid there named taken turns) t loud))

-- and what the manager does, part by part
parts_reported : (mids : List ControlPlane) (f g : ControlPlane) → IsPlan f.plan → HaveReported f → Parts mids f g → HaveReported g
parts_reported mids f g is told parts t id named loud =
    let alike = parts_alike mids f g parts in
    let named_f : slice_get f.plan.ids t ≡ Some id = ap (λ (p : Plan). slice_get p.ids t) (sym alike.plan) ∙ named in
    says_same f g t id (alike.view t)
    (parts_say place_said place_quiet place_known (λ v learnt x. refl) (λ v x y w. place_heard v x y w) mids f g is parts t id named_f)
    (λ group. parts_say (members_said group) (members_quiet group) (members_known group) (λ v learnt x. refl) (λ v x y w. members_heard v x y group w) mids f g is parts t id named_f)
    (told t id named_f (parts_loud mids f g parts t loud))

sifted_reported : (f g : ControlPlane) → HaveReported f → IsSifted f g → HaveReported g
sifted_reported f g told sifted t id named loud =
    let before : is_silent f.orders t ≡ false = ap (list_any is_hello) (sym (sifted.orders t)) ∙ loud in
    says_same f g t id (sifted.alike.view t)
    (sifted_says place_said place_quiet place_known (λ v learnt x. refl) (λ v x y w. place_heard v x y w) f g sifted t id before)
    (λ group. sifted_says (members_said group) (members_quiet group) (members_known group) (λ v learnt x. refl) (λ v x y w. members_heard v x y group w) f g sifted t id before)
    (told t id (ap (λ (p : Plan). slice_get p.ids t) (sym sifted.alike.plan) ∙ named) before)

-- a step to what is due
pub due_reported : (f g : ControlPlane) → IsPlan f.plan → AreUnheard f → HaveReported f → DueStep Loose f g → HaveReported g
due_reported f g is unheard told (Stepped between step sifted) = sifted_reported between g (step_reported f between is unheard told step) sifted
due_reported f g is unheard told (ManagedBy mids parts) = parts_reported mids f g is told parts

-- and after a restart no switch is heard
pub restart_reported : (f g : ControlPlane) → IsPlan f.plan → Restarts f g → HaveReported g
restart_reported f g is restarts s id named loud = absurd (none_loud f g is restarts s id named loud)
