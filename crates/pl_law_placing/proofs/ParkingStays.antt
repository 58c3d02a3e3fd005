-- The edge switches of a pod stay in order where each switch keeps to what it owes.
use Rattle.std.proofs.Common.{◌≡◌, ℕ, ◌+◌, ◌<◌, ◌≤◌, List, get_or, Option, Some, None, sym, ◌∙◌, ap, subst, arith, inl, inr}
use Rattle.std.specs.List.{AllByRecursion}
use Rattle.std.proofs.lemmas.Bool.{cases_eq, cases_lt}
use Rattle.pl_lemmas.proofs.Exports.{all_append, all_weaker}
use Rattle.pl_frame.specs.declared.address.SwitchId.{SwitchId}
use Rattle.pl_layouts.specs.declared.control.Control.{Control}
use Rattle.pl_layouts.specs.declared.control.Control.TheVariants.{Ldm, Proposal, Vote}
use Rattle.pl_wiring.specs.declared.label.Label.TheVariants.{Aggregation, Edge}
use Rattle.pl_wiring.specs.Labels.{IsLabel}
use Rattle.pl_wiring.specs.Plan.{Plan}
use Rattle.pl_node.specs.declared.switch_records.Hold.{Hold}
use Rattle.pl_node.specs.SwitchFacts.{hold_at}
use Rattle.pl_node.specs.SwitchViews.{SwitchView}
use Rattle.pl_steps.specs.Steps.{SwitchStep}
use Rattle.pl_law_control_plane.specs.ControlPlanes.{ControlPlane, sends, unless}
use Rattle.pl_law_control_plane.specs.PlaneSteps.{LeftOver}
use Rattle.pl_law_control_plane.proofs.Exports.{unless_all}
use Rattle.pl_law_places.proofs.Exports.{all_left, true_of_itself}
use Rattle.pl_law_votes.specs.Voting.{aggregation_no, edge_no}
use Rattle.pl_law_votes.proofs.Exports.{Stance, stance}
use Rattle.pl_law_placing.specs.Parking.{AreParkedBy, HasComeTo, IsInTurn, IsKeptFrom, IsNotPast, IsVoteOfOneThere, NamesOneThere}
use Rattle.pl_law_placing.specs.Parking.IsKeptFrom.{IsFixed, IsTried}
use Rattle.pl_law_placing.proofs.Seeing.{IsGrown, Turned, turned_grown}

-- no switch goes back
abbrev pub NoneGoesBack : (old new : ℕ → SwitchView) → Type 0
NoneGoesBack old new = (s : ℕ) → (old s).proposed ≤ (new s).proposed

module _ (k : ℕ) (old new : ℕ → SwitchView) (grown : IsGrown old new) (rises : NoneGoesBack old new) (pod : ℕ) where
  pub come_later : (position : ℕ) (id : SwitchId) → HasComeTo k old pod position id → HasComeTo k new pod position id
  come_later position id is = let e = edge_no k pod is.i in record {
    i = is.i;
    edge = is.edge;
    named = grown.id e ∙ is.named;
    far = let far = is.far in let more = rises e in omega (arith, far, more);
  }

  names_later : (position : ℕ) (holder : Option SwitchId) → NamesOneThere k old pod position holder → NamesOneThere k new pod position holder
  names_later position None is = is
  names_later position (Some id) is = come_later position id is

  pub there_later : (c : Control) → IsVoteOfOneThere k old pod c → IsVoteOfOneThere k new pod c
  there_later (Vote id v) is = names_later v.position v.holder is
  there_later (Ldm id m) is = tt
  there_later (Proposal id p) is = tt

pub past_later : (a b : ℕ) → a ≤ b → (c : Control) → IsNotPast a c → IsNotPast b c
past_later a b more (Proposal id p) is = omega (arith, more, is)
past_later a b more (Ldm id m) is = tt
past_later a b more (Vote id v) is = tt

-- what is kept from a switch is kept from one with a larger id
pub kept_larger : (k : ℕ) (view : ℕ → SwitchView) (pod q : ℕ) (a b : SwitchId) → a.0 < b.0 → IsKeptFrom k view pod q a → IsKeptFrom k view pod q b
kept_larger k view pod q a b less (IsFixed i edge at) = IsFixed i edge at
kept_larger k view pod q a b less (IsTried i edge at smaller) = IsTried i edge at (omega (arith, less, smaller))

-- Items leave queues.
pub left_parked : (plan : Plan) (f g : ControlPlane) → ((s : ℕ) → g.view s ≡ f.view s) → ((s port : ℕ) → LeftOver (f.says s port) (g.says s port)) →
    AreParkedBy plan f.view f.says → AreParkedBy plan g.view g.says
left_parked plan f g same left t =
    let grown : IsGrown f.view g.view = record { id = λ s. ap (λ (v : SwitchView). v.id) (same s); later = λ s. rw (same s) (true_of_itself (f.view s).place) } in
    let rises : NoneGoesBack f.view g.view = λ s. let at = ap (λ (v : SwitchView). v.proposed) (same s) in omega (arith, at) in
    record {
      turns = λ s. subst IsInTurn (sym (same s)) (t.turns s);
      kept = λ pod i q label below. let e = edge_no plan.k pod i in
          subst (λ (v : SwitchView). IsKeptFrom plan.k g.view pod q v.id) (sym (same e))
          (stays pod q (f.view e).id (t.kept pod i q label (subst (λ (v : SwitchView). q < v.proposed) (same e) below)));
      held = λ pod j q hold label is. come_later plan.k f.view g.view grown rises pod q hold.edge
          (t.held pod j q hold label (ap (λ (v : SwitchView). hold_at v q) (sym (same (aggregation_no plan.k pod j))) ∙ is));
      said = λ pod j port label. let a = aggregation_no plan.k pod j in
          all_weaker (IsVoteOfOneThere plan.k f.view pod) (IsVoteOfOneThere plan.k g.view pod) (there_later plan.k f.view g.view grown rises pod) (g.says a port)
          (all_left (IsVoteOfOneThere plan.k f.view pod) (f.says a port) (g.says a port) (left a port) (t.said pod j port label));
      proposals = λ s port. subst (λ (v : SwitchView). AllByRecursion (IsNotPast v.proposed) (g.says s port)) (sym (same s))
          (all_left (IsNotPast (f.view s).proposed) (f.says s port) (g.says s port) (left s port) (t.proposals s port));
    }
  where
    stays : (pod q : ℕ) (id : SwitchId) → IsKeptFrom plan.k f.view pod q id → IsKeptFrom plan.k g.view pod q id
    stays pod q id (IsFixed i edge at) = IsFixed i edge (ap (λ (v : SwitchView). v.place.position) (same (edge_no plan.k pod i)) ∙ at)
    stays pod q id (IsTried i edge at less) = let e = edge_no plan.k pod i in
        IsTried i edge (ap (λ (v : SwitchView). v.proposed) (same e) ∙ at) (subst (λ (v : SwitchView). v.id.0 < id.0) (sym (same e)) less)

-- What a switch owes in a step.
abbrev pub OwesComing : Plan → (ℕ → SwitchView) → ℕ → SwitchView → Type 0
OwesComing plan view s after = (pod j q : ℕ) (hold : Hold) → IsLabel plan.k (Aggregation pod j) → aggregation_no plan.k pod j ≡ s → hold_at after q ≡ Some hold →
    HasComeTo plan.k view pod q hold.edge

abbrev pub OwesKept : Plan → (ℕ → SwitchView) → ℕ → SwitchView → Type 0
OwesKept plan view s after = (pod i q : ℕ) → IsLabel plan.k (Edge pod i) → edge_no plan.k pod i ≡ s → q < after.proposed → IsKeptFrom plan.k view pod q (view s).id

pub record Owes (plan : Plan) (view : ℕ → SwitchView) (s : ℕ) (st : SwitchStep) : Type 0 where
  pub turn : IsInTurn st.view
  pub rises : (view s).proposed ≤ st.view.proposed
  pub kept : OwesKept plan view s st.view
  pub held : OwesComing plan view s st.view
  pub said : (pod j port : ℕ) → IsLabel plan.k (Aggregation pod j) → aggregation_no plan.k pod j ≡ s → AllByRecursion (IsVoteOfOneThere plan.k view pod) (sends port st.acts)
  pub proposals : (port : ℕ) → AllByRecursion (IsNotPast st.view.proposed) (sends port st.acts)

module _ (f m g : ControlPlane) (s : ℕ) (st : SwitchStep) (turn : Turned f m g s st) (owes : Owes f.plan m.view s st) where
  grown : IsGrown m.view g.view
  grown = turned_grown f m g s st turn

  rising : NoneGoesBack m.view g.view
  rising x = elim (cases_eq x s) [
    | inl here ↦
        let was = ap (λ y. (m.view y).proposed) here in
        let is = ap (λ y. (g.view y).proposed) here ∙ ap (λ (v : SwitchView). v.proposed) turn.acted.here in
        let more = owes.rises in omega (arith, was, is, more)
    | inr other ↦ let same = ap (λ (v : SwitchView). v.proposed) (turn.acted.others x other) in omega (arith, same)
  ]

  -- another switch that tried a position tries it still
  tried_elsewhere : (pod q i : ℕ) (id : SwitchId) → IsLabel f.plan.k (Edge pod i) → (edge_no f.plan.k pod i ≡ s → ⊥) → (m.view (edge_no f.plan.k pod i)).proposed ≡ q →
      (m.view (edge_no f.plan.k pod i)).id.0 < id.0 → IsKeptFrom f.plan.k g.view pod q id
  tried_elsewhere pod q i id edge other at less = let e = edge_no f.plan.k pod i in let same = turn.acted.others e other in
      IsTried i edge (ap (λ (v : SwitchView). v.proposed) same ∙ at) (subst (λ (v : SwitchView). v.id.0 < id.0) (sym same) less)

  -- what is kept stays kept: where the switch that kept it goes on, it goes on for a reason
  still_kept : (pod q : ℕ) (id : SwitchId) → IsKeptFrom f.plan.k m.view pod q id → IsKeptFrom f.plan.k g.view pod q id
  still_kept pod q id (IsFixed i edge at) = IsFixed i edge ((grown.later (edge_no f.plan.k pod i)).position q at)
  still_kept pod q id (IsTried i edge at less) = let e = edge_no f.plan.k pod i in elim (cases_eq e s) [
    | inr other ↦ tried_elsewhere pod q i id edge other at less
    | inl here ↦ elim (cases_lt q st.view.proposed) [
      | inl gone ↦ for_reason here (owes.kept pod i q edge here gone)
      | inr stays ↦
          let is : (g.view e).proposed ≡ st.view.proposed = ap (λ y. (g.view y).proposed) here ∙ ap (λ (v : SwitchView). v.proposed) turn.acted.here in
          let more = rising e in
          IsTried i edge (omega (arith, is, more, at, stays)) (subst (λ (x : SwitchId). x.0 < id.0) (sym (grown.id e)) less)
    ]
  ]
    where
      for_reason : edge_no f.plan.k pod i ≡ s → IsKeptFrom f.plan.k m.view pod q (m.view s).id → IsKeptFrom f.plan.k g.view pod q id
      for_reason here (IsFixed j other fixed) = IsFixed j other ((grown.later (edge_no f.plan.k pod j)).position q fixed)
      for_reason here (IsTried j other tried smaller) =
          let own : (m.view s).id.0 < id.0 = subst (λ x. (m.view x).id.0 < id.0) here less in
          tried_elsewhere pod q j id other
          (λ same. let twice = subst (λ x. (m.view x).id.0 < (m.view s).id.0) same smaller in omega (arith, twice)) tried (omega (arith, smaller, own))

  pub turned_parked : AreParkedBy f.plan m.view m.says → AreParkedBy f.plan g.view g.says
  turned_parked t = record {
    turns = λ x. elim (cases_eq x s) [
      | inl here ↦ subst (λ y. IsInTurn (g.view y)) (sym here) (subst IsInTurn (sym turn.acted.here) owes.turn)
      | inr other ↦ subst IsInTurn (sym (turn.acted.others x other)) (t.turns x)
    ];
    kept = λ pod i q label below. let e = edge_no f.plan.k pod i in
        subst (IsKeptFrom f.plan.k g.view pod q) (sym (grown.id e)) (still_kept pod q (m.view e).id (elim (cases_eq e s) [
          | inl here ↦ subst (λ x. IsKeptFrom f.plan.k m.view pod q (m.view x).id) (sym here)
              (owes.kept pod i q label here (subst (λ (v : SwitchView). q < v.proposed) turn.acted.here (subst (λ x. q < (g.view x).proposed) here below)))
          | inr other ↦ t.kept pod i q label (subst (λ (v : SwitchView). q < v.proposed) (turn.acted.others e other) below)
        ]));
    held = λ pod j q hold label is. let a = aggregation_no f.plan.k pod j in come_later f.plan.k m.view g.view grown rising pod q hold.edge (elim (cases_eq a s) [
      | inl here ↦ owes.held pod j q hold label here (ap (λ (v : SwitchView). hold_at v q) (sym turn.acted.here) ∙ ap (λ x. hold_at (g.view x) q) (sym here) ∙ is)
      | inr other ↦ t.held pod j q hold label (ap (λ (v : SwitchView). hold_at v q) (sym (turn.acted.others a other)) ∙ is)
    ]);
    said = λ pod j port label. let a = aggregation_no f.plan.k pod j in let P = IsVoteOfOneThere f.plan.k m.view pod in
        all_weaker P (IsVoteOfOneThere f.plan.k g.view pod) (there_later f.plan.k m.view g.view grown rising pod) (g.says a port) (elim (cases_eq a s) [
          | inl here ↦ subst (λ x. AllByRecursion (IsVoteOfOneThere f.plan.k m.view pod) (g.says x port)) (sym here)
              (subst (AllByRecursion (IsVoteOfOneThere f.plan.k m.view pod)) (sym (turn.acted.says port))
              (all_append P (m.says s port) (unless (turn.failed port) (sends port st.acts))
              (subst (λ x. AllByRecursion (IsVoteOfOneThere f.plan.k m.view pod) (m.says x port)) here (t.said pod j port label))
              (unless_all P (turn.failed port) (sends port st.acts) (owes.said pod j port label here))))
          | inr other ↦ subst (AllByRecursion (IsVoteOfOneThere f.plan.k m.view pod)) (sym (turn.acted.other_says a port other)) (t.said pod j port label)
        ]);
    proposals = λ x port. elim (cases_eq x s) [
      | inl here ↦ subst (λ y. AllByRecursion (IsNotPast (g.view y).proposed) (g.says y port)) (sym here)
          (subst (λ (v : SwitchView). AllByRecursion (IsNotPast v.proposed) (g.says s port)) (sym turn.acted.here)
          (subst (AllByRecursion (IsNotPast st.view.proposed)) (sym (turn.acted.says port))
          (all_append (IsNotPast st.view.proposed) (m.says s port) (unless (turn.failed port) (sends port st.acts))
          (all_weaker (IsNotPast (m.view s).proposed) (IsNotPast st.view.proposed) (past_later (m.view s).proposed st.view.proposed owes.rises) (m.says s port) (t.proposals s port))
          (unless_all (IsNotPast st.view.proposed) (turn.failed port) (sends port st.acts) (owes.proposals port)))))
      | inr other ↦ subst (λ (v : SwitchView). AllByRecursion (IsNotPast v.proposed) (g.says x port)) (sym (turn.acted.others x other))
          (subst (AllByRecursion (IsNotPast (m.view x).proposed)) (sym (turn.acted.other_says x port other)) (t.proposals x port))
    ];
  }

-- What stays.

pub turn_same : (v w : SwitchView) → stance w ≡ stance v → IsInTurn v → IsInTurn w
turn_same v w same t = record {
  attempt = ap (λ (x : Stance). x.attempt) same ∙ t.attempt ∙ ap (λ (x : Stance). x.proposed + 1) (sym same);
  fixed = λ x at. t.fixed x (ap (λ (y : Stance). y.position) (sym same) ∙ at) ∙ ap (λ (y : Stance). y.proposed) (sym same);
}

module _ (plan : Plan) (view : ℕ → SwitchView) (says : ℕ → ℕ → List Control) (t : AreParkedBy plan view says) (s : ℕ) (after : SwitchView) where
  pub coming_same : after.holds ≡ (view s).holds → OwesComing plan view s after
  coming_same same pod j q hold label here is =
      t.held pod j q hold label (ap (λ x. hold_at (view x) q) here ∙ ap (λ (hs : List (Option Hold)). get_or hs q None) (sym same) ∙ is)

  pub kept_same : after.proposed ≡ (view s).proposed → OwesKept plan view s after
  kept_same same pod i q label here below =
      subst (λ x. IsKeptFrom plan.k view pod q (view x).id) here
      (t.kept pod i q label (subst (λ x. q < (view x).proposed) (sym here) (subst (λ n. q < n) same below)))

pub rises_same : (v w : SwitchView) → stance w ≡ stance v → v.proposed ≤ w.proposed
rises_same v w same = let at = ap (λ (x : Stance). x.proposed) same in omega (arith, at)
