-- What edge switches try stays in order where each switch keeps to what it owes.
use Rattle.std.proofs.Common.{◌≡◌, ℕ, ◌<◌, ◌≤◌, ◌*◌, Bool, List, length, get_or, Option, Some, None, sym, ◌∙◌, ap, subst, inl, inr}
use Rattle.std.specs.List.{AllByRecursion}
use Rattle.std.proofs.lemmas.Bool.{cases_eq}
use Rattle.pl_lemmas.proofs.Exports.{all_append, all_weaker}
use Rattle.pl_frame.specs.declared.address.SwitchId.{SwitchId}
use Rattle.pl_layouts.specs.declared.control.Control.{Control}
use Rattle.pl_layouts.specs.declared.control.Control.TheVariants.{Ldm, Proposal, Vote}
use Rattle.pl_wiring.specs.declared.label.Label.TheVariants.{Aggregation, Edge}
use Rattle.pl_wiring.specs.Labels.{IsLabel}
use Rattle.pl_wiring.specs.Plan.{Plan}
use Rattle.pl_node.specs.declared.switch_records.Hold.{Hold}
use Rattle.pl_node.specs.SwitchFacts.{hold_at}
use Rattle.pl_node.specs.SwitchViews.{SwitchView}
use Rattle.pl_steps.specs.Steps.{SwitchStep}
use Rattle.pl_switch_rule.specs.Positions.{half}
use Rattle.pl_law_control_plane.specs.ControlPlanes.{ControlPlane, sends, unless}
use Rattle.pl_law_control_plane.specs.PlaneSteps.{LeftOver}
use Rattle.pl_law_control_plane.proofs.Exports.{unless_all}
use Rattle.pl_law_places.proofs.Exports.{all_left, true_of_itself}
use Rattle.pl_law_votes.specs.Voting.{aggregation_no, edge_no}
use Rattle.pl_law_votes.proofs.Exports.{Stance, stance}
use Rattle.pl_law_placing.specs.Trying.{AreTryingBy, HasReason, IsHolder, IsTrueVote, IsTrying, NamesSomeHolder}
use Rattle.pl_law_placing.specs.Trying.HasReason.{IsBehind, IsTaken}
use Rattle.pl_law_placing.proofs.Seeing.{IsGrown, Turned, turned_grown}

module _ (k : ℕ) (old new : ℕ → SwitchView) (grown : IsGrown old new) (pod : ℕ) where
  pub holder_later : (position : ℕ) (id : SwitchId) (fixed : Bool) → IsHolder k old pod position id fixed → IsHolder k new pod position id fixed
  holder_later position id fixed is = let e = edge_no k pod is.i in record {
    i = is.i;
    edge = is.edge;
    named = grown.id e ∙ is.named;
    level = (grown.later e).level 0 is.level;
    so = λ h. (grown.later e).position position (is.so h);
  }

  pub names_later : (position : ℕ) (fixed : Bool) (holder : Option SwitchId) → NamesSomeHolder k old pod position fixed holder → NamesSomeHolder k new pod position fixed holder
  names_later position fixed None is = is
  names_later position fixed (Some id) is = holder_later position id fixed is

  pub vote_later : (c : Control) → IsTrueVote k old pod c → IsTrueVote k new pod c
  vote_later (Vote id v) is = names_later v.position v.fixed v.holder is
  vote_later (Ldm id m) is = tt
  vote_later (Proposal id p) is = tt

  pub reason_later : (id : SwitchId) → HasReason k old pod id → HasReason k new pod id
  reason_later id (IsTaken i edge position) = IsTaken i edge ((grown.later (edge_no k pod i)).position 0 position)
  reason_later id (IsBehind i edge level less) =
      IsBehind i edge ((grown.later (edge_no k pod i)).level 0 level) (subst (λ (x : SwitchId). x.0 < id.0) (sym (grown.id (edge_no k pod i))) less)

-- what must hold of the new views, by what was known before
pub record IsOwed (plan : Plan) (old new : ℕ → SwitchView) (says : ℕ → ℕ → List Control) : Type 0 where
  pub held : (pod j q : ℕ) (hold : Hold) → IsLabel plan.k (Aggregation pod j) → hold_at (new (aggregation_no plan.k pod j)) q ≡ Some hold →
      IsHolder plan.k old pod q hold.edge hold.fixed
  pub said : (pod j port : ℕ) → IsLabel plan.k (Aggregation pod j) → AllByRecursion (IsTrueVote plan.k old pod) (says (aggregation_no plan.k pod j) port)
  pub trying : (s : ℕ) → IsTrying (new s)
  pub reasons : (pod i : ℕ) → IsLabel plan.k (Edge pod i) → 1 < (new (edge_no plan.k pod i)).attempt →
      HasReason plan.k old pod (old (edge_no plan.k pod i)).id

pub paid : (plan : Plan) (old new : ℕ → SwitchView) (says : ℕ → ℕ → List Control) → IsGrown old new → IsOwed plan old new says → AreTryingBy plan new says
paid plan old new says grown owed = record {
  held = λ pod j q hold label is. holder_later plan.k old new grown pod q hold.edge hold.fixed (owed.held pod j q hold label is);
  said = λ pod j port label.
      all_weaker (IsTrueVote plan.k old pod) (IsTrueVote plan.k new pod) (vote_later plan.k old new grown pod) (says (aggregation_no plan.k pod j) port) (owed.said pod j port label);
  trying = owed.trying;
  reasons = λ pod i label more.
      let e = edge_no plan.k pod i in
      subst (HasReason plan.k new pod) (sym (grown.id e)) (reason_later plan.k old new grown pod (old e).id (owed.reasons pod i label more));
}

-- items leave queues
pub left_trying : (plan : Plan) (f g : ControlPlane) → ((s : ℕ) → g.view s ≡ f.view s) → ((s port : ℕ) → LeftOver (f.says s port) (g.says s port)) →
    AreTryingBy plan f.view f.says → AreTryingBy plan g.view g.says
left_trying plan f g same left t = paid plan f.view g.view g.says
    (record { id = λ s. ap (λ (v : SwitchView). v.id) (same s); later = λ s. rw (same s) (true_of_itself (f.view s).place) }) (record {
      held = λ pod j q hold label is. t.held pod j q hold label (ap (λ (v : SwitchView). hold_at v q) (sym (same (aggregation_no plan.k pod j))) ∙ is);
      said = λ pod j port label. let a = aggregation_no plan.k pod j in all_left (IsTrueVote plan.k f.view pod) (f.says a port) (g.says a port) (left a port) (t.said pod j port label);
      trying = λ s. subst IsTrying (sym (same s)) (t.trying s);
      reasons = λ pod i label more. t.reasons pod i label (subst (λ (v : SwitchView). 1 < v.attempt) (same (edge_no plan.k pod i)) more);
    })

-- what a switch owes in a step, as an aggregation switch and as an edge switch
abbrev pub OwesHolds : Plan → (ℕ → SwitchView) → ℕ → SwitchView → Type 0
OwesHolds plan view s after = (pod j q : ℕ) (hold : Hold) → IsLabel plan.k (Aggregation pod j) → aggregation_no plan.k pod j ≡ s → hold_at after q ≡ Some hold →
    IsHolder plan.k view pod q hold.edge hold.fixed

abbrev pub OwesReason : Plan → (ℕ → SwitchView) → ℕ → SwitchView → Type 0
OwesReason plan view s after = (pod i : ℕ) → IsLabel plan.k (Edge pod i) → edge_no plan.k pod i ≡ s → 1 < after.attempt → HasReason plan.k view pod (view s).id

pub record Owes (plan : Plan) (view : ℕ → SwitchView) (s : ℕ) (st : SwitchStep) : Type 0 where
  pub held : OwesHolds plan view s st.view
  pub said : (pod j port : ℕ) → IsLabel plan.k (Aggregation pod j) → aggregation_no plan.k pod j ≡ s → AllByRecursion (IsTrueVote plan.k view pod) (sends port st.acts)
  pub trying : IsTrying st.view
  pub reasons : OwesReason plan view s st.view

pub turned_trying : (f m g : ControlPlane) (s : ℕ) (st : SwitchStep) → Turned f m g s st → AreTryingBy f.plan m.view m.says → Owes f.plan m.view s st →
    AreTryingBy f.plan g.view g.says
turned_trying f m g s st turn t owes = paid f.plan m.view g.view g.says (turned_grown f m g s st turn) (record {
  held = λ pod j q hold label is. let a = aggregation_no f.plan.k pod j in elim (cases_eq a s) [
    | inl here ↦ owes.held pod j q hold label here (ap (λ (v : SwitchView). hold_at v q) (sym turn.acted.here) ∙ ap (λ x. hold_at (g.view x) q) (sym here) ∙ is)
    | inr other ↦ t.held pod j q hold label (ap (λ (v : SwitchView). hold_at v q) (sym (turn.acted.others a other)) ∙ is)
  ];
  said = λ pod j port label. let a = aggregation_no f.plan.k pod j in let P = IsTrueVote f.plan.k m.view pod in elim (cases_eq a s) [
    | inl here ↦ subst (λ x. AllByRecursion (IsTrueVote f.plan.k m.view pod) (g.says x port)) (sym here)
        (subst (AllByRecursion (IsTrueVote f.plan.k m.view pod)) (sym (turn.acted.says port))
        (all_append P (m.says s port) (unless (turn.failed port) (sends port st.acts)) (subst (λ x. AllByRecursion (IsTrueVote f.plan.k m.view pod) (m.says x port)) here (t.said pod j port label))
        (unless_all P (turn.failed port) (sends port st.acts) (owes.said pod j port label here))))
    | inr other ↦ subst (AllByRecursion (IsTrueVote f.plan.k m.view pod)) (sym (turn.acted.other_says a port other)) (t.said pod j port label)
  ];
  trying = λ x. elim (cases_eq x s) [
    | inl here ↦ subst (λ y. IsTrying (g.view y)) (sym here) (subst IsTrying (sym turn.acted.here) owes.trying)
    | inr other ↦ subst IsTrying (sym (turn.acted.others x other)) (t.trying x)
  ];
  reasons = λ pod i label more. let e = edge_no f.plan.k pod i in elim (cases_eq e s) [
    | inl here ↦ subst (λ x. HasReason f.plan.k m.view pod (m.view x).id) (sym here)
        (owes.reasons pod i label here (subst (λ (v : SwitchView). 1 < v.attempt) turn.acted.here (subst (λ x. 1 < (g.view x).attempt) here more)))
    | inr other ↦ t.reasons pod i label (subst (λ (v : SwitchView). 1 < v.attempt) (turn.acted.others e other) more)
  ];
})

-- What stays.

pub trying_same : (v w : SwitchView) → stance w ≡ stance v → IsTrying v → IsTrying w
trying_same v w same t = record {
  first = λ one. ap (λ (x : Stance). x.proposed) same ∙ t.first (ap (λ (x : Stance). x.attempt) (sym same) ∙ one);
  few = λ none. subst (λ (x : Stance). 2 * length x.granted ≤ half x.k) (sym same) (t.few (ap (λ (x : Stance). x.position) (sym same) ∙ none));
}

module _ (plan : Plan) (view : ℕ → SwitchView) (says : ℕ → ℕ → List Control) (t : AreTryingBy plan view says) (s : ℕ) (after : SwitchView) where
  pub holds_same : after.holds ≡ (view s).holds → OwesHolds plan view s after
  holds_same same pod j q hold label here is =
      t.held pod j q hold label (ap (λ x. hold_at (view x) q) here ∙ ap (λ (hs : List (Option Hold)). get_or hs q None) (sym same) ∙ is)

  pub reason_same : after.attempt ≡ (view s).attempt → OwesReason plan view s after
  reason_same same pod i label here more =
      subst (λ x. HasReason plan.k view pod (view x).id) here
      (t.reasons pod i label (subst (λ x. 1 < (view x).attempt) (sym here) (subst (λ n. 1 < n) same more)))
