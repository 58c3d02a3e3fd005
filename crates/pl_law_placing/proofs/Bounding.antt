-- In each step an edge switch goes on by one attempt at most.
use Rattle.std.proofs.Common.{◌≡◌, ℕ, ◌+◌, Option, Some, None, Result, Ok, Err, sym, ◌∙◌, ap, subst, arith, refl, inl, inr, ◌⊎◌}
use Rattle.std.proofs.lemmas.Bool.{cases_eq}
use Rattle.pl_layouts.specs.declared.control.Control.{Control}
use Rattle.pl_layouts.specs.declared.control.Control.TheVariants.{Ldm, Proposal, Vote}
use Rattle.pl_layouts.specs.declared.control.ControlError.{ControlError}
use Rattle.pl_node.specs.SwitchViews.{SwitchView}
use Rattle.pl_steps.specs.Steps.{SwitchStep}
use Rattle.pl_switch_rule.specs.Announcing.{ticks, with_aged_ports}
use Rattle.pl_switch_rule.specs.Levels.{after_message}
use Rattle.pl_switch_rule.specs.Positions.{after_vote}
use Rattle.pl_switch_rule.specs.SwitchRule.{hears_control}
use Rattle.pl_law_control_plane.specs.ControlPlanes.{ControlPlane}
use Rattle.pl_law_votes.proofs.Exports.{aside_ages, changes, proposal_stance, same_stance, Stance}
use Rattle.pl_law_placing.specs.Bounding.{IsBounded}
use Rattle.pl_law_placing.proofs.Seeing.{Seen, Turned}
use Rattle.pl_law_placing.proofs.Seeing.Seen.{Gone, Hears, Quiet, Ticks}
use Rattle.pl_law_placing.proofs.Voting.{Becomes, vote_becomes}
use Rattle.pl_law_placing.proofs.Voting.Becomes.{MovesOn, Stays}

zero_or : (o : Option ℕ) → (o ≡ Some 0) ⊎ (o ≡ Some 0 → ⊥)
zero_or None = inr (λ is. absurd (cc is))
zero_or (Some n) = elim (cases_eq n 0) [ inl same ↦ inl (ap Some same) | inr differ ↦ inr (λ is. differ (cc is)) ]

-- the attempt is the same, or the next one of an edge switch
abbrev Tried : SwitchView → SwitchView → Type 0
Tried v w = (w.attempt ≡ v.attempt) ⊎ ((v.place.level ≡ Some 0) × (w.attempt ≡ v.attempt + 1))

bounded_then : (n : ℕ) (v w : SwitchView) → IsBounded n v → (v.place.level ≡ Some 0 → w.place.level ≡ Some 0) → Tried v w → IsBounded (n + 1) w
bounded_then n v w b later tried = record {
  few = λ level. elim (zero_or v.place.level) [
    | inl was ↦ let few = b.few was in elim tried [ inl same ↦ omega (arith, few, same) | inr next ↦ (let more = next.1 in omega (arith, few, more)) ]
    | inr never ↦ let one = b.at_first never in elim tried [ inl same ↦ omega (arith, one, same) | inr next ↦ absurd (never next.0) ]
  ];
  at_first = λ never.
      let before : v.place.level ≡ Some 0 → ⊥ = λ was. never (later was) in
      elim tried [ inl same ↦ same ∙ b.at_first before | inr next ↦ absurd (before next.0) ];
}

turned_bounded : (n : ℕ) (f m g : ControlPlane) (s : ℕ) (st : SwitchStep) → Turned f m g s st → ((x : ℕ) → IsBounded n (f.view x)) → Tried (m.view s) st.view →
    (x : ℕ) → IsBounded (n + 1) (g.view x)
turned_bounded n f m g s st turn b tried x = elim (cases_eq x s) [
  | inl here ↦ subst (λ y. IsBounded (n + 1) (g.view y)) (sym here)
      (subst (IsBounded (n + 1)) (sym turn.acted.here)
      (bounded_then n (m.view s) st.view (subst (IsBounded n) (sym (turn.left.view s)) (b s)) (turn.good.later.level 0) tried))
  | inr other ↦ subst (IsBounded (n + 1)) (sym (turn.acted.others x other ∙ turn.left.view x)) (bounded_then n (f.view x) (f.view x) (b x) (λ is. is) (inl refl))
]

hears_tried : (v : SwitchView) (port : ℕ) (read : Result Control ControlError) → Tried v (hears_control v port read).view
hears_tried v port (Err e) = inl refl
hears_tried v port (Ok (Ldm id m)) = inl (ap (λ (x : Stance). x.attempt) ((changes v (after_message v port id m)).same ∙ same_stance v port id m))
hears_tried v port (Ok (Proposal id p)) = inl (ap (λ (x : Stance). x.attempt) (proposal_stance v port id p))
hears_tried v port (Ok (Vote id vote)) = by (vote_becomes v port vote)
  where
    same : (hears_control v port (Ok (Vote id vote))).view.attempt ≡ (after_vote v port vote).attempt
    same = ap (λ (x : Stance). x.attempt) (changes v (after_vote v port vote)).same

    by : Becomes v vote (after_vote v port vote) → Tried v (hears_control v port (Ok (Vote id vote))).view
    by (Stays is) = inl (ap (λ (x : Stance). x.attempt) (changes v (after_vote v port vote)).same ∙ is)
    by (MovesOn counted way last next) = inr (counted.level, ap (λ (x : Stance). x.attempt) (changes v (after_vote v port vote)).same ∙ next)

pub seen_bounded : (n : ℕ) (f g : ControlPlane) → ((x : ℕ) → IsBounded n (f.view x)) → Seen f g → (x : ℕ) → IsBounded (n + 1) (g.view x)
seen_bounded n f g b (Gone same left) x = subst (IsBounded (n + 1)) (sym (same x)) (bounded_then n (f.view x) (f.view x) (b x) (λ is. is) (inl refl))
seen_bounded n f g b (Quiet m s st turn aside ports) x = turned_bounded n f m g s st turn b (inl (ap (λ (y : Stance). y.attempt) aside.same)) x
seen_bounded n f g b (Ticks s turn) x = turned_bounded n f f g s (ticks (f.view s)) turn b
    (inl (ap (λ (y : Stance). y.attempt) (aside_ages (with_aged_ports (f.view s))).same)) x
seen_bounded n f g b (Hears m t q s port read adjacent taken good turn) x =
    turned_bounded n f m g s (hears_control (m.view s) port read) turn b (hears_tried (m.view s) port read) x
