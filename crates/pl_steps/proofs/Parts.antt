-- How the parts of a step go together.
use Rattle.std.proofs.Common.{◌≡◌, List, ◌++◌, refl, sym, ap, ◌∙◌, append_assoc}
use Rattle.std.proofs.lemmas.List.{append-nil}
use Rattle.pl_node.specs.declared.acts.Act.{Act}
use Rattle.pl_node.specs.Gains.{Gains}
use Rattle.pl_node.specs.SwitchViews.{SwitchView}
use Rattle.pl_steps.specs.Steps.{SwitchStep, does, rests, ◌▹◌}
use Rattle.pl_steps.specs.Taken.{IsOfPart, IsTaken, IsTakenByPart, IsTakenUpTo}

pub taken_then : (s : SwitchStep) (next : SwitchView → SwitchStep) (v w : SwitchView) (o p q : List Act) →
    IsTaken s v o p → IsTaken (next v) w p q → IsTaken (s ▹ next) w o q
taken_then s next v w o p q a b = record {
  view = b.view ∙ ap (λ u. (next u).view) a.view;
  acts = b.acts ∙ ap (λ xs. xs ++ (next v).acts) a.acts ∙ append_assoc o s.acts (next v).acts ∙ ap (λ u. o ++ (s.acts ++ (next u).acts)) a.view;
}

pub taken_rests : (v : SwitchView) (o : List Act) → IsTaken (rests v) v o o
taken_rests v o = record { view = refl; acts = sym (append-nil o) }

pub rests_taken : (v w : SwitchView) (o p : List Act) → IsTaken (rests v) w o p → (w ≡ v) × (p ≡ o)
rests_taken v w o p a = (a.view, a.acts ∙ append-nil o)

pub taken_then_rests : (s : SwitchStep) (w : SwitchView) (o p : List Act) → IsTaken s w o p → IsTaken (s ▹ rests) w o p
taken_then_rests s w o p a = record { view = a.view; acts = a.acts ∙ ap (λ xs. o ++ xs) (sym (append-nil s.acts)) }

pub taken_does : (v : SwitchView) (acts o : List Act) → IsTaken (does v acts) v o (o ++ acts)
taken_does v acts o = record { view = refl; acts = refl }

-- whatever a rule says of the view and of the acts of the step
pub taken_gains : (P : List Act → Type 0) (s : SwitchStep) (w : SwitchView) (o p : List Act) →
    ((acts : List Act) → w ≡ s.view → acts ≡ s.acts → P acts) → IsTaken s w o p → Gains o p P
taken_gains P s w o p rule a = record { items = s.acts; gained = a.acts; holds = rule s.acts a.view refl }

module _ {P : Type 0} where
  pub taken_by_part : (put : P → SwitchView → SwitchView) (row : SwitchView → SwitchStep) (becomes : P → P) (done : P → List Act) →
      IsOfPart put row becomes done → (part : P) (o : List Act) → IsTakenByPart put row part (becomes part) o (o ++ done part)
  taken_by_part put row becomes done h part o v = record {
    view = sym (h.view part v);
    acts = ap (λ xs. o ++ xs) (sym (h.acts part v));
  }

  pub taken_by_switch : (put : P → SwitchView → SwitchView) (row : SwitchView → SwitchStep) (before after : P) (o p : List Act) →
      IsTakenByPart put row before after o p → (v w : SwitchView) → v ≡ put before v → w ≡ put after v → IsTaken (row v) w o p
  taken_by_switch put row before after o p h v w is becomes = record {
    view = becomes ∙ (h v).view ∙ ap (λ u. (row u).view) (sym is);
    acts = (h v).acts ∙ ap (λ u. o ++ (row u).acts) (sym is);
  }

-- ---- a step that is taken up to a rest
pub rest_done : (rest step : SwitchStep) (w : SwitchView) (o p q : List Act) → IsTakenUpTo rest step o p → IsTaken rest w p q → IsTaken step w o q
rest_done rest step w o p q a b = record { view = b.view ∙ sym a.view; acts = b.acts ∙ a.acts }

pub nothing_left : (step : SwitchStep) (v : SwitchView) (o p : List Act) → IsTaken step v o p → IsTakenUpTo (rests v) step o p
nothing_left step v o p a = record { view = sym a.view; acts = append-nil p ∙ a.acts }

pub all_left : (step : SwitchStep) (o : List Act) → IsTakenUpTo step step o o
all_left step o = record { view = refl; acts = refl }

-- behind a part that is taken, the rest of the next part is the rest of both
pub then_up_to : (s rest : SwitchStep) (next : SwitchView → SwitchStep) (v : SwitchView) (o p q : List Act) →
    IsTaken s v o p → IsTakenUpTo rest (next v) p q → IsTakenUpTo rest (s ▹ next) o q
then_up_to s rest next v o p q a b = record {
  view = sym (ap (λ u. (next u).view) a.view) ∙ b.view;
  acts = b.acts ∙ ap (λ xs. xs ++ (next v).acts) a.acts ∙ append_assoc o s.acts (next v).acts ∙ ap (λ u. o ++ (s.acts ++ (next u).acts)) a.view;
}
