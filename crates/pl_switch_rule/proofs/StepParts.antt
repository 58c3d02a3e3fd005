-- The parts of a switch's step, and how they go together: quiet parts, which speak of no frame's end; a part that ends the frame which waits; and
-- what comes behind it.
use Rattle.std.proofs.Common.{◌≡◌, ℕ, List, [], ◌∷◌, ◌++◌, refl, sym, ap, subst, ◌∙◌, ◌⊎◌, inl, inr}
use Rattle.std.specs.List.{AllByRecursion}
use Rattle.pl_lemmas.proofs.Exports.{all_append}
use Rattle.pl_node.specs.declared.acts.Act.{Act}
use Rattle.pl_node.specs.declared.acts.Act.TheVariants.{Make}
use Rattle.pl_node.specs.Accounting.{IsFit, IsMade, IsShaped, FrameState, frame_state, frame_state_after}
use Rattle.pl_node.specs.Accounting.FrameState.{Ended, Passed, Silent, Waiting}
use Rattle.pl_steps.specs.Steps.{SwitchStep, ◌▹◌, does}
use Rattle.pl_node.specs.SwitchViews.{SwitchView}

-- the same switch, of the same shape
pub record IsSame (v w : SwitchView) : Type 0 where
  pub id : w.id ≡ v.id
  pub k : w.k ≡ v.k
  pub shaped : IsShaped w

pub record IsQuiet (v : SwitchView) (s : SwitchStep) : Type 0 where
  pub silent : frame_state Silent s.acts ≡ Silent
  pub waiting : frame_state Waiting s.acts ≡ Waiting
  pub fit : AllByRecursion (IsFit v.k) s.acts
  pub same : IsSame v s.view

-- the frame that waited was passed on, taken or dropped
abbrev pub HasEnded : FrameState → Type 0
HasEnded now = (now ≡ Passed) ⊎ (now ≡ Ended)

pub record IsEnding (v : SwitchView) (s : SwitchStep) : Type 0 where
  pub ends : HasEnded (frame_state Waiting s.acts)
  pub fit : AllByRecursion (IsFit v.k) s.acts
  pub same : IsSame v s.view

-- other frames may be made, which end too
pub record IsFurther (v : SwitchView) (s : SwitchStep) : Type 0 where
  pub passed : HasEnded (frame_state Passed s.acts)
  pub ended : HasEnded (frame_state Ended s.acts)
  pub fit : AllByRecursion (IsFit v.k) s.acts
  pub same : IsSame v s.view

pub frame_state_append : (start : FrameState) (xs ys : List Act) → frame_state start (xs ++ ys) ≡ frame_state (frame_state start xs) ys
frame_state_append start [] ys = refl
frame_state_append start (x ∷ xs) ys = frame_state_append (frame_state_after start x) xs ys

pub same_then : (u v w : SwitchView) → IsSame u v → IsSame v w → IsSame u w
same_then u v w a b = record { id = b.id ∙ a.id; k = b.k ∙ a.k; shaped = b.shaped }

-- the ports of acts are below the same k
pub fit_at : (v w : SwitchView) (acts : List Act) → IsSame v w → AllByRecursion (IsFit w.k) acts → AllByRecursion (IsFit v.k) acts
fit_at v w acts same fit = subst (λ k. AllByRecursion (IsFit k) acts) same.k fit

pub quiet_then_quiet : (v : SwitchView) (s : SwitchStep) (next : SwitchView → SwitchStep) → IsQuiet v s →
    ((w : SwitchView) → IsSame v w → IsQuiet w (next w)) → IsQuiet v (s ▹ next)
quiet_then_quiet v s next a then = let b = then s.view a.same in record {
  silent = frame_state_append Silent s.acts (next s.view).acts ∙ ap (λ x. frame_state x (next s.view).acts) a.silent ∙ b.silent;
  waiting = frame_state_append Waiting s.acts (next s.view).acts ∙ ap (λ x. frame_state x (next s.view).acts) a.waiting ∙ b.waiting;
  fit = all_append (IsFit v.k) s.acts (next s.view).acts a.fit (fit_at v s.view (next s.view).acts a.same b.fit);
  same = same_then v s.view (next s.view).view a.same b.same;
}

pub quiet_then_ending : (v : SwitchView) (s : SwitchStep) (next : SwitchView → SwitchStep) → IsQuiet v s →
    ((w : SwitchView) → IsSame v w → IsEnding w (next w)) → IsEnding v (s ▹ next)
quiet_then_ending v s next a then = let b = then s.view a.same in record {
  ends = subst HasEnded (sym (frame_state_append Waiting s.acts (next s.view).acts ∙ ap (λ x. frame_state x (next s.view).acts) a.waiting)) b.ends;
  fit = all_append (IsFit v.k) s.acts (next s.view).acts a.fit (fit_at v s.view (next s.view).acts a.same b.fit);
  same = same_then v s.view (next s.view).view a.same b.same;
}

further_from : (start : FrameState) (acts : List Act) → HasEnded start → HasEnded (frame_state Passed acts) → HasEnded (frame_state Ended acts) → HasEnded (frame_state start acts)
further_from start acts (inl is) passed ended = subst (λ x. HasEnded (frame_state x acts)) (sym is) passed
further_from start acts (inr is) passed ended = subst (λ x. HasEnded (frame_state x acts)) (sym is) ended

pub ending_then_further : (v : SwitchView) (s : SwitchStep) (next : SwitchView → SwitchStep) → IsEnding v s →
    ((w : SwitchView) → IsSame v w → IsFurther w (next w)) → IsEnding v (s ▹ next)
ending_then_further v s next a then = let b = then s.view a.same in record {
  ends = subst HasEnded (sym (frame_state_append Waiting s.acts (next s.view).acts))
      (further_from (frame_state Waiting s.acts) (next s.view).acts a.ends b.passed b.ended);
  fit = all_append (IsFit v.k) s.acts (next s.view).acts a.fit (fit_at v s.view (next s.view).acts a.same b.fit);
  same = same_then v s.view (next s.view).view a.same b.same;
}

-- a frame is made, and ends
pub record IsMaking (v : SwitchView) (s : SwitchStep) : Type 0 where
  pub silent : HasEnded (frame_state Silent s.acts)
  pub further : IsFurther v s

pub make_then_ending : (v : SwitchView) (frame : List ℕ) (next : SwitchView → SwitchStep) → IsShaped v → IsMade frame → IsEnding v (next v) →
    IsMaking v (does v (Make frame ∷ []) ▹ next)
make_then_ending v frame next shaped made b = record {
  silent = b.ends;
  further = record { passed = b.ends; ended = b.ends; fit = (made, b.fit); same = b.same };
}
