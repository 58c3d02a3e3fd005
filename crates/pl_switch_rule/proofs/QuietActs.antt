-- Acts that speak of no frame's end: control frames, messages to the manager, grants.
use Rattle.std.proofs.Common.{◌≡◌, ◌<◌, ℕ, Bool, true, false, List, [], ◌∷◌, map, if◌then◌else◌, refl}
use Rattle.std.specs.List.{AllByRecursion}
use Rattle.pl_node.specs.declared.acts.Act.{Act}
use Rattle.pl_node.specs.declared.acts.Act.TheVariants.{Control, Grant as GrantAct, Tell}
use Rattle.pl_node.specs.Accounting.{IsFit, IsSentDuly, IsShaped, frame_state}
use Rattle.pl_node.specs.Accounting.FrameState.{Silent, Waiting}
use Rattle.pl_steps.specs.Steps.{SwitchStep, rests}
use Rattle.pl_node.specs.SwitchViews.{SwitchView}
use Rattle.pl_switch_rule.proofs.StepParts.{IsQuiet, IsSame}
use Rattle.pl_switch_rule.proofs.Shapes.{same_self}

abbrev pub IsQuietAct : ℕ → Act → Type 0
IsQuietAct k (Control port frame) = IsSentDuly k port true frame
IsQuietAct k (Tell told) = Unit {0}
IsQuietAct k (GrantAct pmac amac) = pmac.port < k
IsQuietAct k act = ⊥

abbrev pub AreQuiet : ℕ → List Act → Type 0
AreQuiet k acts = AllByRecursion (IsQuietAct k) acts

silent_acts : (k : ℕ) (acts : List Act) → AreQuiet k acts → frame_state Silent acts ≡ Silent
silent_acts k [] quiet = refl
silent_acts k (Control port frame ∷ acts) quiet = silent_acts k acts quiet.1
silent_acts k (Tell told ∷ acts) quiet = silent_acts k acts quiet.1
silent_acts k (GrantAct pmac amac ∷ acts) quiet = silent_acts k acts quiet.1
silent_acts k (a ∷ acts) quiet = absurd quiet.0

waiting_acts : (k : ℕ) (acts : List Act) → AreQuiet k acts → frame_state Waiting acts ≡ Waiting
waiting_acts k [] quiet = refl
waiting_acts k (Control port frame ∷ acts) quiet = waiting_acts k acts quiet.1
waiting_acts k (Tell told ∷ acts) quiet = waiting_acts k acts quiet.1
waiting_acts k (GrantAct pmac amac ∷ acts) quiet = waiting_acts k acts quiet.1
waiting_acts k (a ∷ acts) quiet = absurd quiet.0

fit_acts : (k : ℕ) (acts : List Act) → AreQuiet k acts → AllByRecursion (IsFit k) acts
fit_acts k [] quiet = tt
fit_acts k (Control port frame ∷ acts) quiet = (quiet.0, fit_acts k acts quiet.1)
fit_acts k (Tell told ∷ acts) quiet = (tt, fit_acts k acts quiet.1)
fit_acts k (GrantAct pmac amac ∷ acts) quiet = (quiet.0, fit_acts k acts quiet.1)
fit_acts k (a ∷ acts) quiet = absurd quiet.0

-- a step of such acts
pub quiet_step : (v w : SwitchView) (acts : List Act) → IsSame v w → AreQuiet v.k acts → IsQuiet v (record { view = w; acts = acts })
quiet_step v w acts same quiet = record {
  silent = silent_acts v.k acts quiet;
  waiting = waiting_acts v.k acts quiet;
  fit = fit_acts v.k acts quiet;
  same = same;
}

pub quiet_rests : (v w : SwitchView) → IsSame v w → IsQuiet v (rests w)
quiet_rests v w same = quiet_step v w [] same tt

pub quiet_self : (v : SwitchView) → IsShaped v → IsQuiet v (rests v)
quiet_self v s = quiet_rests v v (same_self v s)

pub quiet_map : {X : Type 0} (k : ℕ) (P : X → Type 0) (f : X → Act) (xs : List X) → AllByRecursion P xs → ((x : X) → P x → IsQuietAct k (f x)) →
    AreQuiet k (map f xs)
quiet_map k P f [] all each = tt
quiet_map k P f (x ∷ xs) all each = (each x all.0, quiet_map k P f xs all.1 each)

pub quiet_either : (v : SwitchView) (test : Bool) (s t : SwitchStep) → (test ≡ true → IsQuiet v s) → (test ≡ false → IsQuiet v t) →
    IsQuiet v (if test then s else t)
quiet_either v true s t a b = a refl
quiet_either v false s t a b = b refl

pub same_either : (v : SwitchView) (test : Bool) (a b : SwitchView) → IsSame v a → IsSame v b → IsSame v (if test then a else b)
same_either v true a b p q = p
same_either v false a b p q = q
