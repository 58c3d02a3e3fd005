-- A switch that passes data frames on by its ports accounts for them.
use Rattle.std.proofs.Common.{◌≡◌, ℕ, ◌+◌, Bool, true, false, if◌then◌else◌, List, [], ◌∷◌, refl, sym, ap, subst}
use Rattle.std.proofs.Math.Nat.{le-add_right, le_trans, mod-lt}
use Rattle.std.specs.List.{AllByRecursion}
use Rattle.pl_node.specs.declared.acts.Act.{Act}
use Rattle.pl_node.specs.declared.acts.Act.TheVariants.{Pass, Tell}
use Rattle.pl_node.specs.Accounting.{AccountsForFrames, CanCome, IsAccounted, IsFit, IsShaped, IsWholeFrame, is_said, frame_state}
use Rattle.pl_node.specs.Accounting.FrameState.{Passed, Silent, Waiting}
use Rattle.pl_layouts.specs.Control.{is_control}
use Rattle.pl_node.specs.SwitchInputs.{SwitchInput}
use Rattle.pl_node.specs.SwitchInputs.SwitchInput.{Comes, Says, Tick}
use Rattle.pl_node.specs.SwitchViews.{SwitchView}
use Rattle.pl_test_sample.specs.Asking.{AsksForPods, asked}
use Rattle.pl_test_sample.specs.Passing.{PassesNext, PassesTwo, passed_next, passed_two, port_after}

-- what acts say of a frame that comes, where they are done for a data frame alone
said_if : (control : Bool) (acts : List Act) → frame_state Waiting acts ≡ Passed →
    is_said (frame_state (if control then Silent else Waiting) (if control then [] else acts)) ≡ true
said_if true acts passed = refl
said_if false acts passed = ap is_said passed

fit_if : (k : ℕ) (control : Bool) (acts : List Act) → (control ≡ false → AllByRecursion (IsFit k) acts) →
    AllByRecursion (IsFit k) (if control then [] else acts)
fit_if k true acts fit = tt
fit_if k false acts fit = fit refl

-- a data frame goes out whole, by a port that is there
pass_fits : (v : SwitchView) (port steps : ℕ) (frame : List ℕ) → IsShaped v → IsWholeFrame frame → is_control frame ≡ false →
    IsFit v.k (Pass (port_after v.k port steps) frame)
pass_fits v port steps frame shaped whole kind =
    record { within = mod-lt (port + steps) (le_trans (le-add_right 1 3) shaped.low); kind = kind; whole = whole }

next_accounted : (v : SwitchView) (input : SwitchInput) → IsShaped v → CanCome v input → IsAccounted v input v (passed_next v input)
next_accounted v Tick shaped coming = record { said = refl; fit = tt; id = refl; k = refl; shaped = shaped }
next_accounted v (Says says) shaped coming = record { said = refl; fit = tt; id = refl; k = refl; shaped = shaped }
next_accounted v (Comes port frame) shaped coming = record {
  said = said_if (is_control frame) (Pass (port_after v.k port 1) frame ∷ []) refl;
  fit = fit_if v.k (is_control frame) (Pass (port_after v.k port 1) frame ∷ []) (λ kind. (pass_fits v port 1 frame shaped coming.whole kind, tt));
  id = refl;
  k = refl;
  shaped = shaped;
}

two_accounted : (v : SwitchView) (input : SwitchInput) → IsShaped v → CanCome v input → IsAccounted v input v (passed_two v input)
two_accounted v Tick shaped coming = record { said = refl; fit = tt; id = refl; k = refl; shaped = shaped }
two_accounted v (Says says) shaped coming = record { said = refl; fit = tt; id = refl; k = refl; shaped = shaped }
two_accounted v (Comes port frame) shaped coming = record {
  said = said_if (is_control frame) (Pass (port_after v.k port 1) frame ∷ Pass (port_after v.k port 2) frame ∷ []) refl;
  fit = fit_if v.k (is_control frame) (Pass (port_after v.k port 1) frame ∷ Pass (port_after v.k port 2) frame ∷ [])
      (λ kind. (pass_fits v port 1 frame shaped coming.whole kind, (pass_fits v port 2 frame shaped coming.whole kind, tt)));
  id = refl;
  k = refl;
  shaped = shaped;
}

-- what holds of a step that changes nothing holds of one that is that step
by_step : (old new : SwitchView) (input : SwitchInput) (acts done : List Act) → new ≡ old → done ≡ acts → IsAccounted old input old acts →
    IsAccounted old input new done
by_step old new input acts done same is accounted =
    subst (λ v. IsAccounted old input v done) (sym same) (subst (λ those. IsAccounted old input old those) (sym is) accounted)

pub passes_next_accounts : AccountsForFrames PassesNext
passes_next_accounts old input new acts shaped coming ruled =
    by_step old new input (passed_next old input) acts ruled.0 ruled.1 (next_accounted old input shaped coming)

pub passes_two_accounts : AccountsForFrames PassesTwo
passes_two_accounts old input new acts shaped coming ruled =
    by_step old new input (passed_two old input) acts ruled.0 ruled.1 (two_accounted old input shaped coming)

asked_accounted : (v : SwitchView) (input : SwitchInput) → IsShaped v → CanCome v input → IsAccounted v input v (asked v input)
asked_accounted v Tick shaped coming = record { said = refl; fit = (tt, tt); id = refl; k = refl; shaped = shaped }
asked_accounted v (Says says) shaped coming = next_accounted v (Says says) shaped coming
asked_accounted v (Comes port frame) shaped coming = next_accounted v (Comes port frame) shaped coming

pub asks_for_pods_accounts : AccountsForFrames AsksForPods
asks_for_pods_accounts old input new acts shaped coming ruled =
    by_step old new input (asked old input) acts ruled.0 ruled.1 (asked_accounted old input shaped coming)
