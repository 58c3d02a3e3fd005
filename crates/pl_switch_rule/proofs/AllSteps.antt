-- Every step of a switch accounts for its frames, where data frames end, and ticks and the messages that let frames out or free addresses do so.
use Rattle.std.proofs.Common.{◌≡◌, ℕ, false, List, Option, sym, subst₂, inl, inr}
use Rattle.std.proofs.lemmas.Bool.{cases_Bool}
use Rattle.pl_frame.specs.declared.address.Ip4.{Ip4}
use Rattle.pl_pmac.specs.declared.pmac.Pmac.{Pmac}
use Rattle.pl_node.specs.declared.messages.ToSwitch.{ToSwitch}
use Rattle.pl_node.specs.declared.messages.ToSwitch.TheVariants.{Answer, Avoid, Flood, Hello, Invalidate, Pod, Release, Tree}
use Rattle.pl_switch_rule.specs.Forwarding.{Choice}
use Rattle.pl_node.specs.Accounting.{AccountsForFrames, CanCome, IsComing, IsAccounted, IsShaped}
use Rattle.pl_switch_rule.specs.SwitchRule.{Exact, IsChoice, Loose, StepsBy, by_flow, data_comes, switch_step}
use Rattle.pl_node.specs.SwitchInputs.{SwitchInput}
use Rattle.pl_node.specs.SwitchInputs.SwitchInput.{Comes, Says, Tick}
use Rattle.pl_node.specs.SwitchViews.{SwitchView}
use Rattle.pl_switch_rule.proofs.StepParts.{IsEnding}
use Rattle.pl_switch_rule.proofs.ControlSteps.{accounted_avoid, accounted_control, accounted_data, accounted_hello, accounted_pod, accounted_tree}
use Rattle.pl_layouts.specs.Control.{is_control}

-- the step on an input accounts for its frames
abbrev pub IsAccountedStep : Choice → SwitchView → SwitchInput → Type 0
IsAccountedStep choose v input = IsAccounted v input (switch_step choose v input).view (switch_step choose v input).acts

-- what is left to be shown of a way to choose
pub record HandlesFrames (choose : Choice) : Type 0 where
  pub frames : (v : SwitchView) (port : ℕ) (frame : List ℕ) → IsShaped v → IsComing v.k port frame → is_control frame ≡ false → IsEnding v (data_comes choose v port frame)
  pub answer : (v : SwitchView) (asker : Pmac) (asker_ip ip : Ip4) (pmac : Pmac) → IsShaped v → IsAccountedStep choose v (Says (Answer asker asker_ip ip pmac))
  pub flood : (v : SwitchView) (asker : Pmac) (asker_ip ip : Ip4) → IsShaped v → IsAccountedStep choose v (Says (Flood asker asker_ip ip))
  pub tick : (v : SwitchView) → IsShaped v → IsAccountedStep choose v Tick
  pub release : (v : SwitchView) (address : Pmac) → IsShaped v → IsAccountedStep choose v (Says (Release address))
  pub invalidate : (v : SwitchView) (old new : Pmac) (number : ℕ) (ip : Option Ip4) → IsShaped v → IsAccountedStep choose v (Says (Invalidate old new number ip))

comes_accounted : (choose : Choice) → HandlesFrames choose → (v : SwitchView) (port : ℕ) (frame : List ℕ) → IsShaped v → IsComing v.k port frame →
    IsAccountedStep choose v (Comes port frame)
comes_accounted choose h v port frame s coming = elim (cases_Bool (is_control frame)) [
  | inl is ↦ accounted_control choose v port frame s coming is
  | inr other ↦ accounted_data choose v port frame other (h.frames v port frame s coming other)
]

says_accounted : (choose : Choice) → HandlesFrames choose → (v : SwitchView) (says : ToSwitch) → IsShaped v → IsAccountedStep choose v (Says says)
says_accounted choose h v (Pod pod) s = accounted_pod choose v pod s
says_accounted choose h v (Avoid list) s = accounted_avoid choose v list s
says_accounted choose h v (Tree group part) s = accounted_tree choose v group part s
says_accounted choose h v (Answer asker asker_ip ip pmac) s = h.answer v asker asker_ip ip pmac s
says_accounted choose h v (Flood asker asker_ip ip) s = h.flood v asker asker_ip ip s
says_accounted choose h v (Invalidate old new number ip) s = h.invalidate v old new number ip s
says_accounted choose h v (Release address) s = h.release v address s
says_accounted choose h v (Hello epoch) s = accounted_hello choose v epoch s

pub accounted_step : (choose : Choice) → HandlesFrames choose → (v : SwitchView) (input : SwitchInput) → IsShaped v → CanCome v input → IsAccountedStep choose v input
accounted_step choose h v (Comes port frame) s can = comes_accounted choose h v port frame s can
accounted_step choose h v Tick s can = h.tick v s
accounted_step choose h v (Says says) s can = says_accounted choose h v says s

pub steps_are_accounted : (choose : Choice) → HandlesFrames choose → AccountsForFrames (StepsBy choose)
steps_are_accounted choose h old input new acts s can steps =
    subst₂ (λ w done. IsAccounted old input w done) (sym steps.view) (sym steps.done) (accounted_step choose h old input s can)

-- both rules, where each choice handles frames
pub loose_is_accounted : ((choose : Choice) → IsChoice choose → HandlesFrames choose) → AccountsForFrames Loose
loose_is_accounted each old input new acts s can loose =
    steps_are_accounted loose.choose (each loose.choose loose.is_choice) old input new acts s can loose.steps

pub exact_is_accounted : ((choose : Choice) → IsChoice choose → HandlesFrames choose) → IsChoice by_flow → AccountsForFrames Exact
exact_is_accounted each is_choice = steps_are_accounted by_flow (each by_flow is_choice)
