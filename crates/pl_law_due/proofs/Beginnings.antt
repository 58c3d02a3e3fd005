-- A switch tells that its report begins only where it hears the manager; and it tells the whole report then.
use Rattle.std.proofs.Common.{◌≡◌, ℕ, false, List, [], ◌∷◌, refl, ap}
use Rattle.std.specs.List.{AllByRecursion}
use Rattle.std.proofs.lemmas.Bool.{cond_both}
use Rattle.pl_layouts.specs.Control.{is_control}
use Rattle.pl_layouts.specs.declared.place.Place.{Place}
use Rattle.pl_gathering.specs.Orderly.{begins}
use Rattle.pl_node.specs.declared.acts.Act.{Act}
use Rattle.pl_node.specs.declared.acts.Act.TheVariants.{Tell}
use Rattle.pl_node.specs.declared.messages.ToManager.{ToManager}
use Rattle.pl_node.specs.declared.messages.ToManager.TheVariants as tell
use Rattle.pl_node.specs.SwitchInputs.SwitchInput.{Comes, Tick}
use Rattle.pl_node.specs.SwitchViews.{SwitchView}
use Rattle.pl_steps.specs.Steps.{SwitchStep}
use Rattle.pl_switch_rule.specs.Announcing.{ticks}
use Rattle.pl_switch_rule.specs.Forwarding.{Choice}
use Rattle.pl_switch_rule.specs.Reporting.{each_told}
use Rattle.pl_switch_rule.specs.SwitchRule.{control_comes, data_comes, switch_step}
use Rattle.pl_switch_rule.proofs.Exports.{ChangeActs, control_acts, data_acts_by, FrameActs, GrantActs, IsAnyPort, ticks_acts}
use Rattle.pl_law_control_plane.specs.ControlPlanes.{tells}
use Rattle.pl_law_control_plane.proofs.Exports.{told_all}
use Rattle.pl_law_due.specs.Due.{read}

-- no report begins
abbrev IsNoBegin : Act → Type 0
IsNoBegin (Tell (tell.Begin epoch)) = ⊥
IsNoBegin act = Unit {0}

frames_begin_none : FrameActs IsAnyPort IsNoBegin
frames_begin_none =
    record { passed = λ port frame way. tt; redirected = λ old new. tt; dropped = λ cause. tt; taken = tt; asked = λ asker asker_ip ip. tt }

grants_begin_none : GrantActs IsNoBegin
grants_begin_none = record { granted = λ address amac. tt; learnt = λ address amac ip. tt }

change_begins_none : (place : Place) → ChangeActs place IsNoBegin
change_begins_none place = record { placed = tt; linked = λ neighbour usable. tt; wanted = λ position. tt }

read_begins_none : (epoch : ℕ) (ws : List ToManager) → AllByRecursion (λ told. IsNoBegin (Tell told)) ws → AllByRecursion (λ r. begins epoch r ≡ false) (read ws)
read_begins_none epoch [] all = tt
read_begins_none epoch (tell.Begin n ∷ ws) all = absurd all.0
read_begins_none epoch (tell.End n ∷ ws) all = (refl, read_begins_none epoch ws all.1)
read_begins_none epoch (tell.Place place ∷ ws) all = (refl, read_begins_none epoch ws all.1)
read_begins_none epoch (tell.Link u usable ∷ ws) all = (refl, read_begins_none epoch ws all.1)
read_begins_none epoch (tell.PodWanted ∷ ws) all = (refl, read_begins_none epoch ws all.1)
read_begins_none epoch (tell.Learned a b c ∷ ws) all = (refl, read_begins_none epoch ws all.1)
read_begins_none epoch (tell.Aged a b ∷ ws) all = (refl, read_begins_none epoch ws all.1)
read_begins_none epoch (tell.Trapped a b c ∷ ws) all = (refl, read_begins_none epoch ws all.1)
read_begins_none epoch (tell.Query a b c ∷ ws) all = (refl, read_begins_none epoch ws all.1)
read_begins_none epoch (tell.Members group any ∷ ws) all = (refl, read_begins_none epoch ws all.1)

acts_begin_none : (epoch : ℕ) (acts : List Act) → AllByRecursion IsNoBegin acts → AllByRecursion (λ r. begins epoch r ≡ false) (read (tells acts))
acts_begin_none epoch acts all = read_begins_none epoch (tells acts) (told_all IsNoBegin acts all)

module _ (choose : Choice) (v : SwitchView) (epoch : ℕ) where
  pub ticks_begin_none : AllByRecursion (λ r. begins epoch r ≡ false) (read (tells (switch_step choose v Tick).acts))
  ticks_begin_none =
      acts_begin_none epoch (ticks v).acts
      (ticks_acts IsNoBegin v (change_begins_none v.place) (λ port frame. tt) (λ port frame. tt) (λ frame. tt) (λ address number. tt))

  pub frames_tell_none : (port : ℕ) (frame : List ℕ) → AllByRecursion (λ r. begins epoch r ≡ false) (read (tells (switch_step choose v (Comes port frame)).acts))
  frames_tell_none port frame =
      cond_both (is_control frame) (control_comes v port frame) (data_comes choose v port frame)
      (λ (step : SwitchStep). AllByRecursion (λ r. begins epoch r ≡ false) (read (tells step.acts)))
      (λ control.
      let step = control_comes v port frame in
      acts_begin_none epoch step.acts (control_acts IsNoBegin v port frame (change_begins_none step.view.place) grants_begin_none (λ at told. tt)))
      (λ data_frame.
      let step = data_comes choose v port frame in
      acts_begin_none epoch step.acts
      (data_acts_by IsNoBegin choose frames_begin_none grants_begin_none (λ frame. tt) (λ group any. tt) v port frame (change_begins_none step.view.place)))

-- what is told on hearing that the manager began anew
pub each_tells : (ws : List ToManager) → tells (each_told ws) ≡ ws
each_tells [] = refl
each_tells (w ∷ ws) = ap (λ rest. w ∷ rest) (each_tells ws)
