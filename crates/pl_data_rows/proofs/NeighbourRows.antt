-- Frames of neighbours, case by case.
use Rattle.std.proofs.Common.{◌≡◌, ℕ, ◌||◌, not, Bool, true, false, if◌then◌else◌, List, [], ◌∷◌, ◌++◌, Option, refl, sym, ap, ◌∙◌, subst}
use Rattle.std.specs.Option.{is_none}
use Rattle.pl_frame.specs.Ethernet.{destination_of}
use Rattle.pl_journal.specs.declared.cause.Cause.TheVariants.{NotPlaced}
use Rattle.pl_node.specs.declared.acts.Act.{Act}
use Rattle.pl_node.specs.declared.acts.Act.TheVariants.{Drop}
use Rattle.pl_node.specs.PortRecords.{place_at}
use Rattle.pl_node.specs.SwitchViews.{SwitchView}
use Rattle.pl_layouts.specs.Memberships.{is_group}
use Rattle.pl_layouts.specs.Placement.{is_placed}
use Rattle.pl_steps.specs.Steps.{SwitchStep, does}
use Rattle.pl_steps.specs.Taken.{IsTaken}
use Rattle.pl_switch_rule.specs.declared.came.Came.{Came}
use Rattle.pl_switch_rule.specs.Forwarding.{came_by}
use Rattle.pl_switch_rule.specs.GroupForwarding.{forwards_group}
use Rattle.pl_switch_rule.specs.SwitchRule.{by_flow, comes_from_switch}
use Rattle.pl_data_rows.specs.Rows.{passes_on}

module _ (v : SwitchView) (port : ℕ) (frame : List ℕ) where
  abbrev nowhere : Bool
  nowhere = not (is_placed v.place) || is_none (place_at v port).level

  abbrev by_ways : Bool → Bool → SwitchStep
  by_ways none group = if none then does v (Drop NotPlaced ∷ []) else if group then forwards_group v (came_by v port) frame else passes_on by_flow v port frame

  by_both : (none group : Bool) → nowhere ≡ none → is_group (destination_of frame) ≡ group → by_ways none group ≡ comes_from_switch by_flow v port frame
  by_both none group is_none is_for = sym (ap (λ b. by_ways b (is_group (destination_of frame))) is_none ∙ ap (λ b. by_ways none b) is_for)

  pub gone_nowhere : (b : Bool) (o p : List Act) → b ≡ nowhere → b ≡ true → p ≡ o ++ Drop NotPlaced ∷ [] → IsTaken (comes_from_switch by_flow v port frame) v o p
  gone_nowhere b o p is holds told =
      subst (λ (s : SwitchStep). IsTaken s v o p) (by_both true (is_group (destination_of frame)) (sym is ∙ holds) refl) (record { view = refl; acts = told })

  pub gone_to_group : (b g : Bool) (came : Option Came) (o p : List Act) → b ≡ nowhere → b ≡ false → g ≡ is_group (destination_of frame) → g ≡ true → came ≡ came_by v port →
      IsTaken (forwards_group v came frame) v o p → IsTaken (comes_from_switch by_flow v port frame) v o p
  gone_to_group b g came o p is isnt at_group holds came_is taken =
      subst (λ (s : SwitchStep). IsTaken s v o p) (by_both false true (sym is ∙ isnt) (sym at_group ∙ holds))
      (subst (λ (c : Option Came). IsTaken (forwards_group v c frame) v o p) came_is taken)

  pub gone_on : (b g : Bool) (copy : List ℕ) (o p : List Act) → b ≡ nowhere → b ≡ false → g ≡ is_group (destination_of frame) → g ≡ false → copy ≡ frame →
      IsTaken (passes_on by_flow v port copy) v o p → IsTaken (comes_from_switch by_flow v port frame) v o p
  gone_on b g copy o p is isnt at_group other same taken =
      subst (λ (s : SwitchStep). IsTaken s v o p) (by_both false false (sym is ∙ isnt) (sym at_group ∙ other))
      (subst (λ (f : List ℕ). IsTaken (passes_on by_flow v port f) v o p) same taken)
