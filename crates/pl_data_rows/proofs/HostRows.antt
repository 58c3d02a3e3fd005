-- Frames of hosts, part by part.
use Rattle.std.proofs.Common.{◌≡◌, ℕ, not, Bool, true, false, if◌then◌else◌, List, [], ◌∷◌, ◌++◌, sym, ap, ◌∙◌, subst, append_assoc}
use Rattle.pl_frame.specs.Ethernet.{source_of}
use Rattle.pl_journal.specs.declared.cause.Cause.TheVariants.{NotPlaced, Spent}
use Rattle.pl_node.specs.declared.acts.Act.{Act}
use Rattle.pl_node.specs.declared.acts.Act.TheVariants.{Drop}
use Rattle.pl_node.specs.SwitchViews.{SwitchView}
use Rattle.pl_edge.specs.Begun.{left_to_do}
use Rattle.pl_edge.specs.declared.edge_act.EdgeAct.{EdgeAct}
use Rattle.pl_steps.proofs.Exports.{rest_done, taken_then}
use Rattle.pl_steps.specs.Steps.{SwitchStep, does, ◌▹◌}
use Rattle.pl_steps.specs.Taken.{IsTaken, IsTakenUpTo}
use Rattle.pl_switch_rule.specs.DropCauses.{has_no_hosts}
use Rattle.pl_switch_rule.specs.Granting.{has_no_address, learns_source}
use Rattle.pl_switch_rule.specs.Intake.{comes_from_host, takes_in, takes_in_or_spent}
use Rattle.pl_switch_rule.specs.Levels.{finds_host}
use Rattle.pl_switch_rule.specs.SwitchRule.{by_flow}
use Rattle.pl_data_rows.specs.Rows.{learns_and_takes_in}

module _ (v : SwitchView) (port : ℕ) (frame : List ℕ) where
  abbrev by_level : Bool → SwitchStep
  by_level none = if none then does v (Drop NotPlaced ∷ []) else finds_host v port ▹ (λ w. learns_source w port frame) ▹ takes_in_or_spent by_flow port frame

  pub host_found : (b : Bool) (u w : SwitchView) (copy : List ℕ) (o q p : List Act) → b ≡ has_no_hosts v → b ≡ false → copy ≡ frame → IsTaken (finds_host v port) u o q →
      IsTaken (learns_and_takes_in by_flow port copy u) w q p → IsTaken (comes_from_host by_flow v port frame) w o p
  host_found b u w copy o q p is isnt same found taken =
      let learns : SwitchView → SwitchStep = λ x. learns_source x port frame in
      let takes : SwitchView → SwitchStep = takes_in_or_spent by_flow port frame in
      let both : IsTaken (finds_host v port ▹ (λ x. learns x ▹ takes)) w o p =
      taken_then (finds_host v port) (λ x. learns x ▹ takes) u w o q p found
      (subst (λ (f : List ℕ). IsTaken (learns_and_takes_in by_flow port f u) w q p) same taken) in
      let middle : SwitchView = (finds_host v port).view in
      subst (λ (c : Bool). IsTaken (by_level c) w o p) (sym (sym is ∙ isnt)) (record {
        view = both.view;
        acts = both.acts ∙ ap (λ acts. o ++ acts) (sym (append_assoc (finds_host v port).acts (learns middle).acts (takes (learns middle).view).acts));
      })

  abbrev by_address : SwitchView → Bool → SwitchStep
  by_address u none = if none then does u (Drop Spent ∷ []) else takes_in by_flow port frame u

  pub has_address : (u w : SwitchView) (known : Bool) (o q p : List Act) → IsTaken (learns_source v port frame) u o q → not known ≡ has_no_address u port (source_of frame) → known ≡ true →
      IsTaken (takes_in by_flow port frame u) w q p → IsTaken (learns_and_takes_in by_flow port frame v) w o p
  has_address u w known o q p learnt is holds taken =
      taken_then (learns_source v port frame) (takes_in_or_spent by_flow port frame) u w o q p learnt
      (subst (λ (c : Bool). IsTaken (by_address u c) w q p) (sym (ap not holds) ∙ is) taken)

  pub taken_in : (act : EdgeAct) (after : List ℕ) (u : SwitchView) (o q p : List Act) → IsTakenUpTo (left_to_do by_flow act after u) (takes_in by_flow port frame v) o q →
      IsTaken (left_to_do by_flow act after u) u q p → IsTaken (takes_in by_flow port frame v) u o p
  taken_in act after u o q p begun done = rest_done (left_to_do by_flow act after u) (takes_in by_flow port frame v) u o q p begun done
