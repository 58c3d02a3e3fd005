-- Frames that come home, or are made.
use Rattle.std.proofs.Common.{◌≡◌, ◌≤◌, ℕ, List, Option, Some, None, IfSome, length, sym, subst, arith}
use Rattle.pl_node.specs.declared.acts.Act.{Act}
use Rattle.pl_node.specs.SwitchViews.{SwitchView}
use Rattle.pl_delivery.proofs.Exports.{sender_told}
use Rattle.pl_delivery.specs.declared.sent.Sent.{Sent}
use Rattle.pl_delivery.specs.declared.sent.Sent.TheVariants.{Here, Upward}
use Rattle.pl_delivery.specs.Sending.{left_to_do, makes_any, HasLength}
use Rattle.pl_edge.specs.EdgeViews.{EdgeView, edge_in}
use Rattle.pl_steps.proofs.Exports.{rest_done}
use Rattle.pl_steps.specs.Steps.{SwitchStep}
use Rattle.pl_steps.specs.Taken.{IsTaken, IsTakenUpTo}
use Rattle.pl_switch_rule.specs.Delivering.{arrives_home, comes_home, destination, tells_sender, trap_for}
use Rattle.pl_switch_rule.specs.SwitchRule.{by_flow}
use Rattle.pl_data_rows.specs.Rest.{IsLong, IsLongIfAny}

pub still_long : (n : ℕ) (sent : Sent) → HasLength n sent → 14 ≤ n → IsLong sent
still_long n Here has long = tt
still_long n (Upward frame) has long = subst (λ k. 14 ≤ k) (sym has) long

pub reply_long : (reply : Option (List ℕ)) → IfSome reply (λ frame. length frame ≡ 42) → IsLongIfAny reply
reply_long None has = tt
reply_long (Some frame) has = omega (arith, has)

-- a row that the table of the edge switch takes, and then what is left of it
pub sent_on : (row : SwitchView → SwitchStep) (edge : EdgeView) (v : SwitchView) (sent : Sent) (o b p : List Act) → edge_in edge v ≡ v →
    IsTakenUpTo (left_to_do by_flow sent (edge_in edge v)) (row (edge_in edge v)) o b → IsTaken (left_to_do by_flow sent v) v b p → IsTaken (row v) v o p
sent_on row edge v sent o b p is begun done =
    rest_done (left_to_do by_flow sent v) (row v) v o b p (subst (λ (u : SwitchView). IsTakenUpTo (left_to_do by_flow sent u) (row u) o b) is begun) done

pub told_behind : (frame bytes : List ℕ) (reply : Option (List ℕ)) (edge : EdgeView) (v : SwitchView) (o b p : List Act) → bytes ≡ frame → edge_in edge v ≡ v →
    makes_any by_flow reply (edge_in edge v) ≡ tells_sender by_flow bytes (trap_for (edge_in edge v) (destination bytes)) (edge_in edge v) →
    IsTaken (comes_home by_flow v frame) v o b → IsTaken (makes_any by_flow reply v) v b p → IsTaken (arrives_home by_flow v frame) v o p
told_behind frame bytes reply edge v o b p at is tells home made =
    sender_told by_flow frame reply v v o b p
    (subst (λ (f : List ℕ). makes_any by_flow reply v ≡ tells_sender by_flow f (trap_for v (destination f)) v) at
    (subst (λ (u : SwitchView). makes_any by_flow reply u ≡ tells_sender by_flow bytes (trap_for u (destination bytes)) u) is tells))
    home made
