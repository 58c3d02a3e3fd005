-- A run may become as long as the failures of all links that are none of the tree.
use Rattle.std.proofs.Common.{◌≡◌, ℕ, ◌≤◌, ◌+◌, ◌*◌, ◌/◌, length, arith}
use Rattle.std.proofs.Math.Nat.{div-le_self}
use Rattle.std.proofs.lemmas.Nat.{mul-le}
use Rattle.pl_wiring.specs.FatTree.{link_count}
use Rattle.pl_wiring.specs.Plan.{IsPlan, Plan}
use Rattle.pl_law_bridge.specs.TreeWorld.{AllowFailures}
use Rattle.pl_playing.specs.Outcomes.{run_limits}

few_links : (k : ℕ) → k ≤ 24 → link_count k ≤ 27648
few_links k most =
    let less : k / 2 ≤ k = div-le_self k 2 in
    let half : k / 2 ≤ 24 = omega (arith, less, most) in
    let edges : k * (k / 2) ≤ 576 = mul-le k (k / 2) 24 24 most half in
    mul-le (k * (k / 2) + k * (k / 2)) (k / 2) 1152 24 (omega (arith, edges)) half

pub failures_allowed : (plan : Plan) → IsPlan plan → AllowFailures plan run_limits
failures_allowed plan is =
    let many : length plan.links ≡ link_count plan.k = is.in_order.many in
    let few : link_count plan.k ≤ 27648 = few_links plan.k is.arity.most in
    record { steps = omega (arith, many, few); entries = omega (arith, many, few); bytes = omega arith }
