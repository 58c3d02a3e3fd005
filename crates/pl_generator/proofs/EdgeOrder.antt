-- Each host stands at an edge switch.
use Rattle.std.proofs.Common.{◌≡◌, ℕ, ◌*◌, ◌/◌, ◌%◌, ◌<◌, ◌≤◌, ◌∙◌, ap, arith}
use Rattle.std.proofs.lemmas.Nat.{div_below}
use Rattle.pl_wiring.specs.Labels.{IsArity, edge_count}
use Rattle.pl_generator.specs.Hosts.{host_count}

-- as many hosts as rows of host ports
volume : (k h : ℕ) → k ≡ 2 * h → k * k * k / 4 ≡ k * h * h
volume k h twice =
    let inside : k * k * k ≡ 4 * (k * h * h) = ap (λ x. k * x * x) twice ∙ omega arith in
    omega (arith, inside)

pub edge_below : (k n : ℕ) → IsArity k → n < host_count k → n / (k / 2) < edge_count k
edge_below k n arity within =
    let even : k % 2 ≡ 0 = arity.even in
    let least : 4 ≤ k = arity.least in
    let same : k * k * k / 4 ≡ k * (k / 2) * (k / 2) = volume k (k / 2) (omega (arith, even)) in
    div_below n (k / 2) (k * (k / 2)) (omega (arith, least)) (omega (arith, within, same))
