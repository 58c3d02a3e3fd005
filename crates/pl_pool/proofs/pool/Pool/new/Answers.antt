use Rattle.std.proofs.Common.{◌≡◌, replicate, ap, ◌∙◌, arith}
use Rattle.pl_pool.specs.Chains.{no_ends, lists_of}
use Rattle.pl_pool.proofs.Views.{map_replicate}
use Rattle.pl_pool.proofs.pool.Pool.new.Goals as goal

pub returns : goal.returns
returns g c =
    let all : c.loop.counter ≡ c.args.lists = omega (arith) in
    let made = ap (lists_of c.new.result) (c.loop.invariant.made ∙ ap (λ n. replicate n no_ends) all) ∙ map_replicate c.new.result c.args.lists in
    λ i. record { lists = made i; spare = 0 }
