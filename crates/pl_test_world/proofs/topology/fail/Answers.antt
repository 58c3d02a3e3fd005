use Rattle.std.proofs.Common.{◌≡◌, ℕ, true, List, Option, Some, None, IfSome, is_some}
use Rattle.std.specs.List.{Any, Contains}
use Rattle.pl_wiring.specs.declared.link.Link.{Link}
use Rattle.pl_wiring.specs.Peers.{LinksSwitches}
use Rattle.pl_test_world.proofs.topology.fail.Goals as goal

-- a link that was found joins the two
joined : (links : List Link) (a b : ℕ) (found : Option Link) → is_some found ≡ true →
    IfSome found (λ l. Contains links l × LinksSwitches l a b) → Any (λ l. LinksSwitches l a b) links
joined links a b None some h = absurd (cc)
joined links a b (Some l) some h = (h.0.0, l, h.0.1, h.0.2, h.1)

pub set-requires-clause-linked : goal.set-requires-clause-linked
set-requires-clause-linked c =
    let some : is_some c.link.result ≡ true = cc in
    joined _ _ _ c.link.result some c.link.ensures.found
