use Rattle.std.proofs.Common.{subst}
use Rattle.pl_pool.specs.Pool.{Lists, HaveOwnKeys}
use Rattle.pl_pool.proofs.Views.{own_keys}
use Rattle.pl_pool.proofs.pool.Pool.lists.Goals as goal

pub returns-clause-keys : goal.returns-clause-keys
returns-clause-keys g c =
    let p = c.self.inside in
    subst (λ (v : Lists g.row.T.Denot). HaveOwnKeys v) c.self.view_is (own_keys p.nodes p.ends.items p.spare c.self.invariant)
