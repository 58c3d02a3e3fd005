use Rattle.std.proofs.Common.{sym, ap, ◌∙◌}
use Rattle.pl_pool.specs.Pool.{Lists, item_at, list_at}
use Rattle.pl_pool.proofs.Views.{item_is, within_of}
use Rattle.pl_pool.proofs.pool.Pool.get.Goals as goal

pub returns : goal.returns
returns g c =
    let p = c.self.inside in
    let within = within_of p.nodes p.ends.items p.spare c.args.list c.args.self.now c.self.view_is c.requires in
    c.item_of.ensures ∙ sym (item_is p.nodes p.ends.items p.spare c.self.invariant c.args.list within c.args.key)
    ∙ ap (λ (v : Lists g.row.T.Denot). item_at (list_at v c.args.list) c.args.key) c.self.view_is
