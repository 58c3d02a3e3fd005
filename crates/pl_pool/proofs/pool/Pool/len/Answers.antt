use Rattle.std.proofs.Common.{length, ap, ◌∙◌}
use Rattle.std.proofs.lemmas.List.{get_or_read}
use Rattle.pl_pool.specs.declared.links.Ends.{Ends}
use Rattle.pl_pool.specs.Pool.{Lists, list_at}
use Rattle.pl_pool.specs.Chains.{no_ends}
use Rattle.pl_pool.proofs.Views.{length_read, within_of}
use Rattle.pl_pool.proofs.pool.Pool.len.Goals as goal

pub returns : goal.returns
returns g c =
    let p = c.self.inside in
    let within = within_of p.nodes p.ends.items p.spare c.args.list c.args.self.now c.self.view_is c.requires in
    let read = get_or_read p.ends.items c.args.list c.index.result.now within c.index.ensures no_ends in
    ap (λ (e : Ends). e.len) read ∙ length_read p.nodes p.ends.items p.spare c.self.invariant c.args.list within
    ∙ ap (λ (v : Lists g.row.T.Denot). length (list_at v c.args.list)) c.self.view_is
