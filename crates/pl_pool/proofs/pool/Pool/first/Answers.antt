use Rattle.std.proofs.Common.{Some, sym, ap, ◌∙◌, arith}
use Rattle.std.proofs.lemmas.List.{get_or_read}
use Rattle.pl_pool.specs.declared.links.Ends.{Ends}
use Rattle.pl_pool.specs.Pool.{Lists, first_key, list_at}
use Rattle.pl_pool.specs.Chains.{no_ends}
use Rattle.pl_pool.proofs.Views.{first_found, keyed, within_of}
use Rattle.pl_pool.proofs.pool.Pool.first.Goals as goal

pub returns-else-ends-eq0 : goal.returns-else-ends-eq0
returns-else-ends-eq0 g c =
    let p = c.self.inside in
    let within = within_of p.nodes p.ends.items p.spare c.args.list c.args.self.now c.self.view_is c.requires in
    let read = get_or_read p.ends.items c.args.list c.index-ends.result.now within c.index-ends.ensures no_ends in
    ap (λ (e : Ends). Some (keyed e.first)) read
    ∙ sym (first_found p.nodes p.ends.items p.spare c.self.invariant c.args.list within (omega (arith, ap (λ (e : Ends). e.len) read)))
    ∙ ap (λ (v : Lists g.row.T.Denot). first_key (list_at v c.args.list)) c.self.view_is
