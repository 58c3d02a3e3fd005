use Rattle.std.proofs.Common.{sym, ap, ◌∙◌, subst}
use Rattle.std.proofs.lemmas.List.{get_or_read}
use Rattle.pl_pool.specs.declared.links.Ends.{Ends}
use Rattle.pl_pool.specs.Pool.{Lists, items_of, list_at}
use Rattle.pl_pool.specs.Chains.{AreThere, items_from, no_ends}
use Rattle.pl_pool.proofs.Items.{chain_items, chain_there}
use Rattle.pl_pool.proofs.Views.{within_of}
use Rattle.pl_pool.proofs.pool.Pool.iter.Goals as goal

pub invariant_of-result : goal.invariant_of-result
invariant_of-result g c =
    let p = c.self.inside in
    let within = within_of p.nodes p.ends.items p.spare c.args.list c.args.self.now c.self.view_is c.requires in
    let read = get_or_read p.ends.items c.args.list c.index-ends.result.now within c.index-ends.ensures no_ends in
    subst (λ (e : Ends). AreThere p.nodes e.first e.len) (sym read) (chain_there p.nodes p.ends.items p.spare c.self.invariant c.args.list within)

pub returns : goal.returns
returns g c =
    let p = c.self.inside in
    let within = within_of p.nodes p.ends.items p.spare c.args.list c.args.self.now c.self.view_is c.requires in
    let read = get_or_read p.ends.items c.args.list c.index-ends.result.now within c.index-ends.ensures no_ends in
    ap (λ (e : Ends). items_from p.nodes e.first e.len) read
    ∙ chain_items p.nodes p.ends.items p.spare c.self.invariant c.args.list within
    ∙ ap (λ (v : Lists g.row.T.Denot). items_of (list_at v c.args.list)) c.self.view_is
