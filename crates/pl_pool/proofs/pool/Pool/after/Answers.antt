use Rattle.std.proofs.Common.{option_map, sym, ap, ◌∙◌}
use Rattle.std.proofs.lemmas.List.{get_or_read}
use Rattle.slab.specs.Slab.{get}
use Rattle.pl_pool.specs.declared.links.Ends.{Ends}
use Rattle.pl_pool.specs.Pool.{Lists, key_after, list_at}
use Rattle.pl_pool.specs.Chains.{no_ends, next_if}
use Rattle.pl_pool.proofs.Views.{after_is, keyed, within_of}
use Rattle.pl_pool.proofs.pool.Pool.after.Goals as goal

pub returns-in-None : goal.returns-in-None
returns-in-None g c =
    let p = c.self.inside in
    let within = within_of p.nodes p.ends.items p.spare c.args.list c.args.self.now c.self.view_is c.requires in
    let read = get_or_read p.ends.items c.args.list c.index-ends.result.now within c.index-ends.ensures no_ends in
    ap (option_map keyed) c.in-None.ensures
    ∙ ap (λ (e : Ends). option_map keyed (next_if c.args.list e.last c.args.key.slot (get p.nodes c.args.key.slot))) read
    ∙ sym (after_is p.nodes p.ends.items p.spare c.self.invariant c.args.list within c.args.key)
    ∙ ap (λ (v : Lists g.row.T.Denot). key_after (list_at v c.args.list) c.args.key) c.self.view_is

pub returns-in-Some : goal.returns-in-Some
returns-in-Some g c =
    let p = c.self.inside in
    let within = within_of p.nodes p.ends.items p.spare c.args.list c.args.self.now c.self.view_is c.requires in
    let read = get_or_read p.ends.items c.args.list c.index-ends.result.now within c.index-ends.ensures no_ends in
    ap (option_map keyed) c.in-Some.ensures
    ∙ ap (λ (e : Ends). option_map keyed (next_if c.args.list e.last c.args.key.slot (get p.nodes c.args.key.slot))) read
    ∙ sym (after_is p.nodes p.ends.items p.spare c.self.invariant c.args.list within c.args.key)
    ∙ ap (λ (v : Lists g.row.T.Denot). key_after (list_at v c.args.list) c.args.key) c.self.view_is
