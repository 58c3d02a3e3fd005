use Rattle.std.proofs.Common.{◌≡◌, ◌+◌, ◌<◌, ◌∷◌, [], length, set, slice_index_or, sym, ap, ◌∙◌, subst, arith}
use Rattle.std.proofs.lemmas.List.{get_or_read}
use Rattle.pl_pool.specs.declared.links.Ends.{Ends}
use Rattle.pl_pool.specs.Pool.{Lists, IsFirst, list_at}
use Rattle.pl_pool.specs.Chains.{IsPool, ends_at, no_ends, lists_of, item_in}
use Rattle.pl_pool.proofs.Views.{first_cut, first_left, keyed, within_of, seen, popped}
use Rattle.pl_pool.proofs.pool.Pool.pop_front.Goals as goal

pub one_more-self-inside-requires : goal.one_more-self-inside-requires
one_more-self-inside-requires g c = (c.take_out-item.ensures.pool c.self.inside.spare c.self.invariant).room

pub invariant_of-self : goal.invariant_of-self
invariant_of-self g c =
    subst (IsPool c.take_out-item.new.nodes c.take_out-item.new.all.items) (sym c.one_more-self-inside.ensures)
    (c.take_out-item.ensures.pool c.self.inside.spare c.self.invariant)

pub returns : goal.returns
returns g c =
    let p = c.self.inside in
    let within = within_of p.nodes p.ends.items p.spare c.args.list c.args.self.now c.self.view_is c.requires in
    let read = get_or_read p.ends.items c.args.list c.index-ends.result.now within c.index-ends.ensures no_ends in
    let some : 0 < (ends_at p.ends.items c.args.list).len = omega (arith, ap (λ (e : Ends). e.len) read) in
    let on = first_cut p.nodes p.ends.items p.spare c.self.invariant c.args.list within some in
    let row = first_left p.nodes p.ends.items p.spare c.self.invariant c.args.list within some c.take_out-item.result
    (ap (λ (e : Ends). item_in p.nodes e.first) (sym read) ∙ c.take_out-item.ensures.item) in
    let lists = c.take_out-item.ensures.lists [] on.0 (on.1 ∙ ap (λ (e : Ends). e.first ∷ on.0) (sym read)) in
    let out = slice_index_or (lists_of c.take_out-item.new.nodes c.take_out-item.new.all.items) c.args.list [] in
    subst (λ (v : Lists g.row.T.Denot). IsFirst (list_at v c.args.list) c.take_out-item.result (slice_index_or (lists_of c.take_out-item.new.nodes c.take_out-item.new.all.items) c.args.list [])
    × ◌≡◌ {A = Lists g.row.T.Denot} (record { lists = lists_of c.take_out-item.new.nodes c.take_out-item.new.all.items; spare = c.one_more-self-inside.result })
    (record { lists = set v.lists c.args.list (slice_index_or (lists_of c.take_out-item.new.nodes c.take_out-item.new.all.items) c.args.list []); spare = v.spare + 1 }))
    c.self.view_is
    (popped (seen p.nodes p.ends.items p.spare) (lists_of c.take_out-item.new.nodes c.take_out-item.new.all.items) c.one_more-self-inside.result c.args.list
    (keyed (ends_at p.ends.items c.args.list).first) c.take_out-item.result _ (omega (arith, ap (λ (v : Lists g.row.T.Denot). length v.lists) c.self.view_is, c.requires)) row lists c.one_more-self-inside.ensures)
