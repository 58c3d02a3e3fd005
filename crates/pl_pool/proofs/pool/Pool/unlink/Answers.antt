use Rattle.std.proofs.Common.{◌+◌, set, sym, ap, ◌∙◌, subst}
use Rattle.std.proofs.lemmas.Bool.{iff_false}
use Rattle.pl_pool.specs.Pool.{Lists, item_at, list_at, without}
use Rattle.pl_pool.specs.Chains.{IsPool, lists_of}
use Rattle.pl_pool.proofs.Moves.{owned_cut}
use Rattle.pl_pool.proofs.Views.{missing, item_found, rest_found, within_of}
use Rattle.pl_pool.proofs.pool.Pool.unlink.Goals as goal

pub returns-then-not-is_in-clause-item : goal.returns-then-not-is_in-clause-item
returns-then-not-is_in-clause-item g c =
    let p = c.self.inside in
    let within = within_of p.nodes p.ends.items p.spare c.args.list c.args.self.now c.self.view_is c.requires in
    let other = iff_false c.is_in.ensures c.if-not-is_in.true in
    sym (ap (λ (v : Lists g.row.T.Denot). item_at (list_at v c.args.list) c.args.key) (sym c.self.view_is)
    ∙ (missing p.nodes p.ends.items p.spare c.self.invariant c.args.list within c.args.key other).item)

pub one_more-self-inside-requires : goal.one_more-self-inside-requires
one_more-self-inside-requires g c = (c.take_out-item.ensures.pool c.self.inside.spare c.self.invariant).room

pub invariant_of-self : goal.invariant_of-self
invariant_of-self g c =
    subst (IsPool c.take_out-item.new.nodes c.take_out-item.new.all.items) (sym c.one_more-self-inside.ensures)
    (c.take_out-item.ensures.pool c.self.inside.spare c.self.invariant)

pub returns-clause-item : goal.returns-clause-item
returns-clause-item g c =
    let p = c.self.inside in
    let within = within_of p.nodes p.ends.items p.spare c.args.list c.args.self.now c.self.view_is c.requires in
    let owned = c.is_in.ensures.0 c.if-not-is_in.false in
    let on = owned_cut p.nodes p.ends.items p.spare c.args.list c.args.key.slot c.self.invariant owned in
    sym (ap (λ (v : Lists g.row.T.Denot). item_at (list_at v c.args.list) c.args.key) (sym c.self.view_is)
    ∙ item_found p.nodes p.ends.items p.spare c.self.invariant c.args.list within c.args.key owned c.take_out-item.result c.take_out-item.ensures.item on.0 on.1 on.2)

pub returns-clause-left : goal.returns-clause-left
returns-clause-left g c =
    let p = c.self.inside in
    let within = within_of p.nodes p.ends.items p.spare c.args.list c.args.self.now c.self.view_is c.requires in
    let owned = c.is_in.ensures.0 c.if-not-is_in.false in
    let on = owned_cut p.nodes p.ends.items p.spare c.args.list c.args.key.slot c.self.invariant owned in
    let lists = c.take_out-item.ensures.lists on.0 on.1 on.2
    ∙ ap (set (lists_of p.nodes p.ends.items) c.args.list)
    (rest_found p.nodes p.ends.items p.spare c.self.invariant c.args.list within c.args.key owned c.take_out-item.result c.take_out-item.ensures.item on.0 on.1 on.2) in
    (λ i. record { lists = lists i; spare = c.one_more-self-inside.ensures i })
    ∙ ap (λ (v : Lists g.row.T.Denot). record { lists = set v.lists c.args.list (without (list_at v c.args.list) c.args.key); spare = v.spare + 1 }) c.self.view_is
