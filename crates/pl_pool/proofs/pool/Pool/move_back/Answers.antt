use Rattle.std.proofs.Common.{[], set, slice_index_or, sym, ap, ◌∙◌}
use Rattle.std.proofs.lemmas.Bool.{iff_false}
use Rattle.pl_pool.specs.Pool.{Lists, has_key, list_at, moved_back, with_list}
use Rattle.pl_pool.specs.Chains.{lists_of}
use Rattle.pl_pool.proofs.Moves.{owned_cut}
use Rattle.pl_pool.proofs.Views.{owned_item, missing, key_found, back_found, within_of, same_list, none_moved}
use Rattle.pl_pool.proofs.pool.Pool.move_back.Goals as goal

pub returns-then-not-is_in-clause-there : goal.returns-then-not-is_in-clause-there
returns-then-not-is_in-clause-there g c =
    let h = c.if-not-is_in in
    let p = c.self.inside in
    let within = within_of p.nodes p.ends.items p.spare c.args.list c.args.self.now c.self.view_is c.requires in
    let other = iff_false c.is_in.ensures c.if-not-is_in.true in
    sym (ap (λ (v : Lists g.row.T.Denot). has_key (list_at v c.args.list) c.args.key) (sym c.self.view_is)
    ∙ (missing p.nodes p.ends.items p.spare c.self.invariant c.args.list within c.args.key other).has)

pub returns-then-not-is_in-clause-moved : goal.returns-then-not-is_in-clause-moved
returns-then-not-is_in-clause-moved g c =
    let p = c.self.inside in
    let within = within_of p.nodes p.ends.items p.spare c.args.list c.args.self.now c.self.view_is c.requires in
    let other = iff_false c.is_in.ensures c.if-not-is_in.true in
    let m = missing p.nodes p.ends.items p.spare c.self.invariant c.args.list within c.args.key other in
    same_list c.args.self.now c.args.list _
    (ap (λ (v : Lists g.row.T.Denot). moved_back (list_at v c.args.list) c.args.key) (sym c.self.view_is)
    ∙ none_moved (slice_index_or (lists_of p.nodes p.ends.items) c.args.list []) c.args.key m
    ∙ ap (λ (v : Lists g.row.T.Denot). list_at v c.args.list) c.self.view_is)

pub invariant_of-self : goal.invariant_of-self
invariant_of-self g c = c.to_back.ensures.pool c.self.inside.spare c.self.invariant

pub returns-clause-there : goal.returns-clause-there
returns-clause-there g c =
    let p = c.self.inside in
    let within = within_of p.nodes p.ends.items p.spare c.args.list c.args.self.now c.self.view_is c.requires in
    let owned = c.is_in.ensures.0 c.if-not-is_in.false in
    let on = owned_cut p.nodes p.ends.items p.spare c.args.list c.args.key.slot c.self.invariant owned in
    let item = owned_item p.nodes c.args.key.slot c.args.list owned in
    sym (ap (λ (v : Lists g.row.T.Denot). has_key (list_at v c.args.list) c.args.key) (sym c.self.view_is)
    ∙ key_found p.nodes p.ends.items p.spare c.self.invariant c.args.list within c.args.key owned item.0 item.1 on.0 on.1 on.2)

pub returns-clause-moved : goal.returns-clause-moved
returns-clause-moved g c =
    let p = c.self.inside in
    let within = within_of p.nodes p.ends.items p.spare c.args.list c.args.self.now c.self.view_is c.requires in
    let owned = c.is_in.ensures.0 c.if-not-is_in.false in
    let on = owned_cut p.nodes p.ends.items p.spare c.args.list c.args.key.slot c.self.invariant owned in
    let item = owned_item p.nodes c.args.key.slot c.args.list owned in
    let lists = c.to_back.ensures.lists on.0 on.1 on.2
    ∙ ap (set (lists_of p.nodes p.ends.items) c.args.list) (back_found p.nodes p.ends.items p.spare c.self.invariant c.args.list within c.args.key owned item.0 item.1 on.0 on.1 on.2) in
    (λ i. record { lists = lists i; spare = p.spare })
    ∙ ap (λ (v : Lists g.row.T.Denot). with_list v c.args.list (moved_back (list_at v c.args.list) c.args.key)) c.self.view_is
