use Rattle.std.proofs.Common.{◌∙◌, sym, ap, [], ◌∷◌, ◌++◌, length}
use Rattle.std.specs.List.{sum_by}
use Rattle.std.specs.Map.{set_value, values_of}
use Rattle.std.specs.BTreeMap.{insert_entry, is_at}
use Rattle.std.proofs.lemmas.Result.{on_err_weaker, on_ok_weaker}
use Rattle.std.proofs.lemmas.Map.Steps.{set_value_same}
use Rattle.pl_node.specs.HostViews.{HeldFrames, ip_cmp}
use Rattle.pl_host.proofs.Holding.{count_behind, count_first, held_behind}
use Rattle.pl_host.proofs.waiting.put_behind.Goals as goal

pub returns-in-Some-clause-held : goal.returns-in-Some-clause-held
returns-in-Some-clause-held c =
    let held : HeldFrames = c.args.by_address.now.entries in
    on_ok_weaker c.push.result
    (λ longer. (c.get_mut.follows.holds c.push.new.self).0 ∙ ap (λ frames. set_value (is_at (ip_cmp c.args.ip)) held frames) longer
    ∙ held_behind held c.args.ip c.in-Some.frames.now c.args.frame c.get_mut.ensures.ordered c.in-Some.ensures.value)
    c.push.ensures.ok

pub returns-in-Some-clause-count : goal.returns-in-Some-clause-count
returns-in-Some-clause-count c =
    let held : HeldFrames = c.args.by_address.now.entries in
    on_ok_weaker c.push.result
    (λ longer. ap (λ (es : HeldFrames). sum_by length (values_of es))
    ((c.get_mut.follows.holds c.push.new.self).0 ∙ ap (λ frames. set_value (is_at (ip_cmp c.args.ip)) held frames) longer)
    ∙ count_behind held c.args.ip c.in-Some.frames.now c.args.frame c.in-Some.ensures.value)
    c.push.ensures.ok

pub returns-in-Some-clause-err : goal.returns-in-Some-clause-err
returns-in-Some-clause-err c =
    let held : HeldFrames = c.args.by_address.now.entries in
    on_err_weaker c.push.result
    (λ same. (c.get_mut.follows.holds c.push.new.self).0 ∙ ap (λ frames. set_value (is_at (ip_cmp c.args.ip)) held frames) same
    ∙ set_value_same (is_at (ip_cmp c.args.ip)) held c.in-Some.frames.now (sym c.in-Some.ensures.value))
    c.push.ensures.err

pub returns-in_ok-insert-in-None-clause-count : goal.returns-in_ok-insert-in-None-clause-count
returns-in_ok-insert-in-None-clause-count c =
    let held : HeldFrames = c.args.by_address.now.entries in
    let one = c.in_ok-push-in-None.ensures.ok ∙ ap (λ frames. frames ++ c.args.frame ∷ []) c.new-frames.ensures in
    ap (λ (es : HeldFrames). sum_by length (values_of es))
    (c.in_ok-insert-in-None.ensures.entries
    ∙ ap (λ m. insert_entry ip_cmp m.entries c.args.ip c.push-in-None.new.self) c.get_mut.follows.holds-at-none
    ∙ ap (λ frames. insert_entry ip_cmp held c.args.ip frames) one)
    ∙ count_first held c.args.ip c.args.frame c.get_mut.ensures.ordered c.in-None.ensures.value
