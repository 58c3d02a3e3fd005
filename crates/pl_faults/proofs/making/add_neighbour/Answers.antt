use Rattle.std.proofs.Common.{◌≡◌, ◌∙◌, cond, sym, ap, true}
use Rattle.std.specs.Prelude.{fold}
use Rattle.std.specs.BTreeSet.{insert_key}
use Rattle.pl_node.specs.AvoidLists.{avoided_at, avoided_cmp, is_above, is_level_above}
use Rattle.pl_faults.specs.Making.{with_neighbour}
use Rattle.pl_faults.specs.Missed.{avoided_of}
use Rattle.pl_faults.proofs.Made.{avoided_kept, none_missed}
use Rattle.pl_faults.proofs.making.add_neighbour.Goals as goal

pub returns-in_ok-add_missed : goal.returns-in_ok-add_missed
unfolding with_neighbour
returns-in_ok-add_missed c at led =
    let told = c.args.reports.now in let s = c.args.switch in let u = c.args.neighbour in let list = c.args.list.now in
    let level : c.is_level_above.result ≡ is_above told s u =
    c.is_level_above.ensures ∙ (λ i. is_level_above (at i).level (c.place_of-level.ensures i).level) in
    let above : is_above told s u ≡ true = sym level ∙ c.if-is_level_above.true in
    c.in_ok-add_missed.ensures
    ∙ ap (fold (insert_key avoided_cmp) list)
    ((λ i. avoided_of (at i) s u (c.missed_in-missed.ensures i)) ∙ sym (avoided_kept told s u c.args.leading.now led above))
    ∙ ap (λ b. cond b (fold (insert_key avoided_cmp) list (avoided_at told s u)) list) (sym above)

pub returns-else-is_level_above : goal.returns-else-is_level_above
unfolding with_neighbour
returns-else-is_level_above c at led =
    let told = c.args.reports.now in let s = c.args.switch in let u = c.args.neighbour in let list = c.args.list.now in
    let level : c.is_level_above.result ≡ is_above told s u =
    c.is_level_above.ensures ∙ (λ i. is_level_above (at i).level (c.place_of-level.ensures i).level) in
    ap (λ b. cond b (fold (insert_key avoided_cmp) list (avoided_at told s u)) list) (sym c.if-is_level_above.false ∙ level)

pub returns-then-is_none : goal.returns-then-is_none
returns-then-is_none c at led =
    none_missed c.args.reports.now c.args.switch c.args.neighbour c.args.leading.now c.args.list.now led
    (sym c.missed_in-missed.ensures ∙ c.is_none.ensures c.if-is_none.true)
