use Rattle.std.proofs.Common.{◌≡◌, ◌≤◌, ◌∙◌, false, length, map, slice_get, sym, ap, subst, arith}
use Rattle.std.specs.BTreeMap.{is_at}
use Rattle.std.specs.BTreeSet.{insert_key}
use Rattle.std.specs.List.{insert, list_any}
use Rattle.std.proofs.lemmas.Option.{slice_get_within}
use Rattle.std.specs.List.Sorted.{IsStrictlySortedBy}
use Rattle.pl_node.specs.ManagerViews.{id_cmp}
use Rattle.pl_node.proofs.Exports.{id_total, rising_inserted}
use Rattle.pl_reports.proofs.Standing.{got_inserted, mapped_inserted}
use Rattle.pl_reports.proofs.entering.enter.Goals as goal

pub returns-in-Ok-clause-at : goal.returns-in-Ok-clause-at
returns-in-Ok-clause-at c = subst (λ xs. xs ≡ insert_key id_cmp xs c.args.switch) c.as_slice.ensures.value (sym c.in-Ok.ensures.there)

pub returns-in-Ok-clause-within : goal.returns-in-Ok-clause-within
returns-in-Ok-clause-within c =
    let there = slice_get_within c.args.speakers.now.items c.in-Ok.at c.args.switch (ap (λ xs. slice_get xs c.in-Ok.at) (sym c.as_slice.ensures.value) ∙ c.in-Ok.ensures.found) in
    omega (arith, there, c.requires.even)

pub returns-in_ok-insert-in-Err-2-clause-there : goal.returns-in_ok-insert-in-Err-2-clause-there
returns-in_ok-insert-in-Err-2-clause-there c =
    ap (λ xs. slice_get xs c.in-Err.at) c.in_ok-insert-in-Err.ensures.items
    ∙ got_inserted c.args.speakers.now.items c.in-Err.at c.args.switch (subst (λ xs. c.in-Err.at ≤ length xs) c.as_slice.ensures.value c.in-Err.ensures.bound)

pub returns-in_ok-insert-in-Err-2-clause-all : goal.returns-in_ok-insert-in-Err-2-clause-all
returns-in_ok-insert-in-Err-2-clause-all c f silent is =
    let none = subst (λ xs. list_any (is_at (id_cmp c.args.switch)) xs ≡ false) c.as_slice.ensures.value c.in-Err.ensures.none in
    c.in_ok-insert-in-Err-2.ensures.items
    ∙ (λ i. insert (is i) c.in-Err.at ((c.unheard.ensures ∙ sym (silent none)) i))
    ∙ mapped_inserted f c.args.speakers.now.items c.in-Err.at c.args.switch
    ∙ ap (map f) (sym c.in_ok-insert-in-Err.ensures.items)

pub returns-in_ok-insert-in-Err-2-clause-rising : goal.returns-in_ok-insert-in-Err-2-clause-rising
returns-in_ok-insert-in-Err-2-clause-rising c =
    let gap = subst (λ xs. insert xs c.in-Err.at c.args.switch ≡ insert_key id_cmp xs c.args.switch) c.as_slice.ensures.value c.in-Err.ensures.gap in
    subst (IsStrictlySortedBy id_cmp) (sym (c.in_ok-insert-in-Err.ensures.items ∙ gap))
    (rising_inserted id_cmp id_total c.args.switch c.args.speakers.now.items c.requires.rising)
