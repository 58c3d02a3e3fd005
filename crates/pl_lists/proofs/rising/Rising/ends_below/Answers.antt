use Rattle.std.proofs.Common.{◌∙◌, subst, sym}
use Rattle.std.proofs.lemmas.Bool.{eqb-true}
use Rattle.std.specs.Ordering.{ordering_index}
use Rattle.std.specs.List.Sorted.{IsStrictlySortedBy}
use Rattle.pl_lists.proofs.Insertion.{all_before}
use Rattle.pl_lists.proofs.rising.Rising.ends_below.Goals as goal

pub returns-in-Some-clause-below : goal.returns-in-Some-clause-below
returns-in-Some-clause-below g c holds =
    let sorted = subst (IsStrictlySortedBy g.T.Ord.cmp) c.self.view_is c.self.invariant in
    all_before g.met.T.Ord.total c.args.item.now c.in-Some.last.now c.args.self.now _ c.cmp.result sorted (c.deref.ensures.value ∙ c.self.view_is)
    c.in-Some.ensures.value c.cmp.ensures (eqb-true (ordering_index c.cmp.result) 0 (sym c.eq.ensures ∙ holds))
