use Rattle.std.proofs.Common.{◌≡◌, arith, length, subst, ◌∙◌, ◌<◌, ◌≤◌, Ok, Err}
use Rattle.std.specs.List.Sorted.{IsStrictlySortedBy, IsBinarySearchResult}
use Rattle.pl_lists.proofs.Insertion.{goes_last, found_inserts_nothing, missed_inserts, tells_member, insert_key_rises}
use Rattle.pl_lists.proofs.rising.Rising.search.Goals as goal

pub returns-in-Ok : goal.returns-in-Ok
returns-in-Ok g c =
    let list = c.args.self.now in
    let x = c.args.item.now in
    let i = c.in-Ok.field-0 in
    let total = g.met.T.Ord.total in
    let sorted = subst (IsStrictlySortedBy g.T.Ord.cmp) c.self.view_is c.self.invariant in
    let seen = c.deref.ensures.value ∙ c.self.view_is in
    let bound = subst (λ l. i < length l) seen c.in-Ok.ensures.bound in
    let position = subst (λ l. IsBinarySearchResult (λ y. g.T.Ord.cmp y x) l (Ok i)) seen c.in-Ok.ensures.position in
    record {
      found = found_inserts_nothing total x list sorted (Ok i) bound position;
      bound = tt;
      missed = tt;
      member = tells_member total x list sorted (Ok i) bound position;
      rising = insert_key_rises total x list sorted;
    }

pub returns-in-Err : goal.returns-in-Err
returns-in-Err g c =
    let list = c.args.self.now in
    let x = c.args.item.now in
    let i = c.in-Err.index in
    let total = g.met.T.Ord.total in
    let sorted = subst (IsStrictlySortedBy g.T.Ord.cmp) c.self.view_is c.self.invariant in
    let seen = c.deref.ensures.value ∙ c.self.view_is in
    let bound = subst (λ l. i ≤ length l) seen c.in-Err.ensures.bound in
    let position = subst (λ l. IsBinarySearchResult (λ y. g.T.Ord.cmp y x) l (Err i)) seen c.in-Err.ensures.position in
    record {
      found = tt;
      bound = bound;
      missed = missed_inserts total x list sorted (Err i) bound position;
      member = tells_member total x list sorted (Err i) bound position;
      rising = insert_key_rises total x list sorted;
    }

pub returns-then-ends_below : goal.returns-then-ends_below
returns-then-ends_below g c =
    let list = c.args.self.now in
    let x = c.args.item.now in
    let total = g.met.T.Ord.total in
    let last = goes_last total x list (c.ends_below.ensures.below c.if-ends_below.true) in
    let many : c.len.result ≡ length list = c.len.ensures in
    record {
      found = tt;
      bound = omega (arith, many);
      missed = rw many last.0;
      member = last.1;
      rising = insert_key_rises total x list c.ends_below.ensures.rising;
    }
