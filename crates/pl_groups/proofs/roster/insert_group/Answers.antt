use Rattle.std.proofs.Common.{◌∙◌, ◌≤◌, ◌<◌, length, subst, sym, Ok, Err, List, ℕ, nat_cmp}
use Rattle.std.proofs.lemmas.Cmp.{nat_cmp_total}
use Rattle.std.specs.List.Sorted.{IsBinarySearchResult}
use Rattle.pl_lists.proofs.Exports.{found_inserts_nothing, missed_inserts}
use Rattle.pl_groups.proofs.roster.insert_group.Goals as goal

pub returns-in-Ok-clause-ok : goal.returns-in-Ok-clause-ok
returns-in-Ok-clause-ok c =
    let list = c.args.groups.now.items in
    let seen = c.deref.ensures.value in
    let i = c.in-Ok.field-0 in
    let bound = subst (λ (l : List ℕ). i < length l) seen c.in-Ok.ensures.bound in
    let position = subst (λ (l : List ℕ). IsBinarySearchResult (λ y. nat_cmp y c.args.group) l (Ok i)) seen c.in-Ok.ensures.position in
    sym (found_inserts_nothing nat_cmp_total c.args.group list c.requires (Ok i) bound position)

pub returns-in_ok-insert-in-Err-clause-ok : goal.returns-in_ok-insert-in-Err-clause-ok
returns-in_ok-insert-in-Err-clause-ok c =
    let list = c.args.groups.now.items in
    let seen = c.deref.ensures.value in
    let i = c.in-Err.index in
    let bound = subst (λ (l : List ℕ). i ≤ length l) seen c.in-Err.ensures.bound in
    let position = subst (λ (l : List ℕ). IsBinarySearchResult (λ y. nat_cmp y c.args.group) l (Err i)) seen c.in-Err.ensures.position in
    c.in_ok-insert-in-Err.ensures.items ∙ missed_inserts nat_cmp_total c.args.group list c.requires (Err i) bound position
