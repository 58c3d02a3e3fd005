use Rattle.std.proofs.Common.{◌∙◌, Some, None, ap, rules, sym, subst}
use Rattle.pl_shelf.specs.Held.{Changes, emptied}
use Rattle.pl_shelf.specs.MemoryShelf.{places_of, capacity_in, held_in, emptied_place}
use Rattle.pl_shelf.proofs.Naming.{get_found, changed_found, changed_missing}
use Rattle.pl_shelf.proofs.Placed.{emptied_capacity, emptied_held}
use Rattle.pl_shelf.proofs.places.empty_at.Goals as goal

pub returns-in-Some-clause-there : goal.returns-in-Some-clause-there
returns-in-Some-clause-there c =
    let found = get_found c.args.files.now c.args.name.now (Some c.in-Some.kept.now) c.in-Some.ensures.value in
    rw found (search rules)

pub returns-in-Some-clause-after : goal.returns-in-Some-clause-after
returns-in-Some-clause-after c =
    changed_found c.args.files.now c.args.name.now (c.get_mut.follows.lender c.empty.new.self) c.in-Some.kept.now c.empty.new.self emptied_place
    c.in-Some.ensures.value c.empty.ensures ((c.get_mut.follows.holds c.empty.new.self).3 (search rules))

pub returns-in-None-clause-there : goal.returns-in-None-clause-there
returns-in-None-clause-there c =
    let found = get_found c.args.files.now c.args.name.now None c.in-None.ensures.value in
    rw found (search rules)

pub returns-in-None-clause-after : goal.returns-in-None-clause-after
returns-in-None-clause-after c =
    changed_missing c.args.files.now c.args.name.now c.get_mut.follows.lender-at-none emptied_place c.in-None.ensures.value c.get_mut.follows.holds-at-none

pub returns-in-Some-clause-held : goal.returns-in-Some-clause-held
returns-in-Some-clause-held c = λ _.
    let old = places_of c.args.files.now in
    let name = c.args.name.now in
    subst (λ places. Changes (held_in old) (held_in places) name (emptied (held_in old name)))
    (sym (returns-in-Some-clause-after c))
    (emptied_held old name c.in-Some.kept.now (get_found c.args.files.now name (Some c.in-Some.kept.now) c.in-Some.ensures.value))

pub returns-in-Some-clause-capacity : goal.returns-in-Some-clause-capacity
returns-in-Some-clause-capacity c = ap capacity_in (returns-in-Some-clause-after c) ∙ emptied_capacity (places_of c.args.files.now) c.args.name.now
