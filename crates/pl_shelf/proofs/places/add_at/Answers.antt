use Rattle.std.proofs.Common.{◌≡◌, ◌∙◌, ap, sym, subst, min, length, Some, None, [], take, rules, arith}
use Rattle.pl_shelf.specs.Held.{Changes, with_end}
use Rattle.pl_shelf.specs.MemoryShelf.{places_of, capacity_in, held_in, with_change, longer_place}
use Rattle.pl_shelf.proofs.Naming.{room_found, changed_found, changed_missing}
use Rattle.pl_shelf.proofs.Placed.{longer_capacity, longer_held, longer_none}
use Rattle.pl_shelf.proofs.places.add_at.Goals as goal

pub returns-in-Some-clause-number : goal.returns-in-Some-clause-number
returns-in-Some-clause-number c =
    c.take.ensures.number
    ∙ ap (min (min (length c.args.bytes.now) c.args.piece)) (sym (room_found c.args.files.now c.args.name.now (Some c.in-Some.kept.now) c.in-Some.ensures.value))

pub returns-in-Some-clause-after : goal.returns-in-Some-clause-after
returns-in-Some-clause-after c =
    changed_found c.args.files.now c.args.name.now (c.get_mut.follows.lender c.take.new.self) c.in-Some.kept.now c.take.new.self
    (longer_place (take c.take.result c.args.bytes.now))
    c.in-Some.ensures.value c.take.ensures.after ((c.get_mut.follows.holds c.take.new.self).3 (search rules))

pub returns-in-None-clause-number : goal.returns-in-None-clause-number
returns-in-None-clause-number c =
    let none = room_found c.args.files.now c.args.name.now None c.in-None.ensures.value in
    omega (arith, none)

pub returns-in-None-clause-after : goal.returns-in-None-clause-after
returns-in-None-clause-after c =
    changed_missing c.args.files.now c.args.name.now c.get_mut.follows.lender-at-none (longer_place []) c.in-None.ensures.value c.get_mut.follows.holds-at-none

pub returns-in-Some-clause-held : goal.returns-in-Some-clause-held
returns-in-Some-clause-held c =
    let old = places_of c.args.files.now in
    let name = c.args.name.now in
    let n = c.take.result in
    let number = returns-in-Some-clause-number c in
    let more = take n c.args.bytes.now in
    subst (λ places. Changes (held_in old) (held_in places) name (with_end (held_in old name) more))
    (sym (returns-in-Some-clause-after c))
    (longer_held old name more (λ full. let zero : n ≡ 0 = omega (arith, number, full) in ap (λ k. take k c.args.bytes.now) zero))

pub returns-in-Some-clause-none : goal.returns-in-Some-clause-none
returns-in-Some-clause-none c = λ zero.
    returns-in-Some-clause-after c
    ∙ ap (λ k. with_change (places_of c.args.files.now) c.args.name.now (longer_place (take k c.args.bytes.now))) zero
    ∙ longer_none (places_of c.args.files.now) c.args.name.now

pub returns-in-Some-clause-capacity : goal.returns-in-Some-clause-capacity
returns-in-Some-clause-capacity c =
    ap capacity_in (returns-in-Some-clause-after c)
    ∙ longer_capacity (places_of c.args.files.now) c.args.name.now (take c.take.result c.args.bytes.now)
