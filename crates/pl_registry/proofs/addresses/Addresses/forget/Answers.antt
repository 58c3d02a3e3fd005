use Rattle.std.proofs.Common.{◌∙◌, ap, filter, not, sym}
use Rattle.pl_layouts.specs.Equality.{same_pmac}
use Rattle.pl_node.specs.ManagerViews.{LearntAddress}
use Rattle.pl_registry.proofs.Entries.{each_once, looked_up, taken_out}
use Rattle.pl_registry.proofs.Finding.{Table, found_left, is_forgotten}
use Rattle.pl_registry.proofs.addresses.Addresses.forget.Goals as goal

pub invariant_of-self : goal.invariant_of-self
invariant_of-self c =
    let known : Table = c.self.inside.known.entries in
    found_left known c.shift_remove-known.new.self.entries c.self.inside.newest.entries c.leave_newest.new.newest.entries c.args.pmac c.shift_remove-known.result
    c.self.invariant (sym (c.shift_remove-known.ensures.value ∙ looked_up c.args.pmac known)) (c.shift_remove-known.ensures.entries ∙ taken_out c.args.pmac known)
    (each_once c.shift_remove-known.new.self.entries c.shift_remove-known.ensures.unique) c.leave_newest.ensures

pub returns : goal.returns
returns c =
    let known : Table = c.self.inside.known.entries in
    is_forgotten known c.shift_remove-known.new.self.entries c.args.pmac c.self.invariant.once (c.shift_remove-known.ensures.entries ∙ taken_out c.args.pmac known)
    ∙ ap (filter (λ (a : LearntAddress). not (same_pmac a.pmac c.args.pmac))) c.self.view_is
