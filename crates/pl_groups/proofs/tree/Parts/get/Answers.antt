use Rattle.std.proofs.Common.{◌∙◌, ap, subst, sym}
use Rattle.std.specs.Prelude.{slice_get}
use Rattle.std.specs.List.{list_any}
use Rattle.std.specs.List.Sorted.{IsStrictlySortedBy}
use Rattle.std.specs.Option.{option_and_then}
use Rattle.pl_layouts.specs.Equality.{same_switch}
use Rattle.pl_node.specs.ManagerViews.{id_cmp}
use Rattle.pl_groups.proofs.Beside.{beside_at, beside_none}
use Rattle.pl_groups.proofs.tree.Parts.get.Goals as goal

pub position-requires : goal.position-requires
position-requires c = subst (IsStrictlySortedBy id_cmp) (sym c.as_slice-switches.ensures.items) c.as_slice-switches.ensures.rising

pub returns-in-Some : goal.returns-in-Some
returns-in-Some c =
    let tree = c.args.self.now in let at = c.in-Some.at in
    c.part_at.ensures ∙ ap (λ ps. option_and_then (λ part. part) (slice_get ps at)) c.as_slice-parts.ensures.value
    ∙ sym (beside_at tree.switches tree.parts.items c.args.switch at c.as_slice-switches.ensures.rising
    (ap (λ xs. slice_get xs at) (sym c.as_slice-switches.ensures.items) ∙ c.in-Some.ensures.some))

pub returns-in-None : goal.returns-in-None
returns-in-None c =
    let tree = c.args.self.now in
    sym (beside_none tree.switches tree.parts.items c.args.switch
    (ap (list_any (same_switch c.args.switch)) (sym c.as_slice-switches.ensures.items) ∙ c.in-None.ensures.none))
