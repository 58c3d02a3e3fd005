use Rattle.std.proofs.Common.{◌∙◌, ap, sym}
use Rattle.std.specs.List.{filter}
use Rattle.pl_layouts.specs.declared.place.Place.{Place}
use Rattle.pl_node.specs.AvoidLists.{is_level_above}
use Rattle.pl_node.specs.ManagerViews.{place_of}
use Rattle.pl_faults.proofs.sharing.is_beside.Goals as goal

pub returns-clause-level : goal.returns-clause-level
returns-clause-level c h =
    ap (λ (p : Place). p.level) (sym c.place_of.ensures) ∙ c.is_same_level.ensures c.if-not-is_same_level.false
    ∙ ap (λ (p : Place). p.level) c.place_of-level.ensures

pub returns-clause-above : goal.returns-clause-above
returns-clause-above c h =
    let told = c.args.reports.now in
    (λ i. filter (λ u. is_level_above (sym c.place_of-level.ensures i).level (place_of told u).level) (sym c.neighbours.ensures i))
    ∙ c.are_alike.ensures h
    ∙ (λ i. filter (λ u. is_level_above (c.place_of-level.ensures i).level (place_of told u).level) (c.neighbours-2.ensures i))
