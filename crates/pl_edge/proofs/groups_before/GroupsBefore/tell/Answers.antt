use Rattle.std.proofs.Common.{◌∙◌, ◌++◌, sym, ap}
use Rattle.std.specs.List.{flat_map}
use Rattle.std.proofs.lemmas.List.{append-nil}
use Rattle.pl_edge.specs.Told.{told_since}
use Rattle.pl_edge.proofs.groups_before.GroupsBefore.tell.Goals as goal

pub returns : goal.returns
returns c =
    sym (append-nil c.loop-group.out)
    ∙ ap (λ groups. c.loop-group.out ++ flat_map (told_since c.args.members.now) groups) (sym c.in-None.ensures.steps.0)
    ∙ c.loop-group.invariant
    ∙ ap (λ groups. c.args.out.now ++ flat_map (told_since c.args.members.now) groups)
    (c.into_iter-group-iterator.ensures.into_iter_gives ∙ c.iter-group-items.ensures.rest ∙ c.self.view_is)
