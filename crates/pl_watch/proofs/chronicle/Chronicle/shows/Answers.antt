use Rattle.std.proofs.Common.{ap, sym, ◌∙◌}
use Rattle.pl_watch.specs.Seen.{Kept}
use Rattle.pl_watch.proofs.Looking.{look_is}
use Rattle.pl_watch.proofs.chronicle.Chronicle.shows.Goals as goal

pub returns : goal.returns
returns g c = λ yes.
    sym (ap (λ (k : Kept). k.look) c.self.view_is) ∙ look_is c.self.inside.look c.args.look.now (sym c.is_same_look.ensures ∙ yes)
