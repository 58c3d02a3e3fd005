use Rattle.std.proofs.Common.{◌∙◌, ◌++◌, ◌∷◌, [], ap, cond, not, sym}
use Rattle.pl_faults.proofs.missed_edges.Missed.add.Goals as goal

pub returns : goal.returns
returns c =
    c.in_ok-push.ensures.items ∙ ap (λ es. es ++ c.args.edge ∷ []) c.self.view_is
    ∙ ap (λ b. cond (not b) (c.args.self.now ++ c.args.edge ∷ []) c.args.self.now) (sym c.if-leads.false)
