use Rattle.std.proofs.Common.{◌∙◌, ap, refl}
use Rattle.pl_wiring.specs.Labels.{IsLabel, label_of}
use Rattle.pl_wiring.proofs.LabelOrder.{label_of-number_of}
use Rattle.pl_wiring.proofs.wiring.Wiring.switch_of.Goals as goal

pub returns-then-is_label-clause-inverse : goal.returns-then-is_label-clause-inverse
returns-then-is_label-clause-inverse c =
    let in_range : IsLabel c.self.inside.k c.args.label = c.if-is_label.ensures.0 refl in
    rw (← c.self.view_is) (ap (λ n. label_of c.self.inside.k n) c.switch_at.ensures ∙ label_of-number_of c.self.inside.k c.args.label in_range)
