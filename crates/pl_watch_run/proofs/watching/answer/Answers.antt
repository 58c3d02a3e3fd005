use Rattle.std.proofs.Common.{Option, option_map, refl, sym, ap, ◌∙◌, subst}
use Rattle.pl_inputs.specs.declared.status.Status.TheVariants as status
use Rattle.pl_watch_run.specs.Answers.{AnswersWords}
use Rattle.pl_watch_run.specs.Words.{Watching, watching}
use Rattle.pl_watch_run.proofs.Ending.{if_ok}
use Rattle.pl_watch_run.proofs.watching.answer.Goals as goal

pub returns-in-Some : goal.returns-in-Some
returns-in-Some g c =
    let asks = sym (ap (option_map watching) c.in-Some.is) ∙ c.in_ok-asked.ensures in
    if_ok c.show.result _ _
    (λ ended answers. subst (λ (asked : Option Watching). AnswersWords (g.D.Shelf.moment c.args.shelf) (g.D.Shelf.moment ended.0) asked ended.1) asks answers)
    c.show.ensures

pub returns-in-None : goal.returns-in-None
returns-in-None g c =
    let asks = sym (ap (option_map watching) c.in-None.is) ∙ c.in_ok-asked.ensures in
    subst (λ (asked : Option Watching). AnswersWords (g.D.Shelf.moment c.args.shelf) (g.D.Shelf.moment c.args.shelf) asked status.Usage) asks
    (refl, record { same = λ q. refl; reads = refl; writes = refl })
