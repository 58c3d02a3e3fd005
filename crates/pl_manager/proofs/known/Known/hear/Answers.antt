use Rattle.std.proofs.Common.{◌∷◌, [], List, ap, sym, ◌∙◌}
use Rattle.pl_pmac.specs.declared.pmac.Pmac.{Pmac}
use Rattle.pl_manager.specs.Manager.{done_so_far, put}
use Rattle.pl_manager.proofs.Turns.{heard_ok}
use Rattle.pl_manager.proofs.known.Known.hear.Goals as goal

pub returns-clause-heard : goal.returns-clause-heard
returns-clause-heard c =
    heard_ok c.release_all.result c.args.self.now c.treat.new.self c.release_all.new.self c.args.epoch (record { switch = c.args.switch; word = c.args.word.now } ∷ [])
    c.new-aged.result.items c.deref.result.now c.args.out.now c.treat.new.out c.release_all.new.out c.new-aged.ensures.items
    (λ v first. c.in_ok-treat.ensures.treated v first ∙ ap (λ (xs : List Pmac). done_so_far (put c.treat.new.self v) xs c.treat.new.out) (sym c.deref.ensures.value))
    c.release_all.ensures.released
