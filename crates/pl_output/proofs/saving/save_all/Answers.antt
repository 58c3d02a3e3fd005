use Rattle.std.proofs.lemmas.Result.{on_err_weaker, on_ok_weaker}
use Rattle.pl_output.proofs.Names.{all_saved, one_broken, texts_room}
use Rattle.pl_output.proofs.Turns.{if_err_weaker}
use Rattle.pl_output.proofs.saving.save_all.Goals as goal

pub returns-clause-ok : goal.returns-clause-ok
returns-clause-ok g c out are =
    on_ok_weaker c.save_in_turn.result
    (all_saved (g.S.Shelf.moment c.args.shelf.now).held _ out c.args.wiring.now c.args.journal.now c.args.texts c.hosts-hosts.ensures.plan are)
    c.save_in_turn.ensures.ok

pub returns-clause-err : goal.returns-clause-err
returns-clause-err g c out are =
    if_err_weaker c.save_in_turn.result
    (λ name. one_broken (g.S.Shelf.moment c.args.shelf.now).held _ out name c.args.wiring.now c.args.journal.now c.args.texts c.hosts-hosts.ensures.plan are)
    c.save_in_turn.ensures.err

pub returns-clause-unfit : goal.returns-clause-unfit
returns-clause-unfit g c out are =
    on_err_weaker c.save_in_turn.result
    (λ unfit room. unfit (texts_room (g.S.Shelf.capacity c.args.shelf.now) (g.S.Shelf.moment c.args.shelf.now).held out c.args.wiring.now c.args.journal.now c.args.texts
    c.hosts-hosts.ensures.plan are room))
    c.save_in_turn.ensures.unfit
