use Rattle.std.proofs.Common.{List, length, refl, sym, ap, ◌∙◌, subst}
use Rattle.std.proofs.lemmas.Result.{err_from_is_err_and}
use Rattle.pl_inputs.specs.declared.capture.Capture.{Capture}
use Rattle.pl_inputs.specs.Loaded.{inputs_of}
use Rattle.pl_playing.specs.Networks.{on_fabric}
use Rattle.pl_playing.specs.Outcomes.{Comes, fits_of, texts_of}
use Rattle.pl_shelf.specs.Held.{ShelfMoment}
use Rattle.pl_playing.specs.Plays.{IsPlayedTo, answer_of, played_over}
use Rattle.pl_playing.proofs.Playing.{saved_comes}
use Rattle.pl_playing.proofs.Stopped.{unplayed_comes}
use Rattle.pl_playing.specs.Prepared.{NamesNoFault}
use Rattle.pl_playing.proofs.Preparing.{room_for_run, unplayed_names_none}
use Rattle.pl_playing.proofs.saving.play_and_save.Goals as goal

pub is_settled-settled-requires : goal.is_settled-settled-requires
is_settled-settled-requires g c = c.in_ok-fabric.ensures.ok.over.counted

pub save_played-requires-clause-savable : goal.save_played-requires-clause-savable
save_played-requires-clause-savable g c = c.in_ok-fabric.ensures.ok.savable

pub save_played-requires-clause-many : goal.save_played-requires-clause-many
save_played-requires-clause-many g c = ap (λ (cs : List Capture). length cs) c.deref.ensures.value ∙ c.in_ok-fabric.ensures.ok.many

pub returns-in_err-fabric-clause-comes : goal.returns-in_err-fabric-clause-comes
returns-in_err-fabric-clause-comes g c =
    let D = g.D.Shelf in
    let old : ShelfMoment = D.moment c.args.shelf.now in
    let i = inputs_of c.args.inputs in
    let play = on_fabric g.S.SwitchLogic.rule g.M.ManagerLogic.rule g.H.HostLogic.rule in
    let p = err_from_is_err_and c.from_residual.result c.from_residual.ensures.1 in
    subst (λ r. Comes play old old i (fits_of play i) (texts_of play c.args.out.now i) (answer_of r)) (sym p.1)
    (subst (λ e. Comes play old old i (fits_of play i) (texts_of play c.args.out.now i) e) (sym p.2)
    (unplayed_comes play old old (record { same = λ q. refl; reads = refl; writes = refl }) i (fits_of play i) (texts_of play c.args.out.now i) _ c.in_err-fabric.ensures.err))

pub returns-clause-comes : goal.returns-clause-comes
returns-clause-comes g c =
    let D = g.D.Shelf in
    let old : ShelfMoment = D.moment c.args.shelf.now in
    let new : ShelfMoment = D.moment c.save_played.new.shelf in
    let i = inputs_of c.args.inputs in
    let play = on_fabric g.S.SwitchLogic.rule g.M.ManagerLogic.rule g.H.HostLogic.rule in
    let p = played_over c.in_ok-fabric.fabric c.deref.result.now in
    let to : IsPlayedTo play i p = subst (λ (cs : List Capture). IsPlayedTo play i (played_over c.in_ok-fabric.fabric cs)) (sym c.deref.ensures.value) c.in_ok-fabric.ensures.ok in
    saved_comes play old new i p to c.is_settled-settled.result c.is_settled-settled.ensures c.args.out.now (answer_of c.save_played.result)
    c.save_played.ensures.fits c.save_played.ensures.ends

pub returns-in_err-fabric-clause-prepared : goal.returns-in_err-fabric-clause-prepared
returns-in_err-fabric-clause-prepared g c room =
    let p = err_from_is_err_and c.from_residual.result c.from_residual.ensures.1 in
    subst (λ r. NamesNoFault (answer_of r)) (sym p.1)
    (subst (λ e. NamesNoFault e) (sym p.2) (unplayed_names_none (on_fabric g.S.SwitchLogic.rule g.M.ManagerLogic.rule g.H.HostLogic.rule).leads (inputs_of c.args.inputs) _ c.in_err-fabric.ensures.err))

pub returns-clause-prepared : goal.returns-clause-prepared
returns-clause-prepared g c room =
    let D = g.D.Shelf in
    let i = inputs_of c.args.inputs in
    let play = on_fabric g.S.SwitchLogic.rule g.M.ManagerLogic.rule g.H.HostLogic.rule in
    let p = played_over c.in_ok-fabric.fabric c.deref.result.now in
    let to : IsPlayedTo play i p = subst (λ (cs : List Capture). IsPlayedTo play i (played_over c.in_ok-fabric.fabric cs)) (sym c.deref.ensures.value) c.in_ok-fabric.ensures.ok in
    c.save_played.ensures.prepared
    (room_for_run play (D.capacity c.args.shelf.now) (D.moment c.args.shelf.now).held i p to c.is_settled-settled.result c.is_settled-settled.ensures c.args.out.now room)
