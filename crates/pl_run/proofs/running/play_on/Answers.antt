use Rattle.std.proofs.Common.{sym, subst}
use Rattle.pl_inputs.specs.declared.words.Network.{Network}
use Rattle.pl_inputs.specs.Loaded.{inputs_of}
use Rattle.pl_playing.specs.Plays.{answer_of}
use Rattle.pl_run.specs.Fabric.{Comes, HasRoomFor, fits_of, texts_of}
use Rattle.pl_run.proofs.running.play_on.Goals as goal

pub returns-in-Fabric-clause-comes : goal.returns-in-Fabric-clause-comes
returns-in-Fabric-clause-comes g c =
    let S = g.S.Shelf in
    let i = inputs_of c.args.inputs in
    subst (λ (n : Network). Comes n (S.moment c.args.shelf.now) (S.moment c.play_and_save.new.shelf) i (fits_of n i) (texts_of n c.args.out.now i) (answer_of c.play_and_save.result))
    (sym c.in-Fabric.is) c.play_and_save.ensures.comes

pub returns-in-Fabric-clause-prepared : goal.returns-in-Fabric-clause-prepared
returns-in-Fabric-clause-prepared g c room =
    let S = g.S.Shelf in
    let i = inputs_of c.args.inputs in
    c.play_and_save.ensures.prepared
    (subst (λ (n : Network). HasRoomFor n (S.capacity c.args.shelf.now) (S.moment c.args.shelf.now).held i (texts_of n c.args.out.now i)) c.in-Fabric.is room)

pub returns-in-Bridges-clause-comes : goal.returns-in-Bridges-clause-comes
returns-in-Bridges-clause-comes g c =
    let S = g.S.Shelf in
    let i = inputs_of c.args.inputs in
    subst (λ (n : Network). Comes n (S.moment c.args.shelf.now) (S.moment c.bridge_and_save.new.shelf) i (fits_of n i) (texts_of n c.args.out.now i) (answer_of c.bridge_and_save.result))
    (sym c.in-Bridges.is) c.bridge_and_save.ensures.comes

pub returns-in-Bridges-clause-prepared : goal.returns-in-Bridges-clause-prepared
returns-in-Bridges-clause-prepared g c room =
    let S = g.S.Shelf in
    let i = inputs_of c.args.inputs in
    c.bridge_and_save.ensures.prepared
    (subst (λ (n : Network). HasRoomFor n (S.capacity c.args.shelf.now) (S.moment c.args.shelf.now).held i (texts_of n c.args.out.now i)) c.in-Bridges.is room)
