use Rattle.std.proofs.Common.{◌≡◌, ◌∙◌, All, ap, subst, sym, string_bytes}
use Rattle.pl_journal.specs.Ranges.{Fits}
use Rattle.pl_output.specs.Receipts.{saved_texts}
use Rattle.pl_output.specs.Saved.{AreSaved, BreaksOff}
use Rattle.pl_output.specs.Texts.{AreTexts}
use Rattle.pl_world.specs.Worlds.{WorldView}
use Rattle.pl_output.specs.Room.{HaveRoom}
use Rattle.pl_shelf.specs.Held.{ShelfMoment}
use Rattle.pl_playing.proofs.Playing.{of_lent}
use Rattle.pl_playing.proofs.saving.save_played.Goals as goal

pub returns-in-Ok-clause-ends : goal.returns-in-Ok-clause-ends
returns-in-Ok-clause-ends g c =
    let D = g.D.Shelf in
    let old : ShelfMoment = D.moment c.args.shelf.now in
    let new : ShelfMoment = D.moment c.save_all.new.shelf in
    let world : WorldView = c.args.network.now.world in
    let out = c.args.out.now in
    let texts = c.in_ok-texts.texts in
    let plan : c.wiring.result.now ≡ world.plan = c.wiring.ensures ∙ ap (λ (w : WorldView). w.plan) c.world-world.ensures in
    let journal : c.journal.result.now ≡ world.journal = c.journal.ensures ∙ ap (λ (w : WorldView). w.journal) c.world-world.ensures in
    let are = of_lent (λ p j. AreTexts out p j texts) c.wiring.result.now world.plan c.journal.result.now world.journal (sym plan) (sym journal) c.in_ok-texts.ensures.are in
    record {
      saved = subst (λ t. AreSaved old.held new.held (saved_texts out world.plan world.journal t)) c.in_ok-texts.ensures.summary
          (of_lent (λ p j. AreSaved old.held new.held (saved_texts out p j (string_bytes texts.summary))) world.plan c.wiring.result.now world.journal c.journal.result.now
          plan journal (c.in-Ok.ensures.ok out are));
      reads = c.in-Ok.ensures.faults.other;
      writes = c.in-Ok.ensures.faults.ok;
    }

pub returns-in-Err-clause-ends : goal.returns-in-Err-clause-ends
returns-in-Err-clause-ends g c =
    let D = g.D.Shelf in
    let old : ShelfMoment = D.moment c.args.shelf.now in
    let new : ShelfMoment = D.moment c.save_all.new.shelf in
    let world : WorldView = c.args.network.now.world in
    let out = c.args.out.now in
    let texts = c.in_ok-texts.texts in
    let plan : c.wiring.result.now ≡ world.plan = c.wiring.ensures ∙ ap (λ (w : WorldView). w.plan) c.world-world.ensures in
    let journal : c.journal.result.now ≡ world.journal = c.journal.ensures ∙ ap (λ (w : WorldView). w.journal) c.world-world.ensures in
    let are = of_lent (λ p j. AreTexts out p j texts) c.wiring.result.now world.plan c.journal.result.now world.journal (sym plan) (sym journal) c.in_ok-texts.ensures.are in
    record {
      saved = subst (λ t. BreaksOff old.held new.held (saved_texts out world.plan world.journal t) c.in-Err.name) c.in_ok-texts.ensures.summary
          (of_lent (λ p j. BreaksOff old.held new.held (saved_texts out p j (string_bytes texts.summary)) c.in-Err.name) world.plan c.wiring.result.now world.journal
          c.journal.result.now plan journal (c.in-Err.ensures.err out are));
      reads = c.in-Err.ensures.faults.other;
      grows = c.in-Err.ensures.faults.grows;
      rose = c.in-Err.ensures.faults.err;
    }

pub returns-in-Err-clause-prepared : goal.returns-in-Err-clause-prepared
returns-in-Err-clause-prepared g c room =
    let D = g.D.Shelf in
    let capacity = D.capacity c.args.shelf.now in
    let held = (D.moment c.args.shelf.now).held in
    let world : WorldView = c.args.network.now.world in
    let out = c.args.out.now in
    let texts = c.in_ok-texts.texts in
    let plan : c.wiring.result.now ≡ world.plan = c.wiring.ensures ∙ ap (λ (w : WorldView). w.plan) c.world-world.ensures in
    let journal : c.journal.result.now ≡ world.journal = c.journal.ensures ∙ ap (λ (w : WorldView). w.journal) c.world-world.ensures in
    let are = of_lent (λ p j. AreTexts out p j texts) c.wiring.result.now world.plan c.journal.result.now world.journal (sym plan) (sym journal) c.in_ok-texts.ensures.are in
    c.in-Err.ensures.unfit out are
    (of_lent (λ p j. HaveRoom capacity held (saved_texts out p j (string_bytes texts.summary))) c.wiring.result.now world.plan c.journal.result.now world.journal
    (sym plan) (sym journal)
    (subst (λ t. HaveRoom capacity held (saved_texts out world.plan world.journal t)) (sym c.in_ok-texts.ensures.summary) room))

pub returns-in-Ok-clause-fits : goal.returns-in-Ok-clause-fits
returns-in-Ok-clause-fits g c done =
    let journal : c.journal.result.now ≡ c.args.network.now.world.journal = c.journal.ensures ∙ ap (λ (w : WorldView). w.journal) c.world-world.ensures in
    subst (All Fits) journal c.in-Ok.ensures.fits
