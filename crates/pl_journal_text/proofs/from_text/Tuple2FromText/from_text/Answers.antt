use Rattle.std.proofs.Common.{subst}
use Rattle.pl_journal_text.specs.Reading.{Reads}
use Rattle.pl_journal_text.proofs.Cuts.{no_blank, no_first, no_second}
use Rattle.pl_journal_text.proofs.from_text.Tuple2FromText.from_text.Goals as goal

pub returns-in_default : goal.returns-in_default
returns-in_default g c =
    let w = c.args.wiring.now in
    no_blank (g.A.FromText.spelling w) (g.B.FromText.spelling w) (g.A.FromText.fits w) (g.B.FromText.fits w) c.args.text.now c.in_default.ensures.none

pub returns-in_default-2 : goal.returns-in_default-2
returns-in_default-2 g c =
    let w = c.args.wiring.now in
    no_first (g.A.FromText.spelling w) (g.B.FromText.spelling w) (g.A.FromText.fits w) (g.B.FromText.fits w) c.args.text.now _ _ c.in-Some.ensures.found
    (g.met.A.Word.blankless w c.k-k.ensures.plan)
    (subst (Reads (g.A.FromText.spelling w) (g.A.FromText.fits w) c.in-Some.first.now) c.in_default-2.is c.in_ok-a.ensures)

pub returns-in_default-3 : goal.returns-in_default-3
returns-in_default-3 g c =
    let w = c.args.wiring.now in
    no_second (g.A.FromText.spelling w) (g.B.FromText.spelling w) (g.A.FromText.fits w) (g.B.FromText.fits w) c.args.text.now _ _ c.in-Some.ensures.found
    (g.met.A.Word.blankless w c.k-k.ensures.plan)
    (subst (Reads (g.B.FromText.spelling w) (g.B.FromText.fits w) c.in-Some.rest.now) c.in_default-3.is c.in_ok-b.ensures)
