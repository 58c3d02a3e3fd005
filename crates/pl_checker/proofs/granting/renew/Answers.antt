use Rattle.std.proofs.Common.{◌∷◌, sym, subst}
use Rattle.std.proofs.lemmas.Bool.{both_ways}
use Rattle.pl_journal.specs.declared.entry.Entry.TheVariants.{Granted}
use Rattle.pl_journal.specs.Flights.{is_flying}
use Rattle.pl_past.specs.Kept.{kept}
use Rattle.pl_past_tables.specs.Frames.{KeepsFrames}
use Rattle.pl_checker.proofs.Grants.{granted_flies, granted_frames, none_granted}
use Rattle.pl_checker.proofs.granting.renew.Goals as goal

pub returns-in_default : goal.returns-in_default
returns-in_default c = λ plan text past x h e p run keeps came next addresses.
    none_granted plan text past c.args.frames.now.rows.items x h e p run keeps c.args.just came c.in_default.is

pub returns-in_default-flying : goal.returns-in_default-flying
returns-in_default-flying c = λ plan text past x h e p run keeps came next addresses.
    absurd (both_ways (is_flying past c.in-Some.id) (c.in_default-flying.ensures.none plan text past run keeps)
    (granted_flies plan text past c.args.frames.now.rows.items x h e p run keeps c.args.just came c.in-Some.id c.in-Some.is))

pub returns : goal.returns
returns c = λ plan text past x h e p run keeps came next addresses.
    let found = c.in-Some-flying.ensures.found plan text past run keeps in
    subst (KeepsFrames plan text (Granted x h e p ∷ past)) (sym c.put.ensures)
    (granted_frames plan text past c.args.frames.now.rows.items x h e p run keeps c.args.just came c.in-Some.id c.args.n c.in-Some-flying.row c.granting.result
    c.address_at-source.result c.in-Some.is
    c.in-Some-flying.ensures.place.0 c.in-Some-flying.ensures.place.1 found.1 next (c.address_at-source.ensures (Granted x h e p ∷ past) addresses)
    (c.granting.ensures text (kept plan past c.in-Some.id) found.1))
