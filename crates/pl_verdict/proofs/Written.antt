-- The journal of a run is one whose text is read back.
use Rattle.std.proofs.Common.{All, List, [], ◌∷◌, length, refl}
use Rattle.std.specs.List.{AllByRecursion}
use Rattle.std.proofs.lemmas.List.Elements.{All-from_recursion, recursion_from_All}
use Rattle.pl_wiring.specs.Plan.{Plan}
use Rattle.pl_journal.specs.declared.entry.Entry.{Entry}
use Rattle.pl_journal.specs.declared.entry.Entry.TheVariants.{Line, Sent, Skipped, Made, Crossed, Redirected, Copied, Arrived, Taken, Dropped, Granted, Registered, Freed, Placed, LinkDown, LinkUp, Moved, Restarted, Settled, Unsettled}
use Rattle.pl_journal.specs.Lossy.{GoodTrail, Run}
use Rattle.pl_journal.specs.Ranges.{Fits}
use Rattle.pl_journal.specs.Savable.{IsSavable}
use Rattle.pl_journal.specs.Text.{journal_text}
use Rattle.pl_journal_text.specs.Writable.{IsWritable}
use Rattle.pl_verdict.specs.Verdicts.{AllFollow, Follows, IsLegal}
use Rattle.pl_verdict.proofs.Following.{legal_is_run}

-- an entry of a run that can be saved and is one of its types: its links are in order by the run
writable : (plan : Plan) (past : List Entry) (e : Entry) → Follows plan past e → IsSavable plan e → Fits e → IsWritable plan e
writable plan past (Line n) follows is fits = fits
writable plan past (Sent id h frame) follows is fits = (fits.0, (is.named, (is.carried.low, is.carried.high, fits.1)))
writable plan past (Skipped h skip) follows is fits = is.named
writable plan past (Made id s frame) follows is fits = (fits.0, (is.named, (is.carried.low, is.carried.high, fits.1)))
writable plan past (Crossed id s) follows is fits = (fits, is.named)
writable plan past (Redirected id old new) follows is fits = fits
writable plan past (Copied id new) follows is fits = fits
writable plan past (Arrived id h frame) follows is fits = (fits.0, (is.named, (is.carried.low, is.carried.high, fits.1)))
writable plan past (Taken id s) follows is fits = (fits, is.named)
writable plan past (Dropped id cause) follows is fits = fits
writable plan past (Granted x h s port) follows is fits = (fits.0, (is.named.0, (is.named.1, fits.1)))
writable plan past (Registered x n) follows is fits = fits
writable plan past (Freed x) follows is fits = fits
writable plan past (Placed s place) follows is fits = (is.named, fits)
writable plan past (LinkDown a b) follows is fits = (is.named.0, is.named.1, follows.0.ordered)
writable plan past (LinkUp a b) follows is fits = (is.named.0, is.named.1, follows.0.ordered)
writable plan past (Moved h s port) follows is fits = (is.named.0, (is.named.1, fits))
writable plan past (Restarted n) follows is fits = fits
writable plan past (Settled n) follows is fits = fits
writable plan past (Unsettled n) follows is fits = fits

all_writable : (plan : Plan) (past entries : List Entry) → AllFollow plan past entries → AllByRecursion (IsSavable plan) entries → AllByRecursion Fits entries →
    AllByRecursion (IsWritable plan) entries
all_writable plan past [] follow savable fits = tt
all_writable plan past (e ∷ entries) follow savable fits =
    (writable plan past e follow.0 savable.0 fits.0, all_writable plan (e ∷ past) entries follow.1 savable.1 fits.1)

pub saved_is_legal : (plan : Plan) (journal : List Entry) → Run plan journal → GoodTrail plan journal → All (IsSavable plan) journal → All Fits journal →
    IsLegal plan (journal_text plan journal) (length journal)
saved_is_legal plan journal run good savable fits =
    let all = all_writable plan [] journal ((legal_is_run plan journal).1 (run, good)) (recursion_from_All (IsSavable plan) journal savable)
    (recursion_from_All Fits journal fits) in
    record {
      journal = journal;
      written = record { writable = All-from_recursion (IsWritable plan) journal all; written = refl };
      many = refl;
      run = run;
      good = good;
    }
