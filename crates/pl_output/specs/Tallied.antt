-- Counts that are kept while a journal is read.
use Rattle.std.specs.Prelude.{◌≡◌, ℕ, ◌+◌, ◌<◌, List, length, slice_index, slice_set, Option, Some, None}
use Rattle.pl_journal.specs.declared.entry.Entry.{Entry}
use Rattle.pl_output.specs.declared.summary.tally.Tally.{Tally}
use Rattle.pl_output.specs.declared.summary.totals.Totals.{Totals}
use Rattle.pl_output.specs.Summary.{totals_of, count_of, sender_of, receiver_of, skipper_of, ending_of}

-- the totals of two journals, one behind the other
abbrev pub plus : Totals → Totals → Totals
plus s t = record {
  lines = s.lines + t.lines;
  sent = s.sent + t.sent;
  made = s.made + t.made;
  copied = s.copied + t.copied;
  arrived = s.arrived + t.arrived;
  taken = s.taken + t.taken;
  dropped = s.dropped + t.dropped;
  crossed = s.crossed + t.crossed;
}

-- one more at a number, if there is one
abbrev pub with_one : List ℕ → Option ℕ → List ℕ
with_one counts None = counts
with_one counts (Some n) = slice_set counts n (slice_index counts n + 1)

-- a table of so many counts has at each index how many entries have its number
pub record AreCountsOf (counts : List ℕ) (many : ℕ) (number : Entry → Option ℕ) (journal : List Entry) : Type 0 where
  pub long : length counts ≡ many
  pub exact : (n : ℕ) → n < many → slice_index counts n ≡ count_of number n journal

-- what a tally of so many hosts has counted
pub record IsTallyOf (tally : Tally) (hosts : ℕ) (journal : List Entry) : Type 0 where
  pub totals : tally.totals ≡ totals_of journal
  pub ended : AreCountsOf tally.ended.items 9 ending_of journal
  pub sent : AreCountsOf tally.sent.items hosts sender_of journal
  pub arrived : AreCountsOf tally.arrived.items hosts receiver_of journal
  pub skipped : AreCountsOf tally.skipped.items hosts skipper_of journal
