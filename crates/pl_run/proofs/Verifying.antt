-- What comes of a saved journal that is checked, told of the shelf at first.
use Rattle.std.proofs.Common.{◌≡◌, ◌≤◌, ℕ, List, Option, Err, sym, ◌∙◌, subst, inl, inr}
use Rattle.pl_shelf.specs.Capacity.{IsReadable}
use Rattle.pl_shelf.specs.Faults.{Rose}
use Rattle.pl_shelf.specs.Held.{Held, HoldsExactly, IsLonger, Same, ShelfMoment}
use Rattle.pl_wiring.specs.Plan.{Plan}
use Rattle.pl_inputs.specs.declared.status.Status.{Status}
use Rattle.pl_inputs.specs.Inputs.{IsLoaded, journal_limit}
use Rattle.pl_inputs.specs.Loads.{IsUnloaded, IsUnpromised, Reads}
use Rattle.pl_output.specs.Saved.{Saving}
use Rattle.pl_inputs.specs.declared.status.Status.TheVariants as status
use Rattle.pl_playing.specs.Outcomes.{EndsSaving, ReadFails}
use Rattle.pl_playing.specs.Prepared.{NamesNoFault}
use Rattle.pl_run.specs.Prepared.{HasRoomForLegal, IsPreparedJournal}
use Rattle.pl_run.specs.Verified.{AnswersJournal, EndsVerify, IsFaulty, IsNotRead, told_of}
use Rattle.pl_run.proofs.Ending.{IsSameMoment, fails_since, saves_since, untouched_since}
use Rattle.pl_run.proofs.Preparing.{have_room_since, readable_since}

-- a text that is printed
saving_since : (old mid new : ShelfMoment) → IsSameMoment old mid → (savings : List Saving) (e : Status) → EndsSaving mid new savings e →
    EndsSaving old new savings e
saving_since old mid new is savings status.Done c = saves_since old mid new is savings c
saving_since old mid new is savings (status.WriteFault name) c = fails_since old mid new is savings name c
saving_since old mid new is savings status.OutOfMemory c = untouched_since old mid new is c
saving_since old mid new is savings status.Usage c = absurd c
saving_since old mid new is savings (status.ReadFault name) c = absurd c
saving_since old mid new is savings (status.BadTopology reason) c = absurd c
saving_since old mid new is savings (status.BadScript line reason) c = absurd c
saving_since old mid new is savings (status.BadCapture host e at) c = absurd c
saving_since old mid new is savings (status.ExpectFailed line) c = absurd c
saving_since old mid new is savings (status.Refused line reason) c = absurd c
saving_since old mid new is savings (status.TooLong name) c = absurd c
saving_since old mid new is savings (status.StepsSpent line) c = absurd c
saving_since old mid new is savings (status.JournalFull line) c = absurd c
saving_since old mid new is savings (status.NotLegal entry) c = absurd c
saving_since old mid new is savings (status.BadJournal line) c = absurd c
saving_since old mid new is savings (status.BadSection host e) c = absurd c

ends_since : (old mid new : ShelfMoment) → IsSameMoment old mid → (plan : Plan) (text : List ℕ) (e : Status) → EndsVerify mid new plan text e →
    EndsVerify old new plan text e
ends_since old mid new is plan text e (inl c) = inl (c.0, c.1, saving_since old mid new is (told_of c.0) e c.2)
ends_since old mid new is plan text e (inr c) = inr (c.0, untouched_since old mid new is c.1)

unloaded_since : (old mid : List ℕ → Held) → Same old mid → (name : List ℕ) (limit : ℕ) (e : Status) → IsUnloaded mid name limit e → IsUnloaded old name limit e
unloaded_since old mid same name limit (status.TooLong other) u = (u.0, subst (λ h. IsLonger h limit) (same name) u.1)
unloaded_since old mid same name limit (status.ReadFault other) u = u
unloaded_since old mid same name limit status.OutOfMemory u = u
unloaded_since old mid same name limit status.Done u = absurd u
unloaded_since old mid same name limit status.Usage u = absurd u
unloaded_since old mid same name limit (status.BadTopology reason) u = absurd u
unloaded_since old mid same name limit (status.BadScript line reason) u = absurd u
unloaded_since old mid same name limit (status.BadCapture host e at) u = absurd u
unloaded_since old mid same name limit (status.WriteFault other) u = absurd u
unloaded_since old mid same name limit (status.ExpectFailed line) u = absurd u
unloaded_since old mid same name limit (status.Refused line reason) u = absurd u
unloaded_since old mid same name limit (status.StepsSpent line) u = absurd u
unloaded_since old mid same name limit (status.JournalFull line) u = absurd u
unloaded_since old mid same name limit (status.NotLegal entry) u = absurd u
unloaded_since old mid same name limit (status.BadJournal line) u = absurd u
unloaded_since old mid same name limit (status.BadSection host e) u = absurd u

loaded_since : (old mid : List ℕ → Held) → Same old mid → (name : List ℕ) (limit : ℕ) (text : List ℕ) → IsLoaded mid name limit text → IsLoaded old name limit text
loaded_since old mid same name limit text loaded =
    record { whole = subst (λ h. HoldsExactly h text) (same name) loaded.whole; within = loaded.within }

read_since : (old mid new : ShelfMoment) → IsSameMoment old mid → ReadFails mid new → ReadFails old new
read_since old mid new is then = record {
  same = λ q. then.same q ∙ is.same q;
  grows = subst (λ n. n ≤ new.read_faults) is.reads then.grows;
  rose = subst (λ n. Rose n new.read_faults) is.reads then.rose;
  writes = then.writes ∙ is.writes;
}

not_read_since : (old mid new : ShelfMoment) → IsSameMoment old mid → (journal : List ℕ) (e : Status) →
    IsNotRead (IsUnloaded mid.held journal journal_limit) mid new e → IsNotRead (IsUnloaded old.held journal journal_limit) old new e
not_read_since old mid new is journal (status.ReadFault name) a = (unloaded_since old.held mid.held is.same journal journal_limit (status.ReadFault name) a.0, read_since old mid new is a.1)
not_read_since old mid new is journal status.Done a = (unloaded_since old.held mid.held is.same journal journal_limit status.Done a.0, untouched_since old mid new is a.1)
not_read_since old mid new is journal status.Usage a = (unloaded_since old.held mid.held is.same journal journal_limit status.Usage a.0, untouched_since old mid new is a.1)
not_read_since old mid new is journal (status.BadTopology reason) a = (unloaded_since old.held mid.held is.same journal journal_limit (status.BadTopology reason) a.0, untouched_since old mid new is a.1)
not_read_since old mid new is journal (status.BadScript line reason) a = (unloaded_since old.held mid.held is.same journal journal_limit (status.BadScript line reason) a.0, untouched_since old mid new is a.1)
not_read_since old mid new is journal (status.BadCapture host e at) a = (unloaded_since old.held mid.held is.same journal journal_limit (status.BadCapture host e at) a.0, untouched_since old mid new is a.1)
not_read_since old mid new is journal (status.WriteFault name) a = (unloaded_since old.held mid.held is.same journal journal_limit (status.WriteFault name) a.0, untouched_since old mid new is a.1)
not_read_since old mid new is journal (status.ExpectFailed line) a = (unloaded_since old.held mid.held is.same journal journal_limit (status.ExpectFailed line) a.0, untouched_since old mid new is a.1)
not_read_since old mid new is journal (status.Refused line reason) a = (unloaded_since old.held mid.held is.same journal journal_limit (status.Refused line reason) a.0, untouched_since old mid new is a.1)
not_read_since old mid new is journal (status.TooLong name) a = (unloaded_since old.held mid.held is.same journal journal_limit (status.TooLong name) a.0, untouched_since old mid new is a.1)
not_read_since old mid new is journal (status.StepsSpent line) a = (unloaded_since old.held mid.held is.same journal journal_limit (status.StepsSpent line) a.0, untouched_since old mid new is a.1)
not_read_since old mid new is journal (status.JournalFull line) a = (unloaded_since old.held mid.held is.same journal journal_limit (status.JournalFull line) a.0, untouched_since old mid new is a.1)
not_read_since old mid new is journal status.OutOfMemory a = (unloaded_since old.held mid.held is.same journal journal_limit status.OutOfMemory a.0, untouched_since old mid new is a.1)
not_read_since old mid new is journal (status.NotLegal entry) a = (unloaded_since old.held mid.held is.same journal journal_limit (status.NotLegal entry) a.0, untouched_since old mid new is a.1)
not_read_since old mid new is journal (status.BadJournal line) a = (unloaded_since old.held mid.held is.same journal journal_limit (status.BadJournal line) a.0, untouched_since old mid new is a.1)
not_read_since old mid new is journal (status.BadSection host e) a = (unloaded_since old.held mid.held is.same journal journal_limit (status.BadSection host e) a.0, untouched_since old mid new is a.1)

pub journal_since : (old mid new : ShelfMoment) → IsSameMoment old mid → (plan : Plan) (journal : List ℕ) (e : Status) → AnswersJournal mid new plan journal e →
    AnswersJournal old new plan journal e
journal_since old mid new is plan journal e (inl a) = inl (not_read_since old mid new is journal e a)
journal_since old mid new is plan journal e (inr a) =
    inr (a.0, loaded_since old.held mid.held is.same journal journal_limit a.0 a.1, ends_since old mid new is plan a.0 e a.2)

-- a journal that was read
pub heard_since : (old mid new : ShelfMoment) → IsSameMoment old mid → (plan : Plan) (journal text : List ℕ) →
    IsLoaded old.held journal journal_limit text → (e : Status) → EndsVerify mid new plan text e → AnswersJournal old new plan journal e
heard_since old mid new is plan journal text loaded e c = inr (text, loaded, ends_since old mid new is plan text e c)

pub room_for_legal : (before after : List ℕ → Option ℕ) (old new : List ℕ → Held) (plan : Plan) (text : List ℕ) → after ≡ before → Same old new →
    HasRoomForLegal before old plan text → HasRoomForLegal after new plan text
room_for_legal before after old new plan text kept same room =
    λ n is. have_room_since before after old new (told_of n) kept same (room n is)

pub prepared_since : (before after : List ℕ → Option ℕ) (old new : List ℕ → Held) (plan : Plan) (journal : List ℕ) → after ≡ before → Same old new →
    IsPreparedJournal before old plan journal → IsPreparedJournal after new plan journal
prepared_since before after old new plan journal kept same is = record {
  reads = readable_since before after old new journal kept same is.reads;
  prints = λ text loaded. room_for_legal before after old new plan text kept same
      (is.prints text (loaded_since old new same journal journal_limit text loaded));
}

-- a file that was not read
module _ (why : Status → Type 0) (old new : ShelfMoment) (same : Same old.held new.held) (writes : new.write_faults ≡ old.write_faults) where
  pub missed : (T : Type 0) (e : Status) → why e → Reads {T = T} (Err e) old.read_faults new.read_faults → IsNotRead why old new e
  missed T (status.ReadFault name) u reads = (u, record { same = same; grows = reads.0; rose = reads.1; writes = writes })
  missed T status.Done u reads = (u, record { same = same; reads = reads; writes = writes })
  missed T status.Usage u reads = (u, record { same = same; reads = reads; writes = writes })
  missed T (status.BadTopology reason) u reads = (u, record { same = same; reads = reads; writes = writes })
  missed T (status.BadScript line reason) u reads = (u, record { same = same; reads = reads; writes = writes })
  missed T (status.BadCapture host e at) u reads = (u, record { same = same; reads = reads; writes = writes })
  missed T (status.WriteFault name) u reads = (u, record { same = same; reads = reads; writes = writes })
  missed T (status.ExpectFailed line) u reads = (u, record { same = same; reads = reads; writes = writes })
  missed T (status.Refused line reason) u reads = (u, record { same = same; reads = reads; writes = writes })
  missed T (status.TooLong name) u reads = (u, record { same = same; reads = reads; writes = writes })
  missed T (status.StepsSpent line) u reads = (u, record { same = same; reads = reads; writes = writes })
  missed T (status.JournalFull line) u reads = (u, record { same = same; reads = reads; writes = writes })
  missed T status.OutOfMemory u reads = (u, record { same = same; reads = reads; writes = writes })
  missed T (status.NotLegal entry) u reads = (u, record { same = same; reads = reads; writes = writes })
  missed T (status.BadJournal line) u reads = (u, record { same = same; reads = reads; writes = writes })
  missed T (status.BadSection host e) u reads = (u, record { same = same; reads = reads; writes = writes })

-- a journal that was read, and is faulty
pub names_none : (plan : Plan) (text : List ℕ) (e : Status) → IsFaulty plan text e → NamesNoFault e
names_none plan text (status.ReadFault name) u = absurd u
names_none plan text (status.WriteFault name) u = absurd u
names_none plan text status.Done u = tt
names_none plan text status.Usage u = tt
names_none plan text (status.BadTopology reason) u = tt
names_none plan text (status.BadScript line reason) u = tt
names_none plan text (status.BadCapture host e at) u = tt
names_none plan text (status.ExpectFailed line) u = tt
names_none plan text (status.Refused line reason) u = tt
names_none plan text (status.TooLong name) u = tt
names_none plan text (status.StepsSpent line) u = tt
names_none plan text (status.JournalFull line) u = tt
names_none plan text status.OutOfMemory u = tt
names_none plan text (status.NotLegal entry) u = tt
names_none plan text (status.BadJournal line) u = tt
names_none plan text (status.BadSection host e) u = tt

pub unloaded_names_none : (before after : List ℕ → Option ℕ) (old new : List ℕ → Held) (name : List ℕ) (limit : ℕ) → after ≡ before → Same old new →
    IsReadable (before name) (old name) → (e : Status) → IsUnloaded old name limit e → IsUnpromised after new e → NamesNoFault e
unloaded_names_none before after old new name limit kept same is (status.ReadFault other) u none = none (readable_since before after old new other kept same (subst (λ n. IsReadable (before n) (old n)) (sym u) is))
unloaded_names_none before after old new name limit kept same is (status.WriteFault other) u none = absurd u
unloaded_names_none before after old new name limit kept same is status.Done u none = tt
unloaded_names_none before after old new name limit kept same is status.Usage u none = tt
unloaded_names_none before after old new name limit kept same is (status.BadTopology reason) u none = tt
unloaded_names_none before after old new name limit kept same is (status.BadScript line reason) u none = tt
unloaded_names_none before after old new name limit kept same is (status.BadCapture host e at) u none = tt
unloaded_names_none before after old new name limit kept same is (status.ExpectFailed line) u none = tt
unloaded_names_none before after old new name limit kept same is (status.Refused line reason) u none = tt
unloaded_names_none before after old new name limit kept same is (status.TooLong other) u none = tt
unloaded_names_none before after old new name limit kept same is (status.StepsSpent line) u none = tt
unloaded_names_none before after old new name limit kept same is (status.JournalFull line) u none = tt
unloaded_names_none before after old new name limit kept same is status.OutOfMemory u none = tt
unloaded_names_none before after old new name limit kept same is (status.NotLegal entry) u none = tt
unloaded_names_none before after old new name limit kept same is (status.BadJournal line) u none = tt
unloaded_names_none before after old new name limit kept same is (status.BadSection host e) u none = tt
