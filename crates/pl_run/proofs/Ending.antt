-- What comes of inputs that were read, told of the shelf at first.
use Rattle.std.proofs.Common.{◌≡◌, ℕ, ◌≤◌, List, [], ◌∷◌, ◌++◌, take, All, Err, refl, sym, ap, ◌∙◌, subst, inl, inr}
use Rattle.std.proofs.lemmas.List.Elements.{All-weaker}
use Rattle.pl_shelf.specs.Held.{Held, Same, ShelfMoment}
use Rattle.pl_shelf.specs.Faults.{Rose}
use Rattle.pl_wiring.specs.Plan.{Plan}
use Rattle.pl_inputs.specs.declared.status.Status.{Status}
use Rattle.pl_inputs.specs.declared.words.Generation.{Generation}
use Rattle.pl_inputs.specs.declared.words.Network.{Network}
use Rattle.pl_inputs.specs.declared.words.Network.TheVariants.{Fabric}
use Rattle.pl_inputs.specs.Inputs.{AreRead, HasPlan, Inputs}
use Rattle.pl_inputs.specs.Loads.{IsUnplanned, Reads}
use Rattle.pl_inputs.specs.Unread.{IsUnread}
use Rattle.pl_inputs.specs.Words.{Asked}
use Rattle.pl_output.specs.Saved.{AreSaved, BreaksOff, IsBroken, IsSavedWhole, OthersStay, Saving, once_saved}
use Rattle.pl_generator.specs.Generated.{AreGenerated}
use Rattle.pl_inputs.specs.declared.status.Status.TheVariants as status
use Rattle.pl_playing.specs.Outcomes.{IsUntouched, Saves, SavingFails}
use Rattle.pl_playing.proofs.Exports.{no_stop}
use Rattle.pl_run.specs.Answers.{Answers}
use Rattle.pl_run.specs.Checks.{AnswersCheck, EndsCheck, line_of}
use Rattle.pl_run.specs.Generated.{AnswersGenerated, IsUngenerated, ReadsGenerated, generated_files, without_read_fault}
use Rattle.pl_run.specs.Fabric.{Comes, IsPlayed, fits_of, nothing_of, play_on, printed_of, texts_of}

-- a shelf that holds the same, and of which no call failed
pub record IsSameMoment (old new : ShelfMoment) : Type 0 where
  pub same : Same old.held new.held
  pub reads : new.read_faults ≡ old.read_faults
  pub writes : new.write_faults ≡ old.write_faults

whole_since : (old mid new : List ℕ → Held) → Same old mid → (savings : List Saving) → All (IsSavedWhole mid new) savings → All (IsSavedWhole old new) savings
whole_since old mid new same savings are =
    All-weaker (IsSavedWhole mid new) (IsSavedWhole old new) (λ s is. is ∙ ap (λ h. once_saved s.name h s.text) (same s.name)) savings are

others_since : (old mid new : List ℕ → Held) → Same old mid → (savings : List Saving) → OthersStay mid new savings → OthersStay old new savings
others_since old mid new same savings stay q apart = stay q apart ∙ same q

saved_since : (old mid new : List ℕ → Held) → Same old mid → (savings : List Saving) → AreSaved mid new savings → AreSaved old new savings
saved_since old mid new same savings are =
    record { whole = whole_since old mid new same savings are.whole; others = others_since old mid new same savings are.others }

broken_since : (old mid new : List ℕ → Held) → Same old mid → (s : Saving) → IsBroken mid new s → IsBroken old new s
broken_since old mid new same s (inl stays) = inl (stays ∙ same s.name)
broken_since old mid new same s (inr cut) = inr (cut.0, cut.1, cut.2 ∙ ap (λ h. once_saved s.name h (take cut.0 s.text)) (same s.name))

off_since : (old mid new : List ℕ → Held) → Same old mid → (savings : List Saving) (name : List ℕ) → BreaksOff mid new savings name → BreaksOff old new savings name
off_since old mid new same savings name off = record {
  before = off.before;
  broken = off.broken;
  behind = off.behind;
  order = off.order;
  named = off.named;
  whole = whole_since old mid new same off.before off.whole;
  cut = broken_since old mid new same off.broken off.cut;
  others = others_since old mid new same (off.before ++ off.broken ∷ []) off.others;
}

pub untouched_since : (old mid new : ShelfMoment) → IsSameMoment old mid → IsUntouched mid new → IsUntouched old new
untouched_since old mid new is then =
    record { same = λ q. then.same q ∙ is.same q; reads = then.reads ∙ is.reads; writes = then.writes ∙ is.writes }

pub saves_since : (old mid new : ShelfMoment) → IsSameMoment old mid → (savings : List Saving) → Saves mid new savings → Saves old new savings
saves_since old mid new is savings s = record {
  saved = saved_since old.held mid.held new.held is.same savings s.saved;
  reads = s.reads ∙ is.reads;
  writes = s.writes ∙ is.writes;
}

pub fails_since : (old mid new : ShelfMoment) → IsSameMoment old mid → (savings : List Saving) (name : List ℕ) → SavingFails mid new savings name → SavingFails old new savings name
fails_since old mid new is savings name s = record {
  saved = off_since old.held mid.held new.held is.same savings name s.saved;
  reads = s.reads ∙ is.reads;
  grows = subst (λ n. n ≤ new.write_faults) is.writes s.grows;
  rose = subst (λ n. Rose n new.write_faults) is.writes s.rose;
}

pub comes_since : (network : Network) (old mid new : ShelfMoment) → IsSameMoment old mid → (i : Inputs) (known : IsPlayed network i → Type 0)
    (texts : IsPlayed network i → List Saving) (e : Status) → Comes network mid new i known texts e → Comes network old new i known texts e
comes_since network old mid new is i known texts status.Done c = (c.0, saves_since old mid new is (texts c.0) c.1, c.2)
comes_since network old mid new is i known texts (status.WriteFault name) c = (c.0, fails_since old mid new is (texts c.0) name c.1)
comes_since network old mid new is i known texts status.OutOfMemory c = untouched_since old mid new is c
comes_since network old mid new is i known texts status.Usage c = (c.0, untouched_since old mid new is c.1)
comes_since network old mid new is i known texts (status.NotLegal entry) c = (c.0, untouched_since old mid new is c.1)
comes_since network old mid new is i known texts (status.BadJournal line) c = (c.0, untouched_since old mid new is c.1)
comes_since network old mid new is i known texts (status.ReadFault name) c = (c.0, untouched_since old mid new is c.1)
comes_since network old mid new is i known texts (status.TooLong name) c = (c.0, untouched_since old mid new is c.1)
comes_since network old mid new is i known texts (status.BadTopology reason) c = (c.0, untouched_since old mid new is c.1)
comes_since network old mid new is i known texts (status.BadScript line reason) c = (c.0, untouched_since old mid new is c.1)
comes_since network old mid new is i known texts (status.BadCapture host e at) c = (c.0, untouched_since old mid new is c.1)
comes_since network old mid new is i known texts (status.BadSection host e) c = (c.0, untouched_since old mid new is c.1)
comes_since network old mid new is i known texts (status.ExpectFailed line) c = (c.0, untouched_since old mid new is c.1)
comes_since network old mid new is i known texts (status.Refused line reason) c = (c.0, untouched_since old mid new is c.1)
comes_since network old mid new is i known texts (status.StepsSpent line) c = (c.0, untouched_since old mid new is c.1)
comes_since network old mid new is i known texts (status.JournalFull line) c = (c.0, untouched_since old mid new is c.1)

-- a run whose inputs were read
pub run_answers : (old new : ShelfMoment) (asked : Asked) (i : Inputs) → AreRead old.held asked i → (e : Status) → Comes asked.network old new i (fits_of asked.network i) (texts_of asked.network asked.out i) e → Answers old new asked e
run_answers old new asked i read status.Done c = (i, read, c)
run_answers old new asked i read (status.WriteFault name) c = (i, read, c)
run_answers old new asked i read (status.ExpectFailed line) c = (i, read, c)
run_answers old new asked i read (status.Refused line reason) c = (i, read, c)
run_answers old new asked i read (status.StepsSpent line) c = (i, read, c)
run_answers old new asked i read (status.JournalFull line) c = (i, read, c)
run_answers old new asked i read status.OutOfMemory c = (tt, c)
run_answers old new asked i read status.Usage c = absurd (no_stop (play_on asked.network).leads i status.Usage refl c.0)
run_answers old new asked i read (status.NotLegal entry) c = absurd (no_stop (play_on asked.network).leads i (status.NotLegal entry) refl c.0)
run_answers old new asked i read (status.BadJournal line) c = absurd (no_stop (play_on asked.network).leads i (status.BadJournal line) refl c.0)
run_answers old new asked i read (status.ReadFault name) c = absurd (no_stop (play_on asked.network).leads i (status.ReadFault name) refl c.0)
run_answers old new asked i read (status.TooLong name) c = absurd (no_stop (play_on asked.network).leads i (status.TooLong name) refl c.0)
run_answers old new asked i read (status.BadTopology reason) c = absurd (no_stop (play_on asked.network).leads i (status.BadTopology reason) refl c.0)
run_answers old new asked i read (status.BadScript line reason) c = absurd (no_stop (play_on asked.network).leads i (status.BadScript line reason) refl c.0)
run_answers old new asked i read (status.BadCapture host e at) c = absurd (no_stop (play_on asked.network).leads i (status.BadCapture host e at) refl c.0)
run_answers old new asked i read (status.BadSection host e) c = absurd (no_stop (play_on asked.network).leads i (status.BadSection host e) refl c.0)

-- a run whose inputs were not read
pub unread_answers : (old new : ShelfMoment) (asked : Asked) → Same old.held new.held → new.write_faults ≡ old.write_faults → (e : Status) →
    IsUnread old.held asked e → Reads {T = Inputs} (Err e) old.read_faults new.read_faults → Answers old new asked e
unread_answers old new asked same writes (status.ReadFault name) u reads =
    (u, record { same = same; grows = reads.0; rose = reads.1; writes = writes })
unread_answers old new asked same writes (status.TooLong name) u reads = (u, record { same = same; reads = reads; writes = writes })
unread_answers old new asked same writes (status.BadTopology reason) u reads = (u, record { same = same; reads = reads; writes = writes })
unread_answers old new asked same writes (status.BadScript line reason) u reads = (u, record { same = same; reads = reads; writes = writes })
unread_answers old new asked same writes (status.BadCapture host e at) u reads = (u, record { same = same; reads = reads; writes = writes })
unread_answers old new asked same writes (status.BadSection host e) u reads = (u, record { same = same; reads = reads; writes = writes })
unread_answers old new asked same writes status.OutOfMemory u reads = (u, record { same = same; reads = reads; writes = writes })
unread_answers old new asked same writes status.Done u reads = absurd u
unread_answers old new asked same writes status.Usage u reads = absurd u
unread_answers old new asked same writes (status.NotLegal entry) u reads = absurd u
unread_answers old new asked same writes (status.BadJournal line) u reads = absurd u
unread_answers old new asked same writes (status.WriteFault name) u reads = absurd u
unread_answers old new asked same writes (status.ExpectFailed line) u reads = absurd u
unread_answers old new asked same writes (status.Refused line reason) u reads = absurd u
unread_answers old new asked same writes (status.StepsSpent line) u reads = absurd u
unread_answers old new asked same writes (status.JournalFull line) u reads = absurd u

-- a topology that was read
pub check_answers : (old mid new : ShelfMoment) (topology : List ℕ) (plan : Plan) → HasPlan old.held topology plan → IsSameMoment old mid → (e : Status) →
    EndsCheck mid new plan e → AnswersCheck old new topology e
check_answers old mid new topology plan has is status.Done c = (plan, has, saves_since old mid new is (line_of plan) c)
check_answers old mid new topology plan has is (status.WriteFault name) c = (plan, has, fails_since old mid new is (line_of plan) name c)
check_answers old mid new topology plan has is status.OutOfMemory c = (tt, untouched_since old mid new is c)
check_answers old mid new topology plan has is status.Usage c = absurd c
check_answers old mid new topology plan has is (status.NotLegal entry) c = absurd c
check_answers old mid new topology plan has is (status.BadJournal line) c = absurd c
check_answers old mid new topology plan has is (status.ReadFault name) c = absurd c
check_answers old mid new topology plan has is (status.TooLong name) c = absurd c
check_answers old mid new topology plan has is (status.BadTopology reason) c = absurd c
check_answers old mid new topology plan has is (status.BadScript line reason) c = absurd c
check_answers old mid new topology plan has is (status.BadCapture host e at) c = absurd c
check_answers old mid new topology plan has is (status.BadSection host e) c = absurd c
check_answers old mid new topology plan has is (status.ExpectFailed line) c = absurd c
check_answers old mid new topology plan has is (status.Refused line reason) c = absurd c
check_answers old mid new topology plan has is (status.StepsSpent line) c = absurd c
check_answers old mid new topology plan has is (status.JournalFull line) c = absurd c

-- and one that was not
pub unplanned_answers : (old new : ShelfMoment) (topology : List ℕ) → Same old.held new.held → new.write_faults ≡ old.write_faults → (e : Status) →
    IsUnplanned old.held topology e → Reads {T = Plan} (Err e) old.read_faults new.read_faults → AnswersCheck old new topology e
unplanned_answers old new topology same writes (status.ReadFault name) u reads =
    (u, record { same = same; grows = reads.0; rose = reads.1; writes = writes })
unplanned_answers old new topology same writes (status.TooLong name) u reads = (u, record { same = same; reads = reads; writes = writes })
unplanned_answers old new topology same writes (status.BadTopology reason) u reads = (u, record { same = same; reads = reads; writes = writes })
unplanned_answers old new topology same writes status.OutOfMemory u reads = (u, record { same = same; reads = reads; writes = writes })
unplanned_answers old new topology same writes (status.BadScript line reason) u reads = absurd u
unplanned_answers old new topology same writes (status.BadCapture host e at) u reads = absurd u
unplanned_answers old new topology same writes (status.BadSection host e) u reads = absurd u
unplanned_answers old new topology same writes status.Done u reads = absurd u
unplanned_answers old new topology same writes status.Usage u reads = absurd u
unplanned_answers old new topology same writes (status.NotLegal entry) u reads = absurd u
unplanned_answers old new topology same writes (status.BadJournal line) u reads = absurd u
unplanned_answers old new topology same writes (status.WriteFault name) u reads = absurd u
unplanned_answers old new topology same writes (status.ExpectFailed line) u reads = absurd u
unplanned_answers old new topology same writes (status.Refused line reason) u reads = absurd u
unplanned_answers old new topology same writes (status.StepsSpent line) u reads = absurd u
unplanned_answers old new topology same writes (status.JournalFull line) u reads = absurd u

-- generated files that were read
pub generated_answers : (old new : ShelfMoment) (g : Generation) (i : Inputs) → ReadsGenerated g i → (e : Status) → Comes Fabric old new i (nothing_of Fabric i) (printed_of Fabric i) e →
    AnswersGenerated old new g.k g.number g.frames e
generated_answers old new g i read status.Done c = (read.0, read.1, (i, read.2, c))
generated_answers old new g i read (status.WriteFault name) c = (read.0, read.1, (i, read.2, c))
generated_answers old new g i read (status.ExpectFailed line) c = (read.0, read.1, (i, read.2, c))
generated_answers old new g i read (status.Refused line reason) c = (read.0, read.1, (i, read.2, c))
generated_answers old new g i read (status.StepsSpent line) c = (read.0, read.1, (i, read.2, c))
generated_answers old new g i read (status.JournalFull line) c = (read.0, read.1, (i, read.2, c))
generated_answers old new g i read status.OutOfMemory c = c
generated_answers old new g i read status.Usage c = absurd (no_stop (play_on Fabric).leads i status.Usage refl c.0)
generated_answers old new g i read (status.NotLegal entry) c = absurd (no_stop (play_on Fabric).leads i (status.NotLegal entry) refl c.0)
generated_answers old new g i read (status.BadJournal line) c = absurd (no_stop (play_on Fabric).leads i (status.BadJournal line) refl c.0)
generated_answers old new g i read (status.ReadFault name) c = absurd (no_stop (play_on Fabric).leads i (status.ReadFault name) refl c.0)
generated_answers old new g i read (status.TooLong name) c = absurd (no_stop (play_on Fabric).leads i (status.TooLong name) refl c.0)
generated_answers old new g i read (status.BadTopology reason) c = absurd (no_stop (play_on Fabric).leads i (status.BadTopology reason) refl c.0)
generated_answers old new g i read (status.BadScript line reason) c = absurd (no_stop (play_on Fabric).leads i (status.BadScript line reason) refl c.0)
generated_answers old new g i read (status.BadCapture host e at) c = absurd (no_stop (play_on Fabric).leads i (status.BadCapture host e at) refl c.0)
generated_answers old new g i read (status.BadSection host e) c = absurd (no_stop (play_on Fabric).leads i (status.BadSection host e) refl c.0)

-- and those that were not
pub ungenerated_answers : (old new : ShelfMoment) → IsUntouched old new → (g : Generation) (e : Status) → IsUngenerated g e → AnswersGenerated old new g.k g.number g.frames e
ungenerated_answers old new stays g status.OutOfMemory u = stays
ungenerated_answers old new stays g (status.ReadFault name) u = absurd u
ungenerated_answers old new stays g (status.TooLong name) u = (u.0, u.1, (u.2, stays))
ungenerated_answers old new stays g (status.BadTopology reason) u = (u.0, u.1, (u.2, stays))
ungenerated_answers old new stays g (status.BadScript line reason) u = (u.0, u.1, (u.2, stays))
ungenerated_answers old new stays g (status.BadCapture host e at) u = (u.0, u.1, (u.2, stays))
ungenerated_answers old new stays g (status.BadSection host e) u = (u.0, u.1, (u.2, stays))
ungenerated_answers old new stays g status.Usage u = absurd u.2
ungenerated_answers old new stays g (status.NotLegal entry) u = absurd u.2
ungenerated_answers old new stays g (status.BadJournal line) u = absurd u.2
ungenerated_answers old new stays g status.Done u = absurd u.2
ungenerated_answers old new stays g (status.WriteFault name) u = absurd u.2
ungenerated_answers old new stays g (status.ExpectFailed line) u = absurd u.2
ungenerated_answers old new stays g (status.Refused line reason) u = absurd u.2
ungenerated_answers old new stays g (status.StepsSpent line) u = absurd u.2
ungenerated_answers old new stays g (status.JournalFull line) u = absurd u.2

-- why they were not: a failed read is told as want of memory
pub not_generated : (g : Generation) (held : List ℕ → Held) → AreGenerated held g.k g.number g.frames → (e : Status) → IsUnread held generated_files e →
    IsUngenerated g (without_read_fault e)
not_generated g held are status.OutOfMemory u = tt
not_generated g held are (status.ReadFault name) u = tt
not_generated g held are (status.TooLong name) u = (held, are, u)
not_generated g held are (status.BadTopology reason) u = (held, are, u)
not_generated g held are (status.BadScript line reason) u = (held, are, u)
not_generated g held are (status.BadCapture host e at) u = (held, are, u)
not_generated g held are (status.BadSection host e) u = (held, are, u)
not_generated g held are status.Usage u = absurd u
not_generated g held are (status.NotLegal entry) u = absurd u
not_generated g held are (status.BadJournal line) u = absurd u
not_generated g held are status.Done u = absurd u
not_generated g held are (status.WriteFault name) u = absurd u
not_generated g held are (status.ExpectFailed line) u = absurd u
not_generated g held are (status.Refused line reason) u = absurd u
not_generated g held are (status.StepsSpent line) u = absurd u
not_generated g held are (status.JournalFull line) u = absurd u

pub ungenerated : (g : Generation) (held : List ℕ → Held) → AreGenerated held g.k g.number g.frames → (asked : Asked) → asked ≡ generated_files → (e f : Status) →
    IsUnread held asked e → f ≡ without_read_fault e → IsUngenerated g f
ungenerated g held are asked same e f u is =
    subst (λ x. IsUngenerated g x) (sym is) (not_generated g held are e (subst (λ a. IsUnread held a e) same u))
