-- Of a saved journal that is checked the answer is the one that the bytes ask for.
use Rattle.std.proofs.Common.{◌≡◌, ◌⊎◌, ℕ, List, refl, ap, subst, inl, inr}
use Rattle.pl_shelf.specs.Held.{IsLonger, ShelfMoment}
use Rattle.pl_wiring.specs.Plan.{IsPlan, Plan}
use Rattle.pl_verdict.specs.Verdicts.{IsBadLine, IsIllegal, IsLegal}
use Rattle.pl_inputs.specs.declared.status.Status.{Status}
use Rattle.pl_inputs.specs.Inputs.{HasPlan, IsLoaded, journal_limit}
use Rattle.pl_inputs.specs.Loads.{IsUnloaded, IsUnplanned}
use Rattle.pl_output.specs.Saved.{Saving}
use Rattle.pl_inputs.specs.declared.status.Status.TheVariants as status
use Rattle.pl_playing.specs.Outcomes.{EndsSaving}
use Rattle.pl_run.specs.Complete.{AnswersButForMemory, AnswersLongJournal, AnswersVerdict, IsCompleteVerify, IsShown, NoFaults}
use Rattle.pl_run.specs.Verified.{AnswersJournal, AnswersVerify, EndsVerify, IsFaulty, IsNotRead}
use Rattle.pl_run.proofs.Complete.{not_longer, one_file, one_plan}
use Rattle.pl_run.proofs.Stages.{TopologyStage, bad_topology_by, long_topology_by, no_bad_topology, no_long_topology, no_read_fault, no_write_fault}

-- of one text there is one verdict
pub record OneVerdict : Type 0 where
  pub illegal : (plan : Plan) (text : List ℕ) (m n : ℕ) → IsPlan plan → IsIllegal plan text m → IsIllegal plan text n → m ≡ n
  pub bad_line : (plan : Plan) (text : List ℕ) (m n : ℕ) → IsPlan plan → IsBadLine plan text m → IsBadLine plan text n → m ≡ n
  pub legal_or_illegal : (plan : Plan) (text : List ℕ) (m n : ℕ) → IsPlan plan → IsLegal plan text m → IsIllegal plan text n → ⊥
  pub legal_or_bad_line : (plan : Plan) (text : List ℕ) (m n : ℕ) → IsPlan plan → IsLegal plan text m → IsBadLine plan text n → ⊥
  pub illegal_or_bad_line : (plan : Plan) (text : List ℕ) (m n : ℕ) → IsPlan plan → IsIllegal plan text m → IsBadLine plan text n → ⊥

-- at which stage it ended
unplanned_stage : (old new : ShelfMoment) (topology : List ℕ) (e : Status) → IsNotRead (IsUnplanned old.held topology) old new e →
    TopologyStage old new topology e
unplanned_stage old new topology (status.ReadFault name) a = inr (inr (inr (inl a.1.rose)))
unplanned_stage old new topology (status.TooLong name) a = inr (inr (inl (a.0.1, ap (λ n. status.TooLong n) a.0.0)))
unplanned_stage old new topology (status.BadTopology reason) a = inr (inl (reason, a.0.1.0, a.0.1.1, a.0.1.2, refl))
unplanned_stage old new topology status.OutOfMemory a = inr (inr (inr (inr refl)))
unplanned_stage old new topology status.Done a = absurd a.0
unplanned_stage old new topology status.Usage a = absurd a.0
unplanned_stage old new topology (status.BadScript line reason) a = absurd a.0
unplanned_stage old new topology (status.BadCapture host e at) a = absurd a.0
unplanned_stage old new topology (status.WriteFault name) a = absurd a.0
unplanned_stage old new topology (status.ExpectFailed line) a = absurd a.0
unplanned_stage old new topology (status.Refused line reason) a = absurd a.0
unplanned_stage old new topology (status.StepsSpent line) a = absurd a.0
unplanned_stage old new topology (status.JournalFull line) a = absurd a.0
unplanned_stage old new topology (status.NotLegal entry) a = absurd a.0
unplanned_stage old new topology (status.BadJournal line) a = absurd a.0
unplanned_stage old new topology (status.BadSection host e) a = absurd a.0

verify_stage : (old new : ShelfMoment) (topology journal : List ℕ) (e : Status) → AnswersVerify old new topology journal e → TopologyStage old new topology e
verify_stage old new topology journal e (inl a) = unplanned_stage old new topology e a
verify_stage old new topology journal e (inr a) = inl (a.0, a.2)

-- the topology is accepted
unplanned_not : (old new : ShelfMoment) (topology : List ℕ) (plan : Plan) (e : Status) → IsShown old.held topology → HasPlan old.held topology plan →
    NoFaults old new → IsNotRead (IsUnplanned old.held topology) old new e → e ≡ status.OutOfMemory
unplanned_not old new topology plan (status.ReadFault name) told has none a = absurd (no_read_fault old new none a.1.rose)
unplanned_not old new topology plan (status.TooLong name) told has none a = absurd (no_long_topology old.held topology plan told has a.0.1)
unplanned_not old new topology plan (status.BadTopology reason) told has none a = absurd (no_bad_topology old.held topology plan told has a.0.1.0 reason a.0.1.1 a.0.1.2)
unplanned_not old new topology plan status.OutOfMemory told has none a = refl
unplanned_not old new topology plan status.Done told has none a = absurd a.0
unplanned_not old new topology plan status.Usage told has none a = absurd a.0
unplanned_not old new topology plan (status.BadScript line reason) told has none a = absurd a.0
unplanned_not old new topology plan (status.BadCapture host e at) told has none a = absurd a.0
unplanned_not old new topology plan (status.WriteFault name) told has none a = absurd a.0
unplanned_not old new topology plan (status.ExpectFailed line) told has none a = absurd a.0
unplanned_not old new topology plan (status.Refused line reason) told has none a = absurd a.0
unplanned_not old new topology plan (status.StepsSpent line) told has none a = absurd a.0
unplanned_not old new topology plan (status.JournalFull line) told has none a = absurd a.0
unplanned_not old new topology plan (status.NotLegal entry) told has none a = absurd a.0
unplanned_not old new topology plan (status.BadJournal line) told has none a = absurd a.0
unplanned_not old new topology plan (status.BadSection host e) told has none a = absurd a.0

heard : (old new : ShelfMoment) (topology journal : List ℕ) (plan : Plan) (e : Status) → AnswersVerify old new topology journal e → IsShown old.held topology →
    HasPlan old.held topology plan → NoFaults old new → (IsPlan plan × AnswersJournal old new plan journal e) ⊎ (e ≡ status.OutOfMemory)
heard old new topology journal plan e (inl a) told has none = inr (unplanned_not old new topology plan e told has none a)
heard old new topology journal plan e (inr a) told has none =
    let same : a.0 ≡ plan = one_plan old.held topology told a.0 plan a.2 has in
    inl (subst (λ p. IsPlan p) same a.1, subst (λ p. AnswersJournal old new p journal e) same a.3)

-- the journal is read
unloaded_not : (old new : ShelfMoment) (journal text : List ℕ) (e : Status) → IsShown old.held journal → IsLoaded old.held journal journal_limit text →
    NoFaults old new → IsNotRead (IsUnloaded old.held journal journal_limit) old new e → e ≡ status.OutOfMemory
unloaded_not old new journal text (status.ReadFault name) told loaded none a = absurd (no_read_fault old new none a.1.rose)
unloaded_not old new journal text (status.TooLong name) told loaded none a = absurd (not_longer old.held journal told text journal_limit loaded.whole loaded.within a.0.1)
unloaded_not old new journal text status.OutOfMemory told loaded none a = refl
unloaded_not old new journal text status.Done told loaded none a = absurd a.0
unloaded_not old new journal text status.Usage told loaded none a = absurd a.0
unloaded_not old new journal text (status.BadTopology reason) told loaded none a = absurd a.0
unloaded_not old new journal text (status.BadScript line reason) told loaded none a = absurd a.0
unloaded_not old new journal text (status.BadCapture host e at) told loaded none a = absurd a.0
unloaded_not old new journal text (status.WriteFault name) told loaded none a = absurd a.0
unloaded_not old new journal text (status.ExpectFailed line) told loaded none a = absurd a.0
unloaded_not old new journal text (status.Refused line reason) told loaded none a = absurd a.0
unloaded_not old new journal text (status.StepsSpent line) told loaded none a = absurd a.0
unloaded_not old new journal text (status.JournalFull line) told loaded none a = absurd a.0
unloaded_not old new journal text (status.NotLegal entry) told loaded none a = absurd a.0
unloaded_not old new journal text (status.BadJournal line) told loaded none a = absurd a.0
unloaded_not old new journal text (status.BadSection host e) told loaded none a = absurd a.0

ended : (old new : ShelfMoment) (plan : Plan) (journal text : List ℕ) (e : Status) → AnswersJournal old new plan journal e → IsShown old.held journal →
    IsLoaded old.held journal journal_limit text → NoFaults old new → EndsVerify old new plan text e ⊎ (e ≡ status.OutOfMemory)
ended old new plan journal text e (inl a) told loaded none = inr (unloaded_not old new journal text e told loaded none a)
ended old new plan journal text e (inr a) told loaded none =
    inl (subst (λ t. EndsVerify old new plan t e) (one_file old.held journal told a.0 text a.1.whole loaded.whole) a.2)

-- the journal is too long
unloaded_long : (old new : ShelfMoment) (journal : List ℕ) (e : Status) → NoFaults old new → IsNotRead (IsUnloaded old.held journal journal_limit) old new e →
    AnswersButForMemory e (status.TooLong journal)
unloaded_long old new journal (status.ReadFault name) none a = absurd (no_read_fault old new none a.1.rose)
unloaded_long old new journal (status.TooLong name) none a = inl (ap (λ n. status.TooLong n) a.0.0)
unloaded_long old new journal status.OutOfMemory none a = inr refl
unloaded_long old new journal status.Done none a = absurd a.0
unloaded_long old new journal status.Usage none a = absurd a.0
unloaded_long old new journal (status.BadTopology reason) none a = absurd a.0
unloaded_long old new journal (status.BadScript line reason) none a = absurd a.0
unloaded_long old new journal (status.BadCapture host e at) none a = absurd a.0
unloaded_long old new journal (status.WriteFault name) none a = absurd a.0
unloaded_long old new journal (status.ExpectFailed line) none a = absurd a.0
unloaded_long old new journal (status.Refused line reason) none a = absurd a.0
unloaded_long old new journal (status.StepsSpent line) none a = absurd a.0
unloaded_long old new journal (status.JournalFull line) none a = absurd a.0
unloaded_long old new journal (status.NotLegal entry) none a = absurd a.0
unloaded_long old new journal (status.BadJournal line) none a = absurd a.0
unloaded_long old new journal (status.BadSection host e) none a = absurd a.0

too_long : (old new : ShelfMoment) (plan : Plan) (journal : List ℕ) (e : Status) → IsShown old.held journal → IsLonger (old.held journal) journal_limit →
    NoFaults old new → AnswersJournal old new plan journal e → AnswersButForMemory e (status.TooLong journal)
too_long old new plan journal e told longer none (inl a) = unloaded_long old new journal e none a
too_long old new plan journal e told longer none (inr a) =
    absurd (not_longer old.held journal told a.0 journal_limit a.1.whole a.1.within longer)

-- what is true of the text is answered
saved : (old new : ShelfMoment) (savings : List Saving) (e : Status) → NoFaults old new → EndsSaving old new savings e → AnswersButForMemory e status.Done
saved old new savings status.Done none c = inl refl
saved old new savings (status.WriteFault name) none c = absurd (no_write_fault old new none c.rose)
saved old new savings status.OutOfMemory none c = inr refl
saved old new savings status.Usage none c = absurd c
saved old new savings (status.ReadFault name) none c = absurd c
saved old new savings (status.BadTopology reason) none c = absurd c
saved old new savings (status.BadScript line reason) none c = absurd c
saved old new savings (status.BadCapture host e at) none c = absurd c
saved old new savings (status.ExpectFailed line) none c = absurd c
saved old new savings (status.Refused line reason) none c = absurd c
saved old new savings (status.TooLong name) none c = absurd c
saved old new savings (status.StepsSpent line) none c = absurd c
saved old new savings (status.JournalFull line) none c = absurd c
saved old new savings (status.NotLegal entry) none c = absurd c
saved old new savings (status.BadJournal line) none c = absurd c
saved old new savings (status.BadSection host e) none c = absurd c

module _ (one : OneVerdict) (plan : Plan) (text : List ℕ) (is : IsPlan plan) (n : ℕ) where
  faulty_legal : (e : Status) → IsLegal plan text n → IsFaulty plan text e → e ≡ status.OutOfMemory
  faulty_legal (status.NotLegal m) legal f = absurd (one.legal_or_illegal plan text n m is legal f)
  faulty_legal (status.BadJournal m) legal f = absurd (one.legal_or_bad_line plan text n m is legal f)
  faulty_legal status.OutOfMemory legal f = refl
  faulty_legal status.Done legal f = absurd f
  faulty_legal status.Usage legal f = absurd f
  faulty_legal (status.ReadFault name) legal f = absurd f
  faulty_legal (status.BadTopology reason) legal f = absurd f
  faulty_legal (status.BadScript line reason) legal f = absurd f
  faulty_legal (status.BadCapture host e at) legal f = absurd f
  faulty_legal (status.WriteFault name) legal f = absurd f
  faulty_legal (status.ExpectFailed line) legal f = absurd f
  faulty_legal (status.Refused line reason) legal f = absurd f
  faulty_legal (status.TooLong name) legal f = absurd f
  faulty_legal (status.StepsSpent line) legal f = absurd f
  faulty_legal (status.JournalFull line) legal f = absurd f
  faulty_legal (status.BadSection host e) legal f = absurd f

  faulty_illegal : (e : Status) → IsIllegal plan text n → IsFaulty plan text e → AnswersButForMemory e (status.NotLegal n)
  faulty_illegal (status.NotLegal m) illegal f = inl (ap (λ x. status.NotLegal x) (one.illegal plan text m n is f illegal))
  faulty_illegal (status.BadJournal m) illegal f = absurd (one.illegal_or_bad_line plan text n m is illegal f)
  faulty_illegal status.OutOfMemory illegal f = inr refl
  faulty_illegal status.Done illegal f = absurd f
  faulty_illegal status.Usage illegal f = absurd f
  faulty_illegal (status.ReadFault name) illegal f = absurd f
  faulty_illegal (status.BadTopology reason) illegal f = absurd f
  faulty_illegal (status.BadScript line reason) illegal f = absurd f
  faulty_illegal (status.BadCapture host e at) illegal f = absurd f
  faulty_illegal (status.WriteFault name) illegal f = absurd f
  faulty_illegal (status.ExpectFailed line) illegal f = absurd f
  faulty_illegal (status.Refused line reason) illegal f = absurd f
  faulty_illegal (status.TooLong name) illegal f = absurd f
  faulty_illegal (status.StepsSpent line) illegal f = absurd f
  faulty_illegal (status.JournalFull line) illegal f = absurd f
  faulty_illegal (status.BadSection host e) illegal f = absurd f

  faulty_bad : (e : Status) → IsBadLine plan text n → IsFaulty plan text e → AnswersButForMemory e (status.BadJournal n)
  faulty_bad (status.NotLegal m) bad f = absurd (one.illegal_or_bad_line plan text m n is f bad)
  faulty_bad (status.BadJournal m) bad f = inl (ap (λ x. status.BadJournal x) (one.bad_line plan text m n is f bad))
  faulty_bad status.OutOfMemory bad f = inr refl
  faulty_bad status.Done bad f = absurd f
  faulty_bad status.Usage bad f = absurd f
  faulty_bad (status.ReadFault name) bad f = absurd f
  faulty_bad (status.BadTopology reason) bad f = absurd f
  faulty_bad (status.BadScript line reason) bad f = absurd f
  faulty_bad (status.BadCapture host e at) bad f = absurd f
  faulty_bad (status.WriteFault name) bad f = absurd f
  faulty_bad (status.ExpectFailed line) bad f = absurd f
  faulty_bad (status.Refused line reason) bad f = absurd f
  faulty_bad (status.TooLong name) bad f = absurd f
  faulty_bad (status.StepsSpent line) bad f = absurd f
  faulty_bad (status.JournalFull line) bad f = absurd f
  faulty_bad (status.BadSection host e) bad f = absurd f

  module _ (old new : ShelfMoment) (e : Status) (none : NoFaults old new) where
    as_legal : IsLegal plan text n → EndsVerify old new plan text e → AnswersButForMemory e status.Done
    as_legal legal (inl c) = saved old new _ e none c.2
    as_legal legal (inr c) = inr (faulty_legal e legal c.0)

    as_illegal : IsIllegal plan text n → EndsVerify old new plan text e → AnswersButForMemory e (status.NotLegal n)
    as_illegal illegal (inl c) = absurd (one.legal_or_illegal plan text c.0 n is c.1 illegal)
    as_illegal illegal (inr c) = faulty_illegal e illegal c.0

    as_bad : IsBadLine plan text n → EndsVerify old new plan text e → AnswersButForMemory e (status.BadJournal n)
    as_bad bad (inl c) = absurd (one.legal_or_bad_line plan text c.0 n is c.1 bad)
    as_bad bad (inr c) = faulty_bad e bad c.0

module _ (old new : ShelfMoment) (topology journal : List ℕ) (e : Status) (a : AnswersVerify old new topology journal e) where
  by_verdict : (Holds : Plan → List ℕ → Type 0) (answer : Status) →
      ((plan : Plan) (text : List ℕ) → IsPlan plan → NoFaults old new → Holds plan text → EndsVerify old new plan text e → AnswersButForMemory e answer) →
      AnswersVerdict old new topology journal Holds answer e
  by_verdict Holds answer then plan text shown told has loaded holds none = elim (heard old new topology journal plan e a shown has none) [
    | inl h ↦
        elim (ended old new plan journal text e h.1 told loaded none) [
          | inl c ↦ then plan text h.0 none holds c
          | inr memory ↦ inr memory
        ]
    | inr memory ↦ inr memory
  ]

  by_length : AnswersLongJournal old new topology journal e
  by_length plan shown told has longer none = elim (heard old new topology journal plan e a shown has none) [
    | inl h ↦ too_long old new plan journal e told longer none h.1
    | inr memory ↦ inr memory
  ]

  pub verify_complete : OneVerdict → IsCompleteVerify old new topology journal e
  verify_complete one = record {
    legal = λ n. by_verdict (λ plan text. IsLegal plan text n) status.Done
        (λ plan text is none legal c. as_legal one plan text is n old new e none legal c);
    illegal = λ n. by_verdict (λ plan text. IsIllegal plan text n) (status.NotLegal n)
        (λ plan text is none illegal c. as_illegal one plan text is n old new e none illegal c);
    bad_line = λ n. by_verdict (λ plan text. IsBadLine plan text n) (status.BadJournal n)
        (λ plan text is none bad c. as_bad one plan text is n old new e none bad c);
    long_journal = by_length;
    bad_topology = bad_topology_by old new topology e (verify_stage old new topology journal e a);
    long_topology = long_topology_by old new topology e (verify_stage old new topology journal e a);
  }
