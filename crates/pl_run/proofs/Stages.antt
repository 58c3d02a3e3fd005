-- At which stage a run or a check ended: at its topology, at its script, or behind them.
use Rattle.std.proofs.Common.{◌≡◌, ◌⊎◌, ℕ, ◌-◌, ◌^◌, ◌<◌, List, Err, refl, sym, ap, ◌∙◌, subst, inl, inr, arith}
use Rattle.pl_shelf.specs.Held.{Held, IsLonger, ShelfMoment}
use Rattle.pl_shelf.specs.Faults.{Rose}
use Rattle.pl_wiring.specs.Plan.{Plan}
use Rattle.pl_script.specs.declared.error.ScriptError.{ScriptError}
use Rattle.pl_script.specs.declared.error.ScriptError.TheVariants.{Line, Memory}
use Rattle.pl_script.specs.declared.error.ScriptReason.{ScriptReason}
use Rattle.pl_script.specs.declared.script.ScriptLine.{ScriptLine}
use Rattle.pl_topology.specs.declared.error.TopologyError.{TopologyError}
use Rattle.pl_topology.specs.Meaning.{topology_of}
use Rattle.pl_inputs.specs.declared.status.Status.{Status}
use Rattle.pl_inputs.specs.Inputs.{HasLines, HasPlan, IsLoaded, script_for, text_limit}
use Rattle.pl_inputs.specs.Unread.{AreTextsRead}
use Rattle.pl_inputs.specs.Words.{Asked}
use Rattle.pl_inputs.specs.declared.status.Status.TheVariants as status
use Rattle.pl_run.specs.Answers.{Answers, IsRun}
use Rattle.pl_run.specs.Checks.{AnswersCheck}
use Rattle.pl_run.specs.Complete.{AnswersBadScript, AnswersBadTopology, AnswersLongScript, AnswersLongTopology, AnswersTopology, IsShown, NoFaults}
use Rattle.pl_run.proofs.Complete.{not_longer, ok_err, one_err, one_file, one_plan}

no_rise : (old new : ℕ) → new ≡ old → old < 2 ^ 64 - 1 → Rose old new → ⊥
no_rise old new same shows rose =
    let below : new < 2 ^ 64 - 1 = subst (λ n. n < 2 ^ 64 - 1) (sym same) shows in
    let rises : old < new = rose below in
    omega arith

pub no_read_fault : (old new : ShelfMoment) → NoFaults old new → Rose old.read_faults new.read_faults → ⊥
no_read_fault old new none rose = no_rise old.read_faults new.read_faults none.reads none.reads_show rose

pub no_write_fault : (old new : ShelfMoment) → NoFaults old new → Rose old.write_faults new.write_faults → ⊥
no_write_fault old new none rose = no_rise old.write_faults new.write_faults none.writes none.writes_show rose

-- a text that is accepted is not too long, and it is not refused
pub no_long_topology : (held : List ℕ → Held) (topology : List ℕ) (plan : Plan) → IsShown held topology → HasPlan held topology plan →
    IsLonger (held topology) text_limit → ⊥
no_long_topology held topology plan told has longer = not_longer held topology told has.0 text_limit has.1.whole has.1.within longer

pub no_long_script : (held : List ℕ → Held) (asked : Asked) (plan : Plan) (lines : List ScriptLine) → IsShown held asked.script → HasLines held asked.network asked.script plan lines →
    IsLonger (held asked.script) text_limit → ⊥
no_long_script held asked plan lines told has longer = not_longer held asked.script told has.0 text_limit has.1.whole has.1.within longer

pub no_bad_topology : (held : List ℕ → Held) (topology : List ℕ) (plan : Plan) → IsShown held topology → HasPlan held topology plan →
    (file : List ℕ) (reason : TopologyError) → IsLoaded held topology text_limit file → topology_of file ≡ Err reason → ⊥
no_bad_topology held topology plan told has file reason loaded refused =
    let same : file ≡ has.0 = one_file held topology told file has.0 loaded.whole has.1.whole in
    ok_err (topology_of file) plan reason (ap topology_of same ∙ has.2) refused

pub no_bad_script : (held : List ℕ → Held) (asked : Asked) (plan other : Plan) (lines : List ScriptLine) → IsShown held asked.topology → IsShown held asked.script →
    HasPlan held asked.topology plan → HasPlan held asked.topology other → HasLines held asked.network asked.script plan lines → (file : List ℕ) (e : ScriptError) →
    IsLoaded held asked.script text_limit file → script_for asked.network other file ≡ Err e → ⊥
no_bad_script held asked plan other lines topology script has had written file e loaded refused =
    let plans : other ≡ plan = one_plan held asked.topology topology other plan had has in
    let same : file ≡ written.0 = one_file held asked.script script file written.0 loaded.whole written.1.whole in
    ok_err (script_for asked.network other file) lines e (ap (λ p. script_for asked.network p file) plans ∙ ap (script_for asked.network plan) same ∙ written.2) refused

-- the ways in which a topology's stage may end
abbrev IsAccepted : ShelfMoment → List ℕ → Type 0
IsAccepted old topology = (plan : Plan) × HasPlan old.held topology plan

abbrev IsRefused : ShelfMoment → List ℕ → Status → Type 0
IsRefused old topology e =
    (reason : TopologyError) × (file : List ℕ) × IsLoaded old.held topology text_limit file × (topology_of file ≡ Err reason)
    × (e ≡ status.BadTopology reason)

abbrev IsTooLong : ShelfMoment → List ℕ → Status → Type 0
IsTooLong old topology e = IsLonger (old.held topology) text_limit × (e ≡ status.TooLong topology)

-- a read failed, or memory ran out
abbrev HasFailed : ShelfMoment → ShelfMoment → Status → Type 0
HasFailed old new e = Rose old.read_faults new.read_faults ⊎ (e ≡ status.OutOfMemory)

abbrev pub TopologyStage : ShelfMoment → ShelfMoment → List ℕ → Status → Type 0
TopologyStage old new topology e = IsAccepted old topology ⊎ (IsRefused old topology e ⊎ (IsTooLong old topology e ⊎ HasFailed old new e))

-- and a script's
abbrev IsScriptRefused : ShelfMoment → Asked → Status → Type 0
IsScriptRefused old asked e =
    (plan : Plan) × (file : List ℕ) × (line : ℕ) × (reason : ScriptReason) × HasPlan old.held asked.topology plan
    × IsLoaded old.held asked.script text_limit file × (script_for asked.network plan file ≡ Err (Line line reason)) × (e ≡ status.BadScript line reason)

abbrev IsScriptTooLong : ShelfMoment → Asked → Status → Type 0
IsScriptTooLong old asked e =
    IsAccepted old asked.topology × IsLonger (old.held asked.script) text_limit × (e ≡ status.TooLong asked.script)

abbrev AreAccepted : ShelfMoment → Asked → Type 0
AreAccepted old asked = (plan : Plan) × AreTextsRead old.held asked plan

abbrev pub ScriptStage : ShelfMoment → ShelfMoment → Asked → Status → Type 0
ScriptStage old new asked e =
    AreAccepted old asked ⊎ (IsScriptRefused old asked e ⊎ (IsScriptTooLong old asked e
    ⊎ (IsRefused old asked.topology e ⊎ (IsTooLong old asked.topology e ⊎ HasFailed old new e))))

topology_stage : (old new : ShelfMoment) (asked : Asked) (e : Status) → ScriptStage old new asked e → TopologyStage old new asked.topology e
topology_stage old new asked e (inl a) = inl (a.0, a.1.topology)
topology_stage old new asked e (inr (inl s)) = inl (s.0, s.4)
topology_stage old new asked e (inr (inr (inl s))) = inl s.0
topology_stage old new asked e (inr (inr (inr t))) = inr t

run_stage : (old new : ShelfMoment) (asked : Asked) (e f : Status) → IsRun old new asked e → ScriptStage old new asked f
run_stage old new asked e f r = inl (r.0.plan, record { lines = r.0.lines; topology = r.1.topology; script = r.1.script })

script_stage : (old new : ShelfMoment) (asked : Asked) (e : Status) → Answers old new asked e → ScriptStage old new asked e
script_stage old new asked status.Done a = run_stage old new asked status.Done status.Done a
script_stage old new asked (status.WriteFault name) a = run_stage old new asked (status.WriteFault name) (status.WriteFault name) a
script_stage old new asked (status.ExpectFailed line) a = run_stage old new asked (status.ExpectFailed line) (status.ExpectFailed line) a
script_stage old new asked (status.Refused line reason) a = run_stage old new asked (status.Refused line reason) (status.Refused line reason) a
script_stage old new asked (status.StepsSpent line) a = run_stage old new asked (status.StepsSpent line) (status.StepsSpent line) a
script_stage old new asked (status.JournalFull line) a = run_stage old new asked (status.JournalFull line) (status.JournalFull line) a
script_stage old new asked (status.ReadFault name) a = inr (inr (inr (inr (inr (inl a.1.rose)))))
script_stage old new asked (status.TooLong name) (inl l, stays) =
    inr (inr (inr (inr (inl (subst (λ n. IsLonger (old.held n) text_limit) l.0 l.1, ap (λ n. status.TooLong n) l.0)))))
script_stage old new asked (status.TooLong name) (inr (inl l), stays) =
    inr (inr (inl ((l.0, l.1), subst (λ n. IsLonger (old.held n) text_limit) l.2 l.3, ap (λ n. status.TooLong n) l.2)))
script_stage old new asked (status.TooLong name) (inr (inr l), stays) = inl (l.0, l.1)
script_stage old new asked (status.BadTopology reason) a = inr (inr (inr (inl (reason, a.0.1.0, a.0.1.1, a.0.1.2, refl))))
script_stage old new asked (status.BadScript line reason) a = inr (inl (a.0.0, a.0.2.0, line, reason, a.0.1, a.0.2.1, a.0.2.2, refl))
script_stage old new asked (status.BadCapture host e at) a = inl (a.0.0, a.0.1)
script_stage old new asked (status.BadSection host e) a = inl (a.0.0, a.0.1)
script_stage old new asked status.OutOfMemory a = inr (inr (inr (inr (inr (inr refl)))))
script_stage old new asked status.Usage a = absurd a.0
script_stage old new asked (status.NotLegal entry) a = absurd a.0
script_stage old new asked (status.BadJournal line) a = absurd a.0

check_stage : (old new : ShelfMoment) (topology : List ℕ) (e : Status) → AnswersCheck old new topology e → TopologyStage old new topology e
check_stage old new topology status.Done a = inl (a.0, a.1)
check_stage old new topology (status.WriteFault name) a = inl (a.0, a.1)
check_stage old new topology (status.ReadFault name) a = inr (inr (inr (inl a.1.rose)))
check_stage old new topology (status.TooLong name) a =
    inr (inr (inl (a.0.1, ap (λ n. status.TooLong n) a.0.0)))
check_stage old new topology (status.BadTopology reason) a = inr (inl (reason, a.0.1.0, a.0.1.1, a.0.1.2, refl))
check_stage old new topology status.OutOfMemory a = inr (inr (inr (inr refl)))
check_stage old new topology status.Usage a = absurd a.0
check_stage old new topology (status.NotLegal entry) a = absurd a.0
check_stage old new topology (status.BadJournal line) a = absurd a.0
check_stage old new topology (status.ExpectFailed line) a = absurd a.0
check_stage old new topology (status.Refused line reason) a = absurd a.0
check_stage old new topology (status.StepsSpent line) a = absurd a.0
check_stage old new topology (status.JournalFull line) a = absurd a.0
check_stage old new topology (status.BadScript line reason) a = absurd a.0
check_stage old new topology (status.BadCapture host e at) a = absurd a.0
check_stage old new topology (status.BadSection host e) a = absurd a.0

-- a topology that is refused, or too long
pub bad_topology_by : (old new : ShelfMoment) (topology : List ℕ) (e : Status) → TopologyStage old new topology e → AnswersBadTopology old new topology e
bad_topology_by old new topology e (inl a) file reason told loaded refused none =
    absurd (no_bad_topology old.held topology a.0 told a.1 file reason loaded refused)
bad_topology_by old new topology e (inr (inl r)) file reason told loaded refused none =
    let same : r.1 ≡ file = one_file old.held topology told r.1 file r.2.whole loaded.whole in
    inl (r.4 ∙ ap (λ x. status.BadTopology x) (one_err (topology_of file) r.0 reason (ap topology_of (sym same) ∙ r.3) refused))
bad_topology_by old new topology e (inr (inr (inl l))) file reason told loaded refused none =
    absurd (not_longer old.held topology told file text_limit loaded.whole loaded.within l.0)
bad_topology_by old new topology e (inr (inr (inr (inl rose)))) file reason told loaded refused none = absurd (no_read_fault old new none rose)
bad_topology_by old new topology e (inr (inr (inr (inr memory)))) file reason told loaded refused none = inr memory

pub long_topology_by : (old new : ShelfMoment) (topology : List ℕ) (e : Status) → TopologyStage old new topology e → AnswersLongTopology old new topology e
long_topology_by old new topology e (inl a) told longer none = absurd (no_long_topology old.held topology a.0 told a.1 longer)
long_topology_by old new topology e (inr (inl r)) told longer none =
    absurd (not_longer old.held topology told r.1 text_limit r.2.whole r.2.within longer)
long_topology_by old new topology e (inr (inr (inl l))) told longer none = inl l.1
long_topology_by old new topology e (inr (inr (inr (inl rose)))) told longer none = absurd (no_read_fault old new none rose)
long_topology_by old new topology e (inr (inr (inr (inr memory)))) told longer none = inr memory

pub answers_bad_topology : (old new : ShelfMoment) (asked : Asked) (e : Status) → Answers old new asked e → AnswersBadTopology old new asked.topology e
answers_bad_topology old new asked e a =
    bad_topology_by old new asked.topology e (topology_stage old new asked e (script_stage old new asked e a))

pub answers_long_topology : (old new : ShelfMoment) (asked : Asked) (e : Status) → Answers old new asked e → AnswersLongTopology old new asked.topology e
answers_long_topology old new asked e a =
    long_topology_by old new asked.topology e (topology_stage old new asked e (script_stage old new asked e a))

pub check_bad_topology : (old new : ShelfMoment) (topology : List ℕ) (e : Status) → AnswersCheck old new topology e → AnswersBadTopology old new topology e
check_bad_topology old new topology e a = bad_topology_by old new topology e (check_stage old new topology e a)

pub check_long_topology : (old new : ShelfMoment) (topology : List ℕ) (e : Status) → AnswersCheck old new topology e → AnswersLongTopology old new topology e
check_long_topology old new topology e a = long_topology_by old new topology e (check_stage old new topology e a)

-- a topology that is accepted
abbrev refused_by : ShelfMoment → List ℕ → Status → Type 0
refused_by old topology e = IsRefused old topology e ⊎ IsTooLong old topology e

not_refused : (old : ShelfMoment) (topology : List ℕ) (plan : Plan) (e : Status) → IsShown old.held topology → HasPlan old.held topology plan → refused_by old topology e → ⊥
not_refused old topology plan e told has (inl r) = no_bad_topology old.held topology plan told has r.1 r.0 r.2 r.3
not_refused old topology plan e told has (inr l) = no_long_topology old.held topology plan told has l.0

pub check_accepted : (old new : ShelfMoment) (topology : List ℕ) (e : Status) → AnswersCheck old new topology e → AnswersTopology old new topology e
check_accepted old new topology status.Done a plan told has none = inl refl
check_accepted old new topology (status.WriteFault name) a plan told has none = absurd (no_write_fault old new none a.2.rose)
check_accepted old new topology (status.ReadFault name) a plan told has none = absurd (no_read_fault old new none a.1.rose)
check_accepted old new topology (status.TooLong name) a plan told has none =
    absurd (no_long_topology old.held topology plan told has a.0.1)
check_accepted old new topology (status.BadTopology reason) a plan told has none =
    absurd (no_bad_topology old.held topology plan told has a.0.1.0 reason a.0.1.1 a.0.1.2)
check_accepted old new topology status.OutOfMemory a plan told has none = inr refl
check_accepted old new topology status.Usage a plan told has none = absurd a.0
check_accepted old new topology (status.NotLegal entry) a plan told has none = absurd a.0
check_accepted old new topology (status.BadJournal line) a plan told has none = absurd a.0
check_accepted old new topology (status.ExpectFailed line) a plan told has none = absurd a.0
check_accepted old new topology (status.Refused line reason) a plan told has none = absurd a.0
check_accepted old new topology (status.StepsSpent line) a plan told has none = absurd a.0
check_accepted old new topology (status.JournalFull line) a plan told has none = absurd a.0
check_accepted old new topology (status.BadScript line reason) a plan told has none = absurd a.0
check_accepted old new topology (status.BadCapture host e at) a plan told has none = absurd a.0
check_accepted old new topology (status.BadSection host e) a plan told has none = absurd a.0

abbrev script_status : ScriptError → Status
script_status (Line n reason) = status.BadScript n reason
script_status Memory = status.OutOfMemory

-- a script that is refused, or too long
bad_script_by : (old new : ShelfMoment) (asked : Asked) (e : Status) → ScriptStage old new asked e → AnswersBadScript old new asked e
bad_script_by old new asked e (inl a) plan file line reason topology script has loaded refused none =
    absurd (no_bad_script old.held asked a.0 plan a.1.lines topology script a.1.topology has a.1.script file (Line line reason) loaded refused)
bad_script_by old new asked e (inr (inl s)) plan file line reason topology script has loaded refused none =
    let plans : s.0 ≡ plan = one_plan old.held asked.topology topology s.0 plan s.4 has in
    let same : s.1 ≡ file = one_file old.held asked.script script s.1 file s.5.whole loaded.whole in
    let was : script_for asked.network plan file ≡ Err (Line s.2 s.3) = ap (λ p. script_for asked.network p file) (sym plans) ∙ ap (script_for asked.network s.0) (sym same) ∙ s.6 in
    inl (s.7 ∙ ap script_status (one_err (script_for asked.network plan file) (Line s.2 s.3) (Line line reason) was refused))
bad_script_by old new asked e (inr (inr (inl l))) plan file line reason topology script has loaded refused none =
    absurd (not_longer old.held asked.script script file text_limit loaded.whole loaded.within l.1)
bad_script_by old new asked e (inr (inr (inr (inl r)))) plan file line reason topology script has loaded refused none =
    absurd (not_refused old asked.topology plan e topology has (inl r))
bad_script_by old new asked e (inr (inr (inr (inr (inl l))))) plan file line reason topology script has loaded refused none =
    absurd (not_refused old asked.topology plan e topology has (inr l))
bad_script_by old new asked e (inr (inr (inr (inr (inr (inl rose)))))) plan file line reason topology script has loaded refused none =
    absurd (no_read_fault old new none rose)
bad_script_by old new asked e (inr (inr (inr (inr (inr (inr memory)))))) plan file line reason topology script has loaded refused none = inr memory

long_script_by : (old new : ShelfMoment) (asked : Asked) (e : Status) → ScriptStage old new asked e → AnswersLongScript old new asked e
long_script_by old new asked e (inl a) plan topology script has longer none =
    absurd (no_long_script old.held asked a.0 a.1.lines script a.1.script longer)
long_script_by old new asked e (inr (inl s)) plan topology script has longer none =
    absurd (not_longer old.held asked.script script s.1 text_limit s.5.whole s.5.within longer)
long_script_by old new asked e (inr (inr (inl l))) plan topology script has longer none = inl l.2
long_script_by old new asked e (inr (inr (inr (inl r)))) plan topology script has longer none =
    absurd (not_refused old asked.topology plan e topology has (inl r))
long_script_by old new asked e (inr (inr (inr (inr (inl l))))) plan topology script has longer none =
    absurd (not_refused old asked.topology plan e topology has (inr l))
long_script_by old new asked e (inr (inr (inr (inr (inr (inl rose)))))) plan topology script has longer none =
    absurd (no_read_fault old new none rose)
long_script_by old new asked e (inr (inr (inr (inr (inr (inr memory)))))) plan topology script has longer none = inr memory

pub answers_bad_script : (old new : ShelfMoment) (asked : Asked) (e : Status) → Answers old new asked e → AnswersBadScript old new asked e
answers_bad_script old new asked e a = bad_script_by old new asked e (script_stage old new asked e a)

pub answers_long_script : (old new : ShelfMoment) (asked : Asked) (e : Status) → Answers old new asked e → AnswersLongScript old new asked e
answers_long_script old new asked e a = long_script_by old new asked e (script_stage old new asked e a)
