-- What is answered where the shelf tells the captures, and one is refused or too long.
use Rattle.std.proofs.Common.{◌≡◌, ℕ, suc, ◌+◌, List, take, refl, sym, ap, ◌∙◌, subst, inl, inr, arith}
use Rattle.pl_shelf.specs.Held.{Held, IsLonger, ShelfMoment}
use Rattle.pl_wiring.specs.declared.host.Host.{Host}
use Rattle.pl_wiring.specs.Plan.{Plan}
use Rattle.pl_script.specs.declared.error.ScriptError.TheVariants.{Line}
use Rattle.pl_inputs.specs.declared.fault.CaptureFault.{CaptureFault}
use Rattle.pl_inputs.specs.declared.fault.CaptureFault.TheVariants.{OfRecords, OfSections}
use Rattle.pl_inputs.specs.declared.status.Status.{Status}
use Rattle.pl_inputs.specs.Inputs.{AreCaptures, AreRead, HasPlan, Inputs, text_limit}
use Rattle.pl_inputs.specs.Unread.{ComesTo, IsRefusedCapture, IsTooMuch}
use Rattle.pl_inputs.specs.Words.{Asked}
use Rattle.pl_inputs.specs.declared.status.Status.TheVariants as status
use Rattle.pl_run.specs.Answers.{Answers}
use Rattle.pl_run.specs.Complete.{AnswersBadCapture, AnswersLongCapture, AreCapturesShown, IsComplete, IsShown, refusal}
use Rattle.pl_run.proofs.Complete.{one_plan}
use Rattle.pl_run.proofs.CompleteAnswers.{OneEnd, answers_by_playing, answers_inputs}
use Rattle.pl_run.proofs.Stages.{answers_bad_script, answers_bad_topology, answers_long_script, answers_long_topology, no_bad_script, no_bad_topology, no_long_script, no_long_topology, no_read_fault, no_write_fault}
use Rattle.pl_run.proofs.CompleteCaptures.{IsStop, long_stop, none_stops, one_name, one_reason, one_stop, refused_not_long, refused_stop}

next : (held : List ℕ → Held) (folder : List ℕ) (hosts : List Host) (n : ℕ) → AreCapturesShown held folder (take (n + 1) hosts) → AreCapturesShown held folder (take (suc n) hosts)
next held folder hosts n told = let on : n + 1 ≡ suc n = omega arith in subst (λ k. AreCapturesShown held folder (take k hosts)) on told

-- not all captures are accepted
not_all : (held : List ℕ → Held) (asked : Asked) (plan : Plan) (n : ℕ) (host : Host) (c : ComesTo held asked.captures plan.hosts n host) → IsShown held asked.topology →
    AreCapturesShown held asked.captures (take (suc n) plan.hosts) → HasPlan held asked.topology plan → IsStop held asked.captures host c.files →
    (i : Inputs) → AreRead held asked i → ⊥
not_all held asked plan n host c topology told has stop i is =
    let same : i.plan ≡ plan = one_plan held asked.topology topology i.plan plan is.topology has in
    none_stops held asked.captures plan.hosts n host c told i.captures (subst (λ (p : Plan). AreCaptures held asked.captures p.hosts i.captures) same is.captures) is.limit stop

much_of : (held : List ℕ → Held) (asked : Asked) (plan other : Plan) (name : List ℕ) → IsShown held asked.topology → HasPlan held asked.topology plan → HasPlan held asked.topology other →
    IsTooMuch held asked.captures other.hosts name → IsTooMuch held asked.captures plan.hosts name
much_of held asked plan other name topology has had much =
    subst (λ (p : Plan). IsTooMuch held asked.captures p.hosts name) (one_plan held asked.topology topology other plan had has) much

refused_of : (held : List ℕ → Held) (asked : Asked) (plan other : Plan) (n : ℕ) (e : CaptureFault) → IsShown held asked.topology → HasPlan held asked.topology plan →
    HasPlan held asked.topology other → IsRefusedCapture held asked.captures other.hosts n e → IsRefusedCapture held asked.captures plan.hosts n e
refused_of held asked plan other n e topology has had r =
    subst (λ (p : Plan). IsRefusedCapture held asked.captures p.hosts n e) (one_plan held asked.topology topology other plan had has) r

-- a capture that is refused, and another that is too long
not_both : (held : List ℕ → Held) (folder : List ℕ) (hosts : List Host) (n : ℕ) (e : CaptureFault) (name : List ℕ) → IsRefusedCapture held folder hosts n e →
    IsTooMuch held folder hosts name → AreCapturesShown held folder (take (suc n) hosts) → ⊥
not_both held folder hosts n e name r m told =
    refused_not_long held folder hosts n e name r m told
    (one_stop held folder hosts n m.n r.host m.host r.comes m.comes told (refused_stop held folder hosts n e r) (long_stop held folder hosts name m))

nor_both : (held : List ℕ → Held) (folder : List ℕ) (hosts : List Host) (n : ℕ) (e : CaptureFault) (name : List ℕ) (r : IsRefusedCapture held folder hosts n e)
    (m : IsTooMuch held folder hosts name) → AreCapturesShown held folder (take (suc m.n) hosts) → ⊥
nor_both held folder hosts n e name r m told =
    let at : m.n ≡ n = one_stop held folder hosts m.n n m.host r.host m.comes r.comes told (long_stop held folder hosts name m) (refused_stop held folder hosts n e r) in
    refused_not_long held folder hosts n e name r m (subst (λ k. AreCapturesShown held folder (take (suc k) hosts)) at told) (sym at)

abbrev refused_at : ℕ → CaptureFault → Status
refused_at n e = refusal (record { 0 = n }) e

-- one capture is the first that is refused
same_refusal : (held : List ℕ → Held) (folder : List ℕ) (hosts : List Host) (n m : ℕ) (e f : CaptureFault) → IsRefusedCapture held folder hosts n e →
    IsRefusedCapture held folder hosts m f → AreCapturesShown held folder (take (suc n) hosts) → refused_at m f ≡ refused_at n e
same_refusal held folder hosts n m e f r s told =
    let same : n ≡ m = one_stop held folder hosts n m r.host s.host r.comes s.comes told (refused_stop held folder hosts n e r) (refused_stop held folder hosts m f s) in
    let reason : f ≡ e = sym (one_reason held folder hosts n m e f r s told same) in
    ap (λ k. refused_at k f) (sym same) ∙ ap (refused_at n) reason

pub answers_bad_capture : (old new : ShelfMoment) (asked : Asked) (e : Status) → Answers old new asked e → AnswersBadCapture old new asked e
answers_bad_capture old new asked status.Done a plan n e told texts r none =
    absurd (not_all old.held asked plan n.0 r.host r.comes told.topology (next old.held asked.captures plan.hosts n.0 told.captures) texts.topology
    (refused_stop old.held asked.captures plan.hosts n.0 e r) a.0 a.1)
answers_bad_capture old new asked (status.Refused line cause) a plan n e told texts r none =
    absurd (not_all old.held asked plan n.0 r.host r.comes told.topology (next old.held asked.captures plan.hosts n.0 told.captures) texts.topology
    (refused_stop old.held asked.captures plan.hosts n.0 e r) a.0 a.1)
answers_bad_capture old new asked (status.ExpectFailed line) a plan n e told texts r none =
    absurd (not_all old.held asked plan n.0 r.host r.comes told.topology (next old.held asked.captures plan.hosts n.0 told.captures) texts.topology
    (refused_stop old.held asked.captures plan.hosts n.0 e r) a.0 a.1)
answers_bad_capture old new asked (status.StepsSpent line) a plan n e told texts r none =
    absurd (not_all old.held asked plan n.0 r.host r.comes told.topology (next old.held asked.captures plan.hosts n.0 told.captures) texts.topology
    (refused_stop old.held asked.captures plan.hosts n.0 e r) a.0 a.1)
answers_bad_capture old new asked (status.JournalFull line) a plan n e told texts r none =
    absurd (not_all old.held asked plan n.0 r.host r.comes told.topology (next old.held asked.captures plan.hosts n.0 told.captures) texts.topology
    (refused_stop old.held asked.captures plan.hosts n.0 e r) a.0 a.1)
answers_bad_capture old new asked (status.WriteFault name) a plan n e told texts r none = absurd (no_write_fault old new none a.2.1.rose)
answers_bad_capture old new asked (status.ReadFault name) a plan n e told texts r none = absurd (no_read_fault old new none a.1.rose)
answers_bad_capture old new asked (status.TooLong name) (inl l, stays) plan n e told texts r none =
    absurd (no_long_topology old.held asked.topology plan told.topology texts.topology (subst (λ n. IsLonger (old.held n) text_limit) l.0 l.1))
answers_bad_capture old new asked (status.TooLong name) (inr (inl l), stays) plan n e told texts r none =
    absurd (no_long_script old.held asked plan texts.lines told.script texts.script (subst (λ n. IsLonger (old.held n) text_limit) l.2 l.3))
answers_bad_capture old new asked (status.TooLong name) (inr (inr l), stays) plan n e told texts r none =
    absurd (not_both old.held asked.captures plan.hosts n.0 e name r (much_of old.held asked plan l.0 name told.topology texts.topology l.1.topology l.2)
    (next old.held asked.captures plan.hosts n.0 told.captures))
answers_bad_capture old new asked (status.BadTopology cause) a plan n e told texts r none =
    absurd (no_bad_topology old.held asked.topology plan told.topology texts.topology a.0.1.0 cause a.0.1.1 a.0.1.2)
answers_bad_capture old new asked (status.BadScript line cause) a plan n e told texts r none =
    absurd (no_bad_script old.held asked plan a.0.0 texts.lines told.topology told.script texts.topology a.0.1 texts.script a.0.2.0 (Line line cause) a.0.2.1 a.0.2.2)
answers_bad_capture old new asked (status.BadCapture m f at) a plan n e told texts r none =
    inl (ap (λ x. status.BadCapture m f x) a.0.3
    ∙ same_refusal old.held asked.captures plan.hosts n.0 m.0 e (OfRecords f) r
    (refused_of old.held asked plan a.0.0 m.0 (OfRecords f) told.topology texts.topology a.0.1.topology a.0.2)
    (next old.held asked.captures plan.hosts n.0 told.captures))
answers_bad_capture old new asked (status.BadSection m f) a plan n e told texts r none =
    inl (same_refusal old.held asked.captures plan.hosts n.0 m.0 e (OfSections f) r
    (refused_of old.held asked plan a.0.0 m.0 (OfSections f) told.topology texts.topology a.0.1.topology a.0.2)
    (next old.held asked.captures plan.hosts n.0 told.captures))
answers_bad_capture old new asked status.OutOfMemory a plan n e told texts r none = inr refl
answers_bad_capture old new asked status.Usage a plan n e told texts r none = absurd a.0
answers_bad_capture old new asked (status.NotLegal entry) a plan n e told texts r none = absurd a.0
answers_bad_capture old new asked (status.BadJournal line) a plan n e told texts r none = absurd a.0

-- one capture is the first that is too long
same_long : (held : List ℕ → Held) (folder : List ℕ) (hosts : List Host) (name other : List ℕ) (m : IsTooMuch held folder hosts name) → IsTooMuch held folder hosts other →
    AreCapturesShown held folder (take (suc m.n) hosts) → other ≡ name
same_long held folder hosts name other m l told =
    sym (one_name held folder hosts name other m l
    (one_stop held folder hosts m.n l.n m.host l.host m.comes l.comes told (long_stop held folder hosts name m) (long_stop held folder hosts other l)))

pub answers_long_capture : (old new : ShelfMoment) (asked : Asked) (e : Status) → Answers old new asked e → AnswersLongCapture old new asked e
answers_long_capture old new asked status.Done a plan name texts m told none =
    absurd (not_all old.held asked plan m.n m.host m.comes told.topology (next old.held asked.captures plan.hosts m.n told.captures) texts.topology
    (long_stop old.held asked.captures plan.hosts name m) a.0 a.1)
answers_long_capture old new asked (status.Refused line cause) a plan name texts m told none =
    absurd (not_all old.held asked plan m.n m.host m.comes told.topology (next old.held asked.captures plan.hosts m.n told.captures) texts.topology
    (long_stop old.held asked.captures plan.hosts name m) a.0 a.1)
answers_long_capture old new asked (status.ExpectFailed line) a plan name texts m told none =
    absurd (not_all old.held asked plan m.n m.host m.comes told.topology (next old.held asked.captures plan.hosts m.n told.captures) texts.topology
    (long_stop old.held asked.captures plan.hosts name m) a.0 a.1)
answers_long_capture old new asked (status.StepsSpent line) a plan name texts m told none =
    absurd (not_all old.held asked plan m.n m.host m.comes told.topology (next old.held asked.captures plan.hosts m.n told.captures) texts.topology
    (long_stop old.held asked.captures plan.hosts name m) a.0 a.1)
answers_long_capture old new asked (status.JournalFull line) a plan name texts m told none =
    absurd (not_all old.held asked plan m.n m.host m.comes told.topology (next old.held asked.captures plan.hosts m.n told.captures) texts.topology
    (long_stop old.held asked.captures plan.hosts name m) a.0 a.1)
answers_long_capture old new asked (status.WriteFault file) a plan name texts m told none = absurd (no_write_fault old new none a.2.1.rose)
answers_long_capture old new asked (status.ReadFault file) a plan name texts m told none = absurd (no_read_fault old new none a.1.rose)
answers_long_capture old new asked (status.TooLong other) (inl l, stays) plan name texts m told none =
    absurd (no_long_topology old.held asked.topology plan told.topology texts.topology (subst (λ n. IsLonger (old.held n) text_limit) l.0 l.1))
answers_long_capture old new asked (status.TooLong other) (inr (inl l), stays) plan name texts m told none =
    absurd (no_long_script old.held asked plan texts.lines told.script texts.script (subst (λ n. IsLonger (old.held n) text_limit) l.2 l.3))
answers_long_capture old new asked (status.TooLong other) (inr (inr l), stays) plan name texts m told none =
    inl (ap (λ n. status.TooLong n) (same_long old.held asked.captures plan.hosts name other m
    (much_of old.held asked plan l.0 other told.topology texts.topology l.1.topology l.2) (next old.held asked.captures plan.hosts m.n told.captures)))
answers_long_capture old new asked (status.BadTopology cause) a plan name texts m told none =
    absurd (no_bad_topology old.held asked.topology plan told.topology texts.topology a.0.1.0 cause a.0.1.1 a.0.1.2)
answers_long_capture old new asked (status.BadScript line cause) a plan name texts m told none =
    absurd (no_bad_script old.held asked plan a.0.0 texts.lines told.topology told.script texts.topology a.0.1 texts.script a.0.2.0 (Line line cause) a.0.2.1 a.0.2.2)
answers_long_capture old new asked (status.BadCapture n e at) a plan name texts m told none =
    absurd (nor_both old.held asked.captures plan.hosts n.0 (OfRecords e) name
    (refused_of old.held asked plan a.0.0 n.0 (OfRecords e) told.topology texts.topology a.0.1.topology a.0.2) m (next old.held asked.captures plan.hosts m.n told.captures))
answers_long_capture old new asked (status.BadSection n e) a plan name texts m told none =
    absurd (nor_both old.held asked.captures plan.hosts n.0 (OfSections e) name
    (refused_of old.held asked plan a.0.0 n.0 (OfSections e) told.topology texts.topology a.0.1.topology a.0.2) m (next old.held asked.captures plan.hosts m.n told.captures))
answers_long_capture old new asked status.OutOfMemory a plan name texts m told none = inr refl
answers_long_capture old new asked status.Usage a plan name texts m told none = absurd a.0
answers_long_capture old new asked (status.NotLegal entry) a plan name texts m told none = absurd a.0
answers_long_capture old new asked (status.BadJournal line) a plan name texts m told none = absurd a.0

-- all of it
pub is_complete : OneEnd → (old new : ShelfMoment) (asked : Asked) (e : Status) → Answers old new asked e → IsComplete old new asked e
is_complete one old new asked e a = record {
  played = answers_by_playing old new asked e a;
  inputs = answers_inputs one old new asked e a;
  bad_topology = answers_bad_topology old new asked e a;
  long_topology = answers_long_topology old new asked e a;
  bad_script = answers_bad_script old new asked e a;
  long_script = answers_long_script old new asked e a;
  bad_capture = answers_bad_capture old new asked e a;
  long_capture = answers_long_capture old new asked e a;
}
