-- Inputs that are accepted are played, and what they come to is the answer.
use Rattle.std.proofs.Common.{◌≡◌, ℕ, suc, List, take, Option, None, Some, refl, sym, ap, ◌∙◌, subst, inl, inr}
use Rattle.std.proofs.lemmas.List.Elements.{All-take}
use Rattle.pl_shelf.specs.Held.{Held, IsLonger, ShelfMoment}
use Rattle.pl_wiring.specs.declared.host.Host.{Host}
use Rattle.pl_wiring.specs.Plan.{Plan}
use Rattle.pl_script.specs.declared.error.ScriptError.TheVariants.{Line}
use Rattle.pl_inputs.specs.declared.fault.CaptureFault.{CaptureFault}
use Rattle.pl_inputs.specs.declared.fault.CaptureFault.TheVariants.{OfRecords, OfSections}
use Rattle.pl_inputs.specs.declared.status.Status.{Status}
use Rattle.pl_inputs.specs.Inputs.{AreRead, Inputs, text_limit}
use Rattle.pl_inputs.specs.Unread.{IsLongName, IsRefusedCapture, IsTooMuch}
use Rattle.pl_inputs.specs.declared.words.Network.{Network}
use Rattle.pl_inputs.specs.declared.words.Network.TheVariants as networks
use Rattle.pl_inputs.specs.Words.{Asked}
use Rattle.pl_script_rule.specs.declared.stop.Stop.{Stop}
use Rattle.pl_script_rule.specs.Scenes.{Scene}
use Rattle.pl_inputs.specs.declared.status.Status.TheVariants as status
use Rattle.pl_playing.specs.Outcomes.{outcome}
use Rattle.pl_run.specs.Answers.{Answers}
use Rattle.pl_run.specs.Complete.{AnswersByPlaying, AnswersInputs, AreCapturesShown, AreShown, IsCaptureShown}
use Rattle.pl_run.proofs.Complete.{one_input, one_plan}
use Rattle.pl_run.proofs.CompleteCaptures.{long_stop, none_stops, refused_stop}
use Rattle.pl_run.proofs.Stages.{no_bad_script, no_bad_topology, no_long_script, no_long_topology, no_read_fault, no_write_fault}
use Rattle.pl_run.specs.Fabric.{IsStopped, PlaysTo}

-- the inputs that were played are these
abbrev pub IsPlayedAs : Network → Inputs → Status → Type 0
IsPlayedAs network i e = (end : Option (ℕ × Stop)) × (scene : Scene) × PlaysTo network i end scene × (e ≡ outcome end)

stopped_as : (network : Network) (i j : Inputs) (e : Status) → j ≡ i → IsStopped network j e → IsPlayedAs network i e
stopped_as network i j e same s = (Some s.stopped, s.scene, subst (λ x. PlaysTo network x (Some s.stopped) s.scene) same s.played, s.answered)

played_as : (held : List ℕ → Held) (asked : Asked) (i j : Inputs) (e : Status) → AreShown held asked i.plan.hosts → AreRead held asked i → AreRead held asked j →
    IsStopped asked.network j e → IsPlayedAs asked.network i e
played_as held asked i j e told is was s = stopped_as asked.network i j e (sym (one_input held asked i j told is was)) s

shown_front : (held : List ℕ → Held) (folder : List ℕ) (hosts : List Host) (n : ℕ) → AreCapturesShown held folder hosts → AreCapturesShown held folder (take n hosts)
shown_front held folder hosts n told = All-take (λ h. IsCaptureShown held folder h.capture) n hosts told

no_much : (held : List ℕ → Held) (asked : Asked) (i : Inputs) → AreShown held asked i.plan.hosts → AreRead held asked i → (name : List ℕ) → IsTooMuch held asked.captures i.plan.hosts name → ⊥
no_much held asked i told is name m =
    none_stops held asked.captures i.plan.hosts m.n m.host m.comes (shown_front held asked.captures i.plan.hosts (suc m.n) told.captures) i.captures is.captures is.limit
    (long_stop held asked.captures i.plan.hosts name m)

no_bad_capture : (held : List ℕ → Held) (asked : Asked) (i : Inputs) → AreShown held asked i.plan.hosts → AreRead held asked i → (n : ℕ) (e : CaptureFault) →
    IsRefusedCapture held asked.captures i.plan.hosts n e → ⊥
no_bad_capture held asked i told is n e r =
    none_stops held asked.captures i.plan.hosts n r.host r.comes (shown_front held asked.captures i.plan.hosts (suc n) told.captures) i.captures is.captures is.limit
    (refused_stop held asked.captures i.plan.hosts n e r)

-- nothing that was accepted is too long
no_long_name : (held : List ℕ → Held) (asked : Asked) (i : Inputs) → AreShown held asked i.plan.hosts → AreRead held asked i → (name : List ℕ) → IsLongName held asked name → ⊥
no_long_name held asked i told is name (inl l) =
    no_long_topology held asked.topology i.plan told.topology is.topology (subst (λ n. IsLonger (held n) text_limit) l.0 l.1)
no_long_name held asked i told is name (inr (inl l)) =
    no_long_script held asked i.plan i.lines told.script is.script (subst (λ n. IsLonger (held n) text_limit) l.2 l.3)
no_long_name held asked i told is name (inr (inr l)) =
    let same : l.0 ≡ i.plan = one_plan held asked.topology told.topology l.0 i.plan l.1.topology is.topology in
    no_much held asked i told is name (subst (λ (p : Plan). IsTooMuch held asked.captures p.hosts name) same l.2)

pub answers_by_playing : (old new : ShelfMoment) (asked : Asked) (e : Status) → Answers old new asked e → AnswersByPlaying old new asked e
answers_by_playing old new asked status.Done a i is told none =
    let same : a.0 ≡ i = sym (one_input old.held asked i a.0 told is a.1) in
    inl (None, a.2.0.scene, subst (λ x. PlaysTo asked.network x None a.2.0.scene) same a.2.0.played, refl)
answers_by_playing old new asked (status.ExpectFailed line) a i is told none =
    inl (played_as old.held asked i a.0 (status.ExpectFailed line) told is a.1 a.2.0)
answers_by_playing old new asked (status.Refused line reason) a i is told none =
    inl (played_as old.held asked i a.0 (status.Refused line reason) told is a.1 a.2.0)
answers_by_playing old new asked (status.StepsSpent line) a i is told none =
    inl (played_as old.held asked i a.0 (status.StepsSpent line) told is a.1 a.2.0)
answers_by_playing old new asked (status.JournalFull line) a i is told none =
    inl (played_as old.held asked i a.0 (status.JournalFull line) told is a.1 a.2.0)
answers_by_playing old new asked (status.WriteFault name) a i is told none = absurd (no_write_fault old new none a.2.1.rose)
answers_by_playing old new asked (status.ReadFault name) a i is told none = absurd (no_read_fault old new none a.1.rose)
answers_by_playing old new asked (status.TooLong name) a i is told none = absurd (no_long_name old.held asked i told is name a.0)
answers_by_playing old new asked (status.BadTopology reason) a i is told none =
    absurd (no_bad_topology old.held asked.topology i.plan told.topology is.topology a.0.1.0 reason a.0.1.1 a.0.1.2)
answers_by_playing old new asked (status.BadScript line reason) a i is told none =
    absurd (no_bad_script old.held asked i.plan a.0.0 i.lines told.topology told.script is.topology a.0.1 is.script a.0.2.0 (Line line reason) a.0.2.1 a.0.2.2)
answers_by_playing old new asked (status.BadCapture host e at) a i is told none =
    let same : a.0.0 ≡ i.plan = one_plan old.held asked.topology told.topology a.0.0 i.plan a.0.1.topology is.topology in
    absurd (no_bad_capture old.held asked i told is host.0 (OfRecords e) (subst (λ (p : Plan). IsRefusedCapture old.held asked.captures p.hosts host.0 (OfRecords e)) same a.0.2))
answers_by_playing old new asked (status.BadSection host e) a i is told none =
    let same : a.0.0 ≡ i.plan = one_plan old.held asked.topology told.topology a.0.0 i.plan a.0.1.topology is.topology in
    absurd (no_bad_capture old.held asked i told is host.0 (OfSections e) (subst (λ (p : Plan). IsRefusedCapture old.held asked.captures p.hosts host.0 (OfSections e)) same a.0.2))
answers_by_playing old new asked status.OutOfMemory a i is told none = inr refl
answers_by_playing old new asked status.Usage a i is told none = absurd a.0
answers_by_playing old new asked (status.NotLegal entry) a i is told none = absurd a.0
answers_by_playing old new asked (status.BadJournal line) a i is told none = absurd a.0

-- one script comes to one end
abbrev pub OneEnd : Type 0
OneEnd = (network : Network) (i : Inputs) (end other : Option (ℕ × Stop)) (scene another : Scene) → PlaysTo network i end scene → PlaysTo network i other another → end ≡ other

abbrev pub OneEndOn : Network → Type 0
OneEndOn network = (i : Inputs) (end other : Option (ℕ × Stop)) (scene another : Scene) → PlaysTo network i end scene → PlaysTo network i other another → end ≡ other

pub one_end : OneEndOn networks.Fabric → OneEndOn networks.Bridges → OneEnd
one_end fabric bridges networks.Fabric = fabric
one_end fabric bridges networks.Bridges = bridges

pub answers_inputs : OneEnd → (old new : ShelfMoment) (asked : Asked) (e : Status) → Answers old new asked e → AnswersInputs old new asked e
answers_inputs one old new asked e a i end scene is told none plays = elim (answers_by_playing old new asked e a i is told none) [
  | inl p ↦ inl (p.3 ∙ ap outcome (one asked.network i p.0 end p.1 scene p.2 plays))
  | inr memory ↦ inr memory
]
