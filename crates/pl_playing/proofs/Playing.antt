-- What is known of a script that was played.
use Rattle.std.proofs.Common.{◌≡◌, ◌↔◌, ℕ, suc, Bool, IsTrue, All, List, [], ◌∷◌, length, Option, None, Some, refl, sym, ap, ◌∙◌, subst}
use Rattle.pl_shelf.specs.Held.{ShelfMoment, standard_output}
use Rattle.pl_wiring.specs.Plan.{Plan}
use Rattle.pl_inputs.specs.declared.capture.Capture.{Capture}
use Rattle.pl_inputs.specs.declared.words.Network.{Network}
use Rattle.pl_inputs.specs.declared.words.Network.TheVariants.{Bridges, Fabric}
use Rattle.pl_inputs.specs.Inputs.{Inputs}
use Rattle.pl_inputs.specs.Loaded.{files_of}
use Rattle.pl_inputs.specs.Records.{records_of as records_walked}
use Rattle.pl_journal.specs.declared.entry.Entry.{Entry}
use Rattle.pl_journal.specs.Savable.{IsSavable}
use Rattle.pl_script.specs.declared.script.ScriptLine.{ScriptLine}
use Rattle.pl_world.specs.Booting.{booted}
use Rattle.pl_world.specs.Runs.{Moment as Stretch, WorldRun}
use Rattle.pl_world.specs.Worlds.{WorldView}
use Rattle.pl_node.specs.HostInputs.{HostRule}
use Rattle.pl_node.specs.ManagerDuties.{ManagerRule}
use Rattle.pl_node.specs.SwitchInputs.{SwitchRule}
use Rattle.pl_script_rule.specs.declared.stop.Stop.{Stop}
use Rattle.pl_script_rule.specs.declared.stop.Stop.TheVariants.{ExpectFailed, Refused}
use Rattle.pl_inputs.specs.declared.status.Status.{Status}
use Rattle.pl_script_rule.specs.Lines.{DoesLines}
use Rattle.pl_script_rule.specs.OnTree.{PlaysOn, scene_on}
use Rattle.pl_script_rule.specs.Scenes.{Scene, UnlessWanting, first_scene}
use Rattle.pl_player.specs.Leaving.{left_on}
use Rattle.pl_output.specs.Receipts.{saved_texts}
use Rattle.pl_output.specs.Saved.{Saving}
use Rattle.pl_output.specs.Summary.{summary_text}
use Rattle.pl_inputs.specs.declared.status.Status.TheVariants as status
use Rattle.pl_world.specs.declared.error.StepError.TheVariants as error
use Rattle.pl_playing.specs.Networks.{PlaysTo}
use Rattle.pl_journal.specs.Ranges.{Fits}
use Rattle.pl_playing.specs.Outcomes.{Comes, Course, EndsSaving, IsPlayed, IsStopped, Play, SavingFails, Saves, fits_of, nothing_of, outcome, printed_of, rests_from, run_limits, summary_of, texts_of}
use Rattle.pl_playing.specs.Plays.{IsPlayedOver, IsPlayedTo, IsUnplayed, Played, printed_by, summary_by, texts_by}
use Rattle.pl_playing.proofs.Remaining.{records_are}

-- a capture has one file
as_many : (captures : List Capture) → length captures ≡ length (files_of captures)
as_many [] = refl
as_many (c ∷ captures) = ap suc (as_many captures)

pub files_many : (captures : List Capture) (plan : Plan) → length captures ≡ length plan.hosts → length (files_of captures) ≡ length plan.hosts
files_many captures plan many = sym (as_many captures) ∙ many

-- what is said of a plan and a journal that were lent is said of those that they are
pub of_lent : (P : Plan → List Entry → Type 0) (plan lent : Plan) (journal read : List Entry) → lent ≡ plan → read ≡ journal → P lent read → P plan journal
of_lent P plan lent journal read is was p = subst (λ j. P plan j) was (subst (λ x. P x read) is p)

-- the same of the summary alone
abbrev pub one : List ℕ → List ℕ → List Saving
one name text = record { name = name; text = text } ∷ []

module _ (leads : Course) where
  stopped_so : (i : Inputs) (line : ℕ) (stop : Stop) (scene : Scene) → leads i (Some (line, stop)) scene → IsStopped leads i (outcome (Some (line, stop)))
  stopped_so i line stop scene plays = record { stopped = (line, stop); scene = scene; played = plays; answered = refl }

  -- what is answered for a script that was stopped
  unplayed_so : (i : Inputs) (line : ℕ) (stop : Stop) (scene : Scene) → UnlessWanting stop (leads i (Some (line, stop)) scene) → IsUnplayed leads i (outcome (Some (line, stop)))
  unplayed_so i line ExpectFailed scene u = stopped_so i line ExpectFailed scene u
  unplayed_so i line (Refused error.StepsSpent) scene u = stopped_so i line (Refused error.StepsSpent) scene u
  unplayed_so i line (Refused error.JournalFull) scene u = stopped_so i line (Refused error.JournalFull) scene u
  unplayed_so i line (Refused error.NoSuch) scene u = stopped_so i line (Refused error.NoSuch) scene u
  unplayed_so i line (Refused error.Occupied) scene u = stopped_so i line (Refused error.Occupied) scene u
  unplayed_so i line (Refused error.AlreadySo) scene u = stopped_so i line (Refused error.AlreadySo) scene u
  unplayed_so i line (Refused error.NothingThere) scene u = stopped_so i line (Refused error.NothingThere) scene u
  unplayed_so i line (Refused error.Memory) scene u = tt

  pub unplayed : (i : Inputs) (line : ℕ) (stop : Stop) (scene : Scene) (e : Status) → e ≡ outcome (Some (line, stop)) →
      UnlessWanting stop (leads i (Some (line, stop)) scene) → IsUnplayed leads i e
  unplayed i line stop scene e is u = subst (λ x. IsUnplayed leads i x) (sym is) (unplayed_so i line stop scene u)

-- what is left of a network of which no line was played
left_first : (network : Network) (plan : Plan) → left_on network (first_scene plan run_limits) ≡ scene_on network plan run_limits
left_first Fabric plan = refl
left_first Bridges plan = refl

module _ (network : Network) (switch : SwitchRule) (manager : ManagerRule) (host : HostRule) where
  -- a script that was played over what was walked is played over what was read
  plays_to : (plan : Plan) (captures : List Capture) (lines : List ScriptLine) (end : Option (ℕ × Stop)) (scene : Scene) →
      PlaysOn network switch manager host plan run_limits (records_walked captures) lines end scene →
      PlaysTo switch manager host network (record { plan = plan; lines = lines; captures = files_of captures }) end scene
  plays_to plan captures lines end scene plays =
      subst (λ records. PlaysOn network switch manager host plan run_limits records lines end scene) (records_are captures) plays

  -- the same, from what the player says
  pub plays_over : (plan : Plan) (captures cs : List Capture) (lines ls : List ScriptLine) (begins scene : Scene) (end : Option (ℕ × Stop)) →
      cs ≡ captures → ls ≡ lines → begins ≡ first_scene plan run_limits → DoesLines switch manager host (records_walked cs) ls (left_on network begins) end scene →
      PlaysTo switch manager host network (record { plan = plan; lines = lines; captures = files_of captures }) end scene
  plays_over plan captures cs lines ls begins scene end walked read begun does =
      plays_to plan captures lines end scene
      (subst (λ b. DoesLines switch manager host (records_walked captures) lines b end scene) (ap (left_on network) begun ∙ left_first network plan)
      (subst (λ l. DoesLines switch manager host (records_walked captures) l (left_on network begins) end scene) read
      (subst (λ c. DoesLines switch manager host (records_walked c) ls (left_on network begins) end scene) walked does)))

  -- what the laws say of a script that was played to its end
  pub record AreLaws (play : Play) (i : Inputs) : Type 0 where
    pub run : (scene : Scene) → play.leads i None scene → (moments : List Stretch) × WorldRun switch manager host (booted i.plan run_limits) moments scene.world
    pub wiring : (moments : List Stretch) (new : WorldView) → WorldRun switch manager host (booted i.plan run_limits) moments new → new.plan ≡ i.plan
    pub savable : (moments : List Stretch) (new : WorldView) → WorldRun switch manager host (booted i.plan run_limits) moments new →
        All (IsSavable i.plan) new.journal
    pub known : (scene : Scene) → play.leads i None scene → play.known i scene

  pub played_to : (play : Play) (i : Inputs) (p : Played) → AreLaws play i → length i.captures ≡ length i.plan.hosts → IsPlayedOver play.leads i p → IsPlayedTo play i p
  played_to play i p laws many over =
      let run = laws.run p.fabric over.played in
      let same : p.fabric.world.plan ≡ i.plan = laws.wiring run.0 p.fabric.world run.1 in
      record {
        over = over;
        plan = same;
        savable = subst (λ plan. All (IsSavable plan) p.fabric.world.journal) (sym same) (laws.savable run.0 p.fabric.world run.1);
        known = laws.known p.fabric over.played;
        many = as_many p.captures ∙ ap (λ fs. length fs) over.captures ∙ many ∙ ap (λ (plan : Plan). length plan.hosts) (sym same);
      }

module _ (play : Play) (i : Inputs) (p : Played) (to : IsPlayedTo play i p) (settled : Bool) where
  -- what is saved of it
  abbrev pub is_played : IsTrue settled ↔ play.rests p.fabric.world → IsPlayed play i
  is_played is = record { scene = p.fabric; played = to.over.played; wiring = to.plan; known = to.known; settled = settled; is_settled = is }

  summary_as : summary_by p settled ≡ summary_of i p.fabric settled
  summary_as =
      ap (λ plan. summary_text plan p.fabric.world.journal p.fabric.world.steps (rests_from 0 (files_of p.captures) p.fabric) settled) to.plan
      ∙ ap (λ files. summary_text i.plan p.fabric.world.journal p.fabric.world.steps (rests_from 0 files p.fabric) settled) to.over.captures

  pub texts_are : (out : List ℕ) → texts_by out p settled ≡ saved_texts out i.plan p.fabric.world.journal (summary_of i p.fabric settled)
  texts_are out =
      ap (λ plan. saved_texts out plan p.fabric.world.journal (summary_by p settled)) to.plan
      ∙ ap (λ t. saved_texts out i.plan p.fabric.world.journal t) summary_as

  pub printed_is : printed_by p settled ≡ record { name = standard_output; text = summary_of i p.fabric settled } ∷ []
  printed_is = ap (λ (text : List ℕ). let first : Saving = record { name = standard_output; text = text } in first ∷ []) summary_as

-- What comes of what was played, once its texts were saved, or a write failed.
comes_so : (play : Play) (old new : ShelfMoment) (i : Inputs) (known : IsPlayed play i → Type 0) (texts : IsPlayed play i → List Saving) (is : IsPlayed play i)
    (savings : List Saving) → savings ≡ texts is → (e : Status) → (e ≡ status.Done → known is) → EndsSaving old new savings e → Comes play old new i known texts e
comes_so play old new i known texts is savings are status.Done then ends = (is, subst (λ s. Saves old new s) are ends, then refl)
comes_so play old new i known texts is savings are (status.WriteFault name) then ends = (is, subst (λ s. SavingFails old new s name) are ends)
comes_so play old new i known texts is savings are status.OutOfMemory then ends = ends
comes_so play old new i known texts is savings are status.Usage then ends = absurd ends
comes_so play old new i known texts is savings are (status.NotLegal entry) then ends = absurd ends
comes_so play old new i known texts is savings are (status.BadJournal line) then ends = absurd ends
comes_so play old new i known texts is savings are (status.ReadFault name) then ends = absurd ends
comes_so play old new i known texts is savings are (status.TooLong name) then ends = absurd ends
comes_so play old new i known texts is savings are (status.BadTopology reason) then ends = absurd ends
comes_so play old new i known texts is savings are (status.BadScript line reason) then ends = absurd ends
comes_so play old new i known texts is savings are (status.BadCapture host e at) then ends = absurd ends
comes_so play old new i known texts is savings are (status.BadSection host e) then ends = absurd ends
comes_so play old new i known texts is savings are (status.ExpectFailed line) then ends = absurd ends
comes_so play old new i known texts is savings are (status.Refused line reason) then ends = absurd ends
comes_so play old new i known texts is savings are (status.StepsSpent line) then ends = absurd ends
comes_so play old new i known texts is savings are (status.JournalFull line) then ends = absurd ends

pub saved_comes : (play : Play) (old new : ShelfMoment) (i : Inputs) (p : Played) (to : IsPlayedTo play i p) (settled : Bool) → IsTrue settled ↔ play.rests p.fabric.world →
    (out : List ℕ) (e : Status) → (e ≡ status.Done → All Fits p.fabric.world.journal) → EndsSaving old new (texts_by out p settled) e →
    Comes play old new i (fits_of play i) (texts_of play out i) e
saved_comes play old new i p to settled is out e fit ends =
    comes_so play old new i (fits_of play i) (texts_of play out i) (is_played play i p to settled is) (texts_by out p settled) (texts_are play i p to settled out) e
    (λ done. record { savable = subst (λ (plan : Plan). All (IsSavable plan) p.fabric.world.journal) to.plan to.savable; fits = fit done }) ends

pub printed_comes : (play : Play) (old new : ShelfMoment) (i : Inputs) (p : Played) (to : IsPlayedTo play i p) (settled : Bool) → IsTrue settled ↔ play.rests p.fabric.world →
    (e : Status) → EndsSaving old new (printed_by p settled) e → Comes play old new i (nothing_of play i) (printed_of play i) e
printed_comes play old new i p to settled is e ends =
    comes_so play old new i (nothing_of play i) (printed_of play i) (is_played play i p to settled is) (printed_by p settled) (printed_is play i p to settled) e
    (λ done. tt) ends
