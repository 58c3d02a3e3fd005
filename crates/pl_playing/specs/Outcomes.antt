-- What comes of inputs that are played.
use Rattle.std.specs.Prelude.{All, ◌≡◌, ◌≤◌, ◌↔◌, ℕ, suc, ◌-◌, Bool, IsTrue, List, [], ◌∷◌, length, map, slice_get, Option, None, Some}
use Rattle.std.specs.Option.{option_map_or}
use Rattle.pl_shelf.specs.Held.{Same, ShelfMoment, standard_output}
use Rattle.pl_shelf.specs.Faults.{Rose}
use Rattle.pl_inputs.specs.declared.status.Status.{Status}
use Rattle.pl_inputs.specs.Inputs.{Inputs}
use Rattle.pl_inputs.specs.Records.{Recorded, records_in_file, tail_of_file}
use Rattle.pl_wiring.specs.Plan.{Plan}
use Rattle.pl_journal.specs.declared.entry.Entry.{Entry}
use Rattle.pl_journal.specs.Ranges.{Fits}
use Rattle.pl_journal.specs.Savable.{IsSavable}
use Rattle.pl_node.specs.HostViews.{held_count}
use Rattle.pl_world.specs.declared.error.StepError.{StepError}
use Rattle.pl_world.specs.declared.limits.Limits.{Limits}
use Rattle.pl_world.specs.Worlds.{WorldView}
use Rattle.pl_script_rule.specs.declared.stop.Stop.{Stop}
use Rattle.pl_script_rule.specs.declared.stop.Stop.TheVariants.{ExpectFailed, Refused}
use Rattle.pl_script_rule.specs.Scenes.{Scene, asked_of}
use Rattle.pl_output.specs.declared.summary.Rest.{Rest}
use Rattle.pl_output.specs.Receipts.{saved_texts}
use Rattle.pl_output.specs.Saved.{AreSaved, BreaksOff, Saving}
use Rattle.pl_output.specs.Summary.{summary_text}
use Rattle.pl_inputs.specs.declared.status.Status.TheVariants as status
use Rattle.pl_inputs.specs.declared.step.StepReason.TheVariants as step
use Rattle.pl_world.specs.declared.error.StepError.TheVariants as error

-- each entry can be saved, and is one that the types of its parts can hold
pub record AreWritable (plan : Plan) (journal : List Entry) : Type 0 where
  pub savable : All (IsSavable plan) journal
  pub fits : All Fits journal

-- how long a run may become
abbrev pub run_limits : Limits
run_limits = record { steps = 50000000; entries = 5000000; bytes = 268435456 }

-- for each host the records of its capture
abbrev pub records_of : Inputs → List (List Recorded)
records_of i = map records_in_file i.captures

-- what is left of each host at the end, the first of them with this number
abbrev pub held_at : Scene → ℕ → ℕ
held_at scene n = option_map_or held_count (slice_get scene.world.hosts n) 0

abbrev pub rests_from : ℕ → List (List ℕ) → Scene → List Rest
rests_from n [] scene = []
rests_from n (file ∷ files) scene =
    record { held = held_at scene n; unread = length (records_in_file file) - asked_of scene n; tail = tail_of_file file }
    ∷ rests_from (suc n) files scene

abbrev pub summary_of : Inputs → Scene → Bool → List ℕ
summary_of i scene settled = summary_text i.plan scene.world.journal scene.world.steps (rests_from 0 i.captures scene) settled

-- each name holds what it held, and no call failed
pub record IsUntouched (old new : ShelfMoment) : Type 0 where
  pub same : Same old.held new.held
  pub reads : new.read_faults ≡ old.read_faults
  pub writes : new.write_faults ≡ old.write_faults

pub record ReadFails (old new : ShelfMoment) : Type 0 where
  pub same : Same old.held new.held
  pub grows : old.read_faults ≤ new.read_faults
  pub rose : Rose old.read_faults new.read_faults
  pub writes : new.write_faults ≡ old.write_faults

-- these texts were saved, and no call failed
pub record Saves (old new : ShelfMoment) (savings : List Saving) : Type 0 where
  pub saved : AreSaved old.held new.held savings
  pub reads : new.read_faults ≡ old.read_faults
  pub writes : new.write_faults ≡ old.write_faults

-- a write of them failed, under this name
pub record SavingFails (old new : ShelfMoment) (savings : List Saving) (name : List ℕ) : Type 0 where
  pub saved : BreaksOff old.held new.held savings name
  pub reads : new.read_faults ≡ old.read_faults
  pub grows : old.write_faults ≤ new.write_faults
  pub rose : Rose old.write_faults new.write_faults

-- what is answered for a refused step of a line
abbrev pub refused_at : ℕ → StepError → Status
refused_at line error.StepsSpent = status.StepsSpent line
refused_at line error.JournalFull = status.JournalFull line
refused_at line error.NoSuch = status.Refused line step.NoSuch
refused_at line error.Occupied = status.Refused line step.Occupied
refused_at line error.AlreadySo = status.Refused line step.AlreadySo
refused_at line error.NothingThere = status.Refused line step.NothingThere
refused_at line error.Memory = status.OutOfMemory

-- what is answered for a script that ended so
abbrev pub outcome : Option (ℕ × Stop) → Status
outcome None = status.Done
outcome (Some (line, ExpectFailed)) = status.ExpectFailed line
outcome (Some (line, Refused reason)) = refused_at line reason

-- what a script makes of what was read: at which scene it ends, and why it was stopped, if it was
abbrev pub Course : Type 1
Course = Inputs → Option (ℕ × Stop) → Scene → Type 0

-- What a network makes of a script, what is known of a scene in which a script ended, and when a world is settled.
pub record Play : Type 1 where
  pub leads : Course
  pub known : Inputs → Scene → Type 0
  pub rests : WorldView → Type 0

-- the script was stopped, and this is what is answered for it
pub record IsStopped (leads : Course) (i : Inputs) (e : Status) : Type 0 where
  pub stopped : ℕ × Stop
  pub scene : Scene
  pub played : leads i (Some stopped) scene
  pub answered : e ≡ outcome (Some stopped)

-- these texts were to be saved of what was played
abbrev pub EndsSaving : ShelfMoment → ShelfMoment → List Saving → Status → Type 0
EndsSaving old new savings status.Done = Saves old new savings
EndsSaving old new savings (status.WriteFault name) = SavingFails old new savings name
EndsSaving old new savings status.OutOfMemory = IsUntouched old new
EndsSaving old new savings e = ⊥

module _ (play : Play) where
  -- Inputs that were played to the end of the script, what is known then, and whether the world is settled.
  pub record IsPlayed (i : Inputs) : Type 0 where
    pub scene : Scene
    pub played : play.leads i None scene
    pub wiring : scene.world.plan ≡ i.plan
    pub known : play.known i scene
    pub settled : Bool
    pub is_settled : IsTrue settled ↔ play.rests scene.world

  -- what is saved of them in this folder: the captures that the hosts receive, the journal and the summary
  abbrev pub texts_of : List ℕ → (i : Inputs) → IsPlayed i → List Saving
  texts_of out i is = saved_texts out i.plan is.scene.world.journal (summary_of i is.scene is.settled)

  -- the summary alone, on standard output
  abbrev pub printed_of : (i : Inputs) → IsPlayed i → List Saving
  printed_of i is = record { name = standard_output; text = summary_of i is.scene is.settled } ∷ []

  -- what is known of a journal that was printed; of one that was not, nothing more
  abbrev pub fits_of : (i : Inputs) → IsPlayed i → Type 0
  fits_of i is = AreWritable i.plan is.scene.world.journal

  abbrev pub nothing_of : (i : Inputs) → IsPlayed i → Type 0
  nothing_of i is = Unit {0}

  -- What comes of inputs that were read, of which these texts are saved once they were played, and this is known of them then. Want of
  -- memory has no cause that could be told, and it leaves all as it was, as each stop does.
  abbrev pub Comes : ShelfMoment → ShelfMoment → (i : Inputs) → (IsPlayed i → Type 0) → (IsPlayed i → List Saving) → Status → Type 0
  Comes old new i known texts status.Done = (is : IsPlayed i) × Saves old new (texts is) × known is
  Comes old new i known texts (status.WriteFault name) = (is : IsPlayed i) × SavingFails old new (texts is) name
  Comes old new i known texts status.OutOfMemory = IsUntouched old new
  Comes old new i known texts e = IsStopped play.leads i e × IsUntouched old new
