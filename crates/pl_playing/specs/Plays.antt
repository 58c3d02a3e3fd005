-- What comes of inputs that were read.
use Rattle.std.specs.Prelude.{◌≡◌, ℕ, Bool, List, [], ◌∷◌, All, Result, Ok, Err, None, length}
use Rattle.pl_inputs.specs.declared.status.Status.{Status}
use Rattle.pl_inputs.specs.Inputs.{Inputs}
use Rattle.pl_inputs.specs.Loaded.{files_of}
use Rattle.pl_journal.specs.Savable.{IsSavable}
use Rattle.pl_world.specs.Flying.{IsCounted}
use Rattle.pl_script_rule.specs.Scenes.{Scene}
use Rattle.pl_output.specs.Receipts.{saved_texts}
use Rattle.pl_output.specs.Saved.{Saving}
use Rattle.pl_output.specs.Summary.{summary_text}
use Rattle.pl_shelf.specs.Held.{standard_output}
use Rattle.pl_inputs.specs.declared.status.Status.TheVariants as status
use Rattle.pl_inputs.specs.declared.capture.Capture.{Capture}
use Rattle.pl_playing.specs.Outcomes.{Course, IsStopped, Play, rests_from}

-- what was played, and the captures that it was played over
pub record Played : Type 0 where
  pub fabric : Scene
  pub captures : List Capture

abbrev pub played_over : Scene → List Capture → Played
played_over fabric captures = record { fabric = fabric; captures = captures }

-- the summary of what was played, by what it was played over
abbrev pub summary_by : Played → Bool → List ℕ
summary_by p settled =
    summary_text p.fabric.world.plan p.fabric.world.journal p.fabric.world.steps (rests_from 0 (files_of p.captures) p.fabric) settled

-- the answer of a call that gives nothing else
abbrev pub answer_of : {T : Type 0} → Result T Status → Status
answer_of (Ok u) = status.Done
answer_of (Err e) = e

-- what is saved of it in this folder, or printed
abbrev pub texts_by : List ℕ → Played → Bool → List Saving
texts_by out p settled = saved_texts out p.fabric.world.plan p.fabric.world.journal (summary_by p settled)

abbrev pub printed_by : Played → Bool → List Saving
printed_by p settled = record { name = standard_output; text = summary_by p settled } ∷ []

module _ (leads : Course) where
  -- they were not played to the end of the script
  abbrev pub IsUnplayed : Inputs → Status → Type 0
  IsUnplayed i status.OutOfMemory = Unit {0}
  IsUnplayed i e = IsStopped leads i e

  -- they were, over these captures
  pub record IsPlayedOver (i : Inputs) (p : Played) : Type 0 where
    pub played : leads i None p.fabric
    pub captures : files_of p.captures ≡ i.captures
    pub counted : IsCounted p.fabric.world

-- and what is needed of it to save it
pub record IsPlayedTo (play : Play) (i : Inputs) (p : Played) : Type 0 where
  pub over : IsPlayedOver play.leads i p
  pub plan : p.fabric.world.plan ≡ i.plan
  pub savable : All (IsSavable p.fabric.world.plan) p.fabric.world.journal
  pub known : play.known i p.fabric
  pub many : length p.captures ≡ length p.fabric.world.plan.hosts
