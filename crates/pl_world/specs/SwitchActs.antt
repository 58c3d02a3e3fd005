-- What the acts of a switch bring about.
use Rattle.std.specs.Prelude.{ℕ, ◌+◌, Bool, true, false, if◌then◌else◌, List, [], ◌∷◌, ◌++◌, fold, Option, Some, None, slice_set}
use Rattle.pl_pmac.specs.declared.pmac.Pmac.{Pmac}
use Rattle.pl_node.specs.declared.acts.Act.{Act}
use Rattle.pl_node.specs.declared.acts.Act.TheVariants as act
use Rattle.pl_journal.specs.declared.cause.Cause.TheVariants.{LinkDown}
use Rattle.pl_journal.specs.declared.entry.Entry.{Entry}
use Rattle.pl_journal.specs.declared.entry.Entry.TheVariants.{Copied, Crossed, Dropped, Freed, Granted, Made, Placed, Redirected, Taken}
use Rattle.pl_layouts.specs.declared.place.Place.{Place}
use Rattle.pl_node.specs.SwitchViews.{SwitchView}
use Rattle.pl_layouts.specs.Placement.{same_place}
use Rattle.pl_world.specs.declared.progress.ActsProgress.{ActsProgress}
use Rattle.pl_world.specs.declared.item.Item.TheVariants.{Control, Data}
use Rattle.pl_world.specs.declared.spoken_frame.SpokenFrame.{SpokenFrame}
use Rattle.pl_world.specs.declared.spoken_frame.SpokenFrame.TheVariants.{Over, Passed, Waiting}
use Rattle.pl_world.specs.Changes.{all_noted, begun_by, host_no, host_of, is_failed_at, noted, sent_if_live, switch_no, told_manager}
use Rattle.pl_world.specs.Worlds.{WorldView}

-- The world amid the acts of a switch: of which frame they speak by now, and the ends of frames that met a failed link. These ends are
-- written behind the last copy.
pub record DuringActs : Type 0 where
  pub world : WorldView
  pub speech : SpokenFrame
  pub late : List Entry

abbrev pub begins : WorldView → SpokenFrame → DuringActs
begins w speech = record { world = w; speech = speech; late = [] }

abbrev pub amid : WorldView → ActsProgress → DuringActs
amid w progress = record { world = w; speech = progress.speech; late = progress.late }

-- the same frame is spoken of, in another world
abbrev pub in_world : DuringActs → WorldView → DuringActs
in_world d w = record { world = w; speech = d.speech; late = d.late }

-- the ends that were put off are written
abbrev pub with_late : DuringActs → WorldView
with_late d = all_noted d.world d.late

abbrev pub granted : WorldView → ℕ → Pmac → Option ℕ → WorldView
granted w s pmac None = w
granted w s pmac (Some h) = noted w (Granted pmac (host_no h) (switch_no s) pmac.port)

-- a frame of the switch's own begins there
abbrev pub made : ℕ → DuringActs → List ℕ → DuringActs
made s d frame = record {
  world = noted (begun_by (with_late d) (Made (d.world.begun + 1) (switch_no s) frame)) (Crossed (d.world.begun + 1) (switch_no s));
  speech = Waiting (d.world.begun + 1) false;
  late = [];
}

abbrev pub redirected : DuringActs → Pmac → Pmac → SpokenFrame → DuringActs
redirected d old new (Waiting id again) = record {
  world = noted d.world (Redirected id old new);
  speech = Waiting id true;
  late = d.late;
}
redirected d old new speech = d

-- a frame that was redirected crosses the switch once more before it goes on, or ends
abbrev pub crossed_again : WorldView → ℕ → ℕ → Bool → WorldView
crossed_again w s id again = all_noted w (if again then Crossed id (switch_no s) ∷ [] else [])

-- the frame leaves by a port; where the link is failed it ends there
abbrev pub goes_out : ℕ → DuringActs → ℕ → ℕ → List ℕ → DuringActs
goes_out s d id port frame = record {
  world = sent_if_live d.world s port (Data id frame);
  speech = Passed id;
  late = if is_failed_at d.world s port then d.late ++ Dropped id LinkDown ∷ [] else d.late;
}

-- the first time it goes out under its number, then as a copy under a number of its own
abbrev pub passed : ℕ → DuringActs → ℕ → List ℕ → SpokenFrame → DuringActs
passed s d port frame (Waiting id again) = goes_out s (in_world d (crossed_again d.world s id again)) id port frame
passed s d port frame (Passed id) =
    record (goes_out s (in_world d (begun_by d.world (Copied id (d.world.begun + 1)))) (d.world.begun + 1) port frame) { speech = Passed id }
passed s d port frame speech = d

abbrev pub ended : ℕ → DuringActs → (ℕ → Entry) → SpokenFrame → DuringActs
ended s d end (Waiting id again) = record { world = noted (crossed_again d.world s id again) (end id); speech = Over; late = d.late }
ended s d end speech = d

-- what one act of switch number s brings about
abbrev pub act_done : ℕ → DuringActs → Act → DuringActs
act_done s d (act.Control port frame) = in_world d (sent_if_live d.world s port (Control frame))
act_done s d (act.Tell told) = in_world d (told_manager d.world s told)
act_done s d (act.Grant pmac amac) = in_world d (granted d.world s pmac (host_of d.world.plan amac))
act_done s d (act.Free pmac) = in_world d (noted d.world (Freed pmac))
act_done s d (act.Make frame) = made s d frame
act_done s d (act.Redirect old new) = redirected d old new d.speech
act_done s d (act.Pass port frame) = passed s d port frame d.speech
act_done s d act.Take = ended s d (λ id. Taken id (switch_no s)) d.speech
act_done s d (act.Drop cause) = ended s d (λ id. Dropped id cause) d.speech

-- all its acts, in order
abbrev pub acts_done : ℕ → DuringActs → List Act → DuringActs
acts_done s = fold (act_done s)

-- a place that changed is the last thing that is written
abbrev pub place_noted : ℕ → Place → Place → WorldView → WorldView
place_noted s old new w = all_noted w (if same_place old new then [] else Placed (switch_no s) new ∷ [])

-- a switch steps from one view to another, with these acts
abbrev pub switch_stepped : WorldView → ℕ → SwitchView → SwitchView → SpokenFrame → List Act → WorldView
switch_stepped w s before after speech acts =
    place_noted s before.place after.place (with_late (acts_done s (begins (record w { switches = slice_set w.switches s after }) speech) acts))
