-- Acts of a switch leave what switches know as it was.
use Rattle.std.proofs.Common.{[], List, None, Option, refl, Some, ℕ, ◌∙◌, ◌∷◌, ◌≡◌}
use Rattle.pl_pmac.specs.declared.pmac.Pmac.{Pmac}
use Rattle.pl_journal.specs.declared.entry.Entry.{Entry}
use Rattle.pl_node.specs.declared.acts.Act.{Act}
use Rattle.pl_world.specs.Worlds.{WorldView}
use Rattle.pl_world.specs.SwitchActs.{act_done, acts_done, DuringActs, ended, granted, passed, redirected}
use Rattle.pl_world.specs.declared.spoken_frame.SpokenFrame.{SpokenFrame}
use Rattle.pl_world.specs.declared.spoken_frame.SpokenFrame.TheVariants.{Over, Passed, Silent, Waiting}
use Rattle.pl_world.specs.Changes.{host_of}
use Rattle.pl_node.specs.declared.acts.Act.TheVariants as act

pub granted_switches : (w : WorldView) (s : ℕ) (pmac : Pmac) (h : Option ℕ) → (granted w s pmac h).switches ≡ w.switches
granted_switches w s pmac None = refl
granted_switches w s pmac (Some h) = refl

pub redirected_switches : (d : DuringActs) (old new : Pmac) (speech : SpokenFrame) → (redirected d old new speech).world.switches ≡ d.world.switches
redirected_switches d old new Silent = refl
redirected_switches d old new (Waiting id again) = refl
redirected_switches d old new (Passed id) = refl
redirected_switches d old new Over = refl

pub passed_switches : (s : ℕ) (d : DuringActs) (port : ℕ) (frame : List ℕ) (speech : SpokenFrame) → (passed s d port frame speech).world.switches ≡ d.world.switches
passed_switches s d port frame Silent = refl
passed_switches s d port frame (Waiting id again) = refl
passed_switches s d port frame (Passed id) = refl
passed_switches s d port frame Over = refl

pub ended_switches : (s : ℕ) (d : DuringActs) (end : ℕ → Entry) (speech : SpokenFrame) → (ended s d end speech).world.switches ≡ d.world.switches
ended_switches s d end Silent = refl
ended_switches s d end (Waiting id again) = refl
ended_switches s d end (Passed id) = refl
ended_switches s d end Over = refl

pub act_switches : (s : ℕ) (d : DuringActs) (a : Act) → (act_done s d a).world.switches ≡ d.world.switches
act_switches s d (act.Control port frame) = refl
act_switches s d (act.Tell told) = refl
act_switches s d (act.Grant pmac amac) = granted_switches d.world s pmac (host_of d.world.plan amac)
act_switches s d (act.Free pmac) = refl
act_switches s d (act.Make frame) = refl
act_switches s d (act.Redirect old new) = redirected_switches d old new d.speech
act_switches s d (act.Pass port frame) = passed_switches s d port frame d.speech
act_switches s d act.Take = ended_switches s d _ d.speech
act_switches s d (act.Drop cause) = ended_switches s d _ d.speech

pub acts_switches : (s : ℕ) (d : DuringActs) (acts : List Act) → (acts_done s d acts).world.switches ≡ d.world.switches
acts_switches s d [] = refl
acts_switches s d (a ∷ acts) = acts_switches s (act_done s d a) acts ∙ act_switches s d a
