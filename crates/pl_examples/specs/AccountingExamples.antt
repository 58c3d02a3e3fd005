-- What acts may say of the frame that they speak of.
use Rattle.std.specs.Prelude.{◌≡◌, [], ◌∷◌, refl}
use Rattle.std.proofs.Common.{lt_irrefl}
use Rattle.pl_pmac.specs.declared.pmac.Pmac.{Pmac}
use Rattle.pl_node.specs.declared.acts.Act.TheVariants.{Control, Grant as GrantAct, Pass, Redirect, Take, Tell}
use Rattle.pl_node.specs.declared.messages.ToManager.TheVariants.{PodWanted}
use Rattle.pl_node.specs.Accounting.{IsFit, frame_state}
use Rattle.pl_node.specs.Accounting.FrameState.{Ended, Passed, Waiting, Wrong}
use Rattle.pl_examples.specs.ExampleFrames.{mac_a, pmac_a, pmac_b}

-- the manager and the neighbours may be told behind the end of a frame, and between its copies
told_behind_the_end : frame_state Waiting (Take ∷ Tell PodWanted ∷ Control 0 [] ∷ []) ≡ Ended
told_behind_the_end = refl

told_between_copies : frame_state Waiting (Pass 0 [] ∷ Tell PodWanted ∷ Control 0 [] ∷ Pass 1 [] ∷ []) ≡ Passed
told_between_copies = refl

-- nothing is granted between a redirect and what follows it
granted_before_a_redirect : frame_state Waiting (GrantAct pmac_a mac_a ∷ Redirect pmac_a pmac_b ∷ Pass 0 [] ∷ []) ≡ Passed
granted_before_a_redirect = refl

granted_behind_a_redirect : frame_state Waiting (Redirect pmac_a pmac_b ∷ GrantAct pmac_a mac_a ∷ Pass 0 [] ∷ []) ≡ Wrong
granted_behind_a_redirect = refl

-- a switch of four ports grants no address at a fifth
abbrev pub at_a_fifth_port : Pmac
at_a_fifth_port = record pmac_a { port = 4 }

no_such_port : IsFit 4 (GrantAct at_a_fifth_port mac_a) → ⊥
no_such_port = lt_irrefl 4
