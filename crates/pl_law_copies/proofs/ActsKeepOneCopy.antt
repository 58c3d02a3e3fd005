-- The acts of a switch that passes no more on than came keep it that at each port at most one frame of each root comes.
use Rattle.std.proofs.Common.{ℕ, ◌≤◌, false, true, List, [], ◌∷◌, reverse, arith}
use Rattle.pl_wiring.specs.Plan.{Plan}
use Rattle.pl_journal.specs.declared.entry.Entry.{Entry}
use Rattle.pl_journal.specs.declared.entry.Entry.TheVariants.{Arrived, Copied, Crossed, Moved, Redirected}
use Rattle.pl_journal.specs.Places.{EdgePort}
use Rattle.pl_node.specs.declared.acts.Act.{Act}
use Rattle.pl_node.specs.declared.acts.Act.TheVariants as act
use Rattle.pl_world.specs.declared.spoken_frame.SpokenFrame.{SpokenFrame}
use Rattle.pl_world.specs.declared.spoken_frame.SpokenFrame.TheVariants.{Waiting}
use Rattle.pl_world.specs.Changes.{switch_no}
use Rattle.pl_world.specs.Worlds.{WorldView}
use Rattle.pl_law_counts.proofs.Exports.{IsPlain, KeptByActs, once_by, once_control, once_copied, once_made, once_noted, once_over, once_passed, once_unsent, OnceAmid, used}
use Rattle.pl_law_copies.specs.Copies.{came_to, may_come_by, to_ports}

-- an entry that copies nothing, and with which nothing arrives and no host moves
abbrev pub IsNoCopyEntry : Entry → Type 0
IsNoCopyEntry (Copied g c) = ⊥
IsNoCopyEntry (Arrived g h f) = ⊥
IsNoCopyEntry (Moved h s port) = ⊥
IsNoCopyEntry entry = Unit {0}

pub is_plain : (e : Entry) → IsNoCopyEntry e → IsPlain e
is_plain (Copied g c) quiet = absurd quiet
is_plain (Moved h s port) quiet = absurd quiet
is_plain e quiet = tt

pub none_comes : (plan : Plan) (past : List Entry) (e : Entry) → IsNoCopyEntry e → (r : ℕ) (there : EdgePort) → came_to plan (e ∷ past) r there ≤ came_to plan past r there
none_comes plan past (Arrived id h frame) quiet r there = absurd quiet
none_comes plan past e quiet r there = omega arith

-- of each frame that acts make they let at most one go to each port
abbrev pub MakesFew : Plan → ℕ → List Act → Type 0
MakesFew plan s [] = Unit {0}
MakesFew plan s (act.Make frame ∷ acts) = ((there : EdgePort) → used may_come_by plan s there acts ≤ 1) × MakesFew plan s acts
MakesFew plan s (a ∷ acts) = MakesFew plan s acts

makes_fewer : (plan : Plan) (s : ℕ) (a : Act) (acts : List Act) → MakesFew plan s (a ∷ acts) → MakesFew plan s acts
makes_fewer plan s (act.Make frame) acts few = few.1
makes_fewer plan s a acts few = few

-- amid the acts of switch s
abbrev pub IsKeptBy : ℕ → List Act → SpokenFrame → WorldView → Type 0
IsKeptBy s acts speech w = OnceAmid to_ports s acts speech w × MakesFew w.plan s acts

pub acts_keep : (s : ℕ) → KeptByActs s IsNoCopyEntry (IsKeptBy s)
acts_keep s = record {
  entry = λ acts speech w e quiet k. (once_noted to_ports s w acts speech e (is_plain e quiet) (none_comes w.plan (reverse w.journal) e quiet) k.0, k.1);
  dropped = λ id why. tt;
  taken = λ id. tt;
  placed = λ place. tt;
  granted = λ pmac h. tt;
  freed = λ pmac. tt;
  by = λ a acts speech w none k. (once_by to_ports s w a acts speech none k.0, makes_fewer w.plan s a acts k.1);
  over = λ acts speech w k. (once_over to_ports s w acts speech k.0, k.1);
  control = λ port frame acts speech w k. (once_control to_ports s w port frame acts speech k.0, k.1);
  tell = λ told acts speech w k. (once_by to_ports s w (act.Tell told) acts speech tt k.0, k.1);
  made = λ frame acts speech w k. (once_made to_ports s w frame acts speech k.1.0 (λ past id r there. omega arith) (λ past id r there. omega arith) k.0, k.1.1);
  redirected = λ old new acts id again w k. (
    once_noted to_ports s w acts (Waiting id true) (Redirected id old new) tt (λ r there. omega arith) (once_by to_ports s w (act.Redirect old new) acts (Waiting id again) tt k.0),
    k.1,
  );
  crossed = λ acts id w k. (once_noted to_ports s w acts (Waiting id false) (Crossed id (switch_no s)) tt (λ r there. omega arith) k.0, k.1);
  passed = λ port frame acts id w within live k. (once_passed to_ports s w port frame acts id within k.0, k.1);
  unsent = λ acts id w k. k;
  copied = λ port frame acts id w within new live k. (once_copied to_ports s w port frame acts id within new (λ r there. omega arith) k.0, k.1);
  copy_unsent = λ port frame acts id w new k. (once_unsent to_ports s w port frame acts id new (λ r there. omega arith) k.0, k.1);
}
