-- What the acts of a host and of the manager bring about.
use Rattle.std.specs.Prelude.{ℕ, ◌+◌, ◌==◌, nat_le, if◌then◌else◌, List, ◌∷◌, fold, is_some, Option, Some, None, slice_set}
use Rattle.pl_node.specs.declared.acts.HostAct.{HostAct}
use Rattle.pl_node.specs.declared.acts.HostAct.TheVariants.{Send}
use Rattle.pl_node.specs.declared.acts.ManagerAct.{ManagerAct}
use Rattle.pl_node.specs.declared.acts.ManagerAct.TheVariants.{Number, Say}
use Rattle.pl_journal.specs.declared.cause.Cause.TheVariants.{NoMember}
use Rattle.pl_journal.specs.declared.cause.Skip.{Skip}
use Rattle.pl_journal.specs.declared.entry.Entry.TheVariants.{Arrived, Dropped, Registered, Skipped}
use Rattle.pl_node.specs.declared.reception.Reception.{Reception}
use Rattle.pl_node.specs.declared.reception.Reception.TheVariants.{Kept, NotMember}
use Rattle.pl_layouts.specs.Frames.{packet_in}
use Rattle.pl_node.specs.HostViews.{HostView}
use Rattle.pl_node.specs.ManagerViews.{ManagerView}
use Rattle.pl_world.specs.declared.attachment.AttachmentPoint.{AttachmentPoint}
use Rattle.pl_world.specs.Changes.{host_no, noted, said_to_switch, sent_by_host}
use Rattle.pl_world.specs.Worlds.{WorldView}

abbrev pub host_act_done : ℕ → WorldView → HostAct → WorldView
host_act_done h w (Send frame) = sent_by_host w h frame

-- a host steps to another view, and its frames are sent
abbrev pub host_stepped : WorldView → ℕ → HostView → List HostAct → WorldView
host_stepped w h after acts = fold (host_act_done h) (record w { hosts = slice_set w.hosts h after }) acts

-- a recorded frame that is passed over is written down
abbrev pub skip_noted : WorldView → ℕ → Option Skip → WorldView
skip_noted w h None = w
skip_noted w h (Some skip) = noted w (Skipped (host_no h) skip)

-- a frame arrives, or ends at a host that is no member of its group
abbrev pub reception_noted : WorldView → ℕ → ℕ → List ℕ → Reception → WorldView
reception_noted w h id frame Kept = noted w (Arrived id (host_no h) frame)
reception_noted w h id frame NotMember = noted w (Dropped id NoMember)

abbrev pub manager_act_done : WorldView → ManagerAct → WorldView
manager_act_done w (Say to says) = said_to_switch w to says
manager_act_done w (Number pmac n) = noted w (Registered pmac n)

-- the manager steps to another view, and its acts are done
abbrev pub manager_stepped : WorldView → ManagerView → List ManagerAct → WorldView
manager_stepped w after acts = fold manager_act_done (record w { manager = after }) acts

-- A host is heard from its first readable ARP frame on. Any later data frame of it begins the count of ticks again.
abbrev pub heard_with : List ℕ → Option ℕ → Option ℕ
heard_with frame None = if is_some (packet_in frame) then Some 0 else None
heard_with frame (Some ticks) = Some 0

-- after so many ticks without a frame a host is heard no more
abbrev pub silent_ticks : ℕ
silent_ticks = 300

abbrev pub one_more_tick : Option ℕ → Option ℕ
one_more_tick None = None
one_more_tick (Some ticks) = if nat_le silent_ticks (ticks + 1) then None else Some (ticks + 1)

-- the ticks of a switch count for the hosts that stand there
abbrev pub heard_after_tick : ℕ → List AttachmentPoint → List (Option ℕ) → List (Option ℕ)
heard_after_tick s (attachment ∷ attachments) (ticks ∷ heard) =
    (if attachment.edge.0 == s then one_more_tick ticks else ticks) ∷ heard_after_tick s attachments heard
heard_after_tick s _ heard = heard
