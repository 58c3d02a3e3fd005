-- Links that fail and are repaired, items that are lost, and hosts that move.
use Rattle.std.specs.Prelude.{ℕ, ◌==◌, ◌&&◌, ◌||◌, Bool, true, false, None, Option, find, slice_set}
use Rattle.pl_wiring.specs.declared.link.Link.{Link}
use Rattle.pl_wiring.specs.Index.{port_index}
use Rattle.pl_wiring.specs.LiveLinks.{LivePorts}
use Rattle.pl_wiring.specs.Plan.{Plan}
use Rattle.pl_journal.specs.declared.cause.Cause.TheVariants as cause
use Rattle.pl_journal.specs.declared.entry.Entry.TheVariants.{Dropped, LinkDown, LinkUp, Moved}
use Rattle.pl_world.specs.declared.item.Item.{Item}
use Rattle.pl_world.specs.declared.item.Item.TheVariants.{Control, Data}
use Rattle.pl_world.specs.declared.attachment.AttachmentPoint.{AttachmentPoint}
use Rattle.pl_world.specs.Changes.{emptied_from_host, emptied_out, host_no, noted}
use Rattle.pl_world.specs.Worlds.{WorldView}

abbrev pub joins : ℕ → ℕ → Link → Bool
joins a b link = ((link.lower.0 == a) && (link.upper.0 == b)) || ((link.lower.0 == b) && (link.upper.0 == a))

-- the link of two switches, in either order
abbrev pub link_between : Plan → ℕ → ℕ → Option Link
link_between plan a b = find (joins a b) plan.links

-- a link is live, or failed, at both its ends
abbrev pub with_link : LivePorts → Link → Bool → LivePorts
with_link links link live = record links {
  flags = slice_set
      (slice_set links.flags (port_index links.k link.lower.0 link.lower_port) live)
      (port_index links.k link.upper.0 link.upper_port) live;
}

-- A link fails: the data frames in its queues end, those on their way up first, and control frames vanish. The lower end of a link is the
-- earlier one in label order.
abbrev pub link_failed : WorldView → Link → WorldView
link_failed w link =
    emptied_out
    (emptied_out (noted (record w { links = with_link w.links link false }) (LinkDown link.lower link.upper))
    link.lower.0 link.lower_port cause.LinkDown)
    link.upper.0 link.upper_port cause.LinkDown

-- a link is repaired
abbrev pub link_repaired : WorldView → Link → WorldView
link_repaired w link = noted (record w { links = with_link w.links link true }) (LinkUp link.lower link.upper)

-- an item is lost: a data frame ends, a control frame vanishes
abbrev pub item_lost : WorldView → Item → WorldView
item_lost w (Control frame) = w
item_lost w (Data id frame) = noted w (Dropped id cause.Lost)

-- A host leaves its port for another one. The frames in its queue and in the queue to it end; it was not heard yet where it comes to.
abbrev pub host_moved : WorldView → ℕ → AttachmentPoint → AttachmentPoint → WorldView
host_moved w h from to =
    emptied_out
    (emptied_from_host
    (noted (record w { attachments = slice_set w.attachments h to; heard = slice_set w.heard h None }) (Moved (host_no h) to.edge to.port))
    h cause.HostGone)
    from.edge.0 from.port cause.HostGone
