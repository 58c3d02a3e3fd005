-- Moves and grants by numbers and tables. The entries that are past have the newest first.
use Rattle.std.specs.Prelude.{ℕ, ◌+◌, ◌==◌, Bool, true, if◌then◌else◌, List, [], ◌∷◌, length, Option, Some, None}
use Rattle.pl_pmac.specs.declared.pmac.Pmac.{Pmac}
use Rattle.pl_journal.specs.declared.entry.Entry.{Entry}
use Rattle.pl_journal.specs.declared.entry.Entry.TheVariants.{Copied, Granted, Moved, Sent}
use Rattle.pl_journal.specs.Places.{same_pod_and_position}
use Rattle.pl_journal.specs.Flights.{before_copy}

abbrev pub sent_at : List Entry → ℕ → ℕ
sent_at [] id = 0
sent_at (Sent g h f ∷ past) id = if g == id then length past + 1 else sent_at past id
sent_at (Copied g c ∷ past) id = sent_at past (before_copy g c id)
sent_at (entry ∷ past) id = sent_at past id

abbrev pub moved_at : List Entry → ℕ → ℕ
moved_at [] host = 0
moved_at (Moved h e p ∷ past) host = if h.0 == host then length past + 1 else moved_at past host
moved_at (entry ∷ past) host = moved_at past host

-- the edge switch of an address's pod and position, and an address of an edge switch, by the last grants
abbrev pub edge_of : List Entry → Pmac → Option ℕ
edge_of [] x = None
edge_of (Granted y h e p ∷ past) x = if same_pod_and_position x y then Some e.0 else edge_of past x
edge_of (entry ∷ past) x = edge_of past x

abbrev pub address_of_edge : List Entry → ℕ → Option Pmac
address_of_edge [] edge = None
address_of_edge (Granted y h e p ∷ past) edge = if e.0 == edge then Some y else address_of_edge past edge
address_of_edge (entry ∷ past) edge = address_of_edge past edge

abbrev pub is_none_or : Option ℕ → ℕ → Bool
is_none_or None n = true
is_none_or (Some m) n = m == n

abbrev pub is_none_or_alike : Option Pmac → Pmac → Bool
is_none_or_alike None x = true
is_none_or_alike (Some y) x = same_pod_and_position x y
