-- What is kept of frames.
use Rattle.std.specs.Prelude.{◌≡◌, ℕ, ◌+◌, ◌*◌, ◌≤◌, List, length, take, drop, Option, Some, None, slice_get}
use Rattle.std.specs.Option.{option_map}
use Rattle.hex.specs.Hex.{IsBytes, encode_lower}
use Rattle.pl_frame.specs.Ethernet.{destination_of}
use Rattle.pl_layouts.specs.Memberships.{group_of}
use Rattle.pl_layouts.specs.Frames.{is_takeable}
use Rattle.pl_frame.specs.declared.address.Mac.{Mac}
use Rattle.pl_pmac.specs.declared.pmac.Pmac.{Pmac}
use Rattle.pl_pmac.specs.Pmac.{mac_of}
use Rattle.pl_wiring.specs.Plan.{Plan}
use Rattle.pl_journal.specs.declared.entry.Entry.{Entry}
use Rattle.pl_journal.specs.Causes.{is_bad_arp}
use Rattle.pl_journal.specs.Flights.{begun}
use Rattle.pl_past.specs.Kept.{Kept, kept}
use Rattle.pl_past_tables.specs.declared.row.Carried.{Carried}
use Rattle.pl_past_tables.specs.declared.row.Row.{Row}
use Rattle.pl_past_tables.specs.Keys.{edge_port_at}
use Rattle.pl_past_tables.specs.Legs.{switches_of, trail_of}

-- the digits of these bytes stand in the text, and this is what is asked of them
pub record IsCarried (text : List ℕ) (carried : Carried) (bytes : List ℕ) : Type 0 where
  pub spelled : take (2 * length bytes) (drop carried.from text) ≡ encode_lower bytes
  pub are_bytes : IsBytes bytes
  pub many : carried.length ≡ length bytes
  pub least : 14 ≤ length bytes
  pub most : length bytes ≤ 65553
  pub group : carried.group ≡ group_of (destination_of bytes)
  pub takeable : carried.takeable ≡ is_takeable bytes
  pub bad_arp : carried.bad_arp ≡ is_bad_arp bytes

-- a row of the table is what is kept of a frame
pub record IsRow (text : List ℕ) (row : Row) (frame : Kept) : Type 0 where
  pub root : row.root ≡ frame.root
  pub sender : option_map (λ h. h.0) row.sender ≡ frame.sender
  pub carried : IsCarried text row.carried frame.beginning
  pub address : row.address ≡ frame.address
  pub redirected : row.redirected ≡ frame.redirected
  pub leg : switches_of row.leg ≡ frame.leg
  pub trail : trail_of row.trail ≡ frame.trail
  pub came_in : option_map edge_port_at row.came_in ≡ frame.came_in
  pub source : row.source ≡ frame.source
  pub crossed : row.crossed ≡ frame.crossed
  pub asked : row.asked ≡ frame.asked
  pub sent : row.sent ≡ frame.sent
  pub over : row.over ≡ frame.over

-- the rows of a table are those of the frames that have begun, in order
pub record KeepsFrames (plan : Plan) (text : List ℕ) (past : List Entry) (rows : List Row) : Type 0 where
  pub many : length rows ≡ begun past
  pub each : (n : ℕ) (row : Row) → slice_get rows n ≡ Some row → IsRow text row (kept plan past (n + 1))

-- the source that a host's frame arrives with; a frame that a switch made keeps its own
abbrev pub source_of_host : Option ℕ → Option Pmac → Option Mac
source_of_host (Some host) (Some x) = Some (mac_of x)
source_of_host sender source = None
