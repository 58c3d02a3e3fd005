-- Where the frames of a world are: each that began has ended once, or is in one place of one queue.
use Rattle.std.specs.Prelude.{◌≡◌, ◌<◌, ℕ, ◌+◌, ◌*◌, ◌==◌, ◌&&◌, nat_le, Bool, true, false, if◌then◌else◌, List, [], ◌∷◌, length}
use Rattle.std.specs.List.{AllByRecursion}
use Rattle.pl_wiring.specs.Labels.{switch_count}
use Rattle.pl_wiring.specs.LiveLinks.{IsFor}
use Rattle.pl_wiring.specs.Plan.{IsPlan}
use Rattle.pl_node.specs.Accounting.{IsShaped, IsWholeFrame}
use Rattle.pl_layouts.specs.Control.{is_control}
use Rattle.pl_journal.specs.Flights.{begun, ends}
use Rattle.pl_node.specs.HostDuties.{HoldsData}
use Rattle.pl_world.specs.declared.item.Item.{Item}
use Rattle.pl_world.specs.declared.item.Item.TheVariants.{Control, Data}
use Rattle.pl_world.specs.declared.attachment.AttachmentPoint.{AttachmentPoint}
use Rattle.pl_world.specs.Worlds.{WorldView}

-- how often a data frame stands in a queue
abbrev pub times_in : ℕ → List Item → ℕ
times_in id [] = 0
times_in id (Control frame ∷ items) = times_in id items
times_in id (Data number frame ∷ items) = if number == id then times_in id items + 1 else times_in id items

abbrev pub times_in_all : ℕ → List (List Item) → ℕ
times_in_all id [] = 0
times_in_all id (queue ∷ queues) = times_in id queue + times_in_all id queues

-- in how many places of queues a frame is
abbrev pub flying : ℕ → WorldView → ℕ
flying id w = times_in_all id w.from_hosts + times_in_all id w.out

-- frames are numbered from 1
abbrev pub born : ℕ → ℕ → ℕ
born id many = if nat_le 1 id && nat_le id many then 1 else 0

-- a control frame, or a data frame, of 14 to 65,553 bytes
pub record IsFrame (control : Bool) (frame : List ℕ) : Type 0 where
  pub kind : is_control frame ≡ control
  pub whole : IsWholeFrame frame

abbrev pub IsItem : Item → Type 0
IsItem (Control frame) = IsFrame true frame
IsItem (Data id frame) = IsFrame false frame

-- what waits in a queue of a host: a data frame
abbrev pub IsDataItem : Item → Type 0
IsDataItem (Control frame) = ⊥
IsDataItem (Data id frame) = IsFrame false frame

-- a port that a fat tree of switches with k ports has
pub record IsTreePort (k : ℕ) (attachment : AttachmentPoint) : Type 0 where
  pub edge : attachment.edge.0 < switch_count k
  pub port : attachment.port < k

-- There is one of each for each host, switch and port of the wiring.
pub record IsFormed (w : WorldView) : Type 0 where
  pub plan : IsPlan w.plan
  pub links : IsFor w.plan w.links
  pub attachments : length w.attachments ≡ length w.plan.hosts
  pub at_ports : AllByRecursion (IsTreePort w.plan.k) w.attachments
  pub heard : length w.heard ≡ length w.plan.hosts
  pub switches : length w.switches ≡ switch_count w.plan.k
  pub ports : AllByRecursion (λ v. v.k ≡ w.plan.k) w.switches
  pub hosts : length w.hosts ≡ length w.plan.hosts
  pub from_hosts : length w.from_hosts ≡ length w.plan.hosts
  pub out : length w.out ≡ switch_count w.plan.k * w.plan.k
  pub to_manager : length w.to_manager ≡ switch_count w.plan.k
  pub from_manager : length w.from_manager ≡ switch_count w.plan.k

-- Each frame that began has ended once, or is in one place of one queue.
pub record IsCounted (w : WorldView) : Type 0 where
  pub formed : IsFormed w
  pub shaped : AllByRecursion IsShaped w.switches
  pub holding : AllByRecursion HoldsData w.hosts
  pub in_host_queues : AllByRecursion (AllByRecursion IsDataItem) w.from_hosts
  pub in_port_queues : AllByRecursion (AllByRecursion IsItem) w.out
  -- frames are numbered as the journal begins them
  pub begun : begun w.journal ≡ w.begun
  pub flights : (id : ℕ) → ends w.journal id + flying id w ≡ born id w.begun
