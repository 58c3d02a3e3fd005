-- How many frames of one root came to a target, and how many may still come to it, whatever the targets are: ports where frames arrive, switches that
-- they cross, ports out of which they go. The entries that are past have the newest first.
use Rattle.std.specs.Prelude.{◌≡◌, ◌≤◌, ◌<◌, ℕ, ◌+◌, ◌/◌, ◌%◌, ◌==◌, ◌&&◌, suc, Bool, if◌then◌else◌, List, [], ◌∷◌, Option, reverse, slice_get}
use Rattle.std.specs.Option.{option_map}
use Rattle.pl_wiring.specs.Plan.{Plan}
use Rattle.pl_journal.specs.declared.entry.Entry.{Entry}
use Rattle.pl_journal.specs.Flights.{root}
use Rattle.pl_journal.specs.Places.{EdgePort, at_port, edge_port_of}
use Rattle.pl_world.specs.declared.attachment.AttachmentPoint.{AttachmentPoint}
use Rattle.pl_world.specs.declared.item.Item.{Item}
use Rattle.pl_world.specs.declared.item.Item.TheVariants.{Control, Data}
use Rattle.pl_world.specs.Flying.{born}
use Rattle.pl_world.specs.Worlds.{WorldView}

-- how many data frames of a queue pass a test, by number and bytes
abbrev pub count_in : (ℕ → List ℕ → Bool) → List Item → ℕ
count_in test [] = 0
count_in test (Control frame ∷ items) = count_in test items
count_in test (Data id frame ∷ items) = if test id frame then suc (count_in test items) else count_in test items

-- and of all queues, each with a test of its own
abbrev pub count_all : (ℕ → ℕ → List ℕ → Bool) → List (List Item) → ℕ
count_all test [] = 0
count_all test (queue ∷ queues) = count_in (test 0) queue + count_all (λ n. test (suc n)) queues

-- a frame of this root
abbrev pub has_root : List Entry → ℕ → ℕ → List ℕ → Bool
has_root past r id frame = root past id == r

-- What is counted: whether a frame that leaves by a port of a switch may still come to a target, and how often frames of a root came there.
pub record Targets (T : Type 0) : Type 0 where
  pub may_come : Plan → ℕ → ℕ → T → List ℕ → Bool
  pub came : Plan → List Entry → ℕ → T → ℕ

-- a frame of this root in the queue out of a port, by the port's place among all ports
abbrev pub comes_from_place : {T : Type 0} → Targets T → Plan → List Entry → ℕ → T → ℕ → ℕ → List ℕ → Bool
comes_from_place targets plan past r there n id frame = has_root past r id frame && targets.may_come plan (n / plan.k) (n % plan.k) there frame

-- how many frames of this root wait that may still come to a target: those at hosts may come to each
abbrev pub still_to_come : {T : Type 0} → Targets T → Plan → List Entry → List (List Item) → List (List Item) → ℕ → T → ℕ
still_to_come targets plan past from_hosts out r there =
    count_all (λ h. has_root past r) from_hosts + count_all (comes_from_place targets plan past r there) out

-- where hosts stand
abbrev pub standing : List AttachmentPoint → ℕ → Option EdgePort
standing attachments h = option_map (λ (attachment : AttachmentPoint). at_port attachment.edge.0 attachment.port) (slice_get attachments h)

-- The journal has hosts where they stand. At each target, of each root: the frames that came, that may still come and that are owed are at most one, and none of
-- a root that has not begun.
pub record ComeOnce {T : Type 0} (targets : Targets T) (plan : Plan) (at : ℕ → Option EdgePort) (past : List Entry) (from_hosts out : List (List Item)) (many : ℕ) (owed : ℕ → T → ℕ) : Type 0 where
  pub standing : (h : ℕ) → edge_port_of plan past h ≡ at h
  pub unbegun : (id : ℕ) → many < id → root past id ≡ id
  pub once : (r : ℕ) (there : T) → still_to_come targets plan past from_hosts out r there + owed r there + targets.came plan past r there ≤ born r many

-- so it is in a world, with these owed
abbrev pub OnceIn : {T : Type 0} → Targets T → WorldView → (ℕ → T → ℕ) → Type 0
OnceIn targets w owed = ComeOnce targets w.plan (standing w.attachments) (reverse w.journal) w.from_hosts w.out w.begun owed

-- where nothing is owed
abbrev pub ComesOnceTo : {T : Type 0} → Targets T → WorldView → Type 0
ComesOnceTo targets w = OnceIn targets w (λ r there. 0)
