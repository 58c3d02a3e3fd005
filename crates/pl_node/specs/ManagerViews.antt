-- What the fabric manager knows: what each switch told last of each thing, who asked for the number of a pod, and the addresses that it
-- learnt. A later word takes the place of an earlier one on the same thing, and all answers are functions of what is known then.
use Rattle.std.specs.Prelude.{ℕ, ◌+◌, ◌*◌, ◌==◌, ◌&&◌, ◌||◌, Bool, false, if◌then◌else◌, List, [], ◌∷◌, ◌++◌, length, map, not, Option, Some, None, is_none, unwrap_or}
use Rattle.std.specs.List.{filter, filter_map, find, list_any, range_with_len}
use Rattle.std.specs.Map as table
use Rattle.std.specs.Option.{option_and_then, option_map}
use Rattle.std.specs.declared.cmp.Ordering.{Ordering}
use Rattle.std.specs.Ordering.{nat_cmp, ordering_then}
use Rattle.std.specs.BTreeMap.{is_at}
use Rattle.std.specs.BTreeSet.{insert_key}
use Rattle.pl_frame.specs.declared.address.Mac.{Mac}
use Rattle.pl_frame.specs.declared.address.Ip4.{Ip4}
use Rattle.pl_frame.specs.declared.address.SwitchId.{SwitchId}
use Rattle.pl_pmac.specs.declared.pmac.Pmac.{Pmac}
use Rattle.pl_layouts.specs.declared.place.Place.{Place}
use Rattle.pl_gathering.specs.Gathering.{Heard}
use Rattle.pl_node.specs.declared.messages.ToManager.{ToManager}
use Rattle.pl_node.specs.declared.pod_given.PodGiven.{PodGiven}
use Rattle.pl_layouts.specs.Equality.{same_mac, same_pmac, same_switch}
use Rattle.pl_layouts.specs.Placement.{is_known, nowhere}
use Rattle.pl_node.specs.HostViews.{ip_cmp}

-- the places and the links of the tree, as the switches told them last; both tables rise by their keys
pub record Told : Type 0 where
  -- the place of a switch
  pub places : List (SwitchId × Place)
  -- whether a switch can use its link to a neighbour
  pub links : List ((SwitchId × SwitchId) × Bool)

-- whether a switch has members of a group, as it told last; the table rises by switch and group
abbrev pub Members : Type 0
Members = List ((SwitchId × ℕ) × Bool)

-- the newer address to which an address leads, and the number of that one
pub record Recall : Type 0 where
  pub new : Pmac
  pub number : ℕ

-- a pseudo address, the actual address of its host, and the switch that told it first
pub record LearntAddress : Type 0 where
  pub switch : SwitchId
  pub pmac : Pmac
  pub amac : Mac
  -- the IPv4 address that was told last with it
  pub ip : Option Ip4
  pub number : ℕ
  -- where it leads since its switch was sent a newer address of its host
  pub recall : Option Recall
  -- it was told to have aged since then
  pub aged : Bool

-- An address of which a manager that began anew has no registration, and of which a switch told it that a trap stands for it, or that it has aged.
pub record Reported : Type 0 where
  pub switch : SwitchId
  pub pmac : Pmac
  pub recall : Option Recall
  pub aged : Bool

-- what was learnt of addresses
pub record Learnt : Type 0 where
  -- each once, the newest first; one that was released is not among them any more
  pub addresses : List LearntAddress
  -- those that are known by a report alone, the newest last
  pub reported : List Reported
  -- the actual address of the host with whose pseudo address an IPv4 address was told last, by rising IPv4 address
  pub owners : List (Ip4 × Mac)
  -- the number that was given last: each manager begins with its own 2^32 numbers, and the first with 1
  pub count : ℕ

-- All that the manager knows, what it keeps, and of whom it heard a report. It begins anew with each epoch, of which the first is 0, and in each but the
-- first it treats nothing before the report of each switch has ended.
pub record ManagerView : Type 0 where
  -- of a fabric of switches of so many ports
  pub k : ℕ
  pub told : Told
  pub members : Members
  -- the switches that asked for the number of a pod, with what they were given, each once, the newest first
  pub pods : List PodGiven
  pub learnt : Learnt
  pub epoch : ℕ
  -- whose report of this epoch began, and ended, each once, the newest first
  pub begun : List SwitchId
  pub ended : List SwitchId
  -- what came since, until the last of them ends, in the order of coming
  pub kept : List (Heard ToManager)

-- the number before the first one of an epoch
abbrev pub numbers_before : ℕ → ℕ
numbers_before epoch = epoch * 4294967296

-- a manager that begins anew knows nothing
abbrev pub restarted_manager : ℕ → ℕ → ManagerView
restarted_manager k epoch = record {
  k = k;
  told = record { places = []; links = [] };
  members = [];
  pods = [];
  learnt = record { addresses = []; reported = []; owners = []; count = numbers_before epoch };
  epoch = epoch;
  begun = [];
  ended = [];
  kept = [];
}

-- at first it knows nothing
abbrev pub booted_manager : ℕ → ManagerView
booted_manager k = restarted_manager k 0

-- the switches that told a place or a link, each as often as something is known of it
abbrev pub tellers : Told → List SwitchId
tellers told = map (λ p. p.0) told.places ++ map (λ l. l.0.0) told.links

-- the switches whose report of this epoch began, or of which something is kept or is known by a report alone
abbrev pub reporters : ManagerView → List SwitchId
reporters view = map (λ r. r.switch) view.learnt.reported ++ (view.begun ++ map (λ h. h.switch) view.kept)

-- the same of all that switches tell
abbrev pub speakers : ManagerView → List SwitchId
speakers view =
    tellers view.told ++ (map (λ m. m.0.0) view.members ++ (map (λ g. g.switch) view.pods ++ (map (λ a. a.switch) view.learnt.addresses ++ reporters view)))

-- a switch was heard where something that it told is known or kept, or its report began; one that only asked a question is not among them
abbrev pub is_heard : ManagerView → SwitchId → Bool
is_heard view s = list_any (λ t. same_switch t s) (speakers view)

-- the items in rising order, none twice
abbrev pub in_order : {K : Type 0} → (K → K → Ordering) → List K → List K
in_order cmp [] = []
in_order cmp (x ∷ xs) = insert_key cmp (in_order cmp xs) x

-- ids in the order of their numbers
abbrev pub id_cmp : SwitchId → SwitchId → Ordering
id_cmp a b = nat_cmp a.0 b.0

-- by switch, then by neighbour
abbrev pub link_cmp : SwitchId × SwitchId → SwitchId × SwitchId → Ordering
link_cmp a b = ordering_then (id_cmp a.0 b.0) (id_cmp a.1 b.1)

-- by switch, then by group
abbrev pub members_cmp : SwitchId × ℕ → SwitchId × ℕ → Ordering
members_cmp a b = ordering_then (id_cmp a.0 b.0) (nat_cmp a.1 b.1)

-- what a table has at a key
abbrev pub value_at : {K X : Type 0} → (K → K → Ordering) → List (K × X) → K → Option X
value_at cmp entries key = table.lookup (is_at (cmp key)) entries

-- the switches that told a place or a link, by rising id
abbrev pub switches : Told → List SwitchId
switches told = in_order id_cmp (tellers told)

-- the place that a switch told last; nothing is known of one that told none
abbrev pub place_of : Told → SwitchId → Place
place_of told s = unwrap_or (value_at id_cmp told.places s) nowhere

-- 0 is the level of an edge switch, 1 of an aggregation switch, 2 of a core switch
abbrev pub has_level : Told → SwitchId → ℕ → Bool
has_level told s level = is_known (place_of told s).level level

-- whether a switch told that it is of this pod
abbrev pub has_pod : Told → SwitchId → ℕ → Bool
has_pod told s pod = is_known (place_of told s).pod pod

-- the neighbours that a switch told of, by rising id
abbrev pub neighbours : Told → SwitchId → List SwitchId
neighbours told s = in_order id_cmp (map (λ l. l.0.1) (filter (λ l. same_switch l.0.0 s) told.links))

-- whether the last that a switch told of its link to this neighbour is that it is usable
abbrev pub is_told_usable : Told → SwitchId → SwitchId → Bool
is_told_usable told s u = unwrap_or (value_at link_cmp told.links (s, u)) false

-- a link is alive where both of its ends told that it is usable
abbrev pub is_alive : Told → SwitchId → SwitchId → Bool
is_alive told a b = is_told_usable told a b && is_told_usable told b a

-- the neighbours of a switch over links that are alive, by rising id
abbrev pub alive_neighbours : Told → SwitchId → List SwitchId
alive_neighbours told s = filter (is_alive told s) (neighbours told s)

-- those of one level, by rising id
abbrev pub alive_at_level : Told → SwitchId → ℕ → List SwitchId
alive_at_level told s level = filter (λ u. has_level told u level) (alive_neighbours told s)

-- an edge switch that told its pod and its position
pub record PlacedEdge : Type 0 where
  pub switch : SwitchId
  pub pod : ℕ
  pub position : ℕ

-- a switch with this level, position and pod as a placed edge switch, if it is one
abbrev pub edge_with : SwitchId → Option ℕ → Option ℕ → Option ℕ → Option PlacedEdge
edge_with s (Some level) (Some position) (Some pod) = if level == 0 then Some (record { switch = s; pod = pod; position = position }) else None
edge_with s level position pod = None

-- the same of a place
abbrev pub edge_at : SwitchId → Place → Option PlacedEdge
edge_at s place = edge_with s place.level place.position place.pod

-- all of them, by rising id
abbrev pub placed_edges : Told → List PlacedEdge
placed_edges told = filter_map (λ s. edge_at s (place_of told s)) (switches told)

-- the switches that told last that they have members of a group, by rising id
abbrev pub with_members : Members → ℕ → List SwitchId
with_members members group = in_order id_cmp (map (λ m. m.0.0) (filter (λ m. m.0.1 == group && m.1) members))

-- the number that a switch was given
abbrev pub pod_given : List PodGiven → SwitchId → Option ℕ
pod_given pods s = option_map (λ g. g.pod) (find (λ g. same_switch g.switch s) pods)

-- a number stands in a place that was told, or was given
abbrev pub is_told_pod : Told → ℕ → Bool
is_told_pod told n = list_any (λ p. is_known p.1.pod n) told.places

abbrev pub is_given_pod : List PodGiven → ℕ → Bool
is_given_pod pods n = list_any (λ g. g.pod == n) pods

abbrev pub is_taken : Told → List PodGiven → ℕ → Bool
is_taken told pods n = is_told_pod told n || is_given_pod pods n

-- The smallest number that is not taken. There is one among these: no more are taken than places were told and numbers given.
abbrev pub first_free : Told → List PodGiven → ℕ
first_free told pods = unwrap_or (find (λ n. not (is_taken told pods n)) (range_with_len 0 (length told.places + length pods + 1))) 0

-- a pseudo address, the actual address of its host, its registration number, and the switch that told it first
pub record Registration : Type 0 where
  pub pmac : Pmac
  pub amac : Mac
  pub number : ℕ
  pub switch : SwitchId

abbrev pub registered_as : LearntAddress → Registration
registered_as a = record { pmac = a.pmac; amac = a.amac; number = a.number; switch = a.switch }

-- the registrations, the newest first
abbrev pub registry : Learnt → List Registration
registry learnt = map registered_as learnt.addresses

-- what is registered of a pseudo address
abbrev pub registration : Learnt → Pmac → Option Registration
registration learnt x = find (λ r. same_pmac r.pmac x) (registry learnt)

-- what is known of a pseudo address
abbrev pub learnt_at : Learnt → Pmac → Option LearntAddress
learnt_at learnt x = find (λ a. same_pmac a.pmac x) learnt.addresses

-- where it leads
abbrev pub recall_of : Learnt → Pmac → Option Recall
recall_of learnt x = option_and_then (λ a. a.recall) (learnt_at learnt x)

-- the number of the trap behind which an address ages, 0 where it leads to no newer one
abbrev pub number_behind : Option Recall → ℕ
number_behind None = 0
number_behind (Some recall) = recall.number

-- it was told to have aged since
abbrev pub has_aged : Learnt → Pmac → Bool
has_aged learnt x = unwrap_or (option_map (λ a. a.aged) (learnt_at learnt x)) false

-- a trap stands from when its switch is sent the newer address until it is told that the old one has aged behind it
abbrev pub leads_to : Pmac → Option Recall → Bool
leads_to x None = false
leads_to x (Some recall) = same_pmac recall.new x

-- an address has a trap that stands, and that leads to this one
abbrev pub is_trapped_to : Pmac → LearntAddress → Bool
is_trapped_to x a = not a.aged && leads_to x a.recall

abbrev pub is_led_to : Learnt → Pmac → Bool
is_led_to learnt x = list_any (is_trapped_to x) learnt.addresses

-- an address of this host that leads to no newer one
abbrev pub is_newest_of : Mac → LearntAddress → Bool
is_newest_of amac a = same_mac a.amac amac && is_none a.recall

-- the newest address of an actual address: there is none once that one was released, also where older ones are known
abbrev pub newest : Learnt → Mac → Option Registration
newest learnt amac = option_map registered_as (find (is_newest_of amac) learnt.addresses)

-- the IPv4 address that was told last with a pseudo address
abbrev pub ip_of : Learnt → Pmac → Option Ip4
ip_of learnt x = option_and_then (λ a. a.ip) (find (λ a. same_pmac a.pmac x) learnt.addresses)

-- the owner of an IPv4 address: the actual address of the host with whose pseudo address it was told last
abbrev pub owner : Learnt → Ip4 → Option Mac
owner learnt ip = value_at ip_cmp learnt.owners ip

-- whom a question for an IPv4 address finds: the newest address of its owner
abbrev pub lookup : Learnt → Ip4 → Option Pmac
lookup learnt ip = option_map (λ r. r.pmac) (option_and_then (newest learnt) (owner learnt ip))
