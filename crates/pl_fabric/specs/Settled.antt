-- When a fabric is settled: nothing would change what its switches and its manager know of places and links.
use Rattle.std.specs.Prelude.{◌≡◌, ◌<◌, ℕ, ◌/◌, ◌==◌, ◌&&◌, ◌||◌, not, nat_le, nat_lt, Bool, true, false, Option, Some, None, length, slice_get, [], ◌∷◌, refl}
use Rattle.std.specs.List.{list_any, range_with_len}
use Rattle.pl_frame.specs.declared.address.SwitchId.{SwitchId}
use Rattle.pl_wiring.specs.declared.link.Peer.{Peer}
use Rattle.pl_wiring.specs.declared.link.Peer.TheVariants.{HostPort, Switch}
use Rattle.pl_wiring.specs.Labels.{switch_count}
use Rattle.pl_wiring.specs.LiveLinks.{is_live_at}
use Rattle.pl_wiring.specs.Peers.{peer_of}
use Rattle.pl_layouts.specs.Placement.{is_known}
use Rattle.pl_node.specs.declared.neighbour.Neighbour.{Neighbour}
use Rattle.pl_node.specs.AvoidLists.{avoid_list}
use Rattle.pl_node.specs.ManagerFacts.{group_at}
use Rattle.pl_node.specs.ManagerViews.{ManagerView, is_told_usable, place_of}
use Rattle.pl_node.specs.PortRecords.{id_at, is_usable, is_usable_to, place_at, port_of}
use Rattle.pl_node.specs.SwitchFacts.{group_of_part, holder_of, is_answered, is_news, part_of, present_attempt, switch_at_boot}
use Rattle.pl_node.specs.SwitchViews.{SwitchView}
use Rattle.pl_node.specs.Trees.{tree_part}
use Rattle.pl_world.specs.SettledQueues.{HasSettledQueues}
use Rattle.pl_world.specs.Worlds.{WorldView}

-- what a switch would announce out of a port now: its id, its place, and whom it heard there
abbrev pub announced_at : SwitchView → ℕ → Neighbour
announced_at u q = record { id = u.id; place = u.place; echo = id_at u q }

-- An edge switch without a position proposes one to the aggregation switches above it. What would come of it if it did so again?

abbrev pub is_holder : SwitchId → Option (SwitchId × Bool) → Bool
is_holder edge None = false
is_holder edge (Some hold) = hold.0.0 == edge.0

abbrev pub is_another : SwitchView → SwitchId → ℕ → ℕ → Bool
is_another u edge position p = not (p == position) && is_holder edge (holder_of u p)

-- it holds another position for this edge switch, which it would free
abbrev pub holds_another : SwitchView → SwitchId → ℕ → Bool
holds_another u edge position = list_any (is_another u edge position) (range_with_len 0 (u.k / 2))

abbrev pub would_change_by : SwitchView → ℕ → SwitchView → ℕ → Option (ℕ × ℕ) → Bool
would_change_by v port u q None = false
would_change_by v port u q (Some proposal) =
    is_answered u q proposal.1 && (holds_another u v.id proposal.1 || is_news v port proposal.0 (holder_of u proposal.1))

-- The proposal of v, sent again out of a usable port to an aggregation switch u, would change something.
abbrev pub would_change : SwitchView → ℕ → SwitchView → ℕ → Bool
would_change v port u q = is_usable_to v 1 port && would_change_by v port u q (present_attempt v)

-- What a switch v knows of its link from a port to port q of u, and what the manager was told of it.
pub record IsSettledEnd (manager : ManagerView) (live : Bool) (v : SwitchView) (port : ℕ) (u : SwitchView) (q : ℕ) : Type 0 where
  -- 3. The port is usable exactly where the link is live, and then the record is what the other end would announce now.
  pub usable : is_usable v port ≡ live
  pub current : live ≡ true → (port_of v port).heard ≡ Some (announced_at u q)
  -- 4. The manager was told so.
  pub told : is_told_usable manager.told v.id u.id ≡ live
  -- 5. No proposal that is sent again would change anything.
  pub no_news : would_change v port u q ≡ false

abbrev pub IsSettledTowards : WorldView → ℕ → SwitchView → ℕ → Peer → Type 0
IsSettledTowards w s v port HostPort = Unit {0}
IsSettledTowards w s v port (Switch t q) =
    (u : SwitchView) → slice_get w.switches t.0 ≡ Some u → IsSettledEnd w.manager (is_live_at w.links s port) v port u q

-- groups are numbers of 32 bits
abbrev pub group_limit : ℕ
group_limit = 4294967296

-- the part of a group's tree that a switch knows is the manager's
abbrev pub HasPart : ManagerView → SwitchView → ℕ → Type 0
HasPart manager v group = part_of v group ≡ tree_part manager.told manager.members group v.id

-- no report of a switch is missing; in the first epoch there are none
abbrev pub has_reports : ManagerView → ℕ → Bool
has_reports manager many = (manager.epoch == 0) || nat_le many (length manager.ended)

-- Switch number s, which knows v.
pub record IsSettledSwitch (w : WorldView) (s : ℕ) (v : SwitchView) : Type 0 where
  -- 3, 4 and 5, at each of its links
  pub links : (port : ℕ) → port < w.plan.k → IsSettledTowards w s v port (peer_of w.plan s port)
  -- 4. The manager was told its place. Its avoid list is the manager's, and so are its parts of the trees of all groups that it or the
  -- manager knows.
  pub place : place_of w.manager.told v.id ≡ v.place
  pub avoids : v.avoid ≡ avoid_list w.manager.told v.id
  pub groups : (n group : ℕ) → n < group_limit → group_at w.manager n ≡ Some group → HasPart w.manager v group
  pub parts : (n group : ℕ) → n < group_limit → group_of_part v n ≡ Some group → HasPart w.manager v group
  -- 6. It has heard of the manager's epoch.
  pub epoch : v.epoch ≡ w.manager.epoch

pub record IsSettled (w : WorldView) : Type 0 where
  -- 1. Each control frame in a queue is what its sender would send there now. 2. No message to or from the manager waits but the questions
  -- of hosts and what they bring about.
  pub queues : HasSettledQueues w
  -- 3, 4, 5 and 6.
  pub switches : (s : ℕ) (v : SwitchView) → slice_get w.switches s ≡ Some v → IsSettledSwitch w s v
  -- 6. And the manager, if it ever began anew, has heard the report of each switch to its end.
  pub reports : has_reports w.manager (switch_count w.plan.k) ≡ true

-- Edge switch 5 at its first attempt. It is news that the position is free, that switch 4 holds it, or that it is fixed for switch 6. It is
-- none that switch 6 holds it, which has the larger id.
four_answers
    : (is_news (switch_at_boot (record { 0 = 5 }) 4) 2 1 None ≡ true)
    × (is_news (switch_at_boot (record { 0 = 5 }) 4) 2 1 (Some (record { 0 = 4 }, false)) ≡ true)
    × (is_news (switch_at_boot (record { 0 = 5 }) 4) 2 1 (Some (record { 0 = 6 }, true)) ≡ true)
    × (is_news (switch_at_boot (record { 0 = 5 }) 4) 2 1 (Some (record { 0 = 6 }, false)) ≡ false)
four_answers = (refl, refl, refl, refl)

-- its own grant is news once
a_grant_is_news_once
    : (is_news (switch_at_boot (record { 0 = 5 }) 4) 2 1 (Some (record { 0 = 5 }, false)) ≡ true)
    × (is_news (record (switch_at_boot (record { 0 = 5 }) 4) { granted = 2 ∷ [] }) 2 1 (Some (record { 0 = 5 }, false)) ≡ false)
a_grant_is_news_once = (refl, refl)
