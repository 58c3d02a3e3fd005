-- What is asked of a switch from outside, by what it knows; and what it knows at first.
use Rattle.std.specs.Prelude.{◌≡◌, ◌<◌, ◌≤◌, ℕ, ◌/◌, ◌%◌, ◌^◌, ◌==◌, ◌&&◌, ◌||◌, not, nat_lt, Bool, true, false, if◌then◌else◌, List, [], Option, Some, None, is_none, option_map, replicate, slice_get, slice_index_or}
use Rattle.std.specs.List.{list_any}
use Rattle.pl_frame.specs.declared.address.SwitchId.{SwitchId}
use Rattle.pl_node.specs.Announcements.{announcement}
use Rattle.pl_node.specs.PortRecords.{new_port, place_at, port_of}
use Rattle.pl_layouts.specs.Placement.{is_known, nowhere}
use Rattle.pl_node.specs.declared.switch_records.Hold.{Hold}
use Rattle.pl_node.specs.SwitchViews.{SwitchView}
use Rattle.std.specs.Map.{lookup}
use Rattle.pl_node.specs.declared.messages.TreePart.{TreePart}

-- an even number of ports from 4 to 24
pub record IsTreeSize (k : ℕ) : Type 0 where
  pub low : 4 ≤ k
  pub high : k ≤ 24
  pub even : k % 2 ≡ 0

-- and an id of 48 bits that is not 0
pub record CanBoot (id : SwitchId) (k : ℕ) : Type 0 where
  pub named : 1 ≤ id.0
  pub within : id.0 < 2 ^ 48
  pub size : IsTreeSize k

-- A switch knows its id and the number of its ports, and nothing else.
abbrev pub switch_at_boot : SwitchId → ℕ → SwitchView
switch_at_boot id k = record {
  id = id;
  k = k;
  place = nowhere;
  ports = replicate k new_port;
  attempt = 1;
  proposed = 0;
  granted = [];
  holds = replicate (k / 2) None;
  grants = replicate k [];
  used = [];
  trapped = [];
  freed = replicate k [];
  remembered = replicate k None;
  members = [];
  avoid = [];
  parts = [];
  epoch = 0;
}

-- the frame is the message that the switch would send out of that port now
pub record IsAnnounced (v : SwitchView) (port : ℕ) (frame : List ℕ) : Type 0 where
  pub told : (port_of v port).host ≡ false
  pub is : frame ≡ announcement v port

-- the attempt and the position that an edge switch without a position proposes
abbrev pub present_attempt : SwitchView → Option (ℕ × ℕ)
present_attempt v =
    if is_known v.place.level 0 && is_none v.place.position then Some (v.attempt, v.proposed) else None

-- an aggregation switch answers what an edge switch proposes, if a pod has that position
abbrev pub is_answered : SwitchView → ℕ → ℕ → Bool
is_answered v port position = is_known v.place.level 1 && is_known (place_at v port).level 0 && nat_lt position (v.k / 2)

abbrev pub has_granted : SwitchView → ℕ → Bool
has_granted v port = list_any (λ p. p == port) v.granted

abbrev pub hold_at : SwitchView → ℕ → Option Hold
hold_at v position = slice_index_or v.holds position None

abbrev pub holder_and_mark : Hold → SwitchId × Bool
holder_and_mark hold = (hold.edge, hold.fixed)

-- who holds a position, and whether it is marked as fixed there
abbrev pub holder_of : SwitchView → ℕ → Option (SwitchId × Bool)
holder_of v position = option_map holder_and_mark (hold_at v position)

-- An edge switch that has no position would learn from its proposal out of a port, if it sent that again to one who answers so: that the position is
-- free; that it is held for this edge switch, which did not count the grant; or that it is held for another one to which it gives way, unless this is
-- its last attempt.
abbrev pub is_news : SwitchView → ℕ → ℕ → Option (SwitchId × Bool) → Bool
is_news v port attempt None = true
is_news v port attempt (Some hold) =
    if hold.0.0 == v.id.0 then not (has_granted v port) else (hold.1 || nat_lt hold.0.0 v.id.0) && not (attempt == 4294967295)

-- group number n, rising, of those of which a part is known
abbrev pub group_of_part : SwitchView → ℕ → Option ℕ
group_of_part v n = option_map (λ part. part.0) (slice_get v.parts n)

-- a neighbour through which an edge switch of this pod and position cannot be reached
abbrev pub is_avoided : SwitchView → Option SwitchId → ℕ → ℕ → Bool
is_avoided v None pod position = false
is_avoided v (Some u) pod position = list_any (λ a. (a.0.0 == u.0) && ((a.1 == pod) && (a.2 == position))) v.avoid

abbrev pub part_of : SwitchView → ℕ → Option TreePart
part_of v group = lookup (λ g. g == group) v.parts
