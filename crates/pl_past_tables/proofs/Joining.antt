-- Members of groups and arrivals of frames, once something is said of them.
use Rattle.std.proofs.Common.{◌≡◌, ℕ, ◌==◌, ◌&&◌, ◌||◌, Bool, true, false, cond, List, [], ◌∷◌, Option, Some, is_some, refl, ap, ap₂, ◌∙◌}
use Rattle.std.specs.Map.{lookup}
use Rattle.pl_layouts.specs.declared.membership.Change.{Change}
use Rattle.pl_layouts.specs.Memberships.{changes_in, group_number}
use Rattle.pl_wiring.specs.declared.host.HostNo.{HostNo}
use Rattle.pl_wiring.specs.Plan.{Plan}
use Rattle.pl_journal.specs.declared.entry.Entry.{Entry}
use Rattle.pl_journal.specs.declared.entry.Entry.TheVariants.{Arrived, Sent}
use Rattle.pl_journal.specs.Places.{EdgePort, edge_port_of, is_at}
use Rattle.pl_journal.specs.Flights.{root}
use Rattle.pl_journal.specs.Lossy.{joined_after}
use Rattle.pl_past_tables.specs.declared.keys.Arrival.{Arrival}
use Rattle.pl_past_tables.specs.declared.keys.Member.{Member}
use Rattle.pl_past_tables.specs.declared.keys.Point.{Point}
use Rattle.pl_past_tables.specs.declared.groups.Groups.{Groups}
use Rattle.pl_past_tables.specs.Keys.{edge_port_at, same_arrival}
use Rattle.pl_past_tables.specs.Groups.{KeepsGroups, joined_in, says}
use Rattle.pl_past_tables.proofs.Said.{is_some_now}

-- one change is said, and the rest is still to be said
pub one_said : (host : HostNo) (c : Change) (rest : List Change) (k : Member) (before now : Bool) →
    now ≡ cond ((host.0 == k.host.0) && (group_number c.group == k.group)) c.join before → says host rest k now ≡ says host (c ∷ rest) k before
one_said host c rest k before now is = by (host.0 == k.host.0) is
  where
    by : (t : Bool) → now ≡ cond (t && (group_number c.group == k.group)) c.join before →
        cond t (joined_after rest k.group now) now ≡ cond t (joined_after rest k.group (cond (group_number c.group == k.group) c.join before)) before
    by true said = ap (joined_after rest k.group) said
    by false said = said

pub none_said : (host : HostNo) (k : Member) (before : Bool) → says host [] k before ≡ before
none_said host k before = by (host.0 == k.host.0)
  where
    by : (t : Bool) → cond t before before ≡ before
    by true = refl
    by false = refl

pub members_sent : (plan : Plan) (past : List Entry) (groups now : Groups) (id : ℕ) (host : HostNo) (frame : List ℕ) → KeepsGroups plan past groups →
    ((k : Member) → joined_in now.members.said.entries k ≡ says host (changes_in frame) k (joined_in groups.members.said.entries k)) →
    now.arrivals.said.entries ≡ groups.arrivals.said.entries → KeepsGroups plan (Sent id host frame ∷ past) now
members_sent plan past groups now id host frame keeps said same = record {
  members = λ k. said k ∙ ap (says host (changes_in frame) k) (keeps.members k);
  arrivals = λ k. ap (λ (es : List (Arrival × Bool)). is_some (lookup (same_arrival k) es)) same ∙ keeps.arrivals k;
}

pub frame_arrived : (plan : Plan) (past : List Entry) (groups now : Groups) (id r : ℕ) (point : Point) (host : HostNo) (frame : List ℕ) →
    KeepsGroups plan past groups →
    r ≡ root past id → Some (edge_port_at point) ≡ edge_port_of plan past host.0 →
    ((k : Arrival) → lookup (same_arrival k) now.arrivals.said.entries
    ≡ cond (same_arrival (record { root = r; point = point }) k) (Some true) (lookup (same_arrival k) groups.arrivals.said.entries)) →
    now.members.said.entries ≡ groups.members.said.entries → KeepsGroups plan (Arrived id host frame ∷ past) now
frame_arrived plan past groups now id r point host frame keeps of stands said same = record {
  members = λ k. ap (λ (es : List (Member × Bool)). joined_in es k) same ∙ keeps.members k;
  arrivals = λ k.
      ap (λ (o : Option Bool). is_some o) (said k)
      ∙ is_some_now (same_arrival (record { root = r; point = point }) k) true (lookup (same_arrival k) groups.arrivals.said.entries)
      ∙ ap₂ (λ a b. a || b)
      (ap₂ (λ n (o : Option EdgePort). (n == k.root) && is_at o (edge_port_at k.point)) of stands)
      (keeps.arrivals k);
}
