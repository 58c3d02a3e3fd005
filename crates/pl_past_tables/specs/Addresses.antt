-- What is kept of addresses.
use Rattle.std.specs.Prelude.{◌≡◌, ℕ, ◌==◌, Bool, List, [], ◌∷◌, if◌then◌else◌, Option, Some, None, is_some, unwrap_or}
use Rattle.std.specs.Map.{lookup}
use Rattle.std.specs.Option.{option_map}
use Rattle.pl_wiring.specs.declared.label.SwitchNo.{SwitchNo}
use Rattle.pl_pmac.specs.declared.pmac.Pmac.{Pmac}
use Rattle.pl_pmac.specs.Pmac.{pmac_number}
use Rattle.pl_journal.specs.declared.entry.Entry.{Entry}
use Rattle.pl_journal.specs.declared.entry.Entry.TheVariants.{Granted}
use Rattle.pl_journal.specs.Places.{EdgePort, granted_at, highest, is_spent, number}
use Rattle.pl_past.specs.Moves.{address_of_edge, edge_of}
use Rattle.pl_past_tables.specs.declared.keys.Point.{Point}
use Rattle.pl_past_tables.specs.declared.keys.Stay.{Stay}
use Rattle.pl_past_tables.specs.declared.addresses.Addresses.{Addresses}
use Rattle.pl_past_tables.specs.declared.addresses.Grant.{Grant}
use Rattle.pl_past_tables.specs.Keys.{edge_port_at, pod_position, point, same_pod_position, same_point, same_stay, same_switch}

-- the last grant of the address with this number
abbrev pub last_grant : List Entry → ℕ → Option Grant
last_grant [] x = None
last_grant (Granted y h e p ∷ past) x = if pmac_number y == x then Some (record { host = h; point = point e p }) else last_grant past x
last_grant (entry ∷ past) x = last_grant past x

-- the tables say these words
pub record IsAddresses (a : Addresses) (grant : ℕ → Option Grant) (numbered : ℕ → Option ℕ) (most : ℕ) (granted : ℕ → EdgePort → Option Pmac)
    (spent_at : EdgePort → Bool) (edge : Pmac → Option ℕ) (address : ℕ → Option Pmac) : Type 0 where
  pub grants : (x : ℕ) → lookup (λ y. x == y) a.grants.said.entries ≡ grant x
  pub numbers : (x : ℕ) → unwrap_or (lookup (λ y. x == y) a.numbers.said.entries) None ≡ numbered x
  pub highest : a.highest ≡ most
  pub stays : (k : Stay) → lookup (same_stay k) a.stays.said.entries ≡ granted k.host.0 (edge_port_at k.point)
  pub spent : (k : Point) → is_some (lookup (same_point k) a.spent.said.entries) ≡ spent_at (edge_port_at k)
  pub edges : (x : Pmac) → option_map (λ s. s.0) (lookup (same_pod_position (pod_position x)) a.edges.said.entries) ≡ edge x
  pub by_edge : (s : SwitchNo) → lookup (same_switch s) a.by_edge.said.entries ≡ address s.0

abbrev pub KeepsAddresses : List Entry → Addresses → Type 0
KeepsAddresses past a = IsAddresses a (last_grant past) (number past) (highest past) (granted_at past) (is_spent past) (edge_of past) (address_of_edge past)
