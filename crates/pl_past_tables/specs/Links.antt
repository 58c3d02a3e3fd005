-- What is kept of links.
use Rattle.std.specs.Prelude.{◌≡◌, ℕ, ◌≤◌, nat_le, Bool, false, List, if◌then◌else◌, Option, Some, unwrap_or}
use Rattle.std.specs.Map.{lookup}
use Rattle.pl_wiring.specs.declared.label.SwitchNo.{SwitchNo}
use Rattle.pl_wiring.specs.declared.link.Peer.{Peer}
use Rattle.pl_wiring.specs.declared.link.Peer.TheVariants.{HostPort, Switch}
use Rattle.pl_journal.specs.declared.entry.Entry.{Entry}
use Rattle.pl_journal.specs.Places.{is_failed}
use Rattle.pl_past.specs.Links.{live_since}
use Rattle.pl_past_tables.specs.declared.keys.Ends.{Ends}
use Rattle.pl_past_tables.specs.declared.links.Links.{Links}
use Rattle.pl_past_tables.specs.Keys.{same_link}

-- two switches in order
abbrev pub ends_of : SwitchNo → SwitchNo → Ends
ends_of a b = if nat_le a.0 b.0 then record { lower = a; upper = b } else record { lower = b; upper = a }

-- the table has when each link was repaired; the smaller number of its ends stands first
pub record IsLinks (l : Links) (since : ℕ → ℕ → Option ℕ) : Type 0 where
  pub links : (k : Ends) → k.lower.0 ≤ k.upper.0 → unwrap_or (lookup (same_link k) l.since.said.entries) (Some 0) ≡ since k.lower.0 k.upper.0

abbrev pub KeepsLinks : List Entry → Links → Type 0
KeepsLinks past l = IsLinks l (live_since past)

-- whether the link of a switch to this end is failed
abbrev pub leads_to_failed : List Entry → ℕ → Peer → Bool
leads_to_failed past s HostPort = false
leads_to_failed past s (Switch t q) = is_failed past s t.0
