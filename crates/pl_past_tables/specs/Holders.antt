-- What is kept of who held addresses, and from which entry on.
use Rattle.std.specs.Prelude.{◌≡◌, ℕ, ◌+◌, ◌<◌, ◌≤◌, ◌==◌, ◌&&◌, ◌||◌, not, nat_le, Bool, false, List, [], ◌∷◌, if◌then◌else◌, length, Option, Some, None, unwrap_or}
use Rattle.std.specs.Map.{lookup}
use Rattle.std.specs.Option.{option_map}
use Rattle.pl_pmac.specs.Pmac.{PmacFits, pmac_number}
use Rattle.pl_journal.specs.declared.entry.Entry.{Entry}
use Rattle.pl_journal.specs.declared.entry.Entry.TheVariants.{Granted}
use Rattle.pl_journal.specs.Places.{EdgePort, at_port, is_live, same_edge_port}
use Rattle.pl_past.specs.Addressees.{Tenure, tenures}
use Rattle.pl_past_tables.specs.declared.keys.Point.{Point}
use Rattle.pl_past_tables.specs.declared.keys.Term.{Term}
use Rattle.pl_past_tables.specs.declared.holders.Held.{Held}
use Rattle.pl_past_tables.specs.declared.holders.Holders.{Holders}
use Rattle.pl_past_tables.specs.Keys.{edge_port_at, same_point, same_term}

-- each address that was granted is within its fields
abbrev pub AreFit : List Entry → Type 0
AreFit [] = Unit {0}
AreFit (Granted y h e p ∷ past) = AreFit past × PmacFits y
AreFit (entry ∷ past) = AreFit past

abbrev pub tenure_of : Held → Tenure
tenure_of t = record { since = t.since; host = option_map (λ h. h.0) t.host }

-- the tenure, of some with the newest first, that has so many before it
abbrev pub tenure_after : List Tenure → ℕ → Option Tenure
tenure_after [] n = None
tenure_after (t ∷ tenures) n = if length tenures == n then Some t else tenure_after tenures n

abbrev pub one_more : (ℕ → List Tenure) → ℕ → Tenure → ℕ → List Tenure
one_more all x t y = if x == y then t ∷ all y else all y

-- the tables say these tenures of each address
pub record AreTenures (counts : List (ℕ × ℕ)) (terms : List (Term × Held)) (all : ℕ → List Tenure) : Type 0 where
  pub many : (x : ℕ) → unwrap_or (lookup (λ y. x == y) counts) 0 ≡ length (all x)
  pub each : (k : Term) → option_map tenure_of (lookup (same_term k) terms) ≡ tenure_after (all k.address) k.place

-- one of these entries grants the address at the port
abbrev pub is_granted_at : List Entry → ℕ → EdgePort → Bool
is_granted_at [] x there = false
is_granted_at (Granted y h e p ∷ entries) x there = ((pmac_number y == x) && same_edge_port (at_port e.0 p) there) || is_granted_at entries x there
is_granted_at (entry ∷ entries) x there = is_granted_at entries x there

-- how many addresses that these entries grant at a port are not live
abbrev pub free_there : (ℕ → Bool) → List Entry → EdgePort → ℕ
free_there live [] there = 0
free_there live (Granted y h e p ∷ entries) there =
    if same_edge_port (at_port e.0 p) there && not (live (pmac_number y)) && not (is_granted_at entries (pmac_number y) there)
    then free_there live entries there + 1 else free_there live entries there
free_there live (entry ∷ entries) there = free_there live entries there

-- how many the table has
abbrev pub free_in : List (Point × ℕ) → Point → ℕ
free_in entries k = unwrap_or (lookup (same_point k) entries) 0

pub record IsHolders (h : Holders) (alive : ℕ → Bool) (all : ℕ → List Tenure) (spare : EdgePort → ℕ) : Type 0 where
  pub live : (x : ℕ) → unwrap_or (lookup (λ y. x == y) h.live.said.entries) false ≡ alive x
  pub tenures : AreTenures h.counts.said.entries h.terms.said.entries all
  pub free : (k : Point) → free_in h.free.said.entries k ≡ spare (edge_port_at k)

abbrev pub KeepsHolders : List Entry → Holders → Type 0
KeepsHolders past h = IsHolders h (is_live past) (tenures past) (free_there (is_live past) past)

-- whether the tenure that has so many before it began by entry n
abbrev pub IsBegunAt : ℕ → List Tenure → ℕ → Bool → Type 0
IsBegunAt n all place begun = (t : Tenure) → tenure_after all place ≡ Some t → begun ≡ nat_le t.since n

-- the oldest so many tenures began by entry n, and those that have so many before them or more began later
pub record AreBegun (n : ℕ) (all : List Tenure) (low high : ℕ) : Type 0 where
  pub before : (i : ℕ) (t : Tenure) → i < low → tenure_after all i ≡ Some t → t.since ≤ n
  pub after : (i : ℕ) (t : Tenure) → high ≤ i → tenure_after all i ≡ Some t → n < t.since
