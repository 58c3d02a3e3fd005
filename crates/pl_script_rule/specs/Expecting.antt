-- What a script expects of the journal so far.
use Rattle.std.specs.Prelude.{◌≡◌, ◌≤◌, ℕ, ◌==◌, Bool, true, false, if◌then◌else◌, List, [], ◌∷◌, ◌++◌, Option, Some, None, reverse, refl}
use Rattle.std.specs.List.{count_by, find}
use Rattle.std.specs.Option.{option_map_or}
use Rattle.pl_pmac.specs.declared.pmac.Pmac.{Pmac}
use Rattle.pl_layouts.specs.Equality.{same_pmac}
use Rattle.pl_wiring.specs.declared.host.HostNo.{HostNo}
use Rattle.pl_journal.specs.declared.cause.Cause.{Cause}
use Rattle.pl_journal.specs.declared.cause.Cause.TheVariants.{BadArp, HostGone, LinkDown, Lost, NoAddress, NoMember, NoNextHop, NotPlaced, Spent}
use Rattle.pl_journal.specs.declared.entry.Entry.{Entry}
use Rattle.pl_journal.specs.declared.entry.Entry.TheVariants.{Arrived, Dropped, Granted, Registered, Settled, Unsettled}

-- a frame arrives at a host
abbrev pub is_arrival_at : HostNo → Entry → Bool
is_arrival_at h (Arrived id host frame) = host.0 == h.0
is_arrival_at h _ = false

abbrev pub arrivals : List Entry → HostNo → ℕ
arrivals journal h = count_by (is_arrival_at h) journal

abbrev pub is_same_cause : Cause → Cause → Bool
is_same_cause NotPlaced NotPlaced = true
is_same_cause NoNextHop NoNextHop = true
is_same_cause NoAddress NoAddress = true
is_same_cause HostGone HostGone = true
is_same_cause LinkDown LinkDown = true
is_same_cause Lost Lost = true
is_same_cause Spent Spent = true
is_same_cause BadArp BadArp = true
is_same_cause NoMember NoMember = true
is_same_cause _ _ = false

-- a frame ends for a cause
abbrev pub is_end_for : Cause → Entry → Bool
is_end_for cause (Dropped id why) = is_same_cause why cause
is_end_for cause _ = false

abbrev pub endings : List Entry → Cause → ℕ
endings journal cause = count_by (is_end_for cause) journal

-- the address that an entry grants, and the host to which it does
abbrev pub grant_in : Entry → Option (Pmac × HostNo)
grant_in (Granted pmac host edge port) = Some (pmac, host)
grant_in _ = None

-- to which host an address is granted then, if before it was so
abbrev pub grantee_then : Pmac → Option (Pmac × HostNo) → Option HostNo → Option HostNo
grantee_then x None before = before
grantee_then x (Some grant) before = if same_pmac grant.0 x then Some grant.1 else before

-- to which host an address was granted last; the newest entry stands first
abbrev pub last_grantee : Pmac → List Entry → Option HostNo
last_grantee x [] = None
last_grantee x (entry ∷ past) = grantee_then x (grant_in entry) (last_grantee x past)

abbrev pub WasGrantedLastTo : List Entry → HostNo → Pmac → Type 0
WasGrantedLastTo past h x = last_grantee x past ≡ Some h

-- an address was registered under this number, and before that it was granted to this host last
pub record WasRegisteredFor (past : List Entry) (h : HostNo) (pmac : Pmac) (number : ℕ) : Type 0 where
  pub before : List Entry
  pub since : List Entry
  pub registered : past ≡ since ++ Registered pmac number ∷ before
  pub granted : WasGrantedLastTo before h pmac

-- Of the addresses that were registered and before that granted last to the host, this one has the largest number.
pub record IsNewest (journal : List Entry) (h : HostNo) (pmac : Pmac) : Type 0 where
  pub number : ℕ
  pub registered : WasRegisteredFor (reverse journal) h pmac number
  pub newest : (other : Pmac) (n : ℕ) → WasRegisteredFor (reverse journal) h other n → n ≤ number

-- how a settling ended
abbrev pub is_outcome : Entry → Bool
is_outcome (Settled rounds) = true
is_outcome (Unsettled pending) = true
is_outcome _ = false

abbrev pub is_settled : Entry → Bool
is_settled (Settled rounds) = true
is_settled _ = false

-- the last settling settled the fabric
abbrev pub ended_settled : List Entry → Bool
ended_settled journal = option_map_or is_settled (find is_outcome (reverse journal)) false

the_last_settling_counts : ended_settled (Settled 1 ∷ Unsettled 2 ∷ []) ≡ false
the_last_settling_counts = refl

no_settling_is_none : ended_settled [] ≡ false
no_settling_is_none = refl
