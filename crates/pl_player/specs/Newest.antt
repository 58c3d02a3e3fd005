-- What is read of a journal about the addresses of one host, entry by entry; the newest entry stands first.
use Rattle.std.specs.Prelude.{◌≡◌, ◌↔◌, ◌≤◌, ◌==◌, ◌&&◌, ◌||◌, nat_lt, ℕ, Bool, true, false, if◌then◌else◌, List, Option, Some, None, IsTrue}
use Rattle.std.specs.List.{list_any}
use Rattle.std.specs.Option.{option_map_or}
use Rattle.pl_pmac.specs.declared.pmac.Pmac.{Pmac}
use Rattle.pl_layouts.specs.Equality.{same_pmac}
use Rattle.pl_wiring.specs.declared.host.HostNo.{HostNo}
use Rattle.pl_journal.specs.declared.entry.Entry.{Entry}
use Rattle.pl_journal.specs.declared.entry.Entry.TheVariants.{Registered}
use Rattle.pl_player.specs.declared.expecting.HostAddresses.{HostAddresses}
use Rattle.pl_script_rule.specs.Expecting.{WasRegisteredFor, last_grantee}

-- one of these addresses
abbrev pub is_one_of : List Pmac → Pmac → Bool
is_one_of pmacs pmac = list_any (λ one. same_pmac one pmac) pmacs

-- the address that an entry registers, and its number
abbrev pub registration_in : Entry → Option (Pmac × ℕ)
registration_in (Registered pmac number) = Some (pmac, number)
registration_in _ = None

-- a number is larger than all so far, or it is the largest so far
abbrev pub exceeds : ℕ → Option ℕ → Bool
exceeds number None = true
exceeds number (Some largest) = nat_lt largest number

abbrev pub is_number : ℕ → Option ℕ → Bool
is_number number None = false
is_number number (Some largest) = largest == number

-- what is known once an address of the host is registered under a number
abbrev pub counted : ℕ → Bool → HostAddresses → HostAddresses
counted number is_it read = record read {
  largest = if exceeds number read.largest then Some number else read.largest;
  is_it = if exceeds number read.largest then is_it else (read.is_it || (is_it && is_number number read.largest));
}

-- a host, if there is one, is this one
abbrev pub is_host : HostNo → Option HostNo → Bool
is_host h host = option_map_or (λ one. one.0 == h.0) host false

-- no address of the host was registered, or this is the largest number of one
abbrev pub IsLargestOf : List Entry → HostNo → Option ℕ → Type 0
IsLargestOf past h None = (x : Pmac) (n : ℕ) → WasRegisteredFor past h x n → ⊥
IsLargestOf past h (Some largest) =
    ((x : Pmac) × WasRegisteredFor past h x largest) × ((x : Pmac) (n : ℕ) → WasRegisteredFor past h x n → n ≤ largest)

-- an address of the host was registered under that number
abbrev pub IsRegisteredAs : List Entry → HostNo → Pmac → Option ℕ → Type 0
IsRegisteredAs past h pmac None = ⊥
IsRegisteredAs past h pmac (Some largest) = WasRegisteredFor past h pmac largest

pub record IsReadOf (h : HostNo) (pmac : Pmac) (past : List Entry) (read : HostAddresses) : Type 0 where
  pub own : (x : Pmac) → is_one_of read.own.items x ≡ is_host h (last_grantee x past)
  pub largest : IsLargestOf past h read.largest
  pub is_it : IsTrue read.is_it ↔ IsRegisteredAs past h pmac read.largest
