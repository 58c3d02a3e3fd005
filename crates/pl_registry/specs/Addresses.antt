-- What finds pseudo addresses and hosts.
use Rattle.std.specs.Prelude.{◌≡◌, ◌&&◌, ℕ, Bool, false, if◌then◌else◌, not, List, [], ◌∷◌, length, map, Option, Some, None, is_none, reverse}
use Rattle.std.specs.List.{IsDistinct}
use Rattle.std.specs.Map.{keys_of, lookup}
use Rattle.std.specs.Option.{option_map}
use Rattle.indexmap.specs.IndexMap.{insert_entry}
use Rattle.pl_frame.specs.declared.address.Mac.{Mac}
use Rattle.pl_pmac.specs.declared.pmac.Pmac.{Pmac}
use Rattle.pl_layouts.specs.Equality.{same_mac, same_pmac}
use Rattle.pl_node.specs.ManagerViews as manager
use Rattle.pl_node.specs.ManagerViews.{Learnt, LearntAddress, Registration, newest}
use Rattle.pl_manager_rule.specs.ManagerRule.{ToldAddress, is_registered, learnt_as, recalled, told_again}
use Rattle.pl_manager_rule.specs.Repeats.{AreAlone}
use Rattle.pl_registry.specs.declared.addresses.Known.{Known}
use Rattle.pl_registry.specs.declared.addresses.Recall.{Recall}
use Rattle.pl_registry.specs.declared.addresses.Registered.{Registered}
use Rattle.pl_registry.specs.declared.addresses.Told.{Told}

abbrev pub recall_of : Recall → manager.Recall
recall_of recall = record { new = recall.new; number = recall.number }

-- an address with what is known of it
abbrev pub learnt_at : Pmac → Known → LearntAddress
learnt_at pmac known = record {
  switch = known.switch;
  pmac = pmac;
  amac = known.amac;
  ip = known.ip;
  number = known.number;
  recall = option_map recall_of known.recall;
  aged = known.aged;
}

-- an address with what is told of it
abbrev pub told_at : Pmac → Told → ToldAddress
told_at pmac told = record { switch = told.switch; pmac = pmac; amac = told.amac; ip = told.ip }

-- a table whose newest entry stands last, as the manager's list of addresses
abbrev pub newest_first : List (Pmac × Known) → List LearntAddress
newest_first entries = reverse (map (λ e. learnt_at e.0 e.1) entries)

-- what was learnt, without owners and reports, as if none were forgotten
abbrev pub learnt_of : List LearntAddress → Learnt
learnt_of addresses = record { addresses = addresses; reported = []; owners = []; count = length addresses }

abbrev pub registration_of : Registered → Registration
registration_of r = record { pmac = r.pmac; amac = r.amac; number = r.number; switch = r.switch }

-- Each address is there once, and the other table finds the newest address of each host: the only one that leads to no newer one.
pub record FindAddresses (known : List (Pmac × Known)) (latest : List (Mac × Registered)) : Type 0 where
  pub once : IsDistinct same_pmac (keys_of known)
  pub newest : (mac : Mac) → newest (learnt_of (newest_first known)) mac ≡ option_map registration_of (lookup (same_mac mac) latest)
  pub alone : (mac : Mac) → AreAlone mac (newest_first known)

-- the table once an address leads on, of which this was known
abbrev pub leading : Pmac → Recall → List (Pmac × Known) → Option Known → List (Pmac × Known)
leading old to known None = known
leading old to known (Some k) = insert_entry same_pmac known old (record k { recall = Some to; aged = false })

-- An address leads on from then on, if it is known; all others stay as they are.
pub record IsLed (old : Pmac) (to : Recall) (before after : List (Pmac × Known)) : Type 0 where
  pub entries : after ≡ leading old to before (lookup (same_pmac old) before)
  pub keys : keys_of after ≡ keys_of before

abbrev pub IsLedFrom : Option Registered → Recall → List (Pmac × Known) → List (Pmac × Known) → Type 0
IsLedFrom None to before after = after ≡ before
IsLedFrom (Some old) to before after = IsLed old.pmac to before after

-- an address is told, which gets this number where it is not known
abbrev pub with_address_as : ℕ → Learnt → ToldAddress → List LearntAddress
with_address_as number learnt new =
    if is_registered learnt.addresses new.pmac then map (told_again new) learnt.addresses
    else learnt_as number new ∷ recalled (newest learnt new.amac) new.pmac number learnt.addresses

-- an address that leads there, and has aged or not, has a trap that stands and leads to this one
abbrev pub is_trap_to : Pmac → Option Recall → Bool → Bool
is_trap_to x recall aged = not aged && manager.leads_to x (option_map recall_of recall)

-- an address of which this was known was the newest one of this host
abbrev pub was_newest_of : Mac → Option Known → Bool
was_newest_of mac None = false
was_newest_of mac (Some known) = same_mac known.amac mac && is_none known.recall
