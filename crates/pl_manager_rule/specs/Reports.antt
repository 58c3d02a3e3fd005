-- What the manager knows of addresses by what switches report: the word that a trap stands, and that an address has aged, may be of one that it did not
-- register since it began anew.
use Rattle.std.specs.Prelude.{ℕ, ◌==◌, ◌&&◌, ◌||◌, not, Bool, true, false, if◌then◌else◌, List, [], ◌∷◌, ◌++◌, map, Option, Some, None, is_some}
use Rattle.std.specs.List.{filter, find, list_any}
use Rattle.std.specs.Option.{option_and_then, option_map}
use Rattle.pl_frame.specs.declared.address.SwitchId.{SwitchId}
use Rattle.pl_pmac.specs.declared.pmac.Pmac.{Pmac}
use Rattle.pl_layouts.specs.Equality.{same_pmac}
use Rattle.pl_node.specs.declared.acts.ManagerAct.TheVariants.{Say}
use Rattle.pl_node.specs.declared.messages.ToSwitch.TheVariants as say
use Rattle.pl_node.specs.ManagerViews.{Learnt, LearntAddress, Recall, Reported, leads_to, number_behind, registration}
use Rattle.pl_manager_rule.specs.ManagerRule.{LearntStep, forgets, nothing_said, with_aged}

-- a registered address, as a report would tell it
abbrev pub as_reported : LearntAddress → Reported
as_reported a = record { switch = a.switch; pmac = a.pmac; recall = a.recall; aged = a.aged }

-- all addresses of which something is known
abbrev pub known_addresses : Learnt → List Reported
known_addresses learnt = map as_reported learnt.addresses ++ learnt.reported

abbrev pub known_at : Learnt → Pmac → Option Reported
known_at learnt x = find (λ r. same_pmac r.pmac x) (known_addresses learnt)

-- ---- that an address has aged

-- It counts where the number is the one behind which the address ages now. Of an address of which nothing is known only a report tells that, so it counts
-- in each epoch but the first, which has none.
abbrev pub counts_as : ℕ → ℕ → Option Reported → Bool
counts_as epoch number None = not (epoch == 0)
counts_as epoch number (Some known) = number == number_behind known.recall

abbrev pub reported_ages : Pmac → Reported → Reported
reported_ages x r = record r { aged = same_pmac r.pmac x || r.aged }

abbrev pub with_aged_as : Learnt → SwitchId → Pmac → Option Reported → Learnt
with_aged_as learnt s x None = record learnt { reported = learnt.reported ++ record { switch = s; pmac = x; recall = None; aged = true } ∷ [] }
with_aged_as learnt s x (Some known) = record (with_aged learnt x) { reported = map (reported_ages x) learnt.reported }

-- ---- that a trap stands

abbrev pub reported_leads : Pmac → Recall → Reported → Reported
reported_leads x to r = record r { recall = if same_pmac r.pmac x then Some to else r.recall; aged = not (same_pmac r.pmac x) && r.aged }

abbrev pub with_trap_as : Learnt → SwitchId → Pmac → Recall → Option Reported → Learnt
with_trap_as learnt s x to None = record learnt { reported = learnt.reported ++ record { switch = s; pmac = x; recall = Some to; aged = false } ∷ [] }
with_trap_as learnt s x to (Some known) = record learnt { reported = map (reported_leads x to) learnt.reported }

-- Of an address that it registered the manager knows better where it leads. In the first epoch no switch tells of a trap.
abbrev pub with_trap : ℕ → Learnt → SwitchId → Pmac → Recall → Learnt
with_trap epoch learnt s x to =
    if (epoch == 0) || is_some (registration learnt x) then learnt
    else with_trap_as learnt s x to (find (λ r. same_pmac r.pmac x) learnt.reported)

-- ---- releases

-- an address has a trap that stands, and that leads to this one
abbrev pub is_known_trapped_to : Pmac → Reported → Bool
is_known_trapped_to x r = not r.aged && leads_to x r.recall

abbrev pub is_known_led_to : Learnt → Pmac → Bool
is_known_led_to learnt x = list_any (is_known_trapped_to x) (known_addresses learnt)

abbrev pub forgets_known : Learnt → Pmac → Learnt
forgets_known learnt x = record (forgets learnt x) { reported = filter (λ r. not (same_pmac r.pmac x)) learnt.reported }

-- an address that has aged, and to which no trap leads that stands, is forgotten, and the switch that told it may give it again
abbrev pub releases_as_known : Learnt → Pmac → Option Reported → LearntStep
releases_as_known learnt x None = nothing_said learnt
releases_as_known learnt x (Some known) =
    if known.aged && not (is_known_led_to learnt x) then record { learnt = forgets_known learnt x; acts = Say known.switch (say.Release x) ∷ [] }
    else nothing_said learnt

abbrev pub releases_known : Pmac → Learnt → LearntStep
releases_known x learnt = releases_as_known learnt x (known_at learnt x)

-- where the trap of an address leads, that stands or has ended
abbrev pub leads_known : Learnt → Pmac → Option Pmac
leads_known learnt x = option_map (λ recall. recall.new) (option_and_then (λ r. r.recall) (known_at learnt x))
