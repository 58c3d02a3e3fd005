-- Addresses that age, computed: at an edge switch, with the probes of their hosts, and at the fabric manager, which releases them.
use Rattle.std.specs.Prelude.{◌≡◌, ℕ, zero, suc, [], ◌∷◌, Option, Some, None, refl}
use Rattle.std.specs.Option.{option_map}
use Rattle.pl_frame.specs.declared.address.Ip4.{Ip4}
use Rattle.pl_frame.specs.declared.address.Mac.{Mac}
use Rattle.pl_frame.specs.declared.address.SwitchId.{SwitchId}
use Rattle.pl_pmac.specs.declared.pmac.Pmac.{Pmac}
use Rattle.pl_node.specs.declared.acts.Act.TheVariants.{Free as FreeAct, Grant as GrantAct, Tell}
use Rattle.pl_node.specs.declared.acts.ManagerAct.TheVariants.{Number, Say}
use Rattle.pl_node.specs.declared.address_use.AddressUse.{AddressUse}
use Rattle.pl_node.specs.declared.address_use.AddressUse.TheVariants.{Free, InUse}
use Rattle.pl_node.specs.declared.messages.ToManager.TheVariants as tell
use Rattle.pl_node.specs.declared.messages.ToSwitch.TheVariants as say
use Rattle.pl_node.specs.declared.trap.Trap.{Trap}
use Rattle.pl_node.specs.ManagerViews.{Learnt, lookup}
use Rattle.pl_node.specs.SwitchFacts.{switch_at_boot}
use Rattle.pl_node.specs.SwitchViews.{SwitchView}
use Rattle.pl_steps.specs.Steps.{SwitchStep, rests, ◌▹◌}
use Rattle.pl_switch_rule.specs.Aging.{ages, all_age_out}
use Rattle.pl_switch_rule.specs.Granting.{granted, grants_at, grants_or_learns, held_here, in_use}
use Rattle.pl_switch_rule.specs.Messages.{frees, probe_acts, sets_trap}
use Rattle.pl_manager_rule.specs.ManagerRule.{hears_aged, learning, with_learnt}

-- ---- an edge switch
abbrev edge : SwitchView
edge = record (switch_at_boot (record { 0 = 1 }) 4) { place = record { level = Some 0; position = Some 0; pod = Some 0 } }

abbrev host : ℕ → Mac
host n = record { 0 = 2 ∷ 0 ∷ 0 ∷ 0 ∷ 0 ∷ n ∷ [] }

abbrev ip : ℕ → Ip4
ip n = record { 0 = n }

abbrev at_port : ℕ → ℕ → Pmac
at_port port vmid = record { pod = 0; position = 0; port = port; vmid = vmid }

-- a host comes at a port
abbrev comes : ℕ → Mac → Option Ip4 → SwitchView → SwitchStep
comes port amac ip v = grants_or_learns v port amac ip (in_use (grants_at v port) amac)

-- so many ticks
unfoldable after_ticks : ℕ → SwitchView → SwitchStep
after_ticks zero v = rests v
after_ticks (suc n) v = ages v ▹ after_ticks n

abbrev held_at : SwitchView → Pmac → Option AddressUse
held_at v x = option_map (λ g. g.held) (granted v x)

abbrev with_first : SwitchView
with_first = (comes 0 (host 10) None edge).view

-- after 300 ticks without a frame its address rests, and the manager is told so
an_address_rests : ((after_ticks 299 with_first).acts ≡ []) × ((after_ticks 300 with_first).acts ≡ Tell (tell.Aged (at_port 0 1) 0) ∷ [])
unfolding after_ticks all_age_out
an_address_rests = (refl, refl)

abbrev rested : SwitchView
rested = (after_ticks 300 with_first).view

-- it is not given again before it is released: another host gets the next one
another_is_given_the_next_one : (comes 0 (host 11) None rested).acts ≡ GrantAct (at_port 0 2) (host 11) ∷ Tell (tell.Learned (at_port 0 2) (host 11) None) ∷ []
unfolding after_ticks all_age_out
another_is_given_the_next_one = refl

abbrev released : SwitchView
released = (frees rested (at_port 0 1) (granted rested (at_port 0 1))).view

-- and then it is
it_is_given_again : (comes 0 (host 12) None released).acts ≡ GrantAct (at_port 0 1) (host 12) ∷ Tell (tell.Learned (at_port 0 1) (host 12) None) ∷ []
unfolding after_ticks all_age_out
it_is_given_again = refl

-- between the two it is nobody's
it_was_nobodys : (held_at released (at_port 0 1) ≡ Some Free) × (held_here released (at_port 0 1) ≡ None) × ((frees rested (at_port 0 1) (granted rested (at_port 0 1))).acts ≡ FreeAct (at_port 0 1) ∷ [])
unfolding after_ticks all_age_out
it_was_nobodys = (refl, refl, refl)

-- one that does not rest is not released
one_in_use_is_not_released : (frees with_first (at_port 0 1) (granted with_first (at_port 0 1))).acts ≡ []
one_in_use_is_not_released = refl

-- two hosts with IPv4 addresses, of which the first is heard again 100 ticks later
abbrev two_hosts : SwitchView
two_hosts = (comes 0 (host 10) (Some (ip 1)) edge ▹ comes 1 (host 11) (Some (ip 2)) ▹ after_ticks 100 ▹ comes 0 (host 10) None).view

they_stand_by_last_use : two_hosts.used ≡ at_port 1 1 ∷ at_port 0 1 ∷ []
unfolding after_ticks all_age_out
they_stand_by_last_use = refl

-- each is probed once, 270 ticks after it was heard last
probed_once : ((after_ticks 169 two_hosts).acts ≡ [])
    × ((after_ticks 170 two_hosts).acts ≡ probe_acts (at_port 1 1) (host 11) (Some (ip 2)))
    × ((after_ticks 199 two_hosts).acts ≡ probe_acts (at_port 1 1) (host 11) (Some (ip 2)))
unfolding after_ticks all_age_out
probed_once = (refl, refl, refl)

-- a trap ends after 300 ticks, and its address rests behind it
abbrev trap : Trap
trap = record { new = record { pod = 1; position = 0; port = 0; vmid = 1 }; number = 7; ip = None }

abbrev trapped : SwitchView → SwitchView
trapped v = sets_trap v (at_port 0 1) (record { amac = host 10; ip = None; held = InUse 0 }) trap

a_trap_ends : (after_ticks 300 (trapped with_first)).acts ≡ Tell (tell.Aged (at_port 0 1) 7) ∷ []
unfolding after_ticks all_age_out
a_trap_ends = refl

-- ---- the fabric manager
abbrev first_edge : SwitchId
first_edge = record { 0 = 1 }

abbrev second_edge : SwitchId
second_edge = record { 0 = 2 }

abbrev elsewhere : ℕ → Pmac
elsewhere vmid = record { pod = 1; position = 0; port = 0; vmid = vmid }

abbrev nothing : Learnt
nothing = record { addresses = []; reported = []; owners = []; count = 0 }

-- a host that moved from the first edge switch to the second
abbrev moved : Learnt
moved =
    with_learnt (with_learnt nothing (record { switch = first_edge; pmac = at_port 0 1; amac = host 10; ip = Some (ip 1) }))
    (record { switch = second_edge; pmac = elsewhere 1; amac = host 10; ip = None })

-- the trap stands, since it was sent: that the new address has aged releases nothing yet
while_a_trap_leads_there : (hears_aged moved (elsewhere 1) 0).acts ≡ []
while_a_trap_leads_there = refl

-- that the old one aged in use is void, and so is a trap of another number
void_words : ((hears_aged moved (at_port 0 1) 0).acts ≡ []) × ((hears_aged moved (at_port 0 1) 3).acts ≡ [])
void_words = (refl, refl)

-- behind its trap it counts, and is released
the_trap_has_ended : (hears_aged moved (at_port 0 1) 2).acts ≡ Say first_edge (say.Release (at_port 0 1)) ∷ []
the_trap_has_ended = refl

-- both at once, the one that is spoken of first
both_are_released : (hears_aged (hears_aged moved (elsewhere 1) 0).learnt (at_port 0 1) 2).acts
    ≡ Say first_edge (say.Release (at_port 0 1)) ∷ Say second_edge (say.Release (elsewhere 1)) ∷ []
both_are_released = refl

-- It moves once more: the second address leads on, while the first one still leads there.
abbrev moved_twice : Learnt
moved_twice = with_learnt moved (record { switch = first_edge; pmac = at_port 1 1; amac = host 10; ip = None })

-- So that the second one has aged behind the third releases neither; that the third one has aged then releases that one.
abbrev second_aged : Learnt
second_aged = (hears_aged moved_twice (elsewhere 1) 3).learnt

the_newest_is_released : ((hears_aged moved_twice (elsewhere 1) 3).acts ≡ [])
    × ((hears_aged second_aged (at_port 1 1) 0).acts ≡ Say first_edge (say.Release (at_port 1 1)) ∷ [])
the_newest_is_released = (refl, refl)

abbrev without_newest : Learnt
without_newest = (hears_aged second_aged (at_port 1 1) 0).learnt

-- whoever asks for the host finds nobody then, though older addresses of it are known
nobody_is_found : (lookup moved_twice (ip 1) ≡ Some (at_port 1 1)) × (lookup without_newest (ip 1) ≡ None)
nobody_is_found = (refl, refl)

-- and an address that is learnt later replaces none: it is given the next number
it_replaces_none : learning without_newest (with_learnt without_newest (record { switch = second_edge; pmac = elsewhere 2; amac = host 10; ip = None })) (elsewhere 2) (host 10)
    ≡ Number (elsewhere 2) 4 ∷ []
it_replaces_none = refl
