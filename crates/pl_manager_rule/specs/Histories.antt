-- What the switches told the fabric manager since boot, all of it: the newest word stands first.
use Rattle.std.specs.Prelude.{ℕ, ◌+◌, ◌==◌, Bool, false, not, if◌then◌else◌, List, [], ◌∷◌, ◌++◌, Option, Some, None, is_some}
use Rattle.std.specs.List.{filter, list_any}
use Rattle.std.specs.Option.{option_map_or, option_or}
use Rattle.pl_frame.specs.declared.address.Ip4.{Ip4}
use Rattle.pl_frame.specs.declared.address.Mac.{Mac}
use Rattle.pl_frame.specs.declared.address.SwitchId.{SwitchId}
use Rattle.pl_pmac.specs.declared.pmac.Pmac.{Pmac}
use Rattle.pl_layouts.specs.declared.place.Place.{Place}
use Rattle.pl_layouts.specs.Equality.{is_ip, same_pmac, same_switch}
use Rattle.pl_node.specs.declared.acts.ManagerAct.{ManagerAct}
use Rattle.pl_node.specs.declared.acts.ManagerAct.TheVariants.{Say}
use Rattle.pl_node.specs.declared.messages.ToManager.{ToManager}
use Rattle.pl_node.specs.declared.messages.ToManager.TheVariants as tell
use Rattle.pl_node.specs.declared.messages.ToSwitch.TheVariants as say
use Rattle.pl_node.specs.declared.pod_given.PodGiven.{PodGiven}
use Rattle.pl_node.specs.ManagerViews.{Learnt, ManagerView, Registration, Told, booted_manager, registration}
use Rattle.pl_manager_rule.specs.ManagerRule.{host_of, manager_hears, with_asker}

-- a switch told this
pub record Word : Type 0 where
  pub switch : SwitchId
  pub says : ToManager

-- what the manager knows then
abbrev pub known : ℕ → List Word → ManagerView
known k [] = booted_manager k
known k (w ∷ before) = (manager_hears (known k before) w.switch w.says).view

-- the last that was said of a thing, if anything was
abbrev pub said_last : {X : Type 0} → (Word → Option X) → List Word → Option X
said_last said [] = None
said_last said (w ∷ before) = option_or (said w) (said_last said before)

-- what one word says of the place of its switch
abbrev pub place_said : ToManager → Option Place
place_said (tell.Place place) = Some place
place_said says = None

-- of its link to this neighbour
abbrev pub link_said : SwitchId → ToManager → Option Bool
link_said u (tell.Link v usable) = if same_switch v u then Some usable else None
link_said u says = None

-- of its members of this group
abbrev pub members_said : ℕ → ToManager → Option Bool
members_said group (tell.Members g any) = if g == group then Some any else None
members_said group says = None

-- where it is a word of this switch
abbrev pub said_by : {X : Type 0} → SwitchId → (ToManager → Option X) → Word → Option X
said_by s said w = if same_switch w.switch s then said w.says else None

-- which IPv4 address it says that a pseudo address has
abbrev pub ip_said : Pmac → ToManager → Option Ip4
ip_said x (tell.Learned pmac amac ip) = if same_pmac pmac x then ip else None
ip_said x says = None

-- a switch that asks for the first time is given the smallest free pod
abbrev pub pods_after : Told → List PodGiven → SwitchId → ToManager → List PodGiven
pods_after told pods s tell.PodWanted = with_asker told pods s
pods_after told pods s says = pods

-- the pods that were given, in the order of asking, the last one first
abbrev pub pods_asked : ℕ → List Word → List PodGiven
pods_asked k [] = []
pods_asked k (w ∷ before) = pods_after (known k before).told (pods_asked k before) w.switch w.says

-- ---- addresses: which were numbered, and which were released since
abbrev pub releases_address : Pmac → ManagerAct → Bool
releases_address x (Say to (say.Release pmac)) = same_pmac pmac x
releases_address x act = false

-- what the manager does when a word comes behind these
abbrev pub acts_at : ℕ → List Word → Word → List ManagerAct
acts_at k before w = (manager_hears (known k before) w.switch w.says).acts

-- a word releases an address
abbrev pub is_released_by : ℕ → List Word → Word → Pmac → Bool
is_released_by k before w x = list_any (releases_address x) (acts_at k before w)

-- the addresses that have the number that is given next, where this is told
abbrev pub numbered_by_word : Learnt → SwitchId → ToManager → List Registration
numbered_by_word learnt s (tell.Learned pmac amac ip) =
    if is_some (registration learnt pmac) then [] else record { pmac = pmac; amac = amac; number = learnt.count + 1; switch = s } ∷ []
numbered_by_word learnt s says = []

-- the addresses that were given numbers, in the order of these, the last one first; one that was released and told again is there twice
abbrev pub numbered : ℕ → List Word → List Registration
numbered k [] = []
numbered k (w ∷ before) = numbered_by_word (known k before).learnt w.switch w.says ++ numbered k before

-- those of them that were not released since
abbrev pub registered : ℕ → List Word → List Registration
registered k [] = []
registered k (w ∷ before) =
    numbered_by_word (known k before).learnt w.switch w.says ++ filter (λ r. not (is_released_by k before w r.pmac)) (registered k before)

-- of a registration that was given once: it stands still
abbrev pub if_still : Learnt → Registration → Option Registration
if_still learnt r = if option_map_or (λ now. now.number == r.number) (registration learnt r.pmac) false then Some r else None

-- which IPv4 address was said last of a pseudo address since it was last released
abbrev pub ip_since : ℕ → List Word → Pmac → Option Ip4
ip_since k [] x = None
ip_since k (w ∷ before) x = if is_released_by k before w x then None else option_or (ip_said x w.says) (ip_since k before x)

-- the host of the pseudo address with which a word names this IPv4 address
abbrev pub owner_said : Learnt → Ip4 → SwitchId → ToManager → Option Mac
owner_said learnt ip s (tell.Learned pmac amac told) =
    if is_ip told ip then Some (host_of learnt (record { switch = s; pmac = pmac; amac = amac; ip = told })) else None
owner_said learnt ip s says = None

-- and the last that was named so
abbrev pub owner_told : ℕ → List Word → Ip4 → Option Mac
owner_told k [] ip = None
owner_told k (w ∷ before) ip = option_or (owner_said (known k before).learnt ip w.switch w.says) (owner_told k before ip)
