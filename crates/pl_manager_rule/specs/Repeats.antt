-- A word that the manager knows already: it is just what was told last of the same thing.
use Rattle.std.specs.Prelude.{◌≡◌, true, false, List, [], ◌∷◌, map, Option, Some, None, option_map, unwrap_or, IsSome}
use Rattle.std.specs.List.{IsDistinct, find}
use Rattle.std.specs.List.Sorted.{IsStrictlySortedBy}
use Rattle.std.specs.Map.{keys_of}
use Rattle.pl_frame.specs.declared.address.Ip4.{Ip4}
use Rattle.pl_frame.specs.declared.address.Mac.{Mac}
use Rattle.pl_frame.specs.declared.address.SwitchId.{SwitchId}
use Rattle.pl_pmac.specs.declared.pmac.Pmac.{Pmac}
use Rattle.pl_layouts.specs.Equality.{same_pmac, same_switch}
use Rattle.pl_node.specs.declared.acts.ManagerAct.{ManagerAct}
use Rattle.pl_node.specs.declared.acts.ManagerAct.TheVariants.{Say}
use Rattle.pl_node.specs.declared.messages.ToManager.{ToManager}
use Rattle.pl_node.specs.declared.messages.ToManager.TheVariants as tell
use Rattle.pl_node.specs.declared.messages.ToSwitch.TheVariants as say
use Rattle.pl_node.specs.HostViews.{ip_cmp}
use Rattle.pl_node.specs.ManagerViews.{Learnt, LearntAddress, ManagerView, Recall, has_aged, id_cmp, ip_of, is_newest_of, link_cmp, lookup, members_cmp, pod_given, owner, recall_of, registration, value_at}
use Rattle.pl_manager_rule.specs.ManagerRule.{answer_to, can_release, counts}

-- Each table rises by its keys, and each asker and each address is there once: so two views that say the same are the same.
pub record TablesAreInOrder (view : ManagerView) : Type 0 where
  pub places : IsStrictlySortedBy id_cmp (keys_of view.told.places)
  pub links : IsStrictlySortedBy link_cmp (keys_of view.told.links)
  pub members : IsStrictlySortedBy members_cmp (keys_of view.members)
  pub askers : IsDistinct same_switch (map (λ g. g.switch) view.pods)
  pub addresses : IsDistinct same_pmac (map (λ a. a.pmac) view.learnt.addresses)
  pub owners : IsStrictlySortedBy ip_cmp (keys_of view.learnt.owners)

-- of a host one address at most leads to no newer one
abbrev pub AreAlone : Mac → List LearntAddress → Type 0
AreAlone mac [] = Unit {0}
AreAlone mac (a ∷ addresses) = (is_newest_of mac a ≡ true → find (is_newest_of mac) addresses ≡ None) × AreAlone mac addresses

-- the IPv4 address was told last with this pseudo address, and its owner is the host of that; none says nothing
abbrev pub IsKnownAddress : Learnt → Pmac → Option Ip4 → Type 0
IsKnownAddress learnt pmac None = Unit {0}
IsKnownAddress learnt pmac (Some ip) = (ip_of learnt pmac ≡ Some ip) × (owner learnt ip ≡ option_map (λ r. r.amac) (registration learnt pmac))

-- the address to which a trap led that has ended cannot be released
abbrev pub IsKeptBehind : Learnt → Option Recall → Type 0
IsKeptBehind learnt None = Unit {0}
IsKeptBehind learnt (Some recall) = can_release learnt recall.new ≡ false

-- That an address has aged is known: it was counted before, and releases nothing.
pub record IsCounted (learnt : Learnt) (x : Pmac) : Type 0 where
  pub aged : has_aged learnt x ≡ true
  pub kept : can_release learnt x ≡ false
  pub led : IsKeptBehind learnt (recall_of learnt x)

-- This is what the switch told last of that place, link or group; it asked for a pod; or the address is known, with that IPv4 address.
-- That an address has aged was counted, or is void. A question tells nothing.
abbrev pub HasToldLast : ManagerView → SwitchId → ToManager → Type 0
HasToldLast view s (tell.Place place) = value_at id_cmp view.told.places s ≡ Some place
HasToldLast view s (tell.Link u usable) = value_at link_cmp view.told.links (s, u) ≡ Some usable
HasToldLast view s tell.PodWanted = IsSome (pod_given view.pods s)
HasToldLast view s (tell.Learned pmac amac ip) = IsSome (registration view.learnt pmac) × IsKnownAddress view.learnt pmac ip
HasToldLast view s (tell.Aged pmac number) = counts view.learnt pmac number ≡ true → IsCounted view.learnt pmac
HasToldLast view s (tell.Begin epoch) = Unit {0}
HasToldLast view s (tell.End epoch) = Unit {0}
HasToldLast view s (tell.Trapped old new number) = Unit {0}
HasToldLast view s (tell.Query asker asker_ip ip) = Unit {0}
HasToldLast view s (tell.Members group any) = value_at members_cmp view.members (s, group) ≡ Some any

-- that an address has aged is told once
abbrev pub CanBeRepeated : ToManager → Type 0
CanBeRepeated (tell.Aged pmac number) = ⊥
CanBeRepeated says = Unit {0}

-- a wish for a pod and a question are answered each time
abbrev pub answers : ManagerView → SwitchId → ToManager → List ManagerAct
answers view s tell.PodWanted = Say s (say.Pod (unwrap_or (pod_given view.pods s) 0)) ∷ []
answers view s (tell.Query asker asker_ip ip) = Say s (answer_to asker asker_ip ip (lookup view.learnt ip)) ∷ []
answers view s says = []
