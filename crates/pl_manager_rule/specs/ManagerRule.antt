-- What the fabric manager does when it hears a switch, in its first epoch. What it does in all of them is in WholeRule, over this.
use Rattle.std.specs.Prelude.{◌≡◌, ℕ, ◌+◌, ◌==◌, ◌&&◌, ◌||◌, not, is_some, Bool, true, false, if◌then◌else◌, List, [], ◌∷◌, ◌++◌, map, Option, Some, None, unwrap_or}
use Rattle.std.specs.List.{filter, flat_map, list_any}
use Rattle.std.specs.Option.{option_map, option_or}
use Rattle.std.specs.Ordering.{eq_by_cmp}
use Rattle.std.specs.BTreeMap.{insert_entry}
use Rattle.std.specs.Cmp.Lexicographic.{pointwise}
use Rattle.pl_frame.specs.declared.address.Ip4.{Ip4}
use Rattle.pl_frame.specs.declared.address.Mac.{Mac}
use Rattle.pl_frame.specs.declared.address.SwitchId.{SwitchId}
use Rattle.pl_pmac.specs.declared.pmac.Pmac.{Pmac}
use Rattle.pl_layouts.specs.declared.place.Place.{Place}
use Rattle.pl_layouts.specs.Equality.{same_pmac, same_switch}
use Rattle.pl_node.specs.declared.acts.ManagerAct.{ManagerAct}
use Rattle.pl_node.specs.declared.acts.ManagerAct.TheVariants.{Say, Number}
use Rattle.pl_node.specs.declared.messages.ToManager.{ToManager}
use Rattle.pl_node.specs.declared.messages.ToManager.TheVariants as tell
use Rattle.pl_node.specs.declared.messages.ToSwitch.{ToSwitch}
use Rattle.pl_node.specs.declared.messages.ToSwitch.TheVariants as say
use Rattle.pl_node.specs.declared.messages.TreePart.{TreePart}
use Rattle.pl_node.specs.HostViews.{ip_cmp}
use Rattle.pl_node.specs.declared.pod_given.PodGiven.{PodGiven}
use Rattle.pl_node.specs.ManagerViews.{Told, Learnt, LearntAddress, ManagerView, Recall, Registration, first_free, has_aged, id_cmp, ip_of, is_led_to, link_cmp, lookup, members_cmp, newest, number_behind, pod_given, recall_of, registered_as, registration, registry, switches}
use Rattle.pl_node.specs.AvoidLists.{avoid_list, avoided_cmp}
use Rattle.pl_node.specs.Trees.{tree_part}
use Rattle.pl_node.specs.ManagerDuties.{ManagerRule}
use Rattle.pl_node.specs.ManagerFacts.{groups}

-- the places and links that are known once a switch told its place, or whether a link of it is usable
abbrev pub with_place : Told → SwitchId → Place → Told
with_place told s place = record told { places = insert_entry id_cmp told.places s place }

abbrev pub with_link : Told → SwitchId → SwitchId → Bool → Told
with_link told s u usable = record told { links = insert_entry link_cmp told.links (s, u) usable }

-- A switch asks for a pod. One that asks for the first time is given the smallest number that stands in no place told, and that was given to
-- no other one; one that asks again keeps its number.
abbrev pub with_asker : Told → List PodGiven → SwitchId → List PodGiven
with_asker told pods s =
    if list_any (λ g. same_switch g.switch s) pods then pods else record { switch = s; pod = first_free told pods } ∷ pods

-- a switch tells a pseudo address, the actual address of its host, and maybe the IPv4 address
pub record ToldAddress : Type 0 where
  pub switch : SwitchId
  pub pmac : Pmac
  pub amac : Mac
  pub ip : Option Ip4

-- the IPv4 address of a pseudo address once it was told with this one
abbrev pub told_again : ToldAddress → LearntAddress → LearntAddress
told_again new a = record a { ip = if same_pmac a.pmac new.pmac then option_or new.ip a.ip else a.ip }

-- an old address leads to a newer one of this number from then on
abbrev pub leads_on : Pmac → Pmac → ℕ → LearntAddress → LearntAddress
leads_on old new number a = record a {
  recall = if same_pmac a.pmac old then Some (record { new = new; number = number }) else a.recall;
  aged = not (same_pmac a.pmac old) && a.aged;
}

abbrev pub recalled : Option Registration → Pmac → ℕ → List LearntAddress → List LearntAddress
recalled None new number addresses = addresses
recalled (Some old) new number addresses = map (leads_on old.pmac new number) addresses

abbrev pub is_registered : List LearntAddress → Pmac → Bool
is_registered addresses x = list_any (λ r. same_pmac r.pmac x) (map registered_as addresses)

abbrev pub learnt_as : ℕ → ToldAddress → LearntAddress
learnt_as number new =
    record { switch = new.switch; pmac = new.pmac; amac = new.amac; ip = new.ip; number = number; recall = None; aged = false }

-- An address that was learnt before keeps its place and its host, and takes the IPv4 address where one is told. Another one is the newest: it has
-- the next number, and the one that was the newest of its host leads to it.
abbrev pub with_address : Learnt → ToldAddress → List LearntAddress
with_address learnt new =
    if is_registered learnt.addresses new.pmac then map (told_again new) learnt.addresses
    else learnt_as (learnt.count + 1) new ∷ recalled (newest learnt new.amac) new.pmac (learnt.count + 1) learnt.addresses

-- the host of an address: that for which it is registered
abbrev pub host_of : Learnt → ToldAddress → Mac
host_of learnt new = unwrap_or (option_map (λ r. r.amac) (registration learnt new.pmac)) new.amac

-- with the pseudo address of which host an IPv4 address was told last
abbrev pub with_owner : List (Ip4 × Mac) → Option Ip4 → Mac → List (Ip4 × Mac)
with_owner owners None amac = owners
with_owner owners (Some ip) amac = insert_entry ip_cmp owners ip amac

-- what was learnt of addresses once this is told
abbrev pub with_learnt : Learnt → ToldAddress → Learnt
with_learnt learnt new = record learnt {
  addresses = with_address learnt new;
  owners = with_owner learnt.owners new.ip (host_of learnt new);
  count = if is_registered learnt.addresses new.pmac then learnt.count else learnt.count + 1;
}

-- what is known once something was said of an address, and what is said then
pub record LearntStep : Type 0 where
  pub learnt : Learnt
  pub acts : List ManagerAct

abbrev pub nothing_said : Learnt → LearntStep
nothing_said learnt = record { learnt = learnt; acts = [] }

-- That a registered address has aged counts where the number is the one behind which it ages now. Else it is void: a newer address of its host was
-- said to its switch since.
abbrev pub counts : Learnt → Pmac → ℕ → Bool
counts learnt x number = is_some (registration learnt x) && (number == number_behind (recall_of learnt x))

abbrev pub ages_now : Pmac → LearntAddress → LearntAddress
ages_now x a = record a { aged = same_pmac a.pmac x || a.aged }

abbrev pub with_aged : Learnt → Pmac → Learnt
with_aged learnt x = record learnt { addresses = map (ages_now x) learnt.addresses }

-- an address that has aged, and to which no trap leads that stands
abbrev pub can_release : Learnt → Pmac → Bool
can_release learnt x = has_aged learnt x && not (is_led_to learnt x)

abbrev pub forgets : Learnt → Pmac → Learnt
forgets learnt x = record learnt { addresses = filter (λ a. not (same_pmac a.pmac x)) learnt.addresses }

-- it is forgotten, with its number, and the switch that told it may give it again
abbrev pub releases_as : Pmac → Learnt → Option Registration → LearntStep
releases_as x learnt None = nothing_said learnt
releases_as x learnt (Some reg) = record { learnt = forgets learnt x; acts = Say reg.switch (say.Release x) ∷ [] }

abbrev pub releases : Pmac → Learnt → LearntStep
releases x learnt = if can_release learnt x then releases_as x learnt (registration learnt x) else nothing_said learnt

-- the address to which a trap led that has ended may be released then
abbrev pub releases_led : Option Recall → Learnt → LearntStep
releases_led None learnt = nothing_said learnt
releases_led (Some recall) learnt = releases recall.new learnt

-- an address has aged: first it is released itself, and then the one to which its trap led
abbrev pub releases_both : Pmac → Option Recall → Learnt → LearntStep
releases_both x recall learnt = let own = releases x learnt in record {
  learnt = (releases_led recall own.learnt).learnt;
  acts = own.acts ++ (releases_led recall own.learnt).acts;
}

-- An edge switch tells that an address has aged there.
abbrev pub hears_aged : Learnt → Pmac → ℕ → LearntStep
hears_aged learnt x number =
    if counts learnt x number then releases_both x (recall_of learnt x) (with_aged learnt x) else nothing_said learnt

-- the view once this was told: a later word takes the place of the one before, and a question leaves no trace
abbrev pub view_after : ManagerView → SwitchId → ToManager → ManagerView
view_after view s (tell.Place place) = record view { told = with_place view.told s place }
view_after view s (tell.Link u usable) = record view { told = with_link view.told s u usable }
view_after view s tell.PodWanted = record view { pods = with_asker view.told view.pods s }
view_after view s (tell.Learned pmac amac ip) =
    record view { learnt = with_learnt view.learnt (record { switch = s; pmac = pmac; amac = amac; ip = ip }) }
view_after view s (tell.Aged pmac number) = record view { learnt = (hears_aged view.learnt pmac number).learnt }
view_after view s (tell.Begin epoch) = view
view_after view s (tell.End epoch) = view
view_after view s (tell.Trapped old new number) = view
view_after view s (tell.Query asker asker_ip ip) = view
view_after view s (tell.Members group any) = record view { members = insert_entry members_cmp view.members (s, group) any }

-- The newest address of a host is replaced: the switch that told it first is sent the new one, with the IPv4 address that is known for
-- the new one, else for the old one.
abbrev pub invalidation : Learnt → Pmac → ℕ → Option Registration → List ManagerAct
invalidation learnt new number None = []
invalidation learnt new number (Some old) =
    Say old.switch (say.Invalidate old.pmac new number (option_or (ip_of learnt new) (ip_of learnt old.pmac))) ∷ []

-- An address that was learnt before says nothing new. Another one gets the next number.
abbrev pub learning : Learnt → Learnt → Pmac → Mac → List ManagerAct
learning before after pmac amac =
    if list_any (λ r. same_pmac r.pmac pmac) (registry before) then []
    else Number pmac (before.count + 1) ∷ invalidation after pmac (before.count + 1) (newest before amac)

-- a question is answered with the address that it finds; where it finds none, all hosts are to be asked
abbrev pub answer_to : Pmac → Ip4 → Ip4 → Option Pmac → ToSwitch
answer_to asker asker_ip ip None = say.Flood asker asker_ip ip
answer_to asker asker_ip ip (Some pmac) = say.Answer asker asker_ip ip pmac

-- what the message itself brings about; every pod that is asked for was given a number
abbrev pub reply : ManagerView → ManagerView → SwitchId → ToManager → List ManagerAct
reply before after s tell.PodWanted = Say s (say.Pod (unwrap_or (pod_given after.pods s) 0)) ∷ []
reply before after s (tell.Learned pmac amac ip) = learning before.learnt after.learnt pmac amac
reply before after s (tell.Aged pmac number) = (hears_aged before.learnt pmac number).acts
reply before after s (tell.Query asker asker_ip ip) = Say s (answer_to asker asker_ip ip (lookup after.learnt ip)) ∷ []
reply before after s says = []

-- two avoid lists are the same where their items are, one by one
abbrev pub same_avoid_list : List (SwitchId × ℕ × ℕ) → List (SwitchId × ℕ × ℕ) → Bool
same_avoid_list = pointwise (eq_by_cmp avoided_cmp)

-- the switches whose avoid list changed, by rising id
abbrev pub changed : Told → Told → List SwitchId
changed before after = filter (λ s. not (same_avoid_list (avoid_list before s) (avoid_list after s))) (switches after)

-- each is sent its new list
abbrev pub avoid_acts : Told → Told → List ManagerAct
avoid_acts before after = map (λ s. Say s (say.Avoid (avoid_list after s))) (changed before after)

-- the same neighbour above, or none twice
abbrev pub same_up : Option SwitchId → Option SwitchId → Bool
same_up None None = true
same_up (Some a) (Some b) = same_switch a b
same_up a b = false

-- the same neighbours above and below, or no part twice
abbrev pub same_part : Option TreePart → Option TreePart → Bool
same_part None None = true
same_part (Some x) (Some y) = same_up x.up y.up && pointwise same_switch x.down y.down
same_part x y = false

-- the part of a switch by what is known
abbrev pub part_in : ManagerView → ℕ → SwitchId → Option TreePart
part_in view group s = tree_part view.told view.members group s

-- the switches whose part of a group changed, by rising id
abbrev pub changed_of_group : ManagerView → ManagerView → ℕ → List SwitchId
changed_of_group before after group =
    filter (λ s. not (same_part (part_in before group s) (part_in after group s))) (switches after.told)

-- each is sent its new part, or that it has none
abbrev pub tree_acts_of : ManagerView → ManagerView → ℕ → List ManagerAct
tree_acts_of before after group = map (λ s. Say s (say.Tree group (part_in after group s))) (changed_of_group before after group)

-- by rising group
abbrev pub tree_acts : ManagerView → ManagerView → List ManagerAct
tree_acts before after = flat_map (tree_acts_of before after) (groups after.members)

-- what it knows then, and what it does
pub record ManagerStep : Type 0 where
  pub view : ManagerView
  pub acts : List ManagerAct

-- first what the message itself brings about, then avoid lists, then parts of trees
abbrev pub acts_of : ManagerView → ManagerView → SwitchId → ToManager → List ManagerAct
acts_of before after s says = reply before after s says ++ avoid_acts before.told after.told ++ tree_acts before after

-- the step: a switch says this
unfoldable pub manager_hears : ManagerView → SwitchId → ToManager → ManagerStep
manager_hears view s says = record { view = view_after view s says; acts = acts_of view (view_after view s says) s says }

-- the rule of this fabric manager in its first epoch: just that step
abbrev pub manager_rule : ManagerRule
manager_rule before s says after acts = (after ≡ (manager_hears before s says).view) × (acts ≡ (manager_hears before s says).acts)
