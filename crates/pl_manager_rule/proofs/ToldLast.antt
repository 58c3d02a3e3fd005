-- What a switch has just told is what it told last.
use Rattle.std.proofs.Common.{◌≡◌, ◌||◌, Bool, true, false, cond, List, [], ◌∷◌, ◌+◌, map, Option, Some, None, is_some, IsSome, refl, sym, ap, ◌∙◌}
use Rattle.std.specs.List.{find, list_any}
use Rattle.std.specs.Option.{option_and_then, option_or}
use Rattle.std.proofs.lemmas.Bool.{cond_both, false≢true}
use Rattle.pl_frame.specs.declared.address.Ip4.{Ip4}
use Rattle.pl_frame.specs.declared.address.Mac.{Mac}
use Rattle.pl_frame.specs.declared.address.SwitchId.{SwitchId}
use Rattle.pl_pmac.specs.declared.pmac.Pmac.{Pmac}
use Rattle.pl_layouts.specs.Equality.{same_pmac}
use Rattle.pl_layouts.proofs.Exports.{pmac_itself}
use Rattle.pl_node.specs.declared.messages.ToManager.{ToManager}
use Rattle.pl_node.specs.declared.messages.ToManager.TheVariants as tell
use Rattle.pl_node.specs.HostViews.{ip_cmp}
use Rattle.pl_node.specs.ManagerViews.{Learnt, LearntAddress, ManagerView, id_cmp, link_cmp, members_cmp, newest, registered_as, registration, registry}
use Rattle.pl_node.proofs.Exports.{id_total}
use Rattle.pl_manager_rule.specs.ManagerRule.{ToldAddress, host_of, is_registered, learnt_as, manager_hears, recalled, told_again, view_after, with_address, with_learnt}
use Rattle.pl_manager_rule.specs.Repeats.{CanBeRepeated, HasToldLast, IsKnownAddress}
use Rattle.pl_manager_rule.proofs.Kept.{ip_total, link_total, members_total}
use Rattle.pl_manager_rule.proofs.Learning.{any_registered, found_where_any, host_now, registry_after}
use Rattle.pl_manager_rule.proofs.Registered.{asker_has_pod}
use Rattle.pl_manager_rule.proofs.Tables.{value_put}

-- an address that was just told is registered
registered_now : (learnt : Learnt) (new : ToldAddress) → IsSome (registration (with_learnt learnt new) new.pmac)
registered_now learnt new =
    ap (λ rs. is_some (find (λ r. same_pmac r.pmac new.pmac) rs)) (registry_after learnt new) ∙ by (is_registered learnt.addresses new.pmac) refl
  where
    by : (b : Bool) → is_registered learnt.addresses new.pmac ≡ b →
        is_some (find (λ r. same_pmac r.pmac new.pmac) (cond b (registry learnt) (registered_as (learnt_as (learnt.count + 1) new) ∷ registry learnt))) ≡ true
    by true there = found_where_any (λ r. same_pmac r.pmac new.pmac) (registry learnt) there
    by false fresh =
        ap (λ b. is_some (cond b (Some (registered_as (learnt_as (learnt.count + 1) new))) (find (λ r. same_pmac r.pmac new.pmac) (registry learnt))))
        (pmac_itself new.pmac)

-- an IPv4 address that was just told is the one of that pseudo address
told_now : (new : ToldAddress) (ip : Ip4) → new.ip ≡ Some ip → (addresses : List LearntAddress) → list_any (λ a. same_pmac a.pmac new.pmac) addresses ≡ true →
    option_and_then (λ a. a.ip) (find (λ a. same_pmac a.pmac new.pmac) (map (told_again new) addresses)) ≡ Some ip
told_now new ip names [] h = absurd (false≢true h)
told_now new ip names (a ∷ addresses) h = by (λ k. told_now new ip names addresses k) (same_pmac a.pmac new.pmac) refl h
  where
    by : (list_any (λ c. same_pmac c.pmac new.pmac) addresses ≡ true →
        option_and_then (λ c. c.ip) (find (λ c. same_pmac c.pmac new.pmac) (map (told_again new) addresses)) ≡ Some ip) →
        (b : Bool) → same_pmac a.pmac new.pmac ≡ b → (b || list_any (λ c. same_pmac c.pmac new.pmac) addresses) ≡ true →
        option_and_then (λ c. c.ip) (cond b (Some (told_again new a)) (find (λ c. same_pmac c.pmac new.pmac) (map (told_again new) addresses))) ≡ Some ip
    by rest true is k = ap (λ b. cond b (option_or new.ip a.ip) a.ip) is ∙ ap (λ o. option_or o a.ip) names
    by rest false is k = rest k

ip_now : (learnt : Learnt) (new : ToldAddress) (ip : Ip4) → new.ip ≡ Some ip →
    option_and_then (λ a. a.ip) (find (λ a. same_pmac a.pmac new.pmac) (with_address learnt new)) ≡ Some ip
ip_now learnt new ip names =
    let n = learnt.count + 1 in
    let others = recalled (newest learnt new.amac) new.pmac n learnt.addresses in
    cond_both (is_registered learnt.addresses new.pmac) (map (told_again new) learnt.addresses) (learnt_as n new ∷ others)
    (λ those. option_and_then (λ a. a.ip) (find (λ a. same_pmac a.pmac new.pmac) those) ≡ Some ip)
    (λ again. told_now new ip names learnt.addresses (any_registered learnt.addresses new.pmac ∙ again))
    (λ first. ap (λ b. option_and_then (λ (a : LearntAddress). a.ip) (cond b (Some (learnt_as n new)) (find (λ a. same_pmac a.pmac new.pmac) others)))
    (pmac_itself new.pmac) ∙ names)

known_now : (learnt : Learnt) (s : SwitchId) (pmac : Pmac) (amac : Mac) (ip : Option Ip4) →
    IsKnownAddress (with_learnt learnt (record { switch = s; pmac = pmac; amac = amac; ip = ip })) pmac ip
known_now learnt s pmac amac None = tt
known_now learnt s pmac amac (Some ip) =
    let new : ToldAddress = record { switch = s; pmac = pmac; amac = amac; ip = Some ip } in (
      ip_now learnt new ip refl,
      value_put ip_cmp ip_total learnt.owners ip (host_of learnt new) ∙ sym (host_now learnt new),
    )

last_now : (view : ManagerView) (s : SwitchId) (says : ToManager) → CanBeRepeated says → HasToldLast (view_after view s says) s says
last_now view s (tell.Place place) can = value_put id_cmp id_total view.told.places s place
last_now view s (tell.Link u usable) can = value_put link_cmp link_total view.told.links (s, u) usable
last_now view s tell.PodWanted can = asker_has_pod view.told view.pods s
last_now view s (tell.Learned pmac amac ip) can = (
  registered_now view.learnt (record { switch = s; pmac = pmac; amac = amac; ip = ip }),
  known_now view.learnt s pmac amac ip,
)
last_now view s (tell.Aged pmac number) can = absurd can
last_now view s (tell.Begin epoch) can = tt
last_now view s (tell.End epoch) can = tt
last_now view s (tell.Trapped trapped toward numbered) can = tt
last_now view s (tell.Query asker asker_ip ip) can = tt
last_now view s (tell.Members group any) can = value_put members_cmp members_total view.members (s, group) any

pub told_is_last : (view : ManagerView) (s : SwitchId) (says : ToManager) → CanBeRepeated says → HasToldLast (manager_hears view s says).view s says
unfolding manager_hears
told_is_last view s says can = last_now view s says can
