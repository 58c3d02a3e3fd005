-- What the fabric manager knows stays in order.
use Rattle.std.proofs.Common.{◌≡◌, ℕ, ◌+◌, Bool, true, false, List, [], ◌∷◌, map, Option, Some, None, nat_cmp, refl, sym, ap, ◌∙◌, subst}
use Rattle.std.specs.List.{AllByRecursion, filter, IsDistinct, list_any}
use Rattle.std.specs.List.Sorted.{IsStrictlySortedBy}
use Rattle.std.specs.Map.{keys_of}
use Rattle.std.specs.Cmp.{IsTotalOrder}
use Rattle.std.proofs.lemmas.Bool.{cond_both, or_parts}
use Rattle.std.proofs.lemmas.Cmp.{nat_cmp_total, on_total, then_total}
use Rattle.std.proofs.lemmas.Map.Lookups.{CmpEqualImpliesEq, exact_unsigned}
use Rattle.pl_lemmas.proofs.Exports.{true_inside}
use Rattle.pl_frame.specs.declared.address.Ip4.{Ip4}
use Rattle.pl_frame.specs.declared.address.Mac.{Mac}
use Rattle.pl_frame.specs.declared.address.SwitchId.{SwitchId}
use Rattle.pl_layouts.specs.Equality.{same_pmac, same_switch}
use Rattle.pl_layouts.proofs.Exports.{switch_itself}
use Rattle.pl_node.specs.declared.messages.ToManager.{ToManager}
use Rattle.pl_node.specs.declared.messages.ToManager.TheVariants as tell
use Rattle.pl_node.specs.HostViews.{ip_cmp}
use Rattle.pl_node.specs.ManagerViews.{Learnt, LearntAddress, ManagerView, booted_manager, id_cmp, link_cmp, members_cmp, newest, Told, is_told_usable, neighbours, value_at}
use Rattle.pl_node.proofs.Exports.{among_filtered, among_in_order, among_map, among_mapped, id_total, IsAmong}
use Rattle.pl_manager_rule.specs.ManagerRule.{ToldAddress, host_of, is_registered, learnt_as, manager_hears, recalled, told_again, view_after, with_address, with_owner}
use Rattle.pl_manager_rule.specs.Histories.{Word, known}
use Rattle.pl_manager_rule.specs.Repeats.{TablesAreInOrder}
use Rattle.pl_manager_rule.proofs.Aging.{aged_once, aged_owners}
use Rattle.pl_manager_rule.proofs.Learning.{learnt_registered, same_field, same_recalled}
use Rattle.pl_node.proofs.Exports.{both_equal, id_exact}
use Rattle.pl_manager_rule.proofs.Registered.{askers_once, pmac_turned}
use Rattle.pl_manager_rule.proofs.Tables.{found_key, rising_put}

-- ---- the orders of the tables
pub link_total : IsTotalOrder link_cmp
link_total = then_total (on_total (λ (k : SwitchId × SwitchId). k.0) id_total) (on_total (λ (k : SwitchId × SwitchId). k.1) id_total)

pub members_total : IsTotalOrder members_cmp
members_total = then_total (on_total (λ (k : SwitchId × ℕ). k.0) id_total) (on_total (λ (k : SwitchId × ℕ). k.1) nat_cmp_total)

pub ip_total : IsTotalOrder ip_cmp
ip_total = on_total (λ (ip : Ip4). ip.0) nat_cmp_total

pub link_exact : CmpEqualImpliesEq link_cmp
link_exact a b e =
    let both = both_equal (id_cmp a.0 b.0) (id_cmp a.1 b.1) e in
    let s = id_exact a.0 b.0 both.0 in let u = id_exact a.1 b.1 both.1 in λ i. (s i, u i)

pub members_exact : CmpEqualImpliesEq members_cmp
members_exact a b e =
    let both = both_equal (id_cmp a.0 b.0) (nat_cmp a.1 b.1) e in
    let s = id_exact a.0 b.0 both.0 in let g = exact_unsigned a.1 b.1 both.1 in λ i. (s i, g i)

pub ip_exact : CmpEqualImpliesEq ip_cmp
ip_exact a b e = ap (λ n. let ip : Ip4 = record { 0 = n } in ip) (exact_unsigned a.0 b.0 e)

-- none of them is like this one
none_alike : {K : Type 0} (eq : K → K → Bool) → ((a b : K) → eq a b ≡ eq b a) → (k : K) (ks : List K) →
    list_any (λ q. eq q k) ks ≡ false → AllByRecursion (λ q. eq k q ≡ false) ks
none_alike eq turned k [] h = tt
none_alike eq turned k (q ∷ ks) h =
    let two = or_parts (eq q k) (list_any (λ p. eq p k) ks) h in (turned k q ∙ two.0, none_alike eq turned k ks two.1)

-- ---- addresses
addresses_kept : (learnt : Learnt) (new : ToldAddress) → IsDistinct same_pmac (map (λ a. a.pmac) learnt.addresses) →
    IsDistinct same_pmac (map (λ a. a.pmac) (with_address learnt new))
unfolding IsDistinct
addresses_kept learnt new once =
    let pmacs = map (λ (a : LearntAddress). a.pmac) learnt.addresses in
    let n = learnt.count + 1 in
    cond_both (is_registered learnt.addresses new.pmac) (map (told_again new) learnt.addresses)
    (learnt_as n new ∷ recalled (newest learnt new.amac) new.pmac n learnt.addresses)
    (λ those. IsDistinct same_pmac (map (λ a. a.pmac) those))
    (λ again. subst (IsDistinct same_pmac) (sym (same_field (λ a. a.pmac) (told_again new) (λ a. refl) learnt.addresses)) once)
    (λ first. subst (λ ps. IsDistinct same_pmac (new.pmac ∷ ps))
    (sym (same_recalled (λ a. a.pmac) (λ old x number a. refl) (newest learnt new.amac) new.pmac n learnt.addresses)) (
      none_alike same_pmac pmac_turned new.pmac pmacs (learnt_registered learnt.addresses new.pmac ∙ first),
      once,
    ))

owners_kept : (owners : List (Ip4 × Mac)) (ip : Option Ip4) (amac : Mac) → IsStrictlySortedBy ip_cmp (keys_of owners) →
    IsStrictlySortedBy ip_cmp (keys_of (with_owner owners ip amac))
owners_kept owners None amac rising = rising
owners_kept owners (Some ip) amac rising = rising_put ip_cmp ip_total owners ip amac rising

-- ---- the view
pub boots_in_order : (k : ℕ) → TablesAreInOrder (booted_manager k)
unfolding IsDistinct IsStrictlySortedBy
boots_in_order k = record { places = tt; links = tt; members = tt; askers = tt; addresses = tt; owners = tt }

kept : (view : ManagerView) (s : SwitchId) (says : ToManager) → TablesAreInOrder view → TablesAreInOrder (view_after view s says)
kept view s (tell.Place place) o = record {
  places = rising_put id_cmp id_total view.told.places s place o.places;
  links = o.links;
  members = o.members;
  askers = o.askers;
  addresses = o.addresses;
  owners = o.owners;
}
kept view s (tell.Link u usable) o = record {
  places = o.places;
  links = rising_put link_cmp link_total view.told.links (s, u) usable o.links;
  members = o.members;
  askers = o.askers;
  addresses = o.addresses;
  owners = o.owners;
}
kept view s tell.PodWanted o = record {
  places = o.places;
  links = o.links;
  members = o.members;
  askers = askers_once view.told view.pods s o.askers;
  addresses = o.addresses;
  owners = o.owners;
}
kept view s (tell.Learned pmac amac ip) o = record {
  places = o.places;
  links = o.links;
  members = o.members;
  askers = o.askers;
  addresses = addresses_kept view.learnt (record { switch = s; pmac = pmac; amac = amac; ip = ip }) o.addresses;
  owners = owners_kept view.learnt.owners ip (host_of view.learnt (record { switch = s; pmac = pmac; amac = amac; ip = ip })) o.owners;
}
kept view s (tell.Aged pmac number) o = record {
  places = o.places;
  links = o.links;
  members = o.members;
  askers = o.askers;
  addresses = aged_once view.learnt pmac number o.addresses;
  owners = subst (λ owners. IsStrictlySortedBy ip_cmp (keys_of owners)) (sym (aged_owners view.learnt pmac number)) o.owners;
}
kept view s (tell.Begin epoch) o = o
kept view s (tell.End epoch) o = o
kept view s (tell.Trapped trapped toward numbered) o = o
kept view s (tell.Query asker asker_ip ip) o = o
kept view s (tell.Members group any) o = record {
  places = o.places;
  links = o.links;
  members = rising_put members_cmp members_total view.members (s, group) any o.members;
  askers = o.askers;
  addresses = o.addresses;
  owners = o.owners;
}

pub stays_in_order : (view : ManagerView) (s : SwitchId) (says : ToManager) → TablesAreInOrder view → TablesAreInOrder (manager_hears view s says).view
unfolding manager_hears
stays_in_order view s says o = kept view s says o

pub reached_in_order : (k : ℕ) (words : List Word) → TablesAreInOrder (known k words)
reached_in_order k [] = boots_in_order k
reached_in_order k (w ∷ before) = stays_in_order (known k before) w.switch w.says (reached_in_order k before)

-- a switch to which a usable link was told is among the neighbours that were told
pub near_usable : (told : Told) (s u : SwitchId) → is_told_usable told s u ≡ true → IsAmong u (neighbours told s)
near_usable told s u h =
    let key = found_key link_cmp link_exact told.links (s, u) true (true_inside (value_at link_cmp told.links (s, u)) h) in
    let at = among_map (λ (l : (SwitchId × SwitchId) × Bool). l.0) (s, u) told.links key in
    let passes : same_switch at.0.0.0 s ≡ true = subst (λ (k : SwitchId × SwitchId). same_switch k.0 s ≡ true) (sym at.2) (switch_itself s) in
    let among = among_mapped (λ (l : (SwitchId × SwitchId) × Bool). l.0.1) at.0 _ (among_filtered (λ (l : (SwitchId × SwitchId) × Bool). same_switch l.0.0 s) at.0 told.links at.1 passes) in
    among_in_order id_cmp id_exact u _ (subst (λ x. IsAmong x (map (λ l. l.0.1) (filter (λ l. same_switch l.0.0 s) told.links))) (ap (λ (k : SwitchId × SwitchId). k.1) at.2) among)
