-- Granting addresses, and learning of hosts, is quiet.
use Rattle.std.proofs.Common.{◌≡◌, ◌≤◌, ◌<◌, ◌+◌, ◌-◌, ◌==◌, ℕ, Bool, true, false, if◌then◌else◌, List, [], ◌∷◌, ◌++◌, length, drop, Option, Some, None, slice_set, sym, subst, arith}
use Rattle.std.specs.List.{AllByRecursion, slice_get}
use Rattle.std.specs.Option.{IfSome}
use Rattle.std.proofs.lemmas.List.{length-drop, length-set, length-take-le}
use Rattle.pl_lemmas.proofs.Exports.{all_append}
use Rattle.pl_frame.specs.declared.address.Ip4.{Ip4}
use Rattle.pl_frame.specs.declared.address.Mac.{Mac}
use Rattle.pl_frame.specs.Ethernet.{source_of}
use Rattle.pl_pmac.specs.declared.pmac.Pmac.{Pmac}
use Rattle.pl_node.specs.declared.acts.Act.TheVariants.{Tell}
use Rattle.pl_node.specs.declared.messages.ToManager.TheVariants.{Learned}
use Rattle.pl_switch_rule.specs.Granting.{address_at_port, all_but_first, behind, forgets, freed_at, grant_number, granted, grants_at, grants_new, grants_next, grants_or_learns, grants_remembered, grants_source, in_use, is_local, learns_ip, learns_source, new_grant, next_vmid, or_else, remembered_at, remembered_ip, remembers, sender_ip, uses, with_grant, with_next}
use Rattle.pl_node.specs.Accounting.{HasMac, IsShaped, RemembersMac, WereGranted}
use Rattle.pl_layouts.specs.Placement.{is_placed}
use Rattle.pl_steps.specs.Steps.{SwitchStep, rests, ◌▹◌}
use Rattle.pl_node.specs.declared.address_use.AddressUse.TheVariants.{InUse}
use Rattle.pl_node.specs.declared.switch_records.Grant.{Grant}
use Rattle.pl_node.specs.declared.switch_records.Source.{Source}
use Rattle.pl_node.specs.SwitchViews.{SwitchView}
use Rattle.pl_switch_rule.proofs.StepParts.{IsQuiet, IsSame, quiet_then_quiet}
use Rattle.pl_switch_rule.proofs.Shapes.{all_get, all_set, granted_still, grants_have_macs, same_with_addresses, same_with_orders, same_with_source, source_has_mac}
use Rattle.pl_switch_rule.proofs.QuietActs.{quiet_either, quiet_rests, quiet_self, quiet_step}
use Rattle.pl_layouts.specs.Equality.{is_ip}

-- a grant by its number has an address of six bytes
pub numbered_has_mac : (grants : List Grant) (vmid : ℕ) → AllByRecursion HasMac grants → IfSome (grant_number grants vmid) HasMac
numbered_has_mac grants vmid macs = by (vmid == 0)
  where
    by : (test : Bool) → IfSome (if test then None else slice_get grants (vmid - 1)) HasMac
    by true = tt
    by false = all_get HasMac grants (vmid - 1) macs

-- and one by its address
pub granted_has_mac : (v : SwitchView) (address : Pmac) → IsShaped v → IfSome (granted v address) HasMac
granted_has_mac v address s = by (is_local v address)
  where
    by : (test : Bool) → IfSome (if test then grant_number (grants_at v address.port) address.vmid else None) HasMac
    by true = numbered_has_mac (grants_at v address.port) address.vmid (grants_have_macs v address.port s)
    by false = tt

-- what was granted under an address is changed, and the orders of addresses
pub same_in_order : (v : SwitchView) (address : Pmac) (grant : Grant) (used trapped : List Pmac) → IsShaped v → HasMac grant →
    IsSame v (record (with_grant v address grant) { used = used; trapped = trapped })
same_in_order v address grant used trapped s mac =
    let grants = slice_set (grants_at v address.port) (address.vmid - 1) grant in
    same_with_orders v address.port grants used trapped s
    (all_set HasMac (grants_at v address.port) (address.vmid - 1) grant (grants_have_macs v address.port s) mac)
    (let long = length-set (grants_at v address.port) (address.vmid - 1) grant in omega (arith, long))

pub same_with_grant : (v : SwitchView) (address : Pmac) (grant : Grant) → IsShaped v → HasMac grant → IsSame v (with_grant v address grant)
same_with_grant v address grant s mac = same_in_order v address grant v.used v.trapped s mac

-- the next address is granted
next_has_macs : (vmids : List ℕ) (grants : List Grant) (grant : Grant) → AllByRecursion HasMac grants → HasMac grant → AllByRecursion HasMac (with_next vmids grants grant)
next_has_macs [] grants grant macs mac = all_append HasMac grants (grant ∷ []) macs (mac, tt)
next_has_macs (vmid ∷ vmids) grants grant macs mac = all_set HasMac grants (vmid - 1) grant macs mac

rest_granted : (vmids : List ℕ) (grants : List Grant) (grant : Grant) → WereGranted grants vmids → WereGranted (with_next vmids grants grant) (all_but_first vmids)
rest_granted [] grants grant all = tt
rest_granted (vmid ∷ vmids) grants grant all =
    granted_still grants (slice_set grants (vmid - 1) grant) vmids (let long = length-set grants (vmid - 1) grant in omega (arith, long)) all.1

pub quiet_grants_new : (v : SwitchView) (port : ℕ) (amac : Mac) (ip : Option Ip4) (address : Pmac) → IsShaped v → address.port < v.k → length amac.0 ≡ 6 →
    IsQuiet v (grants_new v port amac ip address)
quiet_grants_new v port amac ip address s within mac =
    let step = grants_new v port amac ip address in
    quiet_step v step.view step.acts
    (same_with_addresses v port (with_next (freed_at v port) (grants_at v port) (new_grant amac ip)) (all_but_first (freed_at v port)) (v.used ++ address ∷ []) v.trapped s
    (next_has_macs (freed_at v port) (grants_at v port) (new_grant amac ip) (grants_have_macs v port s) mac)
    (rest_granted (freed_at v port) (grants_at v port) (new_grant amac ip) (s.free port))) (within, (tt, tt))

pub quiet_grants_next : (v : SwitchView) (port : ℕ) (amac : Mac) (ip : Option Ip4) (vmid : Option ℕ) → IsShaped v → port < v.k → length amac.0 ≡ 6 →
    IsQuiet v (grants_next v port amac ip vmid)
quiet_grants_next v port amac ip None s within mac = quiet_self v s
quiet_grants_next v port amac ip (Some vmid) s within mac = quiet_grants_new v port amac ip (address_at_port v port vmid) s within mac

pub same_uses : (v : SwitchView) (address : Pmac) (grant : Grant) → IsShaped v → HasMac grant → IsSame v (uses v address grant)
same_uses v address grant s mac = same_in_order v address (record grant { held = InUse 0 }) (behind address v.used) v.trapped s mac

pub quiet_learns_ip : (v : SwitchView) (address : Pmac) (grant : Option Grant) (ip : Option Ip4) → IsShaped v → IfSome grant HasMac →
    IsQuiet v (learns_ip v address grant ip)
quiet_learns_ip v address None ip s mac = quiet_self v s
quiet_learns_ip v address (Some grant) None s mac = quiet_rests v (uses v address grant) (same_uses v address grant s mac)
quiet_learns_ip v address (Some grant) (Some ip) s mac =
    let new : Grant = record grant { ip = Some ip } in
    let told : SwitchStep = record { view = uses v address new; acts = Tell (Learned address grant.amac (Some ip)) ∷ [] } in
    quiet_either v (is_ip grant.ip ip) (rests (uses v address grant)) told (λ h. quiet_rests v (uses v address grant) (same_uses v address grant s mac))
    (λ h. quiet_step v (uses v address new) (Tell (Learned address grant.amac (Some ip)) ∷ []) (same_uses v address new s mac) (tt, tt))

pub quiet_grants_or_learns : (v : SwitchView) (port : ℕ) (amac : Mac) (ip : Option Ip4) (vmid : Option ℕ) → IsShaped v → port < v.k → length amac.0 ≡ 6 →
    IsQuiet v (grants_or_learns v port amac ip vmid)
quiet_grants_or_learns v port amac ip (Some vmid) s within mac =
    quiet_learns_ip v (address_at_port v port vmid) (grant_number (grants_at v port) vmid) ip s
    (numbered_has_mac (grants_at v port) vmid (grants_have_macs v port s))
quiet_grants_or_learns v port amac ip None s within mac = quiet_grants_next v port amac ip (next_vmid (freed_at v port) (grants_at v port)) s within mac

pub quiet_remembers : (v : SwitchView) (port : ℕ) (amac : Mac) (ip : Option Ip4) → IsShaped v → length amac.0 ≡ 6 → IsQuiet v (remembers v port amac ip)
quiet_remembers v port amac ip s mac =
    let source : Source = record { amac = amac; ip = or_else ip (remembered_ip (remembered_at v port) amac) } in
    quiet_rests v (record v { remembered = slice_set v.remembered port (Some source) }) (same_with_source v port (Some source) s mac)

pub quiet_forgets : (v : SwitchView) (port : ℕ) → IsShaped v → IsQuiet v (forgets port v)
quiet_forgets v port s = quiet_rests v (record v { remembered = slice_set v.remembered port None }) (same_with_source v port None s tt)

-- the source of a frame has six bytes
pub source_has_six : (frame : List ℕ) → 14 ≤ length frame → length (source_of frame).0 ≡ 6
source_has_six frame long = length-take-le 6 (drop 6 frame) (omega (arith, length-drop 6 frame))

pub quiet_learns_source : (v : SwitchView) (port : ℕ) (frame : List ℕ) → IsShaped v → port < v.k → 14 ≤ length frame →
    IsQuiet v (learns_source v port frame)
quiet_learns_source v port frame s within long =
    quiet_either v (is_placed v.place) (grants_or_learns v port (source_of frame) (sender_ip frame) (in_use (grants_at v port) (source_of frame)))
    (remembers v port (source_of frame) (sender_ip frame))
    (λ h. quiet_grants_or_learns v port (source_of frame) (sender_ip frame) (in_use (grants_at v port) (source_of frame)) s within
    (source_has_six frame long))
    (λ h. quiet_remembers v port (source_of frame) (sender_ip frame) s (source_has_six frame long))

pub quiet_grants_source : (v : SwitchView) (port : ℕ) (source : Option Source) → IsShaped v → port < v.k → RemembersMac source →
    IsQuiet v (grants_source v port source)
quiet_grants_source v port None s within mac = quiet_self v s
quiet_grants_source v port (Some source) s within mac =
    quiet_grants_or_learns v port source.amac source.ip (in_use (grants_at v port) source.amac) s within mac

pub quiet_grants_remembered : (ports : List ℕ) (v : SwitchView) → IsShaped v → AllByRecursion (λ port. port < v.k) ports →
    IsQuiet v (grants_remembered ports v)
unfolding grants_remembered
quiet_grants_remembered [] v s within = quiet_self v s
quiet_grants_remembered (port ∷ ports) v s within =
    quiet_then_quiet v (grants_source v port (remembered_at v port) ▹ forgets port) (grants_remembered ports)
    (quiet_then_quiet v (grants_source v port (remembered_at v port)) (forgets port)
    (quiet_grants_source v port (remembered_at v port) s within.0 (source_has_mac v port s)) (λ w same. quiet_forgets w port same.shaped))
    (λ w same. quiet_grants_remembered ports w same.shaped (subst (λ k. AllByRecursion (λ port. port < k) ports) (sym same.k) within.1))
