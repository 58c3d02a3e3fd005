-- While a switch learns the source of a frame it drops nothing, and a host stays at its port. Then the source has an address there, or the port
-- is spent.
use Rattle.std.proofs.Common.{◌≡◌, ◌<◌, ℕ, zero, suc, ◌+◌, ◌-◌, ◌&&◌, not, Bool, true, false, if◌then◌else◌, List, [], ◌∷◌, ◌++◌, length, Option, Some, None, is_some, fold, slice_index_or, slice_set, refl, sym, ap, subst, ◌∙◌, arith}
use Rattle.std.specs.List.{position_from, slice_get}
use Rattle.std.proofs.lemmas.Bool.{and_parts, cond_both, false≢true}
use Rattle.std.proofs.lemmas.List.{get_or-set_same}
use Rattle.std.proofs.lemmas.Option.{same_Some}
use Rattle.std.proofs.lemmas.Slice.Eq.{bytes_eq-Decides}
use Rattle.pl_lemmas.proofs.Exports.{all_append}
use Rattle.pl_frame.specs.declared.address.Ip4.{Ip4}
use Rattle.pl_frame.specs.declared.address.Mac.{Mac}
use Rattle.pl_frame.specs.Ethernet.{source_of}
use Rattle.pl_pmac.specs.declared.pmac.Pmac.{Pmac}
use Rattle.pl_node.specs.declared.acts.Act.TheVariants.{Tell}
use Rattle.pl_node.specs.declared.messages.ToManager.TheVariants.{Learned}
use Rattle.pl_node.specs.declared.neighbour.PortRecord.{PortRecord}
use Rattle.pl_layouts.specs.declared.place.Place.{Place}
use Rattle.pl_node.specs.Accounting.{IsShaped, WereGranted}
use Rattle.pl_switch_rule.specs.Granting.{address_at_port, forgets, freed_at, grant_number, grants_at, grants_next, grants_or_learns, grants_remembered, grants_source, has_no_address, in_use, is_port_spent, learns_ip, learns_source, new_grant, next_vmid, remembered_at, remembers, sender_ip, uses, with_grants, with_next}
use Rattle.pl_switch_rule.specs.Intake.{changes_member, hears_members}
use Rattle.pl_layouts.specs.Equality.{is_ip, same_mac}
use Rattle.pl_switch_rule.specs.Levels.{becomes_edge, changes_to, finds_host, has_become_placed, settles_in}
use Rattle.pl_layouts.specs.Memberships.{changes_in}
use Rattle.pl_node.specs.PortRecords.{is_open_to_hosts, new_port, port_of, ports_of_switch, with_port}
use Rattle.pl_layouts.specs.Placement.{is_placed}
use Rattle.pl_steps.specs.Steps.{SwitchStep, rests, ◌▹◌}
use Rattle.pl_node.specs.AddressUses.{is_in_use}
use Rattle.pl_node.specs.declared.address_use.AddressUse.TheVariants.{InUse}
use Rattle.pl_node.specs.declared.switch_records.Grant.{Grant}
use Rattle.pl_node.specs.declared.switch_records.Source.{Source}
use Rattle.pl_node.specs.SwitchViews.{SwitchView}
use Rattle.pl_switch_rule.specs.Telling.{changes_told}
use Rattle.pl_switch_rule.proofs.RowActs.{groups_acts}
use Rattle.pl_switch_rule.proofs.FirstDrops.{AllGoOn, GoesOn, quiet_go_on}
use Rattle.pl_switch_rule.proofs.LevelParts.{quiet_changes_told, quiet_finds_host}
use Rattle.pl_switch_rule.proofs.StepParts.{IsSame}
use Rattle.pl_switch_rule.proofs.Grants.{numbered_at}

-- a part of a step that drops and makes nothing, and leaves the ports as they are
pub record Hears (v : SwitchView) (s : SwitchStep) : Type 0 where
  pub ports : s.view.ports ≡ v.ports
  pub on : AllGoOn s.acts

hears_rests : (v : SwitchView) → Hears v (rests v)
hears_rests v = record { ports = refl; on = tt }

hears_either : (v : SwitchView) (test : Bool) (s t : SwitchStep) → Hears v s → Hears v t → Hears v (if test then s else t)
hears_either v true s t a b = a
hears_either v false s t a b = b

hears_then : (v : SwitchView) (s : SwitchStep) (next : SwitchView → SwitchStep) → Hears v s → ((w : SwitchView) → Hears w (next w)) →
    Hears v (s ▹ next)
hears_then v s next a further = let b = further s.view in
    record { ports = b.ports ∙ a.ports; on = all_append GoesOn s.acts (next s.view).acts a.on b.on }

-- Granting.

hears_grants_next : (v : SwitchView) (port : ℕ) (amac : Mac) (ip : Option Ip4) (vmid : Option ℕ) → Hears v (grants_next v port amac ip vmid)
hears_grants_next v port amac ip None = hears_rests v
hears_grants_next v port amac ip (Some vmid) = record { ports = refl; on = (tt, (tt, tt)) }

hears_learns_ip : (v : SwitchView) (address : Pmac) (grant : Option Grant) (ip : Option Ip4) → Hears v (learns_ip v address grant ip)
hears_learns_ip v address None ip = hears_rests v
hears_learns_ip v address (Some grant) None = record { ports = refl; on = tt }
hears_learns_ip v address (Some grant) (Some ip) =
    let new : Grant = record grant { ip = Some ip } in
    let told : SwitchStep = record { view = uses v address new; acts = Tell (Learned address grant.amac (Some ip)) ∷ [] } in
    hears_either v (is_ip grant.ip ip) (rests (uses v address grant)) told (record { ports = refl; on = tt }) (record { ports = refl; on = (tt, tt) })

hears_grants_or_learns : (v : SwitchView) (port : ℕ) (amac : Mac) (ip : Option Ip4) (vmid : Option ℕ) →
    Hears v (grants_or_learns v port amac ip vmid)
hears_grants_or_learns v port amac ip (Some vmid) =
    hears_learns_ip v (address_at_port v port vmid) (grant_number (grants_at v port) vmid) ip
hears_grants_or_learns v port amac ip None =
    hears_grants_next v port amac ip (next_vmid (freed_at v port) (grants_at v port))

hears_remembers : (v : SwitchView) (port : ℕ) (amac : Mac) (ip : Option Ip4) → Hears v (remembers v port amac ip)
hears_remembers v port amac ip = record { ports = refl; on = tt }

pub hears_learns_source : (v : SwitchView) (port : ℕ) (frame : List ℕ) → Hears v (learns_source v port frame)
hears_learns_source v port frame =
    let used = in_use (grants_at v port) (source_of frame) in
    hears_either v (is_placed v.place) (grants_or_learns v port (source_of frame) (sender_ip frame) used)
    (remembers v port (source_of frame) (sender_ip frame))
    (hears_grants_or_learns v port (source_of frame) (sender_ip frame) used) (hears_remembers v port (source_of frame) (sender_ip frame))

hears_grants_source : (v : SwitchView) (port : ℕ) (source : Option Source) → Hears v (grants_source v port source)
hears_grants_source v port None = hears_rests v
hears_grants_source v port (Some source) =
    hears_grants_or_learns v port source.amac source.ip (in_use (grants_at v port) source.amac)

hears_forgets : (port : ℕ) (v : SwitchView) → Hears v (forgets port v)
hears_forgets port v = record { ports = refl; on = tt }

hears_grants_remembered : (ports : List ℕ) (v : SwitchView) → Hears v (grants_remembered ports v)
unfolding grants_remembered
hears_grants_remembered [] v = hears_rests v
hears_grants_remembered (port ∷ ports) v =
    let source = grants_source v port (remembered_at v port) in
    hears_then v (source ▹ forgets port) (grants_remembered ports)
    (hears_then v source (forgets port) (hears_grants_source v port (remembered_at v port)) (hears_forgets port))
    (λ w. hears_grants_remembered ports w)

-- The source has an address, or the port is spent.

nothing_within : (i : ℕ) → i < 0 → ⊥
nothing_within i within = omega (arith, within)

-- the last one of a list passes the test
last_found : {X : Type 0} (test : X → Bool) (n : ℕ) (xs : List X) (x : X) → test x ≡ true → is_some (position_from test n (xs ++ x ∷ [])) ≡ true
last_found test n [] x passes = ap (λ b. is_some (if b then Some n else None)) passes
last_found test n (y ∷ xs) x passes =
    cond_both (test y) (Some n) (position_from test (n + 1) (xs ++ x ∷ [])) (λ o. is_some o ≡ true) (λ h. refl)
    (λ h. last_found test (n + 1) xs x passes)

-- an item is replaced by one that the test does not tell from it
replaced_found : {X : Type 0} (test : X → Bool) (n : ℕ) (xs : List X) (i : ℕ) (x y : X) → slice_get xs i ≡ Some x → test y ≡ test x →
    position_from test n (slice_set xs i y) ≡ position_from test n xs
replaced_found test n [] i x y at same = refl
replaced_found test n (z ∷ xs) zero x y at same =
    let as_old = same ∙ ap test (sym (same_Some z x at)) in ap (λ b. if b then Some n else position_from test (n + 1) xs) as_old
replaced_found test n (z ∷ xs) (suc i) x y at same =
    ap (λ o. if test z then Some n else o) (replaced_found test (n + 1) xs i x y at same)

-- where an item that passes is found, counted from n on
record IsFoundAt (test : Grant → Bool) (grants : List Grant) (n vmid : ℕ) : Type 0 where
  at : ℕ
  item : Grant
  is : vmid ≡ n + at
  found : slice_get grants at ≡ Some item
  passes : test item ≡ true

found_at : (test : Grant → Bool) (n : ℕ) (grants : List Grant) (vmid : ℕ) → position_from test n grants ≡ Some vmid → IsFoundAt test grants n vmid
found_at test n [] vmid h = absurd (let none : ◌≡◌ {A = Option ℕ} None (Some vmid) = h in cc none)
found_at test n (grant ∷ grants) vmid h = by (λ k. found_at test (n + 1) grants vmid k) (test grant) refl h
  where
    by : (position_from test (n + 1) grants ≡ Some vmid → IsFoundAt test grants (n + 1) vmid) → (b : Bool) → test grant ≡ b →
        (if b then Some n else position_from test (n + 1) grants) ≡ Some vmid → IsFoundAt test (grant ∷ grants) n vmid
    by rest true passes k = record { at = 0; item = grant; is = sym (same_Some n vmid k) ∙ (omega arith); found = refl; passes = passes }
    by rest false fails k =
        let f = rest k in let it = f.is in record { at = suc f.at; item = f.item; is = omega (arith, it); found = f.found; passes = f.passes }

-- the item that is found at a place passes the test
used_passes : (test : Grant → Bool) (grants : List Grant) (vmid : ℕ) (grant : Grant) → position_from test 1 grants ≡ Some vmid → grant_number grants vmid ≡ Some grant →
    test grant ≡ true
used_passes test grants vmid grant found at =
    let f = found_at test 1 grants vmid found in
    let it = f.is in
    let place : vmid - 1 ≡ f.at = omega (arith, it) in
    let there : slice_get grants f.at ≡ Some grant = subst (λ i. slice_get grants i ≡ Some grant) place (numbered_at grants vmid grant at) in
    subst (λ g. test g ≡ true) (same_Some f.item grant (sym f.found ∙ there)) f.passes

in_use_alike : (grant : Grant) (amac : Mac) → (is_in_use grant.held && same_mac grant.amac amac) ≡ true → same_mac grant.amac amac ≡ (is_in_use grant.held && same_mac grant.amac amac)
in_use_alike grant amac is = (and_parts (is_in_use grant.held) (same_mac grant.amac amac) is).1 ∙ sym is

-- what was granted at a port is seen there
grants_at-with : (v : SwitchView) (port : ℕ) (grants : List Grant) → port < length v.grants → grants_at (with_grants v port grants) port ≡ grants
grants_at-with v port grants within = get_or-set_same v.grants port grants [] within

-- the source has an address in use at the port
abbrev HasAddress : SwitchView → ℕ → Mac → Type 0
HasAddress v port amac = is_some (in_use (grants_at v port) amac) ≡ true

-- where a placed switch has none for it, the port is spent
abbrev IsServed : ℕ → Mac → SwitchStep → Type 0
IsServed port amac s = has_no_address s.view port amac ≡ true → is_port_spent s.view port ≡ true

none_in_use : (placed used : Bool) → placed && not used ≡ true → used ≡ true → ⊥
none_in_use true true lacks uses = false≢true lacks
none_in_use false true lacks uses = false≢true lacks
none_in_use placed false lacks uses = false≢true uses

has_served : (port : ℕ) (amac : Mac) (s : SwitchStep) → HasAddress s.view port amac → IsServed port amac s
has_served port amac s has lacks =
    absurd (none_in_use (is_placed s.view.place) (is_some (in_use (grants_at s.view port) amac)) lacks has)

-- the new grant of a port is among its grants, also where it stands in the place of a free one
new_found : {X : Type 0} (test : X → Bool) (n : ℕ) (xs : List X) (i : ℕ) (x : X) → i < length xs → test x ≡ true → is_some (position_from test n (slice_set xs i x)) ≡ true
new_found test n [] i x within passes = absurd (nothing_within i within)
new_found test n (y ∷ xs) zero x within passes = ap (λ b. is_some (if b then Some n else position_from test (n + 1) xs)) passes
new_found test n (y ∷ xs) (suc i) x within passes =
    cond_both (test y) (Some n) (position_from test (n + 1) (slice_set xs i x)) (λ o. is_some o ≡ true) (λ h. refl)
    (λ h. new_found test (n + 1) xs i x (let shorter : i < length xs = omega (arith, within) in shorter) passes)

next_found : (vmids : List ℕ) (grants : List Grant) (amac : Mac) (ip : Option Ip4) → WereGranted grants vmids →
    is_some (in_use (with_next vmids grants (new_grant amac ip)) amac) ≡ true
next_found [] grants amac ip all =
    last_found (λ grant. is_in_use grant.held && same_mac grant.amac amac) 1 grants (new_grant amac ip) ((bytes_eq-Decides amac.0 amac.0).1 refl)
next_found (vmid ∷ vmids) grants amac ip all =
    new_found (λ grant. is_in_use grant.held && same_mac grant.amac amac) 1 grants (vmid - 1) (new_grant amac ip)
    (let some = all.0.0 in let few = all.0.1 in omega (arith, some, few)) ((bytes_eq-Decides amac.0 amac.0).1 refl)

served_grants_next : (v : SwitchView) (port : ℕ) (amac : Mac) (ip : Option Ip4) (o : Option ℕ) → port < length v.grants →
    WereGranted (grants_at v port) (freed_at v port) → next_vmid (freed_at v port) (grants_at v port) ≡ o → IsServed port amac (grants_next v port amac ip o)
served_grants_next v port amac ip None within free is lacks = ap (λ (o : Option ℕ). not (is_some o)) is
served_grants_next v port amac ip (Some vmid) within free is lacks =
    has_served port amac (grants_next v port amac ip (Some vmid))
    (ap (λ gs. is_some (in_use gs amac)) (grants_at-with v port (with_next (freed_at v port) (grants_at v port) (new_grant amac ip)) within)
    ∙ next_found (freed_at v port) (grants_at v port) amac ip free) lacks

-- an address in use is used again, with an IPv4 address or without
used_still : (v : SwitchView) (port vmid : ℕ) (amac : Mac) (grant new : Grant) → port < length v.grants → HasAddress v port amac →
    grant_number (grants_at v port) vmid ≡ Some grant → (is_in_use new.held && same_mac new.amac amac) ≡ (is_in_use grant.held && same_mac grant.amac amac) →
    is_some (in_use (grants_at (with_grants v port (slice_set (grants_at v port) (vmid - 1) new)) port) amac) ≡ true
used_still v port vmid amac grant new within has at alike =
    ap (λ gs. is_some (in_use gs amac)) (grants_at-with v port (slice_set (grants_at v port) (vmid - 1) new) within)
    ∙ ap is_some (replaced_found (λ g. is_in_use g.held && same_mac g.amac amac) 1 (grants_at v port) (vmid - 1) grant new
    (numbered_at (grants_at v port) vmid grant at) alike) ∙ has

-- that one is found by its source: it is in use
served_learns_ip : (v : SwitchView) (port vmid : ℕ) (amac : Mac) (o : Option Grant) (ip : Option Ip4) → port < length v.grants →
    HasAddress v port amac → grant_number (grants_at v port) vmid ≡ o → ((grant : Grant) → o ≡ Some grant → (is_in_use grant.held && same_mac grant.amac amac) ≡ true) →
    IsServed port amac (learns_ip v (address_at_port v port vmid) o ip)
served_learns_ip v port vmid amac None ip within has at own = has_served port amac (rests v) has
served_learns_ip v port vmid amac (Some grant) None within has at own =
    has_served port amac (rests (uses v (address_at_port v port vmid) grant))
    (used_still v port vmid amac grant (record grant { held = InUse 0 }) within has at (in_use_alike grant amac (own grant refl)))
served_learns_ip v port vmid amac (Some grant) (Some ip) within has at own =
    let address : Pmac = address_at_port v port vmid in
    let new : Grant = record grant { ip = Some ip } in
    let told : SwitchStep = record { view = uses v address new; acts = Tell (Learned address grant.amac (Some ip)) ∷ [] } in
    cond_both (is_ip grant.ip ip) (rests (uses v address grant)) told (IsServed port amac)
    (λ known. has_served port amac (rests (uses v address grant))
    (used_still v port vmid amac grant (record grant { held = InUse 0 }) within has at (in_use_alike grant amac (own grant refl))))
    (λ heard. has_served port amac told
    (used_still v port vmid amac grant (record new { held = InUse 0 }) within has at (in_use_alike grant amac (own grant refl))))

served_grants_or_learns : (v : SwitchView) (port : ℕ) (amac : Mac) (ip : Option Ip4) (o : Option ℕ) → port < length v.grants →
    WereGranted (grants_at v port) (freed_at v port) → in_use (grants_at v port) amac ≡ o → IsServed port amac (grants_or_learns v port amac ip o)
served_grants_or_learns v port amac ip (Some vmid) within free used =
    served_learns_ip v port vmid amac (grant_number (grants_at v port) vmid) ip within (ap is_some used) refl
    (λ grant is. used_passes (λ g. is_in_use g.held && same_mac g.amac amac) (grants_at v port) vmid grant used is)
served_grants_or_learns v port amac ip None within free used =
    served_grants_next v port amac ip (next_vmid (freed_at v port) (grants_at v port)) within free refl

served_remembers : (v : SwitchView) (port : ℕ) (amac : Mac) (ip : Option Ip4) → is_placed v.place ≡ false → IsServed port amac (remembers v port amac ip)
served_remembers v port amac ip unplaced lacks =
    absurd (false≢true (sym unplaced ∙ (and_parts (is_placed v.place) (not (is_some (in_use (grants_at v port) amac))) lacks).0))

-- Once a source was learnt, it has an address in use at the port, or the vmids of the port are used up.
pub served_learns_source : (v : SwitchView) (port : ℕ) (frame : List ℕ) → port < length v.grants → WereGranted (grants_at v port) (freed_at v port) →
    IsServed port (source_of frame) (learns_source v port frame)
served_learns_source v port frame within free =
    let amac : Mac = source_of frame in
    let used : Option ℕ = in_use (grants_at v port) amac in
    cond_both (is_placed v.place) (grants_or_learns v port amac (sender_ip frame) used) (remembers v port amac (sender_ip frame))
    (IsServed port amac) (λ placed. served_grants_or_learns v port amac (sender_ip frame) used within free refl)
    (λ unplaced. served_remembers v port amac (sender_ip frame) unplaced)

-- A host is found.

hears_settles_in : (old : Place) (v : SwitchView) → Hears v (settles_in old v)
hears_settles_in old v =
    hears_either v (has_become_placed old v.place) (grants_remembered (ports_of_switch v.k) v) (rests v)
    (hears_grants_remembered (ports_of_switch v.k) v) (hears_rests v)

pub hears_changes_to : (old new : SwitchView) → Hears new (changes_to old new)
hears_changes_to old new = let b = hears_settles_in old.place new in record {
  ports = b.ports;
  on = all_append GoesOn (changes_told old new) (settles_in old.place new).acts
      (quiet_go_on old.k (changes_told old new) (quiet_changes_told old.k old new)) b.on;
}

-- a host is at the port, and nothing was dropped
pub record Finds (port : ℕ) (s : SwitchStep) : Type 0 where
  pub open_to_hosts : is_open_to_hosts (port_of s.view port) ≡ true
  pub on : AllGoOn s.acts

-- what stands at a place once it was put there, where it is a place of the list
stands : (test : PortRecord → Bool) (rs : List PortRecord) (i : ℕ) (r d : PortRecord) → test r ≡ true → test d ≡ true →
    test (slice_index_or (slice_set rs i r) i d) ≡ true
stands test [] i r d put other = other
stands test (x ∷ rs) zero r d put other = put
stands test (x ∷ rs) (suc i) r d put other = stands test rs i r d put other

pub finds_host_finds : (v : SwitchView) (port : ℕ) → Finds port (finds_host v port)
finds_host_finds v port =
    let found : PortRecord = record (port_of v port) { host = true } in
    let heard = hears_changes_to v (becomes_edge (with_port v port found)) in
    record {
      open_to_hosts = ap (λ rs. is_open_to_hosts (slice_index_or rs port new_port)) heard.ports
          ∙ stands is_open_to_hosts v.ports port found new_port refl refl;
      on = heard.on;
    }

-- and then more is heard
pub finds_then : (port : ℕ) (s : SwitchStep) (next : SwitchView → SwitchStep) → Finds port s → ((w : SwitchView) → Hears w (next w)) →
    Finds port (s ▹ next)
finds_then port s next a further = let b = further s.view in record {
  open_to_hosts = ap (λ rs. is_open_to_hosts (slice_index_or rs port new_port)) b.ports ∙ a.open_to_hosts;
  on = all_append GoesOn s.acts (next s.view).acts a.on b.on;
}

-- the source of a frame that comes where a host was found is served
pub finds_then_served : (v : SwitchView) (port : ℕ) (frame : List ℕ) → IsShaped v → port < v.k →
    IsServed port (source_of frame) (finds_host v port ▹ (λ w. learns_source w port frame))
finds_then_served v port frame shaped within =
    let found : SwitchView = (finds_host v port).view in
    let same : IsSame v found = (quiet_finds_host v port shaped).same in
    served_learns_source found port frame (subst (λ n. port < n) (sym (same.shaped.grants ∙ same.k)) within) (same.shaped.free port)

-- Members.

pub hears_members_on : (v : SwitchView) (port : ℕ) (frame : List ℕ) → AllGoOn (hears_members v port frame).acts
hears_members_on v port frame =
    let members = fold (changes_member port (source_of frame)) v.members (changes_in frame) in
    groups_acts GoesOn v.members members (λ group other. tt)
