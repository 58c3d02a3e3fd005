-- What the calls of an address table make of a switch, put together from the change of one address.
use Rattle.std.proofs.Common.{◌≡◌, ◌≢◌, ◌<◌, ◌≤◌, ◌⊎◌, ℕ, ◌+◌, ◌-◌, Bool, true, false, cond, nat_le, nat_lt, not, List, [], ◌∷◌, ◌++◌, length, get_or, Option, Some, None, Result, Ok, Err, OnOk, is_some, refl, inl, inr, sym, ap, subst, ◌∙◌, arith}
use Rattle.std.specs.Prelude.{slice_index_or, slice_set}
use Rattle.std.proofs.lemmas.Bool.{cases_Bool, cond-false, cond-true, leb-false, leb-true, le-ltb, lt-ltb}
use Rattle.std.proofs.lemmas.List.{append-nil, append_cancel_left, get_or-set_same, set-set}
use Rattle.std.proofs.lemmas.List.Elements.{filter-append}
use Rattle.std.proofs.lemmas.Option.{same_Some}
use Rattle.pl_frame.specs.declared.address.Ip4.{Ip4}
use Rattle.pl_frame.specs.declared.address.Mac.{Mac}
use Rattle.pl_pmac.specs.declared.pmac.Pmac.{Pmac}
use Rattle.pl_layouts.specs.Equality.{is_ip, same_pmac}
use Rattle.pl_node.specs.AddressUses.{is_held, is_in_use, standing_trap}
use Rattle.pl_node.specs.declared.acts.Act.{Act}
use Rattle.pl_node.specs.declared.acts.Act.TheVariants.{Free as FreeAct, Tell}
use Rattle.pl_node.specs.declared.address_use.AddressUse.{AddressUse}
use Rattle.pl_node.specs.declared.address_use.AddressUse.TheVariants as as_used
use Rattle.pl_node.specs.declared.messages.ToManager.TheVariants.{Aged, Learned}
use Rattle.pl_node.specs.declared.switch_records.Grant.{Grant}
use Rattle.pl_node.specs.declared.trap.Trap.{Trap}
use Rattle.pl_node.specs.SwitchViews.{SwitchView}
use Rattle.pl_node.proofs.Exports.{in_use_has_no_trap}
use Rattle.pl_steps.specs.Steps.{SwitchStep, does, rests}
use Rattle.pl_steps.specs.Taken.{IsTaken, IsTakenByPart}
use Rattle.pl_switch_rule.specs.Aging.{ages_out, ages_out_of, comes_to_rest}
use Rattle.pl_switch_rule.specs.Delivering.{grant_trap}
use Rattle.pl_switch_rule.specs.Granting.{behind, granted, grants_new, grants_next, grants_or_learns, in_use, learns_ip, next_vmid, unless_free, uses, with_grant, without}
use Rattle.pl_switch_rule.specs.Messages.{becomes_free, frees, frees_at, sets_trap_over, with_trap}
use Rattle.pl_migrate.specs.AddressTables.{AddressTableView, address_in, address_in_use, address_table_in, edge_at, freed_of, granted_in, grants_of, held_in, is_address_in_use, is_used, next_address, numbered, takes_ip, takes_over, trap_in, traps, use_of, used_if, with_ip}
use Rattle.pl_migrate.specs.Keeping.{AgesBehind, IsAged, IsAtPlaceOf, IsNextDue, KeepsGrants, KeepsTraps, newer_trap}
use Rattle.pl_migrate.specs.Standings.{CanStandSo, is_resting, stands_so}
use Rattle.pl_migrate.specs.declared.tenancy.Standing.TheVariants.{Fresh, Trapped, Resting, Free}
use Rattle.pl_migrate.proofs.AllLearnt.{keeps_itself, keeps_then}
use Rattle.pl_migrate.proofs.Changes.{granted_itself, is_granted_here}
use Rattle.pl_migrate.proofs.Granted.{IsUsedSo, any_switch, bare_of_view, stood_so, used_so, with_granted}

pub taken_same : (f g : SwitchView → SwitchStep) (before after : AddressTableView) (out told : List Act) →
    ((v : SwitchView) → f (address_table_in before v) ≡ g (address_table_in before v)) →
    IsTakenByPart address_table_in f before after out told → IsTakenByPart address_table_in g before after out told
taken_same f g before after out told same taken = λ v. subst (λ s. IsTaken s (address_table_in after v) out told) (same v) (taken v)

-- An address in use is used.

pub can_use : (o : Option Grant) → is_used o ≡ true → CanStandSo Fresh o
can_use None used = absurd (let e = used in cc)
can_use (Some grant) used = used

pub fresh_is_used : (w : SwitchView) (address : Pmac) (o : Option Grant) → stands_so Fresh w address o ≡ used_if w address o
fresh_is_used w address None = refl
fresh_is_used w address (Some grant) = refl

pub record StaysUsed (old new : AddressTableView) : Type 0 where
  pub used : (port : ℕ) (amac : Mac) → address_in_use new port amac ≡ address_in_use old port amac
  pub kept : KeepsGrants old new
  pub traps : KeepsTraps old new

stays_used_by : (old new : AddressTableView) (address : Pmac) (o : Option Grant) → granted_in old address ≡ o → is_used o ≡ true →
    address_table_in new any_switch ≡ stands_so Fresh (address_table_in old any_switch) address o → StaysUsed old new
stays_used_by old new address None found used step = absurd (let e = used in cc)
stays_used_by old new address (Some grant) found used step = let so = stood_so Fresh old new address grant used found step in record {
  used = so.used (sym used);
  kept = so.kept refl;
  traps = so.traps (sym (in_use_has_no_trap grant.held used));
}

pub stays_used : (old new : AddressTableView) (address : Pmac) → is_address_in_use old address ≡ true →
    address_table_in new any_switch ≡ stands_so Fresh (address_table_in old any_switch) address (granted_in old address) → StaysUsed old new
stays_used old new address used step = stays_used_by old new address (granted_in old address) refl used step

-- The address of a host that is heard.

record IsAtPort (old : AddressTableView) (port : ℕ) (amac : Mac) (address : Pmac) : Type 0 where
  pub vmid : ℕ
  pub found : in_use (grants_of old port) amac ≡ Some vmid
  pub is : address_in old port vmid ≡ address

at_port : (old : AddressTableView) (port : ℕ) (amac : Mac) (o : Option ℕ) (address : Pmac) → in_use (grants_of old port) amac ≡ o →
    numbered old port o ≡ Some address →
    IsAtPort old port amac address
at_port old port amac None address found is = absurd (let e = is in cc)
at_port old port amac (Some vmid) address found is = record { vmid = vmid; found = found; is = same_Some _ _ is }

-- it learns what it gives
pub learns_known : (old : AddressTableView) (port : ℕ) (amac : Mac) (ip : Option Ip4) (address : Pmac) → address_in_use old port amac ≡ Some address →
    (v : SwitchView) →
    learns_ip (address_table_in old v) address (granted_in old address) ip
    ≡ grants_or_learns (address_table_in old v) port amac ip (in_use (grants_of old port) amac)
learns_known old port amac ip address used v =
    let is = at_port old port amac (in_use (grants_of old port) amac) address refl used in
    let w : SwitchView = address_table_in old v in
    sym (ap (grants_or_learns w port amac ip) is.found
    ∙ ap (λ o. learns_ip w (address_in old port is.vmid) o ip) (sym (granted_itself old port is.vmid))
    ∙ ap (λ a. learns_ip w a (granted_in old a) ip) is.is)

pub used_learns : (w : SwitchView) (address : Pmac) (o : Option Grant) → used_if w address o ≡ (learns_ip w address o None).view
used_learns w address None = refl
used_learns w address (Some grant) = refl

-- or gets the next one
unknown_by : (old : AddressTableView) (port : ℕ) (amac : Mac) (ip : Option Ip4) (o : Option ℕ) → numbered old port o ≡ None → (v : SwitchView) →
    grants_or_learns (address_table_in old v) port amac ip o
    ≡ grants_next (address_table_in old v) port amac ip (next_vmid (freed_of old port) (grants_of old port))
unknown_by old port amac ip None none v = refl
unknown_by old port amac ip (Some vmid) none v = absurd (let e = none in cc)

next_by : (old : AddressTableView) (port : ℕ) (amac : Mac) (ip : Option Ip4) (o : Option ℕ) (address : Pmac) → numbered old port o ≡ Some address →
    (v : SwitchView) →
    grants_next (address_table_in old v) port amac ip o ≡ grants_new (address_table_in old v) port amac ip address
next_by old port amac ip None address is v = absurd (let e = is in cc)
next_by old port amac ip (Some vmid) address is v = ap (grants_new (address_table_in old v) port amac ip) (same_Some _ _ is)

spent_by : (old : AddressTableView) (port : ℕ) (amac : Mac) (ip : Option Ip4) (o : Option ℕ) → numbered old port o ≡ None → (v : SwitchView) →
    grants_next (address_table_in old v) port amac ip o ≡ rests (address_table_in old v)
spent_by old port amac ip None none v = refl
spent_by old port amac ip (Some vmid) none v = absurd (let e = none in cc)

pub learns_next : (old : AddressTableView) (port : ℕ) (amac : Mac) (ip : Option Ip4) (address : Pmac) → address_in_use old port amac ≡ None →
    next_address old port ≡ Some address → (v : SwitchView) →
    grants_new (address_table_in old v) port amac ip address
    ≡ grants_or_learns (address_table_in old v) port amac ip (in_use (grants_of old port) amac)
learns_next old port amac ip address none next v =
    sym (unknown_by old port amac ip (in_use (grants_of old port) amac) none v
    ∙ next_by old port amac ip (next_vmid (freed_of old port) (grants_of old port)) address next v)

pub learns_nothing : (old : AddressTableView) (port : ℕ) (amac : Mac) (ip : Option Ip4) → address_in_use old port amac ≡ None →
    next_address old port ≡ None → (v : SwitchView) →
    rests (address_table_in old v) ≡ grants_or_learns (address_table_in old v) port amac ip (in_use (grants_of old port) amac)
learns_nothing old port amac ip none spent v =
    sym (unknown_by old port amac ip (in_use (grants_of old port) amac) none v
    ∙ spent_by old port amac ip (next_vmid (freed_of old port) (grants_of old port)) spent v)

port_by : (old : AddressTableView) (port : ℕ) (o : Option ℕ) (address : Pmac) → numbered old port o ≡ Some address → address.port ≡ port
port_by old port None address is = absurd (let e = is in cc)
port_by old port (Some vmid) address is = sym (ap (λ (a : Pmac). a.port) (same_Some _ _ is))

pub next_port : (old : AddressTableView) (port : ℕ) (address : Pmac) → next_address old port ≡ Some address → address.port ≡ port
next_port old port address next = port_by old port (next_vmid (freed_of old port) (grants_of old port)) address next

pub spent_is : (old : AddressTableView) (port : ℕ) (o : Option ℕ) → numbered old port o ≡ None → not (is_some o) ≡ true
spent_is old port None none = refl
spent_is old port (Some vmid) none = absurd (let e = none in cc)

pub unspent_is : (old : AddressTableView) (port : ℕ) (address : Pmac) (o : Option ℕ) → numbered old port o ≡ Some address → not (is_some o) ≡ true → ⊥
unspent_is old port address None is spent = let e = is in cc
unspent_is old port address (Some vmid) is spent = let e = spent in cc

-- A new IPv4 address.

pub record HasIp (old between new : AddressTableView) (address : Pmac) (grant : Grant) (ip : Ip4) : Type 0 where
  pub view : (v : SwitchView) → address_table_in new v ≡ uses (address_table_in old v) address (record grant { ip = Some ip })
  pub stays : StaysUsed old new

abbrev with_own : Grant → Ip4 → Grant
with_own grant ip = record grant { ip = Some ip }

pub knows_ip : (old between : AddressTableView) (address : Pmac) (grant : Grant) (ip : Ip4) → granted_in old address ≡ Some grant →
    address_table_in between any_switch ≡ with_ip (address_table_in old any_switch) address ip (granted_in old address) →
    IsUsedSo old between address grant (with_own grant ip)
knows_ip old between address grant ip found step =
    used_so old between address grant (with_own grant ip) found refl
    (bare_of_view between _ old.pod old.position (with_granted old address (with_own grant ip)).grants (step
    ∙ ap (with_ip (address_table_in old any_switch) address ip) found) refl refl)

pub known_in_use : (old between : AddressTableView) (address : Pmac) (grant : Grant) (ip : Ip4) → is_in_use grant.held ≡ true →
    IsUsedSo old between address grant (with_own grant ip) →
    is_address_in_use between address ≡ true
known_in_use old between address grant ip used known = ap is_used known.granted ∙ used

twice : (old : AddressTableView) (address : Pmac) (grant : Grant) (ip : Ip4) (v : SwitchView) → granted_in old address ≡ Some grant →
    uses (with_grant (address_table_in old v) address (with_own grant ip)) address (with_own grant ip)
    ≡ uses (address_table_in old v) address (with_own grant ip)
twice old address grant ip v found =
    let is = is_granted_here old address grant found in
    let now : Grant = record grant { ip = Some ip; held = as_used.InUse 0 } in
    let one : List Grant = slice_set (grants_of old address.port) (address.vmid - 1) (with_own grant ip) in
    let read : slice_index_or (slice_set old.grants address.port one) address.port [] ≡ one = get_or-set_same old.grants address.port one [] is.within in
    ap (λ grants. record (address_table_in old v) { grants = grants; used = behind address (old.asked ++ old.fresh) })
    (set-set old.grants address.port one (slice_set (slice_index_or (slice_set old.grants address.port one) address.port []) (address.vmid - 1) now)
    ∙ ap (slice_set old.grants address.port)
    (ap (λ (gs : List Grant). slice_set gs (address.vmid - 1) now) read ∙ set-set (grants_of old address.port) (address.vmid - 1) (with_own grant ip) now))

pub has_ip : (old between new : AddressTableView) (address : Pmac) (grant : Grant) (ip : Ip4) → granted_in old address ≡ Some grant →
    is_in_use grant.held ≡ true →
    ((v : SwitchView) → address_table_in between v ≡ with_ip (address_table_in old v) address ip (granted_in old address)) →
    ((v : SwitchView) → address_table_in new v ≡ used_if (address_table_in between v) address (granted_in between address)) →
    StaysUsed between new → HasIp old between new address grant ip
has_ip old between new address grant ip found used step next stays =
    let known = knows_ip old between address grant ip found (step any_switch) in
    record {
      view = λ v.
          next v ∙ ap (used_if (address_table_in between v) address) known.granted
          ∙ ap (λ w. uses w address (with_own grant ip)) (step v ∙ ap (with_ip (address_table_in old v) address ip) found)
          ∙ twice old address grant ip v found;
      stays = record {
        used = λ port amac. stays.used port amac ∙ known.used refl port amac;
        kept = keeps_then old between new (known.kept (used_held grant.held used)) stays.kept;
        traps = λ other. stays.traps other ∙ known.traps refl other;
      };
    }
  where
    used_held : (held : AddressUse) → is_in_use held ≡ true → is_held held ≡ true
    used_held (as_used.InUse idle) used = refl
    used_held (as_used.Trapped trap age) used = refl
    used_held (as_used.Resting number) used = refl
    used_held as_used.Free used = used

-- A trap is set.

unfree : (o : Option Grant) (grant : Grant) → unless_free o ≡ Some grant → (o ≡ Some grant) × (is_held grant.held ≡ true)
unfree None grant found = absurd (let e = found in cc)
unfree (Some other) grant found = elim (is_held other.held) as (λ b. is_held other.held ≡ b → cond b (Some other) None ≡ Some grant →
    (Some other ≡ Some grant) × (is_held grant.held ≡ true)) [
      | true ↦ λ held is. (is, sym (ap (λ (g : Grant). is_held g.held) (same_Some _ _ is)) ∙ held)
      | false ↦ λ free is. absurd (let e = is in cc)
    ] refl found

pub held_is_granted : (table : AddressTableView) (address : Pmac) (grant : Grant) → held_in table address ≡ Some grant →
    (granted_in table address ≡ Some grant) × (is_held grant.held ≡ true)
held_is_granted table address grant held = unfree (granted_in table address) grant held

pub can_trap : (table : AddressTableView) (address : Pmac) (grant : Grant) (to : Trap) → held_in table address ≡ Some grant →
    CanStandSo (Trapped to) (granted_in table address)
can_trap table address grant to held = let is = held_is_granted table address grant held in subst (CanStandSo (Trapped to)) (sym is.0) is.1

sets_over : (o : Option Trap) (w : SwitchView) (address : Pmac) (grant : Grant) (to : Trap) → takes_over to o ≡ true →
    sets_trap_over o w address grant to ≡ with_trap w address grant to
sets_over None w address grant to over = refl
sets_over (Some standing) w address grant to over =
    cond-false (nat_lt to.number standing.number) w (with_trap w address grant to) (le-ltb to.number standing.number (leb-true standing.number to.number over))

sets_none : (o : Option Trap) (w : SwitchView) (address : Pmac) (grant : Grant) (to : Trap) → takes_over to o ≡ false → sets_trap_over o w address grant to ≡ w
sets_none None w address grant to stays = absurd (let e = stays in cc)
sets_none (Some standing) w address grant to stays =
    cond-true (nat_lt to.number standing.number) w (with_trap w address grant to) (lt-ltb to.number standing.number (leb-false standing.number to.number stays))

newer_over : (o : Option Trap) (to : Trap) → takes_over to o ≡ true → to ≡ newer_trap to o
newer_over None to over = refl
newer_over (Some standing) to over =
    sym (cond-false (nat_lt to.number standing.number) standing to (le-ltb to.number standing.number (leb-true standing.number to.number over)))

newer_stays : (o : Option Trap) (to : Trap) → takes_over to o ≡ false → o ≡ Some (newer_trap to o)
newer_stays None to stays = absurd (let e = stays in cc)
newer_stays (Some standing) to stays =
    ap (λ (t : Trap). Some t) (sym (cond-true (nat_lt to.number standing.number) standing to (lt-ltb to.number standing.number
    (leb-false standing.number to.number stays))))

-- what stands where a trap stood
over_used : (held : AddressUse) (to : Trap) → takes_over to (standing_trap held) ≡ false → is_in_use held ≡ false
over_used (as_used.InUse idle) to stays = absurd (let e = stays in cc)
over_used (as_used.Trapped trap age) to stays = refl
over_used (as_used.Resting number) to stays = refl
over_used as_used.Free to stays = refl

pub record HasTrapSet (old new : AddressTableView) (address : Pmac) (to : Trap) (answer : Bool) : Type 0 where
  pub answer_is : answer ≡ is_address_in_use old address
  pub step : (v : SwitchView) → address_table_in new v ≡ traps (address_table_in old v) address to (held_in old address)
  pub newest : held_in old address ≢ None → trap_in new address ≡ Some (newer_trap to (trap_in old address))
  pub unused : is_address_in_use new address ≡ false
  pub kept : KeepsGrants old new

pub trap_set : (old new : AddressTableView) (address : Pmac) (to : Trap) (grant : Grant) → held_in old address ≡ Some grant →
    takes_over to (standing_trap grant.held) ≡ true →
    ((v : SwitchView) → address_table_in new v ≡ stands_so (Trapped to) (address_table_in old v) address (granted_in old address)) →
    HasTrapSet old new address to (is_in_use grant.held)
trap_set old new address to grant held over step =
    let is = held_is_granted old address grant held in
    let so = stood_so (Trapped to) old new address grant is.1 is.0 (step any_switch
    ∙ ap (stands_so (Trapped to) (address_table_in old any_switch) address) is.0) in
    record {
      answer_is = sym (ap is_used is.0);
      step = λ v.
          step v ∙ ap (stands_so (Trapped to) (address_table_in old v) address) is.0
          ∙ sym (sets_over (standing_trap grant.held) (address_table_in old v) address grant to over)
          ∙ sym (ap (traps (address_table_in old v) address to) held);
      newest = λ some. ap grant_trap so.granted ∙ ap (λ (t : Trap). Some t) (newer_over (standing_trap grant.held) to over
          ∙ sym (ap (λ o. newer_trap to (grant_trap o)) is.0));
      unused = ap is_used so.granted;
      kept = so.kept refl;
    }

pub trap_stays : (old : AddressTableView) (address : Pmac) (to : Trap) (grant : Grant) → held_in old address ≡ Some grant →
    takes_over to (standing_trap grant.held) ≡ false →
    HasTrapSet old old address to false
trap_stays old address to grant held stays =
    let is = held_is_granted old address grant held in
    let unused : is_address_in_use old address ≡ false = ap is_used is.0 ∙ over_used grant.held to stays in
    record {
      answer_is = sym unused;
      step = λ v. sym (ap (traps (address_table_in old v) address to) held
          ∙ sets_none (standing_trap grant.held) (address_table_in old v) address grant to stays);
      newest = λ some. ap grant_trap is.0 ∙ newer_stays (standing_trap grant.held) to stays ∙ sym (ap (λ o. Some (newer_trap to (grant_trap o))) is.0);
      unused = unused;
      kept = keeps_itself old;
    }

unused_by : (o : Option Grant) → unless_free o ≡ None → is_used o ≡ false
unused_by None free = refl
unused_by (Some grant) free = unused grant.held free
  where
    unused : (held : AddressUse) → cond (is_held held) (Some grant) None ≡ None → is_in_use held ≡ false
    unused (as_used.InUse idle) free = absurd (let e = free in cc)
    unused (as_used.Trapped trap age) free = refl
    unused (as_used.Resting number) free = refl
    unused as_used.Free free = refl

pub trap_nobodys : (old : AddressTableView) (address : Pmac) (to : Trap) → held_in old address ≡ None → HasTrapSet old old address to false
trap_nobodys old address to none = record {
  answer_is = sym (unused_by (granted_in old address) none);
  step = λ v. sym (ap (traps (address_table_in old v) address to) none);
  newest = λ some. absurd (some none);
  unused = unused_by (granted_in old address) none;
  kept = keeps_itself old;
}

-- An address comes to rest.

can_rest_by : (o : Option Grant) (number : ℕ) → AgesBehind (use_of o) number → CanStandSo (Resting number) o
can_rest_by None number behind = behind
can_rest_by (Some grant) number behind = rests_so grant.held behind
  where
    rests_so : (held : AddressUse) → AgesBehind (Some held) number → (is_in_use held ≡ true) ⊎ (is_some (standing_trap held) ≡ true)
    rests_so (as_used.InUse idle) behind = inl refl
    rests_so (as_used.Trapped trap age) behind = inr refl
    rests_so (as_used.Resting other) behind = absurd behind
    rests_so as_used.Free behind = absurd behind

pub can_rest : (table : AddressTableView) (address : Pmac) (number : ℕ) → IsNextDue table address number →
    CanStandSo (Resting number) (granted_in table address)
can_rest table address number due = can_rest_by (granted_in table address) number due.behind

ages_so : (held : AddressUse) (w : SwitchView) (address : Pmac) (grant : Grant) (number : ℕ) → AgesBehind (Some held) number →
    ages_out_of w address grant held ≡ comes_to_rest w address grant number
ages_so (as_used.InUse idle) w address grant number behind = ap (comes_to_rest w address grant) (sym behind)
ages_so (as_used.Trapped trap age) w address grant number behind = ap (comes_to_rest w address grant) (sym behind)
ages_so (as_used.Resting other) w address grant number behind = absurd behind
ages_so as_used.Free w address grant number behind = absurd behind

aged_by : (old new : AddressTableView) (address : Pmac) (number : ℕ) (o : Option Grant) → granted_in old address ≡ o → AgesBehind (use_of o) number →
    IsNextDue old address number → ((v : SwitchView) → address_table_in new v ≡ stands_so (Resting number) (address_table_in old v) address o) →
    new.asked ≡ without address old.asked → ((other : Pmac) → other ≢ address → granted_in new other ≡ granted_in old other) →
    IsAged old new address number × KeepsGrants old new
aged_by old new address number None found behind due step asked others = absurd behind
aged_by old new address number (Some grant) found behind due step asked others =
    let can = can_rest_by (Some grant) number behind in
    let so = stood_so (Resting number) old new address grant can found (step any_switch) in
    let used : new.asked ++ new.fresh ≡ without address (old.asked ++ old.fresh) = ap (λ (s : SwitchView). s.used) (step any_switch) in
    let trapped : new.trapped ≡ without address old.trapped = ap (λ (s : SwitchView). s.trapped) (step any_switch) in
    let apart : new.asked ++ new.fresh ≡ new.asked ++ without address old.fresh =
    used ∙ filter-append (λ other. not (same_pmac other address)) old.asked old.fresh ∙ ap (λ xs. xs ++ without address old.fresh) (sym asked) in (
      record {
        due = due.due;
        next = due.next;
        becomes = λ v.
            ap (λ o. ages_out address o (address_table_in old v)) found ∙ ages_so grant.held (address_table_in old v) address grant number behind
            ∙ ap (λ (u : SwitchView). record { view = u; acts = Tell (Aged address number) ∷ [] }) (sym (step v));
        asked = asked;
        fresh = append_cancel_left new.asked new.fresh (without address old.fresh) apart;
        trapped = trapped;
        fewer = ap (λ xs. length xs + length new.trapped + 1) used ∙ ap (λ xs. length (without address (old.asked ++ old.fresh)) + length xs + 1) trapped
            ∙ due.fewer;
        others = others;
      },
      so.kept refl,
    )

pub is_aged : (old new : AddressTableView) (address : Pmac) (number : ℕ) → IsNextDue old address number →
    ((v : SwitchView) → address_table_in new v ≡ stands_so (Resting number) (address_table_in old v) address (granted_in old address)) →
    new.asked ≡ without address old.asked → ((other : Pmac) → other ≢ address → granted_in new other ≡ granted_in old other) →
    IsAged old new address number × KeepsGrants old new
is_aged old new address number due step asked others = aged_by old new address number (granted_in old address) refl due.behind due step asked others

-- An address is released.

pub frees_resting : (w : SwitchView) (address : Pmac) (grant : Grant) → is_resting grant.held ≡ true →
    frees w address (Some grant) ≡ does (becomes_free w address grant) (FreeAct address ∷ [])
frees_resting w address grant = elim grant.held as (λ held. is_resting held ≡ true →
    frees_at w address grant held ≡ does (becomes_free w address grant) (FreeAct address ∷ [])) [
      | as_used.InUse idle ↦ λ resting. absurd (let e = resting in cc)
      | as_used.Trapped trap age ↦ λ resting. absurd (let e = resting in cc)
      | as_used.Resting number ↦ λ resting. refl
      | as_used.Free ↦ λ resting. absurd (let e = resting in cc)
    ]

pub frees_nothing : (w : SwitchView) (address : Pmac) (grant : Grant) → is_resting grant.held ≡ false → frees w address (Some grant) ≡ rests w
frees_nothing w address grant = elim grant.held as (λ held. is_resting held ≡ false → frees_at w address grant held ≡ rests w) [
  | as_used.InUse idle ↦ λ resting. refl
  | as_used.Trapped trap age ↦ λ resting. refl
  | as_used.Resting number ↦ λ resting. absurd (let e = resting in cc)
  | as_used.Free ↦ λ resting. refl
]

pub record HasFreed (old new : AddressTableView) (address : Pmac) (out told : List Act) : Type 0 where
  pub taken : IsTakenByPart address_table_in (λ v. frees v address (granted v address)) old new out told
  pub place : IsAtPlaceOf old new

pub has_freed : (old new : AddressTableView) (address : Pmac) (grant : Grant) (out told : List Act) → granted_in old address ≡ Some grant →
    is_resting grant.held ≡ true →
    ((v : SwitchView) → address_table_in new v ≡ stands_so Free (address_table_in old v) address (granted_in old address)) →
    told ≡ out ++ FreeAct address ∷ [] →
    HasFreed old new address out told
has_freed old new address grant out told found resting step said =
    let so = stood_so Free old new address grant resting found (step any_switch ∙ ap (stands_so Free (address_table_in old any_switch) address) found) in
    record {
      taken = λ v.
          subst (λ (s : SwitchStep). IsTaken s (address_table_in new v) out told)
          (sym (ap (frees (address_table_in old v) address) found ∙ frees_resting (address_table_in old v) address grant resting))
          (record { view = step v ∙ ap (stands_so Free (address_table_in old v) address) found; acts = said });
      place = so.place;
    }

pub same_place : (table : AddressTableView) → IsAtPlaceOf table table
same_place table = record { pod = refl; position = refl; ports = refl }

pub keeps_resting : (old : AddressTableView) (address : Pmac) (grant : Grant) (out : List Act) → granted_in old address ≡ Some grant →
    is_resting grant.held ≡ false →
    HasFreed old old address out out
keeps_resting old address grant out found resting = record {
  taken = λ v.
      subst (λ (s : SwitchStep). IsTaken s (address_table_in old v) out out)
      (sym (ap (frees (address_table_in old v) address) found ∙ frees_nothing (address_table_in old v) address grant resting))
      (record { view = refl; acts = sym (append-nil out) });
  place = same_place old;
}

pub keeps_unknown : (old : AddressTableView) (address : Pmac) (out : List Act) → granted_in old address ≡ None → HasFreed old old address out out
keeps_unknown old address out none = record {
  taken = λ v.
      subst (λ (s : SwitchStep). IsTaken s (address_table_in old v) out out) (sym (ap (frees (address_table_in old v) address) none))
      (record { view = refl; acts = sym (append-nil out) });
  place = same_place old;
}

-- A frame gives an IPv4 address, or none.

pub on_ok : {T E : Type 0} {P Q : Type 0} (result : Result T E) → (P → Q) → OnOk result P → OnOk result Q
on_ok (Err e) f h = h
on_ok (Ok x) f h = f h

pub new_ip : (w : SwitchView) (address : Pmac) (grant : Grant) (ip : Ip4) (o : Option Grant) → o ≡ Some grant → is_ip grant.ip ip ≡ false →
    takes_ip w address grant ip ≡ learns_ip w address o (Some ip)
new_ip w address grant ip o found other =
    sym (ap (λ p. learns_ip w address p (Some ip)) found ∙ cond-false (is_ip grant.ip ip) (rests (uses w address grant)) (takes_ip w address grant ip) other)

pub known_ip : (w : SwitchView) (address : Pmac) (ip : Ip4) (o : Option Grant) → ((grant : Grant) → o ≡ Some grant → is_ip grant.ip ip ≡ true) →
    rests (used_if w address o) ≡ learns_ip w address o (Some ip)
known_ip w address ip None known = refl
known_ip w address ip (Some grant) known = sym (cond-true (is_ip grant.ip ip) (rests (uses w address grant)) (takes_ip w address grant ip) (known grant refl))

pub no_ip : (w : SwitchView) (address : Pmac) (o : Option Grant) → rests (used_if w address o) ≡ learns_ip w address o None
no_ip w address None = refl
no_ip w address (Some grant) = refl

-- what rests is taken by saying nothing
pub taken_resting : (step : SwitchStep) (w after : SwitchView) (out : List Act) → after ≡ w → rests w ≡ step → IsTaken step after out out
taken_resting step w after out same is = subst (λ (s : SwitchStep). IsTaken s after out out) is (record { view = same; acts = sym (append-nil out) })
