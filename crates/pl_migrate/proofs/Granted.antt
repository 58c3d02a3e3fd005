-- An address table, by what is granted in it: where the next address of a port is granted, or another thing is known of one.
use Rattle.std.proofs.Common.{◌≡◌, ◌≢◌, ◌<◌, ℕ, ◌+◌, ◌-◌, ◌&&◌, Bool, true, false, cond, List, [], ◌∷◌, ◌++◌, length, Option, Some, None, refl, inl, inr, sym, ap, subst, ◌∙◌, arith}
use Rattle.std.specs.Option.{unwrap_or}
use Rattle.std.specs.Prelude.{nat_lt, slice_set}
use Rattle.std.proofs.lemmas.Bool.{cases_eq, cond-false, cond-true}
use Rattle.std.proofs.lemmas.List.{length-set}
use Rattle.std.proofs.lemmas.Option.{same_Some}
use Rattle.pl_frame.specs.declared.address.Ip4.{Ip4}
use Rattle.pl_frame.specs.declared.address.Mac.{Mac}
use Rattle.pl_frame.specs.declared.address.SwitchId.{SwitchId}
use Rattle.pl_pmac.specs.declared.pmac.Pmac.{Pmac}
use Rattle.pl_layouts.specs.Equality.{same_mac}
use Rattle.pl_layouts.specs.declared.place.Place.{Place}
use Rattle.pl_layouts.proofs.Exports.{mac_itself}
use Rattle.pl_node.specs.AddressUses.{is_held, is_in_use, standing_trap}
use Rattle.pl_node.specs.declared.address_use.AddressUse.TheVariants as as_used
use Rattle.pl_node.specs.declared.trap.Trap.{Trap}
use Rattle.pl_node.specs.declared.switch_records.Grant.{Grant}
use Rattle.pl_node.specs.SwitchViews.{SwitchView}
use Rattle.pl_switch_rule.specs.Delivering.{grant_trap}
use Rattle.pl_switch_rule.specs.Granting.{grant_number, grants_new, in_use, new_grant, next_vmid, unless_free, with_next}
use Rattle.pl_migrate.specs.AddressTables.{AddressTableView, address_in, address_in_use, address_table_in, edge_at, freed_of, granted_in, grantee_at, grantee_in, grants_of, is_address_in_use, is_here, is_used, next_address, numbered, trap_in}
use Rattle.pl_migrate.specs.declared.grantee.Grantee.{Grantee}
use Rattle.pl_migrate.specs.declared.tenancy.Standing.{Standing}
use Rattle.pl_migrate.specs.declared.tenancy.Standing.TheVariants.{Fresh, Asked, Trapped, Resting, Free}
use Rattle.pl_migrate.specs.Keeping.{IsAtPlaceOf, IsFreeOrNew, IsGrantedOnce, KeepsGrants, KeepsTraps}
use Rattle.pl_migrate.specs.Standings.{CanStandAs, stands_as}
use Rattle.pl_migrate.specs.Tenancies.{use_after}
use Rattle.pl_migrate.proofs.Changes.{granted_itself, grants_of_other, grants_of_same, here_is_same, is_granted_here, is_here_itself, port_changed, with_port}
use Rattle.pl_migrate.proofs.Numbers.{is_numbered, number_past, number_push, number_set_other, number_set_same, number_trap_push}
use Rattle.pl_migrate.proofs.OneEach.{position_only, position_push, position_set}
use Rattle.pl_migrate.proofs.PortUses.{unused_in, uses_grant}

abbrev granted_to : Mac → ℕ → Grantee
granted_to amac port = record { amac = amac; port = port }

abbrev pub with_granted : AddressTableView → Pmac → Grant → AddressTableView
with_granted address_table address grant = with_port address_table address.port (slice_set (grants_of address_table address.port) (address.vmid - 1) grant)

-- Only the place and the grants count.

abbrev pub bare : AddressTableView → AddressTableView
bare address_table = record address_table { asked = []; fresh = []; trapped = []; freed = [] }

pub keeps_bare : (old a b : AddressTableView) → bare a ≡ bare b → KeepsGrants old b → KeepsGrants old a
keeps_bare old a b same keeps = record {
  pod = ap (λ (t : AddressTableView). t.pod) same ∙ keeps.pod;
  position = ap (λ (t : AddressTableView). t.position) same ∙ keeps.position;
  ports = ap (λ (t : AddressTableView). length t.grants) same ∙ keeps.ports;
  grantees = λ address grantee found. ap (λ t. grantee_in t address) same ∙ keeps.grantees address grantee found;
}

pub traps_bare : (old a b : AddressTableView) → bare a ≡ bare b → KeepsTraps old b → KeepsTraps old a
traps_bare old a b same keeps = λ address. ap (λ t. trap_in t address) same ∙ keeps address

-- a switch that knows nothing
abbrev pub any_switch : SwitchView
any_switch = record {
  id = record { 0 = 0 };
  k = 0;
  place = edge_at 0 0;
  ports = [];
  attempt = 0;
  proposed = 0;
  granted = [];
  holds = [];
  grants = [];
  used = [];
  trapped = [];
  freed = [];
  remembered = [];
  members = [];
  avoid = [];
  parts = [];
  epoch = 0;
}

pub bare_of_view : (new : AddressTableView) (w : SwitchView) (pod position : ℕ) (grants : List (List Grant)) → address_table_in new any_switch ≡ w →
    w.place ≡ edge_at pod position → w.grants ≡ grants → bare new ≡ record {
      pod = pod;
      position = position;
      grants = grants;
      asked = [];
      fresh = [];
      trapped = [];
      freed = [];
    }
bare_of_view new w pod position grants step place is =
    let of_place = ap (λ (s : SwitchView). s.place) step ∙ place in
    let new_pod : new.pod ≡ pod = ap (λ (p : Place). unwrap_or p.pod 0) of_place in
    let new_position : new.position ≡ position = ap (λ (p : Place). unwrap_or p.position 0) of_place in
    let new_grants : new.grants ≡ grants = ap (λ (s : SwitchView). s.grants) step ∙ is in
    λ i. record { pod = new_pod i; position = new_position i; grants = new_grants i; asked = []; fresh = []; trapped = []; freed = [] }

-- The next address is granted, where none is free.

some_grantee : (address : Pmac) (o p : Option Grant) (grantee : Grantee) → ((grant : Grant) → o ≡ Some grant → p ≡ Some grant) →
    grantee_at address (unless_free o) ≡ Some grantee → grantee_at address (unless_free p) ≡ Some grantee
some_grantee address None p grantee keeps found = absurd (let e = found in cc)
some_grantee address (Some grant) p grantee keeps found = ap (λ o. grantee_at address (unless_free o)) (keeps grant refl) ∙ found

abbrev behind : AddressTableView → ℕ → Mac → Option Ip4 → AddressTableView
behind address_table port amac ip = with_port address_table port (grants_of address_table port ++ new_grant amac ip ∷ [])

keeps_next : (address_table : AddressTableView) (port : ℕ) (amac : Mac) (ip : Option Ip4) → port < length address_table.grants →
    KeepsGrants address_table (behind address_table port amac ip)
keeps_next address_table port amac ip within = record {
  pod = refl;
  position = refl;
  ports = length-set address_table.grants port (grants_of address_table port ++ new_grant amac ip ∷ []);
  grantees = λ address grantee. port_changed address
      (λ o p. grantee_at address (unless_free o) ≡ Some grantee → grantee_at address (unless_free p) ≡ Some grantee)
      address_table port (grants_of address_table port ++ new_grant amac ip ∷ []) within (λ o found. found)
      (λ here at. some_grantee address (grant_number (grants_of address_table port) address.vmid)
      (grant_number (grants_of address_table port ++ new_grant amac ip ∷ []) address.vmid) grantee
      (λ grant. number_push (grants_of address_table port) (new_grant amac ip) address.vmid grant));
}

traps_next : (address_table : AddressTableView) (port : ℕ) (amac : Mac) (ip : Option Ip4) → port < length address_table.grants →
    KeepsTraps address_table (behind address_table port amac ip)
traps_next address_table port amac ip within = λ address. port_changed address (λ o p. grant_trap p ≡ grant_trap o)
    address_table port (grants_of address_table port ++ new_grant amac ip ∷ []) within (λ o. refl)
    (λ here at. number_trap_push (grants_of address_table port) (new_grant amac ip) address.vmid refl)

-- it was never granted before
never_granted : (address_table : AddressTableView) (port : ℕ) → granted_in address_table (address_in address_table port (length
    (grants_of address_table port) + 1)) ≡ None
never_granted address_table port =
    granted_itself address_table port (length (grants_of address_table port) + 1)
    ∙ number_past (grants_of address_table port) (length (grants_of address_table port) + 1) (omega arith)

-- and is in use
next_in_use : (address_table : AddressTableView) (port : ℕ) (amac : Mac) (ip : Option Ip4) → port < length address_table.grants →
    address_in_use address_table port amac ≡ None →
    address_in_use (behind address_table port amac ip) port amac ≡ Some (address_in address_table port (length (grants_of address_table port) + 1))
next_in_use address_table port amac ip within none =
    let unused = unused_in address_table port amac none in
    let found = position_push (uses_grant amac) 1 (grants_of address_table port) (new_grant amac ip) unused (mac_itself amac) in
    ap (λ (gs : List Grant). numbered address_table port (in_use gs amac))
    (grants_of_same address_table port (grants_of address_table port ++ new_grant amac ip ∷ []) within)
    ∙ ap (numbered address_table port) found
    ∙ ap (λ n. Some (address_in address_table port n)) (omega arith)

-- Another thing is known of an address.

-- the same host has it, or nobody had it
abbrev StaysWith : Grant → Grant → Type 0
StaysWith old new = is_held old.held ≡ true → (new.amac ≡ old.amac) × (is_held new.held ≡ true)

same_grantee : (address : Pmac) (old new : Grant) (grantee : Grantee) → StaysWith old new →
    grantee_at address (unless_free (Some old)) ≡ Some grantee → grantee_at address (unless_free (Some new)) ≡ Some grantee
same_grantee address old new grantee stays =
    elim (is_held old.held) as (λ b. (b ≡ true → (new.amac ≡ old.amac) × (is_held new.held ≡ true)) →
    grantee_at address (cond b (Some old) None) ≡ Some grantee → grantee_at address (unless_free (Some new)) ≡ Some grantee) [
      | true ↦ λ same found.
          ap (grantee_at address) (cond-true (is_held new.held) (Some new) None (same refl).1) ∙ ap (λ m. Some (granted_to m address.port)) (same refl).0
          ∙ found
      | false ↦ λ same found. absurd (let e = found in cc)
    ] stays

keeps_changed : (address_table : AddressTableView) (address : Pmac) (old new : Grant) → granted_in address_table address ≡ Some old → StaysWith old new →
    KeepsGrants address_table (with_granted address_table address new)
keeps_changed address_table address old new found stays =
    let is = is_granted_here address_table address old found in
    let first = (is_numbered (grants_of address_table address.port) address.vmid old is.number).first in
    record {
      pod = refl;
      position = refl;
      ports = length-set address_table.grants address.port (slice_set (grants_of address_table address.port) (address.vmid - 1) new);
      grantees = λ other grantee. port_changed other
          (λ o p. grantee_at other (unless_free o) ≡ Some grantee → grantee_at other (unless_free p) ≡ Some grantee)
          address_table address.port (slice_set (grants_of address_table address.port) (address.vmid - 1) new) is.within (λ o found. found)
          (λ here at. elim (cases_eq other.vmid address.vmid) [
            | inl same ↦ λ was.
                let stood : grant_number (grants_of address_table address.port) other.vmid
                ≡ Some old = ap (grant_number (grants_of address_table address.port)) same ∙ is.number in
                let stands : grant_number (slice_set (grants_of address_table address.port) (address.vmid - 1) new) other.vmid ≡ Some new =
                ap (grant_number (slice_set (grants_of address_table address.port) (address.vmid - 1) new)) same
                ∙ number_set_same (grants_of address_table address.port) address.vmid old new is.number in
                ap (λ o. grantee_at other (unless_free o)) stands
                ∙ same_grantee other old new grantee stays (sym (ap (λ o. grantee_at other (unless_free o)) stood) ∙ was)
            | inr apart ↦ λ was. ap (λ o. grantee_at other (unless_free o))
                (number_set_other (grants_of address_table address.port) address.vmid other.vmid new first apart) ∙ was
          ]);
    }

traps_changed : (address_table : AddressTableView) (address : Pmac) (old new : Grant) → granted_in address_table address ≡ Some old →
    standing_trap new.held ≡ standing_trap old.held →
    KeepsTraps address_table (with_granted address_table address new)
traps_changed address_table address old new found trap =
    let is = is_granted_here address_table address old found in
    let first = (is_numbered (grants_of address_table address.port) address.vmid old is.number).first in
    λ other. port_changed other (λ o p. grant_trap p ≡ grant_trap o)
    address_table address.port (slice_set (grants_of address_table address.port) (address.vmid - 1) new) is.within (λ o. refl)
    (λ here at. elim (cases_eq other.vmid address.vmid) [
      | inl same ↦
          ap (λ n. grant_trap (grant_number (slice_set (grants_of address_table address.port) (address.vmid - 1) new) n)) same
          ∙ ap grant_trap (number_set_same (grants_of address_table address.port) address.vmid old new is.number) ∙ trap
          ∙ sym (ap (λ n. grant_trap (grant_number (grants_of address_table address.port) n)) same ∙ ap grant_trap is.number)
      | inr apart ↦ ap grant_trap (number_set_other (grants_of address_table address.port) address.vmid other.vmid new first apart)
    ])

granted_changed : (address_table : AddressTableView) (address : Pmac) (old new : Grant) → granted_in address_table address ≡ Some old →
    granted_in (with_granted address_table address new) address ≡ Some new
granted_changed address_table address old new found =
    let is = is_granted_here address_table address old found in
    cond-true (is_here address_table address) (grant_number (grants_of (with_granted address_table address new) address.port) address.vmid) None is.here
    ∙ ap (λ (gs : List Grant). grant_number gs address.vmid)
    (grants_of_same address_table address.port (slice_set (grants_of address_table address.port) (address.vmid - 1) new) is.within)
    ∙ number_set_same (grants_of address_table address.port) address.vmid old new is.number

-- who has which address in use stays
used_changed : (address_table : AddressTableView) (address : Pmac) (old new : Grant) → granted_in address_table address ≡ Some old → new.amac ≡ old.amac →
    is_in_use new.held ≡ is_in_use old.held → (port : ℕ) (amac : Mac) → address_in_use (with_granted address_table address new) port amac
    ≡ address_in_use address_table port amac
used_changed address_table address old new found mac used port amac =
    let is = is_granted_here address_table address old found in
    let numbered_as = is_numbered (grants_of address_table address.port) address.vmid old is.number in
    let set : List Grant = slice_set (grants_of address_table address.port) (address.vmid - 1) new in
    elim (cases_eq port address.port) [
      | inl at ↦ ap (numbered address_table port)
          (ap (λ n. in_use (grants_of (with_port address_table address.port set) n) amac) at
          ∙ ap (λ (gs : List Grant). in_use gs amac) (grants_of_same address_table address.port set is.within)
          ∙ position_set (uses_grant amac) 1 (grants_of address_table address.port) (address.vmid - 1) old new numbered_as.at
          (ap (λ u. u && same_mac new.amac amac) used ∙ ap (λ m. is_in_use old.held && same_mac m amac) mac)
          ∙ sym (ap (λ n. in_use (grants_of address_table n) amac) at))
      | inr apart ↦ ap (λ (gs : List Grant). numbered address_table port (in_use gs amac)) (grants_of_other address_table address.port port set apart)
    ]

-- What changes where what an address is used for changes now.

-- the same host has the address, and it is used so
pub record IsUsedSo (old new : AddressTableView) (address : Pmac) (grant is : Grant) : Type 0 where
  pub place : IsAtPlaceOf old new
  pub granted : granted_in new address ≡ Some is
  pub kept : is_held is.held ≡ true → KeepsGrants old new
  pub traps : standing_trap is.held ≡ standing_trap grant.held → KeepsTraps old new
  pub used : is_in_use is.held ≡ is_in_use grant.held → (port : ℕ) (amac : Mac) → address_in_use new port amac ≡ address_in_use old port amac

pub used_so : (old new : AddressTableView) (address : Pmac) (grant is : Grant) → granted_in old address ≡ Some grant → is.amac ≡ grant.amac →
    bare new ≡ bare (with_granted old address is) → IsUsedSo old new address grant is
used_so old new address grant is found amac same = record {
  place = record {
    pod = ap (λ (t : AddressTableView). t.pod) same;
    position = ap (λ (t : AddressTableView). t.position) same;
    ports = ap (λ (t : AddressTableView). length t.grants) same
        ∙ length-set old.grants address.port (slice_set (grants_of old address.port) (address.vmid - 1) is);
  };
  granted = ap (λ t. granted_in t address) same ∙ granted_changed old address grant is found;
  kept = λ held. keeps_bare old new (with_granted old address is) same (keeps_changed old address grant is found (λ was. (amac, held)));
  traps = λ trap. traps_bare old new (with_granted old address is) same (traps_changed old address grant is found trap);
  used = λ alike port mac. ap (λ t. address_in_use t port mac) same ∙ used_changed old address grant is found amac alike port mac;
}

abbrev pub held_so : Grant → Standing → Grant
held_so grant standing = record grant { held = use_after 0 standing }

stood_bare : (standing : Standing) (old new : AddressTableView) (address : Pmac) (grant : Grant) → CanStandAs standing grant →
    address_table_in new any_switch ≡ stands_as standing (address_table_in old any_switch) address grant →
    bare new ≡ bare (with_granted old address (held_so grant standing))
stood_bare Fresh old new address grant can step = bare_of_view new _ old.pod old.position (with_granted old address (held_so grant Fresh)).grants step refl refl
stood_bare Asked old new address grant can step = absurd can
stood_bare (Trapped trap) old new address grant can step = bare_of_view new _ old.pod old.position (with_granted old address (held_so grant
    (Trapped trap))).grants step refl refl
stood_bare (Resting number) old new address grant can step = bare_of_view new _ old.pod old.position (with_granted old address (held_so grant
    (Resting number))).grants step refl refl
stood_bare Free old new address grant can step = bare_of_view new _ old.pod old.position (with_granted old address (held_so grant Free)).grants step refl refl

pub stood_so : (standing : Standing) (old new : AddressTableView) (address : Pmac) (grant : Grant) → CanStandAs standing grant →
    granted_in old address ≡ Some grant →
    address_table_in new any_switch ≡ stands_as standing (address_table_in old any_switch) address grant →
    IsUsedSo old new address grant (held_so grant standing)
stood_so standing old new address grant can found step =
    used_so old new address grant (held_so grant standing) found refl (stood_bare standing old new address grant can step)

-- What a grant of the next address gives.

pub record IsNextGranted (old new : AddressTableView) (port : ℕ) (amac : Mac) (address : Pmac) : Type 0 where
  pub used : address_in_use new port amac ≡ Some address
  pub once : IsGrantedOnce old port amac address
  pub kept : KeepsGrants old new
  pub traps : KeepsTraps old new

granted_bare : (old new : AddressTableView) (port : ℕ) (amac : Mac) (ip : Option Ip4) (address : Pmac) (free : List ℕ) → freed_of old port ≡ free →
    address_table_in new any_switch ≡ (grants_new (address_table_in old any_switch) port amac ip address).view →
    bare new ≡ bare (with_port old port (with_next free (grants_of old port) (new_grant amac ip)))
granted_bare old new port amac ip address free freed step =
    bare_of_view new _ old.pod old.position _ step refl (ap (λ vmids. slice_set old.grants port (with_next vmids (grants_of old port)
    (new_grant amac ip))) freed)

-- one that was never granted
next_new : (old new : AddressTableView) (port : ℕ) (amac : Mac) (ip : Option Ip4) (address : Pmac) → port < length old.grants →
    address_in_use old port amac ≡ None → address_in old port (length (grants_of old port) + 1) ≡ address → bare new ≡ bare (behind old port amac ip) →
    IsNextGranted old new port amac address
next_new old new port amac ip address within none is same = record {
  used = ap (λ t. address_in_use t port amac) same ∙ next_in_use old port amac ip within none ∙ ap (λ (a : Pmac). Some a) is;
  once = inr (none, ap unless_free (sym (ap (granted_in old) is) ∙ never_granted old port));
  kept = keeps_bare old new (behind old port amac ip) same (keeps_next old port amac ip within);
  traps = traps_bare old new (behind old port amac ip) same (traps_next old port amac ip within);
}

free_trap : (grant : Grant) → is_held grant.held ≡ false → None ≡ standing_trap grant.held
free_trap grant = elim grant.held as (λ held. is_held held ≡ false → ◌≡◌ {A = Option Trap} None (standing_trap held)) [
  | as_used.InUse idle ↦ λ free. absurd (let e = free in cc)
  | as_used.Trapped trap age ↦ λ free. absurd (let e = free in cc)
  | as_used.Resting number ↦ λ free. absurd (let e = free in cc)
  | as_used.Free ↦ λ free. refl
]

-- one that was free
next_free : (old new : AddressTableView) (port : ℕ) (amac : Mac) (ip : Option Ip4) (address : Pmac) (grant : Grant) →
    granted_in old address ≡ Some grant → is_held grant.held ≡ false →
    address_in_use old port amac ≡ None → address.port ≡ port → bare new ≡ bare (with_granted old address (new_grant amac ip)) →
    IsNextGranted old new port amac address
next_free old new port amac ip address grant found free none at same =
    let is = is_granted_here old address grant found in
    let numbered_as = is_numbered (grants_of old address.port) address.vmid grant is.number in
    let first = numbered_as.first in
    let set : List Grant = slice_set (grants_of old address.port) (address.vmid - 1) (new_grant amac ip) in
    let unused = unused_in old port amac none in
    record {
      used = ap (λ t. address_in_use t port amac) same
          ∙ ap (λ n. address_in_use (with_port old address.port set) n amac) (sym at)
          ∙ ap (λ (gs : List Grant). numbered old address.port (in_use gs amac)) (grants_of_same old address.port set is.within)
          ∙ ap (numbered old address.port)
          (position_only (uses_grant amac) 1 (grants_of old address.port) (address.vmid - 1) grant (new_grant amac ip) numbered_as.at
          (ap (λ n. in_use (grants_of old n) amac) at ∙ unused) (mac_itself amac))
          ∙ ap (λ n. Some (address_in old address.port n)) (let e : 1 + (address.vmid - 1) ≡ address.vmid = omega arith in e)
          ∙ ap (λ (a : Pmac). Some a) (here_is_same old (address_in old address.port address.vmid) address
          (is_here_itself old address.port address.vmid) is.here refl refl);
      once = inr (none, ap unless_free found ∙ cond-false (is_held grant.held) (Some grant) None free);
      kept = keeps_bare old new (with_granted old address (new_grant amac ip)) same
          (keeps_changed old address grant (new_grant amac ip) found (λ held. absurd (let e = sym free ∙ held in cc)));
      traps = traps_bare old new (with_granted old address (new_grant amac ip)) same
          (traps_changed old address grant (new_grant amac ip) found (free_trap grant free));
    }

record IsNumberedNext (old : AddressTableView) (port : ℕ) (address : Pmac) (o : Option ℕ) : Type 0 where
  pub vmid : ℕ
  pub is : o ≡ Some vmid
  pub address_is : address_in old port vmid ≡ address

numbered_next : (old : AddressTableView) (port : ℕ) (address : Pmac) (o : Option ℕ) → numbered old port o ≡ Some address → IsNumberedNext old port address o
numbered_next old port address None next = absurd (let e = next in cc)
numbered_next old port address (Some vmid) next = record { vmid = vmid; is = refl; address_is = same_Some _ _ next }

next_new_vmid : (old : AddressTableView) (port : ℕ) (vmid : ℕ) → next_vmid [] (grants_of old port) ≡ Some vmid → length (grants_of old port) + 1 ≡ vmid
next_new_vmid old port vmid =
    elim (nat_lt (length (grants_of old port)) 65535) as (λ b. cond b (Some (length (grants_of old port) + 1)) None ≡ Some vmid →
    length (grants_of old port) + 1 ≡ vmid) [
      | true ↦ λ is. same_Some _ _ is
      | false ↦ λ is. absurd (let e = is in cc)
    ]

next_by : (old new : AddressTableView) (port : ℕ) (amac : Mac) (ip : Option Ip4) (address : Pmac) (free : List ℕ) (o : Option Grant) →
    port < length old.grants →
    address_in_use old port amac ≡ None → freed_of old port ≡ free → granted_in old address ≡ o → IsFreeOrNew free o →
    IsNumberedNext old port address (next_vmid free (grants_of old port)) →
    address_table_in new any_switch ≡ (grants_new (address_table_in old any_switch) port amac ip address).view → IsNextGranted old new port amac address
next_by old new port amac ip address [] o within none freed granted free next step =
    next_new old new port amac ip address within none
    (ap (address_in old port) (next_new_vmid old port next.vmid next.is) ∙ next.address_is)
    (granted_bare old new port amac ip address [] freed step)
next_by old new port amac ip address (vmid ∷ free) None within none freed granted nobodys next step = absurd (let e = nobodys in cc)
next_by old new port amac ip address (vmid ∷ free) (Some grant) within none freed granted nobodys next step =
    let is : address_in old port vmid ≡ address = ap (address_in old port) (same_Some _ _ next.is) ∙ next.address_is in
    let same : vmid ≡ address.vmid = ap (λ (a : Pmac). a.vmid) is in
    let at : port ≡ address.port = ap (λ (a : Pmac). a.port) is in
    next_free old new port amac ip address grant granted nobodys none (sym at)
    (granted_bare old new port amac ip address (vmid ∷ free) freed step
    ∙ ap (λ n. bare (with_port old port (slice_set (grants_of old port) (n - 1) (new_grant amac ip)))) same
    ∙ ap (λ n. bare (with_port old n (slice_set (grants_of old n) (address.vmid - 1) (new_grant amac ip)))) at)

pub next_granted : (old new : AddressTableView) (port : ℕ) (amac : Mac) (ip : Option Ip4) (address : Pmac) → port < length old.grants →
    address_in_use old port amac ≡ None → next_address old port ≡ Some address → IsFreeOrNew (freed_of old port) (granted_in old address) →
    address_table_in new any_switch ≡ (grants_new (address_table_in old any_switch) port amac ip address).view → IsNextGranted old new port amac address
next_granted old new port amac ip address within none next free step =
    next_by old new port amac ip address (freed_of old port) (granted_in old address) within none refl refl free
    (numbered_next old port address (next_vmid (freed_of old port) (grants_of old port)) next) step
