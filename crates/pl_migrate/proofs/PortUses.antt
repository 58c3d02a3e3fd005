-- Which host uses which address of a port: by what is kept there, and by what is shown of it.
use Rattle.std.proofs.Common.{◌≡◌, ◌<◌, ◌≤◌, ◌⊎◌, ℕ, ◌+◌, ◌-◌, ◌&&◌, Bool, true, false, List, [], ◌∷◌, ◌++◌, length, map, Option, Some, None, refl, inl, inr, sym, ap, subst, ◌∙◌, arith}
use Rattle.std.specs.List.{list_any}
use Rattle.std.specs.Prelude.{slice_set}
use Rattle.std.proofs.lemmas.Bool.{and_from, and_parts}
use Rattle.std.proofs.lemmas.List.{length-set, length_push}
use Rattle.pl_frame.specs.declared.address.Ip4.{Ip4}
use Rattle.pl_frame.specs.declared.address.Mac.{Mac}
use Rattle.pl_layouts.specs.Equality.{same_mac}
use Rattle.pl_layouts.proofs.Exports.{mac_is, mac_itself}
use Rattle.pl_node.specs.AddressUses.{is_in_use}
use Rattle.pl_node.specs.declared.switch_records.Grant.{Grant}
use Rattle.pl_pool.specs.declared.key.Key.{Key}
use Rattle.pl_pool.specs.Pool.{Lists}
use Rattle.pl_pmac.specs.declared.pmac.Pmac.{Pmac}
use Rattle.pl_switch_rule.specs.Granting.{in_use}
use Rattle.pl_migrate.specs.AddressTables.{AddressTableView, address_in_use, grants_of, numbered}
use Rattle.pl_migrate.specs.PortGrants.{ArePortGrants, AtMostOne, TakesPlaceOf, is_used_by, used_vmid}
use Rattle.pl_migrate.specs.Standings.{CanStandAs}
use Rattle.pl_migrate.specs.declared.tenancy.Standing.{Standing}
use Rattle.pl_migrate.specs.declared.tenancy.Standing.TheVariants.{Fresh, Asked, Trapped, Resting, Free}
use Rattle.pl_migrate.specs.declared.tenancy.Tenancy.{Tenancy}
use Rattle.pl_migrate.specs.Tenancies.{grant_of, is_used_so, table_view, tenancy_number, use_after}
use Rattle.pl_migrate.proofs.Entries.{tenancies_of}
use Rattle.pl_migrate.proofs.Numbers.{is_numbered}
use Rattle.pl_migrate.proofs.OneEach.{at_most_mapped, at_most_placed, at_most_push, none_where_unfound, position_mapped}
use Rattle.pl_migrate.proofs.Views.{grants_of_port}

abbrev pub uses_grant : Mac → Grant → Bool
uses_grant amac grant = is_in_use grant.held && same_mac grant.amac amac

pub used_after : (n : ℕ) (standing : Standing) → is_in_use (use_after n standing) ≡ is_used_so standing
used_after n Fresh = refl
used_after n Asked = refl
used_after n (Trapped trap) = refl
used_after n (Resting number) = refl
used_after n Free = refl

used_alike : (now : ℕ) (amac : Mac) (t : Tenancy) → uses_grant amac (grant_of now t) ≡ is_used_by amac t
used_alike now amac t = ap (λ b. b && same_mac t.amac amac) (used_after (now - t.since) t.standing)

pub used_shown : (now : ℕ) (amac : Mac) (ts : List Tenancy) → in_use (map (grant_of now) ts) amac ≡ used_vmid ts amac
used_shown now amac ts = position_mapped (grant_of now) (is_used_by amac) (uses_grant amac) (used_alike now amac) 1 ts

pub one_shown : (now : ℕ) (amac : Mac) (ts : List Tenancy) → AtMostOne (is_used_by amac) ts → AtMostOne (uses_grant amac) (map (grant_of now) ts)
one_shown now amac ts one = at_most_mapped (grant_of now) (is_used_by amac) (uses_grant amac) (used_alike now amac) ts one

-- at a port of a table
pub used_at : (pod position now : ℕ) (ports : List (List Tenancy)) (orders : Lists Pmac) (port : ℕ) (amac : Mac) →
    in_use (grants_of (table_view pod position now ports orders) port) amac ≡ used_vmid (tenancies_of ports port) amac
used_at pod position now ports orders port amac = ap (λ (gs : List Grant). in_use gs amac) (grants_of_port now ports port)
    ∙ used_shown now amac (tenancies_of ports port)

numbered_none : (address_table : AddressTableView) (port : ℕ) (o : Option ℕ) → numbered address_table port o ≡ None → o ≡ None
numbered_none address_table port None none = refl
numbered_none address_table port (Some vmid) none = absurd (let e = none in cc)

pub unused_in : (address_table : AddressTableView) (port : ℕ) (amac : Mac) → address_in_use address_table port amac ≡ None →
    in_use (grants_of address_table port) amac ≡ None
unused_in address_table port amac none = numbered_none address_table port (in_use (grants_of address_table port) amac) none

pub unused_at : (pod position now : ℕ) (ports : List (List Tenancy)) (orders : Lists Pmac) (port : ℕ) (amac : Mac) →
    address_in_use (table_view pod position now ports orders) port amac ≡ None → used_vmid (tenancies_of ports port) amac ≡ None
unused_at pod position now ports orders port amac none =
    sym (used_at pod position now ports orders port amac) ∙ unused_in (table_view pod position now ports orders) port amac none

-- No host has two addresses in use.

of_mac : (ts : List Tenancy) (amac other : Mac) → same_mac amac other ≡ true → used_vmid ts amac ≡ None → list_any (is_used_by other) ts ≡ false
of_mac ts amac other same unused = ap (λ m. list_any (is_used_by m) ts) (sym (mac_is amac other same)) ∙ none_where_unfound (is_used_by amac) 1 ts unused

pub one_each_push : (ts : List Tenancy) (amac : Mac) (ip : Option Ip4) (now : ℕ) (key : Key) → used_vmid ts amac ≡ None → length ts < 65535 → ArePortGrants ts →
    ArePortGrants (ts ++ record { amac = amac; ip = ip; standing = Fresh; since = now; key = key } ∷ [])
one_each_push ts amac ip now key unused room are = let t : Tenancy = record { amac = amac; ip = ip; standing = Fresh; since = now; key = key } in record {
  numbered = let more = length_push ts t in omega arith;
  one_each = λ other. at_most_push (is_used_by other) ts t (λ same. of_mac ts amac other same unused) (are.one_each other);
}

replaced : (ts : List Tenancy) (vmid : ℕ) (new : Tenancy) (o : Option Tenancy) → tenancy_number ts vmid ≡ o → TakesPlaceOf ts new o → ArePortGrants ts →
    ArePortGrants (slice_set ts (vmid - 1) new)
replaced ts vmid new None found fits are = absurd fits
replaced ts vmid new (Some old) found fits are = record {
  numbered = let same = length-set ts (vmid - 1) new in let n = are.numbered in omega arith;
  one_each = λ amac. at_most_placed (is_used_by amac) ts (vmid - 1) old new (is_numbered ts vmid old found).at
      (λ t.
      let parts = and_parts (is_used_so new.standing) (same_mac new.amac amac) t in
      elim (fits parts.0) [
        | inl same ↦ inl (and_from (is_used_so old.standing) (same_mac old.amac amac) same.1 (sym (ap (λ m. same_mac m amac) same.0) ∙ parts.1))
        | inr unused ↦ inr (of_mac ts new.amac amac parts.1 unused)
      ])
      (are.one_each amac);
}

pub one_each_replace : (ts : List Tenancy) (vmid : ℕ) (new : Tenancy) → TakesPlaceOf ts new (tenancy_number ts vmid) → ArePortGrants ts →
    ArePortGrants (slice_set ts (vmid - 1) new)
one_each_replace ts vmid new fits are = replaced ts vmid new (tenancy_number ts vmid) refl fits are

-- What an address is used for now takes the place of what it was used for.
pub stands_in_place : (n : ℕ) (ts : List Tenancy) (old new : Tenancy) (grant : Grant) → grant.held ≡ use_after n old.standing → new.amac ≡ old.amac →
    CanStandAs new.standing grant → TakesPlaceOf ts new (Some old)
stands_in_place n ts old new grant held amac can = λ used. inl (amac, was (new.standing) used can)
  where
    was : (standing : Standing) → is_used_so standing ≡ true → CanStandAs standing grant → is_used_so old.standing ≡ true
    was Fresh used can = sym (used_after n old.standing) ∙ sym (ap is_in_use held) ∙ can
    was Asked used can = absurd can
    was (Trapped trap) used can = absurd (let e = used in cc)
    was (Resting number) used can = absurd (let e = used in cc)
    was Free used can = absurd (let e = used in cc)
