-- What stands under the addresses of an address table where the grants of one port changed.
use Rattle.std.proofs.Common.{◌≡◌, ◌≢◌, ◌<◌, ℕ, ◌==◌, true, false, cond, List, [], length, Option, Some, None, refl, inl, inr, sym, ap, subst, ◌∙◌}
use Rattle.std.specs.Prelude.{slice_set}
use Rattle.std.proofs.lemmas.Bool.{and_parts, cases_eq, cases_lt, cond-true, eqb-true, eq-eqb, and_from}
use Rattle.std.proofs.lemmas.List.{get_or-set_other, get_or-set_same, get_or_past}
use Rattle.pl_pmac.specs.declared.pmac.Pmac.{Pmac}
use Rattle.pl_node.specs.declared.switch_records.Grant.{Grant}
use Rattle.pl_switch_rule.specs.Granting.{grant_number}
use Rattle.pl_migrate.specs.AddressTables.{AddressTableView, address_in, granted_in, grants_of, is_here}

abbrev pub with_port : AddressTableView → ℕ → List Grant → AddressTableView
with_port address_table port grants = record address_table { grants = slice_set address_table.grants port grants }

-- Addresses.

abbrev address_of : ℕ → ℕ → ℕ → ℕ → Pmac
address_of pod position port vmid = record { pod = pod; position = position; port = port; vmid = vmid }

pub here_is_same : (address_table : AddressTableView) (a b : Pmac) → is_here address_table a ≡ true → is_here address_table b ≡ true → a.port ≡ b.port →
    a.vmid ≡ b.vmid → a ≡ b
here_is_same address_table a b here_a here_b port vmid =
    let a_parts = and_parts (address_table.pod == a.pod) (address_table.position == a.position) here_a in
    let b_parts = and_parts (address_table.pod == b.pod) (address_table.position == b.position) here_b in
    let pod : a.pod ≡ b.pod = sym (eqb-true address_table.pod a.pod a_parts.0) ∙ eqb-true address_table.pod b.pod b_parts.0 in
    let position : a.position ≡ b.position = sym (eqb-true address_table.position a.position a_parts.1)
    ∙ eqb-true address_table.position b.position b_parts.1 in
    ap (λ n. address_of n a.position a.port a.vmid) pod
    ∙ ap (λ n. address_of b.pod n a.port a.vmid) position
    ∙ ap (λ n. address_of b.pod b.position n a.vmid) port
    ∙ ap (λ n. address_of b.pod b.position b.port n) vmid

pub is_here_itself : (address_table : AddressTableView) (port vmid : ℕ) → is_here address_table (address_in address_table port vmid) ≡ true
is_here_itself address_table port vmid = and_from (address_table.pod == address_table.pod) (address_table.position == address_table.position)
    (eq-eqb address_table.pod address_table.pod refl) (eq-eqb address_table.position address_table.position refl)

pub granted_itself : (address_table : AddressTableView) (port vmid : ℕ) → granted_in address_table (address_in address_table port vmid)
    ≡ grant_number (grants_of address_table port) vmid
granted_itself address_table port vmid =
    cond-true (is_here address_table (address_in address_table port vmid))
    (grant_number (grants_of address_table port) vmid) None (is_here_itself address_table port vmid)

-- what was granted under an address of this switch, at a port of it
pub record IsGrantedHere (address_table : AddressTableView) (address : Pmac) (grant : Grant) : Type 0 where
  pub here : is_here address_table address ≡ true
  pub number : grant_number (grants_of address_table address.port) address.vmid ≡ Some grant
  pub within : address.port < length address_table.grants

no_number_past : (vmid : ℕ) → grant_number [] vmid ≡ None
no_number_past vmid = elim (vmid == 0) as (λ b. ◌≡◌ {A = Option Grant} (cond b None None) None) [ true ↦ refl | false ↦ refl ]

pub is_granted_here : (address_table : AddressTableView) (address : Pmac) (grant : Grant) → granted_in address_table address ≡ Some grant →
    IsGrantedHere address_table address grant
is_granted_here address_table address grant =
    elim (is_here address_table address) as (λ b. is_here address_table address ≡ b →
    cond b (grant_number (grants_of address_table address.port) address.vmid) None ≡ Some grant → IsGrantedHere address_table address grant) [
      | true ↦ λ here found. record {
        here = here;
        number = found;
        within = elim (cases_lt address.port (length address_table.grants)) [
          | inl within ↦ within
          | inr past ↦ absurd (
              let none = ap (λ (gs : List Grant). grant_number gs address.vmid) (get_or_past address_table.grants address.port [] past)
              ∙ no_number_past address.vmid in
              let e = sym none ∙ found in cc)
        ];
      }
      | false ↦ λ away found. absurd (let e = found in cc)
    ] refl

-- Other grants at a port.

pub grants_of_same : (address_table : AddressTableView) (port : ℕ) (grants : List Grant) → port < length address_table.grants →
    grants_of (with_port address_table port grants) port ≡ grants
grants_of_same address_table port grants within = get_or-set_same address_table.grants port grants [] within

pub grants_of_other : (address_table : AddressTableView) (port other : ℕ) (grants : List Grant) → other ≢ port →
    grants_of (with_port address_table port grants) other ≡ grants_of address_table other
grants_of_other address_table port other grants apart = get_or-set_other address_table.grants port other grants [] apart

abbrev granted_by : AddressTableView → Pmac → List Grant → Option Grant
granted_by address_table address grants = cond (is_here address_table address) (grant_number grants address.vmid) None

-- Whatever relates each thing to itself, and what stood under an address to what stands there now, where that is one of this switch and port.
pub port_changed : (address : Pmac) (R : Option Grant → Option Grant → Type 0) (address_table : AddressTableView) (port : ℕ) (grants : List Grant) →
    port < length address_table.grants → ((o : Option Grant) → R o o) →
    (is_here address_table address ≡ true → address.port ≡ port → R (grant_number (grants_of address_table port) address.vmid)
    (grant_number grants address.vmid)) →
    R (granted_in address_table address) (granted_in (with_port address_table port grants) address)
port_changed address R address_table port grants within same changes = elim (cases_eq address.port port) [
  | inl at ↦
      let new : grants_of (with_port address_table port grants) address.port ≡ grants =
      ap (grants_of (with_port address_table port grants)) at ∙ grants_of_same address_table port grants within in
      let old : grants_of address_table address.port ≡ grants_of address_table port = ap (grants_of address_table) at in
      subst (λ gs. R (granted_by address_table address gs) (granted_in (with_port address_table port grants) address)) (sym old)
      (subst (λ gs. R (granted_by address_table address (grants_of address_table port)) (granted_by address_table address gs)) (sym new)
      (elim (is_here address_table address)
      as (λ b. is_here address_table address ≡ b → R (cond b (grant_number (grants_of address_table port) address.vmid) None)
      (cond b (grant_number grants address.vmid) None)) [
        | true ↦ λ here. changes here at
        | false ↦ λ away. same None
      ] refl))
  | inr apart ↦ subst (λ gs. R (granted_in address_table address) (granted_by address_table address gs))
      (sym (grants_of_other address_table port address.port grants apart))
      (same (granted_in address_table address))
]
