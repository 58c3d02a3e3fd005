-- Laws of address tables: whose an address in use is, and which of the traps that were set stands.
use Rattle.std.proofs.Common.{◌≡◌, ◌≤◌, ◌⊎◌, ℕ, suc, ◌+◌, ◌-◌, Bool, true, false, cond, nat_lt, List, [], ◌∷◌, get_or, Option, Some, None, refl, sym, ap, subst, ◌∙◌, inl, inr, arith}
use Rattle.std.specs.List.{All, Contains, fold, position_from, slice_get}
use Rattle.std.specs.Option.{MatchOption}
use Rattle.std.proofs.lemmas.Bool.{and_from, and_parts, cases_Bool, cond-false, cond-true, ltb-false, ltb-true, ne_eqb}
use Rattle.std.proofs.lemmas.List.Elements.{All-cons, All-nil, Contains-append_right}
use Rattle.std.proofs.lemmas.Option.{get_or_from_slice_get, same_Some, slice_get_within}
use Rattle.std.proofs.lemmas.Slice.Eq.{bytes_eq-Decides}
use Rattle.pl_frame.specs.declared.address.Mac.{Mac}
use Rattle.pl_pmac.specs.declared.pmac.Pmac.{Pmac}
use Rattle.pl_node.specs.AddressUses.{is_held, is_in_use}
use Rattle.pl_node.specs.declared.address_use.AddressUse.{AddressUse}
use Rattle.pl_node.specs.declared.address_use.AddressUse.TheVariants.{Free, InUse, Resting, Trapped}
use Rattle.pl_node.specs.declared.switch_records.Grant.{Grant}
use Rattle.pl_node.specs.declared.trap.Trap.{Trap}
use Rattle.pl_layouts.specs.Equality.{same_mac}
use Rattle.pl_switch_rule.specs.Granting.{grant_number, in_use, unless_free}
use Rattle.pl_migrate.specs.AddressTables.{AddressTableView, address_in, address_in_use, granted_in, grantee_at, grants_of, is_used, numbered}
use Rattle.pl_migrate.specs.declared.grantee.Grantee.{Grantee}
use Rattle.pl_migrate.specs.Keeping.{IsHostsOwn, StandsOf, newer_trap, sets_trap_on, trap_standing}
use Rattle.pl_migrate.specs.PortGrants.{AtMostOne}
use Rattle.pl_migrate.proofs.Changes.{granted_itself, here_is_same, is_granted_here, is_here_itself}
use Rattle.pl_migrate.proofs.Numbers.{is_numbered}
use Rattle.pl_migrate.proofs.OneEach.{found_at}
use Rattle.pl_migrate.proofs.PortUses.{uses_grant}

-- An address in use.

record IsFound {T : Type 0} (test : T → Bool) (k n : ℕ) (xs : List T) : Type 0 where
  pub item : T
  pub from : k ≤ n
  pub at : slice_get xs (n - k) ≡ Some item
  pub passes : test item ≡ true

found_item : {T : Type 0} (test : T → Bool) (k n : ℕ) (xs : List T) → position_from test k xs ≡ Some n → IsFound test k n xs
found_item test k n [] found = absurd (let e = found in cc)
found_item test k n (x ∷ xs) found = elim (cases_Bool (test x)) [
  | inl passes ↦
      let same : k ≡ n = same_Some _ _ (sym (cond-true (test x) (Some k) (position_from test (k + 1) xs) passes) ∙ found) in
      record {
        item = x;
        from = omega arith;
        at = let none : n - k ≡ 0 = omega arith in ap (slice_get (x ∷ xs)) none;
        passes = passes;
      }
  | inr fails ↦
      let later = found_item test (k + 1) n xs (sym (cond-false (test x) (Some k) (position_from test (k + 1) xs) fails) ∙ found) in
      let from = later.from in
      record {
        item = later.item;
        from = omega arith;
        at = let further : n - k ≡ suc (n - (k + 1)) = omega arith in ap (slice_get (x ∷ xs)) further ∙ later.at;
        passes = later.passes;
      }
]

abbrev granted_to : Mac → ℕ → Grantee
granted_to amac port = record { amac = amac; port = port }

used_held : (held : AddressUse) → is_in_use held ≡ true → is_held held ≡ true
used_held (InUse idle) used = refl
used_held (Trapped trap age) used = refl
used_held (Resting number) used = refl
used_held Free used = used

used_unfree : (grant : Grant) → is_in_use grant.held ≡ true → unless_free (Some grant) ≡ Some grant
used_unfree grant used = cond-true (is_held grant.held) (Some grant) None (used_held grant.held used)

in_use_is_own : (address_table : AddressTableView) (port : ℕ) (amac : Mac) (o : Option ℕ) (address : Pmac) → in_use (grants_of address_table port) amac ≡ o →
    numbered address_table port o ≡ Some address → IsHostsOwn address_table port amac address
in_use_is_own address_table port amac None address used found = absurd (let e = found in cc)
in_use_is_own address_table port amac (Some vmid) address used found =
    let is = found_item (uses_grant amac) 1 vmid (grants_of address_table port) used in
    let from = is.from in
    let parts = and_parts (is_in_use is.item.held) (same_mac is.item.amac amac) is.passes in
    let at : granted_in address_table address ≡ Some is.item =
    sym (ap (granted_in address_table) (same_Some _ _ found)) ∙ granted_itself address_table port vmid
    ∙ ap (λ b. cond b None (slice_get (grants_of address_table port) (vmid - 1))) (ne_eqb vmid 0 (λ e. omega arith)) ∙ is.at in
    let mac : is.item.amac.0 ≡ amac.0 = (bytes_eq-Decides is.item.amac.0 amac.0).0 parts.1 in
    record {
      grantee = ap (λ o. grantee_at address (unless_free o)) at ∙ ap (grantee_at address) (used_unfree is.item parts.0)
          ∙ ap (λ n. Some (granted_to is.item.amac n)) (sym (ap (λ (a : Pmac). a.port) (same_Some _ _ found)))
          ∙ ap (λ bytes. Some (granted_to (record { 0 = bytes }) port)) mac;
      used = ap is_used at ∙ parts.0;
    }

pub used_is_own : (address_table : AddressTableView) (port : ℕ) (amac : Mac) (address : Pmac) → address_in_use address_table port amac ≡ Some address → IsHostsOwn address_table port amac address
used_is_own address_table port amac address found = in_use_is_own address_table port amac (in_use (grants_of address_table port) amac) address refl found

-- the grant under an address that is a host's own
record IsOwnGrant (address_table : AddressTableView) (port : ℕ) (amac : Mac) (address : Pmac) : Type 0 where
  pub grant : Grant
  pub at : granted_in address_table address ≡ Some grant
  pub port_is : address.port ≡ port
  pub passes : uses_grant amac grant ≡ true

own_grant : (address_table : AddressTableView) (port : ℕ) (amac : Mac) (address : Pmac) (o : Option Grant) → granted_in address_table address ≡ o →
    grantee_at address (unless_free o) ≡ Some (granted_to amac port) → is_used o ≡ true → IsOwnGrant address_table port amac address
own_grant address_table port amac address None at grantee used = absurd (let e = grantee in cc)
own_grant address_table port amac address (Some grant) at grantee used =
    let same : granted_to grant.amac address.port ≡ granted_to amac port =
    same_Some _ _ (sym (ap (grantee_at address) (used_unfree grant used)) ∙ grantee) in
    record {
      grant = grant;
      at = at;
      port_is = ap (λ (g : Grantee). g.port) same;
      passes = and_from (is_in_use grant.held) (same_mac grant.amac amac) used ((bytes_eq-Decides grant.amac.0 amac.0).1 (ap (λ (g : Grantee). g.amac.0) same));
    }

-- and no other is in use at that port
pub own_is_used : (address_table : AddressTableView) (port : ℕ) (amac : Mac) (address : Pmac) → AtMostOne (uses_grant amac) (grants_of address_table port) →
    IsHostsOwn address_table port amac address → address_in_use address_table port amac ≡ Some address
own_is_used address_table port amac address one own =
    let is = own_grant address_table port amac address (granted_in address_table address) refl own.grantee own.used in
    let here = is_granted_here address_table address is.grant is.at in
    let number : grant_number (grants_of address_table port) address.vmid ≡ Some is.grant =
    ap (λ n. grant_number (grants_of address_table n) address.vmid) (sym is.port_is) ∙ here.number in
    let numbered_as = is_numbered (grants_of address_table port) address.vmid is.grant number in
    let first = numbered_as.first in
    let within = slice_get_within (grants_of address_table port) (address.vmid - 1) is.grant numbered_as.at in
    let passes : uses_grant amac (get_or (grants_of address_table port) (address.vmid - 1) is.grant) ≡ true =
    ap (uses_grant amac) (get_or_from_slice_get (grants_of address_table port) (address.vmid - 1) is.grant is.grant numbered_as.at) ∙ is.passes in
    let found = found_at (uses_grant amac) 1 (grants_of address_table port) (address.vmid - 1) is.grant one within passes in
    let counted : 1 + (address.vmid - 1) ≡ address.vmid = omega arith in
    ap (numbered address_table port) (found ∙ ap (λ (n : ℕ). Some n) counted)
    ∙ ap (λ (a : Pmac). Some a) (here_is_same address_table (address_in address_table port address.vmid) address
    (is_here_itself address_table port address.vmid) here.here (sym is.port_is) refl)

-- Traps that were set one after another.

record IsNewer (x t0 t : Trap) : Type 0 where
  pub above_new : x.number ≤ t.number
  pub above_old : t0.number ≤ t.number
  pub one : (t ≡ t0) ⊎ (t ≡ x)

is_newer : (x t0 : Trap) → IsNewer x t0 (newer_trap x (Some t0))
is_newer x t0 = elim (nat_lt x.number t0.number) as (λ b. nat_lt x.number t0.number ≡ b → IsNewer x t0 (cond b t0 x)) [
  | true ↦ λ less. record { above_new = let l = ltb-true x.number t0.number less in omega arith; above_old = omega arith; one = inl refl }
  | false ↦ λ more. record { above_new = omega arith; above_old = ltb-false x.number t0.number more; one = inr refl }
] refl

contains_first : (x : Trap) (xs : List Trap) (t : Trap) → t ≡ x → Contains (x ∷ xs) t
contains_first x xs t same = (0, (omega arith), sym same)

contains_later : (x : Trap) (xs : List Trap) (t : Trap) → Contains xs t → Contains (x ∷ xs) t
contains_later x xs t later = Contains-append_right (x ∷ []) xs t later

-- the trap that stands behind one that stood and those that were set after it
record EndsAt (t0 : Trap) (ts : List Trap) (t : Trap) : Type 0 where
  pub is : fold sets_trap_on (Some t0) ts ≡ Some t
  pub above : t0.number ≤ t.number
  pub all : All (λ (o : Trap). o.number ≤ t.number) ts
  pub among : (t ≡ t0) ⊎ Contains ts t

among_more : (x t0 : Trap) (xs : List Trap) (t : Trap) → (newer_trap x (Some t0) ≡ t0) ⊎ (newer_trap x (Some t0) ≡ x) →
    (t ≡ newer_trap x (Some t0)) ⊎ Contains xs t → (t ≡ t0) ⊎ Contains (x ∷ xs) t
among_more x t0 xs t (inl old) (inl same) = inl (same ∙ old)
among_more x t0 xs t (inr new) (inl same) = inr (contains_first x xs t (same ∙ new))
among_more x t0 xs t one (inr later) = inr (contains_later x xs t later)

ends_more : (x t0 : Trap) (xs : List Trap) (t : Trap) → EndsAt (newer_trap x (Some t0)) xs t → EndsAt t0 (x ∷ xs) t
ends_more x t0 xs t end =
    let newer = is_newer x t0 in
    let above_new = newer.above_new in
    let above_old = newer.above_old in
    let above = end.above in
    record {
      is = end.is;
      above = omega arith;
      all = All-cons (λ (o : Trap). o.number ≤ t.number) x xs (omega arith) end.all;
      among = among_more x t0 xs t newer.one end.among;
    }

ends_at : (t0 : Trap) (ts : List Trap) → (t : Trap) × EndsAt t0 ts t
ends_at t0 [] = (t0, record { is = refl; above = omega arith; all = All-nil (λ (o : Trap). o.number ≤ t0.number); among = inl refl })
ends_at t0 (x ∷ xs) = let end = ends_at (newer_trap x (Some t0)) xs in (end.0, ends_more x t0 xs end.0 end.1)

among_all : (x : Trap) (xs : List Trap) (t : Trap) → (t ≡ x) ⊎ Contains xs t → Contains (x ∷ xs) t
among_all x xs t (inl same) = contains_first x xs t same
among_all x xs t (inr later) = contains_later x xs t later

stands_of : (x : Trap) (xs : List Trap) (t : Trap) → EndsAt x xs t → MatchOption (trap_standing (x ∷ xs)) ((x ∷ xs) ≡ []) (StandsOf (x ∷ xs))
stands_of x xs t end =
    subst (λ o. MatchOption o ((x ∷ xs) ≡ []) (StandsOf (x ∷ xs))) (sym end.is) (record {
      among = among_all x xs t end.among;
      largest = All-cons (λ (o : Trap). o.number ≤ t.number) x xs end.above end.all;
    })

pub newest_stands : (ts : List Trap) → MatchOption (trap_standing ts) (ts ≡ []) (StandsOf ts)
newest_stands [] = refl
newest_stands (x ∷ xs) = let end = ends_at x xs in stands_of x xs end.0 end.1
