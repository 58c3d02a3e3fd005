-- Grants by their number.
use Rattle.std.proofs.Common.{[], ap, Bool, false, if◌then◌else◌, List, None, Option, refl, Some, sym, true, ℕ, ◌-◌, ◌==◌, ◌∙◌, ◌≡◌}
use Rattle.std.proofs.lemmas.Bool.{cond_both}
use Rattle.std.proofs.lemmas.Option.{none-some, same_Some}
use Rattle.std.specs.List.{slice_get}
use Rattle.pl_pmac.specs.declared.pmac.Pmac.{Pmac}
use Rattle.pl_node.specs.declared.switch_records.Grant.{Grant}
use Rattle.pl_node.specs.SwitchViews.{SwitchView}
use Rattle.pl_node.specs.AddressUses.{is_held, is_in_use}
use Rattle.pl_node.proofs.Exports.{in_use_is_held}
use Rattle.pl_switch_rule.specs.Granting.{grant_number, granted, grants_at, held_here, is_local, unless_free}

-- nothing is granted in an empty list
pub none_of_empty : (gs : List Grant) (n : ℕ) → gs ≡ [] → grant_number gs n ≡ None
none_of_empty gs n is = ap (λ (l : List Grant). grant_number l n) is ∙ cond_both (n == 0) None None (λ o. ◌≡◌ {A = Option Grant} o None) (λ h. refl) (λ h. refl)

pub none_granted : (v : SwitchView) (x : Pmac) → grants_at v x.port ≡ [] → granted v x ≡ None
none_granted v x is =
    cond_both (is_local v x) (grant_number (grants_at v x.port) x.vmid) None (λ o. ◌≡◌ {A = Option Grant} o None)
    (λ h. none_of_empty (grants_at v x.port) x.vmid is) (λ h. refl)

pub granted_parts : (v : SwitchView) (x : Pmac) (g : Grant) → granted v x ≡ Some g → (is_local v x ≡ true) × (grant_number (grants_at v x.port) x.vmid ≡ Some g)
granted_parts v x g found = by (is_local v x) refl found
  where
    by : (b : Bool) → is_local v x ≡ b → (if b then grant_number (grants_at v x.port) x.vmid else None) ≡ Some g → (is_local v x ≡ true) × (grant_number (grants_at v x.port) x.vmid ≡ Some g)
    by true e h = (e, h)
    by false e h = absurd (let none : ◌≡◌ {A = Option Grant} None (Some g) = h in cc none)

-- what is held was granted
pub held_is : (o : Option Grant) (g : Grant) → unless_free o ≡ Some g → o ≡ Some g
held_is None g is = absurd (cc is)
held_is (Some grant) g is =
    cond_both (is_held grant.held) (Some grant) None (λ (o : Option Grant). o ≡ Some g → ◌≡◌ {A = Option Grant} (Some grant) (Some g)) (λ h so. so) (λ h so. absurd (cc so)) is

pub held_parts : (v : SwitchView) (x : Pmac) (g : Grant) → held_here v x ≡ Some g → granted v x ≡ Some g
held_parts v x g is = held_is (granted v x) g is

-- and is not free
pub held_one : (v : SwitchView) (x : Pmac) (g : Grant) → held_here v x ≡ Some g → is_held g.held ≡ true
held_one v x g is = by (granted v x) is
  where
    if_held : (h : Grant) (b : Bool) → is_held h.held ≡ b → (if b then Some h else None) ≡ Some g → is_held g.held ≡ true
    if_held h true held so = ap (λ (k : Grant). is_held k.held) (sym (same_Some h g so)) ∙ held
    if_held h false free so = absurd (none-some g so)

    by : (o : Option Grant) → unless_free o ≡ Some g → is_held g.held ≡ true
    by None is = absurd (none-some g is)
    by (Some h) is = if_held h (is_held h.held) refl is

-- what was granted, and is not free, is held
pub held_of : (v : SwitchView) (x : Pmac) (g : Grant) → granted v x ≡ Some g → is_held g.held ≡ true → held_here v x ≡ Some g
held_of v x g found held = ap unless_free found ∙ ap (λ b. if b then Some g else None) held

-- so is what is in use
pub held_in_use : (v : SwitchView) (x : Pmac) (g : Grant) → granted v x ≡ Some g → is_in_use g.held ≡ true → held_here v x ≡ Some g
held_in_use v x g found used = held_of v x g found (in_use_is_held g.held used)

-- what is free is not
pub free_one : (g : Grant) → unless_free (Some g) ≡ None → is_held g.held ≡ false
free_one g none = by (is_held g.held) none
  where
    by : (b : Bool) → (if b then Some g else None) ≡ None → b ≡ false
    by true none = absurd (none-some g (sym none))
    by false none = refl

-- a grant by its number stands at its place
pub numbered_at : (grants : List Grant) (vmid : ℕ) (grant : Grant) → grant_number grants vmid ≡ Some grant → slice_get grants (vmid - 1) ≡ Some grant
numbered_at grants vmid grant = by (vmid == 0)
  where
    by : (test : Bool) → (if test then None else slice_get grants (vmid - 1)) ≡ Some grant → slice_get grants (vmid - 1) ≡ Some grant
    by true is = absurd (cc)
    by false is = is
