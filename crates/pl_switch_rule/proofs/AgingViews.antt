-- Where addresses age, and where one is freed, the grants and the orders of addresses change alone.
use Rattle.std.proofs.Common.{◌≡◌, ℕ, zero, suc, ◌-◌, ◌==◌, Bool, true, false, if◌then◌else◌, List, [], ◌∷◌, map, Option, Some, None, option_map, slice_get, refl, ap, ◌∙◌}
use Rattle.pl_pmac.specs.declared.pmac.Pmac.{Pmac}
use Rattle.pl_node.specs.declared.address_use.AddressUse.{AddressUse}
use Rattle.pl_node.specs.declared.address_use.AddressUse.TheVariants.{Free, InUse, Resting, Trapped}
use Rattle.pl_node.specs.declared.switch_records.Grant.{Grant}
use Rattle.pl_node.specs.SwitchViews.{SwitchView}
use Rattle.pl_steps.specs.Steps.{SwitchStep, ◌▹◌}
use Rattle.pl_switch_rule.specs.Aging.{ages, ages_out, ages_out_of, all_age_out, older_grant, to_rest, with_older}
use Rattle.pl_switch_rule.specs.Granting.{grant_number, granted, grants_at, is_local}
use Rattle.pl_switch_rule.proofs.AgingParts.{older_at}

-- nothing is granted then, and nobody is forgotten
abbrev pub AgesAlone : SwitchView → SwitchView → Type 0
AgesAlone v w = w ≡ record v { grants = w.grants; used = w.used; trapped = w.trapped }

alone_then : (u v w : SwitchView) → AgesAlone u v → AgesAlone v w → AgesAlone u w
alone_then u v w first next =
    let aged : SwitchView → SwitchView = λ x. record x { grants = w.grants; used = w.used; trapped = w.trapped } in next ∙ ap aged first

out_of_ages : (v : SwitchView) (address : Pmac) (grant : Grant) (held : AddressUse) → AgesAlone v (ages_out_of v address grant held).view
out_of_ages v address grant (InUse idle) = refl
out_of_ages v address grant (Trapped trap age) = refl
out_of_ages v address grant (Resting number) = refl
out_of_ages v address grant Free = refl

out_ages : (v : SwitchView) (address : Pmac) (grant : Option Grant) → AgesAlone v (ages_out address grant v).view
out_ages v address None = refl
out_ages v address (Some grant) = out_of_ages v address grant grant.held

all_age : (addresses : List Pmac) (v : SwitchView) → AgesAlone v (all_age_out addresses v).view
unfolding all_age_out
all_age [] v = refl
all_age (address ∷ addresses) v =
    let first : SwitchStep = ages_out address (granted v address) v in
    alone_then v first.view (first ▹ all_age_out addresses).view (out_ages v address (granted v address)) (all_age addresses first.view)

pub ages_alone : (v : SwitchView) → AgesAlone v (ages v).view
ages_alone v = let o = with_older v in alone_then v o (ages v).view refl (all_age (to_rest o) o)

-- ---- what was granted, once all are older
number_older : (grants : List Grant) (vmid : ℕ) → grant_number (map older_grant grants) vmid ≡ option_map older_grant (grant_number grants vmid)
number_older grants vmid = by (vmid == 0)
  where
    at : (gs : List Grant) (n : ℕ) → slice_get (map older_grant gs) n ≡ option_map older_grant (slice_get gs n)
    at [] n = refl
    at (g ∷ gs) zero = refl
    at (g ∷ gs) (suc n) = at gs n

    by : (b : Bool) → (if b then None else slice_get (map older_grant grants) (vmid - 1)) ≡ option_map older_grant (if b then None else slice_get grants (vmid - 1))
    by true = refl
    by false = at grants (vmid - 1)

pub granted_older : (v : SwitchView) (x : Pmac) → granted (with_older v) x ≡ option_map older_grant (granted v x)
granted_older v x = by (is_local v x)
  where
    by : (b : Bool) → (if b then grant_number (grants_at (with_older v) x.port) x.vmid else None) ≡ option_map older_grant (if b then grant_number (grants_at v x.port) x.vmid else None)
    by true = ap (λ gs. grant_number gs x.vmid) (older_at v.grants x.port) ∙ number_older (grants_at v x.port) x.vmid
    by false = refl
