-- That addresses age, and that one is freed, is not seen by discovery.
use Rattle.std.proofs.Common.{◌≡◌, ℕ, ◌-◌, ◌++◌, true, List, [], ◌∷◌, map, Option, Some, None, slice_set, refl, ap, ◌∙◌, inr}
use Rattle.pl_pmac.specs.declared.pmac.Pmac.{Pmac}
use Rattle.pl_node.specs.declared.acts.Act.TheVariants as act
use Rattle.pl_node.specs.declared.address_use.AddressUse.{AddressUse}
use Rattle.pl_node.specs.declared.address_use.AddressUse.TheVariants.{Free, InUse, Resting, Trapped}
use Rattle.pl_node.specs.declared.messages.ToManager.TheVariants.{Aged}
use Rattle.pl_node.specs.declared.switch_records.Grant.{Grant}
use Rattle.pl_node.specs.PortRecords.{port_of}
use Rattle.pl_node.specs.SwitchViews.{SwitchView}
use Rattle.pl_steps.specs.Steps.{does}
use Rattle.pl_switch_rule.specs.Aging.{ages, ages_out, ages_out_of, all_age_out, older_grant, probes_idle, to_rest, with_older}
use Rattle.pl_switch_rule.specs.Granting.{freed_at, granted, grants_at, with_grant, without}
use Rattle.pl_switch_rule.specs.Messages.{frees, frees_at}
use Rattle.pl_switch_rule.proofs.Exports.{idle_acts, older_at}
use Rattle.pl_law_control_plane.specs.Homes.{HasHomes}
use Rattle.pl_law_control_plane.proofs.Silent.{GoesWell, IsMute, IsSilent, addresses_silent, silent_then, still_does}
use Rattle.pl_law_control_plane.proofs.SilentFrames.{granted_host, IsWay}

-- an address is freed
frees_at_silent : (v : SwitchView) (x : Pmac) (grant : Grant) (held : AddressUse) → (port_of v x.port).host ≡ true → HasHomes v → IsSilent v (frees_at v x grant held)
frees_at_silent v x grant (InUse idle) host homes = still_does v [] homes tt
frees_at_silent v x grant (Trapped trap age) host homes = still_does v [] homes tt
frees_at_silent v x grant (Resting number) host homes =
    addresses_silent v x.port (slice_set (grants_at v x.port) (x.vmid - 1) (record grant { held = Free })) v.used v.trapped
    (slice_set v.freed x.port (freed_at v x.port ++ x.vmid ∷ [])) (act.Free x ∷ []) host homes (tt, tt)
frees_at_silent v x grant Free host homes = still_does v [] homes tt

pub frees_silent : (v : SwitchView) (x : Pmac) (o : Option Grant) → granted v x ≡ o → HasHomes v → IsSilent v (frees v x o)
frees_silent v x None is homes = still_does v [] homes tt
frees_silent v x (Some grant) is homes = frees_at_silent v x grant grant.held (granted_host v x grant is homes) homes

-- addresses rest
rests_silent : (v : SwitchView) (x : Pmac) (grant : Grant) (number : ℕ) → (port_of v x.port).host ≡ true → HasHomes v → IsSilent v (record {
  view = record (with_grant v x (record grant { held = Resting number })) { used = without x v.used; trapped = without x v.trapped };
  acts = act.Tell (Aged x number) ∷ [];
})
rests_silent v x grant number host homes =
    addresses_silent v x.port (slice_set (grants_at v x.port) (x.vmid - 1) (record grant { held = Resting number })) (without x v.used) (without x v.trapped) v.freed
    (act.Tell (Aged x number) ∷ []) host homes (tt, tt)

out_of_silent : (v : SwitchView) (x : Pmac) (grant : Grant) (held : AddressUse) → (port_of v x.port).host ≡ true → HasHomes v → IsSilent v (ages_out_of v x grant held)
out_of_silent v x grant (InUse idle) host homes = rests_silent v x grant 0 host homes
out_of_silent v x grant (Trapped trap age) host homes = rests_silent v x grant trap.number host homes
out_of_silent v x grant (Resting number) host homes = still_does v [] homes tt
out_of_silent v x grant Free host homes = still_does v [] homes tt

out_silent : (v : SwitchView) (x : Pmac) (o : Option Grant) → granted v x ≡ o → HasHomes v → IsSilent v (ages_out x o v)
out_silent v x None is homes = still_does v [] homes tt
out_silent v x (Some grant) is homes = out_of_silent v x grant grant.held (granted_host v x grant is homes) homes

all_silent : (xs : List Pmac) (v : SwitchView) → HasHomes v → IsSilent v (all_age_out xs v)
unfolding all_age_out
all_silent [] v homes = still_does v [] homes tt
all_silent (x ∷ xs) v homes =
    silent_then v (ages_out x (granted v x) v) (all_age_out xs) (out_silent v x (granted v x) refl homes) (λ w seen at. all_silent xs w at)

-- all are older, and hosts are probed
older_homes : (v : SwitchView) → HasHomes v → HasHomes (with_older v)
older_homes v homes = record {
  grants = λ p none. older_at v.grants p ∙ ap (map older_grant) (homes.grants p none);
  remembered = homes.remembered;
  members = homes.members;
}

older_silent : (v : SwitchView) → HasHomes v → IsSilent v (does (with_older v) (probes_idle (with_older v)))
older_silent v homes = record {
  seen = record { id = refl; k = refl; place = refl; ports = refl; attempt = refl; proposed = refl; granted = refl; holds = refl };
  homes = older_homes v homes;
  mute = idle_acts IsMute (IsWay v) (λ port frame way. tt) (with_older v) at_host (λ x i. tt);
  well = idle_acts (GoesWell v) (IsWay v) (λ port frame way. way) (with_older v) at_host (λ x i. tt);
}
  where
    at_host : (x : Pmac) (grant : Grant) → granted (with_older v) x ≡ Some grant → IsWay v x.port
    at_host x grant is = inr (granted_host (with_older v) x grant is (older_homes v homes))

pub ages_silent : (v : SwitchView) → HasHomes v → IsSilent v (ages v)
ages_silent v homes =
    silent_then v (does (with_older v) (probes_idle (with_older v))) (λ w. all_age_out (to_rest w) w) (older_silent v homes) (λ w seen at. all_silent (to_rest w) w at)
