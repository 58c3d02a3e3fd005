-- What an edge switch knows of addresses goes by who holds them and by their traps, and not by how long they are not used.
use Rattle.std.proofs.Common.{◌≡◌, ℕ, true, if◌then◌else◌, length, Option, None, Some, refl, sym, ◌∙◌, ap}
use Rattle.std.proofs.lemmas.Option.{none-some}
use Rattle.pl_frame.specs.declared.address.Mac.{Mac}
use Rattle.pl_pmac.specs.declared.pmac.Pmac.{Pmac}
use Rattle.pl_wiring.specs.Plan.{Plan}
use Rattle.pl_layouts.specs.Memberships.{is_group}
use Rattle.pl_node.specs.AddressUses.{is_held, standing_trap}
use Rattle.pl_node.specs.declared.address_use.AddressUse.{AddressUse}
use Rattle.pl_node.specs.declared.address_use.AddressUse.TheVariants.{Free, InUse, Resting, Trapped}
use Rattle.pl_node.specs.declared.switch_records.Grant.{Grant}
use Rattle.pl_node.specs.declared.trap.Trap.{Trap}
use Rattle.pl_node.specs.SwitchViews.{SwitchView}
use Rattle.pl_switch_rule.specs.Delivering.{grant_trap, trap_for}
use Rattle.pl_switch_rule.specs.Granting.{granted, held_here, is_local, unless_free}
use Rattle.pl_switch_rule.proofs.Exports.{free_one, held_of, held_one, held_parts}
use Rattle.pl_law_flights.specs.OnTheWay.{AddressHistory}
use Rattle.pl_law_flights.specs.Standing.{IsGranted, KnowsAddresses}

-- a grant like another: it has the same host and the same trap, and is free where the other one is
pub record IsLike (g h : Grant) : Type 0 where
  pub amac : g.amac ≡ h.amac
  pub trap : standing_trap g.held ≡ standing_trap h.held
  pub held : is_held g.held ≡ is_held h.held

pub like_itself : (g : Grant) → IsLike g g
like_itself g = record { amac = refl; trap = refl; held = refl }

-- the same grants, but for their IPv4 addresses and for how long they are not used
pub record AgreesWith (v w : SwitchView) : Type 0 where
  pub local : (y : Pmac) → is_local w y ≡ is_local v y
  pub pod : w.place.pod ≡ v.place.pod
  pub some : (y : Pmac) (h : Grant) → granted w y ≡ Some h → (g : Grant) × (granted v y ≡ Some g) × IsLike g h
  pub none : (y : Pmac) → granted w y ≡ None → granted v y ≡ None

trap_there : (o : Option Grant) (trap : Trap) → grant_trap o ≡ Some trap → (g : Grant) × (o ≡ Some g) × (standing_trap g.held ≡ Some trap)
trap_there None trap is = absurd (none-some trap is)
trap_there (Some g) trap is = (g, refl, is)

-- where a trap stands the address is held
pub trap_is_held : (held : AddressUse) (trap : Trap) → standing_trap held ≡ Some trap → is_held held ≡ true
trap_is_held (InUse idle) trap is = absurd (none-some trap is)
trap_is_held (Trapped other age) trap is = refl
trap_is_held (Resting number) trap is = absurd (none-some trap is)
trap_is_held Free trap is = absurd (none-some trap is)

pub trapped_here : (v : SwitchView) (x : Pmac) (trap : Trap) → trap_for v x ≡ Some trap → (g : Grant) × (held_here v x ≡ Some g)
trapped_here v x trap is = let some = trap_there (granted v x) trap is in (some.0, held_of v x some.0 some.1 (trap_is_held some.0.held trap some.2))

-- what nobody holds then, nobody held before
none_held : (v w : SwitchView) → AgreesWith v w → (y : Pmac) → held_here w y ≡ None → held_here v y ≡ None
none_held v w a y none = by (granted w y) refl none
  where
    by : (o : Option Grant) → granted w y ≡ o → unless_free o ≡ None → held_here v y ≡ None
    by None is none = ap unless_free (a.none y is)
    by (Some h) is none =
        let was = a.some y h is in
        ap unless_free was.1 ∙ ap (λ b. if b then Some was.0 else None) (was.2.held ∙ free_one h none)

pub knows_agreed : (plan : Plan) (history : AddressHistory) (t : ℕ) (v w : SwitchView) → AgreesWith v w → KnowsAddresses plan history t v → KnowsAddresses plan history t w
knows_agreed plan history t v w a knows = record {
  granted_there = λ y h is. let was = a.some y h is in knows.granted_there y was.0 was.1;
  granted_here = λ y h is.
      let was = a.some y h (held_parts w y h is) in
      let like = was.2 in
      let it : IsGranted plan history t y was.0 = knows.granted_here y was.0 (held_of v y was.0 was.1 (like.held ∙ held_one w y h is)) in
      record {
        host = it.host;
        held = it.held;
        there = it.there;
        mac = it.mac ∙ ap Some like.amac;
        six = ap (λ (m : Mac). length m.0) (sym like.amac) ∙ it.six;
        unicast = ap is_group (sym like.amac) ∙ it.unicast;
        for_hosts = it.for_hosts;
        fits = it.fits;
        own = it.own;
      };
  not_granted = λ y fits own is. knows.not_granted y fits (sym (a.local y) ∙ own) (none_held v w a y is);
  trapped = λ y trap is.
      let some = trap_there (granted w y) trap is in
      let was = a.some y some.0 some.1 in
      knows.trapped y trap (ap grant_trap was.1 ∙ was.2.trap ∙ some.2);
  pods = λ n is. knows.pods n (sym a.pod ∙ is);
  back = λ y port fits is. let b = knows.back y port fits is in (a.local y ∙ b.0, b.1);
}

pub agrees_itself : (v : SwitchView) → AgreesWith v v
agrees_itself v = record { local = λ y. refl; pod = refl; some = λ y h is. (h, is, like_itself h); none = λ y is. is }
