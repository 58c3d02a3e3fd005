-- A tick makes the addresses of an edge switch older, and some rest from then on.
use Rattle.std.proofs.Common.{◌≡◌, ◌<◌, ◌-◌, ◌==◌, ℕ, zero, suc, not, Bool, true, false, cond, set, List, [], ◌∷◌, length, map, Option, Some, None, slice_get, refl, sym, ap, subst, ◌∙◌, arith}
use Rattle.std.specs.Option.{option_map}
use Rattle.std.proofs.lemmas.List.{length-map}
use Rattle.std.proofs.lemmas.Option.{none-some, same_Some}
use Rattle.pl_frame.specs.declared.address.Ip4.{Ip4}
use Rattle.pl_frame.specs.declared.address.Mac.{Mac}
use Rattle.pl_pmac.specs.declared.pmac.Pmac.{Pmac}
use Rattle.pl_layouts.specs.Equality.{same_pmac}
use Rattle.pl_node.specs.AddressUses.{is_held, is_in_use, standing_trap}
use Rattle.pl_node.specs.declared.address_use.AddressUse.{AddressUse}
use Rattle.pl_node.specs.declared.address_use.AddressUse.TheVariants.{Free, InUse, Resting, Trapped}
use Rattle.pl_node.specs.declared.switch_records.Grant.{Grant}
use Rattle.pl_node.specs.SwitchViews.{SwitchView}
use Rattle.pl_steps.specs.Steps.{SwitchStep, does, ◌▹◌}
use Rattle.pl_switch_rule.specs.Aging.{ages, ages_out, ages_out_of, all_age_out, comes_to_rest, older, older_grant, probes_idle, to_rest, with_older}
use Rattle.pl_switch_rule.specs.Announcing.{tells_neighbours, ticks}
use Rattle.pl_switch_rule.specs.Granting.{freed_at, grant_number, granted, grants_at, is_local, with_grants}
use Rattle.pl_switch_rule.proofs.Exports.{granted_parts, idle_acts, IsAnyPort, older_at}
use Rattle.pl_law_addresses.specs.FreeVmids.{AreFreeVmids, is_free}
use Rattle.pl_law_addresses.specs.EdgeAddresses.{IsGoodAddressTable, KeepsHolders}
use Rattle.pl_law_addresses.proofs.Asides.{tells_aside}
use Rattle.pl_law_addresses.proofs.FreeLists.{as_free, held_free, table_alike, table_with_grants}
use Rattle.pl_law_addresses.proofs.GrantsByNumber.{granted_within, local_settled, now_at, number_set_other, number_set_same, number_within, others_at}
use Rattle.pl_law_addresses.proofs.RowsLeaveAddresses.{IsSilent, Keeps, LeavesAddresses, StaysTo, aside_does, aside_keeps, keeps_holders, keeps_then, rests_keeps}

-- ---- all are older
pub use_still : (h : AddressUse) → is_in_use (older h) ≡ is_in_use h
use_still (InUse idle) = refl
use_still (Trapped trap age) = refl
use_still (Resting number) = refl
use_still Free = refl

pub held_still : (h : AddressUse) → is_held (older h) ≡ is_held h
held_still (InUse idle) = refl
held_still (Trapped trap age) = refl
held_still (Resting number) = refl
held_still Free = refl

pub trap_still : (h : AddressUse) → standing_trap (older h) ≡ standing_trap h
trap_still (InUse idle) = refl
trap_still (Trapped trap age) = refl
trap_still (Resting number) = refl
trap_still Free = refl

get_mapped : {X Y : Type 0} (f : X → Y) (xs : List X) (i : ℕ) → slice_get (map f xs) i ≡ option_map f (slice_get xs i)
get_mapped f [] i = refl
get_mapped f (x ∷ xs) zero = refl
get_mapped f (x ∷ xs) (suc i) = get_mapped f xs i

pub older_number : (gs : List Grant) (n : ℕ) → grant_number (map older_grant gs) n ≡ option_map older_grant (grant_number gs n)
older_number gs n = by (n == 0)
  where
    by : (b : Bool) → cond b None (slice_get (map older_grant gs) (n - 1)) ≡ option_map older_grant (cond b None (slice_get gs (n - 1)))
    by true = refl
    by false = get_mapped older_grant gs (n - 1)

pub granted_older : (v : SwitchView) (x : Pmac) → granted (with_older v) x ≡ option_map older_grant (granted v x)
granted_older v x = by (is_local v x)
  where
    by : (b : Bool) → cond b (grant_number (grants_at (with_older v) x.port) x.vmid) None ≡ option_map older_grant (cond b (grant_number (grants_at v x.port) x.vmid) None)
    by true = ap (λ gs. grant_number gs x.vmid) (older_at v.grants x.port) ∙ older_number (grants_at v x.port) x.vmid
    by false = refl

-- what it was before
pub record WasYounger (o : Option Grant) (g : Grant) : Type 0 where
  pub grant : Grant
  pub found : o ≡ Some grant
  pub same : older_grant grant ≡ g

pub younger : (o : Option Grant) (g : Grant) → option_map older_grant o ≡ Some g → WasYounger o g
younger None g is = absurd (none-some g is)
younger (Some h) g is = record { grant = h; found = refl; same = same_Some (older_grant h) g is }

older_free : (o : Option Grant) → is_free (option_map older_grant o) ≡ is_free o
older_free None = refl
older_free (Some g) = ap not (held_still g.held)

pub older_vmids : (v : SwitchView) (port : ℕ) → AreFreeVmids (grants_at v port) (freed_at v port) → AreFreeVmids (grants_at (with_older v) port) (freed_at v port)
older_vmids v port free = as_free (grants_at v port) (grants_at (with_older v) port) (freed_at v port) free
    (λ n. ap (λ gs. is_free (grant_number gs n)) (older_at v.grants port) ∙ ap is_free (older_number (grants_at v port) n) ∙ older_free (grant_number (grants_at v port) n))

-- hosts are probed
pub probes_are_aside : (v : SwitchView) → LeavesAddresses v (does v (probes_idle v))
probes_are_aside v = aside_does v (probes_idle v) (idle_acts IsSilent IsAnyPort (λ port frame way. tt) v (λ x grant is. tt) (λ x i. tt))

older_holders : (v : SwitchView) → KeepsHolders (λ x. granted v x) (λ x. granted (with_older v) x)
older_holders v x mac h = record {
  grant = older_grant h.grant;
  found = granted_older v x ∙ ap (option_map older_grant) h.found;
  held = held_still h.grant.held ∙ h.held;
  to = h.to;
}

module _ (own : Mac → Option Ip4) where
  keeps_older : (v : SwitchView) → Keeps own v (does (with_older v) [])
  keeps_older v = record {
    table = λ table. record {
      many = length-map v.grants (map older_grant) ∙ table.many;
      many_freed = table.many_freed;
      empty = λ unsettled port. older_at v.grants port ∙ ap (map older_grant) (table.empty unsettled port);
      free = λ port. older_vmids v port (table.free port);
      sources = table.sources;
    };
    grows = λ table. record { once = λ x. omega arith; stays = older_holders v; says = tt; frees_none = λ x. refl };
    place = refl;
    k = refl;
  }

  keeps_probes : (v : SwitchView) → Keeps own v (does v (probes_idle v))
  keeps_probes v = aside_keeps own v (does v (probes_idle v)) (probes_are_aside v)

  -- ---- one rests
  module _ (v : SwitchView) (x : Pmac) (g : Grant) (was : granted v x ≡ Some g) (held : is_held g.held ≡ true) (number : ℕ) where
    abbrev resting : Grant
    resting = record g { held = Resting number }

    abbrev list : List Grant
    list = set (grants_at v x.port) (x.vmid - 1) resting

    record IsRestingNow : Type 0 where
      within : x.port < v.k
      here : is_local v x ≡ true
      now : granted (with_grants v x.port list) x ≡ Some resting
      others : (y : Pmac) → same_pmac y x ≡ false → granted (with_grants v x.port list) y ≡ granted v y
      stays : StaysTo (λ y. granted v y) x resting
      free : AreFreeVmids list (freed_at v x.port)

    resting_now : IsGoodAddressTable own v → IsRestingNow
    resting_now table =
        let parts = granted_parts v x g was in
        let within : x.port < v.k = granted_within v x g was table.many in
        let many : x.port < length v.grants = subst (λ n. x.port < n) (sym table.many) within in
        let some = (number_within (grants_at v x.port) x.vmid g parts.1).0 in
        record {
          within = within;
          here = parts.0;
          now = now_at v x list many parts.0 ∙ number_set_same (grants_at v x.port) x.vmid g resting parts.1;
          others = others_at v x list many parts.0 (λ n other. number_set_other (grants_at v x.port) x.vmid n resting some other);
          stays = λ h is still. (refl, ap (λ (q : Grant). q.amac) (same_Some g h (sym was ∙ is)));
          free = held_free (grants_at v x.port) (freed_at v x.port) x.vmid g resting (table.free x.port) parts.1 held refl;
        }

    keeps_rest : Keeps own v (comes_to_rest v x g number)
    keeps_rest = record {
      table = λ table. let it = resting_now table in
          table_alike own (with_grants v x.port list) (comes_to_rest v x g number).view refl refl refl refl refl
          (table_with_grants own v x.port list (local_settled v x it.here) it.within table it.free);
      grows = λ table. let it = resting_now table in record {
        once = λ y. omega arith;
        stays = keeps_holders (λ y. granted v y) (λ y. granted (with_grants v x.port list) y) x resting it.now it.others it.stays;
        says = (tt, tt);
        frees_none = λ y. refl;
      };
      place = refl;
      k = refl;
    }

  keeps_use_out : (v : SwitchView) (x : Pmac) (g : Grant) → granted v x ≡ Some g → (h : AddressUse) → g.held ≡ h → Keeps own v (ages_out_of v x g h)
  keeps_use_out v x g was (InUse idle) is = keeps_rest v x g was (ap is_held is) 0
  keeps_use_out v x g was (Trapped trap age) is = keeps_rest v x g was (ap is_held is) trap.number
  keeps_use_out v x g was (Resting number) is = rests_keeps own v
  keeps_use_out v x g was Free is = rests_keeps own v

  keeps_out : (v : SwitchView) (x : Pmac) (o : Option Grant) → granted v x ≡ o → Keeps own v (ages_out x o v)
  keeps_out v x None is = rests_keeps own v
  keeps_out v x (Some g) is = keeps_use_out v x g is g.held refl

  keeps_all_out : (xs : List Pmac) (v : SwitchView) → Keeps own v (all_age_out xs v)
  unfolding all_age_out
  keeps_all_out [] v = rests_keeps own v
  keeps_all_out (x ∷ xs) v =
      let first : SwitchStep = ages_out x (granted v x) v in
      keeps_then own v first (all_age_out xs) (keeps_out v x (granted v x) refl) (keeps_all_out xs first.view)

  -- ---- a tick
  keeps_ages : (v : SwitchView) → Keeps own v (ages v)
  keeps_ages v =
      let probed : SwitchStep = does (with_older v) [] ▹ (λ w. does w (probes_idle w)) in
      keeps_then own v probed (λ w. all_age_out (to_rest w) w)
      (keeps_then own v (does (with_older v) []) (λ w. does w (probes_idle w)) (keeps_older v) (keeps_probes (with_older v)))
      (keeps_all_out (to_rest (with_older v)) (with_older v))

  pub keeps_tick : (v : SwitchView) → Keeps own v (ticks v)
  keeps_tick v =
      keeps_then own v (tells_neighbours v) ages (aside_keeps own v (tells_neighbours v) (tells_aside v)) (keeps_ages (tells_neighbours v).view)
