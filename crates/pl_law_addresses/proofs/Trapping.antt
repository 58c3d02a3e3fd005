-- An edge switch hears of a newer address of a host: a trap stands for the old one, which is in use no more.
use Rattle.std.proofs.Common.{◌≡◌, ◌<◌, ◌-◌, nat_lt, Bool, true, false, cond, set, List, [], length, Option, Some, None, refl, sym, ap, subst, ◌∙◌, arith}
use Rattle.std.proofs.lemmas.Bool.{cond_both}
use Rattle.std.proofs.lemmas.Option.{same_Some}
use Rattle.pl_frame.specs.declared.address.Ip4.{Ip4}
use Rattle.pl_frame.specs.declared.address.Mac.{Mac}
use Rattle.pl_pmac.specs.declared.pmac.Pmac.{Pmac}
use Rattle.pl_layouts.specs.Equality.{same_pmac}
use Rattle.pl_node.specs.AddressUses.{is_held, standing_trap}
use Rattle.pl_node.specs.declared.address_use.AddressUse.TheVariants.{Trapped}
use Rattle.pl_node.specs.declared.switch_records.Grant.{Grant}
use Rattle.pl_node.specs.declared.trap.Trap.{Trap}
use Rattle.pl_node.specs.SwitchViews.{SwitchView}
use Rattle.pl_steps.specs.Steps.{does, ◌▹◌}
use Rattle.pl_switch_rule.specs.Granting.{freed_at, granted, grants_at, held_here, unless_free, with_grants}
use Rattle.pl_switch_rule.specs.Messages.{forgets_members, invalidates, probes, sets_trap_over, with_trap}
use Rattle.pl_switch_rule.proofs.Exports.{granted_parts}
use Rattle.pl_law_addresses.specs.FreeVmids.{AreFreeVmids}
use Rattle.pl_law_addresses.specs.EdgeAddresses.{IsGoodAddressTable}
use Rattle.pl_law_addresses.proofs.Asides.{forgets_members_aside, probes_aside}
use Rattle.pl_law_addresses.proofs.FreeLists.{held_free, table_alike, table_with_grants}
use Rattle.pl_law_addresses.proofs.GrantsByNumber.{granted_within, local_settled, now_at, number_set_other, number_set_same, number_within, others_at}
use Rattle.pl_law_addresses.proofs.RowsLeaveAddresses.{Keeps, StaysTo, aside_keeps, keeps_holders, keeps_then, rests_keeps}

module _ (own : Mac → Option Ip4) (v : SwitchView) (old : Pmac) (trap : Trap) where
  -- of an address that is somebody's
  module _ (g : Grant) (was : granted v old ≡ Some g) (held : is_held g.held ≡ true) where
    abbrev standing : Grant
    standing = record g { held = Trapped trap 0 }

    abbrev list : List Grant
    list = set (grants_at v old.port) (old.vmid - 1) standing

    record IsTrappedNow : Type 0 where
      within : old.port < v.k
      now : granted (with_grants v old.port list) old ≡ Some standing
      others : (z : Pmac) → same_pmac z old ≡ false → granted (with_grants v old.port list) z ≡ granted v z
      stays : StaysTo (λ z. granted v z) old standing
      free : AreFreeVmids list (freed_at v old.port)

    trapped_now : IsGoodAddressTable own v → IsTrappedNow
    trapped_now table =
        let parts = granted_parts v old g was in
        let within : old.port < v.k = granted_within v old g was table.many in
        let many : old.port < length v.grants = subst (λ n. old.port < n) (sym table.many) within in
        let some = (number_within (grants_at v old.port) old.vmid g parts.1).0 in
        record {
          within = within;
          now = now_at v old list many parts.0 ∙ number_set_same (grants_at v old.port) old.vmid g standing parts.1;
          others = others_at v old list many parts.0 (λ n other. number_set_other (grants_at v old.port) old.vmid n standing some other);
          stays = λ h is still. (refl, ap (λ (q : Grant). q.amac) (same_Some g h (sym was ∙ is)));
          free = held_free (grants_at v old.port) (freed_at v old.port) old.vmid g standing (table.free old.port) parts.1 held refl;
        }

    keeps_trap : Keeps own v (does (with_trap v old g trap) [])
    keeps_trap = record {
      table = λ table. let it = trapped_now table in
          table_alike own (with_grants v old.port list) (with_trap v old g trap) refl refl refl refl refl
          (table_with_grants own v old.port list (local_settled v old (granted_parts v old g was).0) it.within table it.free);
      grows = λ table. let it = trapped_now table in record {
        once = λ x. omega arith;
        stays = keeps_holders (λ z. granted v z) (λ z. granted (with_grants v old.port list) z) old standing it.now it.others it.stays;
        says = tt;
        frees_none = λ x. refl;
      };
      place = refl;
      k = refl;
    }

    -- a trap with a larger number stays
    keeps_over : (o : Option Trap) → Keeps own v (does (sets_trap_over o v old g trap) [])
    keeps_over None = keeps_trap
    keeps_over (Some standing) =
        cond_both (nat_lt trap.number standing.number) v (with_trap v old g trap) (λ (w : SwitchView). Keeps own v (does w [])) (λ less. rests_keeps own v)
        (λ more. keeps_trap)

    keeps_somebodys : Keeps own v (invalidates v old trap (Some g))
    keeps_somebodys =
        let sets = does (sets_trap_over (standing_trap g.held) v old g trap) [] in
        let forgets = forgets_members old.port g.amac in
        keeps_then own v (sets ▹ forgets) (probes old g)
        (keeps_then own v sets forgets (keeps_over (standing_trap g.held))
        (aside_keeps own sets.view (forgets sets.view) (forgets_members_aside old.port g.amac sets.view)))
        (aside_keeps own (sets ▹ forgets).view (probes old g (sets ▹ forgets).view) (probes_aside old g (sets ▹ forgets).view))

  -- another one is left as it is
  pub keeps_invalidates : Keeps own v (invalidates v old trap (held_here v old))
  keeps_invalidates = by (granted v old) refl
    where
      by : (o : Option Grant) → granted v old ≡ o → Keeps own v (invalidates v old trap (unless_free o))
      by None none = rests_keeps own v
      by (Some g) was = by_use (is_held g.held) refl
        where
          by_use : (b : Bool) → is_held g.held ≡ b → Keeps own v (invalidates v old trap (cond b (Some g) None))
          by_use true held = keeps_somebodys g was held
          by_use false free = rests_keeps own v
