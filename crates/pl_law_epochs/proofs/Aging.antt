-- A tick makes the addresses of an edge switch older, and some rest from then on.
use Rattle.std.proofs.Common.{◌≡◌, ◌<◌, ◌-◌, ℕ, true, false, set, List, [], ◌∷◌, ◌++◌, length, map, Option, Some, None, refl, sym, ap, subst, ◌∙◌, append-nil}
use Rattle.std.specs.Option.{option_map}
use Rattle.std.proofs.lemmas.Bool.{false≢true}
use Rattle.std.proofs.lemmas.List.{length-map}
use Rattle.std.proofs.lemmas.Option.{none-some, same_Some}
use Rattle.pl_frame.specs.declared.address.Ip4.{Ip4}
use Rattle.pl_frame.specs.declared.address.Mac.{Mac}
use Rattle.pl_frame.specs.declared.address.SwitchId.{SwitchId}
use Rattle.pl_pmac.specs.declared.pmac.Pmac.{Pmac}
use Rattle.pl_layouts.specs.Equality.{same_pmac}
use Rattle.pl_node.specs.AddressUses.{is_held, standing_trap}
use Rattle.pl_node.specs.declared.address_use.AddressUse.{AddressUse}
use Rattle.pl_node.specs.declared.address_use.AddressUse.TheVariants.{Free, InUse, Resting, Trapped}
use Rattle.pl_node.specs.declared.messages.ToManager.{ToManager}
use Rattle.pl_node.specs.declared.messages.ToManager.TheVariants as tell
use Rattle.pl_node.specs.declared.messages.ToSwitch.{ToSwitch}
use Rattle.pl_node.specs.declared.switch_records.Grant.{Grant}
use Rattle.pl_node.specs.SwitchViews.{SwitchView}
use Rattle.pl_steps.specs.Steps.{SwitchStep, does, ◌▹◌}
use Rattle.pl_switch_rule.specs.Aging.{ages, ages_out, ages_out_of, all_age_out, comes_to_rest, older, older_grant, probes_idle, to_rest, with_older}
use Rattle.pl_switch_rule.specs.Announcing.{tells_neighbours, ticks}
use Rattle.pl_switch_rule.specs.Granting.{freed_at, granted, grants_at, is_local, with_grants}
use Rattle.pl_switch_rule.proofs.Exports.{granted_parts, older_at}
use Rattle.pl_law_addresses.specs.FreeVmids.{AreFreeVmids}
use Rattle.pl_law_addresses.specs.EdgeAddresses.{IsGoodAddressTable, KeepsHolders, edge_of}
use Rattle.pl_law_addresses.proofs.Exports.{granted_older, granted_within, held_free, held_still, local_settled, now_at, number_set_other, number_set_same, number_within, older_vmids, other_turned, others_at, probes_are_aside, StaysTo, table_alike, table_with_grants, tells_aside, trap_still, use_still, younger}
use Rattle.pl_law_epochs.specs.Edges.{IsGoodGrant, Registry, is_unheard, tenure_at}
use Rattle.pl_law_epochs.specs.Situations.{IsIn}
use Rattle.pl_law_epochs.specs.Tenures.{Tenure, use_of}
use Rattle.pl_law_epochs.specs.Tenures.Said.{Ages}
use Rattle.pl_law_epochs.specs.Tenures.Use.{Rests}
use Rattle.pl_law_epochs.proofs.Changing.{changed, orders_kept, words_kept}
use Rattle.pl_law_epochs.proofs.Lives.{ends, rests as comes_to_use_end}
use Rattle.pl_law_epochs.proofs.Moves.{Moves, moves_one}
use Rattle.pl_law_epochs.proofs.Rows.{Good, Keeps, aside_keeps, keeps_then, rests_keeps}
use Rattle.pl_law_epochs.proofs.Staying.{aged_here, aged_there, situation_now}

-- what an older address is used for it was used for before
use_older : (h : AddressUse) → use_of (Some h) ≡ use_of (Some (older h))
use_older (InUse idle) = refl
use_older (Trapped trap age) = refl
use_older (Resting number) = refl
use_older Free = refl

use_mapped : (o : Option Grant) → use_of (option_map (λ (g : Grant). g.held) o) ≡ use_of (option_map (λ (g : Grant). g.held) (option_map older_grant o))
use_mapped None = refl
use_mapped (Some g) = use_older g.held

module _ (own : Mac → Option Ip4) (r : Registry) (id : Option SwitchId) (down : List ToSwitch) where
  older_holders : (v : SwitchView) → KeepsHolders (λ x. granted v x) (λ x. granted (with_older v) x)
  older_holders v x mac h = record {
    grant = older_grant h.grant;
    found = granted_older v x ∙ ap (option_map older_grant) h.found;
    held = held_still h.grant.held ∙ h.held;
    to = h.to;
  }

  older_good : (v : SwitchView) (up : List ToManager) → Good own r id down v up → Good own r id down (with_older v) up
  older_good v up good = record {
    edge = record {
      placed = λ x g is. let was = younger (granted v x) g (sym (granted_older v x) ∙ is) in good.edge.placed x was.grant was.found;
      grants = λ x g is.
          let was = younger (granted v x) g (sym (granted_older v x) ∙ is) in
          let it = good.edge.grants x was.grant was.found in
          subst (λ (q : Grant). IsGoodGrant own r (is_unheard down) up x q) was.same (record {
            own_ip = it.own_ip;
            told_ip = λ loud used ip has. it.told_ip loud (sym (use_still was.grant.held) ∙ used) ip has;
            trap_ip = λ trap set. it.trap_ip trap (sym (trap_still was.grant.held) ∙ set);
          });
      situations = λ x at.
          let e = edge_of id v up down in
          let same : use_of (option_map (λ (g : Grant). g.held) (granted v x)) ≡ use_of (option_map (λ (g : Grant). g.held) (granted (with_older v) x)) =
          use_mapped (granted v x) ∙ sym (ap (λ (o : Option Grant). use_of (option_map (λ (g : Grant). g.held) o)) (granted_older v x)) in
          subst (λ k. IsIn r.later (record (tenure_at r e x) { use_is = k })) same (good.edge.situations x at);
      words = words_kept own (λ x. granted v x) (λ x. granted (with_older v) x) (older_holders v) up good.edge.words;
      orders = orders_kept own (λ x. granted v x) (λ x. granted (with_older v) x) (older_holders v) down good.edge.orders;
      unheard = good.edge.unheard;
      tellers = good.edge.tellers;
      here = λ x reg is at. let h = good.edge.here x reg is at in record { too = h.too; granted_to = older_holders v x reg.amac h.granted_to };
    };
    address_table = record {
      many = length-map v.grants (map older_grant) ∙ good.address_table.many;
      many_freed = good.address_table.many_freed;
      empty = λ unsettled port. older_at v.grants port ∙ ap (map older_grant) (good.address_table.empty unsettled port);
      free = λ port. older_vmids v port (good.address_table.free port);
      sources = good.address_table.sources;
    };
  }

  older_moves : (v : SwitchView) → Moves (λ x. granted v x) (λ x. granted (with_older v) x)
  older_moves v = record {
    holders = older_holders v;
    stood = λ x h trap found set.
        let was = younger (granted v x) h (sym (granted_older v x) ∙ found) in
        record {
          grant = was.grant;
          found = was.found;
          set = sym (trap_still was.grant.held) ∙ ap (λ (q : Grant). standing_trap q.held) was.same ∙ set;
          to = ap (λ (q : Grant). q.amac) was.same;
        };
  }

  keeps_older : (v : SwitchView) → Keeps own r id down v (does (with_older v) [])
  keeps_older v = record {
    good = λ up good. subst (λ (ts : List ToManager). Good own r id down (with_older v) ts) (sym (append-nil up)) (older_good v up good);
    place = refl;
    k = refl;
    moves = λ up good. older_moves v;
  }

  keeps_probes : (v : SwitchView) → Keeps own r id down v (does v (probes_idle v))
  keeps_probes v = aside_keeps own r id down v (does v (probes_idle v)) (probes_are_aside v)

  -- ---- one rests
  module _ (v : SwitchView) (x : Pmac) (g : Grant) (was : granted v x ≡ Some g) (held : is_held g.held ≡ true) (number : ℕ)
      (rests_now : (t : Tenure) → IsIn r.later t → t.use_is ≡ use_of (Some g.held) → IsIn r.later (record t { use_is = Rests number; due = t.due ++ Ages number ∷ [] })) where
    abbrev resting : Grant
    resting = record g { held = Resting number }

    abbrev list : List Grant
    list = set (grants_at v x.port) (x.vmid - 1) resting

    record IsRestingNow : Type 0 where
      within : x.port < v.k
      here : is_local v x ≡ true
      now : granted (with_grants v x.port list) x ≡ Some resting
      others : (y : Pmac) → same_pmac y x ≡ false → granted (with_grants v x.port list) y ≡ granted v y
      stays : StaysTo (λ y. granted v y) x resting
      free : AreFreeVmids list (freed_at v x.port)

    resting_now : IsGoodAddressTable own v → IsRestingNow
    resting_now table =
        let parts = granted_parts v x g was in
        let within : x.port < v.k = granted_within v x g was table.many in
        let many : x.port < length v.grants = subst (λ n. x.port < n) (sym table.many) within in
        let some = (number_within (grants_at v x.port) x.vmid g parts.1).0 in
        record {
          within = within;
          here = parts.0;
          now = now_at v x list many parts.0 ∙ number_set_same (grants_at v x.port) x.vmid g resting parts.1;
          others = others_at v x list many parts.0 (λ n other. number_set_other (grants_at v x.port) x.vmid n resting some other);
          stays = λ h is still. (refl, ap (λ (q : Grant). q.amac) (same_Some g h (sym was ∙ is)));
          free = held_free (grants_at v x.port) (freed_at v x.port) x.vmid g resting (table.free x.port) parts.1 held refl;
        }

    rest_good : (up : List ToManager) → Good own r id down v up → Good own r id down (comes_to_rest v x g number).view (up ++ tell.Aged x number ∷ [])
    rest_good up good =
        let it = resting_now good.address_table in
        let e = edge_of id v up down in
        let before = good.edge.grants x g was in
        record {
          edge = changed own r e good.edge x resting (λ y. granted (with_grants v x.port list) y) (tell.Aged x number ∷ []) down it.here it.now it.others refl it.stays
              ((g.amac, record { grant = resting; found = it.now; held = refl; to = refl }), tt)
              good.edge.orders (λ y other. ap (λ ws. ws ++ []) (aged_there x y number (other_turned y x other))) (λ y other. refl)
              (record { own_ip = before.own_ip; told_ip = λ loud used ip is. absurd (false≢true used); trap_ip = λ trap is. absurd (none-some trap is) })
              (situation_now r e x resting (λ y. granted (with_grants v x.port list) y) (tell.Aged x number ∷ []) (Ages number ∷ []) it.now (ap (λ ws. ws ++ []) (aged_here x number))
              (rests_now (tenure_at r e x) (good.edge.situations x it.here) (ap (λ (o : Option Grant). use_of (option_map (λ (h : Grant). h.held) o)) was)));
          address_table = table_alike own (with_grants v x.port list) (comes_to_rest v x g number).view refl refl refl refl refl
              (table_with_grants own v x.port list (local_settled v x it.here) it.within good.address_table it.free);
        }

    keeps_rest : Keeps own r id down v (comes_to_rest v x g number)
    keeps_rest = record {
      good = λ up good. rest_good up good;
      place = refl;
      k = refl;
      moves = λ up good.
          let it = resting_now good.address_table in
          moves_one (λ y. granted v y) (λ y. granted (with_grants v x.port list) y) x resting it.now it.others it.stays refl;
    }

  keeps_use_out : (v : SwitchView) (x : Pmac) (g : Grant) → granted v x ≡ Some g → (h : AddressUse) → g.held ≡ h → Keeps own r id down v (ages_out_of v x g h)
  keeps_use_out v x g was (InUse idle) is =
      keeps_rest v x g was (ap is_held is) 0 (λ t at used. comes_to_use_end r.later t at (used ∙ ap (λ (h : AddressUse). use_of (Some h)) is))
  keeps_use_out v x g was (Trapped trap age) is =
      keeps_rest v x g was (ap is_held is) trap.number
      (λ t at led. ends r.later t at (record { new = trap.new; number = trap.number }) (led ∙ ap (λ (h : AddressUse). use_of (Some h)) is))
  keeps_use_out v x g was (Resting number) is = rests_keeps own r id down v
  keeps_use_out v x g was Free is = rests_keeps own r id down v

  keeps_out : (v : SwitchView) (x : Pmac) (o : Option Grant) → granted v x ≡ o → Keeps own r id down v (ages_out x o v)
  keeps_out v x None is = rests_keeps own r id down v
  keeps_out v x (Some g) is = keeps_use_out v x g is g.held refl

  keeps_all_out : (xs : List Pmac) (v : SwitchView) → Keeps own r id down v (all_age_out xs v)
  unfolding all_age_out
  keeps_all_out [] v = rests_keeps own r id down v
  keeps_all_out (x ∷ xs) v =
      let first : SwitchStep = ages_out x (granted v x) v in
      keeps_then own r id down v first (all_age_out xs) (keeps_out v x (granted v x) refl) (keeps_all_out xs first.view)

  -- ---- a tick
  keeps_ages : (v : SwitchView) → Keeps own r id down v (ages v)
  keeps_ages v =
      let probed : SwitchStep = does (with_older v) [] ▹ (λ w. does w (probes_idle w)) in
      keeps_then own r id down v probed (λ w. all_age_out (to_rest w) w)
      (keeps_then own r id down v (does (with_older v) []) (λ w. does w (probes_idle w)) (keeps_older v) (keeps_probes (with_older v)))
      (keeps_all_out (to_rest (with_older v)) (with_older v))

  pub keeps_tick : (v : SwitchView) → Keeps own r id down v (ticks v)
  keeps_tick v =
      keeps_then own r id down v (tells_neighbours v) ages (aside_keeps own r id down v (tells_neighbours v) (tells_aside v)) (keeps_ages (tells_neighbours v).view)
