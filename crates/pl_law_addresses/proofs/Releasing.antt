-- An edge switch hears that an address is released: where it rests, it is free from then on.
use Rattle.std.proofs.Common.{◌≡◌, ◌≤◌, ◌<◌, ◌+◌, ◌-◌, ℕ, Bool, true, false, if◌then◌else◌, set, List, [], ◌∷◌, ◌++◌, length, Option, Some, None, refl, sym, ap, subst, ◌∙◌, inl, inr, arith}
use Rattle.std.specs.Option.{option_map}
use Rattle.pl_frame.specs.declared.address.Ip4.{Ip4}
use Rattle.pl_frame.specs.declared.address.Mac.{Mac}
use Rattle.pl_pmac.specs.declared.pmac.Pmac.{Pmac}
use Rattle.pl_layouts.specs.Equality.{same_pmac}
use Rattle.pl_layouts.proofs.Exports.{pmac_itself}
use Rattle.pl_node.specs.AddressUses.{is_held}
use Rattle.pl_node.specs.declared.acts.Act.TheVariants as act
use Rattle.pl_node.specs.declared.address_use.AddressUse.{AddressUse}
use Rattle.pl_node.specs.declared.address_use.AddressUse.TheVariants.{Free, InUse, Resting, Trapped}
use Rattle.pl_node.specs.declared.switch_records.Grant.{Grant}
use Rattle.pl_node.specs.SwitchViews.{SwitchView}
use Rattle.pl_steps.specs.Steps.{SwitchStep, does, rests}
use Rattle.pl_switch_rule.specs.Granting.{freed_at, granted, grants_at, with_grants}
use Rattle.pl_switch_rule.specs.Messages.{becomes_free, frees, frees_at}
use Rattle.pl_switch_rule.proofs.Exports.{granted_parts}
use Rattle.pl_law_addresses.specs.FreeVmids.{AreFreeVmids}
use Rattle.pl_law_addresses.specs.EdgeAddresses.{IsGoodAddressTable, is_held as is_held_there, is_live}
use Rattle.pl_law_addresses.proofs.AddressLemmas.{is_or_other}
use Rattle.pl_law_addresses.proofs.FreeLists.{freed_free, table_alike, table_with_free}
use Rattle.pl_law_addresses.proofs.GrantsByNumber.{granted_within, local_settled, now_at, number_set_other, number_set_same, number_within, others_at}
use Rattle.pl_law_addresses.proofs.RowsLeaveAddresses.{Turns, grows_turns, held_live, rests_keeps}

one_at_most : (b : Bool) → 0 + ((if b then 1 else 0) + 0) ≤ 1
one_at_most true = omega arith
one_at_most false = omega arith

module _ (own : Mac → Option Ip4) (v : SwitchView) (x : Pmac) where
  -- a step that may free an address
  pub record Frees (s : SwitchStep) : Type 0 where
    pub table : IsGoodAddressTable own v → IsGoodAddressTable own s.view
    pub turns : IsGoodAddressTable own v → Turns v s
    pub place : s.view.place ≡ v.place

  frees_none : Frees (rests v)
  frees_none = let a = rests_keeps own v in record { table = a.table; turns = λ table. grows_turns v (rests v) (a.grows table); place = a.place }

  module _ (g : Grant) (was : granted v x ≡ Some g) (number : ℕ) (at_rest : g.held ≡ Resting number) where
    abbrev freed : Grant
    freed = record g { held = Free }

    abbrev list : List Grant
    list = set (grants_at v x.port) (x.vmid - 1) freed

    record IsFreeNow : Type 0 where
      within : x.port < v.k
      now : granted (with_grants v x.port list) x ≡ Some freed
      others : (y : Pmac) → same_pmac y x ≡ false → granted (with_grants v x.port list) y ≡ granted v y
      free : AreFreeVmids list (freed_at v x.port ++ x.vmid ∷ [])

    free_now : IsGoodAddressTable own v → IsFreeNow
    free_now table =
        let parts = granted_parts v x g was in
        let within : x.port < v.k = granted_within v x g was table.many in
        let many : x.port < length v.grants = subst (λ n. x.port < n) (sym table.many) within in
        let some = (number_within (grants_at v x.port) x.vmid g parts.1).0 in
        record {
          within = within;
          now = now_at v x list many parts.0 ∙ number_set_same (grants_at v x.port) x.vmid g freed parts.1;
          others = others_at v x list many parts.0 (λ n other. number_set_other (grants_at v x.port) x.vmid n freed some other);
          free = freed_free (grants_at v x.port) (freed_at v x.port) x.vmid g freed (table.free x.port) parts.1 (ap is_held at_rest) refl;
        }

    free_turns : IsGoodAddressTable own v → Turns v (does (becomes_free v x g) (act.Free x ∷ []))
    free_turns table =
        let it = free_now table in
        let was_live : is_live v x ≡ true = held_live v x g.amac (record { grant = g; found = was; held = ap is_held at_rest; to = refl }) in
        record {
          once = λ y. one_at_most (same_pmac x y);
          stays = λ y mac none h. elim (is_or_other y x) [
            | inl same ↦
                let one : (if same_pmac x y then 1 else 0) + 0 ≡ 1 + 0 = ap (λ b. (if b then 1 else 0) + 0) (ap (same_pmac x) same ∙ pmac_itself x) in
                absurd (omega (arith, one, none))
            | inr other ↦ record { grant = h.grant; found = it.others y other ∙ h.found; held = h.held; to = h.to }
          ];
          says = ((was_live, ap (λ (o : Option Grant). is_held_there (option_map (λ (h : Grant). h.held) o)) it.now), tt);
        }

    frees_it : Frees (does (becomes_free v x g) (act.Free x ∷ []))
    frees_it = record {
      table = λ table. let it = free_now table in
          table_alike own (record (with_grants v x.port list) { freed = set v.freed x.port (freed_at v x.port ++ x.vmid ∷ []) }) (becomes_free v x g)
          refl refl refl refl refl
          (table_with_free own v x.port list (local_settled v x (granted_parts v x g was).0) it.within table (freed_at v x.port ++ x.vmid ∷ []) it.free);
      turns = free_turns;
      place = refl;
    }

  frees_use : (g : Grant) → granted v x ≡ Some g → (h : AddressUse) → g.held ≡ h → Frees (frees_at v x g h)
  frees_use g was (Resting number) is = frees_it g was number is
  frees_use g was (InUse idle) is = frees_none
  frees_use g was (Trapped trap age) is = frees_none
  frees_use g was Free is = frees_none

  pub release_frees : Frees (frees v x (granted v x))
  release_frees = by (granted v x) refl
    where
      by : (o : Option Grant) → granted v x ≡ o → Frees (frees v x o)
      by None none = frees_none
      by (Some g) was = frees_use g was g.held refl
