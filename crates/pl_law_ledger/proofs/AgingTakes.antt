-- A tick grants no address, and frees none.
use Rattle.std.proofs.Common.{◌≡◌, ◌≤◌, ℕ, true, List, [], ◌∷◌, length, map, Option, Some, None, refl, sym, ap, subst, ◌∙◌}
use Rattle.std.specs.Option.{option_map}
use Rattle.std.proofs.lemmas.List.{length-map}
use Rattle.pl_frame.specs.declared.address.Mac.{Mac}
use Rattle.pl_pmac.specs.declared.pmac.Pmac.{Pmac}
use Rattle.pl_node.specs.AddressUses.{is_held, is_in_use}
use Rattle.pl_node.specs.declared.acts.Act.TheVariants as act
use Rattle.pl_node.specs.declared.address_use.AddressUse.{AddressUse}
use Rattle.pl_node.specs.declared.address_use.AddressUse.TheVariants.{Free, InUse, Resting, Trapped}
use Rattle.pl_node.specs.declared.messages.ToManager.TheVariants as tell
use Rattle.pl_node.specs.declared.switch_records.Grant.{Grant}
use Rattle.pl_node.specs.SwitchViews.{SwitchView}
use Rattle.pl_steps.specs.Steps.{SwitchStep, does, rests, ◌▹◌}
use Rattle.pl_switch_rule.specs.Aging.{ages, ages_out, ages_out_of, all_age_out, comes_to_rest, older_grant, probes_idle, to_rest, with_older}
use Rattle.pl_switch_rule.specs.Announcing.{tells_neighbours, ticks}
use Rattle.pl_switch_rule.specs.Granting.{granted, grants_at}
use Rattle.pl_switch_rule.proofs.Exports.{granted_parts, older_at}
use Rattle.pl_law_addresses.proofs.Exports.{aside_does, granted_older, granted_within, held_still, local_settled, older_vmids, probes_are_aside, tells_aside, use_still, younger}
use Rattle.pl_law_ledger.proofs.Takes.{IsListed, Quiets, quiets_aside, quiets_then, unused_quiets}

module _ (P : ℕ → Mac → Type 0) where
  rests_quiets : (v : SwitchView) → IsListed v → Quiets P v (rests v)
  rests_quiets v listed = quiets_aside P v (rests v) listed (aside_does v [] tt)

  -- all are older
  older_quiets : (v : SwitchView) → IsListed v → Quiets P v (does (with_older v) [])
  older_quiets v listed = record {
    covers = λ x g is.
        let was = younger (granted v x) g (sym (granted_older v x) ∙ is) in
        record {
          grant = was.grant;
          found = was.found;
          to = ap (λ (q : Grant). q.amac) was.same;
          held = sym (held_still was.grant.held) ∙ ap (λ (q : Grant). is_held q.held) was.same;
        };
    there = λ x g is. (older_grant g, granted_older v x ∙ ap (option_map older_grant) is);
    frees_none = tt;
    none = refl;
    listed = record {
      many = length-map v.grants (map older_grant) ∙ listed.many;
      many_freed = listed.many_freed;
      empty = λ unsettled port. older_at v.grants port ∙ ap (map older_grant) (listed.empty unsettled port);
      free = λ port. older_vmids v port (listed.free port);
    };
    few = λ few port.
        subst (λ n. n ≤ 65535) (sym (ap (λ (gs : List Grant). length gs) (older_at v.grants port) ∙ length-map (grants_at v port) older_grant)) (few port);
    remembered = refl;
    used = λ x mac h.
        let was = younger (granted v x) h.grant (sym (granted_older v x) ∙ h.found) in
        record {
          grant = was.grant;
          found = was.found;
          used = sym (use_still was.grant.held) ∙ ap (λ (q : Grant). is_in_use q.held) was.same ∙ h.used;
          to = ap (λ (q : Grant). q.amac) was.same ∙ h.to;
        };
  }

  -- one rests
  rest_quiets : (v : SwitchView) → IsListed v → (x : Pmac) (g : Grant) (number : ℕ) → granted v x ≡ Some g → is_held g.held ≡ true →
      Quiets P v (comes_to_rest v x g number)
  rest_quiets v listed x g number was held =
      let here = (granted_parts v x g was).0 in
      unused_quiets P v x g (record g { held = Resting number }) here (local_settled v x here)
      (granted_within v x g was listed.many) was refl held refl refl listed
      (comes_to_rest v x g number).view (act.Tell (tell.Aged x number) ∷ []) refl refl (tt, tt)

  use_quiets : (v : SwitchView) → IsListed v → (x : Pmac) (g : Grant) → granted v x ≡ Some g → (h : AddressUse) → g.held ≡ h → Quiets P v (ages_out_of v x g h)
  use_quiets v listed x g was (InUse idle) is = rest_quiets v listed x g 0 was (ap is_held is)
  use_quiets v listed x g was (Trapped trap age) is = rest_quiets v listed x g trap.number was (ap is_held is)
  use_quiets v listed x g was (Resting number) is = rests_quiets v listed
  use_quiets v listed x g was Free is = rests_quiets v listed

  out_quiets : (v : SwitchView) → IsListed v → (x : Pmac) (o : Option Grant) → granted v x ≡ o → Quiets P v (ages_out x o v)
  out_quiets v listed x None is = rests_quiets v listed
  out_quiets v listed x (Some g) is = use_quiets v listed x g is g.held refl

  all_quiets : (xs : List Pmac) (v : SwitchView) → IsListed v → Quiets P v (all_age_out xs v)
  unfolding all_age_out
  all_quiets [] v listed = rests_quiets v listed
  all_quiets (x ∷ xs) v listed =
      let first : SwitchStep = ages_out x (granted v x) v in
      let a = out_quiets v listed x (granted v x) refl in
      quiets_then P v first (all_age_out xs) a (all_quiets xs first.view a.listed)

  pub tick_quiets : (v : SwitchView) → IsListed v → Quiets P v (ticks v)
  tick_quiets v listed =
      let told = quiets_aside P v (tells_neighbours v) listed (tells_aside v) in
      let u : SwitchView = (tells_neighbours v).view in
      let older = older_quiets u told.listed in
      let w : SwitchView = with_older u in
      let probed = quiets_then P u (does w []) (λ z. does z (probes_idle z)) older
      (quiets_aside P w (does w (probes_idle w)) older.listed (probes_are_aside w)) in
      quiets_then P v (tells_neighbours v) ages told
      (quiets_then P u (does w [] ▹ (λ z. does z (probes_idle z))) (λ z. all_age_out (to_rest z) z) probed (all_quiets (to_rest w) w probed.listed))
