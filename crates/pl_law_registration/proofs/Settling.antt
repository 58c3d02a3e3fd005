-- An edge switch that becomes placed serves the hosts that it remembers, and one that was placed before serves whom it served.
use Rattle.std.proofs.Common.{◌≡◌, ◌≢◌, ◌≤◌, ◌<◌, ◌+◌, ◌-◌, ◌&&◌, ℕ, zero, suc, not, Bool, true, false, get_or, set, List, [], ◌∷◌, length, Option, Some, None, is_some, slice_get, refl, sym, ap, subst, ◌∙◌, inl, inr, arith, length-set}
use Rattle.std.specs.List.{range_with_len}
use Rattle.std.proofs.lemmas.Bool.{and_from, and_parts, cases_Bool, cases_eq, cases_lt, cond_both, false≢true}
use Rattle.pl_frame.specs.declared.address.Ip4.{Ip4}
use Rattle.pl_frame.specs.declared.address.Mac.{Mac}
use Rattle.pl_arp.specs.declared.cache.Me.{Me}
use Rattle.pl_pmac.specs.declared.pmac.Pmac.{Pmac}
use Rattle.pl_node.specs.declared.address_use.AddressUse.TheVariants.{InUse}
use Rattle.pl_layouts.specs.declared.place.Place.{Place}
use Rattle.pl_layouts.specs.Placement.{is_known, is_placed}
use Rattle.pl_node.specs.declared.acts.Act.TheVariants as act
use Rattle.pl_node.specs.declared.messages.ToManager.TheVariants as tell
use Rattle.pl_node.specs.declared.switch_records.Grant.{Grant}
use Rattle.pl_node.specs.declared.switch_records.Source.{Source}
use Rattle.pl_node.specs.PortRecords.{ports_of_switch}
use Rattle.pl_node.specs.SwitchViews.{SwitchView}
use Rattle.pl_steps.specs.Steps.{SwitchStep, rests, ◌▹◌}
use Rattle.pl_switch_rule.specs.Granting.{address_at_port, all_but_first, forgets, freed_at, grant_number, grants_at, grants_next, grants_or_learns, grants_remembered, grants_source, in_use, learns_ip, new_grant, next_vmid, remembered_at, uses, with_next}
use Rattle.pl_switch_rule.specs.Levels.{changes_to, has_become_placed}
use Rattle.pl_law_addresses.specs.EdgeAddresses.{is_settled}
use Rattle.pl_law_addresses.proofs.Exports.{IsPlacing, number_one_more}
use Rattle.pl_law_registration.proofs.FirstUses.{AreGiven, IsGiven, all_given, given_push}
use Rattle.pl_law_registration.proofs.Sources.{HasPort, IsLow, IsSameAt, KnowsAt, ServesIfRoom, by_source, low_placed, mine, one_elsewhere, same_knows, same_port, same_self, same_then}
use Rattle.pl_layouts.specs.Equality.{is_ip}

-- ---- what a part leaves of a switch, whatever it learns
pub record IsAlike (v w : SwitchView) : Type 0 where
  pub place : w.place ≡ v.place
  pub k : w.k ≡ v.k
  pub many : length w.grants ≡ length v.grants
  pub many_remembered : length w.remembered ≡ length v.remembered
  pub given : (port : ℕ) → AreGiven (grants_at v port) (freed_at v port) → AreGiven (grants_at w port) (freed_at w port)

alike_self : (v : SwitchView) → IsAlike v v
alike_self v = record { place = refl; k = refl; many = refl; many_remembered = refl; given = λ port given. given }

alike_then : (u v w : SwitchView) → IsAlike u v → IsAlike v w → IsAlike u w
alike_then u v w a b = record {
  place = b.place ∙ a.place;
  k = b.k ∙ a.k;
  many = b.many ∙ a.many;
  many_remembered = b.many_remembered ∙ a.many_remembered;
  given = λ port given. b.given port (a.given port given);
}

-- what is found where something may have been put
pub put_list : {X : Type 0} (P : List X → Type 0) (xs : List (List X)) (q port : ℕ) (ys : List X) → P (get_or xs port []) → (q ≡ port → P ys) → P (get_or (set xs q ys) port [])
put_list P [] q port ys old new = old
put_list P (x ∷ xs) zero zero ys old new = new refl
put_list P (x ∷ xs) zero (suc port) ys old new = old
put_list P (x ∷ xs) (suc q) zero ys old new = old
put_list P (x ∷ xs) (suc q) (suc port) ys old new = put_list P xs q port ys old (λ e. new (ap suc e))

set_given : (gs : List Grant) (n : ℕ) (g : Grant) (vmid : ℕ) → IsGiven gs vmid → IsGiven (set gs n g) vmid
set_given gs n g zero is = is
set_given gs n g (suc vmid) is =
    ap is_some (number_one_more (set gs n g) vmid) ∙ found gs n vmid (sym (ap is_some (number_one_more gs vmid)) ∙ is)
  where
    found : (ys : List Grant) (i j : ℕ) → is_some (slice_get ys j) ≡ true → is_some (slice_get (set ys i g) j) ≡ true
    found [] i j h = h
    found (y ∷ ys) zero zero h = refl
    found (y ∷ ys) zero (suc j) h = h
    found (y ∷ ys) (suc i) zero h = h
    found (y ∷ ys) (suc i) (suc j) h = found ys i j h

use_given : (v : SwitchView) (q n : ℕ) (g : Grant) (port : ℕ) → AreGiven (grants_at v port) (freed_at v port) → AreGiven (get_or (set v.grants q (set (grants_at v q) n g)) port []) (freed_at v port)
use_given v q n g port given =
    put_list (λ (gs : List Grant). AreGiven gs (freed_at v port)) v.grants q port (set (grants_at v q) n g) given
    (λ same. all_given (grants_at v port) (set (grants_at v q) n g) (freed_at v port)
    (λ vmid is. set_given (grants_at v q) n g vmid (subst (λ (p : ℕ). IsGiven (grants_at v p) vmid) (sym same) is)) given)

next_given : (freed : List ℕ) (gs : List Grant) (g : Grant) (vmid : ℕ) → IsGiven gs vmid → IsGiven (with_next freed gs g) vmid
next_given (n ∷ freed) gs g vmid is = set_given gs (n - 1) g vmid is
next_given [] gs g vmid is = given_push gs g vmid is

rest_given : (gs : List Grant) (freed : List ℕ) → AreGiven gs freed → AreGiven gs (all_but_first freed)
rest_given gs [] given = tt
rest_given gs (vmid ∷ freed) given = given.1

alike_use : (v : SwitchView) (q vmid : ℕ) (g : Grant) → IsAlike v (uses v (address_at_port v q vmid) g)
alike_use v q vmid g = record {
  place = refl;
  k = refl;
  many = length-set v.grants q (set (grants_at v q) (vmid - 1) (record g { held = InUse 0 }));
  many_remembered = refl;
  given = use_given v q (vmid - 1) (record g { held = InUse 0 });
}

alike_ip : (v : SwitchView) (q vmid : ℕ) (o : Option Grant) (ip : Option Ip4) → IsAlike v (learns_ip v (address_at_port v q vmid) o ip).view
alike_ip v q vmid None ip = alike_self v
alike_ip v q vmid (Some g) None = alike_use v q vmid g
alike_ip v q vmid (Some g) (Some ip) =
    let x : Pmac = address_at_port v q vmid in
    cond_both (is_ip g.ip ip) (rests (uses v x g)) (record { view = uses v x (record g { ip = Some ip }); acts = act.Tell (tell.Learned x g.amac (Some ip)) ∷ [] })
    (λ (s : SwitchStep). IsAlike v s.view) (λ h. alike_use v q vmid g) (λ h. alike_use v q vmid (record g { ip = Some ip }))

alike_next : (v : SwitchView) (q : ℕ) (mac : Mac) (ip : Option Ip4) (o : Option ℕ) → IsAlike v (grants_next v q mac ip o).view
alike_next v q mac ip None = alike_self v
alike_next v q mac ip (Some vmid) =
    let new : List Grant = with_next (freed_at v q) (grants_at v q) (new_grant mac ip) in
    let w : SwitchView = (grants_next v q mac ip (Some vmid)).view in
    record {
      place = refl;
      k = refl;
      many = length-set v.grants q new;
      many_remembered = refl;
      given = λ port given.
          let grown : AreGiven (grants_at w port) (freed_at v port) =
          put_list (λ (gs : List Grant). AreGiven gs (freed_at v port)) v.grants q port new given
          (λ same. all_given (grants_at v port) new (freed_at v port)
          (λ n is. next_given (freed_at v q) (grants_at v q) (new_grant mac ip) n (subst (λ (p : ℕ). IsGiven (grants_at v p) n) (sym same) is)) given) in
          put_list (λ (fs : List ℕ). AreGiven (grants_at w port) fs) v.freed q port (all_but_first (freed_at v q)) grown
          (λ same. rest_given (grants_at w port) (freed_at v q) (subst (λ (p : ℕ). AreGiven (grants_at w port) (freed_at v p)) (sym same) grown));
    }

alike_mac : (v : SwitchView) (q : ℕ) (mac : Mac) (ip : Option Ip4) (o : Option ℕ) → IsAlike v (grants_or_learns v q mac ip o).view
alike_mac v q mac ip (Some vmid) = alike_ip v q vmid (grant_number (grants_at v q) vmid) ip
alike_mac v q mac ip None = alike_next v q mac ip (next_vmid (freed_at v q) (grants_at v q))

alike_source : (v : SwitchView) (q : ℕ) (o : Option Source) → IsAlike v (grants_source v q o).view
alike_source v q None = alike_self v
alike_source v q (Some s) = alike_mac v q s.amac s.ip (in_use (grants_at v q) s.amac)

alike_one : (v : SwitchView) (q : ℕ) → IsAlike v (grants_source v q (remembered_at v q) ▹ forgets q).view
alike_one v q =
    let w = (grants_source v q (remembered_at v q)).view in
    alike_then v w (forgets q w).view (alike_source v q (remembered_at v q))
    (record { place = refl; k = refl; many = refl; many_remembered = length-set w.remembered q None; given = λ port given. given })

alike_remembered : (ports : List ℕ) (v : SwitchView) → IsAlike v (grants_remembered ports v).view
unfolding grants_remembered
alike_remembered [] v = alike_self v
alike_remembered (q ∷ ports) v =
    let w = (grants_source v q (remembered_at v q) ▹ forgets q).view in
    alike_then v w (grants_remembered ports w).view (alike_one v q) (alike_remembered ports w)

pub alike_changes : (v w : SwitchView) → IsAlike w (changes_to v w).view
alike_changes v w =
    cond_both (has_become_placed v.place w.place) (grants_remembered (ports_of_switch w.k) w) (rests w) (λ (s : SwitchStep). IsAlike w s.view)
    (λ h. alike_remembered (ports_of_switch w.k) w) (λ h. alike_self w)

-- ---- the port of a host among those that are gone through
module _ (me : Me) (port : ℕ) where
  behind_it : (n i : ℕ) (v : SwitchView) → port < i → IsSameAt port v (grants_remembered (range_with_len i n) v).view
  unfolding grants_remembered
  behind_it zero i v past = same_self port v
  behind_it (suc n) i v past =
      let w = (grants_source v i (remembered_at v i) ▹ forgets i).view in
      same_then port v w (grants_remembered (range_with_len (i + 1) n) w).view (one_elsewhere port i (λ same. omega (arith, past, same)) v)
      (behind_it n (i + 1) w (omega (arith, past)))

  at_it : (v : SwitchView) → HasPort v port → remembered_at v port ≡ Some (mine me) → ServesIfRoom me 0 (grants_at (grants_source v port (remembered_at v port) ▹ forgets port).view port)
  at_it v has is =
      subst (λ (o : Option Source). ServesIfRoom me 0 (grants_at (grants_source v port o ▹ forgets port).view port)) (sym is)
      (by_source me v port has 0 (Some me.ip) (inl refl)).serves

  up_to_it : (n i : ℕ) (v : SwitchView) → i ≤ port → port < i + n → HasPort v port → remembered_at v port ≡ Some (mine me) →
      ServesIfRoom me 0 (grants_at (grants_remembered (range_with_len i n) v).view port)
  unfolding grants_remembered
  up_to_it zero i v low high has is = absurd (omega (arith, low, high))
  up_to_it (suc n) i v low high has is = elim (cases_eq port i) [
    | inl same ↦
        let w = (grants_source v i (remembered_at v i) ▹ forgets i).view in
        subst (λ (gs : List Grant). ServesIfRoom me 0 gs) (sym (behind_it n (i + 1) w (omega (arith, same))).grants)
        (subst (λ (q : ℕ). ServesIfRoom me 0 (grants_at (grants_source v q (remembered_at v q) ▹ forgets q).view port)) same (at_it v has is))
    | inr other ↦
        let w = (grants_source v i (remembered_at v i) ▹ forgets i).view in
        let one = one_elsewhere port i other v in
        up_to_it n (i + 1) w (above low (λ e. other (sym e))) (omega (arith, high)) (same_port port v w one has) (one.remembered ∙ is)
  ]
    where
      above : {a b : ℕ} → a ≤ b → a ≢ b → a + 1 ≤ b
      above {a} {b} le ne = elim (cases_lt a b) [ inl less ↦ omega (arith, less) | inr no_less ↦ absurd (ne (omega (arith, le, no_less))) ]

  -- ---- the place changes
  placing_knows : (ticks : ℕ) (v w : SwitchView) → IsPlacing v w → w.place ≡ v.place → KnowsAt me ticks v port → KnowsAt me ticks w port
  placing_knows ticks v w p place knows =
      same_knows me ticks port v w (record {
        place = place;
        grants = ap (λ (gs : List (List Grant)). get_or gs port []) p.grants;
        freed = ap (λ (fs : List (List ℕ)). get_or fs port []) p.freed;
        remembered = ap (λ (rs : List (Option Source)). get_or rs port None) p.remembered;
        many = ap (λ (gs : List (List Grant)). length gs) p.grants;
        many_remembered = ap (λ (rs : List (Option Source)). length rs) p.remembered;
      }) knows

  not_of : (b : Bool) → b ≡ false → not b ≡ true
  not_of true h = absurd (false≢true (sym h))
  not_of false h = refl

  turned : (b : Bool) → not b ≡ true → b ≡ true → ⊥
  turned true h is = false≢true h
  turned false h is = false≢true is

  -- it was used so many ticks ago at most
  serves_within : (ticks : ℕ) (gs : List Grant) → ServesIfRoom me 0 gs → ServesIfRoom me ticks gs
  serves_within ticks gs serves room = let s = serves room in record {
    vmid = s.vmid;
    grant = s.grant;
    idle = s.idle;
    its = s.its;
    found = s.found;
    used = s.used;
    young = let low = s.young in omega (arith, low);
    mac = s.mac;
    ip = s.ip;
  }

  pub changed_port : (v w : SwitchView) → IsAlike v w → HasPort v port → HasPort w port
  changed_port v w same has = record {
    grants = subst (λ n. port < n) (sym same.many) has.grants;
    remembered = subst (λ n. port < n) (sym same.many_remembered) has.remembered;
    free = same.given port has.free;
  }

  pub placing_port : (v w : SwitchView) → IsPlacing v w → HasPort v port → HasPort w port
  placing_port v w p has = record {
    grants = subst (λ n. port < n) (sym (ap (λ (gs : List (List Grant)). length gs) p.grants)) has.grants;
    remembered = subst (λ n. port < n) (sym (ap (λ (rs : List (Option Source)). length rs) p.remembered)) has.remembered;
    free = subst (λ (fs : List ℕ). AreGiven (grants_at w port) fs) (ap (λ (fs : List (List ℕ)). get_or fs port []) (sym p.freed))
        (subst (λ (gs : List Grant). AreGiven gs (freed_at v port)) (ap (λ (gs : List (List Grant)). get_or gs port []) (sym p.grants)) has.free);
  }

  pub changes_know : (v w : SwitchView) → IsPlacing v w → IsLow v.place → HasPort v port → port < v.k → (ticks : ℕ) → KnowsAt me ticks v port → KnowsAt me ticks (changes_to v w).view port
  changes_know v w p low has within ticks knows = elim (cases_Bool (is_settled v.place)) [
    | inl settled ↦
        cond_both (has_become_placed v.place w.place) (grants_remembered (ports_of_switch w.k) w) (rests w) (λ (s : SwitchStep). KnowsAt me ticks s.view port)
        (λ becomes. absurd (turned (is_placed v.place) (and_parts (is_known w.place.level 0 && is_placed w.place) (not (is_placed v.place)) becomes).1 (low_placed v.place low ∙ settled)))
        (λ stays. placing_knows ticks v w p (p.place settled) knows)
    | inr unsettled ↦
        let is : remembered_at w port ≡ Some (mine me) = ap (λ (rs : List (Option Source)). get_or rs port None) p.remembered ∙ knows.unplaced unsettled in
        let first : not (is_placed v.place) ≡ true = not_of (is_placed v.place) (low_placed v.place low ∙ unsettled) in
        cond_both (has_become_placed v.place w.place) (grants_remembered (ports_of_switch w.k) w) (rests w) (λ (s : SwitchStep). KnowsAt me ticks s.view port)
        (λ becomes.
        let settled : is_settled w.place ≡ true = (and_parts (is_known w.place.level 0 && is_placed w.place) (not (is_placed v.place)) becomes).0 in
        let place = (alike_remembered (ports_of_switch w.k) w).place in
        record {
          unplaced = λ un. absurd (false≢true (sym un ∙ ap (λ (q : Place). is_settled q) place ∙ settled));
          placed = λ h. serves_within ticks (grants_at (grants_remembered (ports_of_switch w.k) w).view port)
              (up_to_it w.k 0 w (omega arith) (let less : port < w.k = subst (λ n. port < n) (sym p.k) within in omega (arith, less)) (placing_port v w p has) is);
        })
        (λ stays. record {
          unplaced = λ un. is;
          placed = λ settled. absurd (false≢true (sym stays ∙ and_from (is_known w.place.level 0 && is_placed w.place) (not (is_placed v.place)) settled first));
        })
  ]
