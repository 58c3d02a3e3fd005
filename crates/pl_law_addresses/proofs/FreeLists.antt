-- The vmids of free addresses of a port, while addresses are granted, freed and used.
use Rattle.std.proofs.Common.{◌≡◌, ◌≢◌, ◌<◌, ◌+◌, ◌-◌, ◌==◌, ◌||◌, ℕ, not, nat_lt, Bool, true, false, cond, get_or, set, List, [], ◌∷◌, ◌++◌, length, Option, Some, None, refl, sym, ap, subst, ◌∙◌, inl, inr, eq-eqb, eqb-true, get_or-set_same, get_or-set_other, length-set}
use Rattle.std.specs.Option.{option_map}
use Rattle.std.proofs.lemmas.Bool.{cases_eq, false_from_ne_true, false≢true, or_left, or_parts, or_right}
use Rattle.std.proofs.lemmas.List.Folds.{list_any-append}
use Rattle.std.proofs.lemmas.Option.{none-some, same_Some}
use Rattle.pl_frame.specs.declared.address.Ip4.{Ip4}
use Rattle.pl_frame.specs.declared.address.Mac.{Mac}
use Rattle.pl_node.specs.AddressUses.{is_held, is_in_use}
use Rattle.pl_node.specs.declared.address_use.AddressUse.{AddressUse}
use Rattle.pl_node.specs.declared.address_use.AddressUse.TheVariants.{Free, InUse, Resting, Trapped}
use Rattle.pl_node.specs.declared.switch_records.Grant.{Grant}
use Rattle.pl_node.specs.declared.switch_records.Source.{Source}
use Rattle.pl_layouts.specs.declared.place.Place.{Place}
use Rattle.pl_node.specs.SwitchViews.{SwitchView}
use Rattle.pl_switch_rule.specs.Granting.{all_but_first, freed_at, grant_number, grants_at, next_vmid, with_grants, with_next}
use Rattle.pl_law_addresses.specs.FreeVmids.{AreFreeVmids, AreOnce, is_free, is_in}
use Rattle.pl_law_addresses.specs.EdgeAddresses.{IsGoodAddressTable, is_held as is_held_there, is_settled}
use Rattle.pl_law_addresses.proofs.GrantsByNumber.{number_past, number_push_other, number_push_same, number_set_other, number_set_same, number_within}

-- ---- truth values
or_none : (b : Bool) → (b || false) ≡ b
or_none true = refl
or_none false = refl

turned : (a b : ℕ) → (a == b) ≡ false → (b == a) ≡ false
turned a b h = false_from_ne_true (b == a) (λ is. false≢true (sym h ∙ eq-eqb a b (sym (eqb-true b a is))))

not_eqb : (a b : ℕ) → a ≢ b → (a == b) ≡ false
not_eqb a b other = false_from_ne_true (a == b) (λ is. other (eqb-true a b is))

-- what is not held is not live
pub unheld_there : (o : Option Grant) → ((h : Grant) → o ≡ Some h → is_held h.held ≡ true → ⊥) → is_held_there (option_map (λ (g : Grant). g.held) o) ≡ false
unheld_there None none = refl
unheld_there (Some h) none = false_from_ne_true (is_held h.held) (λ is. none h refl is)

held_not_free : (o : Option Grant) (g : Grant) → o ≡ Some g → is_held g.held ≡ true → is_free o ≡ false
held_not_free o g is held = ap is_free is ∙ ap not held

-- a free one is there
free_there : (o : Option Grant) → is_free o ≡ true → (g : Grant) × (o ≡ Some g)
free_there None is = absurd (false≢true is)
free_there (Some g) is = (g, refl)

-- ---- where the same are free
pub as_free : (grants new : List Grant) (freed : List ℕ) → AreFreeVmids grants freed → ((n : ℕ) → is_free (grant_number new n) ≡ is_free (grant_number grants n)) → AreFreeVmids new freed
as_free grants new freed are same = record { listed = λ n. are.listed n ∙ sym (same n); once = are.once }

-- one that is held is changed, and is held still
pub held_free : (grants : List Grant) (freed : List ℕ) (vmid : ℕ) (g h : Grant) → AreFreeVmids grants freed → grant_number grants vmid ≡ Some g → is_held g.held ≡ true →
    is_held h.held ≡ true → AreFreeVmids (set grants (vmid - 1) h) freed
held_free grants freed vmid g h are is held still = as_free grants (set grants (vmid - 1) h) freed are (λ n. elim (cases_eq n vmid) [
  | inr other ↦ ap is_free (number_set_other grants vmid n h (number_within grants vmid g is).0 other)
  | inl same ↦
      ap (λ m. is_free (grant_number (set grants (vmid - 1) h) m)) same ∙ held_not_free (grant_number (set grants (vmid - 1) h) vmid) h (number_set_same grants vmid g h is) still
      ∙ sym (held_not_free (grant_number grants vmid) g is held) ∙ ap (λ m. is_free (grant_number grants m)) (sym same)
])

-- ---- one is freed
once_behind : (v : ℕ) (vs : List ℕ) → is_in v vs ≡ false → AreOnce vs → AreOnce (vs ++ v ∷ [])
once_behind v [] not_in once = (refl, tt)
once_behind v (w ∷ vs) not_in once =
    let parts = or_parts (w == v) (is_in v vs) not_in in (
      list_any-append (λ n. n == w) vs (v ∷ []) ∙ ap (λ b. b || ((v == w) || false)) once.0 ∙ ap (λ b. false || (b || false)) (turned w v parts.0),
      once_behind v vs parts.1 once.1,
    )

pub freed_free : (grants : List Grant) (freed : List ℕ) (vmid : ℕ) (g h : Grant) → AreFreeVmids grants freed → grant_number grants vmid ≡ Some g → is_held g.held ≡ true →
    is_held h.held ≡ false → AreFreeVmids (set grants (vmid - 1) h) (freed ++ vmid ∷ [])
freed_free grants freed vmid g h are is held no_more = record {
  listed = λ n. list_any-append (λ v. v == n) freed (vmid ∷ []) ∙ elim (cases_eq n vmid) [
    | inl same ↦
        or_right (is_in n freed) ((vmid == n) || false) (or_left (vmid == n) false (eq-eqb vmid n (sym same)))
        ∙ sym (ap (λ m. is_free (grant_number (set grants (vmid - 1) h) m)) same ∙ ap is_free (number_set_same grants vmid g h is) ∙ ap not no_more)
    | inr other ↦
        ap (λ b. is_in n freed || (b || false)) (not_eqb vmid n (λ same. other (sym same))) ∙ or_none (is_in n freed) ∙ are.listed n
        ∙ sym (ap is_free (number_set_other grants vmid n h (number_within grants vmid g is).0 other))
  ];
  once = once_behind vmid freed (are.listed vmid ∙ held_not_free (grant_number grants vmid) g is held) are.once;
}

-- ---- the next one of a port is granted
pub record IsNextVmid (grants : List Grant) (freed : List ℕ) (vmid : ℕ) (new : Grant) : Type 0 where
  pub now : grant_number (with_next freed grants new) vmid ≡ Some new
  pub others : (n : ℕ) → n ≢ vmid → grant_number (with_next freed grants new) n ≡ grant_number grants n
  pub unheld : (h : Grant) → grant_number grants vmid ≡ Some h → is_held h.held ≡ true → ⊥
  pub left : AreFreeVmids (with_next freed grants new) (all_but_first freed)

-- behind all others
pushed : (grants : List Grant) (new : Grant) → AreFreeVmids grants [] → is_held new.held ≡ true → IsNextVmid grants [] (length grants + 1) new
pushed grants new are held = record {
  now = number_push_same grants new;
  others = λ n other. number_push_other grants new n other;
  unheld = λ h is held. none-some h (sym (number_past grants) ∙ is);
  left = as_free grants (grants ++ new ∷ []) [] are (λ n. elim (cases_eq n (length grants + 1)) [
    | inr other ↦ ap is_free (number_push_other grants new n other)
    | inl same ↦
        ap (λ m. is_free (grant_number (grants ++ new ∷ []) m)) same ∙ held_not_free (grant_number (grants ++ new ∷ []) (length grants + 1)) new (number_push_same grants new) held
        ∙ sym (ap (λ m. is_free (grant_number grants m)) same ∙ ap is_free (number_past grants))
  ]);
}

-- or in the place of the one that was freed first
taken : (grants : List Grant) (vmid : ℕ) (freed : List ℕ) (new : Grant) → AreFreeVmids grants (vmid ∷ freed) → is_held new.held ≡ true → IsNextVmid grants (vmid ∷ freed) vmid new
taken grants vmid freed new are held =
    let free : is_free (grant_number grants vmid) ≡ true = sym (are.listed vmid) ∙ or_left (vmid == vmid) (is_in vmid freed) (eq-eqb vmid vmid refl) in
    let there = free_there (grant_number grants vmid) free in
    let some = (number_within grants vmid there.0 there.1).0 in
    record {
      now = number_set_same grants vmid there.0 new there.1;
      others = λ n other. number_set_other grants vmid n new some other;
      unheld = λ h is held. false≢true (sym (held_not_free (grant_number grants vmid) h is held) ∙ free);
      left = record {
        listed = λ n. elim (cases_eq n vmid) [
          | inl same ↦
              ap (λ m. is_in m freed) same ∙ are.once.0
              ∙ sym (ap (λ m. is_free (grant_number (set grants (vmid - 1) new) m)) same
              ∙ held_not_free (grant_number (set grants (vmid - 1) new) vmid) new (number_set_same grants vmid there.0 new there.1) held)
          | inr other ↦
              sym (ap (λ b. b || is_in n freed) (not_eqb vmid n (λ same. other (sym same)))) ∙ are.listed n
              ∙ sym (ap is_free (number_set_other grants vmid n new some other))
        ];
        once = are.once.1;
      };
    }

pub next_granted : (grants : List Grant) (freed : List ℕ) (vmid : ℕ) (new : Grant) → AreFreeVmids grants freed → is_held new.held ≡ true → next_vmid freed grants ≡ Some vmid →
    IsNextVmid grants freed vmid new
next_granted grants (w ∷ freed) vmid new are held is =
    subst (λ n. IsNextVmid grants (w ∷ freed) n new) (same_Some w vmid is) (taken grants w freed new are held)
next_granted grants [] vmid new are held is = by (nat_lt (length grants) 65535) is
  where
    by : (b : Bool) → cond b (Some (length grants + 1)) None ≡ Some vmid → IsNextVmid grants [] vmid new
    by true some = subst (λ n. IsNextVmid grants [] n new) (same_Some (length grants + 1) vmid some) (pushed grants new are held)
    by false none = absurd (none-some vmid none)

-- ---- the lists of a switch
-- where they are the same
pub table_alike : (own : Mac → Option Ip4) (v w : SwitchView) → w.place ≡ v.place → w.k ≡ v.k → w.grants ≡ v.grants → w.freed ≡ v.freed → w.remembered ≡ v.remembered →
    IsGoodAddressTable own v → IsGoodAddressTable own w
table_alike own v w place k grants freed remembered b = record {
  many = ap (λ (gs : List (List Grant)). length gs) grants ∙ b.many ∙ sym k;
  many_freed = ap (λ (fs : List (List ℕ)). length fs) freed ∙ b.many_freed ∙ sym k;
  free = λ port.
      subst (λ (fs : List ℕ). AreFreeVmids (grants_at w port) fs) (ap (λ (fs : List (List ℕ)). get_or fs port []) (sym freed))
      (subst (λ (gs : List Grant). AreFreeVmids gs (freed_at v port)) (ap (λ (gs : List (List Grant)). get_or gs port []) (sym grants)) (b.free port));
  empty = λ unsettled port. ap (λ (gs : List (List Grant)). get_or gs port []) grants ∙ b.empty (ap (λ (p : Place). is_settled p) (sym place) ∙ unsettled) port;
  sources = λ port source is. b.sources port source (ap (λ (ss : List (Option Source)). get_or ss port None) (sym remembered) ∙ is);
}

module _ (own : Mac → Option Ip4) (v : SwitchView) (port : ℕ) (grants : List Grant) (settled : is_settled v.place ≡ true) (within : port < v.k) (b : IsGoodAddressTable own v) where
  -- what is granted at a port changes
  pub table_with_grants : AreFreeVmids grants (freed_at v port) → IsGoodAddressTable own (with_grants v port grants)
  table_with_grants free = record {
    many = length-set v.grants port grants ∙ b.many;
    many_freed = b.many_freed;
    empty = λ unsettled at. absurd (false≢true (sym unsettled ∙ settled));
    free = λ at. elim (cases_eq at port) [
      | inl here ↦
          subst (λ (n : ℕ). AreFreeVmids (grants_at (with_grants v port grants) n) (freed_at v n)) (sym here)
          (subst (λ (gs : List Grant). AreFreeVmids gs (freed_at v port)) (sym (get_or-set_same v.grants port grants [] (subst (λ n. port < n) (sym b.many) within))) free)
      | inr other ↦ subst (λ (gs : List Grant). AreFreeVmids gs (freed_at v at)) (sym (get_or-set_other v.grants port at grants [] other)) (b.free at)
    ];
    sources = b.sources;
  }

  -- and which of them are free
  pub table_with_free : (freed : List ℕ) → AreFreeVmids grants freed → IsGoodAddressTable own (record (with_grants v port grants) { freed = set v.freed port freed })
  table_with_free freed free = record {
    many = length-set v.grants port grants ∙ b.many;
    many_freed = length-set v.freed port freed ∙ b.many_freed;
    empty = λ unsettled at. absurd (false≢true (sym unsettled ∙ settled));
    free = λ at. elim (cases_eq at port) [
      | inl here ↦
          subst (λ (n : ℕ). AreFreeVmids (get_or (set v.grants port grants) n []) (get_or (set v.freed port freed) n [])) (sym here)
          (subst (λ (gs : List Grant). AreFreeVmids gs (get_or (set v.freed port freed) port [])) (sym (get_or-set_same v.grants port grants [] (subst (λ n. port < n) (sym b.many) within)))
          (subst (λ (fs : List ℕ). AreFreeVmids grants fs) (sym (get_or-set_same v.freed port freed [] (subst (λ n. port < n) (sym b.many_freed) within))) free))
      | inr other ↦
          subst (λ (gs : List Grant). AreFreeVmids gs (get_or (set v.freed port freed) at [])) (sym (get_or-set_other v.grants port at grants [] other))
          (subst (λ (fs : List ℕ). AreFreeVmids (grants_at v at) fs) (sym (get_or-set_other v.freed port at freed [] other)) (b.free at))
    ];
    sources = b.sources;
  }

-- what is in use has been idle for so many ticks
pub in_use_for : (h : AddressUse) → is_in_use h ≡ true → (idle : ℕ) × (h ≡ InUse idle)
in_use_for (InUse idle) is = (idle, refl)
in_use_for (Trapped trap age) is = absurd (false≢true is)
in_use_for (Resting number) is = absurd (false≢true is)
in_use_for Free is = absurd (false≢true is)
