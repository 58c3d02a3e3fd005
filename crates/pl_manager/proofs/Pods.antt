-- The number of a pod that is free, found from the smallest one on. It fits 16 bits, since a tree has far fewer switches.
use Rattle.std.proofs.Common.{◌≡◌, ◌≤◌, ◌<◌, ◌⊎◌, ◌||◌, inl, inr, ℕ, ◌+◌, ◌*◌, true, false, List, [], ◌∷◌, ◌++◌, length, map, refl, sym, subst, arith}
use Rattle.std.specs.Ordering.{eq_by_cmp}
use Rattle.std.proofs.lemmas.Bool.{both_ways, or_cases}
use Rattle.std.proofs.lemmas.Cmp.{eq_by_cmp_equiv}
use Rattle.std.proofs.lemmas.Map.Keys.{IsDistinct-from_sorted}
use Rattle.std.proofs.Math.Nat.{div-le_self, mul-le-mul_left, mul-le-mul_right}
use Rattle.pl_frame.specs.declared.address.SwitchId.{SwitchId}
use Rattle.pl_pmac.specs.declared.pmac.Pmac.{Pmac}
use Rattle.pl_layouts.specs.Equality.{same_switch}
use Rattle.pl_gathering.specs.Acting.{Done}
use Rattle.pl_gathering.specs.Gathering.{Heard}
use Rattle.pl_gatherer.specs.Gatherers.{Gathering}
use Rattle.pl_node.specs.declared.acts.ManagerAct.{ManagerAct}
use Rattle.pl_node.specs.declared.messages.ToManager.{ToManager}
use Rattle.pl_node.specs.declared.pod_given.PodGiven.{PodGiven}
use Rattle.pl_node.specs.ManagerFacts.{CanHear, switch_count}
use Rattle.pl_node.specs.ManagerViews.{ManagerView, Told, first_free, id_cmp, in_order, is_heard, is_taken, reporters, restarted_manager, speakers, switches, tellers}
use Rattle.pl_node.specs.SwitchFacts.{IsTreeSize}
use Rattle.pl_node.proofs.Exports.{among_append, among_left, among_ordered, among_right, few_in_order, id_exact, id_total, IsAmong, rising_in_order}
use Rattle.pl_manager_rule.specs.Treating.{Treating}
use Rattle.pl_manager_rule.proofs.Exports.{among_is_heard, first_is_free, gathered_speaks, known_among, least_free, now_or_before, one_free, same_is, spoke_or_gathered, treated_speaks}
use Rattle.pl_registry.specs.Askers.{pod_holders}
use Rattle.pl_manager.specs.Manager.{CanGather, CanTreat, IsTreatedAs, put, view_of}
use Rattle.pl_manager.specs.declared.known.Known.{Known}

pub is_first : (told : Told) (pods : List PodGiven) (n : ℕ) → is_taken told pods n ≡ false → ((k : ℕ) → k < n → is_taken told pods k ≡ true) →
    n ≡ first_free told pods
is_first told pods n free smallest =
    one_free told pods n (first_free told pods) (record { free = free; smallest = smallest }) (first_is_free told pods)

-- not all of so many numbers are taken
pub one_is_free : (told : Told) (pods : List PodGiven) (n : ℕ) → length told.places + length pods < n → ((k : ℕ) → k < n → is_taken told pods k ≡ true) → ⊥
one_is_free told pods n more taken =
    let least = least_free told pods in
    both_ways (is_taken told pods (first_free told pods)) (first_is_free told pods).free (taken (first_free told pods) (omega (arith, more, least)))

-- ---- switches that were heard
-- who spoke speaks still, whatever is gathered
still_speaks : (known : Known) (g : Gathering) (t : SwitchId) → IsAmong t (speakers (put known (restarted_manager known.k 0))) → IsAmong t (speakers (view_of known g))
still_speaks known g t h = elim (spoke_or_gathered (view_of known g) 0 [] [] [] t h) [ inl none ↦ absurd none | inr was ↦ was ]

within : (xs ys : List SwitchId) → ((s : SwitchId) → IsAmong s xs → IsAmong s ys) → length (in_order id_cmp xs) ≤ length (in_order id_cmp ys)
within xs ys each =
    few_in_order id_cmp id_total id_exact (eq_by_cmp id_cmp) (eq_by_cmp_equiv id_total) (in_order id_cmp xs) ys
    (IsDistinct-from_sorted id_cmp (in_order id_cmp xs) (rising_in_order id_cmp id_total xs)) (λ s h. each s (among_ordered id_cmp s xs h))

few_switches : (k : ℕ) → k ≤ 24 → switch_count k ≤ 2880
few_switches k small =
    let one = mul-le-mul_left 5 small in
    let two = mul-le-mul_right k one in
    let three = mul-le-mul_left (5 * 24) small in
    let all = div-le_self (5 * k * k) 4 in
    omega (arith, one, two, three, all)

abbrev at_rest_of : Known → ManagerView
at_rest_of known = put known (restarted_manager known.k 0)

pub few_heard : (known : Known) (heard : List (Heard ToManager)) → CanTreat known heard →
    length (switches known.routing.told) + length (pod_holders known.askers) < 65535
few_heard known heard can =
    let view = at_rest_of known in
    let more : List SwitchId = map (λ h. h.switch) heard in
    let members = map (λ m. m.0.0) view.members in
    let holders = map (λ (g : PodGiven). g.switch) view.pods in
    let rest = map (λ a. a.switch) view.learnt.addresses ++ reporters view in
    let told = within (tellers view.told) (speakers view ++ more)
    (λ t h. among_left t (speakers view) more (among_left t (tellers view.told) (members ++ (holders ++ rest)) h)) in
    let given = within holders (speakers view ++ more)
    (λ t h. among_left t (speakers view) more
    (among_right t (tellers view.told) (members ++ (holders ++ rest)) (among_right t members (holders ++ rest) (among_left t holders rest h)))) in
    let few = few_switches known.k can.size.high in
    omega (arith, told, given, few, can.few)

-- of fewer words
pub can_less : (known : Known) (heard less : List (Heard ToManager)) → CanTreat known heard →
    ((t : SwitchId) → IsAmong t (map (λ h. h.switch) less) → IsAmong t (map (λ h. h.switch) heard)) → CanTreat known less
can_less known heard less can each =
    let speak = speakers (at_rest_of known) in
    let all : List SwitchId = map (λ h. h.switch) heard in
    let some : List SwitchId = map (λ h. h.switch) less in
    let fewer = within (speak ++ some) (speak ++ all) (λ t h. elim (among_append t speak some h) [
      | inl spoke ↦ among_left t speak all spoke
      | inr of_less ↦ among_right t speak all (each t of_less)
    ]) in
    record { size = can.size; few = let most = can.few in omega (arith, fewer, most) }

-- once one of them was treated
pub can_then : (known after : Known) (heard : List (Heard ToManager)) (s : SwitchId) → after.k ≡ known.k → CanTreat known heard →
    IsAmong s (map (λ h. h.switch) heard) →
    ((t : SwitchId) → is_heard (at_rest_of after) t ≡ true → (same_switch s t || is_heard (at_rest_of known) t) ≡ true) → CanTreat after heard
can_then known after heard s same can there heard_then =
    let ones : (t : SwitchId) → IsAmong t (speakers (at_rest_of after)) → (s ≡ t) ⊎ IsAmong t (speakers (at_rest_of known)) =
    λ t h. elim (or_cases (same_switch s t) (is_heard (at_rest_of known) t) (heard_then t (among_is_heard (at_rest_of after) s t h))) [
      | inl is ↦ inl (same_is s t is)
      | inr was ↦ inr (known_among t (speakers (at_rest_of known)) was)
    ] in
    let before = speakers (at_rest_of known) in
    let speak = speakers (at_rest_of after) in
    let all : List SwitchId = map (λ h. h.switch) heard in
    let fewer = within (speak ++ all) (before ++ all) (λ t h. elim (among_append t speak all h) [
      | inl spoke ↦ elim (ones t spoke) [
        | inl is ↦ among_right t before all (subst (λ u. IsAmong u all) is there)
        | inr was ↦ among_left t before all was
      ]
      | inr of_all ↦ among_right t before all of_all
    ]) in
    record {
      size = subst IsTreeSize (sym same) can.size;
      few = subst (λ k. length (in_order id_cmp (speak ++ all)) ≤ switch_count k) (sym same) (let most = can.few in omega (arith, fewer, most));
    }

-- a word that is treated is of no switch but the speaker
pub treated_ones : (known after : Known) (epoch : ℕ) (s : SwitchId) (word : ToManager) (aged aged_after : List Pmac) (out out_after : List ManagerAct) → after.k ≡ known.k →
    ((v : ManagerView) → v.epoch ≡ epoch → IsTreatedAs (put known v) aged out s word (put after v) aged_after out_after) →
    (t : SwitchId) → is_heard (at_rest_of after) t ≡ true → (same_switch s t || is_heard (at_rest_of known) t) ≡ true
treated_ones known after epoch s word aged aged_after out out_after same treated t h =
    let v = restarted_manager known.k epoch in
    let is = treated v refl in
    now_or_before (at_rest_of known) s t (treated_speaks (record { view = put known v; aged = aged }) s word t
    (subst (λ (d : Done Treating ManagerAct). IsAmong t (speakers d.known.view)) (sym is) (known_among t (speakers (at_rest_of after)) h)))

-- and of one that hears a switch
pub can_hear_word : (known : Known) (g : Gathering) (s : SwitchId) (word : ToManager) → CanGather known g s → CanTreat known (record { switch = s; word = word } ∷ [])
can_hear_word known g s word can =
    let view = view_of known g in
    let speak = speakers (at_rest_of known) in
    let fewer = within (speak ++ s ∷ []) (s ∷ speakers view) (λ t h. elim (among_append t speak (s ∷ []) h) [
      | inl spoke ↦ inr (still_speaks known g t spoke)
      | inr now ↦ elim now [ inl is ↦ inl is | inr none ↦ absurd none ]
    ]) in
    record { size = can.size; few = let most = can.few in omega (arith, fewer, most) }

pub can_hear_kept : (known : Known) (g : Gathering) (s : SwitchId) → CanGather known g s → CanTreat known g.kept
can_hear_kept known g s can =
    let view = view_of known g in
    let speak = speakers (at_rest_of known) in
    let kept : List SwitchId = map (λ h. h.switch) g.kept in
    let fewer = within (speak ++ kept) (s ∷ speakers view) (λ t h. elim (among_append t speak kept h) [
      | inl spoke ↦ inr (still_speaks known g t spoke)
      | inr of_kept ↦ inr (gathered_speaks view t (among_right t g.begun kept of_kept))
    ]) in
    record { size = can.size; few = let most = can.few in omega (arith, fewer, most) }

pub can_gather : (known : Known) (g : Gathering) (s : SwitchId) → IsTreeSize known.k → g.many ≡ switch_count known.k → CanHear (view_of known g) s → CanGather known g s
can_gather known g s size many can = record { size = size; many = many; few = can.switches }
