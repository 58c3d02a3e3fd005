-- The manager can hear each switch of the wiring at each moment of a run.
use Rattle.std.proofs.Common.{◌≡◌, ℕ, zero, suc, ◌+◌, ◌*◌, ◌/◌, ◌<◌, ◌≤◌, true, false, List, [], ◌∷◌, length, Contains, IsTrue, Less, Greater, Some, slice_get, refl, sym, ◌∙◌, ap, subst, arith, inl, inr, mul_assoc, mul_comm}
use Rattle.std.specs.List.{list_any}
use Rattle.std.specs.List.Sorted.{IsStrictlySortedBy}
use Rattle.std.specs.Ordering.{ordering_reverse}
use Rattle.std.proofs.lemmas.Bool.{eqb-true, or_cases}
use Rattle.pl_frame.specs.declared.address.SwitchId.{SwitchId}
use Rattle.pl_wiring.specs.Labels.{IsArity, switch_count}
use Rattle.pl_wiring.specs.Plan.{IsPlan, Plan}
use Rattle.pl_layouts.specs.Equality.{same_switch}
use Rattle.pl_layouts.proofs.Exports.{switch_itself}
use Rattle.pl_node.specs.ManagerFacts.{CanHear, heard}
use Rattle.pl_node.specs.ManagerFacts as facts
use Rattle.pl_node.specs.ManagerDuties.{IsGrown}
use Rattle.pl_node.specs.ManagerViews.{ManagerView, id_cmp, in_order, is_heard, numbers_before, restarted_manager, speakers}
use Rattle.pl_node.proofs.Exports.{among_of_Contains, among_ordered, any_among, holds_of, id_total, IsAmong, rising_in_order}
use Rattle.pl_world.specs.Hearing.{HeardWithin}

-- ---- a rising list of some ids is no longer than they are many

-- the others, without one of them
without : (x : SwitchId) (ys : List SwitchId) → IsAmong x ys → List SwitchId
without x [] h = []
without x (y ∷ ys) (inl is) = ys
without x (y ∷ ys) (inr h) = y ∷ without x ys h

one_less : (x : SwitchId) (ys : List SwitchId) (h : IsAmong x ys) → length ys ≡ length (without x ys h) + 1
unfolding without
one_less x [] h = absurd h
one_less x (y ∷ ys) (inl is) = omega arith
one_less x (y ∷ ys) (inr h) = let rest = one_less x ys h in omega arith

still_among : (x q : SwitchId) (ys : List SwitchId) (h : IsAmong x ys) → (x ≡ q → ⊥) → IsAmong q ys → IsAmong q (without x ys h)
unfolding without
still_among x q [] h apart there = absurd h
still_among x q (y ∷ ys) (inl is) apart (inl here) = absurd (apart (sym is ∙ here))
still_among x q (y ∷ ys) (inl is) apart (inr there) = there
still_among x q (y ∷ ys) (inr h) apart (inl here) = inl here
still_among x q (y ∷ ys) (inr h) apart (inr there) = inr (still_among x q ys h apart there)

not_less_itself : (x : SwitchId) → id_cmp x x ≡ Less → ⊥
not_less_itself x less = let both : id_cmp x x ≡ Greater = id_total.antisymm x x ∙ ap ordering_reverse less in absurd (cc)

no_more : (xs ys : List SwitchId) → IsStrictlySortedBy id_cmp xs → ((q : SwitchId) → IsAmong q xs → IsAmong q ys) → length xs ≤ length ys
unfolding IsStrictlySortedBy
no_more [] ys rises each = omega arith
no_more (x ∷ xs) ys rises each =
    let here : IsAmong x ys = each x (inl refl) in
    let rest = no_more xs (without x ys here) rises.1 (λ q h. still_among x q ys here
    (λ same. not_less_itself x (subst (λ z. id_cmp x z ≡ Less) (sym same) (holds_of (λ z. id_cmp x z ≡ Less) q xs rises.0 h)))
    (each q (inr h))) in
    let many = one_less x ys here in
    omega arith

-- ---- as many switches as a tree has
twenty : (n : ℕ) → 10 * (2 * n) ≡ 20 * n
twenty n = omega arith

by_half : (h : ℕ) → switch_count (2 * h) ≡ facts.switch_count (2 * h)
by_half h =
    let half : 2 * h / 2 ≡ h = omega arith in
    let squares : 2 * h * h ≡ 2 * (h * h) = mul_assoc 2 h h in
    let five : 5 * (2 * h) ≡ 10 * h = omega arith in
    let all : 5 * (2 * h) * (2 * h) ≡ 20 * (h * h) =
    ap (λ n. n * (2 * h)) five ∙ mul_assoc 10 h (2 * h) ∙ ap (λ n. 10 * n) (mul_comm h (2 * h) ∙ squares) ∙ twenty (h * h) in
    rw (half, squares, all) (omega arith)

pub switches_of_tree : (k : ℕ) → IsArity k → switch_count k ≡ facts.switch_count k
switches_of_tree k is = let even : 2 * (k / 2) ≡ k = (let e = is.even in omega arith) in
    subst (λ n. switch_count n ≡ facts.switch_count n) even (by_half (k / 2))

-- ---- the switches that were heard
found_among : (ids : List SwitchId) (n : ℕ) (id : SwitchId) → slice_get ids n ≡ Some id → IsAmong id ids
found_among [] n id found = absurd (cc)
found_among (i ∷ ids) zero id found = inl cc
found_among (i ∷ ids) (suc n) id found = inr (found_among ids n id found)

among_is_heard : (q : SwitchId) (xs : List SwitchId) → IsAmong q xs → IsTrue (list_any (λ t. same_switch t q) xs)
among_is_heard q xs h = any_among (λ t. same_switch t q) q xs h (switch_itself q)

pub can_hear_each : (plan : Plan) (view : ManagerView) (steps : ℕ) → IsPlan plan → HeardWithin plan view steps → steps < 4294967295 →
    (s : ℕ) (id : SwitchId) → slice_get plan.ids s ≡ Some id → CanHear view id
can_hear_each plan view steps is within few s id found =
    let those : List SwitchId = id ∷ speakers view in
    let fits : length (in_order id_cmp those) ≤ length plan.ids =
    no_more (in_order id_cmp those) plan.ids (rising_in_order id_cmp id_total those) (λ q h. elim (among_ordered id_cmp q those h) [
      | inl same ↦ subst (λ x. IsAmong x plan.ids) same (found_among plan.ids s id found)
      | inr before ↦ among_of_Contains q plan.ids (within.heard q (among_is_heard q (speakers view) before))
    ]) in
    let many : length plan.ids ≡ facts.switch_count view.k = is.ids_many ∙ switches_of_tree plan.k is.arity ∙ ap facts.switch_count (sym within.same_k) in
    record {
      switches = subst (λ n. length (in_order id_cmp those) ≤ n) many fits;
      addresses = let learnt = within.addresses in omega (arith, learnt, few);
    }

-- one more switch of the wiring is heard
pub heard_one_more : (plan : Plan) (before after : ManagerView) (steps s : ℕ) (id : SwitchId) → slice_get plan.ids s ≡ Some id →
    IsGrown before id after → HeardWithin plan before steps → HeardWithin plan after (steps + 1)
heard_one_more plan before after steps s id found grown within = record {
  same_k = grown.k ∙ within.same_k;
  heard = λ t h. elim (or_cases (same_switch id t) (is_heard before t) (grown.heard t h)) [
    | inl now ↦ Contains_found plan.ids s t (found ∙ ap Some (same_id id t (eqb-true id.0 t.0 now)))
    | inr then ↦ within.heard t then
  ];
  addresses =
      let more = grown.addresses in let some = within.addresses in
      let same : numbers_before after.epoch ≡ numbers_before before.epoch = ap numbers_before grown.epoch in
      omega (arith, more, some, same);
}
  where
    same_id : (a b : SwitchId) → a.0 ≡ b.0 → a ≡ b
    same_id a b e = ap (λ n. let x : SwitchId = record { 0 = n } in x) e

    Contains_found : (ids : List SwitchId) (n : ℕ) (t : SwitchId) → slice_get ids n ≡ Some t → Contains ids t
    Contains_found [] n t found = absurd (cc)
    Contains_found (i ∷ ids) zero t found = (zero, omega arith, cc)
    Contains_found (i ∷ ids) (suc n) t found = let rest = Contains_found ids n t found in (suc rest.0, omega (arith, rest.1), rest.2)

pub heard_no_more : (plan : Plan) (view : ManagerView) (steps : ℕ) → HeardWithin plan view steps → HeardWithin plan view (steps + 1)
heard_no_more plan view steps within = record {
  same_k = within.same_k;
  heard = within.heard;
  addresses = let some = within.addresses in omega (arith, some);
}

-- a manager that begins anew has heard nobody
pub heard_anew : (plan : Plan) (view : ManagerView) (steps epoch : ℕ) → HeardWithin plan view steps → HeardWithin plan (restarted_manager view.k epoch) (steps + 1)
heard_anew plan view steps epoch within = record { same_k = within.same_k; heard = λ t is. absurd (let none : false ≡ true = is in cc); addresses = omega arith }
