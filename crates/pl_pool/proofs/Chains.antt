-- Chains of slots: one leaves, one comes to the end, and what is met on a walk.
use Rattle.std.proofs.Common.{◌≡◌, ◌≢◌, ◌⊎◌, ℕ, zero, suc, ◌+◌, ◌-◌, ◌<◌, ◌≤◌, List, [], ◌∷◌, ◌++◌, length, take, drop, Option, Some, slice_index, refl, sym, ap, ap₂, ◌∙◌, inl, inr, arith, length-append}
use Rattle.std.proofs.lemmas.Bool.{cases_eq, cases_lt}
use Rattle.std.proofs.lemmas.List.{get_or_append_left, get_or-append_right, get_or_push, length_push, drop_more, take-append-drop}
use Rattle.pl_pool.specs.declared.links.Ends.{Ends}
use Rattle.pl_pool.specs.Chains.{walk, IsChain, IsAmong}

-- a walk from the first slot meets the chain
pub walk_is : (next : ℕ → ℕ) (from : ℕ) (slots : List ℕ) → (0 < length slots → from ≡ slice_index slots 0)
    → ((i : ℕ) → i + 1 < length slots → next (slice_index slots i) ≡ slice_index slots (i + 1)) → walk next from (length slots) ≡ slots
walk_is next from [] starts leads = refl
walk_is next from (s ∷ slots) starts leads =
    let here : from ≡ s = starts (omega arith) in
    ap₂ (λ (x : ℕ) (l : List ℕ). x ∷ l) here
    (walk_is next (next from) slots (λ some. ap next here ∙ leads 0 (omega arith)) (λ i low.
    let shift : suc i + 1 ≡ suc (i + 1) = omega arith in
    leads (suc i) (omega arith) ∙ ap (slice_index (s ∷ slots)) shift))

pub walk_first : (next : ℕ → ℕ) (from n : ℕ) → 0 < n → walk next from n ≡ from ∷ walk next (next from) (n - 1)
walk_first next from zero some = absurd (omega arith)
walk_first next from (suc n) some =
    let one : n ≡ suc n - 1 = omega arith in
    ap (λ m. from ∷ walk next (next from) m) one

pub chain_is_walked : (owner : ℕ → Option ℕ) (next prev : ℕ → ℕ) (list : ℕ) (ends : Ends) (slots : List ℕ) → IsChain owner next prev list ends slots
    → walk next ends.first ends.len ≡ slots
chain_is_walked owner next prev list ends slots chain =
    ap (walk next ends.first) chain.counted ∙ walk_is next ends.first slots chain.first chain.nexts

-- a chain stays where nothing of its nodes changes
pub chain_kept : (owner owner' : ℕ → Option ℕ) (next prev next' prev' : ℕ → ℕ) (list : ℕ) (ends : Ends) (slots : List ℕ)
    → IsChain owner next prev list ends slots
    → ((i : ℕ) → i < length slots → (owner' (slice_index slots i) ≡ owner (slice_index slots i))
    × (next' (slice_index slots i) ≡ next (slice_index slots i)) × (prev' (slice_index slots i) ≡ prev (slice_index slots i)))
    → IsChain owner' next' prev' list ends slots
chain_kept owner owner' next prev next' prev' list ends slots chain same =
    record {
      counted = chain.counted;
      owned = λ i low. (same i low).0 ∙ chain.owned i low;
      first = chain.first;
      last = chain.last;
      nexts = λ i low. (same i (omega arith)).1 ∙ chain.nexts i low;
      prevs = λ i low. (same (i + 1) low).2 ∙ chain.prevs i low;
      apart = chain.apart;
    }

-- indices before and behind a slot that is left out
module _ (xs ys : List ℕ) (slot : ℕ) where
  pub length_with : length (xs ++ slot ∷ ys) ≡ length xs + length ys + 1
  length_with = omega (arith, length-append xs (slot ∷ ys))

  pub before_slot : (i : ℕ) → i < length xs → slice_index (xs ++ ys) i ≡ slice_index (xs ++ slot ∷ ys) i
  before_slot i low = get_or_append_left xs ys 0 i low ∙ sym (get_or_append_left xs (slot ∷ ys) 0 i low)

  pub at_slot : slice_index (xs ++ slot ∷ ys) (length xs) ≡ slot
  at_slot =
      let none : length xs - length xs ≡ 0 = omega arith in
      get_or-append_right xs (slot ∷ ys) (length xs) (length xs) 0 refl (omega arith) ∙ ap (slice_index (slot ∷ ys)) none

  pub behind_slot : (i : ℕ) → length xs ≤ i → slice_index (xs ++ ys) i ≡ slice_index (xs ++ slot ∷ ys) (i + 1)
  behind_slot i high =
      let shift : i + 1 - length xs ≡ suc (i - length xs) = omega arith in
      get_or-append_right xs ys (length xs) i 0 refl high
      ∙ sym (ap (slice_index (slot ∷ ys)) shift) ∙ sym (get_or-append_right xs (slot ∷ ys) (length xs) (i + 1) 0 refl (omega arith))

  -- each index of what is left is one of the whole
  pub index_with : (i : ℕ) → (j : ℕ) × (slice_index (xs ++ ys) i ≡ slice_index (xs ++ slot ∷ ys) j) × (((i < length xs) × (j ≡ i)) ⊎ ((length xs ≤ i) × (j ≡ i + 1)))
  index_with i = elim (cases_lt i (length xs)) [
    | inl low ↦ (i, before_slot i low, inl (low, refl))
    | inr high ↦ (i + 1, behind_slot i high, inr (high, refl))
  ]

  pub among_with : IsAmong slot (xs ++ slot ∷ ys)
  among_with = (length xs, omega (arith, length_with), at_slot)

  -- what is met besides the slot is left
  pub among_left : (k : ℕ) → IsAmong k (xs ++ slot ∷ ys) → k ≢ slot → IsAmong k (xs ++ ys)
  among_left k among other =
      elim (cases_lt among.0 (length xs)) [
        | inl low ↦ (among.0, omega (arith, length-append xs ys), before_slot among.0 low ∙ among.2)
        | inr high ↦ elim (cases_eq among.0 (length xs)) [
          | inl at ↦ absurd (other (sym among.2 ∙ ap (slice_index (xs ++ slot ∷ ys)) at ∙ at_slot))
          | inr past ↦
              let back : among.0 - 1 + 1 ≡ among.0 = omega arith in (
                among.0 - 1,
                omega (arith, among.1, length_with, length-append xs ys),
                behind_slot (among.0 - 1) (omega arith) ∙ ap (slice_index (xs ++ slot ∷ ys)) back ∙ among.2,
              )
        ]
      ]

  -- the slot itself is not
  pub slot_not_left : ((i j : ℕ) → i < length (xs ++ slot ∷ ys) → j < length (xs ++ slot ∷ ys) → slice_index (xs ++ slot ∷ ys) i ≡ slice_index (xs ++ slot ∷ ys) j → i ≡ j)
      → ¬ IsAmong slot (xs ++ ys)
  slot_not_left apart among =
      let index = index_with among.0 in
      let same = sym index.1 ∙ among.2 ∙ sym at_slot in
      elim index.2 [
        | inl p ↦ omega (arith, p.0, p.1, apart index.0 (length xs) (omega (arith, p.0, p.1, length_with)) (omega (arith, length_with)) same)
        | inr p ↦ omega (arith, p.0, p.1, apart index.0 (length xs) (omega (arith, p.0, p.1, among.1, length_with, length-append xs ys)) (omega (arith, length_with)) same)
      ]

pub among_older : (slots : List ℕ) (slot k : ℕ) → IsAmong k slots → IsAmong k (slots ++ slot ∷ [])
among_older slots slot k among =
    (among.0, omega (arith, among.1, length_push slots slot), get_or_append_left slots (slot ∷ []) 0 among.0 among.1 ∙ among.2)

pub among_newest : (slots : List ℕ) (slot : ℕ) → IsAmong slot (slots ++ slot ∷ [])
among_newest slots slot = (length slots, omega (arith, length_push slots slot), get_or_push slots slot 0 (length slots) refl)

-- a slot among others cuts them in two
pub cut : (slots : List ℕ) (slot : ℕ) → IsAmong slot slots → (xs : List ℕ) × (ys : List ℕ) × (slots ≡ xs ++ slot ∷ ys)
cut slots slot among = (
  take among.0 slots,
  drop (among.0 + 1) slots,
  sym (take-append-drop among.0 slots) ∙ ap (λ (l : List ℕ). take among.0 slots ++ l) (drop_more slots among.0 0 among.1 ∙ ap (λ x. x ∷ drop (among.0 + 1) slots) among.2),
)

-- the chain without a slot
module _ (owner owner' : ℕ → Option ℕ) (next prev next' prev' : ℕ → ℕ) (list : ℕ) (ends ends' : Ends) (xs ys : List ℕ) (slot : ℕ)
    (chain : IsChain owner next prev list ends (xs ++ slot ∷ ys))
    (owners : (k : ℕ) → owner' k ≡ owner k)
    (at_first : ends.first ≡ slot → ((k : ℕ) → next' k ≡ next k) × (ends'.first ≡ next slot))
    (past_first : ends.first ≢ slot → (next' (prev slot) ≡ next slot) × ((k : ℕ) → k ≢ prev slot → next' k ≡ next k) × (ends'.first ≡ ends.first))
    (at_last : ends.last ≡ slot → ((k : ℕ) → prev' k ≡ prev k) × (ends'.last ≡ prev slot))
    (past_last : ends.last ≢ slot → (prev' (next slot) ≡ prev slot) × ((k : ℕ) → k ≢ next slot → prev' k ≡ prev k) × (ends'.last ≡ ends.last))
    (shorter : ends'.len + 1 ≡ ends.len) where
  whole_length : length (xs ++ slot ∷ ys) ≡ length xs + length ys + 1
  whole_length = length_with xs ys slot

  rest_length : length (xs ++ ys) ≡ length xs + length ys
  rest_length = length-append xs ys

  here : slice_index (xs ++ slot ∷ ys) (length xs) ≡ slot
  here = at_slot xs ys slot

  -- no other index has the slot of one
  elsewhere : (i j : ℕ) → i < length (xs ++ slot ∷ ys) → j < length (xs ++ slot ∷ ys) → i ≢ j → slice_index (xs ++ slot ∷ ys) i ≢ slice_index (xs ++ slot ∷ ys) j
  elsewhere i j low high differ same = differ (chain.apart i j low high same)

  is_first : length xs ≤ 0 → ends.first ≡ slot
  is_first none =
      let zeroth : 0 ≡ length xs = omega arith in
      chain.first (omega (arith, whole_length)) ∙ ap (slice_index (xs ++ slot ∷ ys)) zeroth ∙ here

  not_first : 0 < length xs → ends.first ≢ slot
  not_first some same =
      elsewhere 0 (length xs) (omega (arith, whole_length)) (omega (arith, whole_length)) (omega arith)
      (sym (chain.first (omega (arith, whole_length))) ∙ same ∙ sym here)

  is_last : length (xs ++ slot ∷ ys) ≤ length xs + 1 → ends.last ≡ slot
  is_last none = chain.last (length xs) (omega (arith, whole_length)) ∙ here

  not_last : length xs + 1 < length (xs ++ slot ∷ ys) → ends.last ≢ slot
  not_last some same =
      elsewhere (length (xs ++ slot ∷ ys) - 1) (length xs) (omega arith) (omega arith) (omega arith)
      (sym (chain.last (length (xs ++ slot ∷ ys) - 1) (omega arith)) ∙ same ∙ sym here)

  after_here : length xs + 1 < length (xs ++ slot ∷ ys) → next slot ≡ slice_index (xs ++ slot ∷ ys) (length xs + 1)
  after_here some = ap next (sym here) ∙ chain.nexts (length xs) some

  before_here : (i : ℕ) → i + 1 ≡ length xs → prev slot ≡ slice_index (xs ++ slot ∷ ys) i
  before_here i is =
      ap prev (sym here ∙ ap (slice_index (xs ++ slot ∷ ys)) (sym is)) ∙ chain.prevs i (omega (arith, whole_length))

  next_kept : (j : ℕ) → j < length (xs ++ slot ∷ ys) → j + 1 ≢ length xs → next' (slice_index (xs ++ slot ∷ ys) j) ≡ next (slice_index (xs ++ slot ∷ ys) j)
  next_kept j low other =
      elim (cases_lt 0 (length xs)) [
        | inl some ↦ (past_first (not_first some)).1 (slice_index (xs ++ slot ∷ ys) j)
            (λ same. elsewhere j (length xs - 1) low (omega (arith, whole_length)) (omega arith) (same ∙ before_here (length xs - 1) (omega arith)))
        | inr none ↦ (at_first (is_first none)).0 (slice_index (xs ++ slot ∷ ys) j)
      ]

  prev_kept : (j : ℕ) → j < length (xs ++ slot ∷ ys) → j ≢ length xs + 1 → prev' (slice_index (xs ++ slot ∷ ys) j) ≡ prev (slice_index (xs ++ slot ∷ ys) j)
  prev_kept j low other =
      elim (cases_lt (length xs + 1) (length (xs ++ slot ∷ ys))) [
        | inl some ↦ (past_last (not_last some)).1 (slice_index (xs ++ slot ∷ ys) j)
            (λ same. elsewhere j (length xs + 1) low some other (same ∙ after_here some))
        | inr none ↦ (at_last (is_last none)).0 (slice_index (xs ++ slot ∷ ys) j)
      ]

  first_left : 0 < length (xs ++ ys) → ends'.first ≡ slice_index (xs ++ ys) 0
  first_left some =
      elim (cases_lt 0 (length xs)) [
        | inl more ↦ (past_first (not_first more)).2 ∙ chain.first (omega (arith, whole_length)) ∙ sym (before_slot xs ys slot 0 more)
        | inr none ↦
            let one : length xs + 1 ≡ 0 + 1 = omega arith in
            (at_first (is_first none)).1 ∙ after_here (omega (arith, whole_length, rest_length))
            ∙ ap (slice_index (xs ++ slot ∷ ys)) one ∙ sym (behind_slot xs ys slot 0 none)
      ]

  last_left : (i : ℕ) → i + 1 ≡ length (xs ++ ys) → ends'.last ≡ slice_index (xs ++ ys) i
  last_left i is =
      elim (cases_lt i (length xs)) [
        | inl low ↦
            (at_last (is_last (omega (arith, whole_length, rest_length)))).1 ∙ before_here i (omega (arith, rest_length)) ∙ sym (before_slot xs ys slot i low)
        | inr high ↦
            (past_last (not_last (omega (arith, whole_length, rest_length)))).2 ∙ chain.last (i + 1) (omega (arith, whole_length, rest_length))
            ∙ sym (behind_slot xs ys slot i high)
      ]

  nexts_left : (i : ℕ) → i + 1 < length (xs ++ ys) → next' (slice_index (xs ++ ys) i) ≡ slice_index (xs ++ ys) (i + 1)
  nexts_left i within =
      elim (cases_lt (i + 1) (length xs)) [
        | inl low ↦
            ap next' (before_slot xs ys slot i (omega arith)) ∙ next_kept i (omega (arith, whole_length)) (omega arith)
            ∙ chain.nexts i (omega (arith, whole_length)) ∙ sym (before_slot xs ys slot (i + 1) low)
        | inr high ↦ elim (cases_lt i (length xs)) [
          | inl low ↦
              let is : i + 1 ≡ length xs = omega arith in
              let one : length xs + 1 ≡ i + 1 + 1 = omega arith in
              ap next' (before_slot xs ys slot i low ∙ sym (before_here i is)) ∙ (past_first (not_first (omega arith))).0
              ∙ after_here (omega (arith, whole_length, rest_length)) ∙ ap (slice_index (xs ++ slot ∷ ys)) one ∙ sym (behind_slot xs ys slot (i + 1) high)
          | inr past ↦
              ap next' (behind_slot xs ys slot i past) ∙ next_kept (i + 1) (omega (arith, whole_length, rest_length)) (omega arith)
              ∙ chain.nexts (i + 1) (omega (arith, whole_length, rest_length)) ∙ sym (behind_slot xs ys slot (i + 1) high)
        ]
      ]

  prevs_left : (i : ℕ) → i + 1 < length (xs ++ ys) → prev' (slice_index (xs ++ ys) (i + 1)) ≡ slice_index (xs ++ ys) i
  prevs_left i within =
      elim (cases_lt (i + 1) (length xs)) [
        | inl low ↦
            ap prev' (before_slot xs ys slot (i + 1) low) ∙ prev_kept (i + 1) (omega (arith, whole_length)) (omega arith)
            ∙ chain.prevs i (omega (arith, whole_length)) ∙ sym (before_slot xs ys slot i (omega arith))
        | inr high ↦ elim (cases_lt i (length xs)) [
          | inl low ↦
              let is : i + 1 ≡ length xs = omega arith in
              let one : i + 1 + 1 ≡ length xs + 1 = omega arith in
              let more : length xs + 1 < length (xs ++ slot ∷ ys) = omega (arith, whole_length, rest_length) in
              ap prev' (behind_slot xs ys slot (i + 1) high ∙ ap (slice_index (xs ++ slot ∷ ys)) one ∙ sym (after_here more))
              ∙ (past_last (not_last more)).0 ∙ before_here i is ∙ sym (before_slot xs ys slot i low)
          | inr past ↦
              ap prev' (behind_slot xs ys slot (i + 1) high) ∙ prev_kept (i + 1 + 1) (omega (arith, whole_length, rest_length)) (omega arith)
              ∙ chain.prevs (i + 1) (omega (arith, whole_length, rest_length)) ∙ sym (behind_slot xs ys slot i past)
        ]
      ]

  owned_left : (i : ℕ) → i < length (xs ++ ys) → owner' (slice_index (xs ++ ys) i) ≡ Some list
  owned_left i within =
      let index = index_with xs ys slot i in
      let low : index.0 < length (xs ++ slot ∷ ys) = elim index.2 [ inl p ↦ omega (arith, p.0, p.1, whole_length) | inr p ↦ omega (arith, p.0, p.1, whole_length, rest_length) ] in
      owners (slice_index (xs ++ ys) i) ∙ ap owner index.1 ∙ chain.owned index.0 low

  apart_left : (i j : ℕ) → i < length (xs ++ ys) → j < length (xs ++ ys) → slice_index (xs ++ ys) i ≡ slice_index (xs ++ ys) j → i ≡ j
  apart_left i j low high same =
      let one = index_with xs ys slot i in
      let two = index_with xs ys slot j in
      let one_low : one.0 < length (xs ++ slot ∷ ys) = elim one.2 [ inl p ↦ omega (arith, p.0, p.1, whole_length) | inr p ↦ omega (arith, p.0, p.1, whole_length, rest_length) ] in
      let two_low : two.0 < length (xs ++ slot ∷ ys) = elim two.2 [ inl p ↦ omega (arith, p.0, p.1, whole_length) | inr p ↦ omega (arith, p.0, p.1, whole_length, rest_length) ] in
      let equal : one.0 ≡ two.0 = chain.apart one.0 two.0 one_low two_low (sym one.1 ∙ same ∙ two.1) in
      elim one.2 [
        | inl p ↦ elim two.2 [ inl q ↦ omega (arith, p.0, p.1, q.0, q.1) | inr q ↦ omega (arith, p.0, p.1, q.0, q.1) ]
        | inr p ↦ elim two.2 [ inl q ↦ omega (arith, p.0, p.1, q.0, q.1) | inr q ↦ omega (arith, p.0, p.1, q.0, q.1) ]
      ]

  pub chain_left : IsChain owner' next' prev' list ends' (xs ++ ys)
  chain_left =
      record {
        counted = omega (arith, chain.counted, whole_length, rest_length);
        owned = owned_left;
        first = first_left;
        last = last_left;
        nexts = nexts_left;
        prevs = prevs_left;
        apart = apart_left;
      }

-- the chain with one more slot at its end
module _ (owner owner' : ℕ → Option ℕ) (next prev next' prev' : ℕ → ℕ) (list : ℕ) (ends ends' : Ends) (slots : List ℕ) (slot : ℕ)
    (chain : IsChain owner next prev list ends slots)
    (fresh : ¬ IsAmong slot slots)
    (own : owner slot ≡ Some list)
    (owners : (k : ℕ) → owner' k ≡ owner k)
    (back : prev' slot ≡ ends.last)
    (backs : (k : ℕ) → k ≢ slot → prev' k ≡ prev k)
    (none : ends.len ≡ 0 → ends'.first ≡ slot)
    (some : 0 < ends.len → (ends'.first ≡ ends.first) × (next' ends.last ≡ slot) × ((k : ℕ) → k ≢ ends.last → next' k ≡ next k))
    (last : ends'.last ≡ slot)
    (longer : ends'.len ≡ ends.len + 1) where
  long_length : length (slots ++ slot ∷ []) ≡ length slots + 1
  long_length = length_push slots slot

  older : (i : ℕ) → i < length slots → slice_index (slots ++ slot ∷ []) i ≡ slice_index slots i
  older i low = get_or_append_left slots (slot ∷ []) 0 i low

  newest : (i : ℕ) → length slots ≡ i → slice_index (slots ++ slot ∷ []) i ≡ slot
  newest i is = get_or_push slots slot 0 i is

  owned_more : (i : ℕ) → i < length (slots ++ slot ∷ []) → owner' (slice_index (slots ++ slot ∷ []) i) ≡ Some list
  owned_more i within =
      owners (slice_index (slots ++ slot ∷ []) i) ∙ elim (cases_lt i (length slots)) [
        | inl low ↦ ap owner (older i low) ∙ chain.owned i low
        | inr high ↦ ap owner (newest i (omega (arith, long_length))) ∙ own
      ]

  first_more : 0 < length (slots ++ slot ∷ []) → ends'.first ≡ slice_index (slots ++ slot ∷ []) 0
  first_more within =
      elim (cases_lt 0 (length slots)) [
        | inl low ↦ (some (omega (arith, chain.counted))).0 ∙ chain.first low ∙ sym (older 0 low)
        | inr high ↦ none (omega (arith, chain.counted)) ∙ sym (newest 0 (omega arith))
      ]

  nexts_more : (i : ℕ) → i + 1 < length (slots ++ slot ∷ []) → next' (slice_index (slots ++ slot ∷ []) i) ≡ slice_index (slots ++ slot ∷ []) (i + 1)
  nexts_more i within =
      let low : i < length slots = omega (arith, long_length) in
      let old = some (omega (arith, chain.counted)) in
      ap next' (older i low) ∙ elim (cases_lt (i + 1) (length slots)) [
        | inl more ↦
            old.2 (slice_index slots i) (λ same. absurd (omega (arith, chain.apart i (length slots - 1) low (omega arith) (same ∙ chain.last (length slots - 1) (omega arith)))))
            ∙ chain.nexts i more ∙ sym (older (i + 1) more)
        | inr end ↦ ap next' (sym (chain.last i (omega arith))) ∙ old.1 ∙ sym (newest (i + 1) (omega arith))
      ]

  prevs_more : (i : ℕ) → i + 1 < length (slots ++ slot ∷ []) → prev' (slice_index (slots ++ slot ∷ []) (i + 1)) ≡ slice_index (slots ++ slot ∷ []) i
  prevs_more i within =
      let low : i < length slots = omega (arith, long_length) in
      elim (cases_lt (i + 1) (length slots)) [
        | inl more ↦
            ap prev' (older (i + 1) more) ∙ backs (slice_index slots (i + 1)) (λ same. fresh (i + 1, more, same)) ∙ chain.prevs i more ∙ sym (older i low)
        | inr end ↦ ap prev' (newest (i + 1) (omega arith)) ∙ back ∙ chain.last i (omega arith) ∙ sym (older i low)
      ]

  apart_more : (i j : ℕ) → i < length (slots ++ slot ∷ []) → j < length (slots ++ slot ∷ []) → slice_index (slots ++ slot ∷ []) i ≡ slice_index (slots ++ slot ∷ []) j → i ≡ j
  apart_more i j low high same =
      elim (cases_lt i (length slots)) [
        | inl i_low ↦ elim (cases_lt j (length slots)) [
          | inl j_low ↦ chain.apart i j i_low j_low (sym (older i i_low) ∙ same ∙ older j j_low)
          | inr j_high ↦ absurd (fresh (i, i_low, sym (older i i_low) ∙ same ∙ newest j (omega (arith, long_length))))
        ]
        | inr i_high ↦ elim (cases_lt j (length slots)) [
          | inl j_low ↦ absurd (fresh (j, j_low, sym (older j j_low) ∙ sym same ∙ newest i (omega (arith, long_length))))
          | inr j_high ↦ omega (arith, long_length)
        ]
      ]

  pub chain_longer : IsChain owner' next' prev' list ends' (slots ++ slot ∷ [])
  chain_longer =
      record {
        counted = omega (arith, longer, chain.counted, long_length);
        owned = owned_more;
        first = first_more;
        last = λ i is. last ∙ sym (newest i (omega (arith, long_length)));
        nexts = nexts_more;
        prevs = prevs_more;
        apart = apart_more;
      }
