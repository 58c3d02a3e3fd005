-- What the nodes of a tree of counts count, and the way down to a marked index.
use Rattle.std.proofs.Common.{◌≡◌, ℕ, zero, suc, ◌+◌, ◌-◌, ◌*◌, ◌<◌, ◌≤◌, ◌==◌, Bool, true, false, cond, List, [], ◌∷◌, ◌++◌, length, Option, Some, None, slice_get, slice_index, sym, ap, ◌∙◌, inl, inr, arith}
use Rattle.std.specs.List.{filter, range_with_len}
use Rattle.std.proofs.Math.Nat.{mul-le-mul_left}
use Rattle.std.proofs.lemmas.Bool.{cases_Bool, cases_eq, cases_lt, eq-eqb, eqb-true}
use Rattle.std.proofs.lemmas.List.{append-nil, get_or_past, length-append}
use Rattle.std.proofs.lemmas.List.Sums.{count_by-le-length, length-filter}
use Rattle.std.proofs.lemmas.List.FromFn.{length-range_with_len, length-map-range_with_len, get_or-map-range_with_len}
use Rattle.std.proofs.lemmas.Option.{slice_get_past}
use Rattle.std.proofs.lemmas.List.Elements.{filter_agree}
use Rattle.pl_queue_array.specs.Bits.{is_marked}
use Rattle.pl_queue_array.specs.Tallies.{IsSummed, IsTallyTree, is_counted, leaves_of, marked_indices, marks_in}
use Rattle.pl_queue_array.proofs.Ranges.{none_there, slice_get_left, slice_get_right, those, those_split}

pub some_leaves : (levels : ℕ) → 0 < leaves_of levels
some_leaves zero = omega arith
some_leaves (suc levels) = let more = some_leaves levels in omega arith

nothing_times : (node p : ℕ) → node ≡ 0 → node * p ≡ 0
nothing_times node p none = ap (λ n. n * p) none ∙ (let zeros : 0 * p ≡ 0 = omega arith in zeros)

-- the way down has come to a node, with the number of the index that is sought among those below it
pub record LeadsTo (width : ℕ) (tree : List ℕ) (answer : Option ℕ) (levels node left : ℕ) : Type 0 where
  pub reached : width ≤ node * leaves_of levels
  pub within : node * leaves_of levels + leaves_of levels ≤ width + width
  pub some : left < slice_index tree node
  pub same : answer ≡ slice_get (those (is_counted width tree) (node * leaves_of levels - width) (leaves_of levels)) left

module _ (width : ℕ) (tree : List ℕ) (is : IsSummed width tree) where
  abbrev pub indices : ℕ → ℕ → List ℕ
  indices = those (is_counted width tree)

  one_index : (at : ℕ) → length (indices at 1) ≡ slice_index tree (width + at)
  one_index at = elim (cases_Bool (is_counted width tree at)) [
    | inl marked ↦
        let one : slice_index tree (width + at) ≡ 1 = eqb-true _ _ marked in
        ap (λ b. length (cond b (at ∷ []) [])) marked ∙ sym one
    | inr unmarked ↦
        let few = is.ones at in
        let none : slice_index tree (width + at) ≡ 0 = elim (cases_eq (slice_index tree (width + at)) 1) [
          | inl one ↦ absurd (let marked = eq-eqb _ _ one in cc)
          | inr other ↦ omega arith
        ] in
        ap (λ b. length (cond b (at ∷ []) [])) unmarked ∙ sym none
  ]

  -- a node above the leaves that has the indices from `from` on
  pub node_above : (p node from : ℕ) → 0 < p → node * (p + p) ≡ width + from → from + (p + p) ≤ width → (0 < node) × (node < width)
  node_above p node from some here inside =
      let much : node * 1 ≤ node * p = mul-le-mul_left node (omega arith) in
      elim (cases_eq node 0) [
        | inl none ↦ let nothing = nothing_times node (p + p) none in absurd (omega arith)
        | inr other ↦ (omega arith, omega arith)
      ]

  -- a node counts the marked indices below it
  pub node_counts : (levels node from : ℕ) → node * leaves_of levels ≡ width + from → from + leaves_of levels ≤ width
      → length (indices from (leaves_of levels)) ≡ slice_index tree node
  node_counts zero node from here inside =
      let same : width + from ≡ node = omega arith in
      one_index from ∙ ap (slice_index tree) same
  node_counts (suc levels) node from here inside =
      let p : ℕ = leaves_of levels in
      let above = node_above p node from (some_leaves levels) here inside in
      let left = node_counts levels (2 * node) from (omega arith) (omega arith) in
      let right = node_counts levels (2 * node + 1) (from + p) (omega arith) (omega arith) in
      let both = ap length (those_split (is_counted width tree) p p from) in
      let parts = length-append (indices from p) (indices (from + p) p) in
      let sum = is.sums node above.0 above.1 in
      omega arith

  module _ (answer : Option ℕ) (levels node left : ℕ) (leads : LeadsTo width tree answer (suc levels) node left) where
    abbrev half : ℕ
    half = leaves_of levels

    abbrev from : ℕ
    from = node * (half + half) - width

    pub there : (0 < node) × (node < width)
    there =
        let reached = leads.reached in let within = leads.within in
        node_above half node from (some_leaves levels) (omega arith) (omega arith)

    counted_left : length (indices from half) ≡ slice_index tree (2 * node)
    counted_left =
        let reached = leads.reached in let within = leads.within in
        node_counts levels (2 * node) from (omega arith) (omega arith)

    split : indices from (half + half) ≡ indices from half ++ indices (from + half) half
    split = those_split (is_counted width tree) half half from

    pub goes_left : left < slice_index tree (2 * node) → LeadsTo width tree answer levels (2 * node) left
    goes_left few =
        let reached = leads.reached in let within = leads.within in
        let start : from ≡ 2 * node * half - width = omega arith in
        record {
          reached = omega arith;
          within = omega arith;
          some = few;
          same =
              leads.same ∙ ap (λ l. slice_get l left) split
              ∙ slice_get_left (indices from half) (indices (from + half) half) left (omega (arith, few, counted_left))
              ∙ ap (λ a. slice_get (indices a half) left) start;
        }

    pub goes_right : slice_index tree (2 * node) ≤ left → LeadsTo width tree answer levels (2 * node + 1) (left - slice_index tree (2 * node))
    goes_right many =
        let reached = leads.reached in let within = leads.within in
        let some = leads.some in
        let sum = is.sums node there.0 there.1 in
        let start : from + half ≡ (2 * node + 1) * half - width = omega arith in
        record {
          reached = omega arith;
          within = omega arith;
          some = omega arith;
          same =
              leads.same ∙ ap (λ l. slice_get l left) split
              ∙ slice_get_right (indices from half) (indices (from + half) half) left (omega (arith, many, counted_left))
              ∙ ap (λ n. slice_get (indices (from + half) half) (left - n)) counted_left
              ∙ ap (λ a. slice_get (indices a half) (left - slice_index tree (2 * node))) start;
        }

  -- a leaf is the index
  pub leads_to_leaf : (answer : Option ℕ) (node left : ℕ) → LeadsTo width tree answer 0 node left → (width ≤ node) × (answer ≡ Some (node - width))
  leads_to_leaf answer node left leads =
      let reached = leads.reached in let within = leads.within in let some = leads.some in
      let few = is.ones (node - width) in
      let back : width + (node - width) ≡ node = omega arith in
      let start : node * 1 - width ≡ node - width = omega arith in
      let here : ◌≡◌ {A = ℕ} (slice_index tree (width + (node - width))) (slice_index tree node) = ap (slice_index tree) back in
      let first : left ≡ 0 = omega arith in
      let counted : is_counted width tree (node - width) ≡ true = eq-eqb _ _ (omega arith) in (
        omega arith,
        leads.same ∙ ap (λ a. slice_get (indices a 1) left) start
            ∙ ap (λ b. slice_get (cond b ((node - width) ∷ []) []) left) counted
            ∙ ap (slice_get ((node - width) ∷ [])) first,
      )

-- no more indices are marked than there are
pub few_marked : (marks : List Bool) → length (marked_indices marks) ≤ length marks
few_marked marks =
    let kept = length-filter (is_marked marks) (range_with_len 0 (length marks)) in
    let few = count_by-le-length (is_marked marks) (range_with_len 0 (length marks)) in
    omega (arith, kept, few, length-range_with_len 0 (length marks))

-- what a tally counts
module _ (n levels width : ℕ) (tree : List ℕ) (is : IsTallyTree n levels width tree) where
  abbrev all_indices : List ℕ
  all_indices = those (is_counted width tree) 0 n

  not_past : (k : ℕ) → n ≤ k → is_counted width tree k ≡ false
  not_past k past = ap (λ count. count == 1) (is.none k past)

  whole : those (is_counted width tree) 0 width ≡ all_indices
  whole =
      let room = is.room in
      let many : width ≡ n + (width - n) = omega arith in
      let start : 0 + n ≡ n = omega arith in
      ap (those (is_counted width tree) 0) many ∙ those_split (is_counted width tree) n (width - n) 0
      ∙ ap (λ a. all_indices ++ those (is_counted width tree) a (width - n)) start
      ∙ ap (λ l. all_indices ++ l) (none_there (is_counted width tree) (width - n) n not_past)
      ∙ append-nil all_indices

  pub length-marks_in : length (marks_in width tree n) ≡ n
  unfolding marks_in
  length-marks_in = length-map-range_with_len (is_counted width tree) 0 n

  mark_is : (at : ℕ) → is_marked (marks_in width tree n) at ≡ is_counted width tree at
  unfolding marks_in
  mark_is at = elim (cases_lt at n) [
    | inl inside ↦ get_or-map-range_with_len (is_counted width tree) 0 n at at false inside (omega arith)
    | inr past ↦ get_or_past (marks_in width tree n) at false (omega (arith, past, length-marks_in)) ∙ sym (not_past at past)
  ]

  pub marked_are : marked_indices (marks_in width tree n) ≡ those (is_counted width tree) 0 width
  marked_are =
      ap (λ m. filter (is_marked (marks_in width tree n)) (range_with_len 0 m)) length-marks_in
      ∙ filter_agree (is_marked (marks_in width tree n)) (is_counted width tree) mark_is (range_with_len 0 n)
      ∙ sym whole

  root_counts : length (those (is_counted width tree) 0 width) ≡ slice_index tree 1
  root_counts =
      let leaves = is.leaves in
      ap (λ w. length (those (is_counted width tree) 0 w)) leaves
      ∙ node_counts width tree is.summed levels 1 0 (omega arith) (omega arith)

  pub root_there : 1 < length tree
  root_there =
      let leaves = is.leaves in
      let some = some_leaves levels in
      let size = is.summed.size in
      omega arith

  -- the root counts all
  pub count_is : slice_index tree 1 ≡ length (marked_indices (marks_in width tree n))
  count_is = sym (ap length marked_are ∙ root_counts)

  -- the way down begins at the root
  pub leads_from_root : (i : ℕ) → i < slice_index tree 1
      → LeadsTo width tree (slice_get (marked_indices (marks_in width tree n)) i) levels 1 i
  leads_from_root i some =
      let leaves = is.leaves in
      let start : 0 ≡ 1 * leaves_of levels - width = omega arith in
      record {
        reached = omega arith;
        within = omega arith;
        some = some;
        same =
            ap (λ l. slice_get l i) marked_are
            ∙ ap (λ w. slice_get (those (is_counted width tree) 0 w) i) leaves
            ∙ ap (λ a. slice_get (those (is_counted width tree) a (leaves_of levels)) i) start;
      }

  pub none_from_root : (i : ℕ) → slice_index tree 1 ≤ i → None ≡ slice_get (marked_indices (marks_in width tree n)) i
  none_from_root i past = sym (slice_get_past (marked_indices (marks_in width tree n)) i (omega (arith, past, count_is)))
