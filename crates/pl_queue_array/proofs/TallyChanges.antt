-- A leaf of a tree of counts changes, and the nodes above it after it.
use Rattle.std.proofs.Common.{◌≡◌, ℕ, ◌+◌, ◌*◌, ◌/◌, ◌<◌, ◌≤◌, ◌≢◌, ◌==◌, Bool, true, false, cond, List, length, replicate, slice_index, slice_index_or, slice_set, refl, sym, ap, ◌∙◌, inl, inr, arith}
use Rattle.std.proofs.Math.Nat.{mul-le-mul_left}
use Rattle.std.proofs.lemmas.Bool.{cases_eq}
use Rattle.std.proofs.lemmas.List.{get_or-set_same, get_or-set_other, get_or-replicate, length-replicate, length-set, same_lists}
use Rattle.std.proofs.lemmas.List.FromFn.{length-map-range_with_len, get_or-map-range_with_len}
use Rattle.pl_bits.proofs.Exports.{zeros_at}
use Rattle.pl_queue_array.specs.Tallies.{IsSummed, IsTallyTree, is_counted, leaves_of, marks_in}

-- the leaf of an index has a new count, and only the node above `node` may not yet be the sum of those below it
pub record IsRenewed (width : ℕ) (old now : List ℕ) (at count node : ℕ) : Type 0 where
  pub size : length now ≡ width + width
  pub some : 0 < node
  pub inside : node < width + width
  pub sums : (k : ℕ) → 0 < k → k < width → k ≢ node / 2 → slice_index now k ≡ slice_index now (2 * k) + slice_index now (2 * k + 1)
  pub few : (k : ℕ) → slice_index now k * k ≤ width + width
  pub leaves : (j : ℕ) → slice_index now (width + j) ≡ slice_index (slice_set old (width + at) count) (width + j)

module _ (width : ℕ) (old : List ℕ) (at count : ℕ) (summed : IsSummed width old) (within : at < width) (one : count ≤ 1) where
  abbrev leaf : ℕ
  leaf = width + at

  abbrev put : List ℕ
  put = slice_set old leaf count

  leaf_there : leaf < length old
  leaf_there = let size = summed.size in omega arith

  other : (k : ℕ) → k ≢ leaf → slice_index put k ≡ slice_index old k
  other k apart = get_or-set_other old leaf k count 0 apart

  pub renewed_leaf : IsRenewed width old put at count leaf
  renewed_leaf = record {
    size = length-set old leaf count ∙ summed.size;
    some = omega arith;
    inside = omega arith;
    sums = λ k some above apart.
        let sum = summed.sums k some above in
        let here = other k (omega arith) in
        let left = other (2 * k) (omega arith) in
        let right = other (2 * k + 1) (omega arith) in
        omega arith;
    few = λ k. elim (cases_eq k leaf) [
      | inl same ↦
          let value : slice_index put k ≡ count = ap (slice_index put) same ∙ get_or-set_same old leaf count 0 leaf_there in
          let small : k * count ≤ k * 1 = mul-le-mul_left k one in
          let product : slice_index put k * k ≡ count * k = ap (λ x. x * k) value in
          omega arith
      | inr apart ↦
          let before = summed.few k in
          let product : slice_index put k * k ≡ slice_index old k * k = ap (λ x. x * k) (other k apart) in
          omega arith
    ];
    leaves = λ j. refl;
  }

  module _ (now : List ℕ) (node : ℕ) (renewed : IsRenewed width old now at count node) where
    abbrev above : ℕ
    above = node / 2

    abbrev sum : ℕ
    sum = slice_index now (2 * above) + slice_index now (2 * above + 1)

    pub renewed_above : 1 < node → IsRenewed width old (slice_set now above sum) at count above
    renewed_above more =
        let size = renewed.size in
        let inside = renewed.inside in
        let here : slice_index (slice_set now above sum) above ≡ sum = get_or-set_same now above sum 0 (omega arith) in
        let others : (k : ℕ) → k ≢ above → slice_index (slice_set now above sum) k ≡ slice_index now k = λ k apart. get_or-set_other now above k sum 0 apart in
        record {
          size = length-set now above sum ∙ size;
          some = omega arith;
          inside = omega arith;
          sums = λ k some low apart. elim (cases_eq k above) [
            | inl same ↦
                let value : slice_index (slice_set now above sum) k ≡ slice_index now (2 * k) + slice_index now (2 * k + 1) =
                ap (slice_index (slice_set now above sum)) same ∙ here ∙ ap (λ n. slice_index now (2 * n) + slice_index now (2 * n + 1)) (sym same) in
                let left = others (2 * k) (omega arith) in
                let right = others (2 * k + 1) (omega arith) in
                omega arith
            | inr differs ↦
                let before = renewed.sums k some low differs in
                let itself = others k differs in
                let left = others (2 * k) (omega arith) in
                let right = others (2 * k + 1) (omega arith) in
                omega arith
          ];
          few = λ k. elim (cases_eq k above) [
            | inl same ↦
                let left = renewed.few (2 * above) in
                let right = renewed.few (2 * above + 1) in
                let product : slice_index (slice_set now above sum) k * k ≡ sum * above = ap (λ n. slice_index (slice_set now above sum) n * n) same ∙ ap (λ x. x * above) here in
                omega arith
            | inr differs ↦
                let before = renewed.few k in
                let product : slice_index (slice_set now above sum) k * k ≡ slice_index now k * k = ap (λ x. x * k) (others k differs) in
                omega arith
          ];
          leaves = λ j. others (width + j) (omega arith) ∙ renewed.leaves j;
        }

    -- at the root all nodes are sums again
    pub renewed_all : node ≤ 1 → IsSummed width now
    renewed_all root =
        let some = renewed.some in
        record {
          size = renewed.size;
          sums = λ k positive low. renewed.sums k positive low (omega arith);
          few = renewed.few;
          ones = λ j. elim (cases_eq j at) [
            | inl same ↦
                let value : slice_index now (width + j) ≡ count =
                renewed.leaves j ∙ ap (λ n. slice_index put (width + n)) same ∙ get_or-set_same old leaf count 0 leaf_there in
                omega arith
            | inr differs ↦
                let value : slice_index now (width + j) ≡ slice_index old (width + j) = renewed.leaves j ∙ other (width + j) (omega arith) in
                let before = summed.ones j in
                omega arith
          ];
        }

count_of_mark : (mark : Bool) → (cond mark 1 0 == 1) ≡ mark
count_of_mark true = refl
count_of_mark false = refl

module _ (n levels width : ℕ) (old : List ℕ) (at : ℕ) (mark : Bool) (is : IsTallyTree n levels width old) (inside : at < n) (new : List ℕ)
    (leaves : (j : ℕ) → slice_index new (width + j) ≡ slice_index (slice_set old (width + at) (cond mark 1 0)) (width + j)) where
  here : slice_index new (width + at) ≡ cond mark 1 0
  here =
      let size = is.summed.size in let room = is.room in
      leaves at ∙ get_or-set_same old (width + at) (cond mark 1 0) 0 (omega arith)

  elsewhere : (k : ℕ) → k ≢ at → slice_index new (width + k) ≡ slice_index old (width + k)
  elsewhere k apart = leaves k ∙ get_or-set_other old (width + at) (width + k) (cond mark 1 0) 0 (omega arith)

  long : (tree : List ℕ) → length (marks_in width tree n) ≡ n
  unfolding marks_in
  long tree = length-map-range_with_len (is_counted width tree) 0 n

  mark_at : (tree : List ℕ) (k : ℕ) (d : Bool) → k < n → slice_index_or (marks_in width tree n) k d ≡ is_counted width tree k
  unfolding marks_in
  mark_at tree k d within = get_or-map-range_with_len (is_counted width tree) 0 n k k d within (omega arith)

  pub marks_in-set : marks_in width new n ≡ slice_set (marks_in width old n) at mark
  marks_in-set =
      same_lists (marks_in width new n) (slice_set (marks_in width old n) at mark)
      (long new ∙ sym (long old) ∙ sym (length-set (marks_in width old n) at mark))
      (λ k d h.
      let within : k < n = omega (arith, long new) in
      elim (cases_eq k at) [
        | inl same ↦
            mark_at new k d within ∙ ap (is_counted width new) same ∙ ap (λ x. x == 1) here ∙ count_of_mark mark
            ∙ sym (get_or-set_same (marks_in width old n) at mark d (omega (arith, long old)))
            ∙ ap (λ q. slice_index_or (slice_set (marks_in width old n) at mark) q d) (sym same)
        | inr apart ↦
            mark_at new k d within ∙ ap (λ x. x == 1) (elsewhere k apart) ∙ sym (mark_at old k d within)
            ∙ sym (get_or-set_other (marks_in width old n) at k mark d apart)
      ])

  pub IsTallyTree-set : IsSummed width new → IsTallyTree n levels width new
  IsTallyTree-set summed = record {
    leaves = is.leaves;
    room = is.room;
    small = is.small;
    summed = summed;
    none = λ k past. elsewhere k (omega arith) ∙ is.none k past;
  }

-- no index is counted
pub IsTallyTree-zeros : (n levels width : ℕ) → width ≡ leaves_of levels → n ≤ width → width ≤ 2199023255552 → IsTallyTree n levels width (replicate (2 * width) 0)
IsTallyTree-zeros n levels width leaves room small = record {
  leaves = leaves;
  room = room;
  small = small;
  summed = record {
    size = let long = length-replicate {A = ℕ} (2 * width) 0 in omega arith;
    sums = λ k some low.
        let here = zeros_at (2 * width) k in
        let left = zeros_at (2 * width) (2 * k) in
        let right = zeros_at (2 * width) (2 * k + 1) in
        omega arith;
    ones = λ at. let none = zeros_at (2 * width) (width + at) in omega arith;
    few = λ k. let none : slice_index (replicate (2 * width) 0) k * k ≡ 0 * k = ap (λ x. x * k) (zeros_at (2 * width) k) in omega arith;
  };
  none = λ at past. zeros_at (2 * width) (width + at);
}

pub marks_in-zeros : (n width : ℕ) → marks_in width (replicate (2 * width) 0) n ≡ replicate n false
unfolding marks_in
marks_in-zeros n width =
    same_lists (marks_in width (replicate (2 * width) 0) n) (replicate n false)
    (length-map-range_with_len (is_counted width (replicate (2 * width) 0)) 0 n ∙ sym (length-replicate n false))
    (λ k d h.
    let within : k < n = omega (arith, length-map-range_with_len (is_counted width (replicate (2 * width) 0)) 0 n) in
    get_or-map-range_with_len (is_counted width (replicate (2 * width) 0)) 0 n k k d within (omega arith)
    ∙ ap (λ x. x == 1) (zeros_at (2 * width) (width + k)) ∙ sym (get_or-replicate n k false d within))

-- an index of the marks is below n
pub index_within : (n width at : ℕ) (tree : List ℕ) (marks : List Bool) → marks_in width tree n ≡ marks → at < length marks → at < n
unfolding marks_in
index_within n width at tree marks e h = omega (arith, ap length e, length-map-range_with_len (is_counted width tree) 0 n)
