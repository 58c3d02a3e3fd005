-- What a search finds among rows that rise by key, and what an edit at that index does.
use Rattle.std.proofs.Common.{◌≡◌, ℕ, ◌+◌, ◌-◌, ◌<◌, ◌≤◌, ◌≢◌, List, [], length, set, Result, Ok, Err, IfOk, IfErr, sym, ap, subst, arith}
use Rattle.std.specs.List.{insert, remove}
use Rattle.std.specs.List.Sorted.{IsSearchInRange, IsBinarySearchResult, IsNonDecreasingBy}
use Rattle.std.specs.Ordering.{nat_cmp, ordering_index}
use Rattle.std.proofs.lemmas.Cmp.{ranked}
use Rattle.std.proofs.lemmas.List.Sorted.{IsNonDecreasingBy-from_default}
use Rattle.std.proofs.lemmas.List.Edits.{length-insert, get_or-insert_below, get_or-insert_at, get_or-insert_above, length-remove, get_or-remove_below, get_or-remove_above}
use Rattle.std.proofs.lemmas.Bool.Decides.{nat_tests}
use Rattle.std.proofs.lemmas.Grind.{common_steps}
use Rattle.pl_lists.specs.Ports.{ports_of}
use Rattle.pl_tables.specs.declared.port_rows.PortRow.{PortRow}
use Rattle.pl_tables.specs.Rows.{no_row, ports_at, row_at, ArePortRows, RowIsAt, IsGapFor, PutsAt}
use Rattle.pl_tables.proofs.Rows.{NoKeyBefore, ports_absent, ports_inserted, ports_present, ports_removed, ports_set}

module _ (l : List PortRow) (are : ArePortRows l) (k : ℕ) where
  -- the comparisons with k rise along the rows, as a binary search asks
  comparisons_rise : IsNonDecreasingBy (λ (row : PortRow). ordering_index (nat_cmp row.key k)) l
  comparisons_rise = IsNonDecreasingBy-from_default (λ (row : PortRow). ordering_index (nat_cmp row.key k)) l no_row (λ i j le within.
      let keys_rise : (row_at l i).key ≤ (row_at l j).key = grind (arith, are.rising i j, λ (same : i ≡ j). ap (λ q. (row_at l q).key) same) in
      grind (arith, nat_tests))

  -- a binary search by key ends at the key, or at the gap for it
  pub searched : (r : Result ℕ ℕ) → IsSearchInRange r (length l) → IsBinarySearchResult (λ (row : PortRow). nat_cmp row.key k) l r → record { found : IfOk r (RowIsAt l k); absent : IfErr r (IsGapFor l k) }
  searched (Ok at) within equal = record { found = record { within = within; has_key = ranked _ k _ (sym (equal no_row)) }; absent = tt }
  searched (Err at) within parted = record {
    found = tt;
    absent = record {
      within = within;
      smaller_before = λ j lt. ranked _ k _ (sym ((parted comparisons_rise).0 j no_row (omega arith) lt));
      greater_after = λ j le lt. ranked _ k _ (sym ((parted comparisons_rise).1 j no_row le lt));
    };
  }

module _ (l : List PortRow) (are : ArePortRows l) (k at : ℕ) (is_at : RowIsAt l k at) where
  no_key_before_at : NoKeyBefore l k at
  no_key_before_at j lt same = omega (arith, are.rising j at lt is_at.within, is_at.has_key)

  no_key_behind : (j : ℕ) → at < j → j < length l → (row_at l j).key ≢ k
  no_key_behind j lt within same = omega (arith, are.rising at j lt within, is_at.has_key)

  -- the ports of a key are those of its row
  pub ports_found : ports_at l k ≡ ports_of (row_at l at).ports
  ports_found = ports_present l k at is_at no_key_before_at

  -- writing over its row changes that key alone
  pub puts_over : (r : PortRow) → r.key ≡ k → PutsAt l (set l at r) k (ports_of r.ports)
  puts_over r is = ports_set l r k at is is_at no_key_before_at

  pub rows_over : (r : PortRow) → r.key ≡ k → ports_of r.ports ≢ [] → ArePortRows (set l at r)
  rows_over r is has = record {
    rising = λ i j lt within. grind (arith, common_steps, are.rising i j, are.rising i at, are.rising at j, is_at.within, is_at.has_key, is);
    filled = λ i within. grind (arith, common_steps, are.filled i, has);
  }

  -- taking its row out changes that key alone
  pub takes_out : PutsAt l (remove l at) k []
  takes_out = ports_removed l k at is_at no_key_before_at no_key_behind

  row_below : (i : ℕ) → i < at → row_at (remove l at) i ≡ row_at l i
  row_below i below = get_or-remove_below l at no_row i below is_at.within

  row_above : (i : ℕ) → at ≤ i → row_at (remove l at) i ≡ row_at l (i + 1)
  row_above i above = get_or-remove_above l at no_row i above is_at.within

  pub rows_without : ArePortRows (remove l at)
  rows_without = record {
    rising = λ i j lt within.
        let shorter = length-remove l at is_at.within in
        let key = λ (row : PortRow). row.key in
        let below = λ (n : ℕ) (h : n < at). ap key (row_below n h) in
        let above = λ (n : ℕ) (h : at ≤ n). ap key (row_above n h) in
        grind (arith, below i, below j, above i, above j, are.rising i j, are.rising i (j + 1), are.rising (i + 1) (j + 1));
    filled = λ i within none.
        let shorter = length-remove l at is_at.within in
        let ports = λ (row : PortRow). ports_of row.ports in
        let below = λ (h : i < at). ap ports (row_below i h) in
        let above = λ (h : at ≤ i). ap ports (row_above i h) in
        grind (arith, below, above, are.filled i, are.filled (i + 1), none);
  }

module _ (l : List PortRow) (k at : ℕ) (gap : IsGapFor l k at) where
  -- a key that has a gap has no ports
  pub ports_in_gap : ports_at l k ≡ []
  ports_in_gap = ports_absent l k (λ j lt same. grind (arith, gap.smaller_before j, gap.greater_after j))

  -- so nothing changes where its row is to go
  pub none_taken : PutsAt l l k []
  none_taken q = grind (arith, nat_tests, ports_in_gap, λ (same : k ≡ q). ap (ports_at l) same)

  -- a new row in the gap changes that key alone
  pub puts_in : (r : PortRow) → r.key ≡ k → PutsAt l (insert l at r) k (ports_of r.ports)
  puts_in r is = ports_inserted l r k at is (λ j lt same. omega (arith, gap.smaller_before j lt))

  pub rows_with : (r : PortRow) → r.key ≡ k → ports_of r.ports ≢ [] → ArePortRows l → ArePortRows (insert l at r)
  rows_with r is has are =
      let new = insert l at r in
      let longer = length-insert l at r gap.within in
      let below : (i : ℕ) → i < at → row_at new i ≡ row_at l i = λ i h. get_or-insert_below l at r no_row i h gap.within in
      let here : (i : ℕ) → i ≡ at → row_at new i ≡ r = λ i h. rw h (get_or-insert_at l at r no_row gap.within) in
      let above : (i : ℕ) → at < i → row_at new i ≡ row_at l (i - 1) = λ i h. subst (λ q. row_at new q ≡ row_at l (i - 1)) {x = i - 1 + 1} (omega arith) (get_or-insert_above l at r no_row (i - 1) (omega arith) gap.within) in
      let key = λ (row : PortRow). row.key in
      let ports = λ (row : PortRow). ports_of row.ports in
      let key_below = λ (i : ℕ) (h : i < at). ap key (below i h) in
      let key_here = λ (i : ℕ) (h : i ≡ at). ap key (here i h) in
      let key_above = λ (i : ℕ) (h : at < i). ap key (above i h) in
      record {
        rising = λ i j lt within. grind (arith, is, key_below i, key_here i, key_above i, key_below j, key_here j, key_above j, are.rising i j, are.rising i (j - 1), are.rising (i - 1) (j - 1), gap.smaller_before i, gap.greater_after (j - 1));
        filled = λ i within none.
            let ports_below = λ (h : i < at). ap ports (below i h) in
            let ports_here = λ (h : i ≡ at). ap ports (here i h) in
            let ports_above = λ (h : at < i). ap ports (above i h) in
            grind (arith, ports_below, ports_here, ports_above, are.filled i, are.filled (i - 1), has, none);
      }
