-- One list of a pool changes, and the others stay.
use Rattle.std.proofs.Common.{◌≡◌, ◌≢◌, ℕ, ◌+◌, ◌<◌, ◌≤◌, List, length, map, set, Some, sym, ap, ◌∙◌, subst, inl, inr, arith, length-set, get_or-set_same, get_or-set_other}
use Rattle.std.proofs.lemmas.Bool.{cases_eq}
use Rattle.std.proofs.lemmas.List.{map-set}
use Rattle.std.proofs.lemmas.List.Sums.{sum_by-set}
use Rattle.slab.specs.Slab.{Slab, slab_len}
use Rattle.pl_pool.specs.declared.links.Node.{Node}
use Rattle.pl_pool.specs.declared.links.Ends.{Ends}
use Rattle.pl_pool.specs.Chains.{IsChainIn, IsAmong, IsPool, ends_at, no_ends, owner_of, next_of, prev_of, item_in, slots_of, pairs_of, entries, lists_of}
use Rattle.pl_pool.proofs.Chains.{chain_kept, chain_is_walked}
use Rattle.pl_pool.proofs.Words.{entries_same, set_map_other}

module _ {T : Type 0} where
  -- nothing changes at the nodes of other lists, and no node comes to them
  pub record LeavesOthers (old new : Slab (Node T)) (list : ℕ) : Type 0 where
    pub owners : (slot other : ℕ) → owner_of old slot ≡ Some other → other ≢ list → owner_of new slot ≡ owner_of old slot
    pub nexts : (slot other : ℕ) → owner_of old slot ≡ Some other → other ≢ list → next_of new slot ≡ next_of old slot
    pub prevs : (slot other : ℕ) → owner_of old slot ≡ Some other → other ≢ list → prev_of new slot ≡ prev_of old slot
    pub items : (slot other : ℕ) → owner_of old slot ≡ Some other → other ≢ list → item_in new slot ≡ item_in old slot
    pub came : (slot other : ℕ) → owner_of new slot ≡ Some other → other ≢ list → owner_of old slot ≡ Some other

  pub slots_are : (nodes : Slab (Node T)) (list : ℕ) (ends : Ends) (slots : List ℕ) → IsChainIn nodes list ends slots → slots_of nodes ends ≡ slots
  slots_are nodes list ends slots chain = chain_is_walked (owner_of nodes) (next_of nodes) (prev_of nodes) list ends slots chain

  module _ (nodes new : Slab (Node T)) (ends : List Ends) (spare spare' list : ℕ) (end : Ends) (slots : List ℕ)
      (pool : IsPool nodes ends spare) (within : list < length ends)
      (chain : IsChainIn new list end slots) (others : LeavesOthers nodes new list)
      (listed : (slot : ℕ) → owner_of new slot ≡ Some list → IsAmong slot slots)
      (counted : slab_len new + (ends_at ends list).len ≡ slab_len nodes + end.len)
      (room : slab_len new + spare' ≤ new.capacity) where
    at_list : ends_at (set ends list end) list ≡ end
    at_list = get_or-set_same ends list end no_ends within

    at_other : (other : ℕ) → other ≢ list → ends_at (set ends list end) other ≡ ends_at ends other
    at_other other differs = get_or-set_other ends list other end no_ends differs

    other_chain : (other : ℕ) → other < length ends → other ≢ list → IsChainIn new other (ends_at ends other) (slots_of nodes (ends_at ends other))
    other_chain other low differs =
        let was = pool.chains other low in
        chain_kept (owner_of nodes) (owner_of new) (next_of nodes) (prev_of nodes) (next_of new) (prev_of new) other (ends_at ends other)
        (slots_of nodes (ends_at ends other)) was (λ i at. (
          others.owners _ other (was.owned i at) differs,
          others.nexts _ other (was.owned i at) differs,
          others.prevs _ other (was.owned i at) differs,
        ))

    same_slots : (other : ℕ) → other < length ends → other ≢ list → slots_of new (ends_at ends other) ≡ slots_of nodes (ends_at ends other)
    same_slots other low differs = slots_are new other (ends_at ends other) (slots_of nodes (ends_at ends other)) (other_chain other low differs)

    new_slots : slots_of new end ≡ slots
    new_slots = slots_are new list end slots chain

    changed_chain : (other : ℕ) → other < length (set ends list end)
        → IsChainIn new other (ends_at (set ends list end) other) (slots_of new (ends_at (set ends list end) other))
    changed_chain other low =
        elim (cases_eq other list) [
          | inl same ↦
              subst (λ l. IsChainIn new l (ends_at (set ends list end) l) (slots_of new (ends_at (set ends list end) l))) (sym same)
              (subst (λ (e : Ends). IsChainIn new list e (slots_of new e)) (sym at_list) (subst (IsChainIn new list end) (sym new_slots) chain))
          | inr differs ↦
              let below : other < length ends = omega (arith, length-set ends list end) in
              subst (λ (e : Ends). IsChainIn new other e (slots_of new e)) (sym (at_other other differs))
              (subst (IsChainIn new other (ends_at ends other)) (sym (same_slots other below differs)) (other_chain other below differs))
        ]

    changed_listed : (slot other : ℕ) → owner_of new slot ≡ Some other
        → (other < length (set ends list end)) × IsAmong slot (slots_of new (ends_at (set ends list end) other))
    changed_listed slot other owned =
        elim (cases_eq other list) [
          | inl same ↦ (
            omega (arith, same, within, length-set ends list end),
            subst (IsAmong slot) (sym (ap (λ l. slots_of new (ends_at (set ends list end) l)) same ∙ ap (slots_of new) at_list ∙ new_slots))
                (listed slot (owned ∙ ap (λ (l : ℕ). Some l) same)),
          )
          | inr differs ↦
              let was = pool.listed slot other (others.came slot other owned differs) in (
                omega (arith, was.0, length-set ends list end),
                subst (IsAmong slot) (sym (ap (slots_of new) (at_other other differs) ∙ same_slots other was.0 differs)) was.1,
              )
        ]

    pub changed_pool : IsPool new (set ends list end) spare'
    changed_pool =
        record {
          chains = changed_chain;
          listed = changed_listed;
          counted = omega (arith, sum_by-set (λ (e : Ends). e.len) ends list end no_ends within, pool.counted, counted);
          room = room;
        }

    pub changed_lists : lists_of new (set ends list end) ≡ set (lists_of nodes ends) list (entries (item_in new) slots)
    changed_lists =
        map-set (pairs_of new) ends list end
        ∙ ap (λ (l : List ℕ). set (map (pairs_of new) ends) list (entries (item_in new) l)) new_slots
        ∙ set_map_other (pairs_of new) (pairs_of nodes) no_ends ends list (entries (item_in new) slots) (λ other low differs.
        ap (entries (item_in new)) (same_slots other low differs)
        ∙ entries_same (item_in new) (item_in nodes) (slots_of nodes (ends_at ends other)) (λ i at. others.items _ other ((pool.chains other low).owned i at) differs))
