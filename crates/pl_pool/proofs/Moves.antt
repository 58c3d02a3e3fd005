-- A node leaves its list and the slab, goes to the end of its list, or comes to a list.
use Rattle.std.proofs.Common.{◌≡◌, ◌≢◌, ℕ, ◌+◌, ◌<◌, ◌≤◌, List, [], ◌∷◌, ◌++◌, length, set, Option, None, Some, option_map, slice_index, slice_index_or, sym, ap, ◌∙◌, subst, inl, inr, arith}
use Rattle.std.specs.Option.{option_map_or}
use Rattle.std.proofs.lemmas.Bool.{cases_eq}
use Rattle.std.proofs.lemmas.List.{get_or-map}
use Rattle.std.proofs.lemmas.Option.{none-some, same_Some}
use Rattle.slab.specs.Slab.{Slab, get, slab_len, Updates}
use Rattle.pl_pool.specs.declared.key.Key.{Key}
use Rattle.pl_pool.specs.declared.links.Node.{Node}
use Rattle.pl_pool.specs.declared.links.Ends.{Ends}
use Rattle.pl_pool.specs.Chains.{IsChainIn, IsAmong, IsPool, Relinks, KeepsOthers, ends_at, no_ends, owner_of, next_of, prev_of, item_in, slots_of, pairs_of, entries, lists_of}
use Rattle.pl_pool.proofs.Chains.{chain_kept, slot_not_left, among_left, among_older, among_newest, cut}
use Rattle.pl_pool.proofs.Joints.{slot_owned}
use Rattle.pl_pool.proofs.Words.{entries_same, entries_around}
use Rattle.pl_pool.proofs.Changes.{LeavesOthers, changed_pool, changed_lists}

module _ {T : Type 0} where
  -- a list of the pool is what is read from its ends
  pub list_read : (nodes : Slab (Node T)) (ends : List Ends) (list : ℕ) → list < length ends → slice_index_or (lists_of nodes ends) list [] ≡ pairs_of nodes (ends_at ends list)
  list_read nodes ends list within = get_or-map (pairs_of nodes) ends list no_ends [] within

  module _ (nodes : Slab (Node T)) (ends : List Ends) (spare list slot : ℕ) (pool : IsPool nodes ends spare) (owned : owner_of nodes slot ≡ Some list) where
    pub owned_within : list < length ends
    owned_within = (pool.listed slot list owned).0

    pub owned_among : IsAmong slot (slots_of nodes (ends_at ends list))
    owned_among = (pool.listed slot list owned).1

    pub owned_chain : IsChainIn nodes list (ends_at ends list) (slots_of nodes (ends_at ends list))
    owned_chain = pool.chains list owned_within

    pub owned_cut : (xs : List ℕ) × (ys : List ℕ) × (slots_of nodes (ends_at ends list) ≡ xs ++ slot ∷ ys)
    owned_cut = cut (slots_of nodes (ends_at ends list)) slot owned_among

  -- where it was cut from
  module _ (nodes one two : Slab (Node T)) (ends : List Ends) (spare list slot : ℕ) (end : Ends) (xs ys : List ℕ)
      (pool : IsPool nodes ends spare) (owned : owner_of nodes slot ≡ Some list) (at : slots_of nodes (ends_at ends list) ≡ xs ++ slot ∷ ys)
      (relinks : Relinks nodes one) (left : IsChainIn one list end (xs ++ ys)) (keeps : KeepsOthers nodes one list)
      (shorter : end.len + 1 ≡ (ends_at ends list).len)
      (updates : Updates one two slot None) (len : slab_len two + 1 ≡ slab_len one) (capacity : two.capacity ≡ one.capacity) where
    whole : IsChainIn nodes list (ends_at ends list) (xs ++ slot ∷ ys)
    whole = subst (IsChainIn nodes list (ends_at ends list)) at (owned_chain nodes ends spare list slot pool owned)

    gone : ¬ IsAmong slot (xs ++ ys)
    gone = slot_not_left xs ys slot whole.apart

    no_owner : owner_of two slot ≡ None
    no_owner = ap (λ (o : Option (Node T)). option_map (λ (n : Node T). n.list) o) updates.changed

    owner_stays : (k : ℕ) → k ≢ slot → owner_of two k ≡ owner_of nodes k
    owner_stays k other = ap (λ (o : Option (Node T)). option_map (λ (n : Node T). n.list) o) (updates.others k other) ∙ relinks.owners k

    item_stays : (k : ℕ) → k ≢ slot → item_in two k ≡ item_in nodes k
    item_stays k other = ap (λ (o : Option (Node T)). option_map (λ (n : Node T). n.item) o) (updates.others k other) ∙ relinks.items k

    next_stays : (k : ℕ) → k ≢ slot → next_of two k ≡ next_of one k
    next_stays k other = ap (λ (o : Option (Node T)). option_map_or (λ (n : Node T). n.next) o 0) (updates.others k other)

    prev_stays : (k : ℕ) → k ≢ slot → prev_of two k ≡ prev_of one k
    prev_stays k other = ap (λ (o : Option (Node T)). option_map_or (λ (n : Node T). n.prev) o 0) (updates.others k other)

    owned_yet : (k other : ℕ) → owner_of two k ≡ Some other → k ≢ slot
    owned_yet k other o same = none-some other (sym no_owner ∙ ap (owner_of two) (sym same) ∙ o)

    elsewhere : (k other : ℕ) → owner_of nodes k ≡ Some other → other ≢ list → k ≢ slot
    elsewhere k other o differs same = differs (same_Some other list (sym o ∙ ap (owner_of nodes) same ∙ owned))

    not_listed : (k other : ℕ) → owner_of nodes k ≡ Some other → other ≢ list → owner_of nodes k ≢ Some list
    not_listed k other o differs mine = differs (same_Some other list (sym o ∙ mine))

    removed_chain : IsChainIn two list end (xs ++ ys)
    removed_chain =
        chain_kept (owner_of one) (owner_of two) (next_of one) (prev_of one) (next_of two) (prev_of two) list end (xs ++ ys) left (λ i low.
        let other : slice_index (xs ++ ys) i ≢ slot = λ same. gone (i, low, same) in (
          owner_stays _ other ∙ sym (relinks.owners (slice_index (xs ++ ys) i)),
          next_stays _ other,
          prev_stays _ other,
        ))

    removed_others : LeavesOthers nodes two list
    removed_others =
        record {
          owners = λ k other o differs. owner_stays k (elsewhere k other o differs);
          nexts = λ k other o differs. next_stays k (elsewhere k other o differs) ∙ keeps.nexts k (not_listed k other o differs);
          prevs = λ k other o differs. prev_stays k (elsewhere k other o differs) ∙ keeps.prevs k (not_listed k other o differs);
          items = λ k other o differs. item_stays k (elsewhere k other o differs);
          came = λ k other o differs. sym (owner_stays k (owned_yet k other o)) ∙ o;
        }

    removed_listed : (k : ℕ) → owner_of two k ≡ Some list → IsAmong k (xs ++ ys)
    removed_listed k o =
        let other = owned_yet k list o in
        among_left xs ys slot k (subst (IsAmong k) at (pool.listed k list (sym (owner_stays k other) ∙ o)).1) other

    pub removed_pool : IsPool two (set ends list end) (spare + 1)
    removed_pool =
        changed_pool nodes two ends spare (spare + 1) list end (xs ++ ys) pool (owned_within nodes ends spare list slot pool owned) removed_chain removed_others removed_listed
        (omega (arith, len, relinks.len, shorter)) (omega (arith, len, relinks.len, capacity, relinks.capacity, pool.room))

    pub removed_lists : lists_of two (set ends list end) ≡ set (lists_of nodes ends) list (entries (item_in nodes) (xs ++ ys))
    removed_lists =
        changed_lists nodes two ends spare (spare + 1) list end (xs ++ ys) pool (owned_within nodes ends spare list slot pool owned) removed_chain removed_others removed_listed
        (omega (arith, len, relinks.len, shorter)) (omega (arith, len, relinks.len, capacity, relinks.capacity, pool.room))
        ∙ ap (set (lists_of nodes ends) list) (entries_same (item_in two) (item_in nodes) (xs ++ ys) (λ i low. item_stays _ (λ same. gone (i, low, same))))

  -- it comes to the end of its list again
  module _ (nodes one two : Slab (Node T)) (ends : List Ends) (spare list slot : ℕ) (end1 end2 : Ends) (xs ys : List ℕ)
      (pool : IsPool nodes ends spare) (owned : owner_of nodes slot ≡ Some list) (at : slots_of nodes (ends_at ends list) ≡ xs ++ slot ∷ ys)
      (relinks : Relinks nodes one) (keeps : KeepsOthers nodes one list) (shorter : end1.len + 1 ≡ (ends_at ends list).len)
      (relinks2 : Relinks one two) (long : IsChainIn two list end2 ((xs ++ ys) ++ slot ∷ [])) (keeps2 : KeepsOthers one two list) (longer : end2.len ≡ end1.len + 1) where
    moved_owner : (k : ℕ) → owner_of two k ≡ owner_of nodes k
    moved_owner k = relinks2.owners k ∙ relinks.owners k

    moved_item : (k : ℕ) → item_in two k ≡ item_in nodes k
    moved_item k = relinks2.items k ∙ relinks.items k

    moved_others : LeavesOthers nodes two list
    moved_others =
        record {
          owners = λ k other o differs. moved_owner k;
          nexts = λ k other o differs. keeps2.nexts k (λ mine. differs (same_Some other list (sym o ∙ sym (relinks.owners k) ∙ mine)))
              ∙ keeps.nexts k (λ mine. differs (same_Some other list (sym o ∙ mine)));
          prevs = λ k other o differs. keeps2.prevs k (λ mine. differs (same_Some other list (sym o ∙ sym (relinks.owners k) ∙ mine)))
              ∙ keeps.prevs k (λ mine. differs (same_Some other list (sym o ∙ mine)));
          items = λ k other o differs. moved_item k;
          came = λ k other o differs. sym (moved_owner k) ∙ o;
        }

    moved_listed : (k : ℕ) → owner_of two k ≡ Some list → IsAmong k ((xs ++ ys) ++ slot ∷ [])
    moved_listed k o =
        elim (cases_eq k slot) [
          | inl same ↦ subst (λ j. IsAmong j ((xs ++ ys) ++ slot ∷ [])) (sym same) (among_newest (xs ++ ys) slot)
          | inr differs ↦ among_older (xs ++ ys) slot k (among_left xs ys slot k (subst (IsAmong k) at (pool.listed k list (sym (moved_owner k) ∙ o)).1) differs)
        ]

    pub moved_pool : IsPool two (set ends list end2) spare
    moved_pool =
        changed_pool nodes two ends spare spare list end2 ((xs ++ ys) ++ slot ∷ []) pool (owned_within nodes ends spare list slot pool owned) long moved_others moved_listed
        (omega (arith, relinks.len, relinks2.len, shorter, longer)) (omega (arith, relinks.len, relinks2.len, relinks.capacity, relinks2.capacity, pool.room))

    pub moved_lists : lists_of two (set ends list end2) ≡ set (lists_of nodes ends) list (entries (item_in nodes) ((xs ++ ys) ++ slot ∷ []))
    moved_lists =
        changed_lists nodes two ends spare spare list end2 ((xs ++ ys) ++ slot ∷ []) pool (owned_within nodes ends spare list slot pool owned) long moved_others moved_listed
        (omega (arith, relinks.len, relinks2.len, shorter, longer)) (omega (arith, relinks.len, relinks2.len, relinks.capacity, relinks2.capacity, pool.room))
        ∙ ap (set (lists_of nodes ends) list) (entries_same (item_in two) (item_in nodes) ((xs ++ ys) ++ slot ∷ []) (λ i low. moved_item _))

  -- a new node stands in a vacant slot
  module _ (nodes one : Slab (Node T)) (ends : List Ends) (spare list slot : ℕ) (node : Node T)
      (pool : IsPool nodes ends spare) (within : list < length ends) (vacant : get nodes slot ≡ None) (updates : Updates nodes one slot (Some node)) where
    unowned : owner_of nodes slot ≡ None
    unowned = ap (λ (o : Option (Node T)). option_map (λ (n : Node T). n.list) o) vacant

    pub owned_before : (k other : ℕ) → owner_of nodes k ≡ Some other → k ≢ slot
    owned_before k other o same = none-some other (sym unowned ∙ ap (owner_of nodes) (sym same) ∙ o)

    pub owner_before : (k : ℕ) → k ≢ slot → owner_of one k ≡ owner_of nodes k
    owner_before k other = ap (λ (o : Option (Node T)). option_map (λ (n : Node T). n.list) o) (updates.others k other)

    pub item_before : (k : ℕ) → k ≢ slot → item_in one k ≡ item_in nodes k
    item_before k other = ap (λ (o : Option (Node T)). option_map (λ (n : Node T). n.item) o) (updates.others k other)

    pub next_before : (k : ℕ) → k ≢ slot → next_of one k ≡ next_of nodes k
    next_before k other = ap (λ (o : Option (Node T)). option_map_or (λ (n : Node T). n.next) o 0) (updates.others k other)

    pub prev_before : (k : ℕ) → k ≢ slot → prev_of one k ≡ prev_of nodes k
    prev_before k other = ap (λ (o : Option (Node T)). option_map_or (λ (n : Node T). n.prev) o 0) (updates.others k other)

    pub owner_put : owner_of one slot ≡ Some node.list
    owner_put = ap (λ (o : Option (Node T)). option_map (λ (n : Node T). n.list) o) updates.changed

    pub item_put : item_in one slot ≡ Some node.item
    item_put = ap (λ (o : Option (Node T)). option_map (λ (n : Node T). n.item) o) updates.changed

    pub put_chain : IsChainIn one list (ends_at ends list) (slots_of nodes (ends_at ends list))
    put_chain =
        let was = pool.chains list within in
        chain_kept (owner_of nodes) (owner_of one) (next_of nodes) (prev_of nodes) (next_of one) (prev_of one) list (ends_at ends list) (slots_of nodes (ends_at ends list)) was
        (λ i low. let other = owned_before _ list (was.owned i low) in (owner_before _ other, next_before _ other, prev_before _ other))

    pub put_fresh : ¬ IsAmong slot (slots_of nodes (ends_at ends list))
    put_fresh among = none-some list (sym unowned ∙ slot_owned (owner_of nodes) (next_of nodes) (prev_of nodes) list (ends_at ends list) (slots_of nodes (ends_at ends list)) (pool.chains list within) slot among)

  -- and comes to the end of its list
  module _ (nodes one two : Slab (Node T)) (ends : List Ends) (spare spare' list slot : ℕ) (node : Node T) (end : Ends)
      (pool : IsPool nodes ends spare) (within : list < length ends) (vacant : get nodes slot ≡ None) (updates : Updates nodes one slot (Some node)) (own : node.list ≡ list)
      (len : slab_len one ≡ slab_len nodes + 1) (capacity : one.capacity ≡ nodes.capacity) (room : slab_len nodes + (spare' + 1) ≤ nodes.capacity)
      (relinks : Relinks one two) (long : IsChainIn two list end (slots_of nodes (ends_at ends list) ++ slot ∷ [])) (keeps : KeepsOthers one two list)
      (longer : end.len ≡ (ends_at ends list).len + 1) where
    more_others : LeavesOthers nodes two list
    more_others =
        record {
          owners = λ k other o differs. relinks.owners k ∙ owner_before nodes one ends spare list slot node pool within vacant updates k (owned_before nodes one ends spare list slot node pool within vacant updates k other o);
          nexts = λ k other o differs.
              let old = owned_before nodes one ends spare list slot node pool within vacant updates k other o in
              keeps.nexts k (λ mine. differs (same_Some other list (sym o ∙ sym (owner_before nodes one ends spare list slot node pool within vacant updates k old) ∙ mine)))
              ∙ next_before nodes one ends spare list slot node pool within vacant updates k old;
          prevs = λ k other o differs.
              let old = owned_before nodes one ends spare list slot node pool within vacant updates k other o in
              keeps.prevs k (λ mine. differs (same_Some other list (sym o ∙ sym (owner_before nodes one ends spare list slot node pool within vacant updates k old) ∙ mine)))
              ∙ prev_before nodes one ends spare list slot node pool within vacant updates k old;
          items = λ k other o differs. relinks.items k ∙ item_before nodes one ends spare list slot node pool within vacant updates k (owned_before nodes one ends spare list slot node pool within vacant updates k other o);
          came = λ k other o differs. elim (cases_eq k slot) [
            | inl same ↦ absurd (differs (same_Some other list (sym o ∙ ap (owner_of two) same ∙ relinks.owners slot
                ∙ owner_put nodes one ends spare list slot node pool within vacant updates ∙ ap (λ (l : ℕ). Some l) own)))
            | inr old ↦ sym (relinks.owners k ∙ owner_before nodes one ends spare list slot node pool within vacant updates k old) ∙ o
          ];
        }

    more_listed : (k : ℕ) → owner_of two k ≡ Some list → IsAmong k (slots_of nodes (ends_at ends list) ++ slot ∷ [])
    more_listed k o =
        elim (cases_eq k slot) [
          | inl same ↦ subst (λ j. IsAmong j (slots_of nodes (ends_at ends list) ++ slot ∷ [])) (sym same) (among_newest (slots_of nodes (ends_at ends list)) slot)
          | inr old ↦ among_older (slots_of nodes (ends_at ends list)) slot k
              (pool.listed k list (sym (relinks.owners k ∙ owner_before nodes one ends spare list slot node pool within vacant updates k old) ∙ o)).1
        ]

    pub more_pool : IsPool two (set ends list end) spare'
    more_pool =
        changed_pool nodes two ends spare spare' list end (slots_of nodes (ends_at ends list) ++ slot ∷ []) pool within long more_others more_listed
        (omega (arith, relinks.len, len, longer)) (omega (arith, relinks.len, len, relinks.capacity, capacity, room))

    more_entries : entries (item_in two) (slots_of nodes (ends_at ends list) ++ slot ∷ []) ≡ slice_index_or (lists_of nodes ends) list [] ++ (record { slot = slot }, node.item) ∷ []
    more_entries =
        entries_around (item_in two) (slots_of nodes (ends_at ends list)) [] slot node.item (relinks.items slot ∙ item_put nodes one ends spare list slot node pool within vacant updates)
        ∙ ap (λ (l : List (Key × T)). l ++ (record { slot = slot }, node.item) ∷ [])
        (entries_same (item_in two) (item_in nodes) (slots_of nodes (ends_at ends list)) (λ i low.
        let old = owned_before nodes one ends spare list slot node pool within vacant updates _ list ((pool.chains list within).owned i low) in
        relinks.items _ ∙ item_before nodes one ends spare list slot node pool within vacant updates _ old)
        ∙ sym (list_read nodes ends list within))

    pub more_lists : lists_of two (set ends list end) ≡ set (lists_of nodes ends) list (slice_index_or (lists_of nodes ends) list [] ++ (record { slot = slot }, node.item) ∷ [])
    more_lists =
        changed_lists nodes two ends spare spare' list end (slots_of nodes (ends_at ends list) ++ slot ∷ []) pool within long more_others more_listed
        (omega (arith, relinks.len, len, longer)) (omega (arith, relinks.len, len, relinks.capacity, capacity, room))
        ∙ ap (set (lists_of nodes ends) list) more_entries
