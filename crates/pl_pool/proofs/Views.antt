-- What is seen of a pool, read from its nodes.
use Rattle.std.proofs.Common.{◌≡◌, ◌≢◌, ℕ, zero, suc, ◌+◌, ◌-◌, ◌<◌, ◌≤◌, true, ◌&&◌, ◌==◌, not, if◌then◌else◌, List, [], ◌∷◌, ◌++◌, length, set, filter, replicate, Option, None, Some, option_map, slice_get, slice_index, slice_index_or, refl, sym, ap, ap₂, ◌∙◌, subst, inl, inr, arith, eq-eqb, ne_eqb, length-append, append-nil, get_or-set_same, length-set}
use Rattle.std.proofs.lemmas.Bool.{cases_eq, cases_lt}
use Rattle.std.proofs.lemmas.List.{get_or_past, get_or_append_left, get_or-append_right, length-map, set-get_or, set-set, append_assoc}
use Rattle.std.proofs.lemmas.Option.{none-some, same_Some}
use Rattle.slab.specs.Slab.{Slab, get, slab_len}
use Rattle.pl_pool.specs.declared.key.Key.{Key}
use Rattle.pl_pool.specs.declared.links.Node.{Node}
use Rattle.pl_pool.specs.declared.links.Ends.{Ends}
use Rattle.pl_pool.specs.Pool.{Lists, list_at, has_key, item_at, without, moved_back, first_key, key_after, is_under, with_list, items_of, IsFirst, IsFree, HaveOwnKeys}
use Rattle.pl_pool.specs.Chains.{walk, IsChainIn, IsAmong, IsPool, no_ends, ends_at, item_if, next_if, owner_of, next_of, prev_of, item_in, slots_of, pairs_of, entries, lists_of}
use Rattle.pl_pool.proofs.Chains.{slot_not_left, at_slot, length_with, walk_first}
use Rattle.pl_pool.proofs.Joints.{slot_owned, owner_of_node, next_of_node}
use Rattle.pl_pool.proofs.Words.{Misses, misses, Finds, finds, no_entry, entries_around, entries-append}
use Rattle.pl_pool.proofs.Moves.{list_read, owned_cut}

abbrev pub keyed : ℕ → Key
keyed slot = record { slot = slot }

among_front : (xs ys : List ℕ) (k : ℕ) → IsAmong k xs → IsAmong k (xs ++ ys)
among_front xs ys k among = (among.0, omega (arith, among.1, length-append xs ys), get_or_append_left xs ys 0 among.0 among.1 ∙ among.2)

among_end : (xs ys : List ℕ) (k : ℕ) → IsAmong k ys → IsAmong k (xs ++ ys)
among_end xs ys k among =
    let back : length xs + among.0 - length xs ≡ among.0 = omega arith in (
      length xs + among.0,
      omega (arith, among.1, length-append xs ys),
      get_or-append_right xs ys (length xs) (length xs + among.0) 0 refl (omega arith) ∙ ap (slice_index ys) back ∙ among.2,
    )

module _ {T : Type 0} where
  item_of_owned : (o : Option (Node T)) (list : ℕ) → option_map (λ (n : Node T). n.list) o ≡ Some list → (item : T) × (option_map (λ (n : Node T). n.item) o ≡ Some item)
  item_of_owned None list e = absurd (cc)
  item_of_owned (Some n) list e = (n.item, refl)

  pub owned_item : (nodes : Slab (Node T)) (slot list : ℕ) → owner_of nodes slot ≡ Some list → (item : T) × (item_in nodes slot ≡ Some item)
  owned_item nodes slot list owned = item_of_owned (get nodes slot) list owned

  -- the key of the first of slots that have items
  pub first_is : (items : ℕ → Option T) (slot : ℕ) (slots : List ℕ) (item : T) → items slot ≡ Some item → first_key (entries items (slot ∷ slots)) ≡ Some (record { slot = slot })
  first_is items slot slots item is = ap first_key (entries_around items [] slots slot item is)

  -- the pair at an index is that of the slot there
  pub pair_index : (items : ℕ → Option T) (slots : List ℕ) → ((i : ℕ) → i < length slots → (item : T) × (items (slice_index slots i) ≡ Some item))
      → (i : ℕ) (pair : Key × T) → slice_get (entries items slots) i ≡ Some pair → (i < length slots) × (slice_index slots i ≡ pair.0.slot)
  pair_index items [] have i pair e = absurd (none-some pair e)
  pair_index items (slot ∷ slots) have zero pair e =
      let here = have 0 (omega arith) in
      let got = sym (ap (λ (l : List (Key × T)). slice_get l 0) (entries_around items [] slots slot here.0 here.1)) ∙ e in
      (omega arith, ap (λ (p : Key × T). p.0.slot) (same_Some (record { slot = slot }, here.0) pair got))
  pair_index items (slot ∷ slots) have (suc i) pair e =
      let here = have 0 (omega arith) in
      let got = sym (ap (λ (l : List (Key × T)). slice_get l (suc i)) (entries_around items [] slots slot here.0 here.1)) ∙ e in
      let rest = pair_index items slots (λ j low. have (suc j) (omega arith)) i pair got in
      (omega (arith, rest.0), rest.1)

  pub length_entries : (items : ℕ → Option T) (slots : List ℕ) → ((i : ℕ) → i < length slots → (item : T) × (items (slice_index slots i) ≡ Some item)) → length (entries items slots) ≡ length slots
  length_entries items [] have = refl
  length_entries items (slot ∷ slots) have =
      let here = have 0 (omega arith) in
      ap length (entries_around items [] slots slot here.0 here.1) ∙ ap suc (length_entries items slots (λ j low. have (suc j) (omega arith)))

  -- the key behind a slot, from its chain
  pub tail_key : (nodes : Slab (Node T)) (list : ℕ) (ends : Ends) (xs ys : List ℕ) (slot : ℕ) → IsChainIn nodes list ends (xs ++ slot ∷ ys)
      → first_key (entries (item_in nodes) ys) ≡ option_map (λ s. record { slot = s }) (if not (slot == ends.last) then Some (next_of nodes slot) else None)
  tail_key nodes list ends xs [] slot chain =
      let is : slot ≡ ends.last = sym (chain.last (length xs) (omega (arith, length_with xs [] slot)) ∙ at_slot xs [] slot) in
      sym (ap (λ b. option_map (λ s. record { slot = s }) (if not b then Some (next_of nodes slot) else None)) (eq-eqb slot ends.last is))
  tail_key nodes list ends xs (y ∷ ys) slot chain =
      let whole_length = length_with xs (y ∷ ys) slot in
      let more : length xs + 1 < length (xs ++ slot ∷ y ∷ ys) = omega (arith, whole_length) in
      let end : length (xs ++ slot ∷ y ∷ ys) - 1 + 1 ≡ length (xs ++ slot ∷ y ∷ ys) = omega (arith, whole_length) in
      let other : slot ≢ ends.last = λ same. omega (
        arith,
        more,
        chain.apart (length (xs ++ slot ∷ y ∷ ys) - 1) (length xs) (omega (arith, whole_length)) (omega (arith, whole_length))
            (sym (chain.last (length (xs ++ slot ∷ y ∷ ys) - 1) end) ∙ sym same ∙ sym (at_slot xs (y ∷ ys) slot)),
      ) in
      let step : length xs + 1 - length xs ≡ suc zero = omega arith in
      let next_is : next_of nodes slot ≡ y = ap (next_of nodes) (sym (at_slot xs (y ∷ ys) slot)) ∙ chain.nexts (length xs) more
      ∙ get_or-append_right xs (slot ∷ y ∷ ys) (length xs) (length xs + 1) 0 refl (omega arith) ∙ ap (slice_index (slot ∷ y ∷ ys)) step in
      let owned : owner_of nodes y ≡ Some list =
      ap (owner_of nodes) (sym next_is ∙ ap (next_of nodes) (sym (at_slot xs (y ∷ ys) slot)) ∙ chain.nexts (length xs) more) ∙ chain.owned (length xs + 1) more in
      let item : (x : T) × (item_in nodes y ≡ Some x) = owned_item nodes y list owned in
      let start : first_key (entries (item_in nodes) (y ∷ ys)) ≡ Some (keyed y) = first_is (item_in nodes) y ys item.0 item.1 in
      let moved : ◌≡◌ {A = Option Key} (Some (keyed y)) (Some (keyed (next_of nodes slot))) = ap (λ s. Some (keyed s)) (sym next_is) in
      start ∙ moved
      ∙ sym (ap (λ b. option_map (λ s. record { slot = s }) (if not b then Some (next_of nodes slot) else None)) (ne_eqb slot ends.last other))

  module _ (nodes : Slab (Node T)) (ends : List Ends) (spare : ℕ) (pool : IsPool nodes ends spare) (list : ℕ) (within : list < length ends) where
    items_there : (i : ℕ) → i < length (slots_of nodes (ends_at ends list)) → (item : T) × (item_in nodes (slice_index (slots_of nodes (ends_at ends list)) i) ≡ Some item)
    items_there i low = owned_item nodes _ list ((pool.chains list within).owned i low)

    pub length_read : (ends_at ends list).len ≡ length (slice_index_or (lists_of nodes ends) list [])
    length_read =
        (pool.chains list within).counted ∙ sym (length_entries (item_in nodes) (slots_of nodes (ends_at ends list)) items_there)
        ∙ ap length (sym (list_read nodes ends list within))

    not_among : (slot : ℕ) → owner_of nodes slot ≢ Some list → ¬ IsAmong slot (slots_of nodes (ends_at ends list))
    not_among slot other among =
        other (slot_owned (owner_of nodes) (next_of nodes) (prev_of nodes) list (ends_at ends list) (slots_of nodes (ends_at ends list)) (pool.chains list within) slot among)

    pub missing : (key : Key) → owner_of nodes key.slot ≢ Some list → Misses (slice_index_or (lists_of nodes ends) list []) key
    missing key other =
        subst (λ (pairs : List (Key × T)). Misses pairs key) (sym (list_read nodes ends list within))
        (misses (pairs_of nodes (ends_at ends list)) key (no_entry (item_in nodes) (slots_of nodes (ends_at ends list)) key (not_among key.slot other)))

    -- the list around a key
    module _ (key : Key) (owned : owner_of nodes key.slot ≡ Some list) (item : T) (is : item_in nodes key.slot ≡ Some item)
        (xs ys : List ℕ) (at : slots_of nodes (ends_at ends list) ≡ xs ++ key.slot ∷ ys) where
      pub chain_around : IsChainIn nodes list (ends_at ends list) (xs ++ key.slot ∷ ys)
      chain_around = subst (IsChainIn nodes list (ends_at ends list)) at (pool.chains list within)

      pub found : Finds (entries (item_in nodes) xs) (key, item) (entries (item_in nodes) ys) key
      found =
          let gone = slot_not_left xs ys key.slot chain_around.apart in
          finds (entries (item_in nodes) xs) (key, item) (entries (item_in nodes) ys) key
          (no_entry (item_in nodes) xs key (λ among. gone (among_front xs ys key.slot among))) refl
          (no_entry (item_in nodes) ys key (λ among. gone (among_end xs ys key.slot among)))

      pub row_around : slice_index_or (lists_of nodes ends) list [] ≡ entries (item_in nodes) xs ++ (key, item) ∷ entries (item_in nodes) ys
      row_around = list_read nodes ends list within ∙ ap (entries (item_in nodes)) at ∙ entries_around (item_in nodes) xs ys key.slot item is

      pub item_found : item_at (slice_index_or (lists_of nodes ends) list []) key ≡ Some item
      item_found = ap (λ (pairs : List (Key × T)). item_at pairs key) row_around ∙ found.item

      pub key_found : has_key (slice_index_or (lists_of nodes ends) list []) key ≡ true
      key_found = ap (λ (pairs : List (Key × T)). has_key pairs key) row_around ∙ found.has

      pub rest_found : entries (item_in nodes) (xs ++ ys) ≡ without (slice_index_or (lists_of nodes ends) list []) key
      rest_found = entries-append (item_in nodes) xs ys ∙ sym (ap (λ (pairs : List (Key × T)). without pairs key) row_around ∙ found.rest)

      pub back_found : entries (item_in nodes) ((xs ++ ys) ++ key.slot ∷ []) ≡ moved_back (slice_index_or (lists_of nodes ends) list []) key
      back_found =
          entries_around (item_in nodes) (xs ++ ys) [] key.slot item is
          ∙ ap (λ (pairs : List (Key × T)). pairs ++ (key, item) ∷ []) rest_found
          ∙ ap (λ (pairs : List (Key × T)). without (slice_index_or (lists_of nodes ends) list []) key ++ pairs)
          (sym (ap (filter (is_under key)) row_around ∙ found.one))

      pub after_found : key_after (slice_index_or (lists_of nodes ends) list []) key
          ≡ option_map (λ s. record { slot = s }) (if not (key.slot == (ends_at ends list).last) then Some (next_of nodes key.slot) else None)
      after_found =
          ap (λ (pairs : List (Key × T)). key_after pairs key) row_around ∙ found.after ∙ tail_key nodes list (ends_at ends list) xs ys key.slot chain_around

    pub item_is : (key : Key) → item_at (slice_index_or (lists_of nodes ends) list []) key ≡ item_if list (get nodes key.slot)
    item_is key =
        elim (get nodes key.slot) as (λ (o : Option (Node T)). get nodes key.slot ≡ o → item_at (slice_index_or (lists_of nodes ends) list []) key ≡ item_if list o) [
          | None ↦ λ e. (missing key (λ owned. none-some list (sym (ap (λ (o : Option (Node T)). option_map (λ (n : Node T). n.list) o) e) ∙ owned))).item
          | Some node ↦ λ e. elim (cases_eq node.list list) [
            | inl mine ↦
                let owned : owner_of nodes key.slot ≡ Some list = owner_of_node nodes key.slot node e ∙ ap (λ (l : ℕ). Some l) mine in
                let on = owned_cut nodes ends spare list key.slot pool owned in
                item_found key owned node.item (ap (λ (o : Option (Node T)). option_map (λ (n : Node T). n.item) o) e) on.0 on.1 on.2
                ∙ sym (ap (λ b. if b then Some node.item else None) (eq-eqb node.list list mine))
            | inr other ↦
                (missing key (λ owned. other (same_Some node.list list (sym (owner_of_node nodes key.slot node e) ∙ owned)))).item
                ∙ sym (ap (λ b. if b then Some node.item else None) (ne_eqb node.list list other))
          ]
        ] refl

    pub after_is : (key : Key) → key_after (slice_index_or (lists_of nodes ends) list []) key ≡ option_map (λ s. record { slot = s }) (next_if list (ends_at ends list).last key.slot (get nodes key.slot))
    after_is key =
        elim (get nodes key.slot) as (λ (o : Option (Node T)). get nodes key.slot ≡ o
        → key_after (slice_index_or (lists_of nodes ends) list []) key ≡ option_map (λ s. record { slot = s }) (next_if list (ends_at ends list).last key.slot o)) [
          | None ↦ λ e. (missing key (λ owned. none-some list (sym (ap (λ (o : Option (Node T)). option_map (λ (n : Node T). n.list) o) e) ∙ owned))).after
          | Some node ↦ λ e. elim (cases_eq node.list list) [
            | inl mine ↦
                let owned : owner_of nodes key.slot ≡ Some list = owner_of_node nodes key.slot node e ∙ ap (λ (l : ℕ). Some l) mine in
                let on = owned_cut nodes ends spare list key.slot pool owned in
                after_found key owned node.item (ap (λ (o : Option (Node T)). option_map (λ (n : Node T). n.item) o) e) on.0 on.1 on.2
                ∙ ap (λ (s : ℕ). option_map (λ t. record { slot = t }) (if not (key.slot == (ends_at ends list).last) then Some s else None)) (next_of_node nodes key.slot node e)
                ∙ sym (ap (λ b. option_map (λ s. record { slot = s }) (if b && not (key.slot == (ends_at ends list).last) then Some node.next else None)) (eq-eqb node.list list mine))
            | inr other ↦
                (missing key (λ owned. other (same_Some node.list list (sym (owner_of_node nodes key.slot node e) ∙ owned)))).after
                ∙ sym (ap (λ b. option_map (λ s. record { slot = s }) (if b && not (key.slot == (ends_at ends list).last) then Some node.next else None)) (ne_eqb node.list list other))
          ]
        ] refl

    -- the first node of a list that has some
    pub first_cut : 0 < (ends_at ends list).len → (rest : List ℕ) × (slots_of nodes (ends_at ends list) ≡ (ends_at ends list).first ∷ rest)
    first_cut some = (walk (next_of nodes) (next_of nodes (ends_at ends list).first) ((ends_at ends list).len - 1), walk_first (next_of nodes) (ends_at ends list).first (ends_at ends list).len some)

    pub first_owned : 0 < (ends_at ends list).len → owner_of nodes (ends_at ends list).first ≡ Some list
    first_owned some =
        let chain = pool.chains list within in
        ap (owner_of nodes) (chain.first (omega (arith, chain.counted))) ∙ chain.owned 0 (omega (arith, chain.counted))

    pub first_found : 0 < (ends_at ends list).len → first_key (slice_index_or (lists_of nodes ends) list []) ≡ Some (record { slot = (ends_at ends list).first })
    first_found some =
        let on = first_cut some in
        let item = owned_item nodes (ends_at ends list).first list (first_owned some) in
        ap first_key (list_read nodes ends list within ∙ ap (entries (item_in nodes)) on.1) ∙ first_is (item_in nodes) (ends_at ends list).first on.0 item.0 item.1

    pub empty_read : (ends_at ends list).len ≡ 0 → slice_index_or (lists_of nodes ends) list [] ≡ []
    empty_read none = list_read nodes ends list within ∙ ap (λ n. entries (item_in nodes) (walk (next_of nodes) (ends_at ends list).first n)) none

    -- and what is left once it is taken
    pub first_left : (some : 0 < (ends_at ends list).len) (item : T) → item_in nodes (ends_at ends list).first ≡ Some item
        → slice_index_or (lists_of nodes ends) list [] ≡ (record { slot = (ends_at ends list).first }, item) ∷ entries (item_in nodes) (first_cut some).0
    first_left some item is =
        list_read nodes ends list within ∙ ap (entries (item_in nodes)) (first_cut some).1
        ∙ entries_around (item_in nodes) [] (first_cut some).0 (ends_at ends list).first item is

  module _ (nodes : Slab (Node T)) (ends : List Ends) (spare : ℕ) (pool : IsPool nodes ends spare) where
    index_of : (list i : ℕ) (pair : Key × T) → slice_get (slice_index_or (lists_of nodes ends) list []) i ≡ Some pair
        → (list < length ends) × (i < length (slots_of nodes (ends_at ends list))) × (slice_index (slots_of nodes (ends_at ends list)) i ≡ pair.0.slot)
    index_of list i pair e =
        elim (cases_lt list (length ends)) [
          | inl within ↦
              let at = pair_index (item_in nodes) (slots_of nodes (ends_at ends list)) (items_there nodes ends spare pool list within) i pair
              (sym (ap (λ (pairs : List (Key × T)). slice_get pairs i) (list_read nodes ends list within)) ∙ e) in
              (within, at.0, at.1)
          | inr past ↦ absurd (none-some pair (sym (ap (λ (pairs : List (Key × T)). slice_get pairs i) (get_or_past (lists_of nodes ends) list [] (omega (arith, past, length-map ends (pairs_of nodes))))) ∙ e))
        ]

    pub own_keys : HaveOwnKeys (record { lists = lists_of nodes ends; spare = spare })
    own_keys =
        λ list other i j pair twin e f same.
        let one = index_of list i pair e in
        let two = index_of other j twin f in
        let equal : slice_index (slots_of nodes (ends_at ends list)) i ≡ slice_index (slots_of nodes (ends_at ends other)) j = one.2 ∙ same ∙ sym two.2 in
        let lists : list ≡ other = same_Some list other (sym ((pool.chains list one.0).owned i one.1) ∙ ap (owner_of nodes) equal ∙ (pool.chains other two.0).owned j two.1) in
        let back = ap (λ l. slots_of nodes (ends_at ends l)) lists in (
          lists,
          (pool.chains list one.0).apart i j one.1 (subst (λ (s : List ℕ). j < length s) (sym back) two.1) (equal ∙ ap (λ (s : List ℕ). slice_index s j) (sym back)),
        )

    pub free_key : (slot : ℕ) → get nodes slot ≡ None → IsFree (record { lists = lists_of nodes ends; spare = spare }) (record { slot = slot })
    free_key slot vacant =
        λ list. elim (cases_lt list (length ends)) [
          | inl within ↦ (missing nodes ends spare pool list within (record { slot = slot })
              (λ owned. none-some list (sym (ap (λ (o : Option (Node T)). option_map (λ (n : Node T). n.list) o) vacant) ∙ owned))).has
          | inr past ↦ ap (λ (pairs : List (Key × T)). has_key pairs (record { slot = slot })) (get_or_past (lists_of nodes ends) list [] (omega (arith, past, length-map ends (pairs_of nodes))))
        ]

    pub roomier : (capacity spare' : ℕ) → slab_len nodes + spare' ≤ capacity → IsPool (record nodes { capacity = capacity }) ends spare'
    roomier capacity spare' fits = record { chains = pool.chains; listed = pool.listed; counted = pool.counted; room = fits }

  abbrev pub seen : Slab (Node T) → List Ends → ℕ → Lists T
  seen nodes ends spare = record { lists = lists_of nodes ends; spare = spare }

  pub within_of : (nodes : Slab (Node T)) (ends : List Ends) (spare list : ℕ) (v : Lists T) → seen nodes ends spare ≡ v → list < length v.lists → list < length ends
  within_of nodes ends spare list v is within = omega (arith, ap (λ (w : Lists T). length w.lists) is, length-map ends (pairs_of nodes), within)

  -- a list that stays
  pub same_list : (v : Lists T) (list : ℕ) (pairs : List (Key × T)) → pairs ≡ list_at v list → v ≡ with_list v list pairs
  same_list v list pairs e = λ i. record { lists = sym (ap (set v.lists list) e ∙ set-get_or v.lists list []) i; spare = v.spare }

  pub none_moved : (pairs : List (Key × T)) (key : Key) → Misses pairs key → moved_back pairs key ≡ pairs
  none_moved pairs key m = ap₂ (λ (a b : List (Key × T)). a ++ b) m.rest m.none ∙ append-nil pairs

  pub popped : (v : Lists T) (lists : List (List (Key × T))) (spare list : ℕ) (key : Key) (item : T) (rest : List (Key × T)) → list < length v.lists
      → list_at v list ≡ (key, item) ∷ rest → lists ≡ set v.lists list rest → spare ≡ v.spare + 1
      → IsFirst (list_at v list) item (slice_index_or lists list [])
      × ◌≡◌ {A = Lists T} (record { lists = lists; spare = spare }) (record { lists = set v.lists list (slice_index_or lists list []); spare = v.spare + 1 })
  popped v lists spare list key item rest within row is more =
      let at : slice_index_or lists list [] ≡ rest = ap (λ (ls : List (List (Key × T))). slice_index_or ls list []) is ∙ get_or-set_same v.lists list rest [] within in
      let whole = is ∙ ap (set v.lists list) (sym at) in (
        (key, row ∙ ap (λ (r : List (Key × T)). (key, item) ∷ r) (sym at)),
        λ i. record { lists = whole i; spare = more i },
      )

  pub map_replicate : (nodes : Slab (Node T)) (n : ℕ) → lists_of nodes (replicate n no_ends) ≡ replicate n []
  map_replicate nodes zero = refl
  map_replicate nodes (suc n) = ap (λ (ls : List (List (Key × T))). [] ∷ ls) (map_replicate nodes n)

  -- one more item of a list that is emptied
  module _ (v w : Lists T) (list : ℕ) (item : T) (is_first : IsFirst (list_at v list) item (list_at w list))
      (is : ◌≡◌ {A = Lists T} w (record { lists = set v.lists list (list_at w list); spare = v.spare + 1 })) where
    pub still_told : (to : List T) → (to ++ item ∷ []) ++ items_of (list_at w list) ≡ to ++ items_of (list_at v list)
    still_told to = append_assoc to (item ∷ []) (items_of (list_at w list)) ∙ ap (λ (pairs : List (Key × T)). to ++ items_of pairs) (sym is_first.1)

    pub still_left : set w.lists list [] ≡ set v.lists list []
    still_left = ap (λ (u : Lists T). set u.lists list []) is ∙ set-set v.lists list (list_at w list) []

    pub one_shorter : length (list_at v list) ≡ length (list_at w list) + 1
    one_shorter = omega (arith, ap length is_first.1)

    pub one_spare : w.spare ≡ v.spare + 1
    one_spare = ap (λ (u : Lists T). u.spare) is

    pub same_many : length w.lists ≡ length v.lists
    same_many = ap (λ (u : Lists T). length u.lists) is ∙ length-set v.lists list (list_at w list)
