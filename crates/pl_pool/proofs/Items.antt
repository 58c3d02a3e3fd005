-- The items of nodes that follow each other.
use Rattle.std.proofs.Common.{◌≡◌, ℕ, zero, suc, ◌<◌, List, [], ◌++◌, length, Option, None, Some, is_some, true, option_map, slice_index, slice_index_or, refl, sym, ap, arith}
use Rattle.slab.specs.Slab.{Slab, ContainsKey, get}
use Rattle.pl_pool.specs.declared.key.Key.{Key}
use Rattle.pl_pool.specs.declared.links.Node.{Node}
use Rattle.pl_pool.specs.declared.links.Ends.{Ends}
use Rattle.pl_pool.specs.Pool.{items_of}
use Rattle.pl_pool.specs.Chains.{AreThere, IsPool, ends_at, entries, entry, item_in, items_from, lists_of, next_of, walk}
use Rattle.pl_pool.proofs.Joints.{owned_is_there}
use Rattle.pl_pool.proofs.Moves.{list_read}

module _ {T : Type 0} (nodes : Slab (Node T)) where
  one_item : (slot n : ℕ) (o : Option (Node T)) (rest : List (Key × T)) → is_some o ≡ true → length (items_of rest) ≡ n
      → length (items_of (entry slot (option_map (λ (node : Node T). node.item) o) ++ rest)) ≡ suc n
  one_item slot n None rest there many = absurd (cc)
  one_item slot n (Some node) rest there many = ap suc many

  -- there are as many items as nodes
  pub length_items : (from n : ℕ) → AreThere nodes from n → length (items_from nodes from n) ≡ n
  length_items from zero there = refl
  length_items from (suc n) there =
      one_item from n (get nodes from) (entries (item_in nodes) (walk (next_of nodes) (next_of nodes from) n)) there.0
      (length_items (next_of nodes from) n there.1)

  all_there : (from n : ℕ) → ((i : ℕ) → i < n → ContainsKey nodes (slice_index (walk (next_of nodes) from n) i)) → AreThere nodes from n
  all_there from zero have = tt
  all_there from (suc n) have = (have 0 (omega arith), all_there (next_of nodes from) n (λ i low. have (suc i) (omega arith)))

  module _ (ends : List Ends) (spare : ℕ) (pool : IsPool nodes ends spare) (list : ℕ) (within : list < length ends) where
    -- a list's nodes are there
    pub chain_there : AreThere nodes (ends_at ends list).first (ends_at ends list).len
    chain_there =
        let chain = pool.chains list within in
        all_there (ends_at ends list).first (ends_at ends list).len (λ i low. owned_is_there nodes _ list (chain.owned i (omega (arith, low, chain.counted))))

    -- and their items are the list's
    pub chain_items : items_from nodes (ends_at ends list).first (ends_at ends list).len ≡ items_of (slice_index_or (lists_of nodes ends) list [])
    chain_items = ap items_of (sym (list_read nodes ends list within))
