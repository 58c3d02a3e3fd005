-- How the lists of a pool lie in one slab: each is a chain of nodes. No public clause cites this module.
use Rattle.std.specs.Prelude.{◌≡◌, ◌≢◌, ⊤, ℕ, zero, suc, ◌+◌, ◌<◌, ◌≤◌, ◌==◌, ◌&&◌, not, if◌then◌else◌, List, [], ◌∷◌, map, length, sum_by, Option, None, Some, slice_index, slice_index_or}
use Rattle.std.specs.List.{flat_map}
use Rattle.std.specs.Option.{option_map, option_map_or}
use Rattle.slab.specs.Slab.{Slab, ContainsKey, get, slab_len}
use Rattle.pl_pool.specs.Pool.{items_of}
use Rattle.pl_pool.specs.declared.key.Key.{Key}
use Rattle.pl_pool.specs.declared.links.Node.{Node}
use Rattle.pl_pool.specs.declared.links.Ends.{Ends}

-- the slots that are met from one on, so many
abbrev pub walk : (ℕ → ℕ) → ℕ → ℕ → List ℕ
walk next from zero = []
walk next from (suc n) = from ∷ walk next (next from) n

-- these slots are a list's chain: each is owned by the list, and its neighbours name each other. What the
-- first has before it and the last behind it is not looked at
pub record IsChain (owner : ℕ → Option ℕ) (next prev : ℕ → ℕ) (list : ℕ) (ends : Ends) (slots : List ℕ) : Type 0 where
  pub counted : ends.len ≡ length slots
  pub owned : (i : ℕ) → i < length slots → owner (slice_index slots i) ≡ Some list
  pub first : 0 < length slots → ends.first ≡ slice_index slots 0
  pub last : (i : ℕ) → i + 1 ≡ length slots → ends.last ≡ slice_index slots i
  pub nexts : (i : ℕ) → i + 1 < length slots → next (slice_index slots i) ≡ slice_index slots (i + 1)
  pub prevs : (i : ℕ) → i + 1 < length slots → prev (slice_index slots (i + 1)) ≡ slice_index slots i
  pub apart : (i j : ℕ) → i < length slots → j < length slots → slice_index slots i ≡ slice_index slots j → i ≡ j

abbrev pub IsAmong : ℕ → List ℕ → Type 0
IsAmong slot slots = (i : ℕ) × (i < length slots) × (slice_index slots i ≡ slot)

abbrev pub no_ends : Ends
no_ends = record { first = 0; last = 0; len = 0 }

abbrev pub ends_at : List Ends → ℕ → Ends
ends_at ends list = slice_index_or ends list no_ends

module _ {T : Type 0} where
  -- what a slot says
  abbrev pub owner_of : Slab (Node T) → ℕ → Option ℕ
  owner_of nodes slot = option_map (λ node. node.list) (get nodes slot)

  abbrev pub next_of : Slab (Node T) → ℕ → ℕ
  next_of nodes slot = option_map_or (λ node. node.next) (get nodes slot) 0

  abbrev pub prev_of : Slab (Node T) → ℕ → ℕ
  prev_of nodes slot = option_map_or (λ node. node.prev) (get nodes slot) 0

  abbrev pub item_in : Slab (Node T) → ℕ → Option T
  item_in nodes slot = option_map (λ node. node.item) (get nodes slot)

  -- the item of a node of this list
  abbrev pub item_if : ℕ → Option (Node T) → Option T
  item_if list None = None
  item_if list (Some node) = if node.list == list then Some node.item else None

  -- what is behind a node of this list, unless it is the last
  abbrev pub next_if : ℕ → ℕ → ℕ → Option (Node T) → Option ℕ
  next_if list last slot None = None
  next_if list last slot (Some node) = if (node.list == list) && not (slot == last) then Some node.next else None

  abbrev pub entry : ℕ → Option T → List (Key × T)
  entry slot None = []
  entry slot (Some item) = (record { slot = slot }, item) ∷ []

  -- the items of these slots, each under its key
  abbrev pub entries : (ℕ → Option T) → List ℕ → List (Key × T)
  entries items slots = flat_map (λ slot. entry slot (items slot)) slots

  abbrev pub slots_of : Slab (Node T) → Ends → List ℕ
  slots_of nodes ends = walk (next_of nodes) ends.first ends.len

  abbrev pub pairs_of : Slab (Node T) → Ends → List (Key × T)
  pairs_of nodes ends = entries (item_in nodes) (slots_of nodes ends)

  abbrev pub lists_of : Slab (Node T) → List Ends → List (List (Key × T))
  lists_of nodes ends = map (pairs_of nodes) ends

  -- the items of so many nodes, each the next of the one before
  abbrev pub items_from : Slab (Node T) → ℕ → ℕ → List T
  items_from nodes from n = items_of (entries (item_in nodes) (walk (next_of nodes) from n))

  -- so many nodes are there, each the next of the one before
  abbrev pub AreThere : Slab (Node T) → ℕ → ℕ → Type 0
  AreThere nodes from zero = ⊤
  AreThere nodes from (suc n) = ContainsKey nodes from × AreThere nodes (next_of nodes from) n

  abbrev pub IsChainIn : Slab (Node T) → ℕ → Ends → List ℕ → Type 0
  IsChainIn nodes = IsChain (owner_of nodes) (next_of nodes) (prev_of nodes)

  -- every node is in the chain of its list, and nothing else is there
  pub record IsPool (nodes : Slab (Node T)) (ends : List Ends) (spare : ℕ) : Type 0 where
    pub chains : (list : ℕ) → list < length ends → IsChainIn nodes list (ends_at ends list) (slots_of nodes (ends_at ends list))
    pub listed : (slot list : ℕ) → owner_of nodes slot ≡ Some list → (list < length ends) × IsAmong slot (slots_of nodes (ends_at ends list))
    pub counted : sum_by (λ (e : Ends). e.len) ends ≡ slab_len nodes
    pub room : slab_len nodes + spare ≤ nodes.capacity

  -- only links changed
  pub record Relinks (old new : Slab (Node T)) : Type 0 where
    pub owners : (slot : ℕ) → owner_of new slot ≡ owner_of old slot
    pub items : (slot : ℕ) → item_in new slot ≡ item_in old slot
    pub len : slab_len new ≡ slab_len old
    pub capacity : new.capacity ≡ old.capacity

  -- only this slot leads on, and to this next one
  pub record LeadsOn (old new : Slab (Node T)) (slot next : ℕ) : Type 0 where
    pub relinks : Relinks old new
    pub prevs : (other : ℕ) → prev_of new other ≡ prev_of old other
    pub changed : next_of new slot ≡ next
    pub others : (other : ℕ) → other ≢ slot → next_of new other ≡ next_of old other

  pub record LeadsBack (old new : Slab (Node T)) (slot prev : ℕ) : Type 0 where
    pub relinks : Relinks old new
    pub nexts : (other : ℕ) → next_of new other ≡ next_of old other
    pub changed : prev_of new slot ≡ prev
    pub others : (other : ℕ) → other ≢ slot → prev_of new other ≡ prev_of old other

  -- the links of what another list owns stay
  pub record KeepsOthers (old new : Slab (Node T)) (list : ℕ) : Type 0 where
    pub nexts : (slot : ℕ) → owner_of old slot ≢ Some list → next_of new slot ≡ next_of old slot
    pub prevs : (slot : ℕ) → owner_of old slot ≢ Some list → prev_of new slot ≡ prev_of old slot
