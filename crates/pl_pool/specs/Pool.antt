-- What a pool is: lists of items, each item under its key, and how many more pushes need no memory.
use Rattle.std.specs.Prelude.{◌≡◌, ℕ, ◌==◌, not, Bool, false, List, [], ◌∷◌, ◌++◌, map, if◌then◌else◌, Option, None, Some, slice_get, slice_index_or, slice_set, refl}
use Rattle.std.specs.List.{filter, find, list_any}
use Rattle.std.specs.Option.{option_map}
use Rattle.std.specs.Coded.{Coded, code_by, coded×, coded_ℕ, coded_list}
use Rattle.pl_pool.specs.declared.key.Key.{Key}

-- the lists, each in order
pub record Lists (T : Type 0) : Type 0 where
  pub lists : List (List (Key × T))
  -- so many more pushes need no memory
  pub spare : ℕ

abbrev pub key_code : Coded Key
key_code = code_by ℕ coded_ℕ (λ k. k.slot) (λ n. record { slot = n }) (λ _. refl)

-- a pool is stored as the pair of its fields
abbrev pub lists_code : {T : Type 0} → Coded T → Coded (Lists T)
lists_code {T} code =
    code_by
    (List (List (Key × T)) × ℕ)
    (coded× (coded_list (coded_list (coded× key_code code))) coded_ℕ)
    (λ p. (p.lists, p.spare))
    (λ t. record { lists = t.0; spare = t.1 })
    (λ _. refl)

module _ {T : Type 0} where
  -- a list of the pool; past the last it is empty
  abbrev pub list_at : Lists T → ℕ → List (Key × T)
  list_at pool list = slice_index_or pool.lists list []

  -- the pool with these pairs as one of its lists
  abbrev pub with_list : Lists T → ℕ → List (Key × T) → Lists T
  with_list pool list pairs = record pool { lists = slice_set pool.lists list pairs }

  -- the pair stands under this key
  abbrev pub is_under : Key → Key × T → Bool
  is_under key pair = pair.0.slot == key.slot

  abbrev pub has_key : List (Key × T) → Key → Bool
  has_key pairs key = list_any (is_under key) pairs

  -- the item under a key
  abbrev pub item_at : List (Key × T) → Key → Option T
  item_at pairs key = option_map (λ pair. pair.1) (find (is_under key) pairs)

  -- the pairs but the one under this key
  abbrev pub without : List (Key × T) → Key → List (Key × T)
  without pairs key = filter (λ pair. not (is_under key pair)) pairs

  -- the pair under this key stands behind the others
  abbrev pub moved_back : List (Key × T) → Key → List (Key × T)
  moved_back pairs key = without pairs key ++ filter (is_under key) pairs

  abbrev pub first_key : List (Key × T) → Option Key
  first_key pairs = option_map (λ pair. pair.0) (slice_get pairs 0)

  -- the key that follows this one
  abbrev pub key_after : List (Key × T) → Key → Option Key
  key_after [] key = None
  key_after (pair ∷ pairs) key = if is_under key pair then first_key pairs else key_after pairs key

  abbrev pub items_of : List (Key × T) → List T
  items_of pairs = map (λ pair. pair.1) pairs

  -- the first item, and the pairs behind it
  abbrev pub IsFirst : List (Key × T) → T → List (Key × T) → Type 0
  IsFirst pairs item rest = (key : Key) × (pairs ≡ (key, item) ∷ rest)

  -- no item of the pool is under this key
  abbrev pub IsFree : Lists T → Key → Type 0
  IsFree pool key = (list : ℕ) → has_key (list_at pool list) key ≡ false

  -- two indices with the same key are the same index: no item is in two lists, and no two items have one key
  abbrev pub HaveOwnKeys : Lists T → Type 0
  HaveOwnKeys pool =
      (list other i j : ℕ) (pair twin : Key × T)
      → slice_get (list_at pool list) i ≡ Some pair → slice_get (list_at pool other) j ≡ Some twin
      → pair.0.slot ≡ twin.0.slot → (list ≡ other) × (i ≡ j)

abbrev pub key : ℕ → Key
key slot = record { slot = slot }

-- three items, of which the one under key 5 is taken out, read, followed and moved
abbrev pub three_items : List (Key × ℕ)
three_items = (key 4, 1) ∷ (key 5, 2) ∷ (key 7, 3) ∷ []

pub an_item_leaves_by_its_key
    : (without three_items (key 5) ≡ (key 4, 1) ∷ (key 7, 3) ∷ [])
    × (item_at three_items (key 5) ≡ Some 2)
    × (item_at three_items (key 6) ≡ None)
    × (key_after three_items (key 5) ≡ Some (key 7))
    × (key_after three_items (key 7) ≡ None)
    × (moved_back three_items (key 4) ≡ (key 5, 2) ∷ (key 7, 3) ∷ (key 4, 1) ∷ [])
    × (moved_back three_items (key 6) ≡ three_items)
an_item_leaves_by_its_key = (refl, refl, refl, refl, refl, refl, refl)
