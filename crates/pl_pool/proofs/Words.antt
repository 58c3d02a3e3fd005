-- What the words on pairs give where a key is absent, and where it stands between others.
use Rattle.std.proofs.Common.{◌≡◌, ◌≢◌, ℕ, zero, suc, ◌<◌, true, false, not, ◌||◌, cond, List, [], ◌∷◌, ◌++◌, map, set, length, get_or, Option, None, Some, option_map, slice_index, filter, if◌then◌else◌, eq-eqb, ne_eqb, refl, ap, ap₂, ◌∙◌, arith}
use Rattle.std.specs.List.{find}
use Rattle.std.proofs.lemmas.Grind.{flat_map-append}
use Rattle.std.proofs.lemmas.Bool.{or_parts}
use Rattle.pl_pool.specs.declared.key.Key.{Key}
use Rattle.pl_pool.specs.Pool.{is_under, has_key, item_at, without, first_key, key_after}
use Rattle.pl_pool.specs.Chains.{IsAmong, entry, entries}

module _ {T : Type 0} where
  -- no pair is under the key
  pub record Misses (pairs : List (Key × T)) (key : Key) : Type 0 where
    pub has : has_key pairs key ≡ false
    pub item : item_at pairs key ≡ None
    pub rest : without pairs key ≡ pairs
    pub none : filter (is_under key) pairs ≡ []
    pub after : key_after pairs key ≡ None

  pub misses : (pairs : List (Key × T)) (key : Key) → has_key pairs key ≡ false → Misses pairs key
  misses [] key h = record { has = refl; item = refl; rest = refl; none = refl; after = refl }
  misses (p ∷ ps) key h =
      let both = or_parts (is_under key p) (has_key ps key) h in
      let m = misses ps key both.1 in
      record {
        has = h;
        item = ap (λ b. option_map (λ (q : Key × T). q.1) (cond b (Some p) (find (is_under key) ps))) both.0 ∙ m.item;
        rest = ap (λ b. cond (not b) (p ∷ without ps key) (without ps key)) both.0 ∙ ap (λ (l : List (Key × T)). p ∷ l) m.rest;
        none = ap (λ b. cond b (p ∷ filter (is_under key) ps) (filter (is_under key) ps)) both.0 ∙ m.none;
        after = ap (λ b. if b then first_key ps else key_after ps key) both.0 ∙ m.after;
      }

  -- one pair is under the key, between these
  pub record Finds (before : List (Key × T)) (pair : Key × T) (behind : List (Key × T)) (key : Key) : Type 0 where
    pub has : has_key (before ++ pair ∷ behind) key ≡ true
    pub item : item_at (before ++ pair ∷ behind) key ≡ Some pair.1
    pub rest : without (before ++ pair ∷ behind) key ≡ before ++ behind
    pub one : filter (is_under key) (before ++ pair ∷ behind) ≡ pair ∷ []
    pub after : key_after (before ++ pair ∷ behind) key ≡ first_key behind

  pub finds : (before : List (Key × T)) (pair : Key × T) (behind : List (Key × T)) (key : Key) → has_key before key ≡ false → pair.0.slot ≡ key.slot → has_key behind key ≡ false
      → Finds before pair behind key
  finds [] pair behind key h here g =
      let m = misses behind key g in
      let is : is_under key pair ≡ true = eq-eqb pair.0.slot key.slot here in
      record {
        has = ap (λ b. b || has_key behind key) is;
        item = ap (λ b. option_map (λ (q : Key × T). q.1) (cond b (Some pair) (find (is_under key) behind))) is;
        rest = ap (λ b. cond (not b) (pair ∷ without behind key) (without behind key)) is ∙ m.rest;
        one = ap (λ b. cond b (pair ∷ filter (is_under key) behind) (filter (is_under key) behind)) is ∙ ap (λ (l : List (Key × T)). pair ∷ l) m.none;
        after = ap (λ b. if b then first_key behind else key_after behind key) is;
      }
  finds (p ∷ ps) pair behind key h here g =
      let both = or_parts (is_under key p) (has_key ps key) h in
      let f = finds ps pair behind key both.1 here g in
      let zs = ps ++ pair ∷ behind in
      record {
        has = ap (λ b. b || has_key (ps ++ pair ∷ behind) key) both.0 ∙ f.has;
        item = ap (λ b. option_map (λ (q : Key × T). q.1) (cond b (Some p) (find (is_under key) (ps ++ pair ∷ behind)))) both.0 ∙ f.item;
        rest = ap (λ b. cond (not b) (p ∷ without (ps ++ pair ∷ behind) key) (without (ps ++ pair ∷ behind) key)) both.0 ∙ ap (λ (l : List (Key × T)). p ∷ l) f.rest;
        one = ap (λ b. cond b (p ∷ filter (is_under key) (ps ++ pair ∷ behind)) (filter (is_under key) (ps ++ pair ∷ behind))) both.0 ∙ f.one;
        after = ap (λ b. if b then first_key (ps ++ pair ∷ behind) else key_after (ps ++ pair ∷ behind) key) both.0 ∙ f.after;
      }

  -- the entries of slots
  pub entries-append : (items : ℕ → Option T) (xs ys : List ℕ) → entries items (xs ++ ys) ≡ entries items xs ++ entries items ys
  entries-append items xs ys = flat_map-append (λ slot. entry slot (items slot)) xs ys

  entry_same : (slot : ℕ) (o : Option T) (item : T) → o ≡ Some item → (rest : List (Key × T)) → entry slot o ++ rest ≡ (record { slot = slot }, item) ∷ rest
  entry_same slot o item is rest = ap (λ (p : Option T). entry slot p ++ rest) is

  -- the entries of a slot that has an item and others around it
  pub entries_around : (items : ℕ → Option T) (xs ys : List ℕ) (slot : ℕ) (item : T) → items slot ≡ Some item
      → entries items (xs ++ slot ∷ ys) ≡ entries items xs ++ (record { slot = slot }, item) ∷ entries items ys
  entries_around items xs ys slot item is =
      entries-append items xs (slot ∷ ys) ∙ ap (λ (l : List (Key × T)). entries items xs ++ l) (entry_same slot (items slot) item is (entries items ys))

  pub entries_same : (f g : ℕ → Option T) (slots : List ℕ) → ((i : ℕ) → i < length slots → f (slice_index slots i) ≡ g (slice_index slots i)) → entries f slots ≡ entries g slots
  entries_same f g [] same = refl
  entries_same f g (slot ∷ slots) same =
      ap₂ (λ (o : Option T) (l : List (Key × T)). entry slot o ++ l) (same 0 (omega arith)) (entries_same f g slots (λ i low. same (suc i) (omega arith)))

  has_key_of_entry : (slot : ℕ) (o : Option T) (rest : List (Key × T)) (key : Key) → slot ≢ key.slot → has_key rest key ≡ false → has_key (entry slot o ++ rest) key ≡ false
  has_key_of_entry slot None rest key other h = h
  has_key_of_entry slot (Some item) rest key other h = ap (λ b. b || has_key rest key) (ne_eqb slot key.slot other) ∙ h

  -- what is not among the slots is the key of no entry
  pub no_entry : (items : ℕ → Option T) (slots : List ℕ) (key : Key) → ¬ IsAmong key.slot slots → has_key (entries items slots) key ≡ false
  no_entry items [] key h = refl
  no_entry items (slot ∷ slots) key h =
      has_key_of_entry slot (items slot) (entries items slots) key (λ same. h (0, omega arith, same))
      (no_entry items slots key (λ among. h (suc among.0, omega (arith, among.1), among.2)))

-- two maps that agree but at one key
module _ {A B : Type 0} (f g : A → B) (d : A) where
  map_same_at : (xs : List A) → ((i : ℕ) → i < length xs → f (get_or xs i d) ≡ g (get_or xs i d)) → map f xs ≡ map g xs
  map_same_at [] same = refl
  map_same_at (x ∷ xs) same = ap₂ (λ (y : B) (l : List B). y ∷ l) (same 0 (omega arith)) (map_same_at xs (λ i low. same (suc i) (omega arith)))

  pub set_map_other : (xs : List A) (n : ℕ) (y : B) → ((i : ℕ) → i < length xs → i ≢ n → f (get_or xs i d) ≡ g (get_or xs i d)) → set (map f xs) n y ≡ set (map g xs) n y
  set_map_other [] n y same = refl
  set_map_other (x ∷ xs) zero y same = ap (λ (l : List B). y ∷ l) (map_same_at xs (λ i low. same (suc i) (omega arith) (omega arith)))
  set_map_other (x ∷ xs) (suc n) y same =
      ap₂ (λ (z : B) (l : List B). z ∷ l) (same 0 (omega arith) (omega arith))
      (set_map_other xs n y (λ i low differs. same (suc i) (omega arith) (omega arith)))
