-- Readings one after another, and what a loop over tables knows of them.
use Rattle.std.proofs.Common.{◌≡◌, ℕ, ◌+◌, ◌<◌, Bool, true, false, List, [], ◌∷◌, ◌++◌, length, get_or, drop, take, append_assoc, Option, Some, None, Result, Ok, Err, Bor, String, BTreeMap, Global, refl, sym, ap, ◌∙◌}
use Rattle.std.specs.Bool.{⊤}
use Rattle.std.specs.List.{flat_map}
use Rattle.std.proofs.lemmas.Grind.{flat_map-append}
use Rattle.std.proofs.lemmas.List.{append-nil, drop_more, take_more}
use Rattle.toml.specs.Data.{Members}
use Rattle.toml.specs.View.{table_view}
use Rattle.toml.specs.declared.value.Value.{Value}
use Rattle.pl_topology.specs.declared.error.TopologyError.{TopologyError}
use Rattle.pl_topology.specs.declared.error.TopologyError.TheVariants.{NotToml, BadK, Missing, BadValue, DoubleId, DoubleHost, DoubleAddress, BadPort, NotFatTree, Memory}
use Rattle.pl_topology.specs.Document.{lent_tables}
use Rattle.pl_topology.specs.Refusal.{◌>>=◌, or_refused, refused_if, all_beside, each_beside, ReadingFails, ReadingGives}

-- what gave a value was given one by each step
pub bind_ok : {A B : Type 0} (r : Result A TopologyError) (f : A → Result B TopologyError) (y : B) → (r >>= f) ≡ Ok y → (x : A) × (r ≡ Ok x) × (f x ≡ Ok y)
bind_ok (Ok x) f y given = (x, refl, given)
bind_ok (Err e) f y given = cc

pub or_refused_ok : {A : Type 0} (o : Option A) (e : TopologyError) (x : A) → or_refused o e ≡ Ok x → o ≡ Some x
or_refused_ok (Some x) e y given = cc
or_refused_ok None e y given = cc

pub refused_if_ok : (b : Bool) (e : TopologyError) (u : ⊤) → refused_if b e ≡ Ok u → b ≡ false
refused_if_ok true e u given = cc
refused_if_ok false e u given = refl

-- a reading that is refused so
pub ReadingFails-refused : {B : Type 0} (e : TopologyError) (reading : Result B TopologyError) → reading ≡ Err e → ReadingFails e reading
ReadingFails-refused NotToml reading refused = refused
ReadingFails-refused BadK reading refused = refused
ReadingFails-refused (Missing key) reading refused = refused
ReadingFails-refused (BadValue key) reading refused = refused
ReadingFails-refused (DoubleId id) reading refused = refused
ReadingFails-refused (DoubleHost name) reading refused = refused
ReadingFails-refused (DoubleAddress name) reading refused = refused
ReadingFails-refused (BadPort label port) reading refused = refused
ReadingFails-refused (NotFatTree a b) reading refused = refused
ReadingFails-refused Memory reading refused = tt

pub ReadingGives-refused : {A B : Type 0} (view : A → B) (r : Result A TopologyError) (e : TopologyError) (reading : Result B TopologyError) → r ≡ Err e → reading ≡ Err e → ReadingGives view r reading
ReadingGives-refused view r e reading is refused = rw is (ReadingFails-refused e reading refused)

abbrev pub Lent : Type 0
Lent = Bor (BTreeMap (String Global) Value)

-- the table of this turn is read, and the rest is left
pub all_beside-next : {B : Type 0} (read : List B → Members → Result B TopologyError) (before : List B) (tables : List Lent) (i : ℕ) (table : Lent) (y : B) →
    i < length tables → table ≡ get_or tables i table → read before (table_view table.now) ≡ Ok y →
    all_beside read (before ++ y ∷ []) (lent_tables (drop (i + 1) tables)) ≡ all_beside read before (lent_tables (drop i tables))
all_beside-next read before tables i table y within is given =
    let same : get_or tables i table ≡ table = sym is in
    rw (drop_more tables i table within, same, given) refl

-- the table of this turn is refused
pub all_beside-refused : {B : Type 0} (read : List B → Members → Result B TopologyError) (before : List B) (tables : List Lent) (i : ℕ) (table : Lent) (e : TopologyError) →
    i < length tables → table ≡ get_or tables i table → read before (table_view table.now) ≡ Err e → all_beside read before (lent_tables (drop i tables)) ≡ Err e
all_beside-refused read before tables i table e within is refused =
    let same : get_or tables i table ≡ table = sym is in
    rw (drop_more tables i table within, same, refused) refl

-- this turn's check passed, and the rest is left
pub each_beside-next : {A : Type 0} (check : List A → A → Result ⊤ TopologyError) (front xs : List A) (i : ℕ) (d x : A) →
    i < length xs → x ≡ get_or xs i d → check (front ++ take i xs) x ≡ Ok tt →
    each_beside check (front ++ take (i + 1) xs) (drop (i + 1) xs) ≡ each_beside check (front ++ take i xs) (drop i xs)
each_beside-next check front xs i d x within is passed =
    let same : get_or xs i d ≡ x = sym is in
    rw (drop_more xs i d within, take_more xs i d within, same, passed, append_assoc) refl

-- this turn's check refused
pub each_beside-refused : {A : Type 0} (check : List A → A → Result ⊤ TopologyError) (front xs : List A) (i : ℕ) (d x : A) (e : TopologyError) →
    i < length xs → x ≡ get_or xs i d → check (front ++ take i xs) x ≡ Err e → each_beside check (front ++ take i xs) (drop i xs) ≡ Err e
each_beside-refused check front xs i d x e within is refused =
    let same : get_or xs i d ≡ x = sym is in
    rw (drop_more xs i d within, same, refused) refl

-- one more of a list
pub front_more : {A : Type 0} (front xs : List A) (i : ℕ) (d x : A) → i < length xs → x ≡ get_or xs i d → front ++ take (i + 1) xs ≡ (front ++ take i xs) ++ x ∷ []
front_more front xs i d x within is =
    let same : get_or xs i d ≡ x = sym is in
    rw (take_more xs i d within, same, append_assoc) refl

pub ReadingFails-bind : {A B : Type 0} (e : TopologyError) (reading : Result A TopologyError) (f : A → Result B TopologyError) → ReadingFails e reading → ReadingFails e (reading >>= f)
ReadingFails-bind NotToml reading f refused = rw refused refl
ReadingFails-bind BadK reading f refused = rw refused refl
ReadingFails-bind (Missing key) reading f refused = rw refused refl
ReadingFails-bind (BadValue key) reading f refused = rw refused refl
ReadingFails-bind (DoubleId id) reading f refused = rw refused refl
ReadingFails-bind (DoubleHost name) reading f refused = rw refused refl
ReadingFails-bind (DoubleAddress name) reading f refused = rw refused refl
ReadingFails-bind (BadPort label port) reading f refused = rw refused refl
ReadingFails-bind (NotFatTree a b) reading f refused = rw refused refl
ReadingFails-bind Memory reading f refused = tt

-- the exit of a `?` on a call that fails as the first of two readings does
pub ReadingGives-exit : {A B C D : Type 0} (view : A → B) (r : Result A TopologyError) (inner : C → D) (s : Result C TopologyError) (e d : TopologyError) (reading : Result D TopologyError) (f : D → Result B TopologyError) →
    r ≡ Err e → e ≡ d → s ≡ Err d → ReadingGives inner s reading → ReadingGives view r (reading >>= f)
ReadingGives-exit view r inner s e d reading f is same was given =
    let fails : ReadingFails d reading = (rw was at given) in
    rw (is, same) (ReadingFails-bind d reading f fails)

-- what a call that returned gave
pub ReadingGives-ok : {A B : Type 0} (view : A → B) (r : Result A TopologyError) (x : A) (reading : Result B TopologyError) → r ≡ Ok x → ReadingGives view r reading → reading ≡ Ok (view x)
ReadingGives-ok view r x reading is given = (rw is at given)

bind_bind : {A B C : Type 0} (r : Result A TopologyError) (f : A → Result B TopologyError) (g : B → Result C TopologyError) → ((r >>= f) >>= g) ≡ (r >>= λ x. f x >>= g)
bind_bind (Ok x) f g = refl
bind_bind (Err e) f g = refl

-- a list is checked as its front and then its rest
pub each_beside-append : {A : Type 0} (check : List A → A → Result ⊤ TopologyError) (before xs ys : List A) →
    each_beside check before (xs ++ ys) ≡ (each_beside check before xs >>= λ _. each_beside check (before ++ xs) ys)
each_beside-append check before [] ys = rw (append-nil before) refl
each_beside-append check before (x ∷ xs) ys =
    let front : (before ++ x ∷ []) ++ xs ≡ before ++ x ∷ xs = append_assoc before (x ∷ []) xs in
    let rest = (rw front at (each_beside-append check (before ++ x ∷ []) xs ys)) in
    ap (λ r. check before x >>= λ _. r) rest
    ∙ sym (bind_bind (check before x) (λ _. each_beside check (before ++ x ∷ []) xs) (λ _. each_beside check (before ++ x ∷ xs) ys))

-- this turn's items are checked, and then those of the rest
pub each_beside-turn : {A B : Type 0} (check : List B → B → Result ⊤ TopologyError) (items : A → List B) (before : List B) (xs : List A) (i : ℕ) (d x : A) →
    i < length xs → x ≡ get_or xs i d →
    each_beside check before (flat_map items (drop i xs)) ≡ (each_beside check before (items x) >>= λ _. each_beside check (before ++ items x) (flat_map items (drop (i + 1) xs)))
each_beside-turn check items before xs i d x within is =
    let same : get_or xs i d ≡ x = sym is in
    rw (drop_more xs i d within, same) (each_beside-append check before (items x) (flat_map items (drop (i + 1) xs)))

append_nil_at : {A B : Type 0} (items : A → List B) (x : A) → flat_map items (x ∷ []) ≡ items x
append_nil_at items x = append-nil (items x)

pub flat_more : {A B : Type 0} (items : A → List B) (before : List B) (xs : List A) (i : ℕ) (d x : A) → i < length xs → x ≡ get_or xs i d →
    before ++ flat_map items (take (i + 1) xs) ≡ (before ++ flat_map items (take i xs)) ++ items x
flat_more items before xs i d x within is =
    let same : get_or xs i d ≡ x = sym is in
    rw (take_more xs i d within, same, flat_map-append, append_nil_at items x, append_assoc) refl

-- this turn's item is checked first
pub each_beside-first : {A : Type 0} (check : List A → A → Result ⊤ TopologyError) (before xs : List A) (i : ℕ) (d x : A) → i < length xs → x ≡ get_or xs i d →
    each_beside check before (drop i xs) ≡ (check before x >>= λ _. each_beside check (before ++ x ∷ []) (drop (i + 1) xs))
each_beside-first check before xs i d x within is =
    let same : get_or xs i d ≡ x = sym is in
    rw (drop_more xs i d within, same) refl

-- this turn's items passed, and the rest is left
pub turn_ok : {A B : Type 0} (check : List B → B → Result ⊤ TopologyError) (items : A → List B) (before : List B) (xs : List A) (i : ℕ) (d x : A) → i < length xs → x ≡ get_or xs i d →
    each_beside check before (items x) ≡ Ok tt → each_beside check (before ++ items x) (flat_map items (drop (i + 1) xs)) ≡ each_beside check before (flat_map items (drop i xs))
turn_ok check items before xs i d x within is passed = rw (each_beside-turn check items before xs i d x within is, passed) refl
