-- What a write at one queue does to what is said and carried.
use Rattle.std.proofs.Common.{◌≡◌, ℕ, ◌*◌, ◌<◌, ◌||◌, Bool, true, false, List, [], ◌∷◌, ◌++◌, length, get_or, set, refl, sym, ap, ◌∙◌, append_assoc, get_or-set_same, get_or-set_other, map, suc, zero, if◌then◌else◌, nat_lt, replicate}
use Rattle.std.specs.List.{flat_map, list_any, AllByRecursion}
use Rattle.pl_lemmas.proofs.Exports.{replicated}
use Rattle.pl_frame.specs.declared.address.SwitchId.{SwitchId}
use Rattle.pl_layouts.specs.declared.control.Control.{Control}
use Rattle.pl_wiring.specs.Index.{port_index}
use Rattle.pl_wiring.proofs.Exports.{entry_at-in_range, entry_at-set_other, entry_at-set_same, port_index-below}
use Rattle.pl_node.specs.declared.acts.Act.{Act}
use Rattle.pl_node.specs.declared.acts.Act.TheVariants as act
use Rattle.pl_node.specs.SwitchViews.{SwitchView}
use Rattle.pl_node.specs.SwitchFacts.{switch_at_boot}
use Rattle.pl_queues.specs.Queues.{items_at, put_at}
use Rattle.pl_world.specs.declared.item.Item.{Item}
use Rattle.pl_law_control_plane.specs.ControlPlanes.{no_switch, queue_out, said, said_by, tells, unless}

module _ {A B : Type 0} where
  pub flat_map_append : (f : A → List B) (xs ys : List A) → flat_map f (xs ++ ys) ≡ flat_map f xs ++ flat_map f ys
  flat_map_append f [] ys = refl
  flat_map_append f (x ∷ xs) ys = ap (λ zs. f x ++ zs) (flat_map_append f xs ys) ∙ sym (append_assoc (f x) (flat_map f xs) (flat_map f ys))

or_assoc : (x y z : Bool) → (x || (y || z)) ≡ ((x || y) || z)
or_assoc true y z = refl
or_assoc false y z = refl

module _ {A : Type 0} where
  pub any_append : (p : A → Bool) (xs ys : List A) → list_any p (xs ++ ys) ≡ (list_any p xs || list_any p ys)
  any_append p [] ys = refl
  any_append p (x ∷ xs) ys = ap (λ b. p x || b) (any_append p xs ys) ∙ or_assoc (p x) (list_any p xs) (list_any p ys)

pub said_append : (xs ys : List Item) → said (xs ++ ys) ≡ said xs ++ said ys
said_append xs ys = flat_map_append said_by xs ys

-- what is so of each act is so of each word that acts tell the manager
pub told_all : (P : Act → Type 0) (acts : List Act) → AllByRecursion P acts → AllByRecursion (λ told. P (act.Tell told)) (tells acts)
told_all P [] all = tt
told_all P (act.Tell told ∷ acts) all = (all.0, told_all P acts all.1)
told_all P (a ∷ acts) all = told_all P acts all.1

-- a queue that items were put into, or taken from
module _ (k count s p : ℕ) (out : List (List Item)) (there : s < count) (within : p < k) (many : length out ≡ count * k) where
  pub at_queue : port_index k s p < length out
  at_queue = rw many (port_index-below k s p count there within)

  pub set_here : (items : List Item) → queue_out k (set out (port_index k s p) items) s p ≡ items
  set_here items = entry_at-set_same [] k out s p items within at_queue

  pub put_here : (item : Item) → queue_out k (put_at out (port_index k s p) item) s p ≡ queue_out k out s p ++ item ∷ []
  put_here item = set_here (get_or out (port_index k s p) [] ++ item ∷ [])
      ∙ ap (λ items. items ++ item ∷ []) (sym (entry_at-in_range [] k out s p within))

module _ (k s p : ℕ) (out : List (List Item)) (within : p < k) where
  pub set_elsewhere : (items : List Item) (t q : ℕ) → ((s ≡ t) × (p ≡ q) → ⊥) → queue_out k (set out (port_index k s p) items) t q ≡ queue_out k out t q
  set_elsewhere items t q apart = entry_at-set_other [] k out s p items t q within apart

-- a queue by one number
module _ {T : Type 0} where
  pub put_at_here : (queues : List (List T)) (n : ℕ) (x : T) → n < length queues → items_at (put_at queues n x) n ≡ items_at queues n ++ x ∷ []
  put_at_here queues n x within = get_or-set_same queues n (get_or queues n [] ++ x ∷ []) [] within

  pub put_at_elsewhere : (queues : List (List T)) (n : ℕ) (x : T) (m : ℕ) → (m ≡ n → ⊥) → items_at (put_at queues n x) m ≡ items_at queues m
  put_at_elsewhere queues n x m differ = get_or-set_other queues n m (get_or queues n [] ++ x ∷ []) [] differ

pub unless_all : (P : Control → Type 0) (failed : Bool) (xs : List Control) → AllByRecursion P xs → AllByRecursion P (unless failed xs)
unless_all P true xs all = tt
unless_all P false xs all = all

-- each switch is one at its beginning
pub booted_view : (P : SwitchView → Type 0) → ((id : SwitchId) (k : ℕ) → P (switch_at_boot id k)) → (k : ℕ) (ids : List SwitchId) (s : ℕ) →
    P (get_or (map (λ id. switch_at_boot id k) ids) s no_switch)
booted_view P all k [] s = all (record { 0 = 0 }) 0
booted_view P all k (id ∷ ids) zero = all id k
booted_view P all k (id ∷ ids) (suc s) = booted_view P all k ids s

pub nothing_said : (k n s port : ℕ) → said (queue_out k (replicate n []) s port) ≡ []
nothing_said k n s port = by (nat_lt port k)
  where
    by : (b : Bool) → said (if b then get_or (replicate n []) (port_index k s port) [] else []) ≡ []
    by true = ap said (replicated n (port_index k s port) [])
    by false = refl
