-- How often frames stand in queues, and how many entries begin and end them.
use Rattle.std.proofs.Common.{◌≡◌, ℕ, zero, suc, ◌+◌, ◌<◌, ◌==◌, Bool, true, false, if◌then◌else◌, List, [], ◌∷◌, ◌++◌, length, Some, get_or, is_some, set, slice_get, refl, subst, arith}
use Rattle.std.specs.List.{AllByRecursion}
use Rattle.std.proofs.lemmas.Bool.Decides.{nat_tests}
use Rattle.pl_journal.specs.declared.cause.Cause.{Cause}
use Rattle.pl_journal.specs.declared.entry.Entry.{Entry}
use Rattle.pl_journal.specs.declared.entry.Entry.TheVariants.{Dropped}
use Rattle.pl_journal.specs.Flights.{begun, begun_by, ended_by, ends, is_frame}
use Rattle.pl_world.specs.declared.item.Item.{Item}
use Rattle.pl_world.specs.declared.item.Item.TheVariants.{Control, Data}
use Rattle.pl_world.specs.Changes.{ends_of}
use Rattle.pl_world.specs.Flying.{born, times_in, times_in_all}

-- 1 for this number, and 0 for every other
abbrev pub one : ℕ → ℕ → ℕ
one number id = if number == id then 1 else 0

one_more : (b : Bool) (n : ℕ) → (if b then n + 1 else n) ≡ (if b then 1 else 0) + n
one_more true n = omega arith
one_more false n = omega arith

pub times_in-data : (id number : ℕ) (frame : List ℕ) (items : List Item) → times_in id (Data number frame ∷ items) ≡ one number id + times_in id items
times_in-data id number frame items = one_more (number == id) (times_in id items)

pub times_in-cons : (id : ℕ) (item : Item) (items : List Item) → times_in id (item ∷ items) ≡ times_in id (item ∷ []) + times_in id items
times_in-cons id (Control frame) items = omega arith
times_in-cons id (Data number frame) items = omega (arith, times_in-data id number frame items, times_in-data id number frame [])

pub times_in-append : (id : ℕ) (xs ys : List Item) → times_in id (xs ++ ys) ≡ times_in id xs + times_in id ys
times_in-append id [] ys = omega arith
times_in-append id (x ∷ xs) ys = omega (arith, times_in-cons id x (xs ++ ys), times_in-cons id x xs, times_in-append id xs ys)

pub times_in_all-set : (id : ℕ) (queues : List (List Item)) (n : ℕ) (queue : List Item) → n < length queues →
    times_in_all id (set queues n queue) + times_in id (get_or queues n []) ≡ times_in_all id queues + times_in id queue
times_in_all-set id [] n queue within = absurd (omega arith)
times_in_all-set id (l ∷ queues) zero queue within = omega arith
times_in_all-set id (l ∷ queues) (suc n) queue within = omega (arith, times_in_all-set id queues n queue (omega arith))

pub ends-cons : (e : Entry) (past : List Entry) (id : ℕ) → ends (e ∷ past) id ≡ ends (e ∷ []) id + ends past id
ends-cons e past id = one_more (is_frame (ended_by e) id) (ends past id)

pub ends-append : (xs ys : List Entry) (id : ℕ) → ends (xs ++ ys) id ≡ ends xs id + ends ys id
ends-append [] ys id = omega arith
ends-append (x ∷ xs) ys id = omega (arith, ends-cons x (xs ++ ys) id, ends-cons x xs id, ends-append xs ys id)

pub begun_cons : (e : Entry) (past : List Entry) → begun (e ∷ past) ≡ begun (e ∷ []) + begun past
begun_cons e past = one_more (is_some (begun_by e)) (begun past)

pub begun-append : (xs ys : List Entry) → begun (xs ++ ys) ≡ begun xs + begun ys
begun-append [] ys = omega arith
begun-append (x ∷ xs) ys = omega (arith, begun_cons x (xs ++ ys), begun_cons x xs, begun-append xs ys)

pub ends_of-ends : (cause : Cause) (items : List Item) (id : ℕ) → ends (ends_of cause items) id ≡ times_in id items
ends_of-ends cause [] id = refl
ends_of-ends cause (Control frame ∷ items) id = ends_of-ends cause items id
ends_of-ends cause (Data number frame ∷ items) id =
    omega (arith, ends-cons (Dropped number cause) (ends_of cause items) id, ends_of-ends cause items id, times_in-data id number frame items)

pub ends_of-begun : (cause : Cause) (items : List Item) → begun (ends_of cause items) ≡ 0
ends_of-begun cause [] = refl
ends_of-begun cause (Control frame ∷ items) = ends_of-begun cause items
ends_of-begun cause (Data number frame ∷ items) = ends_of-begun cause items

pub born_none : (id : ℕ) → born id 0 ≡ 0
born_none id = grind (arith, nat_tests)

pub born_more : (id many : ℕ) → born id (many + 1) ≡ born id many + one (many + 1) id
born_more id many = grind (arith, nat_tests)

pub all_at : {T : Type 0} (P : T → Type 0) (xs : List T) (n : ℕ) (d : T) → P d → AllByRecursion P xs → P (get_or xs n d)
all_at P [] n d base all = base
all_at P (x ∷ xs) zero d base all = all.0
all_at P (x ∷ xs) (suc n) d base all = all_at P xs n d base all.1

pub all_found : {T : Type 0} (P : T → Type 0) (xs : List T) (n : ℕ) (x : T) → slice_get xs n ≡ Some x → AllByRecursion P xs → P x
all_found P [] n x is all = absurd (cc)
all_found P (y ∷ xs) zero x is all = let same : y ≡ x = cc in subst P same all.0
all_found P (y ∷ xs) (suc n) x is all = all_found P xs n x is all.1

pub all_set : {T : Type 0} (P : T → Type 0) (xs : List T) (n : ℕ) (x : T) → P x → AllByRecursion P xs → AllByRecursion P (set xs n x)
all_set P [] n x here all = all
all_set P (y ∷ xs) zero x here all = (here, all.1)
all_set P (y ∷ xs) (suc n) x here all = (all.0, all_set P xs n x here all.1)

-- a queue that has a first item is there
pub within_queue : {T : Type 0} (queues : List (List T)) (n : ℕ) (x : T) (xs : List T) → get_or queues n [] ≡ x ∷ xs → n < length queues
within_queue [] n x xs is = absurd (cc)
within_queue (l ∷ queues) zero x xs is = omega arith
within_queue (l ∷ queues) (suc n) x xs is = omega (arith, within_queue queues n x xs is)
