-- What the balance of a world says of one frame: one that is owed is in flight and in no queue.
use Rattle.std.proofs.Common.{◌≡◌, ℕ, zero, suc, ◌+◌, ◌≤◌, ◌==◌, ◌&&◌, nat_le, true, false, List, [], ◌∷◌, ◌++◌, reverse, get_or, refl, sym, ◌∙◌, ap, arith, inl, inr}
use Rattle.std.specs.List.{AllByRecursion}
use Rattle.std.proofs.lemmas.Bool.{and_from, and_parts, cases_Bool, cond-false, cond-true, eq-eqb, eqb-false, leb-true, ne_eqb}
use Rattle.std.proofs.lemmas.List.{reverse-append}
use Rattle.pl_wiring.specs.Plan.{Plan}
use Rattle.pl_journal.specs.declared.entry.Entry.{Entry}
use Rattle.pl_journal.specs.Flights.{begun, ends, is_begun, is_flying}
use Rattle.pl_journal.specs.Lossy.{RunTo}
use Rattle.pl_journal.proofs.Exports.{within_begun}
use Rattle.pl_world.specs.declared.item.Item.{Item}
use Rattle.pl_world.specs.declared.item.Item.TheVariants.{Control, Data}
use Rattle.pl_world.specs.Flying.{born, times_in, times_in_all}
use Rattle.pl_world.specs.Worlds.{WorldView}
use Rattle.pl_world.proofs.Exports.{begun-append, begun_cons, born_more, born_once, ends-append, ends-cons, one, Owes}

pub ends_reverse : (xs : List Entry) (id : ℕ) → ends (reverse xs) id ≡ ends xs id
ends_reverse [] id = refl
ends_reverse (x ∷ xs) id =
    let split : ends (reverse (x ∷ xs)) id ≡ ends (reverse xs ++ x ∷ []) id = ap (λ r. ends r id) (reverse-append (x ∷ []) xs) in
    omega (arith, split, ends-append (reverse xs) (x ∷ []) id, ends_reverse xs id, ends-cons x xs id)

pub begun_reverse : (xs : List Entry) → begun (reverse xs) ≡ begun xs
begun_reverse [] = refl
begun_reverse (x ∷ xs) =
    let split : begun (reverse (x ∷ xs)) ≡ begun (reverse xs ++ x ∷ []) = ap begun (reverse-append (x ∷ []) xs) in
    omega (arith, split, begun-append (reverse xs) (x ∷ []), begun_reverse xs, begun_cons x xs)

-- of each number, the frames that ended, those in queues, and those that are owed, are as many as began
pub record Counts (past : List Entry) (from_hosts out : List (List Item)) (owed : ℕ → ℕ) : Type 0 where
  pub flights : (id : ℕ) → ends past id + (times_in_all id from_hosts + times_in_all id out) + owed id ≡ born id (begun past)

pub counts : (w : WorldView) (past : List Entry) (f : ℕ → ℕ) → reverse w.journal ≡ past → Owes w f → Counts past w.from_hosts w.out f
counts w past f is b = record {
  flights = λ id.
      let many : begun past ≡ w.begun = ap begun (sym is) ∙ begun_reverse w.journal ∙ b.begins in
      let over : ends past id ≡ ends w.journal id = ap (λ r. ends r id) (sym is) ∙ ends_reverse w.journal id in
      let all : ends w.journal id + (times_in_all id w.from_hosts + times_in_all id w.out) + f id ≡ born id w.begun = b.flights id in
      let same : born id (begun past) ≡ born id w.begun = ap (born id) many in
      omega arith;
}

pub begun_is : (w : WorldView) (past : List Entry) (f : ℕ → ℕ) → reverse w.journal ≡ past → Owes w f → begun past ≡ w.begun
begun_is w past f is b = ap begun (sym is) ∙ begun_reverse w.journal ∙ b.begins

pub born_within : (id many : ℕ) → born id many ≡ 1 → (1 ≤ id) × (id ≤ many)
born_within id many is = elim (cases_Bool (nat_le 1 id && nat_le id many)) [
  | inl both ↦ let parts = and_parts (nat_le 1 id) (nat_le id many) both in (leb-true 1 id parts.0, leb-true id many parts.1)
  | inr not_both ↦ let none : born id many ≡ 0 = cond-false (nat_le 1 id && nat_le id many) 1 0 not_both in absurd (omega arith)
]

pub next_unborn : (many : ℕ) → born (many + 1) many ≡ 0
next_unborn many = let all = born_more (many + 1) many in let least = born_once (many + 1) (many + 1) in
    let here : one (many + 1) (many + 1) ≡ 1 = cond-true ((many + 1) == (many + 1)) 1 0 (eq-eqb (many + 1) (many + 1) refl) in omega arith

-- a frame in flight that stands in no queue
pub record IsOwed (past : List Entry) (from_hosts out : List (List Item)) (id rest : ℕ) : Type 0 where
  pub flies : is_flying past id ≡ true
  pub not_at_hosts : times_in_all id from_hosts ≡ 0
  pub not_out : times_in_all id out ≡ 0
  pub no_more : rest ≡ 0

pub owed : (plan : Plan) (past : List Entry) (from_hosts out : List (List Item)) (f : ℕ → ℕ) (id rest : ℕ) → RunTo plan past →
    Counts past from_hosts out f → f id ≡ 1 + rest → IsOwed past from_hosts out id rest
owed plan past from_hosts out f id rest run c is =
    let all = c.flights id in
    let least = born_once id (begun past) in
    let none : ends past id ≡ 0 = omega arith in
    let within = born_within id (begun past) (omega arith) in
    record {
      flies = and_from (is_begun past id) (ends past id == 0) (within_begun plan past id run within.0 within.1) (eq-eqb (ends past id) 0 none);
      not_at_hosts = omega arith;
      not_out = omega arith;
      no_more = omega arith;
    }

-- no frame has number 0, and none the next one
pub record IsNowhere (from_hosts out : List (List Item)) (id : ℕ) : Type 0 where
  pub not_at_hosts : times_in_all id from_hosts ≡ 0
  pub not_out : times_in_all id out ≡ 0

pub nobody : (past : List Entry) (from_hosts out : List (List Item)) (f : ℕ → ℕ) → Counts past from_hosts out f → IsNowhere from_hosts out 0
nobody past from_hosts out f c = let all : ends past 0 + (times_in_all 0 from_hosts + times_in_all 0 out) + f 0 ≡ 0 = c.flights 0 in
    record { not_at_hosts = omega arith; not_out = omega arith }

pub next_nowhere : (past : List Entry) (from_hosts out : List (List Item)) (f : ℕ → ℕ) (id : ℕ) → id ≡ begun past + 1 → Counts past from_hosts out f →
    IsNowhere from_hosts out id
next_nowhere past from_hosts out f id next c =
    let all = c.flights id in
    let none : born id (begun past) ≡ 0 = ap (λ n. born n (begun past)) next ∙ next_unborn (begun past) in
    record { not_at_hosts = omega arith; not_out = omega arith }

-- what is not in all queues is not in one
pub not_in_one : (id : ℕ) (queues : List (List Item)) (n : ℕ) → times_in_all id queues ≡ 0 → times_in id (get_or queues n []) ≡ 0
not_in_one id [] n none = refl
not_in_one id (queue ∷ queues) zero none = omega arith
not_in_one id (queue ∷ queues) (suc n) none = not_in_one id queues n (omega arith)

-- what holds of all items but those of one frame that is not there
pub all_kept : (P Q : Item → Type 0) (id : ℕ) → ((frame : List ℕ) → P (Control frame) → Q (Control frame)) →
    ((g : ℕ) (frame : List ℕ) → (id == g) ≡ false → P (Data g frame) → Q (Data g frame)) →
    (items : List Item) → times_in id items ≡ 0 → AllByRecursion P items → AllByRecursion Q items
all_kept P Q id controls frames [] none all = tt
all_kept P Q id controls frames (Control frame ∷ items) none all = (controls frame all.0, all_kept P Q id controls frames items none all.1)
all_kept P Q id controls frames (Data g frame ∷ items) none all = elim (cases_Bool (g == id)) [
  | inl same ↦ let more : times_in id (Data g frame ∷ items) ≡ times_in id items + 1 = cond-true (g == id) (times_in id items + 1) (times_in id items) same in
      absurd (omega arith)
  | inr other ↦
      let rest : times_in id (Data g frame ∷ items) ≡ times_in id items = cond-false (g == id) (times_in id items + 1) (times_in id items) other in
      let apart : (id == g) ≡ false = ne_eqb id g (λ e. eqb-false g id other (sym e)) in
      (frames g frame apart all.0, all_kept P Q id controls frames items (sym rest ∙ none) all.1)
]
