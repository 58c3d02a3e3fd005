-- Numbers that are given one after the other, and what is forgotten behind all of them.
use Rattle.std.proofs.Common.{◌≡◌, ◌⊎◌, ℕ, ◌+◌, List, [], ◌++◌, length, map, Option, Some, None, IsSome, refl, sym, ap, inl, inr, ◌∙◌, arith, length-append}
use Rattle.std.proofs.lemmas.List.{map-append}
use Rattle.std.specs.List.{range_with_len}
use Rattle.std.specs.Option.{option_map}
use Rattle.std.proofs.lemmas.Option.{none-some, same_Some}
use Rattle.pl_lemmas.proofs.Exports.{range_parts}
use Rattle.pl_pmac.specs.declared.pmac.Pmac.{Pmac}
use Rattle.pl_node.specs.ManagerDuties.{AreNumbered, with_number}
use Rattle.pl_node.specs.ManagerViews.{Learnt, ManagerView, Registration, registration}
use Rattle.pl_node.proofs.Exports.{among_append, among_left, among_of_Contains, among_right, Contains-of_among, IsAmong}
use Rattle.pl_manager_rule.proofs.Aging.{WasRegistered}

-- These addresses are learnt, with the next numbers in turn, and nothing is forgotten.
pub record LearnsAs (before after : Learnt) (given : List (Pmac × ℕ)) : Type 0 where
  pub count : after.count ≡ length given + before.count
  pub numbers : map (λ g. g.1) given ≡ range_with_len (before.count + 1) (length given)
  pub fresh : (x : Pmac) (n : ℕ) → IsAmong (x, n) given → registration before x ≡ None
  pub stands : (x : Pmac) (n : ℕ) → IsAmong (x, n) given → option_map with_number (registration after x) ≡ Some (x, n)
  pub keeps : (x : Pmac) (r : Registration) → registration before x ≡ Some r → registration after x ≡ Some r
  pub registered : (x : Pmac) (r : Registration) → registration after x ≡ Some r → (registration before x ≡ Some r) ⊎ IsAmong (with_number r) given

pub learns_nothing : (before after : Learnt) → after.count ≡ before.count → ((x : Pmac) → registration after x ≡ registration before x) → LearnsAs before after []
learns_nothing before after count same = record {
  count = omega (arith, count);
  numbers = refl;
  fresh = λ x n h. absurd h;
  stands = λ x n h. absurd h;
  keeps = λ x r is. same x ∙ is;
  registered = λ x r is. inl (sym (same x) ∙ is);
}

still_numbered : (o p : Option Registration) (g : Pmac × ℕ) → ((r : Registration) → o ≡ Some r → p ≡ Some r) → option_map with_number o ≡ Some g →
    option_map with_number p ≡ Some g
still_numbered None p g keeps is = absurd (none-some g is)
still_numbered (Some r) p g keeps is = ap (option_map with_number) (keeps r refl) ∙ is

fresh_before : (o p : Option Registration) → ((r : Registration) → o ≡ Some r → p ≡ Some r) → p ≡ None → o ≡ None
fresh_before None p keeps none = refl
fresh_before (Some r) p keeps none = absurd (none-some r (sym none ∙ keeps r refl))

-- first the ones, and then the others
module _ (a b c : Learnt) (g h : List (Pmac × ℕ)) (first : LearnsAs a b g) (then : LearnsAs b c h) where
  both_count : c.count ≡ length (g ++ h) + a.count
  both_count = let one = first.count in let two = then.count in let long = length-append g h in omega (arith, one, two, long)

  both_numbers : map (λ x. x.1) (g ++ h) ≡ range_with_len (a.count + 1) (length (g ++ h))
  both_numbers =
      let one = first.count in
      let long = length-append g h in
      map-append (λ (x : Pmac × ℕ). x.1) g h ∙ ap (λ ns. ns ++ map (λ (x : Pmac × ℕ). x.1) h) first.numbers
      ∙ ap (λ ns. range_with_len (a.count + 1) (length g) ++ ns) then.numbers
      ∙ sym (range_parts (a.count + 1) (length g) (length h) (length (g ++ h)) (b.count + 1) (omega (arith, long)) (omega (arith, one)))

  pub learns_both : LearnsAs a c (g ++ h)
  learns_both = record {
    count = both_count;
    numbers = both_numbers;
    fresh = λ x n among. elim (among_append (x, n) g h among) [
      | inl one ↦ first.fresh x n one
      | inr two ↦ fresh_before (registration a x) (registration b x) (first.keeps x) (then.fresh x n two)
    ];
    stands = λ x n among. elim (among_append (x, n) g h among) [
      | inl one ↦ still_numbered (registration b x) (registration c x) (x, n) (then.keeps x) (first.stands x n one)
      | inr two ↦ then.stands x n two
    ];
    keeps = λ x r is. then.keeps x r (first.keeps x r is);
    registered = λ x r is. elim (then.registered x r is) [
      | inl was ↦ elim (first.registered x r was) [
        | inl long ↦ inl long
        | inr one ↦ inr (among_left (with_number r) g h one)
      ]
      | inr two ↦ inr (among_right (with_number r) g h two)
    ];
  }

-- and then some are forgotten
pub numbered_of : (before after : ManagerView) (mid : Learnt) (given : List (Pmac × ℕ)) → LearnsAs before.learnt mid given →
    after.learnt.count ≡ mid.count → WasRegistered mid after.learnt →
    (before.kept ≡ [] → (x : Pmac) (n : ℕ) → IsAmong (x, n) given → IsSome (registration after.learnt x)) → AreNumbered before after given
numbered_of before after mid given learns count was alone = record {
  count = count ∙ learns.count;
  numbers = learns.numbers;
  fresh = λ x n h. learns.fresh x n (among_of_Contains (x, n) given h);
  given_as = λ x n r h is.
      same_Some (with_number r) (x, n) (sym (ap (option_map with_number) (was x r is)) ∙ learns.stands x n (among_of_Contains (x, n) given h));
  registered = λ x r is. elim (learns.registered x r (was x r is)) [
    | inl before_it ↦ inl before_it
    | inr now ↦ inr (Contains-of_among (with_number r) given now)
  ];
  stands = λ none x n h. alone none x n (among_of_Contains (x, n) given h);
}

-- one that has a number is registered
pub some_numbered : (o : Option Registration) (g : Pmac × ℕ) → option_map with_number o ≡ Some g → IsSome o
some_numbered None g is = absurd (none-some g is)
some_numbered (Some r) g is = refl
