-- What the order of members says of two of them.
use Rattle.std.proofs.Common.{◌≡◌, ℕ, ◌<◌, ◌≤◌, ◌==◌, ◌&&◌, true, refl, sym, ap, ◌∙◌, inl, inr, arith}
use Rattle.std.proofs.lemmas.Bool.{cases_eq, cases_lt, eq-eqb, ne_eqb, true≢false}
use Rattle.std.proofs.lemmas.Cmp.{ranked}
use Rattle.std.specs.Cmp.{nat_cmp_is}
use Rattle.std.specs.declared.cmp.Ordering.{Ordering}
use Rattle.std.specs.declared.cmp.Ordering.TheVariants.{Less, Equal, Greater}
use Rattle.std.specs.Ordering.{is_eq, is_le, nat_cmp, ordering_then}
use Rattle.pl_node.specs.declared.switch_records.Member.{Member}
use Rattle.pl_layouts.specs.Frames.{mac_number}
use Rattle.pl_switch_rule.specs.Intake.{member_cmp}

pub is_less : (a b : ℕ) → a < b → nat_cmp a b ≡ Less
is_less a b h = sym (nat_cmp_is a b Less h)

pub is_equal : (a b : ℕ) → a ≡ b → nat_cmp a b ≡ Equal
is_equal a b h = sym (nat_cmp_is a b Equal h)

pub is_greater : (a b : ℕ) → b < a → nat_cmp a b ≡ Greater
is_greater a b h = sym (nat_cmp_is a b Greater h)

pub from_equal : (a b : ℕ) → nat_cmp a b ≡ Equal → a ≡ b
from_equal a b e = ranked a b Equal (sym e)

pub from_less : (a b : ℕ) → nat_cmp a b ≡ Less → a < b
from_less a b e = ranked a b Less (sym e)

pub equal_is : (r : Ordering) → is_eq r ≡ true → r ≡ Equal
equal_is Less e = absurd (true≢false (sym e))
equal_is Equal e = refl
equal_is Greater e = absurd (true≢false (sym e))

less_greater : Greater ≡ Less → ⊥
less_greater e = true≢false (sym (ap is_le e))

-- two numbers compare as equal where they are
pub equal_numbers : (a b : ℕ) → is_eq (nat_cmp a b) ≡ (b == a)
equal_numbers a b = elim (cases_eq b a) [
  | inl same ↦ ap is_eq (is_equal a b (sym same)) ∙ sym (eq-eqb b a same)
  | inr other ↦ elim (cases_lt a b) [
    | inl lt ↦ ap is_eq (is_less a b lt) ∙ sym (ne_eqb b a other)
    | inr ge ↦ let gt : b < a = omega arith in ap is_eq (is_greater a b gt) ∙ sym (ne_eqb b a other)
  ]
]

pub equal_both : (first next : Ordering) → is_eq (ordering_then first next) ≡ (is_eq first && is_eq next)
equal_both Less next = refl
equal_both Equal next = refl
equal_both Greater next = refl

-- a member that is behind another is of no lower group
pub groups_rise : (a b : Member) → member_cmp a b ≡ Less → a.group ≤ b.group
groups_rise a b e = elim (cases_lt b.group a.group) [
  | inl lt ↦ absurd (less_greater (sym (ap (λ r. ordering_then r (ordering_then (nat_cmp a.port b.port) (nat_cmp (mac_number a.amac) (mac_number b.amac)))) (is_greater a.group b.group lt)) ∙ e))
  | inr ge ↦ ge
]
