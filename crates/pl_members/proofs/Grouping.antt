-- The groups of rising members, each as it first comes.
use Rattle.std.proofs.Common.{◌≡◌, ℕ, ◌<◌, ◌≤◌, ◌==◌, eqb, not, true, false, if◌then◌else◌, List, [], ◌∷◌, ◌++◌, Option, Some, None, fold, refl, sym, ap, ◌∙◌, inl, inr, arith, append_assoc}
use Rattle.std.specs.BTreeSet.{insert_key}
use Rattle.std.specs.declared.cmp.Ordering.TheVariants.{Less}
use Rattle.std.specs.List.{AllByRecursion, slice_get}
use Rattle.std.specs.Option.{option_eq}
use Rattle.std.specs.List.Sorted.{IsStrictlySortedBy}
use Rattle.std.specs.Ordering.{nat_cmp, match_ordering}
use Rattle.std.proofs.lemmas.Bool.{cases_eq, eq-eqb, ne_eqb, true≢false}
use Rattle.std.proofs.lemmas.List.{append-nil}
use Rattle.pl_node.specs.declared.switch_records.Member.{Member}
use Rattle.pl_layouts.specs.Placement.{is_known}
use Rattle.pl_switch_rule.specs.Intake.{groups_of, member_cmp}
use Rattle.pl_members.proofs.Comparing.{groups_rise, is_equal, is_greater}

-- the groups that come behind a last one
abbrev pub groups_behind : Option ℕ → List Member → List ℕ
groups_behind last [] = []
groups_behind last (m ∷ ms) = if is_known last m.group then groups_behind last ms else m.group ∷ groups_behind (Some m.group) ms

abbrev notes : List ℕ → Member → List ℕ
notes groups m = insert_key nat_cmp groups m.group

insert_above : (groups : List ℕ) (g : ℕ) → AllByRecursion (λ a. a < g) groups → insert_key nat_cmp groups g ≡ groups ++ g ∷ []
insert_above [] g below = refl
insert_above (a ∷ groups) g below =
    ap (λ r. match_ordering r (g ∷ a ∷ groups) (a ∷ groups) (a ∷ insert_key nat_cmp groups g)) (is_greater g a below.0)
    ∙ ap (λ rest. a ∷ rest) (insert_above groups g below.1)

insert_last : (groups : List ℕ) (g : ℕ) → AllByRecursion (λ a. a < g) groups → insert_key nat_cmp (groups ++ g ∷ []) g ≡ groups ++ g ∷ []
insert_last [] g below = ap (λ r. match_ordering r (g ∷ g ∷ []) (g ∷ []) (g ∷ g ∷ [])) (is_equal g g refl)
insert_last (a ∷ groups) g below =
    ap (λ r. match_ordering r (g ∷ a ∷ (groups ++ g ∷ [])) (a ∷ (groups ++ g ∷ [])) (a ∷ insert_key nat_cmp (groups ++ g ∷ []) g)) (is_greater g a below.0)
    ∙ ap (λ rest. a ∷ rest) (insert_last groups g below.1)

below_more : (groups : List ℕ) (g h : ℕ) → g < h → AllByRecursion (λ a. a < g) groups → AllByRecursion (λ a. a < h) (groups ++ g ∷ [])
below_more [] g h lt below = (lt, tt)
below_more (a ∷ groups) g h lt below = let first : a < g = below.0 in (omega arith, below_more groups g h lt below.1)

abbrev AreFrom : ℕ → List Member → Type 0
AreFrom g ms = AllByRecursion (λ m. g ≤ m.group) ms

from_less : (m : Member) (ms : List Member) → AllByRecursion (λ n. member_cmp m n ≡ Less) ms → AreFrom m.group ms
from_less m [] rise = tt
from_less m (n ∷ ms) rise = (groups_rise m n rise.0, from_less m ms rise.1)

noted_from : (groups : List ℕ) (g : ℕ) (ms : List Member) → AllByRecursion (λ a. a < g) groups → AreFrom g ms → IsStrictlySortedBy member_cmp ms →
    fold notes (groups ++ g ∷ []) ms ≡ (groups ++ g ∷ []) ++ groups_behind (Some g) ms
unfolding IsStrictlySortedBy
noted_from groups g [] below from rise = sym (append-nil (groups ++ g ∷ []))
noted_from groups g (m ∷ ms) below from rise = elim (cases_eq g m.group) [
  | inl same ↦
      rw (eq-eqb g m.group same)
      (ap (λ k. fold notes (insert_key nat_cmp (groups ++ g ∷ []) k) ms) (sym same)
      ∙ ap (λ noted. fold notes noted ms) (insert_last groups g below)
      ∙ noted_from groups g ms below from.1 rise.1)
  | inr other ↦
      let first : g ≤ m.group = from.0 in
      let lt : g < m.group = omega arith in
      let more = below_more groups g m.group lt below in
      rw (ne_eqb g m.group other)
      (ap (λ noted. fold notes noted ms) (insert_above (groups ++ g ∷ []) m.group more)
      ∙ noted_from (groups ++ g ∷ []) m.group ms more (from_less m ms rise.0) rise.1
      ∙ append_assoc (groups ++ g ∷ []) (m.group ∷ []) (groups_behind (Some m.group) ms))
]

-- rising members have their groups in the order in which they come
pub groups_come : (ms : List Member) → IsStrictlySortedBy member_cmp ms → groups_of ms ≡ groups_behind None ms
unfolding IsStrictlySortedBy
groups_come [] rise = refl
groups_come (m ∷ ms) rise = noted_from [] m.group ms tt (from_less m ms rise.0) rise.1

pub apart_from : (k : ℕ) (m : Member) (g : ℕ) → g ≡ m.group → not (option_eq eqb (Some k) (Some g)) ≡ true → (k == m.group) ≡ false
apart_from k m g is new = elim (k == g) as (λ b. (k == g) ≡ b → not b ≡ true → (k == m.group) ≡ false) [
  | true ↦ λ e h. absurd (true≢false (sym h))
  | false ↦ λ e h. ap (λ n. k == n) (sym is) ∙ e
] refl new

-- the next group is not the last one
pub next_group : (last : Option ℕ) (m : Member) (rest : List Member) (g : ℕ) → g ≡ m.group → not (option_eq eqb last (Some g)) ≡ true →
    Some g ≡ slice_get (groups_behind last (m ∷ rest)) 0
next_group None m rest g is new = ap (λ n. Some n) is
next_group (Some k) m rest g is new = rw (apart_from k m g is new) (ap (λ n. Some n) is)

pub counted : (items keys members : List Member) (n : ℕ) → items ≡ keys → keys ≡ members → IsStrictlySortedBy member_cmp keys →
    slice_get (groups_behind None items) n ≡ slice_get (groups_of members) n
counted items keys members n shown seen rise =
    ap (λ ms. slice_get (groups_behind None ms) n) shown
    ∙ ap (λ groups. slice_get groups n) (sym (groups_come keys rise))
    ∙ ap (λ ms. slice_get (groups_of ms) n) seen
