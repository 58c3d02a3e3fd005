-- A membership that is taken out by its place in the order is left out, and no other one.
use Rattle.std.proofs.Common.{◌≡◌, ℕ, ◌==◌, ◌&&◌, not, Bool, true, false, cond, List, [], ◌∷◌, refl, sym, ap, ◌∙◌, inl, inr}
use Rattle.std.specs.List.{All, AllByRecursion, filter}
use Rattle.std.specs.List.Sorted.{IsStrictlySortedBy}
use Rattle.std.specs.Ordering.{is_eq, nat_cmp, ordering_then}
use Rattle.std.specs.declared.cmp.Ordering.TheVariants.{Less}
use Rattle.std.specs.Set.{remove_key}
use Rattle.std.specs.Str.{bytes_eq}
use Rattle.std.proofs.lemmas.Bool.{cases_eq, eq-eqb, ne_eqb}
use Rattle.std.proofs.lemmas.List.Elements.{All-head, All-tail}
use Rattle.std.proofs.lemmas.Slice.Eq.{bytes_eq-Decides}
use Rattle.byteorder.specs.Endian.{big_bytes}
use Rattle.pl_frame.specs.declared.address.Mac.{Mac}
use Rattle.pl_frame.proofs.Exports.{big_bytes-big_number}
use Rattle.pl_node.specs.declared.switch_records.Member.{Member}
use Rattle.pl_layouts.specs.Equality.{same_mac}
use Rattle.pl_layouts.specs.Frames.{mac_number}
use Rattle.pl_switch_rule.specs.Intake.{is_member, leaves, member_cmp}
use Rattle.pl_members.specs.Ranking.{member_cmp_total}
use Rattle.pl_members.specs.Reached.{MemberIsAtPort, IsMac}
use Rattle.pl_members.proofs.Comparing.{equal_both, equal_is, equal_numbers}

-- two tests that agree at each element keep the same ones
pub filter_alike : {X : Type 0} (p q : X → Bool) (xs : List X) → All (λ x. p x ≡ q x) xs → filter p xs ≡ filter q xs
filter_alike p q [] same = refl
filter_alike p q (x ∷ xs) same =
    ap (λ b. cond b (x ∷ filter p xs) (filter p xs)) (All-head (λ y. p y ≡ q y) x xs same)
    ∙ ap (λ rest. cond (q x) (x ∷ rest) rest) (filter_alike p q xs (All-tail (λ y. p y ≡ q y) x xs same))

kept_all : {X : Type 0} (test : X → Bool) (xs : List X) → AllByRecursion (λ x. test x ≡ false) xs → xs ≡ filter (λ x. not (test x)) xs
kept_all test [] none = refl
kept_all test (x ∷ xs) none =
    ap (λ rest. x ∷ rest) (kept_all test xs none.1) ∙ ap (λ b. cond (not b) (x ∷ filter (λ y. not (test y)) xs) (filter (λ y. not (test y)) xs)) (sym none.0)

module _ (x : Member) where
  abbrev is_it : Member → Bool
  is_it m = is_eq (member_cmp x m)

  behind : (y : Member) (ys : List Member) → is_it y ≡ true → AllByRecursion (λ z. member_cmp y z ≡ Less) ys → AllByRecursion (λ z. is_it z ≡ false) ys
  behind y [] e rise = tt
  behind y (z ∷ zs) e rise = (ap is_eq (member_cmp_total.congr x y z (equal_is (member_cmp x y) e) ∙ rise.0), behind y zs e rise.1)

  pub taken_out : (xs : List Member) → IsStrictlySortedBy member_cmp xs → remove_key is_it xs ≡ filter (λ m. not (is_it m)) xs
  unfolding IsStrictlySortedBy
  taken_out [] rise = refl
  taken_out (y ∷ ys) rise =
      elim (is_it y) as (λ b. is_it y ≡ b → cond b ys (y ∷ remove_key is_it ys) ≡ cond (not b) (y ∷ filter (λ m. not (is_it m)) ys) (filter (λ m. not (is_it m)) ys)) [
        | true ↦ λ e. kept_all is_it ys (behind y ys e rise.0)
        | false ↦ λ e. ap (λ rest. y ∷ rest) (taken_out ys rise.1)
      ] refl

-- six bytes are told by their number
pub same_bytes : (a b : Mac) → IsMac a → IsMac b → mac_number a ≡ mac_number b → a.0 ≡ b.0
same_bytes a b is_a is_b e =
    sym (big_bytes-big_number 6 a.0 is_a.many is_a.bytes) ∙ ap (big_bytes 6) e ∙ big_bytes-big_number 6 b.0 is_b.many is_b.bytes

same_address : (a b : Mac) → IsMac a → IsMac b → is_eq (nat_cmp (mac_number a) (mac_number b)) ≡ same_mac b a
same_address a b is_a is_b = equal_numbers (mac_number a) (mac_number b) ∙ elim (cases_eq (mac_number b) (mac_number a)) [
  | inl same ↦ eq-eqb (mac_number b) (mac_number a) same ∙ sym ((bytes_eq-Decides b.0 a.0).1 (same_bytes b a is_b is_a same))
  | inr other ↦ ne_eqb (mac_number b) (mac_number a) other
      ∙ sym (elim (bytes_eq b.0 a.0) as (λ r. bytes_eq b.0 a.0 ≡ r → r ≡ false) [
        | true ↦ λ e. absurd (other (let number : List ℕ → ℕ = λ bytes. mac_number (record { 0 = bytes }) in ap number ((bytes_eq-Decides b.0 a.0).0 e)))
        | false ↦ λ e. refl
      ] refl)
]

pub same_member : (x m : Member) → IsMac x.amac → IsMac m.amac → is_it x m ≡ ((m.group == x.group) && is_member x.port x.amac m)
same_member x m is_x is_m =
    equal_both (nat_cmp x.group m.group) (ordering_then (nat_cmp x.port m.port) (nat_cmp (mac_number x.amac) (mac_number m.amac)))
    ∙ ap (λ b. b && is_eq (ordering_then (nat_cmp x.port m.port) (nat_cmp (mac_number x.amac) (mac_number m.amac)))) (equal_numbers x.group m.group)
    ∙ ap (λ b. (m.group == x.group) && b) (equal_both (nat_cmp x.port m.port) (nat_cmp (mac_number x.amac) (mac_number m.amac))
    ∙ ap (λ b. b && is_eq (nat_cmp (mac_number x.amac) (mac_number m.amac))) (equal_numbers x.port m.port)
    ∙ ap (λ b. (m.port == x.port) && b) (same_address x.amac m.amac is_x is_m))

others_alike : (x : Member) (xs : List Member) → IsMac x.amac → All MemberIsAtPort xs →
    All (λ m. not (is_it x m) ≡ not ((m.group == x.group) && is_member x.port x.amac m)) xs
others_alike x xs is_x all n d h = ap not (same_member x _ is_x (all n d h).amac)

pub removed_leaves : (x : Member) (xs : List Member) → IsMac x.amac → All MemberIsAtPort xs → IsStrictlySortedBy member_cmp xs →
    remove_key (is_it x) xs ≡ leaves x.port x.amac x.group xs
removed_leaves x xs is_x all rise =
    taken_out x xs rise
    ∙ filter_alike (λ m. not (is_it x m)) (λ m. not ((m.group == x.group) && is_member x.port x.amac m)) xs (others_alike x xs is_x all)
