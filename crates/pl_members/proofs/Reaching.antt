-- The members of a group stand together in the order, and their ports are the ports of the group.
use Rattle.std.proofs.Common.{◌≡◌, ℕ, zero, suc, ◌+◌, ◌<◌, ◌==◌, ◌&&◌, ◌||◌, Bool, true, false, cond, List, [], ◌∷◌, Option, Some, None, refl, sym, ap, ◌∙◌, inl, inr, arith}
use Rattle.std.specs.BTreeMap.Range.{range_contains}
use Rattle.std.specs.BTreeSet.{insert_key}
use Rattle.std.specs.declared.cmp.Ordering.{Ordering}
use Rattle.std.specs.declared.cmp.Ordering.TheVariants.{Less, Equal, Greater}
use Rattle.std.specs.declared.ops.Bound.TheVariants.{Included, Excluded}
use Rattle.std.specs.List.{All, filter, list_any, range_with_len}
use Rattle.std.specs.Map.Iter.{TakesFirst}
use Rattle.std.specs.Option.{is_some}
use Rattle.std.specs.Ordering.{is_le, match_ordering, nat_cmp, ordering_then}
use Rattle.std.proofs.lemmas.Bool.{cases_eq, cases_lt, eq-eqb, ne_eqb}
use Rattle.std.proofs.lemmas.List.Elements.{All-cons, All-nil, All-weaker}
use Rattle.pl_lemmas.proofs.Exports.{or_behind, or_swap, or_twice}
use Rattle.pl_node.specs.declared.switch_records.Member.{Member}
use Rattle.pl_layouts.specs.Frames.{mac_number}
use Rattle.pl_lists.specs.declared.port_set.PortSet.{PortSet}
use Rattle.pl_lists.specs.Ports.{has_port, ports_of}
use Rattle.pl_lists.proofs.Exports.{has_port_is}
use Rattle.pl_switch_rule.specs.Intake.{has_member_of, member_cmp}
use Rattle.pl_members.specs.Reached.{MemberIsAtPort, start_of, has_member_at, end_of, ports_with_member}
use Rattle.pl_members.proofs.Comparing.{from_equal, is_equal, is_greater, is_less}
use Rattle.pl_members.proofs.Removing.{filter_alike}

abbrev pub in_range : ℕ → Member → Bool
in_range group = range_contains member_cmp (Included (start_of group)) (Excluded (end_of group))

-- by port and address, which stand behind the group
abbrev rest_cmp : Member → Member → Ordering
rest_cmp a b = ordering_then (nat_cmp a.port b.port) (nat_cmp (mac_number a.amac) (mac_number b.amac))

zero_first : (n : ℕ) → is_le (nat_cmp 0 n) ≡ true
zero_first zero = refl
zero_first (suc n) = ap is_le (is_less 0 (suc n) (omega arith))

le_then : (first next : Ordering) → is_le first ≡ true → is_le next ≡ true → is_le (ordering_then first next) ≡ true
le_then Less next a b = refl
le_then Equal next a b = b
le_then Greater next a b = a

-- what stands between the bounds of a group is of this group
pub in_group : (group : ℕ) (m : Member) → m.port < 24 → in_range group m ≡ (m.group == group)
in_group group m h = elim (cases_lt group m.group) [
  | inl lt ↦
      let high : nat_cmp group m.group ≡ Less = is_less group m.group lt in
      let apart : (m.group == group) ≡ false = ne_eqb m.group group (λ e. absurd (omega arith)) in
      rw (high, apart) refl
  | inr ge ↦ elim (cases_eq m.group group) [
    | inl same ↦
        let tie : nat_cmp group m.group ≡ Equal = is_equal group m.group (sym same) in
        let there : (m.group == group) ≡ true = eq-eqb m.group group same in
        let end : nat_cmp 255 m.port ≡ Greater = is_greater 255 m.port (omega arith) in
        let start : is_le (rest_cmp (start_of group) m) ≡ true = le_then (nat_cmp 0 m.port) (nat_cmp 0 (mac_number m.amac)) (zero_first m.port) (zero_first (mac_number m.amac)) in
        rw (tie, there, end, start) refl
    | inr other ↦
        let low : nat_cmp group m.group ≡ Greater = is_greater group m.group (omega arith) in
        let apart : (m.group == group) ≡ false = ne_eqb m.group group other in
        rw (low, apart) refl
  ]
]

any_kept : (p test : Member → Bool) (xs : List Member) → list_any test (filter p xs) ≡ list_any (λ m. p m && test m) xs
any_kept p test [] = refl
any_kept p test (x ∷ xs) = elim (p x) as (λ b. list_any test (cond b (x ∷ filter p xs) (filter p xs)) ≡ ((b && test x) || list_any (λ m. p m && test m) xs)) [
  | true ↦ ap (λ b. test x || b) (any_kept p test xs)
  | false ↦ any_kept p test xs
]

pub reached_in_range : (group port : ℕ) (xs : List Member) → All MemberIsAtPort xs →
    list_any (λ m. m.port == port) (filter (in_range group) xs) ≡ has_member_at xs group port
reached_in_range group port xs all =
    ap (list_any (λ m. m.port == port)) (filter_alike (in_range group) (λ m. m.group == group) xs (All-weaker MemberIsAtPort (λ m. in_range group m ≡ (m.group == group)) (λ m a. in_group group m a.port) xs all))
    ∙ any_kept (λ m. m.group == group) (λ m. m.port == port) xs

-- a port that is inserted is there from then on, beside those that were there
pub any_inserted : (port q : ℕ) (ports : List ℕ) → list_any (λ p. p == q) (insert_key nat_cmp ports port) ≡ ((port == q) || list_any (λ p. p == q) ports)
any_inserted port q [] = refl
any_inserted port q (p ∷ ports) = elim (nat_cmp port p) as (λ r. nat_cmp port p ≡ r → list_any (λ p. p == q) (match_ordering r (port ∷ p ∷ ports) (p ∷ ports) (p ∷ insert_key nat_cmp ports port)) ≡ ((port == q) || ((p == q) || list_any (λ p. p == q) ports))) [
  | Less ↦ λ e. refl
  | Equal ↦ λ e. or_twice (p == q) (list_any (λ p. p == q) ports) ∙ ap (λ k. (k == q) || ((p == q) || list_any (λ p. p == q) ports)) (sym (from_equal port p e))
  | Greater ↦ λ e. ap (λ b. (p == q) || b) (any_inserted port q ports) ∙ or_swap (p == q) (port == q) (list_any (λ p. p == q) ports)
] refl

-- the loop over the members: the ports so far and those of the rest
pub reached_more : (q : ℕ) (ports : List ℕ) (m : Member) (rest : List Member) →
    (list_any (λ p. p == q) (insert_key nat_cmp ports m.port) || list_any (λ m. m.port == q) rest)
    ≡ (list_any (λ p. p == q) ports || list_any (λ m. m.port == q) (m ∷ rest))
reached_more q ports m rest =
    ap (λ b. b || list_any (λ m. m.port == q) rest) (any_inserted m.port q ports)
    ∙ or_behind (m.port == q) (list_any (λ p. p == q) ports) (list_any (λ m. m.port == q) rest)

within : (start count : ℕ) (P : ℕ → Type 0) → ((n : ℕ) → n < start + count → P n) → All P (range_with_len start count)
within start zero P h = All-nil P
within start (suc count) P h =
    All-cons P start (range_with_len (start + 1) count) (h start (omega arith)) (within (start + 1) count P (λ n lt. h n (omega arith)))

-- a set of ports that tells whether a group has a member at each port is the set of the group's ports
pub ports_are : (set : PortSet) (xs : List Member) (group : ℕ) → ((port : ℕ) → list_any (λ p. p == port) (ports_of set) ≡ has_member_at xs group port) →
    ports_of set ≡ ports_with_member xs group
unfolding ports_of ports_with_member
ports_are set xs group reached =
    filter_alike (has_port set) (has_member_at xs group) (range_with_len 0 32)
    (within 0 32 (λ port. has_port set port ≡ has_member_at xs group port) (λ port h. sym (has_port_is set port h) ∙ reached port))

is_some_member : List Member → Bool
is_some_member [] = false
is_some_member (m ∷ ms) = true

some_kept : (p : Member → Bool) (xs : List Member) → is_some_member (filter p xs) ≡ list_any p xs
unfolding is_some_member
some_kept p [] = refl
some_kept p (x ∷ xs) = elim (p x) as (λ b. is_some_member (cond b (x ∷ filter p xs) (filter p xs)) ≡ (b || list_any p xs)) [
  | true ↦ refl
  | false ↦ some_kept p xs
]

took : {A : Type 0} (shows : A → Member) (items rest : List Member) (first : Option A) → TakesFirst shows items first rest → is_some first ≡ is_some_member items
unfolding is_some_member
took shows items rest None h = ap is_some_member (sym h.0)
took shows items rest (Some m) h = ap is_some_member (sym h)

-- the first member between the bounds of a group is there where the group has members
pub first_in_range : {A : Type 0} (shows : A → Member) (group : ℕ) (items rest xs : List Member) (first : Option A) → TakesFirst shows items first rest →
    items ≡ filter (in_range group) xs → All MemberIsAtPort xs → is_some first ≡ has_member_of xs group
first_in_range shows group items rest xs first takes is all =
    took shows items rest first takes
    ∙ ap is_some_member (is ∙ filter_alike (in_range group) (λ m. m.group == group) xs (All-weaker MemberIsAtPort (λ m. in_range group m ≡ (m.group == group)) (λ m a. in_group group m a.port) xs all))
    ∙ some_kept (λ m. m.group == group) xs
