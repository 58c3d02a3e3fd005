-- An entry that is taken out by its place in the order is left out, and no other one; so all entries of an address are, port by port.
use Rattle.std.proofs.Common.{◌≡◌, ℕ, ◌+◌, ◌<◌, ◌==◌, ◌&&◌, ◌||◌, nat_lt, not, Bool, true, false, cond, get_or, List, [], ◌∷◌, refl, sym, ap, ◌∙◌, inl, inr, arith}
use Rattle.std.specs.List.{All, AllByRecursion, filter, list_any}
use Rattle.std.specs.List.Sorted.{IsStrictlySortedBy}
use Rattle.std.specs.Ordering.{is_eq, match_ordering, nat_cmp, ordering_then}
use Rattle.std.specs.BTreeSet.{insert_key}
use Rattle.std.specs.declared.cmp.Ordering.{Ordering}
use Rattle.std.specs.declared.cmp.Ordering.TheVariants.{Less, Equal, Greater}
use Rattle.std.specs.Set.{remove_key}
use Rattle.std.specs.Str.{bytes_eq}
use Rattle.std.proofs.lemmas.Bool.{cases_eq, eq-eqb, ne_eqb, true≢false}
use Rattle.std.proofs.lemmas.Bool.Decides.{nat_tests}
use Rattle.std.proofs.lemmas.List.Elements.{All-filter, All-head, All-tail}
use Rattle.pl_lemmas.proofs.Exports.{or_true}
use Rattle.std.proofs.lemmas.Slice.Eq.{bytes_eq-Decides}
use Rattle.byteorder.specs.Endian.{big_bytes}
use Rattle.pl_frame.specs.declared.address.Mac.{Mac}
use Rattle.pl_frame.proofs.Exports.{big_bytes-big_number}
use Rattle.pl_node.specs.declared.switch_records.Member.{Member}
use Rattle.pl_layouts.specs.Equality.{same_mac}
use Rattle.pl_layouts.specs.Frames.{mac_number}
use Rattle.pl_switch_rule.specs.Intake.{member_cmp}
use Rattle.pl_members.specs.Ranking.{member_cmp_total}
use Rattle.pl_members.specs.Reached.{MemberIsAtPort, IsMac}
use Rattle.pl_members.proofs.Exports.{equal_numbers}
use Rattle.pl_bridge_rule.specs.BridgeRule.{is_entry_of, learns, stands_at, table_entry}

-- two tests that agree at each element keep the same ones, and find the same
filter_alike : {X : Type 0} (p q : X → Bool) (xs : List X) → All (λ x. p x ≡ q x) xs → filter p xs ≡ filter q xs
filter_alike p q [] same = refl
filter_alike p q (x ∷ xs) same =
    ap (λ b. cond b (x ∷ filter p xs) (filter p xs)) (All-head (λ y. p y ≡ q y) x xs same)
    ∙ ap (λ rest. cond (q x) (x ∷ rest) rest) (filter_alike p q xs (All-tail (λ y. p y ≡ q y) x xs same))

any_alike : {X : Type 0} (p q : X → Bool) (xs : List X) → All (λ x. p x ≡ q x) xs → list_any p xs ≡ list_any q xs
any_alike p q [] same = refl
any_alike p q (x ∷ xs) same =
    ap (λ b. b || list_any p xs) (All-head (λ y. p y ≡ q y) x xs same) ∙ ap (λ rest. q x || rest) (any_alike p q xs (All-tail (λ y. p y ≡ q y) x xs same))

kept_all : {X : Type 0} (test : X → Bool) (xs : List X) → AllByRecursion (λ x. test x ≡ false) xs → xs ≡ filter (λ x. not (test x)) xs
kept_all test [] none = refl
kept_all test (x ∷ xs) none =
    ap (λ rest. x ∷ rest) (kept_all test xs none.1) ∙ ap (λ b. cond (not b) (x ∷ filter (λ y. not (test y)) xs) (filter (λ y. not (test y)) xs)) (sym none.0)

filter_twice : {X : Type 0} (p q : X → Bool) (xs : List X) → filter p (filter q xs) ≡ filter (λ x. q x && p x) xs
filter_twice p q [] = refl
filter_twice p q (x ∷ xs) = elim (q x) as (λ b. filter p (cond b (x ∷ filter q xs) (filter q xs)) ≡ cond (b && p x) (x ∷ filter (λ y. q y && p y) xs) (filter (λ y. q y && p y) xs)) [
  | true ↦ ap (λ rest. cond (p x) (x ∷ rest) rest) (filter_twice p q xs)
  | false ↦ filter_twice p q xs
]

equal_is : (r : Ordering) → is_eq r ≡ true → r ≡ Equal
equal_is Less e = absurd (true≢false (sym e))
equal_is Equal e = refl
equal_is Greater e = absurd (true≢false (sym e))

equal_both : (first next : Ordering) → is_eq (ordering_then first next) ≡ (is_eq first && is_eq next)
equal_both Less next = refl
equal_both Equal next = refl
equal_both Greater next = refl

abbrev is_it : Member → Member → Bool
is_it x m = is_eq (member_cmp x m)

module _ (x : Member) where
  behind : (y : Member) (ys : List Member) → is_it x y ≡ true → AllByRecursion (λ z. member_cmp y z ≡ Less) ys → AllByRecursion (λ z. is_it x z ≡ false) ys
  behind y [] e rise = tt
  behind y (z ∷ zs) e rise = (ap is_eq (member_cmp_total.congr x y z (equal_is (member_cmp x y) e) ∙ rise.0), behind y zs e rise.1)

  taken_out : (xs : List Member) → IsStrictlySortedBy member_cmp xs → remove_key (is_it x) xs ≡ filter (λ m. not (is_it x m)) xs
  unfolding IsStrictlySortedBy
  taken_out [] rise = refl
  taken_out (y ∷ ys) rise =
      elim (is_it x y) as (λ b. is_it x y ≡ b → cond b ys (y ∷ remove_key (is_it x) ys) ≡ cond (not b) (y ∷ filter (λ m. not (is_it x m)) ys) (filter (λ m. not (is_it x m)) ys)) [
        | true ↦ λ e. kept_all (is_it x) ys (behind y ys e rise.0)
        | false ↦ λ e. ap (λ rest. y ∷ rest) (taken_out ys rise.1)
      ] refl

-- six bytes are told by their number
same_bytes : (a b : Mac) → IsMac a → IsMac b → mac_number a ≡ mac_number b → a.0 ≡ b.0
same_bytes a b is_a is_b e =
    sym (big_bytes-big_number 6 a.0 is_a.many is_a.bytes) ∙ ap (big_bytes 6) e ∙ big_bytes-big_number 6 b.0 is_b.many is_b.bytes

same_address : (a b : Mac) → IsMac a → IsMac b → is_eq (nat_cmp (mac_number a) (mac_number b)) ≡ same_mac b a
same_address a b is_a is_b = equal_numbers (mac_number a) (mac_number b) ∙ elim (cases_eq (mac_number b) (mac_number a)) [
  | inl same ↦ eq-eqb (mac_number b) (mac_number a) same ∙ sym ((bytes_eq-Decides b.0 a.0).1 (same_bytes b a is_b is_a same))
  | inr other ↦ ne_eqb (mac_number b) (mac_number a) other
      ∙ sym (elim (bytes_eq b.0 a.0) as (λ r. bytes_eq b.0 a.0 ≡ r → r ≡ false) [
        | true ↦ λ e. absurd (other (let number : List ℕ → ℕ = λ bytes. mac_number (record { 0 = bytes }) in ap number ((bytes_eq-Decides b.0 a.0).0 e)))
        | false ↦ λ e. refl
      ] refl)
]

moved : (a b c : Bool) → (a && (b && c)) ≡ ((a && c) && b)
moved true true true = refl
moved true true false = refl
moved true false true = refl
moved true false false = refl
moved false b c = refl

-- what ties with the entry of an address at a port is that entry
same_entry : (port : ℕ) (mac : Mac) (m : Member) → IsMac mac → IsMac m.amac → is_it (table_entry port mac) m ≡ (is_entry_of mac m && (m.port == port))
same_entry port mac m is_mac is_m =
    equal_both (nat_cmp 0 m.group) (ordering_then (nat_cmp port m.port) (nat_cmp (mac_number mac) (mac_number m.amac)))
    ∙ ap (λ b. b && is_eq (ordering_then (nat_cmp port m.port) (nat_cmp (mac_number mac) (mac_number m.amac)))) (equal_numbers 0 m.group)
    ∙ ap (λ b. (m.group == 0) && b) (equal_both (nat_cmp port m.port) (nat_cmp (mac_number mac) (mac_number m.amac))
    ∙ ap (λ b. b && is_eq (nat_cmp (mac_number mac) (mac_number m.amac))) (equal_numbers port m.port)
    ∙ ap (λ b. (m.port == port) && b) (same_address mac m.amac is_mac is_m))
    ∙ moved (m.group == 0) (m.port == port) (same_mac m.amac mac)

entries_alike : (port : ℕ) (mac : Mac) (xs : List Member) → IsMac mac → All MemberIsAtPort xs → All (λ m. is_it (table_entry port mac) m ≡ (is_entry_of mac m && (m.port == port))) xs
entries_alike port mac xs is_mac all n d h = same_entry port mac _ is_mac (all n d h).amac

pub found_at : (port : ℕ) (mac : Mac) (xs : List Member) → IsMac mac → All MemberIsAtPort xs → list_any (λ m. is_eq (member_cmp (table_entry port mac) m)) xs ≡ stands_at xs mac port
found_at port mac xs is_mac all = any_alike (is_it (table_entry port mac)) (λ m. is_entry_of mac m && (m.port == port)) xs (entries_alike port mac xs is_mac all)

-- without the entries of an address at the first so many ports
abbrev pub without : ℕ → Mac → List Member → List Member
without many mac xs = filter (λ m. not (is_entry_of mac m && nat_lt m.port many)) xs

pub without_none : (mac : Mac) (xs : List Member) → xs ≡ without 0 mac xs
without_none mac [] = refl
without_none mac (x ∷ xs) =
    ap (λ rest. x ∷ rest) (without_none mac xs)
    ∙ ap (λ b. cond (not b) (x ∷ without 0 mac xs) (without 0 mac xs)) (sym (never (is_entry_of mac x) (nat_lt x.port 0) (no_less x.port)))
  where
    never : (a b : Bool) → b ≡ false → (a && b) ≡ false
    never true b none = none
    never false b none = refl

    no_less : (m : ℕ) → nat_lt m 0 ≡ false
    no_less m = grind (arith, nat_tests)

one_port_more : (e lt at next : Bool) → next ≡ (lt || at) → (not (e && lt) && not (e && at)) ≡ not (e && next)
one_port_more true true at next is = rw is refl
one_port_more true false at next is = rw is refl
one_port_more false lt at next is = refl

lt_or_at : (m many : ℕ) → nat_lt m (many + 1) ≡ (nat_lt m many || (m == many))
lt_or_at m many = grind (arith, nat_tests)

pub without_more : (many : ℕ) (mac : Mac) (xs : List Member) → IsMac mac → All MemberIsAtPort (without many mac xs) → IsStrictlySortedBy member_cmp (without many mac xs) →
    remove_key (λ m. is_eq (member_cmp (table_entry many mac) m)) (without many mac xs) ≡ without (many + 1) mac xs
without_more many mac xs is_mac all rise =
    taken_out (table_entry many mac) (without many mac xs) rise
    ∙ filter_alike (λ m. not (is_it (table_entry many mac) m)) (λ m. not (is_entry_of mac m && (m.port == many))) (without many mac xs)
    (λ n d h. ap not (entries_alike many mac (without many mac xs) is_mac all n d h))
    ∙ filter_twice (λ m. not (is_entry_of mac m && (m.port == many))) (λ m. not (is_entry_of mac m && nat_lt m.port many)) xs
    ∙ each xs
  where
    each : (ys : List Member) → filter (λ m. not (is_entry_of mac m && nat_lt m.port many) && not (is_entry_of mac m && (m.port == many))) ys ≡ without (many + 1) mac ys
    each [] = refl
    each (y ∷ ys) =
        ap (λ b. cond b (y ∷ filter (λ m. not (is_entry_of mac m && nat_lt m.port many) && not (is_entry_of mac m && (m.port == many))) ys)
        (filter (λ m. not (is_entry_of mac m && nat_lt m.port many) && not (is_entry_of mac m && (m.port == many))) ys))
        (one_port_more (is_entry_of mac y) (nat_lt y.port many) (y.port == many) (nat_lt y.port (many + 1)) (lt_or_at y.port many))
        ∙ ap (λ rest. cond (not (is_entry_of mac y && nat_lt y.port (many + 1))) (y ∷ rest) rest) (each ys)

-- beyond all ports none is left
pub without_all : (mac : Mac) (xs : List Member) → All MemberIsAtPort xs → without 24 mac xs ≡ filter (λ m. not (is_entry_of mac m)) xs
without_all mac xs all =
    filter_alike (λ m. not (is_entry_of mac m && nat_lt m.port 24)) (λ m. not (is_entry_of mac m)) xs (λ n d h. ap not (always (is_entry_of mac (get_or xs n d)) _ (below _ (all n d h).port)))
  where
    always : (a b : Bool) → b ≡ true → (a && b) ≡ a
    always true b is = is
    always false b is = refl

    below : (m : ℕ) → m < 24 → nat_lt m 24 ≡ true
    below m lt = grind (arith, nat_tests)

-- an entry that is put in stands there
put_stands : (port : ℕ) (mac : Mac) (xs : List Member) → IsMac mac → All MemberIsAtPort xs → stands_at (insert_key member_cmp xs (table_entry port mac)) mac port ≡ true
put_stands port mac [] is_mac all = ap (λ b. (b && (port == port)) || false) itself ∙ ap (λ b. b || false) (eq-eqb port port refl)
  where
    itself : same_mac mac mac ≡ true
    itself = (bytes_eq-Decides mac.0 mac.0).1 refl
put_stands port mac (y ∷ ys) is_mac all = by (member_cmp (table_entry port mac) y) refl (put_stands port mac ys is_mac (All-tail MemberIsAtPort y ys all))
  where
    itself : (is_entry_of mac (table_entry port mac) && (port == port)) ≡ true
    itself = ap (λ b. b && (port == port)) ((bytes_eq-Decides mac.0 mac.0).1 refl) ∙ eq-eqb port port refl

    by : (r : Ordering) → member_cmp (table_entry port mac) y ≡ r → stands_at (insert_key member_cmp ys (table_entry port mac)) mac port ≡ true →
        stands_at (match_ordering r (table_entry port mac ∷ y ∷ ys) (y ∷ ys) (y ∷ insert_key member_cmp ys (table_entry port mac))) mac port ≡ true
    by Less tie rest = ap (λ b. b || stands_at (y ∷ ys) mac port) itself
    by Equal tie rest = ap (λ b. b || stands_at ys mac port)
        (sym (same_entry port mac y is_mac (All-head MemberIsAtPort y ys all).amac) ∙ ap is_eq tie)
    by Greater tie rest = ap (λ b. (is_entry_of mac y && (y.port == port)) || b) rest ∙ or_true (is_entry_of mac y && (y.port == port))

pub learnt_stands : (port : ℕ) (mac : Mac) (xs : List Member) → IsMac mac → All MemberIsAtPort xs → stands_at (learns port mac xs) mac port ≡ true
learnt_stands port mac xs is_mac all =
    put_stands port mac (filter (λ m. not (is_entry_of mac m)) xs) is_mac (All-filter (λ m. not (is_entry_of mac m)) MemberIsAtPort xs all)
