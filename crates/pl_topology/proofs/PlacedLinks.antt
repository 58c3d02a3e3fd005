-- The links that a file's tables leave: in link order, their ports there and apart.
use Rattle.std.proofs.Common.{◌≡◌, ◌≢◌, ℕ, ℤ, zero, suc, pos, negsuc, ◌/◌, ◌<◌, Bool, true, false, cond, ◌&&◌, ◌==◌, eqb, List, [], ◌∷◌, ◌++◌, length, get_or, Option, Some, None, option_map, unwrap_or, All, AllPairs, is_some, subst, refl, sym, ap, ◌∙◌, arith, inl, inr, ◌⊎◌}
use Rattle.std.specs.List.{filter, find, flat_map, list_any}
use Rattle.std.specs.Ordering.{int_eq}
use Rattle.std.proofs.lemmas.Bool.{and_parts, false_from_ne_true, cases_Bool, cases_lt, eqb-true, false≢true, ltb-true, or_right, or_cases}
use Rattle.std.proofs.lemmas.Bool.Decides.{Decides-eqb, Decides-int_eq}
use Rattle.std.proofs.lemmas.List.{get_or-map, length-map}
use Rattle.std.proofs.lemmas.List.Folds.{list_any-append}
use Rattle.std.proofs.lemmas.List.FromFn.{get_or-map-range_with_len, length-map-range_with_len}
use Rattle.pl_topology.specs.declared.entries.LinkEntry.{LinkEntry}
use Rattle.pl_topology.specs.declared.entries.PortUse.{PortUse}
use Rattle.pl_wiring.specs.declared.link.Link.{Link}
use Rattle.pl_topology.specs.Checks.{are_adjacent, canonical_uses, is_at, is_port, is_unspoken, kept_uses, link_uses}
use Rattle.pl_topology.specs.Entries.{is_between}
use Rattle.pl_wiring.specs.FatTree.{IsAt, IsFatTree, IsInLinkOrder, canonical_link, canonical_links, link_count, lower_at, upper_at}
use Rattle.pl_topology.specs.FileEntries.{NamesPorts}
use Rattle.pl_wiring.specs.Labels.{IsArity}
use Rattle.pl_topology.specs.Meaning.{at_ports, link_of, links_of, port_number}
use Rattle.pl_topology.proofs.CanonicalPorts.{canonical_apart, canonical_ports, lower-upper}
use Rattle.pl_topology.proofs.FoundLemmas.{is_some_found}
use Rattle.pl_wiring.proofs.Exports.{half_at_least, IsFatTree-in_order, same_link}
use Rattle.pl_topology.proofs.PortsApart.{IsFree}

-- the entry's link joins the same switches
at_ports-ends : (link : Link) (entry : LinkEntry) → ((at_ports link entry).lower ≡ link.lower) × ((at_ports link entry).upper ≡ link.upper)
at_ports-ends link entry =
    elim (entry.a.0 == link.lower.0) as (λ b. ((cond b (record link { lower_port = port_number entry.port_a; upper_port = port_number entry.port_b }) (record link { lower_port = port_number entry.port_b; upper_port = port_number entry.port_a })).lower ≡ link.lower)
    × ((cond b (record link { lower_port = port_number entry.port_a; upper_port = port_number entry.port_b }) (record link { lower_port = port_number entry.port_b; upper_port = port_number entry.port_a })).upper ≡ link.upper)) [ true ↦ (refl, refl) | false ↦ (refl, refl) ]

placed-ends : (link : Link) (found : Option LinkEntry) → let placed = unwrap_or (option_map (at_ports link) found) link in (placed.lower ≡ link.lower) × (placed.upper ≡ link.upper)
placed-ends link None = (refl, refl)
placed-ends link (Some entry) = at_ports-ends link entry

pub links_of-length : (k : ℕ) (given : List LinkEntry) → length (links_of k given) ≡ link_count k
links_of-length k given = rw length-map (length-map-range_with_len (canonical_link k) 0 (link_count k))

canonical_links-at : (k n : ℕ) (d : Link) → n < link_count k → get_or (canonical_links k) n d ≡ canonical_link k n
canonical_links-at k n d within = get_or-map-range_with_len (canonical_link k) 0 (link_count k) n n d within (omega arith)

pub links_of-at : (k : ℕ) (given : List LinkEntry) (n : ℕ) (d : Link) → n < link_count k → get_or (links_of k given) n d ≡ link_of given (canonical_link k n)
links_of-at k given n d within =
    let inside : n < length (canonical_links k) = rw (length-map-range_with_len (canonical_link k) 0 (link_count k)) within in
    get_or-map (link_of given) (canonical_links k) n d d inside ∙ ap (link_of given) (canonical_links-at k n d within)

pub links_of-order : (k : ℕ) (given : List LinkEntry) → IsInLinkOrder k (links_of k given)
links_of-order k given = record {
  many = links_of-length k given;
  lower = λ n d within. ap (λ l. l.lower.0) (links_of-at k given n d within) ∙ ap (λ s. s.0) (placed-ends (canonical_link k n) (find (is_between (canonical_link k n).lower (canonical_link k n).upper) given)).0;
  upper = λ n d within. ap (λ l. l.upper.0) (links_of-at k given n d within) ∙ ap (λ s. s.0) (placed-ends (canonical_link k n) (find (is_between (canonical_link k n).lower (canonical_link k n).upper) given)).1;
}

-- where something is found
abbrev pub FoundAt : {A : Type 0} → (A → Bool) → List A → A → Type 0
FoundAt p xs x = (i : ℕ) × (i < length xs) × ((d : _) → get_or xs i d ≡ x) × (p x ≡ true)

found_later : {A : Type 0} (p : A → Bool) (y : A) (xs : List A) (x : A) → FoundAt p xs x → FoundAt p (y ∷ xs) x
found_later p y xs x found = (suc found.0, omega (arith, found.1), λ d. found.2 d, found.3)

pub found_at : {A : Type 0} (p : A → Bool) (xs : List A) (x : A) → find p xs ≡ Some x → FoundAt p xs x
found_at p [] x found = cc
found_at p (y ∷ xs) x found = elim (cases_Bool (p y)) [
  | inl passes ↦
      let is : Some y ≡ Some x = sym (rw passes refl) ∙ found in
      let same : y ≡ x = cc in
      (0, omega arith, λ d. same, (rw same at passes))
  | inr fails ↦
      let rest : find p xs ≡ Some x = sym (rw fails refl) ∙ found in
      found_later p y xs x (found_at p xs x rest)
]

-- a test that an item of a group passes is passed by the groups
pub any_group : {A B : Type 0} (p : B → Bool) (items : A → List B) (xs : List A) (i : ℕ) (d : A) → i < length xs → list_any p (items (get_or xs i d)) ≡ true → list_any p (flat_map items xs) ≡ true
any_group p items [] i d within passes = absurd (omega arith)
any_group p items (x ∷ xs) zero d within passes = list_any-append p (items x) (flat_map items xs) ∙ rw passes refl
any_group p items (x ∷ xs) (suc i) d within passes =
    list_any-append p (items x) (flat_map items xs) ∙ or_right (list_any p (items x)) _ (any_group p items xs i d (omega arith) passes)

pub any_kept_group : {A B : Type 0} (p : B → Bool) (items : A → List B) (q : A → Bool) (xs : List A) (i : ℕ) (d : A) → i < length xs → q (get_or xs i d) ≡ true → list_any p (items (get_or xs i d)) ≡ true →
    list_any p (flat_map items (filter q xs)) ≡ true
any_kept_group p items q [] i d within kept passes = absurd (omega arith)
any_kept_group p items q (x ∷ xs) zero d within kept passes = rw kept (list_any-append p (items x) (flat_map items (filter q xs)) ∙ rw passes refl)
any_kept_group p items q (x ∷ xs) (suc i) d within kept passes =
    let rest = any_kept_group p items q xs i d (omega arith) kept passes in
    elim (cases_Bool (q x)) [
      | inl here ↦ rw here (list_any-append p (items x) (flat_map items (filter q xs)) ∙ or_right (list_any p (items x)) _ rest)
      | inr other ↦ rw other rest
    ]

int_same : (z : ℤ) → int_eq z z ≡ true
int_same z = (Decides-int_eq z z).1 refl

eqb_same : (n : ℕ) → eqb n n ≡ true
eqb_same n = (Decides-eqb n n).1 refl

-- a link has its ports
pub canonical_at : (link : Link) (s p : ℕ) → IsAt link s p → list_any (is_at s (pos p)) (canonical_uses link) ≡ true
canonical_at link s p (inl lower) = rw (lower.0, lower.1, eqb_same s, int_same (pos p)) refl
canonical_at link s p (inr upper) =
    or_right (is_at s (pos p) (record { switch = link.lower; port = pos link.lower_port; counts = true })) _ (rw (upper.0, upper.1, eqb_same s, int_same (pos p)) refl)

pub use_here : (taken : PortUse) (s p : ℕ) → taken.counts ≡ true → taken.switch.0 ≡ s → taken.port ≡ pos p → is_at s (pos p) taken ≡ true
use_here taken s p counts switch port = rw (counts, switch, port, eqb_same s, int_same (pos p)) refl

first_use : (k : ℕ) (entry : LinkEntry) (s p : ℕ) → are_adjacent k entry.a entry.b ≡ true → entry.a.0 ≡ s → entry.port_a ≡ pos p → list_any (is_at s (pos p)) (link_uses k entry) ≡ true
first_use k entry s p adjacent switch port =
    let here = use_here (record { switch = entry.a; port = entry.port_a; counts = are_adjacent k entry.a entry.b }) s p adjacent switch port in
    rw here refl

second_use : (k : ℕ) (entry : LinkEntry) (s p : ℕ) → are_adjacent k entry.a entry.b ≡ true → entry.b.0 ≡ s → entry.port_b ≡ pos p → list_any (is_at s (pos p)) (link_uses k entry) ≡ true
second_use k entry s p adjacent switch port =
    let here = use_here (record { switch = entry.b; port = entry.port_b; counts = are_adjacent k entry.a entry.b }) s p adjacent switch port in
    or_right (is_at s (pos p) (record { switch = entry.a; port = entry.port_a; counts = are_adjacent k entry.a entry.b })) _ (rw here refl)

pub port_number-is : (k : ℕ) (z : ℤ) → is_port k z ≡ true → z ≡ pos (port_number z)
port_number-is k (pos n) is = refl
port_number-is k (negsuc n) is = cc

pub port_number-below : (k : ℕ) (z : ℤ) → is_port k z ≡ true → port_number z < k
port_number-below k (pos n) is = ltb-true n k is
port_number-below k (negsuc n) is = cc

-- the entry of a link names its ends in one order or the other
abbrev pub Oriented : Link → LinkEntry → Type 0
Oriented link entry = ((entry.a.0 ≡ link.lower.0) × (entry.b.0 ≡ link.upper.0)) ⊎ ((entry.a.0 ≡ link.upper.0) × (entry.b.0 ≡ link.lower.0))

pub oriented : (link : Link) (entry : LinkEntry) → is_between link.lower link.upper entry ≡ true → Oriented link entry
oriented link entry between = elim (or_cases (eqb entry.a.0 link.lower.0 && eqb entry.b.0 link.upper.0) (eqb entry.a.0 link.upper.0 && eqb entry.b.0 link.lower.0) between) [
  | inl straight ↦ let (a, b) = and_parts (eqb entry.a.0 link.lower.0) (eqb entry.b.0 link.upper.0) straight in inl (eqb-true _ _ a, eqb-true _ _ b)
  | inr turned ↦ let (a, b) = and_parts (eqb entry.a.0 link.upper.0) (eqb entry.b.0 link.lower.0) turned in inr (eqb-true _ _ a, eqb-true _ _ b)
]

at_ports-straight : (link : Link) (entry : LinkEntry) → eqb entry.a.0 link.lower.0 ≡ true → at_ports link entry ≡ record link { lower_port = port_number entry.port_a; upper_port = port_number entry.port_b }
at_ports-straight link entry same = rw same refl

at_ports-turned : (link : Link) (entry : LinkEntry) → eqb entry.a.0 link.lower.0 ≡ false → at_ports link entry ≡ record link { lower_port = port_number entry.port_b; upper_port = port_number entry.port_a }
at_ports-turned link entry other = rw other refl

-- one of the entry's ports is this one
abbrev pub HasUse : LinkEntry → ℕ → ℕ → Type 0
HasUse entry s p = ((entry.a.0 ≡ s) × (entry.port_a ≡ pos p)) ⊎ ((entry.b.0 ≡ s) × (entry.port_b ≡ pos p))

pub is_at_moved : (l m : Link) (s p : ℕ) → l ≡ m → IsAt l s p → IsAt m s p
is_at_moved l m s p same at = let P : Link → Type 0 = λ x. IsAt x s p in subst P same at

placed_use : (k : ℕ) (link : Link) (entry : LinkEntry) → Oriented link entry → link.lower.0 ≢ link.upper.0 → NamesPorts k entry → (s p : ℕ) → IsAt (at_ports link entry) s p → HasUse entry s p
placed_use k link entry (inl straight) apart fit s p at =
    let here : eqb entry.a.0 link.lower.0 ≡ true = rw straight.0 (eqb_same link.lower.0) in
    let number_a = port_number-is k entry.port_a fit.0 in
    let number_b = port_number-is k entry.port_b fit.1 in
    elim (is_at_moved _ _ s p (at_ports-straight link entry here) at) [
      | inl lower ↦ inl (straight.0 ∙ lower.0, number_a ∙ ap (λ n. pos n) lower.1)
      | inr upper ↦ inr (straight.1 ∙ upper.0, number_b ∙ ap (λ n. pos n) upper.1)
    ]
placed_use k link entry (inr turned) apart fit s p at =
    let other : eqb entry.a.0 link.lower.0 ≡ false = false_from_ne_true _ (λ same. apart (sym (eqb-true _ _ same) ∙ turned.0)) in
    let number_a = port_number-is k entry.port_a fit.0 in
    let number_b = port_number-is k entry.port_b fit.1 in
    elim (is_at_moved _ _ s p (at_ports-turned link entry other) at) [
      | inl lower ↦ inr (turned.1 ∙ lower.0, number_b ∙ ap (λ n. pos n) lower.1)
      | inr upper ↦ inl (turned.0 ∙ upper.0, number_a ∙ ap (λ n. pos n) upper.1)
    ]

use_any : (k : ℕ) (entry : LinkEntry) → are_adjacent k entry.a entry.b ≡ true → (s p : ℕ) → HasUse entry s p → list_any (is_at s (pos p)) (link_uses k entry) ≡ true
use_any k entry adjacent s p (inl a) = first_use k entry s p adjacent a.0 a.1
use_any k entry adjacent s p (inr b) = second_use k entry s p adjacent b.0 b.1

use_free : (k : ℕ) (before : List PortUse) (entry : LinkEntry) → are_adjacent k entry.a entry.b ≡ true → All (IsFree k before) (link_uses k entry) → (s p : ℕ) → HasUse entry s p →
    list_any (is_at s (pos p)) before ≡ false
use_free k before entry adjacent free s p (inl a) =
    let here = (free 0 (record { switch = entry.a; port = entry.port_a; counts = true }) (omega arith)).free adjacent in
    (rw (a.0, a.1) at here)
use_free k before entry adjacent free s p (inr b) =
    let here = (free 1 (record { switch = entry.a; port = entry.port_a; counts = true }) (omega arith)).free adjacent in
    (rw (b.0, b.1) at here)

-- what the checks of the `link` tables tell
pub record Agree (k : ℕ) (given : List LinkEntry) : Type 0 where
  pub fit : All (NamesPorts k) given
  pub adjacent : All (λ e. are_adjacent k e.a e.b ≡ true) given
  pub free : All (λ e. All (IsFree k (kept_uses k given)) (link_uses k e)) given
  pub apart : AllPairs (λ e f. All (IsFree k (link_uses k e)) (link_uses k f)) given

abbrev pub entry_of : List LinkEntry → Link → Option LinkEntry
entry_of given link = find (is_between link.lower link.upper) given

link_of-kept : (given : List LinkEntry) (link : Link) → entry_of given link ≡ None → link_of given link ≡ link
link_of-kept given link none = rw none refl

link_of-given : (given : List LinkEntry) (link : Link) (entry : LinkEntry) → entry_of given link ≡ Some entry → link_of given link ≡ at_ports link entry
link_of-given given link entry found = rw found refl

kept_any : (k n : ℕ) (given : List LinkEntry) → n < link_count k → entry_of given (canonical_link k n) ≡ None → (s p : ℕ) → IsAt (canonical_link k n) s p → list_any (is_at s (pos p)) (kept_uses k given) ≡ true
kept_any k n given within none s p at =
    let c = canonical_link k n in
    let is = canonical_links-at k n c within in
    let inside : n < length (canonical_links k) = rw (length-map-range_with_len (canonical_link k) 0 (link_count k)) within in
    let unspoken : list_any (is_between c.lower c.upper) given ≡ false = sym (is_some_found (is_between c.lower c.upper) given) ∙ ap is_some none in
    let kept : is_unspoken given (get_or (canonical_links k) n c) ≡ true = rw (is, unspoken) refl in
    let here : list_any (is_at s (pos p)) (canonical_uses (get_or (canonical_links k) n c)) ≡ true = rw is (canonical_at c s p at) in
    any_kept_group (is_at s (pos p)) canonical_uses (is_unspoken given) (canonical_links k) n c inside kept here

-- an entry that speaks of a link: its index, and what is known of it
pub record Speaks (k : ℕ) (given : List LinkEntry) (link : Link) (entry : LinkEntry) : Type 0 where
  pub index : ℕ
  pub within : index < length given
  pub there : (d : LinkEntry) → get_or given index d ≡ entry
  pub ends : Oriented link entry
  pub fit : NamesPorts k entry
  pub adjacent : are_adjacent k entry.a entry.b ≡ true
  pub free : All (IsFree k (kept_uses k given)) (link_uses k entry)

speaks : (k : ℕ) (given : List LinkEntry) (link : Link) (entry : LinkEntry) → Agree k given → entry_of given link ≡ Some entry → Speaks k given link entry
speaks k given link entry agree found =
    let at = found_at (is_between link.lower link.upper) given entry found in
    let is = at.2 entry in
    record {
      index = at.0;
      within = at.1;
      there = at.2;
      ends = oriented link entry at.3;
      fit = (rw is at (agree.fit at.0 entry at.1));
      adjacent = (rw is at (agree.adjacent at.0 entry at.1));
      free = let P : LinkEntry → Type 0 = λ e. All (IsFree k (kept_uses k given)) (link_uses k e) in subst P is (agree.free at.0 entry at.1);
    }

use_of : (k n : ℕ) (given : List LinkEntry) (entry : LinkEntry) → 0 < k / 2 → n < link_count k → Speaks k given (canonical_link k n) entry → (s p : ℕ) → IsAt (at_ports (canonical_link k n) entry) s p → HasUse entry s p
use_of k n given entry half within spoken s p at =
    let low = lower-upper k n half within in
    let differ : (canonical_link k n).lower.0 ≢ (canonical_link k n).upper.0 = omega arith in
    placed_use k (canonical_link k n) entry spoken.ends differ spoken.fit s p at

-- an entry speaks of one link
one_link : (k m n : ℕ) (entry : LinkEntry) → 0 < k / 2 → m < link_count k → n < link_count k → Oriented (canonical_link k m) entry → Oriented (canonical_link k n) entry → m ≡ n
one_link k m n entry half lm ln (inl a) (inl b) = same_link k m n half lm ln (sym a.0 ∙ b.0) (sym a.1 ∙ b.1)
one_link k m n entry half lm ln (inr a) (inr b) = same_link k m n half lm ln (sym a.1 ∙ b.1) (sym a.0 ∙ b.0)
one_link k m n entry half lm ln (inl a) (inr b) =
    let low_m = lower-upper k m half lm in
    let low_n = lower-upper k n half ln in
    let first : lower_at k m ≡ upper_at k n = sym a.0 ∙ b.0 in
    let second : upper_at k m ≡ lower_at k n = sym a.1 ∙ b.1 in
    absurd (omega arith)
one_link k m n entry half lm ln (inr a) (inl b) =
    let low_m = lower-upper k m half lm in
    let low_n = lower-upper k n half ln in
    let first : upper_at k m ≡ lower_at k n = sym a.0 ∙ b.0 in
    let second : lower_at k m ≡ upper_at k n = sym a.1 ∙ b.1 in
    absurd (omega arith)

-- the ports of an entry are none of those of an entry before it
entries_apart : (k : ℕ) (given : List LinkEntry) (link other : Link) (e f : LinkEntry) → Agree k given → (first : Speaks k given link e) (second : Speaks k given other f) → first.index < second.index →
    (s p : ℕ) → HasUse e s p → HasUse f s p → ⊥
entries_apart k given link other e f agree first second less s p at_e at_f =
    let pair = agree.apart first.index second.index e less second.within in
    let P : LinkEntry → Type 0 = λ x. All (IsFree k (link_uses k x)) (link_uses k (get_or given second.index e)) in
    let Q : LinkEntry → Type 0 = λ y. All (IsFree k (link_uses k e)) (link_uses k y) in
    let free = subst Q (second.there e) (subst P (first.there e) pair) in
    false≢true (sym (use_free k (link_uses k e) f second.adjacent free s p at_f) ∙ use_any k e first.adjacent s p at_e)

both_given : (k m n : ℕ) (given : List LinkEntry) (e f : LinkEntry) → 0 < k / 2 → Agree k given → m < link_count k → n < link_count k → m ≢ n →
    Speaks k given (canonical_link k m) e → Speaks k given (canonical_link k n) f → (s p : ℕ) → HasUse e s p → HasUse f s p → ⊥
both_given k m n given e f half agree lm ln differ first second s p at_e at_f = elim (cases_lt first.index second.index) [
  | inl less ↦ entries_apart k given (canonical_link k m) (canonical_link k n) e f agree first second less s p at_e at_f
  | inr no_less ↦ elim (cases_lt second.index first.index) [
    | inl more ↦ entries_apart k given (canonical_link k n) (canonical_link k m) f e agree second first more s p at_f at_e
    | inr no_more ↦
        let one : first.index ≡ second.index = omega arith in
        let same : e ≡ f = sym (first.there e) ∙ ap (λ i. get_or given i e) one ∙ second.there e in
        let P : LinkEntry → Type 0 = λ x. Oriented (canonical_link k n) x in
        differ (one_link k m n e half lm ln first.ends (subst P (sym same) second.ends))
  ]
]

-- where a link's ports come from
data_of : (given : List LinkEntry) (link : Link) → (entry_of given link ≡ None) ⊎ ((e : LinkEntry) × (entry_of given link ≡ Some e))
data_of given link = go (entry_of given link)
  where
    go : (o : Option LinkEntry) → (o ≡ None) ⊎ ((e : LinkEntry) × (o ≡ Some e))
    go None = inl refl
    go (Some e) = inr (e, refl)

pub placed_apart : (k m n : ℕ) (given : List LinkEntry) → IsArity k → Agree k given → m < link_count k → n < link_count k → m ≢ n →
    (s p : ℕ) → IsAt (link_of given (canonical_link k m)) s p → IsAt (link_of given (canonical_link k n)) s p → ⊥
placed_apart k m n given arity agree lm ln differ s p at_m at_n =
    let two = half_at_least k arity in
    let positive : 0 < k / 2 = omega arith in
    elim (data_of given (canonical_link k m)) [
      | inl kept_m ↦
          let here_m = is_at_moved _ _ s p (link_of-kept given (canonical_link k m) kept_m) at_m in
          elim (data_of given (canonical_link k n)) [
            | inl kept_n ↦ canonical_apart k m n arity lm ln differ s p here_m (is_at_moved _ _ s p (link_of-kept given (canonical_link k n) kept_n) at_n)
            | inr given_n ↦
                let spoken = speaks k given (canonical_link k n) given_n.0 agree given_n.1 in
                let has = use_of k n given given_n.0 positive ln spoken s p (is_at_moved _ _ s p (link_of-given given (canonical_link k n) given_n.0 given_n.1) at_n) in
                false≢true (sym (use_free k (kept_uses k given) given_n.0 spoken.adjacent spoken.free s p has) ∙ kept_any k m given lm kept_m s p here_m)
          ]
      | inr given_m ↦
          let spoken_m = speaks k given (canonical_link k m) given_m.0 agree given_m.1 in
          let has_m = use_of k m given given_m.0 positive lm spoken_m s p (is_at_moved _ _ s p (link_of-given given (canonical_link k m) given_m.0 given_m.1) at_m) in
          elim (data_of given (canonical_link k n)) [
            | inl kept_n ↦
                let here_n = is_at_moved _ _ s p (link_of-kept given (canonical_link k n) kept_n) at_n in
                false≢true (sym (use_free k (kept_uses k given) given_m.0 spoken_m.adjacent spoken_m.free s p has_m) ∙ kept_any k n given ln kept_n s p here_n)
            | inr given_n ↦
                let spoken = speaks k given (canonical_link k n) given_n.0 agree given_n.1 in
                let has = use_of k n given given_n.0 positive ln spoken s p (is_at_moved _ _ s p (link_of-given given (canonical_link k n) given_n.0 given_n.1) at_n) in
                both_given k m n given given_m.0 given_n.0 positive agree lm ln differ spoken_m spoken s p has_m has
          ]
    ]

-- a port of a link is among the ports that were seen
pub placed_seen : (k n : ℕ) (given : List LinkEntry) → IsArity k → Agree k given → n < link_count k → (s p : ℕ) → IsAt (link_of given (canonical_link k n)) s p →
    list_any (is_at s (pos p)) (kept_uses k given ++ flat_map (link_uses k) given) ≡ true
placed_seen k n given arity agree within s p at =
    let two = half_at_least k arity in
    let positive : 0 < k / 2 = omega arith in
    let whole = list_any-append (is_at s (pos p)) (kept_uses k given) (flat_map (link_uses k) given) in
    elim (data_of given (canonical_link k n)) [
      | inl kept ↦
          let here = is_at_moved _ _ s p (link_of-kept given (canonical_link k n) kept) at in
          whole ∙ rw (kept_any k n given within kept s p here) refl
      | inr found ↦
          let spoken = speaks k given (canonical_link k n) found.0 agree found.1 in
          let has = use_of k n given found.0 positive within spoken s p (is_at_moved _ _ s p (link_of-given given (canonical_link k n) found.0 found.1) at) in
          let is = spoken.there found.0 in
          let used : list_any (is_at s (pos p)) (link_uses k (get_or given spoken.index found.0)) ≡ true = rw is (use_any k found.0 spoken.adjacent s p has) in
          whole ∙ or_right (list_any (is_at s (pos p)) (kept_uses k given)) _ (any_group (is_at s (pos p)) (link_uses k) given spoken.index found.0 spoken.within used)
    ]

at_ports-below : (k : ℕ) (link : Link) (entry : LinkEntry) → NamesPorts k entry → ((at_ports link entry).lower_port < k) × ((at_ports link entry).upper_port < k)
at_ports-below k link entry fit =
    let a = port_number-below k entry.port_a fit.0 in
    let b = port_number-below k entry.port_b fit.1 in
    let P : Link → Type 0 = λ l. (l.lower_port < k) × (l.upper_port < k) in
    elim (cases_Bool (eqb entry.a.0 link.lower.0)) [
      | inl same ↦ subst P (sym (at_ports-straight link entry same)) (a, b)
      | inr other ↦ subst P (sym (at_ports-turned link entry other)) (b, a)
    ]

placed_ports : (k n : ℕ) (given : List LinkEntry) → IsArity k → Agree k given → n < link_count k → ((link_of given (canonical_link k n)).lower_port < k) × ((link_of given (canonical_link k n)).upper_port < k)
placed_ports k n given arity agree within =
    let P : Link → Type 0 = λ l. (l.lower_port < k) × (l.upper_port < k) in
    elim (data_of given (canonical_link k n)) [
      | inl kept ↦ subst P (sym (link_of-kept given (canonical_link k n) kept)) (canonical_ports k n arity within)
      | inr found ↦
          let spoken = speaks k given (canonical_link k n) found.0 agree found.1 in
          subst P (sym (link_of-given given (canonical_link k n) found.0 found.1)) (at_ports-below k (canonical_link k n) found.0 spoken.fit)
    ]

-- the links are a fat tree
pub links_of-IsFatTree : (k : ℕ) (given : List LinkEntry) → IsArity k → Agree k given → IsFatTree k (links_of k given)
links_of-IsFatTree k given arity agree =
    let many = links_of-length k given in
    let P : Link → Type 0 = λ l. (l.lower_port < k) × (l.upper_port < k) in
    IsFatTree-in_order k (links_of k given) arity (links_of-order k given)
    (λ n d within.
    let inside : n < link_count k = omega arith in
    subst P (sym (links_of-at k given n d inside)) (placed_ports k n given arity agree inside))
    (λ m n d less within s p at_m at_n.
    let inside : n < link_count k = omega arith in
    let before : m < link_count k = omega arith in
    let differ : m ≢ n = omega arith in
    placed_apart k m n given arity agree before inside differ s p
    (is_at_moved _ _ s p (links_of-at k given m d before) at_m) (is_at_moved _ _ s p (links_of-at k given n d inside) at_n))
