-- Groups are noted one by one, while memberships change.
use Rattle.std.proofs.Common.{◌≡◌, ℕ, ◌==◌, ◌&&◌, ◌||◌, not, Bool, true, false, cond, List, [], ◌∷◌, Some, refl, sym, ap, ◌∙◌, subst, inl, inr}
use Rattle.std.specs.BTreeMap.{insert_entry, is_at}
use Rattle.std.specs.BTreeSet.{insert_key}
use Rattle.std.specs.declared.cmp.Ordering.{Ordering}
use Rattle.std.specs.declared.cmp.Ordering.TheVariants.{Less, Equal, Greater}
use Rattle.std.specs.List.{All, filter, list_any}
use Rattle.std.specs.List.Sorted.{IsStrictlySortedBy}
use Rattle.std.specs.Map.{keys_of, lookup}
use Rattle.std.specs.Option.{is_some}
use Rattle.std.specs.Ordering.{match_ordering, nat_cmp, ordering_then}
use Rattle.std.proofs.lemmas.Bool.{cases_eq, eq-eqb, ne_eqb, or_parts, true≢false}
use Rattle.std.proofs.lemmas.Cmp.{nat_cmp_total}
use Rattle.std.proofs.lemmas.List.Elements.{All-cons, All-head, All-nil, All-tail}
use Rattle.pl_lemmas.proofs.Exports.{or_swap, or_twice}
use Rattle.pl_frame.specs.declared.address.Mac.{Mac}
use Rattle.pl_node.specs.declared.switch_records.Member.{Member}
use Rattle.pl_node.proofs.Exports.{rising_inserted}
use Rattle.pl_layouts.specs.declared.membership.Change.{Change}
use Rattle.pl_layouts.specs.Frames.{mac_number}
use Rattle.pl_layouts.specs.Memberships.{group_number}
use Rattle.pl_switch_rule.specs.Intake.{changes_member, has_member_of, is_member, joins, leaves, member_cmp}
use Rattle.pl_members.proofs.Exports.{any_inserted, equal_numbers, from_equal}
use Rattle.pl_edge.specs.Told.{is_noted, notes, AreChangesNoted}

pub found_noted : (key : ℕ) (es : List (ℕ × Bool)) → is_some (lookup (is_at (nat_cmp key)) es) ≡ is_noted es key
found_noted key [] = refl
found_noted key (e ∷ es) =
    ap (λ b. is_some (cond b (Some e.1) (lookup (is_at (nat_cmp key)) es))) (equal_numbers key e.0) ∙ by (e.0 == key) (found_noted key es)
  where
    by : (b : Bool) → is_some (lookup (is_at (nat_cmp key)) es) ≡ is_noted es key →
        is_some (cond b (Some e.1) (lookup (is_at (nat_cmp key)) es)) ≡ (b || is_noted es key)
    by true rest = refl
    by false rest = rest

pub already : (members : List Member) (es : List (ℕ × Bool)) (group : ℕ) → is_some (lookup (is_at (nat_cmp group)) es) ≡ true → es ≡ notes members es group
already members es group h = ap (λ b. cond b es (insert_entry nat_cmp es group (has_member_of members group))) (sym h ∙ found_noted group es)

pub newly : (members : List Member) (es : List (ℕ × Bool)) (group : ℕ) → is_some (lookup (is_at (nat_cmp group)) es) ≡ false →
    insert_entry nat_cmp es group (has_member_of members group) ≡ notes members es group
newly members es group h = ap (λ b. cond b es (insert_entry nat_cmp es group (has_member_of members group))) (sym h ∙ found_noted group es)

keys_inserted : (es : List (ℕ × Bool)) (k : ℕ) (v : Bool) → keys_of (insert_entry nat_cmp es k v) ≡ insert_key nat_cmp (keys_of es) k
keys_inserted [] k v = refl
keys_inserted (e ∷ es) k v = by (keys_inserted es k v) (nat_cmp k e.0)
  where
    by : keys_of (insert_entry nat_cmp es k v) ≡ insert_key nat_cmp (keys_of es) k → (r : Ordering) →
        keys_of (match_ordering r ((k, v) ∷ e ∷ es) ((e.0, v) ∷ es) (e ∷ insert_entry nat_cmp es k v))
        ≡ match_ordering r (k ∷ e.0 ∷ keys_of es) (e.0 ∷ keys_of es) (e.0 ∷ insert_key nat_cmp (keys_of es) k)
    by rest Less = refl
    by rest Equal = refl
    by rest Greater = ap (λ ks. e.0 ∷ ks) rest

-- one more group is noted, and no other
pub noted_more : (members : List Member) (es : List (ℕ × Bool)) (g q : ℕ) → is_noted (notes members es g) q ≡ ((g == q) || is_noted es q)
noted_more members es g q = by (is_noted es g) refl
  where
    by : (b : Bool) → is_noted es g ≡ b → is_noted (cond b es (insert_entry nat_cmp es g (has_member_of members g))) q ≡ ((g == q) || is_noted es q)
    by false e = ap (list_any (λ k. k == q)) (keys_inserted es g (has_member_of members g)) ∙ any_inserted g q (keys_of es)
    by true e = elim (cases_eq g q) [
      | inl same ↦
          let there : is_noted es q ≡ true = ap (is_noted es) (sym same) ∙ e in
          there ∙ sym (ap (λ b. b || is_noted es q) (eq-eqb g q same))
      | inr other ↦ sym (ap (λ b. b || is_noted es q) (ne_eqb g q other))
    ]

abbrev Had : List Member → ℕ × Bool → Type 0
Had old noted = noted.1 ≡ has_member_of old noted.0

had_more : (old : List Member) (es : List (ℕ × Bool)) (g : ℕ) (had : Bool) → had ≡ has_member_of old g → All (Had old) es →
    All (Had old) (insert_entry nat_cmp es g had)
had_more old [] g had is all = All-cons (Had old) (g, had) [] is all
had_more old (e ∷ es) g had is all =
    by (had_more old es g had is (All-tail (Had old) e es all)) (nat_cmp g e.0) refl
  where
    by : All (Had old) (insert_entry nat_cmp es g had) → (r : Ordering) → nat_cmp g e.0 ≡ r →
        All (Had old) (match_ordering r ((g, had) ∷ e ∷ es) ((e.0, had) ∷ es) (e ∷ insert_entry nat_cmp es g had))
    by rest Less h = All-cons (Had old) (g, had) (e ∷ es) is all
    by rest Equal h = All-cons (Had old) (e.0, had) es (is ∙ ap (has_member_of old) (from_equal g e.0 h)) (All-tail (Had old) e es all)
    by rest Greater h = All-cons (Had old) e (insert_entry nat_cmp es g had) (All-head (Had old) e es all) rest

-- nothing is noted yet, and nothing has changed
pub noted_none : (members : List Member) → AreChangesNoted members members []
unfolding IsStrictlySortedBy
noted_none members = record { rising = tt; had = All-nil (Had members); others = λ group h. refl }

-- one more group is noted before it changes
pub noted_then : (old now : List Member) (es : List (ℕ × Bool)) (g : ℕ) → AreChangesNoted old now es → AreChangesNoted old now (notes now es g)
noted_then old now es g noted = record {
  rising = by_rising (is_noted es g);
  had = by_had (is_noted es g) refl;
  others = λ q h. noted.others q ((or_parts (g == q) (is_noted es q) (sym (noted_more now es g q) ∙ h)).1);
}
  where
    by_rising : (b : Bool) → IsStrictlySortedBy nat_cmp (keys_of (cond b es (insert_entry nat_cmp es g (has_member_of now g))))
    by_rising true = noted.rising
    by_rising false =
        subst (IsStrictlySortedBy nat_cmp) (sym (keys_inserted es g (has_member_of now g))) (rising_inserted nat_cmp nat_cmp_total g (keys_of es) noted.rising)

    by_had : (b : Bool) → is_noted es g ≡ b → All (Had old) (cond b es (insert_entry nat_cmp es g (has_member_of now g)))
    by_had true e = noted.had
    by_had false e = had_more old es g (has_member_of now g) (noted.others g e) noted.had

-- a group that was noted changes, and no other
pub noted_changed : (old now after : List Member) (es : List (ℕ × Bool)) (g : ℕ) → AreChangesNoted old now es → is_noted es g ≡ true →
    ((q : ℕ) → (g == q) ≡ false → has_member_of after q ≡ has_member_of now q) → AreChangesNoted old after es
noted_changed old now after es g noted there same = record {
  rising = noted.rising;
  had = noted.had;
  others = λ q h. elim (cases_eq g q) [
    | inl e ↦ absurd (true≢false (sym there ∙ ap (is_noted es) e ∙ h))
    | inr ne ↦ same q (ne_eqb g q ne) ∙ noted.others q h
  ];
}

first_equal : (first next : Ordering) → ordering_then first next ≡ Equal → first ≡ Equal
first_equal Less next e = e
first_equal Equal next e = refl
first_equal Greater next e = e

any_joined : (m : Member) (q : ℕ) (ms : List Member) → has_member_of (insert_key member_cmp ms m) q ≡ ((m.group == q) || has_member_of ms q)
any_joined m q [] = refl
any_joined m q (x ∷ ms) = by (any_joined m q ms) (member_cmp m x) refl
  where
    by : has_member_of (insert_key member_cmp ms m) q ≡ ((m.group == q) || has_member_of ms q) → (r : Ordering) → member_cmp m x ≡ r →
        has_member_of (match_ordering r (m ∷ x ∷ ms) (x ∷ ms) (x ∷ insert_key member_cmp ms m)) q ≡ ((m.group == q) || ((x.group == q) || has_member_of ms q))
    by rest Less e = refl
    by rest Equal e =
        or_twice (x.group == q) (has_member_of ms q)
        ∙ ap (λ k. (k == q) || ((x.group == q) || has_member_of ms q))
        (sym (from_equal m.group x.group (first_equal (nat_cmp m.group x.group) (ordering_then (nat_cmp m.port x.port) (nat_cmp (mac_number m.amac) (mac_number x.amac))) e)))
    by rest Greater e = ap (λ b. (x.group == q) || b) rest ∙ or_swap (x.group == q) (m.group == q) (has_member_of ms q)

-- members of other groups stay
any_left : (g q : ℕ) (test : Member → Bool) (ms : List Member) → (g == q) ≡ false →
    has_member_of (filter (λ m. not ((m.group == g) && test m)) ms) q ≡ has_member_of ms q
any_left g q test [] apart = refl
any_left g q test (m ∷ ms) apart = elim (cases_eq m.group q) [
  | inl same ↦
      let other : (m.group == g) ≡ false = ne_eqb m.group g (λ e. true≢false (sym (eq-eqb g q (sym e ∙ same)) ∙ apart)) in
      ap (λ b. has_member_of (cond (not (b && test m)) (m ∷ filter (λ m. not ((m.group == g) && test m)) ms) (filter (λ m. not ((m.group == g) && test m)) ms)) q) other
      ∙ ap (λ b. (m.group == q) || b) (any_left g q test ms apart)
  | inr differ ↦
      by (not ((m.group == g) && test m)) (ne_eqb m.group q differ) ∙ any_left g q test ms apart
      ∙ sym (ap (λ b. b || has_member_of ms q) (ne_eqb m.group q differ))
]
  where
    by : (b : Bool) → (m.group == q) ≡ false → has_member_of (cond b (m ∷ filter (λ m. not ((m.group == g) && test m)) ms) (filter (λ m. not ((m.group == g) && test m)) ms)) q
        ≡ has_member_of (filter (λ m. not ((m.group == g) && test m)) ms) q
    by true e = ap (λ b. b || has_member_of (filter (λ m. not ((m.group == g) && test m)) ms) q) e
    by false e = refl

-- a host's change is of one group
pub change_apart : (port : ℕ) (amac : Mac) (members : List Member) (change : Change) (q : ℕ) → (group_number change.group == q) ≡ false →
    has_member_of (changes_member port amac members change) q ≡ has_member_of members q
change_apart port amac members change q apart = by change.join
  where
    by : (b : Bool) → has_member_of (cond b (joins port amac (group_number change.group) members) (leaves port amac (group_number change.group) members)) q ≡ has_member_of members q
    by true =
        any_joined (record { group = group_number change.group; port = port; amac = amac }) q members
        ∙ ap (λ b. b || has_member_of members q) apart
    by false = any_left (group_number change.group) q (is_member port amac) members apart

-- a group is noted, and then a host joins or leaves it
pub noted_step : (old now after : List Member) (es more : List (ℕ × Bool)) (port : ℕ) (amac : Mac) (change : Change) (g : ℕ) → AreChangesNoted old now es →
    g ≡ group_number change.group → more ≡ notes now es g → after ≡ changes_member port amac now change → AreChangesNoted old after more
noted_step old now after es more port amac change g noted is noting changed =
    subst (AreChangesNoted old after) (sym noting)
    (noted_changed old now after (notes now es g) g (noted_then old now es g noted) (noted_more now es g g ∙ ap (λ b. b || is_noted es g) (eq-eqb g g refl))
    (λ q apart. ap (λ ms. has_member_of ms q) changed ∙ change_apart port amac now change q (ap (λ k. k == q) (sym is) ∙ apart)))
