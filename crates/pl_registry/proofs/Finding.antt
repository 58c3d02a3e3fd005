-- Addresses by what finds them.
use Rattle.std.proofs.Common.{◌≡◌, ◌&&◌, ◌||◌, not, ℕ, Bool, true, false, cond, List, [], ◌∷◌, ◌++◌, length, map, reverse, Option, Some, None, is_none, is_some, filter, refl, sym, ap, ◌∙◌, subst}
use Rattle.std.specs.List.{IsDistinct, find, list_any}
use Rattle.std.specs.Option.{option_and_then, option_map, option_or}
use Rattle.std.specs.Map.{keys_of, lookup, remove_entry, values_of}
use Rattle.std.proofs.lemmas.Bool.{and_parts, false≢true, or_right}
use Rattle.std.proofs.lemmas.List.{append-nil, length-map, length-reverse, map-append, reverse-append}
use Rattle.std.proofs.lemmas.Option.{none-some, same_Some}
use Rattle.std.proofs.lemmas.List.Sorted.{IsPermutation-reverse}
use Rattle.std.proofs.lemmas.Map.Keys.{IsDistinct-IsPermutation}
use Rattle.indexmap.specs.IndexMap.{insert_entry}
use Rattle.indexmap.proofs.ReorderLemmas.{map-reverse}
use Rattle.pl_lemmas.proofs.Exports.{is_some-option_map, none_of, option_map_some, option_or_none}
use Rattle.pl_frame.specs.declared.address.Mac.{Mac}
use Rattle.pl_pmac.specs.declared.pmac.Pmac.{Pmac}
use Rattle.pl_layouts.specs.Equality.{same_mac, same_pmac}
use Rattle.pl_layouts.proofs.Exports.{mac_is, pmac_is, pmac_itself}
use Rattle.pl_node.specs.ManagerViews.{LearntAddress, Registration, is_newest_of, is_trapped_to, newest, registered_as}
use Rattle.pl_manager_rule.specs.ManagerRule.{ages_now, is_registered, leads_on, learnt_as, recalled, told_again}
use Rattle.pl_manager_rule.specs.Repeats.{AreAlone}
use Rattle.pl_manager_rule.proofs.Exports.{alone_filtered, alone_mapped, alone_recalled, any_registered, find_mapped, find_without, found_apart, found_passes, newest_again, none_recalled, others_recalled, pmac_turned}
use Rattle.pl_registry.specs.declared.addresses.Known.{Known}
use Rattle.pl_registry.specs.declared.addresses.Recall.{Recall}
use Rattle.pl_registry.specs.declared.addresses.Registered.{Registered}
use Rattle.pl_registry.specs.declared.addresses.Told.{Told}
use Rattle.pl_registry.specs.Addresses.{FindAddresses, IsLedFrom, is_trap_to, leading, learnt_at, learnt_of, newest_first, recall_of, registration_of, told_at, was_newest_of, with_address_as}
use Rattle.pl_registry.proofs.Entries.{ChangesTo, absent, list_without, none_left, nothing_changed, one_changed, put_last}

-- one that is found is among them, and the other way round
any_found : {X : Type 0} (test : X → Bool) (xs : List X) → list_any test xs ≡ is_some (find test xs)
any_found test [] = refl
any_found test (x ∷ xs) = by (any_found test xs) (test x)
  where
    by : list_any test xs ≡ is_some (find test xs) → (b : Bool) → (b || list_any test xs) ≡ is_some (cond b (Some x) (find test xs))
    by rest true = refl
    by rest false = rest

-- the last item of a list is the first one of the list from its end
last_first : {X Y : Type 0} (f : X → Y) (xs : List X) (x : X) → reverse (map f (xs ++ x ∷ [])) ≡ f x ∷ reverse (map f xs)
last_first f xs x = ap reverse (map-append f xs (x ∷ [])) ∙ reverse-append (map f xs) (f x ∷ [])

abbrev pub Table : Type 0
Table = List (Pmac × Known)

abbrev pub Latest : Type 0
Latest = List (Mac × Registered)

abbrev pub learnt_entry : Pmac × Known → LearntAddress
learnt_entry e = learnt_at e.0 e.1

find_push : {X : Type 0} (test : X → Bool) (xs : List X) (x : X) → find test (xs ++ x ∷ []) ≡ option_or (find test xs) (cond (test x) (Some x) None)
find_push test [] x = refl
find_push test (y ∷ xs) x = by (test y) (find_push test xs x)
  where
    by : (b : Bool) → find test (xs ++ x ∷ []) ≡ option_or (find test xs) (cond (test x) (Some x) None) →
        cond b (Some y) (find test (xs ++ x ∷ [])) ≡ option_or (cond b (Some y) (find test xs)) (cond (test x) (Some x) None)
    by true rest = refl
    by false rest = rest

-- what is known of an address is found in the list
pub found_at : (y : Pmac) (known : Table) → IsDistinct same_pmac (keys_of known) →
    find (λ a. same_pmac a.pmac y) (newest_first known) ≡ option_map (learnt_at y) (lookup (same_pmac y) known)
unfolding IsDistinct
found_at y [] once = refl
found_at y (e ∷ es) once =
    ap (find (λ (a : LearntAddress). same_pmac a.pmac y)) (reverse-append (learnt_entry e ∷ []) (map learnt_entry es))
    ∙ find_push (λ (a : LearntAddress). same_pmac a.pmac y) (newest_first es) (learnt_entry e)
    ∙ ap (λ o. option_or o (cond (same_pmac e.0 y) (Some (learnt_entry e)) None)) (found_at y es once.1)
    ∙ by (same_pmac e.0 y) refl
  where
    by : (b : Bool) → same_pmac e.0 y ≡ b → option_or (option_map (learnt_at y) (lookup (same_pmac y) es)) (cond b (Some (learnt_entry e)) None)
        ≡ option_map (learnt_at y) (cond (same_pmac y e.0) (Some e.1) (lookup (same_pmac y) es))
    by true same =
        let key : e.0 ≡ y = pmac_is e.0 y same in
        let none : lookup (same_pmac y) es ≡ None = subst (λ z. lookup (same_pmac z) es ≡ None) key (absent e.0 es once.0) in
        ap (λ o. option_or (option_map (learnt_at y) o) (Some (learnt_entry e))) none ∙ ap (λ z. Some (learnt_at z e.1)) key
        ∙ sym (ap (λ b. option_map (learnt_at y) (cond b (Some e.1) (lookup (same_pmac y) es))) (pmac_turned y e.0 ∙ same))
    by false other =
        option_or_none (option_map (learnt_at y) (lookup (same_pmac y) es))
        ∙ sym (ap (λ b. option_map (learnt_at y) (cond b (Some e.1) (lookup (same_pmac y) es))) (pmac_turned y e.0 ∙ other))

pmacs_are : (es : Table) → map (λ a. a.pmac) (map learnt_entry es) ≡ keys_of es
pmacs_are [] = refl
pmacs_are (e ∷ es) = ap (λ ks. e.0 ∷ ks) (pmacs_are es)

pub listed_once : (known : Table) → IsDistinct same_pmac (keys_of known) → IsDistinct same_pmac (map (λ a. a.pmac) (newest_first known))
listed_once known once =
    subst (IsDistinct same_pmac) (sym (map-reverse (λ (a : LearntAddress). a.pmac) (map learnt_entry known) ∙ ap reverse (pmacs_are known)))
    (IsDistinct-IsPermutation same_pmac pmac_turned (keys_of known) (reverse (keys_of known)) (IsPermutation-reverse (keys_of known)) once)

-- as many are in the list as in the table
pub as_many : (known : Table) → length (newest_first known) ≡ length known
as_many known = length-reverse (map learnt_entry known) ∙ length-map known learnt_entry

-- an address is registered where something is known of it
pub registered_where_known : (known : Table) (x : Pmac) → IsDistinct same_pmac (keys_of known) →
    is_registered (newest_first known) x ≡ is_some (lookup (same_pmac x) known)
registered_where_known known x once =
    sym (any_registered (newest_first known) x) ∙ any_found (λ a. same_pmac a.pmac x) (newest_first known)
    ∙ ap is_some (found_at x known once) ∙ is_some-option_map (learnt_at x) (lookup (same_pmac x) known)

pub unknown_where_not_registered : (known : Table) (x : Pmac) → IsDistinct same_pmac (keys_of known) →
    is_registered (newest_first known) x ≡ false → lookup (same_pmac x) known ≡ None
unknown_where_not_registered known x once none = none_of (lookup (same_pmac x) known) (sym (registered_where_known known x once) ∙ none)

-- what is registered of it
pub host_found : (known : Table) (x : Pmac) → IsDistinct same_pmac (keys_of known) →
    option_map (λ (r : Registration). r.amac) (find (λ r. same_pmac r.pmac x) (map registered_as (newest_first known)))
    ≡ option_map (λ (k : Known). k.amac) (lookup (same_pmac x) known)
host_found known x once =
    ap (option_map (λ (r : Registration). r.amac))
    (find_mapped (λ (r : Registration). same_pmac r.pmac x) registered_as (newest_first known) ∙ ap (option_map registered_as) (found_at x known once))
    ∙ by (lookup (same_pmac x) known)
  where
    by : (o : Option Known) → option_map (λ (r : Registration). r.amac) (option_map registered_as (option_map (learnt_at x) o)) ≡ option_map (λ (k : Known). k.amac) o
    by None = refl
    by (Some k) = refl

-- ---- a new address
newest_added : (before after : Table) (x : Pmac) (told : Known) → lookup (same_pmac x) before ≡ None →
    after ≡ insert_entry same_pmac before x told → newest_first after ≡ learnt_at x told ∷ newest_first before
newest_added before after x told none entries =
    ap newest_first (entries ∙ put_last x told before none) ∙ last_first learnt_entry before (x, told)

-- ---- a change of what is known of one address
-- it takes the IPv4 address that is told
abbrev pub told_ip : Told → Known → Known
told_ip told known = record known { ip = option_or told.ip known.ip }

told_changes : (x : Pmac) (told : Told) (k : Known) → ChangesTo learnt_at x k (told_ip told k) (told_again (told_at x told))
told_changes x told k = record {
  same = λ i. record (learnt_at x k) { ip = cond (pmac_itself x i) (option_or told.ip k.ip) k.ip };
  other = λ y v apart i. record (learnt_at y v) { ip = cond (apart i) (option_or told.ip v.ip) v.ip };
}

-- it leads on
abbrev pub led_to : Recall → Known → Known
led_to to known = record known { recall = Some to; aged = false }

others_not_led : (x : Pmac) (to : Recall) (y : Pmac) (k : Known) → same_pmac y x ≡ false → leads_on x to.new to.number (learnt_at y k) ≡ learnt_at y k
others_not_led x to y k apart i = record (learnt_at y k) { recall = cond (apart i) (Some (recall_of to)) (option_map recall_of k.recall); aged = not (apart i) && k.aged }

led_changes : (x : Pmac) (to : Recall) (k : Known) → ChangesTo learnt_at x k (led_to to k) (leads_on x to.new to.number)
led_changes x to k = record {
  same = λ i. record (learnt_at x k) { recall = cond (pmac_itself x i) (Some (recall_of to)) (option_map recall_of k.recall); aged = not (pmac_itself x i) && k.aged };
  other = others_not_led x to;
}

-- it has aged
abbrev pub aged_known : Known → Known
aged_known known = record known { aged = true }

others_not_aged : (x y : Pmac) (k : Known) → same_pmac y x ≡ false → ages_now x (learnt_at y k) ≡ learnt_at y k
others_not_aged x y k apart i = record (learnt_at y k) { aged = apart i || k.aged }

aged_changes : (x : Pmac) (k : Known) → ChangesTo learnt_at x k (aged_known k) (ages_now x)
aged_changes x k = record { same = λ i. record (learnt_at x k) { aged = pmac_itself x i || k.aged }; other = others_not_aged x }

list_changed : (x : Pmac) (old new : Known) (change : LearntAddress → LearntAddress) → ChangesTo learnt_at x old new change → (known : Table) →
    IsDistinct same_pmac (keys_of known) → lookup (same_pmac x) known ≡ Some old → newest_first (insert_entry same_pmac known x new) ≡ map change (newest_first known)
list_changed x old new change changes known once there =
    ap reverse (one_changed learnt_at x change changes.other old new changes.same known once there) ∙ sym (map-reverse change (map learnt_entry known))

-- one leads on, if it is there
pub led_list : (x : Pmac) (to : Recall) (es : Table) → IsDistinct same_pmac (keys_of es) →
    newest_first (leading x to es (lookup (same_pmac x) es)) ≡ map (leads_on x to.new to.number) (newest_first es)
led_list x to es once = by (lookup (same_pmac x) es) refl
  where
    by : (o : Option Known) → lookup (same_pmac x) es ≡ o → newest_first (leading x to es o) ≡ map (leads_on x to.new to.number) (newest_first es)
    by None found = ap reverse (nothing_changed learnt_at x (leads_on x to.new to.number) (others_not_led x to) es found) ∙ sym (map-reverse (leads_on x to.new to.number) (map learnt_entry es))
    by (Some k) found = list_changed x k (led_to to k) (leads_on x to.new to.number) (led_changes x to k) es once found

-- ---- an address is told again
module _ (known after : Table) (latest : Latest) (x : Pmac) (told : Told) (k : Known) (found : FindAddresses known latest)
    (there : lookup (same_pmac x) known ≡ Some k) (entries : after ≡ insert_entry same_pmac known x (told_ip told k)) where
  learnt_again : newest_first after ≡ map (told_again (told_at x told)) (newest_first known)
  learnt_again =
      ap newest_first entries ∙ list_changed x k (told_ip told k) (told_again (told_at x told)) (told_changes x told k) known found.once there

  pub is_with_address : (number : ℕ) → newest_first after ≡ with_address_as number (learnt_of (newest_first known)) (told_at x told)
  is_with_address number =
      let addresses = newest_first known in
      learnt_again
      ∙ sym (ap (λ b. cond b (map (told_again (told_at x told)) addresses)
      (learnt_as number (told_at x told) ∷ recalled (newest (learnt_of addresses) told.amac) x number addresses))
      (registered_where_known known x found.once ∙ ap is_some there))

  pub found_still : IsDistinct same_pmac (keys_of after) → FindAddresses after latest
  found_still once = record {
    once = once;
    newest = λ mac. ap (λ addresses. newest (learnt_of addresses) mac) learnt_again ∙ newest_again (told_at x told) (newest_first known) mac ∙ found.newest mac;
    alone = λ mac. subst (AreAlone mac) (sym learnt_again) (alone_mapped mac (told_again (told_at x told)) (λ a is. is) (newest_first known) (found.alone mac));
  }

-- ---- an address has aged
newest_aged : (x : Pmac) (addresses : List LearntAddress) (mac : Mac) →
    option_map registered_as (find (is_newest_of mac) (map (ages_now x) addresses)) ≡ option_map registered_as (find (is_newest_of mac) addresses)
newest_aged x addresses mac =
    ap (option_map registered_as) (find_mapped (is_newest_of mac) (ages_now x) addresses) ∙ same (find (is_newest_of mac) addresses)
  where
    same : (o : Option LearntAddress) → option_map registered_as (option_map (ages_now x) o) ≡ option_map registered_as o
    same None = refl
    same (Some a) = refl

module _ (known after : Table) (latest : Latest) (x : Pmac) (k : Known) (found : FindAddresses known latest)
    (there : lookup (same_pmac x) known ≡ Some k) (entries : after ≡ insert_entry same_pmac known x (aged_known k)) where
  pub is_aged : newest_first after ≡ map (ages_now x) (newest_first known)
  is_aged = ap newest_first entries ∙ list_changed x k (aged_known k) (ages_now x) (aged_changes x k) known found.once there

  pub found_aged : IsDistinct same_pmac (keys_of after) → FindAddresses after latest
  found_aged once = record {
    once = once;
    newest = λ mac. ap (λ addresses. newest (learnt_of addresses) mac) is_aged ∙ newest_aged x (newest_first known) mac ∙ found.newest mac;
    alone = λ mac. subst (AreAlone mac) (sym is_aged) (alone_mapped mac (ages_now x) (λ a is. is) (newest_first known) (found.alone mac));
  }

-- one of which nothing is known changes nothing
pub none_aged : (x : Pmac) (known : Table) → lookup (same_pmac x) known ≡ None → newest_first known ≡ map (ages_now x) (newest_first known)
none_aged x known none = ap reverse (nothing_changed learnt_at x (ages_now x) (others_not_aged x) known none) ∙ sym (map-reverse (ages_now x) (map learnt_entry known))

-- ---- an address is learnt
found_then_any : {X : Type 0} (p q : X → Bool) (xs : List X) (x : X) → find p xs ≡ Some x → q x ≡ true → list_any q xs ≡ true
found_then_any p q [] x found passes = let none : None ≡ Some x = found in absurd (cc)
found_then_any p q (y ∷ xs) x found passes = by (λ j. found_then_any p q xs x j passes) (p y) found
  where
    by : (find p xs ≡ Some x → list_any q xs ≡ true) → (b : Bool) → cond b (Some y) (find p xs) ≡ Some x → (q y || list_any q xs) ≡ true
    by rest true j = let same : y ≡ x = cc in ap (λ z. q z || list_any q xs) same ∙ ap (λ b. b || list_any q xs) passes
    by rest false j = or_right (q y) (list_any q xs) (rest j)

module _ (number : ℕ) (known put after : Table) (latest latest_after : Latest) (x : Pmac) (told : Told) (found : FindAddresses known latest)
    (fresh : lookup (same_pmac x) known ≡ None) where
  abbrev first : Known
  first = record { switch = told.switch; amac = told.amac; ip = told.ip; number = number; recall = None; aged = false }

  abbrev to : Recall
  to = record { new = x; number = number }

  -- the newest address of a host is another one
  other_one : (old : Registered) → lookup (same_mac told.amac) latest ≡ Some old → same_pmac x old.pmac ≡ false
  other_one old is =
      let one = option_map_some registered_as (find (is_newest_of told.amac) (newest_first known)) (registration_of old)
      (found.newest told.amac ∙ ap (option_map registration_of) is) in
      let name : one.0.pmac ≡ old.pmac = ap (λ (r : Registration). r.pmac) one.2 in
      let listed : list_any (λ a. same_pmac a.pmac old.pmac) (newest_first known) ≡ true =
      found_then_any (is_newest_of told.amac) (λ a. same_pmac a.pmac old.pmac) (newest_first known) one.0 one.1
      (subst (λ p. same_pmac one.0.pmac p ≡ true) name (pmac_itself one.0.pmac)) in
      let there : is_some (lookup (same_pmac old.pmac) known) ≡ true =
      sym (registered_where_known known old.pmac found.once) ∙ sym (any_registered (newest_first known) old.pmac) ∙ listed in
      by (same_pmac x old.pmac) refl there
    where
      by : (b : Bool) → same_pmac x old.pmac ≡ b → is_some (lookup (same_pmac old.pmac) known) ≡ true → same_pmac x old.pmac ≡ false
      by true same there =
          absurd (false≢true (sym (ap is_some fresh) ∙ subst (λ z. is_some (lookup (same_pmac z) known) ≡ true) (sym (pmac_is x old.pmac same)) there))
      by false other there = other

  module _ (entries : put ≡ insert_entry same_pmac known x (record { switch = told.switch; amac = told.amac; ip = told.ip; number = number; recall = None; aged = false }))
      (once : IsDistinct same_pmac (keys_of put))
      (led : IsLedFrom (lookup (same_mac told.amac) latest) (record { new = x; number = number }) put after) where
    pub is_added : newest_first after ≡ learnt_as number (told_at x told)
        ∷ recalled (newest (learnt_of (newest_first known)) told.amac) x number (newest_first known)
    is_added =
        by (lookup (same_mac told.amac) latest) refl led
        ∙ sym (ap (λ o. learnt_as number (told_at x told) ∷ recalled o x number (newest_first known)) (found.newest told.amac))
      where
        by : (o : Option Registered) → lookup (same_mac told.amac) latest ≡ o → IsLedFrom o to put after →
            newest_first after ≡ learnt_as number (told_at x told) ∷ recalled (option_map registration_of o) x number (newest_first known)
        by None is same = ap newest_first same ∙ newest_added known put x first fresh entries
        by (Some old) is leads =
            ap newest_first leads.entries ∙ led_list old.pmac to put once
            ∙ ap (map (leads_on old.pmac x number)) (newest_added known put x first fresh entries)
            ∙ ap (λ a. a ∷ map (leads_on old.pmac x number) (newest_first known)) ((led_changes old.pmac to first).other x first (other_one old is))

    same_keys : (o : Option Registered) → IsLedFrom o to put after → keys_of after ≡ keys_of put
    same_keys None same = ap keys_of same
    same_keys (Some old) leads = leads.keys

    pub found_more : ((mac : Mac) → lookup (same_mac mac) latest_after
        ≡ cond (same_mac told.amac mac) (Some (record { pmac = x; amac = told.amac; number = number; switch = told.switch })) (lookup (same_mac mac) latest)) →
        FindAddresses after latest_after
    found_more names = record {
      once = subst (IsDistinct same_pmac) (sym (same_keys (lookup (same_mac told.amac) latest) led)) once;
      newest = λ mac. ap (λ addresses. newest (learnt_of addresses) mac) is_added ∙ by mac (same_mac told.amac mac) refl
          ∙ ap (option_map registration_of) (sym (names mac));
      alone = λ mac. subst (AreAlone mac) (sym is_added) (
        (λ is. subst (λ (m : Mac). find (is_newest_of m) (recalled (newest (learnt_of (newest_first known)) told.amac) x number (newest_first known)) ≡ None)
            (mac_is told.amac mac (and_parts (same_mac told.amac mac) true is).0) (none_recalled (learnt_of (newest_first known)) told.amac x number (found.alone told.amac))),
        alone_recalled (newest (learnt_of (newest_first known)) told.amac) x number mac (newest_first known) (found.alone mac),
      );
    }
      where
        by : (mac : Mac) (b : Bool) → same_mac told.amac mac ≡ b →
            option_map registered_as (cond (b && true) (Some (learnt_as number (told_at x told)))
            (find (is_newest_of mac) (recalled (newest (learnt_of (newest_first known)) told.amac) x number (newest_first known))))
            ≡ option_map registration_of (cond b (Some (record { pmac = x; amac = told.amac; number = number; switch = told.switch })) (lookup (same_mac mac) latest))
        by mac true same = refl
        by mac false other =
            others_recalled (learnt_of (newest_first known)) told.amac x number mac other (listed_once known found.once) ∙ found.newest mac

-- ---- an address is forgotten
filter_push : {X : Type 0} (q : X → Bool) (xs : List X) (x : X) → filter q (xs ++ x ∷ []) ≡ filter q xs ++ cond (q x) (x ∷ []) []
filter_push q [] x = refl
filter_push q (y ∷ xs) x = by (q y) (filter_push q xs x)
  where
    by : (b : Bool) → filter q (xs ++ x ∷ []) ≡ filter q xs ++ cond (q x) (x ∷ []) [] →
        cond b (y ∷ filter q (xs ++ x ∷ [])) (filter q (xs ++ x ∷ [])) ≡ cond b (y ∷ filter q xs) (filter q xs) ++ cond (q x) (x ∷ []) []
    by true rest = ap (λ zs. y ∷ zs) rest
    by false rest = rest

filter_reversed : {X : Type 0} (q : X → Bool) (xs : List X) → filter q (reverse xs) ≡ reverse (filter q xs)
filter_reversed q [] = refl
filter_reversed q (x ∷ xs) =
    ap (filter q) (reverse-append (x ∷ []) xs) ∙ filter_push q (reverse xs) x ∙ ap (λ ys. ys ++ cond (q x) (x ∷ []) []) (filter_reversed q xs) ∙ by (q x)
  where
    by : (b : Bool) → reverse (filter q xs) ++ cond b (x ∷ []) [] ≡ reverse (cond b (x ∷ filter q xs) (filter q xs))
    by true = sym (reverse-append (x ∷ []) (filter q xs))
    by false = append-nil (reverse (filter q xs))

-- in a list without repetitions the address that is found is the one that has the name
same_entry : (test : LearntAddress → Bool) (x : Pmac) (list : List LearntAddress) (a b : LearntAddress) → IsDistinct same_pmac (map (λ c. c.pmac) list) →
    find test list ≡ Some b → find (λ c. same_pmac c.pmac x) list ≡ Some a → same_pmac b.pmac x ≡ true → b ≡ a
unfolding IsDistinct
same_entry test x [] a b once found there own = absurd (none-some b found)
same_entry test x (c ∷ list) a b once found there own = by (λ j k. same_entry test x list a b once.1 j k own) (test c) (same_pmac c.pmac x) refl found there
  where
    by : (find test list ≡ Some b → find (λ c. same_pmac c.pmac x) list ≡ Some a → b ≡ a) → (passes named : Bool) → same_pmac c.pmac x ≡ named →
        cond passes (Some c) (find test list) ≡ Some b → cond named (Some c) (find (λ c. same_pmac c.pmac x) list) ≡ Some a → b ≡ a
    by rest true true is j k = sym (same_Some c b j) ∙ same_Some c a k
    by rest true false is j k = absurd (false≢true (sym is ∙ subst (λ (z : LearntAddress). same_pmac z.pmac x ≡ true) (sym (same_Some c b j)) own))
    by rest false true is j k =
        absurd (false≢true (sym (found_apart test c.pmac list b j once.0)
        ∙ subst (λ (z : Pmac). same_pmac c.pmac z ≡ true) (sym (pmac_is b.pmac x own)) is))
    by rest false false is j k = rest j k

-- one that leads to no newer one is the newest of its host
alone_is : (mac : Mac) (x : Pmac) (list : List LearntAddress) (a : LearntAddress) → AreAlone mac list → find (λ c. same_pmac c.pmac x) list ≡ Some a → is_newest_of mac a ≡ true →
    find (is_newest_of mac) list ≡ Some a
alone_is mac x [] a alone there passes = absurd (none-some a there)
alone_is mac x (c ∷ list) a alone there passes = by (λ k. alone_is mac x list a alone.1 k passes) (same_pmac c.pmac x) (is_newest_of mac c) refl there
  where
    by : (find (λ c. same_pmac c.pmac x) list ≡ Some a → find (is_newest_of mac) list ≡ Some a) → (named newest : Bool) → is_newest_of mac c ≡ newest →
        cond named (Some c) (find (λ c. same_pmac c.pmac x) list) ≡ Some a → cond newest (Some c) (find (is_newest_of mac) list) ≡ Some a
    by rest true true is k = k
    by rest true false is k = absurd (false≢true (sym is ∙ subst (λ (z : LearntAddress). is_newest_of mac z ≡ true) (sym (same_Some c a k)) passes))
    by rest false true is k = absurd (none-some a (sym (alone.0 is) ∙ rest k))
    by rest false false is k = rest k

pub is_forgotten : (known after : Table) (x : Pmac) → IsDistinct same_pmac (keys_of known) → after ≡ remove_entry (same_pmac x) known →
    newest_first after ≡ filter (λ a. not (same_pmac a.pmac x)) (newest_first known)
is_forgotten known after x once entries =
    ap newest_first entries ∙ ap reverse (list_without learnt_at (λ a. a.pmac) (λ y k. refl) x known once) ∙ sym (filter_reversed (λ (a : LearntAddress). not (same_pmac a.pmac x)) (map learnt_entry known))

module _ (known after : Table) (latest latest_after : Latest) (x : Pmac) (k : Known) (found : FindAddresses known latest)
    (there : lookup (same_pmac x) known ≡ Some k) (entries : after ≡ remove_entry (same_pmac x) known) where
  listed : find (λ c. same_pmac c.pmac x) (newest_first known) ≡ Some (learnt_at x k)
  listed = found_at x known found.once ∙ ap (option_map (learnt_at x)) there

  -- the newest address of a host is left, but where it is that one
  newest_left : (mac : Mac) → option_map registered_as (find (is_newest_of mac) (filter (λ a. not (same_pmac a.pmac x)) (newest_first known)))
      ≡ cond (is_newest_of mac (learnt_at x k)) None (option_map registered_as (find (is_newest_of mac) (newest_first known)))
  newest_left mac =
      ap (option_map registered_as) (find_without mac (λ a. not (same_pmac a.pmac x)) (newest_first known) (found.alone mac))
      ∙ by (find (is_newest_of mac) (newest_first known)) refl
    where
      neither : (c : Bool) → ◌≡◌ {A = Option Registration} None (cond c None None)
      neither true = refl
      neither false = refl

      by : (o : Option LearntAddress) → find (is_newest_of mac) (newest_first known) ≡ o →
          option_map registered_as (option_and_then (λ a. cond (not (same_pmac a.pmac x)) (Some a) None) o) ≡ cond (is_newest_of mac (learnt_at x k)) None (option_map registered_as o)
      by None at = neither (is_newest_of mac (learnt_at x k))
      by (Some b) at = either (same_pmac b.pmac x) (is_newest_of mac (learnt_at x k)) refl refl
        where
          either : (own newest : Bool) → same_pmac b.pmac x ≡ own → is_newest_of mac (learnt_at x k) ≡ newest →
              option_map registered_as (cond (not own) (Some b) None) ≡ cond newest None (Some (registered_as b))
          either true true own is = refl
          either true false own is =
              let same : b ≡ learnt_at x k = same_entry (is_newest_of mac) x (newest_first known) (learnt_at x k) b (listed_once known found.once) at listed own in
              absurd (false≢true (sym is ∙ subst (λ (z : LearntAddress). is_newest_of mac z ≡ true) same (found_passes (is_newest_of mac) (newest_first known) b at)))
          either false true own is =
              let same : b ≡ learnt_at x k = same_Some b (learnt_at x k) (sym at ∙ alone_is mac x (newest_first known) (learnt_at x k) (found.alone mac) listed is) in
              absurd (false≢true (sym own ∙ subst (λ (z : LearntAddress). same_pmac z.pmac x ≡ true) (sym same) (pmac_itself x)))
          either false false own is = refl

  is_list : newest_first after ≡ filter (λ a. not (same_pmac a.pmac x)) (newest_first known)
  is_list = is_forgotten known after x found.once entries

  -- the other table has it no more
  found_without : IsDistinct same_pmac (keys_of after) →
      ((mac : Mac) → lookup (same_mac mac) latest_after ≡ cond (is_newest_of mac (learnt_at x k)) None (lookup (same_mac mac) latest)) → FindAddresses after latest_after
  found_without once names = record {
    once = once;
    newest = λ mac.
        ap (λ addresses. newest (learnt_of addresses) mac) is_list ∙ newest_left mac ∙ ap (cond (is_newest_of mac (learnt_at x k)) None) (found.newest mac)
        ∙ of_table (is_newest_of mac (learnt_at x k)) (lookup (same_mac mac) latest) ∙ ap (option_map registration_of) (sym (names mac));
    alone = λ mac. subst (AreAlone mac) (sym is_list) (alone_filtered mac (λ a. not (same_pmac a.pmac x)) (newest_first known) (found.alone mac));
  }
    where
      of_table : (b : Bool) (o : Option Registered) → cond b None (option_map registration_of o) ≡ option_map registration_of (cond b None o)
      of_table true o = refl
      of_table false o = refl

leads_nowhere : (o : Option Recall) → is_none o ≡ is_none (option_map recall_of o)
leads_nowhere None = refl
leads_nowhere (Some recall) = refl

-- whether it was known or not
pub found_left : (known after : Table) (latest latest_after : Latest) (x : Pmac) (o : Option Known) → FindAddresses known latest → lookup (same_pmac x) known ≡ o →
    after ≡ remove_entry (same_pmac x) known → IsDistinct same_pmac (keys_of after) →
    ((mac : Mac) → lookup (same_mac mac) latest_after ≡ cond (was_newest_of mac o) None (lookup (same_mac mac) latest)) → FindAddresses after latest_after
found_left known after latest latest_after x None found there entries once names =
    let same : after ≡ known = entries ∙ none_left x known there in
    record {
      once = once;
      newest = λ mac. ap (λ (es : Table). newest (learnt_of (newest_first es)) mac) same ∙ found.newest mac ∙ ap (option_map registration_of) (sym (names mac));
      alone = λ mac. subst (λ (es : Table). AreAlone mac (newest_first es)) (sym same) (found.alone mac);
    }
found_left known after latest latest_after x (Some k) found there entries once names =
    found_without known after latest latest_after x k found there entries once
    (λ mac. names mac ∙ ap (λ b. cond (same_mac k.amac mac && b) None (lookup (same_mac mac) latest)) (leads_nowhere k.recall))

-- ---- traps that stand
any_push : {X : Type 0} (q : X → Bool) (xs : List X) (x : X) → list_any q (xs ++ x ∷ []) ≡ (q x || list_any q xs)
any_push q [] x = refl
any_push q (y ∷ xs) x = ap (λ b. q y || b) (any_push q xs x) ∙ turn (q y) (q x) (list_any q xs)
  where
    turn : (a b c : Bool) → (a || (b || c)) ≡ (b || (a || c))
    turn true true c = refl
    turn true false c = refl
    turn false b c = refl

-- one that leads to this address is in the list where it is in the table
pub trapped_listed : (x : Pmac) (known : Table) → list_any (λ k. is_trap_to x k.recall k.aged) (values_of known) ≡ list_any (is_trapped_to x) (newest_first known)
trapped_listed x [] = refl
trapped_listed x (e ∷ es) =
    ap (λ b. is_trap_to x e.1.recall e.1.aged || b) (trapped_listed x es) ∙ sym (any_push (is_trapped_to x) (newest_first es) (learnt_entry e))
    ∙ sym (ap (list_any (is_trapped_to x)) (reverse-append (learnt_entry e ∷ []) (map learnt_entry es)))
