-- The newest address of a host is the one that was learnt last.
use Rattle.std.proofs.Common.{◌≡◌, ◌≤◌, ℕ, ◌+◌, ◌==◌, ◌&&◌, not, Bool, true, false, cond, List, [], ◌∷◌, ◌++◌, filter, map, Option, Some, None, is_none, is_some, refl, sym, ap, ◌∙◌, subst, arith}
use Rattle.std.specs.List.{AllByRecursion, IsDistinct, find}
use Rattle.std.specs.Option.{option_and_then, option_map, option_map_or}
use Rattle.std.proofs.lemmas.Bool.{and_parts, cond_both, eq-eqb, eqb-true, false_from_ne_true, false≢true}
use Rattle.std.proofs.lemmas.Option.{none-some, same_Some}
use Rattle.pl_frame.specs.declared.address.Mac.{Mac}
use Rattle.pl_pmac.specs.declared.pmac.Pmac.{Pmac}
use Rattle.pl_layouts.specs.Equality.{same_mac, same_pmac}
use Rattle.pl_layouts.proofs.Exports.{mac_is, pmac_is, pmac_itself}
use Rattle.pl_node.specs.declared.messages.ToManager.{ToManager}
use Rattle.pl_node.specs.declared.messages.ToManager.TheVariants as tell
use Rattle.pl_node.specs.ManagerViews.{Learnt, LearntAddress, Registration, is_newest_of, newest, registered_as, registration, registry}
use Rattle.pl_manager_rule.specs.Histories.{Word, if_still, known, numbered, numbered_by_word}
use Rattle.pl_manager_rule.specs.Repeats.{AreAlone}
use Rattle.pl_manager_rule.specs.ManagerRule.{ToldAddress, ages_now, forgets, is_registered, leads_on, learnt_as, manager_hears, recalled, told_again, view_after, with_address, with_aged, with_learnt}
use Rattle.pl_manager_rule.proofs.Kept.{reached_in_order}
use Rattle.pl_manager_rule.proofs.Aging.{aged_count, aged_keeps, aged_registration, forgotten_registration, other_registration}
use Rattle.pl_manager_rule.proofs.Learning.{find_mapped, found_nowhere, registry_after, same_numbers}
use Rattle.pl_manager_rule.proofs.Releases.{found_any}

-- the first address of each host is the one that leads to no newer one
abbrev IsFirst : List LearntAddress → Mac → Type 0
IsFirst addresses amac = option_map registered_as (find (is_newest_of amac) addresses) ≡ find (λ r. same_mac r.amac amac) (map registered_as addresses)

-- a change that leaves each registration leaves what is found of one
same_as : (change : LearntAddress → LearntAddress) → ((a : LearntAddress) → registered_as (change a) ≡ registered_as a) → (o : Option LearntAddress) →
    option_map registered_as (option_map change o) ≡ option_map registered_as o
same_as change same None = refl
same_as change same (Some a) = ap Some (same a)

-- one that is told again is the newest where it was
pub newest_again : (new : ToldAddress) (addresses : List LearntAddress) (amac : Mac) →
    option_map registered_as (find (is_newest_of amac) (map (told_again new) addresses)) ≡ option_map registered_as (find (is_newest_of amac) addresses)
newest_again new addresses amac =
    ap (option_map registered_as) (find_mapped (is_newest_of amac) (told_again new) addresses)
    ∙ same_as (told_again new) (λ a. refl) (find (is_newest_of amac) addresses)

first_again : (new : ToldAddress) (addresses : List LearntAddress) (amac : Mac) → IsFirst addresses amac → IsFirst (map (told_again new) addresses) amac
first_again new addresses amac first =
    newest_again new addresses amac ∙ first ∙ sym (ap (find (λ r. same_mac r.amac amac)) (same_numbers new addresses))

-- two tests that tell the same of each item find the same one
find_alike : {X : Type 0} (p q : X → Bool) (xs : List X) → AllByRecursion (λ x. p x ≡ q x) xs → find p xs ≡ find q xs
find_alike p q [] alike = refl
find_alike p q (x ∷ xs) alike = λ i. cond (alike.0 i) (Some x) (find_alike p q xs alike.1 i)

-- ---- one that leads on is another host's
-- of an address there is one host
all_of_host : (x : Pmac) (amac : Mac) (p : Pmac) (addresses : List LearntAddress) → same_pmac p x ≡ true →
    AllByRecursion (λ q. same_pmac p q ≡ false) (map (λ a. a.pmac) addresses) → AllByRecursion (λ a. same_pmac a.pmac x ≡ true → a.amac ≡ amac) addresses
all_of_host x amac p [] is apart = tt
all_of_host x amac p (a ∷ addresses) is apart = (
  λ same. absurd (false≢true (sym apart.0 ∙ subst (λ q. same_pmac p q ≡ true) (pmac_is p x is ∙ sym (pmac_is a.pmac x same)) (pmac_itself p))),
  all_of_host x amac p addresses is apart.1,
)

-- the one that is found is another one than an address that stands before it
pub found_apart : (test : LearntAddress → Bool) (p : Pmac) (addresses : List LearntAddress) (c : LearntAddress) → find test addresses ≡ Some c →
    AllByRecursion (λ q. same_pmac p q ≡ false) (map (λ a. a.pmac) addresses) → same_pmac p c.pmac ≡ false
found_apart test p [] c found apart = let none : None ≡ Some c = found in absurd (cc)
found_apart test p (a ∷ addresses) c found apart = by (λ k. found_apart test p addresses c k apart.1) (test a) found
  where
    by : (find test addresses ≡ Some c → same_pmac p c.pmac ≡ false) → (b : Bool) → cond b (Some a) (find test addresses) ≡ Some c → same_pmac p c.pmac ≡ false
    by rest true at = let same : a ≡ c = cc in ap (λ (x : LearntAddress). same_pmac p x.pmac) (sym same) ∙ apart.0
    by rest false at = rest at

one_host : (test : LearntAddress → Bool) (addresses : List LearntAddress) (old : LearntAddress) → IsDistinct same_pmac (map (λ a. a.pmac) addresses) →
    find test addresses ≡ Some old → AllByRecursion (λ a. same_pmac a.pmac old.pmac ≡ true → a.amac ≡ old.amac) addresses
unfolding IsDistinct
one_host test [] old once found = tt
one_host test (a ∷ addresses) old once found = by (λ k. one_host test addresses old once.1 k) (test a) found
  where
    by : (find test addresses ≡ Some old → AllByRecursion (λ c. same_pmac c.pmac old.pmac ≡ true → c.amac ≡ old.amac) addresses) →
        (b : Bool) → cond b (Some a) (find test addresses) ≡ Some old → AllByRecursion (λ c. same_pmac c.pmac old.pmac ≡ true → c.amac ≡ old.amac) (a ∷ addresses)
    by rest true at =
        let same : a ≡ old = cc in (
          (λ alike. ap (λ (c : LearntAddress). c.amac) same),
          all_of_host old.pmac old.amac a.pmac addresses (subst (λ (c : LearntAddress). same_pmac a.pmac c.pmac ≡ true) same (pmac_itself a.pmac)) once.0,
        )
    by rest false at = ((λ alike. absurd (false≢true (sym (found_apart test a.pmac addresses old at once.0) ∙ alike))), rest at)

pub found_passes : (test : LearntAddress → Bool) (addresses : List LearntAddress) (c : LearntAddress) → find test addresses ≡ Some c → test c ≡ true
found_passes test [] c found = let none : None ≡ Some c = found in absurd (cc)
found_passes test (a ∷ addresses) c found = by (λ k. found_passes test addresses c k) (test a) refl found
  where
    by : (find test addresses ≡ Some c → test c ≡ true) → (b : Bool) → test a ≡ b → cond b (Some a) (find test addresses) ≡ Some c → test c ≡ true
    by rest true passes at = let same : a ≡ c = cc in ap test (sym same) ∙ passes
    by rest false fails at = rest at

-- so that it leads on says nothing of other hosts
led_alike : (old new : Pmac) (number : ℕ) (host amac : Mac) → same_mac host amac ≡ false → (addresses : List LearntAddress) →
    AllByRecursion (λ a. same_pmac a.pmac old ≡ true → a.amac ≡ host) addresses →
    AllByRecursion (λ a. is_newest_of amac (leads_on old new number a) ≡ is_newest_of amac a) addresses
led_alike old new number host amac apart [] hosts = tt
led_alike old new number host amac apart (a ∷ addresses) hosts =
    (by (same_pmac a.pmac old) refl, led_alike old new number host amac apart addresses hosts.1)
  where
    by : (b : Bool) → same_pmac a.pmac old ≡ b →
        same_mac a.amac amac && is_none (cond b (Some (record { new = new; number = number })) a.recall) ≡ same_mac a.amac amac && is_none a.recall
    by true is = ap (λ c. c && false) other ∙ sym (ap (λ c. c && is_none a.recall) other)
      where
        other : same_mac a.amac amac ≡ false
        other = ap (λ (m : Mac). same_mac m amac) (hosts.0 is) ∙ apart
    by false other = refl

others_led : (old : LearntAddress) (new : Pmac) (number : ℕ) (host amac : Mac) → same_mac host amac ≡ false → old.amac ≡ host → (addresses : List LearntAddress) →
    IsDistinct same_pmac (map (λ a. a.pmac) addresses) → find (is_newest_of host) addresses ≡ Some old →
    option_map registered_as (find (is_newest_of amac) (map (leads_on old.pmac new number) addresses)) ≡ option_map registered_as (find (is_newest_of amac) addresses)
others_led old new number host amac apart mine addresses once found =
    ap (option_map registered_as)
    (find_mapped (is_newest_of amac) (leads_on old.pmac new number) addresses
    ∙ ap (option_map (leads_on old.pmac new number))
    (find_alike (λ a. is_newest_of amac (leads_on old.pmac new number a)) (is_newest_of amac) addresses
    (led_alike old.pmac new number old.amac amac (ap (λ (m : Mac). same_mac m amac) mine ∙ apart) addresses
    (one_host (is_newest_of host) addresses old once found))))
    ∙ same_as (leads_on old.pmac new number) (λ a. refl) (find (is_newest_of amac) addresses)

-- the newest addresses of other hosts stay, once one leads on
pub others_recalled : (learnt : Learnt) (host : Mac) (new : Pmac) (number : ℕ) (amac : Mac) → same_mac host amac ≡ false →
    IsDistinct same_pmac (map (λ a. a.pmac) learnt.addresses) →
    option_map registered_as (find (is_newest_of amac) (recalled (newest learnt host) new number learnt.addresses)) ≡ newest learnt amac
others_recalled learnt host new number amac apart once = by (find (is_newest_of host) learnt.addresses) refl
  where
    by : (o : Option LearntAddress) → find (is_newest_of host) learnt.addresses ≡ o →
        option_map registered_as (find (is_newest_of amac) (recalled (option_map registered_as o) new number learnt.addresses)) ≡ newest learnt amac
    by None found = refl
    by (Some old) found =
        others_led old new number host amac apart (mac_is old.amac host (and_parts (same_mac old.amac host) (is_none old.recall)
        (found_passes (is_newest_of host) learnt.addresses old found)).0) learnt.addresses once found

-- ---- of each host one address at most leads to no newer one
none_filtered : {X : Type 0} (t q : X → Bool) (xs : List X) → find t xs ≡ None → find t (filter q xs) ≡ None
none_filtered t q [] none = refl
none_filtered t q (x ∷ xs) none = by (λ j. none_filtered t q xs j) (t x) refl (q x) none
  where
    by : (find t xs ≡ None → find t (filter q xs) ≡ None) → (b : Bool) → t x ≡ b → (c : Bool) → cond b (Some x) (find t xs) ≡ None →
        find t (cond c (x ∷ filter q xs) (filter q xs)) ≡ None
    by rest true is c j = absurd (none-some x (sym j))
    by rest false is true j = ap (λ b. cond b (Some x) (find t (filter q xs))) is ∙ rest j
    by rest false is false j = rest j

none_mapped : {X : Type 0} (t : X → Bool) (f : X → X) → ((x : X) → t (f x) ≡ true → t x ≡ true) → (xs : List X) → find t xs ≡ None → find t (map f xs) ≡ None
none_mapped t f back [] none = refl
none_mapped t f back (x ∷ xs) none = by (λ j. none_mapped t f back xs j) (t x) refl (t (f x)) refl none
  where
    by : (find t xs ≡ None → find t (map f xs) ≡ None) → (b : Bool) → t x ≡ b → (c : Bool) → t (f x) ≡ c → cond b (Some x) (find t xs) ≡ None →
        cond c (Some (f x)) (find t (map f xs)) ≡ None
    by rest true is c in_f j = absurd (none-some x (sym j))
    by rest false is true in_f j = absurd (false≢true (sym is ∙ back x in_f))
    by rest false is false in_f j = rest j

pub alone_filtered : (mac : Mac) (q : LearntAddress → Bool) (addresses : List LearntAddress) → AreAlone mac addresses → AreAlone mac (filter q addresses)
alone_filtered mac q [] alone = tt
alone_filtered mac q (a ∷ addresses) alone = by (alone_filtered mac q addresses alone.1) (q a)
  where
    by : AreAlone mac (filter q addresses) → (b : Bool) → AreAlone mac (cond b (a ∷ filter q addresses) (filter q addresses))
    by rest true = ((λ is. none_filtered (is_newest_of mac) q addresses (alone.0 is)), rest)
    by rest false = rest

pub alone_mapped : (mac : Mac) (f : LearntAddress → LearntAddress) → ((a : LearntAddress) → is_newest_of mac (f a) ≡ true → is_newest_of mac a ≡ true) →
    (addresses : List LearntAddress) → AreAlone mac addresses → AreAlone mac (map f addresses)
alone_mapped mac f back [] alone = tt
alone_mapped mac f back (a ∷ addresses) alone =
    ((λ is. none_mapped (is_newest_of mac) f back addresses (alone.0 (back a is))), alone_mapped mac f back addresses alone.1)

-- without some of them, the newest is still that one, where it is not one of these
pub find_without : (mac : Mac) (q : LearntAddress → Bool) (addresses : List LearntAddress) → AreAlone mac addresses →
    find (is_newest_of mac) (filter q addresses) ≡ option_and_then (λ a. cond (q a) (Some a) None) (find (is_newest_of mac) addresses)
find_without mac q [] alone = refl
find_without mac q (a ∷ addresses) alone = by (find_without mac q addresses alone.1) (is_newest_of mac a) refl (q a) refl
  where
    t : LearntAddress → Bool
    t = is_newest_of mac

    keep : LearntAddress → Option LearntAddress
    keep x = cond (q x) (Some x) None

    by : find t (filter q addresses) ≡ option_and_then keep (find t addresses) → (b : Bool) → t a ≡ b → (c : Bool) → q a ≡ c →
        find t (cond c (a ∷ filter q addresses) (filter q addresses)) ≡ option_and_then keep (cond b (Some a) (find t addresses))
    by rest true is true in_q = ap (λ b. cond b (Some a) (find t (filter q addresses))) is ∙ sym (ap (λ c. cond {A = Option LearntAddress} c (Some a) None) in_q)
    by rest true is false out = none_filtered t q addresses (alone.0 is) ∙ sym (ap (λ c. cond {A = Option LearntAddress} c (Some a) None) out)
    by rest false is true in_q = ap (λ b. cond b (Some a) (find t (filter q addresses))) is ∙ rest
    by rest false is false out = rest

-- one that leads on from now on was the newest at most
led_back : (old new : Pmac) (number : ℕ) (mac : Mac) (a : LearntAddress) → is_newest_of mac (leads_on old new number a) ≡ true → is_newest_of mac a ≡ true
led_back old new number mac a = by (same_pmac a.pmac old)
  where
    by : (b : Bool) → (same_mac a.amac mac && is_none (cond b (Some (record { new = new; number = number })) a.recall)) ≡ true → (same_mac a.amac mac && is_none a.recall) ≡ true
    by true is = absurd (false≢true (and_parts (same_mac a.amac mac) false is).1)
    by false is = is

and_false : (b : Bool) → (b && false) ≡ false
and_false true = refl
and_false false = refl

-- and is not the newest then
led_none : (mac : Mac) (new : Pmac) (number : ℕ) (addresses : List LearntAddress) (old : LearntAddress) → AreAlone mac addresses → find (is_newest_of mac) addresses ≡ Some old →
    find (is_newest_of mac) (map (leads_on old.pmac new number) addresses) ≡ None
led_none mac new number [] old alone found = absurd (none-some old found)
led_none mac new number (a ∷ addresses) old alone found = by (λ j. led_none mac new number addresses old alone.1 j) (is_newest_of mac a) refl found
  where
    t : LearntAddress → Bool
    t = is_newest_of mac

    led : LearntAddress → LearntAddress
    led = leads_on old.pmac new number

    fails : a ≡ old → t (led a) ≡ false
    fails same =
        ap (λ b. same_mac a.amac mac && is_none (cond b (Some (record { new = new; number = number })) a.recall))
        (subst (λ (z : LearntAddress). same_pmac a.pmac z.pmac ≡ true) same (pmac_itself a.pmac))
        ∙ and_false (same_mac a.amac mac)

    by : (find t addresses ≡ Some old → find t (map led addresses) ≡ None) → (b : Bool) → t a ≡ b → cond b (Some a) (find t addresses) ≡ Some old →
        cond (t (led a)) (Some (led a)) (find t (map led addresses)) ≡ None
    by rest true is j =
        ap (λ b. cond b (Some (led a)) (find t (map led addresses))) (fails (same_Some a old j))
        ∙ none_mapped t led (λ x h. led_back old.pmac new number mac x h) addresses (alone.0 is)
    by rest false is j =
        ap (λ b. cond b (Some (led a)) (find t (map led addresses)))
        (false_from_ne_true (t (led a)) (λ h. false≢true (sym is ∙ led_back old.pmac new number mac a h)))
        ∙ rest j

pub none_recalled : (learnt : Learnt) (mac : Mac) (new : Pmac) (number : ℕ) → AreAlone mac learnt.addresses →
    find (is_newest_of mac) (recalled (newest learnt mac) new number learnt.addresses) ≡ None
none_recalled learnt mac new number alone = by (find (is_newest_of mac) learnt.addresses) refl
  where
    by : (o : Option LearntAddress) → find (is_newest_of mac) learnt.addresses ≡ o →
        find (is_newest_of mac) (recalled (option_map registered_as o) new number learnt.addresses) ≡ None
    by None found = found
    by (Some old) found = led_none mac new number learnt.addresses old alone found

pub alone_recalled : (o : Option Registration) (new : Pmac) (number : ℕ) (mac : Mac) (addresses : List LearntAddress) → AreAlone mac addresses →
    AreAlone mac (recalled o new number addresses)
alone_recalled None new number mac addresses alone = alone
alone_recalled (Some old) new number mac addresses alone = alone_mapped mac (leads_on old.pmac new number) (λ a h. led_back old.pmac new number mac a h) addresses alone

alone_after : (learnt : Learnt) (new : ToldAddress) → ((mac : Mac) → AreAlone mac learnt.addresses) → (mac : Mac) → AreAlone mac (with_address learnt new)
alone_after learnt new alone mac =
    let n = learnt.count + 1 in
    cond_both (is_registered learnt.addresses new.pmac) (map (told_again new) learnt.addresses)
    (learnt_as n new ∷ recalled (newest learnt new.amac) new.pmac n learnt.addresses) (AreAlone mac)
    (λ again. alone_mapped mac (told_again new) (λ a is. is) learnt.addresses (alone mac))
    (λ fresh. (
      (λ is. subst (λ (m : Mac). find (is_newest_of m) (recalled (newest learnt new.amac) new.pmac n learnt.addresses) ≡ None)
          (mac_is new.amac mac (and_parts (same_mac new.amac mac) true is).0) (none_recalled learnt new.amac new.pmac n (alone new.amac))),
      alone_recalled (newest learnt new.amac) new.pmac n mac learnt.addresses (alone mac),
    ))

-- ---- the newest address of each host, by the last of it that was given a number
record IsNewest (learnt : Learnt) (last : Mac → Option Registration) : Type 0 where
  newest : (mac : Mac) → newest learnt mac ≡ option_and_then (if_still learnt) (last mac)
  alone : (mac : Mac) → AreAlone mac learnt.addresses

-- whether a registration stands among these
abbrev if_in : List Registration → Registration → Option Registration
if_in rs q = cond (option_map_or (λ (now : Registration). now.number == q.number) (find (λ r. same_pmac r.pmac q.pmac) rs) false) (Some q) None

newest_ages : (learnt : Learnt) (x : Pmac) (last : Mac → Option Registration) → IsNewest learnt last → IsNewest (with_aged learnt x) last
newest_ages learnt x last is = record {
  newest = λ mac.
      ap (option_map registered_as) (find_mapped (is_newest_of mac) (ages_now x) learnt.addresses)
      ∙ same_as (ages_now x) (λ a. refl) (find (is_newest_of mac) learnt.addresses) ∙ is.newest mac ∙ sym (still (last mac));
  alone = λ mac. alone_mapped mac (ages_now x) (λ a h. h) learnt.addresses (is.alone mac);
}
  where
    still : (o : Option Registration) → option_and_then (if_still (with_aged learnt x)) o ≡ option_and_then (if_still learnt) o
    still None = refl
    still (Some r) =
        ap (λ (o : Option Registration). cond {A = Option Registration} (option_map_or (λ (now : Registration). now.number == r.number) o false) (Some r) None)
        (aged_registration learnt x r.pmac)

newest_goes : (learnt : Learnt) (x : Pmac) (last : Mac → Option Registration) → IsNewest learnt last → IsNewest (forgets learnt x) last
newest_goes learnt x last is = record {
  newest = λ mac.
      ap (option_map registered_as) (find_without mac other learnt.addresses (is.alone mac)) ∙ kept (find (is_newest_of mac) learnt.addresses)
      ∙ ap (option_and_then keep) (is.newest mac) ∙ left (last mac);
  alone = λ mac. alone_filtered mac other learnt.addresses (is.alone mac);
}
  where
    other : LearntAddress → Bool
    other a = not (same_pmac a.pmac x)

    keep : Registration → Option Registration
    keep r = cond (not (same_pmac r.pmac x)) (Some r) None

    kept : (o : Option LearntAddress) → option_map registered_as (option_and_then (λ a. cond (other a) (Some a) None) o) ≡ option_and_then keep (option_map registered_as o)
    kept None = refl
    kept (Some a) = by (same_pmac a.pmac x)
      where
        by : (b : Bool) → option_map registered_as (cond (not b) (Some a) None) ≡ cond (not b) (Some (registered_as a)) None
        by true = refl
        by false = refl

    left : (o : Option Registration) → option_and_then keep (option_and_then (if_still learnt) o) ≡ option_and_then (if_still (forgets learnt x)) o
    left None = refl
    left (Some r) = by (same_pmac r.pmac x) refl (option_map_or (λ (now : Registration). now.number == r.number) (registration learnt r.pmac) false) refl
      where
        stands : Option Registration → Bool
        stands o = option_map_or (λ (now : Registration). now.number == r.number) o false

        by : (b : Bool) → same_pmac r.pmac x ≡ b → (c : Bool) → stands (registration learnt r.pmac) ≡ c →
            option_and_then (λ (q : Registration). keep q) (cond c (Some r) None) ≡ cond {A = Option Registration} (stands (registration (forgets learnt x) r.pmac)) (Some r) None
        by true same c is_so =
            both_none c ∙ sym (ap (λ (o : Option Registration). cond {A = Option Registration} (stands o) (Some r) None)
            (ap (registration (forgets learnt x)) (pmac_is r.pmac x same) ∙ forgotten_registration learnt x))
          where
            both_none : (d : Bool) → option_and_then (λ (q : Registration). keep q) (cond d (Some r) None) ≡ None
            both_none true = ap (λ b. cond {A = Option Registration} (not b) (Some r) None) same
            both_none false = refl
        by false apart c is_so =
            one_kept c ∙ sym (ap (λ b. cond {A = Option Registration} b (Some r) None) (ap stands (other_registration learnt x r.pmac apart) ∙ is_so))
          where
            one_kept : (d : Bool) → option_and_then (λ (q : Registration). keep q) (cond d (Some r) None) ≡ cond {A = Option Registration} d (Some r) None
            one_kept true = ap (λ b. cond {A = Option Registration} (not b) (Some r) None) apart
            one_kept false = refl

-- ---- each number that was given is counted
all_below : {X : Type 0} (f : X → ℕ) (m n : ℕ) (xs : List X) → m ≤ n → AllByRecursion (λ x. f x ≤ m) xs → AllByRecursion (λ x. f x ≤ n) xs
all_below f m n [] more all = tt
all_below f m n (x ∷ xs) more all = ((let low = all.0 in omega (arith, low, more)), all_below f m n xs more all.1)

found_holds : {X : Type 0} (P : X → Type 0) (t : X → Bool) (xs : List X) (x : X) → AllByRecursion P xs → find t xs ≡ Some x → P x
found_holds P t [] x all found = absurd (none-some x found)
found_holds P t (y ∷ xs) x all found = by (λ j. found_holds P t xs x all.1 j) (t y) found
  where
    by : (find t xs ≡ Some x → P x) → (b : Bool) → cond b (Some y) (find t xs) ≡ Some x → P x
    by rest true j = subst P (same_Some y x j) all.0
    by rest false j = rest j

-- ---- an address is learnt
module _ (learnt : Learnt) (new : ToldAddress) (ns : List Registration) (once : IsDistinct same_pmac (map (λ a. a.pmac) learnt.addresses))
    (below : AllByRecursion (λ (r : Registration). r.number ≤ learnt.count) ns)
    (is : IsNewest learnt (λ mac. find (λ r. same_mac r.amac mac) ns)) where
  abbrev number : ℕ
  number = learnt.count + 1

  abbrev first : Registration
  first = registered_as (learnt_as number new)

  -- another registration stands as before
  others_stand : is_registered learnt.addresses new.pmac ≡ false → (mac : Mac) →
      option_and_then (if_still learnt) (find (λ r. same_mac r.amac mac) ns) ≡ option_and_then (if_in (first ∷ registry learnt)) (find (λ r. same_mac r.amac mac) ns)
  others_stand fresh mac = by (find (λ r. same_mac r.amac mac) ns) refl
    where
      by : (o : Option Registration) → find (λ r. same_mac r.amac mac) ns ≡ o → option_and_then (if_still learnt) o ≡ option_and_then (if_in (first ∷ registry learnt)) o
      by None found = refl
      by (Some q) found = either (same_pmac new.pmac q.pmac) refl
        where
          low : q.number ≤ learnt.count
          low = found_holds (λ (r : Registration). r.number ≤ learnt.count) (λ r. same_mac r.amac mac) ns q below found

          stands : Option Registration → Bool
          stands o = option_map_or (λ (now : Registration). now.number == q.number) o false

          either : (b : Bool) → same_pmac new.pmac q.pmac ≡ b →
              cond {A = Option Registration} (stands (registration learnt q.pmac)) (Some q) None
              ≡ cond {A = Option Registration} (stands (cond b (Some first) (registration learnt q.pmac))) (Some q) None
          either true same =
              ap (λ (o : Option Registration). cond {A = Option Registration} (stands o) (Some q) None)
              (ap (registration learnt) (sym (pmac_is new.pmac q.pmac same)) ∙ found_nowhere (λ (r : Registration). same_pmac r.pmac new.pmac) (registry learnt) fresh)
              ∙ sym (ap (λ b. cond {A = Option Registration} b (Some q) None)
              (false_from_ne_true (number == q.number) (λ h. let same_number : number ≡ q.number = eqb-true number q.number h in absurd (omega (arith, same_number, low)))))
          either false apart = refl

  learnt_step : (mac : Mac) (c : Bool) → is_registered learnt.addresses new.pmac ≡ c →
      option_map registered_as (find (is_newest_of mac) (cond c (map (told_again new) learnt.addresses)
      (learnt_as number new ∷ recalled (newest learnt new.amac) new.pmac number learnt.addresses)))
      ≡ option_and_then (if_in (cond c (registry learnt) (first ∷ registry learnt))) (find (λ r. same_mac r.amac mac) (cond c [] (first ∷ []) ++ ns))
  learnt_step mac true again = newest_again new learnt.addresses mac ∙ is.newest mac
  learnt_step mac false fresh = by (same_mac new.amac mac) refl
    where
      by : (b : Bool) → same_mac new.amac mac ≡ b →
          option_map registered_as (cond (b && true) (Some (learnt_as number new))
          (find (is_newest_of mac) (recalled (newest learnt new.amac) new.pmac number learnt.addresses)))
          ≡ option_and_then (if_in (first ∷ registry learnt)) (cond b (Some first) (find (λ r. same_mac r.amac mac) ns))
      by true own =
          sym (ap (λ b. cond {A = Option Registration} (option_map_or (λ (now : Registration). now.number == number) (cond b (Some first) (find (λ r. same_pmac r.pmac new.pmac) (registry learnt))) false) (Some first) None)
          (pmac_itself new.pmac)
          ∙ ap (λ b. cond {A = Option Registration} b (Some first) None) (eq-eqb number number refl))
      by false other = others_recalled learnt new.amac new.pmac number mac other once ∙ is.newest mac ∙ others_stand fresh mac

  newest_learnt : IsNewest (with_learnt learnt new) (λ mac. find (λ r. same_mac r.amac mac) (cond (is_some (registration learnt new.pmac)) [] (first ∷ []) ++ ns))
  newest_learnt = record {
    newest = λ mac.
        let c : Bool = is_registered learnt.addresses new.pmac in
        learnt_step mac c refl
        ∙ ap (λ rs. option_and_then (if_in rs) (find (λ r. same_mac r.amac mac) (cond c [] (first ∷ []) ++ ns))) (sym (registry_after learnt new))
        ∙ ap (λ b. option_and_then (if_in (registry (with_learnt learnt new))) (find (λ r. same_mac r.amac mac) (cond b [] (first ∷ []) ++ ns)))
        (sym (found_any (λ (r : Registration). same_pmac r.pmac new.pmac) (registry learnt)));
    alone = alone_after learnt new is.alone;
  }

-- ---- the newest address of a host is the last of it that was given a number, unless that was released
module _ (k : ℕ) where
  numbers_below : (words : List Word) → AllByRecursion (λ (r : Registration). r.number ≤ (known k words).learnt.count) (numbered k words)
  unfolding manager_hears
  numbers_below [] = tt
  numbers_below (w ∷ before) = by (numbers_below before) w.says
    where
      learnt : Learnt
      learnt = (known k before).learnt

      are_below : ℕ → List Registration → Type 0
      are_below n rs = AllByRecursion (λ (r : Registration). r.number ≤ n) rs

      by : are_below learnt.count (numbered k before) → (says : ToManager) →
          are_below (view_after (known k before) w.switch says).learnt.count (numbered_by_word learnt w.switch says ++ numbered k before)
      by all tell.PodWanted = all
      by all (tell.Place place) = all
      by all (tell.Link u usable) = all
      by all (tell.Begin epoch) = all
      by all (tell.End epoch) = all
      by all (tell.Trapped trapped toward numbered) = all
      by all (tell.Query asker asker_ip ip) = all
      by all (tell.Members group any) = all
      by all (tell.Aged x n) = subst (λ m. are_below m (numbered k before)) (sym (aged_count learnt x n)) all
      by all (tell.Learned pmac amac ip) =
          let first : Registration = record { pmac = pmac; amac = amac; number = learnt.count + 1; switch = w.switch } in
          subst (λ b. are_below (cond b learnt.count (learnt.count + 1)) (cond (is_some (registration learnt pmac)) [] (first ∷ []) ++ numbered k before))
          (found_any (λ (r : Registration). same_pmac r.pmac pmac) (registry learnt)) (step (is_some (registration learnt pmac)) first refl)
        where
          step : (b : Bool) (r : Registration) → r.number ≡ learnt.count + 1 → are_below (cond b learnt.count (learnt.count + 1)) (cond b [] (r ∷ []) ++ numbered k before)
          step true r is = all
          step false r is = (omega (arith, is), all_below (λ (q : Registration). q.number) learnt.count (learnt.count + 1) (numbered k before) (omega arith) all)

  newest_holds : (words : List Word) → IsNewest (known k words).learnt (λ mac. find (λ r. same_mac r.amac mac) (numbered k words))
  unfolding manager_hears
  newest_holds [] = record { newest = λ mac. refl; alone = λ mac. tt }
  newest_holds (w ∷ before) = by (newest_holds before) w.says
    where
      learnt : Learnt
      learnt = (known k before).learnt

      last : Mac → Option Registration
      last mac = find (λ r. same_mac r.amac mac) (numbered k before)

      by : IsNewest learnt last → (says : ToManager) →
          IsNewest (view_after (known k before) w.switch says).learnt (λ mac. find (λ r. same_mac r.amac mac) (numbered_by_word learnt w.switch says ++ numbered k before))
      by rest tell.PodWanted = rest
      by rest (tell.Place place) = rest
      by rest (tell.Link u usable) = rest
      by rest (tell.Begin epoch) = rest
      by rest (tell.End epoch) = rest
      by rest (tell.Trapped trapped toward numbered) = rest
      by rest (tell.Query asker asker_ip ip) = rest
      by rest (tell.Members group any) = rest
      by rest (tell.Aged x n) = aged_keeps (λ l. IsNewest l last) (λ l y is. newest_ages l y last is) (λ l y is. newest_goes l y last is) learnt x n rest
      by rest (tell.Learned pmac amac ip) =
          newest_learnt learnt (record { switch = w.switch; pmac = pmac; amac = amac; ip = ip }) (numbered k before) (reached_in_order k before).addresses (numbers_below before) rest

pub newest_is_last : (k : ℕ) (words : List Word) (amac : Mac) →
    newest (known k words).learnt amac ≡ option_and_then (if_still (known k words).learnt) (find (λ r. same_mac r.amac amac) (numbered k words))
newest_is_last k words amac = (newest_holds k words).newest amac

pub each_alone : (k : ℕ) (words : List Word) (mac : Mac) → AreAlone mac (known k words).learnt.addresses
each_alone k words mac = (newest_holds k words).alone mac
