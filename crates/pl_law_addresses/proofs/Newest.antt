-- The newest address of a host has the largest number.
use Rattle.std.proofs.Common.{◌≡◌, ◌≤◌, ◌+◌, ◌&&◌, ℕ, not, Bool, true, false, cond, List, [], ◌∷◌, filter, map, Option, Some, None, is_none, refl, sym, ap, subst, ◌∙◌, arith, le_refl}
use Rattle.std.specs.List.{AllByRecursion, find}
use Rattle.std.specs.Option.{option_map}
use Rattle.std.proofs.lemmas.Bool.{and_parts, cond_both, false≢true}
use Rattle.std.proofs.lemmas.Option.{none-some, same_Some}
use Rattle.pl_lemmas.proofs.Exports.{all_weaker}
use Rattle.pl_frame.specs.declared.address.Mac.{Mac}
use Rattle.pl_pmac.specs.declared.pmac.Pmac.{Pmac}
use Rattle.pl_layouts.specs.Equality.{same_mac, same_pmac}
use Rattle.pl_node.specs.declared.messages.ToManager.{ToManager}
use Rattle.pl_node.specs.declared.messages.ToManager.TheVariants as tell
use Rattle.pl_node.specs.ManagerViews.{Learnt, LearntAddress, Registration, is_newest_of, learnt_at, newest, registered_as, registration}
use Rattle.pl_manager_rule.specs.Histories.{Word, known}
use Rattle.pl_manager_rule.specs.ManagerRule.{ToldAddress, ages_now, is_registered, leads_on, learnt_as, manager_hears, recalled, told_again, view_after, with_learnt}
use Rattle.pl_manager_rule.proofs.Exports.{aged_keeps, each_alone, find_mapped, none_recalled}

-- of a list of addresses: the numbers fall, and behind an address of a host there is none of that host that leads to no newer one
abbrev AreFalling : List LearntAddress → Type 0
AreFalling [] = Unit {0}
AreFalling (a ∷ addresses) = AllByRecursion (λ b. b.number ≤ a.number) addresses × (find (is_newest_of a.amac) addresses ≡ None) × AreFalling addresses

-- none of them has a larger number than this
abbrev AreBelow : ℕ → List LearntAddress → Type 0
AreBelow n addresses = AllByRecursion (λ b. b.number ≤ n) addresses

record AreInOrder (learnt : Learnt) : Type 0 where
  falling : AreFalling learnt.addresses
  below : AreBelow learnt.count learnt.addresses

-- ---- a change that leaves hosts and numbers, and recalls where they are
record IsMild (f : LearntAddress → LearntAddress) : Type 0 where
  host : (a : LearntAddress) → (f a).amac ≡ a.amac
  number : (a : LearntAddress) → (f a).number ≡ a.number
  recalled : (a : LearntAddress) → is_none (f a).recall ≡ true → is_none a.recall ≡ true

module _ (f : LearntAddress → LearntAddress) (mild : IsMild f) where
  back : (mac : Mac) (a : LearntAddress) → is_newest_of mac (f a) ≡ true → is_newest_of mac a ≡ true
  back mac a is =
      let parts = and_parts (same_mac (f a).amac mac) (is_none (f a).recall) is in
      ap (λ b. b && is_none a.recall) (ap (λ m. same_mac m mac) (sym (mild.host a)) ∙ parts.0) ∙ mild.recalled a parts.1

  none_then : (mac : Mac) (addresses : List LearntAddress) → find (is_newest_of mac) addresses ≡ None → find (is_newest_of mac) (map f addresses) ≡ None
  none_then mac [] none = refl
  none_then mac (a ∷ addresses) none = by (λ j. none_then mac addresses j) (is_newest_of mac a) refl (is_newest_of mac (f a)) refl none
    where
      by : (find (is_newest_of mac) addresses ≡ None → find (is_newest_of mac) (map f addresses) ≡ None) → (b : Bool) → is_newest_of mac a ≡ b → (c : Bool) → is_newest_of mac (f a) ≡ c →
          cond b (Some a) (find (is_newest_of mac) addresses) ≡ None → cond c (Some (f a)) (find (is_newest_of mac) (map f addresses)) ≡ None
      by rest true is c passes j = absurd (none-some a (sym j))
      by rest false is true passes j = absurd (false≢true (sym is ∙ back mac a passes))
      by rest false is false passes j = rest j

  below_then : (n : ℕ) (addresses : List LearntAddress) → AreBelow n addresses → AreBelow n (map f addresses)
  below_then n [] all = tt
  below_then n (a ∷ addresses) all = (subst (λ m. m ≤ n) (sym (mild.number a)) all.0, below_then n addresses all.1)

  falling_then : (addresses : List LearntAddress) → AreFalling addresses → AreFalling (map f addresses)
  falling_then [] all = tt
  falling_then (a ∷ addresses) all = (
    subst (λ n. AreBelow n (map f addresses)) (sym (mild.number a)) (below_then a.number addresses all.0),
    subst (λ (m : Mac). find (is_newest_of m) (map f addresses) ≡ None) (sym (mild.host a)) (none_then a.amac addresses all.1),
    falling_then addresses all.2,
  )

-- ---- some are left out
none_left : (mac : Mac) (q : LearntAddress → Bool) (addresses : List LearntAddress) → find (is_newest_of mac) addresses ≡ None → find (is_newest_of mac) (filter q addresses) ≡ None
none_left mac q [] none = refl
none_left mac q (a ∷ addresses) none = by (λ j. none_left mac q addresses j) (is_newest_of mac a) refl (q a) none
  where
    by : (find (is_newest_of mac) addresses ≡ None → find (is_newest_of mac) (filter q addresses) ≡ None) → (b : Bool) → is_newest_of mac a ≡ b → (c : Bool) →
        cond b (Some a) (find (is_newest_of mac) addresses) ≡ None → find (is_newest_of mac) (cond c (a ∷ filter q addresses) (filter q addresses)) ≡ None
    by rest true is c j = absurd (none-some a (sym j))
    by rest false is true j = ap (λ b. cond b (Some a) (find (is_newest_of mac) (filter q addresses))) is ∙ rest j
    by rest false is false j = rest j

below_left : (n : ℕ) (q : LearntAddress → Bool) (addresses : List LearntAddress) → AreBelow n addresses → AreBelow n (filter q addresses)
below_left n q [] all = tt
below_left n q (a ∷ addresses) all =
    cond_both (q a) (a ∷ filter q addresses) (filter q addresses) (AreBelow n) (λ kept. (all.0, below_left n q addresses all.1)) (λ gone. below_left n q addresses all.1)

falling_left : (q : LearntAddress → Bool) (addresses : List LearntAddress) → AreFalling addresses → AreFalling (filter q addresses)
falling_left q [] all = tt
falling_left q (a ∷ addresses) all =
    cond_both (q a) (a ∷ filter q addresses) (filter q addresses) AreFalling
    (λ kept. (below_left a.number q addresses all.0, none_left a.amac q addresses all.1, falling_left q addresses all.2)) (λ gone. falling_left q addresses all.2)

-- ---- whatever was told
mild_again : (new : ToldAddress) → IsMild (told_again new)
mild_again new = record { host = λ a. refl; number = λ a. refl; recalled = λ a is. is }

mild_ages : (x : Pmac) → IsMild (ages_now x)
mild_ages x = record { host = λ a. refl; number = λ a. refl; recalled = λ a is. is }

mild_leads : (old new : Pmac) (number : ℕ) → IsMild (leads_on old new number)
mild_leads old new number = record { host = λ a. refl; number = λ a. refl; recalled = λ a is. by a (same_pmac a.pmac old) is }
  where
    by : (a : LearntAddress) (b : Bool) → is_none (cond b (Some (record { new = new; number = number })) a.recall) ≡ true → is_none a.recall ≡ true
    by a true is = absurd (false≢true is)
    by a false is = is

recalled_falling : (o : Option Registration) (new : Pmac) (number : ℕ) (addresses : List LearntAddress) → AreFalling addresses → AreFalling (recalled o new number addresses)
recalled_falling None new number addresses all = all
recalled_falling (Some old) new number addresses all = falling_then (leads_on old.pmac new number) (mild_leads old.pmac new number) addresses all

recalled_below : (n : ℕ) (o : Option Registration) (new : Pmac) (number : ℕ) (addresses : List LearntAddress) → AreBelow n addresses → AreBelow n (recalled o new number addresses)
recalled_below n None new number addresses all = all
recalled_below n (Some old) new number addresses all = below_then (leads_on old.pmac new number) (mild_leads old.pmac new number) n addresses all

more_below : (n : ℕ) (addresses : List LearntAddress) → AreBelow n addresses → AreBelow (n + 1) addresses
more_below n addresses all = all_weaker (λ b. b.number ≤ n) (λ b. b.number ≤ n + 1) (λ b few. omega (arith, few)) addresses all

learnt_in_order : (k : ℕ) (words : List Word) (new : ToldAddress) → AreInOrder (known k words).learnt → AreInOrder (with_learnt (known k words).learnt new)
learnt_in_order k words new all = by (is_registered (known k words).learnt.addresses new.pmac)
  where
    by : (b : Bool) → AreInOrder (record (known k words).learnt {
      addresses = cond b (map (told_again new) (known k words).learnt.addresses)
          (learnt_as ((known k words).learnt.count + 1) new
          ∷ recalled (newest (known k words).learnt new.amac) new.pmac ((known k words).learnt.count + 1) (known k words).learnt.addresses);
      owners = (with_learnt (known k words).learnt new).owners;
      count = cond b (known k words).learnt.count ((known k words).learnt.count + 1);
    })
    by true = record {
      falling = falling_then (told_again new) (mild_again new) (known k words).learnt.addresses all.falling;
      below = below_then (told_again new) (mild_again new) (known k words).learnt.count (known k words).learnt.addresses all.below;
    }
    by false =
        let count = (known k words).learnt.count in
        let o = newest (known k words).learnt new.amac in
        let below = recalled_below (count + 1) o new.pmac (count + 1) (known k words).learnt.addresses (more_below count (known k words).learnt.addresses all.below) in
        record {
          falling = (
            below,
            none_recalled (known k words).learnt new.amac new.pmac (count + 1) (each_alone k words new.amac),
            recalled_falling o new.pmac (count + 1) (known k words).learnt.addresses all.falling,
          );
          below = (le_refl (count + 1), below);
        }

all_in_order : (k : ℕ) (words : List Word) → AreInOrder (known k words).learnt
unfolding manager_hears
all_in_order k [] = record { falling = tt; below = tt }
all_in_order k (w ∷ before) = by (all_in_order k before) w.says
  where
    by : AreInOrder (known k before).learnt → (says : ToManager) → AreInOrder (view_after (known k before) w.switch says).learnt
    by all (tell.Learned pmac amac ip) = learnt_in_order k before (record { switch = w.switch; pmac = pmac; amac = amac; ip = ip }) all
    by all (tell.Aged pmac number) =
        aged_keeps AreInOrder
        (λ l x is. record { falling = falling_then (ages_now x) (mild_ages x) l.addresses is.falling; below = below_then (ages_now x) (mild_ages x) l.count l.addresses is.below })
        (λ l x is. record {
          falling = falling_left (λ a. not (same_pmac a.pmac x)) l.addresses is.falling;
          below = below_left l.count (λ a. not (same_pmac a.pmac x)) l.addresses is.below;
        }) (known k before).learnt pmac number all
    by all tell.PodWanted = all
    by all (tell.Place place) = all
    by all (tell.Link u usable) = all
    by all (tell.Begin epoch) = all
    by all (tell.End epoch) = all
    by all (tell.Trapped trapped toward numbered) = all
    by all (tell.Query asker asker_ip ip) = all
    by all (tell.Members group any) = all

-- ---- what is found
found_below : (n : ℕ) (test : LearntAddress → Bool) (addresses : List LearntAddress) (a : LearntAddress) → AreBelow n addresses → find test addresses ≡ Some a → a.number ≤ n
found_below n test [] a all is = absurd (none-some a is)
found_below n test (b ∷ addresses) a all is = by (λ h. found_below n test addresses a all.1 h) (test b) is
  where
    by : (find test addresses ≡ Some a → a.number ≤ n) → (c : Bool) → cond c (Some b) (find test addresses) ≡ Some a → a.number ≤ n
    by rest true at = subst (λ (q : LearntAddress). q.number ≤ n) (same_Some b a at) all.0
    by rest false at = rest at

largest : (x : Pmac) (addresses : List LearntAddress) (a first : LearntAddress) → AreFalling addresses → find (λ b. same_pmac b.pmac x) addresses ≡ Some a →
    find (is_newest_of a.amac) addresses ≡ Some first → a.number ≤ first.number
largest x [] a first all is one = absurd (none-some a is)
largest x (b ∷ addresses) a first all is one = by (λ h k. largest x addresses a first all.2 h k) (same_pmac b.pmac x) (is_newest_of a.amac b) is one
  where
    by : (find (λ q. same_pmac q.pmac x) addresses ≡ Some a → find (is_newest_of a.amac) addresses ≡ Some first → a.number ≤ first.number) → (c d : Bool) → cond c (Some b) (find (λ q. same_pmac q.pmac x) addresses) ≡ Some a → cond d (Some b) (find (is_newest_of a.amac) addresses) ≡ Some first →
        a.number ≤ first.number
    by rest true true at top = subst (λ (q : LearntAddress). a.number ≤ q.number) (same_Some b first top) (subst (λ (q : LearntAddress). a.number ≤ q.number) (sym (same_Some b a at)) (le_refl a.number))
    by rest true false at top =
        let none : find (is_newest_of a.amac) addresses ≡ None = subst (λ (q : LearntAddress). find (is_newest_of q.amac) addresses ≡ None) (same_Some b a at) all.1 in
        absurd (none-some first (sym none ∙ top))
    by rest false true at top =
        subst (λ (q : LearntAddress). a.number ≤ q.number) (same_Some b first top) (found_below b.number (λ q. same_pmac q.pmac x) addresses a all.0 at)
    by rest false false at top = rest at top

pub newest_is_largest : (k : ℕ) (words : List Word) (x : Pmac) (reg first : Registration) → registration (known k words).learnt x ≡ Some reg →
    newest (known k words).learnt reg.amac ≡ Some first → reg.number ≤ first.number
newest_is_largest k words x reg first is one =
    by (learnt_at (known k words).learnt x) refl
    (sym (find_mapped (λ (r : Registration). same_pmac r.pmac x) registered_as (known k words).learnt.addresses) ∙ is)
    (find (is_newest_of reg.amac) (known k words).learnt.addresses) refl one
  where
    by : (o : Option LearntAddress) → learnt_at (known k words).learnt x ≡ o → option_map registered_as o ≡ Some reg → (p : Option LearntAddress) →
        find (is_newest_of reg.amac) (known k words).learnt.addresses ≡ p → option_map registered_as p ≡ Some first → reg.number ≤ first.number
    by None found same p newest_found top = absurd (none-some reg same)
    by (Some a) found same None newest_found top = absurd (none-some first top)
    by (Some a) found same (Some c) newest_found top =
        let it : registered_as a ≡ reg = same_Some (registered_as a) reg same in
        let host : reg.amac ≡ a.amac = sym (ap (λ (r : Registration). r.amac) it) in
        let low : a.number ≤ c.number =
        largest x (known k words).learnt.addresses a c (all_in_order k words).falling found (ap (λ m. find (is_newest_of m) (known k words).learnt.addresses) (sym host) ∙ newest_found) in
        let mine : reg.number ≡ a.number = sym (ap (λ (r : Registration). r.number) it) in
        let its : c.number ≡ first.number = ap (λ (r : Registration). r.number) (same_Some (registered_as c) first top) in
        omega (arith, low, mine, its)
