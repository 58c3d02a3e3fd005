-- Which addresses a word releases: none but that an address has aged releases any, and what is released is registered no more.
use Rattle.std.proofs.Common.{◌≡◌, ℕ, ◌+◌, ◌&&◌, ◌||◌, not, Bool, true, false, cond, List, [], ◌∷◌, ◌++◌, map, Option, Some, None, is_some, filter, refl, sym, ap, ◌∙◌}
use Rattle.std.specs.List.{find, flat_map, list_any}
use Rattle.std.specs.Option.{option_and_then, option_map}
use Rattle.std.proofs.lemmas.Bool.{cond_both}
use Rattle.pl_frame.specs.declared.address.Ip4.{Ip4}
use Rattle.pl_frame.specs.declared.address.SwitchId.{SwitchId}
use Rattle.pl_pmac.specs.declared.pmac.Pmac.{Pmac}
use Rattle.pl_layouts.specs.Equality.{same_pmac}
use Rattle.pl_layouts.proofs.Exports.{pmac_is}
use Rattle.pl_node.specs.declared.acts.ManagerAct.{ManagerAct}
use Rattle.pl_node.specs.declared.acts.ManagerAct.TheVariants.{Number, Say}
use Rattle.pl_node.specs.declared.messages.ToManager.{ToManager}
use Rattle.pl_node.specs.declared.messages.ToManager.TheVariants as tell
use Rattle.pl_node.specs.declared.messages.ToSwitch.{ToSwitch}
use Rattle.pl_node.specs.declared.messages.ToSwitch.TheVariants as say
use Rattle.pl_node.specs.ManagerFacts.{groups}
use Rattle.pl_node.specs.AvoidLists.{avoid_list}
use Rattle.pl_node.specs.ManagerViews.{Learnt, LearntAddress, ManagerView, Recall, Registration, ip_of, lookup, newest, recall_of, registered_as, registration, registry}
use Rattle.pl_manager_rule.specs.Histories.{releases_address}
use Rattle.pl_manager_rule.specs.ManagerRule.{LearntStep, acts_of, ages_now, answer_to, avoid_acts, can_release, changed, changed_of_group, counts, forgets, hears_aged, invalidation, nothing_said, part_in, releases, releases_as, releases_both, releases_led, reply, tree_acts, tree_acts_of, with_aged}
use Rattle.pl_manager_rule.proofs.Aging.{find_gone, find_kept}
use Rattle.pl_manager_rule.proofs.Learning.{find_mapped, same_field}
use Rattle.pl_manager_rule.proofs.Registered.{pmac_turned}

-- ---- lists
module _ {X : Type 0} where
  any_before : (test : X → Bool) (xs ys : List X) → list_any test ys ≡ false → list_any test (xs ++ ys) ≡ list_any test xs
  any_before test [] ys none = none
  any_before test (x ∷ xs) ys none = ap (λ b. test x || b) (any_before test xs ys none)

  pub found_any : (test : X → Bool) (xs : List X) → is_some (find test xs) ≡ list_any test xs
  found_any test [] = refl
  found_any test (x ∷ xs) = by (test x) (found_any test xs)
    where
      by : (b : Bool) → is_some (find test xs) ≡ list_any test xs → is_some (cond b (Some x) (find test xs)) ≡ (b || list_any test xs)
      by true rest = refl
      by false rest = rest

  pub filter_alike : (p q : X → Bool) → ((x : X) → p x ≡ q x) → (xs : List X) → filter p xs ≡ filter q xs
  filter_alike p q same [] = refl
  filter_alike p q same (x ∷ xs) = ap (λ b. cond b (x ∷ filter p xs) (filter p xs)) (same x) ∙ ap (λ ys. cond (q x) (x ∷ ys) ys) (filter_alike p q same xs)

  pub filter_all : (p : X → Bool) → ((x : X) → p x ≡ true) → (xs : List X) → filter p xs ≡ xs
  filter_all p all [] = refl
  filter_all p all (x ∷ xs) = ap (λ b. cond b (x ∷ filter p xs) (filter p xs)) (all x) ∙ ap (λ ys. x ∷ ys) (filter_all p all xs)

  filter_twice : (p q : X → Bool) (xs : List X) → filter q (filter p xs) ≡ filter (λ x. p x && q x) xs
  filter_twice p q [] = refl
  filter_twice p q (x ∷ xs) = by (p x) (filter_twice p q xs)
    where
      by : (b : Bool) → filter q (filter p xs) ≡ filter (λ y. p y && q y) xs →
          filter q (cond b (x ∷ filter p xs) (filter p xs)) ≡ cond (b && q x) (x ∷ filter (λ y. p y && q y) xs) (filter (λ y. p y && q y) xs)
      by true rest = ap (λ ys. cond (q x) (x ∷ ys) ys) rest
      by false rest = rest

  not_any_both : (test : X → Bool) (xs ys : List X) → (not (list_any test xs) && not (list_any test ys)) ≡ not (list_any test (xs ++ ys))
  not_any_both test [] ys = refl
  not_any_both test (x ∷ xs) ys = by (test x) (not_any_both test xs ys)
    where
      by : (b : Bool) → (not (list_any test xs) && not (list_any test ys)) ≡ not (list_any test (xs ++ ys)) →
          (not (b || list_any test xs) && not (list_any test ys)) ≡ not (b || list_any test (xs ++ ys))
      by true rest = refl
      by false rest = rest

  any_both : (test : X → Bool) (xs ys : List X) → list_any test (xs ++ ys) ≡ (list_any test xs || list_any test ys)
  any_both test [] ys = refl
  any_both test (x ∷ xs) ys = by (test x) (any_both test xs ys)
    where
      by : (b : Bool) → list_any test (xs ++ ys) ≡ (list_any test xs || list_any test ys) → (b || list_any test (xs ++ ys)) ≡ ((b || list_any test xs) || list_any test ys)
      by true rest = refl
      by false rest = rest

map_filter : {X Y : Type 0} (f : X → Y) (p : X → Bool) (q : Y → Bool) → ((x : X) → p x ≡ q (f x)) → (xs : List X) → map f (filter p xs) ≡ filter q (map f xs)
map_filter f p q same [] = refl
map_filter f p q same (x ∷ xs) =
    ap (λ b. map f (cond b (x ∷ filter p xs) (filter p xs))) (same x) ∙ by (q (f x)) (map_filter f p q same xs)
  where
    by : (b : Bool) → map f (filter p xs) ≡ filter q (map f xs) → map f (cond b (x ∷ filter p xs) (filter p xs)) ≡ cond b (f x ∷ filter q (map f xs)) (filter q (map f xs))
    by true rest = ap (λ ys. f x ∷ ys) rest
    by false rest = rest

-- ---- the acts of a word: its own answer alone may release
said_none : (x : Pmac) (f : SwitchId → ToSwitch) → ((t : SwitchId) → releases_address x (Say t (f t)) ≡ false) → (ss : List SwitchId) →
    list_any (releases_address x) (map (λ t. Say t (f t)) ss) ≡ false
said_none x f each [] = refl
said_none x f each (t ∷ ss) = ap (λ b. b || list_any (releases_address x) (map (λ u. Say u (f u)) ss)) (each t) ∙ said_none x f each ss

module _ (before after : ManagerView) (x : Pmac) where
  avoid_none : list_any (releases_address x) (avoid_acts before.told after.told) ≡ false
  avoid_none = said_none x (λ t. say.Avoid (avoid_list after.told t)) (λ t. refl) (changed before.told after.told)

  trees_none_of : (gs : List ℕ) → list_any (releases_address x) (flat_map (tree_acts_of before after) gs) ≡ false
  trees_none_of [] = refl
  trees_none_of (g ∷ gs) =
      any_before (releases_address x) (tree_acts_of before after g) (flat_map (tree_acts_of before after) gs) (trees_none_of gs)
      ∙ said_none x (λ t. say.Tree g (part_in after g t)) (λ t. refl) (changed_of_group before after g)

  pub released_reply : (s : SwitchId) (says : ToManager) → list_any (releases_address x) (acts_of before after s says) ≡ list_any (releases_address x) (reply before after s says)
  released_reply s says =
      let own : List ManagerAct = reply before after s says in
      let avoid : List ManagerAct = avoid_acts before.told after.told in
      any_before (releases_address x) (own ++ avoid) (tree_acts before after) (trees_none_of (groups after.members))
      ∙ any_before (releases_address x) own avoid avoid_none

  invalidation_none : (learnt : Learnt) (new : Pmac) (n : ℕ) (o : Option Registration) → list_any (releases_address x) (invalidation learnt new n o) ≡ false
  invalidation_none learnt new n None = refl
  invalidation_none learnt new n (Some old) = refl

  answer_none : (s : SwitchId) (asker : Pmac) (asker_ip ip : Ip4) (o : Option Pmac) →
      list_any (releases_address x) (Say s (answer_to asker asker_ip ip o) ∷ []) ≡ false
  answer_none s asker asker_ip ip None = refl
  answer_none s asker asker_ip ip (Some pmac) = refl

  pub reply_releases_none : (s : SwitchId) (says : ToManager) → ((pmac : Pmac) (n : ℕ) → says ≡ tell.Aged pmac n → ⊥) →
      list_any (releases_address x) (reply before after s says) ≡ false
  reply_releases_none s tell.PodWanted other = refl
  reply_releases_none s (tell.Place place) other = refl
  reply_releases_none s (tell.Link u usable) other = refl
  reply_releases_none s (tell.Learned pmac amac ip) other =
      let n = before.learnt.count + 1 in
      cond_both (list_any (λ r. same_pmac r.pmac pmac) (registry before.learnt)) [] (Number pmac n ∷ invalidation after.learnt pmac n (newest before.learnt amac))
      (λ acts. list_any (releases_address x) acts ≡ false) (λ again. refl) (λ fresh. invalidation_none after.learnt pmac n (newest before.learnt amac))
  reply_releases_none s (tell.Aged pmac n) other = absurd (other pmac n refl)
  reply_releases_none s (tell.Begin epoch) other = refl
  reply_releases_none s (tell.End epoch) other = refl
  reply_releases_none s (tell.Trapped trapped toward numbered) other = refl
  reply_releases_none s (tell.Query asker asker_ip ip) other = answer_none s asker asker_ip ip (lookup after.learnt ip)
  reply_releases_none s (tell.Members group any) other = refl

-- ---- what is left registered
abbrev stays : List ManagerAct → Registration → Bool
stays acts r = not (list_any (releases_address r.pmac) acts)

abbrev LeavesRegistered : Learnt → LearntStep → Type 0
LeavesRegistered l step = registry step.learnt ≡ filter (stays step.acts) (registry l)

nothing_leaves : (l : Learnt) → LeavesRegistered l (nothing_said l)
nothing_leaves l = sym (filter_all (stays []) (λ r. refl) (registry l))

forgets_leaves : (x : Pmac) (l : Learnt) (o : Option Registration) → LeavesRegistered l (releases_as x l o)
forgets_leaves x l None = nothing_leaves l
forgets_leaves x l (Some reg) =
    map_filter registered_as (λ (a : LearntAddress). not (same_pmac a.pmac x)) (stays (Say reg.switch (say.Release x) ∷ [])) (λ a. alike a.pmac) l.addresses
  where
    or_none : (b : Bool) → b ≡ (b || false)
    or_none true = refl
    or_none false = refl

    alike : (y : Pmac) → not (same_pmac y x) ≡ not (same_pmac x y || false)
    alike y = ap not (pmac_turned y x ∙ or_none (same_pmac x y))

releases_leave : (x : Pmac) (l : Learnt) → LeavesRegistered l (releases x l)
releases_leave x l =
    cond_both (can_release l x) (releases_as x l (registration l x)) (nothing_said l) (LeavesRegistered l) (λ can. forgets_leaves x l (registration l x)) (λ cannot. nothing_leaves l)

led_leaves : (o : Option Recall) (l : Learnt) → LeavesRegistered l (releases_led o l)
led_leaves None l = nothing_leaves l
led_leaves (Some recall) l = releases_leave recall.new l

pub aged_registry : (learnt : Learnt) (x : Pmac) (n : ℕ) → LeavesRegistered learnt (hears_aged learnt x n)
aged_registry learnt x n =
    cond_both (counts learnt x n) (releases_both x (recall_of learnt x) (with_aged learnt x)) (nothing_said learnt) (LeavesRegistered learnt)
    (λ yes. both) (λ no_more. nothing_leaves learnt)
  where
    both : LeavesRegistered learnt (releases_both x (recall_of learnt x) (with_aged learnt x))
    both =
        let aged : Learnt = with_aged learnt x in
        let own : LearntStep = releases x aged in
        let led : LearntStep = releases_led (recall_of learnt x) own.learnt in
        led_leaves (recall_of learnt x) own.learnt
        ∙ ap (filter (stays led.acts)) (releases_leave x aged)
        ∙ filter_twice (stays own.acts) (stays led.acts) (registry aged)
        ∙ filter_alike (λ r. stays own.acts r && stays led.acts r) (stays (own.acts ++ led.acts)) (λ r. not_any_both (releases_address r.pmac) own.acts led.acts) (registry aged)
        ∙ ap (filter (stays (own.acts ++ led.acts))) (same_field registered_as (ages_now x) (λ a. refl) learnt.addresses)

-- ---- and which IPv4 addresses are left
abbrev LeavesIps : Pmac → Learnt → LearntStep → Type 0
LeavesIps y l step = ip_of step.learnt y ≡ cond (list_any (releases_address y) step.acts) None (ip_of l y)

module _ (y : Pmac) where
  forgets_ips : (x : Pmac) (l : Learnt) (o : Option Registration) → LeavesIps y l (releases_as x l o)
  forgets_ips x l None = refl
  forgets_ips x l (Some reg) = by (same_pmac x y) refl
    where
      by : (b : Bool) → same_pmac x y ≡ b → ip_of (forgets l x) y ≡ cond (b || false) None (ip_of l y)
      by true same =
          ap (option_and_then (λ (a : LearntAddress). a.ip))
          (find_gone (λ (a : LearntAddress). same_pmac a.pmac y) (λ a. not (same_pmac a.pmac x))
          (λ a is. ap not (ap (same_pmac a.pmac) (pmac_is x y same) ∙ is)) l.addresses)
      by false other =
          ap (option_and_then (λ (a : LearntAddress). a.ip))
          (find_kept (λ (a : LearntAddress). same_pmac a.pmac y) (λ a. not (same_pmac a.pmac x))
          (λ a is. ap not (ap (λ (z : Pmac). same_pmac z x) (pmac_is a.pmac y is) ∙ pmac_turned y x ∙ other)) l.addresses)

  releases_ips : (x : Pmac) (l : Learnt) → LeavesIps y l (releases x l)
  releases_ips x l =
      cond_both (can_release l x) (releases_as x l (registration l x)) (nothing_said l) (LeavesIps y l) (λ can. forgets_ips x l (registration l x)) (λ cannot. refl)

  led_ips : (o : Option Recall) (l : Learnt) → LeavesIps y l (releases_led o l)
  led_ips None l = refl
  led_ips (Some recall) l = releases_ips recall.new l

  same_ip : (learnt : Learnt) (x : Pmac) → ip_of (with_aged learnt x) y ≡ ip_of learnt y
  same_ip learnt x =
      ap (option_and_then (λ (a : LearntAddress). a.ip)) (find_mapped (λ (a : LearntAddress). same_pmac a.pmac y) (ages_now x) learnt.addresses)
      ∙ own (find (λ a. same_pmac a.pmac y) learnt.addresses)
    where
      own : (o : Option LearntAddress) → option_and_then (λ a. a.ip) (option_map (ages_now x) o) ≡ option_and_then (λ a. a.ip) o
      own None = refl
      own (Some a) = refl

  pub aged_ips : (learnt : Learnt) (x : Pmac) (n : ℕ) → LeavesIps y learnt (hears_aged learnt x n)
  aged_ips learnt x n =
      cond_both (counts learnt x n) (releases_both x (recall_of learnt x) (with_aged learnt x)) (nothing_said learnt) (LeavesIps y learnt)
      (λ yes. both) (λ no_more. refl)
    where
      merged : (a b : Bool) (v : Option Ip4) → cond b None (cond a None v) ≡ cond (a || b) None v
      merged true true v = refl
      merged true false v = refl
      merged false b v = refl

      both : LeavesIps y learnt (releases_both x (recall_of learnt x) (with_aged learnt x))
      both =
          let aged : Learnt = with_aged learnt x in
          let own : LearntStep = releases x aged in
          let led : LearntStep = releases_led (recall_of learnt x) own.learnt in
          let by_own : Bool = list_any (releases_address y) own.acts in
          let by_led : Bool = list_any (releases_address y) led.acts in
          led_ips (recall_of learnt x) own.learnt
          ∙ ap (cond by_led None) (releases_ips x aged)
          ∙ merged by_own by_led (ip_of aged y)
          ∙ ap (λ b. cond b None (ip_of aged y)) (sym (any_both (releases_address y) own.acts led.acts))
          ∙ ap (cond (list_any (releases_address y) (own.acts ++ led.acts)) None) (same_ip learnt x)
