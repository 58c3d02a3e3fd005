-- What the fabric manager knows is what was told last.
use Rattle.std.proofs.Common.{◌≡◌, ℕ, ◌+◌, ◌==◌, ◌&&◌, ◌||◌, Bool, true, false, cond, not, List, [], ◌∷◌, ◌++◌, filter, length, map, reverse, Option, Some, None, is_some, arith, Ordering, Less, Equal, Greater, refl, sym, ap, ◌∙◌, subst}
use Rattle.std.specs.List.{find, list_any, range_with_len}
use Rattle.std.specs.Option.{option_and_then, option_map, option_or}
use Rattle.std.specs.BTreeMap.{insert_entry}
use Rattle.std.specs.Cmp.{Equal-is, IsTotalOrder}
use Rattle.std.specs.Ordering.{is_eq, match_ordering}
use Rattle.std.proofs.lemmas.Bool.{and_from, and_parts, cond_both, eq-eqb, eqb-true, false≢true}
use Rattle.std.proofs.lemmas.Cmp.{tied_itself}
use Rattle.std.proofs.lemmas.Map.Lookups.{CmpEqualImpliesEq}
use Rattle.pl_lemmas.proofs.Exports.{cond_and, false_before, same_truth}
use Rattle.pl_frame.specs.declared.address.Ip4.{Ip4}
use Rattle.pl_frame.specs.declared.address.SwitchId.{SwitchId}
use Rattle.pl_pmac.specs.declared.pmac.Pmac.{Pmac}
use Rattle.pl_layouts.specs.Equality.{same_pmac, same_switch}
use Rattle.pl_layouts.proofs.Exports.{pmac_is, switch_itself}
use Rattle.pl_node.specs.declared.messages.ToManager.{ToManager}
use Rattle.pl_node.specs.declared.messages.ToManager.TheVariants as tell
use Rattle.pl_node.specs.HostViews.{ip_cmp}
use Rattle.pl_node.specs.ManagerViews.{Learnt, LearntAddress, ManagerView, Registration, id_cmp, ip_of, link_cmp, members_cmp, newest, owner, registered_as, registration, registry, value_at}
use Rattle.pl_node.proofs.Exports.{id_total}
use Rattle.pl_manager_rule.specs.ManagerRule.{ToldAddress, hears_aged, host_of, is_registered, leads_on, learnt_as, manager_hears, recalled, told_again, view_after, with_address}
use Rattle.pl_manager_rule.specs.Histories.{Word, ip_said, ip_since, is_released_by, known, link_said, members_said, numbered, numbered_by_word, owner_said, owner_told, place_said, pods_after, pods_asked, registered, releases_address, said_by, said_last}
use Rattle.pl_manager_rule.proofs.Aging.{aged_count, aged_owners}
use Rattle.pl_manager_rule.proofs.Avoided.{same_is}
use Rattle.pl_node.proofs.Exports.{id_exact}
use Rattle.pl_manager_rule.proofs.Kept.{ip_exact, ip_total, link_exact, link_total, members_exact, members_total}
use Rattle.pl_manager_rule.proofs.Registered.{one_more_item}
use Rattle.pl_manager_rule.proofs.Releases.{aged_ips, aged_registry, filter_alike, filter_all, found_any, released_reply, reply_releases_none}
use Rattle.pl_manager_rule.proofs.Learning.{any_registered, find_mapped, found_nowhere, registry_after}

-- ---- two tests that hold of the same

is_key : {K : Type 0} (R : K → K → Ordering) → IsTotalOrder R → CmpEqualImpliesEq R → (q k : K) (b : Bool) → (b ≡ true → q ≡ k) →
    (q ≡ k → b ≡ true) → is_eq (R q k) ≡ b
is_key R o exact q k b f g =
    same_truth (is_eq (R q k)) b (λ h. g (exact q k ((Equal-is (R q k)).0 h)))
    (λ h. ap (λ x. is_eq (R q x)) (sym (f h)) ∙ ap is_eq (tied_itself o q))

-- ---- a table with one more word
module _ {K X : Type 0} (R : K → K → Ordering) (o : IsTotalOrder R) (exact : CmpEqualImpliesEq R) where
  pub value_after : (es : List (K × X)) (k q : K) (v : X) → value_at R (insert_entry R es k v) q ≡ cond (is_eq (R q k)) (Some v) (value_at R es q)
  value_after [] k q v = refl
  value_after (e ∷ es) k q v = by (value_after es k q v) (R k e.0) refl
    where
      -- two keys in the table are not the same
      skips : R k e.0 ≡ Greater → cond (is_eq (R q e.0)) (Some e.1) (cond (is_eq (R q k)) (Some v) (value_at R es q))
          ≡ cond (is_eq (R q k)) (Some v) (cond (is_eq (R q e.0)) (Some e.1) (value_at R es q))
      skips is = swap (is_eq (R q e.0)) (is_eq (R q k)) refl refl
        where
          swap : (a b : Bool) → is_eq (R q e.0) ≡ a → is_eq (R q k) ≡ b → cond a (Some e.1) (cond b (Some v) (value_at R es q))
              ≡ cond b (Some v) (cond a (Some e.1) (value_at R es q))
          swap true true here there =
              let one = exact q e.0 ((Equal-is (R q e.0)).0 here) in let two = exact q k ((Equal-is (R q k)).0 there) in
              let same : R k e.0 ≡ Equal = ap (R k) (sym one ∙ two) ∙ tied_itself o k in absurd (cc)
          swap true false here there = refl
          swap false true here there = refl
          swap false false here there = refl

      by : value_at R (insert_entry R es k v) q ≡ cond (is_eq (R q k)) (Some v) (value_at R es q) → (r : Ordering) → R k e.0 ≡ r →
          value_at R (match_ordering r ((k, v) ∷ e ∷ es) ((e.0, v) ∷ es) (e ∷ insert_entry R es k v)) q
          ≡ cond (is_eq (R q k)) (Some v) (cond (is_eq (R q e.0)) (Some e.1) (value_at R es q))
      by rest Less is = refl
      by rest Equal is =
          let same = exact k e.0 is in
          ap (λ x. cond (is_eq (R q x)) (Some v) (value_at R es q)) (sym same)
          ∙ over (is_eq (R q k)) (is_eq (R q e.0)) (ap (λ x. is_eq (R q x)) same)
        where
          over : (a b : Bool) → a ≡ b → cond a (Some v) (value_at R es q) ≡ cond a (Some v) (cond b (Some e.1) (value_at R es q))
          over true b e = refl
          over false true e = absurd (false≢true e)
          over false false e = refl
      by rest Greater is = ap (λ w. cond (is_eq (R q e.0)) (Some e.1) w) rest ∙ skips is

  -- as what is said of the key that is asked for
  pub word_after : (es : List (K × X)) (k q : K) (v : X) (b : Bool) → (b ≡ true → q ≡ k) → (q ≡ k → b ≡ true) →
      value_at R (insert_entry R es k v) q ≡ option_or (cond b (Some v) None) (value_at R es q)
  word_after es k q v b f g =
      value_after es k q v ∙ ap (λ c. cond c (Some v) (value_at R es q)) (is_key R o exact q k b f g) ∙ either b
    where
      either : (c : Bool) → cond c (Some v) (value_at R es q) ≡ option_or (cond c (Some v) None) (value_at R es q)
      either true = refl
      either false = refl

-- another word says nothing
silent : {X : Type 0} (b : Bool) (rest : Option X) → rest ≡ option_or (cond b None None) rest
silent true rest = refl
silent false rest = refl

-- ---- places, links and members
module _ (k : ℕ) where
  pub places_said : (words : List Word) (s : SwitchId) → value_at id_cmp (known k words).told.places s ≡ said_last (said_by s place_said) words
  unfolding manager_hears
  places_said [] s = refl
  places_said (w ∷ before) s = by w.says ∙ ap (option_or (said_by s place_said w)) (places_said before s)
    where
      by : (says : ToManager) → value_at id_cmp (view_after (known k before) w.switch says).told.places s
          ≡ option_or (cond (same_switch w.switch s) (place_said says) None) (value_at id_cmp (known k before).told.places s)
      by (tell.Place place) =
          word_after id_cmp id_total id_exact (known k before).told.places w.switch s place (same_switch w.switch s)
          (λ h. sym (same_is w.switch s h)) (λ e. subst (λ t. same_switch t s ≡ true) e (switch_itself s))
      by (tell.Link u usable) = silent (same_switch w.switch s) (value_at id_cmp (known k before).told.places s)
      by tell.PodWanted = silent (same_switch w.switch s) (value_at id_cmp (known k before).told.places s)
      by (tell.Learned pmac amac ip) = silent (same_switch w.switch s) (value_at id_cmp (known k before).told.places s)
      by (tell.Aged pmac number) = silent (same_switch w.switch s) (value_at id_cmp (known k before).told.places s)
      by (tell.Begin epoch) = silent (same_switch w.switch s) (value_at id_cmp (known k before).told.places s)
      by (tell.End epoch) = silent (same_switch w.switch s) (value_at id_cmp (known k before).told.places s)
      by (tell.Trapped trapped toward numbered) = silent (same_switch w.switch s) (value_at id_cmp (known k before).told.places s)
      by (tell.Query asker asker_ip ip) = silent (same_switch w.switch s) (value_at id_cmp (known k before).told.places s)
      by (tell.Members group any) = silent (same_switch w.switch s) (value_at id_cmp (known k before).told.places s)

  pub links_said : (words : List Word) (s u : SwitchId) → value_at link_cmp (known k words).told.links (s, u) ≡ said_last (said_by s (link_said u)) words
  unfolding manager_hears
  links_said [] s u = refl
  links_said (w ∷ before) s u = by w.says ∙ ap (option_or (said_by s (link_said u) w)) (links_said before s u)
    where
      by : (says : ToManager) → value_at link_cmp (view_after (known k before) w.switch says).told.links (s, u)
          ≡ option_or (cond (same_switch w.switch s) (link_said u says) None) (value_at link_cmp (known k before).told.links (s, u))
      by (tell.Link v usable) =
          word_after link_cmp link_total link_exact (known k before).told.links (w.switch, v) (s, u) usable (same_switch w.switch s && same_switch v u)
          (λ h. let two = and_parts (same_switch w.switch s) (same_switch v u) h in
          λ i. (sym (same_is w.switch s two.0) i, sym (same_is v u two.1) i))
          (λ e. and_from (same_switch w.switch s) (same_switch v u)
          (subst (λ t. same_switch t s ≡ true) (ap (λ (p : SwitchId × SwitchId). p.0) e) (switch_itself s))
          (subst (λ t. same_switch t u ≡ true) (ap (λ (p : SwitchId × SwitchId). p.1) e) (switch_itself u)))
          ∙ ap (λ x. option_or x (value_at link_cmp (known k before).told.links (s, u))) (cond_and (same_switch w.switch s) (same_switch v u) (Some usable))
      by (tell.Place place) = silent (same_switch w.switch s) (value_at link_cmp (known k before).told.links (s, u))
      by tell.PodWanted = silent (same_switch w.switch s) (value_at link_cmp (known k before).told.links (s, u))
      by (tell.Learned pmac amac ip) = silent (same_switch w.switch s) (value_at link_cmp (known k before).told.links (s, u))
      by (tell.Aged pmac number) = silent (same_switch w.switch s) (value_at link_cmp (known k before).told.links (s, u))
      by (tell.Begin epoch) = silent (same_switch w.switch s) (value_at link_cmp (known k before).told.links (s, u))
      by (tell.End epoch) = silent (same_switch w.switch s) (value_at link_cmp (known k before).told.links (s, u))
      by (tell.Trapped trapped toward numbered) = silent (same_switch w.switch s) (value_at link_cmp (known k before).told.links (s, u))
      by (tell.Query asker asker_ip ip) = silent (same_switch w.switch s) (value_at link_cmp (known k before).told.links (s, u))
      by (tell.Members group any) = silent (same_switch w.switch s) (value_at link_cmp (known k before).told.links (s, u))

  pub members_are_said : (words : List Word) (s : SwitchId) (group : ℕ) →
      value_at members_cmp (known k words).members (s, group) ≡ said_last (said_by s (members_said group)) words
  unfolding manager_hears
  members_are_said [] s group = refl
  members_are_said (w ∷ before) s group = by w.says ∙ ap (option_or (said_by s (members_said group) w)) (members_are_said before s group)
    where
      by : (says : ToManager) → value_at members_cmp (view_after (known k before) w.switch says).members (s, group)
          ≡ option_or (cond (same_switch w.switch s) (members_said group says) None) (value_at members_cmp (known k before).members (s, group))
      by (tell.Members g any) =
          word_after members_cmp members_total members_exact (known k before).members (w.switch, g) (s, group) any (same_switch w.switch s && (g == group))
          (λ h. let two = and_parts (same_switch w.switch s) (g == group) h in
          λ i. (sym (same_is w.switch s two.0) i, sym (eqb-true g group two.1) i))
          (λ e. and_from (same_switch w.switch s) (g == group)
          (subst (λ t. same_switch t s ≡ true) (ap (λ (p : SwitchId × ℕ). p.0) e) (switch_itself s))
          (eq-eqb g group (sym (ap (λ (p : SwitchId × ℕ). p.1) e))))
          ∙ ap (λ x. option_or x (value_at members_cmp (known k before).members (s, group))) (cond_and (same_switch w.switch s) (g == group) (Some any))
      by (tell.Place place) = silent (same_switch w.switch s) (value_at members_cmp (known k before).members (s, group))
      by (tell.Link u usable) = silent (same_switch w.switch s) (value_at members_cmp (known k before).members (s, group))
      by tell.PodWanted = silent (same_switch w.switch s) (value_at members_cmp (known k before).members (s, group))
      by (tell.Learned pmac amac ip) = silent (same_switch w.switch s) (value_at members_cmp (known k before).members (s, group))
      by (tell.Aged pmac number) = silent (same_switch w.switch s) (value_at members_cmp (known k before).members (s, group))
      by (tell.Begin epoch) = silent (same_switch w.switch s) (value_at members_cmp (known k before).members (s, group))
      by (tell.End epoch) = silent (same_switch w.switch s) (value_at members_cmp (known k before).members (s, group))
      by (tell.Trapped trapped toward numbered) = silent (same_switch w.switch s) (value_at members_cmp (known k before).members (s, group))
      by (tell.Query asker asker_ip ip) = silent (same_switch w.switch s) (value_at members_cmp (known k before).members (s, group))

  -- ---- pods and registrations
  pub pods_are_asked : (words : List Word) → (known k words).pods ≡ pods_asked k words
  unfolding manager_hears
  pods_are_asked [] = refl
  pods_are_asked (w ∷ before) = by w.says ∙ ap (λ pods. pods_after (known k before).told pods w.switch w.says) (pods_are_asked before)
    where
      by : (says : ToManager) → (view_after (known k before) w.switch says).pods ≡ pods_after (known k before).told (known k before).pods w.switch says
      by tell.PodWanted = refl
      by (tell.Place place) = refl
      by (tell.Link u usable) = refl
      by (tell.Learned pmac amac ip) = refl
      by (tell.Aged pmac number) = refl
      by (tell.Begin epoch) = refl
      by (tell.End epoch) = refl
      by (tell.Trapped trapped toward numbered) = refl
      by (tell.Query asker asker_ip ip) = refl
      by (tell.Members group any) = refl

  -- ---- addresses: none but that one has aged releases any
  pub none_released : (before : List Word) (w : Word) (x : Pmac) → ((pmac : Pmac) (n : ℕ) → w.says ≡ tell.Aged pmac n → ⊥) → is_released_by k before w x ≡ false
  unfolding manager_hears
  none_released before w x other =
      let after : ManagerView = view_after (known k before) w.switch w.says in
      released_reply (known k before) after x w.switch w.says ∙ reply_releases_none (known k before) after x w.switch w.says other

  quiet_left : (before : List Word) (s : SwitchId) (says : ToManager) → ((pmac : Pmac) (n : ℕ) → says ≡ tell.Aged pmac n → ⊥) →
      registry (known k before).learnt ≡ filter (λ r. not (is_released_by k before (record { switch = s; says = says }) r.pmac)) (registry (known k before).learnt)
  quiet_left before s says other =
      let w : Word = record { switch = s; says = says } in
      sym (filter_all (λ (r : Registration). not (is_released_by k before w r.pmac)) (λ r. ap not (none_released before w r.pmac other)) (registry (known k before).learnt))

  one_or_none : (b : Bool) (r : Registration) (rs : List Registration) → cond b rs (r ∷ rs) ≡ cond b [] (r ∷ []) ++ rs
  one_or_none true r rs = refl
  one_or_none false r rs = refl

  -- what one word makes of the registrations
  registered_by : (before : List Word) (s : SwitchId) (says : ToManager) →
      registry (view_after (known k before) s says).learnt
      ≡ numbered_by_word (known k before).learnt s says
      ++ filter (λ r. not (is_released_by k before (record { switch = s; says = says }) r.pmac)) (registry (known k before).learnt)
  unfolding manager_hears
  registered_by before s tell.PodWanted = quiet_left before s tell.PodWanted (λ pmac n is. absurd (cc is))
  registered_by before s (tell.Place place) = quiet_left before s (tell.Place place) (λ pmac n is. absurd (cc is))
  registered_by before s (tell.Link u usable) = quiet_left before s (tell.Link u usable) (λ pmac n is. absurd (cc is))
  registered_by before s (tell.Begin epoch) = quiet_left before s (tell.Begin epoch) (λ pmac n is. absurd (cc is))
  registered_by before s (tell.End epoch) = quiet_left before s (tell.End epoch) (λ pmac n is. absurd (cc is))
  registered_by before s (tell.Trapped trapped toward numbered) = quiet_left before s (tell.Trapped trapped toward numbered) (λ pmac n is. absurd (cc is))
  registered_by before s (tell.Query asker asker_ip ip) = quiet_left before s (tell.Query asker asker_ip ip) (λ pmac n is. absurd (cc is))
  registered_by before s (tell.Members group any) = quiet_left before s (tell.Members group any) (λ pmac n is. absurd (cc is))
  registered_by before s (tell.Learned pmac amac ip) =
      let learnt : Learnt = (known k before).learnt in
      let new : ToldAddress = record { switch = s; pmac = pmac; amac = amac; ip = ip } in
      let first : Registration = registered_as (learnt_as (learnt.count + 1) new) in
      registry_after learnt new ∙ one_or_none (is_registered learnt.addresses pmac) first (registry learnt)
      ∙ ap (λ b. cond b [] (first ∷ []) ++ registry learnt) (sym (found_any (λ (r : Registration). same_pmac r.pmac pmac) (registry learnt)))
      ∙ ap (λ rs. numbered_by_word learnt s (tell.Learned pmac amac ip) ++ rs) (quiet_left before s (tell.Learned pmac amac ip) (λ x n is. absurd (cc is)))
  registered_by before s (tell.Aged pmac n) =
      let learnt : Learnt = (known k before).learnt in
      let after : ManagerView = view_after (known k before) s (tell.Aged pmac n) in
      aged_registry learnt pmac n
      ∙ filter_alike (λ (r : Registration). not (list_any (releases_address r.pmac) (hears_aged learnt pmac n).acts))
      (λ r. not (is_released_by k before (record { switch = s; says = tell.Aged pmac n }) r.pmac))
      (λ r. ap not (sym (released_reply (known k before) after r.pmac s (tell.Aged pmac n)))) (registry learnt)

  pub registrations_are_told : (words : List Word) → registry (known k words).learnt ≡ registered k words
  unfolding manager_hears
  registrations_are_told [] = refl
  registrations_are_told (w ∷ before) =
      registered_by before w.switch w.says
      ∙ ap (λ rs. numbered_by_word (known k before).learnt w.switch w.says ++ filter (λ r. not (is_released_by k before w r.pmac)) rs)
      (registrations_are_told before)

  -- as many were given numbers as are counted
  numbered_long : (words : List Word) → length (numbered k words) ≡ (known k words).learnt.count
  unfolding manager_hears
  numbered_long [] = refl
  numbered_long (w ∷ before) = by (numbered_long before) w.says
    where
      count : ℕ
      count = (known k before).learnt.count

      one_more : length (numbered k before) ≡ count → (b : Bool) (r : Registration) → length (cond b [] (r ∷ []) ++ numbered k before) ≡ cond b count (count + 1)
      one_more rest true r = rest
      one_more rest false r = omega (arith, rest)

      by : length (numbered k before) ≡ count → (says : ToManager) →
          length (numbered_by_word (known k before).learnt w.switch says ++ numbered k before) ≡ (view_after (known k before) w.switch says).learnt.count
      by rest tell.PodWanted = rest
      by rest (tell.Place place) = rest
      by rest (tell.Link u usable) = rest
      by rest (tell.Begin epoch) = rest
      by rest (tell.End epoch) = rest
      by rest (tell.Trapped trapped toward numbered) = rest
      by rest (tell.Query asker asker_ip ip) = rest
      by rest (tell.Members group any) = rest
      by rest (tell.Aged pmac n) = rest ∙ sym (aged_count (known k before).learnt pmac n)
      by rest (tell.Learned pmac amac ip) =
          let learnt : Learnt = (known k before).learnt in
          one_more rest (is_some (registration learnt pmac)) (record { pmac = pmac; amac = amac; number = count + 1; switch = w.switch })
          ∙ ap (λ b. cond b count (count + 1)) (found_any (λ (r : Registration). same_pmac r.pmac pmac) (registry learnt))

  abbrev AreInRange : List Registration → Type 0
  AreInRange rs = reverse (map (λ r. r.number) rs) ≡ range_with_len 1 (length rs)

  numbers_in_range : (words : List Word) → reverse (map (λ r. r.number) (numbered k words)) ≡ range_with_len 1 (length (numbered k words))
  unfolding manager_hears
  numbers_in_range [] = refl
  numbers_in_range (w ∷ before) = by (numbers_in_range before) w.says
    where
      by : AreInRange (numbered k before) → (says : ToManager) → AreInRange (numbered_by_word (known k before).learnt w.switch says ++ numbered k before)
      by rest tell.PodWanted = rest
      by rest (tell.Place place) = rest
      by rest (tell.Link u usable) = rest
      by rest (tell.Begin epoch) = rest
      by rest (tell.End epoch) = rest
      by rest (tell.Trapped trapped toward numbered) = rest
      by rest (tell.Query asker asker_ip ip) = rest
      by rest (tell.Members group any) = rest
      by rest (tell.Aged pmac n) = rest
      by rest (tell.Learned pmac amac ip) =
          let learnt : Learnt = (known k before).learnt in
          let first : Registration = record { pmac = pmac; amac = amac; number = learnt.count + 1; switch = w.switch } in
          let long : length (numbered k before) ≡ learnt.count = numbered_long before in
          cond_both (is_some (registration learnt pmac)) [] (first ∷ []) (λ rs. AreInRange (rs ++ numbered k before)) (λ again. rest)
          (λ fresh. one_more_item (λ (r : Registration). r.number) 1 first (numbered k before) (omega (arith, long)) rest)

  pub numbers_are_counted : (words : List Word) → reverse (map (λ r. r.number) (numbered k words)) ≡ range_with_len 1 (known k words).learnt.count
  numbers_are_counted words = numbers_in_range words ∙ ap (range_with_len 1) (numbered_long words)

-- ---- the IPv4 address of a pseudo address
abbrev ip_in : List LearntAddress → Pmac → Option Ip4
ip_in addresses x = option_and_then (λ a. a.ip) (find (λ a. same_pmac a.pmac x) addresses)

-- one that is not there has none
none_there : (addresses : List LearntAddress) (x : Pmac) → list_any (λ a. same_pmac a.pmac x) addresses ≡ false → ip_in addresses x ≡ None
none_there addresses x h = ap (option_and_then (λ (a : LearntAddress). a.ip)) (found_nowhere (λ a. same_pmac a.pmac x) addresses h)

-- an address that leads on from now on keeps its own
ip_led : (old new : Pmac) (number : ℕ) (x : Pmac) (addresses : List LearntAddress) → ip_in (map (leads_on old new number) addresses) x ≡ ip_in addresses x
ip_led old new number x addresses =
    ap (option_and_then (λ (a : LearntAddress). a.ip)) (find_mapped (λ (a : LearntAddress). same_pmac a.pmac x) (leads_on old new number) addresses)
    ∙ own (find (λ a. same_pmac a.pmac x) addresses)
  where
    own : (o : Option LearntAddress) → option_and_then (λ a. a.ip) (option_map (leads_on old new number) o) ≡ option_and_then (λ a. a.ip) o
    own None = refl
    own (Some a) = refl

ip_recalled : (o : Option Registration) (new : Pmac) (number : ℕ) (x : Pmac) (addresses : List LearntAddress) →
    ip_in (recalled o new number addresses) x ≡ ip_in addresses x
ip_recalled None new number x addresses = refl
ip_recalled (Some old) new number x addresses = ip_led old.pmac new number x addresses

-- a new one
ip_first : (learnt : Learnt) (new : ToldAddress) (x : Pmac) → is_registered learnt.addresses new.pmac ≡ false →
    ip_in (learnt_as (learnt.count + 1) new ∷ recalled (newest learnt new.amac) new.pmac (learnt.count + 1) learnt.addresses) x
    ≡ option_or (cond (same_pmac new.pmac x) new.ip None) (ip_in learnt.addresses x)
ip_first learnt new x fresh = by (same_pmac new.pmac x) refl
  where
    only : (o : Option Ip4) → o ≡ option_or o None
    only None = refl
    only (Some ip) = refl

    by : (b : Bool) → same_pmac new.pmac x ≡ b →
        option_and_then (λ (c : LearntAddress). c.ip) (cond b (Some (learnt_as (learnt.count + 1) new))
        (find (λ c. same_pmac c.pmac x) (recalled (newest learnt new.amac) new.pmac (learnt.count + 1) learnt.addresses)))
        ≡ option_or (cond b new.ip None) (ip_in learnt.addresses x)
    by true is =
        let none = none_there learnt.addresses new.pmac (any_registered learnt.addresses new.pmac ∙ fresh) in
        only new.ip ∙ ap (option_or new.ip) (sym none ∙ ap (ip_in learnt.addresses) (pmac_is new.pmac x is))
    by false is = ip_recalled (newest learnt new.amac) new.pmac (learnt.count + 1) x learnt.addresses

-- one that is there takes the IPv4 address that is told
ip_same : (new : ToldAddress) (addresses : List LearntAddress) → list_any (λ a. same_pmac a.pmac new.pmac) addresses ≡ true →
    ip_in (map (told_again new) addresses) new.pmac ≡ option_or new.ip (ip_in addresses new.pmac)
ip_same new [] h = absurd (false≢true h)
ip_same new (a ∷ addresses) h = step (λ j. ip_same new addresses j) (same_pmac a.pmac new.pmac) refl h
  where
    step : (list_any (λ c. same_pmac c.pmac new.pmac) addresses ≡ true →
        ip_in (map (told_again new) addresses) new.pmac ≡ option_or new.ip (ip_in addresses new.pmac)) →
        (b : Bool) → same_pmac a.pmac new.pmac ≡ b → (b || list_any (λ c. same_pmac c.pmac new.pmac) addresses) ≡ true →
        option_and_then (λ (c : LearntAddress). c.ip) (cond b (Some (told_again new a)) (find (λ c. same_pmac c.pmac new.pmac) (map (told_again new) addresses)))
        ≡ option_or new.ip (option_and_then (λ (c : LearntAddress). c.ip) (cond b (Some a) (find (λ c. same_pmac c.pmac new.pmac) addresses)))
    step rest true is j = ap (λ b. cond b (option_or new.ip a.ip) a.ip) is
    step rest false is j = rest j

-- another one stays
ip_other : (new : ToldAddress) (x : Pmac) → same_pmac new.pmac x ≡ false → (addresses : List LearntAddress) →
    ip_in (map (told_again new) addresses) x ≡ ip_in addresses x
ip_other new x apart [] = refl
ip_other new x apart (a ∷ addresses) = step (ip_other new x apart addresses) (same_pmac a.pmac x) refl
  where
    step : ip_in (map (told_again new) addresses) x ≡ ip_in addresses x → (b : Bool) → same_pmac a.pmac x ≡ b →
        option_and_then (λ (c : LearntAddress). c.ip) (cond b (Some (told_again new a)) (find (λ c. same_pmac c.pmac x) (map (told_again new) addresses)))
        ≡ option_and_then (λ (c : LearntAddress). c.ip) (cond b (Some a) (find (λ c. same_pmac c.pmac x) addresses))
    step rest true is =
        let differ : same_pmac a.pmac new.pmac ≡ false =
        false_before (same_pmac a.pmac new.pmac) (same_pmac new.pmac x)
        (λ h. subst (λ p. same_pmac p x ≡ true) (pmac_is a.pmac new.pmac h) is) apart in
        ap (λ b. cond b (option_or new.ip a.ip) a.ip) differ
    step rest false is = rest

ip_again : (addresses : List LearntAddress) (new : ToldAddress) (x : Pmac) → list_any (λ a. same_pmac a.pmac new.pmac) addresses ≡ true →
    ip_in (map (told_again new) addresses) x ≡ option_or (cond (same_pmac new.pmac x) new.ip None) (ip_in addresses x)
ip_again addresses new x there = by (same_pmac new.pmac x) refl
  where
    by : (b : Bool) → same_pmac new.pmac x ≡ b → ip_in (map (told_again new) addresses) x ≡ option_or (cond b new.ip None) (ip_in addresses x)
    by true is =
        subst (λ y. ip_in (map (told_again new) addresses) y ≡ option_or new.ip (ip_in addresses y)) (pmac_is new.pmac x is) (ip_same new addresses there)
    by false is = ip_other new x is addresses

pub ip_after : (learnt : Learnt) (new : ToldAddress) (x : Pmac) →
    ip_in (with_address learnt new) x ≡ option_or (cond (same_pmac new.pmac x) new.ip None) (ip_in learnt.addresses x)
ip_after learnt new x =
    let n = learnt.count + 1 in
    cond_both (is_registered learnt.addresses new.pmac) (map (told_again new) learnt.addresses)
    (learnt_as n new ∷ recalled (newest learnt new.amac) new.pmac n learnt.addresses)
    (λ those. ip_in those x ≡ option_or (cond (same_pmac new.pmac x) new.ip None) (ip_in learnt.addresses x))
    (λ again. ip_again learnt.addresses new x (any_registered learnt.addresses new.pmac ∙ again))
    (λ fresh. ip_first learnt new x fresh)

module _ (k : ℕ) where
  -- an address that is released has none any more; that another one has aged leaves it
  ip_aged : (before : List Word) (s : SwitchId) (x y : Pmac) (n : ℕ) →
      ip_of (hears_aged (known k before).learnt x n).learnt y
      ≡ cond (is_released_by k before (record { switch = s; says = tell.Aged x n }) y) None (ip_of (known k before).learnt y)
  unfolding manager_hears
  ip_aged before s x y n =
      let learnt : Learnt = (known k before).learnt in
      let after : ManagerView = view_after (known k before) s (tell.Aged x n) in
      aged_ips y learnt x n ∙ ap (λ b. cond b None (ip_of learnt y)) (sym (released_reply (known k before) after y s (tell.Aged x n)))

  pub ips_said : (words : List Word) (x : Pmac) → ip_of (known k words).learnt x ≡ ip_since k words x
  unfolding manager_hears
  ips_said [] x = refl
  ips_said (w ∷ before) x =
      by w.says refl ∙ ap (λ o. cond (is_released_by k before w x) None (option_or (ip_said x w.says) o)) (ips_said before x)
    where
      learnt : Learnt
      learnt = (known k before).learnt

      -- where nothing is released
      left : ((pmac : Pmac) (n : ℕ) → w.says ≡ tell.Aged pmac n → ⊥) → (o : Option Ip4) → o ≡ cond (is_released_by k before w x) None o
      left other o = sym (ap (λ b. cond b None o) (none_released k before w x other))

      by : (says : ToManager) → w.says ≡ says →
          ip_of (view_after (known k before) w.switch says).learnt x ≡ cond (is_released_by k before w x) None (option_or (ip_said x says) (ip_of learnt x))
      by tell.PodWanted is = left (λ pmac n other. absurd (cc (sym is ∙ other))) (ip_of learnt x)
      by (tell.Place place) is = left (λ pmac n other. absurd (cc (sym is ∙ other))) (ip_of learnt x)
      by (tell.Link u usable) is = left (λ pmac n other. absurd (cc (sym is ∙ other))) (ip_of learnt x)
      by (tell.Begin epoch) is = left (λ pmac n other. absurd (cc (sym is ∙ other))) (ip_of learnt x)
      by (tell.End epoch) is = left (λ pmac n other. absurd (cc (sym is ∙ other))) (ip_of learnt x)
      by (tell.Trapped trapped toward numbered) is = left (λ pmac n other. absurd (cc (sym is ∙ other))) (ip_of learnt x)
      by (tell.Query asker asker_ip ip) is = left (λ pmac n other. absurd (cc (sym is ∙ other))) (ip_of learnt x)
      by (tell.Members group any) is = left (λ pmac n other. absurd (cc (sym is ∙ other))) (ip_of learnt x)
      by (tell.Learned pmac amac ip) is =
          let new : ToldAddress = record { switch = w.switch; pmac = pmac; amac = amac; ip = ip } in
          ip_after learnt new x ∙ left (λ y n other. absurd (cc (sym is ∙ other))) (option_or (cond (same_pmac pmac x) ip None) (ip_of learnt x))
      by (tell.Aged y n) is =
          ip_aged before w.switch y x n
          ∙ ap (λ (says : ToManager). cond (is_released_by k before (record { switch = w.switch; says = says }) x) None (ip_of learnt x)) (sym is)

  pub owners_said : (words : List Word) (ip : Ip4) → owner (known k words).learnt ip ≡ owner_told k words ip
  unfolding manager_hears
  owners_said [] ip = refl
  owners_said (w ∷ before) ip = by w.says ∙ ap (option_or (owner_said (known k before).learnt ip w.switch w.says)) (owners_said before ip)
    where
      by : (says : ToManager) → owner (view_after (known k before) w.switch says).learnt ip
          ≡ option_or (owner_said (known k before).learnt ip w.switch says) (owner (known k before).learnt ip)
      by (tell.Learned pmac amac None) = refl
      by (tell.Learned pmac amac (Some told)) =
          let new : ToldAddress = record { switch = w.switch; pmac = pmac; amac = amac; ip = Some told } in
          word_after ip_cmp ip_total ip_exact (known k before).learnt.owners told ip (host_of (known k before).learnt new) (told.0 == ip.0)
          (λ h. ap (λ n. let a : Ip4 = record { 0 = n } in a) (sym (eqb-true told.0 ip.0 h)))
          (λ e. eq-eqb told.0 ip.0 (sym (ap (λ (a : Ip4). a.0) e)))
      by (tell.Aged pmac number) = ap (λ owners. value_at ip_cmp owners ip) (aged_owners (known k before).learnt pmac number)
      by tell.PodWanted = refl
      by (tell.Place place) = refl
      by (tell.Link u usable) = refl
      by (tell.Begin epoch) = refl
      by (tell.End epoch) = refl
      by (tell.Trapped trapped toward numbered) = refl
      by (tell.Query asker asker_ip other) = refl
      by (tell.Members group any) = refl
