-- With each message the fabric manager hears of no switch but the one that speaks.
use Rattle.std.proofs.Common.{◌≡◌, ◌⊎◌, ◌||◌, ℕ, Bool, true, false, cond, not, List, [], ◌∷◌, ◌++◌, filter, map, None, Ordering, Some, refl, ap, subst, inl, inr, ◌∙◌, ◌+◌}
use Rattle.std.specs.List.{find, list_any}
use Rattle.std.specs.BTreeMap.{insert_entry}
use Rattle.std.proofs.lemmas.Bool.{cond_both, or_cases, or_left, or_right}
use Rattle.pl_lemmas.proofs.Exports.{option_map_some}
use Rattle.pl_frame.specs.declared.address.Mac.{Mac}
use Rattle.pl_frame.specs.declared.address.SwitchId.{SwitchId}
use Rattle.pl_pmac.specs.declared.pmac.Pmac.{Pmac}
use Rattle.pl_layouts.specs.Equality.{same_pmac, same_switch}
use Rattle.pl_layouts.proofs.Exports.{switch_itself}
use Rattle.pl_gathering.specs.Gathering.{Heard}
use Rattle.pl_node.specs.declared.messages.ToManager.{ToManager}
use Rattle.pl_node.specs.declared.messages.ToManager.TheVariants as tell
use Rattle.pl_node.specs.declared.pod_given.PodGiven.{PodGiven}
use Rattle.pl_node.specs.ManagerViews.{Learnt, LearntAddress, ManagerView, Registration, Reported, id_cmp, is_heard, is_newest_of, link_cmp, members_cmp, newest, Told, first_free, registered_as, registration, reporters, speakers, switches, tellers}
use Rattle.pl_node.proofs.Exports.{among_append, among_filter, among_left, among_map, among_mapped, among_ordered, among_right, any_among, IsAmong}
use Rattle.pl_manager_rule.specs.ManagerRule.{ToldAddress, ages_now, hears_aged, is_registered, learnt_as, recalled, told_again, view_after, with_address, with_asker}
use Rattle.pl_manager_rule.proofs.Aging.{aged_keeps, aged_reported}
use Rattle.pl_manager_rule.proofs.Tables.{among_put}
use Rattle.pl_manager_rule.proofs.Avoided.{same_is}
use Rattle.pl_manager_rule.proofs.Learning.{same_field, same_recalled}

pub found_among : {X : Type 0} (test : X → Bool) (x : X) (xs : List X) → find test xs ≡ Some x → IsAmong x xs
found_among test x [] h = let none : None ≡ Some x = h in cc
found_among test x (y ∷ xs) h = by (λ k. found_among test x xs k) (test y) h
  where
    by : (find test xs ≡ Some x → IsAmong x xs) → (b : Bool) → cond b (Some y) (find test xs) ≡ Some x → IsAmong x (y ∷ xs)
    by rest true k = inl cc
    by rest false k = inr (rest k)

-- ---- lists with one more switch at most
abbrev pub IsWithOne : SwitchId → List SwitchId → List SwitchId → Type 0
IsWithOne s after before = (t : SwitchId) → IsAmong t after → (s ≡ t) ⊎ IsAmong t before

pub same_ones : (s : SwitchId) (xs : List SwitchId) → IsWithOne s xs xs
same_ones s xs t h = inr h

both_ones : (s : SwitchId) (xs ys us vs : List SwitchId) → IsWithOne s xs us → IsWithOne s ys vs → IsWithOne s (xs ++ ys) (us ++ vs)
both_ones s xs ys us vs f g t h = elim (among_append t xs ys h) [
  | inl left ↦ elim (f t left) [ inl is ↦ inl is | inr k ↦ inr (among_left t us vs k) ]
  | inr right ↦ elim (g t right) [ inl is ↦ inl is | inr k ↦ inr (among_right t us vs k) ]
]

-- a table by two keys, of which the first is a switch
put_ones : {B X : Type 0} (R : SwitchId × B → SwitchId × B → Ordering) (es : List ((SwitchId × B) × X)) (s : SwitchId) (b : B) (v : X) →
    IsWithOne s (map (λ e. e.0.0) (insert_entry R es (s, b) v)) (map (λ e. e.0.0) es)
put_ones {B} {X} R es s b v t h =
    let at = among_map (λ (e : (SwitchId × B) × X). e.0.0) t (insert_entry R es (s, b) v) h in
    elim (among_put R es (s, b) at.0.0 v (among_mapped (λ (e : (SwitchId × B) × X). e.0) at.0 (insert_entry R es (s, b) v) at.1)) [
      | inl is ↦ inl (ap (λ (k : SwitchId × B). k.0) is ∙ at.2)
      | inr k ↦ let was = among_map (λ (e : (SwitchId × B) × X). e.0) at.0.0 es k in
          inr (subst (λ u. IsAmong u (map (λ (e : (SwitchId × B) × X). e.0.0) es)) (ap (λ (k : SwitchId × B). k.0) was.2 ∙ at.2)
          (among_mapped (λ (e : (SwitchId × B) × X). e.0.0) was.0 es was.1))
    ]

asker_ones : (told : Told) (pods : List PodGiven) (s : SwitchId) → IsWithOne s (map (λ g. g.switch) (with_asker told pods s)) (map (λ g. g.switch) pods)
asker_ones told pods s =
    let new : PodGiven = record { switch = s; pod = first_free told pods } in
    cond_both (list_any (λ g. same_switch g.switch s) pods) pods (new ∷ pods) (λ those. IsWithOne s (map (λ g. g.switch) those) (map (λ g. g.switch) pods))
    (λ asked. same_ones s (map (λ g. g.switch) pods)) (λ first t h. h)

address_ones : (learnt : Learnt) (new : ToldAddress) →
    IsWithOne new.switch (map (λ a. a.switch) (with_address learnt new)) (map (λ a. a.switch) learnt.addresses)
address_ones learnt new =
    let n = learnt.count + 1 in
    cond_both (is_registered learnt.addresses new.pmac) (map (told_again new) learnt.addresses)
    (learnt_as n new ∷ recalled (newest learnt new.amac) new.pmac n learnt.addresses)
    (λ those. IsWithOne new.switch (map (λ a. a.switch) those) (map (λ a. a.switch) learnt.addresses))
    (λ again t h. inr (subst (IsAmong t) (same_field (λ a. a.switch) (told_again new) (λ a. refl) learnt.addresses) h))
    (λ first t h. subst (λ ss. (new.switch ≡ t) ⊎ IsAmong t ss)
    (same_recalled (λ a. a.switch) (λ old x number a. refl) (newest learnt new.amac) new.pmac n learnt.addresses) h)

-- once an address has aged none is there that was not before
aged_tellers : (learnt : Learnt) (x : Pmac) (n : ℕ) (t : SwitchId) → IsAmong t (map (λ a. a.switch) (hears_aged learnt x n).learnt.addresses) →
    IsAmong t (map (λ a. a.switch) learnt.addresses)
aged_tellers learnt x n = aged_keeps (λ l. (t : SwitchId) → IsAmong t (map (λ (a : LearntAddress). a.switch) l.addresses) → IsAmong t (map (λ a. a.switch) learnt.addresses))
    (λ l y was t h. was t (subst (IsAmong t) (same_field (λ a. a.switch) (ages_now y) (λ a. refl) l.addresses) h))
    (λ l y was t h.
    let at = among_map (λ (a : LearntAddress). a.switch) t (filter (λ a. not (same_pmac a.pmac y)) l.addresses) h in
    was t (subst (λ u. IsAmong u (map (λ (a : LearntAddress). a.switch) l.addresses)) at.2
    (among_mapped (λ (a : LearntAddress). a.switch) at.0 l.addresses (among_filter (λ (a : LearntAddress). not (same_pmac a.pmac y)) at.0 l.addresses at.1).0)))
    learnt x n (λ t h. h)

-- ---- the switches of which something is known
module _ (view : ManagerView) (s : SwitchId) where
  abbrev places : List SwitchId
  places = map (λ p. p.0) view.told.places

  abbrev links : List SwitchId
  links = map (λ l. l.0.0) view.told.links

  abbrev members : List SwitchId
  members = map (λ m. m.0.0) view.members

  abbrev askers : List SwitchId
  askers = map (λ g. g.switch) view.pods

  abbrev learners : List SwitchId
  learners = map (λ a. a.switch) view.learnt.addresses

  abbrev reported_by : List SwitchId
  reported_by = map (λ r. r.switch) view.learnt.reported

  abbrev gathered_of : List SwitchId
  gathered_of = view.begun ++ map (λ h. h.switch) view.kept

  with_reported : (ps ls ms qs rs ts : List SwitchId) → IsWithOne s ps places → IsWithOne s ls links → IsWithOne s ms members →
      IsWithOne s qs askers → IsWithOne s rs learners → IsWithOne s ts reported_by →
      IsWithOne s ((ps ++ ls) ++ (ms ++ (qs ++ (rs ++ (ts ++ gathered_of))))) (speakers view)
  with_reported ps ls ms qs rs ts p l m a r t =
      both_ones s (ps ++ ls) (ms ++ (qs ++ (rs ++ (ts ++ gathered_of)))) (places ++ links) (members ++ (askers ++ (learners ++ reporters view)))
      (both_ones s ps ls places links p l)
      (both_ones s ms (qs ++ (rs ++ (ts ++ gathered_of))) members (askers ++ (learners ++ reporters view)) m
      (both_ones s qs (rs ++ (ts ++ gathered_of)) askers (learners ++ reporters view) a
      (both_ones s rs (ts ++ gathered_of) learners (reporters view) r
      (both_ones s ts gathered_of reported_by gathered_of t (same_ones s gathered_of)))))

  with_one : (ps ls ms qs rs : List SwitchId) → IsWithOne s ps places → IsWithOne s ls links → IsWithOne s ms members →
      IsWithOne s qs askers → IsWithOne s rs learners → IsWithOne s ((ps ++ ls) ++ (ms ++ (qs ++ (rs ++ reporters view)))) (speakers view)
  with_one ps ls ms qs rs p l m a r = with_reported ps ls ms qs rs reported_by p l m a r (same_ones s reported_by)

  -- what was learnt of addresses becomes another
  pub learnt_ones : (learnt : Learnt) → IsWithOne s (map (λ a. a.switch) learnt.addresses) learners → IsWithOne s (map (λ r. r.switch) learnt.reported) reported_by →
      IsWithOne s (speakers (record view { learnt = learnt })) (speakers view)
  learnt_ones learnt = with_reported places links members askers _ _ (same_ones s places) (same_ones s links) (same_ones s members) (same_ones s askers)

  pub speakers_after : (says : ToManager) → IsWithOne s (speakers (view_after view s says)) (speakers view)
  speakers_after (tell.Place place) =
      with_one _ links members askers learners (λ t h. among_put id_cmp view.told.places s t place h)
      (same_ones s links) (same_ones s members) (same_ones s askers) (same_ones s learners)
  speakers_after (tell.Link u usable) =
      with_one places _ members askers learners (same_ones s places)
      (put_ones link_cmp view.told.links s u usable) (same_ones s members) (same_ones s askers) (same_ones s learners)
  speakers_after tell.PodWanted =
      with_one places links members _ learners (same_ones s places)
      (same_ones s links) (same_ones s members) (asker_ones view.told view.pods s) (same_ones s learners)
  speakers_after (tell.Learned pmac amac ip) =
      with_one places links members askers _ (same_ones s places)
      (same_ones s links) (same_ones s members) (same_ones s askers)
      (address_ones view.learnt (record { switch = s; pmac = pmac; amac = amac; ip = ip }))
  speakers_after (tell.Aged pmac number) =
      learnt_ones (hears_aged view.learnt pmac number).learnt (λ t h. inr (aged_tellers view.learnt pmac number t h))
      (λ t h. inr (subst (λ (rs : List Reported). IsAmong t (map (λ r. r.switch) rs)) (aged_reported view.learnt pmac number) h))
  speakers_after (tell.Begin epoch) = same_ones s (speakers view)
  speakers_after (tell.End epoch) = same_ones s (speakers view)
  speakers_after (tell.Trapped trapped toward numbered) = same_ones s (speakers view)
  speakers_after (tell.Query asker asker_ip ip) = same_ones s (speakers view)
  speakers_after (tell.Members group any) =
      with_one places links _ askers learners (same_ones s places)
      (same_ones s links) (put_ones members_cmp view.members s group any) (same_ones s askers) (same_ones s learners)

  pub among_is_heard : (t : SwitchId) → IsAmong t (speakers view) → is_heard view t ≡ true
  among_is_heard t h = any_among (λ c. same_switch c t) t (speakers view) h (switch_itself t)

  pub now_or_before : (t : SwitchId) → (s ≡ t) ⊎ IsAmong t (speakers view) → (same_switch s t || is_heard view t) ≡ true
  now_or_before t (inl is) = or_left (same_switch s t) (is_heard view t) (subst (λ u. same_switch s u ≡ true) is (switch_itself s))
  now_or_before t (inr h) = or_right (same_switch s t) (is_heard view t) (among_is_heard t h)

  -- so each switch of the list is one to speak to
  pub listed_is_heard : (says : ToManager) (t : SwitchId) → IsAmong t (switches (view_after view s says).told) →
      (same_switch s t || is_heard view t) ≡ true
  listed_is_heard says t h =
      let after = view_after view s says in
      now_or_before t (speakers_after says t
      (among_left t (tellers after.told)
      (map (λ m. m.0.0) after.members ++ (map (λ g. g.switch) after.pods ++ (map (λ a. a.switch) after.learnt.addresses ++ reporters after)))
      (among_ordered id_cmp t (tellers after.told) h)))

pub reporter_speaks : (view : ManagerView) (t : SwitchId) → IsAmong t (reporters view) → IsAmong t (speakers view)
reporter_speaks view t h =
    let members : List SwitchId = map (λ m. m.0.0) view.members in
    let askers : List SwitchId = map (λ g. g.switch) view.pods in
    let learners : List SwitchId = map (λ a. a.switch) view.learnt.addresses in
    among_right t (tellers view.told) (members ++ (askers ++ (learners ++ reporters view)))
    (among_right t members (askers ++ (learners ++ reporters view)) (among_right t askers (learners ++ reporters view) (among_right t learners (reporters view) h)))

pub learner_speaks : (view : ManagerView) (t : SwitchId) → IsAmong t (map (λ a. a.switch) view.learnt.addresses) → IsAmong t (speakers view)
learner_speaks view t h =
    let members : List SwitchId = map (λ m. m.0.0) view.members in
    let askers : List SwitchId = map (λ g. g.switch) view.pods in
    let learners : List SwitchId = map (λ a. a.switch) view.learnt.addresses in
    among_right t (tellers view.told) (members ++ (askers ++ (learners ++ reporters view)))
    (among_right t members (askers ++ (learners ++ reporters view)) (among_right t askers (learners ++ reporters view) (among_left t learners (reporters view) h)))

-- what spoke once the gathering is another one: what it has now, or what spoke before
pub spoke_or_gathered : (view : ManagerView) (epoch : ℕ) (begun ended : List SwitchId) (kept : List (Heard ToManager)) (t : SwitchId) →
    IsAmong t (speakers (record view { epoch = epoch; begun = begun; ended = ended; kept = kept })) →
    IsAmong t (begun ++ map (λ h. h.switch) kept) ⊎ IsAmong t (speakers view)
spoke_or_gathered view epoch begun ended kept t h =
    let told : List SwitchId = tellers view.told in
    let members : List SwitchId = map (λ m. m.0.0) view.members in
    let askers : List SwitchId = map (λ g. g.switch) view.pods in
    let learners : List SwitchId = map (λ a. a.switch) view.learnt.addresses in
    let reported : List SwitchId = map (λ r. r.switch) view.learnt.reported in
    let was : List SwitchId = view.begun ++ map (λ h. h.switch) view.kept in
    let now : List SwitchId = begun ++ map (λ h. h.switch) kept in
    split told (members ++ (askers ++ (learners ++ (reported ++ now)))) (members ++ (askers ++ (learners ++ (reported ++ was)))) (
    split members (askers ++ (learners ++ (reported ++ now))) (askers ++ (learners ++ (reported ++ was))) (
    split askers (learners ++ (reported ++ now)) (learners ++ (reported ++ was)) (
    split learners (reported ++ now) (reported ++ was) (split reported now was (λ k. inl k))))) h
  where
    split : (front now was : List SwitchId) → (IsAmong t now → IsAmong t (begun ++ map (λ h. h.switch) kept) ⊎ IsAmong t was) → IsAmong t (front ++ now) →
        IsAmong t (begun ++ map (λ h. h.switch) kept) ⊎ IsAmong t (front ++ was)
    split front now was rest h = elim (among_append t front now h) [
      | inl left ↦ inr (among_left t front was left)
      | inr right ↦ elim (rest right) [ inl gathered ↦ inl gathered | inr before ↦ inr (among_right t front was before) ]
    ]

-- where fewer switches told addresses no more spoke
module _ (view : ManagerView) (learnt : Learnt) (t : SwitchId) where
  both_fewer : (xs ys us vs : List SwitchId) → (IsAmong t xs → IsAmong t us) → (IsAmong t ys → IsAmong t vs) → IsAmong t (xs ++ ys) → IsAmong t (us ++ vs)
  both_fewer xs ys us vs f g h = elim (among_append t xs ys h) [ inl left ↦ among_left t us vs (f left) | inr right ↦ among_right t us vs (g right) ]

  pub fewer_learnt : (IsAmong t (map (λ a. a.switch) learnt.addresses) → IsAmong t (map (λ a. a.switch) view.learnt.addresses)) →
      (IsAmong t (map (λ r. r.switch) learnt.reported) → IsAmong t (map (λ r. r.switch) view.learnt.reported)) →
      IsAmong t (speakers (record view { learnt = learnt })) → IsAmong t (speakers view)
  fewer_learnt addresses reported =
      let told : List SwitchId = tellers view.told in
      let members : List SwitchId = map (λ m. m.0.0) view.members in
      let askers : List SwitchId = map (λ g. g.switch) view.pods in
      let gathers : List SwitchId = view.begun ++ map (λ h. h.switch) view.kept in
      both_fewer told _ told _ (λ k. k) (both_fewer members _ members _ (λ k. k) (both_fewer askers _ askers _ (λ k. k)
      (both_fewer (map (λ a. a.switch) learnt.addresses) (map (λ r. r.switch) learnt.reported ++ gathers) (map (λ a. a.switch) view.learnt.addresses)
      (map (λ r. r.switch) view.learnt.reported ++ gathers) addresses
      (both_fewer (map (λ r. r.switch) learnt.reported) gathers (map (λ r. r.switch) view.learnt.reported) gathers reported (λ k. k)))))

-- what the gathering has spoke
pub gathered_speaks : (view : ManagerView) (t : SwitchId) → IsAmong t (view.begun ++ map (λ h. h.switch) view.kept) → IsAmong t (speakers view)
gathered_speaks view t h = reporter_speaks view t (among_right t (map (λ r. r.switch) view.learnt.reported) (view.begun ++ map (λ h. h.switch) view.kept) h)

pub known_among : (t : SwitchId) (xs : List SwitchId) → list_any (λ c. same_switch c t) xs ≡ true → IsAmong t xs
known_among t [] h = absurd (cc)
known_among t (x ∷ xs) h = elim (or_cases (same_switch x t) (list_any (λ c. same_switch c t) xs) h) [
  | inl here ↦ inl (same_is x t here)
  | inr there ↦ inr (known_among t xs there)
]

-- no switch is heard but the speaker
pub heard_after : (view : ManagerView) (s t : SwitchId) (says : ToManager) → is_heard (view_after view s says) t ≡ true →
    (same_switch s t || is_heard view t) ≡ true
heard_after view s t says h = now_or_before view s t (speakers_after view s says t (known_among t (speakers (view_after view s says)) h))

-- the switch that told a registered address
pub registered_heard : (learnt : Learnt) (x : Pmac) (r : Registration) → registration learnt x ≡ Some r → IsAmong r.switch (map (λ a. a.switch) learnt.addresses)
registered_heard learnt x r is =
    let at = among_map registered_as r learnt.addresses (found_among (λ r. same_pmac r.pmac x) r (map registered_as learnt.addresses) is) in
    subst (λ t. IsAmong t (map (λ a. a.switch) learnt.addresses)) (ap (λ (q : Registration). q.switch) at.2)
    (among_mapped (λ (a : LearntAddress). a.switch) at.0 learnt.addresses at.1)

-- the switch that told the newest address of a host
pub newest_heard : (learnt : Learnt) (amac : Mac) (r : Registration) → newest learnt amac ≡ Some r → IsAmong r.switch (map (λ a. a.switch) learnt.addresses)
newest_heard learnt amac r is =
    let found = option_map_some registered_as (find (is_newest_of amac) learnt.addresses) r is in
    subst (λ t. IsAmong t (map (λ a. a.switch) learnt.addresses)) (ap (λ (q : Registration). q.switch) found.2)
    (among_mapped (λ (a : LearntAddress). a.switch) found.0 learnt.addresses
    (found_among (is_newest_of amac) found.0 learnt.addresses found.1))
