-- What a switch tells the manager of its place and of its members, in the parts of a step.
use Rattle.std.proofs.Common.{◌≡◌, ◌⊎◌, ℕ, ◌==◌, ◌&&◌, not, Bool, true, false, if◌then◌else◌, List, [], ◌∷◌, ◌++◌, fold, Option, Some, None, unwrap_or, Ordering, Less, Equal, Greater, nat_cmp, refl, sym, ap, ◌∙◌, subst, inl, inr, eqb-true, eq-eqb, true≢false}
use Rattle.std.specs.List.{AllByRecursion, flat_map}
use Rattle.std.specs.BTreeSet.{insert_key}
use Rattle.std.specs.Ordering.{match_ordering}
use Rattle.std.proofs.lemmas.Bool.{cond_both, or_cases, or_parts}
use Rattle.std.proofs.lemmas.Map.Lookups.{CmpEqualImpliesEq, exact_unsigned}
use Rattle.pl_frame.specs.declared.address.SwitchId.{SwitchId}
use Rattle.pl_layouts.specs.declared.place.Place.{Place}
use Rattle.pl_layouts.specs.Placement.{is_known, same_place}
use Rattle.pl_layouts.proofs.Exports.{place_is}
use Rattle.pl_journal.specs.Places.{are_alike}
use Rattle.pl_node.specs.declared.acts.Act.{Act}
use Rattle.pl_node.specs.declared.acts.Act.TheVariants.{Tell}
use Rattle.pl_node.specs.declared.messages.ToManager.{ToManager}
use Rattle.pl_node.specs.declared.messages.ToManager.TheVariants.{Link, Members, PodWanted, Place as TellPlace}
use Rattle.pl_node.specs.declared.switch_records.Member.{Member}
use Rattle.pl_node.specs.PortRecords.{id_at, is_usable, ports_of_switch}
use Rattle.pl_node.specs.SwitchViews.{SwitchView}
use Rattle.pl_node.proofs.Exports.{IsAmong}
use Rattle.pl_steps.specs.Steps.{SwitchStep, does, rests, ◌▹◌}
use Rattle.pl_manager_rule.specs.Histories.{link_said, members_said, place_said}
use Rattle.pl_switch_rule.specs.Intake.{group_told, groups_of, groups_told, has_member_of}
use Rattle.pl_switch_rule.specs.Telling.{changes_told, link_to, link_told, place_told, pod_wanted}
use Rattle.pl_law_control_plane.specs.ControlPlanes.{tells, told_by}
use Rattle.pl_law_control_plane.proofs.Exports.{any_append, flat_map_append, told_all}
use Rattle.pl_law_records.specs.Words.{IsNoReport, last_said}
use Rattle.pl_law_records.proofs.Last.{last_append, last_silent, silent_link, silent_members, silent_place}

-- Acts that say nothing of it.

abbrev pub IsUnsaid : Act → Type 0
IsUnsaid (Tell told) = IsNoReport told
IsUnsaid act = Unit {0}

abbrev pub AreUnsaid : List Act → Type 0
AreUnsaid acts = AllByRecursion IsUnsaid acts

pub unsaid_words : (acts : List Act) → AreUnsaid acts → AllByRecursion IsNoReport (tells acts)
unsaid_words = told_all IsUnsaid

-- What acts say of one thing.

module _ {X : Type 0} (said : ToManager → Option X) where
  pub said_more : (before : X) (xs ys : List Act) → last_said said before (tells (xs ++ ys)) ≡ last_said said (last_said said before (tells xs)) (tells ys)
  said_more before xs ys = ap (last_said said before) (flat_map_append told_by xs ys) ∙ last_append said before (tells xs) (tells ys)

  pub flat_silent : {T : Type 0} (f : T → List Act) (xs : List T) → ((x : T) (before : X) → last_said said before (tells (f x)) ≡ before) → (before : X) →
      last_said said before (tells (flat_map f xs)) ≡ before
  flat_silent f [] each before = refl
  flat_silent f (x ∷ xs) each before =
      said_more before (f x) (flat_map f xs) ∙ ap (λ b. last_said said b (tells (flat_map f xs))) (each x before) ∙ flat_silent f xs each before

  module _ (links : (u : SwitchId) (usable : Bool) → said (Link u usable) ≡ None) (wish : said PodWanted ≡ None) where
    link_silent : (o : Option SwitchId) (usable : Bool) (before : X) → last_said said before (tells (link_to o usable)) ≡ before
    link_silent None usable before = refl
    link_silent (Some u) usable before = ap (λ (o : Option X). unwrap_or o before) (links u usable)

    links_silent : (old new : SwitchView) (ports : List ℕ) (before : X) → last_said said before (tells (flat_map (link_told old new) ports)) ≡ before
    links_silent old new ports before =
        flat_silent (link_told old new) ports (λ port x.
        cond_both (are_alike (is_usable old port) (is_usable new port)) [] (link_to (id_at new port) (is_usable new port))
        (λ acts. last_said said x (tells acts) ≡ x) (λ h. refl) (λ h. link_silent (id_at new port) (is_usable new port) x)) before

    wish_silent : (old new : Place) (before : X) → last_said said before (tells (pod_wanted old new)) ≡ before
    wish_silent old new before =
        cond_both (is_known new.level 0 && is_known new.position 0 && not (is_known old.position 0)) (Tell PodWanted ∷ []) []
        (λ acts. last_said said before (tells acts) ≡ before) (λ h. ap (λ (o : Option X). unwrap_or o before) wish) (λ h. refl)

    -- of a change all that is said is said of the place
    pub changes_said : (old new : SwitchView) (before : X) → last_said said before (tells (changes_told old new)) ≡ last_said said before (tells (place_told old.place new.place))
    changes_said old new before =
        let place = place_told old.place new.place in
        let links = flat_map (link_told old new) (ports_of_switch new.k) in
        said_more before (place ++ links) (pod_wanted old.place new.place) ∙ wish_silent old.place new.place (last_said said before (tells (place ++ links)))
        ∙ said_more before place links ∙ links_silent old new (ports_of_switch new.k) (last_said said before (tells place))

-- a change is told
pub told_place : (old new : SwitchView) → last_said place_said old.place (tells (changes_told old new)) ≡ new.place
told_place old new =
    changes_said place_said (λ u usable. refl) refl old new old.place
    ∙ cond_both (same_place old.place new.place) [] (Tell (TellPlace new.place) ∷ []) (λ acts. last_said place_said old.place (tells acts) ≡ new.place)
    (λ h. place_is old.place new.place h) (λ h. refl)

pub told_no_members : (old new : SwitchView) (group : ℕ) (before : Bool) → last_said (members_said group) before (tells (changes_told old new)) ≡ before
told_no_members old new group before =
    changes_said (members_said group) (λ u usable. refl) refl old new before
    ∙ cond_both (same_place old.place new.place) [] (Tell (TellPlace new.place) ∷ []) (λ acts. last_said (members_said group) before (tells acts) ≡ before)
    (λ h. refl) (λ h. refl)

-- Members.

module _ {K : Type 0} (R : K → K → Ordering) where
  pub key_kept : (k x : K) (xs : List K) → IsAmong x xs → IsAmong x (insert_key R xs k)
  key_kept k x [] h = absurd h
  key_kept k x (y ∷ xs) h = by (λ j. key_kept k x xs j) (R k y) h
    where
      by : (IsAmong x xs → IsAmong x (insert_key R xs k)) → (o : Ordering) → IsAmong x (y ∷ xs) →
          IsAmong x (match_ordering o (k ∷ y ∷ xs) (y ∷ xs) (y ∷ insert_key R xs k))
      by rest Less j = inr j
      by rest Equal j = j
      by rest Greater (inl is) = inl is
      by rest Greater (inr j) = inr (rest j)

  pub key_inserted : CmpEqualImpliesEq R → (k : K) (xs : List K) → IsAmong k (insert_key R xs k)
  key_inserted exact k [] = inl refl
  key_inserted exact k (y ∷ xs) = by (key_inserted exact k xs) (R k y) refl
    where
      by : IsAmong k (insert_key R xs k) → (o : Ordering) → R k y ≡ o → IsAmong k (match_ordering o (k ∷ y ∷ xs) (y ∷ xs) (y ∷ insert_key R xs k))
      by rest Less e = inl refl
      by rest Equal e = inl (sym (exact k y e))
      by rest Greater e = inr rest

pub among_groups : (group : ℕ) (ms : List Member) (acc : List ℕ) → IsAmong group acc ⊎ (has_member_of ms group ≡ true) →
    IsAmong group (fold (λ groups (m : Member). insert_key nat_cmp groups m.group) acc ms)
among_groups group [] acc (inl h) = h
among_groups group [] acc (inr h) = absurd (true≢false (sym h))
among_groups group (m ∷ ms) acc (inl h) = among_groups group ms (insert_key nat_cmp acc m.group) (inl (key_kept nat_cmp m.group group acc h))
among_groups group (m ∷ ms) acc (inr h) = elim (or_cases (m.group == group) (has_member_of ms group) h) [
  | inl is ↦
      among_groups group ms (insert_key nat_cmp acc m.group)
      (inl (subst (λ g. IsAmong g (insert_key nat_cmp acc m.group)) (eqb-true m.group group is) (key_inserted nat_cmp exact_unsigned m.group acc)))
  | inr rest ↦ among_groups group ms (insert_key nat_cmp acc m.group) (inr rest)
]

pub alike_is : (a b : Bool) → are_alike a b ≡ true → a ≡ b
alike_is true true h = refl
alike_is true false h = absurd (true≢false (sym h))
alike_is false true h = absurd (true≢false (sym h))
alike_is false false h = refl

module _ (old new : List Member) where
  pub groups_no_link : (u : SwitchId) (before : Bool) (gs : List ℕ) → last_said (link_said u) before (tells (flat_map (group_told old new) gs)) ≡ before
  groups_no_link u before gs =
      flat_silent (link_said u) (group_told old new) gs (λ g x.
      cond_both (are_alike (has_member_of old g) (has_member_of new g)) [] (Tell (Members g (has_member_of new g)) ∷ [])
      (λ acts. last_said (link_said u) x (tells acts) ≡ x) (λ h. refl) (λ h. refl)) before

  pub groups_no_place : (before : Place) (gs : List ℕ) → last_said place_said before (tells (flat_map (group_told old new) gs)) ≡ before
  groups_no_place before gs =
      flat_silent place_said (group_told old new) gs (λ g x.
      cond_both (are_alike (has_member_of old g) (has_member_of new g)) [] (Tell (Members g (has_member_of new g)) ∷ [])
      (λ acts. last_said place_said x (tells acts) ≡ x) (λ h. refl) (λ h. refl)) before

  module _ (group : ℕ) where
    abbrev had : Bool
    had = has_member_of old group

    abbrev has : Bool
    has = has_member_of new group

    abbrev after : Bool → List Act → Bool
    after x acts = last_said (members_said group) x (tells acts)

    -- a word of a group leaves what is said of the group as it is, or is about it
    word : (g : ℕ) (x y : Bool) → x ≡ y → (g ≡ group → has ≡ y) → after x (Tell (Members g (has_member_of new g)) ∷ []) ≡ y
    word g x y same own = by (g == group) refl
      where
        by : (b : Bool) → (g == group) ≡ b → unwrap_or (if b then Some (has_member_of new g) else None) x ≡ y
        by true e = let is = eqb-true g group e in ap (has_member_of new) is ∙ own is
        by false e = same

    one : (g : ℕ) (x : Bool) → x ≡ has → after x (group_told old new g) ≡ has
    one g x is =
        cond_both (are_alike (has_member_of old g) (has_member_of new g)) [] (Tell (Members g (has_member_of new g)) ∷ [])
        (λ acts. after x acts ≡ has) (λ h. is) (λ h. word g x has is (λ e. refl))

    stays : (gs : List ℕ) (x : Bool) → x ≡ has → after x (flat_map (group_told old new) gs) ≡ has
    stays [] x is = is
    stays (g ∷ gs) x is = said_more (members_said group) x (group_told old new g) (flat_map (group_told old new) gs) ∙ stays gs _ (one g x is)

    -- what is said first of a group is said of this one, or of another
    first : (g : ℕ) → (after had (group_told old new g) ≡ has) ⊎ ((after had (group_told old new g) ≡ had) × ((g ≡ group) → ⊥))
    first g = by (g == group) refl
      where
        here : g ≡ group → after had (group_told old new g) ≡ has
        here is =
            cond_both (are_alike (has_member_of old g) (has_member_of new g)) [] (Tell (Members g (has_member_of new g)) ∷ [])
            (λ acts. after had acts ≡ has)
            (λ h. ap (has_member_of old) (sym is) ∙ alike_is (has_member_of old g) (has_member_of new g) h ∙ ap (has_member_of new) is)
            (λ h. ap (λ (b : Bool). unwrap_or (if b then Some (has_member_of new g) else None) had) (eq-eqb g group is) ∙ ap (has_member_of new) is)

        by : (b : Bool) → (g == group) ≡ b → (after had (group_told old new g) ≡ has) ⊎ ((after had (group_told old new g) ≡ had) × ((g ≡ group) → ⊥))
        by true e = inl (here (eqb-true g group e))
        by false e = inr (
          cond_both (are_alike (has_member_of old g) (has_member_of new g)) [] (Tell (Members g (has_member_of new g)) ∷ [])
              (λ acts. after had acts ≡ had) (λ h. refl) (λ h. ap (λ (b : Bool). unwrap_or (if b then Some (has_member_of new g) else None) had) e),
          λ is. true≢false (sym (eq-eqb g group is) ∙ e),
        )

    told : (gs : List ℕ) → IsAmong group gs → after had (flat_map (group_told old new) gs) ≡ has
    told [] h = absurd h
    told (g ∷ gs) h = said_more (members_said group) had (group_told old new g) (flat_map (group_told old new) gs) ∙ elim (first g) [
      | inl now ↦ stays gs _ now
      | inr other ↦ ap (λ x. after x (flat_map (group_told old new) gs)) other.0 ∙ elim h [
        | inl is ↦ absurd (other.1 is)
        | inr later ↦ told gs later
      ]
    ]

    pub groups_are_told : after had (groups_told old new) ≡ has
    groups_are_told = by (has_member_of (old ++ new) group) refl
      where
        by : (b : Bool) → has_member_of (old ++ new) group ≡ b → after had (groups_told old new) ≡ has
        by true e = told (groups_of (old ++ new)) (among_groups group (old ++ new) [] (inr e))
        by false e =
            let two = or_parts had has (sym (any_append (λ m. m.group == group) old new) ∙ e) in
            stays (groups_of (old ++ new)) had (two.0 ∙ sym two.1)

-- A part of a step: the last that is said of the place and of members is true of the view then, and lists and parts stay.
pub record IsTelling (v : SwitchView) (s : SwitchStep) : Type 0 where
  pub place : last_said place_said v.place (tells s.acts) ≡ s.view.place
  pub members : (group : ℕ) → last_said (members_said group) (has_member_of v.members group) (tells s.acts) ≡ has_member_of s.view.members group
  pub avoid : s.view.avoid ≡ v.avoid
  pub parts : s.view.parts ≡ v.parts

pub then_telling : (v : SwitchView) (s : SwitchStep) (next : SwitchView → SwitchStep) → IsTelling v s → ((w : SwitchView) → IsTelling w (next w)) → IsTelling v (s ▹ next)
then_telling v s next a behind = let b = behind s.view in let rest = (next s.view).acts in record {
  place = said_more place_said v.place s.acts rest ∙ ap (λ x. last_said place_said x (tells rest)) a.place ∙ b.place;
  members = λ group.
      said_more (members_said group) (has_member_of v.members group) s.acts rest ∙ ap (λ x. last_said (members_said group) x (tells rest)) (a.members group)
      ∙ b.members group;
  avoid = b.avoid ∙ a.avoid;
  parts = b.parts ∙ a.parts;
}

pub step_telling : (v w : SwitchView) (acts : List Act) → w.place ≡ v.place → w.members ≡ v.members → w.avoid ≡ v.avoid → w.parts ≡ v.parts → AreUnsaid acts →
    IsTelling v (record { view = w; acts = acts })
step_telling v w acts place members avoid parts unsaid =
    let words = unsaid_words acts unsaid in
    record {
      place = last_silent place_said v.place (tells acts) (silent_place (tells acts) words) ∙ sym place;
      members = λ group.
          last_silent (members_said group) (has_member_of v.members group) (tells acts) (silent_members group (tells acts) words)
          ∙ ap (λ ms. has_member_of ms group) (sym members);
      avoid = avoid;
      parts = parts;
    }

pub does_telling : (v : SwitchView) (acts : List Act) → AreUnsaid acts → IsTelling v (does v acts)
does_telling v acts unsaid = step_telling v v acts refl refl refl refl unsaid

pub rests_telling : (v : SwitchView) → IsTelling v (rests v)
rests_telling v = does_telling v [] tt

-- A part that leaves the ports as they are too, and says nothing of links.
pub record IsStill (v : SwitchView) (s : SwitchStep) : Type 0 where
  pub telling : IsTelling v s
  pub id : s.view.id ≡ v.id
  pub k : s.view.k ≡ v.k
  pub ports : s.view.ports ≡ v.ports
  pub links : (u : SwitchId) (before : Bool) → last_said (link_said u) before (tells s.acts) ≡ before

pub then_still : (v : SwitchView) (s : SwitchStep) (next : SwitchView → SwitchStep) → IsStill v s → ((w : SwitchView) → IsStill w (next w)) → IsStill v (s ▹ next)
then_still v s next a behind = let b = behind s.view in let rest = (next s.view).acts in record {
  telling = then_telling v s next a.telling (λ w. (behind w).telling);
  id = b.id ∙ a.id;
  k = b.k ∙ a.k;
  ports = b.ports ∙ a.ports;
  links = λ u before. said_more (link_said u) before s.acts rest ∙ b.links u (last_said (link_said u) before (tells s.acts)) ∙ a.links u before;
}

pub either_still : (v : SwitchView) (b : Bool) (x y : SwitchStep) → IsStill v x → IsStill v y → IsStill v (if b then x else y)
either_still v true x y a b = a
either_still v false x y a b = b

pub step_still : (v w : SwitchView) (acts : List Act) → w.place ≡ v.place → w.members ≡ v.members → w.avoid ≡ v.avoid → w.parts ≡ v.parts →
    w.id ≡ v.id → w.k ≡ v.k → w.ports ≡ v.ports → AreUnsaid acts → IsStill v (record { view = w; acts = acts })
step_still v w acts place members avoid parts id k ports unsaid = record {
  telling = step_telling v w acts place members avoid parts unsaid;
  id = id;
  k = k;
  ports = ports;
  links = λ u before. last_silent (link_said u) before (tells acts) (silent_link u (tells acts) (unsaid_words acts unsaid));
}

pub does_still : (v : SwitchView) (acts : List Act) → AreUnsaid acts → IsStill v (does v acts)
does_still v acts unsaid = step_still v v acts refl refl refl refl refl refl refl unsaid

pub rests_still : (v : SwitchView) → IsStill v (rests v)
rests_still v = does_still v [] tt
