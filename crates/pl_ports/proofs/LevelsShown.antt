-- The level that the records of a switch's ports show, as they change.
use Rattle.std.proofs.Common.{◌≡◌, ◌≢◌, ℕ, zero, suc, ◌<◌, Bool, true, false, Option, Some, None, List, [], ◌∷◌, length, map, replicate, get_or, set, refl, sym, ap, ◌∙◌, subst, inl, inr, arith}
use Rattle.std.specs.Prelude.{◌&&◌, ◌||◌, if◌then◌else◌, is_some}
use Rattle.std.specs.List.{cons_option, filter_map, list_any}
use Rattle.std.proofs.lemmas.Bool.{and_from, and_parts, cases_eq, eq-eqb, ne_eqb, or_parts}
use Rattle.std.proofs.Math.Bool.{and-false, or-false}
use Rattle.std.proofs.lemmas.List.{get_or-set_other, get_or-set_same, length-set}
use Rattle.std.proofs.lemmas.List.Folds.{list_any_at}
use Rattle.pl_frame.specs.declared.address.SwitchId.{SwitchId}
use Rattle.pl_layouts.specs.declared.control.Ldm.{Ldm}
use Rattle.pl_layouts.specs.Placement.{is_known}
use Rattle.pl_node.specs.declared.neighbour.PortRecord.{PortRecord}
use Rattle.pl_node.specs.PortRecords.{aged, heard_place, new_port}
use Rattle.pl_node.specs.SwitchViews.{SwitchView}
use Rattle.pl_journal.specs.Flights.{first_of}
use Rattle.pl_switch_rule.specs.Levels.{is_of_other_pod, learns_level, other_pod, told_pod, with_message}
use Rattle.pl_ports.specs.Changes.{with_host}
use Rattle.pl_ports.specs.Evidence.{are_of_two_pods, is_of_level, level_shown}
use Rattle.pl_ports.proofs.PodsTold.{first_told}

abbrev level_by : Bool → Bool → Bool → Option ℕ
level_by has_host hears_edge hears_pods = if has_host then Some 0 else if hears_edge then Some 1 else if hears_pods then Some 2 else None

abbrev has_host : PortRecord → Bool
has_host r = r.host

-- an aggregation switch, and another in a different pod among these
abbrev differs_among : List PortRecord → PortRecord → Bool
differs_among rs r = is_of_level 1 r && list_any (is_of_other_pod (heard_place r.heard).pod) rs

shows_none : (a b c : Bool) → level_by a b c ≡ None → (a ≡ false) × (b ≡ false) × (c ≡ false)
shows_none true b c h = absurd cc
shows_none false true c h = absurd cc
shows_none false false true h = absurd cc
shows_none false false false h = (refl, refl, refl)

-- a test that no record passes, and one record that is replaced

module _ (p : PortRecord → Bool) where
  any_set : (rs : List PortRecord) (i : ℕ) (r : PortRecord) → i < length rs → list_any p rs ≡ false → list_any p (set rs i r) ≡ p r
  any_set [] i r within none = absurd (omega arith)
  any_set (x ∷ rs) zero r within none = ap (λ b. p r || b) (or_parts (p x) (list_any p rs) none).1 ∙ or-false (p r)
  any_set (x ∷ rs) (suc i) r within none =
      let parts = or_parts (p x) (list_any p rs) none in
      ap (λ b. b || list_any p (set rs i r)) parts.0 ∙ any_set rs i r (omega arith) parts.1

  none_at : (rs : List PortRecord) (i : ℕ) (d : PortRecord) → i < length rs → list_any p rs ≡ false → p (get_or rs i d) ≡ false
  none_at [] i d within none = absurd (omega arith)
  none_at (x ∷ rs) zero d within none = (or_parts (p x) (list_any p rs) none).0
  none_at (x ∷ rs) (suc i) d within none = none_at rs i d (omega arith) (or_parts (p x) (list_any p rs) none).1

  none_where : (rs : List PortRecord) (d : PortRecord) → ((i : ℕ) → i < length rs → p (get_or rs i d) ≡ false) → list_any p rs ≡ false
  none_where [] d h = refl
  none_where (x ∷ rs) d h =
      ap (λ b. b || list_any p rs) (h 0 (omega arith)) ∙ none_where rs d (λ i within. h (suc i) (omega arith))

  any_replicate : (n : ℕ) → p new_port ≡ false → list_any p (replicate n new_port) ≡ false
  any_replicate zero h = refl
  any_replicate (suc n) h = ap (λ b. b || list_any p (replicate n new_port)) h ∙ any_replicate n h

  any_aged : ((r : PortRecord) → p (aged r) ≡ p r) → (rs : List PortRecord) → list_any p (map aged rs) ≡ list_any p rs
  any_aged h [] = refl
  any_aged h (r ∷ rs) = ap (λ b. b || list_any p (map aged rs)) (h r) ∙ ap (λ b. p r || b) (any_aged h rs)

any_alike : (p q : PortRecord → Bool) → ((r : PortRecord) → p r ≡ q r) → (rs : List PortRecord) → list_any p rs ≡ list_any q rs
any_alike p q h [] = refl
any_alike p q h (r ∷ rs) = ap (λ b. b || list_any p rs) (h r) ∙ ap (λ b. q r || b) (any_alike p q h rs)

differs_not : (level other : Bool) → (level ≡ true → other ≡ false) → (level && other) ≡ false
differs_not true other h = h refl
differs_not false other h = refl

true_false : true ≡ false → ⊥
true_false e = cc

-- different pods differ either way
other_turned : (a b : Option ℕ) → other_pod a b ≡ true → other_pod b a ≡ true
other_turned None b h = absurd cc
other_turned (Some a) None h = absurd cc
other_turned (Some a) (Some b) h =
    elim (cases_eq a b) [
      | inl same ↦ let e = rw (same, eq-eqb b b refl) at h in absurd cc
      | inr apart ↦ rw (ne_eqb b a (λ e. apart (sym e))) refl
    ]

pub at_first : (k : ℕ) → level_shown (replicate k new_port) ≡ None
at_first k =
    ap (λ b. level_by b (list_any (is_of_level 0) (replicate k new_port)) (are_of_two_pods (replicate k new_port))) (any_replicate has_host k refl)
    ∙ ap (λ b. level_by false b (are_of_two_pods (replicate k new_port))) (any_replicate (is_of_level 0) k refl)
    ∙ ap (λ b. level_by false false b) (any_replicate (differs_among (replicate k new_port)) k refl)

pods_aged : (rs : List PortRecord) → are_of_two_pods (map aged rs) ≡ are_of_two_pods rs
pods_aged rs = any_aged (differs_among (map aged rs)) (λ r. refl) rs ∙ any_alike (differs_among (map aged rs)) (differs_among rs)
    (λ r. ap (λ b. is_of_level 1 r && b) (any_aged (is_of_other_pod (heard_place r.heard).pod) (λ x. refl) rs)) rs

pub once_aged : (rs : List PortRecord) → level_shown (map aged rs) ≡ level_shown rs
once_aged rs =
    ap (λ b. level_by b (list_any (is_of_level 0) (map aged rs)) (are_of_two_pods (map aged rs))) (any_aged has_host (λ r. refl) rs)
    ∙ ap (λ b. level_by (list_any has_host rs) b (are_of_two_pods (map aged rs))) (any_aged (is_of_level 0) (λ r. refl) rs)
    ∙ ap (λ b. level_by (list_any has_host rs) (list_any (is_of_level 0) rs) b) (pods_aged rs)

pub with_a_host : (v : SwitchView) (port : ℕ) → port < length v.ports → level_shown (with_host v port).ports ≡ Some 0
with_a_host v port within =
    let r : PortRecord = record (get_or v.ports port new_port) { host = true } in
    let rs = set v.ports port r in
    let there : port < length rs = omega (arith, length-set v.ports port r) in
    ap (λ b. level_by b (list_any (is_of_level 0) rs) (are_of_two_pods rs))
    (list_any_at has_host rs port new_port there (ap has_host (get_or-set_same v.ports port r new_port within)))

-- A record is replaced where the others show no level.
module _ (rs : List PortRecord) (port : ℕ) (r : PortRecord) (within : port < length rs) (none : are_of_two_pods rs ≡ false) where
  abbrev after : List PortRecord
  after = set rs port r

  there : port < length after
  there = omega (arith, length-set rs port r)

  is_there : get_or after port new_port ≡ r
  is_there = get_or-set_same rs port r new_port within

  both_pods : differs_among after r ≡ true → are_of_two_pods after ≡ true
  both_pods h = list_any_at (differs_among after) after port new_port there (ap (differs_among after) is_there ∙ h)

  -- one of the others differs from it as it differs from that one
  seen_back : (i : ℕ) → i < length after → i ≢ port → is_of_level 1 (get_or rs i new_port) ≡ true →
      is_of_other_pod (heard_place (get_or rs i new_port).heard).pod r ≡ true → differs_among after r ≡ true
  seen_back i inside apart level differs =
      let x = get_or rs i new_port in
      let parts = and_parts (is_known (heard_place r.heard).level 1) (other_pod (heard_place x.heard).pod (heard_place r.heard).pod) differs in
      let back = and_from (is_of_level 1 x) (other_pod (heard_place r.heard).pod (heard_place x.heard).pod) level (other_turned (heard_place x.heard).pod (heard_place r.heard).pod parts.1) in
      and_from (is_of_level 1 r) (list_any (is_of_other_pod (heard_place r.heard).pod) after) parts.0
      (list_any_at (is_of_other_pod (heard_place r.heard).pod) after i new_port inside
      (ap (is_of_other_pod (heard_place r.heard).pod) (get_or-set_other rs port i r new_port apart) ∙ back))

  false_unless : (b : Bool) → (b ≡ true → ⊥) → b ≡ false
  false_unless true h = absurd (h refl)
  false_unless false h = refl

  apart_none : (i : ℕ) → differs_among after r ≡ false → i < length after → i ≢ port → differs_among after (get_or rs i new_port) ≡ false
  apart_none i alone inside apart =
      let x = get_or rs i new_port in
      let pod = (heard_place x.heard).pod in
      let before : differs_among rs x ≡ false = none_at (differs_among rs) rs i new_port (omega (arith, length-set rs port r)) none in
      differs_not (is_of_level 1 x) (list_any (is_of_other_pod pod) after)
      (λ level. any_set (is_of_other_pod pod) rs port r within (ap (λ b. b && list_any (is_of_other_pod pod) rs) (sym level) ∙ before)
      ∙ false_unless (is_of_other_pod pod r) (λ differs. let e = seen_back i inside apart level differs in absurd (true_false (sym e ∙ alone))))

  no_pods : differs_among after r ≡ false → are_of_two_pods after ≡ false
  no_pods alone = none_where (differs_among after) after new_port
      (λ i inside. elim (cases_eq i port) [
        | inl same ↦ subst (λ n. differs_among after (get_or after n new_port) ≡ false) (sym same) (ap (differs_among after) is_there ∙ alone)
        | inr apart ↦ ap (differs_among after) (get_or-set_other rs port i r new_port apart) ∙ apart_none i alone inside apart
      ])

  pub pods_then : are_of_two_pods after ≡ differs_among after r
  pods_then = by (differs_among after r) refl
    where
      by : (b : Bool) → differs_among after r ≡ b → are_of_two_pods after ≡ b
      by true h = both_pods h
      by false h = no_pods h

-- the level that a message gives is the one that the records then show
pub with_a_message : (v : SwitchView) (port : ℕ) (id : SwitchId) (m : Ldm) → port < length v.ports → v.place.level ≡ None → level_shown v.ports ≡ None →
    (learns_level (with_message v port id m) m.place).place.level ≡ level_shown (with_message v port id m).ports
with_a_message v port id m within unknown none =
    let r : PortRecord = record { host = (get_or v.ports port new_port).host; heard = Some (record { id = id; place = m.place; echo = m.echo }); silent = 0 } in
    let rs = set v.ports port r in
    let shown = shows_none (list_any has_host v.ports) (list_any (is_of_level 0) v.ports) (are_of_two_pods v.ports) none in
    let host : list_any has_host rs ≡ false = any_set has_host v.ports port r within shown.0 ∙ none_at has_host v.ports port new_port within shown.0 in
    let edge : list_any (is_of_level 0) rs ≡ is_known m.place.level 0 = any_set (is_of_level 0) v.ports port r within shown.1 in
    let pods : are_of_two_pods rs ≡ differs_among rs r = pods_then v.ports port r within shown.2 in
    ap (λ l. if is_some l then l else if is_known m.place.level 0 then Some 1 else if differs_among rs r then Some 2 else None) unknown
    ∙ sym (ap (λ b. level_by b (list_any (is_of_level 0) rs) (are_of_two_pods rs)) host
    ∙ ap (λ b. level_by false b (are_of_two_pods rs)) edge
    ∙ ap (λ b. level_by false (is_known m.place.level 0) b) pods)

-- The first pod that was told decides whether there are two.

first_none : (o : Option ℕ) (pods : List ℕ) → first_of (cons_option o pods) ≡ None → (o ≡ None) × (first_of pods ≡ None)
first_none None pods h = (refl, h)
first_none (Some p) pods h = absurd cc

told_is : (is_aggregation : Bool) (pod : Option ℕ) (p : ℕ) → (if is_aggregation then pod else None) ≡ Some p → (is_aggregation ≡ true) × (pod ≡ Some p)
told_is true pod p h = (refl, h)
told_is false pod p h = absurd cc

told_none : (is_aggregation : Bool) (pod : Option ℕ) → (if is_aggregation then pod else None) ≡ None → is_aggregation ≡ true → pod ≡ None
told_none true pod h level = h
told_none false pod h level = absurd cc

none_told : (rs : List PortRecord) (i : ℕ) → i < length rs → first_told rs ≡ None → told_pod (get_or rs i new_port) ≡ None
none_told [] i inside h = absurd (omega arith)
none_told (r ∷ rs) zero inside h = (first_none (told_pod r) (filter_map told_pod rs) h).0
none_told (r ∷ rs) (suc i) inside h = none_told rs i (omega arith) (first_none (told_pod r) (filter_map told_pod rs) h).1

abbrev LevelIsTold : List PortRecord → ℕ → Type 0
LevelIsTold rs p = (i : ℕ) × (i < length rs) × (told_pod (get_or rs i new_port) ≡ Some p)

told_in_front : (r : PortRecord) (rs : List PortRecord) (p : ℕ) → (first_told rs ≡ Some p → LevelIsTold rs p) → (o : Option ℕ) → told_pod r ≡ o →
    first_of (cons_option o (filter_map told_pod rs)) ≡ Some p → LevelIsTold (r ∷ rs) p
told_in_front r rs p later None is rest = let found = later rest in (suc found.0, omega (arith, found.1), found.2)
told_in_front r rs p later (Some q) is here = (0, omega arith, is ∙ here)

some_told : (rs : List PortRecord) (p : ℕ) → first_told rs ≡ Some p → LevelIsTold rs p
some_told [] p h = absurd cc
some_told (r ∷ rs) p h = told_in_front r rs p (some_told rs p) (told_pod r) refl h

no_other : (rs : List PortRecord) → list_any (is_of_other_pod None) rs ≡ false
no_other rs = none_where (is_of_other_pod None) rs new_port (λ i inside. and-false (is_of_level 1 (get_or rs i new_port)))

no_pods_told : (rs : List PortRecord) → first_told rs ≡ None → are_of_two_pods rs ≡ false
no_pods_told rs h = none_where (differs_among rs) rs new_port
    (λ i inside. let x = get_or rs i new_port in
    differs_not (is_of_level 1 x) (list_any (is_of_other_pod (heard_place x.heard).pod) rs)
    (λ level. ap (λ pod. list_any (is_of_other_pod pod) rs) (told_none (is_of_level 1 x) (heard_place x.heard).pod (none_told rs i inside h) level) ∙ no_other rs))

module _ (rs : List PortRecord) (p : ℕ) (alone : list_any (is_of_other_pod (Some p)) rs ≡ false) where
  one_pod_at : (i : ℕ) → i < length rs → is_of_level 1 (get_or rs i new_port) ≡ true → (o : Option ℕ) → (heard_place (get_or rs i new_port).heard).pod ≡ o →
      list_any (is_of_other_pod o) rs ≡ false
  one_pod_at i inside level None is = no_other rs
  one_pod_at i inside level (Some a) is =
      elim (cases_eq a p) [
        | inl same ↦ ap (λ n. list_any (is_of_other_pod (Some n)) rs) same ∙ alone
        | inr apart ↦
            let differs : other_pod (Some p) (Some a) ≡ true = rw (ne_eqb p a (λ e. apart (sym e))) refl in
            let found = and_from (is_of_level 1 (get_or rs i new_port)) (other_pod (Some p) (heard_place (get_or rs i new_port).heard).pod) level
            (ap (other_pod (Some p)) is ∙ differs) in
            absurd (true_false (sym found ∙ none_at (is_of_other_pod (Some p)) rs i new_port inside alone))
      ]

  one_pod : are_of_two_pods rs ≡ false
  one_pod = none_where (differs_among rs) rs new_port
      (λ i inside. let x = get_or rs i new_port in
      differs_not (is_of_level 1 x) (list_any (is_of_other_pod (heard_place x.heard).pod) rs)
      (λ level. one_pod_at i inside level (heard_place x.heard).pod refl))

two_pods : (rs : List PortRecord) (p : ℕ) → first_told rs ≡ Some p → list_any (is_of_other_pod (Some p)) rs ≡ true → are_of_two_pods rs ≡ true
two_pods rs p h other =
    let at = some_told rs p h in
    let x = get_or rs at.0 new_port in
    let told = told_is (is_of_level 1 x) (heard_place x.heard).pod p at.2 in
    list_any_at (differs_among rs) rs at.0 new_port at.1
    (and_from (is_of_level 1 x) (list_any (is_of_other_pod (heard_place x.heard).pod) rs) told.0
    (ap (λ pod. list_any (is_of_other_pod pod) rs) told.1 ∙ other))

-- another pod than the first that was told
pub by_first_pod : (rs : List PortRecord) → list_any (is_of_other_pod (first_told rs)) rs ≡ are_of_two_pods rs
by_first_pod rs = by (first_told rs) refl
  where
    given : (p : ℕ) → first_told rs ≡ Some p → (b : Bool) → list_any (is_of_other_pod (Some p)) rs ≡ b → b ≡ are_of_two_pods rs
    given p h true other = sym (two_pods rs p h other)
    given p h false other = sym (one_pod rs p other)

    by : (o : Option ℕ) → first_told rs ≡ o → list_any (is_of_other_pod o) rs ≡ are_of_two_pods rs
    by None h = no_other rs ∙ sym (no_pods_told rs h)
    by (Some p) h = given p h (list_any (is_of_other_pod (Some p)) rs) refl
