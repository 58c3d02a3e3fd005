-- Which level and which pod a location discovery message gives.
use Rattle.std.proofs.Common.{◌≡◌, ℕ, zero, suc, ◌⊎◌, ◌==◌, ◌&&◌, ◌||◌, not, Bool, true, false, if◌then◌else◌, List, [], ◌∷◌, Option, Some, None, is_some, is_none, get_or, refl, ◌∙◌, inl, inr}
use Rattle.std.specs.List.{list_any}
use Rattle.std.proofs.lemmas.Bool.{and_from, and_parts, eq-eqb, ne_eqb, or_left, or_right}
use Rattle.std.proofs.lemmas.Option.{same_Some}
use Rattle.pl_lemmas.proofs.Exports.{is_none_is, some_number}
use Rattle.pl_layouts.specs.declared.place.Place.{Place}
use Rattle.pl_layouts.specs.Placement.{is_known}
use Rattle.pl_layouts.proofs.Exports.{is_known_of, known_is}
use Rattle.pl_node.specs.declared.neighbour.PortRecord.{PortRecord}
use Rattle.pl_node.specs.PortRecords.{new_port}
use Rattle.pl_node.specs.SwitchViews.{SwitchView}
use Rattle.pl_switch_rule.specs.Levels.{is_of_other_pod, level_after, other_pod, pod_after, share_a_pod}

-- the levels that a message gives
pub data GivesLevel (old told : Place) (ports : List PortRecord) : Option ℕ → Type 0 where
  Stays : {level : Option ℕ} → (n : ℕ) → old.level ≡ Some n → level ≡ Some n → GivesLevel old told ports level
  FromEdge : {level : Option ℕ} → old.level ≡ None → told.level ≡ Some 0 → level ≡ Some 1 → GivesLevel old told ports level
  FromPods : {level : Option ℕ} → old.level ≡ None → told.level ≡ Some 1 → list_any (is_of_other_pod told.pod) ports ≡ true → level ≡ Some 2 → GivesLevel old told ports level
  Unknown : {level : Option ℕ} → old.level ≡ None → (told.level ≡ Some 0 → ⊥) → (told.level ≡ Some 1 → list_any (is_of_other_pod told.pod) ports ≡ true → ⊥) → level ≡ None →
      GivesLevel old told ports level

not_some : (o : Option ℕ) → is_some o ≡ false → o ≡ None
not_some None h = refl
not_some (Some n) h = absurd (cc)

pub level_given : (w : SwitchView) (told : Place) → GivesLevel w.place told w.ports (level_after w told)
level_given w told = by (is_some w.place.level) (is_known told.level 0) (is_known told.level 1 && list_any (is_of_other_pod told.pod) w.ports) refl refl refl
  where
    by : (a b c : Bool) → is_some w.place.level ≡ a → is_known told.level 0 ≡ b → (is_known told.level 1 && list_any (is_of_other_pod told.pod) w.ports) ≡ c →
        GivesLevel w.place told w.ports (if a then w.place.level else if b then Some 1 else if c then Some 2 else None)
    by true b c ea eb ec = let some = some_number w.place.level ea in Stays some.0 some.1 some.1
    by false true c ea eb ec = FromEdge (not_some w.place.level ea) (known_is told.level 0 eb) refl
    by false false true ea eb ec =
        let both = and_parts (is_known told.level 1) (list_any (is_of_other_pod told.pod) w.ports) ec in
        FromPods (not_some w.place.level ea) (known_is told.level 1 both.0) both.1 refl
    by false false false ea eb ec =
        Unknown (not_some w.place.level ea) (λ e. absurd (let t = is_known_of told.level 0 e in cc))
        (λ e any. absurd (let t = and_from (is_known told.level 1) (list_any (is_of_other_pod told.pod) w.ports) (is_known_of told.level 1 e) any in cc)) refl

-- and the pods
pub data GivesPod (place told : Place) : Option ℕ → Type 0 where
  KeptPod : {pod : Option ℕ} → pod ≡ place.pod → (place.pod ≡ None → share_a_pod place.level told.level ≡ true → ⊥) → GivesPod place told pod
  ToldPod : {pod : Option ℕ} → place.pod ≡ None → share_a_pod place.level told.level ≡ true → pod ≡ told.pod → GivesPod place told pod

pub pod_given : (place told : Place) → GivesPod place told (pod_after place told)
pod_given place told = by (is_none place.pod && share_a_pod place.level told.level) refl
  where
    none_of : (o : Option ℕ) → o ≡ None → is_none o ≡ true
    none_of None e = refl
    none_of (Some n) e = absurd (cc)

    by : (b : Bool) → (is_none place.pod && share_a_pod place.level told.level) ≡ b → GivesPod place told (if b then told.pod else place.pod)
    by true e = let both = and_parts (is_none place.pod) (share_a_pod place.level told.level) e in ToldPod (is_none_is place.pod both.0) both.1 refl
    by false e = KeptPod refl (λ none share. absurd (let t = and_from (is_none place.pod) (share_a_pod place.level told.level) (none_of place.pod none) share in cc))

-- two levels within a pod
pub share_levels : (a b : Option ℕ) → share_a_pod a b ≡ true → ((a ≡ Some 0) × (b ≡ Some 1)) ⊎ ((a ≡ Some 1) × (b ≡ Some 0))
share_levels a b h = by (is_known a 0 && is_known b 1) (is_known a 1 && is_known b 0) refl refl h
  where
    by : (x y : Bool) → (is_known a 0 && is_known b 1) ≡ x → (is_known a 1 && is_known b 0) ≡ y → (x || y) ≡ true →
        ((a ≡ Some 0) × (b ≡ Some 1)) ⊎ ((a ≡ Some 1) × (b ≡ Some 0))
    by true y ex ey h = let both = and_parts (is_known a 0) (is_known b 1) ex in inl (known_is a 0 both.0, known_is b 1 both.1)
    by false true ex ey h = let both = and_parts (is_known a 1) (is_known b 0) ey in inr (known_is a 1 both.0, known_is b 0 both.1)
    by false false ex ey h = absurd (cc)

pub shares_down : (a b : Option ℕ) → a ≡ Some 0 → b ≡ Some 1 → share_a_pod a b ≡ true
shares_down a b e f = rw (e, f) refl

pub shares_up : (a b : Option ℕ) → a ≡ Some 1 → b ≡ Some 0 → share_a_pod a b ≡ true
shares_up a b e f = rw (e, f) refl

-- a record of another pod is found
pub other_is : (a b : Option ℕ) (x : ℕ) → other_pod a b ≡ true → a ≡ Some x → (y : ℕ) × (b ≡ Some y) × (x ≡ y → ⊥)
other_is a None x h e = absurd (by a h)
  where
    by : (a : Option ℕ) → other_pod a None ≡ true → ⊥
    by None h = cc
    by (Some n) h = cc
other_is a (Some y) x h e = (y, refl, λ same. apart a h e same)
  where
    apart : (a : Option ℕ) → other_pod a (Some y) ≡ true → a ≡ Some x → x ≡ y → ⊥
    apart None h e same = cc
    apart (Some n) h e same =
        let n_is : n ≡ y = same_Some n x e ∙ same in
        let t = eq-eqb n y n_is in
        let u : not (n == y) ≡ true = h in absurd (by (n == y) t u)
      where
        by : (b : Bool) → b ≡ true → not b ≡ true → ⊥
        by true e h = cc
        by false e h = cc

pub other_some : (a b : Option ℕ) → other_pod a b ≡ true → (x : ℕ) × (a ≡ Some x)
other_some None b h = absurd (cc)
other_some (Some x) b h = (x, refl)

-- the port with such a record
pub found_other : (pod : Option ℕ) (ports : List PortRecord) → list_any (is_of_other_pod pod) ports ≡ true →
    (p : ℕ) × (is_of_other_pod pod (get_or ports p new_port) ≡ true)
found_other pod [] h = absurd (cc)
found_other pod (r ∷ ports) h = by (is_of_other_pod pod r) refl (λ e. found_other pod ports e) h
  where
    by : (b : Bool) → is_of_other_pod pod r ≡ b → (list_any (is_of_other_pod pod) ports ≡ true → (p : ℕ) × (is_of_other_pod pod (get_or ports p new_port) ≡ true)) →
        (b || list_any (is_of_other_pod pod) ports) ≡ true → (p : ℕ) × (is_of_other_pod pod (get_or (r ∷ ports) p new_port) ≡ true)
    by true e rest h = (zero, e)
    by false e rest h = let found = rest h in (suc found.0, found.1)

pub has_other : (pod : Option ℕ) (ports : List PortRecord) (p : ℕ) → is_of_other_pod pod (get_or ports p new_port) ≡ true → list_any (is_of_other_pod pod) ports ≡ true
has_other pod [] p h = absurd (cc)
has_other pod (r ∷ ports) zero h = or_left (is_of_other_pod pod r) (list_any (is_of_other_pod pod) ports) h
has_other pod (r ∷ ports) (suc p) h = or_right (is_of_other_pod pod r) (list_any (is_of_other_pod pod) ports) (has_other pod ports p h)

pub other_from : (x y : ℕ) → (x ≡ y → ⊥) → other_pod (Some x) (Some y) ≡ true
other_from x y differ = rw (ne_eqb x y differ) refl
