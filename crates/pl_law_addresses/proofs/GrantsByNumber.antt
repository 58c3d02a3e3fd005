-- Grants by their numbers and by their addresses.
use Rattle.std.proofs.Common.{◌≡◌, ◌≢◌, ◌≤◌, ◌<◌, ◌+◌, ◌-◌, ◌==◌, ◌&&◌, ℕ, zero, suc, Bool, true, false, cond, get_or, set, List, [], ◌∷◌, ◌++◌, length, Option, Some, None, is_some, unwrap_or, slice_get, refl, sym, ap, subst, ◌∙◌, inl, inr, arith, eqb-true, eq-eqb, get_or-set_same, get_or-set_other}
use Rattle.std.specs.List.{position_from}
use Rattle.std.proofs.lemmas.Bool.{and_from, and_parts, cases_Bool, cases_eq, cases_lt, false≢true}
use Rattle.std.proofs.lemmas.List.{get_or_past}
use Rattle.std.proofs.lemmas.Option.{none-some, same_Some, slice_get_within}
use Rattle.pl_frame.specs.declared.address.Mac.{Mac}
use Rattle.pl_pmac.specs.declared.pmac.Pmac.{Pmac}
use Rattle.pl_layouts.specs.declared.place.Place.{Place}
use Rattle.pl_layouts.specs.Equality.{same_mac, same_pmac}
use Rattle.pl_layouts.specs.Placement.{is_known, is_placed}
use Rattle.pl_layouts.proofs.Exports.{known_is, mac_is, mac_itself}
use Rattle.pl_node.specs.AddressUses.{is_in_use}
use Rattle.pl_node.specs.declared.switch_records.Grant.{Grant}
use Rattle.pl_node.specs.SwitchViews.{SwitchView}
use Rattle.pl_switch_rule.specs.Granting.{address_at_port, grant_number, granted, grants_at, in_use, is_local, with_grants}
use Rattle.pl_switch_rule.proofs.Exports.{granted_parts}
use Rattle.pl_law_addresses.specs.EdgeAddresses.{is_settled}
use Rattle.pl_law_addresses.proofs.AddressLemmas.{get-set_other, get-set_same, same_by}

-- ---- by number
pub number_one_more : (gs : List Grant) (n : ℕ) → grant_number gs (suc n) ≡ slice_get gs n
number_one_more gs n =
    let other : (suc n == 0) ≡ false = zero_apart (suc n) (omega arith) in
    let less : suc n - 1 ≡ n = omega arith in
    ap (λ b. cond b None (slice_get gs (suc n - 1))) other ∙ ap (λ m. slice_get gs m) less
  where
    zero_apart : (m : ℕ) → 0 < m → (m == 0) ≡ false
    zero_apart m h = elim (cases_Bool (m == 0)) [ inl is ↦ (let z = eqb-true m 0 is in absurd (omega (arith, h, z))) | inr other ↦ other ]

-- a grant that is found by its number has one of the list
pub number_within : (gs : List Grant) (n : ℕ) (g : Grant) → grant_number gs n ≡ Some g → (0 < n) × (n ≤ length gs)
number_within gs zero g is = absurd (none-some g is)
number_within gs (suc n) g is =
    let within = slice_get_within gs n g (sym (number_one_more gs n) ∙ is) in (omega arith, omega (arith, within))

pub number_set_same : (gs : List Grant) (n : ℕ) (h g : Grant) → grant_number gs n ≡ Some h → grant_number (set gs (n - 1) g) n ≡ Some g
number_set_same gs zero h g is = absurd (none-some h is)
number_set_same gs (suc n) h g is =
    let within = slice_get_within gs n h (sym (number_one_more gs n) ∙ is) in
    let less : suc n - 1 ≡ n = omega arith in
    number_one_more (set gs (suc n - 1) g) n ∙ ap (λ m. slice_get (set gs m g) n) less ∙ get-set_same gs n g within

pub number_set_other : (gs : List Grant) (n m : ℕ) (g : Grant) → 0 < n → m ≢ n → grant_number (set gs (n - 1) g) m ≡ grant_number gs m
number_set_other gs n zero g some other = refl
number_set_other gs zero (suc m) g some other = absurd (omega (arith, some))
number_set_other gs (suc n) (suc m) g some other =
    let less : suc n - 1 ≡ n = omega arith in
    number_one_more (set gs (suc n - 1) g) m ∙ ap (λ k. slice_get (set gs k g) m) less ∙ get-set_other gs n m g (λ e. other (ap suc e)) ∙ sym (number_one_more gs m)

get_push_same : (gs : List Grant) (g : Grant) → slice_get (gs ++ g ∷ []) (length gs) ≡ Some g
get_push_same [] g = refl
get_push_same (h ∷ gs) g = get_push_same gs g

get_push_other : (gs : List Grant) (g : Grant) (n : ℕ) → n ≢ length gs → slice_get (gs ++ g ∷ []) n ≡ slice_get gs n
get_push_other [] g zero other = absurd (other refl)
get_push_other [] g (suc n) other = refl
get_push_other (h ∷ gs) g zero other = refl
get_push_other (h ∷ gs) g (suc n) other = get_push_other gs g n (λ e. other (ap suc e))

pub number_push_same : (gs : List Grant) (g : Grant) → grant_number (gs ++ g ∷ []) (length gs + 1) ≡ Some g
number_push_same gs g =
    let one : length gs + 1 ≡ suc (length gs) = omega arith in
    ap (λ n. grant_number (gs ++ g ∷ []) n) one ∙ number_one_more (gs ++ g ∷ []) (length gs) ∙ get_push_same gs g

pub number_push_other : (gs : List Grant) (g : Grant) (n : ℕ) → n ≢ length gs + 1 → grant_number (gs ++ g ∷ []) n ≡ grant_number gs n
number_push_other gs g zero other = refl
number_push_other gs g (suc n) other =
    let one : length gs + 1 ≡ suc (length gs) = omega arith in
    number_one_more (gs ++ g ∷ []) n ∙ get_push_other gs g n (λ e. other (ap suc e ∙ sym one)) ∙ sym (number_one_more gs n)

-- the number behind the last one is not there
pub number_past : (gs : List Grant) → grant_number gs (length gs + 1) ≡ None
number_past gs = by (grant_number gs (length gs + 1)) refl
  where
    by : (o : Option Grant) → grant_number gs (length gs + 1) ≡ o → o ≡ None
    by None is = refl
    by (Some g) is = let most = (number_within gs (length gs + 1) g is).1 in absurd (omega (arith, most))

-- ---- the address in use
-- where the first that passes is
pub record IsFirst {X : Type 0} (t : X → Bool) (xs : List X) (i n : ℕ) : Type 0 where
  pub at : ℕ
  pub item : X
  pub is : n ≡ i + at
  pub found : slice_get xs at ≡ Some item
  pub passes : t item ≡ true

pub first_passes : {X : Type 0} (t : X → Bool) (xs : List X) (i n : ℕ) → position_from t i xs ≡ Some n → IsFirst t xs i n
first_passes t [] i n h = absurd (none-some n h)
first_passes t (x ∷ xs) i n h = by (λ k. first_passes t xs (i + 1) n k) (t x) refl h
  where
    by : (position_from t (i + 1) xs ≡ Some n → IsFirst t xs (i + 1) n) → (b : Bool) → t x ≡ b → cond b (Some i) (position_from t (i + 1) xs) ≡ Some n →
        IsFirst t (x ∷ xs) i n
    by rest true passes k = record { at = 0; item = x; is = sym (same_Some i n k) ∙ (omega arith); found = refl; passes = passes }
    by rest false fails k =
        let f = rest k in let it = f.is in record { at = suc f.at; item = f.item; is = omega (arith, it); found = f.found; passes = f.passes }

pub none_passes : {X : Type 0} (t : X → Bool) (xs : List X) (i : ℕ) → position_from t i xs ≡ None → (j : ℕ) (x : X) → slice_get xs j ≡ Some x → t x ≡ false
none_passes {X = X} t [] i h j x is = absurd (none-some x is)
none_passes {X = X} t (y ∷ xs) i h j x is = by (λ k. none_passes t xs (i + 1) k) (t y) refl h j is
  where
    by : (position_from t (i + 1) xs ≡ None → (j : ℕ) (x : X) → slice_get xs j ≡ Some x → t x ≡ false) → (b : Bool) → t y ≡ b →
        cond b (Some i) (position_from t (i + 1) xs) ≡ None → (j : ℕ) → slice_get (y ∷ xs) j ≡ Some x → t x ≡ false
    by rest true passes k j is = absurd (none-some i (sym k))
    by rest false fails k zero is = ap t (sym (same_Some y x is)) ∙ fails
    by rest false fails k (suc j) is = rest k j x is

-- the address that a host has in use at a port
pub record IsInUse (gs : List Grant) (mac : Mac) (vmid : ℕ) : Type 0 where
  pub grant : Grant
  pub found : grant_number gs vmid ≡ Some grant
  pub used : is_in_use grant.held ≡ true
  pub mac_is : grant.amac ≡ mac

pub used_is : (gs : List Grant) (mac : Mac) (vmid : ℕ) → in_use gs mac ≡ Some vmid → IsInUse gs mac vmid
used_is gs mac vmid h =
    let f = first_passes (λ (g : Grant). is_in_use g.held && same_mac g.amac mac) gs 1 vmid h in
    let it = f.is in let one : vmid ≡ suc f.at = omega (arith, it) in
    let both = and_parts (is_in_use f.item.held) (same_mac f.item.amac mac) f.passes in
    record {
      grant = f.item;
      found = ap (λ n. grant_number gs n) one ∙ number_one_more gs f.at ∙ f.found;
      used = both.0;
      mac_is = mac_is f.item.amac mac both.1;
    }

pub none_used : (gs : List Grant) (mac : Mac) → in_use gs mac ≡ None → (n : ℕ) (g : Grant) → grant_number gs n ≡ Some g → is_in_use g.held ≡ true → g.amac ≡ mac → ⊥
none_used gs mac h zero g is used same = absurd (none-some g is)
none_used gs mac h (suc n) g is used same =
    let fails = none_passes (λ (q : Grant). is_in_use q.held && same_mac q.amac mac) gs 1 h n g (sym (number_one_more gs n) ∙ is) in
    false≢true (sym fails ∙ and_from (is_in_use g.held) (same_mac g.amac mac) used (subst (λ (m : Mac). same_mac g.amac m ≡ true) same (mac_itself g.amac)))

-- ---- places

pub known_same : (o : Option ℕ) (m n : ℕ) → is_known o m ≡ true → is_known o n ≡ true → m ≡ n
known_same o m n a b = same_Some m n (sym (known_is o m a) ∙ known_is o n b)

known_own : (o : Option ℕ) → is_some o ≡ true → is_known o (unwrap_or o 0) ≡ true
known_own None h = absurd (false≢true h)
known_own (Some n) h = eq-eqb n n refl

-- what a placed edge switch knows
pub record IsSettled (place : Place) : Type 0 where
  pub level : place.level ≡ Some 0
  pub position : is_some place.position ≡ true
  pub pod : is_some place.pod ≡ true

-- of a level alone
settled_at : (level position pod : Option ℕ) → level ≡ Some 0 → is_placed (record { level = level; position = position; pod = pod }) ≡ true →
    (is_some position && is_some pod) ≡ true
settled_at level position pod is h = subst (λ (l : Option ℕ). is_placed (record { level = l; position = position; pod = pod }) ≡ true) is h

pub settled_is : (place : Place) → is_settled place ≡ true → IsSettled place
settled_is place h =
    let two = and_parts (is_known place.level 0) (is_placed place) h in
    let level = known_is place.level 0 two.0 in
    let rest = and_parts (is_some place.position) (is_some place.pod) (settled_at place.level place.position place.pod level two.1) in
    record { level = level; position = rest.0; pod = rest.1 }

placed_at : (level position pod : Option ℕ) → level ≡ Some 0 → (is_some position && is_some pod) ≡ true →
    is_settled (record { level = level; position = position; pod = pod }) ≡ true
placed_at level position pod is h = subst (λ (l : Option ℕ). is_settled (record { level = l; position = position; pod = pod }) ≡ true) (sym is) h

known_some : (o : Option ℕ) (n : ℕ) → is_known o n ≡ true → is_some o ≡ true
known_some o n h = ap is_some (known_is o n h)

-- a switch that has addresses of its own is a placed edge switch
pub local_settled : (v : SwitchView) (x : Pmac) → is_local v x ≡ true → is_settled v.place ≡ true
local_settled v x h =
    let two = and_parts (is_known v.place.level 0) (is_known v.place.pod x.pod && is_known v.place.position x.position) h in
    let rest = and_parts (is_known v.place.pod x.pod) (is_known v.place.position x.position) two.1 in
    placed_at v.place.level v.place.position v.place.pod (known_is v.place.level 0 two.0)
    (and_from (is_some v.place.position) (is_some v.place.pod) (known_some v.place.position x.position rest.1) (known_some v.place.pod x.pod rest.0))

-- and such a one has the addresses at its ports
pub local_here : (v : SwitchView) (port vmid : ℕ) → is_settled v.place ≡ true → is_local v (address_at_port v port vmid) ≡ true
local_here v port vmid h =
    let s = settled_is v.place h in
    and_from (is_known v.place.level 0) (is_known v.place.pod (unwrap_or v.place.pod 0) && is_known v.place.position (unwrap_or v.place.position 0))
    (ap (λ (o : Option ℕ). is_known o 0) s.level)
    (and_from (is_known v.place.pod (unwrap_or v.place.pod 0)) (is_known v.place.position (unwrap_or v.place.position 0))
    (known_own v.place.pod s.pod) (known_own v.place.position s.position))

-- ---- by address

pub granted_here : (v : SwitchView) (x : Pmac) → is_local v x ≡ true → granted v x ≡ grant_number (grants_at v x.port) x.vmid
granted_here v x h = ap (λ b. cond b (grant_number (grants_at v x.port) x.vmid) None) h

pub granted_elsewhere : (v : SwitchView) (x : Pmac) → is_local v x ≡ false → granted v x ≡ None
granted_elsewhere v x h = ap (λ b. cond b (grant_number (grants_at v x.port) x.vmid) None) h

same_pmacs : (x y : Pmac) → x.pod ≡ y.pod → x.position ≡ y.position → x.port ≡ y.port → x.vmid ≡ y.vmid → x ≡ y
same_pmacs x y pod position port vmid = λ i. record { pod = pod i; position = position i; port = port i; vmid = vmid i }

-- other grants at one port: what is granted there, and elsewhere
module _ (v : SwitchView) (x : Pmac) (new : List Grant) (within : x.port < length v.grants) (here : is_local v x ≡ true) where
  pub now_at : granted (with_grants v x.port new) x ≡ grant_number new x.vmid
  now_at =
      granted_here (with_grants v x.port new) x here ∙ ap (λ gs. grant_number gs x.vmid) (get_or-set_same v.grants x.port new [] within)

  pub others_at : ((n : ℕ) → n ≢ x.vmid → grant_number new n ≡ grant_number (grants_at v x.port) n) → (y : Pmac) → same_pmac y x ≡ false →
      granted (with_grants v x.port new) y ≡ granted v y
  others_at same y apart = elim (cases_Bool (is_local v y)) [
    | inr elsewhere ↦ granted_elsewhere (with_grants v x.port new) y elsewhere ∙ sym (granted_elsewhere v y elsewhere)
    | inl local ↦
        granted_here (with_grants v x.port new) y local ∙ at_ports local ∙ sym (granted_here v y local)
  ]
    where
      at_ports : is_local v y ≡ true → grant_number (get_or (set v.grants x.port new) y.port []) y.vmid ≡ grant_number (get_or v.grants y.port []) y.vmid
      at_ports local = elim (cases_eq y.port x.port) [
        | inr other ↦ ap (λ gs. grant_number gs y.vmid) (get_or-set_other v.grants x.port y.port new [] other)
        | inl port ↦
            let mine = and_parts (is_known v.place.level 0) (is_known v.place.pod x.pod && is_known v.place.position x.position) here in
            let my = and_parts (is_known v.place.pod x.pod) (is_known v.place.position x.position) mine.1 in
            let yours = and_parts (is_known v.place.level 0) (is_known v.place.pod y.pod && is_known v.place.position y.position) local in
            let your = and_parts (is_known v.place.pod y.pod) (is_known v.place.position y.position) yours.1 in
            ap (λ p. grant_number (get_or (set v.grants x.port new) p []) y.vmid) port
            ∙ ap (λ gs. grant_number gs y.vmid) (get_or-set_same v.grants x.port new [] within)
            ∙ same y.vmid (λ vmid. false≢true (sym apart ∙ same_by y x
            (same_pmacs y x (known_same v.place.pod y.pod x.pod your.0 my.0) (known_same v.place.position y.position x.position your.1 my.1) port vmid)))
            ∙ ap (λ p. grant_number (get_or v.grants p []) y.vmid) (sym port)
      ]

-- a port at which something was granted is there
pub granted_within : (v : SwitchView) (x : Pmac) (g : Grant) → granted v x ≡ Some g → length v.grants ≡ v.k → x.port < v.k
granted_within v x g is many = elim (cases_lt x.port (length v.grants)) [
  | inl less ↦ subst (λ n. x.port < n) many less
  | inr past ↦
      let most = (number_within (grants_at v x.port) x.vmid g (granted_parts v x g is).1) in
      let none : grants_at v x.port ≡ [] = get_or_past v.grants x.port [] past in
      let zero : length (grants_at v x.port) ≡ 0 = ap (λ (gs : List Grant). length gs) none in
      absurd (omega (arith, most.0, most.1, zero))
]
