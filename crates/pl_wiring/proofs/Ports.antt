-- Every port of an aggregation or a core switch has a link, since it has as many links as ports.
use Rattle.std.proofs.Common.{◌≡◌, ◌≢◌, ℕ, zero, suc, ◌+◌, ◌-◌, ◌*◌, ◌/◌, ◌<◌, ◌≤◌, ◌⊎◌, List, length, true, false, get_or, refl, sym, ◌∙◌, ap, subst, arith, inl, inr, Contains, nat_lt, if◌then◌else◌}
use Rattle.std.proofs.lemmas.Bool.{cases_lt, cases_eq}
use Rattle.std.proofs.lemmas.Bool.Decides.{nat_tests}
use Rattle.std.proofs.lemmas.Nat.{same_from_place}
use Rattle.pl_wiring.specs.declared.link.Link.{Link}
use Rattle.pl_wiring.specs.declared.label.Label.{Label}
use Rattle.pl_wiring.specs.declared.label.Label.TheVariants.{Edge, Aggregation, Core}
use Rattle.pl_wiring.specs.Labels.{IsLabel, edge_count, switch_count, number_of, label_of}
use Rattle.pl_wiring.specs.FatTree.{IsAt, IsFatTree, above}
use Rattle.pl_wiring.specs.declared.link.Peer.{Peer}
use Rattle.pl_wiring.specs.declared.link.Peer.TheVariants.{HostPort}
use Rattle.pl_wiring.specs.Peers.{IsPeer}
use Rattle.pl_wiring.specs.Plan.{Plan, IsPlan}
use Rattle.pl_wiring.proofs.LabelOrder.{half_at_least, twice_half, label_of-number_of, number_of-edge_below, label_of-IsLabel, number_of-label_of}
use Rattle.pl_wiring.proofs.LinkOrder.{link_number-below, lower_at-link_number, upper_at-link_number, no_link}
use Rattle.pl_wiring.proofs.Ends.{contained_at}

-- a value is among the first n of f, or it is not
found_or_not : (f : ℕ → ℕ) (v n : ℕ) → ((i : ℕ) × (i < n) × (f i ≡ v)) ⊎ ((i : ℕ) → i < n → f i ≢ v)
found_or_not f v zero = inr (λ i less e. absurd (omega arith))
found_or_not f v (suc n) = elim (found_or_not f v n) [
  | inl there ↦ inl (there.0, omega (arith, there.1), there.2)
  | inr none ↦ elim (cases_eq (f n) v) [
    | inl here ↦ inl (n, omega arith, here)
    | inr away ↦ inr (λ i less e. elim (cases_lt i n) [ inl below ↦ none i below e | inr at ↦ (let same : i ≡ n = omega arith in away (ap f (sym same) ∙ e)) ])
  ]
]

-- values above v moved down by one
abbrev closed_up : ℕ → ℕ → ℕ
closed_up v x = if nat_lt v x then x - 1 else x

closed_up-below : (v x n : ℕ) → v < suc n → x < suc n → x ≢ v → closed_up v x < n
closed_up-below v x n hv hx differ = grind (arith, nat_tests)

closed_up-same : (v x y : ℕ) → x ≢ v → y ≢ v → closed_up v x ≡ closed_up v y → x ≡ y
closed_up-same v x y dx dy e = elim (cases_lt v x) [
  | inl ax ↦ elim (cases_lt v y) [
    | inl ay ↦ (let ex : closed_up v x ≡ x - 1 = grind (arith, nat_tests) in let ey : closed_up v y ≡ y - 1 = grind (arith, nat_tests) in omega (arith, sym ex ∙ e ∙ ey))
    | inr by ↦ (let ex : closed_up v x ≡ x - 1 = grind (arith, nat_tests) in let ey : closed_up v y ≡ y = grind (arith, nat_tests) in omega (arith, sym ex ∙ e ∙ ey))
  ]
  | inr bx ↦ elim (cases_lt v y) [
    | inl ay ↦ (let ex : closed_up v x ≡ x = grind (arith, nat_tests) in let ey : closed_up v y ≡ y - 1 = grind (arith, nat_tests) in omega (arith, sym ex ∙ e ∙ ey))
    | inr by ↦ (let ex : closed_up v x ≡ x = grind (arith, nat_tests) in let ey : closed_up v y ≡ y = grind (arith, nat_tests) in omega (arith, sym ex ∙ e ∙ ey))
  ]
]

-- of more numbers than values two have one value
two_of_one_value : (n : ℕ) (f : ℕ → ℕ) → ((i : ℕ) → i < suc n → f i < n) → (i : ℕ) × (j : ℕ) × (i < j) × (j < suc n) × (f i ≡ f j)
two_of_one_value zero f in_range = absurd (omega (arith, in_range 0 (omega arith)))
two_of_one_value (suc n) f in_range =
    let v = f (suc n) in
    elim (found_or_not f v (suc n)) [
      | inl there ↦ (there.0, suc n, there.1, omega arith, there.2)
      | inr none ↦
          let pair = two_of_one_value n (λ i. closed_up v (f i))
          (λ i less. closed_up-below v (f i) n (in_range (suc n) (omega arith)) (in_range i (omega arith)) (none i less)) in (
            pair.0,
            pair.1,
            pair.2,
            omega (arith, pair.3),
            closed_up-same v (f pair.0) (f pair.1) (none pair.0 (omega (arith, pair.2, pair.3))) (none pair.1 pair.3) pair.4,
          )
    ]

abbrev with_last : ℕ → (ℕ → ℕ) → ℕ → ℕ → ℕ
with_last n f m i = if nat_lt i n then f i else m

with_last-below : (n : ℕ) (f : ℕ → ℕ) (m i : ℕ) → i < n → with_last n f m i ≡ f i
with_last-below n f m i less = grind (arith, nat_tests)

with_last-at : (n : ℕ) (f : ℕ → ℕ) (m i : ℕ) → n ≤ i → with_last n f m i ≡ m
with_last-at n f m i more = grind (arith, nat_tests)

-- n different numbers below n are all of them
pub all_values : (n : ℕ) (f : ℕ → ℕ) → ((i : ℕ) → i < n → f i < n) → ((i j : ℕ) → i < j → j < n → f i ≢ f j) →
    (m : ℕ) → m < n → (i : ℕ) × (i < n) × (f i ≡ m)
all_values n f in_range differ m less = elim (found_or_not f m n) [
  | inl there ↦ there
  | inr none ↦
      let pair = two_of_one_value n (with_last n f m) (λ i below. elim (cases_lt i n) [
        | inl low ↦ rw (with_last-below n f m i low) (in_range i low)
        | inr high ↦ rw (with_last-at n f m i high) less
      ]) in
      let low : pair.0 < n = omega (arith, pair.2, pair.3) in
      elim (cases_lt pair.1 n) [
        | inl within ↦ absurd (differ pair.0 pair.1 pair.2 within
            (sym (with_last-below n f m pair.0 low) ∙ pair.4 ∙ with_last-below n f m pair.1 within))
        | inr last ↦ absurd (none pair.0 low (sym (with_last-below n f m pair.0 low) ∙ pair.4 ∙ with_last-at n f m pair.1 last))
      ]
]

-- so many different links at a switch as it has ports leave none free
pub no_free_port : (k s : ℕ) (links : List Link) → IsFatTree k links → (number port : ℕ → ℕ) →
    ((x : ℕ) → x < k → number x < length links) → ((x y : ℕ) → x < y → y < k → number x ≢ number y) →
    ((x : ℕ) → x < k → port x < k) → ((x : ℕ) → x < k → IsAt (get_or links (number x) no_link) s (port x)) →
    (q : ℕ) → q < k → (link : Link) × Contains links link × IsAt link s q
no_free_port k s links tree number port within apart in_range at q less =
    let differ : (x y : ℕ) → x < y → y < k → port x ≢ port y = (λ x y lt ly same.
    (let at_x = at x (omega arith) in
    let at_y : IsAt (get_or links (number y) no_link) s (port x) = rw same (at y ly) in
    elim (cases_lt (number x) (number y)) [
      | inl before ↦ tree.ports_apart (number x) (number y) no_link before (within y ly) s (port x) at_x at_y
      | inr after ↦
          let less_y : number y < number x = (let ne = apart x y lt ly in omega arith) in
          tree.ports_apart (number y) (number x) no_link less_y (within x (omega arith)) s (port x) at_y at_x
    ])) in
    let there = all_values k port in_range differ q less in (
      get_or links (number there.0) no_link,
      contained_at links (number there.0) no_link (within there.0 there.1),
      (let P : ℕ → Type 0 = λ p. IsAt (get_or links (number there.0) no_link) s p in subst P there.2 (at there.0 there.1)),
    )

-- the links of an aggregation switch: down to the edge switches of its pod, then up to the core switches of its group
abbrev links_of_aggregation : ℕ → ℕ → ℕ → ℕ → ℕ
links_of_aggregation k pod j x =
    if nat_lt x (k / 2) then (pod * (k / 2) + x) * (k / 2) + j else (edge_count k + (pod * (k / 2) + j)) * (k / 2) + (x - k / 2)

abbrev ports_of_aggregation : List Link → ℕ → ℕ → ℕ → ℕ → ℕ
ports_of_aggregation links k pod j x =
    if nat_lt x (k / 2) then (get_or links ((pod * (k / 2) + x) * (k / 2) + j) no_link).upper_port
    else (get_or links ((edge_count k + (pod * (k / 2) + j)) * (k / 2) + (x - k / 2)) no_link).lower_port

-- the link of an edge switch up to an aggregation switch of its pod
down_link : (plan : Plan) (pod i j : ℕ) → IsPlan plan → pod < plan.k → i < plan.k / 2 → j < plan.k / 2 →
    ((pod * (plan.k / 2) + i) * (plan.k / 2) + j < length plan.links)
    × ((get_or plan.links ((pod * (plan.k / 2) + i) * (plan.k / 2) + j) no_link).upper.0 ≡ number_of plan.k (Aggregation pod j))
down_link plan pod i j is hp hi hj =
    let low = number_of-edge_below plan.k pod i hp hi in
    let within = link_number-below plan.k (pod * (plan.k / 2) + i) j (omega (arith, low)) hj in
    let many = is.in_order.many in (
      omega (arith, within, many),
      is.in_order.upper ((pod * (plan.k / 2) + i) * (plan.k / 2) + j) no_link within ∙ upper_at-link_number plan.k (pod * (plan.k / 2) + i) j hj
          ∙ ap (λ l. number_of plan.k (above l j)) (label_of-number_of plan.k (Edge pod i) (hp, hi)),
    )

-- the link of an aggregation switch up to a core switch of its group
up_link : (plan : Plan) (pod j m : ℕ) → IsPlan plan → pod < plan.k → j < plan.k / 2 → m < plan.k / 2 →
    ((edge_count plan.k + (pod * (plan.k / 2) + j)) * (plan.k / 2) + m < length plan.links)
    × ((get_or plan.links ((edge_count plan.k + (pod * (plan.k / 2) + j)) * (plan.k / 2) + m) no_link).lower.0 ≡ number_of plan.k (Aggregation pod j))
    × ((get_or plan.links ((edge_count plan.k + (pod * (plan.k / 2) + j)) * (plan.k / 2) + m) no_link).upper.0 ≡ number_of plan.k (Core j m))
up_link plan pod j m is hp hj hm =
    let low = number_of-edge_below plan.k pod j hp hj in
    let s = edge_count plan.k + (pod * (plan.k / 2) + j) in
    let within = link_number-below plan.k s m (omega (arith, low)) hm in
    let many = is.in_order.many in (
      omega (arith, within, many),
      is.in_order.lower (s * (plan.k / 2) + m) no_link within ∙ lower_at-link_number plan.k s m hm,
      is.in_order.upper (s * (plan.k / 2) + m) no_link within ∙ upper_at-link_number plan.k s m hm
          ∙ ap (λ l. number_of plan.k (above l m)) (label_of-number_of plan.k (Aggregation pod j) (hp, hj)),
    )

-- the port of the link from pod x at a core switch
core_full : (plan : Plan) (group m q : ℕ) → IsPlan plan → group < plan.k / 2 → m < plan.k / 2 → q < plan.k →
    (link : Link) × Contains plan.links link × IsAt link (number_of plan.k (Core group m)) q
core_full plan group m q is hg hm hq =
    let k = plan.k in
    let number : ℕ → ℕ = λ x. (edge_count plan.k + (x * (plan.k / 2) + group)) * (plan.k / 2) + m in
    no_free_port plan.k (number_of plan.k (Core group m)) plan.links is.tree number
    (λ x. (get_or plan.links (number x) no_link).upper_port)
    (λ x hx. (up_link plan x group m is hx hg hm).0)
    (λ x y less hy e.
    let rows = (same_from_place (edge_count plan.k + (x * (plan.k / 2) + group)) m (edge_count plan.k + (y * (plan.k / 2) + group)) m (plan.k / 2) hm hm e).0 in
    let numbers : x * (plan.k / 2) + group ≡ y * (plan.k / 2) + group = omega (arith, rows) in
    let same = (same_from_place x group y group (plan.k / 2) hg hg numbers).0 in absurd (omega (arith, same)))
    (λ x hx. (is.tree.ports_in_range (number x) no_link (up_link plan x group m is hx hg hm).0).1)
    (λ x hx. inr ((up_link plan x group m is hx hg hm).2, refl))
    q hq

down_is : (links : List Link) (k pod j x : ℕ) → x < k / 2 →
    (links_of_aggregation k pod j x ≡ (pod * (k / 2) + x) * (k / 2) + j)
    × (ports_of_aggregation links k pod j x ≡ (get_or links ((pod * (k / 2) + x) * (k / 2) + j) no_link).upper_port)
down_is links k pod j x low = let test : nat_lt x (k / 2) ≡ true = grind (arith, nat_tests) in (rw test refl, rw test refl)

up_is : (links : List Link) (k pod j x : ℕ) → k / 2 ≤ x →
    (links_of_aggregation k pod j x ≡ (edge_count k + (pod * (k / 2) + j)) * (k / 2) + (x - k / 2))
    × (ports_of_aggregation links k pod j x ≡ (get_or links ((edge_count k + (pod * (k / 2) + j)) * (k / 2) + (x - k / 2)) no_link).lower_port)
up_is links k pod j x high = let test : nat_lt x (k / 2) ≡ false = grind (arith, nat_tests) in (rw test refl, rw test refl)

links_differ : (plan : Plan) (pod j x y : ℕ) → IsPlan plan → pod < plan.k → j < plan.k / 2 → x < y → y < plan.k →
    links_of_aggregation plan.k pod j x ≡ links_of_aggregation plan.k pod j y → ⊥
links_differ plan pod j x y is hp hj less hy e =
    let h = plan.k / 2 in
    let twice = twice_half plan.k is.arity in
    let s = edge_count plan.k + (pod * (plan.k / 2) + j) in
    elim (cases_lt x (plan.k / 2)) [
      | inl lx ↦
          let ex = (down_is plan.links plan.k pod j x lx).0 in
          elim (cases_lt y (plan.k / 2)) [
            | inl ly ↦
                let ey = (down_is plan.links plan.k pod j y ly).0 in
                let rows = (same_from_place (pod * (plan.k / 2) + x) j (pod * (plan.k / 2) + y) j (plan.k / 2) hj hj (sym ex ∙ e ∙ ey)).0 in
                absurd (omega (arith, rows))
            | inr hy_up ↦
                let ey = (up_is plan.links plan.k pod j y hy_up).0 in
                let uplink : y - plan.k / 2 < plan.k / 2 = omega (arith, twice) in
                let rows = (same_from_place (pod * (plan.k / 2) + x) j (edge_count plan.k + (pod * (plan.k / 2) + j)) (y - plan.k / 2) (plan.k / 2) hj uplink (sym ex ∙ e ∙ ey)).0 in
                let low = number_of-edge_below plan.k pod x hp lx in
                absurd (omega (arith, rows, low))
          ]
      | inr hx ↦
          let ex = (up_is plan.links plan.k pod j x hx).0 in
          let ey = (up_is plan.links plan.k pod j y (omega arith)).0 in
          let px : x - plan.k / 2 < plan.k / 2 = omega (arith, twice) in
          let py : y - plan.k / 2 < plan.k / 2 = omega (arith, twice) in
          let numbers = (same_from_place (edge_count plan.k + (pod * (plan.k / 2) + j)) (x - plan.k / 2) (edge_count plan.k + (pod * (plan.k / 2) + j)) (y - plan.k / 2) (plan.k / 2) px py (sym ex ∙ e ∙ ey)).1 in
          absurd (omega (arith, numbers))
    ]

aggregation_full : (plan : Plan) (pod j q : ℕ) → IsPlan plan → pod < plan.k → j < plan.k / 2 → q < plan.k →
    (link : Link) × Contains plan.links link × IsAt link (number_of plan.k (Aggregation pod j)) q
aggregation_full plan pod j q is hp hj hq =
    let twice = twice_half plan.k is.arity in
    let down : (x : ℕ) → x < plan.k / 2 →
    (links_of_aggregation plan.k pod j x ≡ (pod * (plan.k / 2) + x) * (plan.k / 2) + j)
    × (ports_of_aggregation plan.links plan.k pod j x ≡ (get_or plan.links ((pod * (plan.k / 2) + x) * (plan.k / 2) + j) no_link).upper_port)
    = λ x low. down_is plan.links plan.k pod j x low in
    let up : (x : ℕ) → plan.k / 2 ≤ x →
    (links_of_aggregation plan.k pod j x ≡ (edge_count plan.k + (pod * (plan.k / 2) + j)) * (plan.k / 2) + (x - plan.k / 2))
    × (ports_of_aggregation plan.links plan.k pod j x ≡ (get_or plan.links ((edge_count plan.k + (pod * (plan.k / 2) + j)) * (plan.k / 2) + (x - plan.k / 2)) no_link).lower_port)
    = λ x high. up_is plan.links plan.k pod j x high in
    no_free_port plan.k (number_of plan.k (Aggregation pod j)) plan.links is.tree (links_of_aggregation plan.k pod j) (ports_of_aggregation plan.links plan.k pod j)
    (λ x hx. elim (cases_lt x (plan.k / 2)) [
      | inl low ↦ rw (down x low).0 (down_link plan pod x j is hp low hj).0
      | inr high ↦ rw (up x high).0 (up_link plan pod j (x - plan.k / 2) is hp hj (omega (arith, twice))).0
    ])
    (λ x y less hy e. links_differ plan pod j x y is hp hj less hy e)
    (λ x hx. elim (cases_lt x (plan.k / 2)) [
      | inl low ↦ rw (down x low).1 (is.tree.ports_in_range _ no_link (down_link plan pod x j is hp low hj).0).1
      | inr high ↦ rw (up x high).1 (is.tree.ports_in_range _ no_link (up_link plan pod j (x - plan.k / 2) is hp hj (omega (arith, twice))).0).0
    ])
    (λ x hx. elim (cases_lt x (plan.k / 2)) [
      | inl low ↦ rw ((down x low).0, (down x low).1) (inr ((down_link plan pod x j is hp low hj).1, refl))
      | inr high ↦ rw ((up x high).0, (up x high).1) (inl ((up_link plan pod j (x - plan.k / 2) is hp hj (omega (arith, twice))).1, refl))
    ])
    q hq

at_edge : (plan : Plan) (label : Label) (q : ℕ) → IsPlan plan → IsLabel plan.k label → q < plan.k →
    ((link : Link) → Contains plan.links link → IsAt link (number_of plan.k label) q → ⊥) → number_of plan.k label < edge_count plan.k
at_edge plan (Edge pod i) q is h hq free = number_of-edge_below plan.k pod i h.0 h.1
at_edge plan (Aggregation pod j) q is h hq free =
    let there = aggregation_full plan pod j q is h.0 h.1 hq in absurd (free there.0 there.1 there.2)
at_edge plan (Core group m) q is h hq free =
    let there = core_full plan group m q is h.0 h.1 hq in absurd (free there.0 there.1 there.2)

-- a port without a link is one of an edge switch
pub free_port_at_edge : (plan : Plan) (s q : ℕ) → IsPlan plan → s < switch_count plan.k → q < plan.k →
    ((link : Link) → Contains plan.links link → IsAt link s q → ⊥) → s < edge_count plan.k
free_port_at_edge plan s q is hs hq free =
    let two = half_at_least plan.k is.arity in
    let in_range = label_of-IsLabel plan.k s (omega (arith, two)) hs in
    rw (← number_of-label_of plan.k s) (at_edge plan (label_of plan.k s) q is in_range hq (rw (number_of-label_of plan.k s) free))

pub IsPeer-host_port : (plan : Plan) (s q : ℕ) (peer : Peer) → IsPlan plan → s < switch_count plan.k → q < plan.k → IsPeer plan.links s q peer →
    peer ≡ HostPort → s < edge_count plan.k
IsPeer-host_port plan s q peer is hs hq says none =
    let P : Peer → Type 0 = λ x. IsPeer plan.links s q x in free_port_at_edge plan s q is hs hq (subst P none says)
