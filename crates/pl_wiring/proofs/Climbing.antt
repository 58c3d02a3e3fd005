-- Which switches live links lead up to.
use Rattle.std.proofs.Common.{◌≡◌, ◌≢◌, ℕ, zero, suc, ◌+◌, ◌*◌, ◌/◌, ◌%◌, ◌<◌, ◌≤◌, List, [], ◌∷◌, ◌++◌, length, Some, get_or, slice_get, refl, sym, ◌∙◌, ap, subst, arith, Contains, All, AllPairs, HoldsAt}
use Rattle.std.proofs.lemmas.List.{get_or_default}
use Rattle.std.proofs.lemmas.Nat.{mul-add-lt, mod-mul-add, div-add-mod', mod_below, div_below, same_from_place}
use Rattle.pl_wiring.specs.declared.label.SwitchNo.{SwitchNo}
use Rattle.pl_wiring.specs.declared.label.Label.TheVariants.{Aggregation}
use Rattle.pl_wiring.specs.declared.link.Link.{Link}
use Rattle.pl_wiring.specs.Labels.{edge_count, number_of, label_of}
use Rattle.pl_wiring.specs.FatTree.{IsTreeLink, above, link_count, lower_at, upper_at, canonical_link, canonical_links}
use Rattle.pl_wiring.specs.Paths.{Rises, Climbs, IsUpDownPath, RisesAt}
use Rattle.pl_wiring.specs.Plan.{Plan, IsPlan}
use Rattle.pl_wiring.proofs.LabelOrder.{half_at_least, label_of-edge, label_of-number_of}
use Rattle.pl_wiring.proofs.LinkOrder.{link_number-below, lower_at-link_number, upper_at-link_number, upper_at-same_uplink, no_link}
use Rattle.pl_wiring.proofs.Ends.{link_rises, same_switch, at_contained}

some_half : (plan : Plan) → IsPlan plan → 0 < plan.k / 2
some_half plan is = let two = half_at_least plan.k is.arity in omega (arith, two)

-- a link's number is among those of the links
pub number_within : (plan : Plan) (lower uplink : ℕ) → IsPlan plan → lower < edge_count plan.k + edge_count plan.k → uplink < plan.k / 2 →
    lower * (plan.k / 2) + uplink < length plan.links
number_within plan lower uplink is low less =
    let below = link_number-below plan.k lower uplink low less in
    let many = is.in_order.many in omega (arith, below, many)

pub Rises-at : (plan : Plan) (IsLive : Link → Type 0) (lower : SwitchNo) (uplink : ℕ) (upper : SwitchNo) → IsPlan plan →
    lower.0 < edge_count plan.k + edge_count plan.k → uplink < plan.k / 2 → RisesAt plan IsLive lower uplink upper → Rises plan.links IsLive lower upper
Rises-at plan IsLive lower uplink upper is low less rises =
    let n = lower.0 * (plan.k / 2) + uplink in
    let within : lower.0 * (plan.k / 2) + uplink < length plan.links = number_within plan lower.0 uplink is low less in
    let here = rises no_link in
    let from : (get_or plan.links (lower.0 * (plan.k / 2) + uplink) no_link).lower.0 ≡ lower.0 =
    is.in_order.lower n no_link (link_number-below plan.k lower.0 uplink low less) ∙ lower_at-link_number plan.k lower.0 uplink less in
    (n, get_or plan.links n no_link, within, get_or_default plan.links n _ _ within, (same_switch _ lower from, here.0, here.1))

pub uplink_of_rise : (plan : Plan) (IsLive : Link → Type 0) (lower upper : SwitchNo) → IsPlan plan → Rises plan.links IsLive lower upper →
    (uplink : ℕ) × (uplink < plan.k / 2) × RisesAt plan IsLive lower uplink upper
uplink_of_rise plan IsLive lower upper is rises =
    let n = rises.0 in
    let less : n < link_count plan.k = (let many = is.in_order.many in omega (arith, rises.2)) in
    let from : lower_at plan.k n ≡ lower.0 = sym (is.in_order.lower n rises.1 less) ∙ ap (λ l. l.lower.0) rises.3 ∙ ap (λ s. s.0) rises.4.0 in
    let number : lower.0 * (plan.k / 2) + n % (plan.k / 2) ≡ n = ap (λ x. x * (plan.k / 2) + n % (plan.k / 2)) (sym from) ∙ div-add-mod' n (plan.k / 2) in
    let P : Link → Type 0 = λ l. (l.upper ≡ upper) × IsLive l in
    let at_n : HoldsAt P plan.links n = (λ d. subst P (sym (get_or_default plan.links n d rises.1 rises.2 ∙ rises.3)) (rises.4.1, rises.4.2)) in
    (n % (plan.k / 2), mod_below n (plan.k / 2) (some_half plan is), subst (HoldsAt P plan.links) (sym number) at_n)

-- live links to one switch lead to it by one uplink
pub one_uplink : (plan : Plan) (IsLive : Link → Type 0) (a b : SwitchNo) (x y : ℕ) (upper : SwitchNo) → IsPlan plan →
    a.0 < edge_count plan.k + edge_count plan.k → b.0 < edge_count plan.k + edge_count plan.k → x < plan.k / 2 → y < plan.k / 2 →
    RisesAt plan IsLive a x upper → RisesAt plan IsLive b y upper → x ≡ y
one_uplink plan IsLive a b x y upper is la lb hx hy ra rb =
    let m = a.0 * (plan.k / 2) + x in
    let n = b.0 * (plan.k / 2) + y in
    let wm = link_number-below plan.k a.0 x la hx in
    let wn = link_number-below plan.k b.0 y lb hy in
    let up_a : upper_at plan.k (a.0 * (plan.k / 2) + x) ≡ upper.0 = sym (is.in_order.upper m no_link wm) ∙ ap (λ s. s.0) (ra no_link).0 in
    let up_b : upper_at plan.k (b.0 * (plan.k / 2) + y) ≡ upper.0 = sym (is.in_order.upper n no_link wn) ∙ ap (λ s. s.0) (rb no_link).0 in
    let same : m % (plan.k / 2) ≡ n % (plan.k / 2) = upper_at-same_uplink plan.k m n (some_half plan is) wm wn (up_a ∙ sym up_b) in
    sym (mod-mul-add a.0 (plan.k / 2) x hx) ∙ same ∙ mod-mul-add b.0 (plan.k / 2) y hy

-- by an uplink of a switch stands one switch
pub one_switch : (plan : Plan) (IsLive : Link → Type 0) (lower : SwitchNo) (uplink : ℕ) (a b : SwitchNo) →
    RisesAt plan IsLive lower uplink a → RisesAt plan IsLive lower uplink b → a ≡ b
one_switch plan IsLive lower uplink a b ra rb = sym (ra no_link).0 ∙ (rb no_link).0

pub upper_number : (plan : Plan) (IsLive : Link → Type 0) (lower : SwitchNo) (uplink : ℕ) (upper : SwitchNo) → IsPlan plan →
    lower.0 < edge_count plan.k + edge_count plan.k → uplink < plan.k / 2 → RisesAt plan IsLive lower uplink upper →
    upper.0 ≡ number_of plan.k (above (label_of plan.k lower.0) uplink)
upper_number plan IsLive lower uplink upper is low less rises =
    sym (ap (λ s. s.0) (rises no_link).0) ∙ is.in_order.upper (lower.0 * (plan.k / 2) + uplink) no_link (link_number-below plan.k lower.0 uplink low less)
    ∙ upper_at-link_number plan.k lower.0 uplink less

-- above an edge switch stand aggregation switches, and above those core switches
pub above_edge : (plan : Plan) (IsLive : Link → Type 0) (edge : SwitchNo) (uplink : ℕ) (upper : SwitchNo) → IsPlan plan →
    edge.0 < edge_count plan.k → uplink < plan.k / 2 → RisesAt plan IsLive edge uplink upper →
    upper.0 ≡ edge_count plan.k + (edge.0 / (plan.k / 2) * (plan.k / 2) + uplink)
above_edge plan IsLive edge uplink upper is low less rises =
    upper_number plan IsLive edge uplink upper is (omega arith) less rises ∙ ap (λ l. number_of plan.k (above l uplink)) (label_of-edge plan.k edge.0 low)

pub above_edge-range : (plan : Plan) (IsLive : Link → Type 0) (edge : SwitchNo) (uplink : ℕ) (upper : SwitchNo) → IsPlan plan →
    edge.0 < edge_count plan.k → uplink < plan.k / 2 → RisesAt plan IsLive edge uplink upper →
    (edge_count plan.k ≤ upper.0) × (upper.0 < edge_count plan.k + edge_count plan.k)
above_edge-range plan IsLive edge uplink upper is low less rises =
    let number = above_edge plan IsLive edge uplink upper is low less rises in
    let pod = div_below edge.0 (plan.k / 2) plan.k (some_half plan is) low in
    let fits = mul-add-lt (edge.0 / (plan.k / 2)) (plan.k / 2) uplink plan.k pod less in
    (omega (arith, number), omega (arith, number, fits))

above_aggregation : (plan : Plan) (IsLive : Link → Type 0) (edge : SwitchNo) (x : ℕ) (left : SwitchNo) (u : ℕ) (top : SwitchNo) → IsPlan plan →
    edge.0 < edge_count plan.k → x < plan.k / 2 → u < plan.k / 2 → RisesAt plan IsLive edge x left → RisesAt plan IsLive left u top →
    top.0 ≡ edge_count plan.k + edge_count plan.k + (x * (plan.k / 2) + u)
above_aggregation plan IsLive edge x left u top is low hx hu rises rises_on =
    let number = above_edge plan IsLive edge x left is low hx rises in
    let pod = div_below edge.0 (plan.k / 2) plan.k (some_half plan is) low in
    let range = above_edge-range plan IsLive edge x left is low hx rises in
    let label : label_of plan.k left.0 ≡ Aggregation (edge.0 / (plan.k / 2)) x =
    ap (λ n. label_of plan.k n) number ∙ label_of-number_of plan.k (Aggregation (edge.0 / (plan.k / 2)) x) (pod, hx) in
    upper_number plan IsLive left u top is range.1 hu rises_on ∙ ap (λ l. number_of plan.k (above l u)) label

-- the ways over the core from two edge switches meet only where they leave the pods by one uplink
pub one_way : (plan : Plan) (IsLive : Link → Type 0) (start end left right top : SwitchNo) (x y : ℕ) → IsPlan plan →
    start.0 < edge_count plan.k → end.0 < edge_count plan.k → x < plan.k / 2 → y < plan.k / 2 →
    RisesAt plan IsLive start x left → RisesAt plan IsLive end y right → Rises plan.links IsLive left top → Rises plan.links IsLive right top → x ≡ y
one_way plan IsLive start end left right top x y is ls le hx hy rl rr tl tr =
    let u = uplink_of_rise plan IsLive left top is tl in
    let v = uplink_of_rise plan IsLive right top is tr in
    let from_left = above_aggregation plan IsLive start x left u.0 top is ls hx u.1 rl u.2 in
    let from_right = above_aggregation plan IsLive end y right v.0 top is le hy v.1 rr v.2 in
    let numbers : x * (plan.k / 2) + u.0 ≡ y * (plan.k / 2) + v.0 = omega (arith, from_left, from_right) in
    (same_from_place x u.0 y v.0 (plan.k / 2) u.1 v.1 numbers).0

pub rise_up : (plan : Plan) (IsLive : Link → Type 0) (lower upper : SwitchNo) → IsPlan plan → Rises plan.links IsLive lower upper → lower.0 < upper.0
rise_up plan IsLive lower upper is rises =
    let there : Contains plan.links rises.1 = (rises.0, rises.2, rises.3) in
    let up = link_rises plan.k rises.1 (at_contained (IsTreeLink plan.k) plan.links rises.1 is.tree.no_other there) in
    let low : rises.1.lower.0 ≡ lower.0 = ap (λ s. s.0) rises.4.0 in
    let high : rises.1.upper.0 ≡ upper.0 = ap (λ s. s.0) rises.4.1 in
    omega (arith, up, low, high)

-- the first of a list that begins so
first_is : (a b : SwitchNo) → Some a ≡ Some b → a ≡ b
first_is a b e = cc

-- no way of zero, one or two levels where none meets
pub no_way : (plan : Plan) (IsLive : Link → Type 0) (start end : SwitchNo) → IsPlan plan → start.0 < edge_count plan.k → end.0 < edge_count plan.k → start ≢ end →
    ((top : SwitchNo) → Rises plan.links IsLive start top → Rises plan.links IsLive end top → ⊥) →
    ((uplink : ℕ) → uplink < plan.k / 2 → (left right : SwitchNo) → RisesAt plan IsLive start uplink left → RisesAt plan IsLive end uplink right → (top : SwitchNo) →
    Rises plan.links IsLive left top → Rises plan.links IsLive right top → ⊥) →
    (up : List SwitchNo) (top : SwitchNo) (down : List SwitchNo) → slice_get (up ++ top ∷ []) 0 ≡ Some start → slice_get (down ++ top ∷ []) 0 ≡ Some end →
    Climbs plan.links IsLive (up ++ top ∷ []) → Climbs plan.links IsLive (down ++ top ∷ []) → length down ≡ length up → length up ≤ 2 → ⊥
no_way plan IsLive start end is ls le apart no_common no_core [] top [] starts ends climbs falls as_many two =
    apart (sym (first_is top start starts) ∙ first_is top end ends)
no_way plan IsLive start end is ls le apart no_common no_core (a ∷ []) top (b ∷ []) starts ends climbs falls as_many two =
    no_common top (rw (← first_is a start starts) climbs.0) (rw (← first_is b end ends) falls.0)
no_way plan IsLive start end is ls le apart no_common no_core (a ∷ left ∷ []) top (b ∷ right ∷ []) starts ends climbs falls as_many two =
    let up_left : Rises plan.links IsLive start left = rw (← first_is a start starts) climbs.0 in
    let up_right : Rises plan.links IsLive end right = rw (← first_is b end ends) falls.0 in
    let x = uplink_of_rise plan IsLive start left is up_left in
    let y = uplink_of_rise plan IsLive end right is up_right in
    let same = one_way plan IsLive start end left right top x.0 y.0 is ls le x.1 y.1 x.2 y.2 climbs.1.0 falls.1.0 in
    no_core x.0 x.1 left right x.2 (rw same y.2) top climbs.1.0 falls.1.0
no_way plan IsLive start end is ls le apart no_common no_core [] top (b ∷ down) starts ends climbs falls as_many two = absurd (omega (arith, as_many))
no_way plan IsLive start end is ls le apart no_common no_core (a ∷ []) top [] starts ends climbs falls as_many two = absurd (omega (arith, as_many))
no_way plan IsLive start end is ls le apart no_common no_core (a ∷ []) top (b ∷ c ∷ down) starts ends climbs falls as_many two = absurd (omega (arith, as_many))
no_way plan IsLive start end is ls le apart no_common no_core (a ∷ c ∷ []) top [] starts ends climbs falls as_many two = absurd (omega (arith, as_many))
no_way plan IsLive start end is ls le apart no_common no_core (a ∷ c ∷ []) top (b ∷ []) starts ends climbs falls as_many two = absurd (omega (arith, as_many))
no_way plan IsLive start end is ls le apart no_common no_core (a ∷ c ∷ []) top (b ∷ d ∷ e ∷ down) starts ends climbs falls as_many two = absurd (omega (arith, as_many))
no_way plan IsLive start end is ls le apart no_common no_core (a ∷ c ∷ f ∷ up) top down starts ends climbs falls as_many two = absurd (omega (arith, two))

-- paths of no, one and two levels
abbrev Apart : SwitchNo → SwitchNo → Type 0
Apart a b = a ≢ b

none_of : (x : SwitchNo) → All (Apart x) []
none_of x n d within = absurd (omega arith)

one_more : (x y : SwitchNo) (xs : List SwitchNo) → x ≢ y → All (Apart x) xs → All (Apart x) (y ∷ xs)
one_more x y xs here there zero d within = here
one_more x y xs here there (suc n) d within = there n d (omega arith)

no_pairs : AllPairs Apart []
no_pairs i j d less within = absurd (omega arith)

more_pairs : (x : SwitchNo) (xs : List SwitchNo) → All (Apart x) xs → AllPairs Apart xs → AllPairs Apart (x ∷ xs)
more_pairs x xs here there zero zero d less within = absurd (omega arith)
more_pairs x xs here there zero (suc j) d less within = here j d (omega arith)
more_pairs x xs here there (suc i) zero d less within = absurd (omega arith)
more_pairs x xs here there (suc i) (suc j) d less within = there i j d (omega arith) (omega arith)

below_apart : (a b : SwitchNo) → a.0 < b.0 → a ≢ b
below_apart a b less e = let same : a.0 ≡ b.0 = ap (λ s. s.0) e in absurd (omega arith)

above_apart : (a b : SwitchNo) → b.0 < a.0 → a ≢ b
above_apart a b less e = let same : a.0 ≡ b.0 = ap (λ s. s.0) e in absurd (omega arith)

pub path_at : (k : ℕ) (links : List Link) (IsLive : Link → Type 0) (start end : SwitchNo) → start.0 < edge_count k → end.0 < edge_count k → start ≡ end →
    IsUpDownPath k links IsLive start end (start ∷ [])
path_at k links IsLive start end ls le same = record {
  from_edge = ls;
  to_edge = le;
  up = [];
  top = start;
  down = [];
  whole = refl;
  starts = refl;
  ends = ap (λ s. Some s) same;
  climbs = tt;
  falls = tt;
  as_many = refl;
  two_at_most = omega arith;
  distinct = more_pairs start [] (none_of start) no_pairs;
}

pub path_over : (plan : Plan) (IsLive : Link → Type 0) (start top end : SwitchNo) → IsPlan plan →
    start.0 < edge_count plan.k → end.0 < edge_count plan.k → start ≢ end →
    Rises plan.links IsLive start top → Rises plan.links IsLive end top → IsUpDownPath plan.k plan.links IsLive start end (start ∷ top ∷ end ∷ [])
path_over plan IsLive start top end is ls le apart up down =
    let s = rise_up plan IsLive start top is up in
    let e = rise_up plan IsLive end top is down in
    record {
      from_edge = ls;
      to_edge = le;
      up = start ∷ [];
      top = top;
      down = end ∷ [];
      whole = refl;
      starts = refl;
      ends = refl;
      climbs = (up, tt);
      falls = (down, tt);
      as_many = refl;
      two_at_most = omega arith;
      distinct = more_pairs start (top ∷ end ∷ []) (one_more start top (end ∷ []) (below_apart start top s) (one_more start end [] apart (none_of start)))
          (more_pairs top (end ∷ []) (one_more top end [] (above_apart top end e) (none_of top)) (more_pairs end [] (none_of end) no_pairs));
    }

pub path_over_core : (plan : Plan) (IsLive : Link → Type 0) (start left top right end : SwitchNo) (uplink : ℕ) → IsPlan plan →
    start.0 < edge_count plan.k → end.0 < edge_count plan.k → uplink < plan.k / 2 → start ≢ end →
    ((t : SwitchNo) → Rises plan.links IsLive start t → Rises plan.links IsLive end t → ⊥) →
    RisesAt plan IsLive start uplink left → RisesAt plan IsLive end uplink right → Rises plan.links IsLive left top → Rises plan.links IsLive right top →
    IsUpDownPath plan.k plan.links IsLive start end (start ∷ left ∷ top ∷ right ∷ end ∷ [])
path_over_core plan IsLive start left top right end uplink is ls le less apart no_common rl rr tl tr =
    let to_left : Rises plan.links IsLive start left = Rises-at plan IsLive start uplink left is (omega arith) less rl in
    let to_right : Rises plan.links IsLive end right = Rises-at plan IsLive end uplink right is (omega arith) less rr in
    let differ : left ≢ right = (λ e. no_common left to_left (rw e to_right)) in
    let range_left = above_edge-range plan IsLive start uplink left is ls less rl in
    let range_right = above_edge-range plan IsLive end uplink right is le less rr in
    let top_left = rise_up plan IsLive left top is tl in
    let top_right = rise_up plan IsLive right top is tr in
    record {
      from_edge = ls;
      to_edge = le;
      up = start ∷ left ∷ [];
      top = top;
      down = end ∷ right ∷ [];
      whole = refl;
      starts = refl;
      ends = refl;
      climbs = (to_left, (tl, tt));
      falls = (to_right, (tr, tt));
      as_many = refl;
      two_at_most = omega arith;
      distinct =
          more_pairs start (left ∷ top ∷ right ∷ end ∷ [])
          (one_more start left (top ∷ right ∷ end ∷ []) (below_apart start left (omega (arith, range_left.0)))
          (one_more start top (right ∷ end ∷ []) (below_apart start top (omega (arith, range_left.0, top_left)))
          (one_more start right (end ∷ []) (below_apart start right (omega (arith, range_right.0))) (one_more start end [] apart (none_of start)))))
          (more_pairs left (top ∷ right ∷ end ∷ [])
          (one_more left top (right ∷ end ∷ []) (below_apart left top top_left)
          (one_more left right (end ∷ []) differ (one_more left end [] (above_apart left end (omega (arith, range_left.0))) (none_of left))))
          (more_pairs top (right ∷ end ∷ [])
          (one_more top right (end ∷ []) (above_apart top right top_right) (one_more top end [] (above_apart top end (omega (arith, range_right.0, top_right))) (none_of top)))
          (more_pairs right (end ∷ []) (one_more right end [] (above_apart right end (omega (arith, range_right.0))) (none_of right)) (more_pairs end [] (none_of end) no_pairs))));
    }

-- at k = 4 with all links live e0.0, a0.0, e0.1 is a path
edge_0 : SwitchNo
edge_0 = record { 0 = 0 }

edge_1 : SwitchNo
edge_1 = record { 0 = 1 }

aggregation_0 : SwitchNo
aggregation_0 = record { 0 = 8 }

path_in_a_pod : IsUpDownPath 4 (canonical_links 4) (λ _. Unit {0}) edge_0 edge_1 (edge_0 ∷ aggregation_0 ∷ edge_1 ∷ [])
unfolding edge_0 edge_1 aggregation_0
path_in_a_pod = record {
  from_edge = omega arith;
  to_edge = omega arith;
  up = edge_0 ∷ [];
  top = aggregation_0;
  down = edge_1 ∷ [];
  whole = refl;
  starts = refl;
  ends = refl;
  climbs = ((0, canonical_link 4 0, omega arith, refl, (refl, refl, tt)), tt);
  falls = ((2, canonical_link 4 2, omega arith, refl, (refl, refl, tt)), tt);
  as_many = refl;
  two_at_most = omega arith;
  distinct = more_pairs edge_0 (aggregation_0 ∷ edge_1 ∷ [])
      (one_more edge_0 aggregation_0 (edge_1 ∷ []) (below_apart edge_0 aggregation_0 (omega arith)) (one_more edge_0 edge_1 [] (below_apart edge_0 edge_1 (omega arith)) (none_of edge_0)))
      (more_pairs aggregation_0 (edge_1 ∷ []) (one_more aggregation_0 edge_1 [] (above_apart aggregation_0 edge_1 (omega arith)) (none_of aggregation_0))
      (more_pairs edge_1 [] (none_of edge_1) no_pairs));
}

-- and none leads from a0.0, which is no edge switch, to itself
none_from_above : (path : List SwitchNo) → IsUpDownPath 4 (canonical_links 4) (λ _. Unit {0}) aggregation_0 aggregation_0 path → ⊥
unfolding aggregation_0
none_from_above path is = let low = is.from_edge in absurd (omega arith)
