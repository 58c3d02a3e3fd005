-- Links in link order whose ports are in range and apart are a fat tree.
use Rattle.std.proofs.Common.{◌≡◌, ℕ, ◌+◌, ◌*◌, ◌/◌, ◌%◌, ◌<◌, List, length, get_or, refl, sym, ◌∙◌, ap, arith, All, AllPairs, Contains}
use Rattle.std.proofs.lemmas.List.{get_or_default}
use Rattle.std.proofs.lemmas.Nat.{div-mul-add, mod-mul-add, mul-add-lt, div-add-mod', div_below, mod_below}
use Rattle.pl_wiring.specs.declared.label.Label.{Label}
use Rattle.pl_wiring.specs.declared.label.Label.TheVariants.{Edge, Aggregation, Core}
use Rattle.pl_wiring.specs.declared.link.Link.{Link}
use Rattle.pl_wiring.specs.Labels.{IsArity, IsLabel, edge_count, number_of, label_of}
use Rattle.pl_wiring.specs.FatTree.{IsBelow, Joins, IsAt, IsTreeLink, IsFatTree, IsInLinkOrder, above, link_count, lower_at, upper_at}
use Rattle.pl_wiring.proofs.LabelOrder.{half_at_least, label_of-IsLabel, number_of-label_of, label_of-number_of, number_of-edge_below, above-IsLabel, above-IsBelow, above-same_uplink}

pub lower_at-below : (k n : ℕ) → 0 < k / 2 → n < link_count k → lower_at k n < edge_count k + edge_count k
lower_at-below k n pos less = div_below n (k / 2) (edge_count k + edge_count k) pos less

-- the link of a lower switch to the switch by this uplink
abbrev pub link_number : ℕ → ℕ → ℕ → ℕ
link_number k lower uplink = lower * (k / 2) + uplink

pub link_number-below : (k lower x : ℕ) → lower < edge_count k + edge_count k → x < k / 2 → link_number k lower x < link_count k
link_number-below k lower x low less = omega (arith, mul-add-lt lower (k / 2) x (edge_count k + edge_count k) low less)

pub lower_at-link_number : (k lower x : ℕ) → x < k / 2 → lower_at k (link_number k lower x) ≡ lower
lower_at-link_number k lower x less = div-mul-add lower (k / 2) x less

pub upper_at-link_number : (k lower x : ℕ) → x < k / 2 → upper_at k (link_number k lower x) ≡ number_of k (above (label_of k lower) x)
upper_at-link_number k lower x less = rw (div-mul-add lower (k / 2) x less, mod-mul-add lower (k / 2) x less) refl

-- an upper switch is at one uplink of each switch below that it is linked to
pub upper_at-same_uplink : (k m n : ℕ) → 0 < k / 2 → m < link_count k → n < link_count k → upper_at k m ≡ upper_at k n → m % (k / 2) ≡ n % (k / 2)
upper_at-same_uplink k m n pos lm ln e =
    let low_m = lower_at-below k m pos lm in
    let low_n = lower_at-below k n pos ln in
    above-same_uplink k (m % (k / 2)) (n % (k / 2)) (label_of k (m / (k / 2))) (label_of k (n / (k / 2)))
    (label_of-IsLabel k (m / (k / 2)) pos (omega arith)) (label_of-IsLabel k (n / (k / 2)) pos (omega arith))
    (rw (number_of-label_of k (m / (k / 2))) low_m) (rw (number_of-label_of k (n / (k / 2))) low_n)
    (mod_below m (k / 2) pos) (mod_below n (k / 2) pos) e

-- two links that join the same switches are one
pub same_link : (k m n : ℕ) → 0 < k / 2 → m < link_count k → n < link_count k → lower_at k m ≡ lower_at k n → upper_at k m ≡ upper_at k n → m ≡ n
same_link k m n pos lm ln low up =
    let uplink = upper_at-same_uplink k m n pos lm ln up in
    sym (div-add-mod' m (k / 2)) ∙ rw (low, uplink) (div-add-mod' n (k / 2))

tree_link : (k : ℕ) (links : List Link) → 0 < k / 2 → IsInLinkOrder k links → All (IsTreeLink k) links
tree_link k links pos order n d less =
    let within : n < link_count k = let e = order.many in omega arith in
    let low = lower_at-below k n pos within in
    let in_range = label_of-IsLabel k (n / (k / 2)) pos (omega arith) in
    let low_label : number_of k (label_of k (n / (k / 2))) < edge_count k + edge_count k = rw (number_of-label_of k (n / (k / 2))) low in
    record {
      lower = label_of k (n / (k / 2));
      upper = above (label_of k (n / (k / 2))) (n % (k / 2));
      lower_in_range = in_range;
      upper_in_range = above-IsLabel k (n % (k / 2)) (label_of k (n / (k / 2))) in_range low_label (mod_below n (k / 2) pos);
      below = above-IsBelow k (n % (k / 2)) (label_of k (n / (k / 2))) low_label;
      joins = (order.lower n d within ∙ sym (number_of-label_of k (n / (k / 2))), order.upper n d within);
    }

abbrev pub no_link : Link
no_link = record { lower = record { 0 = 0 }; lower_port = 0; upper = record { 0 = 0 }; upper_port = 0 }

-- the link of this number among links in link order
found : (k n : ℕ) (links : List Link) (lower upper : Label) → IsInLinkOrder k links → n < link_count k →
    lower_at k n ≡ number_of k lower → upper_at k n ≡ number_of k upper → (link : Link) × Contains links link × Joins k link lower upper
found k n links lower upper order within low up =
    let inside : n < length links = let e = order.many in omega arith in
    (get_or links n no_link, (n, inside, get_or_default links n _ _ inside), (order.lower n no_link within ∙ low, order.upper n no_link within ∙ up))

each_linked : (k : ℕ) (links : List Link) → IsInLinkOrder k links → (lower upper : Label) → IsLabel k lower → IsLabel k upper → IsBelow lower upper →
    (link : Link) × Contains links link × Joins k link lower upper
each_linked k links order (Edge p i) (Aggregation q j) hl hu below =
    let low : number_of k (Edge p i) < edge_count k + edge_count k = omega (arith, number_of-edge_below k p i hl.0 hl.1) in
    found k (link_number k (number_of k (Edge p i)) j) links (Edge p i) (Aggregation q j) order
    (link_number-below k _ j low hu.1) (lower_at-link_number k _ j hu.1)
    (upper_at-link_number k _ j hu.1 ∙ rw (label_of-number_of k (Edge p i) hl) (rw below refl))
each_linked k links order (Aggregation p j) (Core g m) hl hu below =
    let low : number_of k (Aggregation p j) < edge_count k + edge_count k = omega (arith, number_of-edge_below k p j hl.0 hl.1) in
    found k (link_number k (number_of k (Aggregation p j)) m) links (Aggregation p j) (Core g m) order
    (link_number-below k _ m low hu.1) (lower_at-link_number k _ m hu.1)
    (upper_at-link_number k _ m hu.1 ∙ rw (label_of-number_of k (Aggregation p j) hl) (rw below refl))
each_linked k links order (Edge p i) (Edge q j) hl hu below = absurd below
each_linked k links order (Edge p i) (Core g m) hl hu below = absurd below
each_linked k links order (Aggregation p i) (Edge q j) hl hu below = absurd below
each_linked k links order (Aggregation p i) (Aggregation q j) hl hu below = absurd below
each_linked k links order (Core g m) (Edge q j) hl hu below = absurd below
each_linked k links order (Core g m) (Aggregation q j) hl hu below = absurd below
each_linked k links order (Core g m) (Core h n) hl hu below = absurd below

linked_once : (k : ℕ) (links : List Link) → 0 < k / 2 → IsInLinkOrder k links → AllPairs (λ (l m : Link). (l.lower ≡ m.lower) × (l.upper ≡ m.upper) → ⊥) links
linked_once k links pos order i j d less within ends =
    let lj : j < link_count k = let e = order.many in omega arith in
    let li : i < link_count k = omega arith in
    let low : lower_at k i ≡ lower_at k j = sym (order.lower i d li) ∙ ap (λ s. s.0) ends.0 ∙ order.lower j d lj in
    let up : upper_at k i ≡ upper_at k j = sym (order.upper i d li) ∙ ap (λ s. s.0) ends.1 ∙ order.upper j d lj in
    let same = same_link k i j pos li lj low up in omega arith

pub IsFatTree-in_order : (k : ℕ) (links : List Link) → IsArity k → IsInLinkOrder k links →
    All (λ l. (l.lower_port < k) × (l.upper_port < k)) links →
    AllPairs (λ l m. (switch port : ℕ) → IsAt l switch port → IsAt m switch port → ⊥) links → IsFatTree k links
IsFatTree-in_order k links arity order in_range apart =
    let two = half_at_least k arity in
    record {
      linked = each_linked k links order;
      once = linked_once k links (omega arith) order;
      no_other = tree_link k links (omega arith) order;
      ports_in_range = in_range;
      ports_apart = apart;
    }
