-- The ends of links: which link is at a port, and which joins two switches.
use Rattle.std.proofs.Common.{◌≡◌, ◌≢◌, ℕ, zero, suc, ◌+◌, ◌*◌, ◌/◌, ◌%◌, ◌<◌, ◌≤◌, List, [], ◌∷◌, length, get_or, refl, sym, ◌∙◌, ap, subst, arith, inl, inr, AllPairs, Contains, All, HoldsAt}
use Rattle.std.proofs.lemmas.Bool.Decides.{nat_tests}
use Rattle.std.proofs.lemmas.List.{get_or_default}
use Rattle.std.proofs.lemmas.Nat.{mul-add-lt, mod-mul-add, div-add-mod', mod_below}
use Rattle.pl_wiring.specs.declared.label.SwitchNo.{SwitchNo}
use Rattle.pl_wiring.specs.declared.label.Label.{Label}
use Rattle.pl_wiring.specs.declared.label.Label.TheVariants.{Edge, Aggregation, Core}
use Rattle.pl_wiring.specs.declared.link.Link.{Link}
use Rattle.pl_wiring.specs.declared.link.Peer.{Peer}
use Rattle.pl_wiring.specs.declared.link.Peer.TheVariants.{Switch, HostPort}
use Rattle.pl_wiring.specs.Labels.{IsLabel, edge_count, number_of, label_of}
use Rattle.pl_wiring.specs.FatTree.{IsAt, IsBelow, IsTreeLink, IsFatTree, IsInLinkOrder, above, link_count, lower_at, upper_at}
use Rattle.pl_wiring.specs.Peers.{HasEnds, IsPeer, peer_among, IsPort, LinksSwitches}
use Rattle.pl_wiring.proofs.LabelOrder.{number_of-label_of, number_of-below}
use Rattle.pl_wiring.proofs.LinkOrder.{lower_at-below}

pub same_switch : (a b : SwitchNo) → a.0 ≡ b.0 → a ≡ b
same_switch a b e = ap (λ (n : ℕ). (let s : SwitchNo = record { 0 = n } in s)) e

labels_rise : (k : ℕ) (a b : Label) → IsLabel k a → IsLabel k b → IsBelow a b → number_of k a < number_of k b
labels_rise k (Edge p i) (Aggregation q j) ha hb below = omega (arith, mul-add-lt p (k / 2) i k ha.0 ha.1)
labels_rise k (Aggregation p j) (Core g m) ha hb below = omega (arith, mul-add-lt p (k / 2) j k ha.0 ha.1)
labels_rise k (Edge p i) (Edge q j) ha hb below = absurd below
labels_rise k (Edge p i) (Core g m) ha hb below = absurd below
labels_rise k (Aggregation p i) (Edge q j) ha hb below = absurd below
labels_rise k (Aggregation p i) (Aggregation q j) ha hb below = absurd below
labels_rise k (Core g m) (Edge q j) ha hb below = absurd below
labels_rise k (Core g m) (Aggregation q j) ha hb below = absurd below
labels_rise k (Core g m) (Core h n) ha hb below = absurd below

-- a link's lower switch comes before its upper one in label order
pub link_rises : (k : ℕ) (link : Link) → IsTreeLink k link → link.lower.0 < link.upper.0
link_rises k link tree =
    let rises = labels_rise k tree.lower tree.upper tree.lower_in_range tree.upper_in_range tree.below in
    omega (arith, tree.joins.0, tree.joins.1)

pub at_contained : (P : Link → Type 0) (links : List Link) (link : Link) → All P links → Contains links link → P link
at_contained P links link all there = subst P there.2 (all there.0 link there.1)

pub contained_at : (links : List Link) (n : ℕ) (d : Link) → n < length links → Contains links (get_or links n d)
contained_at links n d within = (n, within, get_or_default links n _ _ within)

-- the tests of the function decide what the relation says
passed : (link : Link) (links : List Link) (s p : ℕ) → (IsAt link s p → ⊥) → peer_among (link ∷ links) s p ≡ peer_among links s p
passed link links s p away =
    let not_low : (link.lower.0 ≡ s) × (link.lower_port ≡ p) → ⊥ = λ h. away (inl h) in
    let not_up : (link.upper.0 ≡ s) × (link.upper_port ≡ p) → ⊥ = λ h. away (inr h) in
    grind (arith, nat_tests)

at_lower : (link : Link) (links : List Link) (s p : ℕ) → link.lower.0 ≡ s → link.lower_port ≡ p → peer_among (link ∷ links) s p ≡ Switch link.upper link.upper_port
at_lower link links s p here port = grind (arith, nat_tests)

at_upper : (link : Link) (links : List Link) (s p : ℕ) → link.lower.0 < link.upper.0 → link.upper.0 ≡ s → link.upper_port ≡ p →
    peer_among (link ∷ links) s p ≡ Switch link.lower link.lower_port
at_upper link links s p rises here port = grind (arith, nat_tests)

no_link_at : (links : List Link) (s p : ℕ) → ((link : Link) → Contains links link → IsAt link s p → ⊥) → HostPort ≡ peer_among links s p
no_link_at [] s p none = refl
no_link_at (link ∷ links) s p none =
    no_link_at links s p (λ other there here. none other (suc there.0, omega (arith, there.1), there.2) here)
    ∙ sym (passed link links s p (λ here. none link (zero, omega arith, refl) here))

has_ends_at : (link : Link) (s p t q : ℕ) → HasEnds link s p t q → IsAt link s p
has_ends_at link s p t q ends = elim ends [ inl e ↦ inl (e.0, e.1) | inr e ↦ inr (e.0, e.1) ]

has_ends_at_other : (link : Link) (s p t q : ℕ) → HasEnds link s p t q → IsAt link t q
has_ends_at_other link s p t q ends = elim ends [ inl e ↦ inr (e.2, e.3) | inr e ↦ inl (e.2, e.3) ]

turned : (link : Link) (s p t q : ℕ) → HasEnds link s p t q → HasEnds link t q s p
turned link s p t q ends = elim ends [ inl e ↦ inr (e.2, e.3, e.0, e.1) | inr e ↦ inl (e.2, e.3, e.0, e.1) ]

first_link_at : (link : Link) (links : List Link) (s p : ℕ) (t : SwitchNo) (q : ℕ) → link.lower.0 < link.upper.0 → HasEnds link s p t.0 q →
    Switch t q ≡ peer_among (link ∷ links) s p
first_link_at link links s p t q rises ends = elim ends [
  | inl e ↦ ap (λ x. Switch x q) (same_switch t link.upper (sym e.2)) ∙ ap (λ x. Switch link.upper x) (sym e.3) ∙ sym (at_lower link links s p e.0 e.1)
  | inr e ↦ ap (λ x. Switch x q) (same_switch t link.lower (sym e.2)) ∙ ap (λ x. Switch link.lower x) (sym e.3) ∙ sym (at_upper link links s p rises e.0 e.1)
]

abbrev Apart : Link → Link → Type 0
Apart l m = (s p : ℕ) → IsAt l s p → IsAt m s p → ⊥

apart_rest : (link : Link) (links : List Link) → AllPairs Apart (link ∷ links) → AllPairs Apart links
apart_rest link links apart i j d less within = apart (suc i) (suc j) d (omega arith) (omega arith)

link_at : (links : List Link) (n : ℕ) (link : Link) (s p : ℕ) (t : SwitchNo) (q : ℕ) → AllPairs Apart links → n < length links → get_or links n link ≡ link →
    link.lower.0 < link.upper.0 → HasEnds link s p t.0 q → Switch t q ≡ peer_among links s p
link_at [] n link s p t q apart within is rises ends = absurd (omega arith)
link_at (first ∷ links) zero link s p t q apart within is rises ends =
    rw is (first_link_at link links s p t q rises ends)
link_at (first ∷ links) (suc n) link s p t q apart within is rises ends =
    link_at links n link s p t q (apart_rest first links apart) (omega arith) is rises ends
    ∙ sym (passed first links s p (λ here. apart zero (suc n) link (omega arith) within s p here (rw is (has_ends_at link s p t.0 q ends))))

-- what the relation says is what the function gives
pub IsPeer-is : (k : ℕ) (links : List Link) (s p : ℕ) (peer : Peer) → IsFatTree k links → IsPeer links s p peer → peer ≡ peer_among links s p
IsPeer-is k links s p HostPort tree none = no_link_at links s p none
IsPeer-is k links s p (Switch t q) tree says =
    link_at links says.1.0 says.0 s p t q tree.ports_apart says.1.1 says.1.2
    (link_rises k says.0 (at_contained (IsTreeLink k) links says.0 tree.no_other says.1)) says.2

pub IsPeer-turned : (links : List Link) (switch : SwitchNo) (p : ℕ) (t : SwitchNo) (q : ℕ) → IsPeer links switch.0 p (Switch t q) → IsPeer links t.0 q (Switch switch p)
IsPeer-turned links switch p t q says = (says.0, says.1, turned says.0 switch.0 p t.0 q says.2)

-- the other end of a link that is at a port
pub IsPeer-other_end : (links : List Link) (link : Link) (switch : SwitchNo) (p : ℕ) (peer : Peer) → Contains links link → IsAt link switch.0 p →
    link.lower.0 < link.upper.0 → (link.lower ≡ switch → peer ≡ Switch link.upper link.upper_port) → (link.lower ≢ switch → peer ≡ Switch link.lower link.lower_port) →
    IsPeer links switch.0 p peer
IsPeer-other_end links link switch p peer there at rises lower upper = elim at [
  | inl low ↦
      let is = lower (same_switch link.lower switch low.0) in
      let P : Peer → Type 0 = λ x. IsPeer links switch.0 p x in subst P (sym is) (link, there, inl (low.0, low.1, refl, refl))
  | inr up ↦
      let away : link.lower ≢ switch = (λ e. (let f : link.lower.0 ≡ switch.0 = ap (λ x. x.0) e in absurd (omega (arith, up.0)))) in
      let is = upper away in
      let P : Peer → Type 0 = λ x. IsPeer links switch.0 p x in subst P (sym is) (link, there, inr (up.0, up.1, refl, refl))
]

pub IsPeer-in_range : (k : ℕ) (links : List Link) (s p : ℕ) (peer : Peer) → IsFatTree k links → IsPeer links s p peer → IsPort k peer
IsPeer-in_range k links s p HostPort tree says = tt
IsPeer-in_range k links s p (Switch t q) tree says =
    let link = says.0 in
    let in_tree = at_contained (IsTreeLink k) links link tree.no_other says.1 in
    let ports = at_contained (λ l. (l.lower_port < k) × (l.upper_port < k)) links link tree.ports_in_range says.1 in
    let low = number_of-below k in_tree.lower in_tree.lower_in_range in
    let up = number_of-below k in_tree.upper in_tree.upper_in_range in
    elim says.2 [
      | inl e ↦ (omega (arith, e.2, in_tree.joins.1, up), omega (arith, e.3, ports.1))
      | inr e ↦ (omega (arith, e.2, in_tree.joins.0, low), omega (arith, e.3, ports.0))
    ]

above_uplink : (k x : ℕ) (label : Label) → number_of k label < edge_count k + edge_count k → x < k / 2 → number_of k (above label x) % (k / 2) ≡ x
above_uplink k x (Edge p i) low less =
    let e : number_of k (above (Edge p i) x) ≡ (k + p) * (k / 2) + x = omega arith in rw e (mod-mul-add (k + p) (k / 2) x less)
above_uplink k x (Aggregation p j) low less =
    let e : number_of k (above (Aggregation p j) x) ≡ (k + k + j) * (k / 2) + x = omega arith in rw e (mod-mul-add (k + k + j) (k / 2) x less)
above_uplink k x (Core g m) low less = absurd (omega arith)

-- a link's number from its two switches
pub number_from_ends : (k n : ℕ) → 0 < k / 2 → n < link_count k → n ≡ lower_at k n * (k / 2) + upper_at k n % (k / 2)
number_from_ends k n pos less =
    let low = lower_at-below k n pos less in
    let uplink = above_uplink k (n % (k / 2)) (label_of k (n / (k / 2))) (rw (number_of-label_of k (n / (k / 2))) low) (mod_below n (k / 2) pos) in
    rw uplink (sym (div-add-mod' n (k / 2)))

-- no link joins two switches where none has the uplink that a link of theirs would have
pub none_joins : (k : ℕ) (links : List Link) (lower upper : SwitchNo) → 0 < k / 2 → IsInLinkOrder k links →
    ((lower.0 * (k / 2) + upper.0 % (k / 2) < length links)
    × HoldsAt (λ (link : Link). (link.lower ≡ lower) × (link.upper ≡ upper)) links (lower.0 * (k / 2) + upper.0 % (k / 2)) → ⊥) →
    All (λ (link : Link). (link.lower ≡ lower) × (link.upper ≡ upper) → ⊥) links
none_joins k links lower upper pos order not_there n d within joins =
    let less : n < link_count k = let e = order.many in omega arith in
    let low : lower_at k n ≡ lower.0 = sym (order.lower n d less) ∙ ap (λ s. s.0) joins.0 in
    let up : upper_at k n ≡ upper.0 = sym (order.upper n d less) ∙ ap (λ s. s.0) joins.1 in
    let here : n ≡ lower.0 * (k / 2) + upper.0 % (k / 2) = (number_from_ends k n pos less ∙ ap (λ x. x * (k / 2) + upper_at k n % (k / 2)) low ∙ ap (λ x. lower.0 * (k / 2) + x % (k / 2)) up) in
    let P : Link → Type 0 = λ link. (link.lower ≡ lower) × (link.upper ≡ upper) in
    let holds : HoldsAt P links n = (λ e. subst P (get_or_default links n d e within) joins) in
    not_there (rw (← here) within, subst (HoldsAt P links) here holds)

-- nor in the other direction, since a link leads up
pub none_between : (k : ℕ) (links : List Link) (a b : SwitchNo) → IsFatTree k links → a.0 ≤ b.0 →
    All (λ (link : Link). (link.lower ≡ a) × (link.upper ≡ b) → ⊥) links → All (λ (link : Link). LinksSwitches link a.0 b.0 → ⊥) links
none_between k links a b tree order none n d within between = elim between [
  | inl e ↦ none n d within (same_switch (get_or links n d).lower a e.0, same_switch (get_or links n d).upper b e.1)
  | inr e ↦ (let rises = link_rises k (get_or links n d) (tree.no_other n d within) in absurd (omega (arith, e.0, e.1)))
]

pub turned_none : (links : List Link) (a b : ℕ) → All (λ (link : Link). LinksSwitches link a b → ⊥) links → All (λ (link : Link). LinksSwitches link b a → ⊥) links
turned_none links a b none n d within between = none n d within (elim between [ inl e ↦ inr e | inr e ↦ inl e ])

pub IsPeer-symmetric : (k : ℕ) (links : List Link) (switch : SwitchNo) (p : ℕ) (peer : Peer) → IsFatTree k links → IsPeer links switch.0 p peer →
    (t : SwitchNo) (q : ℕ) → peer ≡ Switch t q → peer_among links t.0 q ≡ Switch switch p
IsPeer-symmetric k links switch p peer tree says t q is =
    let P : Peer → Type 0 = λ x. IsPeer links switch.0 p x in
    sym (IsPeer-is k links t.0 q (Switch switch p) tree (IsPeer-turned links switch p t q (subst P is says)))
