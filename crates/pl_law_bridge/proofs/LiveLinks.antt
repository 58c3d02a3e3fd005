-- Links that fail make none live; and once all links but the tree's have failed, no other is live.
use Rattle.std.proofs.Common.{◌≡◌, ℕ, zero, suc, not, nat_lt, Bool, true, false, if◌then◌else◌, List, [], ◌∷◌, get_or, set, refl, sym, ap, ◌∙◌, subst, inl, inr}
use Rattle.std.proofs.lemmas.Bool.{cases_Bool, cond-true, false≢true}
use Rattle.pl_wiring.specs.declared.link.Link.{Link}
use Rattle.pl_wiring.specs.declared.link.Peer.TheVariants.{Switch}
use Rattle.pl_wiring.specs.FatTree.{IsAt}
use Rattle.pl_wiring.specs.Index.{port_index}
use Rattle.pl_wiring.specs.Labels.{label_of}
use Rattle.pl_wiring.specs.LiveLinks.{LivePorts, is_live_at}
use Rattle.pl_wiring.specs.Peers.{HasEnds, IsPeer}
use Rattle.pl_wiring.specs.Plan.{Plan}
use Rattle.pl_wiring.proofs.Exports.{peer_says}
use Rattle.pl_node.proofs.Exports.{among_of_Contains, IsAmong}
use Rattle.pl_world.specs.LinksAndMoves.{with_link}
use Rattle.pl_bridge_rule.specs.Tree.{is_tree_link}
use Rattle.pl_bridge_rule.proofs.Exports.{either_way}
use Rattle.pl_law_bridge.specs.TreeWorld.{LiveIsTree, is_off_tree, only_tree}

-- a flag that is put out sets no other alight
pub cleared : (flags : List Bool) (n m : ℕ) → get_or (set flags n false) m false ≡ true → get_or flags m false ≡ true
cleared [] n m is = is
cleared (b ∷ flags) zero zero is = absurd (false≢true is)
cleared (b ∷ flags) zero (suc m) is = is
cleared (b ∷ flags) (suc n) zero is = is
cleared (b ∷ flags) (suc n) (suc m) is = cleared flags n m is

-- a link that fails makes none live
pub fails_live : (links : LivePorts) (link : Link) (s port : ℕ) → is_live_at (with_link links link false) s port ≡ true → is_live_at links s port ≡ true
fails_live links link s port is = by_test (nat_lt port links.k) is
  where
    low : ℕ
    low = port_index links.k link.lower.0 link.lower_port

    high : ℕ
    high = port_index links.k link.upper.0 link.upper_port

    n : ℕ
    n = port_index links.k s port

    by_test : (b : Bool) → (if b then get_or (set (set links.flags low false) high false) n false else false) ≡ true →
        (if b then get_or links.flags n false else false) ≡ true
    by_test true is = cleared links.flags low n (cleared (set links.flags low false) high n is)
    by_test false is = is

pub fails_keep : (plan : Plan) (links : LivePorts) (link : Link) → LiveIsTree plan links → LiveIsTree plan (with_link links link false)
fails_keep plan links link all s port is = all s port (fails_live links link s port is)

-- a flag that was put out is out
put_out : (flags : List Bool) (n : ℕ) → get_or (set flags n false) n false ≡ true → ⊥
put_out [] n is = absurd (false≢true is)
put_out (b ∷ flags) zero is = absurd (false≢true is)
put_out (b ∷ flags) (suc n) is = put_out flags n is

low_out : (live : LivePorts) (link : Link) → is_live_at (with_link live link false) link.lower.0 link.lower_port ≡ true → ⊥
low_out live link is = by_test (nat_lt link.lower_port live.k) is
  where
    low : ℕ
    low = port_index live.k link.lower.0 link.lower_port

    by_test : (b : Bool) → (if b then get_or (set (set live.flags low false) (port_index live.k link.upper.0 link.upper_port) false) low false else false) ≡ true → ⊥
    by_test true on = put_out live.flags low (cleared (set live.flags low false) (port_index live.k link.upper.0 link.upper_port) low on)
    by_test false on = absurd (false≢true on)

high_out : (live : LivePorts) (link : Link) → is_live_at (with_link live link false) link.upper.0 link.upper_port ≡ true → ⊥
high_out live link is = by_test (nat_lt link.upper_port live.k) is
  where
    high : ℕ
    high = port_index live.k link.upper.0 link.upper_port

    by_test : (b : Bool) → (if b then get_or (set (set live.flags (port_index live.k link.lower.0 link.lower_port) false) high false) high false else false) ≡ true → ⊥
    by_test true on = put_out (set live.flags (port_index live.k link.lower.0 link.lower_port) false) high on
    by_test false on = absurd (false≢true on)

-- whatever is live in the end was so before
live_before : (k : ℕ) (live : LivePorts) (links : List Link) (s port : ℕ) → is_live_at (only_tree k live links) s port ≡ true → is_live_at live s port ≡ true
live_before k live [] s port is = is
live_before k live (link ∷ links) s port is =
    one (is_off_tree k link) (live_before k (if is_off_tree k link then with_link live link false else live) links s port is)
  where
    one : (b : Bool) → is_live_at (if b then with_link live link false else live) s port ≡ true → is_live_at live s port ≡ true
    one true on = fails_live live link s port on
    one false on = on

moved : (x : LivePorts) (s port a b : ℕ) → s ≡ a → port ≡ b → is_live_at x s port ≡ true → is_live_at x a b ≡ true
moved x s port a b sa pb on = subst (λ n. is_live_at x a n ≡ true) pb (subst (λ n. is_live_at x n port ≡ true) sa on)

pub at_end : (live : LivePorts) (link : Link) (s port : ℕ) → IsAt link s port → is_live_at (with_link live link false) s port ≡ true → ⊥
at_end live link s port (inl low) is = low_out live link (moved (with_link live link false) s port link.lower.0 link.lower_port (sym low.0) (sym low.1) is)
at_end live link s port (inr high) is = high_out live link (moved (with_link live link false) s port link.upper.0 link.upper_port (sym high.0) (sym high.1) is)

off_is_out : (k : ℕ) (live : LivePorts) (links : List Link) (link : Link) (s port : ℕ) → IsAmong link links → is_off_tree k link ≡ true → IsAt link s port →
    is_live_at (only_tree k live links) s port ≡ true → ⊥
off_is_out k live [] link s port among off at is = absurd among
off_is_out k live (l ∷ links) link s port (inl same) off at is =
    let here : is_off_tree k l ≡ true = ap (is_off_tree k) same ∙ off in
    let on = live_before k (if is_off_tree k l then with_link live l false else live) links s port is in
    at_end live l s port (subst (λ m. IsAt m s port) (sym same) at)
    (subst (λ x. is_live_at x s port ≡ true) (cond-true (is_off_tree k l) (with_link live l false) live here) on)
off_is_out k live (l ∷ links) link s port (inr later) off at is =
    off_is_out k (if is_off_tree k l then with_link live l false else live) links link s port later off at is

not_not : (b : Bool) → not b ≡ false → b ≡ true
not_not true is = refl
not_not false is = absurd (false≢true (sym is))

has_end : (link : Link) (s p t q : ℕ) → HasEnds link s p t q → IsAt link s p
has_end link s p t q (inl up) = inl (up.0, up.1)
has_end link s p t q (inr down) = inr (down.0, down.1)

pub tree_is_left : (plan : Plan) (live : LivePorts) → LiveIsTree plan (only_tree plan.k live plan.links)
tree_is_left plan live s port is t q peer =
    let says : IsPeer plan.links s port (Switch t q) = subst (λ p. IsPeer plan.links s port p) peer (peer_says plan.links s port) in
    let link : Link = says.0 in
    elim (cases_Bool (is_off_tree plan.k link)) [
      | inl off ↦ absurd (off_is_out plan.k live plan.links link s port (among_of_Contains link plan.links says.1) off (has_end link s port t.0 q says.2) is)
      | inr on ↦ ends says.2 (not_not (is_tree_link (label_of plan.k link.lower.0) (label_of plan.k link.upper.0)) on)
    ]
  where
    ends : {l : Link} → HasEnds l s port t.0 q → is_tree_link (label_of plan.k l.lower.0) (label_of plan.k l.upper.0) ≡ true →
        is_tree_link (label_of plan.k s) (label_of plan.k t.0) ≡ true
    ends {l} (inl up) j = subst (λ n. is_tree_link (label_of plan.k s) (label_of plan.k n) ≡ true) up.2 (subst (λ n. is_tree_link (label_of plan.k n) (label_of plan.k l.upper.0) ≡ true) up.0 j)
    ends {l} (inr down) j = subst (λ n. is_tree_link (label_of plan.k s) (label_of plan.k n) ≡ true) down.2
        (subst (λ n. is_tree_link (label_of plan.k n) (label_of plan.k l.lower.0) ≡ true) down.0 (either_way (label_of plan.k l.lower.0) (label_of plan.k l.upper.0) j))
