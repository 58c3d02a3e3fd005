-- What a link says of the switches at its ends.
use Rattle.std.proofs.Common.{◌≡◌, ℕ, ◌<◌, ◌⊎◌, sym, ap, ◌∙◌, arith, inl, inr, Contains}
use Rattle.pl_wiring.specs.declared.link.Link.{Link}
use Rattle.pl_wiring.specs.FatTree.{IsBelow, IsTreeLink}
use Rattle.pl_wiring.specs.Labels.{label_of, switch_count}
use Rattle.pl_wiring.specs.Peers.{HasEnds, peer_of}
use Rattle.pl_wiring.specs.Plan.{IsPlan, Plan}
use Rattle.pl_wiring.proofs.Exports.{at_contained, IsPeer-symmetric, label_of-number_of, link_rises, peer_is_switch, peer_says, tree_ends}
use Rattle.pl_law_control_plane.specs.ControlPlanes.{AreAdjacent}

-- the link between two joined ports
record Between (plan : Plan) (s p t q : ℕ) : Type 0 where
  link : Link
  there : Contains plan.links link
  ends : HasEnds link s p t q

between : (plan : Plan) (s p t q : ℕ) → IsPlan plan → AreAdjacent plan s p t q → Between plan s p t q
between plan s p t q is adjacent =
    let any = (peer_is_switch plan s p (record { 0 = t }) q is).0 adjacent in
    record { link = any.1; there = (any.0, any.2, any.3); ends = any.4 }

in_tree : (plan : Plan) (link : Link) → IsPlan plan → Contains plan.links link → IsTreeLink plan.k link
in_tree plan link is there = at_contained (IsTreeLink plan.k) plan.links link is.tree.no_other there

-- a link joins two different switches
pub adjacent_differ : (plan : Plan) (s p t q : ℕ) → IsPlan plan → AreAdjacent plan s p t q → s ≡ t → ⊥
adjacent_differ plan s p t q is adjacent same =
    let b = between plan s p t q is adjacent in
    let rises = link_rises plan.k b.link (in_tree plan b.link is b.there) in
    elim b.ends [ inl e ↦ absurd (omega (arith, e.0, e.2)) | inr e ↦ absurd (omega (arith, e.0, e.2)) ]

pub adjacent_turned : (plan : Plan) (s p t q : ℕ) → IsPlan plan → AreAdjacent plan s p t q → AreAdjacent plan t q s p
adjacent_turned plan s p t q is adjacent =
    IsPeer-symmetric plan.k plan.links (record { 0 = s }) p (peer_of plan s p) is.tree (peer_says plan.links s p) (record { 0 = t }) q adjacent

-- its ends are there
pub adjacent_there : (plan : Plan) (s p t q : ℕ) → IsPlan plan → AreAdjacent plan s p t q → (s < switch_count plan.k) × (p < plan.k)
adjacent_there plan s p t q is adjacent =
    let b = between plan s p t q is adjacent in
    let ends = tree_ends plan.k b.link (in_tree plan b.link is b.there) in
    let ports = at_contained (λ l. (l.lower_port < plan.k) × (l.upper_port < plan.k)) plan.links b.link is.tree.ports_in_range b.there in
    elim b.ends [
      | inl e ↦ (omega (arith, e.0, ends.0), omega (arith, e.1, ports.0))
      | inr e ↦ (omega (arith, e.0, ends.1), omega (arith, e.1, ports.1))
    ]

-- one of the two switches is below the other in the tree
pub adjacent_labels : (plan : Plan) (s p t q : ℕ) → IsPlan plan → AreAdjacent plan s p t q →
    IsBelow (label_of plan.k s) (label_of plan.k t) ⊎ IsBelow (label_of plan.k t) (label_of plan.k s)
adjacent_labels plan s p t q is adjacent =
    let b = between plan s p t q is adjacent in
    let tree = in_tree plan b.link is b.there in
    let lower : label_of plan.k b.link.lower.0 ≡ tree.lower = ap (label_of plan.k) tree.joins.0 ∙ label_of-number_of plan.k tree.lower tree.lower_in_range in
    let upper : label_of plan.k b.link.upper.0 ≡ tree.upper = ap (label_of plan.k) tree.joins.1 ∙ label_of-number_of plan.k tree.upper tree.upper_in_range in
    elim b.ends [
      | inl e ↦ inl (rw (ap (label_of plan.k) (sym e.0) ∙ lower, ap (label_of plan.k) (sym e.2) ∙ upper) tree.below)
      | inr e ↦ inr (rw (ap (label_of plan.k) (sym e.0) ∙ upper, ap (label_of plan.k) (sym e.2) ∙ lower) tree.below)
    ]
