-- What the wiring says of the votes' switches: which ports lead where, and which ids differ.
use Rattle.std.proofs.Common.{◌≡◌, ℕ, ◌<◌, get_or, sym, ◌∙◌, ap, subst, arith, inl, inr}
use Rattle.std.specs.Prelude.{Contains}
use Rattle.std.proofs.lemmas.Bool.{cases_lt}
use Rattle.pl_ldp.specs.Writable.{IsWritableId}
use Rattle.pl_wiring.specs.declared.label.Label.{Label}
use Rattle.pl_wiring.specs.declared.label.Label.TheVariants.{Aggregation, Core, Edge}
use Rattle.pl_wiring.specs.declared.label.SwitchNo.{SwitchNo}
use Rattle.pl_wiring.specs.declared.link.Link.{Link}
use Rattle.pl_wiring.specs.declared.link.Peer.TheVariants.{Switch}
use Rattle.pl_wiring.specs.FatTree.{IsBelow, IsTreeLink}
use Rattle.pl_wiring.specs.Labels.{IsLabel, label_of, number_of, switch_count}
use Rattle.pl_wiring.specs.Peers.{HasEnds, IsPeer}
use Rattle.pl_wiring.specs.Plan.{IsPlan, Plan}
use Rattle.pl_wiring.proofs.Exports.{at_contained, IsPeer-in_range, IsPeer-is, IsPeer-turned, label_of-number_of, number_of-below, number_of-edge_below, peer_is_switch, peer_says}
use Rattle.pl_law_control_plane.specs.ControlPlanes.{AreAdjacent}
use Rattle.pl_law_votes.specs.Counting.{LeadsToAggregation}
use Rattle.pl_law_votes.specs.Voting.{aggregation_no, edge_no}

one_label : (k : ℕ) (a b : Label) → IsLabel k a → IsLabel k b → number_of k a ≡ number_of k b → a ≡ b
one_label k a b is_a is_b same = sym (label_of-number_of k a is_a) ∙ ap (λ n. label_of k n) same ∙ label_of-number_of k b is_b

module _ (plan : Plan) (is : IsPlan plan) where
  pub turned : (s p t q : ℕ) → AreAdjacent plan s p t q → AreAdjacent plan t q s p
  turned s p t q adjacent =
      let says : IsPeer plan.links s p (Switch (record { 0 = t }) q) = subst (λ peer. IsPeer plan.links s p peer) adjacent (peer_says plan.links s p) in
      sym (IsPeer-is plan.k plan.links t q (Switch (record { 0 = s }) p) is.tree (IsPeer-turned plan.links (record { 0 = s }) p (record { 0 = t }) q says))

  -- a link leads to a switch that is there
  pub is_there : (s p t q : ℕ) → AreAdjacent plan s p t q → t < switch_count plan.k
  is_there s p t q adjacent =
      (IsPeer-in_range plan.k plan.links s p (Switch (record { 0 = t }) q) is.tree
      (subst (λ peer. IsPeer plan.links s p peer) adjacent (peer_says plan.links s p))).0

  -- one port leads to one port
  pub same_end : (s p t q a b : ℕ) → AreAdjacent plan s p t q → AreAdjacent plan s p a b → (t ≡ a) × (q ≡ b)
  same_end s p t q a b one other =
      let same : Switch (record { 0 = t }) q ≡ Switch (record { 0 = a }) b = sym one ∙ other in
      let switches : ◌≡◌ {A = SwitchNo} (record { 0 = t }) (record { 0 = a }) = cc same in
      (ap (λ (x : SwitchNo). x.0) switches, cc same)

  -- a link of an edge switch leads up to an aggregation switch of its pod
  pub leads_up : (pod i port t q : ℕ) → IsLabel plan.k (Edge pod i) → AreAdjacent plan (edge_no plan.k pod i) port t q →
      LeadsToAggregation plan pod (edge_no plan.k pod i) port
  leads_up pod i port t q label adjacent =
      let l = (peer_is_switch plan (edge_no plan.k pod i) port (record { 0 = t }) q is).0 adjacent in
      let there : Contains plan.links l.1 = (l.0, l.2, l.3) in
      let tree = at_contained (IsTreeLink plan.k) plan.links l.1 is.tree.no_other there in
      by l.1 tree l.4
    where
      -- the upper end
      up : (lower upper : Label) → lower ≡ Edge pod i → IsLabel plan.k upper → IsBelow lower upper → t ≡ number_of plan.k upper → LeadsToAggregation plan pod (edge_no plan.k pod i) port
      up lower (Aggregation other j) same within below is_t =
          let pods : pod ≡ other = subst (λ (x : Label). IsBelow x (Aggregation other j)) same below in
          (j, within.1, q, adjacent ∙ ap (λ n. Switch (record { 0 = n }) q) (is_t ∙ ap (λ x. number_of plan.k (Aggregation x j)) (sym pods)))
      up lower (Edge other j) same within below is_t = absurd (subst (λ (x : Label). IsBelow x (Edge other j)) same below)
      up lower (Core other j) same within below is_t = absurd (subst (λ (x : Label). IsBelow x (Core other j)) same below)

      -- an edge switch is no upper end
      never : (lower : Label) → IsBelow lower (Edge pod i) → ⊥
      never (Edge a b) below = below
      never (Aggregation a b) below = below
      never (Core a b) below = below

      by : (link : Link) → IsTreeLink plan.k link → HasEnds link (edge_no plan.k pod i) port t q → LeadsToAggregation plan pod (edge_no plan.k pod i) port
      by link tree (inl ends) =
          let same = one_label plan.k tree.lower (Edge pod i) tree.lower_in_range label (sym tree.joins.0 ∙ ends.0) in
          up tree.lower tree.upper same tree.upper_in_range tree.below (sym ends.2 ∙ tree.joins.1)
      by link tree (inr ends) =
          let same = one_label plan.k tree.upper (Edge pod i) tree.upper_in_range label (sym tree.joins.1 ∙ ends.0) in
          absurd (never tree.lower (subst (λ (x : Label). IsBelow tree.lower x) same tree.below))

  -- edge and aggregation switches are different ones
  pub levels_apart : (pod i other j : ℕ) → IsLabel plan.k (Edge pod i) → aggregation_no plan.k other j ≡ edge_no plan.k pod i → ⊥
  levels_apart pod i other j label same = let below = number_of-edge_below plan.k pod i label.0 label.1 in absurd (omega (arith, same, below))

  pub number_there : (label : Label) → IsLabel plan.k label → number_of plan.k label < switch_count plan.k
  number_there label within = number_of-below plan.k label within

  -- two switches have two ids
  pub ids_differ : (s t : ℕ) → s < switch_count plan.k → t < switch_count plan.k → (s ≡ t → ⊥) →
      (get_or plan.ids s (record { 0 = 0 })).0 ≡ (get_or plan.ids t (record { 0 = 0 })).0 → ⊥
  ids_differ s t there also differ same =
      let many = is.ids_many in
      elim (cases_lt s t) [
        | inl less ↦ is.ids_apart s t (record { 0 = 0 }) less (omega (arith, many, also)) same
        | inr more ↦ is.ids_apart t s (record { 0 = 0 }) (omega (arith, more, differ)) (omega (arith, many, there)) (sym same)
      ]

  pub id_fits : (s : ℕ) → s < switch_count plan.k → IsWritableId (get_or plan.ids s (record { 0 = 0 }))
  id_fits s there =
      let many = is.ids_many in
      let range = is.ids_in_range s (record { 0 = 0 }) (omega (arith, many, there)) in
      (range.0, range.1)
