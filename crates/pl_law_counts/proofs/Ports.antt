-- The ports of a switch lead apart: from a switch to the next one a link leads up or down, two ports do not lead to the same switch, and the port at the
-- other end leads back; and sums over the ports of a switch of which at most one counts.
use Rattle.std.proofs.Common.{◌≡◌, ℕ, zero, suc, ◌+◌, ◌≤◌, ◌⊎◌, Bool, true, List, [], ◌∷◌, refl, sym, ap, ◌∙◌, subst, arith, inl, inr}
use Rattle.std.specs.List.{filter, range_with_len}
use Rattle.std.proofs.lemmas.Bool.{cases_Bool, cond-false, cond-true}
use Rattle.pl_wiring.specs.declared.label.Label.{Label}
use Rattle.pl_wiring.specs.declared.label.Label.TheVariants.{Aggregation, Core, Edge}
use Rattle.pl_wiring.specs.declared.label.SwitchNo.{SwitchNo}
use Rattle.pl_wiring.specs.declared.link.Link.{Link}
use Rattle.pl_wiring.specs.declared.link.Peer.TheVariants.{Switch}
use Rattle.pl_wiring.specs.FatTree.{IsBelow, IsTreeLink}
use Rattle.pl_wiring.specs.Labels.{IsLabel, label_of}
use Rattle.pl_wiring.specs.Peers.{LinksSwitches, IsPeer, peer_of}
use Rattle.pl_wiring.specs.Plan.{IsPlan, Plan}
use Rattle.pl_wiring.proofs.Exports.{at_contained, IsPeer-is, IsPeer-turned, label_of-number_of, peer_says, same_between}
use Rattle.pl_world.specs.Changes.{switch_no}

-- from one switch to the other a link leads up, or down
pub data Rung (k s t : ℕ) : Type 0 where
  UpFromEdge : (p i j : ℕ) → label_of k s ≡ Edge p i → label_of k t ≡ Aggregation p j → Rung k s t
  UpToCore : (p j m : ℕ) → label_of k s ≡ Aggregation p j → label_of k t ≡ Core j m → Rung k s t
  DownFromCore : (p j m : ℕ) → label_of k s ≡ Core j m → label_of k t ≡ Aggregation p j → Rung k s t
  DownToEdge : (p i j : ℕ) → label_of k s ≡ Aggregation p j → label_of k t ≡ Edge p i → Rung k s t

rungs : (k s t : ℕ) (lower upper : Label) → label_of k s ≡ lower → label_of k t ≡ upper → IsBelow lower upper → Rung k s t × Rung k t s
rungs k s t (Edge p i) (Edge q j) at_s at_t below = absurd below
rungs k s t (Edge p i) (Aggregation q j) at_s at_t below =
    let here : label_of k t ≡ Aggregation p j = at_t ∙ ap (λ n. Aggregation n j) (sym below) in (UpFromEdge p i j at_s here, DownToEdge p i j here at_s)
rungs k s t (Edge p i) (Core j m) at_s at_t below = absurd below
rungs k s t (Aggregation p j) (Edge q i) at_s at_t below = absurd below
rungs k s t (Aggregation p j) (Aggregation q i) at_s at_t below = absurd below
rungs k s t (Aggregation p j) (Core i m) at_s at_t below =
    let here : label_of k t ≡ Core j m = at_t ∙ ap (λ n. Core n m) (sym below) in (UpToCore p j m at_s here, DownFromCore p j m here at_s)
rungs k s t (Core j m) (Edge q i) at_s at_t below = absurd below
rungs k s t (Core j m) (Aggregation q i) at_s at_t below = absurd below
rungs k s t (Core j m) (Core i n) at_s at_t below = absurd below

no_loop : (k s : ℕ) → Rung k s s → ⊥
no_loop k s (UpFromEdge p i j at there) = (let e = sym at ∙ there in absurd (cc))
no_loop k s (UpToCore p j m at there) = (let e = sym at ∙ there in absurd (cc))
no_loop k s (DownFromCore p j m at there) = (let e = sym at ∙ there in absurd (cc))
no_loop k s (DownToEdge p i j at there) = (let e = sym at ∙ there in absurd (cc))

module _ (plan : Plan) (is_plan : IsPlan plan) where
  module _ (s q : ℕ) (t : SwitchNo) (p : ℕ) (peer : peer_of plan s q ≡ Switch t p) where
    says : IsPeer plan.links s q (Switch t p)
    says = subst (λ peer. IsPeer plan.links s q peer) peer (peer_says plan.links s q)

    pub rung : Rung plan.k s t.0
    rung =
        let tree : IsTreeLink plan.k says.0 = at_contained (IsTreeLink plan.k) plan.links says.0 is_plan.tree.no_other says.1 in
        let low : label_of plan.k says.0.lower.0 ≡ tree.lower = ap (label_of plan.k) tree.joins.0 ∙ label_of-number_of plan.k tree.lower tree.lower_in_range in
        let high : label_of plan.k says.0.upper.0 ≡ tree.upper = ap (label_of plan.k) tree.joins.1 ∙ label_of-number_of plan.k tree.upper tree.upper_in_range in
        let both = rungs plan.k says.0.lower.0 says.0.upper.0 tree.lower tree.upper low high tree.below in
        elim (says.2) [
          | inl up ↦ subst (λ n. Rung plan.k s n) up.2 (subst (λ n. Rung plan.k n says.0.upper.0) up.0 both.0)
          | inr down ↦ subst (λ n. Rung plan.k s n) down.2 (subst (λ n. Rung plan.k n says.0.lower.0) down.0 both.1)
        ]

    -- the label of the switch at the other end is one of the tree
    pub label_there : IsLabel plan.k (label_of plan.k t.0)
    label_there =
        let tree : IsTreeLink plan.k says.0 = at_contained (IsTreeLink plan.k) plan.links says.0 is_plan.tree.no_other says.1 in
        let low : label_of plan.k says.0.lower.0 ≡ tree.lower = ap (label_of plan.k) tree.joins.0 ∙ label_of-number_of plan.k tree.lower tree.lower_in_range in
        let high : label_of plan.k says.0.upper.0 ≡ tree.upper = ap (label_of plan.k) tree.joins.1 ∙ label_of-number_of plan.k tree.upper tree.upper_in_range in
        elim (says.2) [
          | inl up ↦ subst (λ l. IsLabel plan.k l) (sym high ∙ ap (label_of plan.k) up.2) tree.upper_in_range
          | inr down ↦ subst (λ l. IsLabel plan.k l) (sym low ∙ ap (label_of plan.k) down.2) tree.lower_in_range
        ]

    between : LinksSwitches says.0 s t.0
    between = elim (says.2) [ inl up ↦ inl (up.0, up.2) | inr down ↦ inr (down.2, down.0) ]

  -- two ports of a switch do not lead to the same one
  pub one_port : (s q p a b : ℕ) (t u : SwitchNo) → peer_of plan s q ≡ Switch t a → peer_of plan s p ≡ Switch u b → t.0 ≡ u.0 → q ≡ p
  one_port s q p a b t u peer other same =
      let l = says s q t a peer in
      let m = says s p u b other in
      let one : l.0 ≡ m.0 = same_between plan l.0 m.0 s t.0 is_plan l.1 m.1 (between s q t a peer) (subst (λ n. LinksSwitches m.0 s n) (sym same) (between s p u b other)) in
      elim (l.2) [
        | inl up ↦ elim (m.2) [
          | inl also ↦ sym up.1 ∙ ap (λ (x : Link). x.lower_port) one ∙ also.1
          | inr turned ↦ absurd (no_loop plan.k s (subst (λ n. Rung plan.k s n) (same ∙ sym turned.2 ∙ sym (ap (λ (x : Link). x.lower.0) one) ∙ up.0) (rung s q t a peer)))
        ]
        | inr down ↦ elim (m.2) [
          | inl turned ↦ absurd (no_loop plan.k s (subst (λ n. Rung plan.k s n) (same ∙ sym turned.2 ∙ sym (ap (λ (x : Link). x.upper.0) one) ∙ down.0) (rung s q t a peer)))
          | inr also ↦ sym down.1 ∙ ap (λ (x : Link). x.upper_port) one ∙ also.1
        ]
      ]

-- the port at the other end leads back
pub peer_back : (plan : Plan) (s port : ℕ) (t : SwitchNo) (q : ℕ) → IsPlan plan → peer_of plan s port ≡ Switch t q → peer_of plan t.0 q ≡ Switch (switch_no s) port
peer_back plan s port t q is peer =
    let says : IsPeer plan.links s port (Switch t q) = subst (λ p. IsPeer plan.links s port p) peer (peer_says plan.links s port) in
    sym (IsPeer-is plan.k plan.links t.0 q (Switch (switch_no s) port) is.tree (IsPeer-turned plan.links (switch_no s) port t q says))

-- Sums over the ports that pass a test.

abbrev pub sum_of : (ℕ → ℕ) → List ℕ → ℕ
sum_of f [] = 0
sum_of f (p ∷ ports) = f p + sum_of f ports

none_later : (test : ℕ → Bool) (f : ℕ → ℕ) (from n : ℕ) → ((q : ℕ) → from ≤ q → test q ≡ true → f q ≡ 0) →
    sum_of f (filter test (range_with_len from n)) ≡ 0
none_later test f from zero none = refl
none_later test f from (suc n) none =
    let rest = none_later test f (from + 1) n (λ q later passes. none q (omega arith) passes) in
    elim (cases_Bool (test from)) [
      | inl passes ↦ ap (sum_of f) (cond-true (test from) (from ∷ filter test (range_with_len (from + 1) n)) (filter test (range_with_len (from + 1) n)) passes)
          ∙ (let here = none from (omega arith) passes in omega arith)
      | inr other ↦ ap (sum_of f) (cond-false (test from) (from ∷ filter test (range_with_len (from + 1) n)) (filter test (range_with_len (from + 1) n)) other) ∙ rest
    ]

-- each that passes counts nothing, or alone counts something
abbrev pub CountsAlone : (ℕ → Bool) → (ℕ → ℕ) → ℕ → ℕ → Type 0
CountsAlone test f most q = (f q ≡ 0) ⊎ ((f q ≤ most) × ((p : ℕ) → test p ≡ true → (q ≡ p → ⊥) → f p ≡ 0))

pub one_only : (test : ℕ → Bool) (f : ℕ → ℕ) (most from n : ℕ) → ((q : ℕ) → test q ≡ true → CountsAlone test f most q) →
    sum_of f (filter test (range_with_len from n)) ≤ most
one_only test f most from zero alone = omega arith
one_only test f most from (suc n) alone =
    let rest = one_only test f most (from + 1) n alone in
    elim (cases_Bool (test from)) [
      | inl passes ↦
          let all = ap (sum_of f) (cond-true (test from) (from ∷ filter test (range_with_len (from + 1) n)) (filter test (range_with_len (from + 1) n)) passes) in
          elim (alone from passes) [
            | inl none ↦ omega arith
            | inr some ↦ (let others = none_later test f (from + 1) n (λ q later also. some.1 q also (λ same. absurd (omega arith))) in let most_here = some.0 in omega arith)
          ]
      | inr other ↦
          (let all = ap (sum_of f) (cond-false (test from) (from ∷ filter test (range_with_len (from + 1) n)) (filter test (range_with_len (from + 1) n)) other) in omega arith)
    ]
