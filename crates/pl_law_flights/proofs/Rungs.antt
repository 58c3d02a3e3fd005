-- What a link of the tree says of the two switches that it joins.
use Rattle.std.proofs.Common.{◌≡◌, ℕ, zero, suc, ◌==◌, ◌&&◌, ◌||◌, Bool, true, List, [], ◌∷◌, Contains, ap, ◌∙◌, subst, arith, inl, inr}
use Rattle.std.specs.List.{list_any}
use Rattle.std.proofs.lemmas.Bool.{and_from, eq-eqb, or_left, or_right}
use Rattle.pl_wiring.specs.declared.label.SwitchNo.{SwitchNo}
use Rattle.pl_wiring.specs.declared.link.Link.{Link}
use Rattle.pl_wiring.specs.declared.link.Peer.TheVariants.{Switch}
use Rattle.pl_wiring.specs.Peers.{IsPeer, peer_of}
use Rattle.pl_wiring.specs.Plan.{IsPlan, Plan}
use Rattle.pl_wiring.proofs.Exports.{peer_says}
use Rattle.pl_journal.specs.declared.entry.Entry.{Entry}
use Rattle.pl_journal.specs.Places.{has_failed_link, is_failed, is_adjacent, same_ends}
use Rattle.pl_journal.proofs.Exports.{failed_either_way}

pub any_contained : (p : Link → Bool) (links : List Link) (link : Link) → Contains links link → p link ≡ true → list_any p links ≡ true
any_contained p [] link there is = absurd (omega (arith, there.1))
any_contained p (l ∷ links) link (zero, within, same) is = or_left (p l) (list_any p links) (ap p same ∙ is)
any_contained p (l ∷ links) link (suc n, within, same) is =
    or_right (p l) (list_any p links) (any_contained p links link (n, omega (arith, within), same) is)

module _ (plan : Plan) (s q : ℕ) (t : SwitchNo) (p : ℕ) (is_plan : IsPlan plan) (peer : peer_of plan s q ≡ Switch t p) where
  says : IsPeer plan.links s q (Switch t p)
  says = subst (λ peer. IsPeer plan.links s q peer) peer (peer_says plan.links s q)

  pub adjacent : is_adjacent plan s t.0 ≡ true
  adjacent = any_contained (λ l. same_ends l.lower.0 l.upper.0 s t.0) plan.links says.0 says.1 (elim (says.2) [
    | inl up ↦ or_left _ _ (and_from _ _ (eq-eqb _ _ up.0) (eq-eqb _ _ up.2))
    | inr down ↦ or_right _ _ (and_from _ _ (eq-eqb _ _ down.2) (eq-eqb _ _ down.0))
  ])

  -- where the link is failed the switch has a failed link
  pub failed_here : (past : List Entry) → is_failed past s t.0 ≡ true → has_failed_link plan past s ≡ true
  failed_here past failed = any_contained (λ l. ((l.lower.0 == s) || (l.upper.0 == s)) && is_failed past l.lower.0 l.upper.0) plan.links says.0 says.1 (elim (says.2) [
    | inl up ↦ and_from _ _ (or_left _ _ (eq-eqb _ _ up.0)) (ap (λ n. is_failed past n says.0.upper.0) up.0 ∙ ap (is_failed past s) up.2 ∙ failed)
    | inr down ↦ and_from _ _ (or_right _ _ (eq-eqb _ _ down.0))
        (failed_either_way past says.0.lower.0 says.0.upper.0 ∙ ap (λ n. is_failed past n says.0.lower.0) down.0 ∙ ap (is_failed past s) down.2 ∙ failed)
  ])
