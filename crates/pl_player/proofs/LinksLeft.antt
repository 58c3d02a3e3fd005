-- Links that are none of the tree fail, one after the other.
use Rattle.std.proofs.Common.{◌≡◌, ℕ, zero, suc, ◌+◌, ◌<◌, ◌≤◌, Bool, true, false, if◌then◌else◌, List, [], ◌∷◌, length, drop, MatchOption, Option, None, Some, slice_get, inl, inr, refl, sym, ap, ◌∙◌, subst, arith}
use Rattle.std.proofs.lemmas.List.{drop_more}
use Rattle.std.proofs.lemmas.Option.{get_or_from_slice_get, same_Some, slice_get_within}
use Rattle.std.proofs.Math.ListN.{drop_of_length-le}
use Rattle.pl_wiring.specs.declared.link.Link.{Link}
use Rattle.pl_wiring.specs.Labels.{switch_count}
use Rattle.pl_wiring.specs.Plan.{IsPlan, Plan}
use Rattle.pl_node.specs.HostInputs.{HostRule}
use Rattle.pl_node.specs.ManagerDuties.{ManagerRule}
use Rattle.pl_node.specs.SwitchInputs.{SwitchRule}
use Rattle.pl_node.proofs.Exports.{IsAmong}
use Rattle.pl_world.specs.declared.error.StepError.{StepError}
use Rattle.pl_world.specs.declared.event.Event.TheVariants as event
use Rattle.pl_world.specs.LinksAndMoves.{link_between, link_failed}
use Rattle.pl_world.specs.Refusals.{refusal}
use Rattle.pl_world.specs.WorldRule.{LinkFails, WorldStep}
use Rattle.pl_world.specs.Worlds.{WorldView}
use Rattle.pl_fabric.specs.Executions.{Makes}
use Rattle.pl_wiring.specs.FatTree.{IsTreeLink}
use Rattle.pl_wiring.proofs.Exports.{at_contained, tree_ends}
use Rattle.pl_law_bridge.specs.TreeWorld.{is_off_tree, tree_from}
use Rattle.pl_law_bridge.proofs.Exports.{between_its_ends, contained}
use Rattle.pl_player.specs.Leaving.{left_of_link}

-- a link of the wiring is in it
pub is_among : (links : List Link) (n : ℕ) (link : Link) → slice_get links n ≡ Some link → IsAmong link links
is_among [] n link there = absurd (cc)
is_among (l ∷ links) zero link there = inl (same_Some l link there)
is_among (l ∷ links) (suc n) link there = inr (is_among links n link there)

module _ (switch : SwitchRule) (manager : ManagerRule) (host : HostRule) where
  by_refusal : (link : Link) (old new : WorldView) (o : Option StepError) → link_between old.plan link.lower.0 link.upper.0 ≡ Some link →
      MatchOption o ((◌≡◌ {A = Option StepError} None None) × WorldStep switch manager host old (event.Fail link.lower link.upper) new) (λ reason. (None ≡ Some reason) × (new ≡ old)) →
      new ≡ link_failed (record old { steps = old.steps + 1 }) link
  by_refusal link old new None between done =
      subst (λ o. LinkFails (record old { steps = old.steps + 1 }) o new) between done.1
  by_refusal link old new (Some reason) between done = let refused : None ≡ Some reason = done.0 in absurd (cc)

  -- a link of the wiring that was not refused to fail has failed
  pub has_failed : (old new : WorldView) (n : ℕ) (link : Link) → IsPlan old.plan → slice_get old.plan.links n ≡ Some link →
      Makes switch manager host (event.Fail link.lower link.upper) old None new → new ≡ link_failed (record old { steps = old.steps + 1 }) link
  has_failed old new n link is there made =
      by_refusal link old new (refusal old (event.Fail link.lower link.upper)) (between_its_ends old.plan link is (is_among old.plan.links n link there)) made

-- of a link that is none of the tree, and of one that is
pub failed_as_left : (k : ℕ) (old new : WorldView) (link : Link) (off : Bool) → off ≡ is_off_tree k link → off ≡ true →
    new ≡ link_failed (record old { steps = old.steps + 1 }) link → new ≡ left_of_link k old link
failed_as_left k old new link off is is_off failed =
    failed ∙ ap (λ b. if b then link_failed (record old { steps = old.steps + 1 }) link else old) (sym (sym is ∙ is_off))

pub stayed_as_left : (k : ℕ) (old : WorldView) (link : Link) (off : Bool) → off ≡ is_off_tree k link → off ≡ false → old ≡ left_of_link k old link
stayed_as_left k old link off is not_off = ap (λ b. if b then link_failed (record old { steps = old.steps + 1 }) link else old) (sym (sym is ∙ not_off))

-- the ends of a link are switches of the wiring
pub link_ends : (plan : Plan) (n : ℕ) (link : Link) → IsPlan plan → slice_get plan.links n ≡ Some link →
    (link.lower.0 < switch_count plan.k) × (link.upper.0 < switch_count plan.k)
link_ends plan n link is there = tree_ends plan.k link (at_contained (IsTreeLink plan.k) plan.links link is.tree.no_other (contained link plan.links (is_among plan.links n link there)))

some_at : (links : List Link) (n : ℕ) → n < length links → (link : Link) × (slice_get links n ≡ Some link)
some_at [] n within = absurd (omega (arith, within))
some_at (l ∷ links) zero within = (l, refl)
some_at (l ∷ links) (suc n) within = some_at links n (omega (arith, within))

drop_at : (links : List Link) (n : ℕ) (link : Link) → slice_get links n ≡ Some link → drop n links ≡ link ∷ drop (n + 1) links
drop_at links n link at =
    drop_more links n link (slice_get_within links n link at) ∙ ap (λ x. x ∷ drop (n + 1) links) (get_or_from_slice_get links n link link at)

one_left : (first now next : WorldView) (k n : ℕ) (links : List Link) (there : (link : Link) × (slice_get links n ≡ Some link)) →
    next ≡ left_of_link k now there.0 → tree_from k now (drop n links) ≡ tree_from k first links → tree_from k next (drop (n + 1) links) ≡ tree_from k first links
one_left first now next k n links there is whole =
    ap (λ w. tree_from k w (drop (n + 1) links)) is ∙ ap (tree_from k now) (sym (drop_at links n there.0 there.1)) ∙ whole

-- one link more was left
pub leaves_on : (plan : Plan) (first now next : WorldView) (n : ℕ) → now.plan ≡ plan → n < length plan.links →
    ((link : Link) → slice_get now.plan.links n ≡ Some link → next ≡ left_of_link now.plan.k now link) →
    tree_from plan.k now (drop n plan.links) ≡ tree_from plan.k first plan.links → tree_from plan.k next (drop (n + 1) plan.links) ≡ tree_from plan.k first plan.links
leaves_on plan first now next n same within left whole =
    let there = some_at plan.links n within in
    one_left first now next plan.k n plan.links there
    (left there.0 (ap (λ (p : Plan). slice_get p.links n) same ∙ there.1) ∙ ap (λ (p : Plan). left_of_link p.k now there.0) same) whole

-- and none is left
pub all_left : (k n : ℕ) (links : List Link) (now whole : WorldView) → length links ≤ n → tree_from k now (drop n links) ≡ whole → now ≡ whole
all_left k n links now whole most is = ap (tree_from k now) (sym (drop_of_length-le links most)) ∙ is
