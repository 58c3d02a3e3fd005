-- What the manager does with a word that it treats goes by what it treated before, and not by whose report it heard, nor by what it keeps.
use Rattle.std.proofs.Common.{◌≡◌, Bool, true, false, cond, List, [], ◌∷◌, ◌++◌, Option, fold, refl, ap, ◌∙◌}
use Rattle.pl_frame.specs.declared.address.SwitchId.{SwitchId}
use Rattle.pl_pmac.specs.declared.pmac.Pmac.{Pmac}
use Rattle.pl_gathering.specs.Acting.{Done, then_treats}
use Rattle.pl_gathering.specs.Gathering.{Heard}
use Rattle.pl_node.specs.declared.acts.ManagerAct.{ManagerAct}
use Rattle.pl_node.specs.declared.messages.ToManager.{ToManager}
use Rattle.pl_node.specs.declared.messages.ToManager.TheVariants as tell
use Rattle.pl_node.specs.ManagerViews.{ManagerView, Reported}
use Rattle.pl_manager_rule.specs.ManagerRule.{ManagerStep, manager_hears}
use Rattle.pl_manager_rule.specs.Reports.{counts_as, known_at, with_aged_as}
use Rattle.pl_manager_rule.specs.Treating.{Treating, at_rest, follows, then_releases, to_release, treats, treats_word}
use Rattle.pl_law_due.specs.Due.{treated}
use Rattle.pl_law_due.specs.DueSteps.{released}

-- the same, from what the manager knows by all that it treated
pub record IsAlikeTreated (v : ManagerView) (aged : List Pmac) (s : SwitchId) (says : ToManager) : Type 0 where
  pub view : treated (treats_word (record { view = v; aged = aged }) s says).known.view ≡ (treats_word (at_rest (treated v)) s says).known.view
  pub acts : (treats_word (record { view = v; aged = aged }) s says).acts ≡ (treats_word (at_rest (treated v)) s says).acts
  pub epoch : (treats_word (record { view = v; aged = aged }) s says).known.view.epoch ≡ v.epoch

module _ (v : ManagerView) (aged : List Pmac) (s : SwitchId) where
  aged_view : (x : Pmac) (known : Option Reported) (b : Bool) →
      treated (cond {A = Treating} b (record { view = record v { learnt = with_aged_as v.learnt s x known }; aged = aged ++ x ∷ [] }) (record { view = v; aged = aged })).view
      ≡ (cond {A = Treating} b (record { view = record (treated v) { learnt = with_aged_as v.learnt s x known }; aged = x ∷ [] }) (at_rest (treated v))).view
  aged_view x known true = refl
  aged_view x known false = refl

  aged_epoch : (x : Pmac) (known : Option Reported) (b : Bool) →
      (cond {A = Treating} b (record { view = record v { learnt = with_aged_as v.learnt s x known }; aged = aged ++ x ∷ [] }) (record { view = v; aged = aged })).view.epoch ≡ v.epoch
  aged_epoch x known true = refl
  aged_epoch x known false = refl

  pub alike_treated : (says : ToManager) → IsAlikeTreated v aged s says
  unfolding manager_hears
  alike_treated (tell.Aged x number) =
      let known = known_at v.learnt x in
      let b = counts_as v.epoch number known in
      record { view = aged_view x known b; acts = refl; epoch = aged_epoch x known b }
  alike_treated (tell.Place place) = record { view = refl; acts = refl; epoch = refl }
  alike_treated (tell.Link u usable) = record { view = refl; acts = refl; epoch = refl }
  alike_treated tell.PodWanted = record { view = refl; acts = refl; epoch = refl }
  alike_treated (tell.Learned a b c) = record { view = refl; acts = refl; epoch = refl }
  alike_treated (tell.Begin n) = record { view = refl; acts = refl; epoch = refl }
  alike_treated (tell.End n) = record { view = refl; acts = refl; epoch = refl }
  alike_treated (tell.Trapped a b c) = record { view = refl; acts = refl; epoch = refl }
  alike_treated (tell.Query a b c) = record { view = refl; acts = refl; epoch = refl }
  alike_treated (tell.Members group any) = record { view = refl; acts = refl; epoch = refl }

pub each_epoch : (heard : List (Heard ToManager)) (done : Done Treating ManagerAct) → (fold (then_treats treats) done heard).known.view.epoch ≡ done.known.view.epoch
each_epoch [] done = refl
each_epoch (h ∷ heard) done = each_epoch heard (then_treats treats done h) ∙ (alike_treated done.known.view done.known.aged h.switch h.word).epoch

-- ---- what follows
abbrev bare : ManagerStep → ManagerStep
bare step = record { view = treated step.view; acts = step.acts }

releases_alike : (aged : List Pmac) (step : ManagerStep) → fold then_releases (bare step) aged ≡ bare (fold then_releases step aged)
releases_alike [] step = refl
releases_alike (x ∷ aged) step = releases_alike aged (then_releases step x)

releases_epoch : (aged : List Pmac) (step : ManagerStep) → (fold then_releases step aged).view.epoch ≡ step.view.epoch
releases_epoch [] step = refl
releases_epoch (x ∷ aged) step = releases_epoch aged (then_releases step x)

module _ (t : Treating) where
  pub follows_view : (released (treated t.view) t.aged).known.view ≡ treated (follows t).known.view
  follows_view = ap (λ (step : ManagerStep). step.view) (releases_alike (to_release t) (record { view = t.view; acts = [] }))

  pub follows_acts : (released (treated t.view) t.aged).acts ≡ (follows t).acts
  follows_acts = ap (λ (step : ManagerStep). step.acts) (releases_alike (to_release t) (record { view = t.view; acts = [] }))

  pub follows_epoch : (follows t).known.view.epoch ≡ t.view.epoch
  follows_epoch = releases_epoch (to_release t) (record { view = t.view; acts = [] })
