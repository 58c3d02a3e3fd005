-- In the first epoch, where nothing is known by a report alone, the manager does with each word what its rule of one epoch says.
use Rattle.std.proofs.Common.{◌≡◌, [], ◌∷◌, refl, sym, ap, subst, ◌∙◌}
use Rattle.pl_frame.specs.declared.address.SwitchId.{SwitchId}
use Rattle.pl_gathering.specs.Acting.{Done, treats_all}
use Rattle.pl_node.specs.declared.acts.ManagerAct.{ManagerAct}
use Rattle.pl_node.specs.declared.messages.ToManager.{ToManager}
use Rattle.pl_node.specs.declared.messages.ToManager.TheVariants as tell
use Rattle.pl_node.specs.ManagerViews.{ManagerView}
use Rattle.pl_manager_rule.specs.ManagerRule.{ManagerStep, manager_hears, view_after}
use Rattle.pl_manager_rule.specs.Treating.{Treating, at_rest, follows, treats}
use Rattle.pl_manager_rule.specs.WholeRule.{manager_steps}
use Rattle.pl_manager_rule.proofs.Aging.{aged_reported}
use Rattle.pl_manager_rule.proofs.Treating.{at_first, is_at_first, passed_over, treated_alone}

module _ (view : ManagerView) (s : SwitchId) where
  abbrev v : ManagerView
  v = at_first view

  abbrev step_of : Done Treating ManagerAct → ManagerStep
  step_of done = record { view = record done.known.view { epoch = v.epoch; begun = v.begun; ended = v.ended; kept = v.kept }; acts = done.acts }

  -- what a word leaves alone is as it was
  with_gathering : (says : ToManager) → record (view_after v s says) { epoch = v.epoch; begun = v.begun; ended = v.ended; kept = v.kept } ≡ view_after v s says
  with_gathering (tell.Place place) = refl
  with_gathering (tell.Link u usable) = refl
  with_gathering tell.PodWanted = refl
  with_gathering (tell.Learned pmac amac ip) = refl
  with_gathering (tell.Aged x number) = refl
  with_gathering (tell.Begin epoch) = refl
  with_gathering (tell.End epoch) = refl
  with_gathering (tell.Trapped old new number) = refl
  with_gathering (tell.Query asker asker_ip ip) = refl
  with_gathering (tell.Members group any) = refl

  word_heard : (says : ToManager) → step_of (treats_all treats follows (at_rest v) (record { switch = s; word = says } ∷ [])) ≡ manager_hears v s says
  unfolding manager_hears
  word_heard says =
      ap step_of (treated_alone v s says refl refl)
      ∙ ap (λ (w : ManagerView). let step : ManagerStep = record { view = w; acts = (manager_hears v s says).acts } in step) (with_gathering says)

  first_steps : (says : ToManager) → manager_steps v s says ≡ manager_hears v s says
  unfolding manager_steps
  first_steps (tell.Place place) = word_heard (tell.Place place)
  first_steps (tell.Link u usable) = word_heard (tell.Link u usable)
  first_steps tell.PodWanted = word_heard tell.PodWanted
  first_steps (tell.Learned pmac amac ip) = word_heard (tell.Learned pmac amac ip)
  first_steps (tell.Aged x number) = word_heard (tell.Aged x number)
  first_steps (tell.Begin epoch) = sym (passed_over v s (tell.Begin epoch) refl refl)
  first_steps (tell.End epoch) = sym (passed_over v s (tell.End epoch) refl refl)
  first_steps (tell.Trapped old new number) = word_heard (tell.Trapped old new number)
  first_steps (tell.Query asker asker_ip ip) = word_heard (tell.Query asker asker_ip ip)
  first_steps (tell.Members group any) = word_heard (tell.Members group any)

pub same_step : (view : ManagerView) (s : SwitchId) (says : ToManager) → view.epoch ≡ 0 → view.learnt.reported ≡ [] →
    manager_steps view s says ≡ manager_hears view s says
same_step view s says first none =
    subst (λ (w : ManagerView). manager_steps w s says ≡ manager_hears w s says) (sym (is_at_first view first none)) (first_steps view s says)

-- and it stays so
pub epoch_stays : (view : ManagerView) (s : SwitchId) (says : ToManager) → (manager_hears view s says).view.epoch ≡ view.epoch
unfolding manager_hears
epoch_stays view s (tell.Place place) = refl
epoch_stays view s (tell.Link u usable) = refl
epoch_stays view s tell.PodWanted = refl
epoch_stays view s (tell.Learned pmac amac ip) = refl
epoch_stays view s (tell.Aged x number) = refl
epoch_stays view s (tell.Begin epoch) = refl
epoch_stays view s (tell.End epoch) = refl
epoch_stays view s (tell.Trapped old new number) = refl
epoch_stays view s (tell.Query asker asker_ip ip) = refl
epoch_stays view s (tell.Members group any) = refl

pub reported_stays : (view : ManagerView) (s : SwitchId) (says : ToManager) → (manager_hears view s says).view.learnt.reported ≡ view.learnt.reported
unfolding manager_hears
reported_stays view s (tell.Place place) = refl
reported_stays view s (tell.Link u usable) = refl
reported_stays view s tell.PodWanted = refl
reported_stays view s (tell.Learned pmac amac ip) = refl
reported_stays view s (tell.Aged x number) = aged_reported view.learnt x number
reported_stays view s (tell.Begin epoch) = refl
reported_stays view s (tell.End epoch) = refl
reported_stays view s (tell.Trapped old new number) = refl
reported_stays view s (tell.Query asker asker_ip ip) = refl
reported_stays view s (tell.Members group any) = refl
