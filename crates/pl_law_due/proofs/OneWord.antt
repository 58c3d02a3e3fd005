-- A word that is treated is one that the manager hears by its rule of one epoch, or it is noted of an address; and what follows are releases.
use Rattle.std.proofs.Common.{◌≡◌, ◌⊎◌, ℕ, Bool, true, false, cond, if◌then◌else◌, List, [], ◌∷◌, ◌++◌, Option, fold, refl, sym, ap, subst, ◌∙◌, inl, inr}
use Rattle.std.specs.List.{AllByRecursion, position}
use Rattle.pl_lemmas.proofs.Exports.{all_append}
use Rattle.pl_frame.specs.declared.address.SwitchId.{SwitchId}
use Rattle.pl_pmac.specs.declared.pmac.Pmac.{Pmac}
use Rattle.pl_layouts.specs.Equality.{same_switch}
use Rattle.pl_wiring.specs.Plan.{Plan}
use Rattle.pl_node.specs.declared.acts.ManagerAct.{ManagerAct}
use Rattle.pl_node.specs.declared.messages.ToManager.{ToManager}
use Rattle.pl_node.specs.declared.messages.ToManager.TheVariants as tell
use Rattle.pl_node.specs.declared.messages.ToSwitch.{ToSwitch}
use Rattle.pl_node.specs.declared.messages.ToSwitch.TheVariants as say
use Rattle.pl_node.specs.ManagerViews.{ManagerView, Reported}
use Rattle.pl_manager_rule.specs.ManagerRule.{ManagerStep, manager_rule}
use Rattle.pl_manager_rule.specs.Reports.{counts_as, known_at, releases_known, with_aged_as}
use Rattle.pl_manager_rule.specs.Treating.{Treating, at_rest, then_releases, to_release}
use Rattle.pl_manager_rule.proofs.Exports.{IsReleaseTo, released_to}
use Rattle.pl_law_control_plane.specs.ControlPlanes.{ControlPlane}
use Rattle.pl_law_control_plane.specs.PlaneSteps.{ManagerTurns, is_to, ordered, ordered_by}
use Rattle.pl_law_control_plane.specs.Restarts.{IsAlike}
use Rattle.pl_law_due.specs.DueSteps.{Releases, released, treats_one}

-- that an address has aged, or that a trap stands for it
abbrev pub is_note : ToManager → Bool
is_note (tell.Aged x number) = true
is_note (tell.Trapped old new number) = true
is_note told = false

-- an order that releases an address
abbrev pub IsRelease : ToSwitch → Type 0
IsRelease (say.Release x) = Unit {0}
IsRelease says = ⊥

-- Of addresses the manager knows something else then, and it may have released some; of all else it knows the same.
pub record Learns (f g : ControlPlane) : Type 0 where
  pub alike : IsAlike f g
  pub manager : g.manager ≡ record f.manager { learnt = g.manager.learnt }
  pub more : ℕ → List ToSwitch
  pub orders : (s : ℕ) → g.orders s ≡ f.orders s ++ more s
  pub releases : (s : ℕ) → AllByRecursion IsRelease (more s)

-- ---- a word
noted_view : (v : ManagerView) (s : SwitchId) (x : Pmac) (known : Option Reported) (b : Bool) →
    let t : Treating = cond b (record { view = record v { learnt = with_aged_as v.learnt s x known }; aged = x ∷ [] }) (at_rest v) in
    t.view ≡ record v { learnt = t.view.learnt }
noted_view v s x known true = refl
noted_view v s x known false = refl

module _ (m g : ControlPlane) (id : SwitchId) where
  noted : (told : ToManager) (turns : ManagerTurns treats_one m id told g) (view : ManagerView) → turns.after ≡ view → view ≡ record m.manager { learnt = view.learnt } → turns.acts ≡ [] →
      Learns m g
  noted told turns view is only none = record {
    alike = record { plan = turns.plan; view = turns.view; says = turns.says; carries = λ s port carries. sym (turns.carries s port) ∙ carries };
    manager =
        let manager_is = turns.manager ∙ is in
        manager_is ∙ only ∙ sym (ap (λ (v : ManagerView). record m.manager { learnt = v.learnt }) manager_is);
    more = λ s. [];
    orders = λ s. turns.orders s ∙ ap (λ acts. m.orders s ++ ordered m.plan s acts) none;
    releases = λ s. tt;
  }

  ruled_as : (told : ToManager) (turns : ManagerTurns treats_one m id told g) → manager_rule m.manager id told turns.after turns.acts → ManagerTurns manager_rule m id told g
  ruled_as told turns ruled = record {
    after = turns.after;
    acts = turns.acts;
    ruled = ruled;
    plan = turns.plan;
    view = turns.view;
    says = turns.says;
    carries = turns.carries;
    reports = turns.reports;
    orders = turns.orders;
    manager = turns.manager;
  }

  pub heard_or_noted : (told : ToManager) → ManagerTurns treats_one m id told g →
      ManagerTurns manager_rule m id told g ⊎ ((is_note told ≡ true) × Learns m g)
  heard_or_noted (tell.Aged x number) turns =
      let known = known_at m.manager.learnt x in
      inr (refl, noted (tell.Aged x number) turns _ turns.ruled.0 (noted_view m.manager id x known (counts_as m.manager.epoch number known)) turns.ruled.1)
  heard_or_noted (tell.Trapped old new number) turns = inr (refl, noted (tell.Trapped old new number) turns _ turns.ruled.0 refl turns.ruled.1)
  heard_or_noted (tell.Place place) turns = inl (ruled_as (tell.Place place) turns turns.ruled)
  heard_or_noted (tell.Link u usable) turns = inl (ruled_as (tell.Link u usable) turns turns.ruled)
  heard_or_noted tell.PodWanted turns = inl (ruled_as tell.PodWanted turns turns.ruled)
  heard_or_noted (tell.Learned a b c) turns = inl (ruled_as (tell.Learned a b c) turns turns.ruled)
  heard_or_noted (tell.Begin n) turns = inl (ruled_as (tell.Begin n) turns turns.ruled)
  heard_or_noted (tell.End n) turns = inl (ruled_as (tell.End n) turns turns.ruled)
  heard_or_noted (tell.Query a b c) turns = inl (ruled_as (tell.Query a b c) turns turns.ruled)
  heard_or_noted (tell.Members group any) turns = inl (ruled_as (tell.Members group any) turns turns.ruled)

-- ---- releases
only_learnt : (aged : List Pmac) (step : ManagerStep) → (fold then_releases step aged).view ≡ record step.view { learnt = (fold then_releases step aged).view.learnt }
only_learnt [] step = refl
only_learnt (x ∷ aged) step = only_learnt aged (then_releases step x)

abbrev IsReleasing : ManagerAct → Type 0
IsReleasing act = IsReleaseTo (λ to. Unit {0}) act

each_releasing : (aged : List Pmac) (step : ManagerStep) → AllByRecursion IsReleasing step.acts → AllByRecursion IsReleasing (fold then_releases step aged).acts
each_releasing [] step all = all
each_releasing (x ∷ aged) step all =
    each_releasing aged (then_releases step x)
    (all_append IsReleasing step.acts (releases_known x step.view.learnt).acts all (released_to (λ to. Unit {0}) x step.view.learnt (λ r among. tt)))

ordered_releasing : (plan : Plan) (s : ℕ) (acts : List ManagerAct) → AllByRecursion IsReleasing acts → AllByRecursion IsRelease (ordered plan s acts)
ordered_releasing plan s [] all = tt
ordered_releasing plan s (act ∷ acts) all =
    all_append IsRelease (ordered_by plan s act) (ordered plan s acts)
    (subst (λ a. AllByRecursion IsRelease (ordered_by plan s a)) (sym all.0.is) (by (is_to (position (same_switch all.0.to) plan.ids) s)))
    (ordered_releasing plan s acts all.1)
  where
    by : (b : Bool) → AllByRecursion IsRelease (if b then say.Release all.0.pmac ∷ [] else [])
    by true = (tt, tt)
    by false = tt

pub releases_learn : (f : ControlPlane) (aged : List Pmac) (g : ControlPlane) → Releases f aged g → Learns f g
releases_learn f aged g part =
    let start : ManagerStep = record { view = f.manager; acts = [] } in
    let all : List Pmac = to_release (record { view = f.manager; aged = aged }) in
    record {
      alike = part.alike;
      manager = part.manager ∙ only_learnt all start ∙ sym (ap (λ (v : ManagerView). record f.manager { learnt = v.learnt }) part.manager);
      more = λ s. ordered f.plan s (released f.manager aged).acts;
      orders = part.orders;
      releases = λ s. ordered_releasing f.plan s (released f.manager aged).acts (each_releasing all start tt);
    }
