-- No event changes what the manager knows but a message to it, and that it begins anew.
use Rattle.std.proofs.Common.{◌≡◌, ℕ, ◌+◌, ◌≤◌, sym, ◌∙◌, ap, subst}
use Rattle.pl_wiring.specs.Plan.{Plan}
use Rattle.pl_node.specs.declared.messages.ToManager.{ToManager}
use Rattle.pl_node.specs.HostInputs.{HostRule}
use Rattle.pl_node.specs.ManagerDuties.{AnswersDuly, ManagerRule}
use Rattle.pl_node.specs.ManagerViews.{ManagerView, restarted_manager}
use Rattle.pl_node.specs.SwitchInputs.{SwitchRule}
use Rattle.pl_world.specs.declared.event.Event.{Event}
use Rattle.pl_world.specs.declared.limits.Limits.{Limits}
use Rattle.pl_world.specs.Hearing.{HeardWithin, IsWithinHearing}
use Rattle.pl_world.specs.WorldRule.{Happens, ManagerTurn, WorldStep}
use Rattle.pl_world.specs.Worlds.{WorldView}
use Rattle.pl_world.proofs.Beside.{ByActs, by_event, by_host, by_manager_acts, by_switch_acts, turned_by}
use Rattle.pl_world.proofs.Hearing.{heard_anew, heard_no_more, heard_one_more}
use Rattle.pl_world.proofs.Turning.{Turned}
use Rattle.pl_world.proofs.Turning.Turned.{NoTurn, OfFailed, OfHost, OfManager, OfMoved, OfRepaired, OfRestarted, OfSwitch}

record Known : Type 0 where
  plan : Plan
  manager : ManagerView

abbrev knows : WorldView → Known
knows w = record { plan = w.plan; manager = w.manager }

module _ (n : ℕ) (switch : SwitchRule) (manager : ManagerRule) (host : HostRule) (answers : AnswersDuly manager) (w : WorldView) (e : Event) (new : WorldView)
    (within : HeardWithin w.plan w.manager n) where
  After : Known → Type 0
  After k = HeardWithin k.plan k.manager (n + 1)

  no_more : knows new ≡ knows w → After (knows new)
  unfolding After
  no_more same = subst After (sym same) (heard_no_more w.plan w.manager n within)

  told : (mid : WorldView) (s : ℕ) (told : ToManager) → knows mid ≡ knows w → ManagerTurn manager mid s told new → After (knows new)
  unfolding After
  told mid s says before turn =
      let grown = answers.grows mid.manager turn.id says turn.after turn.acts turn.ruled in
      let same : knows new ≡ knows (record mid { manager = turn.after }) = ap knows (by_manager_acts manager mid s says new turn) in
      let still : HeardWithin mid.plan mid.manager n = subst (λ (k : Known). HeardWithin k.plan k.manager n) (sym before) within in
      subst After (sym same) (heard_one_more mid.plan mid.manager turn.after n s turn.id turn.found grown still)

  anew : knows new ≡ record { plan = w.plan; manager = restarted_manager w.manager.k (w.manager.epoch + 1) } → After (knows new)
  unfolding After
  anew same = subst After (sym same) (heard_anew w.plan w.manager n (w.manager.epoch + 1) within)

  by_turn : Turned ByActs switch manager host w e new → After (knows new)
  by_turn (NoTurn r) = no_more (ap knows r)
  by_turn (OfSwitch mid s input speech r turn) = no_more (ap knows (by_switch_acts switch mid s input speech new turn) ∙ ap knows r)
  by_turn (OfHost mid h input answer r turn) = no_more (ap knows (by_host host mid h input answer new turn) ∙ ap knows r)
  by_turn (OfManager mid s says r turn) = told mid s says (ap knows r) turn
  by_turn (OfMoved h s port from is at turn) = no_more (ap knows (by_host host _ h.0 _ _ new turn))
  by_turn (OfFailed a b link is found fails) = no_more (ap knows fails)
  by_turn (OfRepaired a b link is found repairs) = no_more (ap knows repairs)
  by_turn (OfRestarted is restarts) = anew (ap knows restarts)

  happens_within : Happens switch manager host w e new → HeardWithin new.plan new.manager (n + 1)
  unfolding After
  happens_within does = by_turn (turned_by switch manager host w e new does)

-- a step keeps what the manager heard within the wiring
pub step_within : (switch : SwitchRule) (manager : ManagerRule) (host : HostRule) → AnswersDuly manager → (old : WorldView) (e : Event) (new : WorldView) →
    IsWithinHearing old → WorldStep switch manager host old e new → IsWithinHearing new
step_within switch manager host answers old e new within step =
    let counted : WorldView = record old { steps = old.steps + 1 } in
    let same = by_event switch manager host counted e new step in
    record {
      within = subst (HeardWithin new.plan new.manager) (sym (ap (λ (x : WorldView). x.steps) same))
          (happens_within old.steps switch manager host answers counted e new within.within step);
      few_steps = subst (λ (l : Limits). l.steps ≤ 4000000000) (sym (ap (λ (x : WorldView). x.limits) same)) within.few_steps;
    }
