-- In every run of bridges an address is at one port of each table.
use Rattle.std.proofs.Common.{◌≡◌, ℕ, ◌+◌, List, [], ◌∷◌, map, None, set, refl, sym, ap, ◌∙◌, subst}
use Rattle.std.specs.List.{AllByRecursion}
use Rattle.pl_frame.specs.declared.address.SwitchId.{SwitchId}
use Rattle.pl_node.specs.HostInputs.{HostRule}
use Rattle.pl_node.specs.ManagerDuties.{ManagerRule}
use Rattle.pl_node.specs.SwitchFacts.{switch_at_boot}
use Rattle.pl_node.specs.SwitchInputs.{SwitchInput}
use Rattle.pl_node.specs.SwitchViews.{SwitchView}
use Rattle.pl_world.specs.declared.event.Event.{Event}
use Rattle.pl_world.specs.declared.spoken_frame.SpokenFrame.{SpokenFrame}
use Rattle.pl_world.specs.Booting.{booted}
use Rattle.pl_world.specs.LinksAndMoves.{host_moved}
use Rattle.pl_world.specs.Refusals.{refusal}
use Rattle.pl_world.specs.Runs.{InEveryRun}
use Rattle.pl_world.specs.WorldRule.{SwitchTurn, WorldStep}
use Rattle.pl_world.specs.Worlds.{WorldView}
use Rattle.pl_world.proofs.Exports.{all_found, all_set, Any, any_of_switches, by_host, by_manager, run_along, switch_acts_left, Takes, Turned, turned, Writes}
use Rattle.pl_world.proofs.Exports.Turned.{NoTurn, OfFailed, OfHost, OfManager, OfMoved, OfRepaired, OfRestarted, OfSwitch}
use Rattle.pl_bridge_rule.specs.BridgeRule.{AreAtOnePort, Bridges}
use Rattle.pl_bridge_rule.proofs.Exports.{none_at_one, stays_at_one}

abbrev pub HasOnePort : SwitchView → Type 0
HasOnePort v = AreAtOnePort v.members

abbrev pub HaveOnePort : WorldView → Type 0
HaveOnePort w = AllByRecursion HasOnePort w.switches

-- ---- switches know what they knew
abbrev Same : WorldView → WorldView → Type 0
Same a b = b.switches ≡ a.switches

same_writes : Writes Same Any
same_writes = record { same = λ w. refl; on = λ a b c one next. next ∙ one; entry = λ w e may. refl; dropped = λ id why. tt }

same_takes : Takes Same
same_takes =
    record { from_hosts = λ w h items. refl; out = λ w i items. refl; to_manager = λ w s items. refl; from_manager = λ w s items. refl; heard = λ w heard. refl }

kept : (a b : WorldView) → Same a b → HaveOnePort a → HaveOnePort b
kept a b same all = subst (AllByRecursion HasOnePort) (sym same) all

-- ---- a turn of a bridge
pub turn_switches : (w : WorldView) (s : ℕ) (input : SwitchInput) (speech : SpokenFrame) (new : WorldView) → (turn : SwitchTurn Bridges w s input speech new) →
    new.switches ≡ set w.switches s turn.after
turn_switches w s input speech new turn =
    switch_acts_left Same Any same_writes (any_of_switches Same (λ u e. refl)) (λ u i item. refl) (λ u t told. refl) s Bridges w input speech new (λ place. tt) turn

turn_keeps : (w : WorldView) (s : ℕ) (input : SwitchInput) (speech : SpokenFrame) (new : WorldView) → SwitchTurn Bridges w s input speech new → HaveOnePort w → HaveOnePort new
turn_keeps w s input speech new turn all =
    kept (record w { switches = set w.switches s turn.after }) new
    (turn_switches w s input speech new turn)
    (all_set HasOnePort w.switches s turn.after
    (stays_at_one turn.before input turn.after turn.acts turn.ruled (all_found HasOnePort w.switches s turn.before turn.found all)) all)

module _ (manager : ManagerRule) (host : HostRule) where
  by_turn : (w : WorldView) (e : Event) (new : WorldView) → Turned Same Bridges manager host w e new → HaveOnePort w → HaveOnePort new
  by_turn w e new (NoTurn same) all = kept w new same all
  by_turn w e new (OfSwitch mid s input speech same turn) all = turn_keeps mid s input speech new turn (kept w mid same all)
  by_turn w e new (OfHost mid h input answer same turn) all = kept w new (ap (λ (x : WorldView). x.switches) (by_host host mid h input answer new turn) ∙ same) all
  by_turn w e new (OfManager mid s told same turn) all = kept w new (ap (λ (x : WorldView). x.switches) (by_manager manager mid s told new turn) ∙ same) all
  by_turn w e new (OfMoved h s port from is found turn) all =
      kept w new (ap (λ (x : WorldView). x.switches) (by_host host (host_moved w h.0 from (record { edge = s; port = port })) h.0 _ _ new turn)) all
  by_turn w e new (OfFailed a b link is found fails) all = kept w new (ap (λ (x : WorldView). x.switches) fails) all
  by_turn w e new (OfRepaired a b link is found repaired) all = kept w new (ap (λ (x : WorldView). x.switches) repaired) all
  by_turn w e new (OfRestarted is anew) all = kept w new (ap (λ (x : WorldView). x.switches) anew) all

  step_keeps_tables : (old : WorldView) (e : Event) (new : WorldView) → refusal old e ≡ None → WorldStep Bridges manager host old e new → HaveOnePort old → HaveOnePort new
  step_keeps_tables old e new fine step all =
      by_turn (record old { steps = old.steps + 1 }) e new
      (turned Same Any same_writes same_takes (λ id s. tt) (λ id h frame. tt) (λ h skip. tt) Bridges manager host (record old { steps = old.steps + 1 }) e new step) all

  all_at_boot : (k : ℕ) (ids : List SwitchId) → AllByRecursion HasOnePort (map (λ id. switch_at_boot id k) ids)
  all_at_boot k [] = tt
  all_at_boot k (id ∷ ids) = (none_at_one, all_at_boot k ids)

  pub tables_in_every_run : InEveryRun Bridges manager host HaveOnePort
  tables_in_every_run plan limits moments new can run =
      run_along (λ a b. HaveOnePort a → HaveOnePort b) (λ w all. all) (λ a b c one next all. next (one all)) Bridges manager host
      step_keeps_tables (λ w e is all. all) (booted plan limits) moments new run (all_at_boot plan.k plan.ids)
