-- From what a call on one switch, or one host, says to what the world's rule says.
use Rattle.std.proofs.Common.{◌≡◌, ℕ, List, [], ◌∷◌, ◌++◌, length, Some, slice_get, sym, ◌∙◌, ap, subst}
use Rattle.std.specs.List.{AllByRecursion, fold}
use Rattle.std.proofs.Math.ListN.{length-map}
use Rattle.pl_frame.specs.declared.address.SwitchId.{SwitchId}
use Rattle.pl_node.specs.declared.acts.Act.{Act}
use Rattle.pl_node.specs.declared.acts.HostAct.{HostAct}
use Rattle.pl_node.specs.declared.acts.ManagerAct.{ManagerAct}
use Rattle.pl_node.specs.declared.messages.ToManager.{ToManager}
use Rattle.pl_layouts.specs.declared.place.Place.{Place}
use Rattle.pl_node.specs.Accounting.{AccountsForFrames, CanCome, IsFit, IsShaped}
use Rattle.pl_node.specs.Gains.{Gains}
use Rattle.pl_node.specs.HostInputs.{HostAnswer, HostInput, HostRule}
use Rattle.pl_node.specs.HostViews.{HostView}
use Rattle.pl_node.specs.ManagerFacts.{CanHear}
use Rattle.pl_node.specs.ManagerDuties.{ManagerRule}
use Rattle.pl_node.specs.ManagerViews.{ManagerView}
use Rattle.pl_node.specs.SwitchInputs.{SwitchInput, SwitchRule}
use Rattle.pl_node.specs.SwitchViews.{SwitchView}
use Rattle.pl_world.specs.declared.item.Item.{Item}
use Rattle.pl_world.specs.declared.spoken_frame.SpokenFrame.{SpokenFrame}
use Rattle.pl_world.specs.Flying.{IsFormed}
use Rattle.pl_world_parts.specs.OneStep.{HostSteps, SwitchSteps, sizes}
use Rattle.pl_world.specs.OtherActs.{host_act_done, manager_act_done}
use Rattle.pl_world.specs.SwitchActs.{acts_done, begins, place_noted, with_late}
use Rattle.pl_world.specs.WorldRule.{HostTurn, ManagerTurn, SwitchTurn}
use Rattle.pl_world.specs.Worlds.{WorldView}
use Rattle.pl_world.proofs.Exports.{all_found}

-- a list of numbers that are all the same
pub sizes_same : (k : ℕ) (old new : List SwitchView) → sizes new ≡ sizes old → AllByRecursion (λ v. v.k ≡ k) old → AllByRecursion (λ v. v.k ≡ k) new
sizes_same k [] [] same all = tt
sizes_same k [] (v ∷ new) same all = absurd (cc)
sizes_same k (v ∷ old) [] same all = absurd (cc)
sizes_same k (v ∷ old) (u ∷ new) same all = let here : u.k ≡ v.k = cc in let rest : sizes new ≡ sizes old = cc in (here ∙ all.0, sizes_same k old new rest all.1)

pub sizes_many : (old new : List SwitchView) → sizes new ≡ sizes old → length new ≡ length old
sizes_many old new same = sym (length-map new (λ v. v.k)) ∙ ap length same ∙ length-map old (λ v. v.k)

pub formed_switches : (v : WorldView) (new : List SwitchView) → sizes new ≡ sizes v.switches → IsFormed v → IsFormed (record v { switches = new })
formed_switches v new same f = record {
  plan = f.plan;
  links = f.links;
  attachments = f.attachments;
  at_ports = f.at_ports;
  heard = f.heard;
  switches = sizes_many v.switches new same ∙ f.switches;
  ports = sizes_same v.plan.k v.switches new same f.ports;
  hosts = f.hosts;
  from_hosts = f.from_hosts;
  out = f.out;
  to_manager = f.to_manager;
  from_manager = f.from_manager;
}

-- and the queues out of ports are the same
pub formed_stepped : (v : WorldView) (new : List SwitchView) (out : List (List Item)) → sizes new ≡ sizes v.switches → out ≡ v.out → IsFormed v →
    IsFormed (record v { switches = new; out = out })
formed_stepped v new out same queues f = subst (λ o. IsFormed (record v { switches = new; out = o })) (sym queues) (formed_switches v new same f)

pub formed_hosts : (v : WorldView) (new : List HostView) → length new ≡ length v.hosts → IsFormed v → IsFormed (record v { hosts = new })
formed_hosts v new same f = record {
  plan = f.plan;
  links = f.links;
  attachments = f.attachments;
  at_ports = f.at_ports;
  heard = f.heard;
  switches = f.switches;
  ports = f.ports;
  hosts = same ∙ f.hosts;
  from_hosts = f.from_hosts;
  out = f.out;
  to_manager = f.to_manager;
  from_manager = f.from_manager;
}

module _ (rule : SwitchRule) (v w : WorldView) (s : ℕ) (input : SwitchInput) (switches : List SwitchView) (was is : Place) (start out : List Act) (same : v ≡ w)
    (empty : start ≡ []) (steps : Gains start out (SwitchSteps rule v.switches s input switches was is)) where
  private_items : steps.items ≡ out
  private_items = sym (steps.gained ∙ ap (λ xs. xs ++ steps.items) empty)

  -- the acts go out by ports that are there
  pub acts_fit : AccountsForFrames rule → IsFormed v → AllByRecursion IsShaped w.switches → ((u : SwitchView) → u.k ≡ v.plan.k → CanCome u input) →
      AllByRecursion (IsFit v.plan.k) out
  acts_fit accounts formed shaped can =
      let step = steps.holds in
      let k : step.before.k ≡ v.plan.k = all_found (λ (u : SwitchView). u.k ≡ v.plan.k) v.switches s step.before step.found formed.ports in
      let is_shaped : IsShaped step.before = all_found IsShaped v.switches s step.before step.found (rw same shaped) in
      let fits = (accounts step.before input step.after steps.items is_shaped (can step.before k) step.ruled).fit in
      rw (sym private_items) (subst (λ n. AllByRecursion (IsFit n) steps.items) k fits)

  pub switch_moved : (speech : SpokenFrame) (new : WorldView) →
      new ≡ place_noted s was is (with_late (acts_done s (begins (record v { switches = switches }) speech) out)) → SwitchTurn rule w s input speech new
  switch_moved speech new is_new =
      let step = steps.holds in
      subst (λ x. SwitchTurn rule x s input speech new) same (record {
        before = step.before;
        after = step.after;
        acts = steps.items;
        found = step.found;
        ruled = step.ruled;
        changed = rw (private_items, ← step.changed, ← step.was_placed, ← step.is_placed) is_new;
      })

module _ (rule : HostRule) (v w : WorldView) (h : ℕ) (input : HostInput) (answer : HostAnswer) (hosts : List HostView) (start out : List HostAct) (same : v ≡ w)
    (empty : start ≡ []) (steps : Gains start out (HostSteps rule v.hosts h input answer hosts)) where
  pub host_moved : (new : WorldView) → new ≡ fold (host_act_done h) (record v { hosts = hosts }) out → HostTurn rule w h input answer new
  host_moved new is_new =
      let step = steps.holds in
      subst (λ x. HostTurn rule x h input answer new) same (record {
        before = step.before;
        after = step.after;
        acts = steps.items;
        found = step.found;
        ruled = step.ruled;
        changed = rw (sym (steps.gained ∙ ap (λ xs. xs ++ steps.items) empty), ← step.changed) is_new;
      })

-- what comes may come at each switch that has as many ports as the wiring says
pub can_come : (v w : WorldView) (input : SwitchInput) → v ≡ w → ((u : SwitchView) → u.k ≡ w.plan.k → CanCome u input) →
    (u : SwitchView) → u.k ≡ v.plan.k → CanCome u input
can_come v w input same can = subst (λ (x : WorldView). (u : SwitchView) → u.k ≡ x.plan.k → CanCome u input) (sym same) can

pub coming_at : (v w : WorldView) (s : ℕ) (input : SwitchInput) → v ≡ w → IsFormed v → ((u : SwitchView) → u.k ≡ w.plan.k → CanCome u input) →
    (u : SwitchView) → slice_get v.switches s ≡ Some u → CanCome u input
coming_at v w s input same formed can u found =
    can_come v w input same can u (all_found (λ (x : SwitchView). x.k ≡ v.plan.k) v.switches s u found formed.ports)

-- the manager hears a switch
pub can_hear : (v w : WorldView) (s : ℕ) (id : SwitchId) → v ≡ w → ((i : SwitchId) → slice_get w.plan.ids s ≡ Some i → CanHear w.manager i) →
    slice_get v.plan.ids s ≡ Some id → CanHear v.manager id
can_hear v w s id same can found = subst (λ (x : WorldView). ((i : SwitchId) → slice_get x.plan.ids s ≡ Some i → CanHear x.manager i)) (sym same) can id found

pub manager_moved : (rule : ManagerRule) (v w : WorldView) (s : ℕ) (told : ToManager) (id : SwitchId) (after : ManagerView) (start out : List ManagerAct) (new : WorldView) →
    v ≡ w → start ≡ [] → slice_get v.plan.ids s ≡ Some id → Gains start out (rule v.manager id told after) →
    new ≡ fold manager_act_done (record v { manager = after }) out → ManagerTurn rule w s told new
manager_moved rule v w s told id after start out new same empty found gains is_new = subst (λ x. ManagerTurn rule x s told new) same (record {
  id = id;
  after = after;
  acts = gains.items;
  found = found;
  ruled = gains.holds;
  changed = rw (sym (gains.gained ∙ ap (λ xs. xs ++ gains.items) empty)) is_new;
})
