-- How executions are put together, and how a call over steps ends.
use Rattle.std.proofs.Common.{◌≡◌, ℕ, ◌+◌, Option, Some, None, Result, Ok, Err, IfErr, MatchOption, OnOk, refl, sym, ap, subst, arith}
use Rattle.pl_node.specs.HostInputs.{HostRule}
use Rattle.pl_node.specs.ManagerDuties.{ManagerRule}
use Rattle.pl_node.specs.SwitchInputs.{SwitchRule}
use Rattle.pl_world.specs.declared.error.StepError.{StepError}
use Rattle.pl_world.specs.declared.error.StepError.TheVariants.{AlreadySo, JournalFull, Memory, NoSuch, NothingThere, Occupied, StepsSpent}
use Rattle.pl_world.specs.declared.event.Event.{Event}
use Rattle.pl_world.specs.Ready.{CanStep}
use Rattle.pl_world.specs.Refusals.{refusal}
use Rattle.pl_world.specs.WorldRule.{WorldStep}
use Rattle.pl_world.specs.Worlds.{WorldView}
use Rattle.pl_fabric.specs.Executions.{Execution, EndsAs, Makes, Then, UnlessMemory}
use Rattle.pl_world.proofs.Exports.{step_plan}

pub unless : (e : StepError) (P : Type 0) → P → UnlessMemory e P
unless StepsSpent P holds = holds
unless JournalFull P holds = holds
unless NoSuch P holds = holds
unless Occupied P holds = holds
unless AlreadySo P holds = holds
unless NothingThere P holds = holds
unless Memory P holds = tt

pub unless_weaker : (e : StepError) (P Q : Type 0) → (P → Q) → UnlessMemory e P → UnlessMemory e Q
unless_weaker StepsSpent P Q weaker holds = weaker holds
unless_weaker JournalFull P Q weaker holds = weaker holds
unless_weaker NoSuch P Q weaker holds = weaker holds
unless_weaker Occupied P Q weaker holds = weaker holds
unless_weaker AlreadySo P Q weaker holds = weaker holds
unless_weaker NothingThere P Q weaker holds = weaker holds
unless_weaker Memory P Q weaker holds = tt

pub ends_weaker : {T : Type 0} (P Q : Option StepError → Type 0) → ((end : Option StepError) → P end → Q end) →
    (result : Result T StepError) → EndsAs result P → EndsAs result Q
ends_weaker P Q weaker (Ok x) holds = weaker None holds
ends_weaker P Q weaker (Err e) holds = unless_weaker e (P (Some e)) (Q (Some e)) (weaker (Some e)) holds

-- what is left to do from here, and the whole from the beginning
pub record Leads (rest : Execution) (now : WorldView) (whole : Execution) (old : WorldView) : Type 0 where
  pub on : (end : Option StepError) (new : WorldView) → rest now end new → whole old end new

-- what a loop keeps that steps a world
pub record Keeps (old now : WorldView) : Type 0 where
  pub orderly : CanStep now
  pub plan : now.plan ≡ old.plan

pub then_on : (first next : Execution) (old between : WorldView) (end : Option StepError) (new : WorldView) →
    first old None between → next between end new → Then first next old end new
then_on first next old between end new done rest = (None, between, done, rest)

pub then_stops : (first next : Execution) (old between : WorldView) (e : StepError) →
    first old (Some e) between → Then first next old (Some e) between
then_stops first next old between e stopped = (Some e, between, stopped, (refl, refl))

-- the first part of an execution was done
pub led_on : (first next whole : Execution) (now between old : WorldView) →
    Leads (Then first next) now whole old → first now None between → Leads next between whole old
led_on first next whole now between old leads done = record {
  on = λ end new rest. leads.on end new (then_on first next now between end new done rest);
}

-- a step of it was refused
pub led_stops : (first next whole : Execution) (now between old : WorldView) (e : StepError) →
    Leads (Then first next) now whole old → first now (Some e) between → whole old (Some e) between
led_stops first next whole now between old e leads stopped = leads.on (Some e) between (then_stops first next now between e stopped)

-- at the beginning all is left
pub leads_all : (part : ℕ → Execution) (many left : ℕ) (w : WorldView) → left + 0 ≡ many → Leads (part left) w (part many) w
leads_all part many left w all =
    let same : left ≡ many = omega arith in
    subst (λ n. Leads (part left) w (part n) w) same (record { on = λ end new rest. rest })

module _ (switch : SwitchRule) (manager : ManagerRule) (host : HostRule) (old new : WorldView) (event : Event) where
  made_or_refused : (e : StepError) (o : Option StepError) → refusal old event ≡ o →
      ((r : StepError) → refusal old event ≡ Some r → (e ≡ r) × (new ≡ old)) → (refusal old event ≡ None → e ≡ Memory) →
      (P : Option StepError → Type 0) → ((r : StepError) → refusal old event ≡ Some r → new ≡ old → P (Some r)) → UnlessMemory e (P (Some e))
  made_or_refused e None is refused memory P holds = subst (λ r. UnlessMemory r (P (Some r))) (sym (memory is)) tt
  made_or_refused e (Some r) is refused memory P holds =
      let both = refused r is in
      subst (λ x. UnlessMemory x (P (Some x))) (sym both.0) (unless r (P (Some r)) (holds r is both.1))

  ends : {T : Type 0} (P : Option StepError → Type 0) → ((refusal old event ≡ None) → WorldStep switch manager host old event new → P None) →
      ((r : StepError) → refusal old event ≡ Some r → new ≡ old → P (Some r)) → (result : Result T StepError) →
      OnOk result ((refusal old event ≡ None) × WorldStep switch manager host old event new) →
      ((r : StepError) → refusal old event ≡ Some r → (result ≡ Err r) × (new ≡ old)) →
      (refusal old event ≡ None → IfErr result (λ e. e ≡ Memory)) → EndsAs result P
  ends P made stays (Ok x) step refused memory = made step.0 step.1
  ends P made stays (Err e) step refused memory =
      made_or_refused e (refusal old event) refl (λ r is. (let both = (refused r is).0 in cc, (refused r is).1)) memory P stays

  -- what an event does, by its refusal
  abbrev DoneBy : Option StepError → Option StepError → Type 0
  DoneBy refused end = MatchOption refused ((end ≡ None) × WorldStep switch manager host old event new) (λ reason. (end ≡ Some reason) × (new ≡ old))

  pub step_makes : {T : Type 0} (result : Result T StepError) →
      OnOk result ((refusal old event ≡ None) × WorldStep switch manager host old event new) →
      ((r : StepError) → refusal old event ≡ Some r → (result ≡ Err r) × (new ≡ old)) →
      (refusal old event ≡ None → IfErr result (λ e. e ≡ Memory)) →
      EndsAs result (λ end. Makes switch manager host event old end new)
  step_makes result = ends (DoneBy (refusal old event))
      (λ none step. subst (λ o. DoneBy o None) (sym none) (refl, step))
      (λ r is same. subst (λ o. DoneBy o (Some r)) (sym is) (refl, same))
      result

  pub step_keeps : {T : Type 0} (P : WorldView → Type 0) → P old → (result : Result T StepError) → OnOk result (P new) →
      ((r : StepError) → refusal old event ≡ Some r → (result ≡ Err r) × (new ≡ old)) →
      (refusal old event ≡ None → IfErr result (λ e. e ≡ Memory)) → EndsAs result (λ end. P new)
  step_keeps P before (Ok x) kept refused memory = kept
  step_keeps P before (Err e) kept refused memory =
      made_or_refused e (refusal old event) refl (λ r is. (let both = (refused r is).0 in cc, (refused r is).1)) memory
      (λ end. P new) (λ r is same. subst P (sym same) before)

  pub step_keeps_plan : {T : Type 0} (result : Result T StepError) →
      OnOk result ((refusal old event ≡ None) × WorldStep switch manager host old event new) →
      ((r : StepError) → refusal old event ≡ Some r → (result ≡ Err r) × (new ≡ old)) →
      (refusal old event ≡ None → IfErr result (λ e. e ≡ Memory)) → EndsAs result (λ end. new.plan ≡ old.plan)
  step_keeps_plan result = ends (λ end. new.plan ≡ old.plan) (λ none step. step_plan switch manager host old event new step)
      (λ r is same. ap (λ w. w.plan) same) result
