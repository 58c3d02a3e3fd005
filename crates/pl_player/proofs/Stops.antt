-- How calls end that do what lines ask, and how such things are put together.
use Rattle.std.proofs.Common.{◌≡◌, ℕ, ◌+◌, List, Option, Some, None, Result, Ok, Err, refl, sym, subst, arith}
use Rattle.pl_world.specs.declared.error.StepError.{StepError}
use Rattle.pl_world.specs.declared.error.StepError.TheVariants.{AlreadySo, JournalFull, Memory, NoSuch, NothingThere, Occupied, StepsSpent}
use Rattle.pl_world.specs.Ready.{CanStep}
use Rattle.pl_world.specs.Worlds.{WorldView}
use Rattle.pl_fabric.specs.Executions.{Execution, UnlessMemory}
use Rattle.pl_script_rule.specs.declared.stop.Stop.{Stop}
use Rattle.pl_script_rule.specs.declared.stop.Stop.TheVariants.{Refused}
use Rattle.pl_script_rule.specs.Scenes.{Before, SceneExecution, Ends, OfWorld, Scene, UnlessWanting}

-- a step was refused
pub refused : (e : StepError) (P Q : Type 0) → (P → Q) → UnlessMemory e P → UnlessWanting (Refused e) Q
refused StepsSpent P Q on holds = on holds
refused JournalFull P Q on holds = on holds
refused NoSuch P Q on holds = on holds
refused Occupied P Q on holds = on holds
refused AlreadySo P Q on holds = on holds
refused NothingThere P Q on holds = on holds
refused Memory P Q on holds = tt

pub unless_refused : (e : StepError) (P Q : Type 0) → (P → Q) → UnlessWanting (Refused e) P → UnlessWanting (Refused e) Q
unless_refused StepsSpent P Q on holds = on holds
unless_refused JournalFull P Q on holds = on holds
unless_refused NoSuch P Q on holds = on holds
unless_refused Occupied P Q on holds = on holds
unless_refused AlreadySo P Q on holds = on holds
unless_refused NothingThere P Q on holds = on holds
unless_refused Memory P Q on holds = tt

-- what is left to do from here, and the whole from the beginning
pub record Leads (rest : SceneExecution) (now : Scene) (whole : SceneExecution) (old : Scene) : Type 0 where
  pub on : (end : Option Stop) (new : Scene) → rest now end new → whole old end new

-- what a loop keeps that does things to a scene
pub record Keeps (now : Scene) : Type 0 where
  pub orderly : CanStep now.world

pub before_on : (first next : SceneExecution) (old between : Scene) (end : Option Stop) (new : Scene) →
    first old None between → next between end new → Before first next old end new
before_on first next old between end new done rest = (None, between, done, rest)

pub before_stops : (first next : SceneExecution) (old between : Scene) (s : Stop) →
    first old (Some s) between → Before first next old (Some s) between
before_stops first next old between s stopped = (Some s, between, stopped, (refl, refl))

pub led_on : (first next whole : SceneExecution) (now between old : Scene) →
    Leads (Before first next) now whole old → first now None between → Leads next between whole old
led_on first next whole now between old leads done = record {
  on = λ end new rest. leads.on end new (before_on first next now between end new done rest);
}

pub led_stops : (first next whole : SceneExecution) (now between old : Scene) (s : Stop) →
    Leads (Before first next) now whole old → first now (Some s) between → whole old (Some s) between
led_stops first next whole now between old s leads stopped = leads.on (Some s) between (before_stops first next now between s stopped)

-- at the beginning all is left
pub leads_all : (part : ℕ → SceneExecution) (many left : ℕ) (w : Scene) → left + 0 ≡ many → Leads (part left) w (part many) w
leads_all part many left w all =
    let same : left ≡ many = omega arith in
    subst (λ n. Leads (part left) w (part n) w) same (record { on = λ end new rest. rest })

-- a call was refused within
pub ends_refused : {T : Type 0} (P : Option Stop → Type 0) (Q : Type 0) (e : StepError) → (Q → P (Some (Refused e))) → UnlessMemory e Q →
    (result : Result T Stop) (s : Stop) → result ≡ Err s → s ≡ Refused e → Ends result P
ends_refused P Q e on holds (Ok x) s is same = absurd (cc)
ends_refused P Q e on holds (Err t) s is same =
    let stop : t ≡ Refused e = cc in
    subst (λ (r : Stop). UnlessWanting r (P (Some r))) (sym stop) (refused e Q (P (Some (Refused e))) on holds)

abbrev pub scene : WorldView → List ℕ → Scene
scene w asked = record { world = w; asked = asked }

-- An execution of the world is an execution of the scene that has it: `now` is the scene before, whose world is `w`.
module _ (execution : WorldView → Execution) (now : Scene) (w new : WorldView) (asked : List ℕ) (view : scene w asked ≡ now) where
  pub world_stops : {T : Type 0} (result : Result T Stop) (e : StepError) (s : Stop) → result ≡ Err s → s ≡ Refused e →
      UnlessMemory e (execution w w (Some e) new) → Ends result (λ end. OfWorld (execution now.world) now end (scene new asked))
  world_stops result e s is same holds =
      ends_refused (λ end. OfWorld (execution now.world) now end (scene new asked)) (execution w w (Some e) new) e
      (λ stopped. subst (λ (v : Scene). OfWorld (execution v.world) v (Some (Refused e)) (scene new asked)) view (Some e, stopped, refl, refl))
      holds result s is same

  pub world_ends : execution w w None new → OfWorld (execution now.world) now None (scene new asked)
  world_ends done = subst (λ (v : Scene). OfWorld (execution v.world) v None (scene new asked)) view (None, done, refl, refl)
