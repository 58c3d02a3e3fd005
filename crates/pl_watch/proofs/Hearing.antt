-- The second nodes may hear what the world's are about to hear, and what is told of it is what they do.
use Rattle.std.proofs.Common.{◌≡◌, ◌<◌, ◌++◌, ℕ, nat_le, Bool, true, false, if◌then◌else◌, List, [], ◌∷◌, get_or, length, map, Option, None, Some, option_map, Result, Ok, Err, OnOk, set, slice_get, refl, sym, ap, ◌∙◌, subst, suc, zero, arith}
use Rattle.std.proofs.lemmas.Bool.Decides.{nat_tests}
use Rattle.std.proofs.lemmas.Option.{same_Some}
use Rattle.std.proofs.lemmas.List.{length-map}
use Rattle.pl_lemmas.proofs.Exports.{all_found, set_there}
use Rattle.pl_frame.specs.declared.address.SwitchId.{SwitchId}
use Rattle.pl_layouts.specs.declared.place.Place.{Place}
use Rattle.pl_wiring.specs.Plan.{Plan}
use Rattle.pl_node.specs.Accounting.{CanCome}
use Rattle.pl_node.specs.Gains.{Gains}
use Rattle.pl_node.specs.declared.acts.Act.{Act}
use Rattle.pl_node.specs.declared.acts.ManagerAct.{ManagerAct}
use Rattle.pl_node.specs.declared.messages.ToManager.{ToManager}
use Rattle.pl_node.specs.ManagerDuties.{ManagerRule}
use Rattle.pl_node.specs.ManagerFacts.{CanHear}
use Rattle.pl_node.specs.ManagerViews.{ManagerView}
use Rattle.pl_node.specs.SwitchInputs.{SwitchRule}
use Rattle.pl_node.specs.SwitchViews.{SwitchView}
use Rattle.pl_world.specs.declared.error.StepError.{StepError}
use Rattle.pl_world.specs.declared.error.StepError.TheVariants.{JournalFull, StepsSpent}
use Rattle.pl_world.specs.declared.event.Event.{Event}
use Rattle.pl_world.specs.Drops as drops
use Rattle.pl_world.specs.Ready.{CanStep}
use Rattle.pl_world.specs.Refusals.{is_full, refusal, refusal_of_event}
use Rattle.pl_world.specs.Worlds.{WorldView}
use Rattle.pl_world.proofs.Exports.{can_hear_each}
use Rattle.pl_world_parts.specs.OneStep.{SwitchSteps, input_from, sizes}
use Rattle.pl_schedule.specs.declared.world.coming.Coming.{Coming}
use Rattle.pl_schedule.specs.Coming.{IsHeardThere}
use Rattle.pl_log_lines.specs.declared.row.Verb.TheVariants as verb
use Rattle.pl_log_lines.specs.declared.told.Told.{Told}
use Rattle.pl_log_lines.specs.Acts.{act_line, heard_lines, manager_act_line}
use Rattle.pl_log_lines.specs.Messages.{told_line}
use Rattle.pl_watch.specs.News.{news}
use Rattle.pl_log_lines.specs.Pages.{PageView}
use Rattle.pl_watch.specs.Seen.{ToldOfManager, ToldOfSwitch}
use Rattle.pl_log_lines.specs.Telling.{Tells, node_in}

pub on_ok : {T E : Type 0} (r : Result T E) (A B : Type 0) → (A → B) → OnOk r A → OnOk r B
on_ok (Ok x) A B f a = f a
on_ok (Err e) A B f a = tt

pub on_both : {T E : Type 0} (r : Result T E) (A B C : Type 0) → (A → B → C) → OnOk r A → OnOk r B → OnOk r C
on_both (Ok x) A B C f a b = f a b
on_both (Err e) A B C f a b = tt

pub on_always : {T E : Type 0} (r : Result T E) (A : Type 0) → A → OnOk r A
on_always (Ok x) A a = a
on_always (Err e) A a = tt

-- what is not there
pub none_left : {T : Type 0} (o : Option T) → ((x : T) → o ≡ Some x → ⊥) → o ≡ None
none_left None never = refl
none_left (Some x) never = absurd (never x refl)

pub none_mapped : {T U : Type 0} (f : T → U) (o : Option T) → ((x : T) → o ≡ Some x → ⊥) → option_map f o ≡ None
none_mapped f o never = ap (option_map f) (none_left o never)

-- ---- whether they may

unspent : (b : Bool) (rest : Option StepError) → (if b then Some StepsSpent else rest) ≡ None → b ≡ false
unspent true rest h = absurd (cc)
unspent false rest h = refl

-- a step that is not refused is one of those that may be made
pub not_spent : (w : WorldView) (e : Event) → refusal w e ≡ None → nat_le w.limits.steps w.steps ≡ false
not_spent w e none = unspent (nat_le w.limits.steps w.steps) (if is_full w then Some JournalFull else refusal_of_event w e) none

not_le : (a b : ℕ) → nat_le a b ≡ false → b < a
not_le a b h = grind (arith, nat_tests)

pub may_hear : (w : WorldView) (manager : ManagerView) → manager ≡ w.manager → CanStep w → nat_le w.limits.steps w.steps ≡ false →
    (s : ℕ) (id : SwitchId) → slice_get w.plan.ids s ≡ Some id → CanHear manager id
may_hear w manager same can below s id found =
    subst (λ (m : ManagerView). CanHear m id) (sym same)
    (can_hear_each w.plan w.manager w.steps can.counted.formed.plan can.hearing.within
    (let few = can.hearing.few_steps in let less : w.steps < w.limits.steps = not_le w.limits.steps w.steps below in omega arith) s id found)

-- ---- the number of ports stays

size_there : (views : List SwitchView) (s : ℕ) (v : SwitchView) → slice_get views s ≡ Some v → slice_get (sizes views) s ≡ Some v.k
size_there [] s v found = absurd (cc)
size_there (x ∷ views) zero v found = let is : x ≡ v = cc in ap (λ (y : SwitchView). Some y.k) is
size_there (x ∷ views) (suc s) v found = size_there views s v found

pub same_size : (old new : List SwitchView) (s : ℕ) (a b : SwitchView) → sizes new ≡ sizes old → slice_get old s ≡ Some a → slice_get new s ≡ Some b → a.k ≡ b.k
same_size old new s a b same was is =
    same_Some a.k b.k (sym (size_there old s a was) ∙ sym (ap (λ ks. slice_get ks s) same) ∙ size_there new s b is)

pub same_many : (old new : List SwitchView) → sizes new ≡ sizes old → length new ≡ length old
same_many old new same =
    sym (length-map new (λ v. v.k)) ∙ ap (λ ks. length ks) same ∙ length-map old (λ v. v.k)

-- one of some switches, and its view
found : {T : Type 0} (view : T → SwitchView) (xs : List T) (n : ℕ) (x : T) → n < length xs → get_or xs n x ≡ x → slice_get (map view xs) n ≡ Some (view x)
found view [] n x within is = absurd (omega (arith, within))
found view (y ∷ xs) zero x within is = ap (λ z. Some (view z)) is
found view (y ∷ xs) (suc n) x within is = found view xs n x (omega (arith, within)) is

pub found_view : {T : Type 0} (view : T → SwitchView) (xs : List T) (n : ℕ) (x : T) → n < length (map view xs) → x ≡ get_or xs n x →
    slice_get (map view xs) n ≡ Some (view x)
found_view view xs n x within is = let many = length-map xs view in found view xs n x (omega (arith, within, many)) (sym is)

-- ---- a switch

module _ (w : WorldView) (c : Coming) (can : CanStep w) (there : IsHeardThere w.plan c) (views : List SwitchView) (same : views ≡ w.switches) where
  pub may_come : (v : SwitchView) → slice_get views c.switch.0 ≡ Some v → CanCome v (input_from c.incoming)
  may_come v found =
      there.can v (all_found (λ (x : SwitchView). x.k ≡ w.plan.k) w.switches c.switch.0 v can.counted.formed.ports
      (sym (ap (λ (xs : List SwitchView). slice_get xs c.switch.0) same) ∙ found))

  pub comes_within : c.switch.0 < length views
  comes_within =
      subst (λ n. c.switch.0 < n) (sym (ap (λ (xs : List SwitchView). length xs) same ∙ can.counted.formed.switches)) there.there

  pub still_within : (new : List SwitchView) → sizes new ≡ sizes views → c.switch.0 < length new
  still_within new kept = subst (λ n. c.switch.0 < n) (sym (same_many views new kept)) comes_within

-- ---- what is told of it

module _ (index plan : Plan) (is : index ≡ plan) (page next : PageView) (before later : Told) where
  pub switch_told_of : (rule : SwitchRule) (c : drops.Coming) (old new : List SwitchView) (begun acts : List Act) (was stands : Place) → begun ≡ [] →
      Gains begun acts (SwitchSteps rule old c.switch c.input new was stands) → (first last : SwitchView) →
      slice_get old c.switch ≡ Some first → slice_get new c.switch ≡ Some last →
      Tells page next before later
      (heard_lines index (node_in before) c.input c.frame ++ news index (node_in before) first last ++ map (act_line index (node_in before)) acts) →
      ToldOfSwitch rule plan c old new page next before later
  switch_told_of rule c old new begun acts was stands empty gains first last found there tells =
      let steps = gains.holds in
      let same_first : first ≡ steps.before = same_Some first steps.before (sym found ∙ steps.found) in
      let now : slice_get new c.switch ≡ Some steps.after =
      ap (λ (xs : List SwitchView). slice_get xs c.switch) steps.changed ∙ set_there old c.switch steps.before steps.after steps.found in
      let same_last : last ≡ steps.after = same_Some last steps.after (sym there ∙ now) in
      record {
        first = first;
        last = last;
        acts = acts;
        found = found;
        ruled = subst (λ (a : List Act). rule first c.input last a) (sym (gains.gained ∙ ap (λ b. b ++ gains.items) empty))
            (subst (λ (v : SwitchView). rule v c.input last gains.items) (sym same_first)
            (subst (λ (v : SwitchView). rule steps.before c.input v gains.items) (sym same_last) steps.ruled));
        changed = steps.changed ∙ ap (λ (v : SwitchView). set old c.switch v) (sym same_last);
        told = subst (λ (p : Plan). Tells page next before later
            (heard_lines p (node_in before) c.input c.frame ++ news p (node_in before) first last ++ map (act_line p (node_in before)) acts)) is tells;
      }

  pub manager_told_of : (rule : ManagerRule) (s : ℕ) (says : ToManager) (old new : ManagerView) (id : SwitchId) (begun acts : List ManagerAct) →
      slice_get plan.ids s ≡ Some id → begun ≡ [] → Gains begun acts (rule old id says new) →
      Tells page next before later (told_line index (node_in before) verb.Heard says ∷ map (manager_act_line index (node_in before)) acts) →
      ToldOfManager rule plan s says old new page next before later
  manager_told_of rule s says old new id begun acts found empty gains tells = record {
    id = id;
    acts = acts;
    found = found;
    ruled = subst (λ (a : List ManagerAct). rule old id says new a) (sym (gains.gained ∙ ap (λ b. b ++ gains.items) empty)) gains.holds;
    told = subst (λ (p : Plan). Tells page next before later
        (told_line p (node_in before) verb.Heard says ∷ map (manager_act_line p (node_in before)) acts)) is tells;
  }
