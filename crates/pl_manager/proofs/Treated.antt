-- Each thing that is done with a word is what the rule does with a word that is treated.
use Rattle.std.proofs.Common.{◌≡◌, ℕ, Bool, true, false, cond, List, [], ◌∷◌, ◌++◌, Option, refl, sym, ap, ◌∙◌, subst, append-nil, ◌⊎◌, inl, inr, Result, Ok, Err, OnOk}
use Rattle.std.specs.Prelude.{unwrap_or}
use Rattle.std.specs.BTreeMap.{insert_entry}
use Rattle.pl_frame.specs.declared.address.Ip4.{Ip4}
use Rattle.pl_frame.specs.declared.address.Mac.{Mac}
use Rattle.pl_frame.specs.declared.address.SwitchId.{SwitchId}
use Rattle.pl_pmac.specs.declared.pmac.Pmac.{Pmac}
use Rattle.pl_layouts.specs.declared.place.Place.{Place}
use Rattle.pl_gathering.specs.Acting.{Done}
use Rattle.pl_node.specs.declared.acts.ManagerAct.{ManagerAct}
use Rattle.pl_node.specs.declared.acts.ManagerAct.TheVariants.{Say}
use Rattle.pl_node.specs.declared.messages.ToManager.{ToManager}
use Rattle.pl_node.specs.declared.messages.ToManager.TheVariants as tell
use Rattle.pl_node.specs.declared.messages.ToSwitch.TheVariants as say
use Rattle.pl_node.specs.declared.pod_given.PodGiven.{PodGiven}
use Rattle.pl_node.specs.Gains.{Gains}
use Rattle.pl_node.specs.ManagerViews.{Learnt, ManagerView, Recall, Reported, Told, lookup, members_cmp, pod_given}
use Rattle.pl_manager_rule.specs.ManagerRule.{answer_to, avoid_acts, learning, manager_hears, manager_rule, with_asker, with_learnt, with_link, with_place}
use Rattle.pl_manager_rule.specs.Reports.{counts_as, known_at, with_aged_as, with_trap}
use Rattle.pl_manager_rule.specs.Treating.{Treating}
use Rattle.pl_registry.specs.Learning.{noted_aged}
use Rattle.pl_manager.specs.Manager.{IsTreatedAs, done_so_far, put}
use Rattle.pl_manager.specs.Routing.{RoutingView, trees_told_anew}
use Rattle.pl_manager.specs.declared.known.Known.{Known}
use Rattle.pl_manager.proofs.Heard.{address_heard, link_heard, members_heard, place_heard, pod_heard, question_heard, quiet}

-- a step of the rule of one epoch, behind what was done so far
abbrev IsStep : ManagerView → List ManagerAct → SwitchId → ToManager → ManagerView → List ManagerAct → Type 0
IsStep before out s says after out_after = Gains out out_after (manager_rule before s says after)

module _ (view : ManagerView) (aged : List Pmac) (out : List ManagerAct) (s : SwitchId) (after : ManagerView) (out_after : List ManagerAct) where
  -- the one is the other where a word is treated as it is heard
  same : (says : ToManager) → IsStep view out s says after out_after →
      done_so_far (manager_hears view s says).view aged (out ++ (manager_hears view s says).acts) ≡ done_so_far after aged out_after
  same says step = λ i. done_so_far (sym step.holds.0 i) aged ((ap (λ (acts : List ManagerAct). out ++ acts) (sym step.holds.1) ∙ sym step.gained) i)

module _ {T E : Type 0} (result : Result T E) (known : Known) (epoch : ℕ) (s : SwitchId) (says : ToManager) (aged : List Pmac) (out out_after : List ManagerAct) where
  both_ok : {A B C : Type 0} → (A → B → C) → OnOk result A → OnOk result B → OnOk result C
  both_ok {A} {B} {C} f = by result
    where
      by : (r : Result T E) → OnOk r A → OnOk r B → OnOk r C
      by (Ok x) a b = f a b
      by (Err e) a b = tt

  -- the word is treated, whatever is gathered
  abbrev Treats : Known → List Pmac → Type 0
  Treats after aged_after = OnOk result ((v : ManagerView) → v.epoch ≡ epoch → IsTreatedAs (put known v) aged out s says (put after v) aged_after out_after)

  abbrev routed : RoutingView → Known
  routed r = record known { routing = r }

  of_word : (word : ToManager) → says ≡ word → (view after : ManagerView) → IsTreatedAs view aged out s word after aged out_after → IsTreatedAs view aged out s says after aged out_after
  of_word word is view after so = subst (λ (w : ToManager). IsTreatedAs view aged out s w after aged out_after) (sym is) so

  pub place_told : (place : Place) (r : RoutingView) → says ≡ tell.Place place →
      OnOk result (r ≡ record { told = with_place known.routing.told s place; members = known.routing.members }) →
      OnOk result (out_after ≡ out ++ (avoid_acts known.routing.told r.told ++ trees_told_anew known.routing r)) → Treats (routed r) aged
  place_told place r is = both_ok (λ was acts v first. of_word (tell.Place place) is (put known v) (put (routed r) v)
      (same (put known v) aged out s (put (routed r) v) out_after (tell.Place place) (place_heard (put known v) s out out_after place r was acts)))

  pub link_told : (u : SwitchId) (usable : Bool) (r : RoutingView) → says ≡ tell.Link u usable →
      OnOk result (r ≡ record { told = with_link known.routing.told s u usable; members = known.routing.members }) →
      OnOk result (out_after ≡ out ++ (avoid_acts known.routing.told r.told ++ trees_told_anew known.routing r)) → Treats (routed r) aged
  link_told u usable r is = both_ok (λ was acts v first. of_word (tell.Link u usable) is (put known v) (put (routed r) v)
      (same (put known v) aged out s (put (routed r) v) out_after (tell.Link u usable) (link_heard (put known v) s out out_after u usable r was acts)))

  pub members_told : (group : ℕ) (any : Bool) (r : RoutingView) → says ≡ tell.Members group any →
      OnOk result (r ≡ record { told = known.routing.told; members = insert_entry members_cmp known.routing.members (s, group) any }) →
      OnOk result (out_after ≡ out ++ trees_told_anew known.routing r) → Treats (routed r) aged
  members_told group any r is = both_ok (λ was acts v first. of_word (tell.Members group any) is (put known v) (put (routed r) v)
      (same (put known v) aged out s (put (routed r) v) out_after (tell.Members group any) (members_heard (put known v) s out out_after group any r was acts)))

  pub pod_told : (told : Told) (pods : List PodGiven) → says ≡ tell.PodWanted → told ≡ known.routing.told → OnOk result (pods ≡ with_asker told known.askers s) →
      OnOk result (out_after ≡ out ++ Say s (say.Pod (unwrap_or (pod_given pods s) 0)) ∷ []) → Treats (record known { askers = pods }) aged
  pod_told told pods is same_told = both_ok (λ was acts v first. of_word tell.PodWanted is (put known v) (put (record known { askers = pods }) v)
      (same (put known v) aged out s (put (record known { askers = pods }) v) out_after tell.PodWanted
      (pod_heard (put known v) s out out_after pods (was ∙ ap (λ (t : Told). with_asker t known.askers s) same_told) acts)))

  pub address_told : (pmac : Pmac) (amac : Mac) (ip : Option Ip4) (learnt : Learnt) → says ≡ tell.Learned pmac amac ip →
      OnOk result (learnt ≡ with_learnt known.registry (record { switch = s; pmac = pmac; amac = amac; ip = ip })) →
      OnOk result (out_after ≡ out ++ learning known.registry learnt pmac amac) → Treats (record known { registry = learnt }) aged
  address_told pmac amac ip learnt is = both_ok (λ was acts v first. of_word (tell.Learned pmac amac ip) is (put known v) (put (record known { registry = learnt }) v)
      (same (put known v) aged out s (put (record known { registry = learnt }) v) out_after (tell.Learned pmac amac ip)
      (address_heard (put known v) s out out_after pmac amac ip learnt was acts)))

  pub question_told : (asker : Pmac) (asker_ip ip : Ip4) → says ≡ tell.Query asker asker_ip ip →
      OnOk result (out_after ≡ out ++ Say s (answer_to asker asker_ip ip (lookup known.registry ip)) ∷ []) → Treats known aged
  question_told asker asker_ip ip is acts = both_ok (λ was again v first. of_word (tell.Query asker asker_ip ip) is (put known v) (put known v)
      (same (put known v) aged out s (put known v) out_after (tell.Query asker asker_ip ip) (question_heard (put known v) s out out_after asker asker_ip ip was))) acts acts

-- ---- what nobody is told of
module _ {T E : Type 0} (result : Result T E) (known : Known) (epoch : ℕ) (s : SwitchId) (says : ToManager) (aged : List Pmac) (out : List ManagerAct) where
  abbrev TreatsSo : Known → List Pmac → Type 0
  TreatsSo after aged_after = OnOk result ((v : ManagerView) → v.epoch ≡ epoch → IsTreatedAs (put known v) aged out s says (put after v) aged_after out)

  -- that an address has aged
  pub aged_told : (pmac : Pmac) (number : ℕ) (learnt : Learnt) (aged_after : List Pmac) → says ≡ tell.Aged pmac number →
      OnOk result (learnt ≡ noted_aged epoch known.registry s pmac number (known_at known.registry pmac)) →
      OnOk result (aged_after ≡ (cond (counts_as epoch number (known_at known.registry pmac)) (aged ++ pmac ∷ []) aged)) →
      TreatsSo (record known { registry = learnt }) aged_after
  aged_told pmac number learnt aged_after is = by result
    where
      found : Option Reported
      found = known_at known.registry pmac

      noting : ManagerView → Bool → Done Treating ManagerAct
      noting v b = record {
        known = cond {A = Treating} b (record { view = record (put known v) { learnt = with_aged_as known.registry s pmac found }; aged = aged ++ pmac ∷ [] })
            (record { view = put known v; aged = aged });
        acts = out;
      }

      noted : (v : ManagerView) (b : Bool) →
          noting v b ≡ done_so_far (record (put known v) { learnt = cond b (with_aged_as known.registry s pmac found) known.registry }) (cond b (aged ++ pmac ∷ []) aged) out
      noted v true = refl
      noted v false = refl

      so : learnt ≡ noted_aged epoch known.registry s pmac number found → aged_after ≡ cond (counts_as epoch number found) (aged ++ pmac ∷ []) aged →
          (v : ManagerView) → v.epoch ≡ epoch → IsTreatedAs (put known v) aged out s says (put (record known { registry = learnt }) v) aged_after out
      so was now v first = subst (λ (w : ToManager). IsTreatedAs (put known v) aged out s w (put (record known { registry = learnt }) v) aged_after out) (sym is)
          ((λ i. let done : Done Treating ManagerAct = record { known = (noting v (counts_as (first i) number found)).known; acts = append-nil out i } in done)
          ∙ noted v (counts_as epoch number found)
          ∙ (λ i. done_so_far (record (put known v) { learnt = sym was i }) (sym now i) out))

      by : (r : Result T E) → OnOk r (learnt ≡ noted_aged epoch known.registry s pmac number found) →
          OnOk r (aged_after ≡ cond (counts_as epoch number found) (aged ++ pmac ∷ []) aged) →
          OnOk r ((v : ManagerView) → v.epoch ≡ epoch → IsTreatedAs (put known v) aged out s says (put (record known { registry = learnt }) v) aged_after out)
      by (Ok x) was now = so was now
      by (Err e) was now = tt

  -- that a trap stands
  pub trap_told : (old new : Pmac) (number : ℕ) (learnt : Learnt) → says ≡ tell.Trapped old new number →
      OnOk result (learnt ≡ with_trap epoch known.registry s old (record { new = new; number = number })) → TreatsSo (record known { registry = learnt }) aged
  trap_told old new number learnt is = by result
    where
      to : Recall
      to = record { new = new; number = number }

      so : learnt ≡ with_trap epoch known.registry s old to → (v : ManagerView) → v.epoch ≡ epoch →
          IsTreatedAs (put known v) aged out s says (put (record known { registry = learnt }) v) aged out
      so was v first = subst (λ (w : ToManager). IsTreatedAs (put known v) aged out s w (put (record known { registry = learnt }) v) aged out) (sym is)
          (λ i. done_so_far (record (put known v) { learnt = (ap (λ (e : ℕ). with_trap e known.registry s old to) first ∙ sym was) i }) aged (append-nil out i))

      by : (r : Result T E) → OnOk r (learnt ≡ with_trap epoch known.registry s old to) →
          OnOk r ((v : ManagerView) → v.epoch ≡ epoch → IsTreatedAs (put known v) aged out s says (put (record known { registry = learnt }) v) aged out)
      by (Ok x) was = so was
      by (Err e) was = tt

-- ---- `Begin` and `End` are no words: nothing is done
pub passed_over : (view : ManagerView) (aged : List Pmac) (out : List ManagerAct) (s : SwitchId) (says : ToManager) →
    ((epoch : ℕ) × says ≡ tell.Begin epoch) ⊎ ((epoch : ℕ) × says ≡ tell.End epoch) → IsTreatedAs view aged out s says view aged out
unfolding manager_hears
passed_over view aged out s says (inl e) = subst (λ (w : ToManager). IsTreatedAs view aged out s w view aged out) (sym e.1)
    (λ i. done_so_far view aged ((ap (λ (acts : List ManagerAct). out ++ acts) (quiet view []) ∙ append-nil out) i))
passed_over view aged out s says (inr e) = subst (λ (w : ToManager). IsTreatedAs view aged out s w view aged out) (sym e.1)
    (λ i. done_so_far view aged ((ap (λ (acts : List ManagerAct). out ++ acts) (quiet view []) ∙ append-nil out) i))
