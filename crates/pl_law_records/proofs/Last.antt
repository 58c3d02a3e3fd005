-- The last that words say, through what a step does to queues.
use Rattle.std.proofs.Common.{◌≡◌, ℕ, List, [], ◌∷◌, ◌++◌, false, Option, Some, None, slice_get, unwrap_or, refl, sym, ap, subst, ◌∙◌}
use Rattle.std.specs.List.{AllByRecursion, list_any}
use Rattle.pl_lemmas.proofs.Exports.{all_weaker}
use Rattle.pl_frame.specs.declared.address.SwitchId.{SwitchId}
use Rattle.pl_wiring.specs.Plan.{IsPlan}
use Rattle.pl_node.specs.declared.messages.ToManager.{ToManager}
use Rattle.pl_node.specs.declared.messages.ToManager.TheVariants as tell
use Rattle.pl_node.specs.declared.messages.ToSwitch.{ToSwitch}
use Rattle.pl_node.specs.declared.messages.ToSwitch.TheVariants as say
use Rattle.pl_manager_rule.specs.Histories.{link_said, members_said, place_said}
use Rattle.pl_law_control_plane.specs.ControlPlanes.{ControlPlane}
use Rattle.pl_law_due.specs.Due.{due_plane, is_hello, is_silent, words_of}
use Rattle.pl_law_due.specs.Gathering.{GathersWell}
use Rattle.pl_law_due.proofs.Exports.{rest_whole, whole_due}
use Rattle.pl_law_records.specs.Records.{AreCurrent, HaveOrders, HaveReported, NoReportWaits}
use Rattle.pl_law_records.specs.Words.{IsNoOrder, IsNoReport, avoid_said, last_said, part_said}

module _ {W X : Type 0} (said : W → Option X) where
  pub last_append : (before : X) (xs ys : List W) → last_said said before (xs ++ ys) ≡ last_said said (last_said said before xs) ys
  last_append before [] ys = refl
  last_append before (x ∷ xs) ys = last_append (unwrap_or (said x) before) xs ys

  pub last_silent : (before : X) (xs : List W) → AllByRecursion (λ w. said w ≡ None) xs → last_said said before xs ≡ before
  last_silent before [] all = refl
  last_silent before (x ∷ xs) all =
      ap (λ (o : Option X). last_said said (unwrap_or o before) xs) all.0 ∙ last_silent before xs all.1

no_place : (w : ToManager) → IsNoReport w → place_said w ≡ None
no_place (tell.Place place) is = absurd is
no_place (tell.Link u usable) is = refl
no_place tell.PodWanted is = refl
no_place (tell.Learned a b c) is = refl
no_place (tell.Aged a b) is = refl
no_place (tell.Begin epoch) is = refl
no_place (tell.End epoch) is = refl
no_place (tell.Trapped trapped toward numbered) is = refl
no_place (tell.Query a b c) is = refl
no_place (tell.Members g any) is = refl

no_members : (group : ℕ) (w : ToManager) → IsNoReport w → members_said group w ≡ None
no_members group (tell.Place place) is = refl
no_members group (tell.Link u usable) is = refl
no_members group tell.PodWanted is = refl
no_members group (tell.Learned a b c) is = refl
no_members group (tell.Aged a b) is = refl
no_members group (tell.Begin epoch) is = refl
no_members group (tell.End epoch) is = refl
no_members group (tell.Trapped trapped toward numbered) is = refl
no_members group (tell.Query a b c) is = refl
no_members group (tell.Members g any) is = absurd is

pub no_avoid : (w : ToSwitch) → IsNoOrder w → avoid_said w ≡ None
no_avoid (say.Pod n) is = refl
no_avoid (say.Answer a b c d) is = refl
no_avoid (say.Flood a b c) is = refl
no_avoid (say.Avoid list) is = absurd is
no_avoid (say.Invalidate a b c d) is = refl
no_avoid (say.Release a) is = refl
no_avoid (say.Hello epoch) is = absurd is
no_avoid (say.Tree group part) is = refl

pub no_part : (group : ℕ) (w : ToSwitch) → IsNoOrder w → part_said group w ≡ None
no_part group (say.Pod n) is = refl
no_part group (say.Answer a b c d) is = refl
no_part group (say.Flood a b c) is = refl
no_part group (say.Avoid list) is = refl
no_part group (say.Invalidate a b c d) is = refl
no_part group (say.Release a) is = refl
no_part group (say.Hello epoch) is = absurd is
no_part group (say.Tree g part) is = absurd is

pub silent_place : (ws : List ToManager) → AllByRecursion IsNoReport ws → AllByRecursion (λ w. place_said w ≡ None) ws
silent_place ws all = all_weaker IsNoReport (λ w. place_said w ≡ None) no_place ws all

pub silent_members : (group : ℕ) (ws : List ToManager) → AllByRecursion IsNoReport ws → AllByRecursion (λ w. members_said group w ≡ None) ws
silent_members group ws all = all_weaker IsNoReport (λ w. members_said group w ≡ None) (no_members group) ws all

no_link : (u : SwitchId) (w : ToManager) → IsNoReport w → link_said u w ≡ None
no_link u (tell.Place place) is = refl
no_link u (tell.Link x usable) is = absurd is
no_link u tell.PodWanted is = refl
no_link u (tell.Learned a b c) is = refl
no_link u (tell.Aged a b) is = refl
no_link u (tell.Begin epoch) is = refl
no_link u (tell.End epoch) is = refl
no_link u (tell.Trapped trapped toward numbered) is = refl
no_link u (tell.Query a b c) is = refl
no_link u (tell.Members g any) is = refl

pub silent_link : (u : SwitchId) (ws : List ToManager) → AllByRecursion IsNoReport ws → AllByRecursion (λ w. link_said u w ≡ None) ws
silent_link u ws all = all_weaker IsNoReport (λ w. link_said u w ≡ None) (no_link u) ws all

pub silent_avoid : (ws : List ToSwitch) → AllByRecursion IsNoOrder ws → AllByRecursion (λ w. avoid_said w ≡ None) ws
silent_avoid ws all = all_weaker IsNoOrder (λ w. avoid_said w ≡ None) no_avoid ws all

pub silent_part : (group : ℕ) (ws : List ToSwitch) → AllByRecursion IsNoOrder ws → AllByRecursion (λ w. part_said group w ≡ None) ws
silent_part group ws all = all_weaker IsNoOrder (λ w. part_said group w ≡ None) (no_part group) ws all

-- words that say nothing of records are none of a report
quiet_words : (queue : List ToManager) → AllByRecursion IsNoReport queue → AllByRecursion IsNoReport (words_of queue)
quiet_words [] all = tt
quiet_words (tell.Begin n ∷ queue) all = quiet_words queue all.1
quiet_words (tell.End n ∷ queue) all = quiet_words queue all.1
quiet_words (tell.Place place ∷ queue) all = absurd all.0
quiet_words (tell.Link u usable ∷ queue) all = absurd all.0
quiet_words (tell.PodWanted ∷ queue) all = (tt, quiet_words queue all.1)
quiet_words (tell.Learned a b c ∷ queue) all = (tt, quiet_words queue all.1)
quiet_words (tell.Aged a b ∷ queue) all = (tt, quiet_words queue all.1)
quiet_words (tell.Trapped a b c ∷ queue) all = (tt, quiet_words queue all.1)
quiet_words (tell.Query a b c ∷ queue) all = (tt, quiet_words queue all.1)
quiet_words (tell.Members group any ∷ queue) all = absurd all.0

no_hello : (orders : List ToSwitch) → AllByRecursion IsNoOrder orders → list_any is_hello orders ≡ false
no_hello [] all = refl
no_hello (say.Hello epoch ∷ orders) all = absurd all.0
no_hello (say.Avoid list ∷ orders) all = absurd all.0
no_hello (say.Tree group part ∷ orders) all = absurd all.0
no_hello (say.Pod n ∷ orders) all = no_hello orders all.1
no_hello (say.Answer a b c d ∷ orders) all = no_hello orders all.1
no_hello (say.Flood a b c ∷ orders) all = no_hello orders all.1
no_hello (say.Invalidate a b c d ∷ orders) all = no_hello orders all.1
no_hello (say.Release a ∷ orders) all = no_hello orders all.1

-- so nothing on records is due either, and no switch is silent
pub record DueRests (f : ControlPlane) (s : ℕ) : Type 0 where
  pub loud : is_silent f.orders s ≡ false
  pub reports : AllByRecursion IsNoReport ((due_plane f).reports s)

pub due_rests : (f : ControlPlane) → IsPlan f.plan → GathersWell f → NoReportWaits f → (s : ℕ) (id : SwitchId) → slice_get f.plan.ids s ≡ Some id → DueRests f s
due_rests f is well rest s id named =
    let whole = rest_whole f is well rest.ends (λ t i at. no_hello (f.orders t) (rest.orders t)) in
    record {
      loud = no_hello (f.orders s) (rest.orders s);
      reports = subst (AllByRecursion IsNoReport) (sym (whole_due f whole s id named)) (quiet_words (f.reports s) (rest.reports s));
    }

-- where nothing waits, what stands before is what was said last
pub current_at_rest : (f : ControlPlane) → IsPlan f.plan → GathersWell f → HaveReported (due_plane f) → HaveOrders f → NoReportWaits f → AreCurrent f
current_at_rest f is well reported ordered rest s id named =
    let due = due_rests f is well rest s id named in
    let told = reported s id named due.loud in let has = ordered s id named in
    let words = (due_plane f).reports s in
    record {
      place = sym (last_silent place_said _ words (silent_place words due.reports)) ∙ told.place;
      members = λ group. sym (last_silent (members_said group) _ words (silent_members group words due.reports)) ∙ told.members group;
      avoid = sym (last_silent avoid_said _ (f.orders s) (silent_avoid (f.orders s) (rest.orders s))) ∙ has.avoid;
      parts = λ group. sym (last_silent (part_said group) _ (f.orders s) (silent_part group (f.orders s) (rest.orders s))) ∙ has.parts group;
    }
