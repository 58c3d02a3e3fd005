-- Each step of the control plane keeps it that what is told and ordered is so, where the manager treats one word at once.
use Rattle.std.proofs.Common.{◌≡◌, ℕ, ◌+◌, ◌<◌, ◌==◌, Bool, true, false, cond, if◌then◌else◌, List, [], ◌∷◌, ◌++◌, map, Option, None, Some, get_or, slice_get, unwrap_or, refl, sym, ap, ◌∙◌, subst, inl, inr, true≢false}
use Rattle.std.specs.List.{AllByRecursion, flat_map, position}
use Rattle.std.specs.Ordering.{match_ordering, nat_cmp}
use Rattle.std.specs.declared.cmp.Ordering.{Ordering}
use Rattle.std.specs.declared.cmp.Ordering.TheVariants.{Equal, Greater, Less}
use Rattle.std.specs.BTreeMap.{insert_entry}
use Rattle.std.specs.Map.{remove_entry}
use Rattle.std.proofs.lemmas.Bool.{cases_Bool, cases_eq, cond-false, cond-true, cond_both, eqb-true, false≢true}
use Rattle.std.proofs.lemmas.List.Quantifiers.{position-Some}
use Rattle.std.proofs.lemmas.Option.{slice_get-get_or}
use Rattle.std.proofs.lemmas.Map.Lookups.{CmpEqualImpliesEq, exact_unsigned}
use Rattle.pl_lemmas.proofs.Exports.{all_append, all_behind, all_weaker}
use Rattle.pl_frame.specs.declared.address.SwitchId.{SwitchId}
use Rattle.pl_frame.specs.declared.address.Ip4.{Ip4}
use Rattle.pl_frame.specs.declared.address.Mac.{Mac}
use Rattle.pl_pmac.specs.declared.pmac.Pmac.{Pmac}
use Rattle.pl_wiring.specs.Labels.{edge_count, switch_count}
use Rattle.pl_wiring.specs.Plan.{IsPlan, Plan}
use Rattle.pl_wiring.proofs.Exports.{label_of-edge}
use Rattle.pl_layouts.specs.declared.place.Place.{Place}
use Rattle.pl_layouts.specs.Control.{is_control}
use Rattle.pl_layouts.specs.Equality.{same_switch}
use Rattle.pl_layouts.proofs.Exports.{switch_itself}
use Rattle.pl_node.specs.declared.acts.ManagerAct.{ManagerAct}
use Rattle.pl_node.specs.declared.acts.ManagerAct.TheVariants.{Number, Say}
use Rattle.pl_node.specs.declared.messages.ToManager.{ToManager}
use Rattle.pl_node.specs.declared.messages.ToManager.TheVariants as tell
use Rattle.pl_node.specs.declared.messages.ToSwitch.{ToSwitch}
use Rattle.pl_node.specs.declared.messages.ToSwitch.TheVariants as say
use Rattle.pl_node.specs.declared.messages.TreePart.{TreePart}
use Rattle.pl_node.specs.declared.switch_records.Member.{Member}
use Rattle.pl_node.specs.AvoidLists.{avoid_list}
use Rattle.pl_node.specs.ManagerFacts.{groups}
use Rattle.pl_node.specs.ManagerViews.{Learnt, ManagerView, Registration, Told, id_cmp, link_cmp, lookup, members_cmp, newest}
use Rattle.pl_node.specs.PortRecords.{id_at, is_open_to_hosts, port_of}
use Rattle.pl_node.specs.SwitchInputs.{SwitchInput}
use Rattle.pl_node.specs.SwitchInputs.SwitchInput.{Comes, Says, Tick}
use Rattle.pl_node.specs.SwitchViews.{SwitchView}
use Rattle.pl_node.proofs.Exports.{closed_by}
use Rattle.pl_steps.specs.Steps.{SwitchStep}
use Rattle.pl_manager_rule.specs.Histories.{link_said}
use Rattle.pl_manager_rule.specs.ManagerRule.{acts_of, answer_to, avoid_acts, changed, changed_of_group, hears_aged, invalidation, learning, manager_hears, manager_rule, part_in, reply, tree_acts, tree_acts_of, view_after}
use Rattle.pl_manager_rule.proofs.Exports.{AreReleases, aged_releases, id_exact, link_exact, members_exact, same_is}
use Rattle.pl_switch_rule.specs.Intake.{comes_from_host, has_member_of}
use Rattle.pl_switch_rule.specs.Forwarding.{Choice}
use Rattle.pl_switch_rule.specs.Messages.{hears_manager}
use Rattle.pl_switch_rule.specs.SwitchRule.{Loose, comes_from_switch, control_comes, data_comes, switch_step}
use Rattle.pl_law_control_plane.specs.ControlPlanes.{AreAdjacent, ControlPlane, tells}
use Rattle.pl_law_control_plane.specs.PlaneSteps.{IsLeft, IsReportTaken, LeftOver, ManagerTurns, PlaneStep, SwitchTurns, is_to, ordered, ordered_by}
use Rattle.pl_law_control_plane.specs.PlaneSteps.PlaneStep.{Carried, Entered, Heard, Left, Managed, Ordered, Ticked}
use Rattle.pl_law_due.specs.DueSteps.{treats_one}
use Rattle.pl_law_due.proofs.Exports.{heard_or_noted, IsRelease, Learns}
use Rattle.pl_law_places.specs.Places.{ArePlaced}
use Rattle.pl_law_places.specs.Told.{IsTrueOf}
use Rattle.pl_law_places.proofs.Exports.{true_later, true_of_itself}
use Rattle.pl_law_records.specs.Records.{is_neighbour}
use Rattle.pl_law_records.specs.Words.{last_said}
use Rattle.pl_law_records.proofs.Exports.{one_switch, parts_then, tells_right}
use Rattle.pl_law_copies.specs.Trees.{AreTrees, AreTrueMembers, IsTrueLink, IsTrueOrder, IsTruePart, IsTruePlace, IsTrueReport}
use Rattle.pl_law_copies.proofs.Parts.{HasLevel, IsLevel, part_true}
use Rattle.pl_law_copies.proofs.TellingTrue.{AreTrue, IsSaid, control_true, hears_true, of_host_true, over_link_true, ticks_true, true_words}
use Rattle.pl_journal.specs.Flights.{label_level, level_of}

-- Lists.

all_left : {T : Type 0} (P : T → Type 0) (before after : List T) → LeftOver before after → AllByRecursion P before → AllByRecursion P after
all_left P before after left all = all_behind P left.gone after (subst (AllByRecursion P) left.split all)

all_inserted : {K X : Type 0} (cmp : K → K → Ordering) → CmpEqualImpliesEq cmp → (P : K × X → Type 0) (entries : List (K × X)) (k : K) (x : X) →
    P (k, x) → AllByRecursion P entries → AllByRecursion P (insert_entry cmp entries k x)
all_inserted cmp exact P [] k x new all = (new, tt)
all_inserted cmp exact P (e ∷ es) k x new all = by_order (cmp k e.0) refl (all_inserted cmp exact P es k x new all.1)
  where
    by_order : (o : Ordering) → cmp k e.0 ≡ o → AllByRecursion P (insert_entry cmp es k x) →
        AllByRecursion P (match_ordering o ((k, x) ∷ e ∷ es) ((e.0, x) ∷ es) (e ∷ insert_entry cmp es k x))
    by_order Less is rest = (new, all)
    by_order Equal is rest = (subst (λ y. P (y, x)) (exact k e.0 is) new, all.1)
    by_order Greater is rest = (all.0, rest)

all_removed : {K X : Type 0} (P : K × X → Type 0) (test : K → Bool) (entries : List (K × X)) → AllByRecursion P entries → AllByRecursion P (remove_entry test entries)
all_removed P test [] all = tt
all_removed P test (e ∷ es) all = by_test (test e.0) (all_removed P test es all.1)
  where
    by_test : (b : Bool) → AllByRecursion P (remove_entry test es) → AllByRecursion P (cond b es (e ∷ remove_entry test es))
    by_test true rest = all.1
    by_test false rest = (all.0, rest)

-- what was told stays so where more is known of places
report_later : (plan : Plan) (s : ℕ) (old new : Place) → IsTrueOf old new → (told : ToManager) → IsTrueReport plan s old told → IsTrueReport plan s new told
report_later plan s old new later (tell.Place place) so = true_later place old new so later
report_later plan s old new later (tell.Link u usable) so = so
report_later plan s old new later tell.PodWanted so = so
report_later plan s old new later (tell.Learned pmac amac ip) so = so
report_later plan s old new later (tell.Aged pmac number) so = so
report_later plan s old new later (tell.Begin epoch) so = so
report_later plan s old new later (tell.End epoch) so = so
report_later plan s old new later (tell.Trapped trapped toward numbered) so = so
report_later plan s old new later (tell.Query asker asker_ip ip) so = so
report_later plan s old new later (tell.Members group any) so = so

reports_later : (plan : Plan) (s : ℕ) (old new : Place) → IsTrueOf old new → (words : List ToManager) → AllByRecursion (IsTrueReport plan s old) words →
    AllByRecursion (IsTrueReport plan s new) words
reports_later plan s old new later words all = all_weaker (IsTrueReport plan s old) (IsTrueReport plan s new) (report_later plan s old new later) words all

places_later : (plan : Plan) (old new : ℕ → SwitchView) → ((t : ℕ) → IsTrueOf (old t).place (new t).place) → (entries : List (SwitchId × Place)) →
    AllByRecursion (IsTruePlace plan old) entries → AllByRecursion (IsTruePlace plan new) entries
places_later plan old new later entries all = all_weaker (IsTruePlace plan old) (IsTruePlace plan new)
    (λ entry so t named. true_later entry.1 (old t).place (new t).place (so t named) (later t)) entries all

levels_of : (plan : Plan) (view : ℕ → SwitchView) → ((t : ℕ) → IsLevel (level_of plan.k t) (view t).place) → (entries : List (SwitchId × Place)) →
    AllByRecursion (IsTruePlace plan view) entries → AllByRecursion (HasLevel plan) entries
levels_of plan view level entries all = all_weaker (IsTruePlace plan view) (HasLevel plan) (λ entry so t named x is. level t x ((so t named).level x is)) entries all

-- Links are told to neighbours alone.

module _ (plan : Plan) (s : ℕ) where
  abbrev IsNear : ToManager → Type 0
  IsNear (tell.Link u usable) = is_neighbour plan s u ≡ true
  IsNear told = Unit {0}

  -- of no stranger a word is said
  abbrev NoStranger : List ToManager → Type 0
  NoStranger words = (u : SwitchId) → is_neighbour plan s u ≡ false → (before : Bool) → last_said (link_said u) before words ≡ before

  -- for that word would be the last whatever stood before it
  not_said : (u : SwitchId) (usable : Bool) (x : SwitchId) (words : List ToManager) → same_switch x u ≡ true → is_neighbour plan s u ≡ false →
      NoStranger (tell.Link x usable ∷ words) → ⊥
  not_said u usable x words here stranger quiet =
      let said : (before : Bool) → last_said (link_said u) before (tell.Link x usable ∷ words) ≡ last_said (link_said u) usable words =
      λ before. ap (λ b. last_said (link_said u) (unwrap_or (if b then Some usable else None) before) words) here in
      true≢false (sym (quiet u stranger true) ∙ said true ∙ sym (said false) ∙ quiet u stranger false)

  near_words : (words : List ToManager) → NoStranger words → AllByRecursion IsNear words
  near_words [] quiet = tt
  near_words (tell.Link x usable ∷ words) quiet = (
    elim (cases_Bool (is_neighbour plan s x)) [
      | inl near ↦ near
      | inr stranger ↦ absurd (not_said x usable x words (switch_itself x) stranger quiet)
    ],
    near_words words (λ u stranger before. elim (cases_Bool (same_switch x u)) [
      | inl here ↦ absurd (not_said u usable x words here stranger quiet)
      | inr other ↦ sym (ap (λ b. last_said (link_said u) (unwrap_or (if b then Some usable else None) before) words) other) ∙ quiet u stranger before
    ]),
  )
  near_words (tell.Place place ∷ words) quiet = (tt, near_words words quiet)
  near_words (tell.PodWanted ∷ words) quiet = (tt, near_words words quiet)
  near_words (tell.Learned pmac amac ip ∷ words) quiet = (tt, near_words words quiet)
  near_words (tell.Aged pmac number ∷ words) quiet = (tt, near_words words quiet)
  near_words (tell.Begin epoch ∷ words) quiet = (tt, near_words words quiet)
  near_words (tell.End epoch ∷ words) quiet = (tt, near_words words quiet)
  near_words (tell.Trapped trapped toward numbered ∷ words) quiet = (tt, near_words words quiet)
  near_words (tell.Query asker asker_ip ip ∷ words) quiet = (tt, near_words words quiet)
  near_words (tell.Members group any ∷ words) quiet = (tt, near_words words quiet)

  both_true : (own : Place) (words : List ToManager) → AllByRecursion (IsSaid (λ place. IsTrueOf place own) (level_of plan.k s ≡ 0)) words → AllByRecursion IsNear words →
      AllByRecursion (IsTrueReport plan s own) words
  both_true own [] said near = tt
  both_true own (tell.Place place ∷ words) said near = (said.0, both_true own words said.1 near.1)
  both_true own (tell.Link u usable ∷ words) said near = (near.0, both_true own words said.1 near.1)
  both_true own (tell.PodWanted ∷ words) said near = (tt, both_true own words said.1 near.1)
  both_true own (tell.Learned pmac amac ip ∷ words) said near = (tt, both_true own words said.1 near.1)
  both_true own (tell.Aged pmac number ∷ words) said near = (tt, both_true own words said.1 near.1)
  both_true own (tell.Begin epoch ∷ words) said near = (tt, both_true own words said.1 near.1)
  both_true own (tell.End epoch ∷ words) said near = (tt, both_true own words said.1 near.1)
  both_true own (tell.Trapped trapped toward numbered ∷ words) said near = (tt, both_true own words said.1 near.1)
  both_true own (tell.Query asker asker_ip ip ∷ words) said near = (tt, both_true own words said.1 near.1)
  both_true own (tell.Members group any ∷ words) said near = (said.0, both_true own words said.1 near.1)

module _ (plan : Plan) (is : IsPlan plan) where
  -- items leave queues
  left_trees : (f g : ControlPlane) → IsLeft f g → AreTrees plan f → AreTrees plan g
  left_trees f g left trees = record {
    reports = λ s. all_left (IsTrueReport plan s (g.view s).place) (f.reports s) (g.reports s) (left.reports s)
        (subst (λ (v : SwitchView). AllByRecursion (IsTrueReport plan s v.place) (f.reports s)) (sym (left.view s)) (trees.reports s));
    places = subst (λ (m : ManagerView). AllByRecursion (IsTruePlace plan g.view) m.told.places) (sym left.manager)
        (places_later plan f.view g.view (λ t. subst (λ (v : SwitchView). IsTrueOf (f.view t).place v.place) (sym (left.view t)) (true_of_itself (f.view t).place))
        f.manager.told.places trees.places);
    links = subst (λ (m : ManagerView). AllByRecursion (IsTrueLink plan) m.told.links) (sym left.manager) trees.links;
    members = subst (λ (m : ManagerView). AllByRecursion (AreTrueMembers plan) m.members) (sym left.manager) trees.members;
    orders = λ s. all_left (IsTrueOrder plan (level_of plan.k s)) (f.orders s) (g.orders s) (left.orders s) (trees.orders s);
    held = λ s. subst (λ (v : SwitchView). AllByRecursion (λ part. IsTruePart plan (level_of plan.k s) (Some part.1)) v.parts) (sym (left.view s)) (trees.held s);
  }

  -- the parts of a switch, once this came
  parts_true : (s : ℕ) (input : SwitchInput) (parts : List (ℕ × TreePart)) → ((says : ToSwitch) → input ≡ Says says → IsTrueOrder plan (level_of plan.k s) says) →
      AllByRecursion (λ part. IsTruePart plan (level_of plan.k s) (Some part.1)) parts → AllByRecursion (λ part. IsTruePart plan (level_of plan.k s) (Some part.1)) (parts_then input parts)
  parts_true s Tick parts order all = all
  parts_true s (Comes port frame) parts order all = all
  parts_true s (Says (say.Tree group None)) parts order all = all_removed (λ part. IsTruePart plan (level_of plan.k s) (Some part.1)) (λ g. g == group) parts all
  parts_true s (Says (say.Tree group (Some part))) parts order all =
      all_inserted nat_cmp exact_unsigned (λ part. IsTruePart plan (level_of plan.k s) (Some part.1)) parts group part (order (say.Tree group (Some part)) refl) all
  parts_true s (Says (say.Pod pod)) parts order all = all
  parts_true s (Says (say.Avoid list)) parts order all = all
  parts_true s (Says (say.Answer a b c d)) parts order all = all
  parts_true s (Says (say.Flood a b c)) parts order all = all
  parts_true s (Says (say.Invalidate a b c d)) parts order all = all
  parts_true s (Says (say.Release a)) parts order all = all
  parts_true s (Says (say.Hello epoch)) parts order all = tt

  -- a switch steps
  turn_trees : (f g : ControlPlane) (s : ℕ) (input : SwitchInput) (turns : SwitchTurns Loose f s input g) → ((t : ℕ) → IsTrueOf (f.view t).place (g.view t).place) →
      ((p : ℕ) (u : SwitchId) → id_at (g.view s) p ≡ Some u → is_neighbour plan s u ≡ true) →
      AreTrue (λ place. IsTrueOf place (g.view s).place) (level_of plan.k s ≡ 0) (switch_step turns.ruled.choose (f.view s) input).acts →
      ((says : ToSwitch) → input ≡ Says says → IsTrueOrder plan (level_of plan.k s) says) → AreTrees plan f → AreTrees plan g
  turn_trees f g s input turns grown near words order trees =
      let step : SwitchStep = switch_step turns.ruled.choose (f.view s) input in
      let view : g.view s ≡ step.view = turns.acted.here ∙ turns.ruled.steps.view in
      let right = tells_right turns.ruled.choose (f.view s) input in
      let quiet : NoStranger plan s (tells step.acts) = λ u stranger before. right.others u (λ p at.
      true≢false (sym (near p u (ap (λ (v : SwitchView). id_at v p) view ∙ at)) ∙ stranger)) before in
      let told : AllByRecursion (IsTrueReport plan s (g.view s).place) (tells turns.acts) =
      subst (λ a. AllByRecursion (IsTrueReport plan s (g.view s).place) (tells a)) (sym turns.ruled.steps.done)
      (both_true plan s (g.view s).place (tells step.acts) (true_words (λ place. IsTrueOf place (g.view s).place) (level_of plan.k s ≡ 0) step.acts words)
      (near_words plan s (tells step.acts) quiet)) in
      let parts : (g.view s).parts ≡ parts_then input (f.view s).parts = ap (λ (v : SwitchView). v.parts) view ∙ right.parts in
      record {
        reports = λ t. elim (cases_eq t s) [
          | inl here ↦ subst (λ n. AllByRecursion (IsTrueReport plan n (g.view n).place) (g.reports n)) (sym here)
              (subst (AllByRecursion (IsTrueReport plan s (g.view s).place)) (sym turns.acted.reports)
              (all_append (IsTrueReport plan s (g.view s).place) (f.reports s) (tells turns.acts)
              (reports_later plan s (f.view s).place (g.view s).place (grown s) (f.reports s) (trees.reports s)) told))
          | inr other ↦ subst (AllByRecursion (IsTrueReport plan t (g.view t).place)) (sym (turns.acted.other_reports t other))
              (reports_later plan t (f.view t).place (g.view t).place (grown t) (f.reports t) (trees.reports t))
        ];
        places = subst (λ (m : ManagerView). AllByRecursion (IsTruePlace plan g.view) m.told.places) (sym turns.acted.manager)
            (places_later plan f.view g.view grown f.manager.told.places trees.places);
        links = subst (λ (m : ManagerView). AllByRecursion (IsTrueLink plan) m.told.links) (sym turns.acted.manager) trees.links;
        members = subst (λ (m : ManagerView). AllByRecursion (AreTrueMembers plan) m.members) (sym turns.acted.manager) trees.members;
        orders = λ t. subst (AllByRecursion (IsTrueOrder plan (level_of plan.k t))) (sym (turns.acted.orders t)) (trees.orders t);
        held = λ t. elim (cases_eq t s) [
          | inl here ↦ subst (λ n. AllByRecursion (λ part. IsTruePart plan (level_of plan.k n) (Some part.1)) (g.view n).parts) (sym here)
              (subst (AllByRecursion (λ part. IsTruePart plan (level_of plan.k s) (Some part.1))) (sym parts) (parts_true s input (f.view s).parts order (trees.held s)))
          | inr other ↦ subst (λ (v : SwitchView). AllByRecursion (λ part. IsTruePart plan (level_of plan.k t) (Some part.1)) v.parts) (sym (turns.acted.others t other)) (trees.held t)
        ];
      }

  -- The manager steps.

  -- what it says to a switch is so
  abbrev IsTrueSaid : ManagerAct → Type 0
  IsTrueSaid (Say to says) = (s : ℕ) → slice_get plan.ids s ≡ Some to → IsTrueOrder plan (level_of plan.k s) says
  IsTrueSaid (Number pmac n) = Unit {0}

  abbrev AreTrueSaid : List ManagerAct → Type 0
  AreTrueSaid acts = AllByRecursion IsTrueSaid acts

  said_to_one : (s : ℕ) (to : SwitchId) (says : ToSwitch) (o : Option ℕ) → position (same_switch to) plan.ids ≡ o → IsTrueSaid (Say to says) →
      AllByRecursion (IsTrueOrder plan (level_of plan.k s)) (if is_to o s then says ∷ [] else [])
  said_to_one s to says None is good = tt
  said_to_one s to says (Some t) is good = elim (cases_Bool (t == s)) [
    | inr other ↦ subst (AllByRecursion (IsTrueOrder plan (level_of plan.k s))) (sym (cond-false (t == s) (says ∷ []) [] other)) tt
    | inl here ↦ subst (AllByRecursion (IsTrueOrder plan (level_of plan.k s))) (sym (cond-true (t == s) (says ∷ []) [] here))
        (let nobody : SwitchId = record { 0 = 0 } in
        let all = position-Some (same_switch to) plan.ids t nobody is in
        let x : SwitchId = get_or plan.ids t nobody in
        let named : slice_get plan.ids s ≡ Some to = ap (slice_get plan.ids) (sym (eqb-true t s here)) ∙ slice_get-get_or plan.ids t nobody all.0 ∙ ap Some (sym (same_is to x all.1)) in
        (good s named, tt))
  ]

  all_ordered : (s : ℕ) (acts : List ManagerAct) → AreTrueSaid acts → AllByRecursion (IsTrueOrder plan (level_of plan.k s)) (ordered plan s acts)
  all_ordered s [] all = tt
  all_ordered s (Say to says ∷ acts) all =
      all_append (IsTrueOrder plan (level_of plan.k s)) (ordered_by plan s (Say to says)) (ordered plan s acts)
      (said_to_one s to says (position (same_switch to) plan.ids) refl all.0) (all_ordered s acts all.1)
  all_ordered s (Number pmac n ∷ acts) all = all_ordered s acts all.1

  said_append : (xs ys : List ManagerAct) → AreTrueSaid xs → AreTrueSaid ys → AreTrueSaid (xs ++ ys)
  said_append xs ys a b = all_append IsTrueSaid xs ys a b

  answer_true : (to : SwitchId) (asker : Pmac) (asker_ip ip : Ip4) (o : Option Pmac) → IsTrueSaid (Say to (answer_to asker asker_ip ip o))
  answer_true to asker asker_ip ip None = λ s named. tt
  answer_true to asker asker_ip ip (Some pmac) = λ s named. tt

  recalled_true : (learnt : Learnt) (pmac : Pmac) (number : ℕ) (o : Option Registration) → AreTrueSaid (invalidation learnt pmac number o)
  recalled_true learnt pmac number None = tt
  recalled_true learnt pmac number (Some old) = (λ s named. tt, tt)

  learning_true : (before after : Learnt) (pmac : Pmac) (amac : Mac) → AreTrueSaid (learning before after pmac amac)
  learning_true before after pmac amac =
      cond_both _ [] (Number pmac (before.count + 1) ∷ invalidation after pmac (before.count + 1) (newest before amac)) AreTrueSaid
      (λ known. tt) (λ new. (tt, recalled_true after pmac (before.count + 1) (newest before amac)))

  released_true : (learnt : Learnt) (acts : List ManagerAct) → AreReleases learnt acts → AreTrueSaid acts
  released_true learnt [] all = tt
  released_true learnt (a ∷ acts) all = (subst IsTrueSaid (sym all.0.is) (λ s named. tt), released_true learnt acts all.1)

  reply_true : (before after : ManagerView) (id : SwitchId) (told : ToManager) → AreTrueSaid (reply before after id told)
  reply_true before after id tell.PodWanted = (λ s named. tt, tt)
  reply_true before after id (tell.Learned pmac amac ip) = learning_true before.learnt after.learnt pmac amac
  reply_true before after id (tell.Aged pmac number) =
      released_true before.learnt (hears_aged before.learnt pmac number).acts (aged_releases before.learnt pmac number)
  reply_true before after id (tell.Begin epoch) = tt
  reply_true before after id (tell.End epoch) = tt
  reply_true before after id (tell.Trapped trapped toward numbered) = tt
  reply_true before after id (tell.Query asker asker_ip ip) = (answer_true id asker asker_ip ip (lookup after.learnt ip), tt)
  reply_true before after id (tell.Place place) = tt
  reply_true before after id (tell.Link u usable) = tt
  reply_true before after id (tell.Members group any) = tt

  said_map : {X : Type 0} (f : X → ManagerAct) (xs : List X) → ((x : X) → IsTrueSaid (f x)) → AreTrueSaid (map f xs)
  said_map f [] each = tt
  said_map f (x ∷ xs) each = (each x, said_map f xs each)

  said_flat : {X : Type 0} (f : X → List ManagerAct) (xs : List X) → ((x : X) → AreTrueSaid (f x)) → AreTrueSaid (flat_map f xs)
  said_flat f [] each = tt
  said_flat f (x ∷ xs) each = said_append (f x) (flat_map f xs) (each x) (said_flat f xs each)

  trees_said : (before after : ManagerView) → AllByRecursion (HasLevel plan) after.told.places → AllByRecursion (AreTrueMembers plan) after.members →
      AreTrueSaid (tree_acts before after)
  trees_said before after places members =
      said_flat (tree_acts_of before after) (groups after.members) (λ group.
      said_map (λ x. Say x (say.Tree group (part_in after group x))) (changed_of_group before after group)
      (λ x s named. part_true plan after.told after.members places members group s x named))

  acts_true : (before after : ManagerView) (id : SwitchId) (told : ToManager) → AllByRecursion (HasLevel plan) after.told.places →
      AllByRecursion (AreTrueMembers plan) after.members → AreTrueSaid (acts_of before after id told)
  acts_true before after id told places members =
      said_append (reply before after id told ++ avoid_acts before.told after.told) (tree_acts before after)
      (said_append (reply before after id told) (avoid_acts before.told after.told) (reply_true before after id told)
      (said_map (λ x. Say x (say.Avoid (avoid_list after.told x))) (changed before.told after.told) (λ x s named. tt)))
      (trees_said before after places members)

  -- what it knows once it heard what is so
  module _ (view : ManagerView) (s : ℕ) (id : SwitchId) (named : slice_get plan.ids s ≡ Some id) where
    itself : (t : ℕ) → slice_get plan.ids t ≡ Some id → s ≡ t
    itself t also = one_switch plan is s t id id named also refl

    places_after : (views : ℕ → SwitchView) (told : ToManager) → IsTrueReport plan s (views s).place told → AllByRecursion (IsTruePlace plan views) view.told.places →
        AllByRecursion (IsTruePlace plan views) (view_after view id told).told.places
    places_after views (tell.Place place) so all =
        all_inserted id_cmp id_exact (IsTruePlace plan views) view.told.places id place
        (λ t also. subst (λ n. IsTrueOf place (views n).place) (itself t also) so) all
    places_after views (tell.Link u usable) so all = all
    places_after views tell.PodWanted so all = all
    places_after views (tell.Learned pmac amac ip) so all = all
    places_after views (tell.Aged pmac number) so all = all
    places_after views (tell.Begin epoch) so all = all
    places_after views (tell.End epoch) so all = all
    places_after views (tell.Trapped trapped toward numbered) so all = all
    places_after views (tell.Query asker asker_ip ip) so all = all
    places_after views (tell.Members group any) so all = all

    links_after : (own : Place) (told : ToManager) → IsTrueReport plan s own told → AllByRecursion (IsTrueLink plan) view.told.links →
        AllByRecursion (IsTrueLink plan) (view_after view id told).told.links
    links_after own (tell.Link u usable) so all =
        all_inserted link_cmp link_exact (IsTrueLink plan) view.told.links (id, u) usable (λ t also. subst (λ n. is_neighbour plan n u ≡ true) (itself t also) so) all
    links_after own (tell.Place place) so all = all
    links_after own tell.PodWanted so all = all
    links_after own (tell.Learned pmac amac ip) so all = all
    links_after own (tell.Aged pmac number) so all = all
    links_after own (tell.Begin epoch) so all = all
    links_after own (tell.End epoch) so all = all
    links_after own (tell.Trapped trapped toward numbered) so all = all
    links_after own (tell.Query asker asker_ip ip) so all = all
    links_after own (tell.Members group any) so all = all

    members_after : (own : Place) (told : ToManager) → IsTrueReport plan s own told → AllByRecursion (AreTrueMembers plan) view.members →
        AllByRecursion (AreTrueMembers plan) (view_after view id told).members
    members_after own (tell.Members group any) so all =
        all_inserted members_cmp members_exact (AreTrueMembers plan) view.members (id, group) any (λ t also. subst (λ n. level_of plan.k n ≡ 0) (itself t also) so) all
    members_after own (tell.Place place) so all = all
    members_after own (tell.Link u usable) so all = all
    members_after own tell.PodWanted so all = all
    members_after own (tell.Learned pmac amac ip) so all = all
    members_after own (tell.Aged pmac number) so all = all
    members_after own (tell.Begin epoch) so all = all
    members_after own (tell.End epoch) so all = all
    members_after own (tell.Trapped trapped toward numbered) so all = all
    members_after own (tell.Query asker asker_ip ip) so all = all

  manager_trees : (f m g : ControlPlane) (s : ℕ) (id : SwitchId) (told : ToManager) → f.plan ≡ plan → ((t : ℕ) → IsLevel (level_of plan.k t) (f.view t).place) →
      slice_get plan.ids s ≡ Some id → IsReportTaken f s told m → ManagerTurns manager_rule m id told g → AreTrees plan f → AreTrees plan g
  unfolding manager_hears
  manager_trees f m g s id told same level named taken turns trees =
      let mid = left_trees f m taken.left trees in
      let so : IsTrueReport plan s (m.view s).place told =
      (let all : AllByRecursion (IsTrueReport plan s (f.view s).place) (told ∷ m.reports s) =
      subst (AllByRecursion (IsTrueReport plan s (f.view s).place)) taken.first (trees.reports s) in
      subst (λ (v : SwitchView). IsTrueReport plan s v.place told) (sym (taken.left.view s)) all.0) in
      let after : ManagerView = view_after m.manager id told in
      let known : g.manager ≡ after = turns.manager ∙ turns.ruled.0 in
      let acts : turns.acts ≡ acts_of m.manager after id told = turns.ruled.1 in
      let places = places_after m.manager s id named m.view told so mid.places in
      let members = members_after m.manager s id named (m.view s).place told so mid.members in
      let levels = levels_of plan m.view (λ t. subst (λ (v : SwitchView). IsLevel (level_of plan.k t) v.place) (sym (taken.left.view t)) (level t)) after.told.places places in
      let good : AreTrueSaid turns.acts = subst AreTrueSaid (sym acts) (acts_true m.manager after id told levels members) in
      let at : m.plan ≡ plan = taken.left.plan ∙ same in
      record {
        reports = λ t. subst (λ (v : SwitchView). AllByRecursion (IsTrueReport plan t v.place) (g.reports t)) (sym (turns.view t))
            (subst (AllByRecursion (IsTrueReport plan t (m.view t).place)) (sym (turns.reports t)) (mid.reports t));
        places = subst (λ (x : ManagerView). AllByRecursion (IsTruePlace plan g.view) x.told.places) (sym known)
            (places_later plan m.view g.view (λ t. subst (λ (v : SwitchView). IsTrueOf (m.view t).place v.place) (sym (turns.view t)) (true_of_itself (m.view t).place))
            after.told.places places);
        links = subst (λ (x : ManagerView). AllByRecursion (IsTrueLink plan) x.told.links) (sym known)
            (links_after m.manager s id named (m.view s).place told so mid.links);
        members = subst (λ (x : ManagerView). AllByRecursion (AreTrueMembers plan) x.members) (sym known) members;
        orders = λ t. subst (AllByRecursion (IsTrueOrder plan (level_of plan.k t))) (sym (turns.orders t ∙ ap (λ p. m.orders t ++ ordered p t turns.acts) at))
            (all_append (IsTrueOrder plan (level_of plan.k t)) (m.orders t) (ordered plan t turns.acts) (mid.orders t) (all_ordered t turns.acts good));
        held = λ t. subst (λ (v : SwitchView). AllByRecursion (λ part. IsTruePart plan (level_of plan.k t) (Some part.1)) v.parts) (sym (turns.view t)) (mid.held t);
      }

-- What places give: known levels are so, and members are at edge switches alone.

module _ (plan : Plan) (f : ControlPlane) (placed : ArePlaced plan f) where
  pub level_is : (s : ℕ) → IsLevel (level_of plan.k s) (f.view s).place
  level_is s x level = (placed.own s).level x level

  pub members_are : (s : ℕ) → s < switch_count plan.k → (group : ℕ) → has_member_of (f.view s).members group ≡ true → level_of plan.k s ≡ 0
  members_are s there group has = by_members (f.view s).members (placed.sound s there).homes.members has
    where
      by_members : (members : List Member) → AllByRecursion (λ m. (port_of (f.view s) m.port).host ≡ true) members → has_member_of members group ≡ true → level_of plan.k s ≡ 0
      by_members [] all any = absurd (false≢true any)
      by_members (m ∷ members) all any = sym (level_is s 0 ((placed.sound s there).full.host m.port all.0))

-- The same is known of switches.

module _ (plan : Plan) (is : IsPlan plan) where
  pub like_trees : (f g : ControlPlane) → ((s : ℕ) → g.view s ≡ f.view s) → ((s : ℕ) → AllByRecursion (IsTrueReport plan s (f.view s).place) (g.reports s)) →
      g.manager.told ≡ f.manager.told → g.manager.members ≡ f.manager.members → ((s : ℕ) → AllByRecursion (IsTrueOrder plan (level_of plan.k s)) (g.orders s)) →
      AreTrees plan f → AreTrees plan g
  like_trees f g view reports told members orders trees = record {
    reports = λ s. subst (λ (v : SwitchView). AllByRecursion (IsTrueReport plan s v.place) (g.reports s)) (sym (view s)) (reports s);
    places = subst (λ (x : Told). AllByRecursion (IsTruePlace plan g.view) x.places) (sym told)
        (places_later plan f.view g.view (λ t. subst (λ (v : SwitchView). IsTrueOf (f.view t).place v.place) (sym (view t)) (true_of_itself (f.view t).place))
        f.manager.told.places trees.places);
    links = subst (λ (x : Told). AllByRecursion (IsTrueLink plan) x.links) (sym told) trees.links;
    members = subst (AllByRecursion (AreTrueMembers plan)) (sym members) trees.members;
    orders = orders;
    held = λ s. subst (λ (v : SwitchView). AllByRecursion (λ part. IsTruePart plan (level_of plan.k s) (Some part.1)) v.parts) (sym (view s)) (trees.held s);
  }

  -- a release leads nowhere
  release_true : (r : ℕ) (says : ToSwitch) → IsRelease says → IsTrueOrder plan r says
  release_true r (say.Release x) released = tt
  release_true r (say.Pod n) released = absurd released
  release_true r (say.Answer a b c d) released = absurd released
  release_true r (say.Flood a b c) released = absurd released
  release_true r (say.Avoid list) released = absurd released
  release_true r (say.Invalidate a b c d) released = absurd released
  release_true r (say.Hello epoch) released = absurd released
  release_true r (say.Tree group part) released = absurd released

  -- the manager learns of addresses, and releases some
  pub learns_trees : (f g : ControlPlane) → Learns f g → ((s : ℕ) → g.reports s ≡ f.reports s) → AreTrees plan f → AreTrees plan g
  learns_trees f g learns reports trees =
      like_trees f g learns.alike.view (λ s. subst (AllByRecursion (IsTrueReport plan s (f.view s).place)) (sym (reports s)) (trees.reports s))
      (ap (λ (v : ManagerView). v.told) learns.manager) (ap (λ (v : ManagerView). v.members) learns.manager)
      (λ s. subst (AllByRecursion (IsTrueOrder plan (level_of plan.k s))) (sym (learns.orders s))
      (all_append (IsTrueOrder plan (level_of plan.k s)) (f.orders s) (learns.more s) (trees.orders s)
      (all_weaker IsRelease (IsTrueOrder plan (level_of plan.k s)) (release_true (level_of plan.k s)) (learns.more s) (learns.releases s))))
      trees

  pub treated_trees : (f m g : ControlPlane) (s : ℕ) (id : SwitchId) (told : ToManager) → f.plan ≡ plan → ((t : ℕ) → IsLevel (level_of plan.k t) (f.view t).place) →
      slice_get plan.ids s ≡ Some id → IsReportTaken f s told m → ManagerTurns treats_one m id told g → AreTrees plan f → AreTrees plan g
  treated_trees f m g s id told same level named taken turns trees = elim (heard_or_noted m g id told turns) [
    | inl ruled ↦ manager_trees plan is f m g s id told same level named taken ruled trees
    | inr noted ↦ learns_trees m g noted.1 turns.reports (left_trees plan is f m taken.left trees)
  ]

-- A step of the control plane.

module _ (plan : Plan) (is : IsPlan plan) (f g : ControlPlane) (same : f.plan ≡ plan) (before : ArePlaced plan f)
    (grown : (s : ℕ) → IsTrueOf (f.view s).place (g.view s).place) (near : (s p : ℕ) (u : SwitchId) → id_at (g.view s) p ≡ Some u → is_neighbour plan s u ≡ true) where
  -- what is told in the step is told of the place behind it
  abbrev Tells : ℕ → SwitchStep → Type 0
  Tells s step = AreTrue (λ place. IsTrueOf place (g.view s).place) (level_of plan.k s ≡ 0) step.acts

  turn : (m : ControlPlane) (s : ℕ) (input : SwitchInput) (turns : SwitchTurns Loose m s input g) → ((t : ℕ) → m.view t ≡ f.view t) →
      Tells s (switch_step turns.ruled.choose (m.view s) input) → ((says : ToSwitch) → input ≡ Says says → IsTrueOrder plan (level_of plan.k s) says) → AreTrees plan m → AreTrees plan g
  turn m s input turns view words order trees =
      turn_trees plan is m g s input turns (λ t. subst (λ (v : SwitchView). IsTrueOf v.place (g.view t).place) (sym (view t)) (grown t)) (near s) words order trees

  -- the place behind the step, by the step
  then_place : (m : ControlPlane) (s : ℕ) (input : SwitchInput) (turns : SwitchTurns Loose m s input g) (step : SwitchStep) →
      switch_step turns.ruled.choose (m.view s) input ≡ step → IsTrueOf step.view.place (g.view s).place
  then_place m s input turns step is_step =
      subst (λ (v : SwitchView). IsTrueOf v.place (g.view s).place) (turns.acted.here ∙ turns.ruled.steps.view ∙ ap (λ (x : SwitchStep). x.view) is_step)
      (true_of_itself (g.view s).place)

  -- a control frame at a port
  heard_true : (m : ControlPlane) (s port : ℕ) (frame : List ℕ) (turns : SwitchTurns Loose m s (Comes port frame) g) → is_control frame ≡ true →
      Tells s (switch_step turns.ruled.choose (m.view s) (Comes port frame))
  heard_true m s port frame turns control =
      let v : SwitchView = m.view s in
      let step : switch_step turns.ruled.choose v (Comes port frame) ≡ control_comes v port frame =
      cond-true (is_control frame) (control_comes v port frame) (data_comes turns.ruled.choose v port frame) control in
      subst (Tells s) (sym step)
      (control_true (λ place. IsTrueOf place (g.view s).place) (level_of plan.k s ≡ 0) v port frame (then_place m s (Comes port frame) turns (control_comes v port frame) step))

  -- a data frame over a link
  carried_true : (m : ControlPlane) (t q s port : ℕ) (frame : List ℕ) (turns : SwitchTurns Loose m s (Comes port frame) g) → m.view s ≡ f.view s →
      AreAdjacent f.plan t q s port → is_control frame ≡ false → f.carries t q ≡ true → Tells s (switch_step turns.ruled.choose (m.view s) (Comes port frame))
  carried_true m t q s port frame turns same_view adjacent control carries =
      let v : SwitchView = m.view s in
      let link = before.links t q s port (subst (λ (p : Plan). AreAdjacent p t q s port) same adjacent) in
      let closed : is_open_to_hosts (port_of v port) ≡ false = subst (λ (x : SwitchView). is_open_to_hosts (port_of x port) ≡ false) (sym same_view)
      (closed_by (port_of (f.view s) port) link.recorded.no_host (link.evidence carries)) in
      let step : switch_step turns.ruled.choose v (Comes port frame) ≡ comes_from_switch turns.ruled.choose v port frame =
      cond-false (is_control frame) (control_comes v port frame) (data_comes turns.ruled.choose v port frame) control
      ∙ cond-false (is_open_to_hosts (port_of v port)) (comes_from_host turns.ruled.choose v port frame) (comes_from_switch turns.ruled.choose v port frame) closed in
      subst (Tells s) (sym step) (over_link_true (λ place. IsTrueOf place (g.view s).place) (level_of plan.k s ≡ 0) turns.ruled.choose v port frame)

  -- a frame of a host
  entered_true : (s port : ℕ) (frame : List ℕ) (turns : SwitchTurns Loose f s (Comes port frame) g) → level_of plan.k s ≡ 0 → is_control frame ≡ false →
      Tells s (switch_step turns.ruled.choose (f.view s) (Comes port frame))
  entered_true s port frame turns edge control =
      let v : SwitchView = f.view s in
      let choose : Choice = turns.ruled.choose in
      let own : Place → Type 0 = λ place. IsTrueOf place (g.view s).place in
      let data_step = cond-false (is_control frame) (control_comes v port frame) (data_comes choose v port frame) control in
      subst (Tells s) (sym data_step)
      (cond_both (is_open_to_hosts (port_of v port)) (comes_from_host choose v port frame) (comes_from_switch choose v port frame)
      (λ (step : SwitchStep). own step.view.place → Tells s step)
      (λ opens later. of_host_true own (level_of plan.k s ≡ 0) choose v port frame edge later)
      (λ closed later. over_link_true own (level_of plan.k s ≡ 0) choose v port frame)
      (then_place f s (Comes port frame) turns (data_comes choose v port frame) data_step))

  edge_rank : (s : ℕ) → s < edge_count plan.k → level_of plan.k s ≡ 0
  edge_rank s edge = ap label_level (label_of-edge plan.k s edge)

  pub plane_trees : AreTrees plan f → PlaneStep Loose treats_one f g → AreTrees plan g
  plane_trees trees (Left left) = left_trees plan is f g left trees
  plane_trees trees (Ticked s turns) =
      turn f s Tick turns (λ t. refl) (ticks_true (λ place. IsTrueOf place (g.view s).place) (level_of plan.k s ≡ 0) (f.view s) (grown s)) (λ says e. absurd (cc)) trees
  plane_trees trees (Heard t q s port frame mid adjacent control taken turns) =
      turn mid s (Comes port frame) turns taken.left.view (heard_true mid s port frame turns control) (λ says e. absurd (cc)) (left_trees plan is f mid taken.left trees)
  plane_trees trees (Carried t q s port frame mid adjacent control carries taken turns) =
      turn mid s (Comes port frame) turns taken.left.view (carried_true mid t q s port frame turns (taken.left.view s) adjacent control carries) (λ says e. absurd (cc))
      (left_trees plan is f mid taken.left trees)
  plane_trees trees (Entered s port frame edge within free control turns) =
      turn f s (Comes port frame) turns (λ t. refl) (entered_true s port frame turns (edge_rank s (subst (λ (p : Plan). s < edge_count p.k) same edge)) control)
      (λ says e. absurd (cc)) trees
  plane_trees trees (Ordered s says mid taken turns) =
      let order : AllByRecursion (IsTrueOrder plan (level_of plan.k s)) (says ∷ mid.orders s) = subst (AllByRecursion (IsTrueOrder plan (level_of plan.k s))) taken.first (trees.orders s) in
      let there : s < switch_count plan.k = subst (λ (p : Plan). s < switch_count p.k) (taken.left.plan ∙ same) turns.there in
      turn mid s (Says says) turns taken.left.view
      (hears_true (λ place. IsTrueOf place (g.view s).place) (level_of plan.k s ≡ 0) turns.ruled.choose (mid.view s) says
      (then_place mid s (Says says) turns (hears_manager turns.ruled.choose (mid.view s) says) refl)
      (subst (λ (x : SwitchView). (group : ℕ) → has_member_of x.members group ≡ true → level_of plan.k s ≡ 0) (sym (taken.left.view s)) (members_are plan f before s there)))
      (λ word e. subst (IsTrueOrder plan (level_of plan.k s)) (said_is says word e) order.0)
      (left_trees plan is f mid taken.left trees)
    where
      said_of : SwitchInput → ToSwitch
      said_of (Says word) = word
      said_of (Comes port frame) = says
      said_of Tick = says

      said_is : (a b : ToSwitch) → Says a ≡ Says b → a ≡ b
      said_is a b e = ap said_of e
  plane_trees trees (Managed s id told mid there named taken turns) =
      treated_trees plan is f mid g s id told same (level_is plan f before) (ap (λ (p : Plan). slice_get p.ids s) (sym same) ∙ named) taken turns trees
