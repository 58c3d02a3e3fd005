-- Each step to what is due keeps it that links to neighbours alone are told usable.
use Rattle.std.proofs.Common.{◌≡◌, ℕ, Bool, true, false, List, [], ◌∷◌, ◌++◌, Option, Some, None, slice_get, refl, sym, ap, ◌∙◌, subst, inl, inr, arith, eq-eqb, eqb-true, true≢false}
use Rattle.std.specs.List.{list_any}
use Rattle.std.proofs.lemmas.Bool.{cases_Bool, cases_eq, false≢true, or_cases}
use Rattle.pl_lemmas.proofs.Exports.{replicated}
use Rattle.pl_frame.specs.declared.address.SwitchId.{SwitchId}
use Rattle.pl_wiring.specs.declared.link.Peer.{Peer}
use Rattle.pl_wiring.specs.declared.link.Peer.TheVariants.{HostPort, Switch}
use Rattle.pl_wiring.specs.Labels.{switch_count}
use Rattle.pl_wiring.specs.Peers.{peer_of}
use Rattle.pl_wiring.specs.Plan.{IsPlan, Plan}
use Rattle.pl_node.specs.declared.messages.ToSwitch.{ToSwitch}
use Rattle.pl_node.specs.declared.messages.ToSwitch.TheVariants.{Hello}
use Rattle.pl_node.specs.ManagerViews.{ManagerView, is_told_usable}
use Rattle.pl_node.specs.PortRecords.{id_at, is_id, ports_of_switch}
use Rattle.pl_node.specs.SwitchInputs.SwitchInput.{Comes, Says, Tick}
use Rattle.pl_node.specs.SwitchInputs.{SwitchInput}
use Rattle.pl_node.specs.SwitchViews.{SwitchView}
use Rattle.pl_node.proofs.Exports.{among_range, any_among}
use Rattle.pl_manager_rule.specs.Histories.{link_said}
use Rattle.pl_switch_rule.specs.Reporting.{hears_hello}
use Rattle.pl_switch_rule.specs.SwitchRule.{Loose, switch_step}
use Rattle.pl_world.specs.declared.limits.Limits.{Limits}
use Rattle.pl_world.specs.Booting.{booted}
use Rattle.pl_law_control_plane.specs.ControlPlanes.{AreAdjacent, ControlPlane, control_plane, tells}
use Rattle.pl_law_control_plane.specs.PlaneSteps.{IsOrderTaken, LosesNoWord, PlaneStep, SwitchTurns, WholeStep}
use Rattle.pl_law_control_plane.specs.PlaneSteps.PlaneStep.{Carried, Entered, Heard, Left, Managed, Ordered, Ticked}
use Rattle.pl_law_control_plane.proofs.Exports.{adjacent_there}
use Rattle.pl_law_due.specs.Due.{due_plane, is_hello, is_silent, words_of}
use Rattle.pl_law_control_plane.specs.Restarts.{Restarts}
use Rattle.pl_law_due.specs.DueSteps.{DueStep, treats_one}
use Rattle.pl_law_due.specs.DueSteps.DueStep.{Managed as ManagedBy, Stepped}
use Rattle.pl_law_due.specs.DueSteps.ManagerPart.{Treated}
use Rattle.pl_law_due.specs.Gathering.{AreUnheard, GathersWell, IsUnheard}
use Rattle.pl_law_due.proofs.Exports.{none_loud, parts_alike, parts_loud, whole_due}
use Rattle.pl_law_records.specs.Records.{HaveToldNeighbours, LinksAreOfNeighbours, NamesNeighbours, NoReportWaits, is_neighbour, is_switch_with}
use Rattle.pl_law_records.specs.Words.{last_said}
use Rattle.pl_law_records.proofs.Last.{due_rests, last_append, last_silent, silent_link}
use Rattle.pl_law_records.proofs.Pairing.{link_parts, link_sifted, link_treated, names_alike}
use Rattle.pl_law_records.proofs.Reporting.{IsSameTo}
use Rattle.pl_law_records.proofs.Reports.{report_says_no_other}
use Rattle.pl_law_records.proofs.ToldInTurns.{tells_right}

any_of : (test : ℕ → Bool) (xs : List ℕ) → list_any test xs ≡ true → (x : ℕ) × (test x ≡ true)
any_of test [] h = absurd (true≢false (sym h))
any_of test (x ∷ xs) h = elim (or_cases (test x) (list_any test xs) h) [ inl here ↦ (x, here) | inr later ↦ any_of test xs later ]

-- the switch at the other end of a link is a neighbour
pub neighbour_is : (plan : Plan) (s p t q : ℕ) (u : SwitchId) → IsPlan plan → AreAdjacent plan s p t q → slice_get plan.ids t ≡ Some u → is_neighbour plan s u ≡ true
neighbour_is plan s p t q u is adjacent named =
    let within = (adjacent_there plan s p t q is adjacent).1 in
    any_among (λ p. is_switch_with plan u (peer_of plan s p)) p (ports_of_switch plan.k) (among_range p 0 plan.k p (omega arith) within)
    (ap (is_switch_with plan u) adjacent ∙ ap (λ o. is_id o u) named ∙ eq-eqb u.0 u.0 refl)

neighbour_at : (plan : Plan) (s : ℕ) (u : SwitchId) → is_neighbour plan s u ≡ true → (p t q : ℕ) × AreAdjacent plan s p t q × (slice_get plan.ids t ≡ Some u)
neighbour_at plan s u h =
    let at = any_of (λ p. is_switch_with plan u (peer_of plan s p)) (ports_of_switch plan.k) h in
    by at.0 (peer_of plan s at.0) refl at.1
  where
    id_is : (o : Option SwitchId) → is_id o u ≡ true → o ≡ Some u
    id_is None e = absurd (true≢false (sym e))
    id_is (Some i) e = ap Some (ap (λ n. let x : SwitchId = record { 0 = n } in x) (eqb-true i.0 u.0 e))

    by : (p : ℕ) (peer : Peer) → peer_of plan s p ≡ peer → is_switch_with plan u peer ≡ true → (p t q : ℕ) × AreAdjacent plan s p t q × (slice_get plan.ids t ≡ Some u)
    by p HostPort e h = absurd (true≢false (sym h))
    by p (Switch t q) e h = (p, t.0, q, e, id_is (slice_get plan.ids t.0) h)

-- what is claimed of a switch and one that is no neighbour
abbrev HasToldNone : ControlPlane → ℕ → SwitchId → SwitchId → Type 0
HasToldNone f s id u = last_said (link_said u) (is_told_usable f.manager.told id u) (f.reports s) ≡ false

none_same : (f g : ControlPlane) → IsSameTo f g → (s : ℕ) (id u : SwitchId) → HasToldNone f s id u → HasToldNone g s id u
none_same f g same s id u told = rw (same.manager, same.reports s) told

nowhere : (g : ControlPlane) → IsPlan g.plan → NamesNeighbours g → (x : ℕ) (u : SwitchId) → is_neighbour g.plan x u ≡ false → (p : ℕ) → id_at (g.view x) p ≡ Some u → ⊥
nowhere g is names x u stranger p h = let at = names x p u h in true≢false (sym (neighbour_is g.plan x p at.0 at.1 u is at.2 at.3) ∙ stranger)

none_turn : (f g : ControlPlane) (s : ℕ) (input : SwitchInput) → IsPlan g.plan → NamesNeighbours g → SwitchTurns Loose f s input g → (x : ℕ) (id u : SwitchId) →
    is_neighbour g.plan x u ≡ false → HasToldNone f x id u → HasToldNone g x id u
none_turn f g s input is names turns x id u stranger before = elim (cases_eq x s) [
  | inl here ↦ at_home here
  | inr other ↦ rw (turns.acted.manager, turns.acted.other_reports x other) before
]
  where
    at_home : x ≡ s → HasToldNone g x id u
    at_home here =
        let right = tells_right turns.ruled.choose (f.view s) input in
        let grown : g.reports x ≡ f.reports x ++ tells turns.acts = ap g.reports here ∙ turns.acted.reports ∙ ap (λ y. f.reports y ++ tells turns.acts) (sym here) in
        let view : g.view x ≡ (switch_step turns.ruled.choose (f.view s) input).view = ap g.view here ∙ turns.acted.here ∙ turns.ruled.steps.view in
        rw (turns.acted.manager, grown)
        (last_append (link_said u) (is_told_usable f.manager.told id u) (f.reports x) (tells turns.acts)
        ∙ ap (λ y. last_said (link_said u) y (tells turns.acts)) before
        ∙ ap (λ a. last_said (link_said u) false (tells a)) turns.ruled.steps.done
        ∙ right.others u (λ p h. nowhere g is names x u stranger p (ap (λ (v : SwitchView). id_at v p) view ∙ h)) false)

-- a switch hears that the manager began anew, which knows nothing
none_greeted : (f m g : ControlPlane) (s : ℕ) (says : ToSwitch) (epoch : ℕ) → IsOrderTaken f s says m → SwitchTurns Loose m s (Says says) g → says ≡ Hello epoch → IsUnheard f s →
    IsPlan g.plan → NamesNeighbours g → (id u : SwitchId) → is_neighbour g.plan s u ≡ false → HasToldNone g s id u
none_greeted f m g s says epoch taken turns greets so is names id u stranger =
    let v = m.view s in
    let step : turns.acts ≡ (hears_hello v epoch).acts = turns.ruled.steps.done ∙ ap (λ x. (switch_step turns.ruled.choose v (Says x)).acts) greets in
    let view : g.view s ≡ (hears_hello v epoch).view = turns.acted.here ∙ turns.ruled.steps.view ∙ ap (λ x. (switch_step turns.ruled.choose v (Says x)).view) greets in
    let words : g.reports s ≡ tells (hears_hello v epoch).acts =
    turns.acted.reports ∙ ap (λ q. q ++ tells turns.acts) (taken.reports s ∙ so.nothing) ∙ ap (λ a. tells a) step in
    let manager : g.manager ≡ f.manager = turns.acted.manager ∙ taken.left.manager in
    ap (λ qs. last_said (link_said u) (is_told_usable g.manager.told id u) qs) words
    ∙ ap (λ (w : ManagerView). last_said (link_said u) (is_told_usable w.told id u) (tells (hears_hello v epoch).acts)) (manager ∙ so.anew)
    ∙ report_says_no_other v epoch u (λ p h. nowhere g is names s u stranger p (ap (λ (w : SwitchView). id_at w p) view ∙ h)) false

-- a step of the control plane
module _ (f g : ControlPlane) (is : IsPlan f.plan) (is_g : IsPlan g.plan) (names : NamesNeighbours g) (unheard_f : AreUnheard f) (told : HaveToldNeighbours f) where
  module _ (m : ControlPlane) (plan : m.plan ≡ f.plan) (view : (s : ℕ) → m.view s ≡ f.view s) (reports : (s : ℕ) → m.reports s ≡ f.reports s) (manager : m.manager ≡ f.manager)
      (s : ℕ) (input : SwitchInput) (turns : SwitchTurns Loose m s input g) where
    none_acts : (x : ℕ) (id u : SwitchId) → is_neighbour g.plan x u ≡ false → HasToldNone f x id u → HasToldNone g x id u
    none_acts x id u stranger before =
        none_turn m g s input is_g names turns x id u stranger (none_same f m (record { plan = plan; view = view; reports = reports; manager = manager }) x id u before)

    neighbours_act : ((t : ℕ) → m.orders t ≡ f.orders t) → HaveToldNeighbours g
    neighbours_act orders x id u named stranger loud =
        none_acts x id u stranger (told x id u (subst (λ (y : Plan). slice_get y.ids x ≡ Some id) (turns.acted.plan ∙ plan) named)
        (subst (λ (y : Plan). is_neighbour y x u ≡ false) (turns.acted.plan ∙ plan) stranger) (ap (list_any is_hello) (sym (turns.acted.orders x ∙ orders x)) ∙ loud))

  neighbours_obey : (m : ControlPlane) (s : ℕ) (says : ToSwitch) → IsOrderTaken f s says m → SwitchTurns Loose m s (Says says) g → HaveToldNeighbours g
  neighbours_obey m s says taken turns x id u named stranger loud = elim (cases_Bool (is_silent f.orders x)) [
    | inr before ↦ none_acts m taken.left.plan taken.left.view taken.reports taken.left.manager s (Says says) turns x id u stranger
        (told x id u named_f (subst (λ (y : Plan). is_neighbour y x u ≡ false) (turns.acted.plan ∙ taken.left.plan) stranger) before)
    | inl silent ↦ elim (cases_eq x s) [
      | inl here ↦
          let so = subst (λ y. IsUnheard f y) here (unheard_f x id named_f silent) in
          subst (λ y. HasToldNone g y id u) (sym here)
          (none_greeted f m g s says f.manager.epoch taken turns (first says (Hello f.manager.epoch) (m.orders s) [] (sym taken.first ∙ so.alone)) so is_g names id u
          (subst (λ y. is_neighbour g.plan y u ≡ false) here stranger))
      | inr other ↦ absurd (false≢true (sym loud ∙ ap (list_any is_hello) (turns.acted.orders x ∙ taken.others x other) ∙ silent))
    ]
  ]
    where
      named_f : slice_get f.plan.ids x ≡ Some id
      named_f = subst (λ (y : Plan). slice_get y.ids x ≡ Some id) (turns.acted.plan ∙ taken.left.plan) named

      first : (a b : ToSwitch) (xs ys : List ToSwitch) → a ∷ xs ≡ b ∷ ys → a ≡ b
      first a b xs ys same = cc same

  neighbours_step : WholeStep Loose treats_one f g → HaveToldNeighbours g
  neighbours_step step = by step.0 step.1
    where
      by : (step : PlaneStep Loose treats_one f g) → LosesNoWord Loose treats_one f g step → HaveToldNeighbours g
      by (Left left) kept = λ x id u named stranger loud.
          none_same f g (record { plan = left.plan; view = left.view; reports = kept.reports; manager = left.manager }) x id u
          (told x id u (subst (λ (y : Plan). slice_get y.ids x ≡ Some id) left.plan named) (subst (λ (y : Plan). is_neighbour y x u ≡ false) left.plan stranger)
          (ap (list_any is_hello) (sym (kept.orders x)) ∙ loud))
      by (Ticked s turns) kept = neighbours_act f refl (λ t. refl) (λ t. refl) refl s Tick turns (λ t. refl)
      by (Heard t q s port frame mid adjacent control taken turns) kept =
          neighbours_act mid taken.left.plan taken.left.view taken.reports taken.left.manager s (Comes port frame) turns taken.orders
      by (Carried t q s port frame mid adjacent control carries taken turns) kept =
          neighbours_act mid taken.left.plan taken.left.view taken.reports taken.left.manager s (Comes port frame) turns taken.orders
      by (Entered s port frame edge within free control turns) kept = neighbours_act f refl (λ t. refl) (λ t. refl) refl s (Comes port frame) turns (λ t. refl)
      by (Ordered s says mid taken turns) kept = neighbours_obey mid s says taken turns
      by (Managed s id word mid there named taken turns) kept = λ x id_x u named_x stranger loud.
          let plan = turns.plan ∙ taken.left.plan in
          let named_f = subst (λ (y : Plan). slice_get y.ids x ≡ Some id_x) plan named_x in
          link_treated u f mid g s id word is named taken turns x id_x named_f
          ∙ told x id_x u named_f (subst (λ (y : Plan). is_neighbour y x u ≡ false) plan stranger) (parts_loud [] f g (Treated s id word mid there named taken turns) x loud)

-- a step to what is due
pub due_neighbours : (f g : ControlPlane) → IsPlan f.plan → IsPlan g.plan → NamesNeighbours g → AreUnheard f → HaveToldNeighbours f → DueStep Loose f g → HaveToldNeighbours g
due_neighbours f g is is_g names unheard_f told (ManagedBy mids parts) x id u named stranger loud =
    let alike = parts_alike mids f g parts in
    let named_f = subst (λ (y : Plan). slice_get y.ids x ≡ Some id) alike.plan named in
    link_parts u mids f g is parts x id named_f ∙ told x id u named_f (subst (λ (y : Plan). is_neighbour y x u ≡ false) alike.plan stranger) (parts_loud mids f g parts x loud)
due_neighbours f g is is_g names unheard_f told (Stepped between step sifted) x id u named stranger loud =
    let alike = sifted.alike in
    let before : is_silent between.orders x ≡ false = ap (list_any is_hello) (sym (sifted.orders x)) ∙ loud in
    link_sifted u between g sifted x id before
    ∙ neighbours_step f between is (subst IsPlan alike.plan is_g) (names_alike between g alike names) unheard_f told step x id u
    (subst (λ (y : Plan). slice_get y.ids x ≡ Some id) alike.plan named) (subst (λ (y : Plan). is_neighbour y x u ≡ false) alike.plan stranger) before

-- At the beginning nothing was told.
pub neighbours_at_first : (plan : Plan) (limits : Limits) → HaveToldNeighbours (due_plane (control_plane (booted plan limits)))
neighbours_at_first plan limits s id u named stranger loud =
    ap (last_said (link_said u) _) (whole_due (control_plane (booted plan limits)) refl s id named ∙ ap words_of (replicated (switch_count plan.k) s []))

-- where no report waits
pub neighbours_at_rest : (f : ControlPlane) → IsPlan f.plan → GathersWell f → HaveToldNeighbours (due_plane f) → NoReportWaits f → LinksAreOfNeighbours f
neighbours_at_rest f is well told rest s id u named usable = by (is_neighbour f.plan s u) refl
  where
    by : (b : Bool) → is_neighbour f.plan s u ≡ b → (p t q : ℕ) × AreAdjacent f.plan s p t q × (slice_get f.plan.ids t ≡ Some u)
    by true e = neighbour_at f.plan s u e
    by false e =
        let due = due_rests f is well rest s id named in
        let words = (due_plane f).reports s in
        absurd (true≢false (sym usable ∙ sym (last_silent (link_said u) _ words (silent_link u words due.reports)) ∙ told s id u named e due.loud))

-- after a restart no switch is heard
pub restart_neighbours : (f g : ControlPlane) → IsPlan f.plan → Restarts f g → HaveToldNeighbours g
restart_neighbours f g is restarts s id u named stranger loud = absurd (none_loud f g is restarts s id named loud)
