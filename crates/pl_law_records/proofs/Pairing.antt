-- Each step to what is due keeps it that links are told.
use Rattle.std.proofs.Common.{◌≡◌, ℕ, zero, suc, ◌<◌, Bool, true, false, List, [], ◌∷◌, ◌++◌, map, Some, None, slice_get, get_or, refl, sym, ap, ◌∙◌, subst, inl, inr, arith, Contains}
use Rattle.std.specs.List.{list_any}
use Rattle.std.proofs.lemmas.Bool.{cases_Bool, cases_eq, cases_lt, false≢true}
use Rattle.std.proofs.lemmas.Option.{get_or_from_slice_get, same_Some, slice_get-get_or}
use Rattle.pl_lemmas.proofs.Exports.{replicated}
use Rattle.pl_frame.specs.declared.address.SwitchId.{SwitchId}
use Rattle.pl_wiring.specs.declared.link.Link.{Link}
use Rattle.pl_wiring.specs.declared.link.Peer.{Peer}
use Rattle.pl_wiring.specs.declared.link.Peer.TheVariants.{HostPort, Switch}
use Rattle.pl_wiring.specs.FatTree.{IsTreeLink}
use Rattle.pl_wiring.specs.Labels.{switch_count}
use Rattle.pl_wiring.specs.Peers.{HasEnds}
use Rattle.pl_wiring.specs.Plan.{IsPlan, Plan}
use Rattle.pl_wiring.proofs.Exports.{at_contained, link_rises, peer_is_switch, same_switch as same_no}
use Rattle.pl_node.specs.declared.messages.ToManager.{ToManager}
use Rattle.pl_node.specs.declared.messages.ToManager.TheVariants as tell
use Rattle.pl_node.specs.declared.messages.ToSwitch.{ToSwitch}
use Rattle.pl_node.specs.declared.messages.ToSwitch.TheVariants.{Hello}
use Rattle.pl_node.specs.ManagerViews.{ManagerView, is_told_usable}
use Rattle.pl_node.specs.PortRecords.{heard_id, id_at, is_usable, new_port}
use Rattle.pl_node.specs.declared.neighbour.PortRecord.{PortRecord}
use Rattle.pl_node.specs.SwitchFacts.{switch_at_boot}
use Rattle.pl_node.specs.SwitchInputs.SwitchInput.{Comes, Says, Tick}
use Rattle.pl_node.specs.SwitchInputs.{SwitchInput}
use Rattle.pl_node.specs.SwitchViews.{SwitchView}
use Rattle.pl_manager_rule.specs.Histories.{link_said}
use Rattle.pl_switch_rule.specs.Reporting.{hears_hello}
use Rattle.pl_switch_rule.specs.SwitchRule.{Loose, switch_step}
use Rattle.pl_world.specs.declared.limits.Limits.{Limits}
use Rattle.pl_world.specs.Booting.{booted}
use Rattle.pl_law_control_plane.specs.ControlPlanes.{AreAdjacent, ControlPlane, control_plane, no_switch, tells}
use Rattle.pl_law_control_plane.specs.PlaneSteps.{IsOrderTaken, IsReportTaken, LosesNoWord, ManagerTurns, PlaneStep, SwitchTurns, WholeStep}
use Rattle.pl_law_control_plane.specs.PlaneSteps.PlaneStep.{Carried, Entered, Heard, Left, Managed, Ordered, Ticked}
use Rattle.pl_law_control_plane.proofs.Exports.{adjacent_there}
use Rattle.pl_law_due.specs.Due.{due_plane, is_hello, is_silent, words_of}
use Rattle.pl_law_control_plane.specs.Restarts.{IsAlike, Restarts}
use Rattle.pl_law_due.specs.DueSteps.{DueStep, IsSifted, Parts, treats_one}
use Rattle.pl_law_due.specs.DueSteps.DueStep.{Managed as ManagedBy, Stepped}
use Rattle.pl_law_due.specs.DueSteps.ManagerPart.{Treated}
use Rattle.pl_law_due.specs.Gathering.{AreUnheard, GathersWell, IsUnheard}
use Rattle.pl_law_due.proofs.Exports.{none_loud, parts_alike, parts_loud, whole_due}
use Rattle.pl_law_records.specs.Records.{HaveToldLinks, NoReportWaits, IsPair, LinksAreCurrent, NamesNeighbours}
use Rattle.pl_law_records.specs.Words.{last_said}
use Rattle.pl_law_records.proofs.Last.{due_rests, last_append, last_silent, silent_link}
use Rattle.pl_law_records.proofs.Greeting.{link_anew}
use Rattle.pl_law_records.proofs.Linking.{IsOnlyAt, unheard}
use Rattle.pl_law_records.proofs.Recording.{link_heard, one_switch}
use Rattle.pl_law_records.proofs.Reporting.{IsSameTo}
use Rattle.pl_law_records.proofs.SaysLast.{is_quiet, parts_say, sifted_says, treated_says}
use Rattle.pl_law_records.proofs.ToldInTurns.{tells_right}

-- Two switches are joined by one link at most.

-- a link of a plan, by its number
one_link : (plan : Plan) → IsPlan plan → (l m : Link) → Contains plan.links l → Contains plan.links m → l.lower.0 ≡ m.lower.0 → l.upper.0 ≡ m.upper.0 → l ≡ m
one_link plan is l m a b lower upper = elim (cases_eq a.0 b.0) [
  | inl same ↦ sym (at_l l) ∙ ap (λ i. get_or plan.links i l) same ∙ at_m l
  | inr differ ↦ elim (cases_lt a.0 b.0) [
    | inl less ↦ absurd (is.tree.once a.0 b.0 l less b.1 (
      ap (λ (x : Link). x.lower) (at_l l) ∙ same_no l.lower m.lower lower ∙ ap (λ (x : Link). x.lower) (sym (at_m l)),
      ap (λ (x : Link). x.upper) (at_l l) ∙ same_no l.upper m.upper upper ∙ ap (λ (x : Link). x.upper) (sym (at_m l)),
    ))
    | inr more ↦ absurd (is.tree.once b.0 a.0 l (omega (arith, more, differ)) a.1 (
      ap (λ (x : Link). x.lower) (at_m l) ∙ sym (same_no l.lower m.lower lower) ∙ ap (λ (x : Link). x.lower) (sym (at_l l)),
      ap (λ (x : Link). x.upper) (at_m l) ∙ sym (same_no l.upper m.upper upper) ∙ ap (λ (x : Link). x.upper) (sym (at_l l)),
    ))
  ]
]
  where
    at_l : (d : Link) → get_or plan.links a.0 d ≡ l
    at_l d = get_or_from_slice_get plan.links a.0 l d (slice_get-get_or plan.links a.0 l a.1 ∙ ap Some a.2)

    at_m : (d : Link) → get_or plan.links b.0 d ≡ m
    at_m d = get_or_from_slice_get plan.links b.0 m d (slice_get-get_or plan.links b.0 m b.1 ∙ ap Some b.2)

rising : (plan : Plan) → IsPlan plan → (l : Link) → Contains plan.links l → l.lower.0 < l.upper.0
rising plan is l there = link_rises plan.k l (at_contained (IsTreeLink plan.k) plan.links l is.tree.no_other there)

one_port : (plan : Plan) → IsPlan plan → (s p q t a b : ℕ) → AreAdjacent plan s p t a → AreAdjacent plan s q t b → q ≡ p
one_port plan is s p q t a b first second =
    let x = (peer_is_switch plan s p (record { 0 = t }) a is).0 first in
    let y = (peer_is_switch plan s q (record { 0 = t }) b is).0 second in
    ends x.1 y.1 (x.0, x.2, x.3) (y.0, y.2, y.3) x.4 y.4
  where
    ends : (l m : Link) → Contains plan.links l → Contains plan.links m → HasEnds l s p t a → HasEnds m s q t b → q ≡ p
    ends l m c d (inl e) (inl f) = sym f.1 ∙ ap (λ (x : Link). x.lower_port) (sym (one_link plan is l m c d (e.0 ∙ sym f.0) (e.2 ∙ sym f.2))) ∙ e.1
    ends l m c d (inr e) (inr f) = sym f.1 ∙ ap (λ (x : Link). x.upper_port) (sym (one_link plan is l m c d (e.2 ∙ sym f.2) (e.0 ∙ sym f.0))) ∙ e.1
    ends l m c d (inl e) (inr f) = let x = rising plan is l c in let y = rising plan is m d in absurd (omega (arith, x, y, e.0, e.2, f.0, f.2))
    ends l m c d (inr e) (inl f) = let x = rising plan is l c in let y = rising plan is m d in absurd (omega (arith, x, y, e.0, e.2, f.0, f.2))

abbrev peer_no : Peer → ℕ
peer_no HostPort = 0
peer_no (Switch t q) = t.0

only_at : (f : ControlPlane) → IsPlan f.plan → NamesNeighbours f → (s p t q : ℕ) (id u : SwitchId) → IsPair f.plan s p t q id u → (f.view s).k ≡ f.plan.k → IsOnlyAt (f.view s) u p
only_at f is names s p t q id u pair size = record {
  within = subst (λ n. p < n) (sym size) (adjacent_there f.plan s p t q is pair.adjacent).1;
  only = λ r h.
      let n = names s r u h in
      let same = one_switch f.plan is n.0 t u u n.3 pair.there refl in
      one_port f.plan is s p r t q n.1 pair.adjacent (subst (λ x. AreAdjacent f.plan s r x n.1) same n.2);
  named = λ x h.
      let n = names s p x h in
      let same : n.0 ≡ t = ap peer_no (sym n.2 ∙ pair.adjacent) in
      same_Some x u (sym n.3 ∙ ap (λ y. slice_get f.plan.ids y) same ∙ pair.there);
}

link_quiet : (u : SwitchId) (told : ToManager) → is_quiet told ≡ true → link_said u told ≡ None
link_quiet u (tell.Link x usable) is = absurd (false≢true is)
link_quiet u (tell.Place place) is = refl
link_quiet u tell.PodWanted is = refl
link_quiet u (tell.Learned a b c) is = refl
link_quiet u (tell.Aged a b) is = refl
link_quiet u (tell.Begin n) is = refl
link_quiet u (tell.End n) is = refl
link_quiet u (tell.Trapped a b c) is = refl
link_quiet u (tell.Query a b c) is = refl
link_quiet u (tell.Members group any) is = refl

abbrev pub usable_known : SwitchId → ManagerView → SwitchId → Bool
usable_known u v id = is_told_usable v.told id u

-- the last that is said of a link stays, whatever the manager does
module _ (u : SwitchId) where
  pub link_parts : (mids : List ControlPlane) (f g : ControlPlane) → IsPlan f.plan → Parts mids f g → (t : ℕ) (id : SwitchId) → slice_get f.plan.ids t ≡ Some id →
      last_said (link_said u) (usable_known u g.manager id) (g.reports t) ≡ last_said (link_said u) (usable_known u f.manager id) (f.reports t)
  link_parts = parts_say (link_said u) (link_quiet u) (usable_known u) (λ v learnt x. refl) (λ v x y w. link_heard v x y u w)

  pub link_treated : (f m g : ControlPlane) (s : ℕ) (id : SwitchId) (told : ToManager) → IsPlan f.plan → slice_get f.plan.ids s ≡ Some id → IsReportTaken f s told m →
      ManagerTurns treats_one m id told g → (t : ℕ) (id_t : SwitchId) → slice_get f.plan.ids t ≡ Some id_t →
      last_said (link_said u) (usable_known u g.manager id_t) (g.reports t) ≡ last_said (link_said u) (usable_known u f.manager id_t) (f.reports t)
  link_treated = treated_says (link_said u) (link_quiet u) (usable_known u) (λ v learnt x. refl) (λ v x y w. link_heard v x y u w)

  pub link_sifted : (f g : ControlPlane) → IsSifted f g → (t : ℕ) (id : SwitchId) → is_silent f.orders t ≡ false →
      last_said (link_said u) (usable_known u g.manager id) (g.reports t) ≡ last_said (link_said u) (usable_known u f.manager id) (f.reports t)
  link_sifted = sifted_says (link_said u) (link_quiet u) (usable_known u) (λ v learnt x. refl) (λ v x y w. link_heard v x y u w)

-- that switches name their neighbours, of a plane where they know the same
pub names_alike : (f g : ControlPlane) → IsAlike f g → NamesNeighbours g → NamesNeighbours f
names_alike f g alike names s p x at =
    let n = names s p x (ap (λ (v : SwitchView). id_at v p) (alike.view s) ∙ at) in
    (n.0, n.1, subst (λ (plan : Plan). AreAdjacent plan s p n.0 n.1) alike.plan n.2, ap (λ (plan : Plan). slice_get plan.ids n.0) (sym alike.plan) ∙ n.3)

-- what is claimed of one link of a switch
abbrev HasToldLink : ControlPlane → ℕ → ℕ → SwitchId → SwitchId → Type 0
HasToldLink f s p id u = last_said (link_said u) (is_told_usable f.manager.told id u) (f.reports s) ≡ is_usable (f.view s) p

link_same : (f g : ControlPlane) → IsSameTo f g → (s p : ℕ) (id u : SwitchId) → HasToldLink f s p id u → HasToldLink g s p id u
link_same f g same s p id u told = rw (same.manager, same.reports s, same.view s) told

link_turn : (f g : ControlPlane) (s : ℕ) (input : SwitchInput) → IsPlan g.plan → NamesNeighbours g → SwitchTurns Loose f s input g →
    (x p t q : ℕ) (id u : SwitchId) → IsPair g.plan x p t q id u → HasToldLink f x p id u → HasToldLink g x p id u
link_turn f g s input is names turns x p t q id u pair before = elim (cases_eq x s) [
  | inl here ↦ at_home here
  | inr other ↦ rw (turns.acted.manager, turns.acted.other_reports x other, turns.acted.others x other) before
]
  where
    at_home : x ≡ s → HasToldLink g x p id u
    at_home here =
        let right = tells_right turns.ruled.choose (f.view s) input in
        let grown : g.reports x ≡ f.reports x ++ tells turns.acts = ap g.reports here ∙ turns.acted.reports ∙ ap (λ y. f.reports y ++ tells turns.acts) (sym here) in
        let acts = turns.ruled.steps.done in
        let view : g.view x ≡ (switch_step turns.ruled.choose (f.view s) input).view = ap g.view here ∙ turns.acted.here ∙ turns.ruled.steps.view in
        let size : (g.view x).k ≡ g.plan.k =
        ap (λ (v : SwitchView). v.k) (ap g.view here ∙ turns.acted.here) ∙ turns.accounted.k ∙ turns.size ∙ ap (λ (plan : Plan). plan.k) (sym turns.acted.plan) in
        rw (turns.acted.manager, grown)
        (last_append (link_said u) (is_told_usable f.manager.told id u) (f.reports x) (tells turns.acts)
        ∙ ap (λ y. last_said (link_said u) y (tells turns.acts)) (before ∙ ap (λ y. is_usable (f.view y) p) here)
        ∙ ap (λ a. last_said (link_said u) (is_usable (f.view s) p) (tells a)) acts
        ∙ right.links u p (subst (λ (v : SwitchView). IsOnlyAt v u p) view (only_at g is names x p t q id u pair size))
        ∙ ap (λ (v : SwitchView). is_usable v p) (sym view))

-- a switch hears that the manager began anew, which knows nothing
link_greeted : (f m g : ControlPlane) (s : ℕ) (says : ToSwitch) (epoch : ℕ) → IsOrderTaken f s says m → SwitchTurns Loose m s (Says says) g → says ≡ Hello epoch → IsUnheard f s →
    IsPlan g.plan → NamesNeighbours g → (p t q : ℕ) (id u : SwitchId) → IsPair g.plan s p t q id u → HasToldLink g s p id u
link_greeted f m g s says epoch taken turns greets so is names p t q id u pair =
    let v = m.view s in
    let step : turns.acts ≡ (hears_hello v epoch).acts = turns.ruled.steps.done ∙ ap (λ x. (switch_step turns.ruled.choose v (Says x)).acts) greets in
    let view : g.view s ≡ (hears_hello v epoch).view = turns.acted.here ∙ turns.ruled.steps.view ∙ ap (λ x. (switch_step turns.ruled.choose v (Says x)).view) greets in
    let words : g.reports s ≡ tells (hears_hello v epoch).acts =
    turns.acted.reports ∙ ap (λ q. q ++ tells turns.acts) (taken.reports s ∙ so.nothing) ∙ ap (λ a. tells a) step in
    let manager : g.manager ≡ f.manager = turns.acted.manager ∙ taken.left.manager in
    let size : (g.view s).k ≡ g.plan.k =
    ap (λ (w : SwitchView). w.k) turns.acted.here ∙ turns.accounted.k ∙ turns.size ∙ ap (λ (plan : Plan). plan.k) (sym turns.acted.plan) in
    let at = subst (λ (w : SwitchView). IsOnlyAt w u p) view (only_at g is names s p t q id u pair size) in
    ap (λ qs. last_said (link_said u) (is_told_usable g.manager.told id u) qs) words
    ∙ ap (λ (w : ManagerView). last_said (link_said u) (is_told_usable w.told id u) (tells (hears_hello v epoch).acts)) (manager ∙ so.anew)
    ∙ link_anew v epoch u p (record { within = at.within; only = at.only; named = at.named })
    ∙ sym (ap (λ (w : SwitchView). is_usable w p) view)

-- a step of the control plane
module _ (f g : ControlPlane) (is : IsPlan f.plan) (is_g : IsPlan g.plan) (names : NamesNeighbours g) (unheard_f : AreUnheard f) (told : HaveToldLinks f) where
  module _ (m : ControlPlane) (plan : m.plan ≡ f.plan) (view : (s : ℕ) → m.view s ≡ f.view s) (reports : (s : ℕ) → m.reports s ≡ f.reports s) (manager : m.manager ≡ f.manager)
      (s : ℕ) (input : SwitchInput) (turns : SwitchTurns Loose m s input g) where
    pair_before : (x p t q : ℕ) (id u : SwitchId) → IsPair g.plan x p t q id u → IsPair f.plan x p t q id u
    pair_before x p t q id u pair = subst (λ (y : Plan). IsPair y x p t q id u) (turns.acted.plan ∙ plan) pair

    link_acts : (x p t q : ℕ) (id u : SwitchId) → IsPair g.plan x p t q id u → HasToldLink f x p id u → HasToldLink g x p id u
    link_acts x p t q id u pair before =
        link_turn m g s input is_g names turns x p t q id u pair (link_same f m (record { plan = plan; view = view; reports = reports; manager = manager }) x p id u before)

    links_act : ((t : ℕ) → m.orders t ≡ f.orders t) → HaveToldLinks g
    links_act orders x p t q id u pair loud =
        link_acts x p t q id u pair (told x p t q id u (pair_before x p t q id u pair) (ap (list_any is_hello) (sym (turns.acted.orders x ∙ orders x)) ∙ loud))

  links_obey : (m : ControlPlane) (s : ℕ) (says : ToSwitch) → IsOrderTaken f s says m → SwitchTurns Loose m s (Says says) g → HaveToldLinks g
  links_obey m s says taken turns x p t q id u pair loud = elim (cases_Bool (is_silent f.orders x)) [
    | inr before ↦ link_acts m taken.left.plan taken.left.view taken.reports taken.left.manager s (Says says) turns x p t q id u pair (told x p t q id u pair_f before)
    | inl silent ↦ elim (cases_eq x s) [
      | inl here ↦
          let so = subst (λ y. IsUnheard f y) here (unheard_f x id pair_f.here silent) in
          subst (λ y. HasToldLink g y p id u) (sym here)
          (link_greeted f m g s says f.manager.epoch taken turns (first says (Hello f.manager.epoch) (m.orders s) [] (sym taken.first ∙ so.alone)) so is_g names p t q id u
          (subst (λ y. IsPair g.plan y p t q id u) here pair))
      | inr other ↦ absurd (false≢true (sym loud ∙ ap (list_any is_hello) (turns.acted.orders x ∙ taken.others x other) ∙ silent))
    ]
  ]
    where
      pair_f : IsPair f.plan x p t q id u
      pair_f = subst (λ (y : Plan). IsPair y x p t q id u) (turns.acted.plan ∙ taken.left.plan) pair

      first : (a b : ToSwitch) (xs ys : List ToSwitch) → a ∷ xs ≡ b ∷ ys → a ≡ b
      first a b xs ys same = cc same

  links_step : WholeStep Loose treats_one f g → HaveToldLinks g
  links_step step = by step.0 step.1
    where
      by : (step : PlaneStep Loose treats_one f g) → LosesNoWord Loose treats_one f g step → HaveToldLinks g
      by (Left left) kept = λ x p t q id u pair loud.
          link_same f g (record { plan = left.plan; view = left.view; reports = kept.reports; manager = left.manager }) x p id u
          (told x p t q id u (subst (λ (y : Plan). IsPair y x p t q id u) left.plan pair) (ap (list_any is_hello) (sym (kept.orders x)) ∙ loud))
      by (Ticked s turns) kept = links_act f refl (λ t. refl) (λ t. refl) refl s Tick turns (λ t. refl)
      by (Heard t q s port frame mid adjacent control taken turns) kept =
          links_act mid taken.left.plan taken.left.view taken.reports taken.left.manager s (Comes port frame) turns taken.orders
      by (Carried t q s port frame mid adjacent control carries taken turns) kept =
          links_act mid taken.left.plan taken.left.view taken.reports taken.left.manager s (Comes port frame) turns taken.orders
      by (Entered s port frame edge within free control turns) kept = links_act f refl (λ t. refl) (λ t. refl) refl s (Comes port frame) turns (λ t. refl)
      by (Ordered s says mid taken turns) kept = links_obey mid s says taken turns
      by (Managed s id word mid there named taken turns) kept = λ x p t q id_x u pair loud.
          let pair_f = subst (λ (y : Plan). IsPair y x p t q id_x u) (turns.plan ∙ taken.left.plan) pair in
          link_treated u f mid g s id word is named taken turns x id_x pair_f.here
          ∙ told x p t q id_x u pair_f (parts_loud [] f g (Treated s id word mid there named taken turns) x loud)
          ∙ sym (ap (λ (v : SwitchView). is_usable v p) (turns.view x ∙ taken.left.view x))

-- a step to what is due
pub due_links : (f g : ControlPlane) → IsPlan f.plan → IsPlan g.plan → NamesNeighbours g → AreUnheard f → HaveToldLinks f → DueStep Loose f g → HaveToldLinks g
due_links f g is is_g names unheard_f told (ManagedBy mids parts) x p t q id u pair loud =
    let alike = parts_alike mids f g parts in
    let pair_f = subst (λ (y : Plan). IsPair y x p t q id u) alike.plan pair in
    link_parts u mids f g is parts x id pair_f.here ∙ told x p t q id u pair_f (parts_loud mids f g parts x loud) ∙ sym (ap (λ (v : SwitchView). is_usable v p) (alike.view x))
due_links f g is is_g names unheard_f told (Stepped between step sifted) x p t q id u pair loud =
    let alike = sifted.alike in
    let before : is_silent between.orders x ≡ false = ap (list_any is_hello) (sym (sifted.orders x)) ∙ loud in
    let links = links_step f between is (subst IsPlan alike.plan is_g) (names_alike between g alike names) unheard_f told step in
    link_sifted u between g sifted x id before
    ∙ links x p t q id u (subst (λ (y : Plan). IsPair y x p t q id u) alike.plan pair) before
    ∙ sym (ap (λ (v : SwitchView). is_usable v p) (alike.view x))

-- At the beginning nothing was heard.

unusable : (ids : List SwitchId) (k s p : ℕ) → is_usable (get_or (map (λ id. switch_at_boot id k) ids) s no_switch) p ≡ false
unusable [] k s p = unheard no_switch p refl
unusable (id ∷ ids) k zero p = unheard (switch_at_boot id k) p (ap (λ (r : PortRecord). heard_id r.heard) (replicated k p new_port))
unusable (id ∷ ids) k (suc s) p = unusable ids k s p

pub links_at_first : (plan : Plan) (limits : Limits) → HaveToldLinks (due_plane (control_plane (booted plan limits)))
links_at_first plan limits s p t q id u pair loud =
    ap (last_said (link_said u) _) (whole_due (control_plane (booted plan limits)) refl s id pair.here ∙ ap words_of (replicated (switch_count plan.k) s []))
    ∙ sym (unusable plan.ids plan.k s p)

pub links_at_rest : (f : ControlPlane) → IsPlan f.plan → GathersWell f → HaveToldLinks (due_plane f) → NoReportWaits f → LinksAreCurrent f
links_at_rest f is well told rest s p t q id u pair =
    let due = due_rests f is well rest s id pair.here in
    sym (last_silent (link_said u) _ ((due_plane f).reports s) (silent_link u ((due_plane f).reports s) due.reports)) ∙ told s p t q id u pair due.loud

-- after a restart no switch is heard
pub restart_links : (f g : ControlPlane) → IsPlan f.plan → Restarts f g → HaveToldLinks g
restart_links f g is restarts s p t q id u pair loud = absurd (none_loud f g is restarts s id pair.here loud)
