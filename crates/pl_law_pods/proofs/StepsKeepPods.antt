-- Each step of the control plane keeps the numbers that were given.
use Rattle.std.proofs.Common.{◌≡◌, ◌<◌, ℕ, ◌+◌, ◌==◌, ◌&&◌, ◌||◌, ◌%◌, not, nat_lt, eqb-true, Bool, true, false, true≢false, if◌then◌else◌, [], Option, Some, None, is_none, Result, Ok, Err, refl, sym, ◌∙◌, ap, subst, arith, inl, inr, ◌⊎◌}
use Rattle.std.proofs.lemmas.Bool.{and_parts, cases_lt, cond_both}
use Rattle.pl_lemmas.proofs.Exports.{is_none_is}
use Rattle.pl_frame.specs.declared.address.SwitchId.{SwitchId}
use Rattle.pl_wiring.specs.declared.label.Label.{Label}
use Rattle.pl_wiring.specs.declared.label.Label.TheVariants.{Aggregation, Core, Edge}
use Rattle.pl_wiring.specs.FatTree.{IsBelow}
use Rattle.pl_wiring.specs.Labels.{edge_count, label_of, switch_count}
use Rattle.pl_wiring.specs.Plan.{IsPlan}
use Rattle.pl_wiring.proofs.Exports.{label_of-aggregation, label_of-core}
use Rattle.pl_layouts.specs.declared.control.Control.{Control}
use Rattle.pl_layouts.specs.declared.control.Control.TheVariants.{Ldm, Proposal, Vote}
use Rattle.pl_layouts.specs.declared.control.ControlError.{ControlError}
use Rattle.pl_layouts.specs.declared.control.Ldm.{Ldm as Message}
use Rattle.pl_layouts.specs.declared.control.Proposal.{Proposal as Proposed}
use Rattle.pl_layouts.specs.declared.control.Vote.{Vote as Answer}
use Rattle.pl_layouts.specs.declared.place.Place.{Place}
use Rattle.pl_layouts.specs.Placement.{is_known}
use Rattle.pl_layouts.specs.Votes.{counts, gives_way}
use Rattle.pl_layouts.proofs.Exports.{known_is}
use Rattle.pl_node.specs.SwitchViews.{SwitchView}
use Rattle.pl_steps.specs.Steps.{SwitchStep, rests}
use Rattle.pl_switch_rule.specs.Levels.{after_message, changes_to, hears_message, learns_level, learns_pod, notes_edge, share_a_pod, with_message, with_pod}
use Rattle.pl_switch_rule.specs.Messages.{hears_pod, takes_pod}
use Rattle.pl_switch_rule.specs.Positions.{after_vote, counted, fixes_position, frees_others, half, hears_proposal, marks, notes_position, with_granted}
use Rattle.pl_switch_rule.specs.SwitchRule.{hears_control}
use Rattle.pl_law_control_plane.specs.ControlPlanes.{AreAdjacent, ControlPlane}
use Rattle.pl_law_control_plane.proofs.Exports.{adjacent_labels}
use Rattle.pl_law_places.specs.Known.{IsZeroOf, pod_of}
use Rattle.pl_law_places.specs.Places.{ArePlaced}
use Rattle.pl_law_votes.specs.Voting.{FixedAreApart}
use Rattle.pl_switch_rule.proofs.Exports.{proposal_holds}
use Rattle.pl_law_votes.proofs.Exports.{changes, LeavesVotesAndPlace, same_stance, Stance}
use Rattle.pl_journal.specs.Flights.{label_level}
use Rattle.pl_journal.proofs.Exports.{edge_of}

-- Labels.

-- an edge switch by its label is there
pub edge_there : (k z pod i : ℕ) → label_of k z ≡ Edge pod i → z < switch_count k
edge_there k z pod i edge = elim (cases_lt z (edge_count k)) [
  | inl low ↦ omega (arith, low)
  | inr high ↦ elim (cases_lt z (edge_count k + edge_count k)) [
    | inl low ↦ let other = label_of-aggregation k z high low in absurd (cc (edge, other))
    | inr higher ↦ let other = label_of-core k z higher in absurd (cc (edge, other))
  ]
]

-- an edge and an aggregation switch that are joined are of one pod
one_pod : (s t : Label) (pod i : ℕ) → s ≡ Edge pod i → 1 ≡ label_level t → IsBelow s t ⊎ IsBelow t s → pod_of t ≡ Some pod
one_pod s (Aggregation other j) pod i is level (inl below) = let same : pod ≡ other = subst (λ (x : Label). IsBelow x (Aggregation other j)) is below in ap Some (sym same)
one_pod s (Aggregation other j) pod i is level (inr below) = absurd (subst (λ (x : Label). IsBelow (Aggregation other j) x) is below)
one_pod s (Edge other j) pod i is level adjacent = absurd (omega (arith, level))
one_pod s (Core other j) pod i is level adjacent = absurd (omega (arith, level))

module _ (f : ControlPlane) (is : IsPlan f.plan) (placed : ArePlaced f.plan f) (apart : FixedAreApart f.plan f.view) where
  -- a switch with a position has level 0, and is an edge switch
  pub level_zero : (s x : ℕ) → (f.view s).place.position ≡ Some x → (f.view s).place.level ≡ Some 0
  level_zero s x position = ((placed.own s).position x position).0

  pub edge_label : (s : ℕ) → (f.view s).place.level ≡ Some 0 → (pod : ℕ) × (i : ℕ) × (label_of f.plan.k s ≡ Edge pod i)
  edge_label s level = edge_of (label_of f.plan.k s) ((placed.own s).level 0 level)

  -- the edge switch of position 0 is the only one that knows the pod as its own
  zero_itself : (s z n : ℕ) (pod i : ℕ) → label_of f.plan.k s ≡ Edge pod i → (f.view s).place.position ≡ Some 0 → (place : ℕ) → pod_of (label_of f.plan.k place) ≡ Some pod →
      IsZeroOf f.plan.k f.view place n z → (f.view s).place.pod ≡ Some n
  zero_itself s z n pod i label position place of lowest =
      let same_pod : lowest.pod ≡ pod = cc (lowest.of_pod, of) in
      let edge = subst (λ p. label_of f.plan.k z ≡ Edge p lowest.i) same_pod lowest.edge in
      let same = apart pod i lowest.i 0 s z label edge position lowest.position in
      subst (λ x. (f.view x).place.pod ≡ Some n) (sym same) lowest.number

  -- so an edge switch of position 0 without a pod is told none
  pub never_told : (t q s port n : ℕ) → AreAdjacent f.plan t q s port → (f.view s).place.position ≡ Some 0 → (f.view s).place.pod ≡ None →
      (f.view t).place.level ≡ Some 1 → (f.view t).place.pod ≡ Some n → ⊥
  never_told t q s port n adjacent position none level pod =
      let edge = edge_label s (level_zero s 0 position) in
      let of = one_pod (label_of f.plan.k s) (label_of f.plan.k t) edge.0 edge.1 edge.2 ((placed.own t).level 1 level) (turned (adjacent_labels f.plan t q s port is adjacent)) in
      let lowest = placed.pods t n pod in
      let some = zero_itself s lowest.0 n edge.0 edge.1 edge.2 position t of lowest.1 in
      absurd (cc (none, some))
    where
      turned : IsBelow (label_of f.plan.k t) (label_of f.plan.k s) ⊎ IsBelow (label_of f.plan.k s) (label_of f.plan.k t) →
          IsBelow (label_of f.plan.k s) (label_of f.plan.k t) ⊎ IsBelow (label_of f.plan.k t) (label_of f.plan.k s)
      turned (inl b) = inr b
      turned (inr b) = inl b

-- What a switch may know after a step: an edge switch of position 0 that knew its pod still knows it; one that did not know it was told it by
-- the manager or by a neighbour; and another one knew its pod before it got position 0.
pub data KnowsBy (old : Place) (told : ℕ → Type 0) (n : ℕ) : Type 0 where
  Kept : old.position ≡ Some 0 → old.pod ≡ Some n → KnowsBy old told n
  WasTold : old.position ≡ Some 0 → old.pod ≡ None → told n → KnowsBy old told n
  Became : old.level ≡ Some 0 → old.position ≡ None → old.pod ≡ Some n → KnowsBy old told n

abbrev pub Knows : Place → Place → (ℕ → Type 0) → Type 0
Knows old new told = (n : ℕ) → new.position ≡ Some 0 → new.pod ≡ Some n → KnowsBy old told n

module _ (v : SwitchView) (own : (x : ℕ) → v.place.position ≡ Some x → v.place.level ≡ Some 0) (told : ℕ → Type 0) where
  pub knows_same : (new : Place) → new ≡ v.place → Knows v.place new told
  knows_same new same n position pod = Kept (ap (λ p. p.position) (sym same) ∙ position) (ap (λ p. p.pod) (sym same) ∙ pod)

  pub knows_aside : (s : SwitchStep) → LeavesVotesAndPlace v s → Knows v.place s.view.place told
  knows_aside s aside n position pod =
      let stays : v.place.position ≡ Some 0 = ap (λ (x : Stance). x.position) (sym aside.same) ∙ position in
      knows_same s.view.place (aside.stays_placed (own 0 stays)) n position pod

proposal_place : (v : SwitchView) (port : ℕ) (id : SwitchId) (p : Proposed) → (hears_proposal v port id p).view.place ≡ v.place
proposal_place v port id p = ap (λ (w : SwitchView). w.place) (proposal_holds v port id p)

-- A message.

noted_place : (v : SwitchView) (id : SwitchId) (told : Place) → (notes_edge v id told).place ≡ v.place
noted_place v id told =
    cond_both (is_known v.place.level 1 && is_known told.level 0) (notes_position v id told.position) v (λ (u : SwitchView). u.place ≡ v.place)
    (λ h. noted told.position) (λ h. refl)
  where
    noted : (position : Option ℕ) → (notes_position v id position).place ≡ v.place
    noted None = refl
    noted (Some p) = cond_both (nat_lt p (half v.k)) (marks (frees_others v id p) id p) v (λ (u : SwitchView). u.place ≡ v.place) (λ h. refl) (λ h. refl)

-- the place of an edge switch that heard a place
edge_heard : (v : SwitchView) (port : ℕ) (id : SwitchId) (m : Message) → v.place.level ≡ Some 0 →
    (after_message v port id m).place
    ≡ record { level = Some 0; position = v.place.position; pod = if is_none v.place.pod && share_a_pod (Some 0) m.place.level then m.place.pod else v.place.pod }
edge_heard v port id m level =
    noted_place (learns_pod (learns_level (with_message v port id m) m.place) m.place) id m.place
    ∙ ap (λ (l : Option ℕ). (learns_pod (learns_level (record (with_message v port id m) { place = record v.place { level = l } }) m.place) m.place).place) level

known_one : (o : Option ℕ) → share_a_pod (Some 0) o ≡ true → o ≡ Some 1
known_one None h = absurd (cc h)
known_one (Some x) h = by (x == 1) refl h
  where
    by : (b : Bool) → (x == 1) ≡ b → (b || false) ≡ true → Some x ≡ Some 1
    by true is h = ap Some (eqb-true x 1 is)
    by false is h = absurd (true≢false (sym h))

abbrev pub TellsPod : Result Control ControlError → ℕ → Type 0
TellsPod (Ok (Ldm id m)) n = (m.place.level ≡ Some 1) × (m.place.pod ≡ Some n)
TellsPod read n = ⊥

known_by : (old : Place) (m : Message) (n : ℕ) → old.position ≡ Some 0 → (known : Option ℕ) → old.pod ≡ known →
    (if is_none known && share_a_pod (Some 0) m.place.level then m.place.pod else known) ≡ Some n →
    KnowsBy old (λ x. (m.place.level ≡ Some 1) × (m.place.pod ≡ Some x)) n
known_by old m n position (Some x) is now = Kept position (is ∙ now)
known_by old m n position None is now = by (share_a_pod (Some 0) m.place.level) refl now
  where
    by : (b : Bool) → share_a_pod (Some 0) m.place.level ≡ b → (if b then m.place.pod else None) ≡ Some n →
        KnowsBy old (λ x. (m.place.level ≡ Some 1) × (m.place.pod ≡ Some x)) n
    by true shares now = WasTold position is (known_one m.place.level shares, now)
    by false shares now = absurd (cc now)

knows_message : (v : SwitchView) → ((x : ℕ) → v.place.position ≡ Some x → v.place.level ≡ Some 0) → (port : ℕ) (id : SwitchId) (m : Message) →
    Knows v.place (hears_message v port id m).view.place (λ n. (m.place.level ≡ Some 1) × (m.place.pod ≡ Some n))
knows_message v own port id m n position pod =
    let new = after_message v port id m in
    let c = changes v new in
    let stays : v.place.position ≡ Some 0 = ap (λ (x : Stance). x.position) (sym (c.same ∙ same_stance v port id m)) ∙ position in
    let heard = edge_heard v port id m (own 0 stays) in
    let place = c.stays_placed (ap (λ p. p.level) heard) ∙ heard in
    known_by v.place m n stays v.place.pod refl (ap (λ p. p.pod) (sym place) ∙ pod)

-- A vote.

vote_leaves : (v : SwitchView) (port : ℕ) (vote : Answer) → ((after_vote v port vote).place.level ≡ v.place.level) × ((after_vote v port vote).place.pod ≡ v.place.pod)
vote_leaves v port vote = by (counts v.place v.attempt v.proposed vote) vote.granted (gives_way v.id vote) (v.attempt == 4294967295)
  where
    by : (a b c d : Bool) →
        ((if◌then◌else◌ {A = SwitchView} a (if b then fixes_position (with_granted v port) else if c then (if d then v else record v { attempt = v.attempt + 1; proposed = (v.proposed + 1) % half v.k; granted = [] }) else v) v).place.level ≡ v.place.level)
        × ((if◌then◌else◌ {A = SwitchView} a (if b then fixes_position (with_granted v port) else if c then (if d then v else record v { attempt = v.attempt + 1; proposed = (v.proposed + 1) % half v.k; granted = [] }) else v) v).place.pod ≡ v.place.pod)
    by false b c d = (refl, refl)
    by true true c d = (refl, refl)
    by true false false d = (refl, refl)
    by true false true true = (refl, refl)
    by true false true false = (refl, refl)

vote_fixes : (v : SwitchView) (port : ℕ) (vote : Answer) → (after_vote v port vote).place.position ≡ Some 0 →
    (v.place.position ≡ Some 0) ⊎ ((v.place.level ≡ Some 0) × (v.place.position ≡ None))
vote_fixes v port vote = by (counts v.place v.attempt v.proposed vote) refl
  where
    by : (b : Bool) → counts v.place v.attempt v.proposed vote ≡ b → (if◌then◌else◌ {A = SwitchView} b (counted v port vote) v).place.position ≡ Some 0 →
        (v.place.position ≡ Some 0) ⊎ ((v.place.level ≡ Some 0) × (v.place.position ≡ None))
    by false is position = inl position
    by true is position =
        let a = and_parts (is_known v.place.level 0 && is_none v.place.position && (vote.attempt == v.attempt)) (vote.position == v.proposed) is in
        let b = and_parts (is_known v.place.level 0 && is_none v.place.position) (vote.attempt == v.attempt) a.0 in
        let c = and_parts (is_known v.place.level 0) (is_none v.place.position) b.0 in
        inr (known_is v.place.level 0 c.0, is_none_is v.place.position c.1)

knows_vote : (v : SwitchView) → ((x : ℕ) → v.place.position ≡ Some x → v.place.level ≡ Some 0) → (told : ℕ → Type 0) (port : ℕ) (vote : Answer) →
    Knows v.place (changes_to v (after_vote v port vote)).view.place told
knows_vote v own told port vote n position pod =
    let new = after_vote v port vote in
    let c = changes v new in
    let leaves = vote_leaves v port vote in
    by (vote_fixes v port vote (ap (λ (x : Stance). x.position) (sym c.same) ∙ position))
    (λ level. sym leaves.1 ∙ ap (λ p. p.pod) (sym (c.stays_placed (leaves.0 ∙ level))) ∙ pod)
  where
    by : (v.place.position ≡ Some 0) ⊎ ((v.place.level ≡ Some 0) × (v.place.position ≡ None)) → (v.place.level ≡ Some 0 → v.place.pod ≡ Some n) →
        KnowsBy v.place told n
    by (inl position) pods = Kept position (pods (own 0 position))
    by (inr both) pods = Became both.0 both.1 (pods both.0)

-- The manager.

pub knows_pod : (v : SwitchView) → ((x : ℕ) → v.place.position ≡ Some x → v.place.level ≡ Some 0) → (given : ℕ) →
    Knows v.place (hears_pod v given).view.place (λ n. given ≡ n)
knows_pod v own given = by (takes_pod v given) refl
  where
    by : (b : Bool) → takes_pod v given ≡ b →
        Knows v.place (if◌then◌else◌ {A = SwitchStep} b (changes_to v (with_pod v (Some given))) (rests v)).view.place (λ n. given ≡ n)
    by false is n position pod = Kept position pod
    by true is n position pod =
        let a = and_parts (is_known v.place.level 0 && is_known v.place.position 0 && is_none v.place.pod) (not (given == 65535)) is in
        let b = and_parts (is_known v.place.level 0 && is_known v.place.position 0) (is_none v.place.pod) a.0 in
        let c = and_parts (is_known v.place.level 0) (is_known v.place.position 0) b.0 in
        let stays_placed = (changes v (with_pod v (Some given))).stays_placed (known_is v.place.level 0 c.0) in
        let same : Some given ≡ Some n = ap (λ p. p.pod) (sym stays_placed) ∙ pod in
        WasTold (known_is v.place.position 0 c.1) (is_none_is v.place.pod b.1) (cc same)

-- what is heard at a port
pub knows_heard : (v : SwitchView) → ((x : ℕ) → v.place.position ≡ Some x → v.place.level ≡ Some 0) → (port : ℕ) (read : Result Control ControlError) (host : Bool) →
    Knows v.place (if◌then◌else◌ {A = SwitchStep} host (rests v) (hears_control v port read)).view.place (TellsPod read)
knows_heard v own port read true = knows_same v own (TellsPod read) v.place refl
knows_heard v own port (Err e) false = knows_same v own (TellsPod (Err e)) v.place refl
knows_heard v own port (Ok (Ldm id m)) false = knows_message v own port id m
knows_heard v own port (Ok (Proposal id p)) false =
    knows_same v own (TellsPod (Ok (Proposal id p))) (hears_proposal v port id p).view.place (proposal_place v port id p)
knows_heard v own port (Ok (Vote id vote)) false = knows_vote v own (TellsPod (Ok (Vote id vote))) port vote
