-- Each step of the control plane keeps the votes in order.
use Rattle.std.proofs.Common.{◌≡◌, ℕ, ◌<◌, Bool, true, false, if◌then◌else◌, List, [], ◌++◌, Option, refl, sym, ◌∙◌, ap, subst, subst₂, inl, inr}
use Rattle.std.specs.List.{AllByRecursion}
use Rattle.std.proofs.lemmas.Bool.{cases_eq}
use Rattle.pl_lemmas.proofs.Exports.{all_append, all_behind, all_front}
use Rattle.pl_frame.specs.declared.address.SwitchId.{SwitchId}
use Rattle.pl_frame.specs.Ethernet.{payload_of}
use Rattle.pl_layouts.specs.declared.control.Control.{Control}
use Rattle.pl_layouts.specs.Control.{control_in, is_control, sender_of}
use Rattle.pl_ldp.specs.Writable.{IsWritableId, IsWritableControl}
use Rattle.pl_wiring.specs.declared.label.Label.TheVariants.{Aggregation, Edge}
use Rattle.pl_wiring.specs.Labels.{IsLabel, switch_count}
use Rattle.pl_wiring.specs.Plan.{IsPlan, Plan}
use Rattle.pl_node.specs.declared.acts.Act.{Act}
use Rattle.pl_node.specs.declared.switch_records.Hold.{Hold}
use Rattle.pl_node.specs.ManagerDuties.{ManagerRule}
use Rattle.pl_node.specs.SwitchFacts.{hold_at}
use Rattle.pl_node.specs.SwitchInputs.{SwitchInput}
use Rattle.pl_node.specs.SwitchInputs.SwitchInput.{Comes, Says, Tick}
use Rattle.pl_node.specs.SwitchViews.{SwitchView}
use Rattle.pl_node.specs.PortRecords.{port_of}
use Rattle.pl_steps.specs.Steps.{SwitchStep, rests}
use Rattle.pl_switch_rule.specs.SwitchRule.{Loose, control_comes, data_comes, hears_control, switch_step}
use Rattle.pl_law_control_plane.specs.ControlPlanes.{AreAdjacent, ControlPlane, message_in, messages_of, sends, unless}
use Rattle.pl_law_control_plane.specs.PlaneSteps.{IsActed, MessageIsTaken, LeftOver, PlaneStep, SwitchTurns}
use Rattle.pl_law_control_plane.specs.PlaneSteps.PlaneStep.{Carried, Entered, Heard, Left, Managed, Ordered, Ticked}
use Rattle.pl_law_control_plane.specs.Restarts.{OnPlane}
use Rattle.pl_law_control_plane.specs.Restarts.OnPlane.{BeginsAnew, Steps}
use Rattle.pl_law_votes.specs.Counting.{IsCounting, LeadsToAggregation}
use Rattle.pl_law_votes.specs.Pairs.{IsGoodPair, Voter, voter_of}
use Rattle.pl_law_votes.specs.Voting.{CanTell, IsVoting, aggregation_no, edge_no}
use Rattle.pl_law_votes.proofs.AggregationTurns.{HoldsIds}
use Rattle.pl_law_votes.proofs.Aside.{aside_data, votes_left, manager_leaves_votes}
use Rattle.pl_law_votes.proofs.Hearing.{AreOf, IsHearing, IsTurn, drop_down, drop_up, hearing, turn_aside, turn_tick}
use Rattle.pl_law_votes.proofs.Majority.{one_port_to}
use Rattle.pl_law_votes.proofs.Messages.{told_says}
use Rattle.pl_law_votes.proofs.Wired.{id_fits, ids_differ, is_there, leads_up, levels_apart, same_end, turned}

-- a pair, by what it is made of
moved : (e E : Voter) (h H : ℕ → Option Hold) (u U d D : List Control) → E ≡ e → H ≡ h → U ≡ u → D ≡ d → IsGoodPair e h u d → IsGoodPair E H U D
moved e E h H u U d D same_e same_h same_u same_d g =
    subst (λ x. IsGoodPair x H U D) (sym same_e)
    (subst (λ x. IsGoodPair e x U D) (sym same_h) (subst (λ x. IsGoodPair e h x D) (sym same_u) (subst (λ x. IsGoodPair e h u x) (sym same_d) g)))

all_unless : {X : Type 0} (P : X → Type 0) (failed : Bool) (xs : List X) → AllByRecursion P xs → AllByRecursion P (unless failed xs)
all_unless P true xs all = tt
all_unless P false xs all = all

module _ (plan : Plan) (is : IsPlan plan) where
  -- items leave queues
  left_votes : (f g : ControlPlane) → ((s : ℕ) → g.view s ≡ f.view s) → ((s port : ℕ) → LeftOver (f.says s port) (g.says s port)) →
      IsVoting plan f.view f.says → IsVoting plan g.view g.says
  left_votes f g same_view left v = record {
    ids = λ s. ap (λ (x : SwitchView). x.id) (same_view s) ∙ v.ids s;
    named = λ s port.
        let queue = left s port in
        subst (λ (x : SwitchView). AreOf x.id (g.says s port)) (sym (same_view s))
        (all_behind (λ c. sender_of c ≡ (f.view s).id) queue.gone (g.says s port) (subst (AreOf (f.view s).id) queue.split (v.named s port)));
    holders = λ s q hold same. v.holders s q hold (ap (λ (x : SwitchView). hold_at x q) (sym (same_view s)) ∙ same);
    pairs = λ pod i j p q edge aggregation adjacent.
        let e = edge_no plan.k pod i in let a = aggregation_no plan.k pod j in
        let up = left e p in let down = left a q in
        let before = subst₂ (λ x y. IsGoodPair (voter_of (f.view e) p) (hold_at (f.view a)) x y) up.split down.split (v.pairs pod i j p q edge aggregation adjacent) in
        moved (voter_of (f.view e) p) (voter_of (g.view e) p) (hold_at (f.view a)) (hold_at (g.view a)) (g.says e p) (g.says e p) (g.says a q) (g.says a q)
        (ap (λ (x : SwitchView). voter_of x p) (same_view e)) (ap (λ (x : SwitchView). hold_at x) (same_view a)) refl refl
        (drop_down (voter_of (f.view e) p) (hold_at (f.view a)) (g.says e p) down.gone (g.says a q)
        (drop_up (voter_of (f.view e) p) (hold_at (f.view a)) up.gone (g.says e p) (down.gone ++ g.says a q) before));
    counting = λ pod i edge.
        let e = edge_no plan.k pod i in subst (λ (x : SwitchView). IsCounting plan pod e x) (sym (same_view e)) (v.counting pod i edge);
  }

  -- what the acts of a switch are to the votes that it has a part in
  record Acts (m : ControlPlane) (s : ℕ) (after : SwitchView) (failed : ℕ → Bool) (acts : List Act) : Type 0 where
    at_edge : (pod i j p q : ℕ) → IsLabel plan.k (Edge pod i) → IsLabel plan.k (Aggregation pod j) → edge_no plan.k pod i ≡ s →
        AreAdjacent plan s p (aggregation_no plan.k pod j) q →
        IsGoodPair (voter_of after p) (hold_at (m.view (aggregation_no plan.k pod j))) (m.says s p ++ unless (failed p) (sends p acts)) (m.says (aggregation_no plan.k pod j) q)
    at_aggregation : (pod i j p q : ℕ) → IsLabel plan.k (Edge pod i) → IsLabel plan.k (Aggregation pod j) → aggregation_no plan.k pod j ≡ s →
        AreAdjacent plan (edge_no plan.k pod i) p s q →
        IsGoodPair (voter_of (m.view (edge_no plan.k pod i)) p) (hold_at after) (m.says (edge_no plan.k pod i) p) (m.says s q ++ unless (failed q) (sends q acts))
    named : (port : ℕ) → AreOf (m.view s).id (sends port acts)
    ids : HoldsIds after
    counting : (pod i : ℕ) → IsLabel plan.k (Edge pod i) → edge_no plan.k pod i ≡ s → IsCounting plan pod s after

  acted_votes : (m g : ControlPlane) (s : ℕ) (after : SwitchView) (failed : ℕ → Bool) (acts : List Act) → IsVoting plan m.view m.says → after.id ≡ (m.view s).id →
      IsActed m s after failed acts g → Acts m s after failed acts → IsVoting plan g.view g.says
  acted_votes m g s after failed acts v same_id acted done = record {
    ids = λ x. id_stays x ∙ v.ids x;
    named = λ x port. subst (λ id. AreOf id (g.says x port)) (sym (id_stays x)) (elim (cases_eq x s) [
      | inl here ↦ subst (λ y. AreOf (m.view y).id (g.says y port)) (sym here)
          (subst (AreOf (m.view s).id) (sym (acted.says port))
          (all_append (λ c. sender_of c ≡ (m.view s).id) (m.says s port) (unless (failed port) (sends port acts)) (v.named s port)
          (all_unless (λ c. sender_of c ≡ (m.view s).id) (failed port) (sends port acts) (done.named port))))
      | inr other ↦ subst (AreOf (m.view x).id) (sym (acted.other_says x port other)) (v.named x port)
    ]);
    holders = λ x q hold same. elim (cases_eq x s) [
      | inl here ↦ done.ids q hold (ap (λ (w : SwitchView). hold_at w q) (sym acted.here) ∙ ap (λ y. hold_at (g.view y) q) (sym here) ∙ same)
      | inr other ↦ v.holders x q hold (ap (λ (w : SwitchView). hold_at w q) (sym (acted.others x other)) ∙ same)
    ];
    pairs = λ pod i j p q edge aggregation adjacent.
        let e = edge_no plan.k pod i in let a = aggregation_no plan.k pod j in
        elim (cases_eq e s) [
          | inl here ↦
              let other : a ≡ s → ⊥ = λ same. levels_apart plan is pod i pod j edge (same ∙ sym here) in
              moved (voter_of after p) (voter_of (g.view e) p) (hold_at (m.view a)) (hold_at (g.view a))
              (m.says s p ++ unless (failed p) (sends p acts)) (g.says e p) (m.says a q) (g.says a q)
              (ap (λ y. voter_of (g.view y) p) here ∙ ap (λ (w : SwitchView). voter_of w p) acted.here) (ap (λ (w : SwitchView). hold_at w) (acted.others a other))
              (ap (λ y. g.says y p) here ∙ acted.says p) (acted.other_says a q other)
              (done.at_edge pod i j p q edge aggregation here (subst (λ y. AreAdjacent plan y p a q) here adjacent))
          | inr other ↦ elim (cases_eq a s) [
            | inl here ↦
                moved (voter_of (m.view e) p) (voter_of (g.view e) p) (hold_at after) (hold_at (g.view a))
                (m.says e p) (g.says e p) (m.says s q ++ unless (failed q) (sends q acts)) (g.says a q)
                (ap (λ (w : SwitchView). voter_of w p) (acted.others e other)) (ap (λ y. hold_at (g.view y)) here ∙ ap (λ (w : SwitchView). hold_at w) acted.here)
                (acted.other_says e p other) (ap (λ y. g.says y q) here ∙ acted.says q)
                (done.at_aggregation pod i j p q edge aggregation here (subst (λ y. AreAdjacent plan e p y q) here adjacent))
            | inr also ↦
                moved (voter_of (m.view e) p) (voter_of (g.view e) p) (hold_at (m.view a)) (hold_at (g.view a)) (m.says e p) (g.says e p) (m.says a q) (g.says a q)
                (ap (λ (w : SwitchView). voter_of w p) (acted.others e other)) (ap (λ (w : SwitchView). hold_at w) (acted.others a also))
                (acted.other_says e p other) (acted.other_says a q also) (v.pairs pod i j p q edge aggregation adjacent)
          ]
        ];
    counting = λ pod i edge.
        let e = edge_no plan.k pod i in
        elim (cases_eq e s) [
          | inl here ↦ subst (λ y. IsCounting plan pod y (g.view y)) (sym here)
              (subst (λ (w : SwitchView). IsCounting plan pod s w) (sym acted.here) (done.counting pod i edge here))
          | inr other ↦ subst (λ (w : SwitchView). IsCounting plan pod e w) (sym (acted.others e other)) (v.counting pod i edge)
        ];
  }
    where
      id_stays : (x : ℕ) → (g.view x).id ≡ (m.view x).id
      id_stays x = elim (cases_eq x s) [
        | inl here ↦ ap (λ y. (g.view y).id) here ∙ ap (λ (w : SwitchView). w.id) acted.here ∙ same_id ∙ ap (λ y. (m.view y).id) (sym here)
        | inr other ↦ ap (λ (w : SwitchView). w.id) (acted.others x other)
      ]

  -- a step in which no message is heard
  turn_acts : (m : ControlPlane) (s : ℕ) (st : SwitchStep) (failed : ℕ → Bool) → IsVoting plan m.view m.says → IsTurn (m.view s) st →
      Acts m s st.view failed st.acts
  turn_acts m s st failed v turn = record {
    at_edge = λ pod i j p q edge aggregation here adjacent.
        let e = edge_no plan.k pod i in let a = aggregation_no plan.k pod j in
        turn.edge p (hold_at (m.view a)) (m.says s p) (m.says a q) (failed p)
        (subst (λ y. IsGoodPair (voter_of (m.view y) p) (hold_at (m.view a)) (m.says y p) (m.says a q)) here
        (v.pairs pod i j p q edge aggregation (subst (λ y. AreAdjacent plan y p a q) (sym here) adjacent)));
    at_aggregation = λ pod i j p q edge aggregation here adjacent.
        let e = edge_no plan.k pod i in let a = aggregation_no plan.k pod j in
        turn.aggregation (voter_of (m.view e) p) q (m.says e p) (m.says s q) (failed q)
        (subst (λ y. IsGoodPair (voter_of (m.view e) p) (hold_at (m.view y)) (m.says e p) (m.says y q)) here
        (v.pairs pod i j p q edge aggregation (subst (λ y. AreAdjacent plan e p y q) (sym here) adjacent)));
    named = turn.named;
    ids = turn.ids (v.holders s);
    counting = λ pod i edge here. turn.counting plan pod s (subst (λ y. IsCounting plan pod y (m.view y)) here (v.counting pod i edge));
  }

  turn_votes : (m g : ControlPlane) (s : ℕ) (input : SwitchInput) → IsVoting plan m.view m.says → (turns : SwitchTurns Loose m s input g) →
      IsTurn (m.view s) (switch_step turns.ruled.choose (m.view s) input) → IsVoting plan g.view g.says
  turn_votes m g s input v turns turn =
      let st = switch_step turns.ruled.choose (m.view s) input in
      let steps = turns.ruled.steps in
      acted_votes m g s st.view turns.failed st.acts v (ap (λ (w : SwitchView). w.id) (sym steps.view) ∙ turns.accounted.id)
      (subst₂ (λ w acts. IsActed m s w turns.failed acts g) steps.view steps.done turns.acted) (turn_acts m s st turns.failed v turn)

  -- messages of a neighbour are heard
  hearing_acts : (f m : ControlPlane) (t q s port : ℕ) (first : List Control) (st : SwitchStep) (failed : ℕ → Bool) → IsVoting plan f.view f.says →
      IsVoting plan m.view m.says → MessageIsTaken f t q first m → AreAdjacent plan t q s port → (m.view s).k ≡ plan.k →
      IsHearing (m.view s) port (m.view t).id first st → Acts m s st.view failed st.acts
  hearing_acts f m t q s port first st failed v w taken adjacent size h = record {
    at_edge = λ pod i j p b edge aggregation here joins.
        let e = edge_no plan.k pod i in let a = aggregation_no plan.k pod j in
        let joins_e = subst (λ y. AreAdjacent plan y p a b) (sym here) joins in
        elim (cases_eq port p) [
          | inr differ ↦ h.edge_there p (hold_at (m.view a)) (m.says s p) (m.says a b) (failed p) differ
              (subst (λ y. IsGoodPair (voter_of (m.view y) p) (hold_at (m.view a)) (m.says y p) (m.says a b)) here (w.pairs pod i j p b edge aggregation joins_e))
          | inl same ↦
              let ends = same_end plan is s port t q a b back (subst (λ x. AreAdjacent plan s x a b) (sym same) joins) in
              let other : (s ≡ t) × (p ≡ q) → ⊥ = λ both. levels_apart plan is pod i pod j edge (sym ends.0 ∙ sym both.0 ∙ sym here) in
              (subst (λ x. IsHearing (m.view s) x (m.view t).id first st) same h).edge_here (hold_at (m.view a)) (m.says s p) (m.says a b) (failed p)
              (moved (voter_of (f.view e) p) (voter_of (m.view s) p) (hold_at (f.view a)) (hold_at (m.view a)) (f.says e p) (m.says s p)
              (f.says a b) (first ++ m.says a b)
              (ap (λ (x : SwitchView). voter_of x p) (taken.left.view s) ∙ ap (λ y. voter_of (f.view y) p) (sym here))
              (ap (λ (x : SwitchView). hold_at x) (taken.left.view a))
              (taken.other_says s p other ∙ ap (λ y. f.says y p) (sym here))
              (sym (subst₂ (λ x y. f.says x y ≡ first ++ m.says x y) ends.0 ends.1 taken.first_said))
              (v.pairs pod i j p b edge aggregation joins_e))
        ];
    at_aggregation = λ pod i j p b edge aggregation here joins.
        let e = edge_no plan.k pod i in let a = aggregation_no plan.k pod j in
        let joins_a = subst (λ y. AreAdjacent plan e p y b) (sym here) joins in
        let returns = turned plan is e p s b joins in
        elim (cases_eq port b) [
          | inr differ ↦ h.aggregation_there (voter_of (m.view e) p) b (m.says e p) (m.says s b) (failed b) differ
              (λ same. ids_differ plan is t e (is_there plan is s port t q back) (is_there plan is s b e p returns)
              (λ one. differ (one_port_to plan s port b (record { 0 = e }) q p is (subst (λ x. AreAdjacent plan s port x q) one back) returns))
              (ap (λ (x : SwitchId). x.0) (sym (w.ids t)) ∙ same ∙ ap (λ (x : SwitchId). x.0) (w.ids e)))
              (subst (λ y. IsGoodPair (voter_of (m.view e) p) (hold_at (m.view y)) (m.says e p) (m.says y b)) here (w.pairs pod i j p b edge aggregation joins_a))
          | inl same ↦
              let ends = same_end plan is s port t q e p back (subst (λ x. AreAdjacent plan s x e p) (sym same) returns) in
              let other : (s ≡ t) × (b ≡ q) → ⊥ = λ both. levels_apart plan is pod i pod j edge (here ∙ both.0 ∙ ends.0) in
              (subst (λ x. IsHearing (m.view s) x (m.view t).id first st) same h).aggregation_here (voter_of (m.view e) p) (m.says e p) (m.says s b) (failed b)
              (moved (voter_of (f.view e) p) (voter_of (m.view e) p) (hold_at (f.view a)) (hold_at (m.view s)) (f.says e p) (first ++ m.says e p)
              (f.says a b) (m.says s b)
              (ap (λ (x : SwitchView). voter_of x p) (taken.left.view e))
              (ap (λ (x : SwitchView). hold_at x) (taken.left.view s) ∙ ap (λ y. hold_at (f.view y)) (sym here))
              (sym (subst₂ (λ x y. f.says x y ≡ first ++ m.says x y) ends.0 ends.1 taken.first_said))
              (taken.other_says s b other ∙ ap (λ y. f.says y b) (sym here))
              (v.pairs pod i j p b edge aggregation joins_a))
        ];
    named = h.named;
    ids = h.ids (w.holders s);
    counting = λ pod i edge here.
        h.counting plan pod s size
        (subst (λ y. LeadsToAggregation plan pod y port) here
        (leads_up plan is pod i port t q edge (subst (λ y. AreAdjacent plan y port t q) (sym here) back)))
        (subst (λ y. IsCounting plan pod y (m.view y)) here (w.counting pod i edge));
  }
    where
      back : AreAdjacent plan s port t q
      back = turned plan is t q s port adjacent

  hears_votes : (f m g : ControlPlane) (t q s port : ℕ) (frame : List ℕ) → f.plan ≡ plan → CanTell f → IsVoting plan f.view f.says → AreAdjacent plan t q s port →
      AreAdjacent f.plan t q s port → is_control frame ≡ true → MessageIsTaken f t q (messages_of (message_in frame)) m → SwitchTurns Loose m s (Comes port frame) g → IsVoting plan g.view g.says
  unfolding message_in
  hears_votes f m g t q s port frame same_plan can v adjacent over control taken turns =
      let w = left_votes f m taken.left.view taken.left.says v in
      let read = control_in (payload_of frame) in
      let first = messages_of read in
      let view = m.view s in
      let st = if◌then◌else◌ {A = SwitchStep} (port_of view port).host (rests view) (hears_control view port read) in
      let step : switch_step turns.ruled.choose view (Comes port frame) ≡ st =
      ap (λ b. if◌then◌else◌ {A = SwitchStep} b (control_comes view port frame) (data_comes turns.ruled.choose view port frame)) control in
      let same = taken.left.plan ∙ same_plan in
      let there = subst (λ (p : Plan). s < switch_count p.k) same turns.there in
      let size = turns.size ∙ ap (λ (p : Plan). p.k) same in
      let is_s = subst IsWritableId (sym (w.ids s)) (id_fits plan is s there) in
      let is_t = subst IsWritableId (sym (w.ids t)) (id_fits plan is t (is_there plan is s port t q (turned plan is t q s port adjacent))) in
      let queue = taken.first_said in
      let of = subst (λ (x : SwitchView). AreOf x.id first) (sym (taken.left.view t))
      (all_front (λ c. sender_of c ≡ (f.view t).id) first (m.says t q) (subst (AreOf (f.view t).id) queue (v.named t q))) in
      let written = all_front IsWritableControl first (m.says t q) (subst (AllByRecursion IsWritableControl) queue (can.written t q s port over)) in
      let heard = hearing view port (m.view t).id read (port_of view port).host is_s is_t of written (w.holders s) turns.shaped.holds in
      let steps = turns.ruled.steps in
      let becomes = steps.view ∙ ap (λ (x : SwitchStep). x.view) step in
      let acts = steps.done ∙ ap (λ (x : SwitchStep). x.acts) step in
      acted_votes m g s st.view turns.failed st.acts w (ap (λ (x : SwitchView). x.id) (sym becomes) ∙ turns.accounted.id)
      (subst₂ (λ x y. IsActed m s x turns.failed y g) becomes acts turns.acted)
      (hearing_acts f m t q s port first st turns.failed v w taken adjacent size heard)

  -- a data frame comes
  data_votes : (m g : ControlPlane) (s port : ℕ) (frame : List ℕ) → IsVoting plan m.view m.says → is_control frame ≡ false →
      SwitchTurns Loose m s (Comes port frame) g → IsVoting plan g.view g.says
  data_votes m g s port frame v data_frame turns =
      let view = m.view s in
      let comes = data_comes turns.ruled.choose view port frame in
      let step : switch_step turns.ruled.choose view (Comes port frame) ≡ comes =
      ap (λ b. if◌then◌else◌ {A = SwitchStep} b (control_comes view port frame) comes) data_frame in
      turn_votes m g s (Comes port frame) v turns
      (subst (IsTurn view) (sym step) (turn_aside view comes (votes_left view comes (aside_data turns.ruled.choose view port frame))))

  ticks_votes : (f g : ControlPlane) (s : ℕ) → f.plan ≡ plan → CanTell f → IsVoting plan f.view f.says → SwitchTurns Loose f s Tick g → IsVoting plan g.view g.says
  ticks_votes f g s same can v turns =
      let view = f.view s in
      let is_id = subst IsWritableId (sym (v.ids s)) (id_fits plan is s (subst (λ (p : Plan). s < switch_count p.k) same turns.there)) in
      let able = can.proposals s turns.there in
      turn_votes f g s Tick v turns
      (turn_tick view able.begun (λ port. told_says view port is_id (can.places s turns.there) able (λ id told. can.echoes s port id turns.there told)))

pub plane_votes : (manager : ManagerRule) (f g : ControlPlane) → CanTell f → IsVoting f.plan f.view f.says → PlaneStep Loose manager f g →
    IsVoting f.plan g.view g.says
plane_votes manager f g can v (Left left) = left_votes f.plan can.plan f g left.view left.says v
plane_votes manager f g can v (Ticked s turns) = ticks_votes f.plan can.plan f g s refl can v turns
plane_votes manager f g can v (Heard t q s port frame mid adjacent control taken turns) =
    hears_votes f.plan can.plan f mid g t q s port frame refl can v adjacent adjacent control taken turns
plane_votes manager f g can v (Carried t q s port frame mid adjacent control carries taken turns) =
    data_votes f.plan can.plan mid g s port frame (left_votes f.plan can.plan f mid taken.left.view taken.left.says v) control turns
plane_votes manager f g can v (Entered s port frame edge within free control turns) = data_votes f.plan can.plan f g s port frame v control turns
plane_votes manager f g can v (Ordered s says mid taken turns) =
    turn_votes f.plan can.plan mid g s (Says says) (left_votes f.plan can.plan f mid taken.left.view taken.left.says v) turns
    (turn_aside (mid.view s) (switch_step turns.ruled.choose (mid.view s) (Says says)) (manager_leaves_votes turns.ruled.choose (mid.view s) says))
plane_votes manager f g can v (Managed s id told mid there named taken turns) =
    left_votes f.plan can.plan mid g turns.view (λ t port. record { gone = []; split = sym (turns.says t port) })
    (left_votes f.plan can.plan f mid taken.left.view taken.left.says v)

-- in a step, and where the manager begins anew
pub votes_on : (manager : ManagerRule) (f g : ControlPlane) → CanTell f → IsVoting f.plan f.view f.says → OnPlane Loose manager f g → IsVoting f.plan g.view g.says
votes_on manager f g can v (Steps step) = plane_votes manager f g can v step.0
votes_on manager f g can v (BeginsAnew anew) =
    left_votes f.plan can.plan f g anew.alike.view (λ t port. record { gone = []; split = sym (anew.alike.says t port) }) v
