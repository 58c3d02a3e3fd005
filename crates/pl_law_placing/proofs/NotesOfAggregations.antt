-- Each step keeps what aggregation switches note of told positions.
use Rattle.std.proofs.Common.{◌≡◌, ℕ, ◌<◌, ◌==◌, ◌&&◌, ◌||◌, not, nat_lt, Bool, true, false, true≢false, eq-eqb, if◌then◌else◌, cond, List, length, Option, Some, None, is_none, refl, sym, ◌∙◌, ap, subst, subst₂, arith, inl, inr, get_or-set_same, get_or-set_other, ne_eqb, lt-ltb}
use Rattle.std.specs.List.{AllByRecursion}
use Rattle.std.proofs.lemmas.Bool.{and_parts, cases_eq}
use Rattle.pl_lemmas.proofs.Exports.{all_append}
use Rattle.pl_frame.specs.declared.address.SwitchId.{SwitchId}
use Rattle.pl_layouts.specs.declared.control.Control.{Control}
use Rattle.pl_layouts.specs.declared.control.Ldm.{Ldm as Message}
use Rattle.pl_layouts.specs.Control.{is_sound_ldm}
use Rattle.pl_layouts.specs.Placement.{is_known}
use Rattle.pl_wiring.specs.declared.label.Label.TheVariants.{Aggregation, Edge}
use Rattle.pl_wiring.specs.Labels.{IsLabel}
use Rattle.pl_wiring.specs.Plan.{IsPlan, Plan}
use Rattle.pl_node.specs.declared.neighbour.Neighbour.{Neighbour}
use Rattle.pl_node.specs.declared.switch_records.Hold.{Hold}
use Rattle.pl_node.specs.PortRecords.{heard_place, place_at, port_of}
use Rattle.pl_node.specs.SwitchFacts.{hold_at}
use Rattle.pl_node.specs.SwitchViews.{SwitchView}
use Rattle.pl_steps.specs.Steps.{SwitchStep}
use Rattle.pl_switch_rule.specs.Positions.{frees_others, half, is_held_for, marked_for, marks, notes_position}
use Rattle.pl_switch_rule.proofs.Exports.{length_freed}
use Rattle.pl_law_control_plane.specs.ControlPlanes.{AreAdjacent, ControlPlane, sends, unless}
use Rattle.pl_law_control_plane.specs.PlaneSteps.{LeftOver}
use Rattle.pl_law_control_plane.proofs.Exports.{unless_all}
use Rattle.pl_law_places.specs.Places.{ArePlaced}
use Rattle.pl_law_places.proofs.Exports.{all_left}
use Rattle.pl_law_votes.specs.Pairs.{IsNoProposal}
use Rattle.pl_law_votes.specs.Voting.{aggregation_no, edge_no}
use Rattle.pl_law_votes.proofs.Exports.{freed_is, levels_apart, SaysPlace, SaysProposal, TickSays}
use Rattle.pl_law_placing.specs.Noting.{AreNotedBy, IsNoted}
use Rattle.pl_law_placing.proofs.Held.{IsFrom, told_from}
use Rattle.pl_law_placing.proofs.Seeing.{Turned}

-- the same edge switch, the same holds and records, and a queue without proposals where the old one had none
noted_same : (e E a A : SwitchView) (q : ℕ) (u U : List Control) → E.id ≡ e.id → ((y : ℕ) (hold : Hold) → hold_at A y ≡ Some hold → hold_at a y ≡ Some hold) →
    (place_at A q).position ≡ (place_at a q).position →
    ((x : ℕ) → (place_at a q).position ≡ Some x → AllByRecursion IsNoProposal u → AllByRecursion IsNoProposal U) → IsNoted e a q u → IsNoted E A q U
noted_same e E a A q u U id holds told says n = record {
  marked = λ x y hold is has own. n.marked x y hold (sym told ∙ is) (holds y hold has) (own ∙ ap (λ (i : SwitchId). i.0) id);
  silent = λ x is. says x (sym told ∙ is) (n.silent x (sym told ∙ is));
}

-- items leave queues
pub left_noted : (plan : Plan) (f g : ControlPlane) → ((s : ℕ) → g.view s ≡ f.view s) → ((s port : ℕ) → LeftOver (f.says s port) (g.says s port)) →
    AreNotedBy plan f.view f.says → AreNotedBy plan g.view g.says
left_noted plan f g same left n pod i j p q edge aggregation adjacent =
    let e = edge_no plan.k pod i in let a = aggregation_no plan.k pod j in
    noted_same (f.view e) (g.view e) (f.view a) (g.view a) q (f.says e p) (g.says e p) (ap (λ (v : SwitchView). v.id) (same e))
    (λ y hold has. ap (λ (v : SwitchView). hold_at v y) (sym (same a)) ∙ has) (ap (λ (v : SwitchView). (place_at v q).position) (same a))
    (λ x is all. all_left IsNoProposal (f.says e p) (g.says e p) (left e p) all) (n pod i j p q edge aggregation adjacent)

-- what a switch owes: with a position it proposes none, and as an aggregation switch it notes what it is told
pub record OwesNotes (plan : Plan) (m : ControlPlane) (s : ℕ) (st : SwitchStep) : Type 0 where
  pub silent : (port x : ℕ) → (m.view s).place.position ≡ Some x → AllByRecursion IsNoProposal (sends port st.acts)
  pub notes : (pod i j p q : ℕ) → IsLabel plan.k (Edge pod i) → IsLabel plan.k (Aggregation pod j) → aggregation_no plan.k pod j ≡ s →
      AreAdjacent plan (edge_no plan.k pod i) p s q → IsNoted (m.view (edge_no plan.k pod i)) st.view q (m.says (edge_no plan.k pod i) p)

-- what was told is the own position
told_own : (plan : Plan) (m : ControlPlane) (e p a q x : ℕ) → ArePlaced plan m → AreAdjacent plan e p a q → (place_at (m.view a) q).position ≡ Some x →
    (m.view e).place.position ≡ Some x
told_own plan m e p a q x placed adjacent told = by (port_of (m.view a) q).heard refl told
  where
    by : (o : Option Neighbour) → (port_of (m.view a) q).heard ≡ o → (heard_place o).position ≡ Some x → (m.view e).place.position ≡ Some x
    by None is told = absurd (cc)
    by (Some n) is told = ((placed.links e p a q adjacent).recorded.known n is).so.position x told

pub turned_noted : (f m g : ControlPlane) (s : ℕ) (st : SwitchStep) → IsPlan f.plan → ArePlaced f.plan m → Turned f m g s st → AreNotedBy f.plan m.view m.says →
    OwesNotes f.plan m s st → AreNotedBy f.plan g.view g.says
turned_noted f m g s st is placed turn n owes pod i j p q edge aggregation adjacent =
    let k = f.plan.k in let e = edge_no k pod i in let a = aggregation_no k pod j in
    elim (cases_eq e s) [
      | inl here ↦
          let other : a ≡ s → ⊥ = λ same. levels_apart f.plan is pod i pod j edge (same ∙ sym here) in
          noted_same (m.view e) (g.view e) (m.view a) (g.view a) q (m.says e p) (g.says e p)
          (ap (λ x. (g.view x).id) here ∙ ap (λ (v : SwitchView). v.id) turn.acted.here ∙ turn.good.id ∙ ap (λ x. (m.view x).id) (sym here))
          (λ y hold has. ap (λ (v : SwitchView). hold_at v y) (sym (turn.acted.others a other)) ∙ has)
          (ap (λ (v : SwitchView). (place_at v q).position) (turn.acted.others a other))
          (λ x told all.
          subst (λ z. AllByRecursion IsNoProposal (g.says z p)) (sym here)
          (subst (AllByRecursion IsNoProposal) (sym (turn.acted.says p))
          (all_append IsNoProposal (m.says s p) (unless (turn.failed p) (sends p st.acts)) (subst (λ z. AllByRecursion IsNoProposal (m.says z p)) here all)
          (unless_all IsNoProposal (turn.failed p) (sends p st.acts)
          (owes.silent p x (subst (λ z. (m.view z).place.position ≡ Some x) here (told_own f.plan m e p a q x placed adjacent told)))))))
          (n pod i j p q edge aggregation adjacent)
      | inr other ↦ elim (cases_eq a s) [
        | inl here ↦
            subst₂ (λ x y. IsNoted x y q (g.says e p)) (sym (turn.acted.others e other)) (sym (ap (λ z. g.view z) here ∙ turn.acted.here))
            (subst (λ xs. IsNoted (m.view e) st.view q xs) (sym (turn.acted.other_says e p other))
            (owes.notes pod i j p q edge aggregation here (subst (λ y. AreAdjacent f.plan e p y q) here adjacent)))
        | inr also ↦
            subst₂ (λ x y. IsNoted x y q (g.says e p)) (sym (turn.acted.others e other)) (sym (turn.acted.others a also))
            (subst (λ xs. IsNoted (m.view e) (m.view a) q xs) (sym (turn.acted.other_says e p other)) (n pod i j p q edge aggregation adjacent))
      ]
    ]

pub silent_tick : (v : SwitchView) (x : ℕ) → v.place.position ≡ Some x → (said : List Control) → TickSays v said → AllByRecursion IsNoProposal said
silent_tick v x fixed said says =
    subst (AllByRecursion IsNoProposal) (sym says.split)
    (all_append IsNoProposal says.first says.second (tells says.first says.tells) (asks says.second says.proposes))
  where
    tells : (xs : List Control) → SaysPlace v xs → AllByRecursion IsNoProposal xs
    tells xs (inl none) = subst (AllByRecursion IsNoProposal) (sym none) tt
    tells xs (inr some) = subst (AllByRecursion IsNoProposal) (sym some.2) (tt, tt)

    asks : (xs : List Control) → SaysProposal v xs → AllByRecursion IsNoProposal xs
    asks xs (inl none) = subst (AllByRecursion IsNoProposal) (sym none) tt
    asks xs (inr some) = (let none = some.0 in absurd (cc (none, fixed)))

-- a message that tells a position tells level 0
pub told_level : (m : Message) (x : ℕ) → is_sound_ldm m ≡ true → m.place.position ≡ Some x → is_known m.place.level 0 ≡ true
told_level m x sound told =
    let a = and_parts ((is_none m.place.level || is_known m.place.level 0 || is_known m.place.level 1 || is_known m.place.level 2) && nat_lt m.direction 3 && (is_none m.place.position || is_known m.place.level 0))
    (is_none m.place.pod || is_known m.place.level 0 || is_known m.place.level 1) sound in
    let b = and_parts ((is_none m.place.level || is_known m.place.level 0 || is_known m.place.level 1 || is_known m.place.level 2) && nat_lt m.direction 3) (is_none m.place.position || is_known m.place.level 0) a.0 in
    level m.place.level (subst (λ o. (is_none o || is_known m.place.level 0) ≡ true) told b.1)
  where
    level : (o : Option ℕ) → is_known o 0 ≡ true → is_known o 0 ≡ true
    level None h = absurd (cc h)
    level (Some n) h = h

-- what is held for an edge switch that told its position is marked
pub told_marks : (v : SwitchView) (id : SwitchId) (p y : ℕ) (hold : Hold) → p < half v.k → length v.holds ≡ half v.k → hold_at (notes_position v id (Some p)) y ≡ Some hold →
    hold.edge.0 ≡ id.0 → hold.fixed ≡ true
told_marks v id p y hold within many has own = by (told_from v id p y hold has) (nat_lt p (half v.k)) refl has
  where
    w : SwitchView
    w = frees_others v id p

    marked : (h : Option Hold) → marked_for id h ≡ Some hold → hold.fixed ≡ true
    marked None is = let same : record { edge = id; fixed = true } ≡ hold = cc is in ap (λ (x : Hold). x.fixed) (sym same)
    marked (Some h) is = either (h.edge.0 == id.0) refl is
      where
        either : (b : Bool) → (h.edge.0 == id.0) ≡ b → cond b (Some (record { edge = id; fixed = true })) (Some h) ≡ Some hold → hold.fixed ≡ true
        either true test is = let same : record { edge = id; fixed = true } ≡ hold = cc is in ap (λ (x : Hold). x.fixed) (sym same)
        either false test is =
            let same : h ≡ hold = cc is in
            absurd (true≢false (sym (eq-eqb h.edge.0 id.0 (ap (λ (x : Hold). x.edge.0) same ∙ own)) ∙ test))

    gone : (b : Bool) → (is_held_for id (hold_at v y) && not (y == p)) ≡ b → cond b None (hold_at v y) ≡ Some hold → (y ≡ p → ⊥) → ⊥
    gone true test none other = absurd (cc none)
    gone false test some other =
        let held : is_held_for id (hold_at v y) ≡ true = subst (λ o. is_held_for id o ≡ true) (sym some) (eq-eqb hold.edge.0 id.0 own) in
        true≢false (sym (subst₂ (λ a b. (a && not b) ≡ true) (sym held) (sym (ne_eqb y p other)) refl) ∙ test)

    by : IsFrom v id p true y hold → (b : Bool) → nat_lt p (half v.k) ≡ b → hold_at (if◌then◌else◌ {A = SwitchView} b (marks (frees_others v id p) id p) v) y ≡ Some hold → hold.fixed ≡ true
    by (inr new) b test has = ap (λ (x : Hold). x.fixed) new.1
    by (inl was) false test has = absurd (true≢false (sym (lt-ltb p (half v.k) within) ∙ test))
    by (inl was) true test has = elim (cases_eq y p) [
      | inl at ↦ marked (hold_at (frees_others v id p) p)
          (sym (get_or-set_same (frees_others v id p).holds p (marked_for id (hold_at (frees_others v id p) p)) None (let same = length_freed p id 0 v.holds in omega (arith, same, within, many)))
          ∙ ap (λ z. hold_at (marks (frees_others v id p) id p) z) (sym at) ∙ has)
      | inr other ↦ absurd (gone (is_held_for id (hold_at v y) && not (y == p)) refl
          (sym (freed_is v id p y) ∙ sym (get_or-set_other (frees_others v id p).holds p y (marked_for id (hold_at (frees_others v id p) p)) None other) ∙ has) other)
    ]
