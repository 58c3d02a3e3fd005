-- Each step keeps what aggregation switches note, in the control plane.
use Rattle.std.proofs.Common.{◌≡◌, ℕ, ◌<◌, ◌==◌, not, Bool, true, false, if◌then◌else◌, List, [], ◌∷◌, ◌++◌, get_or, Option, Some, None, Result, Ok, Err, refl, sym, ◌∙◌, ap, subst, subst₂, arith, inl, inr}
use Rattle.std.specs.List.{AllByRecursion}
use Rattle.std.proofs.lemmas.Bool.{and_parts, cases_eq}
use Rattle.pl_frame.specs.declared.address.SwitchId.{SwitchId}
use Rattle.pl_layouts.specs.declared.control.Control.{Control}
use Rattle.pl_layouts.specs.declared.control.Control.TheVariants.{Ldm, Proposal, Vote}
use Rattle.pl_layouts.specs.declared.control.ControlError.{ControlError}
use Rattle.pl_layouts.specs.declared.control.Proposal.{Proposal as Proposed}
use Rattle.pl_layouts.specs.Control.{control_frame, is_sound_ldm, sender_of}
use Rattle.pl_layouts.specs.declared.place.Place.{Place}
use Rattle.pl_wiring.specs.declared.label.Label.TheVariants.{Aggregation, Edge}
use Rattle.pl_wiring.specs.Labels.{IsLabel, label_of}
use Rattle.pl_wiring.specs.Plan.{IsPlan}
use Rattle.pl_wiring.proofs.Exports.{label_of-number_of}
use Rattle.pl_node.specs.declared.neighbour.PortRecord.{PortRecord}
use Rattle.pl_node.specs.SwitchFacts.{is_answered}
use Rattle.pl_node.specs.declared.switch_records.Hold.{Hold}
use Rattle.pl_node.specs.PortRecords.{heard_place, new_port}
use Rattle.pl_node.specs.SwitchViews.{SwitchView}
use Rattle.pl_node.proofs.Exports.{heard_aged}
use Rattle.pl_steps.specs.Steps.{SwitchStep, rests}
use Rattle.pl_switch_rule.specs.Announcing.{ticks, with_aged_ports}
use Rattle.pl_switch_rule.specs.Levels.{after_message, changes_to}
use Rattle.pl_switch_rule.specs.Positions.{after_vote, answers_proposal, frees_others, half}
use Rattle.pl_switch_rule.specs.SwitchRule.{hears_control}
use Rattle.pl_switch_rule.proofs.Exports.{ages_learn}
use Rattle.pl_law_control_plane.specs.ControlPlanes.{AreAdjacent, ControlPlane, message_in, messages_of, sends}
use Rattle.pl_law_control_plane.proofs.Exports.{adjacent_there, adjacent_turned}
use Rattle.pl_law_places.specs.Places.{ArePlaced}
use Rattle.pl_law_places.specs.Told.{IsGoodMessage, has_heard}
use Rattle.pl_law_places.proofs.Exports.{left_keeps}
use Rattle.pl_law_votes.specs.Pairs.{IsNoProposal, IsRising}
use Rattle.pl_law_votes.specs.Voting.{CanTell, IsVoting, aggregation_no, edge_no}
use Rattle.pl_law_votes.proofs.Exports.{answer_to, aside_ages, changes, ids_differ, is_there, number_there, one_port_to, same_end, sends_none, tick_says, vote_elsewhere, vote_here, vote_said}
use Rattle.pl_law_placing.specs.Noting.{AreNotedBy, IsNoted}
use Rattle.pl_law_placing.proofs.NotesOfAggregations.{left_noted, silent_tick, turned_noted}
use Rattle.pl_law_placing.proofs.Seeing.{Seen}
use Rattle.pl_law_placing.proofs.Seeing.Seen.{Gone, Hears, Quiet, Ticks}
use Rattle.pl_law_placing.proofs.TellingOfPlacing.{Fits, heard_here, heard_there, noted_other}
use Rattle.pl_journal.specs.Flights.{label_level}

-- what is heard sends no proposal
silent_heard : (v : SwitchView) (port q : ℕ) (read : Result Control ControlError) → ((id : SwitchId) (p : Proposed) → read ≡ Ok (Proposal id p) → AllByRecursion IsNoProposal (messages_of (message_in (control_frame (Vote v.id (answer_to v id p)))))) →
    AllByRecursion IsNoProposal (sends q (hears_control v port read).acts)
silent_heard v port q (Err e) said = tt
silent_heard v port q (Ok (Ldm id m)) said =
    subst (AllByRecursion IsNoProposal) (sym (sends_none q (changes_to v (after_message v port id m)).acts (changes v (after_message v port id m)).unsaid)) tt
silent_heard v port q (Ok (Vote id vote)) said =
    subst (AllByRecursion IsNoProposal) (sym (sends_none q (changes_to v (after_vote v port vote)).acts (changes v (after_vote v port vote)).unsaid)) tt
silent_heard v port q (Ok (Proposal id p)) said = by (is_answered v port p.position)
  where
    by : (b : Bool) → AllByRecursion IsNoProposal (sends q (if◌then◌else◌ {A = SwitchStep} b (answers_proposal (frees_others v id p.position) port id p) (rests v)).acts)
    by false = tt
    by true = elim (cases_eq port q) [
      | inl same ↦ subst (λ x. AllByRecursion IsNoProposal (sends x (answers_proposal (frees_others v id p.position) port id p).acts)) same
          (subst (AllByRecursion IsNoProposal) (sym (vote_here v port id p)) (said id p refl))
      | inr other ↦ subst (AllByRecursion IsNoProposal) (sym (vote_elsewhere v port q id p other)) tt
    ]

-- each message names its sender
from_sender : (id : SwitchId) (place : Place) (heard : Bool) (says : List Control) → AllByRecursion (IsGoodMessage id place heard) says → AllByRecursion (λ c. sender_of c ≡ id) says
from_sender id place heard [] all = tt
from_sender id place heard (Ldm from m ∷ says) all = (all.0.of_sender.named, from_sender id place heard says all.1)
from_sender id place heard (Proposal from p ∷ says) all = (all.0.of_sender, from_sender id place heard says all.1)
from_sender id place heard (Vote from vote ∷ says) all = (all.0.of_sender, from_sender id place heard says all.1)

fits_of : (k : ℕ) (id : SwitchId) (place : Place) (heard : Bool) → ((x : ℕ) → place.position ≡ Some x → x < half k) → (says : List Control) →
    AllByRecursion (IsGoodMessage id place heard) says → AllByRecursion (Fits k) says
fits_of k id place heard own [] all = tt
fits_of k id place heard own (Ldm from m ∷ says) all =
    ((λ x told. own x (all.0.of_sender.so.position x told), (and_parts (not (from.0 == 0)) (is_sound_ldm m) all.0.writable.sound).1), fits_of k id place heard own says all.1)
fits_of k id place heard own (Proposal from p ∷ says) all = (tt, fits_of k id place heard own says all.1)
fits_of k id place heard own (Vote from vote ∷ says) all = (tt, fits_of k id place heard own says all.1)

pub seen_noted : (f g : ControlPlane) → IsPlan f.plan → ArePlaced f.plan f → CanTell f → IsVoting f.plan f.view f.says → AreNotedBy f.plan f.view f.says → Seen f g →
    AreNotedBy f.plan g.view g.says
seen_noted f g is placed can v n (Gone same left) = left_noted f.plan f g same left n
seen_noted f g is placed can v n (Quiet m s st turn aside ports) =
    let w = left_noted f.plan f m turn.left.view turn.left.says n in
    turned_noted f m g s st is (left_keeps f.plan f m turn.left placed) turn w (record {
      silent = λ port x fixed. subst (AllByRecursion IsNoProposal) (sym (sends_none port st.acts aside.unsaid)) tt;
      notes = λ pod i j p q edge aggregation here adjacent.
          let e = edge_no f.plan.k pod i in
          noted_other (m.view e) (m.view s) st.view q (m.says e p)
          (λ y hold has own. ap (λ (hs : List (Option Hold)). get_or hs y None) (sym aside.holds) ∙ has)
          (ap (λ (ps : List PortRecord). (heard_place (get_or ps q new_port).heard).position) (ports pod j here))
          (subst (λ a. IsNoted (m.view e) (m.view a) q (m.says e p)) here (w pod i j p q edge aggregation (subst (λ a. AreAdjacent f.plan e p a q) (sym here) adjacent)));
    })
seen_noted f g is placed can v n (Ticks s turn) =
    turned_noted f f g s (ticks (f.view s)) is placed turn n (record {
      silent = λ port x fixed. silent_tick (f.view s) x fixed (sends port (ticks (f.view s)).acts)
          (tick_says (f.view s) port (placed.sound s turn.there).named (can.places s turn.there) (can.proposals s turn.there) (λ id told. can.echoes s port id turn.there told));
      notes = λ pod i j p q edge aggregation here adjacent.
          let e = edge_no f.plan.k pod i in
          let w : SwitchView = with_aged_ports (f.view s) in
          noted_other (f.view e) (f.view s) (ticks (f.view s)).view q (f.says e p)
          (λ y hold has own. ap (λ (hs : List (Option Hold)). get_or hs y None) (sym (aside_ages w).holds) ∙ has)
          (ap (λ (x : SwitchView). (heard_place (get_or x.ports q new_port).heard).position) (ages_learn w)
          ∙ ap (λ o. (heard_place o).position) (heard_aged (f.view s).ports q))
          (subst (λ a. IsNoted (f.view e) (f.view a) q (f.says e p)) here (n pod i j p q edge aggregation (subst (λ a. AreAdjacent f.plan e p a q) (sym here) adjacent)));
    })
seen_noted f g is placed can v n (Hears m t at s port read adjacent taken good turn) =
    let w = left_noted f.plan f m turn.left.view turn.left.says n in
    let placed_m = left_keeps f.plan f m turn.left placed in
    turned_noted f m g s (hears_control (m.view s) port read) is placed_m turn w (record {
      silent = λ q x fixed. silent_heard (m.view s) port q read (λ id p heard. said id p (subst (λ r. AllByRecursion (IsGoodMessage (m.view t).id (m.view t).place (has_heard (m.view t) at)) (messages_of r)) heard good));
      notes = λ pod i j p q edge aggregation here joins. elim (cases_eq port q) [
        | inl same ↦ here_notes pod i j p q edge aggregation here joins same
        | inr differ ↦
            heard_there (m.view s) port (m.view t).id read (m.view (edge_no f.plan.k pod i)) q (m.says (edge_no f.plan.k pod i) p) differ
            (apart pod i p q edge joins differ)
            (from_sender (m.view t).id (m.view t).place (has_heard (m.view t) at) (messages_of read) good)
            (subst (λ a. IsNoted (m.view (edge_no f.plan.k pod i)) (m.view a) q (m.says (edge_no f.plan.k pod i) p)) here
            (w pod i j p q edge aggregation (subst (λ a. AreAdjacent f.plan (edge_no f.plan.k pod i) p a q) (sym here) joins)))
      ];
    })
  where
    said : (id : SwitchId) (p : Proposed) → AllByRecursion (IsGoodMessage (m.view t).id (m.view t).place (has_heard (m.view t) at)) (Proposal id p ∷ []) →
        AllByRecursion IsNoProposal (messages_of (message_in (control_frame (Vote (m.view s).id (answer_to (m.view s) id p)))))
    said id p fine =
        let sound = (left_keeps f.plan f m turn.left placed).sound s turn.there in
        subst (AllByRecursion IsNoProposal) (sym (vote_said (m.view s) id p sound.named fine.0.writable sound.holders)) (tt, tt)

    apart : (pod i p q : ℕ) → IsLabel f.plan.k (Edge pod i) → AreAdjacent f.plan (edge_no f.plan.k pod i) p s q → (port ≡ q → ⊥) →
        (m.view t).id.0 ≡ (m.view (edge_no f.plan.k pod i)).id.0 → ⊥
    apart pod i p q edge joins differ same =
        let e = edge_no f.plan.k pod i in
        let returns = adjacent_turned f.plan e p s q is joins in
        ids_differ f.plan is t e (is_there f.plan is s port t at (adjacent_turned f.plan t at s port is adjacent)) (number_there f.plan is (Edge pod i) edge)
        (λ one. differ (one_port_to f.plan s port q (record { 0 = e }) at p is (subst (λ x. AreAdjacent f.plan s port x at) one (adjacent_turned f.plan t at s port is adjacent)) returns))
        (ap (λ (x : SwitchId). x.0) (sym (ap (λ (y : SwitchView). y.id) (turn.left.view t) ∙ v.ids t)) ∙ same
        ∙ ap (λ (x : SwitchId). x.0) (ap (λ (y : SwitchView). y.id) (turn.left.view e) ∙ v.ids e))

    here_notes : (pod i j p q : ℕ) → IsLabel f.plan.k (Edge pod i) → IsLabel f.plan.k (Aggregation pod j) → aggregation_no f.plan.k pod j ≡ s →
        AreAdjacent f.plan (edge_no f.plan.k pod i) p s q → port ≡ q →
        IsNoted (m.view (edge_no f.plan.k pod i)) (hears_control (m.view s) port read).view q (m.says (edge_no f.plan.k pod i) p)
    here_notes pod i j p q edge aggregation here joins same =
        let e = edge_no f.plan.k pod i in
        let back = adjacent_turned f.plan t at s port is adjacent in
        let returns = adjacent_turned f.plan e p s q is joins in
        let ends = same_end f.plan is s port t at e p back (subst (λ x. AreAdjacent f.plan s x e p) (sym same) returns) in
        let joins_a = subst (λ a. AreAdjacent f.plan e p a q) (sym here) joins in
        let placed_m = left_keeps f.plan f m turn.left placed in
        let queue = subst₂ (λ x y. f.says x y ≡ messages_of read ++ m.says x y) ends.0 ends.1 taken.first_said in
        let old = subst (λ a. IsNoted (f.view e) (f.view a) q (f.says e p)) here (n pod i j p q edge aggregation joins_a) in
        let same_e : f.view e ≡ m.view e = sym (turn.left.view e) in
        let same_s : f.view s ≡ m.view s = sym (turn.left.view s) in
        subst (λ x. IsNoted (m.view e) (hears_control (m.view s) port read).view x (m.says e p)) same
        (heard_here (m.view s) port (m.view t).id read (m.view e) (m.says e p) (ap (λ x. (m.view x).id.0) ends.0)
        (let ports = turn.shaped.ports in let size = turn.size in let there = adjacent_there f.plan s port t at is back in let within = there.1 in omega (arith, ports, size, within))
        turn.shaped.holds
        (λ x level. (placed_m.own s).level x level ∙ ap (λ y. label_level (label_of f.plan.k y)) (sym here) ∙ ap label_level (label_of-number_of f.plan.k (Aggregation pod j) aggregation))
        (from_sender (m.view t).id (m.view t).place (has_heard (m.view t) at) (messages_of read) good)
        (fits_of (m.view s).k (m.view t).id (m.view t).place (has_heard (m.view t) at)
        (λ x position. subst (λ k. x < half k) (sym turn.size) ((placed_m.own t).position x position).1) (messages_of read) good)
        (subst IsRising queue (v.pairs pod i j p q edge aggregation joins_a).rising)
        (subst (λ up. IsNoted (m.view e) (m.view s) port up) queue
        (subst₂ (λ x y. IsNoted x y port (f.says e p)) same_e same_s (subst (λ x. IsNoted (f.view e) (f.view s) x (f.says e p)) (sym same) old))))
