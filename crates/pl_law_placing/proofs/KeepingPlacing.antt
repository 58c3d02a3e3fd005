-- Each step keeps what edge switches try in order.
use Rattle.std.proofs.Common.{◌≡◌, ℕ, ◌<◌, ◌==◌, ◌&&◌, nat_lt, Bool, true, false, if◌then◌else◌, true≢false, get_or, List, [], Option, Some, None, Result, Ok, Err, refl, sym, ◌∙◌, ap, subst, inl, inr}
use Rattle.std.specs.List.{AllByRecursion}
use Rattle.std.proofs.lemmas.Bool.{and_parts, cases_eq, cond_both}
use Rattle.pl_lemmas.proofs.Exports.{all_append, all_front, all_weaker}
use Rattle.pl_frame.specs.declared.address.SwitchId.{SwitchId}
use Rattle.pl_layouts.specs.declared.control.Control.{Control}
use Rattle.pl_layouts.specs.declared.control.Control.TheVariants.{Ldm, Proposal, Vote}
use Rattle.pl_layouts.specs.declared.control.ControlError.{ControlError}
use Rattle.pl_layouts.specs.declared.control.Ldm.{Ldm as Message}
use Rattle.pl_layouts.specs.declared.control.Proposal.{Proposal as Proposed}
use Rattle.pl_layouts.specs.declared.control.Vote.{Vote as Answer}
use Rattle.pl_layouts.specs.Placement.{is_known}
use Rattle.pl_layouts.proofs.Exports.{known_is}
use Rattle.pl_wiring.specs.declared.label.Label.TheVariants.{Aggregation, Edge}
use Rattle.pl_wiring.specs.Labels.{IsLabel, switch_count}
use Rattle.pl_wiring.specs.Plan.{IsPlan}
use Rattle.pl_node.specs.declared.switch_records.Hold.{Hold}
use Rattle.pl_node.specs.PortRecords.{place_at}
use Rattle.pl_node.specs.SwitchFacts.{hold_at, is_answered}
use Rattle.pl_node.specs.SwitchViews.{SwitchView}
use Rattle.pl_steps.specs.Steps.{SwitchStep, rests}
use Rattle.pl_switch_rule.specs.Announcing.{ticks, with_aged_ports}
use Rattle.pl_switch_rule.specs.Levels.{after_message, changes_to, hears_message}
use Rattle.pl_switch_rule.specs.Positions.{after_vote, answers_proposal, frees_others, half, hears_proposal, holds_for, is_free_for, notes_position, vote_on}
use Rattle.pl_switch_rule.specs.SwitchRule.{hears_control}
use Rattle.pl_law_control_plane.specs.ControlPlanes.{AreAdjacent, ControlPlane, messages_of, sends}
use Rattle.pl_law_control_plane.proofs.Exports.{adjacent_turned}
use Rattle.pl_law_places.specs.Places.{ArePlaced}
use Rattle.pl_law_places.specs.Told.{IsGoodMessage, has_heard}
use Rattle.pl_law_places.proofs.Exports.{left_keeps, neighbour_at, one_peer, true_of_itself}
use Rattle.pl_law_votes.specs.Voting.{CanTell, aggregation_no, edge_no}
use Rattle.pl_law_votes.proofs.Exports.{after_proposal, aside_ages, changes, leads_up, learnt, same_end, same_stance, SaysPlace, SaysProposal, sends_none, Stance, stance, tick_says, TickSays, vote_elsewhere, vote_here, vote_holds, vote_said}
use Rattle.pl_law_placing.specs.Trying.{AreTryingBy, HasReason, IsHolder, IsTrueVote, NamesSomeHolder}
use Rattle.pl_law_placing.proofs.Below.{edge_adjacent}
use Rattle.pl_law_placing.proofs.TriesStayInOrder.{Owes, OwesHolds, holds_same, left_trying, reason_same, trying_same, turned_trying, vote_later}
use Rattle.pl_law_placing.proofs.Held.{freed_was, proposal_from, told_from}
use Rattle.pl_law_placing.proofs.Seeing.{Seen}
use Rattle.pl_law_placing.proofs.Seeing.Seen.{Gone, Hears, Quiet, Ticks}
use Rattle.pl_law_placing.proofs.Voting.{Becomes, reason_of, vote_becomes, vote_trying}
use Rattle.pl_law_placing.proofs.Voting.Becomes.{MovesOn, Stays}

-- what a tick says is no vote
true_tick : (k : ℕ) (view : ℕ → SwitchView) (pod : ℕ) (v : SwitchView) (said : List Control) → TickSays v said → AllByRecursion (IsTrueVote k view pod) said
true_tick k view pod v said says =
    subst (AllByRecursion (IsTrueVote k view pod)) (sym says.split)
    (all_append (IsTrueVote k view pod) says.first says.second (tells says.first says.tells) (asks says.second says.proposes))
  where
    tells : (xs : List Control) → SaysPlace v xs → AllByRecursion (IsTrueVote k view pod) xs
    tells xs (inl none) = subst (AllByRecursion (IsTrueVote k view pod)) (sym none) tt
    tells xs (inr some) = subst (AllByRecursion (IsTrueVote k view pod)) (sym some.2) (tt, tt)

    asks : (xs : List Control) → SaysProposal v xs → AllByRecursion (IsTrueVote k view pod) xs
    asks xs (inl none) = subst (AllByRecursion (IsTrueVote k view pod)) (sym none) tt
    asks xs (inr some) = subst (AllByRecursion (IsTrueVote k view pod)) (sym some.1) (tt, tt)

module _ (f m : ControlPlane) (is : IsPlan f.plan) (placed : ArePlaced f.plan m) (t : AreTryingBy f.plan m.view m.says) (s : ℕ) (there : s < switch_count f.plan.k) where
  -- no message is said, and the votes stay
  quiet_owes : (st : SwitchStep) → stance st.view ≡ stance (m.view s) → st.view.holds ≡ (m.view s).holds → ((port : ℕ) → sends port st.acts ≡ []) →
      Owes f.plan m.view s st
  quiet_owes st same holds none = record {
    held = holds_same f.plan m.view m.says t s st.view holds;
    said = λ pod j port label here. subst (AllByRecursion (IsTrueVote f.plan.k m.view pod)) (sym (none port)) tt;
    trying = trying_same (m.view s) st.view same (t.trying s);
    reasons = reason_same f.plan m.view m.says t s st.view (ap (λ (x : Stance). x.attempt) same);
  }

  module _ (n q port : ℕ) (adjacent : AreAdjacent f.plan n q s port) where
    -- a neighbour of level 0 is one for which a position may be held
    neighbour_holds : (pod j y : ℕ) (id : SwitchId) (fixed : Bool) → IsLabel f.plan.k (Aggregation pod j) → aggregation_no f.plan.k pod j ≡ s →
        (m.view n).id ≡ id → (m.view n).place.level ≡ Some 0 → (fixed ≡ true → (m.view n).place.position ≡ Some y) → IsHolder f.plan.k m.view pod y id fixed
    neighbour_holds pod j y id fixed label here named level so =
        let at = edge_adjacent f.plan n q pod j port is label (subst (λ x. AreAdjacent f.plan n q x port) (sym here) adjacent) ((placed.own n).level 0 level) in
        record {
          i = at.i;
          edge = at.edge;
          named = subst (λ x. (m.view x).id ≡ id) at.at named;
          level = subst (λ x. (m.view x).place.level ≡ Some 0) at.at level;
          so = λ h. subst (λ x. (m.view x).place.position ≡ Some y) at.at (so h);
        }

    message_owes : (id : SwitchId) (msg : Message) → IsGoodMessage (m.view n).id (m.view n).place (has_heard (m.view n) q) (Ldm id msg) →
        Owes f.plan m.view s (hears_message (m.view s) port id msg)
    message_owes id msg good = let v = m.view s in let new = after_message v port id msg in let c = changes v new in record {
      held = λ pod j y hold label here has.
          heard pod j y hold label here (ap (λ (hs : List (Option Hold)). get_or hs y None) (sym c.holds) ∙ has);
      said = λ pod j p label here. subst (AllByRecursion (IsTrueVote f.plan.k m.view pod)) (sym (sends_none p (changes_to v new).acts c.unsaid)) tt;
      trying = trying_same v (changes_to v new).view (c.same ∙ same_stance v port id msg) (t.trying s);
      reasons = reason_same f.plan m.view m.says t s (changes_to v new).view (ap (λ (x : Stance). x.attempt) (c.same ∙ same_stance v port id msg));
    }
      where
        old : OwesHolds f.plan m.view s (m.view s)
        old = holds_same f.plan m.view m.says t s (m.view s) refl

        heard : (pod j y : ℕ) (hold : Hold) → IsLabel f.plan.k (Aggregation pod j) → aggregation_no f.plan.k pod j ≡ s →
            hold_at (after_message (m.view s) port id msg) y ≡ Some hold → IsHolder f.plan.k m.view pod y hold.edge hold.fixed
        heard pod j y hold label here =
            let u = learnt (m.view s) port id msg in
            cond_both (is_known u.place.level 1 && is_known msg.place.level 0) (notes_position u id msg.place.position) u
            (λ (x : SwitchView). hold_at x y ≡ Some hold → IsHolder f.plan.k m.view pod y hold.edge hold.fixed)
            (λ h. noted (known_is msg.place.level 0 (and_parts (is_known u.place.level 1) (is_known msg.place.level 0) h).1) msg.place.position refl)
            (λ h. old pod j y hold label here)
          where
            noted : msg.place.level ≡ Some 0 → (position : Option ℕ) → msg.place.position ≡ position →
                hold_at (notes_position (learnt (m.view s) port id msg) id position) y ≡ Some hold → IsHolder f.plan.k m.view pod y hold.edge hold.fixed
            noted level None told has = old pod j y hold label here has
            noted level (Some p) told has = elim (told_from (learnt (m.view s) port id msg) id p y hold has) [
              | inl was ↦ old pod j y hold label here was
              | inr is_new ↦ subst (λ (x : Hold). IsHolder f.plan.k m.view pod y x.edge x.fixed) (sym is_new.1)
                  (neighbour_holds pod j y id true label here (sym good.of_sender.named) (good.of_sender.so.level 0 level)
                  (λ h. subst (λ x. (m.view n).place.position ≡ Some x) (sym is_new.0) (good.of_sender.so.position p told)))
            ]

    proposal_owes : (id : SwitchId) (p : Proposed) → IsGoodMessage (m.view n).id (m.view n).place (has_heard (m.view n) q) (Proposal id p) →
        Owes f.plan m.view s (hears_proposal (m.view s) port id p)
    proposal_owes id p good = by (is_answered (m.view s) port p.position) refl
      where
        old : OwesHolds f.plan m.view s (m.view s)
        old = holds_same f.plan m.view m.says t s (m.view s) refl

        level : is_answered (m.view s) port p.position ≡ true → (m.view n).place.level ≡ Some 0
        level asked =
            let a = and_parts (is_known (m.view s).place.level 1 && is_known (place_at (m.view s) port).level 0) (nat_lt p.position (half (m.view s).k)) asked in
            let b = and_parts (is_known (m.view s).place.level 1) (is_known (place_at (m.view s) port).level 0) a.0 in
            let near = neighbour_at f.plan m s port 0 is placed (known_is (place_at (m.view s) port).level 0 b.1) in
            let ends = one_peer f.plan s port near.t near.q n q (adjacent_turned f.plan near.t near.q s port is near.adjacent) (adjacent_turned f.plan n q s port is adjacent) in
            subst (λ x. (m.view x).place.level ≡ Some 0) ends.0 near.level

        names : (pod j : ℕ) → IsLabel f.plan.k (Aggregation pod j) → aggregation_no f.plan.k pod j ≡ s → (h : Option Hold) →
            hold_at (frees_others (m.view s) id p.position) p.position ≡ h → IsTrueVote f.plan.k m.view pod (Vote (m.view s).id (vote_on id p h))
        names pod j label here None was = refl
        names pod j label here (Some hold) was = either (hold.edge.0 == id.0)
          where
            either : (b : Bool) → IsTrueVote f.plan.k m.view pod (Vote (m.view s).id (if b then record { attempt = p.attempt; position = p.position; granted = true; holder = None; fixed = false }
                else record { attempt = p.attempt; position = p.position; granted = false; holder = Some hold.edge; fixed = hold.fixed }))
            either true = refl
            either false = old pod j p.position hold label here (freed_was (m.view s) id p.position p.position hold was)

        says : (pod j x : ℕ) → IsLabel f.plan.k (Aggregation pod j) → aggregation_no f.plan.k pod j ≡ s →
            AllByRecursion (IsTrueVote f.plan.k m.view pod) (sends x (answers_proposal (frees_others (m.view s) id p.position) port id p).acts)
        says pod j x label here =
            let sound = placed.sound s there in
            elim (cases_eq port x) [
              | inl same ↦ subst (λ y. AllByRecursion (IsTrueVote f.plan.k m.view pod) (sends y (answers_proposal (frees_others (m.view s) id p.position) port id p).acts)) same
                  (subst (AllByRecursion (IsTrueVote f.plan.k m.view pod))
                  (sym (vote_here (m.view s) port id p ∙ vote_said (m.view s) id p sound.named good.writable sound.holders))
                  (names pod j label here (hold_at (frees_others (m.view s) id p.position) p.position) refl, tt))
              | inr other ↦ subst (AllByRecursion (IsTrueVote f.plan.k m.view pod)) (sym (vote_elsewhere (m.view s) port x id p other)) tt
            ]

        by : (b : Bool) → is_answered (m.view s) port p.position ≡ b →
            Owes f.plan m.view s (if◌then◌else◌ {A = SwitchStep} b (answers_proposal (frees_others (m.view s) id p.position) port id p) (rests (m.view s)))
        by false asked = quiet_owes (rests (m.view s)) refl refl (λ x. refl)
        by true asked =
            let new = after_proposal (m.view s) id p.position in
            let same : stance new ≡ stance (m.view s) = cond_both (is_free_for id (hold_at (frees_others (m.view s) id p.position) p.position))
            (holds_for (frees_others (m.view s) id p.position) id p.position) (frees_others (m.view s) id p.position)
            (λ (u : SwitchView). stance u ≡ stance (m.view s)) (λ h. refl) (λ h. refl) in
            record {
              held = λ pod j y hold label here has. elim (proposal_from (m.view s) id p.position y hold has) [
                | inl was ↦ old pod j y hold label here was
                | inr is_new ↦ subst (λ (x : Hold). IsHolder f.plan.k m.view pod y x.edge x.fixed) (sym is_new.1)
                    (neighbour_holds pod j y id false label here (sym good.of_sender) (level asked) (λ h. absurd (true≢false (sym h))))
              ];
              said = λ pod j x label here. says pod j x label here;
              trying = trying_same (m.view s) new same (t.trying s);
              reasons = reason_same f.plan m.view m.says t s new (ap (λ (x : Stance). x.attempt) same);
            }

    vote_owes : (id : SwitchId) (vote : Answer) →
        ((pod j : ℕ) → IsLabel f.plan.k (Aggregation pod j) → n ≡ aggregation_no f.plan.k pod j → NamesSomeHolder f.plan.k m.view pod vote.position vote.fixed vote.holder) →
        Owes f.plan m.view s (changes_to (m.view s) (after_vote (m.view s) port vote))
    vote_owes id vote names =
        let v = m.view s in
        let new = after_vote v port vote in
        let c = changes v new in
        let begun = (placed.sound s there).able.begun in
        record {
          held = holds_same f.plan m.view m.says t s (changes_to v new).view (c.holds ∙ vote_holds v port vote);
          said = λ pod j x label here. subst (AllByRecursion (IsTrueVote f.plan.k m.view pod)) (sym (sends_none x (changes_to v new).acts c.unsaid)) tt;
          trying = trying_same new (changes_to v new).view c.same (vote_trying v port vote begun (t.trying s));
          reasons = λ pod i label here more.
              by pod i label here (subst (λ n. 1 < n) (ap (λ (x : Stance). x.attempt) c.same) more) (vote_becomes v port vote);
        }
      where
        by : (pod i : ℕ) → IsLabel f.plan.k (Edge pod i) → edge_no f.plan.k pod i ≡ s → 1 < (after_vote (m.view s) port vote).attempt →
            Becomes (m.view s) vote (after_vote (m.view s) port vote) → HasReason f.plan.k m.view pod (m.view s).id
        by pod i label here more (Stays same) = reason_same f.plan m.view m.says t s (after_vote (m.view s) port vote) same pod i label here more
        by pod i label here more (MovesOn counted way last next) =
            let back = adjacent_turned f.plan n q s port is adjacent in
            let up = leads_up f.plan is pod i port n q label (subst (λ x. AreAdjacent f.plan x port n q) (sym here) back) in
            let ends = same_end f.plan is s port n q (aggregation_no f.plan.k pod up.0) up.2 back (subst (λ x. AreAdjacent f.plan x port (aggregation_no f.plan.k pod up.0) up.2) here up.3) in
            reason_of f.plan.k m.view pod (m.view s) vote (placed.sound s there).able.begun (t.trying s) counted way
            (names pod up.0 (label.0, up.1) ends.0) (λ old. reason_same f.plan m.view m.says t s (m.view s) refl pod i label here old)

    hears_owes : (read : Result Control ControlError) → AllByRecursion (IsGoodMessage (m.view n).id (m.view n).place (has_heard (m.view n) q)) (messages_of read) →
        ((pod j : ℕ) → IsLabel f.plan.k (Aggregation pod j) → n ≡ aggregation_no f.plan.k pod j → AllByRecursion (IsTrueVote f.plan.k m.view pod) (messages_of read)) →
        Owes f.plan m.view s (hears_control (m.view s) port read)
    hears_owes (Err e) good names = quiet_owes (rests (m.view s)) refl refl (λ x. refl)
    hears_owes (Ok (Ldm id msg)) good names = message_owes id msg good.0
    hears_owes (Ok (Proposal id p)) good names = proposal_owes id p good.0
    hears_owes (Ok (Vote id vote)) good names = vote_owes id vote (λ pod j label at. (names pod j label at).0)

pub seen_trying : (f g : ControlPlane) → IsPlan f.plan → ArePlaced f.plan f → CanTell f → AreTryingBy f.plan f.view f.says → Seen f g → AreTryingBy f.plan g.view g.says
seen_trying f g is placed can t (Gone same left) = left_trying f.plan f g same left t
seen_trying f g is placed can t (Quiet m s st turn aside ports) =
    let w = left_trying f.plan f m turn.left.view turn.left.says t in
    turned_trying f m g s st turn w
    (quiet_owes f m is (left_keeps f.plan f m turn.left placed) w s turn.there st aside.same aside.holds (λ port. sends_none port st.acts aside.unsaid))
seen_trying f g is placed can t (Ticks s turn) =
    let v = f.view s in
    let aside = aside_ages (with_aged_ports v) in
    turned_trying f f g s (ticks v) turn t (record {
      held = holds_same f.plan f.view f.says t s (ticks v).view aside.holds;
      said = λ pod j port label here. true_tick f.plan.k f.view pod v (sends port (ticks v).acts)
          (tick_says v port (placed.sound s turn.there).named (can.places s turn.there) (can.proposals s turn.there) (λ id told. can.echoes s port id turn.there told));
      trying = trying_same v (ticks v).view aside.same (t.trying s);
      reasons = reason_same f.plan f.view f.says t s (ticks v).view (ap (λ (x : Stance). x.attempt) aside.same);
    })
seen_trying f g is placed can t (Hears m n q s port read adjacent taken good turn) =
    let w = left_trying f.plan f m turn.left.view turn.left.says t in
    turned_trying f m g s (hears_control (m.view s) port read) turn w
    (hears_owes f m is (left_keeps f.plan f m turn.left placed) w s turn.there n q port adjacent read good (λ pod j label at. names pod j label at))
  where
    names : (pod j : ℕ) → IsLabel f.plan.k (Aggregation pod j) → n ≡ aggregation_no f.plan.k pod j → AllByRecursion (IsTrueVote f.plan.k m.view pod) (messages_of read)
    names pod j label at =
        let P = IsTrueVote f.plan.k f.view pod in
        let all = subst (AllByRecursion P) taken.first_said (subst (λ x. AllByRecursion P (f.says x q)) (sym at) (t.said pod j q label)) in
        all_weaker P (IsTrueVote f.plan.k m.view pod)
        (vote_later f.plan.k f.view m.view (record { id = λ x. ap (λ (y : SwitchView). y.id) (turn.left.view x); later = λ x. rw (turn.left.view x) (true_of_itself (f.view x).place) }) pod)
        (messages_of read) (all_front P (messages_of read) (m.says n q) all)
