-- Each step keeps the edge switches of a pod in order.
use Rattle.std.proofs.Common.{◌≡◌, ℕ, ◌+◌, ◌*◌, ◌%◌, ◌<◌, ◌≤◌, ◌==◌, ◌&&◌, ◌||◌, nat_lt, Bool, true, false, true≢false, if◌then◌else◌, get_or, List, [], Option, Some, None, Result, Ok, Err, refl, sym, ◌∙◌, ap, subst, arith, inl, inr, ltb-true}
use Rattle.std.specs.List.{AllByRecursion}
use Rattle.std.proofs.lemmas.Bool.{and_parts, cases_eq, cases_lt, cond_both}
use Rattle.std.proofs.lemmas.Nat.{mod-mul-add}
use Rattle.pl_lemmas.proofs.Exports.{all_append, all_front, all_weaker}
use Rattle.pl_frame.specs.declared.address.SwitchId.{SwitchId}
use Rattle.pl_layouts.specs.declared.control.Control.{Control}
use Rattle.pl_layouts.specs.declared.control.Control.TheVariants.{Ldm, Proposal, Vote}
use Rattle.pl_layouts.specs.declared.control.ControlError.{ControlError}
use Rattle.pl_layouts.specs.declared.control.Ldm.{Ldm as Message}
use Rattle.pl_layouts.specs.declared.control.Proposal.{Proposal as Proposed}
use Rattle.pl_layouts.specs.declared.control.Vote.{Vote as Answer}
use Rattle.pl_layouts.specs.Placement.{is_known}
use Rattle.pl_layouts.specs.Votes.{gives_way, is_smaller}
use Rattle.pl_layouts.proofs.Exports.{known_is}
use Rattle.pl_wiring.specs.declared.label.Label.{Label}
use Rattle.pl_wiring.specs.declared.label.Label.TheVariants.{Aggregation, Core, Edge}
use Rattle.pl_wiring.specs.Labels.{IsLabel, label_of, switch_count}
use Rattle.pl_wiring.specs.Plan.{IsPlan}
use Rattle.pl_wiring.proofs.Exports.{half_at_least, label_of-IsLabel, number_of-label_of}
use Rattle.pl_journal.specs.Flights.{label_level}
use Rattle.pl_node.specs.declared.switch_records.Hold.{Hold}
use Rattle.pl_node.specs.PortRecords.{place_at}
use Rattle.pl_node.specs.SwitchFacts.{hold_at, is_answered}
use Rattle.pl_node.specs.SwitchViews.{SwitchView}
use Rattle.pl_steps.specs.Steps.{SwitchStep, rests}
use Rattle.pl_switch_rule.specs.Announcing.{ticks, with_aged_ports}
use Rattle.pl_switch_rule.specs.Levels.{after_message, changes_to, hears_message}
use Rattle.pl_switch_rule.specs.Positions.{after_vote, answers_proposal, frees_others, half, hears_proposal, holds_for, is_free_for, notes_position, vote_on}
use Rattle.pl_switch_rule.specs.SwitchRule.{hears_control}
use Rattle.pl_law_control_plane.specs.ControlPlanes.{AreAdjacent, ControlPlane, messages_of, sends}
use Rattle.pl_law_control_plane.proofs.Exports.{adjacent_turned}
use Rattle.pl_law_places.specs.Places.{ArePlaced}
use Rattle.pl_law_places.specs.Told.{IsGoodMessage, has_heard}
use Rattle.pl_law_places.proofs.Exports.{left_keeps, neighbour_at, one_peer, true_of_itself}
use Rattle.pl_law_votes.specs.Voting.{CanTell, aggregation_no, edge_no}
use Rattle.pl_law_votes.proofs.Exports.{after_proposal, aside_ages, changes, leads_up, learnt, same_end, same_stance, SaysPlace, SaysProposal, sends_none, Stance, stance, tick_says, TickSays, vote_elsewhere, vote_here, vote_holds, vote_said}
use Rattle.pl_law_placing.specs.Parking.{AreParkedBy, HasComeTo, IsInTurn, IsKeptFrom, IsNotPast, IsVoteOfOneThere, NamesOneThere}
use Rattle.pl_law_placing.specs.Parking.IsKeptFrom.{IsFixed, IsTried}
use Rattle.pl_law_placing.specs.Trying.{AreTryingBy, IsTrueVote, NamesSomeHolder}
use Rattle.pl_law_placing.proofs.Below.{IsEdgeAt, edge_adjacent}
use Rattle.pl_law_placing.proofs.Coming.{Comes, vote_comes}
use Rattle.pl_law_placing.proofs.Coming.Comes.{Fixes, GoesOn, Stays}
use Rattle.pl_law_placing.proofs.Held.{freed_was, proposal_from, told_from}
use Rattle.pl_law_placing.proofs.ParkingStays.{coming_same, kept_larger, kept_same, left_parked, Owes, OwesComing, rises_same, there_later, turn_same, turned_parked}
use Rattle.pl_law_placing.proofs.Room.{room}
use Rattle.pl_law_placing.proofs.Seeing.{IsGrown, Seen}
use Rattle.pl_law_placing.proofs.Seeing.Seen.{Gone, Hears, Quiet, Ticks}
use Rattle.pl_law_placing.proofs.TriesStayInOrder.{left_trying, vote_later}
use Rattle.pl_law_placing.proofs.Voting.{IsCounted}

-- what a tick says is no vote, and proposes the present position
there_tick : (k : ℕ) (view : ℕ → SwitchView) (pod : ℕ) (v : SwitchView) (said : List Control) → TickSays v said → AllByRecursion (IsVoteOfOneThere k view pod) said
there_tick k view pod v said says =
    subst (AllByRecursion (IsVoteOfOneThere k view pod)) (sym says.split)
    (all_append (IsVoteOfOneThere k view pod) says.first says.second (tells says.first says.tells) (asks says.second says.proposes))
  where
    tells : (xs : List Control) → SaysPlace v xs → AllByRecursion (IsVoteOfOneThere k view pod) xs
    tells xs (inl none) = subst (AllByRecursion (IsVoteOfOneThere k view pod)) (sym none) tt
    tells xs (inr some) = subst (AllByRecursion (IsVoteOfOneThere k view pod)) (sym some.2) (tt, tt)

    asks : (xs : List Control) → SaysProposal v xs → AllByRecursion (IsVoteOfOneThere k view pod) xs
    asks xs (inl none) = subst (AllByRecursion (IsVoteOfOneThere k view pod)) (sym none) tt
    asks xs (inr some) = subst (AllByRecursion (IsVoteOfOneThere k view pod)) (sym some.1) (tt, tt)

present_tick : (v : SwitchView) (n : ℕ) → v.proposed ≤ n → (said : List Control) → TickSays v said → AllByRecursion (IsNotPast n) said
present_tick v n within said says =
    subst (AllByRecursion (IsNotPast n)) (sym says.split) (all_append (IsNotPast n) says.first says.second (tells says.first says.tells) (asks says.second says.proposes))
  where
    tells : (xs : List Control) → SaysPlace v xs → AllByRecursion (IsNotPast n) xs
    tells xs (inl none) = subst (AllByRecursion (IsNotPast n)) (sym none) tt
    tells xs (inr some) = subst (AllByRecursion (IsNotPast n)) (sym some.2) (tt, tt)

    asks : (xs : List Control) → SaysProposal v xs → AllByRecursion (IsNotPast n) xs
    asks xs (inl none) = subst (AllByRecursion (IsNotPast n)) (sym none) tt
    asks xs (inr some) = subst (AllByRecursion (IsNotPast n)) (sym some.1) (within, tt)

-- a switch of level 0 is an edge switch of some pod
edge_here : (k s : ℕ) (label : Label) → label_of k s ≡ label → IsLabel k label → 0 ≡ label_level label → (pod : ℕ) × IsEdgeAt k pod s
edge_here k s (Edge pod i) is within level = (pod, record { i = i; edge = within; at = sym (number_of-label_of k s) ∙ ap (λ l. number k l) is })
  where
    number : ℕ → Label → ℕ
    number = Rattle.pl_wiring.specs.Labels.number_of
edge_here k s (Aggregation pod j) is within level = absurd (omega (arith, level))
edge_here k s (Core group m) is within level = absurd (omega (arith, level))

module _ (f m : ControlPlane) (is : IsPlan f.plan) (placed : ArePlaced f.plan m) (tries : AreTryingBy f.plan m.view m.says) (t : AreParkedBy f.plan m.view m.says)
    (s : ℕ) (there : s < switch_count f.plan.k) (size : (m.view s).k ≡ f.plan.k) where
  -- no message is said, and the votes stay
  quiet_parks : (st : SwitchStep) → stance st.view ≡ stance (m.view s) → st.view.holds ≡ (m.view s).holds → ((port : ℕ) → sends port st.acts ≡ []) →
      Owes f.plan m.view s st
  quiet_parks st same holds none = record {
    turn = turn_same (m.view s) st.view same (t.turns s);
    rises = rises_same (m.view s) st.view same;
    kept = kept_same f.plan m.view m.says t s st.view (ap (λ (x : Stance). x.proposed) same);
    held = coming_same f.plan m.view m.says t s st.view holds;
    said = λ pod j port label here. subst (AllByRecursion (IsVoteOfOneThere f.plan.k m.view pod)) (sym (none port)) tt;
    proposals = λ port. subst (AllByRecursion (IsNotPast st.view.proposed)) (sym (none port)) tt;
  }

  module _ (n q port : ℕ) (adjacent : AreAdjacent f.plan n q s port) where
    -- a neighbour of level 0 came to each position up to its present one
    neighbour_comes : (pod j y : ℕ) (id : SwitchId) → IsLabel f.plan.k (Aggregation pod j) → aggregation_no f.plan.k pod j ≡ s →
        (m.view n).id ≡ id → (m.view n).place.level ≡ Some 0 → y ≤ (m.view n).proposed → HasComeTo f.plan.k m.view pod y id
    neighbour_comes pod j y id label here named level far =
        let at = edge_adjacent f.plan n q pod j port is label (subst (λ x. AreAdjacent f.plan n q x port) (sym here) adjacent) ((placed.own n).level 0 level) in
        record {
          i = at.i;
          edge = at.edge;
          named = subst (λ x. (m.view x).id ≡ id) at.at named;
          far = subst (λ x. y ≤ (m.view x).proposed) at.at far;
        }

    message_parks : (id : SwitchId) (msg : Message) → IsGoodMessage (m.view n).id (m.view n).place (has_heard (m.view n) q) (Ldm id msg) →
        Owes f.plan m.view s (hears_message (m.view s) port id msg)
    message_parks id msg good =
        let v = m.view s in let new = after_message v port id msg in let c = changes v new in let st = changes_to v new in
        let same = c.same ∙ same_stance v port id msg in
        record {
          turn = turn_same v st.view same (t.turns s);
          rises = rises_same v st.view same;
          kept = kept_same f.plan m.view m.says t s st.view (ap (λ (x : Stance). x.proposed) same);
          held = λ pod j y hold label here has. heard pod j y hold label here (ap (λ (hs : List (Option Hold)). get_or hs y None) (sym c.holds) ∙ has);
          said = λ pod j p label here. subst (AllByRecursion (IsVoteOfOneThere f.plan.k m.view pod)) (sym (sends_none p st.acts c.unsaid)) tt;
          proposals = λ p. subst (AllByRecursion (IsNotPast st.view.proposed)) (sym (sends_none p st.acts c.unsaid)) tt;
        }
      where
        old : OwesComing f.plan m.view s (m.view s)
        old = coming_same f.plan m.view m.says t s (m.view s) refl

        heard : (pod j y : ℕ) (hold : Hold) → IsLabel f.plan.k (Aggregation pod j) → aggregation_no f.plan.k pod j ≡ s →
            hold_at (after_message (m.view s) port id msg) y ≡ Some hold → HasComeTo f.plan.k m.view pod y hold.edge
        heard pod j y hold label here =
            let u = learnt (m.view s) port id msg in
            cond_both (is_known u.place.level 1 && is_known msg.place.level 0) (notes_position u id msg.place.position) u
            (λ (x : SwitchView). hold_at x y ≡ Some hold → HasComeTo f.plan.k m.view pod y hold.edge)
            (λ h. noted (known_is msg.place.level 0 (and_parts (is_known u.place.level 1) (is_known msg.place.level 0) h).1) msg.place.position refl)
            (λ h. old pod j y hold label here)
          where
            noted : msg.place.level ≡ Some 0 → (position : Option ℕ) → msg.place.position ≡ position →
                hold_at (notes_position (learnt (m.view s) port id msg) id position) y ≡ Some hold → HasComeTo f.plan.k m.view pod y hold.edge
            noted level None told has = old pod j y hold label here has
            noted level (Some p) told has = elim (told_from (learnt (m.view s) port id msg) id p y hold has) [
              | inl was ↦ old pod j y hold label here was
              | inr is_new ↦
                  let present = (t.turns n).fixed p (good.of_sender.so.position p told) in
                  let at = is_new.0 in
                  subst (λ (x : Hold). HasComeTo f.plan.k m.view pod y x.edge) (sym is_new.1)
                  (neighbour_comes pod j y id label here (sym good.of_sender.named) (good.of_sender.so.level 0 level) (omega (arith, present, at)))
            ]

    proposal_parks : (id : SwitchId) (p : Proposed) → IsGoodMessage (m.view n).id (m.view n).place (has_heard (m.view n) q) (Proposal id p) →
        p.position ≤ (m.view n).proposed → Owes f.plan m.view s (hears_proposal (m.view s) port id p)
    proposal_parks id p good far = by (is_answered (m.view s) port p.position) refl
      where
        old : OwesComing f.plan m.view s (m.view s)
        old = coming_same f.plan m.view m.says t s (m.view s) refl

        level : is_answered (m.view s) port p.position ≡ true → (m.view n).place.level ≡ Some 0
        level asked =
            let a = and_parts (is_known (m.view s).place.level 1 && is_known (place_at (m.view s) port).level 0) (nat_lt p.position (half (m.view s).k)) asked in
            let b = and_parts (is_known (m.view s).place.level 1) (is_known (place_at (m.view s) port).level 0) a.0 in
            let near = neighbour_at f.plan m s port 0 is placed (known_is (place_at (m.view s) port).level 0 b.1) in
            let ends = one_peer f.plan s port near.t near.q n q (adjacent_turned f.plan near.t near.q s port is near.adjacent) (adjacent_turned f.plan n q s port is adjacent) in
            subst (λ x. (m.view x).place.level ≡ Some 0) ends.0 near.level

        names : (pod j : ℕ) → IsLabel f.plan.k (Aggregation pod j) → aggregation_no f.plan.k pod j ≡ s → (h : Option Hold) →
            hold_at (frees_others (m.view s) id p.position) p.position ≡ h → IsVoteOfOneThere f.plan.k m.view pod (Vote (m.view s).id (vote_on id p h))
        names pod j label here None was = tt
        names pod j label here (Some hold) was = either (hold.edge.0 == id.0)
          where
            either : (b : Bool) → IsVoteOfOneThere f.plan.k m.view pod (Vote (m.view s).id (if b then record { attempt = p.attempt; position = p.position; granted = true; holder = None; fixed = false }
                else record { attempt = p.attempt; position = p.position; granted = false; holder = Some hold.edge; fixed = hold.fixed }))
            either true = tt
            either false = old pod j p.position hold label here (freed_was (m.view s) id p.position p.position hold was)

        says : (pod j x : ℕ) → IsLabel f.plan.k (Aggregation pod j) → aggregation_no f.plan.k pod j ≡ s →
            AllByRecursion (IsVoteOfOneThere f.plan.k m.view pod) (sends x (answers_proposal (frees_others (m.view s) id p.position) port id p).acts)
        says pod j x label here =
            let sound = placed.sound s there in
            elim (cases_eq port x) [
              | inl same ↦ subst (λ y. AllByRecursion (IsVoteOfOneThere f.plan.k m.view pod) (sends y (answers_proposal (frees_others (m.view s) id p.position) port id p).acts)) same
                  (subst (AllByRecursion (IsVoteOfOneThere f.plan.k m.view pod))
                  (sym (vote_here (m.view s) port id p ∙ vote_said (m.view s) id p sound.named good.writable sound.holders))
                  (names pod j label here (hold_at (frees_others (m.view s) id p.position) p.position) refl, tt))
              | inr other ↦ subst (AllByRecursion (IsVoteOfOneThere f.plan.k m.view pod)) (sym (vote_elsewhere (m.view s) port x id p other)) tt
            ]

        -- a vote is no proposal
        asks : (x : ℕ) → AllByRecursion (IsNotPast (after_proposal (m.view s) id p.position).proposed) (sends x (answers_proposal (frees_others (m.view s) id p.position) port id p).acts)
        asks x =
            let sound = placed.sound s there in
            let bound = (after_proposal (m.view s) id p.position).proposed in
            elim (cases_eq port x) [
              | inl same ↦ subst (λ y. AllByRecursion (IsNotPast bound) (sends y (answers_proposal (frees_others (m.view s) id p.position) port id p).acts)) same
                  (subst (AllByRecursion (IsNotPast bound)) (sym (vote_here (m.view s) port id p ∙ vote_said (m.view s) id p sound.named good.writable sound.holders)) (tt, tt))
              | inr other ↦ subst (AllByRecursion (IsNotPast bound)) (sym (vote_elsewhere (m.view s) port x id p other)) tt
            ]

        by : (b : Bool) → is_answered (m.view s) port p.position ≡ b →
            Owes f.plan m.view s (if◌then◌else◌ {A = SwitchStep} b (answers_proposal (frees_others (m.view s) id p.position) port id p) (rests (m.view s)))
        by false asked = quiet_parks (rests (m.view s)) refl refl (λ x. refl)
        by true asked =
            let new = after_proposal (m.view s) id p.position in
            let same : stance new ≡ stance (m.view s) = cond_both (is_free_for id (hold_at (frees_others (m.view s) id p.position) p.position))
            (holds_for (frees_others (m.view s) id p.position) id p.position) (frees_others (m.view s) id p.position)
            (λ (u : SwitchView). stance u ≡ stance (m.view s)) (λ h. refl) (λ h. refl) in
            record {
              turn = turn_same (m.view s) new same (t.turns s);
              rises = rises_same (m.view s) new same;
              kept = kept_same f.plan m.view m.says t s new (ap (λ (x : Stance). x.proposed) same);
              held = λ pod j y hold label here has. elim (proposal_from (m.view s) id p.position y hold has) [
                | inl was ↦ old pod j y hold label here was
                | inr is_new ↦
                    let at = is_new.0 in
                    subst (λ (x : Hold). HasComeTo f.plan.k m.view pod y x.edge) (sym is_new.1)
                    (neighbour_comes pod j y id label here (sym good.of_sender) (level asked) (omega (arith, far, at)))
              ];
              said = λ pod j x label here. says pod j x label here;
              proposals = asks;
            }

    -- a counted refusal that gives way names one for whom the position is kept
    kept_by_vote : (pod i : ℕ) (vote : Answer) → IsLabel f.plan.k (Edge pod i) → edge_no f.plan.k pod i ≡ s → IsCounted (m.view s) vote → gives_way (m.view s).id vote ≡ true →
        NamesSomeHolder f.plan.k m.view pod vote.position vote.fixed vote.holder → NamesOneThere f.plan.k m.view pod vote.position vote.holder →
        IsKeptFrom f.plan.k m.view pod (m.view s).proposed (m.view s).id
    kept_by_vote pod i vote label here counted way some one = subst (λ x. IsKeptFrom f.plan.k m.view pod x (m.view s).id) counted.position (by vote.fixed vote.holder way some one)
      where
        by : (fixed : Bool) (holder : Option SwitchId) → (fixed || is_smaller holder (m.view s).id) ≡ true → NamesSomeHolder f.plan.k m.view pod vote.position fixed holder →
            NamesOneThere f.plan.k m.view pod vote.position holder → IsKeptFrom f.plan.k m.view pod vote.position (m.view s).id
        by true None way some one = absurd (true≢false some)
        by true (Some holder) way some one = IsFixed some.i some.edge (some.so refl)
        by false None way some one = absurd (true≢false (sym way))
        by false (Some holder) way some one =
            let h = edge_no f.plan.k pod one.i in
            let less = ltb-true holder.0 (m.view s).id.0 way in
            let smaller : (m.view h).id.0 < (m.view s).id.0 = subst (λ (x : SwitchId). x.0 < (m.view s).id.0) (sym one.named) less in
            elim (cases_lt vote.position (m.view h).proposed) [
              | inl past ↦ kept_larger f.plan.k m.view pod vote.position (m.view h).id (m.view s).id smaller (t.kept pod one.i vote.position one.edge past)
              | inr up_to ↦ let far = one.far in IsTried one.i one.edge (omega (arith, far, up_to)) smaller
            ]

    vote_parks : (id : SwitchId) (vote : Answer) →
        ((pod j : ℕ) → IsLabel f.plan.k (Aggregation pod j) → n ≡ aggregation_no f.plan.k pod j →
        NamesSomeHolder f.plan.k m.view pod vote.position vote.fixed vote.holder × NamesOneThere f.plan.k m.view pod vote.position vote.holder) →
        Owes f.plan m.view s (changes_to (m.view s) (after_vote (m.view s) port vote))
    vote_parks id vote names = by (vote_comes (m.view s) port vote)
      where
        v : SwitchView
        v = m.view s

        new : SwitchView
        new = after_vote (m.view s) port vote

        end : SwitchStep
        end = changes_to (m.view s) (after_vote (m.view s) port vote)

        same : stance (changes_to (m.view s) (after_vote (m.view s) port vote)).view ≡ stance (after_vote (m.view s) port vote)
        same = (changes (m.view s) (after_vote (m.view s) port vote)).same

        -- where an edge switch of a pod is s
        kept_here : IsCounted (m.view s) vote → gives_way (m.view s).id vote ≡ true → (pod i : ℕ) → IsLabel f.plan.k (Edge pod i) → edge_no f.plan.k pod i ≡ s →
            IsKeptFrom f.plan.k m.view pod (m.view s).proposed (m.view s).id
        kept_here counted way pod i label here =
            let back = adjacent_turned f.plan n q s port is adjacent in
            let up = leads_up f.plan is pod i port n q label (subst (λ x. AreAdjacent f.plan x port n q) (sym here) back) in
            let ends = same_end f.plan is s port n q (aggregation_no f.plan.k pod up.0) up.2 back (subst (λ x. AreAdjacent f.plan x port (aggregation_no f.plan.k pod up.0) up.2) here up.3) in
            let named = names pod up.0 (label.0, up.1) ends.0 in
            kept_by_vote pod i vote label here counted way named.0 named.1

        each_kept : IsCounted (m.view s) vote → gives_way (m.view s).id vote ≡ true → (pod i : ℕ) → IsLabel f.plan.k (Edge pod i) → edge_no f.plan.k pod i ≡ s →
            (x : ℕ) → x ≤ (m.view s).proposed → IsKeptFrom f.plan.k m.view pod x (m.view s).id
        each_kept counted way pod i label here x low = elim (cases_lt x (m.view s).proposed) [
          | inl before ↦ kept_same f.plan m.view m.says t s (m.view s) refl pod i x label here before
          | inr last ↦ subst (λ y. IsKeptFrom f.plan.k m.view pod y (m.view s).id) (omega (arith, low, last)) (kept_here counted way pod i label here)
        ]

        -- there is a next position
        fits : IsCounted (m.view s) vote → gives_way (m.view s).id vote ≡ true → (m.view s).proposed + 1 < half (m.view s).k
        fits counted way =
            let two = half_at_least f.plan.k is.arity in
            let own = edge_here f.plan.k s (label_of f.plan.k s) refl (label_of-IsLabel f.plan.k s (omega (arith, two)) there) ((placed.own s).level 0 counted.level) in
            let e = edge_no f.plan.k own.0 own.1.i in
            let here : e ≡ s = sym own.1.at in
            let least = room f.plan.k m.view t.turns own.0 own.1.i (m.view s).proposed own.1.edge (subst (λ x. (m.view x).place.position ≡ None) (sym here) counted.none)
            (λ x low. subst (λ y. IsKeptFrom f.plan.k m.view own.0 x (m.view y).id) (sym here) (each_kept counted way own.0 own.1.i own.1.edge here x low)) in
            subst (λ k. (m.view s).proposed + 1 < half k) (sym size) least

        owes : IsInTurn (after_vote (m.view s) port vote) → (m.view s).proposed ≤ (after_vote (m.view s) port vote).proposed →
            ((pod i x : ℕ) → IsLabel f.plan.k (Edge pod i) → edge_no f.plan.k pod i ≡ s → x < (after_vote (m.view s) port vote).proposed →
            IsKeptFrom f.plan.k m.view pod x (m.view s).id) →
            Owes f.plan m.view s (changes_to (m.view s) (after_vote (m.view s) port vote))
        owes turn more kept =
            let c = changes (m.view s) (after_vote (m.view s) port vote) in
            let at = ap (λ (x : Stance). x.proposed) same in
            record {
              turn = turn_same new end.view same turn;
              rises = subst (λ y. (m.view s).proposed ≤ y) (sym at) more;
              kept = λ pod i x label here below. kept pod i x label here (subst (λ y. x < y) at below);
              held = coming_same f.plan m.view m.says t s end.view (c.holds ∙ vote_holds (m.view s) port vote);
              said = λ pod j x label here. subst (AllByRecursion (IsVoteOfOneThere f.plan.k m.view pod)) (sym (sends_none x end.acts c.unsaid)) tt;
              proposals = λ x. subst (AllByRecursion (IsNotPast end.view.proposed)) (sym (sends_none x end.acts c.unsaid)) tt;
            }

        by : Comes (m.view s) vote (after_vote (m.view s) port vote) → Owes f.plan m.view s (changes_to (m.view s) (after_vote (m.view s) port vote))
        by (Stays attempt proposed position) = owes
            (record {
              attempt = attempt ∙ (t.turns s).attempt ∙ ap (λ x. x + 1) (sym proposed);
              fixed = λ x at. (t.turns s).fixed x (sym position ∙ at) ∙ sym proposed;
            })
            (omega (arith, proposed)) (kept_same f.plan m.view m.says t s new proposed)
        by (Fixes attempt proposed position) = owes
            (record {
              attempt = attempt ∙ (t.turns s).attempt ∙ ap (λ x. x + 1) (sym proposed);
              fixed = λ x at. (let one : Some x ≡ Some (m.view s).proposed = sym at ∙ position in cc one) ∙ sym proposed;
            })
            (omega (arith, proposed)) (kept_same f.plan m.view m.says t s new proposed)
        by (GoesOn counted way attempt proposed position) =
            let from_none : (m.view s).proposed + 1 ≡ 0 * half (m.view s).k + ((m.view s).proposed + 1) = omega arith in
            let next : (after_vote (m.view s) port vote).proposed ≡ (m.view s).proposed + 1 =
            proposed ∙ ap (λ x. x % half (m.view s).k) from_none ∙ mod-mul-add 0 (half (m.view s).k) ((m.view s).proposed + 1) (fits counted way) in
            let was = (t.turns s).attempt in
            owes
            (record {
              attempt = omega (arith, attempt, next, was);
              fixed = λ x at. (let one : Some x ≡ None = sym at ∙ position ∙ counted.none in absurd (cc one));
            })
            (omega (arith, next))
            (λ pod i x label here below. each_kept counted way pod i label here x (omega (arith, next, below)))

    hears_parks : (read : Result Control ControlError) → AllByRecursion (IsGoodMessage (m.view n).id (m.view n).place (has_heard (m.view n) q)) (messages_of read) →
        AllByRecursion (IsNotPast (m.view n).proposed) (messages_of read) →
        ((pod j : ℕ) → IsLabel f.plan.k (Aggregation pod j) → n ≡ aggregation_no f.plan.k pod j →
        AllByRecursion (IsTrueVote f.plan.k m.view pod) (messages_of read) × AllByRecursion (IsVoteOfOneThere f.plan.k m.view pod) (messages_of read)) →
        Owes f.plan m.view s (hears_control (m.view s) port read)
    hears_parks (Err e) good far names = quiet_parks (rests (m.view s)) refl refl (λ x. refl)
    hears_parks (Ok (Ldm id msg)) good far names = message_parks id msg good.0
    hears_parks (Ok (Proposal id p)) good far names = proposal_parks id p good.0 far.0
    hears_parks (Ok (Vote id vote)) good far names = vote_parks id vote (λ pod j label at. let both = names pod j label at in (both.0.0, both.1.0))

pub seen_parked : (f g : ControlPlane) → IsPlan f.plan → ArePlaced f.plan f → CanTell f → AreTryingBy f.plan f.view f.says → AreParkedBy f.plan f.view f.says → Seen f g →
    AreParkedBy f.plan g.view g.says
seen_parked f g is placed can tries t (Gone same left) = left_parked f.plan f g same left t
seen_parked f g is placed can tries t (Quiet m s st turn aside ports) =
    let w = left_parked f.plan f m turn.left.view turn.left.says t in
    let u = left_trying f.plan f m turn.left.view turn.left.says tries in
    turned_parked f m g s st turn
    (quiet_parks f m is (left_keeps f.plan f m turn.left placed) u w s turn.there turn.size st aside.same aside.holds (λ port. sends_none port st.acts aside.unsaid)) w
seen_parked f g is placed can tries t (Ticks s turn) =
    let v = f.view s in
    let aside = aside_ages (with_aged_ports v) in
    let says : (port : ℕ) → TickSays (f.view s) (sends port (ticks (f.view s)).acts) = λ port.
    tick_says (f.view s) port (placed.sound s turn.there).named (can.places s turn.there) (can.proposals s turn.there) (λ id told. can.echoes s port id turn.there told) in
    turned_parked f f g s (ticks v) turn (record {
      turn = turn_same v (ticks v).view aside.same (t.turns s);
      rises = rises_same v (ticks v).view aside.same;
      kept = kept_same f.plan f.view f.says t s (ticks v).view (ap (λ (x : Stance). x.proposed) aside.same);
      held = coming_same f.plan f.view f.says t s (ticks v).view aside.holds;
      said = λ pod j port label here. there_tick f.plan.k f.view pod v (sends port (ticks v).acts) (says port);
      proposals = λ port. present_tick v (ticks v).view.proposed (rises_same v (ticks v).view aside.same) (sends port (ticks v).acts) (says port);
    }) t
seen_parked f g is placed can tries t (Hears m n q s port read adjacent taken good turn) =
    let w = left_parked f.plan f m turn.left.view turn.left.says t in
    let u = left_trying f.plan f m turn.left.view turn.left.says tries in
    turned_parked f m g s (hears_control (m.view s) port read) turn
    (hears_parks f m is (left_keeps f.plan f m turn.left placed) u w s turn.there turn.size n q port adjacent read good far names) w
  where
    first : (P : Control → Type 0) → AllByRecursion P (f.says n q) → AllByRecursion P (messages_of read)
    first P all = all_front P (messages_of read) (m.says n q) (subst (AllByRecursion P) taken.first_said all)

    far : AllByRecursion (IsNotPast (m.view n).proposed) (messages_of read)
    far = subst (λ (v : SwitchView). AllByRecursion (IsNotPast v.proposed) (messages_of read)) (sym (turn.left.view n)) (first (IsNotPast (f.view n).proposed) (t.proposals n q))

    names : (pod j : ℕ) → IsLabel f.plan.k (Aggregation pod j) → n ≡ aggregation_no f.plan.k pod j →
        AllByRecursion (IsTrueVote f.plan.k m.view pod) (messages_of read) × AllByRecursion (IsVoteOfOneThere f.plan.k m.view pod) (messages_of read)
    names pod j label at =
        let P = IsTrueVote f.plan.k f.view pod in
        let Q = IsVoteOfOneThere f.plan.k f.view pod in
        let grown : IsGrown f.view m.view = record { id = λ x. ap (λ (y : SwitchView). y.id) (turn.left.view x); later = λ x. rw (turn.left.view x) (true_of_itself (f.view x).place) } in (
          all_weaker P (IsTrueVote f.plan.k m.view pod) (vote_later f.plan.k f.view m.view grown pod) (messages_of read)
              (first P (subst (λ x. AllByRecursion P (f.says x q)) (sym at) (tries.said pod j q label))),
          all_weaker Q (IsVoteOfOneThere f.plan.k m.view pod)
              (there_later f.plan.k f.view m.view grown (λ x. let same = ap (λ (y : SwitchView). y.proposed) (turn.left.view x) in omega (arith, same)) pod) (messages_of read)
              (first Q (subst (λ x. AllByRecursion Q (f.says x q)) (sym at) (t.said pod j q label))),
        )
