-- Each step of a switch, for the votes that it has a part in: as an edge switch, and as an aggregation switch.
use Rattle.std.proofs.Common.{◌≡◌, ℕ, ◌≤◌, Bool, true, false, if◌then◌else◌, List, [], ◌∷◌, ◌++◌, length, get_or, Option, None, Result, Ok, Err, refl, sym, ◌∙◌, ap, subst, subst₂, append-nil, inl, inr}
use Rattle.std.specs.List.{AllByRecursion}
use Rattle.std.proofs.lemmas.Bool.{cases_eq}
use Rattle.pl_frame.specs.declared.address.SwitchId.{SwitchId}
use Rattle.pl_wiring.specs.Plan.{Plan}
use Rattle.pl_layouts.specs.declared.control.Control.{Control}
use Rattle.pl_layouts.specs.declared.control.Control.TheVariants.{Ldm, Proposal, Vote}
use Rattle.pl_layouts.specs.declared.control.ControlError.{ControlError}
use Rattle.pl_layouts.specs.declared.control.Ldm.{Ldm as Message}
use Rattle.pl_layouts.specs.declared.control.Proposal.{Proposal as Proposed}
use Rattle.pl_layouts.specs.declared.control.Vote.{Vote as Answer}
use Rattle.pl_layouts.specs.Control.{sender_of}
use Rattle.pl_ldp.specs.Writable.{IsWritableId, IsWritableControl}
use Rattle.pl_node.specs.declared.acts.Act.{Act}
use Rattle.pl_node.specs.declared.switch_records.Hold.{Hold}
use Rattle.pl_node.specs.SwitchFacts.{hold_at, is_answered}
use Rattle.pl_node.specs.SwitchViews.{SwitchView}
use Rattle.pl_steps.specs.Steps.{SwitchStep, rests, ◌▹◌}
use Rattle.pl_switch_rule.specs.Aging.{ages}
use Rattle.pl_switch_rule.specs.Announcing.{tells_neighbours, ticks}
use Rattle.pl_switch_rule.specs.Levels.{after_message, changes_to, hears_message}
use Rattle.pl_switch_rule.specs.Positions.{after_vote, answers_proposal, frees_others, half, hears_proposal}
use Rattle.pl_switch_rule.specs.SwitchRule.{hears_control}
use Rattle.pl_law_control_plane.specs.ControlPlanes.{messages_of, sends, unless}
use Rattle.pl_law_votes.specs.Counting.{IsCounting, LeadsToAggregation}
use Rattle.pl_law_votes.specs.Pairs.{IsGoodPair, Voter, voter_of}
use Rattle.pl_law_votes.proofs.AggregationTurns.{HoldsIds, answer_to, down_none, down_tick, down_unless, hears_other_message, hears_other_proposal, hears_own_message, hears_own_proposal, message_ids, proposal_ids, proposal_stance, same_stance, vote_elsewhere, vote_here, vote_said}
use Rattle.pl_law_votes.proofs.Aside.{LeavesVotes, aside_ages, changes, stance}
use Rattle.pl_law_votes.proofs.EdgeTurns.{counts_votes, same_counting, same_voter, up_none, up_tick, up_unless, up_vote, vote_holds, votes_here, votes_there}
use Rattle.pl_law_votes.proofs.PairMoves.{answer_gone, head_gone}
use Rattle.pl_law_votes.proofs.Messages.{SaysPlace, SaysProposal, TickSays, sends_append, sends_none}

abbrev pub AreOf : SwitchId → List Control → Type 0
AreOf id said = AllByRecursion (λ c. sender_of c ≡ id) said

-- a step in which no message is heard
pub record IsTurn (v : SwitchView) (s : SwitchStep) : Type 0 where
  pub edge : (port : ℕ) (holds : ℕ → Option Hold) (up down : List Control) (failed : Bool) → IsGoodPair (voter_of v port) holds up down →
      IsGoodPair (voter_of s.view port) holds (up ++ unless failed (sends port s.acts)) down
  pub aggregation : (e : Voter) (port : ℕ) (up down : List Control) (failed : Bool) → IsGoodPair e (hold_at v) up down →
      IsGoodPair e (hold_at s.view) up (down ++ unless failed (sends port s.acts))
  pub named : (port : ℕ) → AreOf v.id (sends port s.acts)
  pub ids : HoldsIds v → HoldsIds s.view
  pub counting : (plan : Plan) (pod n : ℕ) → IsCounting plan pod n v → IsCounting plan pod n s.view

-- a step in which messages of a neighbour of this id are heard at a port
pub record IsHearing (v : SwitchView) (port : ℕ) (from : SwitchId) (first : List Control) (s : SwitchStep) : Type 0 where
  pub edge_here : (holds : ℕ → Option Hold) (up down : List Control) (failed : Bool) → IsGoodPair (voter_of v port) holds up (first ++ down) →
      IsGoodPair (voter_of s.view port) holds (up ++ unless failed (sends port s.acts)) down
  pub edge_there : (p : ℕ) (holds : ℕ → Option Hold) (up down : List Control) (failed : Bool) → (port ≡ p → ⊥) → IsGoodPair (voter_of v p) holds up down →
      IsGoodPair (voter_of s.view p) holds (up ++ unless failed (sends p s.acts)) down
  pub aggregation_here : (e : Voter) (up down : List Control) (failed : Bool) → IsGoodPair e (hold_at v) (first ++ up) down →
      IsGoodPair e (hold_at s.view) up (down ++ unless failed (sends port s.acts))
  pub aggregation_there : (e : Voter) (q : ℕ) (up down : List Control) (failed : Bool) → (port ≡ q → ⊥) → (from.0 ≡ e.id.0 → ⊥) →
      IsGoodPair e (hold_at v) up down → IsGoodPair e (hold_at s.view) up (down ++ unless failed (sends q s.acts))
  pub named : (p : ℕ) → AreOf v.id (sends p s.acts)
  pub ids : HoldsIds v → HoldsIds s.view
  pub counting : (plan : Plan) (pod n : ℕ) → v.k ≡ plan.k → LeadsToAggregation plan pod n port → IsCounting plan pod n v → IsCounting plan pod n s.view

-- What is the same.

edge_same : (v w : SwitchView) (acts : List Act) (p : ℕ) (holds : ℕ → Option Hold) (up down : List Control) (failed : Bool) → stance w ≡ stance v →
    sends p acts ≡ [] → IsGoodPair (voter_of v p) holds up down → IsGoodPair (voter_of w p) holds (up ++ unless failed (sends p acts)) down
edge_same v w acts p holds up down failed same none g =
    subst (λ said. IsGoodPair (voter_of w p) holds (up ++ unless failed said) down) (sym none)
    (up_unless (voter_of w p) holds down [] failed (up_none (voter_of w p) holds down) up
    (subst (λ e. IsGoodPair e holds up down) (sym (same_voter v w same p)) g))

aggregation_same : (v w : SwitchView) (acts : List Act) (e : Voter) (p : ℕ) (up down : List Control) (failed : Bool) → w.holds ≡ v.holds →
    sends p acts ≡ [] → IsGoodPair e (hold_at v) up down → IsGoodPair e (hold_at w) up (down ++ unless failed (sends p acts))
aggregation_same v w acts e p up down failed same none g =
    subst (λ said. IsGoodPair e (hold_at w) up (down ++ unless failed said)) (sym none)
    (down_unless e (hold_at w) up [] failed (down_none e (hold_at w) up) down
    (subst (λ (hs : List (Option Hold)). IsGoodPair e (λ q. get_or hs q None) up down) (sym same) g))

ids_same : (v w : SwitchView) → w.holds ≡ v.holds → HoldsIds v → HoldsIds w
ids_same v w same ids q hold is = ids q hold (ap (λ (hs : List (Option Hold)). get_or hs q None) (sym same) ∙ is)

named_none : (id : SwitchId) (p : ℕ) (acts : List Act) → sends p acts ≡ [] → AreOf id (sends p acts)
named_none id p acts none = subst (AreOf id) (sym none) tt

-- Steps with no message.

pub turn_aside : (v : SwitchView) (s : SwitchStep) → LeavesVotes v s → IsTurn v s
turn_aside v s aside = record {
  edge = λ port holds up down failed g. edge_same v s.view s.acts port holds up down failed aside.same (sends_none port s.acts aside.unsaid) g;
  aggregation = λ e port up down failed g. aggregation_same v s.view s.acts e port up down failed aside.holds (sends_none port s.acts aside.unsaid) g;
  named = λ port. named_none v.id port s.acts (sends_none port s.acts aside.unsaid);
  ids = ids_same v s.view aside.holds;
  counting = λ plan pod n counting. same_counting plan pod n v s.view aside.same counting;
}

named_tick : (v : SwitchView) (said : List Control) → TickSays v said → AreOf v.id said
named_tick v said says = subst (AreOf v.id) (sym says.split) (both says.first says.second (tells says.first says.tells) (asks says.second says.proposes))
  where
    both : (xs ys : List Control) → AreOf v.id xs → AreOf v.id ys → AreOf v.id (xs ++ ys)
    both [] ys a b = b
    both (x ∷ xs) ys a b = (a.0, both xs ys a.1 b)

    tells : (xs : List Control) → SaysPlace v xs → AreOf v.id xs
    tells xs (inl none) = subst (AreOf v.id) (sym none) tt
    tells xs (inr some) = subst (AreOf v.id) (sym some.2) (refl, tt)

    asks : (xs : List Control) → SaysProposal v xs → AreOf v.id xs
    asks xs (inl none) = subst (AreOf v.id) (sym none) tt
    asks xs (inr some) = subst (AreOf v.id) (sym some.1) (refl, tt)

turn_told : (v : SwitchView) → 1 ≤ v.attempt → ((port : ℕ) → TickSays v (sends port (tells_neighbours v).acts)) → IsTurn v (tells_neighbours v)
turn_told v begun says = record {
  edge = λ port holds up down failed g.
      up_unless (voter_of v port) holds down (sends port (tells_neighbours v).acts) failed (up_tick v port holds down (sends port (tells_neighbours v).acts) begun (says port)) up g;
  aggregation = λ e port up down failed g.
      down_unless e (hold_at v) up (sends port (tells_neighbours v).acts) failed (down_tick v e (hold_at v) up (sends port (tells_neighbours v).acts) (says port)) down g;
  named = λ port. named_tick v (sends port (tells_neighbours v).acts) (says port);
  ids = λ ids. ids;
  counting = λ plan pod n counting. same_counting plan pod n v (tells_neighbours v).view refl counting;
}

-- a turn that goes on aside
turn_then : (v : SwitchView) (s : SwitchStep) (next : SwitchView → SwitchStep) → IsTurn v s → LeavesVotes s.view (next s.view) → IsTurn v (s ▹ next)
turn_then v s next turn aside = record {
  edge = λ port holds up down failed g.
      subst₂ (λ (e : Voter) said. IsGoodPair e holds (up ++ unless failed said) down) (sym (same_voter s.view w aside.same port)) (sym (said port))
      (turn.edge port holds up down failed g);
  aggregation = λ e port up down failed g.
      subst₂ (λ (hs : List (Option Hold)) said. IsGoodPair e (λ q. get_or hs q None) up (down ++ unless failed said)) (sym aside.holds) (sym (said port))
      (turn.aggregation e port up down failed g);
  named = λ port. subst (AreOf v.id) (sym (said port)) (turn.named port);
  ids = λ ids. ids_same s.view w aside.holds (turn.ids ids);
  counting = λ plan pod n counting. same_counting plan pod n s.view w aside.same (turn.counting plan pod n counting);
}
  where
    w : SwitchView
    w = (next s.view).view

    said : (port : ℕ) → sends port (s.acts ++ (next s.view).acts) ≡ sends port s.acts
    said port =
        sends_append port s.acts (next s.view).acts ∙ ap (λ zs. sends port s.acts ++ zs) (sends_none port (next s.view).acts aside.unsaid)
        ∙ append-nil (sends port s.acts)

pub turn_tick : (v : SwitchView) → 1 ≤ v.attempt → ((port : ℕ) → TickSays v (sends port (tells_neighbours v).acts)) → IsTurn v (ticks v)
turn_tick v begun says = turn_then v (tells_neighbours v) ages (turn_told v begun says) (aside_ages (tells_neighbours v).view)

-- Messages that are ignored.

pub drop_up : (e : Voter) (holds : ℕ → Option Hold) (first up down : List Control) → IsGoodPair e holds (first ++ up) down → IsGoodPair e holds up down
drop_up e holds [] up down g = g
drop_up e holds (c ∷ first) up down g = drop_up e holds first up down (head_gone e holds c (first ++ up) down g)

pub drop_down : (e : Voter) (holds : ℕ → Option Hold) (up first down : List Control) → IsGoodPair e holds up (first ++ down) → IsGoodPair e holds up down
drop_down e holds up [] down g = g
drop_down e holds up (c ∷ first) down g = drop_down e holds up first down (answer_gone e holds up c (first ++ down) g)

ignoring : (v : SwitchView) (port : ℕ) (from : SwitchId) (first : List Control) → IsHearing v port from first (rests v)
ignoring v port from first = record {
  edge_here = λ holds up down failed g. edge_same v v [] port holds up down failed refl refl (drop_down (voter_of v port) holds up first down g);
  edge_there = λ p holds up down failed other g. edge_same v v [] p holds up down failed refl refl g;
  aggregation_here = λ e up down failed g. aggregation_same v v [] e port up down failed refl refl (drop_up e (hold_at v) first up down g);
  aggregation_there = λ e q up down failed other apart g. aggregation_same v v [] e q up down failed refl refl g;
  named = λ p. tt;
  ids = λ ids. ids;
  counting = λ plan pod n size leads counting. counting;
}

-- Messages that are heard.

hearing_place : (v : SwitchView) (port : ℕ) (id : SwitchId) (m : Message) → IsWritableId id → IsHearing v port id (Ldm id m ∷ []) (hears_message v port id m)
hearing_place v port id m is =
    let s = hears_message v port id m in
    let new = after_message v port id m in
    let c = changes v new in
    let same = c.same ∙ same_stance v port id m in
    record {
      edge_here = λ holds up down failed g.
          edge_same v s.view s.acts port holds up down failed same (sends_none port s.acts c.unsaid) (answer_gone (voter_of v port) holds up (Ldm id m) down g);
      edge_there = λ p holds up down failed other g. edge_same v s.view s.acts p holds up down failed same (sends_none p s.acts c.unsaid) g;
      aggregation_here = λ e up down failed g.
          aggregation_same new s.view s.acts e port up down failed c.holds (sends_none port s.acts c.unsaid) (hears_own_message e v port id m up down g);
      aggregation_there = λ e q up down failed other apart g.
          aggregation_same new s.view s.acts e q up down failed c.holds (sends_none q s.acts c.unsaid) (hears_other_message e v port id m up down apart g);
      named = λ p. named_none v.id p s.acts (sends_none p s.acts c.unsaid);
      ids = λ ids. ids_same new s.view c.holds (message_ids v port id m is ids);
      counting = λ plan pod n size leads counting. same_counting plan pod n v s.view same counting;
    }

-- what is said out of a port where a proposal is heard: nothing, or the vote
proposal_says : (P : List Control → Type 0) (v : SwitchView) (port q : ℕ) (id : SwitchId) (p : Proposed) → IsWritableId v.id → IsWritableControl (Proposal id p) → HoldsIds v →
    P [] → P (Vote v.id (answer_to v id p) ∷ []) → P (sends q (hears_proposal v port id p).acts)
proposal_says P v port q id p is w ids none vote = by (is_answered v port p.position)
  where
    said : (port ≡ q → ⊥) → P (sends q (answers_proposal (frees_others v id p.position) port id p).acts)
    said other = subst P (sym (vote_elsewhere v port q id p other)) none

    here : port ≡ q → P (sends q (answers_proposal (frees_others v id p.position) port id p).acts)
    here same =
        subst (λ x. P (sends x (answers_proposal (frees_others v id p.position) port id p).acts)) same
        (subst P (sym (vote_here v port id p ∙ vote_said v id p is w ids)) vote)

    by : (b : Bool) → P (sends q (if◌then◌else◌ {A = SwitchStep} b (answers_proposal (frees_others v id p.position) port id p) (rests v)).acts)
    by false = none
    by true = elim (cases_eq port q) [ inl same ↦ here same | inr other ↦ said other ]

hearing_proposal : (v : SwitchView) (port : ℕ) (id : SwitchId) (p : Proposed) → IsWritableId v.id → IsWritableId id → IsWritableControl (Proposal id p) → HoldsIds v →
    length v.holds ≡ half v.k → IsHearing v port id (Proposal id p ∷ []) (hears_proposal v port id p)
hearing_proposal v port id p is own w holders many = record {
  edge_here = λ holds up down failed g. says port holds up down failed (answer_gone (voter_of v port) holds up (Proposal id p) down g);
  edge_there = λ q holds up down failed other g. says q holds up down failed g;
  aggregation_here = λ e up down failed g. hears_own_proposal e v port id up down failed p is w holders many g;
  aggregation_there = λ e q up down failed other apart g. hears_other_proposal e v port id up down failed p q other apart g;
  named = λ q. proposal_says (AreOf v.id) v port q id p is w holders tt (refl, tt);
  ids = proposal_ids v port id p own;
  counting = λ plan pod n size leads counting. same_counting plan pod n v (hears_proposal v port id p).view (proposal_stance v port id p) counting;
}
  where
    says : (q : ℕ) (holds : ℕ → Option Hold) (up down : List Control) (failed : Bool) → IsGoodPair (voter_of v q) holds up down →
        IsGoodPair (voter_of (hears_proposal v port id p).view q) holds (up ++ unless failed (sends q (hears_proposal v port id p).acts)) down
    says q holds up down failed g =
        let w1 = (hears_proposal v port id p).view in
        let e = voter_of w1 q in
        proposal_says (λ said. IsGoodPair e holds (up ++ unless failed said) down) v port q id p is w holders
        (up_unless e holds down [] failed (up_none e holds down) up (subst (λ x. IsGoodPair x holds up down) (sym (same_voter v w1 (proposal_stance v port id p) q)) g))
        (up_unless e holds down (Vote v.id (answer_to v id p) ∷ []) failed (up_vote e holds down v.id (answer_to v id p)) up
        (subst (λ x. IsGoodPair x holds up down) (sym (same_voter v w1 (proposal_stance v port id p) q)) g))

hearing_vote : (v : SwitchView) (port : ℕ) (id : SwitchId) (vote : Answer) → IsHearing v port id (Vote id vote ∷ []) (changes_to v (after_vote v port vote))
hearing_vote v port id vote =
    let new = after_vote v port vote in
    let s = changes_to v new in
    let c = changes v new in
    let holds_stay = c.holds ∙ vote_holds v port vote in
    record {
      edge_here = λ holds up down failed g.
          edge_same new s.view s.acts port holds up down failed c.same (sends_none port s.acts c.unsaid) (votes_here v port id vote holds up down g);
      edge_there = λ p holds up down failed other g.
          edge_same new s.view s.acts p holds up down failed c.same (sends_none p s.acts c.unsaid) (votes_there v port p vote holds up down other g);
      aggregation_here = λ e up down failed g.
          aggregation_same v s.view s.acts e port up down failed holds_stay (sends_none port s.acts c.unsaid) (head_gone e (hold_at v) (Vote id vote) up down g);
      aggregation_there = λ e q up down failed other apart g. aggregation_same v s.view s.acts e q up down failed holds_stay (sends_none q s.acts c.unsaid) g;
      named = λ p. named_none v.id p s.acts (sends_none p s.acts c.unsaid);
      ids = ids_same v s.view holds_stay;
      counting = λ plan pod n size leads counting. same_counting plan pod n new s.view c.same (counts_votes plan pod n v port vote size leads counting);
    }

-- a frame comes that may say something of a neighbour
pub hearing : (v : SwitchView) (port : ℕ) (from : SwitchId) (read : Result Control ControlError) (host : Bool) → IsWritableId v.id → IsWritableId from →
    AreOf from (messages_of read) → AllByRecursion IsWritableControl (messages_of read) → HoldsIds v → length v.holds ≡ half v.k →
    IsHearing v port from (messages_of read) (if◌then◌else◌ {A = SwitchStep} host (rests v) (hears_control v port read))
hearing v port from read true is other of written ids many = ignoring v port from (messages_of read)
hearing v port from (Err e) false is other of written ids many = ignoring v port from []
hearing v port from (Ok (Ldm id m)) false is other of written ids many =
    subst (λ x. IsHearing v port x (Ldm id m ∷ []) (hears_message v port id m)) of.0 (hearing_place v port id m (subst IsWritableId (sym of.0) other))
hearing v port from (Ok (Proposal id p)) false is other of written ids many =
    subst (λ x. IsHearing v port x (Proposal id p ∷ []) (hears_proposal v port id p)) of.0
    (hearing_proposal v port id p is (subst IsWritableId (sym of.0) other) written.0 ids many)
hearing v port from (Ok (Vote id vote)) false is other of written ids many =
    subst (λ x. IsHearing v port x (Vote id vote ∷ []) (changes_to v (after_vote v port vote))) of.0 (hearing_vote v port id vote)
