-- What an aggregation switch does in a step keeps the votes between it and each edge switch of its pod in order.
use Rattle.std.proofs.Common.{◌≡◌, ℕ, ◌<◌, ◌==◌, ◌&&◌, not, nat_lt, Bool, true, false, if◌then◌else◌, cond, List, [], ◌∷◌, ◌++◌, length, Option, Some, None, refl, sym, ◌∙◌, ap, subst, inl, inr, append_assoc, append-nil, eq-eqb, ne_eqb, ltb-true}
use Rattle.std.proofs.lemmas.Bool.{and_parts, cond_both}
use Rattle.pl_frame.specs.declared.address.SwitchId.{SwitchId}
use Rattle.pl_layouts.specs.declared.control.Control.{Control}
use Rattle.pl_layouts.specs.declared.control.Control.TheVariants.{Ldm, Proposal, Vote}
use Rattle.pl_layouts.specs.declared.control.Ldm.{Ldm as Message}
use Rattle.pl_layouts.specs.declared.control.Proposal.{Proposal as Proposed}
use Rattle.pl_layouts.specs.declared.control.Vote.{Vote as Answer}
use Rattle.pl_layouts.specs.Control.{control_frame}
use Rattle.pl_layouts.specs.Placement.{is_known}
use Rattle.pl_ldp.specs.Writable.{IsWritableId, IsWritableControl}
use Rattle.pl_node.specs.declared.switch_records.Hold.{Hold}
use Rattle.pl_node.specs.PortRecords.{place_at}
use Rattle.pl_node.specs.SwitchFacts.{hold_at, is_answered}
use Rattle.pl_node.specs.SwitchViews.{SwitchView}
use Rattle.pl_steps.specs.Steps.{SwitchStep, rests}
use Rattle.pl_switch_rule.specs.Levels.{after_message, learns_level, learns_pod, with_message}
use Rattle.pl_switch_rule.specs.Positions.{answers_proposal, frees_others, half, hears_proposal, holds_for, is_free_for, is_held_for, kept_or_new, marked_for, marks, notes_position, vote_on}
use Rattle.pl_law_control_plane.specs.ControlPlanes.{message_in, messages_of, sends, unless}
use Rattle.pl_law_control_plane.proofs.Exports.{grant_writable, refusal_writable}
use Rattle.pl_law_votes.specs.Pairs.{IsGoodPair, Voter}
use Rattle.pl_law_votes.proofs.Aside.{stance}
use Rattle.pl_law_votes.proofs.Holding.{after_proposal, another_proposes, another_tells, freed_is, grant_holds, held_after, own_proposes, own_tells}
use Rattle.pl_law_votes.proofs.PairMoves.{answers, head_gone, hears, hears_another, speaks}
use Rattle.pl_law_votes.proofs.Messages.{SaysPlace, SaysProposal, TickSays, says_written}
use Rattle.pl_switch_rule.proofs.Exports.{proposal_holds}

-- Sending.

abbrev pub GoesDown : Voter → (ℕ → Option Hold) → List Control → List Control → Type 0
GoesDown e holds up said = (down : List Control) → IsGoodPair e holds up down → IsGoodPair e holds up (down ++ said)

pub down_none : (e : Voter) (holds : ℕ → Option Hold) (up : List Control) → GoesDown e holds up []
down_none e holds up down g = subst (λ xs. IsGoodPair e holds up xs) (sym (append-nil down)) g

down_both : (e : Voter) (holds : ℕ → Option Hold) (up xs ys : List Control) → GoesDown e holds up xs → GoesDown e holds up ys → GoesDown e holds up (xs ++ ys)
down_both e holds up xs ys one other down g = subst (λ zs. IsGoodPair e holds up zs) (append_assoc down xs ys) (other (down ++ xs) (one down g))

pub down_unless : (e : Voter) (holds : ℕ → Option Hold) (up said : List Control) (failed : Bool) → GoesDown e holds up said →
    GoesDown e holds up (unless failed said)
down_unless e holds up said true goes = down_none e holds up
down_unless e holds up said false goes = goes

pub down_tick : (v : SwitchView) (e : Voter) (holds : ℕ → Option Hold) (up said : List Control) → TickSays v said → GoesDown e holds up said
down_tick v e holds up said says = subst (GoesDown e holds up) (sym says.split)
    (down_both e holds up says.first says.second (tells says.tells) (asks says.proposes))
  where
    tells : SaysPlace v says.first → GoesDown e holds up says.first
    tells (inl none) = subst (GoesDown e holds up) (sym none) (down_none e holds up)
    tells (inr some) = subst (GoesDown e holds up) (sym some.2) (λ down g. speaks e holds up down (Ldm v.id some.0) tt g)

    asks : SaysProposal v says.second → GoesDown e holds up says.second
    asks (inl none) = subst (GoesDown e holds up) (sym none) (down_none e holds up)
    asks (inr some) = subst (GoesDown e holds up) (sym some.1)
        (λ down g. speaks e holds up down (Proposal v.id (record { attempt = v.attempt; position = v.proposed })) tt g)

-- Votes that are sent.

abbrev pub HoldsIds : SwitchView → Type 0
HoldsIds v = (q : ℕ) (hold : Hold) → hold_at v q ≡ Some hold → IsWritableId hold.edge

-- the vote on a proposal
abbrev pub answer_to : SwitchView → SwitchId → Proposed → Answer
answer_to v edge p = vote_on edge p (hold_at (frees_others v edge p.position) p.position)

freed_ids : (v : SwitchView) (edge : SwitchId) (p : ℕ) → HoldsIds v → HoldsIds (frees_others v edge p)
freed_ids v edge p ids q hold is = either (is_held_for edge (hold_at v q) && not (q == p)) (sym (freed_is v edge p q) ∙ is)
  where
    either : (b : Bool) → cond b None (hold_at v q) ≡ Some hold → IsWritableId hold.edge
    either true none = absurd (cc)
    either false some = ids q hold some

vote_writable : (id sender : SwitchId) (p : Proposed) (h : Option Hold) → IsWritableId id → IsWritableControl (Proposal sender p) →
    ((hold : Hold) → h ≡ Some hold → IsWritableId hold.edge) → IsWritableControl (Vote id (vote_on sender p h))
vote_writable id sender p None is w ids = grant_writable id sender p is w
vote_writable id sender p (Some hold) is w ids = by (hold.edge.0 == sender.0)
  where
    by : (b : Bool) → IsWritableControl (Vote id (if b then record { attempt = p.attempt; position = p.position; granted = true; holder = None; fixed = false }
        else record { attempt = p.attempt; position = p.position; granted = false; holder = Some hold.edge; fixed = hold.fixed }))
    by true = grant_writable id sender p is w
    by false = refusal_writable id sender p hold.edge hold.fixed is (ids hold refl) w

pub vote_said : (v : SwitchView) (sender : SwitchId) (p : Proposed) → IsWritableId v.id → IsWritableControl (Proposal sender p) → HoldsIds v →
    messages_of (message_in (control_frame (Vote v.id (answer_to v sender p)))) ≡ Vote v.id (answer_to v sender p) ∷ []
vote_said v sender p is w ids =
    says_written (Vote v.id (answer_to v sender p))
    (vote_writable v.id sender p (hold_at (frees_others v sender p.position) p.position) is w (λ hold same. freed_ids v sender p.position ids p.position hold same))

vote_attempt : (edge : SwitchId) (p : Proposed) (h : Option Hold) → (vote_on edge p h).attempt ≡ p.attempt
vote_attempt edge p None = refl
vote_attempt edge p (Some hold) = by (hold.edge.0 == edge.0)
  where
    by : (b : Bool) → (if◌then◌else◌ {A = Answer} b (record { attempt = p.attempt; position = p.position; granted = true; holder = None; fixed = false })
        (record { attempt = p.attempt; position = p.position; granted = false; holder = Some hold.edge; fixed = hold.fixed })).attempt ≡ p.attempt
    by true = refl
    by false = refl

-- What a proposal does: nothing, or the holds change and the vote goes back.

-- the votes on a proposal, out of the port it came from and out of others
pub vote_here : (v : SwitchView) (port : ℕ) (edge : SwitchId) (p : Proposed) →
    sends port (answers_proposal (frees_others v edge p.position) port edge p).acts ≡ messages_of (message_in (control_frame (Vote v.id (answer_to v edge p))))
vote_here v port edge p =
    let said = messages_of (message_in (control_frame (Vote v.id (answer_to v edge p)))) in
    ap (λ b. (if b then said else []) ++ []) (eq-eqb port port refl) ∙ append-nil said

pub vote_elsewhere : (v : SwitchView) (port other : ℕ) (edge : SwitchId) (p : Proposed) → (port ≡ other → ⊥) →
    sends other (answers_proposal (frees_others v edge p.position) port edge p).acts ≡ []
vote_elsewhere v port other edge p differ =
    let said = messages_of (message_in (control_frame (Vote v.id (answer_to v edge p)))) in
    ap (λ b. (if b then said else []) ++ []) (ne_eqb port other differ)

-- The aggregation switch hears the edge switch of the pair.

module _ (e : Voter) (v : SwitchView) (port : ℕ) (id : SwitchId) (up down : List Control) (failed : Bool) where
  pub hears_own_proposal : (p : Proposed) → IsWritableId v.id → IsWritableControl (Proposal id p) → HoldsIds v → length v.holds ≡ half v.k →
      IsGoodPair e (hold_at v) (Proposal id p ∷ up) down →
      IsGoodPair e (hold_at (hears_proposal v port id p).view) up (down ++ unless failed (sends port (hears_proposal v port id p).acts))
  hears_own_proposal p is w ids many g = by (is_answered v port p.position) refl
    where
      answered : (b : Bool) → is_answered v port p.position ≡ true →
          IsGoodPair e (hold_at (after_proposal v id p.position)) up (down ++ unless b (Vote v.id (answer_to v id p) ∷ []))
      answered true asked = down_none e (hold_at (after_proposal v id p.position)) up down
          (hears e p.position (hold_at v) (hold_at (after_proposal v id p.position)) (Proposal id p) up down (λ q names. names) (own_proposes e v id p.position) g)
      answered false asked =
          let within = ltb-true p.position (half v.k) (and_parts (is_known v.place.level 1 && is_known (place_at v port).level 0) (nat_lt p.position (half v.k)) asked).1 in
          answers e (hold_at v) (hold_at (after_proposal v id p.position)) id v.id p (answer_to v id p) up down (own_proposes e v id p.position)
          (vote_attempt id p (hold_at (frees_others v id p.position) p.position))
          (λ granted. subst (λ x. is_held_for x (hold_at (after_proposal v id p.position) p.position) ≡ true) g.sent.0.0
          (grant_holds v id p (subst (λ n. p.position < n) (sym many) within) granted))
          g

      by : (b : Bool) → is_answered v port p.position ≡ b →
          IsGoodPair e (hold_at (if◌then◌else◌ {A = SwitchStep} b (answers_proposal (frees_others v id p.position) port id p) (rests v)).view) up
          (down ++ unless failed (sends port (if◌then◌else◌ {A = SwitchStep} b (answers_proposal (frees_others v id p.position) port id p) (rests v)).acts))
      by false asked = down_unless e (hold_at v) up [] failed (down_none e (hold_at v) up) down (head_gone e (hold_at v) (Proposal id p) up down g)
      by true asked = subst (λ said. IsGoodPair e (hold_at (after_proposal v id p.position)) up (down ++ unless failed said))
          (sym (vote_here v port id p ∙ vote_said v id p is w ids)) (answered failed asked)

  -- and another edge switch
  pub hears_other_proposal : (p : Proposed) (q : ℕ) → (port ≡ q → ⊥) → (id.0 ≡ e.id.0 → ⊥) → IsGoodPair e (hold_at v) up down →
      IsGoodPair e (hold_at (hears_proposal v port id p).view) up (down ++ unless failed (sends q (hears_proposal v port id p).acts))
  hears_other_proposal p q elsewhere apart g = by (is_answered v port p.position)
    where
      by : (b : Bool) →
          IsGoodPair e (hold_at (if◌then◌else◌ {A = SwitchStep} b (answers_proposal (frees_others v id p.position) port id p) (rests v)).view) up
          (down ++ unless failed (sends q (if◌then◌else◌ {A = SwitchStep} b (answers_proposal (frees_others v id p.position) port id p) (rests v)).acts))
      by false = down_unless e (hold_at v) up [] failed (down_none e (hold_at v) up) down g
      by true =
          let H = hold_at (after_proposal v id p.position) in
          subst (λ said. IsGoodPair e (hold_at (after_proposal v id p.position)) up (down ++ unless failed said)) (sym (vote_elsewhere v port q id p elsewhere))
          (down_unless e H up [] failed (down_none e H up) down
          (hears_another e (hold_at v) H up down (another_proposes v e.id id p.position apart) g))

-- A message of the edge switch of the pair.

abbrev pub learnt : SwitchView → ℕ → SwitchId → Message → SwitchView
learnt v port id m = learns_pod (learns_level (with_message v port id m) m.place) m.place

pub hears_own_message : (e : Voter) (v : SwitchView) (port : ℕ) (id : SwitchId) (m : Message) (up down : List Control) →
    IsGoodPair e (hold_at v) (Ldm id m ∷ up) down → IsGoodPair e (hold_at (after_message v port id m)) up down
hears_own_message e v port id m up down g =
    cond_both (is_known (learnt v port id m).place.level 1 && is_known m.place.level 0) (notes_position (learnt v port id m) id m.place.position) (learnt v port id m)
    (λ (u : SwitchView). IsGoodPair e (hold_at u) up down)
    (λ h. noted m.place.position refl) (λ h. head_gone e (hold_at v) (Ldm id m) up down g)
  where
    noted : (position : Option ℕ) → m.place.position ≡ position → IsGoodPair e (hold_at (notes_position (learnt v port id m) id position)) up down
    noted None is = head_gone e (hold_at v) (Ldm id m) up down g
    noted (Some p) is =
        hears e p (hold_at v) (hold_at (notes_position (learnt v port id m) id (Some p))) (Ldm id m) up down (λ q names. names p is)
        (own_tells e (learnt v port id m) id p (ap (λ (i : SwitchId). i.0) g.sent.0.0) (g.sent.0.1 p is)) g

pub hears_other_message : (e : Voter) (v : SwitchView) (port : ℕ) (id : SwitchId) (m : Message) (up down : List Control) → (id.0 ≡ e.id.0 → ⊥) →
    IsGoodPair e (hold_at v) up down → IsGoodPair e (hold_at (after_message v port id m)) up down
hears_other_message e v port id m up down apart g =
    cond_both (is_known (learnt v port id m).place.level 1 && is_known m.place.level 0) (notes_position (learnt v port id m) id m.place.position) (learnt v port id m)
    (λ (u : SwitchView). IsGoodPair e (hold_at u) up down)
    (λ h. hears_another e (hold_at v) (hold_at (notes_position (learnt v port id m) id m.place.position)) up down
    (another_tells (learnt v port id m) e.id id m.place.position apart) g)
    (λ h. g)

-- a message changes no stance
pub same_stance : (v : SwitchView) (port : ℕ) (id : SwitchId) (m : Message) → stance (after_message v port id m) ≡ stance v
same_stance v port id m =
    cond_both (is_known (learnt v port id m).place.level 1 && is_known m.place.level 0) (notes_position (learnt v port id m) id m.place.position) (learnt v port id m)
    (λ (u : SwitchView). stance u ≡ stance v) (λ h. noted m.place.position) (λ h. refl)
  where
    noted : (position : Option ℕ) → stance (notes_position (learnt v port id m) id position) ≡ stance v
    noted None = refl
    noted (Some p) = either (nat_lt p (half v.k))
      where
        either : (b : Bool) → stance (if◌then◌else◌ {A = SwitchView} b (marks (frees_others (learnt v port id m) id p) id p) (learnt v port id m)) ≡ stance v
        either true = refl
        either false = refl

-- The ids of holders.

named : (a b : Hold) → Some a ≡ Some b → IsWritableId a.edge → IsWritableId b.edge
named a b same is = let equal : a ≡ b = cc same in subst (λ (x : Hold). IsWritableId x.edge) equal is

pub message_ids : (v : SwitchView) (port : ℕ) (id : SwitchId) (m : Message) → IsWritableId id → HoldsIds v → HoldsIds (after_message v port id m)
message_ids v port id m is ids =
    cond_both (is_known (learnt v port id m).place.level 1 && is_known m.place.level 0) (notes_position (learnt v port id m) id m.place.position) (learnt v port id m)
    HoldsIds (λ h. noted m.place.position) (λ h. ids)
  where
    new : (p : ℕ) (h : Option Hold) → ((hold : Hold) → h ≡ Some hold → IsWritableId hold.edge) → (hold : Hold) → marked_for id h ≡ Some hold → IsWritableId hold.edge
    new p None old hold same = named (record { edge = id; fixed = true }) hold same is
    new p (Some h) old hold same = either (h.edge.0 == id.0) same
      where
        either : (b : Bool) → cond b (Some (record { edge = id; fixed = true })) (Some h) ≡ Some hold → IsWritableId hold.edge
        either true same = named (record { edge = id; fixed = true }) hold same is
        either false same = old hold same

    noted : (position : Option ℕ) → HoldsIds (notes_position (learnt v port id m) id position)
    noted None = ids
    noted (Some p) =
        let w = frees_others (learnt v port id m) id p in
        cond_both (nat_lt p (half v.k)) (marks w id p) (learnt v port id m) HoldsIds
        (λ h. held_after (λ x. IsWritableId x.edge) w p (marked_for id (hold_at w p)) (freed_ids (learnt v port id m) id p ids)
        (new p (hold_at w p) (freed_ids (learnt v port id m) id p ids p)))
        (λ h. ids)

pub proposal_ids : (v : SwitchView) (port : ℕ) (id : SwitchId) (p : Proposed) → IsWritableId id → HoldsIds v → HoldsIds (hears_proposal v port id p).view
proposal_ids v port id p is ids = by (is_answered v port p.position)
  where
    new : (h : Option Hold) → ((hold : Hold) → h ≡ Some hold → IsWritableId hold.edge) → (hold : Hold) → kept_or_new id h ≡ Some hold → IsWritableId hold.edge
    new None old hold same = named (record { edge = id; fixed = false }) hold same is
    new (Some h) old hold same = old hold same

    by : (b : Bool) → HoldsIds (if◌then◌else◌ {A = SwitchStep} b (answers_proposal (frees_others v id p.position) port id p) (rests v)).view
    by false = ids
    by true =
        let w = frees_others v id p.position in
        cond_both (is_free_for id (hold_at w p.position)) (holds_for w id p.position) w HoldsIds
        (λ h. held_after (λ x. IsWritableId x.edge) w p.position (kept_or_new id (hold_at w p.position)) (freed_ids v id p.position ids)
        (new (hold_at w p.position) (freed_ids v id p.position ids p.position)))
        (λ h. freed_ids v id p.position ids)

-- a proposal changes no stance
pub proposal_stance : (v : SwitchView) (port : ℕ) (id : SwitchId) (p : Proposed) → stance (hears_proposal v port id p).view ≡ stance v
proposal_stance v port id p = ap stance (proposal_holds v port id p)
