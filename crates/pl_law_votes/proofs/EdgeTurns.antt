-- What an edge switch does in a step keeps the votes between it and each aggregation switch in order.
use Rattle.std.proofs.Common.{◌≡◌, ℕ, ◌+◌, ◌*◌, ◌%◌, ◌<◌, ◌≤◌, ◌==◌, ◌&&◌, nat_cmp, Bool, true, false, if◌then◌else◌, List, [], ◌∷◌, ◌++◌, length, Option, Some, None, is_none, refl, sym, ◌∙◌, ap, subst, inl, inr, append_assoc, append-nil, eqb-true, ltb-true}
use Rattle.std.specs.List.{AllByRecursion, list_any}
use Rattle.std.specs.BTreeSet.{insert_key}
use Rattle.std.proofs.lemmas.Bool.{and_parts}
use Rattle.pl_lemmas.proofs.Exports.{all_push, is_none_is}
use Rattle.pl_frame.specs.declared.address.SwitchId.{SwitchId}
use Rattle.pl_wiring.specs.Plan.{Plan}
use Rattle.pl_layouts.specs.declared.control.Control.{Control}
use Rattle.pl_layouts.specs.declared.control.Control.TheVariants.{Ldm, Proposal, Vote}
use Rattle.pl_layouts.specs.declared.control.Vote.{Vote as Answer}
use Rattle.pl_layouts.specs.Placement.{is_known}
use Rattle.pl_layouts.specs.Votes.{counts, gives_way}
use Rattle.pl_node.specs.declared.switch_records.Hold.{Hold}
use Rattle.pl_node.specs.SwitchViews.{SwitchView}
use Rattle.pl_switch_rule.specs.Positions.{after_vote, counted, fixes_position, half, is_majority, moves_on, with_granted}
use Rattle.pl_law_control_plane.specs.ControlPlanes.{unless}
use Rattle.pl_law_votes.specs.Counting.{AreNumbersRising, IsCounting, LeadsToAggregation}
use Rattle.pl_law_votes.specs.Pairs.{IsGoodPair, IsRising, IsNoProposal, IsNotBefore, Voter, voter_of}
use Rattle.pl_law_votes.proofs.Aside.{Stance, stance}
use Rattle.pl_law_votes.proofs.Granted.{all_with, has_new, has_old, rising_with}
use Rattle.pl_law_votes.proofs.PairMoves.{announces, answer_gone, counts_here, fixes, moves_on as pair_moves_on, proposes, pushed}
use Rattle.pl_law_votes.proofs.Messages.{SaysPlace, SaysProposal, TickSays}

-- Sending.

-- these messages may go up
abbrev pub GoesUp : Voter → (ℕ → Option Hold) → List Control → List Control → Type 0
GoesUp e holds down said = (up : List Control) → IsGoodPair e holds up down → IsGoodPair e holds (up ++ said) down

pub up_none : (e : Voter) (holds : ℕ → Option Hold) (down : List Control) → GoesUp e holds down []
up_none e holds down up g = subst (λ xs. IsGoodPair e holds xs down) (sym (append-nil up)) g

up_both : (e : Voter) (holds : ℕ → Option Hold) (down xs ys : List Control) → GoesUp e holds down xs → GoesUp e holds down ys → GoesUp e holds down (xs ++ ys)
up_both e holds down xs ys one other up g = subst (λ zs. IsGoodPair e holds zs down) (append_assoc up xs ys) (other (up ++ xs) (one up g))

pub up_unless : (e : Voter) (holds : ℕ → Option Hold) (down said : List Control) (failed : Bool) → GoesUp e holds down said →
    GoesUp e holds down (unless failed said)
up_unless e holds down said true goes = up_none e holds down
up_unless e holds down said false goes = goes

pub up_tick : (v : SwitchView) (port : ℕ) (holds : ℕ → Option Hold) (down said : List Control) → 1 ≤ v.attempt → TickSays v said →
    GoesUp (voter_of v port) holds down said
up_tick v port holds down said begun says = subst (GoesUp e holds down) (sym says.split)
    (up_both e holds down says.first says.second (tells says.tells) (asks says.proposes))
  where
    e : Voter
    e = voter_of v port

    tells : SaysPlace v says.first → GoesUp (voter_of v port) holds down says.first
    tells (inl none) = subst (GoesUp (voter_of v port) holds down) (sym none) (up_none (voter_of v port) holds down)
    tells (inr some) = subst (GoesUp (voter_of v port) holds down) (sym some.2)
        (λ up g. announces (voter_of v port) holds up down some.0 (ap (λ place. place.position) some.1) g)

    asks : SaysProposal v says.second → GoesUp (voter_of v port) holds down says.second
    asks (inl none) = subst (GoesUp (voter_of v port) holds down) (sym none) (up_none (voter_of v port) holds down)
    asks (inr some) = subst (GoesUp (voter_of v port) holds down) (sym some.1)
        (λ up g. proposes (voter_of v port) holds up down some.0 begun g)

rising_answered : (up : List Control) (id : SwitchId) (vote : Answer) → IsRising up → IsRising (up ++ Vote id vote ∷ [])
rising_answered [] id vote h = tt
rising_answered (Ldm i n ∷ up) id vote h = (λ q told. all_push IsNoProposal up (Vote id vote) (h.0 q told) tt, rising_answered up id vote h.1)
rising_answered (Proposal i p ∷ up) id vote h = (all_push (IsNotBefore p.attempt) up (Vote id vote) h.0 tt, rising_answered up id vote h.1)
rising_answered (Vote i v ∷ up) id vote h = rising_answered up id vote h

pub up_vote : (e : Voter) (holds : ℕ → Option Hold) (down : List Control) (id : SwitchId) (vote : Answer) → GoesUp e holds down (Vote id vote ∷ [])
up_vote e holds down id vote up g = pushed e holds up down (Vote id vote) tt tt (rising_answered up id vote g.rising) g

-- The same stance.

abbrev voter_in : Stance → ℕ → Voter
voter_in s port = record { id = s.id; position = s.position; attempt = s.attempt; proposed = s.proposed; granted = list_any (λ p. p == port) s.granted }

pub same_voter : (v w : SwitchView) → stance w ≡ stance v → (port : ℕ) → voter_of w port ≡ voter_of v port
same_voter v w same port = ap (λ s. voter_in s port) same

pub same_counting : (plan : Plan) (pod s : ℕ) (v w : SwitchView) → stance w ≡ stance v → IsCounting plan pod s v → IsCounting plan pod s w
same_counting plan pod s v w same counting = let ports = ap (λ (x : Stance). x.granted) same in record {
  once = subst (λ xs. AreNumbersRising xs) (sym ports) counting.once;
  leads = subst (λ xs. AllByRecursion (LeadsToAggregation plan pod s) xs) (sym ports) counting.leads;
  most = λ q fixed. subst (λ xs. half plan.k < 2 * length xs) (sym ports) (counting.most q (sym (ap (λ (x : Stance). x.position) same) ∙ fixed));
}

-- Counting votes.

-- what a vote that counts says of the switch
counts_says : (v : SwitchView) (vote : Answer) → counts v.place v.attempt v.proposed vote ≡ true → (v.place.position ≡ None) × (vote.attempt ≡ v.attempt)
counts_says v vote h =
    let a = and_parts (is_known v.place.level 0 && is_none v.place.position && (vote.attempt == v.attempt)) (vote.position == v.proposed) h in
    let b = and_parts (is_known v.place.level 0 && is_none v.place.position) (vote.attempt == v.attempt) a.0 in
    let c = and_parts (is_known v.place.level 0) (is_none v.place.position) b.0 in
    (is_none_is v.place.position c.1, eqb-true vote.attempt v.attempt b.1)

-- the edge switch with this grant, fixed or not
abbrev granted_voter : SwitchView → Bool → Bool → Voter
granted_voter v fixed granted =
    record { id = v.id; position = if fixed then Some v.proposed else v.place.position; attempt = v.attempt; proposed = v.proposed; granted = granted }

may_fix : (v : SwitchView) (granted : Bool) (holds : ℕ → Option Hold) (up down : List Control) → v.place.position ≡ None →
    IsGoodPair (granted_voter v false granted) holds up down → (fixed : Bool) → IsGoodPair (granted_voter v fixed granted) holds up down
may_fix v granted holds up down none g false = g
may_fix v granted holds up down none g true = fixes (granted_voter v false granted) holds up down none g

may_move_on : (v : SwitchView) (p : ℕ) (holds : ℕ → Option Hold) (up down : List Control) → v.place.position ≡ None →
    IsGoodPair (voter_of v p) holds up down → IsGoodPair (voter_of (moves_on v) p) holds up down
may_move_on v p holds up down none g = by (v.attempt == 4294967295)
  where
    by : (b : Bool) → IsGoodPair (voter_of (if◌then◌else◌ {A = SwitchView} b v (record v { attempt = v.attempt + 1; proposed = (v.proposed + 1) % half v.k; granted = [] })) p) holds up down
    by true = g
    by false = pair_moves_on (voter_of v p) ((v.proposed + 1) % half v.k) holds up down none g

-- a vote comes from this port
pub votes_here : (v : SwitchView) (port : ℕ) (giver : SwitchId) (vote : Answer) (holds : ℕ → Option Hold) (up down : List Control) →
    IsGoodPair (voter_of v port) holds up (Vote giver vote ∷ down) → IsGoodPair (voter_of (after_vote v port vote) port) holds up down
votes_here v port giver vote holds up down g = by (counts v.place v.attempt v.proposed vote) refl
  where
    gone : IsGoodPair (voter_of v port) holds up down
    gone = answer_gone (voter_of v port) holds up (Vote giver vote) down g

    granted : vote.granted ≡ true → (v.place.position ≡ None) × (vote.attempt ≡ v.attempt) →
        IsGoodPair (voter_of (fixes_position (with_granted v port)) port) holds up down
    granted is says =
        let one = counts_here (voter_of v port) holds up giver vote down is says.1 g in
        subst (λ t. IsGoodPair (granted_voter v (is_majority (with_granted v port)) t) holds up down) (sym (has_new port v.granted))
        (may_fix v true holds up down says.0 one (is_majority (with_granted v port)))

    by_grant : (b c : Bool) → vote.granted ≡ b → (v.place.position ≡ None) × (vote.attempt ≡ v.attempt) →
        IsGoodPair (voter_of (if◌then◌else◌ {A = SwitchView} b (fixes_position (with_granted v port)) (if c then moves_on v else v)) port) holds up down
    by_grant true c is says = granted is says
    by_grant false true is says = may_move_on v port holds up down says.0 (answer_gone (voter_of v port) holds up (Vote giver vote) down g)
    by_grant false false is says = answer_gone (voter_of v port) holds up (Vote giver vote) down g

    by : (b : Bool) → counts v.place v.attempt v.proposed vote ≡ b →
        IsGoodPair (voter_of (if◌then◌else◌ {A = SwitchView} b (counted v port vote) v) port) holds up down
    by true is = by_grant vote.granted (gives_way v.id vote) refl (counts_says v vote is)
    by false is = answer_gone (voter_of v port) holds up (Vote giver vote) down g

-- a vote comes from another port
pub votes_there : (v : SwitchView) (port p : ℕ) (vote : Answer) (holds : ℕ → Option Hold) (up down : List Control) → (port ≡ p → ⊥) →
    IsGoodPair (voter_of v p) holds up down → IsGoodPair (voter_of (after_vote v port vote) p) holds up down
votes_there v port p vote holds up down differ g = by (counts v.place v.attempt v.proposed vote) refl
  where
    by_grant : (b c : Bool) → (v.place.position ≡ None) × (vote.attempt ≡ v.attempt) →
        IsGoodPair (voter_of (if◌then◌else◌ {A = SwitchView} b (fixes_position (with_granted v port)) (if c then moves_on v else v)) p) holds up down
    by_grant true c says =
        subst (λ t. IsGoodPair (granted_voter v (is_majority (with_granted v port)) t) holds up down) (sym (has_old port p differ v.granted))
        (may_fix v (list_any (λ r. r == p) v.granted) holds up down says.0 g (is_majority (with_granted v port)))
    by_grant false true says = may_move_on v p holds up down says.0 g
    by_grant false false says = g

    by : (b : Bool) → counts v.place v.attempt v.proposed vote ≡ b →
        IsGoodPair (voter_of (if◌then◌else◌ {A = SwitchView} b (counted v port vote) v) p) holds up down
    by true is = by_grant vote.granted (gives_way v.id vote) (counts_says v vote is)
    by false is = g

-- and the edge switch counts it
pub counts_votes : (plan : Plan) (pod s : ℕ) (v : SwitchView) (port : ℕ) (vote : Answer) → v.k ≡ plan.k → LeadsToAggregation plan pod s port →
    IsCounting plan pod s v → IsCounting plan pod s (after_vote v port vote)
counts_votes plan pod s v port vote size leads counting = by (counts v.place v.attempt v.proposed vote) refl
  where
    never : (q : ℕ) → v.place.position ≡ None → v.place.position ≡ Some q → ⊥
    never q none some = absurd (cc (none, some))

    granted : v.place.position ≡ None → (b : Bool) → is_majority (with_granted v port) ≡ b →
        IsCounting plan pod s (record (with_granted v port) { place = record v.place { position = if b then Some v.proposed else v.place.position } })
    granted none b is = record {
      once = rising_with port v.granted counting.once;
      leads = all_with (LeadsToAggregation plan pod s) port v.granted leads counting.leads;
      most = most b is;
    }
      where
        most : (b : Bool) → is_majority (with_granted v port) ≡ b → (q : ℕ) → (if b then Some v.proposed else v.place.position) ≡ Some q →
            half plan.k < 2 * length (insert_key nat_cmp v.granted port)
        most true is q fixed =
            subst (λ k. half k < 2 * length (insert_key nat_cmp v.granted port)) size
            (ltb-true (half v.k) (2 * length (insert_key nat_cmp v.granted port)) is)
        most false is q fixed = absurd (never q none fixed)

    moved : v.place.position ≡ None → (b : Bool) → IsCounting plan pod s (if◌then◌else◌ {A = SwitchView} b v (record v { attempt = v.attempt + 1; proposed = (v.proposed + 1) % half v.k; granted = [] }))
    moved none true = counting
    moved none false = record { once = tt; leads = tt; most = λ q fixed. absurd (never q none fixed) }

    by_grant : (b c : Bool) → v.place.position ≡ None →
        IsCounting plan pod s (if◌then◌else◌ {A = SwitchView} b (fixes_position (with_granted v port)) (if c then moves_on v else v))
    by_grant true c none = granted none (is_majority (with_granted v port)) refl
    by_grant false true none = moved none (v.attempt == 4294967295)
    by_grant false false none = counting

    by : (b : Bool) → counts v.place v.attempt v.proposed vote ≡ b → IsCounting plan pod s (if◌then◌else◌ {A = SwitchView} b (counted v port vote) v)
    by true is = by_grant vote.granted (gives_way v.id vote) (counts_says v vote is).0
    by false is = counting

-- votes change nothing that is held
pub vote_holds : (v : SwitchView) (port : ℕ) (vote : Answer) → (after_vote v port vote).holds ≡ v.holds
vote_holds v port vote = by (counts v.place v.attempt v.proposed vote) vote.granted (gives_way v.id vote) (v.attempt == 4294967295)
  where
    by : (a b c d : Bool) → (if◌then◌else◌ {A = SwitchView} a (if b then fixes_position (with_granted v port) else if c then (if d then v else record v { attempt = v.attempt + 1; proposed = (v.proposed + 1) % half v.k; granted = [] }) else v) v).holds ≡ v.holds
    by false b c d = refl
    by true true c d = refl
    by true false false d = refl
    by true false true true = refl
    by true false true false = refl
