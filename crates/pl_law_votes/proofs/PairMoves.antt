-- What may happen between an edge switch and an aggregation switch keeps their votes in order.
use Rattle.std.proofs.Common.{◌≡◌, ℕ, ◌+◌, ◌≤◌, true, false, List, [], ◌∷◌, ◌++◌, Option, Some, None, refl, sym, ◌∙◌, subst, arith, inl, inr, ◌⊎◌}
use Rattle.std.specs.List.{AllByRecursion}
use Rattle.pl_lemmas.proofs.Exports.{all_push, all_weaker}
use Rattle.pl_frame.specs.declared.address.SwitchId.{SwitchId}
use Rattle.pl_layouts.specs.declared.control.Control.{Control}
use Rattle.pl_layouts.specs.declared.control.Control.TheVariants.{Ldm, Proposal, Vote}
use Rattle.pl_layouts.specs.declared.control.Ldm.{Ldm as Message}
use Rattle.pl_layouts.specs.declared.control.Proposal.{Proposal as Proposed}
use Rattle.pl_layouts.specs.declared.control.Vote.{Vote as Answer}
use Rattle.pl_node.specs.declared.switch_records.Hold.{Hold}
use Rattle.pl_switch_rule.specs.Positions.{is_held_for}
use Rattle.pl_law_votes.specs.Pairs.{Voter, IsFromVoter, IsNotBefore, IsNoProposal, IsRising, Names, IsSecure, IsSoundVote, IsGoodPair}

none_is_not_some : {X : Type 0} (o : Option X) (x : X) → o ≡ None → o ≡ Some x → ⊥
none_is_not_some o x none some = absurd (cc (none, some))

rising_announced : (up : List Control) (id : SwitchId) (m : Message) → IsRising up → IsRising (up ++ Ldm id m ∷ [])
rising_announced [] id m h = (λ q told. tt, tt)
rising_announced (Ldm i n ∷ up) id m h = (λ q told. all_push IsNoProposal up (Ldm id m) (h.0 q told) tt, rising_announced up id m h.1)
rising_announced (Proposal i p ∷ up) id m h = (all_push (IsNotBefore p.attempt) up (Ldm id m) h.0 tt, rising_announced up id m h.1)
rising_announced (Vote i v ∷ up) id m h = rising_announced up id m h

rising_proposed : (e : Voter) (up : List Control) (id : SwitchId) (q : ℕ) → e.position ≡ None → AllByRecursion (IsFromVoter e) up → IsRising up →
    IsRising (up ++ Proposal id (record { attempt = e.attempt; position = q }) ∷ [])
rising_proposed e [] id q none sent h = (tt, tt)
rising_proposed e (Ldm i n ∷ up) id q none sent h =
    (λ x told. absurd (none_is_not_some e.position x none (sent.0.1 x told)), rising_proposed e up id q none sent.1 h.1)
rising_proposed e (Proposal i p ∷ up) id q none sent h = (
  all_push (IsNotBefore p.attempt) up (Proposal id (record { attempt = e.attempt; position = q })) h.0 sent.0.2,
  rising_proposed e up id q none sent.1 h.1,
)
rising_proposed e (Vote i v ∷ up) id q none sent h = rising_proposed e up id q none sent.1 h

secure_pushed : (id : SwitchId) (q : ℕ) (holds : ℕ → Option Hold) (up : List Control) (c : Control) → Names q c → IsSecure id q holds up →
    IsSecure id q holds (up ++ c ∷ [])
secure_pushed id q holds up c names secure = record { held = secure.held; named = all_push (Names q) up c secure.named names }

-- what is sound stays so where what is secure stays so
sound_still : (e : Voter) (holds H : ℕ → Option Hold) (up now : List Control) →
    (IsSecure e.id e.proposed holds up → IsSecure e.id e.proposed H now) →
    (c : Control) → IsSoundVote e holds up c → IsSoundVote e H now c
sound_still e holds H up now still (Ldm id m) h = tt
sound_still e holds H up now still (Proposal id p) h = tt
sound_still e holds H up now still (Vote id v) h = (h.0, λ grants present. still (h.1 grants present))

-- the edge switch sends something
pub pushed : (e : Voter) (holds : ℕ → Option Hold) (up down : List Control) (c : Control) → IsFromVoter e c → Names e.proposed c → IsRising (up ++ c ∷ []) →
    IsGoodPair e holds up down → IsGoodPair e holds (up ++ c ∷ []) down
pushed e holds up down c sent names rising g = record {
  fixed = g.fixed;
  sent = all_push (IsFromVoter e) up c g.sent sent;
  rising = rising;
  sound = all_weaker (IsSoundVote e holds up) (IsSoundVote e holds (up ++ c ∷ []))
      (sound_still e holds holds up (up ++ c ∷ []) (secure_pushed e.id e.proposed holds up c names)) down g.sound;
  counted = λ is. secure_pushed e.id e.proposed holds up c names (g.counted is);
  marks = g.marks;
}

pub announces : (e : Voter) (holds : ℕ → Option Hold) (up down : List Control) (m : Message) → m.place.position ≡ e.position →
    IsGoodPair e holds up down → IsGoodPair e holds (up ++ Ldm e.id m ∷ []) down
announces e holds up down m same g =
    pushed e holds up down (Ldm e.id m) (refl, λ q told. sym same ∙ told) (λ q told. g.fixed q (sym same ∙ told)) (rising_announced up e.id m g.rising) g

pub proposes : (e : Voter) (holds : ℕ → Option Hold) (up down : List Control) → e.position ≡ None → 1 ≤ e.attempt →
    IsGoodPair e holds up down → IsGoodPair e holds (up ++ Proposal e.id (record { attempt = e.attempt; position = e.proposed }) ∷ []) down
proposes e holds up down none first g =
    pushed e holds up down (Proposal e.id (record { attempt = e.attempt; position = e.proposed })) (refl, first, omega arith, λ is. refl) refl
    (rising_proposed e up e.id e.proposed none g.sent g.rising) g

-- the head of the queue up goes
rising_rest : (c : Control) (up : List Control) → IsRising (c ∷ up) → IsRising up
rising_rest (Ldm id m) up h = h.1
rising_rest (Proposal id p) up h = h.1
rising_rest (Vote id v) up h = h

secure_rest : (id : SwitchId) (q : ℕ) (holds : ℕ → Option Hold) (c : Control) (up : List Control) → IsSecure id q holds (c ∷ up) → IsSecure id q holds up
secure_rest id q holds c up secure = record { held = secure.held; named = secure.named.1 }

pub head_gone : (e : Voter) (holds : ℕ → Option Hold) (c : Control) (up down : List Control) → IsGoodPair e holds (c ∷ up) down → IsGoodPair e holds up down
head_gone e holds c up down g = record {
  fixed = g.fixed;
  sent = g.sent.1;
  rising = rising_rest c up g.rising;
  sound = all_weaker (IsSoundVote e holds (c ∷ up)) (IsSoundVote e holds up) (sound_still e holds holds (c ∷ up) up (secure_rest e.id e.proposed holds c up)) down g.sound;
  counted = λ is. secure_rest e.id e.proposed holds c up (g.counted is);
  marks = g.marks;
}

-- the head of the queue down goes
pub answer_gone : (e : Voter) (holds : ℕ → Option Hold) (up : List Control) (c : Control) (down : List Control) →
    IsGoodPair e holds up (c ∷ down) → IsGoodPair e holds up down
answer_gone e holds up c down g =
    record { fixed = g.fixed; sent = g.sent; rising = g.rising; sound = g.sound.1; counted = g.counted; marks = g.marks }

-- both queues are emptied
pub emptied : (e : Voter) (holds : ℕ → Option Hold) (up down : List Control) → IsGoodPair e holds up down → IsGoodPair e holds [] []
emptied e holds up down g = record {
  fixed = g.fixed;
  sent = tt;
  rising = tt;
  sound = tt;
  counted = λ is. record { held = (g.counted is).held; named = tt };
  marks = g.marks;
}

pub emptied_up : (e : Voter) (holds : ℕ → Option Hold) (up down : List Control) → IsGoodPair e holds up down → IsGoodPair e holds [] down
emptied_up e holds [] down g = g
emptied_up e holds (c ∷ up) down g = emptied_up e holds up down (head_gone e holds c up down g)

pub emptied_down : (e : Voter) (holds : ℕ → Option Hold) (up down : List Control) → IsGoodPair e holds up down → IsGoodPair e holds up []
emptied_down e holds up [] g = g
emptied_down e holds up (c ∷ down) g = emptied_down e holds up down (answer_gone e holds up c down g)

-- the aggregation switch says something that is sound
pub speaks : (e : Voter) (holds : ℕ → Option Hold) (up down : List Control) (c : Control) → IsSoundVote e holds up c →
    IsGoodPair e holds up down → IsGoodPair e holds up (down ++ c ∷ [])
speaks e holds up down c sound g = record {
  fixed = g.fixed;
  sent = g.sent;
  rising = g.rising;
  sound = all_push (IsSoundVote e holds up) down c g.sound sound;
  counted = g.counted;
  marks = g.marks;
}

-- the position is marked as fixed for the edge switch
abbrev pub IsMarked : SwitchId → Option Hold → Type 0
IsMarked id held = (hold : Hold) × (held ≡ Some hold) × (hold.edge.0 ≡ id.0) × (hold.fixed ≡ true)

-- What is held for an edge switch at a position stays, and what is marked there for it was.
pub record IsKeptHold (id : SwitchId) (old new : Option Hold) : Type 0 where
  pub stays : is_held_for id old ≡ true → is_held_for id new ≡ true
  pub marks : IsMarked id new → IsMarked id old

-- and so it is at each position
abbrev pub IsKept : SwitchId → (ℕ → Option Hold) → (ℕ → Option Hold) → Type 0
IsKept id old new = (q : ℕ) → IsKeptHold id (old q) (new q)

secure_kept : (id : SwitchId) (q : ℕ) (holds H : ℕ → Option Hold) (up : List Control) → IsKept id holds H → IsSecure id q holds up → IsSecure id q H up
secure_kept id q holds H up kept secure = record { held = (kept q).stays secure.held; named = secure.named }

-- the aggregation switch hears another switch
pub hears_another : (e : Voter) (holds H : ℕ → Option Hold) (up down : List Control) → IsKept e.id holds H →
    IsGoodPair e holds up down → IsGoodPair e H up down
hears_another e holds H up down kept g = record {
  fixed = g.fixed;
  sent = g.sent;
  rising = g.rising;
  sound = all_weaker (IsSoundVote e holds up) (IsSoundVote e H up) (sound_still e holds H up up (secure_kept e.id e.proposed holds H up kept)) down g.sound;
  counted = λ is. secure_kept e.id e.proposed holds H up kept (g.counted is);
  marks = λ q hold is own fixed.
      let was = (kept q).marks (hold, is, own, fixed) in
      g.marks q was.0 was.1 was.2 was.3;
}

-- What an aggregation switch holds for an edge switch after it heard a message for a position: that one stays, and a new mark is for a fixed one.
pub record IsKeptAt (e : Voter) (position : ℕ) (old new : ℕ → Option Hold) : Type 0 where
  pub stays : is_held_for e.id (old position) ≡ true → is_held_for e.id (new position) ≡ true
  pub marks : (q : ℕ) → IsMarked e.id (new q) → IsMarked e.id (old q) ⊎ (e.position ≡ Some q)

secure_heard : (e : Voter) (q position : ℕ) (holds H : ℕ → Option Hold) (c : Control) (up : List Control) → (Names q c → position ≡ q) →
    IsKeptAt e position holds H → IsSecure e.id q holds (c ∷ up) → IsSecure e.id q H up
secure_heard e q position holds H c up names kept secure =
    let same = names secure.named.0 in
    record {
      held = subst (λ x. is_held_for e.id (H x) ≡ true) same (kept.stays (subst (λ x. is_held_for e.id (holds x) ≡ true) (sym same) secure.held));
      named = secure.named.1;
    }

-- the aggregation switch hears a message of the edge switch for a position
pub hears : (e : Voter) (position : ℕ) (holds H : ℕ → Option Hold) (c : Control) (up down : List Control) → ((q : ℕ) → Names q c → position ≡ q) →
    IsKeptAt e position holds H → IsGoodPair e holds (c ∷ up) down → IsGoodPair e H up down
hears e position holds H c up down names kept g = record {
  fixed = g.fixed;
  sent = g.sent.1;
  rising = rising_rest c up g.rising;
  sound = all_weaker (IsSoundVote e holds (c ∷ up)) (IsSoundVote e H up)
      (sound_still e holds H (c ∷ up) up (secure_heard e e.proposed position holds H c up (names e.proposed) kept)) down g.sound;
  counted = λ is. secure_heard e e.proposed position holds H c up (names e.proposed) kept (g.counted is);
  marks = λ q hold is own fixed. marked q (kept.marks q (hold, is, own, fixed));
}
  where
    marked : (q : ℕ) → IsMarked e.id (holds q) ⊎ (e.position ≡ Some q) → e.position ≡ Some q
    marked q (inl was) = g.marks q was.0 was.1 was.2 was.3
    marked q (inr is) = is

-- the messages behind a proposal of the present attempt are for the present position
named_behind : (e : Voter) (up : List Control) → ((q : ℕ) → e.position ≡ Some q → q ≡ e.proposed) → AllByRecursion (IsFromVoter e) up →
    AllByRecursion (IsNotBefore e.attempt) up → AllByRecursion (Names e.proposed) up
named_behind e [] fixed sent later = tt
named_behind e (Ldm id m ∷ up) fixed sent later = (λ q told. fixed q (sent.0.1 q told), named_behind e up fixed sent.1 later.1)
named_behind e (Proposal id p ∷ up) fixed sent later =
    let before = sent.0.2 in let behind = later.0 in
    (sent.0.3 (omega (arith, before, behind)), named_behind e up fixed sent.1 later.1)
named_behind e (Vote id v ∷ up) fixed sent later = (tt, named_behind e up fixed sent.1 later.1)

-- it answers a proposal of the edge switch: where it grants, the position is held by then
pub answers : (e : Voter) (holds H : ℕ → Option Hold) (id giver : SwitchId) (p : Proposed) (v : Answer) (up down : List Control) →
    IsKeptAt e p.position holds H → v.attempt ≡ p.attempt → (v.granted ≡ true → is_held_for e.id (H p.position) ≡ true) →
    IsGoodPair e holds (Proposal id p ∷ up) down → IsGoodPair e H up (down ++ Vote giver v ∷ [])
answers e holds H id giver p v up down kept attempt held g =
    let sent = g.sent.0 in
    let heard = hears e p.position holds H (Proposal id p) up down (λ q is. is) kept g in
    speaks e H up down (Vote giver v) (
      subst (λ t. t ≤ e.attempt) (sym attempt) sent.2,
      λ grants present.
          let now : p.attempt ≡ e.attempt = sym attempt ∙ present in
          record {
            held = subst (λ q. is_held_for e.id (H q) ≡ true) (sent.3 now) (held grants);
            named = named_behind e up g.fixed g.sent.1 (subst (λ t. AllByRecursion (IsNotBefore t) up) now g.rising.0);
          },
    )
    heard

-- The edge switch counts votes.

-- a grant of the present attempt comes from here
pub counts_here : (e : Voter) (holds : ℕ → Option Hold) (up : List Control) (giver : SwitchId) (v : Answer) (down : List Control) →
    v.granted ≡ true → v.attempt ≡ e.attempt → IsGoodPair e holds up (Vote giver v ∷ down) → IsGoodPair (record e { granted = true }) holds up down
counts_here e holds up giver v down grants present g = record {
  fixed = g.fixed;
  sent = g.sent;
  rising = g.rising;
  sound = g.sound.1;
  counted = λ is. g.sound.0.1 grants present;
  marks = g.marks;
}

sent_fixed : (e : Voter) (q : ℕ) → e.position ≡ None → (c : Control) → IsFromVoter e c → IsFromVoter (record e { position = Some q }) c
sent_fixed e q none (Ldm id m) h = (h.0, λ x told. absurd (none_is_not_some e.position x none (h.1 x told)))
sent_fixed e q none (Proposal id p) h = h
sent_fixed e q none (Vote id v) h = tt

-- the proposed position becomes fixed
pub fixes : (e : Voter) (holds : ℕ → Option Hold) (up down : List Control) → e.position ≡ None → IsGoodPair e holds up down →
    IsGoodPair (record e { position = Some e.proposed }) holds up down
fixes e holds up down none g = record {
  fixed = λ q is. sym (cc is);
  sent = all_weaker (IsFromVoter e) (IsFromVoter (record e { position = Some e.proposed })) (sent_fixed e e.proposed none) up g.sent;
  rising = g.rising;
  sound = all_weaker (IsSoundVote e holds up) (IsSoundVote (record e { position = Some e.proposed }) holds up) same down g.sound;
  counted = g.counted;
  marks = λ q hold is own fixed. absurd (none_is_not_some e.position q none (g.marks q hold is own fixed));
}
  where
    same : (c : Control) → IsSoundVote e holds up c → IsSoundVote (record e { position = Some e.proposed }) holds up c
    same (Ldm id m) h = h
    same (Proposal id p) h = h
    same (Vote id v) h = h

-- the next attempt begins
pub moves_on : (e : Voter) (q : ℕ) (holds : ℕ → Option Hold) (up down : List Control) → e.position ≡ None → IsGoodPair e holds up down →
    IsGoodPair (record e { attempt = e.attempt + 1; proposed = q; granted = false }) holds up down
moves_on e q holds up down none g = record {
  fixed = λ x is. absurd (none_is_not_some e.position x none is);
  sent = all_weaker (IsFromVoter e) (IsFromVoter next) earlier up g.sent;
  rising = g.rising;
  sound = all_weaker (IsSoundVote e holds up) (IsSoundVote next holds up) old down g.sound;
  counted = λ is. absurd (cc is);
  marks = g.marks;
}
  where
    next : Voter
    next = record e { attempt = e.attempt + 1; proposed = q; granted = false }

    earlier : (c : Control) → IsFromVoter e c → IsFromVoter (record e { attempt = e.attempt + 1; proposed = q; granted = false }) c
    earlier (Ldm id m) h = h
    earlier (Proposal id p) h = let before = h.2 in (h.0, h.1, omega (arith, before), λ is. absurd (omega (arith, before, is)))
    earlier (Vote id v) h = tt

    old : (c : Control) → IsSoundVote e holds up c → IsSoundVote (record e { attempt = e.attempt + 1; proposed = q; granted = false }) holds up c
    old (Ldm id m) h = tt
    old (Proposal id p) h = tt
    old (Vote id v) h = let before = h.0 in (omega (arith, before), λ grants is. absurd (omega (arith, before, is)))
