-- What is counted for a bridge: a frame crosses a switch, goes out of a port for hosts, and arrives there.
use Rattle.std.proofs.Common.{◌≡◌, ℕ, suc, ◌+◌, ◌≤◌, ◌==◌, ◌&&◌, Bool, true, false, if◌then◌else◌, List, [], ◌∷◌, ◌++◌, Some, reverse, sym, ap, arith}
use Rattle.pl_wiring.specs.declared.host.HostNo.{HostNo}
use Rattle.pl_wiring.specs.declared.label.SwitchNo.{SwitchNo}
use Rattle.pl_wiring.specs.declared.link.Peer.TheVariants.{HostPort}
use Rattle.pl_wiring.specs.Peers.{peer_of}
use Rattle.pl_wiring.specs.Plan.{Plan}
use Rattle.pl_journal.specs.declared.entry.Entry.{Entry}
use Rattle.pl_journal.specs.declared.entry.Entry.TheVariants.{Arrived, Copied, Crossed, Made, Moved, Sent}
use Rattle.pl_journal.specs.Flights.{root}
use Rattle.pl_journal.specs.Places.{at_port, edge_port_of, same_edge_port}
use Rattle.pl_world.specs.declared.item.Item.{Item}
use Rattle.pl_world.specs.declared.item.Item.TheVariants.{Data}
use Rattle.pl_world.specs.Changes.{noted}
use Rattle.pl_world.specs.Worlds.{WorldView}
use Rattle.pl_law_counts.specs.Counting.{ComesOnceTo, OnceIn}
use Rattle.pl_law_counts.proofs.Exports.{IsPlain, note, of_root}
use Rattle.pl_law_bridge.specs.GoingOut.{heads}
use Rattle.pl_law_bridge.specs.Reaching.{Target, is_arrival_at, is_crossing_of, is_port_at, may_reach, may_reach_by, times_reached, to_targets}
use Rattle.pl_law_bridge.specs.Reaching.Target.{Arrival, Crossing, Departure}
use Rattle.pl_law_bridge.proofs.Spreading.{claim, here}

-- 1 where a frame that comes out of a port may arrive at the target
abbrev pub arrives_at : ℕ → ℕ → Target → ℕ
arrives_at s port target = if is_arrival_at (Some (at_port s port)) target then 1 else 0

-- of the frames that go out of a port, those that reach a target by that
abbrev pub departs_at : ℕ → ℕ → Target → ℕ → ℕ
departs_at s port (Departure there) many = if same_edge_port (at_port s port) there then many else 0
departs_at s port target many = 0

-- an entry that begins nothing, and with which nothing crosses a switch, nothing arrives and no host moves
abbrev pub IsIdle : Entry → Type 0
IsIdle (Sent g h f) = ⊥
IsIdle (Made g s f) = ⊥
IsIdle (Copied g c) = ⊥
IsIdle (Crossed g s) = ⊥
IsIdle (Arrived g h f) = ⊥
IsIdle (Moved h s port) = ⊥
IsIdle entry = Unit {0}

pub is_plain : (e : Entry) → IsIdle e → IsPlain e
is_plain (Copied g c) idle = absurd idle
is_plain (Moved h s port) idle = absurd idle
is_plain e idle = tt

pub none_reaches : (unsaid : ℕ → Target → ℕ) (plan : Plan) (past : List Entry) (e : Entry) → IsIdle e → (r : ℕ) (there : Target) →
    times_reached plan (e ∷ past) r there + unsaid r there ≤ times_reached plan past r there + unsaid r there
none_reaches unsaid plan past (Crossed g s) idle r there = absurd idle
none_reaches unsaid plan past (Arrived g h f) idle r there = absurd idle
none_reaches unsaid plan past e idle r there = omega arith

-- less is left unsaid
pub less_unsaid : (f g : ℕ → Target → ℕ) (w : WorldView) → ((r : ℕ) (there : Target) → g r there ≤ f r there) → ComesOnceTo (to_targets f) w → ComesOnceTo (to_targets g) w
less_unsaid f g w less c = record {
  standing = c.standing;
  unbegun = c.unbegun;
  once = λ r there. omega (arith, c.once r there, less r there);
}

module _ (unsaid : ℕ → Target → ℕ) (w : WorldView) where
  -- a frame that is owed crosses a switch
  pub cross_one : (id : ℕ) (s : SwitchNo) (g : Target → ℕ) → OnceIn (to_targets unsaid) w (λ r there. of_root (reverse w.journal) id (here s.0 there + g there) r) →
      OnceIn (to_targets unsaid) (noted w (Crossed id s)) (λ r there. of_root (reverse (w.journal ++ Crossed id s ∷ [])) id (g there) r)
  cross_one id s g c =
      note (to_targets unsaid) w (Crossed id s) _ (λ past r there. of_root past id (g there) r) tt
      (λ r there. one_more (root (reverse w.journal) id == r) (is_crossing_of s.0 there) (g there) (times_reached w.plan (reverse w.journal) r there) (unsaid r there)) c
    where
      one_more : (own crosses : Bool) (rest before more : ℕ) →
          (if own then rest else 0) + ((if own && crosses then suc before else before) + more) ≤ (if own then (if crosses then 1 else 0) + rest else 0) + (before + more)
      one_more true true rest before more = omega arith
      one_more true false rest before more = omega arith
      one_more false crosses rest before more = omega arith

  -- a frame arrives at the port out of which it came
  pub arrive_one : (s port id : ℕ) (bytes : List ℕ) (h : HostNo) → edge_port_of w.plan (reverse w.journal) h.0 ≡ Some (at_port s port) →
      OnceIn (to_targets unsaid) w (λ r there. of_root (reverse w.journal) id (arrives_at s port there) r) → ComesOnceTo (to_targets unsaid) (noted w (Arrived id h bytes))
  arrive_one s port id bytes h stands c =
      note (to_targets unsaid) w (Arrived id h bytes) _ (λ past r there. 0) tt
      (λ r there. came (root (reverse w.journal) id == r) (is_arrival_at (edge_port_of w.plan (reverse w.journal) h.0) there) (is_arrival_at (Some (at_port s port)) there)
      (times_reached w.plan (reverse w.journal) r there) (unsaid r there) (ap (λ o. is_arrival_at o there) (sym stands))) c
    where
      came : (own at may : Bool) (before more : ℕ) → may ≡ at → 0 + ((if own && at then suc before else before) + more) ≤ (if own then (if may then 1 else 0) else 0) + (before + more)
      came true true may before more is = rw is (omega arith)
      came true false may before more is = omega arith
      came false at may before more is = omega arith

  -- a frame goes out of a port for hosts, where it may arrive
  pub depart_one : (s port id : ℕ) (frame : List ℕ) (items : List Item) → peer_of w.plan s port ≡ HostPort →
      OnceIn (to_targets unsaid) w (λ r there. of_root (reverse w.journal) id (claim w.plan s port there) r) →
      OnceIn (to_targets (λ r there. departs_at s port there (heads (reverse w.journal) r (Data id frame ∷ items)) + unsaid r there)) w
      (λ r there. of_root (reverse w.journal) id (arrives_at s port there) r)
  depart_one s port id frame items peer c = record {
    standing = c.standing;
    unbegun = c.unbegun;
    once = λ r there.
        let goes : may_reach_by w.plan s port there ≡ is_port_at s port there = ap (λ p. may_reach w.plan.k s port p there) peer in
        let more = both (root (reverse w.journal) id == r) there (may_reach_by w.plan s port there) goes in
        omega (arith, c.once r there, more);
  }
    where
      both : (own : Bool) (there : Target) (may : Bool) → may ≡ is_port_at s port there →
          (if own then arrives_at s port there else 0) + departs_at s port there (if own then 1 else 0) ≤ (if own then (if may then 1 else 0) else 0)
      both true (Crossing x) may is = omega arith
      both true (Arrival place) may is = rw is (omega arith)
      both true (Departure place) may is = rw is (omega arith)
      both false (Crossing x) may is = omega arith
      both false (Arrival place) may is = omega arith
      both false (Departure place) may is = none (same_edge_port (at_port s port) place)
        where
          none : (b : Bool) → 0 + (if b then 0 else 0) ≤ 0
          none true = omega arith
          none false = omega arith
