-- The passes of a bridge, and its drops, keep it that at most one frame of each root reaches each target, and that frames wait where the tree has them; so do
-- the turns of hosts.
use Rattle.std.proofs.Common.{◌≡◌, ℕ, ◌+◌, ◌<◌, ◌&&◌, not, Bool, true, false, List, [], ◌∷◌, ◌++◌, Option, Some, reverse, sym, ap, ◌∙◌, subst, refl, arith}
use Rattle.std.specs.List.{AllByRecursion}
use Rattle.std.proofs.lemmas.Bool.{true≢false}
use Rattle.pl_wiring.specs.Index.{port_index}
use Rattle.pl_wiring.specs.LiveLinks.{is_live_at}
use Rattle.pl_wiring.specs.Plan.{Plan}
use Rattle.pl_journal.specs.declared.entry.Entry.{Entry}
use Rattle.pl_journal.specs.declared.entry.Entry.TheVariants.{Copied, Sent}
use Rattle.pl_journal.specs.Places.{EdgePort, is_host_port}
use Rattle.pl_journal.proofs.Exports.{past_more}
use Rattle.pl_node.specs.declared.acts.Act.{Act}
use Rattle.pl_node.specs.declared.acts.Act.TheVariants as act
use Rattle.pl_node.specs.HostInputs.{HostAnswer, HostInput, HostRule}
use Rattle.pl_queues.specs.Queues.{put_at}
use Rattle.pl_world.specs.declared.item.Item.{Item}
use Rattle.pl_world.specs.declared.item.Item.TheVariants.{Data}
use Rattle.pl_world.specs.declared.spoken_frame.SpokenFrame.{SpokenFrame}
use Rattle.pl_world.specs.declared.spoken_frame.SpokenFrame.TheVariants.{Over, Passed, Silent, Waiting}
use Rattle.pl_world.specs.Changes.{begun_by, host_no, is_failed_at, noted, sent_by_host, sent_out}
use Rattle.pl_world.specs.WorldRule.{HostTurn}
use Rattle.pl_world.specs.Worlds.{WorldView}
use Rattle.pl_world.proofs.Exports.{host_acts_left, Writes}
use Rattle.pl_law_counts.specs.Counting.{ComeOnce, standing}
use Rattle.pl_law_counts.proofs.Exports.{KeptByActs, once_by, once_copied, once_noted, once_over, once_passed, once_unsent, OnceAmid, send_one}
use Rattle.pl_law_bridge.specs.Reaching.{Target, to_targets}
use Rattle.pl_law_bridge.specs.TreeWorld.{LiveIsTree}
use Rattle.pl_law_bridge.specs.Travelling.{IsUnderWay, LeadsOverTree, Travel, TravelsOnTree}
use Rattle.pl_law_bridge.proofs.Changing.{IsIdle, is_plain, none_reaches}
use Rattle.pl_law_bridge.proofs.TravelChanges.{idle_under_way, port_holds, put_at_host, put_port, travel_copied, travel_idle, travel_sent}

-- both of what is kept
pub record IsKept (unsaid : ℕ → Target → ℕ) (plan : Plan) (at : ℕ → Option EdgePort) (past : List Entry) (from_hosts out : List (List Item)) (many : ℕ) (owed : ℕ → Target → ℕ) : Type 0 where
  pub once : ComeOnce (to_targets unsaid) plan at past from_hosts out many owed
  pub travels : Travel plan past from_hosts out many

-- so it is in a world, with these owed, and where nothing is owed
abbrev pub IsKeptOwing : (ℕ → Target → ℕ) → WorldView → (ℕ → Target → ℕ) → Type 0
IsKeptOwing unsaid w owed = IsKept unsaid w.plan (standing w.attachments) (reverse w.journal) w.from_hosts w.out w.begun owed

abbrev pub IsKeptIn : (ℕ → Target → ℕ) → WorldView → Type 0
IsKeptIn unsaid w = IsKeptOwing unsaid w (λ r there. 0)

-- what a bridge does with a frame
abbrev pub IsOnward : List ℕ → Act → Type 0
IsOnward frame (act.Pass port bytes) = bytes ≡ frame
IsOnward frame (act.Drop why) = Unit {0}
IsOnward frame a = ⊥

-- a frame in hand was not redirected
abbrev pub IsFresh : SpokenFrame → Type 0
IsFresh (Waiting id again) = again ≡ false
IsFresh speech = Unit {0}

-- the frame in hand has just crossed this switch
abbrev pub IsHeld : List Entry → ℕ → ℕ → List ℕ → SpokenFrame → Type 0
IsHeld past many s frame Silent = Unit {0}
IsHeld past many s frame (Waiting id again) = IsUnderWay past many (Some s) id frame
IsHeld past many s frame (Passed id) = IsUnderWay past many (Some s) id frame
IsHeld past many s frame Over = Unit {0}

-- amid the acts of switch s
pub record IsAmid (unsaid : ℕ → Target → ℕ) (s : ℕ) (frame : List ℕ) (acts : List Act) (speech : SpokenFrame) (w : WorldView) : Type 0 where
  pub once : OnceAmid (to_targets unsaid) s acts speech w
  pub travels : TravelsOnTree w
  pub held : IsHeld (reverse w.journal) w.begun s frame speech
  pub onward : AllByRecursion (IsOnward frame) acts
  pub fresh : IsFresh speech
  pub live : LiveIsTree w.plan w.links

one_entry : (P : List Entry → Type 0) (journal : List Entry) (e : Entry) → P (e ∷ reverse journal) → P (reverse (journal ++ e ∷ []))
one_entry P journal e is = subst P (sym (past_more journal e)) is

noted_travels : (w : WorldView) (e : Entry) → IsIdle e → TravelsOnTree w → TravelsOnTree (noted w e)
noted_travels w e idle t =
    one_entry (λ p. Travel w.plan p w.from_hosts w.out w.begun) w.journal e (travel_idle w.plan (reverse w.journal) w.from_hosts w.out w.begun e idle t)

-- an idle entry is written in a world
pub noted_kept : (unsaid : ℕ → Target → ℕ) (w : WorldView) (e : Entry) → IsIdle e → IsKeptIn unsaid w → IsKeptIn unsaid (noted w e)
noted_kept unsaid w e idle c = record {
  once = once_noted (to_targets unsaid) 0 w [] Over e (is_plain e idle) (none_reaches unsaid w.plan (reverse w.journal) e idle) c.once;
  travels = noted_travels w e idle c.travels;
}

-- a frame leaves by a live link, which is of the tree, or by a port without one
live_way : (w : WorldView) (s port : ℕ) → is_failed_at w s port ≡ false → LiveIsTree w.plan w.links → LeadsOverTree w.plan s port
live_way w s port fine live t q peer =
    live s port (is_live (is_live_at w.links s port) (sym (ap (λ p. not (is_host_port p) && not (is_live_at w.links s port)) peer) ∙ fine)) t q peer
  where
    is_live : (b : Bool) → (true && not b) ≡ false → b ≡ true
    is_live true e = refl
    is_live false e = absurd (true≢false e)

module _ (unsaid : ℕ → Target → ℕ) (s : ℕ) (frame : List ℕ) where
  -- a frame that has just crossed the switch waits behind a port
  waits : (w : WorldView) (port id : ℕ) (bytes : List ℕ) → port < w.plan.k → is_failed_at w s port ≡ false → LiveIsTree w.plan w.links → bytes ≡ frame →
      IsUnderWay (reverse w.journal) w.begun (Some s) id frame → TravelsOnTree w → TravelsOnTree (sent_out w s port (Data id bytes))
  waits w port id bytes within fine live same held t =
      let n : ℕ = port_index w.plan.k s port in
      put_port w.plan (reverse w.journal) w.from_hosts w.out w.begun n (Data id bytes)
      (port_holds w.plan (reverse w.journal) w.begun s port id bytes within (live_way w s port fine live) (subst (IsUnderWay (reverse w.journal) w.begun (Some s) id) (sym same) held)) t

  -- a copy has the way and the bytes of its frame
  copied_travels : (w : WorldView) (id : ℕ) → IsUnderWay (reverse w.journal) w.begun (Some s) id frame → TravelsOnTree w →
      let mid = begun_by w (Copied id (w.begun + 1)) in
      TravelsOnTree mid × (IsUnderWay (reverse mid.journal) mid.begun (Some s) (w.begun + 1) frame × IsUnderWay (reverse mid.journal) mid.begun (Some s) id frame)
  copied_travels w id held t =
      one_entry (λ p. Travel w.plan p w.from_hosts w.out (w.begun + 1) × (IsUnderWay p (w.begun + 1) (Some s) (w.begun + 1) frame × IsUnderWay p (w.begun + 1) (Some s) id frame))
      w.journal (Copied id (w.begun + 1)) (travel_copied w.plan (reverse w.journal) w.from_hosts w.out w.begun id s frame held t)

  still_held : (w : WorldView) (e : Entry) (speech : SpokenFrame) → IsIdle e → IsHeld (reverse w.journal) w.begun s frame speech → IsHeld (reverse (w.journal ++ e ∷ [])) w.begun s frame speech
  still_held w e Silent idle held = tt
  still_held w e (Waiting id b) idle held = one_entry (λ p. IsUnderWay p w.begun (Some s) id frame) w.journal e (idle_under_way (reverse w.journal) w.begun (Some s) id frame e idle held)
  still_held w e (Passed id) idle held = one_entry (λ p. IsUnderWay p w.begun (Some s) id frame) w.journal e (idle_under_way (reverse w.journal) w.begun (Some s) id frame e idle held)
  still_held w e Over idle held = tt

  pub acts_keep : KeptByActs s IsIdle (IsAmid unsaid s frame)
  acts_keep = record {
    entry = λ acts speech w e idle m. record {
      once = once_noted (to_targets unsaid) s w acts speech e (is_plain e idle) (none_reaches unsaid w.plan (reverse w.journal) e idle) m.once;
      travels = noted_travels w e idle m.travels;
      held = still_held w e speech idle m.held;
      onward = m.onward;
      fresh = m.fresh;
      live = m.live;
    };
    dropped = λ id why. tt;
    taken = λ id. tt;
    placed = λ place. tt;
    granted = λ pmac h. tt;
    freed = λ pmac. tt;
    by = λ a acts speech w none m. record {
      once = once_by (to_targets unsaid) s w a acts speech none m.once;
      travels = m.travels;
      held = m.held;
      onward = m.onward.1;
      fresh = m.fresh;
      live = m.live;
    };
    over = λ acts speech w m. record { once = once_over (to_targets unsaid) s w acts speech m.once; travels = m.travels; held = tt; onward = m.onward; fresh = tt; live = m.live };
    control = λ port bytes acts speech w m. absurd m.onward.0;
    tell = λ told acts speech w m. absurd m.onward.0;
    made = λ bytes acts speech w m. absurd m.onward.0;
    redirected = λ old new acts id again w m. absurd m.onward.0;
    crossed = λ acts id w m. absurd (true≢false m.fresh);
    passed = λ port bytes acts id w within fine m. record {
      once = once_passed (to_targets unsaid) s w port bytes acts id within m.once;
      travels = waits w port id bytes within fine m.live m.onward.0 m.held m.travels;
      held = m.held;
      onward = m.onward.1;
      fresh = tt;
      live = m.live;
    };
    unsent = λ acts id w m. record { once = m.once; travels = m.travels; held = m.held; onward = m.onward; fresh = tt; live = m.live };
    copied = λ port bytes acts id w within new fine m.
        let moves = copied_travels w id m.held m.travels in
        record {
          once = once_copied (to_targets unsaid) s w port bytes acts id within new (λ r there. omega arith) m.once;
          travels = waits (begun_by w (Copied id (w.begun + 1))) port (w.begun + 1) bytes within fine m.live m.onward.0 moves.1.0 moves.0;
          held = moves.1.1;
          onward = m.onward.1;
          fresh = tt;
          live = m.live;
        };
    copy_unsent = λ port bytes acts id w new m.
        let moves = copied_travels w id m.held m.travels in
        record {
          once = once_unsent (to_targets unsaid) s w port bytes acts id new (λ r there. omega arith) m.once;
          travels = moves.0;
          held = moves.1.1;
          onward = m.onward.1;
          fresh = tt;
          live = m.live;
        };
  }

-- ---- hosts
module _ (unsaid : ℕ → Target → ℕ) where
  abbrev pub Keeps : WorldView → WorldView → Type 0
  Keeps a b = IsKeptIn unsaid a → IsKeptIn unsaid b

  pub keeps_writes : Writes Keeps IsIdle
  keeps_writes = record {
    same = λ w c. c;
    on = λ a b d one next c. next (one c);
    entry = noted_kept unsaid;
    dropped = λ id why. tt;
  }

  sent_kept : (w : WorldView) (h : ℕ) (frame : List ℕ) → IsKeptIn unsaid w → IsKeptIn unsaid (sent_by_host w h frame)
  sent_kept w h frame c =
      let moves = travel_sent w.plan (reverse w.journal) w.from_hosts w.out w.begun (host_no h) frame c.travels in
      let sent : Entry = Sent (w.begun + 1) (host_no h) frame in
      record {
        once = send_one (to_targets unsaid) w h frame (λ r there. omega arith) c.once;
        travels = one_entry (λ p. Travel w.plan p (put_at w.from_hosts h (Data (w.begun + 1) frame)) w.out (w.begun + 1)) w.journal sent
            (put_at_host w.plan (sent ∷ reverse w.journal) w.from_hosts w.out (w.begun + 1) h (Data (w.begun + 1) frame) moves.1 moves.0);
      }

  pub host_keeps : (rule : HostRule) (w : WorldView) (h : ℕ) (input : HostInput) (answer : HostAnswer) (new : WorldView) → IsKeptIn unsaid w → HostTurn rule w h input answer new → IsKeptIn unsaid new
  host_keeps rule w h input answer new c turn = host_acts_left Keeps IsIdle keeps_writes h (λ u frame kept. sent_kept u h frame kept) rule w input answer new turn c
