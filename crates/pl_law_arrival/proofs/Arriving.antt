-- A sure frame that has ended has arrived.
use Rattle.std.proofs.Common.{◌≡◌, ℕ, zero, suc, ◌+◌, ◌≤◌, ◌==◌, Bool, true, false, if◌then◌else◌, List, [], ◌∷◌, ◌++◌, Contains, refl, sym, ap, ◌∙◌, subst, inl, inr, arith, eq-eqb}
use Rattle.std.proofs.lemmas.Bool.{cond-true}
use Rattle.pl_pmac.specs.declared.pmac.Pmac.{Pmac}
use Rattle.pl_wiring.specs.Plan.{Plan}
use Rattle.pl_journal.specs.declared.entry.Entry.{Entry}
use Rattle.pl_journal.specs.declared.entry.Entry.TheVariants.{Arrived, Sent}
use Rattle.pl_journal.specs.Flights.{ended_by, ends, is_frame}
use Rattle.pl_node.specs.HostDuties.{HostsKeepFrames, HostsSendData, HostsSendOwn}
use Rattle.pl_node.specs.HostInputs.{HostRule}
use Rattle.pl_node.proofs.Exports.{among_append, among_of_Contains, Contains-of_among, IsAmong}
use Rattle.pl_manager_rule.specs.WholeRule.{whole_rule}
use Rattle.pl_switch_rule.specs.SwitchRule.{Loose}
use Rattle.pl_queues.specs.Queues.{items_at}
use Rattle.pl_world.specs.declared.item.Item.{Item}
use Rattle.pl_world.specs.declared.item.Item.TheVariants.{Control, Data}
use Rattle.pl_world.specs.declared.limits.Limits.{Limits}
use Rattle.pl_world.specs.Booting.{CanBegin, booted}
use Rattle.pl_world.specs.Changes.{host_no}
use Rattle.pl_world.specs.Flying.{IsCounted, flying, times_in, times_in_all}
use Rattle.pl_world.specs.Runs.{Befalls, IsMark, Moment, WorldRun}
use Rattle.pl_world.specs.Runs.Moment.{Mark, Step}
use Rattle.pl_world.specs.Worlds.{WorldView}
use Rattle.pl_world.proofs.Exports.{born_once}
use Rattle.pl_law_arrival.specs.Losses.{IsLostAt}
use Rattle.pl_law_arrival.specs.Reach.{Reaches}
use Rattle.pl_law_arrival.specs.SureFrames.{IsSure, IsSureMoment, StaysSure}
use Rattle.pl_law_arrival.proofs.Alike.{alike_by_views}
use Rattle.pl_law_arrival.proofs.Grounds.{ready}
use Rattle.pl_law_arrival.proofs.JustSent.{waits_since}
use Rattle.pl_law_arrival.proofs.Following.{stays_written}
use Rattle.pl_law_arrival.proofs.Orders.{run_is_orderly}
use Rattle.pl_law_arrival.proofs.Ready.{Ready, net, stays_at_edge}
use Rattle.pl_law_arrival.proofs.LeftByAStep.{Goes, goes_noted}
use Rattle.pl_law_arrival.proofs.StepsInclude.{step_keeps}
use Rattle.pl_law_arrival.proofs.Track.{IsOnTrack}
use Rattle.pl_law_arrival.proofs.Track.OnTrack.{Came, Leaves, Under, Waits}
use Rattle.pl_law_arrival.proofs.SureFramesOnTrack.{keep}

-- ---- a frame in a queue has not ended
waits_once : (id : ℕ) (frame : List ℕ) (items : List Item) → IsAmong (Data id frame) items → 1 ≤ times_in id items
waits_once id frame [] among = absurd among
waits_once id frame (item ∷ items) (inl is) = subst (λ y. 1 ≤ times_in id (y ∷ items)) (sym is)
    (subst (λ n. 1 ≤ n) (sym (cond-true (id == id) (times_in id items + 1) (times_in id items) (eq-eqb id id refl))) (omega arith))
waits_once id frame (Control f ∷ items) (inr rest) = waits_once id frame items rest
waits_once id frame (Data n f ∷ items) (inr rest) = by (waits_once id frame items rest) (n == id)
  where
    by : 1 ≤ times_in id items → (b : Bool) → 1 ≤ (if b then times_in id items + 1 else times_in id items)
    by less true = omega (arith, less)
    by less false = less

waits_in_all : (id : ℕ) (frame : List ℕ) (queues : List (List Item)) (n : ℕ) → IsAmong (Data id frame) (items_at queues n) → 1 ≤ times_in_all id queues
waits_in_all id frame [] n among = absurd among
waits_in_all id frame (queue ∷ queues) zero among = let here = waits_once id frame queue among in omega (arith, here)
waits_in_all id frame (queue ∷ queues) (suc n) among = let rest = waits_in_all id frame queues n among in omega (arith, rest)

module _ (w : WorldView) (counted : IsCounted w) (id : ℕ) (over : 1 ≤ ends w.journal id) where
  not_flying : (1 ≤ flying id w) → ⊥
  not_flying some = let count = counted.flights id in let few = born_once id w.begun in omega (arith, count, few, some, over)

  -- so a frame on its track that has ended has come
  has_come : (h g t : ℕ) (x : Pmac) → IsOnTrack w h g t x id → (frame : List ℕ) × Contains w.journal (Arrived id (host_no g) frame)
  has_come h g t x (Waits frame among to_one_host) = absurd (not_flying (let some = waits_in_all id frame w.from_hosts h among in omega (arith, some)))
  has_come h g t x (Under s p u frame l among one to headed) = absurd (not_flying (let some = waits_in_all id frame w.out _ among in omega (arith, some)))
  has_come h g t x (Leaves frame among one mac) = absurd (not_flying (let some = waits_in_all id frame w.out _ among in omega (arith, some)))
  has_come h g t x (Came frame among) = (frame, Contains-of_among (Arrived id (host_no g) frame) w.journal among)

-- ---- a frame that ended twice
ends_once : (id : ℕ) (e : Entry) (journal : List Entry) → is_frame (ended_by e) id ≡ true → IsAmong e journal → 1 ≤ ends journal id
ends_once id e [] is among = absurd among
ends_once id e (x ∷ journal) is (inl same) =
    subst (λ n. 1 ≤ n) (sym (cond-true (is_frame (ended_by x) id) (ends journal id + 1) (ends journal id) (ap (λ y. is_frame (ended_by y) id) same ∙ is))) (omega arith)
ends_once id e (x ∷ journal) is (inr rest) = by (ends_once id e journal is rest) (is_frame (ended_by x) id)
  where
    by : 1 ≤ ends journal id → (b : Bool) → 1 ≤ (if b then ends journal id + 1 else ends journal id)
    by less true = omega (arith, less)
    by less false = less

ends_twice : (id : ℕ) (e f : Entry) (journal : List Entry) → (e ≡ f → ⊥) → is_frame (ended_by e) id ≡ true → is_frame (ended_by f) id ≡ true → IsAmong e journal → IsAmong f journal → 2 ≤ ends journal id
ends_twice id e f [] differ is_e is_f at_e at_f = absurd at_e
ends_twice id e f (x ∷ journal) differ is_e is_f (inl a) (inl b) = absurd (differ (sym a ∙ b))
ends_twice id e f (x ∷ journal) differ is_e is_f (inl a) (inr b) =
    let rest = ends_once id f journal is_f b in
    subst (λ n. 2 ≤ n) (sym (cond-true (is_frame (ended_by x) id) (ends journal id + 1) (ends journal id) (ap (λ y. is_frame (ended_by y) id) a ∙ is_e))) (omega (arith, rest))
ends_twice id e f (x ∷ journal) differ is_e is_f (inr a) (inl b) =
    let rest = ends_once id e journal is_e a in
    subst (λ n. 2 ≤ n) (sym (cond-true (is_frame (ended_by x) id) (ends journal id + 1) (ends journal id) (ap (λ y. is_frame (ended_by y) id) b ∙ is_f))) (omega (arith, rest))
ends_twice id e f (x ∷ journal) differ is_e is_f (inr a) (inr b) = by (ends_twice id e f journal differ is_e is_f a b) (is_frame (ended_by x) id)
  where
    by : 2 ≤ ends journal id → (b : Bool) → 2 ≤ (if b then ends journal id + 1 else ends journal id)
    by less true = omega (arith, less)
    by less false = less

-- the host that an entry says a frame arrived at
abbrev pub receiver_of : Entry → ℕ
receiver_of (Arrived id h frame) = h.0
receiver_of entry = 0

module _ (host : HostRule) (sends : HostsSendData host) (owns : HostsSendOwn host) (keeps : HostsKeepFrames host) where
  run_more : (old mid new : WorldView) (moments : List Moment) (moment : Moment) → WorldRun Loose whole_rule host old moments mid →
      Befalls Loose whole_rule host mid moment new → WorldRun Loose whole_rule host old (moments ++ moment ∷ []) new
  run_more old mid new [] moment run more = (new, subst (λ (w : WorldView). Befalls Loose whole_rule host w moment new) run more, refl)
  run_more old mid new (first ∷ moments) moment run more = (run.0, run.1, run_more run.0 mid new moments moment run.2 more)

  -- a moment between two sure ones
  moment_keeps : (id h g : ℕ) (x : Pmac) (old : WorldView) (moment : Moment) (new : WorldView) → Ready old → Ready new → (before : Reaches old h g x) (after : Reaches new h g x) →
      (IsLostAt old moment id → ⊥) → Befalls Loose whole_rule host old moment new → IsOnTrack old h g before.to.attachment.edge.0 x id → IsOnTrack new h g after.to.attachment.edge.0 x id
  moment_keeps id h g x old (Step happens) new r ahead before after kept befalls on =
      step_keeps host keeps old new r ahead h g x id before after on happens befalls.0 kept befalls.1
  moment_keeps id h g x old (Mark entry) new r ahead before after kept befalls on =
      let goes : Goes old new = subst (Goes old) (sym befalls.1) (goes_noted old (entry ∷ [])) in
      let alike = alike_by_views (net old) (net new) r.calm ahead.calm goes.plan (λ s. ap (λ (w : WorldView). (net w).view s) befalls.1) in
      let still = keep host keeps old new r ahead h g x id before after old goes alike on in
      subst (λ t. IsOnTrack new h g t x id) (stays_at_edge old new r ahead alike g x before.to after.to) still

  abbrev AtEnd : ℕ → ℕ → ℕ → Pmac → WorldView → Type 0
  AtEnd id h g x new = (t : ℕ) × IsOnTrack new h g t x id

  stays_on : (plan : Plan) (limits : Limits) → CanBegin plan → (id h g : ℕ) (x : Pmac) (before : List Moment) (old : WorldView) → WorldRun Loose whole_rule host (booted plan limits) before old →
      (moments : List Moment) (new : WorldView) (reach : Reaches old h g x) → IsOnTrack old h g reach.to.attachment.edge.0 x id → StaysSure Loose whole_rule host id h g x old moments new →
      AtEnd id h g x new
  stays_on plan limits can id h g x before old run [] new reach on stays = (reach.to.attachment.edge.0, subst (λ (w : WorldView). IsOnTrack w h g reach.to.attachment.edge.0 x id) (sym stays.1) on)
  stays_on plan limits can id h g x before old run (moment ∷ moments) new reach on stays =
      let next = stays.2 in
      let longer = run_more (booted plan limits) old next.0 before moment run next.1 in
      let order = run_is_orderly host sends owns plan limits before old can run in
      let later = run_is_orderly host sends owns plan limits (before ++ moment ∷ []) next.0 can longer in
      let sure = first_sure next.0 moments next.2 in
      stays_on plan limits can id h g x (before ++ moment ∷ []) next.0 longer moments new sure.reaches
      (moment_keeps id h g x old moment next.0 (ready old order stays.0.settled) (ready next.0 later sure.settled) reach sure.reaches stays.1 next.1 on) next.2
    where
      first_sure : (w : WorldView) (ms : List Moment) → StaysSure Loose whole_rule host id h g x w ms new → IsSureMoment w h g x
      first_sure w [] s = s.0
      first_sure w (m ∷ ms) s = s.0

  sure_at_first : (id h g : ℕ) (x : Pmac) (old : WorldView) (moments : List Moment) (new : WorldView) → StaysSure Loose whole_rule host id h g x old moments new → IsSureMoment old h g x
  sure_at_first id h g x old [] new s = s.0
  sure_at_first id h g x old (m ∷ ms) new s = s.0

  adjacent_runs : (old mid new : WorldView) (before : List Moment) (id h g : ℕ) (x : Pmac) (moments : List Moment) → WorldRun Loose whole_rule host old before mid →
      StaysSure Loose whole_rule host id h g x mid moments new → (all : List Moment) × WorldRun Loose whole_rule host old all new
  adjacent_runs old mid new before id h g x [] run stays = (before, subst (λ (w : WorldView). WorldRun Loose whole_rule host old before w) (sym stays.1) run)
  adjacent_runs old mid new before id h g x (m ∷ ms) run stays =
      adjacent_runs old stays.2.0 new (before ++ m ∷ []) id h g x ms (run_more old mid stays.2.0 before m run stays.2.1) stays.2.2

  runs_adjacent : (old mid new : WorldView) (first second : List Moment) → WorldRun Loose whole_rule host old first mid → WorldRun Loose whole_rule host mid second new →
      WorldRun Loose whole_rule host old (first ++ second) new
  runs_adjacent old mid new [] second one other = subst (λ (w : WorldView). WorldRun Loose whole_rule host w second new) one other
  runs_adjacent old mid new (m ∷ first) second one other = (one.0, one.1, runs_adjacent one.0 mid new first second one.2 other)

  -- the moment that sends a frame puts it into the queue of its host
  waits_at_once : (old : WorldView) (moment : Moment) (sent : WorldView) (id h : ℕ) (frame : List ℕ) → IsCounted old → Befalls Loose whole_rule host old moment sent →
      Contains sent.journal (Sent id (host_no h) frame) → (Contains old.journal (Sent id (host_no h) frame) → ⊥) → IsAmong (Data id frame) (items_at sent.from_hosts h)
  waits_at_once old (Step happens) sent id h frame counted befalls there fresh =
      elim (waits_since Loose whole_rule host old sent counted happens befalls.1 id h frame (among_of_Contains (Sent id (host_no h) frame) sent.journal there)) [
        | inl before ↦ absurd (fresh (Contains-of_among (Sent id (host_no h) frame) old.journal before))
        | inr waits ↦ waits
      ]
  waits_at_once old (Mark entry) sent id h frame counted befalls there fresh =
      elim (among_append (Sent id (host_no h) frame) old.journal (entry ∷ [])
      (subst (λ (w : WorldView). IsAmong (Sent id (host_no h) frame) w.journal) befalls.1 (among_of_Contains (Sent id (host_no h) frame) sent.journal there))) [
        | inl before ↦ absurd (fresh (Contains-of_among (Sent id (host_no h) frame) old.journal before))
        | inr new ↦ absurd (marked new)
      ]
    where
      marked : IsAmong (Sent id (host_no h) frame) (entry ∷ []) → ⊥
      marked (inl is) = subst IsMark is befalls.0
      marked (inr never) = never

  module _ (plan : Plan) (limits : Limits) (can : CanBegin plan) (before : List Moment) (old : WorldView) (run : WorldRun Loose whole_rule host (booted plan limits) before old)
      (id h g : ℕ) (moments : List Moment) (new : WorldView) (sure : IsSure Loose whole_rule host old moments new id h g) where
    longer : WorldRun Loose whole_rule host (booted plan limits) (before ++ sure.moment ∷ []) sure.sent
    longer = run_more (booted plan limits) old sure.sent before sure.moment run sure.befalls

    counted : IsCounted new
    counted =
        let all = adjacent_runs (booted plan limits) sure.sent new (before ++ sure.moment ∷ []) id h g sure.address moments longer sure.stays in
        (run_is_orderly host sends owns plan limits all.0 new can all.1).kept.counted

    pub arrives : 1 ≤ ends new.journal id → (frame : List ℕ) × Contains new.journal (Arrived id (host_no g) frame)
    arrives over =
        let first = (run_is_orderly host sends owns plan limits before old can run).kept.counted in
        let waits = waits_at_once old sure.moment sure.sent id h sure.frame first sure.befalls sure.entry sure.at_once in
        let reach = (sure_at_first id h g sure.address sure.sent moments new sure.stays).reaches in
        let at_end = stays_on plan limits can id h g sure.address (before ++ sure.moment ∷ []) sure.sent longer moments new reach (Waits sure.frame waits sure.to_one_host) sure.stays in
        has_come new counted id over h g at_end.0 sure.address at_end.1

    -- and whatever befalls the world then, that stays its one end
    module _ (more : List Moment) (final : WorldView) (rest : WorldRun Loose whole_rule host new more final) (over : 1 ≤ ends new.journal id) where
      pub has_arrived : (frame : List ℕ) × Contains final.journal (Arrived id (host_no g) frame)
      has_arrived =
          let come = arrives over in
          let e = Arrived id (host_no g) come.0 in
          (come.0, Contains-of_among e final.journal (stays_written host new more final rest e (among_of_Contains e new.journal come.1)))

      counted_then : IsCounted final
      counted_then =
          let all = adjacent_runs (booted plan limits) sure.sent new (before ++ sure.moment ∷ []) id h g sure.address moments longer sure.stays in
          let whole = runs_adjacent (booted plan limits) new final all.0 more all.1 rest in
          (run_is_orderly host sends owns plan limits (all.0 ++ more) final can whole).kept.counted

      pub no_other_end : (e : Entry) → is_frame (ended_by e) id ≡ true → ((frame : List ℕ) → e ≡ Arrived id (host_no g) frame → ⊥) → Contains final.journal e → ⊥
      no_other_end e is other there =
          let among = among_of_Contains e final.journal there in
          let come = has_arrived in
          let at = among_of_Contains (Arrived id (host_no g) come.0) final.journal come.1 in
          let twice = ends_twice id e (Arrived id (host_no g) come.0) final.journal (other come.0) is (eq-eqb id id refl) among at in
          let count = counted_then.flights id in
          let few = born_once id final.begun in
          omega (arith, count, few, twice)
