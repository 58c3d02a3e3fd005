-- An event that does not take a frame leaves it where it is, with its line of crossings, and makes no copy of it.
use Rattle.std.proofs.Common.{◌≡◌, ℕ, suc, ◌+◌, ◌≤◌, ◌==◌, Bool, true, false, if◌then◌else◌, List, [], ◌∷◌, ◌++◌, reverse, set, refl, sym, ap, ◌∙◌, subst, arith, append-nil, append_assoc}
use Rattle.std.specs.List.{AllByRecursion}
use Rattle.std.proofs.lemmas.Bool.{cond-false, ne_eqb, true≢false}
use Rattle.pl_lemmas.proofs.Exports.{all_append}
use Rattle.pl_layouts.specs.Placement.{same_place}
use Rattle.pl_wiring.specs.Index.{port_index}
use Rattle.pl_journal.specs.declared.cause.Cause.{Cause}
use Rattle.pl_journal.specs.declared.cause.Cause.TheVariants as cause
use Rattle.pl_journal.specs.declared.entry.Entry.{Entry}
use Rattle.pl_journal.specs.declared.entry.Entry.TheVariants.{Arrived, Copied, Crossed, Dropped, Freed, Granted, Line, LinkDown, LinkUp, Made, Moved, Placed, Redirected, Registered, Restarted, Sent, Settled, Skipped, Taken, Unsettled}
use Rattle.pl_journal.specs.Flights.{trail}
use Rattle.pl_journal.proofs.Exports.{past_more}
use Rattle.pl_node.specs.declared.acts.Act.{Act}
use Rattle.pl_node.specs.declared.acts.Act.TheVariants as act
use Rattle.pl_node.specs.HostInputs.{HostAnswer, HostInput, HostRule}
use Rattle.pl_node.specs.ManagerDuties.{ManagerRule}
use Rattle.pl_node.specs.SwitchInputs.{SwitchInput, SwitchRule}
use Rattle.pl_node.specs.declared.messages.ToManager.{ToManager}
use Rattle.pl_node.proofs.Exports.{among_left, IsAmong}
use Rattle.pl_queues.specs.Queues.{items_at, put_at}
use Rattle.pl_world.specs.declared.item.Item.{Item}
use Rattle.pl_world.specs.declared.item.Item.TheVariants.{Control, Data}
use Rattle.pl_world.specs.declared.spoken_frame.SpokenFrame.{SpokenFrame}
use Rattle.pl_world.specs.declared.spoken_frame.SpokenFrame.TheVariants.{Over, Passed, Silent, Waiting}
use Rattle.pl_world.specs.Changes.{all_noted, begun_by, ends_of, host_no, is_failed_at, noted, sent_by_host, switch_no}
use Rattle.pl_world.specs.SwitchActs.{DuringActs, act_done, acts_done, with_late}
use Rattle.pl_world.specs.WorldRule.{HostTurn, ManagerTurn, SwitchTurn}
use Rattle.pl_world.specs.Worlds.{WorldView}
use Rattle.pl_world.proofs.Exports.{host_acts_left, manager_acts_left, Writes}
use Rattle.pl_law_bridge.specs.Travelling.{copies_made}
use Rattle.pl_law_bridge.proofs.Acting.{IsOnward}
use Rattle.pl_law_bridge.proofs.Waiting.{put_keeps}

-- where a frame is: in the queue of a host, in the queue out of a port, by the port's place among all, or it arrived at a host
pub data Whereabouts : Type 0 where
  AtHost : ℕ → Whereabouts
  AtPlace : ℕ → Whereabouts
  AtEnd : ℕ → Whereabouts

abbrev pub IsThere : Whereabouts → ℕ → List ℕ → WorldView → Type 0
IsThere (AtHost h) id frame w = IsAmong (Data id frame) (items_at w.from_hosts h)
IsThere (AtPlace n) id frame w = IsAmong (Data id frame) (items_at w.out n)
IsThere (AtEnd g) id frame w = IsAmong (Arrived id (host_no g) frame) w.journal

module _ (x : Whereabouts) (id : ℕ) (frame : List ℕ) where
  pub record Spares (a b : WorldView) : Type 0 where
    pub there : IsThere x id frame a → IsThere x id frame b
    pub begun : a.begun ≤ b.begun
    pub line : id ≤ a.begun → trail (reverse b.journal) id ≡ trail (reverse a.journal) id
    pub single : id ≤ a.begun → copies_made (reverse b.journal) id ≡ copies_made (reverse a.journal) id

  -- an entry with which the frame crosses nothing, and nothing is copied
  abbrev pub IsAside : Entry → Type 0
  IsAside (Crossed g s) = (g == id) ≡ false
  IsAside (Copied g c) = ⊥
  IsAside e = Unit {0}

  -- ---- small changes
  same_line : (past : List Entry) (e : Entry) → IsAside e → (trail (e ∷ past) id ≡ trail past id) × (copies_made (e ∷ past) id ≡ copies_made past id)
  same_line past (Crossed g s) aside = (cond-false (g == id) (s.0 ∷ trail past id) (trail past id) aside, refl)
  same_line past (Copied g c) aside = absurd aside
  same_line past (Line n) aside = (refl, refl)
  same_line past (Sent g h f) aside = (refl, refl)
  same_line past (Skipped h skip) aside = (refl, refl)
  same_line past (Made g s f) aside = (refl, refl)
  same_line past (Redirected g old new) aside = (refl, refl)
  same_line past (Arrived g h f) aside = (refl, refl)
  same_line past (Taken g s) aside = (refl, refl)
  same_line past (Dropped g why) aside = (refl, refl)
  same_line past (Granted p h e q) aside = (refl, refl)
  same_line past (Registered p n) aside = (refl, refl)
  same_line past (Freed p) aside = (refl, refl)
  same_line past (Placed s place) aside = (refl, refl)
  same_line past (LinkDown a b) aside = (refl, refl)
  same_line past (LinkUp a b) aside = (refl, refl)
  same_line past (Moved h e p) aside = (refl, refl)
  same_line past (Restarted n) aside = (refl, refl)
  same_line past (Settled n) aside = (refl, refl)
  same_line past (Unsettled n) aside = (refl, refl)

  there_with : (a b : WorldView) → ((i : ℕ) → IsAmong (Data id frame) (items_at a.from_hosts i) → IsAmong (Data id frame) (items_at b.from_hosts i)) →
      ((i : ℕ) → IsAmong (Data id frame) (items_at a.out i) → IsAmong (Data id frame) (items_at b.out i)) →
      ((e : Entry) → IsAmong e a.journal → IsAmong e b.journal) → IsThere x id frame a → IsThere x id frame b
  there_with a b from_hosts out journal there = by x there
    where
      by : (y : Whereabouts) → IsThere y id frame a → IsThere y id frame b
      by (AtHost h) there = from_hosts h there
      by (AtPlace n) there = out n there
      by (AtEnd g) there = journal (Arrived id (host_no g) frame) there

  pub spares_noted : (w : WorldView) (e : Entry) → IsAside e → Spares w (noted w e)
  spares_noted w e aside = record {
    there = there_with w (noted w e) (λ i h. h) (λ i h. h) (λ y h. among_left y w.journal (e ∷ []) h);
    begun = omega arith;
    line = λ le. ap (λ p. trail p id) (past_more w.journal e) ∙ (same_line (reverse w.journal) e aside).0;
    single = λ le. ap (λ p. copies_made p id) (past_more w.journal e) ∙ (same_line (reverse w.journal) e aside).1;
  }

  spares_copied : (w : WorldView) (g : ℕ) → (g == id) ≡ false → Spares w (begun_by w (Copied g (w.begun + 1)))
  spares_copied w g other =
      let n : ℕ = w.begun + 1 in
      record {
        there = there_with w (begun_by w (Copied g n)) (λ i h. h) (λ i h. h) (λ y h. among_left y w.journal (Copied g n ∷ []) h);
        begun = omega arith;
        line = λ le. ap (λ p. trail p id) (past_more w.journal (Copied g n))
            ∙ ap (trail (reverse w.journal)) (cond-false (n == id) g id (ne_eqb n id (λ same. absurd (omega (arith, le, same)))));
        single = λ le. ap (λ p. copies_made p id) (past_more w.journal (Copied g n)) ∙ one_of_other (g == id) (copies_made (reverse w.journal) id) other;
      }
    where
      one_of_other : (b : Bool) (n : ℕ) → b ≡ false → (if b then suc n else n) ≡ n
      one_of_other true n other = absurd (true≢false other)
      one_of_other false n other = refl

  -- what changes neither queues of frames nor the journal
  pub spares_beside : (w new : WorldView) → new.from_hosts ≡ w.from_hosts → new.out ≡ w.out → new.journal ≡ w.journal → new.begun ≡ w.begun → Spares w new
  spares_beside w new from_hosts out journal begun = record {
    there = there_with w new (λ i h. subst (λ (q : List (List Item)). IsAmong (Data id frame) (items_at q i)) (sym from_hosts) h)
        (λ i h. subst (λ (q : List (List Item)). IsAmong (Data id frame) (items_at q i)) (sym out) h) (λ e h. subst (IsAmong e) (sym journal) h);
    begun = omega (arith, begun);
    line = λ le. ap (λ (j : List Entry). trail (reverse j) id) journal;
    single = λ le. ap (λ (j : List Entry). copies_made (reverse j) id) journal;
  }

  spares_on : (a b c : WorldView) → Spares a b → Spares b c → Spares a c
  spares_on a b c one next = record {
    there = λ h. next.there (one.there h);
    begun = (let m = one.begun in let n = next.begun in omega arith);
    line = λ le. next.line (let m = one.begun in omega arith) ∙ one.line le;
    single = λ le. next.single (let m = one.begun in omega arith) ∙ one.single le;
  }

  pub spares_writes : Writes Spares IsAside
  spares_writes = record { same = λ w. spares_beside w w refl refl refl refl; on = spares_on; entry = spares_noted; dropped = λ n why. tt }

  pub spares_put : (w : WorldView) (i : ℕ) (item : Item) → Spares w (record w { out = put_at w.out i item })
  spares_put w i item = record {
    there = there_with w (record w { out = put_at w.out i item }) (λ j h. h) (λ j h. put_keeps w.out i j (Data id frame) item h) (λ e h. h);
    begun = omega arith;
    line = λ le. refl;
    single = λ le. refl;
  }

  pub spares_sent : (w : WorldView) (h : ℕ) (f : List ℕ) → Spares w (sent_by_host w h f)
  spares_sent w h f = record {
    there = there_with w (sent_by_host w h f) (λ j k. put_keeps w.from_hosts h j (Data id frame) (Data (w.begun + 1) f) k) (λ j k. k) (λ e k. among_left e w.journal (Sent (w.begun + 1) (host_no h) f ∷ []) k);
    begun = omega arith;
    line = λ le. ap (λ p. trail p id) (past_more w.journal (Sent (w.begun + 1) (host_no h) f));
    single = λ le. ap (λ p. copies_made p id) (past_more w.journal (Sent (w.begun + 1) (host_no h) f));
  }

  -- several entries
  pub spares_entries : (w : WorldView) (entries : List Entry) → AllByRecursion IsAside entries → Spares w (all_noted w entries)
  spares_entries w [] all = spares_beside w (all_noted w []) refl refl (append-nil w.journal) refl
  spares_entries w (e ∷ entries) all =
      let rest = spares_on w (noted w e) (all_noted (noted w e) entries) (spares_noted w e all.0) (spares_entries (noted w e) entries all.1) in
      subst (λ (j : List Entry). Spares w (record w { journal = j })) (append_assoc w.journal (e ∷ []) entries) rest

  -- a queue is emptied
  pub ends_aside : (why : Cause) (items : List Item) → AllByRecursion IsAside (ends_of why items)
  ends_aside why [] = tt
  ends_aside why (Control f ∷ items) = ends_aside why items
  ends_aside why (Data n f ∷ items) = (tt, ends_aside why items)

  -- ---- the acts of a bridge with another frame in hand
  abbrev pub IsOfOther : SpokenFrame → Type 0
  IsOfOther Silent = Unit {0}
  IsOfOther (Waiting g again) = ((g == id) ≡ false) × (again ≡ false)
  IsOfOther (Passed g) = (g == id) ≡ false
  IsOfOther Over = Unit {0}

  record Spared (w : WorldView) (d : DuringActs) : Type 0 where
    spares : Spares w d.world
    late : AllByRecursion IsAside d.late
    other : IsOfOther d.speech

  out_or_not : (w : WorldView) (s port n : ℕ) (f : List ℕ) (failed : Bool) → Spares w (record w { out = if failed then w.out else put_at w.out (port_index w.plan.k s port) (Data n f) })
  out_or_not w s port n f true = spares_beside w _ refl refl refl refl
  out_or_not w s port n f false = spares_put w (port_index w.plan.k s port) (Data n f)

  late_or_not : (failed : Bool) (late : List Entry) (n : ℕ) → AllByRecursion IsAside late → AllByRecursion IsAside (if failed then late ++ Dropped n cause.LinkDown ∷ [] else late)
  late_or_not true late n all = all_append IsAside late (Dropped n cause.LinkDown ∷ []) all (tt, tt)
  late_or_not false late n all = all

  again_or_not : (w : WorldView) (s g : ℕ) (again : Bool) → again ≡ false → Spares w (all_noted w (if again then Crossed g (switch_no s) ∷ [] else []))
  again_or_not w s g true no_more = absurd (true≢false no_more)
  again_or_not w s g false no_more = spares_entries w [] tt

  act_spares : (s : ℕ) (bytes : List ℕ) (w : WorldView) (speech : SpokenFrame) (late : List Entry) (a : Act) → IsOnward bytes a → IsOfOther speech → AllByRecursion IsAside late →
      Spared w (act_done s (record { world = w; speech = speech; late = late }) a)
  act_spares s bytes w speech late (act.Control port f) onward other all = absurd onward
  act_spares s bytes w speech late (act.Tell told) onward other all = absurd onward
  act_spares s bytes w speech late (act.Grant pmac amac) onward other all = absurd onward
  act_spares s bytes w speech late (act.Free pmac) onward other all = absurd onward
  act_spares s bytes w speech late (act.Make f) onward other all = absurd onward
  act_spares s bytes w speech late (act.Redirect old new) onward other all = absurd onward
  act_spares s bytes w speech late act.Take onward other all = absurd onward
  act_spares s bytes w Silent late (act.Pass port f) onward other all = record { spares = spares_writes.same w; late = all; other = tt }
  act_spares s bytes w (Waiting g again) late (act.Pass port f) onward other all =
      let mid : WorldView = all_noted w (if again then Crossed g (switch_no s) ∷ [] else []) in
      record {
        spares = spares_on w mid _ (again_or_not w s g again other.1) (out_or_not mid s port g f (is_failed_at w s port));
        late = late_or_not (is_failed_at w s port) late g all;
        other = other.0;
      }
  act_spares s bytes w (Passed g) late (act.Pass port f) onward other all =
      let mid : WorldView = begun_by w (Copied g (w.begun + 1)) in
      record {
        spares = spares_on w mid _ (spares_copied w g other) (out_or_not mid s port (w.begun + 1) f (is_failed_at w s port));
        late = late_or_not (is_failed_at w s port) late (w.begun + 1) all;
        other = other;
      }
  act_spares s bytes w Over late (act.Pass port f) onward other all = record { spares = spares_writes.same w; late = all; other = tt }
  act_spares s bytes w Silent late (act.Drop why) onward other all = record { spares = spares_writes.same w; late = all; other = tt }
  act_spares s bytes w (Waiting g again) late (act.Drop why) onward other all =
      let mid : WorldView = all_noted w (if again then Crossed g (switch_no s) ∷ [] else []) in
      record { spares = spares_on w mid _ (again_or_not w s g again other.1) (spares_noted mid (Dropped g why) tt); late = all; other = tt }
  act_spares s bytes w (Passed g) late (act.Drop why) onward other all = record { spares = spares_writes.same w; late = all; other = other }
  act_spares s bytes w Over late (act.Drop why) onward other all = record { spares = spares_writes.same w; late = all; other = tt }

  acts_spare : (s : ℕ) (bytes : List ℕ) (w : WorldView) (d : DuringActs) (acts : List Act) → AllByRecursion (IsOnward bytes) acts → Spared w d → Spared w (acts_done s d acts)
  acts_spare s bytes w d [] onward is = is
  acts_spare s bytes w d (a ∷ acts) onward is =
      let one = act_spares s bytes d.world d.speech d.late a onward.0 is.other is.late in
      acts_spare s bytes w (act_done s d a) acts onward.1 (record { spares = spares_on w d.world _ is.spares one.spares; late = one.late; other = one.other })

  -- ---- turns
  pub turn_spares : (rule : SwitchRule) (w : WorldView) (s : ℕ) (input : SwitchInput) (speech : SpokenFrame) (new : WorldView) (bytes : List ℕ) →
      (turn : SwitchTurn rule w s input speech new) → AllByRecursion (IsOnward bytes) turn.acts → IsOfOther speech → Spares w new
  turn_spares rule w s input speech new bytes turn onward other =
      let w1 : WorldView = record w { switches = set w.switches s turn.after } in
      let start : DuringActs = record { world = w1; speech = speech; late = [] } in
      let d : DuringActs = acts_done s start turn.acts in
      let done = acts_spare s bytes w start turn.acts onward (record { spares = spares_beside w w1 refl refl refl refl; late = tt; other = other }) in
      let behind = spares_on w d.world (with_late d) done.spares (spares_entries d.world d.late done.late) in
      subst (Spares w) (sym turn.changed) (spares_on w (with_late d) _ behind (placed (with_late d) (same_place turn.before.place turn.after.place)))
    where
      placed : (u : WorldView) (b : Bool) → Spares u (all_noted u (if b then [] else Placed (switch_no s) turn.after.place ∷ []))
      placed u true = spares_entries u [] tt
      placed u false = spares_entries u (Placed (switch_no s) turn.after.place ∷ []) (tt, tt)

  pub host_spares : (rule : HostRule) (w : WorldView) (h : ℕ) (input : HostInput) (answer : HostAnswer) (new : WorldView) → HostTurn rule w h input answer new → Spares w new
  host_spares rule w h input answer new turn =
      spares_on w (record w { hosts = set w.hosts h turn.after }) new (spares_beside w _ refl refl refl refl)
      (host_acts_left Spares IsAside spares_writes h (λ u f. spares_sent u h f) rule w input answer new turn)

  pub manager_spares : (rule : ManagerRule) (w : WorldView) (s : ℕ) (told : ToManager) (new : WorldView) → ManagerTurn rule w s told new → Spares w new
  manager_spares rule w s told new turn =
      spares_on w (record w { manager = turn.after }) new (spares_beside w _ refl refl refl refl)
      (manager_acts_left Spares IsAside spares_writes (λ pmac n. tt) (λ u t says. spares_beside u _ refl refl refl refl) rule w s told new turn)
