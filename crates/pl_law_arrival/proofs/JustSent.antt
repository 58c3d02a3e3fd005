-- A frame that a step sends waits in the queue of its host then.
use Rattle.std.proofs.Common.{◌≡◌, ◌⊎◌, ℕ, ◌+◌, ◌<◌, Bool, true, false, List, [], ◌∷◌, ◌++◌, length, fold, set, refl, sym, ap, ◌∙◌, subst, inl, inr}
use Rattle.std.proofs.Math.ListN.{length-set}
use Rattle.std.proofs.lemmas.Option.{slice_get_within}
use Rattle.pl_journal.specs.declared.entry.Entry.{Entry}
use Rattle.pl_journal.specs.declared.entry.Entry.TheVariants as entry
use Rattle.pl_node.specs.declared.acts.HostAct.{HostAct}
use Rattle.pl_node.specs.declared.acts.HostAct.TheVariants.{Send}
use Rattle.pl_node.specs.declared.messages.ToManager.{ToManager}
use Rattle.pl_node.specs.HostInputs.{HostAnswer, HostInput, HostRule}
use Rattle.pl_node.specs.ManagerDuties.{ManagerRule}
use Rattle.pl_node.specs.SwitchInputs.{SwitchInput, SwitchRule}
use Rattle.pl_node.proofs.Exports.{among_append, IsAmong}
use Rattle.pl_node.specs.HostViews.{HostView}
use Rattle.pl_queues.specs.Queues.{items_at, put_at}
use Rattle.pl_world.specs.declared.event.Event.{Event}
use Rattle.pl_world.specs.declared.item.Item.{Item}
use Rattle.pl_world.specs.declared.item.Item.TheVariants.{Data}
use Rattle.pl_world.specs.declared.spoken_frame.SpokenFrame.{SpokenFrame as Speech}
use Rattle.pl_world.specs.declared.attachment.AttachmentPoint.{AttachmentPoint}
use Rattle.pl_world.specs.Changes.{host_no}
use Rattle.pl_world.specs.Flying.{IsCounted}
use Rattle.pl_world.specs.LinksAndMoves.{host_moved}
use Rattle.pl_world.specs.OtherActs.{host_act_done}
use Rattle.pl_world.specs.WorldRule.{HostTurn, ManagerTurn, SwitchTurn, WorldStep}
use Rattle.pl_world.specs.Worlds.{WorldView}
use Rattle.pl_world.proofs.Exports.{anew_left, empties_of, failed_left, manager_acts_left, moved_left, repaired_left, switch_acts_left, SwitchesWrite, Takes, Turned, turned, Writes}
use Rattle.pl_world.proofs.Exports.Turned.{NoTurn, OfFailed, OfHost, OfManager, OfMoved, OfRepaired, OfRestarted, OfSwitch}
use Rattle.pl_law_arrival.proofs.LeftByAStep.{put_keeps, put_there}

-- The frames that were sent since are in the queues of their hosts.
abbrev pub WaitSince : List Entry → WorldView → Type 0
WaitSince journal w = (id h : ℕ) (frame : List ℕ) → IsAmong (entry.Sent id (host_no h) frame) w.journal →
    IsAmong (entry.Sent id (host_no h) frame) journal ⊎ IsAmong (Data id frame) (items_at w.from_hosts h)

-- the frame that an entry sends, and who sends it
abbrev item_of : Entry → Item
item_of (entry.Sent id h frame) = Data id frame
item_of e = Data 0 []

abbrev sender_of : Entry → ℕ
sender_of (entry.Sent id h frame) = h.0
sender_of e = 0

abbrev is_no_send : Entry → Bool
is_no_send (entry.Sent id h frame) = false
is_no_send e = true

-- what sends no frame of a host, and has as many queues of hosts
record SendsNone (a b : WorldView) : Type 0 where
  sent : (id h : ℕ) (frame : List ℕ) → IsAmong (entry.Sent id (host_no h) frame) b.journal → IsAmong (entry.Sent id (host_no h) frame) a.journal
  queues : length b.from_hosts ≡ length a.from_hosts
  hosts : b.hosts ≡ a.hosts

-- an entry that is no sending
abbrev IsNoSend : Entry → Type 0
IsNoSend e = is_no_send e ≡ true

none_more : (journal : List Entry) (e : Entry) → IsNoSend e → (id h : ℕ) (frame : List ℕ) → IsAmong (entry.Sent id (host_no h) frame) (journal ++ e ∷ []) →
    IsAmong (entry.Sent id (host_no h) frame) journal
none_more journal e is id h frame there = elim (among_append (entry.Sent id (host_no h) frame) journal (e ∷ []) there) [
  | inl old ↦ old
  | inr (inl same) ↦ absurd (cc (ap is_no_send same, is))
  | inr (inr never) ↦ absurd never
]

beside : (w new : WorldView) → new.journal ≡ w.journal → length new.from_hosts ≡ length w.from_hosts → new.hosts ≡ w.hosts → SendsNone w new
beside w new journal queues hosts =
    record { sent = λ id h frame there. subst (IsAmong (entry.Sent id (host_no h) frame)) journal there; queues = queues; hosts = hosts }

none_writes : Writes SendsNone IsNoSend
none_writes = record {
  same = λ w. beside w w refl refl refl;
  on =
      λ a b c one next. record {
        sent = λ id h frame there. one.sent id h frame
            (next.sent id h frame there);
        queues = next.queues ∙ one.queues;
        hosts = next.hosts ∙ one.hosts;
      };
  entry = λ w e is. record { sent = none_more w.journal e is; queues = refl; hosts = refl };
  dropped = λ id why. refl;
}

none_acts : SwitchesWrite SendsNone IsNoSend
none_acts = record {
  begun = λ w e is. record { sent = none_more w.journal e is; queues = refl; hosts = refl };
  crossed = λ id s. refl;
  copied = λ id copy. refl;
  made = λ id s frame. refl;
  granted = λ pmac h s port. refl;
  freed = λ pmac. refl;
  redirected = λ id old new. refl;
  taken = λ id s. refl;
}

none_takes : Takes SendsNone
none_takes = record {
  from_hosts = λ w h items. beside w _ refl (length-set w.from_hosts h items) refl;
  out = λ w i items. beside w _ refl refl refl;
  to_manager = λ w s items. beside w _ refl refl refl;
  from_manager = λ w s items. beside w _ refl refl refl;
  heard = λ w heard. beside w _ refl refl refl;
}

switch_sends_none : (rule : SwitchRule) (w : WorldView) (s : ℕ) (input : SwitchInput) (speech : Speech) (new : WorldView) →
    SwitchTurn rule w s input speech new → SendsNone w new
switch_sends_none rule w s input speech new turn =
    none_writes.on w (record w { switches = set w.switches s turn.after }) new (beside w _ refl refl refl)
    (switch_acts_left SendsNone IsNoSend none_writes none_acts (λ u i item. beside u _ refl refl refl)
    (λ u t told. beside u _ refl refl refl) s rule w input speech new (λ place. refl) turn)

manager_sends_none : (rule : ManagerRule) (w : WorldView) (s : ℕ) (told : ToManager) (new : WorldView) → ManagerTurn rule w s told new → SendsNone w new
manager_sends_none rule w s told new turn =
    none_writes.on w (record w { manager = turn.after }) new (beside w _ refl refl refl)
    (manager_acts_left SendsNone IsNoSend none_writes (λ pmac n. refl) (λ u t says. beside u _ refl refl refl) rule w s told new turn)

module _ (journal : List Entry) where
  -- ---- hosts
  sent_since : (w : WorldView) (n : ℕ) (f : List ℕ) → n < length w.from_hosts → WaitSince journal w → WaitSince journal (host_act_done n w (Send f))
  sent_since w n f within since id h frame there = elim (among_append (entry.Sent id (host_no h) frame) w.journal (_ ∷ []) there) [
    | inr (inl same) ↦
        let item : Data (w.begun + 1) f ≡ Data id frame = ap item_of same in
        let who : n ≡ h = ap sender_of same in
        inr (subst (λ m. IsAmong (Data id frame) (items_at (put_at w.from_hosts n (Data (w.begun + 1) f)) m)) who
        (subst (λ (y : Item). IsAmong y (items_at (put_at w.from_hosts n (Data (w.begun + 1) f)) n)) item (put_there w.from_hosts n (Data (w.begun + 1) f) within)))
    | inr (inr never) ↦ absurd never
    | inl old ↦ elim (since id h frame old) [
      | inl before ↦ inl before
      | inr waits ↦ inr (put_keeps w.from_hosts n h (Data id frame) (Data (w.begun + 1) f) waits)
    ]
  ]

  host_acts_since : (w : WorldView) (n : ℕ) (acts : List HostAct) → n < length w.from_hosts → WaitSince journal w → WaitSince journal (fold (host_act_done n) w acts)
  host_acts_since w n [] within since = since
  host_acts_since w n (Send f ∷ acts) within since =
      host_acts_since (host_act_done n w (Send f)) n acts (subst (λ m. n < m) (sym (length-set w.from_hosts n _)) within) (sent_since w n f within since)

  host_since : (rule : HostRule) (w : WorldView) (n : ℕ) (input : HostInput) (answer : HostAnswer) (new : WorldView) → HostTurn rule w n input answer new → length w.from_hosts ≡ length w.hosts →
      WaitSince journal w → WaitSince journal new
  host_since rule w n input answer new turn many since =
      subst (WaitSince journal) (sym turn.changed)
      (host_acts_since (record w { hosts = set w.hosts n turn.after }) n turn.acts (subst (λ m. n < m) (sym many) (slice_get_within w.hosts n turn.before turn.found)) since)

module _ (switch : SwitchRule) (manager : ManagerRule) (host : HostRule) (old new : WorldView) (counted : IsCounted old) (happens : Event) where
  abbrev w : WorldView
  w = record old { steps = old.steps + 1 }

  -- behind what sends none, what was sent was sent before
  before : (mid : WorldView) → SendsNone w mid → WaitSince old.journal mid
  before mid none id h frame there = inl (none.sent id h frame there)

  turns : (mid : WorldView) (n : ℕ) (input : HostInput) (answer : HostAnswer) → SendsNone w mid → HostTurn host mid n input answer new →
      WaitSince old.journal new
  turns mid n input answer none turn =
      host_since old.journal host mid n input answer new turn
      (none.queues ∙ counted.formed.from_hosts ∙ sym counted.formed.hosts ∙ ap (λ (xs : List HostView). length xs) (sym none.hosts)) (before mid none)

  by_turn : Turned SendsNone switch manager host w happens new → WaitSince old.journal new
  by_turn (NoTurn none) = before new none
  by_turn (OfSwitch mid s input speech none turn) = before new (none_writes.on w mid new none (switch_sends_none switch mid s input speech new turn))
  by_turn (OfHost mid n input answer none turn) = turns mid n input answer none turn
  by_turn (OfManager mid s told none turn) = before new (none_writes.on w mid new none (manager_sends_none manager mid s told new turn))
  by_turn (OfMoved n s p from is at turn) =
      let to : AttachmentPoint = record { edge = s; port = p } in
      turns (host_moved w n.0 from to) n.0 _ _
      (moved_left SendsNone IsNoSend none_writes (empties_of SendsNone none_takes) w n.0 from to refl (λ u. beside u _ refl refl refl)) turn
  by_turn (OfFailed a b link is found fails) =
      before new (subst (SendsNone w) (sym fails) (failed_left SendsNone IsNoSend none_writes (λ u i. none_takes.out u i []) w link refl
      (λ u links. beside u _ refl refl refl)))
  by_turn (OfRepaired a b link is found repairs) =
      before new (subst (SendsNone w) (sym repairs) (repaired_left SendsNone IsNoSend none_writes w link refl (λ u links. beside u _ refl refl refl)))
  by_turn (OfRestarted is anew) = before new (subst (SendsNone w) (sym anew) (anew_left SendsNone IsNoSend none_writes w refl (λ u n. beside u _ refl refl refl)))

  pub waits_since : WorldStep switch manager host old happens new → WaitSince old.journal new
  waits_since step =
      by_turn (turned SendsNone IsNoSend none_writes none_takes (λ id s. refl) (λ id h frame. refl) (λ h skip. refl) switch manager host w happens new step)
