-- The manager's epoch is how often the journal says that it began anew: no turn changes either.
use Rattle.std.proofs.Common.{◌≡◌, ℕ, ◌+◌, List, [], ◌∷◌, ◌++◌, None, reverse, refl, sym, ap, subst, ◌∙◌}
use Rattle.std.proofs.lemmas.List.{reverse-append}
use Rattle.pl_journal.specs.declared.entry.Entry.{Entry}
use Rattle.pl_journal.specs.declared.entry.Entry.TheVariants.{Restarted}
use Rattle.pl_journal.specs.Places.{restarts}
use Rattle.pl_node.specs.HostInputs.{HostAnswer, HostInput, HostRule}
use Rattle.pl_node.specs.ManagerDuties.{AnswersDuly, ManagerRule}
use Rattle.pl_node.specs.SwitchInputs.{SwitchInput, SwitchRule}
use Rattle.pl_node.specs.declared.messages.ToManager.{ToManager}
use Rattle.pl_world.specs.declared.attachment.AttachmentPoint.{AttachmentPoint}
use Rattle.pl_world.specs.declared.event.Event.{Event}
use Rattle.pl_world.specs.declared.spoken_frame.SpokenFrame.{SpokenFrame}
use Rattle.pl_world.specs.LinksAndMoves.{host_moved}
use Rattle.pl_world.specs.Refusals.{refusal}
use Rattle.pl_world.specs.Restarting.{CountsRestarts, manager_restarted}
use Rattle.pl_world.specs.Booting.{booted}
use Rattle.pl_world.specs.Changes.{noted}
use Rattle.pl_world.specs.Runs.{InEveryRun, IsMark}
use Rattle.pl_world.specs.WorldRule.{HostTurn, ManagerTurn, SwitchTurn, WorldStep}
use Rattle.pl_world.specs.Worlds.{WorldView}
use Rattle.pl_world.proofs.Exports.{empties_of, failed_left, host_acts_left, manager_acts_left, moved_left, repaired_left, run_along, switch_acts_left, SwitchesWrite, Takes, Turned, turned, Writes}
use Rattle.pl_world.proofs.Exports.Turned.{NoTurn, OfFailed, OfHost, OfManager, OfMoved, OfRepaired, OfRestarted, OfSwitch}

abbrev said : WorldView → ℕ
said w = restarts (reverse w.journal)

-- an entry that does not say it
abbrev SaysNone : Entry → Type 0
SaysNone e = (past : List Entry) → restarts (e ∷ past) ≡ restarts past

-- the manager is of the same epoch, and the journal says no more of it
record Same (a b : WorldView) : Type 0 where
  epoch : b.manager.epoch ≡ a.manager.epoch
  journal : said b ≡ said a

one_more : (journal : List Entry) (e : Entry) → restarts (reverse (journal ++ e ∷ [])) ≡ restarts (e ∷ reverse journal)
one_more journal e = ap restarts (reverse-append journal (e ∷ []))

says_no_more : (journal : List Entry) (e : Entry) → SaysNone e → restarts (reverse (journal ++ e ∷ [])) ≡ restarts (reverse journal)
says_no_more journal e none = one_more journal e ∙ none (reverse journal)

still : (w v : WorldView) → v.manager ≡ w.manager → v.journal ≡ w.journal → Same w v
still w v manager journal = record { epoch = ap (λ m. m.epoch) manager; journal = ap (λ j. restarts (reverse j)) journal }

same_writes : Writes Same SaysNone
same_writes = record {
  same = λ w. still w w refl refl;
  on = λ a b c one next. record { epoch = next.epoch ∙ one.epoch; journal = next.journal ∙ one.journal };
  entry = λ w e none. record { epoch = refl; journal = says_no_more w.journal e none };
  dropped = λ id why past. refl;
}

same_takes : Takes Same
same_takes = record {
  from_hosts = λ w h items. still w _ refl refl;
  out = λ w i items. still w _ refl refl;
  to_manager = λ w s items. still w _ refl refl;
  from_manager = λ w s items. still w _ refl refl;
  heard = λ w heard. still w _ refl refl;
}

switches_say : SwitchesWrite Same SaysNone
switches_say = record {
  begun = λ w e none. record { epoch = refl; journal = says_no_more w.journal e none };
  crossed = λ id s past. refl;
  copied = λ id copy past. refl;
  made = λ id s frame past. refl;
  granted = λ pmac h s port past. refl;
  freed = λ pmac past. refl;
  redirected = λ id old new past. refl;
  taken = λ id s past. refl;
}

module _ (w v : WorldView) (counts : CountsRestarts w) where
  kept : Same w v → CountsRestarts v
  kept same = same.epoch ∙ counts ∙ sym same.journal

  anew : v ≡ manager_restarted w → CountsRestarts v
  anew is =
      ap (λ (x : WorldView). x.manager.epoch) is ∙ ap (λ n. n + 1) counts
      ∙ sym (ap said is ∙ one_more w.journal (Restarted (w.manager.epoch + 1)))

module _ (switch : SwitchRule) (manager : ManagerRule) (host : HostRule) (answers : AnswersDuly manager) where
  switch_same : (w : WorldView) (s : ℕ) (input : SwitchInput) (speech : SpokenFrame) (new : WorldView) → SwitchTurn switch w s input speech new → Same w new
  switch_same w s input speech new turn =
      let left = switch_acts_left Same SaysNone same_writes switches_say (λ u i item. still u _ refl refl) (λ u t told. still u _ refl refl) s switch w input speech new
      (λ place past. refl) turn in
      record { epoch = left.epoch; journal = left.journal }

  host_same : (w : WorldView) (h : ℕ) (input : HostInput) (answer : HostAnswer) (new : WorldView) → HostTurn host w h input answer new → Same w new
  host_same w h input answer new turn =
      let left = host_acts_left Same SaysNone same_writes h
      (λ u frame. record { epoch = refl; journal = says_no_more u.journal _ (λ past. refl) }) host w input answer new turn in
      record { epoch = left.epoch; journal = left.journal }

  manager_same : (w : WorldView) (s : ℕ) (told : ToManager) (new : WorldView) → ManagerTurn manager w s told new → Same w new
  manager_same w s told new turn =
      let left = manager_acts_left Same SaysNone same_writes (λ pmac n past. refl) (λ u t says. still u _ refl refl) manager w s told new turn in
      record { epoch = left.epoch ∙ (answers.grows w.manager turn.id told turn.after turn.acts turn.ruled).epoch; journal = left.journal }

  by_turn : (w : WorldView) (e : Event) (new : WorldView) → CountsRestarts w → Turned Same switch manager host w e new → CountsRestarts new
  by_turn w e new counts (NoTurn same) = kept w new counts same
  by_turn w e new counts (OfSwitch mid s input speech same turn) = kept w new counts (same_writes.on w mid new same (switch_same mid s input speech new turn))
  by_turn w e new counts (OfHost mid h input answer same turn) = kept w new counts (same_writes.on w mid new same (host_same mid h input answer new turn))
  by_turn w e new counts (OfManager mid s told same turn) = kept w new counts (same_writes.on w mid new same (manager_same mid s told new turn))
  by_turn w e new counts (OfMoved h s port from is at turn) =
      let to : AttachmentPoint = record { edge = s; port = port } in
      let moved : WorldView = host_moved w h.0 from to in
      kept w new counts (same_writes.on w moved new
      (moved_left Same SaysNone same_writes (empties_of Same same_takes) w h.0 from to (λ past. refl) (λ u. still u _ refl refl))
      (host_same moved h.0 _ _ new turn))
  by_turn w e new counts (OfFailed a b link is found fails) =
      kept w new counts (subst (λ (x : WorldView). Same w x) (sym fails)
      (failed_left Same SaysNone same_writes (λ u i. same_takes.out u i []) w link (λ past. refl) (λ u links. still u _ refl refl)))
  by_turn w e new counts (OfRepaired a b link is found repairs) =
      kept w new counts (subst (λ (x : WorldView). Same w x) (sym repairs)
      (repaired_left Same SaysNone same_writes w link (λ past. refl) (λ u links. still u _ refl refl)))
  by_turn w e new counts (OfRestarted is restarts) = anew w new counts restarts

  pub step_counts : (old : WorldView) (e : Event) (new : WorldView) → WorldStep switch manager host old e new → CountsRestarts old → CountsRestarts new
  step_counts old e new step counts =
      let w : WorldView = record old { steps = old.steps + 1 } in
      by_turn w e new counts (turned Same SaysNone same_writes same_takes (λ id s past. refl) (λ id h frame past. refl) (λ h skip past. refl) switch manager host w e new step)

  pub mark_counts : (w : WorldView) (e : Entry) → IsMark e → CountsRestarts w → CountsRestarts (noted w e)
  mark_counts w (Restarted n) is counts = absurd is
  mark_counts w e is counts = counts ∙ sym (says_no_more w.journal e (λ past. refl))

  pub run_counts : InEveryRun switch manager host CountsRestarts
  run_counts plan limits moments new can run =
      run_along (λ a b. CountsRestarts a → CountsRestarts b) (λ w counts. counts) (λ a b c one next counts. next (one counts)) switch manager host
      (λ old e after none step counts. step_counts old e after step counts) mark_counts (booted plan limits) moments new run refl
