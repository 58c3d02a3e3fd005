-- Each event keeps it that each host has joined what its own frames said.
use Rattle.std.proofs.Common.{◌≡◌, ℕ, ◌+◌, ◌==◌, if◌then◌else◌, List, [], ◌∷◌, ◌++◌, map, Some, reverse, set, slice_get, refl, sym, ap, ◌∙◌, subst, inl, inr}
use Rattle.std.specs.List.{AllByRecursion, fold}
use Rattle.std.proofs.lemmas.Bool.{cases_eq, cond-false, cond-true, eq-eqb, ne_eqb}
use Rattle.std.proofs.lemmas.List.{reverse-append}
use Rattle.std.proofs.lemmas.Option.{same_Some, slice_get_within}
use Rattle.pl_lemmas.proofs.Exports.{set_get, set_get_other}
use Rattle.pl_layouts.specs.Memberships.{changes_in}
use Rattle.pl_journal.specs.declared.entry.Entry.{Entry}
use Rattle.pl_journal.specs.declared.entry.Entry.TheVariants.{Sent}
use Rattle.pl_journal.specs.Lossy.{has_joined, joined_after}
use Rattle.pl_node.specs.declared.acts.HostAct.{HostAct}
use Rattle.pl_node.specs.declared.acts.HostAct.TheVariants.{Send}
use Rattle.pl_node.specs.HostDuties.{HoldsData, HostsJoinBySending, joined_by, sent_by}
use Rattle.pl_node.specs.HostInputs.{HostAnswer, HostInput, HostRule}
use Rattle.pl_node.specs.HostViews.{HostView, has_group}
use Rattle.pl_node.specs.ManagerDuties.{ManagerRule}
use Rattle.pl_node.specs.SwitchInputs.{SwitchRule}
use Rattle.pl_world.specs.declared.event.Event.{Event}
use Rattle.pl_world.specs.declared.attachment.AttachmentPoint.{AttachmentPoint}
use Rattle.pl_world.specs.Changes.{host_no}
use Rattle.pl_world.specs.LinksAndMoves.{host_moved, link_failed, link_repaired}
use Rattle.pl_world.specs.OtherActs.{host_act_done}
use Rattle.pl_world.specs.Restarting.{manager_restarted}
use Rattle.pl_world.specs.WorldRule.{Happens, HostTurn}
use Rattle.pl_world.specs.Worlds.{WorldView}
use Rattle.pl_world.proofs.Exports.{all_found, Turned, turned}
use Rattle.pl_world.proofs.Exports.Turned.{NoTurn, OfFailed, OfHost, OfManager, OfMoved, OfRepaired, OfRestarted, OfSwitch}
use Rattle.pl_law_members.specs.Joined.{HaveJoined}
use Rattle.pl_law_members.proofs.HostsLeftAlone.{IsUnsent, Leaves, failed_leaves, joined_kept, leaves_takes, leaves_then, leaves_writes, manager_leaves, moved_leaves, repaired_leaves, restarted_leaves, turn_leaves}

-- where hosts are as they were, and no frame of theirs was written
pub left_joined : (w new : WorldView) → Leaves w new → HaveJoined w → HaveJoined new
left_joined w new left told h view found n =
    told h view (ap (λ hosts. slice_get hosts h) (sym left.hosts) ∙ found) n ∙ sym (joined_kept w.journal new.journal h n left.grows)

-- Hosts.

sent_hosts : (h : ℕ) (acts : List HostAct) (w : WorldView) → (fold (host_act_done h) w acts).hosts ≡ w.hosts
sent_hosts h [] w = refl
sent_hosts h (Send frame ∷ acts) w = sent_hosts h acts (host_act_done h w (Send frame))

one_sent : (journal : List Entry) (id h g n : ℕ) (frame : List ℕ) →
    has_joined (reverse (journal ++ Sent id (host_no h) frame ∷ [])) g n ≡ (if h == g then joined_after (changes_in frame) n (has_joined (reverse journal) g n) else has_joined (reverse journal) g n)
one_sent journal id h g n frame = ap (λ p. has_joined p g n) (reverse-append journal (Sent id (host_no h) frame ∷ []))

own_sent : (h n : ℕ) (acts : List HostAct) (w : WorldView) →
    has_joined (reverse (fold (host_act_done h) w acts).journal) h n ≡ joined_by (map sent_by acts) n (has_joined (reverse w.journal) h n)
own_sent h n [] w = refl
own_sent h n (Send frame ∷ acts) w =
    own_sent h n acts (host_act_done h w (Send frame))
    ∙ ap (joined_by (map sent_by acts) n) (one_sent w.journal (w.begun + 1) h h n frame
    ∙ cond-true (h == h) (joined_after (changes_in frame) n (has_joined (reverse w.journal) h n)) (has_joined (reverse w.journal) h n) (eq-eqb h h refl))

others_sent : (h g n : ℕ) → (h ≡ g → ⊥) → (acts : List HostAct) (w : WorldView) →
    has_joined (reverse (fold (host_act_done h) w acts).journal) g n ≡ has_joined (reverse w.journal) g n
others_sent h g n other [] w = refl
others_sent h g n other (Send frame ∷ acts) w =
    others_sent h g n other acts (host_act_done h w (Send frame))
    ∙ one_sent w.journal (w.begun + 1) h g n frame
    ∙ cond-false (h == g) (joined_after (changes_in frame) n (has_joined (reverse w.journal) g n)) (has_joined (reverse w.journal) g n) (ne_eqb h g other)

module _ (rule : HostRule) (joins : HostsJoinBySending rule) where
  pub host_joined : (w : WorldView) (h : ℕ) (input : HostInput) (answer : HostAnswer) (new : WorldView) → AllByRecursion HoldsData w.hosts → HaveJoined w →
      HostTurn rule w h input answer new → HaveJoined new
  host_joined w h input answer new holding told turn =
      subst HaveJoined (sym turn.changed) (λ g view found n. by_case g view n (ap (λ hosts. slice_get hosts g) (sym (sent_hosts h turn.acts now)) ∙ found))
    where
      now : WorldView
      now = record w { hosts = set w.hosts h turn.after }

      by_case : (g : ℕ) (view : HostView) (n : ℕ) → slice_get (set w.hosts h turn.after) g ≡ Some view →
          has_group view.joined n ≡ has_joined (reverse (fold (host_act_done h) (record w { hosts = set w.hosts h turn.after }) turn.acts).journal) g n
      by_case g view n found = elim (cases_eq h g) [
        | inl same ↦
            let at : slice_get (set w.hosts h turn.after) h ≡ Some turn.after = set_get w.hosts h turn.after (slice_get_within w.hosts h turn.before turn.found) in
            let is : turn.after ≡ view = same_Some turn.after view (sym at ∙ ap (slice_get (set w.hosts h turn.after)) same ∙ found) in
            let own = joins turn.before input turn.after turn.acts answer (all_found HoldsData w.hosts h turn.before turn.found holding) turn.ruled n in
            ap (λ (v : HostView). has_group v.joined n) (sym is) ∙ own ∙ ap (joined_by (map sent_by turn.acts) n) (told h turn.before turn.found n)
            ∙ sym (own_sent h n turn.acts (record w { hosts = set w.hosts h turn.after }))
            ∙ ap (λ x. has_joined (reverse (fold (host_act_done h) (record w { hosts = set w.hosts h turn.after }) turn.acts).journal) x n) same
        | inr other ↦
            told g view (sym (set_get_other w.hosts h g turn.after other) ∙ found) n
            ∙ sym (others_sent h g n other turn.acts (record w { hosts = set w.hosts h turn.after }))
      ]

  module _ (switch : SwitchRule) (manager : ManagerRule) (w : WorldView) (holding : AllByRecursion HoldsData w.hosts) (told : HaveJoined w) (new : WorldView)
      (happens : Event) where
    by_turn : Turned Leaves switch manager rule w happens new → HaveJoined new
    by_turn (NoTurn left) = left_joined w new left told
    by_turn (OfSwitch mid s input speech left turn) = left_joined w new (leaves_then w mid new left (turn_leaves switch mid s input speech new turn)) told
    by_turn (OfHost mid h input answer left turn) =
        host_joined mid h input answer new (subst (AllByRecursion HoldsData) (sym left.hosts) holding) (left_joined w mid left told) turn
    by_turn (OfManager mid s says left turn) = left_joined w new (leaves_then w mid new left (manager_leaves manager mid s says new turn)) told
    by_turn (OfMoved h s port from is at turn) =
        let to : AttachmentPoint = record { edge = s; port = port } in
        host_joined (host_moved w h.0 from to) h.0 _ _ new holding (left_joined w (host_moved w h.0 from to) (moved_leaves w h.0 from to) told) turn
    by_turn (OfFailed a b link is found fails) = subst HaveJoined (sym fails) (left_joined w (link_failed w link) (failed_leaves w link) told)
    by_turn (OfRepaired a b link is found repairs) = subst HaveJoined (sym repairs) (left_joined w (link_repaired w link) (repaired_leaves w link) told)
    by_turn (OfRestarted is anew) = subst HaveJoined (sym anew) (left_joined w (manager_restarted w) (restarted_leaves w) told)

    pub happens_joined : Happens switch manager rule w happens new → HaveJoined new
    happens_joined does =
        by_turn (turned Leaves IsUnsent leaves_writes leaves_takes (λ id s. tt) (λ id h frame. tt) (λ h skip. tt) switch manager rule w happens new does)
