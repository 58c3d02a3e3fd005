-- Each step keeps what is known of each host, and so does each run from the beginning.
use Rattle.std.proofs.Common.{get_or, set, ◌≡◌, ◌<◌, ◌+◌, ℕ, zero, suc, not, List, ◌∷◌, replicate, length, Option, Some, None, slice_get, refl, sym, ap, subst, ◌∙◌}
use Rattle.std.proofs.lemmas.Bool.{and_parts}
use Rattle.std.proofs.lemmas.Option.{none-some}
use Rattle.pl_wiring.specs.declared.link.Peer.TheVariants.{HostPort, Switch}
use Rattle.pl_wiring.specs.declared.label.SwitchNo.{SwitchNo}
use Rattle.pl_wiring.specs.Peers.{peer_of}
use Rattle.pl_wiring.specs.Plan.{Plan}
use Rattle.pl_node.specs.declared.acts.HostAct.{HostAct}
use Rattle.pl_node.specs.HostDuties.{HostsSendData, HostsSendOwn}
use Rattle.pl_node.specs.HostInputs.{HostAnswer, HostInput, HostRule}
use Rattle.pl_node.specs.HostViews.{HostView}
use Rattle.pl_host_rule.specs.HostRule.{host_rule}
use Rattle.pl_journal.specs.declared.entry.Entry.{Entry}
use Rattle.pl_journal.specs.Places.{is_host_port}
use Rattle.pl_manager_rule.specs.WholeRule.{whole_rule}
use Rattle.pl_switch_rule.specs.SwitchRule.{Loose}
use Rattle.pl_world.specs.declared.event.Event.{Event}
use Rattle.pl_world.specs.declared.event.Event.TheVariants as event
use Rattle.pl_world.specs.declared.event.QueueName.TheVariants as queue
use Rattle.pl_world.specs.declared.limits.Limits.{Limits}
use Rattle.pl_world.specs.declared.attachment.AttachmentPoint.{AttachmentPoint}
use Rattle.pl_world.specs.Booting.{CanBegin, booted}
use Rattle.pl_world.specs.Changes.{noted}
use Rattle.pl_world.specs.LinksAndMoves.{joins}
use Rattle.pl_world.specs.Refusals.{has_port, is_filled, is_linked, refusal, refusal_of_event}
use Rattle.pl_world.specs.Runs.{IsMark, Moment, WorldRun}
use Rattle.pl_world.specs.WorldRule.{ComesIn, WorldStep}
use Rattle.pl_world.specs.Worlds.{WorldView}
use Rattle.pl_world.proofs.Exports.{event_is_not_refused, Happened, happened, place_is_free, port_within, same_refusal, there_is}
use Rattle.pl_world.proofs.Exports.Happened.{Asked, BeganAnew, Departed, Failed, FromHost, Lost, Ordered, OutOfPort, OverLink, PlayedFrame, Repaired, Reported, Ticked}
use Rattle.pl_law_invariant.specs.ControlInvariant.{ControlInvariant}
use Rattle.pl_law_registration.specs.BeingRegistered.{AreAttachedApart}
use Rattle.pl_law_registration.proofs.EventsKeepNotice.{anew_on, fails_on, from_manager, lost_on, repaired_on, ticks_on, to_manager}
use Rattle.pl_law_registration.proofs.Facts.{Facts, facts_of}
use Rattle.pl_law_registration.proofs.DeliveredOutOfPorts.{noted_follows, over_there}
use Rattle.pl_law_registration.proofs.Moves.{goes_on, plays_on, sends_on}
use Rattle.pl_law_registration.proofs.Places.{Attends, boots_apart, edge_port_of}
use Rattle.pl_law_registration.proofs.RegistrationInRuns.{kept_from_beginning}
use Rattle.pl_law_registration.proofs.Sending.{Keeps, from_host}
use Rattle.pl_law_registration.proofs.TurnsOfAKnownHost.{noticed_on}

-- what is kept beside: hosts stand apart, and each is noticed where it stands
pub record AttendsAll (w : WorldView) : Type 0 where
  pub apart : AreAttachedApart w.attachments
  pub each : (h : ℕ) → Attends h w

abbrev After : ℕ → WorldView → Type 0
After h new = Attends h new × AreAttachedApart new.attachments

-- ---- what is not refused

module _ (rule : HostRule) (lawful : (view : HostView) (input : HostInput) (after : HostView) (acts : List HostAct) (answer : HostAnswer) → rule view input after acts answer → host_rule view input after acts answer) where
  module _ (h : ℕ) (w : WorldView) (f : Facts w) (apart : AreAttachedApart w.attachments) (a : Attends h w) where
    after : (new : WorldView) → Keeps h w new → After h new
    after new k = (
      record {
        noticed = λ host attachment at_host at_attachment.
            k.noticed host attachment (ap (λ (p : Plan). slice_get p.hosts h) (sym k.rest.0) ∙ at_host) (ap (λ (xs : List AttachmentPoint). slice_get xs h) (sym k.rest.1) ∙ at_attachment);
      },
      subst (λ (xs : List AttachmentPoint). AreAttachedApart xs) (sym k.rest.1) apart,
    )

    there_port : (e : Event) (s : SwitchNo) (port : ℕ) → refusal_of_event w e ≡ None → e ≡ event.Deliver (queue.Port s port) → port < w.plan.k
    there_port e s port none is =
        port_within w.plan s.0 port (there_is (has_port w.plan s.0 port) (is_filled w (queue.Port s port))
        (subst (λ (x : Event). refusal_of_event w x ≡ None) is none))

    by_case : (e : Event) (new : WorldView) → refusal_of_event w e ≡ None → Happened Loose whole_rule rule w e new → After h new
    by_case e new none (FromHost g item items attachment is head at comes) =
        after new (from_host h w f apart a g.0 (item ∷ items) new head
        (subst (λ (o : Option AttachmentPoint). ComesIn Loose (record w { from_hosts = set w.from_hosts g.0 items }) g.0 item o new) (sym at) comes))
    by_case e new none (OverLink s port item items t q is head joined comes) =
        after new (over_there h w f apart a s.0 port item items head (there_port e s port none is) rule lawful (Switch t q) joined new comes)
    by_case e new none (OutOfPort s port item items is head joined comes) =
        after new (over_there h w f apart a s.0 port item items head (there_port e s port none is) rule lawful HostPort joined new comes)
    by_case e new none (Reported s told items is head turn) = after new (to_manager h w f apart a whole_rule s.0 (told ∷ items) new turn)
    by_case e new none (Ordered s says items is head turn) = after new (from_manager h w f apart a s.0 (says ∷ items) new turn)
    by_case e new none (Ticked s is turn) = after new (ticks_on h w f apart a s.0 new turn)
    by_case e new none (Failed x y link is found fails) = after new (fails_on h w f apart a (joins x.0 y.0) (Some link) found new fails)
    by_case e new none (Repaired x y link is found repairs) = after new (repaired_on h w f apart a (Some link) new repairs)
    by_case e new none (Lost s port item items is head loses) =
        let free = subst (λ (x : Event). refusal_of_event w x ≡ None) is none in
        let two = and_parts (has_port w.plan s.0 port) (not (is_host_port (peer_of w.plan s.0 port))) (there_is (is_linked w.plan s.0 port) _ free) in
        after new (lost_on h w f apart a s.0 port item items head (port_within w.plan s.0 port two.0) two.1 new loses)
    by_case e new none (Departed g s port from is at turn) =
        goes_on h w f apart a rule g.0 from (record { edge = s; port = port }) at
        (place_is_free w g.0 s.0 port (subst (λ (x : Event). refusal_of_event w x ≡ None) is none)) _ new turn
    by_case e new none (PlayedFrame g input skip is turn) = after new (plays_on h w f apart a rule g.0 input new (record { skip = skip; turn = turn }))
    by_case e new none (Asked g input is turn) = after new (sends_on h w f apart a rule g.0 input _ new turn)
    by_case e new none (BeganAnew is anew) = after new (anew_on h w f apart a new anew)

  -- ---- a step
  pub step_attends : (old : WorldView) (e : Event) (new : WorldView) → ControlInvariant old → AttendsAll old → refusal old e ≡ None → WorldStep Loose whole_rule rule old e new → AttendsAll new
  step_attends old e new kept all none step =
      let w : WorldView = record old { steps = old.steps + 1 } in
      let one : (h : ℕ) → After h new = (λ h.
      let a = all.each h in
      by_case h w (facts_of old kept) all.apart (record { noticed = a.noticed }) e new
      (same_refusal old e ∙ event_is_not_refused old e none) (happened Loose whole_rule rule w e new step)) in
      record { apart = (one 0).1; each = λ h. (one h).0 }

  -- ---- a mark
  mark_attends : (w : WorldView) (e : Entry) → IsMark e → AttendsAll w → AttendsAll (noted w e)
  mark_attends w e is all = record {
    apart = all.apart;
    each = λ h. let a = all.each h in record {
      noticed = λ host attachment at_host at_attachment.
          noticed_on (edge_port_of h host attachment) w (noted w e)
          (noted_follows (edge_port_of h host attachment) w e)
          (a.noticed host attachment at_host at_attachment);
    };
  }

  module _ (sends : HostsSendData rule) (owns : HostsSendOwn rule) (plan : Plan) (limits : Limits) (can : CanBegin plan) where
    -- ---- the beginning
    none_heard : (n h : ℕ) → get_or {A = Option ℕ} (replicate n None) h None ≡ None
    none_heard zero h = refl
    none_heard (suc n) zero = refl
    none_heard (suc n) (suc h) = none_heard n h

    boots_being_registered : AttendsAll (booted plan limits)
    boots_being_registered = record {
      apart = boots_apart plan can;
      each = λ h. record {
        noticed = λ host attachment at_host at_attachment v found ticks heard. absurd (none-some ticks (sym (none_heard (length plan.hosts) h) ∙ heard));
      };
    }

    pub run_attends : (moments : List Moment) (new : WorldView) → WorldRun Loose whole_rule rule (booted plan limits) moments new → AttendsAll new
    run_attends moments new run =
        kept_from_beginning rule sends owns AttendsAll step_attends mark_attends plan limits can boots_being_registered moments new run
