-- In every run addresses are granted to hosts that stand there, or have stood there.
use Rattle.std.proofs.Common.{◌≡◌, ◌+◌, ◌==◌, ℕ, zero, suc, true, get_or, List, [], ◌∷◌, map, replicate, reverse, Option, Some, None, option_map, slice_get, refl, sym, ap, subst, ◌∙◌, eq-eqb}
use Rattle.std.proofs.lemmas.Bool.{and_from}
use Rattle.std.proofs.lemmas.Option.{none-some, same_Some}
use Rattle.pl_frame.specs.declared.address.SwitchId.{SwitchId}
use Rattle.pl_wiring.specs.declared.host.Host.{Host}
use Rattle.pl_wiring.specs.Plan.{Plan}
use Rattle.pl_node.specs.declared.switch_records.Source.{Source}
use Rattle.pl_node.specs.HostDuties.{HostsSendData, HostsSendOwn}
use Rattle.pl_node.specs.HostInputs.{HostRule}
use Rattle.pl_node.specs.SwitchFacts.{switch_at_boot}
use Rattle.pl_node.specs.SwitchViews.{SwitchView}
use Rattle.pl_journal.specs.declared.entry.Entry.{Entry}
use Rattle.pl_journal.specs.declared.entry.Entry.TheVariants.{Granted}
use Rattle.pl_journal.specs.Places.{at_port, is_at}
use Rattle.pl_manager_rule.specs.WholeRule.{whole_rule}
use Rattle.pl_switch_rule.specs.SwitchRule.{Loose}
use Rattle.pl_world.specs.declared.event.Event.{Event}
use Rattle.pl_world.specs.declared.limits.Limits.{Limits}
use Rattle.pl_world.specs.declared.attachment.AttachmentPoint.{AttachmentPoint}
use Rattle.pl_world.specs.Booting.{CanBegin, booted, first_attachment}
use Rattle.pl_world.specs.Changes.{noted}
use Rattle.pl_world.specs.Refusals.{refusal}
use Rattle.pl_world.specs.Runs.{IsMark, Moment, WorldRun}
use Rattle.pl_world.specs.WorldRule.{WorldStep}
use Rattle.pl_world.specs.Worlds.{WorldView}
use Rattle.pl_law_invariant.specs.ControlInvariant.{ControlInvariant}
use Rattle.pl_world.proofs.Exports.{event_is_not_refused, same_refusal}
use Rattle.pl_law_registration.specs.BeingRegistered.{AreAttachedApart}
use Rattle.pl_law_registration.specs.Stood.{AreStoodFor}
use Rattle.pl_law_registration.proofs.Facts.{facts_of}
use Rattle.pl_law_registration.proofs.GrantRows.{IsFine}
use Rattle.pl_law_registration.proofs.Places.{boots_apart}
use Rattle.pl_law_registration.proofs.RegistrationInRuns.{kept_from_beginning}
use Rattle.pl_law_registration.proofs.StoodActs.{IsNoGrant, StoodThere, wrote_quiet}
use Rattle.pl_law_registration.proofs.StoodEvents.{IsStood, event_stood, stood_on}

mark_grants_none : (e : Entry) → IsMark e → IsNoGrant e
mark_grants_none (Granted x h s p) is = absurd is
mark_grants_none e is = tt

marked : (w : WorldView) (e : Entry) → IsMark e → IsStood w → IsStood (noted w e)
marked w e is st = stood_on w.plan w.attachments w.switches w.journal (noted w e).journal (wrote_quiet w.plan w.journal e (mark_grants_none e is)) st

stepped : (rule : HostRule) (old : WorldView) (e : Event) (new : WorldView) → ControlInvariant old → IsStood old → refusal old e ≡ None → WorldStep Loose whole_rule rule old e new → IsStood new
stepped rule old e new kept st none step =
    event_stood (record old { steps = old.steps + 1 }) (facts_of old kept) (record { apart = st.apart; attachment = st.attachment; remembered = st.remembered; granted = st.granted }) rule whole_rule e new
    (same_refusal old e ∙ event_is_not_refused old e none) step

-- ---- the beginning
stands_first : (plan : Plan) (hosts : List Host) (g : ℕ) (attachment : AttachmentPoint) → slice_get (map first_attachment hosts) g ≡ Some attachment →
    is_at (option_map (λ h. at_port h.edge.0 h.port) (slice_get hosts g)) (at_port attachment.edge.0 attachment.port) ≡ true
stands_first plan [] g attachment is = absurd (none-some attachment is)
stands_first plan (host ∷ hosts) zero attachment is =
    let same = same_Some (first_attachment host) attachment is in
    and_from (host.edge.0 == attachment.edge.0) (host.port == attachment.port) (eq-eqb host.edge.0 attachment.edge.0 (ap (λ (s : AttachmentPoint). s.edge.0) same)) (eq-eqb host.port attachment.port (ap (λ (s : AttachmentPoint). s.port) same))
stands_first plan (host ∷ hosts) (suc g) attachment is = stands_first plan hosts g attachment is

nothing_remembered : (n i : ℕ) → get_or {A = Option Source} (replicate n None) i None ≡ None
nothing_remembered zero i = refl
nothing_remembered (suc n) zero = refl
nothing_remembered (suc n) (suc i) = nothing_remembered n i

switch_first : (k : ℕ) (ids : List SwitchId) (s : ℕ) (v : SwitchView) → slice_get (map (λ id. switch_at_boot id k) ids) s ≡ Some v → (id : SwitchId) × (switch_at_boot id k ≡ v)
switch_first k [] s v is = absurd (none-some v is)
switch_first k (id ∷ ids) zero v is = (id, same_Some (switch_at_boot id k) v is)
switch_first k (id ∷ ids) (suc s) v is = switch_first k ids s v is

boots_stood : (plan : Plan) (limits : Limits) → CanBegin plan → IsStood (booted plan limits)
boots_stood plan limits can = record {
  apart = boots_apart plan can;
  attachment = λ g attachment is. stands_first plan plan.hosts g attachment is;
  remembered = λ s v is port. let it = switch_first plan.k plan.ids s v is in
      subst (λ (u : SwitchView). IsFine (λ q mac. StoodThere plan [] mac s q) port (get_or u.remembered port None)) it.1
      (subst (λ (o : Option Source). IsFine (λ q mac. StoodThere plan [] mac s q) port o) (sym (nothing_remembered plan.k port)) tt);
  granted = tt;
}

stood_in_run : (rule : HostRule) → HostsSendData rule → HostsSendOwn rule → (plan : Plan) (limits : Limits) (moments : List Moment) (new : WorldView) → CanBegin plan →
    WorldRun Loose whole_rule rule (booted plan limits) moments new → IsStood new
stood_in_run rule sends owns plan limits moments new can run =
    kept_from_beginning rule sends owns IsStood (stepped rule) marked plan limits can (boots_stood plan limits can) moments new run

pub run_stood : (rule : HostRule) → HostsSendData rule → HostsSendOwn rule → (plan : Plan) (limits : Limits) (moments : List Moment) (new : WorldView) → CanBegin plan →
    WorldRun Loose whole_rule rule (booted plan limits) moments new → AreStoodFor new.plan (reverse new.journal)
run_stood rule sends owns plan limits moments new can run =
    (stood_in_run rule sends owns plan limits moments new can run).granted

pub run_apart : (rule : HostRule) → HostsSendData rule → HostsSendOwn rule → (plan : Plan) (limits : Limits) (moments : List Moment) (new : WorldView) → CanBegin plan →
    WorldRun Loose whole_rule rule (booted plan limits) moments new → AreAttachedApart new.attachments
run_apart rule sends owns plan limits moments new can run = (stood_in_run rule sends owns plan limits moments new can run).apart
