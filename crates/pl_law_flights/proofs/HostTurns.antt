-- A host sends frames, and receives one.
use Rattle.std.proofs.Common.{◌≡◌, ℕ, ◌+◌, ◌<◌, IsTrue, List, [], ◌∷◌, ◌++◌, length, map, Option, None, Some, reverse, get_or, set, refl, sym, ap, subst, arith}
use Rattle.std.specs.List.{fold}
use Rattle.std.proofs.lemmas.Bool.{and_parts}
use Rattle.std.proofs.lemmas.Option.{slice_get_within}
use Rattle.pl_layouts.specs.declared.place.Place.{Place}
use Rattle.pl_journal.specs.declared.cause.Skip.{Skip}
use Rattle.pl_journal.specs.declared.entry.Entry.{Entry}
use Rattle.pl_journal.specs.declared.entry.Entry.TheVariants.{Sent, Skipped}
use Rattle.pl_journal.specs.Flights.{begun}
use Rattle.pl_journal.proofs.Exports.{flight_sent}
use Rattle.pl_node.specs.declared.acts.HostAct.{HostAct}
use Rattle.pl_node.specs.declared.acts.HostAct.TheVariants.{Send}
use Rattle.pl_node.specs.HostDuties.{HoldsData, HostsSendData, are_data, is_data, sent_by}
use Rattle.pl_node.specs.HostInputs.{HostAnswer, HostInput, HostRule}
use Rattle.pl_world.specs.declared.item.Item.TheVariants.{Data}
use Rattle.pl_world.specs.Changes.{host_no}
use Rattle.pl_world.specs.OtherActs.{host_act_done, skip_noted}
use Rattle.pl_world.specs.WorldRule.{HostPlays, HostTurn}
use Rattle.pl_world.specs.Worlds.{WorldView}
use Rattle.pl_world.proofs.Exports.{all_found, host_act, hosts_rest, hosts_within, noted_owes, Sound}
use Rattle.pl_law_flights.specs.OnTheWay.{IsJournaled, JournalSays, history_of, place_in}
use Rattle.pl_law_flights.proofs.Counting.{begun_is, counts, next_nowhere, nobody}
use Rattle.pl_law_flights.proofs.KeepingFlights.{kept, same_history}
use Rattle.pl_law_flights.proofs.EntriesOfFlights.{note, reverse_noted}
use Rattle.pl_law_flights.proofs.Queues.{put_host}

-- a host sends a frame
pub sent_journaled : (w : WorldView) (h : ℕ) (a : HostAct) → Sound w → IsJournaled w → IsJournaled (host_act_done h w a)
sent_journaled w h (Send frame) so told =
    let past : List Entry = reverse w.journal in
    let n : ℕ = w.begun + 1 in
    let sent : Entry = Sent n (host_no h) frame in
    let place : ℕ → Place = place_in w.switches in
    let c = counts w past (λ i. 0) refl so.balance in
    let next : n ≡ begun past + 1 = ap (λ m. m + 1) (sym (begun_is w past (λ i. 0) refl so.balance)) in
    let t : JournalSays w.plan place (sent ∷ past) w.links w.attachments w.from_hosts w.out = note w.plan place past w.links w.attachments w.from_hosts w.out sent n
    (next_nowhere past w.from_hosts w.out (λ i. 0) n next c) (λ g other. kept w.plan past sent g other) (same_history (history_of past)) next tt
    told.links_agree told.attachments_agree told in
    let done : JournalSays w.plan place (sent ∷ past) w.links w.attachments (set w.from_hosts h (get_or w.from_hosts h [] ++ Data n frame ∷ [])) w.out = record {
      run = t.run;
      trail = t.trail;
      links_agree = t.links_agree;
      attachments_agree = t.attachments_agree;
      flying = put_host w.plan place (sent ∷ past) w.from_hosts w.out h (Data n frame) (flight_sent w.plan past n (host_no h) frame told.run next) t.flying;
    } in
    subst (λ p. JournalSays w.plan place p w.links w.attachments (set w.from_hosts h (get_or w.from_hosts h [] ++ Data n frame ∷ [])) w.out)
    (sym (reverse_noted w.journal past sent refl)) done

all_sent : (w : WorldView) (h : ℕ) (acts : List HostAct) → h < length w.from_hosts → IsTrue (are_data (map sent_by acts)) → Sound w → IsJournaled w →
    IsJournaled (fold (host_act_done h) w acts)
all_sent w h [] within are so told = told
all_sent w h (a ∷ acts) within are so told =
    let both = and_parts (is_data (sent_by a)) (are_data (map sent_by acts)) are in
    all_sent (host_act_done h w a) h acts (hosts_within w h a within) both.1 (host_act w h a within both.0 so) (sent_journaled w h a so told)

-- a turn of a host
pub host_journaled : (rule : HostRule) → HostsSendData rule → (w : WorldView) (h : ℕ) (input : HostInput) (answer : HostAnswer) (new : WorldView) →
    Sound w → IsJournaled w → HostTurn rule w h input answer new → IsJournaled new
host_journaled rule sends w h input answer new so told turn =
    let holds : HoldsData turn.before = all_found HoldsData w.hosts h turn.before turn.found so.rest.holding in
    let owed = sends turn.before input turn.after turn.acts answer holds turn.ruled in
    let within : h < length w.hosts = slice_get_within w.hosts h turn.before turn.found in
    let in_queues : h < length w.from_hosts = let e = so.rest.hosts_many in let e2 = so.balance.hosts in omega arith in
    subst IsJournaled (sym turn.changed)
    (all_sent (record w { hosts = set w.hosts h turn.after }) h turn.acts in_queues owed.sends
    (record { balance = so.balance; rest = hosts_rest w h turn.after owed.holds so.rest }) told)

-- a recorded frame that is passed over
skip_journaled : (w : WorldView) (h : ℕ) (skip : Option Skip) → Sound w → IsJournaled w → IsJournaled (skip_noted w h skip)
skip_journaled w h None so told = told
skip_journaled w h (Some skip) so told =
    let past : List Entry = reverse w.journal in
    let e : Entry = Skipped (host_no h) skip in
    subst (λ p. JournalSays w.plan (place_in w.switches) p w.links w.attachments w.from_hosts w.out) (sym (reverse_noted w.journal past e refl))
    (note w.plan (place_in w.switches) past w.links w.attachments w.from_hosts w.out e 0 (nobody past w.from_hosts w.out (λ i. 0) (counts w past (λ i. 0) refl so.balance))
    (λ g other. kept w.plan past e g tt) (same_history (history_of past)) tt tt told.links_agree told.attachments_agree told)

skip_sound : (w : WorldView) (h : ℕ) (skip : Option Skip) → Sound w → Sound (skip_noted w h skip)
skip_sound w h None so = so
skip_sound w h (Some skip) so = record {
  balance = noted_owes w (λ id. 0) (λ id. 0) (Skipped (host_no h) skip ∷ []) refl (λ id. refl) so.balance;
  rest = so.rest;
}

-- a host plays a recorded frame
pub plays_journaled : (rule : HostRule) → HostsSendData rule → (w : WorldView) (h : ℕ) (input : HostInput) (new : WorldView) → Sound w → IsJournaled w →
    HostPlays rule w h input new → IsJournaled new
plays_journaled rule sends w h input new so told plays =
    host_journaled rule sends (skip_noted w h plays.skip) h input _ new (skip_sound w h plays.skip so) (skip_journaled w h plays.skip so told) plays.turn
