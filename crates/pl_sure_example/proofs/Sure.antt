-- A frame that is sure, from its sending to its arrival.
use Rattle.std.proofs.Common.{◌≡◌, ◌<◌, ℕ, Bool, true, false, true≢false, List, [], ◌∷◌, length, Option, Some, option_map, slice_get, Contains, refl, sym, ap, ◌∙◌, subst, arith, ◌-◌}
use Rattle.std.specs.List.{list_any}
use Rattle.std.specs.Option.{option_and_then}
use Rattle.std.proofs.lemmas.Option.{same_Some, slice_get-get_or, slice_get_within}
use Rattle.hex.specs.Hex.{decode_pairs}
use Rattle.pl_lemmas.proofs.Exports.{and_then_some, option_map_some}
use Rattle.pl_frame.specs.declared.address.Mac.{Mac}
use Rattle.pl_pmac.specs.declared.pmac.Pmac.{Pmac}
use Rattle.pl_wiring.specs.declared.host.Host.{Host}
use Rattle.pl_wiring.specs.Labels.{edge_count}
use Rattle.pl_wiring.specs.Paths.{IsLivePath}
use Rattle.pl_journal.specs.declared.entry.Entry.{Entry}
use Rattle.pl_journal.specs.declared.entry.Entry.TheVariants.{Arrived, Crossed, Sent}
use Rattle.pl_node.specs.AddressUses.{is_in_use}
use Rattle.pl_node.specs.declared.switch_records.Grant.{Grant}
use Rattle.pl_node.specs.ManagerViews.{newest}
use Rattle.pl_node.specs.SwitchViews.{SwitchView}
use Rattle.pl_switch_rule.specs.Granting.{granted}
use Rattle.pl_world.specs.Runs.Moment.{Step}
use Rattle.pl_world.specs.Worlds.{WorldView}
use Rattle.pl_law_addresses.specs.Registered.{IsRegisteredBy}
use Rattle.pl_law_arrival.specs.Reach.{IsUnicastTo}
use Rattle.pl_law_arrival.specs.SureFrames.{IsSureMoment}
use Rattle.pl_examples.specs.ExampleFrames.{a_to_b, a_to_b_arrived, mac_a, mac_b, pmac_a, pmac_b}
use Rattle.pl_examples.specs.FirstPath.{a, b, e00, two_hosts}
use Rattle.pl_sure_example.specs.Executing.{made, then_made}
use Rattle.pl_sure_example.specs.Scene.{Known, Snapshot, comes, is_sent, known_as, known_of, leaves, plays, registered_as, snapshot, start, sure_with}
use Rattle.pl_sure_example.specs.Worked.{IsWorked}
use Rattle.pl_sure_example.proofs.Executions.{AllLead}
use Rattle.pl_sure_example.proofs.Sound.{at_index, none_there, settled_is}
use Rattle.pl_sure_example.proofs.Steps.{made_is}

contains_at : {X : Type 0} (xs : List X) (n : ℕ) (x : X) → slice_get xs n ≡ Some x → Contains xs x
contains_at xs n x is =
    let within = slice_get_within xs n x is in (n, within, same_Some _ x (sym (slice_get-get_or xs n x within) ∙ is))

-- a host that is registered by the address of its port
abbrev registered : (w : WorldView) (h n : ℕ) (mac : Mac) (x : Pmac) (host : Host) → slice_get two_hosts.hosts h ≡ Some host → host.mac ≡ mac →
    known_of h mac x w ≡ known_as h mac x n → IsRegisteredBy w h x
registered w h n mac x host at own is =
    let one = option_map_some (λ (g : Grant). (g.amac, is_in_use g.held)) (option_and_then (λ (v : SwitchView). granted v x) (slice_get w.switches 0)) (mac, true)
    (ap (λ (k : Known). k.grant) is) in
    let grant = and_then_some (λ (v : SwitchView). granted v x) (slice_get w.switches 0) one.0 one.1 in
    record {
      host = host;
      is = ap (λ (k : Known). k.host) is ∙ at;
      attachment = record { edge = e00; port = x.port };
      attachments = ap (λ (k : Known). k.attachment) is;
      newest_one = registered_as mac x n;
      is_newest = ap (λ m. newest w.manager.learnt m) own ∙ ap (λ (k : Known). k.newest_one) is;
      address = refl;
      edge = grant.0;
      there = grant.1;
      grant = one.0;
      found = grant.2;
      used = ap (λ (p : Mac × Bool). p.1) one.2;
      by_host = ap (λ (p : Mac × Bool). p.0) one.2 ∙ sym own;
      at_port = refl;
    }

-- the path of one switch
alone : (w : WorldView) → w.plan.k ≡ 4 → IsLivePath w.plan w.links e00 e00 (e00 ∷ [])
alone w four =
    let low : 0 < edge_count w.plan.k = subst (λ k. 0 < edge_count k) (sym four) (omega arith) in
    record {
      from_edge = low;
      to_edge = low;
      up = [];
      top = e00;
      down = [];
      whole = refl;
      starts = refl;
      ends = refl;
      climbs = tt;
      falls = tt;
      as_many = refl;
      two_at_most = omega arith;
      distinct = λ i j d less within. absurd (omega (arith, less, within));
    }

sure_moment : (w : WorldView) (was_sent : Bool) (ended : ℕ) (last : Option Entry) → snapshot w ≡ sure_with was_sent ended last → IsSureMoment w 0 1 pmac_b
sure_moment w was_sent ended last is = record {
  settled = settled_is w (ap (λ (s : Snapshot). s.settled) is);
  reaches = record {
    from = (pmac_a, registered w 0 1 mac_a pmac_a _ refl refl (ap (λ (s : Snapshot). s.known_a) is));
    to = registered w 1 2 mac_b pmac_b _ refl refl (ap (λ (s : Snapshot). s.known_b) is);
    path = e00 ∷ [];
    adjacent = alone w (ap (λ (s : Snapshot). s.k) is);
  };
}

to_one_host : IsUnicastTo a_to_b pmac_b
unfolding decode_pairs
to_one_host = record { unicast = refl; to = refl; not_taken = refl; readable = refl }

pub assembled : (rest : Option WorldView) → AllLead start rest → option_map (λ w. list_any (is_sent 3) w.journal) rest ≡ Some false →
    option_map snapshot (then_made rest plays) ≡ Some (sure_with true 0 (Some (Sent 3 a a_to_b))) →
    option_map snapshot (then_made (then_made rest plays) leaves) ≡ Some (sure_with true 0 (Some (Crossed 3 e00))) →
    option_map snapshot (then_made (then_made (then_made rest plays) leaves) comes) ≡ Some (sure_with true 1 (Some (Arrived 3 b a_to_b_arrived))) → IsWorked
assembled rest all rest_is sent_is crossed_is arrived_is =
    let r = option_map_some (λ (w : WorldView). list_any (is_sent 3) w.journal) rest false rest_is in
    let s = option_map_some snapshot (then_made rest plays) (sure_with true 0 (Some (Sent 3 a a_to_b))) sent_is in
    let c = option_map_some snapshot (then_made (then_made rest plays) leaves) (sure_with true 0 (Some (Crossed 3 e00))) crossed_is in
    let d = option_map_some snapshot (then_made (then_made (then_made rest plays) leaves) comes) (sure_with true 1 (Some (Arrived 3 b a_to_b_arrived))) arrived_is in
    let first : made r.0 plays ≡ Some s.0 = ap (λ o. then_made o plays) (sym r.1) ∙ s.1 in
    let second : made s.0 leaves ≡ Some c.0 = ap (λ o. then_made o leaves) (sym s.1) ∙ c.1 in
    let third : made c.0 comes ≡ Some d.0 = ap (λ o. then_made o comes) (sym c.1) ∙ d.1 in
    let lead = all r.0 r.1 in
    record {
      before = lead.0;
      moments = Step leaves ∷ Step comes ∷ [];
      old = r.0;
      ended = d.0;
      run = lead.1;
      sure = record {
        moment = Step plays;
        sent = s.0;
        befalls = made_is r.0 plays s.0 first;
        frame = a_to_b;
        entry = contains_at s.0.journal (length s.0.journal - 1) (Sent 3 a a_to_b) (ap (λ (x : Snapshot). x.last) s.2);
        at_once = λ there. true≢false (none_there (is_sent 3) r.0.journal r.2 there.0 (Sent 3 a a_to_b) (at_index r.0.journal (Sent 3 a a_to_b) there));
        address = pmac_b;
        to_one_host = to_one_host;
        stays = (
          sure_moment s.0 true 0 (Some (Sent 3 a a_to_b)) s.2,
          λ lost. lost,
          (
            c.0,
            made_is s.0 leaves c.0 second,
            (
              sure_moment c.0 true 0 (Some (Crossed 3 e00)) c.2,
              λ lost. lost,
              (d.0, made_is c.0 comes d.0 third, (sure_moment d.0 true 1 (Some (Arrived 3 b a_to_b_arrived)) d.2, refl)),
            ),
          ),
        );
      };
      once = ap (λ (x : Snapshot). x.ended) d.2;
      arrived = contains_at d.0.journal (length d.0.journal - 1) (Arrived 3 b a_to_b_arrived) (ap (λ (x : Snapshot). x.last) d.2);
    }
