-- Two hosts stand at ports 0 and 1 of e0.0. All links fail but the two of that switch, and it gets its place and grants its hosts addresses.
use Rattle.std.specs.Prelude.{ℕ, ◌-◌, ◌==◌, Bool, true, false, List, [], ◌∷◌, ◌++◌, Option, Some, length, drop, map, option_map, slice_get}
use Rattle.std.specs.List.{list_any}
use Rattle.std.specs.Option.{option_and_then}
use Rattle.pl_frame.specs.declared.address.Mac.{Mac}
use Rattle.pl_pmac.specs.declared.pmac.Pmac.{Pmac}
use Rattle.pl_wiring.specs.declared.host.Host.{Host}
use Rattle.pl_journal.specs.declared.entry.Entry.{Entry}
use Rattle.pl_journal.specs.declared.entry.Entry.TheVariants.{Sent}
use Rattle.pl_journal.specs.Flights.{ends}
use Rattle.pl_node.specs.AddressUses.{is_in_use}
use Rattle.pl_node.specs.ManagerViews.{Registration, newest}
use Rattle.pl_switch_rule.specs.Granting.{granted}
use Rattle.pl_world.specs.declared.event.Event.{Event}
use Rattle.pl_world.specs.declared.event.Event.TheVariants as event
use Rattle.pl_world.specs.declared.event.QueueName.TheVariants as queue
use Rattle.pl_world.specs.declared.limits.Limits.{Limits}
use Rattle.pl_world.specs.declared.attachment.AttachmentPoint.{AttachmentPoint}
use Rattle.pl_world.specs.Booting.{booted}
use Rattle.pl_world.specs.Worlds.{WorldView}
use Rattle.pl_examples.specs.ExampleFrames.{a_to_b, mac_a, mac_b, pmac_a, pmac_b}
use Rattle.pl_examples.specs.FirstPath.{a, b, e00, switch, two_hosts}
use Rattle.pl_sure_example.specs.Deciding.{is_settled_world}
use Rattle.pl_sure_example.specs.Executing.{all_made, swept, then_made}

abbrev pub limits : Limits
limits = record { steps = 10000; entries = 10000; bytes = 100000 }

abbrev pub start : WorldView
start = booted two_hosts limits

-- all links but the two of e0.0
abbrev pub cut : List Event
cut = map (λ l. event.Fail l.upper l.lower) (drop 2 two_hosts.links)

-- the hosts start
abbrev pub begun : Option WorldView
begun = swept 4 (all_made (Some start) (cut ++ (event.Start a ∷ event.Start b ∷ [])))

-- e0.0, a0.0 and a0.1 tick, and all that waits is delivered
abbrev pub ticks : List Event
ticks = event.Tick e00 ∷ event.Tick (switch 8) ∷ event.Tick (switch 9) ∷ []

abbrev pub round : Option WorldView → Option WorldView
round w = swept 40 (all_made w ticks)

abbrev pub at_rest : Option WorldView
at_rest = round (round (round (round (round (round begun)))))

-- a sends a frame to the address of b; it is delivered to e0.0, and to b
abbrev pub plays : Event
plays = event.Play a a_to_b 60 true

abbrev pub leaves : Event
leaves = event.Deliver (queue.FromHost a)

abbrev pub comes : Event
comes = event.Deliver (queue.Port e00 1)

abbrev pub sent : Option WorldView
sent = then_made at_rest plays

abbrev pub crossed : Option WorldView
crossed = then_made sent leaves

abbrev pub arrived : Option WorldView
arrived = then_made crossed comes

-- what is registered of a host
pub record Known : Type 0 where
  pub host : Option Host
  pub attachment : Option AttachmentPoint
  pub newest_one : Option Registration
  -- the host to which the address was granted, and whether it uses it
  pub grant : Option (Mac × Bool)

abbrev pub known_of : ℕ → Mac → Pmac → WorldView → Known
known_of h mac x w = record {
  host = slice_get w.plan.hosts h;
  attachment = slice_get w.attachments h;
  newest_one = newest w.manager.learnt mac;
  grant = option_map (λ g. (g.amac, is_in_use g.held)) (option_and_then (λ v. granted v x) (slice_get w.switches 0));
}

abbrev pub registered_as : Mac → Pmac → ℕ → Registration
registered_as mac x n = record { pmac = x; amac = mac; number = n; switch = record { 0 = 1 } }

-- each is, by the address of its port
abbrev pub known_as : ℕ → Mac → Pmac → ℕ → Known
known_as h mac x n = record {
  host = slice_get two_hosts.hosts h;
  attachment = Some (record { edge = e00; port = x.port });
  newest_one = Some (registered_as mac x n);
  grant = Some (mac, true);
}

abbrev pub is_sent : ℕ → Entry → Bool
is_sent id (Sent n h frame) = n == id
is_sent id entry = false

-- what is asked of a moment: that it is settled, what is registered of both hosts, how many ports switches have, whether frame 3 was sent, how
-- often it ended, and the last entry
pub record Snapshot : Type 0 where
  pub settled : Bool
  pub known_a : Known
  pub known_b : Known
  pub k : ℕ
  pub was_sent : Bool
  pub ended : ℕ
  pub last : Option Entry

abbrev pub snapshot : WorldView → Snapshot
snapshot w = record {
  settled = is_settled_world w;
  known_a = known_of 0 mac_a pmac_a w;
  known_b = known_of 1 mac_b pmac_b w;
  k = w.plan.k;
  was_sent = list_any (is_sent 3) w.journal;
  ended = ends w.journal 3;
  last = slice_get w.journal (length w.journal - 1);
}

-- a settled moment with both hosts registered
abbrev pub sure_with : Bool → ℕ → Option Entry → Snapshot
sure_with was_sent ended last = record {
  settled = true;
  known_a = known_as 0 mac_a pmac_a 1;
  known_b = known_as 1 mac_b pmac_b 2;
  k = 4;
  was_sent = was_sent;
  ended = ended;
  last = last;
}
