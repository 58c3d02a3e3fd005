-- The way of a frame, computed. In the canonical wiring of k = 4 hosts a and b stand at e0.0, c at e0.1 and d at e1.0. Once d was heard by all, a's frame
-- to d crosses e0.0, a0.0, c0.0, a1.0 and e1.0, and arrives.
use Rattle.std.specs.Prelude.{ℕ, ◌+◌, false, List, [], ◌∷◌, ◌++◌, codes, map, None, Option, replicate, set, slice_get, slice_index_or, Some, refl}
use Rattle.std.specs.List.{range_with_len}
use Rattle.std.proofs.lemmas.Bool.{leb-true}
use Rattle.pl_frame.specs.declared.address.Mac.{Mac}
use Rattle.pl_wiring.specs.declared.host.Host.{Host}
use Rattle.pl_wiring.specs.declared.label.SwitchNo.{SwitchNo}
use Rattle.pl_wiring.specs.declared.link.Peer.{Peer}
use Rattle.pl_wiring.specs.declared.link.Peer.TheVariants.{HostPort, Switch}
use Rattle.pl_wiring.specs.FatTree.{canonical_links}
use Rattle.pl_wiring.specs.Index.{port_index}
use Rattle.pl_wiring.specs.Peers.{peer_of}
use Rattle.pl_wiring.specs.Plan.{Plan}
use Rattle.pl_journal.specs.declared.cause.Cause.TheVariants.{HostGone}
use Rattle.pl_journal.specs.declared.entry.Entry.TheVariants.{Arrived, Crossed, Dropped}
use Rattle.pl_node.specs.SwitchFacts.{switch_at_boot}
use Rattle.pl_node.specs.SwitchInputs.SwitchInput.{Comes}
use Rattle.pl_node.specs.SwitchViews.{SwitchView}
use Rattle.pl_queues.specs.Queues.{items_at}
use Rattle.pl_steps.specs.Steps.{SwitchStep}
use Rattle.pl_world.specs.declared.attachment.AttachmentPoint.{AttachmentPoint}
use Rattle.pl_world.specs.declared.item.Item.{Item}
use Rattle.pl_world.specs.declared.item.Item.TheVariants.{Data}
use Rattle.pl_world.specs.declared.limits.Limits.{Limits}
use Rattle.pl_world.specs.declared.spoken_frame.SpokenFrame.TheVariants.{Waiting}
use Rattle.pl_world.specs.Changes.{host_no, noted, out_of, receiver, sent_by_host, switch_no}
use Rattle.pl_world.specs.SwitchActs.{switch_stepped}
use Rattle.pl_world.specs.Worlds.{WorldView}
use Rattle.pl_bridge_rule.specs.BridgeRule.{bridge_step, port_among}
use Rattle.pl_law_bridge.specs.ExactWay.{IsClear, WentBy}
use Rattle.pl_law_bridge.specs.TreeWorld.{tree_world}

abbrev mac_ending : ℕ → Mac
mac_ending n = record { 0 = 2 ∷ 0 ∷ 0 ∷ 0 ∷ 0 ∷ n ∷ [] }

abbrev host_at : List ℕ → ℕ → ℕ → ℕ → Host
host_at name n edge port =
    record { name = name; mac = mac_ending (9 + n); ip = record { 0 = 0x0a000000 + n }; edge = record { 0 = edge }; port = port; capture = None }

abbrev plan : Plan
plan = record {
  k = 4;
  ids = map (λ n. record { 0 = n + 1 }) (range_with_len 0 20);
  links = canonical_links 4;
  hosts = host_at (codes "a") 1 0 0 ∷ host_at (codes "b") 2 0 1 ∷ host_at (codes "c") 3 1 0 ∷ host_at (codes "d") 4 2 0 ∷ [];
}

abbrev limits : Limits
limits = record { steps = 1000; entries = 1000; bytes = 100000 }

-- an ARP frame from one address to another, of 42 bytes
abbrev frame : Mac → Mac → List ℕ
frame from to = to.0 ++ from.0 ++ (8 ∷ 6 ∷ []) ++ replicate 28 0

abbrev of_d : List ℕ
of_d = frame (mac_ending 13) (record { 0 = replicate 6 255 })

abbrev a_to_d : List ℕ
a_to_d = frame (mac_ending 10) (mac_ending 13)

-- ---- the steps of such a run: a frame comes at a switch, from its host or over a link, or out of a port for hosts
abbrev turned : WorldView → ℕ → ℕ → SwitchView → SwitchStep → WorldView
turned w s id v step = switch_stepped (noted w (Crossed id (switch_no s))) s v step.view (Waiting id false) step.acts

abbrev comes : WorldView → ℕ → ℕ → ℕ → List ℕ → Option SwitchView → WorldView
comes w s port id bytes None = w
comes w s port id bytes (Some v) = turned w s id v (bridge_step v (Comes port bytes))

abbrev enters_at : WorldView → Option AttachmentPoint → List Item → WorldView
enters_at w (Some at) (Data id bytes ∷ items) = comes w at.edge.0 at.port id bytes (slice_get w.switches at.edge.0)
enters_at w at items = w

abbrev rest_of : List Item → List Item
rest_of [] = []
rest_of (item ∷ items) = items

abbrev enters : WorldView → ℕ → WorldView
enters w h = enters_at (record w { from_hosts = set w.from_hosts h (rest_of (items_at w.from_hosts h)) }) (slice_get w.attachments h) (items_at w.from_hosts h)

abbrev arrives : WorldView → ℕ → List ℕ → Option ℕ → WorldView
arrives w id bytes None = noted w (Dropped id HostGone)
arrives w id bytes (Some h) = noted w (Arrived id (host_no h) bytes)

abbrev goes_to : WorldView → ℕ → ℕ → Peer → List Item → WorldView
goes_to w s port (Switch t q) (Data id bytes ∷ items) = comes w t.0 q id bytes (slice_get w.switches t.0)
goes_to w s port HostPort (Data id bytes ∷ items) = arrives w id bytes (receiver w s port bytes)
goes_to w s port peer items = w

abbrev goes : WorldView → ℕ → ℕ → WorldView
goes w s port = goes_to (record w { out = set w.out (port_index w.plan.k s port) (rest_of (out_of w s port)) }) s port (peer_of w.plan s port) (out_of w s port)

-- ---- d's frame to all goes as far as e0.0, so that each switch of the way knows d
abbrev first : WorldView
first = enters (sent_by_host (tree_world plan limits) 3 of_d) 3

abbrev learnt : WorldView
learnt = goes (goes (goes (goes first 2 2) 10 2) 16 0) 8 0

-- ---- a's frame to d
abbrev number : ℕ
number = learnt.begun + 1

abbrev sent : WorldView
sent = sent_by_host learnt 0 a_to_d

abbrev arrived : WorldView
arrived = goes (goes (goes (goes (goes (enters sent 0) 0 2) 8 2) 16 1) 10 0) 2 0

abbrev way : List SwitchNo
way = switch_no 0 ∷ switch_no 8 ∷ switch_no 16 ∷ switch_no 10 ∷ switch_no 2 ∷ []

abbrev a_stands : AttachmentPoint
a_stands = record { edge = switch_no 0; port = 0 }

abbrev d_stands : AttachmentPoint
d_stands = record { edge = switch_no 2; port = 0 }

abbrev view_at : ℕ → SwitchView
view_at s = slice_index_or sent.switches s (switch_at_boot (record { 0 = 1 }) 4)

pub its_way_is_clear : IsClear sent 0 3 (mac_ending 13) a_stands d_stands way
unfolding port_among
its_way_is_clear = record {
  sender = refl;
  receiver = refl;
  starts = refl;
  tree = (refl, (λ same. absurd (cc), (refl, (λ same. absurd (cc), (refl, (λ same. absurd (cc), refl))))));
  leads = (
    record { port = 2; into = 0; peer = refl; live = refl; learnt = record { view = view_at 0; found = refl; learnt = refl } },
    (
      record { port = 2; into = 0; peer = refl; live = refl; learnt = record { view = view_at 8; found = refl; learnt = refl } },
      (
        record { port = 1; into = 2; peer = refl; live = refl; learnt = record { view = view_at 16; found = refl; learnt = refl } },
        (
          record { port = 0; into = 2; peer = refl; live = refl; learnt = record { view = view_at 10; found = refl; learnt = refl } },
          (refl, record { view = view_at 2; found = refl; learnt = refl }),
        ),
      ),
    ),
  );
}

pub it_went_by_it : WentBy arrived number 3 a_to_d way
unfolding port_among
it_went_by_it = record { crossed = refl; single = refl; arrived = (46, leb-true 47 47 refl, refl) }
