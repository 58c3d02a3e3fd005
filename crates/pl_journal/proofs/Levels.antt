-- What is said of a label by its level, and of the end of a port.
use Rattle.std.proofs.Common.{arith, refl, true, ℕ, ◌≡◌}
use Rattle.std.proofs.lemmas.Bool.{false≢true}
use Rattle.pl_wiring.specs.declared.label.Label.{Label}
use Rattle.pl_wiring.specs.FatTree.{IsBelow}
use Rattle.pl_wiring.specs.declared.label.Label.TheVariants.{Aggregation, Core, Edge}
use Rattle.pl_wiring.specs.declared.link.Peer.{Peer}
use Rattle.pl_wiring.specs.declared.link.Peer.TheVariants.{HostPort, Switch}
use Rattle.pl_journal.specs.Flights.{label_level}
use Rattle.pl_journal.specs.Places.{is_host_port}

pub core_above : (a c : Label) → IsBelow a c → label_level a ≡ 1 → label_level c ≡ 2
core_above (Aggregation p j) (Core g m) below e = refl
core_above (Aggregation p j) (Edge q i) below e = absurd below
core_above (Aggregation p j) (Aggregation q i) below e = absurd below
core_above (Edge p i) c below e = absurd (cc e)
core_above (Core g m) c below e = absurd (cc e)

-- a switch of level 0 has the label of an edge switch
pub edge_of : (label : Label) → 0 ≡ label_level label → (pod : ℕ) × (i : ℕ) × (label ≡ Edge pod i)
edge_of (Edge pod i) is = (pod, i, refl)
edge_of (Aggregation pod j) is = absurd (omega (arith, is))
edge_of (Core group m) is = absurd (omega (arith, is))

pub host_port_is : (peer : Peer) → is_host_port peer ≡ true → peer ≡ HostPort
host_port_is (Switch t q) is = absurd (false≢true is)
host_port_is HostPort is = refl
