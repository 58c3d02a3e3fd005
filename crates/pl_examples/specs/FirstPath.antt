-- Two hosts on one edge switch say who they are, and then one sends a frame to the other: a run of the lossy switch. Changes of it that are none.
use Rattle.std.specs.Prelude.{ℕ, ◌+◌, List, [], ◌∷◌, ◌++◌, codes, map, take, slice_index, ◌==◌, None, refl}
use Rattle.std.specs.List.{range_with_len}
use Rattle.std.proofs.Common.{ap, sym}
use Rattle.std.proofs.lemmas.Bool.{false≢true}
use Rattle.hex.specs.Hex.{decode_pairs}
use Rattle.pl_frame.specs.declared.address.Mac.{Mac}
use Rattle.pl_wiring.specs.declared.label.SwitchNo.{SwitchNo}
use Rattle.pl_wiring.specs.declared.host.HostNo.{HostNo}
use Rattle.pl_wiring.specs.declared.host.Host.{Host}
use Rattle.pl_wiring.specs.FatTree.{canonical_links}
use Rattle.pl_wiring.specs.Plan.{Plan}
use Rattle.pl_journal.specs.declared.entry.Entry.{Entry}
use Rattle.pl_journal.specs.declared.entry.Entry.TheVariants.{Line, Sent, Crossed, Arrived, Taken, Dropped, Granted, LinkDown, LinkUp, Moved, Settled}
use Rattle.pl_journal.specs.declared.cause.Cause.TheVariants.{NoAddress}
use Rattle.pl_examples.specs.ExampleFrames.{mac_a, mac_b, pmac_a, pmac_b, a_starts, b_starts, a_to_b, a_to_b_arrived}
use Rattle.pl_journal.specs.Flights.{is_frame}
use Rattle.pl_journal.specs.Lossy.{Run, GoodTrail}

abbrev pub host_at : List ℕ → Mac → ℕ → ℕ → ℕ → Host
host_at name mac ip edge port = record {
  name = name;
  mac = mac;
  ip = record { 0 = ip };
  edge = record { 0 = edge };
  port = port;
  capture = None;
}

-- the canonical wiring of switches with four ports
abbrev pub canonical : List Host → Plan
canonical hosts = record { k = 4; ids = map (λ n. record { 0 = n + 1 }) (range_with_len 0 20); links = canonical_links 4; hosts = hosts }

-- a and b at ports 0 and 1 of e0.0
abbrev pub two_hosts : Plan
two_hosts = canonical (host_at (codes "a") mac_a 0x0a000001 0 0 ∷ host_at (codes "b") mac_b 0x0a000002 0 1 ∷ [])

abbrev pub a : HostNo
a = record { 0 = 0 }

abbrev pub b : HostNo
b = record { 0 = 1 }

abbrev pub switch : ℕ → SwitchNo
switch n = record { 0 = n }

abbrev pub e00 : SwitchNo
e00 = switch 0

abbrev pub both_started : List Entry
both_started =
    Line 1 ∷ Sent 1 a a_starts ∷ Sent 2 b b_starts ∷
    Line 2 ∷ Crossed 1 e00 ∷ Granted pmac_a a e00 0 ∷ Taken 1 e00 ∷ Crossed 2 e00 ∷ Granted pmac_b b e00 1 ∷ Taken 2 e00 ∷ Settled 1 ∷ []

abbrev pub on_its_way : List Entry
on_its_way = both_started ++ Line 3 ∷ Sent 3 a a_to_b ∷ Line 4 ∷ Crossed 3 e00 ∷ []

abbrev pub first_path : List Entry
first_path = on_its_way ++ Arrived 3 b a_to_b_arrived ∷ Settled 1 ∷ []

-- a proof that a journal is a run, entry by entry
infixl 10 ◌▸◌
abbrev pub ◌▸◌ : {A B : Type 0} → A → B → A × B
x ▸ y = (x, y)

first_path_is_a_run : Run two_hosts first_path
unfolding decode_pairs
first_path_is_a_run =
    tt ▸ tt ▸ refl ▸ refl
    ▸ tt
    ▸ refl ▸ record { fresh = refl; port = refl; stood = refl; edge = refl } ▸ (refl, record { of_host = refl; alone = refl; takeable = refl })
    ▸ refl ▸ record { fresh = refl; port = refl; stood = refl; edge = refl } ▸ (refl, record { of_host = refl; alone = refl; takeable = refl })
    ▸ tt
    ▸ tt ▸ refl
    ▸ tt ▸ refl ▸ (refl, record { held = refl; stands_there = refl; reached = (refl, refl); unaltered = refl })
    ▸ tt

first_path_has_a_good_trail : GoodTrail two_hosts first_path
unfolding decode_pairs
first_path_has_a_good_trail = tt ▸ tt ▸ tt ▸ tt ▸ tt ▸ refl ▸ tt ▸ tt ▸ refl ▸ tt ▸ tt ▸ tt ▸ tt ▸ tt ▸ tt ▸ refl ▸ tt ▸ tt

abbrev pub then : List Entry → Entry → List Entry
then journal entry = journal ++ entry ∷ []

-- frame 3 has ended
a_frame_does_not_arrive_twice : ¬ Run two_hosts (then first_path (Arrived 3 b a_to_b_arrived))
unfolding decode_pairs
a_frame_does_not_arrive_twice run = false≢true run.1.0

-- b holds the address that frame 3 goes to
a_frame_does_not_arrive_at_another_host : ¬ Run two_hosts (then on_its_way (Arrived 3 a a_to_b_arrived))
unfolding decode_pairs
a_frame_does_not_arrive_at_another_host run = false≢true (ap (λ holder. is_frame holder 0) run.1.1.held)

-- it arrives from the address of its sender
its_source_is_rewritten : ¬ Run two_hosts (then on_its_way (Arrived 3 b a_to_b))
unfolding decode_pairs
its_source_is_rewritten run = false≢true (ap (λ frame. slice_index frame 6 == 0) run.1.1.unaltered)

no_byte_of_its_payload_is : ¬ Run two_hosts (then on_its_way (Arrived 3 b (take 59 a_to_b_arrived ++ 1 ∷ [])))
unfolding decode_pairs
no_byte_of_its_payload_is run = false≢true (ap (λ frame. slice_index frame 59 == 0) run.1.1.unaltered)

no_live_address_is_granted : ¬ Run two_hosts (then both_started (Granted pmac_b b e00 1))
unfolding decode_pairs
no_live_address_is_granted run = false≢true (sym run.1.fresh)

-- the next frame is number 3
no_number_is_left_out : ¬ Run two_hosts (then both_started (Sent 4 a a_to_b))
unfolding decode_pairs
no_number_is_left_out run = false≢true (ap (λ number. number == 3) run.1)

-- it is for b
a_switch_does_not_take_it : ¬ Run two_hosts (then on_its_way (Taken 3 e00))
unfolding decode_pairs
a_switch_does_not_take_it run = false≢true run.1.1.takeable

-- its address was granted
it_is_not_dropped_for_want_of_an_address : ¬ Run two_hosts (then on_its_way (Dropped 3 NoAddress))
unfolding decode_pairs
it_is_not_dropped_for_want_of_an_address run = false≢true (sym run.1.1)

-- b stands at port 1, and port 2 has a link
no_host_moves_to_where_another_stands : ¬ Run two_hosts (then both_started (Moved a e00 1))
unfolding decode_pairs
no_host_moves_to_where_another_stands run = false≢true run.1.1

no_host_moves_to_a_link : ¬ Run two_hosts (then both_started (Moved a e00 2))
unfolding decode_pairs
no_host_moves_to_a_link run = false≢true run.1.1

-- the link from e0.0 to a0.0 is live, and one from e0.0 to c0.0 there is none
a_live_link_is_not_repaired : ¬ Run two_hosts (then both_started (LinkUp e00 (switch 8)))
unfolding decode_pairs
a_live_link_is_not_repaired run = false≢true run.1.state

a_link_that_is_not_there_does_not_fail : ¬ Run two_hosts (then both_started (LinkDown e00 (switch 16)))
unfolding decode_pairs
a_link_that_is_not_there_does_not_fail run = false≢true run.1.adjacent
