-- How frames end, and who gets which address: small journals with one entry that may follow, or may not.
use Rattle.std.specs.Prelude.{◌≡◌, ℕ, ◌==◌, Bool, true, false, List, [], ◌∷◌, ◌++◌, codes, refl}
use Rattle.std.proofs.Common.{ap, sym, inl, inr, ◌⊎◌, lit<, lt→ltb}
use Rattle.std.proofs.lemmas.Bool.{false≢true}
use Rattle.hex.specs.Hex.{decode_pairs}
use Rattle.pl_pmac.specs.declared.pmac.Pmac.{Pmac}
use Rattle.pl_journal.specs.declared.entry.Entry.{Entry}
use Rattle.pl_journal.specs.declared.entry.Entry.TheVariants.{Line, Sent, Made, Crossed, Redirected, Arrived, Taken, Dropped, Granted, LinkDown, LinkUp, Moved}
use Rattle.pl_journal.specs.declared.cause.Cause.TheVariants.{NotPlaced, NoAddress, HostGone, LinkDown as Failed, Spent, BadArp, NoMember}
use Rattle.pl_examples.specs.ExampleFrames.{bytes_of, change, pmac_a, pmac_b, a_starts, b_starts, a_to_b, a_to_b_arrived, reply}
use Rattle.pl_examples.specs.FirstPath.{◌▸◌, two_hosts, both_started, on_its_way, then, switch, a, b, e00}
use Rattle.pl_examples.specs.Journeys.{two_pods, d, e01, e10, a00, pmac_d, pmac_moved, a_to_d, d_moved, at_old_place}
use Rattle.pl_journal.specs.Flights.{is_good_leg}
use Rattle.pl_journal.specs.Lossy.{Run, joined_after}

-- Of e0.0, a0.0, c0.0, a1.0, e1.0: at most five, up and then down.
five_switches : is_good_leg false 4 (2 ∷ 10 ∷ 16 ∷ 8 ∷ 0 ∷ []) ≡ true
five_switches = refl

six_switches : is_good_leg false 4 (2 ∷ 10 ∷ 16 ∷ 17 ∷ 8 ∷ 0 ∷ []) ≡ false
six_switches = refl

two_of_one_level : is_good_leg false 4 (1 ∷ 0 ∷ []) ≡ false
two_of_one_level = refl

down_and_up : is_good_leg false 4 (8 ∷ 0 ∷ 9 ∷ []) ≡ false
down_and_up = refl

one_twice : is_good_leg false 4 (0 ∷ 8 ∷ 0 ∷ []) ≡ false
one_twice = refl

-- of two changes for a group the last counts, whatever was before
join_and_leave : joined_after (change 0xef010203 true ∷ change 0xef010203 false ∷ []) 66051 true ≡ false
join_and_leave = refl

leave_and_join : joined_after (change 0xef010203 false ∷ change 0xe0010203 true ∷ []) 66051 false ≡ true
leave_and_join = refl

another_group : joined_after (change 0xef010204 true ∷ []) 66051 false ≡ false
another_group = refl

it_is_not_placed : Run two_hosts on_its_way → Run two_hosts (then on_its_way (Dropped 3 NotPlaced))
unfolding decode_pairs
it_is_not_placed run = run ▸ (refl, refl)

no_frame_arrives_that_was_dropped : ¬ Run two_hosts (on_its_way ++ Dropped 3 NotPlaced ∷ Arrived 3 b a_to_b_arrived ∷ [])
unfolding decode_pairs
no_frame_arrives_that_was_dropped run = false≢true run.1.0

no_frame_crosses_that_was_taken : ¬ Run two_hosts (then both_started (Crossed 2 a00))
unfolding decode_pairs
no_frame_crosses_that_was_taken run = false≢true run.1

-- it is in its host's queue yet
before_it_crossed_a_switch : ¬ Run two_hosts (both_started ++ Sent 3 a a_to_b ∷ Dropped 3 NotPlaced ∷ [])
unfolding decode_pairs
before_it_crossed_a_switch run = false≢true run.1.1

it_is_left_behind : Run two_hosts both_started → Run two_hosts (both_started ++ Sent 3 a a_to_b ∷ Moved a (switch 1) 0 ∷ Dropped 3 HostGone ∷ [])
unfolding decode_pairs
it_is_left_behind run = run ▸ refl ▸ (refl, refl) ▸ (refl, inr (inr refl))

none_of : {A B C : Type 0} → ¬ A → ¬ B → ¬ C → ¬ (A ⊎ (B ⊎ C))
none_of x y z (inl p) = x p
none_of x y z (inr (inl p)) = y p
none_of x y z (inr (inr p)) = z p

-- its sender moved before it was sent
it_is_not_left_behind : ¬ Run two_hosts (both_started ++ Moved a (switch 1) 0 ∷ Sent 3 a a_to_b ∷ Dropped 3 HostGone ∷ [])
unfolding decode_pairs
it_is_not_left_behind run = none_of false≢true false≢true false≢true run.1.1

-- an address that was never granted has no host that is gone
nobody_is_gone : ¬ Run two_hosts (both_started ++ Sent 3 a a_to_d ∷ Crossed 3 e00 ∷ Dropped 3 HostGone ∷ [])
unfolding decode_pairs
nobody_is_gone run = none_of false≢true false≢true false≢true run.1.1

it_has_no_address : Run two_hosts both_started → Run two_hosts (both_started ++ Sent 3 a a_to_d ∷ Crossed 3 e00 ∷ Dropped 3 NoAddress ∷ [])
unfolding decode_pairs
it_has_no_address run = run ▸ refl ▸ refl ▸ (refl, refl)

no_frame_goes_on_that_crossed_nothing : ¬ Run two_pods (d_moved ++ Sent 4 a a_to_d ∷ Redirected 4 pmac_d pmac_moved ∷ [])
unfolding decode_pairs
no_frame_goes_on_that_crossed_nothing run = false≢true run.1.1.turns

-- the last switch that it crossed is e1.0 also where it goes on from there
its_link_failed : Run two_pods at_old_place → Run two_pods (at_old_place ++ Redirected 4 pmac_d pmac_moved ∷ LinkDown e10 (switch 11) ∷ Dropped 4 Failed ∷ [])
unfolding decode_pairs
its_link_failed run =
    run ▸ (refl, record { present = refl; live = (refl, refl); same_host = refl; newer = lit< tt; turns = refl }) ▸ record { ordered = lit< tt; adjacent = refl; state = refl } ▸ (refl, refl)

-- the link of e0.0 failed behind it
another_link_failed : ¬ Run two_pods (at_old_place ++ LinkDown e00 a00 ∷ Dropped 4 Failed ∷ [])
unfolding decode_pairs
another_link_failed run = false≢true run.1.1

no_link_fails_twice : ¬ Run two_pods (d_moved ++ LinkDown e00 a00 ∷ LinkDown e00 a00 ∷ [])
unfolding decode_pairs
no_link_fails_twice run = false≢true (sym run.1.state)

a_link_fails_again : Run two_pods d_moved → Run two_pods (d_moved ++ LinkDown e00 a00 ∷ LinkUp e00 a00 ∷ LinkDown e00 a00 ∷ [])
unfolding decode_pairs
a_link_fails_again run =
    run ▸ record { ordered = lit< tt; adjacent = refl; state = refl } ▸ record { ordered = lit< tt; adjacent = refl; state = refl }
    ▸ record { ordered = lit< tt; adjacent = refl; state = refl }

-- the end that is earlier in label order stands first
no_end_stands_before_an_earlier_one : ¬ Run two_pods (then d_moved (LinkDown a00 e00))
unfolding decode_pairs
no_end_stands_before_an_earlier_one run = lt→ltb 8 0 run.1.ordered

-- a reply of other hardware, at its first switch and at its second
abbrev pub other_hardware : List ℕ
other_hardware = bytes_of (codes "00000001000102000000000a0806000608000604000202000000000a0a0000010000000100010a000002")

its_packet_is_bad : Run two_hosts both_started → Run two_hosts (both_started ++ Sent 3 a other_hardware ∷ Crossed 3 e00 ∷ Dropped 3 BadArp ∷ [])
unfolding decode_pairs
its_packet_is_bad run = run ▸ refl ▸ refl ▸ (refl, (refl, refl))

no_packet_is_bad_later : ¬ Run two_hosts (both_started ++ Sent 3 a other_hardware ∷ Crossed 3 e00 ∷ Crossed 3 a00 ∷ Dropped 3 BadArp ∷ [])
unfolding decode_pairs
no_packet_is_bad_later run = false≢true (ap (λ n. n == 1) run.1.1.0)

its_packet_is_good : ¬ Run two_hosts (both_started ++ Sent 3 a reply ∷ Crossed 3 e00 ∷ Dropped 3 BadArp ∷ [])
unfolding decode_pairs
its_packet_is_good run = false≢true run.1.1.1

-- a second address of a's port, and the last one
abbrev pub second : Pmac
second = record { pod = 0; position = 0; port = 0; vmid = 2 }

abbrev pub last_one : Pmac
last_one = record { pod = 0; position = 0; port = 0; vmid = 65535 }

its_port_is_spent : Run two_hosts both_started → Run two_hosts (both_started ++ Granted last_one a e00 0 ∷ Sent 3 a a_to_b ∷ Crossed 3 e00 ∷ Dropped 3 Spent ∷ [])
unfolding decode_pairs
its_port_is_spent run = run ▸ record { fresh = refl; port = refl; stood = refl; edge = refl } ▸ refl ▸ refl ▸ (refl, refl)

another_port_is : ¬ Run two_hosts (both_started ++ Granted last_one a e00 0 ∷ Sent 3 b a_to_b ∷ Crossed 3 e00 ∷ Dropped 3 Spent ∷ [])
unfolding decode_pairs
another_port_is run = false≢true run.1.1

its_port_is_not_spent_yet : ¬ Run two_hosts (both_started ++ Granted second a e00 0 ∷ Sent 3 a a_to_b ∷ Crossed 3 e00 ∷ Dropped 3 Spent ∷ [])
unfolding decode_pairs
its_port_is_not_spent_yet run = false≢true run.1.1

-- d stood at e1.0 before it moved
an_old_place_grants_late : Run two_pods d_moved → Run two_pods (then d_moved (Granted (record pmac_d { vmid = 2 }) d e10 0))
unfolding decode_pairs
an_old_place_grants_late run = run ▸ record { fresh = refl; port = refl; stood = refl; edge = refl }

no_host_is_granted_an_address_elsewhere : ¬ Run two_pods (then d_moved (Granted (record pmac_d { port = 1 }) d e10 1))
unfolding decode_pairs
no_host_is_granted_an_address_elsewhere run = false≢true run.1.stood

-- e1.0 has pod 1 and position 0
no_switch_has_two_positions : ¬ Run two_pods (then d_moved (Granted (record pmac_d { position = 1; vmid = 2 }) d e10 0))
unfolding decode_pairs
no_switch_has_two_positions run = false≢true run.1.edge

-- pod 0 and position 1 are those of e0.1, also where e1.1 has granted nothing yet
no_two_switches_have_one_position : ¬ Run two_pods (d_moved ++ Moved d (switch 3) 0 ∷ Granted (record pmac_moved { port = 0; vmid = 2 }) d (switch 3) 0 ∷ [])
unfolding decode_pairs
no_two_switches_have_one_position run = false≢true run.1.edge

-- b alone has said who it is
abbrev pub b_started : List Entry
b_started = Sent 1 b b_starts ∷ Crossed 1 e00 ∷ Granted pmac_b b e00 1 ∷ Taken 1 e00 ∷ []

b_started_is_a_run : Run two_hosts b_started
unfolding decode_pairs
b_started_is_a_run =
    tt ▸ refl ▸ refl ▸ record { fresh = refl; port = refl; stood = refl; edge = refl } ▸ (refl, record { of_host = refl; alone = refl; takeable = refl })

-- the frame by which a gets its address arrives from it
the_first_frame_arrives : Run two_hosts (b_started ++ Sent 2 a a_to_b ∷ Crossed 2 e00 ∷ Granted pmac_a a e00 0 ∷ Arrived 2 b a_to_b_arrived ∷ [])
unfolding decode_pairs
the_first_frame_arrives =
    b_started_is_a_run ▸ refl ▸ refl ▸ record { fresh = refl; port = refl; stood = refl; edge = refl }
    ▸ (refl, record { held = refl; stands_there = refl; reached = (refl, refl); unaltered = refl })

no_later_grant_counts : ¬ Run two_hosts (b_started ++ Sent 2 a a_to_b ∷ Crossed 2 e00 ∷ Line 2 ∷ Granted pmac_a a e00 0 ∷ Arrived 2 b a_to_b_arrived ∷ [])
unfolding decode_pairs
no_later_grant_counts run = run.1.1.unaltered

-- a stands at e0.0: its frame came in there, or nowhere
no_frame_comes_in_elsewhere : ¬ Run two_hosts (both_started ++ Sent 3 a a_to_b ∷ Crossed 3 e01 ∷ Crossed 3 a00 ∷ Crossed 3 e00 ∷ Arrived 3 b a_to_b_arrived ∷ [])
unfolding decode_pairs
no_frame_comes_in_elsewhere run = run.1.1.unaltered

no_other_switch_takes_a_request : ¬ Run two_hosts (both_started ++ Sent 3 a a_starts ∷ Crossed 3 e00 ∷ Crossed 3 a00 ∷ Taken 3 a00 ∷ [])
unfolding decode_pairs
no_other_switch_takes_a_request run = false≢true (ap (λ switches. is_one switches) run.1.1.alone)
  where
    is_one : List ℕ → Bool
    is_one [] = false
    is_one (s ∷ []) = true
    is_one (s ∷ t ∷ switches) = false

-- the request that a switch makes of a's question is flooded: it arrives at b, which has joined no group, with a's address, and not at a
abbrev pub flooded : List ℕ
flooded = bytes_of (codes "ffffffffffff000000000001080600010800060400010000000000010a0000010000000000000a000003")

all_are_asked : Run two_hosts both_started → Run two_hosts (both_started ++ Made 3 e00 flooded ∷ Crossed 3 e00 ∷ Arrived 3 b flooded ∷ [])
unfolding decode_pairs
all_are_asked run = run ▸ refl ▸ refl ▸ (refl, record { reached = (refl, refl); unaltered = refl; first = refl; not_back = refl; member = refl })

but_not_the_asker : ¬ Run two_hosts (both_started ++ Made 3 e00 flooded ∷ Crossed 3 e00 ∷ Arrived 3 a flooded ∷ [])
unfolding decode_pairs
but_not_the_asker run = false≢true (sym run.1.1.not_back)

-- a flooded frame has members everywhere
all_are_members : ¬ Run two_hosts (both_started ++ Made 3 e00 flooded ∷ Crossed 3 e00 ∷ Dropped 3 NoMember ∷ [])
unfolding decode_pairs
all_are_members run = false≢true run.1.1

-- a probe of the switch that made it keeps its source, and arrives with the host's own address
abbrev pub probe : List ℕ
probe = bytes_of (codes "00000001000100000001000008060001080006040001000000010000000000000000000000000a000002")

abbrev pub probe_arrived : List ℕ
probe_arrived = bytes_of (codes "02000000000b000000010000080600010800060400010000000100000000000002000000000b0a000002")

a_probe_arrives : Run two_hosts both_started → Run two_hosts (both_started ++ Made 3 e00 probe ∷ Crossed 3 e00 ∷ Arrived 3 b probe_arrived ∷ [])
unfolding decode_pairs
a_probe_arrives run = run ▸ refl ▸ refl ▸ (refl, record { held = refl; stands_there = refl; reached = (refl, refl); unaltered = refl })
