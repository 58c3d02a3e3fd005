-- Journals of a host that moves to another pod, and of a group: what is a run of the lossy switch, and what is none.
use Rattle.std.specs.Prelude.{◌≡◌, ℕ, ◌==◌, List, [], ◌∷◌, ◌++◌, codes, replicate, take, drop, reverse, Some, refl}
use Rattle.std.proofs.Common.{ap, sym, inl, inr, lit<, lt→ltb}
use Rattle.std.proofs.lemmas.Bool.{false≢true}
use Rattle.hex.specs.Hex.{decode_pairs}
use Rattle.pl_frame.specs.declared.address.Mac.{Mac}
use Rattle.pl_pmac.specs.declared.pmac.Pmac.{Pmac}
use Rattle.pl_pmac.specs.Pmac.{pmac_number}
use Rattle.pl_wiring.specs.declared.label.SwitchNo.{SwitchNo}
use Rattle.pl_wiring.specs.declared.host.HostNo.{HostNo}
use Rattle.pl_wiring.specs.Plan.{Plan}
use Rattle.pl_journal.specs.declared.entry.Entry.{Entry}
use Rattle.pl_journal.specs.declared.entry.Entry.TheVariants.{Line, Sent, Crossed, Redirected, Copied, Arrived, Taken, Dropped, Granted, Registered, LinkDown, LinkUp, Moved, Restarted}
use Rattle.pl_journal.specs.declared.cause.Cause.TheVariants.{NoMember, HostGone}
use Rattle.pl_examples.specs.ExampleFrames.{bytes_of, mac_a, pmac_a, a_starts, a_joins}
use Rattle.pl_journal.specs.Places.{at_port, is_at, number}
use Rattle.pl_journal.specs.Flights.{is_frame}
use Rattle.pl_examples.specs.FirstPath.{◌▸◌, canonical, host_at, two_hosts, both_started, then, switch, a, b, e00}
use Rattle.pl_journal.specs.Lossy.{Run, GoodTrail}

-- d stands at port 0 of e1.0 at first, and a at port 0 of e0.0
abbrev pub mac_d : Mac
mac_d = record { 0 = 2 ∷ 0 ∷ 0 ∷ 0 ∷ 0 ∷ 13 ∷ [] }

abbrev pub two_pods : Plan
two_pods = canonical (host_at (codes "a") mac_a 0x0a000001 0 0 ∷ host_at (codes "d") mac_d 0x0a000004 2 0 ∷ [])

abbrev pub d : HostNo
d = record { 0 = 1 }

abbrev pub e01 : SwitchNo
e01 = switch 1

abbrev pub e10 : SwitchNo
e10 = switch 2

abbrev pub a00 : SwitchNo
a00 = switch 8

abbrev pub a01 : SwitchNo
a01 = switch 9

abbrev pub a10 : SwitchNo
a10 = switch 10

abbrev pub a11 : SwitchNo
a11 = switch 11

abbrev pub c00 : SwitchNo
c00 = switch 16

abbrev pub c11 : SwitchNo
c11 = switch 19

-- its address there, and the one that it gets at port 1 of e0.1
abbrev pub pmac_d : Pmac
pmac_d = record { pod = 1; position = 0; port = 0; vmid = 1 }

abbrev pub pmac_moved : Pmac
pmac_moved = record { pod = 0; position = 1; port = 1; vmid = 1 }

abbrev pub d_starts : List ℕ
d_starts = bytes_of (codes "ffffffffffff02000000000d0806000108000604000102000000000d0a0000040000000000000a000004")

abbrev pub a_to_d : List ℕ
a_to_d = bytes_of (codes "00010000000102000000000a88b6") ++ replicate 46 0

abbrev pub a_to_moved : List ℕ
a_to_moved = bytes_of (codes "00000101000102000000000a88b6") ++ replicate 46 0

abbrev pub a_to_d_arrived : List ℕ
a_to_d_arrived = bytes_of (codes "02000000000d00000000000188b6") ++ replicate 46 0

abbrev pub d_moved : List Entry
d_moved =
    Line 1 ∷ Sent 1 a a_starts ∷ Sent 2 d d_starts ∷ Crossed 1 e00 ∷ Granted pmac_a a e00 0 ∷ Taken 1 e00 ∷
    Crossed 2 e10 ∷ Granted pmac_d d e10 0 ∷ Taken 2 e10 ∷ Registered pmac_a 1 ∷ Registered pmac_d 2 ∷
    Line 2 ∷ Moved d e01 1 ∷ Sent 3 d d_starts ∷ Crossed 3 e01 ∷ Granted pmac_moved d e01 1 ∷ Taken 3 e01 ∷ Registered pmac_moved 3 ∷ []

-- a frame to the old address goes there through the core, and on from there to the new one
abbrev pub at_old_place : List Entry
at_old_place = d_moved ++
    Line 3 ∷ Sent 4 a a_to_d ∷ Crossed 4 e00 ∷ Crossed 4 a00 ∷ Crossed 4 c00 ∷ Crossed 4 a10 ∷ Crossed 4 e10 ∷ []

abbrev pub followed : List Entry
followed = at_old_place ++
    Redirected 4 pmac_d pmac_moved ∷ Crossed 4 e10 ∷ Crossed 4 a11 ∷ Crossed 4 c11 ∷ Crossed 4 a01 ∷ Crossed 4 e01 ∷ []

abbrev pub a_moved_host : List Entry
a_moved_host = then followed (Arrived 4 d a_to_d_arrived)

a_moved_host_is_a_run : Run two_pods a_moved_host
unfolding decode_pairs
a_moved_host_is_a_run =
    tt ▸ tt ▸ refl ▸ refl
    ▸ refl ▸ record { fresh = refl; port = refl; stood = refl; edge = refl } ▸ (refl, record { of_host = refl; alone = refl; takeable = refl })
    ▸ refl ▸ record { fresh = refl; port = refl; stood = refl; edge = refl } ▸ (refl, record { of_host = refl; alone = refl; takeable = refl })
    ▸ (refl, lit< tt) ▸ (refl, lit< tt)
    ▸ tt ▸ (refl, refl) ▸ refl
    ▸ refl ▸ record { fresh = refl; port = refl; stood = refl; edge = refl } ▸ (refl, record { of_host = refl; alone = refl; takeable = refl })
    ▸ (refl, lit< tt)
    ▸ tt ▸ refl ▸ refl ▸ refl ▸ refl ▸ refl ▸ refl
    ▸ (refl, record { present = refl; live = (refl, refl); same_host = refl; newer = lit< tt; turns = refl })
    ▸ refl ▸ refl ▸ refl ▸ refl ▸ refl
    ▸ (refl, record { held = refl; stands_there = refl; reached = (refl, refl); unaltered = refl })

a_moved_host_has_a_good_trail : GoodTrail two_pods a_moved_host
unfolding decode_pairs
a_moved_host_has_a_good_trail =
    tt ▸ tt ▸ tt ▸ tt ▸ refl ▸ tt ▸ tt ▸ refl ▸ tt ▸ tt ▸ tt ▸ tt ▸ tt ▸ tt ▸ tt ▸ refl ▸ tt ▸ tt ▸ tt
    ▸ tt ▸ tt ▸ refl ▸ refl ▸ refl ▸ refl ▸ refl ▸ tt ▸ refl ▸ refl ▸ refl ▸ refl ▸ refl ▸ tt

-- the number of the old address is 2, that of the new one 3
no_frame_goes_back_to_an_older_address : ¬ Run two_pods (d_moved ++ Sent 4 a a_to_moved ∷ Crossed 4 e00 ∷ Crossed 4 a00 ∷ Crossed 4 e01 ∷ Redirected 4 pmac_moved pmac_d ∷ [])
unfolding decode_pairs
no_frame_goes_back_to_an_older_address run = lt→ltb 3 2 run.1.1.newer

-- a's address is another host's
no_frame_goes_on_to_another_host : ¬ Run two_pods (then at_old_place (Redirected 4 pmac_d pmac_a))
unfolding decode_pairs
no_frame_goes_on_to_another_host run = false≢true (ap (λ holder. is_frame holder 1) run.1.1.same_host)

no_frame_goes_on_before_it_is_there : ¬ Run two_pods (d_moved ++ Sent 4 a a_to_d ∷ Crossed 4 e00 ∷ Redirected 4 pmac_d pmac_moved ∷ [])
unfolding decode_pairs
no_frame_goes_on_before_it_is_there run = false≢true run.1.1.turns

-- d stands there no more
it_does_not_arrive_at_the_old_place : ¬ Run two_pods (then at_old_place (Arrived 4 d a_to_d_arrived))
unfolding decode_pairs
it_does_not_arrive_at_the_old_place run = false≢true (ap (λ there. is_at there (at_port 2 0)) run.1.1.stands_there)

it_is_dropped_there : Run two_pods at_old_place → Run two_pods (then at_old_place (Dropped 4 HostGone))
unfolding decode_pairs
it_is_dropped_there run = run ▸ (refl, inr (inl refl))

-- all the address's bytes but one
no_address_has_another_port : ¬ Run two_pods (then d_moved (Granted (record pmac_moved { port = 0; vmid = 2 }) d e01 1))
unfolding decode_pairs
no_address_has_another_port run = false≢true (ap (λ port. port == 1) run.1.port)

-- pod 0, position 1 is that of e0.1, where it was granted before
no_other_switch_grants_it : ¬ Run two_pods (then d_moved (Granted (record pmac_moved { port = 0; vmid = 2 }) d e10 0))
unfolding decode_pairs
no_other_switch_grants_it run = false≢true run.1.edge

-- 3 is the highest number so far: an address may be given any larger one, in the place of its own
an_address_is_numbered_anew : Run two_pods d_moved → Run two_pods (then d_moved (Registered pmac_a 4294967297))
unfolding decode_pairs
an_address_is_numbered_anew run = run ▸ (refl, lit< tt)

no_number_is_given_twice : ¬ Run two_pods (then d_moved (Registered pmac_a 3))
unfolding decode_pairs
no_number_is_given_twice run = lt→ltb 3 3 run.1.1

-- the last number of an address counts
its_number_is_the_last_one : number (reverse (d_moved ++ Registered pmac_a 4 ∷ Registered pmac_a 7 ∷ [])) (pmac_number pmac_a) ≡ Some 7
its_number_is_the_last_one = refl

-- the manager begins anew, and again; the addresses that were numbered before keep what the journal says of them
the_manager_begins_anew : Run two_pods d_moved → Run two_pods (then (then d_moved (Restarted 1)) (Restarted 2))
unfolding decode_pairs
the_manager_begins_anew run = run ▸ refl ▸ refl

no_restart_counts_for_nothing : ¬ Run two_pods (then (then d_moved (Restarted 1)) (Restarted 1))
unfolding decode_pairs
no_restart_counts_for_nothing run = false≢true (ap (λ n. n == 2) run.1)

no_restart_begins_the_numbers_again : ¬ Run two_pods (then (then d_moved (Restarted 1)) (Registered pmac_a 1))
unfolding decode_pairs
no_restart_begins_the_numbers_again run = lt→ltb 3 1 run.1.1

-- from e0.0 no link leads to c0.0
no_link : ¬ GoodTrail two_pods (d_moved ++ Sent 4 a a_to_d ∷ Crossed 4 e00 ∷ Crossed 4 c00 ∷ [])
unfolding decode_pairs
no_link trail = false≢true trail.1

no_way_up_again : ¬ GoodTrail two_pods (d_moved ++ Sent 4 a a_to_d ∷ Crossed 4 e00 ∷ Crossed 4 a00 ∷ Crossed 4 e01 ∷ Crossed 4 a01 ∷ [])
unfolding decode_pairs
no_way_up_again trail = false≢true trail.1

no_switch_twice : ¬ GoodTrail two_pods (d_moved ++ Sent 4 a a_to_d ∷ Crossed 4 e00 ∷ Crossed 4 a00 ∷ Crossed 4 e00 ∷ [])
unfolding decode_pairs
no_switch_twice trail = false≢true trail.1

-- the link failed while the frame was on it, and was repaired
no_link_that_failed : ¬ GoodTrail two_pods (d_moved ++ Sent 4 a a_to_d ∷ Crossed 4 e00 ∷ LinkDown e00 a00 ∷ LinkUp e00 a00 ∷ Crossed 4 a00 ∷ [])
unfolding decode_pairs
no_link_that_failed trail = false≢true trail.1

another_link_may_fail : GoodTrail two_pods (d_moved ++ Sent 4 a a_to_d ∷ Crossed 4 e00 ∷ LinkDown e00 a01 ∷ LinkUp e00 a01 ∷ Crossed 4 a00 ∷ [])
unfolding decode_pairs
another_link_may_fail =
    tt ▸ tt ▸ tt ▸ tt ▸ refl ▸ tt ▸ tt ▸ refl ▸ tt ▸ tt ▸ tt ▸ tt ▸ tt ▸ tt ▸ tt ▸ refl ▸ tt ▸ tt ▸ tt
    ▸ tt ▸ refl ▸ tt ▸ tt ▸ refl

-- a joins 239.1.2.3, and b sends a frame to it, which is copied
abbrev pub b_to_group : List ℕ
b_to_group = bytes_of (codes "01005e01020302000000000b88b6") ++ replicate 46 0

abbrev pub b_to_group_arrived : List ℕ
b_to_group_arrived = bytes_of (codes "01005e01020300000001000188b6") ++ replicate 46 0

abbrev pub a_joined : List Entry
a_joined = both_started ++ Sent 3 a a_joins ∷ Crossed 3 e00 ∷ Taken 3 e00 ∷ []

abbrev pub copied : List Entry
copied = a_joined ++ Sent 4 b b_to_group ∷ Crossed 4 e00 ∷ Copied 4 5 ∷ []

abbrev pub a_group : List Entry
a_group = copied ++ Arrived 5 a b_to_group_arrived ∷ Dropped 4 NoMember ∷ []

a_group_is_a_run : Run two_hosts a_group
unfolding decode_pairs
a_group_is_a_run =
    tt ▸ tt ▸ refl ▸ refl ▸ tt
    ▸ refl ▸ record { fresh = refl; port = refl; stood = refl; edge = refl } ▸ (refl, record { of_host = refl; alone = refl; takeable = refl })
    ▸ refl ▸ record { fresh = refl; port = refl; stood = refl; edge = refl } ▸ (refl, record { of_host = refl; alone = refl; takeable = refl })
    ▸ tt
    ▸ refl ▸ refl ▸ (refl, record { of_host = refl; alone = refl; takeable = refl })
    ▸ refl ▸ refl ▸ (refl, refl, refl)
    ▸ (refl, record { reached = (refl, refl); unaltered = refl; first = refl; not_back = refl; member = refl })
    ▸ (refl, refl)

-- frame 5 is a copy of frame 4
no_copy_arrives_beside_another : ¬ Run two_hosts (copied ++ Arrived 4 a b_to_group_arrived ∷ Arrived 5 a b_to_group_arrived ∷ [])
unfolding decode_pairs
no_copy_arrives_beside_another run = false≢true (sym run.1.1.first)

no_copy_arrives_at_its_source : ¬ Run two_hosts (then copied (Arrived 5 b b_to_group_arrived))
unfolding decode_pairs
no_copy_arrives_at_its_source run = false≢true (sym run.1.1.not_back)

-- a has left the group again
no_copy_arrives_at_a_host_that_left : ¬ Run two_hosts (a_joined ++ Sent 4 a (take 38 a_joins ++ 0x17 ∷ drop 39 a_joins) ∷ Sent 5 b b_to_group ∷ Crossed 5 e00 ∷ Arrived 5 a b_to_group_arrived ∷ [])
unfolding decode_pairs
no_copy_arrives_at_a_host_that_left run = false≢true run.1.1.member

no_frame_to_one_host_is_copied : ¬ Run two_pods (then at_old_place (Copied 4 5))
unfolding decode_pairs
no_frame_to_one_host_is_copied run = false≢true run.1.1

-- a's frame to the group rises to a core switch, where it is copied
abbrev pub a_to_group : List ℕ
a_to_group = bytes_of (codes "01005e01020302000000000a88b6") ++ replicate 46 0

abbrev pub at_core : List Entry
at_core = d_moved ++ Sent 4 a a_to_group ∷ Crossed 4 e00 ∷ Crossed 4 a00 ∷ Crossed 4 c00 ∷ Copied 4 5 ∷ []

-- the copy falls through switches that it rose through
a_copy_falls_where_it_rose : GoodTrail two_pods (at_core ++ Crossed 4 a10 ∷ Crossed 5 a00 ∷ Crossed 5 e00 ∷ [])
unfolding decode_pairs
a_copy_falls_where_it_rose =
    tt ▸ tt ▸ tt ▸ tt ▸ refl ▸ tt ▸ tt ▸ refl ▸ tt ▸ tt ▸ tt ▸ tt ▸ tt ▸ tt ▸ tt ▸ refl ▸ tt ▸ tt ▸ tt
    ▸ tt ▸ refl ▸ refl ▸ refl ▸ tt ▸ refl ▸ refl ▸ refl

no_copy_rises_again : ¬ GoodTrail two_pods (at_core ++ Crossed 5 a00 ∷ Crossed 5 e00 ∷ Crossed 5 a01 ∷ [])
unfolding decode_pairs
no_copy_rises_again trail = false≢true trail.1

no_copy_comes_over_no_link : ¬ GoodTrail two_pods (at_core ++ Crossed 5 a01 ∷ [])
unfolding decode_pairs
no_copy_comes_over_no_link trail = false≢true trail.1

-- the link failed while the copy was on it, and was repaired
no_copy_comes_over_a_link_that_failed : ¬ GoodTrail two_pods (at_core ++ LinkDown a00 c00 ∷ LinkUp a00 c00 ∷ Crossed 5 a00 ∷ [])
unfolding decode_pairs
no_copy_comes_over_a_link_that_failed trail = false≢true trail.1
