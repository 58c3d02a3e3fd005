-- Addresses that are freed, and granted again: small journals with one entry that may follow, or may not.
use Rattle.std.specs.Prelude.{List, [], ◌∷◌, ◌++◌, refl}
use Rattle.std.proofs.Common.{ap, sym, inl, inr, lit<}
use Rattle.std.proofs.lemmas.Bool.{false≢true}
use Rattle.hex.specs.Hex.{decode_pairs}
use Rattle.pl_journal.specs.declared.entry.Entry.{Entry}
use Rattle.pl_journal.specs.declared.entry.Entry.TheVariants.{Sent, Crossed, Redirected, Arrived, Dropped, Granted, Registered, Freed, Moved}
use Rattle.pl_journal.specs.declared.cause.Cause.TheVariants.{NoAddress, HostGone, Spent}
use Rattle.pl_journal.specs.Flights.{is_frame}
use Rattle.pl_journal.specs.Lossy.{Run}
use Rattle.pl_examples.specs.ExampleFrames.{a_to_b}
use Rattle.pl_examples.specs.FirstPath.{◌▸◌, two_hosts, both_started, then, a, e00}
use Rattle.pl_examples.specs.Journeys.{two_pods, d, e01, e10, pmac_d, pmac_moved, a_to_d_arrived, d_moved, at_old_place, followed}
use Rattle.pl_examples.specs.Endings.{last_one}

-- a comes to the port that d has left, and gets the address that d had there, with a number of its own
a_freed_address_is_granted_again : Run two_pods d_moved → Run two_pods (d_moved ++ Freed pmac_d ∷ Moved a e10 0 ∷ Granted pmac_d a e10 0 ∷ Registered pmac_d 4 ∷ [])
unfolding decode_pairs
a_freed_address_is_granted_again run =
    run ▸ refl ▸ (refl, refl) ▸ record { fresh = refl; port = refl; stood = refl; edge = refl } ▸ (refl, lit< tt)

no_address_is_freed_twice : ¬ Run two_pods (d_moved ++ Freed pmac_d ∷ Freed pmac_d ∷ [])
unfolding decode_pairs
no_address_is_freed_twice run = false≢true run.1

no_freed_address_is_numbered : ¬ Run two_pods (d_moved ++ Freed pmac_moved ∷ Registered pmac_moved 4 ∷ [])
unfolding decode_pairs
no_freed_address_is_numbered run = false≢true run.1.0

-- of a frame that has come to d's old place: neither of its two addresses may be free
no_frame_goes_on_to_a_freed_address : ¬ Run two_pods (at_old_place ++ Freed pmac_moved ∷ Redirected 4 pmac_d pmac_moved ∷ [])
unfolding decode_pairs
no_frame_goes_on_to_a_freed_address run = false≢true run.1.1.live.1

no_frame_goes_on_from_a_freed_address : ¬ Run two_pods (at_old_place ++ Freed pmac_d ∷ Redirected 4 pmac_d pmac_moved ∷ [])
unfolding decode_pairs
no_frame_goes_on_from_a_freed_address run = false≢true run.1.1.live.0

-- nor may the newer one have its number from before it was freed
no_number_is_kept_over_a_new_grant : ¬ Run two_pods (at_old_place ++ Freed pmac_moved ∷ Granted pmac_moved d e01 1 ∷ Redirected 4 pmac_d pmac_moved ∷ [])
unfolding decode_pairs
no_number_is_kept_over_a_new_grant run = run.1.1.newer

-- a frame that waits for d is d's while its address is freed
a_waiting_frame_arrives : Run two_pods followed → Run two_pods (followed ++ Freed pmac_moved ∷ Arrived 4 d a_to_d_arrived ∷ [])
unfolding decode_pairs
a_waiting_frame_arrives run = run ▸ refl ▸ (refl, record { held = refl; stands_there = refl; reached = (refl, refl); unaltered = refl })

-- and while a gets it, at the port that d has left
abbrev given_to_another : List Entry
given_to_another = followed ++ Freed pmac_moved ∷ Moved d e10 1 ∷ Moved a e01 1 ∷ Granted pmac_moved a e01 1 ∷ []

its_host_is_gone : Run two_pods followed → Run two_pods (then given_to_another (Dropped 4 HostGone))
unfolding decode_pairs
its_host_is_gone run =
    run ▸ refl ▸ (refl, refl) ▸ (refl, refl) ▸ record { fresh = refl; port = refl; stood = refl; edge = refl } ▸ (refl, inr (inl refl))

no_waiting_frame_arrives_at_the_next_host : ¬ Run two_pods (then given_to_another (Arrived 4 a a_to_d_arrived))
unfolding decode_pairs
no_waiting_frame_arrives_at_the_next_host run = false≢true (ap (λ holder. is_frame holder 0) run.1.1.held)

-- a frame whose address was freed has no address, and one whose address is live has one
its_address_was_freed : Run two_pods at_old_place → Run two_pods (at_old_place ++ Freed pmac_d ∷ Dropped 4 NoAddress ∷ [])
unfolding decode_pairs
its_address_was_freed run = run ▸ refl ▸ (refl, refl)

its_address_is_live : ¬ Run two_pods (then at_old_place (Dropped 4 NoAddress))
unfolding decode_pairs
its_address_is_live run = false≢true (sym run.1.1)

-- a port that has given the largest vmid is not spent while an address of it is free
its_port_has_a_free_address : ¬ Run two_hosts (both_started ++ Granted last_one a e00 0 ∷ Freed last_one ∷ Sent 3 a a_to_b ∷ Crossed 3 e00 ∷ Dropped 3 Spent ∷ [])
unfolding decode_pairs
its_port_has_a_free_address run = false≢true run.1.1
