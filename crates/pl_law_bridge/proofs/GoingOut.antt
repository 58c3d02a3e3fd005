-- What an event lets go out of ports for hosts counts for these ports as targets, and for nothing else.
use Rattle.std.proofs.Common.{◌≡◌, ℕ, ◌/◌, ◌%◌, ◌≤◌, ◌&&◌, nat_lt, Bool, true, false, if◌then◌else◌, List, Some, reverse, refl, ap, ◌∙◌, arith}
use Rattle.std.proofs.lemmas.Bool.{and_from, and_parts, ltb-true}
use Rattle.std.proofs.lemmas.Nat.{div-mul-add, mod-mul-add}
use Rattle.std.proofs.lemmas.Option.{none-some}
use Rattle.pl_wiring.specs.declared.label.SwitchNo.{SwitchNo}
use Rattle.pl_wiring.specs.declared.link.Peer.{Peer}
use Rattle.pl_wiring.specs.declared.link.Peer.TheVariants.{HostPort, Switch}
use Rattle.pl_wiring.specs.Index.{port_index}
use Rattle.pl_wiring.specs.Peers.{peer_of}
use Rattle.pl_journal.specs.declared.entry.Entry.{Entry}
use Rattle.pl_journal.proofs.Exports.{host_port_is, same_edge_port_itself}
use Rattle.pl_journal.specs.Places.{EdgePort, at_port, is_host_port, same_edge_port}
use Rattle.pl_node.specs.HostInputs.{HostInput}
use Rattle.pl_world.specs.declared.event.Event.{Event}
use Rattle.pl_world.specs.declared.event.Event.TheVariants as event
use Rattle.pl_world.specs.declared.event.QueueName.TheVariants as queue
use Rattle.pl_world.specs.declared.item.Item.{Item}
use Rattle.pl_world.specs.Changes.{out_of}
use Rattle.pl_world.specs.Worlds.{WorldView}
use Rattle.pl_world.proofs.Exports.{asked_by}
use Rattle.pl_queues.specs.Queues.{items_at}
use Rattle.pl_law_counts.specs.Counting.{comes_from_place, count_in, has_root, still_to_come}
use Rattle.pl_law_counts.proofs.Exports.{count_all-one, fewer_in}
use Rattle.pl_law_bridge.specs.GoingOut.{goes_out_by, heads, waiting_at}
use Rattle.pl_law_bridge.specs.Reaching.{Target, may_reach, may_reach_by, nothing_unsaid, to_targets}
use Rattle.pl_law_bridge.specs.Reaching.Target.{Arrival, Crossing, Departure}
use Rattle.pl_law_bridge.proofs.Changing.{departs_at}

abbrev pub gone_by : WorldView → Event → ℕ → Target → ℕ
gone_by w e r (Departure there) = goes_out_by w e r there
gone_by w e r (Crossing x) = 0
gone_by w e r (Arrival there) = 0

-- an event that lets nothing go out
pub none_gone : (w : WorldView) (e : Event) → ((r : ℕ) (there : EdgePort) → goes_out_by w e r there ≡ 0) → (r : ℕ) (there : Target) → gone_by w e r there ≡ 0
none_gone w e none r (Crossing x) = refl
none_gone w e none r (Arrival there) = refl
none_gone w e none r (Departure there) = none r there

pub none_over_link : (w : WorldView) (s : SwitchNo) (port : ℕ) (t : SwitchNo) (q : ℕ) → peer_of w.plan s.0 port ≡ Switch t q →
    (r : ℕ) (there : Target) → gone_by w (event.Deliver (queue.Port s port)) r there ≡ 0
none_over_link w s port t q peer = none_gone w (event.Deliver (queue.Port s port))
    (λ r there. ap (λ (p : Peer). if◌then◌else◌ {A = ℕ} (is_host_port p && same_edge_port (at_port s.0 port) there) (heads (reverse w.journal) r (out_of w s.0 port)) 0) peer)

pub gone_by_port : (w : WorldView) (s : SwitchNo) (port : ℕ) (queued : List Item) → peer_of w.plan s.0 port ≡ HostPort → out_of w s.0 port ≡ queued →
    (r : ℕ) (there : Target) → gone_by w (event.Deliver (queue.Port s port)) r there ≡ departs_at s.0 port there (heads (reverse w.journal) r queued)
gone_by_port w s port queued peer head r (Crossing x) = refl
gone_by_port w s port queued peer head r (Arrival there) = refl
gone_by_port w s port queued peer head r (Departure there) =
    ap (λ (p : Peer). if◌then◌else◌ {A = ℕ} (is_host_port p && same_edge_port (at_port s.0 port) there) (heads (reverse w.journal) r (out_of w s.0 port)) 0) peer
    ∙ ap (λ (items : List Item). if◌then◌else◌ {A = ℕ} (same_edge_port (at_port s.0 port) there) (heads (reverse w.journal) r items) 0) head

-- what asks a host delivers nothing
pub none_asked : (w : WorldView) (e : Event) (who : ℕ × HostInput) → asked_by e ≡ Some who → (r : ℕ) (there : Target) → gone_by w e r there ≡ 0
none_asked w (event.Deliver name) who is = absurd (none-some who is)
none_asked w (event.Tick s) who is = none_gone w (event.Tick s) (λ r there. refl)
none_asked w (event.Fail a b) who is = none_gone w (event.Fail a b) (λ r there. refl)
none_asked w (event.Repair a b) who is = none_gone w (event.Repair a b) (λ r there. refl)
none_asked w (event.Lose s port) who is = none_gone w (event.Lose s port) (λ r there. refl)
none_asked w (event.Move h s port) who is = none_gone w (event.Move h s port) (λ r there. refl)
none_asked w (event.Start h) who is = none_gone w (event.Start h) (λ r there. refl)
none_asked w (event.Play h frame original raw) who is = none_gone w (event.Play h frame original raw) (λ r there. refl)
none_asked w (event.Retry h) who is = none_gone w (event.Retry h) (λ r there. refl)
none_asked w (event.Join h group) who is = none_gone w (event.Join h group) (λ r there. refl)
none_asked w (event.Leave h group) who is = none_gone w (event.Leave h group) (λ r there. refl)
none_asked w event.Restart who is = none_gone w event.Restart (λ r there. refl)

-- the count of steps changes nothing of it
steps_apart : (w : WorldView) (steps : ℕ) (e : Event) (r : ℕ) (there : EdgePort) → goes_out_by (record w { steps = steps }) e r there ≡ goes_out_by w e r there
steps_apart w steps (event.Deliver (queue.FromHost h)) r there = refl
steps_apart w steps (event.Deliver (queue.Port s port)) r there = refl
steps_apart w steps (event.Deliver (queue.ToManager s)) r there = refl
steps_apart w steps (event.Deliver (queue.FromManager s)) r there = refl
steps_apart w steps (event.Tick s) r there = refl
steps_apart w steps (event.Fail a b) r there = refl
steps_apart w steps (event.Repair a b) r there = refl
steps_apart w steps (event.Lose s port) r there = refl
steps_apart w steps (event.Move h s port) r there = refl
steps_apart w steps (event.Start h) r there = refl
steps_apart w steps (event.Play h frame original raw) r there = refl
steps_apart w steps (event.Retry h) r there = refl
steps_apart w steps (event.Join h group) r there = refl
steps_apart w steps (event.Leave h group) r there = refl
steps_apart w steps event.Restart r there = refl

pub gone_stepped : (w : WorldView) (steps : ℕ) (e : Event) (r : ℕ) (there : Target) → gone_by (record w { steps = steps }) e r there ≡ gone_by w e r there
gone_stepped w steps e r (Crossing x) = refl
gone_stepped w steps e r (Arrival there) = refl
gone_stepped w steps e r (Departure there) = steps_apart w steps e r there

-- what waits behind a port for hosts may go out there
pub waiting_may_go : (w : WorldView) (r : ℕ) (there : EdgePort) → waiting_at w r there ≤ still_to_come (to_targets nothing_unsaid) w.plan (reverse w.journal) w.from_hosts w.out r (Departure there)
waiting_may_go w r there = by (nat_lt there.port w.plan.k && is_host_port (peer_of w.plan there.edge there.port)) refl
  where
    n : ℕ
    n = port_index w.plan.k there.edge there.port

    past : List Entry
    past = reverse w.journal

    by : (b : Bool) → (nat_lt there.port w.plan.k && is_host_port (peer_of w.plan there.edge there.port)) ≡ b →
        (if b then count_in (has_root past r) (items_at w.out n) else 0) ≤ still_to_come (to_targets nothing_unsaid) w.plan past w.from_hosts w.out r (Departure there)
    by false is = omega arith
    by true is =
        let both = and_parts (nat_lt there.port w.plan.k) (is_host_port (peer_of w.plan there.edge there.port)) is in
        let within = ltb-true there.port w.plan.k both.0 in
        let reaches : may_reach_by w.plan (n / w.plan.k) (n % w.plan.k) (Departure there) ≡ true =
        ap (λ a. may_reach_by w.plan a (n % w.plan.k) (Departure there)) (div-mul-add there.edge w.plan.k there.port within)
        ∙ ap (λ p. may_reach_by w.plan there.edge p (Departure there)) (mod-mul-add there.edge w.plan.k there.port within)
        ∙ ap (λ p. may_reach w.plan.k there.edge there.port p (Departure there)) (host_port_is (peer_of w.plan there.edge there.port) both.1)
        ∙ same_edge_port_itself there in
        let test : ℕ → ℕ → List ℕ → Bool = comes_from_place (to_targets nothing_unsaid) w.plan past r (Departure there) in
        let more = fewer_in (has_root past r) (test n) (λ id frame own. and_from (has_root past r id frame) (may_reach_by w.plan (n / w.plan.k) (n % w.plan.k) (Departure there)) own reaches) (items_at w.out n) in
        let one = count_all-one test w.out n in
        omega (arith, more, one)
