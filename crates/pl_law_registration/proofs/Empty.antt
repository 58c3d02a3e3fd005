-- A fabric at rest has nothing in its queues.
use Rattle.std.proofs.Common.{◌≡◌, ◌<◌, ◌≤◌, ◌+◌, ◌-◌, ◌*◌, ℕ, nat_lt, Bool, true, false, cond, None, refl, sym, ap, ◌∙◌, arith, length}
use Rattle.std.proofs.lemmas.Bool.{and_parts, ltb-true}
use Rattle.std.proofs.lemmas.Bool.Decides.{Decides-ltb}
use Rattle.std.proofs.lemmas.Nat.{div-add-mod'}
use Rattle.pl_wiring.specs.Index.{port_index}
use Rattle.pl_wiring.specs.Labels.{switch_count}
use Rattle.pl_wiring.proofs.Exports.{port_index-below}
use Rattle.pl_queues.specs.Queues.{has_items, items_at}
use Rattle.pl_world.specs.declared.event.QueueName.{QueueName}
use Rattle.pl_world.specs.declared.event.QueueName.TheVariants as queue
use Rattle.pl_world.specs.Changes.{host_no, switch_no}
use Rattle.pl_world.specs.QueueOrder.{first_from_manager, first_out, first_to_manager, next_queue, port_queue, queue_at, queue_count}
use Rattle.pl_world.specs.Refusals.{has_switch, is_filled}
use Rattle.pl_world.specs.Worlds.{WorldView}
use Rattle.pl_fabric.proofs.Exports.{next_is_first}
use Rattle.pl_law_registration.specs.BeingRegistered.{NothingWaits}

module _ (w : WorldView) (none : next_queue w 0 ≡ None) where
  k : ℕ
  k = w.plan.k

  below : (n : ℕ) → n < queue_count w.plan → is_filled w (queue_at w.plan n) ≡ false
  below n less = next_is_first w 0 None (sym none) n (omega arith) less

  -- the tests of a queue's number
  first_is : (n : ℕ) → n < first_out w.plan → queue_at w.plan n ≡ queue.FromHost (host_no n)
  first_is n less = ap (λ b. cond b (queue.FromHost (host_no n))
      (cond (nat_lt n (first_to_manager w.plan)) (port_queue w.plan.k (n - first_out w.plan))
      (cond (nat_lt n (first_from_manager w.plan)) (queue.ToManager (switch_no (n - first_to_manager w.plan))) (queue.FromManager (switch_no (n - first_from_manager w.plan))))))
      ((Decides-ltb n (first_out w.plan)).1 less)

  not_less : (m n : ℕ) → n ≤ m → nat_lt m n ≡ false
  not_less m n le = by (nat_lt m n) refl
    where
      by : (b : Bool) → nat_lt m n ≡ b → nat_lt m n ≡ false
      by true is = let less = ltb-true m n is in absurd (omega (arith, le, less))
      by false is = is

  port_is : (n : ℕ) → first_out w.plan ≤ n → n < first_to_manager w.plan → queue_at w.plan n ≡ port_queue w.plan.k (n - first_out w.plan)
  port_is n low high =
      ap (λ b. cond b (queue.FromHost (host_no n))
      (cond (nat_lt n (first_to_manager w.plan)) (port_queue w.plan.k (n - first_out w.plan))
      (cond (nat_lt n (first_from_manager w.plan)) (queue.ToManager (switch_no (n - first_to_manager w.plan))) (queue.FromManager (switch_no (n - first_from_manager w.plan))))))
      (not_less n (first_out w.plan) low)
      ∙ ap (λ b. cond b (port_queue w.plan.k (n - first_out w.plan))
      (cond (nat_lt n (first_from_manager w.plan)) (queue.ToManager (switch_no (n - first_to_manager w.plan))) (queue.FromManager (switch_no (n - first_from_manager w.plan)))))
      ((Decides-ltb n (first_to_manager w.plan)).1 high)

  up_is : (n : ℕ) → first_to_manager w.plan ≤ n → n < first_from_manager w.plan → queue_at w.plan n ≡ queue.ToManager (switch_no (n - first_to_manager w.plan))
  up_is n low high =
      ap (λ b. cond b (queue.FromHost (host_no n))
      (cond (nat_lt n (first_to_manager w.plan)) (port_queue w.plan.k (n - first_out w.plan))
      (cond (nat_lt n (first_from_manager w.plan)) (queue.ToManager (switch_no (n - first_to_manager w.plan))) (queue.FromManager (switch_no (n - first_from_manager w.plan))))))
      (not_less n (first_out w.plan) (omega (arith, low)))
      ∙ ap (λ b. cond b (port_queue w.plan.k (n - first_out w.plan))
      (cond (nat_lt n (first_from_manager w.plan)) (queue.ToManager (switch_no (n - first_to_manager w.plan))) (queue.FromManager (switch_no (n - first_from_manager w.plan)))))
      (not_less n (first_to_manager w.plan) low)
      ∙ ap (λ b. cond b (queue.ToManager (switch_no (n - first_to_manager w.plan))) (queue.FromManager (switch_no (n - first_from_manager w.plan))))
      ((Decides-ltb n (first_from_manager w.plan)).1 high)

  down_is : (n : ℕ) → first_from_manager w.plan ≤ n → queue_at w.plan n ≡ queue.FromManager (switch_no (n - first_from_manager w.plan))
  down_is n low =
      ap (λ b. cond b (queue.FromHost (host_no n))
      (cond (nat_lt n (first_to_manager w.plan)) (port_queue w.plan.k (n - first_out w.plan))
      (cond (nat_lt n (first_from_manager w.plan)) (queue.ToManager (switch_no (n - first_to_manager w.plan))) (queue.FromManager (switch_no (n - first_from_manager w.plan))))))
      (not_less n (first_out w.plan) (omega (arith, low)))
      ∙ ap (λ b. cond b (port_queue w.plan.k (n - first_out w.plan))
      (cond (nat_lt n (first_from_manager w.plan)) (queue.ToManager (switch_no (n - first_to_manager w.plan))) (queue.FromManager (switch_no (n - first_from_manager w.plan)))))
      (not_less n (first_to_manager w.plan) (omega (arith, low)))
      ∙ ap (λ b. cond b (queue.ToManager (switch_no (n - first_to_manager w.plan))) (queue.FromManager (switch_no (n - first_from_manager w.plan))))
      (not_less n (first_from_manager w.plan) low)

  pub all_empty : NothingWaits w
  all_empty (queue.FromHost h) there =
      let less : h.0 < length w.plan.hosts = ltb-true h.0 (length w.plan.hosts) there in
      ap (λ (q : QueueName). is_filled w q) (sym (first_is h.0 less)) ∙ below h.0 (omega (arith, less))
  all_empty (queue.Port s port) there =
      let two = and_parts (has_switch w.plan s.0) (nat_lt port w.plan.k) there in
      let place = port_index w.plan.k s.0 port in
      let inside : place < switch_count w.plan.k * w.plan.k = port_index-below w.plan.k s.0 port (switch_count w.plan.k) (ltb-true s.0 (switch_count w.plan.k) two.0) (ltb-true port w.plan.k two.1) in
      let n = first_out w.plan + place in
      let back : n - first_out w.plan ≡ place = omega arith in
      ap (λ m. has_items (items_at w.out m)) (sym (div-add-mod' place w.plan.k))
      ∙ ap (λ m. is_filled w (port_queue w.plan.k m)) (sym back)
      ∙ ap (λ (q : QueueName). is_filled w q) (sym (port_is n (omega arith) (omega (arith, inside)))) ∙ below n (omega (arith, inside))
  all_empty (queue.ToManager s) there =
      let less : s.0 < switch_count w.plan.k = ltb-true s.0 (switch_count w.plan.k) there in
      let n = first_to_manager w.plan + s.0 in
      let back : n - first_to_manager w.plan ≡ s.0 = omega arith in
      ap (λ m. has_items (items_at w.to_manager m)) (sym back)
      ∙ ap (λ (q : QueueName). is_filled w q) (sym (up_is n (omega arith) (omega (arith, less)))) ∙ below n (omega (arith, less))
  all_empty (queue.FromManager s) there =
      let less : s.0 < switch_count w.plan.k = ltb-true s.0 (switch_count w.plan.k) there in
      let n = first_from_manager w.plan + s.0 in
      let back : n - first_from_manager w.plan ≡ s.0 = omega arith in
      ap (λ m. has_items (items_at w.from_manager m)) (sym back)
      ∙ ap (λ (q : QueueName). is_filled w q) (sym (down_is n (omega arith))) ∙ below n (omega (arith, less))
