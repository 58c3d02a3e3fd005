-- How many items wait in all queues, one queue more at a time.
use Rattle.std.proofs.Common.{◌≡◌, ℕ, ◌+◌, map, sym, ap, ◌∙◌, arith}
use Rattle.std.specs.List.{range_with_len, sum_by}
use Rattle.std.proofs.lemmas.List.FromFn.{sum_by-map-range_with_len_more}
use Rattle.pl_world.specs.declared.event.QueueName.{QueueName}
use Rattle.pl_world.specs.QueueOrder.{queue_at}
use Rattle.pl_world.specs.Worlds.{WorldView}
use Rattle.pl_fabric.specs.Rounds.{waiting}

pub one_queue_more : (w : WorldView) (n items more sum : ℕ) (name : QueueName) →
    items ≡ sum_by (waiting w) (map (queue_at w.plan) (range_with_len 0 n)) → name ≡ queue_at w.plan n → more ≡ waiting w name → sum ≡ items + more →
    sum ≡ sum_by (waiting w) (map (queue_at w.plan) (range_with_len 0 (n + 1)))
one_queue_more w n items more sum name so_far is many all =
    all
    ∙ ap (λ m. items + m) (many ∙ ap (waiting w) is)
    ∙ ap (λ m. m + waiting w (queue_at w.plan n)) so_far
    ∙ sym (sum_by-map-range_with_len_more (waiting w) (queue_at w.plan) 0 n n (omega arith))
