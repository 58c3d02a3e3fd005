-- The queues from number 0 on are all queues in queue order.
use Rattle.std.proofs.Common.{◌≡◌, ◌-◌, ◌<◌, length, get_or, sym, ◌∙◌, refl, arith, zero-add}
use Rattle.std.proofs.lemmas.List.{same_lists}
use Rattle.std.proofs.lemmas.List.FromFn.{get_or-map-range_with_len, length-map-range_with_len}
use Rattle.std.proofs.lemmas.Option.{slice_get-get_or}
use Rattle.pl_wiring.specs.Plan.{IsPlan, Plan}
use Rattle.pl_world.specs.QueueOrder.{queue_at, queue_count, queue_order}
use Rattle.pl_schedule.proofs.Exports.{length_of_order, member_of_order}
use Rattle.pl_fabric.specs.Rounds.{queues_from}

pub all_in_order : (plan : Plan) → IsPlan plan → queues_from plan 0 ≡ queue_order plan
all_in_order plan is =
    let many = length_of_order plan in
    let all : queue_count plan - 0 ≡ queue_count plan = omega arith in
    let long : length (queues_from plan 0) ≡ queue_count plan = length-map-range_with_len (queue_at plan) 0 (queue_count plan - 0) ∙ all in
    same_lists (queues_from plan 0) (queue_order plan) (long ∙ sym many) (λ n d within.
    let low : n < queue_count plan = omega arith in
    let inside : n < queue_count plan - 0 = omega arith in
    let listed : n < length (queue_order plan) = omega arith in
    let there = member_of_order plan n (queue_at plan n) is low refl in
    let read = slice_get-get_or (queue_order plan) n d listed in
    let same : get_or (queue_order plan) n d ≡ queue_at plan n = cc in
    get_or-map-range_with_len (queue_at plan) 0 (queue_count plan - 0) n n d inside (zero-add n) ∙ sym same)
