-- The list of all queues has each at its number.
use Rattle.std.proofs.Common.{◌≡◌, ℕ, zero, suc, ◌+◌, ◌-◌, ◌*◌, ◌/◌, ◌%◌, ◌<◌, ◌≤◌, List, ◌++◌, length, map, get_or, slice_get, Some, sym, ap, ◌∙◌, inl, inr, zero-add, arith}
use Rattle.std.specs.List.{flat_map, range_with_len}
use Rattle.std.proofs.lemmas.Bool.{cases_lt}
use Rattle.std.proofs.lemmas.List.{get_or_append_left, get_or-append_right, length-append}
use Rattle.std.proofs.lemmas.List.FromFn.{fill_by_all, length-map-range_with_len, get_or-map-range_with_len}
use Rattle.std.proofs.lemmas.Nat.{div-add-mod', div_below, mod_below}
use Rattle.std.proofs.lemmas.Option.{slice_get-get_or}
use Rattle.pl_wiring.specs.Labels.{switch_count}
use Rattle.pl_wiring.specs.Plan.{IsPlan, Plan}
use Rattle.pl_world.specs.declared.event.QueueName.{QueueName}
use Rattle.pl_world.specs.declared.event.QueueName.TheVariants as queue
use Rattle.pl_world.specs.Changes.{host_no, switch_no}
use Rattle.pl_world.specs.QueueOrder.{first_from_manager, first_out, first_to_manager, host_queues, port_queue, queue_at, queue_count, queue_order, queues_out_of, switch_numbers}
use Rattle.pl_schedule.proofs.NextQueues.{queue_at-from_manager, queue_at-host, queue_at-out, queue_at-to_manager}

-- the queues out of k ports of each of `many` switches
module _ (k : ℕ) where
  abbrev rows : ℕ → ℕ → List QueueName
  rows from many = flat_map (queues_out_of k) (range_with_len from many)

  length-row : (s : ℕ) → length (queues_out_of k s) ≡ k
  length-row s = length-map-range_with_len (queue.Port (switch_no s)) 0 k

  length-rows : (many from : ℕ) → length (rows from many) ≡ many * k
  length-rows zero from = omega arith
  length-rows (suc many) from =
      let both = length-append (queues_out_of k from) (rows (from + 1) many) in
      omega (arith, both, length-row from, length-rows many (from + 1))

  at_row : (d : QueueName) (many from row port : ℕ) → row < many → port < k → get_or (rows from many) (row * k + port) d ≡ queue.Port (switch_no (from + row)) port
  at_row d zero from row port low inside = absurd (omega arith)
  at_row d (suc many) from zero port low inside =
      let here : port < length (queues_out_of k from) = omega (arith, length-row from) in
      let first : 0 * k + port ≡ port = omega arith in
      let same : from ≡ from + 0 = omega arith in
      ap (λ at. get_or (rows from (suc many)) at d) first
      ∙ get_or_append_left (queues_out_of k from) (rows (from + 1) many) d port here
      ∙ get_or-map-range_with_len (queue.Port (switch_no from)) 0 k port port d inside (zero-add port)
      ∙ ap (λ s. queue.Port (switch_no s) port) same
  at_row d (suc many) from (suc row) port low inside =
      let next : suc row * k + port - k ≡ row * k + port = omega arith in
      let back : from + 1 + row ≡ from + suc row = omega arith in
      get_or-append_right (queues_out_of k from) (rows (from + 1) many) k (suc row * k + port) d (length-row from) (omega arith)
      ∙ ap (λ at. get_or (rows (from + 1) many) at d) next
      ∙ at_row d many (from + 1) row port (omega arith) inside
      ∙ ap (λ s. queue.Port (switch_no s) port) back

module _ (plan : Plan) where
  abbrev out : List QueueName
  out = rows plan.k 0 (switch_count plan.k)

  abbrev to_manager : List QueueName
  to_manager = map (λ s. queue.ToManager (switch_no s)) (switch_numbers plan)

  abbrev from_manager : List QueueName
  from_manager = map (λ s. queue.FromManager (switch_no s)) (switch_numbers plan)

  length-host_queues : length (host_queues plan) ≡ first_out plan
  length-host_queues = length-map-range_with_len (λ h. queue.FromHost (host_no h)) 0 (length plan.hosts)

  length-out : length out ≡ switch_count plan.k * plan.k
  length-out = length-rows plan.k (switch_count plan.k) 0

  length-to_manager : length to_manager ≡ switch_count plan.k
  length-to_manager = length-map-range_with_len (λ s. queue.ToManager (switch_no s)) 0 (switch_count plan.k)

  length-from_manager : length from_manager ≡ switch_count plan.k
  length-from_manager = length-map-range_with_len (λ s. queue.FromManager (switch_no s)) 0 (switch_count plan.k)

  -- the queues out of all ports, by the indices of the ports
  pub ports_in_a_row : 0 < plan.k → out ≡ map (port_queue plan.k) (range_with_len 0 (switch_count plan.k * plan.k))
  ports_in_a_row ports =
      let d : QueueName = queue.FromHost (host_no 0) in
      fill_by_all (port_queue plan.k) out (switch_count plan.k * plan.k) d length-out (λ index low.
      let row : index / plan.k < switch_count plan.k = div_below index plan.k (switch_count plan.k) ports low in
      ap (λ at. get_or out at d) (sym (div-add-mod' index plan.k))
      ∙ at_row plan.k d (switch_count plan.k) 0 (index / plan.k) (index % plan.k) row (mod_below index plan.k ports)
      ∙ ap (λ s. queue.Port (switch_no s) (index % plan.k)) (zero-add (index / plan.k)))

  pub length_of_order : length (queue_order plan) ≡ queue_count plan
  unfolding queue_order
  length_of_order = omega (
    arith,
    length-append (host_queues plan) (out ++ (to_manager ++ from_manager)),
    length-append out (to_manager ++ from_manager),
    length-append to_manager from_manager,
    length-host_queues,
    length-out,
    length-to_manager,
    length-from_manager,
  )

  module _ (n : ℕ) (d : QueueName) where
    at_host : n < first_out plan → get_or (queue_order plan) n d ≡ queue_at plan n
    unfolding queue_order
    at_host h =
        get_or_append_left (host_queues plan) (out ++ (to_manager ++ from_manager)) d n (omega (arith, length-host_queues))
        ∙ get_or-map-range_with_len (λ h. queue.FromHost (host_no h)) 0 (length plan.hosts) n n d h (zero-add n)
        ∙ sym (queue_at-host plan n h)

    behind_hosts : first_out plan ≤ n → get_or (queue_order plan) n d ≡ get_or (out ++ (to_manager ++ from_manager)) (n - first_out plan) d
    unfolding queue_order
    behind_hosts past = get_or-append_right (host_queues plan) (out ++ (to_manager ++ from_manager)) (first_out plan) n d length-host_queues past

    behind_ports : first_to_manager plan ≤ n → get_or (queue_order plan) n d ≡ get_or (to_manager ++ from_manager) (n - first_to_manager plan) d
    behind_ports past =
        let sum : n - first_out plan - switch_count plan.k * plan.k ≡ n - first_to_manager plan = omega arith in
        behind_hosts (omega arith)
        ∙ get_or-append_right out (to_manager ++ from_manager) (switch_count plan.k * plan.k) (n - first_out plan) d length-out (omega arith)
        ∙ ap (λ at. get_or (to_manager ++ from_manager) at d) sum

    at_port : 0 < plan.k → first_out plan ≤ n → n < first_to_manager plan → get_or (queue_order plan) n d ≡ queue_at plan n
    at_port ports past h =
        let index : ℕ = n - first_out plan in
        let low : index < switch_count plan.k * plan.k = omega arith in
        let row : index / plan.k < switch_count plan.k = div_below index plan.k (switch_count plan.k) ports low in
        behind_hosts past
        ∙ get_or_append_left out (to_manager ++ from_manager) d index (omega (arith, low, length-out))
        ∙ ap (λ at. get_or out at d) (sym (div-add-mod' index plan.k))
        ∙ at_row plan.k d (switch_count plan.k) 0 (index / plan.k) (index % plan.k) row (mod_below index plan.k ports)
        ∙ ap (λ s. queue.Port (switch_no s) (index % plan.k)) (zero-add (index / plan.k))
        ∙ sym (queue_at-out plan index low) ∙ ap (queue_at plan) (omega arith)

    at_report : first_to_manager plan ≤ n → n < first_from_manager plan → get_or (queue_order plan) n d ≡ queue_at plan n
    at_report past h =
        let s : ℕ = n - first_to_manager plan in
        let low : s < switch_count plan.k = omega arith in
        behind_ports past
        ∙ get_or_append_left to_manager from_manager d s (omega (arith, low, length-to_manager))
        ∙ get_or-map-range_with_len (λ s. queue.ToManager (switch_no s)) 0 (switch_count plan.k) s s d low (zero-add s)
        ∙ sym (queue_at-to_manager plan s low) ∙ ap (queue_at plan) (omega arith)

    at_order : first_from_manager plan ≤ n → n < queue_count plan → get_or (queue_order plan) n d ≡ queue_at plan n
    at_order past h =
        let s : ℕ = n - first_from_manager plan in
        let low : s < switch_count plan.k = omega arith in
        let sum : n - first_to_manager plan - switch_count plan.k ≡ s = omega arith in
        behind_ports (omega arith)
        ∙ get_or-append_right to_manager from_manager (switch_count plan.k) (n - first_to_manager plan) d length-to_manager (omega arith)
        ∙ ap (λ at. get_or from_manager at d) sum
        ∙ get_or-map-range_with_len (λ s. queue.FromManager (switch_no s)) 0 (switch_count plan.k) s s d low (zero-add s)
        ∙ sym (queue_at-from_manager plan s) ∙ ap (queue_at plan) (omega arith)

    member : 0 < plan.k → n < queue_count plan → get_or (queue_order plan) n d ≡ queue_at plan n
    member ports within = elim (cases_lt n (first_out plan)) [
      | inl host ↦ at_host host
      | inr past ↦ elim (cases_lt n (first_to_manager plan)) [
        | inl port ↦ at_port ports past port
        | inr beyond ↦ elim (cases_lt n (first_from_manager plan)) [
          | inl report ↦ at_report beyond report
          | inr last ↦ at_order last within
        ]
      ]
    ]

  pub member_of_order : (n : ℕ) (name : QueueName) → IsPlan plan → n < queue_count plan → name ≡ queue_at plan n → slice_get (queue_order plan) n ≡ Some name
  member_of_order n name is_plan within is =
      let ports : 0 < plan.k = omega (arith, is_plan.arity.least) in
      slice_get-get_or (queue_order plan) n name (omega (arith, within, length_of_order))
      ∙ ap (λ x. Some x) (member n name ports within ∙ sym is)
