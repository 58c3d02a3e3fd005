-- The queues with items are those of the four queue arrays, one queue array behind the other.
use Rattle.std.proofs.Common.{◌≡◌, ℕ, ◌+◌, ◌-◌, ◌*◌, ◌<◌, ◌≤◌, Bool, true, false, cond, List, [], ◌∷◌, ◌++◌, length, map, slice_get, refl, sym, ap, ◌∙◌, arith}
use Rattle.std.specs.List.{filter, flat_map, range_with_len}
use Rattle.std.specs.Option.{option_map}
use Rattle.std.proofs.lemmas.List.{length-append, length-map}
use Rattle.std.proofs.lemmas.List.Elements.{filter-append, filter_agree}
use Rattle.std.proofs.lemmas.Nat.{div-add-mod'}
use Rattle.std.proofs.lemmas.Option.{slice_get-map}
use Rattle.pl_wiring.specs.Labels.{switch_count}
use Rattle.pl_queues.specs.Queues.{filled_indices, has_items, items_at}
use Rattle.pl_queue_array.proofs.Exports.{slice_get_left, slice_get_right}
use Rattle.pl_world.specs.declared.event.QueueName.{QueueName}
use Rattle.pl_world.specs.Flying.{IsFormed}
use Rattle.pl_world.specs.QueueOrder.{filled_queues, host_queue, host_queues, order_queue, port_queue, queue_order, queues_out_of, report_queue, switch_numbers}
use Rattle.pl_world.specs.Refusals.{is_filled}
use Rattle.pl_world.specs.Worlds.{WorldView}
use Rattle.pl_schedule.proofs.QueueLists.{ports_in_a_row}

map_chosen : {A B : Type 0} (f : A → B) (b : Bool) (x : A) (xs : List A) → cond b (f x ∷ map f xs) (map f xs) ≡ map f (cond b (x ∷ xs) xs)
map_chosen f true x xs = refl
map_chosen f false x xs = refl

filter_map : {A B : Type 0} (p : B → Bool) (f : A → B) (xs : List A) → filter p (map f xs) ≡ map f (filter (λ x. p (f x)) xs)
filter_map p f [] = refl
filter_map p f (x ∷ xs) =
    ap (λ l. cond (p (f x)) (f x ∷ l) l) (filter_map p f xs) ∙ map_chosen f (p (f x)) x (filter (λ y. p (f y)) xs)

-- names of the indices of a queue array, and others behind them
module _ {A : Type 0} (f : ℕ → A) (indices : List ℕ) (rest : List A) where
  in_front : (i : ℕ) → i < length indices → option_map f (slice_get indices i) ≡ slice_get (map f indices ++ rest) i
  in_front i within = sym (slice_get-map f indices i) ∙ sym (slice_get_left (map f indices) rest i (omega (arith, within, length-map indices f)))

  behind : (i n : ℕ) → n ≡ length indices → n ≤ i → slice_get rest (i - n) ≡ slice_get (map f indices ++ rest) i
  behind i n many past =
      ap (λ m. slice_get rest (i - m)) (many ∙ sym (length-map indices f))
      ∙ sym (slice_get_right (map f indices) rest i (omega (arith, many, past, length-map indices f)))

  length_of_both : length (map f indices ++ rest) ≡ length indices + length rest
  length_of_both = let both = length-append (map f indices) rest in omega (arith, both, length-map indices f)

module _ (w : WorldView) where
  abbrev hosts : List ℕ
  hosts = filled_indices w.from_hosts

  abbrev ports : List ℕ
  ports = filled_indices w.out

  abbrev reports : List ℕ
  reports = filled_indices w.to_manager

  abbrev orders : List ℕ
  orders = filled_indices w.from_manager

  abbrev of_manager : List QueueName
  of_manager = map report_queue reports ++ map order_queue orders

  abbrev behind_hosts : List QueueName
  behind_hosts = map (port_queue w.plan.k) ports ++ of_manager

  -- the indices of a queue array of n queues, whose names pass where their queues have items
  queue_array_is : {T : Type 0} (name : ℕ → QueueName) (queue_array : List (List T)) (n : ℕ) → ((at : ℕ) → is_filled w (name at) ≡ has_items (items_at queue_array at))
      → length queue_array ≡ n → filter (is_filled w) (map name (range_with_len 0 n)) ≡ map name (filled_indices queue_array)
  queue_array_is name queue_array n same long =
      filter_map (is_filled w) name (range_with_len 0 n)
      ∙ ap (map name) (filter_agree (λ at. is_filled w (name at)) (λ at. has_items (items_at queue_array at)) same (range_with_len 0 n))
      ∙ ap (λ m. map name (filter (λ at. has_items (items_at queue_array at)) (range_with_len 0 m))) (sym long)

  module _ (formed : IsFormed w) where
    hosts_are : filter (is_filled w) (host_queues w.plan) ≡ map host_queue hosts
    hosts_are = queue_array_is host_queue w.from_hosts (length w.plan.hosts) (λ at. refl) formed.from_hosts

    ports_are : filter (is_filled w) (flat_map (queues_out_of w.plan.k) (switch_numbers w.plan)) ≡ map (port_queue w.plan.k) ports
    ports_are =
        ap (filter (is_filled w)) (ports_in_a_row w.plan (omega (arith, formed.plan.arity.least)))
        ∙ queue_array_is (port_queue w.plan.k) w.out (switch_count w.plan.k * w.plan.k) (λ at. ap (λ index. has_items (items_at w.out index)) (div-add-mod' at w.plan.k)) formed.out

    reports_are : filter (is_filled w) (map report_queue (switch_numbers w.plan)) ≡ map report_queue reports
    reports_are = queue_array_is report_queue w.to_manager (switch_count w.plan.k) (λ at. refl) formed.to_manager

    orders_are : filter (is_filled w) (map order_queue (switch_numbers w.plan)) ≡ map order_queue orders
    orders_are = queue_array_is order_queue w.from_manager (switch_count w.plan.k) (λ at. refl) formed.from_manager

    abbrev port_names : List QueueName
    port_names = flat_map (queues_out_of w.plan.k) (switch_numbers w.plan)

    abbrev report_names : List QueueName
    report_names = map report_queue (switch_numbers w.plan)

    abbrev order_names : List QueueName
    order_names = map order_queue (switch_numbers w.plan)

    all_are : filled_queues w ≡ map host_queue hosts ++ behind_hosts
    unfolding queue_order
    all_are =
        filter-append (is_filled w) (host_queues w.plan) (port_names ++ (report_names ++ order_names))
        ∙ ap (λ l. l ++ filter (is_filled w) (port_names ++ (report_names ++ order_names))) hosts_are
        ∙ ap (λ l. map host_queue hosts ++ l) (
        filter-append (is_filled w) port_names (report_names ++ order_names)
        ∙ ap (λ l. l ++ filter (is_filled w) (report_names ++ order_names)) ports_are
        ∙ ap (λ l. map (port_queue w.plan.k) ports ++ l) (
        filter-append (is_filled w) report_names order_names
        ∙ ap (λ l. l ++ filter (is_filled w) order_names) reports_are
        ∙ ap (λ l. map report_queue reports ++ l) orders_are
        )
        )

    pub count_of_all : length hosts + length ports + length reports + length orders ≡ length (filled_queues w)
    count_of_all =
        let all = ap length all_are in
        let first = length_of_both host_queue hosts behind_hosts in
        let second = length_of_both (port_queue w.plan.k) ports of_manager in
        let third = length_of_both report_queue reports (map order_queue orders) in
        omega (arith, all, first, second, third, length-map orders order_queue)

    -- number i of them, where h hosts' queues have items, p queues out of ports, and r to the manager
    module _ (i h p r : ℕ) (hosts_many : h ≡ length hosts) (ports_many : p ≡ length ports) (reports_many : r ≡ length reports) where
      pub at_host : i < h → option_map host_queue (slice_get hosts i) ≡ slice_get (filled_queues w) i
      at_host within = in_front host_queue hosts behind_hosts i (omega (arith, within, hosts_many)) ∙ ap (λ l. slice_get l i) (sym all_are)

      past_hosts : h ≤ i → slice_get behind_hosts (i - h) ≡ slice_get (filled_queues w) i
      past_hosts past = behind host_queue hosts behind_hosts i h hosts_many past ∙ ap (λ l. slice_get l i) (sym all_are)

      pub at_port : h ≤ i → i - h < p → option_map (port_queue w.plan.k) (slice_get ports (i - h)) ≡ slice_get (filled_queues w) i
      at_port past within = in_front (port_queue w.plan.k) ports of_manager (i - h) (omega (arith, within, ports_many)) ∙ past_hosts past

      past_ports : h ≤ i → p ≤ i - h → slice_get of_manager (i - h - p) ≡ slice_get (filled_queues w) i
      past_ports past further = behind (port_queue w.plan.k) ports of_manager (i - h) p ports_many further ∙ past_hosts past

      pub at_report : h ≤ i → p ≤ i - h → i - h - p < r → option_map report_queue (slice_get reports (i - h - p)) ≡ slice_get (filled_queues w) i
      at_report past further within =
          in_front report_queue reports (map order_queue orders) (i - h - p) (omega (arith, within, reports_many)) ∙ past_ports past further

      pub at_order : h ≤ i → p ≤ i - h → r ≤ i - h - p → option_map order_queue (slice_get orders (i - h - p - r)) ≡ slice_get (filled_queues w) i
      at_order past further beyond =
          sym (slice_get-map order_queue orders (i - h - p - r))
          ∙ behind report_queue reports (map order_queue orders) (i - h - p) r reports_many beyond ∙ past_ports past further
