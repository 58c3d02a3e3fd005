-- The next queue with items, found queue array by queue array.
use Rattle.std.proofs.Common.{◌≡◌, ℕ, ◌+◌, ◌-◌, ◌*◌, ◌/◌, ◌%◌, ◌<◌, ◌≤◌, Bool, true, false, ◌&&◌, ltb, List, length, Option, Some, None, IfSome, MatchOption, refl, sym, ap, subst, ◌∙◌, inl, inr, zero-add, arith}
use Rattle.std.specs.Option.{option_map}
use Rattle.std.proofs.lemmas.Bool.{cases_lt, lt-ltb, le-ltb}
use Rattle.std.proofs.lemmas.Nat.{div-add-mod', div_below, mod_below}
use Rattle.pl_wiring.specs.Labels.{switch_count}
use Rattle.pl_wiring.specs.Plan.{Plan}
use Rattle.pl_world.specs.declared.event.QueueName.TheVariants as queue
use Rattle.pl_queue_array.specs.Bits.{IsLeast}
use Rattle.pl_queues.specs.Queues.{has_items, items_at, next_filled, next_index}
use Rattle.pl_queue_array.proofs.Exports.{next_index_is_least}
use Rattle.pl_world.specs.Changes.{host_no, switch_no}
use Rattle.pl_world.specs.Flying.{IsFormed}
use Rattle.pl_world.specs.QueueOrder.{first_from_manager, first_out, first_to_manager, has_items_at, next_in, next_queue, port_queue, queue_at, queue_count}
use Rattle.pl_world.specs.Refusals.{has_queue, is_filled, refusal_of_queue}
use Rattle.pl_world.specs.Worlds.{WorldView}

module _ (test : ℕ → Bool) (from : ℕ) where
  -- the answer is the first number that passes, of those from `from` on and from `low` to `high`
  abbrev pub IsFirst : ℕ → ℕ → Option ℕ → Type 0
  IsFirst low high answer = MatchOption answer
      ((k : ℕ) → from ≤ k → low ≤ k → k < high → test k ≡ false)
      (λ n. (low ≤ n) × (n < high) × (from ≤ n) × (test n ≡ true) × ((k : ℕ) → from ≤ k → low ≤ k → k < n → test k ≡ false))

  -- where none of the first numbers passes, the answer for those behind them is that for all
  pub first_behind : (low mid high : ℕ) (answer : Option ℕ) → low ≤ mid → IsFirst low mid None → IsFirst mid high answer → IsFirst low high answer
  first_behind low mid high None rise none first = λ k late above below. elim (cases_lt k mid) [
    | inl before ↦ none k late above before
    | inr behind ↦ first k late behind below
  ]
  first_behind low mid high (Some n) rise none first = (
    omega (arith, first.0),
    first.1,
    first.2,
    first.3,
    λ k late above below. elim (cases_lt k mid) [
      | inl before ↦ none k late above before
      | inr behind ↦ first.4 k late behind below
    ],
  )

  -- what is found among the first numbers is found among all
  pub first_before : (low mid high n : ℕ) → mid ≤ high → IsFirst low mid (Some n) → IsFirst low high (Some n)
  first_before low mid high n rise first = (first.0, omega (arith, first.1), first.2, first.3, first.4)

  same_first : (high : ℕ) (a b : Option ℕ) → IsFirst 0 high a
      → MatchOption b ((k : ℕ) → from ≤ k → k < high → test k ≡ false) (λ n. IsLeast test from n × (n < high)) → a ≡ b
  same_first high None None first next = refl
  same_first high None (Some n) first next =
      let low = next.0.reached in
      let fails = first n low (omega arith) next.1 in
      let passes = next.0.passes in absurd (cc)
  same_first high (Some m) None first next =
      let fails = next m first.2 first.1 in
      let passes = first.3 in absurd (cc)
  same_first high (Some m) (Some n) first next = elim (cases_lt m n) [
    | inl less ↦ (let fails = next.0.least m first.2 less in let passes = first.3 in absurd (cc))
    | inr more ↦ elim (cases_lt n m) [
      | inl less ↦ (let fails = first.4 n next.0.reached (omega arith) less in let passes = next.0.passes in absurd (cc))
      | inr even ↦ ap (λ x. Some x) (omega arith)
    ]
  ]

  pub first_is_next : (high : ℕ) (answer : Option ℕ) → IsFirst 0 high answer → answer ≡ next_index test high from
  first_is_next high answer first =
      same_first high answer (next_index test high from) first (next_index_is_least test high from (next_index test high from) refl)

  -- a queue array whose queues have the numbers from `first` on
  pub first_in_queue_array : {T : Type 0} (first : ℕ) (queue_array : List (List T)) (answer : Option ℕ)
      → ((index : ℕ) → index < length queue_array → test (first + index) ≡ has_items (items_at queue_array index))
      → answer ≡ next_in first queue_array from → IsFirst first (first + length queue_array) answer
  first_in_queue_array first queue_array answer same is =
      subst (IsFirst first (first + length queue_array)) (sym is)
      (found (next_filled queue_array (from - first)) (next_index_is_least (λ at. has_items (items_at queue_array at)) (length queue_array) (from - first) (next_filled queue_array (from - first)) refl))
    where
      at_index : (k : ℕ) → first ≤ k → k < first + length queue_array → test k ≡ has_items (items_at queue_array (k - first))
      at_index k above below =
          let back : k ≡ first + (k - first) = omega arith in
          ap test back ∙ same (k - first) (omega arith)

      found : (o : Option ℕ)
          → MatchOption o ((k : ℕ) → from - first ≤ k → k < length queue_array → has_items (items_at queue_array k) ≡ false)
          (λ at. IsLeast (λ at. has_items (items_at queue_array at)) (from - first) at × (at < length queue_array))
          → IsFirst first (first + length queue_array) (option_map (λ index. first + index) o)
      found None h = λ k late above below. at_index k above below ∙ h (k - first) (omega arith) (omega arith)
      found (Some index) h =
          let reached = h.0.reached in (
            omega arith,
            omega (arith, h.1),
            omega arith,
            same index h.1 ∙ h.0.passes,
            λ k late above below. at_index k above (omega (arith, h.1)) ∙ h.0.least (k - first) (omega arith) (omega arith),
          )

-- the queues of a number
module _ (plan : Plan) where
  pub queue_at-host : (n : ℕ) → n < first_out plan → queue_at plan n ≡ queue.FromHost (host_no n)
  queue_at-host n h = rw (lt-ltb n (first_out plan) h) refl

  pub queue_at-out : (index : ℕ) → index < switch_count plan.k * plan.k → queue_at plan (first_out plan + index) ≡ port_queue plan.k index
  queue_at-out index h =
      let back : first_out plan + index - first_out plan ≡ index = omega arith in
      rw (le-ltb (first_out plan + index) (first_out plan) (omega arith), lt-ltb (first_out plan + index) (first_to_manager plan) (omega arith), back) refl

  pub queue_at-to_manager : (s : ℕ) → s < switch_count plan.k → queue_at plan (first_to_manager plan + s) ≡ queue.ToManager (switch_no s)
  queue_at-to_manager s h =
      let back : first_to_manager plan + s - first_to_manager plan ≡ s = omega arith in
      rw (
        le-ltb (first_to_manager plan + s) (first_out plan) (omega arith),
        le-ltb (first_to_manager plan + s) (first_to_manager plan) (omega arith),
        lt-ltb (first_to_manager plan + s) (first_from_manager plan) (omega arith),
        back,
      ) refl

  pub queue_at-from_manager : (s : ℕ) → queue_at plan (first_from_manager plan + s) ≡ queue.FromManager (switch_no s)
  queue_at-from_manager s =
      let back : first_from_manager plan + s - first_from_manager plan ≡ s = omega arith in
      rw (
        le-ltb (first_from_manager plan + s) (first_out plan) (omega arith),
        le-ltb (first_from_manager plan + s) (first_to_manager plan) (omega arith),
        le-ltb (first_from_manager plan + s) (first_from_manager plan) (omega arith),
        back,
      ) refl

-- each queue array of a world has the queues of its numbers
module _ (w : WorldView) (formed : IsFormed w) where
  items_from_host : (index : ℕ) → index < length w.from_hosts → has_items_at w (0 + index) ≡ has_items (items_at w.from_hosts index)
  items_from_host index h =
      ap (has_items_at w) (zero-add index)
      ∙ ap (is_filled w) (queue_at-host w.plan index (omega (arith, h, formed.from_hosts)))

  items_out : (index : ℕ) → index < length w.out → has_items_at w (first_out w.plan + index) ≡ has_items (items_at w.out index)
  items_out index h =
      ap (is_filled w) (queue_at-out w.plan index (omega (arith, h, formed.out)))
      ∙ ap (λ at. has_items (items_at w.out at)) (div-add-mod' index w.plan.k)

  items_to_manager : (s : ℕ) → s < length w.to_manager → has_items_at w (first_to_manager w.plan + s) ≡ has_items (items_at w.to_manager s)
  items_to_manager s h =
      ap (is_filled w) (queue_at-to_manager w.plan s (omega (arith, h, formed.to_manager)))

  items_from_manager : (s : ℕ) → s < length w.from_manager → has_items_at w (first_from_manager w.plan + s) ≡ has_items (items_at w.from_manager s)
  items_from_manager s h =
      ap (is_filled w) (queue_at-from_manager w.plan s)

  module _ (from : ℕ) where
    first_of_hosts : (answer : Option ℕ) → answer ≡ next_in 0 w.from_hosts from → IsFirst (has_items_at w) from 0 (first_out w.plan) answer
    first_of_hosts answer is =
        subst (λ high. IsFirst (has_items_at w) from 0 high answer) (omega (arith, formed.from_hosts))
        (first_in_queue_array (has_items_at w) from 0 w.from_hosts answer items_from_host is)

    first_of_ports : (answer : Option ℕ) → answer ≡ next_in (first_out w.plan) w.out from
        → IsFirst (has_items_at w) from (first_out w.plan) (first_to_manager w.plan) answer
    first_of_ports answer is =
        subst (λ many. IsFirst (has_items_at w) from (first_out w.plan) (first_out w.plan + many) answer) formed.out
        (first_in_queue_array (has_items_at w) from (first_out w.plan) w.out answer items_out is)

    first_of_reports : (answer : Option ℕ) → answer ≡ next_in (first_to_manager w.plan) w.to_manager from
        → IsFirst (has_items_at w) from (first_to_manager w.plan) (first_from_manager w.plan) answer
    first_of_reports answer is =
        subst (λ many. IsFirst (has_items_at w) from (first_to_manager w.plan) (first_to_manager w.plan + many) answer) formed.to_manager
        (first_in_queue_array (has_items_at w) from (first_to_manager w.plan) w.to_manager answer items_to_manager is)

    first_of_orders : (answer : Option ℕ) → answer ≡ next_in (first_from_manager w.plan) w.from_manager from
        → IsFirst (has_items_at w) from (first_from_manager w.plan) (queue_count w.plan) answer
    first_of_orders answer is =
        subst (λ many. IsFirst (has_items_at w) from (first_from_manager w.plan) (first_from_manager w.plan + many) answer) formed.from_manager
        (first_in_queue_array (has_items_at w) from (first_from_manager w.plan) w.from_manager answer items_from_manager is)

    -- the answer of a queue array is that of all, where the queue arrays before it have none
    at_host : (n : ℕ) → Some n ≡ next_in 0 w.from_hosts from → IsFirst (has_items_at w) from 0 (queue_count w.plan) (Some n)
    at_host n hosts = first_before (has_items_at w) from 0 (first_out w.plan) (queue_count w.plan) n (omega arith) (first_of_hosts (Some n) hosts)

    at_port : (n : ℕ) → None ≡ next_in 0 w.from_hosts from → Some n ≡ next_in (first_out w.plan) w.out from
        → IsFirst (has_items_at w) from 0 (queue_count w.plan) (Some n)
    at_port n hosts ports =
        first_before (has_items_at w) from 0 (first_to_manager w.plan) (queue_count w.plan) n (omega arith)
        (first_behind (has_items_at w) from 0 (first_out w.plan) (first_to_manager w.plan) (Some n) (omega arith) (first_of_hosts None hosts) (first_of_ports (Some n) ports))

    no_frame : None ≡ next_in 0 w.from_hosts from → None ≡ next_in (first_out w.plan) w.out from
        → IsFirst (has_items_at w) from 0 (first_to_manager w.plan) None
    no_frame hosts ports =
        first_behind (has_items_at w) from 0 (first_out w.plan) (first_to_manager w.plan) None (omega arith) (first_of_hosts None hosts) (first_of_ports None ports)

    at_report : (n : ℕ) → None ≡ next_in 0 w.from_hosts from → None ≡ next_in (first_out w.plan) w.out from
        → Some n ≡ next_in (first_to_manager w.plan) w.to_manager from → IsFirst (has_items_at w) from 0 (queue_count w.plan) (Some n)
    at_report n hosts ports reports =
        first_before (has_items_at w) from 0 (first_from_manager w.plan) (queue_count w.plan) n (omega arith)
        (first_behind (has_items_at w) from 0 (first_to_manager w.plan) (first_from_manager w.plan) (Some n) (omega arith) (no_frame hosts ports)
        (first_of_reports (Some n) reports))

    at_order : (answer : Option ℕ) → None ≡ next_in 0 w.from_hosts from → None ≡ next_in (first_out w.plan) w.out from
        → None ≡ next_in (first_to_manager w.plan) w.to_manager from → answer ≡ next_in (first_from_manager w.plan) w.from_manager from
        → IsFirst (has_items_at w) from 0 (queue_count w.plan) answer
    at_order answer hosts ports reports orders =
        first_behind (has_items_at w) from 0 (first_from_manager w.plan) (queue_count w.plan) answer (omega arith)
        (first_behind (has_items_at w) from 0 (first_to_manager w.plan) (first_from_manager w.plan) None (omega arith) (no_frame hosts ports)
        (first_of_reports None reports))
        (first_of_orders answer orders)

-- each number below the count is that of a queue that the wiring has
queue_is_there : (plan : Plan) (n : ℕ) → 0 < plan.k → n < queue_count plan → has_queue plan (queue_at plan n) ≡ true
queue_is_there plan n ports within = elim (cases_lt n (first_out plan)) [
  | inl host ↦ ap (has_queue plan) (queue_at-host plan n host) ∙ lt-ltb n (first_out plan) host
  | inr past ↦ elim (cases_lt n (first_to_manager plan)) [
    | inl out ↦
        let index : ℕ = n - first_out plan in
        let low : index < switch_count plan.k * plan.k = omega arith in
        ap (λ m. has_queue plan (queue_at plan m)) (omega arith) ∙ ap (has_queue plan) (queue_at-out plan index low)
        ∙ ap (λ b. b && ltb (index % plan.k) plan.k) (lt-ltb (index / plan.k) (switch_count plan.k) (div_below index plan.k (switch_count plan.k) ports low))
        ∙ lt-ltb (index % plan.k) plan.k (mod_below index plan.k ports)
    | inr beyond ↦ elim (cases_lt n (first_from_manager plan)) [
      | inl report ↦
          let s : ℕ = n - first_to_manager plan in
          let low : s < switch_count plan.k = omega arith in
          ap (λ m. has_queue plan (queue_at plan m)) (omega arith) ∙ ap (has_queue plan) (queue_at-to_manager plan s low) ∙ lt-ltb s (switch_count plan.k) low
      | inr last ↦
          let s : ℕ = n - first_from_manager plan in
          let low : s < switch_count plan.k = omega arith in
          ap (λ m. has_queue plan (queue_at plan m)) (omega arith) ∙ ap (has_queue plan) (queue_at-from_manager plan s) ∙ lt-ltb s (switch_count plan.k) low
    ]
  ]
]

not_refused : (there filled : Bool) → there ≡ true → filled ≡ true → refusal_of_queue there filled ≡ None
not_refused true true there some = refl
not_refused true false there some = absurd (cc)
not_refused false filled there some = absurd (cc)

-- what is found is there, and has items
abbrev pub Waits : WorldView → ℕ → ℕ → Type 0
Waits w from n =
    (from ≤ n) × (n < queue_count w.plan) × (refusal_of_queue (has_queue w.plan (queue_at w.plan n)) (is_filled w (queue_at w.plan n)) ≡ None)

module _ (w : WorldView) (formed : IsFormed w) (from : ℕ) where
  it_waits : (n : ℕ) → IsFirst (has_items_at w) from 0 (queue_count w.plan) (Some n) → Waits w from n
  it_waits n first =
      let ports : 0 < w.plan.k = omega (arith, formed.plan.arity.least) in (
        first.2,
        first.1,
        not_refused (has_queue w.plan (queue_at w.plan n)) (is_filled w (queue_at w.plan n)) (queue_is_there w.plan n ports first.1) first.3,
      )

  abbrev pub IsAnswer : Option ℕ → Type 0
  IsAnswer answer = (answer ≡ next_queue w from) × IfSome answer (Waits w from)

  is_answer : (answer : Option ℕ) → IsFirst (has_items_at w) from 0 (queue_count w.plan) answer → IsAnswer answer
  is_answer None first = (first_is_next (has_items_at w) from (queue_count w.plan) None first, tt)
  is_answer (Some n) first = (first_is_next (has_items_at w) from (queue_count w.plan) (Some n) first, it_waits n first)

  pub at_host_answers : (n : ℕ) → Some n ≡ next_in 0 w.from_hosts from → IsAnswer (Some n)
  at_host_answers n hosts = is_answer (Some n) (at_host w formed from n hosts)

  pub at_port_answers : (n : ℕ) → None ≡ next_in 0 w.from_hosts from → Some n ≡ next_in (first_out w.plan) w.out from → IsAnswer (Some n)
  at_port_answers n hosts ports = is_answer (Some n) (at_port w formed from n hosts ports)

  pub at_report_answers : (n : ℕ) → None ≡ next_in 0 w.from_hosts from → None ≡ next_in (first_out w.plan) w.out from
      → Some n ≡ next_in (first_to_manager w.plan) w.to_manager from → IsAnswer (Some n)
  at_report_answers n hosts ports reports = is_answer (Some n) (at_report w formed from n hosts ports reports)

  pub at_order_answers : (answer : Option ℕ) → None ≡ next_in 0 w.from_hosts from → None ≡ next_in (first_out w.plan) w.out from
      → None ≡ next_in (first_to_manager w.plan) w.to_manager from → answer ≡ next_in (first_from_manager w.plan) w.from_manager from → IsAnswer answer
  at_order_answers answer hosts ports reports orders = is_answer answer (at_order w formed from answer hosts ports reports orders)
