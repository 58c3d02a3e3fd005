-- The number of stale items that the switches keep.
use Rattle.std.proofs.Common.{◌≡◌, ℕ, ◌+◌, ◌-◌, ◌*◌, ◌<◌, ◌≤◌, Bool, Option, None, Some, MatchOption, List, [], ◌∷◌, ◌++◌, cond, count_by, get_or, length, map, slice_get, slice_set, option_to_list, replicate, zero, suc, refl, sym, ap, ◌∙◌, subst, lt_of_mul-lt-mul_right, arith}
use Rattle.std.specs.List.{AllByRecursion}
use Rattle.std.proofs.Math.ListN.{length-map}
use Rattle.std.proofs.lemmas.List.{length-replicate, length-set}
use Rattle.std.proofs.lemmas.List.Sums.{sum_by-cons, sum_by_push}
use Rattle.pl_frame.specs.declared.address.SwitchId.{SwitchId}
use Rattle.pl_wiring.specs.Index.{port_index}
use Rattle.pl_wiring.proofs.Exports.{port_index-below}
use Rattle.pl_node.specs.SwitchFacts.{switch_at_boot}
use Rattle.pl_node.specs.SwitchViews.{SwitchView}
use Rattle.pl_queues.specs.Counts.{counted_in}
use Rattle.pl_queues.specs.Queues.{items_at, put_at}
use Rattle.pl_world.specs.declared.item.Item.{Item}
use Rattle.pl_world.specs.Flying.{IsFormed}
use Rattle.pl_world_parts.specs.OneStep.{IsOneChanged, sizes}
use Rattle.pl_world_parts.specs.QueueIndices.{IsQueueIndex}
use Rattle.pl_world.specs.Pending.{HasQueues, KeepsStale, SwitchesView, is_control_item, is_order, is_report, is_stale, pending, stale, stale_at, stale_in}
use Rattle.pl_world.specs.Worlds.{WorldView}
use Rattle.pl_world.proofs.Exports.{all_found}
use Rattle.pl_world_parts.proofs.OneChanged.{found-map}
use Rattle.pl_world_parts.proofs.Stale.{none_stale, queue_changes, queue_le, stale_by_wiring, stale_fits, switch_changes, switch_le}
use Rattle.pl_world_parts.proofs.Stepping.{sizes_many, sizes_same}

abbrev pub all_switches : ℕ → List SwitchView → List (List Item) → SwitchesView
all_switches k switches out = record { k = k; switches = switches; out = out }

module _ (k : ℕ) (switches : List SwitchView) (out : List (List Item)) where
  -- an index is one of a switch
  pub switch_is_there : (s port at : ℕ) → HasQueues (all_switches k switches out) → port_index k s port ≡ at → at < length out → s < length switches
  switch_is_there s port at has index there = lt_of_mul-lt-mul_right k (omega (arith, index, there, has.queues))

  pub kept_fits : (kept : ℕ) → KeepsStale (all_switches k switches out) kept → kept ≤ counted_in is_control_item out
  kept_fits kept keeps = let fits = stale_fits k out switches keeps.queues.queues in omega (arith, fits, keeps.is)

  pub same_size : (s : ℕ) (v : SwitchView) → HasQueues (all_switches k switches out) → slice_get switches s ≡ Some v → v.k ≡ k
  same_size s v has found = all_found (λ v. v.k ≡ k) switches s v found has.ports

  module _ (s port at kept : ℕ) (v : SwitchView) (keeps : KeepsStale (all_switches k switches out) kept) (found : slice_get switches s ≡ Some v)
      (index : IsQueueIndex (all_switches k switches out) s port at) where
    -- a queue becomes another
    changed : (new : List (List Item)) (queue : List Item) → new ≡ slice_set out at queue →
        stale k switches new + count_by (is_stale v port) (items_at out at) ≡ stale k switches out + count_by (is_stale v port) queue
    changed new queue same =
        let low = switch_is_there s port at keeps.queues index.is index.there in
        let all = queue_changes k switches out s port at queue index.within index.is index.there low in
        let was : stale_in (slice_get switches s) port (items_at out at) ≡ count_by (is_stale v port) (items_at out at) =
        ap (λ o. stale_in o port (items_at out at)) found in
        let is : stale_in (slice_get switches s) port queue ≡ count_by (is_stale v port) queue = ap (λ o. stale_in o port queue) found in
        let here : stale k switches new ≡ stale k switches (slice_set out at queue) = ap (stale k switches) same in
        omega (arith, all, was, is, here)

    keeps_with : (new : List (List Item)) (queue : List Item) (after : ℕ) → new ≡ slice_set out at queue →
        after + count_by (is_stale v port) (items_at out at) ≡ kept + count_by (is_stale v port) queue → KeepsStale (all_switches k switches new) after
    keeps_with new queue after same moved =
        let sum = changed new queue same in
        record {
          queues = record { ports = keeps.queues.ports; queues = ap length same ∙ length-set out at queue ∙ keeps.queues.queues };
          is = omega (arith, sum, moved, keeps.is);
        }

    pub line_le : count_by (is_stale v port) (items_at out at) ≤ kept
    line_le =
        let low = switch_is_there s port at keeps.queues index.is index.there in
        let all = queue_le k switches out s port at index.within index.is low in
        let was : stale_in (slice_get switches s) port (items_at out at) ≡ count_by (is_stale v port) (items_at out at) =
        ap (λ o. stale_in o port (items_at out at)) found in
        omega (arith, all, was, keeps.is)

    pub keeps_put : (new : List (List Item)) (item : Item) (b : Bool) (more : ℕ) → new ≡ put_at out at item → more ≡ cond b 1 0 →
        b ≡ is_stale v port item → KeepsStale (all_switches k switches new) (kept + more)
    keeps_put new item b more same one is =
        let push = sum_by_push (λ i. cond (is_stale v port i) 1 0) (items_at out at) item in
        let here : ◌≡◌ {A = ℕ} (cond b 1 0) (cond (is_stale v port item) 1 0) = ap (λ c. cond c 1 0) is in
        keeps_with new (items_at out at ++ item ∷ []) (kept + more) same (omega (arith, push, one, here))

    abbrev pub IsTaken : List (List Item) → Option Item → Type 0
    IsTaken new taken = MatchOption taken ((items_at out at ≡ []) × (new ≡ out)) (λ x. (items_at out at ≡ x ∷ items_at new at) × (new ≡ slice_set out at (items_at new at)))

    one_more : (x : Item) (queue : List Item) → items_at out at ≡ x ∷ queue →
        count_by (is_stale v port) (items_at out at) ≡ count_by (is_stale v port) (x ∷ []) + count_by (is_stale v port) queue
    one_more x queue head =
        let whole = ap (count_by (is_stale v port)) head in
        let parts = sum_by-cons (λ i. cond (is_stale v port i) 1 0) x queue in
        let one = sum_by-cons (λ i. cond (is_stale v port i) 1 0) x [] in
        omega (arith, whole, parts, one)

    pub taken_le : (new : List (List Item)) (taken : Option Item) (less : ℕ) → IsTaken new taken →
        less ≡ count_by (is_stale v port) (option_to_list taken) → less ≤ kept
    taken_le new None less h is = omega (arith, is)
    taken_le new (Some x) less h is = let fits = line_le in let head = one_more x (items_at new at) h.0 in omega (arith, fits, head, is)

    pub keeps_take : (new : List (List Item)) (taken : Option Item) (less : ℕ) → IsTaken new taken →
        less ≡ count_by (is_stale v port) (option_to_list taken) → KeepsStale (all_switches k switches new) (kept - less)
    keeps_take new None less h is =
        let same : kept - less ≡ kept = omega (arith, is) in
        subst (λ o. KeepsStale (all_switches k switches o) (kept - less)) (sym h.1) (subst (KeepsStale (all_switches k switches out)) (sym same) keeps)
    keeps_take new (Some x) less h is =
        let fits = line_le in
        let head = one_more x (items_at new at) h.0 in
        keeps_with new (items_at new at) (kept - less) h.1 (omega (arith, fits, head, is))

  -- a switch steps, and what was and what is stale in its queues is counted
  module _ (s kept first last : ℕ) (new : List SwitchView) (keeps : KeepsStale (all_switches k switches out) kept) (low : s < length switches)
      (same : sizes new ≡ sizes switches) where
    pub queues_kept : HasQueues (all_switches k new out)
    queues_kept = record {
      ports = sizes_same k switches new same keeps.queues.ports;
      queues = keeps.queues.queues ∙ ap (λ n. n * k) (sym (sizes_many switches new same));
    }

    pub first_le : first ≡ stale_at k switches out s → first ≤ kept
    first_le was = let fits = switch_le k switches out s low in omega (arith, fits, was, keeps.is)

    pub keeps_step : IsOneChanged switches s new → first ≡ stale_at k switches out s → last ≡ stale_at k new out s →
        KeepsStale (all_switches k new out) (kept - first + last)
    keeps_step one was is =
        let fits = first_le was in
        let all = switch_changes k switches out s new one.0 one.1 low in
        record { queues = queues_kept; is = omega (arith, fits, all, was, is, keeps.is) }

    pub step_fits : IsOneChanged switches s new → first ≡ stale_at k switches out s → last ≡ stale_at k new out s →
        kept - first + last ≤ counted_in is_control_item out
    step_fits one was is =
        let fits = first_le was in
        let all = switch_changes k switches out s new one.0 one.1 low in
        let most = stale_fits k out new queues_kept.queues in
        omega (arith, fits, all, was, is, most, keeps.is)

-- at first nothing is stale
pub none_stale_yet : (k : ℕ) (switches : List SwitchView) (out : List (List Item)) (n : ℕ) → AllByRecursion (λ v. v.k ≡ k) switches → length switches * k ≡ n →
    out ≡ replicate n [] → KeepsStale (all_switches k switches out) 0
none_stale_yet k switches out n ports many empty =
    let queues : length out ≡ length switches * k = ap length empty ∙ length-replicate n [] ∙ sym many in
    record { queues = record { ports = ports; queues = queues }; is = sym (none_stale k n switches out queues empty) }

-- a switch is there, and has a port
module _ {T : Type 0} (view : T → SwitchView) (k : ℕ) (devices : List T) (out : List (List Item)) (f : SwitchesView) (s : ℕ) (device : T)
    (seen : all_switches k (map view devices) out ≡ f) (low : s < length f.switches) (here : device ≡ get_or devices s device) where
  pub device_found : slice_get (map view devices) s ≡ Some (view device)
  device_found =
      let many = length-map devices view in
      let same = ap (λ a. length a.switches) seen in
      found-map view devices s device (omega (arith, low, many, same)) (sym here)

  pub port_there : (port : ℕ) → ((v : SwitchView) → slice_get f.switches s ≡ Some v → port < v.k) → port < (view device).k
  port_there port within = within (view device) (ap (λ a. slice_get a.switches s) (sym seen) ∙ device_found)

-- so the queue out of the port is there
port_below : (k s port : ℕ) (switches : List SwitchView) → AllByRecursion (λ v. v.k ≡ k) switches → s < length switches →
    ((v : SwitchView) → slice_get switches s ≡ Some v → port < v.k) → port < k
port_below k s port [] ports low within = absurd (omega (arith, low))
port_below k zero port (v ∷ switches) ports low within = let here = within v refl in omega (arith, here, ports.0)
port_below k (suc s) port (v ∷ switches) ports low within = port_below k s port switches ports.1 (omega (arith, low)) within

pub queue_is_there : (f : SwitchesView) (s port k : ℕ) → HasQueues f → k ≡ f.k → s < length f.switches →
    ((v : SwitchView) → slice_get f.switches s ≡ Some v → port < v.k) → IsQueueIndex f s port (port_index k s port)
queue_is_there f s port k has size low within =
    let below = port_below f.k s port f.switches has.ports low within in
    let fits = port_index-below f.k s port (length f.switches) low below in
    let same : port_index k s port ≡ port_index f.k s port = ap (λ n. port_index n s port) size in
    record { within = below; is = sym same; there = omega (arith, fits, same, has.queues) }

-- the three counts together, as the world sees them
pub pending_seen : (f : SwitchesView) (v w : WorldView) (a b c : ℕ) → v ≡ w → IsFormed v → HasQueues f → f.switches ≡ v.switches → f.out ≡ v.out →
    a ≡ stale f.k f.switches f.out → b ≡ counted_in is_report v.to_manager → c ≡ counted_in is_order v.from_manager → a + b + c ≡ pending w
pending_seen f v w a b c same formed has switches out first told said =
    let ports : AllByRecursion (λ u. u.k ≡ v.plan.k) f.switches = subst (AllByRecursion (λ u. u.k ≡ v.plan.k)) (sym switches) formed.ports in
    let by_wiring = stale_by_wiring f.k v.plan.k f.switches f.out has.ports ports in
    let seen : stale v.plan.k f.switches f.out ≡ stale v.plan.k v.switches v.out =
    ap (λ vs. stale v.plan.k vs f.out) switches ∙ ap (stale v.plan.k v.switches) out in
    let here : a + b + c ≡ pending v = omega (arith, by_wiring, seen, first, told, said) in
    here ∙ ap pending same

-- the switches and queues of a wiring at first
first_sizes : (k : ℕ) (ids : List SwitchId) → AllByRecursion (λ v. v.k ≡ k) (map (λ id. switch_at_boot id k) ids)
first_sizes k [] = tt
first_sizes k (id ∷ ids) = (refl, first_sizes k ids)

pub first_ports : (j k : ℕ) (ids : List SwitchId) (switches : List SwitchView) → j ≡ k → switches ≡ map (λ id. switch_at_boot id k) ids →
    AllByRecursion (λ v. v.k ≡ j) switches
first_ports j k ids switches same first =
    subst (λ n. AllByRecursion (λ v. v.k ≡ n) switches) (sym same) (subst (AllByRecursion (λ v. v.k ≡ k)) (sym first) (first_sizes k ids))
