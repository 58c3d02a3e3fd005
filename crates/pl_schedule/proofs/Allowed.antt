-- What an event that is not refused has: what it names is there, and what it takes from is not empty.
use Rattle.std.proofs.Common.{◌≡◌, ℕ, ◌<◌, ◌&&◌, not, nat_lt, length, Bool, true, false, Option, Some, None, if◌then◌else◌, ◌+◌, nat_le, slice_get, refl, sym, ◌∙◌, subst, arith}
use Rattle.std.proofs.lemmas.Bool.{and_parts}
use Rattle.std.proofs.lemmas.Bool.Decides.{nat_tests}
use Rattle.pl_frame.specs.declared.address.SwitchId.{SwitchId}
use Rattle.pl_wiring.specs.Labels.{switch_count}
use Rattle.pl_wiring.specs.Plan.{Plan}
use Rattle.pl_world.specs.declared.event.Event.{Event}
use Rattle.pl_node.specs.HostInputs.{HostRule}
use Rattle.pl_node.specs.ManagerFacts.{CanHear}
use Rattle.pl_node.specs.ManagerDuties.{ManagerRule}
use Rattle.pl_journal.specs.Places.{is_host_port}
use Rattle.pl_node.specs.SwitchInputs.{SwitchRule}
use Rattle.pl_wiring.specs.Peers.{peer_of}
use Rattle.pl_wiring.specs.declared.label.SwitchNo.{SwitchNo}
use Rattle.pl_world.specs.declared.error.StepError.{StepError}
use Rattle.pl_world.specs.declared.error.StepError.TheVariants.{JournalFull, NoSuch, StepsSpent}
use Rattle.pl_world.specs.Changes.{host_at}
use Rattle.pl_world.specs.Flying.{IsTreePort, IsCounted}
use Rattle.pl_world.specs.Hearing.{IsWithinHearing}
use Rattle.pl_world.specs.Refusals.{has_host, has_port, is_for_hosts, is_full, is_linked, refusal, refusal_of_event, refusal_of_move, refusal_of_place, refusal_of_queue, unless_there}
use Rattle.pl_world.specs.WorldRule.{Happens, WorldStep}
use Rattle.pl_world.specs.Worlds.{WorldView}
use Rattle.pl_world.proofs.Exports.{can_hear_each, event_is_not_refused, port_exists, same_refusal}

is_there : (b : Bool) → unless_there b ≡ None → b ≡ true
is_there true e = refl
is_there false e = absurd (cc)

below : (n m : ℕ) → nat_lt n m ≡ true → n < m
below n m e = grind (arith, nat_tests)

pub there_within : (n m : ℕ) → unless_there (nat_lt n m) ≡ None → n < m
there_within n m e = below n m (is_there (nat_lt n m) e)

-- a queue that is named is there, and has items
queue_there : (there filled : Bool) → refusal_of_queue there filled ≡ None → (there ≡ true) × (filled ≡ true)
queue_there true true e = (refl, refl)
queue_there true false e = absurd (cc)
queue_there false filled e = absurd (cc)

pub has_some : (there filled : Bool) → refusal_of_queue there filled ≡ None → filled ≡ true
has_some there filled e = (queue_there there filled e).1

pub queue_within : (n m : ℕ) (filled : Bool) → refusal_of_queue (nat_lt n m) filled ≡ None → n < m
queue_within n m filled e = below n m (queue_there (nat_lt n m) filled e).0

pub queue_port : (plan : Plan) (s port : ℕ) (filled : Bool) → refusal_of_queue (has_port plan s port) filled ≡ None → (s < switch_count plan.k) × (port < plan.k)
queue_port plan s port filled e = port_exists plan s port (queue_there (has_port plan s port) filled e).0

pub linked_port : (plan : Plan) (s port : ℕ) (filled : Bool) → refusal_of_queue (is_linked plan s port) filled ≡ None → (s < switch_count plan.k) × (port < plan.k)
linked_port plan s port filled e =
    port_exists plan s port (and_parts (has_port plan s port) (not (is_host_port (peer_of plan s port))) (queue_there (is_linked plan s port) filled e).0).0

chosen : (b : Bool) (x : Option StepError) (e : StepError) → (if b then x else Some e) ≡ None → b ≡ true
chosen true x e h = refl
chosen false x e h = absurd (cc)

moves_there : (w : WorldView) (h s port : ℕ) → refusal_of_move w h s port ≡ None → (has_host w.plan h ≡ true) × (is_for_hosts w.plan s port ≡ true)
moves_there w h s port e =
    and_parts (has_host w.plan h) (is_for_hosts w.plan s port)
    (chosen (has_host w.plan h && is_for_hosts w.plan s port) (refusal_of_place h (host_at w s port)) NoSuch e)

pub mover_there : (w : WorldView) (h s port : ℕ) → refusal_of_move w h s port ≡ None → h < length w.plan.hosts
mover_there w h s port e = below h (length w.plan.hosts) (moves_there w h s port e).0

pub port_there : (w : WorldView) (h : ℕ) (s : SwitchNo) (port : ℕ) → refusal_of_move w h s.0 port ≡ None →
    IsTreePort w.plan.k (record { edge = s; port = port })
port_there w h s port e =
    let is = port_exists w.plan s.0 port (and_parts (has_port w.plan s.0 port) (is_host_port (peer_of w.plan s.0 port)) (moves_there w h s.0 port e).1).0 in
    record { edge = is.0; port = is.1 }

-- ---- a step that is not refused
not_both : (b : Bool) (rest : Option StepError) → (if b then Some StepsSpent else rest) ≡ None → b ≡ false
not_both true rest h = absurd (cc)
not_both false rest h = refl

pub not_spent : (w : WorldView) (e : Event) → refusal w e ≡ None → nat_le w.limits.steps w.steps ≡ false
not_spent w e none = not_both (nat_le w.limits.steps w.steps) (if is_full w then Some JournalFull else refusal_of_event w e) none

module _ (old mid : WorldView) (counted_up : mid ≡ record old { steps = old.steps + 1 }) where
  pub still_counted : IsCounted old → IsCounted mid
  still_counted is = subst IsCounted (sym counted_up) (record {
    formed = record {
      plan = is.formed.plan;
      links = is.formed.links;
      attachments = is.formed.attachments;
      at_ports = is.formed.at_ports;
      heard = is.formed.heard;
      switches = is.formed.switches;
      ports = is.formed.ports;
      hosts = is.formed.hosts;
      from_hosts = is.formed.from_hosts;
      out = is.formed.out;
      to_manager = is.formed.to_manager;
      from_manager = is.formed.from_manager;
    };
    shaped = is.shaped;
    holding = is.holding;
    in_host_queues = is.in_host_queues;
    in_port_queues = is.in_port_queues;
    begun = is.begun;
    flights = is.flights;
  })

  pub still_allowed : (e : Event) → refusal old e ≡ None → refusal_of_event mid e ≡ None
  still_allowed e none = subst (λ w. refusal_of_event w e ≡ None) (sym counted_up) (same_refusal old e ∙ event_is_not_refused old e none)

  pub hears_each : (e : Event) → IsCounted old → IsWithinHearing old → refusal old e ≡ None →
      (s : ℕ) (id : SwitchId) → slice_get mid.plan.ids s ≡ Some id → CanHear mid.manager id
  hears_each e is within none = subst (λ (w : WorldView). ((s : ℕ) (id : SwitchId) → slice_get w.plan.ids s ≡ Some id → CanHear w.manager id)) (sym counted_up)
      (can_hear_each old.plan old.manager old.steps is.formed.plan within.within
      (let below = not_spent old e none in let few = within.few_steps in let less : old.steps < old.limits.steps = not_le old.limits.steps old.steps below in omega arith))
    where
      not_le : (a b : ℕ) → nat_le a b ≡ false → b < a
      not_le a b h = grind (arith, nat_tests)

  pub step_made : (switch : SwitchRule) (manager : ManagerRule) (host : HostRule) (e : Event) (new : WorldView) →
      Happens switch manager host mid e new → WorldStep switch manager host old e new
  step_made switch manager host e new happens = subst (λ w. Happens switch manager host w e new) counted_up happens
