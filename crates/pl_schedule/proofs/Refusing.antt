-- Why a queue cannot be taken from, by its length.
use Rattle.std.proofs.Common.{◌≡◌, ℕ, not, Bool, true, false, if◌then◌else◌, List, [], ◌∷◌, length, Option, None, Some, refl, sym, ◌∙◌, ap}
use Rattle.std.proofs.lemmas.Bool.{and_parts}
use Rattle.std.proofs.Math.Dec.{eqb-suc-zero}
use Rattle.pl_wiring.specs.declared.label.SwitchNo.{SwitchNo}
use Rattle.pl_wiring.specs.Peers.{peer_of}
use Rattle.pl_journal.specs.Places.{is_host_port}
use Rattle.pl_queues.specs.Queues.{has_items, items_at}
use Rattle.pl_world.specs.declared.error.StepError.{StepError}
use Rattle.pl_world.specs.declared.error.StepError.TheVariants.{NothingThere}
use Rattle.pl_world.specs.declared.event.QueueName.{QueueName}
use Rattle.pl_world.specs.declared.event.QueueName.TheVariants as queue
use Rattle.pl_world.specs.Changes.{out_of}
use Rattle.pl_world.specs.Refusals.{has_host, has_port, has_queue, has_switch, is_filled, is_linked, refusal_of_queue}
use Rattle.pl_world.specs.Worlds.{WorldView}
use Rattle.pl_schedule.specs.Looks.{queue_len, refusal_of_len}

abbrev none_there : Bool → Option StepError
none_there empty = if empty then Some NothingThere else None

by_length : {T : Type 0} (there : Bool) (items : List T) →
    refusal_of_len (if there then Some (length items) else None) ≡ refusal_of_queue there (has_items items)
by_length true [] = refl
by_length true (x ∷ items) = ap none_there (eqb-suc-zero (length items))
by_length false items = refl

pub refused_by_length : (w : WorldView) (name : QueueName) → refusal_of_len (queue_len w name) ≡ refusal_of_queue (has_queue w.plan name) (is_filled w name)
refused_by_length w (queue.FromHost h) = by_length (has_host w.plan h.0) (items_at w.from_hosts h.0)
refused_by_length w (queue.Port s port) = by_length (has_port w.plan s.0 port) (out_of w s.0 port)
refused_by_length w (queue.ToManager s) = by_length (has_switch w.plan s.0) (items_at w.to_manager s.0)
refused_by_length w (queue.FromManager s) = by_length (has_switch w.plan s.0) (items_at w.from_manager s.0)

-- at a port that has a link
pub loss_by_length : (w : WorldView) (s : SwitchNo) (port : ℕ) → is_linked w.plan s.0 port ≡ true →
    refusal_of_len (queue_len w (queue.Port s port)) ≡ refusal_of_queue (is_linked w.plan s.0 port) (has_items (out_of w s.0 port))
loss_by_length w s port linked =
    let there = (and_parts (has_port w.plan s.0 port) (not (is_host_port (peer_of w.plan s.0 port))) linked).0 in
    by_length (has_port w.plan s.0 port) (out_of w s.0 port)
    ∙ ap (λ b. refusal_of_queue b (has_items (out_of w s.0 port))) (there ∙ sym linked)
