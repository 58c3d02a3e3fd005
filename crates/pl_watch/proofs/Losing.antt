-- What is told of a control frame that leaves and is not heard.
use Rattle.std.proofs.Common.{◌≡◌, ◌<◌, ◌⊎◌, ℕ, List, [], Option, None, Some, slice_get, refl, inl, inr, sym, ap, subst}
use Rattle.std.proofs.lemmas.Option.{same_Some}
use Rattle.pl_wiring.specs.Labels.{switch_count}
use Rattle.pl_wiring.specs.declared.label.SwitchNo.{SwitchNo}
use Rattle.pl_world.specs.declared.event.Event.{Event}
use Rattle.pl_world.specs.declared.event.Event.TheVariants as event
use Rattle.pl_world.specs.declared.event.QueueName.TheVariants as queue
use Rattle.pl_world.specs.Changes.{out_of}
use Rattle.pl_world.specs.Refusals.{has_port, is_filled, refusal_of_event}
use Rattle.pl_world.specs.Worlds.{WorldView}
use Rattle.pl_world.proofs.Exports.{port_exists, there_is}
use Rattle.pl_log_lines.specs.declared.told.Told.{Told}
use Rattle.pl_watch.specs.Events.{leaving, node_of}
use Rattle.pl_watch.specs.Logs.{lost_lines, lost_of}
use Rattle.pl_log_lines.specs.Pages.{PageView}
use Rattle.pl_log_lines.specs.Rows.{Below}
use Rattle.pl_log_lines.specs.Telling.{Tells, node_in}
use Rattle.pl_watch.proofs.Ends.{lost_at}
use Rattle.pl_log_lines.proofs.Exports.{tells_nothing}

none_leaves : (w : WorldView) (e : Event) → leaving e ≡ None → lost_lines w e ≡ []
none_leaves w (event.Deliver (queue.FromHost h)) none = refl
none_leaves w (event.Deliver (queue.ToManager s)) none = refl
none_leaves w (event.Deliver (queue.FromManager s)) none = refl
none_leaves w (event.Tick s) none = refl
none_leaves w (event.Fail a b) none = refl
none_leaves w (event.Repair a b) none = refl
none_leaves w (event.Move h s port) none = refl
none_leaves w (event.Start h) none = refl
none_leaves w (event.Play h frame original raw) none = refl
none_leaves w (event.Retry h) none = refl
none_leaves w (event.Join h group) none = refl
none_leaves w (event.Leave h group) none = refl
none_leaves w event.Restart none = refl
none_leaves w (event.Lose s port) none = absurd (cc)
none_leaves w (event.Deliver (queue.Port s port)) none = absurd (cc)

-- what leaves is told of as it is lost
leaves : (w : WorldView) (e : Event) (s : SwitchNo) (port : ℕ) → leaving e ≡ Some (s, port) →
    (e ≡ event.Lose s port) ⊎ (e ≡ event.Deliver (queue.Port s port))
leaves w (event.Deliver (queue.FromHost h)) at by is = absurd (cc)
leaves w (event.Deliver (queue.ToManager s)) at by is = absurd (cc)
leaves w (event.Deliver (queue.FromManager s)) at by is = absurd (cc)
leaves w (event.Tick s) at by is = absurd (cc)
leaves w (event.Fail a b) at by is = absurd (cc)
leaves w (event.Repair a b) at by is = absurd (cc)
leaves w (event.Move h s port) at by is = absurd (cc)
leaves w (event.Start h) at by is = absurd (cc)
leaves w (event.Play h frame original raw) at by is = absurd (cc)
leaves w (event.Retry h) at by is = absurd (cc)
leaves w (event.Join h group) at by is = absurd (cc)
leaves w (event.Leave h group) at by is = absurd (cc)
leaves w event.Restart at by is = absurd (cc)
leaves w (event.Lose x y) at by is =
    let same : (x, y) ≡ (at, by) = same_Some (x, y) (at, by) is in
    inl (ap (λ (p : SwitchNo × ℕ). event.Lose p.0 p.1) same)
leaves w (event.Deliver (queue.Port x y)) at by is =
    let same : (x, y) ≡ (at, by) = same_Some (x, y) (at, by) is in
    inr (ap (λ (p : SwitchNo × ℕ). event.Deliver (queue.Port p.0 p.1)) same)

pub leaves_there : (w : WorldView) (e : Event) (s : SwitchNo) (port : ℕ) → refusal_of_event w e ≡ None → leaving e ≡ Some (s, port) →
    (s.0 < switch_count w.plan.k) × (port < w.plan.k)
leaves_there w e s port allowed is = elim (leaves w e s port is) [
  | inl lost ↦ lost_at w.plan s.0 port _ (subst (λ (x : Event). refusal_of_event w x ≡ None) lost allowed)
  | inr sent ↦
      port_exists w.plan s.0 port
      (there_is (has_port w.plan s.0 port) (is_filled w (queue.Port s port)) (subst (λ (x : Event). refusal_of_event w x ≡ None) sent allowed))
]

pub lost_none : (w : WorldView) (e : Event) (page : PageView) (told : Told) → leaving e ≡ None → Tells page page told told (lost_lines w e)
lost_none w e page told none = subst (λ (bs : List Below). Tells page page told told bs) (sym (none_leaves w e none)) (tells_nothing page told)

pub lost_told : (w : WorldView) (e : Event) (s : SwitchNo) (port : ℕ) (page next : PageView) (told later : Told) → node_in told ≡ node_of w e →
    leaving e ≡ Some (s, port) → Tells page next told later (lost_of w.plan (node_in told) (slice_get (out_of w s.0 port) 0)) →
    Tells page next told later (lost_lines w e)
lost_told w e s port page next told later node is tells =
    let tells_by : Tells page next told later (lost_of w.plan (node_of w e) (slice_get (out_of w s.0 port) 0)) =
    subst (λ (n : Option ℕ). Tells page next told later (lost_of w.plan n (slice_get (out_of w s.0 port) 0))) node tells in
    elim (leaves w e s port is) [
      | inl lost ↦ subst (λ (x : Event). Tells page next told later (lost_of w.plan (node_of w x) (slice_get (out_of w s.0 port) 0)) →
          Tells page next told later (lost_lines w x)) (sym lost) (λ t. t) tells_by
      | inr sent ↦ subst (λ (x : Event). Tells page next told later (lost_of w.plan (node_of w x) (slice_get (out_of w s.0 port) 0)) →
          Tells page next told later (lost_lines w x)) (sym sent) (λ t. t) tells_by
    ]
