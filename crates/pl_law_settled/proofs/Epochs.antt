-- Where the queues are settled each switch has heard of the manager's epoch, and no report is missing.
use Rattle.std.proofs.Common.{◌≡◌, ℕ, ◌<◌, true, false, length, get_or, Some, None, slice_get, sym, ◌∙◌, ap, subst, arith, inl, inr}
use Rattle.std.proofs.lemmas.Option.{get_or_from_slice_get, slice_get-get_or, slice_get_cases}
use Rattle.pl_frame.specs.declared.address.SwitchId.{SwitchId}
use Rattle.pl_gathering.specs.Gathering.{is_whole}
use Rattle.pl_wiring.specs.Labels.{switch_count}
use Rattle.pl_node.specs.SwitchViews.{SwitchView}
use Rattle.pl_queues.specs.Queues.{items_at}
use Rattle.pl_world.specs.SettledQueues.{HasSettledQueues, IsReply}
use Rattle.pl_world.specs.Worlds.{WorldView}
use Rattle.pl_fabric.specs.Settled.{has_reports}
use Rattle.pl_manager_rule.specs.WholeRule.{gathered}
use Rattle.pl_law_control_plane.specs.ControlPlanes.{control_plane, no_switch}
use Rattle.pl_law_due.specs.Due.{is_hello, is_silent}
use Rattle.pl_law_due.proofs.Exports.{rest_whole}
use Rattle.pl_law_invariant.specs.ControlInvariant.{ControlInvariant}
use Rattle.pl_law_settled.proofs.Placed.{no_hello, none_of}
use Rattle.pl_law_settled.proofs.Records.{rests}

module _ (w : WorldView) (kept : ControlInvariant w) (queues : HasSettledQueues w) where
  loud : (t : ℕ) → is_silent (control_plane w).orders t ≡ false
  loud t = none_of is_hello IsReply no_hello (items_at w.from_manager t) (queues.from_manager t)

  whole : is_whole (gathered w.manager) ≡ true
  whole = rest_whole (control_plane w) kept.counted.formed.plan kept.gathered (rests w queues).ends (λ t x at. loud t)

  pub reports_heard : has_reports w.manager (switch_count w.plan.k) ≡ true
  reports_heard = subst (λ n. has_reports w.manager n ≡ true) (kept.gathered.orderly.many ∙ kept.counted.formed.plan.ids_many) whole

  pub epoch_heard : (s : ℕ) (v : SwitchView) → slice_get w.switches s ≡ Some v → v.epoch ≡ w.manager.epoch
  epoch_heard s v at =
      let many = kept.counted.formed.switches in
      let ids = kept.counted.formed.plan.ids_many in
      let no_id : SwitchId = record { 0 = 0 } in
      let named = slice_get-get_or w.plan.ids s no_id (let below = within in omega (arith, below, many, ids)) in
      ap (λ (x : SwitchView). x.epoch) (sym (get_or_from_slice_get w.switches s v no_switch at)) ∙ (kept.epochs s (get_or w.plan.ids s no_id) named).loud (loud s)
    where
      within : s < length w.switches
      within = elim (slice_get_cases w.switches s).1 [
        | inl some ↦ some.1
        | inr past ↦ (let no : None ≡ Some v = sym past.1 ∙ at in absurd (cc no))
      ]
