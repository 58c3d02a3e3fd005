-- At the beginning no report is missing, and nobody is silent. In the first epoch it stays so.
use Rattle.std.proofs.Common.{◌≡◌, ℕ, ◌==◌, ◌||◌, nat_le, true, false, [], length, Some, slice_get, refl, sym, ap, ◌∙◌}
use Rattle.std.specs.List.{list_any}
use Rattle.std.proofs.lemmas.Bool.{false≢true}
use Rattle.pl_lemmas.proofs.Exports.{replicated}
use Rattle.pl_frame.specs.declared.address.SwitchId.{SwitchId}
use Rattle.pl_wiring.specs.Labels.{switch_count}
use Rattle.pl_wiring.specs.Plan.{IsPlan, Plan}
use Rattle.pl_gathering.specs.Gathering.{Gathered, is_whole}
use Rattle.pl_gathering.proofs.Exports.{orderly_anew}
use Rattle.pl_node.specs.declared.messages.ToManager.{ToManager}
use Rattle.pl_node.specs.ManagerViews.{ManagerView, booted_manager}
use Rattle.pl_node.specs.SwitchViews.{SwitchView}
use Rattle.pl_manager_rule.specs.Treating.{Treating}
use Rattle.pl_manager_rule.specs.WholeRule.{gathered}
use Rattle.pl_world.specs.declared.limits.Limits.{Limits}
use Rattle.pl_world.specs.Booting.{booted}
use Rattle.pl_world.proofs.Exports.{switches_of_tree}
use Rattle.pl_law_control_plane.specs.ControlPlanes.{ControlPlane, control_plane}
use Rattle.pl_law_control_plane.proofs.Exports.{booted_view}
use Rattle.pl_law_due.specs.Due.{is_hello, is_silent}
use Rattle.pl_law_due.specs.Gathering.{EpochsAgree, GathersWell}

-- in the first epoch no report is missing
pub first_whole : (manager : ManagerView) → manager.epoch ≡ 0 → is_whole (gathered manager) ≡ true
first_whole manager first = ap (λ n. (n == 0) || nat_le (gathered manager).many (length manager.ended)) first

-- so nobody is silent
pub first_loud : (f : ControlPlane) → GathersWell f → f.manager.epoch ≡ 0 → (s : ℕ) (id : SwitchId) → slice_get f.plan.ids s ≡ Some id → is_silent f.orders s ≡ false
first_loud f well first s id named = well.loud (first_whole f.manager first) s id named

pub gathers_at_first : (plan : Plan) (limits : Limits) → IsPlan plan → GathersWell (control_plane (booted plan limits))
gathers_at_first plan limits is =
    let f = control_plane (booted plan limits) in
    let g : Gathered Treating ToManager = gathered (booted_manager plan.k) in
    let loud : (s : ℕ) → is_silent f.orders s ≡ false = λ s. ap (list_any is_hello) (replicated (switch_count plan.k) s []) in
    record {
      orderly = orderly_anew plan.ids g (sym (is.ids_many ∙ switches_of_tree plan.k is.arity)) refl refl refl;
      plain = tt;
      coming = λ t known silent part missing. absurd (false≢true (sym part));
      old = λ s id named silent. absurd (false≢true (sym (loud s) ∙ silent));
      anew = λ part. absurd (false≢true (sym part));
      loud = λ whole s id named. loud s;
    }

-- and all are of the first epoch
pub agree_at_first : (plan : Plan) (limits : Limits) → EpochsAgree (control_plane (booted plan limits))
agree_at_first plan limits s id named = record {
  loud = λ loud. booted_view (λ (v : SwitchView). v.epoch ≡ 0) (λ i k. refl) plan.k plan.ids s;
  silent = λ silent. absurd (false≢true (sym (ap (list_any is_hello) (replicated (switch_count plan.k) s [])) ∙ silent));
}
