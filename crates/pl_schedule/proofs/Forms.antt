-- The switches of a world that is in order have as many ports as its wiring says.
use Rattle.std.proofs.Common.{◌≡◌, ℕ, ◌<◌, List, [], ◌∷◌, Some, length, slice_get, ap, sym, ◌∙◌, subst, arith}
use Rattle.std.specs.List.{AllByRecursion}
use Rattle.pl_wiring.specs.Labels.{switch_count}
use Rattle.pl_node.specs.SwitchViews.{SwitchView}
use Rattle.pl_world.specs.Flying.{IsFormed}
use Rattle.pl_world.specs.Pending.{HasQueues, SwitchesView}
use Rattle.pl_world.specs.Worlds.{WorldView}
use Rattle.pl_world.proofs.Exports.{all_found}

pub port_there : (v w : WorldView) (s port : ℕ) → v ≡ w → IsFormed v → port < w.plan.k → (u : SwitchView) → slice_get v.switches s ≡ Some u → port < u.k
port_there v w s port same formed within u found =
    let size = all_found (λ u. u.k ≡ v.plan.k) v.switches s u found formed.ports in
    let wiring = ap (λ x. x.plan.k) same in
    omega (arith, within, size, wiring)

one_size : (j k : ℕ) (switches : List SwitchView) → 0 < length switches → AllByRecursion (λ v. v.k ≡ j) switches → AllByRecursion (λ v. v.k ≡ k) switches → j ≡ k
one_size j k [] some first second = absurd (omega (arith, some))
one_size j k (v ∷ switches) some first second = sym first.0 ∙ second.0

-- and so many queues stand in a row for each switch
pub rows_as_wired : (v w : WorldView) (f : SwitchesView) (s : ℕ) → v ≡ w → IsFormed v → HasQueues f → f.switches ≡ v.switches → s < switch_count w.plan.k → f.k ≡ w.plan.k
rows_as_wired v w f s same formed has switches within =
    let w_formed : IsFormed w = subst IsFormed same formed in
    let same_switches : f.switches ≡ w.switches = switches ∙ ap (λ x. x.switches) same in
    one_size f.k w.plan.k w.switches (omega (arith, within, w_formed.switches)) (subst (AllByRecursion (λ v. v.k ≡ f.k)) same_switches has.ports) w_formed.ports
