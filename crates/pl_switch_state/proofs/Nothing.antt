-- Where nothing changes nothing is told.
use Rattle.std.proofs.Common.{◌≡◌, ℕ, ◌&&◌, not, Bool, true, false, if◌then◌else◌, List, [], ◌∷◌, ◌++◌, refl, sym, ap, ◌∙◌, subst}
use Rattle.std.specs.List.{flat_map}
use Rattle.pl_node.specs.declared.acts.Act.{Act}
use Rattle.pl_node.specs.declared.acts.Act.TheVariants.{Tell}
use Rattle.pl_node.specs.declared.messages.ToManager.TheVariants.{Place as TellPlace, PodWanted}
use Rattle.pl_node.specs.PortRecords.{id_at, is_usable, ports_of_switch}
use Rattle.pl_node.specs.SwitchViews.{SwitchView}
use Rattle.pl_journal.specs.Places.{are_alike}
use Rattle.pl_layouts.specs.Placement.{is_known, is_placed}
use Rattle.pl_layouts.proofs.Exports.{place_itself}
use Rattle.pl_steps.specs.Steps.{SwitchStep, does, rests}
use Rattle.pl_steps.specs.Taken.{IsTaken}
use Rattle.pl_steps.proofs.Exports.{taken_rests, taken_then}
use Rattle.pl_switch_rule.specs.Granting.{grants_remembered}
use Rattle.pl_switch_rule.specs.Levels.{changes_to, settles_in}
use Rattle.pl_switch_rule.specs.Telling.{changes_told, link_to, link_told, place_told, pod_wanted}

alike_itself : (b : Bool) → are_alike b b ≡ true
alike_itself true = refl
alike_itself false = refl

never_both : (a b : Bool) → (a && b && not b) ≡ false
never_both true true = refl
never_both true false = refl
never_both false b = refl

nothing_at_each : (f : ℕ → List Act) → ((port : ℕ) → f port ≡ []) → (ports : List ℕ) → flat_map f ports ≡ []
nothing_at_each f none [] = refl
nothing_at_each f none (port ∷ ports) = ap (λ acts. acts ++ flat_map f ports) (none port) ∙ nothing_at_each f none ports

nothing_told : (v : SwitchView) → changes_told v v ≡ []
nothing_told v =
    let place : place_told v.place v.place ≡ [] =
    ap (λ b. if◌then◌else◌ {A = List Act} b [] (Tell (TellPlace v.place) ∷ [])) (place_itself v.place) in
    let links : flat_map (link_told v v) (ports_of_switch v.k) ≡ [] =
    nothing_at_each (link_told v v)
    (λ port. ap (λ b. if◌then◌else◌ {A = List Act} b [] (link_to (id_at v port) (is_usable v port))) (alike_itself (is_usable v port)))
    (ports_of_switch v.k) in
    let pod : pod_wanted v.place v.place ≡ [] =
    ap (λ b. if◌then◌else◌ {A = List Act} b (Tell PodWanted ∷ []) []) (never_both (is_known v.place.level 0) (is_known v.place.position 0)) in
    ap (λ a. a ++ flat_map (link_told v v) (ports_of_switch v.k) ++ pod_wanted v.place v.place) place
    ∙ ap (λ a. a ++ pod_wanted v.place v.place) links ∙ pod

pub nothing_changes : (v : SwitchView) (out : List Act) → IsTaken (changes_to v v) v out out
nothing_changes v out =
    let quiet : rests v ≡ settles_in v.place v =
    ap (λ b. if◌then◌else◌ {A = SwitchStep} b (grants_remembered (ports_of_switch v.k) v) (rests v)) (sym (never_both (is_known v.place.level 0) (is_placed v.place))) in
    taken_then (does v (changes_told v v)) (settles_in v.place) v v out out out
    (subst (λ acts. IsTaken (does v acts) v out out) (sym (nothing_told v)) (taken_rests v out))
    (subst (λ s. IsTaken s v out out) quiet (taken_rests v out))
