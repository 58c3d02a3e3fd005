-- One of some switches, or hosts, has another view.
use Rattle.std.proofs.Common.{◌≡◌, ℕ, zero, suc, ◌<◌, List, [], ◌∷◌, length, map, Some, get_or, set, slice_get, refl, sym, ◌∙◌, ap, arith}
use Rattle.std.proofs.lemmas.List.{get_or_default, get_or-set_same}
use Rattle.pl_node.specs.declared.acts.Act.{Act}
use Rattle.pl_node.specs.declared.acts.HostAct.{HostAct}
use Rattle.pl_layouts.specs.declared.place.Place.{Place}
use Rattle.pl_node.specs.Gains.{Gains}
use Rattle.pl_node.specs.HostInputs.{HostAnswer, HostInput, HostRule}
use Rattle.pl_node.specs.HostViews.{HostView}
use Rattle.pl_node.specs.SwitchInputs.{SwitchInput, SwitchRule}
use Rattle.pl_node.specs.SwitchViews.{SwitchView}
use Rattle.pl_world_parts.specs.OneStep.{HostSteps, SwitchSteps, sizes}

module _ {T V : Type 0} (view : T → V) where
  pub map-set : (xs : List T) (n : ℕ) (x : T) → map view (set xs n x) ≡ set (map view xs) n (view x)
  map-set [] n x = refl
  map-set (y ∷ xs) zero x = refl
  map-set (y ∷ xs) (suc n) x = ap (λ zs. view y ∷ zs) (map-set xs n x)

  pub found-map : (xs : List T) (n : ℕ) (x : T) → n < length xs → get_or xs n x ≡ x → slice_get (map view xs) n ≡ Some (view x)
  found-map [] n x within is = absurd (omega arith)
  found-map (y ∷ xs) zero x within is = ap (λ z. Some (view z)) is
  found-map (y ∷ xs) (suc n) x within is = found-map xs n x (omega arith) is

pub sizes_kept : {T : Type 0} (view : T → SwitchView) (xs : List T) (n : ℕ) (old new : T) → n < length xs → get_or xs n old ≡ old →
    (view new).k ≡ (view old).k → sizes (map view (set xs n new)) ≡ sizes (map view xs)
sizes_kept view [] n old new within is same = refl
sizes_kept view (y ∷ xs) zero old new within is same = ap (λ k. k ∷ sizes (map view xs)) (same ∙ ap (λ x. (view x).k) (sym is))
sizes_kept view (y ∷ xs) (suc n) old new within is same = ap (λ ks. (view y).k ∷ ks) (sizes_kept view xs n old new (omega arith) is same)

module _ {T : Type 0} (view : T → SwitchView) (xs : List T) (n : ℕ) (old new first last : T) (rule : SwitchRule) (input : SwitchInput) (was is : Place)
    (before after : List Act) where
  -- what a call on an item of a vector says of all of them
  pub switch_steps : n < length xs → old ≡ get_or xs n old → first ≡ get_or xs n first → last ≡ get_or (set xs n new) n last →
      was ≡ (view first).place → is ≡ (view last).place → Gains before after (rule (view old) input (view new)) →
      Gains before after (SwitchSteps rule (map view xs) n input (map view (set xs n new)) was is)
  switch_steps within here here1 here2 was_placed is_placed gains =
      let same1 : first ≡ old = here1 ∙ get_or_default xs n first old within ∙ sym here in
      let same2 : last ≡ new = here2 ∙ get_or-set_same xs n new last within in
      record {
        items = gains.items;
        gained = gains.gained;
        holds = record {
          before = view old;
          after = view new;
          found = found-map view xs n old within (sym here);
          ruled = gains.holds;
          changed = map-set view xs n new;
          was_placed = was_placed ∙ ap (λ x. (view x).place) same1;
          is_placed = is_placed ∙ ap (λ x. (view x).place) same2;
        };
      }

module _ {T : Type 0} (view : T → HostView) (xs : List T) (n : ℕ) (old new : T) (rule : HostRule) (input : HostInput) (answer : HostAnswer)
    (before after : List HostAct) where
  pub host_steps : n < length xs → old ≡ get_or xs n old → Gains before after (λ acts. rule (view old) input (view new) acts answer) →
      Gains before after (HostSteps rule (map view xs) n input answer (map view (set xs n new)))
  host_steps within here gains = record {
    items = gains.items;
    gained = gains.gained;
    holds = record {
      before = view old;
      after = view new;
      found = found-map view xs n old within (sym here);
      ruled = gains.holds;
      changed = map-set view xs n new;
    };
  }
