-- Places are true at the beginning: nothing is known and nothing waits.
use Rattle.std.proofs.Common.{◌≡◌, ℕ, zero, suc, ◌*◌, ◌/◌, ◌<◌, Bool, true, false, nat_lt, if◌then◌else◌, List, [], ◌∷◌, length, map, replicate, Option, Some, None, get_or, refl, ap, ◌∙◌, arith}
use Rattle.pl_lemmas.proofs.Exports.{replicated}
use Rattle.pl_frame.specs.declared.address.SwitchId.{SwitchId}
use Rattle.pl_layouts.specs.Placement.{nowhere}
use Rattle.pl_ldp.specs.Writable.{IsWritableId}
use Rattle.pl_wiring.specs.Index.{port_index}
use Rattle.pl_wiring.specs.Labels.{switch_count}
use Rattle.pl_wiring.specs.Plan.{IsPlan, Plan}
use Rattle.pl_node.specs.declared.neighbour.PortRecord.{PortRecord}
use Rattle.pl_node.specs.declared.switch_records.Hold.{Hold}
use Rattle.pl_node.specs.PortRecords.{heard_place, new_port, port_of}
use Rattle.pl_node.specs.SwitchFacts.{switch_at_boot}
use Rattle.pl_node.specs.SwitchViews.{SwitchView}
use Rattle.pl_world.specs.declared.item.Item.{Item}
use Rattle.pl_world.specs.declared.limits.Limits.{Limits}
use Rattle.pl_world.specs.Booting.{booted}
use Rattle.pl_law_control_plane.specs.ControlPlanes.{control_plane, has_data, no_switch, queue_out, said}
use Rattle.pl_law_places.specs.Known.{HasAllGiven, IsSoundView, told_at}
use Rattle.pl_law_places.specs.Places.{ArePlaced}

-- a switch that knows its id and its ports alone
record IsNew (v : SwitchView) : Type 0 where
  id : SwitchId
  k : ℕ
  same : v ≡ switch_at_boot id k

new_at : (ids : List SwitchId) (k s : ℕ) → IsNew (get_or (map (λ id. switch_at_boot id k) ids) s no_switch)
new_at [] k s = record { id = record { 0 = 0 }; k = 0; same = refl }
new_at (id ∷ ids) k zero = record { id = id; k = k; same = refl }
new_at (id ∷ ids) k (suc s) = new_at ids k s

booted_at : (ids : List SwitchId) (k s : ℕ) (d : SwitchId) → s < length ids → get_or (map (λ id. switch_at_boot id k) ids) s no_switch ≡ switch_at_boot (get_or ids s d) k
booted_at [] k s d less = absurd (omega arith)
booted_at (id ∷ ids) k zero d less = refl
booted_at (id ∷ ids) k (suc s) d less = booted_at ids k s d (omega arith)

new_ports : (v : SwitchView) (p : ℕ) → IsNew v → port_of v p ≡ new_port
new_ports v p new = ap (λ x. port_of x p) new.same ∙ replicated new.k p new_port

no_items : (k many s p : ℕ) → queue_out k (replicate many []) s p ≡ []
no_items k many s p = by (nat_lt p k)
  where
    none : List Item
    none = []

    by : (b : Bool) → (if b then get_or (replicate many none) (port_index k s p) none else none) ≡ none
    by true = replicated many (port_index k s p) none
    by false = refl

-- nothing was heard, so nothing is asked
new_full : (k : ℕ) → HasAllGiven nowhere (replicate k new_port)
new_full k = record {
  host = λ p h. absurd (let e = ap (λ (x : PortRecord). x.host) (replicated k p new_port) in cc);
  one = λ p l n. unheard p 0 l;
  two = λ p q x y l m a b differ n. unheard p 1 l;
  up = λ p x own l a n. unheard p 0 l;
  down = λ p x own l a n. unheard p 1 l;
}
  where
    unheard : (p x : ℕ) → (told_at (replicate k new_port) p).level ≡ Some x → ⊥
    unheard p x l = let e = ap (λ (r : PortRecord). (heard_place r.heard).level) (replicated k p new_port) in cc

no_hold : (n position : ℕ) (hold : Hold) → get_or (replicate n None) position None ≡ Some hold → ⊥
no_hold n position hold h = let none : Option Hold = None in let e = replicated n position none in cc

new_sound : (id : SwitchId) (k : ℕ) → IsWritableId id → 0 < k / 2 → IsSoundView (switch_at_boot id k)
new_sound id k named some = record {
  named = named;
  full = new_full k;
  able = record { begun = omega arith; within = omega arith; position = some };
  holders = λ position hold e. absurd (no_hold (k / 2) position hold e);
  homes = record {
    grants = λ p none. replicated k p [];
    remembered = λ p none. replicated k p None;
    members = tt;
  };
}

module _ (plan : Plan) (limits : Limits) (is : IsPlan plan) where
  new_view_at : (s : ℕ) → IsNew ((control_plane (booted plan limits)).view s)
  new_view_at s = new_at plan.ids plan.k s

  nothing_said : (s p : ℕ) → (control_plane (booted plan limits)).says s p ≡ []
  nothing_said s p = ap said (no_items plan.k (switch_count plan.k * plan.k) s p)

  nothing_carried : (s p : ℕ) → (control_plane (booted plan limits)).carries s p ≡ false
  nothing_carried s p = ap has_data (no_items plan.k (switch_count plan.k * plan.k) s p)

  pub placed_at_first : ArePlaced plan (control_plane (booted plan limits))
  placed_at_first = record {
    links = λ s p t q adjacent. record {
      queued = rw (nothing_said s p) tt;
      evidence = λ e. absurd (let none = nothing_carried s p in cc);
      recorded = record {
        no_host = ap (λ (x : PortRecord). x.host) (new_ports _ q (new_view_at t));
        known = λ n e. absurd (let none = ap (λ (x : PortRecord). x.heard) (new_ports _ q (new_view_at t)) in cc);
      };
    };
    strangers = λ s p free. ap (λ (x : PortRecord). x.heard) (new_ports _ p (new_view_at s));
    own = λ s. record {
      level = λ x e. absurd (let none = ap (λ v. v.place.level) (new_view_at s).same in cc);
      position = λ x e. absurd (let none = ap (λ v. v.place.position) (new_view_at s).same in cc);
      pod = λ x e. absurd (let none = ap (λ v. v.place.pod) (new_view_at s).same in cc);
    };
    pods = λ s n e. absurd (let none = ap (λ v. v.place.pod) (new_view_at s).same in cc);
    sound = λ s there. (let d : SwitchId = record { 0 = 0 } in
        let many = is.ids_many in
        let within : s < length plan.ids = omega arith in
        let named = is.ids_in_range s d within in
        let low = is.arity.least in
        rw (booted_at plan.ids plan.k s d within) (new_sound (get_or plan.ids s d) plan.k (omega (arith, named.0), named.1) (omega arith)));
  }
