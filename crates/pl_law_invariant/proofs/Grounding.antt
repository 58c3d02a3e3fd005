-- Where places are true, and votes and numbers of pods are in order, placed edge switches stand apart, and no switch takes
-- another switch for a host.
use Rattle.std.proofs.Common.{◌≡◌, ℕ, ◌&&◌, Bool, true, false, List, [], Some, refl, sym, ap, subst, arith}
use Rattle.std.proofs.lemmas.Option.{get_or_from_slice_get}
use Rattle.pl_pmac.specs.declared.pmac.Pmac.{Pmac}
use Rattle.pl_wiring.specs.declared.label.Label.{Label}
use Rattle.pl_wiring.specs.declared.label.Label.TheVariants.{Aggregation, Core, Edge}
use Rattle.pl_wiring.specs.Labels.{label_of}
use Rattle.pl_wiring.specs.Plan.{IsPlan}
use Rattle.pl_layouts.specs.Placement.{is_known}
use Rattle.pl_layouts.proofs.Exports.{known_is}
use Rattle.pl_wiring.proofs.Exports.{entry_at-in_range}
use Rattle.pl_node.specs.PortRecords.{is_open_to_hosts, port_of}
use Rattle.pl_node.specs.SwitchViews.{SwitchView}
use Rattle.pl_node.proofs.Exports.{among_of_Contains, any_among, closed_by}
use Rattle.pl_switch_rule.specs.Granting.{is_local}
use Rattle.pl_world.specs.declared.item.Item.{Item}
use Rattle.pl_world.specs.declared.item.Item.TheVariants.{Data}
use Rattle.pl_world.specs.Changes.{out_of}
use Rattle.pl_world.specs.Flying.{IsCounted}
use Rattle.pl_world.specs.Worlds.{WorldView}
use Rattle.pl_law_control_plane.specs.ControlPlanes.{ControlPlane, control_plane, has_data, is_data_item, no_switch}
use Rattle.pl_law_control_plane.proofs.Exports.{adjacent_there}
use Rattle.pl_law_places.specs.Known.{pod_of}
use Rattle.pl_law_places.specs.Places.{ArePlaced}
use Rattle.pl_law_votes.specs.Voting.{AreVoting, FixedAreApart}
use Rattle.pl_law_votes.proofs.Exports.{fixed_are_apart}
use Rattle.pl_law_pods.specs.Numbering.{AreNumbered}
use Rattle.pl_law_pods.proofs.Exports.{one_zero}
use Rattle.pl_law_addresses.specs.Addressed.{IsGrounded}
use Rattle.pl_journal.specs.Flights.{label_level}

-- a switch of level 0 in a pod has the label of an edge switch of the pod
edge_of : (label : Label) (pod : ℕ) → 0 ≡ label_level label → pod_of label ≡ Some pod → (i : ℕ) × (label ≡ Edge pod i)
edge_of (Edge other i) pod is of = (let same : other ≡ pod = cc of in (i, ap (λ p. Edge p i) same))
edge_of (Aggregation other j) pod is of = absurd (omega (arith, is))
edge_of (Core group m) pod is of = absurd (omega (arith, is))

-- of a placed edge switch
record Stands (v : SwitchView) (x : Pmac) : Type 0 where
  level : v.place.level ≡ Some 0
  pod : v.place.pod ≡ Some x.pod
  position : v.place.position ≡ Some x.position

stands : (v : SwitchView) (x : Pmac) → is_local v x ≡ true → Stands v x
stands v x is =
    let both = and_both (is_known v.place.level 0) (is_known v.place.pod x.pod && is_known v.place.position x.position) is in
    let rest = and_both (is_known v.place.pod x.pod) (is_known v.place.position x.position) both.1 in
    record { level = known_is v.place.level 0 both.0; pod = known_is v.place.pod x.pod rest.0; position = known_is v.place.position x.position rest.1 }
  where
    and_both : (a b : Bool) → (a && b) ≡ true → (a ≡ true) × (b ≡ true)
    and_both true true is = (refl, refl)
    and_both true false is = absurd (cc is)
    and_both false b is = absurd (cc is)

module _ (f : ControlPlane) (is : IsPlan f.plan) (placed : ArePlaced f.plan f) (apart : FixedAreApart f.plan f.view) (numbered : AreNumbered f) where
  one_place : (s t : ℕ) (x : Pmac) → Stands (f.view s) x → Stands (f.view t) x → s ≡ t
  one_place s t x here there =
      let zero = placed.pods s x.pod here.pod in
      let other = placed.pods t x.pod there.pod in
      let same = one_zero f placed numbered s t x.pod zero.0 other.0 zero.1 other.1 in
      let pods : zero.1.pod ≡ other.1.pod = one_pod (label_of f.plan.k zero.0) (label_of f.plan.k other.0) zero.1.pod zero.1.i other.1.pod other.1.i (ap (label_of f.plan.k) same) zero.1.edge other.1.edge in
      let edge = edge_of (label_of f.plan.k s) zero.1.pod ((placed.own s).level 0 here.level) zero.1.of_pod in
      let edge_too = edge_of (label_of f.plan.k t) zero.1.pod ((placed.own t).level 0 there.level) (subst (λ p. pod_of (label_of f.plan.k t) ≡ Some p) (sym pods) other.1.of_pod) in
      apart zero.1.pod edge.0 edge_too.0 x.position s t edge.1 edge_too.1 here.position there.position
    where
      one_pod : (a b : Label) (pod i other j : ℕ) → a ≡ b → a ≡ Edge pod i → b ≡ Edge other j → pod ≡ other
      one_pod a b pod i other j same one another = cc (same, one, another)

pub grounded : (w : WorldView) → IsCounted w → ArePlaced w.plan (control_plane w) → AreVoting (control_plane w) → AreNumbered (control_plane w) → IsGrounded w
grounded w counted placed voting numbered =
    let is = counted.formed.plan in
    let f = control_plane w in
    record {
      apart = λ s t v u x found also local local_too.
          let here : f.view s ≡ v = get_or_from_slice_get w.switches s v no_switch found in
          let there : f.view t ≡ u = get_or_from_slice_get w.switches t u no_switch also in
          one_place f is placed (fixed_are_apart f.plan f.view f.says is voting) numbered s t x
          (stands (f.view s) x (subst (λ (y : SwitchView). is_local y x ≡ true) (sym here) local))
          (stands (f.view t) x (subst (λ (y : SwitchView). is_local y x ≡ true) (sym there) local_too));
      neighbours = λ s port t q id frame v adjacent waits found.
          let there : f.view t.0 ≡ v = get_or_from_slice_get w.switches t.0 v no_switch found in
          let link = placed.links s port t.0 q adjacent in
          let within = (adjacent_there f.plan s port t.0 q is adjacent).1 in
          let any : has_data (out_of w s port) ≡ true = any_among is_data_item (Data id frame) (out_of w s port) (among_of_Contains (Data id frame) (out_of w s port) waits) refl in
          let carried : f.carries s port ≡ true = subst (λ (items : List Item). has_data items ≡ true) (sym (entry_at-in_range [] w.plan.k w.out s port within)) any in
          subst (λ (y : SwitchView). is_open_to_hosts (port_of y q) ≡ false) there (closed_by (port_of (f.view t.0) q) link.recorded.no_host (link.evidence carried));
    }
