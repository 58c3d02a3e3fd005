-- A frame arrives: when it may, and what is kept of groups then.
use Rattle.std.proofs.Common.{◌≡◌, ◌↔◌, ℕ, ◌&&◌, Bool, true, false, not, List, [], ◌∷◌, length, take, Option, Some, None, is_some, is_none, slice_get, refl, sym, ap, subst, ◌∙◌}
use Rattle.std.specs.Prelude.{IsTrue, MatchBool}
use Rattle.std.specs.Option.{option_map}
use Rattle.std.proofs.lemmas.Bool.{MatchBool-at_false, MatchBool-at_true, and_from, and_parts, both_ways, false≢true, not-true}
use Rattle.std.proofs.lemmas.Option.{get_or_from_slice_get, slice_get_within}
use Rattle.byteorder.specs.Numbers.{length-bytes_high_first}
use Rattle.pl_frame.specs.declared.address.Mac.{Mac}
use Rattle.pl_frame.specs.Ethernet.{destination_of, source_of}
use Rattle.pl_pmac.specs.declared.pmac.Pmac.{Pmac}
use Rattle.pl_pmac.specs.Pmac.{pmac_number}
use Rattle.pl_layouts.specs.Frames.{HasSixBytes, arriving, mac_number}
use Rattle.pl_layouts.specs.Memberships.{group_of}
use Rattle.pl_wiring.specs.declared.host.Host.{Host}
use Rattle.pl_wiring.specs.declared.host.HostNo.{HostNo}
use Rattle.pl_wiring.specs.Plan.{IsPlan, Plan}
use Rattle.pl_journal.specs.declared.entry.Entry.{Entry}
use Rattle.pl_journal.specs.declared.entry.Entry.TheVariants.{Arrived}
use Rattle.pl_journal.specs.Places.{EdgePort, edge_port, edge_port_of, is_at}
use Rattle.pl_journal.specs.Causes.{goes_to_group}
use Rattle.pl_journal.specs.Flights.{addressee, is_flying, leg, root, root_arrived_at}
use Rattle.pl_journal.specs.Lossy.{ArrivesByAddress, ArrivesByGroup, EndsAt, Unaltered, UnalteredFrom, is_member, is_root_there, is_same_place, mac_of_host}
use Rattle.pl_past.specs.Kept.{kept}
use Rattle.pl_past_tables.specs.declared.row.Row.{Row}
use Rattle.pl_past_tables.specs.Frames.{IsRow, source_of_host}
use Rattle.pl_past_tables.specs.Legs.{switches_of}
use Rattle.pl_checker.specs.Past.{MayFollow}

pub none_arrives : (plan : Plan) (past : List Entry) (id : ℕ) (h : HostNo) (f : List ℕ) → is_flying past id ≡ false →
    IsTrue false ↔ MayFollow plan past (Arrived id h f)
none_arrives plan past id h f none = (λ t. absurd (false≢true t), λ m. absurd (both_ways (is_flying past id) none m.0.0))

pub group_arrives : (plan : Plan) (past : List Entry) (id : ℕ) (h : HostNo) (f : List ℕ) (b : Bool) → is_flying past id ≡ true → goes_to_group past id ≡ true →
    IsTrue b ↔ ArrivesByGroup plan past id h.0 f → IsTrue b ↔ MayFollow plan past (Arrived id h f)
group_arrives plan past id h f b flies group arrives = (
  λ t. ((flies, subst (λ g. MatchBool g (ArrivesByGroup plan past id h.0 f) (ArrivesByAddress plan past id h.0 f)) (sym group) (arrives.0 t)), tt),
  λ m. arrives.1 (MatchBool-at_true (ArrivesByGroup plan past id h.0 f) (ArrivesByAddress plan past id h.0 f) group m.0.1),
)

pub one_arrives : (plan : Plan) (past : List Entry) (id : ℕ) (h : HostNo) (f : List ℕ) (b : Bool) → is_flying past id ≡ true → goes_to_group past id ≡ false →
    IsTrue b ↔ ArrivesByAddress plan past id h.0 f → IsTrue b ↔ MayFollow plan past (Arrived id h f)
one_arrives plan past id h f b flies alone arrives = (
  λ t. ((flies, subst (λ g. MatchBool g (ArrivesByGroup plan past id h.0 f) (ArrivesByAddress plan past id h.0 f)) (sym alone) (arrives.0 t)), tt),
  λ m. arrives.1 (MatchBool-at_false (ArrivesByGroup plan past id h.0 f) (ArrivesByAddress plan past id h.0 f) alone m.0.1),
)

-- where a leg ends is told by its last switches
ends_by_five : (switches : List ℕ) (there : Option EdgePort) → EndsAt (take 5 switches) there ↔ EndsAt switches there
ends_by_five [] there = (λ e. e, λ e. e)
ends_by_five (s ∷ switches) there = (λ e. e, λ e. e)

pub ends_by_row : (plan : Plan) (text : List ℕ) (past : List Entry) (id : ℕ) (row : Row) (b : Bool) (there stands : Option EdgePort) →
    IsRow text row (kept plan past id) →
    there ≡ stands → IsTrue b ↔ EndsAt (switches_of row.leg) there → IsTrue b ↔ EndsAt (leg past id) stands
ends_by_row plan text past id row b there stands is same ends = (
  λ t. (ends_by_five (leg past id) stands).0 (subst (λ l. EndsAt l stands) is.leg (subst (EndsAt (switches_of row.leg)) same (ends.0 t))),
  λ e. ends.1 (subst (EndsAt (switches_of row.leg)) (sym same) (subst (λ l. EndsAt l stands) (sym is.leg) ((ends_by_five (leg past id) stands).1 e))),
)

module _ (plan : Plan) (text : List ℕ) (past : List Entry) (id : ℕ) (h : HostNo) (f : List ℕ) (row : Row) (is : IsRow text row (kept plan past id)) where
  -- a frame to one host
  pub not_held : (held : Option HostNo) (holds : Bool) → option_map (λ (g : HostNo). g.0) held ≡ addressee past id →
      IsTrue holds ↔ (option_map (λ (g : HostNo). g.0) held ≡ Some h.0) → holds ≡ false → IsTrue false ↔ ArrivesByAddress plan past id h.0 f
  not_held held holds at holds_is none = (λ t. absurd (false≢true t), λ a. absurd (both_ways holds none (holds_is.1 (at ∙ a.held))))

  pub elsewhere : (stands granted : Option EdgePort) (same : Bool) → stands ≡ edge_port_of plan past h.0 → granted ≡ edge_port past row.address →
      IsTrue same ↔ (stands ≡ granted) → same ≡ false → IsTrue false ↔ ArrivesByAddress plan past id h.0 f
  elsewhere stands granted same at_place at_grant same_is none = (
    λ t. absurd (false≢true t),
    λ a. absurd (both_ways same none (same_is.1 (at_place ∙ a.stands_there ∙ ap (edge_port past) (sym is.address) ∙ sym at_grant))),
  )

  pub not_reached : (stands : Option EdgePort) (reached : Bool) → stands ≡ edge_port_of plan past h.0 → IsTrue reached ↔ EndsAt (switches_of row.leg) stands →
      reached ≡ false → IsTrue false ↔ ArrivesByAddress plan past id h.0 f
  not_reached stands reached at_place reached_is none = (
    λ t. absurd (false≢true t),
    λ a. absurd (both_ways reached none ((ends_by_row plan text past id row reached stands (edge_port_of plan past h.0) is at_place reached_is).1 a.reached)),
  )

  pub by_address : (held : Option HostNo) (stands granted : Option EdgePort) (holds same reached : Bool) (to : Option Mac) (b : Bool) →
      option_map (λ (g : HostNo). g.0) held ≡ addressee past id → stands ≡ edge_port_of plan past h.0 → granted ≡ edge_port past row.address →
      IsTrue holds ↔ (option_map (λ (g : HostNo). g.0) held ≡ Some h.0) → IsTrue same ↔ (stands ≡ granted) →
      IsTrue reached ↔ EndsAt (switches_of row.leg) stands →
      holds ≡ true → same ≡ true → reached ≡ true → to ≡ mac_of_host plan h.0 →
      IsTrue b ↔ UnalteredFrom (kept plan past id).sender (kept plan past id).source (kept plan past id).beginning to f →
      IsTrue b ↔ ArrivesByAddress plan past id h.0 f
  by_address held stands granted holds same reached to b at_host at_place at_grant holds_is same_is reached_is holding standing reaching at unaltered = (
    λ t. record {
      held = sym at_host ∙ holds_is.0 holding;
      stands_there = sym at_place ∙ same_is.0 standing ∙ at_grant ∙ ap (edge_port past) is.address;
      reached = (ends_by_row plan text past id row reached stands (edge_port_of plan past h.0) is at_place reached_is).0 reaching;
      unaltered = subst (λ o. Unaltered plan past id o f) at (unaltered.0 t);
    },
    λ a. unaltered.1 (subst (λ o. Unaltered plan past id o f) (sym at) a.unaltered),
  )

  -- a frame of a group
  pub stands_nowhere : (stands : Option EdgePort) → stands ≡ edge_port_of plan past h.0 → stands ≡ None → IsTrue false ↔ ArrivesByGroup plan past id h.0 f
  stands_nowhere stands at none =
      (λ t. absurd (false≢true t), λ a. absurd (subst (λ o. EndsAt (leg past id) o → ⊥) (sym (sym at ∙ none)) (λ e. both_ways false refl e.0) a.reached))

  pub group_not_reached : (there : EdgePort) (reached : Bool) → Some there ≡ edge_port_of plan past h.0 →
      IsTrue reached ↔ EndsAt (switches_of row.leg) (Some there) →
      reached ≡ false → IsTrue false ↔ ArrivesByGroup plan past id h.0 f
  group_not_reached there reached at_place reached_is none = (
    λ t. absurd (false≢true t),
    λ a. absurd (both_ways reached none ((ends_by_row plan text past id row reached (Some there) (edge_port_of plan past h.0) is at_place reached_is).1
        a.reached)),
  )

  root_is : (there : EdgePort) (arrived : Bool) → Some there ≡ edge_port_of plan past h.0 → arrived ≡ root_arrived_at plan past row.root there →
      is_root_there plan past (root past id) (edge_port_of plan past h.0) ≡ arrived
  root_is there arrived at_place arrived_is =
      ap (is_root_there plan past (root past id)) (sym at_place) ∙ ap (λ r. root_arrived_at plan past r there) (sym is.root) ∙ sym arrived_is

  pub arrived_before : (there : EdgePort) (arrived : Bool) → Some there ≡ edge_port_of plan past h.0 → arrived ≡ root_arrived_at plan past row.root there →
      arrived ≡ true → IsTrue false ↔ ArrivesByGroup plan past id h.0 f
  arrived_before there arrived at_place arrived_is some =
      (λ t. absurd (false≢true t), λ a. absurd (both_ways arrived (sym (root_is there arrived at_place arrived_is) ∙ a.first) some))

  back_is : (there : EdgePort) → Some there ≡ edge_port_of plan past h.0 →
      is_same_place (edge_port past (mac_number (source_of f))) (edge_port_of plan past h.0) ≡ is_at (edge_port past (mac_number (source_of f))) there
  back_is there at_place = ap (is_same_place (edge_port past (mac_number (source_of f)))) (sym at_place)

  pub may_not : (there : EdgePort) (may : Bool) → Some there ≡ edge_port_of plan past h.0 →
      may ≡ (not (is_at (edge_port past (mac_number (source_of f))) there) && is_member past h.0 (group_of (destination_of f))) →
      may ≡ false → IsTrue false ↔ ArrivesByGroup plan past id h.0 f
  may_not there may at_place may_is none = (
    λ t. absurd (false≢true t),
    λ a. absurd (both_ways may none (may_is
        ∙ and_from (not (is_at (edge_port past (mac_number (source_of f))) there)) (is_member past h.0 (group_of (destination_of f)))
        (ap not (sym (back_is there at_place) ∙ a.not_back)) a.member)),
  )

  pub by_group : (there : EdgePort) (reached arrived may b : Bool) → Some there ≡ edge_port_of plan past h.0 →
      IsTrue reached ↔ EndsAt (switches_of row.leg) (Some there) →
      arrived ≡ root_arrived_at plan past row.root there →
      may ≡ (not (is_at (edge_port past (mac_number (source_of f))) there) && is_member past h.0 (group_of (destination_of f))) →
      reached ≡ true → arrived ≡ false → may ≡ true →
      IsTrue b ↔ UnalteredFrom (kept plan past id).sender (kept plan past id).source (kept plan past id).beginning None f →
      IsTrue b ↔ ArrivesByGroup plan past id h.0 f
  by_group there reached arrived may b at_place reached_is arrived_is may_is reaching first allowed unaltered =
      let parts = and_parts (not (is_at (edge_port past (mac_number (source_of f))) there)) (is_member past h.0 (group_of (destination_of f)))
      (sym may_is ∙ allowed) in (
        λ t. record {
          reached = (ends_by_row plan text past id row reached (Some there) (edge_port_of plan past h.0) is at_place reached_is).0 reaching;
          unaltered = unaltered.0 t;
          first = root_is there arrived at_place arrived_is ∙ first;
          not_back = back_is there at_place ∙ not-true (is_at (edge_port past (mac_number (source_of f))) there) parts.0;
          member = parts.1;
        },
        λ a. unaltered.1 a.unaltered,
      )

-- what a frame arrives with, by its sender and the sender's address
pub unaltered_none : (sender : Option HostNo) (source : Option Pmac) (from : Option ℕ) (has : Option Pmac) (begun : List ℕ) (to : Option Mac) (f : List ℕ) →
    option_map (λ (h : HostNo). h.0) sender ≡ from → source ≡ has → (is_some sender && is_none source) ≡ true → IsTrue false ↔ UnalteredFrom from has begun to f
unaltered_none None source from has begun to f is_from is_has none = absurd (both_ways false refl none)
unaltered_none (Some h) (Some x) from has begun to f is_from is_has none = absurd (both_ways false refl none)
unaltered_none (Some h) None from has begun to f is_from is_has none = (
  λ t. absurd (false≢true t),
  λ u. absurd (subst (λ o. UnalteredFrom (Some h.0) o begun to f) (sym is_has)
      (subst (λ o. UnalteredFrom o has begun to f) (sym is_from) u)),
)

pub unaltered_by : (sender : Option HostNo) (source : Option Pmac) (from : Option ℕ) (has : Option Pmac) (begun : List ℕ) (to : Option Mac) (f : List ℕ)
    (b : Bool) →
    option_map (λ (h : HostNo). h.0) sender ≡ from → source ≡ has → (is_some sender && is_none source) ≡ false →
    IsTrue b ↔ (f ≡ arriving begun (source_of_host (option_map (λ (h : HostNo). h.0) sender) source) to) → IsTrue b ↔ UnalteredFrom from has begun to f
unaltered_by sender source from has begun to f b is_from is_has both same =
    subst (λ o. IsTrue b ↔ UnalteredFrom from o begun to f) is_has
    (subst (λ o. IsTrue b ↔ UnalteredFrom o source begun to f) is_from (by sender source both same))
  where
    by : (s : Option HostNo) (o : Option Pmac) → (is_some s && is_none o) ≡ false →
        IsTrue b ↔ (f ≡ arriving begun (source_of_host (option_map (λ (h : HostNo). h.0) s) o) to) →
        IsTrue b ↔ UnalteredFrom (option_map (λ (h : HostNo). h.0) s) o begun to f
    by None o both same = same
    by (Some h) None both same = absurd (both_ways true both refl)
    by (Some h) (Some x) both same = same

pub arrives_nowhere : (plan : Plan) (past : List Entry) (id : ℕ) (h : HostNo) (f : List ℕ) (stands : Option EdgePort) → stands ≡ edge_port_of plan past h.0 →
    stands ≡ None →
    MayFollow plan past (Arrived id h f) → ⊥
arrives_nowhere plan past id h f stands at none follows = by (goes_to_group past id) follows.0.1
  where
    nowhere : EndsAt (leg past id) (edge_port_of plan past h.0) → ⊥
    nowhere = subst (λ o. EndsAt (leg past id) o → ⊥) (sym (sym at ∙ none)) (λ e. both_ways false refl e.0)

    by : (g : Bool) → MatchBool g (ArrivesByGroup plan past id h.0 f) (ArrivesByAddress plan past id h.0 f) → ⊥
    by true arrives = nowhere arrives.reached
    by false arrives = nowhere arrives.reached

pub host_has_six_bytes : (plan : Plan) (host : ℕ) → IsPlan plan → HasSixBytes (mac_of_host plan host)
host_has_six_bytes plan host is = by (slice_get plan.hosts host) refl
  where
    by : (o : Option Host) → slice_get plan.hosts host ≡ o → HasSixBytes (option_map (λ (g : Host). g.mac) o)
    by None at = tt
    by (Some g) at =
        subst (λ (x : Host). length x.mac.0 ≡ 6) (get_or_from_slice_get plan.hosts host g g at)
        (is.host_macs host g (slice_get_within plan.hosts host g at)).six_bytes

pub six_of_source : (sender : Option ℕ) (source : Option Pmac) → HasSixBytes (source_of_host sender source)
six_of_source None source = tt
six_of_source (Some h) None = tt
six_of_source (Some h) (Some x) = length-bytes_high_first 6 (pmac_number x)

pub with_source : (begun : List ℕ) (to : Option Mac) (f : List ℕ) (from source : Option Mac) (b : Bool) → from ≡ source →
    IsTrue b ↔ (f ≡ arriving begun from to) →
    IsTrue b ↔ (f ≡ arriving begun source to)
with_source begun to f from source b same is = subst (λ (o : Option Mac). IsTrue b ↔ (f ≡ arriving begun o to)) same is
