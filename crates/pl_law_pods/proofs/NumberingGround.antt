-- The numbers of pods are in order at the beginning, and where the manager begins anew; and what follows where they are.
use Rattle.std.proofs.Common.{◌≡◌, ◌<◌, ℕ, Bool, false, cond, if◌then◌else◌, List, [], ◌∷◌, length, Option, Some, None, is_some, slice_get, refl, sym, ap, ◌∙◌, subst, arith}
use Rattle.std.specs.List.{IsDistinct, filter, list_any}
use Rattle.std.proofs.lemmas.Bool.{false≢true, or_parts}
use Rattle.std.proofs.lemmas.Option.{none-some}
use Rattle.pl_frame.specs.declared.address.SwitchId.{SwitchId}
use Rattle.pl_layouts.specs.Placement.{is_known}
use Rattle.pl_wiring.specs.declared.label.Label.TheVariants.{Edge}
use Rattle.pl_wiring.specs.Labels.{label_of}
use Rattle.pl_wiring.specs.Plan.{IsPlan, Plan}
use Rattle.pl_node.specs.declared.messages.ToManager.{ToManager}
use Rattle.pl_node.specs.declared.messages.ToManager.TheVariants as tell
use Rattle.pl_node.specs.SwitchViews.{SwitchView}
use Rattle.pl_world.specs.declared.limits.Limits.{Limits}
use Rattle.pl_world.specs.Booting.{booted}
use Rattle.pl_law_control_plane.specs.ControlPlanes.{ControlPlane, control_plane}
use Rattle.pl_law_control_plane.proofs.Exports.{booted_view}
use Rattle.pl_law_due.specs.Due.{due_plane, is_silent, words_of}
use Rattle.pl_law_control_plane.specs.Restarts.{Restarts}
use Rattle.pl_law_due.proofs.Exports.{none_loud, restart_due, restart_missing}
use Rattle.pl_law_places.specs.Known.{IsZeroOf, pod_of}
use Rattle.pl_law_places.specs.Places.{ArePlaced}
use Rattle.pl_law_votes.specs.Voting.{FixedAreApart}
use Rattle.pl_law_pods.specs.Numbering.{AreNumbered, own_pods}
use Rattle.pl_law_pods.specs.Pods.{id_of}
use Rattle.pl_law_pods.specs.Ways.{how_many, is_number, is_wish, one_if, own_pod}
use Rattle.pl_law_pods.proofs.Acting.{own_none, own_some}
use Rattle.pl_law_pods.proofs.Apart.{anew_apart}
use Rattle.pl_law_pods.proofs.GivingApart.{zero_named}
use Rattle.pl_law_pods.proofs.WaysDue.{ways_anew, ways_at_first}
use Rattle.pl_law_pods.proofs.WordsDue.{truly_anew, truly_at_first}

-- ---- the beginning
none_at_first : (plan : Plan) (limits : Limits) (s n : ℕ) → own_pods (control_plane (booted plan limits)).view s ≡ Some n → ⊥
none_at_first plan limits s n known =
    let f = control_plane (booted plan limits) in
    let position : (f.view s).place.position ≡ None = booted_view (λ (v : SwitchView). v.place.position ≡ None) (λ i k. refl) plan.k plan.ids s in
    let none = ap (λ (o : Option ℕ). if is_known o 0 then (f.view s).place.pod else None) position in
    none-some n (sym none ∙ known)

pub numbered_at_first : (plan : Plan) (limits : Limits) → AreNumbered (control_plane (booted plan limits))
unfolding IsDistinct
numbered_at_first plan limits =
    let f = control_plane (booted plan limits) in
    let nobody = none_at_first plan limits in
    record {
      ways = ways_at_first plan limits;
      truly = truly_at_first plan limits;
      knowers = λ s t n first second. absurd (nobody s n first);
      below = λ s n known. absurd (nobody s n known);
      gives = λ whole. record {
        apart = anew_apart (id_of plan) (own_pods f.view) f.manager.told (λ s t n first second. absurd (nobody s n first))
            (λ s n known. absurd (nobody s n known));
        once = tt;
        given = tt;
        places = tt;
      };
      first = λ part. absurd (false≢true (sym part));
    }

-- ---- the manager begins anew
pub numbered_anew : (f g : ControlPlane) → IsPlan f.plan → AreNumbered f → Restarts f g → AreNumbered g
numbered_anew f g is all restarts =
    let own : (t : ℕ) → own_pods g.view t ≡ own_pods f.view t = λ t. ap (λ (v : SwitchView). own_pod v.place) (restarts.alike.view t) in
    record {
      ways = ways_anew f g is restarts;
      truly = truly_anew f g (restart_due f g is restarts);
      knowers = λ s t n first second. all.knowers s t n (sym (own s) ∙ first) (sym (own t) ∙ second);
      below = λ s n known. subst (λ (p : Plan). n < p.k) (sym restarts.alike.plan) (all.below s n (sym (own s) ∙ known));
      gives = λ whole. absurd (false≢true (sym (restart_missing f g is restarts) ∙ whole));
      first = λ part s id named loud. absurd (none_loud f g is restarts s id named loud);
    }

-- ---- what follows
none_counted : {X : Type 0} (p : X → Bool) (xs : List X) → list_any p xs ≡ false → how_many p xs ≡ 0
none_counted p [] none = refl
none_counted p (x ∷ xs) none =
    let two = or_parts (p x) (list_any p xs) none in
    ap (λ b. length (cond b (x ∷ filter p xs) (filter p xs))) two.0 ∙ none_counted p xs two.1

-- a wish is a word
pub wish_words : (queue : List ToManager) → list_any is_wish (words_of queue) ≡ list_any is_wish queue
wish_words [] = refl
wish_words (tell.Begin n ∷ queue) = wish_words queue
wish_words (tell.End n ∷ queue) = wish_words queue
wish_words (tell.Place place ∷ queue) = wish_words queue
wish_words (tell.Link u usable ∷ queue) = wish_words queue
wish_words (tell.PodWanted ∷ queue) = refl
wish_words (tell.Learned a b c ∷ queue) = wish_words queue
wish_words (tell.Aged a b ∷ queue) = wish_words queue
wish_words (tell.Trapped a b c ∷ queue) = wish_words queue
wish_words (tell.Query a b c ∷ queue) = wish_words queue
wish_words (tell.Members group any ∷ queue) = wish_words queue

-- an edge switch with position 0 knows its pod where no wish of it is due and no number waits for it
pub first_knows : (f : ControlPlane) → IsPlan f.plan → ArePlaced f.plan f → FixedAreApart f.plan f.view → AreNumbered f → (s : ℕ) →
    (f.view s).place.position ≡ Some 0 →
    is_silent f.orders s ≡ false → ((id : SwitchId) → slice_get f.plan.ids s ≡ Some id → list_any is_wish ((due_plane f).reports s) ≡ false) →
    list_any is_number (f.orders s) ≡ false →
    (n : ℕ) × ((f.view s).place.pod ≡ Some n)
first_knows f is placed apart all s position loud wishes numbers = by (f.view s).place.pod refl
  where
    by : (o : Option ℕ) → (f.view s).place.pod ≡ o → (n : ℕ) × ((f.view s).place.pod ≡ Some n)
    by (Some n) known = (n, known)
    by None none =
        let id = id_of f.plan s in
        let named = zero_named f is placed apart s position in
        let way = all.ways s id named loud in
        let no_wish = none_counted is_wish ((due_plane f).reports s) (wishes id named) in
        let no_number = none_counted is_number (f.orders s) numbers in
        let unknown = ap (λ (o : Option ℕ). one_if (is_some o)) (own_none (f.view s).place none) in
        let zero = ap (λ (o : Option ℕ). one_if (is_known o 0)) position in
        absurd (omega (arith, way, no_wish, no_number, unknown, zero))

module _ (f : ControlPlane) (placed : ArePlaced f.plan f) (all : AreNumbered f) where
  -- a known pod is that of the pod's edge switch with position 0, and below how many pods there are
  pub known_below : (s n : ℕ) → (f.view s).place.pod ≡ Some n → (z : ℕ) × IsZeroOf f.plan.k f.view s n z × (n < f.plan.k)
  known_below s n known =
      let lowest = placed.pods s n known in
      (lowest.0, lowest.1, all.below lowest.0 n (own_some (f.view lowest.0).place n lowest.1.position lowest.1.number))

  -- the edge switches with position 0 of pods with one number are one
  pub one_zero : (s t n z y : ℕ) → IsZeroOf f.plan.k f.view s n z → IsZeroOf f.plan.k f.view t n y → z ≡ y
  one_zero s t n z y first second =
      all.knowers z y n (own_some (f.view z).place n first.position first.number) (own_some (f.view y).place n second.position second.number)

  -- so switches that know one number are of one pod
  pub one_pod : (s t n : ℕ) → (f.view s).place.pod ≡ Some n → (f.view t).place.pod ≡ Some n → pod_of (label_of f.plan.k s) ≡ pod_of (label_of f.plan.k t)
  one_pod s t n first second =
      let here = placed.pods s n first in
      let there = placed.pods t n second in
      let same = one_zero s t n here.0 there.0 here.1 there.1 in
      let edges : Edge here.1.pod here.1.i ≡ Edge there.1.pod there.1.i = sym here.1.edge ∙ ap (label_of f.plan.k) same ∙ there.1.edge in
      here.1.of_pod ∙ ap Some (pods here.1.pod here.1.i there.1.pod there.1.i edges) ∙ sym there.1.of_pod
    where
      pods : (p i q j : ℕ) → Edge p i ≡ Edge q j → p ≡ q
      pods p i q j same = cc same
