-- Turns of which discovery sees a new view alone, and that send no control frame.
use Rattle.std.proofs.Common.{◌≡◌, ℕ, ◌<◌, ◌⊎◌, ◌&&◌, Bool, true, false, nat_lt, List, [], ◌++◌, Option, Some, None, is_some, get_or, refl, sym, ap, ◌∙◌, subst, inl, inr}
use Rattle.std.specs.List.{AllByRecursion}
use Rattle.std.proofs.lemmas.Bool.{and_parts, or_cases}
use Rattle.pl_lemmas.proofs.Exports.{all_append, all_weaker}
use Rattle.pl_frame.specs.declared.address.SwitchId.{SwitchId}
use Rattle.pl_layouts.specs.declared.place.Place.{Place}
use Rattle.pl_wiring.specs.declared.link.Peer.TheVariants.{HostPort}
use Rattle.pl_wiring.specs.Labels.{label_of, switch_count}
use Rattle.pl_wiring.specs.Peers.{peer_of}
use Rattle.pl_wiring.specs.Plan.{IsPlan, Plan}
use Rattle.pl_node.specs.declared.acts.Act.{Act}
use Rattle.pl_node.specs.declared.neighbour.Neighbour.{Neighbour}
use Rattle.pl_node.specs.declared.neighbour.PortRecord.{PortRecord}
use Rattle.pl_node.specs.declared.switch_records.Member.{Member}
use Rattle.pl_node.specs.PortRecords.{heard_echo, heard_place, is_id, is_usable, new_port, port_of}
use Rattle.pl_node.specs.SwitchViews.{SwitchView}
use Rattle.pl_steps.specs.Steps.{SwitchStep}
use Rattle.pl_law_control_plane.specs.ControlPlanes.{AreAdjacent, ControlPlane, is_pass, passes, sends, sent_by}
use Rattle.pl_law_control_plane.specs.Homes.{HasHomes}
use Rattle.pl_law_control_plane.proofs.Exports.{adjacent_turned, any_append, flat_map_append, IsSilent, mute_sends_none, well_passes}
use Rattle.pl_law_places.specs.Known.{HasPod, HasAllGiven, IsPlaceOfLabel, IsSoundView, told_at}
use Rattle.pl_law_places.specs.Places.{ArePlaced}
use Rattle.pl_law_places.specs.Told.{IsGoodMessage, IsGoodRecord, IsTrueOf, has_heard}
use Rattle.pl_law_places.proofs.Later.{IsGoodTurn, IsZero, true_of_itself}

-- what a new view of switch s owes, in the control plane before it
pub record IsGoodView (plan : Plan) (f : ControlPlane) (s : ℕ) (new : SwitchView) : Type 0 where
  pub id : new.id ≡ (f.view s).id
  pub later : IsTrueOf (f.view s).place new.place
  pub own : IsPlaceOfLabel plan.k (label_of plan.k s) new.place
  pub heard : (p : ℕ) → has_heard (f.view s) p ≡ true → has_heard new p ≡ true
  pub pods : (n : ℕ) → new.place.pod ≡ Some n → HasPod plan.k f.view s n ⊎ IsZero plan s new
  pub recorded : (t q p : ℕ) → AreAdjacent plan t q s p → IsGoodRecord (f.view t).id (f.view t).place (has_heard (f.view t) q) (port_of new p)
  pub strangers : (p : ℕ) → peer_of plan s p ≡ HostPort → (port_of new p).heard ≡ None
  pub sound : IsSoundView new

-- the ports hold the same but for their ages
pub record SamePorts (old new : List PortRecord) : Type 0 where
  pub heard : (p : ℕ) → (get_or new p new_port).heard ≡ (get_or old p new_port).heard
  pub host : (p : ℕ) → (get_or new p new_port).host ≡ (get_or old p new_port).host

pub same_ports : (ports : List PortRecord) → SamePorts ports ports
same_ports ports = record { heard = λ p. refl; host = λ p. refl }

pub full_same : (place : Place) (old new : List PortRecord) → SamePorts old new → HasAllGiven place old → HasAllGiven place new
full_same place old new same full = record {
  host = λ p h. full.host p (sym (same.host p) ∙ h);
  one = λ p l n. full.one p (level p 0 l) n;
  two = λ p q x y l m a b differ n. full.two p q x y (level p 1 l) (level q 1 m) (pod p x a) (pod q y b) differ n;
  up = λ p x own l a n. full.up p x own (level p 0 l) (pod p x a) n;
  down = λ p x own l a n. full.down p x own (level p 1 l) (pod p x a) n;
}
  where
    level : (p x : ℕ) → (told_at new p).level ≡ Some x → (told_at old p).level ≡ Some x
    level p x e = ap (λ h. (heard_place h).level) (sym (same.heard p)) ∙ e

    pod : (p x : ℕ) → (told_at new p).pod ≡ Some x → (told_at old p).pod ≡ Some x
    pod p x e = ap (λ h. (heard_place h).pod) (sym (same.heard p)) ∙ e

-- where hosts are known, by ports that have the same hosts
pub homes_same : (v w : SwitchView) → ((p : ℕ) → (port_of v p).host ≡ true → (port_of w p).host ≡ true) →
    ((p : ℕ) → (port_of w p).host ≡ false → (port_of v p).host ≡ false) → w.grants ≡ v.grants → w.remembered ≡ v.remembered → w.members ≡ v.members → HasHomes v → HasHomes w
homes_same v w more less grants remembered members homes = record {
  grants = λ p none. ap (λ xs. get_or xs p []) grants ∙ homes.grants p (less p none);
  remembered = λ p none. ap (λ xs. get_or xs p None) remembered ∙ homes.remembered p (less p none);
  members = rw members (all_weaker (λ (m : Member). (port_of v m.port).host ≡ true) (λ m. (port_of w m.port).host ≡ true) (λ m h. more m.port h) v.members homes.members);
}

module _ (plan : Plan) (f : ControlPlane) (s : ℕ) (is : IsPlan plan) (old : ArePlaced plan f) where
  -- the ports are the same, but for their ages
  pub new_view : (new : SwitchView) → new.id ≡ (f.view s).id → IsTrueOf (f.view s).place new.place → IsPlaceOfLabel plan.k (label_of plan.k s) new.place →
      ((n : ℕ) → new.place.pod ≡ Some n → HasPod plan.k f.view s n ⊎ IsZero plan s new) → SamePorts (f.view s).ports new.ports → IsSoundView new → IsGoodView plan f s new
  new_view new id later own pods same sound = record {
    id = id;
    later = later;
    own = own;
    heard = λ p h. ap is_some (same.heard p) ∙ h;
    pods = pods;
    recorded = λ t q p adjacent. let r = (old.links t q s p adjacent).recorded in
        record { no_host = same.host p ∙ r.no_host; known = λ n e. r.known n (sym (same.heard p) ∙ e) };
    strangers = λ p free. same.heard p ∙ old.strangers s p free;
    sound = sound;
  }

  -- and so is the place
  pub same_view : (new : SwitchView) → new.id ≡ (f.view s).id → new.place ≡ (f.view s).place → SamePorts (f.view s).ports new.ports → IsSoundView new → IsGoodView plan f s new
  same_view new id place same sound =
      new_view new id (rw place (true_of_itself (f.view s).place)) (rw place (old.own s)) (λ n e. inl (old.pods s n (ap (λ x. x.pod) (sym place) ∙ e))) same sound

  pub view_itself : s < switch_count plan.k → IsGoodView plan f s (f.view s)
  view_itself there = same_view (f.view s) refl refl (same_ports (f.view s).ports) (old.sound s there)

  -- a usable port leads to a switch that has heard this one
  usable_heard : (id : SwitchId) (place : Place) (heard : Bool) (me : SwitchId) (r : PortRecord) → IsGoodRecord id place heard r →
      (nat_lt r.silent 3 && is_id (heard_echo r.heard) me) ≡ true → heard ≡ true
  usable_heard id place heard me r good usable = by r.heard refl (and_parts (nat_lt r.silent 3) (is_id (heard_echo r.heard) me) usable).1
    where
      echoes : (n : Neighbour) → r.heard ≡ Some n → (echo : Option SwitchId) → n.echo ≡ echo → is_id echo me ≡ true → heard ≡ true
      echoes n e None same h = absurd (cc)
      echoes n e (Some other) same h = (good.known n e).evidence other same

      by : (o : Option Neighbour) → r.heard ≡ o → is_id (heard_echo o) me ≡ true → heard ≡ true
      by None e h = absurd (cc)
      by (Some n) e h = echoes n e n.echo refl h

  way_heard : (new : SwitchView) (t q p : ℕ) → IsGoodView plan f s new → AreAdjacent plan s p t q → (is_usable new p ≡ true) ⊎ ((port_of new p).host ≡ true) →
      has_heard (f.view t) q ≡ true
  way_heard new t q p good adjacent way =
      let r = good.recorded t q p (adjacent_turned plan s p t q is adjacent) in
      elim way [
        | inl usable ↦ usable_heard (f.view t).id (f.view t).place (has_heard (f.view t) q) new.id (port_of new p) r usable
        | inr host ↦ absurd (let none = r.no_host in cc)
      ]

  -- what discovery sees is a good view, and the rest is silent
  pub silent_turn : (new : SwitchView) (step : SwitchStep) → IsGoodView plan f s new → IsSilent new step → IsGoodTurn plan f s step.view step.acts
  silent_turn new step good silent = let seen = silent.seen in record {
    id = seen.id ∙ good.id;
    later = rw seen.place good.later;
    own = rw seen.place good.own;
    heard = λ p h. ap (λ ports. is_some (get_or ports p new_port).heard) seen.ports ∙ good.heard p h;
    pods = λ n e. elim (good.pods n (ap (λ x. x.pod) (sym seen.place) ∙ e)) [
      | inl has ↦ inl has
      | inr zero ↦ inr (record { pod = zero.pod; i = zero.i; edge = zero.edge; position = ap (λ x. x.position) seen.place ∙ zero.position })
    ];
    recorded = λ t q p adjacent. rw seen.ports (good.recorded t q p adjacent);
    strangers = λ p free. rw seen.ports (good.strangers p free);
    sent = λ t q p adjacent. rw (mute_sends_none p step.acts silent.mute) tt;
    passed = λ t q p adjacent h. way_heard new t q p good adjacent (well_passes new p step.acts silent.well h);
    sound = record {
      named = rw seen.id good.sound.named;
      full = rw (seen.place, seen.ports) good.sound.full;
      able = rw (seen.k, seen.attempt, seen.proposed) good.sound.able;
      holders = λ position hold e. good.sound.holders position hold (ap (λ holds. get_or holds position None) (sym seen.holds) ∙ e);
      homes = silent.homes;
    };
  }

  view_of_turn : (v : SwitchView) (acts : List Act) → IsGoodTurn plan f s v acts → IsGoodView plan f s v
  view_of_turn v acts turn = record {
    id = turn.id;
    later = turn.later;
    own = turn.own;
    heard = turn.heard;
    pods = turn.pods;
    recorded = turn.recorded;
    strangers = turn.strangers;
    sound = turn.sound;
  }

  -- a good turn that goes on silently
  pub then_silent : (v : SwitchView) (acts : List Act) (step : SwitchStep) → IsGoodTurn plan f s v acts → IsSilent v step →
      IsGoodTurn plan f s step.view (acts ++ step.acts)
  then_silent v acts step turn silent =
      let seen = silent.seen in
      let behind = silent_turn v step (view_of_turn v acts turn) silent in
      record {
        id = behind.id;
        later = behind.later;
        own = behind.own;
        heard = behind.heard;
        pods = behind.pods;
        recorded = behind.recorded;
        strangers = behind.strangers;
        sent = λ t q p adjacent. subst (AllByRecursion (IsGoodMessage step.view.id step.view.place (has_heard step.view p))) (sym (flat_map_append (sent_by p) acts step.acts))
            (all_append (IsGoodMessage step.view.id step.view.place (has_heard step.view p)) (sends p acts) (sends p step.acts)
            (rw (seen.id, seen.place, seen.ports) (turn.sent t q p adjacent)) (behind.sent t q p adjacent));
        passed = λ t q p adjacent h. elim (or_cases (passes p acts) (passes p step.acts) (sym (any_append (is_pass p) acts step.acts) ∙ h)) [
          | inl first ↦ turn.passed t q p adjacent first
          | inr second ↦ behind.passed t q p adjacent second
        ];
        sound = behind.sound;
      }
