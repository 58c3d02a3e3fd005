-- What is true of a place stays true of a later one, and a turn that meets its obligations keeps places true.
use Rattle.std.proofs.Common.{◌≡◌, ℕ, ◌⊎◌, Bool, true, List, ◌++◌, Option, Some, None, sym, ap, ◌∙◌, subst, inl, inr}
use Rattle.std.specs.List.{AllByRecursion}
use Rattle.std.proofs.lemmas.Bool.{cases_eq}
use Rattle.pl_lemmas.proofs.Exports.{all_append, all_behind, all_weaker}
use Rattle.pl_frame.specs.declared.address.SwitchId.{SwitchId}
use Rattle.pl_layouts.specs.declared.control.Control.{Control}
use Rattle.pl_layouts.specs.declared.control.Control.TheVariants as control
use Rattle.pl_layouts.specs.declared.place.Place.{Place}
use Rattle.pl_wiring.specs.declared.label.Label.TheVariants.{Edge}
use Rattle.pl_wiring.specs.declared.link.Peer.TheVariants.{HostPort}
use Rattle.pl_wiring.specs.Labels.{label_of}
use Rattle.pl_wiring.specs.Peers.{peer_of}
use Rattle.pl_wiring.specs.Plan.{IsPlan, Plan}
use Rattle.pl_node.specs.declared.acts.Act.{Act}
use Rattle.pl_node.specs.declared.neighbour.PortRecord.{PortRecord}
use Rattle.pl_node.specs.PortRecords.{port_of}
use Rattle.pl_node.specs.SwitchViews.{SwitchView}
use Rattle.pl_law_control_plane.specs.ControlPlanes.{AreAdjacent, ControlPlane, passes, sends, unless}
use Rattle.pl_law_control_plane.specs.PlaneSteps.{IsActed, IsLeft, LeftOver}
use Rattle.pl_law_control_plane.proofs.Exports.{adjacent_differ, unless_all}
use Rattle.pl_law_places.specs.Known.{HasPod, IsPlaceOfLabel, IsSoundView, IsZeroOf, pod_of}
use Rattle.pl_law_places.specs.Places.{ArePlaced}
use Rattle.pl_law_places.specs.Told.{IsGoodLink, IsGoodMessage, IsGoodRecord, IsOf, IsTrulyTold, IsTrueOf, has_heard}

pub true_later : (told old new : Place) → IsTrueOf told old → IsTrueOf old new → IsTrueOf told new
true_later told old new a b = record {
  level = λ x e. b.level x (a.level x e);
  position = λ x e. b.position x (a.position x e);
  pod = λ x e. b.pod x (a.pod x e);
}

pub true_of_itself : (place : Place) → IsTrueOf place place
true_of_itself place = record { level = λ x e. e; position = λ x e. e; pod = λ x e. e }

told_later : (id : SwitchId) (old new : Place) (heard also : Bool) (told : SwitchId) (place : Place) (echo : Option SwitchId) → IsTrueOf old new →
    (heard ≡ true → also ≡ true) → IsTrulyTold id old heard told place echo → IsTrulyTold id new also told place echo
told_later id old new heard also told place echo later more is = record {
  named = is.named;
  so = true_later place old new is.so later;
  evidence = λ other e. more (is.evidence other e);
}

pub message_later : (id : SwitchId) (old new : Place) (heard also : Bool) → IsTrueOf old new → (heard ≡ true → also ≡ true) → (c : Control) →
    IsGoodMessage id old heard c → IsGoodMessage id new also c
message_later id old new heard also later more c is = record { writable = is.writable; of_sender = by c is.of_sender }
  where
    by : (c : Control) → IsOf id old heard c → IsOf id new also c
    by (control.Ldm told m) is = told_later id old new heard also told m.place m.echo later more is
    by (control.Proposal told p) is = is
    by (control.Vote told vote) is = is

pub record_later : (id : SwitchId) (old new : Place) (heard also : Bool) (r : PortRecord) → IsTrueOf old new → (heard ≡ true → also ≡ true) →
    IsGoodRecord id old heard r → IsGoodRecord id new also r
record_later id old new heard also r later more is = record {
  no_host = is.no_host;
  known = λ n e. told_later id old new heard also n.id n.place n.echo later more (is.known n e);
}

-- the switch is the edge switch of position 0 of its pod
pub record IsZero (plan : Plan) (s : ℕ) (v : SwitchView) : Type 0 where
  pub pod : ℕ
  pub i : ℕ
  pub edge : label_of plan.k s ≡ Edge pod i
  pub position : v.place.position ≡ Some 0

-- what a turn of a switch owes, in the control plane before it
pub record IsGoodTurn (plan : Plan) (f : ControlPlane) (s : ℕ) (after : SwitchView) (acts : List Act) : Type 0 where
  pub id : after.id ≡ (f.view s).id
  pub later : IsTrueOf (f.view s).place after.place
  pub own : IsPlaceOfLabel plan.k (label_of plan.k s) after.place
  pub heard : (p : ℕ) → has_heard (f.view s) p ≡ true → has_heard after p ≡ true
  pub pods : (n : ℕ) → after.place.pod ≡ Some n → HasPod plan.k f.view s n ⊎ IsZero plan s after
  pub recorded : (t q p : ℕ) → AreAdjacent plan t q s p → IsGoodRecord (f.view t).id (f.view t).place (has_heard (f.view t) q) (port_of after p)
  pub strangers : (p : ℕ) → peer_of plan s p ≡ HostPort → (port_of after p).heard ≡ None
  pub sent : (t q p : ℕ) → AreAdjacent plan s p t q → AllByRecursion (IsGoodMessage after.id after.place (has_heard after p)) (sends p acts)
  pub passed : (t q p : ℕ) → AreAdjacent plan s p t q → passes p acts ≡ true → has_heard (f.view t) q ≡ true
  pub sound : IsSoundView after

-- the switch at the first end steps
link_sent : (v after b : SwitchView) (p q : ℕ) (says more : List Control) (failed carries carried : Bool) → after.id ≡ v.id → IsTrueOf v.place after.place →
    (has_heard v p ≡ true → has_heard after p ≡ true) → AllByRecursion (IsGoodMessage after.id after.place (has_heard after p)) more →
    (carried ≡ true → has_heard b q ≡ true) → IsGoodLink v p b q says carries → IsGoodLink after p b q (says ++ unless failed more) carried
link_sent v after b p q says more failed carries carried id later heard sent passed is = record {
  queued = all_append (IsGoodMessage after.id after.place (has_heard after p)) says (unless failed more)
      (rw id (all_weaker (IsGoodMessage v.id v.place (has_heard v p)) (IsGoodMessage v.id after.place (has_heard after p))
      (message_later v.id v.place after.place (has_heard v p) (has_heard after p) later heard) says is.queued))
      (unless_all (IsGoodMessage after.id after.place (has_heard after p)) failed more sent);
  evidence = passed;
  recorded = rw id (record_later v.id v.place after.place (has_heard v p) (has_heard after p) (port_of b q) later heard is.recorded);
}

-- the switch at the second end steps
link_came : (a v after : SwitchView) (p q : ℕ) (says : List Control) (carries : Bool) → (has_heard v q ≡ true → has_heard after q ≡ true) →
    IsGoodRecord a.id a.place (has_heard a p) (port_of after q) → IsGoodLink a p v q says carries → IsGoodLink a p after q says carries
link_came a v after p q says carries heard recorded is = record {
  queued = is.queued;
  evidence = λ e. heard (is.evidence e);
  recorded = recorded;
}

-- z knows the pod also later
pub zero_later : (k : ℕ) (old new : ℕ → SwitchView) (s n z : ℕ) → IsTrueOf (old z).place (new z).place → IsZeroOf k old s n z → IsZeroOf k new s n z
zero_later k old new s n z later is = record {
  pod = is.pod;
  i = is.i;
  of_pod = is.of_pod;
  edge = is.edge;
  position = later.position 0 is.position;
  number = later.pod n is.number;
}

module _ (plan : Plan) (f g : ControlPlane) (s : ℕ) (after : SwitchView) (failed : ℕ → Bool) (acts : List Act) (is : IsPlan plan) (old : ArePlaced plan f)
    (acted : IsActed f s after failed acts g) (turn : IsGoodTurn plan f s after acts) where
  later_at : (t : ℕ) → IsTrueOf (f.view t).place (g.view t).place
  later_at t = elim (cases_eq t s) [
    | inl same ↦ rw same (rw acted.here turn.later)
    | inr differ ↦ rw (acted.others t differ) (true_of_itself (f.view t).place)
  ]

  link_after : (a p b q : ℕ) → AreAdjacent plan a p b q → IsGoodLink (g.view a) p (g.view b) q (g.says a p) (g.carries a p)
  link_after a p b q adjacent = elim (cases_eq a s) [
    | inl same ↦
        let differ : (b ≡ s → ⊥) = λ e. adjacent_differ plan a p b q is adjacent (same ∙ sym e) in
        let here : AreAdjacent plan s p b q = subst (λ x. AreAdjacent plan x p b q) same adjacent in
        rw same (rw (acted.here, acted.others b differ, acted.says p)
        (link_sent (f.view s) after (f.view b) p q (f.says s p) (sends p acts) (failed p) (f.carries s p) (g.carries s p) turn.id turn.later (turn.heard p)
        (turn.sent b q p here) (λ e. elim (acted.carries p e) [ inl before ↦ (old.links s p b q here).evidence before | inr passed ↦ turn.passed b q p here passed ])
        (old.links s p b q here)))
    | inr differ ↦
        rw (acted.others a differ, acted.other_says a p differ, acted.other_carries a p differ)
        (elim (cases_eq b s) [
          | inl same ↦
              let here : AreAdjacent plan a p s q = subst (λ x. AreAdjacent plan a p x q) same adjacent in
              rw same (rw acted.here (link_came (f.view a) (f.view s) after p q (f.says a p) (f.carries a p) (turn.heard q) (turn.recorded a p q here) (old.links a p s q here)))
          | inr away ↦ rw (acted.others b away) (old.links a p b q adjacent)
        ])
  ]

  pod_after : (t n : ℕ) → (g.view t).place.pod ≡ Some n → HasPod plan.k g.view t n
  pod_after t n known = elim (cases_eq t s) [
    | inl same ↦
        let here : after.place.pod ≡ Some n = ap (λ v. v.place.pod) (sym acted.here) ∙ subst (λ x. (g.view x).place.pod ≡ Some n) same known in
        elim (turn.pods n here) [
          | inl has ↦ subst (λ x. HasPod plan.k g.view x n) (sym same) (has.0, zero_later plan.k f.view g.view s n has.0 (later_at has.0) has.1)
          | inr zero ↦ subst (λ x. HasPod plan.k g.view x n) (sym same) (
            s,
            record {
              pod = zero.pod;
              i = zero.i;
              of_pod = ap pod_of zero.edge;
              edge = zero.edge;
              position = ap (λ v. v.place.position) acted.here ∙ zero.position;
              number = ap (λ v. v.place.pod) acted.here ∙ here;
            },
          )
        ]
    | inr differ ↦
        let has = old.pods t n (ap (λ v. v.place.pod) (sym (acted.others t differ)) ∙ known) in
        (has.0, zero_later plan.k f.view g.view t n has.0 (later_at has.0) has.1)
  ]

  pub turn_keeps : ArePlaced plan g
  turn_keeps = record {
    links = link_after;
    strangers = λ t p free. elim (cases_eq t s) [
      | inl same ↦ rw same (rw acted.here (turn.strangers p (subst (λ x. peer_of plan x p ≡ HostPort) same free)))
      | inr differ ↦ rw (acted.others t differ) (old.strangers t p free)
    ];
    own = λ t. elim (cases_eq t s) [
      | inl same ↦ rw same (rw acted.here turn.own)
      | inr differ ↦ rw (acted.others t differ) (old.own t)
    ];
    pods = pod_after;
    sound = λ t there. elim (cases_eq t s) [
      | inl same ↦ rw same (rw acted.here turn.sound)
      | inr differ ↦ rw (acted.others t differ) (old.sound t there)
    ];
  }

pub all_left : {T : Type 0} (P : T → Type 0) (before after : List T) → LeftOver {T = T} before after → AllByRecursion P before → AllByRecursion P after
all_left P before after left all = all_behind P left.gone after (subst (AllByRecursion P) left.split all)

pub left_keeps : (plan : Plan) (f g : ControlPlane) → IsLeft f g → ArePlaced plan f → ArePlaced plan g
left_keeps plan f g left old = record {
  links = λ s p t q adjacent. let link = old.links s p t q adjacent in rw (left.view s, left.view t) (record {
    queued = all_left (IsGoodMessage (f.view s).id (f.view s).place (has_heard (f.view s) p)) (f.says s p) (g.says s p) (left.says s p) link.queued;
    evidence = λ e. link.evidence (left.carries s p e);
    recorded = link.recorded;
  });
  strangers = λ s p free. rw (left.view s) (old.strangers s p free);
  own = λ s. rw (left.view s) (old.own s);
  pods = λ s n known.
      let has = old.pods s n (ap (λ v. v.place.pod) (sym (left.view s)) ∙ known) in
      (has.0, zero_later plan.k f.view g.view s n has.0 (rw (left.view has.0) (true_of_itself (f.view has.0).place)) has.1);
  sound = λ s there. rw (left.view s) (old.sound s there);
}
