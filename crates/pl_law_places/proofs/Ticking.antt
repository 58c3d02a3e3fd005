-- A tick keeps places true.
use Rattle.std.proofs.Common.{◌≡◌, ℕ, ◌<◌, ◌≤◌, true, false, List, [], ◌∷◌, ◌++◌, map, Option, Some, None, is_some, refl, sym, ◌∙◌, subst, arith, inl, inr}
use Rattle.std.specs.List.{AllByRecursion}
use Rattle.std.proofs.lemmas.Bool.{cases_eq, eq-eqb, ne_eqb}
use Rattle.pl_lemmas.proofs.Exports.{all_append}
use Rattle.pl_frame.specs.declared.address.SwitchId.{SwitchId}
use Rattle.pl_layouts.specs.declared.control.Control.{Control}
use Rattle.pl_layouts.specs.declared.control.Control.TheVariants as control
use Rattle.pl_layouts.specs.declared.place.Place.{Place}
use Rattle.pl_ldp.specs.Writable.{IsWritableId}
use Rattle.pl_wiring.specs.declared.label.Label.{Label}
use Rattle.pl_wiring.specs.declared.label.Label.TheVariants.{Aggregation, Core, Edge}
use Rattle.pl_wiring.specs.Labels.{label_of, switch_count}
use Rattle.pl_wiring.specs.Plan.{IsPlan, Plan}
use Rattle.pl_node.specs.declared.acts.Act.{Act}
use Rattle.pl_node.specs.declared.acts.Act.TheVariants as act
use Rattle.pl_node.specs.declared.neighbour.Neighbour.{Neighbour}
use Rattle.pl_node.specs.declared.neighbour.PortRecord.{PortRecord}
use Rattle.pl_node.specs.Announcements.{announcement, direction_of}
use Rattle.pl_node.specs.PortRecords.{aged, heard_id, id_at, port_of, ports_where}
use Rattle.pl_node.specs.SwitchViews.{SwitchView}
use Rattle.pl_node.proofs.Exports.{aged_at, direction_low}
use Rattle.pl_steps.specs.Steps.{SwitchStep}
use Rattle.pl_switch_rule.specs.Aging.{ages}
use Rattle.pl_switch_rule.specs.Announcing.{announces_at, proposal, proposes_at, tells_neighbours, ticks, with_aged_ports}
use Rattle.pl_switch_rule.specs.Telling.{changes_told}
use Rattle.pl_law_control_plane.specs.ControlPlanes.{AreAdjacent, ControlPlane, is_pass, message_in, messages_of, passes, sends, sent_by}
use Rattle.pl_law_control_plane.specs.Discovery.{CanBeTold, CanPropose}
use Rattle.pl_law_control_plane.proofs.Exports.{adjacent_there, adjacent_turned, ages_silent, any_append, changes_told_still, flat_map_append, IsStill, ldm_writable, mute_sends_none, proposal_writable, still_mute, written_is_read}
use Rattle.pl_law_places.specs.Known.{IsAble, IsPlaceOfLabel, IsSoundView}
use Rattle.pl_law_places.specs.Places.{ArePlaced}
use Rattle.pl_law_places.specs.Told.{IsGoodMessage, has_heard}
use Rattle.pl_law_places.proofs.Later.{IsGoodTurn, true_of_itself}
use Rattle.pl_law_places.proofs.TurnsWithoutControlFrames.{IsGoodView, SamePorts, full_same, homes_same, same_view, then_silent}
use Rattle.pl_journal.specs.Flights.{label_level}

level_low : (label : Label) → label_level label < 3
level_low (Edge pod i) = omega arith
level_low (Aggregation pod j) = omega arith
level_low (Core group m) = omega arith

-- an own place can be told
pub own_told : (k : ℕ) (label : Label) (place : Place) → k ≤ 24 → IsPlaceOfLabel k label place → CanBeTold place
own_told k label place small own = record {
  level = λ x e. (let low = level_low label in let same = own.level x e in omega arith);
  position = λ x e. (let p = own.position x e in (p.0, omega (arith, p.1)));
  pod = λ x e. own.pod x e;
}

pub able_told : (k attempt proposed : ℕ) → k ≤ 24 → IsAble k attempt proposed → CanPropose attempt proposed
able_told k attempt proposed small able = record {
  begun = able.begun;
  attempt_fits = able.within;
  position_fits = (let less = able.position in omega arith);
}

-- what goes out of one port, of the frames that are sent out of some ports
pub sends_map : (P : Control → Type 0) (frame : ℕ → List ℕ) (p : ℕ) (ports : List ℕ) → AllByRecursion P (messages_of (message_in (frame p))) →
    AllByRecursion P (sends p (map (λ port. act.Control port (frame port)) ports))
sends_map P frame p [] all = tt
sends_map P frame p (q ∷ ports) all =
    all_append P (sent_by p (act.Control q (frame q))) (sends p (map (λ port. act.Control port (frame port)) ports))
    (elim (cases_eq q p) [
      | inl same ↦ rw (eq-eqb q p same) (subst (λ x. AllByRecursion P (messages_of (message_in (frame x)))) (sym same) all)
      | inr differ ↦ rw (ne_eqb q p differ) tt
    ]) (sends_map P frame p ports all)

passes_map : (frame : ℕ → List ℕ) (p : ℕ) (ports : List ℕ) → passes p (map (λ port. act.Control port (frame port)) ports) ≡ false
passes_map frame p [] = refl
passes_map frame p (q ∷ ports) = passes_map frame p ports

still_passes : (p : ℕ) (acts : List Act) → AllByRecursion IsStill acts → passes p acts ≡ false
still_passes p [] all = refl
still_passes p (act.Control port frame ∷ acts) all = absurd all.0
still_passes p (act.Pass port frame ∷ acts) all = absurd all.0
still_passes p (a ∷ acts) all = still_passes p acts all.1

pub aged_same : (ports : List PortRecord) → SamePorts ports (map aged ports)
aged_same ports = record { heard = λ p. rw (aged_at ports p) refl; host = λ p. rw (aged_at ports p) refl }

-- the id that was heard is a switch's, and evidence
heard_some : (o : Option Neighbour) (x : SwitchId) → heard_id o ≡ Some x → is_some o ≡ true
heard_some None x e = absurd (cc)
heard_some (Some n) x e = refl

module _ (plan : Plan) (f : ControlPlane) (s : ℕ) (is : IsPlan plan) (old : ArePlaced plan f) (there : s < switch_count plan.k) (size : (f.view s).k ≡ plan.k) where
  echo_id : (new : SwitchView) (t q p : ℕ) (x : SwitchId) → IsGoodView plan f s new → AreAdjacent plan s p t q → id_at new p ≡ Some x → IsWritableId x
  echo_id new t q p x good adjacent e = by (port_of new p).heard refl e
    where
      back : AreAdjacent plan t q s p
      back = adjacent_turned plan s p t q is adjacent

      by : (o : Option Neighbour) → (port_of new p).heard ≡ o → heard_id o ≡ Some x → IsWritableId x
      by None same h = absurd (cc)
      by (Some n) same h =
          let told = (good.recorded t q p back).known n same in
          let id : x ≡ (f.view t).id = (let e : n.id ≡ x = cc in sym e ∙ told.named) in
          rw id (old.sound t (adjacent_there plan t q s p is back).0).named

  -- what is announced is true
  announced : (new : SwitchView) (t q p : ℕ) → IsGoodView plan f s new → AreAdjacent plan s p t q →
      AllByRecursion (IsGoodMessage new.id new.place (has_heard new p)) (messages_of (message_in (announcement new p)))
  announced new t q p good adjacent =
      let writable = ldm_writable new.id new.place (direction_of new p) (id_at new p) good.sound.named (own_told plan.k (label_of plan.k s) new.place is.arity.most good.own)
      (direction_low new p) (λ x e. echo_id new t q p x good adjacent e) in
      rw (written_is_read (control.Ldm new.id (record { place = new.place; direction = direction_of new p; echo = id_at new p })) writable) (
        record {
          writable = writable;
          of_sender = record { named = refl; so = true_of_itself new.place; evidence = λ other e. heard_some (port_of new p).heard other e };
        },
        tt,
      )

  proposed : (new : SwitchView) (p : ℕ) → new.k ≡ plan.k → IsSoundView new → AllByRecursion (IsGoodMessage new.id new.place (has_heard new p)) (messages_of (message_in (proposal new)))
  proposed new p same sound =
      let most : new.k ≤ 24 = rw same is.arity.most in
      let writable = proposal_writable new.id new.attempt new.proposed sound.named (able_told new.k new.attempt new.proposed most sound.able) in
      rw (written_is_read (control.Proposal new.id (record { attempt = new.attempt; position = new.proposed })) writable)
      (record { writable = writable; of_sender = refl }, tt)

  ticked_sound : IsSoundView (with_aged_ports (f.view s))
  ticked_sound = let v = f.view s in let sound = old.sound s there in let same = aged_same v.ports in record {
    named = sound.named;
    full = full_same v.place v.ports (map aged v.ports) same sound.full;
    able = sound.able;
    holders = sound.holders;
    homes = homes_same v (with_aged_ports v) (λ p h. same.host p ∙ h) (λ p h. sym (same.host p) ∙ h) refl refl refl sound.homes;
  }

  neighbours_turn : IsGoodTurn plan f s (tells_neighbours (f.view s)).view (tells_neighbours (f.view s)).acts
  neighbours_turn =
      let v : SwitchView = f.view s in
      let new : SwitchView = with_aged_ports v in
      let good = same_view plan f s is old new refl refl (aged_same v.ports) ticked_sound in
      record {
        id = good.id;
        later = good.later;
        own = good.own;
        heard = good.heard;
        pods = good.pods;
        recorded = good.recorded;
        strangers = good.strangers;
        sent = λ t q p adjacent. sent_at t q p adjacent new good;
        passed = λ t q p adjacent h. absurd (let e = no_pass p in cc);
        sound = good.sound;
      }
    where
      first : List Act
      first = map (λ port. act.Control port (announcement (with_aged_ports (f.view s)) port)) (ports_where (with_aged_ports (f.view s)) (announces_at (with_aged_ports (f.view s))))

      second : List Act
      second = map (λ port. act.Control port (proposal (with_aged_ports (f.view s)))) (ports_where (with_aged_ports (f.view s)) (proposes_at (with_aged_ports (f.view s))))

      told : List Act
      told = changes_told (f.view s) (with_aged_ports (f.view s))

      sent_at : (t q p : ℕ) → AreAdjacent plan s p t q → (new : SwitchView) → IsGoodView plan f s (with_aged_ports (f.view s)) →
          AllByRecursion (IsGoodMessage (with_aged_ports (f.view s)).id (with_aged_ports (f.view s)).place (has_heard (with_aged_ports (f.view s)) p))
          (sends p (tells_neighbours (f.view s)).acts)
      sent_at t q p adjacent new good =
          rw (
            flat_map_append (sent_by p) told (first ++ second),
            mute_sends_none p told (still_mute told (changes_told_still (f.view s) (with_aged_ports (f.view s)))),
            flat_map_append (sent_by p) first second,
          )
          (all_append _ (sends p first) (sends p second)
          (sends_map _ (announcement (with_aged_ports (f.view s))) p _ (announced (with_aged_ports (f.view s)) t q p good adjacent))
          (sends_map _ (λ port. proposal (with_aged_ports (f.view s))) p _ (proposed (with_aged_ports (f.view s)) p size good.sound)))

      no_pass : (p : ℕ) → passes p (tells_neighbours (f.view s)).acts ≡ false
      no_pass p =
          any_append (is_pass p) told (first ++ second)
          ∙ rw (
            still_passes p told (changes_told_still (f.view s) (with_aged_ports (f.view s))),
            any_append (is_pass p) first second,
            passes_map (announcement (with_aged_ports (f.view s))) p (ports_where (with_aged_ports (f.view s)) (announces_at (with_aged_ports (f.view s)))),
            passes_map (λ port. proposal (with_aged_ports (f.view s))) p (ports_where (with_aged_ports (f.view s)) (proposes_at (with_aged_ports (f.view s)))),
          ) refl

  pub tick_turn : IsGoodTurn plan f s (ticks (f.view s)).view (ticks (f.view s)).acts
  tick_turn =
      let told : SwitchStep = tells_neighbours (f.view s) in
      then_silent plan f s is old told.view told.acts (ages told.view) neighbours_turn (ages_silent told.view ticked_sound.homes)
