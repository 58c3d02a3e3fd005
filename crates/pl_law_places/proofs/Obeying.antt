-- A message of the manager keeps places true.
use Rattle.std.proofs.Common.{◌≡◌, ℕ, ◌<◌, ◌==◌, ◌&&◌, not, Bool, true, false, if◌then◌else◌, List, [], ◌∷◌, map, Some, None, is_none, refl, arith, inl, inr}
use Rattle.std.specs.List.{AllByRecursion}
use Rattle.std.proofs.lemmas.Bool.{and_parts}
use Rattle.std.proofs.lemmas.Option.{same_Some}
use Rattle.pl_lemmas.proofs.Exports.{is_none_is}
use Rattle.pl_layouts.specs.Placement.{is_known}
use Rattle.pl_layouts.proofs.Exports.{known_is}
use Rattle.pl_wiring.specs.Labels.{label_of, switch_count}
use Rattle.pl_wiring.specs.Plan.{IsPlan, Plan}
use Rattle.pl_node.specs.SwitchViews.{SwitchView}
use Rattle.pl_steps.specs.Steps.{rests}
use Rattle.pl_switch_rule.specs.Levels.{changes_to}
use Rattle.pl_law_control_plane.specs.ControlPlanes.{ControlPlane}
use Rattle.pl_law_control_plane.proofs.Exports.{answers_silent, changes_to_silent, floods_silent, frees_silent, invalidates_silent, IsStill, still_does, still_step}
use Rattle.pl_law_places.specs.Places.{ArePlaced}
use Rattle.pl_law_places.proofs.Later.{IsGoodTurn}
use Rattle.pl_law_places.proofs.TurnsWithoutControlFrames.{IsGoodView, new_view, same_ports, silent_turn, view_itself}
use Rattle.pl_node.specs.declared.acts.Act.TheVariants.{Tell}
use Rattle.pl_node.specs.declared.messages.ToManager.{ToManager}
use Rattle.pl_node.specs.declared.messages.ToSwitch.{ToSwitch}
use Rattle.pl_node.specs.declared.messages.ToSwitch.TheVariants.{Answer, Avoid, Flood, Hello, Invalidate, Pod, Release, Tree}
use Rattle.pl_switch_rule.specs.Forwarding.{Choice}
use Rattle.pl_switch_rule.specs.Granting.{granted, held_here, is_granted}
use Rattle.pl_switch_rule.specs.Levels.{with_pod}
use Rattle.pl_switch_rule.specs.Messages.{answer_frame, flood_frame, hears_manager, hears_pod, takes_pod, with_part}
use Rattle.pl_switch_rule.specs.Reporting.{hears_hello, report_for}
use Rattle.pl_switch_rule.specs.SwitchRule.{IsChoice}
use Rattle.pl_law_places.specs.Places.{IsPodNumber}
use Rattle.pl_journal.proofs.Exports.{edge_of}

-- words let nothing out
words_still : (words : List ToManager) → AllByRecursion IsStill (map (λ word. Tell word) words)
words_still [] = tt
words_still (word ∷ words) = (tt, words_still words)

module _ (plan : Plan) (f : ControlPlane) (s : ℕ) (is : IsPlan plan) (old : ArePlaced plan f) (there : s < switch_count plan.k) where
  pod_view : (n : ℕ) → (f.view s).place.level ≡ Some 0 → (f.view s).place.position ≡ Some 0 → (f.view s).place.pod ≡ None → n < 65535 →
      IsGoodView plan f s (with_pod (f.view s) (Some n))
  pod_view n level position none small =
      let v : SwitchView = f.view s in
      let sound = old.sound s there in
      let edge = edge_of (label_of plan.k s) ((old.own s).level 0 level) in
      new_view plan f s is old (with_pod v (Some n)) refl
      (record { level = λ x e. e; position = λ x e. e; pod = λ x e. absurd (cc) })
      (record {
        level = (old.own s).level;
        position = (old.own s).position;
        pod = λ x e. (inl level, (let same = same_Some n x e in omega arith));
      })
      (λ m e. inr (record { pod = edge.0; i = edge.1; edge = edge.2; position = position })) (same_ports v.ports)
      (record {
        named = sound.named;
        full = record { host = sound.full.host; one = sound.full.one; two = sound.full.two; up = λ p x own l a e. absurd (cc); down = λ p x own l a e. absurd (cc) };
        able = sound.able;
        holders = sound.holders;
        homes = record { grants = sound.homes.grants; remembered = sound.homes.remembered; members = sound.homes.members };
      })

  pod_turn : (n : ℕ) → n < 65535 → IsGoodTurn plan f s (hears_pod (f.view s) n).view (hears_pod (f.view s) n).acts
  pod_turn n small = by (takes_pod (f.view s) n) refl
    where
      by : (b : Bool) → takes_pod (f.view s) n ≡ b →
          IsGoodTurn plan f s (if b then changes_to (f.view s) (with_pod (f.view s) (Some n)) else rests (f.view s)).view
          (if b then changes_to (f.view s) (with_pod (f.view s) (Some n)) else rests (f.view s)).acts
      by true e =
          let v : SwitchView = f.view s in
          let third = and_parts (is_known v.place.level 0 && is_known v.place.position 0 && is_none v.place.pod) (not (n == 65535)) e in
          let second = and_parts (is_known v.place.level 0 && is_known v.place.position 0) (is_none v.place.pod) third.0 in
          let first = and_parts (is_known v.place.level 0) (is_known v.place.position 0) second.0 in
          let good = pod_view n (known_is v.place.level 0 first.0) (known_is v.place.position 0 first.1) (is_none_is v.place.pod second.1) small in
          silent_turn plan f s is old (with_pod v (Some n)) (changes_to v (with_pod v (Some n))) good (changes_to_silent v (with_pod v (Some n)) good.sound.homes)
      by false e = silent_turn plan f s is old (f.view s) (rests (f.view s)) (view_itself plan f s is old there) (still_does (f.view s) [] (old.sound s there).homes tt)

  pub order_turn : (choose : Choice) (says : ToSwitch) → IsChoice choose → IsPodNumber says →
      IsGoodTurn plan f s (hears_manager choose (f.view s) says).view (hears_manager choose (f.view s) says).acts
  order_turn choose (Pod n) chooses small = pod_turn n small
  order_turn choose (Avoid list) chooses fine =
      let sound = old.sound s there in
      silent_turn plan f s is old (f.view s) (rests (record (f.view s) { avoid = list })) (view_itself plan f s is old there)
      (still_step (f.view s) (record (f.view s) { avoid = list }) []
      (record { id = refl; k = refl; place = refl; ports = refl; attempt = refl; proposed = refl; granted = refl; holds = refl })
      (record { grants = sound.homes.grants; remembered = sound.homes.remembered; members = sound.homes.members }) tt)
  order_turn choose (Hello epoch) chooses fine =
      let sound = old.sound s there in
      silent_turn plan f s is old (f.view s) (hears_hello (f.view s) epoch) (view_itself plan f s is old there)
      (still_step (f.view s) (record (f.view s) { epoch = epoch; avoid = []; parts = [] }) (hears_hello (f.view s) epoch).acts
      (record { id = refl; k = refl; place = refl; ports = refl; attempt = refl; proposed = refl; granted = refl; holds = refl })
      (record { grants = sound.homes.grants; remembered = sound.homes.remembered; members = sound.homes.members }) (words_still (report_for epoch (f.view s))))
  order_turn choose (Tree group part) chooses fine =
      let sound = old.sound s there in
      silent_turn plan f s is old (f.view s) (rests (record (f.view s) { parts = with_part group part (f.view s).parts })) (view_itself plan f s is old there)
      (still_step (f.view s) (record (f.view s) { parts = with_part group part (f.view s).parts }) []
      (record { id = refl; k = refl; place = refl; ports = refl; attempt = refl; proposed = refl; granted = refl; holds = refl })
      (record { grants = sound.homes.grants; remembered = sound.homes.remembered; members = sound.homes.members }) tt)
  order_turn choose (Answer asker asker_ip ip pmac) chooses fine =
      silent_turn plan f s is old (f.view s) (hears_manager choose (f.view s) (Answer asker asker_ip ip pmac)) (view_itself plan f s is old there)
      (answers_silent choose (answer_frame asker asker_ip ip pmac) (f.view s) (is_granted (f.view s) asker) chooses (old.sound s there).homes)
  order_turn choose (Flood asker asker_ip ip) chooses fine =
      silent_turn plan f s is old (f.view s) (hears_manager choose (f.view s) (Flood asker asker_ip ip)) (view_itself plan f s is old there)
      (floods_silent (flood_frame asker asker_ip ip) (f.view s) (is_granted (f.view s) asker) (old.sound s there).homes)
  order_turn choose (Invalidate before new number ip) chooses fine =
      silent_turn plan f s is old (f.view s) (hears_manager choose (f.view s) (Invalidate before new number ip)) (view_itself plan f s is old there)
      (invalidates_silent (f.view s) before (record { new = new; number = number; ip = ip }) (held_here (f.view s) before) refl (old.sound s there).homes)
  order_turn choose (Release address) chooses fine =
      silent_turn plan f s is old (f.view s) (hears_manager choose (f.view s) (Release address)) (view_itself plan f s is old there)
      (frees_silent (f.view s) address (granted (f.view s) address) refl (old.sound s there).homes)
