-- Each step keeps it that edge switches that received a frame of a host know their level.
use Rattle.std.proofs.Common.{◌≡◌, ◌⊎◌, ◌<◌, ◌+◌, ℕ, false, if◌then◌else◌, List, [], ◌∷◌, length, reverse, set, slice_get, Option, Some, None, refl, sym, ap, ◌∙◌, subst, arith, inl, inr}
use Rattle.std.specs.List.{AllByRecursion}
use Rattle.std.proofs.lemmas.Bool.{cases_eq}
use Rattle.std.proofs.lemmas.Option.{same_Some}
use Rattle.pl_layouts.specs.Control.{is_control}
use Rattle.pl_wiring.specs.Labels.{label_of}
use Rattle.pl_wiring.proofs.Exports.{label_of-edge}
use Rattle.pl_node.specs.HostInputs.{HostRule}
use Rattle.pl_node.specs.SwitchInputs.SwitchInput.{Comes}
use Rattle.pl_node.specs.SwitchViews.{SwitchView}
use Rattle.pl_journal.specs.declared.entry.Entry.TheVariants.{Crossed}
use Rattle.pl_queues.specs.Queues.{items_at}
use Rattle.pl_steps.specs.Steps.{SwitchStep}
use Rattle.pl_manager_rule.specs.WholeRule.{whole_rule}
use Rattle.pl_switch_rule.specs.SwitchRule.{Loose, control_comes, data_comes}
use Rattle.pl_switch_rule.proofs.Exports.{loose_steps_are_accounted}
use Rattle.pl_world.specs.declared.event.Event.{Event}
use Rattle.pl_world.specs.declared.event.Event.TheVariants as event
use Rattle.pl_world.specs.declared.event.QueueName.TheVariants as queue
use Rattle.pl_world.specs.declared.item.Item.{Item}
use Rattle.pl_world.specs.declared.item.Item.TheVariants.{Control, Data}
use Rattle.pl_world.specs.declared.spoken_frame.SpokenFrame.TheVariants.{Waiting}
use Rattle.pl_world.specs.declared.attachment.AttachmentPoint.{AttachmentPoint}
use Rattle.pl_world.specs.Changes.{noted, switch_no}
use Rattle.pl_world.specs.Flying.{IsDataItem}
use Rattle.pl_world.specs.WorldRule.{ComesIn, DeliversFromHost, WorldStep, heard_item}
use Rattle.pl_world.specs.Worlds.{WorldView}
use Rattle.pl_world.proofs.Exports.{all_at, all_found}
use Rattle.pl_law_control_plane.specs.ControlPlanes.{ControlPlane, control_plane}
use Rattle.pl_law_control_plane.specs.HostsAtEdges.{IsAtEdge}
use Rattle.pl_law_control_plane.specs.PlaneSteps.{SwitchTurns}
use Rattle.pl_law_control_plane.proofs.Exports.{solid, switch_turns}
use Rattle.pl_law_places.specs.Told.{IsTrueOf}
use Rattle.pl_law_places.proofs.Exports.{true_of_itself}
use Rattle.pl_law_invariant.specs.ControlInvariant.{ControlInvariant}
use Rattle.pl_law_placing.specs.Receiving.{HaveCrossed, HaveLevels}
use Rattle.pl_law_placing.proofs.HostLevels.{host_gives_level}
use Rattle.pl_law_placing.proofs.Receiving.{HostComesAt, step_goes}
use Rattle.pl_law_placing.proofs.Seeing.{Seen, Turned}
use Rattle.pl_law_placing.proofs.Seeing.Seen.{Gone, Hears, Quiet, Ticks}
use Rattle.pl_journal.specs.Flights.{label_level}

-- what was known of places is known later
turned_later : (f m g : ControlPlane) (x : ℕ) (st : SwitchStep) → Turned f m g x st → (s : ℕ) → IsTrueOf (f.view s).place (g.view s).place
turned_later f m g x st turn s = elim (cases_eq s x) [
  | inl here ↦ subst (λ y. IsTrueOf (f.view y).place (g.view y).place) (sym here)
      (subst (λ (v : SwitchView). IsTrueOf (f.view x).place v.place) (sym turn.acted.here)
      (subst (λ (v : SwitchView). IsTrueOf v.place st.view.place) (turn.left.view x) turn.good.later))
  | inr other ↦ subst (λ (v : SwitchView). IsTrueOf (f.view s).place v.place) (sym (turn.acted.others s other ∙ turn.left.view s)) (true_of_itself (f.view s).place)
]

pub seen_later : (f g : ControlPlane) → Seen f g → (s : ℕ) → IsTrueOf (f.view s).place (g.view s).place
seen_later f g (Gone same left) s = subst (λ (v : SwitchView). IsTrueOf (f.view s).place v.place) (sym (same s)) (true_of_itself (f.view s).place)
seen_later f g (Quiet m x st turn votes_left ports) s = turned_later f m g x st turn s
seen_later f g (Ticks x turn) s = turned_later f f g x _ turn s
seen_later f g (Hears m t q x port read adjacent taken good turn) s = turned_later f m g x _ turn s

module _ (old : WorldView) (kept : ControlInvariant old) (new : WorldView) where
  edge_level : (s : ℕ) → label_level (label_of old.plan.k s) ≡ 0 → (((control_plane old).view s).place.level ≡ None) ⊎ (((control_plane old).view s).place.level ≡ Some 0)
  edge_level s edge = by ((control_plane old).view s).place.level refl
    where
      by : (o : Option ℕ) → ((control_plane old).view s).place.level ≡ o → (((control_plane old).view s).place.level ≡ None) ⊎ (((control_plane old).view s).place.level ≡ Some 0)
      by None is = inl is
      by (Some x) is = inr (is ∙ ap Some ((kept.placed.own s).level x is ∙ edge))

  turns_level : (attachment : AttachmentPoint) (frame : List ℕ) → IsAtEdge old.plan attachment → is_control frame ≡ false →
      SwitchTurns Loose (control_plane old) attachment.edge.0 (Comes attachment.port frame) (control_plane new) → ((control_plane new).view attachment.edge.0).place.level ≡ Some 0
  turns_level attachment frame at is_frame turns =
      let s = attachment.edge.0 in
      let v = (control_plane old).view s in
      let choose = turns.ruled.choose in
      let step = ap (λ b. (if◌then◌else◌ {A = SwitchStep} b (control_comes v attachment.port frame) (data_comes choose v attachment.port frame)).view) is_frame in
      let within : attachment.port < length v.ports = let size = turns.size in let shaped = turns.shaped.ports in let port = at.port in omega (arith, size, shaped, port) in
      let edge = ap label_level (label_of-edge old.plan.k s at.edge) in
      ap (λ (x : SwitchView). x.place.level) (turns.acted.here ∙ turns.ruled.steps.view ∙ step)
      ∙ host_gives_level choose v attachment.port frame turns.ruled.is_choice (kept.placed.strangers s attachment.port at.free) (edge_level s edge) within (kept.placed.sound s turns.there).homes

  comes_level : (h : ℕ) (items : List Item) (item : Item) (o : Option AttachmentPoint) → slice_get old.attachments h ≡ o → IsDataItem item →
      ComesIn Loose (record old { steps = old.steps + 1; from_hosts = set old.from_hosts h items }) h item o new → (attachment : AttachmentPoint) → o ≡ Some attachment →
      ((control_plane new).view attachment.edge.0).place.level ≡ Some 0
  comes_level h items item None found is comes attachment at = absurd comes
  comes_level h items (Control frame) (Some st) found is comes attachment at = absurd is
  comes_level h items (Data id frame) (Some st) found is comes attachment at =
      let mid : WorldView = record old { steps = old.steps + 1; from_hosts = set old.from_hosts h items } in
      let there : IsAtEdge old.plan st = all_found (IsAtEdge old.plan) old.attachments h st found kept.hosts in
      let turns = switch_turns Loose loose_steps_are_accounted (noted (heard_item mid h (Data id frame)) (Crossed id (switch_no st.edge.0))) st.edge.0 (Comes st.port frame) (Waiting id false) new
      (solid old kept.counted) (λ v size. record { within = rw size there.port; whole = is.whole }) comes in
      let same : st ≡ attachment = same_Some st attachment at in
      subst (λ (x : AttachmentPoint). ((control_plane new).view x.edge.0).place.level ≡ Some 0) same (turns_level st frame there is.kind turns)

  host_level : (h : ℕ) (items : List Item) → items_at old.from_hosts h ≡ items → DeliversFromHost Loose (record old { steps = old.steps + 1 }) h items new → (attachment : AttachmentPoint) →
      slice_get old.attachments h ≡ Some attachment → ((control_plane new).view attachment.edge.0).place.level ≡ Some 0
  host_level h [] found comes attachment at = absurd comes
  host_level h (item ∷ items) found comes attachment at =
      let all : AllByRecursion IsDataItem (item ∷ items) = subst (AllByRecursion IsDataItem) found (all_at (AllByRecursion IsDataItem) old.from_hosts h [] tt kept.counted.in_host_queues) in
      comes_level h items item (slice_get old.attachments h) refl all.0 comes attachment at

  module _ (host : HostRule) where
    entered_level : (happens : Event) → WorldStep Loose whole_rule host old happens new → (s : ℕ) → HostComesAt old happens s →
        ((control_plane new).view s).place.level ≡ Some 0
    entered_level (event.Deliver (queue.FromHost h)) step s at =
        subst (λ x. ((control_plane new).view x).place.level ≡ Some 0) at.2 (host_level h.0 (items_at old.from_hosts h.0) refl step at.0 at.1)
    entered_level happens step s at = absurd at

    -- a step
    pub step_levels : (happens : Event) → HaveCrossed (reverse old.journal) old.out old.begun → HaveLevels old → ((s : ℕ) → IsTrueOf ((control_plane old).view s).place ((control_plane new).view s).place) →
        WorldStep Loose whole_rule host old happens new → HaveCrossed (reverse new.journal) new.out new.begun × HaveLevels new
    step_levels happens crossed levels later step =
        let goes = step_goes Loose whole_rule host old happens new kept.counted crossed step in (
          goes.crossed,
          λ s h. elim (goes.received s h) [
            | inl before ↦ (later s).level 0 (levels s before)
            | inr now ↦ entered_level happens step s now
          ],
        )
