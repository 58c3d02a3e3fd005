-- In a settled fabric the edge switch with position 0 knows its pod, so the others of a pod whose links are live do; and where frames of hosts were
-- received they know all of their places.
use Rattle.std.proofs.Common.{◌≡◌, ℕ, zero, suc, ◌||◌, Bool, false, List, [], ◌∷◌, Some, Contains, slice_get, refl, ap, ◌∙◌, arith}
use Rattle.std.specs.List.{list_any}
use Rattle.pl_frame.specs.declared.address.SwitchId.{SwitchId}
use Rattle.pl_layouts.specs.declared.place.Place.{Place}
use Rattle.pl_node.specs.declared.messages.ToManager.{ToManager}
use Rattle.pl_node.specs.declared.messages.ToManager.TheVariants as tell
use Rattle.pl_node.specs.declared.messages.ToSwitch.{ToSwitch}
use Rattle.pl_node.specs.declared.messages.ToSwitch.TheVariants as say
use Rattle.pl_queues.specs.Queues.{items_at}
use Rattle.pl_world.specs.SettledQueues.{HasSettledQueues, IsQuestion, IsReply}
use Rattle.pl_world.specs.Worlds.{WorldView}
use Rattle.pl_fabric.specs.Settled.{IsSettled}
use Rattle.pl_law_control_plane.specs.ControlPlanes.{control_plane, ControlPlane}
use Rattle.pl_law_due.specs.Due.{due_plane, is_hello, is_silent}
use Rattle.pl_law_due.proofs.Exports.{rest_whole, whole_due}
use Rattle.pl_law_votes.specs.Voting.{edge_no}
use Rattle.pl_law_votes.proofs.Exports.{fixed_are_apart}
use Rattle.pl_law_pods.specs.Ways.{is_number, is_wish}
use Rattle.pl_law_pods.proofs.Exports.{first_knows, wish_words}
use Rattle.pl_law_invariant.specs.ControlInvariant.{ControlInvariant}
use Rattle.pl_law_placing.specs.Placing.{ArePlacing}
use Rattle.pl_law_placing.specs.Resting.{FirstKnowsPod, KnowPod}
use Rattle.pl_law_placing.proofs.Exports.{world_pods}
use Rattle.pl_law_settled.specs.AtPlace.{ReceiversArePlaced}
use Rattle.pl_law_settled.specs.Whole.{IsWholePod}
use Rattle.pl_law_settled.proofs.Pods.{resting_pod, settled_positions}
use Rattle.pl_law_settled.proofs.Records.{rests}

pub none_of : {X : Type 0} (p : X → Bool) (P : X → Type 0) → ((x : X) → P x → p x ≡ false) → (xs : List X) → ((x : X) → Contains xs x → P x) → list_any p xs ≡ false
none_of p P not_one [] each = refl
none_of p P not_one (x ∷ xs) each =
    ap (λ b. b || list_any p xs) (not_one x (each x (zero, omega arith, refl)))
    ∙ none_of p P not_one xs (λ y there. each y (suc there.0, omega (arith, there.1), there.2))

no_wish : (told : ToManager) → IsQuestion told → is_wish told ≡ false
no_wish (tell.Place place) is = refl
no_wish (tell.Link neighbour usable) is = refl
no_wish tell.PodWanted is = absurd is
no_wish (tell.Learned pmac amac ip) is = refl
no_wish (tell.Aged pmac number) is = refl
no_wish (tell.Begin epoch) is = refl
no_wish (tell.End epoch) is = refl
no_wish (tell.Trapped trapped toward numbered) is = refl
no_wish (tell.Query asker asker_ip ip) is = refl
no_wish (tell.Members group any) is = refl

no_number : (says : ToSwitch) → IsReply says → is_number says ≡ false
no_number (say.Pod n) is = absurd is
no_number (say.Answer asker asker_ip ip pmac) is = refl
no_number (say.Flood asker asker_ip ip) is = refl
no_number (say.Avoid list) is = refl
no_number (say.Invalidate old new number ip) is = refl
no_number (say.Release address) is = refl
no_number (say.Hello epoch) is = absurd is
no_number (say.Tree group part) is = refl

pub no_hello : (says : ToSwitch) → IsReply says → is_hello says ≡ false
no_hello (say.Pod n) is = refl
no_hello (say.Answer asker asker_ip ip pmac) is = refl
no_hello (say.Flood asker asker_ip ip) is = refl
no_hello (say.Avoid list) is = refl
no_hello (say.Invalidate old new number ip) is = refl
no_hello (say.Release address) is = refl
no_hello (say.Hello epoch) is = absurd is
no_hello (say.Tree group part) is = refl

module _ (w : WorldView) (kept : ControlInvariant w) (placing : ArePlacing w) where
  pub pod_of_first : HasSettledQueues w → (s : ℕ) → ((control_plane w).view s).place.position ≡ Some 0 → (n : ℕ) × (((control_plane w).view s).place.pod ≡ Some n)
  pod_of_first queues s position =
      let is = kept.counted.formed.plan in
      first_knows f is kept.placed (fixed_are_apart f.plan f.view f.says is kept.voting) kept.numbered s position (loud s) wishes numbers
    where
      f : ControlPlane
      f = control_plane w

      loud : (t : ℕ) → is_silent f.orders t ≡ false
      loud t = none_of is_hello IsReply no_hello (items_at w.from_manager t) (queues.from_manager t)

      -- nothing but questions is due of it, and nothing but replies waits for it
      wishes : (id : SwitchId) → slice_get w.plan.ids s ≡ Some id → list_any is_wish ((due_plane f).reports s) ≡ false
      wishes id named =
          let whole = rest_whole f kept.counted.formed.plan kept.gathered (rests w queues).ends (λ t x at. loud t) in
          ap (list_any is_wish) (whole_due f whole s id named) ∙ wish_words (items_at w.to_manager s)
          ∙ none_of is_wish IsQuestion no_wish (items_at w.to_manager s) (queues.to_manager s)

      numbers : list_any is_number (items_at w.from_manager s) ≡ false
      numbers = none_of is_number IsReply no_number (items_at w.from_manager s) (queues.from_manager s)

  pub settled_first_pod : HasSettledQueues w → (pod : ℕ) → FirstKnowsPod (control_plane w) pod
  settled_first_pod queues pod i edge position = pod_of_first queues (edge_no w.plan.k pod i) position

  module _ (settled : IsSettled w) (pod : ℕ) (whole : IsWholePod w pod) where
    pub settled_pods : KnowPod (control_plane w) pod
    settled_pods = world_pods w kept placing pod (resting_pod w kept settled placing pod whole) (settled_first_pod settled.queues pod)

    pub receivers_placed : ReceiversArePlaced w pod
    receivers_placed i edge received =
        let s = edge_no w.plan.k pod i in
        let v = (control_plane w).view s in
        let level = placing.levels s received in
        let position = settled_positions w kept settled placing pod whole i edge level in
        let number = settled_pods i edge level in
        record {
          position = position.0;
          pod = number.0;
          known = whole_place v.place position.0 number.0 level position.1 number.1;
        }
      where
        whole_place : (place : Place) (x n : ℕ) → place.level ≡ Some 0 → place.position ≡ Some x → place.pod ≡ Some n →
            place ≡ record { level = Some 0; position = Some x; pod = Some n }
        whole_place place x n level position number = λ t. record { level = level t; position = position t; pod = number t }
