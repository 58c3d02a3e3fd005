-- What a switch hears, as the world's code tells it: it comes at a switch of the wiring, and may come there.
use Rattle.std.proofs.Common.{◌≡◌, ◌<◌, ◌∙◌, ℕ, List, [], ◌∷◌, Option, Some, slice_get, refl, ap, subst, sym}
use Rattle.pl_node.specs.Accounting.{CanCome, IsWholeFrame}
use Rattle.pl_node.specs.SwitchInputs.SwitchInput.{Comes}
use Rattle.pl_node.specs.SwitchViews.{SwitchView}
use Rattle.pl_queues.specs.Queues.{items_at}
use Rattle.pl_wiring.specs.Index.{port_index}
use Rattle.pl_wiring.specs.Labels.{switch_count}
use Rattle.pl_wiring.specs.Plan.{Plan}
use Rattle.pl_world.specs.declared.item.Item.{Item}
use Rattle.pl_world.specs.declared.item.Item.TheVariants.{Control, Data}
use Rattle.pl_world.specs.Changes.{out_of}
use Rattle.pl_world.specs.Drops.{coming_at}
use Rattle.pl_world.specs.Flying.{IsCounted, IsItem}
use Rattle.pl_world.specs.Worlds.{WorldView}
use Rattle.pl_world.proofs.Exports.{head_is_item, sent_is_item}
use Rattle.pl_schedule.specs.declared.world.coming.Coming.{Coming}
use Rattle.pl_schedule.specs.Coming.{IsHeardThere, coming_of}

-- ---- the first of a queue is an item

first_splits : (items : List Item) (item : Item) → slice_get items 0 ≡ Some item → (rest : List Item) × (items ≡ item ∷ rest)
first_splits [] item first = absurd (cc)
first_splits (x ∷ items) item first =
    let same : x ≡ item = cc in
    (items, ap (λ y. y ∷ items) same)

pub sent_first : (w : WorldView) (h : ℕ) (item : Item) → IsCounted w → slice_get (items_at w.from_hosts h) 0 ≡ Some item → IsItem item
sent_first w h item counted first =
    let split = first_splits (items_at w.from_hosts h) item first in
    sent_is_item w.from_hosts h item split.0 split.1 counted.in_host_queues

pub out_first : (w : WorldView) (s port : ℕ) (item : Item) → IsCounted w → slice_get (out_of w s port) 0 ≡ Some item → IsItem item
out_first w s port item counted first =
    let split = first_splits (out_of w s port) item first in
    head_is_item w.out (port_index w.plan.k s port) item split.0 split.1 counted.in_port_queues

-- ---- what is heard

at_switch : (s port : ℕ) (item : Item) → (coming_at s port item).switch ≡ s
at_switch s port (Control frame) = refl
at_switch s port (Data id frame) = refl

pub whole_fits : (v : SwitchView) (c : Coming) (s port : ℕ) (frame : List ℕ) (number : Option ℕ) →
    coming_of c ≡ record { switch = s; input = Comes port frame; frame = number } → port < v.k → IsWholeFrame frame → CanCome v (coming_of c).input
whole_fits v c s port frame number is within whole = subst (CanCome v) (sym (ap (λ x. x.input) is)) (record { within = within; whole = whole })

pub item_heard : (plan : Plan) (c : Coming) (s port : ℕ) (item : Item) → coming_of c ≡ coming_at s port item →
    ((v : SwitchView) → port < v.k → IsItem item → CanCome v (coming_of c).input) → s < switch_count plan.k → port < plan.k → IsItem item → IsHeardThere plan c
item_heard plan c s port item is fits there within sound = record {
  there = subst (λ n. n < switch_count plan.k) (sym (ap (λ x. x.switch) is ∙ at_switch s port item)) there;
  can = λ v same. fits v (subst (λ k. port < k) (sym same) within) sound;
}
