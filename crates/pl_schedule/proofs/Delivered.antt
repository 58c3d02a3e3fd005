-- The head of a queue was taken, and then it came where it goes to.
use Rattle.std.proofs.Common.{◌≡◌, ℕ, List, [], ◌∷◌, Some, slice_get, true, sym, subst}
use Rattle.std.specs.List.{AllByRecursion}
use Rattle.pl_frame.specs.declared.address.SwitchId.{SwitchId}
use Rattle.pl_wiring.specs.declared.link.Peer.{Peer}
use Rattle.pl_wiring.specs.Index.{port_index}
use Rattle.pl_wiring.specs.Peers.{peer_of}
use Rattle.pl_node.specs.declared.messages.ToManager.{ToManager}
use Rattle.pl_node.specs.declared.messages.ToSwitch.{ToSwitch}
use Rattle.pl_node.specs.HostInputs.{HostRule}
use Rattle.pl_node.specs.ManagerFacts.{CanHear}
use Rattle.pl_node.specs.ManagerDuties.{ManagerRule}
use Rattle.pl_node.specs.SwitchInputs.{SwitchRule}
use Rattle.pl_node.specs.SwitchInputs.SwitchInput.{Says}
use Rattle.pl_world.specs.declared.item.Item.{Item}
use Rattle.pl_world.specs.declared.spoken_frame.SpokenFrame.TheVariants.{Silent}
use Rattle.pl_world.specs.Changes.{out_of}
use Rattle.pl_world.specs.Flying.{IsDataItem, IsItem}
use Rattle.pl_schedule.specs.Heads.{IsTakenFromHost, IsTakenFromManager, ItemIsTaken, IsTakenToManager}
use Rattle.pl_queues.specs.Queues.{has_items, items_at}
use Rattle.pl_world.specs.LinksAndMoves.{item_lost}
use Rattle.pl_world.specs.WorldRule.{ComesIn, ComesOver, DeliversFromHost, DeliversFromManager, DeliversOut, DeliversToManager, Loses, ManagerTurn, SwitchTurn}
use Rattle.pl_world.specs.Worlds.{WorldView}
use Rattle.pl_world.proofs.Exports.{head_is_item, sent_is_item}

-- a queue with a head is not empty
pub not_empty : {T : Type 0} (items : List T) → items ≡ [] → has_items items ≡ true → ⊥
not_empty [] empty there = absurd (cc)
not_empty (x ∷ items) empty there = absurd (cc)

pub host_item : (w mid : WorldView) (h : ℕ) (item : Item) → IsTakenFromHost w h mid item → AllByRecursion (AllByRecursion IsDataItem) w.from_hosts → IsItem item
host_item w mid h item taken all = sent_is_item w.from_hosts h item taken.items taken.head all

pub out_item : (w mid : WorldView) (s port : ℕ) (item : Item) → ItemIsTaken w s port mid item → AllByRecursion (AllByRecursion IsItem) w.out → IsItem item
out_item w mid s port item taken all = head_is_item w.out (port_index w.plan.k s port) item taken.items taken.head all

pub host_delivered : (rule : SwitchRule) (w mid new : WorldView) (h : ℕ) (item : Item) → IsTakenFromHost w h mid item →
    ComesIn rule mid h item (slice_get mid.attachments h) new → DeliversFromHost rule w h (items_at w.from_hosts h) new
host_delivered rule w mid new h item taken comes =
    rw taken.head (subst (λ m. ComesIn rule m h item (slice_get m.attachments h) new) taken.left comes)

pub out_delivered : (switch : SwitchRule) (host : HostRule) (w mid new : WorldView) (s port : ℕ) (item : Item) (peer : Peer) → ItemIsTaken w s port mid item →
    peer ≡ peer_of w.plan s port → ComesOver switch host mid s port item peer new → DeliversOut switch host w s port (out_of w s port) new
out_delivered switch host w mid new s port item peer taken is comes =
    rw (taken.head, ← is) (subst (λ m. ComesOver switch host m s port item peer new) taken.left comes)

pub told_delivered : (rule : ManagerRule) (w mid new : WorldView) (s : ℕ) (told : ToManager) → IsTakenToManager w s mid told →
    ManagerTurn rule mid s told new → DeliversToManager rule w s (items_at w.to_manager s) new
told_delivered rule w mid new s told taken turn = rw taken.head (subst (λ m. ManagerTurn rule m s told new) taken.left turn)

pub said_delivered : (rule : SwitchRule) (w mid new : WorldView) (s : ℕ) (says : ToSwitch) → IsTakenFromManager w s mid says →
    SwitchTurn rule mid s (Says says) Silent new → DeliversFromManager rule w s (items_at w.from_manager s) new
said_delivered rule w mid new s says taken turn = rw taken.head (subst (λ m. SwitchTurn rule m s (Says says) Silent new) taken.left turn)

pub head_lost : (w mid new : WorldView) (s port : ℕ) (item : Item) → ItemIsTaken w s port mid item → new ≡ item_lost mid item → Loses w s port (out_of w s port) new
head_lost w mid new s port item taken is = rw taken.head (subst (λ m. new ≡ item_lost m item) taken.left is)

-- the manager still can hear the switch
pub still_hears : (w mid : WorldView) (s : ℕ) (told : ToManager) → IsTakenToManager w s mid told →
    ((id : SwitchId) → slice_get w.plan.ids s ≡ Some id → CanHear w.manager id) → (id : SwitchId) → slice_get mid.plan.ids s ≡ Some id → CanHear mid.manager id
still_hears w mid s told taken can =
    subst (λ (m : WorldView). ((id : SwitchId) → slice_get m.plan.ids s ≡ Some id → CanHear m.manager id)) (sym taken.left) can
