-- The head of a queue is taken, and nothing else changes.
use Rattle.std.specs.Prelude.{◌≡◌, ℕ, List, ◌∷◌, slice_set}
use Rattle.pl_wiring.specs.Index.{port_index}
use Rattle.pl_node.specs.declared.messages.ToManager.{ToManager}
use Rattle.pl_node.specs.declared.messages.ToSwitch.{ToSwitch}
use Rattle.pl_world.specs.declared.item.Item.{Item}
use Rattle.pl_world.specs.Changes.{out_of}
use Rattle.pl_queues.specs.Queues.{items_at}
use Rattle.pl_world.specs.Worlds.{WorldView}

pub record IsTakenFromHost (w : WorldView) (h : ℕ) (new : WorldView) (item : Item) : Type 0 where
  pub items : List Item
  pub head : items_at w.from_hosts h ≡ item ∷ items
  pub left : new ≡ record w { from_hosts = slice_set w.from_hosts h items }

pub record ItemIsTaken (w : WorldView) (s port : ℕ) (new : WorldView) (item : Item) : Type 0 where
  pub items : List Item
  pub head : out_of w s port ≡ item ∷ items
  pub left : new ≡ record w { out = slice_set w.out (port_index w.plan.k s port) items }

pub record IsTakenToManager (w : WorldView) (s : ℕ) (new : WorldView) (told : ToManager) : Type 0 where
  pub items : List ToManager
  pub head : items_at w.to_manager s ≡ told ∷ items
  pub left : new ≡ record w { to_manager = slice_set w.to_manager s items }

pub record IsTakenFromManager (w : WorldView) (s : ℕ) (new : WorldView) (says : ToSwitch) : Type 0 where
  pub items : List ToSwitch
  pub head : items_at w.from_manager s ≡ says ∷ items
  pub left : new ≡ record w { from_manager = slice_set w.from_manager s items }
