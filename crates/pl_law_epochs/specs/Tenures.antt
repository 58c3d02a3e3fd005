-- What stands about one address over all epochs of the fabric manager: at its edge switch, at the manager, and in what is due and ordered between the two.
use Rattle.std.specs.Prelude.{ℕ, ◌==◌, ◌||◌, Bool, true, false, if◌then◌else◌, List, [], ◌∷◌, Option, Some, None}
use Rattle.std.specs.List.{flat_map}
use Rattle.pl_pmac.specs.declared.pmac.Pmac.{Pmac}
use Rattle.pl_layouts.specs.Equality.{same_pmac}
use Rattle.pl_node.specs.declared.address_use.AddressUse.{AddressUse}
use Rattle.pl_node.specs.declared.address_use.AddressUse.TheVariants.{Free, InUse, Resting, Trapped}
use Rattle.pl_node.specs.declared.messages.ToManager.{ToManager}
use Rattle.pl_node.specs.declared.messages.ToManager.TheVariants as tell
use Rattle.pl_node.specs.declared.messages.ToSwitch.{ToSwitch}
use Rattle.pl_node.specs.declared.messages.ToSwitch.TheVariants as say
use Rattle.pl_node.specs.ManagerViews.{Recall, Reported, number_behind}

-- what its edge switch uses it for: its host has it in use; a trap leads there; it rests behind a trap of this number, 0 for none; it is nobody's
pub data Use : Type 0 where
  Serves : Use
  Leads : (to : Recall) → Use
  Rests : (number : ℕ) → Use
  Nobodys : Use

abbrev pub use_of : Option AddressUse → Use
use_of None = Nobodys
use_of (Some (InUse idle)) = Serves
use_of (Some (Trapped trap age)) = Leads (record { new = trap.new; number = trap.number })
use_of (Some (Resting number)) = Rests number
use_of (Some Free) = Nobodys

-- a word about it that is due: it is told, a trap stands that leads there, or it has aged behind a trap of this number, 0 for none
pub data Said : Type 0 where
  Learns : Said
  Traps : (to : Recall) → Said
  Ages : (number : ℕ) → Said

-- an order about it that waits: its host has a newer address, or it is released
pub data Order : Type 0 where
  Recalls : (to : Recall) → Order
  Releases : Order

abbrev pub said_of : Pmac → ToManager → List Said
said_of x (tell.Learned pmac amac ip) = if same_pmac pmac x then Learns ∷ [] else []
said_of x (tell.Aged pmac number) = if same_pmac pmac x then Ages number ∷ [] else []
said_of x (tell.Trapped old new number) = if same_pmac old x then Traps (record { new = new; number = number }) ∷ [] else []
said_of x says = []

abbrev pub order_of : Pmac → ToSwitch → List Order
order_of x (say.Invalidate old new number ip) = if same_pmac old x then Recalls (record { new = new; number = number }) ∷ [] else []
order_of x (say.Release pmac) = if same_pmac pmac x then Releases ∷ [] else []
order_of x says = []

-- in a queue, the one that comes next first
abbrev pub words_on : Pmac → List ToManager → List Said
words_on x due = flat_map (said_of x) due

abbrev pub orders_on : Pmac → List ToSwitch → List Order
orders_on x orders = flat_map (order_of x) orders

-- What the manager knows of it: nothing; or whether it is registered, else it is known by a report alone, where it leads, and whether it has aged since.
pub data Knowledge : Type 0 where
  Nothing : Knowledge
  Knows : (registered : Bool) (to : Option Recall) (aged : Bool) → Knowledge

abbrev pub knowledge : Bool → Option Reported → Knowledge
knowledge registered None = Nothing
knowledge registered (Some known) = Knows registered known.recall known.aged

-- Of one address: its use, what is due and ordered of it, what the manager knows, and whether its edge switch has not heard of the present epoch.
pub record Tenure : Type 0 where
  pub use_is : Use
  pub due : List Said
  pub orders : List Order
  pub known : Knowledge
  pub silent : Bool

-- What the manager knows once it treated a word. Only in a later epoch than the first is there a report, by which it knows an address that it has not
-- registered.
abbrev pub treats : Bool → Knowledge → Said → Knowledge
treats later Nothing Learns = Knows true None false
treats later Nothing (Traps to) = if later then Knows false (Some to) false else Nothing
treats later Nothing (Ages number) = if later then Knows false None true else Nothing
treats later (Knows true to aged) Learns = Knows true to aged
treats later (Knows false to aged) Learns = Knows true None false
treats later (Knows true led aged) (Traps to) = Knows true led aged
treats later (Knows false led aged) (Traps to) = if later then Knows false (Some to) false else Knows false led aged
treats later (Knows registered to aged) (Ages number) = Knows registered to ((number == number_behind to) || aged)
