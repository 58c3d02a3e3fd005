-- What is said and recorded of a switch at the other end of a link is its own.
use Rattle.std.specs.Prelude.{◌≡◌, ℕ, Bool, true, false, List, Option, Some, is_some}
use Rattle.std.specs.List.{AllByRecursion}
use Rattle.pl_frame.specs.declared.address.SwitchId.{SwitchId}
use Rattle.pl_layouts.specs.declared.control.Control.{Control}
use Rattle.pl_layouts.specs.declared.control.Control.TheVariants as control
use Rattle.pl_layouts.specs.declared.place.Place.{Place}
use Rattle.pl_ldp.specs.Writable.{IsWritableControl}
use Rattle.pl_node.specs.declared.neighbour.Neighbour.{Neighbour}
use Rattle.pl_node.specs.declared.neighbour.PortRecord.{PortRecord}
use Rattle.pl_node.specs.PortRecords.{port_of}
use Rattle.pl_node.specs.SwitchViews.{SwitchView}

-- each known part of a told place is the own one
pub record IsTrueOf (told own : Place) : Type 0 where
  pub level : (x : ℕ) → told.level ≡ Some x → own.level ≡ Some x
  pub position : (x : ℕ) → told.position ≡ Some x → own.position ≡ Some x
  pub pod : (x : ℕ) → told.pod ≡ Some x → own.pod ≡ Some x

abbrev pub has_heard : SwitchView → ℕ → Bool
has_heard v port = is_some (port_of v port).heard

-- A switch of this id and place, which has heard something at its end of a link or not, is named and placed so over the link. An echo is told
-- only where something was heard.
pub record IsTrulyTold (id : SwitchId) (own : Place) (heard : Bool) (told : SwitchId) (place : Place) (echo : Option SwitchId) : Type 0 where
  pub named : told ≡ id
  pub so : IsTrueOf place own
  pub evidence : (other : SwitchId) → echo ≡ Some other → heard ≡ true

abbrev pub IsOf : SwitchId → Place → Bool → Control → Type 0
IsOf id own heard (control.Ldm told m) = IsTrulyTold id own heard told m.place m.echo
IsOf id own heard (control.Proposal told p) = told ≡ id
IsOf id own heard (control.Vote told vote) = told ≡ id

-- a message of such a switch, which can be told
pub record IsGoodMessage (id : SwitchId) (own : Place) (heard : Bool) (c : Control) : Type 0 where
  pub writable : IsWritableControl c
  pub of_sender : IsOf id own heard c

-- the record of such a switch at the other end
pub record IsGoodRecord (id : SwitchId) (own : Place) (heard : Bool) (r : PortRecord) : Type 0 where
  pub no_host : r.host ≡ false
  pub known : (n : Neighbour) → r.heard ≡ Some n → IsTrulyTold id own heard n.id n.place n.echo

-- From port p of one switch to port q of another: the messages and the data frames that wait, and the record.
pub record IsGoodLink (a : SwitchView) (p : ℕ) (b : SwitchView) (q : ℕ) (says : List Control) (carries : Bool) : Type 0 where
  pub queued : AllByRecursion (IsGoodMessage a.id a.place (has_heard a p)) says
  pub evidence : carries ≡ true → has_heard b q ≡ true
  pub recorded : IsGoodRecord a.id a.place (has_heard a p) (port_of b q)
