-- How a fabric manager may act, and what any rule of it is to keep.
use Rattle.std.specs.Prelude.{◌≡◌, ◌≤◌, ◌⊎◌, ℕ, ◌+◌, ◌||◌, Bool, true, Contains, List, [], length, map, Option, Some, None, IsSome, IsTrue}
use Rattle.std.specs.List.{filter_map, list_all, range_with_len}
use Rattle.pl_frame.specs.declared.address.SwitchId.{SwitchId}
use Rattle.pl_pmac.specs.declared.pmac.Pmac.{Pmac}
use Rattle.pl_node.specs.declared.acts.ManagerAct.{ManagerAct}
use Rattle.pl_node.specs.declared.acts.ManagerAct.TheVariants.{Say, Number}
use Rattle.pl_node.specs.declared.messages.ToManager.{ToManager}
use Rattle.pl_node.specs.declared.messages.ToSwitch.TheVariants as say
use Rattle.pl_node.specs.ManagerViews.{ManagerView, Registration, is_heard, registration}
use Rattle.pl_layouts.specs.Equality.{same_switch}

-- how a fabric manager may act: its view, who speaks and what, its view then, and its acts
abbrev pub ManagerRule : Type 1
ManagerRule = ManagerView → SwitchId → ToManager → ManagerView → List ManagerAct → Type 0

-- to one who speaks now, or was heard before
abbrev pub is_for_heard : ManagerView → SwitchId → ManagerAct → Bool
is_for_heard view s (Say to says) = same_switch s to || is_heard view to
is_for_heard view s (Number pmac n) = true

-- a registered address with its number
abbrev pub with_number : Registration → Pmac × ℕ
with_number r = (r.pmac, r.number)

-- the address to which an act gives a number, if it gives one
abbrev pub numbered_by : ManagerAct → Option (Pmac × ℕ)
numbered_by (Say to says) = None
numbered_by (Number pmac n) = Some (pmac, n)

-- the address that an act lets its switch give again, if it lets it
abbrev pub released_by : ManagerAct → Option Pmac
released_by (Say to (say.Release pmac)) = Some pmac
released_by act = None

-- what a manager has numbered, together with what it keeps: it may number all of that at once
abbrev pub load : ManagerView → ℕ
load view = view.learnt.count + length view.kept

-- With one message it hears of no switch but the speaker, and learns or keeps one address more at most.
pub record IsGrown (before : ManagerView) (s : SwitchId) (after : ManagerView) : Type 0 where
  pub k : after.k ≡ before.k
  pub epoch : after.epoch ≡ before.epoch
  pub heard : (t : SwitchId) → IsTrue (is_heard after t) → IsTrue (same_switch s t || is_heard before t)
  pub addresses : load after ≤ load before + 1

-- The addresses that are given numbers were not registered, and the numbers are the next ones, in turn. What is registered then was so, with its number, or
-- is one of these, with the number that it was given; where nothing was kept each of these is.
pub record AreNumbered (before after : ManagerView) (given : List (Pmac × ℕ)) : Type 0 where
  pub count : after.learnt.count ≡ length given + before.learnt.count
  pub numbers : map (λ g. g.1) given ≡ range_with_len (before.learnt.count + 1) (length given)
  pub fresh : (x : Pmac) (n : ℕ) → Contains given (x, n) → registration before.learnt x ≡ None
  pub given_as : (x : Pmac) (n : ℕ) (r : Registration) → Contains given (x, n) → registration after.learnt x ≡ Some r → with_number r ≡ (x, n)
  pub registered : (x : Pmac) (r : Registration) → registration after.learnt x ≡ Some r →
      (registration before.learnt x ≡ Some r) ⊎ Contains given (with_number r)
  pub stands : before.kept ≡ [] → (x : Pmac) (n : ℕ) → Contains given (x, n) → IsSome (registration after.learnt x)

-- each address that is given a number is registered then, unless it is released at once
abbrev pub AreRegistered : ManagerView → List ManagerAct → Type 0
AreRegistered after acts = (x : Pmac) (n : ℕ) → Contains (filter_map numbered_by acts) (x, n) →
    IsSome (registration after.learnt x) ⊎ Contains (filter_map released_by acts) x

-- What any rule of a fabric manager is to keep: it speaks to switches that it heard, it says the number of just the addresses that it
-- learns, and what it knows grows with what it hears.
pub record AnswersDuly (rule : ManagerRule) : Type 0 where
  pub heard : (before : ManagerView) (s : SwitchId) (says : ToManager) (after : ManagerView) (acts : List ManagerAct) →
      rule before s says after acts → IsTrue (list_all (is_for_heard before s) acts)
  pub numbered : (before : ManagerView) (s : SwitchId) (says : ToManager) (after : ManagerView) (acts : List ManagerAct) →
      rule before s says after acts →
      AreNumbered before after (filter_map numbered_by acts)
  pub registers : (before : ManagerView) (s : SwitchId) (says : ToManager) (after : ManagerView) (acts : List ManagerAct) →
      rule before s says after acts → AreRegistered after acts
  pub grows : (before : ManagerView) (s : SwitchId) (says : ToManager) (after : ManagerView) (acts : List ManagerAct) →
      rule before s says after acts → IsGrown before s after
