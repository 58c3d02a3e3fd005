-- What every step of a switch owes to the frames that it handles.
use Rattle.std.specs.Prelude.{◌≡◌, ℕ, ◌/◌, ◌%◌, ◌^◌, ◌<◌, ◌≤◌, Bool, true, false, if◌then◌else◌, List, [], length, Option, Some, None, fold, slice_index_or}
use Rattle.std.specs.List.{AllByRecursion}
use Rattle.pl_node.specs.declared.acts.Act.{Act}
use Rattle.pl_node.specs.declared.acts.Act.TheVariants.{Control, Drop, Free, Grant as GrantAct, Make, Pass, Redirect, Take, Tell}
use Rattle.pl_node.specs.SwitchInputs.{SwitchInput, SwitchRule}
use Rattle.pl_node.specs.SwitchInputs.SwitchInput.{Comes, Says, Tick}
use Rattle.pl_node.specs.declared.switch_records.Grant.{Grant}
use Rattle.pl_node.specs.declared.switch_records.Source.{Source}
use Rattle.pl_node.specs.SwitchViews.{SwitchView}
use Rattle.pl_layouts.specs.Control.{is_control}

-- What acts have said so far of the frame that they speak of: there is none yet; it waits for its end; it was redirected, and waits; it was
-- passed on, maybe more than once; it was taken or dropped; or something was said that cannot be.
pub data FrameState : Type 0 where
  Silent : FrameState
  Waiting : FrameState
  Redirected : FrameState
  Passed : FrameState
  Ended : FrameState
  Wrong : FrameState

-- The frame that was received, or made, is passed on one or more times, or taken or dropped once. Before that it may be redirected, and then
-- nothing is granted until it goes on. Then another one may be made. Control frames and messages to the manager stand anywhere.
abbrev pub frame_state_after : FrameState → Act → FrameState
frame_state_after Silent (Control port frame) = Silent
frame_state_after Silent (Tell told) = Silent
frame_state_after Silent (GrantAct pmac amac) = Silent
frame_state_after Silent (Free pmac) = Silent
frame_state_after Silent (Make frame) = Waiting
frame_state_after Waiting (Control port frame) = Waiting
frame_state_after Waiting (Tell told) = Waiting
frame_state_after Waiting (GrantAct pmac amac) = Waiting
frame_state_after Waiting (Redirect old new) = Redirected
frame_state_after Waiting (Pass port frame) = Passed
frame_state_after Waiting Take = Ended
frame_state_after Waiting (Drop cause) = Ended
frame_state_after Redirected (Control port frame) = Redirected
frame_state_after Redirected (Tell told) = Redirected
frame_state_after Redirected (Redirect old new) = Redirected
frame_state_after Redirected (Pass port frame) = Passed
frame_state_after Redirected Take = Ended
frame_state_after Redirected (Drop cause) = Ended
frame_state_after Passed (Control port frame) = Passed
frame_state_after Passed (Tell told) = Passed
frame_state_after Passed (Pass port frame) = Passed
frame_state_after Passed (Make frame) = Waiting
frame_state_after Ended (Control port frame) = Ended
frame_state_after Ended (Tell told) = Ended
frame_state_after Ended (Make frame) = Waiting
frame_state_after _ _ = Wrong

abbrev pub frame_state : FrameState → List Act → FrameState
frame_state start acts = fold frame_state_after start acts

-- no frame waits for its end
abbrev pub is_said : FrameState → Bool
is_said Silent = true
is_said Waiting = false
is_said Redirected = false
is_said Passed = true
is_said Ended = true
is_said Wrong = false

-- a data frame that comes is spoken of at once
abbrev pub state_of_frame : List ℕ → FrameState
state_of_frame frame = if is_control frame then Silent else Waiting

abbrev pub first_frame_state : SwitchInput → FrameState
first_frame_state (Comes port frame) = state_of_frame frame
first_frame_state Tick = Silent
first_frame_state (Says says) = Silent

-- a frame of 14 to 65,553 bytes
pub record IsWholeFrame (frame : List ℕ) : Type 0 where
  pub low : 14 ≤ length frame
  pub high : length frame ≤ 65553

pub record IsSentDuly (k port : ℕ) (control : Bool) (frame : List ℕ) : Type 0 where
  pub within : port < k
  pub kind : is_control frame ≡ control
  pub whole : IsWholeFrame frame

pub record IsMade (frame : List ℕ) : Type 0 where
  pub kind : is_control frame ≡ false
  pub whole : IsWholeFrame frame

-- Control frames go out as control frames and data frames as data frames, by ports that are there. So is the port of an address that is
-- granted, or freed.
abbrev pub IsFit : ℕ → Act → Type 0
IsFit k (Control port frame) = IsSentDuly k port true frame
IsFit k (GrantAct pmac amac) = pmac.port < k
IsFit k (Free pmac) = pmac.port < k
IsFit k (Pass port frame) = IsSentDuly k port false frame
IsFit k (Make frame) = IsMade frame
IsFit k act = Unit {0}

abbrev pub HasMac : Grant → Type 0
HasMac grant = length grant.amac.0 ≡ 6

abbrev pub RemembersMac : Option Source → Type 0
RemembersMac None = Unit {0}
RemembersMac (Some source) = length source.amac.0 ≡ 6

-- these are vmids of addresses that were granted
abbrev pub WereGranted : List Grant → List ℕ → Type 0
WereGranted grants vmids = AllByRecursion (λ vmid. (1 ≤ vmid) × (vmid ≤ length grants)) vmids

-- A switch of a fat tree: an even number of ports from 4 to 24, and all that it keeps by port and by position.
pub record IsShaped (v : SwitchView) : Type 0 where
  pub named : 1 ≤ v.id.0
  pub id : v.id.0 < 2 ^ 48
  pub low : 4 ≤ v.k
  pub high : v.k ≤ 24
  pub even : v.k % 2 ≡ 0
  pub ports : length v.ports ≡ v.k
  pub holds : length v.holds ≡ v.k / 2
  pub grants : length v.grants ≡ v.k
  pub freed : length v.freed ≡ v.k
  pub remembered : length v.remembered ≡ v.k
  pub granted : AllByRecursion (AllByRecursion HasMac) v.grants
  pub free : (port : ℕ) → WereGranted (slice_index_or v.grants port []) (slice_index_or v.freed port [])
  pub sources : AllByRecursion RemembersMac v.remembered

pub record IsComing (k port : ℕ) (frame : List ℕ) : Type 0 where
  pub within : port < k
  pub whole : IsWholeFrame frame

-- What can come at a switch.
abbrev pub CanCome : SwitchView → SwitchInput → Type 0
CanCome v (Comes port frame) = IsComing v.k port frame
CanCome v input = Unit {0}

pub record IsAccounted (old : SwitchView) (input : SwitchInput) (new : SwitchView) (acts : List Act) : Type 0 where
  pub said : is_said (frame_state (first_frame_state input) acts) ≡ true
  pub fit : AllByRecursion (IsFit old.k) acts
  pub id : new.id ≡ old.id
  pub k : new.k ≡ old.k
  pub shaped : IsShaped new

-- A rule under which each step accounts for its frames.
abbrev pub AccountsForFrames : SwitchRule → Type 0
AccountsForFrames rule = (old : SwitchView) (input : SwitchInput) (new : SwitchView) (acts : List Act) →
    IsShaped old → CanCome old input → rule old input new acts → IsAccounted old input new acts

-- a rule allows no more than another
abbrev pub AllowsNoMore : SwitchRule → SwitchRule → Type 0
AllowsNoMore rule other = (old : SwitchView) (input : SwitchInput) (new : SwitchView) (acts : List Act) →
    rule old input new acts → other old input new acts

-- two rules allow the same
abbrev pub AreOneRule : SwitchRule → SwitchRule → Type 0
AreOneRule rule other = AllowsNoMore rule other × AllowsNoMore other rule
