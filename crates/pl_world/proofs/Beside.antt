-- Which fields of a world turns and events leave alone. The equations say which change, so that whatever reads others is the same by `ap`.
use Rattle.std.proofs.Common.{◌≡◌, ℕ, ◌+◌, Some, set, slice_get, refl, ap, ◌∙◌}
use Rattle.pl_wiring.specs.declared.host.HostNo.{HostNo}
use Rattle.pl_wiring.specs.declared.label.SwitchNo.{SwitchNo}
use Rattle.pl_journal.specs.declared.entry.Entry.{Entry}
use Rattle.pl_node.specs.HostInputs.{HostAnswer, HostInput, HostRule}
use Rattle.pl_node.specs.ManagerDuties.{ManagerRule}
use Rattle.pl_node.specs.SwitchInputs.{SwitchInput, SwitchRule}
use Rattle.pl_node.specs.declared.messages.ToManager.{ToManager}
use Rattle.pl_world.specs.declared.event.Event.{Event}
use Rattle.pl_world.specs.declared.event.Event.TheVariants as event
use Rattle.pl_world.specs.declared.item.Item.{Item}
use Rattle.pl_world.specs.declared.spoken_frame.SpokenFrame.{SpokenFrame}
use Rattle.pl_world.specs.declared.attachment.AttachmentPoint.{AttachmentPoint}
use Rattle.pl_world.specs.Changes.{begun_by}
use Rattle.pl_world.specs.LinksAndMoves.{host_moved}
use Rattle.pl_world.specs.WorldRule.{ComesOut, Happens, HostTurn, ManagerTurn, SwitchTurn, WorldStep}
use Rattle.pl_world.specs.Worlds.{WorldView}
use Rattle.pl_world.proofs.Leaving.{SwitchesWrite, Takes, Writes, host_acts_left, manager_acts_left, switch_acts_left}
use Rattle.pl_world.proofs.Turning.{Left, Turned, Turns, event_left_but, out_left, turned}
use Rattle.pl_world.proofs.Turning.Left.{LinkFails, Moves, Repairs, Restarts, Stays}

-- any entry may be written
abbrev pub Any : Entry → Type 0
Any e = Unit {0}

-- so that a frame may begin with any
pub any_of_switches : (R : WorldView → WorldView → Type 0) → ((w : WorldView) (e : Entry) → R w (begun_by w e)) → SwitchesWrite R Any
any_of_switches R begun = record {
  begun = λ w e may. begun w e;
  crossed = λ id s. tt;
  copied = λ id copy. tt;
  made = λ id s frame. tt;
  granted = λ pmac h s port. tt;
  freed = λ pmac. tt;
  redirected = λ id old new. tt;
  taken = λ id s. tt;
}

-- ---- acts, and what comes before a turn
-- no more than queues, who was heard and what is written
abbrev pub ByActs : WorldView → WorldView → Type 0
ByActs a b = b ≡ record a {
  heard = b.heard;
  from_hosts = b.from_hosts;
  out = b.out;
  to_manager = b.to_manager;
  from_manager = b.from_manager;
  journal = b.journal;
  begun = b.begun;
}

acts_on : (a b c : WorldView) → ByActs a b → ByActs b c → ByActs a c
acts_on a b c one next = next ∙ ap (λ (x : WorldView). record x {
  heard = c.heard;
  from_hosts = c.from_hosts;
  out = c.out;
  to_manager = c.to_manager;
  from_manager = c.from_manager;
  journal = c.journal;
  begun = c.begun;
}) one

acts_write : Writes ByActs Any
acts_write = record { same = λ w. refl; on = acts_on; entry = λ w e may. refl; dropped = λ id cause. tt }

acts_take : Takes ByActs
acts_take =
    record { from_hosts = λ w h items. refl; out = λ w i items. refl; to_manager = λ w s items. refl; from_manager = λ w s items. refl; heard = λ w heard. refl }

pub by_switch_acts : (rule : SwitchRule) (w : WorldView) (s : ℕ) (input : SwitchInput) (speech : SpokenFrame) (new : WorldView) →
    (turn : SwitchTurn rule w s input speech new) →
    ByActs (record w { switches = set w.switches s turn.after }) new
by_switch_acts rule w s input speech new turn =
    switch_acts_left ByActs Any acts_write (any_of_switches ByActs (λ u e. refl)) (λ u i item. refl) (λ u t told. refl) s rule w input speech new
    (λ place. tt) turn

pub by_host_acts : (rule : HostRule) (w : WorldView) (h : ℕ) (input : HostInput) (answer : HostAnswer) (new : WorldView) →
    (turn : HostTurn rule w h input answer new) →
    ByActs (record w { hosts = set w.hosts h turn.after }) new
by_host_acts rule w h input answer new turn = host_acts_left ByActs Any acts_write h (λ u frame. refl) rule w input answer new turn

pub by_manager_acts : (rule : ManagerRule) (w : WorldView) (s : ℕ) (told : ToManager) (new : WorldView) → (turn : ManagerTurn rule w s told new) →
    ByActs (record w { manager = turn.after }) new
by_manager_acts rule w s told new turn = manager_acts_left ByActs Any acts_write (λ pmac n. tt) (λ u t says. refl) rule w s told new turn

-- ---- a turn of a host
abbrev pub ByHosts : WorldView → WorldView → Type 0
ByHosts a b = b ≡ record a { hosts = b.hosts; from_hosts = b.from_hosts; journal = b.journal; begun = b.begun }

hosts_write : Writes ByHosts Any
hosts_write = record {
  same = λ w. refl;
  on = λ a b c one next. next ∙ ap (λ (x : WorldView). record x { hosts = c.hosts; from_hosts = c.from_hosts; journal = c.journal; begun = c.begun }) one;
  entry = λ w e may. refl;
  dropped = λ id cause. tt;
}

pub by_host : (rule : HostRule) (w : WorldView) (h : ℕ) (input : HostInput) (answer : HostAnswer) (new : WorldView) → HostTurn rule w h input answer new →
    ByHosts w new
by_host rule w h input answer new turn =
    hosts_write.on w (record w { hosts = set w.hosts h turn.after }) new refl
    (host_acts_left ByHosts Any hosts_write h (λ u frame. refl) rule w input answer new turn)

pub out_by_hosts : (rule : HostRule) (w : WorldView) (s port : ℕ) (item : Item) (new : WorldView) → ComesOut rule w s port item new → ByHosts w new
out_by_hosts rule w s port item new comes = out_left ByHosts Any hosts_write rule (by_host rule) (λ id h frame. tt) w s port item new comes

-- ---- a turn of a switch
abbrev pub BySwitches : WorldView → WorldView → Type 0
BySwitches a b = b ≡ record a { switches = b.switches; out = b.out; to_manager = b.to_manager; journal = b.journal; begun = b.begun }

switches_write : Writes BySwitches Any
switches_write = record {
  same = λ w. refl;
  on =
      λ a b c one next. next ∙ ap (λ (x : WorldView). record x { switches = c.switches; out = c.out; to_manager = c.to_manager; journal = c.journal; begun = c.begun }) one;
  entry = λ w e may. refl;
  dropped = λ id cause. tt;
}

pub by_switch : (rule : SwitchRule) (w : WorldView) (s : ℕ) (input : SwitchInput) (speech : SpokenFrame) (new : WorldView) →
    SwitchTurn rule w s input speech new → BySwitches w new
by_switch rule w s input speech new turn =
    switches_write.on w (record w { switches = set w.switches s turn.after }) new refl
    (switch_acts_left BySwitches Any switches_write (any_of_switches BySwitches (λ u e. refl)) (λ u i item. refl)
    (λ u t told. refl) s rule w input speech new (λ place. tt) turn)

-- ---- a turn of the manager
abbrev pub ByManager : WorldView → WorldView → Type 0
ByManager a b = b ≡ record a { manager = b.manager; from_manager = b.from_manager; journal = b.journal }

manager_writes : Writes ByManager Any
manager_writes = record {
  same = λ w. refl;
  on = λ a b c one next. next ∙ ap (λ (x : WorldView). record x { manager = c.manager; from_manager = c.from_manager; journal = c.journal }) one;
  entry = λ w e may. refl;
  dropped = λ id cause. tt;
}

pub by_manager : (rule : ManagerRule) (w : WorldView) (s : ℕ) (told : ToManager) (new : WorldView) → ManagerTurn rule w s told new → ByManager w new
by_manager rule w s told new turn =
    manager_writes.on w (record w { manager = turn.after }) new refl
    (manager_acts_left ByManager Any manager_writes (λ pmac n. tt) (λ u t says. refl) rule w s told new turn)

-- ---- whole events
-- all but the wiring, its links, where hosts stand, the limits and how many steps were made
abbrev pub ByTurns : WorldView → WorldView → Type 0
ByTurns a b = b ≡ record b { plan = a.plan; links = a.links; attachments = a.attachments; limits = a.limits; steps = a.steps }

turns_write : Writes ByTurns Any
turns_write = record {
  same = λ w. refl;
  on = λ a b c one next. next ∙ ap (λ (x : WorldView). record c { plan = x.plan; links = x.links; attachments = x.attachments; limits = x.limits; steps = x.steps }) one;
  entry = λ w e may. refl;
  dropped = λ id cause. tt;
}

turns_take : Takes ByTurns
turns_take =
    record { from_hosts = λ w h items. refl; out = λ w i items. refl; to_manager = λ w s items. refl; from_manager = λ w s items. refl; heard = λ w heard. refl }

turns_turn : Turns ByTurns Any
turns_turn = record {
  switches_write = any_of_switches ByTurns (λ w e. refl);
  placed = λ s place. tt;
  registered = λ pmac n. tt;
  out = λ w i item. refl;
  reports = λ w s told. refl;
  sends = λ w h frame. refl;
  orders = λ w s says. refl;
  switches = λ w s view. refl;
  hosts = λ w h view. refl;
  manager = λ w view. refl;
}

-- all but the wiring, the limits and how many steps were made
abbrev pub ByEvents : WorldView → WorldView → Type 0
ByEvents a b = b ≡ record b { plan = a.plan; limits = a.limits; steps = a.steps }

-- and but where hosts stand, or a host moved
pub data OrMoved (w : WorldView) (e : Event) (new : WorldView) : Type 0 where
  NotMoved : new ≡ record new { plan = w.plan; attachments = w.attachments; limits = w.limits; steps = w.steps } → OrMoved w e new
  HasMoved : (h : HostNo) (s : SwitchNo) (port : ℕ) (from : AttachmentPoint) → e ≡ event.Move h s port → slice_get w.attachments h.0 ≡ Some from →
      ByTurns (host_moved w h.0 from (record { edge = s; port = port })) new → OrMoved w e new

module _ (switch : SwitchRule) (manager : ManagerRule) (host : HostRule) (w : WorldView) (e : Event) (new : WorldView)
    (does : Happens switch manager host w e new) where
  -- nothing, or what comes before a turn, or a turn, or a move or a link
  pub turned_by : Turned ByActs switch manager host w e new
  turned_by = turned ByActs Any acts_write acts_take (λ id s. tt) (λ id h frame. tt) (λ h skip. tt) switch manager host w e new does

  -- and all of it
  pub by_event_but : Left ByTurns w e new
  by_event_but = event_left_but ByTurns Any turns_write turns_take (λ id s. tt) (λ id h frame. tt) (λ h skip. tt) switch manager host w e new turns_turn does

  of_plan : Left ByTurns w e new → ByEvents w new
  of_plan (Stays r) = ap (λ (x : WorldView). record new { plan = x.plan; limits = x.limits; steps = x.steps }) r
  of_plan (Moves h s port from is at r) = ap (λ (x : WorldView). record new { plan = x.plan; limits = x.limits; steps = x.steps }) r
  of_plan (LinkFails a b link is found fails) = ap (λ (x : WorldView). record new { plan = x.plan; limits = x.limits; steps = x.steps }) fails
  of_plan (Repairs a b link is found repairs) = ap (λ (x : WorldView). record new { plan = x.plan; limits = x.limits; steps = x.steps }) repairs
  of_plan (Restarts is restarts) = ap (λ (x : WorldView). record new { plan = x.plan; limits = x.limits; steps = x.steps }) restarts

  pub by_event : ByEvents w new
  by_event = of_plan by_event_but

  of_stands : Left ByTurns w e new → OrMoved w e new
  of_stands (Stays r) = NotMoved (ap (λ (x : WorldView). record new { plan = x.plan; attachments = x.attachments; limits = x.limits; steps = x.steps }) r)
  of_stands (Moves h s port from is at r) = HasMoved h s port from is at r
  of_stands (LinkFails a b link is found fails) =
      NotMoved (ap (λ (x : WorldView). record new { plan = x.plan; attachments = x.attachments; limits = x.limits; steps = x.steps }) fails)
  of_stands (Repairs a b link is found repairs) =
      NotMoved (ap (λ (x : WorldView). record new { plan = x.plan; attachments = x.attachments; limits = x.limits; steps = x.steps }) repairs)
  of_stands (Restarts is restarts) =
      NotMoved (ap (λ (x : WorldView). record new { plan = x.plan; attachments = x.attachments; limits = x.limits; steps = x.steps }) restarts)

  pub or_moved : OrMoved w e new
  or_moved = of_stands by_event_but

module _ (switch : SwitchRule) (manager : ManagerRule) (host : HostRule) (old : WorldView) (e : Event) (new : WorldView)
    (step : WorldStep switch manager host old e new) where
  -- a step keeps the wiring
  pub step_plan : new.plan ≡ old.plan
  step_plan = ap (λ (w : WorldView). w.plan) (by_event switch manager host (record old { steps = old.steps + 1 }) e new step)

  pub step_limits : new.limits ≡ old.limits
  step_limits = ap (λ (w : WorldView). w.limits) (by_event switch manager host (record old { steps = old.steps + 1 }) e new step)

  -- and is one more
  pub one_more_step : new.steps ≡ old.steps + 1
  one_more_step = ap (λ (w : WorldView). w.steps) (by_event switch manager host (record old { steps = old.steps + 1 }) e new step)
