-- Hosts send frames of their own alone in every run, whatever switches and the manager do.
use Rattle.std.proofs.Common.{◌≡◌, ◌<◌, ◌+◌, ℕ, set, List, [], ◌∷◌, length, Option, Some, None, refl, sym, ap, subst, ◌∙◌, length-set}
use Rattle.std.specs.List.{AllByRecursion}
use Rattle.std.proofs.lemmas.Option.{slice_get_within}
use Rattle.pl_lemmas.proofs.Exports.{all_found}
use Rattle.pl_wiring.specs.Index.{port_index}
use Rattle.pl_wiring.specs.Plan.{Plan}
use Rattle.pl_node.specs.Accounting.{AccountsForFrames}
use Rattle.pl_node.specs.HostDuties.{HoldsData, HostsSendData, HostsSendOwn}
use Rattle.pl_node.specs.HostInputs.{HostAnswer, HostInput, HostRule}
use Rattle.pl_node.specs.HostViews.{HostView}
use Rattle.pl_node.specs.ManagerDuties.{ManagerRule}
use Rattle.pl_node.specs.SwitchInputs.{SwitchInput, SwitchRule}
use Rattle.pl_world.specs.declared.event.Event.{Event}
use Rattle.pl_world.specs.declared.item.Item.{Item}
use Rattle.pl_world.specs.declared.item.Item.TheVariants.{Control, Data}
use Rattle.pl_world.specs.declared.limits.Limits.{Limits}
use Rattle.pl_world.specs.declared.spoken_frame.SpokenFrame.{SpokenFrame}
use Rattle.pl_world.specs.Booting.{CanBegin, booted}
use Rattle.pl_world.specs.Changes.{receiver}
use Rattle.pl_world.specs.Flying.{IsCounted}
use Rattle.pl_world.specs.LinksAndMoves.{host_moved}
use Rattle.pl_world.specs.OtherActs.{reception_noted, skip_noted}
use Rattle.pl_world.specs.Runs.{Moment, WorldRun}
use Rattle.pl_world.specs.Runs.Moment.{Mark, Step}
use Rattle.pl_world.specs.WorldRule.{ComesAtHost, ComesAtSwitch, ComesOut, HostTurn, SwitchTurn, WorldStep, heard_item}
use Rattle.pl_world.specs.Worlds.{WorldView}
use Rattle.pl_world.proofs.Exports.{Any, booted_is_counted, by_manager, by_switch, Happened, happened, heard_left, lost_left, marked_counted, reception_left, skip_left, step_is_counted, Writes}
use Rattle.pl_world.proofs.Exports.Happened.{Asked, BeganAnew, Departed, Failed, FromHost, Lost, Ordered, OutOfPort, OverLink, PlayedFrame, Repaired, Reported, Ticked}
use Rattle.pl_law_addresses.specs.OwnFrames.{AreOwnHosts, HostsAreOwn}
use Rattle.pl_law_addresses.proofs.OwnHosts.{host_step_own, hosts_own_first, shorter_own}
use Rattle.pl_law_addresses.proofs.TurnQueues.{Parts, host_parts}
use Rattle.pl_law_addresses.proofs.TurnsKeepAddresses.{filled_within}

-- of hosts alone: what stays where their part stays
pub record HostsPart : Type 0 where
  pub plan : Plan
  pub hosts : List HostView
  pub from_hosts : List (List Item)

abbrev hosts_of : WorldView → HostsPart
hosts_of w = record { plan = w.plan; hosts = w.hosts; from_hosts = w.from_hosts }

abbrev OwnPart : HostsPart → Type 0
OwnPart p = AreOwnHosts p.plan p.hosts p.from_hosts

abbrev part : Parts → HostsPart
part p = record { plan = p.plan; hosts = p.hosts; from_hosts = p.from_hosts }

module _ (switch : SwitchRule) (manager : ManagerRule) (rule : HostRule) (sends : HostsSendData rule) (owns : HostsSendOwn rule) where
  a_switch : (w : WorldView) (s : ℕ) (input : SwitchInput) (speech : SpokenFrame) (new : WorldView) → HostsAreOwn w → SwitchTurn switch w s input speech new → HostsAreOwn new
  a_switch w s input speech new o turn = subst (λ (p : HostsPart). OwnPart p) (sym (ap hosts_of (by_switch switch w s input speech new turn))) o

  a_host : (w : WorldView) (h : ℕ) (input : HostInput) (answer : HostAnswer) (new : WorldView) → HostsAreOwn w → AllByRecursion HoldsData w.hosts →
      length w.from_hosts ≡ length w.hosts → HostTurn rule w h input answer new → HostsAreOwn new
  a_host w h input answer new o holding many turn =
      let within : h < length w.from_hosts = subst (λ n. h < n) (sym many) (slice_get_within w.hosts h turn.before turn.found) in
      subst (λ (p : HostsPart). OwnPart p)
      (sym (ap hosts_of turn.changed ∙ ap part (host_parts h (record w { hosts = set w.hosts h turn.after }) turn.acts)))
      (host_step_own rule sends owns w.plan w.hosts w.from_hosts h w.begun turn.before turn.after input turn.acts answer turn.found
      (all_found HoldsData w.hosts h turn.before holding turn.found) within turn.ruled o)

  -- what leaves hosts and what they sent as they are, before a turn
  still : (w mid : WorldView) → hosts_of mid ≡ hosts_of w → HostsAreOwn w → HostsAreOwn mid
  still w mid same o = subst (λ (p : HostsPart). OwnPart p) (sym same) o

  at_switch : (w : WorldView) (s port : ℕ) (item : Item) (new : WorldView) → HostsAreOwn w → ComesAtSwitch switch w s port item new → HostsAreOwn new
  at_switch w s port (Control frame) new o turn = a_switch w s _ _ new o turn
  at_switch w s port (Data id frame) new o turn = a_switch _ s _ _ new o turn

  same_writes : Writes (λ a b. hosts_of b ≡ hosts_of a) Any
  same_writes = record { same = λ w. refl; on = λ a b c one next. next ∙ one; entry = λ w e may. refl; dropped = λ id cause. tt }

  module _ (w : WorldView) (o : HostsAreOwn w) (holding : AllByRecursion HoldsData w.hosts) (many : length w.from_hosts ≡ length w.hosts) where
    same_turn : (u : WorldView) (h : ℕ) (input : HostInput) (answer : HostAnswer) (new : WorldView) → hosts_of u ≡ hosts_of w → HostTurn rule u h input answer new → HostsAreOwn new
    same_turn u h input answer new same turn =
        a_host u h input answer new (still w u same o) (subst (λ (p : HostsPart). AllByRecursion HoldsData p.hosts) (sym same) holding)
        (subst (λ (p : HostsPart). length p.from_hosts ≡ length p.hosts) (sym same) many) turn

    at_host : (u : WorldView) (id : ℕ) (frame : List ℕ) (h : Option ℕ) (new : WorldView) → hosts_of u ≡ hosts_of w → ComesAtHost rule u id frame h new → HostsAreOwn new
    at_host u id frame None new same is = still w new (ap hosts_of is ∙ same) o
    at_host u id frame (Some h) new same is =
        same_turn (reception_noted u h id frame is.reception) h _ _ new
        (reception_left (λ a b. hosts_of b ≡ hosts_of a) Any same_writes (λ n g f. tt) u h id frame is.reception ∙ same) is.turn

    comes_out : (u : WorldView) (s port : ℕ) (item : Item) (new : WorldView) → hosts_of u ≡ hosts_of w → ComesOut rule u s port item new → HostsAreOwn new
    comes_out u s port (Control frame) new same is = still w new (ap hosts_of is ∙ same) o
    comes_out u s port (Data id frame) new same is = at_host u id frame (receiver u s port frame) new same is

    by_case : (e : Event) (new : WorldView) → Happened switch manager rule w e new → HostsAreOwn new
    by_case e new (FromHost h item items attachment is head at comes) =
        let taken : WorldView = record w { from_hosts = set w.from_hosts h.0 items } in
        let same = heard_left (λ a b. hosts_of b ≡ hosts_of a) Any same_writes (λ u heard. refl) taken h.0 item in
        at_switch (heard_item taken h.0 item) attachment.edge.0 attachment.port item new
        (still taken (heard_item taken h.0 item) same
        (shorter_own w.plan w.hosts w.from_hosts h.0 items (λ P all. (subst (λ (xs : List Item). AllByRecursion P xs) head all).1)
        (filled_within w.from_hosts h.0 item items head) o)) comes
    by_case e new (OverLink s port item items t q is head joined comes) =
        at_switch (record w { out = set w.out (port_index w.plan.k s.0 port) items }) t.0 q item new o comes
    by_case e new (OutOfPort s port item items is head joined comes) =
        comes_out (record w { out = set w.out (port_index w.plan.k s.0 port) items }) s.0 port item new refl comes
    by_case e new (Reported s told items is head turn) =
        still w new (ap hosts_of (by_manager manager (record w { to_manager = set w.to_manager s.0 items }) s.0 told new turn)) o
    by_case e new (Ordered s says items is head turn) = a_switch (record w { from_manager = set w.from_manager s.0 items }) s.0 _ _ new o turn
    by_case e new (Ticked s is turn) = a_switch _ s.0 _ _ new o turn
    by_case e new (Failed a b link is found fails) = still w new (ap hosts_of fails) o
    by_case e new (Repaired a b link is found repairs) = still w new (ap hosts_of repairs) o
    by_case e new (Lost s port item items is head loses) =
        still w new (ap hosts_of loses ∙ lost_left (λ a b. hosts_of b ≡ hosts_of a) Any same_writes
        (record w { out = set w.out (port_index w.plan.k s.0 port) items }) item) o
    by_case e new (Departed h s port from is at turn) =
        let within : h.0 < length w.from_hosts = subst (λ n. h.0 < n) (sym many) (slice_get_within w.hosts h.0 turn.before turn.found) in
        a_host (host_moved w h.0 from (record { edge = s; port = port })) h.0 _ _ new
        (shorter_own w.plan w.hosts w.from_hosts h.0 [] (λ P all. tt) within o) holding
        (length-set w.from_hosts h.0 [] ∙ many) turn
    by_case e new (PlayedFrame h input skip is turn) =
        same_turn (skip_noted w h.0 skip) h.0 _ _ new (skip_left (λ a b. hosts_of b ≡ hosts_of a) Any same_writes (λ g why. tt) w h.0 skip) turn
    by_case e new (Asked h input is turn) = same_turn w h.0 _ _ new refl turn
    by_case e new (BeganAnew is anew) = still w new (ap hosts_of anew) o

  pub step_own : (old : WorldView) (e : Event) (new : WorldView) → IsCounted old → WorldStep switch manager rule old e new → HostsAreOwn old → HostsAreOwn new
  step_own old e new counted step o =
      by_case (record old { steps = old.steps + 1 }) o counted.holding (counted.formed.from_hosts ∙ sym counted.formed.hosts) e new
      (happened switch manager rule (record old { steps = old.steps + 1 }) e new step)

  from_there : AccountsForFrames switch → (old : WorldView) (moments : List Moment) (new : WorldView) → IsCounted old → HostsAreOwn old →
      WorldRun switch manager rule old moments new → HostsAreOwn new
  from_there accounts old [] new counted o same = subst (λ (w : WorldView). HostsAreOwn w) (sym same) o
  from_there accounts old (Step e ∷ moments) new counted o run =
      from_there accounts run.0 moments new (step_is_counted switch manager rule accounts sends old e run.0 counted run.1.0 run.1.1) (step_own old e run.0 counted run.1.1 o) run.2
  from_there accounts old (Mark entry ∷ moments) new counted o run =
      from_there accounts run.0 moments new (marked_counted old run.0 entry run.1.0 run.1.1 counted)
      (subst (λ (p : HostsPart). OwnPart p) (sym (ap hosts_of run.1.1)) o) run.2

  pub run_own : AccountsForFrames switch → (plan : Plan) (limits : Limits) → CanBegin plan → (moments : List Moment) (new : WorldView) →
      WorldRun switch manager rule (booted plan limits) moments new → HostsAreOwn new
  run_own accounts plan limits can moments new run =
      from_there accounts (booted plan limits) moments new (booted_is_counted plan limits can) (hosts_own_first plan limits can.is_plan) run
