-- A step that is computed is one of the world.
use Rattle.std.proofs.Common.{◌≡◌, ℕ, ◌+◌, false, List, [], ◌∷◌, Option, Some, None, is_none, slice_get, refl, sym, ap, ◌∙◌}
use Rattle.std.proofs.lemmas.Option.{none-some, same_Some}
use Rattle.pl_frame.specs.declared.address.SwitchId.{SwitchId}
use Rattle.pl_wiring.specs.declared.link.Link.{Link}
use Rattle.pl_wiring.specs.declared.link.Peer.{Peer}
use Rattle.pl_wiring.specs.declared.link.Peer.TheVariants.{HostPort, Switch}
use Rattle.pl_wiring.specs.Peers.{peer_of}
use Rattle.pl_node.specs.declared.messages.ToManager.{ToManager}
use Rattle.pl_node.specs.declared.messages.ToSwitch.{ToSwitch}
use Rattle.pl_node.specs.declared.reception.Reception.{Reception}
use Rattle.pl_node.specs.declared.reception.Reception.TheVariants.{Kept, NotMember}
use Rattle.pl_journal.specs.declared.cause.Skip.{Skip}
use Rattle.pl_node.specs.HostInputs.{HostAnswer, HostInput}
use Rattle.pl_node.specs.HostInputs.HostAnswer.{Nothing, Played, Received}
use Rattle.pl_node.specs.HostInputs.HostInput.{Receives, Starts}
use Rattle.pl_node.specs.HostViews.{HostView}
use Rattle.pl_node.specs.SwitchInputs.{SwitchInput}
use Rattle.pl_node.specs.SwitchInputs.SwitchInput.{Comes, Says, Tick}
use Rattle.pl_node.specs.SwitchViews.{SwitchView}
use Rattle.pl_switch_rule.specs.SwitchRule.{Exact, by_flow, switch_step}
use Rattle.pl_manager_rule.specs.WholeRule.{manager_steps, whole_rule}
use Rattle.pl_host_rule.specs.HostRule.{HostStep, host_rule, host_step}
use Rattle.pl_world.specs.declared.error.StepError.{StepError}
use Rattle.pl_world.specs.declared.event.Event.{Event}
use Rattle.pl_world.specs.declared.event.Event.TheVariants as event
use Rattle.pl_world.specs.declared.event.QueueName.{QueueName}
use Rattle.pl_world.specs.declared.event.QueueName.TheVariants as queue
use Rattle.pl_world.specs.declared.item.Item.{Item}
use Rattle.pl_world.specs.declared.item.Item.TheVariants.{Control, Data}
use Rattle.pl_world.specs.declared.spoken_frame.SpokenFrame.{SpokenFrame}
use Rattle.pl_world.specs.declared.spoken_frame.SpokenFrame.TheVariants.{Silent, Waiting}
use Rattle.pl_world.specs.declared.attachment.AttachmentPoint.{AttachmentPoint}
use Rattle.pl_world.specs.Changes.{out_of, receiver}
use Rattle.pl_world.specs.LinksAndMoves.{link_between}
use Rattle.pl_world.specs.OtherActs.{reception_noted, skip_noted}
use Rattle.pl_world.specs.Refusals.{refusal}
use Rattle.pl_world.specs.Runs.{Befalls}
use Rattle.pl_world.specs.Runs.Moment.{Step}
use Rattle.pl_world.specs.WorldRule.{ComesAtHost, ComesAtSwitch, ComesIn, ComesOut, ComesOver, Delivers, DeliversFromHost, DeliversFromManager, DeliversOut, DeliversToManager, LinkFails, Happens, HostPlays, HostReceives, HostTurn, ManagerTurn, SwitchTurn}
use Rattle.pl_world.specs.Worlds.{WorldView}
use Rattle.pl_queues.specs.Queues.{items_at}
use Rattle.pl_sure_example.specs.Executing.{comes_at_host, comes_at_switch, comes_in, comes_out, comes_over, delivered, failed, from_host, from_manager, happened, host_turns, made, made_if, manager_turn, out_by, played_by, plays, received_as, receives, switch_turn, switch_turns, to_manager}

switch_turn_is : (w : WorldView) (s : ℕ) (input : SwitchInput) (speech : SpokenFrame) (new : WorldView) → switch_turn w s input speech ≡ Some new → SwitchTurn Exact w s input speech new
switch_turn_is w s input speech new is = by (slice_get w.switches s) refl is
  where
    by : (o : Option SwitchView) → slice_get w.switches s ≡ o → switch_turns w s input speech o ≡ Some new → SwitchTurn Exact w s input speech new
    by None found is = absurd (none-some new is)
    by (Some before) found is = record {
      before = before;
      after = (switch_step by_flow before input).view;
      acts = (switch_step by_flow before input).acts;
      found = found;
      ruled = record { view = refl; done = refl };
      changed = sym (same_Some _ new is);
    }

at_switch_is : (w : WorldView) (s port : ℕ) (item : Item) (new : WorldView) → comes_at_switch w s port item ≡ Some new → ComesAtSwitch Exact w s port item new
at_switch_is w s port (Control frame) new is = switch_turn_is _ s (Comes port frame) Silent new is
at_switch_is w s port (Data id frame) new is = switch_turn_is _ s (Comes port frame) (Waiting id false) new is

answer_is : (step : HostStep) (answer : HostAnswer) → step.answer ≡ answer → step ≡ record { view = step.view; acts = step.acts; answer = answer }
answer_is step answer is = ap (λ (a : HostAnswer). record { view = step.view; acts = step.acts; answer = a }) is

receives_is : (w : WorldView) (h id : ℕ) (frame : List ℕ) (new : WorldView) → receives w h id frame (slice_get w.hosts h) ≡ Some new → HostReceives host_rule w h id frame new
receives_is w h id frame new is = by (slice_get w.hosts h) refl is
  where
    hosts_stay : (r : Reception) → (reception_noted w h id frame r).hosts ≡ w.hosts
    hosts_stay Kept = refl
    hosts_stay NotMember = refl

    with_answer : (before : HostView) → slice_get w.hosts h ≡ Some before → (answer : HostAnswer) → (host_step before (Receives frame)).answer ≡ answer →
        received_as w h id frame (host_step before (Receives frame)) answer ≡ Some new → HostReceives host_rule w h id frame new
    with_answer before found Nothing says is = absurd (none-some new is)
    with_answer before found (Played skip) says is = absurd (none-some new is)
    with_answer before found (Received reception) says is = record {
      reception = reception;
      turn = record {
        before = before;
        after = (host_step before (Receives frame)).view;
        acts = (host_step before (Receives frame)).acts;
        found = ap (λ (hosts : List HostView). slice_get hosts h) (hosts_stay reception) ∙ found;
        ruled = answer_is (host_step before (Receives frame)) (Received reception) says;
        changed = sym (same_Some _ new is);
      };
    }

    by : (o : Option HostView) → slice_get w.hosts h ≡ o → receives w h id frame o ≡ Some new → HostReceives host_rule w h id frame new
    by None found is = absurd (none-some new is)
    by (Some before) found is = with_answer before found (host_step before (Receives frame)).answer refl is

plays_is : (w : WorldView) (h : ℕ) (input : HostInput) (new : WorldView) → plays w h input (slice_get w.hosts h) ≡ Some new → HostPlays host_rule w h input new
plays_is w h input new is = by (slice_get w.hosts h) refl is
  where
    hosts_stay : (skip : Option Skip) → (skip_noted w h skip).hosts ≡ w.hosts
    hosts_stay None = refl
    hosts_stay (Some skip) = refl

    with_answer : (before : HostView) → slice_get w.hosts h ≡ Some before → (answer : HostAnswer) → (host_step before input).answer ≡ answer →
        played_by w h (host_step before input) answer ≡ Some new → HostPlays host_rule w h input new
    with_answer before found Nothing says is = absurd (none-some new is)
    with_answer before found (Received reception) says is = absurd (none-some new is)
    with_answer before found (Played skip) says is = record {
      skip = skip;
      turn = record {
        before = before;
        after = (host_step before input).view;
        acts = (host_step before input).acts;
        found = ap (λ (hosts : List HostView). slice_get hosts h) (hosts_stay skip) ∙ found;
        ruled = answer_is (host_step before input) (Played skip) says;
        changed = sym (same_Some _ new is);
      };
    }

    by : (o : Option HostView) → slice_get w.hosts h ≡ o → plays w h input o ≡ Some new → HostPlays host_rule w h input new
    by None found is = absurd (none-some new is)
    by (Some before) found is = with_answer before found (host_step before input).answer refl is

starts_is : (w : WorldView) (h : ℕ) (new : WorldView) → host_turns w h Starts (slice_get w.hosts h) ≡ Some new → HostTurn host_rule w h Starts Nothing new
starts_is w h new is = by (slice_get w.hosts h) refl is
  where
    by : (o : Option HostView) → slice_get w.hosts h ≡ o → host_turns w h Starts o ≡ Some new → HostTurn host_rule w h Starts Nothing new
    by None found is = absurd (none-some new is)
    by (Some before) found is = record {
      before = before;
      after = (host_step before Starts).view;
      acts = (host_step before Starts).acts;
      found = found;
      ruled = answer_is (host_step before Starts) Nothing refl;
      changed = sym (same_Some _ new is);
    }

at_host_is : (w : WorldView) (id : ℕ) (frame : List ℕ) (to : Option ℕ) (new : WorldView) → comes_at_host w id frame to ≡ Some new → ComesAtHost host_rule w id frame to new
at_host_is w id frame None new is = sym (same_Some _ new is)
at_host_is w id frame (Some h) new is = receives_is w h id frame new is

out_is : (w : WorldView) (s port : ℕ) (item : Item) (new : WorldView) → comes_out w s port item ≡ Some new → ComesOut host_rule w s port item new
out_is w s port (Control frame) new is = sym (same_Some _ new is)
out_is w s port (Data id frame) new is = at_host_is w id frame (receiver w s port frame) new is

over_is : (w : WorldView) (s port : ℕ) (item : Item) (peer : Peer) (new : WorldView) → comes_over w s port item peer ≡ Some new → ComesOver Exact host_rule w s port item peer new
over_is w s port item (Switch t q) new is = at_switch_is w t.0 q item new is
over_is w s port item HostPort new is = out_is w s port item new is

in_is : (w : WorldView) (h : ℕ) (item : Item) (attachment : Option AttachmentPoint) (new : WorldView) → comes_in w h item attachment ≡ Some new → ComesIn Exact w h item attachment new
in_is w h item None new is = none-some new is
in_is w h item (Some attachment) new is = at_switch_is _ attachment.edge.0 attachment.port item new is

from_host_is : (w : WorldView) (h : ℕ) (items : List Item) (new : WorldView) → from_host w h items ≡ Some new → DeliversFromHost Exact w h items new
from_host_is w h [] new is = none-some new is
from_host_is w h (item ∷ items) new is = in_is _ h item (slice_get w.attachments h) new is

by_port_is : (w : WorldView) (s port : ℕ) (items : List Item) (new : WorldView) → out_by w s port items ≡ Some new → DeliversOut Exact host_rule w s port items new
by_port_is w s port [] new is = none-some new is
by_port_is w s port (item ∷ items) new is = over_is _ s port item (peer_of w.plan s port) new is

manager_turn_is : (w : WorldView) (s : ℕ) (told : ToManager) (new : WorldView) → manager_turn w told (slice_get w.plan.ids s) ≡ Some new → ManagerTurn whole_rule w s told new
manager_turn_is w s told new is = by (slice_get w.plan.ids s) refl is
  where
    by : (o : Option SwitchId) → slice_get w.plan.ids s ≡ o → manager_turn w told o ≡ Some new → ManagerTurn whole_rule w s told new
    by None found is = absurd (none-some new is)
    by (Some id) found is = record {
      id = id;
      after = (manager_steps w.manager id told).view;
      acts = (manager_steps w.manager id told).acts;
      found = found;
      ruled = (refl, refl);
      changed = sym (same_Some _ new is);
    }

to_manager_is : (w : WorldView) (s : ℕ) (items : List ToManager) (new : WorldView) → to_manager w s items ≡ Some new → DeliversToManager whole_rule w s items new
to_manager_is w s [] new is = none-some new is
to_manager_is w s (told ∷ items) new is = manager_turn_is _ s told new is

from_manager_is : (w : WorldView) (s : ℕ) (items : List ToSwitch) (new : WorldView) → from_manager w s items ≡ Some new → DeliversFromManager Exact w s items new
from_manager_is w s [] new is = none-some new is
from_manager_is w s (says ∷ items) new is = switch_turn_is _ s (Says says) Silent new is

delivered_is : (w : WorldView) (name : QueueName) (new : WorldView) → delivered w name ≡ Some new → Delivers Exact whole_rule host_rule w name new
delivered_is w (queue.FromHost h) new is = from_host_is w h.0 (items_at w.from_hosts h.0) new is
delivered_is w (queue.Port s port) new is = by_port_is w s.0 port (out_of w s.0 port) new is
delivered_is w (queue.ToManager s) new is = to_manager_is w s.0 (items_at w.to_manager s.0) new is
delivered_is w (queue.FromManager s) new is = from_manager_is w s.0 (items_at w.from_manager s.0) new is

failed_is : (w : WorldView) (link : Option Link) (new : WorldView) → failed w link ≡ Some new → LinkFails w link new
failed_is w None new is = none-some new is
failed_is w (Some link) new is = sym (same_Some _ new is)

happened_is : (w : WorldView) (e : Event) (new : WorldView) → happened w e ≡ Some new → Happens Exact whole_rule host_rule w e new
happened_is w (event.Deliver name) new is = delivered_is w name new is
happened_is w (event.Tick s) new is = switch_turn_is _ s.0 Tick Silent new is
happened_is w (event.Fail a b) new is = failed_is w (link_between w.plan a.0 b.0) new is
happened_is w (event.Start h) new is = starts_is w h.0 new is
happened_is w (event.Play h frame original raw) new is = plays_is w h.0 _ new is
happened_is w e new is = absurd (none-some new is)

pub made_is : (w : WorldView) (e : Event) (new : WorldView) → made w e ≡ Some new → Befalls Exact whole_rule host_rule w (Step e) new
made_is w e new is = by (refusal w e) refl is
  where
    by : (o : Option StepError) → refusal w e ≡ o → made_if w e (is_none o) ≡ Some new → Befalls Exact whole_rule host_rule w (Step e) new
    by None free is = (free, happened_is (record w { steps = w.steps + 1 }) e new is)
    by (Some error) refused is = absurd (none-some new is)
