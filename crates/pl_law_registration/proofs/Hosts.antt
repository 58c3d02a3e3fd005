-- A turn of a host leaves what waits, and a host answers a probe.
use Rattle.std.proofs.Common.{◌≡◌, ◌<◌, ◌+◌, ◌%◌, ◌==◌, ◌&&◌, ◌++◌, ℕ, not, nat_le, drop, true, false, cond, if◌then◌else◌, get_or, set, List, [], ◌∷◌, fold, map, length, Option, Some, None, slice_index, refl, sym, ap, subst, ◌∙◌, inl, inr, eqb-true, get_or-set_same}
use Rattle.std.specs.List.{list_any}
use Rattle.std.proofs.lemmas.Bool.{and_from, and_parts, cases_Bool, false≢true}
use Rattle.byteorder.specs.Endian.{big_number}
use Rattle.pl_arp.specs.declared.cache.Me.{Me}
use Rattle.pl_arp.specs.declared.packet.Arp.{Arp}
use Rattle.pl_arp.specs.Reception.{answer_to, is_target, same_ip, table_after}
use Rattle.pl_frame.specs.declared.address.Mac.{Mac}
use Rattle.pl_frame.specs.Ethernet.{destination_of}
use Rattle.pl_frame.specs.Address.{IsGroup}
use Rattle.pl_wiring.specs.Index.{port_index}
use Rattle.pl_wiring.specs.Plan.{Plan}
use Rattle.pl_layouts.specs.Equality.{same_mac}
use Rattle.pl_layouts.specs.Frames.{packet_in}
use Rattle.pl_layouts.specs.Memberships.{flood, group_of, is_group, is_ip_group}
use Rattle.pl_layouts.proofs.Exports.{mac_is}
use Rattle.pl_node.specs.declared.acts.HostAct.{HostAct}
use Rattle.pl_node.specs.declared.acts.HostAct.TheVariants.{Send}
use Rattle.pl_node.specs.HostInputs.{HostAnswer, HostInput, HostRule}
use Rattle.pl_node.specs.HostInputs.HostAnswer.{Received}
use Rattle.pl_node.specs.HostInputs.HostInput.{Receives}
use Rattle.pl_node.specs.HostViews.{HostView}
use Rattle.pl_node.specs.declared.reception.Reception.TheVariants.{NotMember}
use Rattle.pl_host_rule.specs.HostRule.{HostStep, hearing, host_rule, host_step, is_not_joined, released_by, reply_frame, sending_on, step_to}
use Rattle.pl_host_rule.proofs.Exports.{packet_in-addresses}
use Rattle.pl_queues.specs.Queues.{items_at}
use Rattle.pl_world.specs.declared.item.Item.{Item}
use Rattle.pl_world.specs.declared.item.Item.TheVariants.{Data}
use Rattle.pl_world.specs.Changes.{sent_by_host}
use Rattle.pl_world.specs.OtherActs.{host_act_done}
use Rattle.pl_world.specs.WorldRule.{HostTurn}
use Rattle.pl_world.specs.Worlds.{WorldView}
use Rattle.pl_world.proofs.Exports.{by_host}
use Rattle.pl_law_registration.specs.Probes.{asks_for, is_packet, is_probe, is_readable}
use Rattle.pl_law_registration.proofs.Frames.{packet_is_readable}
use Rattle.pl_law_registration.proofs.Waiting.{Grows, any_last, grows_then, put_grows}
use Rattle.pl_law_registration.proofs.TurnsOfAKnownHost.{Follows, EdgePort}

-- ---- what a host's acts leave and bring about
record IsSent (w new : WorldView) : Type 0 where
  out : new.out ≡ w.out
  heard : new.heard ≡ w.heard
  mine : Grows w.from_hosts new.from_hosts

host_sends : (g : ℕ) (w : WorldView) (acts : List HostAct) → IsSent w (fold (host_act_done g) w acts)
host_sends g w [] = record { out = refl; heard = refl; mine = λ i p is. is }
host_sends g w (Send frame ∷ acts) =
    let next : WorldView = sent_by_host w g frame in
    let rest = host_sends g next acts in
    record {
      out = rest.out;
      heard = rest.heard;
      mine = grows_then w.from_hosts next.from_hosts (fold (host_act_done g) next acts).from_hosts (put_grows w.from_hosts g (Data (w.begun + 1) frame)) rest.mine;
    }

module _ (at : EdgePort) (rule : HostRule) (w : WorldView) (g : ℕ) (input : HostInput) (answer : HostAnswer) (new : WorldView) (turn : HostTurn rule w g input answer new) where
  sends : IsSent w new
  sends =
      let s = host_sends g (record w { hosts = set w.hosts g turn.after }) turn.acts in
      subst (λ (x : WorldView). IsSent w x) (sym turn.changed) (record { out = s.out; heard = s.heard; mine = s.mine })

  pub host_follows : Follows at w new
  host_follows = let same = by_host rule w g input answer new turn in record {
    switches = ap (λ (x : WorldView). x.switches) same;
    heard = ap (λ (xs : List (Option ℕ)). get_or xs at.h None) sends.heard;
    out = λ is.
        ap (λ (p : Plan). list_any (is_probe at.me) (items_at new.out (port_index p.k at.edge at.port))) (ap (λ (x : WorldView). x.plan) same)
        ∙ ap (λ (out : List (List Item)). list_any (is_probe at.me) (items_at out (port_index w.plan.k at.edge at.port))) sends.out ∙ is;
    mine = λ is. sends.mine at.h is_packet is;
  }

-- ---- the answer to a probe
-- what is to be known of a frame that is a probe
pub record IsAsked (me : Me) (frame : List ℕ) : Type 0 where
  pub to : destination_of frame ≡ me.mac
  pub arp : Arp
  pub read : packet_in frame ≡ Some arp
  pub op : (arp.op == 1) ≡ true
  pub target : same_ip arp.tpa me.ip ≡ true

pub asked : (me : Me) (id : ℕ) (frame : List ℕ) → is_probe me (Data id frame) ≡ true → IsAsked me frame
asked me id frame is =
    let two = and_parts (same_mac (destination_of frame) me.mac) (asks_for me (packet_in frame)) is in
    by (packet_in frame) refl two.1 (mac_is (destination_of frame) me.mac two.0)
  where
    by : (o : Option Arp) → packet_in frame ≡ o → asks_for me o ≡ true → destination_of frame ≡ me.mac → IsAsked me frame
    by None read asks to = absurd (false≢true asks)
    by (Some arp) read asks to =
        let two = and_parts (arp.op == 1) (same_ip arp.tpa me.ip) asks in record { to = to; arp = arp; read = read; op = two.0; target = two.1 }

no_group : (mac : Mac) → (IsGroup mac → ⊥) → is_group mac ≡ false
no_group mac never = elim (cases_Bool (is_group mac)) [
  | inr other ↦ other
  | inl is ↦ absurd (never (eqb-true (slice_index mac.0 0 % 2) 1 is))
]

-- its first act sends an ARP frame that can be read
pub record Replies (acts : List HostAct) : Type 0 where
  pub frame : List ℕ
  pub rest : List HostAct
  pub is : acts ≡ Send frame ∷ rest
  pub readable : is_readable frame ≡ true

module _ (me : Me) (six : length me.mac.0 ≡ 6) (single : IsGroup me.mac → ⊥) (view : HostView) (is_me : view.me ≡ me) (frame : List ℕ) (a : IsAsked me frame) where
  reply : Arp
  reply = record { op = 2; sha = me.mac; spa = me.ip; tha = a.arp.sha; tpa = a.arp.spa }

  answer_is : answer_to view.me a.arp ≡ Some reply
  unfolding reply
  answer_is =
      ap (λ (m : Me). answer_to m a.arp) is_me
      ∙ ap (λ b. if◌then◌else◌ {A = Option Arp} b (Some reply) None) (and_from (is_target me a.arp) (a.arp.op == 1) a.target a.op)

  alone : is_not_joined view (group_of (destination_of frame)) ≡ false
  alone =
      ap (λ (m : Mac). is_not_joined view (group_of m)) a.to
      ∙ ap (λ b. is_not_joined view (cond {A = Option ℕ} (not b) None
      (cond {A = Option ℕ} (is_ip_group me.mac && nat_le 256 (big_number 3 (drop 3 me.mac.0))) (Some (big_number 3 (drop 3 me.mac.0))) (Some flood)))) (no_group me.mac single)

  pub replies : Replies (host_step view (Receives frame)).acts
  unfolding reply
  replies =
      let cache_view : HostView = record view { cache = table_after view.cache view.me a.arp } in
      let heard : (host_step view (Receives frame)) ≡ sending_on cache_view (Some reply) =
      ap (λ b. if◌then◌else◌ {A = HostStep} b (step_to view [] (Received NotMember)) (hearing view (packet_in frame))) alone
      ∙ ap (λ (o : Option Arp). hearing view o) a.read ∙ ap (λ (o : Option Arp). sending_on cache_view o) answer_is in
      let sha = (packet_in-addresses frame a.arp a.read).sha in
      record {
        frame = reply_frame reply;
        rest = map Send (released_by (table_after view.cache view.me a.arp) view.held);
        is = ap (λ (s : HostStep). s.acts) heard;
        readable = packet_is_readable a.arp.sha reply sha six sha;
      }

-- a host that gets a probe then has the answer in its queue
module _ (at : EdgePort) (rule : HostRule) (lawful : (view : HostView) (input : HostInput) (after : HostView) (acts : List HostAct) (answer : HostAnswer) → rule view input after acts answer → host_rule view input after acts answer)
    (w : WorldView) (frame : List ℕ) (answer : HostAnswer) (new : WorldView) (turn : HostTurn rule w at.h (Receives frame) answer new)
    (six : length at.me.mac.0 ≡ 6) (single : IsGroup at.me.mac → ⊥) (is_me : turn.before.me ≡ at.me) (a : IsAsked at.me frame) (within : at.h < length w.from_hosts) where
  pub answers : list_any is_packet (items_at new.from_hosts at.h) ≡ true
  answers =
      let r = replies at.me six single turn.before is_me frame a in
      let ruled = lawful turn.before (Receives frame) turn.after turn.acts answer turn.ruled in
      let acts : turn.acts ≡ Send r.frame ∷ r.rest = sym (ap (λ (s : HostStep). s.acts) ruled) ∙ r.is in
      let first : WorldView = record w { hosts = set w.hosts at.h turn.after } in
      let next : WorldView = sent_by_host first at.h r.frame in
      let waits : list_any is_packet (items_at next.from_hosts at.h) ≡ true =
      ap (λ (xs : List Item). list_any is_packet xs) (get_or-set_same w.from_hosts at.h (items_at w.from_hosts at.h ++ Data (w.begun + 1) r.frame ∷ []) [] within)
      ∙ any_last is_packet (items_at w.from_hosts at.h) (Data (w.begun + 1) r.frame) r.readable in
      let more = host_sends at.h next r.rest in
      ap (λ (x : WorldView). list_any is_packet (items_at x.from_hosts at.h)) (turn.changed ∙ ap (λ (xs : List HostAct). fold (host_act_done at.h) first xs) acts)
      ∙ more.mine at.h is_packet waits
