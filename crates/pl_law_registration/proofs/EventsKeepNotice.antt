-- Each event keeps what is known of a host.
use Rattle.std.proofs.Common.{◌≡◌, ◌≢◌, ◌<◌, ◌+◌, ◌==◌, ℕ, nat_le, zero, suc, not, Bool, true, false, if◌then◌else◌, get_or, set, Contains, List, [], ◌∷◌, fold, find, Option, Some, None, slice_get, refl, sym, ap, subst, ◌∙◌, inl, inr, arith, eq-eqb, eqb-true}
use Rattle.std.specs.List.{list_any, position}
use Rattle.std.proofs.lemmas.Bool.{cases_Bool, false≢true, leb-false}
use Rattle.std.proofs.lemmas.Option.{none-some, same_Some}
use Rattle.pl_wiring.specs.declared.host.Host.{Host}
use Rattle.pl_wiring.specs.declared.link.Link.{Link}
use Rattle.pl_wiring.specs.declared.link.Peer.{Peer}
use Rattle.pl_wiring.specs.FatTree.{IsAt}
use Rattle.pl_wiring.specs.Index.{port_index}
use Rattle.pl_wiring.specs.Peers.{peer_of}
use Rattle.pl_wiring.proofs.Exports.{at_contained, entry_at-in_range, kept_link, peer_is_none}
use Rattle.pl_node.specs.declared.acts.ManagerAct.{ManagerAct}
use Rattle.pl_node.specs.declared.acts.ManagerAct.TheVariants.{Number, Say}
use Rattle.pl_node.specs.declared.messages.ToManager.{ToManager}
use Rattle.pl_node.specs.declared.messages.ToSwitch.{ToSwitch}
use Rattle.pl_node.specs.ManagerDuties.{ManagerRule}
use Rattle.pl_layouts.specs.Equality.{same_switch}
use Rattle.pl_node.specs.SwitchInputs.SwitchInput.{Says, Tick}
use Rattle.pl_journal.specs.declared.cause.Cause.TheVariants as cause
use Rattle.pl_journal.specs.declared.entry.Entry.TheVariants.{Dropped}
use Rattle.pl_journal.specs.Places.{is_host_port}
use Rattle.pl_queues.specs.Queues.{items_at}
use Rattle.pl_switch_rule.specs.SwitchRule.{Loose, switch_step}
use Rattle.pl_world.specs.declared.item.Item.{Item}
use Rattle.pl_world.specs.declared.item.Item.TheVariants.{Control, Data}
use Rattle.pl_world.specs.declared.spoken_frame.SpokenFrame.TheVariants.{Silent}
use Rattle.pl_world.specs.declared.attachment.AttachmentPoint.{AttachmentPoint}
use Rattle.pl_world.specs.Booting.{me_of}
use Rattle.pl_world.specs.Changes.{noted, out_of, said_to}
use Rattle.pl_world.specs.LinksAndMoves.{item_lost, link_failed, link_repaired}
use Rattle.pl_world.specs.OtherActs.{heard_after_tick, manager_act_done, manager_stepped, one_more_tick}
use Rattle.pl_world.specs.Restarting.{manager_restarted}
use Rattle.pl_world.specs.WorldRule.{DeliversFromManager, DeliversToManager, LinkFails, LinkIsRepaired, SwitchTurn}
use Rattle.pl_world.specs.Worlds.{WorldView}
use Rattle.pl_law_registration.specs.BeingRegistered.{AreAttachedApart}
use Rattle.pl_law_registration.specs.Probes.{is_packet, is_probe}
use Rattle.pl_law_registration.proofs.Facts.{Facts}
use Rattle.pl_law_registration.proofs.DeliveredOutOfPorts.{IsAsked, noted_follows, noticed_popped}
use Rattle.pl_law_registration.proofs.Places.{Attends, place_of, edge_port_of}
use Rattle.pl_law_registration.proofs.RowsAttendHosts.{order_known, tick_known}
use Rattle.pl_law_registration.proofs.Sending.{Keeps, kept_places}
use Rattle.pl_law_registration.proofs.Sources.{KnowsAt}
use Rattle.pl_law_registration.proofs.TurnsOfAKnownHost.{NoticedIn, noticed_on, turn_keeps, turn_noticed}

-- ---- the ticks of a switch count for the hosts that stand there
heard_there : (s : ℕ) (attachments : List AttachmentPoint) (heard : List (Option ℕ)) (h : ℕ) (attachment : AttachmentPoint) → slice_get attachments h ≡ Some attachment →
    get_or (heard_after_tick s attachments heard) h None ≡ (if◌then◌else◌ {A = Option ℕ} (attachment.edge.0 == s) (one_more_tick (get_or heard h None)) (get_or heard h None))
heard_there s [] heard h attachment is = absurd (none-some attachment is)
heard_there s (a ∷ attachments) [] h attachment is = nothing (attachment.edge.0 == s)
  where
    nothing : (b : Bool) → None ≡ (if◌then◌else◌ {A = Option ℕ} b None None)
    nothing true = refl
    nothing false = refl
heard_there s (a ∷ attachments) (o ∷ heard) zero attachment is =
    ap (λ (x : AttachmentPoint). if◌then◌else◌ {A = Option ℕ} (x.edge.0 == s) (one_more_tick o) o) (same_Some a attachment is)
heard_there s (a ∷ attachments) (o ∷ heard) (suc h) attachment is = heard_there s attachments heard h attachment is

-- it was heard one tick less ago
record WasHeard (before : Option ℕ) (ticks : ℕ) : Type 0 where
  less : ℕ
  is : before ≡ Some less
  one_more : ticks ≡ less + 1
  few : less + 1 < 300

was_heard : (before : Option ℕ) (ticks : ℕ) → one_more_tick before ≡ Some ticks → WasHeard before ticks
was_heard None ticks is = absurd (none-some ticks is)
was_heard (Some less) ticks is = by (nat_le 300 (less + 1)) refl is
  where
    by : (b : Bool) → nat_le 300 (less + 1) ≡ b → if◌then◌else◌ {A = Option ℕ} b None (Some (less + 1)) ≡ Some ticks → WasHeard (Some less) ticks
    by true past none = absurd (none-some ticks none)
    by false few some = record { less = less; is = refl; one_more = sym (same_Some (less + 1) ticks some); few = leb-false 300 (less + 1) few }

module _ (h : ℕ) (w : WorldView) (f : Facts w) (apart : AreAttachedApart w.attachments) (a : Attends h w) where
  -- ---- the manager speaks to a switch, and a switch ticks
  pub from_manager : (s : ℕ) (items : List ToSwitch) (new : WorldView) → DeliversFromManager Loose w s items new → Keeps h w new
  from_manager s [] new turn = absurd turn
  from_manager s (says ∷ rest) new turn =
      let u : WorldView = record w { from_manager = set w.from_manager s rest } in
      record {
        rest = kept_places w u s (Says says) Silent new turn refl refl;
        noticed = λ host attachment at_host at_attachment.
            let p = place_of w f h host attachment at_host at_attachment in
            let edge = f.at_edges h attachment at_attachment in
            turn_keeps (edge_port_of h host attachment) u s (Says says) Silent new turn (record { free = p.free; within = p.within; six = p.six; small = p.small }) (a.noticed host attachment at_host at_attachment)
            (λ v same found choose ticks knows. order_known (me_of host) attachment.port choose ticks v (f.homes attachment.edge.0 attachment.port v edge.edge edge.port edge.free found).ready says knows);
      }

  pub ticks_on : (s : ℕ) (new : WorldView) → SwitchTurn Loose (record w { heard = heard_after_tick s w.attachments w.heard }) s Tick Silent new → Keeps h w new
  ticks_on s new turn =
      let u : WorldView = record w { heard = heard_after_tick s w.attachments w.heard } in
      record {
        rest = kept_places w u s Tick Silent new turn refl refl;
        noticed = λ host attachment at_host at_attachment.
            let p = place_of w f h host attachment at_host at_attachment in
            let heard_is = heard_there s w.attachments w.heard h attachment at_attachment in
            turn_noticed (edge_port_of h host attachment) u s Tick Silent new turn (record { free = p.free; within = p.within; six = p.six; small = p.small })
            (λ v same found choose ticks heard.
            let here : slice_get w.switches attachment.edge.0 ≡ Some v = ap (λ n. slice_get w.switches n) same ∙ found in
            let was = was_heard (get_or w.heard h None) ticks
            (sym (ap (λ b. if◌then◌else◌ {A = Option ℕ} b (one_more_tick (get_or w.heard h None)) (get_or w.heard h None)) (eq-eqb attachment.edge.0 s same)) ∙ sym heard_is ∙ heard) in
            elim (a.noticed host attachment at_host at_attachment v here was.less was.is) [
              | inl knows ↦ inl (inl (subst (λ n. KnowsAt (me_of host) n (switch_step choose v Tick).view attachment.port) (sym was.one_more)
                  (tick_known (me_of host) attachment.port choose was.less was.few v knows)))
              | inr waits ↦ inr waits
            ])
            (λ other v found ticks heard. a.noticed host attachment at_host at_attachment v found ticks
            (sym (heard_is ∙ ap (λ b. if◌then◌else◌ {A = Option ℕ} b (one_more_tick (get_or w.heard h None)) (get_or w.heard h None)) (not_eqb attachment.edge.0 s other)) ∙ heard));
      }
    where
      not_eqb : (m n : ℕ) → m ≢ n → (m == n) ≡ false
      not_eqb m n other = elim (cases_Bool (m == n)) [ inl is ↦ absurd (other (eqb-true m n is)) | inr is ↦ is ]

  -- ---- nothing of this changes
  record IsSame (new : WorldView) : Type 0 where
    plan : new.plan ≡ w.plan
    attachments : new.attachments ≡ w.attachments
    switches : new.switches ≡ w.switches
    out : new.out ≡ w.out
    from_hosts : new.from_hosts ≡ w.from_hosts
    heard : new.heard ≡ w.heard

  same_keeps : (new : WorldView) → IsSame new → Keeps h w new
  same_keeps new same = record {
    rest = (same.plan, same.attachments);
    noticed = λ host attachment at_host at_attachment.
        noticed_on (edge_port_of h host attachment) w new (record {
          switches = same.switches;
          heard = ap (λ (xs : List (Option ℕ)). get_or xs h None) same.heard;
          out = λ waits. (λ i. list_any (is_probe (me_of host)) (items_at (same.out i) (port_index (same.plan i).k attachment.edge.0 attachment.port))) ∙ waits;
          mine = λ packet. ap (λ (xs : List (List Item)). list_any is_packet (items_at xs h)) same.from_hosts ∙ packet;
        }) (a.noticed host attachment at_host at_attachment);
  }

  -- ---- a switch tells the manager
  said_same : (u : WorldView) (to : ToSwitch) (o : Option ℕ) → IsSame u → IsSame (said_to u to o)
  said_same u to None same = same
  said_same u to (Some s) same = record { plan = same.plan; attachments = same.attachments; switches = same.switches; out = same.out; from_hosts = same.from_hosts; heard = same.heard }

  one_said : (u : WorldView) (act : ManagerAct) → IsSame u → IsSame (manager_act_done u act)
  one_said u (Say to says) same = said_same u says (position (same_switch to) u.plan.ids) same
  one_said u (Number pmac n) same = record {
    plan = same.plan;
    attachments = same.attachments;
    switches = same.switches;
    out = same.out;
    from_hosts = same.from_hosts;
    heard = same.heard;
  }

  all_said : (u : WorldView) (acts : List ManagerAct) → IsSame u → IsSame (fold manager_act_done u acts)
  all_said u [] same = same
  all_said u (act ∷ acts) same = all_said (manager_act_done u act) acts (one_said u act same)

  pub to_manager : (rule : ManagerRule) (s : ℕ) (items : List ToManager) (new : WorldView) → DeliversToManager rule w s items new → Keeps h w new
  to_manager rule s [] new turn = absurd turn
  to_manager rule s (told ∷ rest) new turn =
      subst (λ (x : WorldView). Keeps h w x) (sym turn.changed)
      (same_keeps (manager_stepped (record w { to_manager = set w.to_manager s rest }) turn.after turn.acts)
      (all_said (record w { to_manager = set w.to_manager s rest; manager = turn.after }) turn.acts
      (record { plan = refl; attachments = refl; switches = refl; out = refl; from_hosts = refl; heard = refl })))

  -- ---- links
  found_contained : (p : Link → Bool) (links : List Link) (link : Link) → find p links ≡ Some link → Contains links link
  found_contained p [] link is = absurd (none-some link is)
  found_contained p (l ∷ links) link is = by_first (p l) (found_contained p links link) is
    where
      by_first : (b : Bool) → (find p links ≡ Some link → Contains links link) → (if b then Some l else find p links) ≡ Some link → Contains (l ∷ links) link
      by_first true later e = (0, omega arith, same_Some l link e)
      by_first false later e = let there = later e in (suc there.0, omega (arith, there.1), there.2)

  pub fails_on : (p : Link → Bool) (found : Option Link) → find p w.plan.links ≡ found → (new : WorldView) → LinkFails w found new → Keeps h w new
  fails_on p None is new none = absurd none
  fails_on p (Some link) is new same =
      let k = w.plan.k in
      let lower = port_index k link.lower.0 link.lower_port in
      let upper = port_index k link.upper.0 link.upper_port in
      let there = found_contained p w.plan.links link is in
      let first = set w.out lower [] in
      subst (λ (x : WorldView). Keeps h w x) (sym same) (record {
        rest = (refl, refl);
        noticed = λ host attachment at_host at_attachment.
            let edge = f.at_edges h attachment at_attachment in
            let away : IsAt link attachment.edge.0 attachment.port → ⊥ =
            at_contained (λ (l : Link). IsAt l attachment.edge.0 attachment.port → ⊥) w.plan.links link ((peer_is_none w.plan attachment.edge.0 attachment.port f.plan).0 edge.free) there in
            let ports = at_contained (λ (l : Link). (l.lower_port < k) × (l.upper_port < k)) w.plan.links link f.plan.tree.ports_in_range there in
            let queue : items_at (set first upper []) (port_index k attachment.edge.0 attachment.port) ≡ items_at w.out (port_index k attachment.edge.0 attachment.port) =
            sym (entry_at-in_range [] k (set first upper []) attachment.edge.0 attachment.port edge.port) ∙ kept_link [] k w.out link [] ports attachment.edge.0 attachment.port away
            ∙ entry_at-in_range [] k w.out attachment.edge.0 attachment.port edge.port in
            noticed_on (edge_port_of h host attachment) w (link_failed w link) (record {
              switches = refl;
              heard = refl;
              out = λ waits. ap (λ (xs : List Item). list_any (is_probe (me_of host)) xs) queue ∙ waits;
              mine = λ x. x;
            }) (a.noticed host attachment at_host at_attachment);
      })

  pub repaired_on : (found : Option Link) (new : WorldView) → LinkIsRepaired w found new → Keeps h w new
  repaired_on None new none = absurd none
  repaired_on (Some link) new same =
      subst (λ (x : WorldView). Keeps h w x) (sym same)
      (same_keeps (link_repaired w link) (record {
        plan = refl;
        attachments = refl;
        switches = refl;
        out = refl;
        from_hosts = refl;
        heard = refl;
      }))

  -- ---- the manager begins anew
  pub anew_on : (new : WorldView) → new ≡ manager_restarted w → Keeps h w new
  anew_on new anew =
      subst (λ (x : WorldView). Keeps h w x) (sym anew)
      (same_keeps (manager_restarted w) (record {
        plan = refl;
        attachments = refl;
        switches = refl;
        out = refl;
        from_hosts = refl;
        heard = refl;
      }))

  -- ---- an item is lost
  module _ (s port : ℕ) (item : Item) (rest : List Item) (head : out_of w s port ≡ item ∷ rest) (within : port < w.plan.k) (linked : not (is_host_port (peer_of w.plan s port)) ≡ true) where
    never_asked : (host : Host) (attachment : AttachmentPoint) → slice_get w.attachments h ≡ Some attachment → IsAsked h w f apart a s port item rest head within host attachment → ⊥
    never_asked host attachment at_attachment is =
        false≢true (ap (λ (p : Peer). not (is_host_port p)) (sym ((λ i. peer_of w.plan (sym is.edge i) (sym is.at_port i)) ∙ (f.at_edges h attachment at_attachment).free)) ∙ linked)

    pub lost_on : (new : WorldView) → new ≡ item_lost (record w { out = set w.out (port_index w.plan.k s port) rest }) item → Keeps h w new
    lost_on new same = subst (λ (x : WorldView). Keeps h w x) (sym same) (by item)
      where
        noticed : (host : Host) (attachment : AttachmentPoint) → slice_get w.plan.hosts h ≡ Some host → slice_get w.attachments h ≡ Some attachment → NoticedIn (edge_port_of h host attachment) (record w { out = set w.out (port_index w.plan.k s port) rest })
        noticed host attachment at_host at_attachment = noticed_popped h w f apart a s port item rest head within host attachment at_host at_attachment (never_asked host attachment at_attachment)

        by : (i : Item) → Keeps h w (item_lost (record w { out = set w.out (port_index w.plan.k s port) rest }) i)
        by (Control frame) = record { rest = (refl, refl); noticed = noticed }
        by (Data id frame) =
            let u : WorldView = record w { out = set w.out (port_index w.plan.k s port) rest } in
            record {
              rest = (refl, refl);
              noticed = λ host attachment at_host at_attachment.
                  noticed_on (edge_port_of h host attachment) u (noted u (Dropped id cause.Lost))
                  (noted_follows (edge_port_of h host attachment) u (Dropped id cause.Lost))
                  (noticed host attachment at_host at_attachment);
            }
