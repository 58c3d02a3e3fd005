-- A turn of a switch, against what is known of a host.
use Rattle.std.proofs.Common.{◌≡◌, ◌≢◌, ◌⊎◌, ◌<◌, ◌+◌, ◌^◌, ◌&&◌, ◌++◌, ℕ, not, true, false, if◌then◌else◌, get_or, set, List, [], ◌∷◌, length, Some, None, slice_get, sym, ap, subst, ◌∙◌, inl, inr, get_or-set_same}
use Rattle.std.specs.List.{list_any}
use Rattle.std.proofs.lemmas.Bool.{cases_eq}
use Rattle.std.proofs.lemmas.List.Sums.{fold-append}
use Rattle.std.proofs.lemmas.Option.{same_Some, slice_get_within}
use Rattle.pl_arp.specs.declared.cache.Me.{Me}
use Rattle.pl_wiring.specs.declared.link.Peer.{Peer}
use Rattle.pl_wiring.specs.declared.link.Peer.TheVariants.{HostPort}
use Rattle.pl_wiring.specs.Index.{port_index}
use Rattle.pl_wiring.specs.LiveLinks.{is_live_at}
use Rattle.pl_wiring.specs.Peers.{peer_of}
use Rattle.pl_wiring.specs.Plan.{Plan}
use Rattle.pl_layouts.specs.declared.place.Place.{Place}
use Rattle.pl_layouts.specs.Frames.{arriving}
use Rattle.pl_node.specs.declared.acts.Act.{Act}
use Rattle.pl_node.specs.declared.acts.Act.TheVariants as act
use Rattle.pl_node.specs.SwitchInputs.{SwitchInput}
use Rattle.pl_node.specs.SwitchViews.{SwitchView}
use Rattle.pl_journal.specs.Places.{is_host_port}
use Rattle.pl_queues.specs.Queues.{items_at, put_at}
use Rattle.pl_switch_rule.specs.Forwarding.{Choice}
use Rattle.pl_switch_rule.specs.Messages.{probe_frame}
use Rattle.pl_switch_rule.specs.SwitchRule.{Loose, switch_step}
use Rattle.pl_world.specs.declared.item.Item.{Item}
use Rattle.pl_world.specs.declared.item.Item.TheVariants.{Data}
use Rattle.pl_world.specs.declared.spoken_frame.SpokenFrame.{SpokenFrame}
use Rattle.pl_world.specs.Changes.{is_failed_at}
use Rattle.pl_world.specs.SwitchActs.{DuringActs, act_done, acts_done, begins}
use Rattle.pl_world.specs.WorldRule.{SwitchTurn}
use Rattle.pl_world.specs.Worlds.{WorldView}
use Rattle.pl_law_addresses.specs.EdgeAddresses.{is_settled}
use Rattle.pl_law_addresses.proofs.Exports.{get-set_other, get-set_same}
use Rattle.pl_law_registration.specs.BeingRegistered.{heard_at}
use Rattle.pl_law_registration.specs.Probes.{is_packet, is_probe}
use Rattle.pl_law_registration.proofs.Waiting.{any_last}
use Rattle.pl_law_registration.proofs.Acts.{Rest, Stepped, all_acts, one_act, rest_of, switch_steps}
use Rattle.pl_law_registration.proofs.Frames.{probe_is_one}
use Rattle.pl_law_registration.proofs.RowsAttendHosts.{IsProbed, KnowsOrProbes, place_stays}
use Rattle.pl_law_registration.proofs.Sources.{KnowsAt}

-- a host, and the edge switch and the port where it stands
pub record EdgePort : Type 0 where
  pub h : ℕ
  pub me : Me
  pub edge : ℕ
  pub port : ℕ

module _ (at : EdgePort) where
  abbrev pub queue_to : WorldView → List Item
  queue_to w = items_at w.out (port_index w.plan.k at.edge at.port)

  -- a probe waits, or its answer, or another ARP frame of the host
  abbrev pub Waits : List Item → List Item → Type 0
  Waits queue mine = (list_any (is_probe at.me) queue ≡ true) ⊎ (list_any is_packet mine ≡ true)

  -- the host is known to an edge switch, or that is placed, and one of these waits
  abbrev pub Noticed : ℕ → SwitchView → List Item → List Item → Type 0
  Noticed ticks v queue mine = KnowsAt at.me ticks v at.port ⊎ ((is_settled v.place ≡ true) × Waits queue mine)

  abbrev pub NoticedIn : WorldView → Type 0
  NoticedIn w = (v : SwitchView) → slice_get w.switches at.edge ≡ Some v → (ticks : ℕ) → heard_at w at.h ≡ Some ticks → Noticed ticks v (queue_to w) (items_at w.from_hosts at.h)

  -- what hosts want of the place
  pub record IsPlace (w : WorldView) : Type 0 where
    pub free : peer_of w.plan at.edge at.port ≡ HostPort
    pub within : port_index w.plan.k at.edge at.port < length w.out
    pub six : length at.me.mac.0 ≡ 6
    pub small : at.me.ip.0 < 2 ^ 32

  -- ---- a change in which all that waits waits still
  pub record Follows (w new : WorldView) : Type 0 where
    pub switches : new.switches ≡ w.switches
    pub heard : heard_at new at.h ≡ heard_at w at.h
    pub out : list_any (is_probe at.me) (queue_to w) ≡ true → list_any (is_probe at.me) (queue_to new) ≡ true
    pub mine : list_any is_packet (items_at w.from_hosts at.h) ≡ true → list_any is_packet (items_at new.from_hosts at.h) ≡ true

  pub noticed_on : (w new : WorldView) → Follows w new → NoticedIn w → NoticedIn new
  noticed_on w new f noticed = λ v found ticks heard. elim (noticed v (ap (λ (vs : List SwitchView). slice_get vs at.edge) (sym f.switches) ∙ found) ticks (sym f.heard ∙ heard)) [
    | inl knows ↦ inl knows
    | inr waits ↦ inr (waits.0, elim waits.1 [ inl probe ↦ inl (f.out probe) | inr packet ↦ inr (f.mine packet) ])
  ]

  -- ---- a switch
  module _ (w : WorldView) (s : ℕ) (input : SwitchInput) (speech : SpokenFrame) (new : WorldView) (turn : SwitchTurn Loose w s input speech new) where
    start : DuringActs
    start = begins (record w { switches = set w.switches s turn.after }) speech

    stepped : Stepped w new (set w.switches s turn.after)
    stepped =
        subst (λ (x : WorldView). Stepped w x (set w.switches s turn.after)) (sym turn.changed) (switch_steps w s turn.before turn.after speech turn.acts)

    pub turn_rest : rest_of new ≡ record (rest_of w) { switches = set w.switches s turn.after }
    turn_rest = stepped.rest

    not_failed : (plan : Plan) (d : DuringActs) → d.world.plan ≡ plan → peer_of plan s at.port ≡ HostPort → is_failed_at d.world s at.port ≡ false
    not_failed plan d same free =
        ap (λ (p : Plan). not (is_host_port (peer_of p s at.port)) && not (is_live_at d.world.links s at.port)) same
        ∙ ap (λ (p : Peer). not (is_host_port p) && not (is_live_at d.world.links s at.port)) free

    -- a probe that is sent waits
    probe_waits : at.edge ≡ s → IsPlace w → IsProbed at.me at.port turn.acts → list_any (is_probe at.me) (queue_to new) ≡ true
    unfolding start
    probe_waits here place probed =
        let frame = probe_frame probed.old at.me.ip in
        let sent = arriving frame None (Some at.me.mac) in
        let ends = (act.Make frame ∷ act.Pass at.port sent ∷ []) in
        let d1 = acts_done s start probed.first in
        let one = all_acts s start probed.first in
        let d2 = act_done s d1 (act.Make frame) in
        let two = one_act s d1 (act.Make frame) in
        let plan : d2.world.plan ≡ w.plan = ap (λ (r : Rest). r.plan) two.rest ∙ ap (λ (r : Rest). r.plan) one.rest in
        let many : length d2.world.out ≡ length w.out = two.many ∙ one.many in
        let item = Data (d1.world.begun + 1) sent in
        let index = port_index d2.world.plan.k s at.port in
        let index_is : port_index w.plan.k at.edge at.port ≡ index = (λ i. port_index (sym plan i).k (here i) at.port) in
        let within : index < length d2.world.out = subst (λ n. n < length d2.world.out) index_is (subst (λ n. port_index w.plan.k at.edge at.port < n) (sym many) place.within) in
        let failed : is_failed_at d2.world s at.port ≡ false = not_failed w.plan d2 plan (ap (λ n. peer_of w.plan n at.port) (sym here) ∙ place.free) in
        let out_is : (acts_done s start turn.acts).world.out ≡ put_at d2.world.out index item =
        ap (λ (xs : List Act). (acts_done s start xs).world.out) probed.is ∙ ap (λ (d : DuringActs). d.world.out) (fold-append (act_done s) start probed.first ends)
        ∙ ap (λ b. if◌then◌else◌ {A = List (List Item)} b d2.world.out (put_at d2.world.out index item)) failed in
        let new_out : new.out ≡ put_at d2.world.out index item = ap (λ (x : WorldView). x.out) turn.changed ∙ out_is in
        let new_plan : new.plan ≡ w.plan = ap (λ (r : Rest). r.plan) stepped.rest in
        let queue : queue_to new ≡ items_at d2.world.out index ++ item ∷ [] =
        ap (λ (p : Plan). items_at new.out (port_index p.k at.edge at.port)) new_plan
        ∙ ap (λ (out : List (List Item)). items_at out (port_index w.plan.k at.edge at.port)) new_out
        ∙ ap (λ n. items_at (put_at d2.world.out index item) n) index_is
        ∙ get_or-set_same d2.world.out index (items_at d2.world.out index ++ item ∷ []) [] within in
        ap (λ (xs : List Item). list_any (is_probe at.me) xs) queue
        ∙ any_last (is_probe at.me) (items_at d2.world.out index) item (probe_is_one probed.old at.me (d1.world.begun + 1) place.six place.small)

    -- what is known then
    pub turn_noticed : IsPlace w →
        ((v : SwitchView) → at.edge ≡ s → slice_get w.switches s ≡ Some v → (choose : Choice) → (ticks : ℕ) → heard_at w at.h ≡ Some ticks →
        KnowsOrProbes at.me at.port ticks (switch_step choose v input) ⊎ ((is_settled v.place ≡ true) × Waits (queue_to w) (items_at w.from_hosts at.h))) →
        (at.edge ≢ s → NoticedIn w) → NoticedIn new
    turn_noticed place here there = λ v found ticks heard.
        let was : heard_at w at.h ≡ Some ticks = ap (λ (r : Rest). get_or r.heard at.h None) (sym stepped.rest) ∙ heard in
        let switches : new.switches ≡ set w.switches s turn.after = ap (λ (r : Rest). r.switches) stepped.rest in
        let found_in : slice_get (set w.switches s turn.after) at.edge ≡ Some v = ap (λ (vs : List SwitchView). slice_get vs at.edge) (sym switches) ∙ found in
        elim (cases_eq at.edge s) [
          | inl same ↦
              let view : turn.after ≡ v =
              same_Some turn.after v (sym (get-set_same w.switches s turn.after (slice_get_within w.switches s turn.before turn.found)) ∙ ap (λ n. slice_get (set w.switches s turn.after) n) (sym same) ∙ found_in) in
              let steps = turn.ruled.steps in
              let settled_then : (switch_step turn.ruled.choose turn.before input).view.place ≡ turn.before.place → is_settled turn.before.place ≡ true → is_settled v.place ≡ true =
              λ stays settled. ap (λ (u : SwitchView). is_settled u.place) (sym view ∙ steps.view) ∙ ap (λ (p : Place). is_settled p) stays ∙ settled in
              elim (here turn.before same turn.found turn.ruled.choose ticks was) [
                | inr waits ↦ inr (
                  settled_then (place_stays turn.ruled.choose turn.before input waits.0) waits.0,
                  still waits.1,
                )
                | inl known ↦ elim known [
                  | inl knows ↦ inl (subst (λ (u : SwitchView). KnowsAt at.me ticks u at.port) (sym steps.view ∙ view) knows)
                  | inr probed ↦ inr (
                    ap (λ (u : SwitchView). is_settled u.place) (sym view ∙ steps.view) ∙ probed.0,
                    inl (probe_waits same place (subst (λ (xs : List Act). IsProbed at.me at.port xs) (sym steps.done) probed.1)),
                  )
                ]
              ]
          | inr other ↦ elim (there other v (sym (get-set_other w.switches s at.edge turn.after other) ∙ found_in) ticks was) [
            | inl knows ↦ inl knows
            | inr waits ↦ inr (waits.0, still waits.1)
          ]
        ]
      where
        plan_is : new.plan ≡ w.plan
        plan_is = ap (λ (r : Rest). r.plan) stepped.rest

        still : Waits (queue_to w) (items_at w.from_hosts at.h) → Waits (queue_to new) (items_at new.from_hosts at.h)
        still (inl probe) =
            inl (ap (λ (p : Plan). list_any (is_probe at.me) (items_at new.out (port_index p.k at.edge at.port))) plan_is
            ∙ stepped.grows (port_index w.plan.k at.edge at.port) (is_probe at.me) probe)
        still (inr packet) = inr (ap (λ (r : Rest). list_any is_packet (items_at r.from_hosts at.h)) stepped.rest ∙ packet)

    -- a turn in which all that is known stays known
    pub turn_keeps : IsPlace w → NoticedIn w →
        ((v : SwitchView) → at.edge ≡ s → slice_get w.switches at.edge ≡ Some v → (choose : Choice) → (ticks : ℕ) → KnowsAt at.me ticks v at.port →
        KnowsOrProbes at.me at.port ticks (switch_step choose v input)) → NoticedIn new
    turn_keeps place noticed keeps =
        turn_noticed place
        (λ v same found choose ticks heard. let here = ap (λ n. slice_get w.switches n) same ∙ found in by v same here choose ticks (noticed v here ticks heard))
        (λ other. noticed)
      where
        by : (v : SwitchView) → at.edge ≡ s → slice_get w.switches at.edge ≡ Some v → (choose : Choice) → (ticks : ℕ) → Noticed ticks v (queue_to w) (items_at w.from_hosts at.h) →
            KnowsOrProbes at.me at.port ticks (switch_step choose v input) ⊎ ((is_settled v.place ≡ true) × Waits (queue_to w) (items_at w.from_hosts at.h))
        by v same found choose ticks (inl knows) = inl (keeps v same found choose ticks knows)
        by v same found choose ticks (inr waits) = inr waits
