-- Each row of a switch but the report to a manager that began anew keeps its addresses in order.
use Rattle.std.proofs.Common.{◌≡◌, ◌<◌, ◌||◌, ℕ, true, false, List, [], ◌∷◌, ◌++◌, Option, Some, Result, Ok, Err, refl, sym, ap, subst, ◌∙◌}
use Rattle.std.proofs.lemmas.Bool.{cond_both, false≢true}
use Rattle.pl_frame.specs.declared.address.Ip4.{Ip4}
use Rattle.pl_frame.specs.declared.address.Mac.{Mac}
use Rattle.pl_frame.specs.declared.address.SwitchId.{SwitchId}
use Rattle.pl_frame.specs.Ethernet.{payload_of}
use Rattle.pl_pmac.specs.declared.pmac.Pmac.{Pmac}
use Rattle.pl_node.specs.declared.acts.Act.TheVariants as act
use Rattle.pl_node.specs.declared.messages.ToManager.{ToManager}
use Rattle.pl_node.specs.declared.messages.ToSwitch.{ToSwitch}
use Rattle.pl_node.specs.declared.messages.ToSwitch.TheVariants as say
use Rattle.pl_node.specs.PortRecords.{is_open_to_hosts, port_of, with_port}
use Rattle.pl_node.specs.SwitchInputs.SwitchInput.{Comes, Says, Tick}
use Rattle.pl_node.specs.SwitchViews.{SwitchView}
use Rattle.pl_journal.specs.declared.cause.Cause.TheVariants as cause
use Rattle.pl_layouts.specs.declared.control.Control.{Control}
use Rattle.pl_layouts.specs.declared.control.Control.TheVariants as control
use Rattle.pl_layouts.specs.declared.control.ControlError.{ControlError}
use Rattle.pl_layouts.specs.declared.place.Place.{Place}
use Rattle.pl_layouts.specs.Control.{control_in, is_control}
use Rattle.pl_layouts.specs.Placement.{is_known}
use Rattle.pl_steps.specs.Steps.{SwitchStep, does, rests, ◌▹◌}
use Rattle.pl_switch_rule.specs.Announcing.{ticks}
use Rattle.pl_switch_rule.specs.Forwarding.{Choice}
use Rattle.pl_switch_rule.specs.Granting.{granted, held_here, is_granted, learns_source}
use Rattle.pl_switch_rule.specs.Intake.{comes_from_host, takes_in_or_spent}
use Rattle.pl_switch_rule.specs.Levels.{after_message, becomes_edge, changes_to, finds_host, with_pod}
use Rattle.pl_switch_rule.specs.Delivering.{makes}
use Rattle.pl_switch_rule.specs.Messages.{answer_frame, flood_frame, floods, hears_manager, invalidates, takes_pod}
use Rattle.pl_switch_rule.specs.Positions.{after_vote}
use Rattle.pl_switch_rule.specs.Reporting.{hears_hello}
use Rattle.pl_switch_rule.specs.SwitchRule.{comes_from_switch, control_comes, data_comes, hears_control, switch_step}
use Rattle.pl_law_due.specs.Due.{is_hello}
use Rattle.pl_law_addresses.specs.EdgeAddresses.{IsGoodRecall, edge_of, is_settled}
use Rattle.pl_law_addresses.proofs.Exports.{aside_does, edge_placing, floods_aside, granted_within, IsOfHost, makes_aside, message_placing, pod_placing, proposal_aside, switch_frame_aside, takes_in_aside, told_by, vote_placing}
use Rattle.pl_law_epochs.specs.Edges.{Registry}
use Rattle.pl_law_epochs.specs.Tenures.{order_of}
use Rattle.pl_law_epochs.specs.Tenures.Order.{Recalls, Releases}
use Rattle.pl_law_epochs.proofs.Aging.{keeps_tick}
use Rattle.pl_law_epochs.proofs.Changing.{takes_order}
use Rattle.pl_law_epochs.proofs.Freeing.{release_good}
use Rattle.pl_law_epochs.proofs.Granting.{keeps_learns_source}
use Rattle.pl_law_epochs.proofs.Moves.{Moves, MovesBy, moves_by, moves_same}
use Rattle.pl_law_epochs.proofs.Placing.{IsUnknown, Steps, aside_steps, keeps_changes, keeps_steps, steps_changes, steps_either, steps_then}
use Rattle.pl_law_epochs.proofs.Recalling.{Invalidated, recall_good}
use Rattle.pl_law_epochs.proofs.Rows.{Good, aside_keeps, rests_keeps}
use Rattle.pl_law_epochs.proofs.Staying.{ordered_here, released_here}

module _ (own : Mac → Option Ip4) (r : Registry) (id : Option SwitchId) (choose : Choice) where
  module _ (down : List ToSwitch) where
    host_frame : (v : SwitchView) (port : ℕ) (frame : List ℕ) → IsOfHost own v port frame → Steps own r id down v (comes_from_host choose v port frame)
    host_frame v port frame is =
        let w : SwitchView = becomes_edge (with_port v port (record (port_of v port) { host = true })) in
        let found = keeps_changes own r id down v w in
        let learnt = (finds_host v port ▹ (λ u. learns_source u port frame)) in
        let after : SwitchView = (finds_host v port).view in
        steps_either own r id down v (is_known v.place.level 1 || is_known v.place.level 2) (does v (act.Drop cause.NotPlaced ∷ [])) (learnt ▹ takes_in_or_spent choose port frame)
        (λ h. aside_steps own r id down v (does v (act.Drop cause.NotPlaced ∷ [])) (aside_does v (act.Drop cause.NotPlaced ∷ []) (tt, tt)))
        (λ h. steps_then own r id down v learnt (takes_in_or_spent choose port frame)
        (steps_then own r id down v (finds_host v port) (λ u. learns_source u port frame) (steps_changes own r id down v w (edge_placing v port))
        (keeps_learns_source own r id down after port frame (ap (λ (p : Place). p.level) found.place)
        (subst (λ n. port < n) (sym found.k) is.within) is.own_ip))
        (aside_keeps own r id down learnt.view (takes_in_or_spent choose port frame learnt.view) (takes_in_aside choose port frame learnt.view)))

    control_row : (v : SwitchView) (port : ℕ) (m : Result Control ControlError) → Steps own r id down v (hears_control v port m)
    control_row v port (Err e) = keeps_steps own r id down v (rests v) (rests_keeps own r id down v)
    control_row v port (Ok (control.Ldm from m)) = steps_changes own r id down v (after_message v port from m) (message_placing v port from m)
    control_row v port (Ok (control.Proposal from p)) = aside_steps own r id down v (hears_control v port (Ok (control.Proposal from p))) (proposal_aside v port from p)
    control_row v port (Ok (control.Vote from vote)) = steps_changes own r id down v (after_vote v port vote) (vote_placing v port vote)

    comes_row : (v : SwitchView) (port : ℕ) (frame : List ℕ) → (is_control frame ≡ false → is_open_to_hosts (port_of v port) ≡ true → IsOfHost own v port frame) →
        Steps own r id down v (switch_step choose v (Comes port frame))
    comes_row v port frame fair =
        steps_either own r id down v (is_control frame) (control_comes v port frame) (data_comes choose v port frame)
        (λ control. steps_either own r id down v (port_of v port).host (rests v) (hears_control v port (control_in (payload_of frame)))
        (λ h. keeps_steps own r id down v (rests v) (rests_keeps own r id down v)) (λ h. control_row v port (control_in (payload_of frame))))
        (λ other. steps_either own r id down v (is_open_to_hosts (port_of v port)) (comes_from_host choose v port frame) (comes_from_switch choose v port frame)
        (λ host. host_frame v port frame (fair other host))
        (λ h. aside_steps own r id down v (comes_from_switch choose v port frame) (switch_frame_aside choose v port frame)))

    says_row : (v : SwitchView) (says : ToSwitch) → ((x : Pmac) → order_of x says ≡ []) → is_hello says ≡ false → Steps own r id down v (hears_manager choose v says)
    says_row v (say.Hello epoch) quiet other = absurd (false≢true (sym other))
    says_row v (say.Pod pod) quiet other =
        cond_both (takes_pod v pod) (changes_to v (with_pod v (Some pod))) (rests v) (Steps own r id down v)
        (λ takes. steps_changes own r id down v (with_pod v (Some pod)) (pod_placing v pod takes))
        (λ h. keeps_steps own r id down v (rests v) (rests_keeps own r id down v))
    says_row v (say.Avoid list) quiet other = aside_steps own r id down v (hears_manager choose v (say.Avoid list))
        (record { place = refl; k = refl; grants = refl; freed = refl; remembered = refl; silent = tt })
    says_row v (say.Tree group part) quiet other = aside_steps own r id down v (hears_manager choose v (say.Tree group part))
        (record { place = refl; k = refl; grants = refl; freed = refl; remembered = refl; silent = tt })
    says_row v (say.Answer asker asker_ip ip pmac) quiet other =
        steps_either own r id down v (is_granted v asker) (makes choose (answer_frame asker asker_ip ip pmac) v) (rests v)
        (λ h. aside_steps own r id down v (makes choose (answer_frame asker asker_ip ip pmac) v) (makes_aside choose (answer_frame asker asker_ip ip pmac) v))
        (λ h. keeps_steps own r id down v (rests v) (rests_keeps own r id down v))
    says_row v (say.Flood asker asker_ip ip) quiet other =
        steps_either own r id down v (is_granted v asker) (floods v (flood_frame asker asker_ip ip)) (rests v)
        (λ h. aside_steps own r id down v (floods v (flood_frame asker asker_ip ip)) (floods_aside v (flood_frame asker asker_ip ip)))
        (λ h. keeps_steps own r id down v (rests v) (rests_keeps own r id down v))
    says_row v (say.Release x) quiet other = let e : Releases ∷ [] ≡ [] = sym (released_here x) ∙ quiet x in absurd (cc)
    says_row v (say.Invalidate old new number ip) quiet other = let e : Recalls (record { new = new; number = number }) ∷ [] ≡ [] = sym (ordered_here old new number ip) ∙ quiet old in absurd (cc)

  -- what a step brings about, from what waited before it to what waits after it
  pub record Brings (before after : List ToSwitch) (v : SwitchView) (s : SwitchStep) : Type 0 where
    pub good : IsUnknown r v s.view.place → (up : List ToManager) → Good own r id before v up → Good own r id after s.view (up ++ told_by s.acts)
    pub place : (up : List ToManager) → Good own r id before v up → is_settled v.place ≡ true → s.view.place ≡ v.place

  of_steps : (down : List ToSwitch) (v : SwitchView) (s : SwitchStep) → Steps own r id down v s → Brings down down v s
  of_steps down v s a = record { good = a.good; place = λ up good settled. a.place settled }

  pub brings_frame : (down : List ToSwitch) (v : SwitchView) (port : ℕ) (frame : List ℕ) →
      (is_control frame ≡ false → is_open_to_hosts (port_of v port) ≡ true → IsOfHost own v port frame) →
      Brings down down v (switch_step choose v (Comes port frame))
  brings_frame down v port frame fair = of_steps down v (switch_step choose v (Comes port frame)) (comes_row down v port frame fair)

  pub brings_tick : (down : List ToSwitch) (v : SwitchView) → Brings down down v (switch_step choose v Tick)
  brings_tick down v = of_steps down v (ticks v) (keeps_steps own r id down v (ticks v) (keeps_tick own r id down v))

  quiet_order : (rest : List ToSwitch) (v : SwitchView) (says : ToSwitch) → ((x : Pmac) → order_of x says ≡ []) → is_hello says ≡ false → Brings (says ∷ rest) rest v (hears_manager choose v says)
  quiet_order rest v says quiet other =
      let a = says_row rest v says quiet other in
      record {
        good = λ unknown up good. a.good unknown up (record { edge = takes_order own r (edge_of id v up rest) says rest quiet other good.edge; address_table = good.address_table });
        place = λ up good settled. a.place settled;
      }

  -- ---- what was somebody's, and traps that stand
  pub frame_moves : (down : List ToSwitch) (v : SwitchView) (port : ℕ) (frame : List ℕ) →
      (is_control frame ≡ false → is_open_to_hosts (port_of v port) ≡ true → IsOfHost own v port frame) → (up : List ToManager) → Good own r id down v up →
      IsUnknown r v (switch_step choose v (Comes port frame)).view.place → Moves (λ x. granted v x) (λ x. granted (switch_step choose v (Comes port frame)).view x)
  frame_moves down v port frame fair up good unknown = (comes_row down v port frame fair).moves unknown up good

  pub tick_moves : (down : List ToSwitch) (v : SwitchView) (up : List ToManager) → Good own r id down v up → Moves (λ x. granted v x) (λ x. granted (switch_step choose v Tick).view x)
  tick_moves down v up good = (keeps_tick own r id down v).moves up good

  quiet_moves : (rest : List ToSwitch) (v : SwitchView) (says : ToSwitch) → ((x : Pmac) → order_of x says ≡ []) → is_hello says ≡ false → (up : List ToManager) → Good own r id (says ∷ rest) v up →
      IsUnknown r v (hears_manager choose v says).view.place → MovesBy says (λ x. granted v x) (λ x. granted (hears_manager choose v says).view x)
  quiet_moves rest v says quiet other up good unknown =
      moves_by says (λ x. granted v x) (λ x. granted (hears_manager choose v says).view x)
      ((says_row rest v says quiet other).moves unknown up
      (record { edge = takes_order own r (edge_of id v up rest) says rest quiet other good.edge; address_table = good.address_table }))

  pub order_moves : (rest : List ToSwitch) (v : SwitchView) (says : ToSwitch) (up : List ToManager) → Good own r id (says ∷ rest) v up →
      IsUnknown r v (switch_step choose v (Says says)).view.place → MovesBy says (λ x. granted v x) (λ x. granted (switch_step choose v (Says says)).view x)
  order_moves rest v (say.Invalidate old new number ip) up good unknown =
      let said : IsGoodRecall own (λ z. granted v z) old ip = good.edge.orders.0 in
      (recall_good own r id rest old new number ip v up good (granted_within v old said.granted_to.grant said.granted_to.found good.address_table.many)).moves
  order_moves rest v (say.Release x) up good unknown = (release_good own r id rest x v up good).moves
  order_moves rest v (say.Hello epoch) up good unknown =
      moves_by (say.Hello epoch) (λ x. granted v x) (λ x. granted (hears_hello v epoch).view x) (moves_same v (hears_hello v epoch).view refl refl)
  order_moves rest v (say.Pod pod) up good unknown = quiet_moves rest v (say.Pod pod) (λ x. refl) refl up good unknown
  order_moves rest v (say.Avoid list) up good unknown = quiet_moves rest v (say.Avoid list) (λ x. refl) refl up good unknown
  order_moves rest v (say.Tree group part) up good unknown = quiet_moves rest v (say.Tree group part) (λ x. refl) refl up good unknown
  order_moves rest v (say.Answer asker asker_ip ip pmac) up good unknown = quiet_moves rest v (say.Answer asker asker_ip ip pmac) (λ x. refl) refl up good unknown
  order_moves rest v (say.Flood asker asker_ip ip) up good unknown = quiet_moves rest v (say.Flood asker asker_ip ip) (λ x. refl) refl up good unknown

  -- an order that says nothing of a new epoch
  pub brings_order : (rest : List ToSwitch) (v : SwitchView) (says : ToSwitch) → is_hello says ≡ false → Brings (says ∷ rest) rest v (switch_step choose v (Says says))
  brings_order rest v (say.Invalidate old new number ip) other = record {
    good = λ unknown up good. (recalled up good).good;
    place = λ up good settled. (recalled up good).place;
  }
    where
      recalled : (up : List ToManager) → Good own r id (say.Invalidate old new number ip ∷ rest) v up →
          Invalidated own r id rest old new number ip v up (invalidates v old (record { new = new; number = number; ip = ip }) (held_here v old))
      recalled up good =
          let said : IsGoodRecall own (λ z. granted v z) old ip = good.edge.orders.0 in
          recall_good own r id rest old new number ip v up good (granted_within v old said.granted_to.grant said.granted_to.found good.address_table.many)
  brings_order rest v (say.Release x) other = record {
    good = λ unknown up good. (release_good own r id rest x v up good).good;
    place = λ up good settled. (release_good own r id rest x v up good).place;
  }
  brings_order rest v (say.Hello epoch) other = absurd (false≢true (sym other))
  brings_order rest v (say.Pod pod) other = quiet_order rest v (say.Pod pod) (λ x. refl) refl
  brings_order rest v (say.Avoid list) other = quiet_order rest v (say.Avoid list) (λ x. refl) refl
  brings_order rest v (say.Tree group part) other = quiet_order rest v (say.Tree group part) (λ x. refl) refl
  brings_order rest v (say.Answer asker asker_ip ip pmac) other = quiet_order rest v (say.Answer asker asker_ip ip pmac) (λ x. refl) refl
  brings_order rest v (say.Flood asker asker_ip ip) other = quiet_order rest v (say.Flood asker asker_ip ip) (λ x. refl) refl
