-- What a switch does with a frame that is under way: it passes it on by a port that leads on, or out to its host.
use Rattle.std.proofs.Common.{◌≡◌, ℕ, ◌||◌, not, Bool, true, false, if◌then◌else◌, List, [], ◌∷◌, Some, None, is_none, refl, sym, ap, ◌∙◌, arith}
use Rattle.std.specs.List.{filter}
use Rattle.std.proofs.lemmas.Bool.{cond-false, cond-true}
use Rattle.pl_frame.specs.Ethernet.{destination_of}
use Rattle.pl_pmac.specs.declared.pmac.Pmac.{Pmac}
use Rattle.pl_layouts.specs.Control.{is_control}
use Rattle.pl_layouts.specs.Frames.{arriving}
use Rattle.pl_layouts.specs.Memberships.{is_group}
use Rattle.pl_layouts.specs.Placement.{is_placed}
use Rattle.pl_node.specs.declared.acts.Act.TheVariants.{Pass}
use Rattle.pl_node.specs.AddressUses.{is_in_use}
use Rattle.pl_node.specs.declared.switch_records.Grant.{Grant}
use Rattle.pl_node.specs.PortRecords.{is_open_to_hosts, place_at, port_of, ports_of_switch}
use Rattle.pl_node.specs.SwitchInputs.SwitchInput.{Comes}
use Rattle.pl_node.specs.SwitchViews.{SwitchView}
use Rattle.pl_node.proofs.Exports.{among_filter, among_filtered, among_of_Contains, among_range, in_use_has_no_trap, IsAmong}
use Rattle.pl_steps.specs.Steps.{SwitchStep, does, ◌▹◌}
use Rattle.pl_switch_rule.specs.declared.came.Came.{Came}
use Rattle.pl_switch_rule.specs.Delivering.{arrives_home, delivers_or_redirects, delivers_to, destination, grant_trap, tells_sender, trap_for}
use Rattle.pl_switch_rule.specs.Forwarding.{Choice, came_by, candidates, candidates_by, forwards, is_candidate, leaves_by}
use Rattle.pl_switch_rule.specs.Granting.{granted, is_local}
use Rattle.pl_switch_rule.specs.GroupForwarding.{forwards_group}
use Rattle.pl_switch_rule.specs.Intake.{comes_from_host}
use Rattle.pl_switch_rule.specs.SwitchRule.{IsChoice, comes_from_switch, control_comes, data_comes, switch_step}
use Rattle.pl_switch_rule.proofs.Exports.{held_in_use}
use Rattle.pl_law_arrival.specs.Ways.{Fabric, HasPortOn, LeadsBy}

-- the port that is chosen leads on
pub chosen : (f : Fabric) (v : SwitchView) (s : ℕ) (to : Pmac) (came : Came) (Kind : ℕ → Type 0) (choose : Choice) (frame : List ℕ) → IsChoice choose → HasPortOn f v s to came Kind →
    (n u : ℕ) × (choose (candidates_by v to (Some came)) frame ≡ Some n) × LeadsBy f s n u × Kind u
unfolding candidates
chosen f v s to came Kind choose frame is goes =
    by (candidates v to came) (λ p h. h)
    (among_filtered (is_candidate v to came) goes.port (ports_of_switch v.k) (among_range goes.port 0 v.k goes.port (omega arith) goes.within) goes.there)
  where
    by : (ports : List ℕ) → ((p : ℕ) → IsAmong p ports → IsAmong p (filter (is_candidate v to came) (ports_of_switch v.k))) → IsAmong goes.port ports →
        (n u : ℕ) × (choose ports frame ≡ Some n) × LeadsBy f s n u × Kind u
    by [] those there = absurd there
    by (p ∷ ports) those there =
        let one = is.chosen p ports frame in
        let among = among_of_Contains one.0 (p ∷ ports) (one.2.0, one.2.1.0, sym one.2.1.1) in
        let passes = (among_filter (is_candidate v to came) one.0 (ports_of_switch v.k) (those one.0 among)).1 in
        let at = goes.each one.0 passes in
        (one.0, at.0, one.1, at.1, at.2)

-- A data frame to one host comes over a link, at a placed switch that knows the level of the switch at the other end.
pub record ComesWell (v : SwitchView) (q : ℕ) (frame : List ℕ) : Type 0 where
  pub data_frame : is_control frame ≡ false
  pub shut : is_open_to_hosts (port_of v q) ≡ false
  pub placed : is_placed v.place ≡ true
  pub level : is_none (place_at v q).level ≡ false
  pub unicast : is_group (destination_of frame) ≡ false

not_lacking : (placed : Bool) (none : Bool) → placed ≡ true → none ≡ false → (not placed || none) ≡ false
not_lacking true false e f = refl
not_lacking true true e f = absurd (cc f)
not_lacking false none e f = absurd (cc e)

module _ (choose : Choice) (v : SwitchView) (q : ℕ) (frame : List ℕ) (well : ComesWell v q frame) where
  abbrev onward : SwitchStep
  onward = if is_local v (destination frame) then arrives_home choose v frame else forwards choose v (came_by v q) frame

  step_is : switch_step choose v (Comes q frame) ≡ onward
  step_is =
      cond-false (is_control frame) (control_comes v q frame) (data_comes choose v q frame) well.data_frame
      ∙ cond-false (is_open_to_hosts (port_of v q)) (comes_from_host choose v q frame) (comes_from_switch choose v q frame) well.shut
      ∙ cond-false (not (is_placed v.place) || is_none (place_at v q).level) _
      (if is_group (destination_of frame) then forwards_group v (came_by v q) frame else onward)
      (not_lacking (is_placed v.place) (is_none (place_at v q).level) well.placed well.level)
      ∙ cond-false (is_group (destination_of frame)) (forwards_group v (came_by v q) frame) onward well.unicast

  -- at a switch on the way
  pub goes_by : (came : Came) (n : ℕ) → is_local v (destination frame) ≡ false → came_by v q ≡ Some came → choose (candidates_by v (destination frame) (Some came)) frame ≡ Some n →
      switch_step choose v (Comes q frame) ≡ does v (Pass n frame ∷ [])
  goes_by came n elsewhere came_so found =
      step_is ∙ cond-false (is_local v (destination frame)) (arrives_home choose v frame) (forwards choose v (came_by v q) frame) elsewhere
      ∙ ap (λ c. forwards choose v c frame) came_so ∙ ap (leaves_by v frame) found

-- at the addressed edge switch, where the address is in use
pub arrives : (choose : Choice) (v : SwitchView) (frame : List ℕ) (grant : Grant) → granted v (destination frame) ≡ Some grant → is_in_use grant.held ≡ true →
    arrives_home choose v frame ≡ does v (Pass (destination frame).port (arriving frame None (Some grant.amac)) ∷ [])
arrives choose v frame grant found used =
    ap (λ o. delivers_or_redirects choose v frame o ▹ tells_sender choose frame o) no_trap
    ∙ ap (λ o. delivers_to v (destination frame) frame o ▹ tells_sender choose frame None) (held_in_use v (destination frame) grant found used)
  where
    no_trap : trap_for v (destination frame) ≡ None
    no_trap = ap grant_trap found ∙ in_use_has_no_trap grant.held used

pub arrives_over_link : (choose : Choice) (v : SwitchView) (q : ℕ) (frame : List ℕ) (grant : Grant) → ComesWell v q frame → is_local v (destination frame) ≡ true →
    granted v (destination frame) ≡ Some grant → is_in_use grant.held ≡ true →
    switch_step choose v (Comes q frame) ≡ does v (Pass (destination frame).port (arriving frame None (Some grant.amac)) ∷ [])
arrives_over_link choose v q frame grant well here found used =
    step_is choose v q frame well ∙ cond-true (is_local v (destination frame)) (arrives_home choose v frame) (forwards choose v (came_by v q) frame) here
    ∙ arrives choose v frame grant found used
