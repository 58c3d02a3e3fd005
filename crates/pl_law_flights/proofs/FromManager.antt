-- A message of the manager comes at a switch; one that gives a pod is not among them, since addresses may be granted then, nor one that releases an
-- address.
use Rattle.std.proofs.Common.{◌≡◌, ℕ, not, nat_lt, true, false, List, [], ◌∷◌, ◌++◌, map, Option, None, Some, is_some, reverse, set, slice_get, refl, sym, ◌∙◌, ap, subst, inl, inr}
use Rattle.std.specs.List.{filter}
use Rattle.std.proofs.Math.ListN.{length-set}
use Rattle.std.proofs.lemmas.Bool.{cases_eq, cond_both}
use Rattle.std.proofs.lemmas.Option.{slice_get_within}
use Rattle.pl_lemmas.proofs.Exports.{set_get, set_get_other}
use Rattle.pl_frame.specs.declared.address.Ip4.{Ip4}
use Rattle.pl_pmac.specs.declared.pmac.Pmac.{Pmac}
use Rattle.pl_wiring.specs.declared.link.Peer.{Peer}
use Rattle.pl_wiring.specs.declared.link.Peer.TheVariants.{HostPort, Switch}
use Rattle.pl_wiring.specs.Peers.{peer_of}
use Rattle.pl_wiring.specs.Plan.{IsPlan, Plan}
use Rattle.pl_layouts.specs.declared.place.Place.{Place}
use Rattle.pl_journal.specs.Flights.{Flight}
use Rattle.pl_node.specs.declared.acts.Act.{Act}
use Rattle.pl_node.specs.declared.acts.Act.TheVariants as act
use Rattle.pl_node.specs.declared.messages.ToSwitch.{ToSwitch}
use Rattle.pl_node.specs.declared.messages.ToManager.{ToManager}
use Rattle.pl_node.specs.declared.messages.ToSwitch.TheVariants.{Answer, Avoid, Flood, Hello, Invalidate, Pod, Release, Tree}
use Rattle.pl_node.specs.AddressUses.{is_in_use, standing_trap}
use Rattle.pl_node.specs.declared.switch_records.Grant.{Grant}
use Rattle.pl_node.specs.declared.switch_records.Member.{Member}
use Rattle.pl_node.specs.declared.trap.Trap.{Trap}
use Rattle.pl_node.specs.Accounting.{AccountsForFrames}
use Rattle.pl_node.specs.SwitchInputs.SwitchInput.{Says}
use Rattle.pl_node.specs.SwitchViews.{SwitchView}
use Rattle.pl_steps.specs.Steps.{SwitchStep, rests}
use Rattle.pl_switch_rule.specs.Delivering.{makes}
use Rattle.pl_switch_rule.specs.Forwarding.{Choice}
use Rattle.pl_switch_rule.specs.Granting.{granted, held_here, is_granted}
use Rattle.pl_switch_rule.specs.Intake.{groups_told, is_member}
use Rattle.pl_switch_rule.specs.Reporting.{hears_hello, report_for}
use Rattle.pl_switch_rule.specs.Messages.{answer_frame, flood_frame, floods, forgets_members, hears_manager, invalidates, probes_at, sets_trap, sets_trap_over, with_trap}
use Rattle.pl_switch_rule.specs.SwitchRule.{IsChoice, Loose}
use Rattle.pl_world.specs.declared.spoken_frame.SpokenFrame.TheVariants.{Silent}
use Rattle.pl_world.specs.Flying.{IsCounted}
use Rattle.pl_world.specs.WorldRule.{SwitchTurn}
use Rattle.pl_world.specs.Worlds.{WorldView}
use Rattle.pl_world.proofs.Exports.{says_rest, sound}
use Rattle.pl_law_flights.specs.OnTheWay.{AddressHistory, IsJournaled, history_of, known_place, place_in}
use Rattle.pl_law_flights.specs.Standing.{IsMore, KnowsAddresses, KnowsNeighbours, KnowsPlaces, StandsOn}
use Rattle.pl_law_flights.proofs.RoutesStay.{between_grown, leaving_grown}
use Rattle.pl_law_flights.proofs.Hands.{GoodActs, Hand, MayLeave, made_here, turned}
use Rattle.pl_law_flights.proofs.Hands.Hand.{Empty, Spreads, Waits}
use Rattle.pl_switch_rule.proofs.Exports.{begins_stays, groups_acts, probes_stay}
use Rattle.pl_law_flights.proofs.ManagerKeepsFlights.{answer_good, flood_good, probe_good}
use Rattle.pl_law_flights.proofs.SilentSteps.{all_silent_good, AreSilent, IsSilent, silent_good, silent_turn}
use Rattle.pl_law_flights.proofs.SwitchTurns.{turn_switches}

-- good acts are good where more is known of places
module _ (plan : Plan) (place later : ℕ → Place) (more : IsMore place later) (history : AddressHistory) (s : ℕ) where
  leave_grown : (port : ℕ) (peer : Peer) (f : Flight) (frame : List ℕ) → MayLeave plan place history s port peer f frame → MayLeave plan later history s port peer f frame
  leave_grown port (Switch t q) f frame may = between_grown place later more plan history f true frame s t.0 may
  leave_grown port HostPort f frame may = leaving_grown place later more plan (history.hold f.address) history f frame s port may

  pub good_grown : (acts : List Act) (hand : Hand) → GoodActs plan place history s acts hand → GoodActs plan later history s acts hand
  good_grown [] hand good = tt
  good_grown (act.Control port frame ∷ acts) hand good = good_grown acts hand good
  good_grown (act.Tell told ∷ acts) hand good = good_grown acts hand good
  good_grown (act.Grant pmac amac ∷ acts) hand good = good
  good_grown (act.Free pmac ∷ acts) hand good = good
  good_grown (act.Make frame ∷ acts) hand good = λ root. good_grown acts (Waits (made_here root s frame) false) (good root)
  good_grown (act.Redirect old new ∷ acts) Empty good = good
  good_grown (act.Redirect old new ∷ acts) (Waits f again) good = (good.0, good_grown acts (Waits (turned s f again new) true) good.1)
  good_grown (act.Redirect old new ∷ acts) (Spreads f) good = good
  good_grown (act.Pass port frame ∷ acts) Empty good = good
  good_grown (act.Pass port frame ∷ acts) (Waits f again) good = (leave_grown port (peer_of plan s port) f frame good.0, good_grown acts (Spreads f) good.1)
  good_grown (act.Pass port frame ∷ acts) (Spreads f) good =
      (good.0, leave_grown port (peer_of plan s port) f frame good.1, good_grown acts (Spreads f) good.2)
  good_grown (act.Take ∷ acts) Empty good = good
  good_grown (act.Take ∷ acts) (Waits f again) good = (good.0, good_grown acts Empty good.1)
  good_grown (act.Take ∷ acts) (Spreads f) good = good
  good_grown (act.Drop why ∷ acts) Empty good = good
  good_grown (act.Drop why ∷ acts) (Waits f again) good = (good.0, good_grown acts Empty good.1)
  good_grown (act.Drop why ∷ acts) (Spreads f) good = good

-- a switch whose place stays
pub same_more : (switches : List SwitchView) (t : ℕ) (before after : SwitchView) → slice_get switches t ≡ Some before → after.place ≡ before.place →
    IsMore (place_in switches) (place_in (set switches t after))
same_more switches t before after found same = record {
  level = λ s n is. ap (λ (p : Place). p.level) (stays s) ∙ is;
  position = λ s n is. ap (λ (p : Place). p.position) (stays s) ∙ is;
  pod = λ s n is. ap (λ (p : Place). p.pod) (stays s) ∙ is;
}
  where
    stays : (s : ℕ) → place_in (set switches t after) s ≡ place_in switches s
    stays s = elim (cases_eq t s) [
      | inl is_t ↦
          let here : place_in (set switches t after) t ≡ after.place = ap known_place (set_get switches t after (slice_get_within switches t before found)) in
          let there : place_in switches t ≡ before.place = ap known_place found in
          subst (λ n. place_in (set switches t after) n ≡ place_in switches n) is_t (here ∙ same ∙ sym there)
      | inr other ↦ ap known_place (set_get_other switches t s after other)
    ]

-- a message that gives no pod and releases no address
abbrev pub GivesNothing : ToSwitch → Type 0
GivesNothing (Pod pod) = ⊥
GivesNothing (Release address) = ⊥
GivesNothing says = Unit {0}

pub silent_groups : (old new : List Member) → AreSilent (groups_told old new)
silent_groups old new = groups_acts IsSilent old new (λ group other. tt)

-- words let nothing out
words_silent : (words : List ToManager) → AreSilent (map (λ word. act.Tell word) words)
words_silent [] = tt
words_silent (word ∷ words) = (tt, words_silent words)

some_granted : (o : Option Grant) → is_some o ≡ true → (grant : Grant) × (o ≡ Some grant)
some_granted None there = absurd (cc)
some_granted (Some grant) there = (grant, refl)

module _ (plan : Plan) (place : ℕ → Place) (history : AddressHistory) (t : ℕ) (v : SwitchView) (is_plan : IsPlan plan) (places : KnowsPlaces plan.k place)
    (neighbours : KnowsNeighbours plan place t v) (knows : KnowsAddresses plan history t v) (choose : Choice) (is : IsChoice choose) where
  pub record IsHeard (step : SwitchStep) : Type 0 where
    pub good : GoodActs plan place history t step.acts Empty
    pub stays : step.view.place ≡ v.place

  probed : (old : Pmac) (grant : Grant) → held_here v old ≡ Some grant → (o : Option Ip4) (u : SwitchView) → GoodActs plan place history t (probes_at old grant.amac o u).acts Empty
  probed old grant found None u = tt
  probed old grant found (Some ip) u = probe_good plan place history t v knows old ip grant found [] (λ hand. tt) Empty

  set_stays : (old : Pmac) (grant : Grant) (trap : Trap) (o : Option Trap) → (sets_trap_over o v old grant trap).place ≡ v.place
  set_stays old grant trap None = refl
  set_stays old grant trap (Some standing) =
      cond_both (nat_lt trap.number standing.number) v (with_trap v old grant trap) (λ (u : SwitchView). u.place ≡ v.place) (λ smaller. refl) (λ larger. refl)

  invalidated : (old : Pmac) (trap : Trap) (o : Option Grant) → held_here v old ≡ o → IsHeard (invalidates v old trap o)
  invalidated old trap None found = record { good = tt; stays = refl }
  invalidated old trap (Some grant) found =
      let u : SwitchView = sets_trap v old grant trap in
      let w : SwitchView = (forgets_members old.port grant.amac u).view in
      let silent : AreSilent (forgets_members old.port grant.amac u).acts =
      silent_groups u.members (filter (λ (m : Member). not (is_member old.port grant.amac m)) u.members) in
      let P : SwitchStep → Type 0 = λ step. GoodActs plan place history t ((forgets_members old.port grant.amac u).acts ++ step.acts) Empty in
      record {
        good = cond_both (is_in_use grant.held) (probes_at old grant.amac grant.ip w) (rests w) P
            (λ used. silent_good plan place history t (forgets_members old.port grant.amac u).acts _ Empty silent (probed old grant found grant.ip w))
            (λ unused. silent_good plan place history t (forgets_members old.port grant.amac u).acts [] Empty silent tt);
        stays = ap (λ (x : SwitchView). x.place) (probes_stay old grant w) ∙ set_stays old grant trap (standing_trap grant.held);
      }

  pub heard : (says : ToSwitch) → GivesNothing says → IsHeard (hears_manager choose v says)
  heard (Pod pod) none = absurd none
  heard (Avoid list) none = record { good = tt; stays = refl }
  heard (Hello epoch) none =
      record { good = all_silent_good plan place history t (hears_hello v epoch).acts Empty (words_silent (report_for epoch v)); stays = refl }
  heard (Tree group part) none = record { good = tt; stays = refl }
  heard (Answer asker asker_ip ip pmac) none = cond_both (is_granted v asker) (makes choose (answer_frame asker asker_ip ip pmac) v) (rests v) IsHeard
      (λ here.
      let grant = some_granted (granted v asker) here in
      record {
        good = answer_good plan place history t v is_plan places neighbours knows choose is asker asker_ip ip pmac grant.0 grant.1;
        stays = ap (λ (u : SwitchView). u.place) (begins_stays choose v (answer_frame asker asker_ip ip pmac));
      })
      (λ other. record { good = tt; stays = refl })
  heard (Flood asker asker_ip ip) none = cond_both (is_granted v asker) (floods v (flood_frame asker asker_ip ip)) (rests v) IsHeard
      (λ here.
      let grant = some_granted (granted v asker) here in
      record { good = flood_good plan place history t v is_plan places neighbours knows choose is asker asker_ip ip grant.0 grant.1; stays = refl })
      (λ other. record { good = tt; stays = refl })
  heard (Invalidate old new number ip) none = invalidated old (record { new = new; number = number; ip = ip }) (held_here v old) refl
  heard (Release address) none = absurd none

-- a message of the manager that gives no pod and releases no address
pub says_journaled : (w : WorldView) (t : ℕ) (says : ToSwitch) (rest : List ToSwitch) (new : WorldView) → AccountsForFrames Loose → IsCounted w → IsJournaled w → StandsOn w →
    GivesNothing says → SwitchTurn Loose (record w { from_manager = set w.from_manager t rest }) t (Says says) Silent new → IsJournaled new
says_journaled w t says rest new accounts counted told on none turn =
    let so = sound w counted in
    let history : AddressHistory = history_of (reverse w.journal) in
    let v : SwitchView = turn.before in
    let row = heard w.plan (place_in w.switches) history t v so.rest.is_plan on.places (on.neighbours t v turn.found) (on.addresses t v turn.found)
    turn.ruled.choose turn.ruled.is_choice says none in
    let stays : turn.after.place ≡ v.place = ap (λ (u : SwitchView). u.place) turn.ruled.steps.view ∙ row.stays in
    let more : IsMore (place_in w.switches) (place_in new.switches) = subst (λ vs. IsMore (place_in w.switches) (place_in vs))
    (sym (turn_switches Loose accounts _ t _ _ new turn)) (same_more w.switches t v turn.after turn.found stays) in
    silent_turn Loose accounts (record w { from_manager = set w.from_manager t rest }) t (Says says) new refl (λ u size. tt)
    (record { balance = so.balance; rest = says_rest w.from_manager _ (length-set w.from_manager t _) so.rest }) told turn more
    (good_grown w.plan (place_in w.switches) (place_in new.switches) more history t turn.acts Empty
    (subst (λ acts. GoodActs w.plan (place_in w.switches) history t acts Empty) (sym turn.ruled.steps.done) row.good))
