-- A switch ticks: it tells its neighbours, probes hosts that do not use their addresses, and lets addresses rest.
use Rattle.std.proofs.Common.{◌≡◌, ℕ, Bool, true, false, cond, List, [], ◌∷◌, ◌++◌, Option, None, Some, option_map, reverse, refl, sym, ◌∙◌, subst, append_assoc}
use Rattle.std.specs.List.{filter, flat_map}
use Rattle.std.proofs.lemmas.Bool.{false≢true}
use Rattle.std.proofs.lemmas.Option.{none-some, same_Some}
use Rattle.pl_frame.specs.declared.address.Ip4.{Ip4}
use Rattle.pl_pmac.specs.declared.pmac.Pmac.{Pmac}
use Rattle.pl_wiring.specs.Plan.{Plan}
use Rattle.pl_layouts.specs.declared.place.Place.{Place}
use Rattle.pl_node.specs.declared.acts.Act.{Act}
use Rattle.pl_node.specs.AddressUses.{is_held, is_in_use, standing_trap}
use Rattle.pl_node.specs.declared.address_use.AddressUse.{AddressUse}
use Rattle.pl_node.specs.declared.address_use.AddressUse.TheVariants.{Free, InUse, Resting, Trapped}
use Rattle.pl_node.specs.declared.switch_records.Grant.{Grant}
use Rattle.pl_node.specs.Accounting.{AccountsForFrames}
use Rattle.pl_node.specs.SwitchInputs.SwitchInput.{Tick}
use Rattle.pl_node.specs.SwitchViews.{SwitchView}
use Rattle.pl_switch_rule.specs.Aging.{all_age_out, is_held_so, is_idle_for, older, older_grant, probe_of, ticks_to_probe, to_rest, with_older}
use Rattle.pl_switch_rule.specs.Announcing.{tells_neighbours, ticks, with_aged_ports}
use Rattle.pl_switch_rule.specs.Granting.{granted}
use Rattle.pl_switch_rule.specs.Messages.{probe_acts}
use Rattle.pl_switch_rule.specs.SwitchRule.{Loose}
use Rattle.pl_switch_rule.proofs.Exports.{all_age_out_acts, granted_older, held_in_use, neighbours_acts}
use Rattle.pl_world.specs.Flying.{IsCounted}
use Rattle.pl_world.specs.OtherActs.{heard_after_tick}
use Rattle.pl_world.specs.WorldRule.{Ticks}
use Rattle.pl_world.specs.Worlds.{WorldView}
use Rattle.pl_world.proofs.Exports.{heard_rest, sound, ticked_heard}
use Rattle.pl_law_flights.specs.OnTheWay.{AddressHistory, IsJournaled, history_of, place_in}
use Rattle.pl_law_flights.specs.Standing.{IsMore, KnowsAddresses, StandsOn}
use Rattle.pl_law_flights.proofs.GrantsAlike.{AgreesWith, IsLike, knows_agreed}
use Rattle.pl_law_flights.proofs.Hands.{GoodActs, Hand}
use Rattle.pl_law_flights.proofs.Hands.Hand.{Empty}
use Rattle.pl_law_flights.proofs.ManagerKeepsFlights.{probe_good}
use Rattle.pl_law_flights.proofs.SilentSteps.{AreSilent, IsSilent, all_silent_good, silent_change, silent_good, silent_turn}

-- ---- all are older
older_like : (held : AddressUse) → (standing_trap held ≡ standing_trap (older held)) × (is_held held ≡ is_held (older held))
older_like (InUse idle) = (refl, refl)
older_like (Trapped trap age) = (refl, refl)
older_like (Resting number) = (refl, refl)
older_like Free = (refl, refl)

was_older : (o : Option Grant) (h : Grant) → option_map older_grant o ≡ Some h → (g : Grant) × (o ≡ Some g) × IsLike g h
was_older None h is = absurd (none-some h is)
was_older (Some g) h is =
    (g, refl, subst (IsLike g) (same_Some (older_grant g) h is) (record { amac = refl; trap = (older_like g.held).0; held = (older_like g.held).1 }))

was_none : (o : Option Grant) → option_map older_grant o ≡ None → o ≡ None
was_none None is = refl
was_none (Some g) is = absurd (none-some (older_grant g) (sym is))

older_agrees : (v : SwitchView) → AgreesWith v (with_older (with_aged_ports v))
older_agrees v = record {
  local = λ y. refl;
  pod = refl;
  some = λ y h is. was_older (granted v y) h (sym (granted_older v y) ∙ is);
  none = λ y is. was_none (granted v y) (sym (granted_older v y) ∙ is);
}

-- ---- hosts are probed
idle_is_used : (held : AddressUse) → is_idle_for ticks_to_probe held ≡ true → is_in_use held ≡ true
idle_is_used (InUse idle) is = refl
idle_is_used (Trapped trap age) is = absurd (false≢true is)
idle_is_used (Resting number) is = absurd (false≢true is)
idle_is_used Free is = absurd (false≢true is)

module _ (plan : Plan) (place : ℕ → Place) (history : AddressHistory) (t : ℕ) (v : SwitchView) (knows : KnowsAddresses plan history t v) where
  abbrev is_to_probe : Option Grant → Bool
  is_to_probe o = is_held_so (is_idle_for ticks_to_probe) o

  one_good : (x : Pmac) (rest : List Act) → ((hand : Hand) → GoodActs plan place history t rest hand) → (o : Option Grant) → granted v x ≡ o → is_to_probe o ≡ true →
      (hand : Hand) → GoodActs plan place history t (probe_of x o ++ rest) hand
  one_good x rest then_good None found idle hand = absurd (false≢true idle)
  one_good x rest then_good (Some grant) found idle hand = by_ip grant.ip
    where
      by_ip : (ip : Option Ip4) → GoodActs plan place history t (probe_acts x grant.amac ip ++ rest) hand
      by_ip None = then_good hand
      by_ip (Some ip) = probe_good plan place history t v knows x ip grant (held_in_use v x grant found (idle_is_used grant.held idle)) rest then_good hand

  probes_good : (xs : List Pmac) (rest : List Act) → ((hand : Hand) → GoodActs plan place history t rest hand) → (hand : Hand) →
      GoodActs plan place history t (flat_map (λ x. probe_of x (granted v x)) (filter (λ x. is_to_probe (granted v x)) xs) ++ rest) hand
  probes_good [] rest then_good hand = then_good hand
  probes_good (x ∷ xs) rest then_good hand = by (probes_good xs rest then_good) (is_to_probe (granted v x)) refl
    where
      by : ((h : Hand) → GoodActs plan place history t (flat_map (λ y. probe_of y (granted v y)) (filter (λ y. is_to_probe (granted v y)) xs) ++ rest) h) →
          (b : Bool) → is_to_probe (granted v x) ≡ b → GoodActs plan place history t (flat_map (λ y. probe_of y (granted v y))
          (cond b (x ∷ filter (λ y. is_to_probe (granted v y)) xs) (filter (λ y. is_to_probe (granted v y)) xs)) ++ rest) hand
      by others true idle =
          let behind : List Act = flat_map (λ y. probe_of y (granted v y)) (filter (λ y. is_to_probe (granted v y)) xs) in
          subst (λ acts. GoodActs plan place history t acts hand) (sym (append_assoc (probe_of x (granted v x)) behind rest))
          (one_good x (behind ++ rest) others (granted v x) refl idle hand)
      by others false busy = others hand

-- what a tick does is good
ticks_good : (plan : Plan) (place : ℕ → Place) (history : AddressHistory) (t : ℕ) (v : SwitchView) → KnowsAddresses plan history t v →
    GoodActs plan place history t (ticks v).acts Empty
ticks_good plan place history t v knows =
    let o : SwitchView = with_older (with_aged_ports v) in
    let told : AreSilent (tells_neighbours v).acts = neighbours_acts IsSilent v (silent_change v.place) (λ port frame. tt) in
    let aged : AreSilent (all_age_out (to_rest o) o).acts = all_age_out_acts IsSilent (λ x number. tt) (to_rest o) o in
    silent_good plan place history t (tells_neighbours v).acts _ Empty told
    (probes_good plan place history t o (knows_agreed plan history t v o (older_agrees v) knows) o.used (all_age_out (to_rest o) o).acts
    (λ hand. all_silent_good plan place history t (all_age_out (to_rest o) o).acts hand aged) Empty)

-- a switch ticks
pub ticks_journaled : (w : WorldView) (s : ℕ) (new : WorldView) → AccountsForFrames Loose → IsCounted w → IsJournaled w → StandsOn w → Ticks Loose w s new →
    IsMore (place_in w.switches) (place_in new.switches) → IsJournaled new
ticks_journaled w s new accounts counted told on turn more =
    let so = sound w counted in
    let history : AddressHistory = history_of (reverse w.journal) in
    let heard : WorldView = record w { heard = heard_after_tick s w.attachments w.heard } in
    let v : SwitchView = turn.before in
    let acts : turn.acts ≡ (ticks v).acts = turn.ruled.steps.done in
    silent_turn Loose accounts heard s Tick new refl (λ u size. tt)
    (record { balance = so.balance; rest = heard_rest w _ (ticked_heard s w.attachments w.heard) so.rest }) told turn more
    (subst (λ all. GoodActs w.plan (place_in new.switches) history s all Empty) (sym acts)
    (ticks_good w.plan (place_in new.switches) history s v (on.addresses s v turn.found)))
