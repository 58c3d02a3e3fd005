-- The manager releases an address: where it rests, it is free then.
use Rattle.std.proofs.Common.{◌≡◌, ◌⊎◌, ℕ, true, List, [], ◌∷◌, Option, None, Some, reverse, set, refl, sym, ◌∙◌, ap, subst, inl, inr}
use Rattle.std.specs.List.{AllByRecursion}
use Rattle.std.proofs.Math.ListN.{length-set}
use Rattle.pl_pmac.specs.declared.pmac.Pmac.{Pmac}
use Rattle.pl_pmac.specs.Pmac.{pmac_number}
use Rattle.pl_layouts.specs.declared.place.Place.{Place}
use Rattle.pl_journal.specs.declared.entry.Entry.{Entry}
use Rattle.pl_journal.specs.declared.entry.Entry.TheVariants.{Freed}
use Rattle.pl_journal.specs.Places.{is_live}
use Rattle.pl_journal.proofs.Exports.{live_one}
use Rattle.pl_node.specs.declared.acts.Act.{Act}
use Rattle.pl_node.specs.declared.acts.Act.TheVariants as act
use Rattle.pl_node.specs.AddressUses.{is_held}
use Rattle.pl_node.specs.declared.address_use.AddressUse.{AddressUse}
use Rattle.pl_node.specs.declared.address_use.AddressUse.TheVariants.{Free, InUse, Resting, Trapped}
use Rattle.pl_node.specs.declared.messages.ToSwitch.{ToSwitch}
use Rattle.pl_node.specs.declared.messages.ToSwitch.TheVariants.{Release}
use Rattle.pl_node.specs.declared.switch_records.Grant.{Grant}
use Rattle.pl_node.specs.Accounting.{AccountsForFrames, IsFit}
use Rattle.pl_node.specs.SwitchInputs.SwitchInput.{Says}
use Rattle.pl_node.specs.SwitchViews.{SwitchView}
use Rattle.pl_switch_rule.specs.Granting.{granted, held_here}
use Rattle.pl_switch_rule.specs.Messages.{frees, frees_at}
use Rattle.pl_switch_rule.specs.SwitchRule.{Loose}
use Rattle.pl_switch_rule.proofs.Exports.{frees_learn, held_of}
use Rattle.pl_world.specs.declared.spoken_frame.SpokenFrame.TheVariants.{Silent}
use Rattle.pl_world.specs.Flying.{IsCounted}
use Rattle.pl_world.specs.SwitchActs.{acts_done}
use Rattle.pl_world.specs.WorldRule.{SwitchTurn}
use Rattle.pl_world.specs.Worlds.{WorldView}
use Rattle.pl_world.proofs.Exports.{act_steady, amid, says_rest, Sound, sound, Steady}
use Rattle.pl_law_flights.specs.OnTheWay.{IsJournaled, history_of, place_in}
use Rattle.pl_law_flights.specs.Standing.{IsMore, StandsOn}
use Rattle.pl_law_flights.proofs.ActsKeepFlights.{IsDone}
use Rattle.pl_law_flights.proofs.Counting.{counts, nobody}
use Rattle.pl_law_flights.proofs.EntriesOfFlights.{note, reverse_noted}
use Rattle.pl_law_flights.proofs.FromManager.{same_more}
use Rattle.pl_law_flights.proofs.Hands.{GoodActs, IsAmid}
use Rattle.pl_law_flights.proofs.Hands.Hand.{Empty}
use Rattle.pl_law_flights.proofs.KeepingFlights.{kept}
use Rattle.pl_law_flights.proofs.Settling.{done_turn}
use Rattle.pl_law_flights.proofs.SilentSteps.{silent_turn}
use Rattle.pl_law_flights.proofs.SwitchTurns.{turn_switches}

-- the address becomes free, which is held before, or nothing is done
abbrev FreesOne : SwitchView → Pmac → List Act → Type 0
FreesOne v x acts = (acts ≡ []) ⊎ ((grant : Grant) × (held_here v x ≡ Some grant) × (acts ≡ act.Free x ∷ []))

frees_one : (v : SwitchView) (x : Pmac) (o : Option Grant) → granted v x ≡ o → FreesOne v x (frees v x o).acts
frees_one v x None found = inl refl
frees_one v x (Some grant) found = by grant.held refl
  where
    by : (held : AddressUse) → grant.held ≡ held → FreesOne v x (frees_at v x grant held).acts
    by (InUse idle) is = inl refl
    by (Trapped trap age) is = inl refl
    by (Resting number) is = inr (grant, held_of v x grant found (ap is_held is), refl)
    by Free is = inl refl

-- so it is written
freed_done : (place : ℕ → Place) (s k : ℕ) (w : WorldView) (past : List Entry) (x : Pmac) → IsFit k (act.Free x) → Steady s k w Silent [] →
    IsAmid place s Empty past w Silent [] → is_live past (pmac_number x) ≡ true → IsDone place s k (acts_done s (amid w Silent []) (act.Free x ∷ []))
freed_done place s k w past x fit st a live =
    let c = counts w past _ a.is st.balance in
    record {
      hand = Empty;
      past = Freed x ∷ past;
      amid = record {
        is = reverse_noted w.journal past (Freed x) a.is;
        tells = note w.plan place past w.links w.attachments w.from_hosts w.out (Freed x) 0 (nobody past w.from_hosts w.out _ c)
            (λ g other. kept w.plan past (Freed x) g tt) (record { there = λ y at is. is }) live tt a.tells.links_agree a.tells.attachments_agree a.tells;
        holds = tt;
        puts_off = tt;
      };
      steady = act_steady s k w Silent [] (act.Free x) fit tt st;
      said = refl;
    }

pub frees_journaled : (w : WorldView) (t : ℕ) (x : Pmac) (rest : List ToSwitch) (new : WorldView) → AccountsForFrames Loose → IsCounted w → IsJournaled w → StandsOn w →
    SwitchTurn Loose (record w { from_manager = set w.from_manager t rest }) t (Says (Release x)) Silent new → IsJournaled new
frees_journaled w t x rest new accounts counted told on turn =
    let so = sound w counted in
    let past : List Entry = reverse w.journal in
    let v : SwitchView = turn.before in
    let mid : WorldView = record w { from_manager = set w.from_manager t rest } in
    let stays : turn.after.place ≡ v.place =
    ap (λ (u : SwitchView). u.place) (turn.ruled.steps.view ∙ frees_learn v x (granted v x)) in
    let more : IsMore (place_in w.switches) (place_in new.switches) = subst (λ vs. IsMore (place_in w.switches) (place_in vs))
    (sym (turn_switches Loose accounts mid t _ _ new turn)) (same_more w.switches t v turn.after turn.found stays) in
    let said : Sound mid = record { balance = so.balance; rest = says_rest w.from_manager _ (length-set w.from_manager t _) so.rest } in
    elim (frees_one v x (granted v x) refl) [
      | inl nothing ↦ silent_turn Loose accounts mid t (Says (Release x)) new refl (λ u size. tt) said told turn more
          (subst (λ acts. GoodActs w.plan (place_in new.switches) (history_of past) t acts Empty) (sym (turn.ruled.steps.done ∙ nothing)) tt)
      | inr one ↦
          let acts : turn.acts ≡ act.Free x ∷ [] = turn.ruled.steps.done ∙ one.2 in
          let it = (on.addresses t v turn.found).granted_here x one.0 one.1 in
          let live : is_live past (pmac_number x) ≡ true = live_one past (pmac_number x) it.host it.held in
          done_turn Loose accounts mid t (Says (Release x)) new refl (λ u size. tt) said told turn more (λ w1 plan fit ends start a.
          subst (λ those. IsDone (place_in new.switches) t v.k (acts_done t (amid w1 Silent []) those)) (sym acts)
          (freed_done (place_in new.switches) t v.k w1 past x (subst (λ those. AllByRecursion (IsFit v.k) those) acts fit).0 start a live))
    ]
