-- A turn of a switch whose acts are good keeps what is told.
use Rattle.std.proofs.Common.{◌≡◌, ℕ, ◌+◌, ◌<◌, true, List, [], length, set, refl, sym, ◌∙◌, ap, arith}
use Rattle.std.specs.List.{fold}
use Rattle.std.proofs.lemmas.Option.{slice_get_within}
use Rattle.pl_journal.specs.declared.entry.Entry.{Entry}
use Rattle.pl_node.specs.declared.acts.Act.TheVariants as act
use Rattle.pl_node.specs.Accounting.{AccountsForFrames, CanCome, IsShaped, first_frame_state, is_said, frame_state_after}
use Rattle.pl_node.specs.SwitchInputs.{SwitchInput, SwitchRule}
use Rattle.pl_node.specs.SwitchViews.{SwitchView}
use Rattle.pl_world.specs.declared.spoken_frame.SpokenFrame.{SpokenFrame}
use Rattle.pl_world.specs.SwitchActs.{begins}
use Rattle.pl_world.specs.WorldRule.{SwitchTurn}
use Rattle.pl_world.specs.Worlds.{WorldView}
use Rattle.pl_world.proofs.Exports.{acts_switches, all_found, HasRest, owed_by, Owes, said_by, Steady, switches_rest}
use Rattle.pl_law_flights.specs.OnTheWay.{IsJournaled, history_of, place_in}
use Rattle.pl_law_flights.proofs.ActsKeepFlights.{step_journaled}
use Rattle.pl_law_flights.proofs.Hands.{GoodActs, Hand, IsAmid}

module _ (rule : SwitchRule) (accounts : AccountsForFrames rule) (w : WorldView) (s : ℕ) (input : SwitchInput) (speech : SpokenFrame) (new : WorldView)
    (turn : SwitchTurn rule w s input speech new) where
  pub turn_switches : new.switches ≡ set w.switches s turn.after
  turn_switches = ap (λ (x : WorldView). x.switches) turn.changed ∙ acts_switches s (begins (record w { switches = set w.switches s turn.after }) speech) turn.acts

  pub turn_journaled : said_by speech ≡ first_frame_state input → ((v : SwitchView) → v.k ≡ w.plan.k → CanCome v input) →
      Owes w (λ id. owed_by speech id + 0) → HasRest w → (hand : Hand) (past : List Entry) →
      IsAmid (place_in new.switches) s hand past w speech [] → GoodActs w.plan (place_in new.switches) (history_of past) s turn.acts hand → IsJournaled new
  turn_journaled same can owes r hand past a good =
      let size : turn.before.k ≡ w.plan.k = all_found (λ (u : SwitchView). u.k ≡ w.plan.k) w.switches s turn.before turn.found r.ports in
      let shaped : IsShaped turn.before = all_found IsShaped w.switches s turn.before turn.found r.shaped in
      let within : s < length w.switches = slice_get_within w.switches s turn.before turn.found in
      let kept = accounts turn.before input turn.after turn.acts shaped (can turn.before size) turn.ruled in
      let k : ℕ = turn.before.k in
      let w1 : WorldView = record w { switches = set w.switches s turn.after } in
      let start : Steady s k w1 speech [] = record {
        size = sym size;
        switch = rw size (let many = r.switches_many in omega arith);
        none = refl;
        balance = owes;
        rest = switches_rest w s turn.after (kept.k ∙ size) kept.shaped r;
      } in
      let said : is_said (fold frame_state_after (said_by speech) turn.acts) ≡ true = rw same kept.said in
      step_journaled (place_in new.switches) s k w1 speech turn.before.place turn.after.place past hand turn.acts kept.fit said start a good new turn.changed
