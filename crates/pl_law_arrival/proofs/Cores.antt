-- A sure frame in a run of lawful logic is one in a run of the rules.
use Rattle.std.proofs.Common.{ℕ, List, [], ◌∷◌, refl, sym, subst}
use Rattle.pl_pmac.specs.declared.pmac.Pmac.{Pmac}
use Rattle.pl_node.specs.Accounting.{AllowsNoMore}
use Rattle.pl_node.specs.HostInputs.{HostRule}
use Rattle.pl_node.specs.ManagerDuties.{ManagerRule}
use Rattle.pl_node.specs.SwitchInputs.{SwitchRule}
use Rattle.pl_manager_rule.specs.Lawful.{IsManagerRule}
use Rattle.pl_manager_rule.specs.WholeRule.{whole_rule}
use Rattle.pl_switch_rule.specs.SwitchRule.{Loose}
use Rattle.pl_world.specs.Runs.{Befalls, Moment}
use Rattle.pl_world.specs.Worlds.{WorldView}
use Rattle.pl_law_invariant.proofs.Exports.{run_lawful}
use Rattle.pl_law_arrival.specs.SureFrames.{IsSure, StaysSure}

module _ (switch : SwitchRule) (manager : ManagerRule) (host : HostRule) (obeys : AllowsNoMore switch Loose) (lawful : IsManagerRule manager) where
  moment_lawful : (old : WorldView) (moment : Moment) (new : WorldView) → Befalls switch manager host old moment new →
      Befalls Loose whole_rule host old moment new
  moment_lawful old moment new befalls =
      let run = run_lawful switch manager host obeys lawful old (moment ∷ []) new (new, befalls, refl) in
      subst (λ (w : WorldView). Befalls Loose whole_rule host old moment w) (sym run.2) run.1

  stays_lawful : (id h g : ℕ) (x : Pmac) (old : WorldView) (moments : List Moment) (new : WorldView) →
      StaysSure switch manager host id h g x old moments new → StaysSure Loose whole_rule host id h g x old moments new
  stays_lawful id h g x old [] new stays = stays
  stays_lawful id h g x old (moment ∷ moments) new stays =
      (stays.0, stays.1, (stays.2.0, moment_lawful old moment stays.2.0 stays.2.1, stays_lawful id h g x stays.2.0 moments new stays.2.2))

  pub sure_lawful : (old : WorldView) (moments : List Moment) (new : WorldView) (id h g : ℕ) → IsSure switch manager host old moments new id h g →
      IsSure Loose whole_rule host old moments new id h g
  sure_lawful old moments new id h g sure = record {
    moment = sure.moment;
    sent = sure.sent;
    befalls = moment_lawful old sure.moment sure.sent sure.befalls;
    frame = sure.frame;
    entry = sure.entry;
    at_once = sure.at_once;
    address = sure.address;
    to_one_host = sure.to_one_host;
    stays = stays_lawful id h g sure.address sure.sent moments new sure.stays;
  }
