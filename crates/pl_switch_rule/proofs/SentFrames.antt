-- A frame that came at a switch, as the switch sends it on.
use Rattle.std.proofs.Common.{◌≡◌, ◌≤◌, ◌==◌, ℕ, true, false, if◌then◌else◌, List, [], ◌∷◌, length, map, Option, Some, None, refl, sym, ap, ◌∙◌, arith, unwrap_or}
use Rattle.pl_frame.specs.declared.address.Mac.{Mac}
use Rattle.pl_frame.specs.Ethernet.{destination_of, source_of}
use Rattle.pl_pmac.specs.declared.pmac.Pmac.{Pmac}
use Rattle.pl_pmac.specs.Pmac.{pmac_of}
use Rattle.pl_pmac.proofs.Exports.{length-mac_of}
use Rattle.pl_node.specs.declared.acts.Act.TheVariants.{Pass}
use Rattle.pl_node.specs.Accounting.{IsWholeFrame}
use Rattle.pl_node.specs.SwitchViews.{SwitchView}
use Rattle.pl_layouts.specs.Frames.{HasSixBytes, is_arp}
use Rattle.pl_layouts.specs.Memberships.{flood, group_of, is_group}
use Rattle.pl_layouts.proofs.Exports.{destination_of-arriving, length-arriving, source_of-arriving}
use Rattle.pl_steps.specs.Steps.{SwitchStep}
use Rattle.pl_switch_rule.specs.declared.came.Came.{Came}
use Rattle.pl_switch_rule.specs.declared.came.Came.TheVariants.{FromHost}
use Rattle.pl_switch_rule.specs.Delivering.{arrives_home, destination}
use Rattle.pl_switch_rule.specs.DropCauses.{came_in, first_drop, is_of_host, known_source}
use Rattle.pl_switch_rule.specs.Forwarding.{Choice, came_by, forwards}
use Rattle.pl_switch_rule.specs.Granting.{is_local}
use Rattle.pl_switch_rule.specs.GroupForwarding.{forwards_group}
use Rattle.pl_switch_rule.specs.Intake.{mac_of_pmac, source_pmac, with_pmac}
use Rattle.pl_switch_rule.proofs.DataFrames.{kind_of-arriving}

-- the frame that came at the port, as the switch sends it on
pub record IsSentOn (v : SwitchView) (port : ℕ) (frame : List ℕ) (came : Option Came) (sent : List ℕ) : Type 0 where
  pub came_so : came_in v port ≡ came
  pub same_end : destination_of sent ≡ destination_of frame
  pub known_so : pmac_of (source_of sent) ≡ known_source v port frame
  pub same_kind : is_arp sent ≡ is_arp frame
  pub long : 14 ≤ length sent

pub passes_drop_none : (ports sent : List ℕ) → first_drop (map (λ p. Pass p sent) ports) ≡ None
passes_drop_none [] sent = refl
passes_drop_none (p ∷ ports) sent = passes_drop_none ports sent

-- the number of the group of this destination
abbrev pub number_to : Mac → ℕ
number_to to = unwrap_or (group_of to) flood

-- to a group, to this switch's own hosts, or to others
abbrev pub goes_where : Choice → SwitchView → Option Came → List ℕ → SwitchStep
goes_where choose v came sent =
    if is_group (destination_of sent) then forwards_group v came sent
    else if is_local v (destination sent) then arrives_home choose v sent
    else forwards choose v came sent

-- A frame of a host.

pub six_of_mac : (o : Option Pmac) → HasSixBytes (mac_of_pmac o)
six_of_mac None = tt
six_of_mac (Some a) = length-mac_of a

pub host_sent_on : (v : SwitchView) (port : ℕ) (frame : List ℕ) → IsWholeFrame frame → is_of_host v port ≡ true →
    IsSentOn v port frame (Some FromHost) (with_pmac v port frame)
host_sent_on v port frame whole host =
    let from : Option Mac = mac_of_pmac (source_pmac v port frame) in
    let six = six_of_mac (source_pmac v port frame) in
    record {
      came_so = ap (λ b. if◌then◌else◌ {A = Option Came} b (Some FromHost) (came_by v port)) host;
      same_end = destination_of-arriving frame from None whole.low six tt;
      known_so = ap pmac_of (source_of-arriving frame from None whole.low six tt)
          ∙ sym (ap (λ b. if◌then◌else◌ {A = Pmac} b (pmac_of (unwrap_or from (source_of frame))) (pmac_of (source_of frame))) host);
      same_kind = ap (λ n. n == 0x0806) (kind_of-arriving frame from None whole.low six tt);
      long = omega (arith, length-arriving frame from None whole.low six tt, whole.low);
    }

-- A frame of another switch.

pub switch_sent_on : (v : SwitchView) (port : ℕ) (frame : List ℕ) → IsWholeFrame frame → is_of_host v port ≡ false →
    IsSentOn v port frame (came_by v port) frame
switch_sent_on v port frame whole switch = record {
  came_so = ap (λ b. if◌then◌else◌ {A = Option Came} b (Some FromHost) (came_by v port)) switch;
  same_end = refl;
  known_so = sym (ap (λ b. if◌then◌else◌ {A = Pmac} b
      (pmac_of (unwrap_or (mac_of_pmac (source_pmac v port frame)) (source_of frame))) (pmac_of (source_of frame))) switch);
  same_kind = refl;
  long = whole.low;
}
