-- Redirects drop nothing.
use Rattle.std.proofs.Common.{◌≡◌, ℕ, List, drop, ap}
use Rattle.pl_frame.specs.declared.address.Mac.{Mac}
use Rattle.pl_frame.specs.Ethernet.{with_destination}
use Rattle.pl_frame.proofs.Exports.{front_of}
use Rattle.pl_pmac.specs.declared.pmac.Pmac.{Pmac}
use Rattle.pl_pmac.specs.Pmac.{mac_of, pmac_of}
use Rattle.pl_pmac.proofs.Exports.{length-mac_of}
use Rattle.pl_node.specs.declared.trap.Trap.{Trap}
use Rattle.pl_node.specs.SwitchViews.{SwitchView}
use Rattle.pl_switch_rule.specs.Delivering.{destination, redirects}
use Rattle.pl_switch_rule.proofs.FirstDrops.{AllGoOn, GoesOn}
use Rattle.pl_switch_rule.proofs.RowActs.{redirects_acts}

pub redirects_go_on : (n : ℕ) (v : SwitchView) (trap : Trap) → AllGoOn (redirects n v trap)
redirects_go_on = redirects_acts GoesOn (λ old new. tt)

-- the destination that was put into the frame
pub new_destination : (sent : List ℕ) (address : Pmac) → destination (with_destination sent (mac_of address)) ≡ pmac_of (mac_of address)
new_destination sent address =
    let bytes : List ℕ = (mac_of address).0 in
    let to : List ℕ → Mac = λ front. record { 0 = front } in
    ap (λ front. pmac_of (to front)) (front_of 6 bytes (drop 6 sent) (length-mac_of address))
