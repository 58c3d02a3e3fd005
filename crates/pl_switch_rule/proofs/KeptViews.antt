-- Rows of a data frame that leave what a switch knows as it was.
use Rattle.std.proofs.Common.{◌≡◌, ℕ, List, [], Option, Some, None, refl, ◌∙◌}
use Rattle.std.proofs.lemmas.Bool.{cond_both}
use Rattle.pl_frame.specs.declared.address.Ip4.{Ip4}
use Rattle.pl_frame.specs.Ethernet.{with_destination}
use Rattle.pl_pmac.specs.declared.pmac.Pmac.{Pmac}
use Rattle.pl_pmac.specs.Pmac.{mac_of}
use Rattle.pl_layouts.specs.Frames.{is_arp}
use Rattle.pl_node.specs.declared.switch_records.Grant.{Grant}
use Rattle.pl_node.specs.declared.trap.Trap.{Trap}
use Rattle.pl_node.specs.SwitchViews.{SwitchView}
use Rattle.pl_steps.specs.Steps.{does}
use Rattle.pl_switch_rule.specs.declared.came.Came.TheVariants.{FromHost}
use Rattle.pl_switch_rule.specs.Delivering.{addresses, arrives_home, begins, comes_home, delivers, delivers_or_redirects, delivers_to, destination, goes_on, last_trap, newer_address, tells_newer, tells_sender, trap_for}
use Rattle.pl_switch_rule.specs.Forwarding.{Choice, candidates_by, forwards, leaves_by}
use Rattle.pl_switch_rule.specs.Granting.{held_here, is_local}

pub leaves_view : (v : SwitchView) (frame : List ℕ) (o : Option ℕ) → (leaves_by v frame o).view ≡ v
leaves_view v frame None = refl
leaves_view v frame (Some port) = refl

pub delivers_view : (v : SwitchView) (address : Pmac) (frame : List ℕ) (o : Option Grant) → (delivers_to v address frame o).view ≡ v
delivers_view v address frame None = refl
delivers_view v address frame (Some grant) = refl

pub goes_on_view : (choose : Choice) (v : SwitchView) (frame : List ℕ) → (goes_on choose v frame).view ≡ v
goes_on_view choose v frame =
    cond_both (is_local v (destination frame)) (delivers v frame) (forwards choose v (Some FromHost) frame) (λ s. s.view ≡ v)
    (λ here. delivers_view v (destination frame) frame (held_here v (destination frame)))
    (λ other. leaves_view v frame (choose (candidates_by v (destination frame) (Some FromHost)) frame))

pub home_view : (choose : Choice) (v : SwitchView) (frame : List ℕ) (o : Option Trap) → (delivers_or_redirects choose v frame o).view ≡ v
home_view choose v frame None = delivers_view v (destination frame) frame (held_here v (destination frame))
home_view choose v frame (Some trap) = goes_on_view choose v (with_destination frame (mac_of (last_trap (addresses v) v trap).new))

pub begins_view : (choose : Choice) (v : SwitchView) (frame : List ℕ) → (begins choose v frame).view ≡ v
begins_view choose v frame =
    cond_both (is_local v (destination frame)) (comes_home choose v frame) (forwards choose v (Some FromHost) frame) (λ s. s.view ≡ v)
    (λ own. home_view choose v frame (trap_for v (destination frame)))
    (λ other. leaves_view v frame (choose (candidates_by v (destination frame) (Some FromHost)) frame))

pub newer_view : (choose : Choice) (frame : List ℕ) (new : Pmac) (o : Option Ip4) (v : SwitchView) → (tells_newer choose frame new o v).view ≡ v
newer_view choose frame new None v = refl
newer_view choose frame new (Some ip) v = begins_view choose v (newer_address frame new ip)

pub sender_view : (choose : Choice) (frame : List ℕ) (o : Option Trap) (v : SwitchView) → (tells_sender choose frame o v).view ≡ v
sender_view choose frame None v = refl
sender_view choose frame (Some trap) v =
    let last = last_trap (addresses v) v trap in
    cond_both (is_arp frame) (does v []) (tells_newer choose frame last.new last.ip v) (λ s. s.view ≡ v) (λ arp. refl)
    (λ other. newer_view choose frame last.new last.ip v)

pub arrives_view : (choose : Choice) (v : SwitchView) (frame : List ℕ) → (arrives_home choose v frame).view ≡ v
arrives_view choose v frame =
    sender_view choose frame (trap_for v (destination frame)) (comes_home choose v frame).view ∙ home_view choose v frame (trap_for v (destination frame))
