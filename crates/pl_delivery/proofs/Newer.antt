-- The reply to the sender of a frame that meets a trap.
use Rattle.std.proofs.Common.{◌≡◌, ℕ, true, false, if◌then◌else◌, List, [], Option, Some, None, option_map, refl, sym, ap, ◌∙◌}
use Rattle.pl_node.specs.declared.trap.Trap.{Trap}
use Rattle.pl_node.specs.SwitchViews.{SwitchView}
use Rattle.pl_delivery.specs.Replies.{last_from, reply_to}
use Rattle.pl_delivery.specs.Sending.{makes_any}
use Rattle.pl_frame.specs.declared.address.Ip4.{Ip4}
use Rattle.pl_layouts.specs.Frames.{is_arp}
use Rattle.pl_migrate.specs.AddressTables.{AddressTableView, address_table_in, trap_in}
use Rattle.pl_pmac.specs.declared.pmac.Pmac.{Pmac}
use Rattle.pl_steps.specs.Steps.{does}
use Rattle.pl_switch_rule.specs.Delivering.{addresses, destination, last_trap, newer_address, tells_newer, tells_sender, trap_for}
use Rattle.pl_switch_rule.specs.Forwarding.{Choice}

told_of : (choose : Choice) (frame : List ℕ) (new : Pmac) (ip : Option Ip4) (v : SwitchView) →
    makes_any choose (option_map (newer_address frame new) ip) v ≡ tells_newer choose frame new ip v
told_of choose frame new None v = refl
told_of choose frame new (Some ip) v = refl

-- to make it is to tell the sender
pub tells : (choose : Choice) (frame : List ℕ) (trap : Option Trap) (v : SwitchView) →
    makes_any choose (reply_to frame (last_from v trap)) v ≡ tells_sender choose frame trap v
tells choose frame None v = refl
tells choose frame (Some trap) v =
    let last : Trap = last_trap (addresses v) v trap in
    elim (is_arp frame) as (λ b. makes_any choose (if b then None else option_map (newer_address frame last.new) last.ip) v
    ≡ (if b then does v [] else tells_newer choose frame last.new last.ip v)) [
      | true ↦ refl
      | false ↦ told_of choose frame last.new last.ip v
    ]

pub none_for_arp : (frame : List ℕ) (last : Option Trap) → is_arp frame ≡ true → None ≡ reply_to frame last
none_for_arp frame None arp = refl
none_for_arp frame (Some last) arp = sym (ap (λ b. if b then None else option_map (newer_address frame last.new) last.ip) arp)

pub some_for : (address_table : AddressTableView) (frame : List ℕ) (trap last : Trap) (reply : Option (List ℕ)) (v : SwitchView) →
    is_arp frame ≡ false → Some trap ≡ trap_in address_table (destination frame) → last ≡ last_trap (addresses (address_table_in address_table v)) (address_table_in address_table v) trap →
    reply ≡ option_map (newer_address frame last.new) last.ip →
    reply ≡ reply_to frame (last_from (address_table_in address_table v) (trap_for (address_table_in address_table v) (destination frame)))
some_for address_table frame trap last reply v plain is is_last replied = let w : SwitchView = address_table_in address_table v in
    replied
    ∙ sym (ap (λ b. if b then None else option_map (newer_address frame last.new) last.ip) plain)
    ∙ ap (λ (l : Trap). reply_to frame (Some l)) is_last
    ∙ ap (λ t. reply_to frame (last_from w t)) is

pub none_for : (address_table : AddressTableView) (frame : List ℕ) (v : SwitchView) → None ≡ trap_in address_table (destination frame) →
    None ≡ reply_to frame (last_from (address_table_in address_table v) (trap_for (address_table_in address_table v) (destination frame)))
none_for address_table frame v is = ap (λ t. reply_to frame (last_from (address_table_in address_table v) t)) is
