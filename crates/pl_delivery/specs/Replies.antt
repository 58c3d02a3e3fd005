-- The reply to the sender of a frame that meets a trap.
use Rattle.std.specs.Prelude.{ℕ, if◌then◌else◌, List, Option, Some, None, option_map}
use Rattle.pl_node.specs.declared.trap.Trap.{Trap}
use Rattle.pl_node.specs.SwitchViews.{SwitchView}
use Rattle.pl_layouts.specs.Frames.{is_arp}
use Rattle.pl_switch_rule.specs.Delivering.{addresses, last_trap, newer_address}

-- the last of the traps that lead on from this one, where there is one
abbrev pub last_from : SwitchView → Option Trap → Option Trap
last_from v trap = option_map (last_trap (addresses v) v) trap

-- The address that the last trap names is told where the frame is no ARP frame and the host's IPv4 address is known.
abbrev pub reply_to : List ℕ → Option Trap → Option (List ℕ)
reply_to frame None = None
reply_to frame (Some last) = if is_arp frame then None else option_map (newer_address frame last.new) last.ip
