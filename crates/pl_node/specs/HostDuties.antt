-- What any rule of a host is to keep.
use Rattle.std.specs.Prelude.{◌≡◌, ℕ, ◌^◌, ◌<◌, ◌==◌, ◌&&◌, not, nat_le, IsTrue, Bool, true, false, List, map, fold, length, Option, Some, None}
use Rattle.std.specs.List.{list_all}
use Rattle.pl_frame.specs.Ethernet.{destination_of, source_of}
use Rattle.pl_arp.specs.declared.packet.Arp.{Arp}
use Rattle.pl_arp.specs.declared.cache.Me.{Me}
use Rattle.pl_arp.specs.Reception.{same_ip}
use Rattle.pl_node.specs.declared.acts.HostAct.{HostAct}
use Rattle.pl_node.specs.declared.acts.HostAct.TheVariants.{Send}
use Rattle.pl_layouts.specs.Control.{is_control}
use Rattle.pl_layouts.specs.Equality.{same_mac}
use Rattle.pl_layouts.specs.Frames.{packet_in}
use Rattle.pl_layouts.specs.Memberships.{changes_in, group_of}
use Rattle.pl_journal.specs.Lossy.{joined_after}
use Rattle.pl_node.specs.HostViews.{HostView, has_group}
use Rattle.pl_node.specs.HostInputs.{HostInput, HostAnswer, HostRule}
use Rattle.pl_node.specs.HostInputs.HostInput.{Receives}
use Rattle.pl_node.specs.HostInputs.HostAnswer.{Received}
use Rattle.pl_node.specs.declared.reception.Reception.{Reception}
use Rattle.pl_node.specs.declared.reception.Reception.TheVariants.{Kept}
use Rattle.pl_journal.specs.Causes.{is_routed}

-- a frame of 14 to 65,553 bytes that is no control frame
abbrev pub is_data : List ℕ → Bool
is_data frame = nat_le 14 (length frame) && nat_le (length frame) 65553 && not (is_control frame)

-- each of some frames is such a one
abbrev pub are_data : List (List ℕ) → Bool
are_data frames = list_all is_data frames

-- the frame that an act sends
abbrev pub sent_by : HostAct → List ℕ
sent_by (Send frame) = frame

-- a host that holds only such frames, and knows only hardware addresses of six bytes
pub record HoldsData (view : HostView) : Type 0 where
  pub me : length view.me.mac.0 ≡ 6
  pub cache : IsTrue (list_all (λ entry. length entry.1.0 == 6) view.cache)
  pub held : IsTrue (list_all (λ entry. are_data entry.1) view.held)

-- a step of such a host sends only such frames, and leaves it such a host, with its addresses and its table
pub record SendsData (before after : HostView) (acts : List HostAct) : Type 0 where
  pub sends : IsTrue (are_data (map sent_by acts))
  pub holds : HoldsData after
  pub me : after.me ≡ before.me
  pub table : after.table ≡ before.table

-- whether the sender of a packet that can be read is the host itself
abbrev pub is_of : Me → Option Arp → Bool
is_of me None = true
is_of me (Some arp) = same_mac arp.sha me.mac && same_ip arp.spa me.ip

-- a frame with the host's own address as source, and its own addresses as sender of a packet that can be read
abbrev pub is_own : Me → List ℕ → Bool
is_own me frame = same_mac (source_of frame) me.mac && is_of me (packet_in frame)

-- each of some frames is such a one
abbrev pub are_own : Me → List (List ℕ) → Bool
are_own me frames = list_all (is_own me) frames

-- a host that holds only frames of its own, and has an IPv4 address of four bytes
pub record HoldsOwn (view : HostView) : Type 0 where
  pub ip : view.me.ip.0 < 2 ^ 32
  pub held : IsTrue (list_all (λ entry. are_own view.me entry.1) view.held)

-- a step of such a host sends only such frames, and leaves it such a host
pub record SendsOwn (before after : HostView) (acts : List HostAct) : Type 0 where
  pub sends : IsTrue (are_own before.me (map sent_by acts))
  pub holds : HoldsOwn after

-- whether a host has joined a group, by its number, once it has sent these frames
abbrev pub joined_by : List (List ℕ) → ℕ → Bool → Bool
joined_by frames number before = fold (λ joined frame. joined_after (changes_in frame) number joined) before frames

-- what a host has joined changes in a step as the frames say that it sends
abbrev pub JoinsBySending : HostView → HostView → List HostAct → Type 0
JoinsBySending before after acts = (number : ℕ) → has_group after.joined number ≡ joined_by (map sent_by acts) number (has_group before.joined number)

-- A rule under which a host that holds data frames alone sends such frames alone.
abbrev pub HostsSendData : HostRule → Type 0
HostsSendData rule = (view : HostView) (input : HostInput) (after : HostView) (acts : List HostAct) (answer : HostAnswer) →
    HoldsData view → rule view input after acts answer → SendsData view after acts

-- A rule under which what a host has joined is what its frames say.
abbrev pub HostsJoinBySending : HostRule → Type 0
HostsJoinBySending rule = (view : HostView) (input : HostInput) (after : HostView) (acts : List HostAct) (answer : HostAnswer) →
    HoldsData view → rule view input after acts answer → JoinsBySending view after acts

-- A rule under which a host that holds frames of its own alone sends such frames alone.
abbrev pub HostsSendOwn : HostRule → Type 0
HostsSendOwn rule = (view : HostView) (input : HostInput) (after : HostView) (acts : List HostAct) (answer : HostAnswer) →
    HoldsData view → HoldsOwn view → rule view input after acts answer → SendsOwn view after acts

-- A rule under which a host keeps each frame that goes to no routed group: a frame to one host, and a flooded one.
abbrev pub HostsKeepFrames : HostRule → Type 0
HostsKeepFrames rule = (view : HostView) (frame : List ℕ) (after : HostView) (acts : List HostAct) (reception : Reception) →
    is_routed (group_of (destination_of frame)) ≡ false → rule view (Receives frame) after acts (Received reception) → reception ≡ Kept
