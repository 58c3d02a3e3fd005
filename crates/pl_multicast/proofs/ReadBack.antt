-- What is written for a routed group is read as that change.
use Rattle.std.proofs.Common.{◌≡◌, ℕ, ◌/◌, ◌==◌, ◌&&◌, ◌^◌, ◌<◌, Bool, true, false, [], ◌∷◌, ◌++◌, length, Some, refl, ap, ◌∙◌, arith}
use Rattle.std.proofs.lemmas.Bool.Decides.{Decides-eqb}
use Rattle.byteorder.specs.Endian.{big_number, big_bytes}
use Rattle.byteorder.specs.Numbers.{big_number-reads_back}
use Rattle.pl_frame.specs.Ethernet.{Fields}
use Rattle.pl_frame.proofs.Exports.{fields_of-frame_of}
use Rattle.pl_arp.specs.declared.cache.Me.{Me}
use Rattle.pl_layouts.specs.declared.membership.Change.{Change}
use Rattle.pl_layouts.specs.Memberships.{change_if_routed, changes_in, changes_of, is_routed_group, message_changes}
use Rattle.pl_multicast.specs.Messages.{message_of}
use Rattle.pl_layouts.specs.Checksum.{checksum_of}
use Rattle.pl_layouts.specs.Reports.{group_mac, header_of, header_with, membership_frame, message_of_change, message_with, receiver_of}

-- the message behind the header, whatever the checksums
message_of-written : (src dst first : ℕ) (join : Bool) (group second : ℕ) →
    message_of 0x0800 (header_with src dst first ++ message_with join group second) ≡ Some (message_with join group second)
message_of-written src dst first true group second = refl
message_of-written src dst first false group second = refl

both : (a b : Bool) → (a && b) ≡ true → a ≡ true
both true b h = refl
both false b h = absurd (cc)

small_if_routed : (group : ℕ) → is_routed_group group ≡ true → group < 256 ^ 4
small_if_routed group routed =
    let class : group / 2 ^ 28 ≡ 14 = (Decides-eqb (group / 2 ^ 28) 14).0 (both (group / 2 ^ 28 == 14) _ routed) in
    omega arith

told : (group : ℕ) (join : Bool) → is_routed_group group ≡ true →
    change_if_routed group join ≡ record { group = record { 0 = group }; join = join } ∷ []
told group join routed = rw routed refl

message_changes-written : (group sum : ℕ) (join : Bool) → message_changes (message_with join group sum) ≡ change_if_routed (big_number 4 (big_bytes 4 group)) join
message_changes-written group sum true = refl
message_changes-written group sum false = refl

pub changes_in-membership_frame : (me : Me) (change : Change) → length me.mac.0 ≡ 6 → is_routed_group change.group.0 ≡ true →
    changes_in (membership_frame me change) ≡ change ∷ []
unfolding header_of message_of_change
changes_in-membership_frame me change six routed =
    let group : ℕ = change.group.0 in
    let to : ℕ = receiver_of change in
    let first : ℕ = checksum_of (header_with me.ip.0 to 0) in
    let second : ℕ = checksum_of (message_with change.join group 0) in
    let whole : Fields = record { dst = group_mac to; src = me.mac; kind = 0x0800; payload = header_with me.ip.0 to first ++ message_with change.join group second } in
    let back : big_number 4 (big_bytes 4 group) ≡ group = big_number-reads_back 4 group [] (small_if_routed group routed) in
    ap (λ (f : Fields). changes_of (message_of f.kind f.payload)) (fields_of-frame_of whole refl six (omega arith))
    ∙ ap changes_of (message_of-written me.ip.0 to first change.join group second)
    ∙ message_changes-written group second change.join
    ∙ ap (λ n. change_if_routed n change.join) back
    ∙ told group change.join routed
