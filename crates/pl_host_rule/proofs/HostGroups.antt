-- What a host has joined, by the frames that it sent.
use Rattle.std.proofs.Common.{◌≡◌, ℕ, ◌/◌, ◌%◌, ◌^◌, ◌<◌, ◌==◌, ◌&&◌, ◌||◌, Bool, true, false, not, cond, nat_le, List, [], ◌∷◌, ◌++◌, length, drop, slice_index, map, Option, Some, None, fold, Less, Equal, Greater, refl, sym, ap, ◌∙◌, arith, if◌then◌else◌, ne_eqb}
use Rattle.std.specs.Ordering.{match_ordering}
use Rattle.std.specs.BTreeSet.{insert_key}
use Rattle.std.proofs.lemmas.Bool.{eqb-false, or_left, or_right}
use Rattle.std.proofs.lemmas.Bool.Decides.{Decides-eqb}
use Rattle.std.proofs.lemmas.Map.Lookups.{exact_unsigned}
use Rattle.std.proofs.lemmas.Map.Views.{any-filter_same}
use Rattle.byteorder.specs.Endian.{big_number, big_bytes}
use Rattle.byteorder.specs.Numbers.{big_from-bytes}
use Rattle.pl_lemmas.proofs.Exports.{or_swap, or_twice}
use Rattle.pl_frame.specs.declared.address.Mac.{Mac}
use Rattle.pl_frame.specs.declared.address.Ip4.{Ip4}
use Rattle.pl_frame.specs.Ethernet.{Fields, frame_of}
use Rattle.pl_frame.proofs.Exports.{fields_of-frame_of}
use Rattle.pl_arp.specs.declared.packet.Arp.{Arp}
use Rattle.pl_arp.specs.declared.cache.Me.{Me}
use Rattle.pl_arp.specs.Packet.{layout}
use Rattle.pl_layouts.specs.declared.membership.Change.{Change}
use Rattle.pl_layouts.specs.Checksum.{checksum_of}
use Rattle.pl_layouts.specs.Memberships.{change_if_routed, changes_in, changes_of, group_number, header_length, is_membership, is_routed_group, message_changes}
use Rattle.pl_layouts.specs.Reports.{group_mac, header_of, header_with, message_of_change, message_with}
use Rattle.pl_journal.specs.Lossy.{joined_after}
use Rattle.pl_node.specs.HostViews.{groups_after, groups_after_change, has_group, ip_cmp, without_group}
use Rattle.pl_host_rule.specs.HostRule.{report_frame}
use Rattle.pl_node.specs.HostDuties.{joined_by}
use Rattle.pl_layouts.specs.ArpFrames.{arp_frame}

-- without one group a host is in each other as before
pub has_group-without : (m n : ℕ) (joined : List Ip4) → has_group (without_group m joined) n ≡ (not (n == m) && has_group joined n)
has_group-without m n joined =
    any-filter_same (λ (group : Ip4). group_number group == n) (λ (group : Ip4). not (group_number group == m)) (not (n == m))
    (λ group h. ap (λ x. not (x == m)) ((Decides-eqb (group_number group) n).0 h)) joined

-- and with one more in that one too
pub has_group-insert : (joined : List Ip4) (group : Ip4) (n : ℕ) → has_group (insert_key ip_cmp joined group) n ≡ ((group_number group == n) || has_group joined n)
has_group-insert [] group n = refl
has_group-insert (first ∷ joined) group n =
    let rest : List Ip4 = insert_key ip_cmp joined group in
    let at_first : Bool = group_number first == n in
    elim (ip_cmp group first)
    as (λ o. ip_cmp group first ≡ o → has_group (match_ordering o (group ∷ first ∷ joined) (first ∷ joined) (first ∷ rest)) n
    ≡ ((group_number group == n) || (at_first || has_group joined n))) [
      | Less ↦ λ h. refl
      | Equal ↦ λ h.
          let same : group.0 ≡ first.0 = exact_unsigned group.0 first.0 h in
          or_twice at_first (has_group joined n) ∙ ap (λ x. (x % 2 ^ 23 == n) || (at_first || has_group joined n)) (sym same)
      | Greater ↦ λ h. ap (λ b. at_first || b) (has_group-insert joined group n) ∙ or_swap at_first (group_number group == n) (has_group joined n)
    ] refl

-- a change says of its own group whether the host is in it
with_join : (same other before : Bool) → (same ≡ true → other ≡ true) → (same ≡ false → other ≡ false) →
    (same || (not other && before)) ≡ cond same true before
with_join true other before here away = refl
with_join false other before here away = rw (away refl) refl

with_leave : (same other before : Bool) → (same ≡ true → other ≡ true) → (same ≡ false → other ≡ false) →
    (not other && before) ≡ cond same false before
with_leave true other before here away = rw (here refl) refl
with_leave false other before here away = rw (away refl) refl

turned : (m n : ℕ) → (m == n) ≡ true → (n == m) ≡ true
turned m n h = (Decides-eqb n m).1 (sym ((Decides-eqb m n).0 h))

pub turned_away : (m n : ℕ) → (m == n) ≡ false → (n == m) ≡ false
turned_away m n h = ne_eqb n m (λ k. eqb-false m n h (sym k))

has_group-change : (joined : List Ip4) (group : Ip4) (join : Bool) (n : ℕ) →
    has_group (groups_after_change joined (record { group = group; join = join })) n ≡ cond (group_number group == n) join (has_group joined n)
has_group-change joined group true n =
    let m : ℕ = group_number group in
    has_group-insert (without_group m joined) group n
    ∙ ap (λ b. (m == n) || b) (has_group-without m n joined)
    ∙ with_join (m == n) (n == m) (has_group joined n) (turned m n) (turned_away m n)
has_group-change joined group false n =
    let m : ℕ = group_number group in
    has_group-without m n joined ∙ with_leave (m == n) (n == m) (has_group joined n) (turned m n) (turned_away m n)

has_group-changes : (changes : List Change) (joined : List Ip4) (n : ℕ) →
    has_group (fold groups_after_change joined changes) n ≡ joined_after changes n (has_group joined n)
has_group-changes [] joined n = refl
has_group-changes (change ∷ changes) joined n =
    has_group-changes changes (groups_after_change joined change) n
    ∙ ap (λ b. joined_after changes n b) (has_group-change joined change.group change.join n)

-- what it sends says what it has joined
pub has_group-sent : (frames : List (List ℕ)) (joined : List Ip4) (n : ℕ) →
    has_group (fold groups_after joined frames) n ≡ joined_by frames n (has_group joined n)
unfolding groups_after
has_group-sent [] joined n = refl
has_group-sent (frame ∷ frames) joined n =
    has_group-sent frames (groups_after joined frame) n ∙ ap (λ b. joined_by frames n b) (has_group-changes (changes_in frame) joined n)

-- a frame by its type and its payload
abbrev message_by : ℕ → List ℕ → Option (List ℕ)
message_by kind payload = let message = drop (header_length payload) payload in
    if ((kind == 0x0800) && nat_le 20 (length payload) && (slice_index payload 0 / 16 == 4) && nat_le 20 (header_length payload)
    && nat_le (header_length payload) (length payload)) && (slice_index payload 9 == 2) && nat_le 8 (length message) && is_membership (slice_index message 0) then Some message
    else None

changes_by : (f : Fields) → length f.dst.0 ≡ 6 → length f.src.0 ≡ 6 → f.kind < 2 ^ 16 → changes_in (frame_of f) ≡ changes_of (message_by f.kind f.payload)
changes_by f six six' small = ap (λ (g : Fields). changes_of (message_by g.kind g.payload)) (fields_of-frame_of f six six' small)

-- an ARP frame says nothing of groups
pub arp_frame_is_silent : (dst : Mac) (arp : Arp) → length dst.0 ≡ 6 → length arp.sha.0 ≡ 6 → changes_in (arp_frame dst arp) ≡ []
unfolding arp_frame
arp_frame_is_silent dst arp six six' =
    changes_by (record { dst = dst; src = arp.sha; kind = 0x0806; payload = layout arp }) six six' (omega arith)

-- and a report says that its group is joined, if it is a routed one
message_by-report : (src dst first sum group : ℕ) → message_by 0x0800 (header_with src dst first ++ message_with true group sum) ≡ Some (message_with true group sum)
message_by-report src dst first sum group = refl

changes-report : (sum group : ℕ) → message_changes (message_with true group sum) ≡ change_if_routed (big_number 4 (big_bytes 4 group)) true
changes-report sum group = refl

changes_in-report : (me : Me) (group : Ip4) → length me.mac.0 ≡ 6 → changes_in (report_frame me group) ≡ change_if_routed (group.0 % 256 ^ 4) true
unfolding header_of message_of_change
changes_in-report me group six =
    let n : ℕ = group.0 in
    let first : ℕ = checksum_of (header_with me.ip.0 n 0) in
    let second : ℕ = checksum_of (message_with true n 0) in
    let payload : List ℕ = header_with me.ip.0 n first ++ message_with true n second in
    changes_by (record { dst = group_mac n; src = me.mac; kind = 0x0800; payload = payload }) refl six (omega arith)
    ∙ ap changes_of (message_by-report me.ip.0 n first second n)
    ∙ changes-report second n
    ∙ ap (λ x. change_if_routed x true) (big_from-bytes 4 n [])

-- a report of a group that the host is in changes nothing
joined_after-routed : (x n : ℕ) (before : Bool) → ((x % 2 ^ 23 == n) ≡ true → before ≡ true) → joined_after (change_if_routed x true) n before ≡ before
joined_after-routed x n before joined =
    elim (is_routed_group x) as (λ b. joined_after (cond b (record { group = record { 0 = x }; join = true } ∷ []) []) n before ≡ before) [
      | true ↦ elim (x % 2 ^ 23 == n) as (λ b. (x % 2 ^ 23 == n) ≡ b → cond b true before ≡ before) [ true ↦ λ h. sym (joined h) | false ↦ λ h. refl ] refl
      | false ↦ refl
    ]

pub reports_change_nothing : (me : Me) (groups : List Ip4) (n : ℕ) (before : Bool) → length me.mac.0 ≡ 6 →
    (has_group groups n ≡ true → before ≡ true) → joined_by (map (report_frame me) groups) n before ≡ before
reports_change_nothing me [] n before six joined = refl
reports_change_nothing me (group ∷ groups) n before six joined =
    let number : group.0 % 256 ^ 4 % 2 ^ 23 ≡ group_number group = omega arith in
    let here : (group.0 % 256 ^ 4 % 2 ^ 23 == n) ≡ true → before ≡ true =
    λ h. joined (or_left (group_number group == n) (has_group groups n) (ap (λ x. x == n) (sym number) ∙ h)) in
    let one : joined_after (changes_in (report_frame me group)) n before ≡ before =
    ap (λ c. joined_after c n before) (changes_in-report me group six) ∙ joined_after-routed (group.0 % 256 ^ 4) n before here in
    ap (λ b. joined_by (map (report_frame me) groups) n b) one
    ∙ reports_change_nothing me groups n before six (λ h. joined (or_right (group_number group == n) (has_group groups n) h))
