-- A host keeps its groups and its held frames in order.
use Rattle.std.proofs.Common.{◌≡◌, ℕ, ◌+◌, ◌<◌, ◌≤◌, ◌==◌, ◌&&◌, Bool, true, false, not, cond, nat_le, nat_lt, List, [], ◌∷◌, ◌++◌, length, filter, fold, Option, Some, None, is_none, option_map, Less, Equal, Greater, refl, sym, ap, subst, ◌∙◌, arith, length-append, lt-ltb, ltb-false, ltb-true, le-leb}
use Rattle.std.specs.Option.{option_to_list}
use Rattle.std.specs.List.{list_all}
use Rattle.std.specs.Map.{keys_of}
use Rattle.std.specs.Ordering.{match_ordering}
use Rattle.std.specs.BTreeMap.{insert_entry}
use Rattle.std.specs.BTreeSet.{insert_key}
use Rattle.std.proofs.lemmas.Bool.{and_from, and_parts, eqb-false, leb-false, not-true, not_from_false, or_from, or_parts}
use Rattle.std.proofs.lemmas.Bool.Decides.{Decides-eqb}
use Rattle.pl_frame.specs.declared.address.Ip4.{Ip4}
use Rattle.pl_frame.specs.Ethernet.{destination_of, kind_of, with_destination}
use Rattle.pl_arp.specs.declared.packet.Arp.{Arp}
use Rattle.pl_arp.specs.declared.cache.Me.{Me}
use Rattle.pl_arp.specs.Reception.{Table, answer_to, hardware_of, table_after}
use Rattle.pl_node.specs.declared.acts.HostAct.{HostAct}
use Rattle.pl_journal.specs.declared.cause.Skip.{Skip}
use Rattle.pl_journal.specs.declared.cause.Skip.TheVariants as skips
use Rattle.pl_layouts.specs.declared.membership.Change.{Change}
use Rattle.pl_node.specs.declared.reception.Reception.TheVariants as reception
use Rattle.pl_layouts.specs.Frames.{is_arp, packet_in}
use Rattle.pl_layouts.specs.Memberships.{changes_in, group_number, group_of, is_group}
use Rattle.pl_node.specs.HostViews.{HeldFrames, HostView, IsOrderlyHost, are_apart, are_rising, boot_host, groups_after, groups_after_change, has_group, held_for, hold_limit, ip_cmp, is_waiting, with_held, without_group}
use Rattle.pl_host_rule.specs.HostRule.{HostStep, leave_frame, report_frame, having_sent, hearing, host_rule, host_step, is_foreign, is_full, is_not_joined, other_host, playing_frame, receiving, released_by, reply_frame, sending, sending_on, sending_to, sending_to_host, skip_of, step_to, still_held, unicast_skip, unless_skipped}
use Rattle.pl_node.specs.HostInputs.HostInput.{HasMoved, Joins, Leaves, PlaysRaw, Plays, Receives, Retries, Starts}
use Rattle.pl_node.specs.HostInputs.HostAnswer.{Received}
use Rattle.pl_node.specs.HostInputs.{HostAnswer, HostInput}
use Rattle.pl_host_rule.proofs.HostGroups.{has_group-insert, has_group-without, turned_away}
use Rattle.pl_host_rule.proofs.HostSends.{unskipped}

-- addresses in order
abbrev are_above : Ip4 → List Ip4 → Bool
are_above ip ips = list_all (λ other. nat_lt ip.0 other.0) ips

less_if : (a b : Bool) → cond a Less (cond b Equal Greater) ≡ Less → a ≡ true
less_if true b h = refl
less_if false true h = absurd (cc)
less_if false false h = absurd (cc)

greater_if : (a b : Bool) → cond a Less (cond b Equal Greater) ≡ Greater → (a ≡ false) × (b ≡ false)
greater_if true b h = absurd (cc)
greater_if false true h = absurd (cc)
greater_if false false h = (refl, refl)

less : (a b : Ip4) → ip_cmp a b ≡ Less → nat_lt a.0 b.0 ≡ true
less a b h = less_if (nat_lt a.0 b.0) (a.0 == b.0) h

greater : (a b : Ip4) → ip_cmp a b ≡ Greater → nat_lt b.0 a.0 ≡ true
greater a b h =
    let parts = greater_if (nat_lt a.0 b.0) (a.0 == b.0) h in
    let most : b.0 ≤ a.0 = ltb-false a.0 b.0 parts.0 in
    let apart = eqb-false a.0 b.0 parts.1 in
    lt-ltb b.0 a.0 (omega arith)

above_lower : (low ip : Ip4) (ips : List Ip4) → nat_lt low.0 ip.0 ≡ true → are_above ip ips ≡ true → are_above low ips ≡ true
above_lower low ip [] lt above = refl
above_lower low ip (other ∷ ips) lt above =
    let parts = and_parts (nat_lt ip.0 other.0) (are_above ip ips) above in
    let first = ltb-true low.0 ip.0 lt in
    let second = ltb-true ip.0 other.0 parts.0 in
    and_from (nat_lt low.0 other.0) (are_above low ips) (lt-ltb low.0 other.0 (omega arith)) (above_lower low ip ips lt parts.1)

above_insert : (low ip : Ip4) (ips : List Ip4) → nat_lt low.0 ip.0 ≡ true → are_above low ips ≡ true → are_above low (insert_key ip_cmp ips ip) ≡ true
above_insert low ip [] lt above = and_from (nat_lt low.0 ip.0) true lt refl
above_insert low ip (other ∷ ips) lt above =
    let parts = and_parts (nat_lt low.0 other.0) (are_above low ips) above in
    let rest : List Ip4 = insert_key ip_cmp ips ip in
    elim (ip_cmp ip other) as (λ o. are_above low (match_ordering o (ip ∷ other ∷ ips) (other ∷ ips) (other ∷ rest)) ≡ true) [
      | Less ↦ and_from (nat_lt low.0 ip.0) (are_above low (other ∷ ips)) lt above
      | Equal ↦ above
      | Greater ↦ and_from (nat_lt low.0 other.0) (are_above low rest) parts.0 (above_insert low ip ips lt parts.1)
    ]

rising_insert : (ip : Ip4) (ips : List Ip4) → are_rising ips ≡ true → are_rising (insert_key ip_cmp ips ip) ≡ true
rising_insert ip [] rising = refl
rising_insert ip (other ∷ ips) rising =
    let parts = and_parts (are_above other ips) (are_rising ips) rising in
    let rest : List Ip4 = insert_key ip_cmp ips ip in
    elim (ip_cmp ip other)
    as (λ o. ip_cmp ip other ≡ o → are_rising (match_ordering o (ip ∷ other ∷ ips) (other ∷ ips) (other ∷ rest)) ≡ true) [
      | Less ↦ λ h.
          let lt = less ip other h in
          and_from (are_above ip (other ∷ ips)) (are_rising (other ∷ ips))
          (and_from (nat_lt ip.0 other.0) (are_above ip ips) lt (above_lower ip other ips lt parts.0)) rising
      | Equal ↦ λ h. rising
      | Greater ↦ λ h.
          and_from (are_above other rest) (are_rising rest) (above_insert other ip ips (greater ip other h) parts.0) (rising_insert ip ips parts.1)
    ] refl

above_filter : (p : Ip4 → Bool) (low : Ip4) (ips : List Ip4) → are_above low ips ≡ true → are_above low (filter p ips) ≡ true
above_filter p low [] above = refl
above_filter p low (ip ∷ ips) above =
    let parts = and_parts (nat_lt low.0 ip.0) (are_above low ips) above in
    let rest = above_filter p low ips parts.1 in
    elim (p ip) as (λ b. are_above low (cond b (ip ∷ filter p ips) (filter p ips)) ≡ true)
    [ true ↦ and_from (nat_lt low.0 ip.0) (are_above low (filter p ips)) parts.0 rest | false ↦ rest ]

rising_filter : (p : Ip4 → Bool) (ips : List Ip4) → are_rising ips ≡ true → are_rising (filter p ips) ≡ true
rising_filter p [] rising = refl
rising_filter p (ip ∷ ips) rising =
    let parts = and_parts (are_above ip ips) (are_rising ips) rising in
    let rest = rising_filter p ips parts.1 in
    elim (p ip) as (λ b. are_rising (cond b (ip ∷ filter p ips) (filter p ips)) ≡ true)
    [ true ↦ and_from (are_above ip (filter p ips)) (are_rising (filter p ips)) (above_filter p ip ips parts.0) rest | false ↦ rest ]

-- groups with different numbers
absent_filter : (p : Ip4 → Bool) (groups : List Ip4) (n : ℕ) → has_group groups n ≡ false → has_group (filter p groups) n ≡ false
absent_filter p [] n absent = refl
absent_filter p (group ∷ groups) n absent =
    let parts = or_parts (group_number group == n) (has_group groups n) absent in
    let rest = absent_filter p groups n parts.1 in
    elim (p group) as (λ b. has_group (cond b (group ∷ filter p groups) (filter p groups)) n ≡ false)
    [ true ↦ or_from (group_number group == n) (has_group (filter p groups) n) parts.0 rest | false ↦ rest ]

apart_filter : (p : Ip4 → Bool) (groups : List Ip4) → are_apart groups ≡ true → are_apart (filter p groups) ≡ true
apart_filter p [] apart = refl
apart_filter p (group ∷ groups) apart =
    let n : ℕ = group_number group in
    let parts = and_parts (not (has_group groups n)) (are_apart groups) apart in
    let rest = apart_filter p groups parts.1 in
    elim (p group) as (λ b. are_apart (cond b (group ∷ filter p groups) (filter p groups)) ≡ true) [
      | true ↦ and_from (not (has_group (filter p groups) n)) (are_apart (filter p groups))
          (not_from_false (has_group (filter p groups) n) (absent_filter p groups n (not-true (has_group groups n) parts.0))) rest
      | false ↦ rest
    ]

apart_insert : (group : Ip4) (groups : List Ip4) → are_apart groups ≡ true → has_group groups (group_number group) ≡ false →
    are_apart (insert_key ip_cmp groups group) ≡ true
apart_insert group [] apart absent = refl
apart_insert group (other ∷ groups) apart absent =
    let n : ℕ = group_number other in
    let rest : List Ip4 = insert_key ip_cmp groups group in
    let parts = and_parts (not (has_group groups n)) (are_apart groups) apart in
    let away = or_parts (n == group_number group) (has_group groups (group_number group)) absent in
    elim (ip_cmp group other) as (λ o. are_apart (match_ordering o (group ∷ other ∷ groups) (other ∷ groups) (other ∷ rest)) ≡ true) [
      | Less ↦ and_from (not (has_group (other ∷ groups) (group_number group))) (are_apart (other ∷ groups))
          (not_from_false (has_group (other ∷ groups) (group_number group)) absent) apart
      | Equal ↦ apart
      | Greater ↦
          let gone : has_group rest n ≡ false =
          has_group-insert groups group n
          ∙ or_from (group_number group == n) (has_group groups n) (turned_away n (group_number group) away.0) (not-true (has_group groups n) parts.0) in
          and_from (not (has_group rest n)) (are_apart rest) (not_from_false (has_group rest n) gone) (apart_insert group groups parts.1 away.1)
    ]

-- the groups of a host
record AreOrderly (joined : List Ip4) : Type 0 where
  pub rising : are_rising joined ≡ true
  pub apart : are_apart joined ≡ true

orderly_without : (n : ℕ) (joined : List Ip4) → AreOrderly joined → AreOrderly (without_group n joined)
orderly_without n joined are = record {
  rising = rising_filter (λ group. not (group_number group == n)) joined are.rising;
  apart = apart_filter (λ group. not (group_number group == n)) joined are.apart;
}

gone_without : (n : ℕ) (joined : List Ip4) → has_group (without_group n joined) n ≡ false
gone_without n joined =
    let same : (n == n) ≡ true = (Decides-eqb n n).1 refl in
    has_group-without n n joined ∙ ap (λ b. not b && has_group joined n) same

orderly_change : (joined : List Ip4) (group : Ip4) (join : Bool) → AreOrderly joined →
    AreOrderly (groups_after_change joined (record { group = group; join = join }))
orderly_change joined group true are =
    let others : List Ip4 = without_group (group_number group) joined in
    let so = orderly_without (group_number group) joined are in
    record { rising = rising_insert group others so.rising; apart = apart_insert group others so.apart (gone_without (group_number group) joined) }
orderly_change joined group false are = orderly_without (group_number group) joined are

orderly_changes : (changes : List Change) (joined : List Ip4) → AreOrderly joined → AreOrderly (fold groups_after_change joined changes)
orderly_changes [] joined are = are
orderly_changes (change ∷ changes) joined are =
    orderly_changes changes (groups_after_change joined change) (orderly_change joined change.group change.join are)

orderly_sent : (frames : List (List ℕ)) (joined : List Ip4) → AreOrderly joined → AreOrderly (fold groups_after joined frames)
unfolding groups_after
orderly_sent [] joined are = are
orderly_sent (frame ∷ frames) joined are = orderly_sent frames (groups_after joined frame) (orderly_changes (changes_in frame) joined are)

groups_of : (view : HostView) → IsOrderlyHost view → AreOrderly view.joined
groups_of view is = record { rising = is.joined; apart = is.apart }

orderly_having_sent : (view : HostView) (frames : List (List ℕ)) → IsOrderlyHost view → IsOrderlyHost (having_sent view frames)
orderly_having_sent view frames is =
    let are = orderly_sent frames view.joined (groups_of view is) in
    record { joined = are.rising; apart = are.apart; held = is.held; waiting = is.waiting }

-- the held frames
abbrev are_waiting : Table → HeldFrames → Bool
are_waiting cache held = list_all (is_waiting cache) held

abbrev is_some_few : List (List ℕ) → Bool
is_some_few frames = nat_le 1 (length frames) && nat_le (length frames) hold_limit

abbrev is_unknown : Table → Ip4 → Bool
is_unknown cache ip = is_none (hardware_of cache ip)

keys_of-insert_entry : (held : HeldFrames) (ip : Ip4) (frames : List (List ℕ)) → keys_of (insert_entry ip_cmp held ip frames) ≡ insert_key ip_cmp (keys_of held) ip
keys_of-insert_entry [] ip frames = refl
keys_of-insert_entry (entry ∷ held) ip frames =
    let rest : HeldFrames = insert_entry ip_cmp held ip frames in
    let keys : List Ip4 = keys_of held in
    elim (ip_cmp ip entry.0)
    as (λ o. keys_of (match_ordering o ((ip, frames) ∷ entry ∷ held) ((entry.0, frames) ∷ held) (entry ∷ rest))
    ≡ match_ordering o (ip ∷ entry.0 ∷ keys) (entry.0 ∷ keys) (entry.0 ∷ insert_key ip_cmp keys ip))
    [ Less ↦ refl | Equal ↦ refl | Greater ↦ ap (λ ips. entry.0 ∷ ips) (keys_of-insert_entry held ip frames) ]

waiting_insert : (cache : Table) (held : HeldFrames) (ip : Ip4) (frames : List (List ℕ)) → is_some_few frames ≡ true → is_unknown cache ip ≡ true →
    are_waiting cache held ≡ true → are_waiting cache (insert_entry ip_cmp held ip frames) ≡ true
waiting_insert cache [] ip frames few unknown are = and_from (is_waiting cache (ip, frames)) true (and_from (is_some_few frames) (is_unknown cache ip) few unknown) refl
waiting_insert cache (entry ∷ held) ip frames few unknown are =
    let parts = and_parts (is_waiting cache entry) (are_waiting cache held) are in
    let first = and_parts (is_some_few entry.1) (is_unknown cache entry.0) parts.0 in
    let rest : HeldFrames = insert_entry ip_cmp held ip frames in
    elim (ip_cmp ip entry.0)
    as (λ o. are_waiting cache (match_ordering o ((ip, frames) ∷ entry ∷ held) ((entry.0, frames) ∷ held) (entry ∷ rest)) ≡ true) [
      | Less ↦ and_from (is_waiting cache (ip, frames)) (are_waiting cache (entry ∷ held))
          (and_from (is_some_few frames) (is_unknown cache ip) few unknown) are
      | Equal ↦ and_from (is_waiting cache (entry.0, frames)) (are_waiting cache held)
          (and_from (is_some_few frames) (is_unknown cache entry.0) few first.1) parts.1
      | Greater ↦ and_from (is_waiting cache entry) (are_waiting cache rest) parts.0 (waiting_insert cache held ip frames few unknown parts.1)
    ]

-- one more where there were fewer than the limit
few_more : (frames : List (List ℕ)) (frame : List ℕ) → nat_le hold_limit (length frames) ≡ false → is_some_few (frames ++ frame ∷ []) ≡ true
few_more frames frame fewer =
    let below : length frames < 64 = leb-false 64 (length frames) fewer in
    let more : length (frames ++ frame ∷ []) ≡ length frames + 1 = length-append frames (frame ∷ []) in
    and_from (nat_le 1 (length (frames ++ frame ∷ []))) (nat_le (length (frames ++ frame ∷ [])) hold_limit)
    (le-leb 1 (length (frames ++ frame ∷ [])) (omega arith)) (le-leb (length (frames ++ frame ∷ [])) 64 (omega arith))

orderly_with_held : (view : HostView) (ip : Ip4) (frame : List ℕ) → IsOrderlyHost view → is_unknown view.cache ip ≡ true →
    nat_le hold_limit (length (held_for view.held ip)) ≡ false → IsOrderlyHost (record view { held = with_held view.held ip frame })
orderly_with_held view ip frame is unknown fewer =
    let frames : List (List ℕ) = held_for view.held ip ++ frame ∷ [] in
    record {
      joined = is.joined;
      apart = is.apart;
      held = ap are_rising (keys_of-insert_entry view.held ip frames) ∙ rising_insert ip (keys_of view.held) is.held;
      waiting = waiting_insert view.cache view.held ip frames (few_more (held_for view.held ip) frame fewer) unknown is.waiting;
    }

-- those that are still held once the cache knows more
above_still : (cache : Table) (low : Ip4) (held : HeldFrames) → are_above low (keys_of held) ≡ true → are_above low (keys_of (still_held cache held)) ≡ true
above_still cache low [] above = refl
above_still cache low (entry ∷ held) above =
    let parts = and_parts (nat_lt low.0 entry.0.0) (are_above low (keys_of held)) above in
    let rest = above_still cache low held parts.1 in
    elim (is_unknown cache entry.0) as (λ b. are_above low (keys_of (cond b (entry ∷ still_held cache held) (still_held cache held))) ≡ true)
    [ true ↦ and_from (nat_lt low.0 entry.0.0) (are_above low (keys_of (still_held cache held))) parts.0 rest | false ↦ rest ]

rising_still : (cache : Table) (held : HeldFrames) → are_rising (keys_of held) ≡ true → are_rising (keys_of (still_held cache held)) ≡ true
rising_still cache [] rising = refl
rising_still cache (entry ∷ held) rising =
    let parts = and_parts (are_above entry.0 (keys_of held)) (are_rising (keys_of held)) rising in
    let rest = rising_still cache held parts.1 in
    let keys : List Ip4 = keys_of (still_held cache held) in
    elim (is_unknown cache entry.0) as (λ b. are_rising (keys_of (cond b (entry ∷ still_held cache held) (still_held cache held))) ≡ true)
    [ true ↦ and_from (are_above entry.0 keys) (are_rising keys) (above_still cache entry.0 held parts.0) rest | false ↦ rest ]

waiting_still : (old cache : Table) (held : HeldFrames) → are_waiting old held ≡ true → are_waiting cache (still_held cache held) ≡ true
waiting_still old cache [] are = refl
waiting_still old cache (entry ∷ held) are =
    let parts = and_parts (is_waiting old entry) (are_waiting old held) are in
    let few = (and_parts (is_some_few entry.1) (is_unknown old entry.0) parts.0).0 in
    let rest = waiting_still old cache held parts.1 in
    elim (is_unknown cache entry.0)
    as (λ b. is_unknown cache entry.0 ≡ b → are_waiting cache (cond b (entry ∷ still_held cache held) (still_held cache held)) ≡ true) [
      | true ↦ λ h. and_from (is_waiting cache entry) (are_waiting cache (still_held cache held)) (and_from (is_some_few entry.1) (is_unknown cache entry.0) few h) rest
      | false ↦ λ h. rest
    ] refl

-- the steps, by their parts
orderly_sending : (view : HostView) (frame : List ℕ) → IsOrderlyHost view → IsOrderlyHost (sending view frame).view
orderly_sending view frame is = orderly_having_sent view (frame ∷ []) is

orderly_sending_to : (view : HostView) (ip : Ip4) (frame : List ℕ) → IsOrderlyHost view → nat_le hold_limit (length (held_for view.held ip)) ≡ false →
    IsOrderlyHost (sending_to view ip frame (hardware_of view.cache ip)).view
orderly_sending_to view ip frame is fewer =
    elim (hardware_of view.cache ip) as (λ o. hardware_of view.cache ip ≡ o → IsOrderlyHost (sending_to view ip frame o).view) [
      | None ↦ λ h. orderly_with_held view ip frame is (ap is_none h) fewer
      | Some mac ↦ λ h. orderly_sending view (with_destination frame mac) is
    ] refl

orderly_sending_to_host : (view : HostView) (frame : List ℕ) (host : Option Me) → IsOrderlyHost view → is_full view.held host ≡ false →
    IsOrderlyHost (sending_to_host view frame host).view
orderly_sending_to_host view frame None is fewer = is
orderly_sending_to_host view frame (Some host) is fewer = orderly_sending_to view host.ip frame is fewer

orderly_playing_frame : (view : HostView) (frame : List ℕ) → IsOrderlyHost view →
    (is_group (destination_of frame) ≡ false → is_full view.held (other_host view (destination_of frame)) ≡ false) → IsOrderlyHost (playing_frame view frame).view
orderly_playing_frame view frame is fewer =
    let host : Option Me = other_host view (destination_of frame) in
    elim (is_group (destination_of frame))
    as (λ b. is_group (destination_of frame) ≡ b → IsOrderlyHost (cond b (sending view frame) (sending_to_host view frame host)).view)
    [ true ↦ λ h. orderly_sending view frame is | false ↦ λ h. orderly_sending_to_host view frame host is (fewer h) ] refl

orderly_unless : (view : HostView) (skip : Option Skip) (step : HostStep) → IsOrderlyHost view → (skip ≡ None → IsOrderlyHost step.view) →
    IsOrderlyHost (unless_skipped view skip step).view
orderly_unless view None step is orderly = orderly refl
orderly_unless view (Some skip) step is orderly = is

fewer_if_unskipped : (view : HostView) (frame : List ℕ) (original : ℕ) → skip_of view false frame original ≡ None →
    is_group (destination_of frame) ≡ false → is_full view.held (other_host view (destination_of frame)) ≡ false
unfolding skip_of
fewer_if_unskipped view frame original h one =
    let host : Option Me = other_host view (destination_of frame) in
    let whole = unskipped (nat_lt (length frame) original) skips.CutRecord _ h in
    let long = unskipped (nat_lt (length frame) 14) skips.Short _ whole.1 in
    let short = unskipped (nat_lt 65553 (length frame)) skips.Long _ long.1 in
    let own = unskipped (is_foreign view.me false frame) skips.ForeignSource _ short.1 in
    let other = unskipped (kind_of frame == 0x88b5) skips.ControlType _ own.1 in
    let packet = unskipped (is_arp frame) skips.RecordedArp _ other.1 in
    let to_one : unicast_skip view host ≡ None = ap (λ b. cond b None (unicast_skip view host)) (sym one) ∙ packet.1 in
    let owned = unskipped (is_none host) skips.NoOwner _ to_one in
    (unskipped (is_full view.held host) skips.HoldFull None owned.1).0

orderly_sending_on : (before view : HostView) (answer : Option Arp) → IsOrderlyHost before → view.joined ≡ before.joined → view.held ≡ before.held →
    IsOrderlyHost (sending_on view answer).view
orderly_sending_on before view answer is joined held =
    let frames : List (List ℕ) = option_to_list (option_map reply_frame answer) ++ released_by view.cache view.held in
    let waiting : are_waiting before.cache view.held ≡ true = ap (λ h. are_waiting before.cache h) held ∙ is.waiting in
    let after : HostView = record view { held = still_held view.cache view.held } in
    orderly_having_sent after frames (record {
      joined = ap are_rising joined ∙ is.joined;
      apart = ap are_apart joined ∙ is.apart;
      held = rising_still view.cache view.held (ap (λ h. are_rising (keys_of h)) held ∙ is.held);
      waiting = waiting_still before.cache view.cache view.held waiting;
    })

orderly_hearing : (view : HostView) (packet : Option Arp) → IsOrderlyHost view → IsOrderlyHost (hearing view packet).view
orderly_hearing view None is = is
orderly_hearing view (Some arp) is =
    orderly_sending_on view (record view { cache = table_after view.cache view.me arp }) (answer_to view.me arp) is refl refl

orderly_receiving : (view : HostView) (frame : List ℕ) → IsOrderlyHost view → IsOrderlyHost (receiving view frame).view
orderly_receiving view frame is =
    elim (is_not_joined view (group_of (destination_of frame)))
    as (λ b. IsOrderlyHost (cond b (step_to view [] (Received reception.NotMember)) (hearing view (packet_in frame))).view)
    [ true ↦ is | false ↦ orderly_hearing view (packet_in frame) is ]

orderly_step : (view : HostView) (input : HostInput) → IsOrderlyHost view → IsOrderlyHost (host_step view input).view
orderly_step view Starts is = is
orderly_step view Retries is = is
orderly_step view HasMoved is = is
orderly_step view (Plays frame original) is =
    orderly_unless view (skip_of view false frame original) (playing_frame view frame) is
    (λ h. orderly_playing_frame view frame is (fewer_if_unskipped view frame original h))
orderly_step view (PlaysRaw frame original) is =
    orderly_unless view (skip_of view true frame original) (sending view frame) is (λ h. orderly_sending view frame is)
orderly_step view (Joins group) is = orderly_having_sent view (report_frame view.me group ∷ []) is
orderly_step view (Leaves group) is = orderly_having_sent view (leave_frame view.me group ∷ []) is
orderly_step view (Receives frame) is = orderly_receiving view frame is

pub boot_is_orderly : (me : Me) (table : List Me) → IsOrderlyHost (boot_host me table)
boot_is_orderly me table = record { joined = refl; apart = refl; held = refl; waiting = refl }

pub stays_orderly : (view : HostView) (input : HostInput) (after : HostView) (acts : List HostAct) (answer : HostAnswer) → IsOrderlyHost view →
    host_rule view input after acts answer → IsOrderlyHost after
stays_orderly view input after acts answer is rule = subst (λ (s : HostStep). IsOrderlyHost s.view) rule (orderly_step view input is)
