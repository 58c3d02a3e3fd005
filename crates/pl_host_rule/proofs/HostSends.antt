-- A host sends only data frames of a length that is carried.
use Rattle.std.proofs.Common.{◌≡◌, ℕ, ◌==◌, ◌&&◌, ◌||◌, Bool, true, false, cond, nat_lt, List, [], ◌∷◌, ◌++◌, length, map, unwrap_or, Option, Some, None, is_none, is_some, option_map, Less, Equal, Greater, refl, sym, ap, subst, ◌∙◌, ltb-false}
use Rattle.std.specs.Option.{option_to_list}
use Rattle.std.specs.List.{list_all}
use Rattle.std.specs.Map.{lookup}
use Rattle.std.specs.Ordering.{match_ordering}
use Rattle.std.specs.BTreeMap.{insert_entry}
use Rattle.std.proofs.lemmas.Bool.{and_from, and_parts}
use Rattle.std.proofs.lemmas.Bool.Decides.{Decides-eqb}
use Rattle.pl_frame.specs.declared.address.Mac.{Mac}
use Rattle.pl_frame.specs.declared.address.Ip4.{Ip4}
use Rattle.pl_frame.specs.Ethernet.{destination_of, kind_of, with_destination}
use Rattle.pl_arp.specs.declared.packet.Arp.{Arp}
use Rattle.pl_arp.specs.declared.cache.Me.{Me}
use Rattle.pl_arp.specs.Reception.{Table, answer_to, hardware_of, is_target, same_ip, table_after, with_pair}
use Rattle.pl_node.specs.declared.acts.HostAct.{HostAct}
use Rattle.pl_node.specs.declared.acts.HostAct.TheVariants.{Send}
use Rattle.pl_journal.specs.declared.cause.Skip.{Skip}
use Rattle.pl_journal.specs.declared.cause.Skip.TheVariants as skips
use Rattle.pl_node.specs.declared.reception.Reception.TheVariants as reception
use Rattle.pl_layouts.specs.Frames.{packet_in}
use Rattle.pl_layouts.specs.Memberships.{changes_in, group_of, is_group}
use Rattle.pl_journal.specs.Lossy.{joined_after}
use Rattle.pl_node.specs.HostViews.{has_group, HeldFrames, HostView, boot_host, held_for, ip_cmp, with_held}
use Rattle.pl_layouts.specs.Reports.{membership_frame}
use Rattle.pl_host_rule.specs.HostRule.{HostStep, first_request, having_sent, hearing, holding, host_rule, host_step, is_foreign, is_not_joined, other_host, playing, playing_frame, playing_raw, receiving, released, released_by, reply_frame, report_frame, request_frame, sending, sending_on, sending_to, sending_to_host, skip_of, skipping, start_frame, step_to, still_held, unless_skipped}
use Rattle.pl_node.specs.HostInputs.HostInput.{HasMoved, Joins, Leaves, PlaysRaw, Plays, Receives, Retries, Starts}
use Rattle.pl_node.specs.HostInputs.HostAnswer.{Nothing, Played, Received}
use Rattle.pl_node.specs.HostDuties.{JoinsBySending, joined_by, HoldsData, SendsData, are_data, is_data, sent_by}
use Rattle.pl_node.specs.HostInputs.{HostAnswer, HostInput}
use Rattle.pl_host_rule.proofs.HostGroups.{arp_frame_is_silent, has_group-sent, reports_change_nothing}
use Rattle.pl_host_rule.proofs.HostFrames.{data_append, data_arp_frame, data_from, data_membership_frame, data_one, data_with_destination, data_with_destinations, packet_in-addresses}
use Rattle.pl_layouts.specs.ArpFrames.{broadcast, no_mac}

-- a step, by its view before and what it makes
abbrev Owes : HostView → HostStep → Type 0
Owes before step = SendsData before step.view step.acts × JoinsBySending before step.view step.acts

-- the groups of a host after some frames
abbrev JoinsBy : HostView → HostView → List (List ℕ) → Type 0
JoinsBy before after frames = (n : ℕ) → has_group after.joined n ≡ joined_by frames n (has_group before.joined n)

-- what stays as it was
record Stays (before after : HostView) : Type 0 where
  pub me : after.me ≡ before.me
  pub table : after.table ≡ before.table

pub sent-Send : (frames : List (List ℕ)) → map sent_by (map Send frames) ≡ frames
sent-Send [] = refl
sent-Send (frame ∷ frames) = ap (λ r. frame ∷ r) (sent-Send frames)

owes_step : (before after : HostView) (frames : List (List ℕ)) (answer : HostAnswer) → Stays before after → HoldsData after →
    are_data frames ≡ true → JoinsBy before after frames → Owes before (step_to after frames answer)
owes_step before after frames answer stays holds are joins = (
  record { sends = ap are_data (sent-Send frames) ∙ are; holds = holds; me = stays.me; table = stays.table },
  λ n. joins n ∙ ap (λ fs. joined_by fs n (has_group before.joined n)) (sym (sent-Send frames)),
)

holds_having_sent : (view : HostView) (frames : List (List ℕ)) → HoldsData view → HoldsData (having_sent view frames)
holds_having_sent view frames holds = record { me = holds.me; cache = holds.cache; held = holds.held }

-- what a host makes itself
request_is_data : (view : HostView) (ip : Ip4) → HoldsData view → is_data (request_frame view.me ip) ≡ true
request_is_data view ip holds =
    data_arp_frame broadcast (record { op = 1; sha = view.me.mac; spa = view.me.ip; tha = no_mac; tpa = ip }) refl holds.me refl

requests_are_data : (view : HostView) (held : HeldFrames) → HoldsData view → are_data (map (λ entry. request_frame view.me entry.0) held) ≡ true
requests_are_data view [] holds = refl
requests_are_data view (entry ∷ held) holds =
    and_from (is_data (request_frame view.me entry.0)) (are_data (map (λ entry. request_frame view.me entry.0) held))
    (request_is_data view entry.0 holds) (requests_are_data view held holds)

-- a request says nothing of groups
request_is_silent : (view : HostView) (ip : Ip4) (n : ℕ) (b : Bool) → HoldsData view → joined_after (changes_in (request_frame view.me ip)) n b ≡ b
request_is_silent view ip n b holds =
    ap (λ changes. joined_after changes n b)
    (arp_frame_is_silent broadcast (record { op = 1; sha = view.me.mac; spa = view.me.ip; tha = no_mac; tpa = ip }) refl holds.me)

requests_are_silent : (view : HostView) (held : HeldFrames) (n : ℕ) (b : Bool) → HoldsData view →
    joined_by (map (λ entry. request_frame view.me entry.0) held) n b ≡ b
requests_are_silent view [] n b holds = refl
requests_are_silent view (entry ∷ held) n b holds =
    ap (λ c. joined_by (map (λ entry. request_frame view.me entry.0) held) n c) (request_is_silent view entry.0 n b holds)
    ∙ requests_are_silent view held n b holds

report_is_data : (view : HostView) (group : Ip4) (join : Bool) → HoldsData view →
    is_data (membership_frame view.me (record { group = group; join = join })) ≡ true
report_is_data view group join holds = data_membership_frame view.me (record { group = group; join = join }) holds.me

reports_are_data : (view : HostView) (joined : List Ip4) → HoldsData view → are_data (map (report_frame view.me) joined) ≡ true
reports_are_data view [] holds = refl
reports_are_data view (group ∷ joined) holds =
    and_from (is_data (report_frame view.me group)) (are_data (map (report_frame view.me) joined))
    (report_is_data view group true holds) (reports_are_data view joined holds)

-- the cache
abbrev pub is_six : Ip4 × Mac → Bool
is_six entry = length entry.1.0 == 6

abbrev pub are_six : Table → Bool
are_six cache = list_all is_six cache

six_true : (ip : Ip4) (mac : Mac) → length mac.0 ≡ 6 → is_six (ip, mac) ≡ true
six_true ip mac long = (Decides-eqb (length mac.0) 6).1 long

pub knows_six : (cache : Table) (ip : Ip4) (mac : Mac) → are_six cache ≡ true → hardware_of cache ip ≡ Some mac → length mac.0 ≡ 6
knows_six [] ip mac six has = absurd (cc)
knows_six (entry ∷ cache) ip mac six has =
    let parts = and_parts (is_six entry) (are_six cache) six in
    elim (same_ip ip entry.0) as (λ b. cond b (Some entry.1) (hardware_of cache ip) ≡ Some mac → length mac.0 ≡ 6) [
      | true ↦ λ h. let same : entry.1 ≡ mac = cc in ap (λ (m : Mac). length m.0) (sym same) ∙ (Decides-eqb (length entry.1.0) 6).0 parts.0
      | false ↦ λ h. knows_six cache ip mac parts.1 h
    ] has

six_with_pair : (cache : Table) (ip : Ip4) (mac : Mac) → length mac.0 ≡ 6 → are_six cache ≡ true → are_six (with_pair cache ip mac) ≡ true
six_with_pair [] ip mac long six = and_from (is_six (ip, mac)) true (six_true ip mac long) refl
six_with_pair (entry ∷ cache) ip mac long six =
    let parts = and_parts (is_six entry) (are_six cache) six in
    elim (same_ip ip entry.0) as (λ b. are_six (cond b ((entry.0, mac) ∷ cache) (entry ∷ with_pair cache ip mac)) ≡ true) [
      | true ↦ and_from (is_six (entry.0, mac)) (are_six cache) (six_true entry.0 mac long) parts.1
      | false ↦ and_from (is_six entry) (are_six (with_pair cache ip mac)) parts.0 (six_with_pair cache ip mac long parts.1)
    ]

pub six_after : (cache : Table) (me : Me) (arp : Arp) → length arp.sha.0 ≡ 6 → are_six cache ≡ true → are_six (table_after cache me arp) ≡ true
six_after cache me arp long six =
    elim (is_some (hardware_of cache arp.spa) || is_target me arp)
    as (λ b. are_six (cond b (with_pair cache arp.spa arp.sha) cache) ≡ true)
    [ true ↦ six_with_pair cache arp.spa arp.sha long six | false ↦ six ]

-- the held frames
abbrev entry_is_data : Ip4 × List (List ℕ) → Bool
entry_is_data entry = are_data entry.1

abbrev held_are_data : HeldFrames → Bool
held_are_data held = list_all entry_is_data held

data_held_for : (held : HeldFrames) (ip : Ip4) → held_are_data held ≡ true → are_data (held_for held ip) ≡ true
data_held_for [] ip are = refl
data_held_for (entry ∷ held) ip are =
    let parts = and_parts (are_data entry.1) (held_are_data held) are in
    elim (same_ip ip entry.0) as (λ b. are_data (unwrap_or (cond b (Some entry.1) (lookup (same_ip ip) held)) []) ≡ true)
    [ true ↦ parts.0 | false ↦ data_held_for held ip parts.1 ]

data_inserted : (held : HeldFrames) (ip : Ip4) (frames : List (List ℕ)) → are_data frames ≡ true → held_are_data held ≡ true →
    held_are_data (insert_entry ip_cmp held ip frames) ≡ true
data_inserted [] ip frames are all = and_from (are_data frames) true are refl
data_inserted (entry ∷ held) ip frames are all =
    let parts = and_parts (are_data entry.1) (held_are_data held) all in
    let rest : HeldFrames = insert_entry ip_cmp held ip frames in
    elim (ip_cmp ip entry.0)
    as (λ o. held_are_data (match_ordering o ((ip, frames) ∷ entry ∷ held) ((entry.0, frames) ∷ held) (entry ∷ rest)) ≡ true) [
      | Less ↦ and_from (are_data frames) (held_are_data (entry ∷ held)) are all
      | Equal ↦ and_from (are_data frames) (held_are_data held) are parts.1
      | Greater ↦ and_from (are_data entry.1) (held_are_data rest) parts.0 (data_inserted held ip frames are parts.1)
    ]

data_with_held : (held : HeldFrames) (ip : Ip4) (frame : List ℕ) → is_data frame ≡ true → held_are_data held ≡ true → held_are_data (with_held held ip frame) ≡ true
data_with_held held ip frame is are =
    data_inserted held ip (held_for held ip ++ frame ∷ [])
    (data_append (held_for held ip) (frame ∷ []) (data_held_for held ip are) (data_one frame is)) are

data_still_held : (cache : Table) (held : HeldFrames) → held_are_data held ≡ true → held_are_data (still_held cache held) ≡ true
data_still_held cache [] are = refl
data_still_held cache (entry ∷ held) are =
    let parts = and_parts (are_data entry.1) (held_are_data held) are in
    let rest = data_still_held cache held parts.1 in
    elim (is_none (hardware_of cache entry.0)) as (λ b. held_are_data (cond b (entry ∷ still_held cache held) (still_held cache held)) ≡ true)
    [ true ↦ and_from (are_data entry.1) (held_are_data (still_held cache held)) parts.0 rest | false ↦ rest ]

data_released : (frames : List (List ℕ)) (cache : Table) (ip : Ip4) → are_six cache ≡ true → are_data frames ≡ true →
    are_data (released frames (hardware_of cache ip)) ≡ true
data_released frames cache ip six are =
    elim (hardware_of cache ip) as (λ o. hardware_of cache ip ≡ o → are_data (released frames o) ≡ true)
    [ None ↦ λ h. refl | Some mac ↦ λ h. data_with_destinations frames mac (knows_six cache ip mac six h) are ] refl

data_released_by : (cache : Table) (held : HeldFrames) → are_six cache ≡ true → held_are_data held ≡ true → are_data (released_by cache held) ≡ true
data_released_by cache [] six are = refl
data_released_by cache (entry ∷ held) six are =
    let parts = and_parts (are_data entry.1) (held_are_data held) are in
    data_append (released entry.1 (hardware_of cache entry.0)) (released_by cache held)
    (data_released entry.1 cache entry.0 six parts.0) (data_released_by cache held six parts.1)

-- the steps, by their parts
same : (view : HostView) → Stays view view
same view = record { me = refl; table = refl }

owes_skipping : (view : HostView) (skip : Skip) → HoldsData view → Owes view (skipping view skip)
owes_skipping view skip holds = owes_step view view [] (Played (Some skip)) (same view) holds refl (λ n. refl)

owes_sending : (view : HostView) (frame : List ℕ) → HoldsData view → is_data frame ≡ true → Owes view (sending view frame)
owes_sending view frame holds is =
    owes_step view (having_sent view (frame ∷ [])) (frame ∷ []) (Played None)
    (record { me = refl; table = refl }) (holds_having_sent view (frame ∷ []) holds) (data_one frame is)
    (has_group-sent (frame ∷ []) view.joined)

first_request_is_data : (view : HostView) (ip : Ip4) → HoldsData view → are_data (first_request view ip) ≡ true
first_request_is_data view ip holds =
    elim (length (held_for view.held ip) == 0) as (λ b. are_data (cond b (request_frame view.me ip ∷ []) []) ≡ true)
    [ true ↦ data_one (request_frame view.me ip) (request_is_data view ip holds) | false ↦ refl ]

first_request_is_silent : (view : HostView) (ip : Ip4) (n : ℕ) (b : Bool) → HoldsData view → joined_by (first_request view ip) n b ≡ b
first_request_is_silent view ip n b holds =
    elim (length (held_for view.held ip) == 0) as (λ c. joined_by (cond c (request_frame view.me ip ∷ []) []) n b ≡ b)
    [ true ↦ request_is_silent view ip n b holds | false ↦ refl ]

owes_holding : (view : HostView) (ip : Ip4) (frame : List ℕ) → HoldsData view → is_data frame ≡ true → Owes view (holding view ip frame)
owes_holding view ip frame holds is =
    owes_step view (record view { held = with_held view.held ip frame }) (first_request view ip) (Played None)
    (record { me = refl; table = refl })
    (record { me = holds.me; cache = holds.cache; held = data_with_held view.held ip frame is holds.held })
    (first_request_is_data view ip holds)
    (λ n. sym (first_request_is_silent view ip n (has_group view.joined n) holds))

owes_sending_to : (view : HostView) (ip : Ip4) (frame : List ℕ) → HoldsData view → is_data frame ≡ true →
    Owes view (sending_to view ip frame (hardware_of view.cache ip))
owes_sending_to view ip frame holds is =
    elim (hardware_of view.cache ip) as (λ o. hardware_of view.cache ip ≡ o → Owes view (sending_to view ip frame o)) [
      | None ↦ λ h. owes_holding view ip frame holds is
      | Some mac ↦ λ h. owes_sending view (with_destination frame mac) holds
          (data_with_destination frame mac (knows_six view.cache ip mac holds.cache h) is)
    ] refl

owes_sending_to_host : (view : HostView) (frame : List ℕ) (host : Option Me) → HoldsData view → is_data frame ≡ true →
    Owes view (sending_to_host view frame host)
owes_sending_to_host view frame None holds is = owes_skipping view skips.NoOwner holds
owes_sending_to_host view frame (Some host) holds is = owes_sending_to view host.ip frame holds is

owes_playing_frame : (view : HostView) (frame : List ℕ) → HoldsData view → is_data frame ≡ true → Owes view (playing_frame view frame)
owes_playing_frame view frame holds is =
    let host : Option Me = other_host view (destination_of frame) in
    elim (is_group (destination_of frame)) as (λ b. Owes view (cond b (sending view frame) (sending_to_host view frame host)))
    [ true ↦ owes_sending view frame holds is | false ↦ owes_sending_to_host view frame host holds is ]

owes_unless : (view : HostView) (skip : Option Skip) (step : HostStep) → HoldsData view → (skip ≡ None → Owes view step) →
    Owes view (unless_skipped view skip step)
owes_unless view None step holds owed = owed refl
owes_unless view (Some skip) step holds owed = owes_skipping view skip holds

-- nothing speaks against a frame, so it is one that is carried
pub unskipped : (b : Bool) (skip : Skip) (rest : Option Skip) → cond b (Some skip) rest ≡ None → (b ≡ false) × (rest ≡ None)
unskipped true skip rest h = absurd (cc)
unskipped false skip rest h = (refl, h)

data_unskipped : (view : HostView) (raw : Bool) (frame : List ℕ) (original : ℕ) → skip_of view raw frame original ≡ None → is_data frame ≡ true
unfolding skip_of
data_unskipped view raw frame original h =
    let whole = unskipped (nat_lt (length frame) original) skips.CutRecord _ h in
    let long = unskipped (nat_lt (length frame) 14) skips.Short _ whole.1 in
    let short = unskipped (nat_lt 65553 (length frame)) skips.Long _ long.1 in
    let own = unskipped (is_foreign view.me raw frame) skips.ForeignSource _ short.1 in
    let other = unskipped (kind_of frame == 0x88b5) skips.ControlType _ own.1 in
    data_from frame (ltb-false (length frame) 14 long.0) (ltb-false 65553 (length frame) short.0) other.0

owes_playing : (view : HostView) (frame : List ℕ) (original : ℕ) → HoldsData view → Owes view (playing view frame original)
owes_playing view frame original holds =
    owes_unless view (skip_of view false frame original) (playing_frame view frame) holds
    (λ h. owes_playing_frame view frame holds (data_unskipped view false frame original h))

owes_playing_raw : (view : HostView) (frame : List ℕ) (original : ℕ) → HoldsData view → Owes view (playing_raw view frame original)
owes_playing_raw view frame original holds =
    owes_unless view (skip_of view true frame original) (sending view frame) holds
    (λ h. owes_sending view frame holds (data_unskipped view true frame original h))

owes_telling : (view : HostView) (group : Ip4) (join : Bool) → HoldsData view →
    let frame : List ℕ = membership_frame view.me (record { group = group; join = join }) in
    Owes view (step_to (having_sent view (frame ∷ [])) (frame ∷ []) Nothing)
owes_telling view group join holds =
    let frame : List ℕ = membership_frame view.me (record { group = group; join = join }) in
    owes_step view (having_sent view (frame ∷ [])) (frame ∷ []) Nothing
    (record { me = refl; table = refl }) (holds_having_sent view (frame ∷ []) holds) (data_one frame (report_is_data view group join holds))
    (has_group-sent (frame ∷ []) view.joined)

-- what arrives
answer_is_data : (me : Me) (arp : Arp) → length me.mac.0 ≡ 6 → length arp.sha.0 ≡ 6 →
    are_data (option_to_list (option_map reply_frame (answer_to me arp))) ≡ true
answer_is_data me arp six sha =
    let reply : Arp = record { op = 2; sha = me.mac; spa = me.ip; tha = arp.sha; tpa = arp.spa } in
    elim (is_target me arp && (arp.op == 1)) as (λ b. are_data (option_to_list (option_map reply_frame (cond b (Some reply) None))) ≡ true)
    [ true ↦ data_one (reply_frame reply) (data_arp_frame arp.sha reply sha six sha) | false ↦ refl ]

owes_sending_on : (before view : HostView) (answer : Option Arp) → Stays before view → view.joined ≡ before.joined → HoldsData view →
    are_data (option_to_list (option_map reply_frame answer)) ≡ true → Owes before (sending_on view answer)
owes_sending_on before view answer stays groups holds are =
    let frames : List (List ℕ) = option_to_list (option_map reply_frame answer) ++ released_by view.cache view.held in
    let after : HostView = record view { held = still_held view.cache view.held } in
    let holds_after : HoldsData after = record { me = holds.me; cache = holds.cache; held = data_still_held view.cache view.held holds.held } in
    owes_step before (having_sent after frames) frames (Received reception.Kept)
    (record { me = stays.me; table = stays.table }) (holds_having_sent after frames holds_after)
    (data_append (option_to_list (option_map reply_frame answer)) (released_by view.cache view.held) are
    (data_released_by view.cache view.held holds.cache holds.held))
    (λ n. has_group-sent frames view.joined n ∙ ap (λ joined. joined_by frames n (has_group joined n)) groups)

owes_learning : (view : HostView) (arp : Arp) → HoldsData view → length arp.sha.0 ≡ 6 → Owes view (hearing view (Some arp))
owes_learning view arp holds sha =
    owes_sending_on view (record view { cache = table_after view.cache view.me arp }) (answer_to view.me arp)
    (record { me = refl; table = refl }) refl
    (record { me = holds.me; cache = six_after view.cache view.me arp sha holds.cache; held = holds.held })
    (answer_is_data view.me arp holds.me sha)

owes_hearing : (view : HostView) (frame : List ℕ) → HoldsData view → Owes view (hearing view (packet_in frame))
owes_hearing view frame holds =
    elim (packet_in frame) as (λ o. packet_in frame ≡ o → Owes view (hearing view o)) [
      | None ↦ λ h. owes_step view view [] (Received reception.Kept) (same view) holds refl (λ n. refl)
      | Some arp ↦ λ h. owes_learning view arp holds (packet_in-addresses frame arp h).sha
    ] refl

owes_receiving : (view : HostView) (frame : List ℕ) → HoldsData view → Owes view (receiving view frame)
owes_receiving view frame holds =
    elim (is_not_joined view (group_of (destination_of frame)))
    as (λ b. Owes view (cond b (step_to view [] (Received reception.NotMember)) (hearing view (packet_in frame))))
    [ true ↦ owes_step view view [] (Received reception.NotMember) (same view) holds refl (λ n. refl) | false ↦ owes_hearing view frame holds ]

-- after a move a host is in its groups as before
moved_groups : (view : HostView) (n : ℕ) → HoldsData view →
    joined_by (start_frame view.me ∷ map (report_frame view.me) view.joined) n (has_group view.joined n) ≡ has_group view.joined n
moved_groups view n holds =
    let b : Bool = has_group view.joined n in
    ap (λ c. joined_by (map (report_frame view.me) view.joined) n c) (request_is_silent view view.me.ip n b holds)
    ∙ reports_change_nothing view.me view.joined n b holds.me (λ h. h)

owes_host_step : (view : HostView) (input : HostInput) → HoldsData view → Owes view (host_step view input)
owes_host_step view Starts holds =
    owes_step view view (start_frame view.me ∷ []) Nothing (same view) holds (data_one (start_frame view.me) (request_is_data view view.me.ip holds))
    (λ n. sym (request_is_silent view view.me.ip n (has_group view.joined n) holds))
owes_host_step view Retries holds =
    owes_step view view (map (λ entry. request_frame view.me entry.0) view.held) Nothing (same view) holds (requests_are_data view view.held holds)
    (λ n. sym (requests_are_silent view view.held n (has_group view.joined n) holds))
owes_host_step view HasMoved holds =
    owes_step view view (start_frame view.me ∷ map (report_frame view.me) view.joined) Nothing (same view) holds
    (data_append (start_frame view.me ∷ []) (map (report_frame view.me) view.joined)
    (data_one (start_frame view.me) (request_is_data view view.me.ip holds)) (reports_are_data view view.joined holds))
    (λ n. sym (moved_groups view n holds))
owes_host_step view (Plays frame original) holds = owes_playing view frame original holds
owes_host_step view (PlaysRaw frame original) holds = owes_playing_raw view frame original holds
owes_host_step view (Joins group) holds = owes_telling view group true holds
owes_host_step view (Leaves group) holds = owes_telling view group false holds
owes_host_step view (Receives frame) holds = owes_receiving view frame holds

pub boot_holds : (me : Me) (table : List Me) → length me.mac.0 ≡ 6 → HoldsData (boot_host me table)
boot_holds me table six = record { me = six; cache = refl; held = refl }

owes_by_rule : (view : HostView) (input : HostInput) (after : HostView) (acts : List HostAct) (answer : HostAnswer) → HoldsData view →
    host_rule view input after acts answer → SendsData view after acts × JoinsBySending view after acts
owes_by_rule view input after acts answer holds rule = subst (λ (s : HostStep). Owes view s) rule (owes_host_step view input holds)

pub owes_sends : (view : HostView) (input : HostInput) (after : HostView) (acts : List HostAct) (answer : HostAnswer) → HoldsData view →
    host_rule view input after acts answer → SendsData view after acts
owes_sends view input after acts answer holds rule = (owes_by_rule view input after acts answer holds rule).0

pub joins_by_sending : (view : HostView) (input : HostInput) (after : HostView) (acts : List HostAct) (answer : HostAnswer) → HoldsData view →
    host_rule view input after acts answer → JoinsBySending view after acts
joins_by_sending view input after acts answer holds rule = (owes_by_rule view input after acts answer holds rule).1
