-- A host sends frames under its own addresses alone.
use Rattle.std.proofs.Common.{◌≡◌, ℕ, ◌+◌, ◌^◌, ◌<◌, ◌==◌, ◌&&◌, ◌||◌, not, Bool, true, false, cond, nat_lt, if◌then◌else◌, List, [], ◌∷◌, ◌++◌, length, take, drop, map, unwrap_or, Option, Some, None, is_none, option_map, Err, Ok, Less, Equal, Greater, refl, sym, ap, subst, ◌∙◌, arith}
use Rattle.std.specs.Result.{result_ok}
use Rattle.std.specs.Str.{bytes_eq}
use Rattle.std.specs.Option.{option_to_list}
use Rattle.std.specs.List.{list_all}
use Rattle.std.specs.Map.{lookup}
use Rattle.std.specs.Ordering.{match_ordering}
use Rattle.std.specs.BTreeMap.{insert_entry}
use Rattle.std.proofs.lemmas.Bool.{and_from, and_parts}
use Rattle.std.proofs.lemmas.Bool.Decides.{Decides-eqb}
use Rattle.std.proofs.lemmas.List.{drop-drop}
use Rattle.std.proofs.lemmas.List.Folds.{list_all-append}
use Rattle.std.proofs.lemmas.Slice.Eq.{bytes_eq-Decides}
use Rattle.byteorder.specs.Endian.{big_number, big_bytes}
use Rattle.byteorder.specs.Numbers.{big_number-reads_back}
use Rattle.pl_frame.specs.declared.address.Mac.{Mac}
use Rattle.pl_frame.specs.declared.address.Ip4.{Ip4}
use Rattle.pl_frame.specs.Ethernet.{Fields, destination_of, frame_of, kind_of, payload_of, source_of, with_destination}
use Rattle.pl_frame.proofs.Exports.{fields_of-frame_of, front_of, rest_of}
use Rattle.pl_arp.specs.declared.packet.Arp.{Arp}
use Rattle.pl_arp.specs.declared.packet.ArpError.{ArpError}
use Rattle.pl_arp.specs.declared.packet.ArpError.TheVariants.{Cut, OtherKind}
use Rattle.pl_arp.specs.declared.cache.Me.{Me}
use Rattle.pl_arp.specs.Packet.{arp_in, ethernet_ipv4, fields_at_front, layout}
use Rattle.pl_arp.specs.Reception.{Table, answer_to, hardware_of, is_target, same_ip, table_after}
use Rattle.pl_node.specs.declared.acts.HostAct.{HostAct}
use Rattle.pl_journal.specs.declared.cause.Skip.{Skip}
use Rattle.pl_journal.specs.declared.cause.Skip.TheVariants as skips
use Rattle.pl_node.specs.declared.reception.Reception.{Reception}
use Rattle.pl_node.specs.declared.reception.Reception.TheVariants as reception
use Rattle.pl_layouts.specs.declared.membership.Change.{Change}
use Rattle.pl_layouts.specs.ArpFrames.{arp_frame, broadcast, no_mac}
use Rattle.pl_layouts.specs.Equality.{same_mac}
use Rattle.pl_layouts.specs.Frames.{is_arp, packet_in}
use Rattle.pl_layouts.specs.Memberships.{group_of, is_group}
use Rattle.pl_layouts.specs.Reports.{group_mac, header_of, membership_frame, message_of_change, receiver_of}
use Rattle.pl_layouts.proofs.Exports.{mac_itself}
use Rattle.pl_node.specs.HostDuties.{HoldsData, HoldsOwn, SendsOwn, are_own, is_of, is_own}
use Rattle.pl_node.specs.HostInputs.{HostAnswer, HostInput}
use Rattle.pl_node.specs.HostViews.{HeldFrames, HostView, boot_host, has_group, held_for, ip_cmp, with_held}
use Rattle.pl_host_rule.specs.HostRule.{HostStep, first_request, having_sent, hearing, holding, host_rule, host_step, is_foreign, is_not_joined, other_host, playing, playing_frame, playing_raw, receiving, released, released_by, reply_frame, report_frame, request_frame, sending, sending_to, sending_to_host, skip_of, skipping, start_frame, step_to, still_held, unless_skipped}
use Rattle.pl_node.specs.HostInputs.HostInput.{HasMoved, Joins, Leaves, PlaysRaw, Plays, Receives, Retries, Starts}
use Rattle.pl_node.specs.HostInputs.HostAnswer.{Nothing, Played, Received}
use Rattle.pl_host_rule.proofs.HostFrames.{packet_in-addresses}
use Rattle.pl_host_rule.proofs.HostSends.{knows_six, sent-Send, six_after, unskipped}
use Rattle.pl_journal.specs.Causes.{is_routed}

-- a frame by its fields
abbrev packet_by : ℕ → List ℕ → Option Arp
packet_by kind payload = if kind == 0x0806 then result_ok (arp_in payload) else None

abbrev own_by : Me → Fields → Bool
own_by me f = same_mac f.src me.mac && is_of me (packet_by f.kind f.payload)

own_frame_of : (me : Me) (f : Fields) → length f.dst.0 ≡ 6 → length f.src.0 ≡ 6 → f.kind < 2 ^ 16 → own_by me f ≡ true → is_own me (frame_of f) ≡ true
own_frame_of me f six six' small own = ap (own_by me) (fields_of-frame_of f six six' small) ∙ own

own_parts : (me : Me) (f : Fields) → f.src ≡ me.mac → is_of me (packet_by f.kind f.payload) ≡ true → own_by me f ≡ true
own_parts me f src of =
    and_from (same_mac f.src me.mac) (is_of me (packet_by f.kind f.payload)) (ap (λ mac. same_mac mac me.mac) src ∙ mac_itself me.mac) of

-- a packet that is read, whatever speaks against it
of_read : (me : Me) (short strange : Bool) (a b : ArpError) (arp : Arp) → is_of me (Some arp) ≡ true →
    is_of me (result_ok (cond short (Err a) (cond strange (Err b) (Ok arp)))) ≡ true
of_read me true strange a b arp of = refl
of_read me false true a b arp of = refl
of_read me false false a b arp of = of

abbrev packet : Me → ℕ → Mac → Ip4 → Arp
packet me op tha tpa = record { op = op; sha = me.mac; spa = me.ip; tha = tha; tpa = tpa }

of_layout : (me : Me) (op : ℕ) (tha : Mac) (tpa : Ip4) → length me.mac.0 ≡ 6 → me.ip.0 < 2 ^ 32 →
    is_of me (result_ok (arp_in (layout (packet me op tha tpa)))) ≡ true
of_layout me op tha tpa six small =
    let payload : List ℕ = layout (packet me op tha tpa) in
    let after_spa : List ℕ = tha.0 ++ big_bytes 4 tpa.0 in
    let after_sha : List ℕ = big_bytes 4 me.ip.0 ++ after_spa in
    let sha : take 6 (drop 8 payload) ≡ me.mac.0 = front_of 6 me.mac.0 after_sha six in
    let behind : drop 14 payload ≡ after_sha = rest_of 6 me.mac.0 after_sha six in
    let spa : big_number 4 (drop 14 payload) ≡ me.ip.0 = ap (big_number 4) behind ∙ big_number-reads_back 4 me.ip.0 after_spa small in
    of_read me (nat_lt (length payload) 28) (not (bytes_eq (take 6 payload) ethernet_ipv4)) Cut OtherKind (fields_at_front payload)
    (and_from (bytes_eq (take 6 (drop 8 payload)) me.mac.0) (big_number 4 (drop 14 payload) == me.ip.0)
    ((bytes_eq-Decides (take 6 (drop 8 payload)) me.mac.0).1 sha) ((Decides-eqb (big_number 4 (drop 14 payload)) me.ip.0).1 spa))

-- what a host makes itself
own_arp_frame : (me : Me) (to : Mac) (op : ℕ) (tha : Mac) (tpa : Ip4) → length to.0 ≡ 6 → length me.mac.0 ≡ 6 → me.ip.0 < 2 ^ 32 →
    is_own me (arp_frame to (packet me op tha tpa)) ≡ true
unfolding arp_frame
own_arp_frame me to op tha tpa six six' small =
    let f : Fields = record { dst = to; src = me.mac; kind = 0x0806; payload = layout (packet me op tha tpa) } in
    own_frame_of me f six six' (omega arith) (own_parts me f refl (of_layout me op tha tpa six' small))

own_membership_frame : (me : Me) (change : Change) → length me.mac.0 ≡ 6 → is_own me (membership_frame me change) ≡ true
own_membership_frame me change six =
    let f : Fields = record {
      dst = group_mac (receiver_of change);
      src = me.mac;
      kind = 0x0800;
      payload = header_of me.ip.0 (receiver_of change) ++ message_of_change change;
    } in
    own_frame_of me f refl six (omega arith) (own_parts me f refl refl)

-- what is asked of a frame stands behind its destination
own_behind : (me : Me) (a b : List ℕ) → drop 6 a ≡ drop 6 b → is_own me a ≡ is_own me b
own_behind me a b same =
    let twelve : drop 12 a ≡ drop 12 b = sym (drop-drop 6 6 a) ∙ ap (drop 6) same ∙ drop-drop 6 6 b in
    let fourteen : drop 14 a ≡ drop 14 b = sym (drop-drop 8 6 a) ∙ ap (drop 8) same ∙ drop-drop 8 6 b in
    ap (λ s. bytes_eq (take 6 s) me.mac.0 && is_of me (packet_by (kind_of a) (payload_of a))) same
    ∙ ap (λ k. bytes_eq (take 6 (drop 6 b)) me.mac.0 && is_of me (packet_by (big_number 2 k) (payload_of a))) twelve
    ∙ ap (λ p. bytes_eq (take 6 (drop 6 b)) me.mac.0 && is_of me (packet_by (kind_of b) p)) fourteen

own_with_destination : (me : Me) (frame : List ℕ) (mac : Mac) → length mac.0 ≡ 6 → is_own me frame ≡ true → is_own me (with_destination frame mac) ≡ true
own_with_destination me frame mac six own = own_behind me (with_destination frame mac) frame (rest_of 6 mac.0 (drop 6 frame) six) ∙ own

own_one : (me : Me) (frame : List ℕ) → is_own me frame ≡ true → are_own me (frame ∷ []) ≡ true
own_one me frame own = and_from (is_own me frame) true own refl

own_append : (me : Me) (front rest : List (List ℕ)) → are_own me front ≡ true → are_own me rest ≡ true → are_own me (front ++ rest) ≡ true
own_append me front rest h k = list_all-append (is_own me) front rest ∙ and_from (are_own me front) (are_own me rest) h k

own_with_destinations : (me : Me) (frames : List (List ℕ)) (mac : Mac) → length mac.0 ≡ 6 → are_own me frames ≡ true →
    are_own me (map (λ frame. with_destination frame mac) frames) ≡ true
own_with_destinations me [] mac six own = refl
own_with_destinations me (frame ∷ frames) mac six own =
    let parts = and_parts (is_own me frame) (are_own me frames) own in
    and_from (is_own me (with_destination frame mac)) (are_own me (map (λ frame. with_destination frame mac) frames))
    (own_with_destination me frame mac six parts.0) (own_with_destinations me frames mac six parts.1)

-- what a host knows of its own addresses
record HasAddresses (me : Me) : Type 0 where
  pub mac : length me.mac.0 ≡ 6
  pub ip : me.ip.0 < 2 ^ 32

own_request : (me : Me) (ip : Ip4) → HasAddresses me → is_own me (request_frame me ip) ≡ true
own_request me ip has = own_arp_frame me broadcast 1 no_mac ip refl has.mac has.ip

own_requests : (me : Me) (held : HeldFrames) → HasAddresses me → are_own me (map (λ entry. request_frame me entry.0) held) ≡ true
own_requests me [] has = refl
own_requests me (entry ∷ held) has =
    and_from (is_own me (request_frame me entry.0)) (are_own me (map (λ entry. request_frame me entry.0) held))
    (own_request me entry.0 has) (own_requests me held has)

own_reports : (me : Me) (joined : List Ip4) → HasAddresses me → are_own me (map (report_frame me) joined) ≡ true
own_reports me [] has = refl
own_reports me (group ∷ joined) has =
    and_from (is_own me (report_frame me group)) (are_own me (map (report_frame me) joined))
    (own_membership_frame me (record { group = group; join = true }) has.mac) (own_reports me joined has)

own_reply : (me : Me) (arp : Arp) → HasAddresses me → length arp.sha.0 ≡ 6 → are_own me (option_to_list (option_map reply_frame (answer_to me arp))) ≡ true
own_reply me arp has sha =
    let reply : Arp = packet me 2 arp.sha arp.spa in
    elim (is_target me arp && (arp.op == 1)) as (λ b. are_own me (option_to_list (option_map reply_frame (cond b (Some reply) None))) ≡ true)
    [ true ↦ own_one me (reply_frame reply) (own_arp_frame me arp.sha 2 arp.sha arp.spa sha has.mac has.ip) | false ↦ refl ]

-- the held frames
abbrev held_own : Me → HeldFrames → Bool
held_own me held = list_all (λ entry. are_own me entry.1) held

own_held_for : (me : Me) (held : HeldFrames) (ip : Ip4) → held_own me held ≡ true → are_own me (held_for held ip) ≡ true
own_held_for me [] ip own = refl
own_held_for me (entry ∷ held) ip own =
    let parts = and_parts (are_own me entry.1) (held_own me held) own in
    elim (same_ip ip entry.0) as (λ b. are_own me (unwrap_or (cond b (Some entry.1) (lookup (same_ip ip) held)) []) ≡ true)
    [ true ↦ parts.0 | false ↦ own_held_for me held ip parts.1 ]

own_inserted : (me : Me) (held : HeldFrames) (ip : Ip4) (frames : List (List ℕ)) → are_own me frames ≡ true → held_own me held ≡ true →
    held_own me (insert_entry ip_cmp held ip frames) ≡ true
own_inserted me [] ip frames own all = and_from (are_own me frames) true own refl
own_inserted me (entry ∷ held) ip frames own all =
    let parts = and_parts (are_own me entry.1) (held_own me held) all in
    let rest : HeldFrames = insert_entry ip_cmp held ip frames in
    elim (ip_cmp ip entry.0)
    as (λ o. held_own me (match_ordering o ((ip, frames) ∷ entry ∷ held) ((entry.0, frames) ∷ held) (entry ∷ rest)) ≡ true) [
      | Less ↦ and_from (are_own me frames) (held_own me (entry ∷ held)) own all
      | Equal ↦ and_from (are_own me frames) (held_own me held) own parts.1
      | Greater ↦ and_from (are_own me entry.1) (held_own me rest) parts.0 (own_inserted me held ip frames own parts.1)
    ]

own_with_held : (me : Me) (held : HeldFrames) (ip : Ip4) (frame : List ℕ) → is_own me frame ≡ true → held_own me held ≡ true →
    held_own me (with_held held ip frame) ≡ true
own_with_held me held ip frame own all =
    own_inserted me held ip (held_for held ip ++ frame ∷ [])
    (own_append me (held_for held ip) (frame ∷ []) (own_held_for me held ip all) (own_one me frame own)) all

own_still_held : (me : Me) (cache : Table) (held : HeldFrames) → held_own me held ≡ true → held_own me (still_held cache held) ≡ true
own_still_held me cache [] own = refl
own_still_held me cache (entry ∷ held) own =
    let parts = and_parts (are_own me entry.1) (held_own me held) own in
    let rest = own_still_held me cache held parts.1 in
    elim (is_none (hardware_of cache entry.0)) as (λ b. held_own me (cond b (entry ∷ still_held cache held) (still_held cache held)) ≡ true)
    [ true ↦ and_from (are_own me entry.1) (held_own me (still_held cache held)) parts.0 rest | false ↦ rest ]

-- the cache has hardware addresses of six bytes
abbrev HasSix : Table → Type 0
HasSix cache = list_all (λ (entry : Ip4 × Mac). length entry.1.0 == 6) cache ≡ true

own_released : (me : Me) (frames : List (List ℕ)) (cache : Table) (ip : Ip4) → HasSix cache → are_own me frames ≡ true →
    are_own me (released frames (hardware_of cache ip)) ≡ true
own_released me frames cache ip six own =
    elim (hardware_of cache ip) as (λ o. hardware_of cache ip ≡ o → are_own me (released frames o) ≡ true)
    [ None ↦ λ h. refl | Some mac ↦ λ h. own_with_destinations me frames mac (knows_six cache ip mac six h) own ] refl

own_released_by : (me : Me) (cache : Table) (held : HeldFrames) → HasSix cache → held_own me held ≡ true → are_own me (released_by cache held) ≡ true
own_released_by me cache [] six own = refl
own_released_by me cache (entry ∷ held) six own =
    let parts = and_parts (are_own me entry.1) (held_own me held) own in
    own_append me (released entry.1 (hardware_of cache entry.0)) (released_by cache held)
    (own_released me entry.1 cache entry.0 six parts.0) (own_released_by me cache held six parts.1)

-- the steps
abbrev Owns : HostView → HostStep → Type 0
Owns before step = SendsOwn before step.view step.acts

owns_step : (before after : HostView) (frames : List (List ℕ)) (answer : HostAnswer) → HoldsOwn after → are_own before.me frames ≡ true →
    Owns before (step_to after frames answer)
owns_step before after frames answer holds own = record { sends = ap (are_own before.me) (sent-Send frames) ∙ own; holds = holds }

owns_skipping : (view : HostView) (skip : Skip) → HoldsOwn view → Owns view (skipping view skip)
owns_skipping view skip holds = owns_step view view [] (Played (Some skip)) holds refl

owns_sending : (view : HostView) (frame : List ℕ) → HoldsOwn view → is_own view.me frame ≡ true → Owns view (sending view frame)
owns_sending view frame holds own =
    owns_step view (having_sent view (frame ∷ [])) (frame ∷ []) (Played None) (record { ip = holds.ip; held = holds.held }) (own_one view.me frame own)

addresses : (view : HostView) → HoldsData view → HoldsOwn view → HasAddresses view.me
addresses view sizes holds = record { mac = sizes.me; ip = holds.ip }

own_first_request : (view : HostView) (ip : Ip4) → HasAddresses view.me → are_own view.me (first_request view ip) ≡ true
own_first_request view ip has =
    elim (length (held_for view.held ip) == 0) as (λ b. are_own view.me (cond b (request_frame view.me ip ∷ []) []) ≡ true)
    [ true ↦ own_one view.me (request_frame view.me ip) (own_request view.me ip has) | false ↦ refl ]

owns_holding : (view : HostView) (ip : Ip4) (frame : List ℕ) → HoldsData view → HoldsOwn view → is_own view.me frame ≡ true → Owns view (holding view ip frame)
owns_holding view ip frame sizes holds own =
    owns_step view (record view { held = with_held view.held ip frame }) (first_request view ip) (Played None)
    (record { ip = holds.ip; held = own_with_held view.me view.held ip frame own holds.held })
    (own_first_request view ip (addresses view sizes holds))

owns_sending_to : (view : HostView) (ip : Ip4) (frame : List ℕ) → HoldsData view → HoldsOwn view → is_own view.me frame ≡ true →
    Owns view (sending_to view ip frame (hardware_of view.cache ip))
owns_sending_to view ip frame sizes holds own =
    elim (hardware_of view.cache ip) as (λ o. hardware_of view.cache ip ≡ o → Owns view (sending_to view ip frame o)) [
      | None ↦ λ h. owns_holding view ip frame sizes holds own
      | Some mac ↦ λ h. owns_sending view (with_destination frame mac) holds
          (own_with_destination view.me frame mac (knows_six view.cache ip mac sizes.cache h) own)
    ] refl

owns_sending_to_host : (view : HostView) (frame : List ℕ) (host : Option Me) → HoldsData view → HoldsOwn view → is_own view.me frame ≡ true →
    Owns view (sending_to_host view frame host)
owns_sending_to_host view frame None sizes holds own = owns_skipping view skips.NoOwner holds
owns_sending_to_host view frame (Some host) sizes holds own = owns_sending_to view host.ip frame sizes holds own

owns_playing_frame : (view : HostView) (frame : List ℕ) → HoldsData view → HoldsOwn view → is_own view.me frame ≡ true → Owns view (playing_frame view frame)
owns_playing_frame view frame sizes holds own =
    let host : Option Me = other_host view (destination_of frame) in
    elim (is_group (destination_of frame)) as (λ b. Owns view (cond b (sending view frame) (sending_to_host view frame host)))
    [ true ↦ owns_sending view frame holds own | false ↦ owns_sending_to_host view frame host sizes holds own ]

owns_unless : (view : HostView) (skip : Option Skip) (step : HostStep) → HoldsOwn view → (skip ≡ None → Owns view step) →
    Owns view (unless_skipped view skip step)
owns_unless view None step holds owned = owned refl
owns_unless view (Some skip) step holds owned = owns_skipping view skip holds

-- nothing speaks against a frame, so it is the host's own
not_foreign : (same raw of : Bool) → (not same || (raw && not of)) ≡ false → (same ≡ true) × (raw ≡ true → of ≡ true)
not_foreign true true true h = (refl, λ r. refl)
not_foreign true true false h = absurd (cc)
not_foreign true false of h = (refl, λ r. absurd (cc))
not_foreign false raw of h = absurd (cc)

no_packet : (me : Me) (arp : Bool) (o : Option Arp) → arp ≡ false → is_of me (cond arp o None) ≡ true
no_packet me true o h = absurd (cc)
no_packet me false o h = refl

-- a frame that is played is no ARP frame, or it is played raw
played_of : (view : HostView) (raw : Bool) (frame : List ℕ) (rest : Option Skip) → (raw ≡ true → is_of view.me (packet_in frame) ≡ true) →
    cond raw None (cond (is_arp frame) (Some skips.RecordedArp) rest) ≡ None → is_of view.me (packet_in frame) ≡ true
played_of view true frame rest of h = of refl
played_of view false frame rest of h =
    no_packet view.me (is_arp frame) (result_ok (arp_in (payload_of frame))) (unskipped (is_arp frame) skips.RecordedArp rest h).0

own_unskipped : (view : HostView) (raw : Bool) (frame : List ℕ) (original : ℕ) → skip_of view raw frame original ≡ None → is_own view.me frame ≡ true
unfolding skip_of
own_unskipped view raw frame original h =
    let whole = unskipped (nat_lt (length frame) original) skips.CutRecord _ h in
    let long = unskipped (nat_lt (length frame) 14) skips.Short _ whole.1 in
    let short = unskipped (nat_lt 65553 (length frame)) skips.Long _ long.1 in
    let own = unskipped (is_foreign view.me raw frame) skips.ForeignSource _ short.1 in
    let other = unskipped (kind_of frame == 0x88b5) skips.ControlType _ own.1 in
    let parts = not_foreign (same_mac (source_of frame) view.me.mac) raw (is_of view.me (packet_in frame)) own.0 in
    and_from (same_mac (source_of frame) view.me.mac) (is_of view.me (packet_in frame)) parts.0 (played_of view raw frame _ parts.1 other.1)

owns_playing : (view : HostView) (frame : List ℕ) (original : ℕ) → HoldsData view → HoldsOwn view → Owns view (playing view frame original)
owns_playing view frame original sizes holds =
    owns_unless view (skip_of view false frame original) (playing_frame view frame) holds
    (λ h. owns_playing_frame view frame sizes holds (own_unskipped view false frame original h))

owns_playing_raw : (view : HostView) (frame : List ℕ) (original : ℕ) → HoldsOwn view → Owns view (playing_raw view frame original)
owns_playing_raw view frame original holds =
    owns_unless view (skip_of view true frame original) (sending view frame) holds
    (λ h. owns_sending view frame holds (own_unskipped view true frame original h))

owns_telling : (view : HostView) (change : Change) → HoldsData view → HoldsOwn view →
    let frame : List ℕ = membership_frame view.me change in
    Owns view (step_to (having_sent view (frame ∷ [])) (frame ∷ []) Nothing)
owns_telling view change sizes holds =
    let frame : List ℕ = membership_frame view.me change in
    owns_step view (having_sent view (frame ∷ [])) (frame ∷ []) Nothing (record { ip = holds.ip; held = holds.held })
    (own_one view.me frame (own_membership_frame view.me change sizes.me))

-- what arrives
owns_learning : (view : HostView) (arp : Arp) → HoldsData view → HoldsOwn view → length arp.sha.0 ≡ 6 → Owns view (hearing view (Some arp))
owns_learning view arp sizes holds sha =
    let cache : Table = table_after view.cache view.me arp in
    let six = six_after view.cache view.me arp sha sizes.cache in
    let frames : List (List ℕ) = option_to_list (option_map reply_frame (answer_to view.me arp)) ++ released_by cache view.held in
    let after : HostView = record view { cache = cache; held = still_held cache view.held } in
    owns_step view (having_sent after frames) frames (Received reception.Kept)
    (record { ip = holds.ip; held = own_still_held view.me cache view.held holds.held })
    (own_append view.me (option_to_list (option_map reply_frame (answer_to view.me arp))) (released_by cache view.held)
    (own_reply view.me arp (addresses view sizes holds) sha) (own_released_by view.me cache view.held six holds.held))

owns_hearing : (view : HostView) (frame : List ℕ) → HoldsData view → HoldsOwn view → Owns view (hearing view (packet_in frame))
owns_hearing view frame sizes holds =
    elim (packet_in frame) as (λ o. packet_in frame ≡ o → Owns view (hearing view o)) [
      | None ↦ λ h. owns_step view view [] (Received reception.Kept) holds refl
      | Some arp ↦ λ h. owns_learning view arp sizes holds (packet_in-addresses frame arp h).sha
    ] refl

owns_receiving : (view : HostView) (frame : List ℕ) → HoldsData view → HoldsOwn view → Owns view (receiving view frame)
owns_receiving view frame sizes holds =
    elim (is_not_joined view (group_of (destination_of frame)))
    as (λ b. Owns view (cond b (step_to view [] (Received reception.NotMember)) (hearing view (packet_in frame))))
    [ true ↦ owns_step view view [] (Received reception.NotMember) holds refl | false ↦ owns_hearing view frame sizes holds ]

owns_moving : (view : HostView) → HoldsData view → HoldsOwn view → Owns view (host_step view HasMoved)
owns_moving view sizes holds =
    let has = addresses view sizes holds in
    owns_step view view (start_frame view.me ∷ map (report_frame view.me) view.joined) Nothing holds
    (own_append view.me (start_frame view.me ∷ []) (map (report_frame view.me) view.joined)
    (own_one view.me (start_frame view.me) (own_request view.me view.me.ip has)) (own_reports view.me view.joined has))

owns_host_step : (view : HostView) (input : HostInput) → HoldsData view → HoldsOwn view → Owns view (host_step view input)
owns_host_step view Starts sizes holds =
    owns_step view view (start_frame view.me ∷ []) Nothing holds
    (own_one view.me (start_frame view.me) (own_request view.me view.me.ip (addresses view sizes holds)))
owns_host_step view Retries sizes holds =
    owns_step view view (map (λ entry. request_frame view.me entry.0) view.held) Nothing holds
    (own_requests view.me view.held (addresses view sizes holds))
owns_host_step view HasMoved sizes holds = owns_moving view sizes holds
owns_host_step view (Plays frame original) sizes holds = owns_playing view frame original sizes holds
owns_host_step view (PlaysRaw frame original) sizes holds = owns_playing_raw view frame original holds
owns_host_step view (Joins group) sizes holds = owns_telling view (record { group = group; join = true }) sizes holds
owns_host_step view (Leaves group) sizes holds = owns_telling view (record { group = group; join = false }) sizes holds
owns_host_step view (Receives frame) sizes holds = owns_receiving view frame sizes holds

pub boot_holds_own : (me : Me) (table : List Me) → me.ip.0 < 2 ^ 32 → HoldsOwn (boot_host me table)
boot_holds_own me table small = record { ip = small; held = refl }

pub sends_own : (view : HostView) (input : HostInput) (after : HostView) (acts : List HostAct) (answer : HostAnswer) → HoldsData view → HoldsOwn view →
    host_rule view input after acts answer → SendsOwn view after acts
sends_own view input after acts answer sizes holds rule = subst (λ (step : HostStep). Owns view step) rule (owns_host_step view input sizes holds)

-- a frame of no routed group is kept
no_member : (view : HostView) (o : Option ℕ) → is_routed o ≡ false → is_not_joined view o ≡ false
no_member view None h = refl
no_member view (Some group) h = ap (λ b. b && not (has_group view.joined group)) h

heard_is_kept : (view : HostView) (o : Option Arp) → (hearing view o).answer ≡ Received reception.Kept
heard_is_kept view None = refl
heard_is_kept view (Some arp) = refl

abbrev received : Reception → HostAnswer
received r = Received r

same_reception : (a b : Reception) → received a ≡ received b → a ≡ b
same_reception a b h = cc

pub keeps_frames : (view : HostView) (frame : List ℕ) (after : HostView) (acts : List HostAct) (what : Reception) →
    is_routed (group_of (destination_of frame)) ≡ false → host_rule view (Receives frame) after acts (Received what) → what ≡ reception.Kept
keeps_frames view frame after acts what unrouted rule =
    let heard : receiving view frame ≡ hearing view (packet_in frame) =
    ap (λ b. cond b (step_to view [] (Received reception.NotMember)) (hearing view (packet_in frame))) (no_member view (group_of (destination_of frame)) unrouted) in
    let answers : (receiving view frame).answer ≡ received what = ap (λ (step : HostStep). step.answer) rule in
    same_reception what reception.Kept (sym answers ∙ ap (λ (step : HostStep). step.answer) heard ∙ heard_is_kept view (packet_in frame))
