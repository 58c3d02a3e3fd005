-- What waits no longer once a packet was heard.
use Rattle.std.proofs.Common.{◌≡◌, ◌||◌, ℕ, Bool, true, false, cond, List, [], ◌∷◌, ◌++◌, Option, Some, None, is_none, is_some, unwrap_or, refl, sym, ap, subst, ◌∙◌}
use Rattle.std.specs.Map.{keys_of, lookup, remove_entry}
use Rattle.std.proofs.lemmas.Bool.{and_from, and_parts, eqb-false}
use Rattle.std.proofs.lemmas.Bool.Decides.{Decides-eqb}
use Rattle.std.proofs.lemmas.List.{append-nil}
use Rattle.std.specs.BTreeMap.{is_at}
use Rattle.std.specs.Cmp.{eq_by_cmp_equiv}
use Rattle.std.proofs.lemmas.Map.{NonePasses}
use Rattle.std.proofs.lemmas.Map.Entries.{none_past_head}
use Rattle.std.proofs.lemmas.Map.Keys.{IsDistinct-from_sorted, sorted_tail}
use Rattle.pl_host.proofs.Holding.{ip_cmp_total}
use Rattle.pl_frame.specs.declared.address.Mac.{Mac}
use Rattle.pl_frame.specs.declared.address.Ip4.{Ip4}
use Rattle.pl_arp.specs.declared.packet.Arp.{Arp}
use Rattle.pl_arp.specs.declared.cache.Me.{Me}
use Rattle.pl_arp.specs.Reception.{Table, hardware_of, is_target, same_ip, table_after, with_pair}
use Rattle.pl_arp.proofs.Exports.{hardware_of-others, hardware_of-with_pair}
use Rattle.pl_node.specs.HostViews.{HeldFrames, held_for, ip_cmp}
use Rattle.pl_node.proofs.Exports.{is_eq-ip_cmp}
use Rattle.pl_host_rule.specs.HostRule.{released, released_by, still_held}
use Rattle.pl_host.specs.Waiting.{AreAddressesRising, are_unknown}

-- a packet of one address says nothing of another
others_after : (table : Table) (me : Me) (arp : Arp) (other : Ip4) → same_ip arp.spa other ≡ false →
    hardware_of (table_after table me arp) other ≡ hardware_of table other
others_after table me arp other away =
    elim (is_some (hardware_of table arp.spa) || is_target me arp)
    as (λ b. hardware_of (cond b (with_pair table arp.spa arp.sha) table) other ≡ hardware_of table other) [
      | true ↦ hardware_of-others table arp.spa other arp.sha (λ same. eqb-false arp.spa.0 other.0 away (sym same))
      | false ↦ refl
    ]

-- and of its own address that it is the sender's, unless it is left out
sender_after : (table : Table) (me : Me) (arp : Arp) (mac : Mac) → hardware_of (table_after table me arp) arp.spa ≡ Some mac →
    hardware_of (table_after table me arp) arp.spa ≡ Some arp.sha
sender_after table me arp mac known =
    elim (is_some (hardware_of table arp.spa))
    as (λ s. is_some (hardware_of table arp.spa) ≡ s → hardware_of (cond (s || is_target me arp) (with_pair table arp.spa arp.sha) table) arp.spa ≡ Some mac →
    hardware_of (cond (s || is_target me arp) (with_pair table arp.spa arp.sha) table) arp.spa ≡ Some arp.sha) [
      | true ↦ λ s k. hardware_of-with_pair table arp.spa arp.sha
      | false ↦ λ s k. by_target table me arp mac s (is_target me arp) k
    ] refl known
  where
    by_target : (table : Table) (me : Me) (arp : Arp) (mac : Mac) → is_some (hardware_of table arp.spa) ≡ false → (b : Bool) →
        hardware_of (cond b (with_pair table arp.spa arp.sha) table) arp.spa ≡ Some mac →
        hardware_of (cond b (with_pair table arp.spa arp.sha) table) arp.spa ≡ Some arp.sha
    by_target table me arp mac s true k = hardware_of-with_pair table arp.spa arp.sha
    by_target table me arp mac s false k = let known : is_some (hardware_of table arp.spa) ≡ true = ap is_some k in absurd (cc)

same_is : (a b : Ip4) → same_ip a b ≡ true → a ≡ b
same_is a b h = let made : ℕ → Ip4 = λ n. record { 0 = n } in ap made ((Decides-eqb a.0 b.0).0 h)

none_true : (o : Option Mac) → is_none o ≡ true → o ≡ None
none_true None h = refl
none_true (Some mac) h = absurd (cc)

-- what waits where nothing is known of it
pub still_held-unknown : (cache : Table) (held : HeldFrames) → are_unknown cache held ≡ true → still_held cache held ≡ held
still_held-unknown cache [] all = refl
still_held-unknown cache (e ∷ held) all =
    let parts = and_parts (is_none (hardware_of cache e.0)) (are_unknown cache held) all in
    ap (λ b. cond b (e ∷ still_held cache held) (still_held cache held)) parts.0 ∙ ap (λ r. e ∷ r) (still_held-unknown cache held parts.1)

pub released_by-unknown : (cache : Table) (held : HeldFrames) → are_unknown cache held ≡ true → released_by cache held ≡ []
released_by-unknown cache [] all = refl
released_by-unknown cache (e ∷ held) all =
    let parts = and_parts (is_none (hardware_of cache e.0)) (are_unknown cache held) all in
    ap (λ o. released e.1 o ++ released_by cache held) (none_true (hardware_of cache e.0) parts.0) ∙ released_by-unknown cache held parts.1

pub unknown-still_held : (cache : Table) (held : HeldFrames) → are_unknown cache (still_held cache held) ≡ true
unknown-still_held cache [] = refl
unknown-still_held cache (e ∷ held) =
    let rest = unknown-still_held cache held in
    elim (is_none (hardware_of cache e.0))
    as (λ b. is_none (hardware_of cache e.0) ≡ b → are_unknown cache (cond b (e ∷ still_held cache held) (still_held cache held)) ≡ true)
    [ true ↦ λ h. and_from (is_none (hardware_of cache e.0)) (are_unknown cache (still_held cache held)) h rest | false ↦ λ h. rest ] refl

-- what is known of one address leaves the others unknown
unknown_past : (before after : Table) (ip : Ip4) (held : HeldFrames) → ((other : Ip4) → same_ip ip other ≡ false → hardware_of after other ≡ hardware_of before other) →
    NonePasses (is_at (ip_cmp ip)) held → are_unknown before held ≡ true → are_unknown after held ≡ true
unknown_past before after ip [] others away all = refl
unknown_past before after ip (e ∷ held) others away all =
    let parts = and_parts (is_none (hardware_of before e.0)) (are_unknown before held) all in
    let apart : same_ip ip e.0 ≡ false = sym (is_eq-ip_cmp ip e.0) ∙ away.0 in
    and_from (is_none (hardware_of after e.0)) (are_unknown after held) (ap is_none (others e.0 apart) ∙ parts.0)
    (unknown_past before after ip held others away.1 parts.1)

-- so it is where nothing is known of that one either
unknown_yet : (before after : Table) (ip : Ip4) (held : HeldFrames) → ((other : Ip4) → same_ip ip other ≡ false → hardware_of after other ≡ hardware_of before other) →
    hardware_of after ip ≡ None → are_unknown before held ≡ true → are_unknown after held ≡ true
unknown_yet before after ip [] others none all = refl
unknown_yet before after ip (e ∷ held) others none all =
    let parts = and_parts (is_none (hardware_of before e.0)) (are_unknown before held) all in
    let here : is_none (hardware_of after e.0) ≡ true =
    elim (same_ip ip e.0) as (λ b. same_ip ip e.0 ≡ b → is_none (hardware_of after e.0) ≡ true) [
      | true ↦ λ h. subst (λ (a : Ip4). is_none (hardware_of after a) ≡ true) (same_is ip e.0 h) (ap is_none none)
      | false ↦ λ h. ap is_none (others e.0 h) ∙ parts.0
    ] refl in
    and_from (is_none (hardware_of after e.0)) (are_unknown after held) here (unknown_yet before after ip held others none parts.1)

none_behind : (ip : Ip4) (e : Ip4 × List (List ℕ)) (held : HeldFrames) → AreAddressesRising (keys_of (e ∷ held)) → same_ip ip e.0 ≡ true → NonePasses (is_at (ip_cmp ip)) held
none_behind ip e held rising same =
    none_past_head (eq_by_cmp_equiv ip_cmp_total) ip e held (IsDistinct-from_sorted ip_cmp (keys_of (e ∷ held)) rising) (is_eq-ip_cmp ip e.0 ∙ same)

still_held_after : (before after : Table) (ip : Ip4) (mac : Mac) (held : HeldFrames) →
    ((other : Ip4) → same_ip ip other ≡ false → hardware_of after other ≡ hardware_of before other) →
    hardware_of after ip ≡ Some mac → AreAddressesRising (keys_of held) → are_unknown before held ≡ true → still_held after held ≡ remove_entry (same_ip ip) held
still_held_after before after ip mac [] others known rising all = refl
still_held_after before after ip mac (e ∷ held) others known rising all =
    let parts = and_parts (is_none (hardware_of before e.0)) (are_unknown before held) all in
    elim (same_ip ip e.0)
    as (λ b. same_ip ip e.0 ≡ b → cond (is_none (hardware_of after e.0)) (e ∷ still_held after held) (still_held after held) ≡ cond b held (e ∷ remove_entry (same_ip ip) held)) [
      | true ↦ λ h.
          let here : is_none (hardware_of after e.0) ≡ false = subst (λ (a : Ip4). is_none (hardware_of after a) ≡ false) (same_is ip e.0 h) (ap is_none known) in
          ap (λ b. cond b (e ∷ still_held after held) (still_held after held)) here
          ∙ still_held-unknown after held (unknown_past before after ip held others (none_behind ip e held rising h) parts.1)
      | false ↦ λ h.
          ap (λ b. cond b (e ∷ still_held after held) (still_held after held)) (ap is_none (others e.0 h) ∙ parts.0)
          ∙ ap (λ r. e ∷ r) (still_held_after before after ip mac held others known (sorted_tail ip_cmp e.0 (keys_of held) rising) parts.1)
    ] refl

released_after : (before after : Table) (ip : Ip4) (mac : Mac) (held : HeldFrames) →
    ((other : Ip4) → same_ip ip other ≡ false → hardware_of after other ≡ hardware_of before other) →
    hardware_of after ip ≡ Some mac → AreAddressesRising (keys_of held) → are_unknown before held ≡ true → released_by after held ≡ released (held_for held ip) (Some mac)
released_after before after ip mac [] others known rising all = refl
released_after before after ip mac (e ∷ held) others known rising all =
    let parts = and_parts (is_none (hardware_of before e.0)) (are_unknown before held) all in
    elim (same_ip ip e.0)
    as (λ b. same_ip ip e.0 ≡ b → released e.1 (hardware_of after e.0) ++ released_by after held
    ≡ released (unwrap_or (cond b (Some e.1) (lookup (same_ip ip) held)) []) (Some mac)) [
      | true ↦ λ h.
          let here : hardware_of after e.0 ≡ Some mac = subst (λ (a : Ip4). hardware_of after a ≡ Some mac) (same_is ip e.0 h) known in
          let none = released_by-unknown after held (unknown_past before after ip held others (none_behind ip e held rising h) parts.1) in
          ap (λ o. released e.1 o ++ released_by after held) here ∙ ap (λ r. released e.1 (Some mac) ++ r) none ∙ append-nil (released e.1 (Some mac))
      | false ↦ λ h.
          ap (λ o. released e.1 o ++ released_by after held) (others e.0 h ∙ none_true (hardware_of before e.0) parts.0)
          ∙ released_after before after ip mac held others known (sorted_tail ip_cmp e.0 (keys_of held) rising) parts.1
    ] refl

-- once a packet was heard of a sender that is known then
pub still_held-heard : (table after : Table) (me : Me) (arp : Arp) (held : HeldFrames) → after ≡ table_after table me arp →
    is_some (hardware_of after arp.spa) ≡ true → AreAddressesRising (keys_of held) → are_unknown table held ≡ true → still_held after held ≡ remove_entry (same_ip arp.spa) held
still_held-heard table after me arp held heard known rising all =
    subst (λ (t : Table). is_some (hardware_of t arp.spa) ≡ true → still_held t held ≡ remove_entry (same_ip arp.spa) held) (sym heard)
    (λ there.
    elim (hardware_of (table_after table me arp) arp.spa)
    as (λ o. hardware_of (table_after table me arp) arp.spa ≡ o → is_some o ≡ true → still_held (table_after table me arp) held ≡ remove_entry (same_ip arp.spa) held) [
      | None ↦ λ h k. absurd (cc)
      | Some mac ↦ λ h k. still_held_after table (table_after table me arp) arp.spa mac held (others_after table me arp) h rising all
    ] refl there) known

pub released_by-heard : (table after : Table) (me : Me) (arp : Arp) (held : HeldFrames) → after ≡ table_after table me arp →
    is_some (hardware_of after arp.spa) ≡ true → AreAddressesRising (keys_of held) → are_unknown table held ≡ true →
    released_by after held ≡ released (held_for held arp.spa) (Some arp.sha)
released_by-heard table after me arp held heard known rising all =
    subst (λ (t : Table). is_some (hardware_of t arp.spa) ≡ true → released_by t held ≡ released (held_for held arp.spa) (Some arp.sha)) (sym heard)
    (λ there.
    elim (hardware_of (table_after table me arp) arp.spa)
    as (λ o. hardware_of (table_after table me arp) arp.spa ≡ o → is_some o ≡ true →
    released_by (table_after table me arp) held ≡ released (held_for held arp.spa) (Some arp.sha)) [
      | None ↦ λ h k. absurd (cc)
      | Some mac ↦ λ h k. released_after table (table_after table me arp) arp.spa arp.sha held (others_after table me arp) (sender_after table me arp mac h) rising all
    ] refl there) known

-- and of one that is not
pub unknown-unheard : (table after : Table) (me : Me) (arp : Arp) (held : HeldFrames) → after ≡ table_after table me arp →
    is_some (hardware_of after arp.spa) ≡ false → are_unknown table held ≡ true → are_unknown after held ≡ true
unknown-unheard table after me arp held heard unheard all =
    subst (λ (t : Table). is_some (hardware_of t arp.spa) ≡ false → are_unknown t held ≡ true) (sym heard)
    (λ away.
    elim (hardware_of (table_after table me arp) arp.spa)
    as (λ o. hardware_of (table_after table me arp) arp.spa ≡ o → is_some o ≡ false → are_unknown (table_after table me arp) held ≡ true) [
      | None ↦ λ h k. unknown_yet table (table_after table me arp) arp.spa held (others_after table me arp) h all
      | Some mac ↦ λ h k. absurd (cc)
    ] refl away) unheard
