-- Hosts send frames of their own alone, from boot on.
use Rattle.std.proofs.Common.{◌≡◌, ◌<◌, ◌+◌, ◌^◌, ℕ, zero, suc, Bool, true, set, List, [], ◌∷◌, length, map, replicate, Option, Some, None, slice_get, refl, sym, ap, subst, ◌∙◌, inl, inr, arith, get_or-set_same, get_or-set_other, IsTrue}
use Rattle.std.specs.List.{AllByRecursion, find}
use Rattle.std.specs.Option.{option_map}
use Rattle.std.proofs.lemmas.Bool.{and_parts, cases_eq, eqb-true}
use Rattle.std.proofs.lemmas.Map.Keys.{any_passes_from_place}
use Rattle.std.proofs.lemmas.Option.{get_or_from_slice_get, none-some, same_Some, slice_get_within}
use Rattle.pl_lemmas.proofs.Exports.{all_append, from_map}
use Rattle.pl_arp.specs.declared.cache.Me.{Me}
use Rattle.pl_arp.specs.declared.packet.Arp.{Arp}
use Rattle.pl_arp.specs.Reception.{same_ip}
use Rattle.pl_frame.specs.declared.address.Ip4.{Ip4}
use Rattle.pl_frame.specs.Ethernet.{source_of}
use Rattle.pl_layouts.specs.Equality.{same_mac}
use Rattle.pl_layouts.specs.Frames.{packet_in}
use Rattle.pl_layouts.proofs.Exports.{mac_is, mac_itself}
use Rattle.pl_wiring.specs.declared.host.Host.{Host}
use Rattle.pl_wiring.specs.Plan.{IsHostIp, IsPlan, Plan}
use Rattle.pl_node.specs.declared.acts.HostAct.{HostAct}
use Rattle.pl_node.specs.declared.acts.HostAct.TheVariants.{Send}
use Rattle.pl_node.specs.HostDuties.{HoldsData, HostsSendData, HostsSendOwn, are_own, is_of, is_own, sent_by}
use Rattle.pl_node.specs.HostInputs.{HostAnswer, HostInput, HostRule}
use Rattle.pl_node.specs.HostViews.{HostView, boot_host}
use Rattle.pl_host_rule.proofs.Exports.{boot_holds_own}
use Rattle.pl_queues.specs.Queues.{items_at}
use Rattle.pl_switch_rule.specs.Granting.{sender_ip}
use Rattle.pl_world.specs.declared.item.Item.{Item}
use Rattle.pl_world.specs.declared.limits.Limits.{Limits}
use Rattle.pl_world.specs.Booting.{booted, host_table, me_of}
use Rattle.pl_law_addresses.specs.OwnAddresses.{IsOwnIp, own_ip}
use Rattle.pl_law_addresses.specs.OwnFrames.{AreOwnHosts, HostsAreOwn, IsOwnHost, IsOwnItem}
use Rattle.pl_law_addresses.proofs.Finding.{found_if_any}
use Rattle.pl_law_addresses.proofs.TurnQueues.{all_put, items_sent, put_here, put_there}
use Rattle.pl_law_addresses.proofs.AddressLemmas.{find_passes, find_place, get-set_other, get-set_same, one_index}

-- ---- what a frame of a host says of IPv4 addresses
passes_somewhere : {X : Type 0} (p : X → Bool) (xs : List X) (i : ℕ) (x : X) → slice_get xs i ≡ Some x → p x ≡ true → (y : X) × (find p xs ≡ Some y)
passes_somewhere p xs i x at is = found_if_any p xs (any_passes_from_place p xs i x at is)

-- a host has the IPv4 address that stands beside its actual address
host_has : (plan : Plan) → IsPlan plan → (h : ℕ) (host : Host) → slice_get plan.hosts h ≡ Some host → own_ip plan host.mac ≡ Some host.ip
host_has plan is_plan h host at =
    let f = passes_somewhere (λ (q : Host). same_mac q.mac host.mac) plan.hosts h host at (mac_itself host.mac) in
    let where_it_is = find_place (λ (q : Host). same_mac q.mac host.mac) plan.hosts f.0 f.1 in
    let same_mac_is = mac_is f.0.mac host.mac (find_passes (λ (q : Host). same_mac q.mac host.mac) plan.hosts f.0 f.1) in
    let index = one_index (λ (q : Host). q.mac) plan.hosts is_plan.macs_apart where_it_is.0 h f.0 host where_it_is.1 at same_mac_is in
    let is : f.0 ≡ host = same_Some f.0 host (sym where_it_is.1 ∙ ap (slice_get plan.hosts) index ∙ at) in
    ap (λ (o : Option Host). option_map (λ q. q.ip) o) f.1 ∙ ap (λ (q : Host). Some q.ip) is

pub own_frame : (plan : Plan) → IsPlan plan → (h : ℕ) (host : Host) → slice_get plan.hosts h ≡ Some host → (frame : List ℕ) → is_own (me_of host) frame ≡ true →
    IsOwnIp (λ mac. own_ip plan mac) (source_of frame) (sender_ip frame)
own_frame plan is_plan h host at frame is =
    let two = and_parts (same_mac (source_of frame) host.mac) (is_of (me_of host) (packet_in frame)) is in
    let source : source_of frame ≡ host.mac = mac_is (source_of frame) host.mac two.0 in
    by (packet_in frame) two.1 source
  where
    by : (o : Option Arp) → is_of (me_of host) o ≡ true → source_of frame ≡ host.mac → IsOwnIp (λ mac. own_ip plan mac) (source_of frame) (option_map (λ arp. arp.spa) o)
    by None of_me source = λ ip h. absurd (none-some ip h)
    by (Some arp) of_me source = λ ip says.
        let both = and_parts (same_mac arp.sha host.mac) (same_ip arp.spa host.ip) of_me in
        let same : arp.spa ≡ host.ip = ap (λ n. let a : Ip4 = record { 0 = n } in a) (eqb-true arp.spa.0 host.ip.0 both.1) in
        ap (own_ip plan) source ∙ host_has plan is_plan h host at ∙ ap Some (sym same) ∙ says

-- ---- a step of a host
all_own : (me : Me) (begun : ℕ) (acts : List HostAct) → IsTrue (are_own me (map sent_by acts)) → AllByRecursion (IsOwnItem me) (items_sent begun acts)
all_own me begun [] h = tt
all_own me begun (Send frame ∷ acts) h =
    let two = and_parts (is_own me frame) (are_own me (map sent_by acts)) h in (two.0, all_own me (begun + 1) acts two.1)

pub host_step_own : (rule : HostRule) → HostsSendData rule → HostsSendOwn rule → (plan : Plan) (hosts : List HostView) (from_hosts : List (List Item)) (h begun : ℕ)
    (before after : HostView) (input : HostInput) (acts : List HostAct) (answer : HostAnswer) → slice_get hosts h ≡ Some before → HoldsData before → h < length from_hosts →
    rule before input after acts answer → AreOwnHosts plan hosts from_hosts →
    AreOwnHosts plan (set hosts h after) (all_put h from_hosts (items_sent begun acts))
host_step_own rule sends owns plan hosts from_hosts h begun before after input acts answer found holds within ruled are = λ g host view at is. elim (cases_eq g h) [
  | inr other ↦
      subst (λ (xs : List Item). IsOwnHost (me_of host) view xs) (sym (put_there h from_hosts (items_sent begun acts) g other))
      (are g host view at (sym (get-set_other hosts h g after other) ∙ is))
  | inl same ↦
      let old = are g host before at (ap (slice_get hosts) same ∙ found) in
      let sent = owns before input after acts answer holds old.holds ruled in
      let held = sends before input after acts answer holds ruled in
      let view_is : after ≡ view = same_Some after view (sym (get-set_same hosts h after (slice_get_within hosts h before found)) ∙ ap (slice_get (set hosts h after)) (sym same) ∙ is) in
      let own_now : AllByRecursion (IsOwnItem (me_of host)) (items_sent begun acts) =
      all_own (me_of host) begun acts (subst (λ (me : Me). IsTrue (are_own me (map sent_by acts))) old.is sent.sends) in
      subst (λ (v : HostView). IsOwnHost (me_of host) v (items_at (all_put h from_hosts (items_sent begun acts)) g)) view_is (record {
        is = held.me ∙ old.is;
        holds = sent.holds;
        sends = subst (λ (xs : List Item). AllByRecursion (IsOwnItem (me_of host)) xs)
            (sym (ap (λ n. items_at (all_put h from_hosts (items_sent begun acts)) n) same ∙ put_here h from_hosts (items_sent begun acts) within))
            (all_append (IsOwnItem (me_of host)) (items_at from_hosts h) (items_sent begun acts)
            (subst (λ (n : ℕ). AllByRecursion (IsOwnItem (me_of host)) (items_at from_hosts n)) same old.sends) own_now);
      })
]

-- a queue of a host gets shorter
pub shorter_own : (plan : Plan) (hosts : List HostView) (from_hosts : List (List Item)) (h : ℕ) (items : List Item) →
    ((P : Item → Type 0) → AllByRecursion P (items_at from_hosts h) → AllByRecursion P items) → h < length from_hosts →
    AreOwnHosts plan hosts from_hosts → AreOwnHosts plan hosts (set from_hosts h items)
shorter_own plan hosts from_hosts h items less within are = λ g host view at is. elim (cases_eq g h) [
  | inr other ↦
      subst (λ (xs : List Item). IsOwnHost (me_of host) view xs) (sym (get_or-set_other from_hosts h g items [] other)) (are g host view at is)
  | inl same ↦
      let old = are g host view at is in
      record {
        is = old.is;
        holds = old.holds;
        sends = subst (λ (xs : List Item). AllByRecursion (IsOwnItem (me_of host)) xs)
            (sym (ap (λ n. items_at (set from_hosts h items) n) same ∙ get_or-set_same from_hosts h items [] within))
            (less (IsOwnItem (me_of host)) (subst (λ (n : ℕ). AllByRecursion (IsOwnItem (me_of host)) (items_at from_hosts n)) same old.sends));
      }
]

-- ---- the beginning
pub nothing_at : {X : Type 0} (n i : ℕ) → items_at {T = X} (replicate n []) i ≡ []
nothing_at zero i = refl
nothing_at (suc n) zero = refl
nothing_at (suc n) (suc i) = nothing_at n i

small_ip : (plan : Plan) → IsPlan plan → (h : ℕ) (host : Host) → slice_get plan.hosts h ≡ Some host → host.ip.0 < 2 ^ 32
small_ip plan is_plan h host at =
    let it : IsHostIp host.ip = subst (λ (q : Host). IsHostIp q.ip) (get_or_from_slice_get plan.hosts h host host at)
    (is_plan.host_ips h host (slice_get_within plan.hosts h host at)) in
    let few = it.no_group in omega (arith, few)

pub hosts_own_first : (plan : Plan) (limits : Limits) → IsPlan plan → HostsAreOwn (booted plan limits)
hosts_own_first plan limits is_plan h host view at is =
    let it = from_map (λ q. boot_host (me_of q) (host_table plan)) plan.hosts h view is in
    let same : it.0 ≡ host = same_Some it.0 host (sym it.1 ∙ at) in
    subst (λ (v : HostView). IsOwnHost (me_of host) v (items_at (booted plan limits).from_hosts h))
    (ap (λ (q : Host). boot_host (me_of q) (host_table plan)) (sym same) ∙ it.2)
    (record {
      is = refl;
      holds = boot_holds_own (me_of host) (host_table plan) (small_ip plan is_plan h host at);
      sends = subst (λ (xs : List Item). AllByRecursion (IsOwnItem (me_of host)) xs) (sym (nothing_at (length plan.hosts) h)) tt;
    })
