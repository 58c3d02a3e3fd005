-- Hosts by their addresses, and where they stood.
use Rattle.std.proofs.Common.{◌≡◌, ℕ, zero, suc, ◌%◌, ◌<◌, ◌==◌, ◌&&◌, nat_lt, Bool, true, false, inl, inr, All, List, [], ◌∷◌, length, Option, None, Some, get_or, option_map, slice_get, slice_index, refl, sym, ◌∙◌, ap, subst, arith}
use Rattle.std.specs.List.{position_or_len}
use Rattle.std.proofs.lemmas.Bool.{and_from, cases_Bool, cond-false, cond-true, lt-ltb, ne_eqb, or_left, or_right}
use Rattle.std.proofs.lemmas.List.Quantifiers.{position-Some}
use Rattle.std.proofs.lemmas.Option.{slice_get-get_or}
use Rattle.pl_frame.specs.declared.address.Mac.{Mac}
use Rattle.pl_wiring.specs.declared.host.Host.{Host}
use Rattle.pl_wiring.specs.Plan.{IsHostMac, IsPlan, Plan}
use Rattle.pl_layouts.specs.Equality.{same_mac}
use Rattle.pl_layouts.specs.Memberships.{is_group}
use Rattle.pl_layouts.proofs.Exports.{mac_is, mac_itself}
use Rattle.pl_journal.specs.declared.entry.Entry.{Entry}
use Rattle.pl_journal.specs.declared.entry.Entry.TheVariants.{Moved}
use Rattle.pl_journal.specs.Lossy.{mac_of_host}
use Rattle.pl_journal.specs.Places.{EdgePort, at_port, has_stood, is_at, same_edge_port, edge_port_of}
use Rattle.pl_journal.proofs.Exports.{same_edge_port_itself}
use Rattle.pl_world.specs.Changes.{host_of}
use Rattle.pl_law_flights.proofs.Arriving.{host_is, some_passes}

host_mac : (hosts : List Host) (n : ℕ) (m : Mac) → All (λ (h : Host). IsHostMac h.mac) hosts → option_map (λ (h : Host). h.mac) (slice_get hosts n) ≡ Some m → IsHostMac m
host_mac [] n m all at = absurd (cc)
host_mac (x ∷ hosts) zero m all at = let same : x.mac ≡ m = cc in subst IsHostMac same (all 0 x (omega arith))
host_mac (x ∷ hosts) (suc n) m all at = host_mac hosts n m (λ i d less. all (suc i) d (omega (arith, less))) at

-- a host's address names no group
pub host_unicast : (plan : Plan) (h : ℕ) (m : Mac) → IsPlan plan → mac_of_host plan h ≡ Some m → is_group m ≡ false
host_unicast plan h m is at = ne_eqb (slice_index m.0 0 % 2) 1 (host_mac plan.hosts h m is.host_macs at).no_group

-- and the host that has it is found by it
pub host_by_mac : (plan : Plan) (h : ℕ) (m : Mac) → IsPlan plan → mac_of_host plan h ≡ Some m → host_of plan m ≡ Some h
host_by_mac plan h m is at =
    let test : Host → Bool = λ host. same_mac host.mac m in
    let g : ℕ = position_or_len test plan.hosts in
    let inside : g < length plan.hosts = there plan.hosts h at in
    let found : host_of plan m ≡ Some g = cond-true (nat_lt g (length plan.hosts)) (Some g) None (lt-ltb g (length plan.hosts) inside) in
    let d : Host = any_host plan.hosts h at in
    let all = position-Some test plan.hosts g d found in
    let mac_there : mac_of_host plan g ≡ Some m =
    ap (option_map (λ (x : Host). x.mac)) (slice_get-get_or plan.hosts g d inside) ∙ ap Some (mac_is (get_or plan.hosts g d).mac m all.1) in
    found ∙ ap Some (host_is plan g h m is mac_there at)
  where
    there : (hosts : List Host) (n : ℕ) → option_map (λ (x : Host). x.mac) (slice_get hosts n) ≡ Some m →
        position_or_len (λ (host : Host). same_mac host.mac m) hosts < length hosts
    there hosts n at = by (slice_get hosts n) refl at
      where
        by : (o : Option Host) → slice_get hosts n ≡ o → option_map (λ (x : Host). x.mac) o ≡ Some m → position_or_len (λ (host : Host). same_mac host.mac m) hosts < length hosts
        by None is e = absurd (cc)
        by (Some x) is e =
            let same : x.mac ≡ m = cc in
            some_passes (λ (host : Host). same_mac host.mac m) hosts n x is (ap (λ a. same_mac a m) same ∙ mac_itself m)

    any_host : (hosts : List Host) (n : ℕ) → option_map (λ (x : Host). x.mac) (slice_get hosts n) ≡ Some m → Host
    any_host [] n at = absurd (cc)
    any_host (x ∷ hosts) n at = x

-- a host has stood where it stands
pub stood_there : (plan : Plan) (past : List Entry) (h : ℕ) (there : EdgePort) → edge_port_of plan past h ≡ Some there → has_stood plan past h there ≡ true
stood_there plan [] h there at = ap (λ o. is_at o there) at ∙ same_edge_port_itself there
stood_there plan (Moved g e p ∷ past) h there at = elim (cases_Bool (g.0 == h)) [
  | inl mine ↦
      let here : at_port e.0 p ≡ there = (let same = sym (cond-true (g.0 == h) (Some (at_port e.0 p)) (edge_port_of plan past h) mine) ∙ at in cc) in
      or_left ((g.0 == h) && same_edge_port (at_port e.0 p) there) (has_stood plan past h there)
      (and_from (g.0 == h) (same_edge_port (at_port e.0 p) there) mine (ap (λ a. same_edge_port a there) here ∙ same_edge_port_itself there))
  | inr other ↦ or_right ((g.0 == h) && same_edge_port (at_port e.0 p) there) (has_stood plan past h there)
      (stood_there plan past h there (sym (cond-false (g.0 == h) (Some (at_port e.0 p)) (edge_port_of plan past h) other) ∙ at))
]
stood_there plan (entry ∷ past) h there at = stood_there plan past h there at
