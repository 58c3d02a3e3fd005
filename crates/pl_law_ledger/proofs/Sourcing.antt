-- What an edge switch grants to sources, and what it remembers of them.
use Rattle.std.proofs.Common.{◌≡◌, ◌<◌, ◌-◌, ℕ, true, not, ◌&&◌, set, List, [], ◌∷◌, Option, Some, None, refl, sym, ap, subst, ◌∙◌, arith}
use Rattle.std.specs.List.{AllByRecursion}
use Rattle.std.proofs.lemmas.Bool.{and_from, and_parts}
use Rattle.std.proofs.lemmas.Option.{none-some, same_Some}
use Rattle.pl_pmac.specs.declared.pmac.Pmac.{Pmac}
use Rattle.pl_frame.specs.declared.address.Ip4.{Ip4}
use Rattle.pl_frame.specs.declared.address.Mac.{Mac}
use Rattle.pl_frame.specs.Ethernet.{source_of}
use Rattle.pl_layouts.specs.declared.place.Place.{Place}
use Rattle.pl_layouts.specs.Placement.{is_known, is_placed}
use Rattle.pl_node.specs.AddressUses.{is_held, is_in_use}
use Rattle.pl_node.specs.declared.acts.Act.{Act}
use Rattle.pl_node.specs.declared.acts.Act.TheVariants as act
use Rattle.pl_node.specs.declared.address_use.AddressUse.TheVariants.{InUse}
use Rattle.pl_node.specs.declared.messages.ToManager.TheVariants as tell
use Rattle.pl_node.specs.declared.switch_records.Grant.{Grant}
use Rattle.pl_node.specs.declared.switch_records.Source.{Source}
use Rattle.pl_node.specs.PortRecords.{ports_of_switch}
use Rattle.pl_node.specs.SwitchViews.{SwitchView}
use Rattle.pl_steps.specs.Steps.{does, rests, ◌▹◌}
use Rattle.pl_switch_rule.specs.Granting.{address_at_port, behind, forgets, freed_at, granted, grants_at, grants_or_learns, grants_remembered, grants_source, in_use, is_local, learns_ip, learns_source, next_vmid, or_else, remembered_at, remembered_ip, remembers, sender_ip, uses, with_grants}
use Rattle.pl_switch_rule.specs.Levels.{changes_to, has_become_placed, settles_in}
use Rattle.pl_switch_rule.specs.Telling.{changes_told}
use Rattle.pl_switch_rule.proofs.Exports.{all_range}
use Rattle.pl_law_addresses.specs.EdgeAddresses.{is_settled}
use Rattle.pl_law_addresses.proofs.Exports.{aside_does, changes_silent, granted_here, in_use_for, IsInUse, local_here, used_is}
use Rattle.pl_law_ledger.proofs.Giving.{FreesNone, givings}
use Rattle.pl_law_ledger.proofs.Takes.{AreOf, Takes, aside_takes, changed_takes, grants_next_takes, put_takes, rests_takes, takes_either, takes_then}
use Rattle.pl_layouts.specs.Equality.{is_ip}

module _ (P : ℕ → Mac → Type 0) where
  -- an address in use is used, and maybe its IPv4 address is told
  module _ (v : SwitchView) (port vmid : ℕ) (mac : Mac) (settled : is_settled v.place ≡ true) (within : port < v.k)
      (u : IsInUse (grants_at v port) mac vmid) where
    abbrev old : Pmac
    old = address_at_port v port vmid

    here : is_local v old ≡ true
    here = local_here v port vmid settled

    was : granted v old ≡ Some u.grant
    was = granted_here v old here ∙ u.found

    held : is_held u.grant.held ≡ true
    held = ap is_held (in_use_for u.grant.held u.used).1

    used_takes : (known : Grant) → known.amac ≡ u.grant.amac → known.held ≡ InUse 0 → (acts : List Act) → givings acts ≡ [] → AllByRecursion FreesNone acts →
        Takes P v (record { view = record (with_grants v port (set (grants_at v port) (vmid - 1) known)) { used = behind old v.used }; acts = acts })
    used_takes known same used acts none frees =
        changed_takes P v old u.grant known here settled within was same held (ap is_held used) (ap is_in_use used ∙ sym u.used)
        (record (with_grants v port (set (grants_at v port) (vmid - 1) known)) { used = behind old v.used }) acts refl none frees

    again_takes : Takes P v (rests (uses v old u.grant))
    again_takes = used_takes (record u.grant { held = InUse 0 }) refl refl [] refl tt

    known_takes : (ip : Option Ip4) → Takes P v (learns_ip v old (Some u.grant) ip)
    known_takes None = again_takes
    known_takes (Some ip) =
        let said = act.Tell (tell.Learned old u.grant.amac (Some ip)) ∷ [] in
        takes_either P v (is_ip u.grant.ip ip) (rests (uses v old u.grant)) (record { view = uses v old (record u.grant { ip = Some ip }); acts = said })
        (λ same. again_takes)
        (λ new. used_takes (record u.grant { ip = Some ip; held = InUse 0 }) refl refl said refl (tt, tt))

  -- a source at a port of a placed edge switch
  source_takes : (v : SwitchView) (port : ℕ) (mac : Mac) (ip : Option Ip4) → is_settled v.place ≡ true → port < v.k → P port mac → (o : Option ℕ) →
      in_use (grants_at v port) mac ≡ o → Takes P v (grants_or_learns v port mac ip o)
  source_takes v port mac ip settled within of_it (Some vmid) is =
      let u = used_is (grants_at v port) mac vmid is in
      subst (λ (o : Option Grant). Takes P v (learns_ip v (address_at_port v port vmid) o ip)) (sym u.found) (known_takes v port vmid mac settled within u ip)
  source_takes v port mac ip settled within of_it None is =
      grants_next_takes P v port mac ip settled within of_it is (next_vmid (freed_at v port) (grants_at v port)) refl

  grants_takes : (v : SwitchView) (port : ℕ) (mac : Mac) (ip : Option Ip4) → is_settled v.place ≡ true → port < v.k → P port mac →
      Takes P v (grants_or_learns v port mac ip (in_use (grants_at v port) mac))
  grants_takes v port mac ip settled within of_it = source_takes v port mac ip settled within of_it (in_use (grants_at v port) mac) refl

  remembers_takes : (v : SwitchView) (port : ℕ) (mac : Mac) (ip : Option Ip4) → P port mac → Takes P v (remembers v port mac ip)
  remembers_takes v port mac ip of_it =
      put_takes P v port (Some (record { amac = mac; ip = or_else ip (remembered_ip (remembered_at v port) mac) }))
      (λ source is. subst (λ (s : Source). P port s.amac) (same_Some
      (record { amac = mac; ip = or_else ip (remembered_ip (remembered_at v port) mac) }) source is) of_it)

  -- the source of a frame that a host sends
  pub learns_takes : (v : SwitchView) (port : ℕ) (frame : List ℕ) → v.place.level ≡ Some 0 → port < v.k → P port (source_of frame) →
      Takes P v (learns_source v port frame)
  learns_takes v port frame edge within of_it =
      takes_either P v (is_placed v.place)
      (grants_or_learns v port (source_of frame) (sender_ip frame) (in_use (grants_at v port) (source_of frame)))
      (remembers v port (source_of frame) (sender_ip frame))
      (λ placed. grants_takes v port (source_of frame) (sender_ip frame)
      (and_from (is_known v.place.level 0) (is_placed v.place) (ap (λ (o : Option ℕ). is_known o 0) edge) placed) within of_it)
      (λ unplaced. remembers_takes v port (source_of frame) (sender_ip frame) of_it)

  -- What a port remembers is granted: the part needs that it is of the port, so it is joined with its premise.
  given_source : (v : SwitchView) (port : ℕ) (o : Option Source) → remembered_at v port ≡ o → is_settled v.place ≡ true → port < v.k →
      ((s : Source) → o ≡ Some s → P port s.amac) →
      Takes P v (grants_source v port o)
  given_source v port None is settled within are = rests_takes P v
  given_source v port (Some s) is settled within are = grants_takes v port s.amac s.ip settled within (are s refl)

  pub remembered_takes : (ports : List ℕ) (v : SwitchView) → is_settled v.place ≡ true → AllByRecursion (λ port. port < v.k) ports → AreOf P v →
      Takes P v (grants_remembered ports v)
  unfolding grants_remembered
  remembered_takes [] v settled within are = rests_takes P v
  remembered_takes (port ∷ ports) v settled within are =
      let one = given_source v port (remembered_at v port) refl settled within.0 (λ s is. are port s is) in
      let next : SwitchView = (grants_source v port (remembered_at v port)).view in
      let both = takes_then P v (grants_source v port (remembered_at v port)) (forgets port) one
      (put_takes P next port None (λ source is. absurd (none-some source is))) in
      takes_then P v (grants_source v port (remembered_at v port) ▹ forgets port) (grants_remembered ports) both
      (remembered_takes ports (grants_source v port (remembered_at v port) ▹ forgets port).view
      (both.settled settled) (subst (λ (n : ℕ). AllByRecursion (λ (q : ℕ). q < n) ports) (sym both.k) within.1) (both.sources are))

  settling_takes : (old : Place) (w : SwitchView) → AreOf P w → Takes P w (settles_in old w)
  settling_takes old w are =
      takes_either P w (has_become_placed old w.place) (grants_remembered (ports_of_switch w.k) w) (rests w)
      (λ now. let parts = and_parts (is_known w.place.level 0 && is_placed w.place) (not (is_placed old)) now in
      remembered_takes (ports_of_switch w.k) w parts.0 (all_range w.k 0 w.k (omega arith)) are)
      (λ other. rests_takes P w)

  pub changes_takes : (v w : SwitchView) → AreOf P w → Takes P w (changes_to v w)
  changes_takes v w are =
      takes_then P w (does w (changes_told v w)) (settles_in v.place)
      (aside_takes P w (does w (changes_told v w)) (aside_does w (changes_told v w) (changes_silent v w))) (settling_takes v.place w are)
