-- An edge switch grants addresses and learns IPv4 addresses.
use Rattle.std.proofs.Common.{◌≡◌, ◌<◌, ◌-◌, ℕ, ◌||◌, Bool, true, false, if◌then◌else◌, set, List, [], ◌∷◌, ◌++◌, length, Option, Some, None, refl, sym, ap, subst, subst₂, ◌∙◌, inl, inr, append-nil}
use Rattle.std.specs.List.{AllByRecursion, list_any}
use Rattle.std.specs.Option.{option_map}
use Rattle.std.proofs.lemmas.Bool.{and_from, cond_both, false≢true}
use Rattle.std.proofs.lemmas.Option.{none-some, same_Some}
use Rattle.pl_frame.specs.declared.address.Ip4.{Ip4}
use Rattle.pl_frame.specs.declared.address.Mac.{Mac}
use Rattle.pl_frame.specs.declared.address.SwitchId.{SwitchId}
use Rattle.pl_frame.specs.Ethernet.{source_of}
use Rattle.pl_pmac.specs.declared.pmac.Pmac.{Pmac}
use Rattle.pl_layouts.specs.declared.place.Place.{Place}
use Rattle.pl_layouts.specs.Equality.{is_ip, same_mac, same_pmac}
use Rattle.pl_layouts.specs.Placement.{is_known, is_placed}
use Rattle.pl_layouts.proofs.Exports.{mac_is, pmac_itself}
use Rattle.pl_node.specs.declared.acts.Act.TheVariants as act
use Rattle.pl_node.specs.AddressUses.{is_held, is_in_use, standing_trap}
use Rattle.pl_node.specs.declared.address_use.AddressUse.{AddressUse}
use Rattle.pl_node.specs.declared.address_use.AddressUse.TheVariants.{Free, InUse, Resting, Trapped}
use Rattle.pl_node.specs.declared.messages.ToManager.{ToManager}
use Rattle.pl_node.specs.declared.messages.ToManager.TheVariants as tell
use Rattle.pl_node.specs.declared.messages.ToSwitch.{ToSwitch}
use Rattle.pl_node.specs.declared.switch_records.Grant.{Grant}
use Rattle.pl_node.specs.declared.switch_records.Source.{Source}
use Rattle.pl_node.specs.SwitchViews.{SwitchView}
use Rattle.pl_steps.specs.Steps.{SwitchStep, rests, ◌▹◌}
use Rattle.pl_switch_rule.specs.Granting.{address_at_port, all_but_first, behind, forgets, freed_at, grant_number, granted, grants_at, grants_new, grants_next, grants_or_learns, grants_remembered, grants_source, in_use, is_local, learns_ip, learns_source, new_grant, next_vmid, or_else, remembered_at, remembered_ip, remembers, uses, sender_ip, with_grants, with_next}
use Rattle.pl_law_addresses.specs.OwnAddresses.{IsOwnIp}
use Rattle.pl_law_addresses.specs.FreeVmids.{AreFreeVmids}
use Rattle.pl_law_addresses.specs.EdgeAddresses.{Edge, IsGoodAddressTable, edge_of, is_settled, tells_ip}
use Rattle.pl_law_addresses.proofs.Exports.{address_table_with_source, any_before, any_behind, granted_here, held_free, IsInUse, local_here, next_granted, now_at, number_set_other, number_set_same, number_within, other_turned, others_at, StaysTo, table_alike, table_with_free, table_with_grants, used_is}
use Rattle.pl_law_epochs.specs.Edges.{Registry, tenure_at}
use Rattle.pl_law_epochs.specs.Situations.{IsIn}
use Rattle.pl_law_epochs.specs.Tenures.{use_of, words_on}
use Rattle.pl_law_epochs.specs.Tenures.Said.{Learns}
use Rattle.pl_law_epochs.specs.Tenures.Use.{Nobodys, Serves}
use Rattle.pl_law_epochs.proofs.Changing.{changed}
use Rattle.pl_law_epochs.proofs.Lives.{again, grants}
use Rattle.pl_law_epochs.proofs.Moves.{Moves, moves_one, moves_same}
use Rattle.pl_law_epochs.proofs.Rows.{Good, Keeps, keeps_either, keeps_then, rests_keeps}
use Rattle.pl_law_epochs.proofs.Staying.{situation_now, told_here, told_there}

-- ---- a source changes neither the place nor how many ports there are
abbrev StaysWith : SwitchView → SwitchStep → Type 0
StaysWith v s = (s.view.place ≡ v.place) × (s.view.k ≡ v.k)

learning_stays : (v : SwitchView) (x : Pmac) (g : Option Grant) (ip : Option Ip4) → StaysWith v (learns_ip v x g ip)
learning_stays v x None ip = (refl, refl)
learning_stays v x (Some g) None = (refl, refl)
learning_stays v x (Some g) (Some ip) =
    cond_both (is_ip g.ip ip) (rests (uses v x g))
    (record { view = uses v x (record g { ip = Some ip }); acts = act.Tell (tell.Learned x g.amac (Some ip)) ∷ [] }) (StaysWith v)
    (λ same. (refl, refl)) (λ new. (refl, refl))

next_stays : (v : SwitchView) (port : ℕ) (mac : Mac) (ip : Option Ip4) (o : Option ℕ) → StaysWith v (grants_next v port mac ip o)
next_stays v port mac ip None = (refl, refl)
next_stays v port mac ip (Some vmid) = (refl, refl)

mac_stays : (v : SwitchView) (port : ℕ) (mac : Mac) (ip : Option Ip4) (o : Option ℕ) → StaysWith v (grants_or_learns v port mac ip o)
mac_stays v port mac ip (Some vmid) = learning_stays v (address_at_port v port vmid) (grant_number (grants_at v port) vmid) ip
mac_stays v port mac ip None = next_stays v port mac ip (next_vmid (freed_at v port) (grants_at v port))

source_stays : (v : SwitchView) (port : ℕ) (o : Option Source) → StaysWith v (grants_source v port o)
source_stays v port None = (refl, refl)
source_stays v port (Some s) = mac_stays v port s.amac s.ip (in_use (grants_at v port) s.amac)

-- ---- what an address is used for
unheld_use : (h : AddressUse) → (is_held h ≡ true → ⊥) → use_of (Some h) ≡ Nobodys
unheld_use (InUse idle) none = absurd (none refl)
unheld_use (Trapped trap age) none = absurd (none refl)
unheld_use (Resting number) none = absurd (none refl)
unheld_use Free none = refl

nobodys : (o : Option Grant) → ((h : Grant) → o ≡ Some h → is_held h.held ≡ true → ⊥) → use_of (option_map (λ (g : Grant). g.held) o) ≡ Nobodys
nobodys None none = refl
nobodys (Some h) none = unheld_use h.held (λ held. none h refl held)

serves : (h : AddressUse) → is_in_use h ≡ true → use_of (Some h) ≡ Serves
serves (InUse idle) is = refl
serves (Trapped trap age) is = absurd (false≢true is)
serves (Resting number) is = absurd (false≢true is)
serves Free is = absurd (false≢true is)

module _ (own : Mac → Option Ip4) (r : Registry) (id : Option SwitchId) (down : List ToSwitch) where
  -- ---- the next address of a port
  module _ (v : SwitchView) (port : ℕ) (mac : Mac) (ip : Option Ip4) (vmid : ℕ) (settled : is_settled v.place ≡ true) (within : port < v.k)
      (is_own : IsOwnIp own mac ip) (is_next : next_vmid (freed_at v port) (grants_at v port) ≡ Some vmid) where
    abbrev x : Pmac
    x = address_at_port v port vmid

    abbrev new : List Grant
    new = with_next (freed_at v port) (grants_at v port) (new_grant mac ip)

    abbrev word : ToManager
    word = tell.Learned x mac ip

    here : is_local v x ≡ true
    here = local_here v port vmid settled

    -- it was nobody's, and is this host's then
    record IsGivenNow : Type 0 where
      now : granted (with_grants v port new) x ≡ Some (new_grant mac ip)
      others : (y : Pmac) → same_pmac y x ≡ false → granted (with_grants v port new) y ≡ granted v y
      unheld : (h : Grant) → granted v x ≡ Some h → is_held h.held ≡ true → ⊥
      left : AreFreeVmids new (all_but_first (freed_at v port))

    given_now : IsGoodAddressTable own v → IsGivenNow
    given_now table =
        let many : port < length v.grants = subst (λ n. port < n) (sym table.many) within in
        let n = next_granted (grants_at v port) (freed_at v port) vmid (new_grant mac ip) (table.free port) refl is_next in
        record {
          now = now_at v x new many here ∙ n.now;
          others = others_at v x new many here n.others;
          unheld = λ h is held. n.unheld h (sym (granted_here v x here) ∙ is) held;
          left = n.left;
        }

    next_good : (up : List ToManager) → Good own r id down v up → Good own r id down (grants_new v port mac ip x).view (up ++ word ∷ [])
    next_good up good =
        let it = given_now good.address_table in
        let e = edge_of id v up down in
        record {
          edge = changed own r e good.edge x (new_grant mac ip) (λ y. granted (with_grants v port new) y) (word ∷ []) down here it.now it.others refl
              (λ h is held. absurd (it.unheld h is held))
              ((record { grant = new_grant mac ip; found = it.now; held = refl; to = refl }, is_own), tt)
              good.edge.orders (λ y other. ap (λ ws. ws ++ []) (told_there x y mac ip (other_turned y x other))) (λ y other. refl)
              (record {
                own_ip = is_own;
                told_ip = λ loud used j is. inr (any_behind (tells_ip x) up (word ∷ []) (ip_told ip j is));
                trap_ip = λ trap is. absurd (none-some trap is);
              })
              (situation_now r e x (new_grant mac ip) (λ y. granted (with_grants v port new) y) (word ∷ []) (Learns ∷ []) it.now (ap (λ ws. ws ++ []) (told_here x mac ip))
              (grants r.later (tenure_at r e x) (good.edge.situations x here) (nobodys (granted v x) it.unheld)));
          address_table = table_alike own (record (with_grants v port new) { freed = set v.freed port (all_but_first (freed_at v port)) }) (grants_new v port mac ip x).view
              refl refl refl refl refl (table_with_free own v port new settled within good.address_table (all_but_first (freed_at v port)) it.left);
        }
      where
        ip_told : (i : Option Ip4) (j : Ip4) → i ≡ Some j → list_any (tells_ip x) (tell.Learned x mac i ∷ []) ≡ true
        ip_told None j is = absurd (none-some j is)
        ip_told (Some i) j is = ap (λ b. b || false) (pmac_itself x)

    keeps_new : Keeps own r id down v (grants_new v port mac ip x)
    keeps_new = record {
      good = λ up good. next_good up good;
      place = refl;
      k = refl;
      moves = λ up good.
          let it = given_now good.address_table in
          moves_one (λ y. granted v y) (λ y. granted (with_grants v port new) y) x (new_grant mac ip) it.now it.others (λ h is held. absurd (it.unheld h is held)) refl;
    }

  keeps_next : (v : SwitchView) (port : ℕ) (mac : Mac) (ip : Option Ip4) → is_settled v.place ≡ true → port < v.k → IsOwnIp own mac ip → (o : Option ℕ) →
      next_vmid (freed_at v port) (grants_at v port) ≡ o → Keeps own r id down v (grants_next v port mac ip o)
  keeps_next v port mac ip settled within is_own None is = rests_keeps own r id down v
  keeps_next v port mac ip settled within is_own (Some vmid) is = keeps_new v port mac ip vmid settled within is_own is

  -- ---- an address in use is used
  module _ (v : SwitchView) (port vmid : ℕ) (mac : Mac) (settled : is_settled v.place ≡ true) (within : port < v.k) (u : IsInUse (grants_at v port) mac vmid) where
    abbrev old : Pmac
    old = address_at_port v port vmid

    in_place : is_local v old ≡ true
    in_place = local_here v port vmid settled

    held_in_use : (h : AddressUse) → is_in_use h ≡ true → is_held h ≡ true
    held_in_use (InUse idle) used = refl
    held_in_use (Trapped trap age) used = refl
    held_in_use (Resting number) used = refl
    held_in_use Free used = absurd (false≢true used)

    -- the use of the address is new, and maybe its IPv4 address
    module _ (known : Grant) (same : known.amac ≡ u.grant.amac) (used : known.held ≡ InUse 0) where
      abbrev list : List Grant
      list = set (grants_at v port) (vmid - 1) known

      record IsUsedNow : Type 0 where
        was : granted v old ≡ Some u.grant
        now : granted (with_grants v port list) old ≡ Some known
        others : (y : Pmac) → same_pmac y old ≡ false → granted (with_grants v port list) y ≡ granted v y
        stays : StaysTo (λ y. granted v y) old known
        free : AreFreeVmids list (freed_at v port)

      used_now : IsGoodAddressTable own v → IsUsedNow
      used_now table =
          let many : port < length v.grants = subst (λ n. port < n) (sym table.many) within in
          let some = (number_within (grants_at v port) vmid u.grant u.found).0 in
          let was : granted v old ≡ Some u.grant = granted_here v old in_place ∙ u.found in
          record {
            was = was;
            now = now_at v old list many in_place ∙ number_set_same (grants_at v port) vmid u.grant known u.found;
            others = others_at v old list many in_place (λ n other. number_set_other (grants_at v port) vmid n known some other);
            stays = λ h is held. (ap is_held used, same ∙ ap (λ (g : Grant). g.amac) (same_Some u.grant h (sym was ∙ is)));
            free = held_free (grants_at v port) (freed_at v port) vmid u.grant known (table.free port) u.found (held_in_use u.grant.held u.used) (ap is_held used);
          }

      used_moves : (up : List ToManager) → Good own r id down v up → Moves (λ y. granted v y) (λ y. granted (with_grants v port list) y)
      used_moves up good =
          let it = used_now good.address_table in
          moves_one (λ y. granted v y) (λ y. granted (with_grants v port list) y) old known it.now it.others it.stays (ap standing_trap used)

      was_serving : granted v old ≡ Some u.grant → use_of (option_map (λ (g : Grant). g.held) (granted v old)) ≡ Serves
      was_serving was = ap (λ (o : Option Grant). use_of (option_map (λ (g : Grant). g.held) o)) was ∙ serves u.grant.held u.used

      still_serves : (e : Edge) → granted v old ≡ Some u.grant →
          record (tenure_at r e old) { use_is = use_of (option_map (λ (g : Grant). g.held) (granted v old)) }
          ≡ record (tenure_at r e old) { use_is = use_of (Some known.held); due = words_on old e.up ++ [] }
      still_serves e was = λ i. record (tenure_at r e old) {
        use_is = (was_serving was ∙ sym (ap (λ (h : AddressUse). use_of (Some h)) used)) i;
        due = sym (append-nil (words_on old e.up)) i;
      }

      -- nothing is told
      silent_good : known.ip ≡ u.grant.ip → (up : List ToManager) → Good own r id down v up →
          Good own r id down (record (with_grants v port list) { used = behind old v.used }) (up ++ [])
      silent_good same_ip up good =
          let it = used_now good.address_table in
          let e = edge_of id v up down in
          let before = good.edge.grants old u.grant it.was in
          record {
            edge = changed own r e good.edge old known (λ y. granted (with_grants v port list) y) [] down in_place it.now it.others refl it.stays tt good.edge.orders
                (λ y other. refl) (λ y other. refl)
                (record {
                  own_ip = subst₂ (λ (m : Mac) (i : Option Ip4). IsOwnIp own m i) (sym same) (sym same_ip) before.own_ip;
                  told_ip = λ loud is_used j is. elim (before.told_ip loud u.used j (sym same_ip ∙ is)) [ inl knows ↦ inl knows | inr waits ↦ inr (any_before (tells_ip old) up [] waits) ];
                  trap_ip = λ trap is. absurd (none-some trap (ap standing_trap (sym used) ∙ is));
                })
                (situation_now r e old known (λ y. granted (with_grants v port list) y) [] [] it.now refl
                (subst (λ t. IsIn r.later t) (still_serves e it.was) (good.edge.situations old in_place)));
            address_table = table_alike own (with_grants v port list) (record (with_grants v port list) { used = behind old v.used }) refl refl refl refl refl
                (table_with_grants own v port list settled within good.address_table it.free);
          }

      -- its IPv4 address is told
      told_good : (ip : Ip4) → known.ip ≡ Some ip → IsOwnIp own mac (Some ip) → (up : List ToManager) → Good own r id down v up →
          Good own r id down (record (with_grants v port list) { used = behind old v.used }) (up ++ tell.Learned old u.grant.amac (Some ip) ∷ [])
      told_good ip new_ip is_own up good =
          let it = used_now good.address_table in
          let e = edge_of id v up down in
          let its : IsOwnIp own u.grant.amac (Some ip) = subst (λ (m : Mac). IsOwnIp own m (Some ip)) (sym u.mac_is) is_own in
          let said = tell.Learned old u.grant.amac (Some ip) in
          record {
            edge = changed own r e good.edge old known (λ y. granted (with_grants v port list) y) (said ∷ []) down in_place it.now it.others refl it.stays
                ((record { grant = known; found = it.now; held = ap is_held used; to = same }, its), tt)
                good.edge.orders (λ y other. ap (λ ws. ws ++ []) (told_there old y u.grant.amac (Some ip) (other_turned y old other))) (λ y other. refl)
                (record {
                  own_ip = subst₂ (λ (m : Mac) (i : Option Ip4). IsOwnIp own m i) (sym same) (sym new_ip) its;
                  told_ip = λ loud is_used j is. inr (any_behind (tells_ip old) up (said ∷ []) (ap (λ b. b || false) (pmac_itself old)));
                  trap_ip = λ trap is. absurd (none-some trap (ap standing_trap (sym used) ∙ is));
                })
                (situation_now r e old known (λ y. granted (with_grants v port list) y) (said ∷ []) (Learns ∷ []) it.now (ap (λ ws. ws ++ []) (told_here old u.grant.amac (Some ip)))
                (subst (λ k. IsIn r.later (record (tenure_at r e old) { use_is = k; due = words_on old up ++ Learns ∷ [] })) (was_serving it.was ∙ sym (ap (λ (h : AddressUse). use_of (Some h)) used))
                (again r.later (tenure_at r e old) (good.edge.situations old in_place) (was_serving it.was))));
            address_table = table_alike own (with_grants v port list) (record (with_grants v port list) { used = behind old v.used }) refl refl refl refl refl
                (table_with_grants own v port list settled within good.address_table it.free);
          }

    abbrev used_again : Grant
    used_again = record u.grant { held = InUse 0 }

    keeps_used : Keeps own r id down v (rests (uses v old u.grant))
    keeps_used = record {
      good = λ up good. silent_good used_again refl refl refl up good;
      place = refl;
      k = refl;
      moves = λ up good. used_moves used_again refl refl up good;
    }

    keeps_known : (ip : Option Ip4) → IsOwnIp own mac ip → Keeps own r id down v (learns_ip v old (Some u.grant) ip)
    keeps_known None is_own = keeps_used
    keeps_known (Some ip) is_own =
        let known : Grant = record u.grant { ip = Some ip; held = InUse 0 } in
        let said = act.Tell (tell.Learned old u.grant.amac (Some ip)) ∷ [] in
        keeps_either own r id down v (is_ip u.grant.ip ip) (rests (uses v old u.grant))
        (record { view = uses v old (record u.grant { ip = Some ip }); acts = said })
        (λ as_before. keeps_used)
        (λ other. record {
          good = λ up good. told_good known refl refl ip refl is_own up good;
          place = refl;
          k = refl;
          moves = λ up good. used_moves known refl refl up good;
        })

  -- ---- a source at a port
  module _ (v : SwitchView) (port : ℕ) (mac : Mac) (settled : is_settled v.place ≡ true) (within : port < v.k) where
    keeps_source : (ip : Option Ip4) → IsOwnIp own mac ip → (o : Option ℕ) → in_use (grants_at v port) mac ≡ o → Keeps own r id down v (grants_or_learns v port mac ip o)
    keeps_source ip is_own (Some vmid) is =
        let u = used_is (grants_at v port) mac vmid is in
        subst (λ (o : Option Grant). Keeps own r id down v (learns_ip v (address_at_port v port vmid) o ip)) (sym u.found) (keeps_known v port vmid mac settled within u ip is_own)
    keeps_source ip is_own None is = keeps_next v port mac ip settled within is_own (next_vmid (freed_at v port) (grants_at v port)) refl

    pub keeps_grants_or_learns : (ip : Option Ip4) → IsOwnIp own mac ip → Keeps own r id down v (grants_or_learns v port mac ip (in_use (grants_at v port) mac))
    keeps_grants_or_learns ip is_own = keeps_source ip is_own (in_use (grants_at v port) mac) refl

  -- ---- sources that are remembered
  pub keeps_put_source : (v : SwitchView) (port : ℕ) (new : Option Source) → ((source : Source) → new ≡ Some source → IsOwnIp own source.amac source.ip) →
      Keeps own r id down v (rests (record v { remembered = set v.remembered port new }))
  keeps_put_source v port new is_own = record {
    good = λ up good. good_now up good;
    place = refl;
    k = refl;
    moves = λ up good. moves_same v (record v { remembered = set v.remembered port new }) refl refl;
  }
    where
      good_now : (up : List ToManager) → Good own r id down v up → Good own r id down (record v { remembered = set v.remembered port new }) (up ++ [])
      good_now up good = subst (λ (ts : List ToManager). Good own r id down (record v { remembered = set v.remembered port new }) ts) (sym (append-nil up))
          (record { edge = good.edge; address_table = address_table_with_source own v port new is_own good.address_table })

  own_remembered : (source : Option Source) (mac : Mac) → ((s : Source) → source ≡ Some s → IsOwnIp own s.amac s.ip) → IsOwnIp own mac (remembered_ip source mac)
  own_remembered None mac are = λ ip is. absurd (none-some ip is)
  own_remembered (Some s) mac are = own_if (same_mac s.amac mac) refl
    where
      own_if : (b : Bool) → same_mac s.amac mac ≡ b → IsOwnIp own mac (if b then s.ip else None)
      own_if true is = subst (λ (m : Mac). IsOwnIp own m s.ip) (mac_is s.amac mac is) (are s refl)
      own_if false is = λ ip h. absurd (none-some ip h)

  own_or : (mac : Mac) (a b : Option Ip4) → IsOwnIp own mac a → IsOwnIp own mac b → IsOwnIp own mac (or_else a b)
  own_or mac None b p q = q
  own_or mac (Some ip) b p q = p

  -- an edge switch that is not placed remembers a source
  pub keeps_remembers : (v : SwitchView) (port : ℕ) (mac : Mac) (ip : Option Ip4) → IsOwnIp own mac ip → Keeps own r id down v (remembers v port mac ip)
  keeps_remembers v port mac ip is_own = record {
    good = λ up good. (keeps_put_source v port (Some (record { amac = mac; ip = or_else ip (remembered_ip (remembered_at v port) mac) }))
        (λ source is. let same = same_Some (record { amac = mac; ip = or_else ip (remembered_ip (remembered_at v port) mac) }) source is in
        subst (λ (s : Source). IsOwnIp own s.amac s.ip) same
        (own_or mac ip (remembered_ip (remembered_at v port) mac) is_own (own_remembered (remembered_at v port) mac (λ s found. good.address_table.sources port s found))))).good up good;
    place = refl;
    k = refl;
    moves = λ up good. moves_same v (remembers v port mac ip).view refl refl;
  }

  -- the source of a frame that a host sends is learnt
  pub keeps_learns_source : (v : SwitchView) (port : ℕ) (frame : List ℕ) → v.place.level ≡ Some 0 → port < v.k → IsOwnIp own (source_of frame) (sender_ip frame) →
      Keeps own r id down v (learns_source v port frame)
  keeps_learns_source v port frame edge within is_own =
      keeps_either own r id down v (is_placed v.place)
      (grants_or_learns v port (source_of frame) (sender_ip frame) (in_use (grants_at v port) (source_of frame)))
      (remembers v port (source_of frame) (sender_ip frame))
      (λ placed. keeps_grants_or_learns v port (source_of frame)
      (and_from (is_known v.place.level 0) (is_placed v.place) (ap (λ (o : Option ℕ). is_known o 0) edge) placed) within (sender_ip frame) is_own)
      (λ unplaced. keeps_remembers v port (source_of frame) (sender_ip frame) is_own)

  -- what a port remembers is granted an address, and is forgotten
  keeps_grants_source : (v : SwitchView) (port : ℕ) (o : Option Source) → is_settled v.place ≡ true → port < v.k → ((s : Source) → o ≡ Some s → IsOwnIp own s.amac s.ip) →
      Keeps own r id down v (grants_source v port o)
  keeps_grants_source v port None settled within are = rests_keeps own r id down v
  keeps_grants_source v port (Some s) settled within are = keeps_grants_or_learns v port s.amac settled within s.ip (are s refl)

  keeps_one : (v : SwitchView) (port : ℕ) → is_settled v.place ≡ true → port < v.k → Keeps own r id down v (grants_source v port (remembered_at v port))
  keeps_one v port settled within = let stays = source_stays v port (remembered_at v port) in record {
    good = λ up good. (keeps_grants_source v port (remembered_at v port) settled within (λ s is. good.address_table.sources port s is)).good up good;
    place = stays.0;
    k = stays.1;
    moves = λ up good. (keeps_grants_source v port (remembered_at v port) settled within (λ s is. good.address_table.sources port s is)).moves up good;
  }

  keeps_forgets : (v : SwitchView) (port : ℕ) → Keeps own r id down v (forgets port v)
  keeps_forgets v port = keeps_put_source v port None (λ source is. absurd (none-some source is))

  -- and so for each of some ports
  pub keeps_grants_remembered : (ports : List ℕ) (v : SwitchView) → is_settled v.place ≡ true → AllByRecursion (λ port. port < v.k) ports →
      Keeps own r id down v (grants_remembered ports v)
  unfolding grants_remembered
  keeps_grants_remembered [] v settled within = rests_keeps own r id down v
  keeps_grants_remembered (port ∷ ports) v settled within =
      let one = keeps_one v port settled within.0 in
      let both = keeps_then own r id down v (grants_source v port (remembered_at v port)) (forgets port) one
      (keeps_forgets (grants_source v port (remembered_at v port)).view port) in
      keeps_then own r id down v (grants_source v port (remembered_at v port) ▹ forgets port) (grants_remembered ports) both
      (keeps_grants_remembered ports (grants_source v port (remembered_at v port) ▹ forgets port).view
      (ap (λ (p : Place). is_settled p) both.place ∙ settled) (subst (λ (n : ℕ). AllByRecursion (λ (q : ℕ). q < n) ports) (sym both.k) within.1))
