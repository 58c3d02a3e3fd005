-- An edge switch grants addresses and learns IPv4 addresses.
use Rattle.std.proofs.Common.{◌≡◌, ◌≤◌, ◌<◌, ◌+◌, ◌-◌, ℕ, ◌⊎◌, zero, suc, Bool, true, false, if◌then◌else◌, get_or, set, List, [], ◌∷◌, length, Option, Some, None, refl, sym, ap, subst, ◌∙◌, inl, inr, arith, get_or-set_other}
use Rattle.std.specs.List.{AllByRecursion}
use Rattle.std.proofs.lemmas.Bool.{and_from, cases_eq, false≢true}
use Rattle.std.proofs.lemmas.Option.{none-some, same_Some}
use Rattle.pl_frame.specs.declared.address.Ip4.{Ip4}
use Rattle.pl_frame.specs.declared.address.Mac.{Mac}
use Rattle.pl_frame.specs.Ethernet.{source_of}
use Rattle.pl_pmac.specs.declared.pmac.Pmac.{Pmac}
use Rattle.pl_layouts.specs.declared.place.Place.{Place}
use Rattle.pl_layouts.specs.Equality.{is_ip, same_mac, same_pmac}
use Rattle.pl_layouts.specs.Placement.{is_known, is_placed}
use Rattle.pl_layouts.proofs.Exports.{mac_is}
use Rattle.pl_node.specs.declared.acts.Act.TheVariants as act
use Rattle.pl_node.specs.AddressUses.{is_held, is_in_use}
use Rattle.pl_node.specs.declared.acts.Act.{Act}
use Rattle.pl_node.specs.declared.address_use.AddressUse.{AddressUse}
use Rattle.pl_node.specs.declared.address_use.AddressUse.TheVariants.{Free, InUse, Resting, Trapped}
use Rattle.pl_node.specs.declared.messages.ToManager.TheVariants as tell
use Rattle.pl_node.specs.declared.switch_records.Grant.{Grant}
use Rattle.pl_node.specs.declared.switch_records.Source.{Source}
use Rattle.pl_node.specs.SwitchViews.{SwitchView}
use Rattle.pl_steps.specs.Steps.{rests, ◌▹◌}
use Rattle.pl_switch_rule.specs.Granting.{address_at_port, all_but_first, behind, forgets, freed_at, granted, grants_at, grants_new, grants_next, grants_or_learns, grants_remembered, grants_source, in_use, is_local, learns_ip, learns_source, new_grant, next_vmid, or_else, remembered_at, remembered_ip, remembers, sender_ip, uses, with_grants, with_next}
use Rattle.pl_law_addresses.specs.OwnAddresses.{IsOwnIp}
use Rattle.pl_law_addresses.specs.FreeVmids.{AreFreeVmids}
use Rattle.pl_law_addresses.specs.EdgeAddresses.{IsGoodAddressTable, is_settled}
use Rattle.pl_law_addresses.proofs.FreeLists.{held_free, next_granted, table_alike, table_with_free, table_with_grants, unheld_there}
use Rattle.pl_law_addresses.proofs.GrantsByNumber.{IsInUse, granted_here, local_here, now_at, number_set_other, number_set_same, number_within, others_at, used_is}
use Rattle.pl_law_addresses.proofs.RowsLeaveAddresses.{Grows, Keeps, SaysSo, StaysTo, free_acts, grant_acts, keeps_either, keeps_holders, keeps_then, rests_keeps}

-- ---- the lists of a switch
module _ (own : Mac → Option Ip4) where
  -- what is found where something was put is that, or nothing is there
  put_or_none : {X : Type 0} (xs : List X) (i : ℕ) (x d y : X) → get_or (set xs i x) i d ≡ y → (x ≡ y) ⊎ (d ≡ y)
  put_or_none [] i x d y h = inr h
  put_or_none (z ∷ xs) zero x d y h = inl h
  put_or_none (z ∷ xs) (suc i) x d y h = put_or_none xs i x d y h

  pub address_table_with_source : (v : SwitchView) (port : ℕ) (new : Option Source) → ((source : Source) → new ≡ Some source → IsOwnIp own source.amac source.ip) → IsGoodAddressTable own v →
      IsGoodAddressTable own (record v { remembered = set v.remembered port new })
  address_table_with_source v port new is_own b = record {
    many = b.many;
    many_freed = b.many_freed;
    empty = b.empty;
    free = b.free;
    sources = λ at source is. elim (cases_eq at port) [
      | inr other ↦ b.sources at source (sym (get_or-set_other v.remembered port at new None other) ∙ is)
      | inl here ↦
          elim (put_or_none v.remembered port new None (Some source) (ap (λ n. get_or (set v.remembered port new) n None) (sym here) ∙ is)) [
            | inl put ↦ is_own source put
            | inr none ↦ absurd (none-some source none)
          ]
    ];
  }

one_at_most : (b : Bool) → (if b then 1 else 0) + 0 ≤ 1
one_at_most true = omega arith
one_at_most false = omega arith

module _ (own : Mac → Option Ip4) where
  -- ---- the next address of a port
  module _ (v : SwitchView) (port : ℕ) (mac : Mac) (ip : Option Ip4) (vmid : ℕ) (settled : is_settled v.place ≡ true) (within : port < v.k)
      (is_next : next_vmid (freed_at v port) (grants_at v port) ≡ Some vmid) where
    abbrev x : Pmac
    x = address_at_port v port vmid

    abbrev new : List Grant
    new = with_next (freed_at v port) (grants_at v port) (new_grant mac ip)

    here : is_local v x ≡ true
    here = local_here v port vmid settled

    -- it was nobody's, and is this host's then
    record IsGivenNow : Type 0 where
      now : granted (with_grants v port new) x ≡ Some (new_grant mac ip)
      others : (y : Pmac) → same_pmac y x ≡ false → granted (with_grants v port new) y ≡ granted v y
      unheld : (h : Grant) → granted v x ≡ Some h → is_held h.held ≡ true → ⊥
      left : AreFreeVmids new (all_but_first (freed_at v port))

    given_now : IsGoodAddressTable own v → IsGivenNow
    given_now table =
        let many : port < length v.grants = subst (λ n. port < n) (sym table.many) within in
        let n = next_granted (grants_at v port) (freed_at v port) vmid (new_grant mac ip) (table.free port) refl is_next in
        record {
          now = now_at v x new many here ∙ n.now;
          others = others_at v x new many here n.others;
          unheld = λ h is held. n.unheld h (sym (granted_here v x here) ∙ is) held;
          left = n.left;
        }

    next_grows : IsGoodAddressTable own v → Grows v (grants_new v port mac ip x)
    next_grows table =
        let it = given_now table in
        record {
          stays = keeps_holders (λ y. granted v y) (λ y. granted (with_grants v port new) y) x (new_grant mac ip) it.now it.others
              (λ h is held. absurd (it.unheld h is held));
          once = λ z. one_at_most (same_pmac x z);
          says = ((unheld_there (granted v x) it.unheld, record { grant = new_grant mac ip; found = it.now; held = refl; to = refl }), (tt, tt));
          frees_none = λ z. refl;
        }

    keeps_new : Keeps own v (grants_new v port mac ip x)
    keeps_new = record {
      table = λ table.
          table_alike own (record (with_grants v port new) { freed = set v.freed port (all_but_first (freed_at v port)) }) (grants_new v port mac ip x).view
          refl refl refl refl refl (table_with_free own v port new settled within table (all_but_first (freed_at v port)) (given_now table).left);
      grows = λ table. next_grows table;
      place = refl;
      k = refl;
    }

  keeps_next : (v : SwitchView) (port : ℕ) (mac : Mac) (ip : Option Ip4) → is_settled v.place ≡ true → port < v.k → (o : Option ℕ) →
      next_vmid (freed_at v port) (grants_at v port) ≡ o → Keeps own v (grants_next v port mac ip o)
  keeps_next v port mac ip settled within None is = rests_keeps own v
  keeps_next v port mac ip settled within (Some vmid) is = keeps_new v port mac ip vmid settled within is

  -- ---- an address in use is used
  module _ (v : SwitchView) (port vmid : ℕ) (mac : Mac) (settled : is_settled v.place ≡ true) (within : port < v.k) (u : IsInUse (grants_at v port) mac vmid) where
    abbrev old : Pmac
    old = address_at_port v port vmid

    in_place : is_local v old ≡ true
    in_place = local_here v port vmid settled

    held_in_use : (h : AddressUse) → is_in_use h ≡ true → is_held h ≡ true
    held_in_use (InUse idle) used = refl
    held_in_use (Trapped trap age) used = absurd (false≢true used)
    held_in_use (Resting number) used = absurd (false≢true used)
    held_in_use Free used = absurd (false≢true used)

    -- the use of the address is new, and maybe its IPv4 address
    module _ (known : Grant) (same : known.amac ≡ u.grant.amac) (used : known.held ≡ InUse 0) where
      abbrev list : List Grant
      list = set (grants_at v port) (vmid - 1) known

      record IsUsedNow : Type 0 where
        was : granted v old ≡ Some u.grant
        now : granted (with_grants v port list) old ≡ Some known
        others : (y : Pmac) → same_pmac y old ≡ false → granted (with_grants v port list) y ≡ granted v y
        stays : StaysTo (λ y. granted v y) old known
        free : AreFreeVmids list (freed_at v port)

      used_now : IsGoodAddressTable own v → IsUsedNow
      used_now table =
          let many : port < length v.grants = subst (λ n. port < n) (sym table.many) within in
          let some = (number_within (grants_at v port) vmid u.grant u.found).0 in
          let was : granted v old ≡ Some u.grant = granted_here v old in_place ∙ u.found in
          record {
            was = was;
            now = now_at v old list many in_place ∙ number_set_same (grants_at v port) vmid u.grant known u.found;
            others = others_at v old list many in_place (λ n other. number_set_other (grants_at v port) vmid n known some other);
            stays = λ h is held. (ap is_held used, same ∙ ap (λ (g : Grant). g.amac) (same_Some u.grant h (sym was ∙ is)));
            free = held_free (grants_at v port) (freed_at v port) vmid u.grant known (table.free port) u.found (held_in_use u.grant.held u.used) (ap is_held used);
          }

      uses_now : (acts : List Act) → ((x : Pmac) → grant_acts x acts ≤ 1) → ((x : Pmac) → free_acts x acts ≡ 0) →
          AllByRecursion (SaysSo v (record (with_grants v port list) { used = behind old v.used })) acts →
          Keeps own v (record { view = record (with_grants v port list) { used = behind old v.used }; acts = acts })
      uses_now acts few none says = record {
        table = λ table.
            table_alike own (with_grants v port list) (record (with_grants v port list) { used = behind old v.used }) refl refl refl refl refl
            (table_with_grants own v port list settled within table (used_now table).free);
        grows = λ table. let it = used_now table in record {
          stays = keeps_holders (λ y. granted v y) (λ y. granted (with_grants v port list) y) old known it.now it.others it.stays;
          once = few;
          says = says;
          frees_none = none;
        };
        place = refl;
        k = refl;
      }

    abbrev used_again : Grant
    used_again = record u.grant { held = InUse 0 }

    keeps_used : Keeps own v (rests (uses v old u.grant))
    keeps_used = uses_now used_again refl refl [] (λ x. omega arith) (λ x. refl) tt

    keeps_known : (ip : Option Ip4) → Keeps own v (learns_ip v old (Some u.grant) ip)
    keeps_known None = keeps_used
    keeps_known (Some ip) =
        let known : Grant = record u.grant { ip = Some ip; held = InUse 0 } in
        let said = act.Tell (tell.Learned old u.grant.amac (Some ip)) ∷ [] in
        keeps_either own v (is_ip u.grant.ip ip) (rests (uses v old u.grant))
        (record { view = uses v old (record u.grant { ip = Some ip }); acts = said })
        (λ as_before. keeps_used)
        (λ other. uses_now known refl refl said (λ x. omega arith) (λ x. refl) (tt, tt))

  -- ---- a source at a port
  module _ (v : SwitchView) (port : ℕ) (mac : Mac) (ip : Option Ip4) (settled : is_settled v.place ≡ true) (within : port < v.k) where
    keeps_source : (o : Option ℕ) → in_use (grants_at v port) mac ≡ o → Keeps own v (grants_or_learns v port mac ip o)
    keeps_source (Some vmid) is =
        let u = used_is (grants_at v port) mac vmid is in
        subst (λ (o : Option Grant). Keeps own v (learns_ip v (address_at_port v port vmid) o ip)) (sym u.found)
        (keeps_known v port vmid mac settled within u ip)
    keeps_source None is = keeps_next v port mac ip settled within (next_vmid (freed_at v port) (grants_at v port)) refl

    keeps_grants_or_learns : Keeps own v (grants_or_learns v port mac ip (in_use (grants_at v port) mac))
    keeps_grants_or_learns = keeps_source (in_use (grants_at v port) mac) refl

  -- ---- sources that are remembered
  remembered_grows : (v : SwitchView) (port : ℕ) (new : Option Source) → Grows v (rests (record v { remembered = set v.remembered port new }))
  remembered_grows v port new = record { once = λ x. omega arith; stays = λ x mac is. is; says = tt; frees_none = λ x. refl }

  own_remembered : (source : Option Source) (mac : Mac) → ((s : Source) → source ≡ Some s → IsOwnIp own s.amac s.ip) → IsOwnIp own mac (remembered_ip source mac)
  own_remembered None mac are = λ ip is. absurd (none-some ip is)
  own_remembered (Some s) mac are = own_if (same_mac s.amac mac) refl
    where
      own_if : (b : Bool) → same_mac s.amac mac ≡ b → IsOwnIp own mac (if b then s.ip else None)
      own_if true is = subst (λ (m : Mac). IsOwnIp own m s.ip) (mac_is s.amac mac is) (are s refl)
      own_if false is = λ ip h. absurd (none-some ip h)

  own_or : (mac : Mac) (a b : Option Ip4) → IsOwnIp own mac a → IsOwnIp own mac b → IsOwnIp own mac (or_else a b)
  own_or mac None b p q = q
  own_or mac (Some ip) b p q = p

  -- an edge switch that is not placed remembers a source
  keeps_remembers : (v : SwitchView) (port : ℕ) (mac : Mac) (ip : Option Ip4) → IsOwnIp own mac ip → Keeps own v (remembers v port mac ip)
  keeps_remembers v port mac ip is_own = record {
    table = λ table.
        address_table_with_source own v port (Some (record { amac = mac; ip = or_else ip (remembered_ip (remembered_at v port) mac) }))
        (λ source is. let same = same_Some (record { amac = mac; ip = or_else ip (remembered_ip (remembered_at v port) mac) }) source is in
        subst (λ (s : Source). IsOwnIp own s.amac s.ip) same
        (own_or mac ip (remembered_ip (remembered_at v port) mac) is_own
        (own_remembered (remembered_at v port) mac (λ s found. table.sources port s found)))) table;
    grows = λ table. remembered_grows v port (Some (record { amac = mac; ip = or_else ip (remembered_ip (remembered_at v port) mac) }));
    place = refl;
    k = refl;
  }

  -- the source of a frame that a host sends is learnt
  pub keeps_learns_source : (v : SwitchView) (port : ℕ) (frame : List ℕ) → v.place.level ≡ Some 0 → port < v.k → IsOwnIp own (source_of frame) (sender_ip frame) →
      Keeps own v (learns_source v port frame)
  keeps_learns_source v port frame edge within is_own =
      keeps_either own v (is_placed v.place)
      (grants_or_learns v port (source_of frame) (sender_ip frame) (in_use (grants_at v port) (source_of frame)))
      (remembers v port (source_of frame) (sender_ip frame))
      (λ placed. keeps_grants_or_learns v port (source_of frame) (sender_ip frame)
      (and_from (is_known v.place.level 0) (is_placed v.place) (ap (λ (o : Option ℕ). is_known o 0) edge) placed) within)
      (λ unplaced. keeps_remembers v port (source_of frame) (sender_ip frame) is_own)

  -- what a port remembers is granted an address, and is forgotten
  keeps_grants_source : (v : SwitchView) (port : ℕ) (o : Option Source) → is_settled v.place ≡ true → port < v.k → Keeps own v (grants_source v port o)
  keeps_grants_source v port None settled within = rests_keeps own v
  keeps_grants_source v port (Some s) settled within = keeps_grants_or_learns v port s.amac s.ip settled within

  keeps_forgets : (v : SwitchView) (port : ℕ) → Keeps own v (forgets port v)
  keeps_forgets v port = record {
    table = λ table. address_table_with_source own v port None (λ source is. absurd (none-some source is)) table;
    grows = λ table. remembered_grows v port None;
    place = refl;
    k = refl;
  }

  -- and so for each of some ports
  pub keeps_grants_remembered : (ports : List ℕ) (v : SwitchView) → is_settled v.place ≡ true → AllByRecursion (λ port. port < v.k) ports →
      Keeps own v (grants_remembered ports v)
  unfolding grants_remembered
  keeps_grants_remembered [] v settled within = rests_keeps own v
  keeps_grants_remembered (port ∷ ports) v settled within =
      let one = keeps_grants_source v port (remembered_at v port) settled within.0 in
      let both = keeps_then own v (grants_source v port (remembered_at v port)) (forgets port) one
      (keeps_forgets (grants_source v port (remembered_at v port)).view port) in
      keeps_then own v (grants_source v port (remembered_at v port) ▹ forgets port) (grants_remembered ports) both
      (keeps_grants_remembered ports (grants_source v port (remembered_at v port) ▹ forgets port).view
      (ap (λ (p : Place). is_settled p) both.place ∙ settled) (subst (λ (n : ℕ). AllByRecursion (λ (q : ℕ). q < n) ports) (sym both.k) within.1))
