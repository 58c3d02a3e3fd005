-- What an edge switch knows of the host at a port of it, and how it learns it.
use Rattle.std.proofs.Common.{◌≡◌, ◌≢◌, ◌⊎◌, ◌≤◌, ◌<◌, ◌+◌, ◌-◌, ◌&&◌, ◌||◌, ℕ, nat_lt, Bool, true, false, cond, if◌then◌else◌, get_or, set, List, [], ◌∷◌, ◌++◌, length, Option, Some, None, is_some, refl, sym, ap, subst, ◌∙◌, inl, inr, arith, eqb-true, get_or-set_same, get_or-set_other, length-set, length-append}
use Rattle.std.proofs.lemmas.Bool.{cond_both, false≢true, ltb-true}
use Rattle.std.proofs.lemmas.Bool.Decides.{Decides-ltb}
use Rattle.std.proofs.lemmas.Option.{none-some, same_Some}
use Rattle.pl_frame.specs.declared.address.Ip4.{Ip4}
use Rattle.pl_frame.specs.declared.address.Mac.{Mac}
use Rattle.pl_frame.specs.Ethernet.{source_of}
use Rattle.pl_arp.specs.declared.cache.Me.{Me}
use Rattle.pl_pmac.specs.declared.pmac.Pmac.{Pmac}
use Rattle.pl_layouts.specs.declared.place.Place.{Place}
use Rattle.pl_layouts.specs.Placement.{is_known, is_placed}
use Rattle.pl_node.specs.declared.acts.Act.{Act}
use Rattle.pl_node.specs.declared.address_use.AddressUse.TheVariants.{InUse}
use Rattle.pl_node.specs.declared.switch_records.Grant.{Grant}
use Rattle.pl_node.specs.declared.switch_records.Source.{Source}
use Rattle.pl_node.specs.SwitchViews.{SwitchView}
use Rattle.pl_steps.specs.Steps.{SwitchStep, rests, ◌▹◌}
use Rattle.pl_node.specs.declared.acts.Act.TheVariants as act
use Rattle.pl_node.specs.declared.messages.ToManager.TheVariants as tell
use Rattle.pl_switch_rule.specs.Granting.{address_at_port, all_but_first, forgets, freed_at, grant_number, grants_at, grants_next, grants_or_learns, grants_source, in_use, learns_ip, learns_source, new_grant, next_vmid, or_else, remembered_at, remembered_ip, remembers, sender_ip, uses, with_grant, with_grants, with_next}
use Rattle.pl_law_addresses.specs.EdgeAddresses.{is_settled}
use Rattle.pl_law_addresses.proofs.Exports.{IsInUse, LeavesAddresses, number_push_same, number_set_same, used_is}
use Rattle.pl_law_registration.proofs.FirstUses.{AreGiven, given_number, use_first, use_last, use_same}
use Rattle.pl_layouts.specs.Equality.{is_ip}
use Rattle.pl_layouts.proofs.Exports.{mac_itself}

-- ---- an edge switch is placed or not: its level is not another one
pub record IsLow (place : Place) : Type 0 where
  pub middle : is_known place.level 1 ≡ false
  pub top : is_known place.level 2 ≡ false

twice : (a b : Bool) → (a && (a && b)) ≡ (a && b)
twice true b = refl
twice false b = refl

pub low_placed : (place : Place) → IsLow place → is_placed place ≡ is_settled place
low_placed place low =
    let rest : Bool = is_some place.position && is_some place.pod in
    let placed : is_placed place ≡ (is_known place.level 0 && is_some place.position && is_some place.pod) =
    ap (λ b. (b || (is_known place.level 1 && is_some place.pod)) || (is_known place.level 0 && is_some place.position && is_some place.pod)) low.top
    ∙ ap (λ b. (b && is_some place.pod) || (is_known place.level 0 && is_some place.position && is_some place.pod)) low.middle in
    placed ∙ grouped (is_known place.level 0) (is_some place.position) (is_some place.pod) ∙ ap (λ b. is_known place.level 0 && b) (sym placed)
  where
    grouped : (a b c : Bool) → ((a && b) && c) ≡ (a && ((a && b) && c))
    grouped true b c = refl
    grouped false b c = refl

-- the lists of a switch have places for this port, and its free addresses were given
pub record HasPort (v : SwitchView) (port : ℕ) : Type 0 where
  pub grants : port < length v.grants
  pub remembered : port < length v.remembered
  pub free : AreGiven (grants_at v port) (freed_at v port)

-- what a switch knows at a port is the same
pub record IsSameAt (port : ℕ) (v w : SwitchView) : Type 0 where
  pub place : w.place ≡ v.place
  pub grants : grants_at w port ≡ grants_at v port
  pub freed : freed_at w port ≡ freed_at v port
  pub remembered : remembered_at w port ≡ remembered_at v port
  pub many : length w.grants ≡ length v.grants
  pub many_remembered : length w.remembered ≡ length v.remembered

pub same_then : (port : ℕ) (u v w : SwitchView) → IsSameAt port u v → IsSameAt port v w → IsSameAt port u w
same_then port u v w a b = record {
  place = b.place ∙ a.place;
  grants = b.grants ∙ a.grants;
  freed = b.freed ∙ a.freed;
  remembered = b.remembered ∙ a.remembered;
  many = b.many ∙ a.many;
  many_remembered = b.many_remembered ∙ a.many_remembered;
}

pub same_self : (port : ℕ) (v : SwitchView) → IsSameAt port v v
same_self port v = record { place = refl; grants = refl; freed = refl; remembered = refl; many = refl; many_remembered = refl }

pub aside_same : (port : ℕ) (v : SwitchView) (s : SwitchStep) → LeavesAddresses v s → IsSameAt port v s.view
aside_same port v s a = record {
  place = a.place;
  grants = ap (λ (gs : List (List Grant)). get_or gs port []) a.grants;
  freed = ap (λ (fs : List (List ℕ)). get_or fs port []) a.freed;
  remembered = ap (λ (rs : List (Option Source)). get_or rs port None) a.remembered;
  many = ap (λ (gs : List (List Grant)). length gs) a.grants;
  many_remembered = ap (λ (rs : List (Option Source)). length rs) a.remembered;
}

pub same_port : (port : ℕ) (v w : SwitchView) → IsSameAt port v w → HasPort v port → HasPort w port
same_port port v w same has = record {
  grants = subst (λ n. port < n) (sym same.many) has.grants;
  remembered = subst (λ n. port < n) (sym same.many_remembered) has.remembered;
  free = subst (λ (fs : List ℕ). AreGiven (grants_at w port) fs) (sym same.freed) (subst (λ (gs : List Grant). AreGiven gs (freed_at v port)) (sym same.grants) has.free);
}

-- ---- elsewhere
module _ (port q : ℕ) (other : port ≢ q) where
  -- the grants of another port change, and its free addresses
  pub grants_elsewhere : (v w : SwitchView) (gs : List Grant) (freed : List ℕ) → w.place ≡ v.place → w.grants ≡ set v.grants q gs → (w.freed ≡ v.freed) ⊎ (w.freed ≡ set v.freed q freed) →
      w.remembered ≡ v.remembered → IsSameAt port v w
  grants_elsewhere v w gs freed place grants free remembered = record {
    place = place;
    grants = ap (λ (xs : List (List Grant)). get_or xs port []) grants ∙ get_or-set_other v.grants q port gs [] other;
    freed = elim free [
      | inl same ↦ ap (λ (xs : List (List ℕ)). get_or xs port []) same
      | inr changed ↦ ap (λ (xs : List (List ℕ)). get_or xs port []) changed ∙ get_or-set_other v.freed q port freed [] other
    ];
    remembered = ap (λ (rs : List (Option Source)). get_or rs port None) remembered;
    many = ap (λ (xs : List (List Grant)). length xs) grants ∙ length-set v.grants q gs;
    many_remembered = ap (λ (rs : List (Option Source)). length rs) remembered;
  }

  source_elsewhere : (v : SwitchView) (s : Option Source) → IsSameAt port v (record v { remembered = set v.remembered q s })
  source_elsewhere v s = record {
    place = refl;
    grants = refl;
    freed = refl;
    remembered = get_or-set_other v.remembered q port s None other;
    many = refl;
    many_remembered = length-set v.remembered q s;
  }

  use_elsewhere : (v : SwitchView) (vmid : ℕ) (g : Grant) → IsSameAt port v (uses v (address_at_port v q vmid) g)
  use_elsewhere v vmid g =
      grants_elsewhere v (uses v (address_at_port v q vmid) g) (set (grants_at v q) (vmid - 1) (record g { held = InUse 0 })) [] refl refl (inl refl) refl

  ip_elsewhere : (v : SwitchView) (vmid : ℕ) (o : Option Grant) (ip : Option Ip4) → IsSameAt port v (learns_ip v (address_at_port v q vmid) o ip).view
  ip_elsewhere v vmid None ip = same_self port v
  ip_elsewhere v vmid (Some g) None = use_elsewhere v vmid g
  ip_elsewhere v vmid (Some g) (Some ip) =
      let x : Pmac = address_at_port v q vmid in
      cond_both (is_ip g.ip ip) (rests (uses v x g)) (record { view = uses v x (record g { ip = Some ip }); acts = act.Tell (tell.Learned x g.amac (Some ip)) ∷ [] })
      (λ (s : SwitchStep). IsSameAt port v s.view) (λ h. use_elsewhere v vmid g) (λ h. use_elsewhere v vmid (record g { ip = Some ip }))

  next_elsewhere : (v : SwitchView) (mac : Mac) (ip : Option Ip4) (o : Option ℕ) → IsSameAt port v (grants_next v q mac ip o).view
  next_elsewhere v mac ip None = same_self port v
  next_elsewhere v mac ip (Some vmid) =
      grants_elsewhere v (grants_next v q mac ip (Some vmid)).view (with_next (freed_at v q) (grants_at v q) (new_grant mac ip)) (all_but_first (freed_at v q)) refl refl (inr refl) refl

  mac_elsewhere : (v : SwitchView) (mac : Mac) (ip : Option Ip4) (o : Option ℕ) → IsSameAt port v (grants_or_learns v q mac ip o).view
  mac_elsewhere v mac ip (Some vmid) = ip_elsewhere v vmid (grant_number (grants_at v q) vmid) ip
  mac_elsewhere v mac ip None = next_elsewhere v mac ip (next_vmid (freed_at v q) (grants_at v q))

  pub learns_elsewhere : (v : SwitchView) (frame : List ℕ) → IsSameAt port v (learns_source v q frame).view
  learns_elsewhere v frame =
      cond_both (is_placed v.place) (grants_or_learns v q (source_of frame) (sender_ip frame) (in_use (grants_at v q) (source_of frame)))
      (remembers v q (source_of frame) (sender_ip frame)) (λ (s : SwitchStep). IsSameAt port v s.view)
      (λ h. mac_elsewhere v (source_of frame) (sender_ip frame) (in_use (grants_at v q) (source_of frame)))
      (λ h. source_elsewhere v (Some (record { amac = source_of frame; ip = or_else (sender_ip frame) (remembered_ip (remembered_at v q) (source_of frame)) })))

  granted_elsewhere : (v : SwitchView) (o : Option Source) → IsSameAt port v (grants_source v q o).view
  granted_elsewhere v None = same_self port v
  granted_elsewhere v (Some s) = mac_elsewhere v s.amac s.ip (in_use (grants_at v q) s.amac)

  pub one_elsewhere : (v : SwitchView) → IsSameAt port v (grants_source v q (remembered_at v q) ▹ forgets q).view
  one_elsewhere v =
      let w = (grants_source v q (remembered_at v q)).view in
      same_then port v w (forgets q w).view (granted_elsewhere v (remembered_at v q)) (source_elsewhere w None)

-- ---- here
module _ (me : Me) where
  -- the address that the host has in use was used so many ticks ago at most, and has its IPv4 address
  pub record Serves (ticks : ℕ) (gs : List Grant) : Type 0 where
    pub vmid : ℕ
    pub grant : Grant
    pub idle : ℕ
    pub its : in_use gs me.mac ≡ Some vmid
    pub found : grant_number gs vmid ≡ Some grant
    pub used : grant.held ≡ InUse idle
    pub young : idle ≤ ticks
    pub mac : grant.amac ≡ me.mac
    pub ip : grant.ip ≡ Some me.ip

  -- unless all were given
  abbrev pub ServesIfRoom : ℕ → List Grant → Type 0
  ServesIfRoom ticks gs = nat_lt (length gs) 65535 ≡ true → Serves ticks gs

  abbrev pub mine : Source
  mine = record { amac = me.mac; ip = Some me.ip }

  -- an edge switch that is placed serves the host, and another one remembers it
  pub record Knows (ticks : ℕ) (settled : Bool) (gs : List Grant) (source : Option Source) : Type 0 where
    pub unplaced : settled ≡ false → source ≡ Some mine
    pub placed : settled ≡ true → ServesIfRoom ticks gs

  abbrev pub KnowsAt : ℕ → SwitchView → ℕ → Type 0
  KnowsAt ticks v port = Knows ticks (is_settled v.place) (grants_at v port) (remembered_at v port)

  pub same_knows : (ticks port : ℕ) (v w : SwitchView) → IsSameAt port v w → KnowsAt ticks v port → KnowsAt ticks w port
  same_knows ticks port v w same knows = record {
    unplaced = λ un. same.remembered ∙ knows.unplaced (ap (λ (p : Place). is_settled p) (sym same.place) ∙ un);
    placed = λ settled. subst (λ (gs : List Grant). ServesIfRoom ticks gs) (sym same.grants) (knows.placed (ap (λ (p : Place). is_settled p) (sym same.place) ∙ settled));
  }

  -- a frame of the host says its IPv4 address, or nothing of it where the host is known
  abbrev pub IsSaid : Option Ip4 → Type 0 → Type 0
  IsSaid ip knows = (ip ≡ Some me.ip) ⊎ ((ip ≡ None) × knows)

  -- it serves the host then, which used its address just now
  pub record Learns (port : ℕ) (v : SwitchView) (s : SwitchStep) : Type 0 where
    pub place : s.view.place ≡ v.place
    pub many : length s.view.grants ≡ length v.grants
    pub many_remembered : length s.view.remembered ≡ length v.remembered
    pub serves : ServesIfRoom 0 (grants_at s.view port)

  ip_is : (o : Option Ip4) (ip : Ip4) → is_ip o ip ≡ true → o ≡ Some ip
  ip_is None ip is = absurd (false≢true is)
  ip_is (Some known) ip is = ap Some (ap (λ n. let a : Ip4 = record { 0 = n } in a) (eqb-true known.0 ip.0 is))

  module _ (v : SwitchView) (port : ℕ) (has : HasPort v port) where
    list_now : (new : List Grant) → grants_at (with_grants v port new) port ≡ new
    list_now new = get_or-set_same v.grants port new [] has.grants

    -- the address is used, and has this IPv4 address from then on
    used_now : (vmid : ℕ) → in_use (grants_at v port) me.mac ≡ Some vmid → (u : IsInUse (grants_at v port) me.mac vmid) (ip : Option Ip4) →
        (nat_lt (length (grants_at v port)) 65535 ≡ true → ip ≡ Some me.ip) →
        (w : SwitchView) → w.place ≡ v.place → w.grants ≡ (with_grant v (address_at_port v port vmid) (record u.grant { ip = ip; held = InUse 0 })).grants → w.remembered ≡ v.remembered →
        (acts : List Act) → Learns port v (record { view = w; acts = acts })
    used_now vmid is u ip its w place grants remembered acts =
        let new : Grant = record u.grant { ip = ip; held = InUse 0 } in
        let list : List Grant = set (grants_at v port) (vmid - 1) new in
        let now : grants_at w port ≡ list = ap (λ (xs : List (List Grant)). get_or xs port []) grants ∙ list_now list in
        record {
          place = place;
          many = ap (λ (xs : List (List Grant)). length xs) grants ∙ length-set v.grants port list;
          many_remembered = ap (λ (rs : List (Option Source)). length rs) remembered;
          serves = λ room. subst (λ (l : List Grant). Serves 0 l) (sym now) (record {
            vmid = vmid;
            grant = new;
            idle = 0;
            its = use_same me.mac (grants_at v port) vmid u.grant new is u.found refl u.mac_is;
            found = number_set_same (grants_at v port) vmid u.grant new u.found;
            used = refl;
            young = omega arith;
            mac = u.mac_is;
            ip = its (sym (ap (λ (l : List Grant). nat_lt (length l) 65535) now ∙ ap (λ n. nat_lt n 65535) (length-set (grants_at v port) (vmid - 1) new)) ∙ room);
          });
        }

    by_ip : (ticks vmid : ℕ) → in_use (grants_at v port) me.mac ≡ Some vmid → (u : IsInUse (grants_at v port) me.mac vmid) (ip : Option Ip4) →
        IsSaid ip (ServesIfRoom ticks (grants_at v port)) → Learns port v (learns_ip v (address_at_port v port vmid) (Some u.grant) ip)
    by_ip ticks vmid is u None (inl said) = absurd (none-some me.ip said)
    by_ip ticks vmid is u None (inr said) =
        used_now vmid is u u.grant.ip
        (λ room.
        let s = said.1 room in
        let number : s.vmid ≡ vmid = same_Some s.vmid vmid (sym s.its ∙ is) in
        let one : s.grant ≡ u.grant = same_Some s.grant u.grant (sym s.found ∙ ap (λ n. grant_number (grants_at v port) n) number ∙ u.found) in
        ap (λ (g : Grant). g.ip) (sym one) ∙ s.ip)
        (uses v (address_at_port v port vmid) u.grant) refl refl refl []
    by_ip ticks vmid is u (Some j) (inr said) = absurd (none-some j (sym said.0))
    by_ip ticks vmid is u (Some j) (inl said) =
        let its : ◌≡◌ {A = Option Ip4} (Some j) (Some me.ip) = said in
        let x : Pmac = address_at_port v port vmid in
        cond_both (is_ip u.grant.ip j) (rests (uses v x u.grant)) (record { view = uses v x (record u.grant { ip = Some j }); acts = act.Tell (tell.Learned x u.grant.amac (Some j)) ∷ [] })
        (Learns port v)
        (λ same. used_now vmid is u u.grant.ip (λ room. ip_is u.grant.ip j same ∙ its) (uses v x u.grant) refl refl refl [])
        (λ other. used_now vmid is u (Some j) (λ room. its) (uses v x (record u.grant { ip = Some j })) refl refl refl (act.Tell (tell.Learned x u.grant.amac (Some j)) ∷ []))

    -- it is granted one
    module _ (ip : Option Ip4) (unused : in_use (grants_at v port) me.mac ≡ None) where
      record IsNext (list : List Grant) (vmid : ℕ) : Type 0 where
        its : in_use list me.mac ≡ Some vmid
        found : grant_number list vmid ≡ Some (new_grant me.mac ip)
        more : length (grants_at v port) ≤ length list

      is_next : (freed : List ℕ) (vmid : ℕ) → AreGiven (grants_at v port) freed → next_vmid freed (grants_at v port) ≡ Some vmid → IsNext (with_next freed (grants_at v port) (new_grant me.mac ip)) vmid
      is_next (n ∷ freed) vmid given is =
          let gs : List Grant = grants_at v port in
          let it = given_number gs n given.0 in
          let same : n ≡ vmid = same_Some n vmid is in
          subst (λ m. IsNext (set gs (n - 1) (new_grant me.mac ip)) m) same (record {
            its = use_first me.mac gs n it.0 (new_grant me.mac ip) unused it.1 refl refl;
            found = number_set_same gs n it.0 (new_grant me.mac ip) it.1;
            more = let many = length-set gs (n - 1) (new_grant me.mac ip) in omega (arith, many);
          })
      is_next [] vmid given is = by (nat_lt (length (grants_at v port)) 65535) is
        where
          by : (b : Bool) → cond b (Some (length (grants_at v port) + 1)) None ≡ Some vmid → IsNext (grants_at v port ++ new_grant me.mac ip ∷ []) vmid
          by true some =
              let gs : List Grant = grants_at v port in
              subst (λ m. IsNext (gs ++ new_grant me.mac ip ∷ []) m) (same_Some (length gs + 1) vmid some) (record {
                its = use_last me.mac gs (new_grant me.mac ip) unused refl refl;
                found = number_push_same gs (new_grant me.mac ip);
                more = let many = length-append gs (new_grant me.mac ip ∷ []) in omega (arith, many);
              })
          by false none = absurd (none-some vmid none)

      -- there is none where all were given
      no_next : (freed : List ℕ) → next_vmid freed (grants_at v port) ≡ None → nat_lt (length (grants_at v port)) 65535 ≡ true → ⊥
      no_next (n ∷ freed) none room = none-some n (sym none)
      no_next [] none room = by (nat_lt (length (grants_at v port)) 65535) room none
        where
          by : (b : Bool) → b ≡ true → cond b (Some (length (grants_at v port) + 1)) None ≡ None → ⊥
          by true is some = none-some (length (grants_at v port) + 1) (sym some)
          by false is some = false≢true is

      by_next : (ticks : ℕ) → IsSaid ip (ServesIfRoom ticks (grants_at v port)) → (o : Option ℕ) → next_vmid (freed_at v port) (grants_at v port) ≡ o → Learns port v (grants_next v port me.mac ip o)
      by_next ticks said None is = record { place = refl; many = refl; many_remembered = refl; serves = λ room. absurd (no_next (freed_at v port) is room) }
      by_next ticks said (Some vmid) is =
          let new : List Grant = with_next (freed_at v port) (grants_at v port) (new_grant me.mac ip) in
          let next = is_next (freed_at v port) vmid has.free is in
          record {
            place = refl;
            many = length-set v.grants port new;
            many_remembered = refl;
            serves = λ room. subst (λ (l : List Grant). Serves 0 l) (sym (list_now new)) (record {
              vmid = vmid;
              grant = new_grant me.mac ip;
              idle = 0;
              its = next.its;
              found = next.found;
              used = refl;
              young = omega arith;
              mac = refl;
              ip = elim said [
                | inl its ↦ its
                | inr none ↦
                    let s = none.1 (still_room (length (grants_at v port)) (length new) next.more (sym (ap (λ (l : List Grant). nat_lt (length l) 65535) (list_now new)) ∙ room)) in
                    absurd (none-some s.vmid (sym unused ∙ s.its))
              ];
            });
          }
        where
          still_room : (a b : ℕ) → a ≤ b → nat_lt b 65535 ≡ true → nat_lt a 65535 ≡ true
          still_room a b le room = let less = ltb-true b 65535 room in (Decides-ltb a 65535).1 (omega (arith, le, less))

    by_use : (ticks : ℕ) (ip : Option Ip4) → IsSaid ip (ServesIfRoom ticks (grants_at v port)) → (o : Option ℕ) → in_use (grants_at v port) me.mac ≡ o →
        Learns port v (grants_or_learns v port me.mac ip o)
    by_use ticks ip said (Some vmid) is =
        let u = used_is (grants_at v port) me.mac vmid is in
        subst (λ (o : Option Grant). Learns port v (learns_ip v (address_at_port v port vmid) o ip)) (sym u.found) (by_ip ticks vmid is u ip said)
    by_use ticks ip said None is = by_next ip is ticks said (next_vmid (freed_at v port) (grants_at v port)) refl

    pub by_source : (ticks : ℕ) (ip : Option Ip4) → IsSaid ip (ServesIfRoom ticks (grants_at v port)) → Learns port v (grants_or_learns v port me.mac ip (in_use (grants_at v port) me.mac))
    by_source ticks ip said = by_use ticks ip said (in_use (grants_at v port) me.mac) refl

  -- ---- the source of a frame of the host is learnt
  pub record Taught (port : ℕ) (v : SwitchView) (s : SwitchStep) : Type 0 where
    pub place : s.view.place ≡ v.place
    pub many : length s.view.grants ≡ length v.grants
    pub many_remembered : length s.view.remembered ≡ length v.remembered
    pub knows : KnowsAt 0 s.view port

  remembering : (ticks : ℕ) (v : SwitchView) (port : ℕ) (ip : Option Ip4) → is_settled v.place ≡ false → port < length v.remembered → IsSaid ip (KnowsAt ticks v port) →
      Taught port v (remembers v port me.mac ip)
  remembering ticks v port ip un within said =
      let new : Option Source = Some (record { amac = me.mac; ip = or_else ip (remembered_ip (remembered_at v port) me.mac) }) in
      record {
        place = refl;
        many = refl;
        many_remembered = length-set v.remembered port new;
        knows = record {
          unplaced = λ h. get_or-set_same v.remembered port new None within ∙ ap (λ (o : Option Ip4). Some (let s : Source = record { amac = me.mac; ip = o } in s)) (its ip said);
          placed = λ settled. absurd (false≢true (sym un ∙ settled));
        };
      }
    where
      from_before : Option Source → Option Ip4
      from_before o = or_else None (remembered_ip o me.mac)

      its : (i : Option Ip4) → IsSaid i (KnowsAt ticks v port) → or_else i (remembered_ip (remembered_at v port) me.mac) ≡ Some me.ip
      its None (inl is) = absurd (none-some me.ip is)
      its None (inr is) =
          ap (λ (o : Option Source). remembered_ip o me.mac) (is.1.unplaced un) ∙ ap (λ b. if◌then◌else◌ {A = Option Ip4} b (Some me.ip) None) (mac_itself me.mac)
      its (Some j) (inl is) = is
      its (Some j) (inr is) = absurd (none-some j (sym is.0))

  said_of : (ticks : ℕ) (v : SwitchView) (port : ℕ) (ip : Option Ip4) → is_settled v.place ≡ true → IsSaid ip (KnowsAt ticks v port) → IsSaid ip (ServesIfRoom ticks (grants_at v port))
  said_of ticks v port ip settled (inl is) = inl is
  said_of ticks v port ip settled (inr is) = inr (is.0, is.1.placed settled)

  pub teaches : (ticks : ℕ) (v : SwitchView) (port : ℕ) (frame : List ℕ) → IsLow v.place → HasPort v port → source_of frame ≡ me.mac → IsSaid (sender_ip frame) (KnowsAt ticks v port) →
      Taught port v (learns_source v port frame)
  teaches ticks v port frame low has source said =
      subst (λ (m : Mac). Taught port v (if is_placed v.place then grants_or_learns v port m (sender_ip frame) (in_use (grants_at v port) m) else remembers v port m (sender_ip frame)))
      (sym source)
      (cond_both (is_placed v.place) (grants_or_learns v port me.mac (sender_ip frame) (in_use (grants_at v port) me.mac)) (remembers v port me.mac (sender_ip frame)) (Taught port v)
      (λ placed.
      let settled : is_settled v.place ≡ true = sym (low_placed v.place low) ∙ placed in
      let it = by_source v port has ticks (sender_ip frame) (said_of ticks v port (sender_ip frame) settled said) in
      record {
        place = it.place;
        many = it.many;
        many_remembered = it.many_remembered;
        knows = record {
          unplaced = λ un. absurd (false≢true (sym un ∙ ap (λ (p : Place). is_settled p) it.place ∙ settled));
          placed = λ h. it.serves;
        };
      })
      (λ unplaced. remembering ticks v port (sender_ip frame) (sym (low_placed v.place low) ∙ unplaced) has.remembered said))
