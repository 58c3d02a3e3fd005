-- A step of a switch keeps the ledger.
use Rattle.std.proofs.Common.{◌≡◌, ◌≢◌, ◌⊎◌, ◌≤◌, ◌<◌, ◌==◌, ◌&&◌, not, ℕ, true, false, get_or, set, List, ◌∷◌, length, Some, slice_get, refl, sym, ap, subst, ◌∙◌, inl, inr, arith, None, Option}
use Rattle.std.specs.List.{AllByRecursion}
use Rattle.std.proofs.lemmas.Bool.{cases_eq, eq-eqb, eqb-true, false_from_ne_true, false≢true}
use Rattle.std.proofs.lemmas.Iterator.Adapters.{position_from-zero}
use Rattle.std.proofs.lemmas.Option.{same_Some, slice_get_within}
use Rattle.pl_node.specs.declared.switch_records.Source.{Source}
use Rattle.pl_lemmas.proofs.Exports.{all_found}
use Rattle.pl_frame.specs.declared.address.Mac.{Mac}
use Rattle.pl_pmac.specs.declared.pmac.Pmac.{Pmac}
use Rattle.pl_pmac.specs.Pmac.{PmacFits, pmac_number}
use Rattle.pl_pmac.proofs.Exports.{same_pmac_number}
use Rattle.pl_layouts.specs.Equality.{same_mac, same_pmac}
use Rattle.pl_layouts.proofs.Exports.{mac_is}
use Rattle.pl_node.specs.AddressUses.{is_held, is_in_use}
use Rattle.pl_node.specs.declared.switch_records.Grant.{Grant}
use Rattle.pl_node.specs.Accounting.{IsShaped}
use Rattle.pl_node.specs.ManagerViews.{Learnt, Registration, registration}
use Rattle.pl_node.specs.SwitchViews.{SwitchView}
use Rattle.pl_journal.specs.declared.entry.Entry.{Entry}
use Rattle.pl_journal.specs.declared.entry.Entry.TheVariants.{Freed}
use Rattle.pl_journal.specs.Places.{at_port, granted_at, is_live as is_live_in, number}
use Rattle.pl_switch_rule.specs.Granting.{granted, grants_at, is_local, remembered_at}
use Rattle.pl_switch_rule.proofs.Exports.{granted_parts}
use Rattle.pl_wiring.specs.declared.host.Host.{Host}
use Rattle.pl_wiring.specs.Plan.{Plan}
use Rattle.pl_world.specs.declared.attachment.AttachmentPoint.{AttachmentPoint}
use Rattle.pl_world.specs.Changes.{host_of}
use Rattle.pl_law_addresses.specs.Addressed.{AreApart, IsGrantedBySome}
use Rattle.pl_law_addresses.specs.EdgeAddresses.{IsHeldFor, is_live}
use Rattle.pl_law_addresses.proofs.Exports.{first_passes, get-set_other, get-set_same, granted_within, in_use_for, is_or_other, not_held, number_within, same_by}
use Rattle.pl_law_ledger.specs.Ledgers.{AreEntered, AreInBounds, HasStoodThere, IsEntered, IsGrantedThere}
use Rattle.pl_law_ledger.proofs.AddressTables.{GivesGood, HasLast, IsFor, SaysAlike, alike, all_backed, backed_later, last_given, last_stays, now_at, other_numbers, some_holder, still_at, was_number}
use Rattle.pl_law_ledger.proofs.Giving.{Giving, IsNewlyGiven, IsOneOf, all_weaker, gives, of_all}
use Rattle.pl_law_ledger.proofs.Takes.{AreFew, AreOf, IsOfHere, IsThereStill, WasGranted}
use Rattle.pl_law_ledger.proofs.Using.{AreOnly, IsTheLast, IsUsedAt}
use Rattle.pl_law_ledger.proofs.GrantsWritten.{all_written}

-- what a switch has at each place, it has also where another list of switches has it there
pub at_same : (switches : List SwitchView) (s : ℕ) (w : SwitchView) (t : ℕ) (u : SwitchView) → s < length switches → slice_get (set switches s w) t ≡ Some u →
    ((t ≡ s) × (w ≡ u)) ⊎ ((t ≢ s) × (slice_get switches t ≡ Some u))
at_same switches s w t u within is = elim (cases_eq t s) [
  | inl same ↦ inl (same, same_Some w u (sym (get-set_same switches s w within) ∙ ap (slice_get (set switches s w)) (sym same) ∙ is))
  | inr other ↦ inr (other, sym (get-set_other switches s t w other) ∙ is)
]

-- each address that is granted fits
pub fits_there : (switches : List SwitchView) → AllByRecursion IsShaped switches → AreInBounds switches →
    ((s : ℕ) (v : SwitchView) (port : ℕ) → slice_get switches s ≡ Some v → length (grants_at v port) ≤ 65535) →
    (s : ℕ) (v : SwitchView) (x : Pmac) (g : Grant) → slice_get switches s ≡ Some v → granted v x ≡ Some g → PmacFits x
fits_there switches shaped bounds few s v x g found is =
    let parts = granted_parts v x g is in
    let form : IsShaped v = all_found IsShaped switches s v shaped found in
    let low = bounds s v x found parts.0 in
    let port : x.port < v.k = granted_within v x g is form.grants in
    let many = form.high in
    let last = (number_within (grants_at v x.port) x.vmid g parts.1).1 in
    let most = few s v x.port found in
    let pod = low.pod in
    let position = low.position in
    record { pod = omega (arith, pod); position = omega (arith, position); port = omega (arith, port, many); vmid = omega (arith, last, most) }

-- an actual address is known by its host
one_mac : (plan : Plan) (a b : Mac) (h : ℕ) → host_of plan a ≡ Some h → host_of plan b ≡ Some h → a ≡ b
one_mac plan a b h is_a is_b =
    let one = first_passes (λ (host : Host). same_mac host.mac a) plan.hosts 0 h
    (sym (position_from-zero (λ (host : Host). same_mac host.mac a) plan.hosts) ∙ is_a) in
    let other = first_passes (λ (host : Host). same_mac host.mac b) plan.hosts 0 h
    (sym (position_from-zero (λ (host : Host). same_mac host.mac b) plan.hosts) ∙ is_b) in
    let here = one.is in let there = other.is in
    let place : one.at ≡ other.at = omega (arith, here, there) in
    let host : one.item ≡ other.item = same_Some one.item other.item (sym one.found ∙ ap (slice_get plan.hosts) place ∙ other.found) in
    sym (mac_is one.item.mac a one.passes) ∙ ap (λ (q : Host). q.mac) host ∙ mac_is other.item.mac b other.passes

-- the port at which it has stood is written down still
pub stood_later : (plan : Plan) (s : ℕ) (entries later : List Entry) (mac : Mac) (t port : ℕ) → SaysAlike plan s entries later →
    HasStoodThere plan entries mac (at_port t port) →
    HasStoodThere plan later mac (at_port t port)
stood_later plan s entries later mac t port same is =
    record { host = is.host; of_mac = is.of_mac; stood = same.stood is.host (at_port t port) ∙ is.stood; for_hosts = is.for_hosts }

module _ (plan : Plan) (learnt : Learnt) (switches : List SwitchView) (attachments : List AttachmentPoint) (entries : List Entry)
    (before : AreEntered plan learnt switches attachments entries) (s : ℕ) (v w : SwitchView) (found : slice_get switches s ≡ Some v)
    (shaped : AllByRecursion IsShaped (set switches s w)) (bounds : AreInBounds (set switches s w)) (apart : AreApart (set switches s w))
    (still : IsThereStill v w) (few : AreFew w) where
  within : s < length switches
  within = slice_get_within switches s v found

  there : slice_get (set switches s w) s ≡ Some w
  there = get-set_same switches s w within

  pub few_now : (t : ℕ) (u : SwitchView) (port : ℕ) → slice_get (set switches s w) t ≡ Some u → length (grants_at u port) ≤ 65535
  unfolding within
  few_now t u port is = elim (at_same switches s w t u within is) [
    | inl here ↦ subst (λ (q : SwitchView). length (grants_at q port) ≤ 65535) here.1 (few port)
    | inr other ↦ before.few t u port other.1
  ]

  pub fits_now : (t : ℕ) (u : SwitchView) (x : Pmac) (g : Grant) → slice_get (set switches s w) t ≡ Some u → granted u x ≡ Some g → PmacFits x
  fits_now t u x g is found = fits_there (set switches s w) shaped bounds few_now t u x g is found

  -- an address of a number that a granted address of this switch has is that one, and of this switch
  one_of_number : (t : ℕ) (u : SwitchView) (x : Pmac) (g : Grant) → slice_get (set switches s w) t ≡ Some u → granted u x ≡ Some g → (y : Pmac) (q : Grant) →
      granted w y ≡ Some q →
      pmac_number y ≡ pmac_number x → (y ≡ x) × (t ≡ s)
  unfolding within there
  one_of_number t u x g is found y q mine same =
      let one : y ≡ x = same_pmac_number y x (fits_now s w y q there mine) (fits_now t u x g is found) same in (
        one,
        apart t s u w x is there (granted_parts u x g found).0 (subst (λ (z : Pmac). is_local w z ≡ true) one (granted_parts w y q mine).0),
      )

  -- what was granted there is granted still
  backed_now : (x : Pmac) (t port : ℕ) → IsGrantedThere switches x t port → IsGrantedThere (set switches s w) x t port
  unfolding there
  backed_now x t port is = elim (cases_eq t s) [
    | inr other ↦ record { view = is.view; grant = is.grant; found = get-set_other switches s t w other ∙ is.found; is = is.is; port_is = is.port_is }
    | inl same ↦
        let view : is.view ≡ v = same_Some is.view v (sym is.found ∙ ap (slice_get switches) same ∙ found) in
        let now = still x is.grant (ap (λ (q : SwitchView). granted q x) (sym view) ∙ is.is) in
        record { view = w; grant = now.0; found = ap (slice_get (set switches s w)) same ∙ there; is = now.1; port_is = is.port_is }
  ]

  -- what is somebody's at some switch before is granted there then
  granted_then : (x : Pmac) (mac : Mac) → IsGrantedBySome switches x mac →
      (t : ℕ) × (u : SwitchView) × (g : Grant) × (slice_get (set switches s w) t ≡ Some u) × (granted u x ≡ Some g)
  unfolding there
  granted_then x mac h = elim (cases_eq h.switch s) [
    | inr other ↦ (h.switch, h.view, h.granted_to.grant, get-set_other switches s h.switch w other ∙ h.found, h.granted_to.found)
    | inl same ↦
        let view : h.view ≡ v = same_Some h.view v (sym h.found ∙ ap (slice_get switches) same ∙ found) in
        let now = still x h.granted_to.grant (ap (λ (q : SwitchView). granted q x) (sym view) ∙ h.granted_to.found) in
        (s, w, now.0, there, now.1)
  ]

  -- ---- addresses are granted
  module _ (gs : List Giving) (fresh : AllByRecursion (IsNewlyGiven v w) gs)
      (of_hosts : AllByRecursion (IsOfHere (λ port mac. HasStoodThere plan entries mac (at_port s port))) gs)
      (covers : (x : Pmac) (g : Grant) → granted w x ≡ Some g → WasGranted v x g ⊎ IsOneOf gs (gives x g.amac))
      (last : (x : Pmac) (mac : Mac) → IsUsedAt w x mac → IsTheLast v gs x mac)
      (sources : AreOf (λ port mac. HasStoodThere plan entries mac (at_port s port)) w)
      (registered : (x : Pmac) (reg : Registration) → registration learnt x ≡ Some reg → IsGrantedBySome switches x reg.amac) where
    -- an address that was granted is written down as it was, where no new one has its number
    entered_old : (t : ℕ) (x : Pmac) (g q : Grant) → q.amac ≡ g.amac → is_held q.held ≡ is_held g.held →
        AllByRecursion (λ h. pmac_number h.pmac ≡ pmac_number x → ⊥) gs →
        IsEntered plan entries t x q → IsEntered plan (all_written plan s entries gs) t x g
    entered_old t x g q mac held none e =
        let at = still_at plan s gs entries (pmac_number x) e.host (at_port t x.port) (is_held q.held)
        (all_weaker (λ h. pmac_number h.pmac ≡ pmac_number x → ⊥) (IsFor plan s (pmac_number x) e.host (at_port t x.port) (is_held q.held))
        (λ h other. inl other) gs none)
        (record { held = e.held; there = e.there; is_so = e.live }) in
        record {
          host = e.host;
          of_mac = ap (host_of plan) (sym mac) ∙ e.of_mac;
          held = at.held;
          live = at.is_so
              ∙ held;
          there = at.there;
          for_hosts = e.for_hosts;
        }

    -- a new address has no number of another one
    new_apart : (t : ℕ) (u : SwitchView) (x : Pmac) (g : Grant) → slice_get (set switches s w) t ≡ Some u → granted u x ≡ Some g →
        ((h : Giving) → IsNewlyGiven v w h → h.pmac ≡ x → t ≡ s → ⊥) →
        AllByRecursion (λ h. pmac_number h.pmac ≡ pmac_number x → ⊥) gs
    new_apart t u x g is found_there never =
        all_weaker (IsNewlyGiven v w) (λ h. pmac_number h.pmac ≡ pmac_number x → ⊥)
        (λ h new same. let it = one_of_number t u x g is found_there h.pmac new.1.grant new.1.found same in never h new it.0 it.1) gs fresh

    grants_now : (t : ℕ) (u : SwitchView) (x : Pmac) (g : Grant) → slice_get (set switches s w) t ≡ Some u → granted u x ≡ Some g →
        IsEntered plan (all_written plan s entries gs) t x g
    unfolding within there
    grants_now t u x g is found_there = elim (at_same switches s w t u within is) [
      | inr other ↦
          entered_old t x g g refl refl (new_apart t u x g is found_there (λ h new one same. other.0 same)) (before.grants t u x g other.1 found_there)
      | inl here ↦
          let mine : granted w x ≡ Some g = ap (λ (q : SwitchView). granted q x) here.1 ∙ found_there in
          subst (λ (n : ℕ). IsEntered plan (all_written plan s entries gs) n x g) (sym here.0) (elim (covers x g mine) [
            | inl old ↦
                entered_old s x g old.grant old.to old.held
                (new_apart s w x g there mine (λ h new one same.
                let now : new.1.grant ≡ g = same_Some new.1.grant g (sym new.1.found ∙ ap (λ (y : Pmac). granted w y) one ∙ mine) in
                let held : is_held old.grant.held ≡ true = old.held ∙ ap (λ (q : Grant). is_held q.held) (sym now) ∙ new.1.held in
                not_held v x old.grant.amac (ap (λ (y : Pmac). is_live v y) (sym one) ∙ new.0)
                (record { grant = old.grant; found = old.found; held = held; to = refl })))
                (before.grants s v x old.grant found old.found)
            | inr one ↦
                let host = of_all (IsOfHere (λ port mac. HasStoodThere plan entries mac (at_port s port))) gs (gives x g.amac) of_hosts one in
                let new = of_all (IsNewlyGiven v w) gs (gives x g.amac) fresh one in
                let all : AllByRecursion (IsFor plan s (pmac_number x) host.host (at_port s x.port) true) gs =
                all_weaker (IsNewlyGiven v w) (IsFor plan s (pmac_number x) host.host (at_port s x.port) true)
                (λ h new. this_or_other x g mine host.host host.of_mac h new) gs fresh in
                let at = now_at plan s gs entries (gives x g.amac) host.host one host.of_mac all in
                let now : new.1.grant ≡ g = same_Some new.1.grant g (sym new.1.found ∙ mine) in
                record {
                  host = host.host;
                  of_mac = host.of_mac;
                  held = at.held;
                  live = at.is_so ∙ sym (ap (λ (q : Grant). is_held q.held) (sym now) ∙ new.1.held);
                  there = at.there;
                  for_hosts = host.for_hosts;
                }
          ])
    ]
      where
        this_or_other : (x : Pmac) (g : Grant) → granted w x ≡ Some g → (n : ℕ) → host_of plan g.amac ≡ Some n → (h : Giving) → IsNewlyGiven v w h →
            IsFor plan s (pmac_number x) n (at_port s x.port) true h
        this_or_other x g mine n of h new = elim (cases_eq (pmac_number h.pmac) (pmac_number x)) [
          | inr other ↦ inl other
          | inl same ↦
              let it : h.pmac ≡ x = (one_of_number s w x g there mine h.pmac new.1.grant new.1.found same).0 in
              let grant : new.1.grant ≡ g = same_Some new.1.grant g (sym new.1.found ∙ ap (λ (y : Pmac). granted w y) it ∙ mine) in
              inr (ap (host_of plan) (sym new.1.to ∙ ap (λ (q : Grant). q.amac) grant) ∙ of, ap (λ (y : Pmac). at_port s y.port) it, refl)
        ]

    -- ---- the last address of a host at a port
    -- what is granted to its host at the port of an address in use is that one
    only_given : (x : Pmac) (mac : Mac) (h : ℕ) → host_of plan mac ≡ Some h → (fs : List Giving) → AreOnly x mac fs →
        AllByRecursion (GivesGood plan s (λ y. y ≡ x) s h x.port) fs
    only_given x mac h of fs only =
        all_weaker (λ f. f.mac ≡ mac → f.pmac.port ≡ x.port → f.pmac ≡ x) (GivesGood plan s (λ y. y ≡ x) s h x.port)
        (λ f one mine at. one (one_mac plan f.mac mac h mine of) at.1) fs only

    last_here : (x : Pmac) (g : Grant) (h : ℕ) → granted w x ≡ Some g → is_in_use g.held ≡ true → host_of plan g.amac ≡ Some h →
        granted_at (all_written plan s entries gs) h (at_port s x.port) ≡ Some x
    last_here x g h is used of =
        let it = last x g.amac (record { grant = g; found = is; used = used; to = refl }) in
        let good = only_given x g.amac h of gs it.only in
        is_last_of (elim it.from [
          | inr one ↦ last_given plan s gs entries (λ y. y ≡ x) (gives x g.amac) h one of refl good
          | inl old ↦
              last_stays plan s gs entries (λ y. y ≡ x) s h x.port good
              (record { last = x; is_last = before.last s v x old.grant h found old.found old.used (ap (host_of plan) old.to ∙ of); good = refl })
        ])
      where
        is_last_of : HasLast plan s (all_written plan s entries gs) (λ y. y ≡ x) s h x.port →
            granted_at (all_written plan s entries gs) h (at_port s x.port) ≡ Some x
        is_last_of l = l.is_last ∙ ap Some l.good

    last_now : (t : ℕ) (u : SwitchView) (x : Pmac) (g : Grant) (h : ℕ) → slice_get (set switches s w) t ≡ Some u → granted u x ≡ Some g →
        is_in_use g.held ≡ true →
        host_of plan g.amac ≡ Some h → granted_at (all_written plan s entries gs) h (at_port t x.port) ≡ Some x
    unfolding within there
    last_now t u x g h is found_there used of = elim (at_same switches s w t u within is) [
      | inl here ↦
          subst (λ (n : ℕ). granted_at (all_written plan s entries gs) h (at_port n x.port) ≡ Some x) (sym here.0)
          (last_here x g h (ap (λ (q : SwitchView). granted q x) here.1 ∙ found_there) used of)
      | inr other ↦
          let l = last_stays plan s gs entries (λ y. y ≡ x) t h x.port
          (all_weaker (IsNewlyGiven v w) (GivesGood plan s (λ y. y ≡ x) t h x.port) (λ f new mine at. absurd (other.0 (sym at.0))) gs fresh)
          (record { last = x; is_last = before.last t u x g h other.1 found_there used of; good = refl }) in
          l.is_last ∙ ap Some l.good
    ]

    -- ---- numbers
    -- an address that is somebody's is not given now, so it has its number still
    pub number_stays : (x : Pmac) (mac : Mac) → IsGrantedBySome switches x mac →
        number (all_written plan s entries gs) (pmac_number x) ≡ number entries (pmac_number x)
    number_stays x mac h =
        let at = granted_then x mac h in
        other_numbers plan s gs entries (pmac_number x) (new_apart at.0 at.1 x at.2 at.3 at.4 never)
      where
        never : (f : Giving) → IsNewlyGiven v w f → f.pmac ≡ x → (granted_then x mac h).0 ≡ s → ⊥
        never f new one same = elim (cases_eq h.switch s) [
          | inl here ↦
              let view : h.view ≡ v = same_Some h.view v (sym h.found ∙ ap (slice_get switches) here ∙ found) in
              not_held v x mac (ap (λ (y : Pmac). is_live v y) (sym one) ∙ new.0)
              (subst (λ (q : SwitchView). IsHeldFor (λ y. granted q y) x mac) view h.granted_to)
          | inr other ↦
              let it = one_of_number h.switch h.view x h.granted_to.grant (get-set_other switches s h.switch w other
              ∙ h.found) h.granted_to.found f.pmac new.1.grant new.1.found
              (ap pmac_number one) in
              other it.1
        ]

    numbers_now : (x : Pmac) (reg : Registration) → PmacFits x → registration learnt x ≡ Some reg →
        number (all_written plan s entries gs) (pmac_number x) ≡ Some reg.number
    numbers_now x reg fits is = number_stays x reg.amac (registered x reg is) ∙ before.numbers x reg fits is

    pub step_entered : AreEntered plan learnt (set switches s w) attachments (all_written plan s entries gs)
    unfolding within there
    step_entered =
        let same = alike plan s gs entries in
        record {
          grants = grants_now;
          last = last_now;
          backed = all_backed plan s (set switches s w) gs entries
              (all_weaker (IsNewlyGiven v w) (λ g. IsGrantedThere (set switches s w) g.pmac s g.pmac.port)
              (λ g new. record { view = w; grant = new.1.grant; found = there; is = new.1.found; port_is = refl }) gs fresh)
              (backed_later switches (set switches s w) backed_now entries before.backed);
          few = few_now;
          sources = λ t u port source is has. elim (at_same switches s w t u within is) [
            | inr other ↦ stood_later plan s entries (all_written plan s entries gs) source.amac t port same (before.sources t u port source other.1 has)
            | inl here ↦
                subst (λ (n : ℕ). HasStoodThere plan (all_written plan s entries gs) source.amac (at_port n port)) (sym here.0)
                (stood_later plan s entries (all_written plan s entries gs) source.amac s port same
                (sources port source (ap (λ (q : SwitchView). remembered_at q port) here.1 ∙ has)))
          ];
          standing = λ h attachment is. same.stood h (at_port attachment.edge.0 attachment.port) ∙ before.standing h attachment is;
          numbers = numbers_now;
          numbered = λ n m is. some_holder plan s gs entries n (before.numbered n m (was_number plan s gs entries n m is));
          most = subst (λ n. n ≤ learnt.count) (sym same.most) before.most;
        }

  -- ---- an address is freed
  module _ (x : Pmac) (freed : Grant) (now : granted w x ≡ Some freed) (free : is_held freed.held ≡ false) (was : Grant) (found_was : granted v x ≡ Some was)
      (same_mac : was.amac ≡ freed.amac)
      (others : (y : Pmac) → same_pmac y x ≡ false → granted w y ≡ granted v y) (remembers : w.remembered ≡ v.remembered) where
    other_entered : (t : ℕ) (y : Pmac) (g : Grant) → (pmac_number x ≡ pmac_number y → ⊥) → IsEntered plan entries t y g →
        IsEntered plan (Freed x ∷ entries) t y g
    other_entered t y g other e = record {
      host = e.host;
      of_mac = e.of_mac;
      held = e.held;
      live = ap (λ b. not b && is_live_in entries (pmac_number y))
          (false_from_ne_true (pmac_number x == pmac_number y) (λ is. other (eqb-true (pmac_number x) (pmac_number y) is))) ∙ e.live;
      there = e.there;
      for_hosts = e.for_hosts;
    }

    freed_grants : (t : ℕ) (u : SwitchView) (y : Pmac) (g : Grant) → slice_get (set switches s w) t ≡ Some u → granted u y ≡ Some g →
        IsEntered plan (Freed x ∷ entries) t y g
    unfolding within there
    freed_grants t u y g is found_there = elim (at_same switches s w t u within is) [
      | inr other ↦
          other_entered t y g (λ same. other.0 (one_of_number t u y g is found_there x freed now same).1) (before.grants t u y g other.1 found_there)
      | inl here ↦
          let mine : granted w y ≡ Some g = ap (λ (q : SwitchView). granted q y) here.1 ∙ found_there in
          subst (λ (n : ℕ). IsEntered plan (Freed x ∷ entries) n y g) (sym here.0) (elim (is_or_other y x) [
            | inr other ↦
                other_entered s y g (λ same. false≢true (sym other ∙ same_by y x (sym (one_of_number s w y g there mine x freed now same).0)))
                (before.grants s v y g found (sym (others y other) ∙ mine))
            | inl it ↦
                let grant : freed ≡ g = same_Some freed g (sym now ∙ ap (λ z. granted w z) (sym it) ∙ mine) in
                let e = before.grants s v x was found found_was in
                subst (λ (z : Pmac). IsEntered plan (Freed x ∷ entries) s z g) (sym it) (record {
                  host = e.host;
                  of_mac = ap (host_of plan) (sym (same_mac ∙ ap (λ (q : Grant). q.amac) grant)) ∙ e.of_mac;
                  held = e.held;
                  live = ap (λ b. not b && is_live_in entries (pmac_number x)) (eq-eqb (pmac_number x) (pmac_number x) refl) ∙ sym
                      (ap (λ (q : Grant). is_held q.held) (sym grant) ∙ free);
                  there = e.there;
                  for_hosts = e.for_hosts;
                })
          ])
    ]

    freed_last : (t : ℕ) (u : SwitchView) (y : Pmac) (g : Grant) (h : ℕ) → slice_get (set switches s w) t ≡ Some u → granted u y ≡ Some g →
        is_in_use g.held ≡ true →
        host_of plan g.amac ≡ Some h → granted_at entries h (at_port t y.port) ≡ Some y
    unfolding within there
    freed_last t u y g h is found_there used of = elim (at_same switches s w t u within is) [
      | inr other ↦ before.last t u y g h other.1 found_there used of
      | inl here ↦
          let mine : granted w y ≡ Some g = ap (λ (q : SwitchView). granted q y) here.1 ∙ found_there in
          subst (λ (n : ℕ). granted_at entries h (at_port n y.port) ≡ Some y) (sym here.0) (elim (is_or_other y x) [
            | inr other ↦ before.last s v y g h found (sym (others y other) ∙ mine) used of
            | inl it ↦
                let grant : freed ≡ g = same_Some freed g (sym now ∙ ap (λ z. granted w z) (sym it) ∙ mine) in
                absurd (false≢true (sym free ∙ ap (λ (q : Grant). is_held q.held) grant ∙ ap is_held (in_use_for g.held used).1))
          ])
    ]

    pub freed_entered : AreEntered plan learnt (set switches s w) attachments (Freed x ∷ entries)
    unfolding within there
    freed_entered = record {
      grants = freed_grants;
      last = freed_last;
      backed = (tt, backed_later switches (set switches s w) backed_now entries before.backed);
      few = few_now;
      sources = λ t u port source is has. elim (at_same switches s w t u within is) [
        | inr other ↦ let it = before.sources t u port source other.1 has in record { host = it.host; of_mac = it.of_mac; stood = it.stood; for_hosts = it.for_hosts }
        | inl here ↦
            let it = before.sources s v port source found
            (ap (λ (ss : List (Option Source)). get_or ss port None) (sym remembers) ∙ ap (λ (q : SwitchView). remembered_at q port) here.1 ∙ has) in
            subst (λ (n : ℕ). HasStoodThere plan (Freed x ∷ entries) source.amac (at_port n port)) (sym here.0)
            (record { host = it.host; of_mac = it.of_mac; stood = it.stood; for_hosts = it.for_hosts })
      ];
      standing = before.standing;
      numbers = before.numbers;
      numbered = before.numbered;
      most = before.most;
    }
