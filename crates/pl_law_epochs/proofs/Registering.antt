-- What the manager knows of each address once it hears of one: nothing new is registered, or one address, as the newest of its host.
use Rattle.std.proofs.Common.{◌≡◌, ◌⊎◌, ℕ, ◌+◌, ◌&&◌, not, Bool, true, false, cond, if◌then◌else◌, List, [], ◌∷◌, map, Option, Some, None, refl, sym, ap, subst, ◌∙◌, inl, inr}
use Rattle.std.specs.List.{AllByRecursion, IsDistinct, find, list_any}
use Rattle.std.specs.Option.{option_map, option_or}
use Rattle.std.proofs.lemmas.Bool.{and_parts, cond_both, or_parts}
use Rattle.std.proofs.lemmas.Option.{none-some, same_Some}
use Rattle.pl_frame.specs.declared.address.Ip4.{Ip4}
use Rattle.pl_frame.specs.declared.address.Mac.{Mac}
use Rattle.pl_frame.specs.declared.address.SwitchId.{SwitchId}
use Rattle.pl_pmac.specs.declared.pmac.Pmac.{Pmac}
use Rattle.pl_layouts.specs.Equality.{same_mac, same_pmac}
use Rattle.pl_layouts.proofs.Exports.{mac_is, mac_itself, pmac_is, pmac_itself}
use Rattle.pl_node.specs.ManagerViews.{Learnt, LearntAddress, Recall, Registration, Reported, ip_of, is_newest_of, newest, registered_as, registration}
use Rattle.pl_manager_rule.specs.ManagerRule.{ToldAddress, is_registered, leads_on, learnt_as, recalled, told_again, with_address, with_learnt}
use Rattle.pl_manager_rule.specs.Repeats.{AreAlone}
use Rattle.pl_manager_rule.specs.Reports.{as_reported}
use Rattle.pl_manager_rule.proofs.Exports.{alone_mapped, alone_recalled, any_registered, find_mapped, ip_after, newest_again, none_recalled, others_recalled, pmac_turned}
use Rattle.pl_law_addresses.proofs.Exports.{find_passes, found_by_name, found_if_any, is_or_other, none_if_not_any, other_turned}
use Rattle.pl_law_epochs.specs.Edges.{Registry, registry_with}
use Rattle.pl_law_epochs.proofs.Learnt.{found_at, known_split, or_known, registration_found, reported_at}
use Rattle.pl_law_epochs.proofs.Staying.{KnowsAlike}

-- ---- what is heard of an IPv4 address
pub record HearsIp (r n : Registry) (x : Pmac) (told : Option Ip4) : Type 0 where
  pub from : (y : Pmac) (ip : Ip4) → n.ip_at y ≡ Some ip → ((x ≡ y) × (told ≡ Some ip)) ⊎ (r.ip_at y ≡ Some ip)
  pub stays : (y : Pmac) (ip : Ip4) → r.ip_at y ≡ Some ip → (other : Ip4) × (n.ip_at y ≡ Some other)
  pub now : (ip : Ip4) → told ≡ Some ip → n.ip_at x ≡ Some ip

-- an address that is registered already
pub record HearsAgain (r n : Registry) (x : Pmac) : Type 0 where
  pub reg : Registration
  pub found : r.at x ≡ Some reg
  pub alike : (y : Pmac) → KnowsAlike r n y
  pub newest : (mac : Mac) → n.newest_of mac ≡ r.newest_of mac
  pub count : n.count ≡ r.count
  pub later : n.later ≡ r.later

-- the newest address of a host is none of this name
abbrev pub IsNotNewest : Registry → Mac → Pmac → Type 0
IsNotNewest r mac y = (old : Registration) → r.newest_of mac ≡ Some old → same_pmac old.pmac y ≡ false

-- an address that is registered now
pub record HearsNew (r n : Registry) (x : Pmac) (mac : Mac) (s : SwitchId) : Type 0 where
  pub none : r.at x ≡ None
  pub here : n.at x ≡ Some (record { pmac = x; amac = mac; number = r.count + 1; switch = s })
  pub at : (y : Pmac) → same_pmac x y ≡ false → n.at y ≡ r.at y
  pub known_here : n.known_at x ≡ Some (record { switch = s; pmac = x; recall = None; aged = false })
  pub led : (old : Registration) → r.newest_of mac ≡ Some old → (known : Reported) → r.known_at old.pmac ≡ Some known →
      n.known_at old.pmac ≡ Some (record known { recall = Some (record { new = x; number = r.count + 1 }); aged = false })
  pub alike : (y : Pmac) → same_pmac x y ≡ false → IsNotNewest r mac y → KnowsAlike r n y
  pub newest_here : n.newest_of mac ≡ Some (record { pmac = x; amac = mac; number = r.count + 1; switch = s })
  pub newest : (other : Mac) → same_mac mac other ≡ false → n.newest_of other ≡ r.newest_of other
  pub count : n.count ≡ r.count + 1
  pub later : n.later ≡ r.later

-- ---- an address leads on
-- each but that one is known as before
module _ (new : Pmac) (number : ℕ) where
  led_as : (old : Pmac) (y : Pmac) → same_pmac old y ≡ false → (o : Option LearntAddress) → ((a : LearntAddress) → o ≡ Some a → same_pmac a.pmac y ≡ true) → (q : Option Reported) →
      or_known (option_map (leads_on old new number) o) q ≡ or_known o q
  led_as old y other None named q = refl
  led_as old y other (Some a) named q =
      let to : Recall = record { new = new; number = number } in
      let test : same_pmac a.pmac old ≡ false = ap (λ z. same_pmac z old) (pmac_is a.pmac y (named a refl)) ∙ other_turned old y other in
      ap (λ b. Some (record (as_reported a) { recall = if b then Some to else a.recall; aged = not b && a.aged })) test

  registered_still : (old : Pmac) (o : Option LearntAddress) → option_map registered_as (option_map (leads_on old new number) o) ≡ option_map registered_as o
  registered_still old None = refl
  registered_still old (Some a) = refl

  others_known : (o : Option Registration) (addresses : List LearntAddress) (y : Pmac) (q : Option Reported) → ((old : Registration) → o ≡ Some old → same_pmac old.pmac y ≡ false) →
      or_known (found_at (recalled o new number addresses) y) q ≡ or_known (found_at addresses y) q
  others_known None addresses y q other = refl
  others_known (Some old) addresses y q other =
      ap (λ a. or_known a q) (find_mapped (λ (a : LearntAddress). same_pmac a.pmac y) (leads_on old.pmac new number) addresses)
      ∙ led_as old.pmac y (other old refl) (found_at addresses y) (λ a is. find_passes (λ (c : LearntAddress). same_pmac c.pmac y) addresses a is) q

  others_registered : (o : Option Registration) (addresses : List LearntAddress) (y : Pmac) →
      option_map registered_as (found_at (recalled o new number addresses) y) ≡ option_map registered_as (found_at addresses y)
  others_registered None addresses y = refl
  others_registered (Some old) addresses y =
      ap (option_map registered_as) (find_mapped (λ (a : LearntAddress). same_pmac a.pmac y) (leads_on old.pmac new number) addresses)
      ∙ registered_still old.pmac (found_at addresses y)

  -- and that one leads there
  it_leads : (old : Pmac) (addresses : List LearntAddress) (d : LearntAddress) → found_at addresses old ≡ Some d → (q : Option Reported) →
      or_known (found_at (map (leads_on old new number) addresses) old) q ≡ Some (record (as_reported d) { recall = Some (record { new = new; number = number }); aged = false })
  it_leads old addresses d is q =
      let to : Recall = record { new = new; number = number } in
      ap (λ a. or_known a q) (find_mapped (λ (a : LearntAddress). same_pmac a.pmac old) (leads_on old new number) addresses ∙ ap (option_map (leads_on old new number)) is)
      ∙ ap (λ b. Some (record (as_reported d) { recall = if b then Some to else d.recall; aged = not b && d.aged })) (find_passes (λ (c : LearntAddress). same_pmac c.pmac old) addresses d is)

module _ (later : Bool) (learnt : Learnt) (s : SwitchId) (x : Pmac) (mac : Mac) (told : Option Ip4) where
  abbrev address : ToldAddress
  address = record { switch = s; pmac = x; amac = mac; ip = told }

  abbrev after : Learnt
  after = with_learnt learnt address

  abbrev number : ℕ
  number = learnt.count + 1

  abbrev reg_now : Registration
  reg_now = record { pmac = x; amac = mac; number = number; switch = s }

  abbrev led_addresses : List LearntAddress
  led_addresses = recalled (newest learnt mac) x number learnt.addresses

  addresses_by : (b : Bool) → is_registered learnt.addresses x ≡ b → after.addresses ≡ cond b (map (told_again address) learnt.addresses) (learnt_as number address ∷ led_addresses)
  addresses_by b is = ap (λ c. cond c (map (told_again address) learnt.addresses) (learnt_as number address ∷ led_addresses)) is

  -- ---- told again
  known_again : (o : Option LearntAddress) (q : Option Reported) → or_known (option_map (told_again address) o) q ≡ or_known o q
  known_again None q = refl
  known_again (Some a) q = refl

  registered_again : (o : Option LearntAddress) → option_map registered_as (option_map (told_again address) o) ≡ option_map registered_as o
  registered_again None = refl
  registered_again (Some a) = refl

  pub again : is_registered learnt.addresses x ≡ true → HearsAgain (registry_with later learnt) (registry_with later (with_learnt learnt (record { switch = s; pmac = x; amac = mac; ip = told }))) x
  again there =
      let f = found_if_any (λ (q : Registration). same_pmac q.pmac x) (map registered_as learnt.addresses) there in
      let same : after.addresses ≡ map (told_again address) learnt.addresses = addresses_by true there in
      let found : (y : Pmac) → found_at after.addresses y ≡ option_map (told_again address) (found_at learnt.addresses y) =
      λ y. ap (λ all. found_at all y) same ∙ find_mapped (λ (a : LearntAddress). same_pmac a.pmac y) (told_again address) learnt.addresses in
      record {
        reg = f.0;
        found = f.1;
        alike = λ y. record {
          at = registration_found after y ∙ ap (option_map registered_as) (found y) ∙ registered_again (found_at learnt.addresses y) ∙ sym (registration_found learnt y);
          known = known_split after y ∙ ap (λ o. or_known o (reported_at learnt.reported y)) (found y) ∙ known_again (found_at learnt.addresses y) (reported_at learnt.reported y)
              ∙ sym (known_split learnt y);
        };
        newest = λ m. ap (λ all. option_map registered_as (find (is_newest_of m) all)) same ∙ newest_again address learnt.addresses m;
        count = ap (λ b. cond b learnt.count (learnt.count + 1)) there;
        later = refl;
      }

  -- ---- or for the first time
  module _ (fresh : is_registered learnt.addresses x ≡ false) where
    new_addresses : after.addresses ≡ learnt_as number address ∷ led_addresses
    new_addresses = addresses_by false fresh

    found_here : found_at after.addresses x ≡ Some (learnt_as number address)
    found_here = ap (λ all. found_at all x) new_addresses ∙ ap (λ b. cond b (Some (learnt_as number address)) (found_at led_addresses x)) (pmac_itself x)

    found_there : (y : Pmac) → same_pmac x y ≡ false → found_at after.addresses y ≡ found_at led_addresses y
    found_there y other = ap (λ all. found_at all y) new_addresses ∙ ap (λ b. cond b (Some (learnt_as number address)) (found_at led_addresses y)) other

    unregistered : registration learnt x ≡ None
    unregistered = none_if_not_any (λ (q : Registration). same_pmac q.pmac x) (map registered_as learnt.addresses) fresh

    -- the newest address of a host is registered, and so is another one
    record IsNamed (old : Registration) : Type 0 where
      item : LearntAddress
      found : found_at learnt.addresses old.pmac ≡ Some item

    newest_named : (old : Registration) → newest learnt mac ≡ Some old → IsNamed old
    newest_named old is = by (find (is_newest_of mac) learnt.addresses) refl is
      where
        by : (o : Option LearntAddress) → find (is_newest_of mac) learnt.addresses ≡ o → option_map registered_as o ≡ Some old → IsNamed old
        by None found same = absurd (none-some old same)
        by (Some c) found same =
            let name : c.pmac ≡ old.pmac = ap (λ (p : Registration). p.pmac) (same_Some (registered_as c) old same) in
            let there = found_by_name (is_newest_of mac) learnt.addresses c found in
            record { item = there.0; found = ap (found_at learnt.addresses) (sym name) ∙ there.1 }

    other_than_newest : (old : Registration) → newest learnt mac ≡ Some old → same_pmac x old.pmac ≡ false
    other_than_newest old is = elim (is_or_other x old.pmac) [
      | inr other ↦ other
      | inl same ↦
          let it = newest_named old is in
          absurd (none-some (registered_as it.item) (sym unregistered ∙ registration_found learnt x
          ∙ ap (λ z. option_map registered_as (found_at learnt.addresses z)) same ∙ ap (option_map registered_as) it.found))
    ]

    at_there : (y : Pmac) → same_pmac x y ≡ false → registration after y ≡ registration learnt y
    at_there y other =
        registration_found after y ∙ ap (option_map registered_as) (found_there y other) ∙ others_registered x number (newest learnt mac) learnt.addresses y
        ∙ sym (registration_found learnt y)

    newest_all : (m : Mac) (b : Bool) → same_mac mac m ≡ b →
        newest after m ≡ option_map registered_as (cond (b && true) (Some (learnt_as number address)) (find (is_newest_of m) led_addresses))
    newest_all m b is =
        ap (λ all. option_map registered_as (find (is_newest_of m) all)) new_addresses
        ∙ ap (λ c. option_map registered_as (cond (c && true) (Some (learnt_as number address)) (find (is_newest_of m) led_addresses))) is

    pub first : IsDistinct same_pmac (map (λ a. a.pmac) learnt.addresses) →
        HearsNew (registry_with later learnt) (registry_with later (with_learnt learnt (record { switch = s; pmac = x; amac = mac; ip = told }))) x mac s
    first once = record {
      none = unregistered;
      here = registration_found after x ∙ ap (option_map registered_as) found_here;
      at = at_there;
      known_here = known_split after x ∙ ap (λ o. or_known o (reported_at learnt.reported x)) found_here;
      led = λ old is known knows.
          let it = newest_named old is in
          let k : as_reported it.item ≡ known =
          same_Some (as_reported it.item) known (sym (ap (λ o. or_known o (reported_at learnt.reported old.pmac)) it.found) ∙ sym (known_split learnt old.pmac) ∙ knows) in
          known_split after old.pmac
          ∙ ap (λ o. or_known o (reported_at learnt.reported old.pmac)) (found_there old.pmac (other_than_newest old is)
          ∙ ap (λ (o : Option Registration). found_at (recalled o x number learnt.addresses) old.pmac) is)
          ∙ it_leads x number old.pmac learnt.addresses it.item it.found (reported_at learnt.reported old.pmac)
          ∙ ap (λ (q : Reported). Some (record q { recall = Some (record { new = x; number = number }); aged = false })) k;
      alike = λ y other not_newest. record {
        at = at_there y other;
        known = known_split after y ∙ ap (λ o. or_known o (reported_at learnt.reported y)) (found_there y other)
            ∙ others_known x number (newest learnt mac) learnt.addresses y (reported_at learnt.reported y) not_newest ∙ sym (known_split learnt y);
      };
      newest_here = newest_all mac true (mac_itself mac);
      newest = λ m other. newest_all m false other ∙ others_recalled learnt mac x number m other once;
      count = ap (λ b. cond b learnt.count (learnt.count + 1)) fresh;
      later = refl;
    }

  -- ---- the IPv4 address
  ip_now : (y : Pmac) → ip_of after y ≡ option_or (cond (same_pmac x y) told None) (ip_of learnt y)
  ip_now y = ip_after learnt address y

  from_either : (y : Pmac) (b : Bool) → same_pmac x y ≡ b → (t o : Option Ip4) (ip : Ip4) → option_or (cond b t None) o ≡ Some ip →
      ((x ≡ y) × (t ≡ Some ip)) ⊎ (o ≡ Some ip)
  from_either y true is None o ip h = inr h
  from_either y true is (Some i) o ip h = inl (pmac_is x y is, h)
  from_either y false is t o ip h = inr h

  stays_some : (b : Bool) (t : Option Ip4) (ip : Ip4) → (other : Ip4) × (option_or (cond b t None) (Some ip) ≡ Some other)
  stays_some true None ip = (ip, refl)
  stays_some true (Some i) ip = (i, refl)
  stays_some false t ip = (ip, refl)

  pub hears_ip : HearsIp (registry_with later learnt) (registry_with later (with_learnt learnt (record { switch = s; pmac = x; amac = mac; ip = told }))) x told
  hears_ip = record {
    from = λ y ip is. from_either y (same_pmac x y) refl told (ip_of learnt y) ip (sym (ip_now y) ∙ is);
    stays = λ y ip is. let some = stays_some (same_pmac x y) told ip in
        (some.0, ip_now y ∙ ap (λ (o : Option Ip4). option_or (cond (same_pmac x y) told None) o) is ∙ some.1);
    now = λ ip is. ip_now x ∙ ap (λ b. option_or (cond b told None) (ip_of learnt x)) (pmac_itself x) ∙ ap (λ (q : Option Ip4). option_or q (ip_of learnt x)) is;
  }

  -- ---- each address is there once still, and of each host one at most leads nowhere
  pub alone_then : ((m : Mac) → AreAlone m learnt.addresses) → (m : Mac) → AreAlone m (with_address learnt (record { switch = s; pmac = x; amac = mac; ip = told }))
  alone_then alone m =
      cond_both (is_registered learnt.addresses x) (map (told_again address) learnt.addresses) (learnt_as number address ∷ led_addresses) (AreAlone m)
      (λ there. alone_mapped m (told_again address) (λ a is. is) learnt.addresses (alone m))
      (λ fresh. (
        (λ is. subst (λ (h : Mac). find (is_newest_of h) led_addresses ≡ None) (host m is) (none_recalled learnt mac x number (alone mac))),
        alone_recalled (newest learnt mac) x number m learnt.addresses (alone m),
      ))
    where
      host : (m : Mac) → (same_mac mac m && true) ≡ true → mac ≡ m
      host m is = mac_is mac m (and_parts (same_mac mac m) true is).0

  pmacs_again : (addresses : List LearntAddress) → map (λ (a : LearntAddress). a.pmac) (map (told_again address) addresses) ≡ map (λ (a : LearntAddress). a.pmac) addresses
  pmacs_again [] = refl
  pmacs_again (a ∷ addresses) = ap (λ ps. a.pmac ∷ ps) (pmacs_again addresses)

  pmacs_led : (o : Option Registration) (addresses : List LearntAddress) → map (λ (a : LearntAddress). a.pmac) (recalled o x number addresses) ≡ map (λ (a : LearntAddress). a.pmac) addresses
  pmacs_led None addresses = refl
  pmacs_led (Some old) [] = refl
  pmacs_led (Some old) (a ∷ addresses) = ap (λ ps. a.pmac ∷ ps) (pmacs_led (Some old) addresses)

  none_alike : (addresses : List LearntAddress) → list_any (λ a. same_pmac a.pmac x) addresses ≡ false → AllByRecursion (λ p. same_pmac x p ≡ false) (map (λ (a : LearntAddress). a.pmac) addresses)
  none_alike [] none = tt
  none_alike (a ∷ addresses) none =
      let two = or_parts (same_pmac a.pmac x) (list_any (λ c. same_pmac c.pmac x) addresses) none in (pmac_turned x a.pmac ∙ two.0, none_alike addresses two.1)

  pub once_then : IsDistinct same_pmac (map (λ a. a.pmac) learnt.addresses) → IsDistinct same_pmac (map (λ a. a.pmac) (with_address learnt (record { switch = s; pmac = x; amac = mac; ip = told })))
  unfolding IsDistinct
  once_then once =
      cond_both (is_registered learnt.addresses x) (map (told_again address) learnt.addresses) (learnt_as number address ∷ led_addresses)
      (λ those. IsDistinct same_pmac (map (λ (a : LearntAddress). a.pmac) those))
      (λ there. subst (IsDistinct same_pmac) (sym (pmacs_again learnt.addresses)) once)
      (λ fresh. subst (λ ps. IsDistinct same_pmac (x ∷ ps)) (sym (pmacs_led (newest learnt mac) learnt.addresses)) (
        none_alike learnt.addresses (any_registered learnt.addresses x ∙ fresh),
        once,
      ))
