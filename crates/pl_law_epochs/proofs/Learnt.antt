-- What the manager knows of each address, as a change of what it learnt leaves it: it notes something of one, it forgets one.
use Rattle.std.proofs.Common.{◌≡◌, ◌&&◌, ◌||◌, not, Bool, true, false, cond, if◌then◌else◌, List, [], ◌∷◌, ◌++◌, map, Option, Some, None, refl, sym, ap, ◌∙◌}
use Rattle.std.specs.List.{find, list_any}
use Rattle.std.specs.Option.{option_and_then, option_map}
use Rattle.std.proofs.lemmas.Bool.{and_from, false≢true, or_left, or_right}
use Rattle.std.proofs.lemmas.Option.{none-some, same_Some}
use Rattle.pl_frame.specs.declared.address.Mac.{Mac}
use Rattle.pl_frame.specs.declared.address.SwitchId.{SwitchId}
use Rattle.pl_pmac.specs.declared.pmac.Pmac.{Pmac}
use Rattle.pl_layouts.specs.Equality.{same_pmac}
use Rattle.pl_layouts.proofs.Exports.{pmac_is, pmac_itself}
use Rattle.pl_node.specs.ManagerViews.{Learnt, LearntAddress, Recall, Registration, Reported, is_newest_of, leads_to, registered_as, registration}
use Rattle.pl_manager_rule.specs.ManagerRule.{ages_now}
use Rattle.pl_manager_rule.specs.Repeats.{AreAlone}
use Rattle.pl_manager_rule.specs.Reports.{as_reported, forgets_known, is_known_led_to, is_known_trapped_to, known_addresses, known_at, reported_ages, reported_leads, with_aged_as, with_trap_as}
use Rattle.pl_manager_rule.proofs.Exports.{aged_registration, find_gone, find_kept, find_mapped, find_without, forgotten_registration, other_registration}
use Rattle.pl_law_addresses.proofs.Exports.{find_passes, other_turned}
use Rattle.pl_law_epochs.specs.Edges.{Registry, registry_with}
use Rattle.pl_law_epochs.proofs.Staying.{KnowsAlike}

abbrev pub found_at : List LearntAddress → Pmac → Option LearntAddress
found_at addresses y = find (λ a. same_pmac a.pmac y) addresses

abbrev pub reported_at : List Reported → Pmac → Option Reported
reported_at rs y = find (λ r. same_pmac r.pmac y) rs

-- a registration is known first
abbrev pub or_known : Option LearntAddress → Option Reported → Option Reported
or_known None reported = reported
or_known (Some a) reported = Some (as_reported a)

pub known_split : (learnt : Learnt) (y : Pmac) → known_at learnt y ≡ or_known (found_at learnt.addresses y) (reported_at learnt.reported y)
known_split learnt y = split learnt.addresses
  where
    by : (a : LearntAddress) (b : Bool) (o : Option LearntAddress) → cond b (Some (as_reported a)) (or_known o (reported_at learnt.reported y)) ≡ or_known (cond b (Some a) o) (reported_at learnt.reported y)
    by a true o = refl
    by a false o = refl

    split : (addresses : List LearntAddress) → find (λ r. same_pmac r.pmac y) (map as_reported addresses ++ learnt.reported) ≡ or_known (found_at addresses y) (reported_at learnt.reported y)
    split [] = refl
    split (a ∷ addresses) = ap (cond (same_pmac a.pmac y) (Some (as_reported a))) (split addresses) ∙ by a (same_pmac a.pmac y) (found_at addresses y)

pub registration_found : (learnt : Learnt) (y : Pmac) → registration learnt y ≡ option_map registered_as (found_at learnt.addresses y)
registration_found learnt y = find_mapped (λ (r : Registration). same_pmac r.pmac y) registered_as learnt.addresses

-- what is found has that name
pub known_named : (learnt : Learnt) (y : Pmac) (known : Reported) → known_at learnt y ≡ Some known → known.pmac ≡ y
known_named learnt y known is = pmac_is known.pmac y (find_passes (λ (r : Reported). same_pmac r.pmac y) (known_addresses learnt) known is)

-- what is not known is not registered
pub unknown_unregistered : (learnt : Learnt) (y : Pmac) → known_at learnt y ≡ None → registration learnt y ≡ None
unknown_unregistered learnt y none = registration_found learnt y ∙ by (found_at learnt.addresses y) refl
  where
    by : (o : Option LearntAddress) → found_at learnt.addresses y ≡ o → option_map registered_as o ≡ None
    by None found = refl
    by (Some a) found = absurd (none-some (as_reported a) (sym none ∙ known_split learnt y ∙ ap (λ o. or_known o (reported_at learnt.reported y)) found))

-- and of one that is not registered, what is known was reported
pub unregistered_reported : (learnt : Learnt) (y : Pmac) → registration learnt y ≡ None → known_at learnt y ≡ reported_at learnt.reported y
unregistered_reported learnt y none = known_split learnt y ∙ by (found_at learnt.addresses y) refl
  where
    by : (o : Option LearntAddress) → found_at learnt.addresses y ≡ o → or_known o (reported_at learnt.reported y) ≡ reported_at learnt.reported y
    by None found = refl
    by (Some a) found = absurd (none-some (registered_as a) (sym none ∙ registration_found learnt y ∙ ap (option_map registered_as) found))

-- ---- something is noted of one address, and no registration changes
pub record Notes (r n : Registry) (x : Pmac) (now : Reported) : Type 0 where
  pub at : (y : Pmac) → n.at y ≡ r.at y
  pub here : n.known_at x ≡ Some now
  pub others : (y : Pmac) → same_pmac y x ≡ false → n.known_at y ≡ r.known_at y
  pub newest : (mac : Mac) → n.newest_of mac ≡ r.newest_of mac
  pub ip : (y : Pmac) → n.ip_at y ≡ r.ip_at y
  pub count : n.count ≡ r.count
  pub later : n.later ≡ r.later

-- behind the others one more is reported
pushed_there : (rs : List Reported) (new : Reported) (y : Pmac) → same_pmac new.pmac y ≡ false → reported_at (rs ++ new ∷ []) y ≡ reported_at rs y
pushed_there [] new y other = ap (λ b. cond b (Some new) None) other
pushed_there (r ∷ rs) new y other = ap (cond (same_pmac r.pmac y) (Some r)) (pushed_there rs new y other)

pushed_here : (rs : List Reported) (new : Reported) → reported_at rs new.pmac ≡ None → reported_at (rs ++ new ∷ []) new.pmac ≡ Some new
pushed_here [] new none = ap (λ b. cond b (Some new) None) (pmac_itself new.pmac)
pushed_here (r ∷ rs) new none = by (same_pmac r.pmac new.pmac) (λ h. pushed_here rs new h) none
  where
    by : (b : Bool) → (reported_at rs new.pmac ≡ None → reported_at (rs ++ new ∷ []) new.pmac ≡ Some new) → cond b (Some r) (reported_at rs new.pmac) ≡ None →
        cond b (Some r) (reported_at (rs ++ new ∷ []) new.pmac) ≡ Some new
    by true rest h = absurd (none-some r (sym h))
    by false rest h = rest h

module _ (later : Bool) (learnt : Learnt) where
  -- it was not known
  pub pushed_notes : (new : Reported) → known_at learnt new.pmac ≡ None →
      Notes (registry_with later learnt) (registry_with later (record learnt { reported = learnt.reported ++ new ∷ [] })) new.pmac new
  pushed_notes new none = record {
    at = λ y. refl;
    here =
        let after : Learnt = record learnt { reported = learnt.reported ++ new ∷ [] } in
        let unregistered = unknown_unregistered learnt new.pmac none in
        unregistered_reported after new.pmac unregistered ∙ pushed_here learnt.reported new (sym (unregistered_reported learnt new.pmac unregistered) ∙ none);
    others = λ y other.
        let after : Learnt = record learnt { reported = learnt.reported ++ new ∷ [] } in
        known_split after y
        ∙ ap (or_known (found_at learnt.addresses y)) (pushed_there learnt.reported new y (other_turned y new.pmac other))
        ∙ sym (known_split learnt y);
    newest = λ mac. refl;
    ip = λ y. refl;
    count = refl;
    later = refl;
  }

  -- ---- that it has aged
  module _ (s : SwitchId) (x : Pmac) (known : Reported) (is : known_at learnt x ≡ Some known) where
    abbrev aged : Learnt
    aged = with_aged_as learnt s x (Some known)

    each_ages : (y : Pmac) → known_at aged y ≡ option_map (reported_ages x) (known_at learnt y)
    each_ages y =
        known_split aged y
        ∙ ap (λ o. or_known o (reported_at aged.reported y)) (find_mapped (λ (a : LearntAddress). same_pmac a.pmac y) (ages_now x) learnt.addresses)
        ∙ ap (or_known (option_map (ages_now x) (found_at learnt.addresses y))) (find_mapped (λ (r : Reported). same_pmac r.pmac y) (reported_ages x) learnt.reported)
        ∙ by (found_at learnt.addresses y) (reported_at learnt.reported y) ∙ ap (option_map (reported_ages x)) (sym (known_split learnt y))
      where
        by : (o : Option LearntAddress) (q : Option Reported) → or_known (option_map (ages_now x) o) (option_map (reported_ages x) q) ≡ option_map (reported_ages x) (or_known o q)
        by None q = refl
        by (Some a) q = refl

    same_left : {X : Type 0} (f : LearntAddress → Option X) → ((a : LearntAddress) → f (ages_now x a) ≡ f a) → (o : Option LearntAddress) →
        option_and_then f (option_map (ages_now x) o) ≡ option_and_then f o
    same_left f same None = refl
    same_left f same (Some a) = same a

    same_registered : (o : Option LearntAddress) → option_map registered_as (option_map (ages_now x) o) ≡ option_map registered_as o
    same_registered None = refl
    same_registered (Some a) = refl

    pub aged_notes : Notes (registry_with later learnt) (registry_with later (with_aged_as learnt s x (Some known))) x (record known { aged = true })
    aged_notes = record {
      at = λ y. aged_registration learnt x y;
      here =
          let named : same_pmac known.pmac x ≡ true = ap (λ z. same_pmac z x) (known_named learnt x known is) ∙ pmac_itself x in
          each_ages x ∙ ap (option_map (reported_ages x)) is ∙ ap (λ b. Some (record known { aged = b || known.aged })) named;
      others = λ y other. each_ages y ∙ by y other (known_at learnt y) refl;
      newest = λ mac. ap (option_map registered_as) (find_mapped (is_newest_of mac) (ages_now x) learnt.addresses) ∙ same_registered (find (is_newest_of mac) learnt.addresses);
      ip = λ y.
          ap (option_and_then (λ (a : LearntAddress). a.ip)) (find_mapped (λ (a : LearntAddress). same_pmac a.pmac y) (ages_now x) learnt.addresses)
          ∙ same_left (λ a. a.ip) (λ a. refl) (found_at learnt.addresses y);
      count = refl;
      later = refl;
    }
      where
        by : (y : Pmac) → same_pmac y x ≡ false → (o : Option Reported) → known_at learnt y ≡ o → option_map (reported_ages x) o ≡ o
        by y other None at = refl
        by y other (Some k) at = ap (λ b. Some (record k { aged = b || k.aged })) (ap (λ z. same_pmac z x) (known_named learnt y k at) ∙ other)

  -- ---- that a trap stands for one that is not registered
  module _ (s : SwitchId) (x : Pmac) (to : Recall) (unregistered : registration learnt x ≡ None) (known : Reported) (is : reported_at learnt.reported x ≡ Some known) where
    abbrev led : Learnt
    led = with_trap_as learnt s x to (Some known)

    pub led_notes : Notes (registry_with later learnt) (registry_with later (with_trap_as learnt s x to (Some known))) x (record known { recall = Some to; aged = false })
    led_notes = record {
      at = λ y. refl;
      here =
          let named : same_pmac known.pmac x ≡ true = find_passes (λ (r : Reported). same_pmac r.pmac x) learnt.reported known is in
          unregistered_reported led x unregistered
          ∙ find_mapped (λ (r : Reported). same_pmac r.pmac x) (reported_leads x to) learnt.reported ∙ ap (option_map (reported_leads x to)) is
          ∙ ap (λ b. Some (record known { recall = if b then Some to else known.recall; aged = not b && known.aged })) named;
      others = λ y other.
          known_split led y
          ∙ ap (or_known (found_at learnt.addresses y))
          (find_mapped (λ (r : Reported). same_pmac r.pmac y) (reported_leads x to) learnt.reported ∙ by y other (reported_at learnt.reported y) refl)
          ∙ sym (known_split learnt y);
      newest = λ mac. refl;
      ip = λ y. refl;
      count = refl;
      later = refl;
    }
      where
        by : (y : Pmac) → same_pmac y x ≡ false → (o : Option Reported) → reported_at learnt.reported y ≡ o → option_map (reported_leads x to) o ≡ o
        by y other None at = refl
        by y other (Some k) at =
            let name : k.pmac ≡ y = pmac_is k.pmac y (find_passes (λ (r : Reported). same_pmac r.pmac y) learnt.reported k at) in
            ap (λ b. Some (record k { recall = if b then Some to else k.recall; aged = not b && k.aged })) (ap (λ z. same_pmac z x) name ∙ other)

-- ---- an address is forgotten
pub record Forgets (r n : Registry) (x : Pmac) : Type 0 where
  pub none : n.at x ≡ None
  pub unknown : n.known_at x ≡ None
  pub no_ip : n.ip_at x ≡ None
  pub alike : (y : Pmac) → same_pmac y x ≡ false → KnowsAlike r n y
  pub ip : (y : Pmac) → same_pmac y x ≡ false → n.ip_at y ≡ r.ip_at y
  pub newest : (mac : Mac) (reg : Registration) → r.newest_of mac ≡ Some reg → same_pmac reg.pmac x ≡ false → n.newest_of mac ≡ Some reg
  pub was_newest : (mac : Mac) (reg : Registration) → n.newest_of mac ≡ Some reg → (r.newest_of mac ≡ Some reg) × (same_pmac reg.pmac x ≡ false)
  pub count : n.count ≡ r.count
  pub later : n.later ≡ r.later

module _ (later : Bool) (learnt : Learnt) (x : Pmac) where
  abbrev other_than : LearntAddress → Bool
  other_than a = not (same_pmac a.pmac x)

  abbrev gone : Learnt
  gone = forgets_known learnt x

  found_gone : found_at gone.addresses x ≡ None
  found_gone = find_gone (λ (a : LearntAddress). same_pmac a.pmac x) other_than (λ a is. ap not is) learnt.addresses

  found_still : (y : Pmac) → same_pmac y x ≡ false → found_at gone.addresses y ≡ found_at learnt.addresses y
  found_still y other =
      find_kept (λ (a : LearntAddress). same_pmac a.pmac y) other_than
      (λ a is. ap not (ap (λ (z : Pmac). same_pmac z x) (pmac_is a.pmac y is) ∙ other)) learnt.addresses

  reported_gone : reported_at gone.reported x ≡ None
  reported_gone = find_gone (λ (r : Reported). same_pmac r.pmac x) (λ r. not (same_pmac r.pmac x)) (λ r is. ap not is) learnt.reported

  reported_still : (y : Pmac) → same_pmac y x ≡ false → reported_at gone.reported y ≡ reported_at learnt.reported y
  reported_still y other =
      find_kept (λ (r : Reported). same_pmac r.pmac y) (λ r. not (same_pmac r.pmac x))
      (λ r is. ap not (ap (λ (z : Pmac). same_pmac z x) (pmac_is r.pmac y is) ∙ other)) learnt.reported

  -- the newest of a host, where it is another one
  abbrev kept : Option LearntAddress → Option LearntAddress
  kept o = option_and_then (λ a. cond (other_than a) (Some a) None) o

  still_newest : (o : Option LearntAddress) (reg : Registration) → option_map registered_as o ≡ Some reg → same_pmac reg.pmac x ≡ false →
      option_map registered_as (kept o) ≡ Some reg
  still_newest None reg is other = absurd (none-some reg is)
  still_newest (Some a) reg is other =
      let test : same_pmac a.pmac x ≡ false = ap (λ (q : Registration). same_pmac q.pmac x) (same_Some (registered_as a) reg is) ∙ other in
      ap (λ b. option_map registered_as (cond (not b) (Some a) None)) test ∙ is

  was_so : (o : Option LearntAddress) (reg : Registration) → option_map registered_as (kept o) ≡ Some reg → (option_map registered_as o ≡ Some reg) × (same_pmac reg.pmac x ≡ false)
  was_so None reg is = absurd (none-some reg is)
  was_so (Some a) reg is = by (same_pmac a.pmac x) refl is
    where
      by : (b : Bool) → same_pmac a.pmac x ≡ b → option_map registered_as (cond (not b) (Some a) None) ≡ Some reg →
          (Some (registered_as a) ≡ Some reg) × (same_pmac reg.pmac x ≡ false)
      by true same h = absurd (none-some reg h)
      by false other h = (h, ap (λ (q : Registration). same_pmac q.pmac x) (sym (same_Some (registered_as a) reg h)) ∙ other)

  pub forgotten : ((mac : Mac) → AreAlone mac learnt.addresses) → Forgets (registry_with later learnt) (registry_with later (forgets_known learnt x)) x
  forgotten alone = record {
    none = forgotten_registration learnt x;
    unknown = known_split gone x ∙ ap (λ o. or_known o (reported_at gone.reported x)) found_gone ∙ reported_gone;
    no_ip = ap (option_and_then (λ (a : LearntAddress). a.ip)) found_gone;
    alike = λ y other. record {
      at = other_registration learnt x y other;
      known = known_split gone y ∙ (λ i. or_known (found_still y other i) (reported_still y other i)) ∙ sym (known_split learnt y);
    };
    ip = λ y other. ap (option_and_then (λ (a : LearntAddress). a.ip)) (found_still y other);
    newest = λ mac reg is other.
        ap (option_map registered_as) (find_without mac other_than learnt.addresses (alone mac)) ∙ still_newest (find (is_newest_of mac) learnt.addresses) reg is other;
    was_newest = λ mac reg is.
        was_so (find (is_newest_of mac) learnt.addresses) reg (sym (ap (option_map registered_as) (find_without mac other_than learnt.addresses (alone mac))) ∙ is);
    count = refl;
    later = refl;
  }

-- no trap that is known to stand leads to it
abbrev pub IsLedNowhere : Registry → Pmac → Type 0
IsLedNowhere r x = (y : Pmac) (known : Reported) (c : Recall) → r.known_at y ≡ Some known → known.recall ≡ Some c → known.aged ≡ false → same_pmac c.new x ≡ true → ⊥

any_of_found : {X : Type 0} (p q : X → Bool) (xs : List X) (x : X) → find p xs ≡ Some x → q x ≡ true → list_any q xs ≡ true
any_of_found p q [] x h is = absurd (none-some x h)
any_of_found p q (y ∷ xs) x h is = by (λ k. any_of_found p q xs x k is) (p y) h
  where
    by : (find p xs ≡ Some x → list_any q xs ≡ true) → (b : Bool) → cond b (Some y) (find p xs) ≡ Some x → (q y || list_any q xs) ≡ true
    by rest true k = or_left (q y) (list_any q xs) (ap q (same_Some y x k) ∙ is)
    by rest false k = or_right (q y) (list_any q xs) (rest k)

pub led_nowhere : (later : Bool) (learnt : Learnt) (x : Pmac) → is_known_led_to learnt x ≡ false → IsLedNowhere (registry_with later learnt) x
led_nowhere later learnt x none y known c found to waits here =
    let trapped : is_known_trapped_to x known ≡ true =
    and_from (not known.aged) (leads_to x known.recall) (ap not waits) (ap (leads_to x) to ∙ here) in
    false≢true (sym none ∙ any_of_found (λ (r : Reported). same_pmac r.pmac y) (is_known_trapped_to x) (known_addresses learnt) known found trapped)
