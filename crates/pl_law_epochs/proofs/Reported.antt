-- What the report of a switch has on an address: one word, by what the switch uses the address for; and each word of it is good.
use Rattle.std.proofs.Common.{◌≡◌, ◌≤◌, ◌<◌, ℕ, zero, suc, ◌+◌, ◌&&◌, true, false, List, [], ◌∷◌, ◌++◌, length, map, Option, Some, None, is_none, slice_get, unwrap_or, refl, sym, ap, subst, ◌∙◌, inl, inr, arith, append-nil}
use Rattle.std.specs.List.{AllByRecursion, flat_map, range_with_len}
use Rattle.std.specs.Option.{option_map}
use Rattle.std.proofs.lemmas.Bool.{and_parts, cases_Bool, cases_eq, cases_lt, cond_both}
use Rattle.std.proofs.lemmas.List.{get_or_past}
use Rattle.std.proofs.lemmas.Option.{none-some}
use Rattle.pl_lemmas.proofs.Exports.{all_append}
use Rattle.pl_frame.specs.declared.address.Ip4.{Ip4}
use Rattle.pl_frame.specs.declared.address.Mac.{Mac}
use Rattle.pl_pmac.specs.declared.pmac.Pmac.{Pmac}
use Rattle.pl_layouts.specs.Equality.{same_pmac}
use Rattle.pl_layouts.specs.Placement.{is_known}
use Rattle.pl_layouts.proofs.Exports.{known_is, pmac_is}
use Rattle.pl_node.specs.declared.acts.Act.{Act}
use Rattle.pl_node.specs.declared.acts.Act.TheVariants as act
use Rattle.pl_node.specs.AddressUses.{is_held}
use Rattle.pl_node.specs.declared.address_use.AddressUse.{AddressUse}
use Rattle.pl_node.specs.declared.address_use.AddressUse.TheVariants.{Free, InUse, Resting, Trapped}
use Rattle.pl_node.specs.declared.messages.ToManager.{ToManager}
use Rattle.pl_node.specs.declared.messages.ToManager.TheVariants as tell
use Rattle.pl_node.specs.declared.switch_records.Grant.{Grant}
use Rattle.pl_node.specs.PortRecords.{ports_of_switch}
use Rattle.pl_node.specs.SwitchViews.{SwitchView}
use Rattle.pl_switch_rule.specs.Granting.{address_at_port, grant_number, granted, grants_at, is_local}
use Rattle.pl_switch_rule.specs.Reporting.{addresses_reported, each_from, each_grant, members_reported, own_reported, report, report_for, rest_reported, trap_reported, use_reported, wish_reported}
use Rattle.pl_switch_rule.proofs.Exports.{links_acts}
use Rattle.pl_law_addresses.specs.EdgeAddresses.{IsGoodAddressTable, IsHeldFor, is_settled}
use Rattle.pl_law_addresses.specs.OwnAddresses.{IsOwnIp}
use Rattle.pl_law_addresses.proofs.Exports.{granted_here, IsSilentWord, local_here, number_one_more}
use Rattle.pl_law_epochs.specs.Edges.{IsGoodWord}
use Rattle.pl_law_epochs.specs.Situations.{reported}
use Rattle.pl_law_epochs.specs.Tenures.{Said, said_of, use_of, words_on}
use Rattle.pl_law_epochs.proofs.Staying.{aged_here, aged_there, told_here, told_there, trap_here, trap_there, words_behind}

-- ---- words that speak of no address
abbrev IsQuiet : Act → Type 0
IsQuiet (act.Tell word) = IsSilentWord word
IsQuiet a = Unit {0}

quiet_word : (x : Pmac) (word : ToManager) → IsSilentWord word → said_of x word ≡ []
quiet_word x (tell.Learned pmac amac ip) is = absurd is
quiet_word x (tell.Aged pmac number) is = absurd is
quiet_word x (tell.Trapped old new number) is = absurd is
quiet_word x word is = refl

quiet_words : (x : Pmac) (words : List ToManager) → AllByRecursion IsSilentWord words → words_on x words ≡ []
quiet_words x [] all = refl
quiet_words x (word ∷ words) all = ap (λ ws. ws ++ words_on x words) (quiet_word x word all.0) ∙ quiet_words x words all.1

quiet_good : (own : Mac → Option Ip4) (f : Pmac → Option Grant) (words : List ToManager) → AllByRecursion IsSilentWord words → AllByRecursion (IsGoodWord own f) words
quiet_good own f [] all = tt
quiet_good own f (word ∷ words) all = (by word all.0, quiet_good own f words all.1)
  where
    by : (w : ToManager) → IsSilentWord w → IsGoodWord own f w
    by (tell.Learned pmac amac ip) is = absurd is
    by (tell.Aged pmac number) is = absurd is
    by (tell.Trapped old new number) is = absurd is
    by w is = tt

own_quiet : (v : SwitchView) → AllByRecursion IsSilentWord (own_reported v)
own_quiet v = (
  tt,
  all_append IsSilentWord _ (wish_reported v.place) (links_acts IsQuiet v (λ neighbour usable. tt))
      (cond_both (is_known v.place.level 0 && is_known v.place.position 0 && is_none v.place.pod) (tell.PodWanted ∷ []) [] (AllByRecursion IsSilentWord) (λ wants. (tt, tt)) (λ other. tt)),
)

groups_quiet : (groups : List ℕ) → AllByRecursion IsSilentWord (map (λ group. tell.Members group true) groups)
groups_quiet [] = tt
groups_quiet (group ∷ groups) = (tt, groups_quiet groups)

-- ---- one address
-- an address of the place of a switch is the one of its port and its vmid
pub local_address : (v : SwitchView) (x : Pmac) → is_local v x ≡ true → address_at_port v x.port x.vmid ≡ x
local_address v x is =
    let two = and_parts (is_known v.place.level 0) (is_known v.place.pod x.pod && is_known v.place.position x.position) is in
    let more = and_parts (is_known v.place.pod x.pod) (is_known v.place.position x.position) two.1 in
    let pod : unwrap_or v.place.pod 0 ≡ x.pod = ap (λ (o : Option ℕ). unwrap_or o 0) (known_is v.place.pod x.pod more.0) in
    let position : unwrap_or v.place.position 0 ≡ x.position = ap (λ (o : Option ℕ). unwrap_or o 0) (known_is v.place.position x.position more.1) in
    λ i. record { pod = pod i; position = position i; port = x.port; vmid = x.vmid }

other_at : (v : SwitchView) (x : Pmac) (port vmid : ℕ) → ((port ≡ x.port) × (vmid ≡ x.vmid) → ⊥) → same_pmac (address_at_port v port vmid) x ≡ false
other_at v x port vmid other = elim (cases_Bool (same_pmac (address_at_port v port vmid) x)) [
  | inr apart ↦ apart
  | inl same ↦
      let is = pmac_is (address_at_port v port vmid) x same in
      absurd (other (ap (λ (y : Pmac). y.port) is, ap (λ (y : Pmac). y.vmid) is))
]

module _ (v : SwitchView) (x : Pmac) (local : is_local v x ≡ true) (says : Pmac → Grant → List ToManager)
    (aside : (y : Pmac) (g : Grant) → same_pmac y x ≡ false → words_on x (says y g) ≡ []) where
  -- what is said of what is granted, if something is
  abbrev pick : Option Grant → List Said
  pick None = []
  pick (Some g) = words_on x (says x g)

  module _ (port : ℕ) where
    abbrev at_vmid : ℕ → Grant → List ToManager
    at_vmid vmid g = says (address_at_port v port vmid) g

    none_from : (n : ℕ) (grants : List Grant) → ((m : ℕ) → n ≤ m → (port ≡ x.port) × (m ≡ x.vmid) → ⊥) → words_on x (each_from at_vmid n grants) ≡ []
    none_from n [] other = refl
    none_from n (g ∷ grants) other =
        words_behind x (at_vmid n g) (each_from at_vmid (n + 1) grants)
        ∙ ap (λ ws. ws ++ words_on x (each_from at_vmid (n + 1) grants)) (aside (address_at_port v port n) g (other_at v x port n (other n (omega arith))))
        ∙ none_from (n + 1) grants (λ m more. other m (omega (arith, more)))

    each_at : port ≡ x.port → (n i : ℕ) (grants : List Grant) → x.vmid ≡ n + i → words_on x (each_from at_vmid n grants) ≡ pick (slice_get grants i)
    each_at is n zero [] at = refl
    each_at is n (suc i) [] at = refl
    each_at is n zero (g ∷ grants) at =
        let here : n ≡ x.vmid = omega (arith, at) in
        let name : address_at_port v port n ≡ x = ap (λ p. address_at_port v p n) is ∙ ap (address_at_port v x.port) here ∙ local_address v x local in
        words_behind x (at_vmid n g) (each_from at_vmid (n + 1) grants)
        ∙ ap (λ ws. words_on x (at_vmid n g) ++ ws) (none_from (n + 1) grants (λ m more both. let e = both.1 in absurd (omega (arith, more, e, here))))
        ∙ append-nil (words_on x (at_vmid n g)) ∙ ap (λ y. words_on x (says y g)) name
    each_at is n (suc i) (g ∷ grants) at =
        words_behind x (at_vmid n g) (each_from at_vmid (n + 1) grants)
        ∙ ap (λ ws. ws ++ words_on x (each_from at_vmid (n + 1) grants)) (aside (address_at_port v port n) g (other_at v x port n (λ both. let e = both.1 in absurd (omega (arith, at, e)))))
        ∙ each_at is (n + 1) i grants (omega (arith, at))

  -- of one port
  at_port : (grants : List Grant) (n : ℕ) → x.vmid ≡ n → words_on x (each_from (at_vmid x.port) 1 grants) ≡ pick (grant_number grants n)
  at_port grants zero at = none_from x.port 1 grants (λ m more both. let e = both.1 in absurd (omega (arith, more, e, at)))
  at_port grants (suc i) at = each_at x.port refl 1 i grants (omega (arith, at)) ∙ ap pick (sym (number_one_more grants i))

  abbrev of_port : ℕ → List ToManager
  of_port port = each_from (at_vmid port) 1 (grants_at v port)

  none_of : (n a : ℕ) → ((q : ℕ) → a ≤ q → q < a + n → q ≡ x.port → ⊥) → words_on x (flat_map of_port (range_with_len a n)) ≡ []
  none_of zero a other = refl
  none_of (suc n) a other =
      words_behind x (of_port a) (flat_map of_port (range_with_len (a + 1) n))
      ∙ ap (λ ws. ws ++ words_on x (flat_map of_port (range_with_len (a + 1) n))) (none_from a 1 (grants_at v a) (λ m more both. other a (omega arith) (omega arith) both.0))
      ∙ none_of n (a + 1) (λ q low high. other q (omega (arith, low)) (omega (arith, high)))

  one_of : (n a : ℕ) → a ≤ x.port → x.port < a + n → words_on x (flat_map of_port (range_with_len a n)) ≡ words_on x (of_port x.port)
  one_of zero a low high = absurd (omega (arith, low, high))
  one_of (suc n) a low high = elim (cases_eq a x.port) [
    | inl here ↦
        words_behind x (of_port a) (flat_map of_port (range_with_len (a + 1) n))
        ∙ ap (λ ws. words_on x (of_port a) ++ ws) (none_of n (a + 1) (λ q more less same. absurd (omega (arith, more, same, here))))
        ∙ append-nil (words_on x (of_port a)) ∙ ap (λ p. words_on x (of_port p)) here
    | inr other ↦
        words_behind x (of_port a) (flat_map of_port (range_with_len (a + 1) n))
        ∙ ap (λ ws. ws ++ words_on x (flat_map of_port (range_with_len (a + 1) n))) (none_from a 1 (grants_at v a) (λ m more both. other both.0))
        ∙ one_of n (a + 1) (omega (arith, low, other)) (omega (arith, high))
  ]

  -- of all ports
  pub said_once : length v.grants ≡ v.k → words_on x (each_grant says v) ≡ pick (granted v x)
  said_once many =
      elim (cases_lt x.port v.k) [
        | inl within ↦ one_of v.k 0 (omega arith) (omega (arith, within)) ∙ at_port (grants_at v x.port) x.vmid refl
        | inr past ↦
            let nothing : grants_at v x.port ≡ [] = get_or_past v.grants x.port [] (subst (λ n. n ≤ x.port) (sym many) past) in
            none_of v.k 0 (λ q low high same. absurd (omega (arith, high, same, past)))
            ∙ sym (ap (λ gs. pick (grant_number gs x.vmid)) nothing ∙ ap pick (none_numbered x.vmid))
      ] ∙ ap pick (sym (granted_here v x local))
    where
      none_numbered : (n : ℕ) → grant_number [] n ≡ None
      none_numbered zero = refl
      none_numbered (suc n) = number_one_more [] n

-- ---- the three kinds of words
use_aside : (x y : Pmac) (g : Grant) (held : AddressUse) → same_pmac y x ≡ false → words_on x (use_reported y g held) ≡ []
use_aside x y g (InUse idle) other = ap (λ ws. ws ++ []) (told_there y x g.amac g.ip other)
use_aside x y g (Trapped trap age) other = refl
use_aside x y g (Resting number) other = refl
use_aside x y g Free other = refl

trap_aside : (x y : Pmac) (held : AddressUse) → same_pmac y x ≡ false → words_on x (trap_reported y held) ≡ []
trap_aside x y (InUse idle) other = refl
trap_aside x y (Trapped trap age) other = ap (λ ws. ws ++ []) (trap_there y x trap.new trap.number other)
trap_aside x y (Resting number) other = refl
trap_aside x y Free other = refl

rest_aside : (x y : Pmac) (held : AddressUse) → same_pmac y x ≡ false → words_on x (rest_reported y held) ≡ []
rest_aside x y (InUse idle) other = refl
rest_aside x y (Trapped trap age) other = refl
rest_aside x y (Resting number) other = ap (λ ws. ws ++ []) (aged_there y x number other)
rest_aside x y Free other = refl

-- one of them is said
said_by_use : (x : Pmac) (g : Grant) (held : AddressUse) →
    words_on x (use_reported x g held) ++ (words_on x (trap_reported x held) ++ words_on x (rest_reported x held)) ≡ reported (use_of (Some held))
said_by_use x g (InUse idle) = ap (λ ws. (ws ++ []) ++ []) (told_here x g.amac g.ip)
said_by_use x g (Trapped trap age) = ap (λ ws. (ws ++ []) ++ []) (trap_here x trap.new trap.number)
said_by_use x g (Resting number) = ap (λ ws. ws ++ []) (aged_here x number)
said_by_use x g Free = refl

module _ (v : SwitchView) (many : length v.grants ≡ v.k) where
  module _ (x : Pmac) (local : is_local v x ≡ true) where
    addresses_said : words_on x (addresses_reported v) ≡ reported (use_of (option_map (λ (g : Grant). g.held) (granted v x)))
    addresses_said =
        let uses = each_grant (λ y g. use_reported y g g.held) v in
        let traps = each_grant (λ y g. trap_reported y g.held) v in
        let rests = each_grant (λ y g. rest_reported y g.held) v in
        words_behind x uses (traps ++ rests)
        ∙ ap (λ ws. words_on x uses ++ ws) (words_behind x traps rests)
        ∙ (λ i.
        said_once v x local (λ y g. use_reported y g g.held) (λ y g other. use_aside x y g g.held other) many i
        ++ (said_once v x local (λ y g. trap_reported y g.held) (λ y g other. trap_aside x y g.held other) many i
        ++ said_once v x local (λ y g. rest_reported y g.held) (λ y g other. rest_aside x y g.held other) many i))
        ∙ by (granted v x)
      where
        by : (o : Option Grant) →
            pick v x local (λ y g. use_reported y g g.held) (λ y g other. use_aside x y g g.held other) o
            ++ (pick v x local (λ y g. trap_reported y g.held) (λ y g other. trap_aside x y g.held other) o
            ++ pick v x local (λ y g. rest_reported y g.held) (λ y g other. rest_aside x y g.held other) o)
            ≡ reported (use_of (option_map (λ (g : Grant). g.held) o))
        by None = refl
        by (Some g) = said_by_use x g g.held

    pub report_said : (epoch : ℕ) → words_on x (report_for epoch v) ≡ reported (use_of (option_map (λ (g : Grant). g.held) (granted v x)))
    report_said epoch =
        words_behind x (report v) (tell.End epoch ∷ []) ∙ append-nil (words_on x (report v))
        ∙ words_behind x (own_reported v) (addresses_reported v ++ members_reported v)
        ∙ ap (λ ws. ws ++ words_on x (addresses_reported v ++ members_reported v)) (quiet_words x (own_reported v) (own_quiet v))
        ∙ words_behind x (addresses_reported v) (members_reported v)
        ∙ ap (λ ws. words_on x (addresses_reported v) ++ ws) (quiet_words x (members_reported v) (groups_quiet _))
        ∙ append-nil (words_on x (addresses_reported v)) ∙ addresses_said

-- ---- each word of it is good
module _ (own : Mac → Option Ip4) (v : SwitchView) (table : IsGoodAddressTable own v)
    (owns : (x : Pmac) (g : Grant) → granted v x ≡ Some g → IsOwnIp own g.amac g.ip) where
  abbrev IsGood : ToManager → Type 0
  IsGood word = IsGoodWord own (λ y. granted v y) word

  module _ (says : Pmac → Grant → List ToManager) (each : (x : Pmac) (g : Grant) → granted v x ≡ Some g → AllByRecursion IsGood (says x g)) where
    -- what is granted at a port is granted
    granted_at : (port n i : ℕ) (g : Grant) → n ≡ suc i → slice_get (grants_at v port) i ≡ Some g → granted v (address_at_port v port n) ≡ Some g
    granted_at port n i g at is = elim (cases_Bool (is_settled v.place)) [
      | inl settled ↦
          granted_here v (address_at_port v port n) (local_here v port n settled) ∙ ap (grant_number (grants_at v port)) at ∙ number_one_more (grants_at v port) i ∙ is
      | inr unsettled ↦ absurd (nothing_there i (sym (ap (λ gs. slice_get gs i) (table.empty unsettled port)) ∙ is))
    ]
      where
        nothing_there : (j : ℕ) → slice_get [] j ≡ Some g → ⊥
        nothing_there zero none = none-some g none
        nothing_there (suc j) none = none-some g none

    from_good : (port n : ℕ) (grants : List Grant) → ((i : ℕ) (g : Grant) → slice_get grants i ≡ Some g → granted v (address_at_port v port (n + i)) ≡ Some g) →
        AllByRecursion IsGood (each_from (λ vmid g. says (address_at_port v port vmid) g) n grants)
    from_good port n [] there = tt
    from_good port n (g ∷ grants) there =
        all_append IsGood (says (address_at_port v port n) g) (each_from (λ vmid h. says (address_at_port v port vmid) h) (n + 1) grants)
        (each (address_at_port v port n) g (let at : n + 0 ≡ n = omega arith in subst (λ m. granted v (address_at_port v port m) ≡ Some g) at (there 0 g refl)))
        (from_good port (n + 1) grants (λ i h is. let at : n + suc i ≡ n + 1 + i = omega arith in subst (λ m. granted v (address_at_port v port m) ≡ Some h) at (there (suc i) h is)))

    ports_good : (ports : List ℕ) → AllByRecursion IsGood (flat_map (λ port. each_from (λ vmid g. says (address_at_port v port vmid) g) 1 (grants_at v port)) ports)
    ports_good [] = tt
    ports_good (port ∷ ports) =
        all_append IsGood (each_from (λ vmid g. says (address_at_port v port vmid) g) 1 (grants_at v port))
        (flat_map (λ q. each_from (λ vmid g. says (address_at_port v q vmid) g) 1 (grants_at v q)) ports)
        (from_good port 1 (grants_at v port) (λ i g is. granted_at port (1 + i) i g (omega arith) is)) (ports_good ports)

  holds : (x : Pmac) (g : Grant) → granted v x ≡ Some g → is_held g.held ≡ true → IsHeldFor (λ y. granted v y) x g.amac
  holds x g is held = record { grant = g; found = is; held = held; to = refl }

  use_good : (x : Pmac) (g : Grant) → granted v x ≡ Some g → (held : AddressUse) → g.held ≡ held → AllByRecursion IsGood (use_reported x g held)
  use_good x g is (InUse idle) at = ((holds x g is (ap is_held at), owns x g is), tt)
  use_good x g is (Trapped trap age) at = tt
  use_good x g is (Resting number) at = tt
  use_good x g is Free at = tt

  trap_good : (x : Pmac) (g : Grant) → granted v x ≡ Some g → (held : AddressUse) → g.held ≡ held → AllByRecursion IsGood (trap_reported x held)
  trap_good x g is (InUse idle) at = tt
  trap_good x g is (Trapped trap age) at = ((g.amac, holds x g is (ap is_held at)), tt)
  trap_good x g is (Resting number) at = tt
  trap_good x g is Free at = tt

  rest_good : (x : Pmac) (g : Grant) → granted v x ≡ Some g → (held : AddressUse) → g.held ≡ held → AllByRecursion IsGood (rest_reported x held)
  rest_good x g is (InUse idle) at = tt
  rest_good x g is (Trapped trap age) at = tt
  rest_good x g is (Resting number) at = ((g.amac, holds x g is (ap is_held at)), tt)
  rest_good x g is Free at = tt

  pub report_good : (epoch : ℕ) → AllByRecursion IsGood (report_for epoch v)
  report_good epoch =
      let uses = each_grant (λ y g. use_reported y g g.held) v in
      let traps = each_grant (λ y g. trap_reported y g.held) v in
      let rests = each_grant (λ y g. rest_reported y g.held) v in (
        tt,
        all_append IsGood (report v) (tell.End epoch ∷ [])
            (all_append IsGood (own_reported v) (addresses_reported v ++ members_reported v) (quiet_good own (λ y. granted v y) (own_reported v) (own_quiet v))
            (all_append IsGood (addresses_reported v) (members_reported v)
            (all_append IsGood uses (traps ++ rests) (ports_good (λ y g. use_reported y g g.held) (λ x g is. use_good x g is g.held refl) (ports_of_switch v.k))
            (all_append IsGood traps rests (ports_good (λ y g. trap_reported y g.held) (λ x g is. trap_good x g is g.held refl) (ports_of_switch v.k))
            (ports_good (λ y g. rest_reported y g.held) (λ x g is. rest_good x g is g.held refl) (ports_of_switch v.k))))
            (quiet_good own (λ y. granted v y) (members_reported v) (groups_quiet _))))
            (tt, tt),
      )
