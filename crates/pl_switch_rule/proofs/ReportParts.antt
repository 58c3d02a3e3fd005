-- What each word of a report has: a property of acts that is given of the kinds of words that reports have.
use Rattle.std.proofs.Common.{◌≡◌, ℕ, zero, suc, ◌+◌, ◌-◌, ◌==◌, ◌&&◌, Bool, true, List, [], ◌∷◌, ◌++◌, fold, Option, Some, None, is_none, Ordering, Less, Equal, Greater, nat_cmp, eq-eqb, if◌then◌else◌, slice_get, refl, ap, ◌∙◌, arith}
use Rattle.std.specs.BTreeSet.{insert_key}
use Rattle.std.specs.List.{AllByRecursion}
use Rattle.std.specs.Ordering.{match_ordering}
use Rattle.std.proofs.lemmas.Bool.{and_parts, cond_both, ne_eqb, or_left, or_right}
use Rattle.pl_lemmas.proofs.Exports.{all_append}
use Rattle.pl_frame.specs.declared.address.SwitchId.{SwitchId}
use Rattle.pl_pmac.specs.declared.pmac.Pmac.{Pmac}
use Rattle.pl_layouts.specs.Placement.{is_known}
use Rattle.pl_layouts.proofs.Exports.{known_is}
use Rattle.pl_node.specs.declared.acts.Act.{Act}
use Rattle.pl_node.specs.declared.acts.Act.TheVariants as act
use Rattle.pl_node.specs.AddressUses.{is_in_use}
use Rattle.pl_node.specs.declared.address_use.AddressUse.{AddressUse}
use Rattle.pl_node.specs.declared.address_use.AddressUse.TheVariants.{Free, InUse, Resting, Trapped}
use Rattle.pl_node.specs.declared.messages.ToManager.{ToManager}
use Rattle.pl_node.specs.declared.messages.ToManager.TheVariants as tell
use Rattle.pl_node.specs.declared.switch_records.Grant.{Grant}
use Rattle.pl_node.specs.declared.switch_records.Member.{Member}
use Rattle.pl_node.specs.PortRecords.{id_at, is_usable, ports_of_switch}
use Rattle.pl_node.specs.SwitchViews.{SwitchView}
use Rattle.pl_switch_rule.specs.Granting.{address_at_port, grant_number, grants_at}
use Rattle.pl_switch_rule.specs.Intake.{groups_of, has_member_of}
use Rattle.pl_switch_rule.specs.Reporting.{addresses_reported, each_from, each_grant, hears_hello, link_reported, links_reported, members_reported, own_reported, report, report_for, rest_reported, trap_reported, use_reported, wish_reported}
use Rattle.pl_switch_rule.proofs.RowActs.{all_flat, all_map, ChangeActs, Each, GrantActs, ReportActs}

-- ---- groups that are told have members
all_inserted : (Q : ℕ → Type 0) (groups : List ℕ) (group : ℕ) → Q group → AllByRecursion Q groups → AllByRecursion Q (insert_key nat_cmp groups group)
all_inserted Q [] group here all = (here, tt)
all_inserted Q (g ∷ groups) group here all = by (nat_cmp group g) (all_inserted Q groups group here all.1)
  where
    by : (o : Ordering) → AllByRecursion Q (insert_key nat_cmp groups group) →
        AllByRecursion Q (match_ordering o (group ∷ g ∷ groups) (g ∷ groups) (g ∷ insert_key nat_cmp groups group))
    by Less rest = (here, all)
    by Equal rest = all
    by Greater rest = (all.0, rest)

-- of the groups of members that stand in a list
groups_in : (Q : ℕ → Type 0) (members : List Member) (groups : List ℕ) → AllByRecursion (λ m. Q m.group) members → AllByRecursion Q groups →
    AllByRecursion Q (fold (λ those m. insert_key nat_cmp those m.group) groups members)
groups_in Q [] groups each all = all
groups_in Q (m ∷ members) groups each all = groups_in Q members (insert_key nat_cmp groups m.group) each.1 (all_inserted Q groups m.group each.0 all)

each_has : (members : List Member) → AllByRecursion (λ m. has_member_of members m.group ≡ true) members
each_has [] = tt
each_has (m ∷ members) = (
  or_left (m.group == m.group) (has_member_of members m.group) (eq-eqb m.group m.group refl),
  later members (each_has members),
)
  where
    later : (ms : List Member) → AllByRecursion (λ q. has_member_of members q.group ≡ true) ms → AllByRecursion (λ q. has_member_of (m ∷ members) q.group ≡ true) ms
    later [] all = tt
    later (q ∷ ms) all = (or_right (m.group == q.group) (has_member_of members q.group) all.0, later ms all.1)

groups_have : (members : List Member) → AllByRecursion (λ group. has_member_of members group ≡ true) (groups_of members)
groups_have members = groups_in (λ group. has_member_of members group ≡ true) members [] (each_has members) tt

all_of : {X : Type 0} (P Q : X → Type 0) (xs : List X) → ((x : X) → P x → Q x) → AllByRecursion P xs → AllByRecursion Q xs
all_of P Q [] each all = tt
all_of P Q (x ∷ xs) each all = (each x all.0, all_of P Q xs each all.1)

-- a grant in a list, by its number
numbered : (grants : List Grant) (n i : ℕ) (g : Grant) → n ≡ 1 + i → slice_get grants i ≡ Some g → grant_number grants n ≡ Some g
numbered grants n i g at is =
    let apart : n ≡ 0 → ⊥ = λ none. absurd (omega (arith, at, none)) in
    let back : n - 1 ≡ i = omega (arith, at) in
    ap (λ b. if◌then◌else◌ {A = Option Grant} b None (slice_get grants (n - 1))) (ne_eqb n 0 apart) ∙ ap (λ m. slice_get grants m) back ∙ is

-- ---- the words of a report
module _ (P : Act → Type 0) where
  abbrev IsTold : ToManager → Type 0
  IsTold word = P (act.Tell word)

  each_from_acts : (reported : ℕ → Grant → List ToManager) → ((vmid : ℕ) (g : Grant) → AllByRecursion IsTold (reported vmid g)) → (vmid : ℕ) (grants : List Grant) →
      AllByRecursion IsTold (each_from reported vmid grants)
  each_from_acts reported each vmid [] = tt
  each_from_acts reported each vmid (g ∷ grants) =
      all_append IsTold (reported vmid g) (each_from reported (vmid + 1) grants) (each vmid g) (each_from_acts reported each (vmid + 1) grants)

  each_grant_acts : (reported : Pmac → Grant → List ToManager) → ((x : Pmac) (g : Grant) → AllByRecursion IsTold (reported x g)) → (v : SwitchView) →
      AllByRecursion IsTold (each_grant reported v)
  each_grant_acts reported each v =
      all_flat IsTold (λ port. each_from (λ vmid g. reported (address_at_port v port vmid) g) 1 (grants_at v port)) (ports_of_switch v.k)
      (λ port. each_from_acts (λ vmid g. reported (address_at_port v port vmid) g) (λ vmid g. each (address_at_port v port vmid) g) 1 (grants_at v port))

  trap_acts : ReportActs P → (x : Pmac) (held : AddressUse) → AllByRecursion IsTold (trap_reported x held)
  trap_acts may x (InUse idle) = tt
  trap_acts may x (Trapped trap age) = (may.trapped x trap.new trap.number, tt)
  trap_acts may x (Resting number) = tt
  trap_acts may x Free = tt

  rest_acts : ((address : Pmac) (number : ℕ) → IsTold (tell.Aged address number)) → (x : Pmac) (held : AddressUse) → AllByRecursion IsTold (rest_reported x held)
  rest_acts aged x (InUse idle) = tt
  rest_acts aged x (Trapped trap age) = tt
  rest_acts aged x (Resting number) = (aged x number, tt)
  rest_acts aged x Free = tt

  -- of each address by its place, where a grant stands there
  module _ (v : SwitchView) where
    each_there : (reported : ℕ → Grant → List ToManager) (vmid : ℕ) (grants : List Grant) →
        ((n i : ℕ) (g : Grant) → n ≡ vmid + i → slice_get grants i ≡ Some g → AllByRecursion IsTold (reported n g)) →
        AllByRecursion IsTold (each_from reported vmid grants)
    each_there reported vmid [] each = tt
    each_there reported vmid (g ∷ grants) each =
        all_append IsTold (reported vmid g) (each_from reported (vmid + 1) grants) (each vmid zero g (omega arith) refl)
        (each_there reported (vmid + 1) grants (λ n i h at is. each n (suc i) h (omega (arith, at)) is))

    grants_there : (reported : Pmac → Grant → List ToManager) →
        ((port n : ℕ) (g : Grant) → grant_number (grants_at v port) n ≡ Some g → AllByRecursion IsTold (reported (address_at_port v port n) g)) →
        AllByRecursion IsTold (each_grant reported v)
    grants_there reported each =
        all_flat IsTold (λ port. each_from (λ vmid g. reported (address_at_port v port vmid) g) 1 (grants_at v port)) (ports_of_switch v.k) (λ port.
        each_there (λ vmid g. reported (address_at_port v port vmid) g) 1 (grants_at v port) (λ n i g at is. each port n g (numbered (grants_at v port) n i g at is)))

    used_there : (x : Pmac) (g : Grant) (held : AddressUse) → g.held ≡ held → (is_in_use g.held ≡ true → IsTold (tell.Learned x g.amac g.ip)) →
        AllByRecursion IsTold (use_reported x g held)
    used_there x g (InUse idle) is told = (told (ap is_in_use is), tt)
    used_there x g (Trapped trap age) is told = tt
    used_there x g (Resting number) is told = tt
    used_there x g Free is told = tt

    pub addresses_there : ((port n : ℕ) (g : Grant) → grant_number (grants_at v port) n ≡ Some g → is_in_use g.held ≡ true → IsTold (tell.Learned (address_at_port v port n) g.amac g.ip)) →
        ((address : Pmac) (number : ℕ) → IsTold (tell.Aged address number)) → ReportActs P → AllByRecursion IsTold (addresses_reported v)
    addresses_there learnt aged may =
        let used = each_grant (λ x g. use_reported x g g.held) v in
        let traps = each_grant (λ x g. trap_reported x g.held) v in
        let rests = each_grant (λ x g. rest_reported x g.held) v in
        all_append IsTold used (traps ++ rests)
        (grants_there (λ x g. use_reported x g g.held) (λ port n g is. used_there (address_at_port v port n) g g.held refl (learnt port n g is)))
        (all_append IsTold traps rests (each_grant_acts (λ x g. trap_reported x g.held) (λ x g. trap_acts may x g.held) v)
        (each_grant_acts (λ x g. rest_reported x g.held) (λ x g. rest_acts aged x g.held) v))

  module _ (v : SwitchView) where
    link_acts : ((neighbour : SwitchId) (usable : Bool) → IsTold (tell.Link neighbour usable)) → (o : Option SwitchId) (usable : Bool) → AllByRecursion IsTold (link_reported o usable)
    link_acts linked None usable = tt
    link_acts linked (Some neighbour) usable = (linked neighbour usable, tt)

    pub links_acts : ((neighbour : SwitchId) (usable : Bool) → IsTold (tell.Link neighbour usable)) → AllByRecursion IsTold (links_reported v)
    links_acts linked =
        all_flat IsTold (λ port. link_reported (id_at v port) (is_usable v port)) (ports_of_switch v.k) (λ port. link_acts linked (id_at v port) (is_usable v port))

    wish_acts : (v.place.position ≡ Some 0 → IsTold tell.PodWanted) → AllByRecursion IsTold (wish_reported v.place)
    wish_acts wanted = cond_both (is_known v.place.level 0 && is_known v.place.position 0 && is_none v.place.pod) (tell.PodWanted ∷ []) [] (AllByRecursion IsTold)
        (λ wants. (wanted (known_is v.place.position 0 (position wants)), tt)) (λ other. tt)
      where
        position : (is_known v.place.level 0 && is_known v.place.position 0 && is_none v.place.pod) ≡ true → is_known v.place.position 0 ≡ true
        position wants =
            (and_parts (is_known v.place.level 0) (is_known v.place.position 0)
            (and_parts (is_known v.place.level 0 && is_known v.place.position 0) (is_none v.place.pod) wants).0).1

    members_acts : ((group : ℕ) → has_member_of v.members group ≡ true → IsTold (tell.Members group true)) → AllByRecursion IsTold (members_reported v)
    members_acts joined =
        all_map IsTold (λ group. tell.Members group true) (groups_of v.members)
        (all_of (λ group. has_member_of v.members group ≡ true) (λ group. IsTold (tell.Members group true)) (groups_of v.members) joined (groups_have v.members))

    -- the whole row, where it is so of the links and of the addresses
    pub greeted_acts : ReportActs P → IsTold (tell.Place v.place) → AllByRecursion IsTold (links_reported v) → (v.place.position ≡ Some 0 → IsTold tell.PodWanted) →
        AllByRecursion IsTold (addresses_reported v) → ((group : ℕ) → has_member_of v.members group ≡ true → IsTold (tell.Members group true)) → (epoch : ℕ) →
        Each P (hears_hello v epoch)
    greeted_acts may placed links wanted addresses joined epoch =
        all_map P (λ (word : ToManager). act.Tell word) (report_for epoch v) (
          may.begun epoch,
          all_append IsTold (report v) (tell.End epoch ∷ [])
              (all_append IsTold (own_reported v) (addresses_reported v ++ members_reported v)
              (placed, all_append IsTold (links_reported v) (wish_reported v.place) links (wish_acts wanted))
              (all_append IsTold (addresses_reported v) (members_reported v) addresses (members_acts joined)))
              (may.ended epoch, tt),
        )

    pub hello_acts : GrantActs P → ((address : Pmac) (number : ℕ) → IsTold (tell.Aged address number)) → ReportActs P → ChangeActs v.place P →
        ((group : ℕ) → has_member_of v.members group ≡ true → IsTold (tell.Members group true)) → (epoch : ℕ) → Each P (hears_hello v epoch)
    hello_acts grants aged may place joined epoch =
        greeted_acts may place.placed (links_acts place.linked) place.wanted
        (addresses_there v (λ port n g is used. grants.learnt (address_at_port v port n) g.amac g.ip) aged may) joined epoch
