-- What a step of a switch grants and remembers: parts of a step, and how they go together.
use Rattle.std.proofs.Common.{◌≡◌, ◌⊎◌, ◌≤◌, ◌<◌, ◌+◌, ◌-◌, ℕ, Bool, true, false, nat_lt, if◌then◌else◌, get_or, set, List, [], ◌∷◌, ◌++◌, length, Option, Some, None, refl, sym, ap, subst, ◌∙◌, inl, inr, arith, zero, suc, get_or-set_same, get_or-set_other, length-set, length-append}
use Rattle.std.specs.List.{AllByRecursion}
use Rattle.std.specs.Option.{option_map}
use Rattle.std.proofs.lemmas.Bool.{cases_Bool, cases_eq, false≢true, ltb-true}
use Rattle.std.proofs.lemmas.Option.{none-some, same_Some}
use Rattle.pl_lemmas.proofs.Exports.{all_append}
use Rattle.pl_frame.specs.declared.address.Ip4.{Ip4}
use Rattle.pl_frame.specs.declared.address.Mac.{Mac}
use Rattle.pl_pmac.specs.declared.pmac.Pmac.{Pmac}
use Rattle.pl_layouts.specs.declared.place.Place.{Place}
use Rattle.pl_layouts.specs.Equality.{same_pmac}
use Rattle.pl_node.specs.AddressUses.{is_held, is_in_use}
use Rattle.pl_node.specs.declared.acts.Act.{Act}
use Rattle.pl_node.specs.declared.address_use.AddressUse.{AddressUse}
use Rattle.pl_node.specs.declared.address_use.AddressUse.TheVariants.{Free, InUse, Resting, Trapped}
use Rattle.pl_node.specs.declared.switch_records.Grant.{Grant}
use Rattle.pl_node.specs.declared.switch_records.Source.{Source}
use Rattle.pl_node.specs.SwitchViews.{SwitchView}
use Rattle.pl_steps.specs.Steps.{SwitchStep, rests, ◌▹◌}
use Rattle.pl_switch_rule.specs.Granting.{address_at_port, all_but_first, freed_at, grant_number, granted, grants_at, grants_new, grants_next, in_use, is_local, new_grant, next_vmid, remembered_at, with_grants, with_next}
use Rattle.pl_switch_rule.proofs.Exports.{granted_parts}
use Rattle.pl_law_addresses.specs.EdgeAddresses.{is_held as is_held_there, is_live, is_settled}
use Rattle.pl_law_addresses.specs.FreeVmids.{AreFreeVmids}
use Rattle.pl_law_addresses.proofs.Exports.{aside_does, granted_here, held_free, in_use_for, is_or_other, IsNextVmid, LeavesAddresses, local_here, next_granted, none_used, now_at, number_set_other, number_set_same, number_within, others_at}
use Rattle.pl_law_ledger.proofs.Giving.{FreesNone, Giving, IsFresh, IsNewlyGiven, IsOneOf, all_weaker, first_part, gives, givings, givings_append, none_given, of_all, second_part, silent_frees_none}
use Rattle.pl_law_ledger.proofs.Using.{IsFirstThere, IsTheLast, IsUsedAt, IsUsedThen, same_used}

-- one list of grants for each port, empty as long as the switch is no placed edge switch, and one of the vmids of its free addresses
pub record IsListed (v : SwitchView) : Type 0 where
  pub many : length v.grants ≡ v.k
  pub many_freed : length v.freed ≡ v.k
  pub empty : is_settled v.place ≡ false → (port : ℕ) → grants_at v port ≡ []
  pub free : (port : ℕ) → AreFreeVmids (grants_at v port) (freed_at v port)

abbrev pub AreFew : SwitchView → Type 0
AreFew v = (port : ℕ) → length (grants_at v port) ≤ 65535

-- what is granted under an address was granted there to that host, and was free or not as now
pub record WasGranted (v : SwitchView) (x : Pmac) (g : Grant) : Type 0 where
  pub grant : Grant
  pub found : granted v x ≡ Some grant
  pub to : grant.amac ≡ g.amac
  pub held : is_held grant.held ≡ is_held g.held

pub was_so : (v : SwitchView) (x : Pmac) (g : Grant) → granted v x ≡ Some g → WasGranted v x g
was_so v x g is = record { grant = g; found = is; to = refl; held = refl }

-- what was granted under an address is so still, or another grant is in its place
abbrev pub IsThereStill : SwitchView → SwitchView → Type 0
IsThereStill v w = (x : Pmac) (g : Grant) → granted v x ≡ Some g → (h : Grant) × (granted w x ≡ Some h)

-- an address that is not free is somebody's
pub is_as_there : (h : AddressUse) → is_held h ≡ is_held_there (Some h)
is_as_there (InUse idle) = refl
is_as_there (Trapped trap age) = refl
is_as_there (Resting number) = refl
is_as_there Free = refl

-- where what was granted is so still, what was granted before is held as it was, and what is granted now is in use, a host's address stays one
live_still : (v w : SwitchView) (gs : List Giving) → IsThereStill v w →
    ((x : Pmac) (g : Grant) → granted w x ≡ Some g → WasGranted v x g ⊎ IsOneOf gs (gives x g.amac)) →
    AllByRecursion (IsUsedThen w) gs → (x : Pmac) → is_live w x ≡ false → is_live v x ≡ false
live_still v w gs there covers used x dead = by (granted v x) refl
  where
    held_then : (g : Grant) → granted v x ≡ Some g → (h : Grant) → granted w x ≡ Some h → WasGranted v x h ⊎ IsOneOf gs (gives x h.amac) →
        is_held g.held ≡ true → is_held h.held ≡ true
    held_then g is h now (inl was) held = sym was.held ∙ ap (λ (q : Grant). is_held q.held) (same_Some was.grant g (sym was.found ∙ is)) ∙ held
    held_then g is h now (inr one) held =
        let u = of_all (IsUsedThen w) gs (gives x h.amac) used one in
        ap (λ (q : Grant). is_held q.held) (same_Some h u.grant (sym now ∙ u.found)) ∙ ap is_held (in_use_for u.grant.held u.used).1

    by : (o : Option Grant) → granted v x ≡ o → is_live v x ≡ false
    by None is = ap (λ (o : Option Grant). is_held_there (option_map (λ (g : Grant). g.held) o)) is
    by (Some g) is = elim (cases_Bool (is_held g.held)) [
      | inr free ↦ ap (λ (o : Option Grant). is_held_there (option_map (λ (q : Grant). q.held) o)) is ∙ sym (is_as_there g.held) ∙ free
      | inl held ↦
          let now = there x g is in
          absurd (false≢true (sym dead ∙ ap (λ (o : Option Grant). is_held_there (option_map (λ (q : Grant). q.held) o)) now.1 ∙ sym (is_as_there now.0.held)
          ∙ held_then g is now.0 now.1 (covers x now.0 now.1) held))
    ]

-- what is found where something was put is that, or nothing is there
put_or_none : {X : Type 0} (xs : List X) (i : ℕ) (x d y : X) → get_or (set xs i x) i d ≡ y → (x ≡ y) ⊎ (d ≡ y)
put_or_none [] i x d y h = inr h
put_or_none (z ∷ xs) zero x d y h = inl h
put_or_none (z ∷ xs) (suc i) x d y h = put_or_none xs i x d y h

-- an address in use behind two parts: what the second one grants is granted where nothing of the first one is in use
last_of_both : (u v : SwitchView) (xs ys : List Giving) (x : Pmac) (mac : Mac) → (IsUsedAt u x mac → IsTheLast v xs x mac) → AllByRecursion (IsUsedThen u) xs →
    AllByRecursion (IsFirstThere u) ys → IsTheLast u ys x mac → IsTheLast v (xs ++ ys) x mac
last_of_both u v xs ys x mac before used first last = elim last.from [
  | inl was ↦
      let it = before was in
      record {
        only = all_append (λ f. f.mac ≡ mac → f.pmac.port ≡ x.port → f.pmac ≡ x) xs ys it.only last.only;
        from = elim it.from [ inl earlier ↦ inl earlier | inr now ↦ inr (first_part xs ys (gives x mac) now) ];
      }
  | inr now ↦ record {
    only = all_append (λ f. f.mac ≡ mac → f.pmac.port ≡ x.port → f.pmac ≡ x) xs ys
        (all_weaker (IsUsedThen u) (λ f. f.mac ≡ mac → f.pmac.port ≡ x.port → f.pmac ≡ x)
        (λ f is mine at. absurd (of_all (IsFirstThere u) ys (gives x mac) first now f.pmac
        (subst (λ (m : Mac). IsUsedAt u f.pmac m) mine is) at)) xs used) last.only;
    from = inr (second_part xs ys (gives x mac) now);
  }
]

-- what is granted at one port changes
pub few_with_one : (v : SwitchView) (port : ℕ) (new : List Grant) → port < length v.grants → length new ≤ 65535 → AreFew v → AreFew (with_grants v port new)
few_with_one v port new within small few at = elim (cases_eq at port) [
  | inr other ↦ subst (λ (gs : List Grant). length gs ≤ 65535) (sym (get_or-set_other v.grants port at new [] other)) (few at)
  | inl here ↦
      subst (λ (n : ℕ). length (get_or (set v.grants port new) n []) ≤ 65535) (sym here)
      (subst (λ (gs : List Grant). length gs ≤ 65535) (sym (get_or-set_same v.grants port new [] within)) small)
]

-- what is granted to a host that is in use then is its address
newly_of : (v w : SwitchView) (gs : List Giving) → AllByRecursion (IsFresh v) gs → AllByRecursion (IsUsedThen w) gs → AllByRecursion (IsNewlyGiven v w) gs
newly_of v w [] fresh used = tt
newly_of v w (g ∷ gs) fresh used = (
  (
    fresh.0,
    record {
      grant = used.0.grant;
      found = used.0.found;
      held = sym (is_as_there used.0.grant.held) ∙ ap is_held
          (in_use_for used.0.grant.held used.0.used).1;
      to = used.0.to;
    },
  ),
  newly_of v w gs fresh.1 used.1,
)

-- P of a port and an actual address: its host has stood there
module _ (P : ℕ → Mac → Type 0) where
  abbrev pub AreOf : SwitchView → Type 0
  AreOf v = (port : ℕ) (source : Source) → remembered_at v port ≡ Some source → P port source.amac

  abbrev pub IsOfHere : Giving → Type 0
  IsOfHere g = P g.pmac.port g.mac

  pub record Takes (v : SwitchView) (s : SwitchStep) : Type 0 where
    -- what is granted, is granted to a host that has stood there
    pub given : IsListed v → AreOf v → AllByRecursion IsOfHere (givings s.acts)
    -- what is granted then was granted before, or is granted by an act
    pub covers : IsListed v → (x : Pmac) (g : Grant) → granted s.view x ≡ Some g → WasGranted v x g ⊎ IsOneOf (givings s.acts) (gives x g.amac)
    pub there : IsListed v → IsThereStill v s.view
    -- what is granted was nobody's
    pub fresh : IsListed v → AllByRecursion (IsFresh v) (givings s.acts)
    pub frees_none : AllByRecursion FreesNone s.acts
    pub listed : IsListed v → IsListed s.view
    pub few : IsListed v → AreFew v → AreFew s.view
    pub sources : AreOf v → AreOf s.view
    -- an address in use is the last that was granted to its host at its port: one is granted where none is in use, and each one stays in use
    pub last : IsListed v → (x : Pmac) (mac : Mac) → IsUsedAt s.view x mac → IsTheLast v (givings s.acts) x mac
    pub first : IsListed v → AllByRecursion (IsFirstThere v) (givings s.acts)
    pub used : IsListed v → AllByRecursion (IsUsedThen s.view) (givings s.acts)
    pub stays : IsListed v → (x : Pmac) (mac : Mac) → IsUsedAt v x mac → IsUsedAt s.view x mac
    pub settled : is_settled v.place ≡ true → is_settled s.view.place ≡ true
    pub k : s.view.k ≡ v.k

  -- what the journal needs of a whole step
  pub record Enters (v : SwitchView) (s : SwitchStep) : Type 0 where
    pub given : IsListed v → AreOf v → AllByRecursion IsOfHere (givings s.acts)
    pub covers : IsListed v → (x : Pmac) (g : Grant) → granted s.view x ≡ Some g → WasGranted v x g ⊎ IsOneOf (givings s.acts) (gives x g.amac)
    pub there : IsListed v → IsThereStill v s.view
    pub newly : IsListed v → AllByRecursion (IsNewlyGiven v s.view) (givings s.acts)
    pub frees_none : AllByRecursion FreesNone s.acts
    pub few : IsListed v → AreFew v → AreFew s.view
    pub sources : AreOf v → AreOf s.view
    pub last : IsListed v → (x : Pmac) (mac : Mac) → IsUsedAt s.view x mac → IsTheLast v (givings s.acts) x mac

  pub enters_of : (v : SwitchView) (s : SwitchStep) → Takes v s → Enters v s
  enters_of v s a = record {
    given = a.given;
    covers = a.covers;
    there = a.there;
    newly = λ listed. newly_of v s.view (givings s.acts) (a.fresh listed) (a.used listed);
    frees_none = a.frees_none;
    few = a.few;
    sources = a.sources;
    last = a.last;
  }

  -- a part in which none is granted or freed
  pub record Quiets (v : SwitchView) (s : SwitchStep) : Type 0 where
    pub covers : (x : Pmac) (g : Grant) → granted s.view x ≡ Some g → WasGranted v x g
    pub there : IsThereStill v s.view
    pub frees_none : AllByRecursion FreesNone s.acts
    pub none : givings s.acts ≡ []
    pub listed : IsListed s.view
    pub few : AreFew v → AreFew s.view
    pub remembered : s.view.remembered ≡ v.remembered
    pub used : (x : Pmac) (mac : Mac) → IsUsedAt s.view x mac → IsUsedAt v x mac

  pub enters_of_quiets : (v : SwitchView) (s : SwitchStep) → Quiets v s → Enters v s
  enters_of_quiets v s q = record {
    given = λ listed are. subst (λ gs. AllByRecursion IsOfHere gs) (sym q.none) tt;
    covers = λ listed x g is. inl (q.covers x g is);
    there = λ listed. q.there;
    newly = λ listed. subst (λ gs. AllByRecursion (IsNewlyGiven v s.view) gs) (sym q.none) tt;
    frees_none = q.frees_none;
    few = λ listed few. q.few few;
    sources = λ are port source is. are port source (ap (λ (ss : List (Option Source)). get_or ss port None) (sym q.remembered) ∙ is);
    last = λ listed x mac is. subst (λ gs. IsTheLast v gs x mac) (sym q.none) (record { only = tt; from = inl (q.used x mac is) });
  }

  pub quiets_then : (v : SwitchView) (s : SwitchStep) (next : SwitchView → SwitchStep) → Quiets v s → Quiets s.view (next s.view) → Quiets v (s ▹ next)
  quiets_then v s next a b = record {
    covers = λ x g is.
        let mid = b.covers x g is in let first = a.covers x mid.grant mid.found in
        record { grant = first.grant; found = first.found; to = first.to ∙ mid.to; held = first.held ∙ mid.held };
    there = λ x g is. let it = a.there x g is in b.there x it.0 it.1;
    frees_none = all_append FreesNone s.acts (next s.view).acts a.frees_none b.frees_none;
    none = givings_append s.acts (next s.view).acts ∙ ap (λ gs. gs ++ givings (next s.view).acts) a.none ∙ b.none;
    listed = b.listed;
    few = λ few. b.few (a.few few);
    remembered = b.remembered ∙ a.remembered;
    used = λ x mac is. a.used x mac (b.used x mac is);
  }

  pub takes_then : (v : SwitchView) (s : SwitchStep) (next : SwitchView → SwitchStep) → Takes v s → Takes s.view (next s.view) → Takes v (s ▹ next)
  takes_then v s next a b = record {
    given = λ listed are. subst (λ gs. AllByRecursion IsOfHere gs) (sym (givings_append s.acts (next s.view).acts))
        (all_append IsOfHere (givings s.acts) (givings (next s.view).acts) (a.given listed are) (b.given (a.listed listed) (a.sources are)));
    covers = λ listed x g is. subst (λ gs. WasGranted v x g ⊎ IsOneOf gs (gives x g.amac)) (sym (givings_append s.acts (next s.view).acts))
        (elim (b.covers (a.listed listed) x g is) [
          | inl before ↦ elim (a.covers listed x before.grant before.found) [
            | inl first ↦ inl (record { grant = first.grant; found = first.found; to = first.to ∙ before.to; held = first.held ∙ before.held })
            | inr now ↦
                inr (first_part (givings s.acts) (givings (next s.view).acts) (gives x g.amac)
                (subst (λ (m : Mac). IsOneOf (givings s.acts) (gives x m)) before.to now))
          ]
          | inr now ↦ inr (second_part (givings s.acts) (givings (next s.view).acts) (gives x g.amac) now)
        ]);
    there = λ listed x g is. let it = a.there listed x g is in b.there (a.listed listed) x it.0 it.1;
    fresh = λ listed. subst (λ gs. AllByRecursion (IsFresh v) gs) (sym (givings_append s.acts (next s.view).acts))
        (all_append (IsFresh v) (givings s.acts) (givings (next s.view).acts) (a.fresh listed)
        (all_weaker (IsFresh s.view) (IsFresh v) (λ g is. live_still v s.view (givings s.acts) (a.there listed) (a.covers listed) (a.used listed) g.pmac is)
        (givings (next s.view).acts) (b.fresh (a.listed listed))));
    frees_none = all_append FreesNone s.acts (next s.view).acts a.frees_none b.frees_none;
    listed = λ listed. b.listed (a.listed listed);
    few = λ listed few. b.few (a.listed listed) (a.few listed few);
    sources = λ are. b.sources (a.sources are);
    last = λ listed x mac is. subst (λ gs. IsTheLast v gs x mac) (sym (givings_append s.acts (next s.view).acts))
        (last_of_both s.view v (givings s.acts) (givings (next s.view).acts) x mac (λ was. a.last listed x mac was) (a.used listed) (b.first (a.listed listed))
        (b.last (a.listed listed) x mac is));
    first = λ listed. subst (λ gs. AllByRecursion (IsFirstThere v) gs) (sym (givings_append s.acts (next s.view).acts))
        (all_append (IsFirstThere v) (givings s.acts) (givings (next s.view).acts) (a.first listed)
        (all_weaker (IsFirstThere s.view) (IsFirstThere v) (λ f free y is port. free y (a.stays listed y f.mac is) port) (givings (next s.view).acts)
        (b.first (a.listed listed))));
    used = λ listed. subst (λ gs. AllByRecursion (IsUsedThen (next s.view).view) gs) (sym (givings_append s.acts (next s.view).acts))
        (all_append (IsUsedThen (next s.view).view) (givings s.acts) (givings (next s.view).acts)
        (all_weaker (IsUsedThen s.view) (IsUsedThen (next s.view).view) (λ f is. b.stays (a.listed listed) f.pmac f.mac is) (givings s.acts) (a.used listed))
        (b.used (a.listed listed)));
    stays = λ listed x mac is. b.stays (a.listed listed) x mac (a.stays listed x mac is);
    settled = λ is. b.settled (a.settled is);
    k = b.k ∙ a.k;
  }

  pub takes_either : (v : SwitchView) (test : Bool) (s t : SwitchStep) → (test ≡ true → Takes v s) → (test ≡ false → Takes v t) →
      Takes v (if test then s else t)
  takes_either v true s t a b = a refl
  takes_either v false s t a b = b refl

  pub same_listed : (v w : SwitchView) → w.place ≡ v.place → w.k ≡ v.k → w.grants ≡ v.grants → w.freed ≡ v.freed → IsListed v → IsListed w
  same_listed v w place k grants freed l = record {
    many = ap (λ (gs : List (List Grant)). length gs) grants ∙ l.many ∙ sym k;
    many_freed = ap (λ (fs : List (List ℕ)). length fs) freed ∙ l.many_freed ∙ sym k;
    empty = λ unsettled port. ap (λ (gs : List (List Grant)). get_or gs port []) grants ∙ l.empty
        (ap (λ (p : Place). is_settled p) (sym place) ∙ unsettled) port;
    free = λ port.
        subst (λ (fs : List ℕ). AreFreeVmids (grants_at w port) fs) (ap (λ (fs : List (List ℕ)). get_or fs port []) (sym freed))
        (subst (λ (gs : List Grant). AreFreeVmids gs (freed_at v port)) (ap (λ (gs : List (List Grant)). get_or gs port []) (sym grants)) (l.free port));
  }

  -- a part that leaves addresses alone
  pub aside_takes : (v : SwitchView) (s : SwitchStep) → LeavesAddresses v s → Takes v s
  aside_takes v s a = record {
    given = λ listed are. subst (λ gs. AllByRecursion IsOfHere gs) (sym (none_given s.acts a.silent)) tt;
    covers = λ listed x g is. inl (was_so v x g (sym (λ i. granted (record v { place = a.place i; grants = a.grants i }) x) ∙ is));
    there = λ listed x g is. (g, (λ i. granted (record v { place = a.place i; grants = a.grants i }) x) ∙ is);
    fresh = λ listed. subst (λ gs. AllByRecursion (IsFresh v) gs) (sym (none_given s.acts a.silent)) tt;
    frees_none = silent_frees_none s.acts a.silent;
    listed = same_listed v s.view a.place a.k a.grants a.freed;
    few = λ listed few port. subst (λ (gs : List (List Grant)). length (get_or gs port []) ≤ 65535) (sym a.grants) (few port);
    sources = λ are port source is. are port source (ap (λ (ss : List (Option Source)). get_or ss port None) (sym a.remembered) ∙ is);
    last = λ listed x mac is. subst (λ gs. IsTheLast v gs x mac) (sym (none_given s.acts a.silent))
        (record { only = tt; from = inl (same_used s.view v (sym a.place) (sym a.grants) x mac is) });
    first = λ listed. subst (λ gs. AllByRecursion (IsFirstThere v) gs) (sym (none_given s.acts a.silent)) tt;
    used = λ listed. subst (λ gs. AllByRecursion (IsUsedThen s.view) gs) (sym (none_given s.acts a.silent)) tt;
    stays = λ listed x mac is. same_used v s.view a.place a.grants x mac is;
    settled = λ is. ap (λ (p : Place). is_settled p) a.place ∙ is;
    k = a.k;
  }

  pub quiets_aside : (v : SwitchView) (s : SwitchStep) → IsListed v → LeavesAddresses v s → Quiets v s
  quiets_aside v s listed a = record {
    covers = λ x g is. was_so v x g (sym (λ i. granted (record v { place = a.place i; grants = a.grants i }) x) ∙ is);
    there = λ x g is. (g, (λ i. granted (record v { place = a.place i; grants = a.grants i }) x) ∙ is);
    frees_none = silent_frees_none s.acts a.silent;
    none = none_given s.acts a.silent;
    listed = same_listed v s.view a.place a.k a.grants a.freed listed;
    few = λ few port. subst (λ (gs : List (List Grant)). length (get_or gs port []) ≤ 65535) (sym a.grants) (few port);
    remembered = a.remembered;
    used = λ x mac is. same_used s.view v (sym a.place) (sym a.grants) x mac is;
  }

  pub rests_takes : (v : SwitchView) → Takes v (rests v)
  rests_takes v = aside_takes v (rests v) (aside_does v [] tt)

  -- something else is remembered at a port
  pub put_takes : (v : SwitchView) (port : ℕ) (new : Option Source) → ((source : Source) → new ≡ Some source → P port source.amac) →
      Takes v (rests (record v { remembered = set v.remembered port new }))
  put_takes v port new is_of = record {
    given = λ listed are. tt;
    covers = λ listed x g is. inl (was_so v x g is);
    there = λ listed x g is. (g, is);
    fresh = λ listed. tt;
    frees_none = tt;
    listed = λ l. record { many = l.many; many_freed = l.many_freed; empty = l.empty; free = l.free };
    few = λ listed few. few;
    sources = λ are at source is. elim (cases_eq at port) [
      | inr other ↦ are at source (sym (get_or-set_other v.remembered port at new None other) ∙ is)
      | inl here ↦
          elim (put_or_none v.remembered port new None (Some source) (ap (λ n. get_or (set v.remembered port new) n None) (sym here) ∙ is)) [
            | inl put ↦ subst (λ (n : ℕ). P n source.amac) (sym here) (is_of source put)
            | inr none ↦ absurd (none-some source none)
          ]
    ];
    last = λ listed x mac is. record { only = tt; from = inl is };
    first = λ listed. tt;
    used = λ listed. tt;
    stays = λ listed x mac is. is;
    settled = λ is. is;
    k = refl;
  }

  -- other grants at a port of a placed edge switch
  listed_with : (v : SwitchView) (port : ℕ) (new : List Grant) → is_settled v.place ≡ true → port < v.k → AreFreeVmids new (freed_at v port) → IsListed v →
      IsListed (with_grants v port new)
  listed_with v port new settled within free l = record {
    many = length-set v.grants port new ∙ l.many;
    many_freed = l.many_freed;
    empty = λ unsettled at. absurd (false≢true (sym unsettled ∙ settled));
    free = λ at. elim (cases_eq at port) [
      | inl here ↦
          subst (λ (n : ℕ). AreFreeVmids (grants_at (with_grants v port new) n) (freed_at v n)) (sym here)
          (subst (λ (gs : List Grant). AreFreeVmids gs (freed_at v port))
          (sym (get_or-set_same v.grants port new [] (subst (λ n. port < n) (sym l.many) within))) free)
      | inr other ↦ subst (λ (gs : List Grant). AreFreeVmids gs (freed_at v at)) (sym (get_or-set_other v.grants port at new [] other)) (l.free at)
    ];
  }

  listed_with_free : (v : SwitchView) (port : ℕ) (new : List Grant) (freed : List ℕ) → is_settled v.place ≡ true → port < v.k → AreFreeVmids new freed →
      IsListed v →
      IsListed (record (with_grants v port new) { freed = set v.freed port freed })
  listed_with_free v port new freed settled within free l = record {
    many = length-set v.grants port new ∙ l.many;
    many_freed = length-set v.freed port freed ∙ l.many_freed;
    empty = λ unsettled at. absurd (false≢true (sym unsettled ∙ settled));
    free = λ at. elim (cases_eq at port) [
      | inl here ↦
          subst (λ (n : ℕ). AreFreeVmids (get_or (set v.grants port new) n []) (get_or (set v.freed port freed) n [])) (sym here)
          (subst (λ (gs : List Grant). AreFreeVmids gs (get_or (set v.freed port freed) port []))
          (sym (get_or-set_same v.grants port new [] (subst (λ n. port < n) (sym l.many) within)))
          (subst (λ (fs : List ℕ). AreFreeVmids new fs) (sym (get_or-set_same v.freed port freed [] (subst (λ n. port < n) (sym l.many_freed) within))) free))
      | inr other ↦
          subst (λ (gs : List Grant). AreFreeVmids gs (get_or (set v.freed port freed) at [])) (sym (get_or-set_other v.grants port at new [] other))
          (subst (λ (fs : List ℕ). AreFreeVmids (grants_at v at) fs) (sym (get_or-set_other v.freed port at freed [] other)) (l.free at))
    ];
  }

  -- the next address of a port
  long_next : (freed : List ℕ) (grants : List Grant) (g : Grant) (vmid : ℕ) → next_vmid freed grants ≡ Some vmid → length grants ≤ 65535 →
      length (with_next freed grants g) ≤ 65535
  long_next (v ∷ freed) grants g vmid is few = let same = length-set grants (v - 1) g in omega (arith, same, few)
  long_next [] grants g vmid is few = by (nat_lt (length grants) 65535) refl is
    where
      by : (b : Bool) → nat_lt (length grants) 65535 ≡ b → (if b then Some (length grants + 1) else None) ≡ Some vmid → length (grants ++ g ∷ []) ≤ 65535
      by true less some = let room = ltb-true (length grants) 65535 less in let long = length-append grants (g ∷ []) in omega (arith, room, long)
      by false more none = absurd (none-some vmid none)

  module _ (v : SwitchView) (port : ℕ) (mac : Mac) (ip : Option Ip4) (vmid : ℕ) (settled : is_settled v.place ≡ true) (within : port < v.k)
      (is_next : next_vmid (freed_at v port) (grants_at v port) ≡ Some vmid) (of_it : P port mac) (none : in_use (grants_at v port) mac ≡ None) where
    abbrev x : Pmac
    x = address_at_port v port vmid

    abbrev new : List Grant
    new = with_next (freed_at v port) (grants_at v port) (new_grant mac ip)

    here : is_local v x ≡ true
    here = local_here v port vmid settled

    next_is : IsListed v → IsNextVmid (grants_at v port) (freed_at v port) vmid (new_grant mac ip)
    next_is listed = next_granted (grants_at v port) (freed_at v port) vmid (new_grant mac ip) (listed.free port) refl is_next

    now : IsListed v → granted (with_grants v port new) x ≡ Some (new_grant mac ip)
    now listed = now_at v x new (subst (λ n. port < n) (sym listed.many) within) here ∙ (next_is listed).now

    others : IsListed v → (y : Pmac) → same_pmac y x ≡ false → granted (with_grants v port new) y ≡ granted v y
    others listed = others_at v x new (subst (λ n. port < n) (sym listed.many) within) here (next_is listed).others

    -- its host has no address in use there
    nobody : (y : Pmac) → IsUsedAt v y mac → y.port ≡ port → ⊥
    nobody y is at =
        none_used (grants_at v port) mac none y.vmid is.grant
        (ap (λ (p : ℕ). grant_number (grants_at v p) y.vmid) (sym at) ∙ (granted_parts v y is.grant is.found).1) is.used is.to

    next_takes : Takes v (grants_new v port mac ip x)
    next_takes = record {
      given = λ listed are. (of_it, tt);
      covers = λ listed y g is. elim (is_or_other y x) [
        | inl it ↦
            let grant : new_grant mac ip ≡ g = same_Some (new_grant mac ip) g (sym (now listed) ∙ ap (λ z. granted (with_grants v port new) z) (sym it) ∙ is) in
            inr (inl ((λ i. gives (sym it i) mac) ∙ (λ i. gives y (grant i).amac)))
        | inr other ↦ inl (was_so v y g (sym (others listed y other) ∙ is))
      ];
      there = λ listed y g is. elim (is_or_other y x) [
        | inl it ↦ (new_grant mac ip, ap (λ z. granted (with_grants v port new) z) it ∙ now listed)
        | inr other ↦ (g, others listed y other ∙ is)
      ];
      fresh = λ listed. (nobodys listed (grant_number (grants_at v port) vmid) refl, tt);
      frees_none = (tt, (tt, tt));
      listed = λ listed.
          let l = listed_with_free v port new (all_but_first (freed_at v port)) settled within (next_is listed).left listed in
          record { many = l.many; many_freed = l.many_freed; empty = l.empty; free = l.free };
      few = λ listed few. few_with_one v port new (subst (λ n. port < n) (sym listed.many) within)
          (long_next (freed_at v port) (grants_at v port) (new_grant mac ip) vmid is_next (few port)) few;
      sources = λ are. are;
      last = λ listed y m is. elim (is_or_other y x) [
        | inl it ↦
            let grant : new_grant mac ip ≡ is.grant = same_Some (new_grant mac ip) is.grant
            (sym (now listed) ∙ ap (λ z. granted (with_grants v port new) z) (sym it) ∙ is.found) in
            let host : mac ≡ m = ap (λ (q : Grant). q.amac) grant ∙ is.to in
            record { only = ((λ mine at. sym it), tt); from = inr (inl ((λ i. gives (sym it i) mac) ∙ (λ i. gives y (host i)))) }
        | inr other ↦
            let was : IsUsedAt v y m = record { grant = is.grant; found = sym (others listed y other) ∙ is.found; used = is.used; to = is.to } in
            record { only = ((λ mine at. absurd (nobody y (subst (λ (n : Mac). IsUsedAt v y n) (sym mine) was) (sym at))), tt); from = inl was }
      ];
      first = λ listed. (nobody, tt);
      used = λ listed. (record { grant = new_grant mac ip; found = now listed; used = refl; to = refl }, tt);
      stays = λ listed y m is. elim (is_or_other y x) [
        | inl it ↦
            absurd ((next_is listed).unheld is.grant (sym (granted_here v x here) ∙ ap (λ z. granted v z) (sym it) ∙ is.found)
            (held_in_use is.grant.held is.used))
        | inr other ↦ record { grant = is.grant; found = others listed y other ∙ is.found; used = is.used; to = is.to }
      ];
      settled = λ is. is;
      k = refl;
    }
      where
        nobodys : IsListed v → (o : Option Grant) → grant_number (grants_at v port) vmid ≡ o → is_live v x ≡ false
        nobodys listed None is = ap (λ (q : Option Grant). is_held_there (option_map (λ (g : Grant). g.held) q)) (granted_here v x here ∙ is)
        nobodys listed (Some g) is = elim (cases_Bool (is_held g.held)) [
          | inr free ↦ ap (λ (q : Option Grant). is_held_there (option_map (λ (h : Grant). h.held) q)) (granted_here v x here ∙ is) ∙ sym (is_as_there g.held)
              ∙ free
          | inl held ↦ absurd ((next_is listed).unheld g is held)
        ]

        held_in_use : (h : AddressUse) → is_in_use h ≡ true → is_held h ≡ true
        held_in_use h used = ap is_held (in_use_for h used).1

  pub grants_next_takes : (v : SwitchView) (port : ℕ) (mac : Mac) (ip : Option Ip4) → is_settled v.place ≡ true → port < v.k → P port mac →
      in_use (grants_at v port) mac ≡ None → (o : Option ℕ) → next_vmid (freed_at v port) (grants_at v port) ≡ o → Takes v (grants_next v port mac ip o)
  grants_next_takes v port mac ip settled within of_it none None is = rests_takes v
  grants_next_takes v port mac ip settled within of_it none (Some vmid) is = next_takes v port mac ip vmid settled within is of_it none

  -- ---- an address that was granted is changed, and stays the host's
  module _ (v : SwitchView) (x : Pmac) (g h : Grant) (here : is_local v x ≡ true) (settled : is_settled v.place ≡ true) (within : x.port < v.k)
      (was : granted v x ≡ Some g)
      (same : h.amac ≡ g.amac) (held : is_held g.held ≡ true) (still : is_held h.held ≡ true) where
    abbrev list : List Grant
    list = set (grants_at v x.port) (x.vmid - 1) h

    many : IsListed v → x.port < length v.grants
    many listed = subst (λ n. x.port < n) (sym listed.many) within

    found_there : grant_number (grants_at v x.port) x.vmid ≡ Some g
    found_there = sym (granted_here v x here) ∙ was

    changed_now : IsListed v → granted (with_grants v x.port list) x ≡ Some h
    changed_now listed = now_at v x list (many listed) here ∙ number_set_same (grants_at v x.port) x.vmid g h found_there

    changed_others : IsListed v → (y : Pmac) → same_pmac y x ≡ false → granted (with_grants v x.port list) y ≡ granted v y
    changed_others listed =
        others_at v x list (many listed) here (λ n apart. number_set_other (grants_at v x.port) x.vmid n h
        (number_within (grants_at v x.port) x.vmid g found_there).0 apart)

    covered : IsListed v → (y : Pmac) (q : Grant) → granted (with_grants v x.port list) y ≡ Some q → WasGranted v y q
    covered listed y q is = elim (is_or_other y x) [
      | inl it ↦
          let grant : h ≡ q = same_Some h q (sym (changed_now listed) ∙ ap (λ z. granted (with_grants v x.port list) z) (sym it) ∙ is) in
          record {
            grant = g;
            found = ap (λ z. granted v z) it ∙ was;
            to = sym same ∙ ap (λ (p : Grant). p.amac) grant;
            held = held ∙ sym still ∙ ap (λ (p : Grant). is_held p.held) grant;
          }
      | inr other ↦ was_so v y q (sym (changed_others listed y other) ∙ is)
    ]

    there_still : IsListed v → IsThereStill v (with_grants v x.port list)
    there_still listed y q is = elim (is_or_other y x) [
      | inl it ↦ (h, ap (λ z. granted (with_grants v x.port list) z) it ∙ changed_now listed)
      | inr other ↦ (q, changed_others listed y other ∙ is)
    ]

    listed_then : IsListed v → IsListed (with_grants v x.port list)
    listed_then listed =
        listed_with v x.port list settled within (held_free (grants_at v x.port) (freed_at v x.port) x.vmid g h
        (listed.free x.port) found_there held still) listed

    few_still : IsListed v → AreFew v → AreFew (with_grants v x.port list)
    few_still listed few =
        few_with_one v x.port list (many listed) (subst (λ n. n ≤ 65535) (sym (length-set (grants_at v x.port) (x.vmid - 1) h)) (few x.port)) few

    -- in use as before
    module _ (uses : is_in_use h.held ≡ is_in_use g.held) where
      used_before : IsListed v → (y : Pmac) (mac : Mac) → IsUsedAt (with_grants v x.port list) y mac → IsUsedAt v y mac
      used_before listed y mac is = elim (is_or_other y x) [
        | inl it ↦
            let grant : h ≡ is.grant = same_Some h is.grant (sym (changed_now listed) ∙ ap (λ z. granted (with_grants v x.port list) z) (sym it) ∙ is.found) in
            record {
              grant = g;
              found = ap (λ z. granted v z) it ∙ was;
              used = sym uses ∙ ap (λ (q : Grant). is_in_use q.held) grant ∙ is.used;
              to = sym same ∙ ap (λ (q : Grant). q.amac) grant ∙ is.to;
            }
        | inr other ↦ record { grant = is.grant; found = sym (changed_others listed y other) ∙ is.found; used = is.used; to = is.to }
      ]

      used_still : IsListed v → (y : Pmac) (mac : Mac) → IsUsedAt v y mac → IsUsedAt (with_grants v x.port list) y mac
      used_still listed y mac is = elim (is_or_other y x) [
        | inl it ↦
            let grant : g ≡ is.grant = same_Some g is.grant (sym was ∙ ap (λ z. granted v z) (sym it) ∙ is.found) in
            record {
              grant = h;
              found = ap (λ z. granted (with_grants v x.port list) z) it ∙ changed_now listed;
              used = uses ∙ ap (λ (q : Grant). is_in_use q.held) grant ∙ is.used;
              to = same ∙ ap (λ (q : Grant). q.amac) grant ∙ is.to;
            }
        | inr other ↦ record { grant = is.grant; found = changed_others listed y other ∙ is.found; used = is.used; to = is.to }
      ]

      -- with an order of use, and words that tell this address alone
      pub changed_takes : (w : SwitchView) (acts : List Act) → w ≡ record (with_grants v x.port list) { used = w.used; trapped = w.trapped } →
          givings acts ≡ [] →
          AllByRecursion FreesNone acts → Takes v (record { view = w; acts = acts })
      changed_takes w acts view none frees =
          subst (λ (u : SwitchView). Takes v (record { view = u; acts = acts })) (sym view) (record {
            given = λ listed are. subst (λ gs. AllByRecursion IsOfHere gs) (sym none) tt;
            covers = λ listed y q is. inl (covered listed y q is);
            there = there_still;
            fresh = λ listed. subst (λ gs. AllByRecursion (IsFresh v) gs) (sym none) tt;
            frees_none = frees;
            listed = λ listed. let l = listed_then listed in record { many = l.many; many_freed = l.many_freed; empty = l.empty; free = l.free };
            few = few_still;
            sources = λ are. are;
            last = λ listed y mac is. subst (λ gs. IsTheLast v gs y mac) (sym none) (record { only = tt; from = inl (used_before listed y mac is) });
            first = λ listed. subst (λ gs. AllByRecursion (IsFirstThere v) gs) (sym none) tt;
            used = λ listed. subst (λ gs. AllByRecursion (IsUsedThen (record (with_grants v x.port list) { used = w.used; trapped = w.trapped })) gs)
                (sym none) tt;
            stays = used_still;
            settled = λ is. is;
            k = refl;
          })

    -- or in use no more
    module _ (unused : is_in_use h.held ≡ false) where
      others_used : IsListed v → (y : Pmac) (mac : Mac) → IsUsedAt (with_grants v x.port list) y mac → IsUsedAt v y mac
      others_used listed y mac is = elim (is_or_other y x) [
        | inl it ↦
            let grant : h ≡ is.grant = same_Some h is.grant (sym (changed_now listed) ∙ ap (λ z. granted (with_grants v x.port list) z) (sym it) ∙ is.found) in
            absurd (false≢true (sym unused ∙ ap (λ (q : Grant). is_in_use q.held) grant ∙ is.used))
        | inr other ↦ record { grant = is.grant; found = sym (changed_others listed y other) ∙ is.found; used = is.used; to = is.to }
      ]

      pub unused_quiets : IsListed v → (w : SwitchView) (acts : List Act) → w ≡ record (with_grants v x.port list) { used = w.used; trapped = w.trapped } →
          givings acts ≡ [] →
          AllByRecursion FreesNone acts → Quiets v (record { view = w; acts = acts })
      unused_quiets listed w acts view none frees =
          subst (λ (u : SwitchView). Quiets v (record { view = u; acts = acts })) (sym view) (record {
            covers = covered listed;
            there = there_still listed;
            frees_none = frees;
            none = none;
            listed = let l = listed_then listed in record { many = l.many; many_freed = l.many_freed; empty = l.empty; free = l.free };
            few = few_still listed;
            remembered = refl;
            used = others_used listed;
          })
