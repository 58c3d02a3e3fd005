-- Parts of a step of a switch that keep the lists of its addresses in order, and how they go together.
use Rattle.std.proofs.Common.{◌≡◌, ◌≤◌, ◌+◌, ℕ, arith, inl, inr, Bool, true, false, if◌then◌else◌, List, [], ◌∷◌, ◌++◌, Option, Some, None, refl, sym, ap, subst, ◌∙◌}
use Rattle.std.specs.List.{AllByRecursion}
use Rattle.std.specs.Option.{option_map}
use Rattle.std.proofs.lemmas.Bool.{cases_Bool, cases_lt, false≢true}
use Rattle.pl_lemmas.proofs.Exports.{all_append}
use Rattle.pl_frame.specs.declared.address.Ip4.{Ip4}
use Rattle.pl_frame.specs.declared.address.Mac.{Mac}
use Rattle.pl_node.specs.declared.acts.Act.{Act}
use Rattle.pl_node.specs.declared.acts.Act.TheVariants as act
use Rattle.pl_node.specs.declared.messages.ToManager.{ToManager}
use Rattle.pl_node.specs.declared.messages.ToManager.TheVariants as tell
use Rattle.pl_node.specs.AddressUses.{is_held as is_somebodys}
use Rattle.pl_node.specs.declared.switch_records.Grant.{Grant}
use Rattle.pl_node.specs.SwitchViews.{SwitchView}
use Rattle.pl_pmac.specs.declared.pmac.Pmac.{Pmac}
use Rattle.pl_layouts.specs.Equality.{same_pmac}
use Rattle.pl_layouts.proofs.Exports.{pmac_is, pmac_itself}
use Rattle.pl_steps.specs.Steps.{SwitchStep, does, rests, ◌▹◌}
use Rattle.pl_switch_rule.specs.Granting.{granted}
use Rattle.pl_law_addresses.specs.EdgeAddresses.{IsGoodAddressTable, IsHeld, IsHeldFor, KeepsHolders, is_held, is_live}
use Rattle.pl_law_addresses.proofs.AddressLemmas.{is_or_other}
use Rattle.pl_law_addresses.proofs.FreeLists.{table_alike}

-- what acts tell the manager
abbrev pub told_by : List Act → List ToManager
told_by [] = []
told_by (act.Tell told ∷ acts) = told ∷ told_by acts
told_by (act ∷ acts) = told_by acts

pub told_append : (xs ys : List Act) → told_by (xs ++ ys) ≡ told_by xs ++ told_by ys
told_append [] ys = refl
told_append (act.Tell told ∷ xs) ys = ap (λ ts. told ∷ ts) (told_append xs ys)
told_append (a ∷ xs) ys = told_append xs ys

-- an act that tells the manager of no address
abbrev pub IsSilentWord : ToManager → Type 0
IsSilentWord (tell.Learned pmac amac ip) = ⊥
IsSilentWord (tell.Aged pmac number) = ⊥
IsSilentWord (tell.Trapped old new number) = ⊥
IsSilentWord told = Unit {0}

abbrev pub IsSilent : Act → Type 0
IsSilent (act.Tell told) = IsSilentWord told
IsSilent (act.Grant pmac amac) = ⊥
IsSilent (act.Free pmac) = ⊥
IsSilent act = Unit {0}

abbrev pub AreSilent : List Act → Type 0
AreSilent acts = AllByRecursion IsSilent acts

-- ---- a part that leaves addresses alone
pub record LeavesAddresses (v : SwitchView) (s : SwitchStep) : Type 0 where
  pub place : s.view.place ≡ v.place
  pub k : s.view.k ≡ v.k
  pub grants : s.view.grants ≡ v.grants
  pub freed : s.view.freed ≡ v.freed
  pub remembered : s.view.remembered ≡ v.remembered
  pub silent : AreSilent s.acts

pub aside_does : (v : SwitchView) (acts : List Act) → AreSilent acts → LeavesAddresses v (does v acts)
aside_does v acts are = record { place = refl; k = refl; grants = refl; freed = refl; remembered = refl; silent = are }

pub aside_then : (v : SwitchView) (s : SwitchStep) (next : SwitchView → SwitchStep) → LeavesAddresses v s → ((w : SwitchView) → LeavesAddresses w (next w)) → LeavesAddresses v (s ▹ next)
aside_then v s next a each = let b = each s.view in record {
  place = b.place ∙ a.place;
  k = b.k ∙ a.k;
  grants = b.grants ∙ a.grants;
  freed = b.freed ∙ a.freed;
  remembered = b.remembered ∙ a.remembered;
  silent = all_append IsSilent s.acts (next s.view).acts a.silent b.silent;
}

-- ---- what is somebody's stays so, and what is granted was nobody's
-- an address that is granted now was nobody's before, and is this host's then; one that is freed was somebody's, and is nobody's
abbrev pub SaysSo : SwitchView → SwitchView → Act → Type 0
SaysSo v w (act.Grant x mac) = (is_live v x ≡ false) × IsHeldFor (λ y. granted w y) x mac
SaysSo v w (act.Free x) = (is_live v x ≡ true) × (is_live w x ≡ false)
SaysSo v w act = Unit {0}

-- how often acts grant an address, and free it
abbrev pub grant_acts : Pmac → List Act → ℕ
grant_acts x [] = 0
grant_acts x (act.Grant y mac ∷ acts) = (if same_pmac y x then 1 else 0) + grant_acts x acts
grant_acts x (act ∷ acts) = grant_acts x acts

abbrev pub free_acts : Pmac → List Act → ℕ
free_acts x [] = 0
free_acts x (act.Free y ∷ acts) = (if same_pmac y x then 1 else 0) + free_acts x acts
free_acts x (act ∷ acts) = free_acts x acts

grant_acts_append : (x : Pmac) (a b : List Act) → grant_acts x (a ++ b) ≡ grant_acts x a + grant_acts x b
grant_acts_append x [] b = omega arith
grant_acts_append x (act.Grant y mac ∷ a) b = let rest = grant_acts_append x a b in omega (arith, rest)
grant_acts_append x (act ∷ a) b = grant_acts_append x a b

free_acts_append : (x : Pmac) (a b : List Act) → free_acts x (a ++ b) ≡ free_acts x a + free_acts x b
free_acts_append x [] b = omega arith
free_acts_append x (act.Free y ∷ a) b = let rest = free_acts_append x a b in omega (arith, rest)
free_acts_append x (act ∷ a) b = free_acts_append x a b

-- a live address is somebody's, and one that is somebody's is live
pub live_held : (v : SwitchView) (x : Pmac) → is_live v x ≡ true → IsHeld (λ y. granted v y) x
live_held v x live = by (granted v x) refl live
  where
    by : (o : Option Grant) → granted v x ≡ o → is_held (option_map (λ (g : Grant). g.held) o) ≡ true → IsHeld (λ y. granted v y) x
    by None is some = absurd (false≢true some)
    by (Some g) is some = (g.amac, record { grant = g; found = is; held = some; to = refl })

pub held_live : (v : SwitchView) (x : Pmac) (mac : Mac) → IsHeldFor (λ y. granted v y) x mac → is_live v x ≡ true
held_live v x mac h = ap (λ (o : Option Grant). is_held (option_map (λ (g : Grant). g.held) o)) h.found ∙ h.held

pub not_held : (v : SwitchView) (x : Pmac) (mac : Mac) → is_live v x ≡ false → IsHeldFor (λ y. granted v y) x mac → ⊥
not_held v x mac none h = false≢true (sym none ∙ held_live v x mac h)

-- one address is changed: where it is somebody's, it is that host's once this is granted under it
abbrev pub StaysTo : (Pmac → Option Grant) → Pmac → Grant → Type 0
StaysTo granted x g = (h : Grant) → granted x ≡ Some h → is_somebodys h.held ≡ true → (is_somebodys g.held ≡ true) × (g.amac ≡ h.amac)

pub keeps_holders : (f h : Pmac → Option Grant) (x : Pmac) (g : Grant) → h x ≡ Some g → ((y : Pmac) → same_pmac y x ≡ false → h y ≡ f y) → StaysTo f x g →
    KeepsHolders f h
keeps_holders f h x g now others stays y mac is = elim (is_or_other y x) [
  | inl it ↦
      let still = stays is.grant (ap f (sym it) ∙ is.found) is.held in
      record { grant = g; found = ap h it ∙ now; held = still.0; to = still.1 ∙ is.to }
  | inr other ↦ record { grant = is.grant; found = others y other ∙ is.found; held = is.held; to = is.to }
]

-- no act frees one
pub record Grows (v : SwitchView) (s : SwitchStep) : Type 0 where
  pub once : (x : Pmac) → grant_acts x s.acts ≤ 1
  pub stays : KeepsHolders (λ x. granted v x) (λ x. granted s.view x)
  pub says : AllByRecursion (SaysSo v s.view) s.acts
  pub frees_none : (x : Pmac) → free_acts x s.acts ≡ 0

-- or it may
pub record Turns (v : SwitchView) (s : SwitchStep) : Type 0 where
  pub once : (x : Pmac) → grant_acts x s.acts + free_acts x s.acts ≤ 1
  pub stays : (x : Pmac) (mac : Mac) → free_acts x s.acts ≡ 0 → IsHeldFor (λ y. granted v y) x mac → IsHeldFor (λ y. granted s.view y) x mac
  pub says : AllByRecursion (SaysSo v s.view) s.acts

pub grows_turns : (v : SwitchView) (s : SwitchStep) → Grows v s → Turns v s
grows_turns v s g = record {
  once = λ x. let few = g.once x in let none = g.frees_none x in omega (arith, few, none);
  stays = λ x mac none h. g.stays x mac h;
  says = g.says;
}

-- where one of the acts grants an address, it was nobody's before, and is somebody's then
pub record IsGrantedThen (v w : SwitchView) (x : Pmac) : Type 0 where
  pub none : is_live v x ≡ false
  pub mac : Mac
  pub granted_to : IsHeldFor (λ y. granted w y) x mac

pub some_grant : (v w : SwitchView) (x : Pmac) (acts : List Act) → AllByRecursion (SaysSo v w) acts → 1 ≤ grant_acts x acts → IsGrantedThen v w x
some_grant v w x [] all some = absurd (omega (arith, some))
some_grant v w x (act.Grant y mac ∷ acts) all some = elim (cases_Bool (same_pmac y x)) [
  | inl same ↦
      let is = pmac_is y x same in
      record { none = ap (λ z. is_live v z) (sym is) ∙ all.0.0; mac = mac; granted_to = subst (λ (z : Pmac). IsHeldFor (λ u. granted w u) z mac) is all.0.1 }
  | inr other ↦
      some_grant v w x acts all.1
      (let sum : (if same_pmac y x then 1 else 0) + grant_acts x acts ≡ 0 + grant_acts x acts = ap (λ b. (if b then 1 else 0) + grant_acts x acts) other in omega (arith, some, sum))
]
some_grant v w x (a ∷ acts) all some = some_grant v w x acts all.1 some

silent_counts : (x : Pmac) (acts : List Act) → AreSilent acts → grant_acts x acts ≡ 0
silent_counts x [] are = refl
silent_counts x (act.Grant y mac ∷ acts) are = absurd are.0
silent_counts x (a ∷ acts) are = silent_counts x acts are.1

silent_frees : (x : Pmac) (acts : List Act) → AreSilent acts → free_acts x acts ≡ 0
silent_frees x [] are = refl
silent_frees x (act.Free y ∷ acts) are = absurd are.0
silent_frees x (a ∷ acts) are = silent_frees x acts are.1

never_before : (v w : SwitchView) → KeepsHolders (λ x. granted v x) (λ x. granted w x) → (x : Pmac) → is_live w x ≡ false → is_live v x ≡ false
never_before v w stays x none = by (is_live v x) refl
  where
    by : (b : Bool) → is_live v x ≡ b → is_live v x ≡ false
    by false is = is
    by true is = let h = live_held v x is in absurd (not_held w x h.0 none (stays x h.0 h.1))

-- acts that free nothing
abbrev FreesNone : Act → Type 0
FreesNone (act.Free x) = ⊥
FreesNone act = Unit {0}

none_frees : (acts : List Act) → ((x : Pmac) → free_acts x acts ≡ 0) → AllByRecursion FreesNone acts
none_frees [] none = tt
none_frees (act.Free y ∷ acts) none =
    let more : (if same_pmac y y then 1 else 0) + free_acts y acts ≡ 1 + free_acts y acts = ap (λ b. (if b then 1 else 0) + free_acts y acts) (pmac_itself y) in
    let zero = none y in absurd (omega (arith, more, zero))
none_frees (a ∷ acts) none = (tt, none_frees acts none)

-- seen from an earlier view, and up to a later one
seen_from : (u v w : SwitchView) → KeepsHolders (λ x. granted u x) (λ x. granted v x) → (acts : List Act) → AllByRecursion FreesNone acts → AllByRecursion (SaysSo v w) acts →
    AllByRecursion (SaysSo u w) acts
seen_from u v w stays [] none all = tt
seen_from u v w stays (act.Grant x mac ∷ acts) none all = ((never_before u v stays x all.0.0, all.0.1), seen_from u v w stays acts none.1 all.1)
seen_from u v w stays (act.Free x ∷ acts) none all = absurd none.0
seen_from u v w stays (a ∷ acts) none all = (tt, seen_from u v w stays acts none.1 all.1)

seen_later : (v w z : SwitchView) → KeepsHolders (λ x. granted w x) (λ x. granted z x) → (acts : List Act) → AllByRecursion FreesNone acts → AllByRecursion (SaysSo v w) acts →
    AllByRecursion (SaysSo v z) acts
seen_later v w z stays [] none all = tt
seen_later v w z stays (act.Grant x mac ∷ acts) none all = ((all.0.0, stays x mac all.0.1), seen_later v w z stays acts none.1 all.1)
seen_later v w z stays (act.Free x ∷ acts) none all = absurd none.0
seen_later v w z stays (a ∷ acts) none all = (tt, seen_later v w z stays acts none.1 all.1)

silent_says : (v w : SwitchView) (acts : List Act) → AreSilent acts → AllByRecursion (SaysSo v w) acts
silent_says v w [] are = tt
silent_says v w (act.Grant x mac ∷ acts) are = absurd are.0
silent_says v w (act.Free x ∷ acts) are = absurd are.0
silent_says v w (a ∷ acts) are = (tt, silent_says v w acts are.1)

pub grows_from : (u v : SwitchView) (s : SwitchStep) → KeepsHolders (λ x. granted u x) (λ x. granted v x) → Grows v s → Grows u s
grows_from u v s stays g = record {
  once = g.once;
  stays = λ x mac is. g.stays x mac (stays x mac is);
  says = seen_from u v s.view stays s.acts (none_frees s.acts g.frees_none) g.says;
  frees_none = g.frees_none;
}

pub grows_then : (v : SwitchView) (s : SwitchStep) (next : SwitchView → SwitchStep) → Grows v s → Grows s.view (next s.view) → Grows v (s ▹ next)
grows_then v s next a b = record {
  once = λ x.
      let sum = grant_acts_append x s.acts (next s.view).acts in
      let first = a.once x in
      let second = b.once x in
      elim (cases_lt 0 (grant_acts x s.acts)) [
        | inr none ↦ omega (arith, sum, none, second)
        | inl some ↦ elim (cases_lt 0 (grant_acts x (next s.view).acts)) [
          | inr none ↦ omega (arith, sum, none, first)
          | inl more ↦
              let one = some_grant v s.view x s.acts a.says (omega (arith, some)) in
              let two = some_grant s.view (next s.view).view x (next s.view).acts b.says (omega (arith, more)) in
              absurd (not_held s.view x one.mac two.none one.granted_to)
        ]
      ];
  stays = λ x mac is. b.stays x mac (a.stays x mac is);
  says = all_append (SaysSo v (next s.view).view) s.acts (next s.view).acts
      (seen_later v s.view (next s.view).view b.stays s.acts (none_frees s.acts a.frees_none) a.says)
      (seen_from v s.view (next s.view).view a.stays (next s.view).acts (none_frees (next s.view).acts b.frees_none) b.says);
  frees_none = λ x.
      let sum = free_acts_append x s.acts (next s.view).acts in let one = a.frees_none x in let two = b.frees_none x in omega (arith, sum, one, two);
}

pub same_holders : (v w : SwitchView) → w.place ≡ v.place → w.grants ≡ v.grants → KeepsHolders (λ x. granted v x) (λ x. granted w x)
same_holders v w place grants = λ x mac is. record {
  grant = is.grant;
  found = (λ i. granted (record v { place = place i; grants = grants i }) x) ∙ is.found;
  held = is.held;
  to = is.to;
}

pub grows_aside : (v : SwitchView) (s : SwitchStep) → LeavesAddresses v s → Grows v s
grows_aside v s a = record {
  once = λ x. (let none = silent_counts x s.acts a.silent in omega (arith, none));
  stays = same_holders v s.view a.place a.grants;
  says = silent_says v s.view s.acts a.silent;
  frees_none = λ x. silent_frees x s.acts a.silent;
}

-- ---- the lists of an edge switch in order
module _ (own : Mac → Option Ip4) where
  -- a part of a step keeps them so, its place and how many ports it has
  pub record Keeps (v : SwitchView) (s : SwitchStep) : Type 0 where
    pub table : IsGoodAddressTable own v → IsGoodAddressTable own s.view
    pub grows : IsGoodAddressTable own v → Grows v s
    pub place : s.view.place ≡ v.place
    pub k : s.view.k ≡ v.k

  pub keeps_then : (v : SwitchView) (s : SwitchStep) (next : SwitchView → SwitchStep) → Keeps v s → Keeps s.view (next s.view) → Keeps v (s ▹ next)
  keeps_then v s next a b = record {
    table = λ good. b.table (a.table good);
    grows = λ good. grows_then v s next (a.grows good) (b.grows (a.table good));
    place = b.place ∙ a.place;
    k = b.k ∙ a.k;
  }

  pub keeps_either : (v : SwitchView) (test : Bool) (s t : SwitchStep) → (test ≡ true → Keeps v s) → (test ≡ false → Keeps v t) →
      Keeps v (if test then s else t)
  keeps_either v true s t a b = a refl
  keeps_either v false s t a b = b refl

  pub aside_keeps : (v : SwitchView) (s : SwitchStep) → LeavesAddresses v s → Keeps v s
  aside_keeps v s a = record {
    table = λ good. table_alike own v s.view a.place a.k a.grants a.freed a.remembered good;
    grows = λ good. grows_aside v s a;
    place = a.place;
    k = a.k;
  }

  pub rests_keeps : (v : SwitchView) → Keeps v (rests v)
  rests_keeps v = aside_keeps v (rests v) (aside_does v [] tt)
