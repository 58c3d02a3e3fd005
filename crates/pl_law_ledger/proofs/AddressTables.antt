-- What entries say of addresses.
use Rattle.std.proofs.Common.{◌≡◌, ◌⊎◌, ◌==◌, ◌&&◌, ◌||◌, not, max, ℕ, Bool, true, false, cond, if◌then◌else◌, List, [], ◌∷◌, Option, Some, None, refl, sym, ap, subst, ◌∙◌, inl, inr}
use Rattle.std.specs.List.{AllByRecursion}
use Rattle.std.proofs.lemmas.Bool.{and_from, and_parts, cases_Bool, cond-false, cond-true, eq-eqb, eqb-true, false_from_ne_true, or_left, or_right}
use Rattle.std.proofs.lemmas.Option.{none-some, same_Some}
use Rattle.pl_pmac.specs.declared.pmac.Pmac.{Pmac}
use Rattle.pl_pmac.specs.Pmac.{pmac_number}
use Rattle.pl_wiring.specs.declared.host.HostNo.{HostNo}
use Rattle.pl_wiring.specs.declared.label.SwitchNo.{SwitchNo}
use Rattle.pl_wiring.specs.Plan.{Plan}
use Rattle.pl_journal.specs.declared.entry.Entry.{Entry}
use Rattle.pl_journal.specs.declared.entry.Entry.TheVariants.{Freed, Granted, Moved, Registered}
use Rattle.pl_journal.specs.Places.{EdgePort, are_alike, are_live_there, at_port, granted_at, has_stood, highest, holder, is_live, is_of_edge, is_spent, number, same_pod_and_position, same_edge_port, edge_port}
use Rattle.pl_node.specs.SwitchViews.{SwitchView}
use Rattle.pl_world.specs.Changes.{host_of}
use Rattle.pl_law_ledger.specs.Ledgers.{IsBacked, IsGrantedThere, ledger}
use Rattle.pl_law_ledger.proofs.Giving.{Giving, IsOneOf}
use Rattle.pl_law_ledger.proofs.GrantsWritten.{all_written, entry_for}

-- ---- the entries that are left out say nothing of addresses
pub record Says : Type 0 where
  pub hold : ℕ → Option ℕ
  pub live : ℕ → Bool
  pub edge_ports : ℕ → Option EdgePort
  pub numbers : ℕ → Option ℕ
  pub top : ℕ
  pub stood : ℕ → EdgePort → Bool
  pub spent : EdgePort → Bool
  pub all_live : (ℕ → Bool) → EdgePort → Bool
  pub of_edge : Pmac → ℕ → Bool

abbrev pub says : Plan → List Entry → Says
says plan past = record {
  hold = λ n. holder past n;
  live = λ n. is_live past n;
  edge_ports = λ n. edge_port past n;
  numbers = λ n. number past n;
  top = highest past;
  stood = λ h there. has_stood plan past h there;
  spent = λ there. is_spent past there;
  all_live = λ live there. are_live_there live past there;
  of_edge = λ x e. is_of_edge past x e;
}

abbrev granted_more : Says → Pmac → HostNo → SwitchNo → ℕ → Says
granted_more f x h e p = record {
  hold = λ n. if pmac_number x == n then Some h.0 else f.hold n;
  live = λ n. (pmac_number x == n) || f.live n;
  edge_ports = λ n. if pmac_number x == n then Some (at_port e.0 p) else f.edge_ports n;
  numbers = λ n. if pmac_number x == n then None else f.numbers n;
  top = f.top;
  stood = f.stood;
  spent = λ there. ((x.vmid == 65535) && same_edge_port (at_port e.0 p) there) || f.spent there;
  all_live = λ live there. (not (same_edge_port (at_port e.0 p) there) || live (pmac_number x)) && f.all_live live there;
  of_edge = λ y edge. are_alike (same_pod_and_position y x) (e.0 == edge) && f.of_edge y edge;
}

abbrev freed_more : Says → Pmac → Says
freed_more f x = record f { live = λ n. not (pmac_number x == n) && f.live n }

abbrev registered_more : Says → Pmac → ℕ → Says
registered_more f x m = record f { numbers = λ n. if pmac_number x == n then Some m else f.numbers n; top = max f.top m }

abbrev moved_more : Says → HostNo → SwitchNo → ℕ → Says
moved_more f h e p = record f { stood = λ host there. (h.0 == host && same_edge_port (at_port e.0 p) there) || f.stood host there }

pub same_says : (plan : Plan) (past : List Entry) → says plan (ledger past) ≡ says plan past
same_says plan [] = refl
same_says plan (Granted x h e p ∷ past) = ap (λ f. granted_more f x h e p) (same_says plan past)
same_says plan (Freed x ∷ past) = ap (λ f. freed_more f x) (same_says plan past)
same_says plan (Registered x n ∷ past) = ap (λ f. registered_more f x n) (same_says plan past)
same_says plan (Moved h e p ∷ past) = ap (λ f. moved_more f h e p) (same_says plan past)
same_says plan (entry ∷ past) = same_says plan past

-- ---- what entries that switch s adds change
module _ (plan : Plan) (s : ℕ) where
  -- a number has this host and this port, and is live or is not
  pub record IsAt (entries : List Entry) (n h : ℕ) (at : EdgePort) (live : Bool) : Type 0 where
    pub held : holder entries n ≡ Some h
    pub there : edge_port entries n ≡ Some at
    pub is_so : is_live entries n ≡ live

  -- what is granted has another number, or this host and port, and is live
  abbrev pub IsFor : ℕ → ℕ → EdgePort → Bool → Giving → Type 0
  IsFor n h at live g = (pmac_number g.pmac ≡ n → ⊥) ⊎ ((host_of plan g.mac ≡ Some h) × (at_port s g.pmac.port ≡ at) × (live ≡ true))

  entered_at : (entries : List Entry) (x : Pmac) (n h : ℕ) (at : EdgePort) (live : Bool) (o : Option ℕ) →
      (pmac_number x ≡ n → ⊥) ⊎ ((o ≡ Some h) × (at_port s x.port ≡ at) × (live ≡ true)) → IsAt entries n h at live → IsAt (entry_for s entries x o) n h at live
  entered_at entries x n h at live None may is = record { held = is.held; there = is.there; is_so = is.is_so }
  entered_at entries x n h at live (Some m) may is = elim (cases_Bool (pmac_number x == n)) [
    | inr other ↦ record {
      held = cond-false (pmac_number x == n) (Some m) (holder entries n) other ∙ is.held;
      there = cond-false (pmac_number x == n) (Some (at_port s x.port)) (edge_port entries n) other ∙ is.there;
      is_so = ap (λ b. b || is_live entries n) other ∙ is.is_so;
    }
    | inl same ↦ elim may [
      | inl apart ↦ absurd (apart (eqb-true (pmac_number x) n same))
      | inr so ↦ record {
        held = cond-true (pmac_number x == n) (Some m) (holder entries n) same ∙ so.0;
        there = cond-true (pmac_number x == n) (Some (at_port s x.port)) (edge_port entries n) same ∙ ap Some so.1;
        is_so = or_left (pmac_number x == n) (is_live entries n) same ∙ sym so.2;
      }
    ]
  ]

  pub still_at : (gs : List Giving) (entries : List Entry) (n h : ℕ) (at : EdgePort) (live : Bool) → AllByRecursion (IsFor n h at live) gs →
      IsAt entries n h at live →
      IsAt (all_written plan s entries gs) n h at live
  still_at [] entries n h at live all is = record { held = is.held; there = is.there; is_so = is.is_so }
  still_at (g ∷ gs) entries n h at live all is =
      still_at gs (entry_for s entries g.pmac (host_of plan g.mac)) n h at live all.1 (entered_at entries g.pmac n h at live (host_of plan g.mac) all.0 is)

  now_first : (entries : List Entry) (x : Pmac) (h : ℕ) (o : Option ℕ) → o ≡ Some h → IsAt (entry_for s entries x o) (pmac_number x) h (at_port s x.port) true
  now_first entries x h None is = absurd (none-some h is)
  now_first entries x h (Some m) is =
      let e = eq-eqb (pmac_number x) (pmac_number x) refl in
      record {
        held = cond-true (pmac_number x == pmac_number x) (Some m) (holder entries (pmac_number x)) e ∙ is;
        there = cond-true (pmac_number x == pmac_number x) (Some (at_port s x.port)) (edge_port entries (pmac_number x)) e;
        is_so = or_left (pmac_number x == pmac_number x) (is_live entries (pmac_number x)) e;
      }

  pub now_at : (gs : List Giving) (entries : List Entry) (g : Giving) (h : ℕ) → IsOneOf gs g → host_of plan g.mac ≡ Some h →
      AllByRecursion (IsFor (pmac_number g.pmac) h (at_port s g.pmac.port) true) gs →
      IsAt (all_written plan s entries gs) (pmac_number g.pmac) h (at_port s g.pmac.port) true
  now_at [] entries g h one of all = absurd one
  now_at (f ∷ gs) entries g h one of all = elim one [
    | inl here ↦
        still_at gs (entry_for s entries f.pmac (host_of plan f.mac)) (pmac_number g.pmac) h (at_port s g.pmac.port) true all.1
        (subst (λ (q : Giving). IsAt (entry_for s entries f.pmac (host_of plan f.mac)) (pmac_number q.pmac) h (at_port s q.pmac.port) true) here
        (now_first entries f.pmac h (host_of plan f.mac) (ap (λ (q : Giving). host_of plan q.mac) here ∙ of)))
    | inr later ↦ now_at gs (entry_for s entries f.pmac (host_of plan f.mac)) g h later of all.1
  ]

  -- the last address of host h at port p of switch t
  pub record HasLast (entries : List Entry) (Q : Pmac → Type 0) (t h p : ℕ) : Type 0 where
    pub last : Pmac
    pub is_last : granted_at entries h (at_port t p) ≡ Some last
    pub good : Q last

  last_entry : (entries : List Entry) (x : Pmac) (o : Option ℕ) (Q : Pmac → Type 0) (t h p : ℕ) → (o ≡ Some h → (s ≡ t) × (x.port ≡ p) → Q x) →
      HasLast entries Q t h p →
      HasLast (entry_for s entries x o) Q t h p
  last_entry entries x None Q t h p new is = record { last = is.last; is_last = is.is_last; good = is.good }
  last_entry entries x (Some m) Q t h p new is = elim (cases_Bool ((m == h) && same_edge_port (at_port s x.port) (at_port t p))) [
    | inr other ↦ record {
      last = is.last;
      is_last = cond-false ((m == h) && same_edge_port (at_port s x.port) (at_port t p)) (Some x) (granted_at entries h (at_port t p)) other ∙ is.is_last;
      good = is.good;
    }
    | inl same ↦
        let both = and_parts (m == h) (same_edge_port (at_port s x.port) (at_port t p)) same in
        let edge_ports = and_parts (s == t) (x.port == p) both.1 in
        record {
          last = x;
          is_last = cond-true ((m == h) && same_edge_port (at_port s x.port) (at_port t p)) (Some x) (granted_at entries h (at_port t p)) same;
          good = new (ap Some (eqb-true m h both.0)) (eqb-true s t edge_ports.0, eqb-true x.port p edge_ports.1);
        }
  ]

  -- what may become the last is good
  abbrev pub GivesGood : (Pmac → Type 0) → ℕ → ℕ → ℕ → Giving → Type 0
  GivesGood Q t h p g = host_of plan g.mac ≡ Some h → (s ≡ t) × (g.pmac.port ≡ p) → Q g.pmac

  pub last_stays : (gs : List Giving) (entries : List Entry) (Q : Pmac → Type 0) (t h p : ℕ) → AllByRecursion (GivesGood Q t h p) gs → HasLast entries Q t h p →
      HasLast (all_written plan s entries gs) Q t h p
  last_stays [] entries Q t h p all is = record { last = is.last; is_last = is.is_last; good = is.good }
  last_stays (g ∷ gs) entries Q t h p all is =
      last_stays gs (entry_for s entries g.pmac (host_of plan g.mac)) Q t h p all.1 (last_entry entries g.pmac (host_of plan g.mac) Q t h p all.0 is)

  last_first : (entries : List Entry) (x : Pmac) (o : Option ℕ) (Q : Pmac → Type 0) (h : ℕ) → o ≡ Some h → Q x → HasLast (entry_for s entries x o) Q s h x.port
  last_first entries x None Q h is good = absurd (none-some h is)
  last_first entries x (Some m) Q h is good = record {
    last = x;
    is_last = cond-true ((m == h) && same_edge_port (at_port s x.port) (at_port s x.port)) (Some x) (granted_at entries h (at_port s x.port))
        (and_from (m == h) (same_edge_port (at_port s x.port) (at_port s x.port)) (eq-eqb m h (same_Some m h is))
        (and_from (s == s) (x.port == x.port) (eq-eqb s s refl) (eq-eqb x.port x.port refl)));
    good = good;
  }

  -- the last is one that is given, or one behind it
  pub last_given : (gs : List Giving) (entries : List Entry) (Q : Pmac → Type 0) (g : Giving) (h : ℕ) → IsOneOf gs g → host_of plan g.mac ≡ Some h → Q g.pmac →
      AllByRecursion (GivesGood Q s h g.pmac.port) gs → HasLast (all_written plan s entries gs) Q s h g.pmac.port
  last_given [] entries Q g h one of good all = absurd one
  last_given (f ∷ gs) entries Q g h one of good all = elim one [
    | inr later ↦ last_given gs (entry_for s entries f.pmac (host_of plan f.mac)) Q g h later of good all.1
    | inl here ↦
        last_stays gs (entry_for s entries f.pmac (host_of plan f.mac)) Q s h g.pmac.port all.1
        (subst (λ (q : Giving). HasLast (entry_for s entries f.pmac (host_of plan f.mac)) Q s h q.pmac.port) here
        (last_first entries f.pmac (host_of plan f.mac) Q h (ap (λ (q : Giving). host_of plan q.mac) here ∙ of)
        (subst (λ (q : Giving). Q q.pmac) (sym here) good)))
  ]

  -- where hosts have stood, and the highest number, is as before
  pub record SaysAlike (entries later : List Entry) : Type 0 where
    pub stood : (h : ℕ) (there : EdgePort) → has_stood plan later h there ≡ has_stood plan entries h there
    pub most : highest later ≡ highest entries

  alike_entry : (entries : List Entry) (x : Pmac) (o : Option ℕ) → SaysAlike entries (entry_for s entries x o)
  alike_entry entries x None = record { stood = λ h there. refl; most = refl }
  alike_entry entries x (Some m) = record { stood = λ h there. refl; most = refl }

  -- ---- numbers: one that is granted has none from then on
  number_entry : (entries : List Entry) (x : Pmac) (o : Option ℕ) (n : ℕ) → (pmac_number x ≡ n → ⊥) → number (entry_for s entries x o) n ≡ number entries n
  number_entry entries x None n other = refl
  number_entry entries x (Some m) n other =
      cond-false (pmac_number x == n) None (number entries n) (false_from_ne_true (pmac_number x == n) (λ is. other (eqb-true (pmac_number x) n is)))

  pub other_numbers : (gs : List Giving) (entries : List Entry) (n : ℕ) → AllByRecursion (λ g. pmac_number g.pmac ≡ n → ⊥) gs →
      number (all_written plan s entries gs) n ≡ number entries n
  other_numbers [] entries n all = refl
  other_numbers (g ∷ gs) entries n all =
      other_numbers gs (entry_for s entries g.pmac (host_of plan g.mac)) n all.1 ∙ number_entry entries g.pmac (host_of plan g.mac) n all.0

  was_entry : (entries : List Entry) (x : Pmac) (o : Option ℕ) (n m : ℕ) → number (entry_for s entries x o) n ≡ Some m → number entries n ≡ Some m
  was_entry entries x None n m is = is
  was_entry entries x (Some h) n m is = by (pmac_number x == n) is
    where
      by : (b : Bool) → cond b None (number entries n) ≡ Some m → number entries n ≡ Some m
      by true none = absurd (none-some m none)
      by false was = was

  pub was_number : (gs : List Giving) (entries : List Entry) (n m : ℕ) → number (all_written plan s entries gs) n ≡ Some m → number entries n ≡ Some m
  was_number [] entries n m is = is
  was_number (g ∷ gs) entries n m is =
      was_entry entries g.pmac (host_of plan g.mac) n m (was_number gs (entry_for s entries g.pmac (host_of plan g.mac)) n m is)

  -- an address that was granted still has a holder
  holder_entry : (entries : List Entry) (x : Pmac) (o : Option ℕ) (n : ℕ) → (h : ℕ) × (holder entries n ≡ Some h) →
      (h : ℕ) × (holder (entry_for s entries x o) n ≡ Some h)
  holder_entry entries x None n is = is
  holder_entry entries x (Some m) n is = elim (cases_Bool (pmac_number x == n)) [
    | inl same ↦ (m, cond-true (pmac_number x == n) (Some m) (holder entries n) same)
    | inr other ↦ (is.0, cond-false (pmac_number x == n) (Some m) (holder entries n) other ∙ is.1)
  ]

  pub some_holder : (gs : List Giving) (entries : List Entry) (n : ℕ) → (h : ℕ) × (holder entries n ≡ Some h) →
      (h : ℕ) × (holder (all_written plan s entries gs) n ≡ Some h)
  some_holder [] entries n is = is
  some_holder (g ∷ gs) entries n is = some_holder gs (entry_for s entries g.pmac (host_of plan g.mac)) n (holder_entry entries g.pmac (host_of plan g.mac) n is)

  pub alike : (gs : List Giving) (entries : List Entry) → SaysAlike entries (all_written plan s entries gs)
  alike [] entries = record { stood = λ h there. refl; most = refl }
  alike (g ∷ gs) entries =
      let one = alike_entry entries g.pmac (host_of plan g.mac) in
      let rest = alike gs (entry_for s entries g.pmac (host_of plan g.mac)) in
      record { stood = λ h there. rest.stood h there ∙ one.stood h there; most = rest.most ∙ one.most }

  backed_entry : (switches : List SwitchView) (entries : List Entry) (x : Pmac) (o : Option ℕ) → IsGrantedThere switches x s x.port →
      AllByRecursion (IsBacked switches) entries →
      AllByRecursion (IsBacked switches) (entry_for s entries x o)
  backed_entry switches entries x None is all = all
  backed_entry switches entries x (Some m) is all = (is, all)

  pub all_backed : (switches : List SwitchView) (gs : List Giving) (entries : List Entry) →
      AllByRecursion (λ g. IsGrantedThere switches g.pmac s g.pmac.port) gs →
      AllByRecursion (IsBacked switches) entries → AllByRecursion (IsBacked switches) (all_written plan s entries gs)
  all_backed switches [] entries new all = all
  all_backed switches (g ∷ gs) entries new all =
      all_backed switches gs (entry_for s entries g.pmac (host_of plan g.mac)) new.1 (backed_entry switches entries g.pmac (host_of plan g.mac) new.0 all)

pub backed_later : (before after : List SwitchView) → ((x : Pmac) (s port : ℕ) → IsGrantedThere before x s port → IsGrantedThere after x s port) →
    (entries : List Entry) →
    AllByRecursion (IsBacked before) entries → AllByRecursion (IsBacked after) entries
backed_later before after more [] all = tt
backed_later before after more (Granted x h e p ∷ entries) all = (more x e.0 p all.0, backed_later before after more entries all.1)
backed_later before after more (entry ∷ entries) all = (tt, backed_later before after more entries all.1)

-- ---- what stands behind what entries say
-- an address of this number is granted
pub record IsHeldSomewhere (switches : List SwitchView) (n : ℕ) : Type 0 where
  pub pmac : Pmac
  pub switch : ℕ
  pub port : ℕ
  pub same : pmac_number pmac ≡ n
  pub there : IsGrantedThere switches pmac switch port

pub held_somewhere : (switches : List SwitchView) (entries : List Entry) (n h : ℕ) → AllByRecursion (IsBacked switches) entries → holder entries n ≡ Some h →
    IsHeldSomewhere switches n
held_somewhere switches [] n h all is = absurd (none-some h is)
held_somewhere switches (Granted x g e p ∷ entries) n h all is = elim (cases_Bool (pmac_number x == n)) [
  | inl same ↦ record { pmac = x; switch = e.0; port = p; same = eqb-true (pmac_number x) n same; there = all.0 }
  | inr other ↦ held_somewhere switches entries n h all.1 (sym (cond-false (pmac_number x == n) (Some g.0) (holder entries n) other) ∙ is)
]
held_somewhere switches (entry ∷ entries) n h all is = held_somewhere switches entries n h all.1 is

-- entries of addresses with this pod and position are just those of the switch
abbrev pub IsAlike : Pmac → ℕ → Entry → Type 0
IsAlike x s (Granted y h e p) = are_alike (same_pod_and_position x y) (e.0 == s) ≡ true
IsAlike x s entry = Unit {0}

pub of_edge : (entries : List Entry) (x : Pmac) (s : ℕ) → AllByRecursion (IsAlike x s) entries → is_of_edge entries x s ≡ true
of_edge [] x s all = refl
of_edge (Granted y h e p ∷ entries) x s all = and_from (are_alike (same_pod_and_position x y) (e.0 == s)) (is_of_edge entries x s) all.0
    (of_edge entries x s all.1)
of_edge (entry ∷ entries) x s all = of_edge entries x s all.1

-- the address of this number is the last of its port
abbrev pub IsLast : ℕ → Entry → Type 0
IsLast n (Granted y h e p) = pmac_number y ≡ n → y.vmid ≡ 65535
IsLast n entry = Unit {0}

pub spent_there : (entries : List Entry) (n : ℕ) (there : EdgePort) → AllByRecursion (IsLast n) entries → edge_port entries n ≡ Some there →
    is_spent entries there ≡ true
spent_there [] n there all is = absurd (none-some there is)
spent_there (Granted y h e p ∷ entries) n there all is = elim (cases_Bool (pmac_number y == n)) [
  | inl same ↦
      let last = all.0 (eqb-true (pmac_number y) n same) in
      let at : at_port e.0 p ≡ there = same_Some (at_port e.0 p) there
      (sym (cond-true (pmac_number y == n) (Some (at_port e.0 p)) (edge_port entries n) same) ∙ is) in
      or_left ((y.vmid == 65535) && same_edge_port (at_port e.0 p) there) (is_spent entries there)
      (and_from (y.vmid == 65535) (same_edge_port (at_port e.0 p) there) (eq-eqb y.vmid 65535 last)
      (subst (λ (q : EdgePort). same_edge_port (at_port e.0 p) q ≡ true) at (edge_port_itself (at_port e.0 p))))
  | inr other ↦
      or_right ((y.vmid == 65535) && same_edge_port (at_port e.0 p) there) (is_spent entries there)
      (spent_there entries n there all.1 (sym (cond-false (pmac_number y == n) (Some (at_port e.0 p)) (edge_port entries n) other) ∙ is))
]
  where
    edge_port_itself : (a : EdgePort) → same_edge_port a a ≡ true
    edge_port_itself a = and_from (a.edge == a.edge) (a.port == a.port) (eq-eqb a.edge a.edge refl) (eq-eqb a.port a.port refl)
spent_there (entry ∷ entries) n there all is = spent_there entries n there all.1 is
