-- The fabric manager keeps the ledger: what it registers is written down.
use Rattle.std.proofs.Common.{◌≡◌, ◌⊎◌, ◌≤◌, ◌<◌, ◌+◌, ◌==◌, max, ℕ, true, List, [], ◌∷◌, fold, length, map, filter_map, Option, Some, None, refl, sym, ap, subst, ◌∙◌, inl, inr, arith}
use Rattle.std.specs.List.{AllByRecursion, range_with_len}
use Rattle.std.proofs.lemmas.Bool.{cases_Bool, cond-false, cond-true, eq-eqb, eqb-true, false≢true}
use Rattle.std.proofs.lemmas.Option.{none-some, same_Some}
use Rattle.pl_pmac.specs.declared.pmac.Pmac.{Pmac}
use Rattle.pl_pmac.specs.Pmac.{PmacFits, pmac_number}
use Rattle.pl_pmac.proofs.Exports.{same_pmac_number}
use Rattle.pl_node.specs.declared.acts.ManagerAct.{ManagerAct}
use Rattle.pl_node.specs.declared.acts.ManagerAct.TheVariants.{Number, Say}
use Rattle.pl_node.specs.declared.messages.ToSwitch.{ToSwitch}
use Rattle.pl_node.specs.ManagerDuties.{AreNumbered, numbered_by, with_number}
use Rattle.pl_node.specs.ManagerViews.{ManagerView, Registration, registration, registry}
use Rattle.pl_node.specs.SwitchViews.{SwitchView}
use Rattle.pl_node.proofs.Exports.{among_of_Contains, Contains-of_among, IsAmong}
use Rattle.pl_layouts.specs.Equality.{same_pmac}
use Rattle.pl_layouts.proofs.Exports.{pmac_is}
use Rattle.pl_journal.specs.declared.entry.Entry.{Entry}
use Rattle.pl_journal.specs.declared.entry.Entry.TheVariants.{Granted, Registered}
use Rattle.pl_journal.specs.Places.{EdgePort, granted_at, has_stood, highest, holder, is_live, number}
use Rattle.pl_wiring.specs.Plan.{Plan}
use Rattle.pl_world.specs.declared.attachment.AttachmentPoint.{AttachmentPoint}
use Rattle.pl_world.specs.Changes.{said_to}
use Rattle.pl_world.specs.OtherActs.{manager_act_done}
use Rattle.pl_world.specs.Worlds.{WorldView}
use Rattle.pl_frame.specs.declared.address.Mac.{Mac}
use Rattle.pl_node.specs.declared.switch_records.Grant.{Grant}
use Rattle.pl_law_addresses.proofs.Exports.{find_passes}
use Rattle.pl_law_ledger.specs.Ledgers.{AreEntered, HasStoodThere, IsBacked, IsEntered}
use Rattle.pl_law_ledger.proofs.GrantsWritten.{Parts, one_written, parts_of, written}
use Rattle.pl_law_ledger.proofs.TellsNumbers.{IsNumberOf}

-- ---- what the acts of the manager write
-- addresses with the numbers that they are given
abbrev pub numberings : List ManagerAct → List (Pmac × ℕ)
numberings acts = filter_map numbered_by acts

abbrev pub all_numbered : List Entry → List (Pmac × ℕ) → List Entry
all_numbered entries [] = entries
all_numbered entries (g ∷ given) = all_numbered (Registered g.0 g.1 ∷ entries) given

one_said : (w : WorldView) (says : ToSwitch) (o : Option ℕ) → parts_of (said_to w says o) ≡ parts_of w
one_said w says None = refl
one_said w says (Some s) = refl

pub said_parts : (w : WorldView) (acts : List ManagerAct) →
    parts_of (fold manager_act_done w acts) ≡ record (parts_of w) { entries = all_numbered (written w.journal) (numberings acts) }
said_parts w [] = refl
said_parts w (Say to says ∷ acts) =
    said_parts (manager_act_done w (Say to says)) acts ∙ ap (λ (p : Parts). record p { entries = all_numbered p.entries (numberings acts) }) (one_said w says _)
said_parts w (Number x n ∷ acts) =
    said_parts (manager_act_done w (Number x n)) acts
    ∙ ap (λ es. let p : Parts = record (parts_of w) { entries = all_numbered es (numberings acts) } in p) (one_written w.journal (Registered x n))

-- of each address that acts number
pub of_numberings : (P : Pmac → Type 0) (acts : List ManagerAct) → AllByRecursion (IsNumberOf P) acts →
    AllByRecursion (λ (g : Pmac × ℕ). P g.0) (numberings acts)
of_numberings P [] all = tt
of_numberings P (Say to says ∷ acts) all = of_numberings P acts all.1
of_numberings P (Number x n ∷ acts) all = (all.0, of_numberings P acts all.1)

-- ---- what is said then
pub of_given : (P : Pmac × ℕ → Type 0) (given : List (Pmac × ℕ)) (g : Pmac × ℕ) → AllByRecursion P given → IsAmong g given → P g
of_given P [] g all is = absurd is
of_given P (h ∷ given) g all (inl here) = subst P here all.0
of_given P (h ∷ given) g all (inr later) = of_given P given g all.1 later

-- the number of an address is the last one that it was given, or the one that it had
pub record IsGivenLast (entries : List Entry) (given : List (Pmac × ℕ)) (m : ℕ) : Type 0 where
  pub one : Pmac × ℕ
  pub among : IsAmong one given
  pub same : pmac_number one.0 ≡ m
  pub has : number (all_numbered entries given) m ≡ Some one.1

pub record HasStill (entries : List Entry) (given : List (Pmac × ℕ)) (m : ℕ) : Type 0 where
  pub none : AllByRecursion (λ (g : Pmac × ℕ). pmac_number g.0 ≡ m → ⊥) given
  pub has : number (all_numbered entries given) m ≡ number entries m

pub number_then : (entries : List Entry) (given : List (Pmac × ℕ)) (m : ℕ) → IsGivenLast entries given m ⊎ HasStill entries given m
number_then entries [] m = inr (record { none = tt; has = refl })
number_then entries (g ∷ given) m = elim (number_then (Registered g.0 g.1 ∷ entries) given m) [
  | inl later ↦ inl (record { one = later.one; among = inr later.among; same = later.same; has = later.has })
  | inr none ↦ elim (cases_Bool (pmac_number g.0 == m)) [
    | inl is ↦
        inl (record {
          one = g;
          among = inl refl;
          same = eqb-true (pmac_number g.0) m is;
          has = none.has ∙ cond-true (pmac_number g.0 == m) (Some g.1) (number entries m) is;
        })
    | inr other ↦
        inr (record {
          none = ((λ same. false≢true (sym other ∙ eq-eqb (pmac_number g.0) m same)), none.none);
          has = none.has ∙ cond-false (pmac_number g.0 == m) (Some g.1) (number entries m) other;
        })
  ]
]

abbrev pub behind_first : List ℕ → List ℕ
behind_first [] = []
behind_first (x ∷ xs) = xs

abbrev pub first_or : ℕ → List ℕ → ℕ
first_or d [] = d
first_or d (x ∷ xs) = x

raised : (m n k : ℕ) → m ≤ n → k ≡ n + 1 → max m k ≤ n + 1
raised m n k less is = omega (arith, less, is)

-- the numbers are the next ones in turn
pub top_then : (given : List (Pmac × ℕ)) (entries : List Entry) (n : ℕ) → map (λ (g : Pmac × ℕ). g.1) given ≡ range_with_len (n + 1) (length given) →
    highest entries ≤ n →
    highest (all_numbered entries given) ≤ length given + n
top_then [] entries n are most = omega (arith, most)
top_then (g ∷ given) entries n are most =
    let rest = top_then given (Registered g.0 g.1 ∷ entries) (n + 1) (ap behind_first are) (raised (highest entries) n g.1 most (ap (first_or 0) are)) in
    omega (arith, rest)

pub all_above : (given : List (Pmac × ℕ)) (n low : ℕ) → low ≤ n → map (λ (g : Pmac × ℕ). g.1) given ≡ range_with_len (n + 1) (length given) →
    AllByRecursion (λ (g : Pmac × ℕ). low < g.1) given
all_above [] n low most are = tt
all_above (g ∷ given) n low most are = (
  (let first = ap (first_or 0) are in omega (arith, first, most)),
  all_above given (n + 1) low (omega (arith, most)) (ap behind_first are),
)

-- all else that the ledger says stays
record Stays (plan : Plan) (switches : List SwitchView) (before after : List Entry) : Type 0 where
  backed : AllByRecursion (IsBacked switches) before → AllByRecursion (IsBacked switches) after
  entered : (s : ℕ) (x : Pmac) (g : Grant) → IsEntered plan before s x g → IsEntered plan after s x g
  last : (h : ℕ) (there : EdgePort) → granted_at after h there ≡ granted_at before h there
  stood : (h : ℕ) (there : EdgePort) → has_stood plan after h there ≡ has_stood plan before h there
  stood_there : (mac : Mac) (there : EdgePort) → HasStoodThere plan before mac there → HasStoodThere plan after mac there
  held : (n : ℕ) → holder after n ≡ holder before n

stays : (plan : Plan) (switches : List SwitchView) (given : List (Pmac × ℕ)) (entries : List Entry) → Stays plan switches entries (all_numbered entries given)
stays plan switches [] entries =
    record { backed = λ b. b; entered = λ s x g e. e; last = λ h there. refl; stood = λ h there. refl; stood_there = λ mac there e. e; held = λ n. refl }
stays plan switches (g ∷ given) entries =
    let rest = stays plan switches given (Registered g.0 g.1 ∷ entries) in
    record {
      backed = λ b. rest.backed (tt, b);
      entered = λ s x q e. rest.entered s x q (record { host = e.host; of_mac = e.of_mac; held = e.held; live = e.live; there = e.there; for_hosts = e.for_hosts });
      last = rest.last;
      stood = rest.stood;
      stood_there = λ mac there e. rest.stood_there mac there (record { host = e.host; of_mac = e.of_mac; stood = e.stood; for_hosts = e.for_hosts });
      held = rest.held;
    }

-- an address that is given a number is a host's and live, and fits
pub record IsHostsOwn (entries : List Entry) (x : Pmac) : Type 0 where
  pub fits : PmacFits x
  pub host : ℕ
  pub held : holder entries (pmac_number x) ≡ Some host
  pub live : is_live entries (pmac_number x) ≡ true

-- ---- the ledger once that is written
module _ (plan : Plan) (before after : ManagerView) (switches : List SwitchView) (attachments : List AttachmentPoint) (entries : List Entry)
    (l : AreEntered plan before.learnt switches attachments entries) (given : List (Pmac × ℕ)) (numbered : AreNumbered before after given)
    (own : AllByRecursion (λ (g : Pmac × ℕ). IsHostsOwn entries g.0) given) where
  named : (x : Pmac) (reg : Registration) → registration after.learnt x ≡ Some reg → reg.pmac ≡ x
  named x reg is = pmac_is reg.pmac x (find_passes (λ (r : Registration). same_pmac r.pmac x) (registry after.learnt) reg is)

  numbers_now : (x : Pmac) (reg : Registration) → PmacFits x → registration after.learnt x ≡ Some reg →
      number (all_numbered entries given) (pmac_number x) ≡ Some reg.number
  numbers_now x reg fits is = elim (number_then entries given (pmac_number x)) [
    | inl g ↦
        let it = of_given (λ (h : Pmac × ℕ). IsHostsOwn entries h.0) given g.one own g.among in
        let same : g.one.0 ≡ x = same_pmac_number g.one.0 x it.fits fits g.same in
        let given_so : with_number reg ≡ (x, g.one.1) =
        numbered.given_as x g.one.1 reg (Contains-of_among (x, g.one.1) given (subst (λ (y : Pmac). IsAmong (y, g.one.1) given) same g.among)) is in
        g.has ∙ ap (λ (p : Pmac × ℕ). Some p.1) (sym given_so)
    | inr none ↦ elim (numbered.registered x reg is) [
      | inl was ↦ none.has ∙ l.numbers x reg fits was
      | inr now ↦
          absurd (of_given (λ (h : Pmac × ℕ). pmac_number h.0 ≡ pmac_number x → ⊥) given (with_number reg) none.none
          (among_of_Contains (with_number reg) given now)
          (ap pmac_number (named x reg is)))
    ]
  ]

  pub numbered_entered : AreEntered plan after.learnt switches attachments (all_numbered entries given)
  numbered_entered =
      let same = stays plan switches given entries in
      record {
        grants = λ s v y g found is. same.entered s y g (l.grants s v y g found is);
        last = λ s v x g h found is used of. same.last h _ ∙ l.last s v x g h found is used of;
        backed = same.backed l.backed;
        few = l.few;
        sources = λ s v port source found is. same.stood_there source.amac _ (l.sources s v port source found is);
        standing = λ h attachment is. same.stood h _ ∙ l.standing h attachment is;
        numbers = numbers_now;
        numbered = λ n m is. elim (number_then entries given n) [
          | inl g ↦
              let it = of_given (λ (h : Pmac × ℕ). IsHostsOwn entries h.0) given g.one own g.among in
              (it.host, same.held n ∙ ap (λ k. holder entries k) (sym g.same) ∙ it.held)
          | inr none ↦ (let had = l.numbered n m (sym none.has ∙ is) in (had.0, same.held n ∙ had.1))
        ];
        most = subst (λ n. highest (all_numbered entries given) ≤ n) (sym numbered.count) (top_then given entries before.learnt.count numbered.numbers l.most);
      }

-- no number is above the highest
pub below_highest : (entries : List Entry) (n m : ℕ) → number entries n ≡ Some m → m ≤ highest entries
below_highest [] n m is = absurd (none-some m is)
below_highest (Registered x k ∷ entries) n m is = elim (cases_Bool (pmac_number x == n)) [
  | inl here ↦ (let same : k ≡ m = same_Some k m (sym (cond-true (pmac_number x == n) (Some k) (number entries n) here) ∙ is) in omega (arith, same))
  | inr other ↦ (let rest = below_highest entries n m (sym (cond-false (pmac_number x == n) (Some k) (number entries n) other) ∙ is) in omega (arith, rest))
]
below_highest (Granted x h e p ∷ entries) n m is = elim (cases_Bool (pmac_number x == n)) [
  | inl here ↦ absurd (none-some m (sym (cond-true (pmac_number x == n) None (number entries n) here) ∙ is))
  | inr other ↦ below_highest entries n m (sym (cond-false (pmac_number x == n) None (number entries n) other) ∙ is)
]
below_highest (entry ∷ entries) n m is = below_highest entries n m is
