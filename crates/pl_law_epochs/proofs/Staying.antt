-- What leaves an address in its situation, and how one word about it shows in what is due and ordered.
use Rattle.std.proofs.Common.{◌≡◌, ℕ, true, false, List, [], ◌∷◌, ◌++◌, Option, Some, None, is_some, refl, sym, ap, subst, ◌∙◌, inl, inr, append-nil}
use Rattle.std.specs.List.{AllByRecursion}
use Rattle.std.specs.Option.{option_map}
use Rattle.std.proofs.lemmas.Bool.{cases_Bool, cond-false, cond-true}
use Rattle.std.proofs.lemmas.List.Concat.{flat_map-append}
use Rattle.std.proofs.lemmas.Option.{none-some}
use Rattle.pl_frame.specs.declared.address.Ip4.{Ip4}
use Rattle.pl_frame.specs.declared.address.Mac.{Mac}
use Rattle.pl_pmac.specs.declared.pmac.Pmac.{Pmac}
use Rattle.pl_layouts.specs.Equality.{same_pmac}
use Rattle.pl_layouts.proofs.Exports.{pmac_itself}
use Rattle.pl_node.specs.declared.messages.ToManager.{ToManager}
use Rattle.pl_node.specs.declared.messages.ToManager.TheVariants as tell
use Rattle.pl_node.specs.declared.messages.ToSwitch.{ToSwitch}
use Rattle.pl_node.specs.declared.messages.ToSwitch.TheVariants as say
use Rattle.pl_node.specs.declared.switch_records.Grant.{Grant}
use Rattle.pl_law_addresses.specs.EdgeAddresses.{Edge}
use Rattle.pl_law_addresses.proofs.Exports.{is_or_other}
use Rattle.pl_law_epochs.specs.Edges.{IsGoodOrder, IsGoodWord, Registry, is_unheard, tenure_at}
use Rattle.pl_law_epochs.specs.Situations.{IsIn}
use Rattle.pl_law_epochs.specs.Situations.Situation.{Gone, Silent}
use Rattle.pl_law_epochs.specs.Tenures.{Said, knowledge, order_of, orders_on, said_of, use_of, words_on}
use Rattle.pl_law_epochs.specs.Tenures.Order.{Recalls, Releases}
use Rattle.pl_law_epochs.specs.Tenures.Said.{Ages, Learns, Traps}
use Rattle.pl_law_epochs.specs.Tenures.Use.{Nobodys}

-- ---- words in queues
pub words_behind : (x : Pmac) (up more : List ToManager) → words_on x (up ++ more) ≡ words_on x up ++ words_on x more
words_behind x up more = flat_map-append (said_of x) up more

pub orders_behind : (x : Pmac) (down more : List ToSwitch) → orders_on x (down ++ more) ≡ orders_on x down ++ orders_on x more
orders_behind x down more = flat_map-append (order_of x) down more

-- words of other addresses are none of this one
pub words_aside : (x : Pmac) (up more : List ToManager) → words_on x more ≡ [] → words_on x (up ++ more) ≡ words_on x up
words_aside x up more none = words_behind x up more ∙ ap (λ ws. words_on x up ++ ws) none ∙ append-nil (words_on x up)

pub told_here : (x : Pmac) (amac : Mac) (ip : Option Ip4) → said_of x (tell.Learned x amac ip) ≡ Learns ∷ []
told_here x amac ip = cond-true (same_pmac x x) (Learns ∷ []) [] (pmac_itself x)

pub told_there : (x y : Pmac) (amac : Mac) (ip : Option Ip4) → same_pmac x y ≡ false → said_of y (tell.Learned x amac ip) ≡ []
told_there x y amac ip other = cond-false (same_pmac x y) (Learns ∷ []) [] other

pub aged_here : (x : Pmac) (number : ℕ) → said_of x (tell.Aged x number) ≡ Ages number ∷ []
aged_here x number = cond-true (same_pmac x x) (Ages number ∷ []) [] (pmac_itself x)

pub aged_there : (x y : Pmac) (number : ℕ) → same_pmac x y ≡ false → said_of y (tell.Aged x number) ≡ []
aged_there x y number other = cond-false (same_pmac x y) (Ages number ∷ []) [] other

pub trap_here : (x new : Pmac) (number : ℕ) → said_of x (tell.Trapped x new number) ≡ Traps (record { new = new; number = number }) ∷ []
trap_here x new number = cond-true (same_pmac x x) (Traps (record { new = new; number = number }) ∷ []) [] (pmac_itself x)

pub trap_there : (x y new : Pmac) (number : ℕ) → same_pmac x y ≡ false → said_of y (tell.Trapped x new number) ≡ []
trap_there x y new number other = cond-false (same_pmac x y) (Traps (record { new = new; number = number }) ∷ []) [] other

pub ordered_here : (x new : Pmac) (number : ℕ) (ip : Option Ip4) → order_of x (say.Invalidate x new number ip) ≡ Recalls (record { new = new; number = number }) ∷ []
ordered_here x new number ip = cond-true (same_pmac x x) (Recalls (record { new = new; number = number }) ∷ []) [] (pmac_itself x)

pub ordered_there : (old y new : Pmac) (number : ℕ) (ip : Option Ip4) → same_pmac old y ≡ false → order_of y (say.Invalidate old new number ip) ≡ []
ordered_there old y new number ip other = cond-false (same_pmac old y) (Recalls (record { new = new; number = number }) ∷ []) [] other

pub released_here : (x : Pmac) → order_of x (say.Release x) ≡ Releases ∷ []
released_here x = cond-true (same_pmac x x) (Releases ∷ []) [] (pmac_itself x)

pub released_there : (x y : Pmac) → same_pmac x y ≡ false → order_of y (say.Release x) ≡ []
released_there x y other = cond-false (same_pmac x y) (Releases ∷ []) [] other

-- ---- the manager knows the same of an address, or nothing
pub record KnowsAlike (r n : Registry) (x : Pmac) : Type 0 where
  pub at : n.at x ≡ r.at x
  pub known : n.known_at x ≡ r.known_at x

pub knows_same : (r : Registry) (x : Pmac) → KnowsAlike r r x
knows_same r x = record { at = refl; known = refl }

pub record KnowsNothing (r : Registry) (x : Pmac) : Type 0 where
  pub at : r.at x ≡ None
  pub known : r.known_at x ≡ None

-- an address of which all is the same is in its situation still
pub situation_kept : (r n : Registry) (e f : Edge) (x : Pmac) → n.later ≡ r.later → KnowsAlike r n x → f.granted x ≡ e.granted x → words_on x f.up ≡ words_on x e.up →
    orders_on x f.down ≡ orders_on x e.down → is_unheard f.down ≡ is_unheard e.down → IsIn r.later (tenure_at r e x) → IsIn n.later (tenure_at n f x)
situation_kept r n e f x later alike granted up down silent at =
    let path : tenure_at r e x ≡ tenure_at n f x = λ i. record {
      use_is = use_of (option_map (λ (g : Grant). g.held) (sym granted i));
      due = sym up i;
      orders = sym down i;
      known = knowledge (is_some (sym alike.at i)) (sym alike.known i);
      silent = sym silent i;
    } in
    subst (λ b. IsIn b (tenure_at n f x)) (sym later) (subst (λ t. IsIn r.later t) path at)

-- it is used so then, and these words are told besides
pub situation_now : (r : Registry) (e : Edge) (x : Pmac) (g : Grant) (f : Pmac → Option Grant) (more : List ToManager) (said : List Said) → f x ≡ Some g → words_on x more ≡ said →
    IsIn r.later (record (tenure_at r e x) { use_is = use_of (Some g.held); due = words_on x e.up ++ said }) →
    IsIn r.later (tenure_at r (record e { granted = f; up = e.up ++ more }) x)
situation_now r e x g f more said now words at =
    let due : words_on x (e.up ++ more) ≡ words_on x e.up ++ said = words_behind x e.up more ∙ ap (λ ws. words_on x e.up ++ ws) words in
    let path : record (tenure_at r e x) { use_is = use_of (Some g.held); due = words_on x e.up ++ said } ≡ tenure_at r (record e { granted = f; up = e.up ++ more }) x =
    λ i. record (tenure_at r e x) { use_is = use_of (option_map (λ (h : Grant). h.held) (sym now i)); due = sym due i } in
    subst (λ t. IsIn r.later t) path at

-- ---- an address that was not granted
-- nobody speaks of it
pub words_ungranted : (own : Mac → Option Ip4) (f : Pmac → Option Grant) (x : Pmac) → f x ≡ None → (up : List ToManager) →
    AllByRecursion (IsGoodWord own f) up → words_on x up ≡ []
words_ungranted own f x none [] all = refl
words_ungranted own f x none (tell.Learned y amac ip ∷ up) all = elim (is_or_other y x) [
  | inl same ↦ let to = all.0.0 in absurd (none-some to.grant (sym none ∙ ap f (sym same) ∙ to.found))
  | inr other ↦ ap (λ ws. ws ++ words_on x up) (told_there y x amac ip other) ∙ words_ungranted own f x none up all.1
]
words_ungranted own f x none (tell.Aged y number ∷ up) all = elim (is_or_other y x) [
  | inl same ↦ let to = all.0.1 in absurd (none-some to.grant (sym none ∙ ap f (sym same) ∙ to.found))
  | inr other ↦ ap (λ ws. ws ++ words_on x up) (aged_there y x number other) ∙ words_ungranted own f x none up all.1
]
words_ungranted own f x none (tell.Trapped y new number ∷ up) all = elim (is_or_other y x) [
  | inl same ↦ let to = all.0.1 in absurd (none-some to.grant (sym none ∙ ap f (sym same) ∙ to.found))
  | inr other ↦ ap (λ ws. ws ++ words_on x up) (trap_there y x new number other) ∙ words_ungranted own f x none up all.1
]
words_ungranted own f x none (says ∷ up) all = words_ungranted own f x none up all.1

pub orders_ungranted : (own : Mac → Option Ip4) (f : Pmac → Option Grant) (x : Pmac) → f x ≡ None → (down : List ToSwitch) →
    AllByRecursion (IsGoodOrder own f) down → orders_on x down ≡ []
orders_ungranted own f x none [] all = refl
orders_ungranted own f x none (say.Invalidate old new number ip ∷ down) all = elim (is_or_other old x) [
  | inl same ↦ let to = all.0.granted_to in absurd (none-some to.grant (sym none ∙ ap f (sym same) ∙ to.found))
  | inr other ↦ ap (λ os. os ++ orders_on x down) (ordered_there old x new number ip other) ∙ orders_ungranted own f x none down all.1
]
orders_ungranted own f x none (say.Release y ∷ down) all = elim (is_or_other y x) [
  | inl same ↦ let to = all.0.1 in absurd (none-some to.grant (sym none ∙ ap f (sym same) ∙ to.found))
  | inr other ↦ ap (λ os. os ++ orders_on x down) (released_there y x other) ∙ orders_ungranted own f x none down all.1
]
orders_ungranted own f x none (says ∷ down) all = orders_ungranted own f x none down all.1

-- so it is nobody's, whether its switch heard of the epoch or not
pub ungranted_situation : (own : Mac → Option Ip4) (r : Registry) (e : Edge) (x : Pmac) → e.granted x ≡ None → AllByRecursion (IsGoodWord own e.granted) e.up →
    AllByRecursion (IsGoodOrder own e.granted) e.down → KnowsNothing r x → (is_unheard e.down ≡ true → r.later ≡ true) → IsIn r.later (tenure_at r e x)
ungranted_situation own r e x none words orders unknown unheard =
    let use_is : Nobodys ≡ use_of (option_map (λ (g : Grant). g.held) (e.granted x)) = ap (λ (o : Option Grant). use_of (option_map (λ (g : Grant). g.held) o)) (sym none) in
    let due : [] ≡ words_on x e.up = sym (words_ungranted own e.granted x none e.up words) in
    let ordered : [] ≡ orders_on x e.down = sym (orders_ungranted own e.granted x none e.down orders) in
    elim (cases_Bool (is_unheard e.down)) [
      | inr heard ↦ (
        Gone,
        λ i. record {
          use_is = use_is i;
          due = due i;
          orders = ordered i;
          known = knowledge (is_some (sym unknown.at i)) (sym unknown.known i);
          silent = sym heard i;
        },
      )
      | inl silent ↦ (
        Silent Nobodys [] tt (unheard silent),
        λ i. record {
          use_is = use_is i;
          due = due i;
          orders = ordered i;
          known = knowledge (is_some (sym unknown.at i)) (sym unknown.known i);
          silent = sym silent i;
        },
      )
    ]
