-- What the manager does leaves an address in one of its situations: it treats a word, sends a newer address of its host, and releases it.
use Rattle.std.proofs.Common.{◌≡◌, ◌<◌, ℕ, ◌==◌, ◌||◌, Bool, true, false, if◌then◌else◌, List, [], ◌∷◌, ◌++◌, Option, Some, None, refl, sym, subst, ◌∙◌, inl, inr, arith, eq-eqb, eqb-true}
use Rattle.std.specs.List.{list_any}
use Rattle.std.proofs.lemmas.Bool.{cases_Bool, false≢true}
use Rattle.pl_lemmas.proofs.Exports.{all_append}
use Rattle.pl_node.specs.ManagerViews.{Recall, number_behind}
use Rattle.pl_law_epochs.specs.Tenures.{Order, Said, Tenure, Use, treats}
use Rattle.pl_law_epochs.specs.Tenures.Knowledge.{Knows, Nothing}
use Rattle.pl_law_epochs.specs.Tenures.Order.{Recalls, Releases}
use Rattle.pl_law_epochs.specs.Tenures.Said.{Ages, Learns, Traps}
use Rattle.pl_law_epochs.specs.Tenures.Use.{Leads, Rests, Serves}
use Rattle.pl_law_epochs.specs.Situations.{AreCalm, IsCalm, IsIn, IsToldOrKnown, Situation, first_treated, is_learns, known_to, tenure_of}
use Rattle.pl_law_epochs.specs.Situations.Situation.{Counted, Gone, Led, LedTold, Recalled, Released, RestLedTold, RestRecalled, RestTold, Resting, Silent, Used}
use Rattle.pl_law_epochs.proofs.Lives.{calmer}

less_apart : (m n : ℕ) → m < n → (m == n) ≡ false
less_apart m n less = elim (cases_Bool (m == n)) [
  | inl same ↦ (let e = eqb-true m n same in absurd (omega (arith, less, e)))
  | inr apart ↦ apart
]

no_words : list_any is_learns [] ≡ true → ⊥
no_words is = false≢true is

not_false : {P : Type 0} → true ≡ false → P
not_false is = absurd (false≢true (sym is))

module _ (later : Bool) where
  by_situation : (P : Tenure → Type 0) → ((s : Situation later) → P (tenure_of s)) → (t : Tenure) → IsIn later t → P t
  by_situation P all t at = subst P at.1 (all at.0)

  -- ---- a word that it aged behind a trap of another number, of an address with a trap that is known
  abbrev led : Use → List Order → Recall → Bool → Bool → List Said → Tenure
  led use_is orders to known aged due = record { use_is = use_is; due = due; orders = orders; known = Knows known (Some to) aged; silent = false }

  -- it does not count, or it does
  void : (use_is : Use) (orders : List Order) (to : Recall) (known : Bool) (n : ℕ) (due : List Said) → n < to.number → IsIn later (led use_is orders to known false due) →
      IsIn later (led use_is orders to known ((n == to.number) || false) due)
  void use_is orders to known n due less at = subst (λ b. IsIn later (led use_is orders to known (b || false) due)) (sym (less_apart n to.number less)) at

  counts : (use_is : Use) (orders : List Order) (to : Recall) (known : Bool) (due : List Said) → IsIn later (led use_is orders to known true due) →
      IsIn later (led use_is orders to known ((to.number == to.number) || false) due)
  counts use_is orders to known due at = subst (λ b. IsIn later (led use_is orders to known (b || false) due)) (sym (eq-eqb to.number to.number refl)) at

  -- ---- whatever is due first is treated
  used_treats : (due : List Said) → AreCalm 0 due → (known : Bool) → IsToldOrKnown None known due →
      IsIn later (first_treated later (record { use_is = Serves; due = due; orders = []; known = known_to known None; silent = false }) due)
  used_treats [] calm known told = (Used [] calm known told, refl)
  used_treats (Learns ∷ due) calm true told = (Used due calm.1 true (inl refl), refl)
  used_treats (Learns ∷ due) calm false told = (Used due calm.1 true (inl refl), refl)
  used_treats (Traps to ∷ due) calm known told = absurd calm.0
  used_treats (Ages n ∷ due) calm known told = (let small = calm.0 in absurd (omega (arith, small)))

  recalled_treats : (to : Recall) → 0 < to.number → (due : List Said) → AreCalm to.number due → IsIn later (first_treated later (led Serves (Recalls to ∷ []) to true false due) due)
  recalled_treats to some [] calm = (Recalled to some [] calm, refl)
  recalled_treats to some (Learns ∷ due) calm = (Recalled to some due calm.1, refl)
  recalled_treats to some (Traps c ∷ due) calm = absurd calm.0
  recalled_treats to some (Ages n ∷ due) calm = void Serves (Recalls to ∷ []) to true n due calm.0 (Recalled to some due calm.1, refl)

  rest_recalled_treats : (to : Recall) → 0 < to.number → (due : List Said) → AreCalm to.number due → IsIn later (first_treated later (led (Rests 0) (Recalls to ∷ []) to true false due) due)
  rest_recalled_treats to some [] calm = (RestRecalled to some [] calm, refl)
  rest_recalled_treats to some (Learns ∷ due) calm = (RestRecalled to some due calm.1, refl)
  rest_recalled_treats to some (Traps c ∷ due) calm = absurd calm.0
  rest_recalled_treats to some (Ages n ∷ due) calm = void (Rests 0) (Recalls to ∷ []) to true n due calm.0 (RestRecalled to some due calm.1, refl)

  led_treats : (to : Recall) → 0 < to.number → (due : List Said) → AreCalm to.number due → (known : Bool) → IsToldOrKnown (Some to) known due →
      IsIn later (first_treated later (led (Leads to) [] to known false due) due)
  led_treats to some [] calm known fresh = (Led to some [] calm known fresh, refl)
  led_treats to some (Learns ∷ due) calm true fresh = (Led to some due calm.1 true (λ not. not_false not), refl)
  led_treats to some (Learns ∷ due) calm false fresh = let e = fresh refl in absurd (cc)
  led_treats to some (Traps c ∷ due) calm known fresh = absurd calm.0
  led_treats to some (Ages n ∷ due) calm true fresh = void (Leads to) [] to true n due calm.0 (Led to some due calm.1 true (λ not. not_false not), refl)
  led_treats to some (Ages n ∷ due) calm false fresh = let e = fresh refl in absurd (cc)

  -- behind a trap, and behind none
  rest_led_treats : (to : Recall) (due : List Said) → AreCalm to.number due → (known : Bool) → IsToldOrKnown (Some to) known due →
      IsIn later (first_treated later (led (Rests to.number) [] to known false (due ++ Ages to.number ∷ [])) (due ++ Ages to.number ∷ []))
  rest_led_treats to [] calm known fresh = counts (Rests to.number) [] to known [] (Counted to.number (Some to) known (inl refl), refl)
  rest_led_treats to (Learns ∷ due) calm true fresh = (Resting (Some to) due calm.1 true (λ not. not_false not), refl)
  rest_led_treats to (Learns ∷ due) calm false fresh = let e = fresh refl in absurd (cc)
  rest_led_treats to (Traps c ∷ due) calm known fresh = absurd calm.0
  rest_led_treats to (Ages n ∷ due) calm true fresh =
      void (Rests to.number) [] to true n (due ++ Ages to.number ∷ []) calm.0 (Resting (Some to) due calm.1 true (λ not. not_false not), refl)
  rest_led_treats to (Ages n ∷ due) calm false fresh = let e = fresh refl in absurd (cc)

  rest_treats : (due : List Said) → AreCalm 0 due → (known : Bool) → IsToldOrKnown None known due →
      IsIn later (first_treated later (record { use_is = Rests 0; due = due ++ Ages 0 ∷ []; orders = []; known = known_to known None; silent = false }) (due ++ Ages 0 ∷ []))
  rest_treats [] calm true told = (Counted 0 None true (inl refl), refl)
  rest_treats [] calm false told = elim told [ inl not ↦ absurd (false≢true not) | inr none ↦ absurd (no_words none) ]
  rest_treats (Learns ∷ due) calm true told = (Resting None due calm.1 true (inl refl), refl)
  rest_treats (Learns ∷ due) calm false told = (Resting None due calm.1 true (inl refl), refl)
  rest_treats (Traps to ∷ due) calm known told = absurd calm.0
  rest_treats (Ages n ∷ due) calm known told = (let small = calm.0 in absurd (omega (arith, small)))

  resting_treats : (behind : Option Recall) (due : List Said) (calm : AreCalm (number_behind behind) due) (known : Bool) (told : IsToldOrKnown behind known due) →
      let t = tenure_of {later = later} (Resting behind due calm known told) in IsIn later (first_treated later t t.due)
  resting_treats None due calm known told = rest_treats due calm known told
  resting_treats (Some to) due calm known told = rest_led_treats to due calm known told

  treats_at : (s : Situation later) → (tenure_of s).silent ≡ false → IsIn later (first_treated later (tenure_of s) (tenure_of s).due)
  treats_at (Silent use_is due numbered now) loud = not_false loud
  treats_at (Used due calm known told) loud = used_treats due calm known told
  treats_at (Recalled to some due calm) loud = recalled_treats to some due calm
  treats_at (Led to some due calm known fresh) loud = led_treats to some due calm known fresh
  treats_at (LedTold to some now) loud =
      subst (λ b. IsIn later (record { use_is = Leads to; due = []; orders = []; known = if b then Knows false (Some to) false else Nothing; silent = false })) (sym now)
      (Led to some [] tt false (λ is. refl), refl)
  treats_at (Resting behind due calm known told) loud = resting_treats behind due calm known told
  treats_at (RestTold number now) loud =
      subst (λ b. IsIn later (record { use_is = Rests number; due = []; orders = []; known = if b then Knows false None true else Nothing; silent = false })) (sym now)
      (Counted number None false (inr refl), refl)
  treats_at (RestLedTold to now) loud =
      subst (λ b. IsIn later (record { use_is = Rests to.number; due = Ages to.number ∷ []; orders = []; known = if b then Knows false (Some to) false else Nothing; silent = false })) (sym now)
      (Resting (Some to) [] tt false (λ is. refl), refl)
  treats_at (Counted number behind known at) loud = (Counted number behind known at, refl)
  treats_at (RestRecalled to some due calm) loud = rest_recalled_treats to some due calm
  treats_at (Released number) loud = (Released number, refl)
  treats_at Gone loud = (Gone, refl)

  pub first_word : (t : Tenure) → IsIn later t → t.silent ≡ false → (word : Said) (due : List Said) → t.due ≡ word ∷ due →
      IsIn later (record t { due = due; known = treats later t.known word })
  first_word t at loud word due is =
      subst (λ d. IsIn later (first_treated later t d)) is
      (by_situation (λ u. u.silent ≡ false → IsIn later (first_treated later u u.due)) treats_at t at loud)

  -- ---- it sends the switch a newer address of the host: the address is registered, and led nowhere
  recalls_at : (s : Situation later) (to : Recall) (aged : Bool) → 0 < to.number → (tenure_of s).known ≡ Knows true None aged →
      IsIn later (record (tenure_of s) { orders = (tenure_of s).orders ++ Recalls to ∷ []; known = Knows true (Some to) false })
  recalls_at (Used due calm known told) to aged some is = (Recalled to some due (calmer 0 to.number some due calm), refl)
  recalls_at (Resting None due calm known told) to aged some is =
      (RestRecalled to some (due ++ Ages 0 ∷ []) (all_append (IsCalm to.number) due (Ages 0 ∷ []) (calmer 0 to.number some due calm) (some, tt)), refl)
  recalls_at (Counted number None known at) to aged some is =
      let registered : known ≡ true = cc in
      let zero : 0 ≡ number = elim at [ inl same ↦ sym same | inr other ↦ not_false (sym registered ∙ other) ] in
      subst (λ n. IsIn later (record { use_is = Rests n; due = []; orders = Recalls to ∷ []; known = Knows true (Some to) false; silent = false })) zero (RestRecalled to some [] tt, refl)
  recalls_at (Silent use_is due numbered now) to aged some is = absurd (cc)
  recalls_at (Recalled own more due calm) to aged some is = absurd (cc)
  recalls_at (Led own more due calm known fresh) to aged some is = absurd (cc)
  recalls_at (LedTold own more now) to aged some is = absurd (cc)
  recalls_at (Resting (Some own) due calm known told) to aged some is = absurd (cc)
  recalls_at (RestTold number now) to aged some is = absurd (cc)
  recalls_at (RestLedTold own now) to aged some is = absurd (cc)
  recalls_at (Counted number (Some own) known at) to aged some is = absurd (cc)
  recalls_at (RestRecalled own more due calm) to aged some is = absurd (cc)
  recalls_at (Released number) to aged some is = absurd (cc)
  recalls_at Gone to aged some is = absurd (cc)

  pub recalls : (t : Tenure) → IsIn later t → (to : Recall) (aged : Bool) → 0 < to.number → t.known ≡ Knows true None aged →
      IsIn later (record t { orders = t.orders ++ Recalls to ∷ []; known = Knows true (Some to) false })
  recalls = by_situation (λ t. (to : Recall) (aged : Bool) → 0 < to.number → t.known ≡ Knows true None aged →
      IsIn later (record t { orders = t.orders ++ Recalls to ∷ []; known = Knows true (Some to) false })) recalls_at

  -- ---- it forgets an address that has aged, and releases it
  pub record IsForgotten (t : Tenure) : Type 0 where
    pub number : ℕ
    pub rested : t.use_is ≡ Rests number
    pub nothing_due : t.due ≡ []
    pub then_in : IsIn later (record t { orders = t.orders ++ Releases ∷ []; known = Nothing })

  forgets_at : (s : Situation later) (known : Bool) (to : Option Recall) → (tenure_of s).known ≡ Knows known to true → IsForgotten (tenure_of s)
  forgets_at (Counted number behind registered at) known to is = record { number = number; rested = refl; nothing_due = refl; then_in = (Released number, refl) }
  forgets_at (Silent use_is due numbered now) known to is = absurd (cc)
  forgets_at (Used due calm true told) known to is = absurd (cc)
  forgets_at (Used due calm false told) known to is = absurd (cc)
  forgets_at (Recalled own more due calm) known to is = absurd (cc)
  forgets_at (Led own more due calm registered fresh) known to is = absurd (cc)
  forgets_at (LedTold own more now) known to is = absurd (cc)
  forgets_at (Resting None due calm true told) known to is = absurd (cc)
  forgets_at (Resting None due calm false told) known to is = absurd (cc)
  forgets_at (Resting (Some own) due calm registered told) known to is = absurd (cc)
  forgets_at (RestTold number now) known to is = absurd (cc)
  forgets_at (RestLedTold own now) known to is = absurd (cc)
  forgets_at (RestRecalled own more due calm) known to is = absurd (cc)
  forgets_at (Released number) known to is = absurd (cc)
  forgets_at Gone known to is = absurd (cc)

  pub forgets : (t : Tenure) → IsIn later t → (known : Bool) (to : Option Recall) → t.known ≡ Knows known to true → IsForgotten t
  forgets = by_situation (λ t. (known : Bool) (to : Option Recall) → t.known ≡ Knows known to true → IsForgotten t) forgets_at
