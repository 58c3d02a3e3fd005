-- Each event at its edge switch leaves an address in one of its situations: it is granted, told again, rests, is trapped and freed, and it is reported.
use Rattle.std.proofs.Common.{◌≡◌, ◌⊎◌, ◌<◌, ℕ, ◌||◌, Bool, true, false, List, [], ◌∷◌, ◌++◌, Some, None, refl, sym, subst, ◌∙◌, inl, inr, arith}
use Rattle.std.specs.List.{list_any}
use Rattle.std.proofs.lemmas.Bool.{false≢true}
use Rattle.pl_lemmas.proofs.Exports.{all_append}
use Rattle.pl_node.specs.ManagerViews.{Recall}
use Rattle.pl_law_epochs.specs.Tenures.{Order, Said, Tenure, Use}
use Rattle.pl_law_epochs.specs.Tenures.Knowledge.{Nothing}
use Rattle.pl_law_epochs.specs.Tenures.Order.{Recalls, Releases}
use Rattle.pl_law_epochs.specs.Tenures.Said.{Ages, Learns, Traps}
use Rattle.pl_law_epochs.specs.Tenures.Use.{Leads, Nobodys, Rests, Serves}
use Rattle.pl_law_epochs.specs.Situations.{AreCalm, IsCalm, IsIn, IsNumbered, Situation, is_learns, reported, tenure_of}
use Rattle.pl_law_epochs.specs.Situations.Situation.{Counted, Gone, Led, LedTold, Recalled, Released, RestLedTold, RestRecalled, RestTold, Resting, Silent, Used}

-- ---- words
any_end : (due : List Said) → list_any is_learns (due ++ Learns ∷ []) ≡ true
any_end [] = refl
any_end (word ∷ due) = by (is_learns word) (any_end due)
  where
    by : (b : Bool) → list_any is_learns (due ++ Learns ∷ []) ≡ true → (b || list_any is_learns (due ++ Learns ∷ [])) ≡ true
    by true rest = refl
    by false rest = rest

-- words that are calm are so under a larger number
pub calmer : (m n : ℕ) → m < n → (due : List Said) → AreCalm m due → AreCalm n due
calmer m n less [] all = tt
calmer m n less (Learns ∷ due) all = (tt, calmer m n less due all.1)
calmer m n less (Traps to ∷ due) all = absurd all.0
calmer m n less (Ages k ∷ due) all = let small = all.0 in (omega (arith, small, less), calmer m n less due all.1)

module _ (later : Bool) where
  -- what is so of each situation is so of what is in one
  by_situation : (P : Tenure → Type 0) → ((s : Situation later) → P (tenure_of s)) → (t : Tenure) → IsIn later t → P t
  by_situation P all t at = subst P at.1 (all at.0)

  -- ---- its switch grants it, and tells that
  grants_at : (s : Situation later) → (tenure_of s).use_is ≡ Nobodys → IsIn later (record (tenure_of s) { use_is = Serves; due = (tenure_of s).due ++ Learns ∷ [] })
  grants_at (Silent use_is due numbered now) is = (Silent Serves (due ++ Learns ∷ []) tt now, refl)
  grants_at Gone is = (Used (Learns ∷ []) (tt, tt) false (inr refl), refl)
  grants_at (Used due calm known told) is = absurd (cc)
  grants_at (Recalled to some due calm) is = absurd (cc)
  grants_at (Led to some due calm known fresh) is = absurd (cc)
  grants_at (LedTold to some now) is = absurd (cc)
  grants_at (Resting behind due calm known told) is = absurd (cc)
  grants_at (RestTold number now) is = absurd (cc)
  grants_at (RestLedTold to now) is = absurd (cc)
  grants_at (Counted number behind known at) is = absurd (cc)
  grants_at (RestRecalled to some due calm) is = absurd (cc)
  grants_at (Released number) is = absurd (cc)

  pub grants : (t : Tenure) → IsIn later t → t.use_is ≡ Nobodys → IsIn later (record t { use_is = Serves; due = t.due ++ Learns ∷ [] })
  grants = by_situation (λ t. t.use_is ≡ Nobodys → IsIn later (record t { use_is = Serves; due = t.due ++ Learns ∷ [] })) grants_at

  -- it learns an IPv4 address of one in use, and tells that
  again_at : (s : Situation later) → (tenure_of s).use_is ≡ Serves → IsIn later (record (tenure_of s) { due = (tenure_of s).due ++ Learns ∷ [] })
  again_at (Silent use_is due numbered now) is = (Silent use_is (due ++ Learns ∷ []) numbered now, refl)
  again_at (Used due calm known told) is = (Used (due ++ Learns ∷ []) (all_append (IsCalm 0) due (Learns ∷ []) calm (tt, tt)) known (inr (any_end due)), refl)
  again_at (Recalled to some due calm) is = (Recalled to some (due ++ Learns ∷ []) (all_append (IsCalm to.number) due (Learns ∷ []) calm (tt, tt)), refl)
  again_at (Led to some due calm known fresh) is = absurd (cc)
  again_at (LedTold to some now) is = absurd (cc)
  again_at (Resting behind due calm known told) is = absurd (cc)
  again_at (RestTold number now) is = absurd (cc)
  again_at (RestLedTold to now) is = absurd (cc)
  again_at (Counted number behind known at) is = absurd (cc)
  again_at (RestRecalled to some due calm) is = absurd (cc)
  again_at (Released number) is = absurd (cc)
  again_at Gone is = absurd (cc)

  pub again : (t : Tenure) → IsIn later t → t.use_is ≡ Serves → IsIn later (record t { due = t.due ++ Learns ∷ [] })
  again = by_situation (λ t. t.use_is ≡ Serves → IsIn later (record t { due = t.due ++ Learns ∷ [] })) again_at

  -- it leaves use, and that is told
  rests_at : (s : Situation later) → (tenure_of s).use_is ≡ Serves → IsIn later (record (tenure_of s) { use_is = Rests 0; due = (tenure_of s).due ++ Ages 0 ∷ [] })
  rests_at (Silent use_is due numbered now) is = (Silent (Rests 0) (due ++ Ages 0 ∷ []) tt now, refl)
  rests_at (Used due calm known told) is = (Resting None due calm known told, refl)
  rests_at (Recalled to some due calm) is = (RestRecalled to some (due ++ Ages 0 ∷ []) (all_append (IsCalm to.number) due (Ages 0 ∷ []) calm (some, tt)), refl)
  rests_at (Led to some due calm known fresh) is = absurd (cc)
  rests_at (LedTold to some now) is = absurd (cc)
  rests_at (Resting behind due calm known told) is = absurd (cc)
  rests_at (RestTold number now) is = absurd (cc)
  rests_at (RestLedTold to now) is = absurd (cc)
  rests_at (Counted number behind known at) is = absurd (cc)
  rests_at (RestRecalled to some due calm) is = absurd (cc)
  rests_at (Released number) is = absurd (cc)
  rests_at Gone is = absurd (cc)

  pub rests : (t : Tenure) → IsIn later t → t.use_is ≡ Serves → IsIn later (record t { use_is = Rests 0; due = t.due ++ Ages 0 ∷ [] })
  rests = by_situation (λ t. t.use_is ≡ Serves → IsIn later (record t { use_is = Rests 0; due = t.due ++ Ages 0 ∷ [] })) rests_at

  -- its trap ends, and that is told
  abbrev ended : Tenure → Recall → Tenure
  ended t to = record t { use_is = Rests to.number; due = t.due ++ Ages to.number ∷ [] }

  ends_at : (s : Situation later) (to : Recall) → (tenure_of s).use_is ≡ Leads to → IsIn later (ended (tenure_of s) to)
  ends_at (Silent use_is due numbered now) to is = (Silent (Rests to.number) (due ++ Ages to.number ∷ []) tt now, refl)
  ends_at (Led own some due calm known fresh) to is = let same : own ≡ to = cc in
      subst (λ c. IsIn later (ended (tenure_of {later = later} (Led own some due calm known fresh)) c)) same (Resting (Some own) due calm known fresh, refl)
  ends_at (LedTold own some now) to is = let same : own ≡ to = cc in
      subst (λ c. IsIn later (ended (tenure_of {later = later} (LedTold own some now)) c)) same (RestLedTold own now, refl)
  ends_at (Used due calm known told) to is = absurd (cc)
  ends_at (Recalled own some due calm) to is = absurd (cc)
  ends_at (Resting behind due calm known told) to is = absurd (cc)
  ends_at (RestTold number now) to is = absurd (cc)
  ends_at (RestLedTold own now) to is = absurd (cc)
  ends_at (Counted number behind known at) to is = absurd (cc)
  ends_at (RestRecalled own some due calm) to is = absurd (cc)
  ends_at (Released number) to is = absurd (cc)
  ends_at Gone to is = absurd (cc)

  pub ends : (t : Tenure) → IsIn later t → (to : Recall) → t.use_is ≡ Leads to → IsIn later (record t { use_is = Rests to.number; due = t.due ++ Ages to.number ∷ [] })
  ends = by_situation (λ t. (to : Recall) → t.use_is ≡ Leads to → IsIn later (record t { use_is = Rests to.number; due = t.due ++ Ages to.number ∷ [] })) ends_at

  -- ---- an order comes that its host has a newer address: no trap stands, and one is set
  pub record IsRecalled (t : Tenure) (to : Recall) (rest : List Order) : Type 0 where
    pub held : (t.use_is ≡ Serves) ⊎ (t.use_is ≡ Rests 0)
    pub last : rest ≡ []
    pub then_in : IsIn later (record t { use_is = Leads to; orders = rest })

  recalled_as : (t : Tenure) (own to : Recall) (rest : List Order) → t.orders ≡ Recalls own ∷ [] → t.orders ≡ Recalls to ∷ rest → (t.use_is ≡ Serves) ⊎ (t.use_is ≡ Rests 0) →
      IsIn later (record t { use_is = Leads own; orders = [] }) → IsRecalled t to rest
  recalled_as t own to rest orders is held at =
      let both : Recalls own ∷ [] ≡ Recalls to ∷ rest = sym orders ∙ is in
      let same : own ≡ to = cc in
      let none : [] ≡ rest = cc in
      record { held = held; last = sym none; then_in = subst (λ c. IsIn later (record t { use_is = Leads c; orders = rest })) same (subst (λ os. IsIn later (record t { use_is = Leads own; orders = os })) none at) }

  obeys_at : (s : Situation later) (to : Recall) (rest : List Order) → (tenure_of s).orders ≡ Recalls to ∷ rest → IsRecalled (tenure_of s) to rest
  obeys_at (Recalled own some due calm) to rest is =
      recalled_as (tenure_of {later = later} (Recalled own some due calm)) own to rest refl is (inl refl) (Led own some due calm true (λ not. absurd (false≢true (sym not))), refl)
  obeys_at (RestRecalled own some due calm) to rest is =
      recalled_as (tenure_of {later = later} (RestRecalled own some due calm)) own to rest refl is (inr refl) (Led own some due calm true (λ not. absurd (false≢true (sym not))), refl)
  obeys_at (Silent use_is due numbered now) to rest is = absurd (cc)
  obeys_at (Used due calm known told) to rest is = absurd (cc)
  obeys_at (Led own some due calm known fresh) to rest is = absurd (cc)
  obeys_at (LedTold own some now) to rest is = absurd (cc)
  obeys_at (Resting behind due calm known told) to rest is = absurd (cc)
  obeys_at (RestTold number now) to rest is = absurd (cc)
  obeys_at (RestLedTold own now) to rest is = absurd (cc)
  obeys_at (Counted number behind known at) to rest is = absurd (cc)
  obeys_at (Released number) to rest is = absurd (cc)
  obeys_at Gone to rest is = absurd (cc)

  pub obeys : (t : Tenure) → IsIn later t → (to : Recall) (rest : List Order) → t.orders ≡ Recalls to ∷ rest → IsRecalled t to rest
  obeys = by_situation (λ t. (to : Recall) (rest : List Order) → t.orders ≡ Recalls to ∷ rest → IsRecalled t to rest) obeys_at

  -- an order comes that releases it: it rests, nobody speaks of it, and it is nobody's then
  pub record IsReleased (t : Tenure) (rest : List Order) : Type 0 where
    pub number : ℕ
    pub rested : t.use_is ≡ Rests number
    pub nothing_due : t.due ≡ []
    pub unknown : t.known ≡ Nothing
    pub last : rest ≡ []
    pub then_in : IsIn later (record t { use_is = Nobodys; orders = rest })

  frees_at : (s : Situation later) (rest : List Order) → (tenure_of s).orders ≡ Releases ∷ rest → IsReleased (tenure_of s) rest
  frees_at (Released number) rest is =
      let none : [] ≡ rest = cc in
      record { number = number; rested = refl; nothing_due = refl; unknown = refl; last = sym none; then_in = subst (λ os. IsIn later (record { use_is = Nobodys; due = []; orders = os; known = Nothing; silent = false })) none (Gone, refl) }
  frees_at (Silent use_is due numbered now) rest is = absurd (cc)
  frees_at (Used due calm known told) rest is = absurd (cc)
  frees_at (Recalled own some due calm) rest is = absurd (cc)
  frees_at (Led own some due calm known fresh) rest is = absurd (cc)
  frees_at (LedTold own some now) rest is = absurd (cc)
  frees_at (Resting behind due calm known told) rest is = absurd (cc)
  frees_at (RestTold number now) rest is = absurd (cc)
  frees_at (RestLedTold own now) rest is = absurd (cc)
  frees_at (Counted number behind known at) rest is = absurd (cc)
  frees_at (RestRecalled own some due calm) rest is = absurd (cc)
  frees_at Gone rest is = absurd (cc)

  pub frees : (t : Tenure) → IsIn later t → (rest : List Order) → t.orders ≡ Releases ∷ rest → IsReleased t rest
  frees = by_situation (λ t. (rest : List Order) → t.orders ≡ Releases ∷ rest → IsReleased t rest) frees_at

  -- ---- the manager begins anew: nothing is due, ordered or known, and its switch has not heard of it
  numbered_at : (s : Situation later) → IsNumbered (tenure_of s).use_is
  numbered_at (Silent use_is due numbered now) = numbered
  numbered_at (Used due calm known told) = tt
  numbered_at (Recalled to some due calm) = tt
  numbered_at (Led to some due calm known fresh) = some
  numbered_at (LedTold to some now) = some
  numbered_at (Resting behind due calm known told) = tt
  numbered_at (RestTold number now) = tt
  numbered_at (RestLedTold to now) = tt
  numbered_at (Counted number behind known at) = tt
  numbered_at (RestRecalled to some due calm) = tt
  numbered_at (Released number) = tt
  numbered_at Gone = tt

  pub restarts : (t : Tenure) → IsIn later t → (due : List Said) → IsIn true (record { use_is = t.use_is; due = due; orders = []; known = Nothing; silent = true })
  restarts t at due = (Silent t.use_is due (by_situation (λ u. IsNumbered u.use_is) numbered_at t at) refl, refl)

  -- what is said of an address while its switch has not heard of that
  pub record IsUnheard (t : Tenure) : Type 0 where
    pub numbered : IsNumbered t.use_is
    pub now : later ≡ true
    pub unknown : t.known ≡ Nothing
    pub no_orders : t.orders ≡ []

  unheard_at : (s : Situation later) → (tenure_of s).silent ≡ true → IsUnheard (tenure_of s)
  unheard_at (Silent use_is due numbered now) is = record { numbered = numbered; now = now; unknown = refl; no_orders = refl }
  unheard_at (Used due calm known told) is = absurd (false≢true is)
  unheard_at (Recalled to some due calm) is = absurd (false≢true is)
  unheard_at (Led to some due calm known fresh) is = absurd (false≢true is)
  unheard_at (LedTold to some now) is = absurd (false≢true is)
  unheard_at (Resting behind due calm known told) is = absurd (false≢true is)
  unheard_at (RestTold number now) is = absurd (false≢true is)
  unheard_at (RestLedTold to now) is = absurd (false≢true is)
  unheard_at (Counted number behind known at) is = absurd (false≢true is)
  unheard_at (RestRecalled to some due calm) is = absurd (false≢true is)
  unheard_at (Released number) is = absurd (false≢true is)
  unheard_at Gone is = absurd (false≢true is)

  pub unheard : (t : Tenure) → IsIn later t → t.silent ≡ true → IsUnheard t
  unheard = by_situation (λ t. t.silent ≡ true → IsUnheard t) unheard_at

  -- what it told is dropped
  pub dropped : (t : Tenure) → IsIn later t → t.silent ≡ true → (due : List Said) → IsIn later (record t { due = due })
  dropped t at silent due =
      let u = unheard t at silent in
      (Silent t.use_is due u.numbered u.now, λ i. record { use_is = t.use_is; due = due; orders = sym u.no_orders i; known = sym u.unknown i; silent = sym silent i })

  -- its switch hears of the epoch, and reports it
  greeted_at : later ≡ true → (use_is : Use) → IsNumbered use_is → IsIn later (record { use_is = use_is; due = reported use_is; orders = []; known = Nothing; silent = false })
  greeted_at now Serves numbered = (Used (Learns ∷ []) (tt, tt) false (inr refl), refl)
  greeted_at now (Leads to) numbered = (LedTold to numbered now, refl)
  greeted_at now (Rests number) numbered = (RestTold number now, refl)
  greeted_at now Nobodys numbered = (Gone, refl)

  pub greeted : (t : Tenure) → IsIn later t → t.silent ≡ true → IsIn later (record t { due = reported t.use_is; orders = []; silent = false })
  greeted t at silent =
      let u = unheard t at silent in
      subst (λ k. IsIn later (record { use_is = t.use_is; due = reported t.use_is; orders = []; known = k; silent = false })) (sym u.unknown) (greeted_at u.now t.use_is u.numbered)
