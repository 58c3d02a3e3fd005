-- What a step of the manager makes of the places that it was told and of the numbers that it gave: none, what one word makes of them, or what all words
-- make of them that it kept.
use Rattle.std.proofs.Common.{◌≡◌, ◌⊎◌, ℕ, ◌==◌, ◌&&◌, ◌||◌, not, Bool, true, false, cond, List, [], ◌∷◌, ◌++◌, fold, map, Some, None, slice_get, refl, sym, ap, ◌∙◌, subst, subst₂, inl, inr}
use Rattle.std.specs.List.{AllByRecursion, IsDistinct, filter, list_any}
use Rattle.std.proofs.lemmas.Bool.{and_parts, cond_both, false≢true, or_cases, or_left, or_parts, or_right}
use Rattle.pl_frame.specs.declared.address.SwitchId.{SwitchId}
use Rattle.pl_pmac.specs.declared.pmac.Pmac.{Pmac}
use Rattle.pl_layouts.specs.Equality.{same_switch}
use Rattle.pl_wiring.specs.Plan.{IsPlan}
use Rattle.pl_gathering.specs.Acting.{Done, Step, does_nothing, goes_through, is_void_end, steps, steps_at_end, steps_at_word, then_treats, treats_all}
use Rattle.pl_gathering.specs.Gathering.{Gathered, Heard, Report, in_turn, is_among, is_whole, keeps_word, with_ended}
use Rattle.pl_gathering.specs.Gathering.Report.{Tells}
use Rattle.pl_node.specs.declared.acts.ManagerAct.{ManagerAct}
use Rattle.pl_node.specs.declared.messages.ToManager.{ToManager}
use Rattle.pl_node.specs.declared.messages.ToManager.TheVariants as tell
use Rattle.pl_node.specs.declared.pod_given.PodGiven.{PodGiven}
use Rattle.pl_node.specs.ManagerViews.{ManagerView, Told, place_of, pod_given}
use Rattle.pl_manager_rule.specs.ManagerRule.{ManagerStep, view_after, with_link}
use Rattle.pl_manager_rule.specs.Treating.{Treating, as_report, at_rest, follows, then_releases, to_release, treats, treats_word, waits_for_places}
use Rattle.pl_manager_rule.specs.WholeRule.{as_step, gathered, manager_steps, viewed}
use Rattle.pl_law_control_plane.specs.ControlPlanes.{ControlPlane}
use Rattle.pl_law_due.proofs.Exports.{ids_apart}
use Rattle.pl_law_places.specs.Places.{ArePlaced}
use Rattle.pl_law_votes.specs.Voting.{FixedAreApart}
use Rattle.pl_law_pods.specs.Apart.{HasPod, NumbersApart, tells_place}
use Rattle.pl_law_pods.specs.Numbering.{GivesApart, IsGivenPod, IsToldPlace, IsWordOf, own_pods}
use Rattle.pl_law_pods.specs.Pods.{id_of}
use Rattle.pl_law_pods.proofs.Apart.{anew_apart}
use Rattle.pl_law_pods.proofs.GivingApart.{asked_gives, placed_gives}
use Rattle.pl_law_pods.proofs.NumbersGiven.{all_inserted}
use Rattle.pl_law_pods.proofs.ToldPods.{pods_are_told, treated_pods, treated_told}

-- ---- releases look at addresses alone
released_told : (aged : List Pmac) (step : ManagerStep) → (fold then_releases step aged).view.told ≡ step.view.told
released_told [] step = refl
released_told (x ∷ aged) step = released_told aged (then_releases step x)

released_pods : (aged : List Pmac) (step : ManagerStep) → (fold then_releases step aged).view.pods ≡ step.view.pods
released_pods [] step = refl
released_pods (x ∷ aged) step = released_pods aged (then_releases step x)

abbrev pub treat : Treating → Heard ToManager → Treating
treat x h = (treats x h).known

known_folded : (heard : List (Heard ToManager)) (done : Done Treating ManagerAct) → (fold (then_treats treats) done heard).known ≡ fold treat done.known heard
known_folded [] done = refl
known_folded (h ∷ heard) done = known_folded heard (then_treats treats done h)

all_told : (heard : List (Heard ToManager)) (x : Treating) → (treats_all treats follows x heard).known.view.told ≡ (fold treat x heard).view.told
all_told heard x =
    let done = (fold (then_treats treats) (record { known = x; acts = [] }) heard).known in
    released_told (to_release done) (record { view = done.view; acts = [] })
    ∙ ap (λ (k : Treating). k.view.told) (known_folded heard (record { known = x; acts = [] }))

all_pods : (heard : List (Heard ToManager)) (x : Treating) → (treats_all treats follows x heard).known.view.pods ≡ (fold treat x heard).view.pods
all_pods heard x =
    let done = (fold (then_treats treats) (record { known = x; acts = [] }) heard).known in
    released_pods (to_release done) (record { view = done.view; acts = [] })
    ∙ ap (λ (k : Treating). k.view.pods) (known_folded heard (record { known = x; acts = [] }))

-- ---- what a step is
pub data Treats (v w : ManagerView) (id : SwitchId) (told : ToManager) : Type 0 where
  Keeps : w.told ≡ v.told → w.pods ≡ v.pods → (is_whole (gathered w) ≡ true → is_whole (gathered v) ≡ true) → Treats v w id told
  Hears : as_report told ≡ Tells told → is_whole (gathered v) ≡ true → w.told ≡ (treats_word (at_rest v) id told).known.view.told →
      w.pods ≡ (treats_word (at_rest v) id told).known.view.pods → Treats v w id told
  GoesThrough : (n : ℕ) → told ≡ tell.End n → is_whole (gathered v) ≡ false → is_among id v.begun ≡ true → is_among id v.ended ≡ false →
      is_whole (with_ended id (gathered v)) ≡ true → w.told ≡ (fold treat (at_rest v) (in_turn waits_for_places v.kept)).view.told →
      w.pods ≡ (fold treat (at_rest v) (in_turn waits_for_places v.kept)).view.pods → Treats v w id told

module _ (v : ManagerView) (id : SwitchId) where
  abbrev g₀ : Gathered Treating ToManager
  g₀ = gathered v

  abbrev After : Report ToManager → ManagerView
  After r = (as_step (steps treats waits_for_places follows g₀ id r)).view

  word_as : (word : ToManager) → as_report word ≡ Tells word → Treats v (After (Tells word)) id word
  word_as word is_word =
      let h : Heard ToManager = record { switch = id; word = word } in
      cond_both (is_whole g₀) (steps_at_word treats follows g₀ h) (does_nothing (keeps_word g₀ id word))
      (λ (st : Step Treating ToManager ManagerAct). Treats v (viewed st.now) id word)
      (λ whole. Hears is_word whole (all_told (h ∷ []) (at_rest v)) (all_pods (h ∷ []) (at_rest v)))
      (λ part. cond_both (is_among id g₀.begun) (record g₀ { kept = g₀.kept ++ h ∷ [] }) g₀ (λ (g : Gathered Treating ToManager). Treats v (viewed g) id word)
      (λ begun. Keeps refl refl (λ whole. whole)) (λ unheard. Keeps refl refl (λ whole. whole)))

  begin_as : (n : ℕ) → Treats v (After (as_report (tell.Begin n))) id (tell.Begin n)
  begin_as n =
      cond_both (is_whole g₀ || (not (n == g₀.epoch) || is_among id g₀.begun)) g₀ (record g₀ { begun = id ∷ g₀.begun })
      (λ (g : Gathered Treating ToManager). Treats v (viewed g) id (tell.Begin n))
      (λ void. Keeps refl refl (λ whole. whole)) (λ heard. Keeps refl refl (λ whole. whole))

  end_as : (n : ℕ) → Treats v (After (as_report (tell.End n))) id (tell.End n)
  end_as n =
      cond_both (is_void_end g₀ id n) (does_nothing g₀) (steps_at_end treats waits_for_places follows g₀ id)
      (λ (st : Step Treating ToManager ManagerAct). Treats v (viewed st.now) id (tell.End n))
      (λ void. Keeps refl refl (λ whole. whole))
      (λ heard.
      let two = or_parts (is_whole g₀) (not (n == g₀.epoch && is_among id g₀.begun) || is_among id g₀.ended) heard in
      let more = or_parts (not (n == g₀.epoch && is_among id g₀.begun)) (is_among id g₀.ended) two.1 in
      let here = and_parts (n == g₀.epoch) (is_among id g₀.begun) (unnot (n == g₀.epoch && is_among id g₀.begun) more.0) in
      cond_both (is_whole (with_ended id g₀)) (goes_through treats waits_for_places follows (with_ended id g₀)) (does_nothing (with_ended id g₀))
      (λ (st : Step Treating ToManager ManagerAct). Treats v (viewed st.now) id (tell.End n))
      (λ last. GoesThrough n refl two.0 here.1 more.1 last
      (all_told (in_turn waits_for_places v.kept) (at_rest v)) (all_pods (in_turn waits_for_places v.kept) (at_rest v)))
      (λ missing. Keeps refl refl (λ whole. absurd (false≢true (sym missing ∙ whole)))))
    where
      unnot : (b : Bool) → not b ≡ false → b ≡ true
      unnot true h = refl
      unnot false h = absurd (cc h)

  pub treats_as : (told : ToManager) → Treats v (manager_steps v id told).view id told
  unfolding manager_steps
  treats_as (tell.Begin n) = begin_as n
  treats_as (tell.End n) = end_as n
  treats_as (tell.Place place) = word_as (tell.Place place) refl
  treats_as (tell.Link u usable) = word_as (tell.Link u usable) refl
  treats_as tell.PodWanted = word_as tell.PodWanted refl
  treats_as (tell.Learned a b c) = word_as (tell.Learned a b c) refl
  treats_as (tell.Aged a b) = word_as (tell.Aged a b) refl
  treats_as (tell.Trapped a b c) = word_as (tell.Trapped a b c) refl
  treats_as (tell.Query a b c) = word_as (tell.Query a b c) refl
  treats_as (tell.Members group any) = word_as (tell.Members group any) refl

-- ---- lists
fold_append : {K X : Type 0} (f : K → X → K) (k : K) (xs ys : List X) → fold f k (xs ++ ys) ≡ fold f (fold f k xs) ys
fold_append f k [] ys = refl
fold_append f k (x ∷ xs) ys = fold_append f (f k x) xs ys

passed : {X : Type 0} (P : X → Type 0) (p : X → Bool) (xs : List X) → AllByRecursion P xs → AllByRecursion (λ x. P x × (p x ≡ true)) (filter p xs)
passed P p [] all = tt
passed P p (x ∷ xs) all = by (p x) refl (passed P p xs all.1)
  where
    by : (b : Bool) → p x ≡ b → AllByRecursion (λ y. P y × (p y ≡ true)) (filter p xs) →
        AllByRecursion (λ y. P y × (p y ≡ true)) (cond b (x ∷ filter p xs) (filter p xs))
    by true is rest = ((all.0, is), rest)
    by false is rest = rest

still_any : {X : Type 0} (q p : X → Bool) → ((x : X) → q x ≡ true → p x ≡ true) → (xs : List X) → list_any q xs ≡ true → list_any q (filter p xs) ≡ true
still_any q p each [] any = any
still_any q p each (x ∷ xs) any = by (p x) refl (λ rest. still_any q p each xs rest) any
  where
    by : (b : Bool) → p x ≡ b → (list_any q xs ≡ true → list_any q (filter p xs) ≡ true) → (q x || list_any q xs) ≡ true →
        list_any q (cond b (x ∷ filter p xs) (filter p xs)) ≡ true
    by true is rest some = elim (or_cases (q x) (list_any q xs) some) [
      | inl own ↦ or_left (q x) (list_any q (filter p xs)) own
      | inr later ↦ or_right (q x) (list_any q (filter p xs)) (rest later)
    ]
    by false is rest some = elim (or_cases (q x) (list_any q xs) some) [
      | inl own ↦ absurd (false≢true (sym is ∙ each x own))
      | inr later ↦ rest later
    ]

-- ---- one word
-- one that wishes knows no number, and one that knows a number that it was not given tells it in its place
abbrev pub IsFitting : ControlPlane → ℕ → SwitchId → List PodGiven → ToManager → Type 0
IsFitting f s id pods tell.PodWanted = own_pods f.view s ≡ None
IsFitting f s id pods (tell.Place told) = (n : ℕ) → own_pods f.view s ≡ Some n → (told.pod ≡ Some n) ⊎ (pod_given pods id ≡ Some n)
IsFitting f s id pods word = Unit {0}

-- of a word that was kept
pub record IsKeptWord (f : ControlPlane) (id : SwitchId) (word : ToManager) : Type 0 where
  pub switch : ℕ
  pub named : slice_get f.plan.ids switch ≡ Some id
  pub own : IsWordOf (f.view switch).place word
  pub unknown : waits_for_places word ≡ true → own_pods f.view switch ≡ None

abbrev AreKept : ControlPlane → Heard ToManager → Type 0
AreKept f h = IsKeptWord f h.switch h.word

module _ (f : ControlPlane) (is : IsPlan f.plan) (placed : ArePlaced f.plan f) (apart : FixedAreApart f.plan f.view) where
  abbrev pub Gives : Treating → Type 0
  Gives x = GivesApart f.plan f.view x.view.told x.view.pods

  linked : (told : Told) (pods : List PodGiven) (id u : SwitchId) (usable : Bool) → GivesApart f.plan f.view told pods →
      GivesApart f.plan f.view (with_link told id u usable) pods
  linked told pods id u usable gives = record {
    apart = record { one = gives.apart.one; knowers = gives.apart.knowers; askers = gives.apart.askers; both = gives.apart.both; stands = gives.apart.stands };
    once = gives.once;
    given = gives.given;
    places = gives.places;
  }

  view_gives : (v : ManagerView) (s : ℕ) (id : SwitchId) → slice_get f.plan.ids s ≡ Some id → (word : ToManager) → IsWordOf (f.view s).place word →
      IsFitting f s id v.pods word → GivesApart f.plan f.view v.told v.pods → GivesApart f.plan f.view (view_after v id word).told (view_after v id word).pods
  view_gives v s id named tell.PodWanted own fits gives =
      asked_gives f is placed apart v.told v.pods gives s id named own fits (λ t there. ids_apart f.plan is t s id there named)
  view_gives v s id named (tell.Place place) own fits gives =
      placed_gives f is placed apart v.told v.pods gives s id named place own fits (λ t there. ids_apart f.plan is t s id there named)
  view_gives v s id named (tell.Link u usable) own fits gives = linked v.told v.pods id u usable gives
  view_gives v s id named (tell.Learned a b c) own fits gives = gives
  view_gives v s id named (tell.Aged a b) own fits gives = gives
  view_gives v s id named (tell.Begin n) own fits gives = gives
  view_gives v s id named (tell.End n) own fits gives = gives
  view_gives v s id named (tell.Trapped a b c) own fits gives = gives
  view_gives v s id named (tell.Query a b c) own fits gives = gives
  view_gives v s id named (tell.Members group any) own fits gives = gives

  pub word_gives : (x : Treating) (s : ℕ) (id : SwitchId) → slice_get f.plan.ids s ≡ Some id → (word : ToManager) → IsWordOf (f.view s).place word →
      IsFitting f s id x.view.pods word → Gives x → Gives (treats_word x id word).known
  word_gives x s id named word own fits gives =
      subst₂ (GivesApart f.plan f.view) (sym (treated_told x id word)) (sym (treated_pods x id word)) (view_gives x.view s id named word own fits gives)

  -- ---- all that was kept
  -- the wishes
  wishes_give : (heard : List (Heard ToManager)) (x : Treating) → AllByRecursion (λ h. IsKeptWord f h.switch h.word × (waits_for_places h.word ≡ true)) heard →
      Gives x → Gives (fold treat x heard)
  wishes_give [] x all gives = gives
  wishes_give (h ∷ heard) x all gives =
      wishes_give heard (treat x h) all.1 (word_gives x all.0.0.switch h.switch all.0.0.named h.word all.0.0.own
      (fits all.0.0.switch h.word all.0.1 all.0.0.unknown) gives)
    where
      fits : (s : ℕ) (word : ToManager) → waits_for_places word ≡ true → (waits_for_places word ≡ true → own_pods f.view s ≡ None) →
          IsFitting f s h.switch x.view.pods word
      fits s tell.PodWanted waits unknown = unknown waits
      fits s (tell.Place place) waits unknown = absurd (false≢true waits)
      fits s (tell.Link u usable) waits unknown = tt
      fits s (tell.Learned a b c) waits unknown = tt
      fits s (tell.Aged a b) waits unknown = tt
      fits s (tell.Begin n) waits unknown = tt
      fits s (tell.End n) waits unknown = tt
      fits s (tell.Trapped a b c) waits unknown = tt
      fits s (tell.Query a b c) waits unknown = tt
      fits s (tell.Members group any) waits unknown = tt

  -- the others
  record IsPhase (x : Treating) : Type 0 where
    none : x.view.pods ≡ []
    places : AllByRecursion (IsToldPlace f.plan f.view) x.view.told.places

  other_phase : (v : ManagerView) (s : ℕ) (id : SwitchId) → slice_get f.plan.ids s ≡ Some id → (word : ToManager) → IsWordOf (f.view s).place word →
      waits_for_places word ≡ false →
      v.pods ≡ [] → AllByRecursion (IsToldPlace f.plan f.view) v.told.places →
      ((view_after v id word).pods ≡ []) × AllByRecursion (IsToldPlace f.plan f.view) (view_after v id word).told.places
  other_phase v s id named tell.PodWanted own other none places = absurd (cc other)
  other_phase v s id named (tell.Place place) own other none places =
      (none, all_inserted (IsToldPlace f.plan f.view) v.told.places id place (record { switch = s; named = named; pod = own }) places)
  other_phase v s id named (tell.Link u usable) own other none places = (none, places)
  other_phase v s id named (tell.Learned a b c) own other none places = (none, places)
  other_phase v s id named (tell.Aged a b) own other none places = (none, places)
  other_phase v s id named (tell.Begin n) own other none places = (none, places)
  other_phase v s id named (tell.End n) own other none places = (none, places)
  other_phase v s id named (tell.Trapped a b c) own other none places = (none, places)
  other_phase v s id named (tell.Query a b c) own other none places = (none, places)
  other_phase v s id named (tell.Members group any) own other none places = (none, places)

  others_phase : (heard : List (Heard ToManager)) (x : Treating) →
      AllByRecursion (λ h. IsKeptWord f h.switch h.word × (not (waits_for_places h.word) ≡ true)) heard → IsPhase x → IsPhase (fold treat x heard)
  others_phase [] x all phase = phase
  others_phase (h ∷ heard) x all phase =
      let next = other_phase x.view all.0.0.switch h.switch all.0.0.named h.word all.0.0.own
      (unwaited (waits_for_places h.word) all.0.1) phase.none phase.places in
      others_phase heard (treat x h) all.1 (record {
        none = treated_pods x h.switch h.word ∙ next.0;
        places = subst (λ (told : Told). AllByRecursion (IsToldPlace f.plan f.view) told.places) (sym (treated_told x h.switch h.word)) next.1;
      })
    where
      unwaited : (b : Bool) → not b ≡ true → b ≡ false
      unwaited true is = absurd (cc is)
      unwaited false is = refl

  pub all_give : (kept : List (Heard ToManager)) (x : Treating) → x.view.pods ≡ [] → x.view.told.places ≡ [] →
      AllByRecursion (λ h. IsKeptWord f h.switch h.word) kept →
      ((s t n : ℕ) → own_pods f.view s ≡ Some n → own_pods f.view t ≡ Some n → s ≡ t) →
      ((s n : ℕ) → own_pods f.view s ≡ Some n →
      AllByRecursion (λ h. HasPod (id_of f.plan s) n h.switch h.word) kept × (list_any (λ h. tells_place (id_of f.plan s) h.switch h.word) kept ≡ true)) →
      Gives (fold treat x (in_turn waits_for_places kept))
  unfolding IsDistinct
  all_give kept x none nowhere words knowers told =
      let others = filter (λ h. not (waits_for_places h.word)) kept in
      let wishes = filter (λ h. waits_for_places h.word) kept in
      let after = fold treat x others in
      let phase = others_phase others x (passed (AreKept f) (λ h. not (waits_for_places h.word)) kept words)
      (record { none = none; places = subst (AllByRecursion (IsToldPlace f.plan f.view)) (sym nowhere) tt }) in
      let stands : (s n : ℕ) → own_pods f.view s ≡ Some n → (place_of after.view.told (id_of f.plan s)).pod ≡ Some n =
      λ s n known.
      let has = told s n known in
      pods_are_told (id_of f.plan s) n others x
      (weaker s n others (passed (λ h. HasPod (id_of f.plan s) n h.switch h.word) (λ h. not (waits_for_places h.word)) kept has.0))
      (inr (still_any (λ h. tells_place (id_of f.plan s) h.switch h.word) (λ h. not (waits_for_places h.word))
      (λ h tells. no_wait (id_of f.plan s) h.switch h.word tells) kept has.1)) in
      let gives : Gives after = record {
        apart = subst (NumbersApart (id_of f.plan) (own_pods f.view) after.view.told) (sym phase.none)
            (anew_apart (id_of f.plan) (own_pods f.view) after.view.told knowers stands);
        once = subst (λ (gs : List PodGiven). IsDistinct same_switch (map (λ (g : PodGiven). g.switch) gs)) (sym phase.none) tt;
        given = subst (AllByRecursion (IsGivenPod f.plan f.view)) (sym phase.none) tt;
        places = phase.places;
      } in
      subst Gives (sym (fold_append treat x others wishes))
      (wishes_give wishes after (passed (AreKept f) (λ h. waits_for_places h.word) kept words) gives)
    where
      weaker : (s n : ℕ) (heard : List (Heard ToManager)) →
          AllByRecursion (λ h. HasPod (id_of f.plan s) n h.switch h.word × (not (waits_for_places h.word) ≡ true)) heard →
          AllByRecursion (λ h. HasPod (id_of f.plan s) n h.switch h.word) heard
      weaker s n [] all = tt
      weaker s n (h ∷ heard) all = (all.0.0, weaker s n heard all.1)

      no_wait : (t s : SwitchId) (word : ToManager) → tells_place t s word ≡ true → not (waits_for_places word) ≡ true
      no_wait t s (tell.Place place) tells = refl
      no_wait t s tell.PodWanted tells = absurd (false≢true tells)
      no_wait t s (tell.Link u usable) tells = refl
      no_wait t s (tell.Learned a b c) tells = refl
      no_wait t s (tell.Aged a b) tells = refl
      no_wait t s (tell.Begin n) tells = refl
      no_wait t s (tell.End n) tells = refl
      no_wait t s (tell.Trapped a b c) tells = refl
      no_wait t s (tell.Query a b c) tells = refl
      no_wait t s (tell.Members group any) tells = refl
