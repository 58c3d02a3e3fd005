-- Each step keeps the numbers of pods in order, in each epoch of the manager.
use mathlib.Core.Path.{fun_ext}
use Rattle.std.proofs.Common.{◌≡◌, ◌⊎◌, ◌≤◌, ◌<◌, ℕ, ◌||◌, Bool, true, false, cond, List, [], ◌∷◌, ◌++◌, fold, Option, Some, None, is_some, slice_get, refl, sym, ap, ◌∙◌, subst, subst₂, inl, inr, arith, eqb-true}
use Rattle.std.specs.List.{AllByRecursion, list_any}
use Rattle.std.proofs.lemmas.Bool.{cases_Bool, cases_eq, cond-true, cond-false, false≢true, or_cases, or_left, or_parts, or_right}
use Rattle.std.proofs.lemmas.Option.{none-some, slice_get-get_or}
use Rattle.pl_lemmas.proofs.Exports.{all_front, all_weaker}
use Rattle.pl_frame.specs.declared.address.SwitchId.{SwitchId}
use Rattle.pl_frame.proofs.Exports.{same_id}
use Rattle.pl_layouts.specs.declared.place.Place.{Place}
use Rattle.pl_layouts.specs.Equality.{same_switch}
use Rattle.pl_layouts.specs.Placement.{is_known}
use Rattle.pl_layouts.proofs.Exports.{switch_itself}
use Rattle.pl_wiring.specs.Labels.{switch_count}
use Rattle.pl_wiring.specs.Plan.{IsPlan, Plan}
use Rattle.pl_gathering.specs.Gathering.{Gathered, Heard, Report, in_turn, is_among, is_whole, kept_of, with_ended, words, words_behind_begin}
use Rattle.pl_gathering.specs.Gathering.Report.{End, Tells}
use Rattle.pl_gathering.specs.Orderly.{IsOrderly, has}
use Rattle.pl_gathering.proofs.Exports.{everyone}
use Rattle.pl_node.specs.declared.messages.ToManager.{ToManager}
use Rattle.pl_node.specs.declared.messages.ToManager.TheVariants as tell
use Rattle.pl_node.specs.declared.messages.ToSwitch.{ToSwitch}
use Rattle.pl_node.specs.declared.messages.ToSwitch.TheVariants as say
use Rattle.pl_node.specs.declared.pod_given.PodGiven.{PodGiven}
use Rattle.pl_node.specs.ManagerViews.{ManagerView, pod_given}
use Rattle.pl_node.specs.SwitchInputs.{SwitchInput}
use Rattle.pl_node.specs.SwitchInputs.SwitchInput.{Says}
use Rattle.pl_node.specs.SwitchViews.{SwitchView}
use Rattle.pl_manager_rule.specs.Treating.{as_report, at_rest, treats_word, waits_for_places}
use Rattle.pl_manager_rule.specs.WholeRule.{gathered, manager_steps, whole_rule}
use Rattle.pl_switch_rule.specs.SwitchRule.{Loose}
use Rattle.pl_law_control_plane.specs.ControlPlanes.{ControlPlane}
use Rattle.pl_law_control_plane.specs.PlaneSteps.{IsReportTaken, ManagerTurns, WholeStep, ordered}
use Rattle.pl_law_control_plane.proofs.Exports.{any_append}
use Rattle.pl_law_control_plane.specs.Restarts.{OnPlane}
use Rattle.pl_law_control_plane.specs.Restarts.OnPlane.{BeginsAnew, Steps}
use Rattle.pl_law_due.specs.Due.{due_of, due_plane, is_hello, is_silent, read, words_of}
use Rattle.pl_law_due.specs.Gathering.{GathersWell, IsSized}
use Rattle.pl_law_due.proofs.Exports.{ids_apart, named_there, restarts_here, step_gathers, there_named, whole_due}
use Rattle.pl_law_places.specs.Places.{ArePlaced, ArePodNumbers, IsPodNumber}
use Rattle.pl_law_places.specs.Told.{IsTrueOf}
use Rattle.pl_law_places.proofs.Exports.{true_of_itself}
use Rattle.pl_law_votes.specs.Voting.{FixedAreApart}
use Rattle.pl_law_pods.specs.Apart.{HasPod, NumbersApart, tells_place}
use Rattle.pl_law_pods.specs.Numbering.{AreNumbered, GivesApart, IsGivenPod, IsPlaceWith, IsToldPlace, IsWordOf, own_pods, PlaceComesFirst, PlacesComeFirst}
use Rattle.pl_law_pods.specs.Numbering.PlaceComesFirst.{IsBehind, IsNext, WasKept}
use Rattle.pl_law_pods.specs.Pods.{IsPodGiven, id_of}
use Rattle.pl_law_pods.specs.Ways.{how_many, is_wish, one_if, own_pod}
use Rattle.pl_law_pods.proofs.NumberingGround.{numbered_anew}
use Rattle.pl_law_pods.proofs.Acting.{Acted, step_acted, SwitchActs, TakesOrder}
use Rattle.pl_law_pods.proofs.Acting.Acted.{Manager, Nobody, Switch}
use Rattle.pl_law_pods.proofs.Acting.TakesOrder.{AnOrder, NoOrder}
use Rattle.pl_law_pods.proofs.Apart.{taken_apart}
use Rattle.pl_law_pods.proofs.GivingApart.{knower_named}
use Rattle.pl_law_pods.proofs.NumbersGiven.{found_is}
use Rattle.pl_law_pods.proofs.PlaceFirst.{acts_first, left_first, manager_first}
use Rattle.pl_law_pods.proofs.TreatingPods.{all_give, IsFitting, IsKeptWord, treat, Treats, treats_as, word_gives}
use Rattle.pl_law_pods.proofs.TreatingPods.Treats.{GoesThrough, Hears, Keeps}
use Rattle.pl_law_pods.proofs.WaysDue.{ways_kept}
use Rattle.pl_law_pods.proofs.WaysKept.{how_many_first}
use Rattle.pl_law_pods.proofs.WordsDue.{truly_kept}

-- ---- words that were kept
-- what is so of each word that was kept of a switch, whichever it is
kept_each : (Q : SwitchId → ToManager → Type 0) (kept : List (Heard ToManager)) → ((id : SwitchId) → AllByRecursion (Q id) (kept_of id kept)) →
    AllByRecursion (λ h. Q h.switch h.word) kept
kept_each Q [] each = tt
kept_each Q (h ∷ kept) each = (here, kept_each Q kept (λ id. by id (same_switch h.switch id) (each id)))
  where
    here : Q h.switch h.word
    here =
        (subst (AllByRecursion (Q h.switch))
        (ap (λ b. cond b (h.word ∷ kept_of h.switch kept) (kept_of h.switch kept)) (switch_itself h.switch)) (each h.switch)).0

    by : (id : SwitchId) (b : Bool) → AllByRecursion (Q id) (cond b (h.word ∷ kept_of id kept) (kept_of id kept)) → AllByRecursion (Q id) (kept_of id kept)
    by id true all = all.1
    by id false all = all

-- of one switch
kept_own : (P : ToManager → Type 0) (id : SwitchId) (kept : List (Heard ToManager)) → AllByRecursion P (kept_of id kept) →
    AllByRecursion (λ h. same_switch h.switch id ≡ true → P h.word) kept
kept_own P id [] all = tt
kept_own P id (h ∷ kept) all = by (same_switch h.switch id) (λ rest. kept_own P id kept rest) all
  where
    by : (b : Bool) → (AllByRecursion P (kept_of id kept) → AllByRecursion (λ k. same_switch k.switch id ≡ true → P k.word) kept) →
        AllByRecursion P (cond b (h.word ∷ kept_of id kept) (kept_of id kept)) →
        (b ≡ true → P h.word) × AllByRecursion (λ k. same_switch k.switch id ≡ true → P k.word) kept
    by true rest all = (λ same. all.0, rest all.1)
    by false rest all = (λ same. absurd (false≢true same), rest all)

some_kept : (id : SwitchId) (place : Place) (kept : List (Heard ToManager)) (rest : List ToManager) → kept_of id kept ≡ tell.Place place ∷ rest →
    list_any (λ h. tells_place id h.switch h.word) kept ≡ true
some_kept id place [] rest is = absurd (cc is)
some_kept id place (h ∷ kept) rest is = by (same_switch h.switch id) refl (λ later. some_kept id place kept rest later) is
  where
    told : (word : ToManager) (words : List ToManager) → word ∷ words ≡ tell.Place place ∷ rest → word ≡ tell.Place place
    told word words same = cc same

    by : (b : Bool) → same_switch h.switch id ≡ b → (kept_of id kept ≡ tell.Place place ∷ rest → list_any (λ k. tells_place id k.switch k.word) kept ≡ true) →
        cond b (h.word ∷ kept_of id kept) (kept_of id kept) ≡ tell.Place place ∷ rest →
        (tells_place id h.switch h.word || list_any (λ k. tells_place id k.switch k.word) kept) ≡ true
    by true same later first =
        or_left (tells_place id h.switch h.word) (list_any (λ k. tells_place id k.switch k.word) kept)
        (ap (tells_place id h.switch) (told h.word (kept_of id kept) first) ∙ same)
    by false other later first = or_right (tells_place id h.switch h.word) (list_any (λ k. tells_place id k.switch k.word) kept) (later first)

has_pod : (t : SwitchId) (n : ℕ) (switch : SwitchId) (word : ToManager) → (same_switch switch t ≡ true → IsPlaceWith n word) → HasPod t n switch word
has_pod t n switch (tell.Place place) is = is
has_pod t n switch tell.PodWanted is = tt
has_pod t n switch (tell.Link u usable) is = tt
has_pod t n switch (tell.Learned a b c) is = tt
has_pod t n switch (tell.Aged a b) is = tt
has_pod t n switch (tell.Begin m) is = tt
has_pod t n switch (tell.End m) is = tt
has_pod t n switch (tell.Trapped a b c) is = tt
has_pod t n switch (tell.Query a b c) is = tt
has_pod t n switch (tell.Members group any) is = tt

-- where no wish is due, none of these words waits
none_waits : (due : List ToManager) → how_many is_wish due ≡ 0 → AllByRecursion (λ word. waits_for_places word ≡ true → ⊥) due
none_waits [] none = tt
none_waits (word ∷ due) none =
    let both = how_many_first is_wish word due in
    (by word (omega (arith, both, none)), none_waits due (omega (arith, both, none)))
  where
    by : (word : ToManager) → one_if (is_wish word) ≡ 0 → waits_for_places word ≡ true → ⊥
    by tell.PodWanted one waits = omega (arith, one)
    by (tell.Place place) one waits = false≢true waits
    by (tell.Link u usable) one waits = false≢true waits
    by (tell.Learned a b c) one waits = false≢true waits
    by (tell.Aged a b) one waits = false≢true waits
    by (tell.Begin n) one waits = false≢true waits
    by (tell.End n) one waits = false≢true waits
    by (tell.Trapped a b c) one waits = false≢true waits
    by (tell.Query a b c) one waits = false≢true waits
    by (tell.Members group any) one waits = false≢true waits

-- each switch has ended once the last one does
all_ended : {K T : Type 0} (ids : List SwitchId) (g : Gathered K T) → IsOrderly ids g → (s : SwitchId) → has ids s ≡ true → is_whole g ≡ false →
    is_among s g.ended ≡ false →
    is_whole (with_ended s g) ≡ true → (t : SwitchId) → has ids t ≡ true → (same_switch s t || is_among t g.ended) ≡ true
all_ended {K} {T} ids g orderly s there part fresh last t known = elim (cases_Bool (same_switch s t || is_among t g.ended)) [
  | inl ended ↦ ended
  | inr missing ↦ absurd (some (everyone ids h h_orderly s there mark (λ u stranger. unmarked (has ids u) stranger) part
      (or_left (same_switch s s) (is_among s g.ended) (switch_itself s)) fresh last t missing))
]
  where
    h : Gathered K T
    h = record g { begun = s ∷ g.ended; kept = [] }

    h_orderly : IsOrderly ids h
    h_orderly = record {
      many = orderly.many;
      once = orderly.once;
      within = λ u is. elim (cases_Bool (same_switch s u)) [
        | inl same ↦ subst (λ x. has ids x ≡ true) (same_id s u (eqb-true s.0 u.0 same)) there
        | inr other ↦ orderly.within u (orderly.begun u (sym (ap (λ b. b || is_among u g.ended) other) ∙ is))
      ];
      begun = λ u is. or_right (same_switch s u) (is_among u g.ended) is;
      gathering = record { kept = λ u none. refl; none = λ whole. refl };
    }

    -- something stands at each switch of the wiring
    mark : SwitchId → List (Report T)
    mark u = cond (has ids u) (End 0 ∷ []) []

    unmarked : (b : Bool) → b ≡ false → ◌≡◌ {A = List (Report T)} (cond b (End 0 ∷ []) []) []
    unmarked true stranger = absurd (cc stranger)
    unmarked false stranger = refl

    some : mark t ≡ [] → ⊥
    some none = let one = sym (ap (λ b. cond b (End 0 ∷ []) []) known) ∙ none in absurd (cc one)

-- ---- numbers are below how many pods there are
module _ (f : ControlPlane) (is : IsPlan f.plan) (well : GathersWell f) (all : AreNumbered f) where
  pub none_given : is_whole (gathered f.manager) ≡ false → f.manager.pods ≡ []
  none_given part = ap (λ (v : ManagerView). v.pods) (well.anew part).knows_nothing

  none_told : is_whole (gathered f.manager) ≡ false → f.manager.told.places ≡ []
  none_told part = ap (λ (v : ManagerView). v.told.places) (well.anew part).knows_nothing

  pub pods_below : AllByRecursion (λ (g : PodGiven). g.pod < f.plan.k) f.manager.pods
  pods_below = elim (cases_Bool (is_whole (gathered f.manager))) [
    | inl whole ↦ all_weaker (IsGivenPod f.plan f.view) (λ (g : PodGiven). g.pod < f.plan.k) (λ g good. good.below) f.manager.pods (all.gives whole).given
    | inr part ↦ subst (AllByRecursion (λ (g : PodGiven). g.pod < f.plan.k)) (sym (none_given part)) tt
  ]

  given_below : (id : SwitchId) (n : ℕ) → pod_given f.manager.pods id ≡ Some n → n < f.plan.k
  given_below id n given = found_is (λ m. m < f.plan.k) f.manager.pods id n pods_below given

  -- so each number that waits can be told
  pub numbers_told : ArePodNumbers f
  numbers_told s = all_weaker (IsPodGiven f.manager.pods (id_of f.plan s)) IsPodNumber fits (f.orders s) (all.truly.said s)
    where
      fits : (says : ToSwitch) → IsPodGiven f.manager.pods (id_of f.plan s) says → IsPodNumber says
      fits (say.Pod n) given =
          let below = given_below (id_of f.plan s) n given in
          let small = is.arity.most in
          omega (arith, below, small)
      fits (say.Avoid list) given = tt
      fits (say.Tree group part) given = tt
      fits (say.Answer a b c d) given = tt
      fits (say.Flood a b c) given = tt
      fits (say.Invalidate a b c d) given = tt
      fits (say.Release a) given = tt
      fits (say.Hello epoch) given = tt

  -- ---- of a switch that is heard: one that knows its pod wishes for none
  module _ (s : ℕ) (id : SwitchId) (named : slice_get f.plan.ids s ≡ Some id) (loud : is_silent f.orders s ≡ false) where
    abbrev due : List ToManager
    due = (due_plane f).reports s

    no_wish : (n : ℕ) → own_pods f.view s ≡ Some n → how_many is_wish due ≡ 0
    no_wish n known =
        let way = all.ways s id named loud in
        let one = ap (λ (o : Option ℕ). one_if (is_some o)) known in
        let most = small (is_known (f.view s).place.position 0) in
        omega (arith, way, one, most)
      where
        small : (b : Bool) → one_if b ≤ 1
        small true = omega arith
        small false = omega arith

    wishes_unknown : AllByRecursion (λ word. waits_for_places word ≡ true → own_pods f.view s ≡ None) due
    wishes_unknown = by (own_pods f.view s) refl
      where
        each : own_pods f.view s ≡ None → (words : List ToManager) → AllByRecursion (λ word. waits_for_places word ≡ true → own_pods f.view s ≡ None) words
        each none [] = tt
        each none (word ∷ words) = (λ waits. none, each none words)

        by : (o : Option ℕ) → own_pods f.view s ≡ o → AllByRecursion (λ word. waits_for_places word ≡ true → own_pods f.view s ≡ None) due
        by None none = each none due
        by (Some n) known =
            all_weaker (λ word. waits_for_places word ≡ true → ⊥) (λ word. waits_for_places word ≡ true →
            own_pods f.view s ≡ None) (λ word never waits. absurd (never waits)) due
            (none_waits due (no_wish n known))

    fits_first : (word : ToManager) (rest : List ToManager) → due ≡ word ∷ rest → IsFitting f s id f.manager.pods word
    fits_first tell.PodWanted rest first =
        (subst (AllByRecursion (λ word. waits_for_places word ≡ true → own_pods f.view s ≡ None)) first wishes_unknown).0 refl
    fits_first (tell.Place place) rest first = λ n known. elim ((all.truly.due s id named).again n known) [
      | inl given ↦ inr given
      | inr places ↦ inl (subst (AllByRecursion (IsPlaceWith n)) first places).0
    ]
    fits_first (tell.Link u usable) rest first = tt
    fits_first (tell.Learned a b c) rest first = tt
    fits_first (tell.Aged a b) rest first = tt
    fits_first (tell.Begin n) rest first = tt
    fits_first (tell.End n) rest first = tt
    fits_first (tell.Trapped a b c) rest first = tt
    fits_first (tell.Query a b c) rest first = tt
    fits_first (tell.Members group any) rest first = tt

    -- what is due of it while a report is missing, once its own has begun
    due_begun : is_whole (gathered f.manager) ≡ false → is_among id f.manager.begun ≡ true → due ≡ kept_of id f.manager.kept ++ words_of (f.reports s)
    due_begun part begun =
        ap (λ o. due_of f.manager o (f.reports s)) named
        ∙ cond-false (is_whole (gathered f.manager)) (words_of (f.reports s))
        (cond (is_among id f.manager.begun) (kept_of id f.manager.kept ++ words_of (f.reports s))
        (words_behind_begin f.manager.epoch (read (f.reports s)))) part
        ∙ cond-true (is_among id f.manager.begun) (kept_of id f.manager.kept ++ words_of (f.reports s))
        (words_behind_begin f.manager.epoch (read (f.reports s))) begun

    kept_front : (P : ToManager → Type 0) → is_whole (gathered f.manager) ≡ false → is_among id f.manager.begun ≡ true → AllByRecursion P due →
        AllByRecursion P (kept_of id f.manager.kept)
    kept_front P part begun each = all_front P (kept_of id f.manager.kept) (words_of (f.reports s)) (subst (AllByRecursion P) (due_begun part begun) each)

-- ---- a step
module _ (f g : ControlPlane) (is : IsPlan f.plan) (well : GathersWell f) (placed : ArePlaced f.plan f) (apart : FixedAreApart f.plan f.view)
    (apart_then : FixedAreApart f.plan g.view) (all : AreNumbered f) (step : WholeStep Loose whole_rule f g) where
  -- what it keeps but for what is due
  record Rest : Type 0 where
    knowers : (s t n : ℕ) → own_pods g.view s ≡ Some n → own_pods g.view t ≡ Some n → s ≡ t
    below : (s n : ℕ) → own_pods g.view s ≡ Some n → n < g.plan.k
    gives : is_whole (gathered g.manager) ≡ true → GivesApart g.plan g.view g.manager.told g.manager.pods

  -- nothing that is known of pods changes
  same_rest : g.plan ≡ f.plan → ((t : ℕ) → g.view t ≡ f.view t) →
      (is_whole (gathered g.manager) ≡ true → GivesApart f.plan f.view g.manager.told g.manager.pods) → Rest
  same_rest plan view gives =
      let own : (t : ℕ) → own_pods g.view t ≡ own_pods f.view t = λ t. ap (λ (v : SwitchView). own_pod v.place) (view t) in
      record {
        knowers = λ s t n first second. all.knowers s t n (sym (own s) ∙ first) (sym (own t) ∙ second);
        below = λ s n known. subst (λ (p : Plan). n < p.k) (sym plan) (all.below s n (sym (own s) ∙ known));
        gives = λ whole. subst₂ (λ (p : Plan) v. GivesApart p v g.manager.told g.manager.pods) (sym plan) (sym (fun_ext view)) (gives whole);
      }

  -- ---- a switch acts
  module _ (a : SwitchActs f g) where
    abbrev s : ℕ
    s = a.switch

    plan_then : g.plan ≡ f.plan
    plan_then = a.turns.acted.plan ∙ a.plan

    manager_then : g.manager ≡ f.manager
    manager_then = a.turns.acted.manager ∙ a.manager

    later : (t : ℕ) → IsTrueOf (f.view t).place (g.view t).place
    later t = elim (cases_eq t s) [
      | inl here ↦ subst (λ x. IsTrueOf (f.view x).place (g.view x).place) (sym here) a.later
      | inr other ↦ subst (λ (v : SwitchView). IsTrueOf (f.view t).place v.place) (sym (a.turns.acted.others t other ∙ a.view t))
          (true_of_itself (f.view t).place)
    ]

    -- a number that is known then was known, or was given
    own_then : (t n : ℕ) → own_pods g.view t ≡ Some n → (own_pods f.view t ≡ Some n) ⊎ (pod_given f.manager.pods (id_of f.plan t) ≡ Some n)
    own_then t n known = elim (cases_eq t s) [
      | inr other ↦ inl (ap (λ (v : SwitchView). own_pod v.place) (sym (a.turns.acted.others t other ∙ a.view t)) ∙ known)
      | inl here ↦
          subst (λ x. (own_pods f.view x ≡ Some n) ⊎ (pod_given f.manager.pods (id_of f.plan x) ≡ Some n)) (sym here)
          (own (ap (own_pods g.view) (sym here) ∙ known))
    ]
      where
        same_order : (x y : ToSwitch) → ◌≡◌ {A = SwitchInput} (Says x) (Says y) → x ≡ y
        same_order x y same = cc same

        given : (m : ℕ) → a.input ≡ Says (say.Pod m) → TakesOrder f a.mid s a.input → pod_given f.manager.pods (id_of f.plan s) ≡ Some m
        given m told (NoOrder same none) = absurd (none (say.Pod m) told)
        given m told (AnOrder says also first) =
            (subst (AllByRecursion (IsPodGiven f.manager.pods (id_of f.plan s))) (first
            ∙ ap (λ x. x ∷ a.mid.orders s) (same_order says (say.Pod m) (sym also ∙ told))) (all.truly.said s)).0

        own : own_pods g.view s ≡ Some n → (own_pods f.view s ≡ Some n) ⊎ (pod_given f.manager.pods (id_of f.plan s) ≡ Some n)
        own known = elim a.own [
          | inl same ↦ inl (sym same ∙ known)
          | inr took ↦ inr (given took.0 took.4 a.takes ∙ sym took.3 ∙ known)
        ]

    named_then : (t n : ℕ) → own_pods g.view t ≡ Some n → slice_get f.plan.ids t ≡ Some (id_of f.plan t)
    named_then t n known = elim (cases_eq t s) [
      | inr other ↦ knower_named f is placed apart t n (ap (λ (v : SwitchView). own_pod v.place) (sym (a.turns.acted.others t other ∙ a.view t)) ∙ known)
      | inl here ↦
          let there : s < switch_count f.plan.k = subst (λ (p : Plan). s < switch_count p.k) a.plan a.turns.there in
          let many = is.ids_many in
          slice_get-get_or f.plan.ids t (record { 0 = 0 }) (omega (arith, here, there, many))
    ]

    ids_then : (x y m n : ℕ) → own_pods g.view x ≡ Some m → own_pods g.view y ≡ Some n → (id_of f.plan x).0 ≡ (id_of f.plan y).0 → x ≡ y
    ids_then x y m n first second same =
        ids_apart f.plan is x y (id_of f.plan x) (named_then x m first)
        (named_then y n second ∙ ap Some (sym (same_id (id_of f.plan x) (id_of f.plan y) same)))

    apart_now : is_whole (gathered f.manager) ≡ true → NumbersApart (id_of f.plan) (own_pods g.view) f.manager.told f.manager.pods
    apart_now whole = taken_apart (id_of f.plan) (own_pods f.view) f.manager.told f.manager.pods (all.gives whole).apart (own_pods g.view) own_then ids_then

    gives_then : is_whole (gathered f.manager) ≡ true → GivesApart f.plan g.view f.manager.told f.manager.pods
    gives_then whole =
        let before = all.gives whole in
        record {
          apart = apart_now whole;
          once = before.once;
          given = all_weaker (IsGivenPod f.plan f.view) (IsGivenPod f.plan g.view)
              (λ given good. record { switch = good.switch; named = good.named; position = (later good.switch).position 0 good.position; below = good.below })
              f.manager.pods before.given;
          places = all_weaker (IsToldPlace f.plan f.view) (IsToldPlace f.plan g.view)
              (λ told good. record { switch = good.switch; named = good.named; pod = λ n has. (later good.switch).pod n (good.pod n has) })
              f.manager.told.places before.places;
        }

    acts_rest : Rest
    acts_rest = record {
      knowers = λ x y n first second. elim (cases_Bool (is_whole (gathered f.manager))) [
        | inl whole ↦ (apart_now whole).knowers x y n first second
        | inr part ↦ all.knowers x y n (kept_known part x n first) (kept_known part y n second)
      ];
      below = λ t n known. subst (λ (p : Plan). n < p.k) (sym plan_then) (elim (own_then t n known) [
        | inl before ↦ all.below t n before
        | inr given ↦ given_below f is well all (id_of f.plan t) n given
      ]);
      gives = λ whole.
          subst₂ (λ (p : Plan) (v : ManagerView). GivesApart p g.view v.told v.pods) (sym plan_then) (sym manager_then)
          (gives_then (ap (λ (v : ManagerView). is_whole (gathered v)) (sym manager_then) ∙ whole));
    }
      where
        kept_known : is_whole (gathered f.manager) ≡ false → (t n : ℕ) → own_pods g.view t ≡ Some n → own_pods f.view t ≡ Some n
        kept_known part t n known = elim (own_then t n known) [
          | inl before ↦ before
          | inr given ↦ absurd (none-some n (sym (ap (λ gs. pod_given gs (id_of f.plan t)) (none_given f is well all part)) ∙ given))
        ]

  -- ---- the manager acts
  module _ (m : ControlPlane) (s : ℕ) (id : SwitchId) (told : ToManager) (named : slice_get f.plan.ids s ≡ Some id) (taken : IsReportTaken f s told m)
      (turns : ManagerTurns whole_rule m id told g) (whole : is_whole (gathered g.manager) ≡ true) where
    -- it is whole then, so each switch was greeted
    loud : (t : ℕ) (other : SwitchId) → slice_get f.plan.ids t ≡ Some other → is_silent f.orders t ≡ false
    loud t other there =
        let then_well = step_gathers f g is well step.0 step.1 in
        let silence = then_well.loud whole t other (ap (λ (p : Plan). slice_get p.ids t) (turns.plan ∙ taken.left.plan) ∙ there) in
        let more = ordered m.plan t turns.acts in
        (or_parts (is_silent f.orders t) (list_any is_hello more)
        (sym (ap (list_any is_hello) (turns.orders t ∙ ap (λ os. os ++ more) (taken.orders t)) ∙ any_append is_hello (f.orders t) more) ∙ silence)).0

    -- one word is heard
    one_heard : as_report told ≡ Tells told → is_whole (gathered f.manager) ≡ true →
        GivesApart f.plan f.view (treats_word (at_rest f.manager) id told).known.view.told (treats_word (at_rest f.manager) id told).known.view.pods
    one_heard word before =
        let first : (due_plane f).reports s ≡ told ∷ words_of (m.reports s) =
        whole_due f before s id named ∙ ap words_of taken.first ∙ ap (λ (r : Report ToManager). words (r ∷ read (m.reports s))) word in
        word_gives f is placed apart (at_rest f.manager) s id named told
        (subst (AllByRecursion (IsWordOf (f.view s).place)) first (all.truly.due s id named).words).0
        (fits_first f is well all s id named (loud s id named) told (words_of (m.reports s)) first) (all.gives before)

    -- the last report ends
    module _ (n : ℕ) (ends : told ≡ tell.End n) (part : is_whole (gathered f.manager) ≡ false) (begun_id : is_among id f.manager.begun ≡ true)
        (fresh : is_among id f.manager.ended ≡ false) (last : is_whole (with_ended id (gathered f.manager)) ≡ true) where
      ended_each : (other : SwitchId) → has f.plan.ids other ≡ true → (same_switch id other || is_among other f.manager.ended) ≡ true
      ended_each other known = all_ended f.plan.ids (gathered f.manager) well.orderly id (named_there f.plan.ids s id named) part fresh last other known

      begun_each : (other : SwitchId) → has f.plan.ids other ≡ true → is_among other f.manager.begun ≡ true
      begun_each other known = elim (or_cases (same_switch id other) (is_among other f.manager.ended) (ended_each other known)) [
        | inl same ↦ subst (λ x. is_among x f.manager.begun ≡ true) (same_id id other (eqb-true id.0 other.0 same)) begun_id
        | inr ended ↦ well.orderly.begun other ended
      ]

      kept_facts : (other : SwitchId) → AllByRecursion (IsKeptWord f other) (kept_of other f.manager.kept)
      kept_facts other = elim (cases_Bool (is_among other f.manager.begun)) [
        | inr unheard ↦ subst (AllByRecursion (IsKeptWord f other)) (sym (well.orderly.gathering.kept other unheard)) tt
        | inl begun ↦
            let it = there_named f.plan.ids other (well.orderly.within other begun) in
            let heard = loud it.0 other it.1 in
            both it.0 it.1 (kept_of other f.manager.kept)
            (kept_front f is well all it.0 other it.1 heard (IsWordOf (f.view it.0).place) part begun (all.truly.due it.0 other it.1).words)
            (kept_front f is well all it.0 other it.1 heard (λ word. waits_for_places word ≡ true → own_pods f.view it.0 ≡ None) part begun
            (wishes_unknown f is well all it.0 other it.1 heard))
      ]
        where
          both : (t : ℕ) → slice_get f.plan.ids t ≡ Some other → (ws : List ToManager) → AllByRecursion (IsWordOf (f.view t).place) ws →
              AllByRecursion (λ word. waits_for_places word ≡ true → own_pods f.view t ≡ None) ws → AllByRecursion (IsKeptWord f other) ws
          both t at [] own unknown = tt
          both t at (word ∷ ws) own unknown = (record { switch = t; named = at; own = own.0; unknown = unknown.0 }, both t at ws own.1 unknown.1)

      zero_told : (t k : ℕ) → own_pods f.view t ≡ Some k →
          AllByRecursion (λ h. HasPod (id_of f.plan t) k h.switch h.word) f.manager.kept ×
          (list_any (λ h. tells_place (id_of f.plan t) h.switch h.word) f.manager.kept ≡ true)
      zero_told t k knows =
          let other : SwitchId = id_of f.plan t in
          let at = knower_named f is placed apart t k knows in
          let heard = loud t other at in
          let known = named_there f.plan.ids t other at in
          let begun = begun_each other known in
          let places : AllByRecursion (IsPlaceWith k) ((due_plane f).reports t) = elim ((all.truly.due t other at).again k knows) [
            | inl given ↦ absurd (none-some k (sym (ap (λ gs. pod_given gs other) (none_given f is well all part)) ∙ given))
            | inr places ↦ places
          ] in (
            all_weaker (λ h. same_switch h.switch other ≡ true →
                IsPlaceWith k h.word) (λ h. HasPod other k h.switch h.word) (λ h has. has_pod other k h.switch h.word has) f.manager.kept
                (kept_own (IsPlaceWith k) other f.manager.kept (kept_front f is well all t other at heard (IsPlaceWith k) part begun places)),
            by at begun known (all.first part t other at heard),
          )
        where
          by : slice_get f.plan.ids t ≡ Some (id_of f.plan t) → is_among (id_of f.plan t) f.manager.begun ≡ true → has f.plan.ids (id_of f.plan t) ≡ true →
              PlaceComesFirst f.manager.epoch (is_among (id_of f.plan t) f.manager.begun) (is_among (id_of f.plan t) f.manager.ended)
              (kept_of (id_of f.plan t) f.manager.kept) (f.reports t) →
              list_any (λ h. tells_place (id_of f.plan t) h.switch h.word) f.manager.kept ≡ true
          by at begun known (WasKept place rest was) = some_kept (id_of f.plan t) place f.manager.kept rest was
          by at begun known (IsBehind place old rest unheard none queue) = absurd (false≢true (sym unheard ∙ begun))
          by at begun known (IsNext place rest heard missing none queue) =
              elim (or_cases (same_switch id (id_of f.plan t)) (is_among (id_of f.plan t) f.manager.ended) (ended_each (id_of f.plan t) known)) [
                | inr ended ↦ absurd (false≢true (sym missing ∙ ended))
                | inl same ↦
                    let one : t ≡ s = ids_apart f.plan is t s id
                    (at ∙ ap Some (sym (same_id id (id_of f.plan t) (eqb-true id.0 (id_of f.plan t).0 same)))) named in
                    let front : tell.End n ∷ m.reports s ≡ tell.Place place ∷ rest = ap (λ x. x ∷ m.reports s) (sym ends) ∙ sym taken.first
                    ∙ ap f.reports (sym one) ∙ queue in
                    absurd (cc front)
              ]

      all_heard : GivesApart f.plan f.view (fold treat (at_rest f.manager) (in_turn waits_for_places f.manager.kept)).view.told
          (fold treat (at_rest f.manager) (in_turn waits_for_places f.manager.kept)).view.pods
      all_heard = all_give f is placed apart f.manager.kept (at_rest f.manager) (none_given f is well all part) (none_told f is well all part)
          (kept_each (IsKeptWord f) f.manager.kept kept_facts) all.knowers zero_told

    treated : Treats f.manager g.manager id told → GivesApart f.plan f.view g.manager.told g.manager.pods
    treated (Keeps same_told same_pods before) = subst₂ (GivesApart f.plan f.view) (sym same_told) (sym same_pods) (all.gives (before whole))
    treated (Hears word before so_told so_pods) = subst₂ (GivesApart f.plan f.view) (sym so_told) (sym so_pods) (one_heard word before)
    treated (GoesThrough n ends part begun fresh last so_told so_pods) =
        subst₂ (GivesApart f.plan f.view) (sym so_told) (sym so_pods) (all_heard n ends part begun fresh last)

    manager_gives : GivesApart f.plan f.view g.manager.told g.manager.pods
    manager_gives =
        let is_after : g.manager ≡ (manager_steps f.manager id told).view = turns.manager ∙ turns.ruled.0
        ∙ ap (λ v. (manager_steps v id told).view) taken.left.manager in
        treated (subst (λ (v : ManagerView). Treats f.manager v id told) (sym is_after) (treats_as f.manager id told))

  record Both : Type 0 where
    rest : Rest
    first : PlacesComeFirst g

  both : Acted whole_rule f g → Both
  both (Nobody left same) = record {
    rest = same_rest left.plan left.view (λ whole. subst (λ (v : ManagerView). GivesApart f.plan f.view v.told v.pods) (sym left.manager)
        (all.gives (ap (λ (v : ManagerView). is_whole (gathered v)) (sym left.manager) ∙ whole)));
    first = left_first f g left same all.first;
  }
  both (Switch a) = record { rest = acts_rest a; first = acts_first f g is well all.first a }
  both (Manager s id told m named taken turns) = record {
    rest = same_rest (turns.plan ∙ taken.left.plan) (λ t. turns.view t ∙ taken.left.view t) (λ whole. manager_gives m s id told named taken turns whole);
    first = manager_first f m g is well s id told named taken turns all.first;
  }

  pub numbered_kept : AreNumbered g
  numbered_kept =
      let numbers = numbers_told f is well all in
      let it = both (step_acted whole_rule f g is placed apart apart_then numbers step.0 step.1) in
      record {
        ways = ways_kept f g is well placed apart apart_then numbers all.ways step;
        truly = truly_kept f g is well placed apart apart_then numbers all.truly step;
        knowers = it.rest.knowers;
        below = it.rest.below;
        gives = it.rest.gives;
        first = it.first;
      }

-- in a step, and where the manager begins anew
pub numbered_on : (f g : ControlPlane) → IsPlan f.plan → IsSized f → GathersWell f → ArePlaced f.plan f → FixedAreApart f.plan f.view → FixedAreApart f.plan g.view → AreNumbered f →
    OnPlane Loose whole_rule f g → AreNumbered g
numbered_on f g is size well placed apart apart_then all (Steps step) = numbered_kept f g is well placed apart apart_then all step
numbered_on f g is size well placed apart apart_then all (BeginsAnew anew) = numbered_anew f g is all (restarts_here f g size anew)
