-- Words that were kept are treated one after the other, and addresses are released one after the other.
use Rattle.std.proofs.Common.{◌≡◌, ◌<◌, ◌||◌, ℕ, zero, suc, ◌+◌, not, Bool, true, false, cond, List, [], ◌∷◌, ◌++◌, fold, length, map, take, get_or, filter, filter_map, refl, sym, ap, subst, ◌∙◌, inl, inr, arith, append-nil, append_assoc, Result, Ok, Err, OnOk}
use Rattle.std.specs.List.{cons_option}
use Rattle.std.proofs.lemmas.List.{take_more}
use Rattle.std.proofs.lemmas.List.Elements.{filter_map-append}
use Rattle.pl_frame.specs.declared.address.SwitchId.{SwitchId}
use Rattle.pl_pmac.specs.declared.pmac.Pmac.{Pmac}
use Rattle.pl_layouts.specs.Equality.{same_switch}
use Rattle.pl_gathering.specs.Acting.{Done, then_treats, treats_all}
use Rattle.pl_gathering.specs.Gathering.{Heard, in_turn}
use Rattle.pl_gatherer.specs.Gatherers.{heard_of}
use Rattle.pl_gatherer.specs.declared.kept.Kept.{Kept}
use Rattle.pl_node.specs.declared.acts.ManagerAct.{ManagerAct}
use Rattle.pl_node.specs.declared.messages.ToManager.{ToManager}
use Rattle.pl_node.specs.Gains.{Gains}
use Rattle.pl_node.specs.ManagerViews.{Learnt, ManagerView, is_heard, restarted_manager}
use Rattle.pl_node.proofs.Exports.{among_mapped, IsAmong}
use Rattle.pl_manager_rule.specs.ManagerRule.{ManagerStep}
use Rattle.pl_manager_rule.specs.Reports.{leads_known, releases_known}
use Rattle.pl_manager_rule.specs.Treating.{Treating, at_rest, follows, then_releases, treats, waits_for_places}
use Rattle.pl_manager.specs.Manager.{CanTreat, IsTreatedAs, done_so_far, is_turn, put, treated_of}
use Rattle.pl_manager.specs.declared.known.Known.{Known}
use Rattle.pl_manager.proofs.Pods.{can_less, can_then, treated_ones}

pub fold_both : {X A : Type 0} (step : A → X → A) (xs ys : List X) (a : A) → fold step a (xs ++ ys) ≡ fold step (fold step a xs) ys
fold_both step [] ys a = refl
fold_both step (x ∷ xs) ys a = fold_both step xs ys (step a x)

-- one more of what was kept
pub treated_more : (wishes : Bool) (kept : List Kept) (k : Kept) (done : Done Treating ManagerAct) →
    treated_of wishes (kept ++ k ∷ []) done ≡ cond (is_turn wishes k.word) (then_treats treats (treated_of wishes kept done) (heard_of k)) (treated_of wishes kept done)
treated_more wishes [] k done = by (is_turn wishes k.word)
  where
    by : (b : Bool) → fold (then_treats treats) done (cond b (heard_of k ∷ []) []) ≡ cond b (then_treats treats done (heard_of k)) done
    by true = refl
    by false = refl
treated_more wishes (x ∷ kept) k done =
    by (treated_more wishes kept k (then_treats treats done (heard_of x))) (treated_more wishes kept k done) (is_turn wishes x.word)
  where
    rest : List Kept → List (Heard ToManager)
    rest ks = filter (λ h. is_turn wishes h.word) (map heard_of ks)

    by : treated_of wishes (kept ++ k ∷ []) (then_treats treats done (heard_of x))
        ≡ cond (is_turn wishes k.word) (then_treats treats (treated_of wishes kept (then_treats treats done (heard_of x))) (heard_of k))
        (treated_of wishes kept (then_treats treats done (heard_of x))) →
        treated_of wishes (kept ++ k ∷ []) done ≡ cond (is_turn wishes k.word) (then_treats treats (treated_of wishes kept done) (heard_of k)) (treated_of wishes kept done) →
        (b : Bool) → fold (then_treats treats) done (cond b (heard_of x ∷ rest (kept ++ k ∷ [])) (rest (kept ++ k ∷ [])))
        ≡ cond (is_turn wishes k.word) (then_treats treats (fold (then_treats treats) done (cond b (heard_of x ∷ rest kept) (rest kept))) (heard_of k))
        (fold (then_treats treats) done (cond b (heard_of x ∷ rest kept) (rest kept)))
    by turn other true = turn
    by turn other false = other

-- first all else, and then the wishes
pub both_turns : (kept : List Kept) (done : Done Treating ManagerAct) →
    treated_of true kept (treated_of false kept done) ≡ fold (then_treats treats) done (in_turn waits_for_places (map heard_of kept))
both_turns kept done =
    sym (fold_both (then_treats treats) (filter (λ h. not (waits_for_places h.word)) (map heard_of kept)) (filter (λ h. waits_for_places h.word) (map heard_of kept)) done)

-- what is released goes behind what was done
pub released_behind : (xs : List Pmac) (step : ManagerStep) (out : List ManagerAct) →
    fold then_releases (record { view = step.view; acts = out ++ step.acts }) xs
    ≡ record { view = (fold then_releases step xs).view; acts = out ++ (fold then_releases step xs).acts }
released_behind [] step out = refl
released_behind (x ∷ xs) step out =
    ap (λ (acts : List ManagerAct). fold then_releases (record { view = (then_releases step x).view; acts = acts }) xs) (append_assoc out step.acts _)
    ∙ released_behind xs (then_releases step x) out

-- ---- by what the code answers
module _ (known after : Known) (epoch : ℕ) (k : Kept) (wishes : Bool) (aged aged_after : List Pmac) (out out_after : List ManagerAct) where
  abbrev Treated : Type 0
  Treated = (v : ManagerView) → v.epoch ≡ epoch → IsTreatedAs (put known v) aged out k.switch k.word (put after v) aged_after out_after

  abbrev Turned : Type 0
  Turned = (v : ManagerView) → v.epoch ≡ epoch →
      cond (is_turn wishes k.word) (then_treats treats (done_so_far (put known v) aged out) (heard_of k)) (done_so_far (put known v) aged out)
      ≡ done_so_far (put after v) aged_after out_after

  abbrev Speaks : Type 0
  Speaks = (t : SwitchId) → is_heard (put after (restarted_manager after.k 0)) t ≡ true → (same_switch k.switch t || is_heard (put known (restarted_manager known.k 0)) t) ≡ true

  pub turn_treated : {T E : Type 0} (result : Result T E) → is_turn wishes k.word ≡ true → OnOk result Treated → OnOk result Turned
  turn_treated (Ok x) turns treated = λ v first.
      ap (λ b. cond b (then_treats treats (done_so_far (put known v) aged out) (heard_of k)) (done_so_far (put known v) aged out)) turns ∙ treated v first
  turn_treated (Err e) turns treated = tt

  pub turn_speaks : {T E : Type 0} (result : Result T E) → after.k ≡ known.k → OnOk result Treated → OnOk result Speaks
  turn_speaks (Ok x) same treated = treated_ones known after epoch k.switch k.word aged aged_after out out_after same treated
  turn_speaks (Err e) same treated = tt

-- it is not its turn
pub passed_turn : (known : Known) (k : Kept) (wishes : Bool) (aged : List Pmac) (out : List ManagerAct) → is_turn wishes k.word ≡ false → (v : ManagerView) →
    cond (is_turn wishes k.word) (then_treats treats (done_so_far (put known v) aged out) (heard_of k)) (done_so_far (put known v) aged out)
    ≡ done_so_far (put known v) aged out
passed_turn known k wishes aged out other v =
    ap (λ b. cond b (then_treats treats (done_so_far (put known v) aged out) (heard_of k)) (done_so_far (put known v) aged out)) other

among_got : {X : Type 0} (xs : List X) (i : ℕ) (d : X) → i < length xs → IsAmong (get_or xs i d) xs
among_got [] i d within = absurd (omega (arith, within))
among_got (x ∷ xs) zero d within = inl refl
among_got (x ∷ xs) (suc i) d within = inr (among_got xs i d (omega (arith, within)))

-- ---- the loop over what was kept
module _ (start known after : Known) (epoch : ℕ) (kept : List Kept) (i : ℕ) (d : Kept) (wishes : Bool) (first_aged aged aged_after : List Pmac)
    (first_out out out_after : List ManagerAct) (within : i < length kept) where
  abbrev one : Kept
  one = get_or kept i d

  abbrev So : Known → ℕ → List Pmac → List ManagerAct → Type 0
  So now n those done = (v : ManagerView) → v.epoch ≡ epoch →
      treated_of wishes (take n kept) (done_so_far (put start v) first_aged first_out) ≡ done_so_far (put now v) those done

  pub one_more_turn : So known i aged out → Turned known after epoch one wishes aged aged_after out out_after → So after (i + 1) aged_after out_after
  one_more_turn so turned v first =
      let from = done_so_far (put start v) first_aged first_out in
      ap (λ (ks : List Kept). treated_of wishes ks from) (take_more kept i d within) ∙ treated_more wishes (take i kept) one from
      ∙ ap (λ (done : Done Treating ManagerAct). cond (is_turn wishes one.word) (then_treats treats done (heard_of one)) done) (so v first)
      ∙ turned v first

  there : IsAmong one.switch (map (λ h. h.switch) (map heard_of kept))
  there = among_mapped (λ (h : Heard ToManager). h.switch) (heard_of one) (map heard_of kept) (among_mapped heard_of one kept (among_got kept i d within))

  pub can_turn : CanTreat known (map heard_of kept) → CanTreat known (heard_of one ∷ [])
  can_turn can = can_less known (map heard_of kept) (heard_of one ∷ []) can (λ t h. elim h [
    | inl is ↦ subst (λ u. IsAmong u (map (λ h. h.switch) (map heard_of kept))) is there
    | inr none ↦ absurd none
  ])

  pub can_still : after.k ≡ known.k → CanTreat known (map heard_of kept) → Speaks known after epoch one wishes aged aged_after out out_after →
      CanTreat after (map heard_of kept)
  can_still same can speak = can_then known after (map heard_of kept) one.switch same can there speak

-- ---- all of it: what was treated, and then what follows
-- that acts were done before does not matter
treats_behind : (heard : List (Heard ToManager)) (done : Done Treating ManagerAct) (out : List ManagerAct) →
    fold (then_treats treats) (record { known = done.known; acts = out ++ done.acts }) heard
    ≡ record { known = (fold (then_treats treats) done heard).known; acts = out ++ (fold (then_treats treats) done heard).acts }
treats_behind [] done out = refl
treats_behind (h ∷ heard) done out =
    ap (λ (acts : List ManagerAct). let next : Done Treating ManagerAct = record { known = (treats done.known h).known; acts = acts } in fold (then_treats treats) next heard)
    (append_assoc out done.acts (treats done.known h).acts)
    ∙ treats_behind heard (then_treats treats done h) out

-- what has aged, and that to which its traps led
abbrev with_led : ManagerView → List Pmac → List Pmac
with_led view aged = aged ++ filter_map (leads_known view.learnt) aged

-- what is treated and then released is a hearing of all
pub heard_all : (heard : List (Heard ToManager)) (before mid after : ManagerView) (aged : List Pmac) (out mid_out out_after : List ManagerAct) →
    fold (then_treats treats) (done_so_far before [] out) heard ≡ done_so_far mid aged mid_out →
    fold then_releases (record { view = mid; acts = mid_out }) (with_led mid aged) ≡ record { view = after; acts = out_after } →
    Gains out out_after (λ acts. treats_all treats follows (at_rest before) heard ≡ record { known = at_rest after; acts = acts })
heard_all heard before mid after aged out mid_out out_after treated released =
    let first : Done Treating ManagerAct = record { known = at_rest before; acts = [] } in
    let done = fold (then_treats treats) first heard in
    let from = ap (λ (acts : List ManagerAct). fold (then_treats treats) (record { known = at_rest before; acts = acts }) heard) (sym (append-nil out)) ∙ treats_behind heard first out in
    let same : record { known = done.known; acts = out ++ done.acts } ≡ done_so_far mid aged mid_out = sym from ∙ treated in
    let known : done.known ≡ record { view = mid; aged = aged } = ap (λ (d : Done Treating ManagerAct). d.known) same in
    let acts : out ++ done.acts ≡ mid_out = ap (λ (d : Done Treating ManagerAct). d.acts) same in
    let last = fold then_releases (record { view = mid; acts = [] }) (with_led mid aged) in
    let behind = ap (λ (before_it : List ManagerAct). fold then_releases (record { view = mid; acts = before_it }) (with_led mid aged)) (sym (append-nil mid_out))
    ∙ released_behind (with_led mid aged) (record { view = mid; acts = [] }) mid_out in
    let then : record { view = last.view; acts = mid_out ++ last.acts } ≡ record { view = after; acts = out_after } = sym behind ∙ released in
    record {
      items = done.acts ++ last.acts;
      gained = sym (ap (λ (step : ManagerStep). step.acts) then) ∙ ap (λ (those : List ManagerAct). those ++ last.acts) (sym acts) ∙ append_assoc out done.acts last.acts;
      holds = (λ i. let t : Treating = known i in record { known = (follows t).known; acts = done.acts ++ (follows t).acts })
          ∙ ap (λ (view : ManagerView). record { known = at_rest view; acts = done.acts ++ last.acts }) (ap (λ (step : ManagerStep). step.view) then);
    }

pub heard_ok : {T E : Type 0} (result : Result T E) (known mid after : Known) (epoch : ℕ) (heard : List (Heard ToManager)) (none aged : List Pmac) (out mid_out out_after : List ManagerAct) →
    none ≡ [] →
    ((v : ManagerView) → v.epoch ≡ epoch → fold (then_treats treats) (done_so_far (put known v) none out) heard ≡ done_so_far (put mid v) aged mid_out) →
    OnOk result ((v : ManagerView) → fold then_releases (record { view = put mid v; acts = mid_out }) (aged ++ filter_map (leads_known mid.registry) aged) ≡ record { view = put after v; acts = out_after }) →
    OnOk result ((v : ManagerView) → v.epoch ≡ epoch → Gains out out_after (λ acts.
    treats_all treats follows (at_rest (put known v)) heard ≡ record { known = at_rest (put after v); acts = acts }))
heard_ok (Ok x) known mid after epoch heard none aged out mid_out out_after empty treated released = λ v first.
    heard_all heard (put known v) (put mid v) (put after v) aged out mid_out out_after
    (ap (λ (those : List Pmac). fold (then_treats treats) (done_so_far (put known v) those out) heard) (sym empty) ∙ treated v first) (released v)
heard_ok (Err e) known mid after epoch heard none aged out mid_out out_after empty treated released = tt

-- ---- first what has aged, and then that to which its traps led
pub released_both : {T E : Type 0} (result : Result T E) (start mid after : Known) (aged led : List Pmac) (out mid_out out_after : List ManagerAct) →
    led ≡ filter_map (leads_known start.registry) aged →
    ((v : ManagerView) → fold then_releases (record { view = put start v; acts = out }) aged ≡ record { view = put mid v; acts = mid_out }) →
    OnOk result ((v : ManagerView) → fold then_releases (record { view = put mid v; acts = mid_out }) led ≡ record { view = put after v; acts = out_after }) →
    OnOk result ((v : ManagerView) → fold then_releases (record { view = put start v; acts = out }) (aged ++ filter_map (leads_known start.registry) aged)
    ≡ record { view = put after v; acts = out_after })
released_both (Ok x) start mid after aged led out mid_out out_after is first then = λ v.
    let from : ManagerStep = record { view = put start v; acts = out } in
    fold_both then_releases aged (filter_map (leads_known start.registry) aged) from
    ∙ ap (λ (step : ManagerStep). fold then_releases step (filter_map (leads_known start.registry) aged)) (first v)
    ∙ ap (λ (those : List Pmac). fold then_releases (record { view = put mid v; acts = mid_out }) those) (sym is) ∙ then v
released_both (Err e) start mid after aged led out mid_out out_after is first then = tt

-- one more of those that led on
pub led_next : (learnt : Learnt) (aged : List Pmac) (i : ℕ) (d : Pmac) (led led_after : List Pmac) → i < length aged →
    led ≡ filter_map (leads_known learnt) (take i aged) → led_after ≡ led ++ cons_option (leads_known learnt (get_or aged i d)) [] →
    led_after ≡ filter_map (leads_known learnt) (take (i + 1) aged)
led_next learnt aged i d led led_after within so more =
    let f = leads_known learnt in
    more ∙ ap (λ (those : List Pmac). those ++ cons_option (f (get_or aged i d)) []) so
    ∙ sym (ap (filter_map f) (take_more aged i d within) ∙ filter_map-append f (take i aged) (get_or aged i d ∷ []))

-- ---- the loop over what is to be released
pub release_next : (start known : Known) (aged : List Pmac) (i : ℕ) (d : Pmac) (first_out out out_after acts : List ManagerAct) (learnt : Learnt) → i < length aged →
    ((v : ManagerView) → fold then_releases (record { view = put start v; acts = first_out }) (take i aged) ≡ record { view = put known v; acts = out }) →
    learnt ≡ (releases_known (get_or aged i d) known.registry).learnt → acts ≡ (releases_known (get_or aged i d) known.registry).acts → out_after ≡ out ++ acts →
    (v : ManagerView) → fold then_releases (record { view = put start v; acts = first_out }) (take (i + 1) aged)
    ≡ record { view = put (record known { registry = learnt }) v; acts = out_after }
release_next start known aged i d first_out out out_after acts learnt within so is says gained v =
    let x : Pmac = get_or aged i d in
    let from : ManagerStep = record { view = put start v; acts = first_out } in
    let says_so : out ++ (releases_known x known.registry).acts ≡ out_after = ap (λ (those : List ManagerAct). out ++ those) (sym says) ∙ sym gained in
    ap (λ (xs : List Pmac). fold then_releases from xs) (take_more aged i d within) ∙ fold_both then_releases (take i aged) (x ∷ []) from
    ∙ ap (λ (step : ManagerStep). then_releases step x) (so v)
    ∙ (λ j. let step : ManagerStep = record { view = record (put known v) { learnt = sym is j }; acts = says_so j } in step)
