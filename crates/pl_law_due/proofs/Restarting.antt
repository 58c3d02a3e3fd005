-- The manager begins anew: all reports are missing, and nothing is due. And where nothing waits no report is missing.
use mathlib.Core.Path.{fun_ext}
use Rattle.std.proofs.Common.{◌≡◌, ◌≤◌, ◌<◌, ℕ, zero, suc, ◌+◌, ◌*◌, ◌/◌, ◌==◌, nat_le, Bool, true, false, cond, List, [], ◌∷◌, ◌++◌, Option, Some, None, slice_get, refl, sym, ap, subst, ◌∙◌, inl, inr, arith, ne_eqb}
use Rattle.std.specs.List.{AllByRecursion, IsDistinct, list_any}
use Rattle.std.proofs.Math.Nat.{le-mul_of_pos_right}
use Rattle.std.proofs.lemmas.Bool.{cases_Bool, false≢true, leb-true, or_cases}
use Rattle.std.proofs.lemmas.Option.{slice_get_within}
use Rattle.pl_frame.specs.declared.address.SwitchId.{SwitchId}
use Rattle.pl_layouts.specs.Equality.{same_switch}
use Rattle.pl_wiring.specs.Plan.{IsPlan, Plan}
use Rattle.pl_gathering.specs.Gathering.{Gathered, is_among, is_whole, kept_of, words_behind_begin}
use Rattle.pl_gathering.specs.Orderly.{will_end}
use Rattle.pl_gathering.proofs.Exports.{orderly_anew, whole_at_rest}
use Rattle.pl_node.specs.ManagerFacts as facts
use Rattle.pl_node.specs.declared.messages.ToManager.{ToManager}
use Rattle.pl_node.specs.declared.messages.ToManager.TheVariants as tell
use Rattle.pl_node.specs.ManagerViews.{ManagerView, restarted_manager}
use Rattle.pl_manager_rule.specs.Treating.{Treating}
use Rattle.pl_manager_rule.specs.WholeRule.{gathered}
use Rattle.pl_world.proofs.Exports.{switches_of_tree}
use Rattle.pl_law_control_plane.specs.ControlPlanes.{ControlPlane}
use Rattle.pl_law_due.specs.Due.{due_of, due_plane, is_hello, is_silent, read, treated, words_of}
use Rattle.pl_law_control_plane.specs.Restarts.{Restarts}
use Rattle.pl_law_due.specs.Gathering.{GathersBy, GathersWell, IsNoEnd}
use Rattle.pl_law_due.proofs.Ids.{AreApart, at_named, ids_apart, switch_is, there_named}

-- there is a switch of which a report is missing
some_switch : (plan : Plan) → IsPlan plan → 0 < facts.switch_count plan.k
some_switch plan is =
    let least = is.arity.least in
    let edges : plan.k ≤ plan.k * (plan.k / 2) = le-mul_of_pos_right plan.k (omega (arith, least)) in
    let count = switches_of_tree plan.k is.arity in
    subst (λ n. 0 < n) count (omega (arith, least, edges))

module _ (f g : ControlPlane) (is : IsPlan f.plan) (restarts : Restarts f g) where
  abbrev anew : ManagerView
  anew = restarted_manager f.plan.k (f.manager.epoch + 1)

  abbrev g₁ : Gathered Treating ToManager
  g₁ = gathered anew

  missing : is_whole g₁ ≡ false
  missing = elim (cases_Bool (is_whole g₁)) [
    | inr part ↦ part
    | inl whole ↦ elim (or_cases (f.manager.epoch + 1 == 0) (nat_le g₁.many 0) whole) [
      | inl none ↦ absurd (false≢true (sym (ne_eqb (f.manager.epoch + 1) 0 (λ e. absurd (omega (arith, e)))) ∙ none))
      | inr few ↦ (let most = leb-true g₁.many 0 few in let some = some_switch f.plan is in absurd (omega (arith, most, some)))
    ]
  ]

  pub restart_missing : is_whole (gathered g.manager) ≡ false
  restart_missing = ap (λ (v : ManagerView). is_whole (gathered v)) restarts.manager ∙ missing

  silent_each : (s : ℕ) (id : SwitchId) → slice_get f.plan.ids s ≡ Some id → is_silent g.orders s ≡ true
  silent_each s id named =
      let less = slice_get_within f.plan.ids s id named in
      let many = is.ids_many in
      ap (list_any is_hello) (restarts.orders s (omega (arith, less, many)))

  -- so of each switch that is heard holds what one likes
  pub none_loud : (s : ℕ) (id : SwitchId) → slice_get g.plan.ids s ≡ Some id → is_silent g.orders s ≡ false → ⊥
  none_loud s id named loud = false≢true (sym loud ∙ silent_each s id (ap (λ (p : Plan). slice_get p.ids s) (sym restarts.alike.plan) ∙ named))

  pub restart_gathers : GathersWell g
  restart_gathers =
      subst (λ (p : Plan). GathersBy p.ids g.manager g.reports g.orders) (sym restarts.alike.plan)
      (subst (λ (v : ManagerView). GathersBy f.plan.ids v g.reports g.orders) (sym restarts.manager)
      (subst (λ (q : ℕ → List ToManager). GathersBy f.plan.ids anew q g.orders) (sym (fun_ext restarts.reports))
      (record {
        orderly = orderly_anew f.plan.ids g₁ (sym (is.ids_many ∙ switches_of_tree f.plan.k is.arity)) refl refl refl;
        plain = tt;
        coming = λ t known loud part none.
            let it = there_named f.plan.ids t known in
            absurd (false≢true (sym loud ∙ at_named false f.plan.ids (ids_apart f.plan is) (is_silent g.orders) it.0 t it.1 ∙ silent_each it.0 t it.1));
        old = λ s id named silent. record { not_begun = refl; begins_none = tt };
        anew = λ part. record {
          knows_nothing = refl;
          orders_alone = λ s id named.
              let less = slice_get_within f.plan.ids s id named in
              let many = is.ids_many in
              inr (restarts.orders s (omega (arith, less, many)));
        };
        loud = λ whole s id named. absurd (false≢true (sym missing ∙ whole));
      })))

  -- and so it is to what is due
  pub restart_due : Restarts (due_plane f) (due_plane g)
  restart_due = record {
    alike = record { plan = restarts.alike.plan; view = restarts.alike.view; says = restarts.alike.says; carries = restarts.alike.carries };
    reports = λ s. (λ i. due_of (restarts.manager i) (slice_get (restarts.alike.plan i).ids s) (restarts.reports s i)) ∙ nothing (slice_get f.plan.ids s);
    orders = restarts.orders;
    beyond = restarts.beyond;
    manager = ap treated restarts.manager;
  }
    where
      nothing : (o : Option SwitchId) → due_of anew o [] ≡ []
      nothing None = refl
      nothing (Some id) = by (is_whole g₁)
        where
          by : (b : Bool) → ◌≡◌ {A = List ToManager} (cond b [] []) []
          by true = refl
          by false = refl

-- ---- at rest
none_same : (x : SwitchId) (ids : List SwitchId) → ((i : ℕ) → slice_get ids i ≡ Some x → ⊥) → AllByRecursion (λ t. same_switch x t ≡ false) ids
none_same x [] none = tt
none_same x (y ∷ ids) none = (
  elim (cases_Bool (same_switch x y)) [
    | inl same ↦ absurd (none zero (ap Some (sym (switch_is x y same))))
    | inr apart ↦ apart
  ],
  none_same x ids (λ i at. none (suc i) at),
)

ids_distinct : (ids : List SwitchId) → AreApart ids → IsDistinct same_switch ids
unfolding IsDistinct
ids_distinct [] apart = tt
ids_distinct (x ∷ ids) apart = (
  none_same x ids (λ i at. let e = apart zero (suc i) x refl at in absurd (omega (arith, e))),
  ids_distinct ids (λ i j y first second. let e = apart (suc i) (suc j) y first second in omega (arith, e)),
)

-- in a queue in which no report ends none is going to end
none_ends : (epoch : ℕ) (begun : Bool) (queue : List ToManager) → AllByRecursion IsNoEnd queue → will_end epoch begun (read queue) ≡ false
none_ends epoch begun [] all = refl
none_ends epoch true (tell.Begin n ∷ queue) all = none_ends epoch true queue all.1
none_ends epoch false (tell.Begin n ∷ queue) all = by (n == epoch) (none_ends epoch true queue all.1) (none_ends epoch false queue all.1)
  where
    by : (b : Bool) → will_end epoch true (read queue) ≡ false → will_end epoch false (read queue) ≡ false → cond b (will_end epoch true (read queue)) (will_end epoch false (read queue)) ≡ false
    by true first second = first
    by false first second = second
none_ends epoch begun (tell.End n ∷ queue) all = absurd all.0
none_ends epoch begun (tell.Place place ∷ queue) all = none_ends epoch begun queue all.1
none_ends epoch begun (tell.Link u usable ∷ queue) all = none_ends epoch begun queue all.1
none_ends epoch begun (tell.PodWanted ∷ queue) all = none_ends epoch begun queue all.1
none_ends epoch begun (tell.Learned a b c ∷ queue) all = none_ends epoch begun queue all.1
none_ends epoch begun (tell.Aged a b ∷ queue) all = none_ends epoch begun queue all.1
none_ends epoch begun (tell.Trapped a b c ∷ queue) all = none_ends epoch begun queue all.1
none_ends epoch begun (tell.Query a b c ∷ queue) all = none_ends epoch begun queue all.1
none_ends epoch begun (tell.Members group any ∷ queue) all = none_ends epoch begun queue all.1

-- where no order says that the manager began anew, and no report ends in a queue, none is missing
pub rest_whole : (f : ControlPlane) → IsPlan f.plan → GathersWell f → ((s : ℕ) → AllByRecursion IsNoEnd (f.reports s)) →
    ((s : ℕ) (id : SwitchId) → slice_get f.plan.ids s ≡ Some id → is_silent f.orders s ≡ false) → is_whole (gathered f.manager) ≡ true
rest_whole f is well none loud = elim (cases_Bool (is_whole (gathered f.manager))) [
  | inl whole ↦ whole
  | inr part ↦ whole_at_rest (gathered f.manager) f.plan.ids well.orderly.many (ids_distinct f.plan.ids (ids_apart f.plan is)) (λ t known. elim (cases_Bool (is_among t f.manager.ended)) [
    | inl ended ↦ ended
    | inr missing ↦
        let it = there_named f.plan.ids t known in
        let coming = well.coming t known (at_named false f.plan.ids (ids_apart f.plan is) (is_silent f.orders) it.0 t it.1 ∙ loud it.0 t it.1) part missing in
        let queue = at_named [] f.plan.ids (ids_apart f.plan is) (λ n. read (f.reports n)) it.0 t it.1 in
        absurd (false≢true (sym (none_ends f.manager.epoch (is_among t f.manager.begun) (f.reports it.0) (none it.0))
        ∙ ap (will_end f.manager.epoch (is_among t f.manager.begun)) (sym queue) ∙ coming))
  ])
]

-- where no report is missing, what is due of a switch are the words that wait of it
pub whole_due : (f : ControlPlane) → is_whole (gathered f.manager) ≡ true → (s : ℕ) (id : SwitchId) → slice_get f.plan.ids s ≡ Some id → (due_plane f).reports s ≡ words_of (f.reports s)
whole_due f whole s id named =
    ap (λ o. due_of f.manager o (f.reports s)) named
    ∙ ap (λ (b : Bool). cond b (words_of (f.reports s))
    (cond (is_among id f.manager.begun) (kept_of id f.manager.kept ++ words_of (f.reports s)) (words_behind_begin f.manager.epoch (read (f.reports s))))) whole

-- and where nothing waits of it nothing is due
pub nothing_due : (f : ControlPlane) → is_whole (gathered f.manager) ≡ true → (s : ℕ) → f.reports s ≡ [] → (due_plane f).reports s ≡ []
nothing_due f whole s nothing = by (slice_get f.plan.ids s) refl
  where
    by : (o : Option SwitchId) → slice_get f.plan.ids s ≡ o → (due_plane f).reports s ≡ []
    by None none = ap (λ o. due_of f.manager o (f.reports s)) none
    by (Some id) named = whole_due f whole s id named ∙ ap words_of nothing
