-- The turns of switches and hosts keep grants in order.
use Rattle.std.proofs.Common.{◌≡◌, if◌then◌else◌, ◌<◌, ◌≤◌, ◌+◌, ℕ, zero, suc, Bool, true, false, set, List, [], ◌∷◌, length, Option, Some, None, slice_get, refl, sym, ap, subst, ◌∙◌, inl, inr, arith}
use Rattle.std.specs.List.{AllByRecursion}
use Rattle.std.proofs.lemmas.Bool.{cases_eq, cases_lt}
use Rattle.std.proofs.lemmas.List.{get_or_past}
use Rattle.std.proofs.lemmas.Option.{same_Some, slice_get_within}
use Rattle.pl_lemmas.proofs.Exports.{all_found}
use Rattle.pl_frame.specs.declared.address.Mac.{Mac}
use Rattle.pl_pmac.specs.declared.pmac.Pmac.{Pmac}
use Rattle.pl_layouts.specs.Equality.{same_pmac}
use Rattle.pl_world.specs.Changes.{host_of}
use Rattle.pl_wiring.specs.Plan.{Plan}
use Rattle.pl_node.specs.declared.acts.Act.{Act}
use Rattle.pl_node.specs.declared.acts.Act.TheVariants as act
use Rattle.pl_node.specs.HostDuties.{HoldsData, HostsSendData, HostsSendOwn}
use Rattle.pl_node.specs.HostInputs.{HostAnswer, HostInput, HostRule}
use Rattle.pl_node.specs.SwitchInputs.{SwitchInput}
use Rattle.pl_node.specs.SwitchViews.{SwitchView}
use Rattle.pl_layouts.specs.declared.place.Place.{Place}
use Rattle.pl_queues.specs.Queues.{items_at}
use Rattle.pl_switch_rule.specs.Forwarding.{Choice}
use Rattle.pl_switch_rule.specs.Granting.{granted}
use Rattle.pl_switch_rule.specs.SwitchRule.{Loose, switch_step}
use Rattle.pl_switch_rule.proofs.Exports.{granted_parts}
use Rattle.pl_world.specs.declared.spoken_frame.SpokenFrame.{SpokenFrame}
use Rattle.pl_world.specs.WorldRule.{HostTurn, SwitchTurn}
use Rattle.pl_world.specs.Worlds.{WorldView}
use Rattle.pl_law_addresses.specs.OwnAddresses.{own_ip}
use Rattle.pl_law_addresses.specs.OwnFrames.{AreOwnHosts}
use Rattle.pl_law_addresses.specs.EdgeAddresses.{IsGoodAddressTable, IsHeldFor, is_live, is_settled}
use Rattle.pl_law_addresses.specs.GrantedOnce.{HasGranted, IsOnce, times_freed, times_granted}
use Rattle.pl_law_addresses.specs.Addressed.{AreApart, IsLiveNowhere, StayGranted}
use Rattle.pl_law_addresses.proofs.OwnHosts.{host_step_own}
use Rattle.pl_law_addresses.proofs.RowsLeaveAddresses.{IsGrantedThen, Turns, free_acts, grant_acts, live_held, not_held, some_grant}
use Rattle.pl_law_addresses.proofs.SwitchSteps.{Brings}
use Rattle.pl_law_addresses.proofs.AddressLemmas.{get-set_other, get-set_same}
use Rattle.pl_law_addresses.proofs.TurnQueues.{Parts, all_put, freed_after, freed_more, granted_more, host_parts, items_sent, parts_of, stepped_parts, times_after}

-- how much more often an address is granted
more_bounds : (plan : Plan) (x : Pmac) (t : Pmac → ℕ) (acts : List Act) → (t x ≤ times_after plan t acts x) × (times_after plan t acts x ≤ t x + grant_acts x acts)
more_bounds plan x t [] = (omega arith, omega arith)
more_bounds plan x t (act.Grant y mac ∷ acts) = by (host_of plan mac) (λ o. more_bounds plan x (granted_more t y o) acts)
  where
    by : (o : Option ℕ) → ((q : Option ℕ) → (granted_more t y q x ≤ times_after plan (granted_more t y q) acts x) × (times_after plan (granted_more t y q) acts x ≤ granted_more t y q x + grant_acts x acts)) →
        (t x ≤ times_after plan (granted_more t y o) acts x) × (times_after plan (granted_more t y o) acts x ≤ t x + ((if same_pmac y x then 1 else 0) + grant_acts x acts))
    by None rest = let two = rest None in let low = two.0 in let high = two.1 in (low, omega (arith, high))
    by (Some h) rest = let two = rest (Some h) in let low = two.0 in let high = two.1 in (omega (arith, low), omega (arith, high))
more_bounds plan x t (a ∷ acts) = more_bounds plan x t acts

-- and freed
freed_is : (x : Pmac) (t : Pmac → ℕ) (acts : List Act) → freed_after t acts x ≡ t x + free_acts x acts
freed_is x t [] = omega arith
freed_is x t (act.Free y ∷ acts) = let rest = freed_is x (freed_more t y) acts in omega (arith, rest)
freed_is x t (a ∷ acts) = freed_is x t acts

-- of one switch that steps: an address is granted where it was nobody's, and freed where it was somebody's
module _ (switches : List SwitchView) (s : ℕ) (v after : SwitchView) (x : Pmac) (found : slice_get switches s ≡ Some v) (apart : AreApart (set switches s after)) where
  there_now : slice_get (set switches s after) s ≡ Some after
  there_now = get-set_same switches s after (slice_get_within switches s v found)

  -- nobody has an address that is granted now
  never : IsGrantedThen v after x → (t : ℕ) (u : SwitchView) → slice_get switches t ≡ Some u → (mac : Mac) → IsHeldFor (λ y. granted u y) x mac → ⊥
  never it t u is mac h = elim (cases_eq t s) [
    | inl same ↦
        let view : u ≡ v = same_Some u v (sym is ∙ ap (slice_get switches) same ∙ found) in
        not_held v x mac it.none (subst (λ (w : SwitchView). IsHeldFor (λ y. granted w y) x mac) view h)
    | inr other ↦
        other (apart t s u after x (get-set_other switches s t after other ∙ is) there_now (granted_parts u x h.grant h.found).0
        (granted_parts after x it.granted_to.grant it.granted_to.found).0)
  ]

  still_has : (stays : (mac : Mac) → IsHeldFor (λ y. granted v y) x mac → IsHeldFor (λ y. granted after y) x mac) → HasGranted switches x → HasGranted (set switches s after) x
  still_has stays h = elim (cases_eq h.switch s) [
    | inr other ↦ record { switch = h.switch; view = h.view; found = get-set_other switches s h.switch after other ∙ h.found; held = h.held }
    | inl same ↦
        let view : h.view ≡ v = same_Some h.view v (sym h.found ∙ ap (slice_get switches) same ∙ found) in
        record {
          switch = s;
          view = after;
          found = there_now;
          held = (h.held.0, stays h.held.0 (subst (λ (u : SwitchView). IsHeldFor (λ y. granted u y) x h.held.0) view h.held.1));
        }
  ]

  once_then : (before now given gone gone_now freeing : ℕ) → before ≤ now → now ≤ before + given → given + freeing ≤ 1 → gone_now ≡ gone + freeing →
      (freeing ≡ 0 → (mac : Mac) → IsHeldFor (λ y. granted v y) x mac → IsHeldFor (λ y. granted after y) x mac) → (1 ≤ given → IsGrantedThen v after x) →
      IsOnce switches before gone x → IsOnce (set switches s after) now gone_now x
  once_then before now given gone gone_now freeing low high few sum stays grants old = elim (cases_lt 0 given) [
    | inl some ↦
        let it = grants (omega (arith, some)) in
        elim old [
          | inr one ↦ absurd (never it one.1.switch one.1.view one.1.found one.1.held.0 one.1.held.1)
          | inl no_more ↦ elim (cases_lt gone_now now) [
            | inr at_most ↦ inl (omega (arith, at_most))
            | inl above ↦
                inr (
                  omega (arith, above, high, few, no_more, sum, some),
                  record { switch = s; view = after; found = there_now; held = (it.mac, it.granted_to) },
                )
          ]
        ]
    | inr none ↦ elim old [
      | inl no_more ↦ inl (omega (arith, low, high, none, no_more, sum))
      | inr one ↦
          let more = one.0 in
          elim (cases_lt 0 freeing) [
            | inl frees ↦ inl (omega (arith, high, none, more, sum, frees))
            | inr keeps ↦ inr (omega (arith, low, high, none, more, sum, keeps), still_has (stays (omega (arith, keeps))) one.1)
          ]
    ]
  ]

-- ---- an earlier moment: what switches held then, and how often each address was granted and freed
pub record Earlier : Type 0 where
  pub switches : List SwitchView
  pub times : Pmac → ℕ
  pub freed : Pmac → ℕ

abbrev pub no_moment : Earlier
no_moment = record { switches = []; times = λ x. 0; freed = λ x. 0 }

abbrev pub moment_of : WorldView → Earlier
moment_of w = record { switches = w.switches; times = λ x. times_granted x w.journal; freed = λ x. times_freed x w.journal }

-- the lists of switches are in order, and hosts send frames of their own
pub record InOrder (before : Earlier) (p : Parts) : Type 0 where
  pub tables : (s : ℕ) (v : SwitchView) → slice_get p.switches s ≡ Some v → IsGoodAddressTable (λ mac. own_ip p.plan mac) v
  pub own : AreOwnHosts p.plan p.hosts p.from_hosts
  -- what was somebody's at that moment is so still, unless it was freed since
  pub since : StayGranted before.switches p.switches (λ x. p.freed x ≡ before.freed x)
  pub rises : (x : Pmac) → before.freed x ≤ p.freed x
  -- what was granted since was nobody's then, unless it was freed since
  pub given : (x : Pmac) → before.times x < p.times x → p.freed x ≡ before.freed x → IsLiveNowhere before.switches x
  -- no address was granted again before it was freed
  pub once : (x : Pmac) → IsOnce p.switches (p.times x) (p.freed x) x

-- ---- lists
pub exists_at : {X : Type 0} (xs : List X) (i : ℕ) → i < length xs → (x : X) × (slice_get xs i ≡ Some x)
exists_at [] i h = absurd (omega (arith, h))
exists_at (x ∷ xs) zero h = (x, refl)
exists_at (x ∷ xs) (suc i) h = exists_at xs i (omega (arith, h))

pub filled_within : {X : Type 0} (queues : List (List X)) (i : ℕ) (x : X) (xs : List X) → items_at queues i ≡ x ∷ xs → i < length queues
filled_within queues i x xs is = elim (cases_lt i (length queues)) [
  | inl less ↦ less
  | inr past ↦
      let none : length (items_at queues i) ≡ 0 = ap (λ ys. length ys) (get_or_past queues i [] past) in
      let some : length (items_at queues i) ≡ suc (length xs) = ap (λ ys. length ys) is in
      absurd (omega (arith, none, some))
]

module _ (first : Earlier) where
  -- what nobody has now was nobody's at the earlier moment, where it was not freed since
  free_before : {p : Parts} → InOrder first p → (x : Pmac) (t : ℕ) (v : SwitchView) → slice_get first.switches t ≡ Some v → p.freed x ≡ first.freed x →
      ((n : ℕ) (u : SwitchView) → slice_get p.switches n ≡ Some u → (mac : Mac) → IsHeldFor (λ y. granted u y) x mac → ⊥) → is_live v x ≡ false
  free_before o x t v is kept nobody = by (is_live v x) refl
    where
      by : (b : Bool) → is_live v x ≡ b → is_live v x ≡ false
      by false none = none
      by true live =
          let h = live_held v x live in
          let still = o.since t v is in
          absurd (nobody t still.view still.found h.0 (still.keeps x h.0 kept h.1))

  -- ---- a switch
  pub switch_turn : (w : WorldView) (s : ℕ) (input : SwitchInput) (speech : SpokenFrame) (new : WorldView) → InOrder first (parts_of w) →
      AreApart new.switches → ((v : SwitchView) → slice_get w.switches s ≡ Some v → (choose : Choice) → Brings (λ mac. own_ip w.plan mac) choose v (switch_step choose v input)) →
      SwitchTurn Loose w s input speech new → InOrder first (parts_of new)
  switch_turn w s input speech new o apart brings turn =
      let step = switch_step turn.ruled.choose turn.before input in
      let b = brings turn.before turn.found turn.ruled.choose in
      let after : turn.after ≡ step.view = turn.ruled.steps.view in
      let acts : turn.acts ≡ step.acts = turn.ruled.steps.done in
      let parts : parts_of new ≡ record (parts_of w) {
        switches = set w.switches s turn.after;
        times = times_after w.plan (λ x. times_granted x w.journal) turn.acts;
        freed = freed_after (λ x. times_freed x w.journal) turn.acts;
      } =
      ap parts_of turn.changed ∙ stepped_parts w s turn.before turn.after speech turn.acts in
      let switches : AreApart (set w.switches s turn.after) = subst (λ (p : Parts). AreApart p.switches) parts apart in
      let there_now : slice_get (set w.switches s turn.after) s ≡ Some turn.after =
      get-set_same w.switches s turn.after (slice_get_within w.switches s turn.before turn.found) in
      let table = o.tables s turn.before turn.found in
      let turned : Turns turn.before step = b.turns table in
      let many_freed : (x : Pmac) → freed_after (λ y. times_freed y w.journal) turn.acts x ≡ times_freed x w.journal + free_acts x step.acts =
      λ x. freed_is x (λ y. times_freed y w.journal) turn.acts ∙ ap (λ xs. times_freed x w.journal + free_acts x xs) acts in
      subst (λ (p : Parts). InOrder first p) (sym parts) (record {
        tables = λ t u is. elim (cases_eq t s) [
          | inr other ↦ o.tables t u (sym (get-set_other w.switches s t turn.after other) ∙ is)
          | inl same ↦
              let view : turn.after ≡ u = same_Some turn.after u (sym there_now ∙ ap (slice_get (set w.switches s turn.after)) (sym same) ∙ is) in
              subst (λ (v : SwitchView). IsGoodAddressTable (λ mac. own_ip w.plan mac) v) view
              (subst (λ (v : SwitchView). IsGoodAddressTable (λ mac. own_ip w.plan mac) v) (sym after) (b.table table))
        ];
        own = o.own;
        once = λ x.
            let bounds = more_bounds w.plan x (λ y. times_granted y w.journal) turn.acts in
            let count : grant_acts x turn.acts ≡ grant_acts x step.acts = ap (λ xs. grant_acts x xs) acts in
            let few = turned.once x in
            let low = bounds.0 in
            let high = bounds.1 in
            once_then w.switches s turn.before turn.after x turn.found switches (times_granted x w.journal) (times_after w.plan (λ y. times_granted y w.journal) turn.acts x)
            (grant_acts x step.acts) (times_freed x w.journal) (freed_after (λ y. times_freed y w.journal) turn.acts x) (free_acts x step.acts)
            low (omega (arith, high, count)) few (many_freed x)
            (λ none mac h. subst (λ (u : SwitchView). IsHeldFor (λ z. granted u z) x mac) (sym after) (turned.stays x mac none h))
            (λ some. subst (λ (u : SwitchView). IsGrantedThen turn.before u x) (sym after) (some_grant turn.before step.view x step.acts turned.says some))
            (o.once x);
        rises = λ x. let before = o.rises x in let sum = many_freed x in omega (arith, before, sum);
        given = λ x more kept.
            let before = o.rises x in
            let sum = many_freed x in
            let none : free_acts x step.acts ≡ 0 = omega (arith, before, sum, kept) in
            let kept_before : times_freed x w.journal ≡ first.freed x = omega (arith, before, sum, kept) in
            elim (cases_lt (first.times x) (times_granted x w.journal)) [
              | inl already ↦ o.given x already kept_before
              | inr not_yet ↦
                  let bounds = more_bounds w.plan x (λ y. times_granted y w.journal) turn.acts in
                  let high = bounds.1 in
                  let count : grant_acts x turn.acts ≡ grant_acts x step.acts = ap (λ xs. grant_acts x xs) acts in
                  let some : 1 ≤ grant_acts x step.acts = omega (arith, high, more, not_yet, count) in
                  let it = subst (λ (u : SwitchView). IsGrantedThen turn.before u x) (sym after) (some_grant turn.before step.view x step.acts turned.says some) in
                  λ t v is. free_before o x t v is kept_before (never w.switches s turn.before turn.after x turn.found switches it)
            ];
        since = λ t v is. let still = o.since t v is in elim (cases_eq t s) [
          | inr other ↦ record {
            view = still.view;
            found = get-set_other w.switches s t turn.after other ∙ still.found;
            keeps = λ x mac kept h. still.keeps x mac (let before = o.rises x in let sum = many_freed x in omega (arith, before, sum, kept)) h;
            place = still.place;
          }
          | inl same ↦
              let view : still.view ≡ turn.before = same_Some still.view turn.before (sym still.found ∙ ap (slice_get w.switches) same ∙ turn.found) in
              record {
                view = turn.after;
                found = ap (slice_get (set w.switches s turn.after)) same ∙ there_now;
                keeps = λ x mac kept h.
                    let before = o.rises x in
                    let sum = many_freed x in
                    subst (λ (u : SwitchView). IsHeldFor (λ y. granted u y) x mac) (sym after)
                    (turned.stays x mac (omega (arith, before, sum, kept))
                    (subst (λ (u : SwitchView). IsHeldFor (λ y. granted u y) x mac) view (still.keeps x mac (omega (arith, before, sum, kept)) h)));
                place = λ settled.
                    let p : turn.before.place ≡ v.place = ap (λ (u : SwitchView). u.place) (sym view) ∙ still.place settled in
                    ap (λ (u : SwitchView). u.place) after ∙ b.place (ap (λ (q : Place). is_settled q) p ∙ settled) ∙ p;
              }
        ];
      })

  -- ---- a host
  pub host_turn : (rule : HostRule) → HostsSendData rule → HostsSendOwn rule → (w : WorldView) (h : ℕ) (input : HostInput) (answer : HostAnswer) (new : WorldView) →
      InOrder first (parts_of w) → AllByRecursion HoldsData w.hosts → length w.from_hosts ≡ length w.hosts → HostTurn rule w h input answer new → InOrder first (parts_of new)
  host_turn rule sends owns w h input answer new o holding many turn =
      let parts : parts_of new ≡ record (parts_of w) { hosts = set w.hosts h turn.after; from_hosts = all_put h w.from_hosts (items_sent w.begun turn.acts) } =
      ap parts_of turn.changed ∙ host_parts h (record w { hosts = set w.hosts h turn.after }) turn.acts in
      let within : h < length w.from_hosts = subst (λ n. h < n) (sym many) (slice_get_within w.hosts h turn.before turn.found) in
      subst (λ (p : Parts). InOrder first p) (sym parts) (record {
        tables = o.tables;
        own = host_step_own rule sends owns w.plan w.hosts w.from_hosts h w.begun turn.before turn.after input turn.acts answer turn.found
            (all_found HoldsData w.hosts h turn.before holding turn.found) within turn.ruled o.own;
        since = o.since;
        rises = o.rises;
        given = o.given;
        once = o.once;
      })
