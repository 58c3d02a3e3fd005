-- The world before the first line is reached by steps, none of which is refused.
use Rattle.std.proofs.Common.{◌≡◌, ℕ, zero, suc, ◌+◌, ◌*◌, ◌≤◌, ◌<◌, ◌||◌, nat_le, Bool, true, false, if◌then◌else◌, Contains, List, [], ◌∷◌, ◌++◌, length, None, Option, Some, get_or, set, refl, sym, ap, ◌∙◌, subst, arith, inl, inr, append-nil}
use Rattle.std.specs.List.{sum_by}
use Rattle.std.proofs.lemmas.Bool.{cond-false}
use Rattle.std.proofs.lemmas.Bool.Decides.{nat_tests}
use Rattle.std.proofs.lemmas.List.{length-append}
use Rattle.std.proofs.lemmas.List.Sums.{sum_by-append}
use Rattle.pl_lemmas.proofs.Exports.{replicated_empty}
use Rattle.pl_wiring.specs.declared.link.Link.{Link}
use Rattle.pl_wiring.specs.Index.{port_index}
use Rattle.pl_wiring.specs.Labels.{switch_count}
use Rattle.pl_wiring.specs.LiveLinks.{IsFor, is_live}
use Rattle.pl_wiring.specs.Peers.{LinksSwitches}
use Rattle.pl_wiring.specs.Plan.{IsPlan, Plan}
use Rattle.pl_wiring.proofs.Exports.{made_for_changed, one_between, others}
use Rattle.pl_journal.specs.declared.cause.Cause.{Cause}
use Rattle.pl_journal.specs.declared.cause.Cause.TheVariants as cause
use Rattle.pl_journal.specs.declared.entry.Entry.TheVariants.{LinkDown}
use Rattle.pl_journal.specs.Places.{are_alike}
use Rattle.pl_node.proofs.Exports.{among_of_Contains, IsAmong}
use Rattle.pl_node.specs.HostInputs.{HostRule}
use Rattle.pl_node.specs.ManagerDuties.{ManagerRule}
use Rattle.pl_node.specs.SwitchInputs.{SwitchRule}
use Rattle.pl_queues.specs.Queues.{items_at}
use Rattle.pl_world.specs.declared.error.StepError.{StepError}
use Rattle.pl_world.specs.declared.error.StepError.TheVariants.{AlreadySo, JournalFull, StepsSpent}
use Rattle.pl_world.specs.declared.event.Event.TheVariants as event
use Rattle.pl_world.specs.declared.item.Item.{Item}
use Rattle.pl_world.specs.declared.limits.Limits.{Limits}
use Rattle.pl_world.specs.Booting.{CanBegin, all_live, booted}
use Rattle.pl_world.specs.Changes.{emptied_out, ends_of, noted}
use Rattle.pl_world.specs.LinksAndMoves.{link_between, link_failed, with_link}
use Rattle.pl_world.specs.Refusals.{frame_bytes, is_full, refusal, refusal_of_event, refusal_of_link}
use Rattle.pl_world.specs.Runs.{WorldRun}
use Rattle.pl_world.specs.Runs.Moment.{Step}
use Rattle.pl_world.specs.WorldRule.{LinkFails}
use Rattle.pl_world.specs.Worlds.{WorldView}
use Rattle.pl_world.proofs.Exports.{all_live_is_for, lower_live}
use Rattle.pl_law_bridge.specs.TreeWorld.{AllowFailures, failures, failures_of, is_off_tree, tree_from, tree_world}
use Rattle.pl_law_bridge.proofs.Beginning.{between_its_ends, contained, failed_if}

-- ---- these links are the last ones of the wiring, from a place on
abbrev AreLast : Plan → ℕ → List Link → Type 0
AreLast plan n links = (i : ℕ) (d : Link) → i < length links → (n + i < length plan.links) × (get_or plan.links (n + i) d ≡ get_or links i d)

next_last : (plan : Plan) (n : ℕ) (link : Link) (links : List Link) → AreLast plan n (link ∷ links) → AreLast plan (n + 1) links
next_last plan n link links last i d within =
    let there = last (suc i) d (omega (arith, within)) in
    let same : n + suc i ≡ n + 1 + i = omega arith in
    (let h = there.0 in omega (arith, h), ap (λ m. get_or plan.links m d) (sym same) ∙ there.1)

is_contained : (plan : Plan) (n : ℕ) (link : Link) (links : List Link) → AreLast plan n (link ∷ links) → Contains plan.links link
is_contained plan n link links last =
    let there = last 0 link (omega arith) in
    let same : n + 0 ≡ n = omega arith in
    (n, (let h = there.0 in omega (arith, h)), ap (λ m. get_or plan.links m link) (sym same) ∙ there.1)

-- a later one does not join the same switches
is_apart : (plan : Plan) → IsPlan plan → (n : ℕ) (link : Link) (links : List Link) → AreLast plan n (link ∷ links) → (l : Link) → IsAmong l links →
    LinksSwitches l link.lower.0 link.upper.0 → ⊥
is_apart plan is n link links last l among joins =
    let at = contained l links among in
    let first = last 0 l (omega arith) in
    let there = last (suc at.0) l (let h = at.1 in omega (arith, h)) in
    let here : LinksSwitches (get_or plan.links (n + 0) l) link.lower.0 link.upper.0 =
    subst (λ (x : Link). LinksSwitches x link.lower.0 link.upper.0) (sym first.1) (inl (refl, refl)) in
    let also : LinksSwitches (get_or plan.links (n + suc at.0) l) link.lower.0 link.upper.0 =
    subst (λ (x : Link). LinksSwitches x link.lower.0 link.upper.0) (sym (there.1 ∙ at.2)) joins in
    let same : n + 0 ≡ n + suc at.0 = one_between plan.k plan.links (n + 0) (n + suc at.0) l link.lower.0 link.upper.0 is.tree first.0 there.0 here also in
    omega (arith, same)

-- ---- queues that are empty
abbrev AreEmpty : List (List Item) → Type 0
AreEmpty out = (n : ℕ) → items_at out n ≡ []

emptied : (out : List (List Item)) (n : ℕ) → AreEmpty out → AreEmpty (set out n [])
emptied [] n none m = none m
emptied (queue ∷ out) zero none zero = refl
emptied (queue ∷ out) zero none (suc m) = none (suc m)
emptied (queue ∷ out) (suc n) none zero = none 0
emptied (queue ∷ out) (suc n) none (suc m) = emptied out n (λ i. none (suc i)) m

nothing_ends : (w : WorldView) (s port : ℕ) (why : Cause) → AreEmpty w.out → (emptied_out w s port why).journal ≡ w.journal
nothing_ends w s port why none = ap (λ items. w.journal ++ ends_of why items) (none (port_index w.plan.k s port)) ∙ append-nil w.journal

fails_quietly : (w : WorldView) (link : Link) → AreEmpty w.out → (link_failed w link).journal ≡ w.journal ++ LinkDown link.lower link.upper ∷ []
fails_quietly w link none =
    let said = noted (record w { links = with_link w.links link false }) (LinkDown link.lower link.upper) in
    let low = emptied_out said link.lower.0 link.lower_port cause.LinkDown in
    nothing_ends low link.upper.0 link.upper_port cause.LinkDown (emptied w.out (port_index w.plan.k link.lower.0 link.lower_port) none)
    ∙ nothing_ends said link.lower.0 link.lower_port cause.LinkDown none

-- ---- while links fail
record IsFailing (plan : Plan) (limits : Limits) (w : WorldView) (links : List Link) : Type 0 where
  plan_stays : w.plan ≡ plan
  limits_stay : w.limits ≡ limits
  steps : w.steps + length links ≤ limits.steps
  entries : length w.journal + length links ≤ limits.entries
  bytes : sum_by frame_bytes w.journal ≡ 0
  empty : AreEmpty w.out
  made : IsFor plan w.links
  live : (l : Link) → IsAmong l links → is_live w.links l ≡ true

passes : (plan : Plan) (limits : Limits) (w : WorldView) (link : Link) (links : List Link) → IsFailing plan limits w (link ∷ links) → IsFailing plan limits w links
passes plan limits w link links f = record {
  plan_stays = f.plan_stays;
  limits_stay = f.limits_stay;
  steps = (let h = f.steps in omega (arith, h));
  entries = (let h = f.entries in omega (arith, h));
  bytes = f.bytes;
  empty = f.empty;
  made = f.made;
  live = λ l later. f.live l (inr later);
}

fails_too : (plan : Plan) → IsPlan plan → (limits : Limits) (n : ℕ) (w : WorldView) (link : Link) (links : List Link) → AreLast plan n (link ∷ links) →
    IsFailing plan limits w (link ∷ links) → IsFailing plan limits (link_failed (record w { steps = w.steps + 1 }) link) links
fails_too plan is limits n w link links last f =
    let now : WorldView = record w { steps = w.steps + 1 } in
    let written : (link_failed now link).journal ≡ w.journal ++ LinkDown link.lower link.upper ∷ [] = fails_quietly now link f.empty in
    let there : Contains plan.links link = is_contained plan n link links last in
    record {
      plan_stays = f.plan_stays;
      limits_stay = f.limits_stay;
      steps = (let h = f.steps in omega (arith, h));
      entries = (let h = f.entries in let many : length (link_failed now link).journal ≡ length w.journal + 1 = ap length written ∙ length-append w.journal (LinkDown link.lower link.upper ∷ []) in omega (arith, h, many));
      bytes = ap (sum_by frame_bytes) written ∙ sum_by-append frame_bytes w.journal (LinkDown link.lower link.upper ∷ []) ∙ ap (λ m. m + 0) f.bytes;
      empty = emptied (set w.out (port_index w.plan.k link.lower.0 link.lower_port) []) (port_index w.plan.k link.upper.0 link.upper_port)
          (emptied w.out (port_index w.plan.k link.lower.0 link.lower_port) f.empty);
      made = made_for_changed plan w.links link false is.tree f.made there;
      live = λ l later.
          let at = contained l links later in
          let place = last (suc at.0) l (let h = at.1 in omega (arith, h)) in
          let same : get_or plan.links (n + suc at.0) l ≡ l = place.1 ∙ at.2 in
          let stays = others plan w.links link false link.lower.0 link.upper.0 is.tree f.made there (inl (refl, refl)) (n + suc at.0) l place.0
          (λ joins. is_apart plan is n link links last l later (subst (λ (x : Link). LinksSwitches x link.lower.0 link.upper.0) same joins)) in
          subst (λ (x : Link). is_live (with_link w.links link false) x ≡ is_live w.links x) same stays ∙ f.live l (inr later);
    }

-- a link that is live may fail
low_enough : (a b : ℕ) → b < a → nat_le a b ≡ false
low_enough a b lt = grind (arith, nat_tests)

not_refused : (plan : Plan) → IsPlan plan → (limits : Limits) (n : ℕ) (w : WorldView) (link : Link) (links : List Link) → 1 ≤ limits.bytes → AreLast plan n (link ∷ links) →
    IsFailing plan limits w (link ∷ links) → (link_between w.plan link.lower.0 link.upper.0 ≡ Some link) × (refusal w (event.Fail link.lower link.upper) ≡ None)
not_refused plan is limits n w link links some last f =
    let between : link_between w.plan link.lower.0 link.upper.0 ≡ Some link = ap (λ p. link_between p link.lower.0 link.upper.0) f.plan_stays
    ∙ between_its_ends plan link is (among_of_Contains link plan.links (is_contained plan n link links last)) in
    let spent : nat_le w.limits.steps w.steps ≡ false = ap (λ (l : Limits). nat_le l.steps w.steps) f.limits_stay
    ∙ low_enough limits.steps w.steps (let h = f.steps in omega (arith, h)) in
    let many : nat_le limits.entries (length w.journal) ≡ false = low_enough limits.entries (length w.journal) (let h = f.entries in omega (arith, h)) in
    let long : nat_le limits.bytes (sum_by frame_bytes w.journal) ≡ false = ap (nat_le limits.bytes) f.bytes ∙ low_enough limits.bytes 0 (omega (arith, some)) in
    let full : is_full w ≡ false = ap (λ (l : Limits). nat_le l.entries (length w.journal) || nat_le l.bytes (sum_by frame_bytes w.journal)) f.limits_stay
    ∙ ap (λ b. b || nat_le limits.bytes (sum_by frame_bytes w.journal)) many ∙ long in
    let alike : are_alike (is_live w.links link) false ≡ false = ap (λ b. are_alike b false) (f.live link (inl refl)) in (
      between,
      cond-false (nat_le w.limits.steps w.steps) (Some StepsSpent) (if◌then◌else◌ {A = Option StepError} (is_full w) (Some JournalFull) (refusal_of_event w (event.Fail link.lower link.upper))) spent
          ∙ cond-false (is_full w) (Some JournalFull) (refusal_of_event w (event.Fail link.lower link.upper)) full
          ∙ ap (refusal_of_link w false) between
          ∙ cond-false (are_alike (is_live w.links link) false) (Some AlreadySo) None alike,
    )

module _ (switch : SwitchRule) (manager : ManagerRule) (host : HostRule) (plan : Plan) (is : IsPlan plan) (limits : Limits) (some : 1 ≤ limits.bytes) where
  run : (n : ℕ) (w : WorldView) (links : List Link) → AreLast plan n links → IsFailing plan limits w links →
      WorldRun switch manager host w (failures_of plan.k links) (tree_from plan.k w links)
  run n w [] last f = refl
  run n w (link ∷ links) last f =
      by (is_off_tree plan.k link) (run (n + 1) w links (next_last plan n link links last) (passes plan limits w link links f))
      (run (n + 1) (link_failed (record w { steps = w.steps + 1 }) link) links (next_last plan n link links last) (fails_too plan is limits n w link links last f))
    where
      by : (b : Bool) → WorldRun switch manager host w (failures_of plan.k links) (tree_from plan.k w links) →
          WorldRun switch manager host (link_failed (record w { steps = w.steps + 1 }) link) (failures_of plan.k links) (tree_from plan.k (link_failed (record w { steps = w.steps + 1 }) link) links) →
          WorldRun switch manager host w (if b then Step (event.Fail link.lower link.upper) ∷ failures_of plan.k links else failures_of plan.k links) (tree_from plan.k (failed_if b w link) links)
      by true stays fails =
          let may = not_refused plan is limits n w link links some last f in (
            link_failed (record w { steps = w.steps + 1 }) link,
            (may.1, subst (λ o. LinkFails (record w { steps = w.steps + 1 }) o (link_failed (record w { steps = w.steps + 1 }) link)) (sym may.0) refl),
            fails,
          )
      by false stays fails = stays

pub reached_by_failures : (switch : SwitchRule) (manager : ManagerRule) (host : HostRule) (plan : Plan) (limits : Limits) → CanBegin plan → AllowFailures plan limits →
    WorldRun switch manager host (booted plan limits) (failures plan) (tree_world plan limits)
reached_by_failures switch manager host plan limits can allow =
    let is : IsPlan plan = can.is_plan in
    run switch manager host plan is limits allow.bytes 0 (booted plan limits) plan.links
    (λ i d within. (let same : 0 + i ≡ i = omega arith in (omega (arith, within), ap (λ m. get_or plan.links m d) same))) (record {
      plan_stays = refl;
      limits_stay = refl;
      steps = (let h = allow.steps in omega (arith, h));
      entries = (let h = allow.entries in omega (arith, h));
      bytes = refl;
      empty = λ n. replicated_empty (switch_count plan.k * plan.k) n;
      made = all_live_is_for plan is;
      live = λ l among. (let at = contained l plan.links among in
          subst (λ (x : Link). is_live (all_live plan) x ≡ true) at.2 (lower_live plan is at.0 l at.1));
    })
