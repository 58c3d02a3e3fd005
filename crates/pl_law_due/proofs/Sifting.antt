-- A switch acts: what it tells is due of it, where it is not silent.
use Rattle.std.proofs.Common.{◌≡◌, ℕ, ◌==◌, Bool, true, false, cond, if◌then◌else◌, List, [], ◌∷◌, ◌++◌, Option, Some, None, slice_get, refl, sym, ap, subst, ◌∙◌, inl, inr, append-nil, eq-eqb, ne_eqb}
use Rattle.std.specs.List.{AllByRecursion, list_any}
use Rattle.std.proofs.lemmas.Bool.{cases_Bool, cases_eq, false≢true}
use Rattle.pl_lemmas.proofs.Exports.{all_append}
use Rattle.pl_frame.specs.declared.address.SwitchId.{SwitchId}
use Rattle.pl_layouts.specs.declared.control.Control.{Control}
use Rattle.pl_wiring.specs.Plan.{IsPlan}
use Rattle.pl_gathering.specs.Gathering.{Gathered, is_among, is_whole, words}
use Rattle.pl_gathering.specs.Gathering.Report.{Begin}
use Rattle.pl_gathering.specs.Orderly.{begins, will_end}
use Rattle.pl_node.specs.declared.messages.ToManager.{ToManager}
use Rattle.pl_node.specs.declared.messages.ToManager.TheVariants as tell
use Rattle.pl_node.specs.declared.messages.ToSwitch.{ToSwitch}
use Rattle.pl_node.specs.SwitchInputs.{SwitchInput, SwitchRule}
use Rattle.pl_manager_rule.specs.Treating.{Treating}
use Rattle.pl_manager_rule.specs.WholeRule.{gathered}
use Rattle.pl_law_control_plane.specs.ControlPlanes.{ControlPlane, tells}
use Rattle.pl_law_control_plane.specs.PlaneSteps.{IsLeft, IsOrderTaken, MessageIsTaken, SwitchTurns}
use Rattle.pl_law_due.specs.Due.{due_of, due_plane, is_hello, is_silent, read, treated, words_of}
use Rattle.pl_law_due.specs.DueSteps.{IsSifted}
use Rattle.pl_law_due.specs.Gathering.{GathersWell}
use Rattle.pl_law_due.proofs.Ids.{at_named, ids_apart, named_there}
use Rattle.pl_law_due.proofs.Words.{begun_behind, due_at, due_more, due_plain, due_unbegun, none_behind, plain_words, read_append, words_append}

-- ---- what leaves the queues between switches, and the orders, leaves what is due
pub due_same : (f m : ControlPlane) → m.plan ≡ f.plan → m.manager ≡ f.manager → (s : ℕ) → m.reports s ≡ f.reports s → (due_plane m).reports s ≡ (due_plane f).reports s
due_same f m plan manager s reports = λ i. due_of (manager i) (slice_get (plan i).ids s) (reports i)

pub left_due : (f m : ControlPlane) → IsLeft f m → ((s : ℕ) → m.reports s ≡ f.reports s) → IsLeft (due_plane f) (due_plane m)
left_due f m left reports = record {
  plan = left.plan;
  view = left.view;
  says = left.says;
  carries = left.carries;
  reports = λ s. record { gone = []; split = sym (due_same f m left.plan left.manager s (reports s)) };
  orders = left.orders;
  manager = ap treated left.manager;
}

pub message_due : (f m : ControlPlane) (t q : ℕ) (first : List Control) → MessageIsTaken f t q first m → MessageIsTaken (due_plane f) t q first (due_plane m)
message_due f m t q first taken = record {
  left = left_due f m taken.left taken.reports;
  first_said = taken.first_said;
  other_says = taken.other_says;
  reports = λ s. due_same f m taken.left.plan taken.left.manager s (taken.reports s);
  orders = taken.orders;
}

pub order_due : (f m : ControlPlane) (s : ℕ) (says : ToSwitch) → IsOrderTaken f s says m → IsOrderTaken (due_plane f) s says (due_plane m)
order_due f m s says taken = record {
  left = left_due f m taken.left taken.reports;
  first = taken.first;
  others = taken.others;
  messages = taken.messages;
  reports = λ t. due_same f m taken.left.plan taken.left.manager t (taken.reports t);
}

-- ---- a switch's turn
abbrev added : ℕ → List ToManager → ℕ → List ToManager
added s told t = if t == s then told else []

-- what is due once a switch told this, before it is sifted
abbrev pub told_plane : ControlPlane → ControlPlane → ℕ → List ToManager → ControlPlane
told_plane f g s told = record (due_plane g) { reports = λ t. (due_plane f).reports t ++ added s told t }

pub turns_due : (rule : SwitchRule) (m g : ControlPlane) (s : ℕ) (input : SwitchInput) → (turns : SwitchTurns rule m s input g) →
    SwitchTurns rule (due_plane m) s input (told_plane m g s (tells turns.acts))
turns_due rule m g s input turns =
    let told = tells turns.acts in
    record {
      after = turns.after;
      acts = turns.acts;
      failed = turns.failed;
      there = turns.there;
      shaped = turns.shaped;
      size = turns.size;
      ruled = turns.ruled;
      accounted = turns.accounted;
      acted = record {
        plan = turns.acted.plan;
        here = turns.acted.here;
        others = turns.acted.others;
        says = turns.acted.says;
        other_says = turns.acted.other_says;
        carries = turns.acted.carries;
        other_carries = turns.acted.other_carries;
        reports = ap (λ b. (due_plane m).reports s ++ (if b then told else [])) (eq-eqb s s refl);
        other_reports = λ t differ. ap (λ b. (due_plane m).reports t ++ (if b then told else [])) (ne_eqb t s differ) ∙ append-nil ((due_plane m).reports t);
        orders = turns.acted.orders;
        manager = ap treated turns.acted.manager;
      };
    }

module _ (f : ControlPlane) (is : IsPlan f.plan) (well : GathersWell f) where
  abbrev g₀ : Gathered Treating ToManager
  g₀ = gathered f.manager

  -- a silent switch was not heard yet, and a report is missing
  pub silent_part : (s : ℕ) (id : SwitchId) → slice_get f.plan.ids s ≡ Some id → is_silent f.orders s ≡ true → is_whole g₀ ≡ false
  silent_part s id named silent = elim (cases_Bool (is_whole g₀)) [
    | inl whole ↦ absurd (false≢true (sym (well.loud whole s id named) ∙ silent))
    | inr part ↦ part
  ]

  -- of a silent switch nothing is due, and all that is due are words
  pub as_due : (t : ℕ) → (due_plane f).reports t ≡ cond (is_silent f.orders t) [] (words_of ((due_plane f).reports t))
  as_due t = by (slice_get f.plan.ids t) refl
    where
      nothing : (b : Bool) → ◌≡◌ {A = List ToManager} [] (cond b [] [])
      nothing true = refl
      nothing false = refl

      by : (o : Option SwitchId) → slice_get f.plan.ids t ≡ o → due_of f.manager o (f.reports t) ≡ cond (is_silent f.orders t) [] (words_of (due_of f.manager o (f.reports t)))
      by None named = nothing (is_silent f.orders t)
      by (Some id) named = at (is_silent f.orders t) refl
        where
          at : (b : Bool) → is_silent f.orders t ≡ b → due_at g₀ id (read (f.reports t)) ≡ cond b [] (words_of (due_at g₀ id (read (f.reports t))))
          at true silent =
              let old = well.old t id named silent in
              due_unbegun g₀ id (read (f.reports t)) (silent_part t id named silent) old.not_begun ∙ none_behind g₀.epoch (read (f.reports t)) old.begins_none
          at false loud = sym (plain_words (due_at g₀ id (read (f.reports t))) (due_plain g₀ id (f.reports t) well.plain))

  -- the end of the report of a switch that is not silent is coming, by its place
  pub coming_at : (s : ℕ) (id : SwitchId) → slice_get f.plan.ids s ≡ Some id → is_silent f.orders s ≡ false → is_whole g₀ ≡ false → is_among id g₀.ended ≡ false →
      will_end g₀.epoch (is_among id g₀.begun) (read (f.reports s)) ≡ true
  coming_at s id named loud part missing =
      subst (λ q. will_end g₀.epoch (is_among id g₀.begun) q ≡ true) (at_named [] f.plan.ids (ids_apart f.plan is) (λ n. read (f.reports n)) s id named)
      (well.coming id (named_there f.plan.ids s id named) (at_named false f.plan.ids (ids_apart f.plan is) (is_silent f.orders) s id named ∙ loud) part missing)

  module _ (s : ℕ) (id : SwitchId) (named : slice_get f.plan.ids s ≡ Some id) (told : List ToManager) where
    abbrev D : List ToManager
    D = due_of f.manager (Some id) (f.reports s)

    abbrev Owns : Bool → Type 0
    Owns silent = due_of f.manager (Some id) (f.reports s ++ told) ≡ cond silent [] (words_of (D ++ told))

    pub loud_owns : is_silent f.orders s ≡ false → Owns false
    loud_owns loud =
        let q = read (f.reports s) in
        let x = read told in
        ap (due_at g₀ id) (read_append (f.reports s) told)
        ∙ due_more g₀ id q x (λ ended. well.orderly.begun id ended) (coming_at s id named loud)
        ∙ ap (λ ws. ws ++ words x) (sym (plain_words D (due_plain g₀ id (f.reports s) well.plain)))
        ∙ sym (ap (λ r. words r) (read_append D told) ∙ words_append (read D) x)

    pub silent_owns : is_silent f.orders s ≡ true → AllByRecursion (λ r. begins g₀.epoch r ≡ false) (read told) → Owns true
    silent_owns silent none =
        let old = well.old s id named silent in
        let q = read (f.reports s) in
        ap (due_at g₀ id) (read_append (f.reports s) told)
        ∙ due_unbegun g₀ id (q ++ read told) (silent_part s id named silent) old.not_begun
        ∙ none_behind g₀.epoch (q ++ read told) (all_append (λ r. begins g₀.epoch r ≡ false) q (read told) old.begins_none none)

    pub hello_owns : is_silent f.orders s ≡ true → (n : ℕ) (rest : List ToManager) → told ≡ tell.Begin n ∷ rest → (n == g₀.epoch) ≡ true → Owns false
    hello_owns silent n rest is same =
        let old = well.old s id named silent in
        let q = read (f.reports s) in
        let part = silent_part s id named silent in
        let empty : D ≡ [] = due_unbegun g₀ id q part old.not_begun ∙ none_behind g₀.epoch q old.begins_none in
        ap (λ ws. due_at g₀ id (read (f.reports s ++ ws))) is
        ∙ ap (due_at g₀ id) (read_append (f.reports s) (tell.Begin n ∷ rest))
        ∙ due_unbegun g₀ id (q ++ Begin n ∷ read rest) part old.not_begun
        ∙ begun_behind g₀.epoch n q (read rest) old.begins_none same
        ∙ sym (ap (λ ws. words_of (D ++ ws)) is ∙ ap (λ d. words_of (d ++ tell.Begin n ∷ rest)) empty)

    module _ (g : ControlPlane) (plan : g.plan ≡ f.plan) (manager : g.manager ≡ f.manager) (here : g.reports s ≡ f.reports s ++ told)
        (others : (t : ℕ) → (t ≡ s → ⊥) → g.reports t ≡ f.reports t) (orders : (t : ℕ) → (t ≡ s → ⊥) → g.orders t ≡ f.orders t) (owns : Owns (is_silent g.orders s)) where
      at_others : (t : ℕ) → (t ≡ s → ⊥) → (due_plane g).reports t ≡ cond (is_silent g.orders t) [] (words_of ((due_plane f).reports t ++ added s told t))
      at_others t differ =
          due_same f g plan manager t (others t differ) ∙ as_due t ∙ (λ i. cond (list_any is_hello (same_orders i)) [] (words_of (nothing_more i)))
        where
          same_orders : f.orders t ≡ g.orders t
          same_orders = sym (orders t differ)

          nothing_more : (due_plane f).reports t ≡ (due_plane f).reports t ++ added s told t
          nothing_more = sym (ap (λ b. (due_plane f).reports t ++ (if b then told else [])) (ne_eqb t s differ) ∙ append-nil ((due_plane f).reports t))

      at_home : (due_plane g).reports s ≡ cond (is_silent g.orders s) [] (words_of ((due_plane f).reports s ++ added s told s))
      at_home =
          (λ i. due_of (manager i) (slice_get (plan i).ids s) (here i))
          ∙ ap (λ o. due_of f.manager o (f.reports s ++ told)) named
          ∙ owns
          ∙ sym (ap (λ o. cond (is_silent g.orders s) [] (words_of (due_of f.manager o (f.reports s) ++ added s told s))) named
          ∙ ap (λ b. cond (is_silent g.orders s) [] (words_of (D ++ (if b then told else [])))) (eq-eqb s s refl))

      pub is_sifted : IsSifted (told_plane f g s told) (due_plane g)
      is_sifted = record {
        alike = record { plan = refl; view = λ t. refl; says = λ t q. refl; carries = λ t q h. h };
        reports = λ t. elim (cases_eq t s) [
          | inl same ↦ subst (λ x. (due_plane g).reports x ≡ cond (is_silent g.orders x) [] (words_of ((due_plane f).reports x ++ added s told x))) (sym same) at_home
          | inr differ ↦ at_others t differ
        ];
        orders = λ t. refl;
        manager = refl;
      }
