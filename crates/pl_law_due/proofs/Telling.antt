-- Where a switch tells something, the reports are gathered in order still.
use Rattle.std.proofs.Common.{◌≡◌, ℕ, ◌==◌, true, false, List, [], ◌∷◌, ◌++◌, Some, slice_get, sym, ap, subst, ◌∙◌, inl, inr}
use Rattle.std.specs.List.{AllByRecursion, list_any}
use Rattle.std.proofs.lemmas.Bool.{cases_eq, false≢true}
use Rattle.std.proofs.lemmas.Option.{same_Some}
use Rattle.pl_lemmas.proofs.Exports.{all_append}
use Rattle.pl_frame.specs.declared.address.SwitchId.{SwitchId}
use Rattle.pl_gathering.specs.Gathering.{Gathered, is_among, is_whole}
use Rattle.pl_gathering.specs.Gathering.Report.{Begin}
use Rattle.pl_gathering.specs.Orderly.{AreComing, begins, has, will_end}
use Rattle.pl_node.specs.declared.messages.ToManager.{ToManager}
use Rattle.pl_node.specs.declared.messages.ToManager.TheVariants as tell
use Rattle.pl_node.specs.declared.messages.ToSwitch.{ToSwitch}
use Rattle.pl_node.specs.ManagerViews.{ManagerView}
use Rattle.pl_manager_rule.specs.Treating.{Treating}
use Rattle.pl_manager_rule.specs.WholeRule.{gathered}
use Rattle.pl_law_due.specs.Due.{is_hello, is_silent, queue_of, read, silent_of}
use Rattle.pl_law_due.specs.Gathering.{GathersBy, IsHelloAlone, IsOld}
use Rattle.pl_law_due.proofs.Ids.{AreApart, at_named, there_named}
use Rattle.pl_law_due.proofs.Words.{ends_still, read_append, report_coming}

-- What a switch may tell: one that is not silent anything; one that is and stays silent, that no report begins; and one that hears of the epoch, its report.
pub data MayTell (epoch : ℕ) (before after : List ToSwitch) (told : List ToManager) : Type 0 where
  Loud : list_any is_hello before ≡ false → list_any is_hello after ≡ false → MayTell epoch before after told
  Silent : list_any is_hello before ≡ true → list_any is_hello after ≡ true → AllByRecursion (λ r. begins epoch r ≡ false) (read told) → MayTell epoch before after told
  Greeted : list_any is_hello before ≡ true → list_any is_hello after ≡ false → (n : ℕ) (rest : List ToManager) → told ≡ tell.Begin n ∷ (rest ++ tell.End n ∷ []) →
      (n == epoch) ≡ true → MayTell epoch before after told

module _ (ids : List SwitchId) (apart : AreApart ids) (manager : ManagerView) (reports : ℕ → List ToManager) (orders : ℕ → List ToSwitch)
    (well : GathersBy ids manager reports orders) (s : ℕ) (id : SwitchId) (named : slice_get ids s ≡ Some id) (told : List ToManager)
    (then_reports : ℕ → List ToManager) (then_orders : ℕ → List ToSwitch) where
  abbrev g₀ : Gathered Treating ToManager
  g₀ = gathered manager

  abbrev May : Type 0
  May = MayTell manager.epoch (orders s) (then_orders s) told

  module _ (may : May) (here : then_reports s ≡ reports s ++ told) (others : (t : ℕ) → (t ≡ s → ⊥) → then_reports t ≡ reports t)
      (other_orders : (t : ℕ) → (t ≡ s → ⊥) → then_orders t ≡ orders t)
      (alone : is_whole g₀ ≡ false → IsHelloAlone manager.epoch (orders s) → IsHelloAlone manager.epoch (then_orders s)) where
    silent_at : (n : ℕ) (t : SwitchId) → slice_get ids n ≡ Some t → silent_of ids orders t ≡ is_silent orders n
    silent_at n t named_t = at_named false ids apart (is_silent orders) n t named_t

    silent_then : (n : ℕ) (t : SwitchId) → slice_get ids n ≡ Some t → silent_of ids then_orders t ≡ is_silent then_orders n
    silent_then n t named_t = at_named false ids apart (is_silent then_orders) n t named_t

    was_coming : (n : ℕ) (t : SwitchId) → slice_get ids n ≡ Some t → has ids t ≡ true → is_silent orders n ≡ false → is_whole g₀ ≡ false → is_among t g₀.ended ≡ false →
        will_end g₀.epoch (is_among t g₀.begun) (read (reports n)) ≡ true
    was_coming n t named_t known loud part missing =
        subst (λ q. will_end g₀.epoch (is_among t g₀.begun) q ≡ true) (at_named [] ids apart (λ i. read (reports i)) n t named_t)
        (well.coming t known (silent_at n t named_t ∙ loud) part missing)

    own_coming : has ids id ≡ true → is_silent then_orders s ≡ false → is_whole g₀ ≡ false → is_among id g₀.ended ≡ false →
        will_end g₀.epoch (is_among id g₀.begun) (read (then_reports s)) ≡ true
    own_coming known loud part missing = ap (λ q. will_end g₀.epoch (is_among id g₀.begun) (read q)) here ∙ ap (will_end g₀.epoch (is_among id g₀.begun)) (read_append (reports s) told) ∙ by may
      where
        by : May → will_end g₀.epoch (is_among id g₀.begun) (read (reports s) ++ read told) ≡ true
        by (Loud before now) = ends_still g₀.epoch (is_among id g₀.begun) (read (reports s)) (read told) (was_coming s id named known before part missing)
        by (Silent before silent none) = absurd (false≢true (sym loud ∙ silent))
        by (Greeted silent now n rest report same) =
            let old = well.old s id named silent in
            ap (λ b. will_end g₀.epoch b (read (reports s) ++ read told)) old.not_begun
            ∙ ap (λ ws. will_end g₀.epoch false (read (reports s) ++ read ws)) report
            ∙ ap (λ q. will_end g₀.epoch false (read (reports s) ++ Begin n ∷ q)) (read_append rest (tell.End n ∷ []))
            ∙ report_coming g₀.epoch n (read (reports s)) (read rest) old.begins_none same

    coming_then : AreComing ids g₀ (silent_of ids then_orders) (queue_of ids then_reports)
    coming_then t known loud part missing =
        let it = there_named ids t known in
        subst (λ q. will_end g₀.epoch (is_among t g₀.begun) q ≡ true) (sym (at_named [] ids apart (λ i. read (then_reports i)) it.0 t it.1))
        (elim (cases_eq it.0 s) [
          | inl same ↦
              let one : t ≡ id = same_Some t id (sym it.1 ∙ ap (slice_get ids) same ∙ named) in
              subst (λ u. will_end g₀.epoch (is_among u g₀.begun) (read (then_reports it.0)) ≡ true) (sym one)
              (subst (λ n. will_end g₀.epoch (is_among id g₀.begun) (read (then_reports n)) ≡ true) (sym same)
              (own_coming (subst (λ u. has ids u ≡ true) one known) (ap (is_silent then_orders) (sym same) ∙ sym (silent_then it.0 t it.1) ∙ loud) part
              (subst (λ u. is_among u g₀.ended ≡ false) one missing)))
          | inr differ ↦
              ap (λ q. will_end g₀.epoch (is_among t g₀.begun) (read q)) (others it.0 differ)
              ∙ was_coming it.0 t it.1 known (ap (list_any is_hello) (sym (other_orders it.0 differ)) ∙ sym (silent_then it.0 t it.1) ∙ loud) part missing
        ])

    own_old : is_silent then_orders s ≡ true → IsOld g₀ id (read (then_reports s))
    own_old silent_now = by may
      where
        by : May → IsOld g₀ id (read (then_reports s))
        by (Loud before then_loud) = absurd (false≢true (sym then_loud ∙ silent_now))
        by (Greeted before then_loud n rest report same) = absurd (false≢true (sym then_loud ∙ silent_now))
        by (Silent silent still none) =
            let old = well.old s id named silent in
            record {
              not_begun = old.not_begun;
              begins_none = subst (AllByRecursion (λ r. begins g₀.epoch r ≡ false)) (sym (ap read here ∙ read_append (reports s) told))
                  (all_append (λ r. begins g₀.epoch r ≡ false) (read (reports s)) (read told) old.begins_none none);
            }

    pub told_well : GathersBy ids manager then_reports then_orders
    told_well = record {
      orderly = well.orderly;
      plain = well.plain;
      coming = coming_then;
      old = λ n t named_t silent. elim (cases_eq n s) [
        | inl same ↦
            let one : id ≡ t = same_Some id t (sym named ∙ ap (slice_get ids) (sym same) ∙ named_t) in
            subst (λ u. IsOld g₀ u (read (then_reports n))) one
            (subst (λ x. IsOld g₀ id (read (then_reports x))) (sym same) (own_old (ap (is_silent then_orders) (sym same) ∙ silent)))
        | inr differ ↦
            subst (λ q. IsOld g₀ t (read q)) (sym (others n differ)) (well.old n t named_t (ap (list_any is_hello) (sym (other_orders n differ)) ∙ silent))
      ];
      anew = λ part.
          let before = well.anew part in
          record {
            knows_nothing = before.knows_nothing;
            orders_alone = λ n t named_t. elim (cases_eq n s) [
              | inl same ↦ subst (λ x. IsHelloAlone manager.epoch (then_orders x)) (sym same) (alone part (before.orders_alone s id named))
              | inr differ ↦ subst (IsHelloAlone manager.epoch) (sym (other_orders n differ)) (before.orders_alone n t named_t)
            ];
          };
      loud = λ whole n t named_t. elim (cases_eq n s) [
        | inl same ↦ ap (is_silent then_orders) same ∙ own_loud may (well.loud whole s id named)
        | inr differ ↦ ap (list_any is_hello) (other_orders n differ) ∙ well.loud whole n t named_t
      ];
    }
      where
        own_loud : May → is_silent orders s ≡ false → is_silent then_orders s ≡ false
        own_loud (Loud before now) loud = now
        own_loud (Greeted before now n rest report same) loud = now
        own_loud (Silent before now none) loud = absurd (false≢true (sym loud ∙ before))
