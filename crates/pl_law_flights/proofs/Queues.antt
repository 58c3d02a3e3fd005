-- Queues that change: an item is put, a head is taken, a queue is emptied.
use Rattle.std.proofs.Common.{ℕ, ◌<◌, List, [], ◌∷◌, ◌++◌, length, get_or, set, sym, subst, inl, inr}
use Rattle.std.specs.List.{AllByRecursion}
use Rattle.std.proofs.lemmas.Bool.{cases_eq, cases_lt}
use Rattle.std.proofs.lemmas.List.{get_or-set_other, get_or-set_same, set_past}
use Rattle.std.proofs.lemmas.Nat.{same_from_place}
use Rattle.pl_lemmas.proofs.Exports.{all_append}
use Rattle.pl_wiring.specs.Index.{port_index}
use Rattle.pl_wiring.specs.Plan.{Plan}
use Rattle.pl_layouts.specs.declared.place.Place.{Place}
use Rattle.pl_journal.specs.declared.entry.Entry.{Entry}
use Rattle.pl_world.specs.declared.item.Item.{Item}
use Rattle.pl_law_flights.specs.OnTheWay.{Flying, IsOut, IsWaiting}

-- another list at one place
pub set_there : {T : Type 0} (P : List T → Type 0) (queues : List (List T)) (n : ℕ) (queue : List T) → P (get_or queues n []) → P queue →
    P (get_or (set queues n queue) n [])
set_there P queues n queue old new = elim (cases_lt n (length queues)) [
  | inl within ↦ subst P (sym (get_or-set_same queues n queue [] within)) new
  | inr past ↦ rw (set_past queues n queue past) old
]

module _ (plan : Plan) (place : ℕ → Place) (past : List Entry) (from_hosts out : List (List Item)) where
  pub set_out : (s port : ℕ) (queue : List Item) → port < plan.k → AllByRecursion (IsOut plan place past s port) queue →
      Flying plan place past from_hosts out → Flying plan place past from_hosts (set out (port_index plan.k s port) queue)
  set_out s port queue within all f = record {
    waiting = f.waiting;
    going = λ t q below. elim (cases_eq (port_index plan.k t q) (port_index plan.k s port)) [
      | inl same ↦
          let both = same_from_place t q s port plan.k below within same in
          let P : ℕ → ℕ → Type 0 = λ a b. AllByRecursion (IsOut plan place past a b) (get_or (set out (port_index plan.k s port) queue) (port_index plan.k a b) []) in
          let here : P s port = set_there (λ items. AllByRecursion (IsOut plan place past s port) items) out (port_index plan.k s port) queue (f.going s port within) all in
          subst (λ a. P a q) (sym both.0) (subst (λ b. P s b) (sym both.1) here)
      | inr other ↦ subst (λ items. AllByRecursion (IsOut plan place past t q) items)
          (sym (get_or-set_other out (port_index plan.k s port) (port_index plan.k t q) queue [] other)) (f.going t q below)
    ];
  }

  pub put_out : (s port : ℕ) (item : Item) → port < plan.k → IsOut plan place past s port item →
      Flying plan place past from_hosts out →
      Flying plan place past from_hosts (set out (port_index plan.k s port) (get_or out (port_index plan.k s port) [] ++ item ∷ []))
  put_out s port item within is f =
      set_out s port _ within (all_append (IsOut plan place past s port) (get_or out (port_index plan.k s port) []) (item ∷ []) (f.going s port within) (is, tt)) f

  pub set_host : (h : ℕ) (queue : List Item) → AllByRecursion (IsWaiting plan past h) queue →
      Flying plan place past from_hosts out → Flying plan place past (set from_hosts h queue) out
  set_host h queue all f = record {
    waiting = λ g. elim (cases_eq g h) [
      | inl same ↦
          let here = set_there (λ items. AllByRecursion (IsWaiting plan past h) items) from_hosts h queue (f.waiting h) all in
          subst (λ n. AllByRecursion (IsWaiting plan past n) (get_or (set from_hosts h queue) n [])) (sym same) here
      | inr other ↦ subst (λ items. AllByRecursion (IsWaiting plan past g) items) (sym (get_or-set_other from_hosts h g queue [] other)) (f.waiting g)
    ];
    going = f.going;
  }

  pub put_host : (h : ℕ) (item : Item) → IsWaiting plan past h item → Flying plan place past from_hosts out →
      Flying plan place past (set from_hosts h (get_or from_hosts h [] ++ item ∷ [])) out
  put_host h item is f =
      set_host h _ (all_append (IsWaiting plan past h) (get_or from_hosts h []) (item ∷ []) (f.waiting h) (is, tt)) f
