-- Names of switches and hosts, and words of a list.
use Rattle.std.proofs.Common.{◌≡◌, ◌≢◌, ℕ, zero, suc, ◌<◌, Bool, true, false, cond, List, [], ◌∷◌, length, get_or, slice_get, Option, Some, None, sym, ap, subst, ◌∙◌, inl, inr, arith}
use Rattle.std.specs.List.{Contains, find}
use Rattle.std.specs.Option.{IfSome, IfNone, option_map_or}
use Rattle.std.specs.Prelude.{All}
use Rattle.std.specs.Str.{bytes_eq}
use Rattle.std.proofs.lemmas.Bool.{cases_Bool, false≢true}
use Rattle.std.proofs.lemmas.Option.{slice_get_cases}
use Rattle.std.proofs.lemmas.Slice.Eq.{bytes_eq-Decides}
use Rattle.pl_wiring.specs.declared.host.Host.{Host}
use Rattle.pl_wiring.specs.declared.host.HostNo.{HostNo}
use Rattle.pl_wiring.specs.declared.label.Label.{Label}
use Rattle.pl_wiring.specs.declared.label.SwitchNo.{SwitchNo}
use Rattle.pl_wiring.specs.Labels.{IsLabel, label_of, label_text, switch_count}
use Rattle.pl_wiring.specs.Plan.{HasHost, IsPlan, Plan}
use Rattle.pl_wiring.proofs.Exports.{label_of-IsLabel}
use Rattle.pl_journal.specs.Text.{IsHost, IsSwitch, host_text, switch_text}
use Rattle.pl_journal_text.specs.Reading.{Reads}

pub switch_read : (plan : Plan) (text : List ℕ) (r : Option SwitchNo) → IsPlan plan →
    IfSome r (λ s. (s.0 < switch_count plan.k) × (text ≡ label_text (label_of plan.k s.0))) → IfNone r ((label : Label) → IsLabel plan.k label → text ≢ label_text label) →
    Reads (λ (s : SwitchNo). switch_text plan s.0) (λ s. IsSwitch plan s.0) text r
switch_read plan text (Some s) is found none = found
switch_read plan text None is found none = λ s there.
    let least = is.arity.least in
    none (label_of plan.k s.0) (label_of-IsLabel plan.k s.0 (omega arith) there)

name_at : (plan : Plan) (n : ℕ) (h : Host) → slice_get plan.hosts n ≡ Some h → host_text plan n ≡ h.name
name_at plan n h is = ap (λ o. option_map_or (λ (h : Host). h.name) o []) is

pub host_read : (plan : Plan) (text : List ℕ) (r : Option HostNo) →
    IfSome r (λ host. HasHost plan host.0 (λ h. h.name ≡ text)) → IfNone r (All (λ h. h.name ≢ text) plan.hosts) →
    Reads (λ (h : HostNo). host_text plan h.0) (λ h. IsHost plan h.0) text r
host_read plan text (Some host) found none =
    elim (slice_get_cases plan.hosts host.0).1 [
      | inl there ↦ (found.0, sym (name_at plan host.0 there.0 there.2 ∙ subst (λ (h : Host). h.name ≡ text) there.3 (found.1 there.0)))
      | inr past ↦ let e = found.0 in let l = past.0 in absurd (omega arith)
    ]
host_read plan text None found none = λ host within same.
    elim (slice_get_cases plan.hosts host.0).1 [
      | inl there ↦ subst (λ (h : Host). h.name ≢ text) there.3 (none host.0 there.0 there.1) (sym (same ∙ name_at plan host.0 there.0 there.2))
      | inr past ↦ let l = past.0 in absurd (omega arith)
    ]

find_passes : {A : Type 0} (p : A → Bool) (xs : List A) (x : A) → find p xs ≡ Some x → p x ≡ true
find_passes p [] x is = absurd (cc)
find_passes p (y ∷ xs) x is = elim (cases_Bool (p y)) [
  | inl yes_it ↦
      let e : Some y ≡ Some x = sym (ap (λ t. cond t (Some y) (find p xs)) yes_it) ∙ is in
      let same : y ≡ x = (cc) in
      subst (λ z. p z ≡ true) same yes_it
  | inr no_it ↦ find_passes p xs x (sym (ap (λ t. cond t (Some y) (find p xs)) no_it) ∙ is)
]

find_fails : {A : Type 0} (p : A → Bool) (xs : List A) → find p xs ≡ None → (x : A) → Contains xs x → p x ≡ false
find_fails p [] is x there = let within = there.1 in absurd (omega arith)
find_fails {A = A} p (y ∷ xs) is x there = elim (cases_Bool (p y)) [
  | inl yes_it ↦
      let e : Some y ≡ None = sym (ap (λ t. cond t (Some y) (find p xs)) yes_it) ∙ is in
      absurd (cc)
  | inr no_it ↦ at_place there.0 there.1 there.2 no_it (sym (ap (λ t. cond t (Some y) (find p xs)) no_it) ∙ is) (find_fails p xs)
]
  where
    at_place : (i : ℕ) → i < length (y ∷ xs) → get_or (y ∷ xs) i x ≡ x → p y ≡ false → find p xs ≡ None →
        (find p xs ≡ None → (x : A) → Contains xs x → p x ≡ false) → p x ≡ false
    at_place zero within same no_it rest again = subst (λ z. p z ≡ false) same no_it
    at_place (suc i) within same no_it rest again = again rest x (i, omega arith, same)

-- one of a list of words
pub word_read : {A : Type 0} (spelling : A → List ℕ) (all : List A) (text : List ℕ) (r : Option A) → ((x : A) → Contains all x) →
    r ≡ find (λ x. bytes_eq (spelling x) text) all → Reads spelling (λ _. Unit {0}) text r
word_read spelling all text (Some x) each is =
    (tt, sym ((bytes_eq-Decides (spelling x) text).0 (find_passes (λ x. bytes_eq (spelling x) text) all x (sym is))))
word_read spelling all text None each is = λ x fits same.
    false≢true (sym (find_fails (λ x. bytes_eq (spelling x) text) all (sym is) x (each x)) ∙ (bytes_eq-Decides (spelling x) text).1 (sym same))
