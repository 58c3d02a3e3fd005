-- What is told of the links since the switch stood as it did.
use Rattle.std.proofs.Common.{◌≡◌, ℕ, zero, suc, ◌+◌, ◌<◌, ◌≤◌, Bool, true, false, cond, List, [], ◌∷◌, ◌++◌, refl, ap, ◌∙◌, subst, inl, inr, append_assoc, arith}
use Rattle.std.specs.Prelude.{if◌then◌else◌, ◌==◌}
use Rattle.std.specs.List.{filter, flat_map, list_any, range_with_len}
use Rattle.std.proofs.lemmas.Bool.{cases_eq, eq-eqb, ne_eqb}
use Rattle.pl_node.specs.declared.acts.Act.{Act}
use Rattle.pl_node.specs.PortRecords.{id_at, is_usable, ports_of_switch}
use Rattle.pl_node.specs.SwitchViews.{SwitchView}
use Rattle.pl_journal.specs.Places.{are_alike}
use Rattle.pl_steps.specs.PortsTold.{at_each_port}
use Rattle.pl_switch_rule.specs.Telling.{changes_told, link_to, link_told, place_told, pod_wanted}
use Rattle.pl_ports.specs.declared.standing.Standing.{Standing}
use Rattle.pl_ports.specs.Standings.{IsStandingOf, link_told_since}

module _ (test : ℕ → Bool) where
  abbrev kept : ℕ → ℕ → List ℕ
  kept a n = filter test (range_with_len a n)

  any_below : (port a n : ℕ) → port < a → list_any (λ p. p == port) (kept a n) ≡ false
  any_below port a zero h = refl
  any_below port a (suc n) h =
      elim (test a) as (λ b. list_any (λ p. p == port) (cond b (a ∷ kept (a + 1) n) (kept (a + 1) n)) ≡ false) [
        | true ↦ rw (ne_eqb a port (omega arith)) (any_below port (a + 1) n (omega arith))
        | false ↦ any_below port (a + 1) n (omega arith)
      ]

  any_first : (a n : ℕ) → list_any (λ p. p == a) (kept a (suc n)) ≡ test a
  any_first a n =
      elim (test a) as (λ b. list_any (λ p. p == a) (cond b (a ∷ kept (a + 1) n) (kept (a + 1) n)) ≡ b) [
        | true ↦ rw (eq-eqb a a refl) refl
        | false ↦ any_below a (a + 1) n (omega arith)
      ]

  -- a port of the switch is among those that pass where it passes
  pub any_within : (port a n : ℕ) → a ≤ port → port < a + n → list_any (λ p. p == port) (kept a n) ≡ test port
  any_within port a zero h k = absurd (omega arith)
  any_within port a (suc n) h k =
      elim (cases_eq a port) [
        | inl same ↦ subst (λ q. list_any (λ p. p == q) (kept a (suc n)) ≡ test q) same (any_first a n)
        | inr apart ↦
            let rest = any_within port (a + 1) n (omega arith) (omega arith) in
            elim (test a) as (λ b. list_any (λ p. p == port) (cond b (a ∷ kept (a + 1) n) (kept (a + 1) n)) ≡ test port) [
              | true ↦ rw (ne_eqb a port (omega arith)) rest
              | false ↦ rest
            ]
      ]

-- what is told alike at each port
told_alike : (f g : ℕ → List Act) (a n : ℕ) → ((port : ℕ) → a ≤ port → port < a + n → f port ≡ g port) →
    flat_map f (range_with_len a n) ≡ flat_map g (range_with_len a n)
told_alike f g a zero h = refl
told_alike f g a (suc n) h =
    ap (λ acts. acts ++ flat_map f (range_with_len (a + 1) n)) (h a (omega arith) (omega arith))
    ∙ ap (λ acts. g a ++ acts) (told_alike f g (a + 1) n (λ port low high. h port (omega arith) (omega arith)))

links_told : (before : Standing) (old new : SwitchView) → old.k ≡ new.k → IsStandingOf before old →
    at_each_port (link_told_since before.usable new) new.k ≡ flat_map (link_told old new) (ports_of_switch new.k)
links_told before old new same stood =
    told_alike (link_told_since before.usable new) (link_told old new) 0 new.k
    (λ port low high. ap (λ b. if are_alike b (is_usable new port) then [] else link_to (id_at new port) (is_usable new port))
    (ap (λ ports. list_any (λ p. p == port) ports) stood.usable ∙ any_within (is_usable old) port 0 old.k low (omega arith)))

pub all_told : (before : Standing) (old new : SwitchView) (out : List Act) → old.k ≡ new.k → IsStandingOf before old →
    ((out ++ place_told before.place new.place) ++ at_each_port (link_told_since before.usable new) new.k) ++ pod_wanted before.place new.place
    ≡ out ++ changes_told old new
all_told before old new out same stood =
    ap (λ place. ((out ++ place_told place new.place) ++ at_each_port (link_told_since before.usable new) new.k) ++ pod_wanted place new.place) stood.place
    ∙ ap (λ links. ((out ++ place_told old.place new.place) ++ links) ++ pod_wanted old.place new.place) (links_told before old new same stood)
    ∙ ap (λ acts. acts ++ pod_wanted old.place new.place) (append_assoc out (place_told old.place new.place) (flat_map (link_told old new) (ports_of_switch new.k)))
    ∙ append_assoc out (place_told old.place new.place ++ flat_map (link_told old new) (ports_of_switch new.k)) (pod_wanted old.place new.place)
