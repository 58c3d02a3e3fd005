-- A loop over the ports of a switch, one port further.
use Rattle.std.proofs.Common.{◌≡◌, ℕ, ◌+◌, Bool, true, false, if◌then◌else◌, List, [], ◌∷◌, ◌++◌, map, refl, sym, ap, ◌∙◌, add-one, arith, cond, suc, zero, ◌-◌}
use Rattle.std.proofs.lemmas.List.{append-nil, flat_map_more}
use Rattle.std.specs.List.{filter, flat_map, range_with_len}
use Rattle.std.specs.BTreeSet.{insert_key}
use Rattle.std.specs.Ordering.{nat_cmp}
use Rattle.std.proofs.lemmas.Bool.{le-ltb, ne_eqb}
use Rattle.std.proofs.lemmas.List.Elements.{filter-append}
use Rattle.pl_lemmas.proofs.Exports.{range_more}
use Rattle.pl_node.specs.declared.acts.Act.{Act}
use Rattle.pl_node.specs.PortRecords.{ports_of_switch}
use Rattle.pl_steps.specs.PortsTold.{at_each_port, done_where}

pub ports_more : (n : ℕ) → ports_of_switch (n + 1) ≡ ports_of_switch n ++ n ∷ []
ports_more n = rw add-one (range_more 0 n ∙ ap (λ x. range_with_len 0 n ++ x ∷ []) (omega arith))

-- the invariant of a loop that tells at each port
pub told_more : (told : ℕ → List Act) (out : List Act) (n : ℕ) → (out ++ at_each_port told n) ++ told n ≡ out ++ at_each_port told (n + 1)
told_more told out n = flat_map_more told out (ports_of_switch n) n ∙ ap (λ ports. out ++ flat_map told ports) (sym (ports_more n))

done_at : (test : ℕ → Bool) (act : ℕ → Act) (ports : List ℕ) → flat_map (done_where test act) ports ≡ map act (filter test ports)
done_at test act [] = refl
done_at test act (port ∷ ports) = elim (test port) as (λ b. (if b then act port ∷ [] else []) ++ flat_map (done_where test act) ports ≡ map act (if b then port ∷ filter test ports else filter test ports)) [
  | true ↦ ap (λ acts. act port ∷ acts) (done_at test act ports)
  | false ↦ done_at test act ports
]

pub told_where : (test : ℕ → Bool) (act : ℕ → Act) (k : ℕ) → at_each_port (done_where test act) k ≡ map act (filter test (ports_of_switch k))
told_where test act k = done_at test act (ports_of_switch k)

-- the number behind a range goes behind those kept of it
pub insert_last : (has : ℕ → Bool) (a n j : ℕ) → a + n ≡ j
    → insert_key nat_cmp (filter has (range_with_len a n)) j ≡ filter has (range_with_len a n) ++ j ∷ []
insert_last has a zero j h = refl
insert_last has a (suc n) j h =
    let rest = insert_last has (a + 1) n j (omega arith) in
    elim (has a) as (λ b. insert_key nat_cmp (cond b (a ∷ filter has (range_with_len (a + 1) n)) (filter has (range_with_len (a + 1) n))) j
    ≡ cond b (a ∷ filter has (range_with_len (a + 1) n)) (filter has (range_with_len (a + 1) n)) ++ j ∷ []) [
      | true ↦ rw (le-ltb j a (omega arith), ne_eqb j a (omega arith)) (ap (λ l. a ∷ l) rest)
      | false ↦ rest
    ]

-- the ports that pass of one port more
pub passed_next : (passes : ℕ → Bool) (n : ℕ)
    → filter passes (ports_of_switch (n + 1)) ≡ filter passes (ports_of_switch n) ++ (if passes n then n ∷ [] else [])
passed_next passes n = ap (filter passes) (ports_more n) ∙ filter-append passes (ports_of_switch n) (n ∷ [])

pub passing_ports_more : (passes : ℕ → Bool) (n : ℕ)
    → (if passes n then insert_key nat_cmp (filter passes (ports_of_switch n)) n else filter passes (ports_of_switch n)) ≡ filter passes (ports_of_switch (n + 1))
passing_ports_more passes n =
    elim (passes n) as (λ b. (if b then insert_key nat_cmp (filter passes (ports_of_switch n)) n else filter passes (ports_of_switch n))
    ≡ filter passes (ports_of_switch n) ++ (if b then n ∷ [] else [])) [
      | true ↦ insert_last passes 0 n n (omega arith)
      | false ↦ sym (append-nil (filter passes (ports_of_switch n)))
    ]
    ∙ sym (passed_next passes n)
