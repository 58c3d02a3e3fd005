-- What a command asks for, by the value of each of its items.
use Rattle.std.proofs.Common.{◌≡◌, ℕ, List, [], codes, Option, Some, None, ap, ◌∙◌}
use Rattle.std.specs.Option.{option_and_then}
use Rattle.pl_inputs.specs.declared.words.Network.{Network}
use Rattle.pl_inputs.specs.Words.{Given, Task, before, check_by, check_items, generate_by, generate_items, run_by, run_items, value_in, values_in, verify_by, verify_items}

abbrev pub value : Option (List Given) → List ℕ → Option (List ℕ)
value items name = option_and_then (value_in name) items

abbrev run_from : Network → Option (List ℕ) → Option (List ℕ) → Option (List ℕ) → Option (List ℕ) → Option Task
run_from network t s c o = option_and_then (run_by network) (before t (before s (before c (before o (Some [])))))

pub run_is : (network : Network) (items : Option (List Given)) (t s c o : Option (List ℕ)) →
    t ≡ value items (codes "--topology") → s ≡ value items (codes "--script") → c ≡ value items (codes "--captures") → o ≡ value items (codes "--out") →
    run_from network t s c o ≡ option_and_then (run_by network) (option_and_then (values_in run_items) items)
run_is network None t s c o is_t is_s is_c is_o = ap (λ x. run_from network x s c o) is_t
run_is network (Some items) t s c o is_t is_s is_c is_o =
    ap (λ x. run_from network x s c o) is_t
    ∙ ap (λ x. run_from network (value_in (codes "--topology") items) x c o) is_s
    ∙ ap (λ x. run_from network (value_in (codes "--topology") items) (value_in (codes "--script") items) x o) is_c
    ∙ ap (λ x. run_from network (value_in (codes "--topology") items) (value_in (codes "--script") items) (value_in (codes "--captures") items) x) is_o

abbrev check_from : Option (List ℕ) → Option Task
check_from topology = option_and_then check_by (before topology (Some []))

pub check_is : (items : Option (List Given)) (topology : Option (List ℕ)) → topology ≡ value items (codes "--topology") →
    check_from topology ≡ option_and_then check_by (option_and_then (values_in check_items) items)
check_is None topology is = ap check_from is
check_is (Some items) topology is = ap check_from is

abbrev generate_from : Option (List ℕ) → Option (List ℕ) → Option (List ℕ) → Option Task
generate_from k n f = option_and_then generate_by (before k (before n (before f (Some []))))

pub generate_is : (items : Option (List Given)) (k n f : Option (List ℕ)) →
    k ≡ value items (codes "--k") → n ≡ value items (codes "--number") → f ≡ value items (codes "--frames") →
    generate_from k n f ≡ option_and_then generate_by (option_and_then (values_in generate_items) items)
generate_is None k n f is_k is_n is_f = ap (λ x. generate_from x n f) is_k
generate_is (Some items) k n f is_k is_n is_f =
    ap (λ x. generate_from x n f) is_k
    ∙ ap (λ x. generate_from (value_in (codes "--k") items) x f) is_n
    ∙ ap (λ x. generate_from (value_in (codes "--k") items) (value_in (codes "--number") items) x) is_f

abbrev verify_from : Option (List ℕ) → Option (List ℕ) → Option Task
verify_from topology journal = option_and_then verify_by (before topology (before journal (Some [])))

pub verify_is : (items : Option (List Given)) (topology journal : Option (List ℕ)) → topology ≡ value items (codes "--topology") →
    journal ≡ value items (codes "--journal") →
    verify_from topology journal ≡ option_and_then verify_by (option_and_then (values_in verify_items) items)
verify_is None topology journal is_topology is_journal = ap (λ x. verify_from x journal) is_topology
verify_is (Some items) topology journal is_topology is_journal =
    ap (λ x. verify_from x journal) is_topology ∙ ap (λ x. verify_from (value_in (codes "--topology") items) x) is_journal
