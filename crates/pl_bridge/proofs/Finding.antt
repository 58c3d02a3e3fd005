-- The first of k ports that passes a test, sought port by port.
use Rattle.std.proofs.Common.{◌≡◌, ℕ, suc, ◌+◌, ◌-◌, ◌<◌, true, false, List, Option, None, Some, sym, ap, ◌∙◌, arith}
use Rattle.std.specs.List.{find, range_with_len}
use Rattle.std.proofs.lemmas.Bool.{cond-false, cond-true}
use Rattle.pl_frame.specs.declared.address.Mac.{Mac}
use Rattle.pl_node.specs.declared.switch_records.Member.{Member}
use Rattle.pl_bridge_rule.specs.BridgeRule.{port_among, stands_at}

-- the answer is what is found from this port on
abbrev pub IsFoundFrom : ℕ → List Member → Mac → ℕ → Type 0
IsFoundFrom k members mac port = (left : ℕ) → left + port ≡ k → port_among k members mac ≡ find (stands_at members mac) (range_with_len port left)

module _ (k : ℕ) (members : List Member) (mac : Mac) where
  pub from_first : IsFoundFrom k members mac 0
  unfolding port_among
  from_first left is = (let all : k ≡ left = omega arith in ap (λ n. find (stands_at members mac) (range_with_len 0 n)) all)

  pub from_next : (port : ℕ) → IsFoundFrom k members mac port → stands_at members mac port ≡ false → IsFoundFrom k members mac (port + 1)
  from_next port from none left is =
      from (suc left) (omega arith) ∙ cond-false (stands_at members mac port) (Some port) (find (stands_at members mac) (range_with_len (port + 1) left)) none

  pub found_here : (port : ℕ) → IsFoundFrom k members mac port → stands_at members mac port ≡ true → port < k → ◌≡◌ {A = Option ℕ} (Some port) (port_among k members mac)
  found_here port from is within =
      sym (from (suc (k - (port + 1))) (omega arith)
      ∙ cond-true (stands_at members mac port) (Some port) (find (stands_at members mac) (range_with_len (port + 1) (k - (port + 1)))) is)

  pub found_nowhere : (port : ℕ) → IsFoundFrom k members mac port → port ≡ k → ◌≡◌ {A = Option ℕ} None (port_among k members mac)
  found_nowhere port from all = sym (from 0 (omega arith))
