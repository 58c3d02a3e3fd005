-- Nodes of a slab that leave their chain, or come to the end of one.
use Rattle.std.proofs.Common.{◌≡◌, ◌≢◌, ℕ, ◌+◌, ◌-◌, ◌<◌, List, [], ◌∷◌, ◌++◌, length, Option, None, Some, is_some, true, option_map, slice_index, refl, sym, ap, ◌∙◌, inl, inr, arith}
use Rattle.std.specs.Option.{option_map_or}
use Rattle.std.proofs.lemmas.Bool.{cases_eq, cases_lt}
use Rattle.slab.specs.Slab.{Slab, get, ContainsKey}
use Rattle.pl_pool.specs.declared.links.Node.{Node}
use Rattle.pl_pool.specs.declared.links.Ends.{Ends}
use Rattle.pl_pool.specs.Chains.{IsChain, IsChainIn, IsAmong, owner_of, next_of, prev_of, Relinks, LeadsOn, LeadsBack, KeepsOthers}
use Rattle.pl_pool.proofs.Chains.{among_with, length_with, chain_left, chain_longer}

-- what a chain says of the neighbours of its slots
module _ (owner : ℕ → Option ℕ) (next prev : ℕ → ℕ) (list : ℕ) (ends : Ends) (slots : List ℕ) (chain : IsChain owner next prev list ends slots) where
  pub slot_owned : (slot : ℕ) → IsAmong slot slots → owner slot ≡ Some list
  slot_owned slot among = ap owner (sym among.2) ∙ chain.owned among.0 among.1

  pub last_owned : 0 < ends.len → owner ends.last ≡ Some list
  last_owned some =
      ap owner (chain.last (length slots - 1) (omega (arith, chain.counted))) ∙ chain.owned (length slots - 1) (omega (arith, chain.counted))

  pub prev_owned : (slot : ℕ) → IsAmong slot slots → ends.first ≢ slot → owner (prev slot) ≡ Some list
  prev_owned slot among inside =
      elim (cases_lt 0 among.0) [
        | inl some ↦
            let at : among.0 - 1 + 1 ≡ among.0 = omega arith in
            ap owner (ap prev (sym among.2 ∙ ap (slice_index slots) (sym at)) ∙ chain.prevs (among.0 - 1) (omega (arith, among.1)))
            ∙ chain.owned (among.0 - 1) (omega (arith, among.1))
        | inr none ↦
            let at : 0 ≡ among.0 = omega arith in
            absurd (inside (chain.first (omega (arith, among.1)) ∙ ap (slice_index slots) at ∙ among.2))
      ]

  pub next_owned : (slot : ℕ) → IsAmong slot slots → ends.last ≢ slot → owner (next slot) ≡ Some list
  next_owned slot among inside =
      elim (cases_lt (among.0 + 1) (length slots)) [
        | inl some ↦ ap owner (ap next (sym among.2) ∙ chain.nexts among.0 some) ∙ chain.owned (among.0 + 1) some
        | inr none ↦ absurd (inside (chain.last among.0 (omega (arith, among.1)) ∙ among.2))
      ]

module _ {T : Type 0} where
  some_there : (o : Option (Node T)) (list : ℕ) → option_map (λ (n : Node T). n.list) o ≡ Some list → is_some o ≡ true
  some_there None list e = absurd (cc)
  some_there (Some n) list e = refl

  pub owned_is_there : (nodes : Slab (Node T)) (slot list : ℕ) → owner_of nodes slot ≡ Some list → ContainsKey nodes slot
  owned_is_there nodes slot list owned = some_there (get nodes slot) list owned

  pub prev_of_node : (nodes : Slab (Node T)) (slot : ℕ) (node : Node T) → get nodes slot ≡ Some node → prev_of nodes slot ≡ node.prev
  prev_of_node nodes slot node is = ap (λ (o : Option (Node T)). option_map_or (λ (n : Node T). n.prev) o 0) is

  pub next_of_node : (nodes : Slab (Node T)) (slot : ℕ) (node : Node T) → get nodes slot ≡ Some node → next_of nodes slot ≡ node.next
  next_of_node nodes slot node is = ap (λ (o : Option (Node T)). option_map_or (λ (n : Node T). n.next) o 0) is

  pub owner_of_node : (nodes : Slab (Node T)) (slot : ℕ) (node : Node T) → get nodes slot ≡ Some node → owner_of nodes slot ≡ Some node.list
  owner_of_node nodes slot node is = ap (λ (o : Option (Node T)). option_map (λ (n : Node T). n.list) o) is

  pub Relinks-both : (a b c : Slab (Node T)) → Relinks a b → Relinks b c → Relinks a c
  Relinks-both a b c f g =
      record {
        owners = λ k. g.owners k ∙ f.owners k;
        items = λ k. g.items k ∙ f.items k;
        len = g.len ∙ f.len;
        capacity = g.capacity ∙ f.capacity;
      }

  -- a node is led past from both sides
  module _ (nodes one two : Slab (Node T)) (ends ends1 ends2 : Ends) (slot prev next : ℕ)
      (prev_is : prev_of nodes slot ≡ prev) (next_is : next_of nodes slot ≡ next)
      (relinks1 : Relinks nodes one) (prevs1 : (k : ℕ) → prev_of one k ≡ prev_of nodes k)
      (rest1 : (ends1.last ≡ ends.last) × (ends1.len ≡ ends.len))
      (first : ends.first ≡ slot → (one ≡ nodes) × (ends1 ≡ record ends { first = next }))
      (inside : ends.first ≢ slot → (ends1 ≡ ends) × LeadsOn nodes one prev next)
      (relinks2 : Relinks one two) (nexts2 : (k : ℕ) → next_of two k ≡ next_of one k)
      (rest2 : (ends2.first ≡ ends1.first) × (ends2.len ≡ ends1.len))
      (last : ends1.last ≡ slot → (two ≡ one) × (ends2 ≡ record ends1 { last = prev }))
      (before_last : ends1.last ≢ slot → (ends2 ≡ ends1) × LeadsBack one two next prev)
      (list : ℕ) (xs ys : List ℕ) (chain : IsChainIn nodes list ends (xs ++ slot ∷ ys)) where
    pub detached_chain : IsChainIn two list (record { first = ends2.first; last = ends2.last; len = ends2.len - 1 }) (xs ++ ys)
    detached_chain =
        chain_left (owner_of nodes) (owner_of two) (next_of nodes) (prev_of nodes) (next_of two) (prev_of two) list ends
        (record { first = ends2.first; last = ends2.last; len = ends2.len - 1 }) xs ys slot chain
        (λ k. relinks2.owners k ∙ relinks1.owners k)
        (λ is. (λ k. nexts2 k ∙ ap (λ (s : Slab (Node T)). next_of s k) (first is).0, rest2.0 ∙ ap (λ (e : Ends). e.first) (first is).1 ∙ sym next_is))
        (λ other. (
          ap (next_of two) prev_is ∙ nexts2 prev ∙ (inside other).1.changed ∙ sym next_is,
          λ k differs. nexts2 k ∙ (inside other).1.others k (λ same. differs (same ∙ sym prev_is)),
          rest2.0 ∙ ap (λ (e : Ends). e.first) (inside other).0,
        ))
        (λ is. (λ k. ap (λ (s : Slab (Node T)). prev_of s k) (last (rest1.0 ∙ is)).0 ∙ prevs1 k, ap (λ (e : Ends). e.last) (last (rest1.0 ∙ is)).1 ∙ sym prev_is))
        (λ other. let on = before_last (λ same. other (sym rest1.0 ∙ same)) in (
          ap (prev_of two) next_is ∙ on.1.changed ∙ sym prev_is,
          λ k differs. on.1.others k (λ same. differs (same ∙ sym next_is)) ∙ prevs1 k,
          ap (λ (e : Ends). e.last) on.0 ∙ rest1.0,
        ))
        (omega (arith, rest1.1, rest2.1, chain.counted, length_with xs ys slot))

    pub detached_keeps : KeepsOthers nodes two list
    detached_keeps =
        let among = among_with xs ys slot in
        record {
          nexts = λ k other. nexts2 k ∙ elim (cases_eq ends.first slot) [
            | inl is ↦ ap (λ (s : Slab (Node T)). next_of s k) (first is).0
            | inr differs ↦
                (inside differs).1.others k (λ same. other (ap (owner_of nodes) (same ∙ sym prev_is)
                ∙ prev_owned (owner_of nodes) (next_of nodes) (prev_of nodes) list ends (xs ++ slot ∷ ys) chain slot among differs))
          ];
          prevs = λ k other. elim (cases_eq ends1.last slot) [
            | inl is ↦ ap (λ (s : Slab (Node T)). prev_of s k) (last is).0
            | inr differs ↦
                (before_last differs).1.others k (λ same. other (ap (owner_of nodes) (same ∙ sym next_is)
                ∙ next_owned (owner_of nodes) (next_of nodes) (prev_of nodes) list ends (xs ++ slot ∷ ys) chain slot among (λ at. differs (rest1.0 ∙ at))))
          ] ∙ prevs1 k;
        }

  -- a node comes behind the last one
  module _ (nodes one two : Slab (Node T)) (ends ends1 : Ends) (slot : ℕ)
      (back : LeadsBack nodes one slot ends.last)
      (relinks2 : Relinks one two) (prevs2 : (k : ℕ) → prev_of two k ≡ prev_of one k)
      (same_len : ends1.len ≡ ends.len)
      (none : ends.len ≡ 0 → (two ≡ one) × (ends1 ≡ record ends { first = slot }))
      (some : 0 < ends.len → (ends1 ≡ ends) × LeadsOn one two ends.last slot)
      (list : ℕ) (slots : List ℕ) (chain : IsChainIn nodes list ends slots)
      (own : owner_of nodes slot ≡ Some list) (fresh : ¬ IsAmong slot slots) where
    pub attached_chain : IsChainIn two list (record { first = ends1.first; last = slot; len = ends1.len + 1 }) (slots ++ slot ∷ [])
    attached_chain =
        chain_longer (owner_of nodes) (owner_of two) (next_of nodes) (prev_of nodes) (next_of two) (prev_of two) list ends
        (record { first = ends1.first; last = slot; len = ends1.len + 1 }) slots slot chain fresh own
        (λ k. relinks2.owners k ∙ back.relinks.owners k)
        (prevs2 slot ∙ back.changed)
        (λ k differs. prevs2 k ∙ back.others k differs)
        (λ is. ap (λ (e : Ends). e.first) (none is).1)
        (λ more. (ap (λ (e : Ends). e.first) (some more).0, (some more).1.changed, λ k differs. (some more).1.others k differs ∙ back.nexts k))
        refl
        (omega (arith, same_len))

    pub attached_keeps : KeepsOthers nodes two list
    attached_keeps =
        record {
          nexts = λ k other. elim (cases_lt 0 ends.len) [
            | inl more ↦ (some more).1.others k (λ same. other (ap (owner_of nodes) same ∙ last_owned (owner_of nodes) (next_of nodes) (prev_of nodes) list ends slots chain more))
            | inr is ↦ ap (λ (s : Slab (Node T)). next_of s k) (none (omega arith)).0
          ] ∙ back.nexts k;
          prevs = λ k other. prevs2 k ∙ back.others k (λ same. other (ap (owner_of nodes) same ∙ own));
        }
