-- Each of some empty queues is given its first item.
use Rattle.std.proofs.Common.{◌≡◌, ℕ, zero, suc, ◌+◌, ◌<◌, ◌≤◌, List, [], ◌∷◌, ◌++◌, length, take, replicate, slice_set, refl, sym, ap, subst, ◌∙◌, arith}
use Rattle.std.proofs.lemmas.List.{get_or-set_other, length-replicate, replicate_more, take_all, take_more_set}
use Rattle.std.proofs.Math.ListN.{length-set}
use Rattle.pl_queues.specs.Queues.{items_at, put_at}

module _ {T : Type 0} where
  none_at : (n i : ℕ) → items_at (replicate {A = List T} n []) i ≡ []
  none_at zero i = refl
  none_at (suc n) zero = refl
  none_at (suc n) (suc i) = none_at n i

  -- so many have it, of so many
  pub record AreGreeted (x : T) (n s : ℕ) (queues : List (List T)) : Type 0 where
    pub many : length queues ≡ n
    pub greeted : take s queues ≡ replicate s (x ∷ [])
    pub others : (i : ℕ) → s ≤ i → items_at queues i ≡ []

  pub none_greeted : (x : T) (n : ℕ) (queues : List (List T)) → queues ≡ replicate n [] → AreGreeted x n 0 queues
  none_greeted x n queues is = record {
    many = ap length is ∙ length-replicate n [];
    greeted = refl;
    others = λ i low. ap (λ q. items_at q i) is ∙ none_at n i;
  }

  pub one_more_greeted : (x : T) (n s : ℕ) (queues : List (List T)) → s < length queues → AreGreeted x n s queues →
      AreGreeted x n (s + 1) (put_at queues s x)
  one_more_greeted x n s queues within are =
      let alone : items_at queues s ++ x ∷ [] ≡ x ∷ [] = ap (λ q. q ++ x ∷ []) (are.others s (omega arith)) in
      record {
        many = length-set queues s _ ∙ are.many;
        greeted = take_more_set queues s _ within ∙ ap (λ q. take s queues ++ q ∷ []) alone ∙ ap (λ l. l ++ (x ∷ []) ∷ []) are.greeted ∙ replicate_more s (x ∷ []);
        others = λ i low. get_or-set_other queues s i _ [] (λ same. absurd (omega (arith, low, same))) ∙ are.others i (omega (arith, low));
      }

  pub all_greeted : (x : T) (n : ℕ) (queues : List (List T)) → AreGreeted x n n queues → queues ≡ replicate n (x ∷ [])
  all_greeted x n queues are = let many = are.many in sym (take_all n queues (omega (arith, many))) ∙ are.greeted

  -- with one more of so many, whatever stood there first
  pub still_greeted : (x item : T) (first queues new : List (List T)) (s many : ℕ) → s < many → many ≡ length first → length queues ≡ length first → item ≡ x →
      new ≡ put_at queues s item → ((n : ℕ) → first ≡ replicate n [] → AreGreeted x n s queues) → (n : ℕ) → first ≡ replicate n [] → AreGreeted x n (s + 1) new
  still_greeted x item first queues new s many less all same is put before n none =
      subst (AreGreeted x n (s + 1)) (sym (put ∙ ap (put_at queues s) is)) (one_more_greeted x n s queues (omega (arith, less, all, same)) (before n none))

  pub as_many : (item : T) (queues new : List (List T)) (s many : ℕ) → new ≡ put_at queues s item → length queues ≡ many → length new ≡ many
  as_many item queues new s many put same = ap length put ∙ (length-set queues s _ ∙ same)

  pub at_last : (x : T) (first queues : List (List T)) (s many : ℕ) → s ≤ many → many ≤ s → many ≡ length first →
      ((n : ℕ) → first ≡ replicate n [] → AreGreeted x n s queues) → (n : ℕ) → first ≡ replicate n [] → queues ≡ replicate n (x ∷ [])
  at_last x first queues s many most least all before n none =
      let long : length first ≡ n = ap length none ∙ length-replicate n [] in
      let end : s ≡ n = omega (arith, most, least, all, long) in
      all_greeted x n queues (subst (λ (i : ℕ). AreGreeted x n i queues) end (before n none))
