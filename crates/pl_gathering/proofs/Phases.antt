-- Where as many reports ended as there are switches, each switch has ended; and where nothing waits all reports have ended.
use Rattle.std.proofs.Common.{◌≡◌, ◌≤◌, ℕ, ◌==◌, ◌||◌, Bool, true, false, cond, List, [], ◌∷◌, length, nat_le, not, ◌&&◌, ◌++◌, refl, sym, ap, ◌∙◌, subst, inl, inr, arith, eq-eqb, eqb-true}
use Rattle.std.specs.List.{AllByRecursion, IsDistinct}
use Rattle.std.specs.Cmp.{IsEquivalence}
use Rattle.std.proofs.lemmas.Bool.{cases_Bool, false≢true, leb-true, le-leb, and_parts, cond_both, or_cases, or_parts, or_right}
use Rattle.std.proofs.lemmas.Cmp.{nat_eq_equiv}
use Rattle.std.proofs.lemmas.Map.Made.{length-le_from_is_member}
use Rattle.pl_frame.specs.declared.address.SwitchId.{SwitchId}
use Rattle.pl_layouts.specs.Equality.{same_switch}
use Rattle.pl_gathering.specs.Gathering.{Gathered, Heard, Report, all_treated, gone_through, hears, hears_begin, hears_end, hears_word, in_turn, is_among, is_whole, kept_of, with_ended, treated_alone}
use Rattle.pl_gathering.specs.Gathering.Report.{Begin, End, Tells}
use Rattle.pl_gathering.proofs.Going.{kept_both}
use Rattle.pl_gathering.specs.Orderly.{IsOrderly, has}
use Rattle.pl_gathering.proofs.Hearing.{not_false, same_is}

switch_laws : IsEquivalence same_switch
switch_laws = record {
  refl = λ a. nat_eq_equiv.refl a.0;
  symm = λ a b. nat_eq_equiv.symm a.0 b.0;
  congr = λ a b c. nat_eq_equiv.congr a.0 b.0 c.0;
}

pub turned : (s : SwitchId) (ids : List SwitchId) → is_among s ids ≡ has ids s
turned s [] = refl
turned s (t ∷ ids) = ap (λ b. b || is_among s ids) (by (t.0 == s.0) (s.0 == t.0) refl refl) ∙ ap (λ b. same_switch s t || b) (turned s ids)
  where
    by : (a b : Bool) → (t.0 == s.0) ≡ a → (s.0 == t.0) ≡ b → a ≡ b
    by true true x y = refl
    by false false x y = refl
    by true false x y = absurd (false≢true (sym y ∙ eq-eqb s.0 t.0 (sym (eqb-true t.0 s.0 x))))
    by false true x y = absurd (false≢true (sym x ∙ eq-eqb t.0 s.0 (sym (eqb-true s.0 t.0 y))))

none_same : (s : SwitchId) (ids : List SwitchId) → has ids s ≡ false → AllByRecursion (λ t. same_switch s t ≡ false) ids
none_same s [] h = tt
none_same s (t ∷ ids) h = let two = or_parts_of (same_switch s t) (has ids s) h in (two.0, none_same s ids two.1)
  where
    or_parts_of : (a b : Bool) → (a || b) ≡ false → (a ≡ false) × (b ≡ false)
    or_parts_of true b h = absurd (false≢true (sym h))
    or_parts_of false b h = (refl, h)

-- ids that differ, each of them of a list that is no longer: they are all of it
pub all_of_them : (ids ended : List SwitchId) → IsDistinct same_switch ended → ((t : SwitchId) → has ended t ≡ true → has ids t ≡ true) →
    length ids ≤ length ended → (s : SwitchId) → has ids s ≡ true → has ended s ≡ true
unfolding IsDistinct
all_of_them ids ended once within many s is = elim (cases_Bool (has ended s)) [
  | inl there ↦ there
  | inr missing ↦
      let more = length-le_from_is_member switch_laws (s ∷ ended) ids (none_same s ended missing, once)
      (λ q any. elim (or_cases (same_switch q s) (has ended q) any) [
        | inl same ↦ ap (λ n. has ids (record { 0 = n })) (eqb-true q.0 s.0 same) ∙ is
        | inr before ↦ within q before
      ]) in
      absurd (omega (arith, more, many))
]

-- and the other way: where each of the ids has ended, and they differ, as many have ended as there are
pub whole_at_rest : {K T : Type 0} (g : Gathered K T) (ids : List SwitchId) → g.many ≡ length ids → IsDistinct same_switch ids →
    ((t : SwitchId) → has ids t ≡ true → is_among t g.ended ≡ true) → is_whole g ≡ true
whole_at_rest g ids many once each =
    let enough = length-le_from_is_member switch_laws ids g.ended once (λ q any. sym (turned q g.ended) ∙ each q any) in
    or_right (g.epoch == 0) (nat_le g.many (length g.ended)) (le-leb g.many (length g.ended) (omega (arith, enough, many)))

pub orderly_anew : {K T : Type 0} (ids : List SwitchId) (g : Gathered K T) → g.many ≡ length ids → g.begun ≡ [] → g.ended ≡ [] → g.kept ≡ [] → IsOrderly ids g
unfolding IsDistinct
orderly_anew ids g many begun ended kept = record {
  many = many;
  once = subst (IsDistinct same_switch) (sym ended) tt;
  within = λ t is. absurd (false≢true (ap (is_among t) (sym begun) ∙ is));
  begun = λ t is. absurd (false≢true (ap (is_among t) (sym ended) ∙ is));
  gathering = record { kept = λ s not. ap (kept_of s) kept; none = λ whole. kept };
}

module _ {K T : Type 0} (ids : List SwitchId) (g : Gathered K T) (orderly : IsOrderly ids g) (s : SwitchId) (there : has ids s ≡ true) where
  -- the last report ended: each switch has begun, so of one that has not nothing waits
  pub everyone : (queue : SwitchId → List (Report T)) → ((t : SwitchId) → has ids t ≡ false → queue t ≡ []) →
      is_whole g ≡ false → is_among s g.begun ≡ true → is_among s g.ended ≡ false → is_whole (with_ended s g) ≡ true → (t : SwitchId) → is_among t g.begun ≡ false → queue t ≡ []
  unfolding IsDistinct
  everyone queue strangers part begun fresh whole t not = elim (cases_Bool (has ids t)) [
    | inr stranger ↦ strangers t stranger
    | inl known ↦
        let two = or_parts (g.epoch == 0) (nat_le g.many (length g.ended)) part in
        let enough = leb-true g.many (length (s ∷ g.ended)) (by (g.epoch == 0) two.0 whole) in
        let missing : has g.ended s ≡ false = sym (turned s g.ended) ∙ fresh in
        let many = orderly.many in
        let all = all_of_them ids (s ∷ g.ended) (none_same s g.ended missing, orderly.once)
        (λ q any. elim (or_cases (same_switch q s) (has g.ended q) any) [
          | inl same ↦ ap (λ n. has ids (record { 0 = n })) (eqb-true q.0 s.0 same) ∙ there
          | inr before ↦ orderly.within q (orderly.begun q (turned q g.ended ∙ before))
        ]) (omega (arith, enough, many)) t known in
        elim (or_cases (same_switch t s) (has g.ended t) all) [
          | inl same ↦ absurd (false≢true (sym not ∙ subst (λ u. is_among u g.begun ≡ true) (sym (same_is t s same)) begun))
          | inr ended ↦ absurd (false≢true (sym not ∙ orderly.begun t (turned t g.ended ∙ ended)))
        ]
  ]
    where
      by : (b : Bool) → b ≡ false → (b || nat_le g.many (length (s ∷ g.ended))) ≡ true → nat_le g.many (length (s ∷ g.ended)) ≡ true
      by true is h = absurd (false≢true (sym is))
      by false is h = h

  begin_orderly : (n : ℕ) → IsOrderly ids (hears_begin g s n)
  begin_orderly n =
      cond_both (is_whole g || (not (n == g.epoch) || is_among s g.begun)) g (record g { begun = s ∷ g.begun }) (IsOrderly ids) (λ void. orderly)
      (λ heard. record {
        many = orderly.many;
        once = orderly.once;
        within = λ t is. elim (or_cases (same_switch s t) (is_among t g.begun) is) [
          | inl same ↦ subst (λ u. has ids u ≡ true) (same_is s t same) there
          | inr before ↦ orderly.within t before
        ];
        begun = λ t is. or_right (same_switch s t) (is_among t g.begun) (orderly.begun t is);
        gathering = record {
          kept = λ t not. let two = or_parts (same_switch s t) (is_among t g.begun) not in orderly.gathering.kept t two.1;
          none = orderly.gathering.none;
        };
      })

  word_orderly : (treat : K → Heard T → K) (word : T) → IsOrderly ids (hears_word treat g s word)
  word_orderly treat word =
      cond_both (is_whole g) (record g { known = treat g.known (record { switch = s; word = word }) })
      (cond (is_among s g.begun) (record g { kept = g.kept ++ record { switch = s; word = word } ∷ [] }) g) (IsOrderly ids)
      (λ whole. record {
        many = orderly.many;
        once = orderly.once;
        within = orderly.within;
        begun = orderly.begun;
        gathering = record { kept = orderly.gathering.kept; none = orderly.gathering.none };
      })
      (λ part. cond_both (is_among s g.begun) (record g { kept = g.kept ++ record { switch = s; word = word } ∷ [] }) g (IsOrderly ids)
      (λ begun. record {
        many = orderly.many;
        once = orderly.once;
        within = orderly.within;
        begun = orderly.begun;
        gathering = record {
          kept = λ t not.
              let other : same_switch s t ≡ false = elim (cases_Bool (same_switch s t)) [
                | inl same ↦ absurd (false≢true (sym not ∙ subst (λ u. is_among u g.begun ≡ true) (same_is s t same) begun))
                | inr apart ↦ apart
              ] in
              kept_both t g.kept (record { switch = s; word = word } ∷ [])
              ∙ ap (λ b. kept_of t g.kept ++ cond b (word ∷ []) []) other
              ∙ ap (λ ks. ks ++ []) (orderly.gathering.kept t not);
          none = λ whole. absurd (false≢true (sym part ∙ whole));
        };
      })
      (λ unheard. orderly))

  end_orderly : (treat : K → Heard T → K) (waits : T → Bool) (after : K → K) (n : ℕ) → IsOrderly ids (hears_end treat waits after g s n)
  unfolding IsDistinct
  end_orderly treat waits after n =
      cond_both (is_whole g || (not (n == g.epoch && is_among s g.begun) || is_among s g.ended)) g (gone_through treat waits after (with_ended s g)) (IsOrderly ids) (λ void. orderly)
      (λ heard.
      let two = or_parts (is_whole g) (not (n == g.epoch && is_among s g.begun) || is_among s g.ended) heard in
      let more = or_parts (not (n == g.epoch && is_among s g.begun)) (is_among s g.ended) two.1 in
      let here = and_parts (n == g.epoch) (is_among s g.begun) (not_false (n == g.epoch && is_among s g.begun) more.0) in
      let h : Gathered K T = with_ended s g in
      let then_begun : (t : SwitchId) → is_among t (s ∷ g.ended) ≡ true → is_among t g.begun ≡ true = λ t is. elim (or_cases (same_switch s t) (is_among t g.ended) is) [
        | inl same ↦ subst (λ u. is_among u g.begun ≡ true) (same_is s t same) here.1
        | inr before ↦ orderly.begun t before
      ] in
      let apart : IsDistinct same_switch (s ∷ g.ended) = (none_same s g.ended (sym (turned s g.ended) ∙ more.1), orderly.once) in
      cond_both (is_whole h) (record h { kept = []; known = after (all_treated treat h.known (in_turn waits h.kept)) }) h (IsOrderly ids)
      (λ whole. record {
        many = orderly.many;
        once = apart;
        within = orderly.within;
        begun = then_begun;
        gathering = record { kept = λ t not. refl; none = λ is. refl };
      })
      (λ part. record {
        many = orderly.many;
        once = apart;
        within = orderly.within;
        begun = then_begun;
        gathering = record { kept = orderly.gathering.kept; none = λ is. absurd (false≢true (sym part ∙ is)) };
      }))

  -- each hearing leaves it so
  pub hearing_orderly : (treat : K → Heard T → K) (waits : T → Bool) (after : K → K) (r : Report T) → IsOrderly ids (hears treat waits after g s r)
  hearing_orderly treat waits after (Begin n) = begin_orderly n
  hearing_orderly treat waits after (End n) = end_orderly treat waits after n
  hearing_orderly treat waits after (Tells word) = word_orderly (treated_alone treat after) word
