-- What was read of the addresses of a host once one more entry is read.
use Rattle.std.proofs.Common.{◌≡◌, ◌∙◌, ◌↔◌, ◌⊎◌, ◌≤◌, ◌<◌, ◌+◌, ◌==◌, ◌&&◌, ◌||◌, not, nat_lt, ℕ, zero, suc, Bool, true, false, cond, List, [], ◌∷◌, ◌++◌, reverse, length, take, get_or, filter, Option, Some, None, Result, Ok, Err, OnOk, IsTrue, arith, refl, sym, ap, subst, inl, inr, eq-eqb, eqb-true, ltb-true, ltb-false}
use Rattle.std.proofs.lemmas.Bool.{false≢true}
use Rattle.std.proofs.lemmas.List.{reverse-append, take_all, take_more}
use Rattle.std.proofs.lemmas.Option.{none-some, same_Some}
use Rattle.pl_pmac.specs.declared.pmac.Pmac.{Pmac}
use Rattle.pl_layouts.specs.Equality.{same_pmac}
use Rattle.pl_layouts.proofs.Exports.{pmac_is, pmac_itself}
use Rattle.pl_wiring.specs.declared.host.HostNo.{HostNo}
use Rattle.pl_journal.specs.declared.entry.Entry.{Entry}
use Rattle.pl_journal.specs.declared.entry.Entry.TheVariants.{Registered}
use Rattle.pl_script_rule.specs.Expecting.{IsNewest, WasGrantedLastTo, WasRegisteredFor, grant_in, grantee_then, last_grantee}
use Rattle.pl_player.specs.declared.expecting.HostAddresses.{HostAddresses}
use Rattle.pl_player.specs.Newest.{IsLargestOf, IsReadOf, IsRegisteredAs, counted, exceeds, is_host, is_number, is_one_of, registration_in}

-- ---- lists of entries
first_or : Entry → List Entry → Entry
first_or e [] = e
first_or e (x ∷ xs) = x

rest_of : List Entry → List Entry
rest_of [] = []
rest_of (x ∷ xs) = xs

-- an entry that grants an address registers none
pub grant_registers_none : (e : Entry) (grant : Pmac × HostNo) → grant_in e ≡ Some grant → registration_in e ≡ None
grant_registers_none (Registered x n) grant is = absurd (none-some grant is)
grant_registers_none e grant is = refl

-- whether an address is left once another one was left out
pub left_out : (pmac x : Pmac) (own : List Pmac) → is_one_of (filter (λ one. not (same_pmac one pmac)) own) x ≡ (not (same_pmac pmac x) && is_one_of own x)
left_out pmac x [] = by (same_pmac pmac x)
  where
    by : (b : Bool) → false ≡ (not b && false)
    by true = refl
    by false = refl
left_out pmac x (y ∷ ys) = by (same_pmac y pmac) (same_pmac y x) (same_pmac pmac x) refl refl refl (left_out pmac x ys)
  where
    left : List Pmac
    left = filter (λ one. not (same_pmac one pmac)) ys

    by : (own there it : Bool) → same_pmac y pmac ≡ own → same_pmac y x ≡ there → same_pmac pmac x ≡ it → is_one_of left x ≡ (not it && is_one_of ys x) →
        is_one_of (cond (not own) (y ∷ left) left) x ≡ (not it && (there || is_one_of ys x))
    by true true true is_own is_there is_it rest = rest
    by true true false is_own is_there is_it rest =
        absurd (false≢true (sym is_it ∙ subst (λ (z : Pmac). same_pmac z x ≡ true) (pmac_is y pmac is_own) is_there))
    by true false it is_own is_there is_it rest = rest
    by false true true is_own is_there is_it rest =
        let same : same_pmac x pmac ≡ true = subst (λ (z : Pmac). same_pmac z pmac ≡ true) (pmac_is pmac x is_it) (pmac_itself pmac) in
        absurd (false≢true (sym is_own ∙ subst (λ (z : Pmac). same_pmac z pmac ≡ true) (sym (pmac_is y x is_there)) same))
    by false true false is_own is_there is_it rest = ap (λ b. b || is_one_of left x) is_there
    by false false it is_own is_there is_it rest = ap (λ b. b || is_one_of left x) is_there ∙ rest

pub on_ok : {T E : Type 0} {A B : Type 0} (result : Result T E) → (A → B) → OnOk result A → OnOk result B
on_ok (Ok value) f a = f a
on_ok (Err error) f a = tt

module _ (h : HostNo) where
  -- ---- what was registered before one more entry still is
  registered_since : (e : Entry) (past : List Entry) (x : Pmac) (n : ℕ) → WasRegisteredFor past h x n → WasRegisteredFor (e ∷ past) h x n
  registered_since e past x n r = record { before = r.before; since = e ∷ r.since; registered = ap (λ es. e ∷ es) r.registered; granted = r.granted }

  -- an entry that registers nothing registers nothing for the host
  registered_before : (e : Entry) (past : List Entry) (x : Pmac) (n : ℕ) → registration_in e ≡ None → WasRegisteredFor (e ∷ past) h x n → WasRegisteredFor past h x n
  unfolding first_or rest_of
  registered_before e past x n none r = by r.since r.registered
    where
      by : (since : List Entry) → e ∷ past ≡ since ++ Registered x n ∷ r.before → WasRegisteredFor past h x n
      by [] is = absurd (none-some (x, n) (sym none ∙ ap (λ es. registration_in (first_or e es)) is))
      by (s ∷ since) is = record { before = r.before; since = since; registered = ap rest_of is; granted = r.granted }

  -- that an address is registered
  record IsNow (past : List Entry) (x y : Pmac) (n m : ℕ) : Type 0 where
    pmac : x ≡ y
    number : n ≡ m
    granted : WasGrantedLastTo past h x

  now_or_before : (past : List Entry) (x y : Pmac) (n m : ℕ) → WasRegisteredFor (Registered x n ∷ past) h y m → IsNow past x y n m ⊎ WasRegisteredFor past h y m
  unfolding first_or rest_of
  now_or_before past x y n m r = by r.since r.registered
    where
      by : (since : List Entry) → Registered x n ∷ past ≡ since ++ Registered y m ∷ r.before → IsNow past x y n m ⊎ WasRegisteredFor past h y m
      by [] is =
          let same : (x, n) ≡ (y, m) = same_Some (x, n) (y, m) (ap (λ es. registration_in (first_or (Registered x n) es)) is) in
          let pmac : x ≡ y = ap (λ p. p.0) same in
          let past_is : past ≡ r.before = ap rest_of is in
          inl (record {
            pmac = pmac;
            number = ap (λ p. p.1) same;
            granted = subst (λ (z : Pmac). WasGrantedLastTo past h z) (sym pmac) (subst (λ (es : List Entry). WasGrantedLastTo es h y) (sym past_is) r.granted);
          })
      by (s ∷ since) is = inr (record { before = r.before; since = since; registered = ap rest_of is; granted = r.granted })

  registered_now : (past : List Entry) (x : Pmac) (n : ℕ) → WasGrantedLastTo past h x → WasRegisteredFor (Registered x n ∷ past) h x n
  registered_now past x n granted = record { before = past; since = []; registered = refl; granted = granted }

  -- ---- an entry that registers nothing for the host
  module _ (e : Entry) (past : List Entry) (nothing : (x : Pmac) (n : ℕ) → WasRegisteredFor (e ∷ past) h x n → WasRegisteredFor past h x n) where
    still_largest : (o : Option ℕ) → IsLargestOf past h o → IsLargestOf (e ∷ past) h o
    still_largest None none = λ x n r. none x n (nothing x n r)
    still_largest (Some m) l = ((l.0.0, registered_since e past l.0.0 m l.0.1), λ x n r. l.1 x n (nothing x n r))

    still_it : (pmac : Pmac) (o : Option ℕ) (is : Bool) → (IsTrue is ↔ IsRegisteredAs past h pmac o) → IsTrue is ↔ IsRegisteredAs (e ∷ past) h pmac o
    still_it pmac None is both = both
    still_it pmac (Some m) is both = (λ so. registered_since e past pmac m (both.0 so), λ r. both.1 (nothing pmac m r))

  -- ---- to whom addresses are granted
  host_known : (x : Pmac) (past : List Entry) → is_host h (last_grantee x past) ≡ true → WasGrantedLastTo past h x
  host_known x past is = by (last_grantee x past) is
    where
      by : (o : Option HostNo) → is_host h o ≡ true → o ≡ Some h
      by None is = absurd (false≢true is)
      by (Some one) is = ap (λ n. Some (record { 0 = n })) (eqb-true one.0 h.0 is)

  known_host : (x : Pmac) (past : List Entry) → WasGrantedLastTo past h x → is_host h (last_grantee x past) ≡ true
  known_host x past is = ap (is_host h) is ∙ eq-eqb h.0 h.0 refl

  granted_then : (own own_then : List Pmac) (past : List Entry) (grant : Pmac × HostNo) → ((x : Pmac) → is_one_of own x ≡ is_host h (last_grantee x past)) →
      ((x : Pmac) → is_one_of own_then x ≡ cond (same_pmac grant.0 x) (grant.1.0 == h.0) (is_one_of own x)) →
      (x : Pmac) → is_one_of own_then x ≡ is_host h (grantee_then x (Some grant) (last_grantee x past))
  granted_then own own_then past grant is now x =
      now x ∙ ap (cond (same_pmac grant.0 x) (grant.1.0 == h.0)) (is x) ∙ by (same_pmac grant.0 x)
    where
      by : (b : Bool) → cond b (grant.1.0 == h.0) (is_host h (last_grantee x past)) ≡ is_host h (cond b (Some grant.1) (last_grantee x past))
      by true = refl
      by false = refl

  -- ---- one more entry: a grant
  pub grant_read : (pmac : Pmac) (past : List Entry) (e : Entry) (grant : Pmac × HostNo) (old new : HostAddresses) → grant_in e ≡ Some grant → registration_in e ≡ None →
      ((x : Pmac) → is_one_of new.own.items x ≡ cond (same_pmac grant.0 x) (grant.1.0 == h.0) (is_one_of old.own.items x)) →
      new.largest ≡ old.largest → new.is_it ≡ old.is_it → IsReadOf h pmac past old → IsReadOf h pmac (e ∷ past) new
  grant_read pmac past e grant old new granted none own largest is_it read =
      let nothing : (x : Pmac) (n : ℕ) → WasRegisteredFor (e ∷ past) h x n → WasRegisteredFor past h x n = λ x n r. registered_before e past x n none r in
      record {
        own = λ x. granted_then old.own.items new.own.items past grant read.own own x
            ∙ ap (λ g. is_host h (grantee_then x g (last_grantee x past))) (sym granted);
        largest = subst (IsLargestOf (e ∷ past) h) (sym largest) (still_largest e past nothing old.largest read.largest);
        is_it = subst (λ (o : Option ℕ). IsTrue new.is_it ↔ IsRegisteredAs (e ∷ past) h pmac o) (sym largest)
            (subst (λ (b : Bool). IsTrue b ↔ IsRegisteredAs (e ∷ past) h pmac old.largest) (sym is_it) (still_it e past nothing pmac old.largest old.is_it read.is_it));
      }

  -- nothing that matters here
  pub nothing_read : (pmac : Pmac) (past : List Entry) (e : Entry) (old : HostAddresses) → grant_in e ≡ None → registration_in e ≡ None →
      IsReadOf h pmac past old → IsReadOf h pmac (e ∷ past) old
  nothing_read pmac past e old ungranted none read =
      let nothing : (x : Pmac) (n : ℕ) → WasRegisteredFor (e ∷ past) h x n → WasRegisteredFor past h x n = λ x n r. registered_before e past x n none r in
      record {
        own = λ x. read.own x ∙ ap (λ g. is_host h (grantee_then x g (last_grantee x past))) (sym ungranted);
        largest = still_largest e past nothing old.largest read.largest;
        is_it = still_it e past nothing pmac old.largest old.is_it read.is_it;
      }

  -- ---- an address is registered
  module _ (pmac : Pmac) (past : List Entry) (x : Pmac) (n : ℕ) where
    abbrev after : List Entry
    after = Registered x n ∷ past

    -- which is not one of the host's
    of_other : (is_host h (last_grantee x past) ≡ false) → (y : Pmac) (m : ℕ) → WasRegisteredFor after h y m → WasRegisteredFor past h y m
    of_other other y m r = by (now_or_before past x y n m r)
      where
        by : IsNow past x y n m ⊎ WasRegisteredFor past h y m → WasRegisteredFor past h y m
        by (inl now) = absurd (false≢true (sym other ∙ known_host x past now.granted))
        by (inr before) = before

    module _ (own : WasGrantedLastTo past h x) where
      -- the number is a new largest one
      largest_now : (o : Option ℕ) → exceeds n o ≡ true → IsLargestOf past h o → IsLargestOf after h (Some n)
      largest_now o more l = ((x, registered_now past x n own), λ y m r. by o more l y m (now_or_before past x y n m r))
        where
          by : (o : Option ℕ) → exceeds n o ≡ true → IsLargestOf past h o → (y : Pmac) (m : ℕ) → IsNow past x y n m ⊎ WasRegisteredFor past h y m → m ≤ n
          by o more l y m (inl now) = let same = now.number in omega (arith, same)
          by None more l y m (inr before) = absurd (l y m before)
          by (Some largest) more l y m (inr before) = let less = ltb-true largest n more in let most = l.1 y m before in omega (arith, less, most)

      it_now : (o : Option ℕ) → exceeds n o ≡ true → IsLargestOf past h o → IsTrue (same_pmac x pmac) ↔ IsRegisteredAs after h pmac (Some n)
      it_now o more l = (
        (λ same. subst (λ (z : Pmac). WasRegisteredFor after h z n) (pmac_is x pmac same) (registered_now past x n own)),
        (λ r. by o more l (now_or_before past x pmac n n r)),
      )
        where
          by : (o : Option ℕ) → exceeds n o ≡ true → IsLargestOf past h o → IsNow past x pmac n n ⊎ WasRegisteredFor past h pmac n → same_pmac x pmac ≡ true
          by o more l (inl now) = subst (λ (z : Pmac). same_pmac x z ≡ true) now.pmac (pmac_itself x)
          by None more l (inr before) = absurd (l pmac n before)
          by (Some largest) more l (inr before) = let less = ltb-true largest n more in let most = l.1 pmac n before in absurd (omega (arith, less, most))

      -- the number is no larger than the largest one
      largest_stays : (m : ℕ) → nat_lt m n ≡ false → IsLargestOf past h (Some m) → IsLargestOf after h (Some m)
      largest_stays m more l =
          ((l.0.0, registered_since (Registered x n) past l.0.0 m l.0.1), λ y k r. by y k (now_or_before past x y n k r))
        where
          by : (y : Pmac) (k : ℕ) → IsNow past x y n k ⊎ WasRegisteredFor past h y k → k ≤ m
          by y k (inl now) = let same = now.number in let most = ltb-false m n more in omega (arith, same, most)
          by y k (inr before) = l.1 y k before

      it_stays : (m : ℕ) (was : Bool) → (IsTrue was ↔ IsRegisteredAs past h pmac (Some m)) →
          IsTrue (was || (same_pmac x pmac && (m == n))) ↔ IsRegisteredAs after h pmac (Some m)
      it_stays m was both = (there was both (same_pmac x pmac) refl (m == n) refl, λ r. here (now_or_before past x pmac n m r))
        where
          there : (was : Bool) → (IsTrue was ↔ IsRegisteredAs past h pmac (Some m)) → (same : Bool) → same_pmac x pmac ≡ same → (equal : Bool) → (m == n) ≡ equal →
              IsTrue (was || (same && equal)) → WasRegisteredFor after h pmac m
          there true both same is_same equal is_equal so = registered_since (Registered x n) past pmac m (both.0 refl)
          there false both true is_same true is_equal so =
              let number : n ≡ m = sym (eqb-true m n is_equal) in
              subst (λ (k : ℕ). WasRegisteredFor after h pmac k) number
              (subst (λ (z : Pmac). WasRegisteredFor after h z n) (pmac_is x pmac is_same) (registered_now past x n own))
          there false both true is_same false is_equal so = absurd (false≢true so)
          there false both false is_same equal is_equal so = absurd (false≢true so)

          at_end : (b : Bool) → (b || true) ≡ true
          at_end true = refl
          at_end false = refl

          here : IsNow past x pmac n m ⊎ WasRegisteredFor past h pmac m → (was || (same_pmac x pmac && (m == n))) ≡ true
          here (inl now) =
              let same : same_pmac x pmac ≡ true = subst (λ (z : Pmac). same_pmac x z ≡ true) now.pmac (pmac_itself x) in
              let equal : (m == n) ≡ true = eq-eqb m n (sym now.number) in
              (λ i. was || (same i && equal i)) ∙ at_end was
          here (inr before) = ap (λ b. b || (same_pmac x pmac && (m == n))) (both.1 before)

      counts_in : (old : HostAddresses) → IsReadOf h pmac past old → IsReadOf h pmac after (counted n (same_pmac x pmac) old)
      counts_in old read = record {
        own = read.own;
        largest = by_largest old.largest (exceeds n old.largest) refl read.largest;
        is_it = by_it old.largest (exceeds n old.largest) refl read.largest read.is_it;
      }
        where
          by_largest : (o : Option ℕ) (b : Bool) → exceeds n o ≡ b → IsLargestOf past h o → IsLargestOf after h (cond b (Some n) o)
          by_largest o true more l = largest_now o more l
          by_largest None false more l = absurd (false≢true (sym more))
          by_largest (Some m) false more l = largest_stays m more l

          by_it : (o : Option ℕ) (b : Bool) → exceeds n o ≡ b → IsLargestOf past h o → (IsTrue old.is_it ↔ IsRegisteredAs past h pmac o) →
              IsTrue (cond b (same_pmac x pmac) (old.is_it || (same_pmac x pmac && is_number n o))) ↔ IsRegisteredAs after h pmac (cond b (Some n) o)
          by_it o true more l both = it_now o more l
          by_it None false more l both = absurd (false≢true (sym more))
          by_it (Some m) false more l both = it_stays m old.is_it both

    pub registration_read : (old : HostAddresses) → IsReadOf h pmac past old →
        IsReadOf h pmac after (cond (is_one_of old.own.items x) (counted n (same_pmac x pmac) old) old)
    registration_read old read = by (is_one_of old.own.items x) (sym (read.own x))
      where
        by : (b : Bool) → is_host h (last_grantee x past) ≡ b → IsReadOf h pmac after (cond b (counted n (same_pmac x pmac) old) old)
        by true own = counts_in (host_known x past own) old read
        by false other = record {
          own = read.own;
          largest = still_largest (Registered x n) past (of_other other) old.largest read.largest;
          is_it = still_it (Registered x n) past (of_other other) pmac old.largest old.is_it read.is_it;
        }

-- what an entry registers, by what is made of it
pub registration_reads : (h : HostNo) (pmac : Pmac) (past : List Entry) (e : Entry) (x : Pmac) (n : ℕ) (is_it : Bool) (old new : HostAddresses) → e ≡ Registered x n →
    is_it ≡ same_pmac x pmac → new ≡ cond (is_one_of old.own.items x) (counted n is_it old) old → IsReadOf h pmac past old → IsReadOf h pmac (e ∷ past) new
registration_reads h pmac past e x n is_it old new is it now read =
    subst (λ (entry : Entry). IsReadOf h pmac (entry ∷ past) new) (sym is)
    (subst (λ (known : HostAddresses). IsReadOf h pmac (Registered x n ∷ past) known)
    (sym (now ∙ ap (λ b. cond (is_one_of old.own.items x) (counted n b old) old) it)) (registration_read h pmac past x n old read))

-- ---- in the end
decided : (past : List Entry) (h : HostNo) (pmac : Pmac) (o : Option ℕ) (is : Bool) → IsLargestOf past h o → (IsTrue is ↔ IsRegisteredAs past h pmac o) →
    (journal : List Entry) → past ≡ reverse journal → IsTrue is ↔ IsNewest journal h pmac
decided past h pmac None is none both journal same =
    (λ so. absurd (both.0 so), λ it. absurd (none pmac it.number (subst (λ (es : List Entry). WasRegisteredFor es h pmac it.number) (sym same) it.registered)))
decided past h pmac (Some m) is l both journal same = (
  (λ so. record {
    number = m;
    registered = subst (λ (es : List Entry). WasRegisteredFor es h pmac m) same (both.0 so);
    newest = λ other n r. l.1 other n (subst (λ (es : List Entry). WasRegisteredFor es h other n) (sym same) r);
  }),
  (λ it.
      let r : WasRegisteredFor past h pmac it.number = subst (λ (es : List Entry). WasRegisteredFor es h pmac it.number) (sym same) it.registered in
      let most = l.1 pmac it.number r in
      let least = it.newest l.0.0 m (subst (λ (es : List Entry). WasRegisteredFor es h l.0.0 m) same l.0.1) in
      let equal : it.number ≡ m = omega (arith, most, least) in
      both.1 (subst (λ (k : ℕ). WasRegisteredFor past h pmac k) equal r)),
)

-- an entry of a journal, whatever would stand past its end
pub same_entry : (journal : List Entry) (i : ℕ) (a b : Entry) → i < length journal → get_or journal i a ≡ get_or journal i b
same_entry [] i a b h = absurd (omega arith)
same_entry (x ∷ xs) zero a b h = refl
same_entry (x ∷ xs) (suc i) a b h = same_entry xs i a b (omega arith)

-- one more entry of a journal is read, of which so many were
pub read_more : (journal : List Entry) (i : ℕ) (e : Entry) (h : HostNo) (pmac : Pmac) (old new : HostAddresses) → i < length journal → e ≡ get_or journal i e →
    ((past : List Entry) → IsReadOf h pmac past old → IsReadOf h pmac (e ∷ past) new) → IsReadOf h pmac (reverse (take i journal)) old →
    IsReadOf h pmac (reverse (take (i + 1) journal)) new
read_more journal i e h pmac old new within is step so =
    let more : take (i + 1) journal ≡ take i journal ++ e ∷ [] = take_more journal i e within ∙ ap (λ x. take i journal ++ x ∷ []) (sym is) in
    subst (λ (es : List Entry). IsReadOf h pmac es new) (sym (ap reverse more ∙ reverse-append (take i journal) (e ∷ []))) (step (reverse (take i journal)) so)

pub nothing_read_yet : (h : HostNo) (pmac : Pmac) (read : HostAddresses) → read.own.items ≡ [] → read.largest ≡ None → read.is_it ≡ false → IsReadOf h pmac [] read
nothing_read_yet h pmac read own largest is_it = record {
  own = λ x. ap (λ pmacs. is_one_of pmacs x) own;
  largest = subst (IsLargestOf [] h) (sym largest) (λ x n r. never x n r.since r.before r.registered);
  is_it = subst (λ (o : Option ℕ). IsTrue read.is_it ↔ IsRegisteredAs [] h pmac o) (sym largest) ((λ so. false≢true (sym is_it ∙ so)), (λ none. absurd none));
}
  where
    never : (x : Pmac) (n : ℕ) (since before : List Entry) → [] ≡ since ++ Registered x n ∷ before → ⊥
    never x n [] before is = absurd (cc)
    never x n (s ∷ since) before is = absurd (cc)

pub all_read : (journal : List Entry) (i : ℕ) (h : HostNo) (pmac : Pmac) (read : HostAddresses) → length journal ≤ i → IsReadOf h pmac (reverse (take i journal)) read →
    IsTrue read.is_it ↔ IsNewest journal h pmac
all_read journal i h pmac read all so =
    decided (reverse (take i journal)) h pmac read.largest read.is_it so.largest so.is_it journal (ap reverse (take_all i journal all))
