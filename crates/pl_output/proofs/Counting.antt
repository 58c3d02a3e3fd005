-- Counts of a journal, one entry more at a time.
use Rattle.std.proofs.Common.{◌≡◌, ℕ, ◌+◌, ◌<◌, ◌==◌, Bool, false, cond, List, [], ◌∷◌, ◌++◌, length, get_or, set, drop, replicate, Option, Some, None, inl, inr, refl, sym, ◌∙◌, ap, subst, add-zero, arith}
use Rattle.std.specs.List.{count_by}
use Rattle.std.specs.Option.{option_map_or}
use Rattle.std.proofs.lemmas.List.{length-set, length-replicate, get_or-replicate, get_or-set_same, get_or-set_other, drop_more}
use Rattle.std.proofs.lemmas.List.Sums.{sum_by_push, sum_by-append}
use Rattle.std.proofs.lemmas.Bool.{cases_eq, eq-eqb, ne_eqb}
use Rattle.pl_wiring.specs.declared.host.Host.{Host}
use Rattle.pl_journal.specs.declared.cause.Cause.{Cause}
use Rattle.pl_journal.specs.declared.cause.Cause.TheVariants as causes
use Rattle.pl_journal.specs.declared.entry.Entry.{Entry}
use Rattle.pl_output.specs.declared.summary.Rest.{Rest}
use Rattle.pl_output.specs.declared.summary.tally.Tally.{Tally}
use Rattle.pl_output.specs.declared.summary.totals.Totals.{Totals}
use Rattle.pl_output.specs.Summary.{totals_of, count_of, sender_of, receiver_of, skipper_of, ending_of, is_line, is_sent, is_made, is_copied, is_arrived, is_taken, is_dropped, is_crossed, index_of, counts_of, host_line, host_lines}
use Rattle.pl_output.specs.Tallied.{AreCountsOf, IsTallyOf, plus, with_one}

pub counted_none : (many : ℕ) (number : Entry → Option ℕ) → AreCountsOf (replicate many 0) many number []
counted_none many number = record { long = length-replicate many 0; exact = λ n within. get_or-replicate many n 0 0 within }

module _ (counts : List ℕ) (many : ℕ) (number : Entry → Option ℕ) (past : List Entry) (e : Entry) (so_far : AreCountsOf counts many number past) where
  pushed : (n : ℕ) (o : Option ℕ) → number e ≡ o →
      count_of number n (past ++ e ∷ []) ≡ count_of number n past + cond (option_map_or (λ m. m == n) o false) 1 0
  pushed n o is =
      sum_by_push (λ x. cond (option_map_or (λ m. m == n) (number x) false) 1 0) past e
      ∙ ap (λ p. count_of number n past + cond (option_map_or (λ m. m == n) p false) 1 0) is

  counted_one : (o : Option ℕ) → number e ≡ o → AreCountsOf (with_one counts o) many number (past ++ e ∷ [])
  counted_one None is = record {
    long = so_far.long;
    exact = λ n within. so_far.exact n within ∙ sym (pushed n None is ∙ add-zero _);
  }
  counted_one (Some m) is = record {
    long = length-set counts m (get_or counts m 0 + 1) ∙ so_far.long;
    exact = λ n within.
        elim (cases_eq m n) [
          | inl same ↦
              let inside : m < length counts = let long = so_far.long in omega (arith, same, within) in
              ap (λ k. get_or (set counts m (get_or counts m 0 + 1)) k 0) (sym same)
              ∙ get_or-set_same counts m (get_or counts m 0 + 1) 0 inside
              ∙ ap (λ k. get_or counts k 0 + 1) same
              ∙ ap (λ k. k + 1) (so_far.exact n within)
              ∙ sym (pushed n (Some m) is ∙ ap (λ b. count_of number n past + cond b 1 0) (eq-eqb m n same))
          | inr other ↦
              get_or-set_other counts m n (get_or counts m 0 + 1) 0 (λ same. other (sym same))
              ∙ so_far.exact n within
              ∙ sym (pushed n (Some m) is ∙ ap (λ b. count_of number n past + cond b 1 0) (ne_eqb m n other) ∙ add-zero _)
        ];
  }

  pub counted_more : AreCountsOf (with_one counts (number e)) many number (past ++ e ∷ [])
  counted_more = counted_one (number e) refl

abbrev made : ℕ → ℕ → ℕ → ℕ → ℕ → ℕ → ℕ → ℕ → Totals
made l s m c a t d x = record { lines = l; sent = s; made = m; copied = c; arrived = a; taken = t; dropped = d; crossed = x }

count_push : (p : Entry → Bool) (past : List Entry) (e : Entry) → count_by p (past ++ e ∷ []) ≡ count_by p past + count_by p (e ∷ [])
count_push p past e = sum_by-append (λ x. cond (p x) 1 0) past (e ∷ [])

totals_push : (past : List Entry) (e : Entry) → totals_of (past ++ e ∷ []) ≡ plus (totals_of past) (totals_of (e ∷ []))
totals_push past e =
    let n : (Entry → Bool) → ℕ = λ p. count_by p (past ++ e ∷ []) in
    let m : (Entry → Bool) → ℕ = λ p. count_by p past + count_by p (e ∷ []) in
    ap (λ x. made x (n is_sent) (n is_made) (n is_copied) (n is_arrived) (n is_taken) (n is_dropped) (n is_crossed)) (count_push is_line past e)
    ∙ ap (λ x. made (m is_line) x (n is_made) (n is_copied) (n is_arrived) (n is_taken) (n is_dropped) (n is_crossed)) (count_push is_sent past e)
    ∙ ap (λ x. made (m is_line) (m is_sent) x (n is_copied) (n is_arrived) (n is_taken) (n is_dropped) (n is_crossed)) (count_push is_made past e)
    ∙ ap (λ x. made (m is_line) (m is_sent) (m is_made) x (n is_arrived) (n is_taken) (n is_dropped) (n is_crossed)) (count_push is_copied past e)
    ∙ ap (λ x. made (m is_line) (m is_sent) (m is_made) (m is_copied) x (n is_taken) (n is_dropped) (n is_crossed)) (count_push is_arrived past e)
    ∙ ap (λ x. made (m is_line) (m is_sent) (m is_made) (m is_copied) (m is_arrived) x (n is_dropped) (n is_crossed)) (count_push is_taken past e)
    ∙ ap (λ x. made (m is_line) (m is_sent) (m is_made) (m is_copied) (m is_arrived) (m is_taken) x (n is_crossed)) (count_push is_dropped past e)
    ∙ ap (λ x. made (m is_line) (m is_sent) (m is_made) (m is_copied) (m is_arrived) (m is_taken) (m is_dropped) x) (count_push is_crossed past e)

pub tally_more : (old new : Tally) (hosts : ℕ) (past : List Entry) (e : Entry) → IsTallyOf old hosts past →
    new.totals ≡ plus old.totals (totals_of (e ∷ [])) →
    new.ended.items ≡ with_one old.ended.items (ending_of e) →
    new.sent.items ≡ with_one old.sent.items (sender_of e) →
    new.arrived.items ≡ with_one old.arrived.items (receiver_of e) →
    new.skipped.items ≡ with_one old.skipped.items (skipper_of e) →
    IsTallyOf new hosts (past ++ e ∷ [])
tally_more old new hosts past e so_far totals ended sent arrived skipped = record {
  totals = totals ∙ ap (λ t. plus t (totals_of (e ∷ []))) so_far.totals ∙ sym (totals_push past e);
  ended = subst (λ c. AreCountsOf c 9 ending_of (past ++ e ∷ [])) (sym ended) (counted_more old.ended.items 9 ending_of past e so_far.ended);
  sent = subst (λ c. AreCountsOf c hosts sender_of (past ++ e ∷ [])) (sym sent) (counted_more old.sent.items hosts sender_of past e so_far.sent);
  arrived = subst (λ c. AreCountsOf c hosts receiver_of (past ++ e ∷ [])) (sym arrived) (counted_more old.arrived.items hosts receiver_of past e so_far.arrived);
  skipped = subst (λ c. AreCountsOf c hosts skipper_of (past ++ e ∷ [])) (sym skipped) (counted_more old.skipped.items hosts skipper_of past e so_far.skipped);
}

pub index_within : (cause : Cause) → index_of cause < 9
index_within causes.NotPlaced = omega arith
index_within causes.NoNextHop = omega arith
index_within causes.NoAddress = omega arith
index_within causes.HostGone = omega arith
index_within causes.LinkDown = omega arith
index_within causes.Lost = omega arith
index_within causes.Spent = omega arith
index_within causes.BadArp = omega arith
index_within causes.NoMember = omega arith

-- the lines of the hosts from one on: its own, and those of the hosts behind it
pub host_lines_more : (journal : List Entry) (n : ℕ) (hosts : List Host) (rests : List Rest) (h : Host) (r : Rest) →
    n < length hosts → n < length rests →
    host_lines journal n (drop n hosts) (drop n rests)
    ≡ host_line (get_or hosts n h) (counts_of n journal) (get_or rests n r)
    ++ host_lines journal (n + 1) (drop (n + 1) hosts) (drop (n + 1) rests)
host_lines_more journal n hosts rests h r within too = rw (drop_more hosts n h within, drop_more rests n r too) refl
