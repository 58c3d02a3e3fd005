-- The host of a name.
use Rattle.std.proofs.Common.{◌≡◌, ◌≢◌, ℕ, ◌<◌, Bool, cond, ltb, List, [], ◌∷◌, length, Option, Some, None, refl, sym, ap, ◌∙◌, inl, inr, arith}
use Rattle.std.specs.List.{All, AllPairs, HoldsAt, position, position_or_len}
use Rattle.std.specs.Option.{IfSome, IfNone, option_map}
use Rattle.std.specs.Str.{bytes_eq}
use Rattle.std.proofs.lemmas.Bool.{cases_lt, false_from_ne_true, le-ltb, lt-ltb}
use Rattle.std.proofs.lemmas.List.Sums.{passes_at_first, position_or_len_is}
use Rattle.std.proofs.lemmas.Slice.Eq.{bytes_eq-Decides}
use Rattle.pl_wiring.specs.declared.host.Host.{Host}
use Rattle.pl_wiring.specs.declared.host.HostNo.{HostNo}
use Rattle.pl_wiring.specs.Plan.{Plan, IsPlan, HasHost}
use Rattle.pl_script.specs.Names.{host_named}

abbrev is_called : List ℕ → Host → Bool
is_called text h = bytes_eq h.name text

found_at : (hosts : List Host) (text : List ℕ) (n : ℕ) → AllPairs (λ g h. g.name ≢ h.name) hosts → n < length hosts →
    HoldsAt (λ h. h.name ≡ text) hosts n → position (is_called text) hosts ≡ Some n
found_at [] text n apart less here = absurd (omega arith)
found_at (h ∷ hosts) text n apart less here =
    let first : position_or_len (is_called text) (h ∷ hosts) ≡ n = position_or_len_is (is_called text) (h ∷ hosts) n h (omega arith)
    (λ k below. false_from_ne_true _ (λ same. apart k n h below less ((bytes_eq-Decides _ text).0 same ∙ sym (here h))))
    (λ _. (bytes_eq-Decides _ text).1 (here h)) in
    ap (λ m. cond (ltb m (length (h ∷ hosts))) (Some m) None) first ∙ ap (λ t. cond t (Some n) None) (lt-ltb n (length (h ∷ hosts)) less)

found_nowhere : (hosts : List Host) (text : List ℕ) → All (λ h. h.name ≢ text) hosts → position (is_called text) hosts ≡ None
found_nowhere [] text none = refl
found_nowhere (h ∷ hosts) text none =
    elim (cases_lt (position_or_len (is_called text) (h ∷ hosts)) (length (h ∷ hosts))) [
      | inl less ↦ absurd (none (position_or_len (is_called text) (h ∷ hosts)) h less ((bytes_eq-Decides _ text).0 (passes_at_first (is_called text) (h ∷ hosts) h less)))
      | inr past ↦ ap (λ t. cond t (Some (position_or_len (is_called text) (h ∷ hosts))) None)
          (le-ltb (position_or_len (is_called text) (h ∷ hosts)) (length (h ∷ hosts)) past)
    ]

pub host_named-is : (plan : Plan) (text : List ℕ) (r : Option HostNo) → IsPlan plan →
    IfSome r (λ host. HasHost plan host.0 (λ h. h.name ≡ text)) → IfNone r (All (λ h. h.name ≢ text) plan.hosts) → r ≡ host_named plan text
unfolding host_named
host_named-is plan text (Some host) is_plan found none =
    sym (ap (option_map (λ n. let h : HostNo = record { 0 = n } in h)) (found_at plan.hosts text host.0 is_plan.names_apart found.0 found.1))
host_named-is plan text None is_plan found none =
    sym (ap (option_map (λ n. let h : HostNo = record { 0 = n } in h)) (found_nowhere plan.hosts text none))
