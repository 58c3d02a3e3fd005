-- What is left of the hosts whose captures were read.
use Rattle.std.proofs.Common.{◌≡◌, ℕ, zero, suc, ◌+◌, ◌-◌, ◌<◌, List, [], ◌∷◌, ◌++◌, length, drop, get_or, map, refl, sym, ap, ◌∙◌, add-one, append_assoc, arith}
use Rattle.std.proofs.Math.Seq.{drop-cons}
use Rattle.pl_wiring.specs.declared.host.HostNo.{HostNo}
use Rattle.pl_inputs.specs.declared.capture.Capture.{Capture}
use Rattle.pl_inputs.specs.Loaded.{files_of}
use Rattle.pl_inputs.specs.Records.{records_by, records_in, records_in_file, records_of, tail_by, tail_of_file}
use Rattle.pl_script_rule.specs.Lines.{left_of}
use Rattle.pl_script_rule.specs.Scenes.{Scene, asked_of}
use Rattle.pl_output.specs.declared.summary.Rest.{Rest}
use Rattle.pl_playing.specs.Outcomes.{held_at, rests_from}

-- the records that were walked are those of the files
pub records_are : (captures : List Capture) → records_of captures ≡ map records_in_file (files_of captures)
records_are [] = refl
records_are (c ∷ captures) =
    ap (λ r. r ∷ records_of captures) (sym (ap (records_by c.bytes.items) c.read))
    ∙ ap (λ rs. records_in_file c.bytes.items ∷ rs) (records_are captures)

tail_is : (c : Capture) → tail_of_file c.bytes.items ≡ c.tail
tail_is c = ap tail_by c.read

-- those of one host
records_at_one : (captures : List Capture) (n : ℕ) (c : Capture) → n < length captures → c ≡ get_or captures n c →
    get_or (records_of captures) n [] ≡ records_in_file c.bytes.items
records_at_one [] n c within is = absurd (omega (arith, within))
records_at_one (d ∷ captures) zero c within is =
    ap (λ (x : Capture). records_in x) (sym is) ∙ sym (ap (records_by c.bytes.items) c.read)
records_at_one (d ∷ captures) (suc n) c within is = records_at_one captures n c (omega (arith, within)) is

abbrev rest : ℕ → ℕ → ℕ → Rest
rest held unread tail = record { held = held; unread = unread; tail = tail }

same_rest : (r : Rest) (held unread tail : ℕ) → r.held ≡ held → r.unread ≡ unread → r.tail ≡ tail → r ≡ rest held unread tail
same_rest r held unread tail is was then =
    ap (λ x. rest x r.unread r.tail) is ∙ ap (λ x. rest held x r.tail) was ∙ ap (λ x. rest held unread x) then

-- one host more
pub one_rest_more : (captures : List Capture) (n : ℕ) (c : Capture) (h : HostNo) (r : Rest) (scene : Scene) (done whole : List Rest) →
    n < length captures → c ≡ get_or captures n c → h.0 ≡ n → r.held ≡ held_at scene h.0 → r.unread ≡ left_of (records_of captures) scene h → r.tail ≡ c.tail →
    done ++ rests_from n (files_of (drop n captures)) scene ≡ whole →
    (done ++ r ∷ []) ++ rests_from (n + 1) (files_of (drop (n + 1) captures)) scene ≡ whole
one_rest_more captures n c h r scene done whole within is at held unread tail all =
    let here : drop n captures ≡ c ∷ drop (n + 1) captures =
    rw add-one (drop-cons captures n c within ∙ ap (λ x. x ∷ drop (suc n) captures) (sym is)) in
    let records : get_or (records_of captures) h.0 [] ≡ records_in_file c.bytes.items =
    ap (λ m. get_or (records_of captures) m []) at ∙ records_at_one captures n c within is in
    let left : r.unread ≡ length (records_in_file c.bytes.items) - asked_of scene n =
    unread ∙ ap (λ rs. length rs - asked_of scene h.0) records ∙ ap (λ m. length (records_in_file c.bytes.items) - asked_of scene m) at in
    let one : r ≡ rest (held_at scene n) (length (records_in_file c.bytes.items) - asked_of scene n) (tail_of_file c.bytes.items) =
    same_rest r _ _ _ (held ∙ ap (held_at scene) at) left (tail ∙ sym (tail_is c)) in
    let there : rests_from n (files_of (drop n captures)) scene ≡ r ∷ rests_from (n + 1) (files_of (drop (n + 1) captures)) scene =
    ap (λ cs. rests_from n (files_of cs) scene) here
    ∙ ap (λ x. x ∷ rests_from (suc n) (files_of (drop (n + 1) captures)) scene) (sym one)
    ∙ ap (λ m. r ∷ rests_from m (files_of (drop (n + 1) captures)) scene) (sym (add-one n)) in
    append_assoc done (r ∷ []) (rests_from (n + 1) (files_of (drop (n + 1) captures)) scene)
    ∙ ap (λ rs. done ++ rs) (sym there) ∙ all
