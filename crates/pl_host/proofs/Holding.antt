-- A list of held frames once one more is held.
use Rattle.std.proofs.Common.{◌≡◌, ℕ, ◌+◌, true, cond, List, [], ◌∷◌, ◌++◌, length, Some, None, unwrap_or, option_map, is_none, Result, Ok, Err, OnOk, OnErr, Less, Equal, Greater, refl, sym, ap, ◌∙◌, arith, length-append}
use Rattle.std.specs.List.{fold, sum_by}
use Rattle.std.specs.Map.{keys_of, lookup, set_value, values_of}
use Rattle.std.specs.Ordering.{is_eq, match_ordering, nat_cmp}
use Rattle.std.specs.Cmp.{IsTotalOrder}
use Rattle.std.specs.BTreeMap.{insert_entry, is_at}
use Rattle.std.proofs.lemmas.Cmp.{nat_cmp_total}
use Rattle.std.proofs.lemmas.Map.{lookup-none}
use Rattle.std.proofs.lemmas.Map.Entries.{none_below_head, sum_by-insert_entry, sum_by-set_value}
use Rattle.std.proofs.lemmas.Map.Keys.{sorted_tail}
use Rattle.pl_frame.specs.declared.address.Ip4.{Ip4}
use Rattle.std.proofs.lemmas.Bool.{and_from, and_parts}
use Rattle.pl_arp.specs.Reception.{Table, hardware_of, same_ip}
use Rattle.pl_node.specs.HostViews.{HeldFrames, held_for, ip_cmp, with_held}
use Rattle.pl_node.proofs.Exports.{is_eq-nat_cmp}
use Rattle.pl_host.specs.Waiting.{AreAddressesRising, are_unknown}

pub ip_cmp_total : IsTotalOrder ip_cmp
ip_cmp_total = record {
  antisymm = λ a b. nat_cmp_total.antisymm a.0 b.0;
  trans = λ a b c. nat_cmp_total.trans a.0 b.0 c.0;
  congr = λ a b c. nat_cmp_total.congr a.0 b.0 c.0;
}

pub lookup-at : {X : Type 0} (ip : Ip4) (es : List (Ip4 × X)) → lookup (is_at (ip_cmp ip)) es ≡ lookup (same_ip ip) es
lookup-at ip [] = refl
lookup-at ip (e ∷ es) =
    ap (λ b. cond b (Some e.1) (lookup (is_at (ip_cmp ip)) es)) (is_eq-nat_cmp ip.0 e.0.0)
    ∙ ap (λ o. cond (same_ip ip e.0) (Some e.1) o) (lookup-at ip es)

-- the value of an address that is there is replaced
insert_found : {X : Type 0} (es : List (Ip4 × X)) (ip : Ip4) (old new : X) → AreAddressesRising (keys_of es) → lookup (is_at (ip_cmp ip)) es ≡ Some old →
    insert_entry ip_cmp es ip new ≡ set_value (is_at (ip_cmp ip)) es new
insert_found [] ip old new rising found = absurd (cc)
insert_found {X} (e ∷ es) ip old new rising found =
    elim (ip_cmp ip e.0)
    as (λ o. ip_cmp ip e.0 ≡ o → cond (is_eq o) (Some e.1) (lookup (is_at (ip_cmp ip)) es) ≡ Some old →
    match_ordering o ((ip, new) ∷ e ∷ es) ((e.0, new) ∷ es) (e ∷ insert_entry ip_cmp es ip new)
    ≡ cond (is_eq o) ((e.0, new) ∷ es) (e ∷ set_value (is_at (ip_cmp ip)) es new)) [
      | Less ↦ λ h f.
          let none : lookup (is_at (ip_cmp ip)) (e ∷ es) ≡ None = lookup-none (is_at (ip_cmp ip)) (e ∷ es) (none_below_head ip_cmp_total ip e es rising h) in
          absurd (cc)
      | Equal ↦ λ h f. refl
      | Greater ↦ λ h f. ap (λ r. e ∷ r) (insert_found es ip old new (sorted_tail ip_cmp e.0 (keys_of es) rising) f)
    ] refl found

pub held_for-found : (held : HeldFrames) (ip : Ip4) (frames : List (List ℕ)) → Some frames ≡ lookup (is_at (ip_cmp ip)) held → held_for held ip ≡ frames
held_for-found held ip frames found = ap (λ o. unwrap_or o []) (sym (found ∙ lookup-at ip held))

-- a frame behind those of its address
pub held_behind : (held : HeldFrames) (ip : Ip4) (frames : List (List ℕ)) (frame : List ℕ) → AreAddressesRising (keys_of held) →
    Some frames ≡ lookup (is_at (ip_cmp ip)) held →
    set_value (is_at (ip_cmp ip)) held (frames ++ frame ∷ []) ≡ with_held held ip frame
held_behind held ip frames frame rising found =
    sym (ap (λ fs. insert_entry ip_cmp held ip (fs ++ frame ∷ [])) (held_for-found held ip frames found)
    ∙ insert_found held ip frames (frames ++ frame ∷ []) rising (sym found))

-- one frame more in all
pub count_behind : (held : HeldFrames) (ip : Ip4) (frames : List (List ℕ)) (frame : List ℕ) → Some frames ≡ lookup (is_at (ip_cmp ip)) held →
    sum_by length (values_of (set_value (is_at (ip_cmp ip)) held (frames ++ frame ∷ []))) ≡ sum_by length (values_of held) + 1
count_behind held ip frames frame found =
    let changed = sum_by-set_value length (is_at (ip_cmp ip)) held frames (frames ++ frame ∷ []) (sym found) in
    let longer = length-append frames (frame ∷ []) in
    omega (arith, changed, longer)

pub count_first : (held : HeldFrames) (ip : Ip4) (frame : List ℕ) → AreAddressesRising (keys_of held) → None ≡ lookup (is_at (ip_cmp ip)) held →
    sum_by length (values_of (insert_entry ip_cmp held ip (frame ∷ []))) ≡ sum_by length (values_of held) + 1
count_first held ip frame rising none =
    let changed = sum_by-insert_entry length ip_cmp_total held ip (frame ∷ []) rising in
    let nothing : unwrap_or (option_map length (lookup (is_at (ip_cmp ip)) held)) 0 ≡ 0 = ap (λ o. unwrap_or (option_map length o) 0) (sym none) in
    omega (arith, changed, nothing)

-- the number of frames, by the entries
fold-entries : (n : ℕ) (held : HeldFrames) → fold (λ a entry. a + length entry.1) n held ≡ fold (λ a frames. a + length frames) n (values_of held)
fold-entries n [] = refl
fold-entries n (e ∷ held) = fold-entries (n + length e.1) held

pub count-entries : (held : HeldFrames) → sum_by (λ entry. length entry.1) held ≡ sum_by length (values_of held)
count-entries held = fold-entries 0 held

-- one more frame for an address that is not known
unknown-insert : (cache : Table) (held : HeldFrames) (ip : Ip4) (frames : List (List ℕ)) → is_none (hardware_of cache ip) ≡ true → are_unknown cache held ≡ true →
    are_unknown cache (insert_entry ip_cmp held ip frames) ≡ true
unknown-insert cache [] ip frames none all = and_from (is_none (hardware_of cache ip)) true none refl
unknown-insert cache (e ∷ held) ip frames none all =
    let parts = and_parts (is_none (hardware_of cache e.0)) (are_unknown cache held) all in
    elim (ip_cmp ip e.0)
    as (λ o. are_unknown cache (match_ordering o ((ip, frames) ∷ e ∷ held) ((e.0, frames) ∷ held) (e ∷ insert_entry ip_cmp held ip frames)) ≡ true) [
      | Less ↦ and_from (is_none (hardware_of cache ip)) (are_unknown cache (e ∷ held)) none all
      | Equal ↦ all
      | Greater ↦ and_from (is_none (hardware_of cache e.0)) (are_unknown cache (insert_entry ip_cmp held ip frames)) parts.0
          (unknown-insert cache held ip frames none parts.1)
    ]

pub unknown-with_held : (cache : Table) (held : HeldFrames) (ip : Ip4) (frame : List ℕ) → hardware_of cache ip ≡ None → are_unknown cache held ≡ true →
    are_unknown cache (with_held held ip frame) ≡ true
unknown-with_held cache held ip frame none all = unknown-insert cache held ip (held_for held ip ++ frame ∷ []) (ap is_none none) all

-- what holds after either answer
pub on_either : {A E P : Type 0} (r : Result A E) → OnOk r P → OnErr r P → P
on_either (Ok x) good bad = good
on_either (Err e) good bad = bad
