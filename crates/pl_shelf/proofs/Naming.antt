-- The places of a map by names, against the calls of the map.
use Rattle.std.proofs.Common.{◌≡◌, ℕ, cond, List, [], ◌∷◌, map, Option, Some, None, option_and_then, refl, sym, ◌∙◌, ap, String}
use Rattle.std.specs.Ordering.{nat_cmp, eq_by_cmp}
use Rattle.std.specs.Cmp.{eq_by_cmp_equiv}
use Rattle.std.specs.Cmp.Lexicographic.{slice_cmp, nat_list_cmp_total}
use Rattle.std.specs.Str.{bytes_eq}
use Rattle.std.specs.String.{string_bytes, string_cmp}
use Rattle.std.specs.BTreeMap.{BTreeMap, is_at, get_by_text, UpdatesBy}
use Rattle.std.specs.Map.{lookup}
use Rattle.std.specs.FinMap.{get, insert, find, get-insert, get-from_entries, same_map, slice_cmp-IsAntisymmetric, nat_cmp-IsAntisymmetric}
use Rattle.std.proofs.lemmas.Map.Text.{btree_map_updates_text, is_eq-slice_cmp}
use Rattle.pl_shelf.specs.MemoryShelf.{Place, places_of, content_in, room_at, room_in, put_changed, with_change}

find_text : {Y : Type 0} (es : List (String Y × Place)) (q : List ℕ) →
    find (slice_cmp nat_cmp) q (map (λ e. (string_bytes e.0, e.1)) es) ≡ lookup (is_at (λ k. slice_cmp nat_cmp q (string_bytes k))) es
find_text [] q = refl
find_text (e ∷ es) q = ap (cond (eq_by_cmp (slice_cmp nat_cmp) q (string_bytes e.0)) (Some e.1)) (find_text es q)

pub get-places_of : {Y : Type 0} (m : BTreeMap (String Y) Place) (q : List ℕ) → get (places_of m) q ≡ get_by_text m q
get-places_of m q = get-from_entries nat_list_cmp_total _ q ∙ find_text m.entries q

-- a map that changed at one name has another place there
pub places_of-updates : {Y : Type 0} (m n : BTreeMap (String Y) Place) (name : List ℕ) (place : Place) →
    UpdatesBy string_cmp (λ k. slice_cmp nat_cmp name (string_bytes k)) m n (Some place) →
    places_of n ≡ insert (places_of m) name place
places_of-updates m n name place updates =
    same_map nat_list_cmp_total (slice_cmp-IsAntisymmetric nat_cmp-IsAntisymmetric) _ _
    (λ q.
    let same : bytes_eq name q ≡ eq_by_cmp (slice_cmp nat_cmp) q name =
    sym (is_eq-slice_cmp name q) ∙ (eq_by_cmp_equiv nat_list_cmp_total).symm name q in
    get-places_of n q
    ∙ btree_map_updates_text name m n (Some place) updates q
    ∙ ap (λ b. cond b (Some place) (get_by_text m q)) same
    ∙ ap (cond (eq_by_cmp (slice_cmp nat_cmp) q name) (Some place)) (sym (get-places_of m q))
    ∙ sym (get-insert nat_list_cmp_total (places_of m) name place q))

module _ {Y : Type 0} (m : BTreeMap (String Y) Place) (q : List ℕ) where
  pub get_found : (o : Option Place) → o ≡ get_by_text m q → get (places_of m) q ≡ o
  get_found o is = get-places_of m q ∙ sym is

  pub content_found : (o : Option Place) → o ≡ get_by_text m q → content_in (places_of m) q ≡ option_and_then (λ p. p.content) o
  content_found o is = ap (option_and_then (λ p. p.content)) (get_found o is)

  pub room_found : (o : Option Place) → o ≡ get_by_text m q → room_in (places_of m) q ≡ room_at o
  room_found o is = ap room_at (get_found o is)

  pub changed_found : (n : BTreeMap (String Y) Place) (p new : Place) (change : Place → Place) → Some p ≡ get_by_text m q →
      new ≡ change p → UpdatesBy string_cmp (λ k. slice_cmp nat_cmp q (string_bytes k)) m n (Some new) →
      places_of n ≡ with_change (places_of m) q change
  changed_found n p new change is changed updates =
      places_of-updates m n q new updates ∙ ap (insert (places_of m) q) changed
      ∙ ap (put_changed (places_of m) q change) (sym (get_found (Some p) is))

  pub changed_missing : (n : BTreeMap (String Y) Place) (change : Place → Place) → None ≡ get_by_text m q → n ≡ m →
      places_of n ≡ with_change (places_of m) q change
  changed_missing n change is same = ap places_of same ∙ ap (put_changed (places_of m) q change) (sym (get_found None is))
