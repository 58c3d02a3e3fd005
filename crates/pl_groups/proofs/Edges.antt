-- Which switches serve an edge switch.
use Rattle.std.proofs.Common.{◌≡◌, ◌&&◌, ◌||◌, Bool, true, false, List, [], ◌∷◌, ◌++◌, refl, sym, ap, ◌∙◌, subst, eq-eqb}
use Rattle.std.specs.List.{list_any}
use Rattle.std.specs.Ordering.{is_eq}
use Rattle.std.specs.Cmp.{Equal-is}
use Rattle.std.specs.BTreeMap.{is_at}
use Rattle.std.proofs.lemmas.Bool.{and_parts, false≢true}
use Rattle.std.proofs.lemmas.Cmp.{tied_itself}
use Rattle.std.proofs.lemmas.List.Folds.{list_any-append}
use Rattle.pl_lemmas.proofs.Exports.{or_false}
use Rattle.pl_frame.specs.declared.address.SwitchId.{SwitchId}
use Rattle.pl_layouts.specs.Equality.{same_switch}
use Rattle.pl_node.specs.ManagerViews.{Told, alive_neighbours, id_cmp, is_alive, is_told_usable, neighbours}
use Rattle.pl_node.proofs.Exports.{among_filter, among_filtered, any_among, id_total, IsAmong, member_passes}
use Rattle.pl_manager_rule.proofs.Exports.{id_exact, near_usable, same_is}

-- ---- a link that is alive was told by the other end
pub alive_back : (told : Told) (a b : SwitchId) → is_alive told a b ≡ is_alive told b a
alive_back told a b = turn (is_told_usable told a b) (is_told_usable told b a)
  where
    turn : (x y : Bool) → (x && y) ≡ (y && x)
    turn true true = refl
    turn true false = refl
    turn false true = refl
    turn false false = refl

pub alive_neighbour : (told : Told) (s u : SwitchId) → is_alive told s u ≡ true → IsAmong u (neighbours told s)
alive_neighbour told s u h = near_usable told s u (and_parts (is_told_usable told s u) (is_told_usable told u s) h).0

-- so just the switches that serve an edge switch are its neighbours over such links
pub served_by_neighbours : (told : Told) (edge a : SwitchId) → list_any (same_switch a) (alive_neighbours told edge) ≡ is_alive told a edge
served_by_neighbours told edge a = by (is_alive told a edge) refl
  where
    none : is_alive told a edge ≡ false → (b : Bool) → list_any (same_switch a) (alive_neighbours told edge) ≡ b → b ≡ false
    none e false h = refl
    none e true h =
        let one = member_passes (same_switch a) (alive_neighbours told edge) h in
        let alive = among_filter (is_alive told edge) one.0 (neighbours told edge) one.1 in
        let is : a ≡ one.0 = same_is a one.0 one.2 in
        sym (subst (λ z. is_alive told edge z ≡ true) (sym is) alive.1) ∙ alive_back told edge a ∙ e

    by : (b : Bool) → is_alive told a edge ≡ b → list_any (same_switch a) (alive_neighbours told edge) ≡ b
    by true e =
        let back : is_alive told edge a ≡ true = alive_back told edge a ∙ e in
        any_among (same_switch a) a (alive_neighbours told edge)
        (among_filtered (is_alive told edge) a (neighbours told edge) (alive_neighbour told edge a back) back) (eq-eqb a.0 a.0 refl)
    by false e = none e (list_any (same_switch a) (alive_neighbours told edge)) refl

-- ---- one neighbour after another
pub is_here : (x a : SwitchId) → is_at (id_cmp x) a ≡ same_switch a x
is_here x a = by (is_eq (id_cmp x a)) (same_switch a x) refl refl
  where
    by : (r s : Bool) → is_eq (id_cmp x a) ≡ r → same_switch a x ≡ s → is_eq (id_cmp x a) ≡ same_switch a x
    by true true at same = at ∙ sym same
    by false false at same = at ∙ sym same
    by true false at same =
        let is : x ≡ a = id_exact x a ((Equal-is (id_cmp x a)).0 at) in
        absurd (false≢true (sym same ∙ eq-eqb a.0 x.0 (ap (λ (z : SwitchId). z.0) (sym is))))
    by false true at same =
        absurd (false≢true (sym at ∙ subst (λ z. is_eq (id_cmp x z) ≡ true) (sym (same_is a x same)) (ap is_eq (tied_itself id_total x))))

pub any_more : {X : Type 0} (p : X → Bool) (xs : List X) (x : X) → list_any p (xs ++ x ∷ []) ≡ (list_any p xs || p x)
any_more p xs x = list_any-append p xs (x ∷ []) ∙ ap (λ b. list_any p xs || b) (sym (or_false (p x)))
