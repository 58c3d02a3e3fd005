-- What the names of a memory shelf hold after a change at one of them.
use Rattle.std.proofs.Common.{◌≡◌, ◌≢◌, ℕ, Bool, true, false, cond, List, [], ◌++◌, Option, Some, None, option_and_then, refl, sym, ◌∙◌, ap}
use Rattle.std.specs.Option.{option_map}
use Rattle.std.specs.Ordering.{nat_cmp}
use Rattle.std.specs.Cmp.Lexicographic.{slice_cmp, nat_list_cmp_total}
use Rattle.std.specs.FinMap.{get, get-insert, same_map, slice_cmp-IsAntisymmetric, nat_cmp-IsAntisymmetric}
use Rattle.std.proofs.lemmas.List.{append-nil}
use Rattle.std.proofs.lemmas.Map.Text.{is_eq-slice_cmp}
use Rattle.std.proofs.lemmas.Slice.Eq.{bytes_eq-Decides}
use Rattle.pl_lemmas.proofs.Exports.{other_bytes, same_bytes}
use Rattle.pl_shelf.specs.Held.{Held, absent, holds, Changes, with_end, emptied}
use Rattle.pl_shelf.specs.MemoryShelf.{Place, Places, capacity_in, held_of, held_in, room_in, room_at, room_behind, put_changed, with_change, emptied_place, longer_place}

-- a look-up of the name itself, and of any other
get_changed : (places : Places) (name : List ℕ) (change : Place → Place) (o : Option Place) → get places name ≡ o →
    get (put_changed places name change o) name ≡ option_map change o
get_changed places name change None is = is
get_changed places name change (Some p) is =
    get-insert nat_list_cmp_total places name (change p) name
    ∙ ap (λ b. cond b (Some (change p)) (get places name)) (same_bytes name)

get_unchanged : (places : Places) (name : List ℕ) (change : Place → Place) (o : Option Place) (q : List ℕ) → q ≢ name →
    get (put_changed places name change o) q ≡ get places q
get_unchanged places name change None q other = refl
get_unchanged places name change (Some p) q other =
    get-insert nat_list_cmp_total places name (change p) q
    ∙ ap (λ b. cond b (Some (change p)) (get places q)) (other_bytes q name other)

-- a change of one place changes what that name holds, and nothing else
pub changed_held : (places : Places) (name : List ℕ) (change : Place → Place) (to : Held) →
    held_of (option_and_then (λ p. p.content) (option_map change (get places name))) ≡ to →
    Changes (held_in places) (held_in (with_change places name change)) name to
changed_held places name change to is = record {
  named = ap (λ o. held_of (option_and_then (λ p. p.content) o)) (get_changed places name change (get places name) refl) ∙ is;
  others = λ q other. ap (λ o. held_of (option_and_then (λ p. p.content) o)) (get_unchanged places name change (get places name) q other);
}

emptied_content : (o : Option (List ℕ)) → emptied (held_of o) ≡ holds []
emptied_content None = refl
emptied_content (Some bs) = refl

emptied_at : (o : Option Place) (p : Place) → o ≡ Some p →
    held_of (option_and_then (λ p. p.content) (option_map emptied_place o)) ≡ emptied (held_of (option_and_then (λ p. p.content) o))
emptied_at None p is = cc
emptied_at (Some r) p is = sym (emptied_content r.content)

longer_content : (c : Option (List ℕ)) (room : ℕ) (more : List ℕ) → (room_behind room c ≡ 0 → more ≡ []) →
    held_of (option_map (λ bs. bs ++ more) c) ≡ with_end (held_of c) more
longer_content None room more none = sym (ap (with_end absent) (none refl))
longer_content (Some bs) room more none = refl

longer_at : (o : Option Place) (more : List ℕ) → (room_at o ≡ 0 → more ≡ []) →
    held_of (option_and_then (λ p. p.content) (option_map (longer_place more) o)) ≡ with_end (held_of (option_and_then (λ p. p.content) o)) more
longer_at None more none = sym (ap (with_end absent) (none refl))
longer_at (Some p) more none = longer_content p.content p.room more none

pub emptied_held : (places : Places) (name : List ℕ) (p : Place) → get places name ≡ Some p →
    Changes (held_in places) (held_in (with_change places name emptied_place)) name (emptied (held_in places name))
emptied_held places name p is = changed_held places name emptied_place _ (emptied_at (get places name) p is)

pub longer_held : (places : Places) (name more : List ℕ) → (room_in places name ≡ 0 → more ≡ []) →
    Changes (held_in places) (held_in (with_change places name (longer_place more))) name (with_end (held_in places name) more)
longer_held places name more none = changed_held places name (longer_place more) _ (longer_at (get places name) more none)

content_none : (c : Option (List ℕ)) → option_map (λ bs. bs ++ []) c ≡ c
content_none None = refl
content_none (Some bs) = ap (λ c. Some c) (append-nil bs)

longer_place_none : (p : Place) → longer_place [] p ≡ p
longer_place_none p = ap (λ c. record p { content = c }) (content_none p.content)

cond_same : (b : Bool) (x y : Option Place) → (b ≡ true → x ≡ y) → cond b x y ≡ y
cond_same true x y same = same refl
cond_same false x y same = refl

put_none : (places : Places) (name : List ℕ) (o : Option Place) → get places name ≡ o → put_changed places name (longer_place []) o ≡ places
put_none places name None is = refl
put_none places name (Some p) is =
    same_map nat_list_cmp_total (slice_cmp-IsAntisymmetric nat_cmp-IsAntisymmetric) _ _
    (λ q.
    get-insert nat_list_cmp_total places name (longer_place [] p) q
    ∙ cond_same _ _ _
    (λ tied.
    let here : q ≡ name = (bytes_eq-Decides q name).0 (sym (is_eq-slice_cmp q name) ∙ tied) in
    ap (λ p. Some p) (longer_place_none p) ∙ sym is ∙ ap (get places) (sym here)))

-- no bytes more leave all as it is
pub longer_none : (places : Places) (name : List ℕ) → with_change places name (longer_place []) ≡ places
longer_none places name = put_none places name (get places name) refl

cond_room : (b : Bool) (x y : Option Place) → (b ≡ true → option_map (λ p. p.room) x ≡ option_map (λ p. p.room) y) →
    option_map (λ p. p.room) (cond b x y) ≡ option_map (λ p. p.room) y
cond_room true x y same = same refl
cond_room false x y same = refl

room_put : (places : Places) (name : List ℕ) (change : Place → Place) → ((p : Place) → (change p).room ≡ p.room) → (o : Option Place) →
    get places name ≡ o → (q : List ℕ) → capacity_in (put_changed places name change o) q ≡ capacity_in places q
room_put places name change keeps None is q = refl
room_put places name change keeps (Some p) is q =
    ap (option_map (λ r. r.room)) (get-insert nat_list_cmp_total places name (change p) q)
    ∙ cond_room _ _ _
    (λ tied.
    let here : q ≡ name = (bytes_eq-Decides q name).0 (sym (is_eq-slice_cmp q name) ∙ tied) in
    ap (λ n. Some n) (keeps p) ∙ sym (ap (option_map (λ r. r.room)) (ap (get places) here ∙ is)))

-- a change that keeps a place's room keeps what each name may hold
capacity_kept : (places : Places) (name : List ℕ) (change : Place → Place) → ((p : Place) → (change p).room ≡ p.room) →
    capacity_in (with_change places name change) ≡ capacity_in places
capacity_kept places name change keeps = λ i q. room_put places name change keeps (get places name) refl q i

pub emptied_capacity : (places : Places) (name : List ℕ) → capacity_in (with_change places name emptied_place) ≡ capacity_in places
emptied_capacity places name = capacity_kept places name emptied_place (λ p. refl)

pub longer_capacity : (places : Places) (name more : List ℕ) → capacity_in (with_change places name (longer_place more)) ≡ capacity_in places
longer_capacity places name more = capacity_kept places name (longer_place more) (λ p. refl)
