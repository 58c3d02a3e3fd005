-- What is decided of a world is so.
use Rattle.std.proofs.Common.{◌≡◌, ℕ, zero, suc, ◌+◌, ◌==◌, ◌&&◌, ◌||◌, not, Bool, true, false, true≢false, List, [], ◌∷◌, Option, Some, None, is_none, slice_get, Contains, refl, sym, ap, ◌∙◌, subst, arith, eqb-true, inl, inr}
use Rattle.std.specs.List.{list_any, range_with_len}
use Rattle.std.proofs.lemmas.Bool.{and_parts, cases_Bool, not-true}
use Rattle.std.proofs.lemmas.Option.{none-some, same_Some, slice_get-get_or}
use Rattle.pl_frame.specs.declared.address.SwitchId.{SwitchId}
use Rattle.pl_layouts.specs.declared.place.Place.{Place}
use Rattle.pl_wiring.specs.declared.link.Peer.{Peer}
use Rattle.pl_wiring.specs.declared.link.Peer.TheVariants.{HostPort, Switch}
use Rattle.pl_wiring.specs.Labels.{switch_count}
use Rattle.pl_wiring.specs.LiveLinks.{is_live_at}
use Rattle.pl_wiring.specs.Peers.{peer_of}
use Rattle.pl_node.specs.declared.neighbour.Neighbour.{Neighbour}
use Rattle.pl_node.specs.AvoidLists.{avoid_list}
use Rattle.pl_node.specs.ManagerFacts.{groups}
use Rattle.pl_node.specs.ManagerViews.{ManagerView, is_told_usable, place_of}
use Rattle.pl_node.specs.PortRecords.{is_usable, port_of}
use Rattle.pl_node.specs.SwitchFacts.{group_of_part, part_of}
use Rattle.pl_node.specs.SwitchViews.{SwitchView}
use Rattle.pl_node.specs.Trees.{tree_part}
use Rattle.pl_fabric.specs.Settled.{HasPart, IsSettled, IsSettledEnd, IsSettledSwitch, IsSettledTowards, announced_at, has_reports, would_change}
use Rattle.pl_fabric.proofs.Exports.{any_below}
use Rattle.pl_queues.specs.Queues.{has_items, items_at}
use Rattle.pl_queues.proofs.Exports.{no_items}
use Rattle.pl_world.specs.declared.item.Item.TheVariants.{Control}
use Rattle.pl_world.specs.Changes.{out_of}
use Rattle.pl_world.specs.Worlds.{WorldView}
use Rattle.pl_sure_example.specs.Deciding.{are_settled, has_part, hears_of, is_control_item, is_current, is_settled_end, is_settled_switch, is_settled_to, is_settled_towards, is_settled_world, is_unsettled_port, same_bool, same_id, same_number, same_place}

bools_are : (a b : Bool) → same_bool a b ≡ true → a ≡ b
bools_are true b is = sym is
bools_are false b is = sym (not-true b is)

numbers_are : (a b : Option ℕ) → same_number a b ≡ true → a ≡ b
numbers_are None None is = refl
numbers_are None (Some n) is = absurd (true≢false (sym is))
numbers_are (Some m) None is = absurd (true≢false (sym is))
numbers_are (Some m) (Some n) is = ap Some (eqb-true m n is)

places_are : (a b : Place) → same_place a b ≡ true → a ≡ b
places_are a b is =
    let one = and_parts (same_number a.level b.level) (same_number a.position b.position && same_number a.pod b.pod) is in
    let two = and_parts (same_number a.position b.position) (same_number a.pod b.pod) one.1 in
    let level = numbers_are a.level b.level one.0 in
    let position = numbers_are a.position b.position two.0 in
    let pod = numbers_are a.pod b.pod two.1 in
    λ i. record { level = level i; position = position i; pod = pod i }

id_is : (a b : SwitchId) → (a.0 == b.0) ≡ true → a ≡ b
id_is a b is = ap (λ (n : ℕ). record { 0 = n }) (eqb-true a.0 b.0 is)

ids_are : (a b : Option SwitchId) → same_id a b ≡ true → a ≡ b
ids_are None None is = refl
ids_are None (Some n) is = absurd (true≢false (sym is))
ids_are (Some m) None is = absurd (true≢false (sym is))
ids_are (Some m) (Some n) is = ap Some (id_is m n is)

heard_is : (o : Option Neighbour) (there : Neighbour) → hears_of o there ≡ true → o ≡ Some there
heard_is None there is = absurd (true≢false (sym is))
heard_is (Some heard) there is =
    let one = and_parts (heard.id.0 == there.id.0) (same_place heard.place there.place && same_id heard.echo there.echo) is in
    let two = and_parts (same_place heard.place there.place) (same_id heard.echo there.echo) one.1 in
    let id = id_is heard.id there.id one.0 in
    let place = places_are heard.place there.place two.0 in
    let echo = ids_are heard.echo there.echo two.1 in
    λ i. Some (record { id = id i; place = place i; echo = echo i })

current_is : (live : Bool) (o : Option Neighbour) (there : Neighbour) → is_current live o there ≡ true → live ≡ true → o ≡ Some there
current_is true o there is live = heard_is o there is
current_is false o there is live = absurd (true≢false (sym live))

end_is : (manager : ManagerView) (live : Bool) (v : SwitchView) (port : ℕ) (u : SwitchView) (q : ℕ) → is_settled_end manager live v port u q ≡ true →
    IsSettledEnd manager live v port u q
end_is manager live v port u q is =
    let one = and_parts (same_bool (is_usable v port) live) (is_current live (port_of v port).heard (announced_at u q)
    && (same_bool (is_told_usable manager.told v.id u.id) live && not (would_change v port u q))) is in
    let two = and_parts (is_current live (port_of v port).heard (announced_at u q)) (same_bool (is_told_usable manager.told v.id u.id) live && not (would_change v port u q)) one.1 in
    let three = and_parts (same_bool (is_told_usable manager.told v.id u.id) live) (not (would_change v port u q)) two.1 in
    record {
      usable = bools_are (is_usable v port) live one.0;
      current = current_is live (port_of v port).heard (announced_at u q) two.0;
      told = bools_are (is_told_usable manager.told v.id u.id) live three.0;
      no_news = not-true (would_change v port u q) three.1;
    }

towards_is : (w : WorldView) (s : ℕ) (v : SwitchView) (port : ℕ) (peer : Peer) → is_settled_towards w s v port peer ≡ true → IsSettledTowards w s v port peer
towards_is w s v port HostPort is = tt
towards_is w s v port (Switch t q) is = λ u found. end_is w.manager (is_live_at w.links s port) v port u q (ap (λ (o : Option SwitchView). is_settled_to w s v port q o) (sym found) ∙ is)

-- none of a list
pub none_there : {X : Type 0} (p : X → Bool) (xs : List X) → list_any p xs ≡ false → (n : ℕ) (x : X) → slice_get xs n ≡ Some x → p x ≡ false
none_there p [] none n x is = absurd (none-some x is)
none_there p (y ∷ ys) none zero x is = ap p (sym (same_Some y x is)) ∙ first (p y) (list_any p ys) none
  where
    first : (a b : Bool) → (a || b) ≡ false → a ≡ false
    first true b is = absurd (true≢false is)
    first false b is = refl
none_there p (y ∷ ys) none (suc n) x is = none_there p ys (later (p y) (list_any p ys) none) n x is
  where
    later : (a b : Bool) → (a || b) ≡ false → b ≡ false
    later true b is = absurd (true≢false is)
    later false b is = is

pub at_index : {X : Type 0} (xs : List X) (x : X) → (there : Contains xs x) → slice_get xs there.0 ≡ Some x
at_index xs x there = slice_get-get_or xs there.0 x there.1 ∙ ap Some there.2

-- the queues of a queue array
queue_none : {X : Type 0} (p : X → Bool) (queues : List (List X)) → list_any (list_any p) queues ≡ false → (at : ℕ) → list_any p (items_at queues at) ≡ false
queue_none p [] none at = refl
queue_none p (q ∷ queues) none zero = none_there (list_any p) (q ∷ queues) none zero q refl
queue_none p (q ∷ queues) none (suc at) = queue_none p queues (later (list_any p q) (list_any (list_any p) queues) none) at
  where
    later : (a b : Bool) → (a || b) ≡ false → b ≡ false
    later true b is = absurd (true≢false is)
    later false b is = is

queue_empty : {X : Type 0} (queues : List (List X)) → list_any has_items queues ≡ false → (at : ℕ) → items_at queues at ≡ []
queue_empty [] none at = refl
queue_empty (q ∷ queues) none zero = no_items q (none_there has_items (q ∷ queues) none zero q refl)
queue_empty (q ∷ queues) none (suc at) = queue_empty queues (later (has_items q) (list_any has_items queues) none) at
  where
    later : (a b : Bool) → (a || b) ≡ false → b ≡ false
    later true b is = absurd (true≢false is)
    later false b is = is

nothing_in : {X : Type 0} (xs : List X) (x : X) → xs ≡ [] → Contains xs x → ⊥
nothing_in xs x is there = none-some x (ap (λ ys. slice_get ys there.0) (sym is) ∙ at_index xs x there)

switch_is : (w : WorldView) (s : ℕ) (v : SwitchView) → is_settled_switch w s v ≡ true → IsSettledSwitch w s v
switch_is w s v is =
    let ports = not (list_any (is_unsettled_port w s v) (range_with_len 0 w.plan.k)) in
    let place = same_place (place_of w.manager.told v.id) v.place in
    let avoid = not (has_items v.avoid) in
    let list = not (has_items (avoid_list w.manager.told v.id)) in
    let of_groups = not (list_any (has_part w.manager v) (groups w.manager.members)) in
    let parts = not (has_items v.parts) in
    let epoch = v.epoch == w.manager.epoch in
    let one = and_parts ports (place && (avoid && (list && (of_groups && (parts && epoch))))) is in
    let two = and_parts place (avoid && (list && (of_groups && (parts && epoch)))) one.1 in
    let three = and_parts avoid (list && (of_groups && (parts && epoch))) two.1 in
    let four = and_parts list (of_groups && (parts && epoch)) three.1 in
    let five = and_parts of_groups (parts && epoch) four.1 in
    let six = and_parts parts epoch five.1 in
    record {
      links = λ port less. towards_is w s v port (peer_of w.plan s port) (elim (cases_Bool (is_unsettled_port w s v port)) [
        | inl bad ↦ absurd (true≢false (sym (any_below (is_unsettled_port w s v) w.plan.k port less bad) ∙ not-true _ one.0))
        | inr good ↦ settled (is_settled_towards w s v port (peer_of w.plan s port)) good
      ]);
      place = places_are (place_of w.manager.told v.id) v.place two.0;
      avoids = no_items v.avoid (not-true _ three.0) ∙ sym (no_items (avoid_list w.manager.told v.id) (not-true _ four.0));
      groups = λ n group low found. has_it group (none_there (has_part w.manager v) (groups w.manager.members) (not-true _ five.0) n group found);
      parts = λ n group low found. absurd (none_in n group (no_items v.parts (not-true _ six.0)) found);
      epoch = eqb-true v.epoch w.manager.epoch six.1;
    }
  where
    settled : (b : Bool) → not b ≡ false → b ≡ true
    settled true is = refl
    settled false is = absurd (true≢false is)

    none_of : {X : Type 0} (a b : Option X) → not (is_none a && is_none b) ≡ false → a ≡ b
    none_of None None is = refl
    none_of None (Some y) is = absurd (true≢false is)
    none_of (Some x) b is = absurd (true≢false is)

    has_it : (group : ℕ) → has_part w.manager v group ≡ false → HasPart w.manager v group
    has_it group is = none_of (part_of v group) (tree_part w.manager.told w.manager.members group v.id) is

    none_in : (n group : ℕ) → v.parts ≡ [] → group_of_part v n ≡ Some group → ⊥
    none_in n group none found = none-some group (ap (λ parts. group_of_part (record v { parts = parts }) n) (sym none) ∙ found)

switches_are : (w : WorldView) (from : ℕ) (switches : List SwitchView) → are_settled w from switches ≡ true → (n : ℕ) (v : SwitchView) → slice_get switches n ≡ Some v →
    IsSettledSwitch w (from + n) v
switches_are w from [] is n v found = absurd (none-some v found)
switches_are w from (u ∷ switches) is zero v found =
    let here = and_parts (is_settled_switch w from u) (are_settled w (from + 1) switches) is in
    let same : from ≡ from + 0 = omega arith in
    subst (λ (s : ℕ). IsSettledSwitch w s v) same (subst (λ (x : SwitchView). IsSettledSwitch w from x) (same_Some u v found) (switch_is w from u here.0))
switches_are w from (u ∷ switches) is (suc n) v found =
    let here = and_parts (is_settled_switch w from u) (are_settled w (from + 1) switches) is in
    let same : from + 1 + n ≡ from + suc n = omega arith in
    subst (λ (s : ℕ). IsSettledSwitch w s v) same (switches_are w (from + 1) switches here.1 n v found)

pub settled_is : (w : WorldView) → is_settled_world w ≡ true → IsSettled w
settled_is w is =
    let out = not (list_any (list_any is_control_item) w.out) in
    let hosts = not (list_any (list_any is_control_item) w.from_hosts) in
    let up = not (list_any has_items w.to_manager) in
    let down = not (list_any has_items w.from_manager) in
    let reports = has_reports w.manager (switch_count w.plan.k) in
    let settled = are_settled w 0 w.switches in
    let one = and_parts out (hosts && (up && (down && (settled && reports)))) is in
    let two = and_parts hosts (up && (down && (settled && reports))) one.1 in
    let three = and_parts up (down && (settled && reports)) two.1 in
    let four = and_parts down (settled && reports) three.1 in
    let five = and_parts settled reports four.1 in
    record {
      queues = record {
        out_of_ports = λ s port v frame found less there.
            absurd (true≢false (none_there is_control_item (out_of w s port) (queue_none is_control_item w.out (not-true _ one.0) _) there.0 (Control frame) (at_index _ (Control frame) there)));
        from_hosts = λ h frame there.
            true≢false (none_there is_control_item (items_at w.from_hosts h) (queue_none is_control_item w.from_hosts (not-true _ two.0) h) there.0 (Control frame) (at_index _ (Control frame) there));
        to_manager = λ s told there. absurd (nothing_in (items_at w.to_manager s) told (queue_empty w.to_manager (not-true _ three.0) s) there);
        from_manager = λ s says there. absurd (nothing_in (items_at w.from_manager s) says (queue_empty w.from_manager (not-true _ four.0) s) there);
      };
      switches = λ s v found. let same : 0 + s ≡ s = omega arith in
          subst (λ (n : ℕ). IsSettledSwitch w n v) same (switches_are w 0 w.switches five.0 s v found);
      reports = five.1;
    }
