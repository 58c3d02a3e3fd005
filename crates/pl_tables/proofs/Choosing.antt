-- What the tables say to the question of a frame are the ports by which its rule lets it leave.
use Rattle.std.proofs.Common.{◌≡◌, ℕ, ◌+◌, ◌/◌, ◌%◌, ◌<◌, ◌≤◌, nat_lt, ◌&&◌, not, Bool, true, false, if◌then◌else◌, cond, List, [], ◌∷◌, Option, Some, None, refl, sym, ap, ◌∙◌, arith}
use Rattle.std.specs.List.{filter}
use Rattle.std.proofs.lemmas.Bool.{eqb-true, false≢true}
use Rattle.std.proofs.lemmas.Nat.{div-mul-add, mod-mul-add}
use Rattle.pl_pmac.specs.declared.pmac.Pmac.{Pmac}
use Rattle.pl_layouts.specs.declared.place.Place.{Place}
use Rattle.pl_layouts.specs.Placement.{is_known}
use Rattle.pl_lists.specs.declared.port_set.PortSet.{PortSet}
use Rattle.pl_lists.specs.Ports.{has_port, ports_of}
use Rattle.pl_node.specs.AvoidLists.{is_level_above}
use Rattle.pl_node.specs.PortRecords.{id_at, is_usable, place_at, ports_of_switch, ports_where}
use Rattle.pl_node.specs.SwitchFacts.{is_avoided}
use Rattle.pl_node.specs.SwitchViews.{SwitchView}
use Rattle.pl_switch_rule.specs.declared.came.Came.{Came}
use Rattle.pl_switch_rule.specs.declared.came.Came.TheVariants.{FromAbove, FromBelow, FromHost}
use Rattle.pl_switch_rule.specs.Forwarding.{candidates, is_candidate, leads_from_aggregation, leads_from_core, leads_from_edge, leads_to_pod, leads_to_position, leads_up}
use Rattle.pl_switch_rule.specs.Granting.{is_local}
use Rattle.pl_tables.specs.declared.asked.Asked.{Asked}
use Rattle.pl_tables.specs.declared.asked.Asked.TheVariants.{Down, Nothing, Up}
use Rattle.pl_tables.specs.declared.prefix_tables.PrefixTables.{PrefixTables}
use Rattle.pl_tables.specs.Rows.{ports_at}
use Rattle.pl_tables.specs.Tables.{is_down, is_up, is_up_avoided, AreTables}
use Rattle.pl_tables.specs.Ways.{address_key, asked_at_aggregation, asked_at_core, asked_at_edge, asked_for, LeavesBy}
use Rattle.pl_tables.proofs.PortSets.{all_ports, each_port, no_ports}
use Rattle.pl_tables.proofs.Showing.{row_set}

level_above : (own other : Option ℕ) (n : ℕ) → is_known own n ≡ true → is_level_above own other ≡ is_known other (n + 1)
level_above None other n h = absurd (false≢true h)
level_above (Some m) None n h = refl
level_above (Some m) (Some o) n h = let e : m ≡ n = eqb-true m n h in rw e refl

one_level : (own : Option ℕ) → is_known own 2 ≡ true → is_known own 1 ≡ false
one_level None h = absurd (false≢true h)
one_level (Some m) h = let e : m ≡ 2 = eqb-true m 2 h in rw e refl

module _ (v : SwitchView) (to : Pmac) (port : ℕ) where
  -- a port that the tables give
  abbrev gives : Asked → Bool
  gives Up = is_up v port && not (is_avoided v (id_at v port) to.pod to.position)
  gives (Down key) = is_down v key port
  gives Nothing = false

  gives_up : (n : ℕ) → is_known v.place.level n ≡ true → gives Up ≡ leads_up v (n + 1) to port
  gives_up n level = ap (λ b. (is_usable v port && b) && not (is_avoided v (id_at v port) to.pod to.position)) (level_above v.place.level (place_at v port).level n level)

  gives_position : is_known v.place.level 1 ≡ true → gives (Down to.position) ≡ leads_to_position v to port
  gives_position level = ap (λ b. if b then leads_to_position v to port else if is_known v.place.level 2 then (is_usable v port && is_known (place_at v port).level 1) && is_known (place_at v port).pod to.position else false) level

  gives_pod : is_known v.place.level 2 ≡ true → gives (Down to.pod) ≡ leads_to_pod v to port
  gives_pod level =
      ap (λ b. if b then (is_usable v port && is_known (place_at v port).level 0) && is_known (place_at v port).position to.pod else if is_known v.place.level 2 then leads_to_pod v to port else false) (one_level v.place.level level)
      ∙ ap (λ b. if b then leads_to_pod v to port else false) level

  up_unless : (b : Bool) (leads : Bool) → gives Up ≡ leads → gives (if b then Nothing else Up) ≡ (not b && leads)
  up_unless true leads h = refl
  up_unless false leads h = h

  down_or_up : (b : Bool) (key : ℕ) (down up : Bool) → gives (Down key) ≡ down → gives Up ≡ up → gives (if b then Down key else Up) ≡ (if b then down else up)
  down_or_up true key down up h k = h
  down_or_up false key down up h k = k

  down_if : (b : Bool) (key : ℕ) (down : Bool) → gives (Down key) ≡ down → gives (if b then Down key else Nothing) ≡ (b && down)
  down_if true key down h = h
  down_if false key down h = refl

  at_edge : (came : Came) → is_known v.place.level 0 ≡ true → gives (asked_at_edge v.place to came) ≡ leads_from_edge v to came port
  at_edge FromHost level = up_unless (is_local v to) (leads_up v 1 to port) (gives_up 0 level)
  at_edge FromBelow level = refl
  at_edge FromAbove level = refl

  at_aggregation : (came : Came) → is_known v.place.level 1 ≡ true → gives (asked_at_aggregation v.place to came) ≡ leads_from_aggregation v to came port
  at_aggregation FromHost level = refl
  at_aggregation FromBelow level = down_or_up (is_known v.place.pod to.pod) to.position (leads_to_position v to port) (leads_up v 2 to port) (gives_position level) (gives_up 1 level)
  at_aggregation FromAbove level = down_if (is_known v.place.pod to.pod) to.position (leads_to_position v to port) (gives_position level)

  at_core : (came : Came) → is_known v.place.level 2 ≡ true → gives (asked_at_core to came) ≡ leads_from_core v to came port
  at_core FromHost level = refl
  at_core FromBelow level = gives_pod level
  at_core FromAbove level = refl

  by_level : (edge aggregation core : Bool) (a b c : Asked) (d e f : Bool) → (edge ≡ true → gives a ≡ d) → (aggregation ≡ true → gives b ≡ e) → (core ≡ true → gives c ≡ f) →
      gives (if edge then a else if aggregation then b else if core then c else Nothing) ≡ (if edge then d else if aggregation then e else if core then f else false)
  by_level true aggregation core a b c d e f h k l = h refl
  by_level false true core a b c d e f h k l = k refl
  by_level false false true a b c d e f h k l = l refl
  by_level false false false a b c d e f h k l = refl

  gives_candidates : (came : Came) → gives (asked_for v.place to came) ≡ is_candidate v to came port
  gives_candidates came =
      by_level (is_known v.place.level 0) (is_known v.place.level 1) (is_known v.place.level 2)
      (asked_at_edge v.place to came) (asked_at_aggregation v.place to came) (asked_at_core to came)
      (leads_from_edge v to came port) (leads_from_aggregation v to came port) (leads_from_core v to came port)
      (at_edge came) (at_aggregation came) (at_core came)

but_avoided : (low up avoided : Bool) → ((low && up) && not (low && (up && avoided))) ≡ (low && (up && not avoided))
but_avoided true true avoided = refl
but_avoided true false avoided = refl
but_avoided false up avoided = refl

module _ (v : SwitchView) (tables : PrefixTables) (to : Pmac) (set : PortSet) (few : v.k ≤ 24) (are : AreTables v tables) where
  avoided_is : (key port : ℕ) → to.position < 256 → key ≡ address_key to → is_up_avoided v key port ≡ (is_up v port && is_avoided v (id_at v port) to.pod to.position)
  avoided_is key port low is =
      ap (λ n. is_up v port && is_avoided v (id_at v port) (n / 256) (n % 256)) is
      ∙ ap (λ pod. is_up v port && is_avoided v (id_at v port) pod (address_key to % 256)) (div-mul-add to.pod 256 to.position low)
      ∙ ap (λ position. is_up v port && is_avoided v (id_at v port) to.pod position) (mod-mul-add to.pod 256 to.position low)

  all_given : (question : Asked) (avoided : PortSet) → ports_of avoided ≡ ports_at tables.avoided (address_key to) → LeavesBy tables question to set → ports_of set ≡ ports_where v (λ port. gives v to port question)
  all_given Up avoided is leaves =
      all_ports set v.k (λ port. gives v to port Up) (omega arith) (λ port low.
      leaves.1 avoided is port low
      ∙ ap (λ b. b && not (has_port avoided port)) (each_port tables.up v.k (is_up v) are.up port low)
      ∙ ap (λ b. (nat_lt port v.k && is_up v port) && not b) (each_port avoided v.k (is_up_avoided v (address_key to)) (is ∙ are.avoided (address_key to)) port low
      ∙ ap (λ b. nat_lt port v.k && b) (avoided_is (address_key to) port leaves.0 refl))
      ∙ but_avoided (nat_lt port v.k) (is_up v port) (is_avoided v (id_at v port) to.pod to.position))
  all_given (Down key) avoided is leaves = leaves ∙ are.down key
  all_given Nothing avoided is leaves = leaves ∙ sym (no_ports v.k)

alike_where : (first next : ℕ → Bool) → ((port : ℕ) → first port ≡ next port) → (ports : List ℕ) → filter first ports ≡ filter next ports
alike_where first next same [] = refl
alike_where first next same (port ∷ ports) = rw (same port) (ap (λ l. cond (next port) (port ∷ l) l) (alike_where first next same ports))

pub tables_choose : (v : SwitchView) (tables : PrefixTables) (place : Place) (to : Pmac) (came : Came) (question : Asked) (set : PortSet) → v.k ≤ 24 → AreTables v tables → v.place ≡ place →
    question ≡ asked_for place to came → LeavesBy tables question to set → ports_of set ≡ candidates v to came
unfolding candidates
tables_choose v tables place to came question set few are at is leaves =
    let row = row_set tables.avoided (address_key to) in
    all_given v tables to set few are question row.0 (sym row.1) leaves
    ∙ alike_where (λ port. gives v to port question) (is_candidate v to came)
    (λ port. ap (gives v to port) (is ∙ ap (λ (p : Place). asked_for p to came) (sym at)) ∙ gives_candidates v to port came) (ports_of_switch v.k)
