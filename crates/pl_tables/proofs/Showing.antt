-- Tables that are of the leads of a switch are its tables.
use Rattle.std.proofs.Common.{◌≡◌, ℕ, ◌/◌, ◌%◌, ◌<◌, ◌≤◌, ◌==◌, nat_lt, ◌&&◌, Bool, true, false, if◌then◌else◌, List, [], ◌∷◌, Option, Some, None, is_some, refl, sym, ap, ◌∙◌, inl, inr, arith}
use Rattle.std.specs.List.{filter}
use Rattle.std.proofs.lemmas.Bool.{cases_lt, eqb-true, lt-ltb, le-ltb, true≢false}
use Rattle.pl_frame.specs.declared.address.SwitchId.{SwitchId}
use Rattle.pl_layouts.specs.declared.place.Place.{Place}
use Rattle.pl_layouts.specs.Placement.{is_known}
use Rattle.pl_lists.specs.declared.port_set.PortSet.{PortSet}
use Rattle.pl_lists.specs.Ports.{ports_of}
use Rattle.pl_lists.proofs.Exports.{has_port_is}
use Rattle.pl_node.specs.AvoidLists.{is_level_above}
use Rattle.pl_node.specs.declared.neighbour.Neighbour.{Neighbour}
use Rattle.pl_node.specs.declared.neighbour.PortRecord.{PortRecord}
use Rattle.pl_node.specs.PortRecords.{heard_id, heard_place, is_usable_record, port_of, ports_of_switch}
use Rattle.pl_node.specs.SwitchFacts.{is_avoided}
use Rattle.pl_node.specs.SwitchViews.{SwitchView}
use Rattle.pl_tables.specs.declared.lead.Lead.{Lead}
use Rattle.pl_tables.specs.declared.port_rows.PortRow.{PortRow}
use Rattle.pl_tables.specs.declared.prefix_tables.PrefixTables.{PrefixTables}
use Rattle.pl_tables.specs.Leads.{avoids_by, has, key_below, lead_at, lead_of, lead_to, no_lead, AreLeads, TablesFollow}
use Rattle.pl_tables.specs.Rows.{ports_at}
use Rattle.pl_tables.specs.Tables.{is_down, is_up, is_up_avoided, AreTables}
use Rattle.pl_tables.proofs.PortSets.{all_ports}

some_if : {A : Type 0} (b : Bool) (x : A) → is_some (if b then Some x else None) ≡ b
some_if true x = refl
some_if false x = refl

up_to : (level : Option ℕ) (heard : Option Neighbour) → is_some (lead_to level heard).up ≡ is_level_above level (heard_place heard).level
up_to None None = refl
up_to (Some n) None = refl
up_to level (Some n) = some_if (is_level_above level n.place.level) n.id

avoided_if : (avoid : List (SwitchId × ℕ × ℕ)) (b : Bool) (u : SwitchId) (key : ℕ) → avoids_by avoid (if b then Some u else None) key ≡ (b && avoids_by avoid (Some u) key)
avoided_if avoid true u key = refl
avoided_if avoid false u key = refl

avoided_to : (avoid : List (SwitchId × ℕ × ℕ)) (level : Option ℕ) (heard : Option Neighbour) (key : ℕ) →
    avoids_by avoid (lead_to level heard).up key ≡ (is_level_above level (heard_place heard).level && avoids_by avoid (heard_id heard) key)
avoided_to avoid None None key = refl
avoided_to avoid (Some n) None key = refl
avoided_to avoid level (Some n) key = avoided_if avoid (is_level_above level n.place.level) n.id key

-- below a switch of this level
abbrev is_below : Option ℕ → ℕ → Place → Bool
is_below level key p =
    if is_known level 1 then is_known p.level 0 && is_known p.position key
    else if is_known level 2 then is_known p.level 1 && is_known p.pod key
    else false

one_level : (n : ℕ) → (n == 1) ≡ true → (n == 2) ≡ false
one_level n is = let e : n ≡ 1 = eqb-true n 1 is in rw e refl

below_place : (level : Option ℕ) (key : ℕ) (p : Place) → is_known (key_below level p) key ≡ is_below level key p
below_place None key p = refl
below_place (Some n) key p = by (n == 1) (n == 2) (is_known p.level 0) (is_known p.level 1) (one_level n)
  where
    by : (one two low mid : Bool) → (one ≡ true → two ≡ false) →
        is_known (if one && low then p.position else if two && mid then p.pod else None) key
        ≡ (if one then low && is_known p.position key else if two then mid && is_known p.pod key else false)
    by true true low mid h = absurd (true≢false (h refl))
    by true false true mid h = refl
    by true false false mid h = refl
    by false true low true h = refl
    by false true low false h = refl
    by false false low mid h = refl

below_none : (one two : Bool) → false ≡ (if one then false else if two then false else false)
below_none true two = refl
below_none false true = refl
below_none false false = refl

below_to : (level : Option ℕ) (heard : Option Neighbour) (key : ℕ) → is_known (lead_to level heard).down key ≡ is_below level key (heard_place heard)
below_to level None key = below_none (is_known level 1) (is_known level 2)
below_to level (Some n) key = below_place level key n.place

module _ (level : Option ℕ) (me : SwitchId) (r : PortRecord) where
  pub up_of : is_some (lead_of level me r).up ≡ (is_usable_record me r && is_level_above level (heard_place r.heard).level)
  up_of = elim (is_usable_record me r) as (λ b. is_some (if◌then◌else◌ {A = Lead} b (lead_to level r.heard) no_lead).up ≡ (b && is_level_above level (heard_place r.heard).level)) [
    | true ↦ up_to level r.heard
    | false ↦ refl
  ]

  pub avoided_of : (avoid : List (SwitchId × ℕ × ℕ)) (key : ℕ) →
      avoids_by avoid (lead_of level me r).up key ≡ ((is_usable_record me r && is_level_above level (heard_place r.heard).level) && avoids_by avoid (heard_id r.heard) key)
  avoided_of avoid key = elim (is_usable_record me r) as (λ b. avoids_by avoid (if◌then◌else◌ {A = Lead} b (lead_to level r.heard) no_lead).up key ≡ ((b && is_level_above level (heard_place r.heard).level) && avoids_by avoid (heard_id r.heard) key)) [
    | true ↦ avoided_to avoid level r.heard key
    | false ↦ refl
  ]

  abbrev is_down_at : ℕ → Bool → Bool
  is_down_at key usable =
      if is_known level 1 then (usable && is_known (heard_place r.heard).level 0) && is_known (heard_place r.heard).position key
      else if is_known level 2 then (usable && is_known (heard_place r.heard).level 1) && is_known (heard_place r.heard).pod key
      else false

  pub down_of : (key : ℕ) → is_known (lead_of level me r).down key ≡ is_down_at key (is_usable_record me r)
  down_of key = elim (is_usable_record me r) as (λ b. is_known (if◌then◌else◌ {A = Lead} b (lead_to level r.heard) no_lead).down key ≡ is_down_at key b) [
    | true ↦ below_to level r.heard key
    | false ↦ below_none (is_known level 1) (is_known level 2)
  ]

-- the list that rows have for a key is that of a set
pub row_set : (rows : List PortRow) (key : ℕ) → (set : PortSet) × (ports_at rows key ≡ ports_of set)
unfolding ports_of
row_set [] key = (record { 0 = 0 }, refl)
row_set (row ∷ rows) key = elim (row.key == key) as (λ b. (set : PortSet) × ((if b then ports_of row.ports else ports_at rows key) ≡ ports_of set)) [
  | true ↦ (row.ports, refl)
  | false ↦ row_set rows key
]

module _ (v : SwitchView) (leads : List Lead) (shown : AreLeads v leads) where
  -- a test of the leads is one of the ports
  by_port : (f : Lead → Bool) (test : ℕ → Bool) → f no_lead ≡ false → ((port : ℕ) → f (lead_of v.place.level v.id (port_of v port)) ≡ test port) →
      (port : ℕ) → f (lead_at leads port) ≡ (nat_lt port v.k && test port)
  by_port f test none is port = elim (cases_lt port v.k) [
    | inl below ↦ ap f (shown.there port below) ∙ is port ∙ sym (ap (λ b. b && test port) (lt-ltb port v.k below))
    | inr beyond ↦ ap f (shown.past port beyond) ∙ none ∙ sym (ap (λ b. b && test port) (le-ltb port v.k beyond))
  ]

  set_shown : (set : PortSet) (f : Lead → Bool) (test : ℕ → Bool) → v.k ≤ 24 → f no_lead ≡ false → ((port : ℕ) → f (lead_of v.place.level v.id (port_of v port)) ≡ test port) →
      ((port : ℕ) → port < 32 → has (ports_of set) port ≡ f (lead_at leads port)) → ports_of set ≡ filter test (ports_of_switch v.k)
  set_shown set f test few none is has_is =
      all_ports set v.k test (omega arith) (λ port low. sym (has_port_is set port low) ∙ has_is port low ∙ by_port f test none is port)

  row_shown : (rows : List PortRow) (key : ℕ) (f : Lead → Bool) (test : ℕ → Bool) → v.k ≤ 24 → f no_lead ≡ false → ((port : ℕ) → f (lead_of v.place.level v.id (port_of v port)) ≡ test port) →
      ((port : ℕ) → port < 32 → has (ports_at rows key) port ≡ f (lead_at leads port)) → ports_at rows key ≡ filter test (ports_of_switch v.k)
  row_shown rows key f test few none is has_is =
      let as_set = row_set rows key in
      as_set.1 ∙ set_shown as_set.0 f test few none is (λ port low. ap (λ l. has l port) (sym as_set.1) ∙ has_is port low)

pub tables_shown : (v : SwitchView) (leads : List Lead) (tables : PrefixTables) → TablesFollow v leads tables → AreTables v tables
tables_shown v leads tables follows = record {
  up = set_shown v leads follows.shown tables.up (λ (l : Lead). is_some l.up) (is_up v) follows.few refl (λ port. up_of v.place.level v.id (port_of v port)) follows.tabled.up;
  avoided = λ key. row_shown v leads follows.shown tables.avoided key (λ (l : Lead). avoids_by v.avoid l.up key) (is_up_avoided v key) follows.few refl
      (λ port. avoided_of v.place.level v.id (port_of v port) v.avoid key ∙ ap (λ b. is_up v port && b) (same_avoided (heard_id (port_of v port).heard) key)) (follows.tabled.avoided key);
  down = λ key. row_shown v leads follows.shown tables.down key (λ (l : Lead). is_known l.down key) (is_down v key) follows.few refl
      (λ port. down_of v.place.level v.id (port_of v port) key) (follows.tabled.down key);
}
  where
    same_avoided : (u : Option SwitchId) (key : ℕ) → avoids_by v.avoid u key ≡ is_avoided v u (key / 256) (key % 256)
    same_avoided None key = refl
    same_avoided (Some u) key = refl

-- a switch without a level has no leads
pub no_lead_yet : (me : SwitchId) (r : PortRecord) → lead_of None me r ≡ no_lead
no_lead_yet me r = elim (is_usable_record me r) as (λ b. (if◌then◌else◌ {A = Lead} b (lead_to None r.heard) no_lead) ≡ no_lead) [
  | true ↦ nobody r.heard
  | false ↦ refl
]
  where
    nobody : (heard : Option Neighbour) → lead_to None heard ≡ no_lead
    nobody None = refl
    nobody (Some n) = refl
