-- A switch without a level has no tables; and what makes no difference to tables.
use Rattle.std.proofs.Common.{◌≡◌, ℕ, zero, suc, ◌<◌, ◌≤◌, List, [], length, replicate, get_or, is_some, Result, Ok, Err, IsOk, OnErr, OnOk, refl, sym, ap, subst, ◌∙◌}
use Rattle.std.proofs.lemmas.Bool.{false≢true}
use Rattle.pl_frame.specs.declared.address.SwitchId.{SwitchId}
use Rattle.pl_layouts.specs.declared.place.Place.{Place}
use Rattle.pl_layouts.specs.Placement.{is_known, nowhere}
use Rattle.pl_lists.specs.Ports.{ports_of}
use Rattle.pl_node.specs.declared.acts.Act.{Act}
use Rattle.pl_node.specs.declared.neighbour.PortRecord.{PortRecord}
use Rattle.pl_node.specs.PortRecords.{port_of}
use Rattle.pl_node.specs.SwitchViews.{SwitchView}
use Rattle.pl_steps.specs.Taken.{IsTaken}
use Rattle.pl_switch_rule.specs.Reporting.{hears_hello}
use Rattle.pl_tables.specs.declared.lead.Lead.{Lead}
use Rattle.pl_tables.specs.declared.port_rows.PortRow.{PortRow}
use Rattle.pl_tables.specs.declared.prefix_tables.PrefixTables.{PrefixTables}
use Rattle.pl_tables.specs.Leads.{avoids_by, has, lead_at, lead_of, no_lead, TablesFollow}
use Rattle.pl_tables.specs.Rows.{ports_at}
use Rattle.pl_tables.proofs.Showing.{no_lead_yet}

none_at : (n port : ℕ) → get_or (replicate n no_lead) port no_lead ≡ no_lead
none_at zero port = refl
none_at (suc n) zero = refl
none_at (suc n) (suc port) = none_at n port

pub nothing_follows : (v : SwitchView) (leads : List Lead) (tables : PrefixTables) → leads ≡ replicate 24 no_lead → v.place ≡ nowhere → v.k ≤ 24 →
    ports_of tables.up ≡ [] → tables.avoided ≡ [] → tables.down ≡ [] → TablesFollow v leads tables
nothing_follows v leads tables is at few up avoided down =
    let none : (port : ℕ) → lead_at leads port ≡ no_lead = λ port. ap (λ ls. lead_at ls port) is ∙ none_at 24 port in
    record {
      few = few;
      many = ap length is;
      shown = record {
        there = λ port below. none port ∙ sym (ap (λ (p : Place). lead_of p.level v.id (port_of v port)) at ∙ no_lead_yet v.id (port_of v port));
        past = λ port beyond. none port;
      };
      tabled = record {
        up = λ port low. ap (λ l. has l port) up ∙ sym (ap (λ (l : Lead). is_some l.up) (none port));
        avoided = λ key port low. ap (λ (rows : List PortRow). has (ports_at rows key) port) avoided ∙ sym (ap (λ (l : Lead). avoids_by v.avoid l.up key) (none port));
        down = λ key port low. ap (λ (rows : List PortRow). has (ports_at rows key) port) down ∙ sym (ap (λ (l : Lead). is_known l.down key) (none port));
      };
    }

-- a switch that knows the same of its ports and its level
pub same_follows : (v w : SwitchView) (leads : List Lead) (tables : PrefixTables) → w.id ≡ v.id → w.k ≡ v.k → w.place ≡ v.place → w.ports ≡ v.ports → w.avoid ≡ v.avoid →
    TablesFollow v leads tables → TablesFollow w leads tables
same_follows v w leads tables id k place ports avoid follows =
    subst (λ (a : List (SwitchId × ℕ × ℕ)). TablesFollow (record w { avoid = a }) leads tables) (sym avoid)
    (subst (λ (rs : List PortRecord). TablesFollow (record w { id = w.id; k = w.k; place = w.place; ports = rs; avoid = v.avoid }) leads tables) (sym ports)
    (subst (λ (p : Place). TablesFollow (record w { id = w.id; k = w.k; place = p; ports = v.ports; avoid = v.avoid }) leads tables) (sym place)
    (subst (λ n. TablesFollow (record w { id = w.id; k = n; place = v.place; ports = v.ports; avoid = v.avoid }) leads tables) (sym k)
    (subst (λ (i : SwitchId). TablesFollow (record w { id = i; k = v.k; place = v.place; ports = v.ports; avoid = v.avoid }) leads tables) (sym id)
    (record { few = follows.few; many = follows.many; shown = record { there = follows.shown.there; past = follows.shown.past }; tabled = follows.tabled })))))

-- another avoid list, and the rows that are of it
pub list_follows : (v : SwitchView) (avoid : List (SwitchId × ℕ × ℕ)) (leads : List Lead) (old new : PrefixTables) → TablesFollow v leads old → new.up ≡ old.up → new.down ≡ old.down →
    ((key port : ℕ) → port < 32 → has (ports_at new.avoided key) port ≡ avoids_by avoid (lead_at leads port).up key) → TablesFollow (record v { avoid = avoid }) leads new
list_follows v avoid leads old new follows up down rows = record {
  few = follows.few;
  many = follows.many;
  shown = record { there = follows.shown.there; past = follows.shown.past };
  tabled = record {
    up = λ port low. ap (λ set. has (ports_of set) port) up ∙ follows.tabled.up port low;
    avoided = rows;
    down = λ key port low. ap (λ (rs : List PortRow). has (ports_at rs key) port) down ∙ follows.tabled.down key port low;
  };
}

-- what a call did, behind which the tables were brought up to date
pub kept_up : {E F : Type 0} (P : SwitchView → Type 0) (mid new : SwitchView) (done : Result (Unit {0}) E) (result : Result (Unit {0}) F) → OnOk result (IsOk done) → OnOk result (new ≡ mid) → OnOk done (P mid) → OnOk result (P new)
kept_up P mid new (Ok d) (Ok r) was same holds = subst P (sym same) holds
kept_up P mid new (Err e) (Ok r) was same holds = absurd (false≢true was)
kept_up P mid new done (Err f) was same holds = was

-- a switch that forgot what to avoid, and then hears that a manager begins anew
pub greeted_follows : {E : Type 0} (v mid new : SwitchView) (epoch : ℕ) (leads : List Lead) (tables : PrefixTables) (result : Result (Unit {0}) E)
    (out told : List Act) →
    mid ≡ record v { avoid = [] } → TablesFollow mid leads tables → OnOk result (IsTaken (hears_hello mid epoch) new out told) → OnErr result (new ≡ mid) →
    TablesFollow new leads tables
greeted_follows v mid new epoch leads tables (Ok done) out told is follows taken err =
    same_follows mid new leads tables (ap (λ (u : SwitchView). u.id) taken.view) (ap (λ (u : SwitchView). u.k) taken.view)
    (ap (λ (u : SwitchView). u.place) taken.view) (ap (λ (u : SwitchView). u.ports) taken.view)
    (ap (λ (u : SwitchView). u.avoid) taken.view ∙ sym (ap (λ (u : SwitchView). u.avoid) is)) follows
greeted_follows v mid new epoch leads tables (Err e) out told is follows taken err = subst (λ u. TablesFollow u leads tables) (sym err) follows

-- what it tells does not depend on what it was to avoid
pub greeted_taken : {E : Type 0} (v mid new : SwitchView) (epoch : ℕ) (result : Result (Unit {0}) E) (out told : List Act) → mid ≡ record v { avoid = [] } →
    OnOk result (IsTaken (hears_hello mid epoch) new out told) → OnOk result (IsTaken (hears_hello v epoch) new out told)
greeted_taken v mid new epoch (Ok done) out told is taken =
    let now : IsTaken (hears_hello (record v { avoid = [] }) epoch) new out told = subst (λ u. IsTaken (hears_hello u epoch) new out told) is taken in
    record { view = now.view; acts = now.acts }
greeted_taken v mid new epoch (Err e) out told is taken = taken
