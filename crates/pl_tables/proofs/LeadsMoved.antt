-- A lead that changes, in the tables; and tables that are of all leads.
use Rattle.std.proofs.Common.{◌≡◌, ℕ, ◌+◌, ◌<◌, ◌≤◌, ◌≢◌, ◌==◌, ◌&&◌, Bool, true, false, if◌then◌else◌, List, length, set, is_some, Result, Ok, Err, OnOk, refl, sym, ap, subst, ◌∙◌, inl, inr, arith}
use Rattle.std.proofs.lemmas.Bool.{cases_order, eq-eqb, ne_eqb}
use Rattle.std.proofs.lemmas.List.{get_or-set_same, get_or-set_other, length-set, set-get_or}
use Rattle.pl_frame.specs.declared.address.SwitchId.{SwitchId}
use Rattle.pl_layouts.specs.Placement.{is_known}
use Rattle.pl_lists.specs.Ports.{ports_of}
use Rattle.pl_node.specs.PortRecords.{port_of}
use Rattle.pl_node.specs.SwitchViews.{SwitchView}
use Rattle.pl_tables.specs.declared.lead.Lead.{Lead}
use Rattle.pl_tables.specs.declared.port_rows.PortRow.{PortRow}
use Rattle.pl_tables.specs.declared.prefix_tables.PrefixTables.{PrefixTables}
use Rattle.pl_tables.specs.Leads.{avoids_by, has, lead_at, lead_of, no_lead, AreOfLeads, ChangesRows, TablesFollow, Moves, MovesLead, SetsWhere}
use Rattle.pl_tables.specs.Rows.{ports_at}

pub rows_changed : (old mid new : List PortRow) (port : ℕ) (was now : ℕ → Bool) → SetsWhere old mid port false was → SetsWhere mid new port true now → ChangesRows old new port was now
rows_changed old mid new port was now first second key q = second key q ∙ ap (λ b. if now key && (port == q) then true else b) (first key q)

module _ (leads : List Lead) (port : ℕ) (was now : Lead) (within : port < length leads) (at : lead_at leads port ≡ was) where
  abbrev after : List Lead
  after = set leads port now

  lead_here : (q : ℕ) → port ≡ q → lead_at after q ≡ now
  lead_here q same = subst (λ p. lead_at after p ≡ now) same (get_or-set_same leads port now no_lead within)

  lead_there : (q : ℕ) → port ≢ q → lead_at after q ≡ lead_at leads q
  lead_there q other = get_or-set_other leads port q now no_lead (λ e. other (sym e))

  -- what holds of the ports by their leads, where it is now's at this port and stays at each other
  one_changed : (f : Lead → Bool) (old new : ℕ → Bool) → ((q : ℕ) → q < 32 → old q ≡ f (lead_at leads q)) →
      ((q : ℕ) → port ≡ q → q < 32 → new q ≡ f now) → ((q : ℕ) → port ≢ q → new q ≡ old q) → (q : ℕ) → q < 32 → new q ≡ f (lead_at after q)
  one_changed f old new is here there q low = elim (cases_order port q) [
    | inl same ↦ here q same low ∙ sym (ap f (lead_here q same))
    | inr (inl less) ↦ other (omega arith)
    | inr (inr more) ↦ other (omega arith)
  ]
    where
      other : port ≢ q → new q ≡ f (lead_at after q)
      other differs = there q differs ∙ is q low ∙ sym (ap f (lead_there q differs))

  now_or_was : (n w o : Bool) → o ≡ w → (if n && true then true else if w && true then false else o) ≡ n
  now_or_was true w o is = refl
  now_or_was false true o is = refl
  now_or_was false false o is = is

  as_before : (n w o : Bool) → (if n && false then true else if w && false then false else o) ≡ o
  as_before true true o = refl
  as_before true false o = refl
  as_before false true o = refl
  as_before false false o = refl

  row_changed : (rows rows_after : List PortRow) (f : Lead → ℕ → Bool) → ChangesRows rows rows_after port (f was) (f now) →
      ((key q : ℕ) → q < 32 → has (ports_at rows key) q ≡ f (lead_at leads q) key) → (key q : ℕ) → q < 32 → has (ports_at rows_after key) q ≡ f (lead_at after q) key
  row_changed rows rows_after f changes is key q low =
      one_changed (λ l. f l key) (λ p. has (ports_at rows key) p) (λ p. has (ports_at rows_after key) p) (λ p h. is key p h) here there q low
    where
      by : Bool → ℕ → Bool
      by b p = if f now key && b then true else if f was key && b then false else has (ports_at rows key) p

      here : (p : ℕ) → port ≡ p → p < 32 → has (ports_at rows_after key) p ≡ f now key
      here p same h =
          changes key p ∙ ap (λ b. by b p) (eq-eqb port p same)
          ∙ now_or_was (f now key) (f was key) (has (ports_at rows key) p) (is key p h ∙ ap (λ l. f l key) (subst (λ x. lead_at leads x ≡ was) same at))

      there : (p : ℕ) → port ≢ p → has (ports_at rows_after key) p ≡ has (ports_at rows key) p
      there p differs = changes key p ∙ ap (λ b. by b p) (ne_eqb port p differs) ∙ as_before (f now key) (f was key) (has (ports_at rows key) p)

  pub lead_moved : (old new : PrefixTables) (avoid : List (SwitchId × ℕ × ℕ)) → MovesLead old new avoid port was now → AreOfLeads leads avoid old → AreOfLeads after avoid new
  lead_moved old new avoid moves are = record {
    up = one_changed (λ (l : Lead). is_some l.up) (has (ports_of old.up)) (has (ports_of new.up)) are.up
        (λ q same low. moves.up q ∙ ap (λ b. if b then is_some now.up else has (ports_of old.up) q) (eq-eqb port q same))
        (λ q differs. moves.up q ∙ ap (λ b. if b then is_some now.up else has (ports_of old.up) q) (ne_eqb port q differs));
    avoided = row_changed old.avoided new.avoided (λ (l : Lead). avoids_by avoid l.up) moves.avoided are.avoided;
    down = row_changed old.down new.down (λ (l : Lead). is_known l.down) moves.down are.down;
  }

  pub lead_kept : (tables : PrefixTables) (avoid : List (SwitchId × ℕ × ℕ)) → was ≡ now → AreOfLeads leads avoid tables → AreOfLeads after avoid tables
  lead_kept tables avoid same are =
      subst (λ (ls : List Lead). AreOfLeads ls avoid tables) (sym (ap (set leads port) (sym (at ∙ same)) ∙ set-get_or leads port no_lead)) are

-- the leads of the first ports are those of a switch, and past its ports there are none
pub record AreFollowed (v : SwitchView) (leads : List Lead) (tables : PrefixTables) (n : ℕ) : Type 0 where
  pub many : length leads ≡ 24
  pub done : (port : ℕ) → port < n → lead_at leads port ≡ lead_of v.place.level v.id (port_of v port)
  pub past : (port : ℕ) → v.k ≤ port → lead_at leads port ≡ no_lead
  pub tabled : AreOfLeads leads v.avoid tables

pub followed_more : (v : SwitchView) (old new : List Lead) (before after : PrefixTables) (n : ℕ) → n < v.k → v.k ≤ 24 → AreFollowed v old before n →
    new ≡ set old n (lead_of v.place.level v.id (port_of v n)) → (AreOfLeads old v.avoid before → AreOfLeads new v.avoid after) → AreFollowed v new after (n + 1)
followed_more v old new before after n below few are is tables = record {
  many = ap length is ∙ length-set old n _ ∙ are.many;
  done = λ port low. elim (cases_order n port) [
    | inl same ↦ ap (λ l. lead_at l port) is ∙ lead_here old n (lead_at old n) (lead_of v.place.level v.id (port_of v n)) within refl port same ∙ ap (λ p. lead_of v.place.level v.id (port_of v p)) same
    | inr (inl less) ↦ absurd (omega arith)
    | inr (inr more) ↦ kept port (omega arith) ∙ are.done port more
  ];
  past = λ port beyond. kept port (omega arith) ∙ are.past port beyond;
  tabled = tables are.tabled;
}
  where
    within : n < length old
    within = let m = are.many in omega arith

    kept : (port : ℕ) → n ≢ port → lead_at new port ≡ lead_at old port
    kept port other = ap (λ l. lead_at l port) is ∙ get_or-set_other old n port _ no_lead (λ e. other (sym e))

pub all_followed : (v : SwitchView) (leads : List Lead) (tables : PrefixTables) (n : ℕ) → n ≡ v.k → v.k ≤ 24 → AreFollowed v leads tables n → TablesFollow v leads tables
all_followed v leads tables n all few are = record {
  few = few;
  many = are.many;
  shown = record { there = λ port low. are.done port (omega arith); past = are.past };
  tabled = are.tabled;
}

pub moves_ok : {E : Type 0} (old new : PrefixTables) (avoid : List (SwitchId × ℕ × ℕ)) (port : ℕ) (was now : Lead) (result : Result (Unit {0}) E) →
    OnOk result (MovesLead old new avoid port was now) → OnOk result (Moves old new avoid port was now)
moves_ok old new avoid port was now (Ok done) moves = λ leads within at. lead_moved leads port was now within at old new avoid moves
moves_ok old new avoid port was now (Err e) moves = moves
