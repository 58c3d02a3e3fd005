-- A switch that becomes a placed edge switch may grant what it grants to the sources that it remembers.
use Rattle.std.proofs.Common.{◌≡◌, ◌≢◌, ℕ, zero, suc, ◌+◌, ◌<◌, ◌==◌, true, false, List, [], ◌∷◌, ◌++◌, Option, None, Some, set, refl, sym, ◌∙◌, ap, ap₂, subst, arith, get_or-set_other}
use Rattle.std.specs.List.{AllByRecursion, range_with_len}
use Rattle.std.proofs.lemmas.Bool.{and_from, cond-false, eq-eqb, ne_eqb, or_from}
use Rattle.pl_pmac.specs.declared.pmac.Pmac.{Pmac}
use Rattle.pl_pmac.specs.Pmac.{pmac_number}
use Rattle.pl_pmac.proofs.Exports.{same_pmac_number}
use Rattle.pl_wiring.specs.Plan.{Plan}
use Rattle.pl_journal.specs.declared.entry.Entry.{Entry}
use Rattle.pl_journal.specs.declared.entry.Entry.TheVariants.{Granted}
use Rattle.pl_journal.specs.Places.{are_alike, at_port, has_stood, is_of_edge, same_pod_and_position, is_live, edge_port}
use Rattle.pl_node.specs.declared.acts.Act.{Act}
use Rattle.pl_node.specs.declared.acts.Act.TheVariants as act
use Rattle.pl_node.specs.declared.switch_records.Grant.{Grant}
use Rattle.pl_node.specs.declared.switch_records.Source.{Source}
use Rattle.pl_node.specs.SwitchViews.{SwitchView}
use Rattle.pl_steps.specs.Steps.{SwitchStep}
use Rattle.pl_switch_rule.specs.Granting.{address_at_port, all_but_first, freed_at, grants_at, grants_new, grants_next, grants_or_learns, grants_remembered, grants_source, in_use, new_grant, next_vmid, remembered_at, with_next}
use Rattle.pl_world.specs.Changes.{host_no, host_of, switch_no}
use Rattle.pl_law_flights.specs.Standing.{IsNextAddress}
use Rattle.pl_law_flights.proofs.Settling.{GrantsFor, GrantsWell}
use Rattle.pl_law_flights.proofs.SilentSteps.{AreSilent}

-- what follows silent acts
pub well_behind : (plan : Plan) (s : ℕ) (past : List Entry) (silent acts : List Act) → AreSilent silent → GrantsWell plan s acts past → GrantsWell plan s (silent ++ acts) past
well_behind plan s past [] acts are well = well
well_behind plan s past (act.Control port frame ∷ silent) acts are well = well_behind plan s past silent acts are.1 well
well_behind plan s past (act.Tell told ∷ silent) acts are well = well_behind plan s past silent acts are.1 well
well_behind plan s past (a ∷ silent) acts are well = absurd are.0

-- ports that are all different
abbrev pub AreApart : List ℕ → Type 0
AreApart [] = Unit {0}
AreApart (p ∷ ports) = AllByRecursion (λ q. q ≢ p) ports × AreApart ports

above : (p from many : ℕ) → p < from → AllByRecursion (λ q. q ≢ p) (range_with_len from many)
above p from zero less = tt
above p from (suc many) less = ((λ same. omega (arith, same)), above p (from + 1) many (omega arith))

pub range_apart : (from many : ℕ) → AreApart (range_with_len from many)
range_apart from zero = tt
range_apart from (suc many) = (above from (from + 1) many (omega arith), range_apart (from + 1) many)

module _ (plan : Plan) (t : ℕ) where
  -- a port where nothing was granted, and the first address may be
  pub record IsReady (past : List Entry) (v : SwitchView) (port : ℕ) : Type 0 where
    pub empty : grants_at v port ≡ []
    pub none_free : freed_at v port ≡ []
    pub may : IsNextAddress past t (address_at_port v port 1)
    pub stood : (h : ℕ) (source : Source) → remembered_at v port ≡ Some source → host_of plan source.amac ≡ Some h → has_stood plan past h (at_port t port) ≡ true

  -- another port stays so
  module _ (past : List Entry) (v : SwitchView) (p : ℕ) (grants : List Grant) (freed : List ℕ) (used : List Pmac) where
    ready_after : (q : ℕ) → q ≢ p → IsReady past v q → IsReady past (record v {
      grants = set v.grants p grants;
      freed = set v.freed p freed;
      used = used;
      remembered = set v.remembered p None;
    }) q
    ready_after q other r = record {
      empty = get_or-set_other v.grants p q grants [] other ∙ r.empty;
      none_free = get_or-set_other v.freed p q freed [] other ∙ r.none_free;
      may = r.may;
      stood = λ h source is. r.stood h source (sym (get_or-set_other v.remembered p q None None other) ∙ is);
    }

  ready_forgotten : (past : List Entry) (v : SwitchView) (p q : ℕ) → q ≢ p → IsReady past v q → IsReady past (record v { remembered = set v.remembered p None }) q
  ready_forgotten past v p q other r = record {
    empty = r.empty;
    none_free = r.none_free;
    may = r.may;
    stood = λ h source is. r.stood h source (sym (get_or-set_other v.remembered p q None None other) ∙ is);
  }

  -- and so once an address was granted at the port
  ready_granted : (past : List Entry) (v : SwitchView) (p g q : ℕ) → q ≢ p → IsNextAddress past t (address_at_port v p 1) → IsReady past v q →
      IsReady (Granted (address_at_port v p 1) (host_no g) (switch_no t) p ∷ past) v q
  ready_granted past v p g q other here r =
      let x : Pmac = address_at_port v p 1 in
      let y : Pmac = address_at_port v q 1 in
      let differ : (pmac_number x == pmac_number y) ≡ false =
      ne_eqb (pmac_number x) (pmac_number y) (λ same. other (ap (λ (z : Pmac). z.port) (same_pmac_number y x r.may.fits here.fits (sym same)))) in
      let alike : are_alike (same_pod_and_position y x) (t == t) ≡ true =
      ap₂ are_alike (and_from (y.pod == x.pod) (y.position == x.position) (eq-eqb y.pod x.pod refl) (eq-eqb y.position x.position refl)) (eq-eqb t t refl) in
      record {
        empty = r.empty;
        none_free = r.none_free;
        may = record {
          fresh = or_from (pmac_number x == pmac_number y) (is_live past (pmac_number y)) differ r.may.fresh;
          again = λ at is. r.may.again at (sym (cond-false (pmac_number x == pmac_number y) (Some (at_port t p)) (edge_port past (pmac_number y)) differ) ∙ is);
          edge = and_from (are_alike (same_pod_and_position y x) (t == t)) (is_of_edge past y t) alike r.may.edge;
          fits = r.may.fits;
          own = r.may.own;
        };
        stood = r.stood;
      }

  -- the switch once the first address of a port was granted
  abbrev after : SwitchView → ℕ → Source → SwitchView
  after v p source = record v {
    grants = set v.grants p (with_next (freed_at v p) (grants_at v p) (new_grant source.amac source.ip));
    freed = set v.freed p (all_but_first (freed_at v p));
    used = v.used ++ address_at_port v p 1 ∷ [];
    remembered = set v.remembered p None;
  }

  mapped : (P Q : ℕ → Type 0) (p : ℕ) → ((q : ℕ) → q ≢ p → P q → Q q) → (ports : List ℕ) → AllByRecursion (λ q. q ≢ p) ports → AllByRecursion P ports → AllByRecursion Q ports
  mapped P Q p f [] apart all = tt
  mapped P Q p f (q ∷ ports) apart all = (f q apart.0 all.0, mapped P Q p f ports apart.1 all.1)

  pub remembered_well : (ports : List ℕ) (v : SwitchView) (past : List Entry) → AreApart ports → AllByRecursion (IsReady past v) ports →
      GrantsWell plan t (grants_remembered ports v).acts past
  unfolding grants_remembered
  remembered_well [] v past apart all = tt
  remembered_well (p ∷ ports) v past apart all =
      by_source (remembered_at v p) refl
      (λ u later ready. remembered_well ports u later apart.1 ready)
    where
      by_host : (source : Source) (o : Option ℕ) → remembered_at v p ≡ Some source → host_of plan source.amac ≡ o →
          ((u : SwitchView) (later : List Entry) → AllByRecursion (IsReady later u) ports → GrantsWell plan t (grants_remembered ports u).acts later) →
          GrantsFor (GrantsWell plan t (grants_remembered ports (after v p source)).acts) plan t past (address_at_port v p 1) o
      by_host source None found of further = further _ past
          (mapped (IsReady past v) _ p (λ q other r. ready_after past v p _ _ _ q other r) ports apart.0 all.1)
      by_host source (Some h) found of further =
          let x : Pmac = address_at_port v p 1 in
          let later : List Entry = Granted x (host_no h) (switch_no t) p ∷ past in (
            record { may = record { fresh = all.0.may.fresh; port = refl; stood = all.0.stood h source found of; edge = all.0.may.edge }; again = all.0.may.again },
            further _ later
                (mapped (IsReady past v) _ p
                (λ q other r. ready_after later v p _ _ _ q other (ready_granted past v p h q other all.0.may r))
                ports apart.0 all.1),
          )

      by_source : (o : Option Source) → remembered_at v p ≡ o →
          ((u : SwitchView) (later : List Entry) → AllByRecursion (IsReady later u) ports → GrantsWell plan t (grants_remembered ports u).acts later) →
          GrantsWell plan t (((grants_source v p o).acts ++ []) ++ (grants_remembered ports (record (grants_source v p o).view {
            remembered = set (grants_source v p o).view.remembered p None;
          })).acts) past
      by_source None found further = further _ past (mapped (IsReady past v) _ p (λ q other r. ready_forgotten past v p q other r) ports apart.0 all.1)
      by_source (Some source) found further =
          let none : in_use (grants_at v p) source.amac ≡ None = ap (λ gs. in_use gs source.amac) all.0.empty in
          let first : next_vmid (freed_at v p) (grants_at v p) ≡ Some 1 = ap₂ next_vmid all.0.none_free all.0.empty in
          let is_next : grants_source v p (Some source) ≡ grants_new v p source.amac source.ip (address_at_port v p 1) =
          ap (λ o. grants_or_learns v p source.amac source.ip o) none ∙ ap (grants_next v p source.amac source.ip) first in
          subst (λ (step : SwitchStep). GrantsWell plan t ((step.acts ++ []) ++ (grants_remembered ports (record step.view { remembered = set step.view.remembered p None })).acts) past)
          (sym is_next) (by_host source (host_of plan source.amac) found refl further)
