-- Links that are failed, by the table and by the ports of a switch.
use Rattle.std.proofs.Common.{◌≡◌, ℕ, ◌+◌, ◌≤◌, ◌<◌, ◌==◌, ◌&&◌, ◌||◌, nat_le, Bool, true, false, not, cond, is_some, is_none, List, [], ◌∷◌, length, Option, Some, None, unwrap_or, refl, sym, ap, ap₂, subst, ◌∙◌, inl, inr, arith, Contains}
use Rattle.std.specs.List.{All}
use Rattle.std.specs.Option.{IfNone, IfSome}
use Rattle.std.proofs.lemmas.Bool.{and_from, and_parts, both_ways, eq-eqb, eqb-true, false_from_ne_true, leb-true, leb-false, or_cases, or_left, or_right}
use Rattle.std.proofs.lemmas.List.Folds.{Any-from_list_any, list_any-from_Any}
use Rattle.pl_lemmas.proofs.Exports.{or_false}
use Rattle.pl_wiring.specs.declared.label.SwitchNo.{SwitchNo}
use Rattle.pl_wiring.specs.declared.link.Link.{Link}
use Rattle.pl_wiring.specs.declared.link.Peer.{Peer}
use Rattle.pl_wiring.specs.declared.link.Peer.TheVariants.{HostPort, Switch}
use Rattle.pl_wiring.specs.Labels.{switch_count}
use Rattle.pl_wiring.specs.FatTree.{IsTreeLink}
use Rattle.pl_wiring.specs.Peers.{HasEnds, LinksSwitches, peer_of}
use Rattle.pl_wiring.specs.Plan.{IsPlan, Plan}
use Rattle.pl_wiring.proofs.Exports.{at_contained, peer_is_switch, tree_ends}
use Rattle.pl_journal.specs.declared.entry.Entry.{Entry}
use Rattle.pl_journal.specs.declared.entry.Entry.TheVariants.{LinkDown, LinkUp}
use Rattle.pl_journal.specs.Places.{has_failed_link, is_adjacent, is_failed, same_ends}
use Rattle.pl_journal.proofs.Exports.{failed_either_way}
use Rattle.pl_past.specs.Links.{live_since, repaired}
use Rattle.pl_past.proofs.Exports.{failed_by_number}
use Rattle.std.specs.Map.{lookup}
use Rattle.pl_past_tables.specs.declared.keys.Ends.{Ends}
use Rattle.pl_past_tables.specs.declared.links.Links.{Links}
use Rattle.pl_past_tables.specs.Keys.{same_link}
use Rattle.pl_past_tables.specs.Links.{KeepsLinks, ends_of, leads_to_failed}
use Rattle.pl_past_tables.proofs.Said.{value_now}

or_turned : (s t : Bool) → (s || t) ≡ (t || s)
or_turned true true = refl
or_turned true false = refl
or_turned false true = refl
or_turned false false = refl

same_ends-turned : (x y a b : ℕ) → same_ends x y a b ≡ same_ends x y b a
same_ends-turned x y a b = or_turned ((x == a) && (y == b)) ((x == b) && (y == a))

-- the ends of a link may be given in either order
pub live_either_way : (past : List Entry) (a b : ℕ) → live_since past a b ≡ live_since past b a
live_either_way [] a b = refl
live_either_way (LinkDown x y ∷ past) a b = ap₂ (λ s t. cond s None t) (same_ends-turned x.0 y.0 a b) (live_either_way past a b)
live_either_way (LinkUp x y ∷ past) a b =
    ap₂ (λ s t. cond s (repaired (length past + 1) t) t) (same_ends-turned x.0 y.0 a b) (live_either_way past a b)
live_either_way (entry ∷ past) a b = live_either_way past a b

abbrev pair : SwitchNo → SwitchNo → Ends
pair a b = record { lower = a; upper = b }

-- two switches in order
pub in_order : (a b : SwitchNo) → (ends_of a b).lower.0 ≤ (ends_of a b).upper.0
in_order a b = by (nat_le a.0 b.0) refl
  where
    by : (t : Bool) → nat_le a.0 b.0 ≡ t → (cond {A = Ends} t (pair a b) (pair b a)).lower.0 ≤ (cond {A = Ends} t (pair a b) (pair b a)).upper.0
    by true is = leb-true a.0 b.0 is
    by false is = let less : b.0 < a.0 = leb-false a.0 b.0 is in omega arith

pub since_of_ends : (past : List Entry) (a b : SwitchNo) → live_since past (ends_of a b).lower.0 (ends_of a b).upper.0 ≡ live_since past a.0 b.0
since_of_ends past a b = by (nat_le a.0 b.0)
  where
    by : (t : Bool) → live_since past (cond {A = Ends} t (pair a b) (pair b a)).lower.0 (cond {A = Ends} t (pair a b) (pair b a)).upper.0 ≡ live_since past a.0
        b.0
    by true = refl
    by false = live_either_way past b.0 a.0

-- where both pairs are in order, they are the same only as they stand
pub ends_in_order : (x y a b : ℕ) → x < y → a ≤ b → ((x == a) && (y == b)) ≡ same_ends x y a b
ends_in_order x y a b less order =
    or_false ((x == a) && (y == b)) ∙ ap (λ t. ((x == a) && (y == b)) || t) (sym (false_from_ne_true ((x == b) && (y == a)) (λ crossed.
    let parts = and_parts (x == b) (y == a) crossed in
    let one = eqb-true x b parts.0 in
    let two = eqb-true y a parts.1 in
    absurd (omega arith))))

pub failed_by_table : (past : List Entry) (a b : ℕ) → is_failed past a b ≡ is_none (live_since past a b)
failed_by_table past a b = by (is_failed past a b) (live_since past a b) (failed_by_number past a b)
  where
    by : (t : Bool) (o : Option ℕ) → not t ≡ is_some o → t ≡ is_none o
    by true None e = refl
    by true (Some n) e = absurd (both_ways false refl e)
    by false None e = absurd (both_ways false refl (sym e))
    by false (Some n) e = refl

-- a link that is failed is live from its repair on
pub repaired_now : (past : List Entry) (a b n : ℕ) → is_failed past a b ≡ true → repaired n (live_since past a b) ≡ Some n
repaired_now past a b n failed = by (live_since past a b) (sym (failed_by_table past a b) ∙ failed)
  where
    by : (o : Option ℕ) → is_none o ≡ true → repaired n o ≡ Some n
    by None is = refl
    by (Some m) is = absurd (both_ways false refl is)

-- a link of a switch that is failed
abbrev touches : List Entry → ℕ → Link → Bool
touches past s l = ((l.lower.0 == s) || (l.upper.0 == s)) && is_failed past l.lower.0 l.upper.0

-- what a port leads to is a link of the switch
pub failed_at_port : (plan : Plan) (past : List Entry) (s p : ℕ) → IsPlan plan → leads_to_failed past s (peer_of plan s p) ≡ true →
    has_failed_link plan past s ≡ true
failed_at_port plan past s p is failed = by (peer_of plan s p) refl failed
  where
    touched : (l : Link) (t q : ℕ) → HasEnds l s p t q → is_failed past s t ≡ true → touches past s l ≡ true
    touched l t q (inl e) f =
        and_from ((l.lower.0 == s) || (l.upper.0 == s)) (is_failed past l.lower.0 l.upper.0)
        (or_left (l.lower.0 == s) (l.upper.0 == s) (eq-eqb l.lower.0 s e.0)) (ap₂ (is_failed past) e.0 e.2 ∙ f)
    touched l t q (inr e) f =
        and_from ((l.lower.0 == s) || (l.upper.0 == s)) (is_failed past l.lower.0 l.upper.0)
        (or_right (l.lower.0 == s) (l.upper.0 == s) (eq-eqb l.upper.0 s e.0)) (ap₂ (is_failed past) e.2 e.0 ∙ failed_either_way past t s ∙ f)

    by : (peer : Peer) → peer_of plan s p ≡ peer → leads_to_failed past s peer ≡ true → has_failed_link plan past s ≡ true
    by HostPort at f = absurd (both_ways false refl f)
    by (Switch t q) at f =
        let there = (peer_is_switch plan s p t q is).0 at in
        list_any-from_Any (touches past s) plan.links (there.0, there.1, there.2, there.3, touched there.1 t.0 q there.4 f)

-- a failed link of a switch stands at one of its ports
pub port_of_failed : (plan : Plan) (past : List Entry) (s : ℕ) → IsPlan plan → has_failed_link plan past s ≡ true →
    (s < switch_count plan.k) × (p : ℕ) × (p < plan.k) × (leads_to_failed past s (peer_of plan s p) ≡ true)
port_of_failed plan past s is failed =
    let found = Any-from_list_any (touches past s) plan.links failed in
    let link = found.1 in
    let there : Contains plan.links link = (found.0, found.2, found.3) in
    let parts = and_parts ((link.lower.0 == s) || (link.upper.0 == s)) (is_failed past link.lower.0 link.upper.0) found.4 in
    let ports = at_contained (λ l. (l.lower_port < plan.k) × (l.upper_port < plan.k)) plan.links link is.tree.ports_in_range there in
    let ends = tree_ends plan.k link (at_contained (IsTreeLink plan.k) plan.links link is.tree.no_other there) in
    elim (or_cases (link.lower.0 == s) (link.upper.0 == s) parts.0) [
      | inl low ↦
          let e = eqb-true link.lower.0 s low in
          let peer = (peer_is_switch plan s link.lower_port link.upper link.upper_port is).1 (found.0, link, found.2, found.3, inl (e, refl, refl, refl)) in (
            subst (λ n. n < switch_count plan.k) e ends.0,
            link.lower_port,
            ports.0,
            ap (leads_to_failed past s) peer ∙ ap (λ n. is_failed past n link.upper.0) (sym e) ∙ parts.1,
          )
      | inr up ↦
          let e = eqb-true link.upper.0 s up in
          let peer = (peer_is_switch plan s link.upper_port link.lower link.lower_port is).1 (found.0, link, found.2, found.3, inr (e, refl, refl, refl)) in (
            subst (λ n. n < switch_count plan.k) e ends.1,
            link.upper_port,
            ports.1,
            ap (leads_to_failed past s) peer ∙ failed_either_way past s link.lower.0 ∙ ap (is_failed past link.lower.0) (sym e) ∙ parts.1,
          )
    ]

pub none_failed : (plan : Plan) (past : List Entry) (s : ℕ) → IsPlan plan →
    ((p : ℕ) → p < plan.k → leads_to_failed past s (peer_of plan s p) ≡ false) → has_failed_link plan past s ≡ false
none_failed plan past s is none = false_from_ne_true (has_failed_link plan past s) (λ failed.
    let port = port_of_failed plan past s is failed in both_ways (leads_to_failed past s (peer_of plan s port.1)) (none port.1 port.2) port.3)

pub no_such_switch : (plan : Plan) (past : List Entry) (s : ℕ) → IsPlan plan → switch_count plan.k ≤ s → has_failed_link plan past s ≡ false
no_such_switch plan past s is beyond = false_from_ne_true (has_failed_link plan past s) (λ failed.
    let within = (port_of_failed plan past s is failed).0 in absurd (omega arith))

-- the wiring's link between two switches
pub adjacent_by_link : (plan : Plan) (a b : ℕ) (found : Option Link) → IfSome found (λ link. Contains plan.links link × LinksSwitches link a b) →
    IfNone found (All (λ link. LinksSwitches link a b → ⊥) plan.links) → is_some found ≡ is_adjacent plan a b
adjacent_by_link plan a b (Some link) there none =
    let at = there.0 in
    sym (list_any-from_Any (λ l. same_ends l.lower.0 l.upper.0 a b) plan.links (at.0, link, at.1, at.2, joins link there.1))
  where
    joins : (l : Link) → LinksSwitches l a b → same_ends l.lower.0 l.upper.0 a b ≡ true
    joins l (inl e) = or_left ((l.lower.0 == a) && (l.upper.0 == b)) ((l.lower.0 == b) && (l.upper.0 == a))
        (and_from (l.lower.0 == a) (l.upper.0 == b) (eq-eqb l.lower.0 a e.0) (eq-eqb l.upper.0 b e.1))
    joins l (inr e) = or_right ((l.lower.0 == a) && (l.upper.0 == b)) ((l.lower.0 == b) && (l.upper.0 == a))
        (and_from (l.lower.0 == b) (l.upper.0 == a) (eq-eqb l.lower.0 b e.0) (eq-eqb l.upper.0 a e.1))
adjacent_by_link plan a b None there none = sym (false_from_ne_true (is_adjacent plan a b) (λ adjacent.
    let found = Any-from_list_any (λ l. same_ends l.lower.0 l.upper.0 a b) plan.links adjacent in
    let link = found.1 in
    at_contained (λ l. LinksSwitches l a b → ⊥) plan.links link none (found.0, found.2, found.3)
    (elim (or_cases ((link.lower.0 == a) && (link.upper.0 == b)) ((link.lower.0 == b) && (link.upper.0 == a)) found.4) [
      | inl straight ↦ let e = and_parts (link.lower.0 == a) (link.upper.0 == b) straight in inl (eqb-true link.lower.0 a e.0, eqb-true link.upper.0 b e.1)
      | inr crossed ↦ let e = and_parts (link.lower.0 == b) (link.upper.0 == a) crossed in inr (eqb-true link.lower.0 b e.0, eqb-true link.upper.0 a e.1)
    ])))

-- what the table has of a link
pub since_by_table : (past : List Entry) (links : Links) (a b : SwitchNo) (k : Ends) (found : Option (Option ℕ)) → KeepsLinks past links → k ≡ ends_of a b →
    found ≡ lookup (same_link k) links.since.said.entries → unwrap_or found (Some 0) ≡ live_since past a.0 b.0
since_by_table past links a b k found keeps ends is =
    ap (λ (o : Option (Option ℕ)). unwrap_or o (Some 0)) is
    ∙ keeps.links k (subst (λ (e : Ends). e.lower.0 ≤ e.upper.0) (sym ends) (in_order a b))
    ∙ ap (λ (e : Ends). live_since past e.lower.0 e.upper.0) ends
    ∙ since_of_ends past a b

-- a link that fails, and one that is repaired
pub link_failed : (past : List Entry) (links now : Links) (a b : SwitchNo) → KeepsLinks past links → a.0 < b.0 →
    ((k : Ends) → lookup (same_link k) now.since.said.entries
    ≡ cond (same_link (record { lower = a; upper = b }) k) (Some None) (lookup (same_link k) links.since.said.entries)) → KeepsLinks (LinkDown a b ∷ past) now
link_failed past links now a b keeps order said = record {
  links = λ k inside.
      ap (λ (o : Option (Option ℕ)). unwrap_or o (Some 0)) (said k)
      ∙ value_now (same_link (record { lower = a; upper = b }) k) None (Some 0) (lookup (same_link k) links.since.said.entries)
      ∙ ap₂ (λ (t : Bool) (o : Option ℕ). cond t None o) (ends_in_order a.0 b.0 k.lower.0 k.upper.0 order inside) (keeps.links k inside);
}

pub link_repaired : (past : List Entry) (links now : Links) (a b : SwitchNo) (n : ℕ) → KeepsLinks past links → a.0 < b.0 → is_failed past a.0 b.0 ≡ true →
    n ≡ length past + 1 →
    ((k : Ends) → lookup (same_link k) now.since.said.entries
    ≡ cond (same_link (record { lower = a; upper = b }) k) (Some (Some n)) (lookup (same_link k) links.since.said.entries)) → KeepsLinks (LinkUp a b ∷ past) now
link_repaired past links now a b n keeps order failed next said = record {
  links = λ k inside.
      ap (λ (o : Option (Option ℕ)). unwrap_or o (Some 0)) (said k)
      ∙ value_now (same_link (record { lower = a; upper = b }) k) (Some n) (Some 0) (lookup (same_link k) links.since.said.entries)
      ∙ ap₂ (λ (t : Bool) (o : Option ℕ). cond t (Some n) o) (ends_in_order a.0 b.0 k.lower.0 k.upper.0 order inside) (keeps.links k inside)
      ∙ at k (same_ends a.0 b.0 k.lower.0 k.upper.0) (ends_in_order a.0 b.0 k.lower.0 k.upper.0 order inside);
}
  where
    at : (k : Ends) (t : Bool) → ((a.0 == k.lower.0) && (b.0 == k.upper.0)) ≡ t →
        cond t (Some n) (live_since past k.lower.0 k.upper.0) ≡ cond t (repaired (length past + 1) (live_since past k.lower.0 k.upper.0))
        (live_since past k.lower.0 k.upper.0)
    at k false is = refl
    at k true is =
        let parts = and_parts (a.0 == k.lower.0) (b.0 == k.upper.0) is in
        ap (λ m. Some m) next
        ∙ sym (repaired_now past a.0 b.0 (length past + 1) failed)
        ∙ ap₂ (λ x y. repaired (length past + 1) (live_since past x y)) (eqb-true a.0 k.lower.0 parts.0) (eqb-true b.0 k.upper.0 parts.1)
