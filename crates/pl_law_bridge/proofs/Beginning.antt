-- The world before the first line keeps to the tree.
use Rattle.std.proofs.Common.{◌≡◌, ℕ, zero, suc, ◌+◌, ◌*◌, ◌==◌, ◌&&◌, Bool, true, false, if◌then◌else◌, Contains, List, [], ◌∷◌, length, map, replicate, Some, get_or, reverse, slice_get, refl, sym, ap, ◌∙◌, subst, arith, inl, inr}
use Rattle.std.specs.List.{AllByRecursion, find}
use Rattle.std.specs.Option.{option_map}
use Rattle.std.proofs.lemmas.Bool.{and_from, and_parts, cases_Bool, cond-false, cond-true, eq-eqb, eqb-true, false≢true, or_cases, or_left}
use Rattle.pl_wiring.specs.declared.host.Host.{Host}
use Rattle.pl_wiring.specs.declared.link.Link.{Link}
use Rattle.pl_wiring.specs.Labels.{switch_count}
use Rattle.pl_wiring.specs.Peers.{LinksSwitches}
use Rattle.pl_wiring.specs.Plan.{IsPlan, Plan}
use Rattle.pl_wiring.proofs.Exports.{same_between}
use Rattle.pl_journal.specs.Places.{at_port}
use Rattle.pl_node.proofs.Exports.{IsAmong}
use Rattle.pl_world.specs.declared.item.Item.{Item}
use Rattle.pl_world.specs.declared.limits.Limits.{Limits}
use Rattle.pl_world.specs.Booting.{CanBegin, all_live, booted, first_attachment}
use Rattle.pl_world.specs.LinksAndMoves.{joins, link_between, link_failed, with_link}
use Rattle.pl_world.specs.Worlds.{WorldView}
use Rattle.pl_world.proofs.Exports.{booted_is_counted, born_none, counted as to_counted, failed_left, fails, found_contained, Sound, sound, Writes}
use Rattle.pl_law_counts.specs.Counting.{comes_from_place, has_root, standing}
use Rattle.pl_law_counts.proofs.Exports.{empty_out, none_in}
use Rattle.pl_law_bridge.specs.Reaching.{ReachesOnce, nothing_unsaid, to_targets}
use Rattle.pl_law_bridge.specs.TreeWorld.{KeepsToTree, LiveIsTree, is_off_tree, only_tree, tree_from, tree_world}
use Rattle.pl_law_bridge.specs.Travelling.{TravelsOnTree, WaitsAtHost, WaitsAtPort}
use Rattle.pl_law_bridge.proofs.Acting.{IsKeptIn, noted_kept}
use Rattle.pl_law_bridge.proofs.Changing.{IsIdle}
use Rattle.pl_law_bridge.proofs.LiveLinks.{tree_is_left}
use Rattle.pl_law_bridge.proofs.TravelChanges.{set_port}

-- ---- at boot
none_waits : (P : Item → Type 0) (many n : ℕ) → AllByRecursion P (get_or (replicate many []) n [])
none_waits P zero n = tt
none_waits P (suc many) zero = tt
none_waits P (suc many) (suc n) = none_waits P many n

first_attachments : (hosts : List Host) (h : ℕ) → option_map (λ (x : Host). at_port x.edge.0 x.port) (slice_get hosts h) ≡ standing (map first_attachment hosts) h
first_attachments [] h = refl
first_attachments (x ∷ hosts) zero = refl
first_attachments (x ∷ hosts) (suc h) = first_attachments hosts h

once_at_first : (plan : Plan) (limits : Limits) → ReachesOnce (booted plan limits)
once_at_first plan limits = record {
  standing = first_attachments plan.hosts;
  unbegun = λ id later. refl;
  once = λ r there. omega (
    arith,
    none_in (λ h. has_root [] r) (length plan.hosts),
    none_in (comes_from_place (to_targets nothing_unsaid) plan [] r there) (switch_count plan.k * plan.k),
    born_none r,
  );
}

travels_at_first : (plan : Plan) (limits : Limits) → TravelsOnTree (booted plan limits)
travels_at_first plan limits = record {
  new = λ id later. refl;
  uncopied = λ id later. refl;
  at_hosts = λ h. none_waits (WaitsAtHost [] 0) (length plan.hosts) h;
  at_ports = λ n. none_waits (WaitsAtPort plan [] 0 n) (switch_count plan.k * plan.k) n;
  adjacent = λ id. tt;
  arrived = tt;
}

-- ---- a link fails
abbrev Keeps : WorldView → WorldView → Type 0
Keeps a b = IsKeptIn nothing_unsaid a → IsKeptIn nothing_unsaid b

keeps_writes : Writes Keeps IsIdle
keeps_writes = record {
  same = λ w c. c;
  on = λ a b d one next c. next (one c);
  entry = noted_kept nothing_unsaid;
  dropped = λ id why. tt;
}

fails_kept : (w : WorldView) (link : Link) → IsKeptIn nothing_unsaid w → IsKeptIn nothing_unsaid (link_failed w link)
fails_kept w link = failed_left Keeps IsIdle keeps_writes
    (λ u i c. record {
      once = empty_out (to_targets nothing_unsaid) u i c.once;
      travels = set_port u.plan (reverse u.journal) u.from_hosts u.out u.begun i [] tt c.travels;
    }) w link tt (λ u links c. c)

-- the first link that passes
found_among : (p : Link → Bool) (links : List Link) (link : Link) → IsAmong link links → p link ≡ true → (l : Link) × (find p links ≡ Some l) × (p l ≡ true)
found_among p [] link among passes = absurd among
found_among p (l ∷ links) link among passes = elim (cases_Bool (p l)) [
  | inl here ↦ (l, cond-true (p l) (Some l) (find p links) here, here)
  | inr other ↦ elim among [
    | inl same ↦ absurd (false≢true (sym other ∙ ap p same ∙ passes))
    | inr later ↦ (let rest = found_among p links link later passes in (rest.0, cond-false (p l) (Some l) (find p links) other ∙ rest.1, rest.2))
  ]
]

pub links_both : (a b : ℕ) (l : Link) → joins a b l ≡ true → LinksSwitches l a b
links_both a b l is = elim (or_cases ((l.lower.0 == a) && (l.upper.0 == b)) ((l.lower.0 == b) && (l.upper.0 == a)) is) [
  | inl up ↦ (let both = and_parts (l.lower.0 == a) (l.upper.0 == b) up in inl (eqb-true l.lower.0 a both.0, eqb-true l.upper.0 b both.1))
  | inr down ↦ (let both = and_parts (l.lower.0 == b) (l.upper.0 == a) down in inr (eqb-true l.lower.0 b both.0, eqb-true l.upper.0 a both.1))
]

pub contained : (link : Link) (links : List Link) → IsAmong link links → Contains links link
contained link [] among = absurd among
contained link (l ∷ links) (inl same) = (zero, omega arith, same)
contained link (l ∷ links) (inr later) = (let there = contained link links later in (suc there.0, omega (arith, there.1), there.2))

-- a link of the wiring is the one between its ends
pub between_its_ends : (plan : Plan) (link : Link) → IsPlan plan → IsAmong link plan.links → link_between plan link.lower.0 link.upper.0 ≡ Some link
between_its_ends plan link is among =
    let a : ℕ = link.lower.0 in
    let b : ℕ = link.upper.0 in
    let itself : joins a b link ≡ true = or_left ((a == a) && (b == b)) ((a == b) && (b == a)) (and_from (a == a) (b == b) (eq-eqb a a refl) (eq-eqb b b refl)) in
    let first = found_among (joins a b) plan.links link among itself in
    let same : first.0 ≡ link = same_between plan first.0 link a b is (found_contained (joins a b) plan.links first.0 first.1) (contained link plan.links among)
    (links_both a b first.0 first.2) (inl (refl, refl)) in
    first.1 ∙ ap Some same

-- ---- all links but those of the tree fail
abbrev pub failed_if : Bool → WorldView → Link → WorldView
failed_if b w link = if b then link_failed (record w { steps = w.steps + 1 }) link else w

record IsReadied (plan : Plan) (w : WorldView) : Type 0 where
  plan_stays : w.plan ≡ plan
  sound : Sound w
  kept : IsKeptIn nothing_unsaid w

failed_readied : (plan : Plan) (b : Bool) (w : WorldView) (link : Link) → IsPlan plan → IsAmong link plan.links → IsReadied plan w → IsReadied plan (failed_if b w link)
failed_readied plan true w link is among r = record {
  plan_stays = r.plan_stays;
  sound = fails (record w { steps = w.steps + 1 }) link.lower.0 link.upper.0 (Some link) _
      (ap (λ p. link_between p link.lower.0 link.upper.0) r.plan_stays ∙ between_its_ends plan link is among) (record { balance = r.sound.balance; rest = r.sound.rest }) refl;
  kept = fails_kept (record w { steps = w.steps + 1 }) link (record { once = r.kept.once; travels = r.kept.travels });
}
failed_readied plan false w link is among r = r

all_readied : (plan : Plan) (w : WorldView) (links : List Link) → IsPlan plan → ((link : Link) → IsAmong link links → IsAmong link plan.links) → IsReadied plan w →
    IsReadied plan (tree_from plan.k w links)
all_readied plan w [] is within r = r
all_readied plan w (link ∷ links) is within r =
    all_readied plan (failed_if (is_off_tree plan.k link) w link) links is (λ l later. within l (inr later))
    (failed_readied plan (is_off_tree plan.k link) w link is (within link (inl refl)) r)

-- which links are live then
links_then : (k : ℕ) (w : WorldView) (links : List Link) → (tree_from k w links).links ≡ only_tree k w.links links
links_then k w [] = refl
links_then k w (link ∷ links) = links_then k (failed_if (is_off_tree k link) w link) links ∙ ap (λ l. only_tree k l links) (same_links (is_off_tree k link))
  where
    same_links : (b : Bool) → (failed_if b w link).links ≡ (if b then with_link w.links link false else w.links)
    same_links true = refl
    same_links false = refl

pub begins_on_tree : (plan : Plan) (limits : Limits) → CanBegin plan → KeepsToTree (tree_world plan limits)
begins_on_tree plan limits can =
    let r = all_readied plan (booted plan limits) plan.links can.is_plan (λ link among. among) (record {
      plan_stays = refl;
      sound = sound (booted plan limits) (booted_is_counted plan limits can);
      kept = record { once = once_at_first plan limits; travels = travels_at_first plan limits };
    }) in
    record {
      counted = to_counted (tree_world plan limits) r.sound;
      once = r.kept.once;
      travels = r.kept.travels;
      live = subst (λ p. LiveIsTree p (tree_world plan limits).links) (sym r.plan_stays)
          (subst (λ l. LiveIsTree plan l) (sym (links_then plan.k (booted plan limits) plan.links)) (tree_is_left plan (all_live plan)));
    }
