-- What an event that is not refused names is there: a switch, a port, a host, both ends of a link.
use Rattle.std.proofs.Common.{◌≡◌, ◌<◌, ◌==◌, ◌&&◌, ℕ, not, Bool, true, false, if◌then◌else◌, List, [], ◌∷◌, length, is_some, Contains, Option, None, Some, refl, subst, arith}
use Rattle.std.specs.List.{find}
use Rattle.std.proofs.lemmas.Bool.{and_parts, ltb-true}
use Rattle.std.proofs.lemmas.Bool.Decides.{nat_tests}
use Rattle.pl_wiring.specs.declared.link.Link.{Link}
use Rattle.pl_wiring.specs.FatTree.{IsTreeLink}
use Rattle.pl_wiring.specs.Labels.{switch_count}
use Rattle.pl_wiring.specs.Peers.{peer_of}
use Rattle.pl_wiring.specs.Plan.{IsPlan, Plan}
use Rattle.pl_wiring.proofs.Exports.{at_contained, tree_ends}
use Rattle.pl_journal.specs.Places.{is_host_port}
use Rattle.pl_world.specs.LinksAndMoves.{joins, link_between}
use Rattle.pl_world.specs.declared.error.StepError.TheVariants.{NoSuch}
use Rattle.pl_world.specs.Changes.{host_at}
use Rattle.pl_world.specs.Refusals.{has_host, has_port, has_switch, is_for_hosts, is_linked, refusal_of_link, refusal_of_move, refusal_of_place, refusal_of_queue, unless_there}
use Rattle.pl_world.specs.Worlds.{WorldView}
use Rattle.pl_world.proofs.Exports.{found_contained, port_exists, there_is}

is_there : (there : Bool) → unless_there there ≡ None → there ≡ true
is_there true allowed = refl
is_there false allowed = absurd (cc)

pub switch_there : (plan : Plan) (s : ℕ) → unless_there (has_switch plan s) ≡ None → s < switch_count plan.k
switch_there plan s allowed = ltb-true s (switch_count plan.k) (is_there (has_switch plan s) allowed)

pub host_there : (plan : Plan) (h : ℕ) → unless_there (has_host plan h) ≡ None → h < length plan.hosts
host_there plan h allowed = ltb-true h (length plan.hosts) (is_there (has_host plan h) allowed)

pub lost_at : (plan : Plan) (s port : ℕ) (filled : Bool) → refusal_of_queue (is_linked plan s port) filled ≡ None → (s < switch_count plan.k) × (port < plan.k)
lost_at plan s port filled allowed =
    port_exists plan s port (and_parts (has_port plan s port) (not (is_host_port (peer_of plan s port))) (there_is (is_linked plan s port) filled allowed)).0

moves : (b : Bool) (h : ℕ) (o : Option ℕ) → (if b then refusal_of_place h o else Some NoSuch) ≡ None → b ≡ true
moves true h o allowed = refl
moves false h o allowed = absurd (cc)

pub moved_there : (w : WorldView) (h s port : ℕ) → refusal_of_move w h s port ≡ None → (h < length w.plan.hosts) × (s < switch_count w.plan.k)
moved_there w h s port allowed =
    let both = and_parts (has_host w.plan h) (is_for_hosts w.plan s port) (moves (has_host w.plan h && is_for_hosts w.plan s port) h (host_at w s port) allowed) in (
      ltb-true h (length w.plan.hosts) both.0,
      (port_exists w.plan s port (and_parts (has_port w.plan s port) (is_host_port (peer_of w.plan s port)) both.1).0).0,
    )

-- ---- links

pub link_is_there : (w : WorldView) (live : Bool) (link : Option Link) → refusal_of_link w live link ≡ None → is_some link ≡ true
link_is_there w live None allowed = absurd (cc)
link_is_there w live (Some link) allowed = refl

joined : (a b : ℕ) (links : List Link) (link : Link) → find (joins a b) links ≡ Some link → joins a b link ≡ true
joined a b [] link is = absurd (cc)
joined a b (l ∷ links) link is = by_first (joins a b l) refl (joined a b links link) is
  where
    by_first : (t : Bool) → joins a b l ≡ t → (find (joins a b) links ≡ Some link → joins a b link ≡ true) →
        (if t then Some l else find (joins a b) links) ≡ Some link → joins a b link ≡ true
    by_first true e rest here = let same : l ≡ link = cc in subst (λ x. joins a b x ≡ true) same e
    by_first false e rest here = rest here

ends_within : (n a b : ℕ) (l : Link) → joins a b l ≡ true → l.lower.0 < n → l.upper.0 < n → (a < n) × (b < n)
ends_within n a b l h low up = by_test ((l.lower.0 == a) && (l.upper.0 == b)) refl
  where
    by_test : (t : Bool) → ((l.lower.0 == a) && (l.upper.0 == b)) ≡ t → (a < n) × (b < n)
    by_test true e = (grind (arith, nat_tests), grind (arith, nat_tests))
    by_test false e = (grind (arith, nat_tests), grind (arith, nat_tests))

ends_there : (plan : Plan) (a b : ℕ) → IsPlan plan → is_some (link_between plan a b) ≡ true → (a < switch_count plan.k) × (b < switch_count plan.k)
ends_there plan a b is there = by (link_between plan a b) refl there
  where
    by : (found : Option Link) → link_between plan a b ≡ found → is_some found ≡ true → (a < switch_count plan.k) × (b < switch_count plan.k)
    by None e there = absurd (cc)
    by (Some link) e there =
        let among : Contains plan.links link = found_contained (joins a b) plan.links link e in
        let ends = tree_ends plan.k link (at_contained (IsTreeLink plan.k) plan.links link is.tree.no_other among) in
        ends_within (switch_count plan.k) a b link (joined a b plan.links link e) ends.0 ends.1

pub first_end : (plan : Plan) (a b : ℕ) → IsPlan plan → is_some (link_between plan a b) ≡ true → a < switch_count plan.k
first_end plan a b is there = (ends_there plan a b is there).0

pub second_end : (plan : Plan) (a b : ℕ) → IsPlan plan → is_some (link_between plan a b) ≡ true → b < switch_count plan.k
second_end plan a b is there = (ends_there plan a b is there).1
