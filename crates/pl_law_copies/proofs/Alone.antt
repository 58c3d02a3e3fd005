-- Where at most one frame of a root comes to each port for hosts, at most one is on its way up, and at most one waits in each queue.
use Rattle.std.proofs.Common.{◌≡◌, ◌<◌, ◌/◌, ◌%◌, ◌==◌, ◌&&◌, ℕ, not, nat_lt, Bool, true, List, reverse, refl, ap, ◌∙◌, subst, arith}
use Rattle.std.proofs.lemmas.Bool.{and_from, and_parts, eq-eqb, false≢true, or_right}
use Rattle.std.proofs.lemmas.Nat.{div-mul-add, mod-mul-add}
use Rattle.pl_frame.specs.Ethernet.{destination_of}
use Rattle.pl_wiring.specs.declared.label.Label.{Label}
use Rattle.pl_wiring.specs.declared.label.Label.TheVariants.{Aggregation, Core, Edge}
use Rattle.pl_wiring.specs.declared.label.SwitchNo.{SwitchNo}
use Rattle.pl_wiring.specs.declared.link.Peer.{Peer}
use Rattle.pl_wiring.specs.declared.link.Peer.TheVariants.{HostPort, Switch}
use Rattle.pl_wiring.specs.Index.{port_index}
use Rattle.pl_wiring.specs.Labels.{IsLabel, label_of, number_of}
use Rattle.pl_wiring.specs.Peers.{peer_of}
use Rattle.pl_wiring.specs.Plan.{IsPlan, Plan}
use Rattle.pl_wiring.proofs.Exports.{label_of-number_of}
use Rattle.pl_layouts.specs.Memberships.{is_group}
use Rattle.pl_journal.specs.Places.{EdgePort, at_port}
use Rattle.pl_world.specs.Changes.{out_of}
use Rattle.pl_world.specs.Worlds.{WorldView}
use Rattle.pl_world.proofs.Exports.{born_once}
use Rattle.pl_law_counts.specs.Counting.{comes_from_place, has_root}
use Rattle.pl_law_counts.proofs.Exports.{count_all-one, fewer_all, fewer_in, label_there, Rung, rung}
use Rattle.pl_law_counts.proofs.Exports.Rung.{DownFromCore, DownToEdge, UpFromEdge, UpToCore}
use Rattle.pl_law_copies.specs.Alone.{AreAlone, goes_up, is_above}
use Rattle.pl_law_copies.specs.Copies.{ComesOnce, leads_to, may_come, may_come_by, to_ports}
use Rattle.pl_journal.specs.Flights.{label_level}

-- what goes up may come to every port for hosts
up_leads : (from to : Label) (itself : Bool) (edge : Label) → nat_lt (label_level from) (label_level to) ≡ true → leads_to from to itself edge ≡ true
up_leads (Edge p i) to itself edge up = refl
up_leads (Aggregation p j) (Edge q i) itself edge up = absurd (false≢true up)
up_leads (Aggregation p j) (Aggregation q i) itself edge up = refl
up_leads (Aggregation p j) (Core i m) itself edge up = refl
up_leads (Core j m) (Edge q i) itself edge up = absurd (false≢true up)
up_leads (Core j m) (Aggregation q i) itself edge up = absurd (false≢true up)
up_leads (Core j m) (Core i n) itself edge up = refl

up_comes : (k s port : ℕ) (peer : Peer) (there : EdgePort) → is_above k s peer ≡ true → may_come k s port peer there ≡ true
up_comes k s port HostPort there up = absurd (false≢true up)
up_comes k s port (Switch t q) there up = up_leads (label_of k s) (label_of k t.0) (t.0 == there.edge) (label_of k there.edge) up

-- a port for hosts to which every frame may come that leaves by a port
record Reaches (plan : Plan) (s port : ℕ) : Type 0 where
  there : EdgePort
  may : may_come plan.k s port (peer_of plan s port) there ≡ true

module _ (plan : Plan) (is : IsPlan plan) (s port : ℕ) where
  reaches : Reaches plan s port
  reaches = by (peer_of plan s port) refl
    where
      over : (t : SwitchNo) (q : ℕ) → peer_of plan s port ≡ Switch t q → Rung plan.k s t.0 → (there : EdgePort) × (leads_to (label_of plan.k s) (label_of plan.k t.0) (t.0 == there.edge) (label_of plan.k there.edge) ≡ true)
      over t q peer (UpFromEdge p i j from to) = (at_port 0 0, up_leads (label_of plan.k s) (label_of plan.k t.0) (t.0 == 0) (label_of plan.k 0) (rw (from, to) refl))
      over t q peer (UpToCore p j m from to) = (at_port 0 0, up_leads (label_of plan.k s) (label_of plan.k t.0) (t.0 == 0) (label_of plan.k 0) (rw (from, to) refl))
      over t q peer (DownFromCore p j m from to) =
          let e : ℕ = number_of plan.k (Edge p 0) in
          let high = subst (IsLabel plan.k) to (label_there plan is s port t q peer) in
          let named : label_of plan.k e ≡ Edge p 0 = label_of-number_of plan.k (Edge p 0) (high.0, (let some = high.1 in omega (arith, some))) in (
            at_port e 0,
            ap (λ l. leads_to l (label_of plan.k t.0) (t.0 == e) (label_of plan.k e)) from ∙ ap (λ l. leads_to (Core j m) l (t.0 == e) (label_of plan.k e)) to
                ∙ ap (λ l. leads_to (Core j m) (Aggregation p j) (t.0 == e) l) named ∙ eq-eqb p p refl,
          )
      over t q peer (DownToEdge p i j from to) = (
        at_port t.0 0,
        ap (λ l. leads_to l (label_of plan.k t.0) (t.0 == t.0) (label_of plan.k t.0)) from
            ∙ ap (λ l. leads_to (Aggregation p j) l (t.0 == t.0) (label_of plan.k t.0)) to ∙ eq-eqb t.0 t.0 refl,
      )

      by : (peer : Peer) → peer_of plan s port ≡ peer → Reaches plan s port
      by HostPort peer = record {
        there = at_port s port;
        may = ap (λ p. may_come plan.k s port p (at_port s port)) peer ∙ and_from (s == s) (port == port) (eq-eqb s s refl) (eq-eqb port port refl);
      }
      by (Switch t q) peer =
          let it = over t q peer (rung plan is s port t q peer) in
          record { there = it.0; may = ap (λ p. may_come plan.k s port p it.0) peer ∙ it.1 }

pub alone : (w : WorldView) → IsPlan w.plan → ComesOnce w → AreAlone w
alone w is come = record {
  up = λ r.
      let there : EdgePort = at_port 0 0 in
      let fewer = fewer_all (goes_up w.plan (reverse w.journal) r) (comes_from_place to_ports w.plan (reverse w.journal) r there) (λ n id frame passes.
      let both = and_parts (has_root (reverse w.journal) r id frame) (is_above w.plan.k (n / w.plan.k) (peer_of w.plan (n / w.plan.k) (n % w.plan.k))) passes in
      and_from (has_root (reverse w.journal) r id frame) (may_come_by w.plan (n / w.plan.k) (n % w.plan.k) there frame) both.0
      (or_right (not (is_group (destination_of frame))) _ (up_comes w.plan.k (n / w.plan.k) (n % w.plan.k) (peer_of w.plan (n / w.plan.k) (n % w.plan.k)) there both.1))) w.out in
      let all = come.once r there in
      let most = born_once r w.begun in
      omega (arith, fewer, all, most);
  waiting = λ s port r within.
      let it = reaches w.plan is s port in
      let n : ℕ = port_index w.plan.k s port in
      let test : ℕ → ℕ → List ℕ → Bool = comes_from_place to_ports w.plan (reverse w.journal) r it.there in
      let few = fewer_in (has_root (reverse w.journal) r) (test n) (λ id frame passes. here r s port it.there it.may id frame within passes) (out_of w s port) in
      let among = count_all-one test w.out n in
      let all = come.once r it.there in
      let most = born_once r w.begun in
      omega (arith, few, among, all, most);
}
  where
    -- each frame of the root in the queue counts
    here : (r s port : ℕ) (there : EdgePort) → may_come w.plan.k s port (peer_of w.plan s port) there ≡ true → (id : ℕ) (frame : List ℕ) → port < w.plan.k →
        has_root (reverse w.journal) r id frame ≡ true → comes_from_place to_ports w.plan (reverse w.journal) r there (port_index w.plan.k s port) id frame ≡ true
    here r s port there may id frame within passes =
        ap (λ b. b && may_come_by w.plan (port_index w.plan.k s port / w.plan.k) (port_index w.plan.k s port % w.plan.k) there frame) passes
        ∙ from_place (port_index w.plan.k s port / w.plan.k) (port_index w.plan.k s port % w.plan.k) (div-mul-add s w.plan.k port within) (mod-mul-add s w.plan.k port within)
      where
        from_place : (x y : ℕ) → x ≡ s → y ≡ port → may_come_by w.plan x y there frame ≡ true
        from_place x y is_s is_port =
            ap (λ m. may_come_by w.plan m y there frame) is_s ∙ ap (λ m. may_come_by w.plan s m there frame) is_port ∙ or_right (not (is_group (destination_of frame))) _ may
