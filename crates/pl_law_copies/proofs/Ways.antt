-- Where the ports of a switch lead: those that lead down come to a port for hosts by one switch alone, and only if the frame itself might have come there.
use Rattle.std.proofs.Common.{◌≡◌, ℕ, ◌<◌, ◌==◌, true, sym, ap, ◌∙◌, arith}
use Rattle.std.proofs.lemmas.Bool.{eq-eqb, eqb-true, false≢true}
use Rattle.pl_wiring.specs.declared.label.Label.{Label}
use Rattle.pl_wiring.specs.declared.label.Label.TheVariants.{Aggregation, Core, Edge}
use Rattle.pl_wiring.specs.declared.label.SwitchNo.{SwitchNo}
use Rattle.pl_wiring.specs.declared.link.Peer.{Peer}
use Rattle.pl_wiring.specs.declared.link.Peer.TheVariants.{Switch}
use Rattle.pl_wiring.specs.Labels.{label_of}
use Rattle.pl_wiring.specs.Peers.{peer_of}
use Rattle.pl_wiring.specs.Plan.{Plan}
use Rattle.pl_wiring.proofs.Exports.{same_label}
use Rattle.pl_journal.specs.Flights.{label_level}
use Rattle.pl_journal.specs.Places.{EdgePort}
use Rattle.pl_law_counts.proofs.Exports.{Rung}
use Rattle.pl_law_counts.proofs.Exports.Rung.{DownFromCore, DownToEdge, UpFromEdge, UpToCore}
use Rattle.pl_law_copies.specs.Copies.{is_edge_of, leads_to, may_come}

record IsEdgeOf (p : ℕ) (label : Label) : Type 0 where
  i : ℕ
  is : label ≡ Edge p i

edge_of : (p : ℕ) (label : Label) → is_edge_of p label ≡ true → IsEdgeOf p label
edge_of p (Edge q i) is = record { i = i; is = ap (λ n. Edge n i) (sym (eqb-true p q is)) }
edge_of p (Aggregation q j) is = absurd (false≢true is)
edge_of p (Core j m) is = absurd (false≢true is)

edge_label : (a b : Label) (x y : ℕ) → a ≡ b → label_level a ≡ x → label_level b ≡ y → x ≡ y
edge_label a b x y same at_a at_b = sym at_a ∙ ap label_level same ∙ at_b

-- a port that leads down
pub record LeadsDown (plan : Plan) (s q : ℕ) : Type 0 where
  pub to : SwitchNo
  pub at : ℕ
  pub peer : peer_of plan s q ≡ Switch to at
  pub lower : label_level (label_of plan.k to.0) < label_level (label_of plan.k s)

pub may_come_down : (k s q : ℕ) (to : SwitchNo) (at : ℕ) (peer : Peer) (there : EdgePort) → peer ≡ Switch to at → may_come k s q peer there ≡ true →
    leads_to (label_of k s) (label_of k to.0) (to.0 == there.edge) (label_of k there.edge) ≡ true
may_come_down k s q to at peer there is may = sym (ap (λ p. may_come k s q p there) is) ∙ may

-- what leads down to one edge switch is one switch
pub leads_apart : (k s t u e : ℕ) → Rung k s t → Rung k s u → label_level (label_of k t) < label_level (label_of k s) → label_level (label_of k u) < label_level (label_of k s) →
    leads_to (label_of k s) (label_of k t) (t == e) (label_of k e) ≡ true → leads_to (label_of k s) (label_of k u) (u == e) (label_of k e) ≡ true → t ≡ u
leads_apart k s t u e (UpFromEdge p i j at to) r low lower a b = absurd (let x = ap label_level at in let y = ap label_level to in omega arith)
leads_apart k s t u e (UpToCore p j m at to) r low lower a b = absurd (let x = ap label_level at in let y = ap label_level to in omega arith)
leads_apart k s t u e (DownFromCore p j m at to) (UpFromEdge p2 i2 j2 at2 to2) low lower a b = (let x = sym at ∙ at2 in absurd (cc))
leads_apart k s t u e (DownFromCore p j m at to) (UpToCore p2 j2 m2 at2 to2) low lower a b = (let x = sym at ∙ at2 in absurd (cc))
leads_apart k s t u e (DownFromCore p j m at to) (DownToEdge p2 i2 j2 at2 to2) low lower a b = (let x = sym at ∙ at2 in absurd (cc))
leads_apart k s t u e (DownFromCore p j m at to) (DownFromCore p2 j2 m2 at2 to2) low lower a b =
    let one : is_edge_of p (label_of k e) ≡ true = rw (at, to) at a in
    let two : is_edge_of p2 (label_of k e) ≡ true = rw (at2, to2) at b in
    let x = edge_of p (label_of k e) one in
    let y = edge_of p2 (label_of k e) two in
    let same : Edge p x.i ≡ Edge p2 y.i = sym x.is ∙ y.is in
    let pods : p ≡ p2 = cc in
    let cores : Core j m ≡ Core j2 m2 = sym at ∙ at2 in
    let groups : j ≡ j2 = cc in
    same_label k t u (to ∙ ap (λ n. Aggregation n j) pods ∙ ap (λ n. Aggregation p2 n) groups ∙ sym to2)
leads_apart k s t u e (DownToEdge p i j at to) (UpFromEdge p2 i2 j2 at2 to2) low lower a b = (let x = sym at ∙ at2 in absurd (cc))
leads_apart k s t u e (DownToEdge p i j at to) (UpToCore p2 j2 m2 at2 to2) low lower a b = absurd (let x = ap label_level at2 in let y = ap label_level to2 in omega arith)
leads_apart k s t u e (DownToEdge p i j at to) (DownFromCore p2 j2 m2 at2 to2) low lower a b = (let x = sym at ∙ at2 in absurd (cc))
leads_apart k s t u e (DownToEdge p i j at to) (DownToEdge p2 i2 j2 at2 to2) low lower a b =
    let one : (t == e) ≡ true = rw (at, to) at a in
    let two : (u == e) ≡ true = rw (at2, to2) at b in
    eqb-true t e one ∙ sym (eqb-true u e two)

-- what leads down from an aggregation switch leads to its pod
pub leads_within : (k s t e p j : ℕ) → label_of k s ≡ Aggregation p j → Rung k s t → label_level (label_of k t) < label_level (label_of k s) →
    leads_to (label_of k s) (label_of k t) (t == e) (label_of k e) ≡ true → is_edge_of p (label_of k e) ≡ true
leads_within k s t e p j at (UpFromEdge p2 i2 j2 at2 to2) lower is = (let x = sym at ∙ at2 in absurd (cc))
leads_within k s t e p j at (UpToCore p2 j2 m2 at2 to2) lower is = absurd (let x = ap label_level at2 in let y = ap label_level to2 in omega arith)
leads_within k s t e p j at (DownFromCore p2 j2 m2 at2 to2) lower is = (let x = sym at ∙ at2 in absurd (cc))
leads_within k s t e p j at (DownToEdge p2 i2 j2 at2 to2) lower is =
    let one : (t == e) ≡ true = rw (at2, to2) at is in
    let same : Aggregation p j ≡ Aggregation p2 j2 = sym at ∙ at2 in
    let pods : p ≡ p2 = cc in
    let here : label_of k e ≡ Edge p2 i2 = ap (label_of k) (sym (eqb-true t e one)) ∙ to2 in
    ap (is_edge_of p) here ∙ eq-eqb p p2 pods
