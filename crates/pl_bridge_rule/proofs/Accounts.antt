-- Each step of a bridge accounts for its frames.
use Rattle.std.proofs.Common.{◌≡◌, ◌⊎◌, ℕ, zero, suc, ◌+◌, ◌≤◌, ◌<◌, ◌==◌, not, Bool, true, false, if◌then◌else◌, List, [], ◌∷◌, map, Option, None, Some, refl, sym, ap, ◌∙◌, subst, arith, inl, inr}
use Rattle.std.specs.List.{AllByRecursion, filter, find, fold, range_with_len}
use Rattle.std.proofs.lemmas.Bool.{cases_Bool, cond-false, cond-true, cond_both, eqb-true, false≢true, ne_eqb}
use Rattle.pl_frame.specs.Ethernet.{destination_of}
use Rattle.pl_frame.specs.declared.address.Mac.{Mac}
use Rattle.pl_layouts.specs.Control.{is_control}
use Rattle.pl_journal.specs.declared.cause.Cause.TheVariants.{NoNextHop}
use Rattle.pl_node.specs.declared.acts.Act.{Act}
use Rattle.pl_node.specs.declared.acts.Act.TheVariants.{Drop, Pass}
use Rattle.pl_node.specs.Accounting.{AccountsForFrames, CanCome, IsAccounted, IsFit, IsShaped, IsWholeFrame, is_said, frame_state_after}
use Rattle.pl_node.specs.Accounting.FrameState.{Passed, Waiting}
use Rattle.pl_node.specs.SwitchInputs.{SwitchInput}
use Rattle.pl_node.specs.SwitchInputs.SwitchInput.{Comes, Says, Tick}
use Rattle.pl_node.specs.SwitchViews.{SwitchView}
use Rattle.pl_steps.specs.Steps.{rests}
use Rattle.pl_bridge_rule.specs.BridgeRule.{Bridges, bridge_step, bridges, goes_on, other_ports, port_among, port_for, stands_at, with_source}

-- what is found in a range is below its end
found_below : (test : ℕ → Bool) (from n p : ℕ) → find test (range_with_len from n) ≡ Some p → p < from + n
found_below test from zero p is = absurd (cc)
found_below test from (suc n) p is = elim (cases_Bool (test from)) [
  | inl here ↦ (let e : from ≡ p = some_same from p (sym (cond-true (test from) (Some from) (find test (range_with_len (from + 1) n)) here) ∙ is) in omega arith)
  | inr other ↦ (let later = found_below test (from + 1) n p (sym (cond-false (test from) (Some from) (find test (range_with_len (from + 1) n)) other) ∙ is) in omega arith)
]
  where
    some_same : (a b : ℕ) → ◌≡◌ {A = Option ℕ} (Some a) (Some b) → a ≡ b
    some_same a b e = cc

pub port_below : (v : SwitchView) (mac : Mac) (p : ℕ) → port_for v mac ≡ Some p → p < v.k
unfolding port_among
port_below v mac p is = (let b = found_below (stands_at v.members mac) 0 v.k p is in omega arith)

-- a list of passes
passes_fit : (k : ℕ) (test : ℕ → Bool) (frame : List ℕ) (from n : ℕ) → from + n ≤ k → is_control frame ≡ false → IsWholeFrame frame →
    AllByRecursion (IsFit k) (map (λ p. Pass p frame) (filter test (range_with_len from n)))
passes_fit k test frame from zero within kind whole = tt
passes_fit k test frame from (suc n) within kind whole =
    let rest = passes_fit k test frame (from + 1) n (omega arith) kind whole in
    cond_both (test from) (from ∷ filter test (range_with_len (from + 1) n)) (filter test (range_with_len (from + 1) n))
    (λ ports. AllByRecursion (IsFit k) (map (λ p. Pass p frame) ports))
    (λ passes. (record { within = omega arith; kind = kind; whole = whole }, rest)) (λ other. rest)

passed_said : (frame ports : List ℕ) → is_said (fold frame_state_after Passed (map (λ p. Pass p frame) ports)) ≡ true
passed_said frame [] = refl
passed_said frame (p ∷ ports) = passed_said frame ports

-- there is another port
others_said : (k port : ℕ) (frame : List ℕ) → 4 ≤ k → is_said (fold frame_state_after Waiting (map (λ p. Pass p frame) (other_ports k port))) ≡ true
others_said zero port frame low = absurd (omega arith)
others_said (suc zero) port frame low = absurd (omega arith)
others_said (suc (suc n)) port frame low = by_first (cases_Bool (0 == port))
  where
    more : List ℕ
    more = filter (λ p. not (p == port)) (range_with_len 2 n)

    Said : List ℕ → Type 0
    Said ports = is_said (fold frame_state_after Waiting (map (λ p. Pass p frame) ports)) ≡ true

    rest : List ℕ
    rest = filter (λ p. not (p == port)) (range_with_len 1 (suc n))

    by_first : (0 == port) ≡ true ⊎ (0 == port) ≡ false → Said (other_ports (suc (suc n)) port)
    by_first (inr other) = cond_both (not (0 == port)) (0 ∷ rest) rest Said
        (λ yes. passed_said frame rest) (λ never. absurd (false≢true (sym never ∙ ap not other)))
    by_first (inl here) =
        let one : (1 == port) ≡ false = ne_eqb 1 port (λ e. absurd (let z = eqb-true 0 port here in omega arith)) in
        cond_both (not (0 == port)) (0 ∷ rest) rest Said (λ yes. passed_said frame rest)
        (λ never. cond_both (not (1 == port)) (1 ∷ more) more Said (λ yes. passed_said frame more) (λ neither. absurd (false≢true (sym neither ∙ ap not one))))

-- the passes of a bridge, or its drop
goes_fit : (k port : ℕ) (frame : List ℕ) (o : Option ℕ) → ((p : ℕ) → o ≡ Some p → p < k) → is_control frame ≡ false → IsWholeFrame frame →
    AllByRecursion (IsFit k) (goes_on k port frame o)
goes_fit k port frame None below kind whole = passes_fit k (λ p. not (p == port)) frame 0 k (omega arith) kind whole
goes_fit k port frame (Some out) below kind whole =
    cond_both (out == port) (Drop NoNextHop ∷ []) (Pass out frame ∷ []) (AllByRecursion (IsFit k)) (λ back. (tt, tt))
    (λ on. (record { within = below out refl; kind = kind; whole = whole }, tt))

goes_said : (k port : ℕ) (frame : List ℕ) (o : Option ℕ) → 4 ≤ k → is_said (fold frame_state_after Waiting (goes_on k port frame o)) ≡ true
goes_said k port frame None low = others_said k port frame low
goes_said k port frame (Some out) low =
    cond_both (out == port) (Drop NoNextHop ∷ []) (Pass out frame ∷ []) (λ acts. is_said (fold frame_state_after Waiting acts) ≡ true) (λ back. refl) (λ on. refl)

with_source_shaped : (v : SwitchView) (port : ℕ) (frame : List ℕ) → IsShaped v → IsShaped (with_source v port frame)
with_source_shaped v port frame s = record {
  named = s.named;
  id = s.id;
  low = s.low;
  high = s.high;
  even = s.even;
  ports = s.ports;
  holds = s.holds;
  grants = s.grants;
  freed = s.freed;
  remembered = s.remembered;
  granted = s.granted;
  free = s.free;
  sources = s.sources;
}

step_accounted : (v : SwitchView) (input : SwitchInput) → IsShaped v → CanCome v input → IsAccounted v input (bridge_step v input).view (bridge_step v input).acts
step_accounted v Tick shaped can = record { said = refl; fit = tt; id = refl; k = refl; shaped = shaped }
step_accounted v (Says says) shaped can = record { said = refl; fit = tt; id = refl; k = refl; shaped = shaped }
step_accounted v (Comes port frame) shaped can = by_kind (is_control frame) refl
  where
    by_kind : (b : Bool) → is_control frame ≡ b →
        IsAccounted v (Comes port frame) (if b then rests v else bridges v port frame).view (if b then rests v else bridges v port frame).acts
    by_kind true kind = record { said = rw kind refl; fit = tt; id = refl; k = refl; shaped = shaped }
    by_kind false kind = record {
      said = rw kind (goes_said v.k port frame (port_for (with_source v port frame) (destination_of frame)) shaped.low);
      fit = goes_fit v.k port frame (port_for (with_source v port frame) (destination_of frame))
          (λ p is. port_below (with_source v port frame) (destination_of frame) p is) kind can.whole;
      id = refl;
      k = refl;
      shaped = with_source_shaped v port frame shaped;
    }

pub accounts : AccountsForFrames Bridges
accounts old input new acts shaped can does =
    subst (λ x. IsAccounted old input x acts) (sym does.view)
    (subst (λ a. IsAccounted old input (bridge_step old input).view a) (sym does.done) (step_accounted old input shaped can))

-- the rule leaves no choice
pub no_choice : (old : SwitchView) (input : SwitchInput) (one other : SwitchView) (acts more : List Act) →
    Bridges old input one acts → Bridges old input other more → (one ≡ other) × (acts ≡ more)
no_choice old input one other acts more a b = (a.view ∙ sym b.view, a.done ∙ sym b.done)
