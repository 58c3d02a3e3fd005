-- A frame that a switch passes on by a port whose link is live waits there then, whatever else the switch told and granted before.
use Rattle.std.proofs.Common.{◌≡◌, ℕ, ◌<◌, ◌&&◌, not, Bool, false, if◌then◌else◌, List, [], ◌∷◌, ◌++◌, length, set, refl, sym, ap, ◌∙◌, subst}
use Rattle.std.specs.List.{AllByRecursion}
use Rattle.pl_wiring.specs.Index.{port_index}
use Rattle.pl_wiring.specs.LiveLinks.{is_live_at}
use Rattle.pl_wiring.specs.Peers.{peer_of}
use Rattle.pl_journal.specs.Places.{is_host_port}
use Rattle.pl_node.specs.declared.acts.Act.{Act}
use Rattle.pl_node.specs.declared.acts.Act.TheVariants as act
use Rattle.pl_node.specs.SwitchInputs.{SwitchInput, SwitchRule}
use Rattle.pl_node.proofs.Exports.{IsAmong}
use Rattle.pl_queues.specs.Queues.{items_at, put_at}
use Rattle.pl_world.specs.declared.item.Item.TheVariants.{Data}
use Rattle.pl_world.specs.declared.spoken_frame.SpokenFrame.{SpokenFrame}
use Rattle.pl_world.specs.declared.spoken_frame.SpokenFrame.TheVariants as spoken_frame
use Rattle.pl_world.specs.Changes.{is_failed_at}
use Rattle.pl_world.specs.SwitchActs.{DuringActs, act_done, acts_done, begins, passed}
use Rattle.pl_world.specs.WorldRule.{SwitchTurn}
use Rattle.pl_world.specs.Worlds.{WorldView}
use Rattle.pl_law_arrival.proofs.LeftByAStep.{Goes, goes_acts, goes_behind, goes_then, goes_views, put_there}

-- acts that speak of no frame
abbrev pub IsOfNoFrame : Act → Type 0
IsOfNoFrame (act.Control port frame) = Unit {0}
IsOfNoFrame (act.Tell told) = Unit {0}
IsOfNoFrame (act.Grant pmac amac) = Unit {0}
IsOfNoFrame a = ⊥

abbrev pub AreOfNoFrame : List Act → Type 0
AreOfNoFrame acts = AllByRecursion IsOfNoFrame acts

-- such acts leave it open what becomes of the frame
frameless_waits : (s : ℕ) (d : DuringActs) (acts : List Act) → AreOfNoFrame acts → (acts_done s d acts).speech ≡ d.speech
frameless_waits s d [] all = refl
frameless_waits s d (act.Control port frame ∷ acts) all = frameless_waits s (act_done s d (act.Control port frame)) acts all.1
frameless_waits s d (act.Tell told ∷ acts) all = frameless_waits s (act_done s d (act.Tell told)) acts all.1
frameless_waits s d (act.Grant pmac amac ∷ acts) all = frameless_waits s (act_done s d (act.Grant pmac amac)) acts all.1
frameless_waits s d (a ∷ acts) all = absurd all.0

acts_append : (s : ℕ) (d : DuringActs) (xs ys : List Act) → acts_done s d (xs ++ ys) ≡ acts_done s (acts_done s d xs) ys
acts_append s d [] ys = refl
acts_append s d (x ∷ xs) ys = acts_append s (act_done s d x) xs ys

pub same_failed : (w new : WorldView) (s n : ℕ) → Goes w new → is_failed_at new s n ≡ is_failed_at w s n
same_failed w new s n goes = λ i. not (is_host_port (peer_of (goes.plan i) s n)) && not (is_live_at (goes.links i) s n)

pass_lands : (s : ℕ) (d : DuringActs) (id : ℕ) (again : Bool) (n : ℕ) (frame : List ℕ) → d.speech ≡ spoken_frame.Waiting id again → is_failed_at d.world s n ≡ false →
    port_index d.world.plan.k s n < length d.world.out → IsAmong (Data id frame) (items_at (act_done s d (act.Pass n frame)).world.out (port_index d.world.plan.k s n))
pass_lands s d id again n frame waits live within =
    subst (λ (x : SpokenFrame). IsAmong (Data id frame) (items_at (passed s d n frame x).world.out (port_index d.world.plan.k s n))) (sym waits)
    (subst (λ (b : Bool). IsAmong (Data id frame) (items_at (if b then d.world.out else put_at d.world.out (port_index d.world.plan.k s n) (Data id frame)) (port_index d.world.plan.k s n)))
    (sym live) (put_there d.world.out (port_index d.world.plan.k s n) (Data id frame) within))

-- the frame that a switch got is where the switch put it
pub lands : (rule : SwitchRule) (w : WorldView) (s : ℕ) (input : SwitchInput) (id n : ℕ) (frame : List ℕ) (new : WorldView) (turn : SwitchTurn rule w s input (spoken_frame.Waiting id false) new)
    (frameless : List Act) → turn.acts ≡ frameless ++ act.Pass n frame ∷ [] → AreOfNoFrame frameless → is_failed_at w s n ≡ false → port_index w.plan.k s n < length w.out →
    IsAmong (Data id frame) (items_at new.out (port_index w.plan.k s n))
lands rule w s input id n frame new turn frameless acts all live within =
    let start : WorldView = record w { switches = set w.switches s turn.after } in
    let first = begins start (spoken_frame.Waiting id false) in
    let d = acts_done s first frameless in
    let goes : Goes w d.world = goes_then w start d.world (goes_views w (set w.switches s turn.after)) (goes_acts s first frameless) in
    let size : d.world.plan.k ≡ w.plan.k = ap (λ p. p.k) goes.plan in
    let there = pass_lands s d id false n frame (frameless_waits s first frameless all) (same_failed w d.world s n goes ∙ live)
    (subst (λ m. port_index d.world.plan.k s n < m) (sym goes.many) (subst (λ k. port_index k s n < length w.out) (sym size) within)) in
    let e = act_done s d (act.Pass n frame) in
    let last : acts_done s first turn.acts ≡ e = ap (acts_done s first) acts ∙ acts_append s first frameless (act.Pass n frame ∷ []) in
    let at : IsAmong (Data id frame) (items_at (acts_done s first turn.acts).world.out (port_index w.plan.k s n)) =
    subst (λ (x : DuringActs). IsAmong (Data id frame) (items_at x.world.out (port_index w.plan.k s n))) (sym last)
    (subst (λ k. IsAmong (Data id frame) (items_at e.world.out (port_index k s n))) size there) in
    subst (λ (v : WorldView). IsAmong (Data id frame) (items_at v.out (port_index w.plan.k s n))) (sym turn.changed)
    ((goes_behind s turn.before.place turn.after.place (acts_done s first turn.acts)).out (port_index w.plan.k s n) (Data id frame) at)
