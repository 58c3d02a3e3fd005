use Rattle.std.proofs.Common.{◌*◌, refl, ◌∙◌, ap, subst}
use Rattle.pl_shelf.specs.MemoryShelf.{held_in}
use Rattle.pl_generator.specs.Captures.{AreDrawnCaptures}
use Rattle.pl_generator.specs.Drawing.{frames_of}
use Rattle.pl_generator.specs.Generated.{AreHeld, script_name, topology_name}
use Rattle.pl_generator.specs.ScriptText.{script_lines, script_text}
use Rattle.pl_generator.specs.TopologyText.{topology_text}
use Rattle.pl_generator.proofs.Held.{all_held, nothing_first, placed_as, script_is}
use Rattle.pl_generator.proofs.shelf.generate.Goals as goal

pub returns-clause-generated : goal.returns-clause-generated
returns-clause-generated c =
    let k = c.args.k in
    let number = c.args.number in
    let frames = c.args.frames in
    let drawing = c.in_ok-drawing.drawing in
    let drawn = c.in_ok-drawing.ensures.frames ∙ ap (λ hosts. frames_of hosts number frames) c.host_count-hosts.ensures in
    let script = c.as_bytes-2.ensures.value ∙ c.in_ok-script.ensures
    ∙ ap (λ fs. script_lines fs drawing.last (10 * frames)) c.deref.ensures.value
    ∙ script_is k number frames drawing.frames.items drawing.last drawn c.in_ok-drawing.ensures.last in
    let recorded = subst (λ fs. AreDrawnCaptures c.host_count-hosts.result fs c.in_ok-captures.captures.items) c.deref-2.ensures.value c.in_ok-captures.ensures in
    all_held k number frames _ _ _ (held_in c.hold_captures.new.shelf.places) c.in_ok-captures.captures.items drawing.frames.items
    (nothing_first c.new-shelf.result _ c.new-shelf.ensures)
    (placed_as _ _ topology_name (topology_text k) _ _ refl (c.as_bytes.ensures.value ∙ c.in_ok-topology.ensures) c.in_ok-hold.ensures.ok)
    (placed_as _ _ script_name (script_text k number frames) _ _ refl script c.in_ok-hold-2.ensures.ok)
    (subst (AreHeld _ _) c.deref-3.ensures.value c.in_ok-hold_captures.ensures.held)
    drawn
    (subst (λ hosts. AreDrawnCaptures hosts drawing.frames.items c.in_ok-captures.captures.items) c.host_count-hosts.ensures recorded)
