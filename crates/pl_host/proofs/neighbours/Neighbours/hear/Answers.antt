use Rattle.std.proofs.Common.{◌∙◌, List, ℕ, map, sym, ap, not, is_some}
use Rattle.pl_frame.specs.Ethernet.{with_destination}
use Rattle.pl_node.specs.HostViews.{HeldFrames}
use Rattle.pl_host.specs.Waiting.{are_unknown}
use Rattle.pl_host.proofs.Releasing.{released_by-heard, released_by-unknown, still_held-heard, still_held-unknown, unknown-still_held, unknown-unheard}
use Rattle.pl_host.proofs.neighbours.Neighbours.hear.Goals as goal

pub invariant_of-self-then-is_none : goal.invariant_of-self-then-is_none
invariant_of-self-then-is_none c = record {
  unknown =
      unknown-unheard c.args.self.now.cache c.receive.new.self c.args.me c.args.arp.now c.args.self.now.waiting c.in_ok-answer.ensures.table
      (ap is_some (sym c.get.ensures) ∙ c.is_none.ensures ∙ ap not c.if-is_none.true) c.args.self.now.unknown;
}

pub returns-then-is_none-clause-released : goal.returns-then-is_none-clause-released
returns-then-is_none-clause-released c =
    let unknown =
    unknown-unheard c.args.self.now.cache c.receive.new.self c.args.me c.args.arp.now c.args.self.now.waiting c.in_ok-answer.ensures.table
    (ap is_some (sym c.get.ensures) ∙ c.is_none.ensures ∙ ap not c.if-is_none.true) c.args.self.now.unknown in
    ap (λ (frames : List (List ℕ)). map (λ frame. with_destination frame c.args.arp.now.sha) frames) c.new-frames.ensures
    ∙ sym (released_by-unknown c.receive.new.self c.args.self.now.waiting unknown)

pub returns-then-is_none-clause-waiting : goal.returns-then-is_none-clause-waiting
returns-then-is_none-clause-waiting c =
    let unknown =
    unknown-unheard c.args.self.now.cache c.receive.new.self c.args.me c.args.arp.now c.args.self.now.waiting c.in_ok-answer.ensures.table
    (ap is_some (sym c.get.ensures) ∙ c.is_none.ensures ∙ ap not c.if-is_none.true) c.args.self.now.unknown in
    sym (still_held-unknown c.receive.new.self c.args.self.now.waiting unknown)

pub invariant_of-self-2 : goal.invariant_of-self-2
invariant_of-self-2 c = record {
  unknown =
      let still =
      still_held-heard c.args.self.now.cache c.receive.new.self c.args.me c.args.arp.now c.args.self.now.waiting c.in_ok-answer.ensures.table
      (ap is_some (sym c.get.ensures) ∙ c.is_none.ensures ∙ ap not c.if-is_none.false) c.take-frames.ensures.rising c.args.self.now.unknown in
      ap (λ (held : HeldFrames). are_unknown c.receive.new.self held) (c.take-frames.ensures.rest ∙ sym still)
      ∙ unknown-still_held c.receive.new.self c.args.self.now.waiting;
}

pub returns-clause-released : goal.returns-clause-released
returns-clause-released c =
    ap (λ (frames : List (List ℕ)). map (λ frame. with_destination frame c.args.arp.now.sha) frames) c.take-frames.ensures.frames
    ∙ sym (released_by-heard c.args.self.now.cache c.receive.new.self c.args.me c.args.arp.now c.args.self.now.waiting c.in_ok-answer.ensures.table
    (ap is_some (sym c.get.ensures) ∙ c.is_none.ensures ∙ ap not c.if-is_none.false) c.take-frames.ensures.rising c.args.self.now.unknown)

pub returns-clause-waiting : goal.returns-clause-waiting
returns-clause-waiting c =
    c.take-frames.ensures.rest
    ∙ sym (still_held-heard c.args.self.now.cache c.receive.new.self c.args.me c.args.arp.now c.args.self.now.waiting c.in_ok-answer.ensures.table
    (ap is_some (sym c.get.ensures) ∙ c.is_none.ensures ∙ ap not c.if-is_none.false) c.take-frames.ensures.rising c.args.self.now.unknown)
