use Rattle.std.proofs.Common.{◌≡◌, ◌∙◌, ◌^◌, ℕ, map, sym, subst, take, arith}
use Rattle.std.specs.List.{flat_map}
use Rattle.std.proofs.lemmas.Option.{slice_get-map}
use Rattle.pl_node.specs.declared.messages.TreePart.{TreePart}
use Rattle.pl_watch.specs.News.{part_ends}
use Rattle.pl_log_lines.specs.Telling.{Tells, node_in}
use Rattle.pl_watch.proofs.Learning.{tells_all, tells_taken}
use Rattle.pl_log_lines.proofs.Exports.{tells_nothing}
use Rattle.pl_watch.proofs.news.Change.tell_ends.Goals as goal

pub loop-n-init : goal.loop-n-init
loop-n-init g c = tells_nothing c.args.page.now c.args.told.now

pub loop-n-preserved : goal.loop-n-preserved
loop-n-preserved g c =
    tells_taken c.args.page.now c.loop-n.page c.tell_end.new.page c.args.told.now c.loop-n.told c.tell_end.new.told (λ node. part_ends c.args.index.now node (g.S.SwitchFacts.view c.args.self.now.before.now) (g.S.SwitchFacts.view c.args.self.now.after.now))
    (map (λ (part : ℕ × TreePart). part.0) (g.S.SwitchFacts.view c.args.self.now.before.now).parts) c.loop-n.n c.in-Some.group (slice_get-map (λ (part : ℕ × TreePart). part.0) (g.S.SwitchFacts.view c.args.self.now.before.now).parts c.loop-n.n ∙ sym c.group.ensures ∙ c.in-Some.is)
    c.loop-n.invariant c.tell_end.ensures

pub returns-in_default : goal.returns-in_default
returns-in_default g c =
    tells_all c.args.page.now c.loop-n.page c.args.told.now c.loop-n.told (part_ends c.args.index.now (node_in c.args.told.now) (g.S.SwitchFacts.view c.args.self.now.before.now) (g.S.SwitchFacts.view c.args.self.now.after.now))
    (map (λ (part : ℕ × TreePart). part.0) (g.S.SwitchFacts.view c.args.self.now.before.now).parts) c.loop-n.n (2 ^ 32) (slice_get-map (λ (part : ℕ × TreePart). part.0) (g.S.SwitchFacts.view c.args.self.now.before.now).parts c.loop-n.n ∙ sym c.group.ensures ∙ c.in_default.is) (omega arith) c.loop-n.invariant

pub returns : goal.returns
returns g c =
    let past : c.loop-n.n ≡ 4294967296 = omega arith in
    subst (λ n. Tells c.args.page.now c.loop-n.page c.args.told.now c.loop-n.told (flat_map (part_ends c.args.index.now (node_in c.args.told.now) (g.S.SwitchFacts.view c.args.self.now.before.now) (g.S.SwitchFacts.view c.args.self.now.after.now)) (take n (map (λ (part : ℕ × TreePart). part.0) (g.S.SwitchFacts.view c.args.self.now.before.now).parts)))) past c.loop-n.invariant
