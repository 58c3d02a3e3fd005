use Rattle.std.proofs.Common.{◌<◌, ◌+◌, length, subst, sym}
use Rattle.pl_node.specs.ManagerViews.{Told, switches}
use Rattle.pl_registry.specs.Askers.{pod_holders}
use Rattle.pl_manager.proofs.Treated.{address_told, aged_told, link_told, members_told, passed_over, place_told, pod_told, question_told, trap_told}
use Rattle.pl_manager.proofs.Pods.{few_heard}
use Rattle.pl_manager.proofs.known.Known.treat.Goals as goal

pub give_pod-requires : goal.give_pod-requires
give_pod-requires c =
    subst (λ (told : Told). length (switches told) + length (pod_holders c.args.self.now.askers) < 65535) (sym c.reports.ensures)
    (few_heard c.args.self.now _ c.requires)

pub returns-in-Place-clause-treated : goal.returns-in-Place-clause-treated
returns-in-Place-clause-treated c =
    place_told c.set_place.result c.args.self.now c.args.epoch c.args.switch c.args.word.now c.args.aged.now.items c.args.out.now c.set_place.new.out
    c.in-Place.place c.set_place.new.self c.in-Place.is c.set_place.ensures.after c.set_place.ensures.acts

pub returns-in-Link-clause-treated : goal.returns-in-Link-clause-treated
returns-in-Link-clause-treated c =
    link_told c.report.result c.args.self.now c.args.epoch c.args.switch c.args.word.now c.args.aged.now.items c.args.out.now c.report.new.out
    c.in-Link.neighbour c.in-Link.usable c.report.new.self c.in-Link.is c.report.ensures.after c.report.ensures.acts

pub returns-in-PodWanted-clause-treated : goal.returns-in-PodWanted-clause-treated
returns-in-PodWanted-clause-treated c =
    pod_told c.give_pod.result c.args.self.now c.args.epoch c.args.switch c.args.word.now c.args.aged.now.items c.args.out.now c.give_pod.new.out
    c.reports.result.now c.give_pod.new.askers c.in-PodWanted.is c.reports.ensures c.give_pod.ensures.askers c.give_pod.ensures.acts

pub returns-in-Learned-clause-treated : goal.returns-in-Learned-clause-treated
returns-in-Learned-clause-treated c =
    address_told c.learn.result c.args.self.now c.args.epoch c.args.switch c.args.word.now c.args.aged.now.items c.args.out.now c.learn.new.out
    c.in-Learned.pmac c.in-Learned.amac c.in-Learned.ip c.learn.new.registry c.in-Learned.is c.learn.ensures.learnt c.learn.ensures.acts

pub returns-in-Aged-clause-treated : goal.returns-in-Aged-clause-treated
returns-in-Aged-clause-treated c =
    aged_told c.note_aged.result c.args.self.now c.args.epoch c.args.switch c.args.word.now c.args.aged.now.items c.args.out.now
    c.in-Aged.pmac c.in-Aged.number c.note_aged.new.registry c.note_aged.new.aged.items c.in-Aged.is c.note_aged.ensures.learnt c.note_aged.ensures.aged

pub returns-in-Trapped-clause-treated : goal.returns-in-Trapped-clause-treated
returns-in-Trapped-clause-treated c =
    trap_told c.note_trap.result c.args.self.now c.args.epoch c.args.switch c.args.word.now c.args.aged.now.items c.args.out.now
    c.in-Trapped.old c.in-Trapped.new c.in-Trapped.number c.note_trap.new.self c.in-Trapped.is c.note_trap.ensures

pub returns-in-Begin-clause-treated : goal.returns-in-Begin-clause-treated
returns-in-Begin-clause-treated c = λ v first. passed_over _ c.args.aged.now.items c.args.out.now c.args.switch c.args.word.now c.in-Begin.is

pub returns-in-Query-clause-treated : goal.returns-in-Query-clause-treated
returns-in-Query-clause-treated c =
    question_told c.answer.result c.args.self.now c.args.epoch c.args.switch c.args.word.now c.args.aged.now.items c.args.out.now c.answer.new.out
    c.in-Query.asker c.in-Query.asker_ip c.in-Query.ip c.in-Query.is c.answer.ensures

pub returns-in-Members-clause-treated : goal.returns-in-Members-clause-treated
returns-in-Members-clause-treated c =
    members_told c.set_members.result c.args.self.now c.args.epoch c.args.switch c.args.word.now c.args.aged.now.items c.args.out.now c.set_members.new.out
    c.in-Members.group c.in-Members.any c.set_members.new.self c.in-Members.is c.set_members.ensures.after c.set_members.ensures.acts
