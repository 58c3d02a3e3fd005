use Rattle.std.proofs.Common.{◌∙◌, sym, ap, subst, refl}
use Rattle.std.specs.List.{fold}
use Rattle.pl_frame.specs.Ethernet.{Fields, source_of}
use Rattle.pl_multicast.specs.Changes.{changes_left}
use Rattle.pl_switch_rule.specs.Intake.{changes_member}
use Rattle.pl_edge.specs.Told.{AreChangesNoted}
use Rattle.pl_edge.proofs.Noting.{noted_none, noted_step}
use Rattle.pl_edge.proofs.membership.change_all.Goals as goal

pub returns-in_default-clause-changed : goal.returns-in_default-clause-changed
returns-in_default-clause-changed c =
    ap (λ changes. fold (changes_member c.args.port (source_of c.args.frame.now)) c.args.members.now changes) (sym (c.in_default.ensures.changes c.args.frame.now c.view_of-view.ensures))

pub returns-in_default-clause-noted : goal.returns-in_default-clause-noted
returns-in_default-clause-noted c = subst (AreChangesNoted c.args.members.now c.args.members.now) (sym c.requires.none) (noted_none c.args.members.now)

pub loop-change-init : goal.loop-change-init
loop-change-init c = record {
  changed = refl;
  noted = subst (AreChangesNoted c.args.members.now c.args.members.now) (sym c.requires.none) (noted_none c.args.members.now);
}

pub loop-change-preserved : goal.loop-change-preserved
loop-change-preserved c =
    let change = c.in-Some-change.change in
    let port = c.args.port in
    let now = c.loop-change.members in
    let changed = c.in_ok-change_one.ensures ∙ ap (λ amac. changes_member port amac now change) (ap (λ (f : Fields). f.src) c.view_of-view.ensures) in
    record {
      changed =
          ap (λ ms. fold (changes_member port (source_of c.args.frame.now)) ms (changes_left c.next.new.self)) changed
          ∙ ap (λ changes. fold (changes_member port (source_of c.args.frame.now)) now changes) (sym c.in-Some-change.ensures.steps)
          ∙ c.loop-change.invariant.changed;
      noted =
          noted_step c.args.members.now now c.change_one.new.members c.loop-change.before c.note.new.self port (source_of c.args.frame.now) change c.group_number.result
          c.loop-change.invariant.noted c.group_number.ensures c.in_ok-note.ensures changed;
    }

pub returns-clause-changed : goal.returns-clause-changed
returns-clause-changed c =
    ap (λ changes. fold (changes_member c.args.port (source_of c.args.frame.now)) c.loop-change.members changes) (sym c.in-None.ensures.steps.0)
    ∙ c.loop-change.invariant.changed
    ∙ ap (λ changes. fold (changes_member c.args.port (source_of c.args.frame.now)) c.args.members.now (changes_left changes)) c.into_iter-change-iterator.ensures.into_iter_gives
    ∙ ap (λ changes. fold (changes_member c.args.port (source_of c.args.frame.now)) c.args.members.now changes) (c.in-Some.ensures.changes c.args.frame.now c.view_of-view.ensures)

pub returns-clause-noted : goal.returns-clause-noted
returns-clause-noted c = c.loop-change.invariant.noted
