use Rattle.std.proofs.Common.{◌≡◌, ◌<◌, ◌+◌, List, get_or, length, refl, sym, ap, ◌∙◌, subst, arith}
use Rattle.pl_journal.specs.declared.entry.Entry.{Entry}
use Rattle.pl_journal.specs.Text.{IsNamed}
use Rattle.pl_wiring.specs.Plan.{IsPlan, Plan}
use Rattle.pl_watch.specs.Seen.{Kept, WritesEntry}
use Rattle.pl_watch.proofs.Writing.{entry_is, entry_told, named_entry}
use Rattle.pl_watch.proofs.chronicle.Chronicle.tell_entries.Goals as goal

pub loop-n-init : goal.loop-n-init
loop-n-init g c = (sym c.entries-n.ensures, refl, c.requires)

pub tell_entry-requires-clause-named : goal.tell_entry-requires-clause-named
tell_entry-requires-clause-named g c =
    let same = c.as_slice-journal.ensures ∙ c.journal.ensures in
    let e = c.index-journal-n.result in
    subst (λ (p : Plan). IsNamed p e) (sym c.wiring-in-loop-n.ensures)
    (subst (λ (x : Entry). IsNamed c.args.world.now.plan x)
    (entry_is g.S.SwitchLogic.rule g.M.ManagerLogic.rule g.H.HostLogic.rule c.args.world.now.journal c.as_slice-journal.result.now c.loop-n.n e same c.index-journal-n.is)
    (named_entry g.S.SwitchLogic.rule g.M.ManagerLogic.rule g.H.HostLogic.rule c.loop-n.self c.args.world.now c.loop-n.n e
    (subst (λ (p : Plan). IsPlan p) c.wiring.ensures c.hosts-hosts.ensures.plan) c.every_entry_can_be_saved.ensures c.loop-n.invariant.2
    (subst (λ (es : List Entry). c.loop-n.n < length es) same c.loop-n-test.true)))

pub tell_entry-requires-clause-next : goal.tell_entry-requires-clause-next
tell_entry-requires-clause-next g c = ap (λ n. n + 1) (sym c.loop-n.invariant.0)

pub loop-n-preserved : goal.loop-n-preserved
loop-n-preserved g c =
    let same = c.as_slice-journal.ensures ∙ c.journal.ensures in
    let e = c.index-journal-n.result in (
      ap (λ (k : Kept). k.entries) c.tell_entry.ensures.kept ∙ ap (λ n. n + 1) c.loop-n.invariant.0,
      ap (λ (k : Kept). k.look) c.tell_entry.ensures.kept ∙ c.loop-n.invariant.1,
      entry_told g.S.SwitchLogic.rule g.M.ManagerLogic.rule g.H.HostLogic.rule c.loop-n.self c.tell_entry.new.self c.args.world.now e e
          (subst (λ n. n < length c.args.world.now.journal) (sym c.loop-n.invariant.0)
          (subst (λ (es : List Entry). c.loop-n.n < length es) same c.loop-n-test.true))
          (subst (λ n. get_or c.args.world.now.journal n e ≡ e) (sym c.loop-n.invariant.0)
          (entry_is g.S.SwitchLogic.rule g.M.ManagerLogic.rule g.H.HostLogic.rule c.args.world.now.journal c.as_slice-journal.result.now c.loop-n.n e same c.index-journal-n.is))
          c.loop-n.invariant.2
          (subst (λ (p : Plan). WritesEntry p e c.loop-n.self c.tell_entry.new.self) c.wiring-in-loop-n.ensures c.tell_entry.ensures),
    )

pub returns-clause-seen : goal.returns-clause-seen
returns-clause-seen g c = c.loop-n.invariant.2

pub returns-clause-all : goal.returns-clause-all
returns-clause-all g c =
    let at = c.loop-n.invariant.0 in
    let past = c.loop-n-test.false in
    let few = c.loop-n.invariant.2.entries in
    let same = ap (λ (es : List Entry). length es) (c.as_slice-journal.ensures ∙ c.journal.ensures) in
    omega (arith, at, past, few, same)

pub returns-clause-look : goal.returns-clause-look
returns-clause-look g c = c.loop-n.invariant.1
