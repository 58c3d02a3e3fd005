use Rattle.std.proofs.Common.{◌≡◌, ◌∙◌, false, sym, ap, subst}
use Rattle.pl_lemmas.proofs.Exports.{false_before}
use Rattle.pl_frame.specs.declared.address.SwitchId.{SwitchId}
use Rattle.pl_faults.specs.Listed.{is_in, with_all}
use Rattle.pl_faults.specs.Missed.{AreMissesRenewed}
use Rattle.pl_faults.specs.Rows.{IsReachRenewed}
use Rattle.pl_faults.proofs.Gathered.{in_all_before, in_all_new}
use Rattle.pl_faults.proofs.Missing.{misses_near}
use Rattle.pl_faults.proofs.leading.renew_beside.Goals as goal

pub returns : goal.returns
returns c told word places was missed_before =
    let after = c.args.reports.now in let edges = c.args.edges.now in let moved = c.args.moved.now in
    let old = c.args.reach.now in let new = c.renew_reach.new.reach in let some = c.in_ok-near.near in let near = c.put_all.new.list in
    let missed = c.args.misses.now.entries in let fresh = c.renew_misses.new.misses.entries in let turned = c.in_ok-turned.turned in
    let r : IsReachRenewed after edges old new some = c.in_ok-near.ensures told word was in
    let more : (t : SwitchId) → is_in near t ≡ false → is_in (with_all some moved) t ≡ false =
    λ t out. ap (λ xs. is_in xs t) (sym c.in_ok-put_all.ensures) ∙ out in
    let anew : AreMissesRenewed after edges near missed fresh turned =
    subst (λ xs. AreMissesRenewed after edges xs missed fresh turned) c.as_slice.ensures.items (c.in_ok-turned.ensures r.reach) in
    record {
      reach = r.reach;
      missed_are = misses_near told after edges old new was r.reach missed fresh near
          (λ t out. places t (false_before (is_in moved t) (is_in (with_all some moved) t) (in_all_new t some moved) (more t out)))
          (λ t out. r.same t (false_before (is_in some t) (is_in (with_all some moved) t) (in_all_before t some moved) (more t out))) missed_before anew.now;
      same = anew.same;
    }
