use Rattle.std.proofs.Common.{◌≡◌, ◌∙◌, ap, arith, subst, sym}
use Rattle.pl_shelf.specs.Held.{ShelfMoment, standard_output}
use Rattle.pl_output.specs.Room.{HaveRoom}
use Rattle.pl_output.specs.Saved.{AreSaved, BreaksOff, Saving}
use Rattle.pl_playing.specs.Plays.{played_over, printed_by, summary_by}
use Rattle.pl_playing.proofs.Playing.{one}
use Rattle.pl_playing.proofs.printing.print_played.Goals as goal

pub returns-in-Ok-clause-ends : goal.returns-in-Ok-clause-ends
returns-in-Ok-clause-ends g c =
    let D = g.D.Shelf in
    let old : ShelfMoment = D.moment c.args.shelf.now in
    let new : ShelfMoment = D.moment c.print.new.shelf in
    let text : c.deref.result.now ≡ summary_by (played_over c.args.network.now c.args.captures.now) c.args.is_settled = c.deref.ensures ∙ c.in_ok-summary.ensures in
    let are : one c.in_ok-output.output c.deref.result.now ≡ printed_by (played_over c.args.network.now c.args.captures.now) c.args.is_settled =
    ap (λ n. one n c.deref.result.now) c.in_ok-output.ensures ∙ ap (λ t. one standard_output t) text in
    record {
      saved = subst (λ s. AreSaved old.held new.held s) are c.in-Ok.ensures.ok;
      reads = c.in-Ok.ensures.faults.other;
      writes = c.in-Ok.ensures.faults.ok;
    }

pub returns-clause-ends : goal.returns-clause-ends
returns-clause-ends g c =
    let D = g.D.Shelf in
    let old : ShelfMoment = D.moment c.args.shelf.now in
    let new : ShelfMoment = D.moment c.print.new.shelf in
    let text : c.deref.result.now ≡ summary_by (played_over c.args.network.now c.args.captures.now) c.args.is_settled = c.deref.ensures ∙ c.in_ok-summary.ensures in
    let are : one c.in_ok-output.output c.deref.result.now ≡ printed_by (played_over c.args.network.now c.args.captures.now) c.args.is_settled =
    ap (λ n. one n c.deref.result.now) c.in_ok-output.ensures ∙ ap (λ t. one standard_output t) text in
    record {
      saved = subst (λ s. BreaksOff old.held new.held s c.in-Err.name) are c.in-Err.ensures.err;
      reads = c.in-Err.ensures.faults.other;
      grows = c.in-Err.ensures.faults.grows;
      rose = c.in-Err.ensures.faults.err;
    }

pub returns-clause-prepared : goal.returns-clause-prepared
returns-clause-prepared g c room =
    let D = g.D.Shelf in
    let text : c.deref.result.now ≡ summary_by (played_over c.args.network.now c.args.captures.now) c.args.is_settled = c.deref.ensures ∙ c.in_ok-summary.ensures in
    let are : one c.in_ok-output.output c.deref.result.now ≡ printed_by (played_over c.args.network.now c.args.captures.now) c.args.is_settled =
    ap (λ n. one n c.deref.result.now) c.in_ok-output.ensures ∙ ap (λ t. one standard_output t) text in
    let first : Saving = record { name = c.in_ok-output.output; text = c.deref.result.now } in
    let fits : HaveRoom (D.capacity c.args.shelf.now) (D.moment c.args.shelf.now).held (one c.in_ok-output.output c.deref.result.now) =
    subst (λ s. HaveRoom (D.capacity c.args.shelf.now) (D.moment c.args.shelf.now).held s) (sym are) room in
    c.in-Err.ensures.unfit (fits 0 first (omega arith))
