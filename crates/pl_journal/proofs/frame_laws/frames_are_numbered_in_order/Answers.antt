use Rattle.pl_journal.proofs.Numbered.{begun_within, ids_in_order, root_is_begun, within_begun}
use Rattle.pl_journal.proofs.frame_laws.frames_are_numbered_in_order.Goals as goal

pub returns : goal.returns
returns c = record {
  in_order = ids_in_order;
  begun = λ plan past id run. (begun_within plan past id run, λ within. within_begun plan past id run within.0 within.1);
  root = root_is_begun;
}
