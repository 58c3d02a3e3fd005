use Rattle.pl_past.proofs.Frames.{others_stay, when_it_arrives, when_it_crosses, when_it_is_copied, when_it_is_dropped, when_it_is_made, when_it_is_redirected, when_it_is_sent, when_it_is_taken, when_its_edge_grants}
use Rattle.pl_past.proofs.laws.what_is_kept_of_a_frame_changes_by_its_own_entries.Goals as goal

pub returns : goal.returns
returns c = record {
  sent = when_it_is_sent;
  made = when_it_is_made;
  copied = when_it_is_copied;
  crossed = when_it_crosses;
  granted = when_its_edge_grants;
  redirected = when_it_is_redirected;
  arrived = when_it_arrives;
  taken = when_it_is_taken;
  dropped = when_it_is_dropped;
  others = others_stay;
}
