-- Where the queues are settled no report and no order waits.
use Rattle.pl_lemmas.proofs.Exports.{all_contained}
use Rattle.pl_queues.specs.Queues.{items_at}
use Rattle.pl_wiring.specs.Plan.{IsPlan}
use Rattle.pl_world.specs.SettledQueues.{HasSettledQueues}
use Rattle.pl_world.specs.Worlds.{WorldView}
use Rattle.pl_law_control_plane.specs.ControlPlanes.{control_plane}
use Rattle.pl_law_due.specs.Due.{due_plane}
use Rattle.pl_law_due.specs.Gathering.{GathersWell, IsNoEnd}
use Rattle.pl_law_records.specs.Records.{AreCurrent, HaveOrders, HaveReported, HaveToldLinks, NoReportWaits, LinksAreCurrent}
use Rattle.pl_law_records.specs.Words.{IsNoOrder, IsNoReport}
use Rattle.pl_law_records.proofs.Exports.{current_at_rest, links_at_rest, question_ends_none, question_reports_nothing, reply_orders_nothing}

pub rests : (w : WorldView) → HasSettledQueues w → NoReportWaits (control_plane w)
rests w queues = record {
  reports = λ s. all_contained IsNoReport (items_at w.to_manager s) (λ told there. question_reports_nothing told (queues.to_manager s told there));
  ends = λ s. all_contained IsNoEnd (items_at w.to_manager s) (λ told there. question_ends_none told (queues.to_manager s told there));
  orders = λ s. all_contained IsNoOrder (items_at w.from_manager s) (λ says there. reply_orders_nothing says (queues.from_manager s says there));
}

pub are_current : (w : WorldView) → IsPlan w.plan → GathersWell (control_plane w) → HaveReported (due_plane (control_plane w)) → HaveOrders (control_plane w) → HasSettledQueues w →
    AreCurrent (control_plane w)
are_current w is well reported ordered queues = current_at_rest (control_plane w) is well reported ordered (rests w queues)

pub links_current : (w : WorldView) → IsPlan w.plan → GathersWell (control_plane w) → HaveToldLinks (due_plane (control_plane w)) → HasSettledQueues w → LinksAreCurrent (control_plane w)
links_current w is well told queues = links_at_rest (control_plane w) is well told (rests w queues)
