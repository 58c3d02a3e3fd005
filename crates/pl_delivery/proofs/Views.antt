-- A switch that knows nothing, where what is said of all switches is to be used.
use Rattle.std.proofs.Common.{[], Some}
use Rattle.pl_node.specs.SwitchViews.{SwitchView}

abbrev pub any_view : SwitchView
any_view = record {
  id = record { 0 = 0 };
  k = 0;
  place = record { level = Some 0; position = Some 0; pod = Some 0 };
  ports = [];
  attempt = 0;
  proposed = 0;
  granted = [];
  holds = [];
  grants = [];
  used = [];
  trapped = [];
  freed = [];
  remembered = [];
  members = [];
  avoid = [];
  parts = [];
  epoch = 0;
}
