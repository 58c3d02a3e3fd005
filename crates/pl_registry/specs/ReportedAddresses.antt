-- What a report alone tells of addresses, as it is kept.
use Rattle.std.specs.Prelude.{List, map}
use Rattle.std.specs.Option.{option_map}
use Rattle.pl_pmac.specs.declared.pmac.Pmac.{Pmac}
use Rattle.pl_node.specs.ManagerViews as manager
use Rattle.pl_registry.specs.declared.addresses.Known.{Known}
use Rattle.pl_registry.specs.declared.reported_addresses.Reported.{Reported}
use Rattle.pl_registry.specs.Addresses.{recall_of}

-- an address with what is told of it
abbrev pub reported_at : Pmac → Reported → manager.Reported
reported_at pmac r = record { switch = r.switch; pmac = pmac; recall = option_map recall_of r.recall; aged = r.aged }

abbrev pub all_reported : List (Pmac × Reported) → List manager.Reported
all_reported entries = map (λ e. reported_at e.0 e.1) entries

-- a registered address, as a report would tell it
abbrev pub registered_report : Known → Reported
registered_report known = record { switch = known.switch; recall = known.recall; aged = known.aged }
