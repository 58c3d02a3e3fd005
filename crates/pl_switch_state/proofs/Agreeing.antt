-- What is known of an edge switch, and of what a call answers.
use Rattle.std.proofs.Common.{◌≡◌, true, Option, Some, None, Result, Ok, Err, sym}
use Rattle.std.proofs.lemmas.Bool.{and_from, both_ways, false_from_ne_true}
use Rattle.std.specs.Prelude.{OnErr}
use Rattle.pl_layouts.specs.declared.place.Place.{Place}
use Rattle.pl_layouts.specs.Placement.{is_known, is_placed}
use Rattle.pl_migrate.specs.AddressTables.{AddressTableView}
use Rattle.pl_edge.specs.EdgeViews.{MayBeAt}
use Rattle.pl_switch_state.specs.StateViews.{is_placed_edge, HasAddressTableAt}

-- an edge switch without an address table is not placed
pub may_be : (address_table : Option AddressTableView) (place : Place) → HasAddressTableAt address_table place → is_known place.level 0 ≡ true → MayBeAt address_table place
may_be None place h edge = false_from_ne_true (is_placed place) (λ placed.
    both_ways (is_placed_edge place) (sym h.booked) (and_from (is_known place.level 0) (is_placed place) edge placed))
may_be (Some address_table) place h edge = tt

-- what holds in any case holds without memory
pub on_err : {T E : Type 0} {P : Type 0} (result : Result T E) → P → OnErr result P
on_err (Err e) p = p
on_err (Ok x) p = tt
