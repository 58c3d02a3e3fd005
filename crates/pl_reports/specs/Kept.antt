-- What is kept beside the reports of the switches.
use Rattle.std.specs.Prelude.{◌≡◌, ◌⊎◌, ℕ, ◌&&◌, not, Bool, false, List, [], Some, if◌then◌else◌, map, slice_get, slice_set, unwrap_or}
use Rattle.std.specs.List.{filter, list_any}
use Rattle.std.specs.BTreeMap.{is_at}
use Rattle.std.specs.BTreeSet.{insert_key}
use Rattle.pl_frame.specs.declared.address.SwitchId.{SwitchId}
use Rattle.pl_layouts.specs.Equality.{same_switch}
use Rattle.pl_layouts.specs.Placement.{nowhere}
use Rattle.pl_node.specs.ManagerViews.{Told, alive_neighbours, id_cmp, link_cmp, neighbours, place_of, placed_edges, switches, value_at}
use Rattle.pl_reports.specs.declared.switch_report.SwitchReport.{SwitchReport}

-- no switch told anything
abbrev pub nothing_told : Told
nothing_told = record { places = []; links = [] }

-- a switch told a place or a link
abbrev pub has_told : Told → SwitchId → Bool
has_told told s = list_any (is_at (id_cmp s)) (switches told)

-- the neighbours of a switch in a table of them
abbrev pub near_of : List (SwitchId × List SwitchId) → SwitchId → List SwitchId
near_of near s = unwrap_or (value_at id_cmp near s) []

-- the neighbours of t once a switch told of one more
abbrev pub with_neighbour : List (SwitchId × List SwitchId) → SwitchId → SwitchId → SwitchId → List SwitchId
with_neighbour near s u t = if is_at (id_cmp s) t then insert_key id_cmp (near_of near s) u else near_of near t

-- whether a switch told that its link to a neighbour is usable, by what was told of links
abbrev pub usable_in : List ((SwitchId × SwitchId) × Bool) → SwitchId → SwitchId → Bool
usable_in links s u = unwrap_or (value_at link_cmp links (s, u)) false

-- whether both ends told that their link is usable
abbrev pub is_living : List ((SwitchId × SwitchId) × Bool) → SwitchId → SwitchId → Bool
is_living links a b = usable_in links a b && usable_in links b a

-- what a switch told of itself
abbrev pub report_of : Told → SwitchId → SwitchReport
report_of told s = record { place = place_of told s; neighbours = neighbours told s; alive = alive_neighbours told s }

-- one that told nothing
abbrev pub no_report : SwitchReport
no_report = record { place = nowhere; neighbours = []; alive = [] }

-- what is known of each of some switches is what is known of each once one more is among them, of which nothing was known before
abbrev pub Enters : List SwitchId → List SwitchReport → SwitchId → List SwitchId → List SwitchReport → Type 0
Enters olds old s news new =
    (f : SwitchId → SwitchReport) → (list_any (is_at (id_cmp s)) olds ≡ false → f s ≡ no_report) → old ≡ map f olds → new ≡ map f news

-- of one of the switches is put down anew which neighbours are over links that are alive
abbrev pub RenewedAt : List ((SwitchId × SwitchId) × Bool) → List SwitchReport → ℕ → SwitchId → List SwitchReport → Type 0
RenewedAt links old at s new =
    (report : SwitchReport) → slice_get old at ≡ Some report → new ≡ slice_set old at (record report { alive = filter (is_living links s) report.neighbours })

-- the same of a switch that may have told nothing
abbrev pub RenewedBeside : List ((SwitchId × SwitchId) × Bool) → List SwitchId → List SwitchReport → SwitchId → List SwitchReport → Type 0
RenewedBeside links speakers old s new =
    ((at : ℕ) × (slice_get speakers at ≡ Some s) × RenewedAt links old at s new) ⊎ ((list_any (is_at (id_cmp s)) speakers ≡ false) × (new ≡ old))

-- a list of placed edge switches, once a switch told whether it is one
abbrev pub with_edge : List SwitchId → SwitchId → Bool → List SwitchId
with_edge edges s is_one = if is_one then insert_key id_cmp edges s else filter (λ t. not (same_switch t s)) edges

-- the switches that told something, the placed edge switches, and what each of the former told of itself
pub record IsKeptFor (told : Told) (speakers placed : List SwitchId) (all : List SwitchReport) : Type 0 where
  pub tellers : speakers ≡ switches told
  pub edges : placed ≡ map (λ e. e.switch) (placed_edges told)
  pub each : all ≡ map (report_of told) (switches told)
