-- What a switch tells a manager that begins anew, computed.
use Rattle.std.specs.Prelude.{◌≡◌, ℕ, true, false, List, [], ◌∷◌, ◌++◌, map, Option, Some, None, slice_set, refl}
use Rattle.pl_frame.specs.declared.address.Mac.{Mac}
use Rattle.pl_frame.specs.declared.address.SwitchId.{SwitchId}
use Rattle.pl_pmac.specs.declared.pmac.Pmac.{Pmac}
use Rattle.pl_layouts.specs.declared.place.Place.{Place}
use Rattle.pl_layouts.specs.Placement.{nowhere}
use Rattle.pl_node.specs.declared.acts.Act.TheVariants.{Tell}
use Rattle.pl_node.specs.declared.address_use.AddressUse.{AddressUse}
use Rattle.pl_node.specs.declared.address_use.AddressUse.TheVariants.{Free, InUse, Resting, Trapped}
use Rattle.pl_node.specs.declared.messages.ToManager.{ToManager}
use Rattle.pl_node.specs.declared.messages.ToManager.TheVariants as tell
use Rattle.pl_node.specs.declared.messages.ToSwitch.TheVariants.{Hello}
use Rattle.pl_node.specs.declared.neighbour.PortRecord.{PortRecord}
use Rattle.pl_node.specs.declared.switch_records.Grant.{Grant}
use Rattle.pl_node.specs.SwitchFacts.{switch_at_boot}
use Rattle.pl_node.specs.SwitchInputs.SwitchInput.{Says}
use Rattle.pl_node.specs.SwitchViews.{SwitchView}
use Rattle.pl_steps.specs.Steps.{SwitchStep}
use Rattle.pl_switch_rule.specs.Reporting.{report}
use Rattle.pl_switch_rule.specs.SwitchRule.{by_flow, switch_step}

abbrev the_switch : ℕ → SwitchId
the_switch n = record { 0 = n }

abbrev host : ℕ → Mac
host n = record { 0 = 2 ∷ 0 ∷ 0 ∷ 0 ∷ 0 ∷ n ∷ [] }

abbrev edge_place : Place
edge_place = record { level = Some 0; position = Some 0; pod = Some 1 }

-- one that knows nothing tells no more than its place
abbrev fresh : SwitchView
fresh = switch_at_boot (the_switch 7) 4

nothing_is_known_at_first : report fresh ≡ tell.Place nowhere ∷ []
nothing_is_known_at_first = refl

-- position 0 without a pod is a wish for one
a_wish_is_told_again : report (record fresh { place = record edge_place { pod = None } }) ≡ tell.Place (record edge_place { pod = None }) ∷ tell.PodWanted ∷ []
a_wish_is_told_again = refl

no_wish_where_the_pod_is_known : report (record fresh { place = edge_place }) ≡ tell.Place edge_place ∷ []
no_wish_where_the_pod_is_known = refl

-- an edge switch: at port 2 it hears switch 9, which hears it; at port 3 switch 11, which does not
abbrev hears : ℕ → Option SwitchId → PortRecord
hears n echo = record { host = false; heard = Some (record { id = the_switch n; place = nowhere; echo = echo }); silent = 0 }

abbrev held : ℕ → AddressUse → Grant
held n held_for = record { amac = host n; ip = Some (record { 0 = n }); held = held_for }

-- port 0 has an address in use, a trap and a free address; port 1 one that rests and one in use
abbrev edge : SwitchView
edge = record fresh {
  place = edge_place;
  ports = slice_set (slice_set fresh.ports 2 (hears 9 (Some (the_switch 7)))) 3 (hears 11 None);
  grants = (held 10 (InUse 4) ∷ held 11 (Trapped (record { new = record { pod = 0; position = 1; port = 0; vmid = 1 }; number = 5; ip = None }) 12) ∷ held 12 Free ∷ [])
      ∷ (held 13 (Resting 3) ∷ held 14 (InUse 0) ∷ []) ∷ [] ∷ [] ∷ [];
  members = record { group = 8; port = 0; amac = host 10 } ∷ record { group = 9; port = 0; amac = host 10 } ∷ record { group = 9; port = 1; amac = host 14 } ∷ [];
  avoid = (the_switch 3, 0, 0) ∷ [];
}

abbrev at_port : ℕ → ℕ → Pmac
at_port port vmid = record { pod = 1; position = 0; port = port; vmid = vmid }

-- its place, links, addresses in use, traps, addresses that rest, and groups; a free address is nobody's, and is not told of
abbrev all_of_it : List ToManager
all_of_it = tell.Place edge_place
    ∷ tell.Link (the_switch 9) true ∷ tell.Link (the_switch 11) false
    ∷ tell.Learned (at_port 0 1) (host 10) (Some (record { 0 = 10 })) ∷ tell.Learned (at_port 1 2) (host 14) (Some (record { 0 = 14 }))
    ∷ tell.Trapped (at_port 0 2) (record { pod = 0; position = 1; port = 0; vmid = 1 }) 5
    ∷ tell.Aged (at_port 1 1) 3
    ∷ tell.Members 8 true ∷ tell.Members 9 true ∷ []

all_is_told : report edge ≡ all_of_it
all_is_told = refl

abbrev greeted : SwitchStep
greeted = switch_step by_flow edge (Says (Hello 2))

between_begin_and_end : greeted.acts ≡ Tell (tell.Begin 2) ∷ map (λ word. Tell word) all_of_it ++ Tell (tell.End 2) ∷ []
between_begin_and_end = refl

-- its avoid list and its parts of trees were the old manager's; all else stays
only_the_managers_word_is_forgotten : greeted.view ≡ record edge { epoch = 2; avoid = [] }
only_the_managers_word_is_forgotten = refl
