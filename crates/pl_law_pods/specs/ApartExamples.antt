-- Why a manager that begins anew treats wishes for pods behind the places of all switches: a switch knows number 0, and another one asks.
use Rattle.std.specs.Prelude.{◌≡◌, [], ◌∷◌, Some, refl}
use Rattle.pl_frame.specs.declared.address.SwitchId.{SwitchId}
use Rattle.pl_node.specs.ManagerViews.{Told}
use Rattle.pl_manager_rule.specs.ManagerRule.{with_asker}

abbrev knower : SwitchId
knower = record { 0 = 1 }

abbrev asker : SwitchId
asker = record { 0 = 2 }

abbrev nothing_told : Told
nothing_told = record { places = []; links = [] }

abbrev place_told : Told
place_told = record { places = (knower, record { level = Some 0; position = Some 0; pod = Some 0 }) ∷ []; links = [] }

-- where its place was told, the next number is free
told_before : with_asker place_told [] asker ≡ record { switch = asker; pod = 1 } ∷ []
told_before = refl

-- else its number is given again
told_behind : with_asker nothing_told [] asker ≡ record { switch = asker; pod = 0 } ∷ []
told_behind = refl
