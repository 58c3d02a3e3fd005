-- Ports of a switch: what is heard there, which are open to hosts, what is announced in which direction.
use Rattle.std.proofs.Common.{[], ap, arith, Bool, false, get_or, if◌then◌else◌, is_none, is_some, List, map, None, Option, refl, Some, suc, true, zero, ℕ, ◌&&◌, ◌<◌, ◌||◌, ◌∙◌, ◌∷◌, ◌≡◌}
use Rattle.std.proofs.Math.ListN.{get_or-map}
use Rattle.std.proofs.lemmas.Bool.{false≢true}
use Rattle.pl_layouts.specs.Placement.{is_known}
use Rattle.pl_node.specs.SwitchViews.{SwitchView}
use Rattle.pl_node.specs.Announcements.{direction_of}
use Rattle.pl_node.specs.PortRecords.{aged, is_open_to_hosts, new_port, place_at}
use Rattle.pl_node.specs.declared.neighbour.PortRecord.{PortRecord}
use Rattle.pl_node.specs.declared.neighbour.Neighbour.{Neighbour}

pub direction_low : (v : SwitchView) (port : ℕ) → direction_of v port < 3
direction_low v port =
    by (is_known v.place.level 0) (is_known v.place.level 2) (is_known v.place.level 1 && is_known (place_at v port).level 2)
    (is_known v.place.level 1 && is_known (place_at v port).level 0)
  where
    by : (a b c d : Bool) → (if a then 1 else if b then 2 else if c then 1 else if d then 2 else 0) < 3
    by true b c d = omega arith
    by false true c d = omega arith
    by false false true d = omega arith
    by false false false true = omega arith
    by false false false false = omega arith

pub aged_at : (records : List PortRecord) (port : ℕ) → get_or (map aged records) port new_port ≡ aged (get_or records port new_port)
aged_at records port = get_or-map aged records port new_port

pub heard_aged : (ports : List PortRecord) (n : ℕ) → (get_or (map aged ports) n new_port).heard ≡ (get_or ports n new_port).heard
heard_aged [] n = refl
heard_aged (r ∷ ports) zero = refl
heard_aged (r ∷ ports) (suc n) = heard_aged ports n

pub closed_by : (r : PortRecord) → r.host ≡ false → is_some r.heard ≡ true → is_open_to_hosts r ≡ false
closed_by r no_host heard = ap (λ b. b || is_none r.heard) no_host ∙ by_option r.heard heard
  where
    by_option : (o : Option Neighbour) → is_some o ≡ true → is_none o ≡ false
    by_option None is = absurd (false≢true is)
    by_option (Some n) is = refl
