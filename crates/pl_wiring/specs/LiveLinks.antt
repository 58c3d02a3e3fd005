-- Which links of a wiring are live.
use Rattle.std.specs.Prelude.{◌≡◌, ℕ, ◌*◌, List, length, Bool, false, IsTrue, All, Any}
use Rattle.pl_wiring.specs.declared.link.Link.{Link}
use Rattle.pl_wiring.specs.Labels.{switch_count}
use Rattle.pl_wiring.specs.FatTree.{IsAt}
use Rattle.pl_wiring.specs.Plan.{Plan}
use Rattle.pl_wiring.specs.Index.{entry_at}

-- whether a live link is there, for each port of switches with k ports, switch by switch
pub record LivePorts : Type 0 where
  pub k : ℕ
  pub flags : List Bool

-- a live link is at this port of this switch
abbrev pub is_live_at : LivePorts → ℕ → ℕ → Bool
is_live_at states switch port = entry_at false states.k states.flags switch port

-- the link is live
abbrev pub is_live : LivePorts → Link → Bool
is_live states link = is_live_at states link.lower.0 link.lower_port

-- made for this wiring: there is a flag for each port, both ends of a link agree, and no link is live at a port that has none
pub record IsFor (plan : Plan) (states : LivePorts) : Type 0 where
  pub same_k : states.k ≡ plan.k
  pub room : length states.flags ≡ switch_count plan.k * plan.k
  pub agree : All (λ l. is_live_at states l.upper.0 l.upper_port ≡ is_live states l) plan.links
  pub linked : (switch port : ℕ) → IsTrue (is_live_at states switch port) → Any (λ l. IsAt l switch port) plan.links

abbrev pub IsLive : LivePorts → Link → Type 0
IsLive states link = IsTrue (is_live states link)
