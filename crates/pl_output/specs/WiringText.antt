-- What the command check prints of a wiring.
use Rattle.std.specs.Prelude.{◌≡◌, ℕ, ◌*◌, ◌/◌, List, [], ◌∷◌, ◌++◌, length, codes, decimal, None, refl}
use Rattle.std.specs.Fmt.{digits}
use Rattle.pl_wiring.specs.declared.host.Host.{Host}
use Rattle.pl_wiring.specs.FatTree.{canonical_links}
use Rattle.pl_wiring.specs.Labels.{edge_count}
use Rattle.pl_wiring.specs.Plan.{Plan}

-- how many switches of each level; k pods have as many aggregation switches as edge switches
unfoldable pub levels_text : ℕ → List ℕ
levels_text k =
    codes "edge " ++ (decimal (edge_count k) ++ (codes " aggregation " ++ (decimal (edge_count k) ++ (codes " core " ++ decimal (k / 2 * (k / 2))))))

unfoldable pub wiring_line : Plan → List ℕ
wiring_line plan =
    codes "k " ++ decimal plan.k ++ codes " " ++ levels_text plan.k ++ codes " links " ++ decimal (length plan.links)
    ++ codes " hosts " ++ decimal (length plan.hosts) ++ codes "\n"

abbrev named : List ℕ → ℕ → Host
named name port = record {
  name = name;
  mac = record { 0 = 2 ∷ 0 ∷ 0 ∷ 0 ∷ 0 ∷ port ∷ [] };
  ip = record { 0 = port };
  edge = record { 0 = 0 };
  port = port;
  capture = None;
}

two_hosts : wiring_line (record { k = 4; ids = []; links = canonical_links 4; hosts = named (codes "a") 0 ∷ named (codes "b") 1 ∷ [] })
    ≡ codes "k 4 edge 8 aggregation 8 core 4 links 32 hosts 2\n"
unfolding wiring_line levels_text digits
two_hosts = refl
