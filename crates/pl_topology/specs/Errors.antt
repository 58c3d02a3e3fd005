-- How the refusal of a topology file is printed: its name and its fields, a space before each.
use Rattle.std.specs.Prelude.{ℕ, List, ◌++◌, codes, decimal}
use Rattle.std.specs.Fmt.{signed_decimal}
use Rattle.pl_topology.specs.declared.error.TopologyError.{TopologyError}
use Rattle.pl_topology.specs.declared.error.TopologyError.TheVariants.{NotToml, BadK, Missing, BadValue, DoubleId, DoubleHost, DoubleAddress, BadPort, NotFatTree, Memory}
use Rattle.pl_topology.specs.Keys.{key_text}
use Rattle.pl_wiring.specs.Labels.{label_text}

abbrev pub error_text : TopologyError → List ℕ
error_text NotToml = codes "NotToml"
error_text BadK = codes "BadK"
error_text (Missing key) = codes "Missing " ++ key_text key
error_text (BadValue key) = codes "BadValue " ++ key_text key
error_text (DoubleId id) = codes "DoubleId " ++ decimal id.0
error_text (DoubleHost name) = codes "DoubleHost " ++ name
error_text (DoubleAddress name) = codes "DoubleAddress " ++ name
error_text (BadPort label port) = codes "BadPort " ++ label_text label ++ codes " " ++ signed_decimal port
error_text (NotFatTree a b) = codes "NotFatTree " ++ label_text a ++ codes " " ++ label_text b
error_text Memory = codes "Memory"
