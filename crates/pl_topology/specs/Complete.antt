-- Which keys a table has to have.
use Rattle.std.specs.Prelude.{not, List, [], Result, ⊤, unwrap_or}
use Rattle.toml.specs.Data.{Members}
use Rattle.pl_topology.specs.declared.error.TopologyError.{TopologyError}
use Rattle.pl_topology.specs.declared.error.TopologyError.TheVariants as error
use Rattle.pl_topology.specs.declared.key.Key.{Key}
use Rattle.pl_topology.specs.declared.key.Key.TheVariants as key
use Rattle.pl_topology.specs.Document.{has, tables_at}
use Rattle.pl_topology.specs.Keys.{switch_keys, link_keys, host_keys}
use Rattle.pl_topology.specs.Refusal.{◌>>=◌, each, refused_if}

abbrev pub has_key : Members → Key → Result ⊤ TopologyError
has_key members key = refused_if (not (has members key)) (error.Missing key)

unfoldable pub has_keys : List Key → Members → Result ⊤ TopologyError
has_keys keys members = each (has_key members) keys

-- Every table of the file does. What is no array of tables has no table.
unfoldable pub has_all_keys : Members → Result ⊤ TopologyError
has_all_keys document = do
  _ ← each (has_keys switch_keys) (unwrap_or (tables_at key.Switch document) [])
  _ ← each (has_keys link_keys) (unwrap_or (tables_at key.Link document) [])
  each (has_keys host_keys) (unwrap_or (tables_at key.Host document) [])
