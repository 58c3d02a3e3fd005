-- Worked examples of what a topology file means.
use Rattle.std.specs.Prelude.{◌≡◌, Err, codes, refl}
use Rattle.std.specs.Str.{chars, is_utf8}
use Rattle.toml.proofs.OnLiterals.{toml_on_literals}
use Rattle.pl_topology.specs.declared.error.TopologyError.TheVariants as error
use Rattle.pl_topology.specs.declared.key.Key.TheVariants as key
use Rattle.pl_topology.specs.Complete.{has_all_keys, has_keys}
use Rattle.pl_topology.specs.Document.{document_of}
use Rattle.pl_topology.specs.FileEntries.{entries_of, link_entries, switch_entries}
use Rattle.pl_topology.specs.Meaning.{topology_of}

no_arity : topology_of (codes "k = 5") ≡ Err error.BadK
unfolding toml_on_literals topology_of document_of is_utf8 chars
no_arity = refl

no_mac : topology_of (codes "k = 4\n[[host]]\nname = \"a\"\n") ≡ Err (error.Missing key.Mac)
unfolding toml_on_literals topology_of document_of is_utf8 chars has_all_keys has_keys
no_mac = refl

no_array : topology_of (codes "k = 4\nlink = [1]\n") ≡ Err (error.BadValue key.Link)
unfolding toml_on_literals topology_of document_of is_utf8 chars has_all_keys has_keys entries_of switch_entries link_entries
no_array = refl
