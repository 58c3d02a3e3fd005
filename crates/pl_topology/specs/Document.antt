-- A topology file as a TOML document: its tables and what stands at their keys.
use Rattle.std.specs.Prelude.{ℕ, ◌%◌, ℤ, pos, negsuc, Bool, ◌&&◌, ◌==◌, nat_le, if◌then◌else◌, List, [], ◌∷◌, map, Option, Some, None, is_some, option_map, option_and_then, codes, String}
use denote.Ref.{Bor}
use Rattle.std.specs.BTreeMap.{BTreeMap}
use Rattle.std.specs.declared.alloc.Global.{Global}
use Rattle.std.specs.Str.{is_utf8}
use Rattle.toml.specs.Data.{Data, array, table, Items, no_items, item, Members, get_member, as_str, as_integer}
use Rattle.toml.specs.Parse.{parse_document}
use Rattle.toml.specs.View.{table_view}
use Rattle.toml.specs.declared.value.Value.{Value}
use Rattle.pl_topology.specs.declared.key.Key.{Key}
use Rattle.pl_topology.specs.Keys.{key_text}

-- the document, where the bytes are one
unfoldable pub document_of : List ℕ → Option Members
document_of bytes = if is_utf8 bytes then parse_document bytes else None

abbrev pub value_at : Key → Members → Option Data
value_at key members = get_member (key_text key) members

abbrev pub has : Members → Key → Bool
has members key = is_some (value_at key members)

abbrev pub text_at : Key → Members → Option (List ℕ)
text_at key members = option_and_then as_str (value_at key members)

abbrev pub integer_at : Key → Members → Option ℤ
integer_at key members = option_and_then as_integer (value_at key members)

-- the tables of an array that has nothing else among its members
abbrev pub tables_in : Items → Option (List Members)
tables_in no_items = Some []
tables_in (item (table members) rest) = option_map (λ tables. members ∷ tables) (tables_in rest)
tables_in (item _ rest) = None

-- no table where the key is absent
abbrev pub tables_of : Option Data → Option (List Members)
tables_of None = Some []
tables_of (Some (array items)) = tables_in items
tables_of (Some _) = None

abbrev pub tables_at : Key → Members → Option (List Members)
tables_at key document = tables_of (value_at key document)

-- an even number from 4 to 24
abbrev pub arity_if : ℤ → Option ℕ
arity_if (pos n) = if nat_le 4 n && nat_le n 24 && n % 2 == 0 then Some n else None
arity_if (negsuc n) = None

abbrev pub arity_of : Members → Option ℕ
arity_of document = option_and_then arity_if (option_and_then as_integer (get_member (codes "k") document))

-- the members of tables that are lent
abbrev pub lent_tables : List (Bor (BTreeMap (String Global) Value)) → List Members
lent_tables tables = map (λ t. table_view t.now) tables
