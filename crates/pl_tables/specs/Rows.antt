-- Rows of a table: which ports a key has.
use Rattle.std.specs.Prelude.{◌≡◌, ℕ, ◌<◌, ◌≤◌, ◌≢◌, ◌==◌, List, [], ◌∷◌, length, if◌then◌else◌, slice_index_or}
use Rattle.pl_lists.specs.Ports.{ports_of}
use Rattle.pl_tables.specs.declared.port_rows.PortRow.{PortRow}

-- the ports of a key, rising; none where it has no row
abbrev pub ports_at : List PortRow → ℕ → List ℕ
ports_at [] key = []
ports_at (row ∷ rows) key = if row.key == key then ports_of row.ports else ports_at rows key

abbrev pub no_row : PortRow
no_row = record { key = 0; ports = record { 0 = 0 } }

abbrev pub row_at : List PortRow → ℕ → PortRow
row_at rows i = slice_index_or rows i no_row

-- The keys rise, and each has a port.
pub record ArePortRows (rows : List PortRow) : Type 0 where
  pub rising : (i j : ℕ) → i < j → j < length rows → (row_at rows i).key < (row_at rows j).key
  pub filled : (i : ℕ) → i < length rows → ports_of (row_at rows i).ports ≢ []

-- the row at index i has the key
pub record RowIsAt (rows : List PortRow) (key i : ℕ) : Type 0 where
  pub within : i < length rows
  pub has_key : (row_at rows i).key ≡ key

-- the key would go at index i: smaller keys before it, and greater keys from it on
pub record IsGapFor (rows : List PortRow) (key i : ℕ) : Type 0 where
  pub within : i ≤ length rows
  pub smaller_before : (j : ℕ) → j < i → (row_at rows j).key < key
  pub greater_after : (j : ℕ) → i ≤ j → j < length rows → key < (row_at rows j).key

-- a key has these ports, and each other key what it had
abbrev pub PutsAt : List PortRow → List PortRow → ℕ → List ℕ → Type 0
PutsAt old new key ports = (k : ℕ) → ports_at new k ≡ (if key == k then ports else ports_at old k)
