-- A reading cursor in a file.
use Rattle.std.specs.Prelude.{◌≡◌, ℕ, zero, suc, ◌-◌, ◌≤◌, ◌⊎◌, List, length, Option, Some, None, Result, Ok, Err}
use Rattle.pl_capture.specs.declared.records.Captured.{Captured}
use Rattle.pl_pcapng.specs.declared.block.Block.{Block}
use Rattle.pl_pcapng.specs.declared.error.BlockError.{BlockError}
use Rattle.pl_pcapng.specs.declared.error.BlockError.TheVariants.{Memory}
use Rattle.pl_pcapng.specs.declared.sections.Sections.{Sections as Cursor}
use Rattle.pl_pcapng.specs.Position.{Position, behind, record_of}
use Rattle.pl_pcapng.specs.Standing.{Found, Stands}
use Rattle.pl_pcapng.specs.Reading.{block_in}
use Rattle.pl_pcapng.specs.Sections.{BeginsWithBlocks}

abbrev pub position_of : Cursor → Position
position_of cursor =
    record { at = cursor.at; order = cursor.endianness; interfaces = cursor.interfaces.items }

-- the first record at or behind a position, or why there is none, and where that leaves a cursor
pub record Sought : Type 0 where
  pub found : Result (Option Captured) BlockError
  pub cursor : Position

abbrev pub found_or : Option Captured → Position → Sought → Sought
found_or (Some c) p more = record { found = Ok (Some c); cursor = p }
found_or None p more = more

-- behind a block with a record, and else where no whole block stands
abbrev pub seek : Found → Position → (Block → Sought) → Sought
seek (Ok (Some b)) p more = found_or (record_of b.content) (behind p b) (more b)
seek (Ok None) p more = record { found = Ok None; cursor = p }
seek (Err e) p more = record { found = Err e; cursor = p }

-- within at most n blocks, where a file has fewer blocks than bytes
unfoldable pub sought_from : ℕ → List ℕ → Position → Sought
sought_from zero file p = record { found = Ok None; cursor = p }
sought_from (suc n) file p = seek (block_in file p) p (λ b. sought_from n file (behind p b))

unfoldable pub sought : List ℕ → Position → Sought
sought file p = sought_from (length file) file p

-- A call answers what was sought and stands where that leaves a cursor, or memory ran out.
abbrev pub IsSought : List ℕ → Position → Result (Option Captured) BlockError → Position → Type 0
IsSought file old found new =
    (found ≡ Err Memory) ⊎ (sought file old ≡ record { found = found; cursor = new })

-- the bytes behind a cursor
abbrev pub tail_of : List ℕ → Cursor → ℕ
tail_of file cursor = length file - cursor.at

-- the cursor stands behind blocks with these records, the first of the file
abbrev pub HasReadBlocks : List ℕ → List Captured → Cursor → Type 0
HasReadBlocks file records cursor = BeginsWithBlocks file records (position_of cursor)

-- the cursor is one of this file
abbrev pub IsBlockCursorIn : List ℕ → Cursor → Type 0
IsBlockCursorIn file cursor = (records : List Captured) × HasReadBlocks file records cursor

-- From one position to another stand whole blocks without a record, so that nothing is lost by going there.
pub record PassesBlocks (file : List ℕ) (old new : Position) : Type 0 where
  pub read : (records : List Captured) → BeginsWithBlocks file records old → BeginsWithBlocks file records new
  pub same : sought file new ≡ sought file old
  pub further : old.at ≤ new.at

-- What a call found and where that leaves the cursor: behind the next block with a record, or where no whole block stands.
abbrev pub IsNextRecord : List ℕ → Position → Result (Option Captured) BlockError → Position → Type 0
IsNextRecord file old (Ok (Some c)) new =
    (mid : Position) × (b : Block) × PassesBlocks file old mid × Stands file mid (Ok (Some b)) × (record_of b.content ≡ Some c) × (new ≡ behind mid b)
IsNextRecord file old (Ok None) new = PassesBlocks file old new × Stands file new (Ok None)
IsNextRecord file old (Err e) new = PassesBlocks file old new × ((e ≡ Memory) ⊎ Stands file new (Err e))
