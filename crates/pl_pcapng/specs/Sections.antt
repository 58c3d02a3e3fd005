-- A file in the pcapng format: whole blocks, and a tail.
use Rattle.std.specs.Prelude.{◌≡◌, ℕ, zero, suc, ◌-◌, List, [], ◌∷◌, length, Option, Some, None, Result, Ok, Err, option_to_list}
use Rattle.std.specs.List.{flat_map}
use Rattle.pl_capture.specs.declared.records.Captured.{Captured}
use Rattle.pl_pcapng.specs.declared.block.Block.{Block}
use Rattle.pl_pcapng.specs.declared.error.BlockError.{BlockError}
use Rattle.pl_pcapng.specs.Position.{Position, first, behind, record_of}
use Rattle.pl_pcapng.specs.Standing.{Found, Stands}
use Rattle.pl_pcapng.specs.Reading.{block_in}

-- from one position on these blocks follow each other, up to another position
abbrev pub AreBlocks : List ℕ → Position → List Block → Position → Type 0
AreBlocks file from [] to = to ≡ from
AreBlocks file from (b ∷ bs) to =
    Stands file from (Ok (Some b)) × AreBlocks file (behind from b) bs to

-- the records of blocks, in order
abbrev pub records_in : List Block → List Captured
records_in blocks = flat_map (λ b. option_to_list (record_of b.content)) blocks

-- the file begins with blocks that have these records, up to a position
pub record BeginsWithBlocks (file : List ℕ) (records : List Captured) (to : Position) : Type 0 where
  pub blocks : List Block
  pub follow : AreBlocks file first blocks to
  pub held : records ≡ records_in blocks

-- The file is a list of whole blocks with these records, and less than a whole block behind them: so many bytes of tail.
unfoldable pub IsSections : List ℕ → List Captured → ℕ → Type 0
IsSections file records tail =
    (end : Position) × BeginsWithBlocks file records end × Stands file end (Ok None) × (tail ≡ length file - end.at)

-- Behind some whole blocks the file has one that is refused.
unfoldable pub AreSectionsRefused : List ℕ → BlockError → Type 0
AreSectionsRefused file e = (records : List Captured) × (at : Position) × BeginsWithBlocks file records at × Stands file at (Err e)

-- The same as a function: the records and the length of the tail, or the first refusal.
abbrev pub SectionsReading : Type 0
SectionsReading = Result (List Captured × ℕ) BlockError

abbrev pub with_first : Option Captured → SectionsReading → SectionsReading
with_first (Some c) (Ok read) = Ok (c ∷ read.0, read.1)
with_first None (Ok read) = Ok read
with_first found (Err e) = Err e

abbrev pub read_on : Found → (Block → SectionsReading) → ℕ → SectionsReading
read_on (Ok (Some b)) more tail = with_first (record_of b.content) (more b)
read_on (Ok None) more tail = Ok ([], tail)
read_on (Err e) more tail = Err e

-- at most n blocks from a position on, where a file has fewer blocks than bytes
unfoldable pub reading_from : ℕ → List ℕ → Position → SectionsReading
reading_from zero file p = Ok ([], length file - p.at)
reading_from (suc n) file p =
    read_on (block_in file p) (λ b. reading_from n file (behind p b)) (length file - p.at)

unfoldable pub reading_of : List ℕ → SectionsReading
reading_of file = reading_from (length file) file first
