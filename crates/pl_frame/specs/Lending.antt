use Rattle.std.specs.Prelude.{ℕ, List, ◌++◌, length, take, drop}
use Rattle.std.specs.Borrow.{Lends, MutBor, Fml, Array, u8}
use Rattle.pl_frame.specs.contracts.owned.Frame.{the_row}

-- the old bytes with these written over them, as many as there were
abbrev pub overwritten : List ℕ → List ℕ → List ℕ
overwritten old bytes = take (length old) (bytes ++ drop (length bytes) old)

-- the frame ends as its bytes with those written over them that stand behind r in the end
abbrev pub LendsBytes : MutBor (List ℕ) → MutBor (List ℕ) → Fml
LendsBytes frame r = Lends the_row (Array u8 0) frame r (overwritten frame.now)
