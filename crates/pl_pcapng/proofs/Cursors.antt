-- A cursor of a file stands within it, and moves from block to block.
use Rattle.std.proofs.Common.{◌≡◌, ℕ, zero, suc, ◌+◌, ◌-◌, ◌<◌, ◌≤◌, ◌⊎◌, inl, inr, List, [], ◌∷◌, ◌++◌, length, Option, Some, None, Result, Ok, Err, IfOk, IfErr, IfSome, IfNone, refl, sym, ◌∙◌, ap, subst, arith, option_to_list, append-nil}
use Rattle.std.proofs.lemmas.Grind.{flat_map-append}
use Rattle.pl_capture.specs.declared.records.Captured.{Captured}
use Rattle.pl_pcapng.specs.declared.block.Block.{Block}
use Rattle.pl_pcapng.specs.declared.error.BlockError.{BlockError}
use Rattle.pl_pcapng.specs.declared.error.BlockError.TheVariants.{Memory}
use Rattle.pl_pcapng.specs.Position.{Position, first, behind, record_of}
use Rattle.pl_pcapng.specs.Standing.{Found, Stands}
use Rattle.pl_pcapng.specs.Reading.{block_in}
use Rattle.pl_pcapng.specs.Sections.{AreBlocks, records_in, BeginsWithBlocks, reading_of}
use Rattle.pl_pcapng.specs.Cursor.{Sought, found_or, seek, sought_from, sought, PassesBlocks, IsNextRecord, IsSought}
use Rattle.pl_pcapng.proofs.Tables.{block_in-row, row_from}
use Rattle.pl_pcapng.proofs.Walks.{whole, none, fault, gives, fails, block_room, moved-at, at_end, reading_of-tail, reading_of-fault}

-- Positions.

blocks-reach : (file : List ℕ) (from : Position) (blocks : List Block) (to : Position) →
    from.at ≤ length file → AreBlocks file from blocks to → to.at ≤ length file
blocks-reach file from [] to within is = subst (λ (p : Position). p.at ≤ length file) (sym is) within
blocks-reach file from (b ∷ bs) to within are =
    let taken = block_room file from b are.0 in
    let is = moved-at from b.content b.end in
    blocks-reach file (behind from b) bs to (omega (arith, is, taken.within)) are.1

-- a position behind some blocks stands within its file
pub begins_within : (file : List ℕ) (records : List Captured) (p : Position) →
    BeginsWithBlocks file records p → p.at ≤ length file
begins_within file records p begins =
    blocks-reach file first begins.blocks p (omega arith) begins.follow

-- one more block at their end
blocks-push : (file : List ℕ) (from : Position) (blocks : List Block) (to : Position) (b : Block) →
    AreBlocks file from blocks to → Stands file to (whole b) →
    AreBlocks file from (blocks ++ b ∷ []) (behind to b)
blocks-push file from [] to b is there =
    (subst (λ (p : Position). Stands file p (whole b)) is there, ap (λ (p : Position). behind p b) is)
blocks-push file from (d ∷ ds) to b are there =
    (are.0, blocks-push file (behind from d) ds to b are.1 there)

begins-push : (file : List ℕ) (records : List Captured) (p : Position) (b : Block) →
    BeginsWithBlocks file records p → Stands file p (whole b) →
    BeginsWithBlocks file (records ++ option_to_list (record_of b.content)) (behind p b)
begins-push file records p b begins there = record {
  blocks = begins.blocks ++ b ∷ [];
  follow = blocks-push file first begins.blocks p b begins.follow there;
  held = ap (λ (rs : List Captured). rs ++ option_to_list (record_of b.content)) begins.held
      ∙ ap (λ (rs : List Captured). records_in begins.blocks ++ rs)
      (sym (append-nil (option_to_list (record_of b.content))))
      ∙ sym (flat_map-append (λ (d : Block). option_to_list (record_of d.content)) begins.blocks (b ∷ []));
}

-- Seeking.

abbrev nowhere : Position → Sought
nowhere p = record { found = Ok None; cursor = p }

abbrev refused_at : BlockError → Position → Sought
refused_at e p = record { found = Err e; cursor = p }

abbrev found_at : Captured → Position → Sought
found_at c p = record { found = Ok (Some c); cursor = p }

sought_from-step : (n : ℕ) (file : List ℕ) (p : Position) (found : Found) → block_in file p ≡ found →
    sought_from (suc n) file p ≡ seek found p (λ b. sought_from n file (behind p b))
unfolding sought_from
sought_from-step n file p found is =
    ap (λ (f : Found). seek f p (λ b. sought_from n file (behind p b))) is

sought_from-none : (file : List ℕ) (p : Position) → sought_from zero file p ≡ nowhere p
unfolding sought_from
sought_from-none file p = refl

sought_from-end : (n : ℕ) (file : List ℕ) (p : Position) → length file ≤ p.at →
    sought_from n file p ≡ nowhere p
sought_from-end zero file p all = sought_from-none file p
sought_from-end (suc n) file p all =
    sought_from-step n file p none (block_in-row file p none (at_end file p all))

closer : (file : List ℕ) (p : Position) (b : Block) (n : ℕ) → Stands file p (whole b) →
    length file ≤ p.at + suc n → length file ≤ (behind p b).at + n
closer file p b n there room =
    let is = moved-at p b.content b.end in
    omega (arith, is, (block_room file p b there).least)

-- any number of blocks that a file may have is enough
enough : (n m : ℕ) (file : List ℕ) (p : Position) → length file ≤ p.at + n → length file ≤ p.at + m →
    sought_from n file p ≡ sought_from m file p
enough zero m file p few many =
    let all : length file ≤ p.at = omega (arith, few) in
    sought_from-none file p ∙ sym (sought_from-end m file p all)
enough (suc n) zero file p few many =
    let all : length file ≤ p.at = omega (arith, many) in
    sought_from-end (suc n) file p all ∙ sym (sought_from-none file p)
enough (suc n) (suc m) file p few many =
    by n m file p few many (λ q f g. enough n m file q f g) (block_in file p) refl
  where
    by : (n m : ℕ) (file : List ℕ) (p : Position) → length file ≤ p.at + suc n →
        length file ≤ p.at + suc m →
        ((q : Position) → length file ≤ q.at + n → length file ≤ q.at + m → sought_from n file q ≡ sought_from m file q) →
        (found : Found) → block_in file p ≡ found →
        sought_from (suc n) file p ≡ sought_from (suc m) file p
    by n m file p few many more (Ok None) is =
        sought_from-step n file p none is ∙ sym (sought_from-step m file p none is)
    by n m file p few many more (Err e) is =
        sought_from-step n file p (fault e) is ∙ sym (sought_from-step m file p (fault e) is)
    by n m file p few many more (Ok (Some b)) is =
        let there = row_from file p (whole b) is in
        let rest = more (behind p b) (closer file p b n there few) (closer file p b m there many) in
        sought_from-step n file p (whole b) is
        ∙ ap (found_or (record_of b.content) (behind p b)) rest
        ∙ sym (sought_from-step m file p (whole b) is)

-- one step of seeking
sought-step : (file : List ℕ) (p : Position) (found : Found) → block_in file p ≡ found →
    sought file p ≡ seek found p (λ b. sought file (behind p b))
unfolding sought
sought-step file p found is =
    enough (length file) (suc (length file)) file p (omega arith) (omega arith)
    ∙ sought_from-step (length file) file p found is

sought-none : (file : List ℕ) (p : Position) → Stands file p none → sought file p ≡ nowhere p
sought-none file p there = sought-step file p none (block_in-row file p none there)

sought-fault : (file : List ℕ) (p : Position) (e : BlockError) → Stands file p (fault e) →
    sought file p ≡ refused_at e p
sought-fault file p e there = sought-step file p (fault e) (block_in-row file p (fault e) there)

sought-whole : (file : List ℕ) (p : Position) (b : Block) (o : Option Captured) →
    Stands file p (whole b) → record_of b.content ≡ o →
    sought file p ≡ found_or o (behind p b) (sought file (behind p b))
sought-whole file p b o there is =
    sought-step file p (whole b) (block_in-row file p (whole b) there)
    ∙ ap (λ (r : Option Captured). found_or r (behind p b) (sought file (behind p b))) is

-- Going on.

pub goes_nowhere : (file : List ℕ) (p : Position) → PassesBlocks file p p
goes_nowhere file p =
    record { read = λ records begins. begins; same = refl; further = omega arith }

-- over one more block without a record
pub goes_on : (file : List ℕ) (old p new : Position) (b : Block) → PassesBlocks file old p →
    block_in file p ≡ whole b → record_of b.content ≡ None → new ≡ behind p b → PassesBlocks file old new
goes_on file old p new b goes is without at =
    let there = row_from file p (whole b) is in
    let moves : (behind p b).at ≡ b.end = moved-at p b.content b.end in
    let least = (block_room file p b there).least in
    let further : old.at ≤ (behind p b).at = omega (arith, goes.further) in
    let all : (records : List Captured) → BeginsWithBlocks file records old →
    BeginsWithBlocks file records (behind p b) = λ records begins.
    subst (λ (rs : List Captured). BeginsWithBlocks file rs (behind p b))
    (ap (λ (o : Option Captured). records ++ option_to_list o) without ∙ append-nil records)
    (begins-push file records p b (goes.read records begins) there) in
    subst (PassesBlocks file old) (sym at)
    (record { read = all; same = sym (sought-whole file p b None there without) ∙ goes.same; further = further })

-- the bytes behind are fewer
pub goes_closer : (file : List ℕ) (p new : Position) (b : Block) → block_in file p ≡ whole b →
    new ≡ behind p b → length file - new.at < length file - p.at
goes_closer file p new b is at =
    let room = block_room file p b (row_from file p (whole b) is) in
    let moves = moved-at p b.content b.end in
    let end : new.at ≡ b.end = ap (λ (q : Position). q.at) at ∙ moves in
    omega (arith, end, room.least, room.within)

-- to one that stays
pub goes_same : (file : List ℕ) (old p new : Position) → PassesBlocks file old p → new ≡ p →
    PassesBlocks file old new
goes_same file old p new goes is = subst (PassesBlocks file old) (sym is) goes

-- What a call found.

module _ (file : List ℕ) (old new : Position) where
  pub next_sought : (result : Result (Option Captured) BlockError) → IsNextRecord file old result new →
      IsSought file old result new
  next_sought (Ok (Some c)) (mid, b, goes, there, is, at) =
      inr (sym goes.same ∙ sought-whole file mid b (Some c) there is ∙ ap (found_at c) (sym at))
  next_sought (Ok None) (goes, there) = inr (sym goes.same ∙ sought-none file new there)
  next_sought (Err e) (goes, inl is) = inl (ap (λ (f : BlockError). Err f) is)
  next_sought (Err e) (goes, inr there) = inr (sym goes.same ∙ sought-fault file new e there)

  found_push : (c : Captured) (mid : Position) (b : Block) → PassesBlocks file old mid →
      Stands file mid (whole b) → record_of b.content ≡ Some c → new ≡ behind mid b →
      (records : List Captured) → BeginsWithBlocks file records old → BeginsWithBlocks file (records ++ c ∷ []) new
  found_push c mid b goes there is at records begins =
      let P : List Captured → Type 0 = λ rs. BeginsWithBlocks file rs new in
      subst P (ap (λ (o : Option Captured). records ++ option_to_list o) is)
      (subst (λ (p : Position). BeginsWithBlocks file (records ++ option_to_list (record_of b.content)) p) (sym at)
      (begins-push file records mid b (goes.read records begins) there))

  pub next_same : (result : Result (Option Captured) BlockError) → IsNextRecord file old result new →
      (records : List Captured) → BeginsWithBlocks file records old → (more : List Captured) × BeginsWithBlocks file more new
  next_same (Ok (Some c)) (mid, b, goes, there, is, at) records begins =
      (records ++ c ∷ [], found_push c mid b goes there is at records begins)
  next_same (Ok None) (goes, there) records begins = (records, goes.read records begins)
  next_same (Err e) (goes, why) records begins = (records, goes.read records begins)

  pub next_found : (result : Result (Option Captured) BlockError) → IsNextRecord file old result new →
      (records : List Captured) → BeginsWithBlocks file records old →
      IfOk result (λ found. IfSome found (λ c. BeginsWithBlocks file (records ++ c ∷ []) new))
  next_found (Ok (Some c)) (mid, b, goes, there, is, at) records begins =
      found_push c mid b goes there is at records begins
  next_found (Ok None) next records begins = tt
  next_found (Err e) next records begins = tt

  pub next_ended : (result : Result (Option Captured) BlockError) → IsNextRecord file old result new →
      (records : List Captured) → BeginsWithBlocks file records old →
      IfOk result (λ found. IfNone found (reading_of file ≡ gives records (length file - new.at)))
  next_ended (Ok (Some c)) next records begins = tt
  next_ended (Ok None) (goes, there) records begins =
      reading_of-tail file records new (goes.read records begins) there
  next_ended (Err e) next records begins = tt

  pub next_refused : (result : Result (Option Captured) BlockError) → IsNextRecord file old result new →
      (records : List Captured) → BeginsWithBlocks file records old →
      IfErr result (λ e. (e ≡ Memory) ⊎ (reading_of file ≡ fails e))
  next_refused (Ok (Some c)) next records begins = tt
  next_refused (Ok None) next records begins = tt
  next_refused (Err e) (goes, inl is) records begins = inl is
  next_refused (Err e) (goes, inr there) records begins =
      inr (reading_of-fault file records new e (goes.read records begins) there)

  pub next_again_ended : (result : Result (Option Captured) BlockError) → IsNextRecord file old result new →
      IfOk result (λ found. IfNone found (sought file new ≡ sought file old))
  next_again_ended (Ok (Some c)) next = tt
  next_again_ended (Ok None) (goes, there) = goes.same
  next_again_ended (Err e) next = tt

  pub next_again_refused : (result : Result (Option Captured) BlockError) →
      IsNextRecord file old result new → IfErr result (λ e. sought file new ≡ sought file old)
  next_again_refused (Ok (Some c)) next = tt
  next_again_refused (Ok None) next = tt
  next_again_refused (Err e) (goes, why) = goes.same

  pub next_nearer : (result : Result (Option Captured) BlockError) → IsNextRecord file old result new →
      IfOk result (λ found. IfSome found (λ c. length file - new.at < length file - old.at))
  next_nearer (Ok (Some c)) (mid, b, goes, there, is, at) =
      let closer_still = goes_closer file mid new b (block_in-row file mid (whole b) there) at in
      omega (arith, closer_still, goes.further)
  next_nearer (Ok None) next = tt
  next_nearer (Err e) next = tt
