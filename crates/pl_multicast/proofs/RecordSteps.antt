-- The changes of group records, by the first of them.
use Rattle.std.proofs.Common.{◌≡◌, ℕ, zero, suc, ◌-◌, ◌<◌, ◌||◌, Bool, true, false, cond, nat_lt, List, [], ◌++◌, length, drop, slice_index, Option, Some, None, refl, sym, arith}
use Rattle.std.specs.Option.{option_to_list, is_some}
use Rattle.std.specs.Iterator.{YieldsFirst}
use Rattle.std.specs.Borrow.{Bor}
use Rattle.byteorder.specs.Endian.{big_number}
use Rattle.pl_layouts.specs.declared.membership.Change.{Change}
use Rattle.pl_layouts.specs.Memberships.{record_change, record_length, records_changes}
use Rattle.pl_multicast.specs.declared.reading.Changes.{Changes}
use Rattle.pl_multicast.specs.Records.{record_end}
use Rattle.pl_multicast.specs.Changes.{changes_left}

-- what the record at the front of some bytes says
abbrev pub first_change : List ℕ → List Change
first_change bytes = record_change (slice_index bytes 0) (big_number 2 (drop 2 bytes)) (big_number 4 (drop 4 bytes))

pub records_changes-none : (bytes : List ℕ) → records_changes 0 bytes ≡ []
unfolding records_changes
records_changes-none bytes = refl

-- an end chosen by a test
chosen : (b : Bool) (end at : ℕ) → cond b None (Some end) ≡ Some at → (b ≡ false) × (end ≡ at)
chosen true end at h = absurd (cc)
chosen false end at h = (refl, cc)

not_chosen : (b : Bool) (end : ℕ) → cond b None (Some end) ≡ None → b ≡ true
not_chosen true end h = refl
not_chosen false end h = absurd (cc)

pub records_changes-cut : (n : ℕ) (bytes : List ℕ) → record_end bytes ≡ None → records_changes n bytes ≡ []
unfolding records_changes
records_changes-cut zero bytes cut = refl
records_changes-cut (suc n) bytes cut =
    let h = not_chosen (nat_lt (length bytes) 8 || nat_lt (length bytes) (record_length bytes)) (record_length bytes) cut in
    rw h refl

pub records_changes-whole : (n : ℕ) (bytes : List ℕ) (end : ℕ) → 0 < n → record_end bytes ≡ Some end →
    records_changes n bytes ≡ first_change bytes ++ records_changes (n - 1) (drop end bytes)
unfolding records_changes
records_changes-whole zero bytes end some whole = absurd (omega arith)
records_changes-whole (suc n) bytes end some whole =
    let h = chosen (nat_lt (length bytes) 8 || nat_lt (length bytes) (record_length bytes)) (record_length bytes) end whole in
    let less : suc n - 1 ≡ n = omega arith in
    rw (h.0, h.1, less) refl

-- what is left, by the next record
pub changes_left-none : (changes : Changes) → changes.only ≡ None → changes.count ≡ 0 → changes_left changes ≡ []
unfolding changes_left
changes_left-none changes only count = rw (only, count) (records_changes-none changes.records.now)

pub changes_left-cut : (changes : Changes) → changes.only ≡ None → record_end changes.records.now ≡ None → changes_left changes ≡ []
unfolding changes_left
changes_left-cut changes only cut = rw only (records_changes-cut changes.count changes.records.now cut)

-- past the record, with what it said in front
pub changes_left-step : (changes : Changes) (end : ℕ) (rest : Bor (List ℕ)) (said : Option Change) →
    changes.only ≡ None → 0 < changes.count → record_end changes.records.now ≡ Some end →
    rest.now ≡ drop end changes.records.now → option_to_list said ≡ first_change changes.records.now →
    changes_left changes ≡ option_to_list said ++ changes_left (record { only = changes.only; count = changes.count - 1; records = rest })
unfolding changes_left
changes_left-step changes end rest said only some whole behind is =
    let split = records_changes-whole changes.count changes.records.now end some whole in
    rw (only, split, is, behind) refl

-- a record that said something gave the first change
pub YieldsFirst-said : (old new : Changes) (said : Option Change) → is_some said ≡ true →
    changes_left old ≡ option_to_list said ++ changes_left new → YieldsFirst changes_left old said new
YieldsFirst-said old new None there h = absurd (cc)
YieldsFirst-said old new (Some change) there h = h

-- a record that said nothing is passed over
pub changes_left-passed : (old new : Changes) (said : Option Change) → is_some said ≡ false →
    changes_left old ≡ option_to_list said ++ changes_left new → changes_left new ≡ changes_left old
changes_left-passed old new None there h = sym h
changes_left-passed old new (Some change) there h = absurd (cc)
