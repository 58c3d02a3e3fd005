-- Worked examples of the definitions.
use Rattle.std.proofs.Common.{◌≡◌, [], ◌∷◌, Some, None, refl, codes, ◌-◌, ◌^◌, lit≤}
use Rattle.pl_shelf.specs.Capacity.{FitsBehind, IsFull}
use Rattle.pl_shelf.specs.Held.{absent, holds, IsRead, created, with_end}
use Rattle.pl_shelf.specs.MemoryShelf.{allowed, one_more, room_at, unless_failing}

appended_to_nothing : with_end absent (codes "ab") ≡ holds (codes "ab")
appended_to_nothing = refl

appended : with_end (holds (codes "ab")) (codes "c") ≡ holds (codes "abc")
appended = refl

nothing_appended : with_end absent [] ≡ absent
nothing_appended = refl

created_anew : created (codes "a") (holds (codes "old")) ≡ holds []
created_anew = refl

output_kept : created (codes "-") (holds (codes "shown")) ≡ holds (codes "shown")
output_kept = refl

-- a buffer of four bytes at offset 4 of seven: three bytes, and one that stays
read_at_the_end : IsRead (holds (codes "content")) 4 3 (codes "ent?")
read_at_the_end = record { bytes = refl; within = lit≤ tt; end = λ none. absurd (cc) }

output_there : allowed (codes "-") 3 ≡ record { content = Some []; room = 3 }
output_there = refl

file_absent : allowed (codes "a") 3 ≡ record { content = None; room = 3 }
file_absent = refl

room_of_an_absent_name : room_at (Some (allowed (codes "a") 3)) ≡ 0
room_of_an_absent_name = refl

last_count : one_more (2 ^ 64 - 1) ≡ 2 ^ 64 - 1
last_count = refl

-- a name with a capacity of three bytes
new_text_fits : FitsBehind (Some 3) (created (codes "a") absent) (codes "abc")
new_text_fits = lit≤ tt

text_in_the_place_of_another_fits : FitsBehind (Some 3) (created (codes "a") (holds (codes "old"))) (codes "abc")
text_in_the_place_of_another_fits = lit≤ tt

output_fits_behind_what_was_shown : FitsBehind (Some 3) (created (codes "-") (holds (codes "ab"))) (codes "c")
output_fits_behind_what_was_shown = lit≤ tt

full : IsFull (Some 3) (holds (codes "abc"))
full = lit≤ tt

nothing_promised : unless_failing (7 ∷ []) (λ name. Some 3) (codes "a") ≡ None
nothing_promised = refl
