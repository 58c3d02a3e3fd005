-- A text that was cut off where its name was full did not fit.
use Rattle.std.proofs.Common.{◌≡◌, ℕ, suc, ◌<◌, ◌≤◌, List, [], ◌∷◌, ◌++◌, length, take, Option, Some, None, slice_index_or, AllPairs, Result, Ok, Err, OnErr, sym, subst, arith, length-append}
use Rattle.std.proofs.lemmas.List.{length-take-le}
use Rattle.pl_shelf.specs.Capacity.{FitsBehind, IsFull}
use Rattle.pl_shelf.specs.Held.{Held, unknown, absent, holds, IsCutOff, created, with_end}
use Rattle.pl_output.specs.InTurn.{SavedInTurn}
use Rattle.pl_output.specs.Room.{HasRoom, HaveRoom, HaveRoomInTurn}
use Rattle.pl_output.specs.Saved.{Saving}
use Rattle.pl_output.proofs.Turns.{AreApart}

full_cut : (capacity : Option ℕ) (first now : Held) (text : List ℕ) (n : ℕ) → n < length text → now ≡ with_end first (take n text) →
    IsFull capacity now → FitsBehind capacity first text → ⊥
full_cut (Some capacity) (holds bs) now text n short is full fits =
    let all : capacity ≤ length (bs ++ take n text) = subst (λ h. IsFull (Some capacity) h) is full in
    omega (arith, all, fits, short, length-append bs (take n text), length-take-le n text (omega (arith, short)))
full_cut (Some capacity) absent now text n short is full fits = absurd fits
full_cut (Some capacity) unknown now text n short is full fits = absurd fits
full_cut None first now text n short is full fits = absurd fits

on_err_both : {T E P Q R : Type 0} (r : Result T E) → (P → Q → R) → OnErr r P → OnErr r Q → OnErr r R
on_err_both (Ok v) both first second = tt
on_err_both (Err e) both first second = both first second

-- what was cut off at a name that is full then did not fit at first
pub cut_unfit : {T E : Type 0} (r : Result T E) (before after : List ℕ → Option ℕ) (old new : List ℕ → Held) (name : List ℕ) (first : Held) (text : List ℕ) →
    after ≡ before → OnErr r (IsCutOff old new name first text) → OnErr r (IsFull (after name) (new name)) →
    OnErr r (FitsBehind (before name) first text → ⊥)
cut_unfit r before after old new name first text same cut full =
    on_err_both r
    (λ c f. full_cut (before name) first (new name) text c.0 c.1 c.2.named (subst (λ k. IsFull (k name) (new name)) same f))
    cut full

-- what is promised stays
pub no_room_still : (before after : List ℕ → Option ℕ) (held : List ℕ → Held) (s : Saving) → after ≡ before → (HasRoom after held s → ⊥) →
    HasRoom before held s → ⊥
no_room_still before after held s kept none room = none (subst (λ k. HasRoom k held s) (sym kept) room)

-- a front of the texts, and what is behind it
pub room_front : (capacity : List ℕ → Option ℕ) (old : List ℕ → Held) (xs ys : List Saving) → HaveRoomInTurn capacity old (xs ++ ys) →
    HaveRoomInTurn capacity old xs
room_front capacity old [] ys room = tt
room_front capacity old (x ∷ xs) ys room = (room.0, λ between saved. room_front capacity between xs ys (room.1 between saved))

pub room_behind : (capacity : List ℕ → Option ℕ) (old mid : List ℕ → Held) (xs ys : List Saving) → SavedInTurn old xs mid →
    HaveRoomInTurn capacity old (xs ++ ys) → HaveRoomInTurn capacity mid ys
room_behind capacity old mid [] ys first room = subst (λ m. HaveRoomInTurn capacity m ys) (sym first) room
room_behind capacity old mid (x ∷ xs) ys first room = room_behind capacity first.0 mid xs ys first.2 (room.1 first.0 first.1)

-- names that differ leave each other their room
pub room_in_turn : (capacity : List ℕ → Option ℕ) (old : List ℕ → Held) (savings : List Saving) → AllPairs AreApart savings →
    HaveRoom capacity old savings → HaveRoomInTurn capacity old savings
room_in_turn capacity old [] apart room = tt
room_in_turn capacity old (s ∷ ss) apart room = (
  room 0 s (omega arith),
  λ between saved.
      room_in_turn capacity between ss (λ i j d less within. apart (suc i) (suc j) d (omega (arith, less)) (omega (arith, within)))
      (λ k d within.
      let t = slice_index_or ss k d in
      subst (λ h. FitsBehind (capacity t.name) (created t.name h) t.text)
      (sym (saved.others t.name (λ same. apart 0 (suc k) d (omega arith) (omega (arith, within)) (sym same))))
      (room (suc k) d (omega (arith, within)))),
)
