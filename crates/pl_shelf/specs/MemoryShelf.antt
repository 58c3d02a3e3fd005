-- What a memory shelf is, and what each call makes of it.
use Rattle.std.specs.Prelude.{ℕ, ◌+◌, ◌-◌, ◌^◌, List, [], ◌∷◌, ◌++◌, length, min, map, Contains, Option, None, Some, option_and_then, if◌then◌else◌, refl, String}
use Rattle.std.specs.Option.{option_map}
use Rattle.std.specs.Ordering.{nat_cmp}
use Rattle.std.specs.Cmp.Lexicographic.{slice_cmp}
use Rattle.std.specs.Str.{bytes_eq}
use Rattle.std.specs.String.{string_bytes}
use Rattle.std.specs.BTreeMap.{BTreeMap}
use Rattle.std.specs.FinMap.{FinMap, from_entries, get, insert, empty}
use Rattle.std.specs.FinMap as map
use Rattle.std.specs.Coded.{Coded, code_by, coded×, coded_ℕ, coded_list, coded_option}
use Rattle.pl_shelf.specs.Held.{Held, ShelfMoment, absent, holds, standard_output}

-- A name that was held or allowed: the bytes that it holds, None while it is absent, and how many it may hold.
pub record Place : Type 0 where
  pub content : Option (List ℕ)
  pub room : ℕ

abbrev pub Places : Type 0
Places = FinMap (slice_cmp nat_cmp) Place

pub record MemoryState : Type 0 where
  pub places : Places
  -- how many bytes a write takes at most
  pub piece : ℕ
  -- the numbers of the calls that are to fail
  pub failing : List ℕ
  pub calls : ℕ
  pub read_faults : ℕ
  pub write_faults : ℕ

abbrev pub place_code : Coded Place
place_code =
    code_by (Option (List ℕ) × ℕ) (coded× (coded_option (coded_list coded_ℕ)) coded_ℕ)
    (λ p. (p.content, p.room)) (λ t. record { content = t.0; room = t.1 }) (λ _. refl)

abbrev pub memory_code : Coded MemoryState
memory_code =
    code_by (Places × (ℕ × (List ℕ × (ℕ × (ℕ × ℕ)))))
    (coded× (map.code (coded_list coded_ℕ) place_code)
    (coded× coded_ℕ (coded× (coded_list coded_ℕ) (coded× coded_ℕ (coded× coded_ℕ coded_ℕ)))))
    (λ m. (m.places, (m.piece, (m.failing, (m.calls, (m.read_faults, m.write_faults))))))
    (λ t. record {
      places = t.0;
      piece = t.1.0;
      failing = t.1.1.0;
      calls = t.1.1.1.0;
      read_faults = t.1.1.1.1.0;
      write_faults = t.1.1.1.1.1;
    })
    (λ _. refl)

-- the places that a map by names keeps
abbrev pub places_of : {Y : Type 0} → BTreeMap (String Y) Place → Places
places_of m = from_entries (map (λ e. (string_bytes e.0, e.1)) m.entries)

-- the bytes that a name holds, None where it is absent
abbrev pub content_in : Places → List ℕ → Option (List ℕ)
content_in places name = option_and_then (λ p. p.content) (get places name)

abbrev pub held_of : Option (List ℕ) → Held
held_of None = absent
held_of (Some bs) = holds bs

-- what a name holds, as a shelf tells it
abbrev pub held_in : Places → List ℕ → Held
held_in places name = held_of (content_in places name)

-- what a shelf tells at a moment
abbrev pub memory_moment : MemoryState → ShelfMoment
memory_moment m = record { held = held_in m.places; read_faults = m.read_faults; write_faults = m.write_faults }

-- how many bytes more a place takes: none while it is absent
abbrev pub room_behind : ℕ → Option (List ℕ) → ℕ
room_behind room None = 0
room_behind room (Some bs) = room - length bs

abbrev pub room_at : Option Place → ℕ
room_at None = 0
room_at (Some p) = room_behind p.room p.content

abbrev pub room_in : Places → List ℕ → ℕ
room_in places name = room_at (get places name)

-- how many bytes a name may hold; None where it was neither held nor allowed
abbrev pub capacity_in : Places → List ℕ → Option ℕ
capacity_in places name = option_map (λ p. p.room) (get places name)

-- with a call that is to fail nothing is promised
abbrev pub unless_failing : List ℕ → (List ℕ → Option ℕ) → List ℕ → Option ℕ
unless_failing [] capacity = capacity
unless_failing (call ∷ more) capacity = λ name. None

abbrev pub capacity_of : MemoryState → List ℕ → Option ℕ
capacity_of m = unless_failing m.failing (capacity_in m.places)

-- the numbers of calls and of faults end at the last value of their type
abbrev pub one_more : ℕ → ℕ
one_more n = min (n + 1) (2 ^ 64 - 1)

-- the call that is made now is on the list of those that are to fail
abbrev pub IsToFail : MemoryState → Type 0
IsToFail m = Contains m.failing (one_more m.calls)

abbrev pub empty_memory : ℕ → MemoryState
empty_memory piece = record { places = empty; piece = piece; failing = []; calls = 0; read_faults = 0; write_faults = 0 }

-- with this place at a name
abbrev pub placed : MemoryState → List ℕ → Place → MemoryState
placed m name place = record m { places = insert m.places name place }

-- a place that was allowed: absent, but for standard output, which is there at once
abbrev pub allowed : List ℕ → ℕ → Place
allowed name room = record { content = if bytes_eq name standard_output then Some [] else None; room = room }

-- with a change of the place at a name, if there is one
abbrev pub put_changed : Places → List ℕ → (Place → Place) → Option Place → Places
put_changed places name change None = places
put_changed places name change (Some p) = insert places name (change p)

abbrev pub with_change : Places → List ℕ → (Place → Place) → Places
with_change places name change = put_changed places name change (get places name)

abbrev pub emptied_place : Place → Place
emptied_place p = record p { content = Some [] }

-- with these bytes at the end of what it holds
abbrev pub longer_place : List ℕ → Place → Place
longer_place more p = record p { content = option_map (λ bs. bs ++ more) p.content }

-- after a call that went well
abbrev pub counted : MemoryState → MemoryState
counted m = record m { calls = one_more m.calls }

abbrev pub read_failed : MemoryState → MemoryState
read_failed m = record m { calls = one_more m.calls; read_faults = one_more m.read_faults }

abbrev pub write_failed : MemoryState → MemoryState
write_failed m = record m { calls = one_more m.calls; write_faults = one_more m.write_faults }

-- after the creation of a name; standard output keeps what it has
abbrev pub created_memory : MemoryState → List ℕ → MemoryState
created_memory m name =
    record m {
      places = if bytes_eq name standard_output then m.places else with_change m.places name emptied_place;
      calls = one_more m.calls;
    }

-- after these bytes were added at a name's end
abbrev pub longer_memory : MemoryState → List ℕ → List ℕ → MemoryState
longer_memory m name more =
    record m { places = with_change m.places name (longer_place more); calls = one_more m.calls }
