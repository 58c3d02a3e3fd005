-- What the words of the command line ask for.
use Rattle.std.specs.Prelude.{ℕ, Bool, false, ◌==◌, ◌%◌, if◌then◌else◌, List, [], ◌∷◌, map, filter, codes, Option, Some, None, option_map}
use Rattle.std.specs.Option.{option_and_then}
use Rattle.std.specs.Result.{result_ok}
use Rattle.std.specs.List.{list_any, before_first, after_first}
use Rattle.std.specs.Str.{bytes_eq}
use Rattle.pl_script.specs.Numbers.{number_of}
use Rattle.pl_inputs.specs.declared.words.Generation.{Generation}
use Rattle.pl_inputs.specs.declared.words.Network.{Network}
use Rattle.pl_inputs.specs.declared.words.Network.TheVariants.{Bridges, Fabric}

-- what a run is played on, the files that it reads, and the folder that it saves into
pub record Asked : Type 0 where
  pub network : Network
  pub topology : List ℕ
  pub script : List ℕ
  pub captures : List ℕ
  pub out : List ℕ

-- what the program is asked to do: to play a script, to read a topology, to play what it makes itself, or to read a topology and a journal
pub data Task : Type 0 where
  Run : Asked → Task
  Check : List ℕ → Task
  Generate : Generation → Task
  Verify : List ℕ → List ℕ → Task

-- the names of the items that each command takes
abbrev pub run_items : List (List ℕ)
run_items = codes "--topology" ∷ codes "--script" ∷ codes "--captures" ∷ codes "--out" ∷ []

abbrev pub check_items : List (List ℕ)
check_items = codes "--topology" ∷ []

abbrev pub generate_items : List (List ℕ)
generate_items = codes "--k" ∷ codes "--number" ∷ codes "--frames" ∷ []

abbrev pub verify_items : List (List ℕ)
verify_items = codes "--topology" ∷ codes "--journal" ∷ []

-- an item: its name and its value
abbrev pub Given : Type 0
Given = List ℕ × List ℕ

abbrev pub is_equals : ℕ → Bool
is_equals byte = byte == 61

abbrev pub begins_with_dash : List ℕ → Bool
begins_with_dash [] = false
begins_with_dash (byte ∷ bytes) = byte == 45

abbrev pub is_among : List (List ℕ) → List ℕ → Bool
is_among names name = list_any (λ n. bytes_eq n name) names

-- the item of that name and value, where the command takes it and the value is not empty
unfoldable pub given_by : List (List ℕ) → List ℕ → List ℕ → Option Given
given_by names name [] = None
given_by names name (byte ∷ bytes) = if is_among names name then Some (name, byte ∷ bytes) else None

-- an item before others
abbrev pub beside : Option Given → Option (List Given) → Option (List Given)
beside (Some item) (Some items) = Some (item ∷ items)
beside _ _ = None

-- an item in one word: --name=VALUE, parted by the first =
unfoldable pub given_in : List (List ℕ) → List ℕ → Option Given
given_in names word = given_by names (before_first is_equals word) (after_first is_equals word)

unfoldable mutual
  -- each item is one word with a =, or a name and the word behind it
  pub items_of : List (List ℕ) → List (List ℕ) → Option (List Given)
  items_of names [] = Some []
  items_of names (word ∷ words) =
      if list_any is_equals word then beside (given_in names word) (items_of names words) else items_behind names word words

  -- a value that does not begin with a dash, and then more items
  pub items_behind : List (List ℕ) → List ℕ → List (List ℕ) → Option (List Given)
  items_behind names name [] = None
  items_behind names name (value ∷ words) =
      if begins_with_dash value then None else beside (given_by names name value) (items_of names words)

abbrev pub values : List ℕ → List Given → List (List ℕ)
values name items = map (λ item. item.1) (filter (λ item. bytes_eq item.0 name) items)

-- the value, where there is one and no second
abbrev pub only : List (List ℕ) → Option (List ℕ)
only (value ∷ []) = Some value
only _ = None

abbrev pub value_in : List ℕ → List Given → Option (List ℕ)
value_in name items = only (values name items)

-- the same of an item that need not be there
abbrev pub at_most_one : List (List ℕ) → Option (Option (List ℕ))
at_most_one [] = Some None
at_most_one (value ∷ []) = Some (Some value)
at_most_one _ = None

abbrev pub value_if_given : List ℕ → List Given → Option (Option (List ℕ))
value_if_given name items = at_most_one (values name items)

-- a value before others
abbrev pub before : Option (List ℕ) → Option (List (List ℕ)) → Option (List (List ℕ))
before (Some value) (Some values) = Some (value ∷ values)
before _ _ = None

-- the values of the items with these names, in the order of the names: each is there, and no second time
abbrev pub values_in : List (List ℕ) → List Given → Option (List (List ℕ))
values_in [] items = Some []
values_in (name ∷ names) items = before (value_in name items) (values_in names items)

-- the same by the words; an item of another name is none
abbrev pub values_by : List (List ℕ) → List (List ℕ) → Option (List (List ℕ))
values_by names words = option_and_then (values_in names) (items_of names words)

-- a number from least to most, of 1 to 20 digits
abbrev pub number_in : ℕ → ℕ → List ℕ → Option ℕ
number_in least most text = result_ok (number_of least most text)

abbrev pub even : ℕ → Option ℕ
even n = if n % 2 == 0 then Some n else None

-- how many ports a switch has: an even number from 4 to 24
abbrev pub arity_in : List ℕ → Option ℕ
arity_in text = option_and_then even (number_in 4 24 text)

abbrev pub all_drawn : Option ℕ → Option ℕ → Option ℕ → Option Generation
all_drawn (Some k) (Some number) (Some frames) = Some (record { k = k; number = number; frames = frames })
all_drawn _ _ _ = None

unfoldable pub generation_of : List ℕ → List ℕ → List ℕ → Option Generation
generation_of k number frames = all_drawn (arity_in k) (number_in 0 18446744073709551615 number) (number_in 1 100000 frames)

-- what a command asks for with the values of its items
abbrev pub run_by : Network → List (List ℕ) → Option Task
run_by network (t ∷ s ∷ c ∷ o ∷ []) = Some (Run (record { network = network; topology = t; script = s; captures = c; out = o }))
run_by network _ = None

abbrev pub check_by : List (List ℕ) → Option Task
check_by (topology ∷ []) = Some (Check topology)
check_by _ = None

abbrev pub generate_by : List (List ℕ) → Option Task
generate_by (k ∷ number ∷ frames ∷ []) = option_map Generate (generation_of k number frames)
generate_by _ = None

abbrev pub verify_by : List (List ℕ) → Option Task
verify_by (topology ∷ journal ∷ []) = Some (Verify topology journal)
verify_by _ = None

-- the program's name, then the command, then its items in any order
unfoldable pub task_of : List (List ℕ) → Option Task
task_of (program ∷ command ∷ words) =
    if bytes_eq command (codes "run") then option_and_then (run_by Fabric) (values_by run_items words)
    else if bytes_eq command (codes "bridge") then option_and_then (run_by Bridges) (values_by run_items words)
    else if bytes_eq command (codes "check") then option_and_then check_by (values_by check_items words)
    else if bytes_eq command (codes "gen") then option_and_then generate_by (values_by generate_items words)
    else if bytes_eq command (codes "verify") then option_and_then verify_by (values_by verify_items words)
    else None
task_of _ = None
