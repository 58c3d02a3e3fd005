-- Worked examples of what words ask for.
use Rattle.std.specs.Prelude.{◌≡◌, ℕ, List, [], ◌∷◌, ◌++◌, codes, Option, Some, None, refl}
use Rattle.pl_script.specs.Numbers.{number_of}
use Rattle.pl_inputs.specs.declared.words.Network.TheVariants.{Bridges, Fabric}
use Rattle.pl_inputs.specs.Words.{Task, Run, Check, Generate, Verify, given_by, given_in, items_of, generation_of, task_of}

abbrev asks : List (List ℕ) → Option Task
asks words = task_of (codes "portland" ∷ words)

-- run

abbrev three : List (List ℕ)
three = codes "--topology=t" ∷ codes "--script" ∷ codes "s" ∷ codes "--captures=c" ∷ []

abbrev runs_into : List ℕ → Option Task
runs_into out = Some (Run (record { network = Fabric; topology = codes "t"; script = codes "s"; captures = codes "c"; out = out }))

in_any_order_and_form : asks (codes "run" ∷ codes "--out" ∷ codes "o=p" ∷ three) ≡ runs_into (codes "o=p")
unfolding given_by given_in items_of task_of
in_any_order_and_form = refl

a_dash_behind_equals : asks (codes "run" ∷ codes "--out=-o=" ∷ three) ≡ runs_into (codes "-o=")
unfolding given_by given_in items_of task_of
a_dash_behind_equals = refl

a_dash_in_a_word_of_its_own : asks (codes "run" ∷ codes "--out" ∷ codes "-o" ∷ three) ≡ None
unfolding given_by given_in items_of task_of
a_dash_in_a_word_of_its_own = refl

nothing_behind_equals : asks (codes "run" ∷ codes "--out=" ∷ three) ≡ None
unfolding given_by given_in items_of task_of
nothing_behind_equals = refl

no_value : asks (codes "run" ∷ three ++ codes "--out" ∷ []) ≡ None
unfolding given_by given_in items_of task_of
no_value = refl

one_is_missing : asks (codes "run" ∷ three) ≡ None
unfolding given_by given_in items_of task_of
one_is_missing = refl

twice : asks (codes "run" ∷ codes "--out=o" ∷ codes "--script=s" ∷ three) ≡ None
unfolding given_by given_in items_of task_of
twice = refl

an_item_of_gen : asks (codes "run" ∷ codes "--out=o" ∷ codes "--k=4" ∷ three) ≡ None
unfolding given_by given_in items_of task_of
an_item_of_gen = refl

-- bridge

on_bridges : asks (codes "bridge" ∷ codes "--out" ∷ codes "o" ∷ three)
    ≡ Some (Run (record { network = Bridges; topology = codes "t"; script = codes "s"; captures = codes "c"; out = codes "o" }))
unfolding given_by given_in items_of task_of
on_bridges = refl

one_is_missing_too : asks (codes "bridge" ∷ three) ≡ None
unfolding given_by given_in items_of task_of
one_is_missing_too = refl

-- check

one_item : asks (codes "check" ∷ codes "--topology" ∷ codes "t" ∷ []) ≡ Some (Check (codes "t"))
unfolding given_by given_in items_of task_of
one_item = refl

an_item_of_run : asks (codes "check" ∷ codes "--topology=t" ∷ codes "--out=o" ∷ []) ≡ None
unfolding given_by given_in items_of task_of
an_item_of_run = refl

no_topology : asks (codes "check" ∷ []) ≡ None
unfolding items_of task_of
no_topology = refl

-- gen

abbrev draws : List ℕ → List ℕ → List ℕ → Option Task
draws k number frames = asks (codes "gen" ∷ codes "--frames" ∷ frames ∷ codes "--k" ∷ k ∷ codes "--number" ∷ number ∷ [])

three_numbers : draws (codes "4") (codes "7") (codes "100") ≡ Some (Generate (record { k = 4; number = 7; frames = 100 }))
unfolding number_of given_by given_in items_of generation_of task_of
three_numbers = refl

at_the_limits : draws (codes "24") (codes "18446744073709551615") (codes "00000000000000100000")
    ≡ Some (Generate (record { k = 24; number = 18446744073709551615; frames = 100000 }))
unfolding number_of given_by given_in items_of generation_of task_of
at_the_limits = refl

an_odd_k : draws (codes "5") (codes "7") (codes "100") ≡ None
unfolding number_of given_by given_in items_of generation_of task_of
an_odd_k = refl

a_small_k : draws (codes "2") (codes "7") (codes "100") ≡ None
unfolding number_of given_by given_in items_of generation_of task_of
a_small_k = refl

a_large_k : draws (codes "26") (codes "7") (codes "100") ≡ None
unfolding number_of given_by given_in items_of generation_of task_of
a_large_k = refl

beyond_64_bits : draws (codes "4") (codes "18446744073709551616") (codes "100") ≡ None
unfolding number_of given_by given_in items_of generation_of task_of
beyond_64_bits = refl

no_frames : draws (codes "4") (codes "7") (codes "0") ≡ None
unfolding number_of given_by given_in items_of generation_of task_of
no_frames = refl

too_many_frames : draws (codes "4") (codes "7") (codes "100001") ≡ None
unfolding number_of given_by given_in items_of generation_of task_of
too_many_frames = refl

twenty_one_digits : draws (codes "4") (codes "000000000000000000007") (codes "100") ≡ None
unfolding number_of given_by given_in items_of generation_of task_of
twenty_one_digits = refl

no_number : draws (codes "4") (codes "seven") (codes "100") ≡ None
unfolding number_of given_by given_in items_of generation_of task_of
no_number = refl

an_item_of_check : asks (codes "gen" ∷ codes "--k=4" ∷ codes "--number=7" ∷ codes "--frames=1" ∷ codes "--topology=t" ∷ []) ≡ None
unfolding given_by given_in items_of task_of
an_item_of_check = refl

-- verify

two_items : asks (codes "verify" ∷ codes "--journal" ∷ codes "j" ∷ codes "--topology=t" ∷ []) ≡ Some (Verify (codes "t") (codes "j"))
unfolding given_by given_in items_of task_of
two_items = refl

no_journal : asks (codes "verify" ∷ codes "--topology=t" ∷ []) ≡ None
unfolding given_by given_in items_of task_of
no_journal = refl

-- no command

another_word : asks (codes "help" ∷ codes "--topology=t" ∷ []) ≡ None
unfolding task_of
another_word = refl

no_command : asks [] ≡ None
unfolding task_of
no_command = refl
