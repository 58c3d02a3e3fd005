-- A manager that begins anew in a tree of two switches, computed: what it knows is the list of words that it treated.
use Rattle.std.specs.Prelude.{◌≡◌, ℕ, ◌==◌, Bool, true, List, [], ◌∷◌, ◌++◌, fold, refl}
use Rattle.pl_frame.specs.declared.address.SwitchId.{SwitchId}
use Rattle.pl_gathering.specs.Acting.{Done, steps}
use Rattle.pl_gathering.specs.Gathering.{Gathered, Heard, Report, due, hears, is_whole, report, restarted}
use Rattle.pl_gathering.specs.Gathering.Report.{Begin, End, Tells}

-- a switch by its number, and the word that it told
abbrev Treated : Type 0
Treated = List (ℕ × ℕ)

abbrev treat : Treated → Heard ℕ → Treated
treat known h = known ++ (h.switch.0, h.word) ∷ []

-- word 9 waits for all others
abbrev waits : ℕ → Bool
waits word = word == 9

-- 100 is done once what is heard now, or what was kept, is treated
abbrev after : Treated → Treated
after known = known ++ (0, 100) ∷ []

abbrev the_switch : ℕ → SwitchId
the_switch n = record { 0 = n }

abbrev Manager : Type 0
Manager = Gathered Treated ℕ

-- it hears reports, each with the number of its switch
abbrev heard : Manager → List (ℕ × Report ℕ) → Manager
heard g reports = fold (λ h r. hears treat waits after h (the_switch r.0) r.1) g reports

abbrev at_first : Manager
at_first = record { many = 2; epoch = 0; begun = []; ended = []; kept = []; known = [] }

-- its first restart
abbrev anew : Manager
anew = restarted [] 1 (heard at_first ((1, Tells 7) ∷ []))

words_are_treated_at_once_at_first : (heard at_first ((1, Tells 7) ∷ (2, Tells 8) ∷ [])).known ≡ (1, 7) ∷ (0, 100) ∷ (2, 8) ∷ (0, 100) ∷ []
words_are_treated_at_once_at_first = refl

nothing_is_known_anew : anew.known ≡ []
nothing_is_known_anew = refl

-- a word before `Begin`, the `Begin` of another epoch, and an `End` before `Begin` are not heard
not_heard_before_begin : heard anew ((1, Tells 5) ∷ (1, Begin 2) ∷ (1, End 1) ∷ []) ≡ anew
not_heard_before_begin = refl

the_words_of_a_report_stand_between_begin_and_end : report {T = ℕ} 1 (9 ∷ 5 ∷ []) ≡ Begin 1 ∷ Tells 9 ∷ Tells 5 ∷ End 1 ∷ []
the_words_of_a_report_stand_between_begin_and_end = refl

abbrev one_ended : Manager
one_ended = heard anew ((1, Tells 3) ∷ (1, Begin 1) ∷ (1, Tells 9) ∷ (1, Tells 5) ∷ (1, End 1) ∷ (1, Tells 6) ∷ [])

-- nothing is treated while a report is missing
nothing_is_treated_yet : one_ended.known ≡ []
nothing_is_treated_yet = refl

words_are_kept_in_order : one_ended.kept
    ≡ record { switch = the_switch 1; word = 9 } ∷ record { switch = the_switch 1; word = 5 } ∷ record { switch = the_switch 1; word = 6 } ∷ []
words_are_kept_in_order = refl

-- what is due of the switch that ended is what is kept and what waits; of the other one what stands behind its `Begin`
due_of_one_that_ended : due one_ended (λ s. Tells 4 ∷ []) (the_switch 1) ≡ 9 ∷ 5 ∷ 6 ∷ 4 ∷ []
due_of_one_that_ended = refl

due_of_one_that_did_not_begin : due one_ended (λ s. Tells 4 ∷ Begin 1 ∷ Tells 8 ∷ End 1 ∷ []) (the_switch 2) ≡ 8 ∷ []
due_of_one_that_did_not_begin = refl

-- at the last `End` all that was kept is treated, a word that waits last, and then what follows
abbrev both_ended : Manager
both_ended = heard one_ended ((2, Begin 1) ∷ (2, Tells 8) ∷ (2, End 1) ∷ [])

all_is_treated_at_the_last_end : both_ended.known ≡ (1, 5) ∷ (1, 6) ∷ (2, 8) ∷ (1, 9) ∷ (0, 100) ∷ []
all_is_treated_at_the_last_end = refl

no_report_is_missing : is_whole both_ended ≡ true
no_report_is_missing = refl

nothing_is_kept_then : both_ended.kept ≡ []
nothing_is_kept_then = refl

-- from then on words are treated at once, and a second `Begin` or `End` changes nothing
at_once_from_then_on : (heard both_ended ((2, Tells 2) ∷ (1, Begin 1) ∷ (1, End 1) ∷ [])).known ≡ (1, 5) ∷ (1, 6) ∷ (2, 8) ∷ (1, 9) ∷ (0, 100) ∷ (2, 2) ∷ (0, 100) ∷ []
at_once_from_then_on = refl

-- what it does: a word that is treated says itself, and what follows says 100
abbrev says : Treated → Heard ℕ → Done Treated ℕ
says known h = record { known = treat known h; acts = h.word ∷ [] }

abbrev says_behind : Treated → Done Treated ℕ
says_behind known = record { known = after known; acts = 100 ∷ [] }

abbrev said : Manager → ℕ → Report ℕ → List ℕ
said g s r = (steps says waits says_behind g (the_switch s) r).acts

nothing_is_said_while_a_report_is_missing : said one_ended 1 (Tells 6) ≡ []
nothing_is_said_while_a_report_is_missing = refl

all_is_said_at_the_last_end : said (heard one_ended ((2, Begin 1) ∷ (2, Tells 8) ∷ [])) 2 (End 1) ≡ 5 ∷ 6 ∷ 8 ∷ 9 ∷ 100 ∷ []
all_is_said_at_the_last_end = refl

each_word_is_answered_from_then_on : said both_ended 2 (Tells 2) ≡ 2 ∷ 100 ∷ []
each_word_is_answered_from_then_on = refl
