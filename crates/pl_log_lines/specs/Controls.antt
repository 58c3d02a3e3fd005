-- What a control frame says, in words.
use Rattle.std.specs.Prelude.{ℕ, ◌==◌, Bool, if◌then◌else◌, List, [], ◌∷◌, ◌++◌, codes, decimal, Option, Some, None, Result, Ok, Err, drop}
use Rattle.std.specs.Option.{option_map_or}
use Rattle.pl_layouts.specs.declared.control.Control.{Control}
use Rattle.pl_layouts.specs.declared.control.Control.TheVariants as control
use Rattle.pl_layouts.specs.declared.control.ControlError.{ControlError}
use Rattle.pl_layouts.specs.declared.control.Ldm.{Ldm}
use Rattle.pl_layouts.specs.declared.control.Proposal.{Proposal}
use Rattle.pl_layouts.specs.declared.control.Vote.{Vote}
use Rattle.pl_layouts.specs.Control.{control_in, sender_of}
use Rattle.pl_journal.specs.Text.{place_texts}
use Rattle.pl_wiring.specs.Plan.{Plan}
use Rattle.pl_log_lines.specs.declared.kind.Kind.TheVariants as kind
use Rattle.pl_log_lines.specs.declared.row.Verb.{Verb}
use Rattle.pl_log_lines.specs.Rows.{Below, id_word, known_id_word, unknown}

abbrev pub direction_word : ℕ → List ℕ
direction_word direction = if direction == 1 then codes "up" else if direction == 2 then codes "down" else unknown

abbrev pub fixed_word : Bool → List ℕ
fixed_word fixed = if fixed then codes "fixed" else codes "open"

-- level, position and pod, direction and echo
abbrev pub ldm_words : Plan → Ldm → List (List ℕ)
ldm_words plan m = place_texts m.place ++ direction_word m.direction ∷ known_id_word plan m.echo ∷ []

abbrev pub proposal_words : Proposal → List (List ℕ)
proposal_words p = decimal p.attempt ∷ decimal p.position ∷ []

-- a refusal names who holds the position, and whether that is fixed
abbrev pub answer_words : Plan → Vote → List (List ℕ)
answer_words plan v = if v.granted then codes "granted" ∷ [] else codes "refused" ∷ known_id_word plan v.holder ∷ fixed_word v.fixed ∷ []

abbrev pub vote_words : Plan → Vote → List (List ℕ)
vote_words plan v = decimal v.attempt ∷ decimal v.position ∷ answer_words plan v

module _ (plan : Plan) (node : Option ℕ) (verb : Verb) where
  abbrev pub said_line : List ℕ → Control → Below
  said_line first (control.Ldm id m) = record { node = node; verb = verb; kind = kind.Ldm; words = first ∷ ldm_words plan m }
  said_line first (control.Proposal id p) = record { node = node; verb = verb; kind = kind.Proposal; words = first ∷ proposal_words p }
  said_line first (control.Vote id v) = record { node = node; verb = verb; kind = kind.Vote; words = first ∷ vote_words plan v }

  -- with the port before what it says, or with the sender; one that cannot be read says nothing
  abbrev pub control_line_of : Option (List ℕ) → Result Control ControlError → Below
  control_line_of None (Ok c) = said_line (id_word plan (sender_of c)) c
  control_line_of (Some by) (Ok c) = said_line by c
  control_line_of by (Err e) = record { node = node; verb = verb; kind = kind.Unread; words = option_map_or (λ word. word) by unknown ∷ [] }

  abbrev pub control_line : Option (List ℕ) → List ℕ → Below
  control_line by frame = control_line_of by (control_in (drop 14 frame))
