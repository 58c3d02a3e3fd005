-- What the manager is told and what it says, in words.
use Rattle.std.specs.Prelude.{ℕ, Bool, if◌then◌else◌, List, [], ◌∷◌, ◌++◌, codes, decimal, length, Option, Some, None}
use Rattle.pl_frame.specs.Address.{ip4_text, mac_text}
use Rattle.pl_journal.specs.Text.{address_text, place_texts}
use Rattle.pl_node.specs.declared.messages.ToManager.{ToManager}
use Rattle.pl_node.specs.declared.messages.ToManager.TheVariants as told
use Rattle.pl_node.specs.declared.messages.ToSwitch.{ToSwitch}
use Rattle.pl_node.specs.declared.messages.ToSwitch.TheVariants as says
use Rattle.pl_node.specs.declared.messages.TreePart.{TreePart}
use Rattle.pl_wiring.specs.Plan.{Plan}
use Rattle.pl_log_lines.specs.declared.kind.Kind.{Kind}
use Rattle.pl_log_lines.specs.declared.kind.Kind.TheVariants as kind
use Rattle.pl_log_lines.specs.declared.row.Verb.{Verb}
use Rattle.pl_log_lines.specs.Rows.{Below, id_word, ip_word, known_id_word}

abbrev pub usable_word : Bool → List ℕ
usable_word usable = if usable then codes "usable" else codes "unusable"

abbrev pub any_word : Bool → List ℕ
any_word any = if any then codes "some" else codes "none"

-- the group, the neighbour above, and how many are below; the group alone where the switch has no part of its tree
abbrev pub tree_words : Plan → ℕ → Option TreePart → List (List ℕ)
tree_words plan group None = decimal group ∷ []
tree_words plan group (Some part) = decimal group ∷ known_id_word plan part.up ∷ decimal (length part.down) ∷ []

abbrev pub told_kind : ToManager → Kind
told_kind (told.Place place) = kind.Place
told_kind (told.Link neighbour usable) = kind.Link
told_kind told.PodWanted = kind.PodWanted
told_kind (told.Learned pmac amac ip) = kind.Learned
told_kind (told.Aged pmac number) = kind.Aged
told_kind (told.Begin epoch) = kind.Begin
told_kind (told.End epoch) = kind.End
told_kind (told.Trapped old new number) = kind.Trapped
told_kind (told.Query asker asker_ip ip) = kind.Query
told_kind (told.Members group any) = kind.Members

abbrev pub says_kind : ToSwitch → Kind
says_kind (says.Pod pod) = kind.Pod
says_kind (says.Answer asker asker_ip ip pmac) = kind.Answer
says_kind (says.Flood asker asker_ip ip) = kind.Flood
says_kind (says.Avoid list) = kind.Avoid
says_kind (says.Invalidate old new number ip) = kind.Invalidate
says_kind (says.Release pmac) = kind.Release
says_kind (says.Hello epoch) = kind.Hello
says_kind (says.Tree group part) = kind.Tree

module _ (plan : Plan) where
  abbrev pub told_words : ToManager → List (List ℕ)
  told_words (told.Place place) = place_texts place
  told_words (told.Link neighbour usable) = id_word plan neighbour ∷ usable_word usable ∷ []
  told_words told.PodWanted = []
  told_words (told.Learned pmac amac ip) = address_text pmac ∷ mac_text amac ∷ ip_word ip ∷ []
  told_words (told.Aged pmac number) = address_text pmac ∷ decimal number ∷ []
  told_words (told.Begin epoch) = decimal epoch ∷ []
  told_words (told.End epoch) = decimal epoch ∷ []
  told_words (told.Trapped old new number) = address_text old ∷ address_text new ∷ decimal number ∷ []
  told_words (told.Query asker asker_ip ip) = ip4_text ip ∷ address_text asker ∷ ip4_text asker_ip ∷ []
  told_words (told.Members group any) = decimal group ∷ any_word any ∷ []

  abbrev pub told_line : Option ℕ → Verb → ToManager → Below
  told_line node verb t = record { node = node; verb = verb; kind = told_kind t; words = told_words t }

  -- what a list changes is said where it is known
  abbrev pub says_words : ToSwitch → List (List ℕ)
  says_words (says.Pod pod) = decimal pod ∷ []
  says_words (says.Answer asker asker_ip ip pmac) = ip4_text ip ∷ address_text pmac ∷ address_text asker ∷ ip4_text asker_ip ∷ []
  says_words (says.Flood asker asker_ip ip) = ip4_text ip ∷ address_text asker ∷ ip4_text asker_ip ∷ []
  says_words (says.Avoid list) = []
  says_words (says.Invalidate old new number ip) = address_text old ∷ address_text new ∷ decimal number ∷ ip_word ip ∷ []
  says_words (says.Release pmac) = address_text pmac ∷ []
  says_words (says.Hello epoch) = decimal epoch ∷ []
  says_words (says.Tree group part) = tree_words plan group part

  -- behind the switch, where that is not known from the event
  abbrev pub says_line : Option ℕ → Verb → List (List ℕ) → ToSwitch → Below
  says_line node verb to s = record { node = node; verb = verb; kind = says_kind s; words = to ++ says_words s }
