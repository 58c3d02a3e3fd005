-- Looks that are the same by their parts.
use Rattle.std.proofs.Common.{◌≡◌, ◌==◌, ◌&&◌, ℕ, Bool, true, false, Option, None, Some, refl, sym, ap, ◌∙◌}
use Rattle.std.specs.List.{find}
use Rattle.std.specs.Str.{bytes_eq}
use Rattle.std.proofs.lemmas.Bool.{and_parts, eqb-true}
use Rattle.std.proofs.lemmas.Option.{same_Some}
use Rattle.std.proofs.lemmas.Slice.Eq.{bytes_eq-Decides}
use Rattle.pl_wiring.specs.declared.label.SwitchNo.{SwitchNo}
use Rattle.pl_log_lines.specs.declared.kind.Kind.{Kind}
use Rattle.pl_log_lines.specs.declared.kind.Kind.TheVariants as kind
use Rattle.pl_log_lines.specs.declared.look.Look.{Look}
use Rattle.pl_log_lines.specs.Kinds.{all_kinds, kind_text}
use Rattle.pl_watch.specs.SameLooks.{same_kind, same_label, same_look}
use Rattle.pl_watch.specs.News.{same_bool, same_option}

-- each kind is the one that its word names
named : (k : Kind) → find (λ x. bytes_eq (kind_text x) (kind_text k)) all_kinds ≡ Some k
named kind.Ldm = refl
named kind.Proposal = refl
named kind.Vote = refl
named kind.Unread = refl
named kind.Frame = refl
named kind.Place = refl
named kind.Link = refl
named kind.PodWanted = refl
named kind.Learned = refl
named kind.Aged = refl
named kind.Begin = refl
named kind.End = refl
named kind.Trapped = refl
named kind.Query = refl
named kind.Members = refl
named kind.Pod = refl
named kind.Answer = refl
named kind.Flood = refl
named kind.Avoid = refl
named kind.Invalidate = refl
named kind.Release = refl
named kind.Hello = refl
named kind.Tree = refl
named kind.Grant = refl
named kind.Free = refl
named kind.Make = refl
named kind.Redirect = refl
named kind.Pass = refl
named kind.Take = refl
named kind.Drop = refl
named kind.Number = refl
named kind.Port = refl
named kind.Silent = refl
named kind.Attempt = refl
named kind.Granted = refl
named kind.Hold = refl
named kind.Below = refl

same_word : (a b : Kind) → bytes_eq (kind_text a) (kind_text b) ≡ true → a ≡ b
same_word a b same =
    same_Some a b (sym (named a) ∙ ap (λ word. find (λ x. bytes_eq (kind_text x) word) all_kinds) ((bytes_eq-Decides (kind_text a) (kind_text b)).0 same)
    ∙ named b)

look_of : Option SwitchNo → Option Kind → ℕ → ℕ → Bool → Look
look_of of kind first last json = record { of = of; kind = kind; first = first; last = last; json = json }

parts_are : (a b : Look) → a.of ≡ b.of → a.kind ≡ b.kind → a.first ≡ b.first → a.last ≡ b.last → a.json ≡ b.json → a ≡ b
unfolding look_of
parts_are a b of kind first last json =
    ap (λ x. look_of x a.kind a.first a.last a.json) of ∙ ap (λ x. look_of b.of x a.first a.last a.json) kind
    ∙ ap (λ x. look_of b.of b.kind x a.last a.json) first ∙ ap (λ x. look_of b.of b.kind b.first x a.json) last
    ∙ ap (λ x. look_of b.of b.kind b.first b.last x) json

truth_is : (a b : Bool) → same_bool a b ≡ true → a ≡ b
truth_is true true is = refl
truth_is true false is = absurd (cc)
truth_is false true is = absurd (cc)
truth_is false false is = refl

option_is : {T : Type 0} (same : T → T → Bool) → ((a b : T) → same a b ≡ true → a ≡ b) → (a b : Option T) → same_option same a b ≡ true → a ≡ b
option_is same each None None is = refl
option_is same each None (Some b) is = absurd (cc)
option_is same each (Some a) None is = absurd (cc)
option_is same each (Some a) (Some b) is = ap (λ x. Some x) (each a b is)

made : ℕ → SwitchNo
made n = record { 0 = n }

same_no : (a b : SwitchNo) → a.0 ≡ b.0 → a ≡ b
unfolding made
same_no a b is = ap made is

label_is : (a b : SwitchNo) → same_label a b ≡ true → a ≡ b
label_is a b is = same_no a b (eqb-true a.0 b.0 is)

pub look_is : (a b : Look) → same_look a b ≡ true → a ≡ b
look_is a b is =
    let with_form = and_parts (((same_option same_label a.of b.of && same_option same_kind a.kind b.kind) && (a.first == b.first)) && (a.last == b.last)) (same_bool a.json b.json) is in
    let with_last = and_parts ((same_option same_label a.of b.of && same_option same_kind a.kind b.kind) && (a.first == b.first)) (a.last == b.last) with_form.0 in
    let with_first = and_parts (same_option same_label a.of b.of && same_option same_kind a.kind b.kind) (a.first == b.first) with_last.0 in
    let named = and_parts (same_option same_label a.of b.of) (same_option same_kind a.kind b.kind) with_first.0 in
    parts_are a b (option_is same_label label_is a.of b.of named.0) (option_is same_kind same_word a.kind b.kind named.1) (eqb-true a.first b.first with_first.1)
    (eqb-true a.last b.last with_last.1) (truth_is a.json b.json with_form.1)
