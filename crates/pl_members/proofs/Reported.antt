-- The groups of members that are told of.
use Rattle.std.proofs.Common.{◌≡◌, ℕ, ◌==◌, eqb, not, Bool, true, false, if◌then◌else◌, List, [], ◌∷◌, ◌++◌, map, Option, Some, None, refl, sym, ap, ◌∙◌, append_assoc}
use Rattle.std.specs.Option.{option_eq}
use Rattle.std.specs.List.Sorted.{IsStrictlySortedBy}
use Rattle.std.proofs.lemmas.Bool.{true≢false}
use Rattle.std.proofs.lemmas.List.{append-nil}
use Rattle.pl_node.specs.declared.acts.Act.{Act}
use Rattle.pl_node.specs.declared.acts.Act.TheVariants.{Tell}
use Rattle.pl_node.specs.declared.messages.ToManager.{ToManager}
use Rattle.pl_node.specs.declared.messages.ToManager.TheVariants as tell
use Rattle.pl_node.specs.declared.switch_records.Member.{Member}
use Rattle.pl_switch_rule.specs.Intake.{member_cmp}
use Rattle.pl_switch_rule.specs.Reporting.{each_told, groups_reported}
use Rattle.pl_members.proofs.Grouping.{apart_from, groups_behind, groups_come}

-- what is told of the groups that come behind a last one
abbrev pub told_behind : Option ℕ → List Member → List Act
told_behind last ms = each_told (map (λ group. tell.Members group true) (groups_behind last ms))

-- a group that is not the last one
pub told_next : (last : Option ℕ) (m : Member) (rest : List Member) (g : ℕ) (out told first : List Act) → g ≡ m.group → not (option_eq eqb last (Some g)) ≡ true →
    told ≡ out ++ Tell (tell.Members g true) ∷ [] → out ++ told_behind last (m ∷ rest) ≡ first → told ++ told_behind (Some g) rest ≡ first
told_next last m rest g out told first is new act before =
    ap (λ acts. acts ++ told_behind (Some g) rest) act
    ∙ append_assoc out (Tell (tell.Members g true) ∷ []) (told_behind (Some g) rest)
    ∙ ap (λ acts. out ++ acts) (sym (by last new))
    ∙ before
  where
    by : (o : Option ℕ) → not (option_eq eqb o (Some g)) ≡ true → told_behind o (m ∷ rest) ≡ Tell (tell.Members g true) ∷ told_behind (Some g) rest
    by None apart = ap (λ n. Tell (tell.Members n true) ∷ told_behind (Some n) rest) (sym is)
    by (Some k) apart =
        ap (λ b. each_told (map (λ group. tell.Members group true) (if b then groups_behind (Some k) rest else m.group ∷ groups_behind (Some m.group) rest)))
        (apart_from k m g is apart)
        ∙ ap (λ n. Tell (tell.Members n true) ∷ told_behind (Some n) rest) (sym is)

-- the last one again
pub told_again : (last : Option ℕ) (m : Member) (rest : List Member) (g : ℕ) (out first : List Act) → g ≡ m.group → not (option_eq eqb last (Some g)) ≡ false →
    out ++ told_behind last (m ∷ rest) ≡ first → out ++ told_behind last rest ≡ first
told_again None m rest g out first is same before = absurd (true≢false same)
told_again (Some k) m rest g out first is same before = elim (k == g) as (λ b. (k == g) ≡ b → not b ≡ false → out ++ told_behind (Some k) rest ≡ first) [
  | true ↦ λ e h.
      ap (λ b. out ++ each_told (map (λ group. tell.Members group true) (if b then groups_behind (Some k) rest else m.group ∷ groups_behind (Some m.group) rest)))
      (sym (ap (λ n. k == n) (sym is) ∙ e)) ∙ before
  | false ↦ λ e h. absurd (true≢false h)
] refl same

pub all_told : (items keys members : List Member) (out first : List Act) → out ++ told_behind None [] ≡ first ++ told_behind None items → items ≡ keys → keys ≡ members →
    IsStrictlySortedBy member_cmp keys → out ≡ first ++ each_told (groups_reported members)
all_told items keys members out first before shown seen rise =
    sym (append-nil out) ∙ before
    ∙ ap (λ ms. first ++ told_behind None ms) shown
    ∙ ap (λ groups. first ++ each_told (map (λ group. tell.Members group true) groups)) (sym (groups_come keys rise))
    ∙ ap (λ ms. first ++ each_told (groups_reported ms)) seen
