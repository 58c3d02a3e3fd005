-- Tests that decide whether two records are the same.
use Rattle.std.proofs.Common.{◌≡◌, ℕ, ◌&&◌, ◌==◌, Bool, Option, Some, None, refl, sym, ◌∙◌, ap}
use Rattle.std.specs.Bool.{Decides}
use Rattle.std.specs.Option.{option_eq}
use Rattle.std.proofs.lemmas.Bool.Decides.{Decides-and, Decides-eqb}
use Rattle.pl_frame.specs.declared.address.SwitchId.{SwitchId}
use Rattle.pl_layouts.specs.declared.place.Place.{Place}
use Rattle.pl_node.specs.declared.neighbour.Neighbour.{Neighbour}

decides_as : {P Q : Type 0} (r : Bool) → Decides r P → (P → Q) → (Q → P) → Decides r Q
decides_as r decides there back = (λ yes. there (decides.0 yes), λ holds. decides.1 (back holds))

item : ℕ → ℕ → ℕ → SwitchId × ℕ × ℕ
item id pod position = (record { 0 = id }, pod, position)

pub item_decides : (a b : SwitchId × ℕ × ℕ) → Decides ((a.0.0 == b.0.0 && a.1 == b.1) && a.2 == b.2) (a ≡ b)
unfolding item
item_decides a b =
    decides_as ((a.0.0 == b.0.0 && a.1 == b.1) && a.2 == b.2)
    (Decides-and (a.0.0 == b.0.0 && a.1 == b.1) (a.2 == b.2)
    (Decides-and (a.0.0 == b.0.0) (a.1 == b.1) (Decides-eqb a.0.0 b.0.0) (Decides-eqb a.1 b.1)) (Decides-eqb a.2 b.2))
    (λ e. ap (λ n. item n a.1 a.2) e.0.0 ∙ ap (λ n. item b.0.0 n a.2) e.0.1 ∙ ap (λ n. item b.0.0 b.1 n) e.1)
    (λ e. ((ap (λ x. x.0.0) e, ap (λ x. x.1) e), ap (λ x. x.2) e))

option_decides : {X : Type 0} (eq : X → X → Bool) → ((a b : X) → Decides (eq a b) (a ≡ b)) → (a b : Option X) → Decides (option_eq eq a b) (a ≡ b)
option_decides eq each None None = (λ yes. refl, λ same. refl)
option_decides eq each None (Some b) = (λ yes. absurd (cc), λ same. absurd (cc))
option_decides eq each (Some a) None = (λ yes. absurd (cc), λ same. absurd (cc))
option_decides eq each (Some a) (Some b) = decides_as (eq a b) (each a b) (λ same. ap (λ x. Some x) same) (λ same. cc)

place : Option ℕ → Option ℕ → Option ℕ → Place
place level position pod = record { level = level; position = position; pod = pod }

abbrev same_parts : Place → Place → Bool
same_parts a b = option_eq ◌==◌ a.level b.level && (option_eq ◌==◌ a.position b.position && option_eq ◌==◌ a.pod b.pod)

place_decides : (a b : Place) → Decides (same_parts a b) (a ≡ b)
unfolding place
place_decides a b =
    decides_as (same_parts a b)
    (Decides-and (option_eq ◌==◌ a.level b.level) (option_eq ◌==◌ a.position b.position && option_eq ◌==◌ a.pod b.pod) (option_decides ◌==◌ Decides-eqb a.level b.level)
    (Decides-and (option_eq ◌==◌ a.position b.position) (option_eq ◌==◌ a.pod b.pod) (option_decides ◌==◌ Decides-eqb a.position b.position)
    (option_decides ◌==◌ Decides-eqb a.pod b.pod)))
    (λ e. ap (λ x. place x a.position a.pod) e.0 ∙ ap (λ x. place b.level x a.pod) e.1.0 ∙ ap (λ x. place b.level b.position x) e.1.1)
    (λ e. (ap (λ x. x.level) e, (ap (λ x. x.position) e, ap (λ x. x.pod) e)))

abbrev same_id : SwitchId → SwitchId → Bool
same_id a b = a.0 == b.0

id_decides : (a b : SwitchId) → Decides (same_id a b) (a ≡ b)
id_decides a b = decides_as (same_id a b) (Decides-eqb a.0 b.0) (λ e. ap (λ n. let x : SwitchId = record { 0 = n } in x) e) (λ e. ap (λ x. x.0) e)

neighbour : ℕ → Place → Option SwitchId → Neighbour
neighbour id at echo = record { id = record { 0 = id }; place = at; echo = echo }

pub neighbour_decides : (a b : Neighbour) → Decides (a.id.0 == b.id.0 && (same_parts a.place b.place && option_eq same_id a.echo b.echo)) (a ≡ b)
unfolding neighbour
neighbour_decides a b =
    decides_as (a.id.0 == b.id.0 && (same_parts a.place b.place && option_eq same_id a.echo b.echo))
    (Decides-and (a.id.0 == b.id.0) (same_parts a.place b.place && option_eq same_id a.echo b.echo) (Decides-eqb a.id.0 b.id.0)
    (Decides-and (same_parts a.place b.place) (option_eq same_id a.echo b.echo) (place_decides a.place b.place) (option_decides same_id id_decides a.echo b.echo)))
    (λ e. ap (λ n. neighbour n a.place a.echo) e.0 ∙ ap (λ x. neighbour b.id.0 x a.echo) e.1.0 ∙ ap (λ x. neighbour b.id.0 b.place x) e.1.1)
    (λ e. (ap (λ x. x.id.0) e, (ap (λ x. x.place) e, ap (λ x. x.echo) e)))

-- the record of a port is what the other end would announce, where a test of the two says so
pub decides_heard : (heard : Option Neighbour) (n a : Neighbour) (r : Bool) → heard ≡ Some n → Decides r (n ≡ a) → Decides r (heard ≡ Some a)
decides_heard heard n a r is decides =
    decides_as r decides (λ same. is ∙ ap (λ x. Some x) same) (λ same. let both : Some n ≡ Some a = sym is ∙ same in cc)
