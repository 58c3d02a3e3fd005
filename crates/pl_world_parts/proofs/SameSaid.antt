-- Whether two announcements are the same.
use Rattle.std.proofs.Common.{◌≡◌, ℕ, ◌&&◌, ◌==◌, Bool, true, false, Option, Some, None, IsTrue, refl, sym, ◌∙◌, ap}
use mathlib.Core.Bool.{beq}
use Rattle.std.specs.Option.{option_eq}
use Rattle.std.proofs.lemmas.Bool.Decides.{Decides-eqb}
use Rattle.pl_frame.specs.declared.address.SwitchId.{SwitchId}
use Rattle.pl_layouts.specs.declared.place.Place.{Place}
use Rattle.pl_world_parts.specs.declared.said.Said.{Said}

both : (a b : Bool) → IsTrue (a && b) → IsTrue a × IsTrue b
both true b told = (refl, told)
both false b told = absurd (cc)

same_flag : (a b : Bool) → IsTrue (beq a b) → a ≡ b
same_flag true true told = refl
same_flag true false told = absurd (cc)
same_flag false true told = absurd (cc)
same_flag false false told = refl

module _ {X : Type 0} (eq : X → X → Bool) (each : (a b : X) → IsTrue (eq a b) → a ≡ b) where
  same_option : (a b : Option X) → IsTrue (option_eq eq a b) → a ≡ b
  same_option None None told = refl
  same_option None (Some b) told = absurd (cc)
  same_option (Some a) None told = absurd (cc)
  same_option (Some a) (Some b) told = ap (λ x. Some x) (each a b told)

same_number : (a b : ℕ) → IsTrue (a == b) → a ≡ b
same_number a b told = (Decides-eqb a b).0 told

abbrev same_id : SwitchId → SwitchId → Bool
same_id a b = a.0 == b.0

id_of : ℕ → SwitchId
id_of n = record { 0 = n }

ids_same : (a b : SwitchId) → IsTrue (same_id a b) → a ≡ b
unfolding id_of
ids_same a b told = ap id_of (same_number a.0 b.0 told)

abbrev same_parts : Place → Place → Bool
same_parts a b = option_eq ◌==◌ a.level b.level && (option_eq ◌==◌ a.position b.position && option_eq ◌==◌ a.pod b.pod)

place_of : Option ℕ → Option ℕ → Option ℕ → Place
place_of level position pod = record { level = level; position = position; pod = pod }

same_place : (a b : Place) → IsTrue (same_parts a b) → a ≡ b
unfolding place_of
same_place a b told =
    let first = both (option_eq ◌==◌ a.level b.level) (option_eq ◌==◌ a.position b.position && option_eq ◌==◌ a.pod b.pod) told in
    let rest = both (option_eq ◌==◌ a.position b.position) (option_eq ◌==◌ a.pod b.pod) first.1 in
    ap (λ x. place_of x a.position a.pod) (same_option ◌==◌ same_number a.level b.level first.0)
    ∙ ap (λ x. place_of b.level x a.pod) (same_option ◌==◌ same_number a.position b.position rest.0)
    ∙ ap (λ x. place_of b.level b.position x) (same_option ◌==◌ same_number a.pod b.pod rest.1)

said_of : Bool → SwitchId → Place → ℕ → Option SwitchId → Said
said_of host id place direction echo = record { host = host; id = id; ldm = record { place = place; direction = direction; echo = echo } }

abbrev pub same_fields : Said → Said → Bool
same_fields a b =
    beq a.host b.host && (same_id a.id b.id
    && (same_parts a.ldm.place b.ldm.place && (a.ldm.direction == b.ldm.direction && option_eq same_id a.ldm.echo b.ldm.echo)))

pub same_said : (a b : Said) (r : Bool) → r ≡ same_fields a b → IsTrue r → a ≡ b
unfolding said_of
same_said a b r is told =
    let ldm : Bool = same_parts a.ldm.place b.ldm.place && (a.ldm.direction == b.ldm.direction && option_eq same_id a.ldm.echo b.ldm.echo) in
    let host = both (beq a.host b.host) (same_id a.id b.id && ldm) (sym is ∙ told) in
    let id = both (same_id a.id b.id) ldm host.1 in
    let place = both (same_parts a.ldm.place b.ldm.place) (a.ldm.direction == b.ldm.direction && option_eq same_id a.ldm.echo b.ldm.echo) id.1 in
    let rest = both (a.ldm.direction == b.ldm.direction) (option_eq same_id a.ldm.echo b.ldm.echo) place.1 in
    ap (λ x. said_of x a.id a.ldm.place a.ldm.direction a.ldm.echo) (same_flag a.host b.host host.0)
    ∙ ap (λ x. said_of b.host x a.ldm.place a.ldm.direction a.ldm.echo) (ids_same a.id b.id id.0)
    ∙ ap (λ x. said_of b.host b.id x a.ldm.direction a.ldm.echo) (same_place a.ldm.place b.ldm.place place.0)
    ∙ ap (λ n. said_of b.host b.id b.ldm.place n a.ldm.echo) (same_number a.ldm.direction b.ldm.direction rest.0)
    ∙ ap (λ x. said_of b.host b.id b.ldm.place b.ldm.direction x) (same_option same_id ids_same a.ldm.echo b.ldm.echo rest.1)
