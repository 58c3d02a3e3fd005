-- What holds where an event is not refused.
use Rattle.std.proofs.Common.{Bool, false, if◌then◌else◌, nat_lt, None, Option, refl, Some, true, ℕ, ◌&&◌, ◌<◌, ◌==◌, ◌≡◌}
use Rattle.std.proofs.lemmas.Bool.{and_parts, ltb-true}
use Rattle.pl_wiring.specs.Plan.{Plan}
use Rattle.pl_wiring.specs.Labels.{switch_count}
use Rattle.pl_journal.specs.Places.{are_alike}
use Rattle.pl_world.specs.Refusals.{has_host, has_port, has_switch, is_for_hosts, refusal_of_move, refusal_of_place, refusal_of_queue}
use Rattle.pl_world.specs.declared.error.StepError.TheVariants.{AlreadySo, NoSuch, Occupied}
use Rattle.pl_world.specs.Worlds.{WorldView}
use Rattle.pl_world.specs.Changes.{host_at}

pub there_is : (there filled : Bool) → refusal_of_queue there filled ≡ None → there ≡ true
there_is true filled none = refl
there_is false filled none = absurd (cc)

pub port_exists : (plan : Plan) (s p : ℕ) → has_port plan s p ≡ true → (s < switch_count plan.k) × (p < plan.k)
port_exists plan s p e = let both = and_parts (has_switch plan s) (nat_lt p plan.k) e in
    (ltb-true s (switch_count plan.k) both.0, ltb-true p plan.k both.1)

pub port_within : (plan : Plan) (s port : ℕ) → has_port plan s port ≡ true → port < plan.k
port_within plan s port is = ltb-true port plan.k (and_parts (has_switch plan s) (nat_lt port plan.k) is).1

pub live_before : (b : Bool) → (if are_alike b false then Some AlreadySo else None) ≡ None → b ≡ true
live_before true fine = refl
live_before false fine = absurd (cc)

pub place_is_free : (w : WorldView) (h s p : ℕ) → refusal_of_move w h s p ≡ None → host_at w s p ≡ None
place_is_free w h s p = by (has_host w.plan h && is_for_hosts w.plan s p) (host_at w s p)
  where
    placed : (o : Option ℕ) → refusal_of_place h o ≡ None → o ≡ None
    placed None e = refl
    placed (Some k) e = absurd (either (k == h) e)
      where
        either : (b : Bool) → (if b then Some AlreadySo else Some Occupied) ≡ None → ⊥
        either true e = cc e
        either false e = cc e

    by : (b : Bool) (o : Option ℕ) → (if b then refusal_of_place h o else Some NoSuch) ≡ None → o ≡ None
    by true o e = placed o e
    by false o e = absurd (cc e)
