-- Addresses age at each tick of their edge switch. A host that uses its address no more is probed, and in the end the address rests; so does one
-- whose trap has stood for long.
use Rattle.std.specs.Prelude.{ℕ, ◌+◌, ◌==◌, Bool, false, List, [], ◌∷◌, ◌++◌, map, Option, Some, None}
use Rattle.std.specs.List.{filter, flat_map}
use Rattle.pl_pmac.specs.declared.pmac.Pmac.{Pmac}
use Rattle.pl_node.specs.declared.acts.Act.{Act}
use Rattle.pl_node.specs.declared.acts.Act.TheVariants.{Tell}
use Rattle.pl_node.specs.declared.address_use.AddressUse.{AddressUse}
use Rattle.pl_node.specs.declared.address_use.AddressUse.TheVariants.{InUse, Trapped, Resting, Free}
use Rattle.pl_node.specs.declared.messages.ToManager.TheVariants.{Aged}
use Rattle.pl_node.specs.declared.switch_records.Grant.{Grant}
use Rattle.pl_node.specs.SwitchViews.{SwitchView}
use Rattle.pl_steps.specs.Steps.{SwitchStep, does, rests, ◌▹◌}
use Rattle.pl_switch_rule.specs.Granting.{granted, with_grant, without}
use Rattle.pl_switch_rule.specs.Messages.{probe_acts}

-- after so many ticks without a frame a host is probed, and after so many its address rests; a trap stands as long as that
abbrev pub ticks_to_probe : ℕ
ticks_to_probe = 270

abbrev pub ticks_to_rest : ℕ
ticks_to_rest = 300

-- one tick more since it was used, or since its trap was set
abbrev pub older : AddressUse → AddressUse
older (InUse idle) = InUse (idle + 1)
older (Trapped trap age) = Trapped trap (age + 1)
older (Resting number) = Resting number
older Free = Free

abbrev pub older_grant : Grant → Grant
older_grant grant = record grant { held = older grant.held }

abbrev pub with_older : SwitchView → SwitchView
with_older v = record v { grants = map (map older_grant) v.grants }

-- it was used so many ticks ago
abbrev pub is_idle_for : ℕ → AddressUse → Bool
is_idle_for ticks (InUse idle) = idle == ticks
is_idle_for ticks held = false

-- its trap was set so many ticks ago
abbrev pub is_trapped_for : ℕ → AddressUse → Bool
is_trapped_for ticks (Trapped trap age) = age == ticks
is_trapped_for ticks held = false

abbrev pub is_held_so : (AddressUse → Bool) → Option Grant → Bool
is_held_so test None = false
is_held_so test (Some grant) = test grant.held

-- the addresses whose hosts are to be probed at this tick, in the order of last use
abbrev pub to_probe : SwitchView → List Pmac
to_probe v = filter (λ x. is_held_so (is_idle_for ticks_to_probe) (granted v x)) v.used

abbrev pub probe_of : Pmac → Option Grant → List Act
probe_of address None = []
probe_of address (Some grant) = probe_acts address grant.amac grant.ip

abbrev pub probes_idle : SwitchView → List Act
probes_idle v = flat_map (λ x. probe_of x (granted v x)) (to_probe v)

-- those that are to rest: the ones in use, in the order of last use, and then those with a trap, in the order of setting
abbrev pub to_rest : SwitchView → List Pmac
to_rest v =
    filter (λ x. is_held_so (is_idle_for ticks_to_rest) (granted v x)) v.used
    ++ filter (λ x. is_held_so (is_trapped_for ticks_to_rest) (granted v x)) v.trapped

-- An address rests from then on. The manager is told the number of the trap behind which it aged, 0 where there was none.
abbrev pub comes_to_rest : SwitchView → Pmac → Grant → ℕ → SwitchStep
comes_to_rest v address grant number = record {
  view = record (with_grant v address (record grant { held = Resting number })) {
    used = without address v.used;
    trapped = without address v.trapped;
  };
  acts = Tell (Aged address number) ∷ [];
}

-- one that rests, or is free, stays as it is
abbrev pub ages_out_of : SwitchView → Pmac → Grant → AddressUse → SwitchStep
ages_out_of v address grant (InUse idle) = comes_to_rest v address grant 0
ages_out_of v address grant (Trapped trap age) = comes_to_rest v address grant trap.number
ages_out_of v address grant held = rests v

abbrev pub ages_out : Pmac → Option Grant → SwitchView → SwitchStep
ages_out address None v = rests v
ages_out address (Some grant) v = ages_out_of v address grant grant.held

-- and so each of these
unfoldable pub all_age_out : List Pmac → SwitchView → SwitchStep
all_age_out [] v = rests v
all_age_out (address ∷ addresses) v = ages_out address (granted v address) v ▹ all_age_out addresses

-- A tick: all are older; then hosts are probed, and then addresses rest.
abbrev pub ages : SwitchView → SwitchStep
ages v = does (with_older v) (probes_idle (with_older v)) ▹ (λ w. all_age_out (to_rest w) w)
