-- The rule of the hosts is lawful.
use Rattle.pl_host_rule.specs.HostRule.{IsHostRule, host_rule}

pub host_rule_is_lawful : IsHostRule host_rule
host_rule_is_lawful view input after acts answer = (λ step. step, λ step. step)
