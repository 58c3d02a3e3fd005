-- What a fabric manager that begins anew is told of the addresses of an address table.
use Rattle.std.specs.Prelude.{ℕ, List, [], ◌∷◌, Option, Some, None}
use Rattle.pl_pmac.specs.declared.pmac.Pmac.{Pmac}
use Rattle.pl_node.specs.declared.messages.ToManager.{ToManager}
use Rattle.pl_node.specs.declared.switch_records.Grant.{Grant}
use Rattle.pl_switch_rule.specs.Reporting.{each_from, rest_reported, trap_reported, use_reported}
use Rattle.pl_migrate.specs.declared.reporting.Reported.{Reported}
use Rattle.pl_migrate.specs.declared.reporting.Reported.TheVariants.{InUse, Trapped, Resting}
use Rattle.pl_migrate.specs.AddressTables.{AddressTableView, address_in, grants_of}

-- of an address: where it is used as a report tells of in its turn
abbrev pub reported : Reported → Pmac → Grant → List ToManager
reported InUse x g = use_reported x g g.held
reported Trapped x g = trap_reported x g.held
reported Resting x g = rest_reported x g.held

-- where it was granted
abbrev pub reported_if : Reported → Pmac → Option Grant → List ToManager
reported_if which x None = []
reported_if which x (Some g) = reported which x g

-- of the addresses of a port, by rising vmid
abbrev pub port_reported : Reported → AddressTableView → ℕ → List ToManager
port_reported which table port = each_from (λ vmid g. reported which (address_in table port vmid) g) 1 (grants_of table port)

-- a word, or none
abbrev pub words_if : Option ToManager → List ToManager
words_if None = []
words_if (Some word) = word ∷ []
