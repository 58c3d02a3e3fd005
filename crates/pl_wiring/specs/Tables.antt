-- The tables of a wiring: a link or a host by its port, and a host by its name.
use Rattle.std.specs.Prelude.{◌≡◌, ℕ, List, length, Option, String}
use Rattle.std.specs.HashMap.{HashMap, get_by_text}
use Rattle.std.specs.Global.{Global}
use Rattle.pl_wiring.specs.declared.link.Link.{Link}
use Rattle.pl_wiring.specs.declared.host.Host.{Host}
use Rattle.pl_wiring.specs.FatTree.{IsAt}
use Rattle.pl_wiring.specs.Plan.{IsAttachedAt}
use Rattle.pl_wiring.specs.Index.{IsIndex, look_at}

abbrev pub FindsLinks : ℕ → List (Option ℕ) → List Link → Type 0
FindsLinks k table links = IsIndex (look_at k table) (λ (l : Link) (key : ℕ × ℕ). IsAt l key.0 key.1) links (length links)

abbrev pub FindsHosts : ℕ → List (Option ℕ) → List Host → Type 0
FindsHosts k table hosts = IsIndex (look_at k table) (λ (h : Host) (key : ℕ × ℕ). IsAttachedAt h key.0 key.1) hosts (length hosts)

abbrev pub FindsNames : {S : Type 0} → HashMap (String Global) ℕ S → List Host → Type 0
FindsNames names hosts = IsIndex (get_by_text names) (λ (h : Host) (text : List ℕ). h.name ≡ text) hosts (length hosts)
