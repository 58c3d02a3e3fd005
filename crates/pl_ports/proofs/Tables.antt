-- The table of the records of all ports, of which a switch has the first k.
use Rattle.std.proofs.Common.{◌≡◌, ℕ, zero, suc, ◌<◌, List, [], ◌∷◌, length, map, take, replicate, get_or, set, refl, sym, subst, inl, inr}
use Rattle.std.proofs.lemmas.Bool.{cases_eq}
use Rattle.std.proofs.lemmas.List.{get_or-set_other, get_or-set_same}
use Rattle.pl_node.specs.declared.neighbour.PortRecord.{PortRecord}
use Rattle.pl_node.specs.PortRecords.{aged, new_port}
use Rattle.pl_node.proofs.Exports.{aged_at}
use Rattle.pl_ports.specs.SoundPorts.{AreSound, IsSoundRecord}

new_at : (n port : ℕ) → get_or (replicate n new_port) port new_port ≡ new_port
new_at zero port = refl
new_at (suc n) zero = refl
new_at (suc n) (suc port) = new_at n port

pub sound_new : (n : ℕ) → AreSound (replicate n new_port)
sound_new n port = subst IsSoundRecord (sym (new_at n port)) tt

pub sound_put : (records : List PortRecord) (port : ℕ) (r : PortRecord) → port < length records → IsSoundRecord r → AreSound records →
    AreSound (set records port r)
sound_put records port r within fits h other =
    elim (cases_eq other port) [
      | inl same ↦ subst (λ n. IsSoundRecord (get_or (set records port r) n new_port)) (sym same) (subst IsSoundRecord (sym (get_or-set_same records port r new_port within)) fits)
      | inr apart ↦ subst IsSoundRecord (sym (get_or-set_other records port other r new_port apart)) (h other)
    ]

pub sound_aged : (records : List PortRecord) → AreSound records → AreSound (map aged records)
sound_aged records h port = subst IsSoundRecord (sym (aged_at records port)) (h port)

-- a record of the first k
pub sound_first : (k : ℕ) (records : List PortRecord) → AreSound records → AreSound (take k records)
sound_first zero records h port = tt
sound_first (suc k) [] h port = tt
sound_first (suc k) (r ∷ rs) h zero = h 0
sound_first (suc k) (r ∷ rs) h (suc port) = sound_first k rs (λ n. h (suc n)) port
