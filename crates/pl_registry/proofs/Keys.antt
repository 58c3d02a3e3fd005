-- The keys of a table of pseudo addresses are compared field by field.
use Rattle.std.proofs.Common.{◌≡◌, ◌==◌, ◌&&◌, Bool, true, false, refl}
use Rattle.pl_pmac.specs.declared.pmac.Pmac.{Pmac}
use Rattle.pl_pmac.specs.contracts.pmac.PmacPartialEq.TheImpl.{eq-value}
use Rattle.pl_layouts.specs.Equality.{same_pmac}

grouped : (p q r s : Bool) → (p && (q && (r && s))) ≡ (((p && q) && r) && s)
grouped true true r s = refl
grouped true false r s = refl
grouped false q r s = refl

pub key_is : (a b : Pmac) → eq-value.it a b ≡ same_pmac a b
key_is a b = grouped (a.pod == b.pod) (a.position == b.position) (a.port == b.port) (a.vmid == b.vmid)

pub keys_are : eq-value.it ≡ same_pmac
keys_are = λ i a b. key_is a b i
